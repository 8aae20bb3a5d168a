-- From what is said of a file with which nothing is done to what is answered.
use Rattle.std.proofs.Common.{◌≡◌, ℕ, inl, inr, List, [], refl}
use Rattle.own_tree.specs.declared.status.Status.{Status}
use Rattle.own_tree.specs.declared.status.Status.TheVariants as status
use Rattle.own_io.specs.Outside as outside
use Rattle.own_io.specs.Outside.{told_after}
use Rattle.own_tool.specs.declared.check.Declined.{Declined}
use Rattle.own_tool.specs.declared.check.Declined.TheVariants as declined
use Rattle.own_tool.specs.Texts.{memory_line, read_line, too_long_line}
use Rattle.own_tool.specs.Headline.{Told, Meaning, IsAnswered}
use Rattle.own_tool.specs.Declined.{status_of, line_of, IsDeclined, IsDeclinedSo, DeclinedAnswers}
use Rattle.own_tool.specs.Saying.{Said}
use Rattle.own_tool.proofs.Answering as answering

module _ (folder : Told) (failed : Type 0) (file : List ℕ) (faults_of_out faults_of_err : Type 0) (out err err' : outside.Told) (result : Status) (nothing : told_after out [] ≡ out) where
  abbrev Concludes : Meaning → Type 0
  Concludes means = IsAnswered means faults_of_out faults_of_err out out err err' result

  said_so : (answer : Status) (line : List ℕ) → DeclinedAnswers folder failed file answer [] line → Said answer line result err err' faults_of_err → Concludes (DeclinedAnswers folder failed file)
  said_so answer line h s = answering.said_alone (DeclinedAnswers folder failed file) faults_of_out faults_of_err answer line out err err' result nothing h s

  told : (why : Declined) → IsDeclined folder failed file why → Said (status_of why) (line_of file why) result err err' faults_of_err → Concludes (DeclinedAnswers folder failed file)
  told declined.ReadFault h s = said_so status.ReadFault (read_line file) (h, refl, refl) s
  told declined.TooLong h s = said_so status.Refused (too_long_line file) (refl, inr (h, refl)) s
  told (declined.Refused lines) h s = said_so status.Refused lines (refl, inl h) s
  told declined.Memory h s = said_so status.Memory memory_line (refl, refl) s

  declined_so : (why : Declined) → IsDeclined folder failed file why → IsDeclinedSo file why result err err' faults_of_err → Concludes (DeclinedAnswers folder failed file)
  declined_so why h (inl s) = told why h s
  declined_so why h (inr s) = said_so status.Memory memory_line (refl, refl) s

  -- whatever was to be done with the file
  pub declined_said : (means : Meaning) → ((answer : Status) (gained said : List ℕ) → DeclinedAnswers folder failed file answer gained said → means answer gained said)
      → (why : Declined) → IsDeclined folder failed file why → IsDeclinedSo file why result err err' faults_of_err → Concludes means
  declined_said means f why h s =
      answering.widened (DeclinedAnswers folder failed file) means faults_of_out faults_of_err out out err err' result f (declined_so why h s)
