-- From what came of an accepted text to what `build` answers.
use Rattle.std.proofs.Common.{◌≡◌, ℕ, List, [], Some, refl, subst}
use Rattle.own_tree.specs.declared.status.Status.{Status}
use Rattle.own_tree.specs.declared.status.Status.TheVariants as status
use Rattle.std.specs.Prelude.{Err}
use Rattle.own_io.specs.declared.folder.SaveError.{SaveError}
use Rattle.own_io.specs.declared.folder.SaveError.TheVariants as save
use Rattle.own_io.specs.Folder.{OnSaveFailed, OnSaveMemory}
use Rattle.own_io.specs.Outside as outside
use Rattle.own_io.specs.Outside.{told_after}
use Rattle.own_tool.specs.declared.build.Made.{Made}
use Rattle.own_tool.specs.Texts.{memory_line}
use Rattle.own_tool.specs.Headline.{Told, Holding, IsUntouched, IsSaved, IsAnswered}
use Rattle.own_tool.specs.Build.{BuildAnswers}
use Rattle.own_tool.specs.Check.{IsText}
use Rattle.own_tool.specs.Declined.{DeclinedAnswers}
use Rattle.own_tool.specs.Delivered.{IsMade, AcceptedAnswers}
use Rattle.own_tool.specs.Saying.{Said}
use Rattle.own_tool.proofs.Answering as answering

-- what a folder says of a failed save
pub save_failed : (e : SaveError) (P : Type 0) → e ≡ save.Failed → OnSaveFailed (Err e) P → P
save_failed e P is h = subst (λ x. OnSaveFailed (Err x) P) is h

pub save_refused : (e : SaveError) (P : Type 0) → e ≡ save.Memory → OnSaveMemory (Err e) P → P
save_refused e P is h = subst (λ x. OnSaveMemory (Err x) P) is h

module _ (folder : Told) (after : Holding) (failed : Type 0) (saved : List ℕ) (faults_of_out faults_of_err : Type 0) where
  -- a module that was saved
  pub delivered : (made : Made) (out out' err : outside.Told) (result : Status) → told_after err [] ≡ err → IsMade made → IsSaved folder after (Some saved) made.bytes
      → Said status.Done made.line result out out' faults_of_out → IsAnswered (AcceptedAnswers folder after failed saved) faults_of_out faults_of_err out out' err err result
  delivered made out out' err result nothing is kept s =
      answering.put_out (AcceptedAnswers folder after failed saved) faults_of_out faults_of_err status.Done made.line out out' err result nothing (made.bytes, is.0, kept, is.1, refl) s

  -- one that could not be saved
  pub not_delivered : (out err : outside.Told) → told_after out [] ≡ out → told_after err [] ≡ err → failed
      → IsAnswered (AcceptedAnswers folder after failed saved) faults_of_out faults_of_err out out err err status.WriteFault
  not_delivered out err nothing nothing_said fault =
      answering.unsaid (AcceptedAnswers folder after failed saved) faults_of_out faults_of_err out out err err status.WriteFault nothing nothing_said (fault, refl, refl) refl refl refl

  -- memory was refused
  pub not_made : (out err err' : outside.Told) (result : Status) → told_after out [] ≡ out → IsUntouched folder after → Said status.Memory memory_line result err err' faults_of_err
      → IsAnswered (AcceptedAnswers folder after failed saved) faults_of_out faults_of_err out out err err' result
  not_made out err err' result nothing untouched s =
      answering.said_alone (AcceptedAnswers folder after failed saved) faults_of_out faults_of_err status.Memory memory_line out err err' result nothing (refl, refl, untouched) s

module _ (folder : Told) (after : Holding) (failed : Type 0) (file saved : List ℕ) where
  accepted_builds : (text : List ℕ) (failed' : Type 0) → (failed' → failed) → IsText folder file text → (answer : Status) (gained said : List ℕ)
      → AcceptedAnswers folder after failed' saved answer gained said → BuildAnswers folder after failed file saved answer gained said
  accepted_builds text failed' since is status.Done gained said h = (text, h.0, h.1, is, h.2, h.3, h.4)
  accepted_builds text failed' since is status.Refused gained said h = absurd h
  accepted_builds text failed' since is status.Usage gained said h = h
  accepted_builds text failed' since is status.Trapped gained said h = h
  accepted_builds text failed' since is status.OutOfSteps gained said h = h
  accepted_builds text failed' since is status.Memory gained said h = h
  accepted_builds text failed' since is status.ReadFault gained said h = absurd h
  accepted_builds text failed' since is status.WriteFault gained said h = (since h.0, h.1, h.2)
  accepted_builds text failed' since is status.BadModule gained said h = h

  -- an accepted text, when the folder had given it
  pub accepted_built : (given : Told) (text : List ℕ) (failed' faults_of_out faults_of_err : Type 0) (out out' err err' : outside.Told) (result : Status) → given ≡ folder → (failed' → failed) → IsText folder file text
      → IsAnswered (AcceptedAnswers given after failed' saved) faults_of_out faults_of_err out out' err err' result → IsAnswered (BuildAnswers folder after failed file saved) faults_of_out faults_of_err out out' err err' result
  accepted_built given text failed' faults_of_out faults_of_err out out' err err' result same since is a =
      answering.widened (AcceptedAnswers given after failed' saved) (BuildAnswers folder after failed file saved) faults_of_out faults_of_err out out' err err' result
      (λ answer gained said h. accepted_builds text failed' since is answer gained said (subst (λ f. AcceptedAnswers f after failed' saved answer gained said) same h)) a

  -- a file that is declined
  pub declined_built : IsUntouched folder after → (answer : Status) (gained said : List ℕ) → DeclinedAnswers folder failed file answer gained said → BuildAnswers folder after failed file saved answer gained said
  declined_built untouched status.Refused gained said h = (h, untouched)
  declined_built untouched status.Memory gained said h = (h.0, h.1, untouched)
  declined_built untouched status.ReadFault gained said h = (h, untouched)
  declined_built untouched status.Done gained said h = absurd h
  declined_built untouched status.Usage gained said h = h
  declined_built untouched status.Trapped gained said h = h
  declined_built untouched status.OutOfSteps gained said h = h
  declined_built untouched status.WriteFault gained said h = absurd h
  declined_built untouched status.BadModule gained said h = h
