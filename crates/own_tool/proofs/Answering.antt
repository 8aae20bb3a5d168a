-- From a meaning and its line, whole or cut short, to an answer.
use Rattle.std.proofs.Common.{◌≡◌, ◌∙◌, ℕ, ◌<◌, inl, inr, List, [], length, take, drop, refl, sym, subst, arith}
use Rattle.std.proofs.lemmas.List.{take-append-drop, length-take-le}
use Rattle.own_tree.specs.declared.status.Status.{Status}
use Rattle.own_tree.specs.declared.status.Status.TheVariants as status
use Rattle.own_io.specs.Outside as outside
use Rattle.own_io.specs.Outside.{told_after}
use Rattle.own_tool.specs.Headline.{IsProperPrefix, Meaning, WholeOrCut, IsAnswered}
use Rattle.own_tool.specs.Saying.{Said}

-- a line that a failed write cut short
pub take_is_front : (xs : List ℕ) (k : ℕ) → k < length xs → IsProperPrefix (take k xs) xs
take_is_front xs k short = ((drop k xs, sym (take-append-drop k xs)), omega (arith, length-take-le k xs))

pub cut_short : (answer : Status) (line : List ℕ) (k : ℕ) (old new : outside.Told) (faults : Type 0) → k < length line → new ≡ told_after old (take k line) → faults → Said answer line status.WriteFault old new faults
cut_short answer line k old new faults short part fault = inr (refl, fault, take k line, take_is_front line k short, part)

module _ (means : Meaning) (faults_of_out faults_of_err : Type 0) where
  -- an answer whose line was said whole
  whole : (answer : Status) (gained said : List ℕ) → means answer gained said → WholeOrCut means faults_of_out faults_of_err answer gained said
  whole status.Done gained said h = h
  whole status.Refused gained said h = h
  whole status.Usage gained said h = h
  whole status.Trapped gained said h = h
  whole status.OutOfSteps gained said h = h
  whole status.Memory gained said h = h
  whole status.ReadFault gained said h = h
  whole status.WriteFault gained said h = inl h
  whole status.BadModule gained said h = h

  -- an answer, and its line whole or cut short
  pub answered : (answer : Status) (gained line : List ℕ) (out out' err err' : outside.Told) (result : Status) → means answer gained line
      → out' ≡ told_after out gained → Said answer line result err err' faults_of_err → IsAnswered means faults_of_out faults_of_err out out' err err' result
  answered answer gained line out out' err err' result h k (inl s) =
      (gained, line, k, s.1, let P : Status → Type 0 = λ r. WholeOrCut means faults_of_out faults_of_err r gained line in subst P (sym s.0) (whole answer gained line h))
  answered answer gained line out out' err err' result h k (inr s) =
      (gained, s.2, k, s.4, let P : Status → Type 0 = λ r. WholeOrCut means faults_of_out faults_of_err r gained s.2 in subst P (sym s.0) (inr (answer, gained, line, h, inr (s.1, refl, s.3))))

  -- an answer whose line alone was written
  pub said_alone : (answer : Status) (line : List ℕ) (out err err' : outside.Told) (result : Status) → told_after out [] ≡ out → means answer [] line
      → Said answer line result err err' faults_of_err → IsAnswered means faults_of_out faults_of_err out out err err' result
  said_alone answer line out err err' result nothing h s = answered answer [] line out out err err' result h (sym nothing) s

  -- an answer whose line is the whole output, whole or cut short
  pub put_out : (answer : Status) (line : List ℕ) (out out' err : outside.Told) (result : Status) → told_after err [] ≡ err → means answer line []
      → Said answer line result out out' faults_of_out → IsAnswered means faults_of_out faults_of_err out out' err err result
  put_out answer line out out' err result nothing h (inl s) =
      (line, [], s.1, sym nothing, let P : Status → Type 0 = λ r. WholeOrCut means faults_of_out faults_of_err r line [] in subst P (sym s.0) (whole answer line [] h))
  put_out answer line out out' err result nothing h (inr s) =
      (s.2, [], s.4, sym nothing, let P : Status → Type 0 = λ r. WholeOrCut means faults_of_out faults_of_err r s.2 [] in subst P (sym s.0) (inr (answer, line, [], h, inl (s.1, s.3, refl))))

  -- a failed save, after which nothing is said
  pub unsaid : (out out' err err' : outside.Told) (result : Status) → told_after out [] ≡ out → told_after err [] ≡ err → means status.WriteFault [] []
      → out' ≡ out → err' ≡ err → result ≡ status.WriteFault → IsAnswered means faults_of_out faults_of_err out out' err err' result
  unsaid out out' err err' result nothing nothing_said h same same_said is =
      ([], [], same ∙ sym nothing, same_said ∙ sym nothing_said, let P : Status → Type 0 = λ r. WholeOrCut means faults_of_out faults_of_err r [] [] in subst P (sym is) (inl h))

  -- after a fault of the output nothing is said
  pub cut_off : (answer : Status) (wanted gained line : List ℕ) (out out' err err' : outside.Told) (result : Status) → means answer wanted line
      → faults_of_out → IsProperPrefix gained wanted → out' ≡ told_after out gained → Said status.WriteFault [] result err err' faults_of_err
      → IsAnswered means faults_of_out faults_of_err out out' err err' result
  cut_off answer wanted gained line out out' err err' result h fault front k (inl s) =
      (gained, [], k, s.1, let P : Status → Type 0 = λ r. WholeOrCut means faults_of_out faults_of_err r gained [] in subst P (sym s.0) (inr (answer, wanted, line, h, inl (fault, front, refl))))
  cut_off answer wanted gained line out out' err err' result h fault front k (inr s) = absurd (omega (arith, s.3.1))

-- what is meant so is meant otherwise too
pub widened : (means other : Meaning) (faults_of_out faults_of_err : Type 0) (out out' err err' : outside.Told) (result : Status)
    → ((answer : Status) (gained said : List ℕ) → means answer gained said → other answer gained said)
    → IsAnswered means faults_of_out faults_of_err out out' err err' result → IsAnswered other faults_of_out faults_of_err out out' err err' result
widened means other faults_of_out faults_of_err out out' err err' result f a = (a.0, a.1, a.2, a.3, go result a.4)
  where
    go : (r : Status) → WholeOrCut means faults_of_out faults_of_err r a.0 a.1 → WholeOrCut other faults_of_out faults_of_err r a.0 a.1
    go status.Done h = f status.Done a.0 a.1 h
    go status.Refused h = f status.Refused a.0 a.1 h
    go status.Usage h = f status.Usage a.0 a.1 h
    go status.Trapped h = f status.Trapped a.0 a.1 h
    go status.OutOfSteps h = f status.OutOfSteps a.0 a.1 h
    go status.Memory h = f status.Memory a.0 a.1 h
    go status.ReadFault h = f status.ReadFault a.0 a.1 h
    go status.WriteFault (inl h) = inl (f status.WriteFault a.0 a.1 h)
    go status.WriteFault (inr h) = inr (h.0, h.1, h.2, f h.0 h.1 h.2 h.3, h.4)
    go status.BadModule h = f status.BadModule a.0 a.1 h
