-- From what is said of a file that was checked to what `check` answers.
use Rattle.std.proofs.Common.{◌≡◌, ℕ, ◌≤◌, ◌<◌, inl, inr, List, [], length, refl, arith}
use Rattle.std.specs.Prelude.{Result, Ok, Err, IfOk}
use Rattle.std.specs.declared.alloc.AllocError.{AllocError}
use Rattle.own_tree.specs.declared.finding.Finding.{Finding}
use Rattle.own_tree.specs.declared.refusal.Refusal.{Refusal}
use Rattle.own_tree.specs.declared.status.Status.{Status}
use Rattle.own_tree.specs.declared.status.Status.TheVariants as status
use Rattle.own_tree.specs.TypedSource.{Program}
use Rattle.own_shapes.specs.Types.{Types}
use Rattle.own_report.specs.Refusals.{refusal_line}
use Rattle.own_report.specs.Findings.{finding_lines}
use Rattle.own_io.specs.Outside as outside
use Rattle.own_io.specs.Outside.{told_after}
use Rattle.own_tool.specs.Texts.{accepted_line}
use Rattle.own_tool.specs.Headline.{Told, IsAnswered}
use Rattle.own_tool.specs.Check.{AreRefusals, IsText, CheckAnswers}
use Rattle.own_tool.specs.Declined.{DeclinedAnswers}
use Rattle.own_tool.specs.Saying.{Said}
use Rattle.own_tool.proofs.Answering as answering

-- the line of a refusal
pub refusal_said : (file text : List ℕ) (refused : Refusal) (r : Result (List ℕ) AllocError) → length text ≤ 1048576
    → (length text < 4294967295 → IfOk r (λ line. line ≡ refusal_line file text refused)) → IfOk r (AreRefusals file text)
refusal_said file text refused (Ok line) short h = inl (refused, h (omega (arith, short)))
refusal_said file text refused (Err e) short h = tt

-- the lines of findings
pub found_said : (file text : List ℕ) (types : Types) (program : Program) (findings : List Finding) (r : Result (List ℕ) AllocError) → length text ≤ 1048576
    → (length text < 4294967295 → IfOk r (λ lines. lines ≡ finding_lines file text types program findings)) → IfOk r (AreRefusals file text)
found_said file text types program findings (Ok lines) short h = inr (types, program, findings, h (omega (arith, short)))
found_said file text types program findings (Err e) short h = tt

module _ (folder : Told) (failed : Type 0) (file : List ℕ) where
  -- a text that is accepted
  pub accepted_said : (faults_of_out faults_of_err : Type 0) (text : List ℕ) (out out' err : outside.Told) (result : Status) → told_after err [] ≡ err → IsText folder file text
      → Said status.Done accepted_line result out out' faults_of_out → IsAnswered (CheckAnswers folder failed file) faults_of_out faults_of_err out out' err err result
  accepted_said faults_of_out faults_of_err text out out' err result nothing is s =
      answering.put_out (CheckAnswers folder failed file) faults_of_out faults_of_err status.Done accepted_line out out' err result nothing ((text, is), refl, refl) s

  -- a file that is declined
  pub declined_checked : (answer : Status) (gained said : List ℕ) → DeclinedAnswers folder failed file answer gained said → CheckAnswers folder failed file answer gained said
  declined_checked status.Refused gained said h = h
  declined_checked status.Memory gained said h = h
  declined_checked status.ReadFault gained said h = h
  declined_checked status.Done gained said h = absurd h
  declined_checked status.Usage gained said h = h
  declined_checked status.Trapped gained said h = h
  declined_checked status.OutOfSteps gained said h = h
  declined_checked status.WriteFault gained said h = h
  declined_checked status.BadModule gained said h = h
