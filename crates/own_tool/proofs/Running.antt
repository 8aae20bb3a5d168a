-- From what the module of an accepted text came to, and what was said of it, to what `run` answers.
use Rattle.std.proofs.Common.{◌≡◌, ◌≢◌, ℕ, ℤ, inl, inr, List, [], Option, refl, sym, ap, subst, ◌∙◌}
use Rattle.std.specs.Prelude.{◌⊎◌, IsTrue, None, Result, Ok, Err}
use Rattle.own_tree.specs.declared.status.Status.{Status}
use Rattle.own_tree.specs.declared.status.Status.TheVariants as status
use Rattle.own_io.specs.Outside as outside
use Rattle.own_io.specs.Outside.{told_after, HasRisen}
use Rattle.wasm_form.specs.declared.module.Module.{Module}
use Rattle.wasm_form.specs.Bytes.{ModuleBytes}
use Rattle.wasm_form.specs.Steps.{Outcome, Ended, Trapped, Running, machine_run}
use Rattle.wasm_run.specs.declared.machine.Ran.{Ran}
use Rattle.wasm_run.specs.declared.machine.Ran.TheVariants as ran
use Rattle.wasm_run.specs.Runs.{RanAs}
use Rattle.own_tool.specs.declared.run.Unrun.{Unrun}
use Rattle.own_tool.specs.declared.run.Unrun.TheVariants as unrun
use Rattle.own_tool.specs.Texts.{memory_line, steps_line, trap_line}
use Rattle.own_tool.specs.Headline.{Told, Holding, IsUntouched, IsSaved, IsAnswered}
use Rattle.own_tool.specs.Check.{IsText}
use Rattle.own_tool.specs.Declined.{DeclinedAnswers}
use Rattle.own_tool.specs.Executed.{status_of_run}
use Rattle.own_tool.specs.Launched.{line_of_ran, BytesRan, HasRun, IsRanSaid, IsLaunchSaid}
use Rattle.own_tool.specs.Run.{RunAnswers}
use Rattle.own_tool.specs.Saying.{Said}
use Rattle.own_tool.proofs.Answering as answering

pair_is : {A B : Type 0} (x : A × B) (b : B) → x.1 ≡ b → x ≡ (x.0, b)
pair_is x b e = ap (λ c. (x.0, c)) e

module _ (folder : Told) (after : Holding) (failed : Type 0) (file : List ℕ) (saved : Option (List ℕ)) (steps : ℕ) (input : List ℤ) where
  module _ (text : List ℕ) (is : IsText folder file text) (count count' : ℕ) (faults_of_err : Type 0)
      (out out' err err' : outside.Told) (result : Status) (nothing : told_after out [] ≡ out) (nothing_said : told_after err [] ≡ err) where
    abbrev Concludes : Type 0
    Concludes = IsAnswered (RunAnswers folder after file saved steps input failed) (HasRisen count count') faults_of_err out out' err err' result

    answered : (answer : Status) (gained line : List ℕ) → RunAnswers folder after file saved steps input failed answer gained line
        → out' ≡ told_after out gained → Said answer line result err err' faults_of_err → Concludes
    answered answer gained line = answering.answered (RunAnswers folder after file saved steps input failed) (HasRisen count count') faults_of_err answer gained line out out' err err' result

    module _ (bytes : List ℕ) (m : Module) (spells : ModuleBytes bytes m) (kept : IsSaved folder after saved bytes) where
      -- the answer that the run has, with its whole output
      wanted : (outcome : Outcome) → (machine_run m input steps).1 ≡ outcome
          → (answer : Status) × (line : List ℕ) × RunAnswers folder after file saved steps input failed answer (machine_run m input steps).0 line
      wanted (Ended n) e = (status.Done, [], (text, n, (bytes, m, is, spells, pair_is (machine_run m input steps) _ e, kept), refl))
      wanted (Trapped code at) e = (status.Trapped, trap_line file text code at, (text, code, at, (bytes, m, is, spells, pair_is (machine_run m input steps) _ e, kept), refl))
      wanted Running e = (status.OutOfSteps, steps_line, (text, (bytes, m, is, spells, pair_is (machine_run m input steps) _ e, kept), refl))

      -- a run, and what was said of it
      run_told : (r : Ran) → RanAs r out out' count count' (machine_run m input steps) → Said (status_of_run r) (line_of_ran file text r) result err err' faults_of_err → Concludes
      run_told (ran.Ended n) h s =
          answered status.Done (machine_run m input steps).0 [] (text, n, (bytes, m, is, spells, pair_is (machine_run m input steps) _ h.0, kept), refl) h.1 s
      run_told (ran.Trapped code at) h s =
          answered status.Trapped (machine_run m input steps).0 (trap_line file text code at) (text, code, at, (bytes, m, is, spells, pair_is (machine_run m input steps) _ h.0, kept), refl) h.1 s
      run_told ran.Running h s =
          answered status.OutOfSteps (machine_run m input steps).0 steps_line (text, (bytes, m, is, spells, pair_is (machine_run m input steps) _ h.0, kept), refl) h.1 s
      run_told ran.SinkFault h s =
          let w = wanted (machine_run m input steps).1 refl in
          answering.cut_off (RunAnswers folder after file saved steps input failed) (HasRisen count count') faults_of_err w.0 (machine_run m input steps).0 h.1.0 w.1 out out' err err' result
          w.2 h.0 ((h.1.1, h.1.2), h.1.3) h.1.4 s

      -- memory was refused for the line, when the output stands
      run_untold : (r : Ran) → status_of_run r ≢ status.WriteFault → RanAs r out out' count count' (machine_run m input steps) → Said status.Memory memory_line result err err' faults_of_err → Concludes
      run_untold (ran.Ended n) whole h s =
          answered status.Memory (machine_run m input steps).0 memory_line (refl, inr (text, Ended n, (bytes, m, is, spells, pair_is (machine_run m input steps) _ h.0, kept))) h.1 s
      run_untold (ran.Trapped code at) whole h s =
          answered status.Memory (machine_run m input steps).0 memory_line (refl, inr (text, Trapped code at, (bytes, m, is, spells, pair_is (machine_run m input steps) _ h.0, kept))) h.1 s
      run_untold ran.Running whole h s =
          answered status.Memory (machine_run m input steps).0 memory_line (refl, inr (text, Running, (bytes, m, is, spells, pair_is (machine_run m input steps) _ h.0, kept))) h.1 s
      run_untold ran.SinkFault whole h s = absurd (whole refl)

      run_said : (r : Ran) → RanAs r out out' count count' (machine_run m input steps) → IsRanSaid file text r result err err' faults_of_err → Concludes
      run_said r h (inl s) = run_told r h s
      run_said r h (inr s) = run_untold r s.0 h s.1

    -- what the module came to, however it was said
    pub launch_said : (launched : Result Ran Unrun) → HasRun folder after failed saved steps input launched out out' count count'
        → IsLaunchSaid file text launched result err err' faults_of_err → Concludes
    launch_said (Ok r) h s = run_said h.0 h.1.1.0 h.1.1.1 h.1.0 r h.1.1.2 s
    launch_said (Err unrun.Memory) h s = answered status.Memory [] memory_line (refl, inl (refl, h.1.1)) (h.1.0 ∙ sym nothing) s
    launch_said (Err unrun.SaveFailed) h s =
        answering.unsaid (RunAnswers folder after file saved steps input failed) (HasRisen count count') faults_of_err out out' err err' result nothing nothing_said
        (h.1.1, refl, refl) h.1.0 s.1 s.0

  moved : (failed' : Type 0) → (failed' → failed) → (answer : Status) (gained said : List ℕ)
      → RunAnswers folder after file saved steps input failed' answer gained said → RunAnswers folder after file saved steps input failed answer gained said
  moved failed' since status.Done gained said h = h
  moved failed' since status.Refused gained said h = h
  moved failed' since status.Usage gained said h = h
  moved failed' since status.Trapped gained said h = h
  moved failed' since status.OutOfSteps gained said h = h
  moved failed' since status.Memory gained said h = h
  moved failed' since status.ReadFault gained said h = ((unread h.0.0, h.0.1, h.0.2), h.1)
    where
      unread : failed' ⊎ (IsTrue folder.tells × (folder.held file ≡ None)) → failed ⊎ (IsTrue folder.tells × (folder.held file ≡ None))
      unread (inl f) = inl (since f)
      unread (inr h) = inr h
  moved failed' since status.WriteFault gained said h = (since h.0, h.1, h.2)
  moved failed' since status.BadModule gained said h = h

  -- an accepted text, when the folder had given it
  pub accepted_ran : (given : Told) (failed' faults_of_out faults_of_err : Type 0) (out out' err err' : outside.Told) (result : Status) → given ≡ folder → (failed' → failed)
      → IsAnswered (RunAnswers given after file saved steps input failed') faults_of_out faults_of_err out out' err err' result
      → IsAnswered (RunAnswers folder after file saved steps input failed) faults_of_out faults_of_err out out' err err' result
  accepted_ran given failed' faults_of_out faults_of_err out out' err err' result same since a =
      answering.widened (RunAnswers given after file saved steps input failed') (RunAnswers folder after file saved steps input failed) faults_of_out faults_of_err out out' err err' result
      (λ answer gained said h. moved failed' since answer gained said (subst (λ f. RunAnswers f after file saved steps input failed' answer gained said) same h)) a

  -- a file that is declined
  pub declined_ran : IsUntouched folder after → (answer : Status) (gained said : List ℕ) → DeclinedAnswers folder failed file answer gained said → RunAnswers folder after file saved steps input failed answer gained said
  declined_ran untouched status.Refused gained said h = (h, untouched)
  declined_ran untouched status.Memory gained said h = (h.1, inl (h.0, untouched))
  declined_ran untouched status.ReadFault gained said h = (h, untouched)
  declined_ran untouched status.Done gained said h = absurd h
  declined_ran untouched status.Usage gained said h = h
  declined_ran untouched status.Trapped gained said h = absurd h
  declined_ran untouched status.OutOfSteps gained said h = absurd h
  declined_ran untouched status.WriteFault gained said h = absurd h
  declined_ran untouched status.BadModule gained said h = h
