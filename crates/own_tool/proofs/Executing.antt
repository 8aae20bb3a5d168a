-- From what a module came to, and what was said of it, to what `exec` answers.
use Rattle.std.proofs.Common.{◌≡◌, ◌≢◌, ℕ, ◌≤◌, ℤ, inl, inr, List, [], length, refl, sym, ap, subst, ◌∙◌}
use Rattle.std.specs.Prelude.{Result, Ok, Err, IfOk}
use Rattle.std.specs.declared.alloc.AllocError.{AllocError}
use Rattle.wasm_read.specs.declared.fault.ReadError.{ReadError}
use Rattle.wasm_read.specs.declared.fault.ReadError.TheVariants as error
use Rattle.wasm_read.specs.Answers as reading
use Rattle.wasm_read.specs.Answers.{IsRead, ReadsEach}
use Rattle.wasm_read.specs.Sections.{module_at}
use Rattle.own_tree.specs.declared.status.Status.{Status}
use Rattle.own_tree.specs.declared.status.Status.TheVariants as status
use Rattle.own_io.specs.Outside as outside
use Rattle.own_io.specs.Outside.{told_after, HasRisen}
use Rattle.wasm_form.specs.declared.module.Module.{Module}
use Rattle.wasm_form.specs.Bytes.{ModuleBytes}
use Rattle.wasm_form.specs.Steps.{Outcome, Ended, Trapped, Running, machine_run}
use Rattle.wasm_run.specs.declared.machine.Ran.{Ran}
use Rattle.wasm_run.specs.declared.machine.Ran.TheVariants as ran
use Rattle.wasm_run.specs.Runs.{RanAs}
use Rattle.own_tool.specs.declared.exec.Executed.{Executed}
use Rattle.own_tool.specs.declared.exec.Executed.TheVariants as executed
use Rattle.own_tool.specs.Texts.{memory_line, read_line, steps_line, exec_trap_line, bad_module_line, too_long_module_line}
use Rattle.own_tool.specs.Headline.{Told, IsContent, IsAnswered}
use Rattle.own_tool.specs.Exec.{MOST_MODULE_BYTES, IsNoModule, ExecAnswers}
use Rattle.own_tool.specs.Executed.{status_of, status_of_run, line_of, line_of_run, BytesCameTo, BytesComeTo, CameTo, IsToldOf}
use Rattle.own_tool.specs.Saying.{Said}
use Rattle.own_tool.proofs.Answering as answering

-- ---- bytes that were not read

never_read : (m : Module) (e : ReadError) → e ≢ error.Memory → IsRead m (Err e) → ⊥
never_read m (error.NotModule at) fault h = h
never_read m (error.OutsideProfile at what) fault h = h
never_read m (error.Limit which) fault h = h
never_read m error.NoMain fault h = h
never_read m error.Memory fault h = fault refl

pub unread_comes : (bytes : List ℕ) (steps : ℕ) (input : List ℤ) (e : ReadError) (r : Result Executed AllocError) (old : outside.Told) (faults : ℕ)
    → length bytes ≤ MOST_MODULE_BYTES → ReadsEach bytes (Err e) → reading.Answers bytes (Err e) (module_at bytes)
    → IfOk r (λ x. (x ≡ executed.Bad e) × (e ≢ error.Memory)) → BytesComeTo bytes steps input r old old faults faults
unread_comes bytes steps input e (Err a) old faults short each first h = refl
unread_comes bytes steps input e (Ok x) old faults short each first h =
    let none : IsNoModule bytes e = record { short = short; none = λ m spells. never_read m e h.1 (each m spells); fault = h.1; first = first } in
    subst (λ y. BytesCameTo bytes steps input y old old faults faults) (sym h.0) (refl, none)

-- ---- runs

pair_is : {A B : Type 0} (x : A × B) (b : B) → x.1 ≡ b → x ≡ (x.0, b)
pair_is x b e = ap (λ c. (x.0, c)) e

module _ (folder : Told) (faults : Type 0) (file : List ℕ) (steps : ℕ) (input : List ℤ) (count count' : ℕ) (faults_of_err : Type 0)
    (out out' err err' : outside.Told) (result : Status) (nothing : told_after out [] ≡ out) where
  abbrev Concludes : Type 0
  Concludes = IsAnswered (ExecAnswers folder faults file steps input) (HasRisen count count') faults_of_err out out' err err' result

  answered : (answer : Status) (gained line : List ℕ) → ExecAnswers folder faults file steps input answer gained line
      → out' ≡ told_after out gained → Said answer line result err err' faults_of_err → Concludes
  answered answer gained line = answering.answered (ExecAnswers folder faults file steps input) (HasRisen count count') faults_of_err answer gained line out out' err err' result

  unchanged : out' ≡ out → out' ≡ told_after out []
  unchanged same = same ∙ sym nothing

  -- memory was refused before anything was written
  pub without_memory : out' ≡ out → Said status.Memory memory_line result err err' faults_of_err → Concludes
  without_memory same s = answered status.Memory [] memory_line (refl, inl refl) (unchanged same) s

  module _ (bytes : List ℕ) (m : Module) (content : IsContent folder file bytes) (short : length bytes ≤ MOST_MODULE_BYTES) (spells : ModuleBytes bytes m) where
    -- the answer that the run has, with its whole output
    wanted : (outcome : Outcome) → (machine_run m input steps).1 ≡ outcome
        → (answer : Status) × (line : List ℕ) × ExecAnswers folder faults file steps input answer (machine_run m input steps).0 line
    wanted (Ended n) e = (status.Done, [], (n, (bytes, m, content, short, spells, pair_is (machine_run m input steps) _ e), refl))
    wanted (Trapped code at) e = (status.Trapped, exec_trap_line file code at, (code, at, (bytes, m, content, short, spells, pair_is (machine_run m input steps) _ e), refl))
    wanted Running e = (status.OutOfSteps, steps_line, ((bytes, m, content, short, spells, pair_is (machine_run m input steps) _ e), refl))

    -- a run, and what was said of it
    run_told : (r : Ran) → RanAs r out out' count count' (machine_run m input steps) → Said (status_of_run r) (line_of_run file r) result err err' faults_of_err → Concludes
    run_told (ran.Ended n) h s =
        answered status.Done (machine_run m input steps).0 [] (n, (bytes, m, content, short, spells, pair_is (machine_run m input steps) _ h.0), refl) h.1 s
    run_told (ran.Trapped code at) h s =
        answered status.Trapped (machine_run m input steps).0 (exec_trap_line file code at) (code, at, (bytes, m, content, short, spells, pair_is (machine_run m input steps) _ h.0), refl) h.1 s
    run_told ran.Running h s =
        answered status.OutOfSteps (machine_run m input steps).0 steps_line ((bytes, m, content, short, spells, pair_is (machine_run m input steps) _ h.0), refl) h.1 s
    run_told ran.SinkFault h s =
        let w = wanted (machine_run m input steps).1 refl in
        answering.cut_off (ExecAnswers folder faults file steps input) (HasRisen count count') faults_of_err w.0 (machine_run m input steps).0 h.1.0 w.1 out out' err err' result
        w.2 h.0 ((h.1.1, h.1.2), h.1.3) h.1.4 s

    -- memory was refused for the line, when the output stands
    run_untold : (r : Ran) → status_of_run r ≢ status.WriteFault → RanAs r out out' count count' (machine_run m input steps) → Said status.Memory memory_line result err err' faults_of_err → Concludes
    run_untold (ran.Ended n) whole h s =
        answered status.Memory (machine_run m input steps).0 memory_line (refl, inr (Ended n, (bytes, m, content, short, spells, pair_is (machine_run m input steps) _ h.0))) h.1 s
    run_untold (ran.Trapped code at) whole h s =
        answered status.Memory (machine_run m input steps).0 memory_line (refl, inr (Trapped code at, (bytes, m, content, short, spells, pair_is (machine_run m input steps) _ h.0))) h.1 s
    run_untold ran.Running whole h s =
        answered status.Memory (machine_run m input steps).0 memory_line (refl, inr (Running, (bytes, m, content, short, spells, pair_is (machine_run m input steps) _ h.0))) h.1 s
    run_untold ran.SinkFault whole h s = absurd (whole refl)

  told : (x : Executed) → CameTo folder faults file steps input x out out' count count' → Said (status_of x) (line_of file x) result err err' faults_of_err → Concludes
  told executed.ReadFault h s = answered status.ReadFault [] (read_line file) (h.1, refl, refl) (unchanged h.0) s
  told executed.TooLong h s = answered status.BadModule [] (too_long_module_line file) (refl, inr (h.1, refl)) (unchanged h.0) s
  told (executed.Bad e) h s = answered status.BadModule [] (bad_module_line file e) (refl, inl (h.1.0, e, h.1.1, h.1.2, refl)) (unchanged h.0) s
  told (executed.Ran r) h s = run_told h.0 h.3.0 h.1 h.2 h.3.1 r h.3.2 s

  untold : (x : Executed) → status_of x ≢ status.WriteFault → CameTo folder faults file steps input x out out' count count' → Said status.Memory memory_line result err err' faults_of_err → Concludes
  untold executed.ReadFault whole h s = without_memory h.0 s
  untold executed.TooLong whole h s = without_memory h.0 s
  untold (executed.Bad e) whole h s = without_memory h.0 s
  untold (executed.Ran r) whole h s = run_untold h.0 h.3.0 h.1 h.2 h.3.1 r whole h.3.2 s

  -- what a module came to, however it was said
  pub exec_concluded : (x : Executed) → CameTo folder faults file steps input x out out' count count' → IsToldOf file x result err err' faults_of_err → Concludes
  exec_concluded x h (inl s) = told x h s
  exec_concluded x h (inr s) = untold x s.0 h s.1
