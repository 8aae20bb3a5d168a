-- What it is for a module to follow a core, in both directions.
use Rattle.std.specs.Prelude.{◌≡◌, ℕ, ◌*◌, ◌≤◌, ℤ, List}
use Rattle.wasm_form.specs.declared.module.Module.{Module}
use Rattle.wasm_form.specs.Steps.{machine_run, Outcome, Ended, Trapped}
use Rattle.own_ways.specs.Ways.{Way, gives, traps, stops, errs, strays}
use Rattle.core_form.specs.CoreSource.{CoreProgram}
use Rattle.core_form.specs.CoreRun.{State, core_run}
use Rattle.core_form.specs.Sizes.{AreInts}
use Rattle.core_form.specs.declared.limits.TheConstants.{STEPS}
use Rattle.wasm_laws.specs.Stretches.{Begins, IsOver}

-- how many forms a run of the core counted
abbrev pub counted_forms : Way State (Unit {0}) → ℕ
counted_forms (gives u t) = t.forms
counted_forms (traps code place t) = t.forms
counted_forms (stops t) = t.forms
counted_forms (errs t) = 0
counted_forms (strays t) = 0

-- the machine did what the core did, and of a run that was cut it has the output
abbrev pub Forwards : Way State (Unit {0}) → List ℕ × Outcome → Type 0
Forwards (gives u t) r = (steps : ℕ) × (r ≡ (t.log, Ended steps))
Forwards (traps code place t) r = r ≡ (t.log, Trapped code place)
Forwards (stops t) r = Begins t.log r.0
Forwards (errs t) r = Unit {0}
Forwards (strays t) r = Unit {0}

-- the output of the machine begins that of the core
abbrev pub IsPrefix : Way State (Unit {0}) → List ℕ × Outcome → Type 0
IsPrefix (gives u t) r = Begins r.0 t.log
IsPrefix (traps code place t) r = Begins r.0 t.log
IsPrefix (stops t) r = Begins r.0 t.log
IsPrefix (errs t) r = Unit {0}
IsPrefix (strays t) r = Unit {0}

-- the outcome of a machine that is over is that of the core
abbrev pub Agrees : Way State (Unit {0}) → List ℕ × Outcome → Type 0
Agrees (gives u t) r = (r.0 ≡ t.log) × ((steps : ℕ) × (r.1 ≡ Ended steps))
Agrees (traps code place t) r = r ≡ (t.log, Trapped code place)
Agrees (stops t) r = ⊥
Agrees (errs t) r = Unit {0}
Agrees (strays t) r = Unit {0}

-- With so many turns of the core: after as many steps the machine is not ahead, after STEPS for each form that was
-- counted it is not behind, and where it is over after as many steps, the core came out so.
pub record FollowsRun (m : Module) (c : CoreProgram) (input : List ℤ) (turns : ℕ) : Type 0 where
  pub not_ahead : IsPrefix (core_run c input turns) (machine_run m input turns)
  pub not_behind : (n : ℕ) → STEPS * counted_forms (core_run c input turns) ≤ n
      → Forwards (core_run c input turns) (machine_run m input n)
  pub agrees : IsOver (machine_run m input turns).1 → Agrees (core_run c input turns) (machine_run m input turns)

-- A module does what a core does, for each input of Ints and with any number of turns. Of a run of the core that strays
-- nothing is said.
abbrev pub Follows : Module → CoreProgram → Type 0
Follows m c = (input : List ℤ) → AreInts input → (turns : ℕ) → FollowsRun m c input turns
