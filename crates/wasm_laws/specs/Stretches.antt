-- Stretches of a run: from one place to another, to a trap, or to the end of main.
use Rattle.std.specs.Prelude.{◌≡◌, ℕ, zero, suc, ◌+◌, List, ◌++◌}
use Rattle.wasm_form.specs.declared.module.Module.{Module}
use Rattle.wasm_form.specs.Steps.{Config, Next, Goes, step, run, Outcome, Ended, Trapped, Running, written_first}

-- what one step comes to
pub record Does (m : Module) (c : Config) (next : Next) : Type 0 where
  pub by : step m c ≡ next

-- k steps lead from c to d and write this
pub record Comes (m : Module) (k : ℕ) (text : List ℕ) (c d : Config) : Type 0 where
  pub by : (left done : ℕ) → run m (k + left) done c ≡ written_first text (run m left (done + k) d)

-- within k steps from c the run writes this and traps
pub record Falls (m : Module) (k : ℕ) (text : List ℕ) (code at : ℕ) (c : Config) : Type 0 where
  pub by : (left done : ℕ) → run m (k + left) done c ≡ (text, Trapped code at)

-- k steps from c leave main, and write this
pub record Stops (m : Module) (k : ℕ) (text : List ℕ) (c : Config) : Type 0 where
  pub by : (left done : ℕ) → run m (k + left) done c ≡ (text, Ended (done + k))

-- ---- several steps that write nothing

abbrev pub then_next : (Config → Next) → Next → Next
then_next more (Goes c) = more c
then_next more next = next

-- where so many steps lead that write nothing, or what the first of them comes to that does not go on so
abbrev pub steps : Module → ℕ → Config → Next
steps m zero c = Goes c
steps m (suc n) c = then_next (steps m n) (step m c)

pub record Leads (m : Module) (n : ℕ) (c : Config) (next : Next) : Type 0 where
  pub by : steps m n c ≡ next

-- ---- outputs and outcomes

-- the one list begins the other
abbrev pub Begins : List ℕ → List ℕ → Type 0
Begins xs ys = (rest : List ℕ) × (ys ≡ xs ++ rest)

-- it came to an end or to a trap
abbrev pub IsOver : Outcome → Type 0
IsOver (Ended steps) = Unit {0}
IsOver (Trapped code at) = Unit {0}
IsOver Running = ⊥
