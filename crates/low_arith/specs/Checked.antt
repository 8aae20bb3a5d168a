-- What it is for instructions to do an operation, by the steps of the machine.
use Rattle.std.specs.Prelude.{◌≡◌, ℕ, ◌+◌, ◌^◌, ◌<◌, ◌≤◌, Some, List, ◌∷◌, ◌++◌, length, ℤ, slice_get}
use Rattle.std.specs.Int.{w64, cast_signed, cast_unsigned}
use Rattle.own_tree.specs.declared.arithmetic.Arith.{Arith}
use Rattle.own_tree.specs.declared.arithmetic.Arith.TheVariants.{Neg}
use Rattle.wasm_form.specs.declared.instr.Instr.{Instr}
use Rattle.wasm_form.specs.declared.limits.TheConstants.{MOST_OPERANDS}
use Rattle.wasm_form.specs.declared.module.Module.{Module}
use Rattle.wasm_form.specs.declared.module.Import.{Import}
use Rattle.wasm_form.specs.declared.module.HostCall.TheVariants as host
use Rattle.wasm_form.specs.declared.types.Value.{Value}
use Rattle.wasm_form.specs.declared.types.Value.TheVariants.{I64}
use Rattle.wasm_form.specs.Steps.{Config, Next, Goes, Traps, below_all}
use Rattle.low_arith.specs.declared.places.TheConstants.{TRAP, MOST_STEPS, MOST_PUSHED}
use Rattle.own_ways.specs.Exact.{Exact, Gives, Fails, exact}
use Rattle.wasm_laws.specs.Places.{on}
use Rattle.wasm_laws.specs.Stretches.{steps}

-- ---- where the instructions stand

abbrev pub HasTrap : Module → Type 0
HasTrap m = (import : Import) × (slice_get m.imports TRAP ≡ Some import) × (import.call ≡ host.Trap)

-- a negation has the second operand alone
abbrev pub with_operands : Arith → ℕ → ℕ → List Value → List Value
with_operands Neg a b values = I64 b ∷ values
with_operands op a b values = I64 b ∷ I64 a ∷ values

-- the locals FIRST and SECOND hold any two numbers
abbrev pub locals_with : Value → ℕ → ℕ → List Value → List Value
locals_with base first second others = base ∷ I64 first ∷ I64 second ∷ others

-- the exact number is on the stack, or the machine traps with that code at that offset
abbrev pub met : Exact → ℕ → (ℤ → Config) → Next
met (Gives z) at after = Goes (after z)
met (Fails code) at after = Traps code at

-- ---- what they do

-- The instructions, with any others after them, take the operands, given by their bits, off the stack and put
-- what the operation gives on it, or trap. They change nothing else but the two locals.
pub record IsChecked (op : Arith) (at : ℕ) (code : List Instr) : Type 0 where
  pub does : (m : Module) (c : Config) (rest : List Instr) (values : List Value) (base : Value) (first second : ℕ) (others : List Value) (a b : ℕ)
      → HasTrap m → a < 2 ^ 64 → b < 2 ^ 64 → length values + below_all c.layers + MOST_PUSHED ≤ MOST_OPERANDS
      → (n first' second' : ℕ) × (n ≤ MOST_STEPS) × (steps m n (on c (code ++ rest) (with_operands op a b values) (locals_with base first second others))
      ≡ met (exact op (cast_signed w64 a) (cast_signed w64 b)) at (λ z. on c rest (I64 (cast_unsigned w64 z) ∷ values) (locals_with base first' second' others)))
