-- What a step does in the instructions of an operation, which has two locals of its own and a call of the trap.
use Rattle.std.proofs.Common.{◌≡◌, ℕ, suc, ◌+◌, ◌<◌, ◌≤◌, None, List, [], ◌∷◌, length, refl, arith}
use Rattle.wasm_form.specs.declared.instr.Instr.{Instr}
use Rattle.wasm_form.specs.declared.instr.Instr.TheVariants as i
use Rattle.wasm_form.specs.declared.limits.TheConstants.{MOST_OPERANDS}
use Rattle.wasm_form.specs.declared.module.Module.{Module}
use Rattle.wasm_form.specs.declared.types.Value.{Value}
use Rattle.wasm_form.specs.declared.types.Value.TheVariants.{I32, I64}
use Rattle.wasm_form.specs.Steps.{Config, Next, Goes, Traps, Label, below_all}
use Rattle.wasm_laws.specs.Places.{on}
use Rattle.wasm_laws.specs.Stretches.{Does, Leads}
use Rattle.wasm_laws.proofs.Stretches.{leads, fails}
use Rattle.wasm_laws.proofs.Opcodes.{gets, sets, tees, puts32, chooses, leaves, gives_up}
use Rattle.low_arith.specs.Checked.{locals_with, HasTrap}
use Rattle.low_arith.specs.Code.{trap_if}

-- inside an if
abbrev pub inside : List Value → List Instr → Config → Config
inside values after c = record c { layers = Label values None after after ∷ c.layers }

module _ (m : Module) (c : Config) {code : List Instr} {vs : List Value} {base : Value} {others : List Value} where
  pub gets_first : {p q : ℕ} → length vs + below_all c.layers < MOST_OPERANDS
      → Does m (on c (i.LocalGet 1 ∷ code) vs (locals_with base p q others)) (Goes (on c code (I64 p ∷ vs) (locals_with base p q others)))
  gets_first lt = gets 1 refl lt

  pub gets_second : {p q : ℕ} → length vs + below_all c.layers < MOST_OPERANDS
      → Does m (on c (i.LocalGet 2 ∷ code) vs (locals_with base p q others)) (Goes (on c code (I64 q ∷ vs) (locals_with base p q others)))
  gets_second lt = gets 2 refl lt

  pub sets_second : {p : ℕ} (q b : ℕ)
      → Does m (on c (i.LocalSet 2 ∷ code) (I64 b ∷ vs) (locals_with base p q others)) (Goes (on c code vs (locals_with base p b others)))
  sets_second q b = sets 2 refl

  pub tees_first : {q : ℕ} (p a : ℕ)
      → Does m (on c (i.LocalTee 1 ∷ code) (I64 a ∷ vs) (locals_with base p q others)) (Goes (on c code (I64 a ∷ vs) (locals_with base a q others)))
  tees_first p a = tees 1 refl

  pub tees_second : {p : ℕ} (q b : ℕ)
      → Does m (on c (i.LocalTee 2 ∷ code) (I64 b ∷ vs) (locals_with base p q others)) (Goes (on c code (I64 b ∷ vs) (locals_with base p b others)))
  tees_second q b = tees 2 refl

module _ (m : Module) (c : Config) {code : List Instr} {vs locals : List Value} where
  -- a test that fails is passed in two steps
  pub passes : {n : ℕ} {next : Next} (number offset : ℕ) → Leads m n (on c code vs locals) next
      → Leads m (suc (suc n)) (on c (trap_if number offset ∷ code) (I32 0 ∷ vs) locals) next
  passes number offset t = leads (chooses _ []) (leads leaves t)

  -- and one that holds traps in the fourth
  pub falls : HasTrap m → (n number offset : ℕ) → length vs + below_all c.layers + 2 ≤ MOST_OPERANDS
      → Leads m (suc (suc (suc (suc n)))) (on c (trap_if number offset ∷ code) (I32 1 ∷ vs) locals) (Traps number offset)
  falls h n number offset room =
      let one : 0 + (length vs + below_all c.layers) < MOST_OPERANDS = omega (arith, room) in
      let two : 1 + (length vs + below_all c.layers) < MOST_OPERANDS = omega (arith, room) in
      leads (chooses _ []) (leads (puts32 one) (leads (puts32 two) (fails (gives_up 5 h.1 h.2))))
