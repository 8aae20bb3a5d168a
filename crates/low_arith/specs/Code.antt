-- The instructions of an operation, on the operands on the stack.
use Rattle.std.specs.Prelude.{ℕ, None, List, [], ◌∷◌, ◌++◌}
use Rattle.wasm_form.specs.declared.instr.Instr.{Instr}
use Rattle.wasm_form.specs.declared.instr.Instr.TheVariants as i
use Rattle.own_tree.specs.declared.arithmetic.Arith.{Arith}
use Rattle.own_tree.specs.declared.arithmetic.Arith.TheVariants.{Add, Sub, Mul, Div, Rem, Neg}
use Rattle.low_arith.specs.declared.places.TheConstants.{FIRST, SECOND, TRAP}
use Rattle.own_ways.specs.declared.traps.TheConstants.{OVERFLOW, ZERO_DIVISOR}

-- the bits of the least `Int`, and of -1
abbrev pub LEAST : ℕ
LEAST = 9223372036854775808

abbrev pub MINUS_ONE : ℕ
MINUS_ONE = 18446744073709551615

-- where the number on the stack is not 0
abbrev pub trap_if : ℕ → ℕ → Instr
trap_if code at = i.If None (i.I32Const code ∷ i.I32Const at ∷ i.Call TRAP ∷ []) []

-- the sum is below the first operand exactly where the second is negative, unless it overflows
abbrev pub sum_code : ℕ → List Instr
sum_code at =
    i.LocalSet SECOND ∷ i.LocalTee FIRST ∷ i.LocalGet SECOND ∷ i.I64Add ∷
    i.LocalGet FIRST ∷ i.I64LtS ∷ i.LocalGet SECOND ∷ i.I64Const 0 ∷ i.I64LtS ∷ i.I32Ne ∷ trap_if OVERFLOW at ∷
    i.LocalGet FIRST ∷ i.LocalGet SECOND ∷ i.I64Add ∷ []

-- the difference is above the first operand exactly where the second is negative, unless it overflows
abbrev pub difference_code : ℕ → List Instr
difference_code at =
    i.LocalSet SECOND ∷ i.LocalTee FIRST ∷ i.LocalGet SECOND ∷ i.I64Sub ∷
    i.LocalGet FIRST ∷ i.I64GtS ∷ i.LocalGet SECOND ∷ i.I64Const 0 ∷ i.I64LtS ∷ i.I32Ne ∷ trap_if OVERFLOW at ∷
    i.LocalGet FIRST ∷ i.LocalGet SECOND ∷ i.I64Sub ∷ []

-- -1 and the least `Int` overflow, and their product by its bits divides without a trap no more
abbrev pub product_tests : ℕ → List Instr
product_tests at =
    i.LocalGet FIRST ∷ i.I64Const MINUS_ONE ∷ i.I64Eq ∷ i.LocalGet SECOND ∷ i.I64Const LEAST ∷ i.I64Eq ∷ i.I32And ∷ trap_if OVERFLOW at ∷
    i.LocalGet FIRST ∷ i.LocalGet SECOND ∷ i.I64Mul ∷ i.LocalGet FIRST ∷ i.I64DivS ∷ i.LocalGet SECOND ∷ i.I64Ne ∷ trap_if OVERFLOW at ∷ []

-- by a first operand other than 0 the product divides back to the second, unless it overflows
abbrev pub product_code : ℕ → List Instr
product_code at =
    i.LocalSet SECOND ∷ i.LocalTee FIRST ∷ i.I64Eqz ∷ i.If None [] (product_tests at) ∷
    i.LocalGet FIRST ∷ i.LocalGet SECOND ∷ i.I64Mul ∷ []

-- of the least `Int` by -1 both the quotient and the remainder overflow
abbrev pub division_tests : ℕ → List Instr
division_tests at =
    i.LocalTee SECOND ∷ i.I64Eqz ∷ trap_if ZERO_DIVISOR at ∷
    i.LocalTee FIRST ∷ i.I64Const LEAST ∷ i.I64Eq ∷ i.LocalGet SECOND ∷ i.I64Const MINUS_ONE ∷ i.I64Eq ∷ i.I32And ∷ trap_if OVERFLOW at ∷
    i.LocalGet FIRST ∷ i.LocalGet SECOND ∷ []

abbrev pub negation_code : ℕ → List Instr
negation_code at =
    i.LocalTee FIRST ∷ i.I64Const LEAST ∷ i.I64Eq ∷ trap_if OVERFLOW at ∷
    i.I64Const 0 ∷ i.LocalGet FIRST ∷ i.I64Sub ∷ []

-- at is the offset that a trap names
unfoldable pub checked_code : Arith → ℕ → List Instr
checked_code Add at = sum_code at
checked_code Sub at = difference_code at
checked_code Mul at = product_code at
checked_code Div at = division_tests at ++ i.I64DivS ∷ []
checked_code Rem at = division_tests at ++ i.I64RemS ∷ []
checked_code Neg at = negation_code at
