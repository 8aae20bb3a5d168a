-- Arithmetic on `Int`, which has 64 bits, on whole numbers: what an operation gives, or how it traps.
use Rattle.std.specs.Prelude.{ℕ, ℤ, pos, negsuc, ◌+ℤ◌, ◌-ℤ◌, ◌*ℤ◌, ◌-◌, ◌^◌, int_div, int_rem, int_le, unsigned_abs, Bool, ◌&&◌, ◌==◌, if◌then◌else◌}
use Rattle.own_tree.specs.declared.arithmetic.Arith.{Arith}
use Rattle.own_tree.specs.declared.arithmetic.Arith.TheVariants.{Add, Sub, Mul, Div, Rem, Neg}
use Rattle.own_ways.specs.declared.traps.TheConstants.{OVERFLOW, ZERO_DIVISOR}

pub data Exact : Type 0 where
  Gives : ℤ → Exact
  Fails : (code : ℕ) → Exact

-- from the least to the greatest `Int`
abbrev pub is_int : ℤ → Bool
is_int z = int_le (negsuc (2 ^ 63 - 1)) z && int_le z (pos (2 ^ 63 - 1))

-- a number, where another is an `Int`
abbrev pub given_if : ℤ → ℤ → Exact
given_if tested z = if is_int tested then Gives z else Fails OVERFLOW

abbrev pub as_int : ℤ → Exact
as_int z = given_if z z

-- Of the first and the second operand; a negation has the second alone. A division rounds toward zero, and a
-- remainder overflows where its quotient does.
abbrev pub exact : Arith → ℤ → ℤ → Exact
exact Add x y = as_int (x +ℤ y)
exact Sub x y = as_int (x -ℤ y)
exact Mul x y = as_int (x *ℤ y)
exact Div x y = if unsigned_abs y == 0 then Fails ZERO_DIVISOR else as_int (int_div x y)
exact Rem x y = if unsigned_abs y == 0 then Fails ZERO_DIVISOR else given_if (int_div x y) (int_rem x y)
exact Neg x y = as_int (pos 0 -ℤ y)
