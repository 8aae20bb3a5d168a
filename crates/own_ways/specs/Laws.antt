-- What is proved of the definitions, for contracts to cite.
use Rattle.std.specs.Prelude.{◌≡◌, ℤ, true}
use Rattle.own_tree.specs.declared.arithmetic.Arith.{Arith}
use Rattle.own_ways.specs.Exact.{Gives, exact, is_int}
use Rattle.own_ways.specs.declared.traps.TheConstants.{OVERFLOW, ZERO_DIVISOR, TOO_MANY_LEVELS, EMPTY_RANGE}

-- Of a first operand that is an `Int`, what an operation gives is one.
abbrev pub ExactResultsAreInts : Type 0
ExactResultsAreInts = (op : Arith) (x y z : ℤ) → is_int x ≡ true → exact op x y ≡ Gives z → is_int z ≡ true

-- the codes of the traps of a run, as numbers
pub record TrapCodesAreThese : Type 0 where
  pub overflow : OVERFLOW ≡ 1
  pub zero_divisor : ZERO_DIVISOR ≡ 2
  pub too_many_levels : TOO_MANY_LEVELS ≡ 3
  pub empty_range : EMPTY_RANGE ≡ 4
