-- Arithmetic and comparison of `Int` as steps of a run, whatever its state.
use Rattle.std.specs.Prelude.{ℕ, ℤ, ◌+ℤ◌, ◌-ℤ◌, ◌*ℤ◌, int_lt, int_le, Bool, not, ◌&&◌}
use Rattle.std.specs.Int.{w64, int_wrap}
use Rattle.own_tree.specs.declared.arithmetic.Arith.{Arith}
use Rattle.own_tree.specs.declared.arithmetic.Arith.TheVariants.{Add, Sub, Mul, Div, Rem, Neg}
use Rattle.own_tree.specs.declared.typed.Comparison.{Comparison}
use Rattle.own_tree.specs.declared.typed.Comparison.TheVariants as compare
use Rattle.own_ways.specs.Exact.{Exact, Gives, Fails, exact}
use Rattle.own_ways.specs.Ways.{Step, pure, trap, stray}

abbrev pub answered : {S : Type 0} → (at : ℕ) → Exact → Step S ℤ
answered at (Gives n) = pure n
answered at (Fails code) = trap code at

-- It gives the exact result, or traps at the offset of its operator. A negation has the second operand alone.
abbrev pub computed : {S : Type 0} → Arith → (at : ℕ) → ℤ → ℤ → Step S ℤ
computed o at a b = answered at (exact o a b)

-- `&+`, `&-` and `&*`: two's complement
abbrev pub wrapped : {S : Type 0} → Arith → ℤ → ℤ → Step S ℤ
wrapped Add a b = pure (int_wrap w64 (a +ℤ b))
wrapped Sub a b = pure (int_wrap w64 (a -ℤ b))
wrapped Mul a b = pure (int_wrap w64 (a *ℤ b))
wrapped Div a b = stray
wrapped Rem a b = stray
wrapped Neg a b = stray

abbrev pub same : ℤ → ℤ → Bool
same a b = int_le a b && int_le b a

abbrev pub compare_ints : Comparison → ℤ → ℤ → Bool
compare_ints compare.Equal a b = same a b
compare_ints compare.Unequal a b = not (same a b)
compare_ints compare.Less a b = int_lt a b
compare_ints compare.LessEqual a b = int_le a b
compare_ints compare.Greater a b = int_lt b a
compare_ints compare.GreaterEqual a b = int_le b a
