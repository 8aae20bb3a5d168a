-- Values as numbers and truths, and their arithmetic and comparison.
use Rattle.std.specs.Prelude.{ℤ, Bool, true, false, not}
use Rattle.own_tree.specs.declared.typed.Comparison.{Comparison}
use Rattle.own_tree.specs.declared.typed.Comparison.TheVariants as compare
use Rattle.own_ways.specs.Arithmetic.{compare_ints}
use Rattle.own_ways.specs.Ways.{◌>>=◌, pure, stray}
use Rattle.own_runs.specs.Store.{Act}
use Rattle.own_runs.specs.Values.{Val, int, bool, unit, struct, variant, hole}

-- ---- values as numbers and truths. A hole does not come here, since a value is read whole.

abbrev pub as_int : Val → Act ℤ
as_int (int n) = pure n
as_int (bool b) = stray
as_int unit = stray
as_int (struct type number vs) = stray
as_int (variant present vs) = stray
as_int hole = stray

abbrev pub as_bool : Val → Act Bool
as_bool (bool b) = pure b
as_bool (int n) = stray
as_bool unit = stray
as_bool (struct type number vs) = stray
as_bool (variant present vs) = stray
as_bool hole = stray

-- a number as a value
abbrev pub as_val : Act ℤ → Act Val
as_val number = number >>= λ n. pure (int n)

-- ---- comparison

abbrev pub same_truth : Bool → Bool → Bool
same_truth true b = b
same_truth false b = not b

abbrev pub compare_truths : Comparison → Bool → Bool → Act Val
compare_truths compare.Equal a b = pure (bool (same_truth a b))
compare_truths compare.Unequal a b = pure (bool (not (same_truth a b)))
compare_truths compare.Less a b = stray
compare_truths compare.LessEqual a b = stray
compare_truths compare.Greater a b = stray
compare_truths compare.GreaterEqual a b = stray

-- two `Int`, or two `Bool` by equality
abbrev pub compare_vals : Comparison → Val → Val → Act Val
compare_vals o (int a) (int b) = pure (bool (compare_ints o a b))
compare_vals o (bool a) (bool b) = compare_truths o a b
compare_vals o a b = stray
