-- What a pattern of the code stands for, at each of its forms.
use Rattle.std.proofs.Common.{◌≡◌, ℕ, ℤ, Bool, List, map}
use Rattle.own_tree.specs.declared.pattern.TPattern.{TPattern}
use Rattle.own_tree.specs.declared.pattern.TPattern
use Rattle.own_tree.specs.declared.pattern.TPattern.TheOpen.{TPattern-F}
use Rattle.own_tree.specs.declared.pattern.TPattern.TheFolds.{fold-roll-TPattern}
use Rattle.own_tree.specs.TypedSource.{TPat, any, of_case, of_number, of_truth}
use Rattle.own_tree.specs.TypedView.{pats_of, pattern_step, pattern_view}

pub case_view : (c : ℕ) (ps : List TPattern) → pattern_view (TPattern.TheVariants.Case c ps) ≡ of_case c (pats_of (map pattern_view ps))
unfolding TPattern.roll-TPattern denote.Hole.Carrier.roll
case_view c ps = fold-roll-TPattern TPat pattern_step (TPattern-F.Case c ps)

pub any_view : pattern_view TPattern.TheVariants.Any ≡ any
unfolding TPattern.roll-TPattern denote.Hole.Carrier.roll
any_view = fold-roll-TPattern TPat pattern_step TPattern-F.Any

pub number_view : (n : ℤ) → pattern_view (TPattern.TheVariants.Number n) ≡ of_number n
unfolding TPattern.roll-TPattern denote.Hole.Carrier.roll
number_view n = fold-roll-TPattern TPat pattern_step (TPattern-F.Number n)

pub truth_view : (b : Bool) → pattern_view (TPattern.TheVariants.Truth b) ≡ of_truth b
unfolding TPattern.roll-TPattern denote.Hole.Carrier.roll
truth_view b = fold-roll-TPattern TPat pattern_step (TPattern-F.Truth b)
