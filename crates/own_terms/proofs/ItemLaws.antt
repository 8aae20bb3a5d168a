-- Items of a `print` are passed by value.
use Rattle.std.proofs.Common.{◌≡◌, List, [], ◌∷◌, map, refl, ap}
use Rattle.own_tree.specs.declared.typed.Passing.TheVariants as passing
use Rattle.own_tree.specs.declared.typed.TypedExpr.{TypedExpr}
use Rattle.own_tree.specs.TypedView.{exps_of, expr_view}
use Rattle.own_judged.specs.Arguments.{all_by_value}

pub all_items : (es : List TypedExpr) → all_by_value (exps_of (map expr_view es)) ≡ map (λ e. passing.ByValue) es
all_items [] = refl
all_items (e ∷ es) = ap (λ ps. passing.ByValue ∷ ps) (all_items es)
