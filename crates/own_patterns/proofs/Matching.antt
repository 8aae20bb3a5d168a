-- Lists of patterns, there and back, and how many a clause has.
use Rattle.std.proofs.Common.{◌≡◌, ◌≤◌, ◌<◌, true, List, [], ◌∷◌, length, map, refl, ap, arith}
use Rattle.own_tree.specs.declared.tree.Pattern.{Pattern}
use Rattle.own_tree.specs.View as view
use Rattle.own_tree.specs.TypedSource.{TPat}
use Rattle.own_tree.specs.TypedView.{pats_of}
use Rattle.own_shapes.specs.Types.{is_empty}
use Rattle.own_judged.specs.Names.{Local}
use Rattle.own_judged.specs.Patterns.{listed, one_or_none}

pub listed_back : (ps : List TPat) → listed (pats_of ps) ≡ ps
listed_back [] = refl
listed_back (p ∷ ps) = ap (λ qs. p ∷ qs) (listed_back ps)

pub one_short : (ps : List Pattern) (ls : List Local) → length ps ≤ 1
    → one_or_none (view.pats_of (map view.pattern_view ps)) ls ≡ true
one_short [] ls few = refl
one_short (p ∷ []) ls few = refl
one_short (p ∷ q ∷ ps) ls few = absurd (omega arith)

pub one_long : (ps : List Pattern) (ls : List Local) → 1 < length ps
    → one_or_none (view.pats_of (map view.pattern_view ps)) ls ≡ is_empty ls
one_long [] ls many = absurd (omega arith)
one_long (p ∷ []) ls many = absurd (omega arith)
one_long (p ∷ q ∷ ps) ls many = refl
