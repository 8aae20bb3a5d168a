-- What is found of coverage is what the rule says.
use Rattle.std.proofs.Common.{◌≡◌, List, Ok, Err, refl}
use Rattle.own_tree.specs.declared.place.Ty.{Ty}
use Rattle.own_tree.specs.declared.span.Span.{Span}
use Rattle.own_tree.specs.TypedSource.{TPat}
use Rattle.own_shapes.specs.Types.{Types}
use Rattle.own_match.specs.Forms.{IsMissing, IsFirst}
use Rattle.own_match.specs.Values.{Covers}
use Rattle.own_judging.specs.Made.{Made, uncovered}
use Rattle.own_judged.specs.Rules.{covering}

module _ (types : Types) (ty : Ty) (ps : List TPat) (at : Span) where
  pub covers : Covers ps (types.shape ty) → (s : Made) → (covering types ty ps at).run s ≡ Ok (tt, s)
  covers all s = (covering types ty ps at).found s tt s (all, refl)

  pub misses : (p : TPat) → IsMissing (types.shape ty) ps p → IsFirst (types.shape ty) ps p → (s : Made)
      → (covering types ty ps at).run s ≡ Err (uncovered at ty p)
  misses p missing first s = (covering types ty ps at).stopped s (uncovered at ty p) (p, missing, first, refl)
