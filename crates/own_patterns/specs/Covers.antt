-- What is found of the patterns of a `switch`.
use Rattle.std.specs.Prelude.{List}
use Rattle.own_tree.specs.declared.pattern.Cover.{Cover}
use Rattle.own_tree.specs.declared.pattern.Cover.TheVariants as cover
use Rattle.own_tree.specs.TypedSource.{TPat}
use Rattle.own_tree.specs.TypedView.{pattern_view}
use Rattle.own_shapes.specs.Types.{Shape}
use Rattle.own_match.specs.Forms.{IsMissing, IsFirst}
use Rattle.own_match.specs.Values.{Covers}

-- they match each value of the shape, or this is the first form that they miss
abbrev pub CoversOr : Shape → List TPat → Cover → Type 0
CoversOr s ps cover.All = Covers ps s
CoversOr s ps (cover.Missing f) = IsMissing s ps (pattern_view f) × IsFirst s ps (pattern_view f)
