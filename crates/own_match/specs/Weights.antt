-- How much is left to look at: every step of the search goes to less.
use Rattle.std.specs.Prelude.{ℕ, ◌+◌, max, List, [], ◌∷◌}
use Rattle.own_shapes.specs.Types.{Shape, Shapes, no_shapes, Payloads, no_payloads, payloads}
use Rattle.own_shapes.specs.Types as shape
use Rattle.own_tree.specs.declared.place.Ty.{Ty}
use Rattle.own_match.specs.declared.column.Column.{Column as Held}
use Rattle.own_match.specs.Search.{Column}
use Rattle.own_match.specs.View.{columns_held}

-- the most places that a form of the type has
abbrev mutual
  pub weight : Shape → ℕ
  weight shape.number = 1
  weight shape.truth = 1
  weight shape.no_value = 1
  weight shape.closure = 1
  weight (shape.struct h fields) = 1
  weight (shape.enum h cases) = 1 + most_weight cases

  pub weights : Shapes → ℕ
  weights no_shapes = 0
  weights (shape.shape s ss) = weight s + weights ss

  pub most_weight : Payloads → ℕ
  most_weight no_payloads = 0
  most_weight (payloads ss cases) = max (weights ss) (most_weight cases)

abbrev pub columns_weight : List Column → ℕ
columns_weight [] = 0
columns_weight (c ∷ cs) = weight c.shape + columns_weight cs

-- of a column of the code and those that come next
abbrev pub weight_from : (Ty → Shape) → Held → List Held → ℕ
weight_from shape_of c rest = weight (shape_of c.ty) + columns_weight (columns_held shape_of rest)
