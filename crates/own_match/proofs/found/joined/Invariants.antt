use Rattle.std.proofs.Common.{◌≡◌, ◌++◌, map, drop}
use Rattle.own_tree.specs.declared.place.Ty.{Ty}
use Rattle.own_shapes.specs.Types.{Shape}
use Rattle.own_match.specs.View.{columns_held}
use Rattle.own_match.proofs.found.joined.Given as goal

abbrev pub invariant-loop-column : goal.invariant-loop-column
invariant-loop-column l = record {
  held : (shape : Ty → Shape) → columns_held shape l.todo.items ++ columns_held shape (drop l.column-index l.rest) ≡ columns_held shape l.fn.columns.items ++ columns_held shape l.rest;
  types : map (λ c. c.ty) l.todo.items ++ map (λ c. c.ty) (drop l.column-index l.rest) ≡ map (λ c. c.ty) l.fn.columns.items ++ map (λ c. c.ty) l.rest;
}
