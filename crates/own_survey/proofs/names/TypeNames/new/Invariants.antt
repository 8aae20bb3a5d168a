use Rattle.std.proofs.Common.{◌≡◌, length, map, take}
use Rattle.own_tree.specs.View.{declaration_view}
use Rattle.own_survey.specs.Names.{Knows}
use Rattle.own_shapes.specs.Types.{declared_types}
use Rattle.own_survey.proofs.names.TypeNames.new.Given as goal

abbrev pub invariant-loop-declaration : goal.invariant-loop-declaration
invariant-loop-declaration l = record {
  knows : Knows l.types.entries (declared_types (map declaration_view (take l.declaration-index l.declarations)));
  counted : l.count ≡ length (declared_types (map declaration_view (take l.declaration-index l.declarations)));
}
