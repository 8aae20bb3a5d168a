use Rattle.std.proofs.Common.{◌≡◌, map, take}
use Rattle.own_tree.specs.View.{declaration_view}
use Rattle.own_survey.specs.Names.{type_in}
use Rattle.own_table.specs.Resolving.{declared_infos}
use Rattle.own_table.proofs.resolve.declared_infos.Given as goal

abbrev pub invariant-loop-declaration : goal.invariant-loop-declaration
invariant-loop-declaration l = l.infos ≡ declared_infos (type_in l.names) (map declaration_view (take l.declaration-index l.declarations))
