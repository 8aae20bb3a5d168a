use Rattle.std.proofs.Common.{◌≡◌, ◌++◌, drop, map}
use Rattle.own_tree.specs.View.{declaration_view}
use Rattle.own_scope.specs.TypeNames.{type_texts}
use Rattle.own_scope.proofs.declared.declared_types.Given as goal

abbrev pub invariant-loop-declaration : goal.invariant-loop-declaration
invariant-loop-declaration l =
    l.types.names.items ++ type_texts (map declaration_view (drop l.declaration-index l.declarations))
    ≡ type_texts (map declaration_view l.declarations)
