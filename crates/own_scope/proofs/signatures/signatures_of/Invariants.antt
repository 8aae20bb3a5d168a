use Rattle.std.proofs.Common.{◌≡◌, drop, map, []}
use Rattle.own_tree.specs.View.{declaration_view}
use Rattle.own_judged.specs.Signatures.{signatures_in}
use Rattle.own_scope.specs.TypeNames.{written_in}
use Rattle.own_scope.proofs.signatures.signatures_of.Given as goal

abbrev pub invariant-loop-declaration : goal.invariant-loop-declaration
invariant-loop-declaration l =
    signatures_in (written_in l.fn.types.names.items) l.signatures (map declaration_view (drop l.declaration-index l.declarations))
    ≡ signatures_in (written_in l.fn.types.names.items) [] (map declaration_view l.declarations)
