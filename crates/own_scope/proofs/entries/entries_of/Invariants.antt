use Rattle.std.proofs.Common.{◌≡◌, ◌++◌, drop, map}
use Rattle.own_tree.specs.View.{declaration_view}
use Rattle.own_judged.specs.Text.{entries}
use Rattle.own_scope.specs.TypeNames.{written_in}
use Rattle.own_scope.specs.Known.{entry_of}
use Rattle.own_scope.proofs.entries.entries_of.Given as goal

abbrev pub invariant-loop-declaration : goal.invariant-loop-declaration
invariant-loop-declaration l =
    map entry_of l.entries.items
    ++ entries (written_in l.fn.types.names.items) l.fn.signatures l.owner l.bodies (map declaration_view (drop l.declaration-index l.declarations))
    ≡ entries (written_in l.fn.types.names.items) l.fn.signatures 0 0 (map declaration_view l.declarations)
