use Rattle.std.proofs.Common.{◌≡◌, map, drop}
use Rattle.own_judged.specs.Text.{initializer_in}
use Rattle.own_scope.specs.Known.{entry_of}
use Rattle.own_scope.proofs.known.Known.initializer.Given as goal

abbrev pub invariant-loop-entry : goal.invariant-loop-entry
invariant-loop-entry l =
    initializer_in (map entry_of (drop l.entry-index l.self.entries.items)) l.number ≡ initializer_in (map entry_of l.self.entries.items) l.number
