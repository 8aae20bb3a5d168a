use Rattle.std.proofs.Common.{◌≡◌, map, take}
use Rattle.own_judged.specs.Patterns.{next_local}
use Rattle.own_scope.specs.Locals.{local_of}
use Rattle.own_patterns.proofs.how.next_locals.Given as goal

abbrev pub invariant-loop-local : goal.invariant-loop-local
invariant-loop-local l =
    map local_of l.next.items ≡ map next_local (map local_of (take l.local-index l.locals))
