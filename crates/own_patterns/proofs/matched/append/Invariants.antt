use Rattle.std.proofs.Common.{◌≡◌, ◌++◌, map, take}
use Rattle.own_scope.specs.Locals.{local_of}
use Rattle.own_patterns.proofs.matched.append.Given as goal

abbrev pub invariant-loop-local : goal.invariant-loop-local
invariant-loop-local l =
    map local_of l.locals.items ≡ map local_of l.fn.locals.items ++ map local_of (take l.local-index l.more)
