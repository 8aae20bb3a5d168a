use Rattle.std.proofs.Common.{◌≡◌, take, map}
use Rattle.own_judged.specs.Names.{with_locals}
use Rattle.own_scope.specs.Locals.{local_of}
use Rattle.own_scope.specs.Scopes.{scope_of}
use Rattle.own_scope.proofs.scope.Scope.declare_all.Given as goal

abbrev pub invariant-loop-local : goal.invariant-loop-local
invariant-loop-local l = scope_of l.self ≡ with_locals (scope_of l.fn.self) (map local_of (take l.local-index l.locals))
