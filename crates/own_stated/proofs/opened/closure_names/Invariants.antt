use Rattle.std.proofs.Common.{◌≡◌, map, drop}
use Rattle.own_judged.specs.Closures.{closure_params}
use Rattle.own_scope.specs.Locals.{local_of}
use Rattle.own_scope.specs.Making.{made_of}
use Rattle.own_stated.specs.Closures.{behind}
use Rattle.own_stated.proofs.opened.closure_names.Given as goal

abbrev pub invariant-loop-number : goal.invariant-loop-number
invariant-loop-number l =
    behind l.bindings (map local_of l.locals.items)
    ((closure_params l.fn.body (drop l.number l.names) (drop l.number l.params)).run (made_of l.builder))
    ≡ (closure_params l.fn.body l.names l.params).run (made_of l.fn.builder)
