use Rattle.std.proofs.Common.{◌≡◌, drop}
use Rattle.own_judged.specs.Names.{local_from, local_in, on_found}
use Rattle.own_scope.specs.Locals.{local_of}
use Rattle.own_scope.specs.Scopes.{frames_locals}
use Rattle.own_scope.proofs.scope.Scope.find_outside.Given as goal

abbrev pub invariant-loop-frame : goal.invariant-loop-frame
invariant-loop-frame l =
    local_from (on_found local_of l.found) (frames_locals (drop l.frame-index l.self.outer.items)) l.name
    ≡ local_in (frames_locals l.self.outer.items) l.name
