use Rattle.std.proofs.Common.{◌≡◌, take}
use Rattle.own_scope.specs.Scopes.{frames_locals}
use Rattle.own_scope.proofs.scope.Scope.frames.Given as goal

abbrev pub invariant-loop-frame : goal.invariant-loop-frame
invariant-loop-frame l = frames_locals l.frames.items ≡ frames_locals (take l.frame-index l.self.outer.items)
