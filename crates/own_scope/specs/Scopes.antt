-- What is known at a place, as the rules see it.
use Rattle.std.specs.Prelude.{List, [], ◌∷◌, ◌++◌, map, Option, Some, None}
use Rattle.std.specs.Borrow.{Bor}
use Rattle.own_judged.specs.Names as rule
use Rattle.own_judged.specs.Names.{Local, Self}
use Rattle.own_scope.specs.declared.frame.Frame.{Frame}
use Rattle.own_scope.specs.declared.scope.Context.{Context}
use Rattle.own_scope.specs.declared.scope.Receiver.{Receiver}
use Rattle.own_scope.specs.declared.scope.Scope.{Scope}
use Rattle.own_scope.specs.Held.{held_local}

abbrev pub frame_locals : Frame → List Local
frame_locals f = map held_local f.locals.items

-- those of scopes, the outermost first
abbrev pub frames_locals : List (Bor Frame) → List Local
frames_locals [] = []
frames_locals (f ∷ fs) = frame_locals f.now ++ frames_locals fs

abbrev pub locals_in : Scope → List Local
locals_in s = frames_locals s.outer.items ++ frame_locals s.own

abbrev pub self_of : Option Receiver → Option Self
self_of None = None
self_of (Some r) = Some (record { binding = r.binding; ty = r.ty; mode = r.mode })

-- a place with these names in scope
abbrev pub scope_at : Context → List Local → rule.Scope
scope_at c locals = record {
  body = c.body;
  locals = locals;
  self = self_of c.receiver;
  owner = c.owner;
  in_closure = c.in_closure;
  result = c.result;
  in_loop = c.in_loop;
  in_switch = c.in_switch;
  may_discard = c.may_discard;
}

abbrev pub scope_of : Scope → rule.Scope
scope_of s = scope_at s.context (locals_in s)
