use Rattle.std.proofs.Common.{◌≡◌, ℕ, List}
use Rattle.own_io.specs.Outside.{HasRisen}
use Rattle.own_tool.proofs.Building.{save_failed, save_refused, delivered, not_delivered, not_made}
use Rattle.own_tool.proofs.build.deliver.Goals as goal

pub returns-in-Ok-clause-answer : goal.returns-in-Ok-clause-answer
returns-in-Ok-clause-answer g c =
    delivered (record { tells = g.F.Folder.tells c.args.folder.now; held = g.F.Folder.held c.args.folder.now }) (g.F.Folder.held c.save.new.self) (HasRisen (g.F.Folder.faults c.args.folder.now) (g.F.Folder.faults c.save.new.self)) c.args.saved.now
    (HasRisen (g.K.Sink.faults c.args.out.now) (g.K.Sink.faults c.say.new.err)) (HasRisen (g.E.Sink.faults c.args.err.now) (g.E.Sink.faults c.args.err.now))
    c.args.made.now (g.K.Sink.written c.args.out.now) (g.K.Sink.written c.say.new.err) (g.E.Sink.written c.args.err.now) c.say.result (g.met.E.Sink.nothing c.args.err.now)
    c.requires (rw c.as_slice.ensures at c.in-Ok.ensures.content) (rw c.as_slice-in-Ok.ensures at c.say.ensures.said)

pub returns-in-Err-Failed-clause-answer : goal.returns-in-Err-Failed-clause-answer
returns-in-Err-Failed-clause-answer g c =
    not_delivered (record { tells = g.F.Folder.tells c.args.folder.now; held = g.F.Folder.held c.args.folder.now }) (g.F.Folder.held c.save.new.self) (HasRisen (g.F.Folder.faults c.args.folder.now) (g.F.Folder.faults c.save.new.self)) c.args.saved.now
    (HasRisen (g.K.Sink.faults c.args.out.now) (g.K.Sink.faults c.args.out.now)) (HasRisen (g.E.Sink.faults c.args.err.now) (g.E.Sink.faults c.args.err.now))
    (g.K.Sink.written c.args.out.now) (g.E.Sink.written c.args.err.now) (g.met.K.Sink.nothing c.args.out.now) (g.met.E.Sink.nothing c.args.err.now) (save_failed c.in-Err-Failed.field-0 (HasRisen (g.F.Folder.faults c.args.folder.now) (g.F.Folder.faults c.save.new.self)) c.in-Err-Failed.field-0-is c.in-Err-Failed.ensures.failed)

pub returns-in-Err-Memory-clause-answer : goal.returns-in-Err-Memory-clause-answer
returns-in-Err-Memory-clause-answer g c =
    not_made (record { tells = g.F.Folder.tells c.args.folder.now; held = g.F.Folder.held c.args.folder.now }) (g.F.Folder.held c.save.new.self) (HasRisen (g.F.Folder.faults c.args.folder.now) (g.F.Folder.faults c.save.new.self)) c.args.saved.now
    (HasRisen (g.K.Sink.faults c.args.out.now) (g.K.Sink.faults c.args.out.now)) (HasRisen (g.E.Sink.faults c.args.err.now) (g.E.Sink.faults c.say-in-Err-Memory.new.err))
    (g.K.Sink.written c.args.out.now) (g.E.Sink.written c.args.err.now) (g.E.Sink.written c.say-in-Err-Memory.new.err) c.say-in-Err-Memory.result (g.met.K.Sink.nothing c.args.out.now)
    (save_refused c.in-Err-Memory.field-0 ((name : List ℕ) → g.F.Folder.held c.save.new.self name ≡ g.F.Folder.held c.args.folder.now name) c.in-Err-Memory.field-0-is c.in-Err-Memory.ensures.memory) c.say-in-Err-Memory.ensures.said
