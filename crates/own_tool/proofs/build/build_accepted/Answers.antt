use Rattle.std.proofs.Common.{refl}
use Rattle.own_io.specs.Outside.{HasRisen}
use Rattle.own_tool.proofs.Building.{not_made}
use Rattle.own_tool.proofs.build.build_accepted.Goals as goal

pub returns-in-Err-clause-answer : goal.returns-in-Err-clause-answer
returns-in-Err-clause-answer g c =
    not_made (record { tells = g.F.Folder.tells c.args.folder.now; held = g.F.Folder.held c.args.folder.now }) (g.F.Folder.held c.args.folder.now) (HasRisen (g.F.Folder.faults c.args.folder.now) (g.F.Folder.faults c.args.folder.now)) c.args.saved.now
    (HasRisen (g.K.Sink.faults c.args.out.now) (g.K.Sink.faults c.args.out.now)) (HasRisen (g.E.Sink.faults c.args.err.now) (g.E.Sink.faults c.say.new.err))
    (g.K.Sink.written c.args.out.now) (g.E.Sink.written c.args.err.now) (g.E.Sink.written c.say.new.err) c.say.result (g.met.K.Sink.nothing c.args.out.now)
    (λ name. refl) c.say.ensures.said
