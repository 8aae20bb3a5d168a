use Rattle.own_io.specs.Outside.{HasRisen}
use Rattle.own_tool.specs.Check.{CheckAnswers}
use Rattle.own_tool.proofs.Checking.{accepted_said, declined_checked}
use Rattle.own_tool.proofs.Declining.{declined_said}
use Rattle.own_tool.proofs.check.check_file.Goals as goal

pub returns-in-Ok-clause-answer : goal.returns-in-Ok-clause-answer
returns-in-Ok-clause-answer g c =
    accepted_said (record { tells = g.F.Folder.tells c.args.folder.now; held = g.F.Folder.held c.args.folder.now }) (HasRisen (g.F.Folder.faults c.args.folder.now) (g.F.Folder.faults c.accept.new.folder)) c.args.file.now
    (HasRisen (g.K.Sink.faults c.args.out.now) (g.K.Sink.faults c.say.new.err)) (HasRisen (g.E.Sink.faults c.args.err.now) (g.E.Sink.faults c.args.err.now))
    c.in-Ok.field-0.text (g.K.Sink.written c.args.out.now) (g.K.Sink.written c.say.new.err) (g.E.Sink.written c.args.err.now) c.say.result (g.met.E.Sink.nothing c.args.err.now)
    c.in-Ok.ensures.opened c.say.ensures.said

pub returns-clause-answer : goal.returns-clause-answer
returns-clause-answer g c =
    declined_said (record { tells = g.F.Folder.tells c.args.folder.now; held = g.F.Folder.held c.args.folder.now }) (HasRisen (g.F.Folder.faults c.args.folder.now) (g.F.Folder.faults c.accept.new.folder)) c.args.file.now
    (HasRisen (g.K.Sink.faults c.args.out.now) (g.K.Sink.faults c.args.out.now)) (HasRisen (g.E.Sink.faults c.args.err.now) (g.E.Sink.faults c.decline.new.err))
    (g.K.Sink.written c.args.out.now) (g.E.Sink.written c.args.err.now) (g.E.Sink.written c.decline.new.err) c.decline.result (g.met.K.Sink.nothing c.args.out.now)
    (CheckAnswers (record { tells = g.F.Folder.tells c.args.folder.now; held = g.F.Folder.held c.args.folder.now }) (HasRisen (g.F.Folder.faults c.args.folder.now) (g.F.Folder.faults c.accept.new.folder)) c.args.file.now)
    (declined_checked (record { tells = g.F.Folder.tells c.args.folder.now; held = g.F.Folder.held c.args.folder.now }) (HasRisen (g.F.Folder.faults c.args.folder.now) (g.F.Folder.faults c.accept.new.folder)) c.args.file.now)
    c.in-Err.declined c.in-Err.ensures.opened c.decline.ensures.said
