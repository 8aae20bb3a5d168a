use Rattle.own_io.specs.Outside.{HasRisen}
use Rattle.own_tool.specs.Run.{RunAnswers}
use Rattle.own_tool.proofs.Moving.{same_told, risen_since}
use Rattle.own_tool.proofs.Declining.{declined_said}
use Rattle.own_tool.proofs.Running.{accepted_ran, declined_ran}
use Rattle.own_tool.proofs.run.run_file.Goals as goal

pub returns-in-Ok-clause-answer : goal.returns-in-Ok-clause-answer
returns-in-Ok-clause-answer g c =
    accepted_ran (record { tells = g.F.Folder.tells c.args.folder.now; held = g.F.Folder.held c.args.folder.now }) (g.F.Folder.held c.run_accepted.new.folder) (HasRisen (g.F.Folder.faults c.args.folder.now) (g.F.Folder.faults c.run_accepted.new.folder))
    c.args.asked.now.file.now c.args.asked.now.saved.now c.args.asked.now.steps c.args.asked.now.input.now
    (record { tells = g.F.Folder.tells c.accept.new.folder; held = g.F.Folder.held c.accept.new.folder }) (HasRisen (g.F.Folder.faults c.accept.new.folder) (g.F.Folder.faults c.run_accepted.new.folder))
    (HasRisen (g.K.Sink.faults c.args.out.now) (g.K.Sink.faults c.run_accepted.new.out)) (HasRisen (g.E.Sink.faults c.args.err.now) (g.E.Sink.faults c.run_accepted.new.err))
    (g.K.Sink.written c.args.out.now) (g.K.Sink.written c.run_accepted.new.out) (g.E.Sink.written c.args.err.now) (g.E.Sink.written c.run_accepted.new.err) c.run_accepted.result
    (same_told (g.F.Folder.tells c.args.folder.now) (g.F.Folder.tells c.accept.new.folder) (g.F.Folder.held c.args.folder.now) (g.F.Folder.held c.accept.new.folder) c.accept.ensures.tells c.accept.ensures.names)
    (risen_since (g.F.Folder.faults c.args.folder.now) (g.F.Folder.faults c.accept.new.folder) (g.F.Folder.faults c.run_accepted.new.folder) c.accept.ensures.folder_count)
    c.run_accepted.ensures.answer

pub returns-in-Err-clause-answer : goal.returns-in-Err-clause-answer
returns-in-Err-clause-answer g c =
    declined_said (record { tells = g.F.Folder.tells c.args.folder.now; held = g.F.Folder.held c.args.folder.now }) (HasRisen (g.F.Folder.faults c.args.folder.now) (g.F.Folder.faults c.accept.new.folder)) c.args.asked.now.file.now
    (HasRisen (g.K.Sink.faults c.args.out.now) (g.K.Sink.faults c.args.out.now)) (HasRisen (g.E.Sink.faults c.args.err.now) (g.E.Sink.faults c.decline.new.err))
    (g.K.Sink.written c.args.out.now) (g.E.Sink.written c.args.err.now) (g.E.Sink.written c.decline.new.err) c.decline.result (g.met.K.Sink.nothing c.args.out.now)
    (RunAnswers (record { tells = g.F.Folder.tells c.args.folder.now; held = g.F.Folder.held c.args.folder.now }) (g.F.Folder.held c.accept.new.folder) c.args.asked.now.file.now c.args.asked.now.saved.now c.args.asked.now.steps c.args.asked.now.input.now (HasRisen (g.F.Folder.faults c.args.folder.now) (g.F.Folder.faults c.accept.new.folder)))
    (declined_ran (record { tells = g.F.Folder.tells c.args.folder.now; held = g.F.Folder.held c.args.folder.now }) (g.F.Folder.held c.accept.new.folder) (HasRisen (g.F.Folder.faults c.args.folder.now) (g.F.Folder.faults c.accept.new.folder)) c.args.asked.now.file.now c.args.asked.now.saved.now c.args.asked.now.steps c.args.asked.now.input.now c.accept.ensures.names)
    c.in-Err.declined c.in-Err.ensures.opened c.decline.ensures.said
