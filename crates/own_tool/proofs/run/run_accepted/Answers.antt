use Rattle.own_io.specs.Outside.{HasRisen}
use Rattle.own_tool.proofs.Running.{launch_said}
use Rattle.own_tool.proofs.run.run_accepted.Goals as goal

pub returns-clause-answer : goal.returns-clause-answer
returns-clause-answer g c =
    launch_said (record { tells = g.F.Folder.tells c.args.folder.now; held = g.F.Folder.held c.args.folder.now }) (g.F.Folder.held c.launch-launched.new.folder) (HasRisen (g.F.Folder.faults c.args.folder.now) (g.F.Folder.faults c.launch-launched.new.folder))
    c.args.asked.now.file.now c.args.asked.now.saved.now c.args.asked.now.steps c.args.asked.now.input.now c.args.accepted.text c.requires.content
    (g.K.Sink.faults c.args.out.now) (g.K.Sink.faults c.launch-launched.new.out) (HasRisen (g.E.Sink.faults c.args.err.now) (g.E.Sink.faults c.tell_launch.new.err))
    (g.K.Sink.written c.args.out.now) (g.K.Sink.written c.launch-launched.new.out) (g.E.Sink.written c.args.err.now) (g.E.Sink.written c.tell_launch.new.err) c.tell_launch.result
    (g.met.K.Sink.nothing c.args.out.now) (g.met.E.Sink.nothing c.args.err.now)
    c.launch-launched.result c.launch-launched.ensures.ran (rw c.as_slice.ensures at c.tell_launch.ensures.said)
