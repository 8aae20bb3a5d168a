use Rattle.std.proofs.Common.{◌≡◌, ◌∙◌, ap}
use Rattle.own_io.specs.Outside.{HasRisen}
use Rattle.own_tool.specs.Commands.{is_served}
use Rattle.own_tool.proofs.Obeying.{check_obeyed, build_obeyed, run_obeyed, exec_obeyed, usage_obeyed}
use Rattle.own_tool.proofs.tool.obey.Goals as goal

pub returns-in-Check-clause-answer : goal.returns-in-Check-clause-answer
returns-in-Check-clause-answer g c =
    check_obeyed (record { tells = g.F.Folder.tells c.args.folder.now; held = g.F.Folder.held c.args.folder.now }) (g.F.Folder.held c.check_file.new.folder) (HasRisen (g.F.Folder.faults c.args.folder.now) (g.F.Folder.faults c.check_file.new.folder))
    (HasRisen (g.K.Sink.faults c.args.out.now) (g.K.Sink.faults c.check_file.new.out)) (HasRisen (g.E.Sink.faults c.args.err.now) (g.E.Sink.faults c.check_file.new.err))
    (g.K.Sink.written c.args.out.now) (g.K.Sink.written c.check_file.new.out) (g.E.Sink.written c.args.err.now) (g.E.Sink.written c.check_file.new.err) c.check_file.result
    c.args.command.now c.name_of.result.now c.in-Check.file c.in-Check.is c.name_of.ensures c.check_file.ensures.answer

pub returns-in-Build-clause-answer : goal.returns-in-Build-clause-answer
returns-in-Build-clause-answer g c =
    build_obeyed (record { tells = g.F.Folder.tells c.args.folder.now; held = g.F.Folder.held c.args.folder.now }) (g.F.Folder.held c.build_file.new.folder) (HasRisen (g.F.Folder.faults c.args.folder.now) (g.F.Folder.faults c.build_file.new.folder))
    (HasRisen (g.K.Sink.faults c.args.out.now) (g.K.Sink.faults c.build_file.new.out)) (HasRisen (g.E.Sink.faults c.args.err.now) (g.E.Sink.faults c.build_file.new.err))
    (g.K.Sink.written c.args.out.now) (g.K.Sink.written c.build_file.new.out) (g.E.Sink.written c.args.err.now) (g.E.Sink.written c.build_file.new.err) c.build_file.result
    c.args.command.now c.name_of-file.result.now c.in-Build.file c.name_of-saved.result.now c.in-Build.saved c.in-Build.trace c.in-Build.is c.name_of-file.ensures c.name_of-saved.ensures c.build_file.ensures.answer

pub returns-in-Run-clause-answer : goal.returns-in-Run-clause-answer
returns-in-Run-clause-answer g c =
    run_obeyed (record { tells = g.F.Folder.tells c.args.folder.now; held = g.F.Folder.held c.args.folder.now }) (g.F.Folder.held c.run_file.new.folder) (HasRisen (g.F.Folder.faults c.args.folder.now) (g.F.Folder.faults c.run_file.new.folder))
    (HasRisen (g.K.Sink.faults c.args.out.now) (g.K.Sink.faults c.run_file.new.out)) (HasRisen (g.E.Sink.faults c.args.err.now) (g.E.Sink.faults c.run_file.new.err))
    (g.K.Sink.written c.args.out.now) (g.K.Sink.written c.run_file.new.out) (g.E.Sink.written c.args.err.now) (g.E.Sink.written c.run_file.new.err) c.run_file.result
    c.args.command.now c.name_of-in-Run.result.now c.in-Run.file c.in-Run.saved c.in-Run.steps c.in-Run.trace c.in-Run.input c.in-Run.is c.name_of-in-Run.ensures (rw c.as_slice.ensures at c.run_file.ensures.answer)

pub returns-in-Exec-clause-answer : goal.returns-in-Exec-clause-answer
returns-in-Exec-clause-answer g c =
    exec_obeyed (record { tells = g.F.Folder.tells c.args.folder.now; held = g.F.Folder.held c.args.folder.now }) (g.F.Folder.held c.exec_file.new.folder) (HasRisen (g.F.Folder.faults c.args.folder.now) (g.F.Folder.faults c.exec_file.new.folder))
    (HasRisen (g.K.Sink.faults c.args.out.now) (g.K.Sink.faults c.exec_file.new.out)) (HasRisen (g.E.Sink.faults c.args.err.now) (g.E.Sink.faults c.exec_file.new.err))
    (g.K.Sink.written c.args.out.now) (g.K.Sink.written c.exec_file.new.out) (g.E.Sink.written c.args.err.now) (g.E.Sink.written c.exec_file.new.err) c.exec_file.result
    c.args.command.now c.name_of-in-Exec.result.now c.in-Exec.file c.in-Exec.steps c.in-Exec.input c.in-Exec.is c.name_of-in-Exec.ensures (rw c.as_slice-input.ensures at c.exec_file.ensures.answer)

pub returns-in-Selftest-clause-answer : goal.returns-in-Selftest-clause-answer
returns-in-Selftest-clause-answer g c =
    usage_obeyed (record { tells = g.F.Folder.tells c.args.folder.now; held = g.F.Folder.held c.args.folder.now }) (g.F.Folder.held c.args.folder.now) (HasRisen (g.F.Folder.faults c.args.folder.now) (g.F.Folder.faults c.args.folder.now))
    (HasRisen (g.K.Sink.faults c.args.out.now) (g.K.Sink.faults c.args.out.now)) (HasRisen (g.E.Sink.faults c.args.err.now) (g.E.Sink.faults c.say.new.err))
    (g.K.Sink.written c.args.out.now) (g.E.Sink.written c.args.err.now) (g.E.Sink.written c.say.new.err) c.say.result (g.met.K.Sink.nothing c.args.out.now)
    c.args.command.now (ap is_served c.in-Selftest.is) c.say.ensures.said
