use Rattle.own_tool.proofs.Executing.{unread_comes}
use Rattle.own_tool.proofs.exec.execute_bytes.Goals as goal

pub returns-in-Err-clause-came : goal.returns-in-Err-clause-came
returns-in-Err-clause-came g c =
    unread_comes c.args.bytes.now c.args.steps c.args.input.now c.in-Err.error c.unread.result (g.K.Sink.written c.args.out.now) (g.K.Sink.faults c.args.out.now)
    c.requires c.in-Err.ensures.only c.in-Err.ensures.first_fault c.unread.ensures
