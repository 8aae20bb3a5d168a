use Rattle.own_tool.proofs.Answering.{cut_short}
use Rattle.own_tool.proofs.saying.say.Goals as goal

pub returns-in-Err-clause-said : goal.returns-in-Err-clause-said
returns-in-Err-clause-said g c = cut_short c.args.answer c.args.line.now c.in-Err.field-0.written _ _ _ c.in-Err.ensures.prefix c.in-Err.ensures.written c.in-Err.ensures.failed
