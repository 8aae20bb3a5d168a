use Rattle.std.proofs.Common.{arith}
use Rattle.own_flow.proofs.WordLaws.{inserted}
use Rattle.own_flow.proofs.bits.insert_word.Goals as goal

pub returns : goal.returns
returns c = inserted c.args.set.now c.args.bit (omega arith)
