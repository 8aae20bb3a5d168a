use Rattle.own_flow.proofs.WordLaws.{has_tests}
use Rattle.own_flow.proofs.bits.has_word.Goals as goal

pub returns : goal.returns
returns c = has_tests c.args.set.now c.args.bit
