use Rattle.own_breaks.proofs.Live.{facts_at_nodes}
use Rattle.own_breaks.proofs.laws.facts_are_at_nodes.Goals as goal

pub returns : goal.returns
returns c = λ uses nodes entry g o leaf live. facts_at_nodes uses nodes entry g o leaf live
