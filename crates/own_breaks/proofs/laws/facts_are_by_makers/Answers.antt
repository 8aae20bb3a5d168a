use Rattle.own_breaks.proofs.Live.{facts_by_makers}
use Rattle.own_breaks.proofs.laws.facts_are_by_makers.Goals as goal

pub returns : goal.returns
returns c = λ uses nodes entry pairs facts are these v l leaf live here. facts_by_makers uses nodes entry pairs facts are these v l leaf live here
