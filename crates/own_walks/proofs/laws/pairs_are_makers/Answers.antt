use Rattle.own_walks.proofs.Making.{pairs_are_makers, pairs_belong}
use Rattle.own_walks.proofs.laws.pairs_are_makers.Goals as goal

pub returns : goal.returns
returns c = record { makers = pairs_are_makers; belong = pairs_belong }
