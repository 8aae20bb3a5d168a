use Rattle.own_walks.proofs.Breaking.{breaks_at_node}
use Rattle.own_walks.proofs.laws.breaks_are_at_nodes.Goals as goal

pub returns : goal.returns
returns c = λ uses ns entry g r at place cause. breaks_at_node uses 0 ns entry g r at place cause
