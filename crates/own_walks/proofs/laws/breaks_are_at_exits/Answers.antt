use Rattle.own_walks.proofs.Breaking.{breaks_at_exit}
use Rattle.own_walks.proofs.laws.breaks_are_at_exits.Goals as goal

pub returns : goal.returns
returns c = λ uses ns entry g r at leaf cause. breaks_at_exit uses 0 ns entry g r at leaf cause
