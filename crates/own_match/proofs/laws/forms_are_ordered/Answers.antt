use Rattle.own_match.proofs.Ordered.{forms_are_ordered}
use Rattle.own_match.proofs.laws.forms_are_ordered.Goals as goal

pub returns : goal.returns
returns c = forms_are_ordered
