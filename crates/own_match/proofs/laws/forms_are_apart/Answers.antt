use Rattle.own_match.proofs.Ordered.{forms_are_apart}
use Rattle.own_match.proofs.laws.forms_are_apart.Goals as goal

pub returns : goal.returns
returns c = forms_are_apart
