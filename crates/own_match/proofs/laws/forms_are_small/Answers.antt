use Rattle.own_match.proofs.Small.{forms_are_small}
use Rattle.own_match.proofs.laws.forms_are_small.Goals as goal

pub returns : goal.returns
returns c = forms_are_small
