use Rattle.own_match.proofs.Ordered.{values_have_forms}
use Rattle.own_match.proofs.laws.values_have_forms.Goals as goal

pub returns : goal.returns
returns c = values_have_forms
