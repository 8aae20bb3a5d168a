use Rattle.own_breaks.proofs.Blamed.{breaks_are_blamed}
use Rattle.own_breaks.proofs.laws.breaks_are_blamed.Goals as goal

pub returns : goal.returns
returns c = λ uses nodes entry pairs facts are f. breaks_are_blamed uses nodes entry pairs facts are f
