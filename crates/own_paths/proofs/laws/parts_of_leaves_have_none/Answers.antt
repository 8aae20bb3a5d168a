use Rattle.own_paths.proofs.Proved.{parts_of_leaves_have_none}
use Rattle.own_paths.proofs.laws.parts_of_leaves_have_none.Goals as goal

pub returns : goal.returns
returns c = parts_of_leaves_have_none
