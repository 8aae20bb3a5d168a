use Rattle.own_table.proofs.Whole.{tables_are_whole}
use Rattle.own_table.proofs.laws.tables_are_whole.Goals as goal

pub returns : goal.returns
returns c = tables_are_whole
