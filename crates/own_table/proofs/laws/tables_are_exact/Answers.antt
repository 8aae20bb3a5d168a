use Rattle.own_table.proofs.Built.{tables_are_exact}
use Rattle.own_table.proofs.laws.tables_are_exact.Goals as goal

pub returns : goal.returns
returns c = tables_are_exact
