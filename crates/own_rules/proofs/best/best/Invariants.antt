use Rattle.own_rules.proofs.Sorting.{AreBestOf}
use Rattle.own_rules.proofs.best.best.Given as goal

abbrev pub invariant-found : goal.invariant-found
invariant-found l = AreBestOf l.found.items l.k l.best.items
