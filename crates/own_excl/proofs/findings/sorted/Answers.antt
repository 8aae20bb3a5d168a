use Rattle.std.proofs.Common.{rules}
use Rattle.own_excl.proofs.Ordered.{sorted_by}
use Rattle.own_excl.proofs.findings.sorted.Goals as goal

pub returns-clause-ordered : goal.returns-clause-ordered
returns-clause-ordered c = sorted_by _ c.in_ok-sort_by.ensures.sorted (λ a r q k. search rules)
