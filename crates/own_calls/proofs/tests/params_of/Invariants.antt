use Rattle.std.specs.Prelude.{All}
use Rattle.own_table.specs.Table.{IsTypeIn}
use Rattle.own_calls.proofs.tests.params_of.Given as goal

abbrev pub invariant-loop-label : goal.invariant-loop-label
invariant-loop-label g l = All (λ p. IsTypeIn l.table p.ty) l.params.items
