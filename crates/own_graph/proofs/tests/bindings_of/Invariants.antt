use Rattle.std.specs.Prelude.{All}
use Rattle.own_table.specs.Table.{IsTypeIn}
use Rattle.own_graph.proofs.tests.bindings_of.Given as goal

abbrev pub invariant-loop-ty : goal.invariant-loop-ty
invariant-loop-ty g l = All (λ b. IsTypeIn l.table b.ty) l.bindings.items
