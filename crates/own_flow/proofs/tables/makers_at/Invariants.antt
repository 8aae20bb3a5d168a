use Rattle.std.proofs.Common.{◌≡◌, ℕ, vec_len}
use Rattle.std.specs.Prelude.{◌↔◌, Contains}
use Rattle.own_flow.specs.declared.made.Made.{Made}
use Rattle.own_flow.specs.Flow.{made_at}
use Rattle.own_flow.proofs.TableLaws.{IsMadeFirst}
use Rattle.own_flow.proofs.tables.makers_at.Given as goal

abbrev pub invariant-pairs : goal.invariant-pairs
invariant-pairs l = record {
  len : vec_len l.at ≡ l.nodes;
  made : (u : ℕ) (x : Made) → Contains (made_at l.at.items u) x ↔ IsMadeFirst l.pairs l.leaves l.maker u x.maker x.leaf;
}
