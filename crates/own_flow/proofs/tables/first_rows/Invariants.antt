use Rattle.std.proofs.Common.{◌≡◌, ℕ, ◌<◌, length, vec_len}
use Rattle.std.specs.Prelude.{◌↔◌, All}
use Rattle.own_flow.specs.Flow.{HasAt}
use Rattle.own_flow.proofs.tables.first_rows.Given as goal

abbrev pub invariant-leaves : goal.invariant-leaves
invariant-leaves l = record {
  len : vec_len l.rows ≡ l.nodes;
  long : All (λ row. length row ≡ l.words) l.rows.items;
  has : (u m : ℕ) → HasAt l.rows.items u m ↔ ((u ≡ l.entry) × (m < l.leaf));
}
