use Rattle.std.proofs.Common.{◌≡◌, ◌≢◌, ℕ, ◌<◌, [], Some, slice_get}
use Rattle.own_table.specs.declared.mark.Mark.TheVariants as mark
use Rattle.own_table.specs.Settling.{Settles}
use Rattle.own_table.proofs.order.containment_order.Given as goal

abbrev pub invariant-loop-number : goal.invariant-loop-number
invariant-loop-number l = record {
  settles : Settles l.types l.settling;
  path : l.settling.path.items ≡ [];
  reached : (k : ℕ) → k < l.number → slice_get l.settling.marks.items k ≢ Some mark.New;
}
