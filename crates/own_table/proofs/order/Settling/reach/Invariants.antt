use Rattle.std.proofs.Common.{◌≢◌, Some, slice_get}
use Rattle.own_table.specs.declared.mark.Mark.TheVariants as mark
use Rattle.own_table.specs.Settling.{Settles, Keeps, work_of}
use Rattle.own_table.proofs.order.Settling.reach.Given as goal

abbrev pub invariant-loop-last : goal.invariant-loop-last
invariant-loop-last l = record {
  settles : Settles l.types l.self;
  kept : Keeps l.fn.self l.self;
  reached : slice_get l.self.marks.items l.number ≢ Some mark.New;
}

abbrev pub decreases-loop-last : goal.decreases-loop-last
decreases-loop-last l = work_of l.self
