-- What an op tree stands for.
use Rattle.own_tree.specs.declared.op.OpTree.{OpTree}
use Rattle.own_tree.specs.declared.op.OpTree.TheOpen.{OpTree-F}
use Rattle.own_tree.specs.declared.op.OpTree.TheFolds.{fold-OpTree}
use Rattle.own_tree.specs.OpSource.{Ops, op, either, loop, catch, scope, break_at, continue_at, return_at, halt, in_order}

abbrev pub op_step : OpTree-F Ops → Ops
op_step (OpTree-F.Op o) = op o
op_step (OpTree-F.Seq ts) = in_order ts
op_step (OpTree-F.Either a b) = either a b
op_step (OpTree-F.Loop a b) = loop a b
op_step (OpTree-F.Catch a) = catch a
op_step (OpTree-F.Scope bs s a) = scope bs s a
op_step (OpTree-F.Break s) = break_at s
op_step (OpTree-F.Continue s) = continue_at s
op_step (OpTree-F.Return s) = return_at s
op_step OpTree-F.Halt = halt

abbrev pub op_view : OpTree → Ops
op_view = fold-OpTree Ops op_step
