use Rattle.std.proofs.Common.{true, false}
use Rattle.own_shapes.specs.Types.{leaves}
use Rattle.own_table.specs.Table.{shape_in_table}
use Rattle.own_uses.proofs.LeafLaws.{above_more}
use Rattle.own_excl.proofs.leaves.leaf_above.Goals as goal

pub returns-then-is_above : goal.returns-then-is_above
returns-then-is_above c =
    above_more c.args.fields.now (leaves (shape_in_table c.args.table.now c.args.ty)) c.loop-number.number c.leaf.result.now c.is_above.result true
    c.leaf.ensures c.is_above.ensures c.if-is_above.true c.loop-number.invariant

pub loop-number-preserved : goal.loop-number-preserved
loop-number-preserved c =
    above_more c.args.fields.now (leaves (shape_in_table c.args.table.now c.args.ty)) c.loop-number.number c.leaf.result.now c.is_above.result false
    c.leaf.ensures c.is_above.ensures c.if-is_above.false c.loop-number.invariant
