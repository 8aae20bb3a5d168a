use Rattle.std.proofs.Common.{◌≡◌, true, false, not, ◌&&◌, sym, ◌∙◌, subst}
use Rattle.own_shapes.specs.Places.{is_prefix}
use Rattle.own_shapes.specs.Types.{leaves}
use Rattle.own_table.specs.Table.{shape_in_table}
use Rattle.own_leaves.proofs.Declared.{lies_more}
use Rattle.own_leaves.proofs.effects.lies_in_leaf.Goals as goal

pub returns-then-is_part : goal.returns-then-is_part
returns-then-is_part c =
    let leaf = c.leaf.result.now in
    let is = subst (λ fs. true ≡ (is_prefix leaf fs && not (is_prefix fs leaf))) c.as_slice-fields.ensures c.if-is_part.ensures in
    sym (lies_more c.args.place.now (leaves (shape_in_table c.args.table.now c.args.ty)) c.loop-k.k leaf true c.leaf.ensures is) ∙ c.loop-k.invariant

pub loop-k-preserved : goal.loop-k-preserved
loop-k-preserved c =
    let leaf = c.leaf.result.now in
    let is = subst (λ fs. false ≡ (is_prefix leaf fs && not (is_prefix fs leaf))) c.as_slice-fields.ensures c.if-is_part.ensures in
    sym (lies_more c.args.place.now (leaves (shape_in_table c.args.table.now c.args.ty)) c.loop-k.k leaf false c.leaf.ensures is) ∙ c.loop-k.invariant
