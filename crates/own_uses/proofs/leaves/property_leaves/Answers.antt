use Rattle.std.proofs.Common.{ℕ}
use Rattle.std.proofs.lemmas.List.{at_drop_all}
use Rattle.std.proofs.Common.{length}
use Rattle.own_shapes.specs.Types.{leaves_from, shapes_of, field_types}
use Rattle.own_table.specs.Table.{shape_in_table}
use Rattle.own_uses.proofs.TallyLaws.{held_done}
use Rattle.own_uses.proofs.leaves.property_leaves.Goals as goal

pub returns : goal.returns
returns c =
    let i : ℕ = c.loop-property.property-index in
    held_done c.loop-property.sum _ _ c.loop-property.invariant.fits (at_drop_all (λ ps. length (leaves_from i (shapes_of (shape_in_table c.args.table.now) (field_types ps)))) c.args.properties.now i c.loop-property-test.false) c.loop-property.invariant.sum
