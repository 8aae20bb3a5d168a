use Rattle.std.proofs.Common.{◌≡◌, ℕ, ◌+◌, if◌then◌else◌, sym, ap, ◌∙◌}
use Rattle.own_shapes.specs.Types.{leaves}
use Rattle.own_table.specs.Table.{shape_in_table}
use Rattle.own_uses.proofs.LeafLaws.{leaf_more}
use Rattle.own_uses.proofs.leaves.leaves_below.Goals as goal
use Rattle.own_uses.proofs.leaves.leaves_below.Goals.{then-is_prefix, else-is_prefix}

pub loop-number-preserved : goal.loop-number-preserved
loop-number-preserved c =
    let n : ℕ = c.loop-number.count in
    let counts : c.if-is_prefix.count ≡ (if c.is_prefix.result then n + 1 else n) = elim c.if-is_prefix.branch [
      | then-is_prefix w ↦ w.count-is ∙ sym (ap (λ b. if b then n + 1 else n) w.if-is_prefix.true)
      | else-is_prefix w ↦ w.count-is ∙ sym (ap (λ b. if b then n + 1 else n) w.if-is_prefix.false)
    ] in
    let more = leaf_more c.args.fields.now (leaves (shape_in_table c.args.table.now c.args.ty)) c.loop-number.number c.leaf.result.now c.is_prefix.result n c.if-is_prefix.count
    c.leaf.ensures c.is_prefix.ensures counts c.loop-number.invariant.few c.loop-number.invariant.sum in
    record { few = more.0; sum = more.1 }
