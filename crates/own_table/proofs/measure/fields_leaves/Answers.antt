use Rattle.std.proofs.Common.{◌+◌, ◌++◌, drop, sym, ap, ◌∙◌}
use Rattle.own_table.specs.ByParts.{field_leaves}
use Rattle.own_table.proofs.Measured.{fields_step}
use Rattle.own_table.proofs.measure.fields_leaves.Goals as goal

pub loop-number-preserved : goal.loop-number-preserved
loop-number-preserved c =
    let ms = c.args.measures.now in let fs = c.args.fields.now in let i = c.loop-number.number in
    ap (λ ls. ls ++ field_leaves ms (i + 1) (drop (i + 1) fs)) c.in_ok-push_part.ensures
    ∙ sym (fields_step ms fs i c.index-fields-number.result c.loop-number.leaves c.loop-number-test.true c.index-fields-number.is)
    ∙ c.loop-number.invariant
