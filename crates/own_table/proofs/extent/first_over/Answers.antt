use Rattle.std.proofs.Common.{Some, None, sym, ap, ◌∙◌}
use Rattle.own_table.specs.Extents.{beyond_M8}
use Rattle.own_table.proofs.Extended.{first_here}
use Rattle.own_table.proofs.extent.first_over.Goals as goal

pub returns-in-Some : goal.returns-in-Some
returns-in-Some c =
    sym (sym c.loop-number.invariant
    ∙ first_here c.args.types.now c.requires.apart c.requires.closed c.args.known.now c.requires.known c.loop-number.number c.index-types-number.result c.loop-number-test.true c.index-types-number.is
    (Some c.in-Some.count) (ap beyond_M8 (sym c.type_slots.ensures.value) ∙ sym c.beyond_limit.ensures ∙ c.in-Some.is))

pub loop-number-preserved : goal.loop-number-preserved
loop-number-preserved c =
    sym (sym c.loop-number.invariant
    ∙ first_here c.args.types.now c.requires.apart c.requires.closed c.args.known.now c.requires.known c.loop-number.number c.index-types-number.result c.loop-number-test.true c.index-types-number.is
    None (ap beyond_M8 (sym c.type_slots.ensures.value) ∙ sym c.beyond_limit.ensures ∙ c.in_default.is))
