use Rattle.std.proofs.Common.{◌≡◌, ◌+◌, List, ◌++◌, length, drop, map, slice_get, Some, refl, sym, ap, ◌∙◌, arith}
use Rattle.std.proofs.lemmas.Option.{slice_get_read}
use Rattle.own_shapes.proofs.Lists.{get_contains}
use Rattle.own_tree.specs.declared.place.Place.{Place}
use Rattle.own_paths.specs.Fixed.{place_of}
use Rattle.own_table.specs.Table.{types_in}
use Rattle.own_leaves.proofs.Declared.{property_leaves, property_step, property_end}
use Rattle.own_leaves.proofs.Structs.{few_fields, field_type, opened_is}
use Rattle.own_leaves.proofs.leaves.push_opened.Goals as goal

pub overflow_cast-number : goal.overflow_cast-number
overflow_cast-number c =
    let few = few_fields c.args.table.now c.args.ty c.in-Named.field-0 c.in-Named.is c.requires c.if-not-is_enum.ensures c.fields-field-items.result.now c.fields-field-items.ensures in
    omega (arith, few, c.loop-number-test.true)

pub push_leaves-requires : goal.push_leaves-requires
push_leaves-requires c =
    let fs = c.fields-field-items.result.now in let k = c.loop-number.number in
    let there : slice_get fs k ≡ Some c.field-item.result = slice_get_read fs (length fs) k c.field-item.result refl c.loop-number-test.true c.field-item.is in
    field_type c.args.table.now c.args.ty c.in-Named.field-0 c.in-Named.is c.requires c.if-not-is_enum.ensures fs c.fields-field-items.ensures c.field-item.result (get_contains fs k c.field-item.result there)

pub loop-number-preserved : goal.loop-number-preserved
loop-number-preserved c =
    let fs = c.fields-field-items.result.now in let k = c.loop-number.number in let places = c.loop-number.places in let types = types_in c.args.table.now in
    let there : slice_get fs k ≡ Some c.field-item.result = slice_get_read fs (length fs) k c.field-item.result refl c.loop-number-test.true c.field-item.is in
    ap (λ (l : List Place). l ++ property_leaves types c.args.binding (k + 1) (drop (k + 1) fs)) c.in_ok-push_leaves-in-Named.ensures
    ∙ property_step types c.args.binding k fs places c.field-item.result there ∙ c.loop-number.invariant

pub returns-after-loop-number : goal.returns-after-loop-number
returns-after-loop-number c =
    let fs = c.fields-field-items.result.now in let types = types_in c.args.table.now in
    sym (property_end types c.args.binding c.loop-number.number fs c.loop-number.places c.loop-number-test.false) ∙ c.loop-number.invariant
    ∙ ap (λ ps. c.args.places.now ++ map (place_of c.args.binding) ps)
    (sym (opened_is c.args.table.now c.args.ty c.in-Named.field-0 c.in-Named.is c.requires c.if-not-is_enum.ensures fs c.fields-field-items.ensures))
