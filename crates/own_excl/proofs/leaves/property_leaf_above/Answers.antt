use Rattle.std.proofs.Common.{◌≡◌, ℕ, Some, None, List, length, slice_get, option_map, sym, ap, ◌∙◌}
use Rattle.std.proofs.lemmas.List.{nil_from_length}
use Rattle.std.proofs.lemmas.Option.{slice_get-map, slice_get_read, slice_get_past}
use Rattle.own_shapes.specs.Types.{leaves_from, shapes_of, field_types}
use Rattle.own_shapes.specs.declared.info.FieldInfo.{FieldInfo}
use Rattle.own_table.specs.declared.table.TypeTable.{TypeTable}
use Rattle.own_table.specs.Table.{shape_in_table}
use Rattle.own_uses.specs.Leaves.{one_above}
use Rattle.own_uses.proofs.LeafLaws.{none_above, above_in, property_above}
use Rattle.own_excl.proofs.leaves.property_leaf_above.Goals as goal

abbrev all : TypeTable → List FieldInfo → List (List ℕ)
all table properties = leaves_from 0 (shapes_of (shape_in_table table) (field_types properties))

pub returns-in-None : goal.returns-in-None
returns-in-None c =
    let empty = nil_from_length c.args.fields.now c.in-None.ensures.cases in
    let ls = all c.args.table.now c.args.properties.now in
    sym (ap (λ fields. one_above fields ls) empty ∙ none_above ls)

pub returns-in-Some-get : goal.returns-in-Some-get
returns-in-Some-get c =
    let table = c.args.table.now in
    let properties = c.args.properties.now in
    let k = c.in-Some.number.now in
    let inner = c.in-Some.inner.now in
    let there : slice_get properties k ≡ Some c.in-Some-get.property.now = slice_get_read properties (length properties) k c.in-Some-get.property.now (λ i. length properties) c.in-Some-get.ensures.lookup.3.0 c.in-Some-get.ensures.lookup.1 in
    let at : slice_get (field_types properties) k ≡ Some c.in-Some-get.property.now.ty = slice_get-map (λ (f : FieldInfo). f.ty) properties k ∙ ap (option_map (λ (f : FieldInfo). f.ty)) there in
    c.leaf_above.ensures ∙ sym (ap (λ fields. one_above fields (all table properties)) c.in-Some.ensures.cases.0
    ∙ property_above (shape_in_table table) k inner (field_types properties) ∙ ap (above_in (shape_in_table table) inner) at)

pub returns-in-None-get : goal.returns-in-None-get
returns-in-None-get c =
    let table = c.args.table.now in
    let properties = c.args.properties.now in
    let k = c.in-Some.number.now in
    let inner = c.in-Some.inner.now in
    let at : slice_get (field_types properties) k ≡ None =
    slice_get-map (λ (f : FieldInfo). f.ty) properties k ∙ ap (option_map (λ (f : FieldInfo). f.ty)) (slice_get_past properties k c.in-None-get.ensures.lookup.3) in
    sym (ap (λ fields. one_above fields (all table properties)) c.in-Some.ensures.cases.0
    ∙ property_above (shape_in_table table) k inner (field_types properties) ∙ ap (above_in (shape_in_table table) inner) at)
