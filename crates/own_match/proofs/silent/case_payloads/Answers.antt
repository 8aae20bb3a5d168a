-- The payloads that were read are those of the case of that number.
use Rattle.std.proofs.Common.{◌≡◌, Some, slice_get, ap, sym, refl, ◌∙◌, subst}
use Rattle.own_shapes.specs.Types.{shapes_of, payloads_of, case_types}
use Rattle.own_table.specs.Table.{shape_in_table}
use Rattle.own_match.specs.Search.{payloads_at}
use Rattle.own_match.specs.View.{AreTypes}
use Rattle.own_match.proofs.Enums.{case_payloads_of, payloads_got, payloads_absent, case_types_in, case_at, got}
use Rattle.own_match.proofs.silent.case_payloads.Goals as goal

pub returns-in-Some-clause-held : goal.returns-in-Some-clause-held
returns-in-Some-clause-held c =
    let table = c.args.table.now in
    let S = shape_in_table table in
    let items = c.cases.result.now in
    let k = c.args.case in
    let info = c.in-Some.info.now in
    let at : slice_get items k ≡ Some info = got items k info c.in-Some.ensures.lookup.3.0 c.in-Some.ensures.lookup.1 in
    ap (shapes_of S) c.as_slice.ensures
    ∙ sym (case_payloads_of table c.args.ty k c.requires.typed c.requires.is_enum ∙ ap (λ xs. payloads_at (payloads_of S (case_types xs)) k) (sym c.cases.ensures) ∙ payloads_got table items k info at)

pub returns-in-Some-clause-typed : goal.returns-in-Some-clause-typed
returns-in-Some-clause-typed c =
    let table = c.args.table.now in
    let items = c.cases.result.now in
    let k = c.args.case in
    let info = c.in-Some.info.now in
    let at : slice_get items k ≡ Some info = got items k info c.in-Some.ensures.lookup.3.0 c.in-Some.ensures.lookup.1 in
    subst (AreTypes table) (sym c.as_slice.ensures)
    (case_types_in table c.args.ty k info c.requires.typed (c.requires.is_enum, case_at table c.args.ty items k k info c.cases.ensures refl at))

pub returns-in-None-clause-held : goal.returns-in-None-clause-held
returns-in-None-clause-held c =
    let table = c.args.table.now in
    let S = shape_in_table table in
    let k = c.args.case in
    sym (case_payloads_of table c.args.ty k c.requires.typed c.requires.is_enum ∙ ap (λ xs. payloads_at (payloads_of S (case_types xs)) k) (sym c.cases.ensures)
    ∙ payloads_absent table c.cases.result.now k c.in-None.ensures.lookup.3)
