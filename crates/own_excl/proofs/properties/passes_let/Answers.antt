use Rattle.std.proofs.Common.{◌+◌, drop, Some, None, refl}
use Rattle.own_shapes.specs.Types.{passes_let}
use Rattle.own_table.specs.Table.{shape_in_table}
use Rattle.own_excl.proofs.Ways.{on_way, on_var, on_let, on_none}
use Rattle.own_excl.proofs.properties.passes_let.Goals as goal

pub returns-then-not-property : goal.returns-then-not-property
returns-then-not-property c =
    let table = c.args.table.now in
    let fields = c.args.fields.now in
    let i = c.loop-number.number-index in
    let f = c.in-Some.property.now in
    let all = passes_let (shape_in_table table c.args.ty) fields in
    on_let table (drop (i + 1) fields) f (Some f) all refl c.if-not-property.true
    (on_way table fields i c.loop-number.ty (Some f) all c.loop-number-test.true c.in-Some.ensures c.loop-number.invariant)

pub loop-number-preserved : goal.loop-number-preserved
loop-number-preserved c =
    let table = c.args.table.now in
    let fields = c.args.fields.now in
    let i = c.loop-number.number-index in
    let f = c.in-Some.property.now in
    let all = passes_let (shape_in_table table c.args.ty) fields in
    on_var table (drop (i + 1) fields) f (Some f) all refl c.if-not-property.false
    (on_way table fields i c.loop-number.ty (Some f) all c.loop-number-test.true c.in-Some.ensures c.loop-number.invariant)

pub returns-in-None : goal.returns-in-None
returns-in-None c =
    let table = c.args.table.now in
    let fields = c.args.fields.now in
    let i = c.loop-number.number-index in
    let all = passes_let (shape_in_table table c.args.ty) fields in
    on_none table (drop (i + 1) fields) None all refl
    (on_way table fields i c.loop-number.ty None all c.loop-number-test.true c.in-None.ensures c.loop-number.invariant)
