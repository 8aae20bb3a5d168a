use Rattle.std.proofs.Common.{◌++◌, length, take, sym, ap, ◌∙◌, arith}
use Rattle.std.proofs.lemmas.List.{length-append, append_assoc, take_all}
use Rattle.wasm_form.specs.declared.module.LocalGroup.{LocalGroup}
use Rattle.wasm_form.specs.declared.types.ValueType.TheVariants as type
use Rattle.wasm_form.specs.Steps.{zeros}
use Rattle.wasm_form.specs.Within.{count_locals}
use Rattle.wasm_run.proofs.Zeros.{zeros_more, count_within, length-zeros}
use Rattle.wasm_run.proofs.state.calls.add_zeros.Goals as goal

pub add_group-requires : goal.add_group-requires
add_group-requires c =
    let d : LocalGroup = record { count = 0; value_type = type.I32 } in
    let l = ap length c.loop-group.invariant.items in
    let a = length-append c.args.locals.now.items (zeros (take c.loop-group.group-index c.args.groups.now)) in
    let z = length-zeros (take c.loop-group.group-index c.args.groups.now) in
    let w = count_within c.args.groups.now c.loop-group.group-index d c.loop-group-test.true in
    let r = c.requires in
    let k = c.loop-group.invariant.capacity in
    omega (arith, l, a, z, w, r, k)

pub loop-group-preserved : goal.loop-group-preserved
loop-group-preserved c =
    let d : LocalGroup = record { count = 0; value_type = type.I32 } in
    let gs = c.args.groups.now in
    let k = c.loop-group.group-index in
    record {
      items = c.add_group.ensures.items ∙ rw c.loop-group.invariant.items (append_assoc c.args.locals.now.items (zeros (take k gs)) _ ∙ ap (λ vs. c.args.locals.now.items ++ vs) (sym (zeros_more gs k d c.loop-group-test.true)));
      capacity = c.add_group.ensures.capacity ∙ c.loop-group.invariant.capacity;
    }

pub returns-clause-len : goal.returns-clause-len
returns-clause-len c =
    let gs = c.args.groups.now in
    let k = c.loop-group.group-index in
    let l = ap length c.loop-group.invariant.items in
    let a = length-append c.args.locals.now.items (zeros (take k gs)) in
    let z = length-zeros (take k gs) in
    let w = ap count_locals (take_all k gs (omega (arith, c.loop-group-test.false))) in
    omega (arith, l, a, z, w)
