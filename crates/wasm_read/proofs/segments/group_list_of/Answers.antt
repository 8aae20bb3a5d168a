use Rattle.std.proofs.Common.{◌≡◌, [], sym, ap, ◌∙◌}
use Rattle.std.proofs.lemmas.Result.{err_from_is_err_and}
use Rattle.wasm_read.specs.Reading.{list_at}
use Rattle.wasm_read.specs.Entries.{group_at, group_behind}
use Rattle.wasm_read.proofs.Loops.{goes_on, fails, ends, locals_pushed}
use Rattle.wasm_read.proofs.segments.group_list_of.Goals as goal

pub returns-in_err-group : goal.returns-in_err-group
returns-in_err-group c =
    let p = err_from_is_err_and c.from_residual-in_err-group.result c.from_residual-in_err-group.ensures.1 in
    let behind : group_at c.loop.total c.loop.rest.now ≡ group_behind c.args.parameters c.loop.groups.items c.loop.rest.now = ap (λ t. group_at t c.loop.rest.now) c.loop.invariant.counts in
    rw (p.1, p.2) (fails c.in_err-group.field-0.0 (group_behind c.args.parameters) c.loop.groups.items c.args.count c.loop.counter c.loop.rest.now (list_at (group_behind c.args.parameters) [] c.args.count c.args.bytes.now) c.loop-test.true (rw behind at c.in_err-group.ensures.gives) c.loop.invariant.reads)

pub loop-preserved : goal.loop-preserved
loop-preserved c =
    let behind : group_at c.loop.total c.loop.rest.now ≡ group_behind c.args.parameters c.loop.groups.items c.loop.rest.now = ap (λ t. group_at t c.loop.rest.now) c.loop.invariant.counts in
    record {
      reads = rw c.in_ok-push.ensures.items (goes_on (group_behind c.args.parameters) c.loop.groups.items c.args.count c.loop.counter c.loop.rest.now c.in_ok-group.group c.in_ok-group.after.now (list_at (group_behind c.args.parameters) [] c.args.count c.args.bytes.now) c.loop-test.true (sym behind ∙ c.in_ok-group.ensures.gives) c.loop.invariant.reads);
      counts = rw c.in_ok-push.ensures.items (locals_pushed c.args.parameters c.loop.total c.loop.groups.items c.in_ok-group.group c.loop.invariant.counts);
    }

pub returns : goal.returns
returns c = rw c.from_vec.ensures (ends (group_behind c.args.parameters) c.loop.groups.items c.args.count c.loop.counter c.loop.rest.now (list_at (group_behind c.args.parameters) [] c.args.count c.args.bytes.now) c.loop-test.false c.loop.invariant.reads)
