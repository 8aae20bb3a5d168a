use Rattle.std.specs.Option.{option_copied}
use Rattle.own_paths.specs.Ops.{ended}
use Rattle.own_uses.proofs.BindingLaws.{ended_more}
use Rattle.own_uses.proofs.bindings.ended.Goals as goal

pub loop-number-preserved : goal.loop-number-preserved
loop-number-preserved c =
    ended_more c.args.bindings.now c.args.numbers.now c.loop-number.number-index 0 (option_copied c.get.result) c.ends-is_wanted.result
    c.loop-number.row c.push_if.new.row (ended c.args.bindings.now c.args.numbers.now)
    c.loop-number-test.true c.get.ensures.value c.ends-is_wanted.ensures c.in_ok-push_if.ensures c.loop-number.invariant
