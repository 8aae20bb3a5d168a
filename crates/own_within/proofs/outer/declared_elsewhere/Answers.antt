use Rattle.std.proofs.Common.{◌≡◌, false, slice_get, get_or}
use Rattle.std.specs.Option.{option_copied}
use Rattle.own_paths.specs.Captures.{declared_elsewhere}
use Rattle.own_within.specs.declared.captured.Captured.{Captured}
use Rattle.own_within.specs.View.{captured_seen}
use Rattle.own_within.proofs.Elsewhere.{elsewhere_more}
use Rattle.own_within.proofs.outer.declared_elsewhere.Goals as goal

pub loop-mention-preserved : goal.loop-mention-preserved
loop-mention-preserved c =
    let none : Captured = record { binding = 0; change = false } in
    let ms = c.args.mentions.now in
    let i = c.loop-mention.mention-index in
    let at : option_copied c.get.result ≡ slice_get c.args.bindings.now (get_or ms i none).binding = c.get.ensures.value in
    elsewhere_more c.args.bindings.now c.args.body ms i none (option_copied c.get.result) c.is_elsewhere-is_wanted.result
    (captured_seen c.loop-mention.outer.items) (captured_seen c.push_if.new.outer.items) (declared_elsewhere c.args.bindings.now c.args.body (captured_seen ms))
    c.loop-mention-test.true at c.is_elsewhere-is_wanted.ensures c.in_ok-push_if.ensures c.loop-mention.invariant
