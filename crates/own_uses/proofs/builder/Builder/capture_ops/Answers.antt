use Rattle.std.proofs.Common.{map, ap, ◌∙◌}
use Rattle.own_tree.specs.declared.op.OpKind.TheVariants as kind
use Rattle.own_tree.specs.OpSource.{in_order}
use Rattle.own_paths.specs.Captures.{Captured}
use Rattle.own_paths.specs.Ops.{op_of}
use Rattle.own_shapes.specs.Places.{whole}
use Rattle.own_shapes.specs.Spans.{opening}
use Rattle.own_uses.specs.Building.{captured_ops}
use Rattle.own_uses.proofs.BindingLaws.{captured_trees}
use Rattle.own_uses.proofs.builder.Builder.capture_ops.Goals as goal

pub returns : goal.returns
returns c =
    let at = c.args.at in
    c.in_order.ensures
    ∙ ap in_order (c.in_ok-captured_ops.ensures ∙ ap (captured_ops at) c.as_slice.ensures ∙ captured_trees at c.in_ok-captured.captured
    ∙ ap (map (λ (m : Captured). op_of kind.Capture (whole m.binding) (opening at.span) at.id)) c.in_ok-captured.ensures)
