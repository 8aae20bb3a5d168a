use Rattle.std.proofs.Common.{◌≡◌, ◌++◌, map, drop, slice_get}
use Rattle.own_tree.specs.OpView.{op_view}
use Rattle.own_paths.specs.Ops.{at_entry}
use Rattle.own_uses.specs.Building.{program_for}
use Rattle.own_uses.proofs.builder.Builder.push_entries.Given as goal

abbrev pub invariant-loop-number : goal.invariant-loop-number
invariant-loop-number l =
    map op_view l.parts ++ map (λ x. at_entry x (slice_get (program_for l.self).bindings x)) (drop l.number-index l.params)
    ≡ map op_view l.fn.parts ++ map (λ x. at_entry x (slice_get (program_for l.self).bindings x)) l.params
