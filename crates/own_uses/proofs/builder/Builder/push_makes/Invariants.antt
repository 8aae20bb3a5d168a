use Rattle.std.proofs.Common.{◌≡◌, ◌++◌, map, drop}
use Rattle.own_tree.specs.OpView.{op_view}
use Rattle.own_paths.specs.Ops.{make}
use Rattle.own_uses.specs.Building.{types_for, program_for}
use Rattle.own_uses.proofs.builder.Builder.push_makes.Given as goal

abbrev pub invariant-loop-number : goal.invariant-loop-number
invariant-loop-number l =
    map op_view l.parts ++ map (make (types_for l.self) (program_for l.self) l.at) (drop l.number-index l.numbers)
    ≡ map op_view l.fn.parts ++ map (make (types_for l.self) (program_for l.self) l.at) l.numbers
