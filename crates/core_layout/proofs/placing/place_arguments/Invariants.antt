use Rattle.std.proofs.Common.{length}
use Rattle.core_layout.proofs.placing.place_arguments.Given as goal

abbrev pub decreases-loop-argument : goal.decreases-loop-argument
decreases-loop-argument l = length l.left
