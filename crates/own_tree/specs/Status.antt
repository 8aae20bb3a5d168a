-- The exit status of each outcome.
use Rattle.std.specs.Prelude.{ℕ}
use Rattle.own_tree.specs.declared.status.Status.{Status}
use Rattle.own_tree.specs.declared.status.Status.TheVariants as status

abbrev pub code_of : Status → ℕ
code_of status.Done = 0
code_of status.Refused = 1
code_of status.Usage = 2
code_of status.Trapped = 3
code_of status.OutOfSteps = 4
code_of status.Memory = 5
code_of status.ReadFault = 6
code_of status.WriteFault = 7
code_of status.BadModule = 8
