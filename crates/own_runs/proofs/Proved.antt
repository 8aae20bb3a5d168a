-- The laws, as the contracts name them.
use Rattle.own_runs.specs.Laws.{RunsGoOn, OutputsGoOn, DepthsAgree, StopsOutOfTurns, WritesAreRead, WritesStayApart, UntouchedByLongRuns, OnceByLongRuns}
use Rattle.own_runs.proofs.Depths as depths
use Rattle.own_runs.proofs.GoingOn as going
use Rattle.own_runs.proofs.LongRuns as long
use Rattle.own_runs.proofs.Parts as parts

pub runs_go_on : RunsGoOn
runs_go_on = going.runs_go_on

pub outputs_go_on : OutputsGoOn
outputs_go_on = going.outputs_go_on

pub depths_agree : DepthsAgree
depths_agree = depths.depths_agree

pub stops_out_of_turns : StopsOutOfTurns
stops_out_of_turns = depths.stops_out_of_turns

pub writes_are_read : WritesAreRead
writes_are_read = parts.writes_are_read

pub writes_stay_apart : WritesStayApart
writes_stay_apart = parts.writes_stay_apart

pub untouched_by_long_runs : UntouchedByLongRuns
untouched_by_long_runs = long.untouched_by_long_runs

pub once_by_long_runs : OnceByLongRuns
once_by_long_runs = long.once_by_long_runs
