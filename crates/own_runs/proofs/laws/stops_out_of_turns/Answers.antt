use Rattle.own_runs.proofs.Proved.{stops_out_of_turns}
use Rattle.own_runs.proofs.laws.stops_out_of_turns.Goals as goal

pub returns : goal.returns
returns c = stops_out_of_turns
