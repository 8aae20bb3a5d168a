use Rattle.own_reached.proofs.OnTraces.{on_traces}
use Rattle.own_reached.proofs.laws.facts_are_of_traces.Goals as goal

pub returns : goal.returns
returns c = on_traces
