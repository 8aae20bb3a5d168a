use Rattle.own_steady.proofs.Proved.{only_turns_cut_runs}
use Rattle.own_steady.proofs.laws.only_turns_cut_runs.Goals as goal

pub returns : goal.returns
returns c = only_turns_cut_runs
