use Rattle.own_frames.proofs.Proved.{lending_changes_nothing}
use Rattle.own_frames.proofs.laws.lending_changes_nothing.Goals as goal

pub returns : goal.returns
returns c = lending_changes_nothing
