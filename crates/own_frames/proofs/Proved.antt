-- The laws, as the contracts name them.
use Rattle.own_frames.specs.Laws.{granted_by, CallsAreFramed, LendingChangesNothing, RunsEndEmpty}
use Rattle.own_frames.specs.Leaves.{WholeFromLeaves, LeavesAreEmptied}
use Rattle.own_frames.specs.Reading.{reach_of}
use Rattle.own_frames.specs.Writes.{WritesAreSeen}
use Rattle.own_frames.proofs.Frames.{run_frames}
use Rattle.own_frames.proofs.Leaves as leaves
use Rattle.own_frames.proofs.Locations as locations
use Rattle.own_frames.proofs.Whole as whole

pub calls_are_framed : CallsAreFramed
calls_are_framed types program tame depth tests =
    run_frames types program (reach_of types program) tame depth (granted_by tests)

pub lending_changes_nothing : LendingChangesNothing
lending_changes_nothing types program tame = whole.lending_changes_nothing types program (reach_of types program) tame

pub runs_end_empty : RunsEndEmpty
runs_end_empty types program tame = whole.runs_end_empty types program (reach_of types program) tame

pub writes_are_seen : WritesAreSeen
writes_are_seen = locations.writes_are_seen

pub whole_from_leaves : WholeFromLeaves
whole_from_leaves = leaves.whole_from_leaves

pub leaves_are_emptied : LeavesAreEmptied
leaves_are_emptied = leaves.leaves_are_emptied
