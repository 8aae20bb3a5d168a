use Rattle.std.proofs.Common.{◌≡◌, ◌++◌, drop}
use Rattle.own_excl.specs.Found.{changes_found}
use Rattle.own_excl.specs.View.{changes_view, breaks_view, types_for, program_for}
use Rattle.own_excl.proofs.walk.Walk.push_changes.Given as goal

abbrev pub invariant-loop-change : goal.invariant-loop-change
invariant-loop-change l =
    breaks_view l.breaks.items ++ changes_found (types_for l.self) (program_for l.self) l.self.body (changes_view (drop l.change-index l.changes)) ≡ breaks_view l.fn.breaks.items ++ changes_found (types_for l.self) (program_for l.self) l.self.body (changes_view l.changes)
