use Rattle.std.proofs.Common.{◌≡◌, ◌++◌, drop}
use Rattle.own_excl.specs.Found.{changes_claim}
use Rattle.own_excl.specs.View.{changes_view, accesses_view}
use Rattle.own_excl.proofs.calls.push_claims.Given as goal

abbrev pub invariant-loop-change : goal.invariant-loop-change
invariant-loop-change l =
    accesses_view l.claims.items ++ changes_claim (changes_view (drop l.change-index l.changes)) ≡ accesses_view l.fn.claims.items ++ changes_claim (changes_view l.changes)
