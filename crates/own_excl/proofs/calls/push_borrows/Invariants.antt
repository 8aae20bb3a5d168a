use Rattle.std.proofs.Common.{◌≡◌, ◌++◌, drop}
use Rattle.own_paths.specs.Fixed.{only_borrows}
use Rattle.own_excl.specs.View.{accesses_view}
use Rattle.own_excl.proofs.calls.push_borrows.Given as goal

abbrev pub invariant-loop-access : goal.invariant-loop-access
invariant-loop-access l =
    accesses_view l.claims.items ++ only_borrows (accesses_view (drop l.access-index l.held)) ≡ accesses_view l.fn.claims.items ++ only_borrows (accesses_view l.held)
