use Rattle.std.proofs.Common.{◌≡◌, drop}
use Rattle.own_match.specs.Search.{any_live}
use Rattle.own_match.proofs.found.any_live.Given as goal

abbrev pub invariant-loop-live : goal.invariant-loop-live
invariant-loop-live l = any_live (drop l.live-index l.live) ≡ any_live l.live
