use Rattle.std.proofs.Common.{◌≡◌, ℕ, length, take}
use Rattle.std.specs.Prelude.{◌↔◌}
use Rattle.own_flow.specs.Words.{Has}
use Rattle.own_flow.specs.Flow.{IsKept}
use Rattle.own_flow.proofs.pass.keep.Given as goal

abbrev pub invariant-loop-x : goal.invariant-loop-x
invariant-loop-x l = record {
  len : length l.out ≡ length l.row;
  has : (m : ℕ) → Has l.out m ↔ IsKept l.row (take l.x-index l.made) l.masks m;
}
