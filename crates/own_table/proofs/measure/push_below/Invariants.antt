use Rattle.std.proofs.Common.{◌≡◌, ◌∷◌, ◌++◌, take, map}
use Rattle.own_table.proofs.measure.push_below.Given as goal

abbrev pub invariant-loop-path : goal.invariant-loop-path
invariant-loop-path l = l.leaves ≡ l.initial.leaves ++ map (λ path. l.field ∷ path) (take l.path-index l.part)
