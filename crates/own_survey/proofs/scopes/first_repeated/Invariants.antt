use Rattle.std.proofs.Common.{◌≡◌, map, take, drop}
use Rattle.own_survey.specs.Judgements.{repeated, repeated_after}
use Rattle.own_survey.proofs.scopes.first_repeated.Given as goal

abbrev pub invariant-loop-name : goal.invariant-loop-name
invariant-loop-name l =
    (map (λ k. k.now) l.seen.keys ≡ map (λ n. n.now.text) (take l.name-index l.names))
    × (repeated (map (λ n. n.now) l.names) ≡ repeated_after (map (λ n. n.now) (take l.name-index l.names)) (map (λ n. n.now) (drop l.name-index l.names)))
