use Rattle.std.proofs.Common.{◌≡◌, ◌++◌, map, take}
use Rattle.own_survey.specs.Parts.{item_names}
use Rattle.own_survey.proofs.text.push_items.Given as goal

abbrev pub invariant-loop-case : goal.invariant-loop-case
invariant-loop-case l = map (λ n. n.now) l.names.items ≡ map (λ n. n.now) l.fn.names.items ++ item_names (take l.case-index l.cases)
