use Rattle.std.proofs.Common.{◌≡◌, ◌++◌, map, take}
use Rattle.own_tree.specs.View.{let_pats_of, let_pattern_view}
use Rattle.own_survey.specs.Parts.{all_let_names}
use Rattle.own_survey.proofs.notes.+let_names.Given as goal

abbrev pub invariant-push_let_parts-loop-part : goal.invariant-push_let_parts-loop-part
invariant-push_let_parts-loop-part l = map (λ n. n.now) l.names.items ≡ map (λ n. n.now) l.fn.names.items ++ all_let_names (let_pats_of (map let_pattern_view (take l.part-index l.parts)))
