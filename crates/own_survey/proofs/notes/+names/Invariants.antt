use Rattle.std.proofs.Common.{◌≡◌, ◌++◌, map, take}
use Rattle.own_tree.specs.View.{pats_of, pattern_view}
use Rattle.own_survey.specs.Parts.{all_pat_names}
use Rattle.own_survey.proofs.notes.+names.Given as goal

abbrev pub invariant-push_parts-loop-part : goal.invariant-push_parts-loop-part
invariant-push_parts-loop-part l = map (λ n. n.now) l.names.items ≡ map (λ n. n.now) l.fn.names.items ++ all_pat_names (pats_of (map pattern_view (take l.part-index l.parts)))
