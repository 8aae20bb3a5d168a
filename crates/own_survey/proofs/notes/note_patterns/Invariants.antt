use Rattle.std.proofs.Common.{◌≡◌, map, drop}
use Rattle.own_tree.specs.View.{pats_of, pattern_view}
use Rattle.own_survey.specs.Walks.{pats_walk}
use Rattle.own_survey.proofs.notes.note_patterns.Given as goal

abbrev pub invariant-loop-pattern : goal.invariant-loop-pattern
invariant-loop-pattern l = pats_walk (pats_of (map pattern_view (drop l.pattern-index l.patterns))) l.survey ≡ pats_walk (pats_of (map pattern_view l.patterns)) l.fn.survey
