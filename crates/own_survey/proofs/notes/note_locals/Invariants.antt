use Rattle.std.proofs.Common.{◌≡◌, map, take}
use Rattle.own_tree.specs.View.{stms_of, stmt_view}
use Rattle.own_survey.specs.Parts.{local_names}
use Rattle.own_survey.proofs.notes.note_locals.Given as goal

abbrev pub invariant-loop-statement : goal.invariant-loop-statement
invariant-loop-statement l = (l.survey ≡ l.fn.survey) × (map (λ n. n.now) l.names.items ≡ local_names (stms_of (map stmt_view (take l.statement-index l.statements))))
