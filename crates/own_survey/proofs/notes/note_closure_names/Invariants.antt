use Rattle.std.proofs.Common.{◌≡◌, map, take}
use Rattle.own_survey.specs.Parts.{closure_names}
use Rattle.own_survey.proofs.notes.note_closure_names.Given as goal

abbrev pub invariant-loop-written_name : goal.invariant-loop-written_name
invariant-loop-written_name l = map (λ n. n.now) l.names.items ≡ closure_names (take l.written_name-index l.written)
