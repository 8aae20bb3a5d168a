use Rattle.std.proofs.Common.{◌≡◌, map, take}
use Rattle.own_survey.specs.Parts.{parameter_names}
use Rattle.own_survey.proofs.declarations.note_parameter_names.Given as goal

abbrev pub invariant-loop-parameter : goal.invariant-loop-parameter
invariant-loop-parameter l = (l.survey ≡ l.fn.survey) × (map (λ n. n.now) l.found.items ≡ parameter_names (take l.parameter-index l.parameters))
