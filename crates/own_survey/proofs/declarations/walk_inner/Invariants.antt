use Rattle.std.proofs.Common.{◌≡◌, drop}
use Rattle.own_survey.specs.Names.{written_in}
use Rattle.own_survey.specs.TextWalks.{inner_walk}
use Rattle.own_survey.proofs.declarations.walk_inner.Given as goal

abbrev pub invariant-loop-parameter : goal.invariant-loop-parameter
invariant-loop-parameter l = inner_walk (written_in l.fn.names) (drop l.parameter-index l.parameters) l.survey ≡ inner_walk (written_in l.fn.names) l.parameters l.fn.survey
