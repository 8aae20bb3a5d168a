use Rattle.std.proofs.Common.{◌≡◌, drop}
use Rattle.own_survey.specs.Names.{written_in}
use Rattle.own_survey.specs.TextWalks.{cases_walk}
use Rattle.own_survey.proofs.declarations.walk_cases.Given as goal

abbrev pub invariant-loop-case : goal.invariant-loop-case
invariant-loop-case l = cases_walk (written_in l.fn.names) l.fn.noncopyable (drop l.case-index l.cases) l.survey ≡ cases_walk (written_in l.fn.names) l.fn.noncopyable l.cases l.fn.survey
