use Rattle.std.proofs.Common.{◌≡◌, drop}
use Rattle.own_survey.specs.Names.{written_in}
use Rattle.own_survey.specs.TextWalks.{payloads_walk}
use Rattle.own_survey.proofs.declarations.walk_payloads.Given as goal

abbrev pub invariant-loop-payload : goal.invariant-loop-payload
invariant-loop-payload l = payloads_walk (written_in l.fn.names) l.fn.noncopyable (drop l.payload-index l.payloads) l.survey ≡ payloads_walk (written_in l.fn.names) l.fn.noncopyable l.payloads l.fn.survey
