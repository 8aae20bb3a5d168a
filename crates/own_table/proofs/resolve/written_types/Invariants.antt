use Rattle.std.proofs.Common.{◌≡◌, map, take}
use Rattle.own_survey.specs.Names.{type_in}
use Rattle.own_table.proofs.resolve.written_types.Given as goal

abbrev pub invariant-loop-name : goal.invariant-loop-name
invariant-loop-name l = l.tys ≡ map (λ name. type_in l.names name.text) (take l.name-index l.written)
