use Rattle.std.proofs.Common.{◌≡◌, drop}
use Rattle.std.specs.List.{list_all}
use Rattle.own_table.specs.Fitting.{is_fit}
use Rattle.own_table.proofs.fitting.are_fit.Given as goal

abbrev pub invariant-loop-info : goal.invariant-loop-info
invariant-loop-info l = list_all (is_fit l.types) (drop l.info-index l.types) ≡ list_all (is_fit l.types) l.types
