use Rattle.std.proofs.Common.{◌≡◌, drop}
use Rattle.std.specs.List.{list_all}
use Rattle.own_table.specs.Fitting.{is_content}
use Rattle.own_table.proofs.fitting.payloads_fit.Given as goal

abbrev pub invariant-loop-ty : goal.invariant-loop-ty
invariant-loop-ty l = list_all (is_content l.types l.noncopyable) (drop l.ty-index l.payloads) ≡ list_all (is_content l.types l.noncopyable) l.payloads
