use Rattle.std.proofs.Common.{◌≡◌, drop}
use Rattle.std.specs.List.{list_all}
use Rattle.own_shapes.specs.Types.{all_case_types}
use Rattle.own_table.specs.Fitting.{is_content}
use Rattle.own_table.proofs.fitting.cases_fit.Given as goal

abbrev pub invariant-loop-case : goal.invariant-loop-case
invariant-loop-case l = list_all (is_content l.types l.noncopyable) (all_case_types (drop l.case-index l.cases)) ≡ list_all (is_content l.types l.noncopyable) (all_case_types l.cases)
