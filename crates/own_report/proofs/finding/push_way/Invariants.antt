use Rattle.std.proofs.Common.{◌≡◌, ◌++◌, drop}
use Rattle.own_report.specs.Findings.{way_text}
use Rattle.own_table.specs.Table.{types_in}
use Rattle.own_report.proofs.finding.push_way.Given as goal

abbrev pub invariant-loop-number : goal.invariant-loop-number
invariant-loop-number l =
    l.line.items ++ way_text (types_in l.table) l.ty (drop l.number-index l.fields) ≡ l.fn.line.items ++ way_text (types_in l.table) l.fn.ty l.fields
