use Rattle.std.proofs.Common.{◌≡◌, ◌++◌, drop}
use Rattle.own_table.specs.Table.{types_in}
use Rattle.own_report.specs.Findings.{lines_of}
use Rattle.own_report.proofs.finding.Report.lines.Given as goal

abbrev pub invariant-loop-finding : goal.invariant-loop-finding
invariant-loop-finding l =
    l.lines.items ++ lines_of l.self.file.now l.self.places.text.now (types_in l.self.table.now) l.self.bindings.now (drop l.finding-index l.findings)
    ≡ lines_of l.self.file.now l.self.places.text.now (types_in l.self.table.now) l.self.bindings.now l.findings
