use Rattle.own_table.specs.Table.{types_in}
use Rattle.own_tree.specs.TypedView.{program_view}
use Rattle.own_tool.proofs.Checking.{refusal_said, found_said}
use Rattle.own_tool.proofs.check.refused_lines.Goals as goal

pub returns-in-Refusal : goal.returns-in-Refusal
returns-in-Refusal c =
    refusal_said c.args.file.now c.args.text.now c.in-Refusal.refusal c.refusal_text.result c.requires c.refusal_text.ensures

pub returns-in-Findings : goal.returns-in-Findings
returns-in-Findings c =
    found_said c.args.file.now c.args.text.now (types_in c.in-Findings.table) (program_view c.in-Findings.typed) c.as_slice.result.now c.finding_lines.result c.requires c.finding_lines.ensures
