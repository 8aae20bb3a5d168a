use Rattle.std.proofs.Common.{◌≡◌, ◌∙◌, ℕ, List}
use Rattle.own_tree.specs.declared.finding.Finding.{Finding}
use Rattle.own_tree.specs.declared.place.Binding.{Binding}
use Rattle.own_table.specs.Table.{types_in}
use Rattle.own_table.specs.declared.table.TypeTable.{TypeTable}
use Rattle.own_report.specs.Findings.{lines_of}
use Rattle.own_report.proofs.finding.finding_lines.Goals as goal

same_lines : (file file' text text' : List ℕ) (table table' : TypeTable) (bindings bindings' : List Binding) (findings : List Finding)
    → file ≡ file' → text ≡ text' → table ≡ table' → bindings ≡ bindings'
    → lines_of file text (types_in table) bindings findings ≡ lines_of file' text' (types_in table') bindings' findings
same_lines file file' text text' table table' bindings bindings' findings f t y b = cc

pub returns : goal.returns
returns c = λ short.
    c.from_vec.ensures ∙ c.in_ok-lines.ensures
    ∙ same_lines _ _ _ _ _ _ _ _ c.args.findings.now c.in_ok-report.ensures.file (c.in_ok-report.ensures.text short) c.in_ok-report.ensures.table c.in_ok-report.ensures.bindings
