-- What a row of the table of rules says of a finding.
use Rattle.std.specs.Prelude.{List, [], ℕ, ◌++◌, if◌then◌else◌}
use Rattle.own_report.specs.declared.rules.RuleText.{RuleText}
use Rattle.own_report.specs.declared.rules.Subject.{Subject}
use Rattle.own_report.specs.declared.rules.Subject.TheVariants as subject
use Rattle.own_report.specs.Rules.{quoted}

abbrev pub subject_text : Subject → (place binding : List ℕ) → List ℕ
subject_text subject.Nothing place binding = []
subject_text subject.Binding place binding = quoted binding
subject_text subject.Place place binding = quoted place

abbrev pub text_by : RuleText → (place binding cause : List ℕ) → List ℕ
text_by t place binding cause =
    if t.names_cause then subject_text t.subject place binding ++ t.says.now ++ cause ++ t.ends.now
    else subject_text t.subject place binding ++ t.says.now
