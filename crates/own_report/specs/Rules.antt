-- The codes of the rules of ownership, and what is said of a finding.
use Rattle.std.specs.Prelude.{List, ℕ, ◌++◌, codes}
use Rattle.own_tree.specs.declared.finding.Rule.{Rule}
use Rattle.own_tree.specs.declared.finding.Rule.TheVariants as rule

abbrev pub rule_code : Rule → List ℕ
rule_code rule.O1 = codes "O1"
rule_code rule.O2 = codes "O2"
rule_code rule.O3 = codes "O3"
rule_code rule.O4 = codes "O4"
rule_code rule.O5 = codes "O5"
rule_code rule.O6 = codes "O6"
rule_code rule.O7 = codes "O7"
rule_code rule.O8 = codes "O8"
rule_code rule.O9 = codes "O9"
rule_code rule.O10 = codes "O10"
rule_code rule.O11 = codes "O11"
rule_code rule.F1 = codes "F1"

abbrev pub quoted : List ℕ → List ℕ
quoted name = codes "'" ++ name ++ codes "'"

-- The text of a finding, by its place with the properties, by the binding of that place alone, and by the line and
-- the column of its cause.
abbrev pub rule_text : Rule → (place binding cause : List ℕ) → List ℕ
rule_text rule.O1 place binding cause = quoted place ++ codes " is used after it was consumed at " ++ cause
rule_text rule.O2 place binding cause = quoted place ++ codes " is used before it has a value; it was declared at " ++ cause
rule_text rule.O3 place binding cause = quoted binding ++ codes " has no value at this return; it was consumed at " ++ cause
rule_text rule.O4 place binding cause = codes "'self' is neither discarded nor consumed on a path to this return"
rule_text rule.O5 place binding cause = quoted place ++ codes " has no value at this return of init"
rule_text rule.O6 place binding cause = quoted place ++ codes " is assigned again; it was assigned at " ++ cause
rule_text rule.O7 place binding cause = quoted place ++ codes " is borrowed here and cannot be consumed"
rule_text rule.O8 place binding cause = quoted place ++ codes " cannot be consumed out of a value whose type has a deinit"
rule_text rule.O9 place binding cause = quoted place ++ codes " cannot be changed here"
rule_text rule.O10 place binding cause = quoted place ++ codes " conflicts with what the same call holds at " ++ cause
rule_text rule.O11 place binding cause = quoted place ++ codes " is changed while the switch at " ++ cause ++ codes " borrows it"
rule_text rule.F1 place binding cause = codes "the end of the body is reached without a return"
