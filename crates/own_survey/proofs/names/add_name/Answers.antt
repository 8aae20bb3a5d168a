use Rattle.std.proofs.Common.{sym, ◌∙◌, subst}
use Rattle.indexmap.proofs.CallerLemmas.{insert_entry-new}
use Rattle.own_survey.specs.Names.{AddsName, entry_of}
use Rattle.own_survey.proofs.Known.{name_added, none_there}
use Rattle.own_survey.proofs.names.add_name.Goals as goal

pub returns-in_ok-insert : goal.returns-in_ok-insert
returns-in_ok-insert c =
    let absent = none_there (entry_of c.args.types.now.entries c.args.name.now) (sym c.contains_key.ensures ∙ c.if-not-contains_key.true) in
    subst (λ es. AddsName c.args.types.now.entries es c.args.name.now c.args.named)
    (sym (c.in_ok-insert.ensures.entries ∙ insert_entry-new _ c.args.types.now c.args.name c.args.named absent))
    (name_added c.args.types.now.entries c.args.name c.args.named)
