use Rattle.std.proofs.Common.{◌≡◌, true, not, length, slice_get, Some, refl, sym, ap, ◌∙◌}
use Rattle.std.proofs.lemmas.Option.{slice_get_read, slice_get_past}
use Rattle.std.specs.Prelude.{slice_index_or}
use Rattle.own_rules.proofs.Lets.{changes_of, let_is, changes_at, changes_past}
use Rattle.own_rules.proofs.asks.is_let.Goals as goal

pub returns-in-Some : goal.returns-in-Some
returns-in-Some c =
    let fs = c.fields.result.now in let k = c.args.property in let f = c.in-Some.field.now in
    let there : slice_get fs k ≡ Some f = slice_get_read fs (length fs) k f refl c.in-Some.ensures.lookup.3.0 c.in-Some.ensures.lookup.1 in
    sym (let_is c.args.table.now c.args.ty k c.requires ∙ ap (λ l. not (slice_index_or (changes_of l) k true)) (sym c.fields.ensures) ∙ ap not (changes_at fs k f there))

pub returns-in-None : goal.returns-in-None
returns-in-None c =
    let fs = c.fields.result.now in let k = c.args.property in
    sym (let_is c.args.table.now c.args.ty k c.requires ∙ ap (λ l. not (slice_index_or (changes_of l) k true)) (sym c.fields.ensures)
    ∙ ap not (changes_past fs k (slice_get_past fs k c.in-None.ensures.lookup.3)))
