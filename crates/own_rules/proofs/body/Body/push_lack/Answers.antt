use Rattle.std.proofs.Common.{get_or, sym, ap, ◌∙◌, subst}
use Rattle.std.proofs.lemmas.Option.{slice_get-get_or}
use Rattle.own_breaks.specs.Settling.{Gathers, offered}
use Rattle.own_rules.specs.Bodies.{IsLackWith}
use Rattle.own_rules.proofs.Growing.{lack_found, lacks_none}
use Rattle.own_rules.proofs.body.Body.push_lack.Goals as goal

pub returns-in_default : goal.returns-in_default
returns-in_default c = lacks_none c.args.self.now c.args.rule c.args.node c.args.at c.args.leaf c.args.found.now.items c.in_default.ensures

pub returns : goal.returns
returns c =
    let b = c.args.self.now in let xs = c.args.found.now.items in let place = get_or b.leaves.now c.args.leaf c.index-self-leaf.result in
    subst (λ l. Gathers (IsLackWith b c.args.rule c.args.node c.args.at c.args.leaf) xs l)
    (sym (c.in_ok-offer.ensures ∙ ap (λ f. offered xs f) c.in_ok-finding_at.ensures))
    (lack_found b c.args.rule c.args.node c.args.at c.args.leaf place c.in-Some.cause xs
    (slice_get-get_or b.leaves.now c.args.leaf c.index-self-leaf.result c.requires.leaf) (sym c.if-not-owes.ensures) c.in-Some.ensures)
