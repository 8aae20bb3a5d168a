use Rattle.std.proofs.Common.{length, refl, sym, ap, ◌∙◌, subst}
use Rattle.std.proofs.lemmas.Option.{slice_get_read}
use Rattle.own_breaks.specs.Settling.{Gathers, offered}
use Rattle.own_rules.specs.Bodies.{IsBreakWith, asked_by}
use Rattle.own_rules.proofs.Growing.{break_found, blames_none}
use Rattle.own_rules.proofs.body.Body.push_break.Goals as goal

pub returns-in_default : goal.returns-in_default
returns-in_default c = blames_none c.args.self.now c.args.rule c.args.node c.args.op.now c.args.leaf c.args.found.now.items c.in_default.ensures

pub returns : goal.returns
returns c =
    let b = c.args.self.now in let xs = c.args.found.now.items in
    subst (λ l. Gathers (IsBreakWith b c.args.rule c.args.node c.args.op.now c.args.leaf) xs l)
    (sym (c.in_ok-offer.ensures ∙ ap (λ f. offered xs f) c.in_ok-finding_at.ensures))
    (break_found b c.args.rule c.args.node c.args.op.now c.args.leaf c.index-self-leaf.result c.in-Some.cause xs
    (slice_get_read b.leaves.now (length b.leaves.now) c.args.leaf c.index-self-leaf.result refl c.requires.leaf c.index-self-leaf.is)
    (ap (λ x. asked_by b c.args.rule c.args.op.now x) c.index-self-leaf.is ∙ sym c.if-not-asks.ensures) c.in-Some.ensures)
