use Rattle.std.proofs.Common.{inl, sym, ◌∙◌, subst}
use Rattle.own_tree.specs.View.{tree_view}
use Rattle.own_table.specs.Building.{IsRefused}
use Rattle.own_table.proofs.Built.{limit_before, misjudged_at, surveyed}
use Rattle.own_table.proofs.build.judge.Goals as goal

pub returns-in-Some-clause-err : goal.returns-in-Some-clause-err
returns-in-Some-clause-err c =
    subst (IsRefused (tree_view c.args.tree.now)) (sym c.limit.ensures)
    (inl (limit_before c.args.tree.now c.args.types.now c.args.spans.now c.in_ok-found.found c.requires.types c.requires.spans c.requires.few c.in_ok-found.ensures
    c.if-found.false
    ∙ sym c.limit_passed.ensures ∙ c.in-Some.is))

pub returns-in-Some-fault-clause-err : goal.returns-in-Some-fault-clause-err
returns-in-Some-fault-clause-err c =
    subst (IsRefused (tree_view c.args.tree.now)) (sym c.misjudged.ensures)
    (misjudged_at c.args.tree.now c.args.types.now c.args.spans.now c.in_ok-found.found c.requires.types c.requires.spans c.requires.few c.in_ok-found.ensures
    c.if-found.false
    c.in-Some-fault.fault (sym c.limit_passed.ensures ∙ c.in_default.is) c.in-Some-fault.is)

pub returns-in-None-clause-ok : goal.returns-in-None-clause-ok
returns-in-None-clause-ok c =
    surveyed c.args.tree.now c.args.types.now c.args.spans.now c.in_ok-found.found c.requires.types c.requires.spans c.requires.few c.in_ok-found.ensures
    c.if-found.false
    (sym c.limit_passed.ensures ∙ c.in_default.is) c.in-None.is
