use Rattle.std.proofs.Common.{Some, None, map, ap, sym, ◌∙◌}
use Rattle.own_tree.specs.TypedView.{pattern_view}
use Rattle.own_table.specs.Table.{shape_in_table}
use Rattle.own_match.specs.Answers.{single}
use Rattle.own_match.proofs.Final.{answer_all, answer_missing, missing_is, first_is, all_alive}
use Rattle.own_match.proofs.covering.cover.Goals as goal

pub returns-in-Some-clause-all : goal.returns-in-Some-clause-all
returns-in-Some-clause-all c =
    let s = shape_in_table c.args.table.now c.args.ty in
    answer_missing s (map pattern_view c.args.patterns.now) c.in-Some.form (all_alive s c.args.patterns.now (single (Some c.in-Some.form)) (sym (ap single c.in-Some.is) ∙ c.in_ok-form.ensures))

pub returns-in-Some-clause-missing : goal.returns-in-Some-clause-missing
returns-in-Some-clause-missing c =
    let s = shape_in_table c.args.table.now c.args.ty in
    missing_is s (map pattern_view c.args.patterns.now) c.in-Some.form (all_alive s c.args.patterns.now (single (Some c.in-Some.form)) (sym (ap single c.in-Some.is) ∙ c.in_ok-form.ensures))

pub returns-in-Some-clause-first : goal.returns-in-Some-clause-first
returns-in-Some-clause-first c =
    let s = shape_in_table c.args.table.now c.args.ty in
    first_is s (map pattern_view c.args.patterns.now) c.in-Some.form (all_alive s c.args.patterns.now (single (Some c.in-Some.form)) (sym (ap single c.in-Some.is) ∙ c.in_ok-form.ensures))

pub returns-in-None-clause-all : goal.returns-in-None-clause-all
returns-in-None-clause-all c =
    let s = shape_in_table c.args.table.now c.args.ty in
    answer_all s (map pattern_view c.args.patterns.now) (all_alive s c.args.patterns.now None (sym (ap single c.in-None.is) ∙ c.in_ok-form.ensures))
