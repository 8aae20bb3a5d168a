use Rattle.std.proofs.Common.{◌≤◌, ◌++◌, ◌∷◌, [], length, map, sym, ap, ◌∙◌, arith}
use Rattle.std.proofs.lemmas.List.{take_all}
use Rattle.own_tree.specs.View.{declaration_view}
use Rattle.own_survey.specs.Limits.{type_names}
use Rattle.own_shapes.specs.Types.{declared_types}
use Rattle.own_table.proofs.TypeLimited.{names_more, length-type_names}
use Rattle.own_table.proofs.limit.type_spans.Goals as goal

pub loop-declaration-preserved : goal.loop-declaration-preserved
loop-declaration-preserved c =
    c.in_ok-push_span.ensures
    ∙ ap (λ before. before ++ type_names (declared_types (declaration_view c.declaration-item.result ∷ []))) c.loop-declaration.invariant
    ∙ sym (names_more c.args.declarations.now c.loop-declaration.declaration-index c.declaration-item.result c.loop-declaration-test.true c.declaration-item.is)

pub returns-clause-each : goal.returns-clause-each
returns-clause-each c =
    let xs = c.args.declarations.now in let i = c.loop-declaration.declaration-index in let h = c.loop-declaration-test.false in
    let last : length xs ≤ i = omega arith in
    ap length c.loop-declaration.invariant
    ∙ ap (λ l. length (type_names (declared_types (map declaration_view l)))) (take_all i xs last)
    ∙ length-type_names (declared_types (map declaration_view xs))
