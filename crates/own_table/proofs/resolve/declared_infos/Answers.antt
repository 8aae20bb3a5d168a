use Rattle.std.proofs.Common.{◌++◌, ◌∷◌, [], sym, ap, ◌∙◌}
use Rattle.own_tree.specs.View.{declaration_view}
use Rattle.own_survey.specs.Names.{type_in}
use Rattle.own_table.specs.Resolving.{declared_infos}
use Rattle.own_table.proofs.Resolved.{infos_more}
use Rattle.own_table.proofs.resolve.declared_infos.Goals as goal

pub loop-declaration-preserved : goal.loop-declaration-preserved
loop-declaration-preserved c =
    let by = type_in c.args.names.now in
    c.in_ok-push_type.ensures
    ∙ ap (λ before. before ++ declared_infos by (declaration_view c.declaration-item.result ∷ [])) c.loop-declaration.invariant
    ∙ sym (infos_more by c.args.declarations.now c.loop-declaration.declaration-index c.declaration-item.result c.loop-declaration-test.true c.declaration-item.is)
