use Rattle.std.proofs.Common.{◌≡◌, map, subst}
use Rattle.std.specs.Prelude.{IfOk}
use Rattle.own_tree.specs.View.{declaration_view}
use Rattle.own_table.proofs.Resolved.{by_names}
use Rattle.own_table.proofs.resolve.resolved_types.Goals as goal

pub returns : goal.returns
returns c =
    subst (λ xs. IfOk c.declared_infos.result (λ infos. infos ≡ xs)) (by_names (map declaration_view c.args.declarations.now) c.args.names.now c.requires) c.declared_infos.ensures
