use Rattle.std.proofs.Common.{map, subst}
use Rattle.own_tree.specs.TypedView.{pattern_view}
use Rattle.own_table.specs.Table.{types_in, shape_in_table}
use Rattle.own_patterns.specs.Covers.{CoversOr}
use Rattle.own_patterns.proofs.Covered.{covers, misses}
use Rattle.own_patterns.proofs.coverage.covering.Goals as goal

pub returns-in-All : goal.returns-in-All
returns-in-All c =
    covers (types_in c.args.table.now) c.args.ty (map pattern_view c.args.patterns.now) c.args.at
    (subst (λ r. CoversOr (shape_in_table c.args.table.now c.args.ty) (map pattern_view c.args.patterns.now) r)
    c.in-All.is c.in_ok-cover_of.ensures)

pub returns-in_ok-printed-in-Missing : goal.returns-in_ok-printed-in-Missing
returns-in_ok-printed-in-Missing c s =
    let found = subst (λ r. CoversOr (shape_in_table c.args.table.now c.args.ty) (map pattern_view c.args.patterns.now) r)
    c.in-Missing.is c.in_ok-cover_of.ensures in (
      c.args.ty,
      pattern_view c.in-Missing.form,
      misses (types_in c.args.table.now) c.args.ty (map pattern_view c.args.patterns.now) c.args.at
          (pattern_view c.in-Missing.form) found.0 found.1 s,
      c.in_ok-printed-in-Missing.ensures,
    )
