use Rattle.std.proofs.Common.{◌≡◌, map}
use Rattle.own_tree.specs.TypedView.{pats_of, pattern_view}
use Rattle.own_table.specs.Table.{shape_in_table}
use Rattle.own_shapes.specs.Types.{shapes_of}
use Rattle.own_match.specs.Search.{parts_match_all}
use Rattle.own_match.specs.View.{AreTypes}
use Rattle.own_match.proofs.silent.+matches.Given as goal

abbrev pub invariant-parts_match_all-loop-ty : goal.invariant-parts_match_all-loop-ty
invariant-parts_match_all-loop-ty l = record {
  typed : AreTypes l.table l.ty-iterator.a.rest.now;
  same : parts_match_all (shapes_of (shape_in_table l.table) l.ty-iterator.a.rest.now) (pats_of (map pattern_view l.ty-iterator.b.rest.now))
      ≡ parts_match_all (shapes_of (shape_in_table l.table) l.types) (pats_of (map pattern_view l.parts));
}
