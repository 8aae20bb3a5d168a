use Rattle.std.proofs.Common.{◌≡◌, drop, map}
use Rattle.std.specs.List.{list_any}
use Rattle.own_tree.specs.View.{struct_member_view}
use Rattle.own_table.specs.Resolving.{is_deinitializer}
use Rattle.own_table.proofs.resolve.struct_has_deinit.Given as goal

abbrev pub invariant-loop-member : goal.invariant-loop-member
invariant-loop-member l = list_any is_deinitializer (map struct_member_view (drop l.member-index l.members)) ≡ list_any is_deinitializer (map struct_member_view l.members)
