use Rattle.std.proofs.Common.{◌≡◌, ◌+◌, ◌++◌, drop, map}
use Rattle.own_tree.specs.View.{struct_member_view}
use Rattle.own_judged.specs.Text.{member_bodies, member_entries}
use Rattle.own_scope.specs.TypeNames.{written_in}
use Rattle.own_scope.specs.Known.{entry_of}
use Rattle.own_scope.proofs.entries.add_struct_members.Given as goal

abbrev pub invariant-loop-member : goal.invariant-loop-member
invariant-loop-member l = record {
  entries : map entry_of l.entries.items
      ++ member_entries (written_in l.fn.types.names.items) l.fn.signatures l.fn.owner l.bodies (map struct_member_view (drop l.member-index l.members))
      ≡ map entry_of l.fn.entries.items
      ++ member_entries (written_in l.fn.types.names.items) l.fn.signatures l.fn.owner l.fn.bodies (map struct_member_view l.members);
  bodies : l.bodies + member_bodies (written_in l.fn.types.names.items) l.fn.signatures (map struct_member_view (drop l.member-index l.members)) ≡ l.fn.bodies + member_bodies (written_in l.fn.types.names.items) l.fn.signatures (map struct_member_view l.members);
}
