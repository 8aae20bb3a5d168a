use Rattle.std.proofs.Common.{◌≡◌, drop, map}
use Rattle.own_tree.specs.View.{enum_member_view}
use Rattle.own_judged.specs.Signatures.{member_signatures}
use Rattle.own_scope.specs.TypeNames.{written_in}
use Rattle.own_scope.proofs.signatures.note_enum_members.Given as goal

abbrev pub invariant-loop-member : goal.invariant-loop-member
invariant-loop-member l =
    member_signatures (written_in l.fn.types.names.items) l.signatures (map enum_member_view (drop l.member-index l.members))
    ≡ member_signatures (written_in l.fn.types.names.items) l.fn.signatures (map enum_member_view l.members)
