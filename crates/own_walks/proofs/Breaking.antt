-- What breaks a path rule on some trace breaks it at some node, and the other way round.
use Rattle.std.proofs.Common.{◌≡◌, ℕ, inl, Bool, true, false, ◌&&◌, not, cond, List, [], ◌∷◌, ◌++◌, slice_get, Some, refl, sym, ap, subst, append_assoc}
use Rattle.std.specs.Prelude.{◌↔◌}
use Rattle.own_tree.specs.declared.finding.Rule.{Rule}
use Rattle.own_tree.specs.declared.graph.Node.{Node}
use Rattle.own_tree.specs.declared.op.Op.{Op}
use Rattle.own_tree.specs.declared.op.OpKind.{OpKind}
use Rattle.own_tree.specs.declared.op.OpKind.TheVariants as kind
use Rattle.own_tree.specs.declared.place.Place.{Place}
use Rattle.own_tree.specs.declared.span.Span.{Span}
use Rattle.own_paths.specs.BodyLimits.{is_maker}
use Rattle.own_paths.specs.Findings.{Reaches, OpBreaks, IsWithoutValue, BreaksAtOp, BreaksAtReturn}
use Rattle.own_paths.specs.Makers.{BodyUses, Mark, fresh, marked, mark_by, mark_after, maker, tree_of}
use Rattle.own_shapes.specs.Places.{covers}
use Rattle.own_paths.specs.Traces.{IsTrace}
use Rattle.own_walks.specs.Graphs.{plain, doing, ops_at, Walk, no_ways, IsGraphOf, IsWalk}
use Rattle.own_walks.specs.AtNodes.{BreaksAtNode, BreaksAtExit}
use Rattle.own_walks.specs.Pairs.{makes}
use Rattle.own_walks.proofs.Complete.{finds}
use Rattle.own_walks.proofs.Steps.{Found, step}
use Rattle.own_walks.proofs.Law.{walks_are_traces, from_exit, to_exit}

module _ (uses : BodyUses) (lo : ℕ) (ns : List Node) (entry : ℕ) (g : IsGraphOf lo ns (tree_of uses) entry) where
  -- a trace that comes to an op has a walk to a node of the op
  pub to_node : (before : List Op) (o : Op) → Reaches uses before o → (v : ℕ) × (node : Node) × (slice_get ns v ≡ Some node) × (node.op ≡ Some o) × Walk lo ns entry before v
  to_node before o r = go (finds lo ns r.0 (tree_of uses) (no_ways g.dead) g.dead g.first g.lays before o r.1 r.2 r.3)
    where
      go : Found lo ns g.first before o → (v : ℕ) × (node : Node) × (slice_get ns v ≡ Some node) × (node.op ≡ Some o) × Walk lo ns entry before v
      go f = (f.at, doing o f.after, f.there.1, refl, step lo ns entry (plain (g.first ∷ [])) g.first before f.at g.begins (inl refl) f.walk)

  -- and a walk to such a node a trace
  pub from_node : (before : List Op) (o : Op) (v : ℕ) (node : Node) → slice_get ns v ≡ Some node → node.op ≡ Some o → Walk lo ns entry before v → Reaches uses before o
  from_node before o v node there is w =
      let all : IsWalk lo ns entry (before ++ o ∷ []) node.exit = record { before = before; at = v; node = node; walk = w; there = there; ops = ap (λ l. before ++ ops_at l) (sym is); exits = refl } in
      let p = (walks_are_traces lo ns (tree_of uses) entry g).sound (before ++ o ∷ []) node.exit all in
      (p.0, p.1, p.2, subst (λ l. IsTrace p.0 (tree_of uses) l p.2) (append_assoc before (o ∷ []) p.1) p.3)

  pub breaks_at_node : (r : Rule) (at : Span) (place : Place) (cause : Span) → BreaksAtOp uses r at place cause ↔ BreaksAtNode uses lo ns entry r at place cause
  breaks_at_node r at place cause = (there, back)
    where
      there : BreaksAtOp uses r at place cause → BreaksAtNode uses lo ns entry r at place cause
      there b =
          let n = to_node b.before b.breaking b.reached in
          record {
            node_at = n.0;
            node = n.1;
            there = n.2;
            breaking = b.breaking;
            op_is = n.3;
            at_is = b.at_is;
            place_is = b.place_is;
            leaf = b.leaf;
            is_leaf = b.is_leaf;
            mark = maker uses b.leaf b.before;
            comes = (b.before, n.4, refl);
            by = b.by;
            breaks = b.breaks;
            cause_is = b.cause_is;
          }

      back : BreaksAtNode uses lo ns entry r at place cause → BreaksAtOp uses r at place cause
      back b = record {
        before = b.comes.0;
        breaking = b.breaking;
        at_is = b.at_is;
        place_is = b.place_is;
        reached = from_node b.comes.0 b.breaking b.node_at b.node b.there b.op_is b.comes.1;
        leaf = b.leaf;
        is_leaf = b.is_leaf;
        by = b.by;
        breaks = subst (λ m. OpBreaks uses r b.breaking b.leaf m b.by) (sym b.comes.2) b.breaks;
        cause_is = b.cause_is;
      }

  pub breaks_at_exit : (r : Rule) (at : Span) (leaf : Place) (cause : Span) → BreaksAtReturn uses r at leaf cause ↔ BreaksAtExit uses lo ns entry r at leaf cause
  breaks_at_exit r at leaf cause = (there, back)
    where
      there : BreaksAtReturn uses r at leaf cause → BreaksAtExit uses lo ns entry r at leaf cause
      there b =
          let n = to_exit lo ns (tree_of uses) entry g b.before at b.returned.0 b.returned.1 in
          record {
            node_at = n.0;
            node = n.1;
            there = n.2;
            exits = n.3;
            is_leaf = b.is_leaf;
            owed = b.owed;
            mark = maker uses leaf b.before;
            comes = (b.before, n.4, refl);
            by = b.by;
            without = b.without;
            cause_is = b.cause_is;
          }

      back : BreaksAtExit uses lo ns entry r at leaf cause → BreaksAtReturn uses r at leaf cause
      back b = record {
        before = b.comes.0;
        returned = from_exit lo ns (tree_of uses) entry g b.comes.0 b.node_at b.node at b.there b.exits b.comes.1;
        is_leaf = b.is_leaf;
        owed = b.owed;
        by = b.by;
        without = subst (λ m. IsWithoutValue m b.by) (sym b.comes.2) b.without;
        cause_is = b.cause_is;
      }

-- ---- what an op does to the mark of a leaf

kind_marks : (k : OpKind) (o : Op) (m : Mark) → is_maker k ≡ true → marked k o m ≡ marked k o fresh
kind_marks kind.Declare o m e = refl
kind_marks kind.Make o m e = refl
kind_marks kind.Assign o m e = refl
kind_marks kind.Consume o m e = refl
kind_marks kind.Discard o m e = refl
kind_marks kind.End o m e = refl
kind_marks kind.Read o m e = cc
kind_marks kind.Borrow o m e = cc
kind_marks kind.Inout o m e = cc
kind_marks kind.Capture o m e = cc

kind_keeps : (k : OpKind) (o : Op) (m : Mark) → is_maker k ≡ false → marked k o m ≡ m
kind_keeps kind.Read o m e = refl
kind_keeps kind.Borrow o m e = refl
kind_keeps kind.Inout o m e = refl
kind_keeps kind.Capture o m e = refl
kind_keeps kind.Declare o m e = cc
kind_keeps kind.Make o m e = cc
kind_keeps kind.Assign o m e = cc
kind_keeps kind.Consume o m e = cc
kind_keeps kind.Discard o m e = cc
kind_keeps kind.End o m e = cc

if_made : (c : Bool) (k : OpKind) (o : Op) (m : Mark) → (c && is_maker k) ≡ true → cond c (marked k o m) m ≡ marked k o fresh
if_made true k o m e = kind_marks k o m e
if_made false k o m e = cc

if_kept : (c : Bool) (k : OpKind) (o : Op) (m : Mark) → (c && is_maker k) ≡ false → cond c (marked k o m) m ≡ m
if_kept true k o m e = kind_keeps k o m e
if_kept false k o m e = refl

-- a maker sets the mark, whatever it was
pub mark_made : (uses : BodyUses) (leaf : Place) (o : Op) (m : Mark) → makes uses o leaf ≡ true → mark_by uses leaf o m ≡ marked o.kind o fresh
mark_made uses leaf o m e = if_made (covers o.place leaf && not (uses.ends_nothing o)) o.kind o m e

-- and another op keeps it
pub mark_kept : (uses : BodyUses) (leaf : Place) (o : Op) (m : Mark) → makes uses o leaf ≡ false → mark_by uses leaf o m ≡ m
mark_kept uses leaf o m e = if_kept (covers o.place leaf && not (uses.ends_nothing o)) o.kind o m e

pub marks_append : (uses : BodyUses) (leaf : Place) (m : Mark) (xs ys : List Op) → mark_after uses leaf m (xs ++ ys) ≡ mark_after uses leaf (mark_after uses leaf m xs) ys
marks_append uses leaf m [] ys = refl
marks_append uses leaf m (x ∷ xs) ys = marks_append uses leaf (mark_by uses leaf x m) xs ys
