-- What breaks a path rule on some trace is broken at some node by a maker that reaches it, and the other way round.
use Rattle.std.proofs.Common.{◌≡◌, ℕ, ◌<◌, ◌≤◌, ◌⊎◌, inl, inr, Bool, true, List, [], ◌∷◌, length, slice_get, Option, Some, None, refl, sym, ap, ◌∙◌, subst, arith}
use Rattle.std.specs.Prelude.{◌↔◌}
use Rattle.own_tree.specs.declared.finding.Finding.{Finding}
use Rattle.own_tree.specs.declared.finding.Rule.{Rule}
use Rattle.own_tree.specs.declared.finding.Rule.TheVariants as rule
use Rattle.own_tree.specs.declared.graph.Maker.{Maker}
use Rattle.own_tree.specs.declared.graph.Node.{Node}
use Rattle.own_tree.specs.declared.op.Op.{Op}
use Rattle.own_tree.specs.declared.place.Place.{Place}
use Rattle.own_tree.specs.declared.span.Span.{Span}
use Rattle.own_paths.specs.Findings.{BreaksAtOp, BreaksAtReturn, OpBreaks, IsWithoutValue, IsFallOff}
use Rattle.own_paths.specs.Makers.{BodyUses, Mark, fresh, marked}
use Rattle.own_shapes.proofs.Lists.{contains_get, get_contains}
use Rattle.own_shapes.proofs.PlaceOrder.{numbers}
use Rattle.own_walks.specs.AtNodes.{Comes, BreaksAtNode, BreaksAtExit}
use Rattle.own_walks.specs.Graphs.{plain}
use Rattle.own_walks.specs.Pairs.{IsMark, at_start, at_node}
use Rattle.own_walks.specs.Reaching.{IsOf, Reaches}
use Rattle.own_walks.proofs.Breaking.{breaks_at_node, breaks_at_exit}
use Rattle.own_walks.proofs.Carried.{comes_by}
use Rattle.own_breaks.specs.Asking.{blames, asks, owes}
use Rattle.own_breaks.specs.Blaming.{op_of, blamed, IsCause, BreaksHere, LacksHere, BreaksSomewhere, AreOfBody}
use Rattle.own_breaks.specs.Settling.{BreaksBy, Breaks}
use Rattle.own_breaks.proofs.Marks.{fresh_breaks, op_blames, op_broken, fresh_without, without_is, return_owes, return_breaks, blamed_is, blamed_by}

pub some_maker : (x y : Maker) → Some x ≡ Some y → x ≡ y
some_maker x y e = cc

node_at : (o : Option Node) (by : Op) → op_of o ≡ Some by → (n : Node) × (o ≡ Some n) × (n.op ≡ Some by)
node_at None by e = absurd cc
node_at (Some n) by e = (n, refl, e)

module _ (uses : BodyUses) (nodes : List Node) (entry : ℕ) (pairs : List Maker) (facts : List (List Bool)) (are : AreOfBody uses nodes entry pairs facts) where
  -- ---- from marks to causes

  record FromOp (v l : ℕ) (m : Mark) : Type 0 where
    by : Op
    mark_is : m ≡ marked by.kind by fresh
    cause : (r : Rule) → blames r by.kind ≡ true → IsCause nodes pairs facts r v l by.span

  to_cause : (v l : ℕ) (leaf : Place) (m : Mark) → slice_get uses.leaves l ≡ Some leaf → Comes uses 0 nodes entry v leaf m → (m ≡ fresh) ⊎ FromOp v l m
  to_cause v l leaf m here c = go ((comes_by uses 0 nodes entry pairs are.makers v l leaf m here).0 c)
    where
      by_mark : (p : ℕ) → Reaches pairs (length uses.leaves) nodes entry v p → IsOf pairs p l → IsMark uses nodes pairs p m → (m ≡ fresh) ⊎ FromOp v l m
      by_mark p reach is (at_start less same) = inl same
      by_mark p reach is (at_node q node o le at there op_is same) =
          inr (record {
            by = o;
            mark_is = same;
            cause = λ r b. (
              p,
              q,
              at,
              ap (λ (x : Maker). x.leaf) (some_maker q is.0 (sym at ∙ is.1)) ∙ is.2,
              (are.has v p).1 reach,
              ap (λ z. blamed r (op_of z)) there ∙ ap (λ z. blamed r z) op_is ∙ blamed_by r o b,
            );
          })

      go : (p : ℕ) × Reaches pairs (length uses.leaves) nodes entry v p × IsOf pairs p l × IsMark uses nodes pairs p m → (m ≡ fresh) ⊎ FromOp v l m
      go h = by_mark h.0 h.1 h.2 h.3

  -- ---- from causes to marks

  not_start : (p : ℕ) (q : Maker) (n : Node) (by : Op) → slice_get pairs p ≡ Some q → slice_get nodes q.node ≡ Some n → n.op ≡ Some by → length uses.leaves ≤ p
  not_start p q n by at there is = elim (numbers p (length uses.leaves)) [
    | inl less ↦ absurd (at_entry less)
    | inr (inl same) ↦ omega (arith, same)
    | inr (inr more) ↦ omega (arith, more)
  ]
    where
      at_entry : p < length uses.leaves → ⊥
      at_entry less =
          let s = are.makers.starts p less in
          let node : q.node ≡ entry = ap (λ (x : Maker). x.node) (some_maker q s.0 (sym at ∙ s.1)) ∙ s.2 in
          let first : Some n ≡ Some (plain (are.graph.first ∷ [])) = sym there ∙ ap (λ x. slice_get nodes x) node ∙ are.graph.begins.1 in
          let none : op_of (Some n) ≡ None = ap op_of first in
          let e : Some by ≡ None = sym is ∙ none in
          cc

  record ToMark (r : Rule) (v : ℕ) (leaf : Place) (cause : Span) : Type 0 where
    by : Op
    span_is : by.span ≡ cause
    blames_it : blames r by.kind ≡ true
    comes : Comes uses 0 nodes entry v leaf (marked by.kind by fresh)

  to_mark : (r : Rule) (v l : ℕ) (leaf : Place) (cause : Span) → slice_get uses.leaves l ≡ Some leaf → IsCause nodes pairs facts r v l cause → ToMark r v leaf cause
  to_mark r v l leaf cause here c =
      let b = blamed_is r (op_of (slice_get nodes c.1.node)) cause c.5 in
      let n = node_at (slice_get nodes c.1.node) b.0 b.1 in
      record {
        by = b.0;
        span_is = b.3;
        blames_it = b.2;
        comes = (comes_by uses 0 nodes entry pairs are.makers v l leaf (marked b.0.kind b.0 fresh) here).1
            (c.0, (are.has v c.0).0 c.4, (c.1, c.2, c.3), at_node c.1 n.0 b.0 (not_start c.0 c.1 n.0 b.0 c.2 n.1 n.2) c.2 n.1 n.2 refl);
      }

  -- ---- ops

  abbrev Somewhere : Finding → Type 0
  Somewhere f = BreaksSomewhere nodes pairs facts uses.leaves uses.discards uses.mode_of uses.is_let_property f

  op_there : (f : Finding) → BreaksAtOp uses f.rule f.span f.place f.cause → Somewhere f
  op_there f b = go ((breaks_at_node uses 0 nodes entry are.graph f.rule f.span f.place f.cause).0 b)
    where
      go : BreaksAtNode uses 0 nodes entry f.rule f.span f.place f.cause → Somewhere f
      go b = cases (to_cause b.node_at at.0 b.leaf b.mark at.2 b.comes)
        where
          at : (l : ℕ) × (l < length uses.leaves) × (slice_get uses.leaves l ≡ Some b.leaf)
          at = contains_get uses.leaves b.leaf b.is_leaf

          cases : (b.mark ≡ fresh) ⊎ FromOp b.node_at at.0 b.mark → Somewhere f
          cases (inl e) = absurd (fresh_breaks uses b.breaking b.leaf f.rule b.by (subst (λ m. OpBreaks uses f.rule b.breaking b.leaf m b.by) e b.breaks))
          cases (inr x) =
              let h = op_blames uses b.breaking b.leaf f.rule x.by b.by (subst (λ m. OpBreaks uses f.rule b.breaking b.leaf m b.by) x.mark_is b.breaks) in (
                b.node_at,
                b.node,
                b.there,
                inl (
                  b.breaking,
                  b.op_is,
                  record {
                    span_is = sym b.at_is;
                    place_is = sym b.place_is;
                    number = at.0;
                    leaf = b.leaf;
                    is_leaf = at.2;
                    asked = h.0;
                    cause = subst (λ s. IsCause nodes pairs facts f.rule b.node_at at.0 s) (ap (λ (y : Op). y.span) h.1 ∙ b.cause_is) (x.cause f.rule h.2);
                  },
                ),
              )

  op_back : (f : Finding) (u : ℕ) (n : Node) (o : Op) → slice_get nodes u ≡ Some n → n.op ≡ Some o
      → BreaksHere nodes pairs facts uses.leaves uses.discards uses.mode_of uses.is_let_property u o f → BreaksAtOp uses f.rule f.span f.place f.cause
  op_back f u n o there is b =
      let x = to_mark f.rule u b.number b.leaf f.cause b.is_leaf b.cause in
      (breaks_at_node uses 0 nodes entry are.graph f.rule f.span f.place f.cause).1 (record {
        node_at = u;
        node = n;
        there = there;
        breaking = o;
        op_is = is;
        at_is = sym b.span_is;
        place_is = sym b.place_is;
        leaf = b.leaf;
        is_leaf = get_contains uses.leaves b.number b.leaf b.is_leaf;
        mark = marked x.by.kind x.by fresh;
        comes = x.comes;
        by = x.by;
        breaks = op_broken uses o b.leaf f.rule x.by b.asked x.blames_it;
        cause_is = x.span_is;
      })

  -- ---- returns

  return_there : (f : Finding) → BreaksAtReturn uses f.rule f.span f.place f.cause → Somewhere f
  return_there f b = go ((breaks_at_exit uses 0 nodes entry are.graph f.rule f.span f.place f.cause).0 b)
    where
      go : BreaksAtExit uses 0 nodes entry f.rule f.span f.place f.cause → Somewhere f
      go b = cases (to_cause b.node_at at.0 f.place b.mark at.2 b.comes)
        where
          at : (l : ℕ) × (l < length uses.leaves) × (slice_get uses.leaves l ≡ Some f.place)
          at = contains_get uses.leaves f.place b.is_leaf

          cases : (b.mark ≡ fresh) ⊎ FromOp b.node_at at.0 b.mark → Somewhere f
          cases (inl e) = absurd (fresh_without b.by (subst (λ m. IsWithoutValue m b.by) e b.without))
          cases (inr x) =
              let h = without_is x.by b.by (subst (λ m. IsWithoutValue m b.by) x.mark_is b.without) in
              let o = return_owes f.rule (uses.mode_of f.place.binding) x.by.kind b.owed h.1 in (
                b.node_at,
                b.node,
                b.there,
                inr (
                  f.span,
                  b.exits,
                  record {
                    span_is = refl;
                    number = at.0;
                    is_leaf = at.2;
                    owed = o.0;
                    cause = subst (λ s. IsCause nodes pairs facts f.rule b.node_at at.0 s) (ap (λ (y : Op). y.span) h.0 ∙ b.cause_is) (x.cause f.rule o.1);
                  },
                ),
              )

  return_back : (f : Finding) (u : ℕ) (n : Node) (at : Span) → slice_get nodes u ≡ Some n → n.exit ≡ Some at
      → LacksHere nodes pairs facts uses.leaves uses.discards uses.mode_of uses.is_let_property u at f → BreaksAtReturn uses f.rule f.span f.place f.cause
  return_back f u n at there is b =
      let x = to_mark f.rule u b.number f.place f.cause b.is_leaf b.cause in
      let h = return_breaks f.rule (uses.mode_of f.place.binding) x.by b.owed x.blames_it in
      (breaks_at_exit uses 0 nodes entry are.graph f.rule f.span f.place f.cause).1 (record {
        node_at = u;
        node = n;
        there = there;
        exits = is ∙ ap (λ s. Some s) (sym b.span_is);
        is_leaf = get_contains uses.leaves b.number f.place b.is_leaf;
        owed = h.0;
        mark = marked x.by.kind x.by fresh;
        comes = x.comes;
        by = x.by;
        without = h.1;
        cause_is = x.span_is;
      })

  -- ---- by rule

  op_rule : (r : Rule) (f : Finding) (o : Op) (leaf : Place) → asks uses.discards uses.mode_of uses.is_let_property r o leaf ≡ true
      → BreaksAtOp uses f.rule f.span f.place f.cause → BreaksBy uses r f
  op_rule rule.O1 f o leaf a b = b
  op_rule rule.O2 f o leaf a b = b
  op_rule rule.O4 f o leaf a b = b
  op_rule rule.O6 f o leaf a b = b
  op_rule rule.O3 f o leaf a b = absurd cc
  op_rule rule.O5 f o leaf a b = absurd cc
  op_rule rule.O7 f o leaf a b = absurd cc
  op_rule rule.O8 f o leaf a b = absurd cc
  op_rule rule.O9 f o leaf a b = absurd cc
  op_rule rule.O10 f o leaf a b = absurd cc
  op_rule rule.O11 f o leaf a b = absurd cc
  op_rule rule.F1 f o leaf a b = absurd cc

  return_rule : (r : Rule) (f : Finding) → owes r (uses.mode_of f.place.binding) ≡ true → BreaksAtReturn uses f.rule f.span f.place f.cause → BreaksBy uses r f
  return_rule rule.O3 f a b = b
  return_rule rule.O5 f a b = b
  return_rule rule.O1 f a b = absurd cc
  return_rule rule.O2 f a b = absurd cc
  return_rule rule.O4 f a b = absurd cc
  return_rule rule.O6 f a b = absurd cc
  return_rule rule.O7 f a b = absurd cc
  return_rule rule.O8 f a b = absurd cc
  return_rule rule.O9 f a b = absurd cc
  return_rule rule.O10 f a b = absurd cc
  return_rule rule.O11 f a b = absurd cc
  return_rule rule.F1 f a b = absurd cc

  abbrev Found : Finding → Type 0
  Found f = Somewhere f ⊎ ((f.rule ≡ rule.F1) × IsFallOff uses f)

  there : (r : Rule) (f : Finding) → f.rule ≡ r → BreaksBy uses r f → Found f
  there rule.O1 f e b = inl (op_there f b)
  there rule.O2 f e b = inl (op_there f b)
  there rule.O4 f e b = inl (op_there f b)
  there rule.O6 f e b = inl (op_there f b)
  there rule.O3 f e b = inl (return_there f b)
  there rule.O5 f e b = inl (return_there f b)
  there rule.F1 f e b = inr (e, b)
  there rule.O7 f e b = absurd b
  there rule.O8 f e b = absurd b
  there rule.O9 f e b = absurd b
  there rule.O10 f e b = absurd b
  there rule.O11 f e b = absurd b

  back : (f : Finding) → Found f → Breaks uses f
  back f (inl (u, n, at, inl (o, is, b))) = op_rule f.rule f o b.leaf b.asked (op_back f u n o at is b)
  back f (inl (u, n, at, inr (s, is, b))) = return_rule f.rule f b.owed (return_back f u n s at is b)
  back f (inr h) = subst (λ r. BreaksBy uses r f) (sym h.0) h.1

  pub breaks_are_blamed : (f : Finding) → Breaks uses f ↔ Found f
  breaks_are_blamed f = (there f.rule f refl, back f)
