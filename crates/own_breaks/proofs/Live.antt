-- Whether a leaf may be live before a node, by the makers that reach it, and before an op, by its nodes.
use Rattle.std.proofs.Common.{◌≡◌, ℕ, zero, suc, ◌<◌, ◌≤◌, inl, inr, Bool, false, List, [], ◌∷◌, ◌++◌, length, slice_get, Some, refl, sym, ap, ◌∙◌, subst, arith}
use Rattle.std.specs.Prelude.{◌↔◌, IsTrue}
use Rattle.own_tree.specs.declared.graph.Maker.{Maker}
use Rattle.own_tree.specs.declared.graph.Node.{Node}
use Rattle.own_tree.specs.declared.op.Op.{Op}
use Rattle.own_tree.specs.declared.place.Place.{Place}
use Rattle.own_paths.specs.Facts.{MayBe}
use Rattle.own_paths.specs.Makers.{BodyUses, Mark, fresh, marked, is_live, maker, tree_of}
use Rattle.own_shapes.proofs.PlaceOrder.{numbers}
use Rattle.own_walks.specs.Graphs.{IsGraphOf}
use Rattle.own_walks.specs.Pairs.{starts_from, pairs_from, pairs_of, IsMark, at_start, at_node}
use Rattle.own_walks.proofs.Breaking.{to_node, from_node}
use Rattle.own_walks.proofs.Carried.{comes_by}
use Rattle.own_breaks.specs.Blaming.{AreOfBody, reaches}
use Rattle.own_breaks.specs.NodeFacts.{MayBeAt}
use Rattle.own_breaks.proofs.Blamed.{some_maker}

-- the makers at the start are not live
start_lives : (entry l : ℕ) (leaves : List Place) (rest : List Maker) (p : ℕ) (q : Maker) → p < length leaves
    → slice_get (starts_from entry l leaves ++ rest) p ≡ Some q → q.live ≡ false
start_lives entry l [] rest p q less at = absurd (omega (arith, less))
start_lives entry l (x ∷ leaves) rest zero q less at =
    sym (ap (λ (m : Maker). m.live) (some_maker (record { node = entry; leaf = l; live = false }) q at))
start_lives entry l (x ∷ leaves) rest (suc p) q less at = start_lives entry (suc l) leaves rest p q (omega (arith, less)) at

module _ (uses : BodyUses) (nodes : List Node) (entry : ℕ) (pairs : List Maker) (facts : List (List Bool)) (are : AreOfBody uses nodes entry pairs facts)
    (these : pairs ≡ pairs_of uses nodes entry) where
  start_live : (p : ℕ) (q : Maker) → p < length uses.leaves → slice_get pairs p ≡ Some q → q.live ≡ false
  start_live p q less at =
      start_lives entry 0 uses.leaves (pairs_from uses.ends_nothing uses.leaves 0 nodes) p q less (subst (λ l. slice_get l p ≡ Some q) these at)

  -- what a maker says of its leaf
  mark_live : (p : ℕ) (q : Maker) (m : Mark) → slice_get pairs p ≡ Some q → IsMark uses nodes pairs p m → q.live ≡ is_live m
  mark_live p q m at (at_start less same) = start_live p q less at ∙ ap is_live (sym same)
  mark_live p q m at (at_node q' node o le at' there op_is same) =
      let s = (are.makers.sound p q le at).1 in
      let node_is : s.node ≡ node = some_node s.node node (sym s.there ∙ ap (λ (x : Maker). slice_get nodes x.node) (some_maker q q' (sym at ∙ at')) ∙ there) in
      let op : s.op ≡ o = some_op s.op o (sym s.op_is ∙ ap (λ (x : Node). x.op) node_is ∙ op_is) in
      s.live ∙ ap (λ (x : Op). is_live (marked x.kind x fresh)) op ∙ ap is_live (sym same)
    where
      some_node : (x y : Node) → Some x ≡ Some y → x ≡ y
      some_node x y e = cc

      some_op : (x y : Op) → Some x ≡ Some y → x ≡ y
      some_op x y e = cc

  -- each maker says something
  some_mark : (p : ℕ) (q : Maker) → slice_get pairs p ≡ Some q → (m : Mark) × IsMark uses nodes pairs p m
  some_mark p q at = elim (numbers p (length uses.leaves)) [
    | inl less ↦ (fresh, at_start less refl)
    | inr (inl same) ↦ later (omega (arith, same))
    | inr (inr more) ↦ later (omega (arith, more))
  ]
    where
      later : length uses.leaves ≤ p → (m : Mark) × IsMark uses nodes pairs p m
      later le = let s = (are.makers.sound p q le at).1 in (marked s.op.kind s.op fresh, at_node q s.node s.op le at s.there s.op_is refl)

  abbrev Says : ℕ → ℕ → Bool → Type 0
  Says v l live = (p : ℕ) × (q : Maker) × (slice_get pairs p ≡ Some q) × (q.leaf ≡ l) × IsTrue (reaches facts v p) × (q.live ≡ live)

  pub facts_by_makers : (v l : ℕ) (leaf : Place) (live : Bool) → slice_get uses.leaves l ≡ Some leaf → MayBeAt uses nodes entry v leaf live ↔ Says v l live
  facts_by_makers v l leaf live here = (there, back)
    where
      there : MayBeAt uses nodes entry v leaf live → Says v l live
      there h =
          let c = (comes_by uses 0 nodes entry pairs are.makers v l leaf (maker uses leaf h.0) here).0 (h.0, h.1, refl) in
          (c.0, c.2.0, c.2.1, c.2.2, (are.has v c.0).1 c.1, mark_live c.0 c.2.0 (maker uses leaf h.0) c.2.1 c.3 ∙ h.2)

      back : Says v l live → MayBeAt uses nodes entry v leaf live
      back h =
          let m = some_mark h.0 h.1 h.2 in
          let c = (comes_by uses 0 nodes entry pairs are.makers v l leaf m.0 here).1 (h.0, (are.has v h.0).0 h.4, (h.1, h.2, h.3), m.1) in
          (c.0, c.1, ap is_live c.2 ∙ sym (mark_live h.0 h.1 m.0 h.2 m.1) ∙ h.5)

-- ---- ops

pub facts_at_nodes : (uses : BodyUses) (nodes : List Node) (entry : ℕ) → IsGraphOf 0 nodes (tree_of uses) entry → (o : Op) (leaf : Place) (live : Bool)
    → MayBe uses o leaf live ↔ ((v : ℕ) × (n : Node) × (slice_get nodes v ≡ Some n) × (n.op ≡ Some o) × MayBeAt uses nodes entry v leaf live)
facts_at_nodes uses nodes entry g o leaf live = (
  λ h. let n = to_node uses 0 nodes entry g h.0 o h.1 in (n.0, n.1, n.2, n.3, (h.0, n.4, h.2)),
  λ h. (h.4.0, from_node uses 0 nodes entry g h.4.0 o h.0 h.1 h.2 h.3 h.4.1, h.4.2),
)
