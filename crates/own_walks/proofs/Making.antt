-- The pairs of the function are the makers of a graph.
use Rattle.std.proofs.Common.{◌≡◌, ℕ, zero, suc, ◌+◌, ◌-◌, ◌≤◌, ◌<◌, Bool, true, false, not, ◌&&◌, cond, inl, inr, List, [], ◌∷◌, ◌++◌, length, slice_get, Option, Some, None, refl, sym, ap, ◌∙◌, subst, arith}
use Rattle.std.proofs.lemmas.Bool.{cases_lt}
use Rattle.std.proofs.lemmas.Option.{slice_get_within}
use Rattle.own_shapes.proofs.Lists.{get_front}
use Rattle.own_tree.specs.declared.graph.Maker.{Maker}
use Rattle.own_tree.specs.declared.graph.Node.{Node}
use Rattle.own_tree.specs.declared.op.Op.{Op}
use Rattle.own_tree.specs.declared.place.Place.{Place}
use Rattle.own_paths.specs.Makers.{BodyUses}
use Rattle.own_walks.specs.Pairs.{makes, lives_by, starts_from, covered_pairs, node_pairs, pairs_from, pairs_of, IsMaker, IsPair, AreMakers, BelongTo}
use Rattle.own_paths.specs.BodyLimits.{is_maker}
use Rattle.own_shapes.specs.Places.{covers}

-- ---- lists one after another

late : (xs ys : List Maker) (i : ℕ) → slice_get (xs ++ ys) (length xs + i) ≡ slice_get ys i
late [] ys i = let at : 0 + i ≡ i = omega arith in ap (λ k. slice_get ys k) at
late (x ∷ xs) ys i = let at : suc (length xs) + i ≡ suc (length xs + i) = omega arith in ap (λ k. slice_get (x ∷ (xs ++ ys)) k) at ∙ late xs ys i

-- in one of the two
data In (xs ys : List Maker) (q : Maker) : Type 0 where
  front : (i : ℕ) → slice_get xs i ≡ Some q → In xs ys q
  back : (i : ℕ) → slice_get ys i ≡ Some q → In xs ys q

in_later : (x : Maker) (xs ys : List Maker) (q : Maker) → In xs ys q → In (x ∷ xs) ys q
in_later x xs ys q (front i e) = front (suc i) e
in_later x xs ys q (back i e) = back i e

in_either : (xs ys : List Maker) (i : ℕ) (q : Maker) → slice_get (xs ++ ys) i ≡ Some q → In xs ys q
in_either [] ys i q e = back i e
in_either (x ∷ xs) ys zero q e = front 0 e
in_either (x ∷ xs) ys (suc i) q e = in_later x xs ys q (in_either xs ys i q e)

-- ---- the starts

starts_length : (entry l : ℕ) (leaves : List Place) → length (starts_from entry l leaves) ≡ length leaves
starts_length entry l [] = refl
starts_length entry l (leaf ∷ leaves) = ap suc (starts_length entry (suc l) leaves)

start_at : (entry k : ℕ) (leaves : List Place) (l : ℕ) → l < length leaves → IsPair (starts_from entry k leaves) l entry (k + l)
start_at entry k [] l h = absurd (omega (arith, h))
start_at entry k (leaf ∷ leaves) zero h = (record { node = entry; leaf = k; live = false }, refl, refl, omega arith)
start_at entry k (leaf ∷ leaves) (suc l) h =
    let r = start_at entry (suc k) leaves l (omega (arith, h)) in (r.0, r.1, r.2, omega (arith, r.3))

-- ---- the pairs of one op

abbrev pair : ℕ → Op → ℕ → Maker
pair u o l = record { node = u; leaf = l; live = lives_by o }

abbrev chosen : Bool → ℕ → Op → ℕ → List Place → List Maker
chosen c u o l leaves = cond c (pair u o l ∷ covered_pairs u o (suc l) leaves) (covered_pairs u o (suc l) leaves)

-- what is said of a pair of the op
record OfOp (u : ℕ) (o : Op) (l : ℕ) (leaves : List Place) (q : Maker) : Type 0 where
  at : ℕ
  leaf : Place
  there : slice_get leaves at ≡ Some leaf
  leaf_is : q.leaf ≡ l + at
  node_is : q.node ≡ u
  covered : covers o.place leaf ≡ true
  live : q.live ≡ lives_by o

of_later : (u : ℕ) (o : Op) (l : ℕ) (leaf : Place) (leaves : List Place) (q : Maker) → OfOp u o (suc l) leaves q → OfOp u o l (leaf ∷ leaves) q
of_later u o l leaf leaves q r = record { at = suc r.at; leaf = r.leaf; there = r.there; leaf_is = omega (arith, r.leaf_is); node_is = r.node_is; covered = r.covered; live = r.live }

some_pair : (x q : Maker) → Some x ≡ Some q → q ≡ x
some_pair x q e = cc

op_sound : (u : ℕ) (o : Op) (l : ℕ) (leaves : List Place) (i : ℕ) (q : Maker) → slice_get (covered_pairs u o l leaves) i ≡ Some q → OfOp u o l leaves q
op_sound u o l [] i q e = cc
op_sound u o l (leaf ∷ leaves) i q e = go (λ j f. of_later u o l leaf leaves q (op_sound u o (suc l) leaves j q f)) (covers o.place leaf) refl i e
  where
    go : ((j : ℕ) → slice_get (covered_pairs u o (suc l) leaves) j ≡ Some q → OfOp u o l (leaf ∷ leaves) q)
        → (c : Bool) → covers o.place leaf ≡ c → (i : ℕ) → slice_get (chosen c u o l leaves) i ≡ Some q → OfOp u o l (leaf ∷ leaves) q
    go later false h i e = later i e
    go later true h zero e =
        let is = some_pair (pair u o l) q e in
        record { at = 0; leaf = leaf; there = refl; leaf_is = ap (λ (x : Maker). x.leaf) is ∙ omega arith; node_is = ap (λ (x : Maker). x.node) is; covered = h; live = ap (λ (x : Maker). x.live) is }
    go later true h (suc i) e = later i e

-- a pair of this node and leaf
abbrev Has : List Maker → ℕ → ℕ → Type 0
Has pairs u l = (p : ℕ) × IsPair pairs p u l

op_complete : (u : ℕ) (o : Op) (l : ℕ) (leaves : List Place) (at : ℕ) (leaf : Place) → slice_get leaves at ≡ Some leaf → covers o.place leaf ≡ true → Has (covered_pairs u o l leaves) u (l + at)
op_complete u o l [] at leaf e h = cc
op_complete u o l (x ∷ leaves) zero leaf e h = go (covers o.place x) made
  where
    made : covers o.place x ≡ true
    made = let is : x ≡ leaf = cc in subst (λ y. covers o.place y ≡ true) (sym is) h

    go : (c : Bool) → c ≡ true → Has (chosen c u o l leaves) u (l + 0)
    go true e' = (0, (pair u o l, refl, refl, omega arith))
    go false e' = cc
op_complete u o l (x ∷ leaves) (suc at) leaf e h = go (covers o.place x) (op_complete u o (suc l) leaves at leaf e h)
  where
    go : (c : Bool) → Has (covered_pairs u o (suc l) leaves) u (suc l + at) → Has (chosen c u o l leaves) u (l + suc at)
    go true r = (suc r.0, (r.1.0, r.1.1, r.1.2, omega (arith, r.1.3)))
    go false r = (r.0, (r.1.0, r.1.1, r.1.2, omega (arith, r.1.3)))

-- by parts
makes_by : (a b c : Bool) → a ≡ true → (b && c) ≡ true → ((a && c) && b) ≡ true
makes_by true true true h e = refl
makes_by true true false h e = cc
makes_by true false c h e = cc
makes_by false b c h e = cc

by_makes : (a b c : Bool) → ((a && c) && b) ≡ true → (a ≡ true) × ((b && c) ≡ true)
by_makes true true true e = (refl, refl)
by_makes true true false e = cc
by_makes true false true e = cc
by_makes true false false e = cc
by_makes false b c e = cc

module _ (uses : BodyUses) where
  abbrev node_all : ℕ → Option Op → List Maker
  node_all = node_pairs uses.ends_nothing uses.leaves

  abbrev all_from : ℕ → List Node → List Maker
  all_from = pairs_from uses.ends_nothing uses.leaves

  -- ---- those of all nodes

  record OfNodes (u : ℕ) (nodes : List Node) (q : Maker) : Type 0 where
    at : ℕ
    node : Node
    there : slice_get nodes at ≡ Some node
    node_is : q.node ≡ u + at
    op : Op
    op_is : node.op ≡ Some op
    leaf : Place
    leaf_at : slice_get uses.leaves q.leaf ≡ Some leaf
    makes : makes uses op leaf ≡ true
    live : q.live ≡ lives_by op

  node_sound : (u : ℕ) (n : Node) (nodes : List Node) (found : Option Op) → n.op ≡ found → (i : ℕ) (q : Maker) → slice_get (node_all u found) i ≡ Some q → OfNodes u (n ∷ nodes) q
  node_sound u n nodes None is i q e = cc
  node_sound u n nodes (Some o) is i q e = go (is_maker o.kind && not (uses.ends_nothing o)) refl e
    where
      go : (c : Bool) → (is_maker o.kind && not (uses.ends_nothing o)) ≡ c → slice_get (cond c (covered_pairs u o 0 uses.leaves) []) i ≡ Some q → OfNodes u (n ∷ nodes) q
      go false h e = cc
      go true h e =
          let r = op_sound u o 0 uses.leaves i q e in
          let same : q.leaf ≡ r.at = omega (arith, r.leaf_is) in
          record {
            at = 0;
            node = n;
            there = refl;
            node_is = omega (arith, r.node_is);
            op = o;
            op_is = is;
            leaf = r.leaf;
            leaf_at = ap (λ x. slice_get uses.leaves x) same ∙ r.there;
            makes = makes_by (covers o.place r.leaf) (is_maker o.kind) (not (uses.ends_nothing o)) r.covered h;
            live = r.live;
          }

  nodes_later : (u : ℕ) (n : Node) (nodes : List Node) (q : Maker) → OfNodes (suc u) nodes q → OfNodes u (n ∷ nodes) q
  nodes_later u n nodes q r = record {
    at = suc r.at;
    node = r.node;
    there = r.there;
    node_is = omega (arith, r.node_is);
    op = r.op;
    op_is = r.op_is;
    leaf = r.leaf;
    leaf_at = r.leaf_at;
    makes = r.makes;
    live = r.live;
  }

  nodes_sound : (u : ℕ) (nodes : List Node) (i : ℕ) (q : Maker) → slice_get (all_from u nodes) i ≡ Some q → OfNodes u nodes q
  nodes_sound u [] i q e = cc
  nodes_sound u (n ∷ nodes) i q e = go (λ j h. nodes_later u n nodes q (nodes_sound (suc u) nodes j q h)) (in_either (node_all u n.op) (all_from (suc u) nodes) i q e)
    where
      go : ((j : ℕ) → slice_get (all_from (suc u) nodes) j ≡ Some q → OfNodes u (n ∷ nodes) q) → In (node_all u n.op) (all_from (suc u) nodes) q → OfNodes u (n ∷ nodes) q
      go later (front j h) = node_sound u n nodes n.op refl j q h
      go later (back j h) = later j h

  nodes_complete : (u : ℕ) (nodes : List Node) (at : ℕ) (n : Node) (o : Op) (l : ℕ) (leaf : Place)
      → slice_get nodes at ≡ Some n → n.op ≡ Some o → slice_get uses.leaves l ≡ Some leaf → makes uses o leaf ≡ true → Has (all_from u nodes) (u + at) l
  nodes_complete u [] at n o l leaf e is there h = cc
  nodes_complete u (x ∷ nodes) zero n o l leaf e is there h =
      let same : x ≡ n = cc in
      let parts = by_makes (covers o.place leaf) (is_maker o.kind) (not (uses.ends_nothing o)) h in
      let r = op_complete u o 0 uses.leaves l leaf there parts.0 in
      let found : slice_get (node_all u x.op) r.0 ≡ Some r.1.0 = subst (λ y. slice_get (node_all u y) r.0 ≡ Some r.1.0) (sym (ap (λ (y : Node). y.op) same ∙ is))
      (subst (λ c. slice_get (cond c (covered_pairs u o 0 uses.leaves) []) r.0 ≡ Some r.1.0) (sym parts.1) r.1.1) in
      (r.0, (r.1.0, get_front (node_all u x.op) (all_from (suc u) nodes) r.0 r.1.0 found, omega (arith, r.1.2), omega (arith, r.1.3)))
  nodes_complete u (x ∷ nodes) (suc at) n o l leaf e is there h =
      let r = nodes_complete (suc u) nodes at n o l leaf e is there h in
      (length (node_all u x.op) + r.0, (r.1.0, late (node_all u x.op) (all_from (suc u) nodes) r.0 ∙ r.1.1, omega (arith, r.1.2), r.1.3))

  -- ---- the whole list

  module _ (nodes : List Node) (entry : ℕ) where
    abbrev starts : List Maker
    starts = starts_from entry 0 uses.leaves

    of_leaf : (l : ℕ) → l < length uses.leaves → IsPair (pairs_of uses nodes entry) l entry l
    of_leaf l h =
        let r = start_at entry 0 uses.leaves l h in
        (r.0, get_front starts (all_from 0 nodes) l r.0 r.1, r.2, omega (arith, r.3))

    of_node : (p : ℕ) (q : Maker) → length uses.leaves ≤ p → slice_get (pairs_of uses nodes entry) p ≡ Some q → OfNodes 0 nodes q
    of_node p q h e =
        let k = p - length uses.leaves in
        let at : p ≡ length starts + k = omega (arith, h, starts_length entry 0 uses.leaves) in
        nodes_sound 0 nodes k q (sym (late starts (all_from 0 nodes) k) ∙ ap (λ x. slice_get (pairs_of uses nodes entry) x) (sym at) ∙ e)

    sound : (p : ℕ) (q : Maker) → length uses.leaves ≤ p → slice_get (pairs_of uses nodes entry) p ≡ Some q → (leaf : Place) × IsMaker uses nodes q leaf
    sound p q h e =
        let r = of_node p q h e in
        let same : q.node ≡ r.at = omega (arith, r.node_is) in
        (r.leaf, record { node = r.node; there = ap (λ x. slice_get nodes x) same ∙ r.there; op = r.op; op_is = r.op_is; leaf_at = r.leaf_at; makes = r.makes; live = r.live })

    complete : (u : ℕ) (n : Node) (o : Op) (l : ℕ) (leaf : Place) → slice_get nodes u ≡ Some n → n.op ≡ Some o → slice_get uses.leaves l ≡ Some leaf → makes uses o leaf ≡ true
        → (p : ℕ) × (length uses.leaves ≤ p) × IsPair (pairs_of uses nodes entry) p u l
    complete u n o l leaf e is there h =
        let r = nodes_complete 0 nodes u n o l leaf e is there h in
        let size = starts_length entry 0 uses.leaves in
        (length starts + r.0, omega (arith, size), (r.1.0, late starts (all_from 0 nodes) r.0 ∙ r.1.1, omega (arith, r.1.2), r.1.3))

    pub pairs_are_makers : AreMakers uses nodes entry (pairs_of uses nodes entry)
    pairs_are_makers = record { starts = of_leaf; sound = sound; complete = complete }

    some_maker : (x y : Maker) → Some x ≡ Some y → x ≡ y
    some_maker x y e = cc

    pub pairs_belong : entry < length nodes → BelongTo (length nodes) (length uses.leaves) (pairs_of uses nodes entry)
    pairs_belong within = record {
      starts = λ l h. let r = of_leaf l h in (r.0, r.1, r.3);
      node = λ p q e. elim (cases_lt p (length uses.leaves)) [
        | inl h ↦ let r = of_leaf p h in let is : r.0 ≡ q = some_maker r.0 q (sym r.1 ∙ e) in
            let same : q.node ≡ entry = ap (λ (x : Maker). x.node) (sym is) ∙ r.2 in omega (arith, same, within)
        | inr h ↦ let r = of_node p q h e in let low : r.at < length nodes = slice_get_within nodes r.at r.node r.there in omega (arith, r.node_is, low)
      ];
      leaf = λ p q e. elim (cases_lt p (length uses.leaves)) [
        | inl h ↦ let r = of_leaf p h in let is : r.0 ≡ q = some_maker r.0 q (sym r.1 ∙ e) in
            let same : q.leaf ≡ p = ap (λ (x : Maker). x.leaf) (sym is) ∙ r.3 in omega (arith, same, h)
        | inr h ↦ let r = of_node p q h e in slice_get_within uses.leaves q.leaf r.leaf r.leaf_at
      ];
    }
