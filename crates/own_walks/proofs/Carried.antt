-- The makers that reach a node are the marks of the leaves after the walks to it.
use Rattle.std.proofs.Common.{◌≡◌, ℕ, zero, suc, ◌<◌, ◌⊎◌, inl, inr, Bool, true, false, List, [], ◌∷◌, ◌++◌, length, slice_get, Option, Some, None, refl, sym, ap, ◌∙◌, subst, arith, append_assoc}
use Rattle.std.proofs.lemmas.Option.{slice_get_within}
use Rattle.std.specs.Prelude.{◌↔◌, Contains, slice_index_or}
use Rattle.own_tree.specs.declared.graph.Maker.{Maker}
use Rattle.own_tree.specs.declared.graph.Node.{Node}
use Rattle.own_tree.specs.declared.op.Op.{Op}
use Rattle.own_tree.specs.declared.place.Place.{Place}
use Rattle.own_paths.specs.Makers.{BodyUses, Mark, fresh, marked, mark_by, maker}
use Rattle.own_walks.specs.Reaching.{IsOf, IsMadeAt, IsEdge, ReachesIn, Reaches}
use Rattle.own_walks.specs.Graphs.{ops_at, IsNext, Goes}
use Rattle.own_walks.specs.AtNodes.{Comes}
use Rattle.own_walks.specs.Pairs.{makes, IsMaker, AreMakers, IsMark, at_start, at_node}
use Rattle.own_walks.proofs.Breaking.{mark_made, mark_kept, marks_append}
use Rattle.own_paths.proofs.TraceFacts.{append_empty}

-- ---- edges

next_at : (xs : List ℕ) (m k : ℕ) → k < length xs → slice_index_or xs k m ≡ m → IsNext xs m
next_at [] m k lt e = absurd (omega (arith, lt))
next_at (x ∷ xs) m zero lt e = inl (sym e)
next_at (x ∷ xs) m (suc k) lt e = inr (next_at xs m k (omega (arith, lt)) e)

is_next : (xs : List ℕ) (m : ℕ) → Contains xs m → IsNext xs m
is_next xs m c = next_at xs m c.0 c.1 c.2

contains : (xs : List ℕ) (m : ℕ) → IsNext xs m → Contains xs m
contains [] m h = absurd h
contains (x ∷ xs) m (inl e) = (0, omega arith, sym e)
contains (x ∷ xs) m (inr h) = let c = contains xs m h in (suc c.0, omega (arith, c.1), c.2)

-- ---- walks from their end

module _ (ns : List Node) where
  abbrev Came : ℕ → ℕ → List Op → ℕ → Type 0
  Came zero u os v = (u ≡ v) × (os ≡ [])
  Came (suc j) u os v = (w : ℕ) × (n : Node) × (rest : List Op) × Came j u rest w × (slice_get ns w ≡ Some n) × IsNext n.next v × (os ≡ rest ++ ops_at n.op)

  came_first : (j u m v : ℕ) (n : Node) (rest : List Op) → slice_get ns u ≡ Some n → IsNext n.next m → Came j m rest v → Came (suc j) u (ops_at n.op ++ rest) v
  came_first zero u m v n rest at e c =
      (u, n, [], (refl, refl), at, subst (λ x. IsNext n.next x) c.0 e, ap (λ l. ops_at n.op ++ l) c.1 ∙ append_empty (ops_at n.op))
  came_first (suc j) u m v n rest at e c =
      let r = came_first j u m c.0 n c.2 at e c.3 in
      (c.0, c.1, ops_at n.op ++ c.2, r, c.4, c.5, ap (λ l. ops_at n.op ++ l) c.6 ∙ sym (append_assoc (ops_at n.op) c.2 (ops_at c.1.op)))

  came : (lo j u : ℕ) (os : List Op) (v : ℕ) → Goes lo ns j u os v → Came j u os v
  came lo zero u os v g = g
  came lo (suc j) u os v g = subst (λ l. Came (suc j) u l v) (sym g.5) (came_first j u g.1 v g.0 g.2 g.3 g.4 (came lo j g.1 g.2 v g.6))

  goes_last : (lo j u w v : ℕ) (n : Node) (rest : List Op) → Goes lo ns j u rest w → slice_get ns w ≡ Some n → IsNext n.next v → Goes lo ns (suc j) u (rest ++ ops_at n.op) v
  goes_last lo zero u w v n rest g at e =
      (n, v, [], subst (λ x. slice_get ns x ≡ Some n) (sym g.0) at, e, ap (λ l. l ++ ops_at n.op) g.1 ∙ sym (append_empty (ops_at n.op)), (refl, refl))
  goes_last lo (suc j) u w v n rest g at e =
      (g.0, g.1, g.2 ++ ops_at n.op, g.3, g.4, ap (λ l. l ++ ops_at n.op) g.5 ∙ append_assoc (ops_at g.0.op) g.2 (ops_at n.op), goes_last lo j g.1 w v n g.2 g.6 at e)

  gone : (lo j u : ℕ) (os : List Op) (v : ℕ) → Came j u os v → Goes lo ns j u os v
  gone lo zero u os v c = c
  gone lo (suc j) u os v c = subst (λ l. Goes lo ns (suc j) u l v) (sym c.6) (goes_last lo j u c.0 v c.1 c.2 (gone lo j u c.2 c.0 c.3) c.4 c.5)

some_node : (x y : Node) → Some x ≡ Some y → x ≡ y
some_node x y e = cc

some_maker : (x y : Maker) → Some x ≡ Some y → x ≡ y
some_maker x y e = cc

some_op : (x y : Op) → Some x ≡ Some y → x ≡ y
some_op x y e = cc

some_place : (x y : Place) → Some x ≡ Some y → x ≡ y
some_place x y e = cc

module _ (uses : BodyUses) (lo : ℕ) (ns : List Node) (entry : ℕ) (pairs : List Maker) (are : AreMakers uses ns entry pairs) where
  abbrev leaves : ℕ
  leaves = length uses.leaves

  -- what the op of a node does to the mark of a leaf
  after_op : (leaf : Place) (rest os : List Op) (n : Node) (o : Op) → n.op ≡ Some o → os ≡ rest ++ ops_at n.op → maker uses leaf os ≡ mark_by uses leaf o (maker uses leaf rest)
  after_op leaf rest os n o is e = ap (λ l. maker uses leaf l) (e ∙ ap (λ x. rest ++ ops_at x) is) ∙ marks_append uses leaf fresh rest (o ∷ [])

  after_none : (leaf : Place) (rest os : List Op) (n : Node) → n.op ≡ None → os ≡ rest ++ ops_at n.op → maker uses leaf os ≡ maker uses leaf rest
  after_none leaf rest os n is e = ap (λ l. maker uses leaf l) (e ∙ ap (λ x. rest ++ ops_at x) is ∙ append_empty rest)

  -- the op of a node at which a leaf has a maker
  record At (u l : ℕ) (n : Node) (leaf : Place) : Type 0 where
    o : Op
    op_is : n.op ≡ Some o
    makes_it : makes uses o leaf ≡ true

  made_by : (u p l : ℕ) (n : Node) (leaf : Place) → slice_get ns u ≡ Some n → slice_get uses.leaves l ≡ Some leaf → IsMadeAt pairs leaves u p l → At u l n leaf
  made_by u p l n leaf at here i = go (are.sound p i.1 i.0 i.2)
    where
      go : (leaf' : Place) × IsMaker uses ns i.1 leaf' → At u l n leaf
      go r =
          let m = r.1 in
          let node : m.node ≡ n = some_node m.node n (sym m.there ∙ ap (λ x. slice_get ns x) i.4 ∙ at) in
          let place : r.0 ≡ leaf = some_place r.0 leaf (sym m.leaf_at ∙ ap (λ x. slice_get uses.leaves x) i.3 ∙ here) in
          record { o = m.op; op_is = sym (ap (λ (x : Node). x.op) node) ∙ m.op_is; makes_it = subst (λ x. makes uses m.op x ≡ true) place m.makes }

  leaf_of : (p a b : ℕ) → IsOf pairs p a → IsOf pairs p b → a ≡ b
  leaf_of p a b h i = sym h.2 ∙ ap (λ (q : Maker). q.leaf) (some_maker h.0 i.0 (sym h.1 ∙ i.1)) ∙ i.2

  -- ---- what reaches a node is the mark after some walk

  reach_mark : (j v p l : ℕ) (leaf : Place) → ReachesIn pairs leaves ns entry j v p → IsOf pairs p l → slice_get uses.leaves l ≡ Some leaf → (os : List Op) × Came ns j entry os v × IsMark uses ns pairs p (maker uses leaf os)
  reach_mark zero v p l leaf r is here = ([], (sym r.0, refl), at_start r.1 refl)
  reach_mark (suc j) v p l leaf r is here = go r.4.2 (λ same. reach_mark j r.0 r.1 l leaf r.2 (subst (λ x. IsOf pairs r.1 x) same r.4.1) here)
    where
      n : Node
      n = r.3.0

      Answer : Type 0
      Answer = (os : List Op) × Came ns (suc j) entry os v × IsMark uses ns pairs p (maker uses leaf os)

      came_on : (w : (os : List Op) × Came ns j entry os r.0 × IsMark uses ns pairs r.1 (maker uses leaf os)) → Came ns (suc j) entry (w.0 ++ ops_at n.op) v
      came_on w = (r.0, n, w.0, w.1, r.3.1, is_next n.next v r.3.2, refl)

      by_made : (i : IsMadeAt pairs leaves r.0 p r.4.0) → r.4.0 ≡ l → ((os : List Op) × Came ns j entry os r.0 × IsMark uses ns pairs r.1 (maker uses leaf os)) → (os : List Op) × Came ns (suc j) entry os v × IsMark uses ns pairs p (maker uses leaf os)
      by_made i same w =
          let a = made_by r.0 p l n leaf r.3.1 here (subst (λ x. IsMadeAt pairs leaves r.0 p x) same i) in (
            w.0 ++ ops_at n.op,
            came_on w,
            at_node i.1 n a.o i.0 i.2 (ap (λ x. slice_get ns x) i.4 ∙ r.3.1) a.op_is
                (after_op leaf w.0 (w.0 ++ ops_at n.op) n a.o a.op_is refl ∙ mark_made uses leaf a.o (maker uses leaf w.0) a.makes_it),
          )

      kept : (op : Option Op) → n.op ≡ op → (w : (os : List Op) × Came ns j entry os r.0 × IsMark uses ns pairs r.1 (maker uses leaf os)) → ((q : ℕ) → IsMadeAt pairs leaves r.0 q l → ⊥) → maker uses leaf (w.0 ++ ops_at n.op) ≡ maker uses leaf w.0
      kept None e w no_maker = after_none leaf w.0 (w.0 ++ ops_at n.op) n e refl
      kept (Some o) e w no_maker = after_op leaf w.0 (w.0 ++ ops_at n.op) n o e refl ∙ mark_kept uses leaf o (maker uses leaf w.0) (not_made (makes uses o leaf) refl)
        where
          not_made : (b : Bool) → makes uses o leaf ≡ b → makes uses o leaf ≡ false
          not_made false h = h
          not_made true h = let x = are.complete r.0 n o l leaf r.3.1 e here h in absurd (no_maker x.0 (x.1, x.2.0, x.2.1, x.2.3, x.2.2))

      go : IsMadeAt pairs leaves r.0 p r.4.0 ⊎ ((p ≡ r.1) × ((q : ℕ) → IsMadeAt pairs leaves r.0 q r.4.0 → ⊥)) → (r.4.0 ≡ l → (os : List Op) × Came ns j entry os r.0 × IsMark uses ns pairs r.1 (maker uses leaf os))
          → (os : List Op) × Came ns (suc j) entry os v × IsMark uses ns pairs p (maker uses leaf os)
      go (inl i) before =
          let same : r.4.0 ≡ l = leaf_of p r.4.0 l (i.1, i.2, i.3) is in by_made i same (before same)
      go (inr k) before =
          let same : r.4.0 ≡ l = leaf_of r.1 r.4.0 l r.4.1 (subst (λ x. IsOf pairs x l) k.0 is) in
          let w = before same in (
            w.0 ++ ops_at n.op,
            came_on w,
            subst (λ x. IsMark uses ns pairs x (maker uses leaf (w.0 ++ ops_at n.op))) (sym k.0)
                (subst (λ m. IsMark uses ns pairs r.1 m) (sym (kept n.op refl w (λ q i. k.1 q (subst (λ x. IsMadeAt pairs leaves r.0 q x) (sym same) i)))) w.2),
          )

  -- ---- and the mark after each walk reaches its node

  walk_reach : (j v l : ℕ) (leaf : Place) (os : List Op) → Came ns j entry os v → slice_get uses.leaves l ≡ Some leaf → (p : ℕ) × ReachesIn pairs leaves ns entry j v p × IsOf pairs p l × IsMark uses ns pairs p (maker uses leaf os)
  walk_reach zero v l leaf os c here =
      let lt : l < leaves = slice_get_within uses.leaves l leaf here in
      let q = are.starts l lt in
      (l, (sym c.0, lt), (q.0, q.1, q.3), at_start lt (ap (λ x. maker uses leaf x) c.1))
  walk_reach (suc j) v l leaf os c here = go c.1.op refl (walk_reach j c.0 l leaf c.2 c.3 here)
    where
      n : Node
      n = c.1

      edge : IsEdge ns c.0 v
      edge = (n, c.4, contains n.next v c.5)

      same_mark : (w : (p : ℕ) × ReachesIn pairs leaves ns entry j c.0 p × IsOf pairs p l × IsMark uses ns pairs p (maker uses leaf c.2)) → maker uses leaf os ≡ maker uses leaf c.2 → ((q : ℕ) → IsMadeAt pairs leaves c.0 q l → ⊥)
          → (p : ℕ) × ReachesIn pairs leaves ns entry (suc j) v p × IsOf pairs p l × IsMark uses ns pairs p (maker uses leaf os)
      same_mark w is no_maker =
          (w.0, (c.0, w.0, w.1, edge, (l, w.2, inr (refl, no_maker))), w.2, subst (λ m. IsMark uses ns pairs w.0 m) (sym is) w.3)

      by_op : (o : Op) → n.op ≡ Some o → (b : Bool) → makes uses o leaf ≡ b → (w : (p : ℕ) × ReachesIn pairs leaves ns entry j c.0 p × IsOf pairs p l × IsMark uses ns pairs p (maker uses leaf c.2))
          → (p : ℕ) × ReachesIn pairs leaves ns entry (suc j) v p × IsOf pairs p l × IsMark uses ns pairs p (maker uses leaf os)
      by_op o e true h w =
          let x = are.complete c.0 n o l leaf c.4 e here h in
          let at : slice_get ns x.2.0.node ≡ Some n = ap (λ y. slice_get ns y) x.2.2 ∙ c.4 in (
            x.0,
            (c.0, w.0, w.1, edge, (l, w.2, inl (x.1, x.2.0, x.2.1, x.2.3, x.2.2))),
            (x.2.0, x.2.1, x.2.3),
            at_node x.2.0 n o x.1 x.2.1 at e (after_op leaf c.2 os n o e c.6 ∙ mark_made uses leaf o (maker uses leaf c.2) h),
          )
      by_op o e false h w =
          same_mark w (after_op leaf c.2 os n o e c.6 ∙ mark_kept uses leaf o (maker uses leaf c.2) h) (λ q i.
          let a = made_by c.0 q l n leaf c.4 here i in
          let same : a.o ≡ o = some_op a.o o (sym a.op_is ∙ e) in
          let yes : makes uses o leaf ≡ true = subst (λ y. makes uses y leaf ≡ true) same a.makes_it in
          let both : true ≡ false = sym yes ∙ h in
          cc)

      go : (op : Option Op) → n.op ≡ op → (w : (p : ℕ) × ReachesIn pairs leaves ns entry j c.0 p × IsOf pairs p l × IsMark uses ns pairs p (maker uses leaf c.2))
          → (p : ℕ) × ReachesIn pairs leaves ns entry (suc j) v p × IsOf pairs p l × IsMark uses ns pairs p (maker uses leaf os)
      go (Some o) e w = by_op o e (makes uses o leaf) refl w
      go None e w =
          same_mark w (after_none leaf c.2 os n e c.6) (λ q i.
          let a = made_by c.0 q l n leaf c.4 here i in
          let both : None ≡ Some a.o = sym e ∙ a.op_is in
          cc)

  -- a pair says one thing
  mark_is : (p : ℕ) (a b : Mark) → IsMark uses ns pairs p a → IsMark uses ns pairs p b → a ≡ b
  mark_is p a b (at_start lt e) (at_start lt' f) = e ∙ sym f
  mark_is p a b (at_start lt e) (at_node q n o le at node op f) = absurd (omega (arith, lt, le))
  mark_is p a b (at_node q n o le at node op f) (at_start lt e) = absurd (omega (arith, lt, le))
  mark_is p a b (at_node q n o le at node op f) (at_node q' n' o' le' at' node' op' f') =
      let same : q ≡ q' = some_maker q q' (sym at ∙ at') in
      let nodes : n ≡ n' = some_node n n' (sym node ∙ ap (λ (x : Maker). slice_get ns x.node) same ∙ node') in
      let ops : o ≡ o' = some_op o o' (sym op ∙ ap (λ (x : Node). x.op) nodes ∙ op') in
      f ∙ ap (λ (x : Op). marked x.kind x fresh) ops ∙ sym f'

  -- the facts of a node, by the makers that reach it
  pub comes_by : (v l : ℕ) (leaf : Place) (m : Mark) → slice_get uses.leaves l ≡ Some leaf
      → Comes uses lo ns entry v leaf m ↔ ((p : ℕ) × Reaches pairs leaves ns entry v p × IsOf pairs p l × IsMark uses ns pairs p m)
  comes_by v l leaf m here = (there, back)
    where
      there : Comes uses lo ns entry v leaf m → (p : ℕ) × Reaches pairs leaves ns entry v p × IsOf pairs p l × IsMark uses ns pairs p m
      there c =
          let w = walk_reach c.1.0 v l leaf c.0 (came ns lo c.1.0 entry c.0 v c.1.1) here in
          (w.0, (c.1.0, w.1), w.2, subst (λ x. IsMark uses ns pairs w.0 x) c.2 w.3)

      back : (p : ℕ) × Reaches pairs leaves ns entry v p × IsOf pairs p l × IsMark uses ns pairs p m → Comes uses lo ns entry v leaf m
      back w =
          let r = reach_mark w.1.0 v w.0 l leaf w.1.1 w.2 here in
          (r.0, (w.1.0, gone ns lo w.1.0 entry r.0 v r.1), mark_is w.0 (maker uses leaf r.0) m r.2 w.3)
