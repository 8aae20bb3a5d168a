-- One round over the edges of a graph.
use Rattle.std.proofs.Common.{◌≡◌, ℕ, zero, suc, ◌+◌, ◌<◌, ◌≤◌, ◌⊎◌, inl, inr, Bool, true, false, ◌||◌, List, [], ◌∷◌, length, slice_get, Some, refl, sym, ap, ◌∙◌, subst, arith}
use Rattle.std.proofs.lemmas.Bool.{cases_eq}
use Rattle.std.proofs.lemmas.Option.{slice_get_within}
use Rattle.std.specs.Prelude.{◌↔◌, Contains, slice_index_or}
use Rattle.own_tree.specs.declared.graph.Graph.{Graph}
use Rattle.own_tree.specs.declared.graph.Maker.{Maker}
use Rattle.own_tree.specs.declared.graph.Makers.{Makers}
use Rattle.own_tree.specs.declared.graph.Node.{Node}
use Rattle.own_walks.specs.Reaching.{IsOf, IsMadeAt, Becomes, IsEdge}
use Rattle.own_flow.specs.Facts.{IsFactAt, facts_in}
use Rattle.own_flow.specs.Flow.{HasAt, Passed, Spreads, Gains}
use Rattle.own_flow.specs.Rounds.{AreClosed, IsRound, RoundsTo, IsLeft, IsAdded}
use Rattle.own_flow.specs.Words.{Has}
use Rattle.own_flow.proofs.TableLaws.{fact_is}

some_maker : (x y : Maker) → Some x ≡ Some y → x ≡ y
some_maker x y e = cc

leaf_of : (pairs : List Maker) (m a b : ℕ) → IsOf pairs m a → IsOf pairs m b → a ≡ b
leaf_of pairs m a b h i = sym h.2 ∙ ap (λ (q : Maker). q.leaf) (some_maker h.0 i.0 (sym h.1 ∙ i.1)) ∙ i.2

module _ (pairs : List Maker) (leaves u : ℕ) (row : List ℕ) where
  -- ---- without the makers of leaves that the first k pairs make at the node

  abbrev pub IsLeftFirst : ℕ → ℕ → Type 0
  IsLeftFirst k m = Has row m × ((p leaf : ℕ) → IsMadeAt pairs leaves u p leaf → p < k → IsOf pairs m leaf → ⊥)

  pub left_none : (m : ℕ) → Has row m ↔ IsLeftFirst leaves m
  left_none m = (λ h. (h, λ p leaf i lt is. absurd (omega (arith, i.0, lt))), λ h. h.0)

  pub left_all : (k m : ℕ) → length pairs ≤ k → IsLeftFirst k m ↔ IsLeft pairs leaves u row m
  left_all k m le = (
    λ h. (h.0, λ p leaf i is. h.1 p leaf i (let lt = slice_get_within pairs p i.1 i.2 in omega (arith, lt, le)) is),
    λ h. (h.0, λ p leaf i lt is. h.1 p leaf i is),
  )

  -- and the first k pairs at the node whose leaf has a maker in the row
  abbrev pub IsAddedFirst : ℕ → ℕ → Type 0
  IsAddedFirst k m = IsAdded pairs leaves u row m × (m < k)

  pub added_none : (m : ℕ) → IsAddedFirst leaves m → ⊥
  added_none m h = absurd (omega (arith, h.0.1.0, h.1))

  pub added_all : (k m : ℕ) → length pairs ≤ k → IsAddedFirst k m ↔ IsAdded pairs leaves u row m
  added_all k m le = (λ h. h.0, λ h. (h, let lt = slice_get_within pairs m h.1.1 h.1.2 in omega (arith, lt, le)))

  module _ (k : ℕ) (pair : Maker) (low : leaves ≤ k) (at : slice_get pairs k ≡ Some pair) where
    of_pair : (p leaf : ℕ) → IsMadeAt pairs leaves u p leaf → p ≡ k → (leaf ≡ pair.leaf) × (pair.node ≡ u)
    of_pair p leaf i e =
        let is : i.1 ≡ pair = some_maker i.1 pair (sym i.2 ∙ ap (λ x. slice_get pairs x) e ∙ at) in
        (sym i.3 ∙ ap (λ (q : Maker). q.leaf) is, sym (ap (λ (q : Maker). q.node) is) ∙ i.4)

    made_here : pair.node ≡ u → IsMadeAt pairs leaves u k pair.leaf
    made_here e = (low, pair, at, refl, e)

    -- a pair at the node
    pub left_step : (mask out out' : List ℕ) → pair.node ≡ u → ((m : ℕ) → Has mask m ↔ IsOf pairs m pair.leaf) → ((m : ℕ) → Has out' m ↔ (Has out m × ¬ (Has mask m)))
        → ((m : ℕ) → Has out m ↔ IsLeftFirst k m) → (m : ℕ) → Has out' m ↔ IsLeftFirst (k + 1) m
    left_step mask out out' here masked removed done m = (there, back)
      where
        there : Has out' m → IsLeftFirst (k + 1) m
        there h =
            let both = (removed m).0 h in
            let before = (done m).0 both.0 in (
              before.0,
              λ p leaf i lt is. elim (cases_eq p k) [
                | inl e ↦ both.1 ((masked m).1 (subst (λ l. IsOf pairs m l) (of_pair p leaf i e).0 is))
                | inr other ↦ before.1 p leaf i (omega (arith, lt, other)) is
              ],
            )

        back : IsLeftFirst (k + 1) m → Has out' m
        back h = (removed m).1 (
          (done m).1 (h.0, λ p leaf i lt is. h.1 p leaf i (omega (arith, lt)) is),
          λ has. h.1 k pair.leaf (made_here here) (omega arith) ((masked m).0 has),
        )

    -- a pair elsewhere
    pub left_other : (out : List ℕ) → (pair.node ≡ u → ⊥) → ((m : ℕ) → Has out m ↔ IsLeftFirst k m) → (m : ℕ) → Has out m ↔ IsLeftFirst (k + 1) m
    left_other out other done m = (
      λ h. let before = (done m).0 h in
          (before.0, λ p leaf i lt is. elim (cases_eq p k) [ inl e ↦ other (of_pair p leaf i e).1 | inr less ↦ before.1 p leaf i (omega (arith, lt, less)) is ]),
      λ h. (done m).1 (h.0, λ p leaf i lt is. h.1 p leaf i (omega (arith, lt)) is),
    )

    abbrev Gained : List ℕ → List ℕ → ℕ → ℕ → Type 0
    Gained out0 out n m = Has out m ↔ (Has out0 m ⊎ IsAddedFirst n m)

    -- a pair at the node, of a leaf that has a maker in the row
    pub added_step : (mask out0 out out' : List ℕ) → pair.node ≡ u → ((m : ℕ) → Has mask m ↔ IsOf pairs m pair.leaf) → ((i : ℕ) × Has row i × Has mask i)
        → ((m : ℕ) → Has out' m ↔ (Has out m ⊎ (m ≡ k))) → ((m : ℕ) → Gained out0 out k m) → (m : ℕ) → Gained out0 out' (k + 1) m
    added_step mask out0 out out' here masked meets inserted done m = (there, back)
      where
        added : IsAdded pairs leaves u row k
        added = (pair.leaf, made_here here, meets.0, meets.1, (masked meets.0).0 meets.2)

        there : Has out' m → Has out0 m ⊎ IsAddedFirst (k + 1) m
        there h = elim ((inserted m).0 h) [
          | inl old ↦ elim ((done m).0 old) [ inl first ↦ inl first | inr before ↦ inr (before.0, omega (arith, before.1)) ]
          | inr e ↦ inr (subst (λ x. IsAdded pairs leaves u row x) (sym e) added, omega (arith, e))
        ]

        back : Has out0 m ⊎ IsAddedFirst (k + 1) m → Has out' m
        back (inl first) = (inserted m).1 (inl ((done m).1 (inl first)))
        back (inr a) = elim (cases_eq m k) [ inl e ↦ (inserted m).1 (inr e) | inr other ↦ (inserted m).1 (inl ((done m).1 (inr (a.0, omega (arith, a.1, other))))) ]

    -- a pair elsewhere, or of a leaf that has none
    pub added_other : (out0 out : List ℕ) → (IsAdded pairs leaves u row k → ⊥) → ((m : ℕ) → Gained out0 out k m) → (m : ℕ) → Gained out0 out (k + 1) m
    added_other out0 out none done m = (
      λ h. elim ((done m).0 h) [ inl first ↦ inl first | inr before ↦ inr (before.0, omega (arith, before.1)) ],
      λ h. (done m).1 (elim h [
        | inl first ↦ inl first
        | inr a ↦ elim (cases_eq m k) [ inl e ↦ absurd (none (subst (λ x. IsAdded pairs leaves u row x) e a.0)) | inr other ↦ inr (a.0, omega (arith, a.1, other)) ]
      ]),
    )

    pub none_elsewhere : (pair.node ≡ u → ⊥) → IsAdded pairs leaves u row k → ⊥
    none_elsewhere other a = other (of_pair k a.0 a.1 refl).1

    pub none_meets : (mask : List ℕ) → ((m : ℕ) → Has mask m ↔ IsOf pairs m pair.leaf) → ((i : ℕ) → Has row i → ¬ (Has mask i)) → IsAdded pairs leaves u row k → ⊥
    none_meets mask masked apart a =
        let leaf = (of_pair k a.0 a.1 refl).0 in
        apart a.2 a.3 ((masked a.2).1 (subst (λ l. IsOf pairs a.2 l) leaf a.4))

  -- both together are what the row gives
  pub passes : (out : List ℕ) → ((m : ℕ) → Has row m → m < length pairs) → ((m : ℕ) → Has out m ↔ (IsLeft pairs leaves u row m ⊎ IsAdded pairs leaves u row m)) → Passed pairs leaves u row out
  passes out within h m' = (there, back)
    where
      found : (pairs : List Maker) (m : ℕ) → m < length pairs → (q : Maker) × (slice_get pairs m ≡ Some q)
      found [] m lt = absurd (omega (arith, lt))
      found (q ∷ qs) zero lt = (q, refl)
      found (q ∷ qs) (suc m) lt = found qs m (omega (arith, lt))

      there : Has out m' → (m : ℕ) × Has row m × Becomes pairs leaves u m m'
      there i = elim ((h m').0 i) [
        | inl left ↦
            let q = found pairs m' (within m' left.0) in
            (m', left.0, (q.0.leaf, (q.0, q.1, refl), inr (refl, λ p made. left.1 p q.0.leaf made (q.0, q.1, refl))))
        | inr added ↦ (added.2, added.3, (added.0, added.4, inl added.1))
      ]

      back : (m : ℕ) × Has row m × Becomes pairs leaves u m m' → Has out m'
      back w = (h m').1 (cases w.2.2)
        where
          cases : IsMadeAt pairs leaves u m' w.2.0 ⊎ ((m' ≡ w.0) × ((p : ℕ) → IsMadeAt pairs leaves u p w.2.0 → ⊥)) → IsLeft pairs leaves u row m' ⊎ IsAdded pairs leaves u row m'
          cases (inl made) = inr (w.2.0, made, w.0, w.1, w.2.1)
          cases (inr kept) = inl (
            subst (λ x. Has row x) (sym kept.0) w.1,
            λ p leaf made is.
                let same = leaf_of pairs w.0 leaf w.2.0 (subst (λ x. IsOf pairs x leaf) kept.0 is) w.2.1 in
                kept.1 p (subst (λ l. IsMadeAt pairs leaves u p l) same made),
          )

-- what comes of a maker is a maker
pub becomes_within : (pairs : List Maker) (leaves u m m' : ℕ) → Becomes pairs leaves u m m' → m' < length pairs
becomes_within pairs leaves u m m' b = cases b.2
  where
    cases : IsMadeAt pairs leaves u m' b.0 ⊎ ((m' ≡ m) × ((p : ℕ) → IsMadeAt pairs leaves u p b.0 → ⊥)) → m' < length pairs
    cases (inl made) = slice_get_within pairs m' made.1 made.2
    cases (inr kept) = let lt = slice_get_within pairs m b.1.0 b.1.1 in omega (arith, lt, kept.0)

-- ---- from node to node

module _ (pairs : List Maker) (leaves : ℕ) (nodes : List Node) where
  pub rounds_none : (rows : List (List ℕ)) → RoundsTo pairs leaves nodes (length nodes) rows rows false
  rounds_none rows = record {
    grows = λ u m h. h;
    given = λ u m v m' le h edge b. let lt = slice_get_within nodes u edge.0 edge.1 in absurd (omega (arith, lt, le));
    only = λ v m' h. inl h;
    none = λ e. refl;
    some = λ e. cc;
    closed = λ h. refl;
  }

  module _ (u : ℕ) (rows rows1 rows2 : List (List ℕ)) (w w' : List Bool) (a b : Bool) (n : Node) (out : List ℕ) (at : slice_get nodes u ≡ Some n)
      (r : RoundsTo pairs leaves nodes (u + 1) rows rows1 a) (p : Passed pairs leaves u (slice_index_or rows1 u []) out) (s : Spreads out n.next rows1 rows2 w w') (g : Gains b rows1 rows2 w w') where
    some_node : (x y : Node) → Some x ≡ Some y → x ≡ y
    some_node x y e = cc

    gives : (m m' v : ℕ) → HasAt rows1 u m → IsEdge nodes u v → Becomes pairs leaves u m m' → HasAt rows2 v m'
    gives m m' v h edge b' =
        let node = some_node edge.0 n (sym edge.1 ∙ at) in
        s.given v m' (subst (λ (y : Node). Contains y.next v) node edge.2) ((p m').1 (m, h, b'))

    given : (x m v m' : ℕ) → u ≤ x → HasAt rows x m → IsEdge nodes x v → Becomes pairs leaves x m m' → HasAt rows2 v m'
    given x m v m' le h edge b' = elim (cases_eq x u) [
      | inl e ↦ gives m m' v (r.grows u m (subst (λ y. HasAt rows y m) e h)) (subst (λ y. IsEdge nodes y v) e edge) (subst (λ y. Becomes pairs leaves y m m') e b')
      | inr other ↦ s.grows v m' (r.given x m v m' (omega (arith, le, other)) h edge b')
    ]

    abbrev From : List (List ℕ) → ℕ → ℕ → Type 0
    From rs v m' = (x : ℕ) × (m : ℕ) × HasAt rs x m × IsEdge nodes x v × Becomes pairs leaves x m m'

    made : (v m' : ℕ) → Contains n.next v → Has out m' → From rows1 v m'
    made v m' c h = let o = (p m').0 h in (u, o.0, o.1, (n, at, c), o.2)

    later : (v m' : ℕ) → From rows1 v m' → From rows2 v m'
    later v m' f = (f.0, f.1, s.grows f.0 f.1 f.2, f.3, f.4)

    only : (v m' : ℕ) → HasAt rows2 v m' → HasAt rows v m' ⊎ From rows2 v m'
    only v m' h = elim (s.only v m' h) [
      | inl before ↦ elim (r.only v m' before) [ inl first ↦ inl first | inr f ↦ inr (later v m' f) ]
      | inr new ↦ inr (later v m' (made v m' new.0 new.1))
    ]

    none : (a || b) ≡ false → rows2 ≡ rows
    none e = go a b e (λ x. r.none x) (λ x. (g.none x).1)
      where
        go : (a b : Bool) → (a || b) ≡ false → (a ≡ false → rows1 ≡ rows) → (b ≡ false → rows2 ≡ rows1) → rows2 ≡ rows
        go false false e f h = h refl ∙ f refl
        go false true e f h = cc
        go true b e f h = cc

    abbrev New : List (List ℕ) → List (List ℕ) → Type 0
    New old new = (v : ℕ) × (m' : ℕ) × HasAt new v m' × ¬ (HasAt old v m')

    some : (a || b) ≡ true → New rows rows2
    some e = go a b e (λ x. r.some x) (λ x. g.new x)
      where
        go : (a b : Bool) → (a || b) ≡ true → (a ≡ true → New rows rows1) → (b ≡ true → New rows1 rows2) → New rows rows2
        go true b e f h = let x = f refl in (x.0, x.1, s.grows x.0 x.1 x.2, x.3)
        go false true e f h = let x = h refl in (x.0, x.1, x.2, λ old. x.3 (r.grows x.0 x.1 old))
        go false false e f h = cc

    abbrev Closed : List (List ℕ) → Type 0
    Closed rs = (x m v m' : ℕ) → HasAt rs x m → IsEdge nodes x v → Becomes pairs leaves x m m' → HasAt rs v m'

    closed : Closed rows → (a || b) ≡ false
    closed h = go a b (r.closed h) (λ e. nothing (subst (λ rs. Closed rs) (sym (r.none (r.closed h))) h) (g.new e))
      where
        nothing : Closed rows1 → New rows1 rows2 → ⊥
        nothing c x = elim (s.only x.0 x.1 x.2) [
          | inl before ↦ x.3 before
          | inr new ↦ let f = made x.0 x.1 new.0 new.1 in x.3 (c f.0 f.1 x.0 x.1 f.2 f.3 f.4)
        ]

        go : (a b : Bool) → a ≡ false → (b ≡ true → ⊥) → (a || b) ≡ false
        go false false e f = refl
        go false true e f = absurd (f refl)
        go true b e f = cc

    -- one node more
    pub rounds_step : RoundsTo pairs leaves nodes u rows rows2 (a || b)
    rounds_step = record { grows = λ x m h. s.grows x m (r.grows x m h); given = given; only = only; none = none; some = some; closed = closed }

-- ---- all nodes, as contracts see it

module _ (graph : Graph) (makers : Makers) (rows rows' : List (List ℕ)) (grown : Bool) (within : (u m : ℕ) → HasAt rows u m → m < length makers.pairs) (within' : (u m : ℕ) → HasAt rows' u m → m < length makers.pairs)
    (r : RoundsTo makers.pairs (length makers.leaves) graph.nodes 0 rows rows' grown) where
  abbrev count : ℕ
  count = length makers.pairs

  old : (u m : ℕ) → IsFactAt (facts_in count rows) u m → HasAt rows u m
  old u m f = ((fact_is count rows u m).0 f).1

  new : (u m : ℕ) → HasAt rows' u m → IsFactAt (facts_in count rows') u m
  new u m h = (fact_is count rows' u m).1 (within' u m h, h)

  first : (u m : ℕ) → HasAt rows u m → IsFactAt (facts_in count rows) u m
  first u m h = (fact_is count rows u m).1 (within u m h, h)

  closes : grown ≡ false → AreClosed graph makers (facts_in count rows)
  closes e = λ u m v m' f g.
      let h : HasAt rows' v m' = r.given u m v m' (omega arith) (old u m f) g.0 g.1 in
      first v m' (subst (λ rs. HasAt rs v m') (r.none e) h)

  pub is_round : IsRound graph makers (facts_in count rows) (facts_in count rows') grown
  is_round = record {
    keeps = λ u m f. new u m (r.grows u m (old u m f));
    given = λ u m v m' f g. new v m' (r.given u m v m' (omega arith) (old u m f) g.0 g.1);
    only = λ v m' f. elim (r.only v m' ((fact_is count rows' v m').0 f).1) [ inl h ↦ inl (first v m' h) | inr h ↦ inr (h.0, h.1, new h.0 h.1 h.2, (h.3, h.4)) ];
    closed = (closes, λ c. r.closed (λ u m v m' h edge b. old v m' (c u m v m' (first u m h) (edge, b))));
    none = λ e. ap (λ rs. facts_in count rs) (r.none e);
    some = λ e. let x = r.some e in (x.0, x.1, new x.0 x.1 x.2, λ f. x.3 (old x.0 x.1 f));
  }
