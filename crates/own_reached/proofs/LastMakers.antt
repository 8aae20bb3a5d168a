-- What reaches a node is what is the last of its leaf on a walk to it.
use Rattle.std.proofs.Common.{◌≡◌, ℕ, zero, suc, ◌<◌, ◌≤◌, ◌⊎◌, inl, inr, List, [], ◌∷◌, ◌++◌, length, slice_get, Option, Some, None, refl, sym, ap, ◌∙◌, subst, arith, append_assoc}
use Rattle.std.proofs.lemmas.Bool.{cases_eq, cases_lt}
use Rattle.std.proofs.lemmas.Option.{slice_get_within}
use Rattle.std.proofs.lemmas.List.Elements.{Contains-append_cases}
use Rattle.std.specs.Prelude.{Contains, slice_index_or}
use Rattle.own_tree.specs.declared.graph.Maker.{Maker}
use Rattle.own_tree.specs.declared.graph.Node.{Node}
use Rattle.own_walks.specs.Pairs.{BelongTo}
use Rattle.own_walks.specs.Reaching.{IsOf, IsMadeAt, IsEdge, ReachesIn, Reaches}
use Rattle.own_reached.specs.LastMakers.{GoesOver, IsLast, of_start, of_node, NoneMakes}

-- ---- lists

nobody : (x : ℕ) → Contains [] x → ⊥
nobody x c = let lt : c.0 < 0 = c.1 in omega (arith, lt)

at_first : (u x : ℕ) (xs : List ℕ) → u ≡ x → Contains (x ∷ xs) u
at_first u x xs e = (0, omega arith, sym e)

at_later : (x y : ℕ) (xs : List ℕ) → Contains xs y → Contains (x ∷ xs) y
at_later x y xs c = (suc c.0, omega (arith, c.1), c.2)

of_one : (u x k : ℕ) → k < length (u ∷ []) → slice_index_or (u ∷ []) k x ≡ x → x ≡ u
of_one u x zero lt e = sym e
of_one u x (suc k) lt e = absurd (omega (arith, lt))

is_one : (u x : ℕ) → Contains (u ∷ []) x → x ≡ u
is_one u x c = of_one u x c.0 c.1 c.2

some_maker : (x y : Maker) → Some x ≡ Some y → x ≡ y
some_maker x y e = cc

module _ (pairs : List Maker) (leaves : ℕ) where
  leaf_of : (p a b : ℕ) → IsOf pairs p a → IsOf pairs p b → a ≡ b
  leaf_of p a b h i = sym h.2 ∙ ap (λ (q : Maker). q.leaf) (some_maker h.0 i.0 (sym h.1 ∙ i.1)) ∙ i.2

  -- ---- whether a leaf is made at a node

  abbrev MadeFirst : ℕ → ℕ → ℕ → Type 0
  MadeFirst u leaf k = ((p : ℕ) × IsMadeAt pairs leaves u p leaf) ⊎ ((p : ℕ) → p < k → IsMadeAt pairs leaves u p leaf → ⊥)

  -- where the pair behind the first k is not one
  not_next : (u leaf k : ℕ) → ((p : ℕ) → p < k → IsMadeAt pairs leaves u p leaf → ⊥) → (IsMadeAt pairs leaves u k leaf → ⊥) → MadeFirst u leaf (suc k)
  not_next u leaf k before no_more = inr (λ p lt i. elim (cases_eq p k) [
    | inl e ↦ no_more (subst (λ x. IsMadeAt pairs leaves u x leaf) e i)
    | inr other ↦ before p (omega (arith, lt, other)) i
  ])

  is_pair : (u leaf k : ℕ) (q : Maker) → slice_get pairs k ≡ Some q → (i : IsMadeAt pairs leaves u k leaf) → (q.leaf ≡ leaf) × (q.node ≡ u)
  is_pair u leaf k q at i = let same : q ≡ i.1 = some_maker q i.1 (sym at ∙ i.2) in (ap (λ (x : Maker). x.leaf) same ∙ i.3, ap (λ (x : Maker). x.node) same ∙ i.4)

  next_made : (u leaf k : ℕ) (o : Option Maker) → slice_get pairs k ≡ o → ((p : ℕ) → p < k → IsMadeAt pairs leaves u p leaf → ⊥) → MadeFirst u leaf (suc k)
  next_made u leaf k None at before = not_next u leaf k before (λ i. let both : None ≡ Some i.1 = sym at ∙ i.2 in cc)
  next_made u leaf k (Some q) at before = elim (cases_lt k leaves) [
    | inl less ↦ not_next u leaf k before (λ i. omega (arith, less, i.0))
    | inr le ↦ elim (cases_eq q.leaf leaf) [
      | inl is_leaf ↦ elim (cases_eq q.node u) [
        | inl is_node ↦ inl (k, (le, q, at, is_leaf, is_node))
        | inr other ↦ not_next u leaf k before (λ i. other (is_pair u leaf k q at i).1)
      ]
      | inr other ↦ not_next u leaf k before (λ i. other (is_pair u leaf k q at i).0)
    ]
  ]

  made_first : (u leaf k : ℕ) → MadeFirst u leaf k
  made_first u leaf zero = inr (λ p lt i. omega (arith, lt))
  made_first u leaf (suc k) = elim (made_first u leaf k) [
    | inl made ↦ inl made
    | inr before ↦ next_made u leaf k (slice_get pairs k) refl before
  ]

  made_or_not : (u leaf : ℕ) → ((p : ℕ) × IsMadeAt pairs leaves u p leaf) ⊎ ((p : ℕ) → IsMadeAt pairs leaves u p leaf → ⊥)
  made_or_not u leaf = elim (made_first u leaf (length pairs)) [
    | inl made ↦ inl made
    | inr not_made ↦ inr (λ p i. not_made p (slice_get_within pairs p i.1 i.2) i)
  ]

  -- ---- what is the last of its leaf, and one node more

  none_more : (xs : List ℕ) (u leaf : ℕ) → NoneMakes pairs leaves xs leaf → ((p : ℕ) → IsMadeAt pairs leaves u p leaf → ⊥) → NoneMakes pairs leaves (xs ++ u ∷ []) leaf
  none_more xs u leaf before here x p c i = elim (Contains-append_cases xs (u ∷ []) x c) [
    | inl in_xs ↦ before x p in_xs i
    | inr is_u ↦ here p (subst (λ y. IsMadeAt pairs leaves y p leaf) (is_one u x is_u) i)
  ]

  last_more : (xs : List ℕ) (u p leaf : ℕ) → IsOf pairs p leaf → ((q : ℕ) → IsMadeAt pairs leaves u q leaf → ⊥) → IsLast pairs leaves xs p → IsLast pairs leaves (xs ++ u ∷ []) p
  last_more xs u p leaf is here (of_start lt before) =
      of_start lt (λ l is_l. none_more xs u l (before l is_l) (λ q i. here q (subst (λ y. IsMadeAt pairs leaves u q y) (leaf_of p l leaf is_l is) i)))
  last_more xs u p leaf is here (of_node before x after l e made none_after) =
      of_node before x (after ++ u ∷ []) l (ap (λ ys. ys ++ u ∷ []) e ∙ append_assoc before (x ∷ after) (u ∷ [])) made
      (none_more after u l none_after (λ q i. here q (subst (λ y. IsMadeAt pairs leaves u q y) (leaf_of p l leaf (made.1, made.2, made.3) is) i)))

  module _ (nodes : List Node) where
    -- ---- walks

    one_more : (xs : List ℕ) (u v x : ℕ) → GoesOver nodes u xs v → IsEdge nodes v x → GoesOver nodes u (xs ++ v ∷ []) x
    one_more [] u v x w e = (w, x, subst (λ y. IsEdge nodes y x) (sym w) e, refl)
    one_more (y ∷ ys) u v x w e = (w.0, w.1, w.2, one_more ys w.1 v x w.3 e)

    abbrev Split : ℕ → List ℕ → ℕ → List ℕ → ℕ → Type 0
    Split u before x after v = GoesOver nodes u before x × (m : ℕ) × IsEdge nodes x m × GoesOver nodes m after v

    split : (before : List ℕ) (u x : ℕ) (after : List ℕ) (v : ℕ) → GoesOver nodes u (before ++ x ∷ after) v → Split u before x after v
    split [] u x after v w = (w.0, w.1, subst (λ y. IsEdge nodes y w.1) w.0 w.2, w.3)
    split (y ∷ ys) u x after v w = let r = split ys w.1 x after v w.3 in ((w.0, w.1, w.2, r.0), r.1, r.2, r.3)

    module _ (entry : ℕ) where
      abbrev Reached : ℕ → ℕ → Type 0
      Reached u m = Reaches pairs leaves nodes entry u m

      -- along nodes that do not make its leaf
      carried : (xs : List ℕ) (u v m leaf : ℕ) → GoesOver nodes u xs v → Reached u m → IsOf pairs m leaf → NoneMakes pairs leaves xs leaf → Reached v m
      carried [] u v m leaf w r is none_makes = subst (λ x. Reached x m) w r
      carried (x ∷ xs) u v m leaf w r is none_makes =
          carried xs w.1 v m leaf w.3 (suc r.0, (u, m, r.1, w.2, (leaf, is, inr (refl, λ p i. none_makes u p (at_first u x xs w.0) i)))) is
          (λ y p c i. none_makes y p (at_later x y xs c) i)

      abbrev Some_reaches : ℕ → ℕ → Type 0
      Some_reaches u leaf = (m : ℕ) × Reached u m × IsOf pairs m leaf

      along : (xs : List ℕ) (u v leaf : ℕ) → GoesOver nodes u xs v → Some_reaches u leaf → Some_reaches v leaf
      along [] u v leaf w h = subst (λ x. Some_reaches x leaf) w h
      along (x ∷ xs) u v leaf w h = along xs w.1 v leaf w.3 (elim (made_or_not u leaf) [
        | inl made ↦ (made.0, (suc h.1.0, (u, h.0, h.1.1, w.2, (leaf, h.2, inl made.1))), (made.1.1, made.1.2, made.1.3))
        | inr not_made ↦ (h.0, (suc h.1.0, (u, h.0, h.1.1, w.2, (leaf, h.2, inr (refl, not_made)))), h.2)
      ])

      -- ---- both ways

      pub last_of_reaching : (j v p : ℕ) → ReachesIn pairs leaves nodes entry j v p → (xs : List ℕ) × GoesOver nodes entry xs v × IsLast pairs leaves xs p
      last_of_reaching zero v p r = ([], sym r.0, of_start r.1 (λ leaf is x q c i. nobody x c))
      last_of_reaching (suc j) v p r =
          let w = last_of_reaching j r.0 r.1 r.2 in (
            w.0 ++ r.0 ∷ [],
            one_more w.0 entry r.0 v w.1 r.3,
            elim r.4.2 [
              | inl made ↦ of_node w.0 r.0 [] r.4.0 refl made (λ x q c i. nobody x c)
              | inr kept ↦ subst (λ y. IsLast pairs leaves (w.0 ++ r.0 ∷ []) y) (sym kept.0) (last_more w.0 r.0 r.1 r.4.0 r.4.1 kept.1 w.2)
            ],
          )

      pub reaching_of_last : BelongTo (length nodes) leaves pairs → (v p : ℕ) (xs : List ℕ) → GoesOver nodes entry xs v → IsLast pairs leaves xs p → Reached v p
      reaching_of_last belong v p xs w (of_start lt none_makes) =
          let q = belong.starts p lt in
          let is : IsOf pairs p p = (q.0, q.1, q.2) in
          carried xs entry v p p w (0, (refl, lt)) is (none_makes p is)
      reaching_of_last belong v p xs w (of_node before x after leaf e made none_after) =
          let s = split before entry x after v (subst (λ l. GoesOver nodes entry l v) e w) in
          let lt : leaf < leaves = subst (λ y. y < leaves) made.3 (belong.leaf p made.1 made.2) in
          let q = belong.starts leaf lt in
          let h = along before entry x leaf s.0 (leaf, (0, (refl, lt)), (q.0, q.1, q.2)) in
          carried after s.1 v p leaf s.3 (suc h.1.0, (x, h.0, h.1.1, s.2, (leaf, h.2, inl made))) (made.1, made.2, made.3) none_after
