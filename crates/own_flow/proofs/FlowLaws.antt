-- The worklist ends with exactly the bits that walks give.
use Rattle.std.proofs.Common.{◌≡◌, ◌≢◌, ℕ, zero, suc, ◌<◌, ◌⊎◌, inl, inr, Bool, true, false, ◌||◌, List, [], ◌∷◌, ◌++◌, length, slice_get, Some, refl, sym, ap, ◌∙◌, subst, arith, get_or}
use Rattle.std.proofs.Math.ListN.{set}
use Rattle.std.proofs.lemmas.Bool.{cases_eq}
use Rattle.std.proofs.lemmas.List.{get_or-set_same, get_or-set_other, length-set}
use Rattle.std.proofs.lemmas.Option.{slice_get_within, get_or_from_slice_get}
use Rattle.std.proofs.lemmas.List.Elements.{Contains-append_left, Contains-append_right, Contains-append_cases}
use Rattle.std.specs.Prelude.{◌↔◌, Contains, slice_index_or}
use Rattle.own_shapes.proofs.Lists.{set_same, set_other}
use Rattle.own_tree.specs.declared.graph.Node.{Node}
use Rattle.own_tree.specs.declared.graph.Maker.{Maker}
use Rattle.own_flow.specs.Words.{Has, room}
use Rattle.own_flow.specs.declared.made.Made.{Made}
use Rattle.own_walks.specs.Reaching.{IsOf, IsMadeAt, Becomes, IsEdge, ReachesIn, Reaches}
use Rattle.own_flow.specs.Flow.{HasAt, IsWaiting, Spreads, Gains, Sized, Flows, total, Passed, mask_of, Meet, IsKept, IsNew, Behind, AreTables}

-- one after another
pub spread_on : (out xs ys : List ℕ) (rows rows1 rows2 : List (List ℕ)) (work work1 work2 : List Bool)
    → Spreads out xs rows rows1 work work1 → Spreads out ys rows1 rows2 work1 work2 → Spreads out (xs ++ ys) rows rows2 work work2
spread_on out xs ys rows rows1 rows2 work work1 work2 a b = record {
  grows = λ x m h. b.grows x m (a.grows x m h);
  given = λ x m i h. elim (Contains-append_cases xs ys x i) [ inl here ↦ b.grows x m (a.given x m here h) | inr here ↦ b.given x m here h ];
  only = λ x m h. elim (b.only x m h) [
    | inl before ↦
        elim (a.only x m before) [ inl first ↦ inl first | inr made ↦ inr (Contains-append_left xs ys x made.0, made.1) ]
    | inr made ↦ inr (Contains-append_right xs ys x made.0, made.1)
  ];
  kept = λ x. elim (b.kept x) [
    | inl on ↦ inl on
    | inr same ↦ elim (a.kept x) [ inl on ↦ inl (b.stays x on) | inr first ↦ inr (λ m h. first m (same m h)) ]
  ];
  stays = λ x h. b.stays x (a.stays x h);
}

pub spread_none : (out : List ℕ) (rows : List (List ℕ)) (work : List Bool) → Spreads out [] rows rows work work
spread_none out rows work = record {
  grows = λ x m h. h;
  given = λ x m i h. absurd (none_in x i);
  only = λ x m h. inl h;
  kept = λ x. inr (λ m h. h);
  stays = λ x h. h;
}
  where
    none_in : (x : ℕ) → Contains [] x → ⊥
    none_in x h = let lt : h.0 < 0 = h.1 in omega (arith, lt)

one_at : (u x k : ℕ) → k < length (u ∷ []) → slice_index_or (u ∷ []) k x ≡ x → x ≡ u
one_at u x zero lt e = sym e
one_at u x (suc k) lt e = absurd (omega (arith, lt))

one_of : (u x : ℕ) → Contains (u ∷ []) x → x ≡ u
one_of u x h = one_at u x h.0 h.1 h.2

has_one : (u x : ℕ) → x ≡ u → Contains (u ∷ []) x
has_one u x e = (0, omega arith, sym e)

-- a node that has all already
pub spread_within : (out : List ℕ) (v : ℕ) (rows : List (List ℕ)) (work : List Bool) → ((m : ℕ) → Has out m → HasAt rows v m) → Spreads out (v ∷ []) rows rows work work
spread_within out v rows work h = record {
  grows = λ x m i. i;
  given = λ x m i has. subst (λ y. HasAt rows y m) (sym (one_of v x i)) (h m has);
  only = λ x m i. inl i;
  kept = λ x. inr (λ m i. i);
  stays = λ x i. i;
}

-- a node that gains
pub spread_joined : (out row : List ℕ) (v : ℕ) (rows : List (List ℕ)) (work : List Bool) → v < length rows → v < length work
    → ((m : ℕ) → Has row m ↔ (HasAt rows v m ⊎ Has out m)) → Spreads out (v ∷ []) rows (set rows v row) work (set work v true)
spread_joined out row v rows work h h' j = record {
  grows = λ x m i. elim (cases_eq x v) [ inl e ↦ at_v x m e ((j m).1 (inl (subst (λ y. HasAt rows y m) e i))) | inr no_v ↦ subst (λ l. Has l m) (sym (other x no_v)) i ];
  given = λ x m i has. at_v x m (one_of v x i) ((j m).1 (inr has));
  only = λ x m i. elim (cases_eq x v) [
    | inl e ↦
        elim ((j m).0 (subst (λ l. Has l m) (ap (λ y. slice_index_or (set rows v row) y []) e ∙ same) i)) [
          | inl before ↦ inl (subst (λ y. HasAt rows y m) (sym e) before)
          | inr has ↦ inr (has_one v x e, has)
        ]
    | inr no_v ↦ inl (subst (λ l. Has l m) (other x no_v) i)
  ];
  kept = λ x. elim (cases_eq x v) [
    | inl e ↦ inl (ap (λ y. slice_get (set work v true) y) e ∙ set_same work v true h')
    | inr no_v ↦ inr (λ m i. subst (λ l. Has l m) (other x no_v) i)
  ];
  stays = λ x i. elim (cases_eq x v) [
    | inl e ↦ ap (λ y. slice_get (set work v true) y) e ∙ set_same work v true h'
    | inr no_v ↦ set_other work v x true no_v ∙ i
  ];
}
  where
    same : slice_index_or (set rows v row) v [] ≡ row
    same = get_or-set_same rows v row [] h

    other : (x : ℕ) → x ≢ v → slice_index_or (set rows v row) x [] ≡ slice_index_or rows x []
    other x no_v = get_or-set_other rows v x row [] no_v

    at_v : (x m : ℕ) → x ≡ v → Has row m → HasAt (set rows v row) x m
    at_v x m e i = subst (λ y. HasAt (set rows v row) y m) (sym e) (subst (λ l. Has l m) (sym same) i)

-- ---- room

pub total_set : (rows : List (List ℕ)) (v : ℕ) (row : List ℕ) → v < length rows → room row < room (slice_index_or rows v []) → total (set rows v row) < total rows
unfolding total
total_set [] v row h lt = absurd (omega (arith, h))
total_set (r ∷ rs) zero row h lt = omega (arith, lt)
total_set (r ∷ rs) (suc v) row h lt = let t = total_set rs v row (omega (arith, h)) lt in omega (arith, t)

pub sized_set : (count words : ℕ) (rows : List (List ℕ)) (waiting : List Bool) (v : ℕ) (row : List ℕ) (b : Bool) → Sized count words rows waiting → v < count → length row ≡ words → Sized count words (set rows v row) (set waiting v b)
sized_set count words rows waiting v row b s h is = record {
  count_is = length-set rows v row ∙ s.count_is;
  marks_are = length-set waiting v b ∙ s.marks_are;
  each = λ u lt. elim (cases_eq u v) [
    | inl e ↦ ap length (ap (λ y. slice_index_or (set rows v row) y []) e ∙ get_or-set_same rows v row [] (omega (arith, h, s.count_is))) ∙ is
    | inr other ↦ ap length (get_or-set_other rows v u row [] other) ∙ s.each u lt
  ];
}

-- ---- visits

module _ (pairs : List Maker) (leaves : ℕ) (nodes : List Node) (entry : ℕ) where
  -- a node no longer waits, and what its row gives is spread
  pub visited : (rows rows' : List (List ℕ)) (waiting waiting' : List Bool) (u : ℕ) (n : Node) (out : List ℕ) → slice_get nodes u ≡ Some n → Flows pairs leaves nodes entry rows waiting
      → ((m' : ℕ) → Has out m' ↔ ((m : ℕ) × HasAt rows u m × Becomes pairs leaves u m m')) → Spreads out n.next rows rows' (set waiting u false) waiting' → Flows pairs leaves nodes entry rows' waiting'
  visited rows rows' waiting waiting' u n out is f p s = record { sound = sound; begun = λ m h. s.grows entry m (f.begun m h); closed = closed }
    where
      sound : (x m : ℕ) → HasAt rows' x m → Reaches pairs leaves nodes entry x m
      sound x m h = elim (s.only x m h) [
        | inl before ↦ f.sound x m before
        | inr made ↦
            let from = (p m).0 made.1 in
            let way = f.sound u from.0 from.1 in
            (suc way.0, (u, from.0, way.1, (n, is, made.0), from.2))
      ]

      some_of : (x y : Node) → Some x ≡ Some y → x ≡ y
      some_of x y e = cc

      here : (x : ℕ) → x ≡ u → ((m : ℕ) → HasAt rows' x m → HasAt rows x m) → (m m' v : ℕ) → HasAt rows' x m → Becomes pairs leaves x m m' → IsEdge nodes x v → HasAt rows' v m'
      here x e same m m' v h b edge =
          let h' : HasAt rows u m = subst (λ y. HasAt rows y m) e (same m h) in
          let b' : Becomes pairs leaves u m m' = subst (λ y. Becomes pairs leaves y m m') e b in
          let at : slice_get nodes u ≡ Some edge.0 = subst (λ y. slice_get nodes y ≡ Some edge.0) e edge.1 in
          let node = some_of edge.0 n (sym at ∙ is) in
          s.given v m' (subst (λ (y : Node). Contains y.next v) node edge.2) ((p m').1 (m, h', b'))

      closed : (x : ℕ) → IsWaiting waiting' x ⊎ ((m m' v : ℕ) → HasAt rows' x m → Becomes pairs leaves x m m' → IsEdge nodes x v → HasAt rows' v m')
      closed x = elim (s.kept x) [
        | inl on ↦ inl on
        | inr same ↦ elim (cases_eq x u) [
          | inl e ↦ inr (here x e same)
          | inr other ↦ elim (f.closed x) [
            | inr done ↦ inr (λ m m' v h b edge. s.grows v m' (done m m' v (same m h) b edge))
            | inl on ↦ inl (s.stays x (set_other waiting u x false other ∙ on))
          ]
        ]
      ]

  reached : (rows : List (List ℕ)) (waiting : List Bool) → Flows pairs leaves nodes entry rows waiting → ((u : ℕ) → ¬ (IsWaiting waiting u)) → (j u m : ℕ) → ReachesIn pairs leaves nodes entry j u m → HasAt rows u m
  reached rows waiting f no_wait zero u m r = subst (λ x. HasAt rows x m) (sym r.0) (f.begun m r.1)
  reached rows waiting f no_wait (suc j) v m' r = elim (f.closed r.0) [
    | inl on ↦ absurd (no_wait r.0 on)
    | inr done ↦ done r.1 m' v (reached rows waiting f no_wait j r.0 r.1 r.2) r.4 r.3
  ]

  -- where no node waits, the bits are exactly what walks give
  pub settled : (rows : List (List ℕ)) (waiting : List Bool) → Flows pairs leaves nodes entry rows waiting → ((u : ℕ) → ¬ (IsWaiting waiting u)) → (u m : ℕ) → HasAt rows u m ↔ Reaches pairs leaves nodes entry u m
  settled rows waiting f no_wait u m = (f.sound u m, λ r. reached rows waiting f no_wait r.0 u m r.1)

-- ---- whether something was gained

abbrev Grow : List (List ℕ) → List (List ℕ) → Type 0
Grow rows rows' = (x m : ℕ) → HasAt rows x m → HasAt rows' x m

pub gains_on : (a b : Bool) (rows rows1 rows2 : List (List ℕ)) (w w1 w2 : List Bool) → Grow rows rows1 → Grow rows1 rows2
    → Gains a rows rows1 w w1 → Gains b rows1 rows2 w1 w2 → Gains (a || b) rows rows2 w w2
gains_on true true rows rows1 rows2 w w1 w2 p q g h =
    let n = g.new refl in
    record { none = λ e. cc; some = λ e. omega (arith, g.some refl, h.some refl); new = λ e. (n.0, n.1, q n.0 n.1 n.2, n.3) }
gains_on true false rows rows1 rows2 w w1 w2 p q g h =
    let n = g.new refl in
    record { none = λ e. cc; some = λ e. subst (λ r. total r < total rows) (sym (h.none refl).1) (g.some refl); new = λ e. (n.0, n.1, q n.0 n.1 n.2, n.3) }
gains_on false true rows rows1 rows2 w w1 w2 p q g h =
    let n = h.new refl in
    record { none = λ e. cc; some = λ e. subst (λ r. total rows2 < total r) (g.none refl).1 (h.some refl); new = λ e. (n.0, n.1, n.2, λ old. n.3 (p n.0 n.1 old)) }
gains_on false false rows rows1 rows2 w w1 w2 p q g h =
    record { none = λ e. ((h.none refl).0 ∙ (g.none refl).0, (h.none refl).1 ∙ (g.none refl).1); some = λ e. cc; new = λ e. cc }

pub gains_none : (rows : List (List ℕ)) (w : List Bool) → Gains false rows rows w w
gains_none rows w = record { none = λ e. (refl, refl); some = λ e. cc; new = λ e. cc }

-- a default does not matter within the list
pub any_default : {A : Type 0} (xs : List A) (i : ℕ) (d e : A) → i < length xs → get_or xs i d ≡ get_or xs i e
any_default [] i d e h = absurd (omega (arith, h))
any_default (x ∷ xs) zero d e h = refl
any_default (x ∷ xs) (suc i) d e h = any_default xs i d e (omega (arith, h))

-- what gains a bit is less far from full
pub less_room : (out old new : List ℕ) → ((m : ℕ) → Has new m ↔ (Has old m ⊎ Has out m)) → ((new ≡ old) ⊎ (room new < room old)) → ((i : ℕ) × Has out i × ¬ (Has old i)) → room new < room old
less_room out old new h (inl same) more = absurd (more.2 (subst (λ l. Has l more.0) same ((h more.0).1 (inr more.1))))
less_room out old new h (inr lt) more = lt

made_at : (u x : Made) (k : ℕ) → k < length (u ∷ []) → slice_index_or (u ∷ []) k x ≡ x → x ≡ u
made_at u x zero lt e = sym e
made_at u x (suc k) lt e = absurd (omega (arith, lt))

last_made : (xs : List Made) (x y : Made) → Contains (xs ++ x ∷ []) y → Contains xs y ⊎ (y ≡ x)
last_made xs x y h = elim (Contains-append_cases xs (x ∷ []) y h) [ inl a ↦ inl a | inr b ↦ inr (made_at x y b.0 b.1 b.2) ]

is_last : (xs : List Made) (x : Made) → Contains (xs ++ x ∷ []) x
is_last xs x = Contains-append_right xs (x ∷ []) x (0, omega arith, refl)

module _ (row : List ℕ) (masks : List (List ℕ)) where
  pub kept_none : (m : ℕ) → Has row m ↔ IsKept row [] masks m
  kept_none m = (λ h. (h, λ x i. absurd (nothing x i)), λ h. h.0)
    where
      nothing : (x : Made) → Contains [] x → ⊥
      nothing x i = let lt : i.0 < 0 = i.1 in omega (arith, lt)

  pub kept_more : (made : List Made) (x : Made) (out out' : List ℕ) → ((m : ℕ) → Has out m ↔ IsKept row made masks m) → ((m : ℕ) → Has out' m ↔ (Has out m × ¬ (Has (mask_of masks x.leaf) m)))
      → (m : ℕ) → Has out' m ↔ IsKept row (made ++ x ∷ []) masks m
  kept_more made x out out' h r m = (there, back)
    where
      there : Has out' m → IsKept row (made ++ x ∷ []) masks m
      there i =
          let a = (r m).0 i in
          let b = (h m).0 a.0 in
          (b.0, λ y c. elim (last_made made x y c) [ inl old ↦ b.1 y old | inr is ↦ subst (λ (z : Made). ¬ (Has (mask_of masks z.leaf) m)) (sym is) a.1 ])

      back : IsKept row (made ++ x ∷ []) masks m → Has out' m
      back k = (r m).1 ((h m).1 (k.0, λ y c. k.1 y (Contains-append_left made (x ∷ []) y c)), k.1 x (is_last made x))

  pub new_none : (made : List Made) (out : List ℕ) → ((m : ℕ) → Has out m ↔ IsKept row made masks m) → (m : ℕ) → Has out m ↔ (IsKept row made masks m ⊎ IsNew row [] masks m)
  new_none made out h m = (λ i. inl ((h m).0 i), λ i. elim i [ inl k ↦ (h m).1 k | inr n ↦ absurd (nothing n.0 n.1) ])
    where
      nothing : (x : Made) → Contains [] x → ⊥
      nothing x i = let lt : i.0 < 0 = i.1 in omega (arith, lt)

  pub new_more : (all made : List Made) (x : Made) (out out' : List ℕ) → ((m : ℕ) → Has out m ↔ (IsKept row all masks m ⊎ IsNew row made masks m))
      → ((m : ℕ) → Has out' m ↔ (Has out m ⊎ ((m ≡ x.maker) × Meet row (mask_of masks x.leaf)))) → (m : ℕ) → Has out' m ↔ (IsKept row all masks m ⊎ IsNew row (made ++ x ∷ []) masks m)
  new_more all made x out out' h p m = (there, back)
    where
      there : Has out' m → IsKept row all masks m ⊎ IsNew row (made ++ x ∷ []) masks m
      there i = elim ((p m).0 i) [
        | inl old ↦ elim ((h m).0 old) [ inl k ↦ inl k | inr n ↦ inr (n.0, Contains-append_left made (x ∷ []) n.0 n.1, n.2, n.3) ]
        | inr new ↦ inr (x, is_last made x, new.0, new.1)
      ]

      from_last : (n : IsNew row (made ++ x ∷ []) masks m) → Contains made n.0 ⊎ (n.0 ≡ x) → Has out' m
      from_last n (inl old) = (p m).1 (inl ((h m).1 (inr (n.0, old, n.2, n.3))))
      from_last n (inr is) = (p m).1 (inr (subst (λ (z : Made). (m ≡ z.maker) × Meet row (mask_of masks z.leaf)) is (n.2, n.3)))

      back : IsKept row all masks m ⊎ IsNew row (made ++ x ∷ []) masks m → Has out' m
      back (inl k) = (p m).1 (inl ((h m).1 (inl k)))
      back (inr n) = from_last n (last_made made x n.0 n.1)

-- ---- by the tables, that is what the makers of the node make of the row

module _ (pairs : List Maker) (leaves : ℕ) (at : ℕ → List Made) (masks : List (List ℕ)) (t : AreTables pairs leaves at masks) where
  same_leaf : (m a b : ℕ) → IsOf pairs m a → IsOf pairs m b → a ≡ b
  same_leaf m a b h i = sym h.2 ∙ ap (λ (q : Maker). q.leaf) (some_is h.0 i.0 (sym h.1 ∙ i.1)) ∙ i.2
    where
      some_is : (x y : Maker) → Some x ≡ Some y → x ≡ y
      some_is x y e = cc

  pub behind_passes : (u : ℕ) (row out : List ℕ) → ((m : ℕ) → Has row m → (leaf : ℕ) × IsOf pairs m leaf) → Behind row (at u) masks out → Passed pairs leaves u row out
  behind_passes u row out leafed b m' = (there, back)
    where
      none_made : (m leaf : ℕ) → IsOf pairs m leaf → ((x : Made) → Contains (at u) x → ¬ (Has (mask_of masks x.leaf) m)) → (p : ℕ) → IsMadeAt pairs leaves u p leaf → ⊥
      none_made m leaf is no_mask p i =
          let x = t.all u p leaf i in
          no_mask x.0 x.1 ((t.mask x.0.leaf m).1 (subst (λ l. IsOf pairs m l) (sym x.3) is))

      there : Has out m' → (m : ℕ) × Has row m × Becomes pairs leaves u m m'
      there h = elim ((b m').0 h) [
        | inl k ↦ let leaf = leafed m' k.0 in (m', k.0, (leaf.0, leaf.1, inr (refl, none_made m' leaf.0 leaf.1 k.1)))
        | inr n ↦
            let x = n.0 in
            let i = n.3 in
            (i.0, i.1, (x.leaf, (t.mask x.leaf i.0).0 i.2, inl (subst (λ p. IsMadeAt pairs leaves u p x.leaf) (sym n.2) (t.made u x n.1))))
      ]

      back : (m : ℕ) × Has row m × Becomes pairs leaves u m m' → Has out m'
      back w = (b m').1 (cases w.2.2)
        where
          cases : IsMadeAt pairs leaves u m' w.2.0 ⊎ ((m' ≡ w.0) × ((p : ℕ) → IsMadeAt pairs leaves u p w.2.0 → ⊥)) → IsKept row (at u) masks m' ⊎ IsNew row (at u) masks m'
          cases (inl i) =
              let x = t.all u m' w.2.0 i in
              inr (x.0, x.1, sym x.2, (w.0, w.1, (t.mask x.0.leaf w.0).1 (subst (λ l. IsOf pairs w.0 l) (sym x.3) w.2.1)))
          cases (inr k) =
              inl (
                subst (λ y. Has row y) (sym k.0) w.1,
                λ x c has.
                    let is : IsOf pairs w.0 x.leaf = (t.mask x.leaf w.0).0 (subst (λ y. Has (mask_of masks x.leaf) y) k.0 has) in
                    let leaf = same_leaf w.0 w.2.0 x.leaf w.2.1 is in
                    k.1 x.maker (subst (λ l. IsMadeAt pairs leaves u x.maker l) (sym leaf) (t.made u x c)),
              )

  -- what comes to a node is of some leaf
  pub reach_leaf : (nodes : List Node) (entry : ℕ) (j u m : ℕ) → ReachesIn pairs leaves nodes entry j u m → (leaf : ℕ) × IsOf pairs m leaf
  reach_leaf nodes entry zero u m r = t.starts m r.1
  reach_leaf nodes entry (suc j) v m' r = cases r.4.2
    where
      cases : IsMadeAt pairs leaves r.0 m' r.4.0 ⊎ ((m' ≡ r.1) × ((p : ℕ) → IsMadeAt pairs leaves r.0 p r.4.0 → ⊥)) → (leaf : ℕ) × IsOf pairs m' leaf
      cases (inl i) = (r.4.0, (i.1, i.2, i.3))
      cases (inr k) = (r.4.0, subst (λ y. IsOf pairs y r.4.0) (sym k.0) r.4.1)

pub at_index : {A : Type 0} (xs : List A) (i : ℕ) (d : A) → i < length xs → Contains xs (get_or xs i d)
at_index xs i d h = (i, h, any_default xs i (get_or xs i d) d h)

-- a mask that was read
pub mask_is : (masks : List (List ℕ)) (leaf : ℕ) (read : List ℕ) → leaf < length masks → read ≡ get_or masks leaf read → read ≡ mask_of masks leaf
mask_is masks leaf read h is = is ∙ any_default masks leaf read [] h

-- a node that waits after a mark was taken away waited before, and is another one
pub unset_waits : (ws : List Bool) (u x : ℕ) → IsWaiting (set ws u false) x → IsWaiting ws x × (x ≢ u)
unset_waits [] u x h = let no_mark : x < 0 = slice_get_within [] x true h in absurd (omega (arith, no_mark))
unset_waits (w ∷ ws) zero zero h = cc
unset_waits (w ∷ ws) zero (suc x) h = (h, λ e. cc)
unset_waits (w ∷ ws) (suc u) zero h = (h, λ e. cc)
unset_waits (w ∷ ws) (suc u) (suc x) h = let r = unset_waits ws u x h in (r.0, λ e. r.1 (omega (arith, e)))

-- a node that has no mark does not wait
pub not_waiting : (ws : List Bool) (u x : ℕ) (b : Bool) → u < length ws → get_or ws u b ≡ false → IsWaiting ws x → x ≢ u
not_waiting ws u x b h no_mark on e =
    let is : slice_get ws u ≡ Some true = subst (λ y. slice_get ws y ≡ Some true) e on in
    let read : get_or ws u b ≡ true = get_or_from_slice_get ws u true b is in
    let both : true ≡ false = sym read ∙ no_mark in
    cc
