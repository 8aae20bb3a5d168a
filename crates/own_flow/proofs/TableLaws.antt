-- The tables of makers, the first rows, and rows as lists of truth values.
use Rattle.std.proofs.Common.{◌≡◌, ◌≢◌, ℕ, zero, suc, ◌+◌, ◌<◌, ◌≤◌, ◌==◌, ◌⊎◌, inl, inr, Bool, true, false, List, [], ◌∷◌, ◌++◌, length, slice_get, Some, refl, sym, ap, ◌∙◌, subst, arith, get_or, set, eqb-true, eq-eqb}
use Rattle.std.proofs.lemmas.Bool.{cases_eq}
use Rattle.std.proofs.lemmas.List.{get_or-set_same, get_or-set_other}
use Rattle.std.proofs.lemmas.List.Elements.{Contains-append_left, Contains-append_right, Contains-append_cases}
use Rattle.std.proofs.lemmas.Option.{slice_get_within}
use Rattle.std.specs.Prelude.{◌↔◌, All, Contains, slice_index_or}
use Rattle.own_shapes.proofs.Lists.{set_same}
use Rattle.own_tree.specs.declared.graph.Maker.{Maker}
use Rattle.own_tree.specs.declared.graph.Node.{Node}
use Rattle.own_walks.specs.Pairs.{BelongTo}
use Rattle.own_walks.specs.Reaching.{IsOf, IsMadeAt, EdgesLeadToNodes}
use Rattle.own_flow.specs.declared.made.Made.{Made}
use Rattle.own_flow.specs.Facts.{IsFactAt, IsSizedFor, facts_in, words_for}
use Rattle.own_flow.specs.Flow.{HasAt, Flows, AreTables, AreWhole, made_at, mask_of}
use Rattle.own_flow.specs.Words.{Has, bit_of, truths_from}
use Rattle.own_flow.proofs.WordLaws.{none_has}

-- ---- lists of sets

-- an element of a list with one more is one of the list, or the new one; past the end there is the default
pub at_push : {A : Type 0} (xs : List A) (x d : A) (u : ℕ) → (get_or (xs ++ x ∷ []) u d ≡ get_or xs u d) ⊎ (get_or (xs ++ x ∷ []) u d ≡ x)
at_push [] x d zero = inr refl
at_push [] x d (suc u) = inl refl
at_push (y ∷ xs) x d zero = inl refl
at_push (y ∷ xs) x d (suc u) = at_push xs x d u

pub nothing_has : (m : ℕ) → ¬ (Has [] m)
nothing_has m = none_has [] (λ j. refl) m

pub none_at_push : (rows : List (List ℕ)) (row : List ℕ) → ((u m : ℕ) → ¬ (HasAt rows u m)) → ((m : ℕ) → ¬ (Has row m)) → (u m : ℕ) → ¬ (HasAt (rows ++ row ∷ []) u m)
none_at_push rows row h i u m has = elim (at_push rows row [] u) [ inl e ↦ h u m (subst (λ l. Has l m) e has) | inr e ↦ i m (subst (λ l. Has l m) e has) ]

pub not_in_none : {A : Type 0} (x : A) → Contains [] x → ⊥
not_in_none x c = let lt : c.0 < 0 = c.1 in omega (arith, lt)

pub no_list_push : (lists : List (List Made)) → ((u : ℕ) (x : Made) → ¬ (Contains (made_at lists u) x)) → (u : ℕ) (x : Made) → ¬ (Contains (made_at (lists ++ [] ∷ []) u) x)
no_list_push lists h u x c = elim (at_push lists [] [] u) [ inl e ↦ h u x (subst (λ l. Contains l x) e c) | inr e ↦ not_in_none x (subst (λ l. Contains l x) e c) ]

pub all_push : {A : Type 0} (P : A → Type 0) (xs : List A) (x : A) → All P xs → P x → All P (xs ++ x ∷ [])
all_push {A = A} P xs x h p k d lt = elim (at_push xs x d k) [ inl e ↦ early e | inr e ↦ subst P (sym e) p ]
  where
    past : (xs : List A) (k : ℕ) → k < length (xs ++ x ∷ []) → (k < length xs) ⊎ (get_or (xs ++ x ∷ []) k d ≡ x)
    past [] zero lt = inr refl
    past [] (suc k) lt = absurd (omega (arith, lt))
    past (y ∷ xs) zero lt = inl (omega arith)
    past (y ∷ xs) (suc k) lt = elim (past xs k (omega (arith, lt))) [ inl h ↦ inl (omega (arith, h)) | inr e ↦ inr e ]

    early : get_or (xs ++ x ∷ []) k d ≡ get_or xs k d → P (get_or (xs ++ x ∷ []) k d)
    early e = elim (past xs k lt) [ inl within ↦ subst P (sym e) (h k d within) | inr is ↦ subst P (sym is) p ]

pub all_set : {A : Type 0} (P : A → Type 0) (xs : List A) (v : ℕ) (x : A) → All P xs → P x → v < length xs → length (set xs v x) ≡ length xs → All P (set xs v x)
all_set P xs v x h p lt size k d within = elim (cases_eq k v) [
  | inl e ↦ subst P (sym (ap (λ y. get_or (set xs v x) y d) e ∙ get_or-set_same xs v x d lt)) p
  | inr other ↦ subst P (sym (get_or-set_other xs v k x d other)) (h k d (omega (arith, within, size)))
]

-- a set that gains a number, in its list
pub has_set : (rows : List (List ℕ)) (v k : ℕ) (row : List ℕ) → v < length rows → ((i : ℕ) → Has row i ↔ (HasAt rows v i ⊎ (i ≡ k)))
    → (u m : ℕ) → HasAt (set rows v row) u m ↔ (HasAt rows u m ⊎ ((u ≡ v) × (m ≡ k)))
has_set rows v k row lt h u m = elim (cases_eq u v) [
  | inl e ↦
      let is : slice_index_or (set rows v row) u [] ≡ row = ap (λ y. slice_index_or (set rows v row) y []) e ∙ get_or-set_same rows v row [] lt in (
        λ has. elim ((h m).0 (subst (λ l. Has l m) is has)) [ inl old ↦ inl (subst (λ y. HasAt rows y m) (sym e) old) | inr new ↦ inr (e, new) ],
        λ cases. subst (λ l. Has l m) (sym is) ((h m).1 (elim cases [ inl old ↦ inl (subst (λ y. HasAt rows y m) e old) | inr new ↦ inr new.1 ])),
      )
  | inr other ↦
      let is : slice_index_or (set rows v row) u [] ≡ slice_index_or rows u [] = get_or-set_other rows v u row [] other in
      (λ has. inl (subst (λ l. Has l m) is has), λ cases. elim cases [ inl old ↦ subst (λ l. Has l m) (sym is) old | inr new ↦ absurd (other new.0) ])
]

-- ---- one pair more

some_maker : (x y : Maker) → Some x ≡ Some y → x ≡ y
some_maker x y e = cc

-- the makers of a leaf among the first k pairs
abbrev pub IsOfFirst : List Maker → ℕ → ℕ → ℕ → Type 0
IsOfFirst pairs k m leaf = IsOf pairs m leaf × (m < k)

-- the makers at a node among the first k pairs
abbrev pub IsMadeFirst : List Maker → ℕ → ℕ → ℕ → ℕ → ℕ → Type 0
IsMadeFirst pairs leaves k u m leaf = IsMadeAt pairs leaves u m leaf × (m < k)

module _ (pairs : List Maker) (k : ℕ) (pair : Maker) (at : slice_get pairs k ≡ Some pair) where
  leaf_is : (leaf : ℕ) → IsOf pairs k leaf → leaf ≡ pair.leaf
  leaf_is leaf i = sym i.2 ∙ ap (λ (q : Maker). q.leaf) (some_maker i.0 pair (sym i.1 ∙ at))

  pub of_more : (leaf m : ℕ) → IsOfFirst pairs (k + 1) m leaf ↔ (IsOfFirst pairs k m leaf ⊎ ((leaf ≡ pair.leaf) × (m ≡ k)))
  of_more leaf m = (there, back)
    where
      there : IsOfFirst pairs (k + 1) m leaf → IsOfFirst pairs k m leaf ⊎ ((leaf ≡ pair.leaf) × (m ≡ k))
      there i = elim (cases_eq m k) [
        | inl e ↦ inr (leaf_is leaf (subst (λ x. IsOf pairs x leaf) e i.0), e)
        | inr other ↦ inl (i.0, omega (arith, i.1, other))
      ]

      back : IsOfFirst pairs k m leaf ⊎ ((leaf ≡ pair.leaf) × (m ≡ k)) → IsOfFirst pairs (k + 1) m leaf
      back (inl i) = (i.0, omega (arith, i.1))
      back (inr e) = (subst (λ x. IsOf pairs x leaf) (sym e.1) (pair, at, sym e.0), omega (arith, e.1))

  pub mask_step : (masks : List (List ℕ)) (row : List ℕ) → pair.leaf < length masks → ((i : ℕ) → Has row i ↔ (HasAt masks pair.leaf i ⊎ (i ≡ k)))
      → ((leaf m : ℕ) → Has (mask_of masks leaf) m ↔ IsOfFirst pairs k m leaf) → (leaf m : ℕ) → Has (mask_of (set masks pair.leaf row) leaf) m ↔ IsOfFirst pairs (k + 1) m leaf
  mask_step masks row lt h done leaf m =
      let one = has_set masks pair.leaf k row lt h leaf m in
      let two = of_more leaf m in (
        λ has. two.1 (elim (one.0 has) [ inl old ↦ inl ((done leaf m).0 old) | inr new ↦ inr new ]),
        λ is. one.1 (elim (two.0 is) [ inl old ↦ inl ((done leaf m).1 old) | inr new ↦ inr new ]),
      )

  -- a set that has those of one leaf gains this pair, or does not where it is of another leaf
  abbrev HasFirst : ℕ → List ℕ → ℕ → ℕ → Type 0
  HasFirst n set leaf m = Has set m ↔ IsOfFirst pairs n m leaf

  pub fill_yes : (old new : List ℕ) (leaf : ℕ) → pair.leaf ≡ leaf → ((i : ℕ) → Has new i ↔ (Has old i ⊎ (i ≡ k))) → ((m : ℕ) → HasFirst k old leaf m) → (m : ℕ) → HasFirst (k + 1) new leaf m
  fill_yes old new leaf e h done m =
      let two = of_more leaf m in (
        λ has. two.1 (elim ((h m).0 has) [ inl i ↦ inl ((done m).0 i) | inr i ↦ inr (sym e, i) ]),
        λ is. (h m).1 (elim (two.0 is) [ inl i ↦ inl ((done m).1 i) | inr i ↦ inr i.1 ]),
      )

  pub fill_no : (old : List ℕ) (leaf : ℕ) → (pair.leaf ≡ leaf → ⊥) → ((m : ℕ) → HasFirst k old leaf m) → (m : ℕ) → HasFirst (k + 1) old leaf m
  fill_no old leaf other done m =
      let two = of_more leaf m in (
        λ has. two.1 (inl ((done m).0 has)),
        λ is. elim (two.0 is) [ inl i ↦ (done m).1 i | inr i ↦ absurd (other (sym i.0)) ],
      )

  pub made_more : (leaves u m leaf : ℕ) → leaves ≤ k → IsMadeFirst pairs leaves (k + 1) u m leaf ↔ (IsMadeFirst pairs leaves k u m leaf ⊎ ((u ≡ pair.node) × (m ≡ k) × (leaf ≡ pair.leaf)))
  made_more leaves u m leaf low = (there, back)
    where
      last : (i : IsMadeAt pairs leaves u m leaf) → m ≡ k → (u ≡ pair.node) × (m ≡ k) × (leaf ≡ pair.leaf)
      last i e =
          let is : i.1 ≡ pair = some_maker i.1 pair (sym i.2 ∙ ap (λ x. slice_get pairs x) e ∙ at) in
          (sym i.4 ∙ ap (λ (q : Maker). q.node) is, e, sym i.3 ∙ ap (λ (q : Maker). q.leaf) is)

      there : IsMadeFirst pairs leaves (k + 1) u m leaf → IsMadeFirst pairs leaves k u m leaf ⊎ ((u ≡ pair.node) × (m ≡ k) × (leaf ≡ pair.leaf))
      there i = elim (cases_eq m k) [ inl e ↦ inr (last i.0 e) | inr other ↦ inl (i.0, omega (arith, i.1, other)) ]

      back : IsMadeFirst pairs leaves k u m leaf ⊎ ((u ≡ pair.node) × (m ≡ k) × (leaf ≡ pair.leaf)) → IsMadeFirst pairs leaves (k + 1) u m leaf
      back (inl i) = (i.0, omega (arith, i.1))
      back (inr e) = ((omega (arith, low, e.1), pair, ap (λ x. slice_get pairs x) e.1 ∙ at, sym e.2, sym e.0), omega (arith, e.1))

  abbrev mine : Made
  mine = record { maker = k; leaf = pair.leaf }

  is_mine : (x : Made) → x.maker ≡ k → x.leaf ≡ pair.leaf → x ≡ mine
  is_mine x e f = λ i. record { maker = e i; leaf = f i }

  one_at : (y x : Made) (i : ℕ) → i < length (y ∷ []) → slice_index_or (y ∷ []) i x ≡ x → x ≡ y
  one_at y x zero lt e = sym e
  one_at y x (suc i) lt e = absurd (omega (arith, lt))

  -- the list of a node gains a maker
  pub list_step : (leaves : ℕ) (lists : List (List Made)) → leaves ≤ k → pair.node < length lists
      → ((u : ℕ) (x : Made) → Contains (made_at lists u) x ↔ IsMadeFirst pairs leaves k u x.maker x.leaf)
      → (u : ℕ) (x : Made) → Contains (made_at (set lists pair.node (made_at lists pair.node ++ mine ∷ [])) u) x ↔ IsMadeFirst pairs leaves (k + 1) u x.maker x.leaf
  list_step leaves lists low lt done u x = elim (cases_eq u pair.node) [ inl e ↦ same e | inr other ↦ apart other ]
    where
      old : List Made
      old = made_at lists pair.node

      new : List (List Made)
      new = set lists pair.node (old ++ mine ∷ [])

      more : IsMadeFirst pairs leaves (k + 1) u x.maker x.leaf ↔ (IsMadeFirst pairs leaves k u x.maker x.leaf ⊎ ((u ≡ pair.node) × (x.maker ≡ k) × (x.leaf ≡ pair.leaf)))
      more = made_more leaves u x.maker x.leaf low

      same : u ≡ pair.node → Contains (made_at new u) x ↔ IsMadeFirst pairs leaves (k + 1) u x.maker x.leaf
      same e =
          let is : made_at new u ≡ old ++ mine ∷ [] = ap (λ y. made_at new y) e ∙ get_or-set_same lists pair.node (old ++ mine ∷ []) [] lt in
          let there : made_at lists u ≡ old = ap (λ y. made_at lists y) e in (
            λ c. more.1 (elim (Contains-append_cases old (mine ∷ []) x (subst (λ l. Contains l x) is c)) [
              | inl i ↦ inl ((done u x).0 (subst (λ l. Contains l x) (sym there) i))
              | inr i ↦ let it = one_at mine x i.0 i.1 i.2 in inr (e, ap (λ (y : Made). y.maker) it, ap (λ (y : Made). y.leaf) it)
            ]),
            λ made. subst (λ l. Contains l x) (sym is) (elim (more.0 made) [
              | inl i ↦ Contains-append_left old (mine ∷ []) x (subst (λ l. Contains l x) there ((done u x).1 i))
              | inr i ↦ Contains-append_right old (mine ∷ []) x (0, omega arith, sym (is_mine x i.1 i.2))
            ]),
          )

      apart : u ≢ pair.node → Contains (made_at new u) x ↔ IsMadeFirst pairs leaves (k + 1) u x.maker x.leaf
      apart other =
          let is : made_at new u ≡ made_at lists u = get_or-set_other lists pair.node u (old ++ mine ∷ []) [] other in (
            λ c. more.1 (inl ((done u x).0 (subst (λ l. Contains l x) is c))),
            λ made. subst (λ l. Contains l x) (sym is) (elim (more.0 made) [ inl i ↦ (done u x).1 i | inr i ↦ absurd (other i.0) ]),
          )

-- all pairs
pub of_all : (pairs : List Maker) (k m leaf : ℕ) → length pairs ≤ k → IsOfFirst pairs k m leaf ↔ IsOf pairs m leaf
of_all pairs k m leaf h = (λ i. i.0, λ i. (i, let lt = slice_get_within pairs m i.0 i.1 in omega (arith, lt, h)))

pub made_all : (pairs : List Maker) (leaves k u m leaf : ℕ) → length pairs ≤ k → IsMadeFirst pairs leaves k u m leaf ↔ IsMadeAt pairs leaves u m leaf
made_all pairs leaves k u m leaf h = (λ i. i.0, λ i. (i, let lt = slice_get_within pairs m i.1 i.2 in omega (arith, lt, h)))

-- two equivalences, one after the other
pub by_both : {A B C : Type 0} → A ↔ B → B ↔ C → A ↔ C
by_both p q = (λ a. q.0 (p.0 a), λ c. p.1 (q.1 c))

-- ---- what the tables are good for

module _ (pairs : List Maker) (leaves : ℕ) (nodes : List Node) (at : List (List Made)) (masks : List (List ℕ)) (belong : BelongTo (length nodes) leaves pairs)
    (made : (u : ℕ) (x : Made) → Contains (made_at at u) x ↔ IsMadeAt pairs leaves u x.maker x.leaf) (has : (leaf m : ℕ) → Has (mask_of masks leaf) m ↔ IsOf pairs m leaf) where
  pub are_tables : AreTables pairs leaves (made_at at) masks
  are_tables = record {
    starts = λ m h. let r = belong.starts m h in (m, (r.0, r.1, r.2));
    mask = has;
    made = λ u x c. (made u x).0 c;
    all = λ u p leaf i. (record { maker = p; leaf = leaf }, (made u (record { maker = p; leaf = leaf })).1 i, refl, refl);
  }

  pub are_whole : EdgesLeadToNodes nodes → length at ≡ length nodes → length masks ≡ leaves → All (λ mask. length mask ≡ words_for (length pairs)) masks
      → AreWhole nodes at masks (words_for (length pairs))
  are_whole edges as_many count long = record {
    as_many = as_many;
    fits = λ u. record {
      long = λ l h. long l [] h;
      leaf = λ x c. let i = (made u x).0 c in let low = belong.leaf x.maker i.1 i.2 in omega (arith, low, i.3, count);
      maker = λ x c. let i = (made u x).0 c in let low = slice_get_within pairs x.maker i.1 i.2 in omega (arith, low);
    };
    edges = edges;
  }

-- ---- before the first visit

pub flows_first : (pairs : List Maker) (leaves : ℕ) (nodes : List Node) (entry : ℕ) (rows : List (List ℕ)) (waiting : List Bool) → entry < length waiting
    → ((u m : ℕ) → HasAt rows u m ↔ ((u ≡ entry) × (m < leaves))) → Flows pairs leaves nodes entry rows (set waiting entry true)
flows_first pairs leaves nodes entry rows waiting lt h = record {
  sound = λ u m i. (0, (h u m).0 i);
  begun = λ m i. (h entry m).1 (refl, i);
  closed = λ u. elim (cases_eq u entry) [
    | inl e ↦ inl (ap (λ y. slice_get (set waiting entry true) y) e ∙ set_same waiting entry true lt)
    | inr other ↦ inr (λ m m' v i b edge. absurd (other ((h u m).0 i).0))
  ];
}

-- ---- rows as contracts see them

pub truth_is : (i count : ℕ) (row : List ℕ) (m : ℕ) → (slice_get (truths_from i count row) m ≡ Some true) ↔ ((m < count) × Has row (i + m))
unfolding Has
truth_is i zero row m = (λ e. absurd cc, λ h. absurd (omega (arith, h.0)))
truth_is i (suc count) row zero = (
  λ e. (omega arith, let is : (bit_of row i == 1) ≡ true = cc in ap (bit_of row) (let same : i + 0 ≡ i = omega arith in same) ∙ eqb-true (bit_of row i) 1 is),
  λ h. ap (λ b. Some b) (eq-eqb (bit_of row i) 1 (ap (bit_of row) (let same : i ≡ i + 0 = omega arith in same) ∙ h.1)),
)
truth_is i (suc count) row (suc m) =
    let r = truth_is (suc i) count row m in
    let same : suc i + m ≡ i + suc m = omega arith in (
      λ e. let h = r.0 e in (omega (arith, h.0), ap (bit_of row) (sym same) ∙ h.1),
      λ h. r.1 (omega (arith, h.0), ap (bit_of row) same ∙ h.1),
    )

pub fact_is : (makers : ℕ) (rows : List (List ℕ)) (u m : ℕ) → IsFactAt (facts_in makers rows) u m ↔ ((m < makers) × HasAt rows u m)
fact_is makers [] u m = (λ e. absurd cc, λ h. absurd (nothing_has m h.1))
fact_is makers (row ∷ rows) zero m =
    let r = truth_is 0 makers row m in
    let same : 0 + m ≡ m = omega arith in (
      λ e. let h = r.0 e in (h.0, subst (λ x. Has row x) same h.1),
      λ h. r.1 (h.0, subst (λ x. Has row x) (sym same) h.1),
    )
fact_is makers (row ∷ rows) (suc u) m = fact_is makers rows u m

truths_length : (i count : ℕ) (row : List ℕ) → length (truths_from i count row) ≡ count
truths_length i zero row = refl
truths_length i (suc count) row = ap suc (truths_length (suc i) count row)

pub facts_length : (makers : ℕ) (rows : List (List ℕ)) → length (facts_in makers rows) ≡ length rows
facts_length makers [] = refl
facts_length makers (row ∷ rows) = ap suc (facts_length makers rows)

pub facts_each : (makers : ℕ) (rows : List (List ℕ)) (u : ℕ) → u < length rows → length (slice_index_or (facts_in makers rows) u []) ≡ makers
facts_each makers [] u h = absurd (omega (arith, h))
facts_each makers (row ∷ rows) zero h = truths_length 0 makers row
facts_each makers (row ∷ rows) (suc u) h = facts_each makers rows u (omega (arith, h))

pub facts_sized : (makers : ℕ) (rows : List (List ℕ)) → IsSizedFor (length rows) makers (facts_in makers rows)
facts_sized makers rows = record { rows = facts_length makers rows; each = λ u h. facts_each makers rows u h }

truth_at : (i count : ℕ) (row : List ℕ) (m : ℕ) → m < count → get_or (truths_from i count row) m false ≡ (bit_of row (i + m) == 1)
truth_at i zero row m h = absurd (omega (arith, h))
truth_at i (suc count) row zero h = ap (λ x. bit_of row x == 1) (let same : i ≡ i + 0 = omega arith in same)
truth_at i (suc count) row (suc m) h =
    truth_at (suc i) count row m (omega (arith, h)) ∙ ap (λ x. bit_of row x == 1) (let same : suc i + m ≡ i + suc m = omega arith in same)

-- the value that is read
pub fact_at : (makers : ℕ) (rows : List (List ℕ)) (u m : ℕ) → u < length rows → m < makers
    → slice_index_or (slice_index_or (facts_in makers rows) u []) m false ≡ (bit_of (slice_index_or rows u []) m == 1)
fact_at makers [] u m h lt = absurd (omega (arith, h))
fact_at makers (row ∷ rows) zero m h lt = truth_at 0 makers row m lt ∙ ap (λ x. bit_of row x == 1) (let same : 0 + m ≡ m = omega arith in same)
fact_at makers (row ∷ rows) (suc u) m h lt = fact_at makers rows u m (omega (arith, h)) lt
