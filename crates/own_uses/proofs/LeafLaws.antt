-- The leaves below a place and above it, property by property and binding by binding.
use Rattle.std.proofs.Common.{◌≡◌, ℕ, zero, suc, ◌+◌, ◌<◌, ◌≤◌, Bool, true, false, not, ◌&&◌, ◌||◌, ◌==◌, if◌then◌else◌, Option, Some, None, List, [], ◌∷◌, ◌++◌, map, drop, length, slice_get, inl, inr, refl, sym, ap, ◌∙◌, arith}
use Rattle.std.proofs.lemmas.Bool.{cases_eq, eq-eqb, ne_eqb}
use Rattle.std.proofs.lemmas.List.{length-append, length-map, drop_more}
use Rattle.std.proofs.lemmas.Option.{slice_get_within, get_or_from_slice_get}
use Rattle.own_tree.specs.declared.place.Binding.{Binding}
use Rattle.own_tree.specs.declared.place.Place.{Place}
use Rattle.own_tree.specs.declared.place.Ty.{Ty}
use Rattle.own_paths.specs.BodyLimits.{leaves_at}
use Rattle.own_paths.specs.Fixed.{place_of, binding_leaves, lies_in_leaf}
use Rattle.own_paths.specs.Makers.{leaves_declared}
use Rattle.own_shapes.specs.Places.{is_prefix}
use Rattle.own_shapes.specs.Types.{Types, Shape, Shapes, no_shapes, shape, shapes_of, leaves, leaves_from}
use Rattle.own_uses.specs.Leaves.{count_below, is_above, one_above, own_leaves, own_below, leaf_counts}

eqb_sym : (a b : ℕ) → (a == b) ≡ (b == a)
eqb_sym a b = elim (cases_eq a b) [
  | inl same ↦ eq-eqb a b same ∙ sym (eq-eqb b a (sym same))
  | inr differ ↦ ne_eqb a b differ ∙ sym (ne_eqb b a (λ e. differ (sym e)))
]

-- ---- lists of leaves

pub all_below : (ls : List (List ℕ)) → count_below [] ls ≡ length ls
all_below [] = refl
all_below (leaf ∷ ls) = ap suc (all_below ls)

pub none_above : (ls : List (List ℕ)) → one_above [] ls ≡ false
none_above [] = refl
none_above (leaf ∷ ls) = elim (is_prefix leaf []) as (λ b. ((b && false) || one_above [] ls) ≡ false) [ true ↦ none_above ls | false ↦ none_above ls ]

count_step : (b c : Bool) (m n : ℕ) → m ≡ (if b then n else 0) → (if b && c then suc m else m) ≡ (if b then (if c then suc n else n) else 0)
count_step true true m n e = ap suc e
count_step true false m n e = e
count_step false c m n e = e

above_step : (b c d m n : Bool) → m ≡ (b && n) → (((b && c) && not (b && d)) || m) ≡ (b && ((c && not d) || n))
above_step true c d m n e = ap (λ x. (c && not d) || x) e
above_step false c d m n e = e

no_count : (b : Bool) → ◌≡◌ {A = ℕ} 0 (if b then 0 else 0)
no_count true = refl
no_count false = refl

no_leaf : (b : Bool) → false ≡ (b && false)
no_leaf true = refl
no_leaf false = refl

below_behind : (k j : ℕ) (rest : List ℕ) (ls : List (List ℕ)) → count_below (k ∷ rest) (map (λ path. j ∷ path) ls) ≡ (if k == j then count_below rest ls else 0)
below_behind k j rest [] = no_count (k == j)
below_behind k j rest (leaf ∷ ls) =
    count_step (k == j) (is_prefix rest leaf) (count_below (k ∷ rest) (map (λ path. j ∷ path) ls)) (count_below rest ls) (below_behind k j rest ls)

above_behind : (k j : ℕ) (rest : List ℕ) (ls : List (List ℕ)) → one_above (k ∷ rest) (map (λ path. j ∷ path) ls) ≡ ((k == j) && one_above rest ls)
above_behind k j rest [] = no_leaf (k == j)
above_behind k j rest (leaf ∷ ls) =
    let later = one_above (k ∷ rest) (map (λ path. j ∷ path) ls) in
    ap (λ b. ((b && is_prefix leaf rest) && not ((k == j) && is_prefix rest leaf)) || later) (eqb_sym j k)
    ∙ above_step (k == j) (is_prefix leaf rest) (is_prefix rest leaf) later (one_above rest ls) (above_behind k j rest ls)

below-append : (fields : List ℕ) (xs ys : List (List ℕ)) → count_below fields (xs ++ ys) ≡ count_below fields xs + count_below fields ys
below-append fields [] ys = omega arith
below-append fields (x ∷ xs) ys =
    let more = below-append fields xs ys in
    elim (is_prefix fields x) as (λ b. (if b then suc (count_below fields (xs ++ ys)) else count_below fields (xs ++ ys)) ≡ (if b then suc (count_below fields xs) else count_below fields xs) + count_below fields ys) [
      | true ↦ omega (arith, more)
      | false ↦ more
    ]

above-append : (fields : List ℕ) (xs ys : List (List ℕ)) → one_above fields (xs ++ ys) ≡ (one_above fields xs || one_above fields ys)
above-append fields [] ys = refl
above-append fields (x ∷ xs) ys =
    elim (is_prefix x fields && not (is_prefix fields x)) as (λ b. (b || one_above fields (xs ++ ys)) ≡ ((b || one_above fields xs) || one_above fields ys)) [
      | true ↦ refl
      | false ↦ above-append fields xs ys
    ]

-- one leaf after another
pub leaf_first : (ls : List (List ℕ)) (i : ℕ) (leaf : List ℕ) → slice_get ls i ≡ Some leaf → drop i ls ≡ leaf ∷ drop (i + 1) ls
leaf_first ls i leaf at =
    drop_more ls i leaf (slice_get_within ls i leaf at) ∙ ap (λ x. x ∷ drop (i + 1) ls) (get_or_from_slice_get ls i leaf leaf at)

count_more : (fields : List ℕ) (ls : List (List ℕ)) (i : ℕ) (leaf : List ℕ) (is : Bool) (count next total : ℕ) → slice_get ls i ≡ Some leaf → is ≡ is_prefix fields leaf
    → next ≡ (if is then count + 1 else count) → count + count_below fields (drop i ls) ≡ total → next + count_below fields (drop (i + 1) ls) ≡ total
count_more fields ls i leaf is count next total at tested counts so_far =
    let rest = count_below fields (drop (i + 1) ls) in
    let here : count_below fields (drop i ls) ≡ (if is then suc rest else rest) =
    ap (count_below fields) (leaf_first ls i leaf at) ∙ ap (λ b. if b then suc rest else rest) (sym tested) in
    ap (λ n. n + rest) counts ∙ step is count rest ∙ ap (λ n. count + n) (sym here) ∙ so_far
  where
    step : (b : Bool) (n r : ℕ) → (if b then n + 1 else n) + r ≡ n + (if b then suc r else r)
    step true n r = omega arith
    step false n r = refl

pub leaf_more : (fields : List ℕ) (ls : List (List ℕ)) (i : ℕ) (leaf : List ℕ) (is : Bool) (count next : ℕ) → slice_get ls i ≡ Some leaf → is ≡ is_prefix fields leaf
    → next ≡ (if is then count + 1 else count) → count ≤ i → count + count_below fields (drop i ls) ≡ count_below fields ls
    → (next ≤ i + 1) × (next + count_below fields (drop (i + 1) ls) ≡ count_below fields ls)
leaf_more fields ls i leaf is count next at tested counts few so_far =
    (bound is counts, count_more fields ls i leaf is count next (count_below fields ls) at tested counts so_far)
  where
    bound : (b : Bool) → next ≡ (if b then count + 1 else count) → next ≤ i + 1
    bound true e = omega (arith, e, few)
    bound false e = omega (arith, e, few)

-- whether a leaf lies above, leaf by leaf
pub above_more : (fields : List ℕ) (ls : List (List ℕ)) (i : ℕ) (leaf : List ℕ) (is b : Bool) → slice_get ls i ≡ Some leaf → is ≡ is_above leaf fields → is ≡ b
    → one_above fields (drop i ls) ≡ one_above fields ls → (b || one_above fields (drop (i + 1) ls)) ≡ one_above fields ls
above_more fields ls i leaf is b at tested told so_far =
    let rest = one_above fields (drop (i + 1) ls) in
    ap (λ x. x || rest) (sym told ∙ tested) ∙ sym (ap (one_above fields) (leaf_first ls i leaf at)) ∙ so_far

-- ---- the properties of `self` in `init`

module _ (shape_of : Ty → Shape) where
  abbrev pub below_in : List ℕ → Option Ty → ℕ
  below_in rest None = 0
  below_in rest (Some ty) = count_below rest (leaves (shape_of ty))

  abbrev pub above_in : List ℕ → Option Ty → Bool
  above_in rest None = false
  above_in rest (Some ty) = one_above rest (leaves (shape_of ty))

past_below : (k j : ℕ) (rest : List ℕ) (ss : Shapes) → k < j → count_below (k ∷ rest) (leaves_from j ss) ≡ 0
past_below k j rest no_shapes lt = refl
past_below k j rest (shape s ss) lt =
    let other : (k == j) ≡ false = ne_eqb k j (λ e. omega (arith, e, lt)) in
    let here = below_behind k j rest (leaves s) ∙ ap (λ b. if b then count_below rest (leaves s) else 0) other in
    let later = past_below k (suc j) rest ss (omega (arith, lt)) in
    below-append (k ∷ rest) (map (λ path. j ∷ path) (leaves s)) (leaves_from (suc j) ss) ∙ omega (arith, here, later)

past_above : (k j : ℕ) (rest : List ℕ) (ss : Shapes) → k < j → one_above (k ∷ rest) (leaves_from j ss) ≡ false
past_above k j rest no_shapes lt = refl
past_above k j rest (shape s ss) lt =
    let other : (k == j) ≡ false = ne_eqb k j (λ e. omega (arith, e, lt)) in
    let here = above_behind k j rest (leaves s) ∙ ap (λ b. b && one_above rest (leaves s)) other in
    let later = past_above k (suc j) rest ss (omega (arith, lt)) in
    above-append (k ∷ rest) (map (λ path. j ∷ path) (leaves s)) (leaves_from (suc j) ss) ∙ (λ i. here i || later i)

module _ (shape_of : Ty → Shape) where
  below_at : (j k : ℕ) (rest : List ℕ) (tys : List Ty) → count_below ((j + k) ∷ rest) (leaves_from j (shapes_of shape_of tys)) ≡ below_in shape_of rest (slice_get tys k)
  below_at j k rest [] = refl
  below_at j zero rest (ty ∷ tys) =
      let same : (j + 0 == j) ≡ true = eq-eqb (j + 0) j (omega arith) in
      let ls = leaves (shape_of ty) in
      let here = below_behind (j + 0) j rest ls ∙ ap (λ b. if b then count_below rest ls else 0) same in
      let later = past_below (j + 0) (suc j) rest (shapes_of shape_of tys) (omega arith) in
      below-append ((j + 0) ∷ rest) (map (λ path. j ∷ path) ls) (leaves_from (suc j) (shapes_of shape_of tys)) ∙ omega (arith, here, later)
  below_at j (suc k) rest (ty ∷ tys) =
      let other : (j + suc k == j) ≡ false = ne_eqb (j + suc k) j (λ e. omega (arith, e)) in
      let ls = leaves (shape_of ty) in
      let here = below_behind (j + suc k) j rest ls ∙ ap (λ b. if b then count_below rest ls else 0) other in
      let next : j + suc k ≡ suc j + k = omega arith in
      let later = ap (λ (n : ℕ). count_below (n ∷ rest) (leaves_from (suc j) (shapes_of shape_of tys))) next ∙ below_at (suc j) k rest tys in
      below-append ((j + suc k) ∷ rest) (map (λ path. j ∷ path) ls) (leaves_from (suc j) (shapes_of shape_of tys)) ∙ omega (arith, here, later)

  above_at : (j k : ℕ) (rest : List ℕ) (tys : List Ty) → one_above ((j + k) ∷ rest) (leaves_from j (shapes_of shape_of tys)) ≡ above_in shape_of rest (slice_get tys k)
  above_at j k rest [] = refl
  above_at j zero rest (ty ∷ tys) =
      let same : (j + 0 == j) ≡ true = eq-eqb (j + 0) j (omega arith) in
      let ls = leaves (shape_of ty) in
      let here = above_behind (j + 0) j rest ls ∙ ap (λ b. b && one_above rest ls) same in
      let later = past_above (j + 0) (suc j) rest (shapes_of shape_of tys) (omega arith) in
      above-append ((j + 0) ∷ rest) (map (λ path. j ∷ path) ls) (leaves_from (suc j) (shapes_of shape_of tys)) ∙ (λ i. here i || later i) ∙ or_false (one_above rest ls)
    where
      or_false : (b : Bool) → (b || false) ≡ b
      or_false true = refl
      or_false false = refl
  above_at j (suc k) rest (ty ∷ tys) =
      let other : (j + suc k == j) ≡ false = ne_eqb (j + suc k) j (λ e. omega (arith, e)) in
      let ls = leaves (shape_of ty) in
      let here = above_behind (j + suc k) j rest ls ∙ ap (λ b. b && one_above rest ls) other in
      let next : j + suc k ≡ suc j + k = omega arith in
      let later = ap (λ (n : ℕ). one_above (n ∷ rest) (leaves_from (suc j) (shapes_of shape_of tys))) next ∙ above_at (suc j) k rest tys in
      above-append ((j + suc k) ∷ rest) (map (λ path. j ∷ path) ls) (leaves_from (suc j) (shapes_of shape_of tys)) ∙ (λ i. here i || later i)

  pub property_below : (k : ℕ) (rest : List ℕ) (tys : List Ty) → count_below (k ∷ rest) (leaves_from 0 (shapes_of shape_of tys)) ≡ below_in shape_of rest (slice_get tys k)
  property_below k rest tys =
      let at : k ≡ 0 + k = omega arith in ap (λ (n : ℕ). count_below (n ∷ rest) (leaves_from 0 (shapes_of shape_of tys))) at ∙ below_at 0 k rest tys

  pub property_above : (k : ℕ) (rest : List ℕ) (tys : List Ty) → one_above (k ∷ rest) (leaves_from 0 (shapes_of shape_of tys)) ≡ above_in shape_of rest (slice_get tys k)
  property_above k rest tys =
      let at : k ≡ 0 + k = omega arith in ap (λ (n : ℕ). one_above (n ∷ rest) (leaves_from 0 (shapes_of shape_of tys))) at ∙ above_at 0 k rest tys

-- ---- the bindings of a body

of_place : (p : Place) (x : ℕ) (ls : List (List ℕ)) → leaves_at p (map (place_of x) ls) ≡ (if p.binding == x then count_below p.fields ls else 0)
of_place p x [] = no_count (p.binding == x)
of_place p x (leaf ∷ ls) = count_step (p.binding == x) (is_prefix p.fields leaf) (leaves_at p (map (place_of x) ls)) (count_below p.fields ls) (of_place p x ls)

at-append : (p : Place) (xs ys : List Place) → leaves_at p (xs ++ ys) ≡ leaves_at p xs + leaves_at p ys
at-append p [] ys = omega arith
at-append p (x ∷ xs) ys =
    let more = at-append p xs ys in
    elim ((p.binding == x.binding) && is_prefix p.fields x.fields) as (λ b. (if b then suc (leaves_at p (xs ++ ys)) else leaves_at p (xs ++ ys)) ≡ (if b then suc (leaves_at p xs) else leaves_at p xs) + leaves_at p ys) [
      | true ↦ omega (arith, more)
      | false ↦ more
    ]

module _ (types : Types) (body : ℕ) where
  past_declared : (p : Place) (x : ℕ) (bindings : List Binding) → p.binding < x → leaves_at p (leaves_declared types body x bindings) ≡ 0
  past_declared p x [] lt = refl
  past_declared p x (b ∷ bindings) lt =
      let other : (p.binding == x) ≡ false = ne_eqb p.binding x (λ e. omega (arith, e, lt)) in
      let ls = binding_leaves types b in
      let here = of_place p x ls ∙ ap (λ c. if c then count_below p.fields ls else 0) other in
      let later = past_declared p (suc x) bindings (omega (arith, lt)) in
      elim (b.body == body) as (λ c. leaves_at p (if c then map (place_of x) ls ++ leaves_declared types body (suc x) bindings else leaves_declared types body (suc x) bindings) ≡ 0) [
        | true ↦ at-append p (map (place_of x) ls) (leaves_declared types body (suc x) bindings) ∙ omega (arith, here, later)
        | false ↦ later
      ]

  declared_at : (p : Place) (x n : ℕ) (bindings : List Binding) → p.binding ≡ x + n → leaves_at p (leaves_declared types body x bindings) ≡ own_below types body p.fields (slice_get bindings n)
  declared_at p x n [] at = refl
  declared_at p x zero (b ∷ bindings) at =
      let same : (p.binding == x) ≡ true = eq-eqb p.binding x (omega (arith, at)) in
      let ls = binding_leaves types b in
      let here = of_place p x ls ∙ ap (λ c. if c then count_below p.fields ls else 0) same in
      let later = past_declared p (suc x) bindings (omega (arith, at)) in
      elim (b.body == body) as (λ c. leaves_at p (if c then map (place_of x) ls ++ leaves_declared types body (suc x) bindings else leaves_declared types body (suc x) bindings) ≡ (if c then count_below p.fields ls else 0)) [
        | true ↦ at-append p (map (place_of x) ls) (leaves_declared types body (suc x) bindings) ∙ omega (arith, here, later)
        | false ↦ later
      ]
  declared_at p x (suc n) (b ∷ bindings) at =
      let other : (p.binding == x) ≡ false = ne_eqb p.binding x (λ e. omega (arith, e, at)) in
      let ls = binding_leaves types b in
      let here = of_place p x ls ∙ ap (λ c. if c then count_below p.fields ls else 0) other in
      let later = declared_at p (suc x) n bindings (omega (arith, at)) in
      elim (b.body == body) as (λ c. leaves_at p (if c then map (place_of x) ls ++ leaves_declared types body (suc x) bindings else leaves_declared types body (suc x) bindings) ≡ own_below types body p.fields (slice_get bindings n)) [
        | true ↦ at-append p (map (place_of x) ls) (leaves_declared types body (suc x) bindings) ∙ omega (arith, here, later)
        | false ↦ later
      ]

  pub at_binding : (x : ℕ) (fields : List ℕ) (bindings : List Binding) → leaves_at (place_of x fields) (leaves_declared types body 0 bindings) ≡ own_below types body fields (slice_get bindings x)
  at_binding x fields bindings = declared_at (place_of x fields) 0 x bindings (omega arith)

  pub leaf_counts_are : (x : ℕ) (bindings : List Binding) → length (leaves_declared types body x bindings) ≡ leaf_counts types body bindings
  leaf_counts_are x [] = refl
  leaf_counts_are x (b ∷ bindings) =
      let ls = binding_leaves types b in
      let more = leaf_counts_are (suc x) bindings in
      let own = length-map ls (place_of x) in
      elim (b.body == body) as (λ c. length (if c then map (place_of x) ls ++ leaves_declared types body (suc x) bindings else leaves_declared types body (suc x) bindings)
      ≡ (if c then length ls else 0) + leaf_counts types body bindings) [
        | true ↦ length-append (map (place_of x) ls) (leaves_declared types body (suc x) bindings) ∙ omega (arith, own, more)
        | false ↦ omega (arith, more)
      ]

pub lies_is : (p : Place) (ls : List (List ℕ)) → lies_in_leaf p ls ≡ one_above p.fields ls
lies_is p [] = refl
lies_is p (leaf ∷ ls) =
    ap (λ b. ((b && is_prefix leaf p.fields) && not (b && is_prefix p.fields leaf)) || lies_in_leaf p ls) (eq-eqb p.binding p.binding refl)
    ∙ ap (λ later. (is_prefix leaf p.fields && not (is_prefix p.fields leaf)) || later) (lies_is p ls)
