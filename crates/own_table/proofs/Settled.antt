-- The search for an order of types: what each of its steps keeps, and what it has at the end.
use Rattle.std.proofs.Common.{◌≡◌, ℕ, zero, suc, ◌+◌, ◌<◌, ◌≤◌, List, [], ◌∷◌, ◌++◌, length, set, drop, get_or, slice_get, Option, Some, None, inl, inr, refl, sym, ap, ◌∙◌, subst, arith, length-set}
use Rattle.std.specs.Prelude.{Contains}
use Rattle.std.proofs.lemmas.Bool.Decides.{eqb_tells}
use Rattle.std.proofs.lemmas.List.Elements.{Contains-push, Contains-append_left, Contains-push_cases}
use Rattle.std.proofs.lemmas.Option.{slice_get_within}
use Rattle.std.proofs.lemmas.List.{at_drop_more}
use Rattle.own_tree.specs.declared.place.Ty.{Ty}
use Rattle.own_tree.specs.declared.place.Ty.TheVariants as type
use Rattle.own_shapes.specs.declared.info.CaseInfo.{CaseInfo}
use Rattle.own_shapes.specs.declared.info.TypeInfo.{TypeInfo}
use Rattle.own_table.specs.declared.mark.Mark.{Mark}
use Rattle.own_table.specs.declared.mark.Mark.TheVariants as mark
use Rattle.own_table.specs.Order.{HasPart, ComeAfterParts, IsContainmentOrder, unless_settled, unsettled, first_of, first_unsettled, LeadsTo, IsPath, IsSettling, one_new, count_new}
use Rattle.own_shapes.specs.Types.{all_case_types, contained, ContainsIn, NoneContainsItself}
use Rattle.own_shapes.proofs.Lists.{In, in_contains, set_same, set_other, get_front, get_push_cases, contains_get}
use Rattle.own_table.proofs.Whole.{got}

-- ---- the first part that is not settled

pub first_unsettled-append : (marks : List Mark) (xs ys : List Ty) → first_unsettled marks (xs ++ ys) ≡ first_of (first_unsettled marks xs) (first_unsettled marks ys)
first_unsettled-append marks [] ys = refl
first_unsettled-append marks (x ∷ xs) ys = at_first (unsettled marks x) (first_unsettled-append marks xs ys)
  where
    at_first : (o : Option ℕ) → first_unsettled marks (xs ++ ys) ≡ first_of (first_unsettled marks xs) (first_unsettled marks ys)
        → first_of o (first_unsettled marks (xs ++ ys)) ≡ first_of (first_of o (first_unsettled marks xs)) (first_unsettled marks ys)
    at_first None e = e
    at_first (Some k) e = refl

-- the same in a list of cases, at one of them
pub first_in_cases : (marks : List Mark) (cs : List CaseInfo) (i : ℕ) (c : CaseInfo) → i < length cs → c ≡ get_or cs i c
    → first_unsettled marks (all_case_types (drop i cs)) ≡ first_of (first_unsettled marks c.payloads) (first_unsettled marks (all_case_types (drop (i + 1) cs)))
first_in_cases marks cs i c lt is =
    at_drop_more (λ left. first_unsettled marks (all_case_types left)) cs i c lt
    ∙ ap (λ x. first_unsettled marks (x.payloads ++ all_case_types (drop (i + 1) cs))) (sym is)
    ∙ first_unsettled-append marks c.payloads (all_case_types (drop (i + 1) cs))

none_first : (o p : Option ℕ) → first_of o p ≡ None → (o ≡ None) × (p ≡ None)
none_first None p e = (refl, e)
none_first (Some k) p e = absurd cc

settled_by : (k : ℕ) (o : Option Mark) → unless_settled k o ≡ None → o ≡ Some mark.Settled
settled_by k None e = absurd cc
settled_by k (Some mark.New) e = absurd cc
settled_by k (Some mark.Open) e = absurd cc
settled_by k (Some mark.Settled) e = refl

unsettled_by : (k j : ℕ) (o : Option Mark) → unless_settled k o ≡ Some j → (k ≡ j) × (o ≡ Some mark.Settled → ⊥)
unsettled_by k j None e = (cc, λ h. cc)
unsettled_by k j (Some mark.New) e = (cc, λ h. cc)
unsettled_by k j (Some mark.Open) e = (cc, λ h. cc)
unsettled_by k j (Some mark.Settled) e = absurd cc

pub all_settled : (marks : List Mark) (tys : List Ty) (j : ℕ) → first_unsettled marks tys ≡ None → In tys (type.Named j) → slice_get marks j ≡ Some mark.Settled
all_settled marks [] j e i = absurd i
all_settled marks (ty ∷ tys) j e (inl same) = settled_by j (slice_get marks j) (subst (λ x. unsettled marks x ≡ None) same (none_first (unsettled marks ty) (first_unsettled marks tys) e).0)
all_settled marks (ty ∷ tys) j e (inr h) = all_settled marks tys j (none_first (unsettled marks ty) (first_unsettled marks tys) e).1 h

pub one_unsettled : (marks : List Mark) (tys : List Ty) (j : ℕ) → first_unsettled marks tys ≡ Some j → In tys (type.Named j) × (slice_get marks j ≡ Some mark.Settled → ⊥)
one_unsettled marks [] j e = absurd cc
one_unsettled marks (ty ∷ tys) j e = at_first ty (unsettled marks ty) refl e (one_unsettled marks tys j)
  where
    is_it : (x : Ty) → unsettled marks x ≡ Some j → (x ≡ type.Named j) × (slice_get marks j ≡ Some mark.Settled → ⊥)
    is_it type.Int h = absurd cc
    is_it type.Bool h = absurd cc
    is_it type.Unit h = absurd cc
    is_it (type.Fun k) h = absurd cc
    is_it (type.Named k) h = let by = unsettled_by k j (slice_get marks k) h in (ap (λ n. type.Named n) by.0, subst (λ n. slice_get marks n ≡ Some mark.Settled → ⊥) by.0 by.1)

    at_first : (x : Ty) (o : Option ℕ) → unsettled marks x ≡ o → first_of o (first_unsettled marks tys) ≡ Some j
        → (first_unsettled marks tys ≡ Some j → In tys (type.Named j) × (slice_get marks j ≡ Some mark.Settled → ⊥)) → In (x ∷ tys) (type.Named j) × (slice_get marks j ≡ Some mark.Settled → ⊥)
    at_first x None h f later = (inr (later f).0, (later f).1)
    at_first x (Some k) h f later = let it = is_it x (h ∙ f) in (inl it.0, it.1)

-- ---- paths

abbrev Earlier : List ℕ → ℕ → ℕ → Type 0
Earlier order i j = (k : ℕ) × (k < i) × (slice_get order k ≡ Some j)

module _ (ts : List TypeInfo) where
  same_type : (k : ℕ) (t u : TypeInfo) → slice_get ts k ≡ Some t → slice_get ts k ≡ Some u → t ≡ u
  same_type k t u a b = let h : Some t ≡ Some u = sym a ∙ b in cc

  pub path_front : (ks : List ℕ) (top : ℕ) → IsPath ts (ks ++ top ∷ []) → IsPath ts ks
  path_front [] top path = tt
  path_front (k ∷ []) top path = (tt, tt)
  path_front (k ∷ j ∷ js) top path = (path.0, path_front (j ∷ js) top path.1)

  pub path_longer : (ks : List ℕ) (top j : ℕ) → IsPath ts (ks ++ top ∷ []) → HasPart ts top j → IsPath ts ((ks ++ top ∷ []) ++ j ∷ [])
  path_longer [] top j path part = (part, (tt, tt))
  path_longer (k ∷ []) top j path part = (path.0, path_longer [] top j path.1 part)
  path_longer (k ∷ i ∷ is) top j path part = (path.0, path_longer (i ∷ is) top j path.1 part)

  next_on : (k : ℕ) (ks : List ℕ) (top : ℕ) → LeadsTo ts k (ks ++ top ∷ []) → (j : ℕ) × HasPart ts k j × In (ks ++ top ∷ []) j
  next_on k [] top part = (top, part, inl refl)
  next_on k (j ∷ js) top part = (j, part, inl refl)

  reaches : (ks : List ℕ) (top j : ℕ) → IsPath ts (ks ++ top ∷ []) → In (ks ++ top ∷ []) j → (steps : ℕ) × ContainsIn ts steps j top
  reaches [] top j path (inl e) = (zero, sym e)
  reaches [] top j path (inr h) = absurd h
  reaches (k ∷ ks) top j path (inr h) = reaches ks top j path.1 h
  reaches (k ∷ ks) top j path (inl e) =
      let next = next_on k ks top path.0 in
      let onward = reaches ks top next.0 path.1 next.2 in
      subst (λ x. (steps : ℕ) × ContainsIn ts steps x top) e (suc onward.0, (next.1.0, next.0, next.1.1, next.1.2, onward.1))

  further : (steps j k i : ℕ) → ContainsIn ts steps j k → HasPart ts k i → ContainsIn ts (suc steps) j i
  further zero j k i h part = (part.0, i, subst (λ x. slice_get ts x ≡ Some part.0) (sym h) part.1, part.2, refl)
  further (suc steps) j k i h part = (h.0, h.1, h.2, h.3, further steps h.1 k i h.4 part)

  pub circle : (ks : List ℕ) (top j : ℕ) → IsPath ts (ks ++ top ∷ []) → Contains (ks ++ top ∷ []) j → HasPart ts top j → (steps : ℕ) × ContainsIn ts (suc steps) j j
  circle ks top j path on part = let way = reaches ks top j path (in_contains (ks ++ top ∷ []) j on) in (way.0, further way.0 j top j way.1 part)

  -- ---- the steps

  pub opened : (marks : List Mark) (path order : List ℕ) (k : ℕ) → IsSettling ts marks path order → k < length ts → IsPath ts (path ++ k ∷ [])
      → IsSettling ts (set marks k mark.Open) (path ++ k ∷ []) order
  opened marks path order k s lt connected = record {
    marked = length-set marks k mark.Open ∙ s.marked;
    path_declared = λ j c. elim (Contains-push_cases path k j c) [ inl h ↦ s.path_declared j h | inr e ↦ subst (λ x. x < length ts) e lt ];
    connected = connected;
    open_on_path = λ j e. elim (eqb_tells j k) [
      | inl same ↦ subst (Contains (path ++ k ∷ [])) (sym same.1) (Contains-push path k)
      | inr other ↦ Contains-append_left path (k ∷ []) j (s.open_on_path j (sym (set_other marks k j mark.Open other.1) ∙ e))
    ];
    settled_in_order = λ j e. elim (eqb_tells j k) [
      | inl same ↦ absurd (not_open j same.1 e)
      | inr other ↦ s.settled_in_order j (sym (set_other marks k j mark.Open other.1) ∙ e)
    ];
    after_parts = s.after_parts;
  }
    where
      not_open : (j : ℕ) → j ≡ k → slice_get (set marks k mark.Open) j ≡ Some mark.Settled → ⊥
      not_open j same e =
          let is : slice_get (set marks k mark.Open) k ≡ Some mark.Open = set_same marks k mark.Open (subst (λ n. k < n) (sym s.marked) lt) in
          let was : slice_get (set marks k mark.Open) k ≡ Some mark.Settled = subst (λ x. slice_get (set marks k mark.Open) x ≡ Some mark.Settled) same e in
          let both : Some mark.Open ≡ Some mark.Settled = sym is ∙ was in cc

  pub settled : (marks : List Mark) (front order : List ℕ) (top : ℕ) (t : TypeInfo) → IsSettling ts marks (front ++ top ∷ []) order → slice_get ts top ≡ Some t
      → first_unsettled marks (contained t) ≡ None → IsSettling ts (set marks top mark.Settled) front (order ++ top ∷ [])
  settled marks front order top t s at none = record {
    marked = length-set marks top mark.Settled ∙ s.marked;
    path_declared = λ j c. s.path_declared j (Contains-append_left front (top ∷ []) j c);
    connected = path_front front top s.connected;
    open_on_path = λ j e. elim (eqb_tells j top) [
      | inl same ↦ absurd (not_settled j same.1 e)
      | inr other ↦ elim (Contains-push_cases front top j (s.open_on_path j (sym (set_other marks top j mark.Settled other.1) ∙ e))) [
        | inl h ↦ h
        | inr same ↦ absurd (other.1 (sym same))
      ]
    ];
    settled_in_order = λ j e. elim (eqb_tells j top) [
      | inl same ↦ subst (Contains (order ++ top ∷ [])) (sym same.1) (Contains-push order top)
      | inr other ↦ Contains-append_left order (top ∷ []) j (s.settled_in_order j (sym (set_other marks top j mark.Settled other.1) ∙ e))
    ];
    after_parts = record { declared = declared; parts_before = parts_before };
  }
    where
      within : top < length marks
      within = subst (λ n. top < n) (sym s.marked) (slice_get_within ts top t at)

      not_settled : (j : ℕ) → j ≡ top → slice_get (set marks top mark.Settled) j ≡ Some mark.Open → ⊥
      not_settled j same e =
          let is : slice_get (set marks top mark.Settled) top ≡ Some mark.Settled = set_same marks top mark.Settled within in
          let was : slice_get (set marks top mark.Settled) top ≡ Some mark.Open = subst (λ x. slice_get (set marks top mark.Settled) x ≡ Some mark.Open) same e in
          let both : Some mark.Settled ≡ Some mark.Open = sym is ∙ was in cc

      declared : (i k : ℕ) → slice_get (order ++ top ∷ []) i ≡ Some k → k < length ts
      declared i k e = elim (get_push_cases order top i k e) [
        | inl h ↦ s.after_parts.declared i k h
        | inr h ↦ subst (λ x. x < length ts) h.1 (slice_get_within ts top t at)
      ]

      part_settled : (j : ℕ) → HasPart ts top j → Earlier (order ++ top ∷ []) (length order) j
      part_settled j part =
          let c : Contains (contained t) (type.Named j) = subst (λ x. Contains (contained x) (type.Named j)) (same_type top part.0 t part.1 at) part.2 in
          let is = all_settled marks (contained t) j none (in_contains (contained t) (type.Named j) c) in
          let place = contains_get order j (s.settled_in_order j is) in
          (place.0, place.1, get_front order (top ∷ []) place.0 j place.2)

      parts_before : (i k j : ℕ) → slice_get (order ++ top ∷ []) i ≡ Some k → HasPart ts k j → Earlier (order ++ top ∷ []) i j
      parts_before i k j e part = elim (get_push_cases order top i k e) [
        | inl h ↦ let before = s.after_parts.parts_before i k j h part in (before.0, before.1, get_front order (top ∷ []) before.0 j before.2)
        | inr h ↦ subst (λ x. Earlier (order ++ top ∷ []) x j) (sym h.0) (part_settled j (subst (λ x. HasPart ts x j) (sym h.1) part))
      ]

  -- ---- the end

  pub at_end : (marks : List Mark) (order : List ℕ) → IsSettling ts marks [] order → ((k : ℕ) → k < length ts → slice_get marks k ≡ Some mark.New → ⊥) → IsContainmentOrder ts order
  at_end marks order s none = record {
    after_parts = s.after_parts;
    every = λ k lt. let there = got marks k (subst (λ n. k < n) (sym s.marked) lt) in by_mark k lt there.0 there.1;
  }
    where
      by_mark : (k : ℕ) → k < length ts → (m : Mark) → slice_get marks k ≡ Some m → Contains order k
      by_mark k lt mark.New e = absurd (none k lt e)
      by_mark k lt mark.Open e = absurd (in_contains [] k (s.open_on_path k e))
      by_mark k lt mark.Settled e = s.settled_in_order k e

  -- ---- no type contains itself

  before : (order : List ℕ) → ComeAfterParts ts order → (steps j k i : ℕ) → slice_get order i ≡ Some j → ContainsIn ts (suc steps) j k → (at : ℕ) × (at < i) × (slice_get order at ≡ Some k)
  before order after zero j k i e way = after.parts_before i j k e (way.0, way.2, subst (λ x. Contains (contained way.0) (type.Named x)) way.4 way.3)
  before order after (suc steps) j k i e way =
      let first = after.parts_before i j way.1 e (way.0, way.2, way.3) in
      let last = before order after steps way.1 k first.0 first.2 way.4 in
      (last.0, omega (arith, last.1, first.1), last.2)

  never : (order : List ℕ) → ComeAfterParts ts order → (steps k bound i : ℕ) → i < bound → slice_get order i ≡ Some k → ContainsIn ts (suc steps) k k → ⊥
  never order after steps k zero i lt e way = omega (arith, lt)
  never order after steps k (suc bound) i lt e way =
      let earlier = before order after steps k k i e way in never order after steps k bound earlier.0 (omega (arith, lt, earlier.1)) earlier.2 way

  pub order_apart : (order : List ℕ) → IsContainmentOrder ts order → NoneContainsItself ts
  order_apart order is steps k way =
      let place = contains_get order k (is.every k (slice_get_within ts k way.0 way.2)) in
      never order is.after_parts steps k (suc place.0) place.0 (omega arith) place.2 way

-- ---- what is left to do

pub count_new-open : (marks : List Mark) (k : ℕ) → slice_get marks k ≡ Some mark.New → suc (count_new (set marks k mark.Open)) ≡ count_new marks
count_new-open [] k e = absurd cc
count_new-open (m ∷ ms) zero e = let is : m ≡ mark.New = cc in subst (λ x. suc (0 + count_new ms) ≡ one_new x + count_new ms) (sym is) (omega arith)
count_new-open (m ∷ ms) (suc k) e = omega (arith, count_new-open ms k e)

pub count_new-settle : (marks : List Mark) (k : ℕ) → count_new (set marks k mark.Settled) ≤ count_new marks
count_new-settle [] k = omega arith
count_new-settle (m ∷ ms) zero = omega arith
count_new-settle (m ∷ ms) (suc k) = omega (arith, count_new-settle ms k)
