-- The slots of types by what is known of their parts.
use Rattle.std.proofs.Common.{◌≡◌, ℕ, zero, suc, ◌+◌, ◌<◌, ◌≤◌, max, ◌⊎◌, Bool, true, false, ◌||◌, ◌&&◌, List, [], ◌∷◌, ◌++◌, length, set, drop, get_or, slice_get, Option, Some, None, inl, inr, refl, sym, ap, ◌∙◌, subst, arith, lit≤}
use Rattle.std.specs.Prelude.{All, nat_le, nat_lt, if◌then◌else◌}
use Rattle.std.proofs.lemmas.Bool.{leb-false, lt-leb, le-leb, leb-true, ltb-false, ltb-true}
use Rattle.std.proofs.lemmas.Bool.Decides.{eqb_tells}
use Rattle.std.proofs.lemmas.List.{at_drop_more}
use Rattle.std.proofs.lemmas.List.Elements.{All-set}
use Rattle.std.proofs.lemmas.Option.{slice_get_read, slice_get_within}
use Rattle.own_tree.specs.declared.limits.TheConstants.{MOST_TYPE_SLOTS}
use Rattle.own_tree.specs.declared.place.Ty.{Ty}
use Rattle.own_tree.specs.declared.place.Ty.TheVariants as type
use Rattle.own_shapes.specs.declared.info.CaseInfo.{CaseInfo}
use Rattle.own_shapes.specs.declared.info.FieldInfo.{FieldInfo}
use Rattle.own_shapes.specs.declared.info.TypeInfo.{TypeInfo}
use Rattle.own_table.specs.Extents.{within_M8, AreKnown, IsSmall, known_at, part_slots, plus, larger, sum_of_parts, most_of_cases, slots_by_parts, kept_within, beyond_M8, over_at, counted_at, first_over_from, first_over_M8}
use Rattle.own_shapes.specs.Types.{is_empty, Types, struct, enum, is_none, slots, all_slots, most_slots, one_if, shapes_of, payloads_of, field_types, case_types, all_case_types, contained, head_of, declared_shape, is_part, types_resolved, NoneContainsItself, PartsAreTypes}
use Rattle.own_survey.specs.Limits.{are_within}
use Rattle.own_table.specs.Order.{IsContainmentOrder}
use Rattle.own_shapes.proofs.Lists.{set_same, set_other, contains_get, In, in_front, in_back, contains_in}
use Rattle.own_table.proofs.Settled.{order_apart}
use Rattle.own_shapes.proofs.Unfolding.{shapes_unfold}
use Rattle.own_table.proofs.Whole.{got, all_in}

abbrev only_if : {A : Type 0} → Bool → A → Option A
only_if b x = if b then Some x else None

-- ---- what is known of the parts gives the slots of a type

module _ (types : Types) (known : List (Option ℕ)) where
  abbrev Right : Ty → Type 0
  Right ty = part_slots known ty ≡ within_M8 (slots (types.shape ty))

  plus_only : (a b : Bool) (m n : ℕ) → plus (only_if a m) (only_if b n) ≡ only_if (a && b) (m + n)
  plus_only true true m n = refl
  plus_only true false m n = refl
  plus_only false b m n = refl

  larger_only : (a b : Bool) (m n : ℕ) → larger (only_if a m) (only_if b n) ≡ only_if (a && b) (max m n)
  larger_only true true m n = refl
  larger_only true false m n = refl
  larger_only false b m n = refl

  sum_right : (tys : List Ty) → ((ty : Ty) → In tys ty → Right ty) → sum_of_parts known tys ≡ only_if (are_within types MOST_TYPE_SLOTS tys) (all_slots (shapes_of types.shape tys))
  sum_right [] all = refl
  sum_right (ty ∷ tys) all =
      ap (λ o. plus o (sum_of_parts known tys)) (all ty (inl refl))
      ∙ ap (plus (within_M8 (slots (types.shape ty)))) (sum_right tys (λ t i. all t (inr i)))
      ∙ plus_only (nat_le (slots (types.shape ty)) MOST_TYPE_SLOTS) (are_within types MOST_TYPE_SLOTS tys) (slots (types.shape ty)) (all_slots (shapes_of types.shape tys))

  within-append : (xs ys : List Ty) → are_within types MOST_TYPE_SLOTS (xs ++ ys) ≡ are_within types MOST_TYPE_SLOTS xs && are_within types MOST_TYPE_SLOTS ys
  within-append [] ys = refl
  within-append (x ∷ xs) ys = by_first (nat_le (slots (types.shape x)) MOST_TYPE_SLOTS) (within-append xs ys)
    where
      by_first : (b : Bool) → are_within types MOST_TYPE_SLOTS (xs ++ ys) ≡ are_within types MOST_TYPE_SLOTS xs && are_within types MOST_TYPE_SLOTS ys
          → b && are_within types MOST_TYPE_SLOTS (xs ++ ys) ≡ (b && are_within types MOST_TYPE_SLOTS xs) && are_within types MOST_TYPE_SLOTS ys
      by_first true e = e
      by_first false e = refl

  most_right : (cs : List CaseInfo) → ((ty : Ty) → In (all_case_types cs) ty → Right ty)
      → most_of_cases known cs ≡ only_if (are_within types MOST_TYPE_SLOTS (all_case_types cs)) (most_slots (payloads_of types.shape (case_types cs)))
  most_right [] all = refl
  most_right (c ∷ cs) all =
      ap (λ o. larger o (most_of_cases known cs)) (sum_right c.payloads (λ t i. all t (in_front c.payloads (all_case_types cs) t i)))
      ∙ ap (larger (only_if (are_within types MOST_TYPE_SLOTS c.payloads) (all_slots (shapes_of types.shape c.payloads)))) (most_right cs (λ t i. all t (in_back c.payloads (all_case_types cs) t i)))
      ∙ larger_only (are_within types MOST_TYPE_SLOTS c.payloads) (are_within types MOST_TYPE_SLOTS (all_case_types cs)) (all_slots (shapes_of types.shape c.payloads)) (most_slots (payloads_of types.shape (case_types cs)))
      ∙ ap (λ b. only_if b (max (all_slots (shapes_of types.shape c.payloads)) (most_slots (payloads_of types.shape (case_types cs))))) (sym (within-append c.payloads (all_case_types cs)))

  plus_some : (b : Bool) (m n : ℕ) → plus (Some m) (only_if b n) ≡ only_if b (m + n)
  plus_some true m n = refl
  plus_some false m n = refl

  nil_none : (fs : List FieldInfo) → is_empty fs ≡ is_none (shapes_of types.shape (field_types fs))
  nil_none [] = refl
  nil_none (f ∷ fs) = refl

  slots_right : (k : ℕ) (t : TypeInfo) → ((ty : Ty) → In (contained t) ty → Right ty)
      → slots_by_parts known t ≡ only_if (are_within types MOST_TYPE_SLOTS (contained t)) (slots (declared_shape types.shape k t))
  slots_right k t all = by_kind t.is_enum refl
    where
      by_parts : Bool → Option ℕ
      by_parts b =
          if b then plus (Some 1) (most_of_cases known t.cases)
          else plus (Some (one_if (t.has_deinit || is_empty t.fields))) (sum_of_parts known (field_types t.fields))

      by_shape : Bool → Option ℕ
      by_shape b =
          only_if (are_within types MOST_TYPE_SLOTS (if b then all_case_types t.cases else field_types t.fields))
          (slots (if b then enum (head_of k t) (payloads_of types.shape (case_types t.cases)) else struct (head_of k t) (shapes_of types.shape (field_types t.fields))))

      parts : (b : Bool) → t.is_enum ≡ b → (ty : Ty) → In (if b then all_case_types t.cases else field_types t.fields) ty → Right ty
      parts b e ty i = all ty (subst (λ x. In (if x then all_case_types t.cases else field_types t.fields) ty) (sym e) i)

      by_kind : (b : Bool) → t.is_enum ≡ b → slots_by_parts known t ≡ only_if (are_within types MOST_TYPE_SLOTS (contained t)) (slots (declared_shape types.shape k t))
      by_kind true e =
          ap by_parts e
          ∙ ap (plus (Some 1)) (most_right t.cases (parts true e))
          ∙ plus_some (are_within types MOST_TYPE_SLOTS (all_case_types t.cases)) 1 (most_slots (payloads_of types.shape (case_types t.cases)))
          ∙ sym (ap by_shape e)
      by_kind false e =
          ap by_parts e
          ∙ ap (plus (Some (one_if (t.has_deinit || is_empty t.fields)))) (sum_right (field_types t.fields) (parts false e))
          ∙ plus_some (are_within types MOST_TYPE_SLOTS (field_types t.fields)) (one_if (t.has_deinit || is_empty t.fields)) (all_slots (shapes_of types.shape (field_types t.fields)))
          ∙ ap (λ b. only_if (are_within types MOST_TYPE_SLOTS (field_types t.fields)) (one_if (t.has_deinit || b) + all_slots (shapes_of types.shape (field_types t.fields)))) (nil_none t.fields)
          ∙ sym (ap by_shape e)

-- ---- a type with a part over the limit is over it

module _ (types : Types) where
  not_within : (tys : List Ty) → are_within types MOST_TYPE_SLOTS tys ≡ false → MOST_TYPE_SLOTS < all_slots (shapes_of types.shape tys)
  not_within [] e = absurd cc
  not_within (ty ∷ tys) e = by_first (nat_le (slots (types.shape ty)) MOST_TYPE_SLOTS) refl e (not_within tys)
    where
      by_first : (b : Bool) → nat_le (slots (types.shape ty)) MOST_TYPE_SLOTS ≡ b → b && are_within types MOST_TYPE_SLOTS tys ≡ false
          → (are_within types MOST_TYPE_SLOTS tys ≡ false → MOST_TYPE_SLOTS < all_slots (shapes_of types.shape tys))
          → MOST_TYPE_SLOTS < slots (types.shape ty) + all_slots (shapes_of types.shape tys)
      by_first true f g later = omega (arith, later g)
      by_first false f g later = let over = leb-false (slots (types.shape ty)) MOST_TYPE_SLOTS f in omega (arith, over)

  one_over : (a b : Bool) → a && b ≡ false → (a ≡ false) ⊎ (b ≡ false)
  one_over true b e = inr e
  one_over false b e = inl refl

  not_within_cases : (cs : List CaseInfo) → are_within types MOST_TYPE_SLOTS (all_case_types cs) ≡ false → MOST_TYPE_SLOTS < most_slots (payloads_of types.shape (case_types cs))
  not_within_cases [] e = absurd cc
  not_within_cases (c ∷ cs) e =
      elim (one_over (are_within types MOST_TYPE_SLOTS c.payloads) (are_within types MOST_TYPE_SLOTS (all_case_types cs)) (sym (within-append types [] c.payloads (all_case_types cs)) ∙ e)) [
        | inl first ↦ let h = not_within c.payloads first in omega (arith, h)
        | inr rest ↦ let h = not_within_cases cs rest in omega (arith, h)
      ]

  whole_over : (k : ℕ) (t : TypeInfo) → are_within types MOST_TYPE_SLOTS (contained t) ≡ false → MOST_TYPE_SLOTS < slots (declared_shape types.shape k t)
  whole_over k t e = by_kind t.is_enum refl
    where
      Over_by : Bool → Type 0
      Over_by b =
          MOST_TYPE_SLOTS < slots (if b then enum (head_of k t) (payloads_of types.shape (case_types t.cases)) else struct (head_of k t) (shapes_of types.shape (field_types t.fields)))

      by_kind : (b : Bool) → t.is_enum ≡ b → MOST_TYPE_SLOTS < slots (declared_shape types.shape k t)
      by_kind true f = subst Over_by (sym f) (omega (arith, not_within_cases t.cases (subst (λ b. are_within types MOST_TYPE_SLOTS (if b then all_case_types t.cases else field_types t.fields) ≡ false) f e)))
      by_kind false f = subst Over_by (sym f) (omega (arith, not_within (field_types t.fields) (subst (λ b. are_within types MOST_TYPE_SLOTS (if b then all_case_types t.cases else field_types t.fields) ≡ false) f e)))

  within_kept : (k : ℕ) (t : TypeInfo) → kept_within (only_if (are_within types MOST_TYPE_SLOTS (contained t)) (slots (declared_shape types.shape k t))) ≡ within_M8 (slots (declared_shape types.shape k t))
  within_kept k t = by_parts (are_within types MOST_TYPE_SLOTS (contained t)) refl
    where
      by_parts : (b : Bool) → are_within types MOST_TYPE_SLOTS (contained t) ≡ b → kept_within (only_if b (slots (declared_shape types.shape k t))) ≡ within_M8 (slots (declared_shape types.shape k t))
      by_parts true e = refl
      by_parts false e =
          let over = whole_over k t e in
          let is : nat_le (slots (declared_shape types.shape k t)) MOST_TYPE_SLOTS ≡ false = lt-leb (slots (declared_shape types.shape k t)) MOST_TYPE_SLOTS over in
          sym (ap (λ b. only_if b (slots (declared_shape types.shape k t))) is)

-- ---- what is known, type by type

kept_small : (o : Option ℕ) → IsSmall (kept_within o)
kept_small None = tt
kept_small (Some n) = by_size (nat_le n MOST_TYPE_SLOTS) refl
  where
    by_size : (b : Bool) → nat_le n MOST_TYPE_SLOTS ≡ b → IsSmall (only_if b n)
    by_size true e = leb-true n MOST_TYPE_SLOTS e
    by_size false e = tt

pub small_more : (known : List (Option ℕ)) (k : ℕ) (o : Option ℕ) → All IsSmall known → All IsSmall (set known k (kept_within o))
small_more known k o all = All-set IsSmall known k (kept_within o) (kept_small o) all

module _ (ts : List TypeInfo) where
  -- what is known of one type is right
  abbrev pub KnownAt : List (Option ℕ) → ℕ → Type 0
  KnownAt known k = slice_get known k ≡ Some (within_M8 (slots ((types_resolved ts).shape (type.Named k))))

  right_part : (known : List (Option ℕ)) (ty : Ty) → ((j : ℕ) → ty ≡ type.Named j → KnownAt known j) → Right (types_resolved ts) known ty
  right_part known type.Int at = refl
  right_part known type.Bool at = refl
  right_part known type.Unit at = refl
  right_part known (type.Fun k) at = refl
  right_part known (type.Named k) at = ap known_at (at k refl)

  right_parts : (known : List (Option ℕ)) (t : TypeInfo) → ((j : ℕ) → In (contained t) (type.Named j) → KnownAt known j) → (ty : Ty) → In (contained t) ty → Right (types_resolved ts) known ty
  right_parts known t at ty i = right_part known ty (λ j e. at j (subst (In (contained t)) e i))

  -- by its declaration
  by_declaration : NoneContainsItself ts → (k : ℕ) (t : TypeInfo) → slice_get ts k ≡ Some t → slots (declared_shape (types_resolved ts).shape k t) ≡ slots ((types_resolved ts).shape (type.Named k))
  by_declaration apart k t e = sym (ap slots (shapes_unfold ts apart k t e))

  pub known_more : (order : List ℕ) → IsContainmentOrder ts order → (known : List (Option ℕ)) (i k : ℕ) (t : TypeInfo) → slice_get order i ≡ Some k → slice_get ts k ≡ Some t → length known ≡ length ts
      → ((at j : ℕ) → at < i → slice_get order at ≡ Some j → KnownAt known j)
      → (at j : ℕ) → at < i + 1 → slice_get order at ≡ Some j → KnownAt (set known k (kept_within (slots_by_parts known t))) j
  known_more order is known i k t here e each before at j lt there = elim (eqb_tells j k) [
    | inl same ↦ subst (KnownAt (set known k (kept_within (slots_by_parts known t)))) (sym same.1) now
    | inr other ↦ set_other known k j (kept_within (slots_by_parts known t)) other.1 ∙ before at j (earlier other.1) there
  ]
    where
      parts : (m : ℕ) → In (contained t) (type.Named m) → KnownAt known m
      parts m i' =
          let first = is.after_parts.parts_before i k m here (t, e, contains_in (contained t) (type.Named m) i') in before first.0 m first.1 first.2

      is_right : kept_within (slots_by_parts known t) ≡ within_M8 (slots ((types_resolved ts).shape (type.Named k)))
      is_right =
          ap kept_within (slots_right (types_resolved ts) known k t (right_parts known t parts))
          ∙ within_kept (types_resolved ts) k t
          ∙ ap within_M8 (by_declaration (order_apart ts order is) k t e)

      now : KnownAt (set known k (kept_within (slots_by_parts known t))) k
      now = set_same known k (kept_within (slots_by_parts known t)) (subst (λ n. k < n) (sym each) (slice_get_within ts k t e)) ∙ ap (λ o. Some o) is_right

      earlier : (j ≡ k → ⊥) → at < i
      earlier ne = elim (eqb_tells at i) [
        | inl same ↦
            let both : Some j ≡ Some k = sym there ∙ ap (slice_get order) same.1 ∙ here in
            absurd (ne cc)
        | inr other ↦ let apart : at ≡ i → ⊥ = other.1 in omega (arith, lt)
      ]

  pub all_known : (order : List ℕ) → IsContainmentOrder ts order → (known : List (Option ℕ)) → length known ≡ length ts
      → ((at j : ℕ) → at < length order → slice_get order at ≡ Some j → KnownAt known j) → AreKnown ts known
  all_known order is known each at = record {
    each = each;
    known = λ k lt. let place = contains_get order k (is.every k lt) in at place.0 k place.1 place.2;
  }

  -- ---- the first type over M8

  pub counted_right : NoneContainsItself ts → PartsAreTypes ts → (known : List (Option ℕ)) → AreKnown ts known → (k : ℕ) (t : TypeInfo) → slice_get ts k ≡ Some t
      → slots_by_parts known t ≡ counted_at (types_resolved ts) k t
  counted_right apart closed known are k t e =
      slots_right (types_resolved ts) known k t (right_parts known t (λ j i. are.known j (ltb-true j (length ts) (all_in (is_part (length ts)) (contained t) (closed k t e) (type.Named j) i))))
      ∙ ap (only_if (are_within (types_resolved ts) MOST_TYPE_SLOTS (contained t))) (by_declaration apart k t e)

  pub over_step : (us : List TypeInfo) (i : ℕ) (t : TypeInfo) (o : Option ℕ) → i < length us → t ≡ get_or us i t → counted_at (types_resolved ts) i t ≡ o
      → first_over_from (types_resolved ts) i (drop i us) ≡ over_at i (beyond_M8 o) (first_over_from (types_resolved ts) (i + 1) (drop (i + 1) us))
  over_step us i t o lt is e =
      at_drop_more (first_over_from (types_resolved ts) i) us i t lt
      ∙ ap (λ x. over_at i (beyond_M8 (counted_at (types_resolved ts) i x)) (first_over_from (types_resolved ts) (suc i) (drop (i + 1) us))) (sym is)
      ∙ ap (λ x. over_at i (beyond_M8 x) (first_over_from (types_resolved ts) (suc i) (drop (i + 1) us))) e
      ∙ ap (λ x. over_at i (beyond_M8 o) (first_over_from (types_resolved ts) x (drop (i + 1) us))) (let next : suc i ≡ i + 1 = omega arith in next)

  pub first_here : NoneContainsItself ts → PartsAreTypes ts → (known : List (Option ℕ)) → AreKnown ts known → (i : ℕ) (t : TypeInfo) → i < length ts → t ≡ get_or ts i t
      → (o : Option ℕ) → beyond_M8 (slots_by_parts known t) ≡ o
      → first_over_from (types_resolved ts) i (drop i ts) ≡ over_at i o (first_over_from (types_resolved ts) (i + 1) (drop (i + 1) ts))
  first_here apart closed known are i t lt is o e =
      over_step ts i t (slots_by_parts known t) lt is (sym (counted_right apart closed known are i t (slice_get_read ts (length ts) i t refl lt is)))
      ∙ ap (λ x. over_at i x (first_over_from (types_resolved ts) (i + 1) (drop (i + 1) ts))) e

  none_at : (first : ℕ) (us : List TypeInfo) (i : ℕ) (t : TypeInfo) → first_over_from (types_resolved ts) first us ≡ None → slice_get us i ≡ Some t
      → (n : ℕ) → counted_at (types_resolved ts) (first + i) t ≡ Some n → n ≤ MOST_TYPE_SLOTS
  none_at first [] i t none e n is = absurd cc
  none_at first (u ∷ us) zero t none e n is = by_count (counted_at (types_resolved ts) first u) none (same ∙ is)
    where
      same : counted_at (types_resolved ts) first u ≡ counted_at (types_resolved ts) (first + zero) t
      same = let is_u : u ≡ t = cc in let here : first ≡ first + zero = omega arith in ap (counted_at (types_resolved ts) first) is_u ∙ ap (λ x. counted_at (types_resolved ts) x t) here

      by_count : (o : Option ℕ) → over_at first (beyond_M8 o) (first_over_from (types_resolved ts) (suc first) us) ≡ None → o ≡ Some n → n ≤ MOST_TYPE_SLOTS
      by_count None a b = absurd cc
      by_count (Some m) a b = by_size (nat_lt MOST_TYPE_SLOTS m) refl a
        where
          by_size : (l : Bool) → nat_lt MOST_TYPE_SLOTS m ≡ l → over_at first (only_if l m) (first_over_from (types_resolved ts) (suc first) us) ≡ None → n ≤ MOST_TYPE_SLOTS
          by_size true f g = absurd cc
          by_size false f g = let within = ltb-false MOST_TYPE_SLOTS m f in let is_m : m ≡ n = cc in omega (arith, within, is_m)
  none_at first (u ∷ us) (suc i) t none e n is = none_at (suc first) us i t (later (counted_at (types_resolved ts) first u) none) e n (ap (λ x. counted_at (types_resolved ts) x t) moved ∙ is)
    where
      moved : suc first + i ≡ first + suc i
      moved = omega arith

      later : (o : Option ℕ) → over_at first (beyond_M8 o) (first_over_from (types_resolved ts) (suc first) us) ≡ None → first_over_from (types_resolved ts) (suc first) us ≡ None
      later None a = a
      later (Some m) a = by_size (nat_lt MOST_TYPE_SLOTS m) a
        where
          by_size : (l : Bool) → over_at first (only_if l m) (first_over_from (types_resolved ts) (suc first) us) ≡ None → first_over_from (types_resolved ts) (suc first) us ≡ None
          by_size true g = absurd cc
          by_size false g = g

  are_all_within : (tys : List Ty) → ((ty : Ty) → In tys ty → slots ((types_resolved ts).shape ty) ≤ MOST_TYPE_SLOTS) → are_within (types_resolved ts) MOST_TYPE_SLOTS tys ≡ true
  are_all_within [] all = refl
  are_all_within (ty ∷ tys) all =
      ap (λ b. b && are_within (types_resolved ts) MOST_TYPE_SLOTS tys) (le-leb (slots ((types_resolved ts).shape ty)) MOST_TYPE_SLOTS (all ty (inl refl)))
      ∙ are_all_within tys (λ t i. all t (inr i))

  within_at : first_over_M8 ts ≡ None → (order : List ℕ) → IsContainmentOrder ts order → (bound at k : ℕ) → at < bound → slice_get order at ≡ Some k → slots ((types_resolved ts).shape (type.Named k)) ≤ MOST_TYPE_SLOTS
  within_at none order is zero at k lt here = absurd (omega (arith, lt))
  within_at none order is (suc bound) at k lt here = by_type (got ts k (is.after_parts.declared at k here)) (within_at none order is bound)
    where
      part : (t : TypeInfo) → slice_get ts k ≡ Some t → ((at' k' : ℕ) → at' < bound → slice_get order at' ≡ Some k' → slots ((types_resolved ts).shape (type.Named k')) ≤ MOST_TYPE_SLOTS)
          → (ty : Ty) → In (contained t) ty → slots ((types_resolved ts).shape ty) ≤ MOST_TYPE_SLOTS
      part t e deeper type.Int i = lit≤ tt
      part t e deeper type.Bool i = lit≤ tt
      part t e deeper type.Unit i = lit≤ tt
      part t e deeper (type.Fun j) i = lit≤ tt
      part t e deeper (type.Named j) i =
          let first = is.after_parts.parts_before at k j here (t, e, contains_in (contained t) (type.Named j) i) in deeper first.0 j (omega (arith, first.1, lt)) first.2

      by_type : (t : TypeInfo) × (slice_get ts k ≡ Some t) → ((at' k' : ℕ) → at' < bound → slice_get order at' ≡ Some k' → slots ((types_resolved ts).shape (type.Named k')) ≤ MOST_TYPE_SLOTS)
          → slots ((types_resolved ts).shape (type.Named k)) ≤ MOST_TYPE_SLOTS
      by_type it deeper =
          none_at 0 ts k it.0 none it.1 (slots ((types_resolved ts).shape (type.Named k)))
          (ap (λ x. counted_at (types_resolved ts) x it.0) (let z : 0 + k ≡ k = omega arith in z)
          ∙ ap (λ b. only_if b (slots ((types_resolved ts).shape (type.Named k)))) (are_all_within (contained it.0) (part it.0 it.1 deeper)))

  pub all_within : first_over_M8 ts ≡ None → (order : List ℕ) → IsContainmentOrder ts order → (k : ℕ) → k < length ts → slots ((types_resolved ts).shape (type.Named k)) ≤ MOST_TYPE_SLOTS
  all_within none order is k lt = let place = contains_get order k (is.every k lt) in within_at none order is (suc place.0) place.0 k (omega arith) place.2
