-- The shape of a declared type is that of its declaration, by the shapes of what it contains, where no type contains
-- itself: the unfolding goes as deep as there are types.
use Rattle.std.proofs.Common.{◌≡◌, ℕ, zero, suc, ◌+◌, ◌<◌, ◌≤◌, ◌⊎◌, Bool, true, false, ◌||◌, List, [], ◌∷◌, length, slice_get, Option, Some, None, inl, inr, refl, sym, ap, ◌∙◌, subst, arith}
use Rattle.std.specs.Prelude.{Contains, if◌then◌else◌, eqb}
use Rattle.std.specs.List.{IsDistinct, list_any, AllByRecursion}
use Rattle.std.proofs.lemmas.Bool.Decides.{eqb_tells}
use Rattle.std.proofs.lemmas.Map.Keys.{IsDistinct-cons}
use Rattle.std.proofs.lemmas.Map.Steps.{length-le_from_distinct_below}
use Rattle.std.proofs.lemmas.Option.{slice_get_within}
use Rattle.own_tree.specs.declared.place.Ty.{Ty}
use Rattle.own_tree.specs.declared.place.Ty.TheVariants as type
use Rattle.own_shapes.specs.declared.info.CaseInfo.{CaseInfo}
use Rattle.own_shapes.specs.declared.info.TypeInfo.{TypeInfo}
use Rattle.own_shapes.specs.Laws.{ShapesUnfold}
use Rattle.own_shapes.specs.Types.{Shape, shape, payloads, struct, enum, shapes_of, payloads_of, field_types, case_types, all_case_types, contained, head_of, declared_shape, shape_of_declared, unfolded, ContainsIn, NoneContainsItself}
use Rattle.own_shapes.proofs.Lists.{In, in_front, in_back, contains_in}

-- ---- the unfolding of a type ends within so many levels

abbrev EachIn : (Ty → Type 0) → List Ty → Type 0
EachIn P tys = (ty : Ty) → In tys ty → P ty

abbrev EndsAt : (Ty → Type 0) → Option TypeInfo → Type 0
EndsAt P None = Unit {0}
EndsAt P (Some d) = EachIn P (contained d)

abbrev Ends : List TypeInfo → ℕ → Ty → Type 0
Ends ds zero ty = ⊥
Ends ds (suc n) type.Int = Unit {0}
Ends ds (suc n) type.Bool = Unit {0}
Ends ds (suc n) type.Unit = Unit {0}
Ends ds (suc n) (type.Fun k) = Unit {0}
Ends ds (suc n) (type.Named k) = EndsAt (Ends ds n) (slice_get ds k)

-- ---- more levels make no difference then

module _ (f g : Ty → Shape) where
  abbrev Same : Ty → Type 0
  Same ty = f ty ≡ g ty

  shapes_same : (tys : List Ty) → EachIn Same tys → shapes_of f tys ≡ shapes_of g tys
  shapes_same [] all = refl
  shapes_same (ty ∷ tys) all = ap (λ s. shape s (shapes_of f tys)) (all ty (inl refl)) ∙ ap (shape (g ty)) (shapes_same tys (λ t i. all t (inr i)))

  payloads_same : (cs : List CaseInfo) → EachIn Same (all_case_types cs) → payloads_of f (case_types cs) ≡ payloads_of g (case_types cs)
  payloads_same [] all = refl
  payloads_same (c ∷ cs) all =
      ap (λ s. payloads s (payloads_of f (case_types cs))) (shapes_same c.payloads (λ t i. all t (in_front c.payloads (all_case_types cs) t i)))
      ∙ ap (payloads (shapes_of g c.payloads)) (payloads_same cs (λ t i. all t (in_back c.payloads (all_case_types cs) t i)))

  declared_same : (k : ℕ) (d : TypeInfo) → EachIn Same (contained d) → declared_shape f k d ≡ declared_shape g k d
  declared_same k d all = by_kind d.is_enum refl
    where
      by_kind : (b : Bool) → d.is_enum ≡ b → declared_shape f k d ≡ declared_shape g k d
      by_kind true e =
          ap (λ b. if b then enum (head_of k d) (payloads_of f (case_types d.cases)) else struct (head_of k d) (shapes_of f (field_types d.fields))) e
          ∙ ap (enum (head_of k d)) (payloads_same d.cases (subst (λ b. EachIn Same (if b then all_case_types d.cases else field_types d.fields)) e all))
          ∙ sym (ap (λ b. if b then enum (head_of k d) (payloads_of g (case_types d.cases)) else struct (head_of k d) (shapes_of g (field_types d.fields))) e)
      by_kind false e =
          ap (λ b. if b then enum (head_of k d) (payloads_of f (case_types d.cases)) else struct (head_of k d) (shapes_of f (field_types d.fields))) e
          ∙ ap (struct (head_of k d)) (shapes_same (field_types d.fields) (subst (λ b. EachIn Same (if b then all_case_types d.cases else field_types d.fields)) e all))
          ∙ sym (ap (λ b. if b then enum (head_of k d) (payloads_of g (case_types d.cases)) else struct (head_of k d) (shapes_of g (field_types d.fields))) e)

module _ (ds : List TypeInfo) where
  stable : (m n : ℕ) → m ≤ n → (ty : Ty) → Ends ds m ty → unfolded ds m ty ≡ unfolded ds n ty
  stable zero n le ty e = absurd e
  stable (suc m) zero le ty e = absurd (omega (arith, le))
  stable (suc m) (suc n) le type.Int e = refl
  stable (suc m) (suc n) le type.Bool e = refl
  stable (suc m) (suc n) le type.Unit e = refl
  stable (suc m) (suc n) le (type.Fun k) e = refl
  stable (suc m) (suc n) le (type.Named k) e = at_declared (slice_get ds k) (stable m n (omega (arith, le))) e
    where
      at_declared : (o : Option TypeInfo) → ((ty : Ty) → Ends ds m ty → unfolded ds m ty ≡ unfolded ds n ty) → EndsAt (Ends ds m) o
          → shape_of_declared (unfolded ds m) k o ≡ shape_of_declared (unfolded ds n) k o
      at_declared None same h = refl
      at_declared (Some d) same h = declared_same (unfolded ds m) (unfolded ds n) k d (λ ty i. same ty (h ty i))

-- ---- a way down through different types

In_or_not : ℕ → List ℕ → Type 0
In_or_not j ks = In ks j ⊎ (In ks j → ⊥)

is_in : (j : ℕ) (ks : List ℕ) → In_or_not j ks
unfolding In_or_not
is_in j [] = inr (λ h. h)
is_in j (k ∷ ks) = elim (eqb_tells k j) [
  | inl same ↦ inl (inl same.1)
  | inr other ↦ elim (is_in j ks) [
    | inl later ↦ inl (inr later)
    | inr none ↦ inr (either_none other.1 none)
  ]
]
  where
    either_none : ((k ≡ j) → ⊥) → (In ks j → ⊥) → In (k ∷ ks) j → ⊥
    either_none a b (inl e) = a e
    either_none a b (inr h) = b h

apart_from : (j : ℕ) (ks : List ℕ) → (In ks j → ⊥) → AllByRecursion (λ k. eqb j k ≡ false) ks
apart_from j [] none = tt
apart_from j (k ∷ ks) none = (elim (eqb_tells j k) [ inl same ↦ absurd (none (inl (sym same.1))) | inr other ↦ other.0 ], apart_from j ks (λ h. none (inr h)))

abbrev IsFalse : Bool → Type 0
IsFalse false = Unit {0}
IsFalse true = ⊥

found_in : (j : ℕ) (ks : List ℕ) → list_any (eqb j) ks ≡ true → In ks j
found_in j [] e = absurd (subst IsFalse e tt)
found_in j (k ∷ ks) e = elim (eqb_tells j k) [
  | inl same ↦ inl (sym same.1)
  | inr other ↦ inr (found_in j ks (subst (λ b. (b || list_any (eqb j) ks) ≡ true) other.0 e))
]

module _ (ds : List TypeInfo) (none : NoneContainsItself ds) where
  -- types of the text, no two alike, of which each contains the first
  record Way (k : ℕ) (rest : List ℕ) : Type 0 where
    distinct : IsDistinct eqb (k ∷ rest)
    declared : (j : ℕ) → In (k ∷ rest) j → j < length ds
    leads : (j : ℕ) → In (k ∷ rest) j → (steps : ℕ) × ContainsIn ds steps j k

  way_length : (k : ℕ) (rest : List ℕ) → Way k rest → length (k ∷ rest) ≤ length ds
  way_length k rest way = length-le_from_distinct_below (k ∷ rest) (length ds) way.distinct (λ q e. way.declared q (found_in q (k ∷ rest) e))

  one_more : (steps j k i : ℕ) (d : TypeInfo) → ContainsIn ds steps j k → slice_get ds k ≡ Some d → Contains (contained d) (type.Named i) → ContainsIn ds (suc steps) j i
  one_more zero j k i d h e c = (d, i, subst (λ x. slice_get ds x ≡ Some d) (sym h) e, c, refl)
  one_more (suc steps) j k i d h e c = (h.0, h.1, h.2, h.3, one_more steps h.1 k i d h.4 e c)

  longer : (k i : ℕ) (rest : List ℕ) (d e : TypeInfo) → Way k rest → slice_get ds k ≡ Some d → In (contained d) (type.Named i) → slice_get ds i ≡ Some e → Way i (k ∷ rest)
  longer k i rest d e way at part is = record {
    distinct = IsDistinct-cons eqb i (k ∷ rest) (apart_from i (k ∷ rest) (λ h. none (way.leads i h).0 i (one_more (way.leads i h).0 i k i d (way.leads i h).1 at (contains_in _ _ part)))) way.distinct;
    declared = declared;
    leads = leads;
  }
    where
      declared : (j : ℕ) → In (i ∷ k ∷ rest) j → j < length ds
      declared j (inl same) = subst (λ x. x < length ds) same (slice_get_within ds i e is)
      declared j (inr h) = way.declared j h

      leads : (j : ℕ) → In (i ∷ k ∷ rest) j → (steps : ℕ) × ContainsIn ds steps j i
      leads j (inl same) = (zero, sym same)
      leads j (inr h) = (suc (way.leads j h).0, one_more (way.leads j h).0 j k i d (way.leads j h).1 at (contains_in _ _ part))

  ends : (n k : ℕ) (rest : List ℕ) → Way k rest → suc (suc (length ds)) ≤ n + length (k ∷ rest) → Ends ds n (type.Named k)
  ends zero k rest way room = absurd (omega (arith, room, way_length k rest way))
  ends (suc n) k rest way room = at_declared (slice_get ds k) refl (ends n)
    where
      part_ends : (m : ℕ) (d : TypeInfo) → slice_get ds k ≡ Some d → suc (suc (length ds)) ≤ suc m + length (k ∷ rest)
          → ((i : ℕ) (r : List ℕ) → Way i r → suc (suc (length ds)) ≤ m + length (i ∷ r) → Ends ds m (type.Named i)) → (ty : Ty) → In (contained d) ty → Ends ds m ty
      part_ends zero d e room' deeper ty i = absurd (omega (arith, room', way_length k rest way))
      part_ends (suc m) d e room' deeper type.Int i = tt
      part_ends (suc m) d e room' deeper type.Bool i = tt
      part_ends (suc m) d e room' deeper type.Unit i = tt
      part_ends (suc m) d e room' deeper (type.Fun x) i = tt
      part_ends (suc m) d e room' deeper (type.Named x) i = by_declared (slice_get ds x) refl
        where
          by_declared : (o : Option TypeInfo) → slice_get ds x ≡ o → Ends ds (suc m) (type.Named x)
          by_declared None f = subst (EndsAt (Ends ds m)) (sym f) tt
          by_declared (Some c) f = deeper x (k ∷ rest) (longer k x rest d c way e i f) (omega (arith, room'))

      at_declared : (o : Option TypeInfo) → slice_get ds k ≡ o
          → ((i : ℕ) (r : List ℕ) → Way i r → suc (suc (length ds)) ≤ n + length (i ∷ r) → Ends ds n (type.Named i)) → Ends ds (suc n) (type.Named k)
      at_declared None e deeper = subst (EndsAt (Ends ds n)) (sym e) tt
      at_declared (Some d) e deeper = subst (EndsAt (Ends ds n)) (sym e) (part_ends n d e room deeper)

  declared_ends : (k : ℕ) (d : TypeInfo) → slice_get ds k ≡ Some d → Ends ds (suc (length ds)) (type.Named k)
  unfolding IsDistinct
  declared_ends k d e = ends (suc (length ds)) k [] (record { distinct = IsDistinct-cons eqb k [] tt tt; declared = declared; leads = leads }) (omega arith)
    where
      declared : (j : ℕ) → In (k ∷ []) j → j < length ds
      declared j (inl same) = subst (λ x. x < length ds) same (slice_get_within ds k d e)
      declared j (inr h) = absurd h

      leads : (j : ℕ) → In (k ∷ []) j → (steps : ℕ) × ContainsIn ds steps j k
      leads j (inl same) = (zero, sym same)
      leads j (inr h) = absurd h

pub shapes_unfold : ShapesUnfold
shapes_unfold ds none k d e =
    ap (shape_of_declared (unfolded ds (length ds)) k) e
    ∙ declared_same (unfolded ds (length ds)) (unfolded ds (suc (length ds))) k d (λ ty i. stable ds (length ds) (suc (length ds)) (omega arith) ty (parts_end ty i))
  where
    parts_end : EachIn (Ends ds (length ds)) (contained d)
    parts_end = subst (EndsAt (Ends ds (length ds))) e (declared_ends ds none k d e)
