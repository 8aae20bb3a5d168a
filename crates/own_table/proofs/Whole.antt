-- What is so in each table: a declared type has the shape of its declaration, with parts that are types, and what is
-- copyable holds nothing tracked.
use Rattle.std.proofs.Common.{◌≡◌, ℕ, zero, suc, ◌<◌, ◌≤◌, Bool, true, false, ◌||◌, List, [], ◌∷◌, length, map, slice_get, Option, Some, None, inl, inr, refl, sym, ap, ◌∙◌, subst, arith}
use Rattle.std.specs.Prelude.{All, Contains, IsTrue, not, if◌then◌else◌}
use Rattle.std.specs.List.{list_all}
use Rattle.std.proofs.lemmas.Bool.{and_parts}
use Rattle.std.proofs.lemmas.List.Elements.{All-contains}
use Rattle.std.proofs.lemmas.List.Folds.{list_all-append}
use Rattle.std.proofs.lemmas.Option.{slice_get_cases}
use Rattle.own_tree.specs.declared.limits.TheConstants.{MOST_FIELDS, MOST_PARAMETERS}
use Rattle.own_tree.specs.declared.place.Ty.{Ty}
use Rattle.own_tree.specs.declared.place.Ty.TheVariants as type
use Rattle.own_shapes.specs.declared.info.CaseInfo.{CaseInfo}
use Rattle.own_shapes.specs.declared.info.FieldInfo.{FieldInfo}
use Rattle.own_shapes.specs.declared.info.TypeInfo.{TypeInfo}
use Rattle.own_shapes.specs.Types.{Shape, TypeHead, struct, enum, copyable, holds_tracked, one_holds_tracked, one_case_holds_tracked, shapes_of, payloads_of, field_types, case_types, all_case_types, head_of, shape_of_declared, unfolded, declared_fields, declared_cases, declares_enum, is_part, types_resolved, NoneContainsItself, PartsAreTypes}
use Rattle.own_shapes.proofs.Lists.{In, in_contains, in_front, in_back, get_contains}
use Rattle.own_shapes.proofs.Unfolding.{shapes_unfold}
use Rattle.own_table.specs.Extents.{HasFewParts, HaveFewParts}
use Rattle.own_table.specs.Proper.{declares_copyable, is_copyable_among, AreProper}
use Rattle.own_table.specs.Table.{TablesAreWhole}

pub all_in : {A : Type 0} (p : A → Bool) (xs : List A) → IsTrue (list_all p xs) → (x : A) → In xs x → IsTrue (p x)
all_in p [] all x i = absurd i
all_in p (y ∷ ys) all x (inl e) = subst (λ z. IsTrue (p z)) e (and_parts (p y) (list_all p ys) all).0
all_in p (y ∷ ys) all x (inr h) = all_in p ys (and_parts (p y) (list_all p ys) all).1 x h

all_at : {A : Type 0} (P : A → Type 0) (xs : List A) → All P xs → (k : ℕ) (x : A) → slice_get xs k ≡ Some x → P x
all_at P xs all k x e = All-contains P xs x all (get_contains xs k x e)

neither : (a b : Bool) → a ≡ false → b ≡ false → (a || b) ≡ false
neither true b e f = e
neither false b e f = f

map_in : {A B : Type 0} (f : A → B) (xs : List A) (x : A) → In xs x → In (map f xs) (f x)
map_in f [] x i = absurd i
map_in f (y ∷ ys) x (inl e) = inl (ap f e)
map_in f (y ∷ ys) x (inr h) = inr (map_in f ys x h)

payload_in : (cs : List CaseInfo) (c : CaseInfo) (ty : Ty) → In cs c → In c.payloads ty → In (all_case_types cs) ty
payload_in [] c ty i j = absurd i
payload_in (d ∷ ds) c ty (inl e) j = in_front d.payloads (all_case_types ds) ty (subst (λ x. In x.payloads ty) (sym e) j)
payload_in (d ∷ ds) c ty (inr h) j = in_back d.payloads (all_case_types ds) ty (payload_in ds c ty h j)

pub got : {A : Type 0} (xs : List A) (k : ℕ) → k < length xs → (x : A) × (slice_get xs k ≡ Some x)
got xs k lt = elim (slice_get_cases xs k).1 [ inl h ↦ (h.0, h.2) | inr h ↦ absurd (omega (arith, lt, h.0)) ]

module _ (ts : List TypeInfo) (proper : AreProper ts) where
  nowhere : {A : Type 0} (k : ℕ) → k < length ts → slice_get ts k ≡ None → A
  nowhere k lt e = let there = got ts k lt in let h : None ≡ Some there.0 = sym e ∙ there.1 in absurd cc

  -- what the head of a declaration says
  abbrev IsHead : ℕ → Option TypeInfo → TypeHead → Type 0
  IsHead k o head = (head.number ≡ k) × (head.changes ≡ map (λ f. f.changes) (declared_fields o)) × (head.has_deinit ≡ true → (head.noncopyable ≡ true) × (declares_enum o ≡ false))

  is_head : (k : ℕ) (t : TypeInfo) → slice_get ts k ≡ Some t → IsHead k (Some t) (head_of k t)
  is_head k t e = (refl, refl, λ d. (proper k t e).deinit d)

  declared_as_struct : NoneContainsItself ts → (k : ℕ) (o : Option TypeInfo) → slice_get ts k ≡ o → (k < length ts) → declares_enum o ≡ false
      → (head : TypeHead) × ((types_resolved ts).shape (type.Named k) ≡ struct head (shapes_of (types_resolved ts).shape (field_types (declared_fields o)))) × IsHead k o head
  declared_as_struct apart k None e lt is = nowhere k lt e
  declared_as_struct apart k (Some t) e lt is = (
    head_of k t,
    shapes_unfold ts apart k t e
        ∙ ap (λ b. if b then enum (head_of k t) (payloads_of (types_resolved ts).shape (case_types t.cases)) else struct (head_of k t) (shapes_of (types_resolved ts).shape (field_types t.fields))) is,
    is_head k t e,
  )

  declared_as_enum : NoneContainsItself ts → (k : ℕ) (o : Option TypeInfo) → slice_get ts k ≡ o → (k < length ts) → declares_enum o ≡ true
      → (head : TypeHead) × ((types_resolved ts).shape (type.Named k) ≡ enum head (payloads_of (types_resolved ts).shape (case_types (declared_cases o)))) × IsHead k o head
  declared_as_enum apart k None e lt is = nowhere k lt e
  declared_as_enum apart k (Some t) e lt is = (
    head_of k t,
    shapes_unfold ts apart k t e
        ∙ ap (λ b. if b then enum (head_of k t) (payloads_of (types_resolved ts).shape (case_types t.cases)) else struct (head_of k t) (shapes_of (types_resolved ts).shape (field_types t.fields))) is,
    is_head k t e,
  )

  fields_are_parts : PartsAreTypes ts → (k : ℕ) (o : Option TypeInfo) → slice_get ts k ≡ o → declares_enum o ≡ false
      → (f : FieldInfo) → Contains (declared_fields o) f → IsTrue (is_part (length ts) f.ty)
  fields_are_parts closed k None e is f c = absurd (in_contains [] f c)
  fields_are_parts closed k (Some t) e is f c =
      all_in (is_part (length ts)) (field_types t.fields)
      (subst (λ b. IsTrue (list_all (is_part (length ts)) (if b then all_case_types t.cases else field_types t.fields))) is (closed k t e))
      f.ty (map_in (λ g. g.ty) t.fields f (in_contains t.fields f c))

  payloads_are_parts : PartsAreTypes ts → (k : ℕ) (o : Option TypeInfo) → slice_get ts k ≡ o → declares_enum o ≡ true
      → (c : CaseInfo) → Contains (declared_cases o) c → (ty : Ty) → Contains c.payloads ty → IsTrue (is_part (length ts) ty)
  payloads_are_parts closed k None e is c i ty j = absurd (in_contains [] c i)
  payloads_are_parts closed k (Some t) e is c i ty j =
      all_in (is_part (length ts)) (all_case_types t.cases)
      (subst (λ b. IsTrue (list_all (is_part (length ts)) (if b then all_case_types t.cases else field_types t.fields))) is (closed k t e))
      ty (payload_in t.cases c ty (in_contains t.cases c i) (in_contains c.payloads ty j))

-- ---- what a type has

module _ (ts : List TypeInfo) (few : HaveFewParts ts) (proper : AreProper ts) where
  few_parts : (k : ℕ) (t : TypeInfo) → slice_get ts k ≡ Some t → HasFewParts t
  few_parts k t e = all_at HasFewParts ts few k t e

  few_properties : (k : ℕ) (o : Option TypeInfo) → slice_get ts k ≡ o → length (declared_fields o) ≤ MOST_FIELDS
  few_properties k None e = omega arith
  few_properties k (Some t) e = (few_parts k t e).fields

  few_cases : (k : ℕ) (o : Option TypeInfo) → slice_get ts k ≡ o → length (declared_cases o) ≤ MOST_FIELDS
  few_cases k None e = omega arith
  few_cases k (Some t) e = (few_parts k t e).cases

  few_payloads : (k : ℕ) (o : Option TypeInfo) → slice_get ts k ≡ o → (c : CaseInfo) → Contains (declared_cases o) c → length c.payloads ≤ MOST_PARAMETERS
  few_payloads k None e c i = absurd (in_contains [] c i)
  few_payloads k (Some t) e c i = All-contains (λ x. length x.payloads ≤ MOST_PARAMETERS) t.cases c (few_parts k t e).payloads i

  no_cases : (k : ℕ) (o : Option TypeInfo) → slice_get ts k ≡ o → declares_enum o ≡ false → declared_cases o ≡ []
  no_cases k None e is = refl
  no_cases k (Some t) e is = (proper k t e).no_cases is

  no_properties : (k : ℕ) (o : Option TypeInfo) → slice_get ts k ≡ o → declares_enum o ≡ true → declared_fields o ≡ []
  no_properties k None e is = refl
  no_properties k (Some t) e is = (proper k t e).no_properties is

-- ---- what is copyable holds nothing tracked

module _ (shape_of : Ty → Shape) (p : Ty → Bool) (none : (ty : Ty) → IsTrue (p ty) → holds_tracked (shape_of ty) ≡ false) where
  none_of : (tys : List Ty) → IsTrue (list_all p tys) → one_holds_tracked (shapes_of shape_of tys) ≡ false
  none_of [] all = refl
  none_of (ty ∷ tys) all =
      let both = and_parts (p ty) (list_all p tys) all in neither (holds_tracked (shape_of ty)) (one_holds_tracked (shapes_of shape_of tys)) (none ty both.0) (none_of tys both.1)

  none_of_cases : (cs : List CaseInfo) → IsTrue (list_all p (all_case_types cs)) → one_case_holds_tracked (payloads_of shape_of (case_types cs)) ≡ false
  none_of_cases [] all = refl
  none_of_cases (c ∷ cs) all =
      let both = and_parts (list_all p c.payloads) (list_all p (all_case_types cs)) (sym (list_all-append p c.payloads (all_case_types cs)) ∙ all) in
      neither (one_holds_tracked (shapes_of shape_of c.payloads)) (one_case_holds_tracked (payloads_of shape_of (case_types cs))) (none_of c.payloads both.0) (none_of_cases cs both.1)

not_true : (b : Bool) → not b ≡ true → b ≡ false
not_true true e = absurd cc
not_true false e = refl

-- a copyable declaration has no `deinit`
no_deinit : (b : Bool) (noncopyable : Bool) → noncopyable ≡ false → (b ≡ true → noncopyable ≡ true) → b ≡ false
no_deinit true noncopyable e has = absurd (let f : false ≡ true = sym e ∙ has refl in cc)
no_deinit false noncopyable e has = refl

module _ (ts : List TypeInfo) (proper : AreProper ts) where
  -- one level of the unfolding, by the level below
  module _ (depth : ℕ) (below : (ty : Ty) → IsTrue (is_copyable_among ts ty) → holds_tracked (unfolded ts depth ty) ≡ false) (k : ℕ) where
    of_kind : (is_enum : Bool) (t : TypeInfo) → t.noncopyable ≡ false → (t.has_deinit ≡ true → t.noncopyable ≡ true)
        → IsTrue (list_all (is_copyable_among ts) (if is_enum then all_case_types t.cases else field_types t.fields))
        → holds_tracked (if is_enum then enum (head_of k t) (payloads_of (unfolded ts depth) (case_types t.cases)) else struct (head_of k t) (shapes_of (unfolded ts depth) (field_types t.fields))) ≡ false
    of_kind true t plain has all = none_of_cases (unfolded ts depth) (is_copyable_among ts) below t.cases all
    of_kind false t plain has all =
        neither t.has_deinit (one_holds_tracked (shapes_of (unfolded ts depth) (field_types t.fields))) (no_deinit t.has_deinit t.noncopyable plain has)
        (none_of (unfolded ts depth) (is_copyable_among ts) below (field_types t.fields) all)

    one_level : (o : Option TypeInfo) → slice_get ts k ≡ o → IsTrue (declares_copyable o) → holds_tracked (shape_of_declared (unfolded ts depth) k o) ≡ false
    one_level None is f = refl
    one_level (Some t) is f =
        let plain = not_true t.noncopyable f in
        of_kind t.is_enum t plain (λ d. ((proper k t is).deinit d).0) ((proper k t is).copyable_parts plain)

  quiet : (depth : ℕ) (ty : Ty) → IsTrue (is_copyable_among ts ty) → holds_tracked (unfolded ts depth ty) ≡ false
  quiet zero ty e = refl
  quiet (suc depth) type.Int e = refl
  quiet (suc depth) type.Bool e = refl
  quiet (suc depth) type.Unit e = refl
  quiet (suc depth) (type.Fun k) e = refl
  quiet (suc depth) (type.Named k) e = one_level depth (quiet depth) k (slice_get ts k) refl e

  -- by the shape of a type
  pub holds_none : (ty : Ty) → copyable ((types_resolved ts).shape ty) ≡ true → holds_tracked ((types_resolved ts).shape ty) ≡ false
  holds_none type.Int e = refl
  holds_none type.Bool e = refl
  holds_none type.Unit e = refl
  holds_none (type.Fun k) e = refl
  holds_none (type.Named k) e = quiet (suc (length ts)) (type.Named k) (by (slice_get ts k) e)
    where
      its_kind : (is_enum : Bool) (t : TypeInfo)
          → copyable (if is_enum then enum (head_of k t) (payloads_of (unfolded ts (length ts)) (case_types t.cases)) else struct (head_of k t) (shapes_of (unfolded ts (length ts)) (field_types t.fields))) ≡ true
          → not t.noncopyable ≡ true
      its_kind true t f = f
      its_kind false t f = f

      by : (o : Option TypeInfo) → copyable (shape_of_declared (unfolded ts (length ts)) k o) ≡ true → IsTrue (declares_copyable o)
      by None f = refl
      by (Some t) f = its_kind t.is_enum t f

pub tables_are_whole : TablesAreWhole
tables_are_whole table = record {
  few = table.few;
  struct_shape = λ k lt is. (let s = declared_as_struct table.types table.proper table.apart k (slice_get table.types k) refl lt is in
      (s.0, s.1, record { number = s.2.0; changes = s.2.1; deinit = s.2.2 }));
  enum_shape = λ k lt is. (let s = declared_as_enum table.types table.proper table.apart k (slice_get table.types k) refl lt is in
      (s.0, s.1, record { number = s.2.0; changes = s.2.1; deinit = s.2.2 }));
  struct_cases = λ k lt is. no_cases table.types table.few_parts table.proper k (slice_get table.types k) refl is;
  enum_properties = λ k lt is. no_properties table.types table.few_parts table.proper k (slice_get table.types k) refl is;
  field_part = λ k lt is f c. fields_are_parts table.types table.proper table.closed k (slice_get table.types k) refl is f c;
  payload_part = λ k lt is c i ty j. payloads_are_parts table.types table.proper table.closed k (slice_get table.types k) refl is c i ty j;
  few_properties = λ k lt. few_properties table.types table.few_parts table.proper k (slice_get table.types k) refl;
  few_cases = λ k lt. few_cases table.types table.few_parts table.proper k (slice_get table.types k) refl;
  few_payloads = λ k lt c i. few_payloads table.types table.few_parts table.proper k (slice_get table.types k) refl c i;
  copyable_holds_none = λ ty lt e. holds_none table.types table.proper ty e;
  few_slots = λ k lt. (table.within k lt).0;
  few_leaves = λ k lt. (table.within k lt).1;
}
