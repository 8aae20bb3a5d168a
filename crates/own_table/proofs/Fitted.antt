-- Types that pass the tests are such as a table is made of.
use Rattle.std.proofs.Common.{◌≡◌, ℕ, ◌≤◌, Bool, true, false, List, [], ◌∷◌, length, slice_get, Some, refl, sym, ap, ◌∙◌}
use Rattle.std.specs.Prelude.{All, nat_le, not, IsTrue, ◌&&◌, ◌||◌, if◌then◌else◌}
use Rattle.std.specs.List.{list_all}
use Rattle.std.proofs.lemmas.Bool.{and_from, and_parts, leb-true}
use Rattle.std.proofs.lemmas.List.Elements.{All-nil, All-cons}
use Rattle.own_tree.specs.declared.limits.TheConstants.{MOST_TYPES, MOST_FIELDS, MOST_PARAMETERS}
use Rattle.own_tree.specs.declared.place.Ty.{Ty}
use Rattle.own_shapes.specs.declared.info.CaseInfo.{CaseInfo}
use Rattle.own_shapes.specs.declared.info.TypeInfo.{TypeInfo}
use Rattle.own_table.specs.Extents.{HasFewParts, HaveFewParts}
use Rattle.own_table.specs.Fitting.{has_few_payloads, has_few_parts, is_content, has_content, has_own_deinit, has_own_parts, is_fit, are_fit}
use Rattle.own_table.specs.Proper.{is_copyable_among, IsProper, AreProper}
use Rattle.own_shapes.specs.Types.{contained, is_empty, is_part, PartsAreTypes}
use Rattle.own_shapes.proofs.Lists.{get_in}
use Rattle.own_table.proofs.Whole.{all_in}

few_payloads : (cs : List CaseInfo) → list_all has_few_payloads cs ≡ true → All (λ c. length c.payloads ≤ MOST_PARAMETERS) cs
few_payloads [] e = All-nil (λ c. length c.payloads ≤ MOST_PARAMETERS)
few_payloads (c ∷ cs) e =
    let both = and_parts (has_few_payloads c) (list_all has_few_payloads cs) e in
    All-cons (λ x. length x.payloads ≤ MOST_PARAMETERS) c cs (leb-true (length c.payloads) MOST_PARAMETERS both.0) (few_payloads cs both.1)

few_parts : (t : TypeInfo) → has_few_parts t ≡ true → HasFewParts t
few_parts t e =
    let both = and_parts (nat_le (length t.fields) MOST_FIELDS) (nat_le (length t.cases) MOST_FIELDS && list_all has_few_payloads t.cases) e in
    let rest = and_parts (nat_le (length t.cases) MOST_FIELDS) (list_all has_few_payloads t.cases) both.1 in
    record {
      fields = leb-true (length t.fields) MOST_FIELDS both.0;
      cases = leb-true (length t.cases) MOST_FIELDS rest.0;
      payloads = few_payloads t.cases rest.1;
    }

-- ---- what is asked of each part

each_content : (ts : List TypeInfo) (noncopyable : Bool) (tys : List Ty) → list_all (is_content ts noncopyable) tys ≡ true
    → IsTrue (list_all (is_part (length ts)) tys) × (noncopyable ≡ false → IsTrue (list_all (is_copyable_among ts) tys))
each_content ts noncopyable [] e = (refl, λ f. refl)
each_content ts noncopyable (ty ∷ tys) e =
    let both = and_parts (is_content ts noncopyable ty) (list_all (is_content ts noncopyable) tys) e in
    let here = and_parts (is_part (length ts) ty) (noncopyable || is_copyable_among ts ty) both.0 in
    let rest = each_content ts noncopyable tys both.1 in (
      and_from (is_part (length ts) ty) (list_all (is_part (length ts)) tys) here.0 rest.0,
      λ f. and_from (is_copyable_among ts ty) (list_all (is_copyable_among ts) tys) (sym (ap (λ b. b || is_copyable_among ts ty) f) ∙ here.1) (rest.1 f),
    )

no_element : {A : Type 0} (xs : List A) → is_empty xs ≡ true → xs ≡ []
no_element [] e = refl
no_element (x ∷ xs) e = absurd cc

own_deinit : (has noncopyable is_enum : Bool) → (not has || (noncopyable && not is_enum)) ≡ true → has ≡ true → (noncopyable ≡ true) × (is_enum ≡ false)
own_deinit true true false e f = (refl, refl)
own_deinit true true true e f = absurd cc
own_deinit true false is_enum e f = absurd cc
own_deinit false noncopyable is_enum e f = absurd cc

module _ (ts : List TypeInfo) (t : TypeInfo) (fit : is_fit ts t ≡ true) where
  few : (has_few_parts t ≡ true) × ((has_own_deinit t && (has_own_parts t && has_content ts t)) ≡ true)
  few = and_parts (has_few_parts t) (has_own_deinit t && (has_own_parts t && has_content ts t)) fit

  deinit : (has_own_deinit t ≡ true) × ((has_own_parts t && has_content ts t) ≡ true)
  deinit = and_parts (has_own_deinit t) (has_own_parts t && has_content ts t) few.1

  kind : (has_own_parts t ≡ true) × (has_content ts t ≡ true)
  kind = and_parts (has_own_parts t) (has_content ts t) deinit.1

  known : IsTrue (list_all (is_part (length ts)) (contained t)) × (t.noncopyable ≡ false → IsTrue (list_all (is_copyable_among ts) (contained t)))
  known = each_content ts t.noncopyable (contained t) kind.1

  fit_proper_one : IsProper ts t
  fit_proper_one = record {
    copyable_parts = known.1;
    deinit = own_deinit t.has_deinit t.noncopyable t.is_enum deinit.0;
    no_cases = λ e. no_element t.cases (sym (ap (λ b. if b then is_empty t.fields else is_empty t.cases) e) ∙ kind.0);
    no_properties = λ e. no_element t.fields (sym (ap (λ b. if b then is_empty t.fields else is_empty t.cases) e) ∙ kind.0);
  }

each_few : (ts rest : List TypeInfo) → list_all (is_fit ts) rest ≡ true → HaveFewParts rest
each_few ts [] e = All-nil HasFewParts
each_few ts (t ∷ rest) e =
    let both = and_parts (is_fit ts t) (list_all (is_fit ts) rest) e in All-cons HasFewParts t rest (few_parts t (few ts t both.0).0) (each_few ts rest both.1)

module _ (ts : List TypeInfo) (fit : are_fit ts ≡ true) where
  both : (nat_le (length ts) MOST_TYPES ≡ true) × (list_all (is_fit ts) ts ≡ true)
  both = and_parts (nat_le (length ts) MOST_TYPES) (list_all (is_fit ts) ts) fit

  one : (k : ℕ) (t : TypeInfo) → slice_get ts k ≡ Some t → is_fit ts t ≡ true
  one k t e = all_in (is_fit ts) ts both.1 t (get_in ts k t e)

  pub fit_few_types : length ts ≤ MOST_TYPES
  fit_few_types = leb-true (length ts) MOST_TYPES both.0

  pub fit_few_parts : HaveFewParts ts
  fit_few_parts = each_few ts ts both.1

  pub fit_closed : PartsAreTypes ts
  fit_closed k t e = (known ts t (one k t e)).0

  pub fit_proper : AreProper ts
  fit_proper k t e = fit_proper_one ts t (one k t e)
