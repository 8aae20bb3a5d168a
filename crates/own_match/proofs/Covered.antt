-- A search finds nothing exactly where every tuple of values is matched, which is all that its short cuts need.
use Rattle.std.proofs.Common.{◌≡◌, ℕ, zero, suc, ◌⊎◌, ℤ, Bool, true, false, List, [], ◌∷◌, Option, Some, None, inl, inr, refl, sym, ◌∙◌, subst, int_eq}
use Rattle.std.specs.Cmp.{signed_Decides}
use Rattle.own_tree.specs.TypedSource.{TPat, any, bind, of_case, of_number, of_truth, TPats, no_pats, pat}
use Rattle.own_shapes.specs.Types.{TypeHead, Shape, Shapes, no_shapes, Payloads, no_payloads, payloads}
use Rattle.own_shapes.specs.Types as shape
use Rattle.own_match.specs.declared.head.Head.{Head}
use Rattle.own_match.specs.declared.head.Head.TheVariants as head
use Rattle.own_match.specs.Values.{Val, int, bool, opaque, struct, variant, Vals, no_vals, val, IsOf, IsOfCase, AreOf}
use Rattle.own_match.specs.Forms.{inside, literals, IsForm, IsFormOfCase, AreForms, StandsFor, AllStandFor}
use Rattle.own_match.specs.Search.{accepts, Column, gap_columns}
use Rattle.own_match.proofs.Order.{In, contains_in, in_contains}
use Rattle.own_match.proofs.Tuples.{TupleOf, Forms, Stand, CellMatches, RowMatches, IsLive, Matched}
use Rattle.own_match.proofs.Narrow.{false_true}
use Rattle.own_match.proofs.Exact.{Good, Exact, columns_exact}

-- ---- each value has a form

abbrev HasForm : Shape → List TPat → Val → Type 0
HasForm s ps v = (f : TPat) × IsForm s ps f × StandsFor ps f v

abbrev In_or_not : List ℤ → ℤ → Type 0
In_or_not ns n = In ns n ⊎ (In ns n → ⊥)

same_number : (m n : ℤ) → (m ≡ n) ⊎ ((m ≡ n) → ⊥)
same_number m n = by_bit (int_eq m n) refl
  where
    by_bit : (b : Bool) → int_eq m n ≡ b → (m ≡ n) ⊎ ((m ≡ n) → ⊥)
    by_bit true e = inl ((signed_Decides m n).0 e)
    by_bit false e = inr (λ s. false_true (sym e ∙ (signed_Decides m n).1 s))

is_in : (ns : List ℤ) (n : ℤ) → In_or_not ns n
is_in [] n = inr (λ h. h)
is_in (m ∷ ns) n = join (same_number m n) (is_in ns n)
  where
    either : ((m ≡ n) → ⊥) → (In ns n → ⊥) → (m ≡ n) ⊎ In ns n → ⊥
    either a b (inl h) = a h
    either a b (inr h) = b h

    join : (m ≡ n) ⊎ ((m ≡ n) → ⊥) → In_or_not ns n → In_or_not (m ∷ ns) n
    join (inl e) r = inl (inl e)
    join (inr d) (inl h) = inl (inr h)
    join (inr d) (inr h) = inr (either d h)

number_form : (ps : List TPat) (n : ℤ) → HasForm shape.number ps (int n)
number_form ps n = elim (is_in (literals ps) n) [
  | inl h ↦ (of_number n, contains_in (literals ps) n h, refl)
  | inr h ↦ (any, tt, λ c. h (in_contains (literals ps) n c))
]

mutual
  pub has_form : (s : Shape) (ps : List TPat) (v : Val) → IsOf s v → HasForm s ps v
  has_form shape.number ps (int n) t = number_form ps n
  has_form shape.number ps (bool b) t = absurd t
  has_form shape.number ps opaque t = absurd t
  has_form shape.number ps (struct vs) t = absurd t
  has_form shape.number ps (variant k vs) t = absurd t
  has_form shape.truth ps (bool b) t = (of_truth b, tt, refl)
  has_form shape.truth ps (int n) t = absurd t
  has_form shape.truth ps opaque t = absurd t
  has_form shape.truth ps (struct vs) t = absurd t
  has_form shape.truth ps (variant k vs) t = absurd t
  has_form shape.no_value ps opaque t = (any, tt, tt)
  has_form shape.no_value ps (int n) t = absurd t
  has_form shape.no_value ps (bool b) t = absurd t
  has_form shape.no_value ps (struct vs) t = absurd t
  has_form shape.no_value ps (variant k vs) t = absurd t
  has_form shape.closure ps opaque t = (any, tt, tt)
  has_form shape.closure ps (int n) t = absurd t
  has_form shape.closure ps (bool b) t = absurd t
  has_form shape.closure ps (struct vs) t = absurd t
  has_form shape.closure ps (variant k vs) t = absurd t
  has_form (shape.struct h fields) ps (struct vs) t = (any, tt, tt)
  has_form (shape.struct h fields) ps (int n) t = absurd t
  has_form (shape.struct h fields) ps (bool b) t = absurd t
  has_form (shape.struct h fields) ps opaque t = absurd t
  has_form (shape.struct h fields) ps (variant k vs) t = absurd t
  has_form (shape.enum h cases) ps (variant k vs) t =
      let r = case_form cases k k ps vs t in (of_case k r.0, r.1, (refl, r.2))
  has_form (shape.enum h cases) ps (int n) t = absurd t
  has_form (shape.enum h cases) ps (bool b) t = absurd t
  has_form (shape.enum h cases) ps opaque t = absurd t
  has_form (shape.enum h cases) ps (struct vs) t = absurd t

  case_form : (cases : Payloads) (j k : ℕ) (ps : List TPat) (vs : Vals) → IsOfCase cases j vs → (fs : TPats) × IsFormOfCase cases j k ps fs × AllStandFor k 0 ps fs vs
  case_form no_payloads j k ps vs t = absurd t
  case_form (payloads ss cases) zero k ps vs t = all_forms ss k 0 ps vs t
  case_form (payloads ss cases) (suc j) k ps vs t = case_form cases j k ps vs t

  all_forms : (ss : Shapes) (k i : ℕ) (ps : List TPat) (vs : Vals) → AreOf ss vs → (fs : TPats) × AreForms ss k i ps fs × AllStandFor k i ps fs vs
  all_forms no_shapes k i ps no_vals t = (no_pats, tt, tt)
  all_forms no_shapes k i ps (val v vs) t = absurd t
  all_forms (shape.shape s ss) k i ps no_vals t = absurd t
  all_forms (shape.shape s ss) k i ps (val v vs) t =
      let a = has_form s (inside k i ps) v t.0 in
      let b = all_forms ss k (suc i) ps vs t.1 in
      (pat a.0 b.0, (a.1, b.1), (a.2, b.2))

tuple_form : (cs : List Column) (vs : Vals) → TupleOf cs vs → (fs : TPats) × Forms cs fs × Stand cs fs vs
tuple_form [] no_vals t = (no_pats, tt, tt)
tuple_form [] (val v vs) t = absurd t
tuple_form (c ∷ cs) no_vals t = absurd t
tuple_form (c ∷ cs) (val v vs) t =
    let a = has_form c.shape c.cells v t.0 in
    let b = tuple_form cs vs t.1 in
    (pat a.0 b.0, (a.1, b.1), (a.2, b.2))

-- ---- nothing is missing

abbrev pub Covered : List Column → List Bool → Type 0
Covered cs live = (vs : Vals) → TupleOf cs vs → Matched cs live vs

pub none_covered : (cs : List Column) (live : List Bool) → gap_columns cs live ≡ None → Covered cs live
none_covered cs live e vs t =
    let f = tuple_form cs vs t in
    let a : Good (λ fs. Unit {0}) cs live None = subst (λ r. Exact cs live r) e (columns_exact cs live) in
    a f.0 tt f.1 vs t f.2

pub covered_none : (cs : List Column) (live : List Bool) → Covered cs live → gap_columns cs live ≡ None
covered_none cs live covered = by_answer (gap_columns cs live) (columns_exact cs live)
  where
    by_answer : (r : Option TPats) → Exact cs live r → r ≡ None
    by_answer None a = refl
    by_answer (Some fs) a = absurd (a.none a.some.0 a.some.1 a.some.2 (covered a.some.0 a.some.1))

-- ---- a live pattern that matches all values

-- pattern i does so at each of these columns
abbrev pub SaysNothing : List Column → ℕ → Type 0
SaysNothing [] i = Unit {0}
SaysNothing (c ∷ cs) i = ((v : Val) → IsOf c.shape v → CellMatches c.cells i v) × SaysNothing cs i

pub nothing_said : (cs : List Column) (live : List Bool) (i : ℕ) → IsLive live i → SaysNothing cs i → gap_columns cs live ≡ None
nothing_said cs live i l says = covered_none cs live (λ vs t. (i, l, row cs vs says t))
  where
    row : (cs : List Column) (vs : Vals) → SaysNothing cs i → TupleOf cs vs → RowMatches i cs vs
    row [] no_vals s t = tt
    row [] (val v vs) s t = absurd t
    row (c ∷ cs) no_vals s t = absurd t
    row (c ∷ cs) (val v vs) s t = (s.0 v t.0, row cs vs s.1 t.1)

-- ---- what matches without looking

pub others_accepted : (h : Head) (p : TPat) → accepts head.Other p ≡ true → accepts h p ≡ true
others_accepted h any e = refl
others_accepted h (bind x) e = refl
others_accepted h (of_case c ps) e = false_true e
others_accepted h (of_number n) e = false_true e
others_accepted h (of_truth b) e = false_true e
