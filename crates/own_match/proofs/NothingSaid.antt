-- A live pattern that matches all values at each column covers them, and a head that is not mentioned needs no search of its own.
use Rattle.std.proofs.Common.{◌≡◌, ℕ, zero, suc, ◌+◌, ◌==◌, Bool, true, false, not, ◌&&◌, ◌||◌, List, [], ◌∷◌, Option, Some, None, slice_get, refl, sym, ap, ◌∙◌, subst, arith, eqb-true}
use Rattle.own_tree.specs.TypedSource.{TPat, any, bind, of_case, of_number, of_truth, TPats, no_pats, pat}
use Rattle.own_table.specs.HasValue.{all_have_values}
use Rattle.own_shapes.specs.Types.{Shape, Shapes, no_shapes, Payloads, no_payloads, payloads}
use Rattle.own_shapes.specs.Types as shape
use Rattle.own_match.specs.declared.head.Head.{Head}
use Rattle.own_match.specs.declared.head.Head.TheVariants as head
use Rattle.own_match.specs.First.{form_before}
use Rattle.own_match.specs.Search.{Column, narrowed, is_mentioned, no_others, payloads_at, matches_all, parts_match_all, is_silent, is_silent_at, says_nothing, one_is_silent, led, Later, gap_columns}
use Rattle.own_match.specs.Values.{Val, int, bool, opaque, struct, variant, Vals, no_vals, val, IsOf, IsOfCase, AreOf, Matches, AllMatch}
use Rattle.own_match.proofs.Narrow.{false_true}
use Rattle.own_match.proofs.Exact.{no_values}
use Rattle.own_match.proofs.Covered.{SaysNothing, nothing_said}
use Rattle.own_match.proofs.Steps.{narrowed_same, by_both, by_either}
use Rattle.own_match.proofs.Tuples.{IsLive, CellMatches}

-- ---- patterns that match all values

no_others_of : (c k : ℕ) (cases : Payloads) → no_others c k cases ≡ true → (j : ℕ) (vs : Vals) → IsOfCase cases j vs → k + j ≡ c
no_others_of c k no_payloads e j vs t = absurd t
no_others_of c k (payloads ss cases) e zero vs t =
    by_both (k == c || not (all_have_values ss)) (no_others c (suc k) cases) e
    (λ here later. by_either (k == c) (not (all_have_values ss)) here (λ same. let s : k ≡ c = eqb-true k c same in omega (arith, s)) (λ empty. absurd (no_values ss (none (all_have_values ss) empty) vs t)))
  where
    none : (b : Bool) → not b ≡ true → b ≡ false
    none true e = false_true e
    none false e = refl
no_others_of c k (payloads ss cases) e (suc j) vs t =
    by_both (k == c || not (all_have_values ss)) (no_others c (suc k) cases) e (λ here later. let s : suc k + j ≡ c = no_others_of c (suc k) cases later j vs t in omega (arith, s))

its_values : (cases : Payloads) (c : ℕ) (vs : Vals) → IsOfCase cases c vs → AreOf (payloads_at cases c) vs
its_values no_payloads c vs t = absurd t
its_values (payloads ss cases) zero vs t = t
its_values (payloads ss cases) (suc c) vs t = its_values cases c vs t

mutual
  pub all_match : (p : TPat) (s : Shape) → matches_all s p ≡ true → (v : Val) → IsOf s v → Matches p v
  all_match any s e v t = tt
  all_match (bind x) s e v t = tt
  all_match (of_number n) s e v t = false_true e
  all_match (of_truth b) s e v t = false_true e
  all_match (of_case c ps) shape.number e v t = false_true e
  all_match (of_case c ps) shape.truth e v t = false_true e
  all_match (of_case c ps) shape.no_value e v t = false_true e
  all_match (of_case c ps) shape.closure e v t = false_true e
  all_match (of_case c ps) (shape.struct h fields) e v t = false_true e
  all_match (of_case c ps) (shape.enum h cases) e (int n) t = absurd t
  all_match (of_case c ps) (shape.enum h cases) e (bool b) t = absurd t
  all_match (of_case c ps) (shape.enum h cases) e opaque t = absurd t
  all_match (of_case c ps) (shape.enum h cases) e (struct vs) t = absurd t
  all_match (of_case c ps) (shape.enum h cases) e (variant k vs) t =
      by_both (no_others c zero cases) (parts_match_all (payloads_at cases c) ps) e
      (λ only parts.
      let same : c ≡ k = (let s : zero + k ≡ c = no_others_of c zero cases only k vs t in omega (arith, s)) in
      (same, parts_match ps (payloads_at cases c) parts vs (its_values cases c vs (subst (λ x. IsOfCase cases x vs) (sym same) t))))

  parts_match : (ps : TPats) (ss : Shapes) → parts_match_all ss ps ≡ true → (vs : Vals) → AreOf ss vs → AllMatch ps vs
  parts_match no_pats ss e vs t = tt
  parts_match (pat p ps) no_shapes e no_vals t = tt
  parts_match (pat p ps) no_shapes e (val v vs) t = absurd t
  parts_match (pat p ps) (shape.shape s ss) e no_vals t = absurd t
  parts_match (pat p ps) (shape.shape s ss) e (val v vs) t =
      by_both (matches_all s p) (parts_match_all ss ps) e (λ a b. (all_match p s a v t.0, parts_match ps ss b vs t.1))

-- ---- a live pattern that does so at each column

silent_cell : (c : Column) (i : ℕ) → is_silent_at i c ≡ true → (v : Val) → IsOf c.shape v → CellMatches c.cells i v
silent_cell c i e v t = by (slice_get c.cells i) refl e
  where
    by : (o : Option TPat) → slice_get c.cells i ≡ o → is_silent c.shape o ≡ true → CellMatches c.cells i v
    by None at h = false_true h
    by (Some p) at h = (p, at, all_match p c.shape h v t)

nothing_held : (cs : List Column) (i : ℕ) → says_nothing i cs ≡ true → SaysNothing cs i
nothing_held [] i e = tt
nothing_held (c ∷ cs) i e = by_both (is_silent_at i c) (says_nothing i cs) e (λ here later. (silent_cell c i here, nothing_held cs i later))

one_found : (columns : List Column) (i : ℕ) (live : List Bool) → one_is_silent i columns live ≡ true → (j : ℕ) × IsLive live j × (says_nothing (i + j) columns ≡ true)
one_found columns i [] e = false_true e
one_found columns i (l ∷ live) e =
    by_either (l && says_nothing i columns) (one_is_silent (suc i) columns live) e
    (λ here. by_both l (says_nothing i columns) here (λ alive silent. (zero, ap Some alive, subst (λ n. says_nothing n columns ≡ true) (let z : i ≡ i + zero = omega arith in z) silent)))
    (λ later. (let found = one_found columns (suc i) live later in (suc found.0, found.1, subst (λ n. says_nothing n columns ≡ true) (let z : suc i + found.0 ≡ i + suc found.0 = omega arith in z) found.2)))

pub silent_covers : (columns : List Column) (live : List Bool) → one_is_silent 0 columns live ≡ true → None ≡ gap_columns columns live
silent_covers columns live e =
    let found = one_found columns 0 live e in
    sym (nothing_said columns live found.0 found.1 (nothing_held columns found.0 (subst (λ n. says_nothing n columns ≡ true) (let z : 0 + found.0 ≡ found.0 = omega arith in z) found.2)))

-- ---- heads that are not mentioned

led_none : (f : TPat) (o : Option TPats) → led f o ≡ None → o ≡ None
led_none f None e = refl
led_none f (Some fs) e = absurd cc

-- where such a head has none, the others have none
pub others_none : (h : Head) (f : TPat) (cells : List TPat) (next : Later) (live : List Bool) → is_mentioned h live cells ≡ false → led f (next (narrowed h live cells)) ≡ None
    → next (narrowed head.Other live cells) ≡ None
others_none h f cells next live silent none = ap next (sym (narrowed_same h live cells silent)) ∙ led_none f (next (narrowed h live cells)) none

-- a case that is not mentioned: forms before what is missing behind it, or none where nothing is
pub before_missing : (f : Option TPat) (r g : Option TPats) → ((others : TPats) → Some others ≡ r → form_before f (Some others) ≡ g) → (r ≡ None → g ≡ None) → form_before f r ≡ g
before_missing f None g some none = nothing f ∙ sym (none refl)
  where
    nothing : (f : Option TPat) → form_before f None ≡ None
    nothing None = refl
    nothing (Some x) = refl
before_missing f (Some others) g some none = some others refl
