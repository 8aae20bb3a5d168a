-- The steps of the search as the code takes them.
use Rattle.std.proofs.Common.{◌≡◌, ℕ, zero, suc, ◌+◌, ◌≤◌, ℤ, Bool, true, false, not, ◌&&◌, ◌||◌, List, [], ◌∷◌, ◌++◌, length, Option, Some, None, refl, sym, ap, ◌∙◌, subst, arith}
use mathlib.Core.Path.{fun_ext}
use Rattle.std.proofs.lemmas.Option.{same_Some, none-some}
use Rattle.own_tree.specs.TypedSource.{TPat, any, bind, of_case, of_number, of_truth, TPats, no_pats, pat}
use Rattle.own_shapes.specs.Types.{TypeHead, Shape, Shapes, no_shapes, Payloads, no_payloads, payloads}
use Rattle.own_shapes.specs.Types as shape
use Rattle.own_table.specs.HasValue.{has_value, all_have_values, one_has_values}
use Rattle.own_match.specs.declared.head.Head.{Head}
use Rattle.own_match.specs.declared.head.Head.TheVariants as head
use Rattle.own_match.specs.Values.{no_vals, val}
use Rattle.own_match.specs.Forms.{part, inside}
use Rattle.own_match.specs.Search.{accepts, narrowed, is_mentioned, rising, or_else, led, front, back, gathered, count, Later, gap_in_numbers, gap_in_truths, gap_where, gap, gap_in_cases, gap_in_payloads, Column, payload_columns, gap_columns}
use Rattle.own_match.specs.First.{least_of, any_where, or_form, case_with, form_before, first_form, first_case, first_forms}
use Rattle.own_match.specs.Weights.{weight, weights, columns_weight}
use Rattle.own_match.proofs.Tuples.{IsLive, Forms, before, join, tuple_front, column}
use Rattle.own_match.proofs.Narrow.{false_true, CellAccepts, narrowed_live, anything_matches}
use Rattle.own_match.proofs.Exact.{no_values, Gap, Exact, Everything, columns_exact}
use Rattle.own_match.proofs.Covered.{Covered, none_covered, covered_none, others_accepted}

-- ---- the payloads' columns are columns

before_is : (ss : Shapes) (k i : ℕ) (cells : List TPat) (cs : List Column) → before ss k i cells cs ≡ payload_columns ss k i cells ++ cs
before_is no_shapes k i cells cs = refl
before_is (shape.shape s ss) k i cells cs = ap (λ r. column s (inside k i cells) ∷ r) (before_is ss k (suc i) cells cs)

pub payload_gap : (ss : Shapes) (k i : ℕ) (cells : List TPat) (cs : List Column) (live : List Bool)
    → gap_in_payloads ss k i cells (gap_columns cs) live ≡ gap_columns (payload_columns ss k i cells ++ cs) live
payload_gap no_shapes k i cells cs live = refl
payload_gap (shape.shape s ss) k i cells cs live =
    ap (λ (next : Later). gap s (inside k i cells) next live) (fun_ext (payload_gap ss k (suc i) cells cs))

-- ---- what covers a column without looking

pub others_cover : (c : Column) (cs : List Column) (live : List Bool) → gap_columns cs (narrowed head.Other live c.cells) ≡ None → gap c.shape c.cells (gap_columns cs) live ≡ None
others_cover c cs live e = covered_none (c ∷ cs) live covered
  where
    covered : Covered (c ∷ cs) live
    covered no_vals t = absurd t
    covered (val v vs) t =
        let m = none_covered cs (narrowed head.Other live c.cells) e vs t.1 in
        let n = narrowed_live head.Other live c.cells m.0 m.1 in
        (m.0, n.0, ((n.1.0, n.1.1, anything_matches n.1.0 v n.1.2), m.2))

-- payloads without a value
pub no_payload_values : (ss : Shapes) (k : ℕ) (cells : List TPat) (cs : List Column) (live : List Bool) → all_have_values ss ≡ false → gap_in_payloads ss k 0 cells (gap_columns cs) live ≡ None
no_payload_values ss k cells cs live e =
    payload_gap ss k 0 cells cs live ∙ ap (λ c. gap_columns c live) (sym (before_is ss k 0 cells cs)) ∙ covered_none (before ss k 0 cells cs) live (λ vs t. absurd (no_values ss e _ (tuple_front ss k 0 cells cs vs t).0))

-- ---- a head that no live pattern mentions

pub narrowed_same : (h : Head) (live : List Bool) (cells : List TPat) → is_mentioned h live cells ≡ false → narrowed h live cells ≡ narrowed head.Other live cells
narrowed_same h [] cells e = refl
narrowed_same h (l ∷ live) [] e = refl
narrowed_same h (l ∷ live) (p ∷ cells) e =
    ap (λ b. b ∷ narrowed h live cells) (bits l (accepts h p) (accepts head.Other p) (others_accepted h p) (first (l && (accepts h p && not (accepts head.Other p))) (is_mentioned h live cells) e))
    ∙ ap (λ r. (l && accepts head.Other p) ∷ r) (narrowed_same h live cells (later (l && (accepts h p && not (accepts head.Other p))) (is_mentioned h live cells) e))
  where
    first : (x y : Bool) → (x || y) ≡ false → x ≡ false
    first true y e = false_true (sym e)
    first false y e = refl

    later : (x y : Bool) → (x || y) ≡ false → y ≡ false
    later true y e = false_true (sym e)
    later false y e = e

    bits : (l a o : Bool) → (o ≡ true → a ≡ true) → (l && (a && not o)) ≡ false → (l && a) ≡ (l && o)
    bits false a o h e = refl
    bits true false false h e = refl
    bits true false true h e = h refl
    bits true true true h e = refl
    bits true true false h e = e

abbrev AllWild : List Bool → List TPat → Type 0
AllWild live cells = (i : ℕ) → IsLive live i → CellAccepts head.Other cells i

narrowed_wild : (h : Head) (live : List Bool) (cells : List TPat) → AllWild live cells → length live ≤ length cells → narrowed h live cells ≡ live
narrowed_wild h [] cells wild l = refl
narrowed_wild h (b ∷ live) [] wild l = absurd (omega (arith, l))
narrowed_wild h (b ∷ live) (p ∷ cells) wild l =
    ap (λ x. x ∷ narrowed h live cells) (bit b (λ e. wild zero (ap Some e)))
    ∙ ap (λ r. b ∷ r) (narrowed_wild h live cells (λ i. wild (suc i)) (omega (arith, l)))
  where
    bit : (x : Bool) → (x ≡ true → CellAccepts head.Other (p ∷ cells) zero) → (x && accepts h p) ≡ x
    bit false w = refl
    bit true w = let c = w refl in others_accepted h p (ap (accepts head.Other) (same_Some _ _ c.1) ∙ c.2)

wild_inside : (k i : ℕ) (live : List Bool) (cells : List TPat) → AllWild live cells → AllWild live (inside k i cells)
wild_inside k i live cells wild n l = let c = wild n l in told cells n c
  where
    any_part : (p : TPat) → accepts head.Other p ≡ true → accepts head.Other (part k i p) ≡ true
    any_part any e = refl
    any_part (bind x) e = refl
    any_part (of_case c ps) e = false_true e
    any_part (of_number m) e = refl
    any_part (of_truth b) e = refl

    told : (cells : List TPat) (n : ℕ) → CellAccepts head.Other cells n → CellAccepts head.Other (inside k i cells) n
    told [] n c = absurd (none-some _ c.1)
    told (p ∷ cells) zero c = (part k i p, refl, any_part p (ap (accepts head.Other) (same_Some _ _ c.1) ∙ c.2))
    told (p ∷ cells) (suc n) c = told cells n c

length_inside : (k i : ℕ) (cells : List TPat) → length (inside k i cells) ≡ length cells
length_inside k i [] = refl
length_inside k i (p ∷ cells) = omega (arith, length_inside k i cells)

pub join_all : Option TPats → Option TPats → Option TPats
join_all None r = None
join_all (Some gs) None = None
join_all (Some gs) (Some fs) = Some (join gs fs)

-- as many forms as there are payloads
abbrev IsFull : Shapes → Option TPats → Type 0
IsFull ss None = Unit {0}
IsFull ss (Some gs) = (fs : TPats) → (front (count ss) (join gs fs) ≡ gs) × (back (count ss) (join gs fs) ≡ fs)

full : (ss : Shapes) (k i : ℕ) (cells : List TPat) → IsFull ss (first_forms ss k i cells)
full no_shapes k i cells = λ fs. (refl, refl)
full (shape.shape s ss) k i cells = both (first_form s (inside k i cells)) (first_forms ss k (suc i) cells) (full ss k (suc i) cells)
  where
    both : (f : Option TPat) (gs : Option TPats) → IsFull ss gs → IsFull (shape.shape s ss) (form_before f gs)
    both None gs h = tt
    both (Some f) None h = tt
    both (Some f) (Some gs) h = λ fs. (ap (pat f) (h fs).0, (h fs).1)

gathered_join : (k : ℕ) (ss : Shapes) (gs r : Option TPats) → IsFull ss gs → gathered k (count ss) (join_all gs r) ≡ form_before (case_with k gs) r
unfolding join_all
gathered_join k ss None r h = refl
gathered_join k ss (Some gs) None h = refl
gathered_join k ss (Some gs) (Some fs) h =
    ap (λ x. Some (pat (of_case k x) (back (count ss) (join gs fs)))) (h fs).0 ∙ ap (λ x. Some (pat (of_case k gs) x)) (h fs).1

or_before : (f g : Option TPat) (r : Option TPats) → or_else (form_before f r) (form_before g r) ≡ form_before (or_form f g) r
or_before None g r = refl
or_before (Some f) None None = refl
or_before (Some f) (Some g) None = refl
or_before (Some f) g (Some fs) = refl

led_before : (f : TPat) (r : Option TPats) → led f r ≡ form_before (Some f) r
led_before f None = refl
led_before f (Some fs) = refl

join_before_all : (f : Option TPat) (gs r : Option TPats) → form_before f (join_all gs r) ≡ join_all (form_before f gs) r
unfolding join_all
join_before_all None None r = refl
join_before_all None (Some gs) r = refl
join_before_all (Some f) None r = refl
join_before_all (Some f) (Some gs) None = refl
join_before_all (Some f) (Some gs) (Some fs) = refl

join_none : (r : Option TPats) → r ≡ join_all (Some no_pats) r
unfolding join_all
join_none None = refl
join_none (Some fs) = refl

-- a branch of a column that no live pattern looks at
branch : (h : Head) (f : TPat) (cells : List TPat) (next : Later) (live : List Bool) → AllWild live cells → length live ≤ length cells
    → led f (next (narrowed h live cells)) ≡ form_before (Some f) (next live)
branch h f cells next live wild l = ap (λ x. led f (next x)) (narrowed_wild h live cells wild l) ∙ led_before f (next live)

least_gap : (ns : List ℤ) (cells : List TPat) (next : Later) (live : List Bool) → AllWild live cells → length live ≤ length cells
    → gap_in_numbers ns cells next live ≡ form_before (Some (least_of ns)) (next live)
least_gap [] cells next live wild l = branch head.Other any cells next live wild l
least_gap (n ∷ ns) cells next live wild l =
    ap (λ r. or_else r (gap_in_numbers ns cells next live)) (branch (head.Number n) (of_number n) cells next live wild l)
    ∙ ap (or_else (form_before (Some (of_number n)) (next live))) (least_gap ns cells next live wild l)
    ∙ or_before (Some (of_number n)) (Some (least_of ns)) (next live)

where_gap : (b : Bool) (cells : List TPat) (next : Later) (live : List Bool) → AllWild live cells → length live ≤ length cells
    → gap_where b cells next live ≡ form_before (any_where b) (next live)
where_gap false cells next live wild l = refl
where_gap true cells next live wild l = branch head.Other any cells next live wild l

truth_gap : (cells : List TPat) (next : Later) (live : List Bool) → AllWild live cells → length live ≤ length cells
    → gap_in_truths cells next live ≡ form_before (Some (of_truth false)) (next live)
truth_gap cells next live wild l =
    ap (λ r. or_else r (led (of_truth true) (next (narrowed (head.Truth true) live cells)))) (branch (head.Truth false) (of_truth false) cells next live wild l)
    ∙ ap (or_else (form_before (Some (of_truth false)) (next live))) (branch (head.Truth true) (of_truth true) cells next live wild l)
    ∙ or_before (Some (of_truth false)) (Some (of_truth true)) (next live)

mutual
  unlooked : (s : Shape) (cells : List TPat) (next : Later) (live : List Bool) → AllWild live cells → length live ≤ length cells
      → gap s cells next live ≡ form_before (first_form s cells) (next live)
  unlooked shape.number cells next live wild l = least_gap (rising cells) cells next live wild l
  unlooked shape.truth cells next live wild l = truth_gap cells next live wild l
  unlooked shape.no_value cells next live wild l = where_gap true cells next live wild l
  unlooked shape.closure cells next live wild l = where_gap true cells next live wild l
  unlooked (shape.struct h fields) cells next live wild l = where_gap (all_have_values fields) cells next live wild l
  unlooked (shape.enum h cases) cells next live wild l = unlooked_cases cases zero cells next live wild l

  unlooked_cases : (cases : Payloads) (k : ℕ) (cells : List TPat) (next : Later) (live : List Bool) → AllWild live cells → length live ≤ length cells
      → gap_in_cases cases k cells next live ≡ form_before (first_case cases k cells) (next live)
  unlooked_cases no_payloads k cells next live wild l = refl
  unlooked_cases (payloads ss cases) k cells next live wild l =
      ap (λ x. or_else (gathered k (count ss) (gap_in_payloads ss k zero cells next x)) (gap_in_cases cases (suc k) cells next live)) (narrowed_wild (head.Case k) live cells wild l)
      ∙ ap (λ r. or_else (gathered k (count ss) r) (gap_in_cases cases (suc k) cells next live)) (unlooked_payloads ss k zero cells next live wild l)
      ∙ ap (λ r. or_else r (gap_in_cases cases (suc k) cells next live)) (gathered_join k ss (first_forms ss k zero cells) (next live) (full ss k zero cells))
      ∙ ap (or_else (form_before (case_with k (first_forms ss k zero cells)) (next live))) (unlooked_cases cases (suc k) cells next live wild l)
      ∙ or_before (case_with k (first_forms ss k zero cells)) (first_case cases (suc k) cells) (next live)

  unlooked_payloads : (ss : Shapes) (k i : ℕ) (cells : List TPat) (next : Later) (live : List Bool) → AllWild live cells → length live ≤ length cells
      → gap_in_payloads ss k i cells next live ≡ join_all (first_forms ss k i cells) (next live)
  unlooked_payloads no_shapes k i cells next live wild l = join_none (next live)
  unlooked_payloads (shape.shape s ss) k i cells next live wild l =
      unlooked s (inside k i cells) (gap_in_payloads ss k (suc i) cells next) live (wild_inside k i live cells wild) (subst (λ n. length live ≤ n) (sym (length_inside k i cells)) l)
      ∙ ap (form_before (first_form s (inside k i cells))) (unlooked_payloads ss k (suc i) cells next live wild l)
      ∙ join_before_all (first_form s (inside k i cells)) (first_forms ss k (suc i) cells) (next live)

-- a case that no live pattern mentions
narrowed_length : (h : Head) (live : List Bool) (cells : List TPat) → length (narrowed h live cells) ≤ length cells
narrowed_length h [] cells = omega arith
narrowed_length h (l ∷ live) [] = omega arith
narrowed_length h (l ∷ live) (p ∷ cells) = omega (arith, narrowed_length h live cells)

pub unmentioned_case : (k : ℕ) (ss : Shapes) (cells : List TPat) (next : Later) (live : List Bool) → is_mentioned (head.Case k) live cells ≡ false
    → gathered k (count ss) (gap_in_payloads ss k zero cells next (narrowed (head.Case k) live cells)) ≡ form_before (case_with k (first_forms ss k zero cells)) (next (narrowed head.Other live cells))
unmentioned_case k ss cells next live e =
    ap (λ x. gathered k (count ss) (gap_in_payloads ss k zero cells next x)) (narrowed_same (head.Case k) live cells e)
    ∙ ap (gathered k (count ss)) (unlooked_payloads ss k zero cells next (narrowed head.Other live cells) (λ i l. (narrowed_live head.Other live cells i l).1) (narrowed_length head.Other live cells))
    ∙ gathered_join k ss (first_forms ss k zero cells) (next (narrowed head.Other live cells)) (full ss k zero cells)

-- types with a value have a first form, and others have none
or_first : (a b : Bool) → (a || b) ≡ false → a ≡ false
or_first true b e = false_true (sym e)
or_first false b e = refl

or_second : (a b : Bool) → (a || b) ≡ false → b ≡ false
or_second true b e = false_true (sym e)
or_second false b e = e

by_parts : {A : Type 0} (a b : Bool) → (a && b) ≡ false → (a ≡ false → A) → (b ≡ false → A) → A
by_parts false b e j k = j refl
by_parts true b e j k = k e

before_none : (f : Option TPat) → form_before f None ≡ None
before_none None = refl
before_none (Some f) = refl

mutual
  pub first_none : (s : Shape) (cells : List TPat) → has_value s ≡ false → first_form s cells ≡ None
  first_none shape.number cells e = false_true (sym e)
  first_none shape.truth cells e = false_true (sym e)
  first_none shape.no_value cells e = false_true (sym e)
  first_none shape.closure cells e = false_true (sym e)
  first_none (shape.struct h fields) cells e = ap any_where e
  first_none (shape.enum h cases) cells e = case_none cases zero cells e

  case_none : (cases : Payloads) (k : ℕ) (cells : List TPat) → one_has_values cases ≡ false → first_case cases k cells ≡ None
  case_none no_payloads k cells e = refl
  case_none (payloads ss cases) k cells e =
      ap (λ r. or_form (case_with k r) (first_case cases (suc k) cells)) (forms_none ss k zero cells (or_first (all_have_values ss) (one_has_values cases) e)) ∙ case_none cases (suc k) cells (or_second (all_have_values ss) (one_has_values cases) e)

  pub forms_none : (ss : Shapes) (k i : ℕ) (cells : List TPat) → all_have_values ss ≡ false → first_forms ss k i cells ≡ None
  forms_none no_shapes k i cells e = false_true (sym e)
  forms_none (shape.shape s ss) k i cells e =
      by_parts (has_value s) (all_have_values ss) e (λ a. ap (λ f. form_before f (first_forms ss k (suc i) cells)) (first_none s (inside k i cells) a))
      (λ b. ap (form_before (first_form s (inside k i cells))) (forms_none ss k (suc i) cells b) ∙ before_none (first_form s (inside k i cells)))

-- ---- weights

pub weight_positive : (s : Shape) → 1 ≤ weight s
weight_positive shape.number = omega arith
weight_positive shape.truth = omega arith
weight_positive shape.no_value = omega arith
weight_positive shape.closure = omega arith
weight_positive (shape.struct h fields) = omega arith
weight_positive (shape.enum h cases) = omega arith

pub payloads_weight : (ss : Shapes) (k i : ℕ) (cells : List TPat) (cs : List Column) → columns_weight (payload_columns ss k i cells ++ cs) ≡ weights ss + columns_weight cs
payloads_weight no_shapes k i cells cs = omega arith
payloads_weight (shape.shape s ss) k i cells cs = omega (arith, payloads_weight ss k (suc i) cells cs)

-- types with a value have a first form
abbrev pub HasSome : {A : Type 0} → Option A → Type 0
HasSome {A} o = (x : A) × (o ≡ Some x)

both_some : (f : Option TPat) (gs : Option TPats) → HasSome f → HasSome gs → HasSome (form_before f gs)
both_some f gs a b = (pat a.0 b.0, ap (λ x. form_before x gs) a.1 ∙ ap (form_before (Some a.0)) b.1)

case_some : (k : ℕ) (gs : Option TPats) → HasSome gs → HasSome (case_with k gs)
case_some k gs a = (of_case k a.0, ap (case_with k) a.1)

or_some : (f g : Option TPat) → HasSome g → HasSome (or_form f g)
or_some None g a = a
or_some (Some f) g a = (f, refl)

first_some_or : (f g : Option TPat) → HasSome f → HasSome (or_form f g)
first_some_or f g a = (a.0, ap (λ x. or_form x g) a.1)

pub by_both : {A : Type 0} (a b : Bool) → (a && b) ≡ true → (a ≡ true → b ≡ true → A) → A
by_both true b e k = k refl e
by_both false b e k = false_true e

pub by_either : {A : Type 0} (a b : Bool) → (a || b) ≡ true → (a ≡ true → A) → (b ≡ true → A) → A
by_either true b e j k = j refl
by_either false b e j k = k e

mutual
  first_some : (s : Shape) (cells : List TPat) → has_value s ≡ true → HasSome (first_form s cells)
  first_some shape.number cells e = (least_of (rising cells), refl)
  first_some shape.truth cells e = (of_truth false, refl)
  first_some shape.no_value cells e = (any, refl)
  first_some shape.closure cells e = (any, refl)
  first_some (shape.struct h fields) cells e = (any, ap any_where e)
  first_some (shape.enum h cases) cells e = some_case cases zero cells e

  some_case : (cases : Payloads) (k : ℕ) (cells : List TPat) → one_has_values cases ≡ true → HasSome (first_case cases k cells)
  some_case no_payloads k cells e = false_true e
  some_case (payloads ss cases) k cells e =
      by_either (all_have_values ss) (one_has_values cases) e
      (λ a. first_some_or (case_with k (first_forms ss k zero cells)) (first_case cases (suc k) cells) (case_some k (first_forms ss k zero cells) (forms_some ss k zero cells a)))
      (λ b. or_some (case_with k (first_forms ss k zero cells)) (first_case cases (suc k) cells) (some_case cases (suc k) cells b))

  pub forms_some : (ss : Shapes) (k i : ℕ) (cells : List TPat) → all_have_values ss ≡ true → HasSome (first_forms ss k i cells)
  forms_some no_shapes k i cells e = (no_pats, refl)
  forms_some (shape.shape s ss) k i cells e =
      by_both (has_value s) (all_have_values ss) e (λ a b. both_some (first_form s (inside k i cells)) (first_forms ss k (suc i) cells) (first_some s (inside k i cells) a) (forms_some ss k (suc i) cells b))

-- a case with a value that no live pattern mentions gives the answer
pub case_before_others : (k : ℕ) (ss : Shapes) (cells : List TPat) (next : Later) (live : List Bool) (others : TPats) (later : Option TPats)
    → is_mentioned (head.Case k) live cells ≡ false → all_have_values ss ≡ true → Some others ≡ next (narrowed head.Other live cells)
    → or_else (gathered k (count ss) (gap_in_payloads ss k zero cells next (narrowed (head.Case k) live cells))) later ≡ form_before (case_with k (first_forms ss k zero cells)) (Some others)
case_before_others k ss cells next live others later silent full e =
    let r = case_some k (first_forms ss k zero cells) (forms_some ss k zero cells full) in
    let found = ap (λ f. form_before f (Some others)) r.1 in
    ap (λ x. or_else x later) (unmentioned_case k ss cells next live silent ∙ ap (form_before (case_with k (first_forms ss k zero cells))) (sym e) ∙ found) ∙ sym found

-- ---- how many forms there are

abbrev pub pat_count : TPats → ℕ
pat_count no_pats = 0
pat_count (pat f fs) = suc (pat_count fs)

abbrev pub col_count : List Column → ℕ
col_count [] = 0
col_count (c ∷ cs) = suc (col_count cs)

forms_count : (cs : List Column) (fs : TPats) → Forms cs fs → pat_count fs ≡ col_count cs
forms_count [] no_pats h = refl
forms_count [] (pat f fs) h = absurd h
forms_count (c ∷ cs) no_pats h = absurd h
forms_count (c ∷ cs) (pat f fs) h = ap suc (forms_count cs fs h.1)

pub found_count : (cs : List Column) (live : List Bool) (fs : TPats) → gap_columns cs live ≡ Some fs → pat_count fs ≡ col_count cs
found_count cs live fs e = let g : Gap Everything cs live fs = subst (λ r. Exact cs live r) e (columns_exact cs live) in forms_count cs fs g.forms

pub payload_count : (ss : Shapes) (k i : ℕ) (cells : List TPat) (cs : List Column) → count ss ≤ col_count (payload_columns ss k i cells ++ cs)
payload_count no_shapes k i cells cs = omega arith
payload_count (shape.shape s ss) k i cells cs = omega (arith, payload_count ss k (suc i) cells cs)
