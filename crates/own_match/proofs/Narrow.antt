-- Which patterns are still live once a value is known to begin in a certain way.
use Rattle.std.proofs.Common.{◌≡◌, ℕ, zero, suc, ℤ, Bool, true, false, not, ◌&&◌, ◌==◌, List, [], ◌∷◌, Some, option_map, slice_get, if◌then◌else◌, inl, inr, refl, sym, ap, ◌∙◌, subst, int_eq, true≢false, eq-eqb, eqb-true}
use Rattle.std.proofs.lemmas.Option.{slice_get-map, same_Some, none-some}
use Rattle.std.specs.Cmp.{signed_Decides}
use Rattle.own_tree.specs.TypedSource.{TPat, any, bind, of_case, of_number, of_truth, TPats, no_pats, pat}
use Rattle.own_match.specs.declared.head.Head.{Head}
use Rattle.own_match.specs.declared.head.Head.TheVariants as head
use Rattle.own_match.specs.Values.{Val, int, bool, opaque, struct, variant, Vals, no_vals, val, Matches, AllMatch}
use Rattle.own_match.specs.Forms.{part_at, part, inside, literals}
use Rattle.own_match.specs.Search.{accepts, narrowed}
use Rattle.own_match.proofs.Order.{In}
use Rattle.own_match.proofs.Tuples.{IsLive, CellMatches, PartsMatch}

pub false_true : {A : Type 0} → false ≡ true → A
false_true e = absurd (true≢false (sym e))

-- ---- live patterns

abbrev pub CellAccepts : Head → List TPat → ℕ → Type 0
CellAccepts h cells i = (p : TPat) × (slice_get cells i ≡ Some p) × (accepts h p ≡ true)

pub narrowed_live : (h : Head) (live : List Bool) (cells : List TPat) (i : ℕ) → IsLive (narrowed h live cells) i → IsLive live i × CellAccepts h cells i
narrowed_live h [] cells i e = absurd (none-some _ e)
narrowed_live h (l ∷ live) [] i e = absurd (none-some _ e)
narrowed_live h (l ∷ live) (p ∷ cells) zero e = by_bit l (same_Some _ _ e)
  where
    by_bit : (b : Bool) → (b && accepts h p) ≡ true → (Some b ≡ Some true) × CellAccepts h (p ∷ cells) zero
    by_bit true a = (refl, (p, refl, a))
    by_bit false a = false_true a
narrowed_live h (l ∷ live) (p ∷ cells) (suc i) e = narrowed_live h live cells i e

pub live_narrowed : (h : Head) (live : List Bool) (cells : List TPat) (i : ℕ) → IsLive live i → CellAccepts h cells i → IsLive (narrowed h live cells) i
live_narrowed h [] cells i e a = e
live_narrowed h (l ∷ live) [] i e a = absurd (none-some _ a.1)
live_narrowed h (l ∷ live) (p ∷ cells) zero e a =
    ap Some (ap (λ b. b && accepts h p) (same_Some _ _ e) ∙ ap (accepts h) (same_Some _ _ a.1) ∙ a.2)
live_narrowed h (l ∷ live) (p ∷ cells) (suc i) e a = live_narrowed h live cells i e a

-- ---- what is accepted is what matches

equal_numbers : (m n : ℤ) → int_eq m n ≡ true → m ≡ n
equal_numbers m n e = (signed_Decides m n).0 e

numbers_equal : (m n : ℤ) → m ≡ n → int_eq m n ≡ true
numbers_equal m n e = (signed_Decides m n).1 e

pub number_matches : (n : ℤ) (p : TPat) → accepts (head.Number n) p ≡ true → Matches p (int n)
number_matches n any e = tt
number_matches n (bind x) e = tt
number_matches n (of_case c ps) e = false_true e
number_matches n (of_number m) e = equal_numbers m n e
number_matches n (of_truth b) e = false_true e

pub matches_number : (n : ℤ) (p : TPat) → Matches p (int n) → accepts (head.Number n) p ≡ true
matches_number n any m = refl
matches_number n (bind x) m = refl
matches_number n (of_case c ps) m = absurd m
matches_number n (of_number k) m = numbers_equal k n m
matches_number n (of_truth b) m = absurd m

pub truth_matches : (b : Bool) (p : TPat) → accepts (head.Truth b) p ≡ true → Matches p (bool b)
truth_matches true any e = tt
truth_matches false any e = tt
truth_matches true (bind x) e = tt
truth_matches false (bind x) e = tt
truth_matches true (of_case c ps) e = false_true e
truth_matches false (of_case c ps) e = false_true e
truth_matches true (of_number m) e = false_true e
truth_matches false (of_number m) e = false_true e
truth_matches true (of_truth c) e = e
truth_matches false (of_truth true) e = false_true e
truth_matches false (of_truth false) e = refl

pub matches_truth : (b : Bool) (p : TPat) → Matches p (bool b) → accepts (head.Truth b) p ≡ true
matches_truth true any m = refl
matches_truth false any m = refl
matches_truth true (bind x) m = refl
matches_truth false (bind x) m = refl
matches_truth true (of_case c ps) m = absurd m
matches_truth false (of_case c ps) m = absurd m
matches_truth true (of_number k) m = absurd m
matches_truth false (of_number k) m = absurd m
matches_truth true (of_truth c) m = m
matches_truth false (of_truth c) m = ap not m

-- of a value that no pattern looks at
pub anything_matches : (p : TPat) (v : Val) → accepts head.Other p ≡ true → Matches p v
anything_matches any v e = tt
anything_matches (bind x) v e = tt
anything_matches (of_case c ps) v e = false_true e
anything_matches (of_number m) v e = false_true e
anything_matches (of_truth b) v e = false_true e

pub matches_struct : (p : TPat) (vs : Vals) → Matches p (struct vs) → accepts head.Other p ≡ true
matches_struct any vs m = refl
matches_struct (bind x) vs m = refl
matches_struct (of_case c ps) vs m = absurd m
matches_struct (of_number k) vs m = absurd m
matches_struct (of_truth b) vs m = absurd m

pub matches_opaque : (p : TPat) → Matches p opaque → accepts head.Other p ≡ true
matches_opaque any m = refl
matches_opaque (bind x) m = refl
matches_opaque (of_case c ps) m = absurd m
matches_opaque (of_number k) m = absurd m
matches_opaque (of_truth b) m = absurd m

literal_in : (cells : List TPat) (i : ℕ) (n : ℤ) → slice_get cells i ≡ Some (of_number n) → In (literals cells) n
literal_in [] i n e = absurd (none-some _ e)
literal_in (p ∷ cells) zero n e = subst (λ q. In (literals (q ∷ cells)) n) (sym (same_Some _ _ e)) (inl refl)
literal_in (of_number m ∷ cells) (suc i) n e = inr (literal_in cells i n e)
literal_in (any ∷ cells) (suc i) n e = literal_in cells i n e
literal_in (bind x ∷ cells) (suc i) n e = literal_in cells i n e
literal_in (of_case c ps ∷ cells) (suc i) n e = literal_in cells i n e
literal_in (of_truth b ∷ cells) (suc i) n e = literal_in cells i n e

-- a number that is no literal of the column
pub matches_other : (cells : List TPat) (i : ℕ) (p : TPat) (n : ℤ) → slice_get cells i ≡ Some p → (In (literals cells) n → ⊥) → Matches p (int n) → accepts head.Other p ≡ true
matches_other cells i any n e apart m = refl
matches_other cells i (bind x) n e apart m = refl
matches_other cells i (of_case c ps) n e apart m = absurd m
matches_other cells i (of_number k) n e apart m = absurd (apart (literal_in cells i n (subst (λ j. slice_get cells i ≡ Some (of_number j)) m e)))
matches_other cells i (of_truth b) n e apart m = absurd m

-- ---- a case with its payloads

-- the parts from number n on match the payloads
abbrev PartsFrom : TPats → ℕ → Vals → Type 0
PartsFrom ps n no_vals = Unit {0}
PartsFrom ps n (val u us) = Matches (part_at ps n) u × PartsFrom ps (suc n) us

parts_later : (p : TPat) (ps : TPats) (n : ℕ) (us : Vals) → PartsFrom ps n us → PartsFrom (pat p ps) (suc n) us
parts_later p ps n no_vals h = tt
parts_later p ps n (val u us) h = (h.0, parts_later p ps (suc n) us h.1)

parts_sooner : (p : TPat) (ps : TPats) (n : ℕ) (us : Vals) → PartsFrom (pat p ps) (suc n) us → PartsFrom ps n us
parts_sooner p ps n no_vals h = tt
parts_sooner p ps n (val u us) h = (h.0, parts_sooner p ps (suc n) us h.1)

no_parts : (n : ℕ) (us : Vals) → PartsFrom no_pats n us
no_parts n no_vals = tt
no_parts n (val u us) = (tt, no_parts (suc n) us)

parts_match : (ps : TPats) (us : Vals) → AllMatch ps us → PartsFrom ps 0 us
parts_match no_pats us h = no_parts 0 us
parts_match (pat p ps) no_vals h = tt
parts_match (pat p ps) (val u us) h = (h.0, parts_later p ps 0 us (parts_match ps us h.1))

match_parts : (ps : TPats) (us : Vals) → PartsFrom ps 0 us → AllMatch ps us
match_parts no_pats us h = tt
match_parts (pat p ps) no_vals h = tt
match_parts (pat p ps) (val u us) h = (h.0, match_parts ps us (parts_sooner p ps 0 us h.1))

inside_at : (cells : List TPat) (i k n : ℕ) (p : TPat) → slice_get cells i ≡ Some p → slice_get (inside k n cells) i ≡ Some (part k n p)
inside_at cells i k n p e = slice_get-map (part k n) cells i ∙ ap (option_map (part k n)) e

-- a pattern that says nothing of the payloads matches them all
nothing_said : (cells : List TPat) (i k n : ℕ) (p : TPat) → slice_get cells i ≡ Some p → ((m : ℕ) → part k m p ≡ any) → (us : Vals) → PartsMatch cells i k n us
nothing_said cells i k n p e none no_vals = tt
nothing_said cells i k n p e none (val u us) =
    ((any, inside_at cells i k n p e ∙ ap Some (none n), tt), nothing_said cells i k (suc n) p e none us)

said : (cells : List TPat) (i k n : ℕ) (c : ℕ) (ps : TPats) → slice_get cells i ≡ Some (of_case c ps) → (c == k) ≡ true → (us : Vals) → PartsFrom ps n us → PartsMatch cells i k n us
said cells i k n c ps e same no_vals h = tt
said cells i k n c ps e same (val u us) h =
    ((part_at ps n, inside_at cells i k n (of_case c ps) e ∙ ap (λ b. Some (if b then part_at ps n else any)) same, h.0), said cells i k (suc n) c ps e same us h.1)

heard : (cells : List TPat) (i k n : ℕ) (c : ℕ) (ps : TPats) → slice_get cells i ≡ Some (of_case c ps) → (c == k) ≡ true → (us : Vals) → PartsMatch cells i k n us → PartsFrom ps n us
heard cells i k n c ps e same no_vals h = tt
heard cells i k n c ps e same (val u us) h =
    (subst (λ p. Matches p u) (same_Some _ _ (sym h.0.1 ∙ inside_at cells i k n (of_case c ps) e ∙ ap (λ b. Some (if b then part_at ps n else any)) same)) h.0.2, heard cells i k (suc n) c ps e same us h.1)

-- a pattern that matches a case is accepted, and its parts match
pub case_parts : (cells : List TPat) (i k : ℕ) (us : Vals) → CellMatches cells i (variant k us) → CellAccepts (head.Case k) cells i × PartsMatch cells i k 0 us
case_parts cells i k us (any, e, m) = ((any, e, refl), nothing_said cells i k 0 any e (λ n. refl) us)
case_parts cells i k us (bind x, e, m) = ((bind x, e, refl), nothing_said cells i k 0 (bind x) e (λ n. refl) us)
case_parts cells i k us (of_case c ps, e, m) =
    let same : (c == k) ≡ true = eq-eqb c k m.0 in
    ((of_case c ps, e, same), said cells i k 0 c ps e same us (parts_match ps us m.1))
case_parts cells i k us (of_number n, e, m) = absurd m
case_parts cells i k us (of_truth b, e, m) = absurd m

pub parts_case : (cells : List TPat) (i k : ℕ) (us : Vals) → CellAccepts (head.Case k) cells i → PartsMatch cells i k 0 us → CellMatches cells i (variant k us)
parts_case cells i k us (any, e, a) h = (any, e, tt)
parts_case cells i k us (bind x, e, a) h = (bind x, e, tt)
parts_case cells i k us (of_case c ps, e, a) h = (of_case c ps, e, (eqb-true c k a, match_parts ps us (heard cells i k 0 c ps e a us h)))
parts_case cells i k us (of_number n, e, a) h = false_true a
parts_case cells i k us (of_truth b, e, a) h = false_true a
