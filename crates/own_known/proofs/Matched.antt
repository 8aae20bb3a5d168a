-- That the matching of runs is that of coverage.
use Rattle.std.specs.Prelude.{◌≡◌, ◌↔◌, ℕ, ◌==◌, ℤ, Bool, true, false}
use Rattle.std.proofs.Common.{refl, sym, ◌∙◌, arith}
use Rattle.std.proofs.lemmas.Grind.{common_steps}
use Rattle.own_tree.specs.TypedSource.{TPat, any, bind, of_case, of_number, of_truth, TPats, no_pats, pat}
use Rattle.own_match.specs.Values.{Matches, AllMatch}
use Rattle.own_runs.specs.Arithmetic.{same_truth}
use Rattle.own_runs.specs.Patterns.{matches, all_match, both_match}
use Rattle.own_runs.specs.Values.{Val, int, bool, unit, struct, variant, hole, Vals, no_vals, val, Found, found, hollow, nowhere, and_then}
use Rattle.own_ways.specs.Arithmetic.{same}
use Rattle.own_known.specs.Laws.{MatchingIsOne}
use Rattle.own_known.specs.Matching.{seen_value, seen_values}

-- ---- single tests

same_number : (n m : ℤ) → same n m ≡ true → n ≡ m
same_number n m e = grind (arith, common_steps)

itself : (n m : ℤ) → n ≡ m → same n m ≡ true
itself n m e = grind (arith, common_steps)

same_case : (n m : ℕ) → (n == m) ≡ true → n ≡ m
same_case n m e = grind (arith, common_steps)

case_itself : (n m : ℕ) → n ≡ m → (n == m) ≡ true
case_itself n m e = grind (arith, common_steps)

same_bool : (b c : Bool) → same_truth b c ≡ true → b ≡ c
same_bool true true e = refl
same_bool true false e = cc
same_bool false true e = cc
same_bool false false e = refl

bool_itself : (b c : Bool) → b ≡ c → same_truth b c ≡ true
bool_itself true true e = refl
bool_itself true false e = cc
bool_itself false true e = cc
bool_itself false false e = refl

found_same : (a b : Bool) → found a ≡ found b → a ≡ b
found_same a b e = cc

false_true : false ≡ true → ⊥
false_true e = cc

-- a test that was found, of a fact
abbrev Says : Bool → Type 0 → Type 0
Says b M = b ≡ true ↔ M

by_test : (t b : Bool) (M : Type 0) → (t ≡ true → M) → (M → t ≡ true) → found t ≡ found b → Says b M
by_test t b M to from e = ((λ h. to (found_same t b e ∙ h)), λ m. sym (found_same t b e) ∙ from m)

-- ---- two tests

both_says : (b : Bool) (M N : Type 0) (t : Bool) (r : Found Bool) → Says t M
    → ((c : Bool) → r ≡ found c → Says c N) → both_match t r ≡ found b → Says b (M × N)
both_says b M N true r first rest e = let n = rest b e in ((λ h. (first.0 refl, n.0 h)), λ m. n.1 m.1)
both_says b M N false r first rest e =
    ((λ h. absurd (false_true (found_same false b e ∙ h))), λ m. absurd (false_true (first.1 m.0)))

then_says : (b : Bool) (M N : Type 0) (first : Found Bool) (r : Found Bool) → ((c : Bool) → first ≡ found c → Says c M)
    → ((c : Bool) → r ≡ found c → Says c N) → and_then first (λ t. both_match t r) ≡ found b → Says b (M × N)
then_says b M N (found t) r first rest e = both_says b M N t r (first t refl) rest e
then_says b M N hollow r first rest e = absurd (cc)
then_says b M N nowhere r first rest e = absurd (cc)

nothing_asked : (b : Bool) → found true ≡ found b → Says b (Unit {0})
nothing_asked b e = ((λ h. tt), λ u. sym (found_same true b e))

-- ---- patterns

mutual
  pattern_says : (p : TPat) (v : Val) (b : Bool) → matches p v ≡ found b → Says b (Matches p (seen_value v))
  pattern_says any v b e = nothing_asked b e
  pattern_says (bind x) v b e = nothing_asked b e
  pattern_says (of_case c ps) (variant present vs) b e =
      both_says b (c ≡ present) (AllMatch ps (seen_values vs)) (c == present) (all_match ps vs)
      (same_case c present, case_itself c present) (parts_say ps vs) e
  pattern_says (of_case c ps) hole b e = absurd (cc)
  pattern_says (of_case c ps) (int n) b e = absurd (cc)
  pattern_says (of_case c ps) (bool t) b e = absurd (cc)
  pattern_says (of_case c ps) unit b e = absurd (cc)
  pattern_says (of_case c ps) (struct type i vs) b e = absurd (cc)
  pattern_says (of_number n) (int m) b e = by_test (same n m) b (n ≡ m) (same_number n m) (itself n m) e
  pattern_says (of_number n) hole b e = absurd (cc)
  pattern_says (of_number n) (bool t) b e = absurd (cc)
  pattern_says (of_number n) unit b e = absurd (cc)
  pattern_says (of_number n) (struct type i vs) b e = absurd (cc)
  pattern_says (of_number n) (variant present vs) b e = absurd (cc)
  pattern_says (of_truth t) (bool c) b e = by_test (same_truth t c) b (t ≡ c) (same_bool t c) (bool_itself t c) e
  pattern_says (of_truth t) hole b e = absurd (cc)
  pattern_says (of_truth t) (int n) b e = absurd (cc)
  pattern_says (of_truth t) unit b e = absurd (cc)
  pattern_says (of_truth t) (struct type i vs) b e = absurd (cc)
  pattern_says (of_truth t) (variant present vs) b e = absurd (cc)

  parts_say : (ps : TPats) (vs : Vals) (b : Bool) → all_match ps vs ≡ found b → Says b (AllMatch ps (seen_values vs))
  parts_say no_pats no_vals b e = nothing_asked b e
  parts_say (pat p ps) (val v vs) b e =
      then_says b (Matches p (seen_value v)) (AllMatch ps (seen_values vs)) (matches p v) (all_match ps vs)
      (pattern_says p v) (parts_say ps vs) e
  parts_say no_pats (val v vs) b e = absurd (cc)
  parts_say (pat p ps) no_vals b e = absurd (cc)

pub matching_is_one : MatchingIsOne
matching_is_one p v b e = pattern_says p v b e
