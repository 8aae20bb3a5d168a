-- What a character begins: the classes do not overlap.
use Rattle.std.proofs.Common.{◌≡◌, ℕ, ◌≤◌, ◌<◌, Bool, true, false, not, ◌&&◌, ◌||◌, ◌==◌, ◌∷◌, None, Ok, inl, inr, refl, ap, ◌∙◌, arith, ltb}
use Rattle.std.proofs.lemmas.Bool.{ltb-true, ltb-false, eqb-true, both_ways, not-true, or_cases, and_parts, le-ltb, agree_below_at}
use Rattle.std.specs.Char.{is_ascii_alphabetic}
use Rattle.unicode_ident.proofs.IdentLemmas.{is_xid_start-ascii}
use Rattle.own_tree.specs.Characters.{Text, is_line_end, is_white, starts_name, is_digit, is_quote, first_is, opens_line_comment, opens_comment}
use Rattle.own_lex.specs.Reading.{blank_at}
use Rattle.own_lex.proofs.LawsMarks.{is_punctuation}

-- ---- one character

-- the classes of an ASCII character
abbrev name_start : ℕ → Bool
name_start c = c == 95 || is_ascii_alphabetic c

abbrev implies : Bool → Bool → Bool
implies a b = not a || b

abbrev punctuation_apart : ℕ → Bool
punctuation_apart c = implies (is_punctuation c) (not (name_start c) && (not (is_digit 10 c) && (not (is_quote c) && not (is_white c))))

abbrev digit_apart : ℕ → Bool
digit_apart c = implies (is_digit 10 c) (not (name_start c) && (not (is_quote c) && (not (is_white c) && not (c == 47))))

abbrev quote_apart : ℕ → Bool
quote_apart c = implies (is_quote c) (not (name_start c) && (not (is_digit 10 c) && (not (is_white c) && not (c == 47))))

abbrev blank_apart : ℕ → Bool
blank_apart c = implies (is_white c || c == 47) (not (name_start c))

implied : (a b : Bool) → implies a b ≡ true → a ≡ true → b ≡ true
implied true b e t = e
implied false b e t = absurd cc

starts-ascii : (c : ℕ) → c < 128 → starts_name c ≡ name_start c
starts-ascii c h = ap (λ b. c == 95 || b) (is_xid_start-ascii c h)

no_start : (c : ℕ) → c < 128 → not (name_start c) ≡ true → starts_name c ≡ false
no_start c h e = starts-ascii c h ∙ not-true (name_start c) e

pub digit_low : (c : ℕ) → is_digit 10 c ≡ true → c < 128
digit_low c e = by_test (ltb c 128) refl
  where
    by_test : (b : Bool) → ltb c 128 ≡ b → c < 128
    by_test true t = ltb-true c 128 t
    by_test false t =
        let big : 128 ≤ c = ltb-false c 128 t in
        let t1 : ltb c 48 ≡ false = le-ltb c 48 (omega arith) in
        let t2 : ltb c 58 ≡ false = le-ltb c 58 (omega arith) in
        let t3 : ltb c 65 ≡ false = le-ltb c 65 (omega arith) in
        let t4 : ltb c 91 ≡ false = le-ltb c 91 (omega arith) in
        let t5 : ltb c 97 ≡ false = le-ltb c 97 (omega arith) in
        let t6 : ltb c 123 ≡ false = le-ltb c 123 (omega arith) in
        let no : false ≡ true = rw (t1, t2, t3, t4, t5, t6) at e in
        absurd cc

-- a digit
pub record Digit (c : ℕ) : Type 0 where
  pub no_name : starts_name c ≡ false
  pub no_white : is_white c ≡ false
  pub no_slash : (c == 47) ≡ false

pub digit_is : (c : ℕ) → is_digit 10 c ≡ true → Digit c
digit_is c e =
    let low = digit_low c e in
    let has = and_parts _ _ (implied _ _ (agree_below_at digit_apart (λ d. true) 128 c refl low) e) in
    let more = and_parts _ _ has.1 in
    let last = and_parts _ _ more.1 in
    record { no_name = no_start c low has.0; no_white = not-true _ last.0; no_slash = not-true _ last.1 }

-- a quote
pub record Quote (c : ℕ) : Type 0 where
  pub no_name : starts_name c ≡ false
  pub no_digit : is_digit 10 c ≡ false
  pub no_white : is_white c ≡ false
  pub no_slash : (c == 47) ≡ false

pub quote_is : (c : ℕ) → is_quote c ≡ true → Quote c
quote_is c e =
    let at : c ≡ 34 = eqb-true c 34 e in
    let low : c < 128 = omega arith in
    let has = and_parts _ _ (implied _ _ (agree_below_at quote_apart (λ d. true) 128 c refl low) e) in
    let more = and_parts _ _ has.1 in
    let last = and_parts _ _ more.1 in
    record { no_name = no_start c low has.0; no_digit = not-true _ more.0; no_white = not-true _ last.0; no_slash = not-true _ last.1 }

-- a mark's first character
pub record Punctuation (c : ℕ) : Type 0 where
  pub no_name : starts_name c ≡ false
  pub no_digit : is_digit 10 c ≡ false
  pub no_quote : is_quote c ≡ false
  pub no_white : is_white c ≡ false

pub punctuation_is : (c : ℕ) → is_punctuation c ≡ true → Punctuation c
punctuation_is c e =
    let low = ltb-true c 128 (and_parts _ _ e).0 in
    let has = and_parts _ _ (implied _ _ (agree_below_at punctuation_apart (λ d. true) 128 c refl low) e) in
    let more = and_parts _ _ has.1 in
    let last = and_parts _ _ more.1 in
    record { no_name = no_start c low has.0; no_digit = not-true _ more.0; no_quote = not-true _ last.0; no_white = not-true _ last.1 }

-- a start character
pub record Start (c : ℕ) : Type 0 where
  pub no_white : is_white c ≡ false
  pub no_slash : (c == 47) ≡ false

white_low : (c : ℕ) → is_white c ≡ true → c < 128
white_low c e = elim (or_cases (c == 32 || c == 9) (is_line_end c) e) [
  | inl x ↦ elim (or_cases (c == 32) (c == 9) x) [ inl y ↦ (let at = eqb-true c 32 y in omega arith) | inr y ↦ (let at = eqb-true c 9 y in omega arith) ]
  | inr x ↦ elim (or_cases (c == 10) (c == 13) x) [ inl y ↦ (let at = eqb-true c 10 y in omega arith) | inr y ↦ (let at = eqb-true c 13 y in omega arith) ]
]

blank_start : (c : ℕ) → c < 128 → (is_white c || c == 47) ≡ true → starts_name c ≡ false
blank_start c low e =
    no_start c low (implied (is_white c || c == 47) (not (name_start c)) (agree_below_at blank_apart (λ d. true) 128 c refl low) e)

either_left : (a b : Bool) → a ≡ true → (a || b) ≡ true
either_left a b e = rw e refl

either_right : (a b : Bool) → b ≡ true → (a || b) ≡ true
either_right true b e = refl
either_right false b e = e

pub start_is : (c : ℕ) → starts_name c ≡ true → Start c
start_is c e = record { no_white = white (is_white c) refl; no_slash = slash (c == 47) refl }
  where
    white : (b : Bool) → is_white c ≡ b → b ≡ false
    white true t = absurd (both_ways (starts_name c) (blank_start c (white_low c t) (either_left (is_white c) (c == 47) t)) e)
    white false t = refl

    slash : (b : Bool) → (c == 47) ≡ b → b ≡ false
    slash true t = let at = eqb-true c 47 t in absurd (both_ways (starts_name c) (blank_start c (omega arith) (either_right (is_white c) (c == 47) t)) e)
    slash false t = refl

-- ---- no white space and no comment

pub blank_none : (cs : Text) → first_is is_white cs ≡ false → opens_line_comment cs ≡ false → opens_comment cs ≡ false → blank_at cs ≡ Ok None
unfolding blank_at
blank_none cs w l o = rw (w, l, o) refl

pub no_comment : (c : ℕ) (cs : Text) → is_white c ≡ false → (c == 47) ≡ false → blank_at (c ∷ cs) ≡ Ok None
no_comment c cs w s = blank_none (c ∷ cs) w (rw s refl) (rw s refl)
