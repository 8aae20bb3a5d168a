-- What is left after white space, a comment or a token is shorter, so the bound on the length of a text does not count.
use Rattle.std.proofs.Common.{◌≡◌, ℕ, zero, suc, ◌+◌, ◌≤◌, ◌<◌, Bool, cond, true, false, not, ◌&&◌, ◌||◌, ◌==◌, List, [], ◌∷◌, ◌++◌, length, drop, map, Option, Some, None, Ok, Err, ◌⊎◌, inl, inr, refl, sym, ap, ◌∙◌, arith, codes, length-drop, ◌-◌}
use Rattle.std.specs.Char.{encode_utf8}
use Rattle.own_tree.specs.declared.limits.TheConstants.{MOST_TOKENS}
use Rattle.own_tree.specs.declared.token.Token.{Token}
use Rattle.own_tree.specs.declared.token.Kind.{Kind}
use Rattle.own_tree.specs.declared.token.Kind.TheVariants as kind
use Rattle.own_tree.specs.declared.token.Mark.{Mark}
use Rattle.own_tree.specs.Characters.{Text, bytes_of, is_line_end, is_white, starts_name, continues_name, is_digit, after, is_over, first_is, past, begins, opens_line_comment, opens_comment, closes_comment}
use Rattle.own_tree.specs.Tokens.{prefix, prefixed, digits, in_number, gives_space, token_of}
use Rattle.own_lex.specs.declared.fault.Fault.TheVariants as fault
use Rattle.own_lex.specs.declared.mark.TheConstants.{MARKS}
use Rattle.own_lex.specs.Reading.{Bytes, Read, ◌>>=◌, on_some, Blank, blank_at, comment_end, name_on, name_of, name_at, with_digit, number_on, number_end, number_at, text_on, text_within, text_at, first_mark, longest_mark, mark_at, token_at, character_at, Reader, token_step, lex_step, lex_within, lex_on}
use Rattle.own_lex.proofs.Comments.{step_close, step_end, step_open, step_pass, step_none, step_empty}
use Rattle.own_lex.proofs.Texts.{kept, after_le, character_less}

pub after_less : (p : ℕ → Bool) (cs : Text) → first_is p cs ≡ true → length (after cs) < length cs
after_less p [] e = absurd cc
after_less p (c ∷ cs) e = omega arith

pub past_le : (p : ℕ → Bool) (cs : Text) → length (past p cs) ≤ length cs
unfolding past
past_le p [] = omega arith
past_le p (c ∷ cs) = by_test (p c) refl (past_le p cs)
  where
    by_test : (b : Bool) → p c ≡ b → length (past p cs) ≤ length cs → length (past p (c ∷ cs)) ≤ length (c ∷ cs)
    by_test true t le = rw t (omega arith)
    by_test false t le = rw t (omega arith)

begins_less : (b : ℕ) (bs : List ℕ) (cs : Text) → begins (b ∷ bs) cs ≡ true → length (after cs) < length cs
begins_less b bs [] e = absurd cc
begins_less b bs (c ∷ cs) e = omega arith

tells : (b : Bool) → (b ≡ true) ⊎ (b ≡ false)
tells true = inl refl
tells false = inr refl

comment_le : (cs : Text) (n : ℕ) (line : Bool) (x : Blank) → comment_end n line cs ≡ Some x → length x.1 ≤ length cs
comment_le [] n line x e = let none : None ≡ Some x = sym (step_empty n line) ∙ e in absurd cc
comment_le (c ∷ []) n line x e = let none : None ≡ Some x = sym (step_none n line c) ∙ e in absurd cc
comment_le (c ∷ d ∷ cs) zero line x e = elim (tells (closes_comment (c ∷ d ∷ cs))) [
  | inl y ↦ (let is : Some (line, cs) ≡ Some x = sym (step_end line c d cs y) ∙ e in let same : (line, cs) ≡ x = cc in rw (← same) (omega arith))
  | inr y ↦ elim (tells (opens_comment (c ∷ d ∷ cs))) [
    | inl z ↦ (let le = comment_le cs 1 line x (sym (step_open 0 line c d cs y z) ∙ e) in omega arith)
    | inr z ↦ (let le = comment_le (d ∷ cs) 0 (line || is_line_end c) x (sym (step_pass 0 line c d cs y z) ∙ e) in omega arith)
  ]
]
comment_le (c ∷ d ∷ cs) (suc n) line x e = elim (tells (closes_comment (c ∷ d ∷ cs))) [
  | inl y ↦ (let less : suc n - 1 ≡ n = omega arith in let le = comment_le cs n line x (ap (λ (k : ℕ). comment_end k line cs) (sym less) ∙ sym (step_close (suc n) line c d cs y (omega arith)) ∙ e) in omega arith)
  | inr y ↦ elim (tells (opens_comment (c ∷ d ∷ cs))) [
    | inl z ↦ (let more : suc n + 1 ≡ suc (suc n) = omega arith in let le = comment_le cs (suc (suc n)) line x (ap (λ (k : ℕ). comment_end k line cs) (sym more) ∙ sym (step_open (suc n) line c d cs y z) ∙ e) in omega arith)
    | inr z ↦ (let le = comment_le (d ∷ cs) (suc n) (line || is_line_end c) x (sym (step_pass (suc n) line c d cs y z) ∙ e) in omega arith)
  ]
]

pub blank_less : (cs : Text) (x : Blank) → blank_at cs ≡ Ok (Some x) → length x.1 < length cs
unfolding blank_at
blank_less cs x e = white (first_is is_white cs) refl e
  where
    found : (r : Option Blank) → comment_end 0 false (after (after cs)) ≡ r → opens_comment cs ≡ true → on_some {A = Blank} {B = Read (Option Blank)} r (λ y. Ok (Some y)) (Err (fault.OpenComment (bytes_of cs))) ≡ Ok (Some x) → length x.1 < length cs
    found None is t e = absurd cc
    found (Some y) is t e = let same : y ≡ x = cc in let le = comment_le (after (after cs)) 0 false y is in let a = after_le (after cs) in let b = begins_less 47 (42 ∷ []) cs t in rw (← same) (omega arith)

    comment : (b : Bool) → opens_comment cs ≡ b → cond b (on_some {A = Blank} {B = Read (Option Blank)} (comment_end 0 false (after (after cs))) (λ y. Ok (Some y)) (Err (fault.OpenComment (bytes_of cs)))) (Ok None) ≡ Ok (Some x) → length x.1 < length cs
    comment true t e = found (comment_end 0 false (after (after cs))) refl t e
    comment false t e = absurd cc

    line : (b : Bool) → opens_line_comment cs ≡ b → cond b (Ok (Some (false, past (λ c. not (is_line_end c)) (after (after cs))))) (cond (opens_comment cs) (on_some {A = Blank} {B = Read (Option Blank)} (comment_end 0 false (after (after cs))) (λ y. Ok (Some y)) (Err (fault.OpenComment (bytes_of cs)))) (Ok None)) ≡ Ok (Some x) → length x.1 < length cs
    line true t e = let same : (false, past (λ c. not (is_line_end c)) (after (after cs))) ≡ x = cc in let le = past_le (λ c. not (is_line_end c)) (after (after cs)) in let a = after_le (after cs) in let b = begins_less 47 (47 ∷ []) cs t in rw (← same) (omega arith)
    line false t e = comment (opens_comment cs) refl e

    white : (b : Bool) → first_is is_white cs ≡ b → cond b (Ok (Some (first_is is_line_end cs, after cs))) (cond (opens_line_comment cs) (Ok (Some (false, past (λ c. not (is_line_end c)) (after (after cs))))) (cond (opens_comment cs) (on_some {A = Blank} {B = Read (Option Blank)} (comment_end 0 false (after (after cs))) (λ y. Ok (Some y)) (Err (fault.OpenComment (bytes_of cs)))) (Ok None))) ≡ Ok (Some x) → length x.1 < length cs
    white true t e = let same : (first_is is_line_end cs, after cs) ≡ x = cc in rw (← same) (after_less is_white cs t)
    white false t e = line (opens_line_comment cs) refl e

-- ---- tokens

name_on_le : (cs : Text) (found : Bytes) → length (name_on found cs).1 ≤ length cs
unfolding name_on
name_on_le [] found = omega arith
name_on_le (c ∷ cs) found = by_test (continues_name c) refl (name_on_le cs (found ++ encode_utf8 c))
  where
    by_test : (b : Bool) → continues_name c ≡ b → length (name_on (found ++ encode_utf8 c) cs).1 ≤ length cs → length (name_on found (c ∷ cs)).1 ≤ length (c ∷ cs)
    by_test true t le = rw t (omega arith)
    by_test false t le = rw t (omega arith)

name_less : (cs : Text) (x : Kind × Text) → name_at cs ≡ Ok x → length x.1 < length cs
unfolding name_at
name_less [] x e = absurd cc
name_less (c ∷ cs) x e =
    let same : name_of (name_on (encode_utf8 c) cs) ≡ x = cc in
    let le = name_on_le cs (encode_utf8 c) in
    rw (← same) (omega arith)

number_on_le : (base : ℕ) (cs : Text) (n : Option ℕ) → length (number_on base n cs).1 ≤ length cs
unfolding number_on
number_on_le base [] n = omega arith
number_on_le base (c ∷ cs) n = by_test (in_number base c) refl (number_on_le base cs (with_digit base n c))
  where
    by_test : (b : Bool) → in_number base c ≡ b → length (number_on base (with_digit base n c) cs).1 ≤ length cs → length (number_on base n (c ∷ cs)).1 ≤ length (c ∷ cs)
    by_test true t le = rw t (omega arith)
    by_test false t le = rw t (omega arith)

number_on_less : (base : ℕ) (cs : Text) (n : Option ℕ) → first_is (is_digit base) cs ≡ true → length (number_on base n cs).1 < length cs
unfolding number_on
number_on_less base [] n e = absurd cc
number_on_less base (c ∷ cs) n e = let le = number_on_le base cs (with_digit base n c) in let t : in_number base c ≡ true = rw e refl in rw t (omega arith)

digits_less : (cs : Text) → first_is (is_digit 10) cs ≡ true → length (number_on (digits cs).0 (Some 0) (digits cs).1).1 < length cs
digits_less cs t = go (prefix cs)
  where
    by_test : (base : ℕ) (b : Bool) → first_is (is_digit base) (after (after cs)) ≡ b → length (number_on (prefixed (Some base) cs).0 (Some 0) (prefixed (Some base) cs).1).1 < length cs
    by_test base true s = rw s (let less = number_on_less base (after (after cs)) (Some 0) s in let a = after_le (after cs) in let b = after_le cs in omega arith)
    by_test base false s = rw s (number_on_less 10 cs (Some 0) t)

    go : (p : Option ℕ) → length (number_on (prefixed p cs).0 (Some 0) (prefixed p cs).1).1 < length cs
    go None = number_on_less 10 cs (Some 0) t
    go (Some base) = by_test base (first_is (is_digit base) (after (after cs))) refl

number_less : (cs : Text) (x : Kind × Text) → first_is (is_digit 10) cs ≡ true → number_at cs ≡ Ok x → length x.1 < length cs
unfolding number_at
number_less cs x t e = go (number_on (digits cs).0 (Some 0) (digits cs).1) refl e
  where
    go : (y : Option ℕ × Text) → number_on (digits cs).0 (Some 0) (digits cs).1 ≡ y → number_end cs y ≡ Ok x → length x.1 < length cs
    go (None, to) is e = absurd cc
    go (Some n, to) is e =
        let k = kept (first_is continues_name to) (fault.BadChar (bytes_of to)) (Ok (kind.Number n, to)) x e in
        let ok : Ok (kind.Number n, to) ≡ Ok x = k.1 in
        let same : (kind.Number n, to) ≡ x = cc in
        let less : length (number_on (digits cs).0 (Some 0) (digits cs).1).1 < length cs = digits_less cs t in
        let at : length (number_on (digits cs).0 (Some 0) (digits cs).1).1 ≡ length to = ap (λ (z : Option ℕ × Text). length z.1) is in
        rw (← same) (omega arith)

text_within_le : (n start : ℕ) (found : Bytes) (cs : Text) (x : Bytes × Text) → text_within n start found cs ≡ Ok x → length x.1 ≤ length cs
unfolding text_within
text_within_le zero start found cs x e = absurd cc
text_within_le (suc n) start found cs x e = by_test (begins (codes "\"") cs) e (λ f ds y. text_within_le n start f ds y)
  where
    go : (r : Read (ℕ × Text)) → character_at start cs ≡ r → (r >>= λ y. text_within n start (found ++ encode_utf8 y.0) y.1) ≡ Ok x → ((f : Bytes) (ds : Text) (y : Bytes × Text) → text_within n start f ds ≡ Ok y → length y.1 ≤ length ds) → length x.1 ≤ length cs
    go (Ok y) is e le = let a = le (found ++ encode_utf8 y.0) y.1 x e in let b = character_less start cs y is in omega arith
    go (Err f) is e le = absurd cc

    by_test : (b : Bool) → cond b (Ok (found, after cs)) (character_at start cs >>= λ y. text_within n start (found ++ encode_utf8 y.0) y.1) ≡ Ok x → ((f : Bytes) (ds : Text) (y : Bytes × Text) → text_within n start f ds ≡ Ok y → length y.1 ≤ length ds) → length x.1 ≤ length cs
    by_test true e le = let same : (found, after cs) ≡ x = cc in rw (← same) (after_le cs)
    by_test false e le = go (character_at start cs) refl e le

text_less : (cs : Text) (x : Kind × Text) → begins (codes "\"") cs ≡ true → text_at cs ≡ Ok x → length x.1 < length cs
unfolding text_at text_on
text_less cs x t e = go (text_on (bytes_of cs) [] (after cs)) refl e
  where
    go : (r : Read (Bytes × Text)) → text_on (bytes_of cs) [] (after cs) ≡ r → (r >>= λ (y : Bytes × Text). let z : Kind × Text = (kind.Text y.0, y.1) in let ok : Read (Kind × Text) = Ok z in ok) ≡ Ok x → length x.1 < length cs
    go (Ok y) is e = let same : (kind.Text y.0, y.1) ≡ x = cc in let le = text_within_le (suc (length (after cs))) (bytes_of cs) [] (after cs) y is in let b = begins_less 34 [] cs t in rw (← same) (omega arith)
    go (Err f) is e = absurd cc

-- a mark has a character
abbrev is_full : List ℕ → Bool
is_full [] = false
is_full (b ∷ bs) = true

abbrev all_full : List (Bytes × Mark) → Bool
all_full [] = true
all_full (e ∷ es) = is_full e.0 && all_full es

marks_full : all_full (map (λ e. (e.0.now, e.1)) MARKS) ≡ true
marks_full = refl

drop_less : (bs : List ℕ) (cs : Text) → is_full bs ≡ true → begins bs cs ≡ true → length (drop (length bs) cs) < length cs
drop_less [] cs full e = absurd cc
drop_less (b ∷ bs) [] full e = absurd cc
drop_less (b ∷ bs) (c ∷ cs) full e = let le = length-drop (length bs) cs in omega arith

and_both : (a b : Bool) → (a && b) ≡ true → (a ≡ true) × (b ≡ true)
and_both true b e = (refl, e)
and_both false b e = absurd cc

first_mark_less : (table : List (Bytes × Mark)) (cs : Text) (x : Mark × Text) → all_full table ≡ true → first_mark table cs ≡ Some x → length x.1 < length cs
first_mark_less [] cs x full e = absurd cc
first_mark_less (m ∷ ms) cs x full e = by_test (begins m.0 cs) refl e (first_mark_less ms cs x (and_both (is_full m.0) (all_full ms) full).1)
  where
    by_test : (b : Bool) → begins m.0 cs ≡ b → cond b (Some (m.1, drop (length m.0) cs)) (first_mark ms cs) ≡ Some x → (first_mark ms cs ≡ Some x → length x.1 < length cs) → length x.1 < length cs
    by_test true t e less = let same : (m.1, drop (length m.0) cs) ≡ x = cc in rw (← same) (drop_less m.0 cs (and_both (is_full m.0) (all_full ms) full).0 t)
    by_test false t e less = less e

mark_less : (cs : Text) (x : Kind × Text) → mark_at cs ≡ Ok x → length x.1 < length cs
unfolding mark_at longest_mark
mark_less cs x e = go (longest_mark cs) refl e
  where
    go : (r : Option (Mark × Text)) → longest_mark cs ≡ r → on_some {A = Mark × Text} {B = Read (Kind × Text)} r (λ y. Ok (kind.Mark y.0, y.1)) (Err (fault.BadChar (bytes_of cs))) ≡ Ok x → length x.1 < length cs
    go None is e = absurd cc
    go (Some y) is e = let same : (kind.Mark y.0, y.1) ≡ x = cc in let less = first_mark_less (map (λ m. (m.0.now, m.1)) MARKS) cs y marks_full is in rw (← same) less

pub token_less : (cs : Text) (x : Kind × Text) → token_at cs ≡ Ok x → length x.1 < length cs
unfolding token_at
token_less cs x e = name (first_is starts_name cs) e
  where
    text : (b : Bool) → begins (codes "\"") cs ≡ b → cond b (text_at cs) (mark_at cs) ≡ Ok x → length x.1 < length cs
    text true t e = text_less cs x t e
    text false t e = mark_less cs x e

    number : (b : Bool) → first_is (is_digit 10) cs ≡ b → cond b (number_at cs) (cond (begins (codes "\"") cs) (text_at cs) (mark_at cs)) ≡ Ok x → length x.1 < length cs
    number true t e = number_less cs x t e
    number false t e = text (begins (codes "\"") cs) refl e

    name : (b : Bool) → cond b (name_at cs) (cond (first_is (is_digit 10) cs) (number_at cs) (cond (begins (codes "\"") cs) (text_at cs) (mark_at cs))) ≡ Ok x → length x.1 < length cs
    name true e = name_less cs x e
    name false e = number (first_is (is_digit 10) cs) refl e

-- ---- the bound

token_same : (k l : Reader) (total : ℕ) (found : List Token) (space line : Bool) (cs : Text) → ((f : List Token) (s n : Bool) (ds : Text) → length ds < length cs → k f s n ds ≡ l f s n ds) → token_step k total found space line cs ≡ token_step l total found space line cs
unfolding token_step
token_same k l total found space line cs same = go (token_at cs) refl
  where
    many : (b : Bool) (t : Kind × Text) → token_at cs ≡ Ok t → cond b (Err (fault.TooManyTokens (bytes_of cs))) (k (found ++ token_of total t.0 cs t.1 space line ∷ []) (gives_space t.0) false t.1) ≡ cond b (Err (fault.TooManyTokens (bytes_of cs))) (l (found ++ token_of total t.0 cs t.1 space line ∷ []) (gives_space t.0) false t.1)
    many true t is = refl
    many false t is = same (found ++ token_of total t.0 cs t.1 space line ∷ []) (gives_space t.0) false t.1 (token_less cs t is)

    go : (r : Read (Kind × Text)) → token_at cs ≡ r → (r >>= λ t. cond (length found == MOST_TOKENS) (Err (fault.TooManyTokens (bytes_of cs))) (k (found ++ token_of total t.0 cs t.1 space line ∷ []) (gives_space t.0) false t.1)) ≡ (r >>= λ t. cond (length found == MOST_TOKENS) (Err (fault.TooManyTokens (bytes_of cs))) (l (found ++ token_of total t.0 cs t.1 space line ∷ []) (gives_space t.0) false t.1))
    go (Ok t) is = many (length found == MOST_TOKENS) t is
    go (Err f) is = refl

step_same : (k l : Reader) (total : ℕ) (found : List Token) (space line : Bool) (cs : Text) → ((f : List Token) (s n : Bool) (ds : Text) → length ds < length cs → k f s n ds ≡ l f s n ds) → lex_step k total found space line cs ≡ lex_step l total found space line cs
unfolding lex_step
step_same k l total found space line cs same = over (is_over cs)
  where
    go : (r : Read (Option Blank)) → blank_at cs ≡ r → (r >>= λ b. on_some b (λ x. k found true (line || x.0) x.1) (token_step k total found space line cs)) ≡ (r >>= λ b. on_some b (λ x. l found true (line || x.0) x.1) (token_step l total found space line cs))
    go (Ok None) is = token_same k l total found space line cs same
    go (Ok (Some x)) is = same found true (line || x.0) x.1 (blank_less cs x is)
    go (Err f) is = refl

    over : (b : Bool) → cond b (Ok found) (blank_at cs >>= λ b. on_some b (λ x. k found true (line || x.0) x.1) (token_step k total found space line cs)) ≡ cond b (Ok found) (blank_at cs >>= λ b. on_some b (λ x. l found true (line || x.0) x.1) (token_step l total found space line cs))
    over true = refl
    over false = go (blank_at cs) refl

within_same : (n m total : ℕ) (found : List Token) (space line : Bool) (cs : Text) → length cs < n → length cs < m → lex_within n total found space line cs ≡ lex_within m total found space line cs
unfolding lex_within
within_same zero m total found space line cs a b = absurd (omega arith)
within_same (suc n) zero total found space line cs a b = absurd (omega arith)
within_same (suc n) (suc m) total found space line cs a b = step_same (lex_within n total) (lex_within m total) total found space line cs (λ f s e ds lt. within_same n m total f s e ds (omega arith) (omega arith))

pub lex_is : (total : ℕ) (found : List Token) (space line : Bool) (cs : Text) → lex_on total found space line cs ≡ lex_step (lex_on total) total found space line cs
unfolding lex_on lex_within
lex_is total found space line cs = step_same (lex_within (length cs) total) (lex_on total) total found space line cs (λ f s e ds lt. within_same (length cs) (suc (length ds)) total f s e ds lt (omega arith))
