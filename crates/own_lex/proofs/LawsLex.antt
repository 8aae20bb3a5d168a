-- All tokens of a text: what is read, and what the definition says.
use Rattle.std.proofs.Common.{◌≡◌, ◌≢◌, ℕ, zero, suc, ◌+◌, ◌≤◌, ◌<◌, Bool, true, false, not, ◌||◌, ◌==◌, List, [], ◌∷◌, ◌++◌, length, Option, Some, None, Ok, Err, inl, inr, refl, sym, ap, subst, ◌∙◌, arith, append_assoc, length-append}
use Rattle.std.proofs.lemmas.Bool.{cases_eq, eqb-true, and_parts}
use Rattle.std.proofs.lemmas.List.{append-nil}
use Rattle.own_tree.specs.declared.limits.TheConstants.{MOST_TOKENS}
use Rattle.own_tree.specs.declared.token.Token.{Token}
use Rattle.own_tree.specs.declared.token.Kind.{Kind}
use Rattle.own_tree.specs.Characters.{Text, bytes_of, is_line_end, is_white, after, is_over, first_is, past, begins, opens_line_comment, opens_comment}
use Rattle.own_tree.specs.Tokens.{Comment, Lexeme, Breaks, gives_space, token_of, Ending, Done, Broken, Stopped, Lexes, over, white, line_comment, comment, token, breaks, stops}
use Rattle.own_tree.specs.Tokens as rules
use Rattle.own_lex.specs.declared.fault.Fault.{Fault}
use Rattle.own_lex.specs.declared.fault.Fault.TheVariants as fault
use Rattle.own_lex.specs.Reading.{Read, Blank, blank_at, comment_end, token_at, lex_on}
use Rattle.own_lex.proofs.Lengths.{blank_less, token_less}
use Rattle.own_lex.proofs.Turns.{turn_over, turn_fault, turn_blank, turn_bad, turn_many, turn_more}
use Rattle.own_lex.proofs.LawsStarts.{blank_none}
use Rattle.own_lex.proofs.LawsComments.{comment_again, comment_found}
use Rattle.own_lex.proofs.LawsTokens.{fault_of, Starts, lexeme_again, Faulty, in_blank, in_token, breaks_again, opening, comment_never, Found, a_token, a_fault, token_found}

-- so many tokens may stand before this ending
abbrev pub Fits : ℕ → Ending → Type 0
Fits n Done = n ≤ MOST_TOKENS
Fits n (Broken f) = n ≤ MOST_TOKENS
Fits n (Stopped at) = n ≡ MOST_TOKENS

-- what is read of them
abbrev pub outcome : List Token → Ending → Read (List Token)
outcome ts Done = Ok ts
outcome ts (Broken f) = Err (fault_of f)
outcome ts (Stopped at) = Err (fault.TooManyTokens (bytes_of at))

fits_le : (n : ℕ) (e : Ending) → Fits n e → n ≤ MOST_TOKENS
fits_le n Done h = h
fits_le n (Broken f) h = h
fits_le n (Stopped at) h = omega arith

-- ---- white space and comments, as the definition says

pub white_at : (c : ℕ) (cs : Text) → is_white c ≡ true → blank_at (c ∷ cs) ≡ Ok (Some (is_line_end c, cs))
unfolding blank_at
white_at c cs w = rw w refl

pub line_comment_over : (cs : Text) → opens_line_comment cs ≡ true → is_over cs ≡ false
line_comment_over [] e = absurd cc
line_comment_over (c ∷ cs) e = refl

-- `/` is no white space
line_comment_white : (cs : Text) → opens_line_comment cs ≡ true → first_is is_white cs ≡ false
line_comment_white [] e = absurd cc
line_comment_white (c ∷ cs) e = let i : c ≡ 47 = eqb-true c 47 (and_parts (c == 47) (begins (47 ∷ []) cs) e).0 in rw i refl

pub line_comment_at : (cs : Text) → opens_line_comment cs ≡ true → blank_at cs ≡ Ok (Some (false, past (λ c. not (is_line_end c)) (after (after cs))))
unfolding blank_at
line_comment_at cs l = let w = line_comment_white cs l in rw (w, l) refl

pub comment_at : (cs to : Text) (ends : Bool) → opens_comment cs ≡ true → Comment 0 false (after (after cs)) ends to → blank_at cs ≡ Ok (Some (ends, to))
unfolding blank_at
comment_at cs to ends o is =
    let a = opening cs o in let w = a.no_white in let l = a.no_line in let e = comment_again 0 false ends (after (after cs)) to is in
    rw (w, l, o, e) refl

pub or_false : (b : Bool) → (b || false) ≡ b
or_false true = refl
or_false false = refl

-- ---- what the definition says is read

longer : (found ts : List Token) (t : Token) → length (found ++ t ∷ []) + length ts ≡ length found + length (t ∷ ts)
longer found ts t = rw (length-append found (t ∷ [])) (omega arith)

joined : (found ts : List Token) (t : Token) → (found ++ t ∷ []) ++ ts ≡ found ++ t ∷ ts
joined found ts t = rw append_assoc refl

broken : (total : ℕ) (found : List Token) (space line : Bool) (cs : Text) (f : Fault) → Faulty cs f → lex_on total found space line cs ≡ Err f
broken total found space line cs f (in_blank o e) = turn_fault total found space line cs f o e
broken total found space line cs f (in_token s e) = turn_bad total found space line cs f s.is_there s.no_blank e

pub lexes_again : (total : ℕ) (space line : Bool) (cs : Text) (ts : List Token) (e : Ending) → Lexes total space line cs ts e → (found : List Token) → Fits (length found + length ts) e → lex_on total found space line cs ≡ outcome (found ++ ts) e
lexes_again total space line cs ts e (over s l) found fits = turn_over total found s l [] refl ∙ rw append-nil refl
lexes_again total space line cs ts e (white s l c rest us e' w more) found fits = turn_blank total found s l (c ∷ rest) (is_line_end c, rest) refl (white_at c rest w) ∙ lexes_again total true (l || is_line_end c) rest us e' more found fits
lexes_again total space line cs ts e (line_comment s l rest us e' o more) found fits =
    turn_blank total found s l rest (false, past (λ c. not (is_line_end c)) (after (after rest))) (line_comment_over rest o) (line_comment_at rest o)
    ∙ rw or_false (lexes_again total true l (past (λ c. not (is_line_end c)) (after (after rest))) us e' more found fits)
lexes_again total space line cs ts e (comment s l ends rest to us e' o is more) found fits = turn_blank total found s l rest (ends, to) (opening rest o).is_there (comment_at rest to ends o is) ∙ lexes_again total true (l || ends) to us e' more found fits
lexes_again total space line cs ts e (token s l k rest to us e' is more) found fits =
    let a = lexeme_again k rest to is in
    let t : Token = token_of total k rest to s l in
    let few : length found ≢ MOST_TOKENS = (λ same. let le = fits_le (length found + length (t ∷ us)) e' fits in absurd (omega arith)) in
    turn_more total found s l rest (k, to) a.0.is_there a.0.no_blank a.1 few
    ∙ lexes_again total (gives_space k) false to us e' more (found ++ t ∷ []) (subst (λ (n : ℕ). Fits n e') (sym (longer found us t)) fits)
    ∙ ap (λ (vs : List Token). outcome vs e') (joined found us t)
lexes_again total space line cs ts e (breaks s l f rest is) found fits = broken total found s l rest (fault_of f) (breaks_again f rest is)
lexes_again total space line cs ts e (stops s l k rest to is) found fits =
    let a = lexeme_again k rest to is in
    let many : length found ≡ MOST_TOKENS = omega arith in
    turn_many total found s l rest (k, to) a.0.is_there a.0.no_blank a.1 many

-- ---- what is read, the definition says

pub record Lexed (total : ℕ) (found : List Token) (space line : Bool) (cs : Text) : Type 0 where
  pub tokens : List Token
  pub ending : Ending
  pub is : Lexes total space line cs tokens ending
  pub fits : Fits (length found + length tokens) ending
  pub reads : lex_on total found space line cs ≡ outcome (found ++ tokens) ending

-- the same of all that is shorter
abbrev Shorter : ℕ → Text → Type 0
Shorter total cs = (ds : Text) → length ds < length cs → (found : List Token) → length found ≤ MOST_TOKENS → (space line : Bool) → Lexed total found space line ds

at_end : (total : ℕ) (found : List Token) (space line : Bool) (cs : Text) (e : Ending) → Lexes total space line cs [] e → Fits (length found) e → lex_on total found space line cs ≡ outcome found e → Lexed total found space line cs
at_end total found space line cs e is fits reads = let same : length found ≡ length found + 0 = omega arith in record {
  tokens = [];
  ending = e;
  is = is;
  fits = subst (λ (n : ℕ). Fits n e) same fits;
  reads = reads ∙ ap (λ (ts : List Token). outcome ts e) (sym (append-nil found));
}

after_blank : (total : ℕ) (found : List Token) (space line : Bool) (cs : Text) (x : Blank) → is_over cs ≡ false → blank_at cs ≡ Ok (Some x) → ((ts : List Token) (e : Ending) → Lexes total true (line || x.0) x.1 ts e → Lexes total space line cs ts e) → Lexed total found true (line || x.0) x.1 → Lexed total found space line cs
after_blank total found space line cs x o e make rest = record {
  tokens = rest.tokens;
  ending = rest.ending;
  is = make rest.tokens rest.ending rest.is;
  fits = rest.fits;
  reads = turn_blank total found space line cs x o e ∙ rest.reads;
}

after_token : (total : ℕ) (found : List Token) (space line : Bool) (cs to : Text) (k : Kind) → Starts cs → token_at cs ≡ Ok (k, to) → Lexeme k cs to → length found ≢ MOST_TOKENS → Lexed total (found ++ token_of total k cs to space line ∷ []) (gives_space k) false to → Lexed total found space line cs
after_token total found space line cs to k s e is few rest =
    let t : Token = token_of total k cs to space line in
    record {
      tokens = t ∷ rest.tokens;
      ending = rest.ending;
      is = token space line k cs to rest.tokens rest.ending is rest.is;
      fits = subst (λ (n : ℕ). Fits n rest.ending) (longer found rest.tokens t) rest.fits;
      reads = turn_more total found space line cs (k, to) s.is_there s.no_blank e few ∙ rest.reads ∙ ap (λ (vs : List Token). outcome vs rest.ending) (joined found rest.tokens t);
    }

on_token : (total : ℕ) (found : List Token) (space line : Bool) (cs : Text) → length found ≤ MOST_TOKENS → Starts cs → Found cs → Shorter total cs → Lexed total found space line cs
on_token total found space line cs few s (a_fault f e is) more = at_end total found space line cs (Broken f) (breaks space line f cs is) few (turn_bad total found space line cs (fault_of f) s.is_there s.no_blank e)
on_token total found space line cs few s (a_token k to e is) more = elim (cases_eq (length found) MOST_TOKENS) [
  | inl same ↦ at_end total found space line cs (Stopped cs) (stops space line k cs to is) same (turn_many total found space line cs (k, to) s.is_there s.no_blank e same)
  | inr other ↦
      (let one = length-append found (token_of total k cs to space line ∷ []) in
      after_token total found space line cs to k s e is other
      (more to (token_less cs (k, to) e) (found ++ token_of total k cs to space line ∷ []) (rw one (omega arith)) (gives_space k) false))
]

abbrev some : Blank → Option Blank
some x = Some x

no_some : (x : Blank) → None ≡ some x → ⊥
no_some x e = absurd cc

on_comment : (total : ℕ) (found : List Token) (space line : Bool) (cs : Text) → length found ≤ MOST_TOKENS → opens_comment cs ≡ true → Shorter total cs → Lexed total found space line cs
on_comment total found space line cs few o more = go (comment_end 0 false (after (after cs))) refl
  where
    go : (r : Option Blank) → comment_end 0 false (after (after cs)) ≡ r → Lexed total found space line cs
    go None e =
        let never : (out : Bool) (to : Text) → Comment 0 false (after (after cs)) out to → ⊥ = (λ out to is. no_some (out, to) (sym e ∙ comment_again 0 false out (after (after cs)) to is)) in
        at_end total found space line cs (Broken (rules.OpenComment cs)) (breaks space line (rules.OpenComment cs) cs (refl, o, never)) few (turn_fault total found space line cs (fault.OpenComment (bytes_of cs)) (opening cs o).is_there (comment_never cs o never))
    go (Some x) e =
        let is = comment_found (after (after cs)) 0 false x e in
        let at = comment_at cs x.1 x.0 o is in
        after_blank total found space line cs x (opening cs o).is_there at (λ ts f rest. comment space line x.0 cs x.1 ts f o is rest) (more x.1 (blank_less cs x at) found few true (line || x.0))

on_line_comment : (total : ℕ) (found : List Token) (space line : Bool) (cs : Text) → length found ≤ MOST_TOKENS → opens_line_comment cs ≡ true → Shorter total cs → Lexed total found space line cs
on_line_comment total found space line cs few o more =
    let at = line_comment_at cs o in
    let to : Text = past (λ c. not (is_line_end c)) (after (after cs)) in
    let rest = more to (blank_less cs (false, to) at) found few true (line || false) in
    after_blank total found space line cs (false, to) (line_comment_over cs o) at
    (λ ts f is. line_comment space line cs ts f o (subst (λ (b : Bool). Lexes total true b to ts f) (or_false line) is)) rest

on_white : (total : ℕ) (found : List Token) (space line : Bool) (c : ℕ) (cs : Text) → length found ≤ MOST_TOKENS → is_white c ≡ true → Shorter total (c ∷ cs) → Lexed total found space line (c ∷ cs)
on_white total found space line c cs few w more =
    after_blank total found space line (c ∷ cs) (is_line_end c, cs) refl (white_at c cs w) (λ ts f is. white space line c cs ts f w is)
    (more cs (omega arith) found few true (line || is_line_end c))

step : (total : ℕ) (found : List Token) (space line : Bool) (cs : Text) → length found ≤ MOST_TOKENS → Shorter total cs → Lexed total found space line cs
step total found space line [] few more = at_end total found space line [] Done (over space line) few (turn_over total found space line [] refl)
step total found space line (c ∷ cs) few more = by_white (is_white c) refl
  where
    by_comment : is_white c ≡ false → opens_line_comment (c ∷ cs) ≡ false → (b : Bool) → opens_comment (c ∷ cs) ≡ b → Lexed total found space line (c ∷ cs)
    by_comment w l true o = on_comment total found space line (c ∷ cs) few o more
    by_comment w l false o = on_token total found space line (c ∷ cs) few (record { is_there = refl; no_blank = blank_none (c ∷ cs) w l o }) (token_found (c ∷ cs) refl w l o) more

    by_line : is_white c ≡ false → (b : Bool) → opens_line_comment (c ∷ cs) ≡ b → Lexed total found space line (c ∷ cs)
    by_line w true l = on_line_comment total found space line (c ∷ cs) few l more
    by_line w false l = by_comment w l (opens_comment (c ∷ cs)) refl

    by_white : (b : Bool) → is_white c ≡ b → Lexed total found space line (c ∷ cs)
    by_white true w = on_white total found space line c cs few w more
    by_white false w = by_line w (opens_line_comment (c ∷ cs)) refl

lex_found_within : (n total : ℕ) (cs : Text) → length cs < n → (found : List Token) → length found ≤ MOST_TOKENS → (space line : Bool) → Lexed total found space line cs
lex_found_within zero total cs lt found few space line = absurd (omega arith)
lex_found_within (suc n) total cs lt found few space line = step total found space line cs few (λ ds small found' few' s l. lex_found_within n total ds (omega arith) found' few' s l)

pub lex_found : (total : ℕ) (found : List Token) (space line : Bool) (cs : Text) → length found ≤ MOST_TOKENS → Lexed total found space line cs
lex_found total found space line cs few = lex_found_within (suc (length cs)) total cs (omega arith) found few space line
