-- Texts: what is read, and what the definition says.
use Rattle.std.proofs.Common.{◌≡◌, ℕ, zero, suc, ◌<◌, Bool, true, false, ◌&&◌, [], ◌∷◌, ◌++◌, length, Option, Some, None, Ok, Err, refl, sym, ◌∙◌, arith, codes, append_assoc, encode_utf8_all}
use Rattle.std.proofs.lemmas.Bool.{eqb-true}
use Rattle.std.proofs.lemmas.List.{append-nil}
use Rattle.std.specs.Char.{encode_utf8}
use Rattle.own_tree.specs.Characters.{Text, bytes_of, is_line_end, is_quote, is_backslash, first_is, begins}
use Rattle.own_tree.specs.Tokens.{ends_line, escape, Body, closed, plain, escaping, Unclosed, cut, cut_escape, wrong, goes_plain, goes_escaping}
use Rattle.own_lex.specs.declared.fault.Fault.{Fault}
use Rattle.own_lex.specs.declared.fault.Fault.TheVariants as fault
use Rattle.own_lex.specs.Reading.{Bytes, character_at, text_on}
use Rattle.own_lex.proofs.Texts.{text_is, escape_le}

and_true : (b : Bool) → (b && true) ≡ b
and_true true = refl
and_true false = refl

-- a quote, as a test and as a text that begins with one
pub quote_at : (cs : Text) → begins (codes "\"") cs ≡ first_is is_quote cs
quote_at [] = refl
quote_at (c ∷ cs) = and_true (is_quote c)

-- ---- one character

text_quote : (start : ℕ) (found : Bytes) (c : ℕ) (cs : Text) → is_quote c ≡ true → text_on start found (c ∷ cs) ≡ Ok (found, cs)
text_quote start found c cs q = text_is start found (c ∷ cs) ∙ rw q refl

-- a quote ends no line, and neither does a backslash
quote_line : (c : ℕ) → is_quote c ≡ true → is_line_end c ≡ false
quote_line c q = let is : c ≡ 34 = eqb-true c 34 q in rw is refl

backslash_line : (c : ℕ) → is_backslash c ≡ true → is_line_end c ≡ false
backslash_line c q = let is : c ≡ 92 = eqb-true c 92 q in rw is refl

backslash_quote : (c : ℕ) → is_backslash c ≡ true → is_quote c ≡ false
backslash_quote c q = let is : c ≡ 92 = eqb-true c 92 q in rw is refl

line_quote : (c : ℕ) → is_line_end c ≡ true → is_quote c ≡ false
line_quote c t = by_test (is_quote c) refl
  where
    by_test : (b : Bool) → is_quote c ≡ b → b ≡ false
    by_test true q = let no : true ≡ false = sym t ∙ quote_line c q in no
    by_test false q = refl

text_plain : (start : ℕ) (found : Bytes) (c : ℕ) (cs : Text) → is_quote c ≡ false → is_backslash c ≡ false → is_line_end c ≡ false → text_on start found (c ∷ cs) ≡ text_on start (found ++ encode_utf8 c) cs
unfolding character_at
text_plain start found c cs q b l = text_is start found (c ∷ cs) ∙ rw (q, l, b) refl

text_escape : (start : ℕ) (found : Bytes) (c : ℕ) (cs : Text) (d : ℕ) (mid : Text) → is_backslash c ≡ true → ends_line cs ≡ false → escape cs ≡ Some (d, mid) → text_on start found (c ∷ cs) ≡ text_on start (found ++ encode_utf8 d) mid
unfolding character_at
text_escape start found c cs d mid b l e = let q = backslash_quote c b in let n = backslash_line c b in text_is start found (c ∷ cs) ∙ rw (q, n, b, l, e) refl

text_cut : (start : ℕ) (found : Bytes) (cs : Text) → ends_line cs ≡ true → text_on start found cs ≡ Err (fault.OpenText start)
unfolding character_at
text_cut start found [] l = text_is start found []
text_cut start found (c ∷ cs) l = let q = line_quote c l in text_is start found (c ∷ cs) ∙ rw (q, l) refl

text_cut_escape : (start : ℕ) (found : Bytes) (c : ℕ) (cs : Text) → is_backslash c ≡ true → ends_line cs ≡ true → text_on start found (c ∷ cs) ≡ Err (fault.OpenText start)
unfolding character_at
text_cut_escape start found c cs b l = let q = backslash_quote c b in let n = backslash_line c b in text_is start found (c ∷ cs) ∙ rw (q, n, b, l) refl

text_wrong : (start : ℕ) (found : Bytes) (c : ℕ) (cs : Text) → is_backslash c ≡ true → ends_line cs ≡ false → escape cs ≡ None → text_on start found (c ∷ cs) ≡ Err (fault.BadChar (bytes_of (c ∷ cs)))
unfolding character_at
text_wrong start found c cs b l e = let q = backslash_quote c b in let n = backslash_line c b in text_is start found (c ∷ cs) ∙ rw (q, n, b, l, e) refl

-- ---- what the definition says is read

joined : (found : Bytes) (c : ℕ) (s : Text) → (found ++ encode_utf8 c) ++ encode_utf8_all s ≡ found ++ encode_utf8_all (c ∷ s)
joined found c s = rw append_assoc refl

pub body_again : (start : ℕ) (found : Bytes) (cs s to : Text) → Body cs s to → text_on start found cs ≡ Ok (found ++ encode_utf8_all s, to)
body_again start found cs s to (closed c rest q) = text_quote start found c rest q ∙ rw append-nil refl
body_again start found cs s to (plain c rest s' to' q b l more) = text_plain start found c rest q b l ∙ body_again start (found ++ encode_utf8 c) rest s' to' more ∙ rw (joined found c s') refl
body_again start found cs s to (escaping c d rest mid s' to' b l e more) = text_escape start found c rest d mid b l e ∙ body_again start (found ++ encode_utf8 d) mid s' to' more ∙ rw (joined found d s') refl

abbrev pub unclosed_fault : ℕ → Option Text → Fault
unclosed_fault start None = fault.OpenText start
unclosed_fault start (Some at) = fault.BadChar (bytes_of at)

pub unclosed_again : (start : ℕ) (found : Bytes) (cs : Text) (at : Option Text) → Unclosed cs at → text_on start found cs ≡ Err (unclosed_fault start at)
unclosed_again start found cs at (cut rest l) = text_cut start found rest l
unclosed_again start found cs at (cut_escape c rest b l) = text_cut_escape start found c rest b l
unclosed_again start found cs at (wrong c rest b l e) = text_wrong start found c rest b l e
unclosed_again start found cs at (goes_plain c rest at' q b l more) = text_plain start found c rest q b l ∙ unclosed_again start (found ++ encode_utf8 c) rest at' more
unclosed_again start found cs at (goes_escaping c d rest mid at' b l e more) = text_escape start found c rest d mid b l e ∙ unclosed_again start (found ++ encode_utf8 d) mid at' more

-- ---- what is read, the definition says

pub data Outcome (cs : Text) : Type 0 where
  fine : (s to : Text) → Body cs s to → Outcome cs
  open_ : (at : Option Text) → Unclosed cs at → Outcome cs

pub text_found : (n : ℕ) (cs : Text) → length cs < n → Outcome cs
text_found zero cs h = absurd (omega arith)
text_found (suc n) [] h = open_ None (cut [] refl)
text_found (suc n) (c ∷ cs) h = by_quote (is_quote c) refl (text_found n cs (omega arith)) (λ mid lt. text_found n mid lt)
  where
    on_plain : is_quote c ≡ false → is_backslash c ≡ false → is_line_end c ≡ false → Outcome cs → Outcome (c ∷ cs)
    on_plain q b l (fine s to body) = fine (c ∷ s) to (plain c cs s to q b l body)
    on_plain q b l (open_ at more) = open_ at (goes_plain c cs at q b l more)

    on_escape : (d : ℕ) (mid : Text) → is_backslash c ≡ true → ends_line cs ≡ false → escape cs ≡ Some (d, mid) → Outcome mid → Outcome (c ∷ cs)
    on_escape d mid b l e (fine s to body) = fine (d ∷ s) to (escaping c d cs mid s to b l e body)
    on_escape d mid b l e (open_ at more) = open_ at (goes_escaping c d cs mid at b l e more)

    by_escape : is_backslash c ≡ true → ends_line cs ≡ false → (r : Option (ℕ × Text)) → escape cs ≡ r → ((mid : Text) → length mid < n → Outcome mid) → Outcome (c ∷ cs)
    by_escape b l None e more = open_ (Some (c ∷ cs)) (wrong c cs b l e)
    by_escape b l (Some x) e more = on_escape x.0 x.1 b l e (more x.1 (let le = escape_le cs x e in omega arith))

    by_line : is_backslash c ≡ true → (b : Bool) → ends_line cs ≡ b → ((mid : Text) → length mid < n → Outcome mid) → Outcome (c ∷ cs)
    by_line b true l more = open_ None (cut_escape c cs b l)
    by_line b false l more = by_escape b l (escape cs) refl more

    by_backslash : is_quote c ≡ false → is_line_end c ≡ false → (b : Bool) → is_backslash c ≡ b → Outcome cs → ((mid : Text) → length mid < n → Outcome mid) → Outcome (c ∷ cs)
    by_backslash q l true b rest more = by_line b (ends_line cs) refl more
    by_backslash q l false b rest more = on_plain q b l rest

    by_end : is_quote c ≡ false → (b : Bool) → is_line_end c ≡ b → Outcome cs → ((mid : Text) → length mid < n → Outcome mid) → Outcome (c ∷ cs)
    by_end q true l rest more = open_ None (cut (c ∷ cs) l)
    by_end q false l rest more = by_backslash q l (is_backslash c) refl rest more

    by_quote : (b : Bool) → is_quote c ≡ b → Outcome cs → ((mid : Text) → length mid < n → Outcome mid) → Outcome (c ∷ cs)
    by_quote true q rest more = fine [] cs (closed c cs q)
    by_quote false q rest more = by_end q (is_line_end c) refl rest more
