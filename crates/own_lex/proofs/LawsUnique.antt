-- A text has one list of tokens at most.
use Rattle.std.proofs.Common.{◌≡◌, ℕ, Bool, true, false, not, ◌||◌, List, [], ◌∷◌, length, Option, Some, None, Ok, refl, sym, ap, subst, ◌∙◌}
use Rattle.std.proofs.lemmas.Bool.{both_ways}
use Rattle.std.proofs.lemmas.Str.{encodes_same}
use Rattle.own_tree.specs.declared.token.Token.{Token}
use Rattle.own_tree.specs.declared.token.Kind.{Kind}
use Rattle.own_tree.specs.Characters.{Text, is_line_end, after, is_over, past}
use Rattle.own_tree.specs.Tokens.{gives_space, token_of, Ending, Done, Lexes, over, white, line_comment, comment, token, breaks, stops, after_mark, Tokens}
use Rattle.own_lex.specs.Reading.{Read, Blank, blank_at, token_at}
use Rattle.own_lex.proofs.LawsTokens.{Starts, lexeme_again, opening}
use Rattle.own_lex.proofs.LawsLex.{white_at, line_comment_over, line_comment_at, comment_at, or_false}

-- the first step of a reading to the end
pub data View (total : ℕ) (space line : Bool) (cs : Text) (ts : List Token) : Type 0 where
  is_end : is_over cs ≡ true → ts ≡ [] → View total space line cs ts
  is_blank : (x : Blank) → is_over cs ≡ false → blank_at cs ≡ Ok (Some x) → Lexes total true (line || x.0) x.1 ts Done → View total space line cs ts
  is_token : (k : Kind) (to : Text) (us : List Token) → Starts cs → token_at cs ≡ Ok (k, to) → ts ≡ token_of total k cs to space line ∷ us → Lexes total (gives_space k) false to us Done → View total space line cs ts

to_end : (total : ℕ) (space line : Bool) (cs : Text) (ts : List Token) (e : Ending) → e ≡ Done → Lexes total space line cs ts e → Lexes total space line cs ts Done
to_end total space line cs ts e d is = subst (λ (f : Ending). Lexes total space line cs ts f) d is

view : (total : ℕ) (space line : Bool) (cs : Text) (ts : List Token) (e : Ending) → Lexes total space line cs ts e → e ≡ Done → View total space line cs ts
view total space line cs ts e (over s l) d = is_end refl refl
view total space line cs ts e (white s l c rest us f w more) d = is_blank (is_line_end c, rest) refl (white_at c rest w) (to_end total true (l || is_line_end c) rest us f d more)
view total space line cs ts e (line_comment s l rest us f o more) d =
    let to : Text = past (λ c. not (is_line_end c)) (after (after rest)) in
    is_blank (false, to) (line_comment_over rest o) (line_comment_at rest o) (subst (λ (b : Bool). Lexes total true b to us Done) (sym (or_false l)) (to_end total true l to us f d more))
view total space line cs ts e (comment s l ends rest to us f o is more) d = is_blank (ends, to) (opening rest o).is_there (comment_at rest to ends o is) (to_end total true (l || ends) to us f d more)
view total space line cs ts e (token s l k rest to us f is more) d = let a = lexeme_again k rest to is in is_token k to us a.0 a.1 refl (to_end total (gives_space k) false to us f d more)
view total space line cs ts e (breaks s l f rest is) d = absurd cc
view total space line cs ts e (stops s l k rest to is) d = absurd cc

abbrev blank : Blank → Read (Option Blank)
blank x = Ok (Some x)

no_blank : (x : Blank) → Ok None ≡ blank x → ⊥
no_blank x e = absurd cc

same_blank : (x y : Blank) → blank x ≡ blank y → x ≡ y
same_blank x y e = cc

abbrev read : Kind × Text → Read (Kind × Text)
read x = Ok x

same_read : (x y : Kind × Text) → read x ≡ read y → x ≡ y
same_read x y e = cc

on_blank : (total : ℕ) (space line : Bool) (cs : Text) (x : Blank) (ts us : List Token) → is_over cs ≡ false → blank_at cs ≡ Ok (Some x) → (Lexes total true (line || x.0) x.1 us Done → ts ≡ us) → View total space line cs us → ts ≡ us
on_blank total space line cs x ts us o e more (is_end o' t) = absurd (both_ways (is_over cs) o o')
on_blank total space line cs x ts us o e more (is_blank y o' e' rest) =
    let same : y ≡ x = same_blank y x (sym e' ∙ e) in
    more (subst (λ (z : Blank). Lexes total true (line || z.0) z.1 us Done) same rest)
on_blank total space line cs x ts us o e more (is_token k to vs s e' t rest) = absurd (no_blank x (sym s.no_blank ∙ e))

on_token : (total : ℕ) (space line : Bool) (cs to : Text) (k : Kind) (ts us : List Token) → Starts cs → token_at cs ≡ Ok (k, to) → ((vs : List Token) → Lexes total (gives_space k) false to vs Done → ts ≡ vs) → View total space line cs us → token_of total k cs to space line ∷ ts ≡ us
on_token total space line cs to k ts us s e more (is_end o t) = absurd (both_ways (is_over cs) s.is_there o)
on_token total space line cs to k ts us s e more (is_blank y o e' rest) = absurd (no_blank y (sym s.no_blank ∙ e'))
on_token total space line cs to k ts us s e more (is_token k' to' vs s' e' t rest) =
    let same : (k', to') ≡ (k, to) = same_read (k', to') (k, to) (sym e' ∙ e) in
    let tail : ts ≡ vs = more vs (subst (λ (z : Kind × Text). Lexes total (gives_space z.0) false z.1 vs Done) same rest) in
    let head = ap (λ (z : Kind × Text). token_of total z.0 cs z.1 space line) same in
    ap (λ (ws : List Token). token_of total k cs to space line ∷ ws) tail ∙ ap (λ (w : Token). w ∷ vs) (sym head) ∙ sym t

unique : (total : ℕ) (space line : Bool) (cs : Text) (ts : List Token) (e : Ending) → Lexes total space line cs ts e → e ≡ Done → (us : List Token) → Lexes total space line cs us Done → ts ≡ us
unique total space line cs ts e (over s l) d us other = on_end (view total s l [] us Done other refl)
  where
    on_end : View total s l [] us → [] ≡ us
    on_end (is_end o t) = sym t
    on_end (is_blank x o e' rest) = absurd cc
    on_end (is_token k to vs st e' t rest) = absurd (both_ways (is_over []) st.is_there refl)
unique total space line cs ts e (white s l c rest vs f w more) d us other =
    on_blank total s l (c ∷ rest) (is_line_end c, rest) vs us refl (white_at c rest w) (λ is. unique total true (l || is_line_end c) rest vs f more d us is) (view total s l (c ∷ rest) us Done other refl)
unique total space line cs ts e (line_comment s l rest vs f o more) d us other =
    let to : Text = past (λ c. not (is_line_end c)) (after (after rest)) in
    on_blank total s l rest (false, to) vs us (line_comment_over rest o) (line_comment_at rest o)
    (λ is. unique total true l to vs f more d us (subst (λ (b : Bool). Lexes total true b to us Done) (or_false l) is)) (view total s l rest us Done other refl)
unique total space line cs ts e (comment s l ends rest to vs f o is more) d us other =
    on_blank total s l rest (ends, to) vs us (opening rest o).is_there (comment_at rest to ends o is) (λ is'. unique total true (l || ends) to vs f more d us is') (view total s l rest us Done other refl)
unique total space line cs ts e (token s l k rest to vs f is more) d us other =
    let a = lexeme_again k rest to is in
    on_token total s l rest to k vs us a.0 a.1 (λ ws is'. unique total (gives_space k) false to vs f more d ws is') (view total s l rest us Done other refl)
unique total space line cs ts e (breaks s l f rest is) d us other = absurd cc
unique total space line cs ts e (stops s l k rest to is) d us other = absurd cc

pub tokens_unique : (text : List ℕ) (ts us : List Token) → Tokens text ts → Tokens text us → ts ≡ us
tokens_unique text ts us (cs, sc, e, is) (ds, sd, f, js) =
    let same : cs ≡ ds = encodes_same cs ds (e ∙ sym f) in
    unique (length text) true false (after_mark cs) ts Done is refl us (subst (λ (xs : Text). Lexes (length text) true false (after_mark xs) us Done) (sym same) js)
