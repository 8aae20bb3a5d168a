-- The answers of `lex`: what each says of the text, and that no other could be given.
use Rattle.std.proofs.Common.{◌≡◌, ℕ, ◌+◌, ◌≤◌, ◌<◌, Bool, true, false, List, [], length, chars, Result, Ok, Err, IfOk, IfErr, refl, sym, ap, subst, ◌∙◌, arith, ltb}
use Rattle.std.proofs.lemmas.Bool.{ltb-true, ltb-false, lt-ltb, le-ltb, both_ways}
use Rattle.std.proofs.lemmas.Str.{chars_from_encodes, encodes-chars, scalars-chars, IsUtf8-from_is_utf8, is_utf8-from_IsUtf8}
use Rattle.std.specs.Str.{IsUtf8, is_utf8}
use Rattle.std.specs.Str.Lossy.{utf8_valid_len}
use Rattle.own_tree.specs.declared.limits.TheConstants.{MOST_TEXT_BYTES}
use Rattle.own_tree.specs.declared.token.Token.{Token}
use Rattle.own_tree.specs.Characters.{Text}
use Rattle.own_tree.specs.Tokens.{Ending, Done, Broken, Stopped, Lexes, Reads, Tokens, after_mark}
use Rattle.own_tree.specs.Tokens as rules
use Rattle.own_tree.specs.declared.error.LexError.{LexError}
use Rattle.own_tree.specs.declared.error.LexError.TheVariants as error
use Rattle.own_lex.specs.Reading.{Bytes, lex_on}
use Rattle.own_lex.specs.Lexed.{Gives, in_place, lexed_chars, lexed}
use Rattle.own_lex.specs.Refusals.{HasTokens, Refuses, MayRefuse}
use Rattle.own_lex.proofs.LawsLex.{Fits, outcome, lexes_again, Lexed, lex_found}

abbrev pub Answer : Type 0
Answer = Result (List Token) LexError

-- what an answer says
abbrev pub Says : Bytes → Answer → Type 0
Says text (Ok tokens) = HasTokens text tokens
Says text (Err e) = Refuses text e

-- ---- the parts of `lexed`

too_long : (text : Bytes) → MOST_TEXT_BYTES < length text → lexed text ≡ Err (error.TooLong (length text))
too_long text long = let t : ltb MOST_TEXT_BYTES (length text) ≡ true = lt-ltb MOST_TEXT_BYTES (length text) long in rw t refl

not_utf8 : (text : Bytes) → length text ≤ MOST_TEXT_BYTES → is_utf8 text ≡ false → lexed text ≡ Err (error.NotUtf8 (utf8_valid_len text))
not_utf8 text short bad = let t : ltb MOST_TEXT_BYTES (length text) ≡ false = le-ltb MOST_TEXT_BYTES (length text) short in rw (t, bad) refl

in_chars : (text : Bytes) → length text ≤ MOST_TEXT_BYTES → is_utf8 text ≡ true → lexed text ≡ lexed_chars (length text) (chars text)
in_chars text short utf8 = let t : ltb MOST_TEXT_BYTES (length text) ≡ false = le-ltb MOST_TEXT_BYTES (length text) short in rw (t, utf8) refl

-- ---- each answer is true

reads : (text : Bytes) (tokens : List Token) (e : Ending) → is_utf8 text ≡ true → Lexes (length text) true false (after_mark (chars text)) tokens e → Reads text tokens e
reads text tokens e utf8 is = let u = IsUtf8-from_is_utf8 text utf8 in (chars text, scalars-chars text u, encodes-chars text u, is)

scanned : (text : Bytes) (tokens : List Token) (e : Ending) → length text ≤ MOST_TEXT_BYTES → Reads text tokens e → Fits (length tokens) e → Says text (in_place (length text) (outcome tokens e))
scanned text tokens Done short is fits = record { short = short; tokens_are = is; few = fits }
scanned text tokens (Broken (rules.BadChar rest)) short is fits = record { short = short; tokens = tokens; rest = rest; reads = is; few = fits; at_rest = refl }
scanned text tokens (Broken (rules.OpenComment rest)) short is fits = record { short = short; tokens = tokens; rest = rest; reads = is; few = fits; at_rest = refl }
scanned text tokens (Broken (rules.OpenText rest)) short is fits = record { short = short; tokens = tokens; rest = rest; reads = is; few = fits; at_rest = refl }
scanned text tokens (Broken (rules.WideNumber rest)) short is fits = record { short = short; tokens = tokens; rest = rest; reads = is; few = fits; at_rest = refl }
scanned text tokens (Stopped rest) short is fits = record { short = short; tokens = tokens; rest = rest; reads = is; full = fits; at_rest = refl }

pub lexed_says : (text : Bytes) → Says text (lexed text)
lexed_says text = by_length (ltb MOST_TEXT_BYTES (length text)) refl
  where
    by_chars : length text ≤ MOST_TEXT_BYTES → is_utf8 text ≡ true → Says text (lexed text)
    by_chars short utf8 =
        let l : Lexed (length text) [] true false (after_mark (chars text)) = lex_found (length text) [] true false (after_mark (chars text)) (omega arith) in
        let is = reads text l.tokens l.ending utf8 l.is in
        let zero_ : 0 + length l.tokens ≡ length l.tokens = omega arith in
        let fits = subst (λ (n : ℕ). Fits n l.ending) zero_ l.fits in
        let same : lexed text ≡ in_place (length text) (outcome l.tokens l.ending) = in_chars text short utf8 ∙ ap (in_place (length text)) l.reads in
        subst (λ (a : Answer). Says text a) (sym same) (scanned text l.tokens l.ending short is fits)

    by_utf8 : length text ≤ MOST_TEXT_BYTES → (b : Bool) → is_utf8 text ≡ b → Says text (lexed text)
    by_utf8 short true t = by_chars short t
    by_utf8 short false t =
        let bad : ¬ (IsUtf8 text) = (λ u. both_ways (is_utf8 text) t (is_utf8-from_IsUtf8 text u)) in
        subst (λ (a : Answer). Says text a) (sym (not_utf8 text short t)) (short, bad, refl)

    by_length : (b : Bool) → ltb MOST_TEXT_BYTES (length text) ≡ b → Says text (lexed text)
    by_length true t = let long = ltb-true MOST_TEXT_BYTES (length text) t in subst (λ (a : Answer). Says text a) (sym (too_long text long)) (long, refl)
    by_length false t = by_utf8 (ltb-false MOST_TEXT_BYTES (length text) t) (is_utf8 text) refl

-- ---- what is true is answered

reads_again : (text : Bytes) (tokens : List Token) (e : Ending) → length text ≤ MOST_TEXT_BYTES → Reads text tokens e → Fits (length tokens) e → lexed text ≡ in_place (length text) (outcome tokens e)
reads_again text tokens e short (cs, scalar, spells, is) fits =
    let u : IsUtf8 text = (cs, (scalar, spells)) in
    let same : cs ≡ chars text = chars_from_encodes cs text u spells in
    let zero_ : length tokens ≡ 0 + length tokens = omega arith in
    let read : lex_on (length text) [] true false (after_mark cs) ≡ outcome tokens e = lexes_again (length text) true false (after_mark cs) tokens e is [] (subst (λ (n : ℕ). Fits n e) zero_ fits) in
    in_chars text short (is_utf8-from_IsUtf8 text u) ∙ ap (λ (ds : Text). in_place (length text) (lex_on (length text) [] true false (after_mark ds))) (sym same) ∙ ap (in_place (length text)) read

pub says_lexed : (text : Bytes) (a : Answer) → Says text a → lexed text ≡ a
says_lexed text (Ok tokens) s = reads_again text tokens Done s.short s.tokens_are s.few
says_lexed text (Err (error.TooLong bytes)) s = too_long text s.0 ∙ ap (λ (n : ℕ). Err (error.TooLong n)) (sym s.1)
says_lexed text (Err (error.NotUtf8 at)) s = not_utf8 text s.0 (bad (is_utf8 text) refl) ∙ ap (λ (n : ℕ). Err (error.NotUtf8 n)) (sym s.2)
  where
    bad : (b : Bool) → is_utf8 text ≡ b → b ≡ false
    bad true t = absurd (s.1 (IsUtf8-from_is_utf8 text t))
    bad false t = refl
says_lexed text (Err (error.BadChar at)) s = reads_again text s.tokens (Broken (rules.BadChar s.rest)) s.short s.reads s.few ∙ ap (λ (n : ℕ). Err (error.BadChar n)) (sym s.at_rest)
says_lexed text (Err (error.OpenComment at)) s = reads_again text s.tokens (Broken (rules.OpenComment s.rest)) s.short s.reads s.few ∙ ap (λ (n : ℕ). Err (error.OpenComment n)) (sym s.at_rest)
says_lexed text (Err (error.OpenText at)) s = reads_again text s.tokens (Broken (rules.OpenText s.rest)) s.short s.reads s.few ∙ ap (λ (n : ℕ). Err (error.OpenText n)) (sym s.at_rest)
says_lexed text (Err (error.WideNumber at)) s = reads_again text s.tokens (Broken (rules.WideNumber s.rest)) s.short s.reads s.few ∙ ap (λ (n : ℕ). Err (error.WideNumber n)) (sym s.at_rest)
says_lexed text (Err (error.TooManyTokens at)) s = reads_again text s.tokens (Stopped s.rest) s.short s.reads s.full ∙ ap (λ (n : ℕ). Err (error.TooManyTokens n)) (sym s.at_rest)
says_lexed text (Err error.Memory) s = absurd s

-- ---- an answer that may also be want of memory

pub found_says : (text : Bytes) (r : Answer) → Gives r (lexed text) → IfOk r (HasTokens text)
found_says text (Ok tokens) g = subst (λ (a : Answer). Says text a) (sym g) (lexed_says text)
found_says text (Err e) g = tt

pub refused_says : (text : Bytes) (r : Answer) → Gives r (lexed text) → IfErr r (MayRefuse text)
refused_says text (Ok tokens) g = tt
refused_says text (Err error.Memory) g = tt
refused_says text (Err (error.TooLong bytes)) g = subst (λ (a : Answer). Says text a) (sym g) (lexed_says text)
refused_says text (Err (error.NotUtf8 at)) g = subst (λ (a : Answer). Says text a) (sym g) (lexed_says text)
refused_says text (Err (error.BadChar at)) g = subst (λ (a : Answer). Says text a) (sym g) (lexed_says text)
refused_says text (Err (error.OpenComment at)) g = subst (λ (a : Answer). Says text a) (sym g) (lexed_says text)
refused_says text (Err (error.OpenText at)) g = subst (λ (a : Answer). Says text a) (sym g) (lexed_says text)
refused_says text (Err (error.WideNumber at)) g = subst (λ (a : Answer). Says text a) (sym g) (lexed_says text)
refused_says text (Err (error.TooManyTokens at)) g = subst (λ (a : Answer). Says text a) (sym g) (lexed_says text)

pub says_given : (text : Bytes) (r a : Answer) → Gives r (lexed text) → Says text a → Gives r a
says_given text r a g s = subst (λ (b : Answer). Gives r b) (says_lexed text a s) g
