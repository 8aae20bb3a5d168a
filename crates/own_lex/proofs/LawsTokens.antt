-- One token, or one fault: what is read, and what the definition says.
use Rattle.std.proofs.Common.{◌≡◌, ◌≢◌, ℕ, suc, ◌≤◌, Bool, true, false, ◌&&◌, ◌==◌, [], ◌∷◌, length, drop, Option, Some, None, Ok, Err, ◌⊎◌, inl, inr, refl, sym, ap, subst, ◌∙◌, arith, codes, encode_utf8_all, bytes_eq}
use Rattle.std.proofs.lemmas.Bool.{eqb-true, both_ways, and_parts}
use Rattle.std.proofs.lemmas.Str.{encodes_same}
use Rattle.std.proofs.lemmas.Slice.Eq.{bytes_eq-Decides}
use Rattle.std.specs.Char.{encode_utf8}
use Rattle.own_tree.specs.declared.token.Kind.{Kind}
use Rattle.own_tree.specs.declared.token.Kind.TheVariants as kind
use Rattle.own_tree.specs.declared.token.Word.{Word}
use Rattle.own_tree.specs.declared.token.Mark.{Mark}
use Rattle.own_tree.specs.declared.token.Mark.TheVariants as mark
use Rattle.own_tree.specs.Characters.{Text, bytes_of, is_white, starts_name, continues_name, is_digit, is_quote, after, is_over, first_is, begins, run, past, opens_line_comment, opens_comment}
use Rattle.own_tree.specs.Spelling.{word_text, mark_text}
use Rattle.own_tree.specs.Tokens.{Comment, Spelled, value_of, after_number, Counted, Body, Unclosed, Marked, Lexeme, Alien, Joined, Breaks}
use Rattle.own_tree.specs.Tokens as rules
use Rattle.own_lex.specs.declared.fault.Fault.{Fault}
use Rattle.own_lex.specs.declared.fault.Fault.TheVariants as fault
use Rattle.own_lex.specs.Reading.{Bytes, Read, Blank, blank_at, comment_end, word_of, named, name_at, number_at, text_on, text_at, longest_mark, mark_at, token_at}
use Rattle.own_lex.proofs.LawsNames.{name_at-run, same_bytes, word_of-spelled, no_word, named_underscore, named_word, named_name}
use Rattle.own_lex.proofs.LawsNumbers.{number_again, joined_again, wide_again, number_found}
use Rattle.own_lex.proofs.LawsNumbers as numbers
use Rattle.own_lex.proofs.LawsTexts.{quote_at, body_again, unclosed_again, unclosed_fault, text_found}
use Rattle.own_lex.proofs.LawsTexts as texts
use Rattle.own_lex.proofs.LawsMarks.{IsLongest, longest_found, longest_none, longest_again, is_punctuation, mark_starts}
use Rattle.own_lex.proofs.LawsStarts.{digit_is, quote_is, punctuation_is, start_is, blank_none, no_comment}
use Rattle.own_lex.proofs.LawsComments.{comment_found}

-- a fault of the definition, as the reader gives it
abbrev pub fault_of : rules.Fault → Fault
fault_of (rules.BadChar at) = fault.BadChar (bytes_of at)
fault_of (rules.OpenComment at) = fault.OpenComment (bytes_of at)
fault_of (rules.OpenText at) = fault.OpenText (bytes_of at)
fault_of (rules.WideNumber at) = fault.WideNumber (bytes_of at)

-- ---- which reader reads

by_name : (cs : Text) → first_is starts_name cs ≡ true → token_at cs ≡ name_at cs
unfolding token_at
by_name cs n = rw n refl

by_number : (cs : Text) → first_is starts_name cs ≡ false → first_is (is_digit 10) cs ≡ true → token_at cs ≡ number_at cs
unfolding token_at
by_number cs n d = rw (n, d) refl

by_text : (cs : Text) → first_is starts_name cs ≡ false → first_is (is_digit 10) cs ≡ false → first_is is_quote cs ≡ true → token_at cs ≡ text_at cs
unfolding token_at
by_text cs n d q = let b = quote_at cs ∙ q in rw (n, d, b) refl

by_mark : (cs : Text) → first_is starts_name cs ≡ false → first_is (is_digit 10) cs ≡ false → first_is is_quote cs ≡ false → token_at cs ≡ mark_at cs
unfolding token_at
by_mark cs n d q = let b = quote_at cs ∙ q in rw (n, d, b) refl

-- ---- what the definition says is read

pub record Starts (cs : Text) : Type 0 where
  pub is_there : is_over cs ≡ false
  pub no_blank : blank_at cs ≡ Ok None

starts_digit : (cs : Text) → first_is (is_digit 10) cs ≡ true → Starts cs × (first_is starts_name cs ≡ false)
starts_digit [] e = absurd cc
starts_digit (c ∷ cs) e = let d = digit_is c e in (record { is_there = refl; no_blank = no_comment c cs d.no_white d.no_slash }, d.no_name)

starts_quote : (cs : Text) → first_is is_quote cs ≡ true → Starts cs × (first_is starts_name cs ≡ false) × (first_is (is_digit 10) cs ≡ false)
starts_quote [] e = absurd cc
starts_quote (c ∷ cs) e = let q = quote_is c e in (record { is_there = refl; no_blank = no_comment c cs q.no_white q.no_slash }, q.no_name, q.no_digit)

starts_start : (c : ℕ) (cs : Text) → starts_name c ≡ true → Starts (c ∷ cs)
starts_start c cs e = let s = start_is c e in record { is_there = refl; no_blank = no_comment c cs s.no_white s.no_slash }

text_at_is : (cs : Text) (bytes : Bytes) (to : Text) → text_on (bytes_of cs) [] (after cs) ≡ Ok (bytes, to) → text_at cs ≡ Ok (kind.Text bytes, to)
unfolding text_at
text_at_is cs bytes to e = rw e refl

text_at_fault : (cs : Text) (f : Fault) → text_on (bytes_of cs) [] (after cs) ≡ Err f → text_at cs ≡ Err f
unfolding text_at
text_at_fault cs f e = rw e refl

mark_at_is : (cs : Text) (m : Mark) (to : Text) → longest_mark cs ≡ Some (m, to) → mark_at cs ≡ Ok (kind.Mark m, to)
unfolding mark_at
mark_at_is cs m to e = rw e refl

mark_at_none : (cs : Text) → longest_mark cs ≡ None → mark_at cs ≡ Err (fault.BadChar (bytes_of cs))
unfolding mark_at
mark_at_none cs e = rw e refl

spelled_again : (k : Kind) (name : Bytes) (cs to : Text) → Spelled name cs to → named name ≡ k → Starts cs × (token_at cs ≡ Ok (k, to))
spelled_again k name [] to s e = absurd s
spelled_again k name (c ∷ cs) to s e =
    let at : past continues_name cs ≡ to = sym s.2 in
    let is : named (encode_utf8_all (c ∷ run continues_name cs)) ≡ k = ap named (sym s.1) ∙ e in
    (starts_start c cs s.0, by_name (c ∷ cs) s.0 ∙ name_at-run c cs ∙ rw (is, at) refl)

-- `_` alone
run_stops : (p : ℕ → Bool) (cs : Text) → first_is p cs ≡ false → run p cs ≡ []
unfolding run
run_stops p [] e = refl
run_stops p (c ∷ cs) e = rw e refl

past_stops : (p : ℕ → Bool) (cs : Text) → first_is p cs ≡ false → past p cs ≡ cs
unfolding past
past_stops p [] e = refl
past_stops p (c ∷ cs) e = rw e refl

underscore_again : (cs to : Text) → Marked mark.Underscore cs to → Starts cs × (token_at cs ≡ Ok (kind.Mark mark.Underscore, to))
unfolding mark_text encode_utf8
underscore_again [] to m = let no = m.begin in absurd cc
underscore_again (c ∷ cs) to m =
    let is : c ≡ 95 = eqb-true c 95 (both (c == 95) true m.begin) in
    let rest : to ≡ cs = m.stops in
    let s : starts_name c ≡ true = rw is refl in
    let stop : first_is continues_name cs ≡ false = rw rest at m.alone s in
    let none = run_stops continues_name cs stop in
    let all = past_stops continues_name cs stop in
    let name : named (encode_utf8_all (c ∷ run continues_name cs)) ≡ kind.Mark mark.Underscore = rw (none, is) named_underscore in
    let at : past continues_name cs ≡ to = all ∙ sym rest in
    (starts_start c cs s, by_name (c ∷ cs) s ∙ name_at-run c cs ∙ rw (name, at) refl)
  where
    both : (a b : Bool) → (a && b) ≡ true → a ≡ true
    both true b e = refl
    both false b e = absurd cc

first_false : (p q : ℕ → Bool) (cs : Text) → ((c : ℕ) → p c ≡ true → q c ≡ false) → first_is p cs ≡ true → first_is q cs ≡ false
first_false p q [] h e = refl
first_false p q (c ∷ cs) h e = h c e

not_over : (p : ℕ → Bool) (cs : Text) → first_is p cs ≡ true → is_over cs ≡ false
not_over p [] e = absurd cc
not_over p (c ∷ cs) e = refl

mark_again : (m : Mark) (cs to : Text) → Marked m cs to → Starts cs × (token_at cs ≡ Ok (kind.Mark m, to))
mark_again m cs to is = go (mark_starts m cs is.begin)
  where
    go : (m ≡ mark.Underscore) ⊎ (first_is is_punctuation cs ≡ true) → Starts cs × (token_at cs ≡ Ok (kind.Mark m, to))
    go (inl y) = subst (λ (n : Mark). Starts cs × (token_at cs ≡ Ok (kind.Mark n, to))) (sym y) (underscore_again cs to (subst (λ (n : Mark). Marked n cs to) y is))
    go (inr z) =
        let n = first_false is_punctuation starts_name cs (λ c e. (punctuation_is c e).no_name) z in
        let d = first_false is_punctuation (is_digit 10) cs (λ c e. (punctuation_is c e).no_digit) z in
        let q = first_false is_punctuation is_quote cs (λ c e. (punctuation_is c e).no_quote) z in
        let w = first_false is_punctuation is_white cs (λ c e. (punctuation_is c e).no_white) z in
        let long : IsLongest m cs to = record { begin = is.begin; longest = is.longest; stops = is.stops } in
        (record { is_there = not_over is_punctuation cs z; no_blank = blank_none cs w is.no_line_comment is.no_comment }, by_mark cs n d q ∙ mark_at_is cs m to (longest_again m cs to long))

pub lexeme_again : (k : Kind) (cs to : Text) → Lexeme k cs to → Starts cs × (token_at cs ≡ Ok (k, to))
lexeme_again (kind.Name name) cs to l = spelled_again (kind.Name name) name cs to l.0 (named_name name l.1 l.2)
lexeme_again (kind.Word w) cs to l = spelled_again (kind.Word w) (word_text w) cs to l (named_word w)
lexeme_again (kind.Number n) cs to l = let s = starts_digit cs l.starts in (s.0, by_number cs s.1 l.starts ∙ number_again n cs to l)
lexeme_again (kind.Text bytes) cs to l = let s = starts_quote cs l.1 in (s.0, by_text cs s.1 s.2 l.1 ∙ text_at_is cs bytes to (body_again (bytes_of cs) [] (after cs) l.0 to l.2 ∙ ap (λ (b : Bytes). let x : Bytes × Text = (b, to) in let r : Read (Bytes × Text) = Ok x in r) (sym l.3)))
lexeme_again (kind.Mark m) cs to l = mark_again m cs to l

-- ---- the faults

and_right : (b : Bool) → (b && true) ≡ b
and_right true = refl
and_right false = refl

-- no comment begins where no `/` stands
no_slash : (cs : Text) (d : ℕ) → begins (codes "/") cs ≡ false → begins (47 ∷ d ∷ []) cs ≡ false
no_slash [] d e = refl
no_slash (c ∷ cs) d e = let no : (c == 47) ≡ false = sym (and_right (c == 47)) ∙ e in rw no refl

slash_text : mark_text mark.Slash ≡ codes "/"
unfolding mark_text
slash_text = refl

alien_again : (cs : Text) → Alien cs → Starts cs × (token_at cs ≡ Err (fault.BadChar (bytes_of cs)))
alien_again cs a =
    let slash : begins (codes "/") cs ≡ false = subst (λ (t : Bytes). begins t cs ≡ false) slash_text (a.no_mark mark.Slash) in
    (record { is_there = a.is_there; no_blank = blank_none cs a.no_white (no_slash cs 47 slash) (no_slash cs 42 slash) }, by_mark cs a.no_name a.no_number a.no_text ∙ mark_at_none cs (none (longest_mark cs) refl))
  where
    none : (r : Option (Mark × Text)) → longest_mark cs ≡ r → longest_mark cs ≡ None
    none None e = e
    none (Some x) e = let l = longest_found cs x.0 x.1 e in absurd (both_ways (begins (mark_text x.0) cs) (a.no_mark x.0) l.begin)

-- what stands at the front of a comment
pub record Opening (cs : Text) : Type 0 where
  pub is_there : is_over cs ≡ false
  pub no_white : first_is is_white cs ≡ false
  pub no_line : opens_line_comment cs ≡ false

pub opening : (cs : Text) → opens_comment cs ≡ true → Opening cs
opening [] e = absurd cc
opening (c ∷ []) e = let no : false ≡ true = (and_parts (c == 47) false e).1 in absurd cc
opening (c ∷ d ∷ cs) e =
    let x = and_parts (c == 47) (d == 42 && true) e in
    let y = and_parts (d == 42) true x.1 in
    let i : c ≡ 47 = eqb-true c 47 x.0 in
    let j : d ≡ 42 = eqb-true d 42 y.0 in
    record { is_there = refl; no_white = rw i refl; no_line = rw (i, j) refl }

pub comment_never : (cs : Text) → opens_comment cs ≡ true → ((line : Bool) (to : Text) → Comment 0 false (after (after cs)) line to → ⊥) → blank_at cs ≡ Err (fault.OpenComment (bytes_of cs))
unfolding blank_at
comment_never cs o never =
    go (comment_end 0 false (after (after cs))) refl
  where
    go : (r : Option Blank) → comment_end 0 false (after (after cs)) ≡ r → blank_at cs ≡ Err (fault.OpenComment (bytes_of cs))
    go None e = let w = (opening cs o).no_white in let l = (opening cs o).no_line in rw (w, l, o, e) refl
    go (Some x) e = absurd (never x.0 x.1 (comment_found (after (after cs)) 0 false x e))

-- what the reader of a loop finds at a fault
pub data Faulty (cs : Text) (f : Fault) : Type 0 where
  in_blank : is_over cs ≡ false → blank_at cs ≡ Err f → Faulty cs f
  in_token : Starts cs → token_at cs ≡ Err f → Faulty cs f

pub breaks_again : (f : rules.Fault) (cs : Text) → Breaks f cs → Faulty cs (fault_of f)
breaks_again (rules.BadChar at) cs (inl b) =
    let a = alien_again cs b.1 in
    subst (λ (r : Text). Faulty cs (fault.BadChar (bytes_of r))) (sym b.0) (in_token a.0 a.1)
breaks_again (rules.BadChar at) cs (inr (inl j)) = let s = starts_digit cs j.starts in in_token s.0 (by_number cs s.1 j.starts ∙ joined_again cs at j)
breaks_again (rules.BadChar at) cs (inr (inr t)) = let s = starts_quote cs t.0 in in_token s.0 (by_text cs s.1 s.2 t.0 ∙ text_at_fault cs (fault.BadChar (bytes_of at)) (unclosed_again (bytes_of cs) [] (after cs) (Some at) t.1))
breaks_again (rules.OpenComment at) cs b = subst (λ (r : Text). Faulty cs (fault.OpenComment (bytes_of r))) (sym b.0) (in_blank (opening cs b.1).is_there (comment_never cs b.1 b.2))
breaks_again (rules.OpenText at) cs b =
    let s = starts_quote cs b.1 in
    subst (λ (r : Text). Faulty cs (fault.OpenText (bytes_of r))) (sym b.0) (in_token s.0 (by_text cs s.1 s.2 b.1 ∙ text_at_fault cs (fault.OpenText (bytes_of cs)) (unclosed_again (bytes_of cs) [] (after cs) None b.2)))
breaks_again (rules.WideNumber at) cs b =
    let s = starts_digit cs b.1 in
    subst (λ (r : Text). Faulty cs (fault.WideNumber (bytes_of r))) (sym b.0) (in_token s.0 (by_number cs s.1 b.1 ∙ wide_again cs b.2))

-- ---- what is read, the definition says

pub data Found (cs : Text) : Type 0 where
  a_token : (k : Kind) (to : Text) → token_at cs ≡ Ok (k, to) → Lexeme k cs to → Found cs
  a_fault : (f : rules.Fault) → token_at cs ≡ Err (fault_of f) → Breaks f cs → Found cs

run_none : (p : ℕ → Bool) (cs : Text) → run p cs ≡ [] → first_is p cs ≡ false
unfolding run
run_none p [] e = refl
run_none p (c ∷ cs) e = by_test (p c) refl
  where
    by_test : (b : Bool) → p c ≡ b → b ≡ false
    by_test true t = let no : c ∷ run p cs ≡ [] = rw t at e in absurd cc
    by_test false t = refl

underscore_length : (other : Mark) (cs : Text) → begins (mark_text other) (95 ∷ cs) ≡ true → length (mark_text other) ≤ length (mark_text mark.Underscore)
underscore_length other cs b = go (mark_starts other (95 ∷ cs) b)
  where
    go : (other ≡ mark.Underscore) ⊎ (first_is is_punctuation (95 ∷ cs) ≡ true) → length (mark_text other) ≤ length (mark_text mark.Underscore)
    go (inl y) = rw y (omega arith)
    go (inr z) = absurd cc

underscore_text : mark_text mark.Underscore ≡ codes "_"
unfolding mark_text
underscore_text = refl

underscore_found : (c : ℕ) (cs : Text) → starts_name c ≡ true → encode_utf8_all (c ∷ run continues_name cs) ≡ codes "_" → Marked mark.Underscore (c ∷ cs) (past continues_name cs)
unfolding encode_utf8
underscore_found c cs s e =
    let same : c ∷ run continues_name cs ≡ 95 ∷ [] = encodes_same (c ∷ run continues_name cs) (95 ∷ []) e in
    let i : c ≡ 95 = cc in
    let none : run continues_name cs ≡ [] = cc in
    let stop = run_none continues_name cs none in
    let all = past_stops continues_name cs stop in
    let slash = start_is c s in
    record {
      begin = subst (λ (t : Bytes). begins t (c ∷ cs) ≡ true) (sym underscore_text) (rw i refl);
      longest = λ other b. underscore_length other cs (rw i at b);
      stops = all ∙ ap (λ (t : Bytes). drop (length t) (c ∷ cs)) (sym underscore_text);
      no_line_comment = no_slash_first c cs 47 slash.no_slash;
      no_comment = no_slash_first c cs 42 slash.no_slash;
      alone = λ n. rw all stop;
    }
  where
    no_slash_first : (c : ℕ) (cs : Text) (d : ℕ) → (c == 47) ≡ false → begins (47 ∷ d ∷ []) (c ∷ cs) ≡ false
    no_slash_first c cs d e = rw e refl

name_found : (c : ℕ) (cs : Text) → starts_name c ≡ true → Found (c ∷ cs)
name_found c cs s = by_underscore (bytes_eq (encode_utf8_all (c ∷ run continues_name cs)) (codes "_")) refl
  where
    token_is : (k : Kind) → named (encode_utf8_all (c ∷ run continues_name cs)) ≡ k → token_at (c ∷ cs) ≡ Ok (k, past continues_name cs)
    token_is k e = by_name (c ∷ cs) s ∙ name_at-run c cs ∙ rw e refl

    by_word : encode_utf8_all (c ∷ run continues_name cs) ≢ codes "_" → (r : Option Word) → word_of (encode_utf8_all (c ∷ run continues_name cs)) ≡ r → Found (c ∷ cs)
    by_word other None e =
        let none = no_word (encode_utf8_all (c ∷ run continues_name cs)) e in
        a_token (kind.Name (encode_utf8_all (c ∷ run continues_name cs))) (past continues_name cs) (token_is _ (named_name _ other none)) ((s, refl, refl), other, none)
    by_word other (Some w) e =
        let text = word_of-spelled (encode_utf8_all (c ∷ run continues_name cs)) w e in
        a_token (kind.Word w) (past continues_name cs) (token_is (kind.Word w) (ap named text ∙ named_word w)) (s, sym text, refl)

    by_underscore : (b : Bool) → bytes_eq (encode_utf8_all (c ∷ run continues_name cs)) (codes "_") ≡ b → Found (c ∷ cs)
    by_underscore true t =
        let text = same_bytes (encode_utf8_all (c ∷ run continues_name cs)) (codes "_") t in
        a_token (kind.Mark mark.Underscore) (past continues_name cs) (token_is (kind.Mark mark.Underscore) (ap named text ∙ named_underscore)) (underscore_found c cs s text)
    by_underscore false t = by_word (λ same. both_ways (bytes_eq (encode_utf8_all (c ∷ run continues_name cs)) (codes "_")) t ((bytes_eq-Decides (encode_utf8_all (c ∷ run continues_name cs)) (codes "_")).1 same)) (word_of (encode_utf8_all (c ∷ run continues_name cs))) refl

number_read : (cs : Text) → first_is (is_digit 10) cs ≡ true → Found cs
number_read cs t = go (number_found cs t)
  where
    go : numbers.Outcome cs → Found cs
    go (numbers.fine n e is) = let s = starts_digit cs t in a_token (kind.Number n) (after_number cs) (by_number cs s.1 t ∙ e) is
    go (numbers.joined e is) = let s = starts_digit cs t in a_fault (rules.BadChar (after_number cs)) (by_number cs s.1 t ∙ e) (inr (inl is))
    go (numbers.wide e is) = let s = starts_digit cs t in a_fault (rules.WideNumber cs) (by_number cs s.1 t ∙ e) (refl, t, is)

text_read : (cs : Text) → first_is is_quote cs ≡ true → Found cs
text_read cs t = go (text_found (suc (length (after cs))) (after cs) (omega arith))
  where
    go : texts.Outcome (after cs) → Found cs
    go (texts.fine s to body) = let s' = starts_quote cs t in a_token (kind.Text (encode_utf8_all s)) to (by_text cs s'.1 s'.2 t ∙ text_at_is cs (encode_utf8_all s) to (body_again (bytes_of cs) [] (after cs) s to body)) (s, t, body, refl)
    go (texts.open_ None is) = let s' = starts_quote cs t in a_fault (rules.OpenText cs) (by_text cs s'.1 s'.2 t ∙ text_at_fault cs (fault.OpenText (bytes_of cs)) (unclosed_again (bytes_of cs) [] (after cs) None is)) (refl, t, is)
    go (texts.open_ (Some at) is) = let s' = starts_quote cs t in a_fault (rules.BadChar at) (by_text cs s'.1 s'.2 t ∙ text_at_fault cs (fault.BadChar (bytes_of at)) (unclosed_again (bytes_of cs) [] (after cs) (Some at) is)) (inr (inr (t, is)))

mark_read : (cs : Text) → is_over cs ≡ false → first_is is_white cs ≡ false → opens_line_comment cs ≡ false → opens_comment cs ≡ false → first_is starts_name cs ≡ false → first_is (is_digit 10) cs ≡ false → first_is is_quote cs ≡ false → Found cs
mark_read cs over w l o n d q = go (longest_mark cs) refl
  where
    go : (r : Option (Mark × Text)) → longest_mark cs ≡ r → Found cs
    go None e = a_fault (rules.BadChar cs) (by_mark cs n d q ∙ mark_at_none cs e) (inl (refl, record { is_there = over; no_white = w; no_name = n; no_number = d; no_text = q; no_mark = longest_none cs e }))
    go (Some x) e =
        let is = longest_found cs x.0 x.1 e in
        a_token (kind.Mark x.0) x.1 (by_mark cs n d q ∙ mark_at_is cs x.0 x.1 e) (record { begin = is.begin; longest = is.longest; stops = is.stops; no_line_comment = l; no_comment = o; alone = λ t. absurd (both_ways (first_is starts_name cs) n t) })

pub token_found : (cs : Text) → is_over cs ≡ false → first_is is_white cs ≡ false → opens_line_comment cs ≡ false → opens_comment cs ≡ false → Found cs
token_found [] over w l o = absurd cc
token_found (c ∷ cs) over w l o = by_start (starts_name c) refl
  where
    by_quote : starts_name c ≡ false → is_digit 10 c ≡ false → (b : Bool) → is_quote c ≡ b → Found (c ∷ cs)
    by_quote n d true t = text_read (c ∷ cs) t
    by_quote n d false t = mark_read (c ∷ cs) over w l o n d t

    by_digit : starts_name c ≡ false → (b : Bool) → is_digit 10 c ≡ b → Found (c ∷ cs)
    by_digit n true t = number_read (c ∷ cs) t
    by_digit n false t = by_quote n t (is_quote c) refl

    by_start : (b : Bool) → starts_name c ≡ b → Found (c ∷ cs)
    by_start true t = name_found c cs t
    by_start false t = by_digit t (is_digit 10 c) refl
