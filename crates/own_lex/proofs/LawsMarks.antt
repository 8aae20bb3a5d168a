-- Marks: what is read, and what the definition says.
use Rattle.std.proofs.Common.{◌≡◌, ℕ, ◌≤◌, Bool, cond, true, false, not, ◌&&◌, ◌||◌, ◌==◌, List, [], ◌∷◌, length, drop, map, Option, Some, None, ◌⊎◌, inl, inr, refl, sym, ap, ◌∙◌, arith, bytes_eq, leb, ltb}
use Rattle.std.proofs.lemmas.Bool.{leb-true, eqb-true}
use Rattle.std.specs.Char.{is_ascii_alphanumeric}
use Rattle.own_tree.specs.declared.token.Mark.{Mark}
use Rattle.own_tree.specs.declared.token.Mark.TheVariants as mark
use Rattle.own_tree.specs.Characters.{Text, first_is, begins}
use Rattle.own_tree.specs.Spelling.{mark_text}
use Rattle.own_lex.specs.declared.mark.TheConstants.{MARKS}
use Rattle.own_lex.specs.Reading.{Bytes, first_mark, longest_mark}
use Rattle.own_lex.proofs.LawsNames.{both, same_bytes}

abbrev table : List (Bytes × Mark)
table = map (λ e. (e.0.now, e.1)) MARKS

-- each row spells its mark
abbrev all_spelled : List (Bytes × Mark) → Bool
all_spelled [] = true
all_spelled (e ∷ es) = bytes_eq e.0 (mark_text e.1) && all_spelled es

table_spelled : all_spelled table ≡ true
unfolding mark_text
table_spelled = refl

-- no row is longer than one above it
abbrev none_longer : ℕ → List (Bytes × Mark) → Bool
none_longer n [] = true
none_longer n (e ∷ es) = leb (length e.0) n && none_longer n es

abbrev falls : List (Bytes × Mark) → Bool
falls [] = true
falls (e ∷ es) = none_longer (length e.0) es && falls es

table_falls : falls table ≡ true
table_falls = refl

abbrev has : Bytes → List (Bytes × Mark) → Bool
has t [] = false
has t (e ∷ es) = bytes_eq e.0 t || has t es

in_table : (m : Mark) → has (mark_text m) table ≡ true
unfolding mark_text
in_table mark.OpenParen = refl
in_table mark.CloseParen = refl
in_table mark.OpenBrace = refl
in_table mark.CloseBrace = refl
in_table mark.Comma = refl
in_table mark.Colon = refl
in_table mark.Semicolon = refl
in_table mark.Dot = refl
in_table mark.Arrow = refl
in_table mark.Assign = refl
in_table mark.Equal = refl
in_table mark.NotEqual = refl
in_table mark.Less = refl
in_table mark.LessEqual = refl
in_table mark.Greater = refl
in_table mark.GreaterEqual = refl
in_table mark.Plus = refl
in_table mark.Minus = refl
in_table mark.Star = refl
in_table mark.Slash = refl
in_table mark.Percent = refl
in_table mark.WrappingPlus = refl
in_table mark.WrappingMinus = refl
in_table mark.WrappingStar = refl
in_table mark.And = refl
in_table mark.Or = refl
in_table mark.Not = refl
in_table mark.Question = refl
in_table mark.HalfOpenRange = refl
in_table mark.ClosedRange = refl
in_table mark.PlusAssign = refl
in_table mark.MinusAssign = refl
in_table mark.StarAssign = refl
in_table mark.SlashAssign = refl
in_table mark.PercentAssign = refl
in_table mark.Ampersand = refl
in_table mark.Tilde = refl
in_table mark.Underscore = refl

read_alone : (m : Mark) → longest_mark (mark_text m) ≡ Some (m, [])
unfolding longest_mark mark_text
read_alone mark.OpenParen = refl
read_alone mark.CloseParen = refl
read_alone mark.OpenBrace = refl
read_alone mark.CloseBrace = refl
read_alone mark.Comma = refl
read_alone mark.Colon = refl
read_alone mark.Semicolon = refl
read_alone mark.Dot = refl
read_alone mark.Arrow = refl
read_alone mark.Assign = refl
read_alone mark.Equal = refl
read_alone mark.NotEqual = refl
read_alone mark.Less = refl
read_alone mark.LessEqual = refl
read_alone mark.Greater = refl
read_alone mark.GreaterEqual = refl
read_alone mark.Plus = refl
read_alone mark.Minus = refl
read_alone mark.Star = refl
read_alone mark.Slash = refl
read_alone mark.Percent = refl
read_alone mark.WrappingPlus = refl
read_alone mark.WrappingMinus = refl
read_alone mark.WrappingStar = refl
read_alone mark.And = refl
read_alone mark.Or = refl
read_alone mark.Not = refl
read_alone mark.Question = refl
read_alone mark.HalfOpenRange = refl
read_alone mark.ClosedRange = refl
read_alone mark.PlusAssign = refl
read_alone mark.MinusAssign = refl
read_alone mark.StarAssign = refl
read_alone mark.SlashAssign = refl
read_alone mark.PercentAssign = refl
read_alone mark.Ampersand = refl
read_alone mark.Tilde = refl
read_alone mark.Underscore = refl

-- ---- the first row that fits

either_is : (a b : Bool) → (a || b) ≡ true → (a ≡ true) ⊎ (b ≡ true)
either_is true b e = inl refl
either_is false b e = inr e

spelled_row : (es : List (Bytes × Mark)) (cs : Text) (x : Mark × Text) → all_spelled es ≡ true → first_mark es cs ≡ Some x → (begins (mark_text x.0) cs ≡ true) × (x.1 ≡ drop (length (mark_text x.0)) cs)
spelled_row [] cs x all e = absurd cc
spelled_row (m ∷ ms) cs x all e = by_test (begins m.0 cs) refl e (spelled_row ms cs x (both _ _ all).1)
  where
    by_test : (b : Bool) → begins m.0 cs ≡ b → cond b (Some (m.1, drop (length m.0) cs)) (first_mark ms cs) ≡ Some x → (first_mark ms cs ≡ Some x → (begins (mark_text x.0) cs ≡ true) × (x.1 ≡ drop (length (mark_text x.0)) cs)) → (begins (mark_text x.0) cs ≡ true) × (x.1 ≡ drop (length (mark_text x.0)) cs)
    by_test true t e more =
        let same : (m.1, drop (length m.0) cs) ≡ x = cc in
        let text : m.0 ≡ mark_text m.1 = same_bytes m.0 (mark_text m.1) (both _ _ all).0 in
        rw (← same) (rw text at t, ap (λ (s : Bytes). drop (length s) cs) text)
    by_test false t e more = more e

longer_none : (es : List (Bytes × Mark)) (n : ℕ) (t : Bytes) → none_longer n es ≡ true → has t es ≡ true → length t ≤ n
longer_none [] n t le e = absurd cc
longer_none (m ∷ ms) n t le e = elim (either_is (bytes_eq m.0 t) (has t ms) e) [
  | inl y ↦ (let same = same_bytes m.0 t y in let k = leb-true (length m.0) n (both _ _ le).0 in rw (← same) k)
  | inr z ↦ longer_none ms n t (both _ _ le).1 z
]

longest_row : (es : List (Bytes × Mark)) (cs : Text) (x : Mark × Text) (t : Bytes) → all_spelled es ≡ true → falls es ≡ true → first_mark es cs ≡ Some x → has t es ≡ true → begins t cs ≡ true → length t ≤ length (mark_text x.0)
longest_row [] cs x t all f e h b = absurd cc
longest_row (m ∷ ms) cs x t all f e h b = by_test (begins m.0 cs) refl e (λ e' h'. longest_row ms cs x t (both _ _ all).1 (both _ _ f).1 e' h' b)
  where
    by_test : (v : Bool) → begins m.0 cs ≡ v → cond v (Some (m.1, drop (length m.0) cs)) (first_mark ms cs) ≡ Some x → (first_mark ms cs ≡ Some x → has t ms ≡ true → length t ≤ length (mark_text x.0)) → length t ≤ length (mark_text x.0)
    by_test true v e more =
        let same : (m.1, drop (length m.0) cs) ≡ x = cc in
        let text : m.0 ≡ mark_text m.1 = same_bytes m.0 (mark_text m.1) (both _ _ all).0 in
        let le : length t ≤ length m.0 = elim (either_is (bytes_eq m.0 t) (has t ms) h) [
          | inl y ↦ (let is = same_bytes m.0 t y in rw (← is) (omega arith))
          | inr z ↦ longer_none ms (length m.0) t (both _ _ f).0 z
        ] in
        rw (← same, ← text) le
    by_test false v e more = elim (either_is (bytes_eq m.0 t) (has t ms) h) [
      | inl y ↦ (let is = same_bytes m.0 t y in let no : begins t cs ≡ false = rw is at v in absurd cc)
      | inr z ↦ more e z
    ]

no_row : (es : List (Bytes × Mark)) (cs : Text) (t : Bytes) → first_mark es cs ≡ None → has t es ≡ true → begins t cs ≡ false
no_row [] cs t e h = absurd cc
no_row (m ∷ ms) cs t e h = by_test (begins m.0 cs) refl e (λ e' h'. no_row ms cs t e' h')
  where
    by_test : (v : Bool) → begins m.0 cs ≡ v → cond v (Some (m.1, drop (length m.0) cs)) (first_mark ms cs) ≡ None → (first_mark ms cs ≡ None → has t ms ≡ true → begins t cs ≡ false) → begins t cs ≡ false
    by_test true v e more = absurd cc
    by_test false v e more = elim (either_is (bytes_eq m.0 t) (has t ms) h) [
      | inl y ↦ (let is = same_bytes m.0 t y in rw is at v)
      | inr z ↦ more e z
    ]

-- ---- the longest mark

pub record IsLongest (m : Mark) (cs to : Text) : Type 0 where
  pub begin : begins (mark_text m) cs ≡ true
  pub longest : (other : Mark) → begins (mark_text other) cs ≡ true → length (mark_text other) ≤ length (mark_text m)
  pub stops : to ≡ drop (length (mark_text m)) cs

pub longest_found : (cs : Text) (m : Mark) (to : Text) → longest_mark cs ≡ Some (m, to) → IsLongest m cs to
unfolding longest_mark
longest_found cs m to e =
    let row = spelled_row table cs (m, to) table_spelled e in
    record { begin = row.0; longest = λ other b. longest_row table cs (m, to) (mark_text other) table_spelled table_falls e (in_table other) b; stops = row.1 }

pub longest_none : (cs : Text) → longest_mark cs ≡ None → (m : Mark) → begins (mark_text m) cs ≡ false
unfolding longest_mark
longest_none cs e m = no_row table cs (mark_text m) e (in_table m)

same_start : (s t : Bytes) (cs : Text) → begins s cs ≡ true → begins t cs ≡ true → length s ≡ length t → s ≡ t
same_start [] [] cs a b e = refl
same_start [] (y ∷ ys) cs a b e = absurd (omega arith)
same_start (x ∷ xs) [] cs a b e = absurd (omega arith)
same_start (x ∷ xs) (y ∷ ys) [] a b e = absurd cc
same_start (x ∷ xs) (y ∷ ys) (c ∷ cs) a b e =
    let p = both _ _ a in let q = both _ _ b in
    let i : c ≡ x = eqb-true c x p.0 in let j : c ≡ y = eqb-true c y q.0 in
    let k : xs ≡ ys = same_start xs ys cs p.1 q.1 (omega arith) in
    cc

abbrev taken : Mark → Option (Mark × Text) → Mark
taken m None = m
taken m (Some x) = x.0

mark_of : (m n : Mark) → mark_text m ≡ mark_text n → m ≡ n
mark_of m n e = ap (taken m) (sym (read_alone m) ∙ ap longest_mark e ∙ read_alone n)

pub longest_again : (m : Mark) (cs to : Text) → IsLongest m cs to → longest_mark cs ≡ Some (m, to)
longest_again m cs to is = go (longest_mark cs) refl
  where
    go : (r : Option (Mark × Text)) → longest_mark cs ≡ r → r ≡ Some (m, to)
    go None e = let no : begins (mark_text m) cs ≡ false = longest_none cs e m in let yes_ = is.begin in absurd cc
    go (Some x) e =
        let other : IsLongest x.0 cs x.1 = longest_found cs x.0 x.1 e in
        let a = is.longest x.0 other.begin in let b = other.longest m is.begin in
        let text : mark_text m ≡ mark_text x.0 = same_start (mark_text m) (mark_text x.0) cs is.begin other.begin (omega arith) in
        let same : m ≡ x.0 = mark_of m x.0 text in
        let rest : to ≡ x.1 = is.stops ∙ ap (λ (s : Bytes). drop (length s) cs) text ∙ sym other.stops in
        rw (same, rest) refl

-- ---- what a mark begins with

-- an ASCII character that begins nothing else
abbrev pub is_punctuation : ℕ → Bool
is_punctuation c = ltb c 128 && (not (is_ascii_alphanumeric c) && (not (c == 95) && (not (c == 34) && (not (c == 32) && (not (c == 9) && (not (c == 10) && not (c == 13)))))))

starts_mark : (m : Mark) → (m ≡ mark.Underscore) ⊎ (first_is is_punctuation (mark_text m) ≡ true)
unfolding mark_text
starts_mark mark.OpenParen = inr refl
starts_mark mark.CloseParen = inr refl
starts_mark mark.OpenBrace = inr refl
starts_mark mark.CloseBrace = inr refl
starts_mark mark.Comma = inr refl
starts_mark mark.Colon = inr refl
starts_mark mark.Semicolon = inr refl
starts_mark mark.Dot = inr refl
starts_mark mark.Arrow = inr refl
starts_mark mark.Assign = inr refl
starts_mark mark.Equal = inr refl
starts_mark mark.NotEqual = inr refl
starts_mark mark.Less = inr refl
starts_mark mark.LessEqual = inr refl
starts_mark mark.Greater = inr refl
starts_mark mark.GreaterEqual = inr refl
starts_mark mark.Plus = inr refl
starts_mark mark.Minus = inr refl
starts_mark mark.Star = inr refl
starts_mark mark.Slash = inr refl
starts_mark mark.Percent = inr refl
starts_mark mark.WrappingPlus = inr refl
starts_mark mark.WrappingMinus = inr refl
starts_mark mark.WrappingStar = inr refl
starts_mark mark.And = inr refl
starts_mark mark.Or = inr refl
starts_mark mark.Not = inr refl
starts_mark mark.Question = inr refl
starts_mark mark.HalfOpenRange = inr refl
starts_mark mark.ClosedRange = inr refl
starts_mark mark.PlusAssign = inr refl
starts_mark mark.MinusAssign = inr refl
starts_mark mark.StarAssign = inr refl
starts_mark mark.SlashAssign = inr refl
starts_mark mark.PercentAssign = inr refl
starts_mark mark.Ampersand = inr refl
starts_mark mark.Tilde = inr refl
starts_mark mark.Underscore = inl refl

pub begin_first : (p : ℕ → Bool) (t : Bytes) (cs : Text) → first_is p t ≡ true → begins t cs ≡ true → first_is p cs ≡ true
begin_first p [] cs f b = absurd cc
begin_first p (x ∷ xs) [] f b = absurd cc
begin_first p (x ∷ xs) (c ∷ cs) f b = let same : c ≡ x = eqb-true c x (both _ _ b).0 in rw same f

pub mark_starts : (m : Mark) (cs : Text) → begins (mark_text m) cs ≡ true → (m ≡ mark.Underscore) ⊎ (first_is is_punctuation cs ≡ true)
mark_starts m cs b = elim (starts_mark m) [ inl y ↦ inl y | inr z ↦ inr (begin_first is_punctuation (mark_text m) cs z b) ]
