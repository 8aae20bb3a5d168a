-- Lists of parts, as the declarations have them: with commas, in parentheses, and each with its SEP.
use Rattle.std.specs.Prelude.{◌≡◌, ℕ, suc, zero, max, Bool, true, List, [], ◌∷◌, ◌++◌, length, Some, Ok, Err, if◌then◌else◌}
use Rattle.own_tree.specs.declared.token.Kind.TheVariants.{Mark}
use Rattle.own_tree.specs.declared.token.Mark.TheVariants as mark
use Rattle.own_grammar.specs.Tests.{Toks, after, kind_at, is_mark}
use Rattle.own_grammar.specs.Spells.{Sep}
use Rattle.own_grammar.specs.Reading.{Syntax, Read, ◌>>=◌, syntax_at, sep_at}

-- a part, then a comma and a part, and so on
abbrev pub Listed : {A : Type 0} → (A → Toks → Toks → Type 0) → List A → Toks → Toks → Type 0
Listed S [] from to = ⊥
Listed S (x ∷ []) from to = S x from to
Listed S (x ∷ y ∷ xs) from to = (mid : Toks) × S x from mid × (kind_at mid ≡ Some (Mark mark.Comma)) × Listed S (y ∷ xs) (after mid) to

-- between parentheses, `last` beginning with the closing one
abbrev pub Bracketed : {A : Type 0} → (A → Toks → Toks → Type 0) → List A → Toks → Toks → Type 0
Bracketed S [] from last = (kind_at from ≡ Some (Mark mark.OpenParen)) × (kind_at last ≡ Some (Mark mark.CloseParen)) × (last ≡ after from)
Bracketed S (x ∷ xs) from last = (kind_at from ≡ Some (Mark mark.OpenParen)) × (kind_at last ≡ Some (Mark mark.CloseParen)) × Listed S (x ∷ xs) (after from) last

-- each with a SEP after it: a `;`, or nothing where the next token has a line before it, is `}` or is the end
abbrev pub Separated : {A : Type 0} → (A → Toks → Toks → Type 0) → List A → Toks → Toks → Type 0
Separated S [] from to = to ≡ from
Separated S (x ∷ xs) from to = (mid : Toks) × (next : Toks) × S x from mid × Sep true mid next × Separated S xs next to

-- the greatest size of a part
abbrev pub greatest : {A : Type 0} → (A → ℕ) → List A → ℕ
greatest size [] = 0
greatest size (x ∷ xs) = max (size x) (greatest size xs)

-- ---- reading, with more fuel than there are tokens

unfoldable pub listed_at : {A : Type 0} → (Toks → Read A) → ℕ → List A → Toks → Read (List A)
listed_at item zero found ts = Err (Syntax 0)
listed_at item (suc fuel) found ts = item ts >>= λ x. if is_mark mark.Comma x.1 then listed_at item fuel (found ++ x.0 ∷ []) (after x.1) else Ok (found ++ x.0 ∷ [], x.1)

-- the parts from here on, after those that were found
unfoldable pub listed_on : {A : Type 0} → (Toks → Read A) → List A → Toks → Read (List A)
listed_on item found ts = listed_at item (suc (length ts)) found ts

-- up to the closing parenthesis, which is what is left
unfoldable pub bracketed_with : {A : Type 0} → (Toks → Read A) → Toks → Read (List A)
bracketed_with item ts = if is_mark mark.OpenParen ts then
    (if is_mark mark.CloseParen (after ts) then Ok ([], after ts)
    else (listed_on item [] (after ts) >>= λ xs. if is_mark mark.CloseParen xs.1 then Ok xs else syntax_at xs.1))
    else syntax_at ts

unfoldable pub separated_at : {A : Type 0} → (Toks → Bool) → (Toks → Read A) → ℕ → List A → Toks → Read (List A)
separated_at stops item zero found ts = Err (Syntax 0)
separated_at stops item (suc fuel) found ts = if stops ts then Ok (found, ts)
    else (item ts >>= λ x. sep_at true x.1 >>= λ next. separated_at stops item fuel (found ++ x.0 ∷ []) next)

-- the parts up to a token that passes the test, after those that were found
unfoldable pub separated_on : {A : Type 0} → (Toks → Bool) → (Toks → Read A) → List A → Toks → Read (List A)
separated_on stops item found ts = separated_at stops item (suc (length ts)) found ts
