-- Texts: what is left after a character is shorter, so the bound on the length of a text does not count.
use Rattle.std.proofs.Common.{◌≡◌, ℕ, zero, suc, ◌+◌, ◌*◌, ◌≤◌, ◌<◌, Bool, cond, true, false, ◌&&◌, [], ◌∷◌, ◌++◌, length, Option, Some, None, Ok, Err, refl, arith, codes, option_map}
use lib.Utf8.{scalar}
use Rattle.std.specs.Char.{digit_value, encode_utf8}
use Rattle.own_tree.specs.Characters.{Text, is_line_end, is_backslash, is_digit, after, first_is, begins}
use Rattle.own_tree.specs.Tokens.{hexadecimal, closed_scalar, braced_scalar, escape, simple_escape, escaped, ends_line}
use Rattle.own_lex.specs.declared.fault.Fault.{Fault}
use Rattle.own_lex.specs.declared.fault.Fault.TheVariants as fault
use Rattle.own_lex.specs.Reading.{Bytes, Read, ◌>>=◌, character_at, text_step, text_within, text_on, or_bad}

-- ---- choices

-- a choice that gives something took the branch that can
pub kept : {A : Type 0} (b : Bool) (f : Fault) (r : Read A) (x : A) → cond b (Err f) r ≡ Ok x → (b ≡ false) × (r ≡ Ok x)
kept true f r x e = absurd cc
kept false f r x e = (refl, e)

pub some_kept : {A : Type 0} (b : Bool) (r : Option A) (x : A) → cond b r None ≡ Some x → (b ≡ true) × (r ≡ Some x)
some_kept true r x e = (refl, e)
some_kept false r x e = absurd cc

-- ---- what is left

pub after_le : (cs : Text) → length (after cs) ≤ length cs
after_le [] = omega arith
after_le (c ∷ cs) = omega arith

pub hexadecimal_le : (k n : ℕ) (cs : Text) → length (hexadecimal k n cs).1 ≤ length cs
unfolding hexadecimal
hexadecimal_le zero n cs = omega arith
hexadecimal_le (suc k) n [] = omega arith
hexadecimal_le (suc k) n (c ∷ cs) = by_test (is_digit 16 c) refl (hexadecimal_le k (n * 16 + digit_value c) cs)
  where
    by_test : (b : Bool) → is_digit 16 c ≡ b → length (hexadecimal k (n * 16 + digit_value c) cs).1 ≤ length cs → length (hexadecimal (suc k) n (c ∷ cs)).1 ≤ length (c ∷ cs)
    by_test true t le = rw t (omega arith)
    by_test false t le = rw t (omega arith)

closed_le : (y x : ℕ × Text) → closed_scalar y ≡ Some x → length x.1 ≤ length y.1
closed_le y x e =
    let k = some_kept (begins (codes "}") y.1 && scalar y.0) (Some (y.0, after y.1)) x e in
    let is : Some (y.0, after y.1) ≡ Some x = k.1 in
    let same : (y.0, after y.1) ≡ x = cc in
    rw (← same) (after_le y.1)

braced_le : (cs : Text) (x : ℕ × Text) → braced_scalar cs ≡ Some x → length x.1 ≤ length cs
braced_le cs x e =
    let k = some_kept (begins (codes "{") cs && first_is (is_digit 16) (after cs)) (closed_scalar (hexadecimal 8 0 (after cs))) x e in
    let a = closed_le (hexadecimal 8 0 (after cs)) x k.1 in
    let b = hexadecimal_le 8 0 (after cs) in
    let d = after_le cs in
    omega arith

simple_le : (cs : Text) (x : ℕ × Text) → simple_escape cs ≡ Some x → length x.1 ≤ length cs
simple_le [] x e = absurd cc
simple_le (c ∷ cs) x e = go (escaped c) e
  where
    go : (r : Option ℕ) → option_map (λ (y : ℕ). let z : ℕ × Text = (y, cs) in z) r ≡ Some x → length x.1 ≤ length (c ∷ cs)
    go None e = absurd cc
    go (Some y) e = let same : (y, cs) ≡ x = cc in rw (← same) (omega arith)

pub escape_le : (cs : Text) (x : ℕ × Text) → escape cs ≡ Some x → length x.1 ≤ length cs
escape_le cs x e = go (begins (codes "u") cs) e
  where
    go : (b : Bool) → cond b (braced_scalar (after cs)) (simple_escape cs) ≡ Some x → length x.1 ≤ length cs
    go true e = let a = braced_le (after cs) x e in let b = after_le cs in omega arith
    go false e = simple_le cs x e

pub character_less : (start : ℕ) (cs : Text) (x : ℕ × Text) → character_at start cs ≡ Ok x → length x.1 < length cs
unfolding character_at
character_less start [] x e = absurd cc
character_less start (c ∷ cs) x e =
    let k = kept (is_line_end c) (fault.OpenText start) (cond (is_backslash c) (cond (ends_line cs) (Err (fault.OpenText start)) (or_bad (c ∷ cs) (escape cs))) (Ok (c, cs))) x e in
    go (is_backslash c) k.1
  where
    found : (r : Option (ℕ × Text)) → escape cs ≡ r → or_bad (c ∷ cs) r ≡ Ok x → length x.1 < length (c ∷ cs)
    found None is e = absurd cc
    found (Some y) is e = let same : y ≡ x = cc in let le = escape_le cs y is in rw (← same) (omega arith)

    go : (b : Bool) → cond b (cond (ends_line cs) (Err (fault.OpenText start)) (or_bad (c ∷ cs) (escape cs))) (Ok (c, cs)) ≡ Ok x → length x.1 < length (c ∷ cs)
    go true e = let k = kept (ends_line cs) (fault.OpenText start) (or_bad (c ∷ cs) (escape cs)) x e in found (escape cs) refl k.1
    go false e = let same : (c, cs) ≡ x = cc in rw (← same) (omega arith)

-- ---- the bound

step_same : (k l : Bytes → Text → Read (Bytes × Text)) (start : ℕ) (found : Bytes) (cs : Text) → ((f : Bytes) (ds : Text) → length ds < length cs → k f ds ≡ l f ds) → text_step k start found cs ≡ text_step l start found cs
step_same k l start found cs same = by_test (begins (codes "\"") cs) refl
  where
    go : (r : Read (ℕ × Text)) → character_at start cs ≡ r → (r >>= λ x. k (found ++ encode_utf8 x.0) x.1) ≡ (r >>= λ x. l (found ++ encode_utf8 x.0) x.1)
    go (Ok x) is = same (found ++ encode_utf8 x.0) x.1 (character_less start cs x is)
    go (Err f) is = refl

    by_test : (b : Bool) → begins (codes "\"") cs ≡ b → text_step k start found cs ≡ text_step l start found cs
    by_test true t = rw t refl
    by_test false t = rw t (go (character_at start cs) refl)

within_same : (n m start : ℕ) (found : Bytes) (cs : Text) → length cs < n → length cs < m → text_within n start found cs ≡ text_within m start found cs
unfolding text_within
within_same zero m start found cs a b = absurd (omega arith)
within_same (suc n) zero start found cs a b = absurd (omega arith)
within_same (suc n) (suc m) start found cs a b = step_same (text_within n start) (text_within m start) start found cs (λ f ds lt. within_same n m start f ds (omega arith) (omega arith))

pub text_is : (start : ℕ) (found : Bytes) (cs : Text) → text_on start found cs ≡ text_step (text_on start) start found cs
unfolding text_on text_within
text_is start found cs = step_same (text_within (length cs) start) (text_on start) start found cs (λ f ds lt. within_same (length cs) (suc (length ds)) start f ds lt (omega arith))
