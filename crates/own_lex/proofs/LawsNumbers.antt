-- Numbers: what is read, and what the definition says.
use Rattle.std.proofs.Common.{◌≡◌, ℕ, zero, suc, ◌+◌, ◌*◌, ◌^◌, ◌≤◌, ◌<◌, Bool, cond, true, false, [], ◌∷◌, Some, None, Ok, Err, refl, sym, ap, ◌∙◌, arith, mul-suc, leb, codes}
use Rattle.std.proofs.lemmas.Bool.{leb-true, leb-false, le-leb, lt-leb}
use Rattle.std.specs.Char.{digit_value}
use Rattle.own_tree.specs.declared.token.Kind.TheVariants as kind
use Rattle.own_tree.specs.Characters.{Text, bytes_of, is_digit, continues_name, after, first_is, begins, run, past}
use Rattle.own_tree.specs.Tokens.{prefixed, digits, in_number, value_after, value_of, after_number, Counted, Joined}
use Rattle.own_lex.specs.declared.fault.Fault.TheVariants as fault
use Rattle.own_lex.specs.Reading.{within, grown, with_digit, number_on, number_end, number_at}

grow : (n base : ℕ) → 1 ≤ base → n ≤ n * base
grow n zero h = absurd (omega arith)
grow n (suc b) h = omega (arith, mul-suc n b)

grown-within : (base n d : ℕ) → 1 ≤ base → grown base (within n) d ≡ within (n * base + d)
grown-within base n d h = by_test (leb n (2 ^ 63)) refl
  where
    by_test : (b : Bool) → leb n (2 ^ 63) ≡ b → grown base (within n) d ≡ within (n * base + d)
    by_test true t = rw t refl
    by_test false t = let big = leb-false n (2 ^ 63) t in let le = grow n base h in let more : leb (n * base + d) (2 ^ 63) ≡ false = lt-leb (n * base + d) (2 ^ 63) (omega arith) in rw (t, more) refl

with_digit-within : (base n c : ℕ) → 1 ≤ base → with_digit base (within n) c ≡ within (cond (is_digit base c) (n * base + digit_value c) n)
with_digit-within base n c h = by_test (is_digit base c) refl
  where
    by_test : (b : Bool) → is_digit base c ≡ b → with_digit base (within n) c ≡ within (cond (is_digit base c) (n * base + digit_value c) n)
    by_test true t = rw t (grown-within base n (digit_value c) h)
    by_test false t = rw t refl

number_on-run : (cs : Text) (base n : ℕ) → 1 ≤ base → number_on base (within n) cs ≡ (within (value_after base n (run (in_number base) cs)), past (in_number base) cs)
unfolding number_on run past
number_on-run [] base n h = refl
number_on-run (c ∷ cs) base n h = by_test (in_number base c) refl (number_on-run cs base (cond (is_digit base c) (n * base + digit_value c) n) h)
  where
    by_test : (b : Bool) → in_number base c ≡ b
        → number_on base (within (cond (is_digit base c) (n * base + digit_value c) n)) cs ≡ (within (value_after base (cond (is_digit base c) (n * base + digit_value c) n) (run (in_number base) cs)), past (in_number base) cs)
        → number_on base (within n) (c ∷ cs) ≡ (within (value_after base n (run (in_number base) (c ∷ cs))), past (in_number base) (c ∷ cs))
    by_test true t more = rw (t, with_digit-within base n c h) more
    by_test false t more = rw t refl

positive : (cs : Text) → 1 ≤ (digits cs).0
positive cs = zero_x (begins (codes "0x") cs)
  where
    by_digit : (base : ℕ) → 1 ≤ base → (b : Bool) → 1 ≤ (cond {A = ℕ × Text} b (base, after (after cs)) (10, cs)).0
    by_digit base h true = h
    by_digit base h false = omega arith

    zero_b : (b : Bool) → 1 ≤ (prefixed (cond b (Some 2) None) cs).0
    zero_b true = by_digit 2 (omega arith) (first_is (is_digit 2) (after (after cs)))
    zero_b false = omega arith

    zero_o : (b : Bool) → 1 ≤ (prefixed (cond b (Some 8) (cond (begins (codes "0b") cs) (Some 2) None)) cs).0
    zero_o true = by_digit 8 (omega arith) (first_is (is_digit 8) (after (after cs)))
    zero_o false = zero_b (begins (codes "0b") cs)

    zero_x : (b : Bool) → 1 ≤ (prefixed (cond b (Some 16) (cond (begins (codes "0o") cs) (Some 8) (cond (begins (codes "0b") cs) (Some 2) None))) cs).0
    zero_x true = by_digit 16 (omega arith) (first_is (is_digit 16) (after (after cs)))
    zero_x false = zero_o (begins (codes "0o") cs)

pub number_is : (cs : Text) → number_at cs ≡ number_end cs (within (value_of cs), after_number cs)
unfolding number_at
number_is cs = ap (number_end cs) (number_on-run (digits cs).1 (digits cs).0 0 (positive cs))

pub number_again : (n : ℕ) (cs to : Text) → Counted n cs to → number_at cs ≡ Ok (kind.Number n, to)
number_again n cs to is =
    let v : value_of cs ≡ n = sym is.value in
    let small : leb n (2 ^ 63) ≡ true = le-leb n (2 ^ 63) is.fits in
    let at : after_number cs ≡ to = sym is.stops in
    number_is cs ∙ rw (v, small, at, is.apart) refl

pub joined_again : (cs at : Text) → Joined cs at → number_at cs ≡ Err (fault.BadChar (bytes_of at))
joined_again cs at is =
    let small : leb (value_of cs) (2 ^ 63) ≡ true = le-leb (value_of cs) (2 ^ 63) is.fits in
    let to : after_number cs ≡ at = sym is.stops in
    number_is cs ∙ rw (small, to, is.joins) refl

pub wide_again : (cs : Text) → 2 ^ 63 < value_of cs → number_at cs ≡ Err (fault.WideNumber (bytes_of cs))
wide_again cs wide =
    let big : leb (value_of cs) (2 ^ 63) ≡ false = lt-leb (value_of cs) (2 ^ 63) wide in
    number_is cs ∙ rw big refl

-- the three ways in which a number is read
pub data Outcome (cs : Text) : Type 0 where
  fine : (n : ℕ) → number_at cs ≡ Ok (kind.Number n, after_number cs) → Counted n cs (after_number cs) → Outcome cs
  joined : number_at cs ≡ Err (fault.BadChar (bytes_of (after_number cs))) → Joined cs (after_number cs) → Outcome cs
  wide : number_at cs ≡ Err (fault.WideNumber (bytes_of cs)) → 2 ^ 63 < value_of cs → Outcome cs

pub number_found : (cs : Text) → first_is (is_digit 10) cs ≡ true → Outcome cs
number_found cs starts = by_size (leb (value_of cs) (2 ^ 63)) refl
  where
    by_end : value_of cs ≤ 2 ^ 63 → (b : Bool) → first_is continues_name (after_number cs) ≡ b → Outcome cs
    by_end small true t =
        let is : Joined cs (after_number cs) = record { starts = starts; fits = small; stops = refl; joins = t } in
        joined (joined_again cs (after_number cs) is) is
    by_end small false t =
        let is : Counted (value_of cs) cs (after_number cs) = record { starts = starts; value = refl; fits = small; stops = refl; apart = t } in
        fine (value_of cs) (number_again (value_of cs) cs (after_number cs) is) is

    by_size : (b : Bool) → leb (value_of cs) (2 ^ 63) ≡ b → Outcome cs
    by_size true t = by_end (leb-true (value_of cs) (2 ^ 63) t) (first_is continues_name (after_number cs)) refl
    by_size false t = let big = leb-false (value_of cs) (2 ^ 63) t in wide (wide_again cs big) big
