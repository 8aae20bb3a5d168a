-- One step of each run, by the first character.
use Rattle.std.proofs.Common.{◌≡◌, ℕ, zero, suc, ◌+◌, ◌-◌, ◌*◌, ◌^◌, ◌<◌, pow-add, Bool, true, false, not, [], ◌∷◌, ◌++◌, drop, Option, Some, None, refl, arith}
use Rattle.std.specs.Char.{digit_value, encode_utf8}
use Rattle.own_tree.specs.Characters.{Text, is_digit, is_line_end, continues_name, after, first, past}
use Rattle.own_tree.specs.Tokens.{in_number, hexadecimal}
use Rattle.own_lex.specs.Reading.{Bytes, name_on, number_on, with_digit, digit_at}

pub name_goes : (found : Bytes) (cs : Text) (c : ℕ) → first cs ≡ Some c → continues_name c ≡ true → name_on found cs ≡ name_on (found ++ encode_utf8 c) (after cs)
unfolding name_on
name_goes found [] c e goes = absurd cc
name_goes found (d ∷ cs) c e goes = let same : d ≡ c = cc in rw (same, goes) refl

pub name_stops : (found : Bytes) (cs : Text) (c : ℕ) → first cs ≡ Some c → continues_name c ≡ false → name_on found cs ≡ (found, cs)
unfolding name_on
name_stops found [] c e stops = absurd cc
name_stops found (d ∷ cs) c e stops = let same : d ≡ c = cc in rw (same, stops) refl

pub name_over : (found : Bytes) (cs : Text) → first cs ≡ None → name_on found cs ≡ (found, cs)
unfolding name_on
name_over found [] e = refl
name_over found (d ∷ cs) e = absurd cc

-- ---- lines

pub line_goes : (cs : Text) (c : ℕ) → first cs ≡ Some c → is_line_end c ≡ false → past (λ d. not (is_line_end d)) cs ≡ past (λ d. not (is_line_end d)) (after cs)
unfolding past
line_goes [] c e goes = absurd cc
line_goes (d ∷ cs) c e goes = let same : d ≡ c = cc in rw (same, goes) refl

pub line_stops : (cs : Text) (c : ℕ) → first cs ≡ Some c → is_line_end c ≡ true → past (λ d. not (is_line_end d)) cs ≡ cs
unfolding past
line_stops [] c e stops = absurd cc
line_stops (d ∷ cs) c e stops = let same : d ≡ c = cc in rw (same, stops) refl

pub line_over : (cs : Text) → first cs ≡ None → past (λ d. not (is_line_end d)) cs ≡ cs
unfolding past
line_over [] e = refl
line_over (d ∷ cs) e = absurd cc

-- ---- counts

drop_nil : (n : ℕ) → drop {A = ℕ} n [] ≡ drop {A = ℕ} (suc n) []
drop_nil zero = refl
drop_nil (suc n) = refl

pub drop_goes : (n : ℕ) (cs : Text) → 0 < n → drop (n - 1) (after cs) ≡ drop n cs
drop_goes zero cs lt = absurd (omega arith)
drop_goes (suc n) [] lt = let less : suc n - 1 ≡ n = omega arith in rw less (drop_nil n)
drop_goes (suc n) (c ∷ cs) lt = let less : suc n - 1 ≡ n = omega arith in rw less refl

pub drop_over : (n : ℕ) (cs : Text) → n ≡ 0 → drop n cs ≡ cs
drop_over n cs e = rw e refl

-- ---- numbers

pub number_goes : (base : ℕ) (n : Option ℕ) (cs : Text) (c : ℕ) → first cs ≡ Some c → in_number base c ≡ true → number_on base n cs ≡ number_on base (with_digit base n c) (after cs)
unfolding number_on
number_goes base n [] c e goes = absurd cc
number_goes base n (d ∷ cs) c e goes = let same : d ≡ c = cc in rw (same, goes) refl

pub number_stops : (base : ℕ) (n : Option ℕ) (cs : Text) (c : ℕ) → first cs ≡ Some c → in_number base c ≡ false → number_on base n cs ≡ (n, cs)
unfolding number_on
number_stops base n [] c e stops = absurd cc
number_stops base n (d ∷ cs) c e stops = let same : d ≡ c = cc in rw (same, stops) refl

pub number_over : (base : ℕ) (n : Option ℕ) (cs : Text) → first cs ≡ None → number_on base n cs ≡ (n, cs)
unfolding number_on
number_over base n [] e = refl
number_over base n (d ∷ cs) e = absurd cc

-- ---- hexadecimal digits

pub hexadecimal_goes : (k n : ℕ) (cs : Text) (d : ℕ) → digit_at cs ≡ Some d → k < 8 → hexadecimal (8 - k) n cs ≡ hexadecimal (8 - (k + 1)) (n * 16 + d) (after cs)
unfolding hexadecimal
hexadecimal_goes k n [] d e lt = absurd cc
hexadecimal_goes k n (c ∷ cs) d e lt = let one : 8 - k ≡ suc (8 - (k + 1)) = omega arith in rw one (by_test (is_digit 16 c) refl)
  where
    by_test : (b : Bool) → is_digit 16 c ≡ b → hexadecimal (suc (8 - (k + 1))) n (c ∷ cs) ≡ hexadecimal (8 - (k + 1)) (n * 16 + d) cs
    by_test true t = let is : Some (digit_value c) ≡ Some d = rw t at e in let same : digit_value c ≡ d = cc in rw (t, same) refl
    by_test false t = let is : None ≡ Some d = rw t at e in absurd cc

pub hexadecimal_stops : (k n : ℕ) (cs : Text) → digit_at cs ≡ None → hexadecimal k n cs ≡ (n, cs)
unfolding hexadecimal
hexadecimal_stops zero n cs e = refl
hexadecimal_stops (suc k) n [] e = refl
hexadecimal_stops (suc k) n (c ∷ cs) e = by_test (is_digit 16 c) refl
  where
    by_test : (b : Bool) → is_digit 16 c ≡ b → hexadecimal (suc k) n (c ∷ cs) ≡ (n, c ∷ cs)
    by_test true t = let is : Some (digit_value c) ≡ None = rw t at e in absurd cc
    by_test false t = rw t refl

pub hexadecimal_over : (k n : ℕ) (cs : Text) → k ≡ 0 → hexadecimal k n cs ≡ (n, cs)
unfolding hexadecimal
hexadecimal_over k n cs e = rw e refl

pub digits_fit : (n k d : ℕ) → n < 16 ^ k → d < 16 → n * 16 + d < 16 ^ (k + 1)
digits_fit n k d h small = rw pow-add (omega arith)

pub digits_small : (n k d : ℕ) → n < 16 ^ k → k < 8 → d < 16 → n * 16 + d < 2 ^ 32
digits_small n zero d h lt small = omega arith
digits_small n (suc zero) d h lt small = omega arith
digits_small n (suc (suc zero)) d h lt small = omega arith
digits_small n (suc (suc (suc zero))) d h lt small = omega arith
digits_small n (suc (suc (suc (suc zero)))) d h lt small = omega arith
digits_small n (suc (suc (suc (suc (suc zero))))) d h lt small = omega arith
digits_small n (suc (suc (suc (suc (suc (suc zero)))))) d h lt small = omega arith
digits_small n (suc (suc (suc (suc (suc (suc (suc zero))))))) d h lt small = omega arith
digits_small n (suc (suc (suc (suc (suc (suc (suc (suc k)))))))) d h lt small = absurd (omega arith)
