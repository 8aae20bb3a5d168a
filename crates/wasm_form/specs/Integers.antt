-- The operations on integers of Core 1.0, 4.3.2, under its names. A number stands for its unsigned bits, below
-- 2 ^ bits w at the width w, and `cast_signed w` reads them as two's complement.
use Rattle.std.specs.Prelude.{ℕ, ◌+◌, ◌-◌, ◌*◌, ◌/◌, ◌%◌, ◌^◌, Bool, not, ◌==◌, ◌&&◌, nat_lt, nat_le, int_lt, int_le, int_div, int_rem, if◌then◌else◌, bit_and, bit_or, bit_xor, count_ones, Result, Ok, Err}
use Rattle.std.specs.Int.{Width, cast_signed, cast_unsigned, int_shr, leading_zeros, trailing_zeros, rotate_left, rotate_right}
use mir.Val.{bits, hbits}
use Rattle.wasm_form.specs.declared.traps.TheConstants.{DIVISION_BY_ZERO, DIVISION_OVERFLOW}

abbrev pub iadd : Width → ℕ → ℕ → ℕ
iadd w a b = (a + b) % 2 ^ bits w

abbrev pub isub : Width → ℕ → ℕ → ℕ
isub w a b = (a + (2 ^ bits w - b)) % 2 ^ bits w

abbrev pub imul : Width → ℕ → ℕ → ℕ
imul w a b = (a * b) % 2 ^ bits w

-- ---- division, which answers the code of its trap where there is no quotient

-- the least number by -1, whose quotient is too large
abbrev pub is_least_by_minus_one : Width → ℕ → ℕ → Bool
is_least_by_minus_one w a b = (a == 2 ^ hbits w) && (b == 2 ^ bits w - 1)

unfoldable pub idiv_s : Width → ℕ → ℕ → Result ℕ ℕ
idiv_s w a b =
    if b == 0 then Err DIVISION_BY_ZERO
    else (if is_least_by_minus_one w a b then Err DIVISION_OVERFLOW
    else Ok (cast_unsigned w (int_div (cast_signed w a) (cast_signed w b))))

unfoldable pub idiv_u : ℕ → ℕ → Result ℕ ℕ
idiv_u a b = if b == 0 then Err DIVISION_BY_ZERO else Ok (a / b)

unfoldable pub irem_s : Width → ℕ → ℕ → Result ℕ ℕ
irem_s w a b = if b == 0 then Err DIVISION_BY_ZERO else Ok (cast_unsigned w (int_rem (cast_signed w a) (cast_signed w b)))

unfoldable pub irem_u : ℕ → ℕ → Result ℕ ℕ
irem_u a b = if b == 0 then Err DIVISION_BY_ZERO else Ok (a % b)

-- ---- bits; a distance counts modulo the width

abbrev pub iand : ℕ → ℕ → ℕ
iand a b = bit_and a b

abbrev pub ior : ℕ → ℕ → ℕ
ior a b = bit_or a b

abbrev pub ixor : ℕ → ℕ → ℕ
ixor a b = bit_xor a b

abbrev pub ishl : Width → ℕ → ℕ → ℕ
ishl w a b = (a * 2 ^ (b % bits w)) % 2 ^ bits w

abbrev pub ishr_s : Width → ℕ → ℕ → ℕ
ishr_s w a b = cast_unsigned w (int_shr (cast_signed w a) (b % bits w))

abbrev pub ishr_u : Width → ℕ → ℕ → ℕ
ishr_u w a b = a / 2 ^ (b % bits w)

abbrev pub irotl : Width → ℕ → ℕ → ℕ
irotl w a b = rotate_left w a (b % bits w)

abbrev pub irotr : Width → ℕ → ℕ → ℕ
irotr w a b = rotate_right w a (b % bits w)

abbrev pub iclz : Width → ℕ → ℕ
iclz w a = leading_zeros w a

abbrev pub ictz : Width → ℕ → ℕ
ictz w a = trailing_zeros w a

abbrev pub ipopcnt : ℕ → ℕ
ipopcnt a = count_ones a

-- ---- tests

abbrev pub ieqz : ℕ → Bool
ieqz a = a == 0

abbrev pub ieq : ℕ → ℕ → Bool
ieq a b = a == b

abbrev pub ine : ℕ → ℕ → Bool
ine a b = not (a == b)

abbrev pub ilt_s : Width → ℕ → ℕ → Bool
ilt_s w a b = int_lt (cast_signed w a) (cast_signed w b)

abbrev pub ilt_u : ℕ → ℕ → Bool
ilt_u a b = nat_lt a b

abbrev pub igt_s : Width → ℕ → ℕ → Bool
igt_s w a b = int_lt (cast_signed w b) (cast_signed w a)

abbrev pub igt_u : ℕ → ℕ → Bool
igt_u a b = nat_lt b a

abbrev pub ile_s : Width → ℕ → ℕ → Bool
ile_s w a b = int_le (cast_signed w a) (cast_signed w b)

abbrev pub ile_u : ℕ → ℕ → Bool
ile_u a b = nat_le a b

abbrev pub ige_s : Width → ℕ → ℕ → Bool
ige_s w a b = int_le (cast_signed w b) (cast_signed w a)

abbrev pub ige_u : ℕ → ℕ → Bool
ige_u a b = nat_le b a

-- ---- conversions (4.3.1)

abbrev pub wrap : ℕ → ℕ
wrap a = a % 2 ^ 32

-- from the width v to the width w, with the sign
abbrev pub extend_s : Width → Width → ℕ → ℕ
extend_s v w a = cast_unsigned w (cast_signed v a)
