-- Numbers in LEB128 (Core 1.0, 5.2.2): seven bits a byte, the lowest first. A signed number is given as its two's
-- complement, a number below 2 ^ bits.
use Rattle.std.specs.Prelude.{◌≡◌, ℕ, zero, suc, ◌+◌, ◌-◌, ◌*◌, ◌/◌, ◌%◌, ◌^◌, ◌<◌, ◌≤◌, ◌⊎◌, Bool, true, false, nat_lt, if◌then◌else◌, List, [], ◌∷◌}

-- What the last byte, below 128, stands for. The bits that the number does not use are zero, or copies of its sign.
abbrev pub IsLast : Bool → ℕ → ℕ → ℕ → Type 0
IsLast false bits b n = (b < 2 ^ bits) × (n ≡ b)
IsLast true bits b n = ((b < 64) × (b < 2 ^ (bits - 1)) × (n ≡ b)) ⊎ ((64 ≤ b) × (128 ≤ b + 2 ^ (bits - 1)) × (n + 128 ≡ 2 ^ bits + b))

-- A list of bytes is a number of so many bits, signed or not: at most as many bytes as the bits need.
abbrev pub IsNumber : Bool → ℕ → List ℕ → ℕ → Type 0
IsNumber signed bits [] n = ⊥
IsNumber signed bits (b ∷ []) n = (b < 128) × IsLast signed bits b n
IsNumber signed bits (b ∷ c ∷ bs) n = (128 ≤ b) × (7 < bits) × (high : ℕ) × (n + 128 ≡ b + 128 * high) × IsNumber signed (bits - 7) (c ∷ bs) high

-- the fewest bytes, at most k, of an unsigned number
unfoldable pub shortest_in : ℕ → ℕ → List ℕ
shortest_in zero n = []
shortest_in (suc k) n = if nat_lt n 128 then n ∷ [] else (n % 128 + 128) ∷ shortest_in k (n / 128)

-- seven bits of a number, or of its complement
abbrev pub group_of : Bool → ℕ → ℕ
group_of negative n = if negative then 127 - n % 128 else n % 128

-- the fewest bytes, at most k, of the signed number n, or of -1 - n
unfoldable pub shortest_signed_in : ℕ → Bool → ℕ → List ℕ
shortest_signed_in zero negative n = []
shortest_signed_in (suc k) negative n = if nat_lt n 64 then group_of negative n ∷ [] else (group_of negative n + 128) ∷ shortest_signed_in k negative (n / 128)

-- an unsigned number of up to 64 bits in the fewest bytes
unfoldable pub unsigned_shortest : ℕ → List ℕ
unsigned_shortest n = shortest_in 10 n

-- a signed number of up to 64 bits in the fewest bytes: n, or -1 - n
unfoldable pub signed_shortest : Bool → ℕ → List ℕ
signed_shortest negative n = shortest_signed_in 10 negative n

-- an i32, given as its two's complement
unfoldable pub i32_shortest : ℕ → List ℕ
i32_shortest n = if nat_lt n (2 ^ 31) then signed_shortest false n else signed_shortest true (2 ^ 32 - 1 - n)

-- an i64, given as its two's complement
unfoldable pub i64_shortest : ℕ → List ℕ
i64_shortest n = if nat_lt n (2 ^ 63) then signed_shortest false n else signed_shortest true (2 ^ 64 - 1 - n)
