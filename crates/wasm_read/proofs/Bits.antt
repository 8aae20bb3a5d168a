-- Powers of two.
use Rattle.std.proofs.Common.{◌≡◌, ℕ, ◌+◌, ◌-◌, ◌*◌, ◌^◌, ◌<◌, ◌≤◌, ap, ◌∙◌, arith}
use Rattle.std.proofs.Math.Pow.{pow_mono}
use Rattle.std.proofs.lemmas.Nat.{pow-add}

pub pow_split : (b : ℕ) → 7 ≤ b → 2 ^ b ≡ 128 * 2 ^ (b - 7)
pow_split b le = let e : b ≡ 7 + (b - 7) = omega arith in ap (λ n. 2 ^ n) e ∙ pow-add 2 7 (b - 7)

pub pow_64 : (b : ℕ) → b ≤ 64 → 2 ^ b ≤ 18446744073709551616
pow_64 b le = pow_mono {i = b} {j = 64} le

pub pow_half : (b : ℕ) → 0 < b → 2 ^ b ≡ 2 * 2 ^ (b - 1)
pow_half b lt = let e : b ≡ 1 + (b - 1) = omega arith in ap (λ n. 2 ^ n) e ∙ pow-add 2 1 (b - 1)
