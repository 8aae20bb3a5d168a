-- How far a tree is over the limits of nodes and of levels of patterns, as one number.
use Rattle.std.proofs.Common.{ℕ, ◌+◌, ◌-◌, ◌≤◌, ◌<◌, max, ◌⊎◌, inl, inr, arith}
use Rattle.own_grammar.proofs.Steps.{le_tells}

-- where `d` nodes stand above it
abbrev pub over : ℕ → ℕ → ℕ → ℕ → ℕ → ℕ
over most levels d n l = max (d + n - most) (l - levels)

pub within : (most levels d n l : ℕ) → d + n ≤ most → l ≤ levels → over most levels d n l ≤ 0
within most levels d n l le few = omega (arith, le, few)

pub within_both : (most levels d n l : ℕ) → over most levels d n l ≤ 0 → (d + n ≤ most) × (l ≤ levels)
within_both most levels d n l fit = (omega (arith, fit), omega (arith, fit))

pub over_one : (most levels d n l : ℕ) → 0 < over most levels d n l → (most < d + n) ⊎ (levels < l)
over_one most levels d n l deep = elim (le_tells (d + n) most) [
  | inr y ↦ inl y
  | inl y ↦ inr (omega (arith, deep, y))
]

-- where none stands above it
pub within_whole : (most levels n l : ℕ) → over most levels 0 n l ≤ 0 → (n ≤ most) × (l ≤ levels)
within_whole most levels n l fit = (omega (arith, fit), omega (arith, fit))

pub over_whole : (most levels n l : ℕ) → 0 < over most levels 0 n l → (most < n) ⊎ (levels < l)
over_whole most levels n l deep = elim (le_tells n most) [
  | inr y ↦ inl y
  | inl y ↦ inr (omega (arith, deep, y))
]
