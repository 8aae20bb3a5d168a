-- Sums of weights over a list. Two lists with equal sums, whatever the weights, have the same elements.
use Rattle.std.proofs.Common.{◌≡◌, ℕ, ◌+◌, List, [], ◌∷◌, ◌++◌, arith}

abbrev pub total : {A : Type 0} → (A → ℕ) → List A → ℕ
total w [] = 0
total w (x ∷ xs) = w x + total w xs

module _ {A : Type 0} (w : A → ℕ) where
  pub total-append : (xs ys : List A) → total w (xs ++ ys) ≡ total w xs + total w ys
  total-append [] ys = omega arith
  total-append (x ∷ xs) ys = let rest = total-append xs ys in omega (arith, rest)

  pub total_end : (xs : List A) → total w (xs ++ []) ≡ total w xs
  total_end xs = omega (arith, total-append xs [])

  pub total_two : (xs ys : List A) → total w (xs ++ (ys ++ [])) ≡ total w xs + total w ys
  total_two xs ys = omega (arith, total-append xs (ys ++ []), total_end ys)

  pub total_three : (xs ys zs : List A) → total w (xs ++ (ys ++ (zs ++ []))) ≡ total w xs + (total w ys + total w zs)
  total_three xs ys zs = omega (arith, total-append xs (ys ++ (zs ++ [])), total_two ys zs)

-- weights that are equal at each element
pub total_by : {A : Type 0} (v w : A → ℕ) → ((x : A) → v x ≡ w x) → (xs : List A) → total v xs ≡ total w xs
total_by v w same [] = omega arith
total_by v w same (x ∷ xs) = let rest = total_by v w same xs in omega (arith, same x, rest)
