-- What a list becomes that is offered a finding, by its last one.
use Rattle.std.proofs.Common.{◌≡◌, ℕ, zero, suc, ◌+◌, true, false, List, [], ◌∷◌, ◌++◌, length, get_or, set, refl, ap, ◌∙◌, arith}
use Rattle.std.specs.Ordering.{is_eq}
use Rattle.std.specs.Prelude.{if◌then◌else◌}
use Rattle.own_tree.specs.declared.finding.Finding.{Finding}
use Rattle.own_breaks.specs.Settling.{question_cmp, is_better, offered}

pub offered_first : (xs : List Finding) (f : Finding) → length xs ≡ 0 → offered xs f ≡ xs ++ f ∷ []
offered_first [] f e = refl
offered_first (x ∷ xs) f e = absurd (omega (arith, e))

pub offered_more : (xs : List Finding) (f d : Finding) (k : ℕ) → length xs ≡ k + 1 → is_eq (question_cmp (get_or xs k d) f) ≡ false → offered xs f ≡ xs ++ f ∷ []
offered_more [] f d k e other = absurd (omega (arith, e))
offered_more (x ∷ []) f d zero e other = ap (λ b. if b then (if is_better f x then f ∷ [] else x ∷ []) else x ∷ f ∷ []) other
offered_more (x ∷ []) f d (suc k) e other = absurd (omega (arith, e))
offered_more (x ∷ y ∷ xs) f d zero e other = absurd (omega (arith, e))
offered_more (x ∷ y ∷ xs) f d (suc k) e other = ap (λ l. x ∷ l) (offered_more (y ∷ xs) f d k (omega (arith, e)) other)

pub offered_better : (xs : List Finding) (f d : Finding) (k : ℕ) → length xs ≡ k + 1 → is_eq (question_cmp (get_or xs k d) f) ≡ true
    → is_better f (get_or xs k d) ≡ true → offered xs f ≡ set xs k f
offered_better [] f d k e same best = absurd (omega (arith, e))
offered_better (x ∷ []) f d zero e same best =
    ap (λ b. if b then (if is_better f x then f ∷ [] else x ∷ []) else x ∷ f ∷ []) same ∙ ap (λ b. if b then f ∷ [] else x ∷ []) best
offered_better (x ∷ []) f d (suc k) e same best = absurd (omega (arith, e))
offered_better (x ∷ y ∷ xs) f d zero e same best = absurd (omega (arith, e))
offered_better (x ∷ y ∷ xs) f d (suc k) e same best = ap (λ l. x ∷ l) (offered_better (y ∷ xs) f d k (omega (arith, e)) same best)

pub offered_kept : (xs : List Finding) (f d : Finding) (k : ℕ) → length xs ≡ k + 1 → is_eq (question_cmp (get_or xs k d) f) ≡ true
    → is_better f (get_or xs k d) ≡ false → offered xs f ≡ xs
offered_kept [] f d k e same worse = absurd (omega (arith, e))
offered_kept (x ∷ []) f d zero e same worse =
    ap (λ b. if b then (if is_better f x then f ∷ [] else x ∷ []) else x ∷ f ∷ []) same ∙ ap (λ b. if b then f ∷ [] else x ∷ []) worse
offered_kept (x ∷ []) f d (suc k) e same worse = absurd (omega (arith, e))
offered_kept (x ∷ y ∷ xs) f d zero e same worse = absurd (omega (arith, e))
offered_kept (x ∷ y ∷ xs) f d (suc k) e same worse = ap (λ l. x ∷ l) (offered_kept (y ∷ xs) f d k (omega (arith, e)) same worse)
