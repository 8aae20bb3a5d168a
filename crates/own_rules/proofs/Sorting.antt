-- The best of sorted findings.
use Rattle.std.proofs.Common.{◌≡◌, ℕ, ◌+◌, ◌<◌, ◌≤◌, ◌⊎◌, inl, inr, false, List, [], length, get_or, map, slice_get, Some, sym, ap, ◌∙◌, subst, arith}
use Rattle.std.proofs.lemmas.List.Sorted.{sorted_far, IsPermutation-sym, Contains-permutation}
use Rattle.std.proofs.lemmas.Option.{slice_get_within, slice_get-get_or}
use Rattle.std.specs.List.Sorted.{IsPermutation, IsSortedBy}
use Rattle.std.specs.Ordering.{is_lt}
use Rattle.std.specs.Prelude.{Contains}
use Rattle.own_shapes.proofs.Lists.{contains_in, contains_get, get_contains}
use Rattle.own_tree.specs.declared.finding.Finding.{Finding}
use Rattle.own_paths.specs.Findings.{Rising}
use Rattle.own_breaks.specs.Settling.{question, question_cmp, offered, Gathers, AreBest}
use Rattle.own_breaks.proofs.Gathering.{gathers_as, gathers_more, gathers_offered, questions_rank, rising_offered}
use Rattle.own_flow.proofs.TableLaws.{not_in_none}

-- so many were offered, of sorted ones
pub record AreBestOf (sorted : List Finding) (k : ℕ) (best : List Finding) : Type 0 where
  pub gathers : Gathers (λ f. (j : ℕ) × (j < k) × (slice_get sorted j ≡ Some f)) [] best
  pub rising : Rising (map question best)

some_finding : (x y : Finding) → Some x ≡ Some y → x ≡ y
some_finding x y e = cc

module _ (sorted : List Finding) (up : IsSortedBy (λ f g. is_lt (question_cmp f g)) sorted) where
  after_none : (k j : ℕ) (f g : Finding) → j < k → slice_get sorted k ≡ Some f → slice_get sorted j ≡ Some g → is_lt (question_cmp f g) ≡ false
  after_none k j f g lt at here =
      subst (λ x. is_lt (question_cmp x g) ≡ false) (get k f at)
      (subst (λ x. is_lt (question_cmp (get_or sorted k f) x) ≡ false) (get' k j f g here)
      (sorted_far (λ x y. is_lt (question_cmp x y)) questions_rank sorted up j k f (omega (arith, lt)) (slice_get_within sorted k f at)))
    where
      get : (k : ℕ) (f : Finding) → slice_get sorted k ≡ Some f → get_or sorted k f ≡ f
      get k f at = some_finding (get_or sorted k f) f (sym (slice_get-get_or sorted k f (slice_get_within sorted k f at)) ∙ at)

      get' : (k j : ℕ) (f g : Finding) → slice_get sorted j ≡ Some g → get_or sorted j f ≡ g
      get' k j f g here = some_finding (get_or sorted j f) g (sym (slice_get-get_or sorted j f (slice_get_within sorted j g here)) ∙ here)

  pub best_more : (k : ℕ) (f : Finding) (best : List Finding) → slice_get sorted k ≡ Some f → AreBestOf sorted k best → AreBestOf sorted (k + 1) (offered best f)
  best_more k f best at are = record {
    gathers = gathers_more (λ j g. slice_get sorted j ≡ Some g) k [] best (offered best f) are.gathers
        (gathers_as (λ g. g ≡ f) (λ g. slice_get sorted k ≡ Some g) best (offered best f) (λ g e. at ∙ ap (λ x. Some x) (sym e))
        (λ g e. some_finding g f (sym e ∙ at)) (gathers_offered best f));
    rising = rising_offered best f are.rising (λ x i. before x (are.gathers.sound x (contains_in best x i)));
  }
    where
      before : (x : Finding) → Contains [] x ⊎ ((j : ℕ) × (j < k) × (slice_get sorted j ≡ Some x)) → is_lt (question_cmp f x) ≡ false
      before x (inl old) = absurd (not_in_none x old)
      before x (inr h) = after_none k h.0 f x h.1 at h.2

  pub best_of_all : (found : List Finding) (k : ℕ) (best : List Finding) → IsPermutation found sorted → length sorted ≤ k → AreBestOf sorted k best → AreBest found best
  best_of_all found k best moved le are = record {
    sound = λ f c. sound f (are.gathers.sound f c);
    complete = λ f c.
        let at = contains_get sorted f (Contains-permutation found sorted f moved c) in are.gathers.complete f (inr (at.0, omega (arith, at.1, le), at.2));
    rising = are.rising;
  }
    where
      sound : (f : Finding) → Contains [] f ⊎ ((j : ℕ) × (j < k) × (slice_get sorted j ≡ Some f)) → Contains found f
      sound f (inl old) = absurd (not_in_none f old)
      sound f (inr h) = Contains-permutation sorted found f (IsPermutation-sym found sorted moved) (get_contains sorted h.0 f h.2)

pub best_of_none : (sorted : List Finding) → AreBestOf sorted 0 []
best_of_none sorted = record {
  gathers = record { sound = λ f c. inl c; complete = λ f h. elim h [ inl c ↦ absurd (not_in_none f c) | inr i ↦ absurd (omega (arith, i.1)) ] };
  rising = tt;
}
