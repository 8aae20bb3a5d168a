-- The least of causes, one after another.
use Rattle.std.proofs.Common.{◌≡◌, ℕ, ◌+◌, ◌<◌, ◌⊎◌, inl, inr, Bool, true, false, Option, Some, None, refl, sym, subst, arith}
use Rattle.std.specs.declared.cmp.Ordering.{Ordering}
use Rattle.std.specs.declared.cmp.Ordering.TheVariants.{Less, Equal, Greater}
use Rattle.std.specs.Ordering.{MatchOrdering, is_lt}
use Rattle.std.specs.Prelude.{if◌then◌else◌}
use Rattle.own_tree.specs.declared.span.Span.{Span}
use Rattle.own_paths.specs.Findings.{SpanBefore, IsNotAfter}
use Rattle.own_paths.proofs.Orders.{span_on}
use Rattle.own_breaks.specs.Settling.{span_cmp}
use Rattle.own_breaks.proofs.Ranks.{span_ranked}
use Rattle.own_rules.specs.Bodies.{earlier, IsLeast}

less_span : (a b : Span) → is_lt (span_cmp a b) ≡ true → SpanBefore a b
less_span a b e = at (span_cmp a b) (span_ranked a b) e
  where
    at : (o : Ordering) → MatchOrdering o (SpanBefore a b) (a ≡ b) (SpanBefore b a) → is_lt o ≡ true → SpanBefore a b
    at Less m h = m
    at Equal m h = absurd cc
    at Greater m h = absurd cc

no_less_span : (a b : Span) → is_lt (span_cmp a b) ≡ false → IsNotAfter b a
no_less_span a b e = at (span_cmp a b) (span_ranked a b) e
  where
    at : (o : Ordering) → MatchOrdering o (SpanBefore a b) (a ≡ b) (SpanBefore b a) → is_lt o ≡ false → IsNotAfter b a
    at Less m h = absurd cc
    at Equal m h = inl (sym m)
    at Greater m h = inr m

not_after_on : (a b c : Span) → IsNotAfter a b → IsNotAfter b c → IsNotAfter a c
not_after_on a b c (inl e) h = subst (λ s. IsNotAfter s c) (sym e) h
not_after_on a b c (inr l) (inl e) = inr (subst (λ s. SpanBefore a s) e l)
not_after_on a b c (inr l) (inr m) = inr (span_on a b c l m)

module _ (Is Of Both : Span → Type 0) (split : (s : Span) → Both s → Is s ⊎ Of s) (left : (s : Span) → Is s → Both s) (right : (s : Span) → Of s → Both s) where
  least_of_two : (a b : Span) → IsLeast Is (Some a) → IsLeast Of (Some b) → (c : Bool) → is_lt (span_cmp b a) ≡ c → IsLeast Both (if c then Some b else Some a)
  least_of_two a b l m true e = (
    right b m.0,
    λ s h. elim (split s h) [
      | inl i ↦ not_after_on b a s (inr (less_span b a e)) (l.1 s i)
      | inr o ↦ m.1 s o
    ],
  )
  least_of_two a b l m false e = (
    left a l.0,
    λ s h. elim (split s h) [
      | inl i ↦ l.1 s i
      | inr o ↦ not_after_on a b s (no_less_span b a e) (m.1 s o)
    ],
  )

  pub least_of_both : (a b : Option Span) → IsLeast Is a → IsLeast Of b → IsLeast Both (earlier a b)
  least_of_both None None l m = λ s h. elim (split s h) [ inl i ↦ l s i | inr o ↦ m s o ]
  least_of_both None (Some b) l m = (right b m.0, λ s h. elim (split s h) [ inl i ↦ absurd (l s i) | inr o ↦ m.1 s o ])
  least_of_both (Some a) None l m = (left a l.0, λ s h. elim (split s h) [ inl i ↦ l.1 s i | inr o ↦ absurd (m s o) ])
  least_of_both (Some a) (Some b) l m = least_of_two a b l m (is_lt (span_cmp b a)) refl

-- one number more
below : (j k : ℕ) → j < k + 1 → (j < k) ⊎ (j ≡ k)
below j k lt = grind arith

pub least_more : (P : ℕ → Span → Type 0) (k : ℕ) (a b : Option Span) → IsLeast (λ s. (j : ℕ) × (j < k) × P j s) a → IsLeast (P k) b
    → IsLeast (λ s. (j : ℕ) × (j < k + 1) × P j s) (earlier a b)
least_more P k a b l m =
    least_of_both (λ s. (j : ℕ) × (j < k) × P j s) (P k) (λ s. (j : ℕ) × (j < k + 1) × P j s)
    (λ s h. at s h.0 h.2 (below h.0 k h.1)) (λ s h. (h.0, omega (arith, h.1), h.2)) (λ s h. (k, omega arith, h)) a b l m
  where
    at : (s : Span) (j : ℕ) → P j s → (j < k) ⊎ (j ≡ k) → ((i : ℕ) × (i < k) × P i s) ⊎ P k s
    at s j h (inl less) = inl (j, less, h)
    at s j h (inr same) = inr (subst (λ i. P i s) same h)

pub least_as : (P Q : Span → Type 0) (a : Option Span) → ((s : Span) → P s → Q s) → ((s : Span) → Q s → P s) → IsLeast P a → IsLeast Q a
least_as P Q None to from l = λ s q. l s (from s q)
least_as P Q (Some a) to from l = (to a l.0, λ s q. l.1 s (from s q))

-- none, and one alone
pub least_none : (P : Span → Type 0) (a : Option Span) → a ≡ None → ((s : Span) → P s → ⊥) → IsLeast P a
least_none P a e none = subst (λ x. IsLeast P x) (sym e) none

pub least_one : (o : Option Span) → IsLeast (λ s. o ≡ Some s) o
least_one None = λ s e. absurd cc
least_one (Some a) = (refl, λ s e. inl cc)
