-- The causes of a rule among the makers of a leaf.
use Rattle.std.proofs.Common.{◌≡◌, ℕ, ◌+◌, ◌<◌, ◌≤◌, ◌⊎◌, inl, inr, Bool, true, false, List, [], get_or, length, slice_get, Option, Some, sym, ap, ◌∙◌, arith}
use Rattle.std.proofs.lemmas.Option.{slice_get_within}
use Rattle.std.specs.Prelude.{◌↔◌, Contains, IsTrue, slice_index_or}
use Rattle.own_flow.proofs.FlowLaws.{any_default}
use Rattle.own_shapes.proofs.Lists.{contains_get, get_contains}
use Rattle.own_tree.specs.declared.finding.Rule.{Rule}
use Rattle.own_tree.specs.declared.graph.Maker.{Maker}
use Rattle.own_tree.specs.declared.graph.Node.{Node}
use Rattle.own_tree.specs.declared.span.Span.{Span}
use Rattle.own_walks.specs.Reaching.{IsOf}
use Rattle.own_breaks.specs.Blaming.{IsCause, cause_of, reaches}
use Rattle.own_rules.specs.Bodies.{IsLeast, earlier}
use Rattle.own_rules.proofs.Leasts.{least_as, least_more, least_one}

some_number : (x y : ℕ) → Some x ≡ Some y → x ≡ y
some_number x y e = cc

some_maker : (x y : Maker) → Some x ≡ Some y → x ≡ y
some_maker x y e = cc

module _ (nodes : List Node) (pairs : List Maker) (facts : List (List Bool)) (r : Rule) (u : ℕ) (makers : List ℕ) where
  -- maker number j of the list is a cause
  abbrev pub CauseBy : ℕ → Span → Type 0
  CauseBy j s =
      (p : ℕ) × (q : Maker) × (slice_get makers j ≡ Some p) × (slice_get pairs p ≡ Some q) × IsTrue (reaches facts u p) × (cause_of nodes r q ≡ Some s)

  pub cause_more : (k p : ℕ) (q : Maker) (a : Option Span) → slice_get makers k ≡ Some p → slice_get pairs p ≡ Some q → reaches facts u p ≡ true
      → IsLeast (λ s. (j : ℕ) × (j < k) × CauseBy j s) a → IsLeast (λ s. (j : ℕ) × (j < k + 1) × CauseBy j s) (earlier a (cause_of nodes r q))
  cause_more k p q a at there holds l =
      least_more CauseBy k a (cause_of nodes r q) l
      (least_as (λ s. cause_of nodes r q ≡ Some s) (CauseBy k) (cause_of nodes r q) (λ s e. (p, q, at, there, holds, e))
      (λ s h. ap (λ x. cause_of nodes r x) (some_maker q h.1 (sym there ∙ ap (λ x. slice_get pairs x) (some_number p h.0 (sym at ∙ h.2)) ∙ h.3)) ∙ h.5)
      (least_one (cause_of nodes r q)))

  pub cause_skip : (k p : ℕ) (a : Option Span) → slice_get makers k ≡ Some p → reaches facts u p ≡ false
      → IsLeast (λ s. (j : ℕ) × (j < k) × CauseBy j s) a → IsLeast (λ s. (j : ℕ) × (j < k + 1) × CauseBy j s) a
  cause_skip k p a at not_so l =
      least_as (λ s. (j : ℕ) × (j < k) × CauseBy j s) (λ s. (j : ℕ) × (j < k + 1) × CauseBy j s) a (λ s h. (h.0, omega (arith, h.1), h.2))
      (λ s h. from s h.0 h.2 (below h.0 k h.1)) l
    where
      below : (j k : ℕ) → j < k + 1 → (j < k) ⊎ (j ≡ k)
      below j k lt = grind arith

      apart : (b : Bool) → b ≡ false → b ≡ true → ⊥
      apart b e f = let g : false ≡ true = sym e ∙ f in cc

      from : (s : Span) (j : ℕ) → CauseBy j s → (j < k) ⊎ (j ≡ k) → (i : ℕ) × (i < k) × CauseBy i s
      from s j h (inl less) = (j, less, h)
      from s j h (inr same) =
          absurd (apart (reaches facts u p) not_so (ap (λ x. reaches facts u x) (some_number p h.0 (sym at ∙ ap (λ x. slice_get makers x) (sym same) ∙ h.2)) ∙ h.4))

  pub causes_all : (l k : ℕ) (a : Option Span) → length makers ≤ k → ((p : ℕ) → Contains makers p ↔ IsOf pairs p l)
      → IsLeast (λ s. (j : ℕ) × (j < k) × CauseBy j s) a → IsLeast (IsCause nodes pairs facts r u l) a
  causes_all l k a le of_leaf least =
      least_as (λ s. (j : ℕ) × (j < k) × CauseBy j s) (IsCause nodes pairs facts r u l) a to from least
    where
      to : (s : Span) → (j : ℕ) × (j < k) × CauseBy j s → IsCause nodes pairs facts r u l s
      to s t =
          let j = t.0 in let h = t.2 in
          let i = (of_leaf h.0).0 (get_contains makers j h.0 h.2) in
          (h.0, h.1, h.3, ap (λ (x : Maker). x.leaf) (some_maker h.1 i.0 (sym h.3 ∙ i.1)) ∙ i.2, h.4, h.5)

      from : (s : Span) → IsCause nodes pairs facts r u l s → (j : ℕ) × (j < k) × CauseBy j s
      from s h =
          let at = contains_get makers h.0 ((of_leaf h.0).1 (h.1, h.2, h.3)) in
          (at.0, omega (arith, at.1, le), (h.0, h.1, at.2, h.2, h.4, h.5))

  -- a maker of the list is one
  pub maker_within : (l k p : ℕ) → ((p : ℕ) → Contains makers p ↔ IsOf pairs p l) → slice_get makers k ≡ Some p → p < length pairs
  maker_within l k p of_leaf at = let i = (of_leaf p).0 (get_contains makers k p at) in slice_get_within pairs p i.0 i.1

-- a list that was read is the one of the leaf
pub list_is : (lists : List (List ℕ)) (l : ℕ) (read makers : List ℕ) → l < length lists → makers ≡ get_or lists l read → makers ≡ slice_index_or lists l []
list_is lists l read makers lt is = is ∙ any_default lists l read [] lt
