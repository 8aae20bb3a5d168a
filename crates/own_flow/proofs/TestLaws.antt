-- Tests of each element of a list, as the tests of this crate ask them.
use Rattle.std.proofs.Common.{◌≡◌, ℕ, ◌+◌, ◌<◌, ◌≤◌, inl, inr, List, length, slice_get, Some, sym, ap, ◌∙◌, subst, arith}
use Rattle.std.proofs.lemmas.Bool.{cases_eq}
use Rattle.std.proofs.lemmas.Option.{slice_get_within}
use Rattle.own_tree.specs.declared.graph.Graph.{Graph}
use Rattle.own_tree.specs.declared.graph.Maker.{Maker}
use Rattle.own_tree.specs.declared.graph.Makers.{Makers}
use Rattle.own_tree.specs.declared.graph.Node.{Node}
use Rattle.own_walks.specs.Reaching.{EdgesLeadToNodes}
use Rattle.own_flow.specs.Facts.{AreJoined}

-- so of each of the first k elements
abbrev pub OfFirst : {A : Type 0} → (ℕ → A → Type 0) → List A → ℕ → Type 0
OfFirst {A} P xs k = (j : ℕ) (x : A) → j < k → slice_get xs j ≡ Some x → P j x

pub first_none : {A : Type 0} (P : ℕ → A → Type 0) (xs : List A) → OfFirst P xs 0
first_none P xs j x h e = absurd (omega (arith, h))

some_is : {A : Type 0} (x y : A) → Some x ≡ Some y → x ≡ y
some_is x y e = cc

pub first_more : {A : Type 0} (P : ℕ → A → Type 0) (xs : List A) (k : ℕ) (x : A) → slice_get xs k ≡ Some x → P k x → OfFirst P xs k → OfFirst P xs (k + 1)
first_more P xs k x at p done j y h e = elim (cases_eq j k) [
  | inl same ↦
      let is = some_is x y (sym at ∙ ap (λ i. slice_get xs i) (sym same) ∙ e) in
      subst (λ i. P i y) (sym same) (subst (λ z. P k z) is p)
  | inr other ↦ done j y (omega (arith, h, other)) e
]

pub first_all : {A : Type 0} (P : ℕ → A → Type 0) (xs : List A) (k : ℕ) → length xs ≤ k → OfFirst P xs k → (j : ℕ) (x : A) → slice_get xs j ≡ Some x → P j x
first_all P xs k h done j x e = done j x (let lt = slice_get_within xs j x e in omega (arith, lt, h)) e

-- the parts of a graph and its makers
pub joined_by : (graph : Graph) (makers : Makers) (ns : List Node) (ps : List Maker) (k : ℕ) → ns ≡ graph.nodes → ps ≡ makers.pairs → k ≡ length makers.leaves
    → EdgesLeadToNodes ns → graph.entry < length ns → ((l : ℕ) → l < k → (q : Maker) × (slice_get ps l ≡ Some q) × (q.leaf ≡ l))
    → ((p : ℕ) (q : Maker) → slice_get ps p ≡ Some q → (q.node < length ns) × (q.leaf < k)) → AreJoined graph makers
joined_by graph makers ns ps k n p l edges entry starts each = record {
  edges = subst (λ x. EdgesLeadToNodes x) n edges;
  entry = subst (λ x. graph.entry < length x) n entry;
  belong = record {
    starts = λ i h. subst (λ x. (q : Maker) × (slice_get x i ≡ Some q) × (q.leaf ≡ i)) p (starts i (omega (arith, h, l)));
    node = λ i q e. subst (λ x. q.node < length x) n (each i q (subst (λ x. slice_get x i ≡ Some q) (sym p) e)).0;
    leaf = λ i q e. let lt = (each i q (subst (λ x. slice_get x i ≡ Some q) (sym p) e)).1 in omega (arith, lt, l);
  };
}
