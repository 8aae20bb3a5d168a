-- How many bodies a rule makes: by its premises, and none where no closure stands in what it judges.
use Rattle.std.specs.Prelude.{◌≡◌, ℕ, zero, suc, ◌+◌, List, [], ◌∷◌, ◌++◌, length, Option, slice_set}
use Rattle.std.proofs.Common.{refl, ap, ◌∙◌, subst, arith}
use Rattle.own_tree.specs.declared.place.Binding.{Binding}
use Rattle.own_tree.specs.declared.place.Ty.{Ty}
use Rattle.own_tree.specs.declared.span.Span.{Span}
use Rattle.own_tree.specs.TypedSource.{TPat, TBody}
use Rattle.own_shapes.specs.Types.{Types}
use Rattle.own_judging.specs.Judged.{Judged, Test}
use Rattle.own_judging.specs.Made.{Made}
use Rattle.own_judged.specs.Rules.{yields, ◌>>=◌, holding, the, refused, unless, covering, node, declared, declaring, embodied}

-- from each state to what the rule makes of it there are so many bodies more
pub record Counts {A : Type 0} (j : Judged A) (n : ℕ) : Type 0 where
  pub is : (s : Made) (a : A) (s' : Made) → j.holds s a s' → length s'.bodies ≡ length s.bodies + n

none : (s s' : Made) → s' ≡ s → length s'.bodies ≡ length s.bodies + 0
none s s' e = ap (λ m. length m.bodies) e ∙ omega arith

pub counted : {A : Type 0} (j : Judged A) (m n : ℕ) → m ≡ n → Counts j m → Counts j n
counted j m n e c = subst (Counts j) e c

pub both :
    {A B : Type 0} (first : Judged A) (next : A → Judged B) (m n : ℕ) → Counts first m
    → ((a : A) → Counts (next a) n) → Counts (first >>= next) (m + n)
both first next m n c d = record {
  is = λ s b s' h. omega (arith, c.is s h.0 h.1 h.2, (d h.0).is h.1 b s' h.3);
}

-- where neither makes any
pub neither :
    {A B : Type 0} (first : Judged A) (next : A → Judged B) → Counts first 0 → ((a : A) → Counts (next a) 0)
    → Counts (first >>= next) 0
neither first next c d = both first next 0 0 c d

-- where the second or the first makes none
pub first_only :
    {A B : Type 0} (first : Judged A) (next : A → Judged B) (n : ℕ) → Counts first n
    → ((a : A) → Counts (next a) 0) → Counts (first >>= next) n
first_only first next n c d = counted (first >>= next) (n + 0) n (omega arith) (both first next n 0 c d)

pub second_only :
    {A B : Type 0} (first : Judged A) (next : A → Judged B) (n : ℕ) → Counts first 0
    → ((a : A) → Counts (next a) n) → Counts (first >>= next) n
second_only first next n c d = counted (first >>= next) (0 + n) n (omega arith) (both first next 0 n c d)

pub given : {A : Type 0} (x : A) → Counts (yields x) 0
given x = record { is = λ s a s' h. none s s' h.1 }

pub judged : (t : Test) (code : ℕ) (at : Span) → Counts (holding t code at) 0
judged t code at = record { is = λ s a s' h. none s s' h.1 }

pub found : {A : Type 0} (o : Option A) (code : ℕ) (at : Span) → Counts (the o code at) 0
found o code at = record { is = λ s a s' h. none s s' h.1 }

pub no_fault : (o : Option ℕ) (at : Span) → Counts (unless o at) 0
no_fault o at = record { is = λ s a s' h. none s s' h.1 }

pub never : {A : Type 0} (code : ℕ) (at : Span) (n : ℕ) → Counts (refused {A = A} code at) n
never code at n = record { is = λ s a s' h. absurd h }

pub covers : (types : Types) (ty : Ty) (ps : List TPat) (at : Span) → Counts (covering types ty ps at) 0
covers types ty ps at = record { is = λ s a s' h. none s s' h.1 }

pub a_node : Counts node 0
a_node = record { is = λ s a s' h. ap (λ m. length m.bodies) h.1 ∙ omega arith }

pub declares : (b : Binding) → Counts (declared b) 0
declares b = record { is = λ s a s' h. ap (λ m. length m.bodies) h.1 ∙ omega arith }

pub declares_value :
    {A : Type 0} (first : Binding) (value : Judged A) (last : A → Binding) (n : ℕ) → Counts value n
    → Counts (declaring first value last) n
declares_value first value last n c = record {
  is = λ s r s' h.
      ap (λ m. length m.bodies) h.3 ∙ c.is (record s { bindings = s.bindings ++ first ∷ [] }) r.1 h.0 h.2;
}

set_length : {A : Type 0} (xs : List A) (k : ℕ) (y : A) → length (slice_set xs k y) ≡ length xs
set_length [] k y = refl
set_length (x ∷ xs) zero y = refl
set_length (x ∷ xs) (suc k) y = ap (λ n. suc n) (set_length xs k y)

pushed_length : {A : Type 0} (xs : List A) (y : A) → length (xs ++ y ∷ []) ≡ suc (length xs)
pushed_length [] y = refl
pushed_length (x ∷ xs) y = ap (λ n. suc n) (pushed_length xs y)

-- a body, and those that stand in it
pub embodies :
    {A : Type 0} (first : TBody) (inside : ℕ → Judged A) (last : A → TBody) (n : ℕ)
    → ((k : ℕ) → Counts (inside k) n) → Counts (embodied first inside last) (suc n)
embodies first inside last n c = record {
  is = λ s r s' h.
      let begun = record s { bodies = s.bodies ++ first ∷ [] } in
      ap (λ m. length m.bodies) h.3 ∙ set_length h.0.bodies (length s.bodies) (last r.1)
      ∙ (let inner = (c (length s.bodies)).is begun r.1 h.0 h.2 in
      omega (arith, inner, pushed_length s.bodies first));
}
