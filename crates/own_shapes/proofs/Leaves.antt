-- Leaves of a type lie apart, and parts are no larger than what they are in.
use Rattle.std.proofs.Common.{◌≡◌, ℕ, zero, suc, ◌≤◌, ◌⊎◌, Bool, true, false, ◌||◌, ◌==◌, not, List, [], ◌∷◌, map, inl, inr, refl, sym, ap, ◌∙◌, subst, arith}
use Rattle.std.specs.Prelude.{IsTrue, if◌then◌else◌}
use Rattle.std.proofs.lemmas.Bool.{and_parts, eqb-true}
use Rattle.own_shapes.specs.Laws.{LeavesAreApart, OpenedLeavesAreApart, PartsAreNoLarger}
use Rattle.own_shapes.specs.Places.{is_prefix}
use Rattle.own_shapes.specs.Types.{Types, Shape, number, truth, no_value, closure, struct, enum, Shapes, no_shapes, shape, is_none, leaves, leaves_from, opened_leaves}
use Rattle.own_shapes.proofs.Lists.{In, in_either, in_contains}

abbrev pub Apart : List (List ℕ) → Type 0
Apart ls = (p q : List ℕ) → In ls p → In ls q → IsTrue (is_prefix p q) → p ≡ q

one_apart : Apart ([] ∷ [])
one_apart p q (inl a) (inl b) h = sym a ∙ b
one_apart p q (inl a) (inr b) h = absurd b
one_apart p q (inr a) b h = absurd a

-- a way that begins with this number
abbrev BeginsAt : ℕ → List (List ℕ) → List ℕ → Type 0
BeginsAt k ls p = (rest : List ℕ) × In ls rest × (p ≡ k ∷ rest)

begins : (k : ℕ) (ls : List (List ℕ)) (p : List ℕ) → In (map (λ path. k ∷ path) ls) p → BeginsAt k ls p
begins k [] p h = absurd h
begins k (l ∷ ls) p (inl e) = (l, inl refl, sym e)
begins k (l ∷ ls) p (inr h) = let b = begins k ls p h in (b.0, inr b.1, b.2)

-- the ways into later properties begin with greater numbers
later : (k : ℕ) (ss : Shapes) (p : List ℕ) → In (leaves_from k ss) p → (j : ℕ) × (rest : List ℕ) × (k ≤ j) × (p ≡ j ∷ rest)
later k no_shapes p h = absurd h
later k (shape s ss) p h = elim (in_either (map (λ path. k ∷ path) (leaves s)) (leaves_from (suc k) ss) p h) [
  | inl first ↦ let b = begins k (leaves s) p first in (k, b.0, omega arith, b.2)
  | inr rest ↦ let b = later (suc k) ss p rest in (b.0, b.1, omega (arith, b.2), b.3)
]

prefix_head : (j k : ℕ) (p q ps qs : List ℕ) → p ≡ j ∷ ps → q ≡ k ∷ qs → IsTrue (is_prefix p q) → (j ≡ k) × IsTrue (is_prefix ps qs)
prefix_head j k p q ps qs e f h =
    let r = and_parts (j == k) (is_prefix ps qs) (subst (λ x. is_prefix (j ∷ ps) x ≡ true) f (subst (λ x. is_prefix x q ≡ true) e h)) in
    (eqb-true j k r.0, r.1)

by_leaf : (b : Bool) (ls : List (List ℕ)) → Apart ls → Apart (if b then [] ∷ [] else ls)
by_leaf true ls a = one_apart
by_leaf false ls a = a

join_apart : (k : ℕ) (s : Shape) (ss : Shapes) → Apart (leaves s) → Apart (leaves_from (suc k) ss) → Apart (leaves_from k (shape s ss))
join_apart k s ss first rest p q a b h = cases (side p a) (side q b)
  where
    Side : List ℕ → Type 0
    Side x = BeginsAt k (leaves s) x ⊎ In (leaves_from (suc k) ss) x

    side : (x : List ℕ) → In (leaves_from k (shape s ss)) x → Side x
    side x i = elim (in_either (map (λ path. k ∷ path) (leaves s)) (leaves_from (suc k) ss) x i) [
      | inl f ↦ inl (begins k (leaves s) x f)
      | inr r ↦ inr r
    ]

    cases : Side p → Side q → p ≡ q
    cases (inl c) (inl d) = c.2 ∙ ap (λ l. k ∷ l) (first c.0 d.0 c.1 d.1 (prefix_head k k p q c.0 d.0 c.2 d.2 h).1) ∙ sym d.2
    cases (inl c) (inr d) =
        let l = later (suc k) ss q d in
        absurd (omega (arith, l.2, (prefix_head k l.0 p q c.0 l.1 c.2 l.3 h).0))
    cases (inr c) (inl d) =
        let l = later (suc k) ss p c in
        absurd (omega (arith, l.2, (prefix_head l.0 k p q l.1 d.0 l.3 d.2 h).0))
    cases (inr c) (inr d) = rest p q c d h

none_apart : Apart []
none_apart p q a b h = absurd a

mutual
  pub leaves_apart : (s : Shape) → Apart (leaves s)
  leaves_apart number = one_apart
  leaves_apart truth = one_apart
  leaves_apart no_value = one_apart
  leaves_apart closure = one_apart
  leaves_apart (struct head fields) = by_leaf (head.has_deinit || is_none fields) (leaves_from 0 fields) (from_apart 0 fields)
  leaves_apart (enum head cs) = one_apart

  from_apart : (k : ℕ) (ss : Shapes) → Apart (leaves_from k ss)
  from_apart k no_shapes = none_apart
  from_apart k (shape s ss) = join_apart k s ss (leaves_apart s) (from_apart (suc k) ss)

pub opened_apart : (s : Shape) → Apart (opened_leaves s)
opened_apart number = one_apart
opened_apart truth = one_apart
opened_apart no_value = one_apart
opened_apart closure = one_apart
opened_apart (struct head fields) = from_apart 0 fields
opened_apart (enum head cs) = one_apart

pub leaves_are_apart : LeavesAreApart
leaves_are_apart s p q a b h = leaves_apart s p q (in_contains (leaves s) p a) (in_contains (leaves s) q b) h

pub opened_leaves_are_apart : OpenedLeavesAreApart
opened_leaves_are_apart s p q a b h = opened_apart s p q (in_contains (opened_leaves s) p a) (in_contains (opened_leaves s) q b) h

pub parts_are_no_larger : PartsAreNoLarger
parts_are_no_larger no_shapes k = omega arith
parts_are_no_larger (shape s ss) zero = omega arith
parts_are_no_larger (shape s ss) (suc k) = omega (arith, parts_are_no_larger ss k)
