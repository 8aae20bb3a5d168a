-- The lists of the makers of each leaf, as they grow.
use Rattle.std.proofs.Common.{◌≡◌, ℕ, ◌+◌, ◌<◌, ◌≤◌, ◌⊎◌, inl, inr, List, [], ◌∷◌, ◌++◌, length, set, slice_get, Some, sym, ap, ◌∙◌, subst, arith}
use Rattle.std.proofs.lemmas.Bool.{cases_eq}
use Rattle.std.proofs.lemmas.List.{get_or-set_same, get_or-set_other}
use Rattle.std.proofs.lemmas.Option.{slice_get_within}
use Rattle.std.specs.Prelude.{◌↔◌, Contains, slice_index_or}
use Rattle.own_shapes.proofs.Lists.{In, in_contains, contains_in, in_front, in_back, in_either}
use Rattle.own_tree.specs.declared.graph.Maker.{Maker}
use Rattle.own_walks.specs.Reaching.{IsOf}
use Rattle.own_flow.proofs.TableLaws.{at_push, not_in_none, IsOfFirst, of_more}
use Rattle.own_rules.specs.Bodies.{makers_of}

pub no_maker_push : (lists : List (List ℕ)) → ((l p : ℕ) → ¬ (Contains (makers_of lists l) p)) → (l p : ℕ) → ¬ (Contains (makers_of (lists ++ [] ∷ []) l) p)
no_maker_push lists h l p c =
    elim (at_push lists [] [] l) [ inl e ↦ h l p (subst (λ x. Contains x p) e c) | inr e ↦ not_in_none p (subst (λ x. Contains x p) e c) ]

pushed : (xs : List ℕ) (k p : ℕ) → Contains (xs ++ k ∷ []) p ↔ (Contains xs p ⊎ (p ≡ k))
pushed xs k p = (there, back)
  where
    last : In (k ∷ []) p → p ≡ k
    last (inl e) = sym e
    last (inr h) = absurd h

    there : Contains (xs ++ k ∷ []) p → Contains xs p ⊎ (p ≡ k)
    there c = elim (in_either xs (k ∷ []) p (in_contains (xs ++ k ∷ []) p c)) [ inl h ↦ inl (contains_in xs p h) | inr h ↦ inr (last h) ]

    back : Contains xs p ⊎ (p ≡ k) → Contains (xs ++ k ∷ []) p
    back (inl c) = contains_in (xs ++ k ∷ []) p (in_front xs (k ∷ []) p (in_contains xs p c))
    back (inr e) = contains_in (xs ++ k ∷ []) p (in_back xs (k ∷ []) p (inl (sym e)))

module _ (pairs : List Maker) (k : ℕ) (pair : Maker) (at : slice_get pairs k ≡ Some pair) where
  pub maker_step : (lists : List (List ℕ)) → pair.leaf < length lists → ((l p : ℕ) → Contains (makers_of lists l) p ↔ IsOfFirst pairs k p l)
      → (l p : ℕ) → Contains (makers_of (set lists pair.leaf (makers_of lists pair.leaf ++ k ∷ [])) l) p ↔ IsOfFirst pairs (k + 1) p l
  maker_step lists lt done l p = elim (cases_eq l pair.leaf) [
    | inl e ↦
        let is : makers_of (set lists pair.leaf more) l ≡ more = ap (λ y. slice_index_or (set lists pair.leaf more) y []) e ∙ get_or-set_same lists pair.leaf more [] lt in (
          λ c. two.1 (elim ((pushed (makers_of lists pair.leaf) k p).0 (subst (λ x. Contains x p) is c)) [
            | inl old ↦ inl ((done l p).0 (subst (λ y. Contains (makers_of lists y) p) (sym e) old))
            | inr new ↦ inr (e, new)
          ]),
          λ i. subst (λ x. Contains x p) (sym is) ((pushed (makers_of lists pair.leaf) k p).1 (elim (two.0 i) [
            | inl old ↦ inl (subst (λ y. Contains (makers_of lists y) p) e ((done l p).1 old))
            | inr new ↦ inr new.1
          ])),
        )
    | inr other ↦
        let is : makers_of (set lists pair.leaf more) l ≡ makers_of lists l = get_or-set_other lists pair.leaf l more [] other in (
          λ c. two.1 (inl ((done l p).0 (subst (λ x. Contains x p) is c))),
          λ i. subst (λ x. Contains x p) (sym is) (elim (two.0 i) [ inl old ↦ (done l p).1 old | inr new ↦ absurd (other new.0) ]),
        )
  ]
    where
      more : List ℕ
      more = makers_of lists pair.leaf ++ k ∷ []

      two : IsOfFirst pairs (k + 1) p l ↔ (IsOfFirst pairs k p l ⊎ ((l ≡ pair.leaf) × (p ≡ k)))
      two = of_more pairs k pair at l p

pub makers_all : (pairs : List Maker) (k l p : ℕ) → length pairs ≤ k → IsOfFirst pairs k p l ↔ IsOf pairs p l
makers_all pairs k l p le = (λ i. i.0, λ i. (i, let lt = slice_get_within pairs p i.0 i.1 in omega (arith, lt, le)))
