-- The side conditions of rules, each with its test.
use Rattle.std.specs.Prelude.{◌≡◌, ℕ, ◌≤◌, ◌==◌, nat_le, Bool, true, ◌&&◌, ◌||◌, ◌⊎◌, Option, Some, None}
use Rattle.own_tree.specs.declared.place.Ty.{Ty}
use Rattle.own_calls.specs.Arguments.{same_type}
use Rattle.own_judging.specs.Judged.{Test}
use Rattle.own_judging.proofs.Conditions.{type_is_same, same_by, equal_passes, equal_passed, at_most_passes, at_most_passed, both_passes, both_passed, either_passes, either_passed}

abbrev pub true_that : Bool → Test
true_that b = record { is = b ≡ true; test = b; passes = λ p. p; passed = λ p. p }

abbrev pub one_type : Ty → Ty → Test
one_type a b = record { is = a ≡ b; test = same_type a b; passes = same_by a b; passed = type_is_same a b }

-- it has the type that is expected, where there is one
abbrev pub fits : (wanted : Option Ty) → Ty → Test
fits None ty = true_that true
fits (Some wanted) ty = one_type ty wanted

abbrev pub equal : ℕ → ℕ → Test
equal m n = record { is = m ≡ n; test = m == n; passes = equal_passes m n; passed = equal_passed m n }

abbrev pub at_most : ℕ → ℕ → Test
at_most m n = record { is = m ≤ n; test = nat_le m n; passes = at_most_passes m n; passed = at_most_passed m n }

abbrev pub both : Test → Test → Test
both a b = record { is = a.is × b.is; test = a.test && b.test; passes = both_passes a b; passed = both_passed a b }

abbrev pub either : Test → Test → Test
either a b = record {
  is = a.is ⊎ b.is;
  test = a.test || b.test;
  passes = either_passes a b;
  passed = either_passed a b;
}
