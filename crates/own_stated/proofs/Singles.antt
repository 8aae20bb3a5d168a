-- Whether there is one statement, by how many there are.
use Rattle.std.proofs.Common.{◌≡◌, ◌≤◌, ◌<◌, true, false, List, [], ◌∷◌, length, map, refl, arith}
use Rattle.own_tree.specs.declared.tree.Stmt.{Stmt}
use Rattle.own_tree.specs.View.{stmt_view, stms_of}
use Rattle.own_judged.specs.Statements.{is_single}

pub one_is_single : (ss : List Stmt) → 1 ≤ length ss → length ss < 2 → true ≡ is_single (stms_of (map stmt_view ss))
one_is_single [] least below = absurd (omega (arith, least))
one_is_single (s ∷ []) least below = refl
one_is_single (s ∷ u ∷ ss) least below = absurd (omega (arith, below))

pub several_are_not : (ss : List Stmt) → 2 ≤ length ss → false ≡ is_single (stms_of (map stmt_view ss))
several_are_not [] least = refl
several_are_not (s ∷ []) least = absurd (omega (arith, least))
several_are_not (s ∷ u ∷ ss) least = refl
