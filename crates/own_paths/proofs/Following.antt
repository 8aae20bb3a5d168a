-- A trace of an op tree by its choices, one for each Either that is come to: true for its first part.
use Rattle.std.proofs.Common.{ℕ, zero, suc, Bool, true, false, List, [], ◌∷◌, ◌++◌, inl, inr, refl}
use Rattle.own_tree.specs.declared.op.Op.{Op}
use Rattle.own_tree.specs.OpSource.{Ops, op, nothing, next, either, loop, catch, scope, break_at, continue_at, return_at, halt}
use Rattle.own_paths.specs.Traces.{Completion, goes_on, breaks, continues, returns, halts, cut, Set, After, Broken, Turns, caught, IsTrace, ends_for}

-- what was done, how it was completed, and the choices that are left
pub record Walk : Type 0 where
  pub ops : List Op
  pub end : Completion
  pub left : List Bool

abbrev pub walk : List Op → Completion → List Bool → Walk
walk ops end left = record { ops = ops; end = end; left = left }

-- the rest of a walk, after a first part that was completed so
abbrev pub rest_after : Completion → List Bool → Walk → Walk
rest_after goes_on left rest = rest
rest_after (breaks s) left rest = walk [] (breaks s) left
rest_after (continues s) left rest = walk [] (continues s) left
rest_after (returns s) left rest = walk [] (returns s) left
rest_after halts left rest = walk [] halts left
rest_after cut left rest = walk [] cut left

abbrev pub rest_of_loop : Completion → List Bool → Walk → Walk
rest_of_loop goes_on left rest = rest
rest_of_loop (breaks s) left rest = walk [] goes_on left
rest_of_loop (continues s) left rest = rest
rest_of_loop (returns s) left rest = walk [] (returns s) left
rest_of_loop halts left rest = walk [] halts left
rest_of_loop cut left rest = walk [] cut left

abbrev pub joined : Walk → Walk → Walk
joined first rest = walk (first.ops ++ rest.ops) rest.end rest.left

abbrev pub choose : List Bool → (List Bool → Walk) → (List Bool → Walk) → Walk
choose [] first second = first []
choose (true ∷ choices) first second = first choices
choose (false ∷ choices) first second = second choices

abbrev pub turns_of : (List Bool → Walk) → (List Bool → Walk) → ℕ → List Bool → Walk
turns_of first second zero choices = walk [] cut choices
turns_of first second (suc j) choices =
    let a = first choices in
    joined a (rest_of_loop a.end a.left (let b = second a.left in joined b (rest_of_loop b.end b.left (turns_of first second j b.left))))

abbrev pub follow : ℕ → Ops → List Bool → Walk
follow k (op o) choices = walk (o ∷ []) goes_on choices
follow k nothing choices = walk [] goes_on choices
follow k (next a b) choices = let r = follow k a choices in joined r (rest_after r.end r.left (follow k b r.left))
follow k (either a b) choices = choose choices (follow k a) (follow k b)
follow k (loop a b) choices = turns_of (follow k a) (follow k b) k choices
follow k (catch a) choices = let r = follow k a choices in walk r.ops (caught r.end) r.left
follow k (scope xs close a) choices = let r = follow k a choices in walk (r.ops ++ ends_for xs close r.end) r.end r.left
follow k (break_at s) choices = walk [] (breaks s) choices
follow k (continue_at s) choices = walk [] (continues s) choices
follow k (return_at s) choices = walk [] (returns s) choices
follow k halt choices = walk [] halts choices

-- ---- it is a trace

abbrev Is : Set → Walk → Type 0
Is A r = A r.ops r.end

after_is : (B : Set) (how : Completion) (left : List Bool) (r : Walk) → Is B r → Is (After how B) (rest_after how left r)
after_is B goes_on left r h = h
after_is B (breaks s) left r h = (refl, refl)
after_is B (continues s) left r h = (refl, refl)
after_is B (returns s) left r h = (refl, refl)
after_is B halts left r h = (refl, refl)
after_is B cut left r h = (refl, refl)

loop_is : (B : Set) (how : Completion) (left : List Bool) (r : Walk) → Is B r → Is (Broken how B) (rest_of_loop how left r)
loop_is B goes_on left r h = h
loop_is B (breaks s) left r h = (refl, refl)
loop_is B (continues s) left r h = h
loop_is B (returns s) left r h = (refl, refl)
loop_is B halts left r h = (refl, refl)
loop_is B cut left r h = (refl, refl)

turns_are : (A B : Set) (first second : List Bool → Walk) → ((bs : List Bool) → Is A (first bs)) → ((bs : List Bool) → Is B (second bs))
    → (j : ℕ) (choices : List Bool) → Is (Turns A B j) (turns_of first second j choices)
turns_are A B first second fa fb zero choices = (refl, refl)
turns_are A B first second fa fb (suc j) choices =
    let a = first choices in
    let b = second a.left in
    let later = turns_of first second j b.left in
    let inner = rest_of_loop b.end b.left later in (
      a.ops,
      a.end,
      (rest_of_loop a.end a.left (joined b inner)).ops,
      fa choices,
      loop_is _ a.end a.left (joined b inner) (b.ops, b.end, inner.ops, fb a.left, loop_is _ b.end b.left later (turns_are A B first second fa fb j b.left), refl),
      refl,
    )

pub followed : (k : ℕ) (t : Ops) (choices : List Bool) → Is (IsTrace k t) (follow k t choices)
followed k (op o) choices = (refl, refl)
followed k nothing choices = (refl, refl)
followed k (next a b) choices =
    let r = follow k a choices in
    let s = follow k b r.left in
    (r.ops, r.end, (rest_after r.end r.left s).ops, followed k a choices, after_is (IsTrace k b) r.end r.left s (followed k b r.left), refl)
followed k (either a b) [] = inl (followed k a [])
followed k (either a b) (true ∷ choices) = inl (followed k a choices)
followed k (either a b) (false ∷ choices) = inr (followed k b choices)
followed k (loop a b) choices = turns_are (IsTrace k a) (IsTrace k b) (follow k a) (follow k b) (followed k a) (followed k b) k choices
followed k (catch a) choices = let r = follow k a choices in (r.end, followed k a choices, refl)
followed k (scope xs close a) choices = let r = follow k a choices in (r.ops, followed k a choices, refl)
followed k (break_at s) choices = (refl, refl)
followed k (continue_at s) choices = (refl, refl)
followed k (return_at s) choices = (refl, refl)
followed k halt choices = (refl, refl)
