-- What is over a limit, and which leaves are not ambiguous.
use Rattle.std.proofs.Common.{◌≡◌, ℕ, ◌+◌, ◌<◌, Bool, true, false, List, [], ◌∷◌, length, Option, Some, None, inl, inr, refl, arith}
use Rattle.std.specs.Prelude.{nat_lt}
use Rattle.std.proofs.lemmas.Bool.{ltb-true}
use Rattle.own_tree.specs.declared.limits.TheConstants.{MOST_BODY_SLOTS, MOST_BODY_OPS, MOST_BODY_LEAVES, MOST_BODY_MAKERS, MOST_OPS}
use Rattle.own_tree.specs.declared.span.Span.{Span}
use Rattle.own_tree.specs.TypedSource.{TBody, Program}
use Rattle.own_paths.specs.BodyLimits.{body_slots, op_count, maker_count, passing_body, sum_of_ops}
use Rattle.own_shapes.specs.Counts.{counted, IsExceeded}
use Rattle.own_shapes.proofs.Counting.{first_is_over}
use Rattle.own_paths.specs.Laws.{BodyLimitsAreExceeded, SettledLeavesAreNotAmbiguous}
use Rattle.own_paths.specs.Makers.{tree_of, uses_of}
use Rattle.own_paths.specs.Ops.{body_ops}
use Rattle.own_shapes.specs.Types.{Types}

-- the sum of all is no smaller than that at which the largest is passed
passing : (types : Types) (program : Program) (largest so_far : ℕ) (bodies : List TBody) (at : Span) → passing_body types program largest so_far bodies ≡ Some at
    → largest < so_far + sum_of_ops types program bodies
passing types program largest so_far [] at is = absurd (cc)
passing types program largest so_far (body ∷ bodies) at is =
    let sum = so_far + op_count (body_ops types program body) in
    let P : Bool → Type 0 = λ b. nat_lt largest sum ≡ b → largest < so_far + sum_of_ops types program (body ∷ bodies) in
    elim (nat_lt largest sum) as P [
      | true ↦ λ over. (let lt = ltb-true _ _ over in omega (arith, lt))
      | false ↦ λ within. (let more = passing types program largest sum bodies at (rw within at is) in omega (arith, more))
    ] refl

ops_are_over : (types : Types) (program : Program) (bodies : List TBody) → (o : Option Span) → passing_body types program MOST_OPS 0 bodies ≡ o
    → IsExceeded MOST_OPS (elim o [ None ↦ None | Some at ↦ Some (counted (sum_of_ops types program bodies) at) ])
ops_are_over types program bodies None is = tt
ops_are_over types program bodies (Some at) is = let more = passing types program MOST_OPS 0 bodies at is in omega (arith, more)

pub body_limits_are_exceeded : BodyLimitsAreExceeded
body_limits_are_exceeded = record {
  body_slots = λ types program k body. first_is_over MOST_BODY_SLOTS (counted (body_slots types program k body) body.span ∷ []);
  body_ops = λ types program k body. first_is_over MOST_BODY_OPS (counted (op_count (body_ops types program body)) body.span ∷ []);
  body_leaves = λ types program k body. first_is_over MOST_BODY_LEAVES (counted (length (uses_of types program k body).leaves) body.span ∷ []);
  body_makers = λ types program k body. first_is_over MOST_BODY_MAKERS (counted (maker_count (uses_of types program k body) (tree_of (uses_of types program k body))) body.span ∷ []);
  ops = λ types program. ops_are_over types program program.bodies (passing_body types program MOST_OPS 0 program.bodies) refl;
}

pub settled_leaves_are_not_ambiguous : SettledLeavesAreNotAmbiguous
settled_leaves_are_not_ambiguous types program k body leaf settled a = elim (settled a.at a.destroys) [
  | inl always ↦ always.1 a.both.1
  | inr never ↦ never a.both.0
]
