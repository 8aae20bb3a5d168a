-- Worked uses that break fixed rules, or do not.
use Rattle.std.specs.Prelude.{◌≡◌, ℕ, true, false, List, [], ◌∷◌, codes, refl}
use Rattle.own_tree.specs.declared.finding.Finding.{Finding}
use Rattle.own_tree.specs.declared.finding.Rule.TheVariants as rule
use Rattle.own_tree.specs.declared.place.Binding.{Binding}
use Rattle.own_tree.specs.declared.place.Mode.{Mode}
use Rattle.own_tree.specs.declared.place.Mode.TheVariants as mode
use Rattle.own_tree.specs.declared.place.Ty.TheVariants as type
use Rattle.own_tree.specs.declared.typed.BodyKind.TheVariants as body
use Rattle.own_tree.specs.declared.typed.Passing.{Passing}
use Rattle.own_tree.specs.declared.typed.Passing.TheVariants as passing
use Rattle.own_tree.specs.declared.typed.Target.TheVariants as target
use Rattle.own_tree.specs.TypedSource.{pat, no_pats, any, TExp, truth, parenthesized, call, address, closure, TStm, if_else, else_if, assign, switch, case_of, clause, no_clauses, TBody, Program}
use Rattle.own_paths.specs.Fixed.{broken, fixed_breaks}
use Rattle.own_shapes.specs.Places.{whole}
use Rattle.own_shapes.specs.Types.{types_declared}
use Rattle.own_shapes.proofs.Spelling.{sp, at, node, file_, in_place, path_at, p, num, exps, stms, blk, bound, body_of, program_of, do_, take_, file_decl, with_types, file_types}
use Rattle.own_paths.proofs.Refused.{held_decl}

-- ---- one statement in a body with the bindings 0 and 1

abbrev main_of : TStm → TBody
main_of s = body_of body.Function [] type.Unit false 106 901 (blk 113 901 (s ∷ []))

abbrev two_of : Mode → Mode → List Binding
two_of first second = bound 207 (codes "a") file_ first 0 ∷ bound 307 (codes "b") file_ second 0 ∷ []

abbrev breaks_of : Mode → Mode → TStm → List Finding
breaks_of first second s = fixed_breaks file_types (program_of (main_of s ∷ []) (two_of first second)) 0 (main_of s)

abbrev calls : List TExp → List Passing → TStm
calls es ps = do_ 403 (call (node 403) (target.Function 5) (exps es) ps)

abbrev a_at : ℕ → TExp
a_at n = p n file_ 0 []

-- ---- O7 and O9: what each kind of binding allows

borrowed_is_kept : breaks_of mode.Borrowing mode.Let (do_ 403 (take_ 403 (a_at 408))) ≡ broken rule.O7 (sp 408) (whole 0) (sp 207) ∷ []
unfolding types_declared
borrowed_is_kept = refl

inout_is_given_away : breaks_of mode.Inout mode.Let (do_ 403 (take_ 403 (a_at 408))) ≡ []
unfolding types_declared
inout_is_given_away = refl

let_is_not_assigned : breaks_of mode.Let mode.Let (assign (node 403) (path_at 403 file_ 0 []) (a_at 407)) ≡ broken rule.O9 (sp 403) (whole 0) (sp 207) ∷ []
unfolding types_declared
let_is_not_assigned = refl

let_property_is_not_assigned : breaks_of mode.Var mode.Let (assign (node 403) (path_at 403 type.Int 0 (0 ∷ [])) num)
    ≡ broken rule.O9 (sp 403) (in_place 0 (0 ∷ [])) (sp 207) ∷ []
unfolding types_declared
let_property_is_not_assigned = refl

consuming_parameter_is_assigned : breaks_of mode.Consuming mode.Let (assign (node 403) (path_at 403 file_ 0 []) (p 407 file_ 1 [])) ≡ []
unfolding types_declared
consuming_parameter_is_assigned = refl

-- ---- O10

two_borrows_agree : breaks_of mode.Let mode.Let (calls (a_at 405 ∷ a_at 408 ∷ []) (passing.Borrow ∷ passing.Borrow ∷ [])) ≡ []
unfolding types_declared
two_borrows_agree = refl

borrow_then_consume : breaks_of mode.Let mode.Let (calls (a_at 405 ∷ a_at 408 ∷ []) (passing.Borrow ∷ passing.Consume ∷ []))
    ≡ broken rule.O10 (sp 408) (whole 0) (sp 405) ∷ []
unfolding types_declared
borrow_then_consume = refl

change_then_borrow : breaks_of mode.Var mode.Let (calls (address (path_at 405 file_ 0 []) ∷ a_at 408 ∷ []) (passing.Inout ∷ passing.Borrow ∷ []))
    ≡ broken rule.O10 (sp 408) (whole 0) (sp 405) ∷ []
unfolding types_declared
change_then_borrow = refl

-- a number is read, and the place is not held
change_then_read : breaks_of mode.Var mode.Let (calls (address (path_at 405 file_ 0 []) ∷ p 408 type.Int 0 (0 ∷ []) ∷ []) (passing.Inout ∷ passing.ByValue ∷ [])) ≡ []
unfolding types_declared
change_then_read = refl

-- a consume inside a later argument
consume_within : breaks_of mode.Let mode.Let (calls (a_at 405 ∷ call (at 408 type.Int) (target.Function 6) (exps (a_at 412 ∷ [])) (passing.Consume ∷ []) ∷ []) (passing.Borrow ∷ passing.ByValue ∷ []))
    ≡ broken rule.O10 (sp 412) (whole 0) (sp 405) ∷ []
unfolding types_declared
consume_within = refl

-- ---- O11

abbrev switch_on_a : TStm → TStm
switch_on_a s = switch (node 403) (a_at 410) (clause (sp 503) (case_of (pat any no_pats)) (stms (s ∷ [])) no_clauses)

other_is_consumed : breaks_of mode.Let mode.Let (switch_on_a (do_ 605 (take_ 605 (p 610 file_ 1 [])))) ≡ []
unfolding types_declared
other_is_consumed = refl

subject_is_consumed : breaks_of mode.Let mode.Let (switch_on_a (do_ 605 (take_ 605 (a_at 610)))) ≡ broken rule.O11 (sp 610) (whole 0) (sp 410) ∷ []
unfolding types_declared
subject_is_consumed = refl

-- ---- what a literal `true` leaves out: no way leads there, and the fixed rules hold there too

-- `if true { } else { .. }`
abbrev else_of_true : TStm → TStm
else_of_true s = if_else (node 403) (truth (at 406 type.Bool) true) (blk 411 413 []) (blk 420 620 (s ∷ []))

borrowed_is_kept_there : breaks_of mode.Borrowing mode.Let (else_of_true (do_ 503 (take_ 503 (a_at 508)))) ≡ broken rule.O7 (sp 508) (whole 0) (sp 207) ∷ []
unfolding types_declared
borrowed_is_kept_there = refl

-- of a value whose type has a `deinit`
abbrev breaks_of_held : TStm → List Finding
breaks_of_held s = fixed_breaks (with_types (file_decl ∷ held_decl ∷ [])) (program_of (main_of s ∷ []) (bound 207 (codes "q") (type.Named 1) mode.Let 0 ∷ [])) 0 (main_of s)

-- `if true { } else if false { } else { take(q.a) }`
part_is_kept_there : breaks_of_held (
    else_if (node 403) (truth (at 406 type.Bool) true) (blk 411 413 []) (
    if_else (node 420) (truth (at 423 type.Bool) false) (blk 428 430 []) (blk 437 620 (do_ 503 (take_ 503 (p 508 file_ 0 (0 ∷ []))) ∷ []))))
    ≡ broken rule.O8 (sp 508) (in_place 0 (0 ∷ [])) (sp 207) ∷ []
unfolding types_declared
part_is_kept_there = refl

let_is_not_assigned_there : breaks_of mode.Let mode.Let (else_of_true (assign (node 503) (path_at 503 file_ 0 []) (p 507 file_ 1 [])))
    ≡ broken rule.O9 (sp 503) (whole 0) (sp 207) ∷ []
unfolding types_declared
let_is_not_assigned_there = refl

-- one left out in another
let_is_not_assigned_within : breaks_of mode.Let mode.Let (else_of_true (else_of_true (assign (node 503) (path_at 503 file_ 0 []) (p 507 file_ 1 []))))
    ≡ broken rule.O9 (sp 503) (whole 0) (sp 207) ∷ []
unfolding types_declared
let_is_not_assigned_within = refl

subject_is_kept_there : breaks_of mode.Let mode.Let (switch_on_a (else_of_true (do_ 605 (take_ 605 (a_at 610))))) ≡ broken rule.O11 (sp 610) (whole 0) (sp 410) ∷ []
unfolding types_declared
subject_is_kept_there = refl

-- A condition in parentheses leaves nothing out, and what stands in the tree is there once.
consumed_in_parentheses : breaks_of mode.Borrowing mode.Let (
    if_else (node 403) (parenthesized (at 406 type.Bool) (truth (at 407 type.Bool) true)) (blk 411 413 []) (blk 420 620 (do_ 503 (take_ 503 (a_at 508)) ∷ [])))
    ≡ broken rule.O7 (sp 508) (whole 0) (sp 207) ∷ []
unfolding types_declared
consumed_in_parentheses = refl

-- ---- a changing capture of a `let`: one finding at the `{`, and one at the place

abbrev changed_let : Program
changed_let =
    program_of
    (
    main_of (calls (closure (node 405) 1 ∷ []) (passing.Closure ∷ []))
    ∷ body_of (body.Closure 0) [] type.Unit false 405 420 (blk 405 420 (assign (node 407) (path_at 407 file_ 0 []) (p 411 file_ 1 []) ∷ [])) ∷ []
    ) (bound 207 (codes "a") file_ mode.Let 0 ∷ bound 408 (codes "b") file_ mode.Let 1 ∷ [])

let_is_captured : fixed_breaks file_types changed_let 0 (main_of (calls (closure (node 405) 1 ∷ []) (passing.Closure ∷ [])))
    ≡ broken rule.O9 (sp 405) (whole 0) (sp 207) ∷ []
unfolding types_declared
let_is_captured = refl
