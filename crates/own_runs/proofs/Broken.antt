-- Worked programs that obey every rule of types and break one of ownership, which makes their runs wrong.
use Rattle.std.specs.Prelude.{◌≡◌, refl, true, false, [], ◌∷◌, codes}
use Rattle.std.specs.Fmt.{digits}
use Rattle.own_tree.specs.declared.place.Mode.TheVariants as mode
use Rattle.own_tree.specs.declared.place.Ty.{Ty}
use Rattle.own_tree.specs.declared.place.Ty.TheVariants as type
use Rattle.own_tree.specs.declared.typed.Passing.TheVariants as passing
use Rattle.own_tree.specs.declared.typed.Target.TheVariants as target
use Rattle.own_tree.specs.Source.{enum_of, cases}
use Rattle.own_tree.specs.TypedSource.{bind, of_case, pat, no_pats, TExp, truth, address, call, case_of, case_where, TStm, let_in, assign, switch, return_value, clause, no_clauses, Program}
use Rattle.own_shapes.specs.Types.{Types, types_declared}
use Rattle.own_runs.specs.Run.{Wrong, run_of}
use Rattle.own_runs.proofs.Spelled.{answer, sp, node, at, name_at, path_at, p, i, v, exps, stms, say, has, noncopyable_struct, case_with, types_with, bound, function_body, main_body, alone}
use Rattle.own_runs.proofs.MoreRows.{no_types}

-- ---- F1

-- `func f() -> Int { }` and `func main() { print(f()) }`
abbrev pub falls_off : Program
falls_off = alone (main_body (say 1 (call (at 2 type.Int) (target.Function 1) (exps []) [] ∷ []) ∷ []) ∷ function_body [] type.Int [] ∷ []) []

-- The body gives no result.
falls_off_is_wrong : answer no_types falls_off [] 9 ≡ (Wrong, [])
unfolding run_of types_declared digits
falls_off_is_wrong = refl

-- ---- O11: the subject of a borrowing `switch` is changed in it

abbrev pub inner : Ty
inner = type.Named 0

abbrev pub either : Ty
either = type.Named 1

-- `struct S: ~Copyable { var n: Int }` and `enum E: ~Copyable { case a(S), b }`
abbrev pub either_types : Types
either_types = types_with (
    noncopyable_struct (codes "S") (has (codes "n") (codes "Int") ∷ [])
    ∷ enum_of (sp 0) (name_at (codes "E")) true (cases (sp 0) (case_with (codes "a") (codes "S" ∷ []) ∷ case_with (codes "b") [] ∷ []) ∷ []) ∷ [])

-- `var e = E.a(S(n: 7))`
abbrev pub starts_as_a : TStm
starts_as_a =
    let_in (node 1) 0 (
    call (at 2 either) (target.Case 1 0) (exps (call (at 3 inner) (target.Memberwise 0) (exps (i 4 7 ∷ [])) (passing.ByValue ∷ []) ∷ [])) (passing.Consume ∷ []))

-- `E.b`
abbrev pub as_b : TExp
as_b = call (at 9 either) (target.Case 1 1) (exps []) []

-- `switch e { case .a(let x): e = E.b  print(x.n)  case .b: print(0) }`
abbrev pub turns_over : Program
turns_over = alone (
    main_body (
    starts_as_a
    ∷ switch (node 5) (p 6 either 0 []) (
    clause (sp 0) (case_of (pat (of_case 0 (pat (bind 1) no_pats)) no_pats)) (stms (assign (node 7) (path_at 8 either 0 []) as_b ∷ say 10 (v 11 1 (0 ∷ []) ∷ []) ∷ [])) (
    clause (sp 0) (case_of (pat (of_case 1 no_pats) no_pats)) (stms (say 12 (i 13 0 ∷ []) ∷ [])) no_clauses)) ∷ []) ∷ [])
    (bound (codes "e") either mode.Var 0 ∷ bound (codes "x") inner mode.PatternBorrowed 0 ∷ [])

-- The name stands for a payload of a case that is no longer there.
turns_over_is_wrong : answer either_types turns_over [] 9 ≡ (Wrong, [])
unfolding run_of types_declared digits
turns_over_is_wrong = refl

-- `func flip(_ e: inout E) -> Bool { e = E.b  return false }`, and in `main`
-- `switch e { case .b: print(0)  case .a(let x) where flip(&e): print(1)  case .a(let x): print(2) }`
abbrev pub guard_turns_over : Program
guard_turns_over = alone (
    main_body (
    starts_as_a
    ∷ switch (node 5) (p 6 either 0 []) (
    clause (sp 0) (case_of (pat (of_case 1 no_pats) no_pats)) (stms (say 12 (i 13 0 ∷ []) ∷ [])) (
    clause (sp 0) (case_where (of_case 0 (pat (bind 1) no_pats)) (call (at 14 type.Bool) (target.Function 1) (exps (address (path_at 15 either 0 []) ∷ [])) (passing.Inout ∷ []))) (stms (say 16 (i 17 1 ∷ []) ∷ [])) (
    clause (sp 0) (case_of (pat (of_case 0 (pat (bind 3) no_pats)) no_pats)) (stms (say 18 (i 19 2 ∷ []) ∷ [])) no_clauses))) ∷ [])
    ∷ function_body (2 ∷ []) type.Bool (
    assign (node 7) (path_at 8 either 2 []) as_b ∷ return_value (node 10) (truth (at 11 type.Bool) false) ∷ []) ∷ [])
    (bound (codes "e") either mode.Var 0 ∷ bound (codes "x") inner mode.PatternBorrowed 0
    ∷ bound (codes "e") either mode.Inout 1 ∷ bound (codes "x") inner mode.PatternBorrowed 0 ∷ [])

-- No clause is left that matches.
guard_is_wrong : answer either_types guard_turns_over [] 9 ≡ (Wrong, [])
unfolding run_of types_declared digits
guard_is_wrong = refl
