-- Worked programs over `File`, run.
use Rattle.std.specs.Prelude.{◌≡◌, refl, pos, [], ◌∷◌, Some, None, codes}
use Rattle.std.specs.Fmt.{digits}
use Rattle.own_tree.specs.declared.arithmetic.Arith.TheVariants as arith_of
use Rattle.own_tree.specs.declared.place.Mode.TheVariants as mode
use Rattle.own_tree.specs.declared.place.Ty.{Ty}
use Rattle.own_tree.specs.declared.place.Ty.TheVariants as type
use Rattle.own_tree.specs.declared.tree.RangeOperator.TheVariants as range
use Rattle.own_tree.specs.declared.typed.BodyKind.TheVariants as body
use Rattle.own_tree.specs.declared.typed.Comparison.TheVariants as compare
use Rattle.own_tree.specs.declared.typed.Passing.TheVariants as passing
use Rattle.own_tree.specs.declared.typed.Target.TheVariants as target
use Rattle.own_tree.specs.TypedSource.{arithmetic, compared, call, address, closure, let_in, ignore, assign, update, if_then, loop_while, loop_for, Program}
use Rattle.own_shapes.specs.Types.{Types, types_declared}
use Rattle.own_runs.specs.Run.{Ended, Cut, Wrong, run_of}
use Rattle.own_runs.proofs.Spelled.{answer, traced_answer, lines, sp, node, at, path_at, p, i, v, w, exps, blk, do_, say, read_int, equal, has, ends, noncopyable_struct, types_with, bound, body_with, function_body, main_body, file_decl, with_file, new, take_, write_, close_, f, file_types, local_file, local_int}

abbrev pub two_files : Program
two_files = with_file 5 (
    main_body (
    let_in (node 1) 7 (new 2 (i 3 1)) ∷ let_in (node 4) 8 (new 5 (i 6 2)) ∷ write_ 7 (f 8 7) (i 9 10) ∷ close_ 10 (f 11 7)
    ∷ write_ 12 (f 13 8) (i 14 20) ∷ []) ∷ []) (local_file (codes "a") 5 ∷ local_file (codes "b") 5 ∷ [])

-- Of two files one is closed, and the other ends with `main`.
two_files_run : answer file_types two_files [] 20
    ≡ (Ended, lines (codes "open 1" ∷ codes "open 2" ∷ codes "write 10 to 1" ∷ codes "close 1" ∷ codes "write 20 to 2" ∷ codes "deinit 2" ∷ []))
unfolding run_of types_declared digits
two_files_run = refl

abbrev pub taken_on_one_side : Program
taken_on_one_side = with_file 5 (
    main_body (
    let_in (node 1) 7 (new 2 (i 3 1)) ∷ if_then (node 4) (equal 5 (read_int 6) (i 7 1)) (blk (take_ 8 (f 9 7) ∷ []))
    ∷ say 10 (w 11 (codes "done") ∷ []) ∷ []) ∷ []) (local_file (codes "f") 5 ∷ [])

-- taken
taken_runs : answer file_types taken_on_one_side (pos 1 ∷ []) 20
    ≡ (Ended, lines (codes "open 1" ∷ codes "take 1" ∷ codes "deinit 1" ∷ codes "done" ∷ []))
unfolding run_of types_declared digits
taken_runs = refl

-- not taken, so that it ends with `main`
left_runs : answer file_types taken_on_one_side (pos 0 ∷ []) 20
    ≡ (Ended, lines (codes "open 1" ∷ codes "done" ∷ codes "deinit 1" ∷ []))
unfolding run_of types_declared digits
left_runs = refl

-- with its events
taken_traced : traced_answer file_types taken_on_one_side (pos 1 ∷ []) 20
    ≡ (Ended, lines (codes "open 1" ∷ codes "made File #1" ∷ codes "take 1" ∷ codes "deinit 1" ∷ codes "ended File #1 by deinit" ∷ codes "done" ∷ []))
unfolding run_of types_declared digits
taken_traced = refl

-- the other side with its events
left_traced : traced_answer file_types taken_on_one_side (pos 0 ∷ []) 20
    ≡ (Ended, lines (codes "open 1" ∷ codes "made File #1" ∷ codes "done" ∷ codes "deinit 1" ∷ codes "ended File #1 by deinit" ∷ []))
unfolding run_of types_declared digits
left_traced = refl

-- `main` and the `init` take the two turns that there are
taken_cut : traced_answer file_types taken_on_one_side (pos 1 ∷ []) 2
    ≡ (Cut, lines (codes "open 1" ∷ codes "made File #1" ∷ []))
unfolding run_of types_declared digits
taken_cut = refl

abbrev pub made_again_in_a_loop : Program
made_again_in_a_loop = with_file 5 (
    main_body (
    let_in (node 1) 7 (new 2 (i 3 1)) ∷ let_in (node 4) 8 (i 5 0)
    ∷ loop_while (node 6) (compared (at 7 type.Bool) compare.Less (v 8 8 []) (i 9 2)) (blk (
    take_ 10 (f 11 7)
    ∷ assign (node 12) (path_at 13 (type.Named 0) 7 []) (new 14 (arithmetic (at 15 type.Int) arith_of.Add (sp 15) (i 16 2) (v 17 8 [])))
    ∷ update (node 18) (path_at 19 type.Int 8 []) arith_of.Add (sp 18) (i 20 1) ∷ [])) ∷ []) ∷ [])
    (local_file (codes "f") 5 ∷ local_int (codes "i") 5 ∷ [])

-- Each turn consumes a value and makes the next.
made_again_runs : answer file_types made_again_in_a_loop [] 30
    ≡ (Ended, lines (codes "open 1" ∷ codes "take 1" ∷ codes "deinit 1" ∷ codes "open 2" ∷ codes "take 2" ∷ codes "deinit 2" ∷ codes "open 3" ∷ codes "deinit 3" ∷ []))
unfolding run_of types_declared digits
made_again_runs = refl

-- ---- parts of structs

abbrev pub pair : Ty
pair = type.Named 1

abbrev pub pair_types : Types
pair_types = types_with (file_decl ∷ noncopyable_struct (codes "Pair") (has (codes "a") (codes "File") ∷ has (codes "b") (codes "File") ∷ []) ∷ [])

abbrev pub parts_move : Program
parts_move = with_file 6 (
    function_body (7 ∷ []) type.Unit (say 1 (v 2 7 (0 ∷ 0 ∷ []) ∷ v 3 7 (1 ∷ 0 ∷ []) ∷ []) ∷ [])
    ∷ main_body (
    let_in (node 1) 8 (call (at 2 pair) (target.Memberwise 1) (exps (new 3 (i 4 1) ∷ new 5 (i 6 2) ∷ [])) (passing.Consume ∷ passing.Consume ∷ []))
    ∷ take_ 7 (p 8 (type.Named 0) 8 (0 ∷ [])) ∷ write_ 9 (p 10 (type.Named 0) 8 (1 ∷ [])) (i 11 5)
    ∷ assign (node 12) (path_at 13 (type.Named 0) 8 (0 ∷ [])) (new 14 (i 15 3))
    ∷ do_ (call (node 16) (target.Function 5) (exps (p 17 pair 8 [] ∷ [])) (passing.Borrow ∷ [])) ∷ []) ∷ [])
    (bound (codes "p") pair mode.Borrowing 5 ∷ bound (codes "p") pair mode.Var 6 ∷ [])

-- A part moves out and is made again (SE-0429).
parts_run : answer pair_types parts_move [] 30
    ≡ (Ended, lines (codes "open 1" ∷ codes "open 2" ∷ codes "take 1" ∷ codes "deinit 1" ∷ codes "write 5 to 2" ∷ codes "open 3" ∷ codes "3 2" ∷ codes "deinit 3" ∷ codes "deinit 2" ∷ []))
unfolding run_of types_declared digits
parts_run = refl

abbrev pub swapped : Program
swapped = with_file 6 (
    function_body (7 ∷ 8 ∷ []) type.Unit (
    let_in (node 1) 9 (f 2 7) ∷ assign (node 3) (path_at 4 (type.Named 0) 7 []) (f 5 8)
    ∷ assign (node 6) (path_at 7 (type.Named 0) 8 []) (f 8 9) ∷ [])
    ∷ main_body (
    let_in (node 1) 10 (call (at 2 pair) (target.Memberwise 1) (exps (new 3 (i 4 1) ∷ new 5 (i 6 2) ∷ [])) (passing.Consume ∷ passing.Consume ∷ []))
    ∷ do_ (call (node 7) (target.Function 5) (exps (address (path_at 8 (type.Named 0) 10 (0 ∷ [])) ∷ address (path_at 9 (type.Named 0) 10 (1 ∷ [])) ∷ [])) (passing.Inout ∷ passing.Inout ∷ []))
    ∷ say 10 (v 11 10 (0 ∷ 0 ∷ []) ∷ v 12 10 (1 ∷ 0 ∷ []) ∷ []) ∷ []) ∷ [])
    (bound (codes "x") (type.Named 0) mode.Inout 5 ∷ bound (codes "y") (type.Named 0) mode.Inout 5
    ∷ bound (codes "t") (type.Named 0) mode.Let 5 ∷ bound (codes "p") pair mode.Var 6 ∷ [])

-- Two `inout` parts change places.
swapped_runs : answer pair_types swapped [] 30
    ≡ (Ended, lines (codes "open 1" ∷ codes "open 2" ∷ codes "2 1" ∷ codes "deinit 2" ∷ codes "deinit 1" ∷ []))
unfolding run_of types_declared digits
swapped_runs = refl

abbrev pub held_types : Types
held_types = types_with (file_decl ∷ noncopyable_struct (codes "Held") (has (codes "a") (codes "File") ∷ ends ∷ []) ∷ [])

abbrev pub held : Program
held = with_file 6 (
    body_with body.Deinitializer (Some 1) (7 ∷ []) type.Unit (say 1 (w 2 (codes "held") ∷ []) ∷ [])
    ∷ main_body (let_in (node 1) 8 (call (at 2 pair) (target.Memberwise 1) (exps (new 3 (i 4 1) ∷ [])) (passing.Consume ∷ [])) ∷ []) ∷ [])
    (bound (codes "self") pair mode.SelfDeinit 5 ∷ bound (codes "q") pair mode.Let 6 ∷ [])

-- The `deinit` of a struct runs before the destruction of its properties.
held_runs : traced_answer held_types held [] 30
    ≡ (Ended, lines (codes "open 1" ∷ codes "made File #1" ∷ codes "made Held #2" ∷ codes "held" ∷ codes "ended Held #2 by deinit" ∷ codes "deinit 1" ∷ codes "ended File #1 by deinit" ∷ []))
unfolding run_of types_declared digits
held_runs = refl

-- ---- closures

abbrev pub each_of : Program
each_of = with_file 6 (
    function_body (7 ∷ 8 ∷ []) type.Unit (
    loop_for (node 1) (Some 9) (i 2 0) range.HalfOpen (sp 3) (v 4 7 [])
    (blk (do_ (call (node 5) (target.Closure 8) (exps (v 6 9 [] ∷ [])) (passing.ByValue ∷ [])) ∷ [])) ∷ [])
    ∷ main_body (
    let_in (node 1) 10 (i 2 0)
    ∷ do_ (call (node 3) (target.Function 5) (exps (i 4 3 ∷ closure (at 5 (type.Fun 0)) 7 ∷ [])) (passing.ByValue ∷ passing.Closure ∷ []))
    ∷ say 6 (v 7 10 [] ∷ []) ∷ [])
    ∷ body_with (body.Closure 6) None (11 ∷ []) type.Unit (update (node 1) (path_at 2 type.Int 10 []) arith_of.Add (sp 3) (v 4 11 []) ∷ [])
    ∷ [])
    (bound (codes "n") type.Int mode.Plain 5 ∷ bound (codes "body") (type.Fun 0) mode.Closure 5 ∷ bound (codes "i") type.Int mode.Turn 5
    ∷ local_int (codes "total") 6 ∷ bound (codes "k") type.Int mode.Plain 7 ∷ [])

-- A closure changes the captured binding itself.
each_runs : answer file_types each_of [] 30
    ≡ (Ended, lines (codes "3" ∷ []))
unfolding run_of types_declared digits
each_runs = refl

-- ---- temporaries

abbrev pub temporary_is_lent : Program
temporary_is_lent = with_file 5 (main_body (write_ 1 (new 2 (i 3 4)) (i 4 1) ∷ []) ∷ []) []

-- A temporary that a call borrows is destroyed when the call has returned.
temporary_runs : answer file_types temporary_is_lent [] 30
    ≡ (Ended, lines (codes "open 4" ∷ codes "write 1 to 4" ∷ codes "deinit 4" ∷ []))
unfolding run_of types_declared digits
temporary_runs = refl

-- with its events
temporary_traced : traced_answer file_types temporary_is_lent [] 30
    ≡ (Ended, lines (codes "open 4" ∷ codes "made File #1" ∷ codes "used File #1" ∷ codes "write 1 to 4" ∷ codes "deinit 4" ∷ codes "ended File #1 by deinit" ∷ []))
unfolding run_of types_declared digits
temporary_traced = refl

-- ---- holes

abbrev pub used_after_consumed : Program
used_after_consumed = with_file 5 (
    main_body (let_in (node 1) 7 (new 2 (i 3 1)) ∷ take_ 4 (f 5 7) ∷ write_ 6 (f 7 7) (i 8 1) ∷ []) ∷ []) (local_file (codes "f") 5 ∷ [])

-- To lend what was consumed is wrong.
used_after_consumed_runs : answer file_types used_after_consumed [] 30
    ≡ (Wrong, lines (codes "open 1" ∷ codes "take 1" ∷ codes "deinit 1" ∷ []))
unfolding run_of types_declared digits
used_after_consumed_runs = refl

-- `q` is consumed, and then its property is assigned
abbrev pub written_below : Program
written_below = with_file 6 (
    body_with body.Deinitializer (Some 1) (7 ∷ []) type.Unit (say 1 (w 2 (codes "held") ∷ []) ∷ [])
    ∷ main_body (
    let_in (node 1) 8 (call (at 2 pair) (target.Memberwise 1) (exps (new 3 (i 4 1) ∷ [])) (passing.Consume ∷ []))
    ∷ ignore (node 5) (p 6 pair 8 []) ∷ assign (node 7) (path_at 8 (type.Named 0) 8 (0 ∷ [])) (new 9 (i 10 2)) ∷ []) ∷ [])
    (bound (codes "self") pair mode.SelfDeinit 5 ∷ bound (codes "q") pair mode.Var 6 ∷ [])

-- To write below a hole is wrong.
written_below_runs : answer held_types written_below [] 30
    ≡ (Wrong, lines (codes "open 1" ∷ codes "held" ∷ codes "deinit 1" ∷ codes "open 2" ∷ []))
unfolding run_of types_declared digits
written_below_runs = refl

abbrev pub taken_out_of : Program
taken_out_of = with_file 6 (
    body_with body.Deinitializer (Some 1) (7 ∷ []) type.Unit (say 1 (w 2 (codes "held") ∷ []) ∷ [])
    ∷ main_body (
    let_in (node 1) 8 (call (at 2 pair) (target.Memberwise 1) (exps (new 3 (i 4 1) ∷ [])) (passing.Consume ∷ []))
    ∷ take_ 5 (p 6 (type.Named 0) 8 (0 ∷ [])) ∷ []) ∷ [])
    (bound (codes "self") pair mode.SelfDeinit 5 ∷ bound (codes "q") pair mode.Var 6 ∷ [])

-- A struct with a `deinit` and with a hole is wrong to destroy.
taken_out_of_runs : answer held_types taken_out_of [] 30
    ≡ (Wrong, lines (codes "open 1" ∷ codes "take 1" ∷ codes "deinit 1" ∷ []))
unfolding run_of types_declared digits
taken_out_of_runs = refl

abbrev pub made_without : Program
made_without = with_file 6 (
    body_with body.Initializer (Some 0) (7 ∷ []) type.Unit (say 1 (w 2 (codes "made") ∷ []) ∷ [])
    ∷ main_body (let_in (node 1) 8 (call (at 2 (type.Named 0)) (target.Init 5) (exps []) []) ∷ []) ∷ [])
    (bound (codes "self") (type.Named 0) mode.SelfInit 5 ∷ local_file (codes "f") 6 ∷ [])

-- An `init` that returns a hole is wrong.
made_without_runs : answer file_types made_without [] 30
    ≡ (Wrong, lines (codes "made" ∷ []))
unfolding run_of types_declared digits
made_without_runs = refl

abbrev pub two_end : Program
two_end = with_file 5 (main_body (let_in (node 1) 7 (new 2 (i 3 1)) ∷ let_in (node 4) 8 (new 5 (i 6 2)) ∷ []) ∷ [])
    (local_file (codes "a") 5 ∷ local_file (codes "b") 5 ∷ [])

-- The last binding of a scope ends first.
two_end_run : answer file_types two_end [] 30
    ≡ (Ended, lines (codes "open 1" ∷ codes "open 2" ∷ codes "deinit 2" ∷ codes "deinit 1" ∷ []))
unfolding run_of types_declared digits
two_end_run = refl
