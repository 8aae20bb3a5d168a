-- Worked programs with enums, numbers and levels, run.
use Rattle.std.specs.Prelude.{◌≡◌, refl, ℕ, ℤ, pos, neg_ℤ, true, false, List, [], ◌∷◌, Some, None, codes}
use Rattle.std.specs.Fmt.{digits}
use Rattle.std.specs.Int.{int_wrap}
use Rattle.own_tree.specs.declared.arithmetic.Arith.TheVariants as arith_of
use Rattle.own_tree.specs.declared.place.Mode.TheVariants as mode
use Rattle.own_tree.specs.declared.place.Ty.{Ty}
use Rattle.own_tree.specs.declared.place.Ty.TheVariants as type
use Rattle.own_tree.specs.declared.tree.RangeOperator.TheVariants as range
use Rattle.own_tree.specs.declared.typed.BodyKind.TheVariants as body
use Rattle.own_tree.specs.declared.typed.Comparison.TheVariants as compare
use Rattle.own_tree.specs.declared.typed.Passing.TheVariants as passing
use Rattle.own_tree.specs.declared.typed.Target.TheVariants as target
use Rattle.own_tree.specs.Source.{enum_of, cases, struct_of}
use Rattle.own_tree.specs.TypedSource.{bind, any, of_case, pat, no_pats, TExp, truth, arithmetic, wrapping, compared, call, member, parenthesized, consumed, case_of, case_where, default, let_in, ignore, update, discard_self, if_then, if_else, loop_while, loop_repeat, loop_for, leave, go_on, switch, return_value, clause, no_clauses, TBody, Program, function, closure, choice, assign}
use Rattle.own_shapes.specs.Types.{Types, types_declared}
use Rattle.own_runs.specs.Run.{Outcome, Ended, Trapped, Cut, behaviour, output, run_of, run_to, start}
use Rattle.own_runs.proofs.Spelled.{answer, traced_answer, lines, sp, node, at, in_place, path_at, p, i, v, w, exps, stms, blk, do_, say, read_int, equal, has, ends, name_at, case_with, noncopyable_struct, types_with, bound, body_with, function_body, main_body, file_decl, with_file, alone, new, f, fd, file_types, local_file, local_int}

-- ---- a consuming `switch`

abbrev pub slot : Ty
slot = type.Named 1

abbrev pub slot_types : Types
slot_types = types_with (file_decl ∷ enum_of (sp 0) (name_at (codes "Slot")) true (cases (sp 0) (
    case_with (codes "none") [] ∷ case_with (codes "one") (codes "File" ∷ []) ∷ case_with (codes "two") (codes "File" ∷ codes "File" ∷ []) ∷ []) ∷ []) ∷ [])

-- its first clause asks whether the `fd` of the first file is above a number
abbrev pub two_in_a_slot : ℕ → Program
two_in_a_slot above = with_file 6 (
    function_body (7 ∷ []) type.Bool (do_ (compared (at 1 type.Bool) compare.Greater (fd 2 7) (i 3 above)) ∷ [])
    ∷ main_body (
    let_in (node 1) 8 (call (at 2 slot) (target.Case 1 2) (exps (new 3 (i 4 1) ∷ new 5 (i 6 2) ∷ [])) (passing.Consume ∷ passing.Consume ∷ []))
    ∷ switch (node 7) (consumed (at 8 slot) (path_at 9 slot 8 [])) (
    clause (sp 0) (case_where (of_case 2 (pat (bind 9) (pat any no_pats))) (call (at 10 type.Bool) (target.Function 5) (exps (f 11 9 ∷ [])) (passing.Borrow ∷ [])))
    (stms (say 12 (w 13 (codes "big") ∷ fd 14 10 ∷ []) ∷ []))
    (clause (sp 0) (case_of (pat (of_case 2 (pat any (pat (bind 11) no_pats))) no_pats)) (stms (say 15 (w 16 (codes "small") ∷ fd 17 11 ∷ []) ∷ []))
    (clause (sp 0) default (stms (say 18 (w 19 (codes "other") ∷ []) ∷ [])) no_clauses)))
    ∷ say 20 (w 21 (codes "done") ∷ []) ∷ []) ∷ [])
    (bound (codes "f") (type.Named 0) mode.Borrowing 5 ∷ bound (codes "e") slot mode.Let 6
    ∷ bound (codes "a") (type.Named 0) mode.PatternBorrowed 6 ∷ bound (codes "a") (type.Named 0) mode.PatternOwned 6
    ∷ bound (codes "b") (type.Named 0) mode.PatternOwned 6 ∷ [])

-- The guard fails; the second clause takes one part, and the other is destroyed before its body (SE-0432).
second_clause_runs : answer slot_types (two_in_a_slot 5) [] 30
    ≡ (Ended, lines (codes "open 1" ∷ codes "open 2" ∷ codes "deinit 1" ∷ codes "small 2" ∷ codes "deinit 2" ∷ codes "done" ∷ []))
unfolding run_of types_declared digits
second_clause_runs = refl

-- The guard holds.
first_clause_runs : traced_answer slot_types (two_in_a_slot 0) [] 30
    ≡ (Ended, lines (codes "open 1" ∷ codes "made File #1" ∷ codes "open 2" ∷ codes "made File #2" ∷ codes "used File #1" ∷ codes "deinit 2" ∷ codes "ended File #2 by deinit" ∷ codes "big 1" ∷ codes "deinit 1" ∷ codes "ended File #1 by deinit" ∷ codes "done" ∷ []))
unfolding run_of types_declared digits
first_clause_runs = refl

-- an enum that ends with its scope
abbrev pub slot_ends : Program
slot_ends = with_file 5 (
    main_body (let_in (node 1) 7 (call (at 2 slot) (target.Case 1 2) (exps (new 3 (i 4 1) ∷ new 5 (i 6 2) ∷ [])) (passing.Consume ∷ passing.Consume ∷ [])) ∷ []) ∷ [])
    (bound (codes "e") slot mode.Let 5 ∷ [])

-- The payloads of the present case are destroyed in order.
slot_ends_runs : answer slot_types slot_ends [] 30
    ≡ (Ended, lines (codes "open 1" ∷ codes "open 2" ∷ codes "deinit 1" ∷ codes "deinit 2" ∷ []))
unfolding run_of types_declared digits
slot_ends_runs = refl

-- ---- numbers

abbrev pub remainder : Program
remainder = alone (main_body (
    let_in (node 1) 0 (read_int 2) ∷ let_in (node 3) 1 (read_int 4) ∷ say 5 (arithmetic (at 6 type.Int) arith_of.Rem (sp 64) (v 7 0 []) (v 8 1 []) ∷ []) ∷ []) ∷ [])
    (local_int (codes "a") 0 ∷ local_int (codes "b") 0 ∷ [])

abbrev pub no_types : Types
no_types = types_with []

-- A remainder has the sign of the dividend.
remainder_runs : answer no_types remainder (neg_ℤ (pos 7) ∷ pos 2 ∷ []) 9
    ≡ (Ended, lines (codes "-1" ∷ []))
unfolding run_of types_declared digits
remainder_runs = refl

-- The least number has no quotient by -1, and so no remainder.
remainder_overflows : answer no_types remainder (neg_ℤ (pos 9223372036854775808) ∷ neg_ℤ (pos 1) ∷ []) 9
    ≡ (Trapped 1 64, [])
unfolding run_of types_declared digits
remainder_overflows = refl

-- by zero
remainder_by_zero : answer no_types remainder (pos 5 ∷ pos 0 ∷ []) 9
    ≡ (Trapped 2 64, [])
unfolding run_of types_declared digits
remainder_by_zero = refl

-- Past its end the input gives 0.
input_ends : answer no_types remainder (pos 5 ∷ []) 9
    ≡ (Trapped 2 64, [])
unfolding run_of types_declared digits
input_ends = refl

abbrev pub largest : ℕ → TExp
largest n = i n 9223372036854775807

abbrev pub says : List TExp → Program
says es = alone (main_body (say 1 es ∷ []) ∷ []) []

-- `&+` wraps, and truths are spelled.
sum_wraps : answer no_types (says (wrapping (at 2 type.Int) arith_of.Add (largest 3) (i 4 1) ∷ equal 5 (truth (at 6 type.Bool) true) (truth (at 7 type.Bool) false) ∷ [])) [] 9
    ≡ (Ended, lines (codes "-9223372036854775808 false" ∷ []))
unfolding run_of types_declared digits int_wrap
sum_wraps = refl

-- All items of a `print` are evaluated before it writes.
items_before_line : answer no_types (says (i 2 1 ∷ arithmetic (at 3 type.Int) arith_of.Add (sp 30) (largest 4) (i 5 1) ∷ [])) [] 9
    ≡ (Trapped 1 30, [])
unfolding run_of types_declared digits
items_before_line = refl

abbrev pub counts : (low high : TExp) → Program
counts low high = alone (main_body (loop_for (node 1) (Some 0) low range.Closed (sp 20) high (blk (say 2 (v 3 0 [] ∷ []) ∷ [])) ∷ []) ∷ [])
    (bound (codes "i") type.Int mode.Turn 0 ∷ [])

-- `...` reaches the largest number.
counts_to_largest : answer no_types (counts (i 4 9223372036854775806) (largest 5)) [] 9
    ≡ (Ended, lines (codes "9223372036854775806" ∷ codes "9223372036854775807" ∷ []))
unfolding run_of types_declared digits
counts_to_largest = refl

-- A range that ends before it begins traps.
counts_backwards : answer no_types (counts (i 4 2) (i 5 1)) [] 9
    ≡ (Trapped 4 20, [])
unfolding run_of types_declared digits
counts_backwards = refl

-- ---- turns and levels

abbrev pub down : Program
down = record {
  bodies =
      function_body (0 ∷ []) type.Unit (
      say 1 (v 2 0 [] ∷ [])
      ∷ if_then (node 3) (compared (at 4 type.Bool) compare.Greater (v 5 0 []) (i 6 1)) (blk (
      do_ (call (node 7) (target.Function 0) (exps (arithmetic (at 8 type.Int) arith_of.Sub (sp 8) (v 9 0 []) (i 10 1) ∷ [])) (passing.ByValue ∷ [])) ∷ [])) ∷ [])
      ∷ main_body (do_ (call (node 1) (target.Function 0) (exps (read_int 2 ∷ [])) (passing.ByValue ∷ [])) ∷ []) ∷ [];
  bindings = bound (codes "n") type.Int mode.Plain 0 ∷ [];
  signatures = [];
  main = 1;
  tokens = 0;
}

-- a call inside a call
down_runs : answer no_types down (pos 3 ∷ []) 9
    ≡ (Ended, lines (codes "3" ∷ codes "2" ∷ codes "1" ∷ []))
unfolding run_of types_declared digits
down_runs = refl

-- the same with `main` at a level above a number of levels
abbrev pub from_level : Types → Program → ℕ → List ℤ → Outcome × List ℕ
from_level types program level input = let b = behaviour (run_to types program 20 program.main None [] level (start input 19)) in (b.outcome, output b)

-- Three calls reach level 1,000.
down_to_the_last_level : from_level no_types down 996 (pos 3 ∷ [])
    ≡ (Ended, lines (codes "3" ∷ codes "2" ∷ codes "1" ∷ []))
unfolding run_of types_declared digits
down_to_the_last_level = refl

-- One more is too many, and what was printed stands.
down_too_far : from_level no_types down 996 (pos 4 ∷ [])
    ≡ (Trapped 3 0, lines (codes "4" ∷ codes "3" ∷ codes "2" ∷ []))
unfolding run_of types_declared digits
down_too_far = refl

abbrev pub one_file : Program
one_file = with_file 5 (main_body (let_in (node 1) 7 (new 2 (i 3 1)) ∷ []) ∷ []) (local_file (codes "f") 5 ∷ [])

-- The leaf that is destroyed is a level, and its `deinit` one more.
destroyed_at_the_last_level : from_level file_types one_file 997 []
    ≡ (Ended, lines (codes "open 1" ∷ codes "deinit 1" ∷ []))
unfolding run_of types_declared digits
destroyed_at_the_last_level = refl

-- So that of `main` at level 999 has none left.
destroyed_too_far : from_level file_types one_file 998 []
    ≡ (Trapped 3 0, lines (codes "open 1" ∷ []))
unfolding run_of types_declared digits
destroyed_too_far = refl

abbrev pub forever : Program
forever = alone (main_body (loop_while (node 1) (truth (at 2 type.Bool) true) (blk (say 3 (i 4 1 ∷ []) ∷ [])) ∷ []) ∷ []) []

-- A loop without an end is cut where its turns are used up.
forever_cut : answer no_types forever [] 4
    ≡ (Cut, lines (codes "1" ∷ codes "1" ∷ codes "1" ∷ []))
unfolding run_of types_declared digits
forever_cut = refl

-- ---- `discard self`

abbrev pub key : Ty
key = type.Named 0

abbrev pub key_types : Types
key_types = types_with (noncopyable_struct (codes "Key") (has (codes "n") (codes "Int") ∷ ends ∷ []) ∷ [])

abbrev pub key_deinit : ℕ → TBody
key_deinit self = body_with body.Deinitializer (Some 0) (self ∷ []) type.Unit (say 1 (w 2 (codes "key") ∷ v 3 self (0 ∷ []) ∷ []) ∷ [])

abbrev pub new_key : ℕ → TExp
new_key n = call (at n key) (target.Memberwise 0) (exps (i 90 4 ∷ [])) (passing.ByValue ∷ [])

abbrev pub dropped : Program
dropped = record {
  bodies =
      body_with body.Method (Some 0) (0 ∷ 1 ∷ []) type.Unit (
      if_else (node 1) (p 2 type.Bool 1 []) (blk (discard_self (node 3) (in_place 0 []) ∷ []))
      (blk (ignore (node 4) (consumed (at 5 key) (path_at 6 key 0 [])) ∷ [])) ∷ [])
      ∷ key_deinit 2
      ∷ main_body (do_ (call (node 1) (target.Method 0) (exps (new_key 2 ∷ equal 3 (read_int 4) (i 5 1) ∷ [])) (passing.Consume ∷ passing.ByValue ∷ [])) ∷ [])
      ∷ [];
  bindings = bound (codes "self") key mode.SelfConsuming 0 ∷ bound (codes "c") type.Bool mode.Plain 0 ∷ bound (codes "self") key mode.SelfDeinit 1 ∷ [];
  signatures = [];
  main = 2;
  tokens = 0;
}

-- A discarded value has no `deinit` (SE-0390).
discarded : traced_answer key_types dropped (pos 1 ∷ []) 9
    ≡ (Ended, lines (codes "made Key #1" ∷ codes "ended Key #1 by discard" ∷ []))
unfolding run_of types_declared digits
discarded = refl

-- It prints nothing.
discarded_plain : answer key_types dropped (pos 1 ∷ []) 9
    ≡ (Ended, [])
unfolding run_of types_declared digits
discarded_plain = refl

-- `_ =` destroys what it takes at once.
ignored : answer key_types dropped (pos 0 ∷ []) 9
    ≡ (Ended, lines (codes "key 4" ∷ []))
unfolding run_of types_declared digits
ignored = refl

-- ---- a borrowing `switch`

abbrev pub shown : Program
shown = record {
  bodies =
      body_with body.Method (Some 0) (0 ∷ []) type.Unit (
      switch (node 1) (p 2 key 0 []) (clause (sp 0) (case_of (pat (bind 1) no_pats)) (stms (say 3 (v 4 1 (0 ∷ []) ∷ []) ∷ [])) no_clauses) ∷ [])
      ∷ key_deinit 2
      ∷ main_body (do_ (call (node 1) (target.Method 0) (exps (new_key 2 ∷ [])) (passing.Consume ∷ [])) ∷ []) ∷ [];
  bindings = bound (codes "self") key mode.SelfConsuming 0 ∷ bound (codes "k") key mode.PatternBorrowed 0 ∷ bound (codes "self") key mode.SelfDeinit 1 ∷ [];
  signatures = [];
  main = 2;
  tokens = 0;
}

-- The name of a pattern stands for the borrowed subject (SE-0432).
shown_runs : answer key_types shown [] 9
    ≡ (Ended, lines (codes "4" ∷ codes "key 4" ∷ []))
unfolding run_of types_declared digits
shown_runs = refl

-- ---- values on their way

-- A function that makes two keys and returns the first; `main` reads a property of what it returns.
abbrev pub handed_out : Program
handed_out = record {
  bodies =
      function_body [] key (let_in (node 1) 0 (new_key 2) ∷ let_in (node 3) 1 (new_key 4) ∷ return_value (node 5) (p 6 key 0 []) ∷ [])
      ∷ key_deinit 2
      ∷ main_body (say 1 (member (at 2 type.Int) (call (at 3 key) (target.Function 0) (exps []) []) 0 ∷ []) ∷ []) ∷ [];
  bindings = bound (codes "a") key mode.Let 0 ∷ bound (codes "b") key mode.Let 0 ∷ bound (codes "self") key mode.SelfDeinit 1 ∷ [];
  signatures = [];
  main = 2;
  tokens = 0;
}

-- The result waits while the scope ends, and the temporary ends when its property is read.
handed_out_runs : traced_answer key_types handed_out [] 9
    ≡ (Ended, lines (codes "made Key #1" ∷ codes "made Key #2" ∷ codes "key 4" ∷ codes "ended Key #2 by deinit" ∷ codes "key 4" ∷ codes "ended Key #1 by deinit" ∷ codes "4" ∷ []))
unfolding run_of types_declared digits
handed_out_runs = refl

abbrev pub pair : Ty
pair = type.Named 0

abbrev pub box : Ty
box = type.Named 1

abbrev pub box_types : Types
box_types = types_with (
    struct_of (sp 0) (name_at (codes "Pair")) false (has (codes "x") (codes "Int") ∷ has (codes "y") (codes "Int") ∷ [])
    ∷ noncopyable_struct (codes "Box") (has (codes "pair") (codes "Pair") ∷ ends ∷ []) ∷ [])

-- `print("at", ((Box(pair: Pair(x: 1, y: 2))).pair).y)`
abbrev pub opened_at_once : Program
opened_at_once = alone (
    main_body (say 1 (
    w 2 (codes "at")
    ∷ member (at 3 type.Int) (parenthesized (at 4 pair) (member (at 5 pair) (parenthesized (at 6 box) (
    call (at 7 box) (target.Memberwise 1) (exps (
    call (at 8 pair) (target.Memberwise 0) (exps (i 9 1 ∷ i 10 2 ∷ [])) (passing.ByValue ∷ passing.ByValue ∷ []) ∷ [])) (passing.ByValue ∷ []))) 0)) 1
    ∷ []) ∷ [])
    ∷ body_with body.Deinitializer (Some 1) (0 ∷ []) type.Unit (say 1 (w 2 (codes "gone") ∷ []) ∷ []) ∷ [])
    (bound (codes "self") box mode.SelfDeinit 1 ∷ [])

-- A temporary ends when its property is read, before the property of that one is, and before anything is written.
opened_runs : answer box_types opened_at_once [] 9
    ≡ (Ended, lines (codes "gone" ∷ codes "at 2" ∷ []))
unfolding run_of types_declared digits
opened_runs = refl

-- ---- jumps

abbrev pub skips : Program
skips = alone (main_body (
    let_in (node 1) 0 (i 2 0)
    ∷ loop_repeat (node 3) (blk (
    update (node 4) (path_at 5 type.Int 0 []) arith_of.Add (sp 4) (i 6 1)
    ∷ if_then (node 7) (equal 8 (v 9 0 []) (i 10 2)) (blk (go_on (node 11) ∷ []))
    ∷ if_then (node 12) (equal 13 (v 14 0 []) (i 15 5)) (blk (leave (node 16) ∷ []))
    ∷ say 17 (v 18 0 [] ∷ []) ∷ [])) (compared (at 19 type.Bool) compare.Less (v 20 0 []) (i 21 9)) ∷ []) ∷ [])
    (local_int (codes "i") 0 ∷ [])

-- `continue` goes to the condition, and `break` leaves the loop.
skips_run : answer no_types skips [] 9
    ≡ (Ended, lines (codes "1" ∷ codes "3" ∷ codes "4" ∷ []))
unfolding run_of types_declared digits
skips_run = refl

-- ---- closures and receivers

-- A closure is passed on by one function to another, which calls it twice.
abbrev pub passed_on : Program
passed_on = record {
  bodies =
      function_body (0 ∷ []) type.Unit (
      do_ (call (node 1) (target.Closure 0) (exps []) []) ∷ do_ (call (node 2) (target.Closure 0) (exps []) []) ∷ [])
      ∷ function_body (1 ∷ []) type.Unit (
      do_ (call (node 1) (target.Function 0) (exps (function (at 2 (type.Fun 0)) 1 ∷ [])) (passing.Closure ∷ [])) ∷ [])
      ∷ main_body (
      let_in (node 1) 2 (i 2 3)
      ∷ do_ (call (node 3) (target.Function 1) (exps (closure (at 4 (type.Fun 0)) 3 ∷ [])) (passing.Closure ∷ []))
      ∷ say 5 (v 6 2 [] ∷ []) ∷ [])
      ∷ body_with (body.Closure 2) None [] type.Unit (
      assign (node 1) (path_at 2 type.Int 2 []) (arithmetic (at 3 type.Int) arith_of.Mul (sp 3) (v 4 2 []) (i 5 2)) ∷ []) ∷ [];
  bindings = bound (codes "body") (type.Fun 0) mode.Closure 0 ∷ bound (codes "body") (type.Fun 0) mode.Closure 1 ∷ local_int (codes "n") 2 ∷ [];
  signatures = [];
  main = 2;
  tokens = 0;
}

-- It changes the captured binding of the activation that made it.
passed_on_runs : answer no_types passed_on [] 9
    ≡ (Ended, lines (codes "12" ∷ []))
unfolding run_of types_declared digits
passed_on_runs = refl

abbrev pub counter : Ty
counter = type.Named 0

abbrev pub counter_types : Types
counter_types = types_with (struct_of (sp 0) (name_at (codes "Counter")) false (has (codes "n") (codes "Int") ∷ []) ∷ [])

abbrev pub counted : Program
counted = record {
  bodies =
      body_with body.Method (Some 0) (0 ∷ 1 ∷ []) type.Unit (update (node 1) (path_at 2 type.Int 0 (0 ∷ [])) arith_of.Add (sp 1) (v 3 1 []) ∷ [])
      ∷ main_body (
      let_in (node 1) 2 (call (at 2 counter) (target.Memberwise 0) (exps (i 3 1 ∷ [])) (passing.ByValue ∷ []))
      ∷ let_in (node 4) 3 (p 5 counter 2 [])
      ∷ do_ (call (node 6) (target.Method 0) (exps (p 7 counter 2 [] ∷ i 8 4 ∷ [])) (passing.Inout ∷ passing.ByValue ∷ []))
      ∷ say 9 (choice (at 10 type.Int) (equal 11 (v 12 2 (0 ∷ [])) (i 13 5)) (v 14 3 (0 ∷ [])) (i 15 9) ∷ v 16 2 (0 ∷ []) ∷ []) ∷ []) ∷ [];
  bindings =
      bound (codes "self") counter mode.SelfMutating 0 ∷ bound (codes "k") type.Int mode.Plain 0 ∷ bound (codes "c") counter mode.Var 1
      ∷ bound (codes "d") counter mode.Let 1 ∷ [];
  signatures = [];
  main = 1;
  tokens = 0;
}

-- A mutating method changes its receiver, and no copy of it.
counted_runs : answer counter_types counted [] 9
    ≡ (Ended, lines (codes "1 5" ∷ []))
unfolding run_of types_declared digits
counted_runs = refl
