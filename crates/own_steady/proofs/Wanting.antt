-- Programs that stray, each for want of one part of what a steady program keeps to.
use Rattle.std.specs.Prelude.{◌≡◌, ℕ, Bool, true, List, [], ◌∷◌, ◌++◌, Some, None, codes, pos}
use Rattle.std.proofs.Common.{refl}
use Rattle.own_tree.specs.declared.arithmetic.Arith.TheVariants as arith
use Rattle.own_tree.specs.declared.place.Mode.TheVariants as mode
use Rattle.own_tree.specs.declared.place.Ty.{Ty}
use Rattle.own_tree.specs.declared.place.Ty.TheVariants as type
use Rattle.own_tree.specs.declared.typed.BodyKind.TheVariants as kind
use Rattle.own_tree.specs.declared.typed.Comparison.TheVariants as compare
use Rattle.own_tree.specs.declared.typed.Passing.TheVariants as passing
use Rattle.own_tree.specs.declared.typed.Target.TheVariants as target
use Rattle.own_tree.specs.Source.{enum_of, cases}
use Rattle.own_tree.specs.TypedSource.{bind, of_case, of_number, pat, no_pats, TExp, truth, arithmetic, wrapping, compared, member, call, case_of, assign, let_in, switch, discard_self, leave, clause, no_clauses, TPats, TBody, Program}
use Rattle.own_shapes.specs.Types.{Types, types_declared}
use Rattle.own_runs.specs.Run.{run_to, start}
use Rattle.own_runs.proofs.MoreRows.{no_types}
use Rattle.own_runs.proofs.Spelled.{sp, node, at, name_at, in_place, path_at, p, i, v, w, exps, stms, do_, say, case_with, types_with, bound, body_with, function_body, main_body, alone, with_file, file_bodies, new, take_, f, file_, file_types, local_file, local_int}
use Rattle.own_steady.specs.Programs.{is_astray}

abbrev strays : Types → Program → Bool
strays types program = is_astray (run_to types program 10 program.main None [] 0 (start [] 9))

abbrev after_first : List TBody → List TBody
after_first [] = []
after_first (b ∷ bs) = bs

-- ---- names and places

-- `print(x); let x = 1`: a name is seen behind its declaration
before_it_is_made :
    strays no_types (alone (main_body (say 1 (v 2 0 [] ∷ []) ∷ let_in (node 3) 0 (i 4 1) ∷ []) ∷ []) (local_int (codes "x") 0 ∷ [])) ≡ true
unfolding types_declared
before_it_is_made = refl

-- `let x = 1; print(x)`, where x is a binding of another body
of_another_body :
    strays no_types (alone (main_body (let_in (node 1) 0 (i 2 1) ∷ say 3 (v 4 0 [] ∷ []) ∷ []) ∷ []) (local_int (codes "x") 5 ∷ [])) ≡ true
unfolding types_declared
of_another_body = refl

-- `let x = 1; x.a`: an `Int` has no property
no_such_property :
    strays no_types (alone (main_body (let_in (node 1) 0 (i 2 1) ∷ do_ (p 3 type.Unit 0 (0 ∷ [])) ∷ []) ∷ []) (local_int (codes "x") 0 ∷ [])) ≡ true
unfolding types_declared
no_such_property = refl

-- `init(..) { self.fd = 1; take(self) }`: `self` of an `init` has no number, and is destroyed
whole_self_in_init :
    strays file_types (record (with_file 5 (main_body (do_ (new 1 (i 2 1)) ∷ []) ∷ []) []) {
      bodies =
          body_with kind.Initializer (Some 0) (0 ∷ 1 ∷ []) type.Unit
          (assign (node 1) (path_at 2 type.Int 0 (0 ∷ [])) (v 3 1 []) ∷ take_ 4 (f 5 0) ∷ [])
          ∷ after_first file_bodies ++ main_body (do_ (new 1 (i 2 1)) ∷ []) ∷ [];
    }) ≡ true
unfolding types_declared
whole_self_in_init = refl

-- ---- nodes

-- `print(File(1).fd)` where the call and the field have one number: the number of the field stands where the file waited
one_number_twice :
    strays file_types (with_file 5 (main_body (say 1 (member (at 3 type.Int) (new 3 (i 4 1)) 0 ∷ []) ∷ []) ∷ []) []) ≡ true
unfolding types_declared
one_number_twice = refl

-- ---- values

-- a text that nothing prints
text_as_value : strays no_types (alone (main_body (do_ (w 1 (codes "a")) ∷ []) ∷ []) []) ≡ true
unfolding types_declared
text_as_value = refl

-- `print(File(1))`
printed_struct : strays file_types (with_file 5 (main_body (say 1 (new 3 (i 4 1) ∷ []) ∷ []) ∷ []) []) ≡ true
unfolding types_declared
printed_struct = refl

-- a division that wraps
wrapping_division : strays no_types (alone (main_body (say 1 (wrapping (at 2 type.Int) arith.Div (i 3 1) (i 4 1) ∷ []) ∷ []) ∷ []) []) ≡ true
unfolding types_declared
wrapping_division = refl

-- `true < true`
ordered_truths :
    strays no_types (alone (main_body (say 1 (compared (at 2 type.Bool) compare.Less (truth (at 3 type.Bool) true) (truth (at 4 type.Bool) true) ∷ []) ∷ []) ∷ []) []) ≡ true
unfolding types_declared
ordered_truths = refl

-- ---- enums and patterns

abbrev enum_type : Ty
enum_type = type.Named 0

-- `enum E: ~Copyable { case none, one(Int) }`
abbrev enum_types : Types
enum_types = types_with (enum_of (sp 0) (name_at (codes "E")) true (cases (sp 0) (case_with (codes "none") [] ∷ case_with (codes "one") (codes "Int" ∷ []) ∷ []) ∷ []) ∷ [])

abbrev none_pattern : TPats → TPats
none_pattern ps = pat (of_case 0 no_pats) ps

abbrev one_pattern : ℕ → TPats
one_pattern x = pat (of_case 1 (pat (bind x) no_pats)) no_pats

-- `E()`, as if an enum were made of its properties
enum_of_properties :
    strays enum_types (alone (main_body (
    switch (node 1) (call (at 2 enum_type) (target.Memberwise 0) (exps []) []) (clause (sp 0) (case_of (none_pattern no_pats)) (stms []) no_clauses) ∷ []) ∷ []) []) ≡ true
unfolding types_declared
enum_of_properties = refl

-- `switch true { case 1: }`
number_for_truth :
    strays no_types (alone (main_body (
    switch (node 1) (truth (at 2 type.Bool) true) (clause (sp 0) (case_of (pat (of_number (pos 1)) no_pats)) (stms []) no_clauses) ∷ []) ∷ []) []) ≡ true
unfolding types_declared
number_for_truth = refl

-- a pattern that binds what no pattern may bind
abbrev one_of : TExp
one_of = call (at 2 enum_type) (target.Case 0 1) (exps (i 3 7 ∷ [])) (passing.ByValue ∷ [])

bound_as_variable :
    strays enum_types (alone (main_body (
    switch (node 1) one_of (clause (sp 0) (case_of (one_pattern 0)) (stms []) no_clauses) ∷ []) ∷ []) (local_int (codes "n") 0 ∷ [])) ≡ true
unfolding types_declared
bound_as_variable = refl

-- `switch E.none { case .none, .one(let n): print(n) }`: the first of the patterns binds no name
other_names :
    strays enum_types (alone (main_body (
    switch (node 1) (call (at 2 enum_type) (target.Case 0 0) (exps []) [])
    (clause (sp 0) (case_of (none_pattern (one_pattern 0))) (stms (say 4 (v 5 0 [] ∷ []) ∷ [])) no_clauses) ∷ []) ∷ [])
    (bound (codes "n") type.Int mode.PatternOwned 0 ∷ [])) ≡ true
unfolding types_declared
other_names = refl

-- ---- statements and bodies

-- `break` in no loop
jump_out_of_nothing : strays no_types (alone (main_body (leave (node 1) ∷ []) ∷ []) []) ≡ true
unfolding types_declared
jump_out_of_nothing = refl

-- `discard` of an `Int`
discarded_number : strays no_types (alone (main_body (let_in (node 1) 0 (i 2 1) ∷ discard_self (node 3) (in_place 0 []) ∷ []) ∷ []) (local_int (codes "x") 0 ∷ [])) ≡ true
unfolding types_declared
discarded_number = refl

-- `func f() -> Int { true }` and `print(f() + 1)`
other_result :
    strays no_types (alone (
    main_body (say 1 (arithmetic (at 2 type.Int) arith.Add (sp 0) (call (at 3 type.Int) (target.Function 1) (exps []) []) (i 4 1) ∷ []) ∷ [])
    ∷ function_body [] type.Int (do_ (truth (at 1 type.Bool) true) ∷ []) ∷ []) []) ≡ true
unfolding types_declared
other_result = refl

-- `let x = File(fd: 1)` of a type whose `deinit` is no body
without_deinit :
    strays file_types (alone (main_body (let_in (node 1) 0 (call (at 2 file_) (target.Memberwise 0) (exps (i 3 1 ∷ [])) (passing.ByValue ∷ [])) ∷ []) ∷ [])
    (local_file (codes "x") 0 ∷ [])) ≡ true
unfolding types_declared
without_deinit = refl

-- `func main(_ x: Int) { }`
main_with_parameter : strays no_types (alone (function_body (0 ∷ []) type.Unit [] ∷ []) (bound (codes "x") type.Int mode.Plain 0 ∷ [])) ≡ true
unfolding types_declared
main_with_parameter = refl
