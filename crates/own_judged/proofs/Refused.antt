-- Texts of which a judgement is false, at least one for each.
use Rattle.std.specs.Prelude.{◌≡◌, ℕ, ◌^◌, Bool, true, false, List, [], ◌∷◌, Some, None, Err, codes}
use Rattle.std.proofs.Common.{refl}
use Rattle.own_tree.specs.declared.place.Ty.TheVariants as type
use Rattle.own_tree.specs.declared.tree.AssignOperator.TheVariants as assign
use Rattle.own_tree.specs.declared.tree.BinaryOperator.TheVariants as binary
use Rattle.own_tree.specs.declared.tree.Keyword.TheVariants as keyword
use Rattle.own_tree.specs.declared.tree.MethodMode.TheVariants as method_mode
use Rattle.own_tree.specs.declared.tree.Name.{Name}
use Rattle.own_tree.specs.declared.tree.Path.{Path}
use Rattle.own_tree.specs.declared.tree.Root.TheVariants as root
use Rattle.own_tree.specs.Source as tree
use Rattle.own_tree.specs.Source.{Exp, Stm, Decl, Member, File}
use Rattle.own_tree.specs.TypedSource as typed
use Rattle.own_tree.specs.TypedSource.{TPat}
use Rattle.own_tree.specs.TypedSource.{Program}
use Rattle.own_shapes.specs.Types.{types_of, types_declared}
use Rattle.own_judging.specs.Coverage.{first_missing}
use Rattle.own_judging.specs.Made.{broken, uncovered}
use Rattle.own_judged.specs.Codes.{T10, T11, T12, T13, T14, T15, T16, T18, T19, T21, T22, T23, T24, T25, T26, T27, T28, T29, T31, T32}
use Rattle.own_judged.specs.Refusals.{form_text}
use Rattle.own_judged.specs.Typing.{typed as typed_text}
use Rattle.own_judged.proofs.Spelling.{span, span_to, name, path, number, call, block, let_in, function, main, parameter, file, only_main}
use Rattle.own_judged.proofs.Worked.{switching}

-- that judgement is false there
abbrev IsRefused : (code : ℕ) → ℕ → File → Type 0
IsRefused code n text = typed_text text ≡ Err (broken code (span n))

abbrev members_of : ℕ → List ℕ → Bool → List Member → Decl
members_of n t noncopyable ms = tree.struct_of (span n) (name n t) noncopyable ms

abbrev int_field : ℕ → List ℕ → Member
int_field n t = tree.field (record {
  span = span n;
  keyword = keyword.Var;
  name = name n t;
  written = name n (codes "Int");
})

abbrev path_of : ℕ → List ℕ → List Name → Path
path_of n t fields = record { span = span n; root = root.Named (name n t); fields = fields }

abbrev self_word : ℕ → Exp
self_word n = tree.path (record { span = span n; root = root.SelfWord (span n); fields = [] })

abbrev truth : ℕ → Exp
truth n = tree.truth (span n) true

-- A(n: 1), of a struct that has this property alone
abbrev construction : ℕ → Exp
construction n =
    tree.call (span n) (path n (codes "A"))
    (tree.arg (Some (name n (codes "n"))) (tree.value (number n 1)) tree.no_args)

-- print(x)
unknown_name : IsRefused T10 31 (only_main (tree.evaluate (call 30 (codes "print") (path 31 (codes "x"))) ∷ []))
unfolding typed_text types_of types_declared
unknown_name = refl

-- let x = 1; print(x.n)
unknown_member :
    IsRefused T11 33 (only_main (
    let_in 30 (codes "x") (number 31 1)
    ∷ tree.evaluate (call 32 (codes "print") (tree.path (path_of 32 (codes "x") (name 33 (codes "n") ∷ [])))) ∷ []))
unfolding typed_text types_of types_declared
unknown_member = refl

-- if 1 { }
type_differs : IsRefused T12 31 (only_main (tree.if_then (span 30) (number 31 1) (block 32 []) ∷ []))
unfolding typed_text types_of types_declared
type_differs = refl

-- func f(_ n: Int) { }; f(true)
arguments_differ :
    IsRefused T13 30 (file (
    function 10 (codes "f") (parameter 12 (codes "n") None (codes "Int") ∷ []) None []
    ∷ main (tree.evaluate (call 30 (codes "f") (truth 31)) ∷ []) ∷ []))
unfolding typed_text types_of types_declared
arguments_differ = refl

-- print(9223372036854775808)
out_of_range : IsRefused T14 31 (only_main (tree.evaluate (call 30 (codes "print") (number 31 (2 ^ 63))) ∷ []))
unfolding typed_text types_of types_declared
out_of_range = refl

-- let x = true + 1
operands :
    IsRefused T15 31 (only_main (
    let_in 30 (codes "x") (tree.binary (span 31) binary.Plus (span 32) (truth 31) (number 33 1)) ∷ []))
unfolding typed_text types_of types_declared
operands = refl

-- main = 1
not_a_place :
    IsRefused T16 30 (only_main (
    tree.assign (span 30) (path_of 30 (codes "main") []) assign.Plain (span 31) (number 32 1) ∷ []))
unfolding typed_text types_of types_declared
not_a_place = refl

-- return 1
return_value : IsRefused T18 30 (only_main (tree.return_value (span 30) (number 31 1) ∷ []))
unfolding typed_text types_of types_declared
return_value = refl

-- break
outside_a_loop : IsRefused T19 30 (only_main (tree.leave (span 30) ∷ []))
unfolding typed_text types_of types_declared
outside_a_loop = refl

-- a `switch` over a type with the cases none and one, whose one clause without a guard matches `.one`
none_is_missing :
    typed_text (switching tree.no_clauses)
    ≡ Err (uncovered (span_to 13 19) (type.Named 0) (typed.of_case 0 typed.no_pats))
unfolding typed_text types_of types_declared first_missing
none_is_missing = refl

-- its forms, as they are written
abbrev written_form : TPat → List ℕ
written_form p = form_text (types_of (switching tree.no_clauses)) (type.Named 0) p

none_is_written : written_form (typed.of_case 0 typed.no_pats) ≡ codes ".none"
unfolding types_of types_declared
none_is_written = refl

one_is_written : written_form (typed.of_case 1 (typed.pat typed.any typed.no_pats)) ≡ codes ".one(_)"
unfolding types_of types_declared
one_is_written = refl

-- switch 1 { case true: break }
pattern_does_not_fit :
    IsRefused T21 32 (only_main (
    tree.switch (span 30) (number 31 1)
    (tree.clause (span 32) (tree.case_of (tree.pat (tree.on_truth (span 32) true) tree.no_pats))
    (tree.stm (tree.leave (span 33)) tree.no_stms) tree.no_clauses) ∷ []))
unfolding typed_text types_of types_declared
pattern_does_not_fit = refl

-- discard self
discard : IsRefused T22 30 (only_main (tree.discard_self (span 30) ∷ []))
unfolding typed_text types_of types_declared
discard = refl

-- 1
unused_value : IsRefused T23 30 (only_main (tree.evaluate (number 30 1) ∷ []))
unfolding typed_text types_of types_declared
unused_value = refl

-- let f = main
function_as_value : IsRefused T24 31 (only_main (let_in 30 (codes "f") (path 31 (codes "main")) ∷ []))
unfolding typed_text types_of types_declared
function_as_value = refl

-- let x: Int
no_value :
    IsRefused T25 30 (only_main (
    tree.declare (span 30) keyword.Let (Some (name 31 (codes "x"))) (Some (name 32 (codes "Int"))) ∷ []))
unfolding typed_text types_of types_declared
no_value = refl

-- struct A { var n: Int; init() { let x = self } }
whole_self :
    IsRefused T26 31 (file (
    members_of 1 (codes "A") false (
    int_field 2 (codes "n")
    ∷ tree.initializer (span 3) [] (block 4 (let_in 30 (codes "x") (self_word 31) ∷ [])) ∷ [])
    ∷ main [] ∷ []))
unfolding typed_text types_of types_declared
whole_self = refl

-- struct A { var n: Int; mutating func m() { } }; A(n: 1).m()
part_of_temporary :
    IsRefused T27 30 (file (
    members_of 1 (codes "A") false (
    int_field 2 (codes "n")
    ∷ tree.method (span 3) (Some method_mode.Mutating)
    (record { span = span 3; name = name 4 (codes "m"); parameters = []; result = None; body = block 5 [] }) ∷ [])
    ∷ main (
    tree.evaluate (tree.call (span 30)
    (tree.member (span 30)
    (construction 30)
    (name 33 (codes "m"))) tree.no_args) ∷ []) ∷ []))
unfolding typed_text types_of types_declared
part_of_temporary = refl

-- struct A { var n: Int }; let a = A(n: 1); _ = consume a.n
consumed_part :
    IsRefused T28 35 (file (
    members_of 1 (codes "A") false (int_field 2 (codes "n") ∷ [])
    ∷ main (
    let_in 30 (codes "a") (construction 32)
    ∷ tree.ignore (span 35) None (tree.consumed (span 35) (path_of 36 (codes "a") (name 37 (codes "n") ∷ []))) ∷ [])
    ∷ []))
unfolding typed_text types_of types_declared
consumed_part = refl

-- let x = "a"
text_as_value : IsRefused T29 31 (only_main (let_in 30 (codes "x") (tree.text (span 31) (codes "a")) ∷ []))
unfolding typed_text types_of types_declared
text_as_value = refl

-- switch 1 { case 1, let n: break }
bound_twice :
    IsRefused T31 32 (only_main (
    tree.switch (span 30) (number 31 1)
    (tree.clause (span 32)
    (tree.case_of (tree.pat (tree.on_number (span 33) false 1)
    (tree.pat (tree.bind (span 34) (name 34 (codes "n"))) tree.no_pats)))
    (tree.stm (tree.leave (span 35)) tree.no_stms) tree.no_clauses) ∷ []))
unfolding typed_text types_of types_declared
bound_twice = refl

-- let x = main()
no_result :
    IsRefused T32 31 (only_main (
    let_in 30 (codes "x") (tree.call (span 31) (path 31 (codes "main")) tree.no_args) ∷ []))
unfolding typed_text types_of types_declared
no_result = refl
