-- Worked texts, with the programs that they become.
use Rattle.std.specs.Prelude.{◌≡◌, ℕ, pos, true, false, List, [], ◌∷◌, Some, None, Ok, codes}
use Rattle.std.proofs.Common.{refl}
use Rattle.own_tree.specs.declared.arithmetic.Arith.TheVariants as arithmetic
use Rattle.own_tree.specs.declared.place.Mode.TheVariants as mode
use Rattle.own_tree.specs.declared.place.Ty.TheVariants as type
use Rattle.own_tree.specs.declared.tree.BinaryOperator.TheVariants as binary
use Rattle.own_tree.specs.declared.tree.ClosureName.TheVariants as bound
use Rattle.own_tree.specs.declared.tree.PassingMode.TheVariants as passing_mode
use Rattle.own_tree.specs.declared.tree.Root.TheVariants as root
use Rattle.own_tree.specs.declared.typed.BodyKind.TheVariants as kind
use Rattle.own_tree.specs.declared.typed.Comparison.TheVariants as compare
use Rattle.own_tree.specs.declared.typed.Passing.TheVariants as passing
use Rattle.own_tree.specs.declared.typed.Target.TheVariants as target
use Rattle.own_tree.specs.Source as tree
use Rattle.own_tree.specs.Source.{Stm, File, Clauses, Pat}
use Rattle.own_tree.specs.TypedSource as typed
use Rattle.own_tree.specs.TypedSource.{TStm, TBody, Program}
use Rattle.own_shapes.specs.Types.{types_of, types_declared}
use Rattle.own_judging.specs.Coverage.{first_missing}
use Rattle.own_judged.specs.Typing.{typed as typed_text}
use Rattle.own_judged.proofs.Spelling.{span, span_to, name, path, number, call, stms, let_in, function, main, int_result, parameter, function_parameter, file, at, node, typed_path, typed_stms, binding}

-- ---- func twice(_ n: Int) -> Int { n + n }; func main() { let x = 2; print(twice(x)) }

abbrev twice : File
twice = file (
    function 10 (codes "twice") (parameter 12 (codes "n") None (codes "Int") ∷ []) int_result
    (tree.evaluate (tree.binary (span 14) binary.Plus (span 15) (path 14 (codes "n")) (path 16 (codes "n"))) ∷ [])
    ∷ main (
    let_in 22 (codes "x") (number 24 2)
    ∷ tree.evaluate (call 25 (codes "print") (call 26 (codes "twice") (path 27 (codes "x")))) ∷ [])
    ∷ [])

abbrev twice_body : TBody
twice_body = record {
  kind = kind.Function;
  owner = None;
  params = 0 ∷ [];
  result = type.Int;
  discards = false;
  span = span 11;
  close = span 11;
  block =
      typed.block (record { id = 1; span = span_to 10 12; ty = type.Unit })
      (typed_stms (typed.evaluate (node 2 14)
      (typed.arithmetic (at 3 14 type.Int) arithmetic.Add (span 15) (typed_path 4 14 type.Int 0)
      (typed_path 5 16 type.Int 0)) ∷ []));
}

abbrev main_of_twice : TBody
main_of_twice = record {
  kind = kind.Function;
  owner = None;
  params = [];
  result = type.Unit;
  discards = false;
  span = span 21;
  close = span 21;
  block =
      typed.block (record { id = 6; span = span_to 20 22; ty = type.Unit })
      (typed_stms (typed.let_in (node 7 22) 1 (typed.number (at 8 24 type.Int) (pos 2))
      ∷ typed.evaluate (node 9 25) (typed.call (node 10 25) target.Print
      (typed.exp (typed.call (at 11 26 type.Int) (target.Function 0)
      (typed.exp (typed_path 12 27 type.Int 1) typed.no_exps) (passing.ByValue ∷ [])) typed.no_exps)
      (passing.ByValue ∷ [])) ∷ []));
}

twice_is_typed :
    typed_text twice ≡ Ok (record {
      bodies = twice_body ∷ main_of_twice ∷ [];
      bindings =
          binding 12 (codes "n") type.Int mode.Plain 0 ∷ binding 23 (codes "x") type.Int mode.Let 1 ∷ [];
      signatures = [];
      main = 1;
      tokens = 50;
    })
unfolding typed_text types_of types_declared
twice_is_typed = refl

-- ---- func each(_ f: (Int) -> Int) -> Int { f(3) }; func main() { print(each { y in y + 1 }) }

abbrev each : File
each = file (
    function 10 (codes "each") (function_parameter 12 (codes "f") ∷ []) int_result
    (tree.evaluate (call 14 (codes "f") (number 15 3)) ∷ [])
    ∷ main (
    tree.evaluate (call 25 (codes "print") (tree.call_closure (span 26) (path 26 (codes "each"))
    (tree.closure (span_to 26 27) (bound.Bind (name 28 (codes "y")) ∷ [])
    (stms (tree.evaluate (tree.binary (span 29) binary.Plus (span 30) (path 29 (codes "y")) (number 31 1))
    ∷ []))))) ∷ [])
    ∷ [])

abbrev each_body : TBody
each_body = record {
  kind = kind.Function;
  owner = None;
  params = 0 ∷ [];
  result = type.Int;
  discards = false;
  span = span 11;
  close = span 11;
  block =
      typed.block (record { id = 1; span = span_to 10 12; ty = type.Unit })
      (typed_stms (typed.evaluate (node 2 14) (typed.call (at 3 14 type.Int) (target.Closure 0)
      (typed.exp (typed.number (at 4 15 type.Int) (pos 3)) typed.no_exps) (passing.ByValue ∷ [])) ∷ []));
}

abbrev main_of_each : TBody
main_of_each = record {
  kind = kind.Function;
  owner = None;
  params = [];
  result = type.Unit;
  discards = false;
  span = span 21;
  close = span 21;
  block =
      typed.block (record { id = 5; span = span_to 20 22; ty = type.Unit })
      (typed_stms (typed.evaluate (node 6 25) (typed.call (node 7 25) target.Print
      (typed.exp (typed.call (at 8 26 type.Int) (target.Function 0)
      (typed.exp (typed.closure (at 9 26 (type.Fun 0)) 2) typed.no_exps) (passing.Closure ∷ [])) typed.no_exps)
      (passing.ByValue ∷ [])) ∷ []));
}

abbrev closure_of_each : TBody
closure_of_each = record {
  kind = kind.Closure 1;
  owner = None;
  params = 1 ∷ [];
  result = type.Int;
  discards = false;
  span = span 26;
  close = span 26;
  block =
      typed.block (node 10 26)
      (typed_stms (typed.evaluate (node 11 29) (typed.arithmetic (at 12 29 type.Int) arithmetic.Add (span 30)
      (typed_path 13 29 type.Int 1) (typed.number (at 14 31 type.Int) (pos 1))) ∷ []));
}

each_is_typed :
    typed_text each ≡ Ok (record {
      bodies = each_body ∷ main_of_each ∷ closure_of_each ∷ [];
      bindings =
          binding 12 (codes "f") (type.Fun 0) mode.Closure 0 ∷ binding 28 (codes "y") type.Int mode.Plain 2 ∷ [];
      signatures =
          record { params = record { label = None; mode = mode.Plain; ty = type.Int } ∷ []; result = type.Int }
          ∷ [];
      main = 1;
      tokens = 50;
    })
unfolding typed_text types_of types_declared
each_is_typed = refl

-- ---- enum E: ~Copyable { case none, one(Int) }
-- ---- func f(_ e: consuming E) {
-- ----   switch consume e { case .one(let n) where n == 1: print(n) case .one(let k): print(k) default: }
-- ---- }
-- The guard sees a borrowed binding, and the body the next one, which owns what it is.

-- `.one(let NAME)`
abbrev one : ℕ → List ℕ → Pat
one n t = tree.on_case (span n) (name n (codes "one")) (tree.pat (tree.bind (span n) (name n t)) tree.no_pats)

abbrev pub switching : Clauses → File
switching last = file (
    tree.enum_of (span 1) (name 2 (codes "E")) true (tree.cases (span 3)
    (record { span = span 3; name = name 3 (codes "none"); payloads = [] }
    ∷ record { span = span 4; name = name 4 (codes "one"); payloads = name 5 (codes "Int") ∷ [] } ∷ []) ∷ [])
    ∷ function 10 (codes "f") (parameter 12 (codes "e") (Some passing_mode.Consuming) (codes "E") ∷ []) None (
    tree.switch (span_to 13 24)
    (tree.consumed (span 14) (record { span = span 14; root = root.Named (name 14 (codes "e")); fields = [] }))
    (tree.clause (span 15)
    (tree.case_where (one 15 (codes "n"))
    (tree.binary (span 16) binary.Equal (span 16) (path 16 (codes "n")) (number 17 1)))
    (stms (tree.evaluate (call 18 (codes "print") (path 19 (codes "n"))) ∷ []))
    (tree.clause (span 20) (tree.case_of (tree.pat (one 20 (codes "k")) tree.no_pats))
    (stms (tree.evaluate (call 21 (codes "print") (path 22 (codes "k"))) ∷ [])) last)) ∷ [])
    ∷ main [] ∷ [])

abbrev the_switch : TStm
the_switch =
    typed.switch (record { id = 2; span = span_to 13 24; ty = type.Unit })
    (typed.consumed (at 3 14 (type.Named 0))
    (record { at = at 4 14 (type.Named 0); place = record { binding = 0; fields = [] } }))
    (typed.clause (span 15)
    (typed.case_where (typed.of_case 1 (typed.pat (typed.bind 1) typed.no_pats))
    (typed.compared (at 5 16 type.Bool) compare.Equal (typed_path 6 16 type.Int 1)
    (typed.number (at 7 17 type.Int) (pos 1))))
    (typed_stms (typed.evaluate (node 8 18) (typed.call (node 9 18) target.Print
    (typed.exp (typed_path 10 19 type.Int 2) typed.no_exps) (passing.ByValue ∷ [])) ∷ []))
    (typed.clause (span 20)
    (typed.case_of (typed.pat (typed.of_case 1 (typed.pat (typed.bind 3) typed.no_pats)) typed.no_pats))
    (typed_stms (typed.evaluate (node 11 21) (typed.call (node 12 21) target.Print
    (typed.exp (typed_path 13 22 type.Int 3) typed.no_exps) (passing.ByValue ∷ [])) ∷ []))
    (typed.clause (span 23) typed.default typed.no_stms typed.no_clauses)))

abbrev switching_body : TBody
switching_body = record {
  kind = kind.Function;
  owner = None;
  params = 0 ∷ [];
  result = type.Unit;
  discards = false;
  span = span 11;
  close = span 11;
  block =
      typed.block (record { id = 1; span = span_to 10 12; ty = type.Unit }) (typed_stms (the_switch ∷ []));
}

abbrev empty_main : TBody
empty_main = record {
  kind = kind.Function;
  owner = None;
  params = [];
  result = type.Unit;
  discards = false;
  span = span 21;
  close = span 21;
  block = typed.block (record { id = 14; span = span_to 20 22; ty = type.Unit }) typed.no_stms;
}

switching_is_typed :
    typed_text (switching (tree.clause (span 23) tree.default tree.no_stms tree.no_clauses)) ≡ Ok (record {
      bodies = switching_body ∷ empty_main ∷ [];
      bindings =
          binding 12 (codes "e") (type.Named 0) mode.Consuming 0
          ∷ binding 15 (codes "n") type.Int mode.PatternBorrowed 0
          ∷ binding 15 (codes "n") type.Int mode.PatternOwned 0
          ∷ binding 20 (codes "k") type.Int mode.PatternOwned 0 ∷ [];
      signatures = [];
      main = 1;
      tokens = 50;
    })
unfolding typed_text types_of types_declared first_missing
switching_is_typed = refl
