-- Small texts.
use Rattle.std.specs.Prelude.{◌≡◌, ℕ, suc, false, List, [], ◌∷◌, Option, Some, None, Result, Ok, Err, codes}
use Rattle.std.proofs.Common.{refl}
use Rattle.own_tree.specs.declared.tree.Name.{Name}
use Rattle.own_tree.specs.declared.span.Span.{Span}
use Rattle.own_tree.specs.declared.tree.ClosureName.TheVariants as bound
use Rattle.own_tree.specs.declared.tree.Label.TheVariants as label
use Rattle.own_tree.specs.declared.tree.Parameter.{Parameter}
use Rattle.own_tree.specs.declared.tree.ParameterType.TheVariants as written
use Rattle.own_tree.specs.declared.tree.ResultType.{ResultType}
use Rattle.own_tree.specs.declared.tree.ResultType.TheVariants as result
use Rattle.own_tree.specs.declared.tree.Root.TheVariants as root
use Rattle.own_tree.specs.Source as tree
use Rattle.own_tree.specs.Source.{Exp, Args, Stm, Stms, Decl, File}
use Rattle.own_tree.specs.TypedSource.{Program}
use Rattle.own_shapes.specs.Types.{types_of, types_declared}
use Rattle.own_judging.specs.Coverage.{first_missing}
use Rattle.own_judging.specs.Made.{Fault}
use Rattle.own_judged.specs.Typing.{typed}
use Rattle.own_runs.specs.Run.{run_to, start}
use Rattle.own_steady.specs.Programs.{is_astray}

abbrev pub span : ℕ → Span
span n = record { start = n; end = suc n }

abbrev pub name : List ℕ → Name
name t = record { text = t; span = span 0 }

abbrev pub path : List ℕ → Exp
path t = tree.path (record { span = span 0; root = root.Named (name t); fields = [] })

abbrev pub call : List ℕ → Exp → Exp
call t e = tree.call (span 0) (path t) (tree.arg None (tree.value e) tree.no_args)

abbrev pub only : Exp → Stms
only e = tree.stm (tree.evaluate e) tree.no_stms

-- `_ name: (Int) -> Int`
abbrev pub function_parameter : List ℕ → Parameter
function_parameter t = record {
  span = span 0;
  label = label.Omitted;
  name = name t;
  written =
      written.Function (span 0) (record { span = span 0; mode = None; name = name (codes "Int") } ∷ [])
      (result.Named (name (codes "Int")));
}

abbrev pub function : List ℕ → List Parameter → Option ResultType → Stms → Decl
function t ps r ss =
    tree.function (record { span = span 0; name = name t; parameters = ps; result = r; body = tree.block (span 0) ss })

abbrev pub program_in : Result Program Fault → Program
program_in (Ok p) = p
program_in (Err f) = record { bodies = []; bindings = []; signatures = []; main = 0; tokens = 0 }

-- ---- func g(_ h: (Int) -> Int) -> Int { h(1) }
-- ---- func k(_ f: (Int) -> Int) -> Int { g(ARGUMENT) }
-- ---- func main() { print(k { y in y }) }

abbrev pub passing_on : Exp → File
passing_on argument = record {
  declarations =
      function (codes "g") (function_parameter (codes "h") ∷ []) (Some (result.Named (name (codes "Int"))))
      (only (call (codes "h") (tree.number (span 0) false 1)))
      ∷ function (codes "k") (function_parameter (codes "f") ∷ []) (Some (result.Named (name (codes "Int"))))
      (only (call (codes "g") argument))
      ∷ function (codes "main") [] None
      (only (call (codes "print") (tree.call_closure (span 0) (path (codes "k"))
      (tree.closure (span 0) (bound.Bind (name (codes "y")) ∷ []) (only (path (codes "y")))))))
      ∷ [];
  main = span 0;
  tokens = 50;
}

-- The name of a parameter of function type in parentheses, `g((f))`, is typed as an argument, and passes it on.
abbrev pub in_parentheses : File
in_parentheses = passing_on (tree.parenthesized (span 0) (path (codes "f")))

in_parentheses_is_typed : typed in_parentheses ≡ Ok (program_in (typed in_parentheses))
unfolding typed types_of types_declared first_missing
in_parentheses_is_typed = refl

in_parentheses_is_passed_on :
    is_astray (run_to (types_of in_parentheses) (program_in (typed in_parentheses)) 10
    (program_in (typed in_parentheses)).main None [] 0 (start [] 9)) ≡ false
unfolding typed types_of types_declared first_missing
in_parentheses_is_passed_on = refl
