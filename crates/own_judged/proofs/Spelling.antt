-- Small trees, for worked texts. A part that begins at n has the span from n to n + 1 where nothing else is said.
use Rattle.std.specs.Prelude.{ℕ, suc, false, List, [], ◌∷◌, Option, Some, None, codes}
use Rattle.own_tree.specs.declared.place.Binding.{Binding}
use Rattle.own_tree.specs.declared.place.Mode.{Mode}
use Rattle.own_tree.specs.declared.place.Ty.{Ty}
use Rattle.own_tree.specs.declared.place.Ty.TheVariants as type
use Rattle.own_tree.specs.declared.span.Span.{Span}
use Rattle.own_tree.specs.declared.tree.Keyword.TheVariants as keyword
use Rattle.own_tree.specs.declared.tree.Label.TheVariants as label
use Rattle.own_tree.specs.declared.tree.Name.{Name}
use Rattle.own_tree.specs.declared.tree.Parameter.{Parameter}
use Rattle.own_tree.specs.declared.tree.ParameterType.TheVariants as written
use Rattle.own_tree.specs.declared.tree.PassingMode.{PassingMode}
use Rattle.own_tree.specs.declared.tree.ResultType.{ResultType}
use Rattle.own_tree.specs.declared.tree.ResultType.TheVariants as result
use Rattle.own_tree.specs.declared.tree.Root.TheVariants as root
use Rattle.own_tree.specs.declared.typed.At.{At}
use Rattle.own_tree.specs.Source as tree
use Rattle.own_tree.specs.Source.{Exp, Args, Stm, Stms, Blk, Decl, File}
use Rattle.own_tree.specs.TypedSource as typed
use Rattle.own_tree.specs.TypedSource.{TExp, TStm, TStms}

-- ---- texts

abbrev pub span : ℕ → Span
span n = record { start = n; end = suc n }

abbrev pub span_to : ℕ → ℕ → Span
span_to n m = record { start = n; end = m }

abbrev pub name : ℕ → List ℕ → Name
name n t = record { text = t; span = span n }

abbrev pub path : ℕ → List ℕ → Exp
path n t = tree.path (record { span = span n; root = root.Named (name n t); fields = [] })

abbrev pub number : ℕ → ℕ → Exp
number n k = tree.number (span n) false k

abbrev pub argument : Exp → Args → Args
argument e es = tree.arg None (tree.value e) es

-- a call with one argument
abbrev pub call : ℕ → List ℕ → Exp → Exp
call n t e = tree.call (span n) (path n t) (argument e tree.no_args)

abbrev pub stms : List Stm → Stms
stms [] = tree.no_stms
stms (s ∷ ss) = tree.stm s (stms ss)

abbrev pub block : ℕ → List Stm → Blk
block n ss = tree.block (span_to n (suc (suc n))) (stms ss)

abbrev pub let_in : ℕ → List ℕ → Exp → Stm
let_in n t e = tree.let_in (span n) keyword.Let (name (suc n) t) None e

abbrev pub function : ℕ → List ℕ → List Parameter → Option ResultType → List Stm → Decl
function n t ps r ss =
    tree.function (record { span = span n; name = name (suc n) t; parameters = ps; result = r; body = block n ss })

abbrev pub main : List Stm → Decl
main ss = function 20 (codes "main") [] None ss

abbrev pub int_result : Option ResultType
int_result = Some (result.Named (name 13 (codes "Int")))

-- `_ name: mode type`
abbrev pub parameter : ℕ → List ℕ → Option PassingMode → List ℕ → Parameter
parameter n t mode ty = record {
  span = span n;
  label = label.Omitted;
  name = name n t;
  written = written.Named (span n) mode (name n ty);
}

-- `_ name: (Int) -> Int`
abbrev pub function_parameter : ℕ → List ℕ → Parameter
function_parameter n t = record {
  span = span n;
  label = label.Omitted;
  name = name n t;
  written =
      written.Function (span n) (record { span = span n; mode = None; name = name n (codes "Int") } ∷ [])
      (result.Named (name n (codes "Int")));
}

abbrev pub file : List Decl → File
file ds = record { declarations = ds; main = span 99; tokens = 50 }

-- a text that has `main` alone
abbrev pub only_main : List Stm → File
only_main ss = file (main ss ∷ [])

-- ---- programs

abbrev pub at : (id : ℕ) → ℕ → Ty → At
at id n ty = record { id = id; span = span n; ty = ty }

abbrev pub node : (id : ℕ) → ℕ → At
node id n = at id n type.Unit

abbrev pub typed_path : (id : ℕ) → ℕ → Ty → (binding : ℕ) → TExp
typed_path id n ty x = typed.path (record { at = at id n ty; place = record { binding = x; fields = [] } })

abbrev pub typed_stms : List TStm → TStms
typed_stms [] = typed.no_stms
typed_stms (s ∷ ss) = typed.stm s (typed_stms ss)

abbrev pub binding : ℕ → List ℕ → Ty → Mode → (body : ℕ) → Binding
binding n t ty m k = record { name = t; ty = ty; mode = m; span = span n; body = k }
