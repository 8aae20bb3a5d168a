-- Arguments, each typed with its parameter at hand, and the items of a `print`.
use Rattle.std.specs.Prelude.{ℕ, if◌then◌else◌, List, [], ◌∷◌, map, Option, Some, None}
use Rattle.own_tree.specs.declared.place.Ty.{Ty}
use Rattle.own_tree.specs.declared.place.Ty.TheVariants as type
use Rattle.own_tree.specs.declared.span.Span.{Span}
use Rattle.own_tree.specs.declared.tree.Name.{Name}
use Rattle.own_tree.specs.declared.typed.ArgInfo.{ArgInfo}
use Rattle.own_tree.specs.declared.typed.Form.{Form}
use Rattle.own_tree.specs.declared.typed.Form.TheVariants as form
use Rattle.own_tree.specs.declared.typed.ParamInfo.{ParamInfo}
use Rattle.own_tree.specs.declared.typed.Passing.{Passing}
use Rattle.own_tree.specs.declared.typed.Passing.TheVariants as passing
use Rattle.own_tree.specs.declared.typed.Target.{Target}
use Rattle.own_tree.specs.declared.typed.Target.TheVariants as target
use Rattle.own_tree.specs.TypedSource as typed
use Rattle.own_tree.specs.TypedSource.{TExp, TExps}
use Rattle.own_calls.specs.Arguments.{arguments_agree, passing_of, is_function}
use Rattle.own_judging.specs.Judged.{Judged}
use Rattle.own_judged.specs.Codes.{T13, T24, T29, T32}
use Rattle.own_judged.specs.Conditions.{true_that}
use Rattle.own_judged.specs.Rules.{yields, ◌>>=◌, ◌>>◌, holding, refused, unless}
use Rattle.own_judged.specs.Text.{Text}
use Rattle.own_judged.specs.Values.{at, type_of, inside_parentheses, no_value}

-- what arguments become, and what is said of them to the parameters
abbrev pub Passed : Type 0
Passed = TExps × List ArgInfo

-- arguments, by the span of their call and its parameters
abbrev pub Arguments : Type 1
Arguments = Span → List ParamInfo → Judged Passed

-- one of them, by the span of the call and its parameter
abbrev pub Argument : Type 1
Argument = Span → ParamInfo → Judged (TExp × ArgInfo)

-- ---- one argument

abbrev pub form_inside : TExp → Form
form_inside (typed.path p) = form.Path
form_inside (typed.function at x) = form.Path
form_inside (typed.address p) = form.Address
form_inside (typed.closure at k) = form.Closure
form_inside _ = form.Value

abbrev pub form_of : TExp → Form
form_of t = form_inside (inside_parentheses t)

abbrev pub label_text : Option Name → Option (List ℕ)
label_text None = None
label_text (Some n) = Some n.text

abbrev pub info : (label : Option Name) → TExp → Span → ArgInfo
info label t s = record { label = label_text label; form = form_of t; ty = type_of t; at = s }

-- the type that a parameter expects of a value
abbrev pub expected_by : ParamInfo → Option Ty
expected_by p = if is_function p.ty then None else Some p.ty

-- the judgement by which an expression is no argument for that parameter
abbrev pub not_passed : ParamInfo → TExp → Option ℕ
not_passed p t = if is_function p.ty then None else no_value t

-- an expression of that span, by the type that is expected of it
abbrev pub a_value : (label : Option Name) → Span → (Option Ty → Judged TExp) → Argument
a_value label at e call p = do
  t ← e (expected_by p)
  unless (not_passed p t) at
  yields (t, info label t at)

-- a closure literal of that span, by its call and the type of its parameter
abbrev pub a_closure : (label : Option Name) → Span → (Span → Ty → Judged TExp) → Argument
a_closure label at literal call p = do
  t ← literal call p.ty
  yields (t, info label t at)

-- ---- as many arguments as parameters

abbrev pub nothing_given : Arguments
nothing_given call [] = yields (typed.no_exps, [])
nothing_given call (p ∷ ps) = refused T13 call

abbrev pub and_then : Argument → Arguments → Arguments
and_then first rest call [] = refused T13 call
and_then first rest call (p ∷ ps) = do
  t ← first call p
  more ← rest call ps
  yields (typed.exp t.0 more.0, t.1 ∷ more.1)

-- a trailing closure is the last argument, and has no label (SE-0279)
abbrev pub trailing : Span → (Span → Ty → Judged TExp) → Arguments
trailing at literal = and_then (a_closure None at literal) nothing_given

-- ---- calls

module _ (text : Text) where
  abbrev pub passings : List ParamInfo → List Passing
  passings params = map (passing_of text.types.shape) params

  -- a call without a receiver, by its type and its target
  abbrev pub calling : (id : ℕ) → Span → Ty → Target → List ParamInfo → Arguments → Judged TExp
  calling id s ty to params arguments = do
    given ← arguments s params
    holding (true_that (arguments_agree s.end params given.1)) T13 s
    yields (typed.call (at id s ty) to given.0 (passings params))

-- ---- the items of a `print`

-- the judgement by which an expression of that type is none
abbrev pub no_item : TExp → Ty → Option ℕ
no_item (typed.text at t) ty = None
no_item (typed.parenthesized at e) ty = no_item e ty
no_item (typed.closure at k) ty = Some T24
no_item (typed.function at x) ty = Some T24
no_item e type.Int = None
no_item e type.Bool = None
no_item e type.Unit = Some T32
no_item e (type.Named k) = Some T29
no_item e (type.Fun k) = Some T24

-- an item has no label
abbrev pub an_item : (label : Option Name) → (call : Span) → Span → Judged TExp → Judged TExp
an_item (Some label) call at e = refused T13 call
an_item None call at e = do
  t ← e
  unless (no_item t (type_of t)) at
  yields t

abbrev pub and_items : Judged TExp → Judged TExps → Judged TExps
and_items first rest = do
  t ← first
  more ← rest
  yields (typed.exp t more)

abbrev pub all_by_value : TExps → List Passing
all_by_value typed.no_exps = []
all_by_value (typed.exp e es) = passing.ByValue ∷ all_by_value es

abbrev pub printing : (id : ℕ) → Span → Judged TExps → Judged TExp
printing id s items = do
  es ← items
  yields (typed.call (at id s type.Unit) target.Print es (all_by_value es))
