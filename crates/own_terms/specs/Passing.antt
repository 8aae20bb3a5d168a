-- One argument, and one item of a `print`, once its expression is typed.
use Rattle.std.specs.Prelude.{map, Option}
use Rattle.own_tree.specs.declared.span.Span.{Span}
use Rattle.own_tree.specs.declared.tree.Name.{Name}
use Rattle.own_tree.specs.declared.tree.Path.{Path}
use Rattle.own_tree.specs.declared.typed.ArgInfo.{ArgInfo}
use Rattle.own_tree.specs.declared.typed.ParamInfo.{ParamInfo}
use Rattle.own_tree.specs.TypedSource as typed
use Rattle.own_tree.specs.TypedSource.{TExp}
use Rattle.own_tree.specs.TypedView.{exps_of, expr_view}
use Rattle.own_judging.specs.Judged.{Judged}
use Rattle.own_judged.specs.Arguments.{Passed, info, not_passed, no_item}
use Rattle.own_judged.specs.Names.{Scope}
use Rattle.own_judged.specs.Paths.{a_place}
use Rattle.own_judged.specs.Rules.{yields, ◌>>=◌, ◌>>◌, unless}
use Rattle.own_judged.specs.Text.{Text}
use Rattle.own_judged.specs.Values.{type_of}
use Rattle.own_terms.specs.declared.arguments.Given.{Given}

-- an expression of that span, as the argument for a parameter
abbrev pub as_argument : (label : Option Name) → Span → ParamInfo → TExp → Judged (TExp × ArgInfo)
as_argument label at p t = do
  unless (not_passed p t) at
  yields (t, info label t at)

-- `&path` (SE-0377)
abbrev pub passed_address : Text → Scope → (label : Option Name) → Path → Judged (TExp × ArgInfo)
passed_address text scope label path = do
  q ← a_place text scope path
  yields (typed.address q, info label (typed.address q) path.span)

-- an expression of that span, as an item
abbrev pub item : Span → TExp → Judged TExp
item at t = do
  unless (no_item t (type_of t)) at
  yields t

-- what stands in the parentheses of a call
abbrev pub given_view : Given → Passed
given_view g = (exps_of (map expr_view g.values.items), g.infos.items)
