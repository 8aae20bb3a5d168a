-- Closure literals, each of which is a body of its own.
use Rattle.std.specs.Prelude.{ℕ, false, List, [], ◌∷◌, ◌++◌, length, None, slice_get}
use Rattle.own_tree.specs.declared.place.Binding.{Binding}
use Rattle.own_tree.specs.declared.place.Mode.{Mode}
use Rattle.own_tree.specs.declared.place.Ty.{Ty}
use Rattle.own_tree.specs.declared.place.Ty.TheVariants as type
use Rattle.own_tree.specs.declared.span.Span.{Span}
use Rattle.own_tree.specs.declared.tree.ClosureName.{ClosureName}
use Rattle.own_tree.specs.declared.tree.ClosureName.TheVariants as bound
use Rattle.own_tree.specs.declared.typed.BodyKind.TheVariants as kind
use Rattle.own_tree.specs.declared.typed.ParamInfo.{ParamInfo}
use Rattle.own_tree.specs.TypedSource as typed
use Rattle.own_tree.specs.TypedSource.{TExp, TStms, TBlk, TBody}
use Rattle.own_shapes.specs.Spans.{opening}
use Rattle.own_paths.specs.Ops.{closing}
use Rattle.own_judging.specs.Judged.{Judged}
use Rattle.own_judged.specs.Codes.{T13}
use Rattle.own_judged.specs.Conditions.{equal}
use Rattle.own_judged.specs.Names.{Local, Scope, local_of, inside_closure}
use Rattle.own_judged.specs.Rules.{yields, ◌>>=◌, ◌>>◌, holding, the, refused, node, declared, embodied}
use Rattle.own_judged.specs.Text.{Text}
use Rattle.own_judged.specs.Values.{at}

-- ---- bindings and blocks

abbrev pub binding_of : (name : List ℕ) → Ty → Mode → Span → (body : ℕ) → Binding
binding_of name ty m s body = record { name = name; ty = ty; mode = m; span = s; body = body }

-- the block of a body whose parts are not yet known
abbrev pub no_block : Span → TBlk
no_block s = typed.block (at 0 s type.Unit) typed.no_stms

abbrev pub a_block : Span → Judged TStms → Judged TBlk
a_block s ss = do
  id ← node
  ts ← ss
  yields (typed.block (at id s type.Unit) ts)

-- ---- the names of a closure

-- a `_` has no name, and is a binding all the same
abbrev pub name_text : ClosureName → List ℕ
name_text (bound.Any s) = []
name_text (bound.Bind n) = n.text

abbrev pub name_span : ClosureName → Span
name_span (bound.Any s) = s
name_span (bound.Bind n) = n.span

abbrev pub local_named : ClosureName → (binding : ℕ) → Ty → List Local
local_named (bound.Any s) x ty = []
local_named (bound.Bind n) x ty = local_of n x ty

-- as bindings of body k, by the parameters of its type, and as names in scope
abbrev pub closure_params : (body : ℕ) → List ClosureName → List ParamInfo → Judged (List ℕ × List Local)
closure_params k [] ps = yields ([], [])
closure_params k (n ∷ ns) [] = yields ([], [])
closure_params k (n ∷ ns) (p ∷ ps) = do
  x ← declared (binding_of (name_text n) p.ty p.mode (name_span n) k)
  rest ← closure_params k ns ps
  yields (x ∷ rest.0, local_named n x p.ty ++ rest.1)

-- ---- the literal

-- it belongs to the body that it stands in, and has no owner of its own
abbrev pub closure_body : Scope → Span → (params : List ℕ) → (result : Ty) → TBlk → TBody
closure_body scope s params result b = record {
  kind = kind.Closure scope.body;
  owner = None;
  params = params;
  result = result;
  discards = false;
  span = opening s;
  close = closing s;
  block = b;
}

-- its names and its statements, as body k
abbrev pub closure_inside :
    Scope → Span → List ClosureName → List ParamInfo → (result : Ty) → (Scope → Judged TStms) → (body : ℕ)
    → Judged (List ℕ × TBlk)
closure_inside scope s names params result ss k = do
  xs ← closure_params k names params
  b ← a_block s (ss (inside_closure scope k result xs.1))
  yields (xs.0, b)

module _ (text : Text) where
  -- by its call and the type of the parameter that it is given for
  abbrev pub closure_literal :
      Scope → Span → List ClosureName → (Scope → Judged TStms) → (call : Span) → Ty → Judged TExp
  closure_literal scope s names ss call (type.Fun f) = do
    g ← the (slice_get text.signatures f) T13 call
    holding (equal (length names) (length g.params)) T13 call
    id ← node
    x ← embodied
        (closure_body scope s [] g.result (no_block s))
        (closure_inside scope s names g.params g.result ss)
        (λ a. closure_body scope s a.0 g.result a.1)
    yields (typed.closure (at id s (type.Fun f)) x.0)
  closure_literal scope s names ss call type.Int = refused T13 call
  closure_literal scope s names ss call type.Bool = refused T13 call
  closure_literal scope s names ss call type.Unit = refused T13 call
  closure_literal scope s names ss call (type.Named t) = refused T13 call
