-- Closure literals, and the blocks of bodies.
use Rattle.std.specs.Prelude.{◌≡◌, ℕ, zero, List, [], ◌∷◌, length, Some, slice_get}
use Rattle.std.proofs.Common.{refl, sym, arith}
use Rattle.own_tree.specs.declared.place.Binding.{Binding}
use Rattle.own_tree.specs.declared.place.Ty.{Ty}
use Rattle.own_tree.specs.declared.place.Ty.TheVariants as type
use Rattle.own_tree.specs.declared.span.Span.{Span}
use Rattle.own_tree.specs.declared.tree.ClosureName.{ClosureName}
use Rattle.own_tree.specs.declared.tree.ClosureName.TheVariants as bound
use Rattle.own_tree.specs.declared.typed.ParamInfo.{ParamInfo}
use Rattle.own_tree.specs.declared.typed.Signature.{Signature}
use Rattle.own_tree.specs.TypedSource.{TStms, TBlk, Program}
use Rattle.own_judging.specs.Judged.{Judged}
use Rattle.own_judged.specs.Closures.{binding_of, no_block, a_block, name_text, name_span, local_named, closure_params, closure_body, closure_inside, closure_literal}
use Rattle.own_judged.specs.Conditions.{equal}
use Rattle.own_judged.specs.Names.{Local, Scope, inside_closure}
use Rattle.own_judged.specs.Text.{Text}
use Rattle.own_known.specs.Known.{ExpKnown, StmsKnown, BlkKnown, ParamsKnown, ParamsAre, MayName}
use Rattle.own_known.specs.Surroundings.{IsKnown, TextKnown, ParamsTyped, LocalsKnown, ScopeKnown}
use Rattle.own_known.proofs.Scopes.{joined, in_closure}
use Rattle.own_known.proofs.Sure.{Sure, IsBody, then, gives, holds, there, never, a_node, declares, embodies}

module _ (text : Text) (program : Program) (texts : TextKnown text program) where
  abbrev Sure' : {A : Type 0} → Judged A → (A → Type 0) → Type 0
  Sure' j Q = Sure text program j Q

  pub block_known :
      (k : ℕ) (s : Span) (ss : Judged TStms) → Sure' ss (StmsKnown text program k)
      → Sure' (a_block s ss) (BlkKnown text program k)
  block_known k s ss sure = then _ _ _ _ a_node (λ id u. then _ _ _ _ sure (λ ts h. gives _ _ h))

  -- what is declared in a body may be named there
  pub named_here :
      (k x : ℕ) (b : Binding) → slice_get program.bindings x ≡ Some b → b.body ≡ k → MayName text program k x b
  named_here k x b there here = (there, (zero, sym here))

  -- the bindings of a body, and the names that it sees
  abbrev pub Bound : (k : ℕ) → List ℕ × List Local → Type 0
  Bound k r = ParamsKnown text program k r.0 × LocalsKnown text program k r.1

  name_known :
      (k x : ℕ) (n : ClosureName) (b : Binding) → slice_get program.bindings x ≡ Some b → b.body ≡ k
      → IsKnown text program b.ty → LocalsKnown text program k (local_named n x b.ty)
  name_known k x (bound.Any s) b there here known = tt
  name_known k x (bound.Bind n) b there here known = (((b, named_here k x b there here, refl), known), tt)

  -- the names of a closure, which are as many as the parameters of its type where that is asked
  abbrev Taken : (k : ℕ) → List ClosureName → List ParamInfo → List ℕ × List Local → Type 0
  Taken k ns ps r = Bound k r × (length ns ≡ length ps → ParamsAre text program k r.0 ps)

  params_known :
      (k : ℕ) (ns : List ClosureName) (ps : List ParamInfo) → ParamsTyped text program ps
      → Sure' (closure_params k ns ps) (Taken k ns ps)
  params_known k [] [] typed = gives _ _ ((tt, tt), λ e. tt)
  params_known k [] (p ∷ ps) typed = gives _ _ ((tt, tt), λ e. absurd (omega (arith, e)))
  params_known k (n ∷ ns) [] typed = gives _ _ ((tt, tt), λ e. absurd (omega (arith, e)))
  params_known k (n ∷ ns) (p ∷ ps) typed =
      let b = binding_of (name_text n) p.ty p.mode (name_span n) k in
      then _ _ _ _ (declares b typed.0) (λ x is.
      then _ _ _ _ (params_known k ns ps typed.1) (λ rest h.
      gives _ _ (
        (
          ((b, is, refl), h.0.0),
          joined text program k (local_named n x p.ty) rest.1 (name_known k x n b is refl typed.0) h.0.1,
        ),
        λ e. ((b, is, refl, refl, refl), h.1 (omega (arith, e))),
      )))

  module _ (scope : Scope) (known : ScopeKnown text program scope) where
    abbrev Parts : List ParamInfo → ℕ → List ℕ × TBlk → Type 0
    Parts ps k r =
        ParamsKnown text program k r.0 × BlkKnown text program k r.1 × ParamsAre text program k r.0 ps

    inside_known :
        (s : Span) (names : List ClosureName) (g : Signature) (ss : Scope → Judged TStms) (j : ℕ) (a : List ℕ × TBlk)
        → ((inner : Scope) → ScopeKnown text program inner → Sure' (ss inner) (StmsKnown text program inner.body))
        → length names ≡ length g.params → ParamsTyped text program g.params → IsKnown text program g.result
        → IsBody text program j (closure_body scope s a.0 g.result a.1)
        → Sure' (closure_inside scope s names g.params g.result ss j) (Parts g.params j)
    inside_known s names g ss j a sure same typed result is =
        then _ _ _ _ (params_known j names g.params typed) (λ xs h.
        let inner = in_closure text program scope j
        (closure_body scope s a.0 g.result a.1) xs.1 is refl result known h.0.1 in
        then _ _ _ _ (block_known j s (ss (inside_closure scope j g.result xs.1))
        (sure (inside_closure scope j g.result xs.1) inner)) (λ b hb.
        gives _ _ (h.0.0, hb, h.1 same)))

    pub literal_known :
        (s : Span) (names : List ClosureName) (ss : Scope → Judged TStms) (call : Span) (ty : Ty)
        → ((inner : Scope) → ScopeKnown text program inner → Sure' (ss inner) (StmsKnown text program inner.body))
        → Sure' (closure_literal text scope s names ss call ty) (ExpKnown text program scope.body)
    literal_known s names ss call (type.Fun f) sure =
        then _ _ _ _ (there _ _ _) (λ g e.
        let signature = texts.signature f g e in
        then _ _ _ _ (holds (equal (length names) (length g.params)) _ _) (λ u same.
        then _ _ _ _ a_node (λ id u.
        then _ _ _ _ (embodies (Parts g.params) (closure_body scope s [] g.result (no_block s))
        (closure_inside scope s names g.params g.result ss)
        (λ a. closure_body scope s a.0 g.result a.1)
        (λ j a is. inside_known s names g ss j a sure same signature.2 signature.3 is)
        (λ j a h. (h.0, h.1, signature.3)))
        (λ x h. gives _ _ (
          (f, g, closure_body scope s x.1.0 g.result x.1.1, refl, signature.0, h.1, refl, refl, h.0.2),
          signature.1,
        )))))
    literal_known s names ss call type.Int sure = never _ _ _
    literal_known s names ss call type.Bool sure = never _ _ _
    literal_known s names ss call type.Unit sure = never _ _ _
    literal_known s names ss call (type.Named t) sure = never _ _ _
