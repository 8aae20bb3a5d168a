-- Statements, by their parts.
use Rattle.std.specs.Prelude.{ℕ, Bool, true, false, List, Option, Some, None}
use Rattle.std.proofs.Common.{refl, ◌∙◌, subst}
use Rattle.own_tree.specs.declared.arithmetic.Arith.{Arith}
use Rattle.own_tree.specs.declared.place.Mode.TheVariants as mode
use Rattle.own_tree.specs.declared.place.Ty.{Ty}
use Rattle.own_tree.specs.declared.place.Ty.TheVariants as type
use Rattle.own_tree.specs.declared.span.Span.{Span}
use Rattle.own_tree.specs.declared.tree.Keyword.{Keyword}
use Rattle.own_tree.specs.declared.tree.Keyword.TheVariants as keyword
use Rattle.own_tree.specs.declared.tree.Name.{Name}
use Rattle.own_tree.specs.declared.typed.TypedPath.{TypedPath}
use Rattle.own_tree.specs.Source.{Exp}
use Rattle.own_tree.specs.TypedSource.{TExp, Program}
use Rattle.own_judging.specs.Judged.{Judged}
use Rattle.own_judged.specs.Closures.{binding_of}
use Rattle.own_judged.specs.Conditions.{true_that, one_type, both}
use Rattle.own_judged.specs.Names.{Local, Self, Scope}
use Rattle.own_judged.specs.Statements.{Stated, Typable, value_of, local_mode, or_unit, local_with_value, loop_variable, local_without_value, assigned, is_effect, evaluated, returned_none, discarded}
use Rattle.own_judged.specs.Text.{Text}
use Rattle.own_judged.specs.Values.{span_of, type_of, is_of, as_value}
use Rattle.own_known.specs.Known.{ExpKnown, StmKnown, PathKnown, TurnKnown}
use Rattle.own_known.specs.Surroundings.{TextKnown, LocalsKnown, SelfKnown, ScopeKnown}
use Rattle.own_known.proofs.ClosuresKnown.{named_here}
use Rattle.own_known.proofs.Sure.{Sure, then, gives, holds, there, never, a_node, declares, declares_value}
use Rattle.own_known.proofs.ValuesKnown.{type_known, value_known, Value}

module _ (text : Text) (program : Program) (texts : TextKnown text program) where
  abbrev Sure' : {A : Type 0} → Judged A → (A → Type 0) → Type 0
  Sure' j Q = Sure text program j Q

  module _ (k : ℕ) where
    abbrev Fine : TExp → Type 0
    Fine t = ExpKnown text program k t

    abbrev Place : TypedPath → Type 0
    Place p = PathKnown text program k p

    abbrev pub StatedKnown : Stated → Type 0
    StatedKnown t = StmKnown text program k t.0 × LocalsKnown text program k t.1

    -- an expression of any type, or of the one that is expected
    abbrev pub TypableKnown : Typable → Type 0
    TypableKnown rule = (wanted : Option Ty) → Sure' (rule wanted) Fine

    pub value_of_known :
        (ty : Ty) (e : Exp) (rule : Typable) → TypableKnown rule
        → Sure' (value_of ty e rule) (Value text program k (Some ty))
    value_of_known ty e rule sure =
        value_known text program k (span_of e) (Some ty) (rule (Some ty)) (sure (Some ty))

    pub assigned_known :
        (id : ℕ) (s : Span) (p : TypedPath) (mark : Span) (o : Option Arith) (e : Exp) (rule : Typable) → Place p
        → TypableKnown rule → Sure' (assigned id s p mark o e rule) StatedKnown
    assigned_known id s p mark None e rule place sure =
        then _ _ _ _ (value_of_known p.at.ty e rule sure) (λ t h. gives _ _ ((place, h.0, h.1), tt))
    assigned_known id s p mark (Some o) e rule place sure =
        then _ _ _ _ (value_known text program k (span_of e) None (rule None) (sure None)) (λ t h.
        then _ _ _ _ (holds (both (one_type p.at.ty type.Int) (is_of type.Int t)) _ _) (λ u ints.
        gives _ _ ((place, h.0, ints.0, ints.1), tt)))

    pub evaluated_known :
        (gives_back : Bool) (id : ℕ) (result : Ty) (e : Exp) (rule : Typable) → TypableKnown rule
        → Sure' (evaluated gives_back id result e rule) StatedKnown
    evaluated_known true id result e rule sure =
        then _ _ _ _ (value_of_known result e rule sure) (λ t h. gives _ _ (h.0, tt))
    evaluated_known false id result e rule sure =
        then _ _ _ _ (holds (true_that (is_effect e)) _ _)
        (λ u effect. then _ _ _ _ (sure None) (λ t h. gives _ _ (h, tt)))

  module _ (scope : Scope) (known : ScopeKnown text program scope) where
    abbrev k : ℕ
    k = scope.body

    -- ---- locals

    pub with_value_known :
        (id : ℕ) (s : Span) (word : Keyword) (n : Name) (written : Option Ty) (e : Exp) (rule : Typable)
        → TypableKnown k rule
        → Sure' (local_with_value scope id s word n written e rule) (StatedKnown k)
    with_value_known id s word n written e rule sure =
        then _ _ _ _ (declares_value (Value text program k written)
        (binding_of n.text (or_unit written) (local_mode word) n.span scope.body)
        (as_value (span_of e) written (rule written))
        (λ t. binding_of n.text (type_of t) (local_mode word) n.span scope.body)
        (value_known text program k (span_of e) written (rule written) (sure written))
        (λ t h. type_known text program k t h.0))
        (λ x h.
        let b = binding_of n.text (type_of x.1) (local_mode word) n.span scope.body in
        let may = named_here text program texts k x.0 b h.1 refl in
        gives _ _ ((h.0.0, (b, may, refl)), (((b, may, refl), type_known text program k x.1 h.0.0), tt)))

    abbrev Turn : Option ℕ × List Local → Type 0
    Turn x = TurnKnown text program k x.0 × LocalsKnown text program k x.1

    pub loop_known : (n : Option Name) → Sure' (loop_variable scope n) Turn
    loop_known None = gives _ _ (tt, tt)
    loop_known (Some n) =
        let b = binding_of n.text type.Int mode.Turn n.span scope.body in
        then _ _ _ _ (declares b tt) (λ x is.
        let may = named_here text program texts k x b is refl in
        gives _ _ ((b, may, refl), (((b, may, refl), tt), tt)))

    pub without_value_known :
        (s : Span) (word : Keyword) (n written : Option Name)
        → Sure' (local_without_value text scope s word n written) (StatedKnown k)
    without_value_known s keyword.Var (Some n) (Some w) =
        let b = binding_of n.text (text.written w.text) mode.Var n.span scope.body in
        then _ _ _ _ a_node (λ id u. then _ _ _ _ (declares b (texts.written w.text)) (λ x is.
        let may = named_here text program texts k x b is refl in
        gives _ _ ((b, may), (((b, may, refl), texts.written w.text), tt))))
    without_value_known s keyword.Var (Some n) None = never _ _ _
    without_value_known s keyword.Var None w = never _ _ _
    without_value_known s keyword.Let n w = never _ _ _

    -- ---- jumps and `discard self`

    pub returned_known : (id : ℕ) (s : Span) → Sure' (returned_none id s scope.result) (StatedKnown k)
    returned_known id s =
        then _ _ _ _ (holds (one_type scope.result type.Unit) _ _) (λ u unit.
        let back = known.gives_back in
        gives _ _ ((back.0, back.1, back.2 ∙ unit), tt))

    pub discarded_known :
        (id : ℕ) (s : Span) (me : Option Self) → SelfKnown text program k scope.owner me
        → Sure' (discarded id s me) (StatedKnown k)
    discarded_known id s me h =
        then _ _ _ _ (there _ _ _) (λ self e.
        let is = subst (SelfKnown text program k scope.owner) e h in
        gives _ _ (((is.0.0, is.0.1), refl), tt))
