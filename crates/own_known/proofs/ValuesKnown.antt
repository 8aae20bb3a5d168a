-- Expressions as values: literals, operators, and what has a type has one of the program.
use Rattle.std.specs.Prelude.{◌≡◌, ℕ, Bool, Option, Some, None}
use Rattle.std.proofs.Common.{refl, sym, inl, subst}
use Rattle.own_tree.specs.declared.place.Ty.{Ty}
use Rattle.own_tree.specs.declared.place.Ty.TheVariants as type
use Rattle.own_tree.specs.declared.span.Span.{Span}
use Rattle.own_tree.specs.declared.tree.PrefixOperator.{PrefixOperator}
use Rattle.own_tree.specs.declared.tree.PrefixOperator.TheVariants as prefix
use Rattle.own_tree.specs.declared.typed.TypedPath.{TypedPath}
use Rattle.own_tree.specs.TypedSource as typed
use Rattle.own_tree.specs.TypedSource.{TExp, TExps, Program}
use Rattle.own_paths.specs.Within.{path_of}
use Rattle.own_judging.specs.Judged.{Judged}
use Rattle.own_judged.specs.Conditions.{fits, one_type, either, at_most}
use Rattle.own_judged.specs.Values.{type_of, is_of, both_are, valued, as_value, chosen, largest, number_literal, Operation, logical, equality, order, trapping, wrapping, operated, prefixed}
use Rattle.own_judged.specs.Text.{Text}
use Rattle.own_known.specs.Known.{IsTypeHere, Has, ExpKnown, PathKnown}
use Rattle.own_known.proofs.Sure.{Sure, then, gives, holds, no_fault}

module _ (text : Text) (program : Program) (k : ℕ) where
  abbrev Fine : TExp → Type 0
  Fine t = ExpKnown text program k t

  known_by : (ty other : Ty) → ty ≡ other → IsTypeHere text program other → IsTypeHere text program ty
  known_by ty other e h = subst (IsTypeHere text program) (sym e) h

  -- the type of an expression is one of the program
  pub type_known : (t : TExp) → Fine t → IsTypeHere text program (type_of t)
  type_known (typed.number at n) h = known_by at.ty type.Int h tt
  type_known (typed.text at t) h = known_by at.ty type.Unit h tt
  type_known (typed.truth at b) h = known_by at.ty type.Bool h tt
  type_known (typed.path p) h = h.3
  type_known (typed.parenthesized at e) h = known_by at.ty (type_of e) (sym h.1) (type_known e h.0)
  type_known (typed.consumed at p) h = known_by at.ty p.at.ty h.1 h.0.3
  type_known (typed.negated at mark e) h = known_by at.ty type.Int h.2 tt
  type_known (typed.inverted at e) h = known_by at.ty type.Bool h.2 tt
  type_known (typed.arithmetic at o mark a b) h = known_by at.ty type.Int h.3 tt
  type_known (typed.wrapping at o a b) h = known_by at.ty type.Int h.3 tt
  type_known (typed.compared at o a b) h = known_by at.ty type.Bool h.3 tt
  type_known (typed.logic at o a b) h = known_by at.ty type.Bool h.3 tt
  type_known (typed.choice at c a b) h = known_by at.ty (type_of a) (sym h.4.0) (type_known a h.1)
  type_known (typed.member at e i) h = h.2
  type_known (typed.call at to es passings) h = h.1
  type_known (typed.address p) h = h.3
  type_known (typed.closure at j) h = h.1
  type_known (typed.function at x) h = h.1

  no_path : (p : TypedPath) → None ≡ Some p → ⊥
  no_path p e = cc

  same_path : (p q : TypedPath) → Some p ≡ Some q → p ≡ q
  same_path p q e = cc

  -- the path that an expression is, in parentheses or not
  pub path_known : (t : TExp) (p : TypedPath) → path_of t ≡ Some p → Fine t → PathKnown text program k p
  path_known (typed.path q) p e h = subst (PathKnown text program k) (same_path q p e) h
  path_known (typed.parenthesized at t) p e h = path_known t p e h.0
  path_known (typed.number at n) p e h = absurd (no_path p e)
  path_known (typed.text at t) p e h = absurd (no_path p e)
  path_known (typed.truth at b) p e h = absurd (no_path p e)
  path_known (typed.consumed at q) p e h = absurd (no_path p e)
  path_known (typed.negated at mark t) p e h = absurd (no_path p e)
  path_known (typed.inverted at t) p e h = absurd (no_path p e)
  path_known (typed.arithmetic at o mark a b) p e h = absurd (no_path p e)
  path_known (typed.wrapping at o a b) p e h = absurd (no_path p e)
  path_known (typed.compared at o a b) p e h = absurd (no_path p e)
  path_known (typed.logic at o a b) p e h = absurd (no_path p e)
  path_known (typed.choice at c a b) p e h = absurd (no_path p e)
  path_known (typed.member at t i) p e h = absurd (no_path p e)
  path_known (typed.call at to es passings) p e h = absurd (no_path p e)
  path_known (typed.address q) p e h = absurd (no_path p e)
  path_known (typed.closure at j) p e h = absurd (no_path p e)
  path_known (typed.function at x) p e h = absurd (no_path p e)

  -- ---- values

  abbrev pub Value : Option Ty → TExp → Type 0
  Value wanted t = Fine t × (fits wanted (type_of t)).is

  pub valued_known :
      (s : Span) (wanted : Option Ty) (t : TExp) → Fine t → Sure text program (valued s wanted t) (Value wanted)
  valued_known s wanted t h =
      then _ _ _ _ (no_fault _ _) (λ u no. then _ _ _ _ (holds (fits wanted (type_of t)) _ _)
      (λ u fit. gives _ _ (h, fit)))

  pub value_known :
      (s : Span) (wanted : Option Ty) (e : Judged TExp) → Sure text program e Fine
      → Sure text program (as_value s wanted e) (Value wanted)
  value_known s wanted e sure = then _ _ _ _ sure (λ t h. valued_known s wanted t h)

  pub chosen_known :
      (id : ℕ) (s : Span) (c a b : TExp) → Fine c → Has type.Bool c → Fine a → Fine b
      → Sure text program (chosen id s c a b) Fine
  chosen_known id s c a b hc bool ha hb =
      then _ _ _ _ (holds (one_type (type_of a) (type_of b)) _ _)
      (λ u same. gives _ _ (hc, ha, hb, bool, (refl, sym same)))

  pub literal_known :
      (id : ℕ) (s : Span) (negative : Bool) (n : ℕ) → Sure text program (number_literal id s negative n) Fine
  literal_known id s negative n = then _ _ _ _ (holds (at_most n (largest negative)) _ _) (λ u h. gives _ _ refl)

  -- ---- operators

  pub operated_known :
      (id : ℕ) (s mark : Span) (o : Operation) (a b : TExp) → Fine a → Fine b
      → Sure text program (operated id s mark o a b) Fine
  operated_known id s mark (logical o) a b ha hb =
      then _ _ _ _ (holds (both_are type.Bool a b) _ _) (λ u h. gives _ _ (ha, hb, h, refl))
  operated_known id s mark (equality o) a b ha hb =
      then _ _ _ _ (holds (either (both_are type.Int a b) (both_are type.Bool a b)) _ _)
      (λ u h. gives _ _ (ha, hb, h, refl))
  operated_known id s mark (order o) a b ha hb =
      then _ _ _ _ (holds (both_are type.Int a b) _ _) (λ u h. gives _ _ (ha, hb, inl h, refl))
  operated_known id s mark (trapping o) a b ha hb =
      then _ _ _ _ (holds (both_are type.Int a b) _ _) (λ u h. gives _ _ (ha, hb, h, refl))
  operated_known id s mark (wrapping o) a b ha hb =
      then _ _ _ _ (holds (both_are type.Int a b) _ _) (λ u h. gives _ _ (ha, hb, h, refl))

  pub prefixed_known :
      (id : ℕ) (s : Span) (o : PrefixOperator) (e : TExp) → Fine e → Sure text program (prefixed id s o e) Fine
  prefixed_known id s prefix.Minus e h = then _ _ _ _ (holds (is_of type.Int e) _ _) (λ u int. gives _ _ (h, int, refl))
  prefixed_known id s prefix.Not e h =
      then _ _ _ _ (holds (is_of type.Bool e) _ _) (λ u bool. gives _ _ (h, bool, refl))
