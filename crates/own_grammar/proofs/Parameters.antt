-- Results, types and parameters: what is spelled is read, and what is read is spelled.
use Rattle.std.proofs.Common.{◌≡◌, ℕ, ◌≤◌, Bool, true, false, List, [], ◌∷◌, length, Option, Some, None, Ok, Err, inl, inr, refl, sym, ap, ◌∙◌, arith, cond, ◌++◌}
use Rattle.own_tree.specs.declared.span.Span.{Span}
use Rattle.own_tree.specs.declared.token.Word.{Word}
use Rattle.own_tree.specs.declared.token.Mark.{Mark}
use Rattle.own_tree.specs.declared.token.Kind.{Kind}
use Rattle.own_tree.specs.declared.token.Kind.TheVariants as kind
use Rattle.own_tree.specs.declared.token.Mark.TheVariants as mark
use Rattle.own_tree.specs.declared.tree.Name.{Name}
use Rattle.own_tree.specs.declared.tree.Parameter.{Parameter}
use Rattle.own_tree.specs.declared.tree.Label.{Label}
use Rattle.own_tree.specs.declared.tree.Label.TheVariants as label
use Rattle.own_tree.specs.declared.tree.ParameterType.{ParameterType}
use Rattle.own_tree.specs.declared.tree.ParameterType.TheVariants as written
use Rattle.own_tree.specs.declared.tree.FunctionParameter.{FunctionParameter}
use Rattle.own_tree.specs.declared.tree.PassingMode.{PassingMode}
use Rattle.own_tree.specs.declared.tree.ResultType.{ResultType}
use Rattle.own_tree.specs.declared.tree.ResultType.TheVariants as answer
use Rattle.own_grammar.specs.Tests.{Toks, after, here, till, kind_at, is_mark, name_at, name_in}
use Rattle.own_grammar.specs.Reading.{Syntax, Depth, Read, ◌>>=◌, syntax_at, on_some}
use Rattle.own_grammar.specs.Lists.{Bracketed, bracketed_with, listed_on}
use Rattle.own_grammar.specs.Declarations.{passing_in, passing_at, Moded, result_span, SpellsResult, Returns, SpellsInner, type_span, SpellsType, Labelled, SpellsParameter, SpellsParameters}
use Rattle.own_grammar.specs.ReadingFile.{wanted, result_with, returns_with, moded_with, inner_with, arrow_with, type_with, labelled_with, parameter_with, parameters_with}
use Rattle.own_grammar.proofs.Facts.{mark_kind, at_mark, name_kind, name_span}
use Rattle.own_grammar.proofs.Lengths.{after_le}
use Rattle.own_grammar.proofs.ListLaws.{bracketed_complete, bracketed_sound, bracketed_shallow, bracketed_le, listed_is}
use Rattle.own_grammar.proofs.Steps.{done, bind_ok, ok_is, chosen, kept, some_or, some_kept, bind_err, bind_deep, syn, some_syn, no_ok}

-- ---- tests

pub wanted_is : {A : Type 0} (b : Bool) (ts : Toks) (r : Read A) → b ≡ true → wanted b ts r ≡ r
unfolding wanted
wanted_is b ts r e = rw e refl

pub wanted_ok : {A : Type 0} (b : Bool) (ts : Toks) (r : Read A) (x : A × Toks) → wanted b ts r ≡ Ok x → (b ≡ true) × (r ≡ Ok x)
unfolding wanted
wanted_ok b ts r x e = kept b r (Syntax (length ts)) x e

pub wanted_deep : {A : Type 0} (b : Bool) (ts : Toks) (r : Read A) (n : ℕ) → wanted b ts r ≡ Err (Depth n) → (b ≡ true) × (r ≡ Err (Depth n))
unfolding wanted
wanted_deep b ts r n e = syn b r (length ts) n e

pub not_name : (ts : Toks) (x : Option Kind) → kind_at ts ≡ x → name_in (here ts) x ≡ None → name_at ts ≡ None
unfolding name_at
not_name ts x e isnt = rw e isnt

passing_word_in : (x : Option Kind) (m : PassingMode) → passing_in x ≡ Some m → (w : Word) × (x ≡ Some (kind.Word w))
passing_word_in None m e = absurd cc
passing_word_in (Some (kind.Name x)) m e = absurd cc
passing_word_in (Some (kind.Word x)) m e = (x, refl)
passing_word_in (Some (kind.Number x)) m e = absurd cc
passing_word_in (Some (kind.Text x)) m e = absurd cc
passing_word_in (Some (kind.Mark x)) m e = absurd cc

passing_word : (ts : Toks) (m : PassingMode) → passing_at ts ≡ Some m → (w : Word) × (kind_at ts ≡ Some (kind.Word w))
unfolding passing_at
passing_word ts m e = passing_word_in (kind_at ts) m e

no_passing : (ts : Toks) (n : Name) → name_at ts ≡ Some n → passing_at ts ≡ None
unfolding passing_at
no_passing ts n e = rw (name_kind ts n e) refl

pub name_no_mark : (a : Mark) (ts : Toks) (n : Name) → name_at ts ≡ Some n → is_mark a ts ≡ false
name_no_mark a ts n e = at_mark a ts _ (name_kind ts n e)

-- ---- results

pub result_is : (r : ResultType) (from to : Toks) → SpellsResult r from to → result_with from ≡ Ok (r, to)
unfolding result_with wanted
result_is (answer.Named n) from to (nm, is) = rw (nm, is) refl
result_is (answer.Empty s) from to (lp, rp, is, r) = rw (not_name from _ lp refl, at_mark mark.OpenParen from _ lp, at_mark mark.CloseParen (after from) _ rp, is, r) refl

abbrev empty_read : Toks → Read ResultType
empty_read ts = Ok (answer.Empty (till (here ts) (here (after ts))), after (after ts))

pub result_sound : (ts : Toks) (x : ResultType × Toks) → result_with ts ≡ Ok x → SpellsResult x.0 ts x.1
unfolding result_with
result_sound ts x e = elim (some_or (name_at ts) (λ n. done (answer.Named n, after ts)) (wanted (is_mark mark.OpenParen ts) ts (wanted (is_mark mark.CloseParen (after ts)) (after ts) (empty_read ts))) _ e) [
  | inl n ↦ rw (← ok_is (answer.Named n.0, after ts) x n.2) (n.1, refl)
  | inr y ↦ (
      let a = wanted_ok (is_mark mark.OpenParen ts) ts (wanted (is_mark mark.CloseParen (after ts)) (after ts) (empty_read ts)) x y.1 in
      let b = wanted_ok (is_mark mark.CloseParen (after ts)) (after ts) (empty_read ts) x a.1 in
      rw (← ok_is (answer.Empty (till (here ts) (here (after ts))), after (after ts)) x b.1) (mark_kind mark.OpenParen ts a.0, mark_kind mark.CloseParen (after ts) b.0, refl, refl))
]

result_shallow : (ts : Toks) (n : ℕ) → result_with ts ≡ Err (Depth n) → ⊥
unfolding result_with
result_shallow ts n e = elim (some_or (name_at ts) (λ n. done (answer.Named n, after ts)) (wanted (is_mark mark.OpenParen ts) ts (wanted (is_mark mark.CloseParen (after ts)) (after ts) (empty_read ts))) _ e) [
  | inl m ↦ no_ok _ n m.2
  | inr y ↦ (
      let a = wanted_deep (is_mark mark.OpenParen ts) ts (wanted (is_mark mark.CloseParen (after ts)) (after ts) (empty_read ts)) n y.1 in
      let b = wanted_deep (is_mark mark.CloseParen (after ts)) (after ts) (empty_read ts) n a.1 in
      no_ok _ n b.1)
]

result_le : (r : ResultType) (from to : Toks) → SpellsResult r from to → length to ≤ length from
result_le (answer.Named n) from to (nm, is) = rw is (after_le from)
result_le (answer.Empty s) from to (lp, rp, is, r) = rw is (let a = after_le from in let b = after_le (after from) in omega arith)

pub returns_is : (r : Option ResultType) (from to : Toks) → Returns r from to → is_mark mark.Arrow to ≡ false → returns_with from ≡ Ok (r, to)
unfolding returns_with
returns_is None from to is arrow = rw (← is, arrow) refl
returns_is (Some r) from to (k, sp) arrow = rw (at_mark mark.Arrow from _ k, result_is r (after from) to sp) refl

pub returns_sound : (ts : Toks) (x : Option ResultType × Toks) → returns_with ts ≡ Ok x → Returns x.0 ts x.1
unfolding returns_with
returns_sound ts x e = elim (chosen (is_mark mark.Arrow ts) (result_with (after ts) >>= λ r. done (Some r.0, r.1)) (done (None, ts)) _ e) [
  | inl y ↦ (let c = bind_ok (result_with (after ts)) (λ r. done (Some r.0, r.1)) x y.1 in rw (← ok_is (Some c.0.0, c.0.1) x c.2) (mark_kind mark.Arrow ts y.0, result_sound (after ts) c.0 c.1))
  | inr y ↦ rw (← ok_is (None, ts) x y.1) refl
]

pub returns_shallow : (ts : Toks) (n : ℕ) → returns_with ts ≡ Err (Depth n) → ⊥
unfolding returns_with
returns_shallow ts n e = elim (chosen (is_mark mark.Arrow ts) (result_with (after ts) >>= λ r. done (Some r.0, r.1)) (done (None, ts)) _ e) [
  | inl y ↦ result_shallow (after ts) n (bind_deep (result_with (after ts)) (λ r. (Some r.0, r.1)) n y.1)
  | inr y ↦ no_ok _ n y.1
]

pub returns_le : (r : Option ResultType) (from to : Toks) → Returns r from to → length to ≤ length from
returns_le None from to is = rw is (omega arith)
returns_le (Some r) from to (k, sp) = (let a = after_le from in let b = result_le r (after from) to sp in omega arith)

-- ---- a name and its mode

moded_is : (m : Option PassingMode) (n : Name) (from mid : Toks) → Moded m from mid → name_at mid ≡ Some n → moded_with from ≡ Ok ((m, n), after mid)
unfolding moded_with
moded_is None n from mid is nm = rw (← is, no_passing mid n nm, nm) refl
moded_is (Some m) n from mid (k, is) nm = let nm2 = rw is at nm in rw (is, k, nm2) refl

abbrev ModedRead : Option PassingMode × Name → Toks → Toks → Type 0
ModedRead x from to = (mid : Toks) × Moded x.0 from mid × (name_at mid ≡ Some x.1) × (to ≡ after mid)

moded_sound : (ts : Toks) (x : (Option PassingMode × Name) × Toks) → moded_with ts ≡ Ok x → ModedRead x.0 ts x.1
unfolding moded_with
moded_sound ts x e = elim (some_or (passing_at ts) (λ m. on_some (name_at (after ts)) (λ n. done ((Some m, n), after (after ts))) (syntax_at (after ts))) (on_some (name_at ts) (λ n. done ((None, n), after ts)) (syntax_at ts)) _ e) [
  | inl m ↦ (let n = some_kept (name_at (after ts)) (λ n. done ((Some m.0, n), after (after ts))) (Syntax (length (after ts))) x m.2 in rw (← ok_is ((Some m.0, n.0), after (after ts)) x n.2) (after ts, (m.1, refl), n.1, refl))
  | inr y ↦ (let n = some_kept (name_at ts) (λ n. done ((None, n), after ts)) (Syntax (length ts)) x y.1 in rw (← ok_is ((None, n.0), after ts) x n.2) (ts, refl, n.1, refl))
]

moded_shallow : (ts : Toks) (n : ℕ) → moded_with ts ≡ Err (Depth n) → ⊥
unfolding moded_with
moded_shallow ts n e = elim (some_or (passing_at ts) (λ m. on_some (name_at (after ts)) (λ n. done ((Some m, n), after (after ts))) (syntax_at (after ts))) (on_some (name_at ts) (λ n. done ((None, n), after ts)) (syntax_at ts)) _ e) [
  | inl m ↦ (let q = some_syn (name_at (after ts)) (λ n. done ((Some m.0, n), after (after ts))) (length (after ts)) n m.2 in no_ok _ n q.2)
  | inr y ↦ (let q = some_syn (name_at ts) (λ n. done ((None, n), after ts)) (length ts) n y.1 in no_ok _ n q.2)
]

moded_le : (m : Option PassingMode) (from mid : Toks) → Moded m from mid → length mid ≤ length from
moded_le None from mid is = rw is (omega arith)
moded_le (Some m) from mid (k, is) = rw is (after_le from)

moded_no_mark : (a : Mark) (m : Option PassingMode) (n : Name) (from mid : Toks) → Moded m from mid → name_at mid ≡ Some n → is_mark a from ≡ false
moded_no_mark a None n from mid is nm = name_no_mark a from n (rw is at nm)
moded_no_mark a (Some m) n from mid (k, is) nm = at_mark a from _ (passing_word from m k).1

-- ---- a parameter inside a function type

abbrev Free : Toks → Type 0
Free ts = Unit {0}

inner_same : (p : FunctionParameter) (s : Span) → p.span ≡ s → record { span = s; mode = p.mode; name = p.name } ≡ p
inner_same p s e = rw (← e) refl

inner_is : (p : FunctionParameter) (from to : Toks) → SpellsInner p from to → Free to → inner_with from ≡ Ok (p, to)
unfolding inner_with
inner_is p from to (mid, md, nm, is, s) f = rw (moded_is p.mode p.name from mid md nm, is) (ap (λ (q : FunctionParameter). Ok (q, after mid)) (inner_same p (till (here from) p.name.span) (s ∙ ap (λ (t : Span). till (here from) t) (sym (name_span mid p.name nm)))))

inner_sound : (ts : Toks) (x : FunctionParameter × Toks) → inner_with ts ≡ Ok x → SpellsInner x.0 ts x.1
unfolding inner_with
inner_sound ts x e =
    let c = bind_ok (moded_with ts) (λ r. done (record { span = till (here ts) r.0.1.span; mode = r.0.0; name = r.0.1 }, r.1)) x e in
    let s = moded_sound ts c.0 c.1 in
    rw (← ok_is (record { span = till (here ts) c.0.0.1.span; mode = c.0.0.0; name = c.0.0.1 }, c.0.1) x c.2) (s.0, s.1, s.2, s.3, ap (λ (t : Span). till (here ts) t) (name_span s.0 c.0.0.1 s.2))

inner_shallow : (ts : Toks) (n : ℕ) → inner_with ts ≡ Err (Depth n) → ⊥
unfolding inner_with
inner_shallow ts n e = moded_shallow ts n (bind_deep (moded_with ts) (λ r. (record { span = till (here ts) r.0.1.span; mode = r.0.0; name = r.0.1 }, r.1)) n e)

inner_le : (p : FunctionParameter) (from to : Toks) → SpellsInner p from to → length to ≤ length from
inner_le p from to (mid, md, nm, is, s) = rw is (let a = moded_le p.mode from mid md in let b = after_le mid in omega arith)

inner_starts : (p : FunctionParameter) (from to : Toks) → SpellsInner p from to → is_mark mark.CloseParen from ≡ false
inner_starts p from to (mid, md, nm, is, s) = moded_no_mark mark.CloseParen p.mode p.name from mid md nm

-- ---- written types

inners_is : (ps : List FunctionParameter) (from last : Toks) → Bracketed SpellsInner ps from last → bracketed_with inner_with from ≡ Ok (ps, last)
inners_is ps from last sp = bracketed_complete SpellsInner inner_with Free inner_is inner_sound inner_le (λ ts k. tt) inner_starts inner_shallow (λ ts k. tt) ps from last sp

inners_sound : (ts : Toks) (x : List FunctionParameter × Toks) → bracketed_with inner_with ts ≡ Ok x → Bracketed SpellsInner x.0 ts x.1
inners_sound ts x e = bracketed_sound SpellsInner inner_with Free inner_is inner_sound inner_le (λ ts k. tt) inner_starts inner_shallow ts x e

inners_shallow : (ts : Toks) (n : ℕ) → bracketed_with inner_with ts ≡ Err (Depth n) → ⊥
inners_shallow ts n e = bracketed_shallow SpellsInner inner_with Free inner_is inner_sound inner_le (λ ts k. tt) inner_starts inner_shallow ts n e

bracket_starts : {A : Type 0} (S : A → Toks → Toks → Type 0) (xs : List A) (from last : Toks) → Bracketed S xs from last → kind_at from ≡ Some (kind.Mark mark.OpenParen)
bracket_starts S [] from last sp = sp.0
bracket_starts S (x ∷ xs) from last sp = sp.0

type_is : (w : ParameterType) (from to : Toks) → SpellsType w from to → type_with from ≡ Ok (w, to)
unfolding type_with arrow_with wanted
type_is (written.Named s m n) from to (mid, md, nm, is, r) =
    rw (moded_no_mark mark.OpenParen m n from mid md nm, moded_is m n from mid md nm, is, r) (ap (λ (t : Span). Ok (written.Named (till (here from) t) m n, after mid)) (name_span mid n nm))
type_is (written.Function s ps r) from to (last, sp, arrow, res, is) =
    rw (at_mark mark.OpenParen from _ (bracket_starts SpellsInner ps from last sp), inners_is ps from last sp, at_mark mark.Arrow (after last) _ arrow, result_is r (after (after last)) to res, is) refl

type_sound : (ts : Toks) (x : ParameterType × Toks) → type_with ts ≡ Ok x → SpellsType x.0 ts x.1
unfolding type_with arrow_with
type_sound ts x e = elim (chosen (is_mark mark.OpenParen ts) (bracketed_with inner_with ts >>= λ ps. arrow_with ts ps.0 ps.1) (moded_with ts >>= λ r. done (written.Named (till (here ts) r.0.1.span) r.0.0 r.0.1, r.1)) _ e) [
  | inl y ↦ (
      let c = bind_ok (bracketed_with inner_with ts) (λ ps. arrow_with ts ps.0 ps.1) x y.1 in
      let s = inners_sound ts c.0 c.1 in
      let us = after (after c.0.1) in
      let w = wanted_ok (is_mark mark.Arrow (after c.0.1)) (after c.0.1) (result_with us >>= λ r. done (written.Function (till (here ts) (result_span r.0)) c.0.0 r.0, r.1)) x c.2 in
      let r = bind_ok (result_with us) (λ r. done (written.Function (till (here ts) (result_span r.0)) c.0.0 r.0, r.1)) x w.1 in
      rw (← ok_is (written.Function (till (here ts) (result_span r.0.0)) c.0.0 r.0.0, r.0.1) x r.2) (c.0.1, s, mark_kind mark.Arrow (after c.0.1) w.0, result_sound us r.0 r.1, refl))
  | inr y ↦ (
      let c = bind_ok (moded_with ts) (λ r. done (written.Named (till (here ts) r.0.1.span) r.0.0 r.0.1, r.1)) x y.1 in
      let s = moded_sound ts c.0 c.1 in
      rw (← ok_is (written.Named (till (here ts) c.0.0.1.span) c.0.0.0 c.0.0.1, c.0.1) x c.2) (s.0, s.1, s.2, s.3, ap (λ (t : Span). till (here ts) t) (name_span s.0 c.0.0.1 s.2)))
]

type_shallow : (ts : Toks) (n : ℕ) → type_with ts ≡ Err (Depth n) → ⊥
unfolding type_with arrow_with
type_shallow ts n e = elim (chosen (is_mark mark.OpenParen ts) (bracketed_with inner_with ts >>= λ ps. arrow_with ts ps.0 ps.1) (moded_with ts >>= λ r. done (written.Named (till (here ts) r.0.1.span) r.0.0 r.0.1, r.1)) _ e) [
  | inl y ↦ elim (bind_err (bracketed_with inner_with ts) (λ ps. arrow_with ts ps.0 ps.1) _ y.1) [
    | inl z ↦ inners_shallow ts n z
    | inr z ↦ (
        let us = after (after z.0.1) in
        let w = wanted_deep (is_mark mark.Arrow (after z.0.1)) (after z.0.1) (result_with us >>= λ r. done (written.Function (till (here ts) (result_span r.0)) z.0.0 r.0, r.1)) n z.2 in
        result_shallow us n (bind_deep (result_with us) (λ r. (written.Function (till (here ts) (result_span r.0)) z.0.0 r.0, r.1)) n w.1))
  ]
  | inr y ↦ moded_shallow ts n (bind_deep (moded_with ts) (λ r. (written.Named (till (here ts) r.0.1.span) r.0.0 r.0.1, r.1)) n y.1)
]

type_le : (w : ParameterType) (from to : Toks) → SpellsType w from to → length to ≤ length from
type_le (written.Named s m n) from to (mid, md, nm, is, r) = rw is (let a = moded_le m from mid md in let b = after_le mid in omega arith)
type_le (written.Function s ps r) from to (last, sp, arrow, res, is) =
    (let a = bracketed_le SpellsInner inner_with Free inner_is inner_sound inner_le (λ ts k. tt) inner_starts inner_shallow ps from last sp in let b = after_le last in let c = after_le (after last) in let d = result_le r (after (after last)) to res in omega arith)

-- ---- parameters

labelled_is : (l : Label) (n : Name) (from mid : Toks) → Labelled l n from mid → kind_at mid ≡ Some (kind.Mark mark.Colon) → labelled_with from ≡ Ok ((l, n), mid)
unfolding labelled_with
labelled_is label.Same n from mid (nm, is) colon = let k = not_name mid _ colon refl in let k2 = rw is at k in rw (is, name_no_mark mark.Underscore from n nm, nm, k2) refl
labelled_is label.Omitted n from mid (u, nm, is) colon = rw (is, at_mark mark.Underscore from _ u, nm) refl
labelled_is (label.Other l) n from mid (lb, nm, is) colon = rw (is, name_no_mark mark.Underscore from l lb, lb, nm) refl

labelled_sound : (ts : Toks) (x : (Label × Name) × Toks) → labelled_with ts ≡ Ok x → Labelled x.0.0 x.0.1 ts x.1
unfolding labelled_with
labelled_sound ts x e = elim (chosen (is_mark mark.Underscore ts) (on_some (name_at (after ts)) (λ n. done ((label.Omitted, n), after (after ts))) (syntax_at (after ts))) (on_some (name_at ts) (λ l. on_some (name_at (after ts)) (λ n. done ((label.Other l, n), after (after ts))) (done ((label.Same, l), after ts))) (syntax_at ts)) _ e) [
  | inl y ↦ (let n = some_kept (name_at (after ts)) (λ n. done ((label.Omitted, n), after (after ts))) (Syntax (length (after ts))) x y.1 in rw (← ok_is ((label.Omitted, n.0), after (after ts)) x n.2) (mark_kind mark.Underscore ts y.0, n.1, refl))
  | inr y ↦ (
      let l = some_kept (name_at ts) (λ l. on_some (name_at (after ts)) (λ n. done ((label.Other l, n), after (after ts))) (done ((label.Same, l), after ts))) (Syntax (length ts)) x y.1 in
      elim (some_or (name_at (after ts)) (λ n. done ((label.Other l.0, n), after (after ts))) (done ((label.Same, l.0), after ts)) _ l.2) [
        | inl n ↦ rw (← ok_is ((label.Other l.0, n.0), after (after ts)) x n.2) (l.1, n.1, refl)
        | inr n ↦ rw (← ok_is ((label.Same, l.0), after ts) x n.1) (l.1, refl)
      ])
]

labelled_shallow : (ts : Toks) (n : ℕ) → labelled_with ts ≡ Err (Depth n) → ⊥
unfolding labelled_with
labelled_shallow ts n e = elim (chosen (is_mark mark.Underscore ts) (on_some (name_at (after ts)) (λ n. done ((label.Omitted, n), after (after ts))) (syntax_at (after ts))) (on_some (name_at ts) (λ l. on_some (name_at (after ts)) (λ n. done ((label.Other l, n), after (after ts))) (done ((label.Same, l), after ts))) (syntax_at ts)) _ e) [
  | inl y ↦ (let q = some_syn (name_at (after ts)) (λ n. done ((label.Omitted, n), after (after ts))) (length (after ts)) n y.1 in no_ok _ n q.2)
  | inr y ↦ (
      let l = some_syn (name_at ts) (λ l. on_some (name_at (after ts)) (λ n. done ((label.Other l, n), after (after ts))) (done ((label.Same, l), after ts))) (length ts) n y.1 in
      elim (some_or (name_at (after ts)) (λ n. done ((label.Other l.0, n), after (after ts))) (done ((label.Same, l.0), after ts)) _ l.2) [
        | inl m ↦ no_ok _ n m.2
        | inr m ↦ no_ok _ n m.1
      ])
]

labelled_le : (l : Label) (n : Name) (from mid : Toks) → Labelled l n from mid → length mid ≤ length from
labelled_le label.Same n from mid (nm, is) = rw is (after_le from)
labelled_le label.Omitted n from mid (u, nm, is) = rw is (let a = after_le from in let b = after_le (after from) in omega arith)
labelled_le (label.Other l) n from mid (lb, nm, is) = rw is (let a = after_le from in let b = after_le (after from) in omega arith)

parameter_same : (p : Parameter) (s : Span) → p.span ≡ s → record { span = s; label = p.label; name = p.name; written = p.written } ≡ p
parameter_same p s e = rw (← e) refl

parameter_is : (p : Parameter) (from to : Toks) → SpellsParameter p from to → Free to → parameter_with from ≡ Ok (p, to)
unfolding parameter_with wanted
parameter_is p from to (mid, lab, colon, ty, s) f =
    rw (labelled_is p.label p.name from mid lab colon, at_mark mark.Colon mid _ colon, type_is p.written (after mid) to ty) (ap (λ (q : Parameter). Ok (q, to)) (parameter_same p _ s))

parameter_sound : (ts : Toks) (x : Parameter × Toks) → parameter_with ts ≡ Ok x → SpellsParameter x.0 ts x.1
unfolding parameter_with
parameter_sound ts x e =
    let l = bind_ok (labelled_with ts) (λ l. wanted (is_mark mark.Colon l.1) l.1 (type_with (after l.1) >>= λ w. done (record { span = till (here ts) (type_span w.0); label = l.0.0; name = l.0.1; written = w.0 }, w.1))) x e in
    let q = wanted_ok (is_mark mark.Colon l.0.1) l.0.1 (type_with (after l.0.1) >>= λ w. done (record { span = till (here ts) (type_span w.0); label = l.0.0.0; name = l.0.0.1; written = w.0 }, w.1)) x l.2 in
    let w = bind_ok (type_with (after l.0.1)) (λ w. done (record { span = till (here ts) (type_span w.0); label = l.0.0.0; name = l.0.0.1; written = w.0 }, w.1)) x q.1 in
    rw (← ok_is (record { span = till (here ts) (type_span w.0.0); label = l.0.0.0; name = l.0.0.1; written = w.0.0 }, w.0.1) x w.2) (l.0.1, labelled_sound ts l.0 l.1, mark_kind mark.Colon l.0.1 q.0, type_sound (after l.0.1) w.0 w.1, refl)

parameter_shallow : (ts : Toks) (n : ℕ) → parameter_with ts ≡ Err (Depth n) → ⊥
unfolding parameter_with
parameter_shallow ts n e = elim (bind_err (labelled_with ts) (λ l. wanted (is_mark mark.Colon l.1) l.1 (type_with (after l.1) >>= λ w. done (record { span = till (here ts) (type_span w.0); label = l.0.0; name = l.0.1; written = w.0 }, w.1))) _ e) [
  | inl y ↦ labelled_shallow ts n y
  | inr l ↦ (
      let q = wanted_deep (is_mark mark.Colon l.0.1) l.0.1 (type_with (after l.0.1) >>= λ w. done (record { span = till (here ts) (type_span w.0); label = l.0.0.0; name = l.0.0.1; written = w.0 }, w.1)) n l.2 in
      type_shallow (after l.0.1) n (bind_deep (type_with (after l.0.1)) (λ w. (record { span = till (here ts) (type_span w.0); label = l.0.0.0; name = l.0.0.1; written = w.0 }, w.1)) n q.1))
]

parameter_le : (p : Parameter) (from to : Toks) → SpellsParameter p from to → length to ≤ length from
parameter_le p from to (mid, lab, colon, ty, s) = (let a = labelled_le p.label p.name from mid lab in let b = after_le mid in let c = type_le p.written (after mid) to ty in omega arith)

labelled_starts : (l : Label) (n : Name) (from mid : Toks) → Labelled l n from mid → is_mark mark.CloseParen from ≡ false
labelled_starts label.Same n from mid (nm, is) = name_no_mark mark.CloseParen from n nm
labelled_starts label.Omitted n from mid (u, nm, is) = at_mark mark.CloseParen from _ u
labelled_starts (label.Other l) n from mid (lb, nm, is) = name_no_mark mark.CloseParen from l lb

parameter_starts : (p : Parameter) (from to : Toks) → SpellsParameter p from to → is_mark mark.CloseParen from ≡ false
parameter_starts p from to (mid, lab, colon, ty, s) = labelled_starts p.label p.name from mid lab

pub parameters_is : (ps : List Parameter) (from to : Toks) → SpellsParameters ps from to → parameters_with from ≡ Ok (ps, to)
unfolding parameters_with
parameters_is ps from to (last, sp, is) =
    rw (bracketed_complete SpellsParameter parameter_with Free parameter_is parameter_sound parameter_le (λ ts k. tt) parameter_starts parameter_shallow (λ ts k. tt) ps from last sp, is) refl

pub parameters_sound : (ts : Toks) (x : List Parameter × Toks) → parameters_with ts ≡ Ok x → SpellsParameters x.0 ts x.1
unfolding parameters_with
parameters_sound ts x e =
    let c = bind_ok (bracketed_with parameter_with ts) (λ ps. done (ps.0, after ps.1)) x e in
    rw (← ok_is (c.0.0, after c.0.1) x c.2) (c.0.1, bracketed_sound SpellsParameter parameter_with Free parameter_is parameter_sound parameter_le (λ ts k. tt) parameter_starts parameter_shallow ts c.0 c.1, refl)

pub parameters_shallow : (ts : Toks) (n : ℕ) → parameters_with ts ≡ Err (Depth n) → ⊥
unfolding parameters_with
parameters_shallow ts n e = bracketed_shallow SpellsParameter parameter_with Free parameter_is parameter_sound parameter_le (λ ts k. tt) parameter_starts parameter_shallow ts n (bind_deep (bracketed_with parameter_with ts) (λ ps. (ps.0, after ps.1)) n e)

pub parameters_le : (ps : List Parameter) (from to : Toks) → SpellsParameters ps from to → length to ≤ length from
parameters_le ps from to (last, sp, is) = rw is (let a = bracketed_le SpellsParameter parameter_with Free parameter_is parameter_sound parameter_le (λ ts k. tt) parameter_starts parameter_shallow ps from last sp in let b = after_le last in omega arith)

-- ---- one turn of each loop

pub inner_list_is : (found : List FunctionParameter) (ts : Toks) → listed_on inner_with found ts ≡ (inner_with ts >>= λ x. cond (is_mark mark.Comma x.1) (listed_on inner_with (found ++ x.0 ∷ []) (after x.1)) (done (found ++ x.0 ∷ [], x.1)))
inner_list_is found ts = listed_is SpellsInner inner_with Free inner_is inner_sound inner_le (λ ts k. tt) inner_starts inner_shallow found ts

pub parameter_list_is : (found : List Parameter) (ts : Toks) → listed_on parameter_with found ts ≡ (parameter_with ts >>= λ x. cond (is_mark mark.Comma x.1) (listed_on parameter_with (found ++ x.0 ∷ []) (after x.1)) (done (found ++ x.0 ∷ [], x.1)))
parameter_list_is found ts = listed_is SpellsParameter parameter_with Free parameter_is parameter_sound parameter_le (λ ts k. tt) parameter_starts parameter_shallow found ts
