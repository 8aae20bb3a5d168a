-- Expressions as values: the nodes of typed expressions, literals and operators.
use Rattle.std.specs.Prelude.{ℕ, ◌-◌, ◌^◌, ℤ, pos, ◌-ℤ◌, Bool, true, false, Option, Some, None}
use Rattle.own_tree.specs.declared.arithmetic.Arith.{Arith}
use Rattle.own_tree.specs.declared.arithmetic.Arith.TheVariants as arithmetic
use Rattle.own_tree.specs.declared.place.Ty.{Ty}
use Rattle.own_tree.specs.declared.place.Ty.TheVariants as type
use Rattle.own_tree.specs.declared.span.Span.{Span}
use Rattle.own_tree.specs.declared.tree.BinaryOperator.{BinaryOperator}
use Rattle.own_tree.specs.declared.tree.BinaryOperator.TheVariants as binary
use Rattle.own_tree.specs.declared.tree.PrefixOperator.{PrefixOperator}
use Rattle.own_tree.specs.declared.tree.PrefixOperator.TheVariants as prefix
use Rattle.own_tree.specs.declared.typed.At.{At}
use Rattle.own_tree.specs.declared.typed.Comparison.{Comparison}
use Rattle.own_tree.specs.declared.typed.Comparison.TheVariants as compare
use Rattle.own_tree.specs.declared.typed.Logic.{Logic}
use Rattle.own_tree.specs.declared.typed.Logic.TheVariants as logic
use Rattle.own_tree.specs.Source as tree
use Rattle.own_tree.specs.Source.{Exp}
use Rattle.own_tree.specs.TypedSource as typed
use Rattle.own_tree.specs.TypedSource.{TExp}
use Rattle.own_shapes.specs.Spans.{opening}
use Rattle.own_paths.specs.Within.{node_of}
use Rattle.own_judging.specs.Judged.{Judged, Test}
use Rattle.own_judged.specs.Codes.{T12, T14, T15, T24, T29, T32}
use Rattle.own_judged.specs.Conditions.{one_type, fits, at_most, both, either}
use Rattle.own_judged.specs.Rules.{yields, ◌>>=◌, ◌>>◌, holding, unless}

-- ---- nodes

abbrev pub at : (id : ℕ) → Span → Ty → At
at id s ty = record { id = id; span = s; ty = ty }

-- from the begin of one span to the end of another
abbrev pub till : Span → Span → Span
till a b = record { start = a.start; end = b.end }

abbrev pub span_of : Exp → Span
span_of (tree.number s negative n) = s
span_of (tree.text s t) = s
span_of (tree.truth s b) = s
span_of (tree.path p) = p.span
span_of (tree.implicit_member s n) = s
span_of (tree.parenthesized s e) = s
span_of (tree.consumed s p) = s
span_of (tree.prefix s o e) = s
span_of (tree.binary s o mark a b) = s
span_of (tree.choice s c a b) = s
span_of (tree.member s e n) = s
span_of (tree.call s f es) = s
span_of (tree.call_closing s f es c) = s
span_of (tree.call_closure s f c) = s

abbrev pub type_of : TExp → Ty
type_of t = (node_of t).ty

abbrev pub is_of : Ty → TExp → Test
is_of ty t = one_type (type_of t) ty

-- without the parentheses round it
abbrev pub inside_parentheses : TExp → TExp
inside_parentheses (typed.parenthesized at e) = inside_parentheses e
inside_parentheses (typed.number at n) = typed.number at n
inside_parentheses (typed.text at t) = typed.text at t
inside_parentheses (typed.truth at b) = typed.truth at b
inside_parentheses (typed.path p) = typed.path p
inside_parentheses (typed.consumed at p) = typed.consumed at p
inside_parentheses (typed.negated at mark e) = typed.negated at mark e
inside_parentheses (typed.inverted at e) = typed.inverted at e
inside_parentheses (typed.arithmetic at o mark a b) = typed.arithmetic at o mark a b
inside_parentheses (typed.wrapping at o a b) = typed.wrapping at o a b
inside_parentheses (typed.compared at o a b) = typed.compared at o a b
inside_parentheses (typed.logic at o a b) = typed.logic at o a b
inside_parentheses (typed.choice at c a b) = typed.choice at c a b
inside_parentheses (typed.member at e k) = typed.member at e k
inside_parentheses (typed.call at to es passings) = typed.call at to es passings
inside_parentheses (typed.address p) = typed.address p
inside_parentheses (typed.closure at k) = typed.closure at k
inside_parentheses (typed.function at x) = typed.function at x

-- ---- values

-- The judgement by which an expression is no value: it is a call without a result, a text or a function.
abbrev pub without_value : Ty → Option ℕ
without_value type.Unit = Some T32
without_value type.Int = None
without_value type.Bool = None
without_value (type.Named k) = None
without_value (type.Fun k) = Some T24

abbrev pub no_value : TExp → Option ℕ
no_value (typed.text at t) = Some T29
no_value (typed.parenthesized at e) = no_value e
no_value (typed.number at n) = None
no_value (typed.truth at b) = None
no_value (typed.path p) = None
no_value (typed.consumed at p) = None
no_value (typed.negated at mark e) = None
no_value (typed.inverted at e) = None
no_value (typed.arithmetic at o mark a b) = None
no_value (typed.wrapping at o a b) = None
no_value (typed.compared at o a b) = None
no_value (typed.logic at o a b) = None
no_value (typed.choice at c a b) = None
no_value (typed.member at e k) = None
no_value (typed.call at to es passings) = without_value at.ty
no_value (typed.address p) = None
no_value (typed.closure at k) = Some T24
no_value (typed.function at x) = Some T24

-- an expression of that span is a value, of the type that is expected where there is one
abbrev pub valued : Span → (wanted : Option Ty) → TExp → Judged TExp
valued s wanted t = do
  unless (no_value t) s
  holding (fits wanted (type_of t)) T12 s
  yields t

abbrev pub as_value : Span → (wanted : Option Ty) → Judged TExp → Judged TExp
as_value s wanted e = do
  t ← e
  valued s wanted t

-- the two branches of `?:`, of one type
abbrev pub chosen : (id : ℕ) → Span → (condition first second : TExp) → Judged TExp
chosen id s c a b = do
  holding (one_type (type_of a) (type_of b)) T12 s
  yields (typed.choice (at id s (type_of a)) c a b)

-- ---- literals

-- the largest number that may stand in a literal, by whether a `-` stands before it
abbrev pub largest : (negative : Bool) → ℕ
largest false = 2 ^ 63 - 1
largest true = 2 ^ 63

abbrev pub signed : (negative : Bool) → ℕ → ℤ
signed false n = pos n
signed true n = pos 0 -ℤ pos n

abbrev pub number_literal : (id : ℕ) → Span → (negative : Bool) → ℕ → Judged TExp
number_literal id s negative n = do
  holding (at_most n (largest negative)) T14 s
  yields (typed.number (at id s type.Int) (signed negative n))

-- ---- operators

pub data Operation : Type 0 where
  logical : Logic → Operation
  equality : Comparison → Operation
  order : Comparison → Operation
  -- that traps on overflow
  trapping : Arith → Operation
  wrapping : Arith → Operation

abbrev pub operation : BinaryOperator → Operation
operation binary.Or = logical logic.Or
operation binary.And = logical logic.And
operation binary.Equal = equality compare.Equal
operation binary.Unequal = equality compare.Unequal
operation binary.Less = order compare.Less
operation binary.LessEqual = order compare.LessEqual
operation binary.Greater = order compare.Greater
operation binary.GreaterEqual = order compare.GreaterEqual
operation binary.Plus = trapping arithmetic.Add
operation binary.Minus = trapping arithmetic.Sub
operation binary.PlusWrapping = wrapping arithmetic.Add
operation binary.MinusWrapping = wrapping arithmetic.Sub
operation binary.Times = trapping arithmetic.Mul
operation binary.Divide = trapping arithmetic.Div
operation binary.Remainder = trapping arithmetic.Rem
operation binary.TimesWrapping = wrapping arithmetic.Mul

abbrev pub both_are : Ty → TExp → TExp → Test
both_are ty a b = both (is_of ty a) (is_of ty b)

-- two operands, with the span of the operator
abbrev pub operated : (id : ℕ) → Span → (mark : Span) → Operation → TExp → TExp → Judged TExp
operated id s mark (logical o) a b = do
  holding (both_are type.Bool a b) T15 s
  yields (typed.logic (at id s type.Bool) o a b)
operated id s mark (equality o) a b = do
  holding (either (both_are type.Int a b) (both_are type.Bool a b)) T15 s
  yields (typed.compared (at id s type.Bool) o a b)
operated id s mark (order o) a b = do
  holding (both_are type.Int a b) T15 s
  yields (typed.compared (at id s type.Bool) o a b)
operated id s mark (trapping o) a b = do
  holding (both_are type.Int a b) T15 s
  yields (typed.arithmetic (at id s type.Int) o mark a b)
operated id s mark (wrapping o) a b = do
  holding (both_are type.Int a b) T15 s
  yields (typed.wrapping (at id s type.Int) o a b)

abbrev pub prefixed : (id : ℕ) → Span → PrefixOperator → TExp → Judged TExp
prefixed id s prefix.Minus e = do
  holding (is_of type.Int e) T15 s
  yields (typed.negated (at id s type.Int) (opening s) e)
prefixed id s prefix.Not e = do
  holding (is_of type.Bool e) T15 s
  yields (typed.inverted (at id s type.Bool) e)
