-- Statements, by the rules on their parts.
use Rattle.std.specs.Prelude.{ℕ, Bool, true, false, List, [], Option, Some, None}
use Rattle.own_tree.specs.declared.arithmetic.Arith.{Arith}
use Rattle.own_tree.specs.declared.arithmetic.Arith.TheVariants as arithmetic
use Rattle.own_tree.specs.declared.place.Mode.{Mode}
use Rattle.own_tree.specs.declared.place.Mode.TheVariants as mode
use Rattle.own_tree.specs.declared.place.Ty.{Ty}
use Rattle.own_tree.specs.declared.place.Ty.TheVariants as type
use Rattle.own_tree.specs.declared.span.Span.{Span}
use Rattle.own_tree.specs.declared.tree.AssignOperator.{AssignOperator}
use Rattle.own_tree.specs.declared.tree.AssignOperator.TheVariants as assign
use Rattle.own_tree.specs.declared.tree.Keyword.{Keyword}
use Rattle.own_tree.specs.declared.tree.Keyword.TheVariants as keyword
use Rattle.own_tree.specs.declared.tree.Name.{Name}
use Rattle.own_tree.specs.declared.typed.TypedPath.{TypedPath}
use Rattle.own_tree.specs.Source as tree
use Rattle.own_tree.specs.Source.{Exp, Stms}
use Rattle.own_tree.specs.TypedSource as typed
use Rattle.own_tree.specs.TypedSource.{TExp, TStm}
use Rattle.own_shapes.specs.Places.{whole}
use Rattle.own_judging.specs.Judged.{Judged}
use Rattle.own_judged.specs.Closures.{binding_of}
use Rattle.own_judged.specs.Codes.{T15, T18, T22, T23, T25}
use Rattle.own_judged.specs.Conditions.{true_that, one_type, both}
use Rattle.own_judged.specs.Names.{Local, Self, Scope, local_of}
use Rattle.own_judged.specs.Rules.{yields, ◌>>=◌, ◌>>◌, holding, the, refused, node, declared, declaring}
use Rattle.own_judged.specs.Text.{Text}
use Rattle.own_judged.specs.Values.{at, span_of, type_of, is_of, as_value}

-- a statement, and the names that it declares for those behind it
abbrev pub Stated : Type 0
Stated = TStm × List Local

-- an expression, by the type that is expected of it
abbrev pub Typable : Type 1
Typable = (wanted : Option Ty) → Judged TExp

abbrev pub plain : TStm → Judged Stated
plain t = yields (t, [])

-- a value of that type
abbrev pub value_of : Ty → Exp → Typable → Judged TExp
value_of ty e rule = as_value (span_of e) (Some ty) (rule (Some ty))

abbrev pub condition : Exp → Typable → Judged TExp
condition = value_of type.Bool

-- a bound of a `for`
abbrev pub bound : Exp → Typable → Judged TExp
bound = value_of type.Int

-- ---- locals

abbrev pub local_mode : Keyword → Mode
local_mode keyword.Let = mode.Let
local_mode keyword.Var = mode.Var

-- the type of a local until that of its value is known, where none is written
abbrev pub or_unit : Option Ty → Ty
or_unit None = type.Unit
or_unit (Some ty) = ty

-- a local with a value, and the type that is written for it
abbrev pub local_with_value :
    Scope → (id : ℕ) → Span → Keyword → Name → (written : Option Ty) → Exp → Typable → Judged Stated
local_with_value scope id s k n written e rule = do
  x ← declaring
      (binding_of n.text (or_unit written) (local_mode k) n.span scope.body)
      (as_value (span_of e) written (rule written))
      (λ t. binding_of n.text (type_of t) (local_mode k) n.span scope.body)
  yields (typed.let_in (at id s type.Unit) x.0 x.1, local_of n x.0 (type_of x.1))

-- the variable of a `for`; a `_` is no binding
abbrev pub loop_variable : Scope → Option Name → Judged (Option ℕ × List Local)
loop_variable scope None = yields (None, [])
loop_variable scope (Some n) = do
  x ← declared (binding_of n.text type.Int mode.Turn n.span scope.body)
  yields (Some x, local_of n x type.Int)

module _ (text : Text) where
  abbrev pub written_type_of : Option Name → Option Ty
  written_type_of None = None
  written_type_of (Some n) = Some (text.written n.text)

  -- a local without a value
  abbrev pub local_without_value : Scope → Span → Keyword → Option Name → (written : Option Name) → Judged Stated
  local_without_value scope s keyword.Var (Some n) (Some w) = do
    id ← node
    x ← declared (binding_of n.text (text.written w.text) mode.Var n.span scope.body)
    yields (typed.declare (at id s type.Unit) x, local_of n x (text.written w.text))
  local_without_value scope s keyword.Var (Some n) None = refused T25 s
  local_without_value scope s keyword.Var None w = refused T25 s
  local_without_value scope s keyword.Let n w = refused T25 s

-- ---- assignments

-- the operation of `op=`
abbrev pub updating : AssignOperator → Option Arith
updating assign.Plain = None
updating assign.Plus = Some arithmetic.Add
updating assign.Minus = Some arithmetic.Sub
updating assign.Times = Some arithmetic.Mul
updating assign.Divide = Some arithmetic.Div
updating assign.Remainder = Some arithmetic.Rem

-- to a place, with the span of the operator; the right side of `op=` is an operand, of which no type is expected
abbrev pub assigned : (id : ℕ) → Span → TypedPath → (mark : Span) → Option Arith → Exp → Typable → Judged Stated
assigned id s p mark None e rule = do
  t ← value_of p.at.ty e rule
  plain (typed.assign (at id s type.Unit) p t)
assigned id s p mark (Some o) e rule = do
  t ← as_value (span_of e) None (rule None)
  holding (both (one_type p.at.ty type.Int) (is_of type.Int t)) T15 s
  plain (typed.update (at id s type.Unit) p o mark t)

-- ---- expression statements

-- a call, a construction with its parentheses, or a `consume`
abbrev pub is_effect : Exp → Bool
is_effect (tree.call s f es) = true
is_effect (tree.call_closing s f es c) = true
is_effect (tree.call_closure s f c) = true
is_effect (tree.consumed s p) = true
is_effect _ = false

abbrev pub is_single : Stms → Bool
is_single tree.no_stms = false
is_single (tree.stm s tree.no_stms) = true
is_single (tree.stm s (tree.stm t ss)) = false

-- One that is alone in a body with a result is its value (SE-0255).
abbrev pub evaluated : (gives_back : Bool) → (id : ℕ) → (result : Ty) → Exp → Typable → Judged Stated
evaluated true id result e rule = do
  t ← value_of result e rule
  plain (typed.evaluate (at id (span_of e) type.Unit) t)
evaluated false id result e rule = do
  holding (true_that (is_effect e)) T23 (span_of e)
  t ← rule None
  plain (typed.evaluate (at id (span_of e) type.Unit) t)

-- ---- jumps and `discard self`

abbrev pub returned_none : (id : ℕ) → Span → (result : Ty) → Judged Stated
returned_none id s result = do
  holding (one_type result type.Unit) T18 s
  plain (typed.return_none (at id s type.Unit))

-- SE-0390
abbrev pub discarded : (id : ℕ) → Span → Option Self → Judged Stated
discarded id s me = do
  self ← the me T22 s
  plain (typed.discard_self (at id s type.Unit) (whole self.binding))
