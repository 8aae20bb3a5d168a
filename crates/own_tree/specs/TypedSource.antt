-- The typed program as definitions see it: plain data, with one constructor for each production.
use Rattle.std.specs.Prelude.{ℕ, ℤ, Bool, List, Option}
use Rattle.own_tree.specs.declared.span.Span.{Span}
use Rattle.own_tree.specs.declared.arithmetic.Arith.{Arith}
use Rattle.own_tree.specs.declared.place.Binding.{Binding}
use Rattle.own_tree.specs.declared.place.Place.{Place}
use Rattle.own_tree.specs.declared.place.Ty.{Ty}
use Rattle.own_tree.specs.declared.tree.RangeOperator.{RangeOperator}
use Rattle.own_tree.specs.declared.typed.At.{At}
use Rattle.own_tree.specs.declared.typed.BodyKind.{BodyKind}
use Rattle.own_tree.specs.declared.typed.Comparison.{Comparison}
use Rattle.own_tree.specs.declared.typed.Logic.{Logic}
use Rattle.own_tree.specs.declared.typed.Passing.{Passing}
use Rattle.own_tree.specs.declared.typed.Signature.{Signature}
use Rattle.own_tree.specs.declared.typed.Target.{Target}
use Rattle.own_tree.specs.declared.typed.TypedPath.{TypedPath}

mutual
  pub data TPat : Type 0 where
    any : TPat
    bind : ℕ → TPat
    of_case : ℕ → TPats → TPat
    of_number : ℤ → TPat
    of_truth : Bool → TPat

  pub data TPats : Type 0 where
    no_pats : TPats
    pat : TPat → TPats → TPats

mutual
  pub data TExp : Type 0 where
    number : At → ℤ → TExp
    text : At → List ℕ → TExp
    truth : At → Bool → TExp
    path : TypedPath → TExp
    parenthesized : At → TExp → TExp
    consumed : At → TypedPath → TExp
    negated : At → Span → TExp → TExp
    inverted : At → TExp → TExp
    arithmetic : At → Arith → Span → TExp → TExp → TExp
    wrapping : At → Arith → TExp → TExp → TExp
    compared : At → Comparison → TExp → TExp → TExp
    logic : At → Logic → TExp → TExp → TExp
    choice : At → TExp → TExp → TExp → TExp
    member : At → TExp → ℕ → TExp
    call : At → Target → TExps → List Passing → TExp
    address : TypedPath → TExp
    closure : At → ℕ → TExp
    function : At → ℕ → TExp

  pub data TExps : Type 0 where
    no_exps : TExps
    exp : TExp → TExps → TExps

pub data TWhen : Type 0 where
  case_of : TPats → TWhen
  case_where : TPat → TExp → TWhen
  default : TWhen

mutual
  pub data TStm : Type 0 where
    let_in : At → ℕ → TExp → TStm
    declare : At → ℕ → TStm
    ignore : At → TExp → TStm
    assign : At → TypedPath → TExp → TStm
    update : At → TypedPath → Arith → Span → TExp → TStm
    discard_self : At → Place → TStm
    if_then : At → TExp → TBlk → TStm
    if_else : At → TExp → TBlk → TBlk → TStm
    else_if : At → TExp → TBlk → TStm → TStm
    loop_while : At → TExp → TBlk → TStm
    loop_repeat : At → TBlk → TExp → TStm
    loop_for : At → Option ℕ → TExp → RangeOperator → Span → TExp → TBlk → TStm
    switch : At → TExp → TClauses → TStm
    leave : At → TStm
    go_on : At → TStm
    return_none : At → TStm
    return_value : At → TExp → TStm
    evaluate : At → TExp → TStm

  pub data TStms : Type 0 where
    no_stms : TStms
    stm : TStm → TStms → TStms

  pub data TClauses : Type 0 where
    no_clauses : TClauses
    clause : Span → TWhen → TStms → TClauses → TClauses

  pub data TBlk : Type 0 where
    block : At → TStms → TBlk

-- a function, a method, an `init`, a `deinit` or a closure
pub record TBody : Type 0 where
  pub kind : BodyKind
  pub owner : Option ℕ
  pub params : List ℕ
  pub result : Ty
  pub discards : Bool
  pub span : Span
  pub close : Span
  pub block : TBlk

-- a text after typing
pub record Program : Type 0 where
  pub bodies : List TBody
  pub bindings : List Binding
  pub signatures : List Signature
  pub main : ℕ
  pub tokens : ℕ
