-- The tree of a text as definitions see it: plain data, with one constructor for each production.
use Rattle.std.specs.Prelude.{ℕ, Bool, List, Option}
use Rattle.own_tree.specs.declared.span.Span.{Span}
use Rattle.own_tree.specs.declared.tree.Name.{Name}
use Rattle.own_tree.specs.declared.tree.ClosureName.{ClosureName}
use Rattle.own_tree.specs.declared.tree.Path.{Path}
use Rattle.own_tree.specs.declared.tree.Keyword.{Keyword}
use Rattle.own_tree.specs.declared.tree.PrefixOperator.{PrefixOperator}
use Rattle.own_tree.specs.declared.tree.BinaryOperator.{BinaryOperator}
use Rattle.own_tree.specs.declared.tree.AssignOperator.{AssignOperator}
use Rattle.own_tree.specs.declared.tree.RangeOperator.{RangeOperator}
use Rattle.own_tree.specs.declared.tree.MethodMode.{MethodMode}
use Rattle.own_tree.specs.declared.tree.Parameter.{Parameter}
use Rattle.own_tree.specs.declared.tree.ResultType.{ResultType}
use Rattle.own_tree.specs.declared.tree.Field.{Field}
use Rattle.own_tree.specs.declared.tree.CaseItem.{CaseItem}

mutual
  pub data LetPat : Type 0 where
    let_any : Span → LetPat
    let_bind : Name → LetPat
    let_case : Span → Name → LetPats → LetPat
    let_number : Span → Bool → ℕ → LetPat
    let_truth : Span → Bool → LetPat

  pub data LetPats : Type 0 where
    no_let_pats : LetPats
    let_pat : LetPat → LetPats → LetPats

mutual
  pub data Pat : Type 0 where
    any : Span → Pat
    bind : Span → Name → Pat
    bind_case : Span → LetPat → Pat
    on_case : Span → Name → Pats → Pat
    on_number : Span → Bool → ℕ → Pat
    on_truth : Span → Bool → Pat

  pub data Pats : Type 0 where
    no_pats : Pats
    pat : Pat → Pats → Pats

mutual
  pub data Exp : Type 0 where
    number : Span → Bool → ℕ → Exp
    text : Span → List ℕ → Exp
    truth : Span → Bool → Exp
    path : Path → Exp
    implicit_member : Span → Name → Exp
    parenthesized : Span → Exp → Exp
    consumed : Span → Path → Exp
    prefix : Span → PrefixOperator → Exp → Exp
    binary : Span → BinaryOperator → Span → Exp → Exp → Exp
    choice : Span → Exp → Exp → Exp → Exp
    member : Span → Exp → Name → Exp
    call : Span → Exp → Args → Exp
    call_closing : Span → Exp → Args → Clo → Exp
    call_closure : Span → Exp → Clo → Exp

  pub data Given : Type 0 where
    value : Exp → Given
    address : Span → Path → Given
    closing : Clo → Given

  pub data Args : Type 0 where
    no_args : Args
    arg : Option Name → Given → Args → Args

  pub data Clo : Type 0 where
    closure : Span → List ClosureName → Stms → Clo

  pub data Stm : Type 0 where
    let_in : Span → Keyword → Name → Option Name → Exp → Stm
    declare : Span → Keyword → Option Name → Option Name → Stm
    assign : Span → Path → AssignOperator → Span → Exp → Stm
    ignore : Span → Option Name → Exp → Stm
    discard_self : Span → Stm
    if_then : Span → Exp → Blk → Stm
    if_else : Span → Exp → Blk → Blk → Stm
    else_if : Span → Exp → Blk → Stm → Stm
    loop_while : Span → Exp → Blk → Stm
    loop_repeat : Span → Blk → Exp → Stm
    loop_for : Span → Option Name → Exp → RangeOperator → Span → Exp → Blk → Stm
    switch : Span → Exp → Clauses → Stm
    leave : Span → Stm
    go_on : Span → Stm
    return_none : Span → Stm
    return_value : Span → Exp → Stm
    evaluate : Exp → Stm

  pub data Stms : Type 0 where
    no_stms : Stms
    stm : Stm → Stms → Stms

  pub data When : Type 0 where
    case_of : Pats → When
    case_where : Pat → Exp → When
    default : When

  pub data Clauses : Type 0 where
    no_clauses : Clauses
    clause : Span → When → Stms → Clauses → Clauses

  pub data Blk : Type 0 where
    block : Span → Stms → Blk

-- a function: a declaration of its own, or the one of a method
pub record Fun : Type 0 where
  pub span : Span
  pub name : Name
  pub parameters : List Parameter
  pub result : Option ResultType
  pub body : Blk

pub data Member : Type 0 where
  field : Field → Member
  initializer : Span → List Parameter → Blk → Member
  deinitializer : Span → Blk → Member
  method : Span → Option MethodMode → Fun → Member
  cases : Span → List CaseItem → Member

pub data Decl : Type 0 where
  struct_of : Span → Name → Bool → List Member → Decl
  enum_of : Span → Name → Bool → List Member → Decl
  function : Fun → Decl

-- a text: its declarations, the word `main` of the last statement, and the number of its tokens
pub record File : Type 0 where
  pub declarations : List Decl
  pub main : Span
  pub tokens : ℕ
