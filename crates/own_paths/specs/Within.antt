-- What stands within a block of a typed program: its expressions and its statements, each before its parts and the
-- parts in order. The block of a closure stands in a body of its own, so it is no part of the literal.
use Rattle.std.specs.Prelude.{ℕ, List, [], ◌∷◌, ◌++◌, Option, Some, None}
use Rattle.own_tree.specs.declared.typed.TypedPath.{TypedPath}
use Rattle.own_tree.specs.declared.typed.At.{At}
use Rattle.own_tree.specs.TypedSource.{TPat, any, bind, of_case, of_number, of_truth, TPats, no_pats, pat, TExp, number, text, truth, path, parenthesized, consumed, negated, inverted, arithmetic, wrapping, compared, logic, choice, member, call, address, closure, function, TExps, no_exps, exp, TWhen, case_of, case_where, default, TStm, let_in, declare, ignore, assign, update, discard_self, if_then, if_else, else_if, loop_while, loop_repeat, loop_for, switch, leave, go_on, return_none, return_value, evaluate, TStms, no_stms, stm, TClauses, no_clauses, clause, TBlk, block}

-- the node that an expression is
abbrev pub node_of : TExp → At
node_of (number at n) = at
node_of (text at t) = at
node_of (truth at b) = at
node_of (path p) = p.at
node_of (parenthesized at e) = at
node_of (consumed at p) = at
node_of (negated at mark e) = at
node_of (inverted at e) = at
node_of (arithmetic at o mark a b) = at
node_of (wrapping at o a b) = at
node_of (compared at o a b) = at
node_of (logic at o a b) = at
node_of (choice at c a b) = at
node_of (member at e k) = at
node_of (call at target es passings) = at
node_of (address p) = p.at
node_of (closure at k) = at
node_of (function at x) = at

-- ---- expressions

abbrev mutual
  pub exps_in : TExp → List TExp
  exps_in (number at n) = number at n ∷ []
  exps_in (text at t) = text at t ∷ []
  exps_in (truth at b) = truth at b ∷ []
  exps_in (path p) = path p ∷ []
  exps_in (parenthesized at e) = parenthesized at e ∷ exps_in e
  exps_in (consumed at p) = consumed at p ∷ []
  exps_in (negated at mark e) = negated at mark e ∷ exps_in e
  exps_in (inverted at e) = inverted at e ∷ exps_in e
  exps_in (arithmetic at o mark a b) = arithmetic at o mark a b ∷ exps_in a ++ exps_in b
  exps_in (wrapping at o a b) = wrapping at o a b ∷ exps_in a ++ exps_in b
  exps_in (compared at o a b) = compared at o a b ∷ exps_in a ++ exps_in b
  exps_in (logic at o a b) = logic at o a b ∷ exps_in a ++ exps_in b
  exps_in (choice at c a b) = choice at c a b ∷ exps_in c ++ exps_in a ++ exps_in b
  exps_in (member at e k) = member at e k ∷ exps_in e
  exps_in (call at target es passings) = call at target es passings ∷ exps_in_all es
  exps_in (address p) = address p ∷ []
  exps_in (closure at k) = closure at k ∷ []
  exps_in (function at x) = function at x ∷ []

  pub exps_in_all : TExps → List TExp
  exps_in_all no_exps = []
  exps_in_all (exp e es) = exps_in e ++ exps_in_all es

-- ---- statements

abbrev mutual
  pub stms_in : TStm → List TStm
  stms_in (let_in at x e) = let_in at x e ∷ []
  stms_in (declare at x) = declare at x ∷ []
  stms_in (ignore at e) = ignore at e ∷ []
  stms_in (assign at p e) = assign at p e ∷ []
  stms_in (update at p o mark e) = update at p o mark e ∷ []
  stms_in (discard_self at p) = discard_self at p ∷ []
  stms_in (if_then at c a) = if_then at c a ∷ stms_in_block a
  stms_in (if_else at c a b) = if_else at c a b ∷ stms_in_block a ++ stms_in_block b
  stms_in (else_if at c a s) = else_if at c a s ∷ stms_in_block a ++ stms_in s
  stms_in (loop_while at c a) = loop_while at c a ∷ stms_in_block a
  stms_in (loop_repeat at a c) = loop_repeat at a c ∷ stms_in_block a
  stms_in (loop_for at x low o mark high a) = loop_for at x low o mark high a ∷ stms_in_block a
  stms_in (switch at e cs) = switch at e cs ∷ stms_in_clauses cs
  stms_in (leave at) = leave at ∷ []
  stms_in (go_on at) = go_on at ∷ []
  stms_in (return_none at) = return_none at ∷ []
  stms_in (return_value at e) = return_value at e ∷ []
  stms_in (evaluate at e) = evaluate at e ∷ []

  pub stms_in_list : TStms → List TStm
  stms_in_list no_stms = []
  stms_in_list (stm s ss) = stms_in s ++ stms_in_list ss

  pub stms_in_clauses : TClauses → List TStm
  stms_in_clauses no_clauses = []
  stms_in_clauses (clause s head ss cs) = stms_in_list ss ++ stms_in_clauses cs

  pub stms_in_block : TBlk → List TStm
  stms_in_block (block at ss) = stms_in_list ss

-- the expressions of guards
abbrev pub exps_of_head : TWhen → List TExp
exps_of_head (case_of ps) = []
exps_of_head (case_where p e) = exps_in e
exps_of_head default = []

abbrev pub exps_of_heads : TClauses → List TExp
exps_of_heads no_clauses = []
exps_of_heads (clause s head ss cs) = exps_of_head head ++ exps_of_heads cs

-- the expressions of a statement that belong to no statement in it
abbrev pub exps_of_stm : TStm → List TExp
exps_of_stm (let_in at x e) = exps_in e
exps_of_stm (declare at x) = []
exps_of_stm (ignore at e) = exps_in e
exps_of_stm (assign at p e) = exps_in e
exps_of_stm (update at p o mark e) = exps_in e
exps_of_stm (discard_self at p) = []
exps_of_stm (if_then at c a) = exps_in c
exps_of_stm (if_else at c a b) = exps_in c
exps_of_stm (else_if at c a s) = exps_in c
exps_of_stm (loop_while at c a) = exps_in c
exps_of_stm (loop_repeat at a c) = exps_in c
exps_of_stm (loop_for at x low o mark high a) = exps_in low ++ exps_in high
exps_of_stm (switch at e cs) = exps_in e ++ exps_of_heads cs
exps_of_stm (leave at) = []
exps_of_stm (go_on at) = []
exps_of_stm (return_none at) = []
exps_of_stm (return_value at e) = exps_in e
exps_of_stm (evaluate at e) = exps_in e

abbrev pub exps_of_stms : List TStm → List TExp
exps_of_stms [] = []
exps_of_stms (s ∷ ss) = exps_of_stm s ++ exps_of_stms ss

-- the expressions of a block, statement by statement
abbrev pub exps_in_block : TBlk → List TExp
exps_in_block b = exps_of_stms (stms_in_block b)

-- those of clauses, with their guards
abbrev pub exps_in_clauses : TClauses → List TExp
exps_in_clauses cs = exps_of_heads cs ++ exps_of_stms (stms_in_clauses cs)

-- the closure literals among expressions, by their nodes and bodies
abbrev pub literals : List TExp → List (At × ℕ)
literals [] = []
literals (closure at k ∷ es) = (at, k) ∷ literals es
literals (number at n ∷ es) = literals es
literals (text at t ∷ es) = literals es
literals (truth at b ∷ es) = literals es
literals (path p ∷ es) = literals es
literals (parenthesized at e ∷ es) = literals es
literals (consumed at p ∷ es) = literals es
literals (negated at mark e ∷ es) = literals es
literals (inverted at e ∷ es) = literals es
literals (arithmetic at o mark a b ∷ es) = literals es
literals (wrapping at o a b ∷ es) = literals es
literals (compared at o a b ∷ es) = literals es
literals (logic at o a b ∷ es) = literals es
literals (choice at c a b ∷ es) = literals es
literals (member at e k ∷ es) = literals es
literals (call at target as' passings ∷ es) = literals es
literals (address p ∷ es) = literals es
literals (function at x ∷ es) = literals es

-- A path, which in parentheses occurs as it would without them.
abbrev pub path_of : TExp → Option TypedPath
path_of (path p) = Some p
path_of (parenthesized at e) = path_of e
path_of (number at n) = None
path_of (text at t) = None
path_of (truth at b) = None
path_of (consumed at p) = None
path_of (negated at mark e) = None
path_of (inverted at e) = None
path_of (arithmetic at o mark a b) = None
path_of (wrapping at o a b) = None
path_of (compared at o a b) = None
path_of (logic at o a b) = None
path_of (choice at c a b) = None
path_of (member at e k) = None
path_of (call at target es passings) = None
path_of (address p) = None
path_of (closure at k) = None
path_of (function at x) = None

-- ---- patterns

-- the bindings of a pattern, from left to right
abbrev mutual
  pub pattern_bindings : TPat → List ℕ
  pattern_bindings any = []
  pattern_bindings (bind x) = x ∷ []
  pattern_bindings (of_case c ps) = patterns_bindings ps
  pattern_bindings (of_number n) = []
  pattern_bindings (of_truth b) = []

  pub patterns_bindings : TPats → List ℕ
  patterns_bindings no_pats = []
  patterns_bindings (pat p ps) = pattern_bindings p ++ patterns_bindings ps

-- ---- the bindings that the statements of one scope declare, in order
abbrev pub locals : TStms → List ℕ
locals no_stms = []
locals (stm (let_in at x e) ss) = x ∷ locals ss
locals (stm (declare at x) ss) = x ∷ locals ss
locals (stm s ss) = locals ss
