-- Of a tree: spans, levels of operators, what a part may be, and nesting.
use Rattle.std.specs.Prelude.{ℕ, suc, max, Bool, true, false, List, [], ◌∷◌, Option, Some, None, not, nat_eq}
use Rattle.own_tree.specs.declared.span.Span.{Span}
use Rattle.own_tree.specs.declared.tree.Name.{Name}
use Rattle.own_tree.specs.declared.tree.Root.{Root}
use Rattle.own_tree.specs.declared.tree.Root.TheVariants.{Named, SelfWord}
use Rattle.own_tree.specs.declared.tree.BinaryOperator.{BinaryOperator}
use Rattle.own_tree.specs.declared.tree.BinaryOperator.TheVariants as operator
use Rattle.own_tree.specs.Source.{LetPat, let_any, let_bind, let_case, let_number, let_truth, LetPats, no_let_pats, let_pat, Pat, any, bind, bind_case, on_case, on_number, on_truth, Pats, no_pats, pat, Exp, number, text, truth, path, implicit_member, parenthesized, consumed, prefix, binary, choice, member, call, call_closing, call_closure, Given, value, address, closing, Args, no_args, arg, Clo, closure, Stm, let_in, declare, assign, ignore, discard_self, if_then, if_else, else_if, loop_while, loop_repeat, loop_for, switch, leave, go_on, return_none, return_value, evaluate, Stms, no_stms, stm, When, case_of, case_where, default, Clauses, no_clauses, clause, Blk, block}

-- ---- spans

abbrev pub exp_span : Exp → Span
exp_span (number s negative n) = s
exp_span (text s t) = s
exp_span (truth s b) = s
exp_span (path p) = p.span
exp_span (implicit_member s n) = s
exp_span (parenthesized s e) = s
exp_span (consumed s p) = s
exp_span (prefix s o e) = s
exp_span (binary s o at a b) = s
exp_span (choice s c a b) = s
exp_span (member s e n) = s
exp_span (call s f es) = s
exp_span (call_closing s f es c) = s
exp_span (call_closure s f c) = s

abbrev pub clo_span : Clo → Span
clo_span (closure s ns ss) = s

abbrev pub blk_span : Blk → Span
blk_span (block s ss) = s

abbrev pub stm_span : Stm → Span
stm_span (let_in s k n t e) = s
stm_span (declare s k n t) = s
stm_span (assign s p o at e) = s
stm_span (ignore s t e) = s
stm_span (discard_self s) = s
stm_span (if_then s c b) = s
stm_span (if_else s c b d) = s
stm_span (else_if s c b d) = s
stm_span (loop_while s c b) = s
stm_span (loop_repeat s b c) = s
stm_span (loop_for s n low o at high b) = s
stm_span (switch s e cs) = s
stm_span (leave s) = s
stm_span (go_on s) = s
stm_span (return_none s) = s
stm_span (return_value s e) = s
stm_span (evaluate e) = exp_span e

abbrev pub pat_span : Pat → Span
pat_span (any s) = s
pat_span (bind s n) = s
pat_span (bind_case s p) = s
pat_span (on_case s n ps) = s
pat_span (on_number s negative n) = s
pat_span (on_truth s b) = s

abbrev pub let_pat_span : LetPat → Span
let_pat_span (let_any s) = s
let_pat_span (let_bind n) = n.span
let_pat_span (let_case s n ps) = s
let_pat_span (let_number s negative n) = s
let_pat_span (let_truth s b) = s

abbrev pub root_span : Root → Span
root_span (Named n) = n.span
root_span (SelfWord s) = s

-- the last name, or where there is none what stands before the names
abbrev pub names_end : Span → List Name → Span
names_end s [] = s
names_end s (n ∷ ns) = names_end n.span ns

abbrev pub typed_end : Span → Option Name → Span
typed_end s None = s
typed_end s (Some t) = t.span

-- the last statement
abbrev pub stms_end : Span → Stms → Span
stms_end s no_stms = s
stms_end s (stm x ss) = stms_end (stm_span x) ss

-- ---- levels of operators, from the tightest

abbrev pub level : BinaryOperator → ℕ
level operator.Times = 1
level operator.Divide = 1
level operator.Remainder = 1
level operator.TimesWrapping = 1
level operator.Plus = 2
level operator.Minus = 2
level operator.PlusWrapping = 2
level operator.MinusWrapping = 2
level operator.Equal = 3
level operator.Unequal = 3
level operator.Less = 3
level operator.LessEqual = 3
level operator.Greater = 3
level operator.GreaterEqual = 3
level operator.And = 4
level operator.Or = 5

-- the level of `?:`
abbrev pub loosest : ℕ
loosest = 6

-- whether operators of a level follow each other without parentheses: comparisons do not
abbrev pub chains : ℕ → Bool
chains n = not (nat_eq n 3)

abbrev pub level_of : Exp → ℕ
level_of (number s negative n) = 0
level_of (text s t) = 0
level_of (truth s b) = 0
level_of (path p) = 0
level_of (implicit_member s n) = 0
level_of (parenthesized s e) = 0
level_of (consumed s p) = 0
level_of (prefix s o e) = 0
level_of (binary s o at a b) = level o
level_of (choice s c a b) = 6
level_of (member s e n) = 0
level_of (call s f es) = 0
level_of (call_closing s f es c) = 0
level_of (call_closure s f c) = 0

-- the production `post`: what may be called, and what a member may be taken of
abbrev pub is_post : Exp → Bool
is_post (number s negative n) = true
is_post (text s t) = true
is_post (truth s b) = true
is_post (path p) = true
is_post (implicit_member s n) = true
is_post (parenthesized s e) = true
is_post (consumed s p) = false
is_post (prefix s o e) = false
is_post (binary s o at a b) = false
is_post (choice s c a b) = false
is_post (member s e n) = true
is_post (call s f es) = true
is_post (call_closing s f es c) = true
is_post (call_closure s f c) = true

abbrev pub is_path : Exp → Bool
is_path (number s negative n) = false
is_path (text s t) = false
is_path (truth s b) = false
is_path (path p) = true
is_path (implicit_member s n) = false
is_path (parenthesized s e) = false
is_path (consumed s p) = false
is_path (prefix s o e) = false
is_path (binary s o at a b) = false
is_path (choice s c a b) = false
is_path (member s e n) = false
is_path (call s f es) = false
is_path (call_closing s f es c) = false
is_path (call_closure s f c) = false

-- a call that ends with its parenthesis
abbrev pub is_call : Exp → Bool
is_call (number s negative n) = false
is_call (text s t) = false
is_call (truth s b) = false
is_call (path p) = false
is_call (implicit_member s n) = false
is_call (parenthesized s e) = false
is_call (consumed s p) = false
is_call (prefix s o e) = false
is_call (binary s o at a b) = false
is_call (choice s c a b) = false
is_call (member s e n) = false
is_call (call s f es) = true
is_call (call_closing s f es c) = false
is_call (call_closure s f c) = false

abbrev pub is_if : Stm → Bool
is_if (let_in s k n t e) = false
is_if (declare s k n t) = false
is_if (assign s p o at e) = false
is_if (ignore s t e) = false
is_if (discard_self s) = false
is_if (if_then s c b) = true
is_if (if_else s c b d) = true
is_if (else_if s c b d) = true
is_if (loop_while s c b) = false
is_if (loop_repeat s b c) = false
is_if (loop_for s n low o at high b) = false
is_if (switch s e cs) = false
is_if (leave s) = false
is_if (go_on s) = false
is_if (return_none s) = false
is_if (return_value s e) = false
is_if (evaluate e) = false

-- a `return` without a value
abbrev pub is_return : Stm → Bool
is_return (let_in s k n t e) = false
is_return (declare s k n t) = false
is_return (assign s p o at e) = false
is_return (ignore s t e) = false
is_return (discard_self s) = false
is_return (if_then s c b) = false
is_return (if_else s c b d) = false
is_return (else_if s c b d) = false
is_return (loop_while s c b) = false
is_return (loop_repeat s b c) = false
is_return (loop_for s n low o at high b) = false
is_return (switch s e cs) = false
is_return (leave s) = false
is_return (go_on s) = false
is_return (return_none s) = true
is_return (return_value s e) = false
is_return (evaluate e) = false

abbrev pub is_let_case : LetPat → Bool
is_let_case (let_any s) = false
is_let_case (let_bind n) = false
is_let_case (let_case s n ps) = true
is_let_case (let_number s negative n) = false
is_let_case (let_truth s b) = false

-- ---- how many levels of patterns stand below a pattern: those in the parentheses of another one are a level further

abbrev mutual
  pub nest_let_pat : LetPat → ℕ
  nest_let_pat (let_any s) = 0
  nest_let_pat (let_bind n) = 0
  nest_let_pat (let_case s n no_let_pats) = 0
  nest_let_pat (let_case s n (let_pat p ps)) = suc (nest_let_pats (let_pat p ps))
  nest_let_pat (let_number s negative n) = 0
  nest_let_pat (let_truth s b) = 0

  pub nest_let_pats : LetPats → ℕ
  nest_let_pats no_let_pats = 0
  nest_let_pats (let_pat p ps) = max (nest_let_pat p) (nest_let_pats ps)

abbrev mutual
  pub nest_pat : Pat → ℕ
  nest_pat (any s) = 0
  nest_pat (bind s n) = 0
  nest_pat (bind_case s p) = nest_let_pat p
  nest_pat (on_case s n no_pats) = 0
  nest_pat (on_case s n (pat p ps)) = suc (nest_pats (pat p ps))
  nest_pat (on_number s negative n) = 0
  nest_pat (on_truth s b) = 0

  pub nest_pats : Pats → ℕ
  nest_pats no_pats = 0
  nest_pats (pat p ps) = max (nest_pat p) (nest_pats ps)

-- ---- nesting: blocks, statements and expressions are nodes, a path is one node, an expression statement and its
-- expression are two. Clauses and patterns are none.

abbrev mutual
  pub nest : Exp → ℕ
  nest (number s negative n) = 1
  nest (text s t) = 1
  nest (truth s b) = 1
  nest (path p) = 1
  nest (implicit_member s n) = 1
  nest (parenthesized s e) = suc (nest e)
  nest (consumed s p) = 2
  nest (prefix s o e) = suc (nest e)
  nest (binary s o at a b) = suc (max (nest a) (nest b))
  nest (choice s c a b) = suc (max (nest c) (max (nest a) (nest b)))
  nest (member s e n) = suc (nest e)
  nest (call s f es) = suc (max (nest f) (nest_args es))
  nest (call_closing s f es c) = suc (max (nest f) (max (nest_args es) (nest_clo c)))
  nest (call_closure s f c) = suc (max (nest f) (nest_clo c))

  pub nest_given : Given → ℕ
  nest_given (value e) = nest e
  nest_given (address s p) = 1
  nest_given (closing c) = nest_clo c

  pub nest_args : Args → ℕ
  nest_args no_args = 0
  nest_args (arg l g es) = max (nest_given g) (nest_args es)

  pub nest_clo : Clo → ℕ
  nest_clo (closure s ns ss) = suc (nest_stms ss)

  pub nest_stm : Stm → ℕ
  nest_stm (let_in s k n t e) = suc (nest e)
  nest_stm (declare s k n t) = 1
  nest_stm (assign s p o at e) = suc (max 1 (nest e))
  nest_stm (ignore s t e) = suc (nest e)
  nest_stm (discard_self s) = 1
  nest_stm (if_then s c b) = suc (max (nest c) (nest_blk b))
  nest_stm (if_else s c b d) = suc (max (nest c) (max (nest_blk b) (nest_blk d)))
  nest_stm (else_if s c b d) = suc (max (nest c) (max (nest_blk b) (nest_stm d)))
  nest_stm (loop_while s c b) = suc (max (nest c) (nest_blk b))
  nest_stm (loop_repeat s b c) = suc (max (nest_blk b) (nest c))
  nest_stm (loop_for s n low o at high b) = suc (max (nest low) (max (nest high) (nest_blk b)))
  nest_stm (switch s e cs) = suc (max (nest e) (nest_clauses cs))
  nest_stm (leave s) = 1
  nest_stm (go_on s) = 1
  nest_stm (return_none s) = 1
  nest_stm (return_value s e) = suc (nest e)
  nest_stm (evaluate e) = suc (nest e)

  pub nest_stms : Stms → ℕ
  nest_stms no_stms = 0
  nest_stms (stm s ss) = max (nest_stm s) (nest_stms ss)

  pub nest_when : When → ℕ
  nest_when (case_of ps) = 0
  nest_when (case_where p e) = nest e
  nest_when default = 0

  pub nest_clauses : Clauses → ℕ
  nest_clauses no_clauses = 0
  nest_clauses (clause s h ss cs) = max (nest_when h) (max (nest_stms ss) (nest_clauses cs))

  pub nest_blk : Blk → ℕ
  nest_blk (block s ss) = suc (nest_stms ss)
