-- How many levels of patterns stand in each other in a tree, of which the pattern of a clause is the first. Of a tree
-- that breaks off, too.
use Rattle.std.specs.Prelude.{ℕ, suc, max}
use Rattle.own_tree.specs.Source.{Exp, number, text, truth, path, implicit_member, parenthesized, consumed, prefix, binary, choice, member, call, call_closing, call_closure, Given, value, address, closing, Args, no_args, arg, Clo, closure, Stm, let_in, declare, assign, ignore, discard_self, if_then, if_else, else_if, loop_while, loop_repeat, loop_for, switch, leave, go_on, return_none, return_value, evaluate, Stms, no_stms, stm, When, case_of, case_where, default, Clauses, no_clauses, clause, Blk, block}
use Rattle.own_grammar.specs.Nesting.{nest_pat, nest_pats}
use Rattle.own_grammar.specs.Partial.{PExp, PGiven, PArgs, PClo, PStm, PStms, PClauses, PBlk, gone, p_parenthesized, p_consumed, p_prefix, p_binary, p_first, p_second, p_member, p_call, p_unclosed, p_call_closing, p_call_closure, p_value, p_address, p_closing, no_more, p_arg, p_then, p_opened, p_closure, gone_stm, p_let, p_assign, p_ignore, p_if, p_if_then, p_if_else, p_else_if, p_while, p_while_do, p_repeat, p_repeat_while, p_from, p_to, p_for, p_subject, p_switch, p_return, p_evaluate, p_stm, p_next, p_patterns, p_where, p_clause, p_next_clause, gone_block, p_block, nest_pps}

abbrev mutual
  pub levels_exp : Exp → ℕ
  levels_exp (number s negative n) = 0
  levels_exp (text s t) = 0
  levels_exp (truth s b) = 0
  levels_exp (path p) = 0
  levels_exp (implicit_member s n) = 0
  levels_exp (parenthesized s e) = levels_exp e
  levels_exp (consumed s p) = 0
  levels_exp (prefix s o e) = levels_exp e
  levels_exp (binary s o at a b) = max (levels_exp a) (levels_exp b)
  levels_exp (choice s c a b) = max (levels_exp c) (max (levels_exp a) (levels_exp b))
  levels_exp (member s e n) = levels_exp e
  levels_exp (call s f es) = max (levels_exp f) (levels_args es)
  levels_exp (call_closing s f es c) = max (levels_exp f) (max (levels_args es) (levels_clo c))
  levels_exp (call_closure s f c) = max (levels_exp f) (levels_clo c)

  pub levels_given : Given → ℕ
  levels_given (value e) = levels_exp e
  levels_given (address s p) = 0
  levels_given (closing c) = levels_clo c

  pub levels_args : Args → ℕ
  levels_args no_args = 0
  levels_args (arg l g es) = max (levels_given g) (levels_args es)

  pub levels_clo : Clo → ℕ
  levels_clo (closure s ns ss) = levels_stms ss

  pub levels_stm : Stm → ℕ
  levels_stm (let_in s k n t e) = levels_exp e
  levels_stm (declare s k n t) = 0
  levels_stm (assign s p o at e) = levels_exp e
  levels_stm (ignore s t e) = levels_exp e
  levels_stm (discard_self s) = 0
  levels_stm (if_then s c b) = max (levels_exp c) (levels_blk b)
  levels_stm (if_else s c b d) = max (levels_exp c) (max (levels_blk b) (levels_blk d))
  levels_stm (else_if s c b d) = max (levels_exp c) (max (levels_blk b) (levels_stm d))
  levels_stm (loop_while s c b) = max (levels_exp c) (levels_blk b)
  levels_stm (loop_repeat s b c) = max (levels_blk b) (levels_exp c)
  levels_stm (loop_for s n low o at high b) = max (levels_exp low) (max (levels_exp high) (levels_blk b))
  levels_stm (switch s e cs) = max (levels_exp e) (levels_clauses cs)
  levels_stm (leave s) = 0
  levels_stm (go_on s) = 0
  levels_stm (return_none s) = 0
  levels_stm (return_value s e) = levels_exp e
  levels_stm (evaluate e) = levels_exp e

  pub levels_stms : Stms → ℕ
  levels_stms no_stms = 0
  levels_stms (stm s ss) = max (levels_stm s) (levels_stms ss)

  pub levels_when : When → ℕ
  levels_when (case_of ps) = suc (nest_pats ps)
  levels_when (case_where p e) = max (suc (nest_pat p)) (levels_exp e)
  levels_when default = 0

  pub levels_clauses : Clauses → ℕ
  levels_clauses no_clauses = 0
  levels_clauses (clause s h ss cs) = max (levels_when h) (max (levels_stms ss) (levels_clauses cs))

  pub levels_blk : Blk → ℕ
  levels_blk (block s ss) = levels_stms ss

abbrev mutual
  pub levels_p : PExp → ℕ
  levels_p gone = 0
  levels_p (p_parenthesized p) = levels_p p
  levels_p p_consumed = 0
  levels_p (p_prefix o p) = levels_p p
  levels_p (p_binary o a p) = max (levels_exp a) (levels_p p)
  levels_p (p_first c p) = max (levels_exp c) (levels_p p)
  levels_p (p_second c a p) = max (levels_exp c) (max (levels_exp a) (levels_p p))
  levels_p (p_member e) = levels_exp e
  levels_p (p_call f ps) = max (levels_exp f) (levels_pa ps)
  levels_p (p_unclosed f es) = max (levels_exp f) (levels_args es)
  levels_p (p_call_closing f es p) = max (levels_exp f) (max (levels_args es) (levels_pk p))
  levels_p (p_call_closure f p) = max (levels_exp f) (levels_pk p)

  pub levels_pg : PGiven → ℕ
  levels_pg (p_value p) = levels_p p
  levels_pg p_address = 0
  levels_pg (p_closing p) = levels_pk p

  pub levels_pa : PArgs → ℕ
  levels_pa no_more = 0
  levels_pa (p_arg l p) = levels_pg p
  levels_pa (p_then l g ps) = max (levels_given g) (levels_pa ps)

  pub levels_pk : PClo → ℕ
  levels_pk p_opened = 0
  levels_pk (p_closure ns ps) = levels_pl ps

  pub levels_ps : PStm → ℕ
  levels_ps gone_stm = 0
  levels_ps (p_let k n t p) = levels_p p
  levels_ps (p_assign x o p) = levels_p p
  levels_ps (p_ignore p) = levels_p p
  levels_ps (p_if p) = levels_p p
  levels_ps (p_if_then c p) = max (levels_exp c) (levels_pb p)
  levels_ps (p_if_else c b p) = max (levels_exp c) (max (levels_blk b) (levels_pb p))
  levels_ps (p_else_if c b p) = max (levels_exp c) (max (levels_blk b) (levels_ps p))
  levels_ps (p_while p) = levels_p p
  levels_ps (p_while_do c p) = max (levels_exp c) (levels_pb p)
  levels_ps (p_repeat p) = levels_pb p
  levels_ps (p_repeat_while b p) = max (levels_blk b) (levels_p p)
  levels_ps (p_from n p) = levels_p p
  levels_ps (p_to n low o p) = max (levels_exp low) (levels_p p)
  levels_ps (p_for n low o high p) = max (levels_exp low) (max (levels_exp high) (levels_pb p))
  levels_ps (p_subject p) = levels_p p
  levels_ps (p_switch e ps) = max (levels_exp e) (levels_pc ps)
  levels_ps (p_return p) = levels_p p
  levels_ps (p_evaluate p) = levels_p p

  pub levels_pl : PStms → ℕ
  levels_pl (p_stm p) = levels_ps p
  levels_pl (p_next s ps) = max (levels_stm s) (levels_pl ps)

  pub levels_pc : PClauses → ℕ
  levels_pc (p_patterns ps) = suc (nest_pps ps)
  levels_pc (p_where q p) = max (suc (nest_pat q)) (levels_p p)
  levels_pc (p_clause h ps) = max (levels_when h) (levels_pl ps)
  levels_pc (p_next_clause h ss ps) = max (levels_when h) (max (levels_stms ss) (levels_pc ps))

  pub levels_pb : PBlk → ℕ
  levels_pb gone_block = 0
  levels_pb (p_block ps) = levels_pl ps
