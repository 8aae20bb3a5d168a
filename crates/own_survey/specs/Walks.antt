-- What a walk over bodies notes, step by step.
use Rattle.std.specs.Prelude.{ℕ, suc, List, length}
use Rattle.own_tree.specs.declared.tree.Expr.TheFolds.{fold-Head}
use Rattle.own_tree.specs.declared.tree.Head.{Head}
use Rattle.own_tree.specs.declared.tree.Name.{Name}
use Rattle.own_tree.specs.Source.{Pats, no_pats, pat, Exp, number, text, truth, path, implicit_member, parenthesized, consumed, prefix, binary, choice, member, call, call_closing, call_closure, Given, value, address, closing, Args, no_args, arg, Clo, closure, Stm, let_in, declare, assign, ignore, discard_self, if_then, if_else, else_if, loop_while, loop_repeat, loop_for, switch, leave, go_on, return_none, return_value, evaluate, Stms, no_stms, stm, When, case_of, case_where, default, Clauses, no_clauses, clause, Blk, block}
use Rattle.own_tree.specs.View.{Arg, Cla, expr_step, head_step, passed_step, stmt_step, argument_step, block_step, clause_step, closure_step}
use Rattle.own_survey.specs.declared.survey.Judgement.TheVariants as judgement
use Rattle.own_survey.specs.declared.survey.Survey.{Survey}
use Rattle.own_survey.specs.declared.survey.Written.{Written}
use Rattle.own_survey.specs.Judgements.{at_fault, repeated, with_body, with_taken, with_fault, notes}
use Rattle.own_shapes.specs.Spans.{opening}
use Rattle.own_survey.specs.Parts.{arg_count, print_call, written_part, closure_names, local_names, pat_names}

abbrev pub head_view : Head → When
head_view = fold-Head Exp When Given Stm Arg Blk Cla Clo expr_step head_step passed_step stmt_step argument_step block_step clause_step closure_step

-- names that have to be different
abbrev pub scope_walk : List Name → Survey → Survey
scope_walk ns v = with_fault v (at_fault judgement.DifferentNames (repeated ns))

-- each pattern of a clause is a scope of its own
abbrev pub pats_walk : Pats → Survey → Survey
pats_walk no_pats v = v
pats_walk (pat p ps) v = pats_walk ps (scope_walk (pat_names p) v)

-- a closure is a body, and its names are a scope
abbrev pub closure_head_walk : Clo → Survey → Survey
closure_head_walk (closure s names ss) v = scope_walk (closure_names names) (with_taken (with_body v (opening s)) (length names) (opening s))

module _ (w : List ℕ → Written) where
  abbrev mutual
    pub exp_walk : Exp → Survey → Survey
    exp_walk (number s negative n) v = v
    exp_walk (text s t) v = v
    exp_walk (truth s b) v = v
    exp_walk (path p) v = v
    exp_walk (implicit_member s name) v = v
    exp_walk (parenthesized s e) v = exp_walk e v
    exp_walk (consumed s p) v = v
    exp_walk (prefix s o e) v = exp_walk e v
    exp_walk (binary s o mark a b) v = exp_walk b (exp_walk a v)
    exp_walk (choice s c a b) v = exp_walk b (exp_walk a (exp_walk c v))
    exp_walk (member s e name) v = exp_walk e v
    exp_walk (call s callee args) v = args_walk args (exp_walk callee (notes w v (print_call callee (arg_count args))))
    exp_walk (call_closing s callee args c) v = closure_walk c (args_walk args (exp_walk callee (notes w v (print_call callee (suc (arg_count args))))))
    exp_walk (call_closure s callee c) v = closure_walk c (exp_walk callee (notes w v (print_call callee 1)))

    pub given_walk : Given → Survey → Survey
    given_walk (value e) v = exp_walk e v
    given_walk (address s p) v = v
    given_walk (closing c) v = closure_walk c v

    pub args_walk : Args → Survey → Survey
    args_walk no_args v = v
    args_walk (arg label given args) v = args_walk args (given_walk given v)

    pub closure_walk : Clo → Survey → Survey
    closure_walk (closure s names ss) v = stms_walk ss (scope_walk (local_names ss) (closure_head_walk (closure s names ss) v))

    pub stm_walk : Stm → Survey → Survey
    stm_walk (let_in s k name written e) v = exp_walk e (notes w v (written_part written))
    stm_walk (declare s k name written) v = notes w v (written_part written)
    stm_walk (assign s p o mark e) v = exp_walk e v
    stm_walk (ignore s written e) v = exp_walk e (notes w v (written_part written))
    stm_walk (discard_self s) v = v
    stm_walk (if_then s c a) v = block_walk a (exp_walk c v)
    stm_walk (if_else s c a b) v = block_walk b (block_walk a (exp_walk c v))
    stm_walk (else_if s c a other) v = stm_walk other (block_walk a (exp_walk c v))
    stm_walk (loop_while s c a) v = block_walk a (exp_walk c v)
    stm_walk (loop_repeat s a c) v = exp_walk c (block_walk a v)
    stm_walk (loop_for s x low o mark high a) v = block_walk a (exp_walk high (exp_walk low v))
    stm_walk (switch s e cs) v = clauses_walk cs (exp_walk e v)
    stm_walk (leave s) v = v
    stm_walk (go_on s) v = v
    stm_walk (return_none s) v = v
    stm_walk (return_value s e) v = exp_walk e v
    stm_walk (evaluate e) v = exp_walk e v

    pub stms_walk : Stms → Survey → Survey
    stms_walk no_stms v = v
    stms_walk (stm s ss) v = stms_walk ss (stm_walk s v)

    pub when_walk : When → Survey → Survey
    when_walk (case_of ps) v = pats_walk ps v
    when_walk (case_where p e) v = exp_walk e (scope_walk (pat_names p) v)
    when_walk default v = v

    pub clauses_walk : Clauses → Survey → Survey
    clauses_walk no_clauses v = v
    clauses_walk (clause s h ss cs) v = clauses_walk cs (stms_walk ss (scope_walk (local_names ss) (when_walk h v)))

    pub block_walk : Blk → Survey → Survey
    block_walk (block s ss) v = stms_walk ss (scope_walk (local_names ss) v)
