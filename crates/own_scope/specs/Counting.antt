-- The closures of a tree, counted from those that were counted before it. Each is a body (M6).
use Rattle.std.specs.Prelude.{ℕ, suc}
use Rattle.own_tree.specs.Source as tree
use Rattle.own_tree.specs.Source.{Exp, Given, Args, Clo, Stm, Stms, When, Clauses, Blk}

abbrev mutual
  pub exp_closures : Exp → ℕ → ℕ
  exp_closures (tree.number s negative n) k = k
  exp_closures (tree.text s t) k = k
  exp_closures (tree.truth s b) k = k
  exp_closures (tree.path p) k = k
  exp_closures (tree.implicit_member s name) k = k
  exp_closures (tree.parenthesized s e) k = exp_closures e k
  exp_closures (tree.consumed s p) k = k
  exp_closures (tree.prefix s o e) k = exp_closures e k
  exp_closures (tree.binary s o mark a b) k = exp_closures b (exp_closures a k)
  exp_closures (tree.choice s c a b) k = exp_closures b (exp_closures a (exp_closures c k))
  exp_closures (tree.member s e name) k = exp_closures e k
  exp_closures (tree.call s callee args) k = args_closures args (exp_closures callee k)
  exp_closures (tree.call_closing s callee args c) k = closure_closures c (args_closures args (exp_closures callee k))
  exp_closures (tree.call_closure s callee c) k = closure_closures c (exp_closures callee k)

  pub given_closures : Given → ℕ → ℕ
  given_closures (tree.value e) k = exp_closures e k
  given_closures (tree.address s p) k = k
  given_closures (tree.closing c) k = closure_closures c k

  pub args_closures : Args → ℕ → ℕ
  args_closures tree.no_args k = k
  args_closures (tree.arg label given args) k = args_closures args (given_closures given k)

  -- a closure, and those in it
  pub closure_closures : Clo → ℕ → ℕ
  closure_closures (tree.closure s names ss) k = stms_closures ss (suc k)

  pub stm_closures : Stm → ℕ → ℕ
  stm_closures (tree.let_in s k name written e) n = exp_closures e n
  stm_closures (tree.declare s k name written) n = n
  stm_closures (tree.assign s p o mark e) n = exp_closures e n
  stm_closures (tree.ignore s written e) n = exp_closures e n
  stm_closures (tree.discard_self s) n = n
  stm_closures (tree.if_then s c a) n = block_closures a (exp_closures c n)
  stm_closures (tree.if_else s c a b) n = block_closures b (block_closures a (exp_closures c n))
  stm_closures (tree.else_if s c a other) n = stm_closures other (block_closures a (exp_closures c n))
  stm_closures (tree.loop_while s c a) n = block_closures a (exp_closures c n)
  stm_closures (tree.loop_repeat s a c) n = exp_closures c (block_closures a n)
  stm_closures (tree.loop_for s x low o mark high a) n = block_closures a (exp_closures high (exp_closures low n))
  stm_closures (tree.switch s e cs) n = clauses_closures cs (exp_closures e n)
  stm_closures (tree.leave s) n = n
  stm_closures (tree.go_on s) n = n
  stm_closures (tree.return_none s) n = n
  stm_closures (tree.return_value s e) n = exp_closures e n
  stm_closures (tree.evaluate e) n = exp_closures e n

  pub stms_closures : Stms → ℕ → ℕ
  stms_closures tree.no_stms n = n
  stms_closures (tree.stm s ss) n = stms_closures ss (stm_closures s n)

  pub when_closures : When → ℕ → ℕ
  when_closures (tree.case_of ps) n = n
  when_closures (tree.case_where p e) n = exp_closures e n
  when_closures tree.default n = n

  pub clauses_closures : Clauses → ℕ → ℕ
  clauses_closures tree.no_clauses n = n
  clauses_closures (tree.clause s w ss cs) n = clauses_closures cs (stms_closures ss (when_closures w n))

  pub block_closures : Blk → ℕ → ℕ
  block_closures (tree.block s ss) n = stms_closures ss n
