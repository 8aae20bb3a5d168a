-- What a typed program stands for.
use Rattle.std.specs.Prelude.{List, [], ◌∷◌, map}
use Rattle.own_tree.specs.declared.pattern.TPattern.{TPattern}
use Rattle.own_tree.specs.declared.pattern.TPattern.TheOpen.{TPattern-F}
use Rattle.own_tree.specs.declared.pattern.TPattern.TheFolds.{fold-TPattern}
use Rattle.own_tree.specs.declared.span.Span.{Span}
use Rattle.own_tree.specs.declared.typed.Body.{Body}
use Rattle.own_tree.specs.declared.typed.Typed.{Typed}
use Rattle.own_tree.specs.declared.typed.TypedBlock.{TypedBlock}
use Rattle.own_tree.specs.declared.typed.TypedClause.{TypedClause}
use Rattle.own_tree.specs.declared.typed.TypedExpr.{TypedExpr}
use Rattle.own_tree.specs.declared.typed.TypedExpr.TheOpen.{TypedExpr-F}
use Rattle.own_tree.specs.declared.typed.TypedExpr.TheFolds.{fold-TypedExpr}
use Rattle.own_tree.specs.declared.typed.TypedHead.{TypedHead}
use Rattle.own_tree.specs.declared.typed.TypedHead.TheVariants as head
use Rattle.own_tree.specs.declared.typed.TypedStmt.{TypedStmt}
use Rattle.own_tree.specs.declared.typed.TypedStmt.TheOpen.{TypedStmt-F, TypedClause-F, TypedBlock-F}
use Rattle.own_tree.specs.declared.typed.TypedStmt.TheFolds.{fold-TypedStmt, fold-TypedClause, fold-TypedBlock}
use Rattle.own_tree.specs.TypedSource.{TPat, any, bind, of_case, of_number, of_truth, TPats, no_pats, pat, TExp, number, text, truth, path, parenthesized, consumed, negated, inverted, arithmetic, wrapping, compared, logic, choice, member, call, address, closure, function, TExps, no_exps, exp, TWhen, case_of, case_where, default, TStm, let_in, declare, ignore, assign, update, discard_self, if_then, if_else, else_if, loop_while, loop_repeat, loop_for, switch, leave, go_on, return_none, return_value, evaluate, TStms, no_stms, stm, TClauses, no_clauses, clause, TBlk, block, TBody, Program}

-- ---- patterns

abbrev pub pats_of : List TPat → TPats
pats_of [] = no_pats
pats_of (p ∷ ps) = pat p (pats_of ps)

abbrev pub pattern_step : TPattern-F TPat → TPat
pattern_step TPattern-F.Any = any
pattern_step (TPattern-F.Bind b) = bind b
pattern_step (TPattern-F.Case c ps) = of_case c (pats_of ps)
pattern_step (TPattern-F.Number n) = of_number n
pattern_step (TPattern-F.Truth b) = of_truth b

abbrev pub pattern_view : TPattern → TPat
pattern_view = fold-TPattern TPat pattern_step

-- ---- expressions

abbrev pub exps_of : List TExp → TExps
exps_of [] = no_exps
exps_of (e ∷ es) = exp e (exps_of es)

abbrev pub expr_step : TypedExpr-F TExp → TExp
expr_step (TypedExpr-F.Number at n) = number at n
expr_step (TypedExpr-F.Text at t) = text at t
expr_step (TypedExpr-F.Truth at b) = truth at b
expr_step (TypedExpr-F.Path p) = path p
expr_step (TypedExpr-F.Parenthesized at e) = parenthesized at e
expr_step (TypedExpr-F.Consume at p) = consumed at p
expr_step (TypedExpr-F.Negate at s e) = negated at s e
expr_step (TypedExpr-F.Not at e) = inverted at e
expr_step (TypedExpr-F.Arithmetic at o s a b) = arithmetic at o s a b
expr_step (TypedExpr-F.Wrapping at o a b) = wrapping at o a b
expr_step (TypedExpr-F.Compare at o a b) = compared at o a b
expr_step (TypedExpr-F.Logic at o a b) = logic at o a b
expr_step (TypedExpr-F.Choice at c a b) = choice at c a b
expr_step (TypedExpr-F.Member at e k) = member at e k
expr_step (TypedExpr-F.Call at t es passings) = call at t (exps_of es) passings
expr_step (TypedExpr-F.Address p) = address p
expr_step (TypedExpr-F.Closure at k) = closure at k
expr_step (TypedExpr-F.Function at k) = function at k

abbrev pub expr_view : TypedExpr → TExp
expr_view = fold-TypedExpr TExp expr_step

-- ---- statements and blocks

-- a clause with its span, its head and its statements
abbrev pub Cla : Type 0
Cla = Span × TWhen × TStms

abbrev pub stms_of : List TStm → TStms
stms_of [] = no_stms
stms_of (s ∷ ss) = stm s (stms_of ss)

abbrev pub clauses_of : List Cla → TClauses
clauses_of [] = no_clauses
clauses_of (c ∷ cs) = clause c.0 c.1 c.2 (clauses_of cs)

abbrev pub head_view : TypedHead → TWhen
head_view (head.Case ps) = case_of (pats_of (map pattern_view ps))
head_view (head.Guarded p e) = case_where (pattern_view p) (expr_view e)
head_view head.Default = default

abbrev pub stmt_step : TypedStmt-F TStm TBlk Cla → TStm
stmt_step (TypedStmt-F.Let at x e) = let_in at x (expr_view e)
stmt_step (TypedStmt-F.Declare at x) = declare at x
stmt_step (TypedStmt-F.Ignore at e) = ignore at (expr_view e)
stmt_step (TypedStmt-F.Assign at p e) = assign at p (expr_view e)
stmt_step (TypedStmt-F.Update at p o s e) = update at p o s (expr_view e)
stmt_step (TypedStmt-F.Discard at p) = discard_self at p
stmt_step (TypedStmt-F.If at c b) = if_then at (expr_view c) b
stmt_step (TypedStmt-F.IfElse at c b d) = if_else at (expr_view c) b d
stmt_step (TypedStmt-F.ElseIf at c b s) = else_if at (expr_view c) b s
stmt_step (TypedStmt-F.While at c b) = loop_while at (expr_view c) b
stmt_step (TypedStmt-F.Repeat at b c) = loop_repeat at b (expr_view c)
stmt_step (TypedStmt-F.For at x low o s high b) = loop_for at x (expr_view low) o s (expr_view high) b
stmt_step (TypedStmt-F.Switch at e cs) = switch at (expr_view e) (clauses_of cs)
stmt_step (TypedStmt-F.Break at) = leave at
stmt_step (TypedStmt-F.Continue at) = go_on at
stmt_step (TypedStmt-F.Return at) = return_none at
stmt_step (TypedStmt-F.ReturnValue at e) = return_value at (expr_view e)
stmt_step (TypedStmt-F.Evaluate at e) = evaluate at (expr_view e)

abbrev pub clause_step : TypedClause-F TStm TBlk Cla → Cla
clause_step c = (c.span, head_view c.head, stms_of c.statements)

abbrev pub block_step : TypedBlock-F TStm TBlk Cla → TBlk
block_step b = block b.at (stms_of b.statements)

abbrev pub stmt_view : TypedStmt → TStm
stmt_view = fold-TypedStmt TStm TBlk Cla stmt_step block_step clause_step

abbrev pub clause_view : TypedClause → Cla
clause_view = fold-TypedClause TStm TBlk Cla stmt_step block_step clause_step

abbrev pub block_view : TypedBlock → TBlk
block_view = fold-TypedBlock TStm TBlk Cla stmt_step block_step clause_step

-- ---- bodies and the program

abbrev pub body_view : Body → TBody
body_view b = record { kind = b.kind; owner = b.owner; params = b.params; result = b.result; discards = b.discards; span = b.span; close = b.close; block = block_view b.block }

abbrev pub program_view : Typed → Program
program_view t = record { bodies = map body_view t.bodies; bindings = t.bindings; signatures = t.signatures; main = t.main; tokens = t.tokens }
