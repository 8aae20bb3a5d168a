-- An expression, a statement, a block that is spelled takes tokens.
use Rattle.std.proofs.Common.{◌≡◌, ◌≤◌, ◌<◌, Bool, true, false, List, length, Option, Some, inl, inr, ap, arith}
use Rattle.own_tree.specs.declared.tree.ClosureName.{ClosureName}
use Rattle.own_tree.specs.declared.tree.Name.{Name}
use Rattle.own_tree.specs.declared.tree.BinaryOperator.{BinaryOperator}
use Rattle.own_tree.specs.Source.{Exp, number, text, truth, path, implicit_member, parenthesized, consumed, prefix, binary, choice, member, call, call_closing, call_closure, Given, value, address, closing, Args, no_args, arg, Clo, closure, Stm, let_in, declare, assign, ignore, discard_self, if_then, if_else, else_if, loop_while, loop_repeat, loop_for, switch, leave, go_on, return_none, return_value, evaluate, Stms, no_stms, stm, When, case_of, case_where, default, Clauses, no_clauses, clause, Blk, block}
use Rattle.own_grammar.specs.declared.Context.{Context}
use Rattle.own_grammar.specs.declared.Context.TheVariants.{Plain, Condition, Inside}
use Rattle.own_grammar.specs.Tests.{Toks, after, operator_at, closure_head}
use Rattle.own_grammar.specs.Nesting.{is_return}
use Rattle.own_grammar.specs.Spells.{SpellsE, SpellsG, SpellsA, SpellsK, SpellsS, SpellsL, SpellsN, SpellsH, SpellsC, SpellsB, Ignored}
use Rattle.own_grammar.proofs.Facts.{number_kind, text_kind, truth_kind, negative_kind}
use Rattle.own_grammar.proofs.Facts.{number_kind}
use Rattle.own_grammar.proofs.Lengths.{after_short, after_le, path_short, typed_le, labels_le, sep_le, pat_short, pats_short, head_le}
use Rattle.own_grammar.proofs.Facts.{operator_kind, keyword_kind}

pub operator_short : (ts : Toks) (o : BinaryOperator) → operator_at ts ≡ Some o → length (after ts) < length ts
operator_short ts o e = after_short ts _ (operator_kind ts o e)

head_to : (ts start : Toks) (ns : List ClosureName) → closure_head ts ≡ (ns, start) → length start ≤ length ts
head_to ts start ns e = let a = head_le ts in let same : (closure_head ts).1 ≡ start = ap (λ (r : List ClosureName × Toks). r.1) e in rw (← same) a

ignored_le : (t : Option Name) (from mid : Toks) → Ignored t from mid → length mid ≤ length from
ignored_le t from mid (inl (k, none, eq, at_)) = rw at_ (after_le from)
ignored_le t from mid (inr (w, kw, nm, ty, eq)) = (let a = after_le from in let b = after_le (after from) in let c = typed_le t (after (after from)) mid ty in omega arith)

mutual
  pub short_e : (e : Exp) (tight : Bool) (context : Context) (from to : Toks) → SpellsE e tight context from to → length to < length from
  short_e (number s false n) tight context from to (num, is, r) = rw is (after_short from _ (number_kind from n num))
  short_e (number s true n) tight context from to (num, is, r) = rw is (let a = after_short from _ (negative_kind tight from n num).0 in let b = after_le (after from) in omega arith)
  short_e (text s t) tight context from to (txt, is, r) = rw is (after_short from _ (text_kind from t txt))
  short_e (truth s b) tight context from to (tr, is, r) = rw is (after_short from _ (truth_kind from b tr))
  short_e (path p) tight context from to sp = path_short p from to sp
  short_e (implicit_member s n) tight context from to (c, is, r) = rw is (let a = after_short from _ c.0 in let b = after_le (after from) in omega arith)
  short_e (parenthesized s e) tight context from to (lp, mid, sp, rp, is, r) = rw is (let a = after_short from _ lp in let b = short_e e false Inside (after from) mid sp in let c = after_le mid in omega arith)
  short_e (consumed s p) tight context from to (k, sp, r) = (let a = after_le from in let b = path_short p (after from) to sp in omega arith)
  short_e (prefix s o e) tight context from to (un, sp, low, r) = (let a = after_le from in let b = short_e e true context (after from) to sp in omega arith)
  short_e (binary s o at_ x y) tight context from to (mid, spa, left, is, is_at, spb, right, r) = (let a = short_e x tight context from mid spa in let b = short_e y false context (after mid) to spb in let c = after_le mid in omega arith)
  short_e (choice s c x y) tight context from to (mid, last, spc, low, q, spa, colon, spb, r) = (let a = short_e c tight context from mid spc in let b = after_le mid in let u = short_e x false context (after mid) last spa in let v = after_le last in let w = short_e y false context (after last) to spb in omega arith)
  short_e (member s e n) tight context from to (mid, sp, is, isnt, c, at_, r) = rw at_ (let a = short_e e tight context from mid sp in let b = after_le mid in let d = after_le (after mid) in omega arith)
  short_e (call s f es) tight context from to (mid, last, sp, is, lp, sps, close, at_, r) = rw at_ (let a = short_e f tight context from mid sp in let b = short_a es (after mid) last sps in let c = after_le mid in let d = after_le last in omega arith)
  short_e (call_closing s f es x) tight context from to (mid, last, sp, is, lp, sps, close, lb, spk, r) = (let a = short_e f tight context from mid sp in let b = short_a es (after mid) last sps in let c = after_le mid in let d = after_le last in let e = short_k x (after last) to spk in omega arith)
  short_e (call_closure s f x) tight context from to (mid, sp, is, isnt, lb, spk, r) = (let a = short_e f tight context from mid sp in let e = short_k x mid to spk in omega arith)

  pub short_g : (g : Given) (from to : Toks) → SpellsG g from to → length to < length from
  short_g (value e) from to sp = short_e e false Inside from to sp
  short_g (address s p) from to (k, sp, r) = (let a = after_le from in let b = path_short p (after from) to sp in omega arith)
  short_g (closing c) from to sp = short_k c from to sp

  pub short_a : (es : Args) (from to : Toks) → SpellsA es from to → length to ≤ length from
  short_a no_args from to is = rw is (omega arith)
  short_a (arg l g no_args) from to (start, lab, sp) = (let a = labels_le l from start lab in let b = short_g g start to sp in omega arith)
  short_a (arg l g (arg l' g' es)) from to (start, mid, lab, sp, comma, sps) = (let a = labels_le l from start lab in let b = short_g g start mid sp in let c = after_le mid in let d = short_a (arg l' g' es) (after mid) to sps in omega arith)

  pub short_k : (c : Clo) (from to : Toks) → SpellsK c from to → length to < length from
  short_k (closure s ns ss) from to (lb, start, last, head, sps, is, r) = rw is (let a = after_short from _ lb in let b = head_to (after from) start ns head in let c = short_l ss start last sps in let d = after_le last in omega arith)

  pub short_s : (s : Stm) (from to : Toks) → SpellsS s from to → length to < length from
  short_s (let_in s k n t e) from to (kw, nm, mid, ty, eq, sp, r) = (let a = after_le from in let b = after_le (after from) in let c = typed_le t (after (after from)) mid ty in let d = after_le mid in let f = short_e e false Plain (after mid) to sp in omega arith)
  short_s (declare s k n t) from to (kw, nm, ty, r) = (let a = after_short from _ (keyword_kind from k kw) in let b = after_le (after from) in let c = typed_le t (after (after from)) to ty in omega arith)
  short_s (assign s p o at_ e) from to (mid, spp, op, is_at, sp, r) = (let a = path_short p from mid spp in let b = after_le mid in let c = short_e e false Plain (after mid) to sp in omega arith)
  short_s (ignore s t e) from to (mid, ig, sp, r) = (let a = ignored_le t from mid ig in let b = after_le mid in let c = short_e e false Plain (after mid) to sp in omega arith)
  short_s (discard_self s) from to (k, self, is, r) = rw is (let a = after_short from _ k in let b = after_le (after from) in omega arith)
  short_s (if_then s c b) from to (k, mid, sp, spb, r) = (let a = after_le from in let x = short_e c false Condition (after from) mid sp in let y = short_b b mid to spb in omega arith)
  short_s (if_else s c b e) from to (k, mid, last, sp, spb, els, spe, r) = (let a = after_le from in let x = short_e c false Condition (after from) mid sp in let y = short_b b mid last spb in let z = after_le last in let v = short_b e (after last) to spe in omega arith)
  short_s (else_if s c b e) from to (k, mid, last, sp, spb, els, spe, is, r) = (let a = after_le from in let x = short_e c false Condition (after from) mid sp in let y = short_b b mid last spb in let z = after_le last in let v = short_s e (after last) to spe in omega arith)
  short_s (loop_while s c b) from to (k, mid, sp, spb, r) = (let a = after_le from in let x = short_e c false Condition (after from) mid sp in let y = short_b b mid to spb in omega arith)
  short_s (loop_repeat s b c) from to (k, mid, spb, w, sp, r) = (let a = after_le from in let x = short_b b (after from) mid spb in let y = after_le mid in let z = short_e c false Condition (after mid) to sp in omega arith)
  short_s (loop_for s n low o at_ high b) from to (k, nm, within, mid, last, spl, op, is_at, sph, spb, r) = (let a = after_le from in let c = after_le (after from) in let d = after_le (after (after from)) in let x = short_e low false Condition (after (after (after from))) mid spl in let y = after_le mid in let z = short_e high false Condition (after mid) last sph in let v = short_b b last to spb in omega arith)
  short_s (switch s e cs) from to (k, mid, last, sp, lb, spc, is, r) = rw is (let a = after_le from in let x = short_e e false Condition (after from) mid sp in let y = after_le mid in let z = short_c cs (after mid) last spc in let v = after_le last in omega arith)
  short_s (leave s) from to (k, is, r) = rw is (after_short from _ k)
  short_s (go_on s) from to (k, is, r) = rw is (after_short from _ k)
  short_s (return_none s) from to (k, is, r) = rw is (after_short from _ k)
  short_s (return_value s e) from to (k, bare, sp, r) = (let a = after_le from in let b = short_e e false Plain (after from) to sp in omega arith)
  short_s (evaluate e) from to sp = short_e e false Plain from to sp

  short_l : (ss : Stms) (from to : Toks) → SpellsL ss from to → length to ≤ length from
  short_l no_stms from to (rb, is) = rw is (omega arith)
  short_l (stm s ss) from to (mid, next, sp, sep, sps) = (let a = short_s s from mid sp in let b = sep_le (is_return s) mid next sep in let c = short_l ss next to sps in omega arith)

  pub short_n : (ss : Stms) (from to : Toks) → SpellsN ss from to → length to < length from
  short_n no_stms from to sp = absurd sp
  short_n (stm s no_stms) from to (mid, sp, sep) = (let a = short_s s from mid sp in let b = sep_le (is_return s) mid to sep in omega arith)
  short_n (stm s (stm s' ss)) from to (mid, next, sp, sep, sps) = (let a = short_s s from mid sp in let b = sep_le (is_return s) mid next sep in let c = short_n (stm s' ss) next to sps in omega arith)

  pub short_h : (h : When) (from to : Toks) → SpellsH h from to → length to < length from
  short_h (case_of ps) from to (k, sps) = (let a = after_le from in let b = pats_short ps (after from) to sps in omega arith)
  short_h (case_where p e) from to (k, mid, sp, w, spe) = (let a = after_le from in let b = pat_short p (after from) mid sp in let c = after_le mid in let d = short_e e false Plain (after mid) to spe in omega arith)
  short_h default from to (k, is) = rw is (after_short from _ k)

  short_c : (cs : Clauses) (from to : Toks) → SpellsC cs from to → length to ≤ length from
  short_c no_clauses from to (rb, is) = rw is (omega arith)
  short_c (clause s h ss cs) from to (colon, next, sph, k, sps, r, spc) = (let a = short_h h from colon sph in let b = after_le colon in let c = short_n ss (after colon) next sps in let d = short_c cs next to spc in omega arith)

  pub short_b : (b : Blk) (from to : Toks) → SpellsB b from to → length to < length from
  short_b (block s ss) from to (lb, last, sps, is, r) = rw is (let a = after_short from _ lb in let b = short_l ss (after from) last sps in let c = after_le last in omega arith)
