-- What stands after a part that is spelled, or that breaks off, is a tail of the tokens where it begins.
use Rattle.std.proofs.Common.{◌≡◌, ℕ, ◌+◌, ◌-◌, ◌≤◌, Bool, true, false, List, [], ◌∷◌, ◌++◌, append_assoc, length, Option, Some, None, inl, inr, refl, sym, ap, ◌∙◌, drop, take, length-append, arith}
use Rattle.std.proofs.lemmas.List.{take-append-drop}
use Rattle.std.proofs.Math.Seq.{drop-append_seam}
use Rattle.own_tree.specs.declared.tree.ClosureName.{ClosureName}
use Rattle.own_tree.specs.declared.tree.Name.{Name}
use Rattle.own_tree.specs.declared.tree.Path.{Path}
use Rattle.own_tree.specs.declared.span.Span.{Span}
use Rattle.own_tree.specs.Source.{LetPat, let_any, let_bind, let_case, let_number, let_truth, LetPats, no_let_pats, let_pat, Pat, any, bind, bind_case, on_case, on_number, on_truth, Pats, no_pats, pat, Exp, number, text, truth, path, implicit_member, parenthesized, consumed, prefix, binary, choice, member, call, call_closing, call_closure, Given, value, address, closing, Args, no_args, arg, Clo, closure, Stm, let_in, declare, assign, ignore, discard_self, if_then, if_else, else_if, loop_while, loop_repeat, loop_for, switch, leave, go_on, return_none, return_value, evaluate, Stms, no_stms, stm, When, case_of, case_where, default, Clauses, no_clauses, clause, Blk, block}
use Rattle.own_grammar.specs.declared.Context.{Context}
use Rattle.own_grammar.specs.declared.Context.TheVariants.{Plain, Condition, Inside}
use Rattle.own_grammar.specs.Tests.{Toks, after, closure_name_at, names_at, name_then, names_or, closure_head}
use Rattle.own_grammar.specs.Nesting.{is_return}
use Rattle.own_grammar.specs.Spells.{Fields, SpellsPath, Typed, SpellsNumber, SpellsLetPat, SpellsLetPats, SpellsPat, SpellsPats, Sep, Labels, Ignored, SpellsE, SpellsG, SpellsA, SpellsK, SpellsS, SpellsL, SpellsN, SpellsH, SpellsC, SpellsB}
use Rattle.own_grammar.specs.Partial.{PLetPat, gone_let, p_let_case, PLetPats, p_let_pat, p_next_let, PPat, gone_pattern, p_bind_case, p_case, PPats, p_pattern, p_next_pattern, PExp, gone, p_parenthesized, p_consumed, p_prefix, p_binary, p_first, p_second, p_member, p_call, p_unclosed, p_call_closing, p_call_closure, PGiven, p_value, p_address, p_closing, PArgs, no_more, p_arg, p_then, PClo, p_opened, p_closure, PStm, gone_stm, p_let, p_assign, p_ignore, p_if, p_if_then, p_if_else, p_else_if, p_while, p_while_do, p_repeat, p_repeat_while, p_from, p_to, p_for, p_subject, p_switch, p_return, p_evaluate, PStms, p_stm, p_next, PClauses, p_patterns, p_where, p_clause, p_next_clause, PBlk, gone_block, p_block, PartLetPat, PartLetPats, PartPat, PartPats, PartE, PartG, PartA, PartK, PartS, PartL, PartC, PartB}

pub record Tail (from to : Toks) : Type 0 where
  pub front : Toks
  pub is : from ≡ front ++ to

pub same : (ts : Toks) → Tail ts ts
same ts = record { front = []; is = refl }

infixl 10 ◌then◌
pub ◌then◌ : {a b c : Toks} → Tail a b → Tail b c → Tail a c
◌then◌ {a} {b} {c} p q = record {
  front = p.front ++ q.front;
  is = p.is ∙ ap (λ (r : Toks). p.front ++ r) q.is ∙ sym (append_assoc p.front q.front c);
}

pub one : (ts : Toks) → Tail ts (after ts)
one [] = same []
one (t ∷ ts) = record { front = t ∷ []; is = refl }

pub two : (ts : Toks) → Tail ts (after (after ts))
two ts = one ts then one (after ts)

pub three : (ts : Toks) → Tail ts (after (after (after ts)))
three ts = two ts then one (after (after ts))

-- ---- paths and patterns

fields_tail : (ns : List Name) (from to : Toks) → Fields ns from to → Tail from to
fields_tail [] from to is = rw is (same from)
fields_tail (n ∷ ns) from to (dot, nm, more) = two from then fields_tail ns (after (after from)) to more

path_tail : (p : Path) (from to : Toks) → SpellsPath p from to → Tail from to
path_tail p from to (r, fs, s) = one from then fields_tail p.fields (after from) to fs

typed_tail : (t : Option Name) (from to : Toks) → Typed t from to → Tail from to
typed_tail None from to is = rw is (same from)
typed_tail (Some t) from to (colon, nm, is) = rw is (two from)

labels_tail : (l : Option Name) (from to : Toks) → Labels l from to → Tail from to
labels_tail (Some x) from to (is, at_) = rw at_ (two from)
labels_tail None from to (is, at_) = rw at_ (same from)

pub sep_tail : (bare : Bool) (from to : Toks) → Sep bare from to → Tail from to
sep_tail bare from to (inl (is, at_)) = rw at_ (one from)
sep_tail bare from to (inr (is, isnt, at_)) = rw at_ (same from)

ignored_tail : (t : Option Name) (from mid : Toks) → Ignored t from mid → Tail from mid
ignored_tail t from mid (inl (k, none, eq, at_)) = rw at_ (one from)
ignored_tail t from mid (inr (w, kw, nm, ty, eq)) = two from then typed_tail t (after (after from)) mid ty

number_tail : (s : Span) (negative : Bool) (n : ℕ) (from to : Toks) → SpellsNumber s negative n from to → Tail from to
number_tail s false n from to (num, is, r) = rw is (one from)
number_tail s true n from to (num, is, r) = rw is (two from)

mutual
  let_pat_tail : (p : LetPat) (from to : Toks) → SpellsLetPat p from to → Tail from to
  let_pat_tail (let_any s) from to (k, is, r) = rw is (one from)
  let_pat_tail (let_bind n) from to (nm, is) = rw is (one from)
  let_pat_tail (let_case s n no_let_pats) from to (c, is, r) = rw is (two from)
  let_pat_tail (let_case s n (let_pat p ps)) from to (c, paren, last, sps, close, is, r) = rw is (three from then let_pats_tail (let_pat p ps) (after (after (after from))) last sps then one last)
  let_pat_tail (let_number s negative n) from to sp = number_tail s negative n from to sp
  let_pat_tail (let_truth s b) from to (t, is, r) = rw is (one from)

  let_pats_tail : (ps : LetPats) (from to : Toks) → SpellsLetPats ps from to → Tail from to
  let_pats_tail no_let_pats from to sp = absurd sp
  let_pats_tail (let_pat p no_let_pats) from to sp = let_pat_tail p from to sp
  let_pats_tail (let_pat p (let_pat q ps)) from to (mid, sp, comma, sps) = let_pat_tail p from mid sp then one mid then let_pats_tail (let_pat q ps) (after mid) to sps

mutual
  pat_tail : (p : Pat) (from to : Toks) → SpellsPat p from to → Tail from to
  pat_tail (any s) from to (k, is, r) = rw is (one from)
  pat_tail (bind s n) from to (k, nm, is, r) = rw is (two from)
  pat_tail (bind_case s p) from to (k, sp, is, r) = one from then let_pat_tail p (after from) to sp
  pat_tail (on_case s n no_pats) from to (c, is, r) = rw is (two from)
  pat_tail (on_case s n (pat p ps)) from to (c, paren, last, sps, close, is, r) = rw is (three from then pats_tail (pat p ps) (after (after (after from))) last sps then one last)
  pat_tail (on_number s negative n) from to sp = number_tail s negative n from to sp
  pat_tail (on_truth s b) from to (t, is, r) = rw is (one from)

  pats_tail : (ps : Pats) (from to : Toks) → SpellsPats ps from to → Tail from to
  pats_tail no_pats from to sp = absurd sp
  pats_tail (pat p no_pats) from to sp = pat_tail p from to sp
  pats_tail (pat p (pat q ps)) from to (mid, sp, comma, sps) = pat_tail p from mid sp then one mid then pats_tail (pat q ps) (after mid) to sps

-- ---- the names of a closure

abbrev Head : Type 0
Head = List ClosureName × Toks

some_is : (x y : Head) → Some x ≡ Some y → x.1 ≡ y.1
some_is x y e = ap (λ (r : Head). r.1) equal
  where
    equal : x ≡ y
    equal = cc

names_tail : (ts us : Toks) (ns : List ClosureName) → names_at ts ≡ Some (ns, us) → Tail ts us
unfolding names_at
names_tail [] us ns e = absurd cc
names_tail (t ∷ []) us ns e = absurd cc
names_tail (t ∷ u ∷ ts) us ns e = by_parts (closure_name_at (t ∷ u ∷ ts)) _ _ (names_at ts) e (λ ms. names_tail ts us ms)
  where
    by_parts : (b : Option ClosureName) (comma ends : Bool) (more : Option (List ClosureName × Toks)) → name_then b comma ends more ts ≡ Some (ns, us) → ((ms : List ClosureName) → more ≡ Some (ms, us) → Tail ts us) → Tail (t ∷ u ∷ ts) us
    by_parts None comma ends more h ih = absurd cc
    by_parts (Some n) true ends None h ih = absurd cc
    by_parts (Some n) true ends (Some r) h ih = (let equal = some_is (n ∷ r.0, r.1) (ns, us) h in two (t ∷ u ∷ ts) then ih r.0 (rw (← equal) refl))
    by_parts (Some n) false true more h ih = (let equal = some_is (n ∷ [], ts) (ns, us) h in rw (← equal) (two (t ∷ u ∷ ts)))
    by_parts (Some n) false false more h ih = absurd cc

head_by : (ts : Toks) (o : Option (List ClosureName × Toks)) → names_at ts ≡ o → Tail ts (names_or o ts).1
head_by ts None e = same ts
head_by ts (Some r) e = names_tail ts r.1 r.0 e

head_at : (ts : Toks) → Tail ts (closure_head ts).1
unfolding closure_head
head_at ts = head_by ts (names_at ts) refl

head_tail : (ts start : Toks) (ns : List ClosureName) → closure_head ts ≡ (ns, start) → Tail ts start
head_tail ts start ns e = let equal : (closure_head ts).1 ≡ start = ap (λ (r : Head). r.1) e in rw (← equal) (head_at ts)

-- ---- what is spelled

mutual
  tail_e : (e : Exp) (tight : Bool) (context : Context) (from to : Toks) → SpellsE e tight context from to → Tail from to
  tail_e (number s false n) tight context from to (num, is, r) = rw is (one from)
  tail_e (number s true n) tight context from to (num, is, r) = rw is (two from)
  tail_e (text s t) tight context from to (txt, is, r) = rw is (one from)
  tail_e (truth s b) tight context from to (tr, is, r) = rw is (one from)
  tail_e (path p) tight context from to sp = path_tail p from to sp
  tail_e (implicit_member s n) tight context from to (c, is, r) = rw is (two from)
  tail_e (parenthesized s e) tight context from to (lp, mid, sp, rp, is, r) = rw is (one from then tail_e e false Inside (after from) mid sp then one mid)
  tail_e (consumed s p) tight context from to (k, sp, r) = one from then path_tail p (after from) to sp
  tail_e (prefix s o e) tight context from to (un, sp, low, r) = one from then tail_e e true context (after from) to sp
  tail_e (binary s o at_ x y) tight context from to (mid, spa, left, is, is_at, spb, right, r) = tail_e x tight context from mid spa then one mid then tail_e y false context (after mid) to spb
  tail_e (choice s c x y) tight context from to (mid, last, spc, low, q, spa, colon, spb, r) = tail_e c tight context from mid spc then one mid then tail_e x false context (after mid) last spa then one last then tail_e y false context (after last) to spb
  tail_e (member s e n) tight context from to (mid, sp, is, isnt, c, at_, r) = rw at_ (tail_e e tight context from mid sp then two mid)
  tail_e (call s f es) tight context from to (mid, last, sp, is, lp, sps, close, at_, r) = rw at_ (tail_e f tight context from mid sp then one mid then tail_a es (after mid) last sps then one last)
  tail_e (call_closing s f es x) tight context from to (mid, last, sp, is, lp, sps, close, lb, spk, r) = tail_e f tight context from mid sp then one mid then tail_a es (after mid) last sps then one last then tail_k x (after last) to spk
  tail_e (call_closure s f x) tight context from to (mid, sp, is, isnt, lb, spk, r) = tail_e f tight context from mid sp then tail_k x mid to spk

  tail_g : (g : Given) (from to : Toks) → SpellsG g from to → Tail from to
  tail_g (value e) from to sp = tail_e e false Inside from to sp
  tail_g (address s p) from to (k, sp, r) = one from then path_tail p (after from) to sp
  tail_g (closing c) from to sp = tail_k c from to sp

  tail_a : (es : Args) (from to : Toks) → SpellsA es from to → Tail from to
  tail_a no_args from to is = rw is (same from)
  tail_a (arg l g no_args) from to (start, lab, sp) = labels_tail l from start lab then tail_g g start to sp
  tail_a (arg l g (arg l' g' es)) from to (start, mid, lab, sp, comma, sps) = labels_tail l from start lab then tail_g g start mid sp then one mid then tail_a (arg l' g' es) (after mid) to sps

  tail_k : (c : Clo) (from to : Toks) → SpellsK c from to → Tail from to
  tail_k (closure s ns ss) from to (lb, start, last, head, sps, is, r) = rw is (one from then head_tail (after from) start ns head then tail_l ss start last sps then one last)

  tail_s : (s : Stm) (from to : Toks) → SpellsS s from to → Tail from to
  tail_s (let_in s k n t e) from to (kw, nm, mid, ty, eq, sp, r) = two from then typed_tail t (after (after from)) mid ty then one mid then tail_e e false Plain (after mid) to sp
  tail_s (declare s k n t) from to (kw, nm, ty, r) = two from then typed_tail t (after (after from)) to ty
  tail_s (assign s p o at_ e) from to (mid, spp, op, is_at, sp, r) = path_tail p from mid spp then one mid then tail_e e false Plain (after mid) to sp
  tail_s (ignore s t e) from to (mid, ig, sp, r) = ignored_tail t from mid ig then one mid then tail_e e false Plain (after mid) to sp
  tail_s (discard_self s) from to (k, self, is, r) = rw is (two from)
  tail_s (if_then s c b) from to (k, mid, sp, spb, r) = one from then tail_e c false Condition (after from) mid sp then tail_b b mid to spb
  tail_s (if_else s c b e) from to (k, mid, last, sp, spb, els, spe, r) = one from then tail_e c false Condition (after from) mid sp then tail_b b mid last spb then one last then tail_b e (after last) to spe
  tail_s (else_if s c b e) from to (k, mid, last, sp, spb, els, spe, is, r) = one from then tail_e c false Condition (after from) mid sp then tail_b b mid last spb then one last then tail_s e (after last) to spe
  tail_s (loop_while s c b) from to (k, mid, sp, spb, r) = one from then tail_e c false Condition (after from) mid sp then tail_b b mid to spb
  tail_s (loop_repeat s b c) from to (k, mid, spb, w, sp, r) = one from then tail_b b (after from) mid spb then one mid then tail_e c false Condition (after mid) to sp
  tail_s (loop_for s n low o at_ high b) from to (k, nm, within, mid, last, spl, op, is_at, sph, spb, r) = three from then tail_e low false Condition (after (after (after from))) mid spl then one mid then tail_e high false Condition (after mid) last sph then tail_b b last to spb
  tail_s (switch s e cs) from to (k, mid, last, sp, lb, spc, is, r) = rw is (one from then tail_e e false Condition (after from) mid sp then one mid then tail_c cs (after mid) last spc then one last)
  tail_s (leave s) from to (k, is, r) = rw is (one from)
  tail_s (go_on s) from to (k, is, r) = rw is (one from)
  tail_s (return_none s) from to (k, is, r) = rw is (one from)
  tail_s (return_value s e) from to (k, bare, sp, r) = one from then tail_e e false Plain (after from) to sp
  tail_s (evaluate e) from to sp = tail_e e false Plain from to sp

  tail_l : (ss : Stms) (from to : Toks) → SpellsL ss from to → Tail from to
  tail_l no_stms from to (rb, is) = rw is (same from)
  tail_l (stm s ss) from to (mid, next, sp, sep, sps) = tail_s s from mid sp then sep_tail (is_return s) mid next sep then tail_l ss next to sps

  tail_n : (ss : Stms) (from to : Toks) → SpellsN ss from to → Tail from to
  tail_n no_stms from to sp = absurd sp
  tail_n (stm s no_stms) from to (mid, sp, sep) = tail_s s from mid sp then sep_tail (is_return s) mid to sep
  tail_n (stm s (stm s' ss)) from to (mid, next, sp, sep, sps) = tail_s s from mid sp then sep_tail (is_return s) mid next sep then tail_n (stm s' ss) next to sps

  tail_h : (h : When) (from to : Toks) → SpellsH h from to → Tail from to
  tail_h (case_of ps) from to (k, sps) = one from then pats_tail ps (after from) to sps
  tail_h (case_where p e) from to (k, mid, sp, w, spe) = one from then pat_tail p (after from) mid sp then one mid then tail_e e false Plain (after mid) to spe
  tail_h default from to (k, is) = rw is (one from)

  tail_c : (cs : Clauses) (from to : Toks) → SpellsC cs from to → Tail from to
  tail_c no_clauses from to (rb, is) = rw is (same from)
  tail_c (clause s h ss cs) from to (colon, next, sph, k, sps, r, spc) = tail_h h from colon sph then one colon then tail_n ss (after colon) next sps then tail_c cs next to spc

  pub tail_b : (b : Blk) (from to : Toks) → SpellsB b from to → Tail from to
  tail_b (block s ss) from to (lb, last, sps, is, r) = rw is (one from then tail_l ss (after from) last sps then one last)

-- ---- what breaks off

mutual
  let_pattern_part : (p : PLetPat) (from to : Toks) → PartLetPat p from to → Tail from to
  let_pattern_part gone_let from to is = rw is (same from)
  let_pattern_part (p_let_case n ps) from to (c, paren, sps) = three from then let_patterns_part ps (after (after (after from))) to sps

  let_patterns_part : (ps : PLetPats) (from to : Toks) → PartLetPats ps from to → Tail from to
  let_patterns_part (p_let_pat p) from to sp = let_pattern_part p from to sp
  let_patterns_part (p_next_let p ps) from to (mid, sp, comma, sps) = let_pat_tail p from mid sp then one mid then let_patterns_part ps (after mid) to sps

mutual
  pattern_part : (p : PPat) (from to : Toks) → PartPat p from to → Tail from to
  pattern_part gone_pattern from to is = rw is (same from)
  pattern_part (p_bind_case p) from to (k, sp) = one from then let_pattern_part p (after from) to sp
  pattern_part (p_case n ps) from to (c, paren, sps) = three from then patterns_part ps (after (after (after from))) to sps

  patterns_part : (ps : PPats) (from to : Toks) → PartPats ps from to → Tail from to
  patterns_part (p_pattern p) from to sp = pattern_part p from to sp
  patterns_part (p_next_pattern p ps) from to (mid, sp, comma, sps) = pat_tail p from mid sp then one mid then patterns_part ps (after mid) to sps

mutual
  part_e : (p : PExp) (tight : Bool) (context : Context) (from to : Toks) → PartE p tight context from to → Tail from to
  part_e gone tight context from to is = rw is (same from)
  part_e (p_parenthesized p) tight context from to (lp, sp) = one from then part_e p false Inside (after from) to sp
  part_e p_consumed tight context from to (k, is) = rw is (one from)
  part_e (p_prefix o p) tight context from to (un, sp, low) = one from then part_e p true context (after from) to sp
  part_e (p_binary o x p) tight context from to (mid, spa, left, is, sp, low) = tail_e x tight context from mid spa then one mid then part_e p false context (after mid) to sp
  part_e (p_first c p) tight context from to (mid, spc, low, q, sp) = tail_e c tight context from mid spc then one mid then part_e p false context (after mid) to sp
  part_e (p_second c x p) tight context from to (mid, last, spc, low, q, spa, colon, sp) = tail_e c tight context from mid spc then one mid then tail_e x false context (after mid) last spa then one last then part_e p false context (after last) to sp
  part_e (p_member e) tight context from to (mid, sp, is, isnt, dot, at_) = rw at_ (tail_e e tight context from mid sp then one mid)
  part_e (p_call f ps) tight context from to (mid, sp, is, lp, sps) = tail_e f tight context from mid sp then one mid then part_a ps (after mid) to sps
  part_e (p_unclosed f es) tight context from to (mid, last, sp, is, lp, sps, close, lb, at_) = rw at_ (tail_e f tight context from mid sp then one mid then tail_a es (after mid) last sps then one last)
  part_e (p_call_closing f es p) tight context from to (mid, last, sp, is, lp, sps, close, lb, spk) = tail_e f tight context from mid sp then one mid then tail_a es (after mid) last sps then one last then part_k p (after last) to spk
  part_e (p_call_closure f p) tight context from to (mid, sp, is, isnt, lb, spk) = tail_e f tight context from mid sp then part_k p mid to spk

  part_g : (p : PGiven) (from to : Toks) → PartG p from to → Tail from to
  part_g (p_value p) from to sp = part_e p false Inside from to sp
  part_g p_address from to (k, is) = rw is (one from)
  part_g (p_closing p) from to sp = part_k p from to sp

  part_a : (ps : PArgs) (from to : Toks) → PartA ps from to → Tail from to
  part_a no_more from to is = rw is (same from)
  part_a (p_arg l p) from to (start, lab, sp) = labels_tail l from start lab then part_g p start to sp
  part_a (p_then l g ps) from to (start, mid, lab, sp, comma, sps) = labels_tail l from start lab then tail_g g start mid sp then one mid then part_a ps (after mid) to sps

  part_k : (p : PClo) (from to : Toks) → PartK p from to → Tail from to
  part_k p_opened from to (lb, is) = rw is (one from)
  part_k (p_closure ns ps) from to (lb, start, head, sps) = one from then head_tail (after from) start ns head then part_l ps start to sps

  part_s : (p : PStm) (from to : Toks) → PartS p from to → Tail from to
  part_s gone_stm from to is = rw is (same from)
  part_s (p_let k n t p) from to (kw, nm, mid, ty, eq, sp) = two from then typed_tail t (after (after from)) mid ty then one mid then part_e p false Plain (after mid) to sp
  part_s (p_assign x o p) from to (mid, spp, op, sp) = path_tail x from mid spp then one mid then part_e p false Plain (after mid) to sp
  part_s (p_ignore p) from to (k, eq, sp) = two from then part_e p false Plain (after (after from)) to sp
  part_s (p_if p) from to (k, sp) = one from then part_e p false Condition (after from) to sp
  part_s (p_if_then c p) from to (k, mid, sp, spb) = one from then tail_e c false Condition (after from) mid sp then part_b p mid to spb
  part_s (p_if_else c b p) from to (k, mid, last, sp, spb, els, spe) = one from then tail_e c false Condition (after from) mid sp then tail_b b mid last spb then one last then part_b p (after last) to spe
  part_s (p_else_if c b p) from to (k, mid, last, sp, spb, els, spe) = one from then tail_e c false Condition (after from) mid sp then tail_b b mid last spb then one last then part_s p (after last) to spe
  part_s (p_while p) from to (k, sp) = one from then part_e p false Condition (after from) to sp
  part_s (p_while_do c p) from to (k, mid, sp, spb) = one from then tail_e c false Condition (after from) mid sp then part_b p mid to spb
  part_s (p_repeat p) from to (k, spb) = one from then part_b p (after from) to spb
  part_s (p_repeat_while b p) from to (k, mid, spb, w, sp) = one from then tail_b b (after from) mid spb then one mid then part_e p false Condition (after mid) to sp
  part_s (p_from n p) from to (k, nm, within, sp) = three from then part_e p false Condition (after (after (after from))) to sp
  part_s (p_to n low o p) from to (k, nm, within, mid, spl, op, sp) = three from then tail_e low false Condition (after (after (after from))) mid spl then one mid then part_e p false Condition (after mid) to sp
  part_s (p_for n low o high p) from to (k, nm, within, mid, last, spl, op, sph, spb) = three from then tail_e low false Condition (after (after (after from))) mid spl then one mid then tail_e high false Condition (after mid) last sph then part_b p last to spb
  part_s (p_subject p) from to (k, sp) = one from then part_e p false Condition (after from) to sp
  part_s (p_switch e ps) from to (k, mid, sp, lb, spc) = one from then tail_e e false Condition (after from) mid sp then one mid then part_c ps (after mid) to spc
  part_s (p_return p) from to (k, bare, sp) = one from then part_e p false Plain (after from) to sp
  part_s (p_evaluate p) from to sp = part_e p false Plain from to sp

  part_l : (ps : PStms) (from to : Toks) → PartL ps from to → Tail from to
  part_l (p_stm p) from to sp = part_s p from to sp
  part_l (p_next s ps) from to (mid, next, sp, sep, sps) = tail_s s from mid sp then sep_tail (is_return s) mid next sep then part_l ps next to sps

  part_c : (ps : PClauses) (from to : Toks) → PartC ps from to → Tail from to
  part_c (p_patterns ps) from to (k, sps) = one from then patterns_part ps (after from) to sps
  part_c (p_where q p) from to (k, mid, sp, w, spe) = one from then pat_tail q (after from) mid sp then one mid then part_e p false Plain (after mid) to spe
  part_c (p_clause h ps) from to (colon, sph, k, sps) = tail_h h from colon sph then one colon then part_l ps (after colon) to sps
  part_c (p_next_clause h ss ps) from to (colon, next, sph, k, sps, spc) = tail_h h from colon sph then one colon then tail_n ss (after colon) next sps then part_c ps next to spc

  pub part_b : (p : PBlk) (from to : Toks) → PartB p from to → Tail from to
  part_b gone_block from to is = rw is (same from)
  part_b (p_block ps) from to (lb, sps) = one from then part_l ps (after from) to sps

-- ---- places

pub tail_drop : (from to : Toks) → Tail from to → to ≡ drop (length from - length to) from
tail_drop from to p =
    let n : length from ≡ length p.front + length to = ap length p.is ∙ length-append p.front to in
    let m : length from - length to ≡ length p.front = omega arith in
    rw (m, p.is) (sym (drop-append_seam p.front to))

-- what is left where so many tokens are left
pub at_place : (ts : Toks) (n : ℕ) (to : Toks) → Tail (drop n ts) to → to ≡ drop (length ts - length to) ts
at_place ts n to p = tail_drop ts to (record { front = take n ts; is = sym (take-append-drop n ts) } then p)

pub tail_le : (from to : Toks) → Tail from to → length to ≤ length from
tail_le from to p = let n : length from ≡ length p.front + length to = ap length p.is ∙ length-append p.front to in omega arith
