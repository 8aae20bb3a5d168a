-- What is read is spelled so.
use Rattle.std.proofs.Common.{◌≡◌, ℕ, zero, suc, ◌+◌, ◌≤◌, ◌<◌, Bool, cond, eqb, ltb, true, false, List, [], ◌∷◌, ◌++◌, length, Option, Some, None, Ok, inl, inr, refl, sym, ap, ◌∙◌, append_assoc, arith}
use Rattle.std.proofs.lemmas.List.{append-nil}
use Rattle.own_tree.specs.declared.span.Span.{Span}
use Rattle.own_tree.specs.declared.token.Kind.{Kind}
use Rattle.own_tree.specs.declared.token.Kind.TheVariants as kind
use Rattle.own_tree.specs.declared.token.Mark.TheVariants as mark
use Rattle.own_tree.specs.declared.token.Word.TheVariants as word
use Rattle.own_tree.specs.declared.tree.Name.{Name}
use Rattle.own_tree.specs.declared.tree.Path.{Path}
use Rattle.own_tree.specs.declared.tree.Keyword.{Keyword}
use Rattle.own_tree.specs.declared.tree.AssignOperator.{AssignOperator}
use Rattle.own_tree.specs.declared.tree.RangeOperator.{RangeOperator}
use Rattle.own_tree.specs.declared.tree.PrefixOperator.{PrefixOperator}
use Rattle.own_tree.specs.declared.tree.BinaryOperator.{BinaryOperator}
use Rattle.own_tree.specs.Source.{Exp, number, text, truth, path, implicit_member, parenthesized, consumed, prefix, binary, choice, member, call, call_closing, call_closure, Given, value, address, closing, Args, no_args, arg, Clo, closure, Stm, let_in, declare, assign, ignore, discard_self, if_then, if_else, else_if, loop_while, loop_repeat, loop_for, switch, leave, go_on, return_none, return_value, evaluate, Stms, no_stms, stm, When, case_of, case_where, default, Clauses, no_clauses, clause, Blk, block, Pat, Pats, no_pats, pat}
use Rattle.own_tree.specs.View.{Arg, Cla, args_of, stms_of, clauses_of, pats_of}
use Rattle.own_grammar.specs.declared.Context.{Context}
use Rattle.own_grammar.specs.declared.Context.TheVariants.{Plain, Condition, Inside}
use Rattle.own_grammar.specs.Tests.{Toks, after, here, till, kind_at, is_mark, is_word, name_at, number_at, text_at, truth_at, root_at, operator_at, negative_at, unary_at, opens, closes, label_at, binder_at, keyword_at, range_at, assign_at, assigns, is_bare, closure_head}
use Rattle.own_grammar.specs.Nesting.{nest_pats, exp_span, clo_span, level, chains, level_of, is_post, is_path, is_call, nest, nest_given, nest_args, nest_clo, nest_stm, nest_stms, nest_when, nest_clauses, nest_blk, blk_span, stm_span, stms_end, typed_end, is_if, is_return}
use Rattle.own_grammar.specs.Levels.{levels_args, levels_blk, levels_clauses, levels_clo, levels_exp, levels_given, levels_stm, levels_stms, levels_when}
use Rattle.own_grammar.specs.Spells.{IsLeft, Labels, SpellsPath, SpellsE, SpellsG, SpellsA, SpellsK, SpellsS, SpellsL, SpellsN, SpellsH, SpellsC, SpellsB, SpellsPats, Sep, Typed, Ignored}
use Rattle.own_grammar.specs.Reading.{Syntax, ◌>>=◌, syntax_at, depth_at, on_some, Goal, expression, operand, operators_on, calls_on, arguments_on, Out, Reader, path_from, path_with, parenthesized_with, implicit_with, literal_in, literal_at, primary_with, post_with, prefix_with, consume_with, pre_with, level_with, next_with, operator_with, operators_with, branches_with, choice_with, expression_with, closure_with, address_with, given_with, argument_with, arguments_with, all_arguments_with, called_with, call_with, closing_with, member_with, calls_with, step, statement, statements_on, clause_on, clauses_on, body, typed_with, bound, bound_with, let_with, ignore_with, discard_with, else_with, if_with, while_with, repeat_with, upper_with, lower_with, for_with, switch_with, return_with, path_in, assign_with, evaluate_with, simple_with, statement_with, sep_at, separated_with, statements_with, ends_clause, clause_statements_with, where_with, head_with, clause_with, clauses_with, block_with, patterns_on, read_pattern, read_at, read}
use Rattle.own_grammar.proofs.Facts.{number_kind, text_kind, truth_kind, root_kind, mark_kind, word_kind, at_mark, closes_kind, unary_kind, negative_kind}
use Rattle.own_grammar.proofs.Edges.{sep_sound, at_keyword, can_start, starts_at, starts_truth, starts_root, starts_prefix, clash}
use Rattle.own_grammar.proofs.Lists.{args_in, stms_in, clauses_in, pats_in, pats_list, stms_same, args_same, clauses_same}
use Rattle.std.proofs.lemmas.Bool.{ltb-true, eqb-true}
use Rattle.own_grammar.proofs.Within.{over}
use Rattle.own_grammar.proofs.Steps.{done, bind_ok, ok_is, chosen, kept, some_or, some_kept}
use Rattle.own_grammar.proofs.Paths.{path_from_sound, path_sound, typed_sound}
use Rattle.own_grammar.proofs.PatternsRead.{pats_sound}
use Rattle.own_grammar.proofs.Facts.{number_kind, named, binder_kind, binder_kind_of}
use Rattle.own_grammar.specs.Tests.{text_at}

pub post_low : (e : Exp) → is_post e ≡ true → level_of e ≡ 0
post_low (number s negative n) is = refl
post_low (text s t) is = refl
post_low (truth s b) is = refl
post_low (path p) is = refl
post_low (implicit_member s n) is = refl
post_low (parenthesized s e) is = refl
post_low (consumed s p) is = refl
post_low (prefix s o e) is = refl
post_low (binary s o at_ a b) is = absurd cc
post_low (choice s c a b) is = absurd cc
post_low (member s e n) is = refl
post_low (call s f es) is = refl
post_low (call_closing s f es c) is = refl
post_low (call_closure s f c) is = refl

pub left_of : (c : Bool) (l j : ℕ) → l ≤ j → IsLeft c (suc j) l
left_of true l j le = omega arith
left_of false l j le = omega arith

pub right_of : (c : Bool) (l j : ℕ) → IsLeft c (suc j) l → l ≤ suc j
right_of true l j le = le
right_of false l j le = omega arith

-- how an expression begins
begins : (e : Exp) (tight : Bool) (context : Context) (from to : Toks) → SpellsE e tight context from to → can_start (kind_at from) ≡ true
begins (number s false n) tight context from to sp = starts_at from _ (number_kind from n sp.0) refl
begins (number s true n) tight context from to sp = starts_at from _ (negative_kind tight from n sp.0).0 refl
begins (text s t) tight context from to sp = starts_at from _ (text_kind from t sp.0) refl
begins (truth s b) tight context from to sp = starts_at from _ (truth_kind from b sp.0) (starts_truth b)
begins (path p) tight context from to sp = starts_at from _ (root_kind from p.root sp.0) (starts_root p.root)
begins (implicit_member s n) tight context from to sp = starts_at from _ sp.0.0 refl
begins (parenthesized s e) tight context from to sp = starts_at from _ sp.0 refl
begins (consumed s p) tight context from to sp = starts_at from _ sp.0 refl
begins (prefix s o e) tight context from to sp = starts_at from _ (unary_kind tight from o sp.0) (starts_prefix o)
begins (binary s o at_ a b) tight context from to sp = begins a tight context from sp.0 sp.1
begins (choice s c a b) tight context from to sp = begins c tight context from sp.0 sp.2
begins (member s e n) tight context from to sp = begins e tight context from sp.0 sp.1
begins (call s f es) tight context from to sp = begins f tight context from sp.0 sp.2
begins (call_closing s f es c) tight context from to sp = begins f tight context from sp.0 sp.2
begins (call_closure s f c) tight context from to sp = begins f tight context from sp.0 sp.1

not_if : (from : Toks) → kind_at from ≡ Some (kind.Word word.If) → can_start (kind_at from) ≡ true → ⊥
not_if from is st = absurd cc

clash_keyword : (from : Toks) (k : Keyword) → keyword_at from ≡ Some k → kind_at from ≡ Some (kind.Word word.If) → ⊥
clash_keyword from k e is = let a = at_keyword from _ is in absurd cc

clash_ignored : (t : Option Name) (from mid : Toks) → Ignored t from mid → kind_at from ≡ Some (kind.Word word.If) → ⊥
clash_ignored t from mid (inl (k, none, eq, at_)) is = absurd cc
clash_ignored t from mid (inr (w, kw, nm, ty, eq)) is = clash_keyword from w kw is

-- what begins with `if` is one
if_is : (s : Stm) (from to : Toks) → SpellsS s from to → kind_at from ≡ Some (kind.Word word.If) → is_if s ≡ true
if_is (let_in s k n t e) from to sp is = absurd (clash_keyword from k sp.0 is)
if_is (declare s k n t) from to sp is = absurd (clash_keyword from k sp.0 is)
if_is (assign s p o at_ e) from to sp is = absurd (not_if from is (starts_at from _ (root_kind from p.root sp.1.0) (starts_root p.root)))
if_is (ignore s t e) from to sp is = absurd (clash_ignored t from sp.0 sp.1 is)
if_is (discard_self s) from to sp is = absurd cc
if_is (if_then s c b) from to sp is = refl
if_is (if_else s c b d) from to sp is = refl
if_is (else_if s c b d) from to sp is = refl
if_is (loop_while s c b) from to sp is = absurd cc
if_is (loop_repeat s b c) from to sp is = absurd cc
if_is (loop_for s n low o at_ high b) from to sp is = absurd cc
if_is (switch s e cs) from to sp is = absurd cc
if_is (leave s) from to sp is = absurd cc
if_is (go_on s) from to sp is = absurd cc
if_is (return_none s) from to sp is = absurd cc
if_is (return_value s e) from to sp is = absurd cc
if_is (evaluate e) from to sp is = absurd (not_if from is (begins e false Plain from to sp))

-- ---- literals

abbrev Lit : Exp → Toks → Type 0
Lit e ts = ((tight : Bool) (context : Context) → SpellsE e tight context ts (after ts)) × (nest e ≡ 1) × (levels_exp e ≡ 0) × (is_post e ≡ true) × (is_call e ≡ false) × (is_path e ≡ false)

some_is : (x y : Exp) → Some x ≡ Some y → x ≡ y
some_is x y e = cc

number_from : (ts : Toks) (n : ℕ) → kind_at ts ≡ Some (kind.Number n) → number_at ts ≡ Some n
unfolding number_at
number_from ts n k = rw k refl

text_from : (ts : Toks) (t : List ℕ) → kind_at ts ≡ Some (kind.Text t) → text_at ts ≡ Some t
unfolding text_at
text_from ts t k = rw k refl

literal_by : (ts : Toks) (o : Option Bool) (k : Option Kind) (e : Exp) → truth_at ts ≡ o → kind_at ts ≡ k → literal_in (here ts) o k ≡ Some e → Lit e ts
literal_by ts o None e t is l = absurd cc
literal_by ts o (Some (kind.Name x)) e t is l = absurd cc
literal_by ts None (Some (kind.Word x)) e t is l = absurd cc
literal_by ts (Some b) (Some (kind.Word x)) e t is l = rw (← some_is (truth (here ts) b) e l) (λ tight context. (t, refl, refl), refl, refl, refl, refl, refl)
literal_by ts o (Some (kind.Number x)) e t is l = rw (← some_is (number (here ts) false x) e l) (λ tight context. (number_from ts x is, refl, refl), refl, refl, refl, refl, refl)
literal_by ts o (Some (kind.Text x)) e t is l = rw (← some_is (text (here ts) x) e l) (λ tight context. (text_from ts x is, refl, refl), refl, refl, refl, refl, refl)
literal_by ts o (Some (kind.Mark x)) e t is l = absurd cc

literal_sound : (ts : Toks) (e : Exp) → literal_at ts ≡ Some e → Lit e ts
unfolding literal_at
literal_sound ts e l = literal_by ts (truth_at ts) (kind_at ts) e refl refl l

pub path_in_is : (e : Exp) (p : Path) → path_in e ≡ Some p → e ≡ path p
path_in_is (number s negative n) p e = absurd cc
path_in_is (text s t) p e = absurd cc
path_in_is (truth s b) p e = absurd cc
path_in_is (path q) p e = cc
path_in_is (implicit_member s n) p e = absurd cc
path_in_is (parenthesized s x) p e = absurd cc
path_in_is (consumed s q) p e = absurd cc
path_in_is (prefix s o x) p e = absurd cc
path_in_is (binary s o at_ a b) p e = absurd cc
path_in_is (choice s c a b) p e = absurd cc
path_in_is (member s x n) p e = absurd cc
path_in_is (call s f es) p e = absurd cc
path_in_is (call_closing s f es c) p e = absurd cc
path_in_is (call_closure s f c) p e = absurd cc

pub never : (b : Bool) (c : Bool) → (b ≡ true → c ≡ false) → c ≡ true → b ≡ false
never true c h e = absurd (clash c e (h refl))
never false c h e = refl

pub nest_positive : (e : Exp) → 1 ≤ nest e
nest_positive (number s negative n) = omega arith
nest_positive (text s t) = omega arith
nest_positive (truth s b) = omega arith
nest_positive (path p) = omega arith
nest_positive (implicit_member s n) = omega arith
nest_positive (parenthesized s e) = omega arith
nest_positive (consumed s p) = omega arith
nest_positive (prefix s o e) = omega arith
nest_positive (binary s o at_ a b) = omega arith
nest_positive (choice s c a b) = omega arith
nest_positive (member s e n) = omega arith
nest_positive (call s f es) = omega arith
nest_positive (call_closing s f es c) = omega arith
nest_positive (call_closure s f c) = omega arith

binder_named : (s : Span) (x : List ℕ) (n : Name) → Some (Some (named s x)) ≡ Some (Some n) → named s x ≡ n
binder_named s x n e = cc

binder_name : (ts : Toks) (n : Name) → binder_at ts ≡ Some (Some n) → name_at ts ≡ Some n
unfolding binder_at name_at binder_kind_of
binder_name ts n e = let k = binder_kind ts (Some n) e in rw k (ap (λ (m : Name). Some m) (binder_named (here ts) n.text n (rw k at e)))

module _ (most levels : ℕ) where
  abbrev pub Spelled : (g : Goal) → ℕ → Out g → Toks → Toks → Type 0
  Spelled (expression context) d e from to = SpellsE e false context from to × (over most levels d (nest e) (levels_exp e) ≤ 0)
  Spelled (operand context) d e from to = SpellsE e true context from to × (over most levels d (nest e) (levels_exp e) ≤ 0) × (level_of e ≡ 0)
  Spelled (operators_on j context a) d e from to = (start : Toks) → SpellsE a false context start from → over most levels d (nest a) (levels_exp a) ≤ 0 → IsLeft (chains (suc j)) (suc j) (level_of a) → SpellsE e false context start to × (over most levels d (nest e) (levels_exp e) ≤ 0) × (level_of e ≤ suc j)
  Spelled (calls_on context f) d e from to = (tight : Bool) (start : Toks) → SpellsE f tight context start from → over most levels d (nest f) (levels_exp f) ≤ 0 → is_post f ≡ true → (is_call f ≡ true → closes context from ≡ false) → (is_path f ≡ true → is_mark mark.Dot from ≡ false)
      → SpellsE e tight context start to × (over most levels d (nest e) (levels_exp e) ≤ 0) × (is_post e ≡ true)
  Spelled (arguments_on xs) d ys from to = (l : Option Name) × (g : Given) × (es : Args) × (ys ≡ xs ++ args_in (arg l g es)) × SpellsA (arg l g es) from to × (over most levels d (suc (nest_args (arg l g es))) (levels_args (arg l g es)) ≤ 0)
  Spelled statement d s from to = SpellsS s from to × (over most levels d (nest_stm s) (levels_stm s) ≤ 0)
  Spelled (statements_on xs) d ys from to = d ≤ most → (ss : Stms) × (ys ≡ xs ++ stms_in ss) × SpellsL ss from to × (over most levels d (nest_stms ss) (levels_stms ss) ≤ 0)
  Spelled (clause_on xs) d ys from to = (s : Stm) × (ss : Stms) × (ys ≡ xs ++ stms_in (stm s ss)) × SpellsN (stm s ss) from to × (over most levels d (nest_stms (stm s ss)) (levels_stms (stm s ss)) ≤ 0)
  Spelled (clauses_on xs) d ys from to = d ≤ most → (cs : Clauses) × (ys ≡ xs ++ clauses_in cs) × SpellsC cs from to × (over most levels d (nest_clauses cs) (levels_clauses cs) ≤ 0)
  Spelled body d b from to = SpellsB b from to × (over most levels d (nest_blk b) (levels_blk b) ≤ 0)

  abbrev pub Sound : Reader → Type 0
  Sound k = (g : Goal) (d : ℕ) (ts : Toks) (x : Out g × Toks) → k g d ts ≡ Ok x → Spelled g d x.0 ts x.1

  module _ (some : 0 < levels) (k : Reader) (snd : Sound k) where
    abbrev Whole : Exp → Bool → Context → ℕ → Toks → Toks → Type 0
    Whole e tight context d from to = SpellsE e tight context from to × (over most levels d (nest e) (levels_exp e) ≤ 0) × (is_post e ≡ true) × (is_call e ≡ false) × (is_path e ≡ true → is_mark mark.Dot to ≡ false)

    sound_parenthesized : (tight : Bool) (context : Context) (d : ℕ) (ts : Toks) (x : Exp × Toks) → kind_at ts ≡ Some (kind.Mark mark.OpenParen) → parenthesized_with k d ts ≡ Ok x → Whole x.0 tight context d ts x.1
    unfolding parenthesized_with
    sound_parenthesized tight context d ts x lp e =
        let c = bind_ok (k (expression Inside) (d + 1) (after ts)) _ x e in
        let q = kept _ _ _ _ c.2 in
        let s = snd (expression Inside) (d + 1) (after ts) c.0 c.1 in
        rw (← ok_is (parenthesized (till (here ts) (here c.0.1)) c.0.0, after c.0.1) x q.1) ((lp, c.0.1, s.0, mark_kind mark.CloseParen c.0.1 q.0, refl, refl), omega (arith, s.1), refl, refl, λ y. absurd cc)

    sound_implicit : (tight : Bool) (context : Context) (d : ℕ) (ts : Toks) (x : Exp × Toks) → d < most → is_mark mark.Dot ts ≡ true → implicit_with ts ≡ Ok x → Whole x.0 tight context d ts x.1
    unfolding implicit_with
    sound_implicit tight context d ts x lt dot e =
        let s = some_kept (name_at (after ts)) (λ n. done (implicit_member (till (here ts) (here (after ts))) n, after (after ts))) (Syntax (length (after ts))) x e in
        rw (← ok_is (implicit_member (till (here ts) (here (after ts))) s.0, after (after ts)) x s.2) (((mark_kind mark.Dot ts dot, s.1), refl, refl), omega arith, refl, refl, λ y. absurd cc)

    pub sound_primary : (tight : Bool) (context : Context) (d : ℕ) (ts : Toks) (x : Exp × Toks) → d < most → primary_with k tight d ts ≡ Ok x → Whole x.0 tight context d ts x.1
    unfolding primary_with
    sound_primary tight context d ts x lt e = elim (some_or (negative_at tight ts) _ _ _ e) [
      | inl n ↦ rw (← ok_is (number (till (here ts) (here (after ts))) true n.0, after (after ts)) x n.2) ((n.1, refl, refl), omega arith, refl, refl, λ y. absurd cc)
      | inr a ↦ elim (some_or (literal_at ts) _ _ _ a.1) [
        | inl l ↦ (let f = literal_sound ts l.0 l.1 in rw (← ok_is (l.0, after ts) x l.2) (f.0 tight context, omega (arith, lt, f.1, f.2), f.3, f.4, λ y. absurd (clash _ y f.5)))
        | inr b ↦ elim (some_or (root_at ts) (λ r. path_from r ts >>= λ p. done (path p.0, p.1)) _ _ b.1) [
          | inl r ↦ (
              let c = bind_ok (path_from r.0 ts) (λ p. done (path p.0, p.1)) x r.2 in
              let p = path_from_sound r.0 ts c.0 r.1 c.1 in
              rw (← ok_is (path c.0.0, c.0.1) x c.2) (p.0, omega arith, refl, refl, λ y. p.1))
          | inr g ↦ elim (chosen (is_mark mark.Dot ts) _ _ _ g.1) [
            | inl y ↦ sound_implicit tight context d ts x lt y.0 y.1
            | inr y ↦ (let q = kept _ _ _ _ y.1 in sound_parenthesized tight context d ts x (mark_kind mark.OpenParen ts q.0) q.1)
          ]
        ]
      ]
    ]

    pub sound_primary_short : (tight : Bool) (context : Context) (d : ℕ) (ts : Toks) (x : Exp × Toks) → d < most → primary_with k tight d ts ≡ Ok x → SpellsE x.0 tight context ts x.1
    sound_primary_short tight context d ts x lt e = (sound_primary tight context d ts x lt e).0

    pub sound_post : (tight : Bool) (context : Context) (d : ℕ) (ts : Toks) (x : Exp × Toks) → d < most → post_with k tight context d ts ≡ Ok x → SpellsE x.0 tight context ts x.1 × (over most levels d (nest x.0) (levels_exp x.0) ≤ 0) × (is_post x.0 ≡ true)
    unfolding post_with
    sound_post tight context d ts x lt e =
        let c = bind_ok (primary_with k tight d ts) _ x e in
        let p = sound_primary tight context d ts c.0 lt c.1 in
        snd (calls_on context c.0.0) d c.0.1 x c.2 tight ts p.0 p.1 p.2 (λ y. absurd (clash _ y p.3)) p.4

    sound_prefix : (tight : Bool) (context : Context) (d : ℕ) (ts : Toks) (o : PrefixOperator) (x : Exp × Toks) → unary_at tight ts ≡ Some o → prefix_with k o context d ts ≡ Ok x → SpellsE x.0 tight context ts x.1 × (over most levels d (nest x.0) (levels_exp x.0) ≤ 0) × (level_of x.0 ≡ 0)
    unfolding prefix_with
    sound_prefix tight context d ts o x un e =
        let c = bind_ok (k (operand context) (d + 1) (after ts)) (λ e. done (prefix (till (here ts) (exp_span e.0)) o e.0, e.1)) x e in
        let s = snd (operand context) (d + 1) (after ts) c.0 c.1 in
        rw (← ok_is (prefix (till (here ts) (exp_span c.0.0)) o c.0.0, c.0.1) x c.2) ((un, s.0, s.2, refl), omega (arith, s.1), refl)

    sound_consume : (tight : Bool) (context : Context) (d : ℕ) (ts : Toks) (x : Exp × Toks) → is_word word.Consume ts ≡ true → consume_with most d ts ≡ Ok x → SpellsE x.0 tight context ts x.1 × (over most levels d (nest x.0) (levels_exp x.0) ≤ 0) × (level_of x.0 ≡ 0)
    unfolding consume_with
    sound_consume tight context d ts x kw e =
        let q = kept (ltb (d + 1) most) (path_with (after ts) >>= λ p. done (consumed (till (here ts) p.0.span) p.0, p.1)) _ x e in
        let lt = ltb-true (d + 1) most q.0 in
        let c = bind_ok (path_with (after ts)) (λ p. done (consumed (till (here ts) p.0.span) p.0, p.1)) x q.1 in
        let p = path_sound (after ts) c.0 c.1 in
        rw (← ok_is (consumed (till (here ts) c.0.0.span) c.0.0, c.0.1) x c.2) ((word_kind word.Consume ts kw, p.0, refl), omega (arith, lt), refl)

    pub sound_pre : (tight : Bool) (context : Context) (d : ℕ) (ts : Toks) (x : Exp × Toks) → pre_with most k tight context d ts ≡ Ok x → SpellsE x.0 tight context ts x.1 × (over most levels d (nest x.0) (levels_exp x.0) ≤ 0) × (level_of x.0 ≡ 0)
    unfolding pre_with
    sound_pre tight context d ts x e =
        let q = kept (ltb d most) (on_some (unary_at tight ts) (λ o. prefix_with k o context d ts) (cond (is_word word.Consume ts) (consume_with most d ts) (post_with k tight context d ts))) _ x e in
        let lt = ltb-true d most q.0 in
        elim (some_or (unary_at tight ts) (λ o. prefix_with k o context d ts) (cond (is_word word.Consume ts) (consume_with most d ts) (post_with k tight context d ts)) _ q.1) [
          | inl o ↦ sound_prefix tight context d ts o.0 x o.1 o.2
          | inr y ↦ elim (chosen (is_word word.Consume ts) (consume_with most d ts) (post_with k tight context d ts) _ y.1) [
            | inl z ↦ sound_consume tight context d ts x z.0 z.1
            | inr z ↦ (let p = sound_post tight context d ts x lt z.1 in (p.0, p.1, post_low x.0 p.2))
          ]
        ]

    pub sound_level : (n : ℕ) (context : Context) (d : ℕ) (ts : Toks) (x : Exp × Toks) → level_with most k n context d ts ≡ Ok x → SpellsE x.0 false context ts x.1 × (over most levels d (nest x.0) (levels_exp x.0) ≤ 0) × (level_of x.0 ≤ n)
    unfolding level_with
    sound_level zero context d ts x e = let p = sound_pre false context d ts x e in (p.0, p.1, omega (arith, p.2))
    sound_level (suc j) context d ts x e =
        let c = bind_ok (level_with most k j context d ts) _ x e in
        let p = sound_level j context d ts c.0 c.1 in
        snd (operators_on j context c.0.0) d c.0.1 x c.2 ts p.0 p.1 (left_of (chains (suc j)) _ j p.2)

    sound_next : (c : Bool) (j : ℕ) (context : Context) (d : ℕ) (e : Exp) (ts start : Toks) (x : Exp × Toks) → chains (suc j) ≡ c → next_with k c j context d e ts ≡ Ok x → SpellsE e false context start ts → over most levels d (nest e) (levels_exp e) ≤ 0 → level_of e ≡ suc j
        → SpellsE x.0 false context start x.1 × (over most levels d (nest x.0) (levels_exp x.0) ≤ 0) × (level_of x.0 ≤ suc j)
    unfolding next_with
    sound_next true j context d e ts start x is r sp fit same = snd (operators_on j context e) d ts x r start sp fit (rw is (omega (arith, same)))
    sound_next false j context d e ts start x is r sp fit same = rw (← ok_is (e, ts) x r) (sp, fit, omega (arith, same))

    sound_operator : (j : ℕ) (context : Context) (a : Exp) (d : ℕ) (ts : Toks) (o : BinaryOperator) (x : Exp × Toks) → operator_at ts ≡ Some o → operator_with most k j context a d ts o ≡ Ok x → Spelled (operators_on j context a) d x.0 ts x.1
    unfolding operator_with
    sound_operator j context a d ts o x is e start sp fit left = elim (chosen (eqb (level o) (suc j)) _ _ _ e) [
      | inr y ↦ rw (← ok_is (a, ts) x y.1) (sp, fit, right_of (chains (suc j)) _ j left)
      | inl y ↦ (
          let same = eqb-true (level o) (suc j) y.0 in
          let q = kept (ltb (d + nest a) most) (level_with most k j context (d + 1) (after ts) >>= λ b. next_with k (chains (suc j)) j context d (binary (till (exp_span a) (exp_span b.0)) o (here ts) a b.0) b.1) _ x y.1 in
          let lt = ltb-true (d + nest a) most q.0 in
          let c = bind_ok (level_with most k j context (d + 1) (after ts)) _ x q.1 in
          let b = sound_level j context (d + 1) (after ts) c.0 c.1 in
          sound_next (chains (suc j)) j context d (binary (till (exp_span a) (exp_span c.0.0)) o (here ts) a c.0.0) c.0.1 start x refl c.2
          (ts, sp, rw same left, is, refl, b.0, omega (arith, b.2, same), refl) (omega (arith, lt, b.1)) same)
    ]

    sound_operators : (j : ℕ) (context : Context) (a : Exp) (d : ℕ) (ts : Toks) (x : Exp × Toks) → operators_with most k j context a d ts ≡ Ok x → Spelled (operators_on j context a) d x.0 ts x.1
    unfolding operators_with
    sound_operators j context a d ts x e start sp fit left = elim (some_or (operator_at ts) _ _ _ e) [
      | inl y ↦ sound_operator j context a d ts y.0 x y.1 y.2 start sp fit left
      | inr y ↦ rw (← ok_is (a, ts) x y.1) (sp, fit, right_of (chains (suc j)) _ j left)
    ]

    sound_branches : (context : Context) (d : ℕ) (c : Exp) (start ts : Toks) (x : Exp × Toks) → kind_at ts ≡ Some (kind.Mark mark.Question) → SpellsE c false context start ts → level_of c < 6 → d + nest c < most → levels_exp c ≤ levels → branches_with k context d c (after ts) ≡ Ok x → SpellsE x.0 false context start x.1 × (over most levels d (nest x.0) (levels_exp x.0) ≤ 0)
    unfolding branches_with
    sound_branches context d c start ts x q sp low lt few e =
        let a = bind_ok (k (expression context) (d + 1) (after ts)) (λ a. cond (is_mark mark.Colon a.1) (k (expression context) (d + 1) (after a.1) >>= λ b. done (choice (till (exp_span c) (exp_span b.0)) c a.0 b.0, b.1)) (syntax_at a.1)) x e in
        let sa = snd (expression context) (d + 1) (after ts) a.0 a.1 in
        let colon = kept (is_mark mark.Colon a.0.1) (k (expression context) (d + 1) (after a.0.1) >>= λ b. done (choice (till (exp_span c) (exp_span b.0)) c a.0.0 b.0, b.1)) _ x a.2 in
        let b = bind_ok (k (expression context) (d + 1) (after a.0.1)) (λ b. done (choice (till (exp_span c) (exp_span b.0)) c a.0.0 b.0, b.1)) x colon.1 in
        let sb = snd (expression context) (d + 1) (after a.0.1) b.0 b.1 in
        rw (← ok_is (choice (till (exp_span c) (exp_span b.0.0)) c a.0.0 b.0.0, b.0.1) x b.2) ((ts, a.0.1, sp, low, q, sa.0, mark_kind mark.Colon a.0.1 colon.0, sb.0, refl), omega (arith, lt, few, sa.1, sb.1))

    pub sound_expression : (context : Context) (d : ℕ) (ts : Toks) (x : Exp × Toks) → expression_with most k context d ts ≡ Ok x → SpellsE x.0 false context ts x.1 × (over most levels d (nest x.0) (levels_exp x.0) ≤ 0)
    unfolding expression_with choice_with
    sound_expression context d ts x e =
        let c = bind_ok (level_with most k 5 context d ts) (λ c. cond (is_mark mark.Question c.1) (cond (ltb (d + nest c.0) most) (branches_with k context d c.0 (after c.1)) (depth_at (after c.1))) (Ok (c.0, c.1))) x e in
        let p = sound_level 5 context d ts c.0 c.1 in
        elim (chosen (is_mark mark.Question c.0.1) (cond (ltb (d + nest c.0.0) most) (branches_with k context d c.0.0 (after c.0.1)) (depth_at (after c.0.1))) (Ok (c.0.0, c.0.1)) _ c.2) [
          | inl y ↦ (let q = kept (ltb (d + nest c.0.0) most) (branches_with k context d c.0.0 (after c.0.1)) _ x y.1 in
              sound_branches context d c.0.0 ts c.0.1 x (mark_kind mark.Question c.0.1 y.0) p.0 (omega (arith, p.2)) (ltb-true (d + nest c.0.0) most q.0) (omega (arith, p.1)) q.1)
          | inr y ↦ rw (← ok_is (c.0.0, c.0.1) x y.1) (p.0, p.1)
        ]

    -- ---- closures, arguments and calls

    pub sound_closure : (d : ℕ) (ts : Toks) (x : Clo × Toks) → is_mark mark.OpenBrace ts ≡ true → closure_with most k d ts ≡ Ok x → SpellsK x.0 ts x.1 × (over most levels d (nest_clo x.0) (levels_clo x.0) ≤ 0)
    unfolding closure_with
    sound_closure d ts x lb e =
        let h = closure_head (after ts) in
        let q = kept (ltb d most) (k (statements_on []) (d + 1) h.1 >>= λ ss. done (closure (till (here ts) (here ss.1)) h.0 (stms_of ss.0), after ss.1)) _ x e in
        let lt = ltb-true d most q.0 in
        let s = bind_ok (k (statements_on []) (d + 1) h.1) (λ ss. done (closure (till (here ts) (here ss.1)) h.0 (stms_of ss.0), after ss.1)) x q.1 in
        let r = snd (statements_on []) (d + 1) h.1 s.0 s.1 (omega (arith, lt)) in
        let same : stms_of s.0.0 ≡ r.0 = stms_same s.0.0 r.0 r.1 in
        rw (← ok_is (closure (till (here ts) (here s.0.1)) h.0 (stms_of s.0.0), after s.0.1) x s.2, same) ((mark_kind mark.OpenBrace ts lb, h.1, s.0.1, refl, r.2, refl, refl), omega (arith, r.3))

    pub sound_given : (d : ℕ) (ts : Toks) (x : Given × Toks) → given_with most k d ts ≡ Ok x → SpellsG x.0 ts x.1 × (over most levels d (nest_given x.0) (levels_given x.0) ≤ 0)
    unfolding given_with address_with
    sound_given d ts x e = elim (chosen (is_mark mark.Ampersand ts) (cond (ltb d most) (path_with (after ts) >>= λ p. done (address (till (here ts) p.0.span) p.0, p.1)) (depth_at (after ts))) (cond (is_mark mark.OpenBrace ts) (closure_with most k d ts >>= λ c. done (closing c.0, c.1)) (expression_with most k Inside d ts >>= λ e. done (value e.0, e.1))) _ e) [
      | inl y ↦ (
          let q = kept (ltb d most) (path_with (after ts) >>= λ p. done (address (till (here ts) p.0.span) p.0, p.1)) _ x y.1 in
          let lt = ltb-true d most q.0 in
          let c = bind_ok (path_with (after ts)) (λ p. done (address (till (here ts) p.0.span) p.0, p.1)) x q.1 in
          let p = path_sound (after ts) c.0 c.1 in
          rw (← ok_is (address (till (here ts) c.0.0.span) c.0.0, c.0.1) x c.2) ((mark_kind mark.Ampersand ts y.0, p.0, refl), omega (arith, lt)))
      | inr y ↦ elim (chosen (is_mark mark.OpenBrace ts) (closure_with most k d ts >>= λ c. done (closing c.0, c.1)) (expression_with most k Inside d ts >>= λ e. done (value e.0, e.1)) _ y.1) [
        | inl z ↦ (
            let c = bind_ok (closure_with most k d ts) (λ c. done (closing c.0, c.1)) x z.1 in
            let s = sound_closure d ts c.0 z.0 c.1 in
            rw (← ok_is (closing c.0.0, c.0.1) x c.2) s)
        | inr z ↦ (
            let c = bind_ok (expression_with most k Inside d ts) (λ e. done (value e.0, e.1)) x z.1 in
            let s = sound_expression Inside d ts c.0 c.1 in
            rw (← ok_is (value c.0.0, c.0.1) x c.2) s)
      ]
    ]

    pub sound_argument : (d : ℕ) (ts : Toks) (x : Arg × Toks) → argument_with most k d ts ≡ Ok x → (start : Toks) × Labels x.0.0 ts start × SpellsG x.0.1 start x.1 × (over most levels d (suc (nest_given x.0.1)) (levels_given x.0.1) ≤ 0)
    unfolding argument_with
    sound_argument d ts x e = elim (some_or (label_at ts) (λ l. given_with most k (d + 1) (after (after ts)) >>= λ g. done ((Some l, g.0), g.1)) (given_with most k (d + 1) ts >>= λ g. done ((None, g.0), g.1)) _ e) [
      | inl l ↦ (
          let c = bind_ok (given_with most k (d + 1) (after (after ts))) (λ g. done ((Some l.0, g.0), g.1)) x l.2 in
          let p = sound_given (d + 1) (after (after ts)) c.0 c.1 in
          rw (← ok_is ((Some l.0, c.0.0), c.0.1) x c.2) (after (after ts), (l.1, refl), p.0, omega (arith, p.1)))
      | inr l ↦ (
          let c = bind_ok (given_with most k (d + 1) ts) (λ g. done ((None, g.0), g.1)) x l.1 in
          let p = sound_given (d + 1) ts c.0 c.1 in
          rw (← ok_is ((None, c.0.0), c.0.1) x c.2) (ts, (l.0, refl), p.0, omega (arith, p.1)))
    ]

    sound_arguments : (xs : List Arg) (d : ℕ) (ts : Toks) (x : List Arg × Toks) → arguments_with most k xs d ts ≡ Ok x → Spelled (arguments_on xs) d x.0 ts x.1
    unfolding arguments_with args_in
    sound_arguments xs d ts x e =
        let a = bind_ok (argument_with most k d ts) (λ a. cond (is_mark mark.Comma a.1) (k (arguments_on (xs ++ a.0 ∷ [])) d (after a.1)) (done (xs ++ a.0 ∷ [], a.1))) x e in
        let p = sound_argument d ts a.0 a.1 in
        elim (chosen (is_mark mark.Comma a.0.1) (k (arguments_on (xs ++ a.0.0 ∷ [])) d (after a.0.1)) (done (xs ++ a.0.0 ∷ [], a.0.1)) _ a.2) [
          | inl y ↦ (
              let r = snd (arguments_on (xs ++ a.0.0 ∷ [])) d (after a.0.1) x y.1 in
              (a.0.0.0, a.0.0.1, arg r.0 r.1 r.2, r.3 ∙ append_assoc xs (a.0.0 ∷ []) (args_in (arg r.0 r.1 r.2)), (p.0, a.0.1, p.1, p.2, mark_kind mark.Comma a.0.1 y.0, r.4), omega (arith, p.3, r.5)))
          | inr y ↦ rw (← ok_is (xs ++ a.0.0 ∷ [], a.0.1) x y.1) (a.0.0.0, a.0.0.1, no_args, refl, (p.0, p.1, p.2), omega (arith, p.3))
        ]

    pub sound_all_arguments : (d : ℕ) (ts : Toks) (x : List Arg × Toks) → d < most → all_arguments_with most k d ts ≡ Ok x → (es : Args) × (x.0 ≡ args_in es) × SpellsA es ts x.1 × (over most levels d (suc (nest_args es)) (levels_args es) ≤ 0)
    unfolding all_arguments_with args_in
    sound_all_arguments d ts x lt e = elim (chosen (is_mark mark.CloseParen ts) _ _ _ e) [
      | inl y ↦ rw (← ok_is ([], ts) x y.1) (no_args, refl, refl, omega arith)
      | inr y ↦ (let r = sound_arguments [] d ts x y.1 in (arg r.0 r.1 r.2, r.3, r.4, r.5))
    ]

    abbrev Post : Exp → Bool → Context → ℕ → Toks → Toks → Type 0
    Post e tight context d start to = SpellsE e tight context start to × (over most levels d (nest e) (levels_exp e) ≤ 0) × (is_post e ≡ true)

    sound_called : (tight : Bool) (context : Context) (f : Exp) (d : ℕ) (xs : List Arg) (ts start from : Toks) (es : Args) (x : Exp × Toks) → called_with most k context f d xs ts ≡ Ok x → xs ≡ args_in es
        → SpellsE f tight context start from → is_post f ≡ true → opens context from ≡ true → SpellsA es (after from) ts → d + nest f < most → levels_exp f ≤ levels → over most levels d (suc (nest_args es)) (levels_args es) ≤ 0 → Post x.0 tight context d start x.1
    unfolding called_with
    sound_called tight context f d xs ts start from es x e same sp is lp sps lt few lts =
        let args : args_of xs ≡ es = args_same xs es same in
        let q = kept (is_mark mark.CloseParen ts) (cond (closes context (after ts)) (closure_with most k (d + 1) (after ts) >>= λ c. k (calls_on context (call_closing (till (exp_span f) (clo_span c.0)) f (args_of xs) c.0)) d c.1) (k (calls_on context (call (till (exp_span f) (here ts)) f (args_of xs))) d (after ts))) _ x e in
        let close = mark_kind mark.CloseParen ts q.0 in
        elim (chosen (closes context (after ts)) _ _ _ q.1) [
          | inl y ↦ (
              let y1 = rw args at y.1 in
              let c = bind_ok (closure_with most k (d + 1) (after ts)) (λ c. k (calls_on context (call_closing (till (exp_span f) (clo_span c.0)) f es c.0)) d c.1) x y1 in
              let p = sound_closure (d + 1) (after ts) c.0 (at_mark mark.OpenBrace (after ts) _ (closes_kind context (after ts) y.0)) c.1 in
              snd (calls_on context (call_closing (till (exp_span f) (clo_span c.0.0)) f es c.0.0)) d c.0.1 x c.2 tight start (from, ts, sp, is, lp, sps, close, y.0, p.0, refl) (omega (arith, few, p.1)) refl (λ z. absurd cc) (λ z. absurd cc))
          | inr y ↦ snd (calls_on context (call (till (exp_span f) (here ts)) f es)) d (after ts) x (rw args at y.1) tight start (from, ts, sp, is, lp, sps, close, refl, refl) (omega arith) refl (λ z. y.0) (λ z. absurd cc)
        ]

    sound_call : (tight : Bool) (context : Context) (f : Exp) (d : ℕ) (ts start : Toks) (x : Exp × Toks) → call_with most k context f d ts ≡ Ok x → opens context ts ≡ true → SpellsE f tight context start ts → is_post f ≡ true → levels_exp f ≤ levels → Post x.0 tight context d start x.1
    unfolding call_with
    sound_call tight context f d ts start x e lp sp is few =
        let q = kept (ltb (d + nest f) most) (all_arguments_with most k d (after ts) >>= λ xs. called_with most k context f d xs.0 xs.1) _ x e in
        let lt = ltb-true (d + nest f) most q.0 in
        let c = bind_ok (all_arguments_with most k d (after ts)) (λ xs. called_with most k context f d xs.0 xs.1) x q.1 in
        let as_ = sound_all_arguments d (after ts) c.0 (omega (arith, lt)) c.1 in
        sound_called tight context f d c.0.0 c.0.1 start ts as_.0 x c.2 as_.1 sp is lp as_.2 lt few as_.3

    sound_closing : (tight : Bool) (context : Context) (f : Exp) (d : ℕ) (ts start : Toks) (x : Exp × Toks) → closing_with most k context f d ts ≡ Ok x → closes context ts ≡ true → SpellsE f tight context start ts → is_post f ≡ true → levels_exp f ≤ levels → is_call f ≡ false → Post x.0 tight context d start x.1
    unfolding closing_with
    sound_closing tight context f d ts start x e lb sp is few isnt =
        let q = kept (ltb (d + nest f) most) (closure_with most k (d + 1) ts >>= λ c. k (calls_on context (call_closure (till (exp_span f) (clo_span c.0)) f c.0)) d c.1) _ x e in
        let lt = ltb-true (d + nest f) most q.0 in
        let c = bind_ok (closure_with most k (d + 1) ts) (λ c. k (calls_on context (call_closure (till (exp_span f) (clo_span c.0)) f c.0)) d c.1) x q.1 in
        let p = sound_closure (d + 1) ts c.0 (at_mark mark.OpenBrace ts _ (closes_kind context ts lb)) c.1 in
        snd (calls_on context (call_closure (till (exp_span f) (clo_span c.0.0)) f c.0.0)) d c.0.1 x c.2 tight start (ts, sp, is, isnt, lb, p.0, refl) (omega (arith, lt, few, p.1)) refl (λ z. absurd cc) (λ z. absurd cc)

    sound_member : (tight : Bool) (context : Context) (f : Exp) (d : ℕ) (ts start : Toks) (x : Exp × Toks) → member_with most k context f d ts ≡ Ok x → is_mark mark.Dot ts ≡ true → SpellsE f tight context start ts → is_post f ≡ true → levels_exp f ≤ levels → is_path f ≡ false → Post x.0 tight context d start x.1
    unfolding member_with
    sound_member tight context f d ts start x e dot sp is few isnt =
        let q = kept (ltb (d + nest f) most) (on_some (name_at (after ts)) (λ n. k (calls_on context (member (till (exp_span f) (here (after ts))) f n)) d (after (after ts))) (syntax_at (after ts))) _ x e in
        let lt = ltb-true (d + nest f) most q.0 in
        let s = some_kept (name_at (after ts)) (λ n. k (calls_on context (member (till (exp_span f) (here (after ts))) f n)) d (after (after ts))) (Syntax (length (after ts))) x q.1 in
        snd (calls_on context (member (till (exp_span f) (here (after ts))) f s.0)) d (after (after ts)) x s.2 tight start (ts, sp, is, isnt, (mark_kind mark.Dot ts dot, s.1), refl, refl) (omega (arith, lt, few)) refl (λ z. absurd cc) (λ z. absurd cc)

    sound_calls : (context : Context) (f : Exp) (d : ℕ) (ts : Toks) (x : Exp × Toks) → calls_with most k context f d ts ≡ Ok x → Spelled (calls_on context f) d x.0 ts x.1
    unfolding calls_with
    sound_calls context f d ts x e tight start sp fit is closed pathed = elim (chosen (opens context ts) _ _ _ e) [
      | inl y ↦ sound_call tight context f d ts start x y.1 y.0 sp is (omega (arith, fit))
      | inr y ↦ elim (chosen (closes context ts) _ _ _ y.1) [
        | inl z ↦ sound_closing tight context f d ts start x z.1 z.0 sp is (omega (arith, fit)) (never (is_call f) (closes context ts) closed z.0)
        | inr z ↦ elim (chosen (is_mark mark.Dot ts) _ _ _ z.1) [
          | inl u ↦ sound_member tight context f d ts start x u.1 u.0 sp is (omega (arith, fit)) (never (is_path f) (is_mark mark.Dot ts) pathed u.0)
          | inr u ↦ rw (← ok_is (f, ts) x u.1) (sp, fit, is)
        ]
      ]
    ]

    -- ---- statements

    abbrev Said : Stm → ℕ → Toks → Toks → Type 0
    Said s d from to = SpellsS s from to × (over most levels d (nest_stm s) (levels_stm s) ≤ 0)

    said_bound : (s : Span) (w : Keyword) (n t : Option Name) (e : Exp) (d : ℕ) (from mid to : Toks) → keyword_at from ≡ Some w → binder_at (after from) ≡ Some n → Typed t (after (after from)) mid → assigns mid ≡ true → SpellsE e false Plain (after mid) to → s ≡ till (here from) (exp_span e) → over most levels (d + 1) (nest e) (levels_exp e) ≤ 0 → Said (bound s w n t e) d from to
    unfolding binder_kind_of
    said_bound s w (Some n) t e d from mid to kw nm ty eq sp is fit = ((kw, binder_name (after from) n nm, mid, ty, eq, sp, is), omega (arith, fit))
    said_bound s w None t e d from mid to kw nm ty eq sp is fit = ((mid, inr (w, kw, binder_kind (after from) None nm, ty, eq), sp, is), omega (arith, fit))

    sound_bound : (d : ℕ) (ts : Toks) (w : Keyword) (n t : Option Name) (us : Toks) (x : Stm × Toks) → d < most → keyword_at ts ≡ Some w → binder_at (after ts) ≡ Some n → Typed t (after (after ts)) us → bound_with k d ts w n t us ≡ Ok x → Said x.0 d ts x.1
    unfolding bound_with
    sound_bound d ts w n t us x lt kw nm ty e = elim (chosen (assigns us) (k (expression Plain) (d + 1) (after us) >>= λ e. done (bound (till (here ts) (exp_span e.0)) w n t e.0, e.1)) (done (declare (till (here ts) (typed_end (here (after ts)) t)) w n t, us)) _ e) [
      | inl y ↦ (
          let c = bind_ok (k (expression Plain) (d + 1) (after us)) (λ e. done (bound (till (here ts) (exp_span e.0)) w n t e.0, e.1)) x y.1 in
          let p = snd (expression Plain) (d + 1) (after us) c.0 c.1 in
          rw (← ok_is (bound (till (here ts) (exp_span c.0.0)) w n t c.0.0, c.0.1) x c.2) (said_bound (till (here ts) (exp_span c.0.0)) w n t c.0.0 d ts us c.0.1 kw nm ty y.0 p.0 refl p.1))
      | inr y ↦ rw (← ok_is (declare (till (here ts) (typed_end (here (after ts)) t)) w n t, us) x y.1) ((kw, nm, ty, refl), omega (arith, lt))
    ]

    sound_let : (d : ℕ) (ts : Toks) (w : Keyword) (x : Stm × Toks) → d < most → keyword_at ts ≡ Some w → let_with k d ts w ≡ Ok x → Said x.0 d ts x.1
    unfolding let_with
    sound_let d ts w x lt kw e =
        let n = some_kept (binder_at (after ts)) (λ n. typed_with (after (after ts)) >>= λ t. bound_with k d ts w n t.0 t.1) (Syntax (length (after ts))) x e in
        let t = bind_ok (typed_with (after (after ts))) (λ t. bound_with k d ts w n.0 t.0 t.1) x n.2 in
        sound_bound d ts w n.0 t.0.0 t.0.1 x lt kw n.1 (typed_sound (after (after ts)) t.0 t.1) t.2

    sound_ignore : (d : ℕ) (ts : Toks) (x : Stm × Toks) → is_mark mark.Underscore ts ≡ true → ignore_with k d ts ≡ Ok x → Said x.0 d ts x.1
    unfolding ignore_with
    sound_ignore d ts x u e =
        let q = kept (is_mark mark.Assign (after ts)) (k (expression Plain) (d + 1) (after (after ts)) >>= λ e. done (ignore (till (here ts) (exp_span e.0)) None e.0, e.1)) _ x e in
        let c = bind_ok (k (expression Plain) (d + 1) (after (after ts))) (λ e. done (ignore (till (here ts) (exp_span e.0)) None e.0, e.1)) x q.1 in
        let p = snd (expression Plain) (d + 1) (after (after ts)) c.0 c.1 in
        rw (← ok_is (ignore (till (here ts) (exp_span c.0.0)) None c.0.0, c.0.1) x c.2) ((after ts, inl (mark_kind mark.Underscore ts u, refl, mark_kind mark.Assign (after ts) q.0, refl), p.0, refl), omega (arith, p.1))

    sound_discard : (d : ℕ) (ts : Toks) (x : Stm × Toks) → d < most → is_word word.Discard ts ≡ true → discard_with ts ≡ Ok x → Said x.0 d ts x.1
    unfolding discard_with
    sound_discard d ts x lt kw e =
        let q = kept (is_word word.SelfValue (after ts)) (done (discard_self (till (here ts) (here (after ts))), after (after ts))) _ x e in
        rw (← ok_is (discard_self (till (here ts) (here (after ts))), after (after ts)) x q.1) ((word_kind word.Discard ts kw, word_kind word.SelfValue (after ts) q.0, refl, refl), omega (arith, lt))

    sound_while : (d : ℕ) (ts : Toks) (x : Stm × Toks) → is_word word.While ts ≡ true → while_with k d ts ≡ Ok x → Said x.0 d ts x.1
    unfolding while_with
    sound_while d ts x kw e =
        let c = bind_ok (k (expression Condition) (d + 1) (after ts)) (λ c. k body (d + 1) c.1 >>= λ b. done (loop_while (till (here ts) (blk_span b.0)) c.0 b.0, b.1)) x e in
        let p = snd (expression Condition) (d + 1) (after ts) c.0 c.1 in
        let b = bind_ok (k body (d + 1) c.0.1) (λ b. done (loop_while (till (here ts) (blk_span b.0)) c.0.0 b.0, b.1)) x c.2 in
        let r = snd body (d + 1) c.0.1 b.0 b.1 in
        rw (← ok_is (loop_while (till (here ts) (blk_span b.0.0)) c.0.0 b.0.0, b.0.1) x b.2) ((word_kind word.While ts kw, c.0.1, p.0, r.0, refl), omega (arith, p.1, r.1))

    sound_repeat : (d : ℕ) (ts : Toks) (x : Stm × Toks) → is_word word.Repeat ts ≡ true → repeat_with k d ts ≡ Ok x → Said x.0 d ts x.1
    unfolding repeat_with
    sound_repeat d ts x kw e =
        let b = bind_ok (k body (d + 1) (after ts)) (λ b. cond (is_word word.While b.1) (k (expression Condition) (d + 1) (after b.1) >>= λ c. done (loop_repeat (till (here ts) (exp_span c.0)) b.0 c.0, c.1)) (syntax_at b.1)) x e in
        let r = snd body (d + 1) (after ts) b.0 b.1 in
        let q = kept (is_word word.While b.0.1) (k (expression Condition) (d + 1) (after b.0.1) >>= λ c. done (loop_repeat (till (here ts) (exp_span c.0)) b.0.0 c.0, c.1)) _ x b.2 in
        let c = bind_ok (k (expression Condition) (d + 1) (after b.0.1)) (λ c. done (loop_repeat (till (here ts) (exp_span c.0)) b.0.0 c.0, c.1)) x q.1 in
        let p = snd (expression Condition) (d + 1) (after b.0.1) c.0 c.1 in
        rw (← ok_is (loop_repeat (till (here ts) (exp_span c.0.0)) b.0.0 c.0.0, c.0.1) x c.2) ((word_kind word.Repeat ts kw, b.0.1, r.0, word_kind word.While b.0.1 q.0, p.0, refl), omega (arith, p.1, r.1))

    sound_upper : (d : ℕ) (ts : Toks) (n : Option Name) (low : Exp) (o : RangeOperator) (us : Toks) (x : Stm × Toks) → kind_at ts ≡ Some (kind.Word word.For) → binder_at (after ts) ≡ Some n → kind_at (after (after ts)) ≡ Some (kind.Word word.In)
        → SpellsE low false Condition (after (after (after ts))) us → over most levels (d + 1) (nest low) (levels_exp low) ≤ 0 → range_at us ≡ Some o → upper_with k d ts n low o us ≡ Ok x → Said x.0 d ts x.1
    unfolding upper_with
    sound_upper d ts n low o us x kw nm within spl fitl op e =
        let h = bind_ok (k (expression Condition) (d + 1) (after us)) (λ high. k body (d + 1) high.1 >>= λ b. done (loop_for (till (here ts) (blk_span b.0)) n low o (here us) high.0 b.0, b.1)) x e in
        let p = snd (expression Condition) (d + 1) (after us) h.0 h.1 in
        let b = bind_ok (k body (d + 1) h.0.1) (λ b. done (loop_for (till (here ts) (blk_span b.0)) n low o (here us) h.0.0 b.0, b.1)) x h.2 in
        let r = snd body (d + 1) h.0.1 b.0 b.1 in
        rw (← ok_is (loop_for (till (here ts) (blk_span b.0.0)) n low o (here us) h.0.0 b.0.0, b.0.1) x b.2) ((kw, nm, within, us, h.0.1, spl, op, refl, p.0, r.0, refl), omega (arith, fitl, p.1, r.1))

    sound_for : (d : ℕ) (ts : Toks) (x : Stm × Toks) → is_word word.For ts ≡ true → for_with k d ts ≡ Ok x → Said x.0 d ts x.1
    unfolding for_with lower_with
    sound_for d ts x kw e =
        let us = after (after (after ts)) in
        let n = some_kept (binder_at (after ts)) (λ n. cond (is_word word.In (after (after ts))) (k (expression Condition) (d + 1) us >>= λ low. on_some (range_at low.1) (λ o. upper_with k d ts n low.0 o low.1) (syntax_at low.1)) (syntax_at (after (after ts)))) (Syntax (length (after ts))) x e in
        let q = kept (is_word word.In (after (after ts))) (k (expression Condition) (d + 1) us >>= λ low. on_some (range_at low.1) (λ o. upper_with k d ts n.0 low.0 o low.1) (syntax_at low.1)) _ x n.2 in
        let low = bind_ok (k (expression Condition) (d + 1) us) (λ low. on_some (range_at low.1) (λ o. upper_with k d ts n.0 low.0 o low.1) (syntax_at low.1)) x q.1 in
        let p = snd (expression Condition) (d + 1) us low.0 low.1 in
        let o = some_kept (range_at low.0.1) (λ o. upper_with k d ts n.0 low.0.0 o low.0.1) (Syntax (length low.0.1)) x low.2 in
        sound_upper d ts n.0 low.0.0 o.0 low.0.1 x (word_kind word.For ts kw) n.1 (word_kind word.In (after (after ts)) q.0) p.0 p.1 o.1 o.2

    sound_else : (d : ℕ) (ts mid : Toks) (c : Exp) (b : Blk) (us : Toks) (x : Stm × Toks) → kind_at ts ≡ Some (kind.Word word.If) → SpellsE c false Condition (after ts) mid → SpellsB b mid us → over most levels (d + 1) (nest c) (levels_exp c) ≤ 0 → over most levels (d + 1) (nest_blk b) (levels_blk b) ≤ 0
        → else_with k d ts c b us ≡ Ok x → Said x.0 d ts x.1
    unfolding else_with
    sound_else d ts mid c b us x kw spc spb fitc fitb e = elim (chosen (is_word word.Else us) _ _ _ e) [
      | inr y ↦ rw (← ok_is (if_then (till (here ts) (blk_span b)) c b, us) x y.1) ((kw, mid, spc, spb, refl), omega (arith, fitc, fitb))
      | inl y ↦ elim (chosen (is_word word.If (after us)) _ _ _ y.1) [
        | inl z ↦ (
            let s = bind_ok (k statement (d + 1) (after us)) (λ s. done (else_if (till (here ts) (stm_span s.0)) c b s.0, s.1)) x z.1 in
            let p = snd statement (d + 1) (after us) s.0 s.1 in
            rw (← ok_is (else_if (till (here ts) (stm_span s.0.0)) c b s.0.0, s.0.1) x s.2) ((kw, mid, us, spc, spb, word_kind word.Else us y.0, p.0, if_is s.0.0 (after us) s.0.1 p.0 (word_kind word.If (after us) z.0), refl), omega (arith, fitc, fitb, p.1)))
        | inr z ↦ (
            let s = bind_ok (k body (d + 1) (after us)) (λ s. done (if_else (till (here ts) (blk_span s.0)) c b s.0, s.1)) x z.1 in
            let p = snd body (d + 1) (after us) s.0 s.1 in
            rw (← ok_is (if_else (till (here ts) (blk_span s.0.0)) c b s.0.0, s.0.1) x s.2) ((kw, mid, us, spc, spb, word_kind word.Else us y.0, p.0, refl), omega (arith, fitc, fitb, p.1)))
      ]
    ]

    sound_if : (d : ℕ) (ts : Toks) (x : Stm × Toks) → is_word word.If ts ≡ true → if_with k d ts ≡ Ok x → Said x.0 d ts x.1
    unfolding if_with
    sound_if d ts x kw e =
        let c = bind_ok (k (expression Condition) (d + 1) (after ts)) (λ c. k body (d + 1) c.1 >>= λ b. else_with k d ts c.0 b.0 b.1) x e in
        let p = snd (expression Condition) (d + 1) (after ts) c.0 c.1 in
        let b = bind_ok (k body (d + 1) c.0.1) (λ b. else_with k d ts c.0.0 b.0 b.1) x c.2 in
        let r = snd body (d + 1) c.0.1 b.0 b.1 in
        sound_else d ts c.0.1 c.0.0 b.0.0 b.0.1 x (word_kind word.If ts kw) p.0 r.0 p.1 r.1 b.2

    sound_switch : (d : ℕ) (ts : Toks) (x : Stm × Toks) → d < most → is_word word.Switch ts ≡ true → switch_with k d ts ≡ Ok x → Said x.0 d ts x.1
    unfolding switch_with
    sound_switch d ts x lt kw e =
        let c = bind_ok (k (expression Condition) (d + 1) (after ts)) (λ e. cond (is_mark mark.OpenBrace e.1) (k (clauses_on []) (d + 1) (after e.1) >>= λ cs. done (switch (till (here ts) (here cs.1)) e.0 (clauses_of cs.0), after cs.1)) (syntax_at e.1)) x e in
        let p = snd (expression Condition) (d + 1) (after ts) c.0 c.1 in
        let q = kept (is_mark mark.OpenBrace c.0.1) (k (clauses_on []) (d + 1) (after c.0.1) >>= λ cs. done (switch (till (here ts) (here cs.1)) c.0.0 (clauses_of cs.0), after cs.1)) _ x c.2 in
        let s = bind_ok (k (clauses_on []) (d + 1) (after c.0.1)) (λ cs. done (switch (till (here ts) (here cs.1)) c.0.0 (clauses_of cs.0), after cs.1)) x q.1 in
        let r = snd (clauses_on []) (d + 1) (after c.0.1) s.0 s.1 (omega (arith, lt)) in
        let same : clauses_of s.0.0 ≡ r.0 = clauses_same s.0.0 r.0 r.1 in
        rw (← ok_is (switch (till (here ts) (here s.0.1)) c.0.0 (clauses_of s.0.0), after s.0.1) x s.2, same) ((word_kind word.Switch ts kw, c.0.1, s.0.1, p.0, mark_kind mark.OpenBrace c.0.1 q.0, r.2, refl, refl), omega (arith, p.1, r.3))

    sound_return : (d : ℕ) (ts : Toks) (x : Stm × Toks) → d < most → is_word word.Return ts ≡ true → return_with k d ts ≡ Ok x → Said x.0 d ts x.1
    unfolding return_with
    sound_return d ts x lt kw e = elim (chosen (is_bare (after ts)) _ _ _ e) [
      | inl y ↦ rw (← ok_is (return_none (here ts), after ts) x y.1) ((word_kind word.Return ts kw, refl, refl), omega arith)
      | inr y ↦ (
          let c = bind_ok (k (expression Plain) (d + 1) (after ts)) (λ e. done (return_value (till (here ts) (exp_span e.0)) e.0, e.1)) x y.1 in
          let p = snd (expression Plain) (d + 1) (after ts) c.0 c.1 in
          rw (← ok_is (return_value (till (here ts) (exp_span c.0.0)) c.0.0, c.0.1) x c.2) ((word_kind word.Return ts kw, y.0, p.0, refl), omega (arith, p.1)))
    ]

    sound_assign : (d : ℕ) (ts us : Toks) (e : Exp) (o : AssignOperator) (x : Stm × Toks) → SpellsE e false Plain ts us → over most levels (d + 1) (nest e) (levels_exp e) ≤ 0 → assign_at us ≡ Some o → assign_with k d e us o ≡ Ok x → Said x.0 d ts x.1
    unfolding assign_with
    sound_assign d ts us e o x sp fit op r = elim (some_or (path_in e) (λ p. k (expression Plain) (d + 1) (after us) >>= λ y. done (assign (till p.span (exp_span y.0)) p o (here us) y.0, y.1)) (done (evaluate e, us)) _ r) [
      | inr y ↦ rw (← ok_is (evaluate e, us) x y.1) (sp, omega (arith, fit))
      | inl p ↦ (
          let spp : SpellsPath p.0 ts us = rw (path_in_is e p.0 p.1) at sp in
          let c = bind_ok (k (expression Plain) (d + 1) (after us)) (λ y. done (assign (till p.0.span (exp_span y.0)) p.0 o (here us) y.0, y.1)) x p.2 in
          let q = snd (expression Plain) (d + 1) (after us) c.0 c.1 in
          rw (← ok_is (assign (till p.0.span (exp_span c.0.0)) p.0 o (here us) c.0.0, c.0.1) x c.2) ((us, spp, op, refl, q.0, refl), omega (arith, nest_positive e, fit, q.1)))
    ]

    sound_evaluate : (d : ℕ) (ts : Toks) (x : Stm × Toks) → evaluate_with most k d ts ≡ Ok x → Said x.0 d ts x.1
    unfolding evaluate_with
    sound_evaluate d ts x e =
        let c = bind_ok (expression_with most k Plain (d + 1) ts) (λ c. on_some (assign_at c.1) (assign_with k d c.0 c.1) (done (evaluate c.0, c.1))) x e in
        let p = sound_expression Plain (d + 1) ts c.0 c.1 in
        elim (some_or (assign_at c.0.1) (assign_with k d c.0.0 c.0.1) (done (evaluate c.0.0, c.0.1)) _ c.2) [
          | inr y ↦ rw (← ok_is (evaluate c.0.0, c.0.1) x y.1) (p.0, omega (arith, p.1))
          | inl o ↦ sound_assign d ts c.0.1 c.0.0 o.0 x p.0 p.1 o.1 o.2
        ]

    sound_simple : (d : ℕ) (ts : Toks) (x : Stm × Toks) → d < most → simple_with most k d ts ≡ Ok x → Said x.0 d ts x.1
    unfolding simple_with
    sound_simple d ts x lt e = elim (chosen (is_mark mark.Underscore ts) _ _ _ e) [
      | inl y ↦ sound_ignore d ts x y.0 y.1
      | inr y ↦ elim (chosen (is_word word.Discard ts) _ _ _ y.1) [
        | inl z ↦ sound_discard d ts x lt z.0 z.1
        | inr z ↦ elim (chosen (is_word word.Break ts) _ _ _ z.1) [
          | inl u ↦ rw (← ok_is (leave (here ts), after ts) x u.1) ((word_kind word.Break ts u.0, refl, refl), omega arith)
          | inr u ↦ elim (chosen (is_word word.Continue ts) _ _ _ u.1) [
            | inl v ↦ rw (← ok_is (go_on (here ts), after ts) x v.1) ((word_kind word.Continue ts v.0, refl, refl), omega arith)
            | inr v ↦ elim (chosen (is_word word.Return ts) _ _ _ v.1) [
              | inl w ↦ sound_return d ts x lt w.0 w.1
              | inr w ↦ sound_evaluate d ts x w.1
            ]
          ]
        ]
      ]
    ]

    pub sound_statement : (d : ℕ) (ts : Toks) (x : Stm × Toks) → statement_with most k d ts ≡ Ok x → Said x.0 d ts x.1
    unfolding statement_with
    sound_statement d ts x e =
        let q = kept (ltb d most) (on_some (keyword_at ts) (let_with k d ts) (cond (is_word word.If ts) (if_with k d ts) (cond (is_word word.While ts) (while_with k d ts) (cond (is_word word.Repeat ts) (repeat_with k d ts) (cond (is_word word.For ts) (for_with k d ts) (cond (is_word word.Switch ts) (switch_with k d ts) (simple_with most k d ts))))))) _ x e in
        let lt = ltb-true d most q.0 in
        elim (some_or (keyword_at ts) (let_with k d ts) (cond (is_word word.If ts) (if_with k d ts) (cond (is_word word.While ts) (while_with k d ts) (cond (is_word word.Repeat ts) (repeat_with k d ts) (cond (is_word word.For ts) (for_with k d ts) (cond (is_word word.Switch ts) (switch_with k d ts) (simple_with most k d ts)))))) _ q.1) [
          | inl y ↦ sound_let d ts y.0 x lt y.1 y.2
          | inr y ↦ elim (chosen (is_word word.If ts) _ _ _ y.1) [
            | inl z ↦ sound_if d ts x z.0 z.1
            | inr z ↦ elim (chosen (is_word word.While ts) _ _ _ z.1) [
              | inl u ↦ sound_while d ts x u.0 u.1
              | inr u ↦ elim (chosen (is_word word.Repeat ts) _ _ _ u.1) [
                | inl v ↦ sound_repeat d ts x v.0 v.1
                | inr v ↦ elim (chosen (is_word word.For ts) _ _ _ v.1) [
                  | inl w ↦ sound_for d ts x w.0 w.1
                  | inr w ↦ elim (chosen (is_word word.Switch ts) _ _ _ w.1) [
                    | inl f ↦ sound_switch d ts x lt f.0 f.1
                    | inr f ↦ sound_simple d ts x lt f.1
                  ]
                ]
              ]
            ]
          ]
        ]

    pub sound_separated : (d : ℕ) (ts : Toks) (x : Stm × Toks) → separated_with most k d ts ≡ Ok x → (mid : Toks) × SpellsS x.0 ts mid × Sep (is_return x.0) mid x.1 × (over most levels d (nest_stm x.0) (levels_stm x.0) ≤ 0)
    unfolding separated_with
    sound_separated d ts x e =
        let s = bind_ok (statement_with most k d ts) (λ s. sep_at (is_return s.0) s.1 >>= λ next. done (s.0, next)) x e in
        let p = sound_statement d ts s.0 s.1 in
        let n = bind_ok (sep_at (is_return s.0.0) s.0.1) (λ next. done (s.0.0, next)) x s.2 in
        rw (← ok_is (s.0.0, n.0) x n.2) (s.0.1, p.0, sep_sound (is_return s.0.0) s.0.1 n.0 n.1, p.1)

    sound_statements : (xs : List Stm) (d : ℕ) (ts : Toks) (x : List Stm × Toks) → statements_with most k xs d ts ≡ Ok x → Spelled (statements_on xs) d x.0 ts x.1
    unfolding statements_with stms_in
    sound_statements xs d ts x e le = elim (chosen (is_mark mark.CloseBrace ts) _ _ _ e) [
      | inl y ↦ rw (← ok_is (xs, ts) x y.1) (no_stms, sym (append-nil xs), (mark_kind mark.CloseBrace ts y.0, refl), omega (arith, le))
      | inr y ↦ (
          let s = bind_ok (separated_with most k d ts) (λ s. k (statements_on (xs ++ s.0 ∷ [])) d s.1) x y.1 in
          let p = sound_separated d ts s.0 s.1 in
          let r = snd (statements_on (xs ++ s.0.0 ∷ [])) d s.0.1 x s.2 le in
          (stm s.0.0 r.0, r.1 ∙ append_assoc xs (s.0.0 ∷ []) (stms_in r.0), (p.0, s.0.1, p.1, p.2, r.2), omega (arith, p.3, r.3)))
    ]

    -- ---- clauses

    sound_clause_statements : (xs : List Stm) (d : ℕ) (ts : Toks) (x : List Stm × Toks) → clause_statements_with most k xs d ts ≡ Ok x → Spelled (clause_on xs) d x.0 ts x.1
    unfolding clause_statements_with stms_in
    sound_clause_statements xs d ts x e =
        let s = bind_ok (separated_with most k d ts) (λ s. cond (ends_clause s.1) (done (xs ++ s.0 ∷ [], s.1)) (k (clause_on (xs ++ s.0 ∷ [])) d s.1)) x e in
        let p = sound_separated d ts s.0 s.1 in
        elim (chosen (ends_clause s.0.1) (done (xs ++ s.0.0 ∷ [], s.0.1)) (k (clause_on (xs ++ s.0.0 ∷ [])) d s.0.1) _ s.2) [
          | inl y ↦ rw (← ok_is (xs ++ s.0.0 ∷ [], s.0.1) x y.1) (s.0.0, no_stms, refl, (p.0, p.1, p.2), omega (arith, p.3))
          | inr y ↦ (
              let r = snd (clause_on (xs ++ s.0.0 ∷ [])) d s.0.1 x y.1 in
              (s.0.0, stm r.0 r.1, r.2 ∙ append_assoc xs (s.0.0 ∷ []) (stms_in (stm r.0 r.1)), (p.0, s.0.1, p.1, p.2, r.3), omega (arith, p.3, r.4)))
        ]

    abbrev Headed : When → ℕ → Toks → Toks → Type 0
    Headed h d from to = SpellsH h from to × (d ≤ most → over most levels d (nest_when h) (levels_when h) ≤ 0)

    sound_where : (p : Pat) (ps : Pats) (d : ℕ) (ts us : Toks) (x : When × Toks) → kind_at ts ≡ Some (kind.Word word.Case) → SpellsPats (pat p ps) (after ts) us → suc (nest_pats (pat p ps)) ≤ levels → where_with k d (pats_in (pat p ps)) us ≡ Ok x → Headed x.0 d ts x.1
    unfolding where_with pats_in
    sound_where p no_pats d ts us x kw sp fit e = elim (chosen (is_word word.Where us) _ _ _ e) [
      | inr y ↦ rw (← ok_is (case_of (pat p no_pats), us) x y.1) ((kw, sp), λ le. omega (arith, fit, le))
      | inl y ↦ (
          let c = bind_ok (k (expression Plain) d (after us)) (λ e. done (case_where p e.0, e.1)) x y.1 in
          let q = snd (expression Plain) d (after us) c.0 c.1 in
          rw (← ok_is (case_where p c.0.0, c.0.1) x c.2) ((kw, us, sp, word_kind word.Where us y.0, q.0), λ le. omega (arith, fit, q.1)))
    ]
    sound_where p (pat q ps) d ts us x kw sp fit e = rw (← ok_is (case_of (pat p (pats_of (pats_in (pat q ps)))), us) x e, pats_list ps) ((kw, sp), λ le. omega (arith, fit, le))

    pub sound_head : (d : ℕ) (ts : Toks) (x : When × Toks) → head_with levels k d ts ≡ Ok x → Headed x.0 d ts x.1
    unfolding head_with
    sound_head d ts x e = elim (chosen (is_word word.Case ts) (read_pattern levels (patterns_on []) 1 (after ts) >>= λ ps. where_with k d ps.0 ps.1) (cond (is_word word.Default ts) (done (default, after ts)) (syntax_at ts)) _ e) [
      | inl y ↦ (
          let c = bind_ok (read_pattern levels (patterns_on []) 1 (after ts)) (λ ps. where_with k d ps.0 ps.1) x y.1 in
          let s = pats_sound levels 1 (after ts) c.0 c.1 in
          sound_where s.0 s.1 d ts c.0.1 x (word_kind word.Case ts y.0) s.3 (let fit = s.4 (omega (arith, some)) in omega (arith, fit)) (rw s.2 at c.2))
      | inr y ↦ (
          let q = kept (is_word word.Default ts) (done (default, after ts)) _ x y.1 in
          rw (← ok_is (default, after ts) x q.1) ((word_kind word.Default ts q.0, refl), λ le. omega (arith, le)))
    ]

    abbrev Claused : Cla → ℕ → Toks → Toks → Type 0
    Claused c d from to = (colon : Toks) × SpellsH c.1 from colon × (kind_at colon ≡ Some (kind.Mark mark.Colon)) × SpellsN c.2 (after colon) to × (c.0 ≡ till (here from) (stms_end (here colon) c.2)) × (d ≤ most → over most levels d (nest_when c.1) (levels_when c.1) ≤ 0) × (over most levels d (nest_stms c.2) (levels_stms c.2) ≤ 0)

    pub sound_clause : (d : ℕ) (ts : Toks) (x : Cla × Toks) → clause_with levels k d ts ≡ Ok x → Claused x.0 d ts x.1
    unfolding clause_with
    sound_clause d ts x e =
        let h = bind_ok (head_with levels k d ts) (λ h. cond (is_mark mark.Colon h.1) (k (clause_on []) d (after h.1) >>= λ ss. done ((till (here ts) (stms_end (here h.1) (stms_of ss.0)), h.0, stms_of ss.0), ss.1)) (syntax_at h.1)) x e in
        let p = sound_head d ts h.0 h.1 in
        let q = kept (is_mark mark.Colon h.0.1) (k (clause_on []) d (after h.0.1) >>= λ ss. done ((till (here ts) (stms_end (here h.0.1) (stms_of ss.0)), h.0.0, stms_of ss.0), ss.1)) _ x h.2 in
        let s = bind_ok (k (clause_on []) d (after h.0.1)) (λ ss. done ((till (here ts) (stms_end (here h.0.1) (stms_of ss.0)), h.0.0, stms_of ss.0), ss.1)) x q.1 in
        let r = snd (clause_on []) d (after h.0.1) s.0 s.1 in
        let same : stms_of s.0.0 ≡ stm r.0 r.1 = stms_same s.0.0 (stm r.0 r.1) r.2 in
        rw (← ok_is ((till (here ts) (stms_end (here h.0.1) (stms_of s.0.0)), h.0.0, stms_of s.0.0), s.0.1) x s.2, same) (h.0.1, p.0, mark_kind mark.Colon h.0.1 q.0, r.3, refl, p.1, r.4)

    sound_clauses : (xs : List Cla) (d : ℕ) (ts : Toks) (x : List Cla × Toks) → clauses_with levels k xs d ts ≡ Ok x → Spelled (clauses_on xs) d x.0 ts x.1
    unfolding clauses_with clauses_in
    sound_clauses xs d ts x e le = elim (chosen (is_mark mark.CloseBrace ts) _ _ _ e) [
      | inl y ↦ rw (← ok_is (xs, ts) x y.1) (no_clauses, sym (append-nil xs), (mark_kind mark.CloseBrace ts y.0, refl), omega (arith, le))
      | inr y ↦ (
          let c = bind_ok (clause_with levels k d ts) (λ c. k (clauses_on (xs ++ c.0 ∷ [])) d c.1) x y.1 in
          let p = sound_clause d ts c.0 c.1 in let low = p.5 le in
          let r = snd (clauses_on (xs ++ c.0.0 ∷ [])) d c.0.1 x c.2 le in
          (clause c.0.0.0 c.0.0.1 c.0.0.2 r.0, r.1 ∙ append_assoc xs (c.0.0 ∷ []) (clauses_in r.0), (p.0, c.0.1, p.1, p.2, p.3, p.4, r.2), omega (arith, low, p.6, r.3)))
    ]

    sound_block : (d : ℕ) (ts : Toks) (x : Blk × Toks) → block_with most k d ts ≡ Ok x → SpellsB x.0 ts x.1 × (over most levels d (nest_blk x.0) (levels_blk x.0) ≤ 0)
    unfolding block_with
    sound_block d ts x e =
        let q = kept (ltb d most) (cond (is_mark mark.OpenBrace ts) (k (statements_on []) (d + 1) (after ts) >>= λ ss. done (block (till (here ts) (here ss.1)) (stms_of ss.0), after ss.1)) (syntax_at ts)) _ x e in
        let q2 = kept (is_mark mark.OpenBrace ts) (k (statements_on []) (d + 1) (after ts) >>= λ ss. done (block (till (here ts) (here ss.1)) (stms_of ss.0), after ss.1)) _ x q.1 in
        let s = bind_ok (k (statements_on []) (d + 1) (after ts)) (λ ss. done (block (till (here ts) (here ss.1)) (stms_of ss.0), after ss.1)) x q2.1 in
        let lt = ltb-true d most q.0 in
        let r = snd (statements_on []) (d + 1) (after ts) s.0 s.1 (omega (arith, lt)) in
        let same : stms_of s.0.0 ≡ r.0 = stms_same s.0.0 r.0 r.1 in
        rw (← ok_is (block (till (here ts) (here s.0.1)) (stms_of s.0.0), after s.0.1) x s.2, same) ((mark_kind mark.OpenBrace ts q2.0, s.0.1, r.2, refl, refl), omega (arith, r.3))

    pub sound_step : Sound (step most levels k)
    unfolding step
    sound_step (expression context) d ts x e = sound_expression context d ts x e
    sound_step (operand context) d ts x e = sound_pre true context d ts x e
    sound_step (operators_on j context a) d ts x e = sound_operators j context a d ts x e
    sound_step (calls_on context f) d ts x e = sound_calls context f d ts x e
    sound_step (arguments_on xs) d ts x e = sound_arguments xs d ts x e
    sound_step statement d ts x e = sound_statement d ts x e
    sound_step (statements_on xs) d ts x e = sound_statements xs d ts x e
    sound_step (clause_on xs) d ts x e = sound_clause_statements xs d ts x e
    sound_step (clauses_on xs) d ts x e = sound_clauses xs d ts x e
    sound_step body d ts x e = sound_block d ts x e

  pub sound_at : 0 < levels → (fuel : ℕ) → Sound (read_at most levels fuel)
  unfolding read_at
  sound_at some zero g d ts x e = absurd cc
  sound_at some (suc fuel) g d ts x e = sound_step some (read_at most levels fuel) (sound_at some fuel) g d ts x e

  pub sound : 0 < levels → Sound (read most levels)
  unfolding read
  sound some g d ts x e = sound_at some (suc (length ts)) g d ts x e
