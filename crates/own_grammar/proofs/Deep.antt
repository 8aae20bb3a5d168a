-- Depth comes only where a partial tree stands a level too deep.
use Rattle.std.proofs.Common.{◌≡◌, ℕ, zero, suc, ◌+◌, ◌≤◌, ◌<◌, Bool, cond, eqb, ltb, true, false, List, [], ◌∷◌, ◌++◌, length, Option, Some, None, Ok, Err, ◌⊎◌, inl, inr, refl, arith}
use Rattle.own_tree.specs.declared.token.Kind.TheVariants as kind
use Rattle.own_tree.specs.declared.token.Mark.TheVariants as mark
use Rattle.own_tree.specs.declared.token.Word.TheVariants as word
use Rattle.own_tree.specs.declared.tree.Name.{Name}
use Rattle.own_tree.specs.declared.tree.Keyword.{Keyword}
use Rattle.own_tree.specs.declared.tree.AssignOperator.{AssignOperator}
use Rattle.own_tree.specs.declared.tree.RangeOperator.{RangeOperator}
use Rattle.own_tree.specs.declared.tree.PrefixOperator.{PrefixOperator}
use Rattle.own_tree.specs.declared.tree.BinaryOperator.{BinaryOperator}
use Rattle.own_tree.specs.Source.{Exp, path, implicit_member, parenthesized, consumed, prefix, binary, choice, member, call, call_closing, call_closure, value, address, closing, Args, Clo, closure, Stm, declare, assign, ignore, discard_self, if_else, else_if, loop_while, loop_repeat, loop_for, switch, return_value, evaluate, case_where, default, Blk, block, Pat, Pats, no_pats, pat}
use Rattle.own_tree.specs.View.{Arg, Cla, args_of, stms_of, clauses_of}
use Rattle.own_grammar.specs.declared.Context.{Context}
use Rattle.own_grammar.specs.declared.Context.TheVariants.{Plain, Condition, Inside}
use Rattle.own_grammar.specs.Tests.{Toks, after, here, till, kind_at, is_mark, is_word, name_at, root_at, operator_at, negative_at, unary_at, opens, closes, label_at, binder_at, keyword_at, range_at, assign_at, assigns, is_bare, closure_head}
use Rattle.own_grammar.specs.Nesting.{exp_span, clo_span, level, chains, level_of, is_post, is_path, is_call, nest, nest_args, blk_span, stm_span, stms_end, typed_end, is_return}
use Rattle.own_grammar.specs.Levels.{levels_args, levels_exp, levels_p, levels_pa, levels_pb, levels_pc, levels_pg, levels_pk, levels_pl, levels_ps}
use Rattle.own_grammar.specs.Spells.{IsLeft, SpellsPath, SpellsE, SpellsA, SpellsB, SpellsPats}
use Rattle.own_grammar.specs.Reading.{Depth, ◌>>=◌, syntax_at, depth_at, on_some, Goal, expression, operand, operators_on, calls_on, arguments_on, Reader, path_from, path_with, parenthesized_with, implicit_with, literal_at, primary_with, post_with, prefix_with, consume_with, pre_with, level_with, next_with, operator_with, operators_with, branches_with, choice_with, expression_with, closure_with, address_with, given_with, argument_with, arguments_with, all_arguments_with, called_with, call_with, closing_with, member_with, calls_with, step, statement, statements_on, clause_on, clauses_on, body, typed_with, bound, bound_with, let_with, ignore_with, discard_with, else_with, if_with, while_with, repeat_with, upper_with, lower_with, for_with, switch_with, return_with, path_in, assign_with, evaluate_with, simple_with, statement_with, sep_at, separated_with, statements_with, ends_clause, clause_statements_with, where_with, head_with, clause_with, clauses_with, block_with, patterns_on, read_pattern, read_at, read}
use Rattle.own_grammar.proofs.Facts.{mark_kind, word_kind, at_mark, closes_kind}
use Rattle.own_grammar.proofs.Edges.{sep_no_depth, clash}
use Rattle.own_grammar.proofs.Lists.{args_in, pats_in, args_same}
use Rattle.std.proofs.lemmas.Bool.{eqb-true}
use Rattle.own_grammar.proofs.Within.{over}
use Rattle.own_grammar.proofs.Steps.{done, chosen, some_or}
use Rattle.own_grammar.proofs.Paths.{typed_sound}
use Rattle.own_grammar.proofs.PatternsRead.{pats_sound}
use Rattle.own_grammar.proofs.Sound.{Sound, left_of, sound_primary, sound_level, sound_expression, sound_closure, sound_argument, sound_all_arguments, sound_separated, sound_head, sound_clause, sound_at, nest_positive, path_in_is, never}
use Rattle.own_grammar.proofs.Steps.{bind_err, bind_deep, syn, some_syn, lim, no_ok}
use Rattle.own_grammar.proofs.Paths.{path_from_no_depth, path_no_depth, typed_no_depth}
use Rattle.own_grammar.proofs.PatternsRead.{pats_deep}
use Rattle.own_grammar.specs.Partial.{PExp, gone, p_parenthesized, p_consumed, p_prefix, p_binary, p_first, p_second, p_member, p_call, p_unclosed, p_call_closing, p_call_closure, PGiven, p_value, p_address, p_closing, PArgs, no_more, p_arg, p_then, PClo, p_opened, p_closure, PStm, gone_stm, p_let, p_assign, p_ignore, p_if, p_if_then, p_if_else, p_else_if, p_while, p_while_do, p_repeat, p_repeat_while, p_from, p_to, p_for, p_subject, p_switch, p_return, p_evaluate, PStms, p_stm, p_next, PClauses, p_patterns, p_where, p_clause, p_next_clause, PBlk, gone_block, p_block, level_p, nest_p, nest_pg, nest_pa, nest_pk, nest_ps, nest_pl, nest_pc, nest_pb, PartE, PartG, PartA, PartK, PartS, PartL, PartC, PartB}

module _ (most levels : ℕ) where
  abbrev DeepE : ℕ → Bool → Context → ℕ → Toks → ℕ → Type 0
  DeepE lvl tight context d from n = (p : PExp) × (at_ : Toks) × (length at_ ≡ n) × PartE p tight context from at_ × (0 < over most levels d (nest_p p) (levels_p p)) × (level_p p ≤ lvl)

  abbrev DeepG : ℕ → Toks → ℕ → Type 0
  DeepG d from n = (p : PGiven) × (at_ : Toks) × (length at_ ≡ n) × PartG p from at_ × (0 < over most levels d (nest_pg p) (levels_pg p))

  abbrev DeepA : ℕ → Toks → ℕ → Type 0
  DeepA d from n = (p : PArgs) × (at_ : Toks) × (length at_ ≡ n) × PartA p from at_ × (0 < over most levels d (suc (nest_pa p)) (levels_pa p))

  -- a closure that lacks all its parts, or one that has its brace
  abbrev DeepK : ℕ → Toks → ℕ → Type 0
  DeepK d from n = ((length from ≡ n) × (most ≤ d)) ⊎ ((p : PClo) × (at_ : Toks) × (length at_ ≡ n) × PartK p from at_ × (0 < over most levels d (nest_pk p) (levels_pk p)))

  abbrev DeepS : ℕ → Toks → ℕ → Type 0
  DeepS d from n = (p : PStm) × (at_ : Toks) × (length at_ ≡ n) × PartS p from at_ × (0 < over most levels d (nest_ps p) (levels_ps p))

  abbrev DeepL : ℕ → Toks → ℕ → Type 0
  DeepL d from n = (p : PStms) × (at_ : Toks) × (length at_ ≡ n) × PartL p from at_ × (0 < over most levels d (nest_pl p) (levels_pl p))

  abbrev DeepC : ℕ → Toks → ℕ → Type 0
  DeepC d from n = (p : PClauses) × (at_ : Toks) × (length at_ ≡ n) × PartC p from at_ × (0 < over most levels d (nest_pc p) (levels_pc p))

  abbrev pub DeepB : ℕ → Toks → ℕ → Type 0
  DeepB d from n = (p : PBlk) × (at_ : Toks) × (length at_ ≡ n) × PartB p from at_ × (0 < over most levels d (nest_pb p) (levels_pb p))

  abbrev Deep : (g : Goal) → ℕ → Toks → ℕ → Type 0
  Deep (expression context) d ts n = DeepE 6 false context d ts n
  Deep (operand context) d ts n = DeepE 0 true context d ts n
  Deep (operators_on j context a) d ts n = (start : Toks) → SpellsE a false context start ts → over most levels d (nest a) (levels_exp a) ≤ 0 → IsLeft (chains (suc j)) (suc j) (level_of a) → DeepE (suc j) false context d start n
  Deep (calls_on context f) d ts n = (tight : Bool) (start : Toks) → SpellsE f tight context start ts → over most levels d (nest f) (levels_exp f) ≤ 0 → is_post f ≡ true → (is_call f ≡ true → closes context ts ≡ false) → (is_path f ≡ true → is_mark mark.Dot ts ≡ false) → DeepE 0 tight context d start n
  Deep (arguments_on xs) d ts n = DeepA d ts n
  Deep statement d ts n = DeepS d ts n
  Deep (statements_on xs) d ts n = DeepL d ts n
  Deep (clause_on xs) d ts n = DeepL d ts n
  Deep (clauses_on xs) d ts n = DeepC d ts n
  Deep body d ts n = DeepB d ts n

  abbrev Deeps : Reader → Type 0
  Deeps k = (g : Goal) (d : ℕ) (ts : Toks) (n : ℕ) → k g d ts ≡ Err (Depth n) → Deep g d ts n

  module _ (some : 0 < levels) (k : Reader) (snd : Sound most levels k) (dp : Deeps k) where
    deep_parenthesized : (tight : Bool) (context : Context) (d : ℕ) (ts : Toks) (n : ℕ) → kind_at ts ≡ Some (kind.Mark mark.OpenParen) → parenthesized_with k d ts ≡ Err (Depth n) → DeepE 0 tight context d ts n
    unfolding parenthesized_with
    deep_parenthesized tight context d ts n lp e = elim (bind_err (k (expression Inside) (d + 1) (after ts)) _ _ e) [
      | inl y ↦ (let r = dp (expression Inside) (d + 1) (after ts) n y in (p_parenthesized r.0, r.1, r.2, (lp, r.3), omega (arith, r.4), omega arith))
      | inr y ↦ absurd (let q = syn (is_mark mark.CloseParen y.0.1) (done (parenthesized (till (here ts) (here y.0.1)) y.0.0, after y.0.1)) _ n y.2 in no_ok _ n q.1)
    ]

    deep_primary : (tight : Bool) (context : Context) (d : ℕ) (ts : Toks) (n : ℕ) → primary_with k tight d ts ≡ Err (Depth n) → DeepE 0 tight context d ts n
    unfolding primary_with implicit_with
    deep_primary tight context d ts n e = elim (some_or (negative_at tight ts) _ _ _ e) [
      | inl y ↦ absurd (no_ok _ n y.2)
      | inr a ↦ elim (some_or (literal_at ts) _ _ _ a.1) [
        | inl y ↦ absurd (no_ok _ n y.2)
        | inr b ↦ elim (some_or (root_at ts) (λ r. path_from r ts >>= λ p. done (path p.0, p.1)) _ _ b.1) [
          | inl r ↦ absurd (path_from_no_depth r.0 ts n (bind_deep (path_from r.0 ts) (λ p. (path p.0, p.1)) n r.2))
          | inr g ↦ elim (chosen (is_mark mark.Dot ts) _ _ _ g.1) [
            | inl y ↦ absurd (let s = some_syn (name_at (after ts)) (λ m. done (implicit_member (till (here ts) (here (after ts))) m, after (after ts))) (length (after ts)) n y.1 in no_ok _ n s.2)
            | inr y ↦ (let q = syn (is_mark mark.OpenParen ts) (parenthesized_with k d ts) _ n y.1 in deep_parenthesized tight context d ts n (mark_kind mark.OpenParen ts q.0) q.1)
          ]
        ]
      ]
    ]

    deep_post : (tight : Bool) (context : Context) (d : ℕ) (ts : Toks) (n : ℕ) → d < most → post_with k tight context d ts ≡ Err (Depth n) → DeepE 0 tight context d ts n
    unfolding post_with
    deep_post tight context d ts n lt e = elim (bind_err (primary_with k tight d ts) (λ e. k (calls_on context e.0) d e.1) _ e) [
      | inl y ↦ deep_primary tight context d ts n y
      | inr y ↦ (let p = sound_primary most levels some k snd tight context d ts y.0 lt y.1 in dp (calls_on context y.0.0) d y.0.1 n y.2 tight ts p.0 p.1 p.2 (λ z. absurd (clash _ z p.3)) p.4)
    ]

    deep_prefix : (tight : Bool) (o : PrefixOperator) (context : Context) (d : ℕ) (ts : Toks) (n : ℕ) → unary_at tight ts ≡ Some o → prefix_with k o context d ts ≡ Err (Depth n) → DeepE 0 tight context d ts n
    unfolding prefix_with
    deep_prefix tight o context d ts n un e =
        let y = bind_deep (k (operand context) (d + 1) (after ts)) (λ e. (prefix (till (here ts) (exp_span e.0)) o e.0, e.1)) n e in
        let r = dp (operand context) (d + 1) (after ts) n y in
        (p_prefix o r.0, r.1, r.2, (un, r.3, omega (arith, r.5)), omega (arith, r.4), omega arith)

    deep_consume : (tight : Bool) (context : Context) (d : ℕ) (ts : Toks) (n : ℕ) → is_word word.Consume ts ≡ true → consume_with most d ts ≡ Err (Depth n) → DeepE 0 tight context d ts n
    unfolding consume_with
    deep_consume tight context d ts n kw e = elim (lim (d + 1) most (path_with (after ts) >>= λ p. done (consumed (till (here ts) p.0.span) p.0, p.1)) (length (after ts)) n e) [
      | inr y ↦ (p_consumed, after ts, y.1, (word_kind word.Consume ts kw, refl), omega (arith, y.0), omega arith)
      | inl y ↦ absurd (path_no_depth (after ts) n (bind_deep (path_with (after ts)) (λ p. (consumed (till (here ts) p.0.span) p.0, p.1)) n y.1))
    ]

    deep_pre : (tight : Bool) (context : Context) (d : ℕ) (ts : Toks) (n : ℕ) → pre_with most k tight context d ts ≡ Err (Depth n) → DeepE 0 tight context d ts n
    unfolding pre_with
    deep_pre tight context d ts n e = elim (lim d most (on_some (unary_at tight ts) (λ o. prefix_with k o context d ts) (cond (is_word word.Consume ts) (consume_with most d ts) (post_with k tight context d ts))) (length ts) n e) [
      | inr y ↦ (gone, ts, y.1, refl, omega (arith, y.0), omega arith)
      | inl y ↦ elim (some_or (unary_at tight ts) (λ o. prefix_with k o context d ts) (cond (is_word word.Consume ts) (consume_with most d ts) (post_with k tight context d ts)) _ y.1) [
        | inl o ↦ deep_prefix tight o.0 context d ts n o.1 o.2
        | inr z ↦ elim (chosen (is_word word.Consume ts) (consume_with most d ts) (post_with k tight context d ts) _ z.1) [
          | inl u ↦ deep_consume tight context d ts n u.0 u.1
          | inr u ↦ deep_post tight context d ts n y.0 u.1
        ]
      ]
    ]

    wider : (a b : ℕ) (tight : Bool) (context : Context) (d : ℕ) (ts : Toks) (n : ℕ) → a ≤ b → DeepE a tight context d ts n → DeepE b tight context d ts n
    wider a b tight context d ts n le r = (r.0, r.1, r.2, r.3, r.4, omega (arith, le, r.5))

    deep_level : (j : ℕ) (context : Context) (d : ℕ) (ts : Toks) (n : ℕ) → level_with most k j context d ts ≡ Err (Depth n) → DeepE j false context d ts n
    unfolding level_with
    deep_level zero context d ts n e = deep_pre false context d ts n e
    deep_level (suc j) context d ts n e = elim (bind_err (level_with most k j context d ts) (λ e. k (operators_on j context e.0) d e.1) _ e) [
      | inl y ↦ wider j (suc j) false context d ts n (omega arith) (deep_level j context d ts n y)
      | inr y ↦ (let p = sound_level most levels some k snd j context d ts y.0 y.1 in dp (operators_on j context y.0.0) d y.0.1 n y.2 ts p.0 p.1 (left_of (chains (suc j)) _ j p.2))
    ]

    deep_next : (c : Bool) (j : ℕ) (context : Context) (d : ℕ) (e : Exp) (ts start : Toks) (n : ℕ) → chains (suc j) ≡ c → next_with k c j context d e ts ≡ Err (Depth n) → SpellsE e false context start ts → over most levels d (nest e) (levels_exp e) ≤ 0 → level_of e ≡ suc j → DeepE (suc j) false context d start n
    unfolding next_with
    deep_next true j context d e ts start n is r sp fit same = dp (operators_on j context e) d ts n r start sp fit (rw is (omega (arith, same)))
    deep_next false j context d e ts start n is r sp fit same = absurd (no_ok _ n r)

    deep_operator : (j : ℕ) (context : Context) (a : Exp) (d : ℕ) (ts : Toks) (o : BinaryOperator) (n : ℕ) → operator_at ts ≡ Some o → operator_with most k j context a d ts o ≡ Err (Depth n) → Deep (operators_on j context a) d ts n
    unfolding operator_with
    deep_operator j context a d ts o n is e start sp fit left = elim (chosen (eqb (level o) (suc j)) _ _ _ e) [
      | inr y ↦ absurd (no_ok _ n y.1)
      | inl y ↦ (
          let same = eqb-true (level o) (suc j) y.0 in
          let more = λ (b : Exp × Toks). next_with k (chains (suc j)) j context d (binary (till (exp_span a) (exp_span b.0)) o (here ts) a b.0) b.1 in
          elim (lim (d + nest a) most (level_with most k j context (d + 1) (after ts) >>= more) (length (after ts)) n y.1) [
            | inr z ↦ (p_binary o a gone, after ts, z.1, (ts, sp, rw same left, is, refl, omega (arith, same)), omega (arith, z.0), omega (arith, same))
            | inl z ↦ elim (bind_err (level_with most k j context (d + 1) (after ts)) more _ z.1) [
              | inl v ↦ (let r = deep_level j context (d + 1) (after ts) n v in (p_binary o a r.0, r.1, r.2, (ts, sp, rw same left, is, r.3, omega (arith, r.5, same)), omega (arith, r.4), omega (arith, same)))
              | inr v ↦ (let b = sound_level most levels some k snd j context (d + 1) (after ts) v.0 v.1 in
                  deep_next (chains (suc j)) j context d (binary (till (exp_span a) (exp_span v.0.0)) o (here ts) a v.0.0) v.0.1 start n refl v.2 (ts, sp, rw same left, is, refl, b.0, omega (arith, b.2, same), refl) (omega (arith, z.0, b.1)) same)
            ]
          ])
    ]

    deep_operators : (j : ℕ) (context : Context) (a : Exp) (d : ℕ) (ts : Toks) (n : ℕ) → operators_with most k j context a d ts ≡ Err (Depth n) → Deep (operators_on j context a) d ts n
    unfolding operators_with
    deep_operators j context a d ts n e start sp fit left = elim (some_or (operator_at ts) _ _ _ e) [
      | inl y ↦ deep_operator j context a d ts y.0 n y.1 y.2 start sp fit left
      | inr y ↦ absurd (no_ok _ n y.1)
    ]

    deep_branches : (context : Context) (d : ℕ) (c : Exp) (start ts : Toks) (n : ℕ) → kind_at ts ≡ Some (kind.Mark mark.Question) → SpellsE c false context start ts → level_of c < 6 → branches_with k context d c (after ts) ≡ Err (Depth n) → DeepE 6 false context d start n
    unfolding branches_with
    deep_branches context d c start ts n q sp low e =
        elim (bind_err (k (expression context) (d + 1) (after ts)) (λ a. cond (is_mark mark.Colon a.1) (k (expression context) (d + 1) (after a.1) >>= λ b. done (choice (till (exp_span c) (exp_span b.0)) c a.0 b.0, b.1)) (syntax_at a.1)) _ e) [
          | inl y ↦ (let r = dp (expression context) (d + 1) (after ts) n y in (p_first c r.0, r.1, r.2, (ts, sp, low, q, r.3), omega (arith, r.4), omega arith))
          | inr y ↦ (
              let sa = snd (expression context) (d + 1) (after ts) y.0 y.1 in
              let z = syn (is_mark mark.Colon y.0.1) (k (expression context) (d + 1) (after y.0.1) >>= λ b. done (choice (till (exp_span c) (exp_span b.0)) c y.0.0 b.0, b.1)) _ n y.2 in
              let r = dp (expression context) (d + 1) (after y.0.1) n (bind_deep (k (expression context) (d + 1) (after y.0.1)) (λ b. (choice (till (exp_span c) (exp_span b.0)) c y.0.0 b.0, b.1)) n z.1) in
              (p_second c y.0.0 r.0, r.1, r.2, (ts, y.0.1, sp, low, q, sa.0, mark_kind mark.Colon y.0.1 z.0, r.3), omega (arith, r.4), omega arith))
        ]

    deep_expression : (context : Context) (d : ℕ) (ts : Toks) (n : ℕ) → expression_with most k context d ts ≡ Err (Depth n) → DeepE 6 false context d ts n
    unfolding expression_with choice_with
    deep_expression context d ts n e =
        elim (bind_err (level_with most k 5 context d ts) (λ c. cond (is_mark mark.Question c.1) (cond (ltb (d + nest c.0) most) (branches_with k context d c.0 (after c.1)) (depth_at (after c.1))) (Ok (c.0, c.1))) _ e) [
          | inl y ↦ wider 5 6 false context d ts n (omega arith) (deep_level 5 context d ts n y)
          | inr y ↦ (let p = sound_level most levels some k snd 5 context d ts y.0 y.1 in elim (chosen (is_mark mark.Question y.0.1) (cond (ltb (d + nest y.0.0) most) (branches_with k context d y.0.0 (after y.0.1)) (depth_at (after y.0.1))) (Ok (y.0.0, y.0.1)) _ y.2) [
            | inr z ↦ absurd (no_ok _ n z.1)
            | inl z ↦ elim (lim (d + nest y.0.0) most (branches_with k context d y.0.0 (after y.0.1)) (length (after y.0.1)) n z.1) [
              | inr u ↦ (p_first y.0.0 gone, after y.0.1, u.1, (y.0.1, p.0, omega (arith, p.2), mark_kind mark.Question y.0.1 z.0, refl), omega (arith, u.0), omega arith)
              | inl u ↦ deep_branches context d y.0.0 ts y.0.1 n (mark_kind mark.Question y.0.1 z.0) p.0 (omega (arith, p.2)) u.1
            ]
          ])
        ]

    -- ---- closures, arguments and calls

    deep_closure : (d : ℕ) (ts : Toks) (n : ℕ) → is_mark mark.OpenBrace ts ≡ true → closure_with most k d ts ≡ Err (Depth n) → DeepK d ts n
    unfolding closure_with
    deep_closure d ts n lb e =
        let h = closure_head (after ts) in
        elim (lim d most (k (statements_on []) (d + 1) h.1 >>= λ ss. done (closure (till (here ts) (here ss.1)) h.0 (stms_of ss.0), after ss.1)) (length ts) n e) [
          | inr y ↦ inl (y.1, y.0)
          | inl y ↦ (
              let r = dp (statements_on []) (d + 1) h.1 n (bind_deep (k (statements_on []) (d + 1) h.1) (λ ss. (closure (till (here ts) (here ss.1)) h.0 (stms_of ss.0), after ss.1)) n y.1) in
              inr (p_closure h.0 r.0, r.1, r.2, (mark_kind mark.OpenBrace ts lb, h.1, refl, r.3), omega (arith, r.4)))
        ]

    given_of : (d : ℕ) (ts : Toks) (n : ℕ) → DeepK d ts n → DeepG d ts n
    given_of d ts n (inl y) = (p_value gone, ts, y.0, refl, omega (arith, y.1))
    given_of d ts n (inr r) = (p_closing r.0, r.1, r.2, r.3, r.4)

    deep_given : (d : ℕ) (ts : Toks) (n : ℕ) → given_with most k d ts ≡ Err (Depth n) → DeepG d ts n
    unfolding given_with address_with
    deep_given d ts n e = elim (chosen (is_mark mark.Ampersand ts) (cond (ltb d most) (path_with (after ts) >>= λ p. done (address (till (here ts) p.0.span) p.0, p.1)) (depth_at (after ts))) (cond (is_mark mark.OpenBrace ts) (closure_with most k d ts >>= λ c. done (closing c.0, c.1)) (expression_with most k Inside d ts >>= λ e. done (value e.0, e.1))) _ e) [
      | inl y ↦ elim (lim d most (path_with (after ts) >>= λ p. done (address (till (here ts) p.0.span) p.0, p.1)) (length (after ts)) n y.1) [
        | inr z ↦ (p_address, after ts, z.1, (mark_kind mark.Ampersand ts y.0, refl), omega (arith, z.0))
        | inl z ↦ absurd (path_no_depth (after ts) n (bind_deep (path_with (after ts)) (λ p. (address (till (here ts) p.0.span) p.0, p.1)) n z.1))
      ]
      | inr y ↦ elim (chosen (is_mark mark.OpenBrace ts) (closure_with most k d ts >>= λ c. done (closing c.0, c.1)) (expression_with most k Inside d ts >>= λ e. done (value e.0, e.1)) _ y.1) [
        | inl z ↦ given_of d ts n (deep_closure d ts n z.0 (bind_deep (closure_with most k d ts) (λ c. (closing c.0, c.1)) n z.1))
        | inr z ↦ (let r = deep_expression Inside d ts n (bind_deep (expression_with most k Inside d ts) (λ e. (value e.0, e.1)) n z.1) in (p_value r.0, r.1, r.2, r.3, r.4))
      ]
    ]

    deep_argument : (d : ℕ) (ts : Toks) (n : ℕ) → argument_with most k d ts ≡ Err (Depth n) → DeepA d ts n
    unfolding argument_with
    deep_argument d ts n e = elim (some_or (label_at ts) (λ l. given_with most k (d + 1) (after (after ts)) >>= λ g. done ((Some l, g.0), g.1)) (given_with most k (d + 1) ts >>= λ g. done ((None, g.0), g.1)) _ e) [
      | inl l ↦ (
          let r = deep_given (d + 1) (after (after ts)) n (bind_deep (given_with most k (d + 1) (after (after ts))) (λ g. ((Some l.0, g.0), g.1)) n l.2) in
          (p_arg (Some l.0) r.0, r.1, r.2, (after (after ts), (l.1, refl), r.3), omega (arith, r.4)))
      | inr l ↦ (
          let r = deep_given (d + 1) ts n (bind_deep (given_with most k (d + 1) ts) (λ g. ((None, g.0), g.1)) n l.1) in
          (p_arg None r.0, r.1, r.2, (ts, (l.0, refl), r.3), omega (arith, r.4)))
    ]

    deep_arguments : (xs : List Arg) (d : ℕ) (ts : Toks) (n : ℕ) → arguments_with most k xs d ts ≡ Err (Depth n) → DeepA d ts n
    unfolding arguments_with
    deep_arguments xs d ts n e = elim (bind_err (argument_with most k d ts) (λ a. cond (is_mark mark.Comma a.1) (k (arguments_on (xs ++ a.0 ∷ [])) d (after a.1)) (done (xs ++ a.0 ∷ [], a.1))) _ e) [
      | inl y ↦ deep_argument d ts n y
      | inr y ↦ (let p = sound_argument most levels some k snd d ts y.0 y.1 in elim (chosen (is_mark mark.Comma y.0.1) _ _ _ y.2) [
        | inl z ↦ (let r = dp (arguments_on (xs ++ y.0.0 ∷ [])) d (after y.0.1) n z.1 in (p_then y.0.0.0 y.0.0.1 r.0, r.1, r.2, (p.0, y.0.1, p.1, p.2, mark_kind mark.Comma y.0.1 z.0, r.3), omega (arith, r.4)))
        | inr z ↦ absurd (no_ok _ n z.1)
      ])
    ]

    closing_of : (f : Exp) (es : Args) (tight : Bool) (context : Context) (d : ℕ) (start from ts : Toks) (n : ℕ) → SpellsE f tight context start from → is_post f ≡ true → opens context from ≡ true → SpellsA es (after from) ts → kind_at ts ≡ Some (kind.Mark mark.CloseParen) → closes context (after ts) ≡ true → DeepK (d + 1) (after ts) n → DeepE 0 tight context d start n
    closing_of f es tight context d start from ts n sp is lp sps close lb (inl y) = (p_unclosed f es, after ts, y.0, (from, ts, sp, is, lp, sps, close, lb, refl), omega (arith, y.1), omega arith)
    closing_of f es tight context d start from ts n sp is lp sps close lb (inr r) = (p_call_closing f es r.0, r.1, r.2, (from, ts, sp, is, lp, sps, close, lb, r.3), omega (arith, r.4), omega arith)

    deep_called : (tight : Bool) (context : Context) (f : Exp) (d : ℕ) (xs : List Arg) (ts start from : Toks) (es : Args) (n : ℕ) → called_with most k context f d xs ts ≡ Err (Depth n) → xs ≡ args_in es
        → SpellsE f tight context start from → is_post f ≡ true → opens context from ≡ true → SpellsA es (after from) ts → d + nest f < most → levels_exp f ≤ levels → over most levels d (suc (nest_args es)) (levels_args es) ≤ 0 → DeepE 0 tight context d start n
    unfolding called_with
    deep_called tight context f d xs ts start from es n e same sp is lp sps lt few lts =
        let args : args_of xs ≡ es = args_same xs es same in
        let q = syn (is_mark mark.CloseParen ts) (cond (closes context (after ts)) (closure_with most k (d + 1) (after ts) >>= λ c. k (calls_on context (call_closing (till (exp_span f) (clo_span c.0)) f (args_of xs) c.0)) d c.1) (k (calls_on context (call (till (exp_span f) (here ts)) f (args_of xs))) d (after ts))) (length ts) n e in
        let close = mark_kind mark.CloseParen ts q.0 in
        elim (chosen (closes context (after ts)) _ _ _ q.1) [
          | inl y ↦ (
              let y1 = rw args at y.1 in
              let lb = at_mark mark.OpenBrace (after ts) _ (closes_kind context (after ts) y.0) in
              elim (bind_err (closure_with most k (d + 1) (after ts)) (λ c. k (calls_on context (call_closing (till (exp_span f) (clo_span c.0)) f es c.0)) d c.1) _ y1) [
                | inl z ↦ closing_of f es tight context d start from ts n sp is lp sps close y.0 (deep_closure (d + 1) (after ts) n lb z)
                | inr z ↦ (let p = sound_closure most levels some k snd (d + 1) (after ts) z.0 lb z.1 in
                    dp (calls_on context (call_closing (till (exp_span f) (clo_span z.0.0)) f es z.0.0)) d z.0.1 n z.2 tight start (from, ts, sp, is, lp, sps, close, y.0, p.0, refl) (omega (arith, few, p.1)) refl (λ u. absurd cc) (λ u. absurd cc))
              ])
          | inr y ↦ dp (calls_on context (call (till (exp_span f) (here ts)) f es)) d (after ts) n (rw args at y.1) tight start (from, ts, sp, is, lp, sps, close, refl, refl) (omega arith) refl (λ u. y.0) (λ u. absurd cc)
        ]

    deep_call : (tight : Bool) (context : Context) (f : Exp) (d : ℕ) (ts start : Toks) (n : ℕ) → call_with most k context f d ts ≡ Err (Depth n) → opens context ts ≡ true → SpellsE f tight context start ts → is_post f ≡ true → levels_exp f ≤ levels → DeepE 0 tight context d start n
    unfolding call_with all_arguments_with
    deep_call tight context f d ts start n e lp sp is few = elim (lim (d + nest f) most (all_arguments_with most k d (after ts) >>= λ xs. called_with most k context f d xs.0 xs.1) (length (after ts)) n e) [
      | inr z ↦ (p_call f no_more, after ts, z.1, (ts, sp, is, lp, refl), omega (arith, z.0), omega arith)
      | inl z ↦ elim (bind_err (all_arguments_with most k d (after ts)) (λ xs. called_with most k context f d xs.0 xs.1) _ z.1) [
        | inl v ↦ elim (chosen (is_mark mark.CloseParen (after ts)) _ _ _ v) [
          | inl u ↦ absurd (no_ok _ n u.1)
          | inr u ↦ (let r = deep_arguments [] d (after ts) n u.1 in (p_call f r.0, r.1, r.2, (ts, sp, is, lp, r.3), omega (arith, r.4), omega arith))
        ]
        | inr v ↦ (let p = sound_all_arguments most levels some k snd d (after ts) v.0 (omega (arith, z.0)) v.1 in
            deep_called tight context f d v.0.0 v.0.1 start ts p.0 n v.2 p.1 sp is lp p.2 z.0 few p.3)
      ]
    ]

    -- the closure has a level wherever the callee has one
    closure_of : (f : Exp) (tight : Bool) (context : Context) (d : ℕ) (start ts : Toks) (n : ℕ) → SpellsE f tight context start ts → is_post f ≡ true → is_call f ≡ false → closes context ts ≡ true → d + nest f < most → DeepK (d + 1) ts n → DeepE 0 tight context d start n
    closure_of f tight context d start ts n sp is isnt lb lt (inl y) = absurd (omega (arith, lt, y.1, nest_positive f))
    closure_of f tight context d start ts n sp is isnt lb lt (inr r) = (p_call_closure f r.0, r.1, r.2, (ts, sp, is, isnt, lb, r.3), omega (arith, r.4), omega arith)

    deep_closing : (tight : Bool) (context : Context) (f : Exp) (d : ℕ) (ts start : Toks) (n : ℕ) → closing_with most k context f d ts ≡ Err (Depth n) → closes context ts ≡ true → SpellsE f tight context start ts → is_post f ≡ true → levels_exp f ≤ levels → is_call f ≡ false → DeepE 0 tight context d start n
    unfolding closing_with
    deep_closing tight context f d ts start n e c sp is few isnt =
        let lb = at_mark mark.OpenBrace ts _ (closes_kind context ts c) in
        let more = λ (c : Clo × Toks). k (calls_on context (call_closure (till (exp_span f) (clo_span c.0)) f c.0)) d c.1 in
        elim (lim (d + nest f) most (closure_with most k (d + 1) ts >>= more) (length (after ts)) n e) [
          | inr z ↦ (p_call_closure f p_opened, after ts, z.1, (ts, sp, is, isnt, c, (closes_kind context ts c, refl)), omega (arith, z.0), omega arith)
          | inl z ↦ elim (bind_err (closure_with most k (d + 1) ts) more _ z.1) [
            | inl v ↦ closure_of f tight context d start ts n sp is isnt c z.0 (deep_closure (d + 1) ts n lb v)
            | inr v ↦ (let p = sound_closure most levels some k snd (d + 1) ts v.0 lb v.1 in
                dp (calls_on context (call_closure (till (exp_span f) (clo_span v.0.0)) f v.0.0)) d v.0.1 n v.2 tight start (ts, sp, is, isnt, c, p.0, refl) (omega (arith, z.0, few, p.1)) refl (λ u. absurd cc) (λ u. absurd cc))
          ]
        ]

    deep_member : (tight : Bool) (context : Context) (f : Exp) (d : ℕ) (ts start : Toks) (n : ℕ) → member_with most k context f d ts ≡ Err (Depth n) → is_mark mark.Dot ts ≡ true → SpellsE f tight context start ts → is_post f ≡ true → levels_exp f ≤ levels → is_path f ≡ false → DeepE 0 tight context d start n
    unfolding member_with
    deep_member tight context f d ts start n e dot sp is few isnt =
        let more = λ (m : Name). k (calls_on context (member (till (exp_span f) (here (after ts))) f m)) d (after (after ts)) in
        elim (lim (d + nest f) most (on_some (name_at (after ts)) more (syntax_at (after ts))) (length (after ts)) n e) [
          | inr z ↦ (p_member f, after ts, z.1, (ts, sp, is, isnt, mark_kind mark.Dot ts dot, refl), omega (arith, z.0), omega arith)
          | inl z ↦ (let s = some_syn (name_at (after ts)) more (length (after ts)) n z.1 in
              dp (calls_on context (member (till (exp_span f) (here (after ts))) f s.0)) d (after (after ts)) n s.2 tight start (ts, sp, is, isnt, (mark_kind mark.Dot ts dot, s.1), refl, refl) (omega (arith, z.0, few)) refl (λ u. absurd cc) (λ u. absurd cc))
        ]

    deep_calls : (context : Context) (f : Exp) (d : ℕ) (ts : Toks) (n : ℕ) → calls_with most k context f d ts ≡ Err (Depth n) → Deep (calls_on context f) d ts n
    unfolding calls_with
    deep_calls context f d ts n e tight start sp fit is closed pathed = elim (chosen (opens context ts) _ _ _ e) [
      | inl y ↦ deep_call tight context f d ts start n y.1 y.0 sp is (omega (arith, fit))
      | inr y ↦ elim (chosen (closes context ts) _ _ _ y.1) [
        | inl z ↦ deep_closing tight context f d ts start n z.1 z.0 sp is (omega (arith, fit)) (never (is_call f) (closes context ts) closed z.0)
        | inr z ↦ elim (chosen (is_mark mark.Dot ts) _ _ _ z.1) [
          | inl u ↦ deep_member tight context f d ts start n u.1 u.0 sp is (omega (arith, fit)) (never (is_path f) (is_mark mark.Dot ts) pathed u.0)
          | inr u ↦ absurd (no_ok _ n u.1)
        ]
      ]
    ]

    -- ---- statements

    deep_let : (d : ℕ) (ts : Toks) (w : Keyword) (n : ℕ) → keyword_at ts ≡ Some w → let_with k d ts w ≡ Err (Depth n) → DeepS d ts n
    unfolding let_with bound_with
    deep_let d ts w n kw e =
        let m = some_syn (binder_at (after ts)) (λ m. typed_with (after (after ts)) >>= λ t. bound_with k d ts w m t.0 t.1) (length (after ts)) n e in
        elim (bind_err (typed_with (after (after ts))) (λ t. bound_with k d ts w m.0 t.0 t.1) _ m.2) [
          | inl y ↦ absurd (typed_no_depth (after (after ts)) n y)
          | inr y ↦ (
              let ty = typed_sound (after (after ts)) y.0 y.1 in
              elim (chosen (assigns y.0.1) (k (expression Plain) (d + 1) (after y.0.1) >>= λ e. done (bound (till (here ts) (exp_span e.0)) w m.0 y.0.0 e.0, e.1)) (done (declare (till (here ts) (typed_end (here (after ts)) y.0.0)) w m.0 y.0.0, y.0.1)) _ y.2) [
                | inr z ↦ absurd (no_ok _ n z.1)
                | inl z ↦ (
                    let r = dp (expression Plain) (d + 1) (after y.0.1) n (bind_deep (k (expression Plain) (d + 1) (after y.0.1)) (λ e. (bound (till (here ts) (exp_span e.0)) w m.0 y.0.0 e.0, e.1)) n z.1) in
                    (p_let w m.0 y.0.0 r.0, r.1, r.2, (kw, m.1, y.0.1, ty, z.0, r.3), omega (arith, r.4)))
              ])
        ]

    deep_ignore : (d : ℕ) (ts : Toks) (n : ℕ) → is_mark mark.Underscore ts ≡ true → ignore_with k d ts ≡ Err (Depth n) → DeepS d ts n
    unfolding ignore_with
    deep_ignore d ts n u e =
        let q = syn (is_mark mark.Assign (after ts)) (k (expression Plain) (d + 1) (after (after ts)) >>= λ e. done (ignore (till (here ts) (exp_span e.0)) None e.0, e.1)) _ n e in
        let r = dp (expression Plain) (d + 1) (after (after ts)) n (bind_deep (k (expression Plain) (d + 1) (after (after ts))) (λ e. (ignore (till (here ts) (exp_span e.0)) None e.0, e.1)) n q.1) in
        (p_ignore r.0, r.1, r.2, (mark_kind mark.Underscore ts u, mark_kind mark.Assign (after ts) q.0, r.3), omega (arith, r.4))

    deep_while : (d : ℕ) (ts : Toks) (n : ℕ) → is_word word.While ts ≡ true → while_with k d ts ≡ Err (Depth n) → DeepS d ts n
    unfolding while_with
    deep_while d ts n kw e = elim (bind_err (k (expression Condition) (d + 1) (after ts)) (λ c. k body (d + 1) c.1 >>= λ b. done (loop_while (till (here ts) (blk_span b.0)) c.0 b.0, b.1)) _ e) [
      | inl y ↦ (let r = dp (expression Condition) (d + 1) (after ts) n y in (p_while r.0, r.1, r.2, (word_kind word.While ts kw, r.3), omega (arith, r.4)))
      | inr y ↦ (
          let p = snd (expression Condition) (d + 1) (after ts) y.0 y.1 in
          let r = dp body (d + 1) y.0.1 n (bind_deep (k body (d + 1) y.0.1) (λ b. (loop_while (till (here ts) (blk_span b.0)) y.0.0 b.0, b.1)) n y.2) in
          (p_while_do y.0.0 r.0, r.1, r.2, (word_kind word.While ts kw, y.0.1, p.0, r.3), omega (arith, r.4)))
    ]

    deep_repeat : (d : ℕ) (ts : Toks) (n : ℕ) → is_word word.Repeat ts ≡ true → repeat_with k d ts ≡ Err (Depth n) → DeepS d ts n
    unfolding repeat_with
    deep_repeat d ts n kw e = elim (bind_err (k body (d + 1) (after ts)) (λ b. cond (is_word word.While b.1) (k (expression Condition) (d + 1) (after b.1) >>= λ c. done (loop_repeat (till (here ts) (exp_span c.0)) b.0 c.0, c.1)) (syntax_at b.1)) _ e) [
      | inl y ↦ (let r = dp body (d + 1) (after ts) n y in (p_repeat r.0, r.1, r.2, (word_kind word.Repeat ts kw, r.3), omega (arith, r.4)))
      | inr y ↦ (
          let p = snd body (d + 1) (after ts) y.0 y.1 in
          let q = syn (is_word word.While y.0.1) (k (expression Condition) (d + 1) (after y.0.1) >>= λ c. done (loop_repeat (till (here ts) (exp_span c.0)) y.0.0 c.0, c.1)) _ n y.2 in
          let r = dp (expression Condition) (d + 1) (after y.0.1) n (bind_deep (k (expression Condition) (d + 1) (after y.0.1)) (λ c. (loop_repeat (till (here ts) (exp_span c.0)) y.0.0 c.0, c.1)) n q.1) in
          (p_repeat_while y.0.0 r.0, r.1, r.2, (word_kind word.Repeat ts kw, y.0.1, p.0, word_kind word.While y.0.1 q.0, r.3), omega (arith, r.4)))
    ]

    deep_upper : (d : ℕ) (ts : Toks) (m : Option Name) (low : Exp) (o : RangeOperator) (us : Toks) (n : ℕ) → kind_at ts ≡ Some (kind.Word word.For) → binder_at (after ts) ≡ Some m → kind_at (after (after ts)) ≡ Some (kind.Word word.In)
        → SpellsE low false Condition (after (after (after ts))) us → range_at us ≡ Some o → upper_with k d ts m low o us ≡ Err (Depth n) → DeepS d ts n
    unfolding upper_with
    deep_upper d ts m low o us n kw nm within spl op e = elim (bind_err (k (expression Condition) (d + 1) (after us)) (λ high. k body (d + 1) high.1 >>= λ b. done (loop_for (till (here ts) (blk_span b.0)) m low o (here us) high.0 b.0, b.1)) _ e) [
      | inl y ↦ (let r = dp (expression Condition) (d + 1) (after us) n y in (p_to m low o r.0, r.1, r.2, (kw, nm, within, us, spl, op, r.3), omega (arith, r.4)))
      | inr y ↦ (
          let p = snd (expression Condition) (d + 1) (after us) y.0 y.1 in
          let r = dp body (d + 1) y.0.1 n (bind_deep (k body (d + 1) y.0.1) (λ b. (loop_for (till (here ts) (blk_span b.0)) m low o (here us) y.0.0 b.0, b.1)) n y.2) in
          (p_for m low o y.0.0 r.0, r.1, r.2, (kw, nm, within, us, y.0.1, spl, op, p.0, r.3), omega (arith, r.4)))
    ]

    deep_for : (d : ℕ) (ts : Toks) (n : ℕ) → is_word word.For ts ≡ true → for_with k d ts ≡ Err (Depth n) → DeepS d ts n
    unfolding for_with lower_with
    deep_for d ts n kw e =
        let us = after (after (after ts)) in
        let m = some_syn (binder_at (after ts)) (λ m. cond (is_word word.In (after (after ts))) (k (expression Condition) (d + 1) us >>= λ low. on_some (range_at low.1) (λ o. upper_with k d ts m low.0 o low.1) (syntax_at low.1)) (syntax_at (after (after ts)))) (length (after ts)) n e in
        let q = syn (is_word word.In (after (after ts))) (k (expression Condition) (d + 1) us >>= λ low. on_some (range_at low.1) (λ o. upper_with k d ts m.0 low.0 o low.1) (syntax_at low.1)) _ n m.2 in
        let within = word_kind word.In (after (after ts)) q.0 in
        elim (bind_err (k (expression Condition) (d + 1) us) (λ low. on_some (range_at low.1) (λ o. upper_with k d ts m.0 low.0 o low.1) (syntax_at low.1)) _ q.1) [
          | inl y ↦ (let r = dp (expression Condition) (d + 1) us n y in (p_from m.0 r.0, r.1, r.2, (word_kind word.For ts kw, m.1, within, r.3), omega (arith, r.4)))
          | inr y ↦ (
              let p = snd (expression Condition) (d + 1) us y.0 y.1 in
              let o = some_syn (range_at y.0.1) (λ o. upper_with k d ts m.0 y.0.0 o y.0.1) (length y.0.1) n y.2 in
              deep_upper d ts m.0 y.0.0 o.0 y.0.1 n (word_kind word.For ts kw) m.1 within p.0 o.1 o.2)
        ]

    deep_else : (d : ℕ) (ts mid : Toks) (c : Exp) (b : Blk) (us : Toks) (n : ℕ) → kind_at ts ≡ Some (kind.Word word.If) → SpellsE c false Condition (after ts) mid → SpellsB b mid us → else_with k d ts c b us ≡ Err (Depth n) → DeepS d ts n
    unfolding else_with
    deep_else d ts mid c b us n kw spc spb e = elim (chosen (is_word word.Else us) _ _ _ e) [
      | inr y ↦ absurd (no_ok _ n y.1)
      | inl y ↦ elim (chosen (is_word word.If (after us)) _ _ _ y.1) [
        | inl z ↦ (
            let r = dp statement (d + 1) (after us) n (bind_deep (k statement (d + 1) (after us)) (λ s. (else_if (till (here ts) (stm_span s.0)) c b s.0, s.1)) n z.1) in
            (p_else_if c b r.0, r.1, r.2, (kw, mid, us, spc, spb, word_kind word.Else us y.0, r.3), omega (arith, r.4)))
        | inr z ↦ (
            let r = dp body (d + 1) (after us) n (bind_deep (k body (d + 1) (after us)) (λ s. (if_else (till (here ts) (blk_span s.0)) c b s.0, s.1)) n z.1) in
            (p_if_else c b r.0, r.1, r.2, (kw, mid, us, spc, spb, word_kind word.Else us y.0, r.3), omega (arith, r.4)))
      ]
    ]

    deep_if : (d : ℕ) (ts : Toks) (n : ℕ) → is_word word.If ts ≡ true → if_with k d ts ≡ Err (Depth n) → DeepS d ts n
    unfolding if_with
    deep_if d ts n kw e = elim (bind_err (k (expression Condition) (d + 1) (after ts)) (λ c. k body (d + 1) c.1 >>= λ b. else_with k d ts c.0 b.0 b.1) _ e) [
      | inl y ↦ (let r = dp (expression Condition) (d + 1) (after ts) n y in (p_if r.0, r.1, r.2, (word_kind word.If ts kw, r.3), omega (arith, r.4)))
      | inr y ↦ (let p = snd (expression Condition) (d + 1) (after ts) y.0 y.1 in
          elim (bind_err (k body (d + 1) y.0.1) (λ b. else_with k d ts y.0.0 b.0 b.1) _ y.2) [
            | inl z ↦ (let r = dp body (d + 1) y.0.1 n z in (p_if_then y.0.0 r.0, r.1, r.2, (word_kind word.If ts kw, y.0.1, p.0, r.3), omega (arith, r.4)))
            | inr z ↦ (let q = snd body (d + 1) y.0.1 z.0 z.1 in deep_else d ts y.0.1 y.0.0 z.0.0 z.0.1 n (word_kind word.If ts kw) p.0 q.0 z.2)
          ])
    ]

    deep_switch : (d : ℕ) (ts : Toks) (n : ℕ) → is_word word.Switch ts ≡ true → switch_with k d ts ≡ Err (Depth n) → DeepS d ts n
    unfolding switch_with
    deep_switch d ts n kw e = elim (bind_err (k (expression Condition) (d + 1) (after ts)) (λ e. cond (is_mark mark.OpenBrace e.1) (k (clauses_on []) (d + 1) (after e.1) >>= λ cs. done (switch (till (here ts) (here cs.1)) e.0 (clauses_of cs.0), after cs.1)) (syntax_at e.1)) _ e) [
      | inl y ↦ (let r = dp (expression Condition) (d + 1) (after ts) n y in (p_subject r.0, r.1, r.2, (word_kind word.Switch ts kw, r.3), omega (arith, r.4)))
      | inr y ↦ (
          let p = snd (expression Condition) (d + 1) (after ts) y.0 y.1 in
          let q = syn (is_mark mark.OpenBrace y.0.1) (k (clauses_on []) (d + 1) (after y.0.1) >>= λ cs. done (switch (till (here ts) (here cs.1)) y.0.0 (clauses_of cs.0), after cs.1)) _ n y.2 in
          let r = dp (clauses_on []) (d + 1) (after y.0.1) n (bind_deep (k (clauses_on []) (d + 1) (after y.0.1)) (λ cs. (switch (till (here ts) (here cs.1)) y.0.0 (clauses_of cs.0), after cs.1)) n q.1) in
          (p_switch y.0.0 r.0, r.1, r.2, (word_kind word.Switch ts kw, y.0.1, p.0, mark_kind mark.OpenBrace y.0.1 q.0, r.3), omega (arith, r.4)))
    ]

    deep_return : (d : ℕ) (ts : Toks) (n : ℕ) → is_word word.Return ts ≡ true → return_with k d ts ≡ Err (Depth n) → DeepS d ts n
    unfolding return_with
    deep_return d ts n kw e = elim (chosen (is_bare (after ts)) _ _ _ e) [
      | inl y ↦ absurd (no_ok _ n y.1)
      | inr y ↦ (
          let r = dp (expression Plain) (d + 1) (after ts) n (bind_deep (k (expression Plain) (d + 1) (after ts)) (λ e. (return_value (till (here ts) (exp_span e.0)) e.0, e.1)) n y.1) in
          (p_return r.0, r.1, r.2, (word_kind word.Return ts kw, y.0, r.3), omega (arith, r.4)))
    ]

    deep_assign : (d : ℕ) (ts us : Toks) (x : Exp) (o : AssignOperator) (n : ℕ) → SpellsE x false Plain ts us → assign_at us ≡ Some o → assign_with k d x us o ≡ Err (Depth n) → DeepS d ts n
    unfolding assign_with
    deep_assign d ts us x o n sp op e = elim (some_or (path_in x) (λ p. k (expression Plain) (d + 1) (after us) >>= λ y. done (assign (till p.span (exp_span y.0)) p o (here us) y.0, y.1)) (done (evaluate x, us)) _ e) [
      | inr y ↦ absurd (no_ok _ n y.1)
      | inl p ↦ (
          let spp : SpellsPath p.0 ts us = rw (path_in_is x p.0 p.1) at sp in
          let r = dp (expression Plain) (d + 1) (after us) n (bind_deep (k (expression Plain) (d + 1) (after us)) (λ y. (assign (till p.0.span (exp_span y.0)) p.0 o (here us) y.0, y.1)) n p.2) in
          (p_assign p.0 o r.0, r.1, r.2, (us, spp, op, r.3), omega (arith, r.4)))
    ]

    deep_evaluate : (d : ℕ) (ts : Toks) (n : ℕ) → evaluate_with most k d ts ≡ Err (Depth n) → DeepS d ts n
    unfolding evaluate_with
    deep_evaluate d ts n e = elim (bind_err (expression_with most k Plain (d + 1) ts) (λ c. on_some (assign_at c.1) (assign_with k d c.0 c.1) (done (evaluate c.0, c.1))) _ e) [
      | inl y ↦ (let r = deep_expression Plain (d + 1) ts n y in (p_evaluate r.0, r.1, r.2, r.3, omega (arith, r.4)))
      | inr y ↦ (let p = sound_expression most levels some k snd Plain (d + 1) ts y.0 y.1 in elim (some_or (assign_at y.0.1) (assign_with k d y.0.0 y.0.1) (done (evaluate y.0.0, y.0.1)) _ y.2) [
        | inr z ↦ absurd (no_ok _ n z.1)
        | inl o ↦ deep_assign d ts y.0.1 y.0.0 o.0 n p.0 o.1 o.2
      ])
    ]

    deep_simple : (d : ℕ) (ts : Toks) (n : ℕ) → simple_with most k d ts ≡ Err (Depth n) → DeepS d ts n
    unfolding simple_with discard_with
    deep_simple d ts n e = elim (chosen (is_mark mark.Underscore ts) _ _ _ e) [
      | inl y ↦ deep_ignore d ts n y.0 y.1
      | inr y ↦ elim (chosen (is_word word.Discard ts) _ _ _ y.1) [
        | inl z ↦ absurd (let q = syn (is_word word.SelfValue (after ts)) (done (discard_self (till (here ts) (here (after ts))), after (after ts))) _ n z.1 in no_ok _ n q.1)
        | inr z ↦ elim (chosen (is_word word.Break ts) _ _ _ z.1) [
          | inl u ↦ absurd (no_ok _ n u.1)
          | inr u ↦ elim (chosen (is_word word.Continue ts) _ _ _ u.1) [
            | inl v ↦ absurd (no_ok _ n v.1)
            | inr v ↦ elim (chosen (is_word word.Return ts) _ _ _ v.1) [
              | inl w ↦ deep_return d ts n w.0 w.1
              | inr w ↦ deep_evaluate d ts n w.1
            ]
          ]
        ]
      ]
    ]

    deep_statement : (d : ℕ) (ts : Toks) (n : ℕ) → statement_with most k d ts ≡ Err (Depth n) → DeepS d ts n
    unfolding statement_with
    deep_statement d ts n e = elim (lim d most (on_some (keyword_at ts) (let_with k d ts) (cond (is_word word.If ts) (if_with k d ts) (cond (is_word word.While ts) (while_with k d ts) (cond (is_word word.Repeat ts) (repeat_with k d ts) (cond (is_word word.For ts) (for_with k d ts) (cond (is_word word.Switch ts) (switch_with k d ts) (simple_with most k d ts))))))) (length ts) n e) [
      | inr y ↦ (gone_stm, ts, y.1, refl, omega (arith, y.0))
      | inl q ↦ elim (some_or (keyword_at ts) (let_with k d ts) (cond (is_word word.If ts) (if_with k d ts) (cond (is_word word.While ts) (while_with k d ts) (cond (is_word word.Repeat ts) (repeat_with k d ts) (cond (is_word word.For ts) (for_with k d ts) (cond (is_word word.Switch ts) (switch_with k d ts) (simple_with most k d ts)))))) _ q.1) [
        | inl y ↦ deep_let d ts y.0 n y.1 y.2
        | inr y ↦ elim (chosen (is_word word.If ts) _ _ _ y.1) [
          | inl z ↦ deep_if d ts n z.0 z.1
          | inr z ↦ elim (chosen (is_word word.While ts) _ _ _ z.1) [
            | inl u ↦ deep_while d ts n u.0 u.1
            | inr u ↦ elim (chosen (is_word word.Repeat ts) _ _ _ u.1) [
              | inl v ↦ deep_repeat d ts n v.0 v.1
              | inr v ↦ elim (chosen (is_word word.For ts) _ _ _ v.1) [
                | inl w ↦ deep_for d ts n w.0 w.1
                | inr w ↦ elim (chosen (is_word word.Switch ts) _ _ _ w.1) [
                  | inl f ↦ deep_switch d ts n f.0 f.1
                  | inr f ↦ deep_simple d ts n f.1
                ]
              ]
            ]
          ]
        ]
      ]
    ]

    deep_separated : (d : ℕ) (ts : Toks) (n : ℕ) → separated_with most k d ts ≡ Err (Depth n) → DeepS d ts n
    unfolding separated_with
    deep_separated d ts n e = elim (bind_err (statement_with most k d ts) (λ s. sep_at (is_return s.0) s.1 >>= λ next. done (s.0, next)) _ e) [
      | inl y ↦ deep_statement d ts n y
      | inr y ↦ absurd (sep_no_depth (is_return y.0.0) y.0.1 n (bind_deep (sep_at (is_return y.0.0) y.0.1) (λ next. (y.0.0, next)) n y.2))
    ]

    deep_statements : (xs : List Stm) (d : ℕ) (ts : Toks) (n : ℕ) → statements_with most k xs d ts ≡ Err (Depth n) → DeepL d ts n
    unfolding statements_with
    deep_statements xs d ts n e = elim (chosen (is_mark mark.CloseBrace ts) _ _ _ e) [
      | inl y ↦ absurd (no_ok _ n y.1)
      | inr y ↦ elim (bind_err (separated_with most k d ts) (λ s. k (statements_on (xs ++ s.0 ∷ [])) d s.1) _ y.1) [
        | inl z ↦ (let r = deep_separated d ts n z in (p_stm r.0, r.1, r.2, r.3, r.4))
        | inr z ↦ (let p = sound_separated most levels some k snd d ts z.0 z.1 in let r = dp (statements_on (xs ++ z.0.0 ∷ [])) d z.0.1 n z.2 in
            (p_next z.0.0 r.0, r.1, r.2, (p.0, z.0.1, p.1, p.2, r.3), omega (arith, r.4)))
      ]
    ]

    -- ---- clauses

    deep_clause_statements : (xs : List Stm) (d : ℕ) (ts : Toks) (n : ℕ) → clause_statements_with most k xs d ts ≡ Err (Depth n) → DeepL d ts n
    unfolding clause_statements_with
    deep_clause_statements xs d ts n e = elim (bind_err (separated_with most k d ts) (λ s. cond (ends_clause s.1) (done (xs ++ s.0 ∷ [], s.1)) (k (clause_on (xs ++ s.0 ∷ [])) d s.1)) _ e) [
      | inl z ↦ (let r = deep_separated d ts n z in (p_stm r.0, r.1, r.2, r.3, r.4))
      | inr z ↦ (let p = sound_separated most levels some k snd d ts z.0 z.1 in elim (chosen (ends_clause z.0.1) (done (xs ++ z.0.0 ∷ [], z.0.1)) (k (clause_on (xs ++ z.0.0 ∷ [])) d z.0.1) _ z.2) [
        | inl y ↦ absurd (no_ok _ n y.1)
        | inr y ↦ (let r = dp (clause_on (xs ++ z.0.0 ∷ [])) d z.0.1 n y.1 in (p_next z.0.0 r.0, r.1, r.2, (p.0, z.0.1, p.1, p.2, r.3), omega (arith, r.4)))
      ])
    ]

    deep_where : (p : Pat) (ps : Pats) (d : ℕ) (ts us : Toks) (n : ℕ) → kind_at ts ≡ Some (kind.Word word.Case) → SpellsPats (pat p ps) (after ts) us → where_with k d (pats_in (pat p ps)) us ≡ Err (Depth n) → DeepC d ts n
    unfolding where_with pats_in
    deep_where p no_pats d ts us n kw sp e = elim (chosen (is_word word.Where us) _ _ _ e) [
      | inr y ↦ absurd (no_ok _ n y.1)
      | inl y ↦ (
          let r = dp (expression Plain) d (after us) n (bind_deep (k (expression Plain) d (after us)) (λ e. (case_where p e.0, e.1)) n y.1) in
          (p_where p r.0, r.1, r.2, (kw, us, sp, word_kind word.Where us y.0, r.3), omega (arith, r.4)))
    ]
    deep_where p (pat q ps) d ts us n kw sp e = absurd (no_ok _ n e)

    deep_head : (d : ℕ) (ts : Toks) (n : ℕ) → head_with levels k d ts ≡ Err (Depth n) → DeepC d ts n
    unfolding head_with
    deep_head d ts n e = elim (chosen (is_word word.Case ts) (read_pattern levels (patterns_on []) 1 (after ts) >>= λ ps. where_with k d ps.0 ps.1) (cond (is_word word.Default ts) (done (default, after ts)) (syntax_at ts)) _ e) [
      | inl y ↦ elim (bind_err (read_pattern levels (patterns_on []) 1 (after ts)) (λ ps. where_with k d ps.0 ps.1) _ y.1) [
        | inl z ↦ (let r = pats_deep levels 1 (after ts) n z in (p_patterns r.0, r.1, r.2, (word_kind word.Case ts y.0, r.3), omega (arith, r.4)))
        | inr z ↦ (let s = pats_sound levels 1 (after ts) z.0 z.1 in deep_where s.0 s.1 d ts z.0.1 n (word_kind word.Case ts y.0) s.3 (rw s.2 at z.2))
      ]
      | inr y ↦ absurd (let q = syn (is_word word.Default ts) (done (default, after ts)) _ n y.1 in no_ok _ n q.1)
    ]

    deep_clause : (d : ℕ) (ts : Toks) (n : ℕ) → clause_with levels k d ts ≡ Err (Depth n) → DeepC d ts n
    unfolding clause_with
    deep_clause d ts n e = elim (bind_err (head_with levels k d ts) (λ h. cond (is_mark mark.Colon h.1) (k (clause_on []) d (after h.1) >>= λ ss. done ((till (here ts) (stms_end (here h.1) (stms_of ss.0)), h.0, stms_of ss.0), ss.1)) (syntax_at h.1)) _ e) [
      | inl y ↦ deep_head d ts n y
      | inr y ↦ (
          let p = sound_head most levels some k snd d ts y.0 y.1 in
          let q = syn (is_mark mark.Colon y.0.1) (k (clause_on []) d (after y.0.1) >>= λ ss. done ((till (here ts) (stms_end (here y.0.1) (stms_of ss.0)), y.0.0, stms_of ss.0), ss.1)) _ n y.2 in
          let r = dp (clause_on []) d (after y.0.1) n (bind_deep (k (clause_on []) d (after y.0.1)) (λ ss. ((till (here ts) (stms_end (here y.0.1) (stms_of ss.0)), y.0.0, stms_of ss.0), ss.1)) n q.1) in
          (p_clause y.0.0 r.0, r.1, r.2, (y.0.1, p.0, mark_kind mark.Colon y.0.1 q.0, r.3), omega (arith, r.4)))
    ]

    deep_clauses : (xs : List Cla) (d : ℕ) (ts : Toks) (n : ℕ) → clauses_with levels k xs d ts ≡ Err (Depth n) → DeepC d ts n
    unfolding clauses_with
    deep_clauses xs d ts n e = elim (chosen (is_mark mark.CloseBrace ts) _ _ _ e) [
      | inl y ↦ absurd (no_ok _ n y.1)
      | inr y ↦ elim (bind_err (clause_with levels k d ts) (λ c. k (clauses_on (xs ++ c.0 ∷ [])) d c.1) _ y.1) [
        | inl z ↦ deep_clause d ts n z
        | inr z ↦ (let p = sound_clause most levels some k snd d ts z.0 z.1 in let r = dp (clauses_on (xs ++ z.0.0 ∷ [])) d z.0.1 n z.2 in
            (p_next_clause z.0.0.1 z.0.0.2 r.0, r.1, r.2, (p.0, z.0.1, p.1, p.2, p.3, r.3), omega (arith, r.4)))
      ]
    ]

    deep_block : (d : ℕ) (ts : Toks) (n : ℕ) → block_with most k d ts ≡ Err (Depth n) → DeepB d ts n
    unfolding block_with
    deep_block d ts n e = elim (lim d most (cond (is_mark mark.OpenBrace ts) (k (statements_on []) (d + 1) (after ts) >>= λ ss. done (block (till (here ts) (here ss.1)) (stms_of ss.0), after ss.1)) (syntax_at ts)) (length ts) n e) [
      | inr y ↦ (gone_block, ts, y.1, refl, omega (arith, y.0))
      | inl y ↦ (
          let q = syn (is_mark mark.OpenBrace ts) (k (statements_on []) (d + 1) (after ts) >>= λ ss. done (block (till (here ts) (here ss.1)) (stms_of ss.0), after ss.1)) (length ts) n y.1 in
          let r = dp (statements_on []) (d + 1) (after ts) n (bind_deep (k (statements_on []) (d + 1) (after ts)) (λ ss. (block (till (here ts) (here ss.1)) (stms_of ss.0), after ss.1)) n q.1) in
          (p_block r.0, r.1, r.2, (mark_kind mark.OpenBrace ts q.0, r.3), omega (arith, r.4)))
    ]

    deep_step : Deeps (step most levels k)
    unfolding step
    deep_step (expression context) d ts n e = deep_expression context d ts n e
    deep_step (operand context) d ts n e = deep_pre true context d ts n e
    deep_step (operators_on j context a) d ts n e = deep_operators j context a d ts n e
    deep_step (calls_on context f) d ts n e = deep_calls context f d ts n e
    deep_step (arguments_on xs) d ts n e = deep_arguments xs d ts n e
    deep_step statement d ts n e = deep_statement d ts n e
    deep_step (statements_on xs) d ts n e = deep_statements xs d ts n e
    deep_step (clause_on xs) d ts n e = deep_clause_statements xs d ts n e
    deep_step (clauses_on xs) d ts n e = deep_clauses xs d ts n e
    deep_step body d ts n e = deep_block d ts n e

  deep_at : 0 < levels → (fuel : ℕ) → Deeps (read_at most levels fuel)
  unfolding read_at
  deep_at some zero g d ts n e = absurd cc
  deep_at some (suc fuel) g d ts n e = deep_step some (read_at most levels fuel) (sound_at most levels some fuel) (deep_at some fuel) g d ts n e

  -- Depth comes only where the tokens before the named one stand a level too deep.
  pub block_depth : 0 < levels → (d : ℕ) (ts : Toks) (n : ℕ) → read most levels body d ts ≡ Err (Depth n) → DeepB d ts n
  unfolding read
  block_depth some d ts n e = deep_at some (suc (length ts)) body d ts n e
