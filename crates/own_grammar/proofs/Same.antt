-- Two readers that agree on what is shorter read alike, and a smaller limit changes nothing but for Depth.
use Rattle.std.proofs.Common.{◌≡◌, ℕ, zero, suc, ◌+◌, ◌≤◌, ◌<◌, Bool, eqb, true, false, List, [], ◌∷◌, ◌++◌, length, Option, Some, Result, Ok, ◌⊎◌, inl, inr, refl, arith}
use Rattle.own_tree.specs.declared.token.Kind.TheVariants as kind
use Rattle.own_tree.specs.declared.token.Mark.TheVariants as mark
use Rattle.own_tree.specs.declared.token.Word.TheVariants as word
use Rattle.own_tree.specs.declared.tree.Name.{Name}
use Rattle.own_tree.specs.declared.tree.Keyword.{Keyword}
use Rattle.own_tree.specs.declared.tree.RangeOperator.{RangeOperator}
use Rattle.own_tree.specs.declared.tree.PrefixOperator.{PrefixOperator}
use Rattle.own_tree.specs.Source.{Exp, member, call, call_closing, call_closure, Stm, Blk, Pat, pat}
use Rattle.own_tree.specs.View.{Arg, Cla, args_of}
use Rattle.own_grammar.specs.declared.Context.{Context}
use Rattle.own_grammar.specs.declared.Context.TheVariants.{Plain, Condition, Inside}
use Rattle.own_grammar.specs.Tests.{Toks, after, here, till, kind_at, is_mark, is_word, name_at, root_at, operator_at, negative_at, unary_at, opens, closes, label_at, binder_at, keyword_at, range_at, assign_at, assigns, is_bare, closure_head}
use Rattle.own_grammar.specs.Nesting.{exp_span, clo_span, level, chains, nest, is_return}
use Rattle.own_grammar.specs.Reading.{Fault, Goal, expression, operand, operators_on, calls_on, arguments_on, Reader, parenthesized_with, literal_at, primary_with, post_with, prefix_with, consume_with, pre_with, level_with, next_with, operator_with, operators_with, branches_with, choice_with, expression_with, closure_with, address_with, given_with, argument_with, arguments_with, all_arguments_with, called_with, call_with, closing_with, member_with, calls_with, step, statement, statements_on, clause_on, clauses_on, body, bound_with, let_with, ignore_with, else_with, if_with, while_with, repeat_with, upper_with, lower_with, for_with, switch_with, return_with, path_in, assign_with, evaluate_with, simple_with, statement_with, separated_with, statements_with, ends_clause, clause_statements_with, where_with, head_with, clause_with, clauses_with, block_with, patterns_on, read_pattern, read_at, read}
use Rattle.own_grammar.proofs.Facts.{mark_kind, word_kind, at_mark, closes_kind, unary_kind}
use Rattle.own_tree.specs.declared.token.Word.{Word}
use Rattle.own_grammar.proofs.Paths.{typed_sound}
use Rattle.own_grammar.proofs.PatternsRead.{pats_sound, pats_near}
use Rattle.own_grammar.proofs.Lengths.{after_short, after_le, typed_le, labels_le, sep_le, pats_short, head_le}
use Rattle.own_grammar.proofs.Facts.{keyword_kind}
use Rattle.own_grammar.proofs.Shorter.{operator_short, short_e, short_g, short_a, short_k, short_s, short_n, short_h, short_b}
use Rattle.own_grammar.proofs.Sound.{Sound, sound_primary_short, sound_level, sound_expression, sound_closure, sound_argument, sound_all_arguments, sound_separated, sound_head, sound_clause, sound_at}
use Rattle.own_grammar.proofs.Steps.{Near, same, near_bind, near_cond, near_some, near_limit, equal}

module _ (loose : Type 0) (most most' levels levels' : ℕ) (some : 0 < levels) (limits : (most ≡ most') ⊎ (loose × (most ≤ most'))) (fewer : (levels ≡ levels') ⊎ (loose × (levels ≤ levels'))) (k k' : Reader) (snd : Sound most levels k) (n : ℕ) (agree : (g : Goal) (d : ℕ) (ts : Toks) → length ts < n → Near loose (k g d ts) (k' g d ts)) where
  abbrev Alike : {A : Type 0} → Result A Fault → Result A Fault → Type 0
  Alike r r' = Near loose r r'

  near_parenthesized : (d : ℕ) (ts : Toks) → length ts ≤ n → kind_at ts ≡ Some (kind.Mark mark.OpenParen) → Alike (parenthesized_with k d ts) (parenthesized_with k' d ts)
  unfolding parenthesized_with
  near_parenthesized d ts le lp = near_bind loose _ _ _ _ (agree (expression Inside) (d + 1) (after ts) (let a = after_short ts _ lp in omega arith)) (λ x e. same refl)

  near_primary : (tight : Bool) (d : ℕ) (ts : Toks) → length ts ≤ n → Alike (primary_with k tight d ts) (primary_with k' tight d ts)
  unfolding primary_with
  near_primary tight d ts le = near_some loose (negative_at tight ts) _ _ _ _ (λ x e. same refl) (λ e. near_some loose (literal_at ts) _ _ _ _ (λ x e. same refl) (λ e. near_some loose (root_at ts) _ _ _ _ (λ x e. same refl)
      (λ e. near_cond loose (is_mark mark.Dot ts) _ _ _ _ (λ y. same refl) (λ y. near_cond loose (is_mark mark.OpenParen ts) _ _ _ _ (λ e. near_parenthesized d ts le (mark_kind mark.OpenParen ts e)) (λ e. same refl)))))

  near_post : (tight : Bool) (context : Context) (d : ℕ) (ts : Toks) → d < most → length ts ≤ n → Alike (post_with k tight context d ts) (post_with k' tight context d ts)
  unfolding post_with
  near_post tight context d ts lt le = near_bind loose _ _ _ _ (near_primary tight d ts le) (λ x e. agree (calls_on context x.0) d x.1 (let a = short_e x.0 tight context ts x.1 (sound_primary_short most levels some k snd tight context d ts x lt e) in omega arith))

  near_prefix : (o : PrefixOperator) (context : Context) (d : ℕ) (ts : Toks) (tight : Bool) → unary_at tight ts ≡ Some o → length ts ≤ n → Alike (prefix_with k o context d ts) (prefix_with k' o context d ts)
  unfolding prefix_with
  near_prefix o context d ts tight un le = near_bind loose _ _ _ _ (agree (operand context) (d + 1) (after ts) (let a = after_short ts _ (unary_kind tight ts o un) in omega arith)) (λ x e. same refl)

  near_consume : (d : ℕ) (ts : Toks) → Alike (consume_with most d ts) (consume_with most' d ts)
  unfolding consume_with
  near_consume d ts = near_limit loose most most' limits (d + 1) _ _ _ (λ lt. same refl)

  near_pre : (tight : Bool) (context : Context) (d : ℕ) (ts : Toks) → length ts ≤ n → Alike (pre_with most k tight context d ts) (pre_with most' k' tight context d ts)
  unfolding pre_with
  near_pre tight context d ts le = near_limit loose most most' limits d _ _ _ (λ lt. near_some loose (unary_at tight ts) _ _ _ _ (λ o un. near_prefix o context d ts tight un le)
      (λ e. near_cond loose (is_word word.Consume ts) _ _ _ _ (λ y. near_consume d ts) (λ y. near_post tight context d ts lt le)))

  near_level : (j : ℕ) (context : Context) (d : ℕ) (ts : Toks) → length ts ≤ n → Alike (level_with most k j context d ts) (level_with most' k' j context d ts)
  unfolding level_with
  near_level zero context d ts le = near_pre false context d ts le
  near_level (suc j) context d ts le = near_bind loose _ _ _ _ (near_level j context d ts le) (λ x e. agree (operators_on j context x.0) d x.1 (let p = sound_level most levels some k snd j context d ts x e in let a = short_e x.0 false context ts x.1 p.0 in omega arith))

  near_next : (c : Bool) (j : ℕ) (context : Context) (d : ℕ) (e : Exp) (ts : Toks) → length ts < n → Alike (next_with k c j context d e ts) (next_with k' c j context d e ts)
  unfolding next_with
  near_next true j context d e ts lt = agree (operators_on j context e) d ts lt
  near_next false j context d e ts lt = same refl

  near_operators : (j : ℕ) (context : Context) (e : Exp) (d : ℕ) (ts : Toks) → length ts ≤ n → Alike (operators_with most k j context e d ts) (operators_with most' k' j context e d ts)
  unfolding operators_with operator_with
  near_operators j context e d ts le = near_some loose (operator_at ts) _ _ _ _ (λ o is. near_cond loose (eqb (level o) (suc j)) _ _ _ _
      (λ y. near_limit loose most most' limits (d + nest e) _ _ _ (λ lt. near_bind loose _ _ _ _ (near_level j context (d + 1) (after ts) (let a = operator_short ts o is in omega arith))
      (λ x r. near_next (chains (suc j)) j context d _ x.1 (let p = sound_level most levels some k snd j context (d + 1) (after ts) x r in let a = short_e x.0 false context (after ts) x.1 p.0 in let b = operator_short ts o is in omega arith))))
      (λ y. same refl)) (λ y. same refl)

  near_branches : (context : Context) (d : ℕ) (c : Exp) (ts : Toks) → length ts < n → Alike (branches_with k context d c ts) (branches_with k' context d c ts)
  unfolding branches_with
  near_branches context d c ts lt = near_bind loose _ _ _ _ (agree (expression context) (d + 1) ts lt) (λ x r. near_cond loose (is_mark mark.Colon x.1) _ _ _ _
      (λ y. near_bind loose _ _ _ _ (agree (expression context) (d + 1) (after x.1) (let p = snd (expression context) (d + 1) ts x r in let a = short_e x.0 false context ts x.1 p.0 in let b = after_le x.1 in omega arith)) (λ x r. same refl)) (λ y. same refl))

  near_expression : (context : Context) (d : ℕ) (ts : Toks) → length ts ≤ n → Alike (expression_with most k context d ts) (expression_with most' k' context d ts)
  unfolding expression_with choice_with
  near_expression context d ts le = near_bind loose _ _ _ _ (near_level 5 context d ts le) (λ x r. near_cond loose (is_mark mark.Question x.1) _ _ _ _
      (λ y. near_limit loose most most' limits (d + nest x.0) _ _ _ (λ lt. near_branches context d x.0 (after x.1) (let p = sound_level most levels some k snd 5 context d ts x r in let a = short_e x.0 false context ts x.1 p.0 in let b = after_le x.1 in omega arith))) (λ y. same refl))

  -- ---- closures, arguments and calls

  near_closure : (d : ℕ) (ts : Toks) → length ts ≤ n → is_mark mark.OpenBrace ts ≡ true → Alike (closure_with most k d ts) (closure_with most' k' d ts)
  unfolding closure_with
  near_closure d ts le lb = near_limit loose most most' limits d _ _ _ (λ lt. near_bind loose _ _ _ _ (agree (statements_on []) (d + 1) (closure_head (after ts)).1 (let a = after_short ts _ (mark_kind mark.OpenBrace ts lb) in let b = head_le (after ts) in omega arith)) (λ x r. same refl))

  near_given : (d : ℕ) (ts : Toks) → length ts ≤ n → Alike (given_with most k d ts) (given_with most' k' d ts)
  unfolding given_with address_with
  near_given d ts le = near_cond loose (is_mark mark.Ampersand ts) _ _ _ _ (λ y. near_limit loose most most' limits d _ _ _ (λ lt. same refl))
      (λ y. near_cond loose (is_mark mark.OpenBrace ts) _ _ _ _ (λ z. near_bind loose _ _ _ _ (near_closure d ts le z) (λ x r. same refl)) (λ z. near_bind loose _ _ _ _ (near_expression Inside d ts le) (λ x r. same refl)))

  near_argument : (d : ℕ) (ts : Toks) → length ts ≤ n → Alike (argument_with most k d ts) (argument_with most' k' d ts)
  unfolding argument_with
  near_argument d ts le = near_some loose (label_at ts) _ _ _ _
      (λ l e. near_bind loose _ _ _ _ (near_given (d + 1) (after (after ts)) (let a = after_le ts in let b = after_le (after ts) in omega arith)) (λ x r. same refl))
      (λ e. near_bind loose _ _ _ _ (near_given (d + 1) ts le) (λ x r. same refl))

  near_arguments : (xs : List Arg) (d : ℕ) (ts : Toks) → length ts ≤ n → Alike (arguments_with most k xs d ts) (arguments_with most' k' xs d ts)
  unfolding arguments_with
  near_arguments xs d ts le = near_bind loose _ _ _ _ (near_argument d ts le) (λ x r. near_cond loose (is_mark mark.Comma x.1) _ _ _ _
      (λ y. agree (arguments_on (xs ++ x.0 ∷ [])) d (after x.1) (let p = sound_argument most levels some k snd d ts x r in let a = short_g x.0.1 p.0 x.1 p.2 in let b = labels_le x.0.0 ts p.0 p.1 in let c = after_le x.1 in omega arith)) (λ y. same refl))

  near_all_arguments : (d : ℕ) (ts : Toks) → length ts ≤ n → Alike (all_arguments_with most k d ts) (all_arguments_with most' k' d ts)
  unfolding all_arguments_with
  near_all_arguments d ts le = near_cond loose (is_mark mark.CloseParen ts) _ _ _ _ (λ y. same refl) (λ y. near_arguments [] d ts le)

  near_called : (context : Context) (f : Exp) (d : ℕ) (xs : List Arg) (ts : Toks) → length ts ≤ n → Alike (called_with most k context f d xs ts) (called_with most' k' context f d xs ts)
  unfolding called_with
  near_called context f d xs ts le = near_cond loose (is_mark mark.CloseParen ts) _ _ _ _ (λ rp. (let a = after_short ts _ (mark_kind mark.CloseParen ts rp) in
      near_cond loose (closes context (after ts)) _ _ _ _
      (λ y. (let lb = at_mark mark.OpenBrace (after ts) _ (closes_kind context (after ts) y) in
      near_bind loose _ _ _ _ (near_closure (d + 1) (after ts) (omega arith) lb) (λ x r. agree (calls_on context (call_closing (till (exp_span f) (clo_span x.0)) f (args_of xs) x.0)) d x.1 (let p = sound_closure most levels some k snd (d + 1) (after ts) x lb r in let b = short_k x.0 (after ts) x.1 p.0 in omega arith))))
      (λ y. agree (calls_on context (call (till (exp_span f) (here ts)) f (args_of xs))) d (after ts) (omega arith)))) (λ y. same refl)

  near_call : (context : Context) (f : Exp) (d : ℕ) (ts : Toks) → length ts ≤ n → Alike (call_with most k context f d ts) (call_with most' k' context f d ts)
  unfolding call_with
  near_call context f d ts le = near_limit loose most most' limits (d + nest f) _ _ _ (λ lt. near_bind loose _ _ _ _ (near_all_arguments d (after ts) (let a = after_le ts in omega arith))
      (λ x r. near_called context f d x.0 x.1 (let p = sound_all_arguments most levels some k snd d (after ts) x (omega (arith, lt)) r in let a = short_a p.0 (after ts) x.1 p.2 in let b = after_le ts in omega arith)))

  near_closing : (context : Context) (f : Exp) (d : ℕ) (ts : Toks) → length ts ≤ n → closes context ts ≡ true → Alike (closing_with most k context f d ts) (closing_with most' k' context f d ts)
  unfolding closing_with
  near_closing context f d ts le c = (let lb = at_mark mark.OpenBrace ts _ (closes_kind context ts c) in near_limit loose most most' limits (d + nest f) _ _ _ (λ lt. near_bind loose _ _ _ _ (near_closure (d + 1) ts le lb)
      (λ x r. agree (calls_on context (call_closure (till (exp_span f) (clo_span x.0)) f x.0)) d x.1 (let p = sound_closure most levels some k snd (d + 1) ts x lb r in let a = short_k x.0 ts x.1 p.0 in omega arith))))

  near_member : (context : Context) (f : Exp) (d : ℕ) (ts : Toks) → length ts ≤ n → is_mark mark.Dot ts ≡ true → Alike (member_with most k context f d ts) (member_with most' k' context f d ts)
  unfolding member_with
  near_member context f d ts le dot = near_limit loose most most' limits (d + nest f) _ _ _ (λ lt. near_some loose (name_at (after ts)) _ _ _ _
      (λ x e. agree (calls_on context (member (till (exp_span f) (here (after ts))) f x)) d (after (after ts)) (let a = after_short ts _ (mark_kind mark.Dot ts dot) in let b = after_le (after ts) in omega arith)) (λ e. same refl))

  near_calls : (context : Context) (f : Exp) (d : ℕ) (ts : Toks) → length ts ≤ n → Alike (calls_with most k context f d ts) (calls_with most' k' context f d ts)
  unfolding calls_with
  near_calls context f d ts le = near_cond loose (opens context ts) _ _ _ _ (λ y. near_call context f d ts le) (λ y. near_cond loose (closes context ts) _ _ _ _ (λ z. near_closing context f d ts le z)
      (λ z. near_cond loose (is_mark mark.Dot ts) _ _ _ _ (λ u. near_member context f d ts le u) (λ u. same refl)))

  -- ---- statements

  near_bound : (d : ℕ) (ts : Toks) (w : Keyword) (m t : Option Name) (us : Toks) → length us < n → Alike (bound_with k d ts w m t us) (bound_with k' d ts w m t us)
  unfolding bound_with
  near_bound d ts w m t us lt = near_cond loose (assigns us) _ _ _ _ (λ y. near_bind loose _ _ _ _ (agree (expression Plain) (d + 1) (after us) (let a = after_le us in omega arith)) (λ x r. same refl)) (λ y. same refl)

  near_let : (d : ℕ) (ts : Toks) (w : Keyword) → length ts ≤ n → keyword_at ts ≡ Some w → Alike (let_with k d ts w) (let_with k' d ts w)
  unfolding let_with
  near_let d ts w le kw = near_some loose (binder_at (after ts)) _ _ _ _ (λ m e. near_bind loose _ _ _ _ (same refl) (λ x r. near_bound d ts w m x.0 x.1
      (let a = after_short ts _ (keyword_kind ts w kw) in let b = after_le (after ts) in let c = typed_le x.0 (after (after ts)) x.1 (typed_sound (after (after ts)) x r) in omega arith))) (λ e. same refl)

  near_ignore : (d : ℕ) (ts : Toks) → length ts ≤ n → is_mark mark.Underscore ts ≡ true → Alike (ignore_with k d ts) (ignore_with k' d ts)
  unfolding ignore_with
  near_ignore d ts le u = near_cond loose (is_mark mark.Assign (after ts)) _ _ _ _ (λ y. near_bind loose _ _ _ _ (agree (expression Plain) (d + 1) (after (after ts)) (let a = after_short ts _ (mark_kind mark.Underscore ts u) in let b = after_le (after ts) in omega arith)) (λ x r. same refl)) (λ y. same refl)

  near_while : (d : ℕ) (ts : Toks) (w : Word) → kind_at ts ≡ Some (kind.Word w) → length ts ≤ n → Alike (while_with k d ts) (while_with k' d ts)
  unfolding while_with
  near_while d ts w kw le = (let a = after_short ts _ kw in near_bind loose _ _ _ _ (agree (expression Condition) (d + 1) (after ts) (omega arith)) (λ c r. (let p = snd (expression Condition) (d + 1) (after ts) c r in let b = short_e c.0 false Condition (after ts) c.1 p.0 in
      near_bind loose _ _ _ _ (agree body (d + 1) c.1 (omega arith)) (λ x r. same refl))))

  near_repeat : (d : ℕ) (ts : Toks) (w : Word) → kind_at ts ≡ Some (kind.Word w) → length ts ≤ n → Alike (repeat_with k d ts) (repeat_with k' d ts)
  unfolding repeat_with
  near_repeat d ts w kw le = (let a = after_short ts _ kw in near_bind loose _ _ _ _ (agree body (d + 1) (after ts) (omega arith)) (λ x r. near_cond loose (is_word word.While x.1) _ _ _ _
      (λ y. near_bind loose _ _ _ _ (agree (expression Condition) (d + 1) (after x.1) (let p = snd body (d + 1) (after ts) x r in let b = short_b x.0 (after ts) x.1 p.0 in let c = after_le x.1 in omega arith)) (λ z r. same refl)) (λ y. same refl)))

  near_upper : (d : ℕ) (ts : Toks) (m : Option Name) (low : Exp) (o : RangeOperator) (us : Toks) → length us < n → Alike (upper_with k d ts m low o us) (upper_with k' d ts m low o us)
  unfolding upper_with
  near_upper d ts m low o us lt = near_bind loose _ _ _ _ (agree (expression Condition) (d + 1) (after us) (let a = after_le us in omega arith)) (λ c r. near_bind loose _ _ _ _ (agree body (d + 1) c.1
      (let p = snd (expression Condition) (d + 1) (after us) c r in let a = short_e c.0 false Condition (after us) c.1 p.0 in let b = after_le us in omega arith)) (λ x r. same refl))

  near_for : (d : ℕ) (ts : Toks) (w : Word) → kind_at ts ≡ Some (kind.Word w) → length ts ≤ n → Alike (for_with k d ts) (for_with k' d ts)
  unfolding for_with lower_with
  near_for d ts w kw le = (let a = after_short ts _ kw in let b = after_le (after ts) in let c = after_le (after (after ts)) in near_some loose (binder_at (after ts)) _ _ _ _ (λ m e. near_cond loose (is_word word.In (after (after ts))) _ _ _ _
      (λ y. near_bind loose _ _ _ _ (agree (expression Condition) (d + 1) (after (after (after ts))) (omega arith)) (λ x r. near_some loose (range_at x.1) _ _ _ _
      (λ o e. near_upper d ts m x.0 o x.1 (let p = snd (expression Condition) (d + 1) (after (after (after ts))) x r in let f = short_e x.0 false Condition (after (after (after ts))) x.1 p.0 in omega arith)) (λ e. same refl)))
      (λ y. same refl)) (λ e. same refl))

  near_else : (d : ℕ) (ts : Toks) (c : Exp) (b : Blk) (us : Toks) → length us ≤ n → Alike (else_with k d ts c b us) (else_with k' d ts c b us)
  unfolding else_with
  near_else d ts c b us le = near_cond loose (is_word word.Else us) _ _ _ _ (λ els. (let a = after_short us _ (word_kind word.Else us els) in near_cond loose (is_word word.If (after us)) _ _ _ _
      (λ y. near_bind loose _ _ _ _ (agree statement (d + 1) (after us) (omega arith)) (λ x r. same refl))
      (λ y. near_bind loose _ _ _ _ (agree body (d + 1) (after us) (omega arith)) (λ x r. same refl)))) (λ y. same refl)

  near_if : (d : ℕ) (ts : Toks) (w : Word) → kind_at ts ≡ Some (kind.Word w) → length ts ≤ n → Alike (if_with k d ts) (if_with k' d ts)
  unfolding if_with
  near_if d ts w kw le = (let a = after_short ts _ kw in near_bind loose _ _ _ _ (agree (expression Condition) (d + 1) (after ts) (omega arith)) (λ c r. (let p = snd (expression Condition) (d + 1) (after ts) c r in let b = short_e c.0 false Condition (after ts) c.1 p.0 in
      near_bind loose _ _ _ _ (agree body (d + 1) c.1 (omega arith)) (λ x r. near_else d ts c.0 x.0 x.1 (let q = snd body (d + 1) c.1 x r in let e = short_b x.0 c.1 x.1 q.0 in omega arith)))))

  near_switch : (d : ℕ) (ts : Toks) (w : Word) → kind_at ts ≡ Some (kind.Word w) → length ts ≤ n → Alike (switch_with k d ts) (switch_with k' d ts)
  unfolding switch_with
  near_switch d ts w kw le = (let a = after_short ts _ kw in near_bind loose _ _ _ _ (agree (expression Condition) (d + 1) (after ts) (omega arith)) (λ c r. near_cond loose (is_mark mark.OpenBrace c.1) _ _ _ _
      (λ y. near_bind loose _ _ _ _ (agree (clauses_on []) (d + 1) (after c.1) (let p = snd (expression Condition) (d + 1) (after ts) c r in let b = short_e c.0 false Condition (after ts) c.1 p.0 in let e = after_le c.1 in omega arith)) (λ x r. same refl)) (λ y. same refl)))

  near_return : (d : ℕ) (ts : Toks) (w : Word) → kind_at ts ≡ Some (kind.Word w) → length ts ≤ n → Alike (return_with k d ts) (return_with k' d ts)
  unfolding return_with
  near_return d ts w kw le = near_cond loose (is_bare (after ts)) _ _ _ _ (λ y. same refl) (λ y. near_bind loose _ _ _ _ (agree (expression Plain) (d + 1) (after ts) (let a = after_short ts _ kw in omega arith)) (λ x r. same refl))

  near_evaluate : (d : ℕ) (ts : Toks) → length ts ≤ n → Alike (evaluate_with most k d ts) (evaluate_with most' k' d ts)
  unfolding evaluate_with assign_with
  near_evaluate d ts le = near_bind loose _ _ _ _ (near_expression Plain (d + 1) ts le) (λ x r. near_some loose (assign_at x.1) _ _ _ _
      (λ o e. near_some loose (path_in x.0) _ _ _ _ (λ p e. near_bind loose _ _ _ _ (agree (expression Plain) (d + 1) (after x.1) (let p = sound_expression most levels some k snd Plain (d + 1) ts x r in let a = short_e x.0 false Plain ts x.1 p.0 in let b = after_le x.1 in omega arith)) (λ y r. same refl)) (λ e. same refl))
      (λ e. same refl))

  near_simple : (d : ℕ) (ts : Toks) → length ts ≤ n → Alike (simple_with most k d ts) (simple_with most' k' d ts)
  unfolding simple_with
  near_simple d ts le = near_cond loose (is_mark mark.Underscore ts) _ _ _ _ (λ y. near_ignore d ts le y) (λ y. near_cond loose (is_word word.Discard ts) _ _ _ _ (λ y. same refl)
      (λ y. near_cond loose (is_word word.Break ts) _ _ _ _ (λ y. same refl) (λ y. near_cond loose (is_word word.Continue ts) _ _ _ _ (λ y. same refl)
      (λ y. near_cond loose (is_word word.Return ts) _ _ _ _ (λ y. near_return d ts word.Return (word_kind word.Return ts y) le) (λ y. near_evaluate d ts le)))))

  near_statement : (d : ℕ) (ts : Toks) → length ts ≤ n → Alike (statement_with most k d ts) (statement_with most' k' d ts)
  unfolding statement_with
  near_statement d ts le = near_limit loose most most' limits d _ _ _ (λ lt. near_some loose (keyword_at ts) _ _ _ _ (λ w e. near_let d ts w le e)
      (λ e. near_cond loose (is_word word.If ts) _ _ _ _ (λ y. near_if d ts word.If (word_kind word.If ts y) le)
      (λ y. near_cond loose (is_word word.While ts) _ _ _ _ (λ y. near_while d ts word.While (word_kind word.While ts y) le)
      (λ y. near_cond loose (is_word word.Repeat ts) _ _ _ _ (λ y. near_repeat d ts word.Repeat (word_kind word.Repeat ts y) le)
      (λ y. near_cond loose (is_word word.For ts) _ _ _ _ (λ y. near_for d ts word.For (word_kind word.For ts y) le)
      (λ y. near_cond loose (is_word word.Switch ts) _ _ _ _ (λ y. near_switch d ts word.Switch (word_kind word.Switch ts y) le) (λ y. near_simple d ts le)))))))

  near_separated : (d : ℕ) (ts : Toks) → length ts ≤ n → Alike (separated_with most k d ts) (separated_with most' k' d ts)
  unfolding separated_with
  near_separated d ts le = near_bind loose _ _ _ _ (near_statement d ts le) (λ x r. same refl)

  separated_short : (d : ℕ) (ts : Toks) (x : Stm × Toks) → separated_with most k d ts ≡ Ok x → length x.1 < length ts
  separated_short d ts x r = (let p = sound_separated most levels some k snd d ts x r in let a = short_s x.0 ts p.0 p.1 in let b = sep_le (is_return x.0) p.0 x.1 p.2 in omega arith)

  near_statements : (xs : List Stm) (d : ℕ) (ts : Toks) → length ts ≤ n → Alike (statements_with most k xs d ts) (statements_with most' k' xs d ts)
  unfolding statements_with
  near_statements xs d ts le = near_cond loose (is_mark mark.CloseBrace ts) _ _ _ _ (λ y. same refl) (λ y. near_bind loose _ _ _ _ (near_separated d ts le)
      (λ x r. agree (statements_on (xs ++ x.0 ∷ [])) d x.1 (let a = separated_short d ts x r in omega arith)))

  -- ---- clauses

  near_clause_statements : (xs : List Stm) (d : ℕ) (ts : Toks) → length ts ≤ n → Alike (clause_statements_with most k xs d ts) (clause_statements_with most' k' xs d ts)
  unfolding clause_statements_with
  near_clause_statements xs d ts le = near_bind loose _ _ _ _ (near_separated d ts le) (λ x r. near_cond loose (ends_clause x.1) _ _ _ _ (λ y. same refl)
      (λ y. agree (clause_on (xs ++ x.0 ∷ [])) d x.1 (let a = separated_short d ts x r in omega arith)))

  near_where : (ps : List Pat) (d : ℕ) (ts : Toks) → length ts < n → Alike (where_with k d ps ts) (where_with k' d ps ts)
  unfolding where_with
  near_where [] d ts lt = same refl
  near_where (p ∷ []) d ts lt = near_cond loose (is_word word.Where ts) _ _ _ _ (λ y. near_bind loose _ _ _ _ (agree (expression Plain) d (after ts) (let a = after_le ts in omega arith)) (λ x r. same refl)) (λ y. same refl)
  near_where (p ∷ q ∷ ps) d ts lt = same refl

  near_head : (d : ℕ) (ts : Toks) → length ts ≤ n → Alike (head_with levels k d ts) (head_with levels' k' d ts)
  unfolding head_with
  near_head d ts le = near_cond loose (is_word word.Case ts) _ _ _ _ (λ y. near_bind loose (read_pattern levels (patterns_on []) 1 (after ts)) (read_pattern levels' (patterns_on []) 1 (after ts)) _ _ (pats_near loose levels levels' fewer 1 (after ts))
      (λ x r. near_where x.0 d x.1 (let p = pats_sound levels 1 (after ts) x r in let a = pats_short (pat p.0 p.1) (after ts) x.1 p.3 in let b = after_short ts _ (word_kind word.Case ts y) in omega arith))) (λ y. same refl)

  near_clause : (d : ℕ) (ts : Toks) → length ts ≤ n → Alike (clause_with levels k d ts) (clause_with levels' k' d ts)
  unfolding clause_with
  near_clause d ts le = near_bind loose _ _ _ _ (near_head d ts le) (λ x r. near_cond loose (is_mark mark.Colon x.1) _ _ _ _
      (λ y. near_bind loose _ _ _ _ (agree (clause_on []) d (after x.1) (let p = sound_head most levels some k snd d ts x r in let a = short_h x.0 ts x.1 p.0 in let b = after_le x.1 in omega arith)) (λ x r. same refl)) (λ y. same refl))

  near_clauses : (xs : List Cla) (d : ℕ) (ts : Toks) → length ts ≤ n → Alike (clauses_with levels k xs d ts) (clauses_with levels' k' xs d ts)
  unfolding clauses_with
  near_clauses xs d ts le = near_cond loose (is_mark mark.CloseBrace ts) _ _ _ _ (λ y. same refl) (λ y. near_bind loose _ _ _ _ (near_clause d ts le)
      (λ x r. agree (clauses_on (xs ++ x.0 ∷ [])) d x.1 (let p = sound_clause most levels some k snd d ts x r in let a = short_h x.0.1 ts p.0 p.1 in let b = after_le p.0 in let c = short_n x.0.2 (after p.0) x.1 p.3 in omega arith)))

  near_block : (d : ℕ) (ts : Toks) → length ts ≤ n → Alike (block_with most k d ts) (block_with most' k' d ts)
  unfolding block_with
  near_block d ts le = near_limit loose most most' limits d _ _ _ (λ lt. near_cond loose (is_mark mark.OpenBrace ts) _ _ _ _ (λ lb. near_bind loose _ _ _ _ (agree (statements_on []) (d + 1) (after ts) (let a = after_short ts _ (mark_kind mark.OpenBrace ts lb) in omega arith)) (λ x r. same refl)) (λ y. same refl))

  near_step : (g : Goal) (d : ℕ) (ts : Toks) → length ts ≤ n → Alike (step most levels k g d ts) (step most' levels' k' g d ts)
  unfolding step
  near_step (expression context) d ts le = near_expression context d ts le
  near_step (operand context) d ts le = near_pre true context d ts le
  near_step (operators_on j context e) d ts le = near_operators j context e d ts le
  near_step (calls_on context f) d ts le = near_calls context f d ts le
  near_step (arguments_on xs) d ts le = near_arguments xs d ts le
  near_step statement d ts le = near_statement d ts le
  near_step (statements_on xs) d ts le = near_statements xs d ts le
  near_step (clause_on xs) d ts le = near_clause_statements xs d ts le
  near_step (clauses_on xs) d ts le = near_clauses xs d ts le
  near_step body d ts le = near_block d ts le

-- ---- the fuel does not matter

fuel_same : (most levels : ℕ) → 0 < levels → (f f' : ℕ) (g : Goal) (d : ℕ) (ts : Toks) → length ts < f → length ts < f' → read_at most levels f g d ts ≡ read_at most levels f' g d ts
unfolding read_at
fuel_same most levels some zero f' g d ts lf lf' = absurd (omega arith)
fuel_same most levels some (suc f) zero g d ts lf lf' = absurd (omega arith)
fuel_same most levels some (suc f) (suc f') g d ts lf lf' =
    equal _ _ (near_step ⊥ most most levels levels some (inl refl) (inl refl) (read_at most levels f) (read_at most levels f') (sound_at most levels some f) (length ts)
    (λ g' d' us lt. same (fuel_same most levels some f f' g' d' us (omega arith) (omega arith))) g d ts (omega arith))

-- One step reads, and the rest is read by the whole.
pub read_is : (most levels : ℕ) → 0 < levels → (g : Goal) (d : ℕ) (ts : Toks) → read most levels g d ts ≡ step most levels (read most levels) g d ts
unfolding read read_at
read_is most levels some g d ts =
    equal _ _ (near_step ⊥ most most levels levels some (inl refl) (inl refl) (read_at most levels (length ts)) (read most levels) (sound_at most levels some (length ts)) (length ts)
    (λ g' d' us lt. same (fuel_same most levels some (length ts) (suc (length us)) g' d' us lt (omega arith))) g d ts (omega arith))

-- ---- larger limits change nothing but for Depth

limit_at : (most most' levels levels' : ℕ) → 0 < levels → most ≤ most' → levels ≤ levels' → (f : ℕ) (g : Goal) (d : ℕ) (ts : Toks) → Near (Unit {0}) (read_at most levels f g d ts) (read_at most' levels' f g d ts)
unfolding read_at
limit_at most most' levels levels' some le few zero g d ts = same refl
limit_at most most' levels levels' some le few (suc f) g d ts =
    near_step (Unit {0}) most most' levels levels' some (inr (tt, le)) (inr (tt, few)) (read_at most levels f) (read_at most' levels' f) (sound_at most levels some f) (length ts)
    (λ g' d' us lt. limit_at most most' levels levels' some le few f g' d' us) g d ts (omega arith)

pub limit_same : (most most' levels levels' : ℕ) → 0 < levels → most ≤ most' → levels ≤ levels' → (g : Goal) (d : ℕ) (ts : Toks) → Near (Unit {0}) (read most levels g d ts) (read most' levels' g d ts)
unfolding read
limit_same most most' levels levels' some le few g d ts = limit_at most most' levels levels' some le few (suc (length ts)) g d ts
