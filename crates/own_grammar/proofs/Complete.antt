-- What is spelled so is read so.
use Rattle.std.proofs.Common.{◌≡◌, ℕ, zero, suc, ◌+◌, ◌≤◌, ◌<◌, Bool, eqb, true, false, List, [], ◌∷◌, ◌++◌, Option, Some, None, Ok, ◌⊎◌, inl, inr, refl, sym, ap, ◌∙◌, append_assoc, arith}
use Rattle.std.proofs.lemmas.Bool.{lt-ltb, ne_eqb}
use Rattle.std.proofs.lemmas.Bool.Decides.{eqb_tells}
use Rattle.std.proofs.lemmas.List.{append-nil}
use Rattle.own_tree.specs.declared.span.Span.{Span}
use Rattle.own_tree.specs.declared.token.Kind.{Kind}
use Rattle.own_tree.specs.declared.token.Kind.TheVariants as kind
use Rattle.own_tree.specs.declared.token.Mark.{Mark}
use Rattle.own_tree.specs.declared.token.Mark.TheVariants as mark
use Rattle.own_tree.specs.declared.token.Word.TheVariants as word
use Rattle.own_tree.specs.declared.tree.ClosureName.{ClosureName}
use Rattle.own_tree.specs.declared.tree.Name.{Name}
use Rattle.own_tree.specs.declared.tree.Path.{Path}
use Rattle.own_tree.specs.declared.tree.Keyword.{Keyword}
use Rattle.own_tree.specs.declared.tree.AssignOperator.{AssignOperator}
use Rattle.own_tree.specs.declared.tree.RangeOperator.{RangeOperator}
use Rattle.own_tree.specs.declared.tree.Root.{Root}
use Rattle.own_tree.specs.declared.tree.Root.TheVariants.{Named, SelfWord}
use Rattle.own_tree.specs.declared.tree.PrefixOperator.{PrefixOperator}
use Rattle.own_tree.specs.declared.tree.BinaryOperator.{BinaryOperator}
use Rattle.own_tree.specs.declared.tree.BinaryOperator.TheVariants as operator
use Rattle.own_tree.specs.Source.{Exp, number, text, truth, path, implicit_member, parenthesized, consumed, prefix, binary, choice, member, call, call_closing, call_closure, Given, value, address, closing, Args, no_args, arg, Clo, closure, Stm, let_in, declare, assign, ignore, discard_self, if_then, if_else, else_if, loop_while, loop_repeat, loop_for, switch, leave, go_on, return_none, return_value, evaluate, Stms, no_stms, stm, When, case_of, case_where, default, Clauses, no_clauses, clause, Blk, block, Pat, Pats, no_pats, pat}
use Rattle.own_tree.specs.View.{Arg, Cla}
use Rattle.own_grammar.specs.declared.Context.{Context}
use Rattle.own_grammar.specs.declared.Context.TheVariants.{Plain, Condition, Inside}
use Rattle.own_grammar.specs.Tests.{Toks, after, here, till, kind_at, is_mark, is_word, truth_at, root_at, operator_at, prefix_in, unary_at, opens, closes, word_is, mark_is, binder_at, keyword_at, assigns}
use Rattle.own_grammar.specs.Nesting.{exp_span, clo_span, level, chains, level_of, is_post, is_path, is_call, nest, nest_given, nest_args, nest_clo, nest_stm, nest_stms, nest_when, nest_clauses, nest_blk, stms_end, is_if, is_return}
use Rattle.own_grammar.specs.Levels.{levels_args, levels_blk, levels_clauses, levels_clo, levels_exp, levels_given, levels_stm, levels_stms, levels_when}
use Rattle.own_grammar.specs.Spells.{IsLeft, Labels, SpellsE, SpellsG, SpellsA, SpellsK, SpellsS, SpellsL, SpellsN, SpellsH, SpellsC, SpellsB, SpellsPats, Sep, Typed, Ignored}
use Rattle.own_grammar.specs.Reading.{◌>>=◌, on_some, Goal, expression, operand, operators_on, calls_on, arguments_on, Reader, parenthesized_with, implicit_with, literal_at, primary_with, post_with, prefix_with, consume_with, pre_with, level_with, next_with, operator_with, operators_with, branches_with, choice_with, expression_with, closure_with, address_with, given_with, argument_with, arguments_with, all_arguments_with, called_with, call_with, closing_with, member_with, calls_with, step, statement, statements_on, clause_on, clauses_on, body, typed_with, bound, bound_with, let_with, ignore_with, discard_with, else_with, if_with, while_with, repeat_with, upper_with, lower_with, for_with, switch_with, return_with, assign_with, evaluate_with, simple_with, statement_with, separated_with, statements_with, ends_clause, clause_statements_with, where_with, head_with, clause_with, clauses_with, block_with}
use Rattle.own_grammar.proofs.Facts.{number_kind, text_kind, name_kind, truth_kind, truth_word, root_kind, root_kind_of, at_mark, at_word, opens_kind, closes_kind, assigns_kind, label_name, unary_kind, negative_kind, no_negative, no_unary, negative_no_unary}
use Rattle.own_grammar.proofs.Edges.{sep_is, Breaks, After, after_sep, no_keyword, at_keyword, not_annotates, name_binder, mark_no_binder, not_clause, start_no_clause, keyword_no_clause, no_brace, stops_range, stops_assign, stops_condition, can_start, starts_at, starts_truth, starts_root, starts_prefix, no_word, no_mark, clash, level_in, Stops, stops_at, stops_brace, stops_question, stops_operator, not_opens, not_closes, weaker}
use Rattle.own_grammar.proofs.Within.{over}
use Rattle.own_grammar.proofs.Steps.{bind_is, le_tells}
use Rattle.own_grammar.proofs.Lists.{args_in, args_list, stms_in, stms_list, clauses_in, clauses_list, pats_in, pats_list}
use Rattle.own_grammar.proofs.Paths.{path_from_is, path_is, typed_is}
use Rattle.own_grammar.proofs.PatternsRead.{pats_are}

pub level_bounds : (o : BinaryOperator) → (1 ≤ level o) × (level o ≤ 5)
level_bounds operator.Or = (omega arith, omega arith)
level_bounds operator.And = (omega arith, omega arith)
level_bounds operator.Equal = (omega arith, omega arith)
level_bounds operator.Unequal = (omega arith, omega arith)
level_bounds operator.Less = (omega arith, omega arith)
level_bounds operator.LessEqual = (omega arith, omega arith)
level_bounds operator.Greater = (omega arith, omega arith)
level_bounds operator.GreaterEqual = (omega arith, omega arith)
level_bounds operator.Plus = (omega arith, omega arith)
level_bounds operator.Minus = (omega arith, omega arith)
level_bounds operator.PlusWrapping = (omega arith, omega arith)
level_bounds operator.MinusWrapping = (omega arith, omega arith)
level_bounds operator.Times = (omega arith, omega arith)
level_bounds operator.Divide = (omega arith, omega arith)
level_bounds operator.Remainder = (omega arith, omega arith)
level_bounds operator.TimesWrapping = (omega arith, omega arith)

-- ---- literals and roots

literal_number : (ts : Toks) (n : ℕ) → kind_at ts ≡ Some (kind.Number n) → literal_at ts ≡ Some (number (here ts) false n)
unfolding literal_at
literal_number ts n e = rw e refl

literal_text : (ts : Toks) (t : List ℕ) → kind_at ts ≡ Some (kind.Text t) → literal_at ts ≡ Some (text (here ts) t)
unfolding literal_at
literal_text ts t e = rw e refl

literal_truth : (ts : Toks) (b : Bool) → truth_at ts ≡ Some b → literal_at ts ≡ Some (truth (here ts) b)
unfolding literal_at
literal_truth ts b e = rw (truth_kind ts b e, e) refl

literal_mark : (ts : Toks) (x : Mark) → kind_at ts ≡ Some (kind.Mark x) → literal_at ts ≡ None
unfolding literal_at
literal_mark ts x e = rw e refl

pub literal_root : (r : Root) (ts : Toks) → root_at ts ≡ Some r → literal_at ts ≡ None
unfolding literal_at truth_at root_kind_of
literal_root (Named n) ts e = rw (root_kind ts (Named n) e) refl
literal_root (SelfWord s) ts e = rw (root_kind ts (SelfWord s) e) refl

root_mark : (x : Mark) (ts : Toks) → kind_at ts ≡ Some (kind.Mark x) → root_at ts ≡ None
unfolding root_at
root_mark x ts e = rw e refl

root_facts : (r : Root) → (prefix_in (Some (root_kind_of r)) ≡ None) × (word_is word.Consume (Some (root_kind_of r)) ≡ false)
unfolding root_kind_of
root_facts (Named n) = (refl, refl)
root_facts (SelfWord s) = (refl, refl)

truth_facts : (b : Bool) → word_is word.Consume (Some (kind.Word (truth_word b))) ≡ false
unfolding truth_word
truth_facts true = refl
truth_facts false = refl

module _ (most levels : ℕ) (R : Reader) (opened : (g : Goal) (d : ℕ) (ts : Toks) → R g d ts ≡ step most levels R g d ts) where
  -- ---- where the loops stop

  stop_by : (j : ℕ) (context : Context) (e : Exp) (d : ℕ) (ts : Toks) (x : Option BinaryOperator) → suc j < level_in x → on_some x (operator_with most R j context e d ts) (Ok (e, ts)) ≡ Ok (e, ts)
  unfolding operator_with
  stop_by j context e d ts None lt = refl
  stop_by j context e d ts (Some o) lt = rw (ne_eqb (level o) (suc j) (λ same. omega (arith, lt, same))) refl

  operators_stop : (j : ℕ) (context : Context) (e : Exp) (d : ℕ) (ts : Toks) → suc j < level_in (operator_at ts) → R (operators_on j context e) d ts ≡ Ok (e, ts)
  unfolding step operators_with
  operators_stop j context e d ts lt = opened (operators_on j context e) d ts ∙ stop_by j context e d ts (operator_at ts) lt

  same_level : (o : BinaryOperator) (j : ℕ) → level o ≡ suc j → eqb (level o) (suc j) ≡ true
  same_level o j e = elim (eqb_tells (level o) (suc j)) [ inl y ↦ y.0 | inr n ↦ absurd (n.1 e) ]

  operators_step : (j : ℕ) (context : Context) (a : Exp) (d : ℕ) (ts : Toks) (o : BinaryOperator) → operator_at ts ≡ Some o → level o ≡ suc j → d + nest a < most
      → R (operators_on j context a) d ts ≡ (level_with most R j context (d + 1) (after ts) >>= λ b. next_with R (chains (suc j)) j context d (binary (till (exp_span a) (exp_span b.0)) o (here ts) a b.0) b.1)
  unfolding step operators_with operator_with
  operators_step j context a d ts o is same lt = opened (operators_on j context a) d ts ∙ rw (is, same_level o j same, lt-ltb _ _ lt) refl

  calls_stop : (context : Context) (f : Exp) (d : ℕ) (ts : Toks) → opens context ts ≡ false → closes context ts ≡ false → is_mark mark.Dot ts ≡ false → R (calls_on context f) d ts ≡ Ok (f, ts)
  unfolding step calls_with
  calls_stop context f d ts e c p = opened (calls_on context f) d ts ∙ rw (e, c, p) refl

  next_stop : (b : Bool) (j : ℕ) (context : Context) (e : Exp) (d : ℕ) (ts : Toks) → suc j < level_in (operator_at ts) → next_with R b j context d e ts ≡ Ok (e, ts)
  unfolding next_with
  next_stop true j context e d ts lt = operators_stop j context e d ts lt
  next_stop false j context e d ts lt = refl

  -- ---- what is known of an expression that is spelled

  pub record Own (tight : Bool) (context : Context) (d : ℕ) (e : Exp) (from to : Toks) : Type 0 where
    pub begins : can_start (kind_at from) ≡ true
    pub unled : is_post e ≡ true → (unary_at tight from ≡ None) × (is_word word.Consume from ≡ false)
    pub post : is_post e ≡ true → (is_call e ≡ true → closes context to ≡ false) → (is_path e ≡ true → is_mark mark.Dot to ≡ false) → post_with R tight context d from ≡ R (calls_on context e) d to
    pub pre : level_of e ≡ 0 → Stops 0 context to → pre_with most R tight context d from ≡ Ok (e, to)
    pub chain : tight ≡ false → (j : ℕ) → j < 5 → level_of e ≡ suc j → Stops j context to → level_with most R (suc j) context d from ≡ next_with R (chains (suc j)) j context d e to
    pub whole : tight ≡ false → 5 < level_of e → Stops 6 context to → expression_with most R context d from ≡ Ok (e, to)

  abbrev Good : Exp → Type 0
  Good e = (tight : Bool) (context : Context) (d : ℕ) (from to : Toks) → SpellsE e tight context from to → over most levels d (nest e) (levels_exp e) ≤ 0 → Own tight context d e from to

  -- at its own level
  at_level : (j : ℕ) (e : Exp) (context : Context) (d : ℕ) (from to : Toks) → j < 5 → Own false context d e from to → level_of e ≡ suc j → Stops (suc j) context to → level_with most R (suc j) context d from ≡ Ok (e, to)
  at_level j e context d from to lt own is st = own.chain refl j lt is (weaker (suc j) j context to (omega arith) st) ∙ next_stop (chains (suc j)) j context e d to st.above

  pub reads : (n : ℕ) (e : Exp) (context : Context) (d : ℕ) (from to : Toks) → n ≤ 5 → Own false context d e from to → level_of e ≤ n → Stops n context to → level_with most R n context d from ≡ Ok (e, to)
  unfolding level_with
  reads zero e context d from to small own le st = own.pre (omega arith) st
  reads (suc j) e context d from to small own le st = elim (le_tells (level_of e) j) [
    | inl low ↦ bind_is (level_with most R j context d from) (λ x. R (operators_on j context x.0) d x.1) (e, to) (reads j e context d from to (omega (arith, small)) own low (weaker (suc j) j context to (omega arith) st)) ∙ operators_stop j context e d to st.above
    | inr high ↦ at_level j e context d from to (omega (arith, small)) own (omega (arith, high, le)) st
  ]

  spine_high : (o : BinaryOperator) (j : ℕ) (a : Exp) (context : Context) (d : ℕ) (from to : Toks) → j < 5 → Own false context d a from to → chains (level o) ≡ true → level o ≡ suc j → level_of a ≡ suc j → Stops j context to → level_with most R (suc j) context d from ≡ R (operators_on j context a) d to
  unfolding next_with
  spine_high o j a context d from to lt own ch same is st = own.chain refl j lt is st ∙ ap (λ (y : Bool). next_with R y j context d a to) (ap chains (sym same) ∙ ch)

  left_level : (c : Bool) (n l j : ℕ) → IsLeft c n l → n ≡ suc j → (l ≤ j) ⊎ ((c ≡ true) × (l ≡ suc j))
  left_level true n l j left same = elim (le_tells l j) [ inl low ↦ inl low | inr high ↦ inr (refl, omega (arith, left, same, high)) ]
  left_level false n l j left same = inl (omega (arith, left, same))

  -- what stands left of an operator
  spine : (o : BinaryOperator) (j : ℕ) (a : Exp) (context : Context) (d : ℕ) (from to : Toks) → j < 5 → Own false context d a from to → IsLeft (chains (level o)) (level o) (level_of a) → level o ≡ suc j → Stops j context to → level_with most R (suc j) context d from ≡ R (operators_on j context a) d to
  unfolding level_with
  spine o j a context d from to lt own left same st = elim (left_level (chains (level o)) (level o) (level_of a) j left same) [
    | inl low ↦ bind_is (level_with most R j context d from) (λ x. R (operators_on j context x.0) d x.1) (a, to) (reads j a context d from to (omega (arith, lt)) own low st)
    | inr high ↦ spine_high o j a context d from to lt own high.0 same high.1 st
  ]

  no_choice : (context : Context) (d : ℕ) (e : Exp) (ts : Toks) → is_mark mark.Question ts ≡ false → choice_with most R context d e ts ≡ Ok (e, ts)
  unfolding choice_with
  no_choice context d e ts isnt = rw isnt refl

  pub expression_is : (e : Exp) (context : Context) (d : ℕ) (from to : Toks) → Own false context d e from to → Stops 6 context to → expression_with most R context d from ≡ Ok (e, to)
  unfolding expression_with
  expression_is e context d from to own st = elim (le_tells (level_of e) 5) [
    | inl low ↦ bind_is (level_with most R 5 context d from) (λ c. choice_with most R context d c.0 c.1) (e, to) (reads 5 e context d from to (omega arith) own low (weaker 6 5 context to (omega arith) st)) ∙ no_choice context d e to (st.question (omega arith))
    | inr high ↦ own.whole refl high st
  ]

  pub expression_at : (e : Exp) (context : Context) (d : ℕ) (from to : Toks) → Good e → SpellsE e false context from to → Stops 6 context to → over most levels d (nest e) (levels_exp e) ≤ 0 → expression_with most R context d from ≡ Ok (e, to)
  expression_at e context d from to good sp st fit = expression_is e context d from to (good false context d from to sp fit) st

  -- after a token
  pub expression_goal : (e : Exp) (context : Context) (d : ℕ) (from to : Toks) → Good e → SpellsE e false context from to → Stops 6 context to → over most levels d (nest e) (levels_exp e) ≤ 0 → R (expression context) d from ≡ Ok (e, to)
  unfolding step
  expression_goal e context d from to good sp st fit = opened (expression context) d from ∙ expression_at e context d from to good sp st fit

  -- ---- each production

  own_post : (e : Exp) (tight : Bool) (context : Context) (d : ℕ) (from to : Toks) → is_post e ≡ true → level_of e ≡ 0 → d < most → can_start (kind_at from) ≡ true → unary_at tight from ≡ None → is_word word.Consume from ≡ false
      → ((is_call e ≡ true → closes context to ≡ false) → (is_path e ≡ true → is_mark mark.Dot to ≡ false) → post_with R tight context d from ≡ R (calls_on context e) d to) → Own tight context d e from to
  unfolding pre_with
  own_post e tight context d from to is low lt start unled kept p = record {
    begins = start;
    unled = λ _. (unled, kept);
    post = λ _ cl dot. p cl dot;
    pre = λ _ st. rw (lt-ltb d most lt, unled, kept) (p (λ _. st.closes) (λ _. st.dot) ∙ calls_stop context e d to st.opens st.closes st.dot);
    chain = λ _ j less same st. absurd (omega (arith, low, same));
    whole = λ _ high st. absurd (omega (arith, low, high));
  }

  own_pre : (e : Exp) (tight : Bool) (context : Context) (d : ℕ) (from to : Toks) → is_post e ≡ false → level_of e ≡ 0 → can_start (kind_at from) ≡ true
      → (Stops 0 context to → pre_with most R tight context d from ≡ Ok (e, to)) → Own tight context d e from to
  own_pre e tight context d from to isnt low start p = record {
    begins = start;
    unled = λ is. absurd (clash _ is isnt);
    post = λ is cl dot. absurd (clash _ is isnt);
    pre = λ _ st. p st;
    chain = λ _ j less same st. absurd (omega (arith, low, same));
    whole = λ _ high st. absurd (omega (arith, low, high));
  }

  own_number : (s : Span) (negative : Bool) (n : ℕ) → Good (number s negative n)
  unfolding post_with primary_with
  own_number s false n tight context d from to (num, is_to, is_s) fit = let k = number_kind from n num in
      rw (is_s, is_to) (own_post (number (here from) false n) tight context d from (after from) refl refl (omega arith) (starts_at from _ k refl) (no_unary tight from _ k refl) (at_word word.Consume from _ k)
      (λ cl dot. rw (no_negative tight from _ k refl, literal_number from n k) refl))
  own_number s true n tight context d from to (num, is_to, is_s) fit = let k = (negative_kind tight from n num).0 in
      rw (is_s, is_to) (own_post (number (till (here from) (here (after from))) true n) tight context d from (after (after from)) refl refl (omega arith) (starts_at from _ k refl) (negative_no_unary tight from n num) (at_word word.Consume from _ k)
      (λ cl dot. rw num refl))

  own_text : (s : Span) (t : List ℕ) → Good (text s t)
  unfolding post_with primary_with
  own_text s t tight context d from to (txt, is_to, is_s) fit = let k = text_kind from t txt in
      rw (is_s, is_to) (own_post (text (here from) t) tight context d from (after from) refl refl (omega arith) (starts_at from _ k refl) (no_unary tight from _ k refl) (at_word word.Consume from _ k)
      (λ cl dot. rw (no_negative tight from _ k refl, literal_text from t k) refl))

  own_truth : (s : Span) (b : Bool) → Good (truth s b)
  unfolding post_with primary_with
  own_truth s b tight context d from to (tr, is_to, is_s) fit = let k = truth_kind from b tr in
      rw (is_s, is_to) (own_post (truth (here from) b) tight context d from (after from) refl refl (omega arith) (starts_at from _ k (starts_truth b)) (no_unary tight from _ k refl) (at_word word.Consume from _ k ∙ truth_facts b)
      (λ cl dot. rw (no_negative tight from _ k refl, literal_truth from b tr) refl))

  own_path : (p : Path) → Good (path p)
  unfolding post_with primary_with
  own_path p tight context d from to sp fit = let k = root_kind from p.root sp.0 in let f = root_facts p.root in
      own_post (path p) tight context d from to refl refl (omega arith) (starts_at from _ k (starts_root p.root)) (no_unary tight from _ k f.0) (at_word word.Consume from _ k ∙ f.1)
      (λ cl dot. rw (no_negative tight from _ k f.0, literal_root p.root from sp.0, sp.0, path_from_is p from to sp (dot refl)) refl)

  own_implicit : (s : Span) (n : Name) → Good (implicit_member s n)
  unfolding post_with primary_with implicit_with
  own_implicit s n tight context d from to (c, is_to, is_s) fit = let k = c.0 in
      rw (is_s, is_to) (own_post (implicit_member (till (here from) (here (after from))) n) tight context d from (after (after from)) refl refl (omega arith) (starts_at from _ k refl) (no_unary tight from _ k refl) (at_word word.Consume from _ k)
      (λ cl dot. rw (no_negative tight from _ k refl, literal_mark from _ k, root_mark _ from k, at_mark mark.Dot from _ k, c.1) refl))

  own_parenthesized : (s : Span) (e : Exp) → Good e → Good (parenthesized s e)
  unfolding post_with primary_with parenthesized_with
  own_parenthesized s e good tight context d from to (k, mid, sp, close, is_to, is_s) fit =
      rw (is_s, is_to) (own_post (parenthesized (till (here from) (here mid)) e) tight context d from (after mid) refl refl (omega (arith, fit)) (starts_at from _ k refl) (no_unary tight from _ k refl) (at_word word.Consume from _ k)
      (λ cl dot. rw (
        no_negative tight from _ k refl,
        literal_mark from _ k,
        root_mark _ from k,
        at_mark mark.Dot from _ k,
        at_mark mark.OpenParen from _ k,
        expression_goal e Inside (d + 1) (after from) mid good sp (stops_at 6 Inside mid _ (omega arith) close refl) (omega (arith, fit)),
        at_mark mark.CloseParen mid _ close,
      ) refl))

  own_consumed : (s : Span) (p : Path) → Good (consumed s p)
  unfolding pre_with consume_with
  own_consumed s p tight context d from to (k, sp, is_s) fit =
      rw is_s (own_pre (consumed (till (here from) p.span) p) tight context d from to refl refl (starts_at from _ k refl)
      (λ st. rw (lt-ltb d most (omega (arith, fit)), no_unary tight from _ k refl, at_word word.Consume from _ k, lt-ltb (d + 1) most (omega (arith, fit)), path_is p (after from) to sp st.dot) refl))

  operand_goal : (e : Exp) (context : Context) (d : ℕ) (from to : Toks) → Own true context d e from to → level_of e ≡ 0 → Stops 0 context to → R (operand context) d from ≡ Ok (e, to)
  unfolding step
  operand_goal e context d from to own low st = opened (operand context) d from ∙ own.pre low st

  own_prefix : (s : Span) (o : PrefixOperator) (e : Exp) → Good e → Good (prefix s o e)
  unfolding pre_with prefix_with
  own_prefix s o e good tight context d from to (un, sp, low, is_s) fit =
      rw is_s (own_pre (prefix (till (here from) (exp_span e)) o e) tight context d from to refl refl (starts_at from _ (unary_kind tight from o un) (starts_prefix o))
      (λ st. rw (lt-ltb d most (omega (arith, fit)), un, operand_goal e context (d + 1) (after from) to (good true context (d + 1) (after from) to sp (omega (arith, fit))) low st) refl))

  binary_chain : (s : Span) (o : BinaryOperator) (at_ : Span) (a b : Exp) (tight : Bool) (context : Context) (d : ℕ) (from mid to : Toks) → tight ≡ false → Own tight context d a from mid → Own false context (d + 1) b (after mid) to → IsLeft (chains (level o)) (level o) (level_of a)
      → operator_at mid ≡ Some o → at_ ≡ here mid → level_of b < level o → s ≡ till (exp_span a) (exp_span b) → d + nest a < most → (j : ℕ) → j < 5 → level o ≡ suc j → Stops j context to
      → level_with most R (suc j) context d from ≡ next_with R (chains (suc j)) j context d (binary s o at_ a b) to
  binary_chain s o at_ a b true context d from mid to loose oa ob left is is_at right is_s fit j less same st = absurd cc
  binary_chain s o at_ a b false context d from mid to loose oa ob left is is_at right is_s fit j less same st =
      spine o j a context d from mid less oa left same (stops_operator j context mid o is (omega (arith, same)))
      ∙ operators_step j context a d mid o is same fit
      ∙ bind_is (level_with most R j context (d + 1) (after mid)) (λ x. next_with R (chains (suc j)) j context d (binary (till (exp_span a) (exp_span x.0)) o (here mid) a x.0) x.1) (b, to) (reads j b context (d + 1) (after mid) to (omega (arith, less)) ob (omega (arith, right, same)) st)
      ∙ rw (is_s, is_at) refl

  own_binary : (s : Span) (o : BinaryOperator) (at_ : Span) (a b : Exp) → Good a → Good b → Good (binary s o at_ a b)
  own_binary s o at_ a b ga gb tight context d from to (mid, spa, left, is, is_at, spb, right, is_s) fit =
      let oa = ga tight context d from mid spa (omega (arith, fit)) in
      let ob = gb false context (d + 1) (after mid) to spb (omega (arith, fit)) in
      let bounds = level_bounds o in
      record {
        begins = oa.begins;
        unled = λ e. absurd cc;
        post = λ e cl dot. absurd cc;
        pre = λ e st. absurd (omega (arith, bounds.0, e));
        chain = λ loose j less same st. binary_chain s o at_ a b tight context d from mid to loose oa ob left is is_at right is_s (omega (arith, fit)) j less same st;
        whole = λ loose high st. absurd (omega (arith, bounds.1, high));
      }

  choice_whole : (s : Span) (c a b : Exp) (tight : Bool) (context : Context) (d : ℕ) (from mid last to : Toks) → tight ≡ false → Own tight context d c from mid → level_of c < 6 → kind_at mid ≡ Some (kind.Mark mark.Question)
      → R (expression context) (d + 1) (after mid) ≡ Ok (a, last) → kind_at last ≡ Some (kind.Mark mark.Colon) → R (expression context) (d + 1) (after last) ≡ Ok (b, to) → s ≡ till (exp_span c) (exp_span b) → d + nest c < most
      → expression_with most R context d from ≡ Ok (choice s c a b, to)
  unfolding expression_with choice_with branches_with
  choice_whole s c a b true context d from mid last to loose oc low q ra colon rb is_s fit = absurd cc
  choice_whole s c a b false context d from mid last to loose oc low q ra colon rb is_s fit =
      rw (reads 5 c context d from mid (omega arith) oc (omega (arith, low)) (stops_question 5 context mid (omega arith) q), at_mark mark.Question mid _ q, lt-ltb (d + nest c) most fit, ra, at_mark mark.Colon last _ colon, rb, is_s) refl

  own_choice : (s : Span) (c a b : Exp) → Good c → Good a → Good b → Good (choice s c a b)
  own_choice s c a b gc ga gb tight context d from to (mid, last, spc, low, q, spa, colon, spb, is_s) fit =
      let oc = gc tight context d from mid spc (omega (arith, fit)) in
      record {
        begins = oc.begins;
        unled = λ e. absurd cc;
        post = λ e cl dot. absurd cc;
        pre = λ e st. absurd cc;
        chain = λ loose j less same st. absurd (omega (arith, less, same));
        whole = λ loose high st. choice_whole s c a b tight context d from mid last to loose oc low q
            (expression_goal a context (d + 1) (after mid) last ga spa (stops_at 6 context last _ (omega arith) colon refl) (omega (arith, fit))) colon
            (expression_goal b context (d + 1) (after last) to gb spb st (omega (arith, fit))) is_s (omega (arith, fit));
      }

  -- ---- closures and arguments

  abbrev GoodK : Clo → Type 0
  GoodK c = (d : ℕ) (from to : Toks) → SpellsK c from to → over most levels d (nest_clo c) (levels_clo c) ≤ 0 → closure_with most R d from ≡ Ok (c, to)

  closure_begins : (c : Clo) (from to : Toks) → SpellsK c from to → kind_at from ≡ Some (kind.Mark mark.OpenBrace)
  closure_begins (closure s ns ss) from to sp = sp.0

  record Gives (d : ℕ) (g : Given) (from to : Toks) : Type 0 where
    pub reads : given_with most R d from ≡ Ok (g, to)
    pub begins : is_mark mark.CloseParen from ≡ false

  abbrev GoodG : Given → Type 0
  GoodG g = (d : ℕ) (from to : Toks) → SpellsG g from to → Stops 6 Inside to → over most levels d (nest_given g) (levels_given g) ≤ 0 → Gives d g from to

  gives_value : (e : Exp) → Good e → GoodG (value e)
  unfolding given_with
  gives_value e good d from to sp st fit = let o = good false Inside d from to sp fit in record {
    reads = rw (no_mark mark.Ampersand from refl o.begins, no_mark mark.OpenBrace from refl o.begins, expression_is e Inside d from to o st) refl;
    begins = no_mark mark.CloseParen from refl o.begins;
  }

  gives_address : (s : Span) (p : Path) → GoodG (address s p)
  unfolding given_with address_with
  gives_address s p d from to (k, sp, is_s) st fit = record {
    reads = rw (is_s, at_mark mark.Ampersand from _ k, lt-ltb d most (omega (arith, fit)), path_is p (after from) to sp st.dot) refl;
    begins = at_mark mark.CloseParen from _ k;
  }

  gives_closure : (c : Clo) → GoodK c → GoodG (closing c)
  unfolding given_with
  gives_closure c good d from to sp st fit = let k = closure_begins c from to sp in record {
    reads = rw (at_mark mark.Ampersand from _ k, at_mark mark.OpenBrace from _ k, good d from to sp fit) refl;
    begins = at_mark mark.CloseParen from _ k;
  }

  argument_is : (l : Option Name) (g : Given) (d : ℕ) (from start to : Toks) → Labels l from start → given_with most R (d + 1) start ≡ Ok (g, to) → argument_with most R d from ≡ Ok ((l, g), to)
  unfolding argument_with
  argument_is (Some x) g d from start to (is, at_) r = rw (is, ← at_, r) refl
  argument_is None g d from start to (is, at_) r = rw (is, ← at_, r) refl

  abbrev More : Args → Type 0
  More es = (l : Option Name) (g : Given) → GoodG g → (xs : List Arg) (d : ℕ) (from to : Toks) → SpellsA (arg l g es) from to → kind_at to ≡ Some (kind.Mark mark.CloseParen) → over most levels d (suc (nest_args (arg l g es))) (levels_args (arg l g es)) ≤ 0
      → arguments_with most R xs d from ≡ Ok (xs ++ args_in (arg l g es), to)

  more_none : More no_args
  unfolding arguments_with args_in
  more_none l g good xs d from to (start, lab, sp) close fit =
      let o = good (d + 1) start to sp (stops_at 6 Inside to _ (omega arith) close refl) (omega (arith, fit)) in
      rw (argument_is l g d from start to lab o.reads, at_mark mark.Comma to _ close) refl

  more_arg : (l' : Option Name) (g' : Given) (es : Args) → GoodG g' → More es → More (arg l' g' es)
  unfolding arguments_with args_in step
  more_arg l' g' es good' rest l g good xs d from to (start, mid, lab, sp, comma, sps) close fit =
      let o = good (d + 1) start mid sp (stops_at 6 Inside mid _ (omega arith) comma refl) (omega (arith, fit)) in
      rw (argument_is l g d from start mid lab o.reads, at_mark mark.Comma mid _ comma, opened (arguments_on (xs ++ (l, g) ∷ [])) d (after mid), rest l' g' good' (xs ++ (l, g) ∷ []) d (after mid) to sps close (omega (arith, fit)))
      (ap (λ (ys : List Arg). Ok (ys, to)) (append_assoc xs ((l, g) ∷ []) (args_in (arg l' g' es))))

  -- the first argument is no parenthesis
  first_argument : (l : Option Name) (from start : Toks) → Labels l from start → is_mark mark.CloseParen start ≡ false → is_mark mark.CloseParen from ≡ false
  first_argument (Some x) from start (is, at_) st = at_mark mark.CloseParen from _ (name_kind from x (label_name from x is))
  first_argument None from start (is, at_) st = rw at_ at st

  abbrev GoodA : Args → Type 0
  GoodA es = (d : ℕ) (from to : Toks) → SpellsA es from to → kind_at to ≡ Some (kind.Mark mark.CloseParen) → over most levels d (suc (nest_args es)) (levels_args es) ≤ 0 → all_arguments_with most R d from ≡ Ok (args_in es, to)

  args_none : GoodA no_args
  unfolding all_arguments_with args_in
  args_none d from to is close fit = rw (← is, at_mark mark.CloseParen to _ close) refl

  args_more : (l : Option Name) (g : Given) (es : Args) → GoodG g → More es → GoodA (arg l g es)
  unfolding all_arguments_with
  args_more l g es good more d from to sp close fit = rw (starts_arg es sp close fit) (more l g good [] d from to sp close fit)
    where
      starts_arg : (fs : Args) → SpellsA (arg l g fs) from to → kind_at to ≡ Some (kind.Mark mark.CloseParen) → over most levels d (suc (nest_args (arg l g fs))) (levels_args (arg l g fs)) ≤ 0 → is_mark mark.CloseParen from ≡ false
      starts_arg no_args (start, lab, one) end lt = first_argument l from start lab (good (d + 1) start to one (stops_at 6 Inside to _ (omega arith) end refl) (omega (arith, lt))).begins
      starts_arg (arg l' g' fs) (start, mid, lab, one, comma, others) end lt = first_argument l from start lab (good (d + 1) start mid one (stops_at 6 Inside mid _ (omega arith) comma refl) (omega (arith, lt))).begins

  -- ---- calls and members

  no_dot_at : (ts : Toks) (x : Option Kind) → kind_at ts ≡ x → mark_is mark.Dot x ≡ false → is_mark mark.Dot ts ≡ false
  no_dot_at ts x e isnt = at_mark mark.Dot ts x e ∙ isnt

  -- up to the closing parenthesis
  opened_call : (f : Exp) (es : Args) (tight : Bool) (context : Context) (d : ℕ) (from mid last : Toks) → Own tight context d f from mid → GoodA es → is_post f ≡ true → opens context mid ≡ true → SpellsA es (after mid) last → kind_at last ≡ Some (kind.Mark mark.CloseParen)
      → d + nest f < most → over most levels d (suc (nest_args es)) (levels_args es) ≤ 0 → post_with R tight context d from ≡ called_with most R context f d (args_in es) last
  unfolding step calls_with call_with
  opened_call f es tight context d from mid last o good is lp sps close lt fit = let k = opens_kind context mid lp in
      o.post is (λ _. not_closes context mid _ k refl) (λ _. no_dot_at mid _ k refl) ∙ opened (calls_on context f) d mid ∙ rw (lp, lt-ltb _ _ lt, good d (after mid) last sps close fit) refl

  own_call : (s : Span) (f : Exp) (es : Args) → Good f → GoodA es → Good (call s f es)
  unfolding called_with
  own_call s f es good goods tight context d from to (mid, last, sp, is, lp, sps, close, is_to, is_s) fit =
      let o = good tight context d from mid sp (omega (arith, fit)) in let u = o.unled is in
      rw (is_s, is_to) (own_post (call (till (exp_span f) (here last)) f es) tight context d from (after last) refl refl (omega (arith, fit)) o.begins u.0 u.1
      (λ cl dot. opened_call f es tight context d from mid last o goods is lp sps close (omega (arith, fit)) (omega (arith, fit)) ∙ rw (at_mark mark.CloseParen last _ close, cl refl, args_list es) refl))

  own_call_closing : (s : Span) (f : Exp) (es : Args) (c : Clo) → Good f → GoodA es → GoodK c → Good (call_closing s f es c)
  unfolding called_with
  own_call_closing s f es c good goods goodk tight context d from to (mid, last, sp, is, lp, sps, close, lb, spk, is_s) fit =
      let o = good tight context d from mid sp (omega (arith, fit)) in let u = o.unled is in
      rw is_s (own_post (call_closing (till (exp_span f) (clo_span c)) f es c) tight context d from to refl refl (omega (arith, fit)) o.begins u.0 u.1
      (λ cl dot. opened_call f es tight context d from mid last o goods is lp sps close (omega (arith, fit)) (omega (arith, fit))
      ∙ rw (at_mark mark.CloseParen last _ close, lb, goodk (d + 1) (after last) to spk (omega (arith, fit)), args_list es) refl))

  own_call_closure : (s : Span) (f : Exp) (c : Clo) → Good f → GoodK c → Good (call_closure s f c)
  unfolding step calls_with closing_with
  own_call_closure s f c good goodk tight context d from to (mid, sp, is, isnt, lb, spk, is_s) fit =
      let o = good tight context d from mid sp (omega (arith, fit)) in let u = o.unled is in let k = closes_kind context mid lb in
      rw is_s (own_post (call_closure (till (exp_span f) (clo_span c)) f c) tight context d from to refl refl (omega (arith, fit)) o.begins u.0 u.1
      (λ cl dot. o.post is (λ y. absurd (clash _ y isnt)) (λ _. no_dot_at mid _ k refl) ∙ opened (calls_on context f) d mid
      ∙ rw (not_opens context mid _ k refl, lb, lt-ltb (d + nest f) most (omega (arith, fit)), goodk (d + 1) mid to spk (omega (arith, fit))) refl))

  own_member : (s : Span) (e : Exp) (n : Name) → Good e → Good (member s e n)
  unfolding step calls_with member_with
  own_member s e n good tight context d from to (mid, sp, is, isnt, c, is_to, is_s) fit =
      let o = good tight context d from mid sp (omega (arith, fit)) in let u = o.unled is in let k = c.0 in
      rw (is_s, is_to) (own_post (member (till (exp_span e) (here (after mid))) e n) tight context d from (after (after mid)) refl refl (omega (arith, fit)) o.begins u.0 u.1
      (λ cl dot. o.post is (λ _. not_closes context mid _ k refl) (λ y. absurd (clash _ y isnt)) ∙ opened (calls_on context e) d mid
      ∙ rw (not_opens context mid _ k refl, not_closes context mid _ k refl, at_mark mark.Dot mid _ k, lt-ltb (d + nest e) most (omega (arith, fit)), c.1) refl))

  -- ---- statements

  -- each statement, and how it begins
  record Does (d : ℕ) (s : Stm) (from to : Toks) : Type 0 where
    pub reads : statement_with most R d from ≡ Ok (s, to)
    pub begins : ends_clause from ≡ false
    pub when : is_if s ≡ true → kind_at from ≡ Some (kind.Word word.If)

  abbrev GoodS : Stm → Type 0
  GoodS s = (d : ℕ) (from to : Toks) → SpellsS s from to → After (is_return s) to → over most levels d (nest_stm s) (levels_stm s) ≤ 0 → Does d s from to

  abbrev GoodB : Blk → Type 0
  GoodB b = (d : ℕ) (from to : Toks) → SpellsB b from to → over most levels d (nest_blk b) (levels_blk b) ≤ 0 → R body d from ≡ Ok (b, to)

  -- a block begins with its brace
  block_begins : (b : Blk) (from to : Toks) → SpellsB b from to → kind_at from ≡ Some (kind.Mark mark.OpenBrace)
  block_begins (block s ss) from to sp = sp.0

  -- a condition before a block
  condition_is : (c : Exp) (b : Blk) (d : ℕ) (from mid to : Toks) → Good c → SpellsE c false Condition from mid → SpellsB b mid to → over most levels d (nest c) (levels_exp c) ≤ 0 → R (expression Condition) d from ≡ Ok (c, mid)
  condition_is c b d from mid to good sp spb fit = expression_goal c Condition d from mid good sp (stops_brace 6 mid (omega arith) (block_begins b mid to spb)) fit

  -- after `let` or `var` and what they bind
  let_is : (k : Keyword) (n : Option Name) (d : ℕ) (from : Toks) → d < most → keyword_at from ≡ Some k → binder_at (after from) ≡ Some n → statement_with most R d from ≡ (typed_with (after (after from)) >>= λ t. bound_with R d from k n t.0 t.1)
  unfolding statement_with let_with
  let_is k n d from lt kw nm = rw (lt-ltb d most lt, kw, nm) refl

  bound_is : (k : Keyword) (n t : Option Name) (e : Exp) (d : ℕ) (from mid to : Toks) → Good e → Typed t (after (after from)) mid → assigns mid ≡ true → SpellsE e false Plain (after mid) to → Breaks to → over most levels (d + 1) (nest e) (levels_exp e) ≤ 0
      → (typed_with (after (after from)) >>= λ u. bound_with R d from k n u.0 u.1) ≡ Ok (bound (till (here from) (exp_span e)) k n t e, to)
  unfolding bound_with
  bound_is k n t e d from mid to good ty eq sp br fit =
      rw (typed_is t (after (after from)) mid ty (not_annotates mid _ (assigns_kind mid eq) refl), eq, expression_goal e Plain (d + 1) (after mid) to good sp br.stops fit) refl

  does_let : (s : Span) (k : Keyword) (n : Name) (t : Option Name) (e : Exp) → Good e → GoodS (let_in s k n t e)
  does_let s k n t e good d from to (kw, nm, mid, ty, eq, sp, is_s) br fit = record {
    begins = keyword_no_clause from k kw;
    when = λ is. absurd cc;
    reads = let_is k (Some n) d from (omega (arith, fit)) kw (name_binder (after from) n nm) ∙ bound_is k (Some n) t e d from mid to good ty eq sp br (omega (arith, fit)) ∙ rw is_s refl;
  }

  does_declare : (s : Span) (k : Keyword) (n t : Option Name) → GoodS (declare s k n t)
  unfolding bound_with
  does_declare s k n t d from to (kw, nm, ty, is_s) br fit = record {
    begins = keyword_no_clause from k kw;
    when = λ is. absurd cc;
    reads = let_is k n d from (omega (arith, fit)) kw nm ∙ rw (typed_is t (after (after from)) to ty br.annotates, br.assigns, is_s) refl;
  }

  ignore_by : (s : Span) (t : Option Name) (e : Exp) (d : ℕ) (from mid to : Toks) → Good e → Ignored t from mid → SpellsE e false Plain (after mid) to → Breaks to → over most levels (d + 1) (nest e) (levels_exp e) ≤ 0 → s ≡ till (here from) (exp_span e) → Does d (ignore s t e) from to
  unfolding statement_with simple_with ignore_with
  ignore_by s t e d from mid to good (inl (k, none, eq, at_)) sp br fit is_s =
      let spe : SpellsE e false Plain (after (after from)) to = rw at_ at sp in record {
        begins = not_clause from _ k refl refl refl;
        when = λ is. absurd cc;
        reads = rw (
          is_s,
          none,
          lt-ltb d most (omega (arith, fit)),
          at_keyword from _ k,
          at_word word.If from _ k,
          at_word word.While from _ k,
          at_word word.Repeat from _ k,
          at_word word.For from _ k,
          at_word word.Switch from _ k,
          at_mark mark.Underscore from _ k,
          at_mark mark.Assign (after from) _ eq,
          expression_goal e Plain (d + 1) (after (after from)) to good spe br.stops fit,
        ) refl;
      }
  ignore_by s t e d from mid to good (inr (w, kw, nm, ty, eq)) sp br fit is_s = record {
    begins = keyword_no_clause from w kw;
    when = λ is. absurd cc;
    reads = let_is w None d from (omega (arith, fit)) kw (mark_no_binder (after from) nm) ∙ bound_is w None t e d from mid to good ty eq sp br fit ∙ rw is_s refl;
  }

  does_ignore : (s : Span) (t : Option Name) (e : Exp) → Good e → GoodS (ignore s t e)
  does_ignore s t e good d from to (mid, ig, sp, is_s) br fit = ignore_by s t e d from mid to good ig sp br (omega (arith, fit)) is_s

  does_discard : (s : Span) → GoodS (discard_self s)
  unfolding statement_with simple_with discard_with
  does_discard s d from to (k, self, is_to, is_s) br fit = record {
    begins = not_clause from _ k refl refl refl;
    when = λ is. absurd cc;
    reads = rw (
      is_s,
      is_to,
      lt-ltb d most (omega (arith, fit)),
      at_keyword from _ k,
      at_word word.If from _ k,
      at_word word.While from _ k,
      at_word word.Repeat from _ k,
      at_word word.For from _ k,
      at_word word.Switch from _ k,
      at_mark mark.Underscore from _ k,
      at_word word.Discard from _ k,
      at_word word.SelfValue (after from) _ self,
    ) refl;
  }

  does_while : (s : Span) (c : Exp) (b : Blk) → Good c → GoodB b → GoodS (loop_while s c b)
  unfolding statement_with while_with
  does_while s c b good goodb d from to (k, mid, sp, spb, is_s) br fit = record {
    begins = not_clause from _ k refl refl refl;
    when = λ is. absurd cc;
    reads = rw (
      is_s,
      lt-ltb d most (omega (arith, fit)),
      at_keyword from _ k,
      at_word word.If from _ k,
      at_word word.While from _ k,
      condition_is c b (d + 1) (after from) mid to good sp spb (omega (arith, fit)),
      goodb (d + 1) mid to spb (omega (arith, fit)),
    ) refl;
  }

  does_repeat : (s : Span) (b : Blk) (c : Exp) → GoodB b → Good c → GoodS (loop_repeat s b c)
  unfolding statement_with repeat_with
  does_repeat s b c goodb good d from to (k, mid, spb, w, sp, is_s) br fit = record {
    begins = not_clause from _ k refl refl refl;
    when = λ is. absurd cc;
    reads = rw (
      is_s,
      lt-ltb d most (omega (arith, fit)),
      at_keyword from _ k,
      at_word word.If from _ k,
      at_word word.While from _ k,
      at_word word.Repeat from _ k,
      goodb (d + 1) (after from) mid spb (omega (arith, fit)),
      at_word word.While mid _ w,
      expression_goal c Condition (d + 1) (after mid) to good sp (stops_condition 6 to br.stops) (omega (arith, fit)),
    ) refl;
  }

  does_for : (s : Span) (n : Option Name) (low : Exp) (o : RangeOperator) (at_ : Span) (high : Exp) (b : Blk) → Good low → Good high → GoodB b → GoodS (loop_for s n low o at_ high b)
  unfolding statement_with for_with lower_with upper_with
  does_for s n low o at_ high b goodl goodh goodb d from to (k, nm, within, mid, last, spl, op, is_at, sph, spb, is_s) br fit = record {
    begins = not_clause from _ k refl refl refl;
    when = λ is. absurd cc;
    reads = rw (
      is_s,
      is_at,
      lt-ltb d most (omega (arith, fit)),
      at_keyword from _ k,
      at_word word.If from _ k,
      at_word word.While from _ k,
      at_word word.Repeat from _ k,
      at_word word.For from _ k,
      nm,
      at_word word.In (after (after from)) _ within,
      expression_goal low Condition (d + 1) (after (after (after from))) mid goodl spl (stops_range 6 Condition mid o (omega arith) op) (omega (arith, fit)),
      op,
      condition_is high b (d + 1) (after mid) last to goodh sph spb (omega (arith, fit)),
      goodb (d + 1) last to spb (omega (arith, fit)),
    ) refl;
  }

  does_if_then : (s : Span) (c : Exp) (b : Blk) → Good c → GoodB b → GoodS (if_then s c b)
  unfolding statement_with if_with else_with
  does_if_then s c b good goodb d from to (k, mid, sp, spb, is_s) br fit = record {
    begins = not_clause from _ k refl refl refl;
    when = λ is. k;
    reads = rw (
      is_s,
      lt-ltb d most (omega (arith, fit)),
      at_keyword from _ k,
      at_word word.If from _ k,
      condition_is c b (d + 1) (after from) mid to good sp spb (omega (arith, fit)),
      goodb (d + 1) mid to spb (omega (arith, fit)),
      br.no_else,
    ) refl;
  }

  does_if_else : (s : Span) (c : Exp) (b e : Blk) → Good c → GoodB b → GoodB e → GoodS (if_else s c b e)
  unfolding statement_with if_with else_with
  does_if_else s c b e good goodb goode d from to (k, mid, last, sp, spb, els, spe, is_s) br fit = record {
    begins = not_clause from _ k refl refl refl;
    when = λ is. k;
    reads = rw (
      is_s,
      lt-ltb d most (omega (arith, fit)),
      at_keyword from _ k,
      at_word word.If from _ k,
      condition_is c b (d + 1) (after from) mid last good sp spb (omega (arith, fit)),
      goodb (d + 1) mid last spb (omega (arith, fit)),
      at_word word.Else last _ els,
      at_word word.If (after last) _ (block_begins e (after last) to spe),
      goode (d + 1) (after last) to spe (omega (arith, fit)),
    ) refl;
  }

  if_breaks : (s : Stm) (to : Toks) → is_if s ≡ true → Breaks to → After (is_return s) to
  if_breaks (if_then s c b) to is br = br
  if_breaks (if_else s c b e) to is br = br
  if_breaks (else_if s c b e) to is br = br
  if_breaks (let_in s k n t e) to is br = absurd cc
  if_breaks (declare s k n t) to is br = absurd cc
  if_breaks (assign s p o at_ e) to is br = absurd cc
  if_breaks (ignore s t e) to is br = absurd cc
  if_breaks (discard_self s) to is br = absurd cc
  if_breaks (loop_while s c b) to is br = absurd cc
  if_breaks (loop_repeat s b c) to is br = absurd cc
  if_breaks (loop_for s n low o at_ high b) to is br = absurd cc
  if_breaks (switch s e cs) to is br = absurd cc
  if_breaks (leave s) to is br = absurd cc
  if_breaks (go_on s) to is br = absurd cc
  if_breaks (return_none s) to is br = absurd cc
  if_breaks (return_value s e) to is br = absurd cc
  if_breaks (evaluate e) to is br = absurd cc

  does_else_if : (s : Span) (c : Exp) (b : Blk) (e : Stm) → Good c → GoodB b → GoodS e → GoodS (else_if s c b e)
  unfolding statement_with if_with else_with step
  does_else_if s c b e good goodb goode d from to (k, mid, last, sp, spb, els, spe, is, is_s) br fit =
      let next = goode (d + 1) (after last) to spe (if_breaks e to is br) (omega (arith, fit)) in
      let again : R statement (d + 1) (after last) ≡ Ok (e, to) = opened statement (d + 1) (after last) ∙ next.reads in record {
        begins = not_clause from _ k refl refl refl;
        when = λ is. k;
        reads = rw (
          is_s,
          lt-ltb d most (omega (arith, fit)),
          at_keyword from _ k,
          at_word word.If from _ k,
          condition_is c b (d + 1) (after from) mid last good sp spb (omega (arith, fit)),
          goodb (d + 1) mid last spb (omega (arith, fit)),
          at_word word.Else last _ els,
          at_word word.If (after last) _ (next.when is),
          again,
        ) refl;
      }

  does_leave : (s : Span) → GoodS (leave s)
  unfolding statement_with simple_with
  does_leave s d from to (k, is_to, is_s) br fit = record {
    begins = not_clause from _ k refl refl refl;
    when = λ is. absurd cc;
    reads = rw (
      is_s,
      is_to,
      lt-ltb d most (omega (arith, fit)),
      at_keyword from _ k,
      at_word word.If from _ k,
      at_word word.While from _ k,
      at_word word.Repeat from _ k,
      at_word word.For from _ k,
      at_word word.Switch from _ k,
      at_mark mark.Underscore from _ k,
      at_word word.Discard from _ k,
      at_word word.Break from _ k,
    ) refl;
  }

  does_go_on : (s : Span) → GoodS (go_on s)
  unfolding statement_with simple_with
  does_go_on s d from to (k, is_to, is_s) br fit = record {
    begins = not_clause from _ k refl refl refl;
    when = λ is. absurd cc;
    reads = rw (
      is_s,
      is_to,
      lt-ltb d most (omega (arith, fit)),
      at_keyword from _ k,
      at_word word.If from _ k,
      at_word word.While from _ k,
      at_word word.Repeat from _ k,
      at_word word.For from _ k,
      at_word word.Switch from _ k,
      at_mark mark.Underscore from _ k,
      at_word word.Discard from _ k,
      at_word word.Break from _ k,
      at_word word.Continue from _ k,
    ) refl;
  }

  return_is : (d : ℕ) (from : Toks) → d < most → kind_at from ≡ Some (kind.Word word.Return) → statement_with most R d from ≡ return_with R d from
  unfolding statement_with simple_with
  return_is d from lt k = rw (
    lt-ltb d most lt,
    at_keyword from _ k,
    at_word word.If from _ k,
    at_word word.While from _ k,
    at_word word.Repeat from _ k,
    at_word word.For from _ k,
    at_word word.Switch from _ k,
    at_mark mark.Underscore from _ k,
    at_word word.Discard from _ k,
    at_word word.Break from _ k,
    at_word word.Continue from _ k,
    at_word word.Return from _ k,
  ) refl

  does_return : (s : Span) → GoodS (return_none s)
  unfolding return_with
  does_return s d from to (k, is_to, is_s) bare fit = record {
    begins = not_clause from _ k refl refl refl;
    when = λ is. absurd cc;
    reads = return_is d from (omega (arith, fit)) k ∙ rw (is_s, ← is_to, bare) refl;
  }

  does_return_value : (s : Span) (e : Exp) → Good e → GoodS (return_value s e)
  unfolding return_with
  does_return_value s e good d from to (k, bare, sp, is_s) br fit = record {
    begins = not_clause from _ k refl refl refl;
    when = λ is. absurd cc;
    reads = return_is d from (omega (arith, fit)) k ∙ rw (is_s, bare, expression_goal e Plain (d + 1) (after from) to good sp br.stops (omega (arith, fit))) refl;
  }

  -- a statement that begins as an expression
  evaluate_is : (d : ℕ) (from : Toks) → d < most → can_start (kind_at from) ≡ true → statement_with most R d from ≡ evaluate_with most R d from
  unfolding statement_with simple_with
  evaluate_is d from lt st = rw (
    lt-ltb d most lt,
    no_keyword from st,
    no_word word.If from refl st,
    no_word word.While from refl st,
    no_word word.Repeat from refl st,
    no_word word.For from refl st,
    no_word word.Switch from refl st,
    no_mark mark.Underscore from refl st,
    no_word word.Discard from refl st,
    no_word word.Break from refl st,
    no_word word.Continue from refl st,
    no_word word.Return from refl st,
  ) refl

  does_evaluate : (e : Exp) → Good e → GoodS (evaluate e)
  unfolding evaluate_with
  does_evaluate e good d from to sp br fit = let o = good false Plain (d + 1) from to sp (omega (arith, fit)) in record {
    begins = start_no_clause from o.begins;
    when = λ is. absurd cc;
    reads = evaluate_is d from (omega (arith, fit)) o.begins ∙ rw (expression_is e Plain (d + 1) from to o br.stops, br.assign) refl;
  }

  does_assign : (s : Span) (p : Path) (o : AssignOperator) (at_ : Span) (e : Exp) → Good (path p) → Good e → GoodS (assign s p o at_ e)
  unfolding evaluate_with assign_with
  does_assign s p o at_ e goodp good d from to (mid, spp, op, is_at, sp, is_s) br fit = let x = goodp false Plain (d + 1) from mid spp (omega (arith, fit)) in record {
    begins = start_no_clause from x.begins;
    when = λ is. absurd cc;
    reads = evaluate_is d from (omega (arith, fit)) x.begins ∙ rw (
      is_s,
      is_at,
      expression_is (path p) Plain (d + 1) from mid x (stops_assign 6 Plain mid o (omega arith) op),
      op,
      expression_goal e Plain (d + 1) (after mid) to good sp br.stops (omega (arith, fit)),
    ) refl;
  }

  -- ---- lists of statements

  separated_is : (s : Stm) (d : ℕ) (from mid next : Toks) → statement_with most R d from ≡ Ok (s, mid) → Sep (is_return s) mid next → separated_with most R d from ≡ Ok (s, next)
  unfolding separated_with
  separated_is s d from mid next r sep = rw (r, sep_is (is_return s) mid next sep) refl

  abbrev GoodL : Stms → Type 0
  GoodL ss = (xs : List Stm) (d : ℕ) (from to : Toks) → SpellsL ss from to → over most levels d (nest_stms ss) (levels_stms ss) ≤ 0 → R (statements_on xs) d from ≡ Ok (xs ++ stms_in ss, to)

  list_none : GoodL no_stms
  unfolding step statements_with stms_in
  list_none xs d from to (rb, is) fit = opened (statements_on xs) d from ∙ rw (is, at_mark mark.CloseBrace from _ rb) (ap (λ (ys : List Stm). Ok (ys, from)) (sym (append-nil xs)))

  list_more : (s : Stm) (ss : Stms) → GoodS s → GoodL ss → GoodL (stm s ss)
  unfolding step statements_with stms_in
  list_more s ss good goods xs d from to (mid, next, sp, sep, sps) fit =
      let does = good d from mid sp (after_sep (is_return s) mid next sep) (omega (arith, fit)) in
      opened (statements_on xs) d from ∙ rw (no_brace from does.begins, separated_is s d from mid next does.reads sep, goods (xs ++ s ∷ []) d next to sps (omega (arith, fit)))
      (ap (λ (ys : List Stm). Ok (ys, to)) (append_assoc xs (s ∷ []) (stms_in ss)))

  block_is : (s : Span) (ss : Stms) → GoodL ss → GoodB (block s ss)
  unfolding step block_with
  block_is s ss goods d from to (lb, last, sps, is_to, is_s) fit =
      opened body d from ∙ rw (is_s, is_to, lt-ltb d most (omega (arith, fit)), at_mark mark.OpenBrace from _ lb, goods [] (d + 1) (after from) last sps (omega (arith, fit)), stms_list ss) refl

  closure_is : (s : Span) (ns : List ClosureName) (ss : Stms) → GoodL ss → GoodK (closure s ns ss)
  unfolding closure_with
  closure_is s ns ss goods d from to (lb, start, last, head, sps, is_to, is_s) fit =
      rw (is_s, is_to, lt-ltb d most (omega (arith, fit)), head, goods [] (d + 1) start last sps (omega (arith, fit)), stms_list ss) refl

  -- ---- clauses

  record Goes (xs : List Stm) (ss : Stms) (d : ℕ) (from to : Toks) : Type 0 where
    pub reads : R (clause_on xs) d from ≡ Ok (xs ++ stms_in ss, to)
    pub begins : ends_clause from ≡ false

  abbrev GoodN : Stms → Type 0
  GoodN ss = (xs : List Stm) (d : ℕ) (from to : Toks) → SpellsN ss from to → ends_clause to ≡ true → over most levels d (nest_stms ss) (levels_stms ss) ≤ 0 → Goes xs ss d from to

  goes_one : (s : Stm) → GoodS s → GoodN (stm s no_stms)
  unfolding step clause_statements_with stms_in
  goes_one s good xs d from to (mid, sp, sep) end fit =
      let does = good d from mid sp (after_sep (is_return s) mid to sep) (omega (arith, fit)) in record {
        begins = does.begins;
        reads = opened (clause_on xs) d from ∙ rw (separated_is s d from mid to does.reads sep, end) refl;
      }

  goes_more : (s s' : Stm) (ss : Stms) → GoodS s → GoodN (stm s' ss) → GoodN (stm s (stm s' ss))
  unfolding step clause_statements_with stms_in
  goes_more s s' ss good goods xs d from to (mid, next, sp, sep, sps) end fit =
      let does = good d from mid sp (after_sep (is_return s) mid next sep) (omega (arith, fit)) in
      let rest = goods (xs ++ s ∷ []) d next to sps end (omega (arith, fit)) in record {
        begins = does.begins;
        reads = opened (clause_on xs) d from ∙ rw (separated_is s d from mid next does.reads sep, rest.begins, rest.reads)
            (ap (λ (ys : List Stm). Ok (ys, to)) (append_assoc xs (s ∷ []) (stms_in (stm s' ss))));
      }

  abbrev GoodH : When → Type 0
  GoodH h = (d : ℕ) (from to : Toks) → SpellsH h from to → kind_at to ≡ Some (kind.Mark mark.Colon) → over most levels d (nest_when h) (levels_when h) ≤ 0 → head_with levels R d from ≡ Ok (h, to)

  many_is : (ps : Pats) (d : ℕ) (from to : Toks) → SpellsPats ps from to → kind_at to ≡ Some (kind.Mark mark.Colon) → where_with R d (pats_in ps) to ≡ Ok (case_of ps, to)
  unfolding where_with pats_in
  many_is no_pats d from to sp colon = absurd sp
  many_is (pat p no_pats) d from to sp colon = rw (at_word word.Where to _ colon) refl
  many_is (pat p (pat q ps)) d from to sp colon = ap (λ (r : Pats). Ok (case_of (pat p (pat q r)), to)) (pats_list ps)

  head_case : (ps : Pats) → GoodH (case_of ps)
  unfolding head_with
  head_case ps d from to (k, sps) colon fit =
      rw (at_word word.Case from _ k, pats_are levels ps 1 (after from) to sps (at_mark mark.OpenParen to _ colon) (at_mark mark.Comma to _ colon) (omega (arith, fit))) (many_is ps d (after from) to sps colon)

  head_where : (p : Pat) (e : Exp) → Good e → GoodH (case_where p e)
  unfolding head_with where_with pats_in
  head_where p e good d from to (k, mid, sp, w, spe) colon fit =
      rw (
        at_word word.Case from _ k,
        pats_are levels (pat p no_pats) 1 (after from) mid sp (at_mark mark.OpenParen mid _ w) (at_mark mark.Comma mid _ w) (omega (arith, fit)),
        at_word word.Where mid _ w,
        expression_goal e Plain d (after mid) to good spe (stops_at 6 Plain to _ (omega arith) colon refl) (omega (arith, fit)),
      ) refl

  head_default : GoodH default
  unfolding head_with
  head_default d from to (k, is) colon fit = rw (is, at_word word.Case from _ k, at_word word.Default from _ k) refl

  head_begins : (h : When) (from to : Toks) → SpellsH h from to → (ends_clause from ≡ true) × (is_mark mark.CloseBrace from ≡ false)
  unfolding ends_clause
  head_begins (case_of ps) from to (k, sps) = (rw (at_word word.Case from _ k) refl, at_mark mark.CloseBrace from _ k)
  head_begins (case_where p e) from to (k, mid, sp, w, spe) = (rw (at_word word.Case from _ k) refl, at_mark mark.CloseBrace from _ k)
  head_begins default from to (k, is) = (rw (at_word word.Case from _ k, at_word word.Default from _ k) refl, at_mark mark.CloseBrace from _ k)

  clauses_begin : (cs : Clauses) (from to : Toks) → SpellsC cs from to → ends_clause from ≡ true
  unfolding ends_clause
  clauses_begin no_clauses from to (rb, is) = rw (at_word word.Case from _ rb, at_word word.Default from _ rb, at_mark mark.CloseBrace from _ rb) refl
  clauses_begin (clause s h ss cs) from to (colon, next, sph, k, sps, is_s, spc) = (head_begins h from colon sph).0

  clause_is : (s : Span) (h : When) (ss : Stms) (d : ℕ) (from colon next : Toks) → GoodH h → GoodN ss → SpellsH h from colon → kind_at colon ≡ Some (kind.Mark mark.Colon) → SpellsN ss (after colon) next → ends_clause next ≡ true
      → s ≡ till (here from) (stms_end (here colon) ss) → over most levels d (nest_when h) (levels_when h) ≤ 0 → over most levels d (nest_stms ss) (levels_stms ss) ≤ 0 → clause_with levels R d from ≡ Ok ((s, h, ss), next)
  unfolding clause_with
  clause_is s h ss d from colon next goodh goods sph k sps end is_s fith fits =
      let rest = goods [] d (after colon) next sps end fits in
      rw (goodh d from colon sph k fith, at_mark mark.Colon colon _ k, rest.reads, stms_list ss, is_s) refl

  abbrev GoodC : Clauses → Type 0
  GoodC cs = (xs : List Cla) (d : ℕ) (from to : Toks) → SpellsC cs from to → over most levels d (nest_clauses cs) (levels_clauses cs) ≤ 0 → R (clauses_on xs) d from ≡ Ok (xs ++ clauses_in cs, to)

  clauses_none : GoodC no_clauses
  unfolding step clauses_with clauses_in
  clauses_none xs d from to (rb, is) fit = opened (clauses_on xs) d from ∙ rw (is, at_mark mark.CloseBrace from _ rb) (ap (λ (ys : List Cla). Ok (ys, from)) (sym (append-nil xs)))

  clauses_more : (s : Span) (h : When) (ss : Stms) (cs : Clauses) → GoodH h → GoodN ss → GoodC cs → GoodC (clause s h ss cs)
  unfolding step clauses_with clauses_in
  clauses_more s h ss cs goodh goods goodc xs d from to (colon, next, sph, k, sps, is_s, spc) fit =
      opened (clauses_on xs) d from ∙ rw ((head_begins h from colon sph).1, clause_is s h ss d from colon next goodh goods sph k sps (clauses_begin cs next to spc) is_s (omega (arith, fit)) (omega (arith, fit)), goodc (xs ++ (s, h, ss) ∷ []) d next to spc (omega (arith, fit)))
      (ap (λ (ys : List Cla). Ok (ys, to)) (append_assoc xs ((s, h, ss) ∷ []) (clauses_in cs)))

  does_switch : (s : Span) (e : Exp) (cs : Clauses) → Good e → GoodC cs → GoodS (switch s e cs)
  unfolding statement_with switch_with
  does_switch s e cs good goodc d from to (k, mid, last, sp, lb, spc, is_to, is_s) br fit = record {
    begins = not_clause from _ k refl refl refl;
    when = λ is. absurd cc;
    reads = rw (
      is_s,
      is_to,
      lt-ltb d most (omega (arith, fit)),
      at_keyword from _ k,
      at_word word.If from _ k,
      at_word word.While from _ k,
      at_word word.Repeat from _ k,
      at_word word.For from _ k,
      at_word word.Switch from _ k,
      expression_goal e Condition (d + 1) (after from) mid good sp (stops_brace 6 mid (omega arith) lb) (omega (arith, fit)),
      at_mark mark.OpenBrace mid _ lb,
      goodc [] (d + 1) (after mid) last spc (omega (arith, fit)),
      clauses_list cs,
    ) refl;
  }

  mutual
    own : (e : Exp) → Good e
    own (number s negative n) = own_number s negative n
    own (text s t) = own_text s t
    own (truth s b) = own_truth s b
    own (path p) = own_path p
    own (implicit_member s n) = own_implicit s n
    own (parenthesized s e) = own_parenthesized s e (own e)
    own (consumed s p) = own_consumed s p
    own (prefix s o e) = own_prefix s o e (own e)
    own (binary s o at_ a b) = own_binary s o at_ a b (own a) (own b)
    own (choice s c a b) = own_choice s c a b (own c) (own a) (own b)
    own (member s e n) = own_member s e n (own e)
    own (call s f es) = own_call s f es (own f) (args es)
    own (call_closing s f es c) = own_call_closing s f es c (own f) (args es) (closures c)
    own (call_closure s f c) = own_call_closure s f c (own f) (closures c)

    gives : (g : Given) → GoodG g
    gives (value e) = gives_value e (own e)
    gives (address s p) = gives_address s p
    gives (closing c) = gives_closure c (closures c)

    more : (es : Args) → More es
    more no_args = more_none
    more (arg l g es) = more_arg l g es (gives g) (more es)

    args : (es : Args) → GoodA es
    args no_args = args_none
    args (arg l g es) = args_more l g es (gives g) (more es)

    closures : (c : Clo) → GoodK c
    closures (closure s ns ss) = closure_is s ns ss (lists ss)

    does : (s : Stm) → GoodS s
    does (let_in s k n t e) = does_let s k n t e (own e)
    does (declare s k n t) = does_declare s k n t
    does (assign s p o at_ e) = does_assign s p o at_ e (own_path p) (own e)
    does (ignore s t e) = does_ignore s t e (own e)
    does (discard_self s) = does_discard s
    does (if_then s c b) = does_if_then s c b (own c) (blocks b)
    does (if_else s c b e) = does_if_else s c b e (own c) (blocks b) (blocks e)
    does (else_if s c b e) = does_else_if s c b e (own c) (blocks b) (does e)
    does (loop_while s c b) = does_while s c b (own c) (blocks b)
    does (loop_repeat s b c) = does_repeat s b c (blocks b) (own c)
    does (loop_for s n low o at_ high b) = does_for s n low o at_ high b (own low) (own high) (blocks b)
    does (switch s e cs) = does_switch s e cs (own e) (clauses cs)
    does (leave s) = does_leave s
    does (go_on s) = does_go_on s
    does (return_none s) = does_return s
    does (return_value s e) = does_return_value s e (own e)
    does (evaluate e) = does_evaluate e (own e)

    lists : (ss : Stms) → GoodL ss
    lists no_stms = list_none
    lists (stm s ss) = list_more s ss (does s) (lists ss)

    goes : (ss : Stms) → GoodN ss
    goes no_stms = λ xs d from to sp end fit. absurd sp
    goes (stm s no_stms) = goes_one s (does s)
    goes (stm s (stm s' ss)) = goes_more s s' ss (does s) (goes (stm s' ss))

    heads : (h : When) → GoodH h
    heads (case_of ps) = head_case ps
    heads (case_where p e) = head_where p e (own e)
    heads default = head_default

    clauses : (cs : Clauses) → GoodC cs
    clauses no_clauses = clauses_none
    clauses (clause s h ss cs) = clauses_more s h ss cs (heads h) (goes ss) (clauses cs)

    pub blocks : (b : Blk) → GoodB b
    blocks (block s ss) = block_is s ss (lists ss)
