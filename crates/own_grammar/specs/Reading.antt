-- Reading from left to right, with the first fault that is met.
use Rattle.std.specs.Prelude.{ℕ, suc, zero, ◌+◌, Bool, true, false, List, [], ◌∷◌, ◌++◌, length, Option, Some, None, Result, Ok, Err, nat_lt, nat_eq, if◌then◌else◌}
use Rattle.own_tree.specs.declared.token.Mark.TheVariants as mark
use Rattle.own_tree.specs.declared.token.Word.TheVariants as word
use Rattle.own_tree.specs.declared.token.Kind.{Kind}
use Rattle.own_tree.specs.declared.token.Kind.TheVariants as kind
use Rattle.own_tree.specs.declared.span.Span.{Span}
use Rattle.own_tree.specs.declared.tree.Name.{Name}
use Rattle.own_tree.specs.declared.tree.Path.{Path}
use Rattle.own_tree.specs.declared.tree.Root.{Root}
use Rattle.own_tree.specs.declared.tree.Keyword.{Keyword}
use Rattle.own_tree.specs.declared.tree.PrefixOperator.{PrefixOperator}
use Rattle.own_tree.specs.declared.tree.BinaryOperator.{BinaryOperator}
use Rattle.own_tree.specs.declared.tree.AssignOperator.{AssignOperator}
use Rattle.own_tree.specs.declared.tree.RangeOperator.{RangeOperator}
use Rattle.own_tree.specs.Source.{LetPat, let_any, let_bind, let_case, let_number, let_truth, no_let_pats, Pat, any, bind, bind_case, on_case, on_number, on_truth, no_pats, pat, Exp, number, text, truth, path, implicit_member, parenthesized, consumed, prefix, binary, choice, member, call, call_closing, call_closure, Given, value, address, closing, Clo, closure, Stm, let_in, declare, assign, ignore, discard_self, if_then, if_else, else_if, loop_while, loop_repeat, loop_for, switch, leave, go_on, return_none, return_value, evaluate, When, case_of, case_where, default, Blk, block}
use Rattle.own_tree.specs.View.{pats_of, let_pats_of, args_of, stms_of, clauses_of, Arg, Cla}
use Rattle.own_grammar.specs.declared.Context.{Context}
use Rattle.own_grammar.specs.declared.Context.TheVariants.{Plain, Condition, Inside}
use Rattle.own_grammar.specs.Tests.{Toks, after, here, till, kind_at, is_mark, is_word, name_at, number_at, truth_at, root_at, binder_at, keyword_at, operator_at, negative_at, unary_at, range_at, assign_at, assigns, annotates, opens, closes, is_bare, label_at, closure_head}
use Rattle.own_grammar.specs.Nesting.{exp_span, clo_span, blk_span, stm_span, let_pat_span, names_end, typed_end, stms_end, level, chains, is_return, nest}
use Rattle.own_grammar.specs.Spells.{ends_after}

-- how many tokens are left at the fault
pub data Fault : Type 0 where
  Syntax : ℕ → Fault
  Depth : ℕ → Fault

abbrev pub Read : Type 0 → Type 0
Read A = Result (A × Toks) Fault

infixl 10 ◌>>=◌
abbrev pub ◌>>=◌ : {A B : Type 0} → Result A Fault → (A → Result B Fault) → Result B Fault
(Ok x) >>= f = f x
(Err e) >>= f = Err e

abbrev pub syntax_at : {A : Type 0} → Toks → Read A
syntax_at ts = Err (Syntax (length ts))

abbrev pub depth_at : {A : Type 0} → Toks → Read A
depth_at ts = Err (Depth (length ts))

abbrev pub on_some : {A B : Type 0} → Option A → (A → B) → B → B
on_some (Some x) f b = f x
on_some None f b = b

-- ---- paths and types

-- the fields of a path, after those that were read
unfoldable pub fields_on : List Name → Toks → Read (List Name)
fields_on found [] = Ok (found, [])
fields_on found (t ∷ []) = if is_mark mark.Dot (t ∷ []) then syntax_at [] else Ok (found, t ∷ [])
fields_on found (t ∷ u ∷ ts) = if is_mark mark.Dot (t ∷ u ∷ ts)
    then on_some (name_at (u ∷ ts)) (λ n. fields_on (found ++ n ∷ []) ts) (syntax_at (u ∷ ts))
    else Ok (found, t ∷ u ∷ ts)

-- a path whose root stands here
unfoldable pub path_from : Root → Toks → Read Path
path_from r ts = fields_on [] (after ts) >>= λ ns. Ok (record { span = till (here ts) (names_end (here ts) ns.0); root = r; fields = ns.0 }, ns.1)

unfoldable pub path_with : Toks → Read Path
path_with ts = on_some (root_at ts) (λ r. path_from r ts) (syntax_at ts)

-- the type of a `let` or `var`, where one is written
unfoldable pub typed_with : Toks → Read (Option Name)
typed_with ts = if annotates ts then on_some (name_at (after ts)) (λ n. Ok (Some n, after (after ts))) (syntax_at (after ts)) else Ok (None, ts)

-- ---- patterns

pub data PatternGoal : Type 0 where
  let_pattern : PatternGoal
  let_patterns_on : List LetPat → PatternGoal
  pattern : PatternGoal
  patterns_on : List Pat → PatternGoal

abbrev pub PatternOut : PatternGoal → Type 0
PatternOut let_pattern = LetPat
PatternOut (let_patterns_on ps) = List LetPat
PatternOut pattern = Pat
PatternOut (patterns_on ps) = List Pat

abbrev pub PatternReader : Type 0
PatternReader = (g : PatternGoal) → ℕ → Toks → Read (PatternOut g)

-- One step, where `k` reads what stands after at least one token. The pattern is at level `d`, and `most` are allowed.

-- after the `(` of a case
unfoldable pub let_parts_with : ℕ → PatternReader → ℕ → Toks → Name → Toks → Read LetPat
let_parts_with most k d ts n us = if nat_lt d most then
    (k (let_patterns_on []) (d + 1) us >>= λ ps. if is_mark mark.CloseParen ps.1 then Ok (let_case (till (here ts) (here ps.1)) n (let_pats_of ps.0), after ps.1) else syntax_at ps.1)
    else depth_at us

unfoldable pub let_case_with : ℕ → PatternReader → ℕ → Toks → Read LetPat
let_case_with most k d ts = on_some (name_at (after ts))
    (λ n. if is_mark mark.OpenParen (after (after ts)) then let_parts_with most k d ts n (after (after (after ts))) else Ok (let_case (till (here ts) (here (after ts))) n no_let_pats, after (after ts)))
    (syntax_at (after ts))

unfoldable pub let_literal_with : Toks → Read LetPat
let_literal_with ts =
    on_some (truth_at ts) (λ b. Ok (let_truth (here ts) b, after ts))
    (on_some (number_at ts) (λ n. Ok (let_number (here ts) false n, after ts))
    (on_some (negative_at false ts) (λ n. Ok (let_number (till (here ts) (here (after ts))) true n, after (after ts))) (syntax_at ts)))

unfoldable pub let_pattern_with : ℕ → PatternReader → ℕ → Toks → Read LetPat
let_pattern_with most k d ts = if is_mark mark.Underscore ts then Ok (let_any (here ts), after ts)
    else (if is_mark mark.Dot ts then let_case_with most k d ts
    else on_some (name_at ts) (λ n. Ok (let_bind n, after ts)) (let_literal_with ts))

unfoldable pub let_patterns_with : ℕ → PatternReader → List LetPat → ℕ → Toks → Read (List LetPat)
let_patterns_with most k ps d ts = let_pattern_with most k d ts >>= λ p. if is_mark mark.Comma p.1 then k (let_patterns_on (ps ++ p.0 ∷ [])) d (after p.1) else Ok (ps ++ p.0 ∷ [], p.1)

unfoldable pub parts_with : ℕ → PatternReader → ℕ → Toks → Name → Toks → Read Pat
parts_with most k d ts n us = if nat_lt d most then
    (k (patterns_on []) (d + 1) us >>= λ ps. if is_mark mark.CloseParen ps.1 then Ok (on_case (till (here ts) (here ps.1)) n (pats_of ps.0), after ps.1) else syntax_at ps.1)
    else depth_at us

unfoldable pub case_with : ℕ → PatternReader → ℕ → Toks → Read Pat
case_with most k d ts = on_some (name_at (after ts))
    (λ n. if is_mark mark.OpenParen (after (after ts)) then parts_with most k d ts n (after (after (after ts))) else Ok (on_case (till (here ts) (here (after ts))) n no_pats, after (after ts)))
    (syntax_at (after ts))

-- after a `let`
unfoldable pub bind_with : PatternReader → ℕ → Toks → Read Pat
bind_with k d ts = on_some (name_at (after ts)) (λ n. Ok (bind (till (here ts) (here (after ts))) n, after (after ts)))
    (if is_mark mark.Dot (after ts) then (k let_pattern d (after ts) >>= λ p. Ok (bind_case (till (here ts) (let_pat_span p.0)) p.0, p.1)) else syntax_at (after ts))

unfoldable pub literal_pattern_with : Toks → Read Pat
literal_pattern_with ts =
    on_some (truth_at ts) (λ b. Ok (on_truth (here ts) b, after ts))
    (on_some (number_at ts) (λ n. Ok (on_number (here ts) false n, after ts))
    (on_some (negative_at false ts) (λ n. Ok (on_number (till (here ts) (here (after ts))) true n, after (after ts))) (syntax_at ts)))

unfoldable pub pattern_with : ℕ → PatternReader → ℕ → Toks → Read Pat
pattern_with most k d ts = if is_mark mark.Underscore ts then Ok (any (here ts), after ts)
    else (if is_word word.Let ts then bind_with k d ts
    else (if is_mark mark.Dot ts then case_with most k d ts else literal_pattern_with ts))

unfoldable pub patterns_with : ℕ → PatternReader → List Pat → ℕ → Toks → Read (List Pat)
patterns_with most k ps d ts = pattern_with most k d ts >>= λ p. if is_mark mark.Comma p.1 then k (patterns_on (ps ++ p.0 ∷ [])) d (after p.1) else Ok (ps ++ p.0 ∷ [], p.1)

unfoldable pub pattern_step : ℕ → PatternReader → PatternReader
pattern_step most k let_pattern d ts = let_pattern_with most k d ts
pattern_step most k (let_patterns_on ps) d ts = let_patterns_with most k ps d ts
pattern_step most k pattern d ts = pattern_with most k d ts
pattern_step most k (patterns_on ps) d ts = patterns_with most k ps d ts

-- fuel is more than the number of tokens
unfoldable pub read_pattern_at : ℕ → ℕ → PatternReader
read_pattern_at most zero g d ts = Err (Syntax 0)
read_pattern_at most (suc fuel) g d ts = pattern_step most (read_pattern_at most fuel) g d ts

unfoldable pub read_pattern : ℕ → PatternReader
read_pattern most g d ts = read_pattern_at most (suc (length ts)) g d ts

-- ---- expressions, statements and blocks

-- What is read. The numbers of nodes above it are the first argument of a reader.
pub data Goal : Type 0 where
  expression : Context → Goal
  -- after a prefix mark
  operand : Context → Goal
  -- operators of one level, the number and 1, after what was read
  operators_on : ℕ → Context → Exp → Goal
  -- members and calls after what was read
  calls_on : Context → Exp → Goal
  arguments_on : List Arg → Goal
  statement : Goal
  -- up to a `}`
  statements_on : List Stm → Goal
  -- the statements of a clause
  clause_on : List Stm → Goal
  clauses_on : List Cla → Goal
  body : Goal

abbrev pub Out : Goal → Type 0
Out (expression context) = Exp
Out (operand context) = Exp
Out (operators_on j context e) = Exp
Out (calls_on context e) = Exp
Out (arguments_on xs) = List Arg
Out statement = Stm
Out (statements_on ss) = List Stm
Out (clause_on ss) = List Stm
Out (clauses_on cs) = List Cla
Out body = Blk

abbrev pub Reader : Type 0
Reader = (g : Goal) → ℕ → Toks → Read (Out g)

-- One step, where `k` reads what stands after at least one token. `most` nodes are allowed on a way down, and `levels`
-- levels of patterns, of which the pattern of a clause is the first.

unfoldable pub parenthesized_with : Reader → ℕ → Toks → Read Exp
parenthesized_with k d ts = k (expression Inside) (d + 1) (after ts) >>= λ e. if is_mark mark.CloseParen e.1 then Ok (parenthesized (till (here ts) (here e.1)) e.0, after e.1) else syntax_at e.1

unfoldable pub implicit_with : Toks → Read Exp
implicit_with ts = on_some (name_at (after ts)) (λ n. Ok (implicit_member (till (here ts) (here (after ts))) n, after (after ts))) (syntax_at (after ts))

abbrev pub word_literal : Span → Option Bool → Option Exp
word_literal s None = None
word_literal s (Some b) = Some (truth s b)

abbrev pub literal_in : Span → Option Bool → Option Kind → Option Exp
literal_in s b None = None
literal_in s b (Some (kind.Name x)) = None
literal_in s b (Some (kind.Word x)) = word_literal s b
literal_in s b (Some (kind.Number x)) = Some (number s false x)
literal_in s b (Some (kind.Text x)) = Some (text s x)
literal_in s b (Some (kind.Mark x)) = None

-- NUMBER | TEXT | "true" | "false"
unfoldable pub literal_at : Toks → Option Exp
literal_at ts = literal_in (here ts) (truth_at ts) (kind_at ts)

unfoldable pub primary_with : Reader → Bool → ℕ → Toks → Read Exp
primary_with k tight d ts =
    on_some (negative_at tight ts) (λ n. Ok (number (till (here ts) (here (after ts))) true n, after (after ts)))
    (on_some (literal_at ts) (λ e. Ok (e, after ts))
    (on_some (root_at ts) (λ r. path_from r ts >>= λ p. Ok (path p.0, p.1))
    (if is_mark mark.Dot ts then implicit_with ts
    else (if is_mark mark.OpenParen ts then parenthesized_with k d ts else syntax_at ts))))

unfoldable pub post_with : Reader → Bool → Context → ℕ → Toks → Read Exp
post_with k tight context d ts = primary_with k tight d ts >>= λ e. k (calls_on context e.0) d e.1

unfoldable pub prefix_with : Reader → PrefixOperator → Context → ℕ → Toks → Read Exp
prefix_with k o context d ts = k (operand context) (d + 1) (after ts) >>= λ e. Ok (prefix (till (here ts) (exp_span e.0)) o e.0, e.1)

unfoldable pub consume_with : ℕ → ℕ → Toks → Read Exp
consume_with most d ts = if nat_lt (d + 1) most then (path_with (after ts) >>= λ p. Ok (consumed (till (here ts) p.0.span) p.0, p.1)) else depth_at (after ts)

unfoldable pub pre_with : ℕ → Reader → Bool → Context → ℕ → Toks → Read Exp
pre_with most k tight context d ts = if nat_lt d most then
    (on_some (unary_at tight ts) (λ o. prefix_with k o context d ts)
    (if is_word word.Consume ts then consume_with most d ts else post_with k tight context d ts))
    else depth_at ts

unfoldable pub level_with : ℕ → Reader → ℕ → Context → ℕ → Toks → Read Exp
level_with most k zero context d ts = pre_with most k false context d ts
level_with most k (suc j) context d ts = level_with most k j context d ts >>= λ e. k (operators_on j context e.0) d e.1

-- after an operator and its operands
unfoldable pub next_with : Reader → Bool → ℕ → Context → ℕ → Exp → Toks → Read Exp
next_with k true j context d e ts = k (operators_on j context e) d ts
next_with k false j context d e ts = Ok (e, ts)

unfoldable pub operator_with : ℕ → Reader → ℕ → Context → Exp → ℕ → Toks → BinaryOperator → Read Exp
operator_with most k j context a d ts o =
    if nat_eq (level o) (suc j) then (if nat_lt (d + nest a) most then
    (level_with most k j context (d + 1) (after ts) >>= λ b. next_with k (chains (suc j)) j context d (binary (till (exp_span a) (exp_span b.0)) o (here ts) a b.0) b.1)
    else depth_at (after ts))
    else Ok (a, ts)

unfoldable pub operators_with : ℕ → Reader → ℕ → Context → Exp → ℕ → Toks → Read Exp
operators_with most k j context a d ts = on_some (operator_at ts) (operator_with most k j context a d ts) (Ok (a, ts))

-- after the `?`
unfoldable pub branches_with : Reader → Context → ℕ → Exp → Toks → Read Exp
branches_with k context d c ts = k (expression context) (d + 1) ts >>= λ a. if is_mark mark.Colon a.1
    then (k (expression context) (d + 1) (after a.1) >>= λ b. Ok (choice (till (exp_span c) (exp_span b.0)) c a.0 b.0, b.1))
    else syntax_at a.1

unfoldable pub choice_with : ℕ → Reader → Context → ℕ → Exp → Toks → Read Exp
choice_with most k context d c ts = if is_mark mark.Question ts then (if nat_lt (d + nest c) most then branches_with k context d c (after ts) else depth_at (after ts)) else Ok (c, ts)

unfoldable pub expression_with : ℕ → Reader → Context → ℕ → Toks → Read Exp
expression_with most k context d ts = level_with most k 5 context d ts >>= λ c. choice_with most k context d c.0 c.1

-- ---- closures and calls

unfoldable pub closure_with : ℕ → Reader → ℕ → Toks → Read Clo
closure_with most k d ts = if nat_lt d most then
    (k (statements_on []) (d + 1) (closure_head (after ts)).1 >>= λ ss. Ok (closure (till (here ts) (here ss.1)) (closure_head (after ts)).0 (stms_of ss.0), after ss.1))
    else depth_at ts

unfoldable pub address_with : ℕ → ℕ → Toks → Read Given
address_with most d ts = if nat_lt d most then (path_with (after ts) >>= λ p. Ok (address (till (here ts) p.0.span) p.0, p.1)) else depth_at (after ts)

unfoldable pub given_with : ℕ → Reader → ℕ → Toks → Read Given
given_with most k d ts = if is_mark mark.Ampersand ts then address_with most d ts
    else (if is_mark mark.OpenBrace ts then (closure_with most k d ts >>= λ c. Ok (closing c.0, c.1))
    else (expression_with most k Inside d ts >>= λ e. Ok (value e.0, e.1)))

unfoldable pub argument_with : ℕ → Reader → ℕ → Toks → Read Arg
argument_with most k d ts = on_some (label_at ts)
    (λ l. given_with most k (d + 1) (after (after ts)) >>= λ g. Ok ((Some l, g.0), g.1))
    (given_with most k (d + 1) ts >>= λ g. Ok ((None, g.0), g.1))

unfoldable pub arguments_with : ℕ → Reader → List Arg → ℕ → Toks → Read (List Arg)
arguments_with most k xs d ts = argument_with most k d ts >>= λ a. if is_mark mark.Comma a.1 then k (arguments_on (xs ++ a.0 ∷ [])) d (after a.1) else Ok (xs ++ a.0 ∷ [], a.1)

unfoldable pub all_arguments_with : ℕ → Reader → ℕ → Toks → Read (List Arg)
all_arguments_with most k d ts = if is_mark mark.CloseParen ts then Ok ([], ts) else arguments_with most k [] d ts

-- after the arguments
unfoldable pub called_with : ℕ → Reader → Context → Exp → ℕ → List Arg → Toks → Read Exp
called_with most k context f d xs ts = if is_mark mark.CloseParen ts then
    (if closes context (after ts) then (closure_with most k (d + 1) (after ts) >>= λ c. k (calls_on context (call_closing (till (exp_span f) (clo_span c.0)) f (args_of xs) c.0)) d c.1)
    else k (calls_on context (call (till (exp_span f) (here ts)) f (args_of xs))) d (after ts))
    else syntax_at ts

unfoldable pub call_with : ℕ → Reader → Context → Exp → ℕ → Toks → Read Exp
call_with most k context f d ts = if nat_lt (d + nest f) most then (all_arguments_with most k d (after ts) >>= λ xs. called_with most k context f d xs.0 xs.1) else depth_at (after ts)

unfoldable pub closing_with : ℕ → Reader → Context → Exp → ℕ → Toks → Read Exp
closing_with most k context f d ts = if nat_lt (d + nest f) most then (closure_with most k (d + 1) ts >>= λ c. k (calls_on context (call_closure (till (exp_span f) (clo_span c.0)) f c.0)) d c.1) else depth_at (after ts)

unfoldable pub member_with : ℕ → Reader → Context → Exp → ℕ → Toks → Read Exp
member_with most k context e d ts = if nat_lt (d + nest e) most then on_some (name_at (after ts)) (λ n. k (calls_on context (member (till (exp_span e) (here (after ts))) e n)) d (after (after ts))) (syntax_at (after ts)) else depth_at (after ts)

unfoldable pub calls_with : ℕ → Reader → Context → Exp → ℕ → Toks → Read Exp
calls_with most k context f d ts = if opens context ts then call_with most k context f d ts
    else (if closes context ts then closing_with most k context f d ts
    else (if is_mark mark.Dot ts then member_with most k context f d ts else Ok (f, ts)))

-- ---- statements, each one level below `d`

abbrev pub bound : Span → Keyword → Option Name → Option Name → Exp → Stm
bound s w (Some n) t e = let_in s w n t e
bound s w None t e = ignore s t e

-- after the name and the type
unfoldable pub bound_with : Reader → ℕ → Toks → Keyword → Option Name → Option Name → Toks → Read Stm
bound_with k d ts w n t us = if assigns us then (k (expression Plain) (d + 1) (after us) >>= λ e. Ok (bound (till (here ts) (exp_span e.0)) w n t e.0, e.1))
    else Ok (declare (till (here ts) (typed_end (here (after ts)) t)) w n t, us)

unfoldable pub let_with : Reader → ℕ → Toks → Keyword → Read Stm
let_with k d ts w = on_some (binder_at (after ts))
    (λ n. typed_with (after (after ts)) >>= λ t. bound_with k d ts w n t.0 t.1)
    (syntax_at (after ts))

unfoldable pub ignore_with : Reader → ℕ → Toks → Read Stm
ignore_with k d ts = if is_mark mark.Assign (after ts) then (k (expression Plain) (d + 1) (after (after ts)) >>= λ e. Ok (ignore (till (here ts) (exp_span e.0)) None e.0, e.1)) else syntax_at (after ts)

unfoldable pub discard_with : Toks → Read Stm
discard_with ts = if is_word word.SelfValue (after ts) then Ok (discard_self (till (here ts) (here (after ts))), after (after ts)) else syntax_at (after ts)

-- after the block of an `if`
unfoldable pub else_with : Reader → ℕ → Toks → Exp → Blk → Toks → Read Stm
else_with k d ts c b us = if is_word word.Else us then
    (if is_word word.If (after us) then (k statement (d + 1) (after us) >>= λ s. Ok (else_if (till (here ts) (stm_span s.0)) c b s.0, s.1))
    else (k body (d + 1) (after us) >>= λ e. Ok (if_else (till (here ts) (blk_span e.0)) c b e.0, e.1)))
    else Ok (if_then (till (here ts) (blk_span b)) c b, us)

unfoldable pub if_with : Reader → ℕ → Toks → Read Stm
if_with k d ts = k (expression Condition) (d + 1) (after ts) >>= λ c. k body (d + 1) c.1 >>= λ b. else_with k d ts c.0 b.0 b.1

unfoldable pub while_with : Reader → ℕ → Toks → Read Stm
while_with k d ts = k (expression Condition) (d + 1) (after ts) >>= λ c. k body (d + 1) c.1 >>= λ b. Ok (loop_while (till (here ts) (blk_span b.0)) c.0 b.0, b.1)

unfoldable pub repeat_with : Reader → ℕ → Toks → Read Stm
repeat_with k d ts = k body (d + 1) (after ts) >>= λ b. if is_word word.While b.1
    then (k (expression Condition) (d + 1) (after b.1) >>= λ c. Ok (loop_repeat (till (here ts) (exp_span c.0)) b.0 c.0, c.1))
    else syntax_at b.1

-- after the operator of a `for`
unfoldable pub upper_with : Reader → ℕ → Toks → Option Name → Exp → RangeOperator → Toks → Read Stm
upper_with k d ts n low o us = k (expression Condition) (d + 1) (after us) >>= λ high. k body (d + 1) high.1 >>= λ b. Ok (loop_for (till (here ts) (blk_span b.0)) n low o (here us) high.0 b.0, b.1)

-- after the `in` of a `for`
unfoldable pub lower_with : Reader → ℕ → Toks → Option Name → Toks → Read Stm
lower_with k d ts n us = k (expression Condition) (d + 1) us >>= λ low. on_some (range_at low.1) (λ o. upper_with k d ts n low.0 o low.1) (syntax_at low.1)

unfoldable pub for_with : Reader → ℕ → Toks → Read Stm
for_with k d ts = on_some (binder_at (after ts))
    (λ n. if is_word word.In (after (after ts)) then lower_with k d ts n (after (after (after ts))) else syntax_at (after (after ts)))
    (syntax_at (after ts))

unfoldable pub switch_with : Reader → ℕ → Toks → Read Stm
switch_with k d ts = k (expression Condition) (d + 1) (after ts) >>= λ e. if is_mark mark.OpenBrace e.1
    then (k (clauses_on []) (d + 1) (after e.1) >>= λ cs. Ok (switch (till (here ts) (here cs.1)) e.0 (clauses_of cs.0), after cs.1))
    else syntax_at e.1

unfoldable pub return_with : Reader → ℕ → Toks → Read Stm
return_with k d ts = if is_bare (after ts) then Ok (return_none (here ts), after ts)
    else (k (expression Plain) (d + 1) (after ts) >>= λ e. Ok (return_value (till (here ts) (exp_span e.0)) e.0, e.1))

abbrev pub path_in : Exp → Option Path
path_in (number s negative n) = None
path_in (text s t) = None
path_in (truth s b) = None
path_in (path p) = Some p
path_in (implicit_member s n) = None
path_in (parenthesized s e) = None
path_in (consumed s p) = None
path_in (prefix s o e) = None
path_in (binary s o at a b) = None
path_in (choice s c a b) = None
path_in (member s e n) = None
path_in (call s f es) = None
path_in (call_closing s f es c) = None
path_in (call_closure s f c) = None

-- after an expression that a statement begins with
unfoldable pub assign_with : Reader → ℕ → Exp → Toks → AssignOperator → Read Stm
assign_with k d x us o = on_some (path_in x)
    (λ p. k (expression Plain) (d + 1) (after us) >>= λ e. Ok (assign (till p.span (exp_span e.0)) p o (here us) e.0, e.1))
    (Ok (evaluate x, us))

unfoldable pub evaluate_with : ℕ → Reader → ℕ → Toks → Read Stm
evaluate_with most k d ts = expression_with most k Plain (d + 1) ts >>= λ x. on_some (assign_at x.1) (assign_with k d x.0 x.1) (Ok (evaluate x.0, x.1))

-- the words that are statements of their own, and expressions
unfoldable pub simple_with : ℕ → Reader → ℕ → Toks → Read Stm
simple_with most k d ts =
    if is_mark mark.Underscore ts then ignore_with k d ts
    else (if is_word word.Discard ts then discard_with ts
    else (if is_word word.Break ts then Ok (leave (here ts), after ts)
    else (if is_word word.Continue ts then Ok (go_on (here ts), after ts)
    else (if is_word word.Return ts then return_with k d ts
    else evaluate_with most k d ts))))

unfoldable pub statement_with : ℕ → Reader → ℕ → Toks → Read Stm
statement_with most k d ts = if nat_lt d most then
    on_some (keyword_at ts) (let_with k d ts)
    (if is_word word.If ts then if_with k d ts
    else (if is_word word.While ts then while_with k d ts
    else (if is_word word.Repeat ts then repeat_with k d ts
    else (if is_word word.For ts then for_with k d ts
    else (if is_word word.Switch ts then switch_with k d ts
    else simple_with most k d ts)))))
    else depth_at ts

-- what stands after a statement
unfoldable pub sep_at : Bool → Toks → Result Toks Fault
sep_at bare ts = if is_mark mark.Semicolon ts then Ok (after ts) else (if ends_after bare ts then Ok ts else Err (Syntax (length ts)))

-- a statement and its SEP
unfoldable pub separated_with : ℕ → Reader → ℕ → Toks → Read Stm
separated_with most k d ts = statement_with most k d ts >>= λ s. sep_at (is_return s.0) s.1 >>= λ next. Ok (s.0, next)

unfoldable pub statements_with : ℕ → Reader → List Stm → ℕ → Toks → Read (List Stm)
statements_with most k ss d ts = if is_mark mark.CloseBrace ts then Ok (ss, ts) else (separated_with most k d ts >>= λ s. k (statements_on (ss ++ s.0 ∷ [])) d s.1)

-- ---- clauses

-- a clause has no further statement here
unfoldable pub ends_clause : Toks → Bool
ends_clause ts = if is_word word.Case ts then true else (if is_word word.Default ts then true else is_mark mark.CloseBrace ts)

unfoldable pub clause_statements_with : ℕ → Reader → List Stm → ℕ → Toks → Read (List Stm)
clause_statements_with most k ss d ts = separated_with most k d ts >>= λ s. if ends_clause s.1 then Ok (ss ++ s.0 ∷ [], s.1) else k (clause_on (ss ++ s.0 ∷ [])) d s.1

-- after the patterns of a `case`: a `where` only after a single one
unfoldable pub where_with : Reader → ℕ → List Pat → Toks → Read When
where_with k d [] ts = Ok (case_of no_pats, ts)
where_with k d (p ∷ []) ts = if is_word word.Where ts then (k (expression Plain) d (after ts) >>= λ e. Ok (case_where p e.0, e.1)) else Ok (case_of (pat p no_pats), ts)
where_with k d (p ∷ q ∷ ps) ts = Ok (case_of (pat p (pats_of (q ∷ ps))), ts)

unfoldable pub head_with : ℕ → Reader → ℕ → Toks → Read When
head_with levels k d ts = if is_word word.Case ts then (read_pattern levels (patterns_on []) 1 (after ts) >>= λ ps. where_with k d ps.0 ps.1)
    else (if is_word word.Default ts then Ok (default, after ts) else syntax_at ts)

unfoldable pub clause_with : ℕ → Reader → ℕ → Toks → Read Cla
clause_with levels k d ts = head_with levels k d ts >>= λ h. if is_mark mark.Colon h.1
    then (k (clause_on []) d (after h.1) >>= λ ss. Ok ((till (here ts) (stms_end (here h.1) (stms_of ss.0)), h.0, stms_of ss.0), ss.1))
    else syntax_at h.1

unfoldable pub clauses_with : ℕ → Reader → List Cla → ℕ → Toks → Read (List Cla)
clauses_with levels k cs d ts = if is_mark mark.CloseBrace ts then Ok (cs, ts) else (clause_with levels k d ts >>= λ c. k (clauses_on (cs ++ c.0 ∷ [])) d c.1)

unfoldable pub block_with : ℕ → Reader → ℕ → Toks → Read Blk
block_with most k d ts = if nat_lt d most then (if is_mark mark.OpenBrace ts then
    (k (statements_on []) (d + 1) (after ts) >>= λ ss. Ok (block (till (here ts) (here ss.1)) (stms_of ss.0), after ss.1))
    else syntax_at ts) else depth_at ts

unfoldable pub step : ℕ → ℕ → Reader → Reader
step most levels k (expression context) d ts = expression_with most k context d ts
step most levels k (operand context) d ts = pre_with most k true context d ts
step most levels k (operators_on j context e) d ts = operators_with most k j context e d ts
step most levels k (calls_on context f) d ts = calls_with most k context f d ts
step most levels k (arguments_on xs) d ts = arguments_with most k xs d ts
step most levels k statement d ts = statement_with most k d ts
step most levels k (statements_on ss) d ts = statements_with most k ss d ts
step most levels k (clause_on ss) d ts = clause_statements_with most k ss d ts
step most levels k (clauses_on cs) d ts = clauses_with levels k cs d ts
step most levels k body d ts = block_with most k d ts

-- fuel is more than the number of tokens
unfoldable pub read_at : ℕ → ℕ → ℕ → Reader
read_at most levels zero g d ts = Err (Syntax 0)
read_at most levels (suc fuel) g d ts = step most levels (read_at most levels fuel) g d ts

unfoldable pub read : ℕ → ℕ → Reader
read most levels g d ts = read_at most levels (suc (length ts)) g d ts
