-- How an expression begins, and where an expression and a statement end.
use Rattle.std.proofs.Common.{◌≡◌, ℕ, ◌≤◌, ◌<◌, Bool, cond, true, false, not, ◌&&◌, ◌||◌, Option, Some, None, Ok, Err, ◌⊎◌, inl, inr, refl, sym, ap, ◌∙◌, arith}
use Rattle.own_tree.specs.declared.token.Mark.{Mark}
use Rattle.own_tree.specs.declared.token.Mark.TheVariants as mark
use Rattle.own_tree.specs.declared.token.Word.{Word}
use Rattle.own_tree.specs.declared.token.Word.TheVariants as word
use Rattle.own_tree.specs.declared.token.Kind.{Kind}
use Rattle.own_tree.specs.declared.token.Kind.TheVariants as kind
use Rattle.own_tree.specs.declared.tree.Name.{Name}
use Rattle.own_tree.specs.declared.tree.Root.{Root}
use Rattle.own_tree.specs.declared.tree.Root.TheVariants.{Named, SelfWord}
use Rattle.own_tree.specs.declared.tree.Keyword.{Keyword}
use Rattle.own_tree.specs.declared.tree.Keyword.TheVariants as keyword
use Rattle.own_tree.specs.declared.tree.PrefixOperator.{PrefixOperator}
use Rattle.own_tree.specs.declared.tree.PrefixOperator.TheVariants as sign
use Rattle.own_tree.specs.declared.tree.BinaryOperator.{BinaryOperator}
use Rattle.own_tree.specs.declared.tree.BinaryOperator.TheVariants as operator
use Rattle.own_tree.specs.declared.tree.AssignOperator.{AssignOperator}
use Rattle.own_tree.specs.declared.tree.AssignOperator.TheVariants as assigning
use Rattle.own_tree.specs.declared.tree.RangeOperator.{RangeOperator}
use Rattle.own_tree.specs.declared.tree.RangeOperator.TheVariants as range
use Rattle.own_grammar.specs.declared.Context.{Context}
use Rattle.own_grammar.specs.declared.Context.TheVariants.{Plain, Condition}
use Rattle.own_grammar.specs.Tests.{Toks, after, kind_at, mark_is, is_mark, word_is, is_word, name_at, binder_at, keyword_in, keyword_at, operator_in, operator_at, range_at, assign_in, assign_at, is_new_line, assigns, annotates, opens, closes, is_none, is_over, goes_on, ends, is_bare}
use Rattle.own_grammar.specs.Nesting.{level}
use Rattle.own_grammar.specs.Spells.{ends_after, Sep}
use Rattle.own_grammar.specs.Reading.{ends_clause, Depth, sep_at}
use Rattle.own_grammar.proofs.Steps.{done, ok_is, chosen, kept, syn, no_ok}
use Rattle.own_grammar.proofs.Facts.{and_false, not_true, name_kind, truth_word, root_kind_of, keyword_word, keyword_kind, name_named, mark_kind, word_kind, at_mark, at_word, operator_mark, operator_kind, no_operator, prefix_mark, range_mark, range_kind, assign_mark, assign_kind}

-- ---- how an expression begins

abbrev pub word_starts : Word → Bool
word_starts word.True = true
word_starts word.False = true
word_starts word.SelfValue = true
word_starts word.Consume = true
word_starts _ = false

abbrev pub mark_starts : Mark → Bool
mark_starts mark.OpenParen = true
mark_starts mark.Dot = true
mark_starts mark.Minus = true
mark_starts mark.Not = true
mark_starts _ = false

abbrev pub can_start : Option Kind → Bool
can_start None = false
can_start (Some (kind.Name x)) = true
can_start (Some (kind.Word x)) = word_starts x
can_start (Some (kind.Number x)) = true
can_start (Some (kind.Text x)) = true
can_start (Some (kind.Mark x)) = mark_starts x

pub starts_at : (ts : Toks) (x : Option Kind) → kind_at ts ≡ x → can_start x ≡ true → can_start (kind_at ts) ≡ true
starts_at ts x e is = rw e is

pub starts_truth : (b : Bool) → can_start (Some (kind.Word (truth_word b))) ≡ true
unfolding truth_word
starts_truth true = refl
starts_truth false = refl

pub starts_root : (r : Root) → can_start (Some (root_kind_of r)) ≡ true
unfolding root_kind_of
starts_root (Named n) = refl
starts_root (SelfWord s) = refl

pub starts_prefix : (o : PrefixOperator) → can_start (Some (kind.Mark (prefix_mark o))) ≡ true
unfolding prefix_mark
starts_prefix sign.Minus = refl
starts_prefix sign.Not = refl

pub tells : (b : Bool) → (b ≡ true) ⊎ (b ≡ false)
tells true = inl refl
tells false = inr refl

pub clash : (b : Bool) → b ≡ true → b ≡ false → ⊥
clash true e f = absurd cc
clash false e f = absurd cc

-- a word that begins no expression
pub no_word : (a : Word) (ts : Toks) → word_starts a ≡ false → can_start (kind_at ts) ≡ true → is_word a ts ≡ false
no_word a ts isnt st = elim (tells (is_word a ts)) [
  | inl y ↦ absurd (clash (word_starts a) (rw (word_kind a ts y) at st) isnt)
  | inr y ↦ y
]

-- a mark that begins no expression
pub no_mark : (a : Mark) (ts : Toks) → mark_starts a ≡ false → can_start (kind_at ts) ≡ true → is_mark a ts ≡ false
no_mark a ts isnt st = elim (tells (is_mark a ts)) [
  | inl y ↦ absurd (clash (mark_starts a) (rw (mark_kind a ts y) at st) isnt)
  | inr y ↦ y
]

word_no_keyword : (x : Word) → word_starts x ≡ true → keyword_in (Some (kind.Word x)) ≡ None
word_no_keyword word.Let e = absurd cc
word_no_keyword word.Var e = absurd cc
word_no_keyword _ e = refl

start_no_keyword : (x : Option Kind) → can_start x ≡ true → keyword_in x ≡ None
start_no_keyword None e = refl
start_no_keyword (Some (kind.Name x)) e = refl
start_no_keyword (Some (kind.Word x)) e = word_no_keyword x e
start_no_keyword (Some (kind.Number x)) e = refl
start_no_keyword (Some (kind.Text x)) e = refl
start_no_keyword (Some (kind.Mark x)) e = refl

pub no_keyword : (ts : Toks) → can_start (kind_at ts) ≡ true → keyword_at ts ≡ None
unfolding keyword_at
no_keyword ts st = start_no_keyword (kind_at ts) st

-- ---- where an expression stops

-- 9 where there is none
abbrev pub level_in : Option BinaryOperator → ℕ
level_in (Some o) = level o
level_in None = 9

-- nothing of the level n or a tighter one goes on here
pub record Stops (n : ℕ) (context : Context) (ts : Toks) : Type 0 where
  pub opens : opens context ts ≡ false
  pub closes : closes context ts ≡ false
  pub dot : is_mark mark.Dot ts ≡ false
  pub question : 6 ≤ n → is_mark mark.Question ts ≡ false
  pub above : n < level_in (operator_at ts)

-- a token with which no expression goes on
abbrev pub mark_quiet : Mark → Bool
mark_quiet mark.OpenParen = false
mark_quiet mark.OpenBrace = false
mark_quiet mark.Dot = false
mark_quiet mark.Question = false
mark_quiet mark.Or = false
mark_quiet mark.And = false
mark_quiet mark.Equal = false
mark_quiet mark.NotEqual = false
mark_quiet mark.Less = false
mark_quiet mark.LessEqual = false
mark_quiet mark.Greater = false
mark_quiet mark.GreaterEqual = false
mark_quiet mark.Plus = false
mark_quiet mark.Minus = false
mark_quiet mark.WrappingPlus = false
mark_quiet mark.WrappingMinus = false
mark_quiet mark.Star = false
mark_quiet mark.Slash = false
mark_quiet mark.Percent = false
mark_quiet mark.WrappingStar = false
mark_quiet _ = true

abbrev pub quiet : Option Kind → Bool
quiet None = true
quiet (Some (kind.Name x)) = true
quiet (Some (kind.Word x)) = true
quiet (Some (kind.Number x)) = true
quiet (Some (kind.Text x)) = true
quiet (Some (kind.Mark x)) = mark_quiet x

record Quiet (x : Option Kind) : Type 0 where
  pub paren : mark_is mark.OpenParen x ≡ false
  pub brace : mark_is mark.OpenBrace x ≡ false
  pub dot : mark_is mark.Dot x ≡ false
  pub question : mark_is mark.Question x ≡ false
  pub operator : operator_in x ≡ None

is_none_is : {A : Type 0} (o : Option A) → is_none o ≡ true → o ≡ None
is_none_is None e = refl
is_none_is (Some x) e = absurd cc

quiet_mark : (x : Mark) → mark_quiet x ≡ true → Quiet (Some (kind.Mark x))
quiet_mark mark.OpenParen e = absurd cc
quiet_mark mark.OpenBrace e = absurd cc
quiet_mark mark.Dot e = absurd cc
quiet_mark mark.Question e = absurd cc
quiet_mark mark.Or e = absurd cc
quiet_mark mark.And e = absurd cc
quiet_mark mark.Equal e = absurd cc
quiet_mark mark.NotEqual e = absurd cc
quiet_mark mark.Less e = absurd cc
quiet_mark mark.LessEqual e = absurd cc
quiet_mark mark.Greater e = absurd cc
quiet_mark mark.GreaterEqual e = absurd cc
quiet_mark mark.Plus e = absurd cc
quiet_mark mark.Minus e = absurd cc
quiet_mark mark.WrappingPlus e = absurd cc
quiet_mark mark.WrappingMinus e = absurd cc
quiet_mark mark.Star e = absurd cc
quiet_mark mark.Slash e = absurd cc
quiet_mark mark.Percent e = absurd cc
quiet_mark mark.WrappingStar e = absurd cc
quiet_mark _ e = record { paren = refl; brace = refl; dot = refl; question = refl; operator = refl }

quiet_is : (x : Option Kind) → quiet x ≡ true → Quiet x
quiet_is None e = record { paren = refl; brace = refl; dot = refl; question = refl; operator = refl }
quiet_is (Some (kind.Name x)) e = record { paren = refl; brace = refl; dot = refl; question = refl; operator = refl }
quiet_is (Some (kind.Word x)) e = record { paren = refl; brace = refl; dot = refl; question = refl; operator = refl }
quiet_is (Some (kind.Number x)) e = record { paren = refl; brace = refl; dot = refl; question = refl; operator = refl }
quiet_is (Some (kind.Text x)) e = record { paren = refl; brace = refl; dot = refl; question = refl; operator = refl }
quiet_is (Some (kind.Mark x)) e = quiet_mark x e

pub not_opens : (context : Context) (ts : Toks) (x : Option Kind) → kind_at ts ≡ x → mark_is mark.OpenParen x ≡ false → opens context ts ≡ false
unfolding opens
not_opens context ts x e isnt = rw (at_mark mark.OpenParen ts x e, isnt) refl

pub not_closes : (context : Context) (ts : Toks) (x : Option Kind) → kind_at ts ≡ x → mark_is mark.OpenBrace x ≡ false → closes context ts ≡ false
unfolding closes
not_closes context ts x e isnt = rw (at_mark mark.OpenBrace ts x e, isnt) refl

pub stops_at : (n : ℕ) (context : Context) (ts : Toks) (x : Option Kind) → n < 9 → kind_at ts ≡ x → quiet x ≡ true → Stops n context ts
stops_at n context ts x lt e q = let s = quiet_is x q in record {
  opens = not_opens context ts x e s.paren;
  closes = not_closes context ts x e s.brace;
  dot = at_mark mark.Dot ts x e ∙ s.dot;
  question = λ le. at_mark mark.Question ts x e ∙ s.question;
  above = rw (no_operator ts x e s.operator) lt;
}

-- before `{`, in a condition
pub stops_brace : (n : ℕ) (ts : Toks) → n < 9 → kind_at ts ≡ Some (kind.Mark mark.OpenBrace) → Stops n Condition ts
unfolding closes
stops_brace n ts lt e = record {
  opens = not_opens Condition ts _ e refl;
  closes = and_false _ _ refl;
  dot = at_mark mark.Dot ts _ e;
  question = λ le. at_mark mark.Question ts _ e;
  above = rw (no_operator ts _ e refl) lt;
}

-- before `?`
pub stops_question : (n : ℕ) (context : Context) (ts : Toks) → n < 6 → kind_at ts ≡ Some (kind.Mark mark.Question) → Stops n context ts
stops_question n context ts lt e = record {
  opens = not_opens context ts _ e refl;
  closes = not_closes context ts _ e refl;
  dot = at_mark mark.Dot ts _ e;
  question = λ le. absurd (omega (arith, lt, le));
  above = rw (no_operator ts _ e refl) (omega (arith, lt));
}

record Operating (o : BinaryOperator) : Type 0 where
  pub paren : mark_is mark.OpenParen (Some (kind.Mark (operator_mark o))) ≡ false
  pub brace : mark_is mark.OpenBrace (Some (kind.Mark (operator_mark o))) ≡ false
  pub dot : mark_is mark.Dot (Some (kind.Mark (operator_mark o))) ≡ false
  pub question : mark_is mark.Question (Some (kind.Mark (operator_mark o))) ≡ false

operating : (o : BinaryOperator) → Operating o
unfolding operator_mark
operating operator.Or = record { paren = refl; brace = refl; dot = refl; question = refl }
operating operator.And = record { paren = refl; brace = refl; dot = refl; question = refl }
operating operator.Equal = record { paren = refl; brace = refl; dot = refl; question = refl }
operating operator.Unequal = record { paren = refl; brace = refl; dot = refl; question = refl }
operating operator.Less = record { paren = refl; brace = refl; dot = refl; question = refl }
operating operator.LessEqual = record { paren = refl; brace = refl; dot = refl; question = refl }
operating operator.Greater = record { paren = refl; brace = refl; dot = refl; question = refl }
operating operator.GreaterEqual = record { paren = refl; brace = refl; dot = refl; question = refl }
operating operator.Plus = record { paren = refl; brace = refl; dot = refl; question = refl }
operating operator.Minus = record { paren = refl; brace = refl; dot = refl; question = refl }
operating operator.PlusWrapping = record { paren = refl; brace = refl; dot = refl; question = refl }
operating operator.MinusWrapping = record { paren = refl; brace = refl; dot = refl; question = refl }
operating operator.Times = record { paren = refl; brace = refl; dot = refl; question = refl }
operating operator.Divide = record { paren = refl; brace = refl; dot = refl; question = refl }
operating operator.Remainder = record { paren = refl; brace = refl; dot = refl; question = refl }
operating operator.TimesWrapping = record { paren = refl; brace = refl; dot = refl; question = refl }

-- before a looser operator
pub stops_operator : (n : ℕ) (context : Context) (ts : Toks) (o : BinaryOperator) → operator_at ts ≡ Some o → n < level o → Stops n context ts
stops_operator n context ts o e lt = let k = operator_kind ts o e in let s = operating o in record {
  opens = not_opens context ts _ k s.paren;
  closes = not_closes context ts _ k s.brace;
  dot = at_mark mark.Dot ts _ k ∙ s.dot;
  question = λ le. at_mark mark.Question ts _ k ∙ s.question;
  above = rw e lt;
}

quiet_range : (o : RangeOperator) → quiet (Some (kind.Mark (range_mark o))) ≡ true
unfolding range_mark
quiet_range range.HalfOpen = refl
quiet_range range.Closed = refl

pub stops_range : (n : ℕ) (context : Context) (ts : Toks) (o : RangeOperator) → n < 9 → range_at ts ≡ Some o → Stops n context ts
stops_range n context ts o lt e = stops_at n context ts _ lt (range_kind ts o e) (quiet_range o)

quiet_assign : (o : AssignOperator) → quiet (Some (kind.Mark (assign_mark o))) ≡ true
unfolding assign_mark
quiet_assign assigning.Plain = refl
quiet_assign assigning.Plus = refl
quiet_assign assigning.Minus = refl
quiet_assign assigning.Times = refl
quiet_assign assigning.Divide = refl
quiet_assign assigning.Remainder = refl

pub stops_assign : (n : ℕ) (context : Context) (ts : Toks) (o : AssignOperator) → n < 9 → assign_at ts ≡ Some o → Stops n context ts
stops_assign n context ts o lt e = stops_at n context ts _ lt (assign_kind ts o e) (quiet_assign o)

-- a condition has no closure anyway
pub stops_condition : (n : ℕ) (ts : Toks) → Stops n Plain ts → Stops n Condition ts
unfolding opens closes
stops_condition n ts s = record { opens = s.opens; closes = and_false _ _ refl; dot = s.dot; question = s.question; above = s.above }

pub weaker : (n k : ℕ) (context : Context) (ts : Toks) → k ≤ n → Stops n context ts → Stops k context ts
weaker n k context ts le s = record { opens = s.opens; closes = s.closes; dot = s.dot; question = λ six. s.question (omega (arith, le, six)); above = omega (arith, le, s.above) }

-- ---- where a statement ends

pub record Breaks (ts : Toks) : Type 0 where
  pub stops : Stops 6 Plain ts
  pub assigns : assigns ts ≡ false
  pub annotates : annotates ts ≡ false
  pub assign : assign_at ts ≡ None
  pub no_else : is_word word.Else ts ≡ false
  pub bare : is_bare ts ≡ true

or_last : (b : Bool) → (b || true) ≡ true
or_last true = refl
or_last false = refl

line_none : {A : Type 0} (b : Bool) (o : Option A) → o ≡ None → cond b None o ≡ None
line_none true o e = refl
line_none false o e = e

-- a token that is no `=`, `:` or `else` and with which no expression goes on
breaks_at : (ts : Toks) (x : Option Kind) → kind_at ts ≡ x → quiet x ≡ true → mark_is mark.Assign x ≡ false → mark_is mark.Colon x ≡ false → assign_in x ≡ None → word_is word.Else x ≡ false → is_bare ts ≡ true → Breaks ts
unfolding assigns annotates assign_at
breaks_at ts x e q eq colon assign other bare = record {
  stops = stops_at 6 Plain ts x (omega arith) e q;
  assigns = rw (at_mark mark.Assign ts x e, eq) refl;
  annotates = rw (at_mark mark.Colon ts x e, colon) refl;
  assign = line_none (is_new_line ts) (assign_in (kind_at ts)) (rw e assign);
  no_else = at_word word.Else ts x e ∙ other;
  bare = bare;
}

bare_line : (a b c d : Bool) → c ≡ true → (a || b || c || d) ≡ true
bare_line true b c d e = refl
bare_line false true c d e = refl
bare_line false false true d e = refl
bare_line false false false d e = absurd cc

and_three : (b : Bool) → (b && false && true) ≡ false
and_three true = refl
and_three false = refl

record Line (ts : Toks) : Type 0 where
  pub operator : operator_at ts ≡ None
  pub dot : is_mark mark.Dot ts ≡ false
  pub question : is_mark mark.Question ts ≡ false
  pub other : is_word word.Else ts ≡ false

some_not : {A : Type 0} (o : Option A) → not (is_none o) ≡ false → o ≡ None
some_not None e = refl
some_not (Some x) e = absurd cc

five : (a b c d e : Bool) → (a || b || c || d || e) ≡ false → (a ≡ false) × (b ≡ false) × (c ≡ false) × (d ≡ false) × (e ≡ false)
five true b c d e h = absurd cc
five false true c d e h = absurd cc
five false false true d e h = absurd cc
five false false false true e h = absurd cc
five false false false false true h = absurd cc
five false false false false false h = (refl, refl, refl, refl, refl)

line_of : (ts : Toks) → goes_on ts ≡ false → Line ts
unfolding goes_on
line_of ts e = let f = five (not (is_none (operator_at ts))) (not (is_none (range_at ts))) (is_mark mark.Dot ts) (is_mark mark.Question ts) (is_word word.Else ts) e in
    record { operator = some_not _ f.0; dot = f.2; question = f.3; other = f.4 }

breaks_line : (ts : Toks) → is_new_line ts ≡ true → goes_on ts ≡ false → Breaks ts
unfolding is_bare assigns annotates assign_at opens closes
breaks_line ts line over = let l = line_of ts over in record {
  stops = record { opens = rw line (and_false _ _ refl); closes = rw line (and_three (is_mark mark.OpenBrace ts)); dot = l.dot; question = λ le. l.question; above = rw l.operator (omega arith) };
  assigns = rw line (and_false _ _ refl);
  annotates = rw line (and_false _ _ refl);
  assign = rw line refl;
  no_else = l.other;
  bare = bare_line (is_over ts) (is_mark mark.CloseBrace ts) (is_new_line ts) (is_mark mark.Semicolon ts) line;
}

breaks_semicolon : (ts : Toks) → kind_at ts ≡ Some (kind.Mark mark.Semicolon) → Breaks ts
unfolding is_bare is_mark
breaks_semicolon ts e = breaks_at ts _ e refl refl refl refl refl (rw e (or_last (is_new_line ts)))

breaks_brace : (ts : Toks) → kind_at ts ≡ Some (kind.Mark mark.CloseBrace) → Breaks ts
unfolding is_bare is_mark
breaks_brace ts e = breaks_at ts _ e refl refl refl refl refl (rw e refl)

breaks_over : (ts : Toks) → kind_at ts ≡ None → Breaks ts
unfolding is_bare is_mark
breaks_over ts e = breaks_at ts None e refl refl refl refl refl (rw e refl)

three : (a b c : Bool) → (a || b || c) ≡ true → (a ≡ true) ⊎ ((b ≡ true) ⊎ (c ≡ true))
three true b c e = inl refl
three false true c e = inr (inl refl)
three false false c e = inr (inr e)

and_three_true : (a b c : Bool) → (a && b && c) ≡ true → (a ≡ true) × (b ≡ true) × (c ≡ true)
and_three_true true true true e = (refl, refl, refl)
and_three_true false b c e = absurd cc
and_three_true true false c e = absurd cc
and_three_true true true false e = absurd cc

breaks_ends : (ts : Toks) → ends ts ≡ true → Breaks ts
unfolding ends
breaks_ends ts e = elim (three (is_over ts) (is_mark mark.CloseBrace ts) (is_new_line ts && not (goes_on ts) && not (is_mark mark.Semicolon ts)) e) [
  | inl over ↦ breaks_over ts (is_none_is _ over)
  | inr more ↦ elim more [
    | inl brace ↦ breaks_brace ts (mark_kind mark.CloseBrace ts brace)
    | inr line ↦ (let a = and_three_true (is_new_line ts) (not (goes_on ts)) (not (is_mark mark.Semicolon ts)) line in breaks_line ts a.0 (not_true _ a.1))
  ]
]

-- what is known where a statement ends, a bare `return` or another
abbrev pub After : Bool → Toks → Type 0
After true ts = is_bare ts ≡ true
After false ts = Breaks ts

pub after_sep : (bare : Bool) (mid next : Toks) → Sep bare mid next → After bare mid
after_sep true mid next (inl (semi, is)) = (breaks_semicolon mid semi).bare
after_sep true mid next (inr (en, isnt, is)) = en
after_sep false mid next (inl (semi, is)) = breaks_semicolon mid semi
after_sep false mid next (inr (en, isnt, is)) = breaks_ends mid en

pub no_semicolon : (ts : Toks) → (kind_at ts ≡ Some (kind.Mark mark.Semicolon) → ⊥) → is_mark mark.Semicolon ts ≡ false
no_semicolon ts isnt = elim (tells (is_mark mark.Semicolon ts)) [
  | inl y ↦ absurd (isnt (mark_kind mark.Semicolon ts y))
  | inr y ↦ y
]

-- ---- tests at a token of a known kind

pub at_keyword : (ts : Toks) (x : Option Kind) → kind_at ts ≡ x → keyword_at ts ≡ keyword_in x
unfolding keyword_at
at_keyword ts x e = rw e refl

pub not_annotates : (ts : Toks) (x : Option Kind) → kind_at ts ≡ x → mark_is mark.Colon x ≡ false → annotates ts ≡ false
unfolding annotates
not_annotates ts x e isnt = rw (at_mark mark.Colon ts x e, isnt) refl

pub name_binder : (ts : Toks) (n : Name) → name_at ts ≡ Some n → binder_at ts ≡ Some (Some n)
unfolding binder_at
name_binder ts n e = rw (name_kind ts n e) (ap (λ (m : Name). Some (Some m)) (sym (name_named ts n e)))

pub mark_no_binder : (ts : Toks) → kind_at ts ≡ Some (kind.Mark mark.Underscore) → binder_at ts ≡ Some None
unfolding binder_at
mark_no_binder ts e = rw e refl

pub not_clause : (ts : Toks) (x : Option Kind) → kind_at ts ≡ x → word_is word.Case x ≡ false → word_is word.Default x ≡ false → mark_is mark.CloseBrace x ≡ false → ends_clause ts ≡ false
unfolding ends_clause
not_clause ts x e a b c = rw (at_word word.Case ts x e, a, at_word word.Default ts x e, b, at_mark mark.CloseBrace ts x e) c

pub start_no_clause : (ts : Toks) → can_start (kind_at ts) ≡ true → ends_clause ts ≡ false
unfolding ends_clause
start_no_clause ts st = rw (no_word word.Case ts refl st, no_word word.Default ts refl st) (no_mark mark.CloseBrace ts refl st)

keyword_not : (k : Keyword) → (word_is word.Case (Some (kind.Word (keyword_word k))) ≡ false) × (word_is word.Default (Some (kind.Word (keyword_word k))) ≡ false)
unfolding keyword_word
keyword_not keyword.Let = (refl, refl)
keyword_not keyword.Var = (refl, refl)

pub keyword_no_clause : (ts : Toks) (k : Keyword) → keyword_at ts ≡ Some k → ends_clause ts ≡ false
keyword_no_clause ts k e = let w = keyword_not k in not_clause ts _ (keyword_kind ts k e) w.0 w.1 refl

third : (a b c : Bool) → cond a true (cond b true c) ≡ false → c ≡ false
third true b c e = absurd cc
third false true c e = absurd cc
third false false c e = e

pub no_brace : (ts : Toks) → ends_clause ts ≡ false → is_mark mark.CloseBrace ts ≡ false
unfolding ends_clause
no_brace ts e = third (is_word word.Case ts) (is_word word.Default ts) _ e

-- ---- SEP

pub sep_is : (bare : Bool) (mid next : Toks) → Sep bare mid next → sep_at bare mid ≡ Ok next
unfolding sep_at
sep_is bare mid next (inl (semi, is)) = rw (is, at_mark mark.Semicolon mid _ semi) refl
sep_is bare mid next (inr (en, isnt, is)) = rw (is, no_semicolon mid isnt, en) refl

pub sep_sound : (bare : Bool) (ts next : Toks) → sep_at bare ts ≡ Ok next → Sep bare ts next
unfolding sep_at
sep_sound bare ts next e = elim (chosen (is_mark mark.Semicolon ts) _ _ _ e) [
  | inl y ↦ inl (mark_kind mark.Semicolon ts y.0, sym (ok_is (after ts) next y.1))
  | inr y ↦ (let q = kept (ends_after bare ts) _ _ next y.1 in inr (q.0, λ semi. clash _ (at_mark mark.Semicolon ts _ semi) y.0, sym (ok_is ts next q.1)))
]

pub sep_no_depth : (bare : Bool) (ts : Toks) (n : ℕ) → sep_at bare ts ≡ Err (Depth n) → ⊥
unfolding sep_at
sep_no_depth bare ts n e = elim (chosen (is_mark mark.Semicolon ts) _ _ _ e) [
  | inl y ↦ no_ok _ n y.1
  | inr y ↦ (let q = syn (ends_after bare ts) (done ts) _ n y.1 in no_ok _ n q.1)
]
