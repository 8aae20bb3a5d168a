-- What the tests on tokens say of the next token.
use Rattle.std.proofs.Common.{◌≡◌, ℕ, Bool, cond, true, false, not, ◌&&◌, ◌||◌, List, Option, Some, None, ◌⊎◌, inl, inr, refl, ap, rules}
use denote.Enum.Bare.{same_true}
use Rattle.own_tree.specs.contracts.token.Mark as mark_type
use Rattle.own_tree.specs.contracts.token.Word as word_type
use Rattle.own_tree.specs.declared.span.Span.{Span}
use Rattle.own_tree.specs.declared.token.Mark.{Mark}
use Rattle.own_tree.specs.declared.token.Mark.TheVariants as mark
use Rattle.own_tree.specs.declared.token.Word.{Word}
use Rattle.own_tree.specs.declared.token.Word.TheVariants as word
use Rattle.own_tree.specs.declared.token.Kind.{Kind}
use Rattle.own_tree.specs.declared.token.Kind.TheVariants as kind
use Rattle.own_tree.specs.declared.tree.Name.{Name}
use Rattle.own_tree.specs.declared.tree.Root.{Root}
use Rattle.own_tree.specs.declared.tree.Root.TheVariants.{Named, SelfWord}
use Rattle.own_tree.specs.declared.tree.Keyword.{Keyword}
use Rattle.own_tree.specs.declared.tree.Keyword.TheVariants as keyword
use Rattle.own_tree.specs.declared.tree.PrefixOperator.{PrefixOperator}
use Rattle.own_tree.specs.declared.tree.PrefixOperator.TheVariants as sign
use Rattle.own_tree.specs.declared.tree.BinaryOperator.{BinaryOperator}
use Rattle.own_tree.specs.declared.tree.BinaryOperator.TheVariants as operator
use Rattle.own_tree.specs.declared.tree.AssignOperator.{AssignOperator}
use Rattle.own_tree.specs.declared.tree.AssignOperator.TheVariants as assigning
use Rattle.own_tree.specs.declared.tree.RangeOperator.{RangeOperator}
use Rattle.own_tree.specs.declared.tree.RangeOperator.TheVariants as range
use Rattle.own_grammar.specs.Tests.{Toks, after, here, kind_at, mark_is, is_mark, word_is, is_word, name_in, name_at, number_in, number_at, text_in, text_at, word_truth, truth_in, truth_at, word_root, root_in, root_at, mark_binder, binder_in, binder_at, word_keyword, keyword_in, keyword_at, mark_operator, operator_in, operator_at, is_even, leads, mark_prefix, prefix_in, prefix_at, minus_then, negative_at, unless_some, unary_at, mark_assign, assign_in, assign_at, mark_range, range_in, range_at, is_new_line, assigns, annotates, joins, allows, opens, closes, label_at}
use Rattle.own_grammar.specs.declared.Context.{Context}

-- ---- truth values

pub and_true : (a b : Bool) → (a && b) ≡ true → (a ≡ true) × (b ≡ true)
and_true true true e = (refl, refl)
and_true true false e = absurd cc
and_true false b e = absurd cc

pub and_false : (a b : Bool) → b ≡ false → (a && b) ≡ false
and_false true b e = e
and_false false b e = refl

pub not_true : (b : Bool) → not b ≡ true → b ≡ false
not_true true e = absurd cc
not_true false e = refl

pub or_false : (a b : Bool) → (a || b) ≡ false → (a ≡ false) × (b ≡ false)
or_false true b e = absurd cc
or_false false true e = absurd cc
or_false false false e = (refl, refl)

pub or_true : (a b : Bool) → (a || b) ≡ true → (a ≡ true) ⊎ (b ≡ true)
or_true true b e = inl refl
or_true false b e = inr e

pub if_some : {A : Type 0} (b : Bool) (o : Option A) (x : A) → cond b o None ≡ Some x → (b ≡ true) × (o ≡ Some x)
if_some true o x e = (refl, e)
if_some false o x e = absurd cc

pub if_none : {A : Type 0} (b : Bool) (o : Option A) → o ≡ None → cond b o None ≡ None
if_none true o e = e
if_none false o e = refl

-- ---- the kind of the next token, by what a test found

private_some : {A : Type 0} (x y : A) → Some x ≡ Some y → x ≡ y
private_some x y e = cc

number_kind_in : (k : Option Kind) (n : ℕ) → number_in k ≡ Some n → k ≡ Some (kind.Number n)
number_kind_in None n e = absurd cc
number_kind_in (Some (kind.Name x)) n e = absurd cc
number_kind_in (Some (kind.Word x)) n e = absurd cc
number_kind_in (Some (kind.Number x)) n e = cc
number_kind_in (Some (kind.Text x)) n e = absurd cc
number_kind_in (Some (kind.Mark x)) n e = absurd cc

pub number_kind : (ts : Toks) (n : ℕ) → number_at ts ≡ Some n → kind_at ts ≡ Some (kind.Number n)
unfolding number_at
number_kind ts n e = number_kind_in (kind_at ts) n e

text_kind_in : (k : Option Kind) (t : List ℕ) → text_in k ≡ Some t → k ≡ Some (kind.Text t)
text_kind_in None n e = absurd cc
text_kind_in (Some (kind.Name x)) n e = absurd cc
text_kind_in (Some (kind.Word x)) n e = absurd cc
text_kind_in (Some (kind.Number x)) n e = absurd cc
text_kind_in (Some (kind.Text x)) n e = cc
text_kind_in (Some (kind.Mark x)) n e = absurd cc

pub text_kind : (ts : Toks) (t : List ℕ) → text_at ts ≡ Some t → kind_at ts ≡ Some (kind.Text t)
unfolding text_at
text_kind ts t e = text_kind_in (kind_at ts) t e

abbrev pub named : Span → List ℕ → Name
named s t = record { text = t; span = s }

name_kind_in : (s : Span) (k : Option Kind) (n : Name) → name_in s k ≡ Some n → (k ≡ Some (kind.Name n.text)) × (n ≡ named s n.text)
name_kind_in s None n e = absurd cc
name_kind_in s (Some (kind.Name x)) n e = rw (← private_some (named s x) n e) (refl, refl)
name_kind_in s (Some (kind.Word x)) n e = absurd cc
name_kind_in s (Some (kind.Number x)) n e = absurd cc
name_kind_in s (Some (kind.Text x)) n e = absurd cc
name_kind_in s (Some (kind.Mark x)) n e = absurd cc

pub name_kind : (ts : Toks) (n : Name) → name_at ts ≡ Some n → kind_at ts ≡ Some (kind.Name n.text)
unfolding name_at
name_kind ts n e = (name_kind_in (here ts) (kind_at ts) n e).0

pub name_named : (ts : Toks) (n : Name) → name_at ts ≡ Some n → n ≡ named (here ts) n.text
unfolding name_at
name_named ts n e = (name_kind_in (here ts) (kind_at ts) n e).1

-- a name has the span of its token
pub name_span : (ts : Toks) (n : Name) → name_at ts ≡ Some n → n.span ≡ here ts
unfolding name_at
name_span ts n e = ap (λ (m : Name). m.span) (name_kind_in (here ts) (kind_at ts) n e).1

unfoldable pub truth_word : Bool → Word
truth_word true = word.True
truth_word false = word.False

word_truth_is : (x : Word) (b : Bool) → word_truth x ≡ Some b → x ≡ truth_word b
unfolding truth_word
word_truth_is word.True true e = refl
word_truth_is word.True false e = absurd cc
word_truth_is word.False true e = absurd cc
word_truth_is word.False false e = refl
word_truth_is _ b e = absurd cc

truth_kind_in : (k : Option Kind) (b : Bool) → truth_in k ≡ Some b → k ≡ Some (kind.Word (truth_word b))
truth_kind_in None n e = absurd cc
truth_kind_in (Some (kind.Name x)) n e = absurd cc
truth_kind_in (Some (kind.Word x)) n e = ap (λ (y : Word). Some (kind.Word y)) (word_truth_is x n e)
truth_kind_in (Some (kind.Number x)) n e = absurd cc
truth_kind_in (Some (kind.Text x)) n e = absurd cc
truth_kind_in (Some (kind.Mark x)) n e = absurd cc

pub truth_kind : (ts : Toks) (b : Bool) → truth_at ts ≡ Some b → kind_at ts ≡ Some (kind.Word (truth_word b))
unfolding truth_at
truth_kind ts b e = truth_kind_in (kind_at ts) b e

unfoldable pub root_kind_of : Root → Kind
root_kind_of (Named n) = kind.Name n.text
root_kind_of (SelfWord s) = kind.Word word.SelfValue

word_root_is : (s : Span) (x : Word) (r : Root) → word_root s x ≡ Some r → kind.Word x ≡ root_kind_of r
unfolding root_kind_of
word_root_is s word.SelfValue (Named n) e = absurd cc
word_root_is s word.SelfValue (SelfWord t) e = refl
word_root_is s _ r e = absurd cc

name_root_is : (s : Span) (x : List ℕ) (r : Root) → root_in s (Some (kind.Name x)) ≡ Some r → kind.Name x ≡ root_kind_of r
unfolding root_kind_of
name_root_is s x r e = rw (← private_some (Named (named s x)) r e) refl

root_kind_in : (s : Span) (k : Option Kind) (r : Root) → root_in s k ≡ Some r → k ≡ Some (root_kind_of r)
root_kind_in s None r e = absurd cc
root_kind_in s (Some (kind.Name x)) r e = ap (λ (y : Kind). Some y) (name_root_is s x r e)
root_kind_in s (Some (kind.Word x)) r e = ap (λ (y : Kind). Some y) (word_root_is s x r e)
root_kind_in s (Some (kind.Number x)) r e = absurd cc
root_kind_in s (Some (kind.Text x)) r e = absurd cc
root_kind_in s (Some (kind.Mark x)) r e = absurd cc

pub root_kind : (ts : Toks) (r : Root) → root_at ts ≡ Some r → kind_at ts ≡ Some (root_kind_of r)
unfolding root_at
root_kind ts r e = root_kind_in (here ts) (kind_at ts) r e

unfoldable pub binder_kind_of : Option Name → Kind
binder_kind_of (Some n) = kind.Name n.text
binder_kind_of None = kind.Mark mark.Underscore

mark_binder_is : (x : Mark) (n : Option Name) → mark_binder x ≡ Some n → kind.Mark x ≡ binder_kind_of n
unfolding binder_kind_of
mark_binder_is mark.Underscore None e = refl
mark_binder_is mark.Underscore (Some n) e = absurd cc
mark_binder_is _ n e = absurd cc

name_binder_is : (s : Span) (x : List ℕ) (n : Option Name) → binder_in s (Some (kind.Name x)) ≡ Some n → kind.Name x ≡ binder_kind_of n
unfolding binder_kind_of
name_binder_is s x n e = rw (← private_some (Some (named s x)) n e) refl

binder_kind_in : (s : Span) (k : Option Kind) (n : Option Name) → binder_in s k ≡ Some n → k ≡ Some (binder_kind_of n)
binder_kind_in s None n e = absurd cc
binder_kind_in s (Some (kind.Name x)) n e = ap (λ (y : Kind). Some y) (name_binder_is s x n e)
binder_kind_in s (Some (kind.Word x)) n e = absurd cc
binder_kind_in s (Some (kind.Number x)) n e = absurd cc
binder_kind_in s (Some (kind.Text x)) n e = absurd cc
binder_kind_in s (Some (kind.Mark x)) n e = ap (λ (y : Kind). Some y) (mark_binder_is x n e)

pub binder_kind : (ts : Toks) (n : Option Name) → binder_at ts ≡ Some n → kind_at ts ≡ Some (binder_kind_of n)
unfolding binder_at
binder_kind ts n e = binder_kind_in (here ts) (kind_at ts) n e

unfoldable pub keyword_word : Keyword → Word
keyword_word keyword.Let = word.Let
keyword_word keyword.Var = word.Var

word_keyword_is : (x : Word) (k : Keyword) → word_keyword x ≡ Some k → x ≡ keyword_word k
unfolding keyword_word
word_keyword_is word.Let keyword.Let e = refl
word_keyword_is word.Let keyword.Var e = absurd cc
word_keyword_is word.Var keyword.Let e = absurd cc
word_keyword_is word.Var keyword.Var e = refl
word_keyword_is _ k e = absurd cc

keyword_kind_in : (x : Option Kind) (k : Keyword) → keyword_in x ≡ Some k → x ≡ Some (kind.Word (keyword_word k))
keyword_kind_in None n e = absurd cc
keyword_kind_in (Some (kind.Name x)) n e = absurd cc
keyword_kind_in (Some (kind.Word x)) n e = ap (λ (y : Word). Some (kind.Word y)) (word_keyword_is x n e)
keyword_kind_in (Some (kind.Number x)) n e = absurd cc
keyword_kind_in (Some (kind.Text x)) n e = absurd cc
keyword_kind_in (Some (kind.Mark x)) n e = absurd cc

pub keyword_kind : (ts : Toks) (k : Keyword) → keyword_at ts ≡ Some k → kind_at ts ≡ Some (kind.Word (keyword_word k))
unfolding keyword_at
keyword_kind ts k e = keyword_kind_in (kind_at ts) k e

-- ---- marks and words

mark_kind_in : (a : Mark) (k : Option Kind) → mark_is a k ≡ true → k ≡ Some (kind.Mark a)
mark_kind_in a None e = absurd cc
mark_kind_in a (Some (kind.Name x)) e = absurd cc
mark_kind_in a (Some (kind.Word x)) e = absurd cc
mark_kind_in a (Some (kind.Number x)) e = absurd cc
mark_kind_in a (Some (kind.Text x)) e = absurd cc
mark_kind_in a (Some (kind.Mark x)) e = ap (λ (y : Mark). Some (kind.Mark y)) (same_true mark_type.the_type (search rules) x a e)

word_kind_in : (a : Word) (k : Option Kind) → word_is a k ≡ true → k ≡ Some (kind.Word a)
word_kind_in a None e = absurd cc
word_kind_in a (Some (kind.Name x)) e = absurd cc
word_kind_in a (Some (kind.Word x)) e = ap (λ (y : Word). Some (kind.Word y)) (same_true word_type.the_type (search rules) x a e)
word_kind_in a (Some (kind.Number x)) e = absurd cc
word_kind_in a (Some (kind.Text x)) e = absurd cc
word_kind_in a (Some (kind.Mark x)) e = absurd cc

pub mark_kind : (a : Mark) (ts : Toks) → is_mark a ts ≡ true → kind_at ts ≡ Some (kind.Mark a)
unfolding is_mark
mark_kind a ts e = mark_kind_in a (kind_at ts) e

pub word_kind : (a : Word) (ts : Toks) → is_word a ts ≡ true → kind_at ts ≡ Some (kind.Word a)
unfolding is_word
word_kind a ts e = word_kind_in a (kind_at ts) e

pub at_mark : (a : Mark) (ts : Toks) (x : Option Kind) → kind_at ts ≡ x → is_mark a ts ≡ mark_is a x
unfolding is_mark
at_mark a ts x e = rw e refl

pub at_word : (a : Word) (ts : Toks) (x : Option Kind) → kind_at ts ≡ x → is_word a ts ≡ word_is a x
unfolding is_word
at_word a ts x e = rw e refl

pub opens_kind : (context : Context) (ts : Toks) → opens context ts ≡ true → kind_at ts ≡ Some (kind.Mark mark.OpenParen)
unfolding opens
opens_kind context ts e = mark_kind mark.OpenParen ts (and_true _ _ e).0

and_first : (a b c : Bool) → (a && b && c) ≡ true → a ≡ true
and_first true b c h = refl
and_first false b c h = absurd cc

pub closes_kind : (context : Context) (ts : Toks) → closes context ts ≡ true → kind_at ts ≡ Some (kind.Mark mark.OpenBrace)
unfolding closes
closes_kind context ts e = mark_kind mark.OpenBrace ts (and_first (is_mark mark.OpenBrace ts) (joins context ts) (allows context) e)

pub assigns_kind : (ts : Toks) → assigns ts ≡ true → kind_at ts ≡ Some (kind.Mark mark.Assign)
unfolding assigns
assigns_kind ts e = mark_kind mark.Assign ts (and_true _ _ e).0

pub annotates_kind : (ts : Toks) → annotates ts ≡ true → kind_at ts ≡ Some (kind.Mark mark.Colon)
unfolding annotates
annotates_kind ts e = mark_kind mark.Colon ts (and_true _ _ e).0

pub label_name : (ts : Toks) (n : Name) → label_at ts ≡ Some n → name_at ts ≡ Some n
unfolding label_at
label_name ts n e = (if_some (is_mark mark.Colon (after ts)) (name_at ts) n e).1

-- ---- operators

unfoldable pub operator_mark : BinaryOperator → Mark
operator_mark operator.Or = mark.Or
operator_mark operator.And = mark.And
operator_mark operator.Equal = mark.Equal
operator_mark operator.Unequal = mark.NotEqual
operator_mark operator.Less = mark.Less
operator_mark operator.LessEqual = mark.LessEqual
operator_mark operator.Greater = mark.Greater
operator_mark operator.GreaterEqual = mark.GreaterEqual
operator_mark operator.Plus = mark.Plus
operator_mark operator.Minus = mark.Minus
operator_mark operator.PlusWrapping = mark.WrappingPlus
operator_mark operator.MinusWrapping = mark.WrappingMinus
operator_mark operator.Times = mark.Star
operator_mark operator.Divide = mark.Slash
operator_mark operator.Remainder = mark.Percent
operator_mark operator.TimesWrapping = mark.WrappingStar

marked : Option BinaryOperator → Mark
marked (Some o) = operator_mark o
marked None = mark.Semicolon

mark_operator_is : (x : Mark) (o : BinaryOperator) → mark_operator x ≡ Some o → x ≡ operator_mark o
unfolding operator_mark marked
mark_operator_is mark.Or o e = ap marked e
mark_operator_is mark.And o e = ap marked e
mark_operator_is mark.Equal o e = ap marked e
mark_operator_is mark.NotEqual o e = ap marked e
mark_operator_is mark.Less o e = ap marked e
mark_operator_is mark.LessEqual o e = ap marked e
mark_operator_is mark.Greater o e = ap marked e
mark_operator_is mark.GreaterEqual o e = ap marked e
mark_operator_is mark.Plus o e = ap marked e
mark_operator_is mark.Minus o e = ap marked e
mark_operator_is mark.WrappingPlus o e = ap marked e
mark_operator_is mark.WrappingMinus o e = ap marked e
mark_operator_is mark.Star o e = ap marked e
mark_operator_is mark.Slash o e = ap marked e
mark_operator_is mark.Percent o e = ap marked e
mark_operator_is mark.WrappingStar o e = ap marked e
mark_operator_is _ o e = absurd cc

operator_kind_in : (x : Option Kind) (o : BinaryOperator) → operator_in x ≡ Some o → x ≡ Some (kind.Mark (operator_mark o))
operator_kind_in None o e = absurd cc
operator_kind_in (Some (kind.Name x)) o e = absurd cc
operator_kind_in (Some (kind.Word x)) o e = absurd cc
operator_kind_in (Some (kind.Number x)) o e = absurd cc
operator_kind_in (Some (kind.Text x)) o e = absurd cc
operator_kind_in (Some (kind.Mark x)) o e = ap (λ (y : Mark). Some (kind.Mark y)) (mark_operator_is x o e)

pub operator_kind : (ts : Toks) (o : BinaryOperator) → operator_at ts ≡ Some o → kind_at ts ≡ Some (kind.Mark (operator_mark o))
unfolding operator_at
operator_kind ts o e = operator_kind_in (kind_at ts) o (if_some (is_even ts) _ o e).1

pub no_operator : (ts : Toks) (x : Option Kind) → kind_at ts ≡ x → operator_in x ≡ None → operator_at ts ≡ None
unfolding operator_at
no_operator ts x e isnt = if_none (is_even ts) (operator_in (kind_at ts)) (rw e isnt)

unfoldable pub prefix_mark : PrefixOperator → Mark
prefix_mark sign.Minus = mark.Minus
prefix_mark sign.Not = mark.Not

mark_prefix_is : (x : Mark) (o : PrefixOperator) → mark_prefix x ≡ Some o → x ≡ prefix_mark o
unfolding prefix_mark
mark_prefix_is mark.Minus sign.Minus e = refl
mark_prefix_is mark.Minus sign.Not e = absurd cc
mark_prefix_is mark.Not sign.Minus e = absurd cc
mark_prefix_is mark.Not sign.Not e = refl
mark_prefix_is _ o e = absurd cc

prefix_kind_in : (x : Option Kind) (o : PrefixOperator) → prefix_in x ≡ Some o → x ≡ Some (kind.Mark (prefix_mark o))
prefix_kind_in None o e = absurd cc
prefix_kind_in (Some (kind.Name x)) o e = absurd cc
prefix_kind_in (Some (kind.Word x)) o e = absurd cc
prefix_kind_in (Some (kind.Number x)) o e = absurd cc
prefix_kind_in (Some (kind.Text x)) o e = absurd cc
prefix_kind_in (Some (kind.Mark x)) o e = ap (λ (y : Mark). Some (kind.Mark y)) (mark_prefix_is x o e)

prefix_kind : (tight : Bool) (ts : Toks) (o : PrefixOperator) → prefix_at tight ts ≡ Some o → kind_at ts ≡ Some (kind.Mark (prefix_mark o))
unfolding prefix_at
prefix_kind tight ts o e = prefix_kind_in (kind_at ts) o (if_some (leads tight ts) _ o e).1

minus_is : (o : Option PrefixOperator) (m : Option ℕ) (n : ℕ) → minus_then o m ≡ Some n → (o ≡ Some sign.Minus) × (m ≡ Some n)
minus_is None m n e = absurd cc
minus_is (Some sign.Minus) m n e = (refl, e)
minus_is (Some sign.Not) m n e = absurd cc

pub negative_kind : (tight : Bool) (ts : Toks) (n : ℕ) → negative_at tight ts ≡ Some n → (kind_at ts ≡ Some (kind.Mark mark.Minus)) × (number_at (after ts) ≡ Some n)
unfolding negative_at prefix_mark
negative_kind tight ts n e = let m = minus_is (prefix_at tight ts) (number_at (after ts)) n e in (prefix_kind tight ts sign.Minus m.0, m.1)

unless_is : {A B : Type 0} (o : Option A) (r : Option B) (x : B) → unless_some o r ≡ Some x → (o ≡ None) × (r ≡ Some x)
unless_is None r x e = (refl, e)
unless_is (Some y) r x e = absurd cc

pub unary_kind : (tight : Bool) (ts : Toks) (o : PrefixOperator) → unary_at tight ts ≡ Some o → kind_at ts ≡ Some (kind.Mark (prefix_mark o))
unfolding unary_at
unary_kind tight ts o e = prefix_kind tight ts o (unless_is (negative_at tight ts) (prefix_at tight ts) o e).1

no_prefix : (tight : Bool) (ts : Toks) (x : Option Kind) → kind_at ts ≡ x → prefix_in x ≡ None → prefix_at tight ts ≡ None
unfolding prefix_at
no_prefix tight ts x e isnt = if_none (leads tight ts) (prefix_in (kind_at ts)) (rw e isnt)

pub no_negative : (tight : Bool) (ts : Toks) (x : Option Kind) → kind_at ts ≡ x → prefix_in x ≡ None → negative_at tight ts ≡ None
unfolding negative_at
no_negative tight ts x e isnt = rw (no_prefix tight ts x e isnt) refl

pub no_unary : (tight : Bool) (ts : Toks) (x : Option Kind) → kind_at ts ≡ x → prefix_in x ≡ None → unary_at tight ts ≡ None
unfolding unary_at
no_unary tight ts x e isnt = rw (no_negative tight ts x e isnt, no_prefix tight ts x e isnt) refl

-- a negative literal has no prefix mark of its own
pub negative_no_unary : (tight : Bool) (ts : Toks) (n : ℕ) → negative_at tight ts ≡ Some n → unary_at tight ts ≡ None
unfolding unary_at
negative_no_unary tight ts n e = rw e refl

unfoldable pub range_mark : RangeOperator → Mark
range_mark range.HalfOpen = mark.HalfOpenRange
range_mark range.Closed = mark.ClosedRange

mark_range_is : (x : Mark) (o : RangeOperator) → mark_range x ≡ Some o → x ≡ range_mark o
unfolding range_mark
mark_range_is mark.HalfOpenRange range.HalfOpen e = refl
mark_range_is mark.HalfOpenRange range.Closed e = absurd cc
mark_range_is mark.ClosedRange range.HalfOpen e = absurd cc
mark_range_is mark.ClosedRange range.Closed e = refl
mark_range_is _ o e = absurd cc

range_kind_in : (x : Option Kind) (o : RangeOperator) → range_in x ≡ Some o → x ≡ Some (kind.Mark (range_mark o))
range_kind_in None o e = absurd cc
range_kind_in (Some (kind.Name x)) o e = absurd cc
range_kind_in (Some (kind.Word x)) o e = absurd cc
range_kind_in (Some (kind.Number x)) o e = absurd cc
range_kind_in (Some (kind.Text x)) o e = absurd cc
range_kind_in (Some (kind.Mark x)) o e = ap (λ (y : Mark). Some (kind.Mark y)) (mark_range_is x o e)

pub range_kind : (ts : Toks) (o : RangeOperator) → range_at ts ≡ Some o → kind_at ts ≡ Some (kind.Mark (range_mark o))
unfolding range_at
range_kind ts o e = range_kind_in (kind_at ts) o e

unfoldable pub assign_mark : AssignOperator → Mark
assign_mark assigning.Plain = mark.Assign
assign_mark assigning.Plus = mark.PlusAssign
assign_mark assigning.Minus = mark.MinusAssign
assign_mark assigning.Times = mark.StarAssign
assign_mark assigning.Divide = mark.SlashAssign
assign_mark assigning.Remainder = mark.PercentAssign

assign_marked : Option AssignOperator → Mark
assign_marked (Some o) = assign_mark o
assign_marked None = mark.Semicolon

mark_assign_is : (x : Mark) (o : AssignOperator) → mark_assign x ≡ Some o → x ≡ assign_mark o
unfolding assign_mark assign_marked
mark_assign_is mark.Assign o e = ap assign_marked e
mark_assign_is mark.PlusAssign o e = ap assign_marked e
mark_assign_is mark.MinusAssign o e = ap assign_marked e
mark_assign_is mark.StarAssign o e = ap assign_marked e
mark_assign_is mark.SlashAssign o e = ap assign_marked e
mark_assign_is mark.PercentAssign o e = ap assign_marked e
mark_assign_is _ o e = absurd cc

assign_kind_in : (x : Option Kind) (o : AssignOperator) → assign_in x ≡ Some o → x ≡ Some (kind.Mark (assign_mark o))
assign_kind_in None o e = absurd cc
assign_kind_in (Some (kind.Name x)) o e = absurd cc
assign_kind_in (Some (kind.Word x)) o e = absurd cc
assign_kind_in (Some (kind.Number x)) o e = absurd cc
assign_kind_in (Some (kind.Text x)) o e = absurd cc
assign_kind_in (Some (kind.Mark x)) o e = ap (λ (y : Mark). Some (kind.Mark y)) (mark_assign_is x o e)

if_line : {A : Type 0} (b : Bool) (o : Option A) (x : A) → cond b None o ≡ Some x → o ≡ Some x
if_line true o x e = absurd cc
if_line false o x e = e

pub assign_kind : (ts : Toks) (o : AssignOperator) → assign_at ts ≡ Some o → kind_at ts ≡ Some (kind.Mark (assign_mark o))
unfolding assign_at
assign_kind ts o e = assign_kind_in (kind_at ts) o (if_line (is_new_line ts) _ o e)
