-- Tests on the tokens that are left.
use Rattle.std.specs.Prelude.{ℕ, Bool, true, false, not, ◌&&◌, ◌||◌, List, [], ◌∷◌, Option, Some, None, if◌then◌else◌}
use denote.Enum.Bare.{sameb}
use Rattle.own_tree.specs.contracts.token.Mark as mark_type
use Rattle.own_tree.specs.contracts.token.Word as word_type
use Rattle.own_tree.specs.declared.span.Span.{Span}
use Rattle.own_tree.specs.declared.token.Mark.{Mark}
use Rattle.own_tree.specs.declared.token.Mark.TheVariants as mark
use Rattle.own_tree.specs.declared.token.Word.{Word}
use Rattle.own_tree.specs.declared.token.Word.TheVariants as word
use Rattle.own_tree.specs.declared.token.Kind.{Kind}
use Rattle.own_tree.specs.declared.token.Kind.TheVariants as kind
use Rattle.own_tree.specs.declared.token.Token.{Token}
use Rattle.own_tree.specs.declared.tree.Name.{Name}
use Rattle.own_tree.specs.declared.tree.ClosureName.{ClosureName}
use Rattle.own_tree.specs.declared.tree.ClosureName.TheVariants as closure_name
use Rattle.own_tree.specs.declared.tree.Root.{Root}
use Rattle.own_tree.specs.declared.tree.Root.TheVariants.{Named, SelfWord}
use Rattle.own_tree.specs.declared.tree.Keyword.{Keyword}
use Rattle.own_tree.specs.declared.tree.Keyword.TheVariants as keyword
use Rattle.own_tree.specs.declared.tree.PrefixOperator.{PrefixOperator}
use Rattle.own_tree.specs.declared.tree.PrefixOperator.TheVariants as sign
use Rattle.own_tree.specs.declared.tree.BinaryOperator.{BinaryOperator}
use Rattle.own_tree.specs.declared.tree.BinaryOperator.TheVariants as operator
use Rattle.own_tree.specs.declared.tree.AssignOperator.{AssignOperator}
use Rattle.own_tree.specs.declared.tree.AssignOperator.TheVariants as assigning
use Rattle.own_tree.specs.declared.tree.RangeOperator.{RangeOperator}
use Rattle.own_tree.specs.declared.tree.RangeOperator.TheVariants as range
use Rattle.own_grammar.specs.declared.Context.{Context}
use Rattle.own_grammar.specs.declared.Context.TheVariants.{Plain, Condition, Inside}

abbrev pub Toks : Type 0
Toks = List Token

abbrev pub after : Toks → Toks
after [] = []
after (t ∷ ts) = ts

-- the span of the next token
abbrev pub here : Toks → Span
here [] = record { start = 0; end = 0 }
here (t ∷ ts) = t.span

-- from the start of the one to the end of the other
abbrev pub till : Span → Span → Span
till a b = record { start = a.start; end = b.end }

-- ---- the next token

unfoldable pub kind_at : Toks → Option Kind
kind_at [] = None
kind_at (t ∷ ts) = Some t.kind

abbrev pub mark_is : Mark → Option Kind → Bool
mark_is a None = false
mark_is a (Some (kind.Name x)) = false
mark_is a (Some (kind.Word x)) = false
mark_is a (Some (kind.Number x)) = false
mark_is a (Some (kind.Text x)) = false
mark_is a (Some (kind.Mark x)) = sameb mark_type.the_type x a

unfoldable pub is_mark : Mark → Toks → Bool
is_mark a ts = mark_is a (kind_at ts)

abbrev pub word_is : Word → Option Kind → Bool
word_is a None = false
word_is a (Some (kind.Name x)) = false
word_is a (Some (kind.Word x)) = sameb word_type.the_type x a
word_is a (Some (kind.Number x)) = false
word_is a (Some (kind.Text x)) = false
word_is a (Some (kind.Mark x)) = false

unfoldable pub is_word : Word → Toks → Bool
is_word a ts = word_is a (kind_at ts)

abbrev pub name_in : Span → Option Kind → Option Name
name_in s None = None
name_in s (Some (kind.Name x)) = Some (record { text = x; span = s })
name_in s (Some (kind.Word x)) = None
name_in s (Some (kind.Number x)) = None
name_in s (Some (kind.Text x)) = None
name_in s (Some (kind.Mark x)) = None

-- NAME. A word is never one.
unfoldable pub name_at : Toks → Option Name
name_at ts = name_in (here ts) (kind_at ts)

abbrev pub number_in : Option Kind → Option ℕ
number_in None = None
number_in (Some (kind.Name x)) = None
number_in (Some (kind.Word x)) = None
number_in (Some (kind.Number x)) = Some x
number_in (Some (kind.Text x)) = None
number_in (Some (kind.Mark x)) = None

-- NUMBER
unfoldable pub number_at : Toks → Option ℕ
number_at ts = number_in (kind_at ts)

abbrev pub text_in : Option Kind → Option (List ℕ)
text_in None = None
text_in (Some (kind.Name x)) = None
text_in (Some (kind.Word x)) = None
text_in (Some (kind.Number x)) = None
text_in (Some (kind.Text x)) = Some x
text_in (Some (kind.Mark x)) = None

-- TEXT
unfoldable pub text_at : Toks → Option (List ℕ)
text_at ts = text_in (kind_at ts)

abbrev pub word_truth : Word → Option Bool
word_truth word.True = Some true
word_truth word.False = Some false
word_truth _ = None

abbrev pub truth_in : Option Kind → Option Bool
truth_in None = None
truth_in (Some (kind.Name x)) = None
truth_in (Some (kind.Word x)) = word_truth x
truth_in (Some (kind.Number x)) = None
truth_in (Some (kind.Text x)) = None
truth_in (Some (kind.Mark x)) = None

-- "true" | "false"
unfoldable pub truth_at : Toks → Option Bool
truth_at ts = truth_in (kind_at ts)

abbrev pub word_root : Span → Word → Option Root
word_root s word.SelfValue = Some (SelfWord s)
word_root s _ = None

abbrev pub root_in : Span → Option Kind → Option Root
root_in s None = None
root_in s (Some (kind.Name x)) = Some (Named (record { text = x; span = s }))
root_in s (Some (kind.Word x)) = word_root s x
root_in s (Some (kind.Number x)) = None
root_in s (Some (kind.Text x)) = None
root_in s (Some (kind.Mark x)) = None

-- NAME | "self"
unfoldable pub root_at : Toks → Option Root
root_at ts = root_in (here ts) (kind_at ts)

abbrev pub mark_binder : Mark → Option (Option Name)
mark_binder mark.Underscore = Some None
mark_binder _ = None

abbrev pub binder_in : Span → Option Kind → Option (Option Name)
binder_in s None = None
binder_in s (Some (kind.Name x)) = Some (Some (record { text = x; span = s }))
binder_in s (Some (kind.Word x)) = None
binder_in s (Some (kind.Number x)) = None
binder_in s (Some (kind.Text x)) = None
binder_in s (Some (kind.Mark x)) = mark_binder x

-- NAME | "_", the latter as None
unfoldable pub binder_at : Toks → Option (Option Name)
binder_at ts = binder_in (here ts) (kind_at ts)

abbrev pub word_keyword : Word → Option Keyword
word_keyword word.Let = Some keyword.Let
word_keyword word.Var = Some keyword.Var
word_keyword _ = None

abbrev pub keyword_in : Option Kind → Option Keyword
keyword_in None = None
keyword_in (Some (kind.Name x)) = None
keyword_in (Some (kind.Word x)) = word_keyword x
keyword_in (Some (kind.Number x)) = None
keyword_in (Some (kind.Text x)) = None
keyword_in (Some (kind.Mark x)) = None

-- "let" | "var"
unfoldable pub keyword_at : Toks → Option Keyword
keyword_at ts = keyword_in (kind_at ts)

-- ---- operators

abbrev pub mark_operator : Mark → Option BinaryOperator
mark_operator mark.Or = Some operator.Or
mark_operator mark.And = Some operator.And
mark_operator mark.Equal = Some operator.Equal
mark_operator mark.NotEqual = Some operator.Unequal
mark_operator mark.Less = Some operator.Less
mark_operator mark.LessEqual = Some operator.LessEqual
mark_operator mark.Greater = Some operator.Greater
mark_operator mark.GreaterEqual = Some operator.GreaterEqual
mark_operator mark.Plus = Some operator.Plus
mark_operator mark.Minus = Some operator.Minus
mark_operator mark.WrappingPlus = Some operator.PlusWrapping
mark_operator mark.WrappingMinus = Some operator.MinusWrapping
mark_operator mark.Star = Some operator.Times
mark_operator mark.Slash = Some operator.Divide
mark_operator mark.Percent = Some operator.Remainder
mark_operator mark.WrappingStar = Some operator.TimesWrapping
mark_operator _ = None

abbrev pub operator_in : Option Kind → Option BinaryOperator
operator_in None = None
operator_in (Some (kind.Name x)) = None
operator_in (Some (kind.Word x)) = None
operator_in (Some (kind.Number x)) = None
operator_in (Some (kind.Text x)) = None
operator_in (Some (kind.Mark x)) = mark_operator x

abbrev pub same_side : Bool → Bool → Bool
same_side true b = b
same_side false b = not b

-- space on both sides or on neither
unfoldable pub is_even : Toks → Bool
is_even [] = false
is_even (t ∷ ts) = same_side t.space_before t.space_after

-- an operator mark where it is binary
unfoldable pub operator_at : Toks → Option BinaryOperator
operator_at ts = if is_even ts then operator_in (kind_at ts) else None

abbrev pub mark_prefix : Mark → Option PrefixOperator
mark_prefix mark.Minus = Some sign.Minus
mark_prefix mark.Not = Some sign.Not
mark_prefix _ = None

abbrev pub prefix_in : Option Kind → Option PrefixOperator
prefix_in None = None
prefix_in (Some (kind.Name x)) = None
prefix_in (Some (kind.Word x)) = None
prefix_in (Some (kind.Number x)) = None
prefix_in (Some (kind.Text x)) = None
prefix_in (Some (kind.Mark x)) = mark_prefix x

-- space before and none after; after a prefix mark also where nothing stands between the two
unfoldable pub leads : Bool → Toks → Bool
leads tight [] = false
leads tight (t ∷ ts) = (t.space_before && not t.space_after) || (tight && not t.space_before)

-- `-` or `!` where it is prefix. `tight` says that the token before is a prefix mark.
unfoldable pub prefix_at : Bool → Toks → Option PrefixOperator
prefix_at tight ts = if leads tight ts then prefix_in (kind_at ts) else None

abbrev pub minus_then : Option PrefixOperator → Option ℕ → Option ℕ
minus_then None n = None
minus_then (Some sign.Minus) n = n
minus_then (Some sign.Not) n = None

-- a prefix `-` and a NUMBER: one negative literal
unfoldable pub negative_at : Bool → Toks → Option ℕ
negative_at tight ts = minus_then (prefix_at tight ts) (number_at (after ts))

abbrev pub unless_some : {A B : Type 0} → Option A → Option B → Option B
unless_some (Some x) o = None
unless_some None o = o

-- a prefix mark that is not of a negative literal
unfoldable pub unary_at : Bool → Toks → Option PrefixOperator
unary_at tight ts = unless_some (negative_at tight ts) (prefix_at tight ts)

abbrev pub mark_assign : Mark → Option AssignOperator
mark_assign mark.Assign = Some assigning.Plain
mark_assign mark.PlusAssign = Some assigning.Plus
mark_assign mark.MinusAssign = Some assigning.Minus
mark_assign mark.StarAssign = Some assigning.Times
mark_assign mark.SlashAssign = Some assigning.Divide
mark_assign mark.PercentAssign = Some assigning.Remainder
mark_assign _ = None

abbrev pub assign_in : Option Kind → Option AssignOperator
assign_in None = None
assign_in (Some (kind.Name x)) = None
assign_in (Some (kind.Word x)) = None
assign_in (Some (kind.Number x)) = None
assign_in (Some (kind.Text x)) = None
assign_in (Some (kind.Mark x)) = mark_assign x

abbrev pub mark_range : Mark → Option RangeOperator
mark_range mark.HalfOpenRange = Some range.HalfOpen
mark_range mark.ClosedRange = Some range.Closed
mark_range _ = None

abbrev pub range_in : Option Kind → Option RangeOperator
range_in None = None
range_in (Some (kind.Name x)) = None
range_in (Some (kind.Word x)) = None
range_in (Some (kind.Number x)) = None
range_in (Some (kind.Text x)) = None
range_in (Some (kind.Mark x)) = mark_range x

-- "..<" | "..."
unfoldable pub range_at : Toks → Option RangeOperator
range_at ts = range_in (kind_at ts)

-- ---- lines

unfoldable pub is_new_line : Toks → Bool
is_new_line [] = false
is_new_line (t ∷ ts) = t.line_before

-- `=` or `op=`, on the line of the token before: what stands before it could end a statement
unfoldable pub assign_at : Toks → Option AssignOperator
assign_at ts = if is_new_line ts then None else assign_in (kind_at ts)

-- the `=` of a `let` or `var`, on the line of the token before
unfoldable pub assigns : Toks → Bool
assigns ts = is_mark mark.Assign ts && not (is_new_line ts)

-- the `:` of a `let` or `var`, on the line of the token before
unfoldable pub annotates : Toks → Bool
annotates ts = is_mark mark.Colon ts && not (is_new_line ts)

-- whether the next token may go on with what stands before it
abbrev pub joins : Context → Toks → Bool
joins Plain ts = not (is_new_line ts)
joins Condition ts = not (is_new_line ts)
joins Inside ts = true

abbrev pub allows : Context → Bool
allows Plain = true
allows Condition = false
allows Inside = true

-- the parenthesis of a call
unfoldable pub opens : Context → Toks → Bool
opens context ts = is_mark mark.OpenParen ts && joins context ts

-- the brace of a closure after what is called
unfoldable pub closes : Context → Toks → Bool
closes context ts = is_mark mark.OpenBrace ts && joins context ts && allows context

abbrev pub is_none : {A : Type 0} → Option A → Bool
is_none None = true
is_none (Some x) = false

-- nothing more
abbrev pub is_over : Toks → Bool
is_over ts = is_none (kind_at ts)

-- a token with which a statement goes on after a line end
unfoldable pub goes_on : Toks → Bool
goes_on ts = not (is_none (operator_at ts)) || not (is_none (range_at ts)) || is_mark mark.Dot ts || is_mark mark.Question ts || is_word word.Else ts

-- a statement ends here without a `;`
unfoldable pub ends : Toks → Bool
ends ts = is_over ts || is_mark mark.CloseBrace ts || (is_new_line ts && not (goes_on ts) && not (is_mark mark.Semicolon ts))

-- a `return` has no expression here
unfoldable pub is_bare : Toks → Bool
is_bare ts = is_over ts || is_mark mark.CloseBrace ts || is_new_line ts || is_mark mark.Semicolon ts

-- ---- a few tokens

-- the label of an argument
unfoldable pub label_at : Toks → Option Name
label_at ts = if is_mark mark.Colon (after ts) then name_at ts else None

abbrev pub then_more : {A : Type 0} → A → Option (List A × Toks) → Option (List A × Toks)
then_more x None = None
then_more x (Some r) = Some (x ∷ r.0, r.1)

abbrev pub closure_mark : Span → Mark → Option ClosureName
closure_mark s mark.Underscore = Some (closure_name.Any s)
closure_mark s _ = None

abbrev pub closure_name_in : Span → Option Kind → Option ClosureName
closure_name_in s None = None
closure_name_in s (Some (kind.Name x)) = Some (closure_name.Bind (record { text = x; span = s }))
closure_name_in s (Some (kind.Word x)) = None
closure_name_in s (Some (kind.Number x)) = None
closure_name_in s (Some (kind.Text x)) = None
closure_name_in s (Some (kind.Mark x)) = closure_mark s x

-- a name of a closure: NAME or `_`
unfoldable pub closure_name_at : Toks → Option ClosureName
closure_name_at ts = closure_name_in (here ts) (kind_at ts)

abbrev pub name_then : Option ClosureName → Bool → Bool → Option (List ClosureName × Toks) → Toks → Option (List ClosureName × Toks)
name_then None comma ends more us = None
name_then (Some n) true ends more us = then_more n more
name_then (Some n) false true more us = Some (n ∷ [], us)
name_then (Some n) false false more us = None

-- the names of a closure up to their `in`, where some stand here
unfoldable pub names_at : Toks → Option (List ClosureName × Toks)
names_at [] = None
names_at (t ∷ []) = None
names_at (t ∷ u ∷ ts) = name_then (closure_name_at (t ∷ u ∷ ts)) (is_mark mark.Comma (u ∷ ts)) (is_word word.In (u ∷ ts)) (names_at ts) ts

abbrev pub names_or : Option (List ClosureName × Toks) → Toks → List ClosureName × Toks
names_or (Some r) ts = r
names_or None ts = ([], ts)

-- the names of a closure, and where its statements begin
unfoldable pub closure_head : Toks → List ClosureName × Toks
closure_head ts = names_or (names_at ts) ts
