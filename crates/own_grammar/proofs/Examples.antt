-- Small texts, and what is read of them.
use Rattle.std.proofs.Common.{◌≡◌, ℕ, ◌+◌, Bool, true, false, List, [], ◌∷◌, ◌++◌, map, length, Result, Ok, Err, refl, codes}
use Rattle.own_tree.specs.declared.token.Mark.TheVariants as mark
use Rattle.own_tree.specs.declared.token.Word.TheVariants as word
use Rattle.own_tree.specs.declared.token.Kind.{Kind}
use Rattle.own_tree.specs.declared.token.Kind.TheVariants as kind
use Rattle.own_tree.specs.declared.token.Token.{Token}
use Rattle.own_tree.specs.declared.tree.Root.{Root}
use Rattle.own_tree.specs.declared.tree.Root.TheVariants.{Named, SelfWord}
use Rattle.own_tree.specs.declared.tree.PrefixOperator.{PrefixOperator}
use Rattle.own_tree.specs.declared.tree.PrefixOperator.TheVariants as sign
use Rattle.own_tree.specs.Source.{File, Exp, number, text, truth, path, implicit_member, parenthesized, consumed, prefix, binary, choice, member, call, call_closing, call_closure, evaluate, Stms, stm, Blk, block}
use Rattle.own_grammar.specs.Lists.{listed_at, listed_on, bracketed_with, separated_at, separated_on}
use Rattle.own_grammar.specs.Declarations.{passing_at, changing_at, is_named}
use Rattle.own_grammar.specs.ReadingFile.{wanted, result_with, returns_with, moded_with, inner_with, arrow_with, type_with, labelled_with, parameter_with, parameters_with, function_body_with, function_with, method_with, field_with, initializer_with, deinitializer_with, struct_member_with, name_with, item_with, cases_with, enum_member_with, noncopyable_with, members_with, named_with, declaration_with, end_with, main_with, is_main, read_file}
use Rattle.own_grammar.specs.Nesting.{level}
use Rattle.own_grammar.specs.Tests.{Toks, kind_at, is_mark, is_word, name_at, number_at, text_at, truth_at, root_at, binder_at, closure_name_at, keyword_at, is_even, operator_at, leads, prefix_at, negative_at, unary_at, range_at, is_new_line, assign_at, assigns, annotates, opens, closes, goes_on, ends, is_bare, label_at, names_at, closure_head}
use Rattle.own_grammar.specs.Reading.{Fault, Syntax, Depth, Read, body, fields_on, path_from, path_with, typed_with, let_parts_with, let_case_with, let_literal_with, let_pattern_with, let_patterns_with, parts_with, case_with, bind_with, literal_pattern_with, pattern_with, patterns_with, pattern_step, read_pattern_at, read_pattern, parenthesized_with, implicit_with, literal_at, primary_with, post_with, prefix_with, consume_with, pre_with, level_with, next_with, operator_with, operators_with, branches_with, choice_with, expression_with, closure_with, address_with, given_with, argument_with, arguments_with, all_arguments_with, called_with, call_with, closing_with, member_with, calls_with, bound_with, let_with, ignore_with, discard_with, else_with, if_with, while_with, repeat_with, upper_with, lower_with, for_with, switch_with, return_with, assign_with, evaluate_with, simple_with, statement_with, sep_at, separated_with, statements_with, ends_clause, clause_statements_with, where_with, head_with, clause_with, clauses_with, block_with, step, read_at, read}

-- a token with its flags: space before, space after, line before
abbrev tok : Kind → Bool → Bool → Bool → Token
tok k before following line = record { kind = k; span = record { start = 0; end = 0 }; space_before = before; space_after = following; line_before = line }

-- how many tokens are left, 1000 more at a fault of syntax, 2000 more at one of depth
abbrev outcome : Read Blk → ℕ
outcome (Ok x) = length x.1
outcome (Err (Syntax n)) = 1000 + n
outcome (Err (Depth n)) = 2000 + n

-- ---- the shape of an expression: the level of each operator, and parentheses round each node

abbrev root_shape : Root → List ℕ
root_shape (Named n) = n.text
root_shape (SelfWord s) = codes "self"

abbrev sign_shape : PrefixOperator → List ℕ
sign_shape sign.Minus = codes "-"
sign_shape sign.Not = codes "!"

abbrev number_shape : Bool → ℕ → List ℕ
number_shape true n = codes "-" ++ (48 + n) ∷ []
number_shape false n = (48 + n) ∷ []

abbrev shape : Exp → List ℕ
shape (number s negative n) = number_shape negative n
shape (text s t) = t
shape (truth s b) = codes "t"
shape (path p) = root_shape p.root
shape (implicit_member s n) = codes "." ++ n.text
shape (parenthesized s e) = codes "[" ++ shape e ++ codes "]"
shape (consumed s p) = codes "consume"
shape (prefix s o e) = codes "(" ++ sign_shape o ++ shape e ++ codes ")"
shape (binary s o at_ a b) = codes "(" ++ shape a ++ (48 + level o) ∷ shape b ++ codes ")"
shape (choice s c a b) = codes "(" ++ shape c ++ codes "?" ++ shape a ++ codes ":" ++ shape b ++ codes ")"
shape (member s e n) = shape e ++ codes "." ++ n.text
shape (call s f es) = shape f ++ codes "()"
shape (call_closing s f es c) = shape f ++ codes "(){}"
shape (call_closure s f c) = shape f ++ codes "{}"

abbrev first_shape : Stms → List ℕ
first_shape (stm (evaluate e) ss) = shape e
first_shape ss = []

abbrev body_shape : Blk → List ℕ
body_shape (block s ss) = first_shape ss

abbrev shape_of : Read Blk → List ℕ
shape_of (Ok x) = body_shape x.0
shape_of (Err f) = []

-- the text of each row stands above it, with / for a line end
abbrev shapes : List (Toks × List ℕ)
shapes =
    -- { a + b - c }
    (tok (kind.Mark mark.OpenBrace) true true false ∷ tok (kind.Name (codes "a")) true true false ∷ tok (kind.Mark mark.Plus) true true false ∷ tok (kind.Name (codes "b")) true true false ∷ tok (kind.Mark mark.Minus) true true false ∷ tok (kind.Name (codes "c")) true true false ∷ tok (kind.Mark mark.CloseBrace) true true false ∷ [], codes "((a2b)2c)") ∷
    -- { a + b * c }
    (tok (kind.Mark mark.OpenBrace) true true false ∷ tok (kind.Name (codes "a")) true true false ∷ tok (kind.Mark mark.Plus) true true false ∷ tok (kind.Name (codes "b")) true true false ∷ tok (kind.Mark mark.Star) true true false ∷ tok (kind.Name (codes "c")) true true false ∷ tok (kind.Mark mark.CloseBrace) true true false ∷ [], codes "(a2(b1c))") ∷
    -- { a || b && c == d }
    (tok (kind.Mark mark.OpenBrace) true true false ∷ tok (kind.Name (codes "a")) true true false ∷ tok (kind.Mark mark.Or) true true false ∷ tok (kind.Name (codes "b")) true true false ∷ tok (kind.Mark mark.And) true true false ∷ tok (kind.Name (codes "c")) true true false ∷ tok (kind.Mark mark.Equal) true true false ∷ tok (kind.Name (codes "d")) true true false ∷ tok (kind.Mark mark.CloseBrace) true true false ∷ [], codes "(a5(b4(c3d)))") ∷
    -- { a ? b : c ? d : e }
    (tok (kind.Mark mark.OpenBrace) true true false ∷ tok (kind.Name (codes "a")) true true false ∷ tok (kind.Mark mark.Question) true true false ∷ tok (kind.Name (codes "b")) true true false ∷ tok (kind.Mark mark.Colon) true true false ∷ tok (kind.Name (codes "c")) true true false ∷ tok (kind.Mark mark.Question) true true false ∷ tok (kind.Name (codes "d")) true true false ∷ tok (kind.Mark mark.Colon) true true false ∷ tok (kind.Name (codes "e")) true true false ∷ tok (kind.Mark mark.CloseBrace) true true false ∷ [], codes "(a?b:(c?d:e))") ∷
    -- { !!a }
    (tok (kind.Mark mark.OpenBrace) true true false ∷ tok (kind.Mark mark.Not) true false false ∷ tok (kind.Mark mark.Not) false false false ∷ tok (kind.Name (codes "a")) false true false ∷ tok (kind.Mark mark.CloseBrace) true true false ∷ [], codes "(!(!a))") ∷
    -- { !-1(x) }
    (tok (kind.Mark mark.OpenBrace) true true false ∷ tok (kind.Mark mark.Not) true false false ∷ tok (kind.Mark mark.Minus) false false false ∷ tok (kind.Number 1) false false false ∷ tok (kind.Mark mark.OpenParen) false false false ∷ tok (kind.Name (codes "x")) true true false ∷ tok (kind.Mark mark.CloseParen) false true false ∷ tok (kind.Mark mark.CloseBrace) true true false ∷ [], codes "(!-1())") ∷
    -- { (a + b) * c }
    (tok (kind.Mark mark.OpenBrace) true true false ∷ tok (kind.Mark mark.OpenParen) true false false ∷ tok (kind.Name (codes "a")) true true false ∷ tok (kind.Mark mark.Plus) true true false ∷ tok (kind.Name (codes "b")) true true false ∷ tok (kind.Mark mark.CloseParen) false true false ∷ tok (kind.Mark mark.Star) true true false ∷ tok (kind.Name (codes "c")) true true false ∷ tok (kind.Mark mark.CloseBrace) true true false ∷ [], codes "([(a2b)]1c)") ∷
    -- { f(1) { } { } }
    (tok (kind.Mark mark.OpenBrace) true true false ∷ tok (kind.Name (codes "f")) true false false ∷ tok (kind.Mark mark.OpenParen) false false false ∷ tok (kind.Number 1) true true false ∷ tok (kind.Mark mark.CloseParen) false true false ∷ tok (kind.Mark mark.OpenBrace) true true false ∷ tok (kind.Mark mark.CloseBrace) true true false ∷ tok (kind.Mark mark.OpenBrace) true true false ∷ tok (kind.Mark mark.CloseBrace) true true false ∷ tok (kind.Mark mark.CloseBrace) true true false ∷ [], codes "f(){}{}") ∷
    -- { f { }.x }
    (tok (kind.Mark mark.OpenBrace) true true false ∷ tok (kind.Name (codes "f")) true true false ∷ tok (kind.Mark mark.OpenBrace) true true false ∷ tok (kind.Mark mark.CloseBrace) true false false ∷ tok (kind.Mark mark.Dot) false false false ∷ tok (kind.Name (codes "x")) false true false ∷ tok (kind.Mark mark.CloseBrace) true true false ∷ [], codes "f{}.x") ∷
    -- { .none.x(1).y }
    (tok (kind.Mark mark.OpenBrace) true true false ∷ tok (kind.Mark mark.Dot) true false false ∷ tok (kind.Name (codes "none")) false false false ∷ tok (kind.Mark mark.Dot) false false false ∷ tok (kind.Name (codes "x")) false false false ∷ tok (kind.Mark mark.OpenParen) false false false ∷ tok (kind.Number 1) true true false ∷ tok (kind.Mark mark.CloseParen) false false false ∷ tok (kind.Mark mark.Dot) false false false ∷ tok (kind.Name (codes "y")) false true false ∷ tok (kind.Mark mark.CloseBrace) true true false ∷ [], codes ".none.x().y") ∷
    -- { a /  + b /  ? c /  : d /  .e }
    (tok (kind.Mark mark.OpenBrace) true true false ∷ tok (kind.Name (codes "a")) true true false ∷ tok (kind.Mark mark.Plus) true true true ∷ tok (kind.Name (codes "b")) true true false ∷ tok (kind.Mark mark.Question) true true true ∷ tok (kind.Name (codes "c")) true true false ∷ tok (kind.Mark mark.Colon) true true true ∷ tok (kind.Name (codes "d")) true true false ∷ tok (kind.Mark mark.Dot) true false true ∷ tok (kind.Name (codes "e")) false true false ∷ tok (kind.Mark mark.CloseBrace) true true false ∷ [], codes "((a2b)?c:d)") ∷
    []

shapes_are : map (λ (row : Toks × List ℕ). shape_of (read 100 100 body 0 row.0)) shapes ≡ map (λ (row : Toks × List ℕ). row.1) shapes
unfolding fields_on path_from path_with typed_with let_parts_with let_case_with let_literal_with let_pattern_with let_patterns_with parts_with case_with bind_with literal_pattern_with pattern_with patterns_with pattern_step read_pattern_at read_pattern parenthesized_with implicit_with literal_at primary_with post_with prefix_with consume_with pre_with level_with next_with operator_with operators_with branches_with choice_with expression_with closure_with address_with given_with argument_with arguments_with all_arguments_with called_with call_with closing_with member_with calls_with bound_with let_with ignore_with discard_with else_with if_with while_with repeat_with upper_with lower_with for_with switch_with return_with assign_with evaluate_with simple_with statement_with sep_at separated_with statements_with ends_clause clause_statements_with where_with head_with clause_with clauses_with block_with step read_at read kind_at is_mark is_word name_at number_at text_at truth_at root_at binder_at keyword_at is_even operator_at leads prefix_at negative_at unary_at range_at is_new_line assign_at assigns annotates opens closes goes_on ends is_bare label_at closure_name_at names_at closure_head
shapes_are = refl

abbrev outcomes : List (Toks × ℕ)
outcomes =
    -- { let x: T = 1; var y: T; _ = y; x.z -= 2; discard self }
    (tok (kind.Mark mark.OpenBrace) true true false ∷ tok (kind.Word word.Let) true true false ∷ tok (kind.Name (codes "x")) true true false ∷ tok (kind.Mark mark.Colon) false true false ∷ tok (kind.Name (codes "T")) true true false ∷ tok (kind.Mark mark.Assign) true true false ∷ tok (kind.Number 1) true true false ∷ tok (kind.Mark mark.Semicolon) false true false ∷ tok (kind.Word word.Var) true true false ∷ tok (kind.Name (codes "y")) true true false ∷ tok (kind.Mark mark.Colon) false true false ∷ tok (kind.Name (codes "T")) true true false ∷ tok (kind.Mark mark.Semicolon) false true false ∷ tok (kind.Mark mark.Underscore) true true false ∷ tok (kind.Mark mark.Assign) true true false ∷ tok (kind.Name (codes "y")) true true false ∷ tok (kind.Mark mark.Semicolon) false true false ∷ tok (kind.Name (codes "x")) true false false ∷ tok (kind.Mark mark.Dot) false false false ∷ tok (kind.Name (codes "z")) false true false ∷ tok (kind.Mark mark.MinusAssign) true true false ∷ tok (kind.Number 2) true true false ∷ tok (kind.Mark mark.Semicolon) false true false ∷ tok (kind.Word word.Discard) true true false ∷ tok (kind.Word word.SelfValue) true true false ∷ tok (kind.Mark mark.CloseBrace) true true false ∷ [], 0) ∷
    -- { while a { } /  repeat { } /  while b /  for i in 0 ..< 3 { break } /  for _ in a...b { continue } }
    (tok (kind.Mark mark.OpenBrace) true true false ∷ tok (kind.Word word.While) true true false ∷ tok (kind.Name (codes "a")) true true false ∷ tok (kind.Mark mark.OpenBrace) true true false ∷ tok (kind.Mark mark.CloseBrace) true true false ∷ tok (kind.Word word.Repeat) true true true ∷ tok (kind.Mark mark.OpenBrace) true true false ∷ tok (kind.Mark mark.CloseBrace) true true false ∷ tok (kind.Word word.While) true true true ∷ tok (kind.Name (codes "b")) true true false ∷ tok (kind.Word word.For) true true true ∷ tok (kind.Name (codes "i")) true true false ∷ tok (kind.Word word.In) true true false ∷ tok (kind.Number 0) true true false ∷ tok (kind.Mark mark.HalfOpenRange) true true false ∷ tok (kind.Number 3) true true false ∷ tok (kind.Mark mark.OpenBrace) true true false ∷ tok (kind.Word word.Break) true true false ∷ tok (kind.Mark mark.CloseBrace) true true false ∷ tok (kind.Word word.For) true true true ∷ tok (kind.Mark mark.Underscore) true true false ∷ tok (kind.Word word.In) true true false ∷ tok (kind.Name (codes "a")) true false false ∷ tok (kind.Mark mark.ClosedRange) false false false ∷ tok (kind.Name (codes "b")) false true false ∷ tok (kind.Mark mark.OpenBrace) true true false ∷ tok (kind.Word word.Continue) true true false ∷ tok (kind.Mark mark.CloseBrace) true true false ∷ tok (kind.Mark mark.CloseBrace) true true false ∷ [], 0) ∷
    -- { if a { } else if b { } /  else { } }
    (tok (kind.Mark mark.OpenBrace) true true false ∷ tok (kind.Word word.If) true true false ∷ tok (kind.Name (codes "a")) true true false ∷ tok (kind.Mark mark.OpenBrace) true true false ∷ tok (kind.Mark mark.CloseBrace) true true false ∷ tok (kind.Word word.Else) true true false ∷ tok (kind.Word word.If) true true false ∷ tok (kind.Name (codes "b")) true true false ∷ tok (kind.Mark mark.OpenBrace) true true false ∷ tok (kind.Mark mark.CloseBrace) true true false ∷ tok (kind.Word word.Else) true true true ∷ tok (kind.Mark mark.OpenBrace) true true false ∷ tok (kind.Mark mark.CloseBrace) true true false ∷ tok (kind.Mark mark.CloseBrace) true true false ∷ [], 0) ∷
    -- { switch x { case .a, .b(let x, _, let .c(y, -1)): f(); case -1 where a: return /  default: g() } }
    (tok (kind.Mark mark.OpenBrace) true true false ∷ tok (kind.Word word.Switch) true true false ∷ tok (kind.Name (codes "x")) true true false ∷ tok (kind.Mark mark.OpenBrace) true true false ∷ tok (kind.Word word.Case) true true false ∷ tok (kind.Mark mark.Dot) true false false ∷ tok (kind.Name (codes "a")) false true false ∷ tok (kind.Mark mark.Comma) false true false ∷ tok (kind.Mark mark.Dot) true false false ∷ tok (kind.Name (codes "b")) false false false ∷ tok (kind.Mark mark.OpenParen) false false false ∷ tok (kind.Word word.Let) true true false ∷ tok (kind.Name (codes "x")) true true false ∷ tok (kind.Mark mark.Comma) false true false ∷ tok (kind.Mark mark.Underscore) true true false ∷ tok (kind.Mark mark.Comma) false true false ∷ tok (kind.Word word.Let) true true false ∷ tok (kind.Mark mark.Dot) true false false ∷ tok (kind.Name (codes "c")) false false false ∷ tok (kind.Mark mark.OpenParen) false false false ∷ tok (kind.Name (codes "y")) true true false ∷ tok (kind.Mark mark.Comma) false true false ∷ tok (kind.Mark mark.Minus) true false false ∷ tok (kind.Number 1) false true false ∷ tok (kind.Mark mark.CloseParen) false true false ∷ tok (kind.Mark mark.CloseParen) false true false ∷ tok (kind.Mark mark.Colon) false true false ∷ tok (kind.Name (codes "f")) true false false ∷ tok (kind.Mark mark.OpenParen) false true false ∷ tok (kind.Mark mark.CloseParen) true true false ∷ tok (kind.Mark mark.Semicolon) false true false ∷ tok (kind.Word word.Case) true true false ∷ tok (kind.Mark mark.Minus) true false false ∷ tok (kind.Number 1) false true false ∷ tok (kind.Word word.Where) true true false ∷ tok (kind.Name (codes "a")) true true false ∷ tok (kind.Mark mark.Colon) false true false ∷ tok (kind.Word word.Return) true true false ∷ tok (kind.Word word.Default) true true true ∷ tok (kind.Mark mark.Colon) false true false ∷ tok (kind.Name (codes "g")) true false false ∷ tok (kind.Mark mark.OpenParen) false true false ∷ tok (kind.Mark mark.CloseParen) true true false ∷ tok (kind.Mark mark.CloseBrace) true true false ∷ tok (kind.Mark mark.CloseBrace) true true false ∷ [], 0) ∷
    -- { return /  .none }
    (tok (kind.Mark mark.OpenBrace) true true false ∷ tok (kind.Word word.Return) true true false ∷ tok (kind.Mark mark.Dot) true false true ∷ tok (kind.Name (codes "none")) false true false ∷ tok (kind.Mark mark.CloseBrace) true true false ∷ [], 0) ∷
    -- { break /  .none }
    (tok (kind.Mark mark.OpenBrace) true true false ∷ tok (kind.Word word.Break) true true false ∷ tok (kind.Mark mark.Dot) true false true ∷ tok (kind.Name (codes "none")) false true false ∷ tok (kind.Mark mark.CloseBrace) true true false ∷ [], 1003) ∷
    -- { switch x { case .a, .b where c: f() } }
    (tok (kind.Mark mark.OpenBrace) true true false ∷ tok (kind.Word word.Switch) true true false ∷ tok (kind.Name (codes "x")) true true false ∷ tok (kind.Mark mark.OpenBrace) true true false ∷ tok (kind.Word word.Case) true true false ∷ tok (kind.Mark mark.Dot) true false false ∷ tok (kind.Name (codes "a")) false true false ∷ tok (kind.Mark mark.Comma) false true false ∷ tok (kind.Mark mark.Dot) true false false ∷ tok (kind.Name (codes "b")) false true false ∷ tok (kind.Word word.Where) true true false ∷ tok (kind.Name (codes "c")) true true false ∷ tok (kind.Mark mark.Colon) false true false ∷ tok (kind.Name (codes "f")) true false false ∷ tok (kind.Mark mark.OpenParen) false true false ∷ tok (kind.Mark mark.CloseParen) true true false ∷ tok (kind.Mark mark.CloseBrace) true true false ∷ tok (kind.Mark mark.CloseBrace) true true false ∷ [], 1008) ∷
    -- { a < b < c }
    (tok (kind.Mark mark.OpenBrace) true true false ∷ tok (kind.Name (codes "a")) true true false ∷ tok (kind.Mark mark.Less) true true false ∷ tok (kind.Name (codes "b")) true true false ∷ tok (kind.Mark mark.Less) true true false ∷ tok (kind.Name (codes "c")) true true false ∷ tok (kind.Mark mark.CloseBrace) true true false ∷ [], 1003) ∷
    -- { if f { } { } }
    (tok (kind.Mark mark.OpenBrace) true true false ∷ tok (kind.Word word.If) true true false ∷ tok (kind.Name (codes "f")) true true false ∷ tok (kind.Mark mark.OpenBrace) true true false ∷ tok (kind.Mark mark.CloseBrace) true true false ∷ tok (kind.Mark mark.OpenBrace) true true false ∷ tok (kind.Mark mark.CloseBrace) true true false ∷ tok (kind.Mark mark.CloseBrace) true true false ∷ [], 1003) ∷
    -- { if (f { }) { } }
    (tok (kind.Mark mark.OpenBrace) true true false ∷ tok (kind.Word word.If) true true false ∷ tok (kind.Mark mark.OpenParen) true false false ∷ tok (kind.Name (codes "f")) true true false ∷ tok (kind.Mark mark.OpenBrace) true true false ∷ tok (kind.Mark mark.CloseBrace) true true false ∷ tok (kind.Mark mark.CloseParen) false true false ∷ tok (kind.Mark mark.OpenBrace) true true false ∷ tok (kind.Mark mark.CloseBrace) true true false ∷ tok (kind.Mark mark.CloseBrace) true true false ∷ [], 0) ∷
    -- { x /  = 1 }
    (tok (kind.Mark mark.OpenBrace) true true false ∷ tok (kind.Name (codes "x")) true true false ∷ tok (kind.Mark mark.Assign) true true true ∷ tok (kind.Number 1) true true false ∷ tok (kind.Mark mark.CloseBrace) true true false ∷ [], 1003) ∷
    -- { f(a /  (b) /  , c: { x, _ in d }, &e) }
    (tok (kind.Mark mark.OpenBrace) true true false ∷ tok (kind.Name (codes "f")) true false false ∷ tok (kind.Mark mark.OpenParen) false false false ∷ tok (kind.Name (codes "a")) true true false ∷ tok (kind.Mark mark.OpenParen) true false true ∷ tok (kind.Name (codes "b")) true true false ∷ tok (kind.Mark mark.CloseParen) false true false ∷ tok (kind.Mark mark.Comma) true true true ∷ tok (kind.Name (codes "c")) true true false ∷ tok (kind.Mark mark.Colon) false true false ∷ tok (kind.Mark mark.OpenBrace) true true false ∷ tok (kind.Name (codes "x")) true true false ∷ tok (kind.Mark mark.Comma) false true false ∷ tok (kind.Mark mark.Underscore) true true false ∷ tok (kind.Word word.In) true true false ∷ tok (kind.Name (codes "d")) true true false ∷ tok (kind.Mark mark.CloseBrace) true true false ∷ tok (kind.Mark mark.Comma) false true false ∷ tok (kind.Mark mark.Ampersand) true false false ∷ tok (kind.Name (codes "e")) false true false ∷ tok (kind.Mark mark.CloseParen) false true false ∷ tok (kind.Mark mark.CloseBrace) true true false ∷ [], 0) ∷
    -- { f /  (x) }
    (tok (kind.Mark mark.OpenBrace) true true false ∷ tok (kind.Name (codes "f")) true true false ∷ tok (kind.Mark mark.OpenParen) true false true ∷ tok (kind.Name (codes "x")) true true false ∷ tok (kind.Mark mark.CloseParen) false true false ∷ tok (kind.Mark mark.CloseBrace) true true false ∷ [], 0) ∷
    []

outcomes_are : map (λ (row : Toks × ℕ). outcome (read 100 100 body 0 row.0)) outcomes ≡ map (λ (row : Toks × ℕ). row.1) outcomes
unfolding fields_on path_from path_with typed_with let_parts_with let_case_with let_literal_with let_pattern_with let_patterns_with parts_with case_with bind_with literal_pattern_with pattern_with patterns_with pattern_step read_pattern_at read_pattern parenthesized_with implicit_with literal_at primary_with post_with prefix_with consume_with pre_with level_with next_with operator_with operators_with branches_with choice_with expression_with closure_with address_with given_with argument_with arguments_with all_arguments_with called_with call_with closing_with member_with calls_with bound_with let_with ignore_with discard_with else_with if_with while_with repeat_with upper_with lower_with for_with switch_with return_with assign_with evaluate_with simple_with statement_with sep_at separated_with statements_with ends_clause clause_statements_with where_with head_with clause_with clauses_with block_with step read_at read kind_at is_mark is_word name_at number_at text_at truth_at root_at binder_at keyword_at is_even operator_at leads prefix_at negative_at unary_at range_at is_new_line assign_at assigns annotates opens closes goes_on ends is_bare label_at closure_name_at names_at closure_head
outcomes_are = refl

-- with 4 nodes: a block, a statement, parentheses, a number; then the second parenthesis leaves none to the number
abbrev levels : List (Toks × ℕ)
levels =
    -- { (1) }
    (tok (kind.Mark mark.OpenBrace) true true false ∷ tok (kind.Mark mark.OpenParen) true false false ∷ tok (kind.Number 1) true true false ∷ tok (kind.Mark mark.CloseParen) false true false ∷ tok (kind.Mark mark.CloseBrace) true true false ∷ [], 0) ∷
    -- { ((1)) }
    (tok (kind.Mark mark.OpenBrace) true true false ∷ tok (kind.Mark mark.OpenParen) true false false ∷ tok (kind.Mark mark.OpenParen) true false false ∷ tok (kind.Number 1) true true false ∷ tok (kind.Mark mark.CloseParen) false true false ∷ tok (kind.Mark mark.CloseParen) false true false ∷ tok (kind.Mark mark.CloseBrace) true true false ∷ [], 2004) ∷
    -- with 3 levels of patterns: a pattern in the parentheses of another is a level further
    -- { switch x { case .a(.b(_)): break } }
    (tok (kind.Mark mark.OpenBrace) true true false ∷ tok (kind.Word word.Switch) true true false ∷ tok (kind.Name (codes "x")) true true false ∷ tok (kind.Mark mark.OpenBrace) true true false ∷ tok (kind.Word word.Case) true true false ∷ tok (kind.Mark mark.Dot) true false false ∷ tok (kind.Name (codes "a")) false false false ∷ tok (kind.Mark mark.OpenParen) false false false ∷ tok (kind.Mark mark.Dot) false false false ∷ tok (kind.Name (codes "b")) false false false ∷ tok (kind.Mark mark.OpenParen) false false false ∷ tok (kind.Mark mark.Underscore) true true false ∷ tok (kind.Mark mark.CloseParen) false true false ∷ tok (kind.Mark mark.CloseParen) false true false ∷ tok (kind.Mark mark.Colon) false true false ∷ tok (kind.Word word.Break) true true false ∷ tok (kind.Mark mark.CloseBrace) true true false ∷ tok (kind.Mark mark.CloseBrace) true true false ∷ [], 0) ∷
    -- { switch x { case .a(_, .b(.c(_))): break } }
    (tok (kind.Mark mark.OpenBrace) true true false ∷ tok (kind.Word word.Switch) true true false ∷ tok (kind.Name (codes "x")) true true false ∷ tok (kind.Mark mark.OpenBrace) true true false ∷ tok (kind.Word word.Case) true true false ∷ tok (kind.Mark mark.Dot) true false false ∷ tok (kind.Name (codes "a")) false false false ∷ tok (kind.Mark mark.OpenParen) false false false ∷ tok (kind.Mark mark.Underscore) true true false ∷ tok (kind.Mark mark.Comma) false true false ∷ tok (kind.Mark mark.Dot) true false false ∷ tok (kind.Name (codes "b")) false false false ∷ tok (kind.Mark mark.OpenParen) false false false ∷ tok (kind.Mark mark.Dot) false false false ∷ tok (kind.Name (codes "c")) false false false ∷ tok (kind.Mark mark.OpenParen) false false false ∷ tok (kind.Mark mark.Underscore) true true false ∷ tok (kind.Mark mark.CloseParen) false true false ∷ tok (kind.Mark mark.CloseParen) false true false ∷ tok (kind.Mark mark.CloseParen) false true false ∷ tok (kind.Mark mark.Colon) false true false ∷ tok (kind.Word word.Break) true true false ∷ tok (kind.Mark mark.CloseBrace) true true false ∷ tok (kind.Mark mark.CloseBrace) true true false ∷ [], 2008) ∷
    -- { switch x { case let .a(.b(.c(y))): break } }
    (tok (kind.Mark mark.OpenBrace) true true false ∷ tok (kind.Word word.Switch) true true false ∷ tok (kind.Name (codes "x")) true true false ∷ tok (kind.Mark mark.OpenBrace) true true false ∷ tok (kind.Word word.Case) true true false ∷ tok (kind.Word word.Let) true true false ∷ tok (kind.Mark mark.Dot) true false false ∷ tok (kind.Name (codes "a")) false false false ∷ tok (kind.Mark mark.OpenParen) false false false ∷ tok (kind.Mark mark.Dot) false false false ∷ tok (kind.Name (codes "b")) false false false ∷ tok (kind.Mark mark.OpenParen) false false false ∷ tok (kind.Mark mark.Dot) false false false ∷ tok (kind.Name (codes "c")) false false false ∷ tok (kind.Mark mark.OpenParen) false false false ∷ tok (kind.Name (codes "y")) false false false ∷ tok (kind.Mark mark.CloseParen) false true false ∷ tok (kind.Mark mark.CloseParen) false true false ∷ tok (kind.Mark mark.CloseParen) false true false ∷ tok (kind.Mark mark.Colon) false true false ∷ tok (kind.Word word.Break) true true false ∷ tok (kind.Mark mark.CloseBrace) true true false ∷ tok (kind.Mark mark.CloseBrace) true true false ∷ [], 2008) ∷
    []

levels_are : map (λ (row : Toks × ℕ). outcome (read 4 3 body 0 row.0)) levels ≡ map (λ (row : Toks × ℕ). row.1) levels
unfolding fields_on path_from path_with typed_with let_parts_with let_case_with let_literal_with let_pattern_with let_patterns_with parts_with case_with bind_with literal_pattern_with pattern_with patterns_with pattern_step read_pattern_at read_pattern parenthesized_with implicit_with literal_at primary_with post_with prefix_with consume_with pre_with level_with next_with operator_with operators_with branches_with choice_with expression_with closure_with address_with given_with argument_with arguments_with all_arguments_with called_with call_with closing_with member_with calls_with bound_with let_with ignore_with discard_with else_with if_with while_with repeat_with upper_with lower_with for_with switch_with return_with assign_with evaluate_with simple_with statement_with sep_at separated_with statements_with ends_clause clause_statements_with where_with head_with clause_with clauses_with block_with step read_at read kind_at is_mark is_word name_at number_at text_at truth_at root_at binder_at keyword_at is_even operator_at leads prefix_at negative_at unary_at range_at is_new_line assign_at assigns annotates opens closes goes_on ends is_bare label_at closure_name_at names_at closure_head
levels_are = refl

-- ---- files

-- the number of declarations, or the fault
abbrev file_outcome : Result File Fault → ℕ
file_outcome (Ok f) = length f.declarations
file_outcome (Err (Syntax n)) = 1000 + n
file_outcome (Err (Depth n)) = 2000 + n

abbrev files : List (Toks × ℕ)
files =
    -- struct S: ~Copyable { let x: Int; init(_ y: inout Int) { } /  deinit { } /  consuming func f(g h: (borrowing S, Int) -> ()) -> Void { } } / enum E { case a, b(Int, S) /  case c; func g() { } } / func main() { } / main()
    (tok (kind.Word word.Struct) true true false ∷ tok (kind.Name (codes "S")) true true false ∷ tok (kind.Mark mark.Colon) false true false ∷ tok (kind.Mark mark.Tilde) true false false ∷ tok (kind.Name (codes "Copyable")) false true false ∷ tok (kind.Mark mark.OpenBrace) true true false ∷ tok (kind.Word word.Let) true true false ∷ tok (kind.Name (codes "x")) true true false ∷ tok (kind.Mark mark.Colon) false true false ∷ tok (kind.Name (codes "Int")) true true false ∷ tok (kind.Mark mark.Semicolon) false true false ∷ tok (kind.Word word.Init) true false false ∷ tok (kind.Mark mark.OpenParen) false false false ∷ tok (kind.Mark mark.Underscore) true true false ∷ tok (kind.Name (codes "y")) true true false ∷ tok (kind.Mark mark.Colon) false true false ∷ tok (kind.Word word.Inout) true true false ∷ tok (kind.Name (codes "Int")) true true false ∷ tok (kind.Mark mark.CloseParen) false true false ∷ tok (kind.Mark mark.OpenBrace) true true false ∷ tok (kind.Mark mark.CloseBrace) true true false ∷ tok (kind.Word word.Deinit) true true true ∷ tok (kind.Mark mark.OpenBrace) true true false ∷ tok (kind.Mark mark.CloseBrace) true true false ∷ tok (kind.Word word.Consuming) true true true ∷ tok (kind.Word word.Func) true true false ∷ tok (kind.Name (codes "f")) true false false ∷ tok (kind.Mark mark.OpenParen) false false false ∷ tok (kind.Name (codes "g")) true true false ∷ tok (kind.Name (codes "h")) true true false ∷ tok (kind.Mark mark.Colon) false true false ∷ tok (kind.Mark mark.OpenParen) true false false ∷ tok (kind.Word word.Borrowing) true true false ∷ tok (kind.Name (codes "S")) true true false ∷ tok (kind.Mark mark.Comma) false true false ∷ tok (kind.Name (codes "Int")) true true false ∷ tok (kind.Mark mark.CloseParen) false true false ∷ tok (kind.Mark mark.Arrow) true true false ∷ tok (kind.Mark mark.OpenParen) true true false ∷ tok (kind.Mark mark.CloseParen) true true false ∷ tok (kind.Mark mark.CloseParen) false true false ∷ tok (kind.Mark mark.Arrow) true true false ∷ tok (kind.Name (codes "Void")) true true false ∷ tok (kind.Mark mark.OpenBrace) true true false ∷ tok (kind.Mark mark.CloseBrace) true true false ∷ tok (kind.Mark mark.CloseBrace) true true false ∷ tok (kind.Word word.Enum) true true true ∷ tok (kind.Name (codes "E")) true true false ∷ tok (kind.Mark mark.OpenBrace) true true false ∷ tok (kind.Word word.Case) true true false ∷ tok (kind.Name (codes "a")) true true false ∷ tok (kind.Mark mark.Comma) false true false ∷ tok (kind.Name (codes "b")) true false false ∷ tok (kind.Mark mark.OpenParen) false false false ∷ tok (kind.Name (codes "Int")) true true false ∷ tok (kind.Mark mark.Comma) false true false ∷ tok (kind.Name (codes "S")) true true false ∷ tok (kind.Mark mark.CloseParen) false true false ∷ tok (kind.Word word.Case) true true true ∷ tok (kind.Name (codes "c")) true true false ∷ tok (kind.Mark mark.Semicolon) false true false ∷ tok (kind.Word word.Func) true true false ∷ tok (kind.Name (codes "g")) true false false ∷ tok (kind.Mark mark.OpenParen) false true false ∷ tok (kind.Mark mark.CloseParen) true true false ∷ tok (kind.Mark mark.OpenBrace) true true false ∷ tok (kind.Mark mark.CloseBrace) true true false ∷ tok (kind.Mark mark.CloseBrace) true true false ∷ tok (kind.Word word.Func) true true true ∷ tok (kind.Name (codes "main")) true false false ∷ tok (kind.Mark mark.OpenParen) false true false ∷ tok (kind.Mark mark.CloseParen) true true false ∷ tok (kind.Mark mark.OpenBrace) true true false ∷ tok (kind.Mark mark.CloseBrace) true true false ∷ tok (kind.Name (codes "main")) true false true ∷ tok (kind.Mark mark.OpenParen) false true false ∷ tok (kind.Mark mark.CloseParen) true true false ∷ [], 3) ∷
    -- func f() / -> Int { return 1 } ; func main() { } / main();
    (tok (kind.Word word.Func) true true false ∷ tok (kind.Name (codes "f")) true false false ∷ tok (kind.Mark mark.OpenParen) false true false ∷ tok (kind.Mark mark.CloseParen) true true false ∷ tok (kind.Mark mark.Arrow) true true true ∷ tok (kind.Name (codes "Int")) true true false ∷ tok (kind.Mark mark.OpenBrace) true true false ∷ tok (kind.Word word.Return) true true false ∷ tok (kind.Number 1) true true false ∷ tok (kind.Mark mark.CloseBrace) true true false ∷ tok (kind.Mark mark.Semicolon) true true false ∷ tok (kind.Word word.Func) true true false ∷ tok (kind.Name (codes "main")) true false false ∷ tok (kind.Mark mark.OpenParen) false true false ∷ tok (kind.Mark mark.CloseParen) true true false ∷ tok (kind.Mark mark.OpenBrace) true true false ∷ tok (kind.Mark mark.CloseBrace) true true false ∷ tok (kind.Name (codes "main")) true false true ∷ tok (kind.Mark mark.OpenParen) false true false ∷ tok (kind.Mark mark.CloseParen) true true false ∷ tok (kind.Mark mark.Semicolon) false true false ∷ [], 2) ∷
    -- func main() { } main()
    (tok (kind.Word word.Func) true true false ∷ tok (kind.Name (codes "main")) true false false ∷ tok (kind.Mark mark.OpenParen) false true false ∷ tok (kind.Mark mark.CloseParen) true true false ∷ tok (kind.Mark mark.OpenBrace) true true false ∷ tok (kind.Mark mark.CloseBrace) true true false ∷ tok (kind.Name (codes "main")) true false false ∷ tok (kind.Mark mark.OpenParen) false true false ∷ tok (kind.Mark mark.CloseParen) true true false ∷ [], 1003) ∷
    -- struct S { let init: Int } / main()
    (tok (kind.Word word.Struct) true true false ∷ tok (kind.Name (codes "S")) true true false ∷ tok (kind.Mark mark.OpenBrace) true true false ∷ tok (kind.Word word.Let) true true false ∷ tok (kind.Word word.Init) true true false ∷ tok (kind.Mark mark.Colon) false true false ∷ tok (kind.Name (codes "Int")) true true false ∷ tok (kind.Mark mark.CloseBrace) true true false ∷ tok (kind.Name (codes "main")) true false true ∷ tok (kind.Mark mark.OpenParen) false true false ∷ tok (kind.Mark mark.CloseParen) true true false ∷ [], 1007) ∷
    -- func main() { } / main / ()
    (tok (kind.Word word.Func) true true false ∷ tok (kind.Name (codes "main")) true false false ∷ tok (kind.Mark mark.OpenParen) false true false ∷ tok (kind.Mark mark.CloseParen) true true false ∷ tok (kind.Mark mark.OpenBrace) true true false ∷ tok (kind.Mark mark.CloseBrace) true true false ∷ tok (kind.Name (codes "main")) true true true ∷ tok (kind.Mark mark.OpenParen) true true true ∷ tok (kind.Mark mark.CloseParen) true true false ∷ [], 1002) ∷
    -- func f(x y z: Int) { } / main()
    (tok (kind.Word word.Func) true true false ∷ tok (kind.Name (codes "f")) true false false ∷ tok (kind.Mark mark.OpenParen) false false false ∷ tok (kind.Name (codes "x")) true true false ∷ tok (kind.Name (codes "y")) true true false ∷ tok (kind.Name (codes "z")) true true false ∷ tok (kind.Mark mark.Colon) false true false ∷ tok (kind.Name (codes "Int")) true true false ∷ tok (kind.Mark mark.CloseParen) false true false ∷ tok (kind.Mark mark.OpenBrace) true true false ∷ tok (kind.Mark mark.CloseBrace) true true false ∷ tok (kind.Name (codes "main")) true false true ∷ tok (kind.Mark mark.OpenParen) false true false ∷ tok (kind.Mark mark.CloseParen) true true false ∷ [], 1009) ∷
    []

files_are : map (λ (row : Toks × ℕ). file_outcome (read_file 100 100 row.0)) files ≡ map (λ (row : Toks × ℕ). row.1) files
unfolding fields_on path_from path_with typed_with let_parts_with let_case_with let_literal_with let_pattern_with let_patterns_with parts_with case_with bind_with literal_pattern_with pattern_with patterns_with pattern_step read_pattern_at read_pattern parenthesized_with implicit_with literal_at primary_with post_with prefix_with consume_with pre_with level_with next_with operator_with operators_with branches_with choice_with expression_with closure_with address_with given_with argument_with arguments_with all_arguments_with called_with call_with closing_with member_with calls_with bound_with let_with ignore_with discard_with else_with if_with while_with repeat_with upper_with lower_with for_with switch_with return_with assign_with evaluate_with simple_with statement_with sep_at separated_with statements_with ends_clause clause_statements_with where_with head_with clause_with clauses_with block_with step read_at read kind_at is_mark is_word name_at number_at text_at truth_at root_at binder_at keyword_at is_even operator_at leads prefix_at negative_at unary_at range_at is_new_line assign_at assigns annotates opens closes goes_on ends is_bare label_at closure_name_at names_at closure_head wanted result_with returns_with moded_with inner_with arrow_with type_with labelled_with parameter_with parameters_with function_body_with function_with method_with field_with initializer_with deinitializer_with struct_member_with name_with item_with cases_with enum_member_with noncopyable_with members_with named_with declaration_with end_with main_with is_main read_file listed_at listed_on bracketed_with separated_at separated_on passing_at changing_at is_named
files_are = refl
