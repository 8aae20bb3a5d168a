-- Reading declarations and the file.
use Rattle.std.specs.Prelude.{ℕ, Bool, true, false, List, [], length, Option, Some, None, Result, Ok, Err, codes, if◌then◌else◌}
use Rattle.own_tree.specs.declared.span.Span.{Span}
use Rattle.own_tree.specs.declared.token.Mark.TheVariants as mark
use Rattle.own_tree.specs.declared.token.Word.TheVariants as word
use Rattle.own_tree.specs.declared.tree.Name.{Name}
use Rattle.own_tree.specs.declared.tree.Keyword.{Keyword}
use Rattle.own_tree.specs.declared.tree.CaseItem.{CaseItem}
use Rattle.own_tree.specs.declared.tree.Parameter.{Parameter}
use Rattle.own_tree.specs.declared.tree.Label.{Label}
use Rattle.own_tree.specs.declared.tree.Label.TheVariants as label
use Rattle.own_tree.specs.declared.tree.ParameterType.{ParameterType}
use Rattle.own_tree.specs.declared.tree.ParameterType.TheVariants as written
use Rattle.own_tree.specs.declared.tree.FunctionParameter.{FunctionParameter}
use Rattle.own_tree.specs.declared.tree.PassingMode.{PassingMode}
use Rattle.own_tree.specs.declared.tree.ResultType.{ResultType}
use Rattle.own_tree.specs.declared.tree.ResultType.TheVariants as answer
use Rattle.own_tree.specs.Source.{Fun, Member, field, initializer, deinitializer, method, cases, Decl, struct_of, enum_of, function, File}
use Rattle.own_grammar.specs.declared.Context.TheVariants.{Plain}
use Rattle.own_grammar.specs.Tests.{Toks, after, here, till, is_mark, is_word, name_at, keyword_at, opens, is_over}
use Rattle.own_grammar.specs.Nesting.{blk_span}
use Rattle.own_grammar.specs.Reading.{Fault, Syntax, Read, ◌>>=◌, syntax_at, on_some, body, read}
use Rattle.own_grammar.specs.Lists.{listed_on, bracketed_with, separated_on}
use Rattle.own_grammar.specs.Declarations.{passing_at, changing_at, is_named, result_span, type_span, items_end}

-- a test, and a fault where it fails
unfoldable pub wanted : {A : Type 0} → Bool → Toks → Read A → Read A
wanted holds ts r = if holds then r else syntax_at ts

-- ---- types and parameters

unfoldable pub result_with : Toks → Read ResultType
result_with ts = on_some (name_at ts) (λ n. Ok (answer.Named n, after ts))
    (wanted (is_mark mark.OpenParen ts) ts (wanted (is_mark mark.CloseParen (after ts)) (after ts) (Ok (answer.Empty (till (here ts) (here (after ts))), after (after ts)))))

unfoldable pub returns_with : Toks → Read (Option ResultType)
returns_with ts = if is_mark mark.Arrow ts then (result_with (after ts) >>= λ r. Ok (Some r.0, r.1)) else Ok (None, ts)

-- a name after its mode, where one is written
unfoldable pub moded_with : Toks → Read (Option PassingMode × Name)
moded_with ts = on_some (passing_at ts)
    (λ m. on_some (name_at (after ts)) (λ n. Ok ((Some m, n), after (after ts))) (syntax_at (after ts)))
    (on_some (name_at ts) (λ n. Ok ((None, n), after ts)) (syntax_at ts))

unfoldable pub inner_with : Toks → Read FunctionParameter
inner_with ts = moded_with ts >>= λ r. Ok (record { span = till (here ts) r.0.1.span; mode = r.0.0; name = r.0.1 }, r.1)

-- after the parameters of a function type
unfoldable pub arrow_with : Toks → List FunctionParameter → Toks → Read ParameterType
arrow_with ts ps us = wanted (is_mark mark.Arrow (after us)) (after us) (result_with (after (after us)) >>= λ r. Ok (written.Function (till (here ts) (result_span r.0)) ps r.0, r.1))

unfoldable pub type_with : Toks → Read ParameterType
type_with ts = if is_mark mark.OpenParen ts then (bracketed_with inner_with ts >>= λ ps. arrow_with ts ps.0 ps.1)
    else (moded_with ts >>= λ r. Ok (written.Named (till (here ts) r.0.1.span) r.0.0 r.0.1, r.1))

unfoldable pub labelled_with : Toks → Read (Label × Name)
labelled_with ts = if is_mark mark.Underscore ts then on_some (name_at (after ts)) (λ n. Ok ((label.Omitted, n), after (after ts))) (syntax_at (after ts))
    else on_some (name_at ts)
    (λ l. on_some (name_at (after ts)) (λ n. Ok ((label.Other l, n), after (after ts))) (Ok ((label.Same, l), after ts)))
    (syntax_at ts)

unfoldable pub parameter_with : Toks → Read Parameter
parameter_with ts = labelled_with ts >>= λ l. wanted (is_mark mark.Colon l.1) l.1
    (type_with (after l.1) >>= λ w. Ok (record { span = till (here ts) (type_span w.0); label = l.0.0; name = l.0.1; written = w.0 }, w.1))

unfoldable pub parameters_with : Toks → Read (List Parameter)
parameters_with ts = bracketed_with parameter_with ts >>= λ ps. Ok (ps.0, after ps.1)

-- ---- members

-- after the parameters of a function
unfoldable pub function_body_with : ℕ → ℕ → Toks → Name → List Parameter → Toks → Read Fun
function_body_with most levels ts n ps us = returns_with us >>= λ r. read most levels body 0 r.1 >>= λ b.
    Ok (record { span = till (here ts) (blk_span b.0); name = n; parameters = ps; result = r.0; body = b.0 }, b.1)

unfoldable pub function_with : ℕ → ℕ → Toks → Read Fun
function_with most levels ts = wanted (is_word word.Func ts) ts (on_some (name_at (after ts))
    (λ n. parameters_with (after (after ts)) >>= λ ps. function_body_with most levels ts n ps.0 ps.1)
    (syntax_at (after ts)))

unfoldable pub method_with : ℕ → ℕ → Toks → Read Member
method_with most levels ts = on_some (changing_at ts)
    (λ m. function_with most levels (after ts) >>= λ f. Ok (method (till (here ts) f.0.span) (Some m) f.0, f.1))
    (function_with most levels ts >>= λ f. Ok (method (till (here ts) f.0.span) None f.0, f.1))

unfoldable pub field_with : Toks → Keyword → Read Member
field_with ts k = on_some (name_at (after ts))
    (λ n. wanted (is_mark mark.Colon (after (after ts))) (after (after ts)) (on_some (name_at (after (after (after ts))))
    (λ t. Ok (field (record { span = till (here ts) (here (after (after (after ts)))); keyword = k; name = n; written = t }), after (after (after (after ts)))))
    (syntax_at (after (after (after ts))))))
    (syntax_at (after ts))

unfoldable pub initializer_with : ℕ → ℕ → Toks → Read Member
initializer_with most levels ts = parameters_with (after ts) >>= λ ps. read most levels body 0 ps.1 >>= λ b. Ok (initializer (till (here ts) (blk_span b.0)) ps.0 b.0, b.1)

unfoldable pub deinitializer_with : ℕ → ℕ → Toks → Read Member
deinitializer_with most levels ts = read most levels body 0 (after ts) >>= λ b. Ok (deinitializer (till (here ts) (blk_span b.0)) b.0, b.1)

unfoldable pub struct_member_with : ℕ → ℕ → Toks → Read Member
struct_member_with most levels ts = on_some (keyword_at ts) (field_with ts)
    (if is_word word.Init ts then initializer_with most levels ts
    else (if is_word word.Deinit ts then deinitializer_with most levels ts else method_with most levels ts))

unfoldable pub name_with : Toks → Read Name
name_with ts = on_some (name_at ts) (λ n. Ok (n, after ts)) (syntax_at ts)

unfoldable pub item_with : Toks → Read CaseItem
item_with ts = on_some (name_at ts)
    (λ n. if is_mark mark.OpenParen (after ts)
    then (listed_on name_with [] (after (after ts)) >>= λ ns. wanted (is_mark mark.CloseParen ns.1) ns.1 (Ok (record { span = till (here ts) (here ns.1); name = n; payloads = ns.0 }, after ns.1)))
    else Ok (record { span = till (here ts) (here ts); name = n; payloads = [] }, after ts))
    (syntax_at ts)

unfoldable pub cases_with : Toks → Read Member
cases_with ts = listed_on item_with [] (after ts) >>= λ items. Ok (cases (till (here ts) (items_end (here ts) items.0)) items.0, items.1)

unfoldable pub enum_member_with : ℕ → ℕ → Toks → Read Member
enum_member_with most levels ts = if is_word word.Case ts then cases_with ts
    else (if is_word word.Deinit ts then deinitializer_with most levels ts else method_with most levels ts)

-- ---- declarations and the file

unfoldable pub noncopyable_with : Toks → Read Bool
noncopyable_with ts = if is_mark mark.Colon ts then wanted (is_mark mark.Tilde (after ts)) (after ts)
    (wanted (is_named (codes "Copyable") (after (after ts))) (after (after ts)) (Ok (true, after (after (after ts)))))
    else Ok (false, ts)

-- up to the `}`
unfoldable pub members_with : (Toks → Read Member) → Toks → Read (List Member)
members_with item ts = wanted (is_mark mark.OpenBrace ts) ts (separated_on (is_mark mark.CloseBrace) item [] (after ts))

-- what a struct or an enum holds, after its word
unfoldable pub named_with : (Toks → Read Member) → (Span → Name → Bool → List Member → Decl) → Toks → Read Decl
named_with item make ts = on_some (name_at (after ts))
    (λ n. noncopyable_with (after (after ts)) >>= λ b. members_with item b.1 >>= λ ms. Ok (make (till (here ts) (here ms.1)) n b.0 ms.0, after ms.1))
    (syntax_at (after ts))

unfoldable pub declaration_with : ℕ → ℕ → Toks → Read Decl
declaration_with most levels ts = if is_word word.Struct ts then named_with (struct_member_with most levels) struct_of ts
    else (if is_word word.Enum ts then named_with (enum_member_with most levels) enum_of ts
    else (function_with most levels ts >>= λ f. Ok (function f.0, f.1)))

-- after the last `)`
unfoldable pub end_with : Toks → Result Unit Fault
end_with ts = if is_over ts then Ok tt else (if is_mark mark.Semicolon ts then (if is_over (after ts) then Ok tt else Err (Syntax (length (after ts)))) else Err (Syntax (length ts)))

-- the last `main()`
unfoldable pub main_with : Toks → Result Span Fault
main_with ts = if opens Plain (after ts) then (if is_mark mark.CloseParen (after (after ts)) then (end_with (after (after (after ts))) >>= λ u. Ok (here ts)) else Err (Syntax (length (after (after ts))))) else Err (Syntax (length (after ts)))

unfoldable pub is_main : Toks → Bool
is_main ts = is_named (codes "main") ts

unfoldable pub read_file : ℕ → ℕ → Toks → Result File Fault
read_file most levels ts = separated_on is_main (declaration_with most levels) [] ts >>= λ ds. main_with ds.1 >>= λ s. Ok (record { declarations = ds.0; main = s; tokens = length ts })
