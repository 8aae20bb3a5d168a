-- *Spells* of declarations and of the file.
use Rattle.std.specs.Prelude.{◌≡◌, ℕ, Bool, true, false, List, [], ◌∷◌, length, Option, Some, None, ◌⊎◌, codes, bytes_eq}
use Rattle.own_tree.specs.declared.span.Span.{Span}
use Rattle.own_tree.specs.declared.token.Mark.TheVariants as mark
use Rattle.own_tree.specs.declared.token.Word.{Word}
use Rattle.own_tree.specs.declared.token.Word.TheVariants as word
use Rattle.own_tree.specs.declared.token.Kind.{Kind}
use Rattle.own_tree.specs.declared.token.Kind.TheVariants as kind
use Rattle.own_tree.specs.declared.tree.Name.{Name}
use Rattle.own_tree.specs.declared.tree.Field.{Field}
use Rattle.own_tree.specs.declared.tree.CaseItem.{CaseItem}
use Rattle.own_tree.specs.declared.tree.Parameter.{Parameter}
use Rattle.own_tree.specs.declared.tree.Label.{Label}
use Rattle.own_tree.specs.declared.tree.Label.TheVariants as label
use Rattle.own_tree.specs.declared.tree.ParameterType.{ParameterType}
use Rattle.own_tree.specs.declared.tree.ParameterType.TheVariants as written
use Rattle.own_tree.specs.declared.tree.FunctionParameter.{FunctionParameter}
use Rattle.own_tree.specs.declared.tree.PassingMode.{PassingMode}
use Rattle.own_tree.specs.declared.tree.PassingMode.TheVariants as passing
use Rattle.own_tree.specs.declared.tree.MethodMode.{MethodMode}
use Rattle.own_tree.specs.declared.tree.MethodMode.TheVariants as changing
use Rattle.own_tree.specs.declared.tree.ResultType.{ResultType}
use Rattle.own_tree.specs.declared.tree.ResultType.TheVariants as answer
use Rattle.own_tree.specs.Source.{Blk, Fun, Member, field, initializer, deinitializer, method, cases, Decl, struct_of, enum_of, function, File}
use Rattle.own_grammar.specs.declared.Context.TheVariants.{Plain}
use Rattle.own_grammar.specs.Tests.{Toks, after, here, till, kind_at, name_at, keyword_at, opens}
use Rattle.own_grammar.specs.Nesting.{blk_span, nest_blk}
use Rattle.own_grammar.specs.Levels.{levels_blk}
use Rattle.own_grammar.specs.Spells.{SpellsB}
use Rattle.own_grammar.specs.Lists.{Listed, Bracketed, Separated, greatest}

-- ---- tests

abbrev pub word_passing : Word → Option PassingMode
word_passing word.Borrowing = Some passing.Borrowing
word_passing word.Consuming = Some passing.Consuming
word_passing word.Inout = Some passing.Inout
word_passing _ = None

abbrev pub passing_in : Option Kind → Option PassingMode
passing_in None = None
passing_in (Some (kind.Name x)) = None
passing_in (Some (kind.Word x)) = word_passing x
passing_in (Some (kind.Number x)) = None
passing_in (Some (kind.Text x)) = None
passing_in (Some (kind.Mark x)) = None

-- the production `mode`
unfoldable pub passing_at : Toks → Option PassingMode
passing_at ts = passing_in (kind_at ts)

abbrev pub word_changing : Word → Option MethodMode
word_changing word.Borrowing = Some changing.Borrowing
word_changing word.Consuming = Some changing.Consuming
word_changing word.Mutating = Some changing.Mutating
word_changing _ = None

abbrev pub changing_in : Option Kind → Option MethodMode
changing_in None = None
changing_in (Some (kind.Name x)) = None
changing_in (Some (kind.Word x)) = word_changing x
changing_in (Some (kind.Number x)) = None
changing_in (Some (kind.Text x)) = None
changing_in (Some (kind.Mark x)) = None

-- "borrowing" | "consuming" | "mutating"
unfoldable pub changing_at : Toks → Option MethodMode
changing_at ts = changing_in (kind_at ts)

abbrev pub text_is : List ℕ → Option Name → Bool
text_is text None = false
text_is text (Some n) = bytes_eq n.text text

-- a name of this text
unfoldable pub is_named : List ℕ → Toks → Bool
is_named text ts = text_is text (name_at ts)

-- ---- types and parameters

abbrev pub Moded : Option PassingMode → Toks → Toks → Type 0
Moded None from to = to ≡ from
Moded (Some m) from to = (passing_at from ≡ Some m) × (to ≡ after from)

abbrev pub result_span : ResultType → Span
result_span (answer.Named n) = n.span
result_span (answer.Empty s) = s

abbrev pub SpellsResult : ResultType → Toks → Toks → Type 0
SpellsResult (answer.Named n) from to = (name_at from ≡ Some n) × (to ≡ after from)
SpellsResult (answer.Empty s) from to = (kind_at from ≡ Some (kind.Mark mark.OpenParen)) × (kind_at (after from) ≡ Some (kind.Mark mark.CloseParen)) × (to ≡ after (after from)) × (s ≡ till (here from) (here (after from)))

abbrev pub Returns : Option ResultType → Toks → Toks → Type 0
Returns None from to = to ≡ from
Returns (Some r) from to = (kind_at from ≡ Some (kind.Mark mark.Arrow)) × SpellsResult r (after from) to

-- a parameter inside a function type
abbrev pub SpellsInner : FunctionParameter → Toks → Toks → Type 0
SpellsInner p from to = (mid : Toks) × Moded p.mode from mid × (name_at mid ≡ Some p.name) × (to ≡ after mid) × (p.span ≡ till (here from) (here mid))

abbrev pub type_span : ParameterType → Span
type_span (written.Named s m n) = s
type_span (written.Function s ps r) = s

abbrev pub SpellsType : ParameterType → Toks → Toks → Type 0
SpellsType (written.Named s m n) from to = (mid : Toks) × Moded m from mid × (name_at mid ≡ Some n) × (to ≡ after mid) × (s ≡ till (here from) (here mid))
SpellsType (written.Function s ps r) from to = (last : Toks) × Bracketed SpellsInner ps from last × (kind_at (after last) ≡ Some (kind.Mark mark.Arrow)) × SpellsResult r (after (after last)) to × (s ≡ till (here from) (result_span r))

-- the label and the name of a parameter
abbrev pub Labelled : Label → Name → Toks → Toks → Type 0
Labelled label.Same n from to = (name_at from ≡ Some n) × (to ≡ after from)
Labelled label.Omitted n from to = (kind_at from ≡ Some (kind.Mark mark.Underscore)) × (name_at (after from) ≡ Some n) × (to ≡ after (after from))
Labelled (label.Other l) n from to = (name_at from ≡ Some l) × (name_at (after from) ≡ Some n) × (to ≡ after (after from))

abbrev pub SpellsParameter : Parameter → Toks → Toks → Type 0
SpellsParameter p from to = (mid : Toks) × Labelled p.label p.name from mid × (kind_at mid ≡ Some (kind.Mark mark.Colon)) × SpellsType p.written (after mid) to × (p.span ≡ till (here from) (type_span p.written))

abbrev pub SpellsParameters : List Parameter → Toks → Toks → Type 0
SpellsParameters ps from to = (last : Toks) × Bracketed SpellsParameter ps from last × (to ≡ after last)

-- ---- members

abbrev pub SpellsFunction : Fun → Toks → Toks → Type 0
SpellsFunction f from to = (mid : Toks) × (next : Toks) × (kind_at from ≡ Some (kind.Word word.Func)) × (name_at (after from) ≡ Some f.name) × SpellsParameters f.parameters (after (after from)) mid × Returns f.result mid next × SpellsB f.body next to × (f.span ≡ till (here from) (blk_span f.body))

abbrev pub Changing : Option MethodMode → Toks → Toks → Type 0
Changing None from to = to ≡ from
Changing (Some m) from to = (changing_at from ≡ Some m) × (to ≡ after from)

abbrev pub SpellsField : Field → Toks → Toks → Type 0
SpellsField f from to = (keyword_at from ≡ Some f.keyword) × (name_at (after from) ≡ Some f.name) × (kind_at (after (after from)) ≡ Some (kind.Mark mark.Colon)) × (name_at (after (after (after from))) ≡ Some f.written) × (to ≡ after (after (after (after from)))) × (f.span ≡ till (here from) (here (after (after (after from)))))

-- a type of a payload
abbrev pub SpellsName : Name → Toks → Toks → Type 0
SpellsName n from to = (name_at from ≡ Some n) × (to ≡ after from)

abbrev pub Payloads : List Name → Toks → Toks → Span → Type 0
Payloads [] from to end = (to ≡ after from) × (end ≡ here from)
Payloads (n ∷ ns) from to end = (last : Toks) × Bracketed SpellsName (n ∷ ns) (after from) last × (to ≡ after last) × (end ≡ here last)

abbrev pub SpellsItem : CaseItem → Toks → Toks → Type 0
SpellsItem i from to = (name_at from ≡ Some i.name) × (end : Span) × Payloads i.payloads from to end × (i.span ≡ till (here from) end)

abbrev pub items_end : Span → List CaseItem → Span
items_end s [] = s
items_end s (i ∷ items) = items_end i.span items

abbrev pub SpellsDeinitializer : Span → Blk → Toks → Toks → Type 0
SpellsDeinitializer s b from to = (kind_at from ≡ Some (kind.Word word.Deinit)) × SpellsB b (after from) to × (s ≡ till (here from) (blk_span b))

abbrev pub SpellsMethod : Span → Option MethodMode → Fun → Toks → Toks → Type 0
SpellsMethod s m f from to = (mid : Toks) × Changing m from mid × SpellsFunction f mid to × (s ≡ till (here from) f.span)

abbrev pub SpellsStructMember : Member → Toks → Toks → Type 0
SpellsStructMember (field f) from to = SpellsField f from to
SpellsStructMember (initializer s ps b) from to = (mid : Toks) × (kind_at from ≡ Some (kind.Word word.Init)) × SpellsParameters ps (after from) mid × SpellsB b mid to × (s ≡ till (here from) (blk_span b))
SpellsStructMember (deinitializer s b) from to = SpellsDeinitializer s b from to
SpellsStructMember (method s m f) from to = SpellsMethod s m f from to
SpellsStructMember (cases s items) from to = ⊥

abbrev pub SpellsEnumMember : Member → Toks → Toks → Type 0
SpellsEnumMember (field f) from to = ⊥
SpellsEnumMember (initializer s ps b) from to = ⊥
SpellsEnumMember (deinitializer s b) from to = SpellsDeinitializer s b from to
SpellsEnumMember (method s m f) from to = SpellsMethod s m f from to
SpellsEnumMember (cases s items) from to = (kind_at from ≡ Some (kind.Word word.Case)) × Listed SpellsItem items (after from) to × (s ≡ till (here from) (items_end (here from) items))

-- ---- declarations and the file

-- [":" "~" "Copyable"]
abbrev pub Noncopyable : Bool → Toks → Toks → Type 0
Noncopyable false from to = to ≡ from
Noncopyable true from to = (kind_at from ≡ Some (kind.Mark mark.Colon)) × (kind_at (after from) ≡ Some (kind.Mark mark.Tilde)) × (is_named (codes "Copyable") (after (after from)) ≡ true) × (to ≡ after (after (after from)))

-- a struct or an enum
abbrev pub SpellsMembers : Word → (Member → Toks → Toks → Type 0) → Span → Name → Bool → List Member → Toks → Toks → Type 0
SpellsMembers w S s n b ms from to = (brace : Toks) × (last : Toks) × (kind_at from ≡ Some (kind.Word w)) × (name_at (after from) ≡ Some n) × Noncopyable b (after (after from)) brace × (kind_at brace ≡ Some (kind.Mark mark.OpenBrace)) × Separated S ms (after brace) last × (kind_at last ≡ Some (kind.Mark mark.CloseBrace)) × (to ≡ after last) × (s ≡ till (here from) (here last))

abbrev pub SpellsDeclaration : Decl → Toks → Toks → Type 0
SpellsDeclaration (struct_of s n b ms) from to = SpellsMembers word.Struct SpellsStructMember s n b ms from to
SpellsDeclaration (enum_of s n b ms) from to = SpellsMembers word.Enum SpellsEnumMember s n b ms from to
SpellsDeclaration (function f) from to = SpellsFunction f from to

-- the last `main()`, with or without a `;`
abbrev pub SpellsMain : Span → Toks → Type 0
SpellsMain s from = (is_named (codes "main") from ≡ true) × (opens Plain (after from) ≡ true) × (kind_at (after (after from)) ≡ Some (kind.Mark mark.CloseParen)) × (s ≡ here from)
    × ((kind_at (after (after (after from))) ≡ None) ⊎ ((kind_at (after (after (after from))) ≡ Some (kind.Mark mark.Semicolon)) × (kind_at (after (after (after (after from)))) ≡ None)))

abbrev pub Spells : File → Toks → Type 0
Spells f from = (last : Toks) × Separated SpellsDeclaration f.declarations from last × SpellsMain f.main last × (f.tokens ≡ length from)

-- ---- nesting

abbrev pub nest_member : Member → ℕ
nest_member (field f) = 0
nest_member (initializer s ps b) = nest_blk b
nest_member (deinitializer s b) = nest_blk b
nest_member (method s m f) = nest_blk f.body
nest_member (cases s items) = 0

abbrev pub nest_declaration : Decl → ℕ
nest_declaration (struct_of s n b ms) = greatest nest_member ms
nest_declaration (enum_of s n b ms) = greatest nest_member ms
nest_declaration (function f) = nest_blk f.body

-- the greatest nesting of a body
abbrev pub nest_file : File → ℕ
nest_file f = greatest nest_declaration f.declarations

-- ---- levels of patterns

abbrev pub levels_member : Member → ℕ
levels_member (field f) = 0
levels_member (initializer s ps b) = levels_blk b
levels_member (deinitializer s b) = levels_blk b
levels_member (method s m f) = levels_blk f.body
levels_member (cases s items) = 0

abbrev pub levels_declaration : Decl → ℕ
levels_declaration (struct_of s n b ms) = greatest levels_member ms
levels_declaration (enum_of s n b ms) = greatest levels_member ms
levels_declaration (function f) = levels_blk f.body

-- the most levels of patterns in a body
abbrev pub levels_file : File → ℕ
levels_file f = greatest levels_declaration f.declarations
