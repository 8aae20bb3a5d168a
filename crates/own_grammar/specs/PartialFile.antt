-- A file that breaks off in a body.
use Rattle.std.specs.Prelude.{◌≡◌, ℕ, List, Bool, Option, Some}
use Rattle.own_tree.specs.declared.token.Kind.TheVariants as kind
use Rattle.own_tree.specs.declared.token.Mark.TheVariants as mark
use Rattle.own_tree.specs.declared.token.Word.{Word}
use Rattle.own_tree.specs.declared.token.Word.TheVariants as word
use Rattle.own_tree.specs.declared.tree.Name.{Name}
use Rattle.own_tree.specs.declared.tree.Parameter.{Parameter}
use Rattle.own_tree.specs.declared.tree.MethodMode.{MethodMode}
use Rattle.own_tree.specs.declared.tree.ResultType.{ResultType}
use Rattle.own_tree.specs.Source.{Member, Decl}
use Rattle.own_grammar.specs.Tests.{Toks, after, kind_at, name_at}
use Rattle.own_grammar.specs.Lists.{Separated}
use Rattle.own_grammar.specs.Declarations.{SpellsParameters, Returns, Changing, Noncopyable, SpellsStructMember, SpellsEnumMember, SpellsDeclaration}
use Rattle.own_grammar.specs.Levels.{levels_pb}
use Rattle.own_grammar.specs.Partial.{PBlk, nest_pb, PartB}

pub record PFun : Type 0 where
  pub name : Name
  pub parameters : List Parameter
  pub result : Option ResultType
  pub body : PBlk

pub data PMember : Type 0 where
  p_initializer : List Parameter → PBlk → PMember
  p_deinitializer : PBlk → PMember
  p_method : Option MethodMode → PFun → PMember

pub data PDecl : Type 0 where
  p_struct : Name → Bool → List Member → PMember → PDecl
  p_enum : Name → Bool → List Member → PMember → PDecl
  p_function : PFun → PDecl

-- whole declarations, and one that breaks off
pub record PFile : Type 0 where
  pub declarations : List Decl
  pub last : PDecl

-- ---- the nesting of the body that breaks off: all others are whole

abbrev pub nest_pm : PMember → ℕ
nest_pm (p_initializer ps b) = nest_pb b
nest_pm (p_deinitializer b) = nest_pb b
nest_pm (p_method m f) = nest_pb f.body

abbrev pub nest_pd : PDecl → ℕ
nest_pd (p_struct n b ms m) = nest_pm m
nest_pd (p_enum n b ms m) = nest_pm m
nest_pd (p_function f) = nest_pb f.body

abbrev pub nest_pf : PFile → ℕ
nest_pf f = nest_pd f.last

-- ---- its levels of patterns

abbrev pub levels_pm : PMember → ℕ
levels_pm (p_initializer ps b) = levels_pb b
levels_pm (p_deinitializer b) = levels_pb b
levels_pm (p_method m f) = levels_pb f.body

abbrev pub levels_pd : PDecl → ℕ
levels_pd (p_struct n b ms m) = levels_pm m
levels_pd (p_enum n b ms m) = levels_pm m
levels_pd (p_function f) = levels_pb f.body

abbrev pub levels_pf : PFile → ℕ
levels_pf f = levels_pd f.last

-- ---- what they spell

abbrev pub PartFunction : PFun → Toks → Toks → Type 0
PartFunction f from at = (mid : Toks) × (next : Toks) × (kind_at from ≡ Some (kind.Word word.Func)) × (name_at (after from) ≡ Some f.name) × SpellsParameters f.parameters (after (after from)) mid × Returns f.result mid next × PartB f.body next at

abbrev pub PartStructMember : PMember → Toks → Toks → Type 0
PartStructMember (p_initializer ps b) from at = (mid : Toks) × (kind_at from ≡ Some (kind.Word word.Init)) × SpellsParameters ps (after from) mid × PartB b mid at
PartStructMember (p_deinitializer b) from at = (kind_at from ≡ Some (kind.Word word.Deinit)) × PartB b (after from) at
PartStructMember (p_method m f) from at = (mid : Toks) × Changing m from mid × PartFunction f mid at

abbrev pub PartEnumMember : PMember → Toks → Toks → Type 0
PartEnumMember (p_initializer ps b) from at = ⊥
PartEnumMember (p_deinitializer b) from at = (kind_at from ≡ Some (kind.Word word.Deinit)) × PartB b (after from) at
PartEnumMember (p_method m f) from at = (mid : Toks) × Changing m from mid × PartFunction f mid at

abbrev pub PartMembers : Word → (Member → Toks → Toks → Type 0) → (PMember → Toks → Toks → Type 0) → Name → Bool → List Member → PMember → Toks → Toks → Type 0
PartMembers w S P n b ms m from at = (brace : Toks) × (mid : Toks) × (kind_at from ≡ Some (kind.Word w)) × (name_at (after from) ≡ Some n) × Noncopyable b (after (after from)) brace × (kind_at brace ≡ Some (kind.Mark mark.OpenBrace)) × Separated S ms (after brace) mid × P m mid at

abbrev pub PartDeclaration : PDecl → Toks → Toks → Type 0
PartDeclaration (p_struct n b ms m) from at = PartMembers word.Struct SpellsStructMember PartStructMember n b ms m from at
PartDeclaration (p_enum n b ms m) from at = PartMembers word.Enum SpellsEnumMember PartEnumMember n b ms m from at
PartDeclaration (p_function f) from at = PartFunction f from at

abbrev pub Part : PFile → Toks → Toks → Type 0
Part f from at = (mid : Toks) × Separated SpellsDeclaration f.declarations from mid × PartDeclaration f.last mid at
