-- What stands after a declaration, or after a file that breaks off, is a tail of the tokens where it begins.
use Rattle.std.proofs.Common.{◌≡◌, ℕ, ◌-◌, Bool, true, false, List, [], ◌∷◌, length, drop, Option, Some, None}
use Rattle.own_tree.specs.declared.span.Span.{Span}
use Rattle.own_tree.specs.declared.token.Word.{Word}
use Rattle.own_tree.specs.declared.token.Word.TheVariants as word
use Rattle.own_tree.specs.declared.tree.Name.{Name}
use Rattle.own_tree.specs.declared.tree.Field.{Field}
use Rattle.own_tree.specs.declared.tree.CaseItem.{CaseItem}
use Rattle.own_tree.specs.declared.tree.Parameter.{Parameter}
use Rattle.own_tree.specs.declared.tree.Label.{Label}
use Rattle.own_tree.specs.declared.tree.Label.TheVariants as label
use Rattle.own_tree.specs.declared.tree.ParameterType.{ParameterType}
use Rattle.own_tree.specs.declared.tree.ParameterType.TheVariants as written
use Rattle.own_tree.specs.declared.tree.FunctionParameter.{FunctionParameter}
use Rattle.own_tree.specs.declared.tree.PassingMode.{PassingMode}
use Rattle.own_tree.specs.declared.tree.MethodMode.{MethodMode}
use Rattle.own_tree.specs.declared.tree.ResultType.{ResultType}
use Rattle.own_tree.specs.declared.tree.ResultType.TheVariants as answer
use Rattle.own_tree.specs.Source.{Blk, Fun, Member, field, initializer, deinitializer, method, cases, Decl, struct_of, enum_of, function}
use Rattle.own_grammar.specs.Tests.{Toks, after}
use Rattle.own_grammar.specs.Lists.{Listed, Bracketed, Separated}
use Rattle.own_grammar.specs.Declarations.{Moded, SpellsResult, Returns, SpellsInner, SpellsType, Labelled, SpellsParameter, SpellsParameters, SpellsFunction, Changing, SpellsField, SpellsName, Payloads, SpellsItem, SpellsDeinitializer, SpellsMethod, SpellsStructMember, SpellsEnumMember, Noncopyable, SpellsMembers, SpellsDeclaration}
use Rattle.own_grammar.specs.PartialFile.{PFun, PMember, p_initializer, p_deinitializer, p_method, PDecl, p_struct, p_enum, p_function, PFile, PartFunction, PartStructMember, PartEnumMember, PartMembers, PartDeclaration, Part}
use Rattle.own_expr.proofs.Tails.{Tail, same, one, two, three, ◌then◌, sep_tail, tail_b, part_b, tail_drop}

-- ---- lists

abbrev Tailed : {A : Type 0} → (A → Toks → Toks → Type 0) → Type 0
Tailed {A} S = (x : A) (from to : Toks) → S x from to → Tail from to

module _ {A : Type 0} (S : A → Toks → Toks → Type 0) (tail : Tailed S) where
  listed_tail : (xs : List A) (from to : Toks) → Listed S xs from to → Tail from to
  listed_tail [] from to sp = absurd sp
  listed_tail (x ∷ []) from to sp = tail x from to sp
  listed_tail (x ∷ y ∷ xs) from to (mid, sp, comma, sps) = tail x from mid sp then one mid then listed_tail (y ∷ xs) (after mid) to sps

  bracketed_tail : (xs : List A) (from last : Toks) → Bracketed S xs from last → Tail from last
  bracketed_tail [] from last (lp, rp, is) = rw is (one from)
  bracketed_tail (x ∷ xs) from last (lp, rp, sp) = one from then listed_tail (x ∷ xs) (after from) last sp

  separated_tail : (xs : List A) (from to : Toks) → Separated S xs from to → Tail from to
  separated_tail [] from to is = rw is (same from)
  separated_tail (x ∷ xs) from to (mid, next, sp, sep, sps) = tail x from mid sp then sep_tail true mid next sep then separated_tail xs next to sps

-- ---- types and parameters

moded_tail : (m : Option PassingMode) (from to : Toks) → Moded m from to → Tail from to
moded_tail None from to is = rw is (same from)
moded_tail (Some m) from to (k, is) = rw is (one from)

result_tail : (r : ResultType) (from to : Toks) → SpellsResult r from to → Tail from to
result_tail (answer.Named n) from to (nm, is) = rw is (one from)
result_tail (answer.Empty s) from to (lp, rp, is, r) = rw is (two from)

returns_tail : (r : Option ResultType) (from to : Toks) → Returns r from to → Tail from to
returns_tail None from to is = rw is (same from)
returns_tail (Some r) from to (k, sp) = one from then result_tail r (after from) to sp

inner_tail : (p : FunctionParameter) (from to : Toks) → SpellsInner p from to → Tail from to
inner_tail p from to (mid, md, nm, is, s) = rw is (moded_tail p.mode from mid md then one mid)

type_tail : (w : ParameterType) (from to : Toks) → SpellsType w from to → Tail from to
type_tail (written.Named s m n) from to (mid, md, nm, is, r) = rw is (moded_tail m from mid md then one mid)
type_tail (written.Function s ps r) from to (last, br, arrow, sp, e) = bracketed_tail SpellsInner inner_tail ps from last br then two last then result_tail r (after (after last)) to sp

labelled_tail : (l : Label) (n : Name) (from to : Toks) → Labelled l n from to → Tail from to
labelled_tail label.Same n from to (nm, is) = rw is (one from)
labelled_tail label.Omitted n from to (k, nm, is) = rw is (two from)
labelled_tail (label.Other l) n from to (nl, nm, is) = rw is (two from)

parameter_tail : (p : Parameter) (from to : Toks) → SpellsParameter p from to → Tail from to
parameter_tail p from to (mid, lab, colon, sp, s) = labelled_tail p.label p.name from mid lab then one mid then type_tail p.written (after mid) to sp

parameters_tail : (ps : List Parameter) (from to : Toks) → SpellsParameters ps from to → Tail from to
parameters_tail ps from to (last, br, is) = rw is (bracketed_tail SpellsParameter parameter_tail ps from last br then one last)

-- ---- members

function_tail : (f : Fun) (from to : Toks) → SpellsFunction f from to → Tail from to
function_tail f from to (mid, next, k, nm, sps, ret, sp, s) = two from then parameters_tail f.parameters (after (after from)) mid sps then returns_tail f.result mid next ret then tail_b f.body next to sp

field_tail : (f : Field) (from to : Toks) → SpellsField f from to → Tail from to
field_tail f from to (k, nm, colon, ty, is, s) = rw is (three from then one (after (after (after from))))

name_tail : (n : Name) (from to : Toks) → SpellsName n from to → Tail from to
name_tail n from to (nm, is) = rw is (one from)

payloads_tail : (ns : List Name) (from to : Toks) (end : Span) → Payloads ns from to end → Tail from to
payloads_tail [] from to end (is, e) = rw is (one from)
payloads_tail (n ∷ ns) from to end (last, br, is, e) = rw is (one from then bracketed_tail SpellsName name_tail (n ∷ ns) (after from) last br then one last)

item_tail : (i : CaseItem) (from to : Toks) → SpellsItem i from to → Tail from to
item_tail i from to (nm, end, sp, s) = payloads_tail i.payloads from to end sp

deinitializer_tail : (s : Span) (b : Blk) (from to : Toks) → SpellsDeinitializer s b from to → Tail from to
deinitializer_tail s b from to (k, sp, e) = one from then tail_b b (after from) to sp

changing_tail : (m : Option MethodMode) (from to : Toks) → Changing m from to → Tail from to
changing_tail None from to is = rw is (same from)
changing_tail (Some m) from to (k, is) = rw is (one from)

method_tail : (s : Span) (m : Option MethodMode) (f : Fun) (from to : Toks) → SpellsMethod s m f from to → Tail from to
method_tail s m f from to (mid, ch, sp, e) = changing_tail m from mid ch then function_tail f mid to sp

struct_member_tail : (m : Member) (from to : Toks) → SpellsStructMember m from to → Tail from to
struct_member_tail (field f) from to sp = field_tail f from to sp
struct_member_tail (initializer s ps b) from to (mid, k, sps, sp, e) = one from then parameters_tail ps (after from) mid sps then tail_b b mid to sp
struct_member_tail (deinitializer s b) from to sp = deinitializer_tail s b from to sp
struct_member_tail (method s m f) from to sp = method_tail s m f from to sp
struct_member_tail (cases s items) from to sp = absurd sp

enum_member_tail : (m : Member) (from to : Toks) → SpellsEnumMember m from to → Tail from to
enum_member_tail (field f) from to sp = absurd sp
enum_member_tail (initializer s ps b) from to sp = absurd sp
enum_member_tail (deinitializer s b) from to sp = deinitializer_tail s b from to sp
enum_member_tail (method s m f) from to sp = method_tail s m f from to sp
enum_member_tail (cases s items) from to (k, sps, e) = one from then listed_tail SpellsItem item_tail items (after from) to sps

-- ---- declarations

noncopyable_tail : (b : Bool) (from to : Toks) → Noncopyable b from to → Tail from to
noncopyable_tail false from to is = rw is (same from)
noncopyable_tail true from to (colon, tilde, nm, is) = rw is (three from)

members_tail : (w : Word) (S : Member → Toks → Toks → Type 0) → Tailed S → (s : Span) (n : Name) (b : Bool) (ms : List Member) (from to : Toks) → SpellsMembers w S s n b ms from to → Tail from to
members_tail w S tail s n b ms from to (brace, last, k, nm, nc, lb, sps, rb, is, e) =
    rw is (two from then noncopyable_tail b (after (after from)) brace nc then one brace then separated_tail S tail ms (after brace) last sps then one last)

declaration_tail : (d : Decl) (from to : Toks) → SpellsDeclaration d from to → Tail from to
declaration_tail (struct_of s n b ms) from to sp = members_tail word.Struct SpellsStructMember struct_member_tail s n b ms from to sp
declaration_tail (enum_of s n b ms) from to sp = members_tail word.Enum SpellsEnumMember enum_member_tail s n b ms from to sp
declaration_tail (function f) from to sp = function_tail f from to sp

-- ---- what breaks off

function_part : (f : PFun) (from at_ : Toks) → PartFunction f from at_ → Tail from at_
function_part f from at_ (mid, next, k, nm, sps, ret, sp) = two from then parameters_tail f.parameters (after (after from)) mid sps then returns_tail f.result mid next ret then part_b f.body next at_ sp

struct_member_part : (m : PMember) (from at_ : Toks) → PartStructMember m from at_ → Tail from at_
struct_member_part (p_initializer ps b) from at_ (mid, k, sps, sp) = one from then parameters_tail ps (after from) mid sps then part_b b mid at_ sp
struct_member_part (p_deinitializer b) from at_ (k, sp) = one from then part_b b (after from) at_ sp
struct_member_part (p_method m f) from at_ (mid, ch, sp) = changing_tail m from mid ch then function_part f mid at_ sp

enum_member_part : (m : PMember) (from at_ : Toks) → PartEnumMember m from at_ → Tail from at_
enum_member_part (p_initializer ps b) from at_ sp = absurd sp
enum_member_part (p_deinitializer b) from at_ (k, sp) = one from then part_b b (after from) at_ sp
enum_member_part (p_method m f) from at_ (mid, ch, sp) = changing_tail m from mid ch then function_part f mid at_ sp

members_part : (w : Word) (S : Member → Toks → Toks → Type 0) → Tailed S → (P : PMember → Toks → Toks → Type 0) → Tailed P → (n : Name) (b : Bool) (ms : List Member) (m : PMember) (from at_ : Toks) → PartMembers w S P n b ms m from at_ → Tail from at_
members_part w S tail P part n b ms m from at_ (brace, mid, k, nm, nc, lb, sps, sp) =
    two from then noncopyable_tail b (after (after from)) brace nc then one brace then separated_tail S tail ms (after brace) mid sps then part m mid at_ sp

declaration_part : (d : PDecl) (from at_ : Toks) → PartDeclaration d from at_ → Tail from at_
declaration_part (p_struct n b ms m) from at_ sp = members_part word.Struct SpellsStructMember struct_member_tail PartStructMember struct_member_part n b ms m from at_ sp
declaration_part (p_enum n b ms m) from at_ sp = members_part word.Enum SpellsEnumMember enum_member_tail PartEnumMember enum_member_part n b ms m from at_ sp
declaration_part (p_function f) from at_ sp = function_part f from at_ sp

file_part : (f : PFile) (from at_ : Toks) → Part f from at_ → Tail from at_
file_part f from at_ (mid, sps, sp) = separated_tail SpellsDeclaration declaration_tail f.declarations from mid sps then declaration_part f.last mid at_ sp

-- where a file breaks off, by how many tokens are left there
pub file_place : (f : PFile) (from at_ : Toks) (n : ℕ) → length at_ ≡ n → Part f from at_ → Part f from (drop (length from - n) from)
file_place f from at_ n len sp =
    let is : at_ ≡ drop (length from - length at_) from = tail_drop from at_ (file_part f from at_ sp) in
    rw (← len, ← is) sp
