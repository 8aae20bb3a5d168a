-- The bodies of functions, methods, `init` and `deinit`, in order of the text.
use Rattle.std.specs.Prelude.{ℕ, suc, Bool, true, false, ◌&&◌, List, [], ◌∷◌, ◌++◌, Option, Some, None, codes}
use Rattle.std.specs.List.{list_any, list_all}
use Rattle.own_tree.specs.declared.place.Mode.{Mode}
use Rattle.own_tree.specs.declared.place.Mode.TheVariants as mode
use Rattle.own_tree.specs.declared.place.Ty.{Ty}
use Rattle.own_tree.specs.declared.place.Ty.TheVariants as type
use Rattle.own_tree.specs.declared.span.Span.{Span}
use Rattle.own_tree.specs.declared.tree.MethodMode.{MethodMode}
use Rattle.own_tree.specs.declared.tree.MethodMode.TheVariants as method_mode
use Rattle.own_tree.specs.declared.tree.Parameter.{Parameter}
use Rattle.own_tree.specs.declared.typed.BodyKind.{BodyKind}
use Rattle.own_tree.specs.declared.typed.BodyKind.TheVariants as kind
use Rattle.own_tree.specs.declared.typed.ParamInfo.{ParamInfo}
use Rattle.own_tree.specs.Source as tree
use Rattle.own_tree.specs.Source.{Stms, Blk, Fun, Member, Decl}
use Rattle.own_tree.specs.TypedSource as typed
use Rattle.own_tree.specs.TypedSource.{TStm, TBlk, TBody}
use Rattle.own_shapes.specs.Types.{is_copyable, tracked}
use Rattle.own_survey.specs.Parts.{word_of}
use Rattle.own_paths.specs.Ops.{closing}
use Rattle.own_paths.specs.Within.{stms_in_block}
use Rattle.own_judging.specs.Judged.{Judged}
use Rattle.own_judged.specs.Closures.{binding_of, no_block, a_block}
use Rattle.own_judged.specs.Names.{Local, Self, Scope, local_of}
use Rattle.own_judged.specs.Rules.{yields, ◌>>=◌, ◌>>◌, declared, embodied}
use Rattle.own_judged.specs.Signatures.{param_of, given_result}
use Rattle.own_judged.specs.Statements.{is_single}
use Rattle.own_judged.specs.Text.{Text}
use Rattle.own_judged.specs.Trees.{statements}
use Rattle.own_judged.specs.Values.{at}

-- what is known of a body by its declaration
pub record Heading : Type 0 where
  pub kind : BodyKind
  pub owner : Option ℕ
  -- how it has its `self`, where it has one
  pub self : Option Mode
  -- where it is declared: its name, or its word
  pub span : Span
  pub result : Ty
  pub may_discard : Bool

-- ---- what a body has

abbrev pub is_discard : TStm → Bool
is_discard (typed.discard_self at p) = true
is_discard _ = false

-- whether a `discard self` stands in it
abbrev pub discards : TBlk → Bool
discards b = list_any is_discard (stms_in_block b)

abbrev pub owner_type : Option ℕ → Ty
owner_type None = type.Unit
owner_type (Some t) = type.Named t

-- `self` of body k
abbrev pub self_bound : (body : ℕ) → Heading → Option Mode → Judged (List ℕ × Option Self)
self_bound k h None = yields ([], None)
self_bound k h (Some m) = do
  x ← declared (binding_of (codes "self") (owner_type h.owner) m h.span k)
  yields (x ∷ [], Some (record { binding = x; ty = owner_type h.owner; mode = m }))

abbrev pub body_of : Heading → Span → (params : List ℕ) → TBlk → TBody
body_of h s params b = record {
  kind = h.kind;
  owner = h.owner;
  params = params;
  result = h.result;
  discards = discards b;
  span = h.span;
  close = closing s;
  block = b;
}

abbrev pub body_scope : Heading → (body : ℕ) → Option Self → List Local → Scope
body_scope h k me locals = record {
  body = k;
  locals = locals;
  self = me;
  owner = h.owner;
  in_closure = false;
  result = h.result;
  in_loop = false;
  in_switch = false;
  may_discard = h.may_discard;
}

-- ---- headings

-- SE-0390: a method without a modifier borrows a noncopyable `self`; a copyable one it has as a value
abbrev pub method_self : (copyable : Bool) → Option MethodMode → Mode
method_self true None = mode.Plain
method_self false None = mode.SelfBorrowing
method_self copyable (Some method_mode.Borrowing) = mode.SelfBorrowing
method_self copyable (Some method_mode.Consuming) = mode.SelfConsuming
method_self copyable (Some method_mode.Mutating) = mode.SelfMutating

abbrev pub is_consuming : Option MethodMode → Bool
is_consuming (Some method_mode.Consuming) = true
is_consuming _ = false

abbrev pub initializer_heading : (owner : ℕ) → Span → Heading
initializer_heading t s = record {
  kind = kind.Initializer;
  owner = Some t;
  self = Some mode.SelfInit;
  span = word_of 4 s;
  result = type.Unit;
  may_discard = false;
}

abbrev pub deinitializer_heading : (owner : ℕ) → Span → Heading
deinitializer_heading t s = record {
  kind = kind.Deinitializer;
  owner = Some t;
  self = Some mode.SelfDeinit;
  span = word_of 6 s;
  result = type.Unit;
  may_discard = false;
}

module _ (text : Text) where
  -- SE-0390: `discard self` is of a type with a `deinit`; that all stored properties are copyable is asked besides
  abbrev pub may_be_discarded : Ty → Bool
  may_be_discarded ty =
      tracked (text.types.shape ty) && list_all (λ f. is_copyable text.types f.ty) (text.types.properties ty)

  abbrev pub method_heading : (owner : ℕ) → Option MethodMode → Fun → Heading
  method_heading t m f = record {
    kind = kind.Method;
    owner = Some t;
    self = Some (method_self (is_copyable text.types (type.Named t)) m);
    span = f.name.span;
    result = given_result text.written f.result;
    may_discard = is_consuming m && may_be_discarded (type.Named t);
  }

  abbrev pub function_heading : Fun → Heading
  function_heading f = record {
    kind = kind.Function;
    owner = None;
    self = None;
    span = f.name.span;
    result = given_result text.written f.result;
    may_discard = false;
  }

  -- ---- bodies

  abbrev pub param_info : Parameter → ParamInfo
  param_info p = param_of text.written text.signatures p

  -- the parameters of body k
  abbrev pub params_bound : (body : ℕ) → List Parameter → Judged (List ℕ × List Local)
  params_bound k [] = yields ([], [])
  params_bound k (p ∷ ps) = do
    x ← declared (binding_of p.name.text (param_info p).ty (param_info p).mode p.name.span k)
    rest ← params_bound k ps
    yields (x ∷ rest.0, local_of p.name x (param_info p).ty ++ rest.1)

  -- `self`, the parameters and the statements of body k
  abbrev pub body_inside : Heading → List Parameter → Span → Stms → (body : ℕ) → Judged (List ℕ × TBlk)
  body_inside h ps s ss k = do
    me ← self_bound k h h.self
    xs ← params_bound k ps
    b ← a_block s (statements text (body_scope h k me.1 xs.1) ss (is_single ss) [])
    yields (me.0 ++ xs.0, b)

  abbrev pub a_body : Heading → List Parameter → Blk → Judged (Unit {0})
  a_body h ps (tree.block s ss) = do
    x ← embodied (body_of h s [] (no_block s)) (body_inside h ps s ss) (λ a. body_of h s a.0 a.1)
    yields tt

  -- those of the members of type t
  abbrev pub member_bodies : (type : ℕ) → List Member → Judged (Unit {0})
  member_bodies t [] = yields tt
  member_bodies t (tree.field f ∷ ms) = member_bodies t ms
  member_bodies t (tree.initializer s ps b ∷ ms) = do
    a_body (initializer_heading t s) ps b
    member_bodies t ms
  member_bodies t (tree.deinitializer s b ∷ ms) = do
    a_body (deinitializer_heading t s) [] b
    member_bodies t ms
  member_bodies t (tree.method s m f ∷ ms) = do
    a_body (method_heading t m f) f.parameters f.body
    member_bodies t ms
  member_bodies t (tree.cases s cs ∷ ms) = member_bodies t ms

  -- those of declarations, the first type of which has number t
  abbrev pub bodies : (type : ℕ) → List Decl → Judged (Unit {0})
  bodies t [] = yields tt
  bodies t (tree.struct_of s n noncopyable ms ∷ ds) = do
    member_bodies t ms
    bodies (suc t) ds
  bodies t (tree.enum_of s n noncopyable ms ∷ ds) = do
    member_bodies t ms
    bodies (suc t) ds
  bodies t (tree.function f ∷ ds) = do
    a_body (function_heading f) f.parameters f.body
    bodies t ds
