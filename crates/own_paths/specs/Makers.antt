-- A body as the path rules see it; what its ops need, and which op made, ended or declared a leaf last.
use Rattle.std.specs.Prelude.{ℕ, suc, Bool, true, false, not, ◌&&◌, ◌||◌, ◌==◌, if◌then◌else◌, List, [], ◌∷◌, ◌++◌, map, slice_get, Option, Some, None}
use Rattle.own_tree.specs.declared.op.Op.{Op}
use Rattle.own_tree.specs.declared.op.OpKind.{OpKind}
use Rattle.own_tree.specs.declared.op.OpKind.TheVariants as kind
use Rattle.own_tree.specs.declared.place.Binding.{Binding}
use Rattle.own_tree.specs.declared.place.Mode.{Mode}
use Rattle.own_tree.specs.declared.place.Place.{Place}
use Rattle.own_tree.specs.declared.span.Span.{Span}
use Rattle.own_tree.specs.OpSource.{Ops, return_at, in_order}
use Rattle.own_tree.specs.TypedSource.{TBody, Program}
use Rattle.own_paths.specs.Fixed.{binding_leaves, is_self_in_init, is_one_field, breaks_O7, breaks_O8, place_of}
use Rattle.own_paths.specs.Ops.{has_result, inner_ops}
use Rattle.own_shapes.specs.Places.{covers, overlaps, is_strictly_above}
use Rattle.own_shapes.specs.Types.{Types, passes_let}

-- ---- what an op needs

-- Declare, Make and End need no leaf, Assign what lies above its place, and every other op what overlaps its place.
abbrev pub kind_needs : OpKind → Place → Place → Bool
kind_needs kind.Declare place leaf = false
kind_needs kind.Make place leaf = false
kind_needs kind.End place leaf = false
kind_needs kind.Assign place leaf = is_strictly_above leaf place
kind_needs kind.Read place leaf = overlaps leaf place
kind_needs kind.Borrow place leaf = overlaps leaf place
kind_needs kind.Inout place leaf = overlaps leaf place
kind_needs kind.Consume place leaf = overlaps leaf place
kind_needs kind.Discard place leaf = overlaps leaf place
kind_needs kind.Capture place leaf = overlaps leaf place

abbrev pub needs : Op → Place → Bool
needs o leaf = kind_needs o.kind o.place leaf

-- ---- makers

-- the op that made, ended or declared a leaf last, or the start of the body
pub data Mark : Type 0 where
  fresh : Mark
  made : Op → Mark
  ended : Op → Mark
  bare : Op → Mark

-- what an op does to a leaf at or below its place
abbrev pub marked : OpKind → Op → Mark → Mark
marked kind.Declare o m = bare o
marked kind.Make o m = made o
marked kind.Assign o m = made o
marked kind.Consume o m = ended o
marked kind.Discard o m = ended o
marked kind.End o m = ended o
marked kind.Read o m = m
marked kind.Borrow o m = m
marked kind.Inout o m = m
marked kind.Capture o m = m

abbrev pub is_live : Mark → Bool
is_live fresh = false
is_live (made o) = true
is_live (ended o) = false
is_live (bare o) = false

-- a body as the path rules see it
pub record BodyUses : Type 0 where
  -- its op tree, without the return at its closing brace
  pub inner : Ops
  pub close : Span
  pub has_result : Bool
  pub discards : Bool
  -- those of the bindings that it declares, in order
  pub leaves : List Place
  pub mode_of : ℕ → Option Mode
  -- a Consume that breaks O7 or O8, and so ends nothing
  pub ends_nothing : Op → Bool
  -- a place that is `self` of an `init` and one stored property, which is a `let`
  pub is_let_property : Place → Bool

-- the whole op tree
abbrev pub tree_of : BodyUses → Ops
tree_of uses = in_order (uses.inner ∷ return_at uses.close ∷ [])

module _ (uses : BodyUses) where
  abbrev pub mark_by : Place → Op → Mark → Mark
  mark_by leaf o m = if covers o.place leaf && not (uses.ends_nothing o) then marked o.kind o m else m

  abbrev pub mark_after : Place → Mark → List Op → Mark
  mark_after leaf m [] = m
  mark_after leaf m (o ∷ os) = mark_after leaf (mark_by leaf o m) os

  -- the maker of a leaf after a trace
  abbrev pub maker : Place → List Op → Mark
  maker leaf os = mark_after leaf fresh os

-- ---- the bodies of a program

-- the leaves of the bindings from number x on that a body declares
abbrev pub leaves_declared : Types → ℕ → ℕ → List Binding → List Place
leaves_declared types k x [] = []
leaves_declared types k x (b ∷ bindings) =
    if b.body == k then map (place_of x) (binding_leaves types b) ++ leaves_declared types k (suc x) bindings
    else leaves_declared types k (suc x) bindings

abbrev pub mode_at : Option Binding → Option Mode
mode_at None = None
mode_at (Some b) = Some b.mode

abbrev pub consumes_in_vain : Types → ℕ → Option Binding → Op → Bool
consumes_in_vain types k None o = false
consumes_in_vain types k (Some b) o = breaks_O7 types k b o || breaks_O8 types k b o

abbrev pub names_let_property : Types → Option Binding → List ℕ → Bool
names_let_property types None fields = false
names_let_property types (Some b) fields = is_self_in_init b.mode && is_one_field fields && passes_let (types.shape b.ty) fields

-- body number k
abbrev pub uses_of : Types → Program → ℕ → TBody → BodyUses
uses_of types program k body = record {
  inner = inner_ops types program body;
  close = body.close;
  has_result = has_result body.result;
  discards = body.discards;
  leaves = leaves_declared types k 0 program.bindings;
  mode_of = λ x. mode_at (slice_get program.bindings x);
  ends_nothing = λ o. consumes_in_vain types k (slice_get program.bindings o.place.binding) o;
  is_let_property = λ p. names_let_property types (slice_get program.bindings p.binding) p.fields;
}
