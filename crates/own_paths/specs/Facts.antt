-- Whether a leaf has a value before an op: on all ways, on some, or on none.
use Rattle.std.specs.Prelude.{◌≡◌, ℕ, ◌⊎◌, Bool, true, false, ◌==◌, IsTrue, Contains, List, slice_get, Option, Some, None}
use Rattle.own_tree.specs.declared.graph.LeafFact.{LeafFact}
use Rattle.own_tree.specs.declared.graph.LeafFact.TheVariants as fact
use Rattle.own_tree.specs.declared.op.Op.{Op}
use Rattle.own_tree.specs.declared.op.OpKind.TheVariants as kind
use Rattle.own_tree.specs.declared.place.Binding.{Binding}
use Rattle.own_tree.specs.declared.place.Place.{Place}
use Rattle.own_tree.specs.TypedSource.{TBody, Program}
use Rattle.own_paths.specs.Findings.{Reaches}
use Rattle.own_paths.specs.Makers.{BodyUses, is_live, maker, uses_of}
use Rattle.own_shapes.specs.Places.{whole, covers}
use Rattle.own_shapes.specs.Types.{Types, shape_in, holds_tracked}

-- The fact of a leaf somewhere, by whether some way comes there with the leaf live, and whether one comes with it not
-- live. It is Never where none comes with it live, also where none comes at all.
abbrev pub IsFactBy : (may_be : Bool → Type 0) → LeafFact → Type 0
IsFactBy may_be fact.Always = may_be true × (may_be false → ⊥)
IsFactBy may_be fact.Both = may_be true × may_be false
IsFactBy may_be fact.Never = may_be true → ⊥

-- some trace comes to the op with the leaf live, or not live
abbrev pub MayBe : BodyUses → Op → Place → Bool → Type 0
MayBe uses o leaf live = (before : List Op) × Reaches uses before o × (is_live (maker uses leaf before) ≡ live)

abbrev pub IsFact : BodyUses → Op → Place → LeafFact → Type 0
IsFact uses o leaf f = IsFactBy (MayBe uses o leaf) f

module _ (types : Types) (program : Program) where
  abbrev pub IsFactOf : Bool → ℕ → TBody → Op → Place → LeafFact → Type 0
  IsFactOf true k body o leaf f = IsFact (uses_of types program k body) o leaf f
  IsFactOf false k body o leaf f = f ≡ fact.Always

  abbrev pub IsFactIn : Option Binding → ℕ → TBody → Op → Place → LeafFact → Type 0
  IsFactIn None k body o leaf f = ⊥
  IsFactIn (Some b) k body o leaf f = IsFactOf (b.body == k) k body o leaf f

  -- The fact of a leaf before an op of body number k. One of a captured binding always has a value.
  abbrev pub IsLeafFact : ℕ → TBody → Op → Place → LeafFact → Type 0
  IsLeafFact k body o leaf f = IsFactIn (slice_get program.bindings leaf.binding) k body o leaf f

  abbrev pub leaf_holds_tracked : Option Binding → List ℕ → Bool
  leaf_holds_tracked None fields = false
  leaf_holds_tracked (Some b) fields = holds_tracked (shape_in (types.shape b.ty) fields)

  -- a place that destroys what the leaf holds: the End of its binding, or an Assign at or above it
  abbrev pub Destroys : Op → Place → Type 0
  Destroys o leaf =
      ((o.kind ≡ kind.End) × (o.place ≡ whole leaf.binding)) ⊎ ((o.kind ≡ kind.Assign) × IsTrue (covers o.place leaf))

  -- A leaf for which a flag is kept at run time: it holds a tracked value that some ways destroy and others do not.
  pub record IsAmbiguous (k : ℕ) (body : TBody) (leaf : Place) : Type 0 where
    pub is_leaf : Contains (uses_of types program k body).leaves leaf
    pub tracked : IsTrue (leaf_holds_tracked (slice_get program.bindings leaf.binding) leaf.fields)
    pub at : Op
    pub destroys : Destroys at leaf
    pub both : IsFact (uses_of types program k body) at leaf fact.Both
