-- What fits a shape: a value of it, with holes anywhere in it.
use Rattle.std.specs.Prelude.{◌≡◌, ℕ, zero, suc, Bool, true, false, List, [], ◌∷◌, Option, Some, None}
use Rattle.own_shapes.specs.Types.{TypeHead, Shape, Shapes, Payloads, no_shapes, no_payloads, payloads, shape_at, property_shape}
use Rattle.own_shapes.specs.Types as shape
use Rattle.own_runs.specs.Patterns.{payloads_at, case_shapes}
use Rattle.own_runs.specs.Values.{Val, int, bool, unit, struct, variant, hole, Vals, no_vals, val, is_whole, Part, field, payload, Found, found, hollow, nowhere}

-- a tracked value has its number, and no other has one
abbrev pub IsNumbered : Bool → Option ℕ → Type 0
IsNumbered true (Some i) = Unit {0}
IsNumbered true None = ⊥
IsNumbered false (Some i) = ⊥
IsNumbered false None = Unit {0}

abbrev pub HasCase : Payloads → ℕ → Type 0
HasCase no_payloads c = ⊥
HasCase (payloads ss cs) zero = Unit {0}
HasCase (payloads ss cs) (suc c) = HasCase cs c

abbrev mutual
  pub Fits : Shape → Val → Type 0
  Fits s hole = Unit {0}
  Fits shape.number (int n) = Unit {0}
  Fits shape.truth (bool b) = Unit {0}
  Fits shape.no_value unit = Unit {0}
  Fits (shape.struct head fields) (struct type i vs) =
      (type ≡ head.number) × IsNumbered head.has_deinit i × AllFit fields vs
  Fits (shape.enum head cases) (variant present vs) = HasCase cases present × CaseFits cases present vs
  Fits s v = ⊥

  pub AllFit : Shapes → Vals → Type 0
  AllFit no_shapes no_vals = Unit {0}
  AllFit (shape.shape s ss) (val v vs) = Fits s v × AllFit ss vs
  AllFit no_shapes (val v vs) = ⊥
  AllFit (shape.shape s ss) no_vals = ⊥

  -- the payloads of the present case, which is so many further on
  pub CaseFits : Payloads → ℕ → Vals → Type 0
  CaseFits no_payloads c vs = ⊥
  CaseFits (payloads ss cs) zero vs = AllFit ss vs
  CaseFits (payloads ss cs) (suc c) vs = CaseFits cs c vs

-- without a hole
abbrev pub IsGood : Shape → Val → Type 0
IsGood s v = Fits s v × (is_whole v ≡ true)

-- ---- parts of a shape: stored properties, and payloads of each case

abbrev pub part_shape : Shape → Part → Shape
part_shape s (field k) = property_shape s k
part_shape s (payload c k) = shape_at (case_shapes s c) k

-- the shape at the end of a way
abbrev pub shape_along : Shape → List Part → Shape
shape_along s [] = s
shape_along s (p ∷ ps) = shape_along (part_shape s p) ps

abbrev pub HasShape : Shapes → ℕ → Type 0
HasShape no_shapes k = ⊥
HasShape (shape.shape s ss) zero = Unit {0}
HasShape (shape.shape s ss) (suc k) = HasShape ss k

abbrev pub HasPart : Shape → Part → Type 0
HasPart (shape.struct head fields) (field k) = HasShape fields k
HasPart (shape.enum head cases) (payload c k) = HasShape (payloads_at cases c) k
HasPart s p = ⊥

abbrev pub HasParts : Shape → List Part → Type 0
HasParts s [] = Unit {0}
HasParts s (p ∷ ps) = HasPart s p × HasParts (part_shape s p) ps

-- what is looked for is there and such, or lies below a hole
abbrev pub FoundIs : {A : Type 0} → (A → Type 0) → Found A → Type 0
FoundIs Q (found a) = Q a
FoundIs Q hollow = Unit {0}
FoundIs Q nowhere = ⊥

-- ---- a struct that is no longer, or not yet, tracked: while it is taken apart, and `self` of an `init`

abbrev pub untracked : Shape → Shape
untracked (shape.struct head fields) = shape.struct (record head { has_deinit = false }) fields
untracked (shape.enum head cases) = shape.enum head cases
untracked shape.number = shape.number
untracked shape.truth = shape.truth
untracked shape.no_value = shape.no_value
untracked shape.closure = shape.closure

-- ---- a shape with another one at a way

abbrev pub with_shape : Shapes → ℕ → Shape → Shapes
with_shape no_shapes k new = no_shapes
with_shape (shape.shape s ss) zero new = shape.shape new ss
with_shape (shape.shape s ss) (suc k) new = shape.shape s (with_shape ss k new)

abbrev pub with_case : Payloads → ℕ → Shapes → Payloads
with_case no_payloads c new = no_payloads
with_case (payloads ss cs) zero new = payloads new cs
with_case (payloads ss cs) (suc c) new = payloads ss (with_case cs c new)

abbrev pub with_part : Shape → Part → Shape → Shape
with_part (shape.struct head fields) (field k) new = shape.struct head (with_shape fields k new)
with_part (shape.enum head cases) (payload c k) new =
    shape.enum head (with_case cases c (with_shape (payloads_at cases c) k new))
with_part s p new = s

abbrev pub replaced : Shape → List Part → Shape → Shape
replaced s [] new = new
replaced s (p ∷ ps) new = with_part s p (replaced (part_shape s p) ps new)
