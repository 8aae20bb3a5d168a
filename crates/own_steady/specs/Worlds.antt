-- A world says of each activation what its bindings are and of which shape each of its value trees is. It changes where
-- a binding is made, where a call begins or ends, and for as long as a tracked value is taken apart. Else values come
-- and go within it.
use Rattle.std.specs.Prelude.{◌≡◌, ℕ, zero, suc, ◌==◌, List, [], ◌∷◌, slice_get, slice_set, Option, Some, None, if◌then◌else◌}
use Rattle.own_shapes.specs.Types.{Shape}
use Rattle.own_runs.specs.Store.{Root, binding, temporary, result, Location, Slot, absent, holds, refers, runs, Activation, with_at}
use Rattle.own_steady.specs.Fits.{Fits, HasParts, shape_along, replaced}

-- What a binding is in an activation: it holds no value of its own; it is not yet made or holds a value of a shape; it
-- holds one; it stands for a place of a shape; or it is a closure.
pub data Kind : Type 0 where
  bare : Kind
  maybe : Shape → Kind
  owns : Shape → Kind
  stands_for : Location → Shape → Kind
  calls : (body maker : ℕ) → Kind

pub record Frame : Type 0 where
  pub body : ℕ
  pub maker : Option ℕ
  pub kinds : ℕ → Kind
  -- of what waits at each node
  pub waits : ℕ → Shape
  pub result : Shape

abbrev pub World : Type 0
World = List Frame

abbrev pub SlotFits : Kind → Slot → Type 0
SlotFits bare absent = Unit {0}
SlotFits bare (refers l) = Unit {0}
SlotFits bare (runs body maker) = Unit {0}
SlotFits (maybe s) absent = Unit {0}
SlotFits (maybe s) (holds v) = Fits s v
SlotFits (owns s) (holds v) = Fits s v
SlotFits (stands_for l s) (refers k) = k ≡ l
SlotFits (calls body maker) (runs b m) = (b ≡ body) × (m ≡ maker)
SlotFits kind slot = ⊥

pub record ActivationFits (f : Frame) (a : Activation) : Type 0 where
  pub body : a.body ≡ f.body
  pub maker : a.maker ≡ f.maker
  pub slots : (x : ℕ) → SlotFits (f.kinds x) (a.slots x)
  pub temporaries : (n : ℕ) → Fits (f.waits n) (a.temporaries n)
  pub result : Fits f.result a.result

abbrev pub StoreFits : World → List Activation → Type 0
StoreFits [] [] = Unit {0}
StoreFits (f ∷ fs) (a ∷ acts) = ActivationFits f a × StoreFits fs acts
StoreFits [] (a ∷ acts) = ⊥
StoreFits (f ∷ fs) [] = ⊥

-- the shape of a value tree
abbrev pub RootIs : Frame → Root → Shape → Type 0
RootIs f (binding x) s = f.kinds x ≡ owns s
RootIs f (temporary n) s = f.waits n ≡ s
RootIs f result s = f.result ≡ s

-- a place is of a shape
pub record Stands (w : World) (l : Location) (s : Shape) : Type 0 where
  pub frame : Frame
  pub there : slice_get w l.activation ≡ Some frame
  pub root : Shape
  pub rooted : RootIs frame l.root root
  pub has : HasParts root l.parts
  pub shape : shape_along root l.parts ≡ s

-- ---- changes of a world

abbrev pub with_kind : ℕ → Kind → Frame → Frame
with_kind x k f = record f { kinds = with_at x k f.kinds }

abbrev pub with_root_shape : Root → Shape → Frame → Frame
with_root_shape (binding x) s f = record f { kinds = with_at x (owns s) f.kinds }
with_root_shape (temporary n) s f = record f { waits = with_at n s f.waits }
with_root_shape result s f = record f { result = s }

-- the world where a place is of another shape
abbrev pub with_place : (w : World) (l : Location) (old : Shape) → Stands w l old → Shape → World
with_place w l old t new = slice_set w l.activation (with_root_shape l.root (replaced t.root l.parts new) t.frame)

-- ---- look-ups

abbrev pub where_some : {A B : Type 0} → Option A → (A → Option B) → Option B
where_some None next = None
where_some (Some a) next = next a

-- the activation of the body that declares a binding, as the run looks for it
abbrev pub declares : ℕ → World → (body a : ℕ) → Option ℕ
declares zero w body a = None
declares (suc older) w body a =
    where_some (slice_get w a) (λ f.
    if f.body == body then Some a else where_some f.maker (λ maker. declares older w body maker))
