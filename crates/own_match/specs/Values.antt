-- The values of a type as patterns see them, and which values match a pattern. A type is given by its shape.
use Rattle.std.specs.Prelude.{◌≡◌, ℕ, zero, suc, ℤ, Bool, List, Any}
use Rattle.own_tree.specs.TypedSource.{TPat, any, bind, of_case, of_number, of_truth, TPats, pat}
use Rattle.own_shapes.specs.Types.{Shape, Shapes, no_shapes, Payloads, no_payloads, payloads}
use Rattle.own_shapes.specs.Types as shape

mutual
  pub data Val : Type 0 where
    int : ℤ → Val
    bool : Bool → Val
    -- a function, or what a body without a result gives
    opaque : Val
    -- a struct with the values of its stored properties
    struct : Vals → Val
    -- an enum's case, by its number in order of declaration from 0, with its payloads
    variant : ℕ → Vals → Val

  pub data Vals : Type 0 where
    no_vals : Vals
    val : Val → Vals → Vals

-- The value is one of that type. Every whole number is an `Int`.
abbrev mutual
  pub IsOf : Shape → Val → Type 0
  IsOf shape.number (int n) = Unit {0}
  IsOf shape.truth (bool b) = Unit {0}
  IsOf shape.no_value opaque = Unit {0}
  IsOf shape.closure opaque = Unit {0}
  IsOf (shape.struct head fields) (struct vs) = AreOf fields vs
  IsOf (shape.enum head cases) (variant k vs) = IsOfCase cases k vs
  IsOf s v = ⊥

  pub IsOfCase : Payloads → ℕ → Vals → Type 0
  IsOfCase no_payloads k vs = ⊥
  IsOfCase (payloads ss cases) zero vs = AreOf ss vs
  IsOfCase (payloads ss cases) (suc k) vs = IsOfCase cases k vs

  pub AreOf : Shapes → Vals → Type 0
  AreOf no_shapes no_vals = Unit {0}
  AreOf (shape.shape s ss) (val v vs) = IsOf s v × AreOf ss vs
  AreOf ss vs = ⊥

-- The value matches the pattern. That of a case asks that the case is present and that each payload matches the part
-- at its place.
abbrev mutual
  pub Matches : TPat → Val → Type 0
  Matches any v = Unit {0}
  Matches (bind x) v = Unit {0}
  Matches (of_case c ps) (variant k vs) = (c ≡ k) × AllMatch ps vs
  Matches (of_number n) (int m) = n ≡ m
  Matches (of_truth b) (bool c) = b ≡ c
  Matches p v = ⊥

  pub AllMatch : TPats → Vals → Type 0
  AllMatch (pat p ps) (val v vs) = Matches p v × AllMatch ps vs
  AllMatch ps vs = Unit {0}

-- the value matches one of the patterns
abbrev pub IsCovered : List TPat → Val → Type 0
IsCovered ps v = Any (λ p. Matches p v) ps

-- every value of the type does
abbrev pub Covers : List TPat → Shape → Type 0
Covers ps s = (v : Val) → IsOf s v → IsCovered ps v
