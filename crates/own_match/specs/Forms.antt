-- Forms of values. A form is a pattern: at an enum a case with a form for each payload, at a `Bool` one of the two
-- truths, at an `Int` a literal that some pattern has at the same place, or `_` for all other numbers, and `_` at a struct.
use Rattle.std.specs.Prelude.{◌≡◌, ℕ, zero, suc, ◌<◌, ◌==◌, ℤ, ◌<ℤ◌, true, false, if◌then◌else◌, ◌⊎◌, List, [], ◌∷◌, map, Contains}
use Rattle.own_tree.specs.TypedSource.{TPat, any, bind, of_case, of_number, of_truth, TPats, no_pats, pat}
use Rattle.own_shapes.specs.Types.{Shape, Shapes, no_shapes, Payloads, no_payloads, payloads}
use Rattle.own_shapes.specs.Types as shape
use Rattle.own_match.specs.Values.{Val, int, bool, variant, Vals, no_vals, val, IsOf, IsCovered}

-- ---- what patterns say at a place

abbrev pub part_at : TPats → ℕ → TPat
part_at no_pats i = any
part_at (pat p ps) zero = p
part_at (pat p ps) (suc i) = part_at ps i

-- What a pattern says of payload i of case k. One of another case says nothing of it.
abbrev pub part : ℕ → ℕ → TPat → TPat
part k i (of_case c ps) = if c == k then part_at ps i else any
part k i any = any
part k i (bind x) = any
part k i (of_number n) = any
part k i (of_truth b) = any

abbrev pub inside : ℕ → ℕ → List TPat → List TPat
inside k i ps = map (part k i) ps

-- the numbers that patterns have at a place
abbrev pub literals : List TPat → List ℤ
literals [] = []
literals (of_number n ∷ ps) = n ∷ literals ps
literals (any ∷ ps) = literals ps
literals (bind x ∷ ps) = literals ps
literals (of_case c qs ∷ ps) = literals ps
literals (of_truth b ∷ ps) = literals ps

-- ---- forms of a type, for the patterns that stand at the same place

abbrev mutual
  pub IsForm : Shape → List TPat → TPat → Type 0
  IsForm shape.number ps any = Unit {0}
  IsForm shape.number ps (of_number n) = Contains (literals ps) n
  IsForm shape.truth ps (of_truth b) = Unit {0}
  IsForm shape.no_value ps any = Unit {0}
  IsForm shape.closure ps any = Unit {0}
  IsForm (shape.struct head fields) ps any = Unit {0}
  IsForm (shape.enum head cases) ps (of_case k fs) = IsFormOfCase cases k k ps fs
  IsForm s ps f = ⊥

  -- of case k, which is number j of these
  pub IsFormOfCase : Payloads → ℕ → ℕ → List TPat → TPats → Type 0
  IsFormOfCase no_payloads j k ps fs = ⊥
  IsFormOfCase (payloads ss cases) zero k ps fs = AreForms ss k 0 ps fs
  IsFormOfCase (payloads ss cases) (suc j) k ps fs = IsFormOfCase cases j k ps fs

  -- of the payloads of case k from number i on
  pub AreForms : Shapes → ℕ → ℕ → List TPat → TPats → Type 0
  AreForms no_shapes k i ps no_pats = Unit {0}
  AreForms (shape.shape s ss) k i ps (pat f fs) = IsForm s (inside k i ps) f × AreForms ss k (suc i) ps fs
  AreForms ss k i ps fs = ⊥

-- The form stands for the value, which is one of its type.
abbrev mutual
  pub StandsFor : List TPat → TPat → Val → Type 0
  StandsFor ps any (int n) = Contains (literals ps) n → ⊥
  StandsFor ps any v = Unit {0}
  StandsFor ps (of_number n) (int m) = n ≡ m
  StandsFor ps (of_truth b) (bool c) = b ≡ c
  StandsFor ps (of_case k fs) (variant j vs) = (k ≡ j) × AllStandFor k 0 ps fs vs
  StandsFor ps f v = ⊥

  pub AllStandFor : ℕ → ℕ → List TPat → TPats → Vals → Type 0
  AllStandFor k i ps no_pats no_vals = Unit {0}
  AllStandFor k i ps (pat f fs) (val v vs) = StandsFor (inside k i ps) f v × AllStandFor k (suc i) ps fs vs
  AllStandFor k i ps fs vs = ⊥

-- The first form comes before the second: at the first place from the left where they differ it has the earlier case,
-- `false` for `true`, the smaller literal, or a literal for `_`.
abbrev mutual
  pub ComesBefore : TPat → TPat → Type 0
  ComesBefore (of_number n) (of_number m) = n <ℤ m
  ComesBefore (of_number n) any = Unit {0}
  ComesBefore (of_truth false) (of_truth true) = Unit {0}
  ComesBefore (of_case j fs) (of_case k gs) = (j < k) ⊎ (j ≡ k) × AllComeBefore fs gs
  ComesBefore f g = ⊥

  pub AllComeBefore : TPats → TPats → Type 0
  AllComeBefore (pat f fs) (pat g gs) = ComesBefore f g ⊎ (f ≡ g) × AllComeBefore fs gs
  AllComeBefore fs gs = ⊥

-- ---- the first form that is missing

-- The form stands for a value, and no value that it stands for matches a pattern.
pub record IsMissing (s : Shape) (ps : List TPat) (f : TPat) : Type 0 where
  pub form : IsForm s ps f
  pub some : (v : Val) × IsOf s v × StandsFor ps f v
  pub none : (v : Val) → IsOf s v → StandsFor ps f v → IsCovered ps v → ⊥

-- each value of a form that comes before matches one
abbrev pub IsFirst : Shape → List TPat → TPat → Type 0
IsFirst s ps f = (g : TPat) → IsForm s ps g → ComesBefore g f → (v : Val) → IsOf s v → StandsFor ps g v → IsCovered ps v
