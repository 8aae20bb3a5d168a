-- Which clause of a `switch` is taken, and what its pattern binds and leaves (SE-0432).
use Rattle.std.specs.Prelude.{ℕ, zero, suc, Bool, true, false, ◌==◌, List, [], ◌∷◌, ◌++◌, Option, Some, None}
use Rattle.own_tree.specs.TypedSource.{TPat, any, bind, of_case, of_number, of_truth, TPats, no_pats, pat, TWhen, case_of, case_where, default, Program}
use Rattle.own_shapes.specs.Types.{Shape, Shapes, Payloads, no_shapes, no_payloads, payloads}
use Rattle.own_shapes.specs.Types as shape
use Rattle.own_runs.specs.Arithmetic.{same_truth}
use Rattle.own_runs.specs.Destruction.{Call, end_value}
use Rattle.own_runs.specs.Store.{Location, Act, below}
use Rattle.own_runs.specs.Values.{Val, int, bool, unit, struct, variant, hole, Vals, no_vals, val, Part, payload, Found, found, hollow, nowhere, and_then}
use Rattle.own_ways.specs.Arithmetic.{same}
use Rattle.own_ways.specs.Ways.{◌>>◌, pure, stray}

-- ---- matching

-- the second is asked where the first holds
abbrev pub both_match : Bool → Found Bool → Found Bool
both_match true rest = rest
both_match false rest = found false

-- the payloads are matched where the case is that of the pattern
abbrev mutual
  pub matches : TPat → Val → Found Bool
  matches any v = found true
  matches (bind x) v = found true
  matches (of_case c ps) (variant present vs) = both_match (c == present) (all_match ps vs)
  matches (of_case c ps) hole = hollow
  matches (of_case c ps) (int n) = nowhere
  matches (of_case c ps) (bool b) = nowhere
  matches (of_case c ps) unit = nowhere
  matches (of_case c ps) (struct type i vs) = nowhere
  matches (of_number n) (int m) = found (same n m)
  matches (of_number n) hole = hollow
  matches (of_number n) (bool b) = nowhere
  matches (of_number n) unit = nowhere
  matches (of_number n) (struct type i vs) = nowhere
  matches (of_number n) (variant present vs) = nowhere
  matches (of_truth b) (bool c) = found (same_truth b c)
  matches (of_truth b) hole = hollow
  matches (of_truth b) (int n) = nowhere
  matches (of_truth b) unit = nowhere
  matches (of_truth b) (struct type i vs) = nowhere
  matches (of_truth b) (variant present vs) = nowhere

  pub all_match : TPats → Vals → Found Bool
  all_match no_pats no_vals = found true
  all_match (pat p ps) (val v vs) = and_then (matches p v) (λ b. both_match b (all_match ps vs))
  all_match no_pats (val v vs) = nowhere
  all_match (pat p ps) no_vals = nowhere

abbrev pub this_or : TPat → Bool → Found (Option TPat) → Found (Option TPat)
this_or p true rest = found (Some p)
this_or p false rest = rest

abbrev pub first_match : TPats → Val → Found (Option TPat)
first_match no_pats v = found None
first_match (pat p ps) v = and_then (matches p v) (λ b. this_or p b (first_match ps v))

-- the first pattern of a clause that the value matches
abbrev pub chosen : TWhen → Val → Found (Option TPat)
chosen (case_of ps) v = first_match ps v
chosen (case_where p guard) v = first_match (pat p no_pats) v
chosen default v = found (Some any)

-- ---- what a pattern binds

-- each binding, and the way to its part
abbrev mutual
  pub bound_parts : TPat → List Part → List (ℕ × List Part)
  bound_parts any way = []
  bound_parts (bind x) way = (x, way) ∷ []
  bound_parts (of_case c ps) way = payload_parts c 0 ps way
  bound_parts (of_number n) way = []
  bound_parts (of_truth b) way = []

  -- in the payloads from number k on
  pub payload_parts : ℕ → ℕ → TPats → List Part → List (ℕ × List Part)
  payload_parts c k no_pats way = []
  payload_parts c k (pat p ps) way = bound_parts p (way ++ payload c k ∷ []) ++ payload_parts c (suc k) ps way

-- ---- what a pattern leaves of a consumed subject

-- the shapes of the payloads of case number c
abbrev pub payloads_at : Payloads → ℕ → Shapes
payloads_at no_payloads c = no_shapes
payloads_at (payloads ss cases) zero = ss
payloads_at (payloads ss cases) (suc c) = payloads_at cases c

abbrev pub case_shapes : Shape → ℕ → Shapes
case_shapes (shape.enum head cases) c = payloads_at cases c
case_shapes shape.number c = no_shapes
case_shapes shape.truth c = no_shapes
case_shapes shape.no_value c = no_shapes
case_shapes shape.closure c = no_shapes
case_shapes (shape.struct head fields) c = no_shapes

module _ (program : Program) (run : Call) where
  -- The parts that no binding took are destroyed, in order of declaration, as the pattern opens them: a part under a
  -- `_` as a whole. Numbers and truths are nothing to destroy.
  abbrev mutual
    pub end_rest : TPat → Shape → Location → ℕ → Act (Unit {0})
    end_rest any s l level = end_value program run s l level
    end_rest (bind x) s l level = pure tt
    end_rest (of_case c ps) s l level = end_payloads c 0 ps (case_shapes s c) l level
    end_rest (of_number n) s l level = pure tt
    end_rest (of_truth b) s l level = pure tt

    pub end_payloads : ℕ → ℕ → TPats → Shapes → Location → ℕ → Act (Unit {0})
    end_payloads c k no_pats ss l level = pure tt
    end_payloads c k (pat p ps) no_shapes l level = stray
    end_payloads c k (pat p ps) (shape.shape s ss) l level =
        end_rest p s (below l (payload c k ∷ [])) level >> end_payloads c (suc k) ps ss l level
