-- The search for the first form that is missing, one column of patterns after the other. A column has what each pattern
-- says at one place of a value; a pattern is live where it matches all that was chosen at the columns before.
use Rattle.std.specs.List.{list_all}
use Rattle.std.specs.Prelude.{slice_get, ℕ, zero, suc, ◌==◌, ℤ, Bool, true, false, not, ◌&&◌, ◌||◌, if◌then◌else◌, List, [], ◌∷◌, Option, Some, None}
use Rattle.std.specs.Ordering.{int_cmp, int_eq}
use Rattle.std.specs.BTreeSet.{insert_key}
use Rattle.own_tree.specs.TypedSource.{TPat, any, bind, of_case, of_number, of_truth, TPats, no_pats, pat}
use Rattle.own_shapes.specs.Types.{Shape, Shapes, no_shapes, Payloads, no_payloads, payloads}
use Rattle.own_shapes.specs.Types as shape
use Rattle.own_table.specs.HasValue.{all_have_values}
use Rattle.own_match.specs.declared.head.Head.{Head}
use Rattle.own_match.specs.declared.head.Head.TheVariants as head
use Rattle.own_match.specs.Forms.{inside}

-- what the patterns say at one place, whose type has that shape
pub record Column : Type 0 where
  pub shape : Shape
  pub cells : List TPat

-- the pattern matches some value that begins so
abbrev pub accepts : Head → TPat → Bool
accepts h any = true
accepts h (bind x) = true
accepts (head.Case k) (of_case c ps) = c == k
accepts (head.Number n) (of_number m) = int_eq m n
accepts (head.Truth true) (of_truth c) = c
accepts (head.Truth false) (of_truth c) = not c
accepts h p = false

-- the live patterns that also match such a value
abbrev pub narrowed : Head → List Bool → List TPat → List Bool
narrowed h (l ∷ live) (p ∷ cells) = (l && accepts h p) ∷ narrowed h live cells
narrowed h live cells = []

-- a live pattern matches such values and no others
abbrev pub is_mentioned : Head → List Bool → List TPat → Bool
is_mentioned h (l ∷ live) (p ∷ cells) = (l && (accepts h p && not (accepts head.Other p))) || is_mentioned h live cells
is_mentioned h live cells = false

-- ---- patterns that match all values

-- no case but number c has a value, of those from number k on
abbrev pub no_others : ℕ → ℕ → Payloads → Bool
no_others c k no_payloads = true
no_others c k (payloads ss cases) = (k == c || not (all_have_values ss)) && no_others c (suc k) cases

-- case c of an enum, no other case of which has a value
abbrev pub is_only_case : Shape → ℕ → Bool
is_only_case shape.number c = false
is_only_case shape.truth c = false
is_only_case shape.no_value c = false
is_only_case shape.closure c = false
is_only_case (shape.struct h fields) c = false
is_only_case (shape.enum h cases) c = no_others c zero cases

abbrev pub payloads_at : Payloads → ℕ → Shapes
payloads_at no_payloads c = no_shapes
payloads_at (payloads ss cases) zero = ss
payloads_at (payloads ss cases) (suc c) = payloads_at cases c

-- the payloads of case c, where the type has it
abbrev pub case_payloads : Shape → ℕ → Shapes
case_payloads shape.number c = no_shapes
case_payloads shape.truth c = no_shapes
case_payloads shape.no_value c = no_shapes
case_payloads shape.closure c = no_shapes
case_payloads (shape.struct h fields) c = no_shapes
case_payloads (shape.enum h cases) c = payloads_at cases c

-- The pattern matches all values of the type: it is `_` or a name, or the only case that has a value, and each part
-- matches all values of its payload.
abbrev mutual
  pub matches_all : Shape → TPat → Bool
  matches_all s any = true
  matches_all s (bind x) = true
  matches_all s (of_case c ps) = is_only_case s c && parts_match_all (case_payloads s c) ps
  matches_all s (of_number n) = false
  matches_all s (of_truth b) = false

  pub parts_match_all : Shapes → TPats → Bool
  parts_match_all ss no_pats = true
  parts_match_all no_shapes (pat p ps) = true
  parts_match_all (shape.shape s ss) (pat p ps) = matches_all s p && parts_match_all ss ps

-- pattern i does so at the place of a column
abbrev pub is_silent : Shape → Option TPat → Bool
is_silent s None = false
is_silent s (Some p) = matches_all s p

abbrev pub is_silent_at : ℕ → Column → Bool
is_silent_at i c = is_silent c.shape (slice_get c.cells i)

-- at each of these columns
abbrev pub says_nothing : ℕ → List Column → Bool
says_nothing i columns = list_all (is_silent_at i) columns

-- a live pattern, of those from number i on, does so
abbrev pub one_is_silent : ℕ → List Column → List Bool → Bool
one_is_silent i columns [] = false
one_is_silent i columns (l ∷ live) = (l && says_nothing i columns) || one_is_silent (suc i) columns live

-- ---- the search

-- these literals and those of a column, in rising order
abbrev pub rising_onto : List ℤ → List TPat → List ℤ
rising_onto ns [] = ns
rising_onto ns (of_number n ∷ ps) = rising_onto (insert_key int_cmp ns n) ps
rising_onto ns (any ∷ ps) = rising_onto ns ps
rising_onto ns (bind x ∷ ps) = rising_onto ns ps
rising_onto ns (of_case c qs ∷ ps) = rising_onto ns ps
rising_onto ns (of_truth b ∷ ps) = rising_onto ns ps

abbrev pub rising : List TPat → List ℤ
rising ps = rising_onto [] ps

abbrev pub or_else : Option TPats → Option TPats → Option TPats
or_else (Some fs) later = Some fs
or_else None later = later

abbrev pub led : TPat → Option TPats → Option TPats
led f None = None
led f (Some fs) = Some (pat f fs)

abbrev pub front : ℕ → TPats → TPats
front zero fs = no_pats
front (suc n) no_pats = no_pats
front (suc n) (pat f fs) = pat f (front n fs)

abbrev pub back : ℕ → TPats → TPats
back zero fs = fs
back (suc n) no_pats = no_pats
back (suc n) (pat f fs) = back n fs

-- the first n forms are those of the payloads of case k
abbrev pub gathered : ℕ → ℕ → Option TPats → Option TPats
gathered k n None = None
gathered k n (Some fs) = Some (pat (of_case k (front n fs)) (back n fs))

abbrev pub count : Shapes → ℕ
count no_shapes = zero
count (shape.shape s ss) = suc (count ss)

abbrev pub Later : Type 0
Later = List Bool → Option TPats

abbrev pub gap_in_numbers : List ℤ → List TPat → Later → List Bool → Option TPats
gap_in_numbers [] cells next live = led any (next (narrowed head.Other live cells))
gap_in_numbers (n ∷ ns) cells next live = or_else (led (of_number n) (next (narrowed (head.Number n) live cells))) (gap_in_numbers ns cells next live)

abbrev pub gap_in_truths : List TPat → Later → List Bool → Option TPats
gap_in_truths cells next live =
    or_else (led (of_truth false) (next (narrowed (head.Truth false) live cells))) (led (of_truth true) (next (narrowed (head.Truth true) live cells)))

abbrev pub gap_where : Bool → List TPat → Later → List Bool → Option TPats
gap_where false cells next live = None
gap_where true cells next live = led any (next (narrowed head.Other live cells))

-- the columns of the payloads of case k from number i on
abbrev pub payload_columns : Shapes → ℕ → ℕ → List TPat → List Column
payload_columns no_shapes k i cells = []
payload_columns (shape.shape s ss) k i cells = record { shape = s; cells = inside k i cells } ∷ payload_columns ss k (suc i) cells

-- the first forms that are missing at a column and at those that come next
abbrev mutual
  pub gap : Shape → List TPat → Later → List Bool → Option TPats
  gap shape.number cells next live = gap_in_numbers (rising cells) cells next live
  gap shape.truth cells next live = gap_in_truths cells next live
  gap shape.no_value cells next live = gap_where true cells next live
  gap shape.closure cells next live = gap_where true cells next live
  gap (shape.struct h fields) cells next live = gap_where (all_have_values fields) cells next live
  gap (shape.enum h cases) cells next live = gap_in_cases cases zero cells next live

  -- from case k on
  pub gap_in_cases : Payloads → ℕ → List TPat → Later → List Bool → Option TPats
  gap_in_cases no_payloads k cells next live = None
  gap_in_cases (payloads ss cases) k cells next live =
      or_else (gathered k (count ss) (gap_in_payloads ss k zero cells next (narrowed (head.Case k) live cells))) (gap_in_cases cases (suc k) cells next live)

  -- from payload i of case k on
  pub gap_in_payloads : Shapes → ℕ → ℕ → List TPat → Later → List Bool → Option TPats
  gap_in_payloads no_shapes k i cells next live = next live
  gap_in_payloads (shape.shape s ss) k i cells next live = gap s (inside k i cells) (gap_in_payloads ss k (suc i) cells next) live

abbrev pub any_live : List Bool → Bool
any_live [] = false
any_live (l ∷ live) = l || any_live live

abbrev pub gap_end : Later
gap_end live = if any_live live then None else Some no_pats

abbrev pub gap_columns : List Column → Later
gap_columns [] = gap_end
gap_columns (c ∷ cs) = gap c.shape c.cells (gap_columns cs)
