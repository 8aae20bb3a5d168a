-- The first form of a type, where no pattern that is still live says anything at a place or below it.
use Rattle.std.specs.Prelude.{ℕ, zero, suc, ℤ, Bool, true, false, List, [], ◌∷◌, Option, Some, None}
use Rattle.own_tree.specs.TypedSource.{TPat, any, of_case, of_number, of_truth, TPats, no_pats, pat}
use Rattle.own_shapes.specs.Types.{Shape, Shapes, no_shapes, Payloads, no_payloads, payloads}
use Rattle.own_shapes.specs.Types as shape
use Rattle.own_table.specs.HasValue.{all_have_values}
use Rattle.own_match.specs.Forms.{inside}
use Rattle.own_match.specs.Search.{rising, Column}

-- the first literal, or a number that is none
abbrev pub least_of : List ℤ → TPat
least_of [] = any
least_of (n ∷ ns) = of_number n

abbrev pub any_where : Bool → Option TPat
any_where false = None
any_where true = Some any

abbrev pub or_form : Option TPat → Option TPat → Option TPat
or_form (Some f) later = Some f
or_form None later = later

abbrev pub case_with : ℕ → Option TPats → Option TPat
case_with k None = None
case_with k (Some fs) = Some (of_case k fs)

abbrev pub form_before : Option TPat → Option TPats → Option TPats
form_before None fs = None
form_before (Some f) None = None
form_before (Some f) (Some fs) = Some (pat f fs)

abbrev mutual
  pub first_form : Shape → List TPat → Option TPat
  first_form shape.number cells = Some (least_of (rising cells))
  first_form shape.truth cells = Some (of_truth false)
  first_form shape.no_value cells = Some any
  first_form shape.closure cells = Some any
  first_form (shape.struct h fields) cells = any_where (all_have_values fields)
  first_form (shape.enum h cases) cells = first_case cases zero cells

  -- from case k on
  pub first_case : Payloads → ℕ → List TPat → Option TPat
  first_case no_payloads k cells = None
  first_case (payloads ss cases) k cells = or_form (case_with k (first_forms ss k zero cells)) (first_case cases (suc k) cells)

  -- from payload i of case k on
  pub first_forms : Shapes → ℕ → ℕ → List TPat → Option TPats
  first_forms no_shapes k i cells = Some no_pats
  first_forms (shape.shape s ss) k i cells = form_before (first_form s (inside k i cells)) (first_forms ss k (suc i) cells)

-- those of columns
abbrev pub first_of_columns : List Column → Option TPats
first_of_columns [] = Some no_pats
first_of_columns (c ∷ cs) = form_before (first_form c.shape c.cells) (first_of_columns cs)
