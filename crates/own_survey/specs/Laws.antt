-- What is proved of these definitions, for contracts to cite.
use Rattle.own_tree.specs.declared.limits.TheConstants.{MOST_TYPES, MOST_FIELDS, MOST_BODIES, MOST_PARAMETERS, MOST_TYPE_SLOTS}
use Rattle.own_tree.specs.Source.{File}
use Rattle.own_shapes.specs.Counts.{IsExceeded}
use Rattle.own_shapes.specs.Types.{Types}
use Rattle.own_survey.specs.Limits.{over_M4, over_M5, over_M6, over_M7, over_M8}

-- what is named as over a limit of the text has a larger count
pub record TextLimitsAreExceeded : Type 0 where
  pub types : (file : File) → IsExceeded MOST_TYPES (over_M4 file)
  pub fields : (file : File) → IsExceeded MOST_FIELDS (over_M5 file)
  pub bodies : (file : File) → IsExceeded MOST_BODIES (over_M6 file)
  pub parameters : (file : File) → IsExceeded MOST_PARAMETERS (over_M7 file)
  pub type_slots : (types : Types) (file : File) → IsExceeded MOST_TYPE_SLOTS (over_M8 types file)
