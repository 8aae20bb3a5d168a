-- What is over a limit of the text.
use Rattle.own_tree.specs.declared.limits.TheConstants.{MOST_TYPES, MOST_FIELDS, MOST_BODIES, MOST_PARAMETERS, MOST_TYPE_SLOTS}
use Rattle.own_shapes.proofs.Counting.{first_is_over, many_are_over}
use Rattle.own_shapes.specs.Types.{declared_types}
use Rattle.own_survey.specs.Laws.{TextLimitsAreExceeded}
use Rattle.own_survey.specs.Limits.{type_names, part_counts, body_places, taken_counts, slot_counts}
use Rattle.own_survey.specs.Parts.{file_parts}

pub text_limits_are_exceeded : TextLimitsAreExceeded
text_limits_are_exceeded = record {
  types = λ file. many_are_over MOST_TYPES (type_names (declared_types file.declarations));
  fields = λ file. first_is_over MOST_FIELDS (part_counts (declared_types file.declarations));
  bodies = λ file. many_are_over MOST_BODIES (body_places (file_parts file));
  parameters = λ file. first_is_over MOST_PARAMETERS (taken_counts (file_parts file));
  type_slots = λ types file. first_is_over MOST_TYPE_SLOTS (slot_counts types MOST_TYPE_SLOTS (declared_types file.declarations) 0 (declared_types file.declarations));
}
