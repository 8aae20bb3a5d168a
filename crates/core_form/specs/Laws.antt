-- What is proved of the definitions, for contracts to cite.
use Rattle.std.specs.Prelude.{◌≡◌, ◌+◌, ◌*◌, ◌≤◌}
use Rattle.own_tree.specs.declared.limits.TheConstants.{MOST_LEVELS, MOST_TYPE_SLOTS, MOST_BODY_SLOTS, MOST_PARAMETERS}
use Rattle.core_form.specs.declared.limits.TheConstants.{FORMS, STEPS, FRAME, MAKER, DROPPED, ROOM, SLOTS, FRAMES, AREA, MOST_PRINTED}

-- A frame begins with the maker and the address of what is destroyed. A value of a type fits in its room, and what a
-- body needs fits behind that. There is one frame more than levels, and one word behind the frames. What a `print` of
-- the language may have, one of a core may have.
pub record AreasAreThese : Type 0 where
  pub maker : MAKER ≡ 0
  pub dropped : DROPPED ≡ MAKER + 1
  pub room : ROOM ≡ DROPPED + 1
  pub slots : SLOTS ≡ ROOM + MOST_TYPE_SLOTS
  pub frame : FRAME ≡ SLOTS + MOST_BODY_SLOTS
  pub frames : FRAMES ≡ (MOST_LEVELS + 1) * FRAME
  pub area : AREA ≡ FRAMES + 1
  pub printed : MOST_PRINTED ≡ MOST_PARAMETERS

-- the most steps for each token and turn
abbrev pub RatesAreWithin : Type 0
RatesAreWithin = FORMS * STEPS ≤ 1000000
