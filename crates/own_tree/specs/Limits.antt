-- The limits of a text, of a type, of a body and of a run, as numbers: what the constants of the code stand for.
use Rattle.std.specs.Prelude.{◌≡◌}
use Rattle.own_tree.specs.declared.limits.TheConstants.{MOST_TEXT_BYTES, MOST_TOKENS, MOST_NESTING, MOST_TYPES, MOST_FIELDS, MOST_BODIES, MOST_PARAMETERS, MOST_TYPE_SLOTS, MOST_BODY_SLOTS, MOST_BODY_OPS, MOST_BODY_LEAVES, MOST_BODY_MAKERS, MOST_OPS, MOST_LEVELS}

pub record LimitsAreThese : Type 0 where
  pub m1 : MOST_TEXT_BYTES ≡ 1048576
  pub m2 : MOST_TOKENS ≡ 200000
  pub m3 : MOST_NESTING ≡ 100
  pub m4 : MOST_TYPES ≡ 1000
  pub m5 : MOST_FIELDS ≡ 256
  pub m6 : MOST_BODIES ≡ 4000
  pub m7 : MOST_PARAMETERS ≡ 32
  pub m8 : MOST_TYPE_SLOTS ≡ 64
  pub m9 : MOST_BODY_SLOTS ≡ 2000
  pub m10 : MOST_BODY_OPS ≡ 20000
  pub m11 : MOST_BODY_LEAVES ≡ 2000
  pub m12 : MOST_BODY_MAKERS ≡ 4096
  pub m13 : MOST_OPS ≡ 1000000
  pub levels : MOST_LEVELS ≡ 1000
