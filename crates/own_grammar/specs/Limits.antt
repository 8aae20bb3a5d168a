-- The limit of patterns as a number: what the constant of the code stands for.
use Rattle.std.specs.Prelude.{◌≡◌}
use Rattle.own_grammar.specs.declared.limits.TheConstants.{MOST_PATTERN_LEVELS}

pub record LimitsAreThese : Type 0 where
  pub pattern_levels : MOST_PATTERN_LEVELS ≡ 100
