-- A value of a run as the patterns of coverage see it. It has no number there, and in place of a hole stands a value
-- that only a pattern matches which asks nothing.
use Rattle.own_match.specs.Values as seen
use Rattle.own_runs.specs.Values.{Val, int, bool, unit, struct, variant, hole, Vals, no_vals, val}

abbrev mutual
  pub seen_value : Val → seen.Val
  seen_value (int n) = seen.int n
  seen_value (bool b) = seen.bool b
  seen_value unit = seen.opaque
  seen_value (struct type number vs) = seen.struct (seen_values vs)
  seen_value (variant present vs) = seen.variant present (seen_values vs)
  seen_value hole = seen.opaque

  pub seen_values : Vals → seen.Vals
  seen_values no_vals = seen.no_vals
  seen_values (val v vs) = seen.val (seen_value v) (seen_values vs)
