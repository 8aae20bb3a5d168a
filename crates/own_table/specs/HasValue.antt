-- Which types have a value: an enum without cases has none, nor has a struct or a case that needs one of it.
use Rattle.std.specs.Prelude.{Bool, true, false, ◌&&◌, ◌||◌}
use Rattle.own_shapes.specs.Types.{Shape, number, truth, no_value, closure, struct, enum, Shapes, no_shapes, shape, Payloads, no_payloads, payloads}

abbrev mutual
  pub has_value : Shape → Bool
  has_value number = true
  has_value truth = true
  has_value no_value = true
  has_value closure = true
  has_value (struct head fields) = all_have_values fields
  has_value (enum head cs) = one_has_values cs

  pub all_have_values : Shapes → Bool
  all_have_values no_shapes = true
  all_have_values (shape s ss) = has_value s && all_have_values ss

  -- all payloads of some case do
  pub one_has_values : Payloads → Bool
  one_has_values no_payloads = false
  one_has_values (payloads ss cs) = all_have_values ss || one_has_values cs
