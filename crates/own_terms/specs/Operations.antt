-- Operators between two operands.
use Rattle.std.specs.Prelude.{Bool}
use Rattle.own_tree.specs.declared.place.Ty.TheVariants as type
use Rattle.own_tree.specs.TypedSource.{TExp}
use Rattle.own_judged.specs.Conditions.{either}
use Rattle.own_judged.specs.Values.{Operation, logical, equality, order, trapping, wrapping, both_are}
use Rattle.own_terms.specs.declared.operators.Operation.{Operation as Held}
use Rattle.own_terms.specs.declared.operators.Operation.TheVariants as held

abbrev pub operation_view : Held → Operation
operation_view (held.Logical o) = logical o
operation_view (held.Equality o) = equality o
operation_view (held.Order o) = order o
operation_view (held.Trapping o) = trapping o
operation_view (held.Wrapping o) = wrapping o

-- whether two operands have the types that an operation asks for (T15)
abbrev pub operands_fit : Operation → TExp → TExp → Bool
operands_fit (logical o) a b = (both_are type.Bool a b).test
operands_fit (equality o) a b = (either (both_are type.Int a b) (both_are type.Bool a b)).test
operands_fit (order o) a b = (both_are type.Int a b).test
operands_fit (trapping o) a b = (both_are type.Int a b).test
operands_fit (wrapping o) a b = (both_are type.Int a b).test
