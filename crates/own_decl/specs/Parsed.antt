-- What the answers of `parse` say.
use Rattle.std.specs.Prelude.{Result, Ok, Err}
use Rattle.own_tree.specs.declared.error.ParseError.{ParseError}
use Rattle.own_tree.specs.declared.error.ParseError.TheVariants as parse_error

-- too deep a nesting, or want of memory
abbrev pub IsTooDeep : {X : Type 0} → Result X ParseError → Type 0
IsTooDeep (Ok x) = ⊥
IsTooDeep (Err (parse_error.Syntax token)) = ⊥
IsTooDeep (Err (parse_error.Depth token)) = Unit {0}
IsTooDeep (Err parse_error.Memory) = Unit {0}
