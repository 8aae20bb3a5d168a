-- What a function that reads ensures.
use Rattle.std.specs.Prelude.{◌≡◌, Result, Ok, Err}
use Rattle.own_grammar.specs.Reading.{Fault, Syntax, Depth}
use Rattle.own_expr.specs.declared.fault.ReadError.{ReadError}
use Rattle.own_expr.specs.declared.fault.ReadError.TheVariants as errors

-- want of memory is free
abbrev pub Fails : {Y : Type 0} → ReadError → Result Y Fault → Type 0
Fails errors.Memory read = Unit {0}
Fails (errors.Syntax n) read = read ≡ Err (Syntax n)
Fails (errors.Depth n) read = read ≡ Err (Depth n)

-- `view` of what was read is what the model reads, and a fault is the model's
abbrev pub Gives : {X Y : Type 0} → (X → Y) → Result X ReadError → Result Y Fault → Type 0
Gives view (Ok x) read = read ≡ Ok (view x)
Gives view (Err e) read = Fails e read
