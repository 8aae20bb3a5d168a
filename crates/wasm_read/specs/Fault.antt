-- The kind of a fault, without its place.
use Rattle.std.specs.Prelude.{Option, Some, None}
use Rattle.wasm_read.specs.declared.fault.Fault.{Fault}
use Rattle.wasm_read.specs.declared.fault.Stop.{Stop}
use Rattle.wasm_read.specs.declared.fault.Stop.TheVariants as stop

abbrev pub kind_of : Stop → Option Fault
kind_of stop.Memory = None
kind_of (stop.Fault kind left) = Some kind
