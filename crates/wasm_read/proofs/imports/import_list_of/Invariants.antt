use Rattle.std.proofs.Common.{◌≡◌, ◌-◌, []}
use Rattle.wasm_read.specs.Entries.{import_at}
use Rattle.wasm_read.specs.Reading.{list_at}
use Rattle.wasm_read.proofs.imports.import_list_of.Given as goal

abbrev pub invariant-loop : goal.invariant-loop
invariant-loop l = list_at (import_at l.types) l.imports.items (l.count - l.counter) l.rest ≡ list_at (import_at l.types) [] l.count l.bytes
