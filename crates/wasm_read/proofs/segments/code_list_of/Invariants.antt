use Rattle.std.proofs.Common.{◌≡◌, ◌-◌, []}
use Rattle.wasm_read.specs.Entries.{code_entry_at}
use Rattle.wasm_read.specs.Reading.{list_at}
use Rattle.wasm_read.proofs.segments.code_list_of.Given as goal

abbrev pub invariant-loop : goal.invariant-loop
invariant-loop l = list_at (code_entry_at l.types l.functions) l.codes.items (l.count - l.counter) l.rest ≡ list_at (code_entry_at l.types l.functions) [] l.count l.bytes
