use Rattle.std.proofs.Common.{◌≡◌, ◌-◌, []}
use Rattle.wasm_read.specs.Entries.{element_at}
use Rattle.wasm_read.specs.Reading.{list_at}
use Rattle.wasm_read.proofs.segments.element_list_of.Given as goal

abbrev pub invariant-loop : goal.invariant-loop
invariant-loop l = list_at (λ _. element_at l.tables l.functions) l.elements.items (l.count - l.counter) l.rest ≡ list_at (λ _. element_at l.tables l.functions) [] l.count l.bytes
