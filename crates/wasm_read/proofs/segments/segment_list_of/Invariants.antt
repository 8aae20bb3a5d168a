use Rattle.std.proofs.Common.{◌≡◌, ◌-◌, []}
use Rattle.wasm_read.specs.Entries.{segment_at}
use Rattle.wasm_read.specs.Reading.{list_at}
use Rattle.wasm_read.proofs.segments.segment_list_of.Given as goal

abbrev pub invariant-loop : goal.invariant-loop
invariant-loop l = list_at (λ _. segment_at l.memories) l.segments.items (l.count - l.counter) l.rest ≡ list_at (λ _. segment_at l.memories) [] l.count l.bytes
