use Rattle.std.proofs.Common.{◌≡◌, ◌-◌, []}
use Rattle.wasm_read.specs.Reading.{list_at, index_at}
use Rattle.wasm_read.proofs.globals.index_list_of.Given as goal

abbrev pub invariant-loop : goal.invariant-loop
invariant-loop l = list_at (λ _. index_at l.limit) l.indices.items (l.count - l.counter) l.rest ≡ list_at (λ _. index_at l.limit) [] l.count l.bytes
