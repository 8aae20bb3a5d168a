use Rattle.std.proofs.Common.{◌≡◌, ◌-◌, []}
use Rattle.wasm_read.specs.Reading.{list_at, u32_at}
use Rattle.wasm_read.proofs.plain.label_list_of.Given as goal

abbrev pub invariant-loop : goal.invariant-loop
invariant-loop l = list_at (λ _. u32_at) l.labels.items (l.count - l.counter) l.rest ≡ list_at (λ _. u32_at) [] l.count l.bytes
