use Rattle.std.proofs.Common.{◌≡◌, ◌+◌, ◌-◌, []}
use Rattle.std.specs.List.{sum_by}
use Rattle.wasm_read.specs.Reading.{list_at}
use Rattle.wasm_read.specs.Entries.{group_behind}
use Rattle.wasm_read.proofs.segments.group_list_of.Given as goal

abbrev pub invariant-loop : goal.invariant-loop
invariant-loop l = record {
  reads : list_at (group_behind l.parameters) l.groups.items (l.count - l.counter) l.rest ≡ list_at (group_behind l.parameters) [] l.count l.bytes;
  counts : l.total ≡ l.parameters + sum_by (λ g. g.count) l.groups.items;
}
