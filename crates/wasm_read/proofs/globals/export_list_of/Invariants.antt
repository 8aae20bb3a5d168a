use Rattle.std.proofs.Common.{◌≡◌, ◌-◌, []}
use Rattle.wasm_read.specs.Entries.{export_at}
use Rattle.wasm_read.specs.Reading.{list_at}
use Rattle.wasm_read.specs.Names.{AreNames}
use Rattle.wasm_read.proofs.globals.export_list_of.Given as goal

abbrev pub invariant-loop : goal.invariant-loop
invariant-loop l = (list_at (export_at l.counts) l.exports.items (l.count - l.counter) l.rest ≡ list_at (export_at l.counts) [] l.count l.bytes) × AreNames l.names.keys l.exports.items
