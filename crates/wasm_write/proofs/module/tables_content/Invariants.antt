use Rattle.std.proofs.Common.{◌≡◌, ◌++◌, length, take}
use Rattle.std.specs.List.{flat_map}
use Rattle.wasm_form.specs.Leb.{unsigned_shortest}
use Rattle.wasm_form.specs.Shortest.{table_shortest}
use Rattle.wasm_write.proofs.module.tables_content.Given as goal

abbrev pub invariant-loop-table : goal.invariant-loop-table
invariant-loop-table l = l.content.items ≡ unsigned_shortest (length l.tables) ++ flat_map table_shortest (take l.table-index l.tables)
