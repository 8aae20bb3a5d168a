use Rattle.std.proofs.Common.{◌≡◌, ◌++◌, length, take}
use Rattle.std.specs.List.{flat_map}
use Rattle.wasm_form.specs.Leb.{unsigned_shortest}
use Rattle.wasm_write.proofs.encode.push_list.Given as goal

abbrev pub invariant-loop-item : goal.invariant-loop-item
invariant-loop-item g l = l.out.items ≡ l.fn.out.items ++ (unsigned_shortest (length l.items) ++ flat_map g.T.Encode.spelling (take l.item-index l.items))
