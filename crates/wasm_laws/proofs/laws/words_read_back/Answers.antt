use Rattle.wasm_laws.proofs.Memory.{read_same, read_lower, read_upper}
use Rattle.wasm_laws.proofs.laws.words_read_back.Goals as goal

pub returns : goal.returns
returns c = record {
  same = λ memory at v le lt. read_same memory at v le lt;
  below = λ memory at v b le l. read_lower memory at v le b l;
  above = λ memory at v b le l. read_upper memory at v le b l;
}
