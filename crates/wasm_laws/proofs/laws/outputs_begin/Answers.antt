use Rattle.wasm_laws.proofs.Directions.{outputs_begin}
use Rattle.wasm_laws.proofs.laws.outputs_begin.Goals as goal

pub returns : goal.returns
returns c = outputs_begin
