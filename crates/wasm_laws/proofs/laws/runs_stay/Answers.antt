use Rattle.wasm_laws.proofs.Directions.{over_stays}
use Rattle.wasm_laws.proofs.laws.runs_stay.Goals as goal

pub returns : goal.returns
returns c = over_stays
