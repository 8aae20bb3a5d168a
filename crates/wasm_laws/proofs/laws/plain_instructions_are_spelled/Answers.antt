use Rattle.wasm_laws.proofs.Spelled.{plain_is}
use Rattle.wasm_laws.proofs.laws.plain_instructions_are_spelled.Goals as goal

pub returns : goal.returns
returns c = λ labels x fits. let p = plain_is labels x fits in (p.spelled, p.short)
