use Rattle.wasm_laws.proofs.Stretches.{steps_run, steps_trap}
use Rattle.wasm_laws.proofs.laws.steps_lead.Goals as goal

pub returns : goal.returns
returns c = record { goes = steps_run; traps = steps_trap }
