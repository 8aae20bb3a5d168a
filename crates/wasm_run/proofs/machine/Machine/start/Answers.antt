use Rattle.std.proofs.Common.{◌≡◌, Some, sym, ap, ◌∙◌}
use Rattle.std.specs.Option.{option_copied}
use Rattle.wasm_form.specs.Steps.{main_code}
use Rattle.wasm_run.proofs.Room.{main_is_within}
use Rattle.wasm_run.proofs.machine.Machine.start.Goals as goal

pub start-requires-clause-locals : goal.start-requires-clause-locals
start-requires-clause-locals c =
    let e : main_code c.args.module.now ≡ Some c.unwrap-main.result.now = sym c.code_of_main.ensures ∙ ap option_copied c.unwrap-main.ensures in
    (main_is_within c.args.module.now c.unwrap-main.result.now c.requires e).0
