use Rattle.std.proofs.Common.{sym}
use Rattle.wasm_run.proofs.state.State.call_defined.Goals as goal

pub enter_function-requires-clause-within : goal.enter_function-requires-clause-within
enter_function-requires-clause-within c =
    c.requires.within.functions c.args.index c.in-Some.own.now c.in-Some-get.function.now (sym c.in-Some.ensures) (sym c.in-Some-get.ensures.value)
