use Rattle.std.proofs.Common.{sym, subst}
use Rattle.wasm_form.specs.declared.module.Module.{Module}
use Rattle.wasm_form.specs.Within.{IsWithin}
use Rattle.bench_machine.proofs.Limits.{benchmark_is_within}
use Rattle.bench_machine.proofs.module.benchmark.Goals as goal

pub returns : goal.returns
returns c = subst (λ (m : Module). IsWithin m) (sym c.in_ok-module.ensures) (benchmark_is_within c.args.turns)
