-- What the fields of a machine stand for.
use Rattle.std.specs.Prelude.{◌≡◌, Some}
use Rattle.wasm_form.specs.declared.module.CodeEntry.{CodeEntry}
use Rattle.wasm_form.specs.Steps.{main_code, started}
use Rattle.wasm_form.specs.Within.{IsWithin}
use Rattle.wasm_run.specs.Start.{Start}
use Rattle.wasm_run.specs.declared.machine.Machine.TheInside.{Inside}

abbrev pub start_of : Inside → Start
start_of s = record { program = s.module.now; input = s.input.now }

-- the state is that before the first step of a module that is within the limits
pub record IsReady (s : Inside) : Type 0 where
  pub within : IsWithin s.module.now
  pub main : CodeEntry
  pub is_main : main_code s.module.now ≡ Some main
  pub begins : s.state ≡ started s.module.now main s.input.now
