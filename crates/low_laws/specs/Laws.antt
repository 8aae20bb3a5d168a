-- What is proved of the definitions, for contracts to cite.
use Rattle.std.specs.Prelude.{◌<◌, ◌^◌, length}
use Rattle.wasm_form.specs.declared.module.Module.{Module}
use Rattle.wasm_form.specs.Bytes.{ModuleBytes}
use Rattle.wasm_form.specs.Shortest.{Shortest}
use Rattle.core_form.specs.CoreSource.{CoreProgram}
use Rattle.core_form.specs.Sizes.{IsSmall, IsFitting}
use Rattle.low_laws.specs.Lower.{lowered}
use Rattle.low_laws.specs.Follows.{Follows}

-- the module of a core does what the core does
abbrev pub ModulesFollow : Type 0
ModulesFollow = (c : CoreProgram) → IsSmall c → Follows (lowered c) c

-- its shortest spelling spells a module, and is shorter than 2 ^ 32 bytes
abbrev pub IsShort : Module → Type 0
IsShort m = ModuleBytes (Shortest m) m × (length (Shortest m) < 2 ^ 32)

-- the module of a core that fits is spelled, shortly
abbrev pub ModulesAreSpelled : Type 0
ModulesAreSpelled = (c : CoreProgram) → IsFitting c → IsShort (lowered c)
