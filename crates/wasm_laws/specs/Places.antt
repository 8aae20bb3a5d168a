-- Where a run stands, by its parts.
use Rattle.std.specs.Prelude.{ℕ, ℤ, Bool, true, false, List, [], Option}
use Rattle.wasm_form.specs.declared.instr.Instr.{Instr}
use Rattle.wasm_form.specs.declared.module.Module.{Module}
use Rattle.wasm_form.specs.declared.types.Value.{Value}
use Rattle.wasm_form.specs.Steps.{Config, Layer, table_of}

abbrev pub placed : List Layer → List Value → List (Option ℕ) → List ℕ → List ℤ → List Instr → List Value → List Value → Config
placed layers globals table memory input code values locals = record { code = code; values = values; layers = layers; locals = locals; globals = globals; table = table; memory = memory; input = input }

-- of a module without globals, with its table
abbrev pub at : Module → List Layer → List ℕ → List ℤ → List Instr → List Value → List Value → Config
at m layers memory input code values locals = placed layers [] (table_of m) memory input code values locals

-- with this code, these values and these locals, and all else as c
abbrev pub on : Config → List Instr → List Value → List Value → Config
on c code values locals = record c { code = code; values = values; locals = locals }

-- the number of a test
abbrev pub word : Bool → ℕ
word true = 1
word false = 0
