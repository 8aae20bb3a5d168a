-- The module that the machine is timed on.
use Rattle.std.specs.Prelude.{ℕ, None, Some, List, [], ◌∷◌, codes}
use Rattle.wasm_form.specs.declared.instr.Instr.{Instr}
use Rattle.wasm_form.specs.declared.instr.Instr.TheVariants as i
use Rattle.wasm_form.specs.declared.instr.MemArg.{MemArg}
use Rattle.wasm_form.specs.declared.module.Module.{Module}
use Rattle.wasm_form.specs.declared.module.HostCall.TheVariants as host
use Rattle.wasm_form.specs.declared.module.ExportKind.TheVariants as kind
use Rattle.wasm_form.specs.declared.types.ValueType.TheVariants as type

abbrev pub ACCESS : MemArg
ACCESS = record { align = 3; offset = 0 }

-- One turn of the loop: the counter goes down, and names a place in the memory. The sum takes the place of what is
-- stored there, a call adds the counter to it, and what was stored is put to that.
abbrev pub turn : List Instr
turn =
    i.LocalGet 0 ∷ i.I64Eqz ∷ i.BrIf 1 ∷
    i.LocalGet 0 ∷ i.I64Const 1 ∷ i.I64Sub ∷ i.LocalTee 0 ∷
    i.I32WrapI64 ∷ i.I32Const 1023 ∷ i.I32And ∷ i.I32Const 3 ∷ i.I32Shl ∷ i.LocalTee 2 ∷ i.I64Load ACCESS ∷
    i.LocalGet 2 ∷ i.LocalGet 1 ∷ i.I64Store ACCESS ∷
    i.LocalGet 1 ∷ i.LocalGet 0 ∷ i.Call 2 ∷ i.I64Xor ∷ i.LocalSet 1 ∷
    i.Br 0 ∷ []

abbrev pub main_body : ℕ → List Instr
main_body turns =
    i.I64Const turns ∷ i.LocalSet 0 ∷ i.Block None (i.Loop None turn ∷ []) ∷ i.LocalGet 1 ∷ i.Call 0 ∷ []

abbrev pub sum_body : List Instr
sum_body = i.LocalGet 0 ∷ i.LocalGet 1 ∷ i.I64Add ∷ []

abbrev pub benchmark : ℕ → Module
benchmark turns = record {
  types = record { parameters = []; result = None } ∷ record { parameters = type.I64 ∷ []; result = None } ∷ record { parameters = type.I64 ∷ type.I64 ∷ []; result = Some type.I64 } ∷ [];
  imports = record { call = host.WriteInt; type_index = 1 } ∷ [];
  functions = 0 ∷ 2 ∷ [];
  tables = [];
  memories = record { min = 1; max = None } ∷ [];
  globals = [];
  exports = record { name = codes "main"; kind = kind.Function; index = 1 } ∷ [];
  elements = [];
  codes = record { locals = record { count = 2; value_type = type.I64 } ∷ record { count = 1; value_type = type.I32 } ∷ []; body = main_body turns } ∷ record { locals = []; body = sum_body } ∷ [];
  segments = [];
}
