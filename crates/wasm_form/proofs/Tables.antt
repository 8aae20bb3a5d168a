-- Values of the operations and outcomes of single steps, each computed by the definitions.
use Rattle.std.proofs.Common.{◌≡◌, ℕ, true, false, Some, None, List, [], ◌∷◌, Ok, Err, replicate, refl}
use Rattle.std.specs.Int.{w8, w16, w32, w64}
use lib.Count.{count_leading_zeros, count_trailing_zeros, ones, ones_in}
use Rattle.wasm_form.specs.declared.instr.Instr.{Instr, roll-Instr, out-Instr}
use Rattle.wasm_form.specs.declared.instr.Instr.TheOpen.{Instr-F}
use Rattle.wasm_form.specs.declared.instr.Instr.TheOpen as F
use Rattle.wasm_form.specs.declared.instr.MemArg.{MemArg}
use Rattle.wasm_form.specs.declared.module.Module.{Module}
use Rattle.wasm_form.specs.declared.module.HostCall.TheVariants.{WriteInt}
use Rattle.wasm_form.specs.declared.types.Value.{Value}
use Rattle.wasm_form.specs.declared.types.Value.TheVariants.{I32, I64}
use Rattle.wasm_form.specs.declared.types.ValueType.TheVariants as type
use Rattle.wasm_form.specs.Integers.{iadd, isub, imul, idiv_s, idiv_u, irem_s, irem_u, ishl, ishr_s, ishr_u, irotl, irotr, iclz, ictz, ipopcnt, ilt_s, ilt_u, ige_s, ige_u, wrap, extend_s}
use Rattle.wasm_form.specs.Steps.{Config, Layer, Frame, Next, Goes, Traps, Stuck, step, act, pop, pop32, pop64, pushed, given, call, call_defined, called, call_indirect, type_of_function, address, stored, memory_size, memory_grow}

-- ---- integers

-- results are modulo the width, and so are distances
pub arithmetic :
    (iadd w32 4294967295 2 ≡ 1) ×
    (isub w64 0 1 ≡ 18446744073709551615) ×
    (imul w32 65536 65537 ≡ 65536) ×
    (ishl w64 1 64 ≡ 1) ×
    (ishl w64 1 65 ≡ 2) ×
    (ishl w32 3 31 ≡ 2147483648) ×
    (ishr_u w32 2147483648 63 ≡ 1) ×
    (ishr_s w32 2147483648 31 ≡ 4294967295) ×
    (ishr_s w64 9223372036854775808 65 ≡ 13835058055282163712)
arithmetic = (refl, refl, refl, refl, refl, refl, refl, refl, refl)

pub divisions :
    (idiv_s w32 4294967289 2 ≡ Ok 4294967293) ×
    (idiv_s w32 7 4294967294 ≡ Ok 4294967293) ×
    (idiv_s w64 9223372036854775808 18446744073709551615 ≡ Err 13) ×
    (idiv_s w64 9223372036854775808 0 ≡ Err 12) ×
    (idiv_u 7 2 ≡ Ok 3) ×
    (idiv_u 7 0 ≡ Err 12) ×
    (irem_s w64 9223372036854775808 18446744073709551615 ≡ Ok 0) ×
    (irem_s w32 4294967289 2 ≡ Ok 4294967295) ×
    (irem_s w32 7 4294967294 ≡ Ok 1) ×
    (irem_s w32 7 0 ≡ Err 12) ×
    (irem_u 7 4 ≡ Ok 3) ×
    (irem_u 7 0 ≡ Err 12)
unfolding idiv_s idiv_u irem_s irem_u
divisions = (refl, refl, refl, refl, refl, refl, refl, refl, refl, refl, refl, refl)

pub order :
    (ilt_s w32 4294967295 0 ≡ true) ×
    (ilt_u 4294967295 0 ≡ false) ×
    (ige_s w64 9223372036854775808 0 ≡ false) ×
    (ige_u 9223372036854775808 0 ≡ true)
order = (refl, refl, refl, refl)

pub conversions :
    (wrap 4294967303 ≡ 7) ×
    (extend_s w32 w64 4294967295 ≡ 18446744073709551615) ×
    (extend_s w8 w32 128 ≡ 4294967168) ×
    (extend_s w16 w64 32767 ≡ 32767)
conversions = (refl, refl, refl, refl)

pub counts :
    (iclz w32 0 ≡ 32) ×
    (iclz w64 1 ≡ 63) ×
    (ictz w64 0 ≡ 64) ×
    (ictz w32 8 ≡ 3) ×
    (ipopcnt 255 ≡ 8)
unfolding count_leading_zeros count_trailing_zeros ones ones_in
counts = (refl, refl, refl, refl, refl)

pub rotations :
    (irotl w32 2147483649 1 ≡ 3) ×
    (irotl w64 1 64 ≡ 1) ×
    (irotr w32 1 1 ≡ 2147483648) ×
    (irotr w64 1 65 ≡ 9223372036854775808)
rotations = (refl, refl, refl, refl)

-- ---- single steps

-- a table and a memory, a global, two types, and a function of the first type after an import of the second
abbrev one : Module
one = record {
  types = record { parameters = []; result = None } ∷ record { parameters = type.I64 ∷ []; result = None } ∷ [];
  imports = record { call = WriteInt; type_index = 1 } ∷ [];
  functions = 0 ∷ [];
  tables = record { min = 3; max = None } ∷ [];
  memories = record { min = 1; max = None } ∷ [];
  globals = record { value_type = type.I64; is_mutable = true; initial = I64 7 } ∷ [];
  exports = [];
  elements = [];
  codes = record { locals = []; body = [] } ∷ [];
  segments = [];
}

abbrev bytes : List ℕ
bytes = 1 ∷ 2 ∷ 3 ∷ 4 ∷ 5 ∷ 6 ∷ 7 ∷ 128 ∷ []

abbrev before : Instr-F Instr → List Value → List Layer → Config
before f vs ls = record { code = roll-Instr f ∷ []; values = vs; layers = ls; locals = []; globals = I64 7 ∷ []; table = Some 1 ∷ Some 0 ∷ None ∷ []; memory = bytes; input = [] }

abbrev after : List Value → List ℕ → Next
after vs memory = Goes (record { code = []; values = vs; layers = []; locals = []; globals = I64 7 ∷ []; table = Some 1 ∷ Some 0 ∷ None ∷ []; memory = memory; input = [] })

abbrev from : ℕ → MemArg
from n = record { align = 0; offset = n }

-- at the last byte, one past it, and with the sign
pub loads :
    (step one (before (F.I64Load (from 0)) (I32 0 ∷ []) []) ≡ after (I64 9225348980303659521 ∷ []) bytes) ×
    (step one (before (F.I64Load (from 1)) (I32 0 ∷ []) []) ≡ Traps 11 0) ×
    (step one (before (F.I64Load (from 0)) (I32 4294967295 ∷ []) []) ≡ Traps 11 0) ×
    (step one (before (F.I32Load8S (from 7)) (I32 0 ∷ []) []) ≡ after (I32 4294967168 ∷ []) bytes) ×
    (step one (before (F.I32Load8U (from 3)) (I32 4 ∷ []) []) ≡ after (I32 128 ∷ []) bytes) ×
    (step one (before (F.I64Load16S (from 6)) (I32 0 ∷ []) []) ≡ after (I64 18446744073709518855 ∷ []) bytes) ×
    (step one (before (F.I32Load16U (from 7)) (I32 0 ∷ []) []) ≡ Traps 11 0)
unfolding step act address pop32 pop given roll-Instr out-Instr denote.Hole.Carrier.roll denote.Hole.Carrier.out
loads = (refl, refl, refl, refl, refl, refl, refl)

-- operands come before the end of memory
pub stores :
    (step one (before (F.I32Store8 (from 7)) (I32 258 ∷ I32 0 ∷ []) []) ≡ after [] (1 ∷ 2 ∷ 3 ∷ 4 ∷ 5 ∷ 6 ∷ 7 ∷ 2 ∷ [])) ×
    (step one (before (F.I64Store16 (from 0)) (I64 65537 ∷ I32 0 ∷ []) []) ≡ after [] (1 ∷ 0 ∷ 3 ∷ 4 ∷ 5 ∷ 6 ∷ 7 ∷ 128 ∷ [])) ×
    (step one (before (F.I64Store (from 1)) (I64 0 ∷ I32 0 ∷ []) []) ≡ Traps 11 0) ×
    (step one (before (F.I64Store (from 1)) (I32 0 ∷ I32 0 ∷ []) []) ≡ Stuck) ×
    (step one (before F.MemorySize [] []) ≡ after (I32 1 ∷ []) bytes) ×
    (step one (before F.MemoryGrow (I32 0 ∷ []) []) ≡ after (I32 1 ∷ []) bytes) ×
    (step one (before F.MemoryGrow (I32 1 ∷ []) []) ≡ after (I32 4294967295 ∷ []) bytes)
unfolding step act address stored pop32 pop64 pop pushed given memory_size memory_grow roll-Instr out-Instr denote.Hole.Carrier.roll denote.Hole.Carrier.out
stores = (refl, refl, refl, refl, refl, refl, refl)

abbrev frame : Layer
frame = Frame [] None [] []

abbrev entered_over : List Layer → Next
entered_over ls = Goes (record { code = []; values = []; layers = frame ∷ ls; locals = []; globals = I64 7 ∷ []; table = Some 1 ∷ Some 0 ∷ None ∷ []; memory = bytes; input = [] })

-- past the table, an empty element, another type, a call, no operand, and a type that is not there
pub calls :
    (step one (before (F.CallIndirect 0) (I32 3 ∷ []) []) ≡ Traps 14 0) ×
    (step one (before (F.CallIndirect 0) (I32 2 ∷ []) []) ≡ Traps 15 0) ×
    (step one (before (F.CallIndirect 0) (I32 1 ∷ []) []) ≡ Traps 16 0) ×
    (step one (before (F.CallIndirect 0) (I32 0 ∷ []) []) ≡ entered_over []) ×
    (step one (before (F.CallIndirect 0) [] []) ≡ Stuck) ×
    (step one (before (F.CallIndirect 2) (I32 3 ∷ []) []) ≡ Stuck)
unfolding step act call_indirect call call_defined called type_of_function pop32 pop roll-Instr out-Instr denote.Hole.Carrier.roll denote.Hole.Carrier.out
calls = (refl, refl, refl, refl, refl, refl)

-- the 1,001st frame and the 1,002nd
pub most_frames :
    (step one (before (F.Call 1) [] (replicate 1000 frame)) ≡ entered_over (replicate 1000 frame)) ×
    (step one (before (F.Call 1) [] (replicate 1001 frame)) ≡ Traps 3 0)
unfolding step act call call_defined called roll-Instr out-Instr denote.Hole.Carrier.roll denote.Hole.Carrier.out
most_frames = (refl, refl)
