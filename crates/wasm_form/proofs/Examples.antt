-- Runs of small modules, each computed by the definition.
use Rattle.std.proofs.Common.{◌≡◌, ℕ, true, Some, None, List, [], ◌∷◌, map, refl, codes}
use Rattle.std.specs.Prelude.{negsuc}
use Rattle.std.specs.Fmt.{digits}
use Rattle.wasm_form.specs.declared.instr.Instr.{Instr, roll-Instr, out-Instr}
use Rattle.wasm_form.specs.declared.instr.Instr.TheOpen.{Instr-F}
use Rattle.wasm_form.specs.declared.instr.Instr.TheOpen as F
use Rattle.wasm_form.specs.declared.instr.MemArg.{MemArg}
use Rattle.wasm_form.specs.declared.module.Module.{Module}
use Rattle.wasm_form.specs.declared.module.HostCall.TheVariants.{WriteInt, WriteBool, WriteText, WriteByte, ReadInt, Trap}
use Rattle.wasm_form.specs.declared.module.ExportKind.TheVariants as kind
use Rattle.wasm_form.specs.declared.types.ValueType.TheVariants as type
use Rattle.wasm_form.specs.declared.types.Value.TheVariants.{I64}
use Rattle.wasm_form.specs.Steps.{Config, Outcome, Goes, Traps, operands, with_code, with_values, machine_run, started, step, act, leave, branch, pop, pop32, pop64, two32, two64, pushed, given, local_get, local_set, local_tee, global_get, global_set, memory_size, call, call_defined, called, call_indirect, type_of_function, host, address, stored, memory_grow, select, Ended, Trapped, Running}
use Rattle.wasm_form.proofs.Outs.{out_roll}
use Rattle.wasm_form.specs.Integers.{idiv_s, idiv_u, irem_s, irem_u}

abbrev spell : List (Instr-F Instr) → List Instr
spell fs = map roll-Instr fs

-- main with a local i64 and this code; the six imports are the functions from 0 to 5, and main is the seventh
abbrev program : List (Instr-F Instr) → Module
program fs = record {
  types = record { parameters = []; result = None } ∷ record { parameters = type.I64 ∷ []; result = None } ∷ record { parameters = type.I32 ∷ []; result = None } ∷ record { parameters = type.I32 ∷ type.I32 ∷ []; result = None } ∷ record { parameters = []; result = Some type.I64 } ∷ [];
  imports = record { call = WriteInt; type_index = 1 } ∷ record { call = WriteBool; type_index = 2 } ∷ record { call = WriteText; type_index = 3 } ∷ record { call = WriteByte; type_index = 2 } ∷ record { call = ReadInt; type_index = 4 } ∷ record { call = Trap; type_index = 3 } ∷ [];
  functions = 0 ∷ [];
  tables = [];
  memories = [];
  globals = [];
  exports = record { name = codes "main"; kind = kind.Function; index = 6 } ∷ [];
  elements = [];
  codes = record { locals = record { count = 1; value_type = type.I64 } ∷ []; body = spell fs } ∷ [];
  segments = [];
}

-- a constant, a call of an import, and the end of main are a step each
pub counts_steps :
    (machine_run (program (F.I64Const 5 ∷ F.Call 0 ∷ [])) [] 3 ≡ (codes "5", Ended 3)) ×
    (machine_run (program (F.I64Const 5 ∷ F.Call 0 ∷ [])) [] 2 ≡ (codes "5", Running)) ×
    (machine_run (program (F.I64Const 5 ∷ F.Call 0 ∷ [])) [] 1 ≡ ([], Running)) ×
    (machine_run (program ([])) [] 1 ≡ ([], Ended 1))
unfolding machine_run started step act leave branch pop pop32 pop64 two32 two64 pushed given local_get local_set local_tee global_get global_set call call_defined called call_indirect type_of_function host address stored memory_size memory_grow select idiv_s idiv_u irem_s irem_u digits roll-Instr out-Instr denote.Hole.Carrier.roll denote.Hole.Carrier.out denote.Hole.Carrier.shown denote.Hole.Carrier.hidden Rattle.wasm_form.specs.declared.instr.Instr.TheBlock.shown-the_row-Instr-0
counts_steps = (refl, refl, refl, refl)

-- what the imports write and read
pub writes :
    (machine_run (program (F.I64Const 18446744073709551615 ∷ F.Call 0 ∷ [])) [] 9 ≡ (codes "-1", Ended 3)) ×
    (machine_run (program (F.I32Const 0 ∷ F.Call 1 ∷ F.I32Const 7 ∷ F.Call 1 ∷ [])) [] 9 ≡ (codes "falsetrue", Ended 5)) ×
    (machine_run (program (F.I32Const 321 ∷ F.Call 3 ∷ [])) [] 9 ≡ (65 ∷ [], Ended 3)) ×
    (machine_run (program (F.Call 4 ∷ F.Call 0 ∷ F.Call 4 ∷ F.Call 0 ∷ [])) (negsuc 6 ∷ []) 9 ≡ (codes "-70", Ended 5)) ×
    (machine_run (program (F.I32Const 5 ∷ F.I32Const 9 ∷ F.Call 5 ∷ [])) [] 9 ≡ ([], Trapped 5 9)) ×
    (machine_run (program (F.I32Const 18 ∷ F.I32Const 0 ∷ F.Call 5 ∷ [])) [] 9 ≡ ([], Trapped 18 0)) ×
    (machine_run (program (F.I32Const 0 ∷ F.I32Const 0 ∷ F.Call 2 ∷ [])) [] 9 ≡ ([], Ended 4)) ×
    (machine_run (program (F.I32Const 0 ∷ F.I32Const 1 ∷ F.Call 2 ∷ [])) [] 9 ≡ ([], Trapped 11 0))
unfolding machine_run started step act leave branch pop pop32 pop64 two32 two64 pushed given local_get local_set local_tee global_get global_set call call_defined called call_indirect type_of_function host address stored memory_size memory_grow select idiv_s idiv_u irem_s irem_u digits roll-Instr out-Instr denote.Hole.Carrier.roll denote.Hole.Carrier.out denote.Hole.Carrier.shown denote.Hole.Carrier.hidden Rattle.wasm_form.specs.declared.instr.Instr.TheBlock.shown-the_row-Instr-0
writes = (refl, refl, refl, refl, refl, refl, refl, refl)

-- a block, a loop and an if are entered and left in a step each; a br to a loop gives the loop again
pub branches :
    (machine_run (program (F.Block None [] ∷ [])) [] 9 ≡ ([], Ended 3)) ×
    (machine_run (program (F.Block None (spell (F.Br 0 ∷ F.Unreachable ∷ [])) ∷ [])) [] 9 ≡ ([], Ended 3)) ×
    (machine_run (program (F.Block (Some type.I64) (spell (F.I64Const 1 ∷ F.I64Const 2 ∷ F.Br 0 ∷ [])) ∷ F.Call 0 ∷ [])) [] 9 ≡ (codes "2", Ended 6)) ×
    (machine_run (program (F.Block None (spell (F.I64Const 1 ∷ F.I64Const 2 ∷ [])) ∷ F.Call 0 ∷ F.Call 0 ∷ [])) [] 9 ≡ (codes "21", Ended 7)) ×
    (machine_run (program (F.Loop None (spell (F.Br 0 ∷ [])) ∷ [])) [] 100 ≡ ([], Running)) ×
    (machine_run (program (F.Loop None (spell (F.LocalGet 0 ∷ F.I64Eqz ∷ F.LocalGet 0 ∷ F.Drop ∷ F.I64Const 1 ∷ F.LocalSet 0 ∷ F.BrIf 0 ∷ [])) ∷ [])) [] 100 ≡ ([], Ended 18)) ×
    (machine_run (program (F.I32Const 3 ∷ F.If None (spell (F.Br 1 ∷ F.Unreachable ∷ [])) [] ∷ F.Unreachable ∷ [])) [] 9 ≡ ([], Ended 3)) ×
    (machine_run (program (F.I32Const 0 ∷ F.If None (spell (F.Unreachable ∷ [])) [] ∷ [])) [] 9 ≡ ([], Ended 4)) ×
    (machine_run (program (F.Block None (spell (F.I32Const 7 ∷ F.BrTable (9 ∷ []) 0 ∷ [])) ∷ [])) [] 9 ≡ ([], Ended 4)) ×
    (machine_run (program (F.Block None (spell (F.I32Const 0 ∷ F.BrTable (2 ∷ []) 0 ∷ [])) ∷ [])) [] 9 ≡ ([], Trapped 18 0)) ×
    (machine_run (program (F.I64Const 1 ∷ F.Return ∷ [])) [] 9 ≡ ([], Ended 2)) ×
    (machine_run (program (F.I64Const 1 ∷ [])) [] 9 ≡ ([], Trapped 18 0)) ×
    (machine_run (program (F.I64Const 1 ∷ F.Block None (spell (F.Drop ∷ [])) ∷ [])) [] 9 ≡ ([], Trapped 18 0))
unfolding machine_run started step act leave branch pop pop32 pop64 two32 two64 pushed given local_get local_set local_tee global_get global_set call call_defined called call_indirect type_of_function host address stored memory_size memory_grow select idiv_s idiv_u irem_s irem_u digits roll-Instr out-Instr denote.Hole.Carrier.roll denote.Hole.Carrier.out denote.Hole.Carrier.shown denote.Hole.Carrier.hidden Rattle.wasm_form.specs.declared.instr.Instr.TheBlock.shown-the_row-Instr-0 Rattle.wasm_form.specs.declared.instr.Instr.TheBlock.shown-the_row-Instr-If-1-1-1
branches = (refl, refl, refl, refl, refl, refl, refl, refl, refl, refl, refl, refl, refl)

-- a br to an if, to an outer block, to the function, and past it; a value handed on by an if; what a br_table chooses
pub labels :
    (machine_run (program (F.I32Const 1 ∷ F.If None (spell (F.Br 0 ∷ F.Unreachable ∷ [])) [] ∷ [])) [] 9 ≡ ([], Ended 4)) ×
    (machine_run (program (F.Block None (spell (F.Block None (spell (F.Br 1 ∷ [])) ∷ F.Unreachable ∷ [])) ∷ [])) [] 9 ≡ ([], Ended 4)) ×
    (machine_run (program (F.Br 0 ∷ F.Unreachable ∷ [])) [] 9 ≡ ([], Ended 1)) ×
    (machine_run (program (F.Br 1 ∷ [])) [] 9 ≡ ([], Trapped 18 0)) ×
    (machine_run (program (F.Block None (spell (F.Br 2 ∷ [])) ∷ [])) [] 9 ≡ ([], Trapped 18 0)) ×
    (machine_run (program (F.I32Const 0 ∷ F.If (Some type.I64) (spell (F.I64Const 1 ∷ [])) (spell (F.I64Const 2 ∷ F.I64Const 3 ∷ F.Br 0 ∷ [])) ∷ F.Call 0 ∷ [])) [] 9 ≡ (codes "3", Ended 7)) ×
    (machine_run (program (F.Block None (spell (F.Block None (spell (F.I32Const 1 ∷ F.BrTable (0 ∷ 1 ∷ []) 0 ∷ [])) ∷ F.Unreachable ∷ [])) ∷ [])) [] 9 ≡ ([], Ended 5)) ×
    (machine_run (program (F.Block None (spell (F.Block None (spell (F.I32Const 0 ∷ F.BrTable (0 ∷ 1 ∷ []) 1 ∷ [])) ∷ F.Unreachable ∷ [])) ∷ [])) [] 9 ≡ ([], Trapped 10 0))
unfolding machine_run started step act leave branch pop pop32 pop64 two32 two64 pushed given local_get local_set local_tee global_get global_set call call_defined called call_indirect type_of_function host address stored memory_size memory_grow select idiv_s idiv_u irem_s irem_u digits roll-Instr out-Instr denote.Hole.Carrier.roll denote.Hole.Carrier.out denote.Hole.Carrier.shown denote.Hole.Carrier.hidden Rattle.wasm_form.specs.declared.instr.Instr.TheBlock.shown-the_row-Instr-0 Rattle.wasm_form.specs.declared.instr.Instr.TheBlock.shown-the_row-Instr-If-1-1-1
labels = (refl, refl, refl, refl, refl, refl, refl, refl)

-- an empty main with no step, with its one, and with more
pub ends :
    (machine_run (program []) [] 0 ≡ ([], Running)) ×
    (machine_run (program []) [] 1 ≡ ([], Ended 1)) ×
    (machine_run (program []) [] 2 ≡ ([], Ended 1))
unfolding machine_run started step act leave branch pop pop32 pop64 two32 two64 pushed given local_get local_set local_tee global_get global_set call call_defined called call_indirect type_of_function host address stored memory_size memory_grow select idiv_s idiv_u irem_s irem_u digits roll-Instr out-Instr denote.Hole.Carrier.roll denote.Hole.Carrier.out denote.Hole.Carrier.shown denote.Hole.Carrier.hidden Rattle.wasm_form.specs.declared.instr.Instr.TheBlock.shown-the_row-Instr-0
ends = (refl, refl, refl)

-- the traps of arithmetic and of what is not there
pub traps :
    (machine_run (program (F.Unreachable ∷ [])) [] 9 ≡ ([], Trapped 10 0)) ×
    (machine_run (program (F.I64Const 1 ∷ F.I64Const 0 ∷ F.I64DivS ∷ [])) [] 9 ≡ ([], Trapped 12 0)) ×
    (machine_run (program (F.I64Const 9223372036854775808 ∷ F.I64Const 18446744073709551615 ∷ F.I64DivS ∷ [])) [] 9 ≡ ([], Trapped 13 0)) ×
    (machine_run (program (F.I64Const 9223372036854775808 ∷ F.I64Const 18446744073709551615 ∷ F.I64RemS ∷ F.Call 0 ∷ [])) [] 9 ≡ (codes "0", Ended 5)) ×
    (machine_run (program (F.I64Const 18446744073709551609 ∷ F.I64Const 2 ∷ F.I64DivS ∷ F.Call 0 ∷ [])) [] 9 ≡ (codes "-3", Ended 5)) ×
    (machine_run (program (F.MemorySize ∷ [])) [] 9 ≡ ([], Trapped 18 0)) ×
    (machine_run (program (F.I32Const 0 ∷ F.CallIndirect 0 ∷ [])) [] 9 ≡ ([], Trapped 18 0)) ×
    (machine_run (program (F.Call 7 ∷ [])) [] 9 ≡ ([], Trapped 18 0)) ×
    (machine_run (program (F.I32Const 0 ∷ F.Call 0 ∷ [])) [] 9 ≡ ([], Trapped 18 0)) ×
    (machine_run (program (F.I64Const 1 ∷ F.I32Const 1 ∷ F.I32Const 1 ∷ F.Select ∷ [])) [] 9 ≡ ([], Trapped 18 0))
unfolding machine_run started step act leave branch pop pop32 pop64 two32 two64 pushed given local_get local_set local_tee global_get global_set call call_defined called call_indirect type_of_function host address stored memory_size memory_grow select idiv_s idiv_u irem_s irem_u digits roll-Instr out-Instr denote.Hole.Carrier.roll denote.Hole.Carrier.out denote.Hole.Carrier.shown denote.Hole.Carrier.hidden Rattle.wasm_form.specs.declared.instr.Instr.TheBlock.shown-the_row-Instr-0
traps = (refl, refl, refl, refl, refl, refl, refl, refl, refl, refl)

-- ---- each instruction of numbers, on operands given by their bits; what it makes is written

abbrev unary32 : Instr-F Instr → ℕ → List ℕ × Outcome
unary32 op a = machine_run (program (F.I32Const a ∷ op ∷ F.I64ExtendI32U ∷ F.Call 0 ∷ [])) [] 9

abbrev unary64 : Instr-F Instr → ℕ → List ℕ × Outcome
unary64 op a = machine_run (program (F.I64Const a ∷ op ∷ F.Call 0 ∷ [])) [] 9

abbrev binary32 : Instr-F Instr → ℕ → ℕ → List ℕ × Outcome
binary32 op a b = machine_run (program (F.I32Const a ∷ F.I32Const b ∷ op ∷ F.I64ExtendI32U ∷ F.Call 0 ∷ [])) [] 9

abbrev binary64 : Instr-F Instr → ℕ → ℕ → List ℕ × Outcome
binary64 op a b = machine_run (program (F.I64Const a ∷ F.I64Const b ∷ op ∷ F.Call 0 ∷ [])) [] 9

abbrev test32 : Instr-F Instr → ℕ → ℕ → List ℕ × Outcome
test32 op a b = machine_run (program (F.I32Const a ∷ F.I32Const b ∷ op ∷ F.Call 1 ∷ [])) [] 9

abbrev test64 : Instr-F Instr → ℕ → ℕ → List ℕ × Outcome
test64 op a b = machine_run (program (F.I64Const a ∷ F.I64Const b ∷ op ∷ F.Call 1 ∷ [])) [] 9

-- leading and trailing zeros, of 0 too, and ones, in 32 bits
pub counts32 :
    (unary32 F.I32Clz 0 ≡ (codes "32", Ended 5)) ×
    (unary32 F.I32Clz 1 ≡ (codes "31", Ended 5)) ×
    (unary32 F.I32Clz 2147483648 ≡ (codes "0", Ended 5)) ×
    (unary32 F.I32Ctz 0 ≡ (codes "32", Ended 5)) ×
    (unary32 F.I32Ctz 2147483648 ≡ (codes "31", Ended 5)) ×
    (unary32 F.I32Popcnt 0 ≡ (codes "0", Ended 5)) ×
    (unary32 F.I32Popcnt 13 ≡ (codes "3", Ended 5))
unfolding machine_run started step act leave branch pop pop32 pop64 two32 two64 pushed given local_get local_set local_tee global_get global_set call call_defined called call_indirect type_of_function host address stored memory_size memory_grow select idiv_s idiv_u irem_s irem_u digits roll-Instr out-Instr denote.Hole.Carrier.roll denote.Hole.Carrier.out denote.Hole.Carrier.shown denote.Hole.Carrier.hidden Rattle.wasm_form.specs.declared.instr.Instr.TheBlock.shown-the_row-Instr-0 lib.Count.count_leading_zeros lib.Count.count_trailing_zeros lib.Count.ones
counts32 = (refl, refl, refl, refl, refl, refl, refl)

-- sums, differences and products wrap, in 32 bits
pub wraps32 :
    (binary32 F.I32Add 4294967295 2 ≡ (codes "1", Ended 6)) ×
    (binary32 F.I32Sub 0 1 ≡ (codes "4294967295", Ended 6)) ×
    (binary32 F.I32Mul 2147483649 2 ≡ (codes "2", Ended 6)) ×
    (binary32 F.I32Mul 4294967295 4294967295 ≡ (codes "1", Ended 6))
unfolding machine_run started step act leave branch pop pop32 pop64 two32 two64 pushed given local_get local_set local_tee global_get global_set call call_defined called call_indirect type_of_function host address stored memory_size memory_grow select idiv_s idiv_u irem_s irem_u digits roll-Instr out-Instr denote.Hole.Carrier.roll denote.Hole.Carrier.out denote.Hole.Carrier.shown denote.Hole.Carrier.hidden Rattle.wasm_form.specs.declared.instr.Instr.TheBlock.shown-the_row-Instr-0
wraps32 = (refl, refl, refl, refl)

-- rounded toward zero; of the least number by -1 the remainder is 0; in 32 bits
pub divisions32 :
    (binary32 F.I32DivS 4294967289 2 ≡ (codes "4294967293", Ended 6)) ×
    (binary32 F.I32DivU 4294967295 2 ≡ (codes "2147483647", Ended 6)) ×
    (binary32 F.I32RemS 4294967289 2 ≡ (codes "4294967295", Ended 6)) ×
    (binary32 F.I32RemS 7 4294967294 ≡ (codes "1", Ended 6)) ×
    (binary32 F.I32RemS 2147483648 4294967295 ≡ (codes "0", Ended 6)) ×
    (binary32 F.I32RemU 4294967295 10 ≡ (codes "5", Ended 6)) ×
    (binary32 F.I32DivS 1 0 ≡ ([], Trapped 12 0)) ×
    (binary32 F.I32DivU 1 0 ≡ ([], Trapped 12 0)) ×
    (binary32 F.I32RemS 1 0 ≡ ([], Trapped 12 0)) ×
    (binary32 F.I32RemU 1 0 ≡ ([], Trapped 12 0)) ×
    (binary32 F.I32DivS 2147483648 4294967295 ≡ ([], Trapped 13 0))
unfolding machine_run started step act leave branch pop pop32 pop64 two32 two64 pushed given local_get local_set local_tee global_get global_set call call_defined called call_indirect type_of_function host address stored memory_size memory_grow select idiv_s idiv_u irem_s irem_u digits roll-Instr out-Instr denote.Hole.Carrier.roll denote.Hole.Carrier.out denote.Hole.Carrier.shown denote.Hole.Carrier.hidden Rattle.wasm_form.specs.declared.instr.Instr.TheBlock.shown-the_row-Instr-0
divisions32 = (refl, refl, refl, refl, refl, refl, refl, refl, refl, refl, refl)

-- bit by bit, and shifts by the width and more, in 32 bits
pub bits32 :
    (binary32 F.I32And 12 10 ≡ (codes "8", Ended 6)) ×
    (binary32 F.I32Or 12 10 ≡ (codes "14", Ended 6)) ×
    (binary32 F.I32Xor 12 10 ≡ (codes "6", Ended 6)) ×
    (binary32 F.I32Shl 1 32 ≡ (codes "1", Ended 6)) ×
    (binary32 F.I32Shl 3 31 ≡ (codes "2147483648", Ended 6)) ×
    (binary32 F.I32ShrS 2147483648 33 ≡ (codes "3221225472", Ended 6)) ×
    (binary32 F.I32ShrS 4294967295 31 ≡ (codes "4294967295", Ended 6)) ×
    (binary32 F.I32ShrU 2147483648 31 ≡ (codes "1", Ended 6)) ×
    (binary32 F.I32ShrU 2147483648 32 ≡ (codes "2147483648", Ended 6)) ×
    (binary32 F.I32Rotl 2147483649 1 ≡ (codes "3", Ended 6)) ×
    (binary32 F.I32Rotr 1 1 ≡ (codes "2147483648", Ended 6)) ×
    (binary32 F.I32Rotl 5 33 ≡ (codes "10", Ended 6))
unfolding machine_run started step act leave branch pop pop32 pop64 two32 two64 pushed given local_get local_set local_tee global_get global_set call call_defined called call_indirect type_of_function host address stored memory_size memory_grow select idiv_s idiv_u irem_s irem_u digits roll-Instr out-Instr denote.Hole.Carrier.roll denote.Hole.Carrier.out denote.Hole.Carrier.shown denote.Hole.Carrier.hidden Rattle.wasm_form.specs.declared.instr.Instr.TheBlock.shown-the_row-Instr-0
bits32 = (refl, refl, refl, refl, refl, refl, refl, refl, refl, refl, refl, refl)

-- -1 and 1, signed and unsigned, and equal numbers, in 32 bits
pub tests32 :
    (test32 F.I32Eq 4294967295 1 ≡ (codes "false", Ended 5)) ×
    (test32 F.I32Eq 1 1 ≡ (codes "true", Ended 5)) ×
    (test32 F.I32Ne 4294967295 1 ≡ (codes "true", Ended 5)) ×
    (test32 F.I32Ne 1 1 ≡ (codes "false", Ended 5)) ×
    (test32 F.I32LtS 4294967295 1 ≡ (codes "true", Ended 5)) ×
    (test32 F.I32LtS 1 1 ≡ (codes "false", Ended 5)) ×
    (test32 F.I32LtU 4294967295 1 ≡ (codes "false", Ended 5)) ×
    (test32 F.I32LtU 1 1 ≡ (codes "false", Ended 5)) ×
    (test32 F.I32GtS 4294967295 1 ≡ (codes "false", Ended 5)) ×
    (test32 F.I32GtS 1 1 ≡ (codes "false", Ended 5)) ×
    (test32 F.I32GtU 4294967295 1 ≡ (codes "true", Ended 5)) ×
    (test32 F.I32GtU 1 1 ≡ (codes "false", Ended 5)) ×
    (test32 F.I32LeS 4294967295 1 ≡ (codes "true", Ended 5)) ×
    (test32 F.I32LeS 1 1 ≡ (codes "true", Ended 5)) ×
    (test32 F.I32LeU 4294967295 1 ≡ (codes "false", Ended 5)) ×
    (test32 F.I32LeU 1 1 ≡ (codes "true", Ended 5)) ×
    (test32 F.I32GeS 4294967295 1 ≡ (codes "false", Ended 5)) ×
    (test32 F.I32GeS 1 1 ≡ (codes "true", Ended 5)) ×
    (test32 F.I32GeU 4294967295 1 ≡ (codes "true", Ended 5)) ×
    (test32 F.I32GeU 1 1 ≡ (codes "true", Ended 5))
unfolding machine_run started step act leave branch pop pop32 pop64 two32 two64 pushed given local_get local_set local_tee global_get global_set call call_defined called call_indirect type_of_function host address stored memory_size memory_grow select idiv_s idiv_u irem_s irem_u digits roll-Instr out-Instr denote.Hole.Carrier.roll denote.Hole.Carrier.out denote.Hole.Carrier.shown denote.Hole.Carrier.hidden Rattle.wasm_form.specs.declared.instr.Instr.TheBlock.shown-the_row-Instr-0
tests32 = (refl, refl, refl, refl, refl, refl, refl, refl, refl, refl, refl, refl, refl, refl, refl, refl, refl, refl, refl, refl)

-- leading and trailing zeros, of 0 too, and ones, in 64 bits
pub counts64 :
    (unary64 F.I64Clz 0 ≡ (codes "64", Ended 4)) ×
    (unary64 F.I64Clz 1 ≡ (codes "63", Ended 4)) ×
    (unary64 F.I64Clz 9223372036854775808 ≡ (codes "0", Ended 4)) ×
    (unary64 F.I64Ctz 0 ≡ (codes "64", Ended 4)) ×
    (unary64 F.I64Ctz 9223372036854775808 ≡ (codes "63", Ended 4)) ×
    (unary64 F.I64Popcnt 0 ≡ (codes "0", Ended 4)) ×
    (unary64 F.I64Popcnt 13 ≡ (codes "3", Ended 4))
unfolding machine_run started step act leave branch pop pop32 pop64 two32 two64 pushed given local_get local_set local_tee global_get global_set call call_defined called call_indirect type_of_function host address stored memory_size memory_grow select idiv_s idiv_u irem_s irem_u digits roll-Instr out-Instr denote.Hole.Carrier.roll denote.Hole.Carrier.out denote.Hole.Carrier.shown denote.Hole.Carrier.hidden Rattle.wasm_form.specs.declared.instr.Instr.TheBlock.shown-the_row-Instr-0 lib.Count.count_leading_zeros lib.Count.count_trailing_zeros lib.Count.ones
counts64 = (refl, refl, refl, refl, refl, refl, refl)

-- sums, differences and products wrap, in 64 bits
pub wraps64 :
    (binary64 F.I64Add 18446744073709551615 2 ≡ (codes "1", Ended 5)) ×
    (binary64 F.I64Sub 0 1 ≡ (codes "-1", Ended 5)) ×
    (binary64 F.I64Mul 9223372036854775809 2 ≡ (codes "2", Ended 5)) ×
    (binary64 F.I64Mul 18446744073709551615 18446744073709551615 ≡ (codes "1", Ended 5))
unfolding machine_run started step act leave branch pop pop32 pop64 two32 two64 pushed given local_get local_set local_tee global_get global_set call call_defined called call_indirect type_of_function host address stored memory_size memory_grow select idiv_s idiv_u irem_s irem_u digits roll-Instr out-Instr denote.Hole.Carrier.roll denote.Hole.Carrier.out denote.Hole.Carrier.shown denote.Hole.Carrier.hidden Rattle.wasm_form.specs.declared.instr.Instr.TheBlock.shown-the_row-Instr-0
wraps64 = (refl, refl, refl, refl)

-- rounded toward zero; of the least number by -1 the remainder is 0; in 64 bits
pub divisions64 :
    (binary64 F.I64DivS 18446744073709551609 2 ≡ (codes "-3", Ended 5)) ×
    (binary64 F.I64DivU 18446744073709551615 2 ≡ (codes "9223372036854775807", Ended 5)) ×
    (binary64 F.I64RemS 18446744073709551609 2 ≡ (codes "-1", Ended 5)) ×
    (binary64 F.I64RemS 7 18446744073709551614 ≡ (codes "1", Ended 5)) ×
    (binary64 F.I64RemS 9223372036854775808 18446744073709551615 ≡ (codes "0", Ended 5)) ×
    (binary64 F.I64RemU 18446744073709551615 10 ≡ (codes "5", Ended 5)) ×
    (binary64 F.I64DivS 1 0 ≡ ([], Trapped 12 0)) ×
    (binary64 F.I64DivU 1 0 ≡ ([], Trapped 12 0)) ×
    (binary64 F.I64RemS 1 0 ≡ ([], Trapped 12 0)) ×
    (binary64 F.I64RemU 1 0 ≡ ([], Trapped 12 0)) ×
    (binary64 F.I64DivS 9223372036854775808 18446744073709551615 ≡ ([], Trapped 13 0))
unfolding machine_run started step act leave branch pop pop32 pop64 two32 two64 pushed given local_get local_set local_tee global_get global_set call call_defined called call_indirect type_of_function host address stored memory_size memory_grow select idiv_s idiv_u irem_s irem_u digits roll-Instr out-Instr denote.Hole.Carrier.roll denote.Hole.Carrier.out denote.Hole.Carrier.shown denote.Hole.Carrier.hidden Rattle.wasm_form.specs.declared.instr.Instr.TheBlock.shown-the_row-Instr-0
divisions64 = (refl, refl, refl, refl, refl, refl, refl, refl, refl, refl, refl)

-- bit by bit, and shifts by the width and more, in 64 bits
pub bits64 :
    (binary64 F.I64And 12 10 ≡ (codes "8", Ended 5)) ×
    (binary64 F.I64Or 12 10 ≡ (codes "14", Ended 5)) ×
    (binary64 F.I64Xor 12 10 ≡ (codes "6", Ended 5)) ×
    (binary64 F.I64Shl 1 64 ≡ (codes "1", Ended 5)) ×
    (binary64 F.I64Shl 3 63 ≡ (codes "-9223372036854775808", Ended 5)) ×
    (binary64 F.I64ShrS 9223372036854775808 65 ≡ (codes "-4611686018427387904", Ended 5)) ×
    (binary64 F.I64ShrS 18446744073709551615 63 ≡ (codes "-1", Ended 5)) ×
    (binary64 F.I64ShrU 9223372036854775808 63 ≡ (codes "1", Ended 5)) ×
    (binary64 F.I64ShrU 9223372036854775808 64 ≡ (codes "-9223372036854775808", Ended 5)) ×
    (binary64 F.I64Rotl 9223372036854775809 1 ≡ (codes "3", Ended 5)) ×
    (binary64 F.I64Rotr 1 1 ≡ (codes "-9223372036854775808", Ended 5)) ×
    (binary64 F.I64Rotl 5 65 ≡ (codes "10", Ended 5))
unfolding machine_run started step act leave branch pop pop32 pop64 two32 two64 pushed given local_get local_set local_tee global_get global_set call call_defined called call_indirect type_of_function host address stored memory_size memory_grow select idiv_s idiv_u irem_s irem_u digits roll-Instr out-Instr denote.Hole.Carrier.roll denote.Hole.Carrier.out denote.Hole.Carrier.shown denote.Hole.Carrier.hidden Rattle.wasm_form.specs.declared.instr.Instr.TheBlock.shown-the_row-Instr-0
bits64 = (refl, refl, refl, refl, refl, refl, refl, refl, refl, refl, refl, refl)

-- -1 and 1, signed and unsigned, and equal numbers, in 64 bits
pub tests64 :
    (test64 F.I64Eq 18446744073709551615 1 ≡ (codes "false", Ended 5)) ×
    (test64 F.I64Eq 1 1 ≡ (codes "true", Ended 5)) ×
    (test64 F.I64Ne 18446744073709551615 1 ≡ (codes "true", Ended 5)) ×
    (test64 F.I64Ne 1 1 ≡ (codes "false", Ended 5)) ×
    (test64 F.I64LtS 18446744073709551615 1 ≡ (codes "true", Ended 5)) ×
    (test64 F.I64LtS 1 1 ≡ (codes "false", Ended 5)) ×
    (test64 F.I64LtU 18446744073709551615 1 ≡ (codes "false", Ended 5)) ×
    (test64 F.I64LtU 1 1 ≡ (codes "false", Ended 5)) ×
    (test64 F.I64GtS 18446744073709551615 1 ≡ (codes "false", Ended 5)) ×
    (test64 F.I64GtS 1 1 ≡ (codes "false", Ended 5)) ×
    (test64 F.I64GtU 18446744073709551615 1 ≡ (codes "true", Ended 5)) ×
    (test64 F.I64GtU 1 1 ≡ (codes "false", Ended 5)) ×
    (test64 F.I64LeS 18446744073709551615 1 ≡ (codes "true", Ended 5)) ×
    (test64 F.I64LeS 1 1 ≡ (codes "true", Ended 5)) ×
    (test64 F.I64LeU 18446744073709551615 1 ≡ (codes "false", Ended 5)) ×
    (test64 F.I64LeU 1 1 ≡ (codes "true", Ended 5)) ×
    (test64 F.I64GeS 18446744073709551615 1 ≡ (codes "false", Ended 5)) ×
    (test64 F.I64GeS 1 1 ≡ (codes "true", Ended 5)) ×
    (test64 F.I64GeU 18446744073709551615 1 ≡ (codes "true", Ended 5)) ×
    (test64 F.I64GeU 1 1 ≡ (codes "true", Ended 5))
unfolding machine_run started step act leave branch pop pop32 pop64 two32 two64 pushed given local_get local_set local_tee global_get global_set call call_defined called call_indirect type_of_function host address stored memory_size memory_grow select idiv_s idiv_u irem_s irem_u digits roll-Instr out-Instr denote.Hole.Carrier.roll denote.Hole.Carrier.out denote.Hole.Carrier.shown denote.Hole.Carrier.hidden Rattle.wasm_form.specs.declared.instr.Instr.TheBlock.shown-the_row-Instr-0
tests64 = (refl, refl, refl, refl, refl, refl, refl, refl, refl, refl, refl, refl, refl, refl, refl, refl, refl, refl, refl, refl)

-- what is taken off and what is filled
pub conversions :
    (machine_run (program (F.I64Const 4294967301 ∷ F.I32WrapI64 ∷ F.I64ExtendI32U ∷ F.Call 0 ∷ [])) [] 9 ≡ (codes "5", Ended 5)) ×
    (machine_run (program (F.I32Const 4294967295 ∷ F.I64ExtendI32S ∷ F.Call 0 ∷ [])) [] 9 ≡ (codes "-1", Ended 4)) ×
    (machine_run (program (F.I32Const 4294967295 ∷ F.I64ExtendI32U ∷ F.Call 0 ∷ [])) [] 9 ≡ (codes "4294967295", Ended 4)) ×
    (machine_run (program (F.I32Const 0 ∷ F.I32Eqz ∷ F.Call 1 ∷ [])) [] 9 ≡ (codes "true", Ended 4)) ×
    (machine_run (program (F.I64Const 1 ∷ F.I64Eqz ∷ F.Call 1 ∷ [])) [] 9 ≡ (codes "false", Ended 4))
unfolding machine_run started step act leave branch pop pop32 pop64 two32 two64 pushed given local_get local_set local_tee global_get global_set call call_defined called call_indirect type_of_function host address stored memory_size memory_grow select idiv_s idiv_u irem_s irem_u digits roll-Instr out-Instr denote.Hole.Carrier.roll denote.Hole.Carrier.out denote.Hole.Carrier.shown denote.Hole.Carrier.hidden Rattle.wasm_form.specs.declared.instr.Instr.TheBlock.shown-the_row-Instr-0
conversions = (refl, refl, refl, refl, refl)

-- the first of two where the number is not 0, a value let go, a local set and seen
pub selects :
    (machine_run (program (F.I64Const 1 ∷ F.I64Const 2 ∷ F.I32Const 7 ∷ F.Select ∷ F.Call 0 ∷ [])) [] 9 ≡ (codes "1", Ended 6)) ×
    (machine_run (program (F.I64Const 1 ∷ F.I64Const 2 ∷ F.I32Const 0 ∷ F.Select ∷ F.Call 0 ∷ [])) [] 9 ≡ (codes "2", Ended 6)) ×
    (machine_run (program (F.I64Const 1 ∷ F.I64Const 2 ∷ F.Drop ∷ F.Nop ∷ F.Call 0 ∷ [])) [] 9 ≡ (codes "1", Ended 6)) ×
    (machine_run (program (F.I64Const 3 ∷ F.LocalTee 0 ∷ F.Call 0 ∷ F.LocalGet 0 ∷ F.Call 0 ∷ [])) [] 9 ≡ (codes "33", Ended 6)) ×
    (machine_run (program (F.LocalGet 1 ∷ [])) [] 9 ≡ ([], Trapped 18 0)) ×
    (machine_run (program (F.I32Const 3 ∷ F.LocalSet 0 ∷ [])) [] 9 ≡ ([], Trapped 18 0))
unfolding machine_run started step act leave branch pop pop32 pop64 two32 two64 pushed given local_get local_set local_tee global_get global_set call call_defined called call_indirect type_of_function host address stored memory_size memory_grow select idiv_s idiv_u irem_s irem_u digits roll-Instr out-Instr denote.Hole.Carrier.roll denote.Hole.Carrier.out denote.Hole.Carrier.shown denote.Hole.Carrier.hidden Rattle.wasm_form.specs.declared.instr.Instr.TheBlock.shown-the_row-Instr-0
selects = (refl, refl, refl, refl, refl, refl)

-- ---- frames

-- main calls itself: 1,001 frames stand, and the 1,002nd is one too many
pub deep :
    (machine_run (program (F.Call 6 ∷ [])) [] 1000 ≡ ([], Running)) ×
    (machine_run (program (F.Call 6 ∷ [])) [] 1001 ≡ ([], Trapped 3 0))
unfolding machine_run started step act leave branch pop pop32 pop64 two32 two64 pushed given local_get local_set local_tee global_get global_set call call_defined called call_indirect type_of_function host address stored memory_size memory_grow select idiv_s idiv_u irem_s irem_u digits roll-Instr out-Instr denote.Hole.Carrier.roll denote.Hole.Carrier.out denote.Hole.Carrier.shown denote.Hole.Carrier.hidden Rattle.wasm_form.specs.declared.instr.Instr.TheBlock.shown-the_row-Instr-0
deep = (refl, refl)

-- where 1,048,576 operands stand, one more is too many; of fewer it is not
pub last_operand : (m : Module) (c : Config) (n : ℕ) (rest : List Instr) → operands c ≡ 1048576 → step m (with_code (roll-Instr (F.I64Const n) ∷ rest) c) ≡ Traps 17 0
unfolding step act pushed
last_operand m c n rest e = rw (out_roll (F.I64Const n), e) refl

pub operand_before : (m : Module) (c : Config) (n : ℕ) (rest : List Instr) → operands c ≡ 1048575 → step m (with_code (roll-Instr (F.I64Const n) ∷ rest) c) ≡ Goes (with_values (I64 n ∷ c.values) (with_code rest c))
unfolding step act pushed
operand_before m c n rest e = rw (out_roll (F.I64Const n), e) refl

-- ---- globals, tables and memory

-- as program, with a global of 5, a table of four elements and, past main, two functions of which the first two
-- elements are: one writes 7, the other has a parameter; the third element is the import write_int
abbrev equipped : List (Instr-F Instr) → Module
equipped fs = record (program fs) {
  functions = 0 ∷ 0 ∷ 2 ∷ [];
  tables = record { min = 4; max = None } ∷ [];
  globals = record { value_type = type.I64; is_mutable = true; initial = I64 5 } ∷ [];
  elements = record { offset = 0; functions = 7 ∷ 8 ∷ 0 ∷ [] } ∷ [];
  codes = record { locals = []; body = spell fs } ∷ record { locals = []; body = spell (F.I64Const 7 ∷ F.Call 0 ∷ []) } ∷ record { locals = []; body = [] } ∷ [];
}

-- a global is read and set, with its type
pub globals :
    (machine_run (equipped (F.GlobalGet 0 ∷ F.Call 0 ∷ F.I64Const 6 ∷ F.GlobalSet 0 ∷ F.GlobalGet 0 ∷ F.Call 0 ∷ [])) [] 9 ≡ (codes "56", Ended 7)) ×
    (machine_run (equipped (F.GlobalGet 1 ∷ [])) [] 9 ≡ ([], Trapped 18 0)) ×
    (machine_run (equipped (F.I32Const 6 ∷ F.GlobalSet 0 ∷ [])) [] 9 ≡ ([], Trapped 18 0))
unfolding machine_run started step act leave branch pop pop32 pop64 two32 two64 pushed given local_get local_set local_tee global_get global_set call call_defined called call_indirect type_of_function host address stored memory_size memory_grow select idiv_s idiv_u irem_s irem_u digits roll-Instr out-Instr denote.Hole.Carrier.roll denote.Hole.Carrier.out denote.Hole.Carrier.shown denote.Hole.Carrier.hidden Rattle.wasm_form.specs.declared.instr.Instr.TheBlock.shown-the_row-Instr-0
globals = (refl, refl, refl)

-- a function, an import, past the table, an empty element, another type, no type, no number
pub indirect_calls :
    (machine_run (equipped (F.I32Const 0 ∷ F.CallIndirect 0 ∷ [])) [] 9 ≡ (codes "7", Ended 6)) ×
    (machine_run (equipped (F.I64Const 9 ∷ F.I32Const 2 ∷ F.CallIndirect 1 ∷ [])) [] 9 ≡ (codes "9", Ended 4)) ×
    (machine_run (equipped (F.I32Const 4 ∷ F.CallIndirect 0 ∷ [])) [] 9 ≡ ([], Trapped 14 0)) ×
    (machine_run (equipped (F.I32Const 3 ∷ F.CallIndirect 0 ∷ [])) [] 9 ≡ ([], Trapped 15 0)) ×
    (machine_run (equipped (F.I32Const 1 ∷ F.CallIndirect 0 ∷ [])) [] 9 ≡ ([], Trapped 16 0)) ×
    (machine_run (equipped (F.I32Const 1 ∷ F.CallIndirect 2 ∷ [])) [] 9 ≡ ([], Trapped 18 0)) ×
    (machine_run (equipped (F.I32Const 0 ∷ F.CallIndirect 9 ∷ [])) [] 9 ≡ ([], Trapped 18 0)) ×
    (machine_run (equipped (F.CallIndirect 0 ∷ [])) [] 9 ≡ ([], Trapped 18 0))
unfolding machine_run started step act leave branch pop pop32 pop64 two32 two64 pushed given local_get local_set local_tee global_get global_set call call_defined called call_indirect type_of_function host address stored memory_size memory_grow select idiv_s idiv_u irem_s irem_u digits roll-Instr out-Instr denote.Hole.Carrier.roll denote.Hole.Carrier.out denote.Hole.Carrier.shown denote.Hole.Carrier.hidden Rattle.wasm_form.specs.declared.instr.Instr.TheBlock.shown-the_row-Instr-0
indirect_calls = (refl, refl, refl, refl, refl, refl, refl, refl)

-- ---- memory

abbrev at_offset : ℕ → MemArg
at_offset n = record { align = 0; offset = n }

-- as program, with a memory of one page that begins with these bytes
abbrev with_page : List ℕ → List (Instr-F Instr) → Module
with_page bytes fs = record (program fs) {
  memories = record { min = 1; max = None } ∷ [];
  segments = record { offset = 0; bytes = bytes } ∷ [];
}

-- a number is read from bytes of which all are above 127, so that the sign is set
abbrev load32 : (MemArg → Instr-F Instr) → ℕ → List ℕ × Outcome
load32 op at = machine_run (with_page (200 ∷ 129 ∷ 130 ∷ 131 ∷ 132 ∷ 133 ∷ 134 ∷ 135 ∷ []) (F.I32Const at ∷ op (at_offset 1) ∷ F.I64ExtendI32U ∷ F.Call 0 ∷ [])) [] 9

abbrev load64 : (MemArg → Instr-F Instr) → ℕ → List ℕ × Outcome
load64 op at = machine_run (with_page (200 ∷ 129 ∷ 130 ∷ 131 ∷ 132 ∷ 133 ∷ 134 ∷ 135 ∷ 136 ∷ []) (F.I32Const at ∷ op (at_offset 1) ∷ F.Call 0 ∷ [])) [] 9

-- a number of which all bits are set is written, and the eight bytes at 8 are read: only those that were written are set
abbrev store32 : (MemArg → Instr-F Instr) → ℕ → List ℕ × Outcome
store32 op at = machine_run (with_page [] (F.I32Const at ∷ F.I32Const 4294967295 ∷ op (at_offset 1) ∷ F.I32Const 8 ∷ F.I64Load (at_offset 0) ∷ F.Call 0 ∷ [])) [] 9

abbrev store64 : (MemArg → Instr-F Instr) → ℕ → List ℕ × Outcome
store64 op at = machine_run (with_page [] (F.I32Const at ∷ F.I64Const 18446744073709551615 ∷ op (at_offset 1) ∷ F.I32Const 8 ∷ F.I64Load (at_offset 0) ∷ F.Call 0 ∷ [])) [] 9

-- each load
pub loads :
    (load32 F.I32Load 0 ≡ (codes "2223211137", Ended 5)) ×
    (load32 F.I32Load8S 0 ≡ (codes "4294967169", Ended 5)) ×
    (load32 F.I32Load8U 0 ≡ (codes "129", Ended 5)) ×
    (load32 F.I32Load16S 0 ≡ (codes "4294935169", Ended 5)) ×
    (load32 F.I32Load16U 0 ≡ (codes "33409", Ended 5)) ×
    (load64 F.I64Load 0 ≡ (codes "-8608764254683430271", Ended 4)) ×
    (load64 F.I64Load8S 0 ≡ (codes "-127", Ended 4)) ×
    (load64 F.I64Load8U 0 ≡ (codes "129", Ended 4)) ×
    (load64 F.I64Load16S 0 ≡ (codes "-32127", Ended 4)) ×
    (load64 F.I64Load16U 0 ≡ (codes "33409", Ended 4)) ×
    (load64 F.I64Load32S 0 ≡ (codes "-2071756159", Ended 4)) ×
    (load64 F.I64Load32U 0 ≡ (codes "2223211137", Ended 4))
unfolding machine_run started step act leave branch pop pop32 pop64 two32 two64 pushed given local_get local_set local_tee global_get global_set call call_defined called call_indirect type_of_function host address stored memory_size memory_grow select idiv_s idiv_u irem_s irem_u digits roll-Instr out-Instr denote.Hole.Carrier.roll denote.Hole.Carrier.out denote.Hole.Carrier.shown denote.Hole.Carrier.hidden Rattle.wasm_form.specs.declared.instr.Instr.TheBlock.shown-the_row-Instr-0
loads = (refl, refl, refl, refl, refl, refl, refl, refl, refl, refl, refl, refl)

-- each load of the last bytes, and one past
pub loads_at_the_end :
    (load32 F.I32Load 65531 ≡ (codes "0", Ended 5)) ×
    (load32 F.I32Load 65532 ≡ ([], Trapped 11 0)) ×
    (load32 F.I32Load8S 65534 ≡ (codes "0", Ended 5)) ×
    (load32 F.I32Load8S 65535 ≡ ([], Trapped 11 0)) ×
    (load32 F.I32Load8U 65534 ≡ (codes "0", Ended 5)) ×
    (load32 F.I32Load8U 65535 ≡ ([], Trapped 11 0)) ×
    (load32 F.I32Load16S 65533 ≡ (codes "0", Ended 5)) ×
    (load32 F.I32Load16S 65534 ≡ ([], Trapped 11 0)) ×
    (load32 F.I32Load16U 65533 ≡ (codes "0", Ended 5)) ×
    (load32 F.I32Load16U 65534 ≡ ([], Trapped 11 0)) ×
    (load64 F.I64Load 65527 ≡ (codes "0", Ended 4)) ×
    (load64 F.I64Load 65528 ≡ ([], Trapped 11 0)) ×
    (load64 F.I64Load8S 65534 ≡ (codes "0", Ended 4)) ×
    (load64 F.I64Load8S 65535 ≡ ([], Trapped 11 0)) ×
    (load64 F.I64Load8U 65534 ≡ (codes "0", Ended 4)) ×
    (load64 F.I64Load8U 65535 ≡ ([], Trapped 11 0)) ×
    (load64 F.I64Load16S 65533 ≡ (codes "0", Ended 4)) ×
    (load64 F.I64Load16S 65534 ≡ ([], Trapped 11 0)) ×
    (load64 F.I64Load16U 65533 ≡ (codes "0", Ended 4)) ×
    (load64 F.I64Load16U 65534 ≡ ([], Trapped 11 0)) ×
    (load64 F.I64Load32S 65531 ≡ (codes "0", Ended 4)) ×
    (load64 F.I64Load32S 65532 ≡ ([], Trapped 11 0)) ×
    (load64 F.I64Load32U 65531 ≡ (codes "0", Ended 4)) ×
    (load64 F.I64Load32U 65532 ≡ ([], Trapped 11 0))
unfolding machine_run started step act leave branch pop pop32 pop64 two32 two64 pushed given local_get local_set local_tee global_get global_set call call_defined called call_indirect type_of_function host address stored memory_size memory_grow select idiv_s idiv_u irem_s irem_u digits roll-Instr out-Instr denote.Hole.Carrier.roll denote.Hole.Carrier.out denote.Hole.Carrier.shown denote.Hole.Carrier.hidden Rattle.wasm_form.specs.declared.instr.Instr.TheBlock.shown-the_row-Instr-0
loads_at_the_end = (refl, refl, refl, refl, refl, refl, refl, refl, refl, refl, refl, refl, refl, refl, refl, refl, refl, refl, refl, refl, refl, refl, refl, refl)

-- each store, to the last bytes, and one past
pub stores :
    (store32 F.I32Store 7 ≡ (codes "4294967295", Ended 7)) ×
    (store32 F.I32Store 65531 ≡ (codes "0", Ended 7)) ×
    (store32 F.I32Store 65532 ≡ ([], Trapped 11 0)) ×
    (store32 F.I32Store8 7 ≡ (codes "255", Ended 7)) ×
    (store32 F.I32Store8 65534 ≡ (codes "0", Ended 7)) ×
    (store32 F.I32Store8 65535 ≡ ([], Trapped 11 0)) ×
    (store32 F.I32Store16 7 ≡ (codes "65535", Ended 7)) ×
    (store32 F.I32Store16 65533 ≡ (codes "0", Ended 7)) ×
    (store32 F.I32Store16 65534 ≡ ([], Trapped 11 0)) ×
    (store64 F.I64Store 7 ≡ (codes "-1", Ended 7)) ×
    (store64 F.I64Store 65527 ≡ (codes "0", Ended 7)) ×
    (store64 F.I64Store 65528 ≡ ([], Trapped 11 0)) ×
    (store64 F.I64Store8 7 ≡ (codes "255", Ended 7)) ×
    (store64 F.I64Store8 65534 ≡ (codes "0", Ended 7)) ×
    (store64 F.I64Store8 65535 ≡ ([], Trapped 11 0)) ×
    (store64 F.I64Store16 7 ≡ (codes "65535", Ended 7)) ×
    (store64 F.I64Store16 65533 ≡ (codes "0", Ended 7)) ×
    (store64 F.I64Store16 65534 ≡ ([], Trapped 11 0)) ×
    (store64 F.I64Store32 7 ≡ (codes "4294967295", Ended 7)) ×
    (store64 F.I64Store32 65531 ≡ (codes "0", Ended 7)) ×
    (store64 F.I64Store32 65532 ≡ ([], Trapped 11 0))
unfolding machine_run started step act leave branch pop pop32 pop64 two32 two64 pushed given local_get local_set local_tee global_get global_set call call_defined called call_indirect type_of_function host address stored memory_size memory_grow select idiv_s idiv_u irem_s irem_u digits roll-Instr out-Instr denote.Hole.Carrier.roll denote.Hole.Carrier.out denote.Hole.Carrier.shown denote.Hole.Carrier.hidden Rattle.wasm_form.specs.declared.instr.Instr.TheBlock.shown-the_row-Instr-0
stores = (refl, refl, refl, refl, refl, refl, refl, refl, refl, refl, refl, refl, refl, refl, refl, refl, refl, refl, refl, refl, refl)

-- a page; it grows by 0 and not by 1; an address past 2^32; a text to the last byte and one past
pub sizes :
    (machine_run (with_page [] (F.MemorySize ∷ F.I64ExtendI32U ∷ F.Call 0 ∷ [])) [] 9 ≡ (codes "1", Ended 4)) ×
    (machine_run (with_page [] (F.I32Const 0 ∷ F.MemoryGrow ∷ F.I64ExtendI32U ∷ F.Call 0 ∷ [])) [] 9 ≡ (codes "1", Ended 5)) ×
    (machine_run (with_page [] (F.I32Const 1 ∷ F.MemoryGrow ∷ F.I64ExtendI32S ∷ F.Call 0 ∷ [])) [] 9 ≡ (codes "-1", Ended 5)) ×
    (machine_run (with_page [] (F.I32Const 4294967295 ∷ F.I64Load8U (at_offset 4294967295) ∷ [])) [] 9 ≡ ([], Trapped 11 0)) ×
    (machine_run (with_page (104 ∷ 105 ∷ []) (F.I32Const 0 ∷ F.I32Const 2 ∷ F.Call 2 ∷ [])) [] 9 ≡ (codes "hi", Ended 4)) ×
    (machine_run (with_page [] (F.I32Const 65535 ∷ F.I32Const 1 ∷ F.Call 2 ∷ [])) [] 9 ≡ (0 ∷ [], Ended 4)) ×
    (machine_run (with_page [] (F.I32Const 65535 ∷ F.I32Const 2 ∷ F.Call 2 ∷ [])) [] 9 ≡ ([], Trapped 11 0)) ×
    (machine_run (with_page [] (F.I32Const 65536 ∷ F.I32Const 0 ∷ F.Call 2 ∷ [])) [] 9 ≡ ([], Ended 4)) ×
    (machine_run (with_page [] (F.I32Const 65537 ∷ F.I32Const 0 ∷ F.Call 2 ∷ [])) [] 9 ≡ ([], Trapped 11 0))
unfolding machine_run started step act leave branch pop pop32 pop64 two32 two64 pushed given local_get local_set local_tee global_get global_set call call_defined called call_indirect type_of_function host address stored memory_size memory_grow select idiv_s idiv_u irem_s irem_u digits roll-Instr out-Instr denote.Hole.Carrier.roll denote.Hole.Carrier.out denote.Hole.Carrier.shown denote.Hole.Carrier.hidden Rattle.wasm_form.specs.declared.instr.Instr.TheBlock.shown-the_row-Instr-0
sizes = (refl, refl, refl, refl, refl, refl, refl, refl, refl)
