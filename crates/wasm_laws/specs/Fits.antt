-- The numbers of an instruction are those of its type, so that they can be spelled.
use Rattle.std.specs.Prelude.{◌<◌, ◌^◌}
use Rattle.wasm_form.specs.declared.instr.Instr.{Instr}
use Rattle.wasm_form.specs.declared.instr.Instr.TheOpen.{Instr-F}
use Rattle.wasm_form.specs.declared.instr.Instr.TheOpen as F
use Rattle.wasm_form.specs.declared.instr.MemArg.{MemArg}

abbrev pub AccessFits : MemArg → Type 0
AccessFits a = (a.align < 2 ^ 32) × (a.offset < 2 ^ 32)

-- the numbers of an instruction that holds no others; br_table is left out here
abbrev pub NumbersFit : Instr-F Instr → Type 0
NumbersFit (F.Block t body) = ⊥
NumbersFit (F.Loop t body) = ⊥
NumbersFit (F.If t first second) = ⊥
NumbersFit (F.BrTable ls l) = ⊥
NumbersFit (F.CallIndirect t) = t < 2 ^ 32
NumbersFit (F.Br n) = n < 2 ^ 32
NumbersFit (F.BrIf n) = n < 2 ^ 32
NumbersFit (F.Call n) = n < 2 ^ 32
NumbersFit (F.LocalGet n) = n < 2 ^ 32
NumbersFit (F.LocalSet n) = n < 2 ^ 32
NumbersFit (F.LocalTee n) = n < 2 ^ 32
NumbersFit (F.GlobalGet n) = n < 2 ^ 32
NumbersFit (F.GlobalSet n) = n < 2 ^ 32
NumbersFit (F.I32Load a) = AccessFits a
NumbersFit (F.I64Load a) = AccessFits a
NumbersFit (F.I32Load8S a) = AccessFits a
NumbersFit (F.I32Load8U a) = AccessFits a
NumbersFit (F.I32Load16S a) = AccessFits a
NumbersFit (F.I32Load16U a) = AccessFits a
NumbersFit (F.I64Load8S a) = AccessFits a
NumbersFit (F.I64Load8U a) = AccessFits a
NumbersFit (F.I64Load16S a) = AccessFits a
NumbersFit (F.I64Load16U a) = AccessFits a
NumbersFit (F.I64Load32S a) = AccessFits a
NumbersFit (F.I64Load32U a) = AccessFits a
NumbersFit (F.I32Store a) = AccessFits a
NumbersFit (F.I64Store a) = AccessFits a
NumbersFit (F.I32Store8 a) = AccessFits a
NumbersFit (F.I32Store16 a) = AccessFits a
NumbersFit (F.I64Store8 a) = AccessFits a
NumbersFit (F.I64Store16 a) = AccessFits a
NumbersFit (F.I64Store32 a) = AccessFits a
NumbersFit (F.I32Const n) = n < 2 ^ 32
NumbersFit (F.I64Const n) = n < 2 ^ 64
NumbersFit _ = Unit {0}
