-- What an instruction is made of: one law for each opcode, by which `act` computes.
use Rattle.std.proofs.Common.{◌≡◌, ℕ, Option, List, ap, ◌∙◌}
use Rattle.wasm_form.specs.declared.instr.Instr.{Instr, roll-Instr, out-Instr, out-roll-Instr}
use Rattle.wasm_form.specs.declared.instr.Instr.TheOpen.{Instr-F}
use Rattle.wasm_form.specs.declared.instr.Instr.TheOpen as F
use Rattle.wasm_form.specs.declared.instr.Instr.TheVariants as i
use Rattle.wasm_form.specs.declared.instr.MemArg.{MemArg}
use Rattle.wasm_form.specs.declared.types.ValueType.{ValueType}

-- of an instruction that is spelled by its layer
pub out_roll : (x : Instr-F Instr) → out-Instr (roll-Instr x) ≡ x
out_roll x = out-roll-Instr x

pub out_unreachable : out-Instr i.Unreachable ≡ F.Unreachable
unfolding roll-Instr out-Instr denote.Hole.Carrier.roll
out_unreachable = ap out-Instr i.rolls-Unreachable ∙ out-roll-Instr F.Unreachable

pub out_nop : out-Instr i.Nop ≡ F.Nop
unfolding roll-Instr out-Instr denote.Hole.Carrier.roll
out_nop = ap out-Instr i.rolls-Nop ∙ out-roll-Instr F.Nop

pub out_block : (r : Option ValueType) (is : List Instr) → out-Instr (i.Block r is) ≡ F.Block r is
unfolding roll-Instr out-Instr denote.Hole.Carrier.roll
out_block r is = ap out-Instr (i.rolls-Block r is) ∙ out-roll-Instr (F.Block r is)

pub out_loop : (r : Option ValueType) (is : List Instr) → out-Instr (i.Loop r is) ≡ F.Loop r is
unfolding roll-Instr out-Instr denote.Hole.Carrier.roll
out_loop r is = ap out-Instr (i.rolls-Loop r is) ∙ out-roll-Instr (F.Loop r is)

pub out_if : (r : Option ValueType) (is : List Instr) (is' : List Instr) → out-Instr (i.If r is is') ≡ F.If r is is'
unfolding roll-Instr out-Instr denote.Hole.Carrier.roll
out_if r is is' = ap out-Instr (i.rolls-If r is is') ∙ out-roll-Instr (F.If r is is')

pub out_br : (n : ℕ) → out-Instr (i.Br n) ≡ F.Br n
unfolding roll-Instr out-Instr denote.Hole.Carrier.roll
out_br n = ap out-Instr (i.rolls-Br n) ∙ out-roll-Instr (F.Br n)

pub out_br_if : (n : ℕ) → out-Instr (i.BrIf n) ≡ F.BrIf n
unfolding roll-Instr out-Instr denote.Hole.Carrier.roll
out_br_if n = ap out-Instr (i.rolls-BrIf n) ∙ out-roll-Instr (F.BrIf n)

pub out_br_table : (ns : List ℕ) (n : ℕ) → out-Instr (i.BrTable ns n) ≡ F.BrTable ns n
unfolding roll-Instr out-Instr denote.Hole.Carrier.roll
out_br_table ns n = ap out-Instr (i.rolls-BrTable ns n) ∙ out-roll-Instr (F.BrTable ns n)

pub out_return : out-Instr i.Return ≡ F.Return
unfolding roll-Instr out-Instr denote.Hole.Carrier.roll
out_return = ap out-Instr i.rolls-Return ∙ out-roll-Instr F.Return

pub out_call : (n : ℕ) → out-Instr (i.Call n) ≡ F.Call n
unfolding roll-Instr out-Instr denote.Hole.Carrier.roll
out_call n = ap out-Instr (i.rolls-Call n) ∙ out-roll-Instr (F.Call n)

pub out_call_indirect : (n : ℕ) → out-Instr (i.CallIndirect n) ≡ F.CallIndirect n
unfolding roll-Instr out-Instr denote.Hole.Carrier.roll
out_call_indirect n = ap out-Instr (i.rolls-CallIndirect n) ∙ out-roll-Instr (F.CallIndirect n)

pub out_drop : out-Instr i.Drop ≡ F.Drop
unfolding roll-Instr out-Instr denote.Hole.Carrier.roll
out_drop = ap out-Instr i.rolls-Drop ∙ out-roll-Instr F.Drop

pub out_select : out-Instr i.Select ≡ F.Select
unfolding roll-Instr out-Instr denote.Hole.Carrier.roll
out_select = ap out-Instr i.rolls-Select ∙ out-roll-Instr F.Select

pub out_local_get : (n : ℕ) → out-Instr (i.LocalGet n) ≡ F.LocalGet n
unfolding roll-Instr out-Instr denote.Hole.Carrier.roll
out_local_get n = ap out-Instr (i.rolls-LocalGet n) ∙ out-roll-Instr (F.LocalGet n)

pub out_local_set : (n : ℕ) → out-Instr (i.LocalSet n) ≡ F.LocalSet n
unfolding roll-Instr out-Instr denote.Hole.Carrier.roll
out_local_set n = ap out-Instr (i.rolls-LocalSet n) ∙ out-roll-Instr (F.LocalSet n)

pub out_local_tee : (n : ℕ) → out-Instr (i.LocalTee n) ≡ F.LocalTee n
unfolding roll-Instr out-Instr denote.Hole.Carrier.roll
out_local_tee n = ap out-Instr (i.rolls-LocalTee n) ∙ out-roll-Instr (F.LocalTee n)

pub out_global_get : (n : ℕ) → out-Instr (i.GlobalGet n) ≡ F.GlobalGet n
unfolding roll-Instr out-Instr denote.Hole.Carrier.roll
out_global_get n = ap out-Instr (i.rolls-GlobalGet n) ∙ out-roll-Instr (F.GlobalGet n)

pub out_global_set : (n : ℕ) → out-Instr (i.GlobalSet n) ≡ F.GlobalSet n
unfolding roll-Instr out-Instr denote.Hole.Carrier.roll
out_global_set n = ap out-Instr (i.rolls-GlobalSet n) ∙ out-roll-Instr (F.GlobalSet n)

pub out_i32_load : (a : MemArg) → out-Instr (i.I32Load a) ≡ F.I32Load a
unfolding roll-Instr out-Instr denote.Hole.Carrier.roll
out_i32_load a = ap out-Instr (i.rolls-I32Load a) ∙ out-roll-Instr (F.I32Load a)

pub out_i64_load : (a : MemArg) → out-Instr (i.I64Load a) ≡ F.I64Load a
unfolding roll-Instr out-Instr denote.Hole.Carrier.roll
out_i64_load a = ap out-Instr (i.rolls-I64Load a) ∙ out-roll-Instr (F.I64Load a)

pub out_i32_load8_s : (a : MemArg) → out-Instr (i.I32Load8S a) ≡ F.I32Load8S a
unfolding roll-Instr out-Instr denote.Hole.Carrier.roll
out_i32_load8_s a = ap out-Instr (i.rolls-I32Load8S a) ∙ out-roll-Instr (F.I32Load8S a)

pub out_i32_load8_u : (a : MemArg) → out-Instr (i.I32Load8U a) ≡ F.I32Load8U a
unfolding roll-Instr out-Instr denote.Hole.Carrier.roll
out_i32_load8_u a = ap out-Instr (i.rolls-I32Load8U a) ∙ out-roll-Instr (F.I32Load8U a)

pub out_i32_load16_s : (a : MemArg) → out-Instr (i.I32Load16S a) ≡ F.I32Load16S a
unfolding roll-Instr out-Instr denote.Hole.Carrier.roll
out_i32_load16_s a = ap out-Instr (i.rolls-I32Load16S a) ∙ out-roll-Instr (F.I32Load16S a)

pub out_i32_load16_u : (a : MemArg) → out-Instr (i.I32Load16U a) ≡ F.I32Load16U a
unfolding roll-Instr out-Instr denote.Hole.Carrier.roll
out_i32_load16_u a = ap out-Instr (i.rolls-I32Load16U a) ∙ out-roll-Instr (F.I32Load16U a)

pub out_i64_load8_s : (a : MemArg) → out-Instr (i.I64Load8S a) ≡ F.I64Load8S a
unfolding roll-Instr out-Instr denote.Hole.Carrier.roll
out_i64_load8_s a = ap out-Instr (i.rolls-I64Load8S a) ∙ out-roll-Instr (F.I64Load8S a)

pub out_i64_load8_u : (a : MemArg) → out-Instr (i.I64Load8U a) ≡ F.I64Load8U a
unfolding roll-Instr out-Instr denote.Hole.Carrier.roll
out_i64_load8_u a = ap out-Instr (i.rolls-I64Load8U a) ∙ out-roll-Instr (F.I64Load8U a)

pub out_i64_load16_s : (a : MemArg) → out-Instr (i.I64Load16S a) ≡ F.I64Load16S a
unfolding roll-Instr out-Instr denote.Hole.Carrier.roll
out_i64_load16_s a = ap out-Instr (i.rolls-I64Load16S a) ∙ out-roll-Instr (F.I64Load16S a)

pub out_i64_load16_u : (a : MemArg) → out-Instr (i.I64Load16U a) ≡ F.I64Load16U a
unfolding roll-Instr out-Instr denote.Hole.Carrier.roll
out_i64_load16_u a = ap out-Instr (i.rolls-I64Load16U a) ∙ out-roll-Instr (F.I64Load16U a)

pub out_i64_load32_s : (a : MemArg) → out-Instr (i.I64Load32S a) ≡ F.I64Load32S a
unfolding roll-Instr out-Instr denote.Hole.Carrier.roll
out_i64_load32_s a = ap out-Instr (i.rolls-I64Load32S a) ∙ out-roll-Instr (F.I64Load32S a)

pub out_i64_load32_u : (a : MemArg) → out-Instr (i.I64Load32U a) ≡ F.I64Load32U a
unfolding roll-Instr out-Instr denote.Hole.Carrier.roll
out_i64_load32_u a = ap out-Instr (i.rolls-I64Load32U a) ∙ out-roll-Instr (F.I64Load32U a)

pub out_i32_store : (a : MemArg) → out-Instr (i.I32Store a) ≡ F.I32Store a
unfolding roll-Instr out-Instr denote.Hole.Carrier.roll
out_i32_store a = ap out-Instr (i.rolls-I32Store a) ∙ out-roll-Instr (F.I32Store a)

pub out_i64_store : (a : MemArg) → out-Instr (i.I64Store a) ≡ F.I64Store a
unfolding roll-Instr out-Instr denote.Hole.Carrier.roll
out_i64_store a = ap out-Instr (i.rolls-I64Store a) ∙ out-roll-Instr (F.I64Store a)

pub out_i32_store8 : (a : MemArg) → out-Instr (i.I32Store8 a) ≡ F.I32Store8 a
unfolding roll-Instr out-Instr denote.Hole.Carrier.roll
out_i32_store8 a = ap out-Instr (i.rolls-I32Store8 a) ∙ out-roll-Instr (F.I32Store8 a)

pub out_i32_store16 : (a : MemArg) → out-Instr (i.I32Store16 a) ≡ F.I32Store16 a
unfolding roll-Instr out-Instr denote.Hole.Carrier.roll
out_i32_store16 a = ap out-Instr (i.rolls-I32Store16 a) ∙ out-roll-Instr (F.I32Store16 a)

pub out_i64_store8 : (a : MemArg) → out-Instr (i.I64Store8 a) ≡ F.I64Store8 a
unfolding roll-Instr out-Instr denote.Hole.Carrier.roll
out_i64_store8 a = ap out-Instr (i.rolls-I64Store8 a) ∙ out-roll-Instr (F.I64Store8 a)

pub out_i64_store16 : (a : MemArg) → out-Instr (i.I64Store16 a) ≡ F.I64Store16 a
unfolding roll-Instr out-Instr denote.Hole.Carrier.roll
out_i64_store16 a = ap out-Instr (i.rolls-I64Store16 a) ∙ out-roll-Instr (F.I64Store16 a)

pub out_i64_store32 : (a : MemArg) → out-Instr (i.I64Store32 a) ≡ F.I64Store32 a
unfolding roll-Instr out-Instr denote.Hole.Carrier.roll
out_i64_store32 a = ap out-Instr (i.rolls-I64Store32 a) ∙ out-roll-Instr (F.I64Store32 a)

pub out_memory_size : out-Instr i.MemorySize ≡ F.MemorySize
unfolding roll-Instr out-Instr denote.Hole.Carrier.roll
out_memory_size = ap out-Instr i.rolls-MemorySize ∙ out-roll-Instr F.MemorySize

pub out_memory_grow : out-Instr i.MemoryGrow ≡ F.MemoryGrow
unfolding roll-Instr out-Instr denote.Hole.Carrier.roll
out_memory_grow = ap out-Instr i.rolls-MemoryGrow ∙ out-roll-Instr F.MemoryGrow

pub out_i32_const : (n : ℕ) → out-Instr (i.I32Const n) ≡ F.I32Const n
unfolding roll-Instr out-Instr denote.Hole.Carrier.roll
out_i32_const n = ap out-Instr (i.rolls-I32Const n) ∙ out-roll-Instr (F.I32Const n)

pub out_i64_const : (n : ℕ) → out-Instr (i.I64Const n) ≡ F.I64Const n
unfolding roll-Instr out-Instr denote.Hole.Carrier.roll
out_i64_const n = ap out-Instr (i.rolls-I64Const n) ∙ out-roll-Instr (F.I64Const n)

pub out_i32_eqz : out-Instr i.I32Eqz ≡ F.I32Eqz
unfolding roll-Instr out-Instr denote.Hole.Carrier.roll
out_i32_eqz = ap out-Instr i.rolls-I32Eqz ∙ out-roll-Instr F.I32Eqz

pub out_i32_eq : out-Instr i.I32Eq ≡ F.I32Eq
unfolding roll-Instr out-Instr denote.Hole.Carrier.roll
out_i32_eq = ap out-Instr i.rolls-I32Eq ∙ out-roll-Instr F.I32Eq

pub out_i32_ne : out-Instr i.I32Ne ≡ F.I32Ne
unfolding roll-Instr out-Instr denote.Hole.Carrier.roll
out_i32_ne = ap out-Instr i.rolls-I32Ne ∙ out-roll-Instr F.I32Ne

pub out_i32_lt_s : out-Instr i.I32LtS ≡ F.I32LtS
unfolding roll-Instr out-Instr denote.Hole.Carrier.roll
out_i32_lt_s = ap out-Instr i.rolls-I32LtS ∙ out-roll-Instr F.I32LtS

pub out_i32_lt_u : out-Instr i.I32LtU ≡ F.I32LtU
unfolding roll-Instr out-Instr denote.Hole.Carrier.roll
out_i32_lt_u = ap out-Instr i.rolls-I32LtU ∙ out-roll-Instr F.I32LtU

pub out_i32_gt_s : out-Instr i.I32GtS ≡ F.I32GtS
unfolding roll-Instr out-Instr denote.Hole.Carrier.roll
out_i32_gt_s = ap out-Instr i.rolls-I32GtS ∙ out-roll-Instr F.I32GtS

pub out_i32_gt_u : out-Instr i.I32GtU ≡ F.I32GtU
unfolding roll-Instr out-Instr denote.Hole.Carrier.roll
out_i32_gt_u = ap out-Instr i.rolls-I32GtU ∙ out-roll-Instr F.I32GtU

pub out_i32_le_s : out-Instr i.I32LeS ≡ F.I32LeS
unfolding roll-Instr out-Instr denote.Hole.Carrier.roll
out_i32_le_s = ap out-Instr i.rolls-I32LeS ∙ out-roll-Instr F.I32LeS

pub out_i32_le_u : out-Instr i.I32LeU ≡ F.I32LeU
unfolding roll-Instr out-Instr denote.Hole.Carrier.roll
out_i32_le_u = ap out-Instr i.rolls-I32LeU ∙ out-roll-Instr F.I32LeU

pub out_i32_ge_s : out-Instr i.I32GeS ≡ F.I32GeS
unfolding roll-Instr out-Instr denote.Hole.Carrier.roll
out_i32_ge_s = ap out-Instr i.rolls-I32GeS ∙ out-roll-Instr F.I32GeS

pub out_i32_ge_u : out-Instr i.I32GeU ≡ F.I32GeU
unfolding roll-Instr out-Instr denote.Hole.Carrier.roll
out_i32_ge_u = ap out-Instr i.rolls-I32GeU ∙ out-roll-Instr F.I32GeU

pub out_i64_eqz : out-Instr i.I64Eqz ≡ F.I64Eqz
unfolding roll-Instr out-Instr denote.Hole.Carrier.roll
out_i64_eqz = ap out-Instr i.rolls-I64Eqz ∙ out-roll-Instr F.I64Eqz

pub out_i64_eq : out-Instr i.I64Eq ≡ F.I64Eq
unfolding roll-Instr out-Instr denote.Hole.Carrier.roll
out_i64_eq = ap out-Instr i.rolls-I64Eq ∙ out-roll-Instr F.I64Eq

pub out_i64_ne : out-Instr i.I64Ne ≡ F.I64Ne
unfolding roll-Instr out-Instr denote.Hole.Carrier.roll
out_i64_ne = ap out-Instr i.rolls-I64Ne ∙ out-roll-Instr F.I64Ne

pub out_i64_lt_s : out-Instr i.I64LtS ≡ F.I64LtS
unfolding roll-Instr out-Instr denote.Hole.Carrier.roll
out_i64_lt_s = ap out-Instr i.rolls-I64LtS ∙ out-roll-Instr F.I64LtS

pub out_i64_lt_u : out-Instr i.I64LtU ≡ F.I64LtU
unfolding roll-Instr out-Instr denote.Hole.Carrier.roll
out_i64_lt_u = ap out-Instr i.rolls-I64LtU ∙ out-roll-Instr F.I64LtU

pub out_i64_gt_s : out-Instr i.I64GtS ≡ F.I64GtS
unfolding roll-Instr out-Instr denote.Hole.Carrier.roll
out_i64_gt_s = ap out-Instr i.rolls-I64GtS ∙ out-roll-Instr F.I64GtS

pub out_i64_gt_u : out-Instr i.I64GtU ≡ F.I64GtU
unfolding roll-Instr out-Instr denote.Hole.Carrier.roll
out_i64_gt_u = ap out-Instr i.rolls-I64GtU ∙ out-roll-Instr F.I64GtU

pub out_i64_le_s : out-Instr i.I64LeS ≡ F.I64LeS
unfolding roll-Instr out-Instr denote.Hole.Carrier.roll
out_i64_le_s = ap out-Instr i.rolls-I64LeS ∙ out-roll-Instr F.I64LeS

pub out_i64_le_u : out-Instr i.I64LeU ≡ F.I64LeU
unfolding roll-Instr out-Instr denote.Hole.Carrier.roll
out_i64_le_u = ap out-Instr i.rolls-I64LeU ∙ out-roll-Instr F.I64LeU

pub out_i64_ge_s : out-Instr i.I64GeS ≡ F.I64GeS
unfolding roll-Instr out-Instr denote.Hole.Carrier.roll
out_i64_ge_s = ap out-Instr i.rolls-I64GeS ∙ out-roll-Instr F.I64GeS

pub out_i64_ge_u : out-Instr i.I64GeU ≡ F.I64GeU
unfolding roll-Instr out-Instr denote.Hole.Carrier.roll
out_i64_ge_u = ap out-Instr i.rolls-I64GeU ∙ out-roll-Instr F.I64GeU

pub out_i32_clz : out-Instr i.I32Clz ≡ F.I32Clz
unfolding roll-Instr out-Instr denote.Hole.Carrier.roll
out_i32_clz = ap out-Instr i.rolls-I32Clz ∙ out-roll-Instr F.I32Clz

pub out_i32_ctz : out-Instr i.I32Ctz ≡ F.I32Ctz
unfolding roll-Instr out-Instr denote.Hole.Carrier.roll
out_i32_ctz = ap out-Instr i.rolls-I32Ctz ∙ out-roll-Instr F.I32Ctz

pub out_i32_popcnt : out-Instr i.I32Popcnt ≡ F.I32Popcnt
unfolding roll-Instr out-Instr denote.Hole.Carrier.roll
out_i32_popcnt = ap out-Instr i.rolls-I32Popcnt ∙ out-roll-Instr F.I32Popcnt

pub out_i32_add : out-Instr i.I32Add ≡ F.I32Add
unfolding roll-Instr out-Instr denote.Hole.Carrier.roll
out_i32_add = ap out-Instr i.rolls-I32Add ∙ out-roll-Instr F.I32Add

pub out_i32_sub : out-Instr i.I32Sub ≡ F.I32Sub
unfolding roll-Instr out-Instr denote.Hole.Carrier.roll
out_i32_sub = ap out-Instr i.rolls-I32Sub ∙ out-roll-Instr F.I32Sub

pub out_i32_mul : out-Instr i.I32Mul ≡ F.I32Mul
unfolding roll-Instr out-Instr denote.Hole.Carrier.roll
out_i32_mul = ap out-Instr i.rolls-I32Mul ∙ out-roll-Instr F.I32Mul

pub out_i32_div_s : out-Instr i.I32DivS ≡ F.I32DivS
unfolding roll-Instr out-Instr denote.Hole.Carrier.roll
out_i32_div_s = ap out-Instr i.rolls-I32DivS ∙ out-roll-Instr F.I32DivS

pub out_i32_div_u : out-Instr i.I32DivU ≡ F.I32DivU
unfolding roll-Instr out-Instr denote.Hole.Carrier.roll
out_i32_div_u = ap out-Instr i.rolls-I32DivU ∙ out-roll-Instr F.I32DivU

pub out_i32_rem_s : out-Instr i.I32RemS ≡ F.I32RemS
unfolding roll-Instr out-Instr denote.Hole.Carrier.roll
out_i32_rem_s = ap out-Instr i.rolls-I32RemS ∙ out-roll-Instr F.I32RemS

pub out_i32_rem_u : out-Instr i.I32RemU ≡ F.I32RemU
unfolding roll-Instr out-Instr denote.Hole.Carrier.roll
out_i32_rem_u = ap out-Instr i.rolls-I32RemU ∙ out-roll-Instr F.I32RemU

pub out_i32_and : out-Instr i.I32And ≡ F.I32And
unfolding roll-Instr out-Instr denote.Hole.Carrier.roll
out_i32_and = ap out-Instr i.rolls-I32And ∙ out-roll-Instr F.I32And

pub out_i32_or : out-Instr i.I32Or ≡ F.I32Or
unfolding roll-Instr out-Instr denote.Hole.Carrier.roll
out_i32_or = ap out-Instr i.rolls-I32Or ∙ out-roll-Instr F.I32Or

pub out_i32_xor : out-Instr i.I32Xor ≡ F.I32Xor
unfolding roll-Instr out-Instr denote.Hole.Carrier.roll
out_i32_xor = ap out-Instr i.rolls-I32Xor ∙ out-roll-Instr F.I32Xor

pub out_i32_shl : out-Instr i.I32Shl ≡ F.I32Shl
unfolding roll-Instr out-Instr denote.Hole.Carrier.roll
out_i32_shl = ap out-Instr i.rolls-I32Shl ∙ out-roll-Instr F.I32Shl

pub out_i32_shr_s : out-Instr i.I32ShrS ≡ F.I32ShrS
unfolding roll-Instr out-Instr denote.Hole.Carrier.roll
out_i32_shr_s = ap out-Instr i.rolls-I32ShrS ∙ out-roll-Instr F.I32ShrS

pub out_i32_shr_u : out-Instr i.I32ShrU ≡ F.I32ShrU
unfolding roll-Instr out-Instr denote.Hole.Carrier.roll
out_i32_shr_u = ap out-Instr i.rolls-I32ShrU ∙ out-roll-Instr F.I32ShrU

pub out_i32_rotl : out-Instr i.I32Rotl ≡ F.I32Rotl
unfolding roll-Instr out-Instr denote.Hole.Carrier.roll
out_i32_rotl = ap out-Instr i.rolls-I32Rotl ∙ out-roll-Instr F.I32Rotl

pub out_i32_rotr : out-Instr i.I32Rotr ≡ F.I32Rotr
unfolding roll-Instr out-Instr denote.Hole.Carrier.roll
out_i32_rotr = ap out-Instr i.rolls-I32Rotr ∙ out-roll-Instr F.I32Rotr

pub out_i64_clz : out-Instr i.I64Clz ≡ F.I64Clz
unfolding roll-Instr out-Instr denote.Hole.Carrier.roll
out_i64_clz = ap out-Instr i.rolls-I64Clz ∙ out-roll-Instr F.I64Clz

pub out_i64_ctz : out-Instr i.I64Ctz ≡ F.I64Ctz
unfolding roll-Instr out-Instr denote.Hole.Carrier.roll
out_i64_ctz = ap out-Instr i.rolls-I64Ctz ∙ out-roll-Instr F.I64Ctz

pub out_i64_popcnt : out-Instr i.I64Popcnt ≡ F.I64Popcnt
unfolding roll-Instr out-Instr denote.Hole.Carrier.roll
out_i64_popcnt = ap out-Instr i.rolls-I64Popcnt ∙ out-roll-Instr F.I64Popcnt

pub out_i64_add : out-Instr i.I64Add ≡ F.I64Add
unfolding roll-Instr out-Instr denote.Hole.Carrier.roll
out_i64_add = ap out-Instr i.rolls-I64Add ∙ out-roll-Instr F.I64Add

pub out_i64_sub : out-Instr i.I64Sub ≡ F.I64Sub
unfolding roll-Instr out-Instr denote.Hole.Carrier.roll
out_i64_sub = ap out-Instr i.rolls-I64Sub ∙ out-roll-Instr F.I64Sub

pub out_i64_mul : out-Instr i.I64Mul ≡ F.I64Mul
unfolding roll-Instr out-Instr denote.Hole.Carrier.roll
out_i64_mul = ap out-Instr i.rolls-I64Mul ∙ out-roll-Instr F.I64Mul

pub out_i64_div_s : out-Instr i.I64DivS ≡ F.I64DivS
unfolding roll-Instr out-Instr denote.Hole.Carrier.roll
out_i64_div_s = ap out-Instr i.rolls-I64DivS ∙ out-roll-Instr F.I64DivS

pub out_i64_div_u : out-Instr i.I64DivU ≡ F.I64DivU
unfolding roll-Instr out-Instr denote.Hole.Carrier.roll
out_i64_div_u = ap out-Instr i.rolls-I64DivU ∙ out-roll-Instr F.I64DivU

pub out_i64_rem_s : out-Instr i.I64RemS ≡ F.I64RemS
unfolding roll-Instr out-Instr denote.Hole.Carrier.roll
out_i64_rem_s = ap out-Instr i.rolls-I64RemS ∙ out-roll-Instr F.I64RemS

pub out_i64_rem_u : out-Instr i.I64RemU ≡ F.I64RemU
unfolding roll-Instr out-Instr denote.Hole.Carrier.roll
out_i64_rem_u = ap out-Instr i.rolls-I64RemU ∙ out-roll-Instr F.I64RemU

pub out_i64_and : out-Instr i.I64And ≡ F.I64And
unfolding roll-Instr out-Instr denote.Hole.Carrier.roll
out_i64_and = ap out-Instr i.rolls-I64And ∙ out-roll-Instr F.I64And

pub out_i64_or : out-Instr i.I64Or ≡ F.I64Or
unfolding roll-Instr out-Instr denote.Hole.Carrier.roll
out_i64_or = ap out-Instr i.rolls-I64Or ∙ out-roll-Instr F.I64Or

pub out_i64_xor : out-Instr i.I64Xor ≡ F.I64Xor
unfolding roll-Instr out-Instr denote.Hole.Carrier.roll
out_i64_xor = ap out-Instr i.rolls-I64Xor ∙ out-roll-Instr F.I64Xor

pub out_i64_shl : out-Instr i.I64Shl ≡ F.I64Shl
unfolding roll-Instr out-Instr denote.Hole.Carrier.roll
out_i64_shl = ap out-Instr i.rolls-I64Shl ∙ out-roll-Instr F.I64Shl

pub out_i64_shr_s : out-Instr i.I64ShrS ≡ F.I64ShrS
unfolding roll-Instr out-Instr denote.Hole.Carrier.roll
out_i64_shr_s = ap out-Instr i.rolls-I64ShrS ∙ out-roll-Instr F.I64ShrS

pub out_i64_shr_u : out-Instr i.I64ShrU ≡ F.I64ShrU
unfolding roll-Instr out-Instr denote.Hole.Carrier.roll
out_i64_shr_u = ap out-Instr i.rolls-I64ShrU ∙ out-roll-Instr F.I64ShrU

pub out_i64_rotl : out-Instr i.I64Rotl ≡ F.I64Rotl
unfolding roll-Instr out-Instr denote.Hole.Carrier.roll
out_i64_rotl = ap out-Instr i.rolls-I64Rotl ∙ out-roll-Instr F.I64Rotl

pub out_i64_rotr : out-Instr i.I64Rotr ≡ F.I64Rotr
unfolding roll-Instr out-Instr denote.Hole.Carrier.roll
out_i64_rotr = ap out-Instr i.rolls-I64Rotr ∙ out-roll-Instr F.I64Rotr

pub out_i32_wrap_i64 : out-Instr i.I32WrapI64 ≡ F.I32WrapI64
unfolding roll-Instr out-Instr denote.Hole.Carrier.roll
out_i32_wrap_i64 = ap out-Instr i.rolls-I32WrapI64 ∙ out-roll-Instr F.I32WrapI64

pub out_i64_extend_i32_s : out-Instr i.I64ExtendI32S ≡ F.I64ExtendI32S
unfolding roll-Instr out-Instr denote.Hole.Carrier.roll
out_i64_extend_i32_s = ap out-Instr i.rolls-I64ExtendI32S ∙ out-roll-Instr F.I64ExtendI32S

pub out_i64_extend_i32_u : out-Instr i.I64ExtendI32U ≡ F.I64ExtendI32U
unfolding roll-Instr out-Instr denote.Hole.Carrier.roll
out_i64_extend_i32_u = ap out-Instr i.rolls-I64ExtendI32U ∙ out-roll-Instr F.I64ExtendI32U

pub ruleset outs = (out_roll, out_unreachable, out_nop, out_block, out_loop, out_if, out_br, out_br_if, out_br_table, out_return, out_call, out_call_indirect, out_drop, out_select, out_local_get, out_local_set, out_local_tee, out_global_get, out_global_set, out_i32_load, out_i64_load, out_i32_load8_s, out_i32_load8_u, out_i32_load16_s, out_i32_load16_u, out_i64_load8_s, out_i64_load8_u, out_i64_load16_s, out_i64_load16_u, out_i64_load32_s, out_i64_load32_u, out_i32_store, out_i64_store, out_i32_store8, out_i32_store16, out_i64_store8, out_i64_store16, out_i64_store32, out_memory_size, out_memory_grow, out_i32_const, out_i64_const, out_i32_eqz, out_i32_eq, out_i32_ne, out_i32_lt_s, out_i32_lt_u, out_i32_gt_s, out_i32_gt_u, out_i32_le_s, out_i32_le_u, out_i32_ge_s, out_i32_ge_u, out_i64_eqz, out_i64_eq, out_i64_ne, out_i64_lt_s, out_i64_lt_u, out_i64_gt_s, out_i64_gt_u, out_i64_le_s, out_i64_le_u, out_i64_ge_s, out_i64_ge_u, out_i32_clz, out_i32_ctz, out_i32_popcnt, out_i32_add, out_i32_sub, out_i32_mul, out_i32_div_s, out_i32_div_u, out_i32_rem_s, out_i32_rem_u, out_i32_and, out_i32_or, out_i32_xor, out_i32_shl, out_i32_shr_s, out_i32_shr_u, out_i32_rotl, out_i32_rotr, out_i64_clz, out_i64_ctz, out_i64_popcnt, out_i64_add, out_i64_sub, out_i64_mul, out_i64_div_s, out_i64_div_u, out_i64_rem_s, out_i64_rem_u, out_i64_and, out_i64_or, out_i64_xor, out_i64_shl, out_i64_shr_s, out_i64_shr_u, out_i64_rotl, out_i64_rotr, out_i32_wrap_i64, out_i64_extend_i32_s, out_i64_extend_i32_u)
