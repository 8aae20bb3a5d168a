-- The instruction of an opcode (Core 1.0, 5.4), for those that hold no others.
use Rattle.std.specs.Prelude.{ℕ, Bool, ◌||◌, ◌&&◌, ◌==◌, nat_le, nat_lt, Option, Some, None, if◌then◌else◌}
use Rattle.wasm_form.specs.declared.instr.Instr.{Instr, roll-Instr}
use Rattle.wasm_form.specs.declared.instr.Instr.TheOpen as F
use Rattle.wasm_form.specs.declared.instr.MemArg.{MemArg}

abbrev pub is_between : ℕ → ℕ → ℕ → Bool
is_between low high b = nat_le low b && nat_le b high

-- the opcodes of floating point
unfoldable pub is_float : ℕ → Bool
is_float b =
    is_between 0x2a 0x2b b || is_between 0x38 0x39 b || is_between 0x43 0x44 b || is_between 0x5b 0x66 b
    || is_between 0x8b 0xa6 b || is_between 0xa8 0xab b || is_between 0xae 0xbf b

-- tests of i32
unfoldable pub i32_test_of : ℕ → Option Instr
i32_test_of b =
    if b == 0x45 then Some (roll-Instr F.I32Eqz)
    else (if b == 0x46 then Some (roll-Instr F.I32Eq)
    else (if b == 0x47 then Some (roll-Instr F.I32Ne)
    else (if b == 0x48 then Some (roll-Instr F.I32LtS)
    else (if b == 0x49 then Some (roll-Instr F.I32LtU)
    else (if b == 0x4a then Some (roll-Instr F.I32GtS)
    else (if b == 0x4b then Some (roll-Instr F.I32GtU)
    else (if b == 0x4c then Some (roll-Instr F.I32LeS)
    else (if b == 0x4d then Some (roll-Instr F.I32LeU)
    else (if b == 0x4e then Some (roll-Instr F.I32GeS)
    else (if b == 0x4f then Some (roll-Instr F.I32GeU)
    else None))))))))))

-- tests of i64
unfoldable pub i64_test_of : ℕ → Option Instr
i64_test_of b =
    if b == 0x50 then Some (roll-Instr F.I64Eqz)
    else (if b == 0x51 then Some (roll-Instr F.I64Eq)
    else (if b == 0x52 then Some (roll-Instr F.I64Ne)
    else (if b == 0x53 then Some (roll-Instr F.I64LtS)
    else (if b == 0x54 then Some (roll-Instr F.I64LtU)
    else (if b == 0x55 then Some (roll-Instr F.I64GtS)
    else (if b == 0x56 then Some (roll-Instr F.I64GtU)
    else (if b == 0x57 then Some (roll-Instr F.I64LeS)
    else (if b == 0x58 then Some (roll-Instr F.I64LeU)
    else (if b == 0x59 then Some (roll-Instr F.I64GeS)
    else (if b == 0x5a then Some (roll-Instr F.I64GeU)
    else None))))))))))

-- arithmetic of i32
unfoldable pub i32_arithmetic_of : ℕ → Option Instr
i32_arithmetic_of b =
    if b == 0x67 then Some (roll-Instr F.I32Clz)
    else (if b == 0x68 then Some (roll-Instr F.I32Ctz)
    else (if b == 0x69 then Some (roll-Instr F.I32Popcnt)
    else (if b == 0x6a then Some (roll-Instr F.I32Add)
    else (if b == 0x6b then Some (roll-Instr F.I32Sub)
    else (if b == 0x6c then Some (roll-Instr F.I32Mul)
    else (if b == 0x6d then Some (roll-Instr F.I32DivS)
    else (if b == 0x6e then Some (roll-Instr F.I32DivU)
    else (if b == 0x6f then Some (roll-Instr F.I32RemS)
    else (if b == 0x70 then Some (roll-Instr F.I32RemU)
    else (if b == 0x71 then Some (roll-Instr F.I32And)
    else (if b == 0x72 then Some (roll-Instr F.I32Or)
    else (if b == 0x73 then Some (roll-Instr F.I32Xor)
    else (if b == 0x74 then Some (roll-Instr F.I32Shl)
    else (if b == 0x75 then Some (roll-Instr F.I32ShrS)
    else (if b == 0x76 then Some (roll-Instr F.I32ShrU)
    else (if b == 0x77 then Some (roll-Instr F.I32Rotl)
    else (if b == 0x78 then Some (roll-Instr F.I32Rotr)
    else None)))))))))))))))))

-- arithmetic of i64
unfoldable pub i64_arithmetic_of : ℕ → Option Instr
i64_arithmetic_of b =
    if b == 0x79 then Some (roll-Instr F.I64Clz)
    else (if b == 0x7a then Some (roll-Instr F.I64Ctz)
    else (if b == 0x7b then Some (roll-Instr F.I64Popcnt)
    else (if b == 0x7c then Some (roll-Instr F.I64Add)
    else (if b == 0x7d then Some (roll-Instr F.I64Sub)
    else (if b == 0x7e then Some (roll-Instr F.I64Mul)
    else (if b == 0x7f then Some (roll-Instr F.I64DivS)
    else (if b == 0x80 then Some (roll-Instr F.I64DivU)
    else (if b == 0x81 then Some (roll-Instr F.I64RemS)
    else (if b == 0x82 then Some (roll-Instr F.I64RemU)
    else (if b == 0x83 then Some (roll-Instr F.I64And)
    else (if b == 0x84 then Some (roll-Instr F.I64Or)
    else (if b == 0x85 then Some (roll-Instr F.I64Xor)
    else (if b == 0x86 then Some (roll-Instr F.I64Shl)
    else (if b == 0x87 then Some (roll-Instr F.I64ShrS)
    else (if b == 0x88 then Some (roll-Instr F.I64ShrU)
    else (if b == 0x89 then Some (roll-Instr F.I64Rotl)
    else (if b == 0x8a then Some (roll-Instr F.I64Rotr)
    else None)))))))))))))))))

-- conversions
unfoldable pub conversion_of : ℕ → Option Instr
conversion_of b =
    if b == 0xa7 then Some (roll-Instr F.I32WrapI64)
    else (if b == 0xac then Some (roll-Instr F.I64ExtendI32S)
    else (if b == 0xad then Some (roll-Instr F.I64ExtendI32U)
    else None))

-- an instruction that is its opcode alone, from 0x45 on
unfoldable pub numeric_of : ℕ → Option Instr
numeric_of b =
    if nat_lt b 0x50 then i32_test_of b
    else (if nat_lt b 0x5b then i64_test_of b
    else (if nat_lt b 0x79 then i32_arithmetic_of b
    else (if nat_lt b 0x8b then i64_arithmetic_of b
    else conversion_of b)))

-- a load or a store, of an opcode from 0x28 to 0x3e that is none of floating point
unfoldable pub access_of : ℕ → MemArg → Instr
access_of b m =
    if b == 0x28 then roll-Instr (F.I32Load m)
    else (if b == 0x29 then roll-Instr (F.I64Load m)
    else (if b == 0x2c then roll-Instr (F.I32Load8S m)
    else (if b == 0x2d then roll-Instr (F.I32Load8U m)
    else (if b == 0x2e then roll-Instr (F.I32Load16S m)
    else (if b == 0x2f then roll-Instr (F.I32Load16U m)
    else (if b == 0x30 then roll-Instr (F.I64Load8S m)
    else (if b == 0x31 then roll-Instr (F.I64Load8U m)
    else (if b == 0x32 then roll-Instr (F.I64Load16S m)
    else (if b == 0x33 then roll-Instr (F.I64Load16U m)
    else (if b == 0x34 then roll-Instr (F.I64Load32S m)
    else (if b == 0x35 then roll-Instr (F.I64Load32U m)
    else (if b == 0x36 then roll-Instr (F.I32Store m)
    else (if b == 0x37 then roll-Instr (F.I64Store m)
    else (if b == 0x3a then roll-Instr (F.I32Store8 m)
    else (if b == 0x3b then roll-Instr (F.I32Store16 m)
    else (if b == 0x3c then roll-Instr (F.I64Store8 m)
    else (if b == 0x3d then roll-Instr (F.I64Store16 m)
    else roll-Instr (F.I64Store32 m))))))))))))))))))
