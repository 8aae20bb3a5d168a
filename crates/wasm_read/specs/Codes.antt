-- Reading instructions (Core 1.0, 5.4).
use Rattle.std.specs.Prelude.{ℕ, zero, suc, ◌+◌, Bool, true, false, nat_lt, ◌==◌, if◌then◌else◌, List, [], ◌∷◌, length, Option, Result, Ok, Err}
use Rattle.wasm_form.specs.declared.instr.Instr.{Instr, roll-Instr}
use Rattle.wasm_form.specs.declared.instr.Instr.TheOpen as F
use Rattle.wasm_form.specs.declared.instr.Instr.TheVariants.{Block, Loop, If}
use Rattle.wasm_form.specs.declared.instr.MemArg.{MemArg}
use Rattle.wasm_form.specs.declared.types.ValueType.{ValueType}
use Rattle.wasm_form.specs.declared.limits.ModuleLimit.TheVariants as limit
use Rattle.wasm_form.specs.declared.limits.Outside.TheVariants.{Float}
use Rattle.wasm_form.specs.Tables.{is_float, numeric_of, access_of}
use Rattle.wasm_read.specs.declared.fault.Fault.{Fault}
use Rattle.wasm_read.specs.declared.fault.Fault.TheVariants.{NotModule, OutsideProfile, Limit}
use Rattle.wasm_read.specs.Reading.{◌>>=◌, Reader, u32_at, number_at, or_fault, counted, end_at, zero_at}
use Rattle.wasm_read.specs.Types.{block_type_at}
use Rattle.wasm_form.specs.declared.limits.TheConstants.{MOST_LABELS, MOST_TARGETS}

-- ---- instructions that hold no others

-- an instruction of one number
abbrev pub of_number : (ℕ → Instr) → Reader Instr
of_number make rest = u32_at rest >>= λ n. Ok (make n.0, n.1)

unfoldable pub labels_at : Reader (List ℕ)
labels_at = counted MOST_TARGETS (Limit limit.Targets) (λ _. u32_at)

unfoldable pub br_table_at : Reader Instr
br_table_at rest = labels_at rest >>= λ ls. u32_at ls.1 >>= λ l. Ok (roll-Instr (F.BrTable ls.0 l.0), l.1)

unfoldable pub call_indirect_at : Reader Instr
call_indirect_at rest = u32_at rest >>= λ t. zero_at t.1 >>= λ r. Ok (roll-Instr (F.CallIndirect t.0), r)

-- opcodes below 0x20
unfoldable pub control_by : ℕ → Reader Instr
control_by b rest =
    if b == 0x00 then Ok (roll-Instr F.Unreachable, rest)
    else (if b == 0x01 then Ok (roll-Instr F.Nop, rest)
    else (if b == 0x0c then of_number (λ n. roll-Instr (F.Br n)) rest
    else (if b == 0x0d then of_number (λ n. roll-Instr (F.BrIf n)) rest
    else (if b == 0x0e then br_table_at rest
    else (if b == 0x0f then Ok (roll-Instr F.Return, rest)
    else (if b == 0x10 then of_number (λ n. roll-Instr (F.Call n)) rest
    else (if b == 0x11 then call_indirect_at rest
    else (if b == 0x1a then Ok (roll-Instr F.Drop, rest)
    else (if b == 0x1b then Ok (roll-Instr F.Select, rest)
    else Err NotModule)))))))))

-- an opcode from 0x20 to 0x24
unfoldable pub variable_of : ℕ → ℕ → Instr
variable_of b n =
    if b == 0x20 then roll-Instr (F.LocalGet n)
    else (if b == 0x21 then roll-Instr (F.LocalSet n)
    else (if b == 0x22 then roll-Instr (F.LocalTee n)
    else (if b == 0x23 then roll-Instr (F.GlobalGet n)
    else roll-Instr (F.GlobalSet n))))

-- opcodes from 0x20 to 0x27
unfoldable pub variable_by : ℕ → Reader Instr
variable_by b rest = if nat_lt 0x24 b then Err NotModule else of_number (variable_of b) rest

-- an alignment and an offset
unfoldable pub access_at : Reader MemArg
access_at rest = u32_at rest >>= λ a. u32_at a.1 >>= λ o. Ok (record { align = a.0; offset = o.0 }, o.1)

-- opcodes from 0x3f to 0x42
unfoldable pub constant_by : ℕ → Reader Instr
constant_by b rest =
    if b == 0x3f then (zero_at rest >>= λ r. Ok (roll-Instr F.MemorySize, r))
    else (if b == 0x40 then (zero_at rest >>= λ r. Ok (roll-Instr F.MemoryGrow, r))
    else (if b == 0x41 then (number_at true 32 rest >>= λ n. Ok (roll-Instr (F.I32Const n.0), n.1))
    else (number_at true 64 rest >>= λ n. Ok (roll-Instr (F.I64Const n.0), n.1))))

unfoldable pub plain_by : ℕ → Reader Instr
plain_by b rest =
    if is_float b then Err (OutsideProfile Float)
    else (if nat_lt b 0x20 then control_by b rest
    else (if nat_lt b 0x28 then variable_by b rest
    else (if nat_lt b 0x3f then (access_at rest >>= λ m. Ok (access_of b m.0, m.1))
    else (if nat_lt b 0x43 then constant_by b rest
    else or_fault (numeric_of b) rest))))

-- ---- blocks

-- an end or an else comes next
abbrev pub stops_at : List ℕ → Bool
stops_at [] = false
stops_at (b ∷ rest) = if b == 0x0b then true else b == 0x05

-- How a list of instructions is read, within so many labels.
abbrev pub Coded : Type 0
Coded = ℕ → Reader (List Instr)

-- within 1,024 labels
abbrev pub with_label : {A : Type 0} → ℕ → Result (A × List ℕ) Fault → Result (A × List ℕ) Fault
with_label labels read = if labels == MOST_LABELS then Err (Limit limit.Labels) else read

-- a block or a loop behind its opcode, where code reads the list in it
unfoldable pub nested_with : Coded → ℕ → Reader (Option ValueType × List Instr)
nested_with code labels rest = with_label labels (block_type_at rest >>= λ t. code (labels + 1) t.1 >>= λ c. end_at c.1 >>= λ r. Ok ((t.0, c.0), r))

-- a list and its end
abbrev pub closed_with : Coded → ℕ → Reader (List Instr)
closed_with code labels rest = code labels rest >>= λ c. end_at c.1 >>= λ r. Ok (c.0, r)

abbrev pub empty_end : Reader (List Instr)
empty_end bytes = end_at bytes >>= λ r. Ok ([], r)

-- the second side of an if with its end, or the end alone
unfoldable pub second_with : Coded → ℕ → Reader (List Instr)
second_with code labels [] = Err NotModule
second_with code labels (b ∷ rest) = if b == 0x05 then closed_with code labels rest else empty_end (b ∷ rest)

-- an if behind its opcode
unfoldable pub sides_with : Coded → ℕ → Reader (Option ValueType × List Instr × List Instr)
sides_with code labels rest =
    with_label labels (block_type_at rest >>= λ t. code (labels + 1) t.1 >>= λ c. second_with code (labels + 1) c.1 >>= λ d. Ok ((t.0, c.0, d.0), d.1))

abbrev pub instr_by : Coded → ℕ → ℕ → Reader Instr
instr_by code labels b rest =
    if b == 0x02 then (nested_with code labels rest >>= λ x. Ok (Block x.0.0 x.0.1, x.1))
    else (if b == 0x03 then (nested_with code labels rest >>= λ x. Ok (Loop x.0.0 x.0.1, x.1))
    else (if b == 0x04 then (sides_with code labels rest >>= λ x. Ok (If x.0.0 x.0.1 x.0.2, x.1))
    else plain_by b rest))

unfoldable pub instr_with : Coded → ℕ → Reader Instr
instr_with code labels [] = Err NotModule
instr_with code labels (b ∷ rest) = instr_by code labels b rest

abbrev pub code_with : Coded → ℕ → Reader (List Instr)
code_with code labels bytes =
    if stops_at bytes then Ok ([], bytes)
    else (instr_with code labels bytes >>= λ i. code labels i.1 >>= λ c. Ok (i.0 ∷ c.0, c.1))

-- fuel is more than the number of bytes
unfoldable pub code_at : ℕ → Coded
code_at zero labels bytes = Err NotModule
code_at (suc fuel) labels bytes = code_with (code_at fuel) labels bytes

-- the instructions up to an end or an else, which is left
unfoldable pub code_all : Coded
code_all labels bytes = code_at (suc (length bytes)) labels bytes

-- the instructions of a function, up to their end
unfoldable pub body_at : Reader (List Instr)
body_at bytes = closed_with code_all 0 bytes
