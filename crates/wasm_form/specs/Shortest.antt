-- The shortest spelling of a module (Core 1.0, 5): each number in the fewest bytes, no custom section, no section
-- whose list is empty, and no else before an empty side.
use Rattle.std.specs.Prelude.{ℕ, Bool, List, [], ◌∷◌, ◌++◌, length, Option, Some, None, ◌==◌, if◌then◌else◌}
use Rattle.std.specs.List.{flat_map, concat}
use Rattle.wasm_form.specs.declared.instr.Instr.{Instr, out-Instr}
use Rattle.wasm_form.specs.declared.instr.Instr.TheOpen.{Instr-F}
use Rattle.wasm_form.specs.declared.instr.Instr.TheOpen as F
use Rattle.wasm_form.specs.declared.instr.Instr.TheFolds.{fold-Instr, map-Instr}
use Rattle.wasm_form.specs.declared.instr.MemArg.{MemArg}
use Rattle.wasm_form.specs.declared.types.ValueType.{ValueType}
use Rattle.wasm_form.specs.declared.types.ValueType.TheVariants as value_type
use Rattle.wasm_form.specs.declared.types.Value.{Value}
use Rattle.wasm_form.specs.declared.types.Value.TheVariants as value
use Rattle.wasm_form.specs.declared.types.Limits.{Limits}
use Rattle.wasm_form.specs.declared.types.FunctionType.{FunctionType}
use Rattle.wasm_form.specs.declared.module.HostCall.{HostCall}
use Rattle.wasm_form.specs.declared.module.HostCall.TheVariants as host
use Rattle.wasm_form.specs.declared.module.Import.{Import}
use Rattle.wasm_form.specs.declared.module.GlobalEntry.{GlobalEntry}
use Rattle.wasm_form.specs.declared.module.ExportKind.{ExportKind}
use Rattle.wasm_form.specs.declared.module.ExportKind.TheVariants as kind
use Rattle.wasm_form.specs.declared.module.Export.{Export}
use Rattle.wasm_form.specs.declared.module.ElementSegment.{ElementSegment}
use Rattle.wasm_form.specs.declared.module.LocalGroup.{LocalGroup}
use Rattle.wasm_form.specs.declared.module.CodeEntry.{CodeEntry}
use Rattle.wasm_form.specs.declared.module.DataSegment.{DataSegment}
use Rattle.wasm_form.specs.declared.module.Module.{Module}
use Rattle.wasm_form.specs.Leb.{unsigned_shortest, i32_shortest, i64_shortest}
use Rattle.wasm_form.specs.Opcode.{layer_opcode}

-- the number of the elements, and they, one after the other
abbrev pub list_shortest : {A : Type 0} → (A → List ℕ) → List A → List ℕ
list_shortest one xs = unsigned_shortest (length xs) ++ flat_map one xs

-- the number of the bytes, and they
abbrev pub sized : List ℕ → List ℕ
sized bytes = unsigned_shortest (length bytes) ++ bytes

abbrev pub value_type_byte : ValueType → ℕ
value_type_byte value_type.I32 = 0x7f
value_type_byte value_type.I64 = 0x7e

abbrev pub block_type_byte : Option ValueType → ℕ
block_type_byte None = 0x40
block_type_byte (Some t) = value_type_byte t

abbrev pub result_list : Option ValueType → List ValueType
result_list None = []
result_list (Some t) = t ∷ []

-- a byte alone
abbrev pub one_byte : ℕ → List ℕ
one_byte b = b ∷ []

abbrev pub value_type_shortest : ValueType → List ℕ
value_type_shortest t = one_byte (value_type_byte t)

unfoldable pub type_shortest : FunctionType → List ℕ
type_shortest t = 0x60 ∷ (list_shortest value_type_shortest t.parameters ++ list_shortest value_type_shortest (result_list t.result))

-- ---- instructions

abbrev pub access_shortest : MemArg → List ℕ
access_shortest m = unsigned_shortest m.align ++ unsigned_shortest m.offset

-- the second side of an if with its else, where it is not empty, and the end
abbrev pub second_shortest : List (List ℕ) → List ℕ
second_shortest [] = 0x0b ∷ []
second_shortest (i ∷ is) = 0x05 ∷ (concat (i ∷ is) ++ 0x0b ∷ [])

-- what follows the opcode, where the instructions within are already bytes
abbrev pub layer_immediates : Instr-F (List ℕ) → List ℕ
layer_immediates (F.Block t body) = block_type_byte t ∷ (concat body ++ 0x0b ∷ [])
layer_immediates (F.Loop t body) = block_type_byte t ∷ (concat body ++ 0x0b ∷ [])
layer_immediates (F.If t first second) = block_type_byte t ∷ (concat first ++ second_shortest second)
layer_immediates (F.Br l) = unsigned_shortest l
layer_immediates (F.BrIf l) = unsigned_shortest l
layer_immediates (F.BrTable ls l) = list_shortest unsigned_shortest ls ++ unsigned_shortest l
layer_immediates (F.Call f) = unsigned_shortest f
layer_immediates (F.CallIndirect t) = unsigned_shortest t ++ 0 ∷ []
layer_immediates (F.LocalGet x) = unsigned_shortest x
layer_immediates (F.LocalSet x) = unsigned_shortest x
layer_immediates (F.LocalTee x) = unsigned_shortest x
layer_immediates (F.GlobalGet x) = unsigned_shortest x
layer_immediates (F.GlobalSet x) = unsigned_shortest x
layer_immediates (F.I32Load m) = access_shortest m
layer_immediates (F.I64Load m) = access_shortest m
layer_immediates (F.I32Load8S m) = access_shortest m
layer_immediates (F.I32Load8U m) = access_shortest m
layer_immediates (F.I32Load16S m) = access_shortest m
layer_immediates (F.I32Load16U m) = access_shortest m
layer_immediates (F.I64Load8S m) = access_shortest m
layer_immediates (F.I64Load8U m) = access_shortest m
layer_immediates (F.I64Load16S m) = access_shortest m
layer_immediates (F.I64Load16U m) = access_shortest m
layer_immediates (F.I64Load32S m) = access_shortest m
layer_immediates (F.I64Load32U m) = access_shortest m
layer_immediates (F.I32Store m) = access_shortest m
layer_immediates (F.I64Store m) = access_shortest m
layer_immediates (F.I32Store8 m) = access_shortest m
layer_immediates (F.I32Store16 m) = access_shortest m
layer_immediates (F.I64Store8 m) = access_shortest m
layer_immediates (F.I64Store16 m) = access_shortest m
layer_immediates (F.I64Store32 m) = access_shortest m
layer_immediates F.MemorySize = 0 ∷ []
layer_immediates F.MemoryGrow = 0 ∷ []
layer_immediates (F.I32Const n) = i32_shortest n
layer_immediates (F.I64Const n) = i64_shortest n
layer_immediates _ = []

abbrev pub layer_shortest : Instr-F (List ℕ) → List ℕ
layer_shortest x = layer_opcode x ∷ layer_immediates x

abbrev pub instr_shortest : Instr → List ℕ
instr_shortest = fold-Instr (List ℕ) layer_shortest

-- what follows the opcode
abbrev pub immediates_of : Instr → List ℕ
immediates_of i = layer_immediates (map-Instr Instr (List ℕ) instr_shortest (out-Instr i))

-- the instructions up to their end
unfoldable pub body_shortest : List Instr → List ℕ
body_shortest body = flat_map instr_shortest body ++ 0x0b ∷ []

-- ---- the entries of the sections

-- the letters of `swiftown`
abbrev pub swiftown : List ℕ
swiftown = 115 ∷ 119 ∷ 105 ∷ 102 ∷ 116 ∷ 111 ∷ 119 ∷ 110 ∷ []

-- the letters of the name of an import
abbrev pub host_name : HostCall → List ℕ
host_name host.WriteInt = 119 ∷ 114 ∷ 105 ∷ 116 ∷ 101 ∷ 95 ∷ 105 ∷ 110 ∷ 116 ∷ []
host_name host.WriteBool = 119 ∷ 114 ∷ 105 ∷ 116 ∷ 101 ∷ 95 ∷ 98 ∷ 111 ∷ 111 ∷ 108 ∷ []
host_name host.WriteText = 119 ∷ 114 ∷ 105 ∷ 116 ∷ 101 ∷ 95 ∷ 116 ∷ 101 ∷ 120 ∷ 116 ∷ []
host_name host.WriteByte = 119 ∷ 114 ∷ 105 ∷ 116 ∷ 101 ∷ 95 ∷ 98 ∷ 121 ∷ 116 ∷ 101 ∷ []
host_name host.ReadInt = 114 ∷ 101 ∷ 97 ∷ 100 ∷ 95 ∷ 105 ∷ 110 ∷ 116 ∷ []
host_name host.Trap = 116 ∷ 114 ∷ 97 ∷ 112 ∷ []

unfoldable pub import_shortest : Import → List ℕ
import_shortest i = sized swiftown ++ (sized (host_name i.call) ++ (0 ∷ unsigned_shortest i.type_index))

unfoldable pub limits_shortest : Limits → List ℕ
limits_shortest limits = limits_by limits.min limits.max
  where
    limits_by : ℕ → Option ℕ → List ℕ
    limits_by min None = 0 ∷ unsigned_shortest min
    limits_by min (Some max) = 1 ∷ (unsigned_shortest min ++ unsigned_shortest max)

unfoldable pub table_shortest : Limits → List ℕ
table_shortest limits = 0x70 ∷ limits_shortest limits

abbrev pub mutable_byte : Bool → ℕ
mutable_byte mutable = if mutable then 1 else 0

-- a constant and its end
unfoldable pub constant_shortest : Value → List ℕ
constant_shortest (value.I32 n) = 0x41 ∷ (i32_shortest n ++ 0x0b ∷ [])
constant_shortest (value.I64 n) = 0x42 ∷ (i64_shortest n ++ 0x0b ∷ [])

unfoldable pub global_shortest : GlobalEntry → List ℕ
global_shortest g = value_type_byte g.value_type ∷ mutable_byte g.is_mutable ∷ constant_shortest g.initial

abbrev pub kind_byte : ExportKind → ℕ
kind_byte kind.Function = 0
kind_byte kind.Table = 1
kind_byte kind.Memory = 2
kind_byte kind.Global = 3

unfoldable pub export_shortest : Export → List ℕ
export_shortest e = sized e.name ++ (kind_byte e.kind ∷ unsigned_shortest e.index)

-- of table 0
unfoldable pub element_shortest : ElementSegment → List ℕ
element_shortest s = 0 ∷ (constant_shortest (value.I32 s.offset) ++ list_shortest unsigned_shortest s.functions)

unfoldable pub group_shortest : LocalGroup → List ℕ
group_shortest g = unsigned_shortest g.count ++ value_type_shortest g.value_type

unfoldable pub code_shortest : CodeEntry → List ℕ
code_shortest c = sized (list_shortest group_shortest c.locals ++ body_shortest c.body)

-- of memory 0
unfoldable pub segment_shortest : DataSegment → List ℕ
segment_shortest s = 0 ∷ (constant_shortest (value.I32 s.offset) ++ sized s.bytes)

-- ---- the module

-- a section, or nothing where its list is empty
unfoldable pub section_shortest : {A : Type 0} → ℕ → (A → List ℕ) → List A → List ℕ
section_shortest id one xs = if length xs == 0 then [] else id ∷ sized (list_shortest one xs)

-- the magic number and the version
abbrev pub header : List ℕ
header = 0x00 ∷ 0x61 ∷ 0x73 ∷ 0x6d ∷ 0x01 ∷ 0x00 ∷ 0x00 ∷ 0x00 ∷ []

-- sections 1 to 5
unfoldable pub first_sections : Module → List ℕ
first_sections m =
    section_shortest 1 type_shortest m.types
    ++ (section_shortest 2 import_shortest m.imports
    ++ (section_shortest 3 unsigned_shortest m.functions
    ++ (section_shortest 4 table_shortest m.tables
    ++ section_shortest 5 limits_shortest m.memories)))

-- sections 6 to 11
unfoldable pub last_sections : Module → List ℕ
last_sections m =
    section_shortest 6 global_shortest m.globals
    ++ (section_shortest 7 export_shortest m.exports
    ++ (section_shortest 9 element_shortest m.elements
    ++ (section_shortest 10 code_shortest m.codes
    ++ section_shortest 11 segment_shortest m.segments)))

unfoldable pub Shortest : Module → List ℕ
Shortest m = header ++ (first_sections m ++ last_sections m)
