-- Which bytes spell which module (Core 1.0, 5), within the profile and the limits. A list of numbers stands for bytes
-- where each is below 256.
use Rattle.std.specs.Prelude.{◌≡◌, ◌≢◌, ℕ, ◌+◌, ◌*◌, ◌<◌, ◌≤◌, ◌⊎◌, true, false, List, [], ◌∷◌, ◌++◌, length, All, Option, Some, None, slice_get}
use Rattle.std.specs.Str.{IsUtf8}
use Rattle.wasm_form.specs.declared.instr.Instr.{Instr, out-Instr}
use Rattle.wasm_form.specs.declared.instr.Instr.TheOpen.{Instr-F}
use Rattle.wasm_form.specs.declared.instr.Instr.TheOpen as F
use Rattle.wasm_form.specs.declared.instr.Instr.TheVariants.{Block, Loop, If}
use Rattle.wasm_form.specs.declared.instr.MemArg.{MemArg}
use Rattle.wasm_form.specs.declared.types.ValueType.{ValueType}
use Rattle.wasm_form.specs.declared.types.ValueType.TheVariants as value_type
use Rattle.wasm_form.specs.declared.types.Value.{Value}
use Rattle.wasm_form.specs.declared.types.Value.TheVariants as value
use Rattle.wasm_form.specs.declared.types.Limits.{Limits}
use Rattle.wasm_form.specs.declared.types.FunctionType.{FunctionType}
use Rattle.wasm_form.specs.declared.limits.TheConstants.{MOST_TYPES, MOST_FUNCTIONS, MOST_GLOBALS, MOST_EXPORTS, MOST_PARAMETERS, MOST_LOCALS, MOST_LABELS, MOST_TARGETS, MOST_TABLE, MOST_PAGES, PAGE}
use Rattle.wasm_form.specs.declared.module.HostCall.{HostCall}
use Rattle.wasm_form.specs.declared.module.HostCall.TheVariants as host
use Rattle.wasm_form.specs.declared.module.Import.{Import}
use Rattle.wasm_form.specs.declared.module.GlobalEntry.{GlobalEntry}
use Rattle.wasm_form.specs.declared.module.ExportKind.{ExportKind}
use Rattle.wasm_form.specs.declared.module.ExportKind.TheVariants as kind
use Rattle.wasm_form.specs.declared.module.Export.{Export}
use Rattle.wasm_form.specs.declared.module.ElementSegment.{ElementSegment}
use Rattle.wasm_form.specs.declared.module.LocalGroup.{LocalGroup}
use Rattle.wasm_form.specs.declared.module.CodeEntry.{CodeEntry}
use Rattle.wasm_form.specs.declared.module.DataSegment.{DataSegment}
use Rattle.wasm_form.specs.declared.module.Module.{Module}
use Rattle.wasm_form.specs.Leb.{IsNumber}
use Rattle.wasm_form.specs.Steps.{defined_type, least}
use Rattle.wasm_form.specs.Within.{HasMain, count_locals}
use Rattle.wasm_form.specs.Opcode.{layer_opcode}
use Rattle.wasm_form.specs.Shortest.{value_type_byte, block_type_byte, result_list, mutable_byte, kind_byte, swiftown, host_name, header}

-- ---- parts

-- one part, and then another
pub record Then (P Q : List ℕ → Type 0) (bytes : List ℕ) : Type 0 where
  pub front : List ℕ
  pub back : List ℕ
  pub parts : bytes ≡ front ++ back
  pub first : P front
  pub second : Q back

abbrev pub Nothing : List ℕ → Type 0
Nothing bytes = bytes ≡ []

-- a byte, and then a part
abbrev pub Byte : ℕ → (List ℕ → Type 0) → List ℕ → Type 0
Byte b P [] = ⊥
Byte b P (c ∷ rest) = (c ≡ b) × P rest

abbrev pub IsU32 : ℕ → List ℕ → Type 0
IsU32 n bytes = IsNumber false 32 bytes n

-- a signed number, given as its two's complement
abbrev pub IsI32 : ℕ → List ℕ → Type 0
IsI32 n bytes = IsNumber true 32 bytes n

abbrev pub IsI64 : ℕ → List ℕ → Type 0
IsI64 n bytes = IsNumber true 64 bytes n

-- an index below this number
abbrev pub IsIndex : ℕ → ℕ → List ℕ → Type 0
IsIndex limit n bytes = (n < limit) × IsU32 n bytes

-- a part with the number of its bytes before it
pub record Sized (P : List ℕ → Type 0) (bytes : List ℕ) : Type 0 where
  pub front : List ℕ
  pub back : List ℕ
  pub parts : bytes ≡ front ++ back
  pub size : IsU32 (length back) front
  pub is : P back

-- a name (5.2.4)
abbrev pub IsName : List ℕ → List ℕ → Type 0
IsName name bytes = IsUtf8 name × Sized (λ b. b ≡ name) bytes

-- elements, each behind those before it
abbrev pub AreItems : {A : Type 0} → (List A → A → List ℕ → Type 0) → List A → List A → List ℕ → Type 0
AreItems one before [] bytes = Nothing bytes
AreItems one before (x ∷ xs) bytes = Then (one before x) (AreItems one (before ++ x ∷ []) xs) bytes

-- a vector (5.1.3): the number of the elements, and they
abbrev pub IsList : {A : Type 0} → (List A → A → List ℕ → Type 0) → List A → List ℕ → Type 0
IsList one xs bytes = Then (IsU32 (length xs)) (AreItems one [] xs) bytes

-- ---- types (5.3)

abbrev pub IsValueType : ValueType → List ℕ → Type 0
IsValueType t bytes = Byte (value_type_byte t) Nothing bytes

abbrev pub IsType : FunctionType → List ℕ → Type 0
IsType t bytes = (length t.parameters ≤ MOST_PARAMETERS)
    × Byte 0x60 (Then (IsList (λ _. IsValueType) t.parameters) (IsList (λ _. IsValueType) (result_list t.result))) bytes

abbrev pub AreBounds : ℕ → Option ℕ → List ℕ → Type 0
AreBounds min None bytes = Byte 0x00 (IsU32 min) bytes
AreBounds min (Some max) bytes = (min ≤ max) × Byte 0x01 (Then (IsU32 min) (IsU32 max)) bytes

abbrev pub IsTable : Limits → List ℕ → Type 0
IsTable l bytes = (l.min ≤ MOST_TABLE) × Byte 0x70 (AreBounds l.min l.max) bytes

abbrev pub IsMemory : Limits → List ℕ → Type 0
IsMemory l bytes = (l.min ≤ MOST_PAGES) × AreBounds l.min l.max bytes

-- ---- instructions (5.4)

abbrev pub IsEnd : List ℕ → Type 0
IsEnd bytes = Byte 0x0b Nothing bytes

abbrev pub IsAccess : MemArg → List ℕ → Type 0
IsAccess m bytes = Then (IsU32 m.align) (IsU32 m.offset) bytes

-- what follows the opcode of an instruction that holds no others
abbrev pub AreImmediates : Instr-F Instr → List ℕ → Type 0
AreImmediates (F.Block t body) bytes = ⊥
AreImmediates (F.Loop t body) bytes = ⊥
AreImmediates (F.If t first second) bytes = ⊥
AreImmediates (F.Br l) bytes = IsU32 l bytes
AreImmediates (F.BrIf l) bytes = IsU32 l bytes
AreImmediates (F.BrTable ls l) bytes = (length ls ≤ MOST_TARGETS) × Then (IsList (λ _. IsU32) ls) (IsU32 l) bytes
AreImmediates (F.Call f) bytes = IsU32 f bytes
AreImmediates (F.CallIndirect t) bytes = Then (IsU32 t) (Byte 0x00 Nothing) bytes
AreImmediates (F.LocalGet x) bytes = IsU32 x bytes
AreImmediates (F.LocalSet x) bytes = IsU32 x bytes
AreImmediates (F.LocalTee x) bytes = IsU32 x bytes
AreImmediates (F.GlobalGet x) bytes = IsU32 x bytes
AreImmediates (F.GlobalSet x) bytes = IsU32 x bytes
AreImmediates (F.I32Load m) bytes = IsAccess m bytes
AreImmediates (F.I64Load m) bytes = IsAccess m bytes
AreImmediates (F.I32Load8S m) bytes = IsAccess m bytes
AreImmediates (F.I32Load8U m) bytes = IsAccess m bytes
AreImmediates (F.I32Load16S m) bytes = IsAccess m bytes
AreImmediates (F.I32Load16U m) bytes = IsAccess m bytes
AreImmediates (F.I64Load8S m) bytes = IsAccess m bytes
AreImmediates (F.I64Load8U m) bytes = IsAccess m bytes
AreImmediates (F.I64Load16S m) bytes = IsAccess m bytes
AreImmediates (F.I64Load16U m) bytes = IsAccess m bytes
AreImmediates (F.I64Load32S m) bytes = IsAccess m bytes
AreImmediates (F.I64Load32U m) bytes = IsAccess m bytes
AreImmediates (F.I32Store m) bytes = IsAccess m bytes
AreImmediates (F.I64Store m) bytes = IsAccess m bytes
AreImmediates (F.I32Store8 m) bytes = IsAccess m bytes
AreImmediates (F.I32Store16 m) bytes = IsAccess m bytes
AreImmediates (F.I64Store8 m) bytes = IsAccess m bytes
AreImmediates (F.I64Store16 m) bytes = IsAccess m bytes
AreImmediates (F.I64Store32 m) bytes = IsAccess m bytes
AreImmediates F.MemorySize bytes = Byte 0x00 Nothing bytes
AreImmediates F.MemoryGrow bytes = Byte 0x00 Nothing bytes
AreImmediates (F.I32Const n) bytes = IsI32 n bytes
AreImmediates (F.I64Const n) bytes = IsI64 n bytes
AreImmediates _ bytes = Nothing bytes

abbrev pub IsPlain : Instr → List ℕ → Type 0
IsPlain i bytes = Byte (layer_opcode (out-Instr i)) (AreImmediates (out-Instr i)) bytes

-- An instruction, and a list of them, within so many labels, of which there are at most `MOST_LABELS`.
mutual
  pub data IsInstr : ℕ → Instr → List ℕ → Type 0 where
    plain : (labels : ℕ) (i : Instr) (bytes : List ℕ) → IsPlain i bytes → IsInstr labels i bytes
    block : (labels : ℕ) (i : Instr) (bytes : List ℕ) (t : Option ValueType) (body : List Instr) (code : List ℕ) → labels < MOST_LABELS → i ≡ Block t body
        → bytes ≡ 0x02 ∷ block_type_byte t ∷ (code ++ 0x0b ∷ []) → IsCode (labels + 1) body code → IsInstr labels i bytes
    loop : (labels : ℕ) (i : Instr) (bytes : List ℕ) (t : Option ValueType) (body : List Instr) (code : List ℕ) → labels < MOST_LABELS → i ≡ Loop t body
        → bytes ≡ 0x03 ∷ block_type_byte t ∷ (code ++ 0x0b ∷ []) → IsCode (labels + 1) body code → IsInstr labels i bytes
    one_side : (labels : ℕ) (i : Instr) (bytes : List ℕ) (t : Option ValueType) (side : List Instr) (code : List ℕ) → labels < MOST_LABELS → i ≡ If t side []
        → bytes ≡ 0x04 ∷ block_type_byte t ∷ (code ++ 0x0b ∷ []) → IsCode (labels + 1) side code → IsInstr labels i bytes
    two_sides : (labels : ℕ) (i : Instr) (bytes : List ℕ) (t : Option ValueType) (one other : List Instr) (code more : List ℕ) → labels < MOST_LABELS → i ≡ If t one other
        → bytes ≡ 0x04 ∷ block_type_byte t ∷ (code ++ 0x05 ∷ (more ++ 0x0b ∷ [])) → IsCode (labels + 1) one code → IsCode (labels + 1) other more → IsInstr labels i bytes

  pub data IsCode : ℕ → List Instr → List ℕ → Type 0 where
    no_more : (labels : ℕ) → IsCode labels [] []
    one_more : (labels : ℕ) (i : Instr) (is : List Instr) (front back bytes : List ℕ) → bytes ≡ front ++ back → IsInstr labels i front → IsCode labels is back → IsCode labels (i ∷ is) bytes

-- ---- the entries of the sections (5.5)

abbrev pub host_type : HostCall → FunctionType
host_type host.WriteInt = record { parameters = value_type.I64 ∷ []; result = None }
host_type host.WriteBool = record { parameters = value_type.I32 ∷ []; result = None }
host_type host.WriteText = record { parameters = value_type.I32 ∷ value_type.I32 ∷ []; result = None }
host_type host.WriteByte = record { parameters = value_type.I32 ∷ []; result = None }
host_type host.ReadInt = record { parameters = []; result = Some value_type.I64 }
host_type host.Trap = record { parameters = value_type.I32 ∷ value_type.I32 ∷ []; result = None }

-- an import of the profile, which none before it is
abbrev pub IsImport : List FunctionType → List Import → Import → List ℕ → Type 0
IsImport types before i bytes = (slice_get types i.type_index ≡ Some (host_type i.call)) × All (λ b. b.call ≢ i.call) before
    × Then (IsName swiftown) (Then (IsName (host_name i.call)) (Byte 0x00 (IsU32 i.type_index))) bytes

-- an initial or offset expression
abbrev pub IsConstant : Value → List ℕ → Type 0
IsConstant (value.I32 n) bytes = Byte 0x41 (Then (IsI32 n) IsEnd) bytes
IsConstant (value.I64 n) bytes = Byte 0x42 (Then (IsI64 n) IsEnd) bytes

abbrev pub IsGlobal : GlobalEntry → List ℕ → Type 0
IsGlobal g bytes = Byte (value_type_byte g.value_type) (Byte (mutable_byte g.is_mutable) (IsConstant g.initial)) bytes

-- the functions of a module, imports first
abbrev pub function_count : Module → ℕ
function_count m = length m.imports + length m.functions

-- how many there are of a kind
abbrev pub kind_count : Module → ExportKind → ℕ
kind_count m kind.Function = function_count m
kind_count m kind.Table = length m.tables
kind_count m kind.Memory = length m.memories
kind_count m kind.Global = length m.globals

-- an export, of another name than those before it
abbrev pub IsExport : Module → List Export → Export → List ℕ → Type 0
IsExport m before e bytes = All (λ b. b.name ≢ e.name) before × Then (IsName e.name) (Byte (kind_byte e.kind) (IsIndex (kind_count m e.kind) e.index)) bytes

abbrev pub IsElement : Module → ElementSegment → List ℕ → Type 0
IsElement m s bytes = (s.offset + length s.functions ≤ least m.tables)
    × Then (IsIndex (length m.tables) 0) (Then (IsConstant (value.I32 s.offset)) (IsList (λ _. IsIndex (function_count m)) s.functions)) bytes

abbrev pub IsGroup : LocalGroup → List ℕ → Type 0
IsGroup g bytes = Then (IsU32 g.count) (IsValueType g.value_type) bytes

abbrev pub parameters_in : Option FunctionType → ℕ
parameters_in None = 0
parameters_in (Some t) = length t.parameters

-- the code of the function of this number
abbrev pub IsCodeEntry : Module → ℕ → CodeEntry → List ℕ → Type 0
IsCodeEntry m k c bytes = (parameters_in (defined_type m k) + count_locals c.locals ≤ MOST_LOCALS)
    × Sized (Then (IsList (λ _. IsGroup) c.locals) (Then (IsCode 0 c.body) IsEnd)) bytes

abbrev pub IsSegment : Module → DataSegment → List ℕ → Type 0
IsSegment m s bytes = (s.offset + length s.bytes ≤ least m.memories * PAGE)
    × Then (IsIndex (length m.memories) 0) (Then (IsConstant (value.I32 s.offset)) (Sized (λ b. b ≡ s.bytes))) bytes

-- ---- sections

-- a custom section, of a name and of anything
abbrev pub IsCustom : List ℕ → List ℕ → Type 0
IsCustom name bytes = Byte 0x00 (Sized (Then (IsName name) (λ _. Unit {0}))) bytes

-- custom sections, one after the other
abbrev pub AreCustom : List ℕ → Type 0
AreCustom bytes = (names : List (List ℕ)) × AreItems (λ _. IsCustom) [] names bytes

-- a section of this number, or none where its list is empty, behind custom sections
pub record IsSection {A : Type 0} (id : ℕ) (one : List A → A → List ℕ → Type 0) (xs : List A) (bytes : List ℕ) : Type 0 where
  pub customs : List ℕ
  pub section : List ℕ
  pub parts : bytes ≡ customs ++ section
  pub skipped : AreCustom customs
  pub is : ((section ≡ []) × (xs ≡ [])) ⊎ Byte id (Sized (IsList one xs)) section

-- the numbers of the entries of a module are within the limits, and each defined function has code
pub record CountsAreWithin (m : Module) : Type 0 where
  pub types : length m.types ≤ MOST_TYPES
  pub functions : length m.functions ≤ MOST_FUNCTIONS
  pub tables : length m.tables ≤ 1
  pub memories : length m.memories ≤ 1
  pub globals : length m.globals ≤ MOST_GLOBALS
  pub exports : length m.exports ≤ MOST_EXPORTS
  pub codes : length m.codes ≡ length m.functions

abbrev pub AreSections : Module → List ℕ → Type 0
AreSections m bytes =
    Then (IsSection 1 (λ _. IsType) m.types) (Then (IsSection 2 (IsImport m.types) m.imports)
    (Then (IsSection 3 (λ _. IsIndex (length m.types)) m.functions) (Then (IsSection 4 (λ _. IsTable) m.tables)
    (Then (IsSection 5 (λ _. IsMemory) m.memories) (Then (IsSection 6 (λ _. IsGlobal) m.globals)
    (Then (IsSection 7 (IsExport m) m.exports) (Then (IsSection 9 (λ _. IsElement m) m.elements)
    (Then (IsSection 10 (λ before. IsCodeEntry m (length before)) m.codes) (Then (IsSection 11 (λ _. IsSegment m) m.segments) AreCustom))))))))) bytes

-- The bytes spell the module: the magic number and the version, and the sections in their order, with custom
-- sections between any two.
pub record ModuleBytes (bytes : List ℕ) (m : Module) : Type 0 where
  pub rest : List ℕ
  pub parts : bytes ≡ header ++ rest
  pub sections : AreSections m rest
  pub counts : CountsAreWithin m
  pub main : HasMain m

-- some bytes spell the module
abbrev pub IsSpelled : Module → Type 0
IsSpelled m = (bytes : List ℕ) × All (λ b. b < 256) bytes × ModuleBytes bytes m
