-- Reading the entries of the sections (Core 1.0, 5.5).
use Rattle.std.specs.Prelude.{ℕ, ◌+◌, ◌*◌, Bool, true, false, ◌&&◌, nat_lt, ◌==◌, if◌then◌else◌, List, [], ◌∷◌, length, take, drop, Option, Some, None, is_none, Result, Ok, Err, slice_get}
use Rattle.std.specs.List.{list_any, sum_by}
use Rattle.std.specs.Str.{bytes_eq}
use Rattle.wasm_form.specs.declared.types.ValueType.{ValueType}
use Rattle.wasm_form.specs.declared.types.ValueType.TheVariants as value_type
use Rattle.wasm_form.specs.declared.types.Value.{Value}
use Rattle.wasm_form.specs.declared.types.Value.TheVariants as value
use Rattle.wasm_form.specs.declared.types.FunctionType.{FunctionType}
use Rattle.wasm_form.specs.declared.types.Limits.{Limits}
use Rattle.wasm_form.specs.declared.limits.TheConstants.{MOST_FUNCTIONS, MOST_GLOBALS, MOST_EXPORTS, MOST_LOCALS, PAGE}
use Rattle.wasm_form.specs.declared.module.HostCall.{HostCall}
use Rattle.wasm_form.specs.declared.module.HostCall.TheVariants as host
use Rattle.wasm_form.specs.declared.module.Import.{Import}
use Rattle.wasm_form.specs.declared.module.GlobalEntry.{GlobalEntry}
use Rattle.wasm_form.specs.declared.module.ExportKind.{ExportKind}
use Rattle.wasm_form.specs.declared.module.ExportKind.TheVariants as kind
use Rattle.wasm_form.specs.declared.module.Export.{Export}
use Rattle.wasm_form.specs.declared.module.ElementSegment.{ElementSegment}
use Rattle.wasm_form.specs.declared.module.LocalGroup.{LocalGroup}
use Rattle.wasm_form.specs.declared.module.CodeEntry.{CodeEntry}
use Rattle.wasm_form.specs.declared.module.DataSegment.{DataSegment}
use Rattle.wasm_form.specs.declared.limits.ModuleLimit.TheVariants as limit
use Rattle.wasm_form.specs.declared.limits.Outside.TheVariants as outside
use Rattle.wasm_form.specs.Tables.{is_float}
use Rattle.wasm_form.specs.Shortest.{swiftown, host_name}
use Rattle.wasm_read.specs.declared.fault.Fault.{Fault}
use Rattle.wasm_read.specs.declared.fault.Fault.TheVariants.{NotModule, OutsideProfile, Limit}
use Rattle.wasm_read.specs.declared.counts.Counts.{Counts}
use Rattle.wasm_read.specs.Reading.{◌>>=◌, Reader, u32_at, number_at, index_at, list_at, counted, name_at, framed}
use Rattle.wasm_read.specs.Types.{value_type_at}
use Rattle.wasm_read.specs.Codes.{body_at}

-- ---- imports

-- the import of this name
unfoldable pub call_of : List ℕ → Option HostCall
call_of name =
    if bytes_eq name (host_name host.WriteInt) then Some host.WriteInt
    else (if bytes_eq name (host_name host.WriteBool) then Some host.WriteBool
    else (if bytes_eq name (host_name host.WriteText) then Some host.WriteText
    else (if bytes_eq name (host_name host.WriteByte) then Some host.WriteByte
    else (if bytes_eq name (host_name host.ReadInt) then Some host.ReadInt
    else (if bytes_eq name (host_name host.Trap) then Some host.Trap
    else None)))))

abbrev pub is_word : List ValueType → Bool
is_word (value_type.I32 ∷ []) = true
is_word _ = false

abbrev pub is_long : List ValueType → Bool
is_long (value_type.I64 ∷ []) = true
is_long _ = false

abbrev pub are_words : List ValueType → Bool
are_words (value_type.I32 ∷ value_type.I32 ∷ []) = true
are_words _ = false

abbrev pub is_some_long : Option ValueType → Bool
is_some_long (Some value_type.I64) = true
is_some_long _ = false

-- the parameters of an import
abbrev pub host_takes : HostCall → List ValueType → Bool
host_takes host.WriteInt ps = is_long ps
host_takes host.WriteBool ps = is_word ps
host_takes host.WriteText ps = are_words ps
host_takes host.WriteByte ps = is_word ps
host_takes host.ReadInt ps = length ps == 0
host_takes host.Trap ps = are_words ps

-- the result of an import
abbrev pub host_gives : HostCall → Option ValueType → Bool
host_gives host.ReadInt r = is_some_long r
host_gives host.WriteInt r = is_none r
host_gives host.WriteBool r = is_none r
host_gives host.WriteText r = is_none r
host_gives host.WriteByte r = is_none r
host_gives host.Trap r = is_none r

abbrev pub is_host_type : HostCall → FunctionType → Bool
is_host_type call t = host_takes call t.parameters && host_gives call t.result

abbrev pub outside_import : Fault
outside_import = OutsideProfile outside.Import

abbrev pub typed_import : HostCall → Option FunctionType → ℕ × List ℕ → Result (Import × List ℕ) Fault
typed_import call None i = Err NotModule
typed_import call (Some t) i = if is_host_type call t then Ok (record { call = call; type_index = i.0 }, i.1) else Err outside_import

-- what follows the name of an import
unfoldable pub import_type_at : List FunctionType → HostCall → Reader Import
import_type_at types call [] = Err NotModule
import_type_at types call (k ∷ rest) =
    if k == 0 then (u32_at rest >>= λ i. typed_import call (slice_get types i.0) i)
    else (if nat_lt k 4 then Err outside_import else Err NotModule)

abbrev pub import_named : List FunctionType → List Import → List ℕ → Option HostCall → Reader Import
import_named types before name None rest = Err outside_import
import_named types before name (Some call) rest =
    if list_any (λ i. bytes_eq (host_name i.call) name) before then Err outside_import else import_type_at types call rest

-- an import behind those before it
unfoldable pub import_at : List FunctionType → List Import → Reader Import
import_at types before bytes = name_at bytes >>= λ from.
    if bytes_eq from.0 swiftown then (name_at from.1 >>= λ name. import_named types before name.0 (call_of name.0) name.1)
    else Err outside_import

unfoldable pub imports_at : List FunctionType → Reader (List Import)
imports_at types bytes = u32_at bytes >>= λ n. list_at (import_at types) [] n.0 n.1

-- ---- functions, globals and exports

unfoldable pub functions_at : ℕ → Reader (List ℕ)
functions_at types = counted MOST_FUNCTIONS (Limit limit.Functions) (λ _. index_at types)

-- what stands in an initial or offset expression in place of a constant or its end
abbrev pub strange_of : ℕ → Fault
strange_of b =
    if is_float b then OutsideProfile outside.Float
    else (if b == 0x23 then OutsideProfile outside.Global else NotModule)

abbrev pub expression_end_at : List ℕ → Result (List ℕ) Fault
expression_end_at [] = Err NotModule
expression_end_at (b ∷ rest) = if b == 0x0b then Ok rest else Err (strange_of b)

-- an i32 and its end
unfoldable pub offset_at : Reader ℕ
offset_at [] = Err NotModule
offset_at (b ∷ rest) =
    if b == 0x41 then (number_at true 32 rest >>= λ n. expression_end_at n.1 >>= λ r. Ok (n.0, r)) else Err (strange_of b)

-- a constant and its end
unfoldable pub initial_at : Reader Value
initial_at [] = Err NotModule
initial_at (b ∷ rest) =
    if b == 0x41 then (number_at true 32 rest >>= λ n. expression_end_at n.1 >>= λ r. Ok (value.I32 n.0, r))
    else (if b == 0x42 then (number_at true 64 rest >>= λ n. expression_end_at n.1 >>= λ r. Ok (value.I64 n.0, r))
    else Err (strange_of b))

abbrev pub mutable_at : Reader Bool
mutable_at [] = Err NotModule
mutable_at (b ∷ rest) = if b == 0 then Ok (false, rest) else (if b == 1 then Ok (true, rest) else Err NotModule)

unfoldable pub global_at : Reader GlobalEntry
global_at bytes = value_type_at bytes >>= λ t. mutable_at t.1 >>= λ m. initial_at m.1 >>= λ v.
    Ok (record { value_type = t.0; is_mutable = m.0; initial = v.0 }, v.1)

unfoldable pub globals_at : Reader (List GlobalEntry)
globals_at = counted MOST_GLOBALS (Limit limit.Globals) (λ _. global_at)

abbrev pub kind_at : Reader ExportKind
kind_at [] = Err NotModule
kind_at (b ∷ rest) =
    if b == 0 then Ok (kind.Function, rest)
    else (if b == 1 then Ok (kind.Table, rest)
    else (if b == 2 then Ok (kind.Memory, rest)
    else (if b == 3 then Ok (kind.Global, rest)
    else Err NotModule)))

-- how many there are of a kind
abbrev pub count_of : Counts → ExportKind → ℕ
count_of counts kind.Function = counts.functions
count_of counts kind.Table = counts.tables
count_of counts kind.Memory = counts.memories
count_of counts kind.Global = counts.globals

-- what follows the name of an export
unfoldable pub exported_at : Counts → List ℕ → Reader Export
exported_at counts name bytes = kind_at bytes >>= λ k. index_at (count_of counts k.0) k.1 >>= λ i.
    Ok (record { name = name; kind = k.0; index = i.0 }, i.1)

-- an export, of another name than those before it
unfoldable pub export_at : Counts → List Export → Reader Export
export_at counts before bytes = name_at bytes >>= λ name.
    if list_any (λ e. bytes_eq e.name name.0) before then Err NotModule else exported_at counts name.0 name.1

unfoldable pub exports_at : Counts → Reader (List Export)
exports_at counts = counted MOST_EXPORTS (Limit limit.Exports) (export_at counts)

-- ---- segments

-- the least size of a table or a memory, if there is one
abbrev pub least_of : List Limits → ℕ
least_of [] = 0
least_of (l ∷ ls) = l.min

-- a number that stays within the size behind this offset
abbrev pub span_at : ℕ → ℕ → Reader ℕ
span_at size offset bytes = u32_at bytes >>= λ n. if nat_lt size (offset + n.0) then Err NotModule else Ok n

unfoldable pub element_at : List Limits → ℕ → Reader ElementSegment
element_at tables functions bytes = index_at (length tables) bytes >>= λ t. offset_at t.1 >>= λ o.
    span_at (least_of tables) o.0 o.1 >>= λ n. list_at (λ _. index_at functions) [] n.0 n.1 >>= λ fs.
    Ok (record { offset = o.0; functions = fs.0 }, fs.1)

unfoldable pub elements_at : List Limits → ℕ → Reader (List ElementSegment)
elements_at tables functions bytes = u32_at bytes >>= λ n. list_at (λ _. element_at tables functions) [] n.0 n.1

-- so many bytes
abbrev pub bytes_at : ℕ → Reader (List ℕ)
bytes_at size bytes = if nat_lt (length bytes) size then Err NotModule else Ok (take size bytes, drop size bytes)

unfoldable pub segment_at : List Limits → Reader DataSegment
segment_at memories bytes = index_at (length memories) bytes >>= λ m. offset_at m.1 >>= λ o.
    span_at (least_of memories * PAGE) o.0 o.1 >>= λ n. bytes_at n.0 n.1 >>= λ b.
    Ok (record { offset = o.0; bytes = b.0 }, b.1)

unfoldable pub segments_at : List Limits → Reader (List DataSegment)
segments_at memories bytes = u32_at bytes >>= λ n. list_at (λ _. segment_at memories) [] n.0 n.1

-- ---- code

-- a group of locals behind so many locals, parameters counted
unfoldable pub group_at : ℕ → Reader LocalGroup
group_at total bytes = u32_at bytes >>= λ n.
    if nat_lt MOST_LOCALS (total + n.0) then Err (Limit limit.Locals)
    else (value_type_at n.1 >>= λ t. Ok (record { count = n.0; value_type = t.0 }, t.1))

-- a group of locals of a function with so many parameters, behind other groups
abbrev pub group_behind : ℕ → List LocalGroup → Reader LocalGroup
group_behind parameters before = group_at (parameters + sum_by (λ g. g.count) before)

unfoldable pub groups_at : ℕ → Reader (List LocalGroup)
groups_at parameters bytes = u32_at bytes >>= λ n. list_at (group_behind parameters) [] n.0 n.1

-- the locals and the instructions of a function with so many parameters
unfoldable pub content_at : ℕ → Reader CodeEntry
content_at parameters bytes = groups_at parameters bytes >>= λ g. body_at g.1 >>= λ c. Ok (record { locals = g.0; body = c.0 }, c.1)

abbrev pub parameter_count : Option FunctionType → ℕ
parameter_count None = 0
parameter_count (Some t) = length t.parameters

abbrev pub type_named : List FunctionType → Option ℕ → Option FunctionType
type_named types None = None
type_named types (Some i) = slice_get types i

-- how many parameters the defined function of this number has
abbrev pub parameters_of : List FunctionType → List ℕ → ℕ → ℕ
parameters_of types functions k = parameter_count (type_named types (slice_get functions k))

-- the code of a function, behind the codes of those before it
unfoldable pub code_entry_at : List FunctionType → List ℕ → List CodeEntry → Reader CodeEntry
code_entry_at types functions before = framed (content_at (parameters_of types functions (length before)))

unfoldable pub codes_at : List FunctionType → List ℕ → Reader (List CodeEntry)
codes_at types functions bytes = u32_at bytes >>= λ n.
    if n.0 == length functions then list_at (code_entry_at types functions) [] n.0 n.1 else Err NotModule
