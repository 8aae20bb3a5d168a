-- Reading the sections and the module (Core 1.0, 5.5.1 to 5.5.15).
use Rattle.std.specs.Prelude.{ℕ, zero, suc, ◌+◌, ◌-◌, Bool, ◌&&◌, nat_lt, nat_le, ◌==◌, if◌then◌else◌, List, [], ◌∷◌, length, take, drop, Option, Some, None, is_none, true, false, Result, Ok, Err, slice_get}
use Rattle.std.specs.List.{list_any}
use Rattle.std.specs.Str.{bytes_eq}
use Rattle.wasm_form.specs.declared.types.FunctionType.{FunctionType}
use Rattle.wasm_form.specs.declared.module.CodeEntry.{CodeEntry}
use Rattle.wasm_form.specs.declared.module.GlobalEntry.{GlobalEntry}
use Rattle.wasm_form.specs.declared.module.ExportKind.{ExportKind}
use Rattle.wasm_form.specs.declared.module.ExportKind.TheVariants as kind
use Rattle.wasm_form.specs.declared.module.Export.{Export}
use Rattle.wasm_form.specs.declared.module.Module.{Module}
use Rattle.wasm_form.specs.declared.limits.Outside.TheVariants as outside
use Rattle.wasm_read.specs.declared.counts.Counts.{Counts}
use Rattle.wasm_read.specs.declared.fault.Fault.{Fault}
use Rattle.wasm_read.specs.declared.fault.Fault.TheVariants.{NotModule, OutsideProfile, NoMain}
use Rattle.wasm_read.specs.Reading.{◌>>=◌, Reader, u32_at, name_at, framed}
use Rattle.wasm_read.specs.Types.{types_at, at_most_one, table_at, memory_at}
use Rattle.wasm_read.specs.Entries.{imports_at, functions_at, globals_at, exports_at, elements_at, codes_at, segments_at, type_named}

-- ---- sections

-- a custom section behind its number: a name, and then anything
unfoldable pub custom_at : List ℕ → Result (List ℕ) Fault
custom_at bytes = u32_at bytes >>= λ n. name_at (take n.0 n.1) >>= λ name.
    if nat_lt (length n.1) n.0 then Err NotModule else Ok (drop n.0 n.1)

-- a custom section with its number
abbrev pub numbered_custom_at : List ℕ → Result (List ℕ) Fault
numbered_custom_at [] = Err NotModule
numbered_custom_at (b ∷ rest) = if b == 0 then custom_at rest else Err NotModule

-- a custom section comes next
abbrev pub is_custom_at : List ℕ → Bool
is_custom_at [] = false
is_custom_at (b ∷ rest) = b == 0

-- fuel is as much as the number of bytes
unfoldable pub customs_in : ℕ → List ℕ → Result (List ℕ) Fault
customs_in zero bytes = Ok bytes
customs_in (suc fuel) bytes = if is_custom_at bytes then (numbered_custom_at bytes >>= λ after. customs_in fuel after) else Ok bytes

-- what follows the custom sections at the front
unfoldable pub customs_at : List ℕ → Result (List ℕ) Fault
customs_at bytes = customs_in (length bytes) bytes

abbrev pub section_by : {A : Type 0} → ℕ → Reader (List A) → Reader (List A)
section_by id content [] = Ok ([], [])
section_by id content (b ∷ rest) = if b == id then framed content rest else Ok ([], b ∷ rest)

-- the section of this number, or nothing where another stands
unfoldable pub section_at : {A : Type 0} → ℕ → Reader (List A) → Reader (List A)
section_at id content bytes = customs_at bytes >>= λ rest. section_by id content rest

-- No code section stands where no function is defined. A start section is refused where it stands.
abbrev pub without_codes : ℕ → Reader (List CodeEntry)
without_codes functions rest = if functions == 0 then Ok ([], rest) else Err NotModule

abbrev pub codes_by : List FunctionType → List ℕ → Reader (List CodeEntry)
codes_by types functions [] = without_codes (length functions) []
codes_by types functions (b ∷ rest) =
    if b == 10 then framed (codes_at types functions) rest
    else (if b == 8 then Ok ([], b ∷ rest) else without_codes (length functions) (b ∷ rest))

unfoldable pub codes_section_at : List FunctionType → List ℕ → Reader (List CodeEntry)
codes_section_at types functions bytes = customs_at bytes >>= λ rest. codes_by types functions rest

abbrev pub end_by : List ℕ → Result (List ℕ) Fault
end_by [] = Ok []
end_by (b ∷ rest) = if b == 8 then Err (OutsideProfile outside.Start) else Err NotModule

-- the end of the module, behind its last section
unfoldable pub finish_at : List ℕ → Result (List ℕ) Fault
finish_at bytes = customs_at bytes >>= λ rest. end_by rest

-- ---- the module

-- the magic number and the version
unfoldable pub header_at : List ℕ → Result (List ℕ) Fault
header_at bytes =
    if bytes_eq (take 8 bytes) (0x00 ∷ 0x61 ∷ 0x73 ∷ 0x6d ∷ 0x01 ∷ 0x00 ∷ 0x00 ∷ 0x00 ∷ []) then Ok (drop 8 bytes)
    else Err NotModule

-- sections 1 to 5
unfoldable pub first_at : Reader Module
first_at bytes =
    section_at 1 types_at bytes >>= λ types.
    section_at 2 (imports_at types.0) types.1 >>= λ imports.
    section_at 3 (functions_at (length types.0)) imports.1 >>= λ functions.
    section_at 4 (at_most_one table_at) functions.1 >>= λ tables.
    section_at 5 (at_most_one memory_at) tables.1 >>= λ memories.
    Ok (record { types = types.0; imports = imports.0; functions = functions.0; tables = tables.0; memories = memories.0; globals = []; exports = []; elements = []; codes = []; segments = [] }, memories.1)

abbrev pub function_count : Module → ℕ
function_count m = length m.imports + length m.functions

-- what an export of the module can name
abbrev pub counts_of : Module → List GlobalEntry → Counts
counts_of m globals = record { functions = function_count m; tables = length m.tables; memories = length m.memories; globals = length globals }

-- sections 6 to 11
unfoldable pub last_at : Module → List ℕ → Result Module Fault
last_at m bytes =
    section_at 6 globals_at bytes >>= λ globals.
    section_at 7 (exports_at (counts_of m globals.0)) globals.1 >>= λ exports.
    section_at 9 (elements_at m.tables (function_count m)) exports.1 >>= λ elements.
    codes_section_at m.types m.functions elements.1 >>= λ codes.
    section_at 11 (segments_at m.memories) codes.1 >>= λ segments.
    finish_at segments.1 >>= λ rest.
    Ok (record m { globals = globals.0; exports = exports.0; elements = elements.0; codes = codes.0; segments = segments.0 })

abbrev pub is_nothing : Option FunctionType → Bool
is_nothing None = false
is_nothing (Some t) = length t.parameters == 0 && is_none t.result

-- the letters of `main`
abbrev pub main_name : List ℕ
main_name = 109 ∷ 97 ∷ 105 ∷ 110 ∷ []

abbrev pub is_function : ExportKind → Bool
is_function kind.Function = true
is_function _ = false

-- the function of this index is defined, and of no parameters and no result
abbrev pub is_start : Module → ℕ → Bool
is_start m index = nat_le (length m.imports) index && is_nothing (type_named m.types (slice_get m.functions (index - length m.imports)))

-- the export starts the program
abbrev pub is_main : Module → Export → Bool
is_main m e = bytes_eq e.name main_name && (is_function e.kind && is_start m e.index)

abbrev pub has_main : Module → Bool
has_main m = list_any (is_main m) m.exports

-- the module that the bytes spell, or the first fault
unfoldable pub module_at : List ℕ → Result Module Fault
module_at bytes = header_at bytes >>= λ rest. first_at rest >>= λ f. last_at f.0 f.1 >>= λ m. if has_main m then Ok m else Err NoMain
