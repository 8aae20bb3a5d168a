-- A module of a main that does nothing, in 34 bytes.
use Rattle.std.proofs.Common.{◌≡◌, ℕ, List, [], ◌∷◌, ◌++◌, None, Ok, Err, refl, sym, ◌∙◌}
use Rattle.std.specs.Str.{is_utf8, chars}
use lib.Utf8.{encode}
use Rattle.wasm_form.specs.declared.module.ExportKind.TheVariants as kind
use Rattle.wasm_form.specs.declared.module.Module.{Module}
use Rattle.wasm_form.specs.Bytes.{ModuleBytes}
use Rattle.wasm_read.specs.Reading.{number_at, list_at, name_at, framed}
use Rattle.wasm_read.specs.Types.{types_at, type_at, result_at, at_most_one}
use Rattle.wasm_read.specs.Codes.{code_at, code_all, body_at}
use Rattle.wasm_read.specs.Entries.{imports_at, functions_at, globals_at, exported_at, export_at, exports_at, elements_at, groups_at, content_at, code_entry_at, codes_at, segments_at}
use Rattle.wasm_read.specs.Sections.{customs_in, customs_at, section_at, codes_section_at, finish_at, header_at, first_at, last_at, module_at}
use Rattle.wasm_read.specs.declared.fault.Fault.TheVariants.{NotModule}
use Rattle.wasm_read.proofs.ModuleLaws.{module_found, module_only}

-- with the size of the type section spelled so
abbrev with_size : List ℕ → List ℕ
with_size size =
    0x00 ∷ 0x61 ∷ 0x73 ∷ 0x6d ∷ 0x01 ∷ 0x00 ∷ 0x00 ∷ 0x00 ∷ 0x01 ∷ (size ++ 0x01 ∷ 0x60 ∷ 0x00 ∷ 0x00 ∷ 0x03 ∷ 0x02 ∷ 0x01 ∷ 0x00
    ∷ 0x07 ∷ 0x08 ∷ 0x01 ∷ 0x04 ∷ 0x6d ∷ 0x61 ∷ 0x69 ∷ 0x6e ∷ 0x00 ∷ 0x00 ∷ 0x0a ∷ 0x04 ∷ 0x01 ∷ 0x02 ∷ 0x00 ∷ 0x0b ∷ [])

abbrev smallest : Module
smallest = record {
  types = record { parameters = []; result = None } ∷ [];
  imports = [];
  functions = 0 ∷ [];
  tables = [];
  memories = [];
  globals = [];
  exports = record { name = 109 ∷ 97 ∷ 105 ∷ 110 ∷ []; kind = kind.Function; index = 0 } ∷ [];
  elements = [];
  codes = record { locals = []; body = [] } ∷ [];
  segments = [];
}

-- in one byte, in two, and in more than a number of 32 bits has
reads :
    (module_at (with_size (0x04 ∷ [])) ≡ Ok smallest) ×
    (module_at (with_size (0x84 ∷ 0x00 ∷ [])) ≡ Ok smallest) ×
    (module_at (with_size (0x84 ∷ 0x80 ∷ 0x80 ∷ 0x80 ∷ 0x80 ∷ 0x00 ∷ [])) ≡ Err NotModule)
unfolding is_utf8 chars encode module_at header_at first_at last_at finish_at section_at codes_section_at customs_at customs_in framed list_at number_at name_at types_at type_at result_at functions_at at_most_one exports_at export_at exported_at codes_at code_entry_at content_at groups_at body_at code_all code_at imports_at globals_at elements_at segments_at
reads = (refl, refl, refl)

spelled : ModuleBytes (with_size (0x04 ∷ [])) smallest
spelled = module_found (with_size (0x04 ∷ [])) smallest reads.0

spelled_padded : ModuleBytes (with_size (0x84 ∷ 0x00 ∷ [])) smallest
spelled_padded = module_found (with_size (0x84 ∷ 0x00 ∷ [])) smallest reads.1

spelled_by_none : (m : Module) → ModuleBytes (with_size (0x84 ∷ 0x80 ∷ 0x80 ∷ 0x80 ∷ 0x80 ∷ 0x00 ∷ [])) m → ⊥
spelled_by_none m h = let both = sym reads.2 ∙ module_only (with_size (0x84 ∷ 0x80 ∷ 0x80 ∷ 0x80 ∷ 0x80 ∷ 0x00 ∷ [])) m h in absurd cc
