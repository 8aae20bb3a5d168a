-- The module of the tests is within the limits.
use Rattle.std.proofs.Common.{◌≡◌, ℕ, zero, suc, ◌≤◌, List, [], ◌∷◌, Some, None, codes, refl, subst, arith}
use Rattle.std.specs.Prelude.{slice_get}
use Rattle.wasm_form.specs.declared.instr.Instr.{Instr}
use Rattle.wasm_form.specs.declared.module.Module.{Module}
use Rattle.wasm_form.specs.declared.module.CodeEntry.{CodeEntry}
use Rattle.wasm_form.specs.declared.module.HostCall.TheVariants.{WriteInt}
use Rattle.wasm_form.specs.declared.module.ExportKind.TheVariants as kind
use Rattle.wasm_form.specs.declared.types.FunctionType.{FunctionType}
use Rattle.wasm_form.specs.declared.types.ValueType.TheVariants as type
use Rattle.wasm_form.specs.Steps.{defined_type}
use Rattle.wasm_form.specs.Within.{IsWithin, FunctionIsWithin, nest}

abbrev main_type : FunctionType
main_type = record { parameters = []; result = None }

abbrev main_entry : List Instr → CodeEntry
main_entry is = record { locals = []; body = is }

abbrev pub template : List Instr → Module
template is = record {
  types = record { parameters = []; result = None } ∷ record { parameters = type.I64 ∷ []; result = None } ∷ [];
  imports = record { call = WriteInt; type_index = 1 } ∷ [];
  functions = 0 ∷ [];
  tables = [];
  memories = [];
  globals = [];
  exports = record { name = codes "main"; kind = kind.Function; index = 1 } ∷ [];
  elements = [];
  codes = record { locals = []; body = is } ∷ [];
  segments = [];
}

only_main : (is : List Instr) → nest is ≤ 0 → (k : ℕ) (t : FunctionType) (f : CodeEntry) → defined_type (template is) k ≡ Some t → slice_get (template is).codes k ≡ Some f → FunctionIsWithin t f
only_main is le zero t f e d =
    let a : main_type ≡ t = cc in
    let b : main_entry is ≡ f = cc in
    subst (λ (u : FunctionType). FunctionIsWithin u f) a (subst (λ (g : CodeEntry). FunctionIsWithin main_type g) b (record { locals = omega arith; labels = omega (arith, le) }))
only_main is le (suc k) t f e d = absurd cc

pub template_is_within : (is : List Instr) → nest is ≤ 0 → IsWithin (template is)
template_is_within is le = record {
  main = record { index = 1; type = main_type; code = main_entry is; exported = refl; defined = omega arith; has_type = refl; has_code = refl; parameters = refl; result = refl };
  functions = only_main is le;
  table = omega arith;
  pages = omega arith;
  elements = λ k d lt. absurd (omega (arith, lt));
  segments = λ k d lt. absurd (omega (arith, lt));
}
