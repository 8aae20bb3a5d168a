-- The module is within the limits of the machine.
use Rattle.std.proofs.Common.{◌≡◌, ℕ, zero, suc, [], ◌∷◌, Some, None, refl, subst, arith}
use Rattle.std.specs.Prelude.{slice_get}
use Rattle.wasm_form.specs.declared.module.CodeEntry.{CodeEntry}
use Rattle.wasm_form.specs.declared.types.FunctionType.{FunctionType}
use Rattle.wasm_form.specs.declared.types.ValueType.TheVariants as type
use Rattle.wasm_form.specs.Steps.{defined_type}
use Rattle.wasm_form.specs.Within.{IsWithin, FunctionIsWithin, nest}
use Rattle.wasm_form.proofs.Nests.{nest_is}
use Rattle.wasm_form.proofs.Outs.{outs}
use Rattle.bench_machine.specs.Bench.{benchmark, main_body, sum_body}

main_nests : (turns : ℕ) → nest (main_body turns) ≡ 2
main_nests turns = simp (nest_is, outs) refl

sum_nests : nest sum_body ≡ 0
sum_nests = simp (nest_is, outs) refl

abbrev main_type : FunctionType
main_type = record { parameters = []; result = None }

abbrev main_entry : ℕ → CodeEntry
main_entry turns = record { locals = record { count = 2; value_type = type.I64 } ∷ record { count = 1; value_type = type.I32 } ∷ []; body = main_body turns }

abbrev sum_type : FunctionType
sum_type = record { parameters = type.I64 ∷ type.I64 ∷ []; result = Some type.I64 }

abbrev sum_entry : CodeEntry
sum_entry = record { locals = []; body = sum_body }

known : (s t : FunctionType) (f g : CodeEntry) → FunctionIsWithin s f → s ≡ t → f ≡ g → FunctionIsWithin t g
known s t f g w e d = subst (λ (u : FunctionType). FunctionIsWithin u g) e (subst (λ (h : CodeEntry). FunctionIsWithin s h) d w)

both_functions : (turns k : ℕ) (t : FunctionType) (f : CodeEntry) → defined_type (benchmark turns) k ≡ Some t → slice_get (benchmark turns).codes k ≡ Some f → FunctionIsWithin t f
both_functions turns zero t f e d =
    let a : main_type ≡ t = cc in
    let b : main_entry turns ≡ f = cc in
    let n = main_nests turns in
    known main_type t (main_entry turns) f (record { locals = omega arith; labels = omega (arith, n) }) a b
both_functions turns (suc zero) t f e d =
    let a : sum_type ≡ t = cc in
    let b : sum_entry ≡ f = cc in
    let n = sum_nests in
    known sum_type t sum_entry f (record { locals = omega arith; labels = omega (arith, n) }) a b
both_functions turns (suc (suc k)) t f e d = absurd cc

pub benchmark_is_within : (turns : ℕ) → IsWithin (benchmark turns)
benchmark_is_within turns = record {
  main = record { index = 1; type = main_type; code = main_entry turns; exported = refl; defined = omega arith; has_type = refl; has_code = refl; parameters = refl; result = refl };
  functions = both_functions turns;
  table = omega arith;
  pages = omega arith;
  elements = λ k d lt. absurd (omega (arith, lt));
  segments = λ k d lt. absurd (omega (arith, lt));
}
