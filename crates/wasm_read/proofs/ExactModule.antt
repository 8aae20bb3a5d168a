-- A module is read exactly as it is spelled.
use Rattle.std.proofs.Common.{◌≡◌, ℕ, ◌<◌, ◌≤◌, true, cond, eqb, List, [], ◌∷◌, length, get_or, Option, Some, None, Result, Ok, Err, refl, sym, ap, subst, ◌∙◌, arith, ◌⊎◌, inl, inr}
use Rattle.std.specs.Prelude.{◌==◌, slice_get}
use Rattle.std.proofs.lemmas.Bool.{eqb-true}
use Rattle.std.proofs.lemmas.Bool.Decides.{Decides-eqb}
use Rattle.std.proofs.lemmas.Option.{get_or_from_slice_get, slice_get_within}
use Rattle.wasm_form.specs.declared.types.FunctionType.{FunctionType}
use Rattle.wasm_form.specs.declared.limits.TheConstants.{MOST_TYPES, MOST_FUNCTIONS, MOST_GLOBALS, MOST_EXPORTS, MOST_PARAMETERS, MOST_LOCALS}
use Rattle.wasm_form.specs.declared.module.ExportKind.{ExportKind}
use Rattle.wasm_form.specs.declared.module.ExportKind.TheVariants as kind
use Rattle.wasm_form.specs.declared.module.CodeEntry.{CodeEntry}
use Rattle.wasm_form.specs.declared.module.DataSegment.{DataSegment}
use Rattle.wasm_form.specs.declared.module.Module.{Module}
use Rattle.wasm_form.specs.declared.limits.ModuleLimit.TheVariants as limit
use Rattle.wasm_form.specs.Steps.{defined_type}
use Rattle.wasm_form.specs.Steps as step
use Rattle.wasm_form.specs.Bytes.{Then, IsU32, IsIndex, AreItems, IsList, IsType, IsImport, IsGlobal, IsExport, IsElement, IsCodeEntry, IsSegment, IsSection, AreCustom, kind_count, function_count, parameters_in}
use Rattle.wasm_form.proofs.WithinLaws.{all_in}
use Rattle.wasm_read.specs.declared.fault.Fault.{Fault}
use Rattle.wasm_read.specs.declared.fault.Fault.TheVariants.{NotModule, Limit}
use Rattle.wasm_read.specs.Reading.{◌>>=◌, Reader, u32_at, list_at, framed}
use Rattle.wasm_read.specs.Types.{types_at, at_most_one, table_at, memory_at}
use Rattle.wasm_read.specs.Types as types
use Rattle.wasm_read.specs.Entries.{imports_at, import_at, functions_at, globals_at, global_at, exports_at, export_at, count_of, elements_at, element_at, codes_at, code_entry_at, segments_at, segment_at}
use Rattle.wasm_read.specs.Reading as reading
use Rattle.wasm_read.specs.Sections.{customs_at, section_at, without_codes, codes_by, codes_section_at, end_by, finish_at, counts_of}
use Rattle.wasm_read.proofs.Leads.{ok_is}
use Rattle.wasm_read.proofs.Numbers.{chosen, bind_ok}
use Rattle.wasm_read.proofs.Exact.{Takes, Exact, exact_u32, exact_list}
use Rattle.wasm_read.proofs.ExactTypes.{exact_counted, exact_index, exact_type}
use Rattle.wasm_read.proofs.Parts.{exact_as, exact_then, exact_when}
use Rattle.wasm_read.proofs.ExactImports.{exact_import}
use Rattle.wasm_read.proofs.ExactGlobals.{exact_global, exact_export}
use Rattle.wasm_read.proofs.ExactSegments.{exact_items, exact_element, exact_segment, exact_code}
use Rattle.wasm_read.proofs.ExactSections.{customs_found, customs_only, no_customs, no_section, framed_found}

-- ---- the contents of the sections

abbrev pub Any : {A : Type 0} → List A → Type 0
Any xs = Unit {0}

-- a list of which only the elements are asked about
exact_any : {A : Type 0} (one : List A → A → List ℕ → Type 0) (r : Reader (List A)) → Exact (IsList one) r → Exact (λ xs bytes. Any xs × IsList one xs bytes) r
exact_any one r exact = exact_as (IsList one) (λ xs bytes. Any xs × IsList one xs bytes) r exact (λ xs bytes h. (tt, h)) (λ xs bytes h. h.1)

abbrev pub AtMost : {A : Type 0} → ℕ → List A → Type 0
AtMost most xs = length xs ≤ most

pub types_exact : Exact (λ ts bytes. AtMost MOST_TYPES ts × IsList (λ _. IsType) ts bytes) types_at
unfolding types_at
types_exact = exact_counted MOST_TYPES (Limit limit.Types) (λ _. IsType) (λ _. types.type_at) (λ _. exact_type)

pub imports_exact : (ts : List FunctionType) → Exact (λ is bytes. Any is × IsList (IsImport ts) is bytes) (imports_at ts)
unfolding imports_at
imports_exact ts = exact_any (IsImport ts) (imports_at ts) (exact_list (IsImport ts) (import_at ts) (exact_import ts))

pub functions_exact : (n : ℕ) → Exact (λ fs bytes. AtMost MOST_FUNCTIONS fs × IsList (λ _. IsIndex n) fs bytes) (functions_at n)
unfolding functions_at
functions_exact n = exact_counted MOST_FUNCTIONS (Limit limit.Functions) (λ _. IsIndex n) (λ _. reading.index_at n) (λ _. exact_index n)

pub globals_exact : Exact (λ gs bytes. AtMost MOST_GLOBALS gs × IsList (λ _. IsGlobal) gs bytes) globals_at
unfolding globals_at
globals_exact = exact_counted MOST_GLOBALS (Limit limit.Globals) (λ _. IsGlobal) (λ _. global_at) (λ _. exact_global)

-- what an export can name
counts_same : (first m : Module) → first.imports ≡ m.imports → first.functions ≡ m.functions → first.tables ≡ m.tables → first.memories ≡ m.memories → (k : ExportKind) → count_of (counts_of first m.globals) k ≡ kind_count m k
counts_same first m i f t s kind.Function = rw (i, f) refl
counts_same first m i f t s kind.Table = ap length t
counts_same first m i f t s kind.Memory = ap length s
counts_same first m i f t s kind.Global = refl

pub exports_exact : (first m : Module) → first.imports ≡ m.imports → first.functions ≡ m.functions → first.tables ≡ m.tables → first.memories ≡ m.memories → Exact (λ es bytes. AtMost MOST_EXPORTS es × IsList (IsExport m) es bytes) (exports_at (counts_of first m.globals))
unfolding exports_at
exports_exact first m i f t s = exact_counted MOST_EXPORTS (Limit limit.Exports) (IsExport m) (export_at (counts_of first m.globals)) (exact_export m (counts_of first m.globals) (counts_same first m i f t s))

pub elements_exact : (m : Module) → length m.tables ≤ 1 → Exact (λ es bytes. Any es × IsList (λ _. IsElement m) es bytes) (elements_at m.tables (function_count m))
unfolding elements_at
elements_exact m few = exact_any (λ _. IsElement m) (elements_at m.tables (function_count m)) (exact_list (λ _. IsElement m) (λ _. element_at m.tables (function_count m)) (λ _. exact_element m few))

pub segments_exact : (m : Module) → length m.memories ≤ 1 → Exact (λ ss bytes. Any ss × IsList (λ _. IsSegment m) ss bytes) (segments_at m.memories)
unfolding segments_at
segments_exact m few = exact_any (λ _. IsSegment m) (segments_at m.memories) (exact_list (λ _. IsSegment m) (λ _. segment_at m.memories) (λ _. exact_segment m few))

abbrev pub Code : Module → List CodeEntry → CodeEntry → List ℕ → Type 0
Code m before = IsCodeEntry m (length before)

abbrev pub AsMany : Module → List CodeEntry → Type 0
AsMany m cs = length cs ≡ length m.functions

abbrev Items : Module → ℕ → List CodeEntry → List ℕ → Type 0
Items m n cs bytes = (length cs ≡ n) × AreItems (Code m) [] cs bytes

abbrev Numbered : Module → ℕ → List CodeEntry → List ℕ → Type 0
Numbered m n cs bytes = (eqb n (length m.functions) ≡ true) × Items m n cs bytes

pub codes_exact : (m : Module) → ((k : ℕ) → parameters_in (defined_type m k) ≤ MOST_LOCALS) → Exact (λ cs bytes. AsMany m cs × IsList (Code m) cs bytes) (codes_at m.types m.functions)
unfolding codes_at
codes_exact m some =
    exact_as (λ cs bytes. (n : ℕ) × Then (IsU32 n) (Numbered m n cs) bytes) (λ cs bytes. AsMany m cs × IsList (Code m) cs bytes) (codes_at m.types m.functions)
    (exact_then IsU32 (Numbered m) u32_at (λ n bytes. cond (n == length m.functions) (list_at (code_entry_at m.types m.functions) [] n bytes) (Err NotModule)) exact_u32
    (λ n. exact_when (n == length m.functions) NotModule (Items m n) (list_at (code_entry_at m.types m.functions) [] n) (exact_items (Code m) (code_entry_at m.types m.functions) (exact_code m some) n)))
    (λ cs bytes h.
    let t = h.1 in
    let n = eqb-true h.0 (length m.functions) t.second.0 in
    let many = t.second.1.0 in
    (many ∙ n, record { front = t.front; back = t.back; parts = t.parts; first = subst (λ k. IsU32 k t.front) (sym many) t.first; second = t.second.1.1 }))
    (λ cs bytes h. let t = h.1 in (length cs, record { front = t.front; back = t.back; parts = t.parts; first = t.first; second = ((Decides-eqb (length cs) (length m.functions)).1 h.0, (refl, t.second)) }))

-- each type has at most 64 parameters
pub few_parameters : (m : Module) → ((k : ℕ) (d : FunctionType) → k < length m.types → length (get_or m.types k d).parameters ≤ MOST_PARAMETERS) → (k : ℕ) → parameters_in (defined_type m k) ≤ MOST_LOCALS
few_parameters m each k = of_index (slice_get m.functions k)
  where
    of_type : (i : ℕ) (o : Option FunctionType) → slice_get m.types i ≡ o → parameters_in o ≤ MOST_LOCALS
    of_type i None is = omega arith
    of_type i (Some t) is =
        let le = each i t (slice_get_within m.types i t is) in
        let same = ap (λ (u : FunctionType). length u.parameters) (get_or_from_slice_get m.types i t t is) in
        omega (arith, le, same)

    of_index : (o : Option ℕ) → parameters_in (step.◌>>=◌ o (λ i. slice_get m.types i)) ≤ MOST_LOCALS
    of_index None = omega arith
    of_index (Some i) = of_type i (slice_get m.types i) refl

pub few_by : (m : Module) (bytes : List ℕ) → IsSection 1 (λ _. IsType) m.types bytes → (k : ℕ) → parameters_in (defined_type m k) ≤ MOST_LOCALS
few_by m bytes h = few_parameters m (all_in 1 (λ _. IsType) (λ _ t. length t.parameters ≤ MOST_PARAMETERS) (λ before t bs e. e.0) m.types bytes h)

-- ---- what is read is spelled so

-- a start section comes next
abbrev pub Starts : List ℕ → Type 0
Starts bytes = (rest : List ℕ) × (bytes ≡ 8 ∷ rest)

abbrev pub FoundCodes : Module → List ℕ → List CodeEntry × List ℕ → Type 0
FoundCodes m bytes x = (AsMany m x.0 ⊎ Starts x.1) × Takes (IsSection 10 (Code m) x.0) bytes x.1

-- the section of the codes, or a start section, which is refused later
pub codes_found : (m : Module) → ((k : ℕ) → parameters_in (defined_type m k) ≤ MOST_LOCALS) → (bytes : List ℕ) (x : List CodeEntry × List ℕ) → codes_section_at m.types m.functions bytes ≡ Ok x → FoundCodes m bytes x
unfolding codes_section_at
codes_found m some bytes x e =
    let k = bind_ok (customs_at bytes) (codes_by m.types m.functions) x e in
    by k.0 (customs_found bytes k.0 k.1) k.2
  where
    none : (after : List ℕ) → Takes AreCustom bytes after → without_codes (length m.functions) after ≡ Ok x → FoundCodes m bytes x
    none after t h = elim (chosen (length m.functions == 0) _ _ _ h) [
      | inl p ↦ subst (FoundCodes m bytes) (ok_is ([], after) x p.1) (inl (sym (eqb-true (length m.functions) 0 p.0)), no_section 10 (Code m) bytes after t)
      | inr p ↦ absurd cc
    ]

    by : (after : List ℕ) → Takes AreCustom bytes after → codes_by m.types m.functions after ≡ Ok x → FoundCodes m bytes x
    by [] t h = none [] t h
    by (b ∷ after) t h = elim (chosen (b == 10) _ _ _ h) [
      | inl p ↦ let f = framed_found 10 (AsMany m) (Code m) (codes_at m.types m.functions) (codes_exact m some) bytes after b x (eqb-true b 10 p.0) t p.1 in (inl f.0, f.1)
      | inr p ↦ elim (chosen (b == 8) _ _ _ p.1) [
        | inl q ↦ subst (FoundCodes m bytes) (ok_is ([], b ∷ after) x q.1) (inr (after, ap (λ n. n ∷ after) (eqb-true b 8 q.0)), no_section 10 (Code m) bytes (b ∷ after) t)
        | inr q ↦ none (b ∷ after) t q.1
      ]
    ]

-- behind a start section nothing is read
pub not_started : (content : Reader (List DataSegment)) (bytes rest : List ℕ) (x : List DataSegment × List ℕ) → Starts bytes → section_at 11 content bytes ≡ Ok x → finish_at x.1 ≡ Ok rest → ⊥
unfolding section_at finish_at
not_started content bytes rest x s e f =
    let skipped : customs_at (8 ∷ s.0) ≡ Ok (8 ∷ s.0) = customs_only [] (8 ∷ s.0) no_customs refl in
    let read : section_at 11 content bytes ≡ Ok ([], 8 ∷ s.0) = rw (s.1, skipped) refl in
    let left : 8 ∷ s.0 ≡ x.1 = ap (λ (y : List DataSegment × List ℕ). y.1) (ok_is ([], 8 ∷ s.0) x (sym read ∙ e)) in
    let start : (customs_at (8 ∷ s.0) >>= end_by) ≡ Ok rest = ap (λ (l : List ℕ). customs_at l >>= end_by) left ∙ f in
    refused (sym (ap (λ (r : Result (List ℕ) Fault). r >>= end_by) skipped) ∙ start)
  where
    refused : end_by (8 ∷ s.0) ≡ Ok rest → ⊥
    refused h = cc
