-- The module of a core is spelled, and its shortest spelling is short.
use Rattle.std.proofs.Common.{◌≡◌, ℕ, zero, suc, ◌+◌, ◌-◌, ◌*◌, ◌≤◌, ◌<◌, List, [], ◌∷◌, ◌++◌, Option, Some, None, refl, ap, subst, arith, length, map, length-append, ◌^◌}
use Rattle.std.specs.Prelude.{slice_get, replicate, codes, ◌≢◌}
use Rattle.std.proofs.lemmas.List.Elements.{All-nil, All-cons, All-from_recursion}
use Rattle.wasm_form.specs.declared.instr.Instr.TheVariants as i
use Rattle.wasm_form.specs.declared.module.Module.{Module}
use Rattle.wasm_form.specs.declared.module.Import.{Import}
use Rattle.wasm_form.specs.declared.module.HostCall.TheVariants as host
use Rattle.wasm_form.specs.declared.module.CodeEntry.{CodeEntry}
use Rattle.wasm_form.specs.declared.types.FunctionType.{FunctionType}
use Rattle.wasm_form.specs.declared.types.ValueType.TheVariants as value_type
use Rattle.wasm_form.specs.Steps.{◌>>=◌, defined_type}
use Rattle.wasm_form.specs.declared.module.ExportKind.TheVariants as kind
use Rattle.wasm_form.specs.Shortest.{Shortest, header}
use Rattle.wasm_form.specs.Bytes.{IsIndex, IsType, IsMemory, IsImport, IsExport, IsGroup, IsCodeEntry, parameters_in, IsSegment, IsSection, AreSections, CountsAreWithin, ModuleBytes, IsTable, IsElement, function_count}
use Rattle.wasm_form.proofs.LebLaws.{AreBytes}
use Rattle.wasm_form.specs.Within.{HasMain}
use Rattle.wasm_form.proofs.ShortestLaws.{shortest_spells}
use Rattle.core_form.specs.CoreSource.{Function, CoreProgram}
use Rattle.low_laws.specs.Lower.{lowered, function_entry, main_entry, forms_code, bare, numbers_from}
use Rattle.low_laws.specs.declared.places.TheConstants.{PAGES}
use Rattle.core_form.specs.Sizes.{bytes, all_bytes, FunctionFits, FunctionsFit, BytesFit, IsFitting}
use Rattle.low_laws.proofs.Whole.{last_code}
use Rattle.wasm_laws.proofs.Spelled.{CodeIs, bytes_both, u32_is, u32_short, u32_whole, i32_short, i32_whole, cons, nil}
use Rattle.wasm_laws.proofs.Spelled as spelled
use Rattle.core_form.specs.declared.limits.TheConstants.{MOST_FUNCTIONS, AREA, MOST_CODE_BYTES, MOST_CORE_TEXTS}
use Rattle.low_laws.proofs.Sizes.{code_is}
use Rattle.wasm_laws.proofs.Modules.{Of, as_well, wider, then_of, byte_of, u32_of, i32_of, sized_of, Items, no_items, item, list_of, section_of, no_section, no_customs, counted, function_type_of, same_of, name_of, import_of, index_of, end_of, group_of, code_of}

-- ---- entries

ones_of : (limit k : ℕ) (before : List ℕ) → 4 < limit → Items (λ _. IsIndex limit) before (replicate k 1 ++ 4 ∷ []) (5 * k + 5)
ones_of limit zero before lt = counted (omega arith) (item before 4 [] 5 0 (index_of limit 4 lt (omega arith)) (no_items (before ++ 4 ∷ [])))
ones_of limit (suc k) before lt = counted (omega arith) (item before 1 (replicate k 1 ++ 4 ∷ []) 5 (5 * k + 5) (index_of limit 1 (omega (arith, lt)) (omega arith)) (ones_of limit k (before ++ 1 ∷ []) lt))

-- a function of the core, at its number
function_of : (m : Module) (k : ℕ) (t : FunctionType) (f : Function) → defined_type m k ≡ Some t → length t.parameters ≡ 1 → FunctionFits f → bytes f.code ≤ MOST_CODE_BYTES → Of (IsCodeEntry m k (function_entry f)) (bytes f.code + 56)
function_of m k t f type one fits small =
    let locals = fits.locals in
    as_well (λ bs h. (let e = ap parameters_in type in omega (arith, e, one, locals), h))
    (wider (bytes f.code + 56) (omega arith) (sized_of (omega (arith, small))
    (then_of (list_of (λ _. IsGroup) (function_entry f).locals 24 (omega arith)
    (item [] (record { count = 2; value_type = value_type.I64 }) _ 6 18 (group_of (record { count = 2; value_type = value_type.I64 }) (omega arith)) (item _ (record { count = 3; value_type = value_type.I32 }) _ 6 12 (group_of (record { count = 3; value_type = value_type.I32 }) (omega arith)) (item _ (record { count = 32; value_type = value_type.I64 }) _ 6 6 (group_of (record { count = 32; value_type = value_type.I64 }) (omega arith)) (item _ (record { count = f.locals; value_type = value_type.I64 }) [] 6 0 (group_of (record { count = f.locals; value_type = value_type.I64 }) (omega (arith, locals))) (no_items _))))))
    (then_of (code_of (forms_code f.code bare) (bytes f.code) (code_is f.code 0 bare fits.numbers (λ j lt. omega (arith, lt)) (let q = fits.labels in omega (arith, q)))) end_of))))

main_of : (m : Module) (k : ℕ) (t : FunctionType) (main : ℕ) → defined_type m k ≡ Some t → length t.parameters ≡ 0 → main ≤ MOST_FUNCTIONS → Of (IsCodeEntry m k (main_entry main)) 50
main_of m k t main type none small =
    as_well (λ bs h. (let e = ap parameters_in type in omega (arith, e, none), h))
    (wider 50 (omega arith) (sized_of (omega arith)
    (then_of (list_of (λ _. IsGroup) [] 0 (omega arith) (no_items []))
    (then_of (code_of (i.I32Const 0 ∷ i.Call (6 + main) ∷ []) 22 (cons (spelled.i32_const 0 (omega arith)) (cons (spelled.call (6 + main) (omega (arith, small))) (nil 0)))) end_of))))

-- all functions from one on, and then main
entries_of : (m : Module) (fs : List Function) (main : ℕ) (before : List CodeEntry) → ((k : ℕ) → k < length fs → (t : FunctionType) × ((defined_type m (length before + k) ≡ Some t) × (length t.parameters ≡ 1))) → (u : FunctionType) → defined_type m (length before + length fs) ≡ Some u → length u.parameters ≡ 0
    → FunctionsFit fs → all_bytes fs ≤ MOST_CODE_BYTES → main ≤ MOST_FUNCTIONS → Items (λ b. IsCodeEntry m (length b)) before (map function_entry fs ++ main_entry main ∷ []) (all_bytes fs + 50)
entries_of m [] main before types u type none fits small lt =
    let e : length before + 0 ≡ length before = omega arith in
    counted (omega arith) (item before (main_entry main) [] 50 0 (main_of m (length before) u main (subst (λ (k : ℕ). defined_type m k ≡ Some u) e type) none lt) (no_items _))
entries_of m (f ∷ fs) main before types u type none fits small lt =
    let zero_there = types 0 (omega arith) in
    let e : length before + 0 ≡ length before = omega arith in
    let l : length (before ++ function_entry f ∷ []) ≡ length before + 1 = length-append before (function_entry f ∷ []) in
    counted (omega arith) (item before (function_entry f) (map function_entry fs ++ main_entry main ∷ []) (bytes f.code + 56) (all_bytes fs + 50)
    (function_of m (length before) zero_there.0 f (subst (λ (k : ℕ). defined_type m k ≡ Some zero_there.0) e zero_there.1.0) zero_there.1.1 fits.0 (omega (arith, small)))
    (entries_of m fs main (before ++ function_entry f ∷ [])
    (λ k lt. let t = types (suc k) (omega (arith, lt)) in let q : length before + suc k ≡ length (before ++ function_entry f ∷ []) + k = omega (arith, l) in (t.0, (subst (λ (j : ℕ). defined_type m j ≡ Some t.0) q t.1.0, t.1.1)))
    u (let q : length before + length (f ∷ fs) ≡ length (before ++ function_entry f ∷ []) + length fs = omega (arith, l) in subst (λ (j : ℕ). defined_type m j ≡ Some u) q type) none fits.1 (omega (arith, small)) lt))

-- ---- the sections of the module of a core

abbrev long_type : FunctionType
long_type = record { parameters = value_type.I64 ∷ []; result = None }

abbrev word_type : FunctionType
word_type = record { parameters = value_type.I32 ∷ []; result = None }

abbrev words_type : FunctionType
words_type = record { parameters = value_type.I32 ∷ value_type.I32 ∷ []; result = None }

abbrev reading_type : FunctionType
reading_type = record { parameters = []; result = Some value_type.I64 }

abbrev main_type : FunctionType
main_type = record { parameters = []; result = None }

abbrev int_import : Import
int_import = record { call = host.WriteInt; type_index = 0 }

abbrev bool_import : Import
bool_import = record { call = host.WriteBool; type_index = 1 }

abbrev text_import : Import
text_import = record { call = host.WriteText; type_index = 2 }

abbrev byte_import : Import
byte_import = record { call = host.WriteByte; type_index = 1 }

abbrev read_import : Import
read_import = record { call = host.ReadInt; type_index = 3 }

abbrev trap_import : Import
trap_import = record { call = host.Trap; type_index = 2 }

abbrev Unlike_int_import : Import → Type 0
Unlike_int_import b = b.call ≢ host.WriteInt

abbrev Unlike_bool_import : Import → Type 0
Unlike_bool_import b = b.call ≢ host.WriteBool

abbrev Unlike_text_import : Import → Type 0
Unlike_text_import b = b.call ≢ host.WriteText

abbrev Unlike_byte_import : Import → Type 0
Unlike_byte_import b = b.call ≢ host.WriteByte

abbrev Unlike_read_import : Import → Type 0
Unlike_read_import b = b.call ≢ host.ReadInt

abbrev Unlike_trap_import : Import → Type 0
Unlike_trap_import b = b.call ≢ host.Trap

length_ones : (k : ℕ) → length (replicate {A = ℕ} k 1) ≡ k
length_ones zero = refl
length_ones (suc k) = ap suc (length_ones k)

length_numbers : (from count : ℕ) → length (numbers_from from count) ≡ count
length_numbers from zero = refl
length_numbers from (suc count) = ap suc (length_numbers (suc from) count)

numbers_of : (limit from count : ℕ) (before : List ℕ) → from + count ≤ limit → from + count < 2 ^ 32 → Items (λ _. IsIndex limit) before (numbers_from from count) (5 * count)
numbers_of limit from zero before le lt = no_items before
numbers_of limit from (suc count) before le lt = counted (omega arith) (item before from (numbers_from (suc from) count) 5 (5 * count) (index_of limit from (omega (arith, le)) (omega (arith, lt))) (numbers_of limit (suc from) count (before ++ from ∷ []) (omega (arith, le)) (omega (arith, lt))))

length_entries : (fs : List Function) → length (map function_entry fs) ≡ length fs
length_entries [] = refl
length_entries (f ∷ fs) = ap suc (length_entries fs)

texts_whole : (bs : List ℕ) → BytesFit bs → AreBytes bs
texts_whole [] h = tt
texts_whole (b ∷ bs) h = (h.0, texts_whole bs h.1)

ones_there : (k n : ℕ) → k < n → slice_get {X = ℕ} (replicate n 1 ++ 4 ∷ []) k ≡ Some 1
ones_there k zero lt = absurd (omega (arith, lt))
ones_there zero (suc n) lt = refl
ones_there (suc k) (suc n) lt = ones_there k n (omega (arith, lt))

four_there : (n : ℕ) → slice_get {X = ℕ} (replicate n 1 ++ 4 ∷ []) n ≡ Some 4
four_there zero = refl
four_there (suc n) = four_there n

-- the type of each function, by the list of the numbers of types
abbrev type_at : List ℕ → ℕ → Option FunctionType
type_at functions k = slice_get functions k >>= (λ t. slice_get (long_type ∷ word_type ∷ words_type ∷ reading_type ∷ main_type ∷ []) t)

word_there : (fs : List Function) (k : ℕ) → k < length fs → type_at (replicate (length fs) 1 ++ 4 ∷ []) (0 + k) ≡ Some word_type
word_there fs k lt = let e : 0 + k ≡ k = omega arith in rw (e, ones_there k (length fs) lt) refl

main_there : (fs : List Function) → type_at (replicate (length fs) 1 ++ 4 ∷ []) (0 + length fs) ≡ Some main_type
main_there fs = let e : 0 + length fs ≡ length fs = omega arith in rw (e, four_there (length fs)) refl

module _ (c : CoreProgram) (fits : IsFitting c) where
  types_of : Of (IsSection 1 (λ _. IsType) (lowered c).types) 500
  unfolding lowered
  types_of = wider 500 (omega arith) (section_of 1 (λ _. IsType) _ 400 (omega arith) (omega arith) (omega arith)
      (item _ long_type _ 80 320 (function_type_of long_type (omega arith) (omega arith))
      (item _ word_type _ 80 240 (function_type_of word_type (omega arith) (omega arith))
      (item _ words_type _ 80 160 (function_type_of words_type (omega arith) (omega arith))
      (item _ reading_type _ 80 80 (function_type_of reading_type (omega arith) (omega arith))
      (item _ main_type _ 80 0 (function_type_of main_type (omega arith) (omega arith)) (no_items _)))))))

  abbrev all_types : List FunctionType
  all_types = long_type ∷ word_type ∷ words_type ∷ reading_type ∷ main_type ∷ []

  imports_of : Of (IsSection 2 (IsImport (lowered c).types) (lowered c).imports) 300
  unfolding lowered
  imports_of = wider 300 (omega arith) (section_of 2 (IsImport all_types) _ 240 (omega arith) (omega arith) (omega arith)
      (item _ int_import _ 40 200 (import_of all_types ([]) int_import refl (All-nil Unlike_int_import) refl (omega arith) (omega arith))
      (item _ bool_import _ 40 160 (import_of all_types (int_import ∷ []) bool_import refl (All-cons Unlike_bool_import int_import ([]) (λ e. cc) (All-nil Unlike_bool_import)) refl (omega arith) (omega arith))
      (item _ text_import _ 40 120 (import_of all_types (int_import ∷ bool_import ∷ []) text_import refl (All-cons Unlike_text_import int_import (bool_import ∷ []) (λ e. cc) (All-cons Unlike_text_import bool_import ([]) (λ e. cc) (All-nil Unlike_text_import))) refl (omega arith) (omega arith))
      (item _ byte_import _ 40 80 (import_of all_types (int_import ∷ bool_import ∷ text_import ∷ []) byte_import refl (All-cons Unlike_byte_import int_import (bool_import ∷ text_import ∷ []) (λ e. cc) (All-cons Unlike_byte_import bool_import (text_import ∷ []) (λ e. cc) (All-cons Unlike_byte_import text_import ([]) (λ e. cc) (All-nil Unlike_byte_import)))) refl (omega arith) (omega arith))
      (item _ read_import _ 40 40 (import_of all_types (int_import ∷ bool_import ∷ text_import ∷ byte_import ∷ []) read_import refl (All-cons Unlike_read_import int_import (bool_import ∷ text_import ∷ byte_import ∷ []) (λ e. cc) (All-cons Unlike_read_import bool_import (text_import ∷ byte_import ∷ []) (λ e. cc) (All-cons Unlike_read_import text_import (byte_import ∷ []) (λ e. cc) (All-cons Unlike_read_import byte_import ([]) (λ e. cc) (All-nil Unlike_read_import))))) refl (omega arith) (omega arith))
      (item _ trap_import _ 40 0 (import_of all_types (int_import ∷ bool_import ∷ text_import ∷ byte_import ∷ read_import ∷ []) trap_import refl (All-cons Unlike_trap_import int_import (bool_import ∷ text_import ∷ byte_import ∷ read_import ∷ []) (λ e. cc) (All-cons Unlike_trap_import bool_import (text_import ∷ byte_import ∷ read_import ∷ []) (λ e. cc) (All-cons Unlike_trap_import text_import (byte_import ∷ read_import ∷ []) (λ e. cc) (All-cons Unlike_trap_import byte_import (read_import ∷ []) (λ e. cc) (All-cons Unlike_trap_import read_import ([]) (λ e. cc) (All-nil Unlike_trap_import)))))) refl (omega arith) (omega arith)) (no_items _))))))))

  functions_of : Of (IsSection 3 (λ _. IsIndex (length (lowered c).types)) (lowered c).functions) 60000
  unfolding lowered
  functions_of =
      let few = fits.is_small.few in
      let l = length-append (replicate {A = ℕ} (length c.functions) 1) (4 ∷ []) in
      let n = length_ones (length c.functions) in
      wider 60000 (omega (arith, few)) (section_of 3 (λ _. IsIndex 5) _ (5 * length c.functions + 5) (omega arith) (omega (arith, few, l, n)) (omega (arith, few)) (ones_of 5 (length c.functions) [] (omega arith)))

  memories_of : Of (IsSection 5 (λ _. IsMemory) (lowered c).memories) 30
  unfolding lowered
  memories_of = wider 30 (omega arith) (section_of 5 (λ _. IsMemory) _ 6 (omega arith) (omega arith) (omega arith)
      (item [] (record { min = PAGES; max = None }) [] 6 0 (as_well (λ bs h. (omega arith, h)) (byte_of 0 (omega arith) (u32_of PAGES (omega arith)))) (no_items _)))

  exports_of : Of (IsSection 7 (IsExport (lowered c)) (lowered c).exports) 60
  unfolding lowered
  exports_of =
      let few = fits.is_small.few in
      let l = length-append (replicate {A = ℕ} (length c.functions) 1) (4 ∷ []) in
      let n = length_ones (length c.functions) in
      wider 60 (omega arith) (section_of 7 (IsExport (lowered c)) _ 40 (omega arith) (omega arith) (omega arith)
      (item [] (record { name = codes "main"; kind = kind.Function; index = 6 + length c.functions }) [] 40 0
      (as_well (λ bs h. (All-nil _, h)) (wider 40 (omega arith) (then_of (name_of (codes "main") 4 refl (omega arith) (omega arith)) (byte_of 0 (omega arith) (index_of _ (6 + length c.functions) (omega (arith, l, n)) (omega (arith, few))))))) (no_items _)))

  codes_of : Of (IsSection 10 (λ before. IsCodeEntry (lowered c) (length before)) (lowered c).codes) (all_bytes c.functions + 70)
  unfolding lowered
  codes_of =
      let few = fits.is_small.few in
      let small = fits.short_code in
      let l = length-append (map function_entry c.functions) (main_entry c.main ∷ []) in
      let n = length_entries c.functions in
      wider (all_bytes c.functions + 70) (omega arith) (section_of 10 (λ before. IsCodeEntry (lowered c) (length before)) _ (all_bytes c.functions + 50) (omega arith) (omega (arith, few, l, n)) (omega (arith, small))
      (entries_of (lowered c) c.functions c.main [] (λ k lt. (word_type, (word_there c.functions k lt, refl))) main_type (main_there c.functions) refl fits.functions small fits.main))

  segments_of : Of (IsSection 11 (λ _. IsSegment (lowered c)) (lowered c).segments) 1114200
  unfolding lowered
  segments_of =
      let short = fits.is_small.short in
      wider 1114200 (omega arith) (section_of 11 (λ _. IsSegment (lowered c)) _ 1114150 (omega arith) (omega arith) (omega arith)
      (item [] (record { offset = (8 * AREA); bytes = c.texts }) [] 1114150 0
      (as_well (λ bs h. (omega (arith, short), h)) (wider 1114150 (omega arith) (then_of (index_of 1 0 (omega arith) (omega arith)) (then_of (byte_of 0x41 (omega arith) (then_of (i32_of (8 * AREA) (omega arith)) end_of)) (sized_of (omega arith) (wider MOST_CORE_TEXTS short (same_of c.texts (texts_whole c.texts fits.texts)))))))) (no_items _)))

  tables_of : Of (IsSection 4 (λ _. IsTable) (lowered c).tables) 30
  unfolding lowered
  tables_of =
      let few = fits.is_small.few in
      wider 30 (omega arith) (section_of 4 (λ _. IsTable) _ 7 (omega arith) (omega arith) (omega arith)
      (item [] (record { min = length c.functions; max = None }) [] 7 0 (as_well (λ bs h. (omega (arith, few), h)) (byte_of 0x70 (omega arith) (byte_of 0 (omega arith) (u32_of (length c.functions) (omega (arith, few)))))) (no_items _)))

  elements_of : Of (IsSection 9 (λ _. IsElement (lowered c)) (lowered c).elements) 50100
  unfolding lowered
  elements_of =
      let few = fits.is_small.few in
      let l = length-append (replicate {A = ℕ} (length c.functions) 1) (4 ∷ []) in
      let n = length_ones (length c.functions) in
      let k = length_numbers 6 (length c.functions) in
      wider 50100 (omega arith) (section_of 9 (λ _. IsElement (lowered c)) _ 50030 (omega arith) (omega arith) (omega arith)
      (item [] (record { offset = 0; functions = numbers_from 6 (length c.functions) }) [] 50030 0
      (as_well (λ bs h. (omega (arith, few, k), h)) (wider 50030 (omega (arith, few)) (then_of (index_of 1 0 (omega arith) (omega arith)) (then_of (byte_of 0x41 (omega arith) (then_of (i32_of 0 (omega arith)) end_of))
      (list_of (λ _. IsIndex (function_count (lowered c))) (numbers_from 6 (length c.functions)) (5 * length c.functions) (omega (arith, few, k)) (numbers_of (function_count (lowered c)) 6 (length c.functions) [] (omega (arith, l, n)) (omega (arith, few)))))))) (no_items _)))

  sections_of : Of (AreSections (lowered c)) (all_bytes c.functions + 1225300)
  unfolding lowered
  sections_of = wider (all_bytes c.functions + 1225300) (omega arith)
      (then_of types_of (then_of imports_of (then_of functions_of (then_of tables_of (then_of memories_of (then_of (no_section 6 _ [] refl) (then_of exports_of (then_of elements_of (then_of codes_of (then_of segments_of no_customs))))))))))

  counts_of : CountsAreWithin (lowered c)
  unfolding lowered
  counts_of =
      let few = fits.is_small.few in
      let l = length-append (replicate {A = ℕ} (length c.functions) 1) (4 ∷ []) in
      let n = length_ones (length c.functions) in
      let k = length-append (map function_entry c.functions) (main_entry c.main ∷ []) in
      let j = length_entries c.functions in
      record { types = omega arith; functions = omega (arith, l, n, few); tables = omega arith; memories = omega arith; globals = omega arith; exports = omega arith; codes = omega (arith, l, n, k, j) }

  main_is : HasMain (lowered c)
  unfolding lowered
  main_is = record {
    index = 6 + length c.functions;
    type = main_type;
    code = main_entry c.main;
    exported = refl;
    defined = omega arith;
    has_type = let e : 6 + length c.functions - 6 ≡ length c.functions = omega arith in rw (e, four_there (length c.functions)) refl;
    has_code = let e : 6 + length c.functions - 6 ≡ length c.functions = omega arith in rw e (last_code c.functions (main_entry c.main));
    parameters = refl;
    result = refl;
  }

  -- the shortest spelling spells the module, and is short
  pub lowered_spelled : ModuleBytes (Shortest (lowered c)) (lowered c) × (length (Shortest (lowered c)) < 2 ^ 32)
  lowered_spelled =
      let s = sections_of in
      let bytes = header ++ s.list in
      let all = All-from_recursion (λ b. b < 256) bytes (omega arith, (omega arith, (omega arith, (omega arith, (omega arith, (omega arith, (omega arith, (omega arith, s.whole)))))))) in
      let k = shortest_spells (lowered c) bytes all (record { rest = s.list; parts = refl; sections = s.is; counts = counts_of; main = main_is }) in
      let a = k.1 in
      let b = length-append header s.list in
      let d = s.short in
      let small = fits.short_code in
      (k.0, omega (arith, a, b, d, small))
