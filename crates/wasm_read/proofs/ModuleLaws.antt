-- The reader gives a module exactly where the bytes spell it.
use Rattle.std.proofs.Common.{◌≡◌, ℕ, ◌≤◌, true, cond, List, [], ◌∷◌, ◌++◌, length, take, drop, Ok, Err, refl, sym, ap, subst, ◌∙◌, arith, ◌⊎◌, inl, inr}
use Rattle.std.specs.Str.{bytes_eq}
use Rattle.std.proofs.lemmas.Bool.{ne_eqb}
use Rattle.std.proofs.lemmas.List.{take-append-drop}
use Rattle.std.proofs.lemmas.Slice.Eq.{bytes_eq-Decides}
use Rattle.wasm_form.specs.declared.types.FunctionType.{FunctionType}
use Rattle.wasm_form.specs.declared.types.Limits.{Limits}
use Rattle.wasm_form.specs.declared.limits.TheConstants.{MOST_TYPES, MOST_FUNCTIONS, MOST_GLOBALS, MOST_EXPORTS, MOST_LOCALS}
use Rattle.wasm_form.specs.declared.module.Import.{Import}
use Rattle.wasm_form.specs.declared.module.GlobalEntry.{GlobalEntry}
use Rattle.wasm_form.specs.declared.module.Export.{Export}
use Rattle.wasm_form.specs.declared.module.ElementSegment.{ElementSegment}
use Rattle.wasm_form.specs.declared.module.CodeEntry.{CodeEntry}
use Rattle.wasm_form.specs.declared.module.DataSegment.{DataSegment}
use Rattle.wasm_form.specs.declared.module.Module.{Module}
use Rattle.wasm_form.specs.Steps.{defined_type}
use Rattle.wasm_form.specs.Shortest.{header}
use Rattle.wasm_form.specs.Bytes.{Then, IsIndex, Byte, Sized, AreItems, IsList, IsType, IsImport, IsTable, IsMemory, IsGlobal, IsExport, IsElement, IsSegment, IsSection, AreCustom, CountsAreWithin, AreSections, ModuleBytes, function_count, parameters_in}
use Rattle.wasm_read.specs.declared.fault.Fault.TheVariants.{NoMain}
use Rattle.wasm_read.specs.Reading.{◌>>=◌}
use Rattle.wasm_read.specs.Types.{types_at, at_most_one, table_at, memory_at}
use Rattle.wasm_read.specs.Entries.{imports_at, functions_at, globals_at, exports_at, elements_at, codes_at, segments_at}
use Rattle.wasm_read.specs.Sections.{section_at, codes_by, codes_section_at, finish_at, header_at, first_at, counts_of, last_at, has_main, module_at}
use Rattle.wasm_read.proofs.Leads.{done, ok_is}
use Rattle.wasm_read.proofs.Numbers.{chosen, bind_ok}
use Rattle.wasm_read.proofs.Exact.{Takes, left_with}
use Rattle.wasm_read.proofs.ExactTables.{exact_table, exact_memory, exact_at_most_one}
use Rattle.wasm_read.proofs.ExactSections.{section_found, finish_found, finish_only, Above, Strips, strips_end, strips_section, reads_any, reads_section}
use Rattle.wasm_read.proofs.ExactMain.{main_is_found, main_is_read}
use Rattle.wasm_read.proofs.ExactModule.{Any, AtMost, Code, AsMany, types_exact, imports_exact, functions_exact, globals_exact, exports_exact, elements_exact, segments_exact, codes_exact, few_by, codes_found, not_started}

-- ---- the header

header_found : (bytes rest : List ℕ) → header_at bytes ≡ Ok rest → bytes ≡ header ++ rest
unfolding header_at
header_found bytes rest e = elim (chosen (bytes_eq (take 8 bytes) header) _ _ _ e) [
  | inl p ↦
      let front = (bytes_eq-Decides (take 8 bytes) header).0 p.0 in
      sym (take-append-drop 8 bytes) ∙ ap (λ (l : List ℕ). l ++ drop 8 bytes) front ∙ ap (λ (l : List ℕ). header ++ l) (ok_is (drop 8 bytes) rest p.1)
  | inr p ↦ absurd cc
]

header_only : (rest : List ℕ) → header_at (header ++ rest) ≡ Ok rest
unfolding header_at
header_only rest = refl

-- ---- what is read is spelled so

-- the sections up to the memories
record FirstRead (bytes : List ℕ) (x : Module × List ℕ) : Type 0 where
  one : List ℕ
  two : List ℕ
  three : List ℕ
  four : List ℕ
  types : Takes (IsSection 1 (λ _. IsType) x.0.types) bytes one
  imports : Takes (IsSection 2 (IsImport x.0.types) x.0.imports) one two
  functions : Takes (IsSection 3 (λ _. IsIndex (length x.0.types)) x.0.functions) two three
  tables : Takes (IsSection 4 (λ _. IsTable) x.0.tables) three four
  memories : Takes (IsSection 5 (λ _. IsMemory) x.0.memories) four x.1
  few_types : length x.0.types ≤ MOST_TYPES
  few_functions : length x.0.functions ≤ MOST_FUNCTIONS
  few_tables : length x.0.tables ≤ 1
  few_memories : length x.0.memories ≤ 1

-- a module that has no sections behind its memories yet
abbrev first_of : List FunctionType → List Import → List ℕ → List Limits → List Limits → Module
first_of ts is fs tables memories = record { types = ts; imports = is; functions = fs; tables = tables; memories = memories; globals = []; exports = []; elements = []; codes = []; segments = [] }

first_found : (bytes : List ℕ) (x : Module × List ℕ) → first_at bytes ≡ Ok x → FirstRead bytes x
unfolding first_at
first_found bytes x e =
    let t = bind_ok (section_at 1 types_at bytes) (λ ts. section_at 2 (imports_at ts.0) ts.1 >>= λ is. section_at 3 (functions_at (length ts.0)) is.1 >>= λ fs. section_at 4 (at_most_one table_at) fs.1 >>= λ tb. section_at 5 (at_most_one memory_at) tb.1 >>= λ me. left_with (first_of ts.0 is.0 fs.0 tb.0 me.0) me.1) x e in
    let i = bind_ok (section_at 2 (imports_at t.0.0) t.0.1) (λ is. section_at 3 (functions_at (length t.0.0)) is.1 >>= λ fs. section_at 4 (at_most_one table_at) fs.1 >>= λ tb. section_at 5 (at_most_one memory_at) tb.1 >>= λ me. left_with (first_of t.0.0 is.0 fs.0 tb.0 me.0) me.1) x t.2 in
    let f = bind_ok (section_at 3 (functions_at (length t.0.0)) i.0.1) (λ fs. section_at 4 (at_most_one table_at) fs.1 >>= λ tb. section_at 5 (at_most_one memory_at) tb.1 >>= λ me. left_with (first_of t.0.0 i.0.0 fs.0 tb.0 me.0) me.1) x i.2 in
    let b = bind_ok (section_at 4 (at_most_one table_at) f.0.1) (λ tb. section_at 5 (at_most_one memory_at) tb.1 >>= λ me. left_with (first_of t.0.0 i.0.0 f.0.0 tb.0 me.0) me.1) x f.2 in
    let m = bind_ok (section_at 5 (at_most_one memory_at) b.0.1) (λ me. left_with (first_of t.0.0 i.0.0 f.0.0 b.0.0 me.0) me.1) x b.2 in
    let ts = section_found 1 (AtMost MOST_TYPES) (λ _. IsType) types_at types_exact bytes t.0 (omega arith) t.1 in
    let is = section_found 2 Any (IsImport t.0.0) (imports_at t.0.0) (imports_exact t.0.0) t.0.1 i.0 tt i.1 in
    let fs = section_found 3 (AtMost MOST_FUNCTIONS) (λ _. IsIndex (length t.0.0)) (functions_at (length t.0.0)) (functions_exact (length t.0.0)) i.0.1 f.0 (omega arith) f.1 in
    let bs = section_found 4 (AtMost 1) (λ _. IsTable) (at_most_one table_at) (exact_at_most_one IsTable table_at exact_table) f.0.1 b.0 (omega arith) b.1 in
    let ms = section_found 5 (AtMost 1) (λ _. IsMemory) (at_most_one memory_at) (exact_at_most_one IsMemory memory_at exact_memory) b.0.1 m.0 (omega arith) m.1 in
    subst (FirstRead bytes) (ok_is (first_of t.0.0 i.0.0 f.0.0 b.0.0 m.0.0, m.0.1) x m.2)
    (record { one = t.0.1; two = i.0.1; three = f.0.1; four = b.0.1; types = ts.1; imports = is.1; functions = fs.1; tables = bs.1; memories = ms.1; few_types = ts.0; few_functions = fs.0; few_tables = bs.0; few_memories = ms.0 })

abbrev with_last : Module → List GlobalEntry → List Export → List ElementSegment → List CodeEntry → List DataSegment → Module
with_last first gs es els cs ss = record first { globals = gs; exports = es; elements = els; codes = cs; segments = ss }

-- the sections behind the memories
record LastRead (first : Module) (bytes : List ℕ) (m : Module) : Type 0 where
  one : List ℕ
  two : List ℕ
  three : List ℕ
  four : List ℕ
  five : List ℕ
  is : with_last first m.globals m.exports m.elements m.codes m.segments ≡ m
  globals : Takes (IsSection 6 (λ _. IsGlobal) m.globals) bytes one
  exports : Takes (IsSection 7 (IsExport m) m.exports) one two
  elements : Takes (IsSection 9 (λ _. IsElement m) m.elements) two three
  codes : Takes (IsSection 10 (Code m) m.codes) three four
  segments : Takes (IsSection 11 (λ _. IsSegment m) m.segments) four five
  end : AreCustom five
  few_globals : length m.globals ≤ MOST_GLOBALS
  few_exports : length m.exports ≤ MOST_EXPORTS
  all_codes : length m.codes ≡ length m.functions

last_found : (first : Module) (bytes : List ℕ) (m : Module) → ((k : ℕ) → parameters_in (defined_type first k) ≤ MOST_LOCALS) → length first.tables ≤ 1 → length first.memories ≤ 1 → last_at first bytes ≡ Ok m → LastRead first bytes m
unfolding last_at
last_found first bytes m some few_tables few_memories h =
    let n = function_count first in
    let g = bind_ok (section_at 6 globals_at bytes) (λ gs. section_at 7 (exports_at (counts_of first gs.0)) gs.1 >>= λ es. section_at 9 (elements_at first.tables n) es.1 >>= λ els. codes_section_at first.types first.functions els.1 >>= λ cs. section_at 11 (segments_at first.memories) cs.1 >>= λ ss. finish_at ss.1 >>= λ rest. done (with_last first gs.0 es.0 els.0 cs.0 ss.0)) m h in
    let e = bind_ok (section_at 7 (exports_at (counts_of first g.0.0)) g.0.1) (λ es. section_at 9 (elements_at first.tables n) es.1 >>= λ els. codes_section_at first.types first.functions els.1 >>= λ cs. section_at 11 (segments_at first.memories) cs.1 >>= λ ss. finish_at ss.1 >>= λ rest. done (with_last first g.0.0 es.0 els.0 cs.0 ss.0)) m g.2 in
    let l = bind_ok (section_at 9 (elements_at first.tables n) e.0.1) (λ els. codes_section_at first.types first.functions els.1 >>= λ cs. section_at 11 (segments_at first.memories) cs.1 >>= λ ss. finish_at ss.1 >>= λ rest. done (with_last first g.0.0 e.0.0 els.0 cs.0 ss.0)) m e.2 in
    let c = bind_ok (codes_section_at first.types first.functions l.0.1) (λ cs. section_at 11 (segments_at first.memories) cs.1 >>= λ ss. finish_at ss.1 >>= λ rest. done (with_last first g.0.0 e.0.0 l.0.0 cs.0 ss.0)) m l.2 in
    let s = bind_ok (section_at 11 (segments_at first.memories) c.0.1) (λ ss. finish_at ss.1 >>= λ rest. done (with_last first g.0.0 e.0.0 l.0.0 c.0.0 ss.0)) m c.2 in
    let r = bind_ok (finish_at s.0.1) (λ rest. done (with_last first g.0.0 e.0.0 l.0.0 c.0.0 s.0.0)) m s.2 in
    let whole : Module = with_last first g.0.0 e.0.0 l.0.0 c.0.0 s.0.0 in
    let gs = section_found 6 (AtMost MOST_GLOBALS) (λ _. IsGlobal) globals_at globals_exact bytes g.0 (omega arith) g.1 in
    let es = section_found 7 (AtMost MOST_EXPORTS) (IsExport whole) (exports_at (counts_of first g.0.0)) (exports_exact first whole refl refl refl refl) g.0.1 e.0 (omega arith) e.1 in
    let els = section_found 9 Any (λ _. IsElement whole) (elements_at first.tables n) (elements_exact whole few_tables) e.0.1 l.0 tt l.1 in
    let cs = codes_found whole some l.0.1 c.0 c.1 in
    let ss = section_found 11 Any (λ _. IsSegment whole) (segments_at first.memories) (segments_exact whole few_memories) c.0.1 s.0 tt s.1 in
    let many : AsMany whole c.0.0 = elim cs.0 [ inl a ↦ a | inr b ↦ absurd (not_started (segments_at first.memories) c.0.1 r.0 s.0 b s.1 r.1) ] in
    subst (LastRead first bytes) (ok_is whole m r.2)
    (record { one = g.0.1; two = e.0.1; three = l.0.1; four = c.0.1; five = s.0.1; is = refl; globals = gs.1; exports = es.1; elements = els.1; codes = cs.1; segments = ss.1; end = finish_found s.0.1 r.0 r.1; few_globals = gs.0; few_exports = es.0; all_codes = many })

-- the exports one behind the other
exports_in : (m : Module) (xs : List Export) (bytes : List ℕ) → IsSection 7 (IsExport m) xs bytes → (back : List ℕ) × AreItems (IsExport m) [] xs back
exports_in m xs bytes h = go h.section h.is
  where
    go : (section : List ℕ) → ((section ≡ []) × (xs ≡ [])) ⊎ Byte 7 (Sized (IsList (IsExport m) xs)) section → (back : List ℕ) × AreItems (IsExport m) [] xs back
    go section (inl none) = ([], subst (λ (ys : List Export). AreItems (IsExport m) [] ys []) (sym none.1) refl)
    go [] (inr some) = absurd some
    go (b ∷ rest) (inr some) = (some.1.is.back, some.1.is.second)

-- a part and the others that take all that is left
last_part : (P Q : List ℕ → Type 0) (bytes rest : List ℕ) → Takes P bytes rest → Q rest → Then P Q bytes
last_part P Q bytes rest t q = record { front = t.front; back = rest; parts = t.parts; first = t.is; second = q }

pub module_found : (bytes : List ℕ) (m : Module) → module_at bytes ≡ Ok m → ModuleBytes bytes m
unfolding module_at
module_found bytes m e =
    let h = bind_ok (header_at bytes) (λ rest. first_at rest >>= λ f. last_at f.0 f.1 >>= λ n. cond (has_main n) (done n) (Err NoMain)) m e in
    let f = bind_ok (first_at h.0) (λ f. last_at f.0 f.1 >>= λ n. cond (has_main n) (done n) (Err NoMain)) m h.2 in
    let l = bind_ok (last_at f.0.0 f.0.1) (λ n. cond (has_main n) (done n) (Err NoMain)) m f.2 in
    let a = first_found h.0 f.0 f.1 in
    let b = last_found f.0.0 f.0.1 l.0 (few_by f.0.0 a.types.front a.types.is) a.few_tables a.few_memories l.1 in
    elim (chosen (has_main l.0) _ _ _ l.2) [
      | inl p ↦ subst (ModuleBytes bytes) (ok_is l.0 m p.1) (whole h.0 (header_found bytes h.0 h.1) f.0.0 f.0.1 l.0 a b p.0)
      | inr p ↦ absurd cc
    ]
  where
    whole : (rest : List ℕ) → bytes ≡ header ++ rest → (first : Module) (left : List ℕ) (n : Module) → FirstRead rest (first, left) → LastRead first left n → has_main n ≡ true → ModuleBytes bytes n
    whole rest parts first left n a b main =
        let kept : FirstRead rest (with_last first n.globals n.exports n.elements n.codes n.segments, left) = record { one = a.one; two = a.two; three = a.three; four = a.four; types = a.types; imports = a.imports; functions = a.functions; tables = a.tables; memories = a.memories; few_types = a.few_types; few_functions = a.few_functions; few_tables = a.few_tables; few_memories = a.few_memories } in
        let c = subst (λ (k : Module). FirstRead rest (k, left)) b.is kept in
        let items = exports_in n n.exports b.exports.front b.exports.is in
        record {
          rest = rest;
          parts = parts;
          sections =
              last_part _ _ rest c.one c.types (last_part _ _ c.one c.two c.imports (last_part _ _ c.two c.three c.functions (last_part _ _ c.three c.four c.tables (last_part _ _ c.four left c.memories
              (last_part _ _ left b.one b.globals (last_part _ _ b.one b.two b.exports (last_part _ _ b.two b.three b.elements (last_part _ _ b.three b.four b.codes (last_part _ _ b.four b.five b.segments b.end)))))))));
          counts = record { types = c.few_types; functions = c.few_functions; tables = c.few_tables; memories = c.few_memories; globals = b.few_globals; exports = b.few_exports; codes = b.all_codes };
          main = main_is_found n items.0 items.1 b.all_codes main;
        }

-- ---- what is spelled so is read

module _ (m : Module) (counts : CountsAreWithin m) where
  abbrev End : List ℕ → Type 0
  End = AreCustom

  abbrev From11 : List ℕ → Type 0
  From11 = Then (IsSection 11 (λ _. IsSegment m) m.segments) End

  abbrev From10 : List ℕ → Type 0
  From10 = Then (IsSection 10 (Code m) m.codes) From11

  abbrev From9 : List ℕ → Type 0
  From9 = Then (IsSection 9 (λ _. IsElement m) m.elements) From10

  abbrev From7 : List ℕ → Type 0
  From7 = Then (IsSection 7 (IsExport m) m.exports) From9

  abbrev From6 : List ℕ → Type 0
  From6 = Then (IsSection 6 (λ _. IsGlobal) m.globals) From7

  abbrev From5 : List ℕ → Type 0
  From5 = Then (IsSection 5 (λ _. IsMemory) m.memories) From6

  abbrev From4 : List ℕ → Type 0
  From4 = Then (IsSection 4 (λ _. IsTable) m.tables) From5

  abbrev From3 : List ℕ → Type 0
  From3 = Then (IsSection 3 (λ _. IsIndex (length m.types)) m.functions) From4

  abbrev From2 : List ℕ → Type 0
  From2 = Then (IsSection 2 (IsImport m.types) m.imports) From3

  strips_11 : Strips 10 From11
  strips_11 = strips_section 10 11 11 (omega arith) (omega arith) (λ _. IsSegment m) End strips_end m.segments

  strips_10 : Strips 9 From10
  strips_10 = strips_section 9 10 10 (omega arith) (omega arith) (Code m) From11 strips_11 m.codes

  strips_9 : Strips 8 From9
  strips_9 = strips_section 8 9 9 (omega arith) (omega arith) (λ _. IsElement m) From10 strips_10 m.elements

  strips_7 : Strips 6 From7
  strips_7 = strips_section 6 7 8 (omega arith) (omega arith) (IsExport m) From9 strips_9 m.exports

  strips_6 : Strips 5 From6
  strips_6 = strips_section 5 6 6 (omega arith) (omega arith) (λ _. IsGlobal) From7 strips_7 m.globals

  strips_5 : Strips 4 From5
  strips_5 = strips_section 4 5 5 (omega arith) (omega arith) (λ _. IsMemory) From6 strips_6 m.memories

  strips_4 : Strips 3 From4
  strips_4 = strips_section 3 4 4 (omega arith) (omega arith) (λ _. IsTable) From5 strips_5 m.tables

  strips_3 : Strips 2 From3
  strips_3 = strips_section 2 3 3 (omega arith) (omega arith) (λ _. IsIndex (length m.types)) From4 strips_4 m.functions

  strips_2 : Strips 1 From2
  strips_2 = strips_section 1 2 2 (omega arith) (omega arith) (IsImport m.types) From3 strips_3 m.imports

  abbrev first_part : Module
  first_part = first_of m.types m.imports m.functions m.tables m.memories

  -- the sections up to the memories are read
  record FirstReads (bytes : List ℕ) : Type 0 where
    rest : List ℕ
    read : first_at bytes ≡ Ok (first_part, rest)
    left : From6 rest

  first_only : (bytes : List ℕ) → AreSections m bytes → FirstReads bytes
  unfolding first_at
  first_only bytes h =
      let t = reads_section 0 1 1 (omega arith) (omega arith) (λ _. IsType) From2 strips_2 (AtMost MOST_TYPES) types_at types_exact m.types bytes counts.types h in
      let i = reads_section 1 2 2 (omega arith) (omega arith) (IsImport m.types) From3 strips_3 Any (imports_at m.types) (imports_exact m.types) m.imports t.rest tt t.left in
      let f = reads_section 2 3 3 (omega arith) (omega arith) (λ _. IsIndex (length m.types)) From4 strips_4 (AtMost MOST_FUNCTIONS) (functions_at (length m.types)) (functions_exact (length m.types)) m.functions i.rest counts.functions i.left in
      let b = reads_section 3 4 4 (omega arith) (omega arith) (λ _. IsTable) From5 strips_5 (AtMost 1) (at_most_one table_at) (exact_at_most_one IsTable table_at exact_table) m.tables f.rest counts.tables f.left in
      let e = reads_section 4 5 5 (omega arith) (omega arith) (λ _. IsMemory) From6 strips_6 (AtMost 1) (at_most_one memory_at) (exact_at_most_one IsMemory memory_at exact_memory) m.memories b.rest counts.memories b.left in
      record { rest = e.rest; read = rw (t.read, i.read, f.read, b.read, e.read) refl; left = e.left }

  no_codes : AsMany m [] → (rest : List ℕ) → Above 10 rest → codes_by m.types m.functions rest ≡ Ok ([], rest)
  no_codes none [] h = rw (← none) refl
  no_codes none (b ∷ rest) h =
      let not_codes = ne_eqb b 10 (λ e. omega (arith, h, e)) in
      let not_start = ne_eqb b 8 (λ e. omega (arith, h, e)) in
      rw (not_codes, not_start, ← none) refl

  last_only : (some : (k : ℕ) → parameters_in (defined_type m k) ≤ MOST_LOCALS) (bytes : List ℕ) → From6 bytes → last_at first_part bytes ≡ Ok m
  unfolding last_at codes_section_at
  last_only some bytes h =
      let n = function_count m in
      let g = reads_section 5 6 6 (omega arith) (omega arith) (λ _. IsGlobal) From7 strips_7 (AtMost MOST_GLOBALS) globals_at globals_exact m.globals bytes counts.globals h in
      let e = reads_section 6 7 8 (omega arith) (omega arith) (IsExport m) From9 strips_9 (AtMost MOST_EXPORTS) (exports_at (counts_of first_part m.globals)) (exports_exact first_part m refl refl refl refl) m.exports g.rest counts.exports g.left in
      let l = reads_section 8 9 9 (omega arith) (omega arith) (λ _. IsElement m) From10 strips_10 Any (elements_at m.tables n) (elements_exact m counts.tables) m.elements e.rest tt e.left in
      let c = reads_any 9 10 10 (omega arith) (omega arith) (Code m) From11 strips_11 (AsMany m) (codes_at m.types m.functions) (codes_exact m some) (codes_by m.types m.functions) (λ rest. refl) no_codes m.codes l.rest counts.codes l.left in
      let s = reads_section 10 11 11 (omega arith) (omega arith) (λ _. IsSegment m) End strips_end Any (segments_at m.memories) (segments_exact m counts.memories) m.segments c.rest tt c.left in
      let f = finish_only s.rest s.left in
      rw (g.read, e.read, l.read, c.read, s.read, f) refl

pub module_only : (bytes : List ℕ) (m : Module) → ModuleBytes bytes m → module_at bytes ≡ Ok m
unfolding module_at
module_only bytes m h =
    let head = header_only h.rest in
    let f = first_only m h.counts h.rest h.sections in
    let l = last_only m h.counts (few_by m h.sections.front h.sections.first) f.rest f.left in
    let main = main_is_read m h.main in
    rw (h.parts, head, f.read, l, main) refl
