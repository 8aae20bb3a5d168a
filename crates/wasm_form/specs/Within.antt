-- What the machine relies on in a module: a main to begin in, segments that lie within, and the limits.
use Rattle.std.specs.Prelude.{◌≡◌, ℕ, ◌+◌, ◌-◌, ◌*◌, ◌≤◌, max, Some, None, List, [], ◌∷◌, length, map, All, slice_get}
use Rattle.wasm_form.specs.declared.instr.Instr.{Instr, fold-Instr}
use Rattle.wasm_form.specs.declared.instr.Instr.TheOpen.{Instr-F}
use Rattle.wasm_form.specs.declared.instr.Instr.TheOpen as F
use Rattle.wasm_form.specs.declared.limits.TheConstants.{MOST_LOCALS, MOST_LABELS, MOST_TABLE, MOST_PAGES, PAGE}
use Rattle.wasm_form.specs.declared.module.Module.{Module}
use Rattle.wasm_form.specs.declared.module.CodeEntry.{CodeEntry}
use Rattle.wasm_form.specs.declared.module.LocalGroup.{LocalGroup}
use Rattle.wasm_form.specs.declared.module.ElementSegment.{ElementSegment}
use Rattle.wasm_form.specs.declared.module.DataSegment.{DataSegment}
use Rattle.wasm_form.specs.declared.types.FunctionType.{FunctionType}
use Rattle.wasm_form.specs.Steps.{defined_type, main_in, least}

abbrev pub most : List ℕ → ℕ
most [] = 0
most (n ∷ ns) = max n (most ns)

-- how deep labels nest in an instruction, from how deep they nest in its parts
abbrev pub nest_layer : Instr-F ℕ → ℕ
nest_layer (F.Block r body) = most body + 1
nest_layer (F.Loop r body) = most body + 1
nest_layer (F.If r first second) = max (most first) (most second) + 1
nest_layer _ = 0

unfoldable pub nest_one : Instr → ℕ
nest_one i = fold-Instr ℕ nest_layer i

-- how deep labels nest in instructions
abbrev pub nest : List Instr → ℕ
nest is = most (map nest_one is)

-- how many locals are declared
abbrev pub count_locals : List LocalGroup → ℕ
count_locals [] = 0
count_locals (g ∷ gs) = g.count + count_locals gs

-- a function has few locals, its parameters counted, and few labels nest in it
pub record FunctionIsWithin (t : FunctionType) (f : CodeEntry) : Type 0 where
  pub locals : length t.parameters + count_locals f.locals ≤ MOST_LOCALS
  pub labels : nest f.body ≤ MOST_LABELS

-- an element segment lies within the least size of the table, and a data segment within that of the memory
abbrev pub ElementIsWithin : Module → ElementSegment → Type 0
ElementIsWithin m s = s.offset + length s.functions ≤ least m.tables

abbrev pub SegmentIsWithin : Module → DataSegment → Type 0
SegmentIsWithin m s = s.offset + length s.bytes ≤ least m.memories * PAGE

-- the export main is a defined function without parameters and results
pub record HasMain (m : Module) : Type 0 where
  pub index : ℕ
  pub type : FunctionType
  pub code : CodeEntry
  pub exported : main_in m.exports ≡ Some index
  pub defined : length m.imports ≤ index
  pub has_type : defined_type m (index - length m.imports) ≡ Some type
  pub has_code : slice_get m.codes (index - length m.imports) ≡ Some code
  pub parameters : type.parameters ≡ []
  pub result : type.result ≡ None

pub record IsWithin (m : Module) : Type 0 where
  pub main : HasMain m
  pub functions : (k : ℕ) (t : FunctionType) (f : CodeEntry) → defined_type m k ≡ Some t → slice_get m.codes k ≡ Some f → FunctionIsWithin t f
  pub table : least m.tables ≤ MOST_TABLE
  pub pages : least m.memories ≤ MOST_PAGES
  pub elements : All (ElementIsWithin m) m.elements
  pub segments : All (SegmentIsWithin m) m.segments
