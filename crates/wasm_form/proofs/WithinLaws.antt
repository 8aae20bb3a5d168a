-- A module that some bytes spell is within the limits.
use Rattle.std.proofs.Common.{◌≡◌, ℕ, zero, suc, ◌+◌, ◌<◌, ◌≤◌, max, List, [], ◌∷◌, ◌++◌, length, get_or, Option, Some, refl, ap, subst, ◌∙◌, length-append, arith, ◌⊎◌, inl, inr}
use Rattle.std.specs.Prelude.{slice_get}
use Rattle.wasm_form.specs.declared.instr.Instr.{Instr, out-Instr}
use Rattle.wasm_form.specs.declared.instr.Instr.TheOpen.{Instr-F}
use Rattle.wasm_form.specs.declared.instr.Instr.TheOpen as F
use Rattle.wasm_form.specs.declared.instr.Instr.TheVariants.{Block, Loop, If}
use Rattle.wasm_form.specs.declared.types.ValueType.{ValueType}
use Rattle.wasm_form.specs.declared.types.FunctionType.{FunctionType}
use Rattle.wasm_form.specs.declared.types.Limits.{Limits}
use Rattle.wasm_form.specs.declared.limits.TheConstants.{MOST_LOCALS, MOST_LABELS, MOST_TABLE, MOST_PAGES}
use Rattle.wasm_form.specs.declared.module.CodeEntry.{CodeEntry}
use Rattle.wasm_form.specs.declared.module.Module.{Module}
use Rattle.wasm_form.specs.Steps.{defined_type, least}
use Rattle.wasm_form.specs.Within.{IsWithin, FunctionIsWithin, ElementIsWithin, SegmentIsWithin, nest, nest_one, count_locals}
use Rattle.std.proofs.lemmas.Option.{get_or_from_slice_get, slice_get_within}
use Rattle.wasm_form.specs.Bytes.{plain, block, loop, one_side, two_sides, no_more, one_more, Byte, Sized, IsList, parameters_in, AreItems, IsPlain, AreImmediates, IsInstr, IsCode, IsCodeEntry, IsElement, IsSegment, IsTable, IsMemory, IsSection, ModuleBytes}
use Rattle.wasm_form.proofs.Nests.{nest_of, nest_is}
use Rattle.wasm_form.proofs.Outs.{out_block, out_loop, out_if}

-- ---- labels

block_nest : (t : Option ValueType) (body : List Instr) → nest_one (Block t body) ≡ nest body + 1
block_nest t body = nest_is (Block t body) ∙ ap nest_of (out_block t body)

loop_nest : (t : Option ValueType) (body : List Instr) → nest_one (Loop t body) ≡ nest body + 1
loop_nest t body = nest_is (Loop t body) ∙ ap nest_of (out_loop t body)

if_nest : (t : Option ValueType) (one other : List Instr) → nest_one (If t one other) ≡ max (nest one) (nest other) + 1
if_nest t one other = nest_is (If t one other) ∙ ap nest_of (out_if t one other)

-- an instruction that holds no others has no labels
plain_layer : (l : Instr-F Instr) (bytes : List ℕ) → AreImmediates l bytes → nest_of l ≡ 0
plain_layer (F.Block t body) bytes h = absurd h
plain_layer (F.Loop t body) bytes h = absurd h
plain_layer (F.If t first second) bytes h = absurd h
plain_layer _ bytes h = refl

plain_nest : (i : Instr) (bytes : List ℕ) → IsPlain i bytes → nest_one i ≡ 0
plain_nest i [] h = absurd h
plain_nest i (b ∷ rest) h = nest_is i ∙ plain_layer (out-Instr i) rest h.1

mutual
  instr_nest : (labels : ℕ) (i : Instr) (bytes : List ℕ) → IsInstr labels i bytes → labels ≤ MOST_LABELS → nest_one i + labels ≤ MOST_LABELS
  instr_nest labels i bytes (plain k j bs h) le = let e = plain_nest i bytes h in omega (arith, e, le)
  instr_nest labels i bytes (block k j bs t body code lt is spelled inner) le =
      let n = code_nest (labels + 1) body code inner (omega arith) in
      let e : nest_one i ≡ nest body + 1 = ap nest_one is ∙ block_nest t body in
      omega (arith, e, n)
  instr_nest labels i bytes (loop k j bs t body code lt is spelled inner) le =
      let n = code_nest (labels + 1) body code inner (omega arith) in
      let e : nest_one i ≡ nest body + 1 = ap nest_one is ∙ loop_nest t body in
      omega (arith, e, n)
  instr_nest labels i bytes (one_side k j bs t side code lt is spelled inner) le =
      let n = code_nest (labels + 1) side code inner (omega arith) in
      let e : nest_one i ≡ max (nest side) 0 + 1 = ap nest_one is ∙ if_nest t side [] in
      omega (arith, e, n)
  instr_nest labels i bytes (two_sides k j bs t one other code more lt is spelled first second) le =
      let n = code_nest (labels + 1) one code first (omega arith) in
      let m = code_nest (labels + 1) other more second (omega arith) in
      let e : nest_one i ≡ max (nest one) (nest other) + 1 = ap nest_one is ∙ if_nest t one other in
      omega (arith, e, n, m)

  code_nest : (labels : ℕ) (is : List Instr) (bytes : List ℕ) → IsCode labels is bytes → labels ≤ MOST_LABELS → nest is + labels ≤ MOST_LABELS
  code_nest labels is bytes (no_more k) le = omega (arith, le)
  code_nest labels is bytes (one_more k i more front back whole parts head tail) le =
      let n = instr_nest labels i front head le in
      let m = code_nest labels more back tail le in
      omega (arith, n, m)

-- ---- elements of a list that are spelled one behind the other

-- what is known of each element, from its spelling behind those before it
all_items : {A : Type 0} (one : List A → A → List ℕ → Type 0) (P : ℕ → A → Type 0) → ((before : List A) (x : A) (bytes : List ℕ) → one before x bytes → P (length before) x)
    → (xs before : List A) (bytes : List ℕ) → AreItems one before xs bytes → (k : ℕ) (d : A) → k < length xs → P (length before + k) (get_or xs k d)
all_items one P each [] before bytes h k d lt = absurd (omega (arith, lt))
all_items one P each (x ∷ xs) before bytes h zero d lt =
    let e : length before ≡ length before + 0 = omega arith in
    subst (λ n. P n x) e (each before x h.front h.first)
all_items one P each (x ∷ xs) before bytes h (suc k) d lt =
    let l = length-append before (x ∷ []) in
    let e : length (before ++ x ∷ []) + k ≡ length before + suc k = omega (arith, l) in
    subst (λ n. P n (get_or xs k d)) e (all_items one P each xs (before ++ x ∷ []) h.back h.second k d (omega (arith, lt)))

-- and of each element of a section
pub all_in : {A : Type 0} (id : ℕ) (one : List A → A → List ℕ → Type 0) (P : ℕ → A → Type 0) → ((before : List A) (x : A) (bytes : List ℕ) → one before x bytes → P (length before) x)
    → (xs : List A) (bytes : List ℕ) → IsSection id one xs bytes → (k : ℕ) (d : A) → k < length xs → P k (get_or xs k d)
all_in id one P each xs bytes h = go h.section h.is
  where
    go : (section : List ℕ) → ((section ≡ []) × (xs ≡ [])) ⊎ Byte id (Sized (IsList one xs)) section → (k : ℕ) (d : _) → k < length xs → P k (get_or xs k d)
    go section (inl none) k d lt = let e = ap length none.1 in absurd (omega (arith, e, lt))
    go [] (inr some) k d lt = absurd some
    go (b ∷ rest) (inr some) k d lt = let e : 0 + k ≡ k = omega arith in subst (λ n. P n (get_or xs k d)) e (all_items one P each xs [] some.1.is.back some.1.is.second k d lt)

-- the least size of at most one table or memory
least_most : (most : ℕ) (ls : List Limits) → ((k : ℕ) (d : Limits) → k < length ls → (get_or ls k d).min ≤ most) → least ls ≤ most
least_most most [] h = omega arith
least_most most (l ∷ ls) h = h 0 l (omega arith)

-- ---- the module

module _ (bytes : List ℕ) (m : Module) (h : ModuleBytes bytes m) where
  functions_within : (k : ℕ) (t : FunctionType) (f : CodeEntry) → defined_type m k ≡ Some t → slice_get m.codes k ≡ Some f → FunctionIsWithin t f
  functions_within k t f is_type is_code =
      let P : ℕ → CodeEntry → Type 0 = λ n c. (parameters_in (defined_type m n) + count_locals c.locals ≤ MOST_LOCALS) × (nest c.body ≤ MOST_LABELS) in
      let each = all_in 10 (λ before. IsCodeEntry m (length before)) P (λ before c bs e.
      (e.0, let n = code_nest 0 c.body e.1.is.second.front e.1.is.second.first (omega arith) in omega (arith, n)))
      m.codes _ h.sections.second.second.second.second.second.second.second.second.first in
      let here : P k (get_or m.codes k f) = each k f (slice_get_within m.codes k f is_code) in
      let same = get_or_from_slice_get m.codes k f f is_code in
      let mine : P k f = subst (P k) same here in
      let number : parameters_in (defined_type m k) ≡ length t.parameters = ap parameters_in is_type in
      record { locals = omega (arith, mine.0, number); labels = mine.1 }

  -- what the bytes spell is what the machine asks for
  pub module_within : IsWithin m
  module_within = record {
    main = h.main;
    functions = functions_within;
    table = least_most MOST_TABLE m.tables (all_in 4 (λ _. IsTable) (λ _ l. l.min ≤ MOST_TABLE) (λ before l bs e. e.0) m.tables _ h.sections.second.second.second.first);
    pages = least_most MOST_PAGES m.memories (all_in 5 (λ _. IsMemory) (λ _ l. l.min ≤ MOST_PAGES) (λ before l bs e. e.0) m.memories _ h.sections.second.second.second.second.first);
    elements = all_in 9 (λ _. IsElement m) (λ _. ElementIsWithin m) (λ before s bs e. e.0) m.elements _ h.sections.second.second.second.second.second.second.second.first;
    segments = all_in 11 (λ _. IsSegment m) (λ _. SegmentIsWithin m) (λ before s bs e. e.0) m.segments _ h.sections.second.second.second.second.second.second.second.second.second.first;
  }
