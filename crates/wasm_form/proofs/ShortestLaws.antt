-- Where some bytes spell a module, its shortest spelling spells it too.
use Rattle.std.proofs.Common.{◌≡◌, ℕ, ◌+◌, ◌<◌, ◌≤◌, List, [], ◌∷◌, ◌++◌, length, map, Option, Some, None, refl, sym, ap, subst, ◌∙◌, append_assoc, arith, ◌⊎◌, inl, inr}
use Rattle.std.specs.Prelude.{All}
use Rattle.std.specs.List.{flat_map}
use Rattle.std.proofs.lemmas.Bool.{ne_eqb}
use Rattle.std.proofs.lemmas.List.{append-nil, length-append}
use Rattle.std.proofs.lemmas.List.Elements.{recursion_from_All}
use Rattle.wasm_form.specs.declared.instr.Instr.{Instr, out-Instr}
use Rattle.wasm_form.specs.declared.instr.Instr.TheOpen.{Instr-F}
use Rattle.wasm_form.specs.declared.instr.Instr.TheOpen as F
use Rattle.wasm_form.specs.declared.instr.Instr.TheFolds.{map-Instr}
use Rattle.wasm_form.specs.declared.instr.Instr.TheVariants.{Block, Loop, If}
use Rattle.wasm_form.specs.declared.instr.MemArg.{MemArg}
use Rattle.wasm_form.specs.declared.types.ValueType.{ValueType}
use Rattle.wasm_form.specs.declared.types.Value.{Value}
use Rattle.wasm_form.specs.declared.types.Value.TheVariants as value
use Rattle.wasm_form.specs.declared.types.Limits.{Limits}
use Rattle.wasm_form.specs.declared.types.FunctionType.{FunctionType}
use Rattle.wasm_form.specs.declared.limits.TheConstants.{MOST_LABELS}
use Rattle.wasm_form.specs.declared.module.Import.{Import}
use Rattle.wasm_form.specs.declared.module.GlobalEntry.{GlobalEntry}
use Rattle.wasm_form.specs.declared.module.Export.{Export}
use Rattle.wasm_form.specs.declared.module.ElementSegment.{ElementSegment}
use Rattle.wasm_form.specs.declared.module.LocalGroup.{LocalGroup}
use Rattle.wasm_form.specs.declared.module.CodeEntry.{CodeEntry}
use Rattle.wasm_form.specs.declared.module.DataSegment.{DataSegment}
use Rattle.wasm_form.specs.declared.module.Module.{Module}
use Rattle.wasm_form.specs.Leb.{shortest_in, unsigned_shortest, i32_shortest, i64_shortest}
use Rattle.wasm_form.specs.Opcode.{layer_opcode, opcode_of}
use Rattle.wasm_form.specs.Shortest.{list_shortest, sized, value_type_byte, block_type_byte, result_list, value_type_shortest, type_shortest, access_shortest, second_shortest, layer_immediates, instr_shortest, immediates_of, body_shortest, swiftown, host_name, import_shortest, limits_shortest, table_shortest, mutable_byte, constant_shortest, global_shortest, kind_byte, export_shortest, element_shortest, group_shortest, code_shortest, segment_shortest, section_shortest, header, first_sections, last_sections, Shortest}
use Rattle.wasm_form.specs.Bytes.{Then, Nothing, Byte, IsU32, IsI32, IsI64, IsIndex, Sized, IsName, AreItems, IsList, IsValueType, IsType, AreBounds, IsTable, IsMemory, IsEnd, IsAccess, AreImmediates, IsPlain, IsInstr, IsCode, plain, block, loop, one_side, two_sides, no_more, one_more, IsImport, IsConstant, IsGlobal, IsExport, IsElement, IsGroup, IsCodeEntry, IsSegment, AreCustom, IsSection, AreSections, ModuleBytes, function_count, kind_count}
use Rattle.wasm_form.proofs.LebLaws.{AreBytes, unsigned_number, unsigned_least, unsigned_monotone, u32_below, i32_number, i32_least, i64_number, i64_least}
use Rattle.wasm_form.proofs.Outs.{out_block, out_loop, out_if}
use Rattle.wasm_form.proofs.Codes.{instr_is, block_is, loop_is, if_is, second_is}

-- ---- parts

-- the bytes can be replaced by these, which are no more
abbrev Shorter : (List ℕ → Type 0) → List ℕ → List ℕ → Type 0
Shorter P bytes short = P short × (length short ≤ length bytes)

bytes_front : (front back : List ℕ) → AreBytes (front ++ back) → AreBytes front
bytes_front [] back b = tt
bytes_front (c ∷ front) back b = (b.0, bytes_front front back b.1)

bytes_back : (front back : List ℕ) → AreBytes (front ++ back) → AreBytes back
bytes_back [] back b = b
bytes_back (c ∷ front) back b = bytes_back front back b.1

then_shorter : (P Q : List ℕ → Type 0) (p q bytes : List ℕ) → AreBytes bytes → ((front : List ℕ) → AreBytes front → P front → Shorter P front p) → ((back : List ℕ) → AreBytes back → Q back → Shorter Q back q) → Then P Q bytes → Shorter (Then P Q) bytes (p ++ q)
then_shorter P Q p q bytes b f g h =
    let both = subst AreBytes h.parts b in
    let first = f h.front (bytes_front h.front h.back both) h.first in
    let second = g h.back (bytes_back h.front h.back both) h.second in
    let le = first.1 in
    let more = second.1 in
    let whole = ap length h.parts ∙ length-append h.front h.back in
    let short = length-append p q in
    (record { front = p; back = q; parts = refl; first = first.0; second = second.0 }, omega (arith, le, more, whole, short))

byte_shorter : (c : ℕ) (P : List ℕ → Type 0) (short bytes : List ℕ) → AreBytes bytes → ((rest : List ℕ) → AreBytes rest → P rest → Shorter P rest short) → Byte c P bytes → Shorter (Byte c P) bytes (c ∷ short)
byte_shorter c P short [] b f h = absurd h
byte_shorter c P short (d ∷ rest) b f h =
    let k = f rest b.1 h.1 in
    let le = k.1 in
    ((refl, k.0), omega (arith, le))

nothing_shorter : (bytes : List ℕ) → AreBytes bytes → Nothing bytes → Shorter Nothing bytes []
nothing_shorter bytes b h = (refl, omega arith)

u32_shorter : (n : ℕ) (bytes : List ℕ) → AreBytes bytes → IsU32 n bytes → Shorter (IsU32 n) bytes (unsigned_shortest n)
u32_shorter n bytes b h = (unsigned_number 32 n (omega arith) (omega arith) (u32_below n bytes b h), unsigned_least 32 n bytes b h)

i32_shorter : (n : ℕ) (bytes : List ℕ) → AreBytes bytes → IsI32 n bytes → Shorter (IsI32 n) bytes (i32_shortest n)
i32_shorter n bytes b h = let k = i32_least n bytes b h in (i32_number n k.0, k.1)

i64_shorter : (n : ℕ) (bytes : List ℕ) → AreBytes bytes → IsI64 n bytes → Shorter (IsI64 n) bytes (i64_shortest n)
i64_shorter n bytes b h = let k = i64_least n bytes b h in (i64_number n k.0, k.1)

index_shorter : (limit n : ℕ) (bytes : List ℕ) → AreBytes bytes → IsIndex limit n bytes → Shorter (IsIndex limit n) bytes (unsigned_shortest n)
index_shorter limit n bytes b h = let k = u32_shorter n bytes b h.1 in ((h.0, k.0), k.1)

sized_shorter : (P : List ℕ → Type 0) (short bytes : List ℕ) → AreBytes bytes → ((back : List ℕ) → AreBytes back → P back → Shorter P back short) → Sized P bytes → Shorter (Sized P) bytes (sized short)
sized_shorter P short bytes b f h =
    let both = subst AreBytes h.parts b in
    let inner = f h.back (bytes_back h.front h.back both) h.is in
    let front = bytes_front h.front h.back both in
    let below = u32_below (length h.back) h.front front h.size in
    let least = unsigned_least 32 (length h.back) h.front front h.size in
    let le = inner.1 in
    let fewer = unsigned_monotone (length short) (length h.back) le in
    let whole = ap length h.parts ∙ length-append h.front h.back in
    let pieces = length-append (unsigned_shortest (length short)) short in (
      record { front = unsigned_shortest (length short); back = short; parts = refl; size = unsigned_number 32 (length short) (omega arith) (omega arith) (omega (arith, le, below)); is = inner.0 },
      omega (arith, le, least, fewer, whole, pieces),
    )

same_shorter : (name bytes : List ℕ) → AreBytes bytes → bytes ≡ name → Shorter (λ b. b ≡ name) bytes name
same_shorter name bytes b h = let e = ap length h in (refl, omega (arith, e))

name_shorter : (name bytes : List ℕ) → AreBytes bytes → IsName name bytes → Shorter (IsName name) bytes (sized name)
name_shorter name bytes b h = let k = sized_shorter (λ c. c ≡ name) name bytes b (same_shorter name) h.1 in ((h.0, k.0), k.1)

module _ {A : Type 0} (one : List A → A → List ℕ → Type 0) (short : A → List ℕ) (each : (before : List A) (x : A) (bytes : List ℕ) → AreBytes bytes → one before x bytes → Shorter (one before x) bytes (short x)) where
  items_shorter : (xs before : List A) (bytes : List ℕ) → AreBytes bytes → AreItems one before xs bytes → Shorter (AreItems one before xs) bytes (flat_map short xs)
  items_shorter [] before bytes b h = (refl, omega arith)
  items_shorter (x ∷ xs) before bytes b h = then_shorter (one before x) (AreItems one (before ++ x ∷ []) xs) (short x) (flat_map short xs) bytes b (each before x) (items_shorter xs (before ++ x ∷ [])) h

  list_shorter : (xs : List A) (bytes : List ℕ) → AreBytes bytes → IsList one xs bytes → Shorter (IsList one xs) bytes (list_shortest short xs)
  list_shorter xs bytes b h = then_shorter (IsU32 (length xs)) (AreItems one [] xs) (unsigned_shortest (length xs)) (flat_map short xs) bytes b (u32_shorter (length xs)) (items_shorter xs []) h

-- ---- types

value_type_shorter : (t : ValueType) (bytes : List ℕ) → AreBytes bytes → IsValueType t bytes → Shorter (IsValueType t) bytes (value_type_shortest t)
value_type_shorter t bytes b h = byte_shorter (value_type_byte t) Nothing [] bytes b nothing_shorter h

value_types_shorter : (ts : List ValueType) (bytes : List ℕ) → AreBytes bytes → IsList (λ _. IsValueType) ts bytes → Shorter (IsList (λ _. IsValueType) ts) bytes (list_shortest value_type_shortest ts)
value_types_shorter = list_shorter (λ _. IsValueType) value_type_shortest (λ _. value_type_shorter)

type_shorter : (t : FunctionType) (bytes : List ℕ) → AreBytes bytes → IsType t bytes → Shorter (IsType t) bytes (type_shortest t)
unfolding type_shortest
type_shorter t bytes b h =
    let k = byte_shorter 0x60 (Then (IsList (λ _. IsValueType) t.parameters) (IsList (λ _. IsValueType) (result_list t.result))) (list_shortest value_type_shortest t.parameters ++ list_shortest value_type_shortest (result_list t.result)) bytes b
    (λ rest c. then_shorter (IsList (λ _. IsValueType) t.parameters) (IsList (λ _. IsValueType) (result_list t.result)) (list_shortest value_type_shortest t.parameters) (list_shortest value_type_shortest (result_list t.result)) rest c (value_types_shorter t.parameters) (value_types_shorter (result_list t.result))) h.1 in
    ((h.0, k.0), k.1)

bounds_shorter : (min : ℕ) (max : Option ℕ) (bytes : List ℕ) → AreBytes bytes → AreBounds min max bytes → Shorter (AreBounds min max) bytes (limits_shortest (record { min = min; max = max }))
unfolding limits_shortest
bounds_shorter min None bytes b h = byte_shorter 0x00 (IsU32 min) (unsigned_shortest min) bytes b (u32_shorter min) h
bounds_shorter min (Some max) bytes b h =
    let k = byte_shorter 0x01 (Then (IsU32 min) (IsU32 max)) (unsigned_shortest min ++ unsigned_shortest max) bytes b (λ rest c. then_shorter (IsU32 min) (IsU32 max) (unsigned_shortest min) (unsigned_shortest max) rest c (u32_shorter min) (u32_shorter max)) h.1 in
    ((h.0, k.0), k.1)

memory_shorter : (l : Limits) (bytes : List ℕ) → AreBytes bytes → IsMemory l bytes → Shorter (IsMemory l) bytes (limits_shortest l)
memory_shorter l bytes b h = let k = bounds_shorter l.min l.max bytes b h.1 in ((h.0, k.0), k.1)

table_shorter : (l : Limits) (bytes : List ℕ) → AreBytes bytes → IsTable l bytes → Shorter (IsTable l) bytes (table_shortest l)
unfolding table_shortest
table_shorter l bytes b h = let k = byte_shorter 0x70 (AreBounds l.min l.max) (limits_shortest l) bytes b (bounds_shorter l.min l.max) h.1 in ((h.0, k.0), k.1)

-- ---- instructions

access_shorter : (m : MemArg) (bytes : List ℕ) → AreBytes bytes → IsAccess m bytes → Shorter (IsAccess m) bytes (access_shortest m)
access_shorter m bytes b h = then_shorter (IsU32 m.align) (IsU32 m.offset) (unsigned_shortest m.align) (unsigned_shortest m.offset) bytes b (u32_shorter m.align) (u32_shorter m.offset) h

zero_shorter : (bytes : List ℕ) → AreBytes bytes → Byte 0x00 Nothing bytes → Shorter (Byte 0x00 Nothing) bytes (0 ∷ [])
zero_shorter bytes b h = byte_shorter 0x00 Nothing [] bytes b nothing_shorter h

labels_shorter : (ls : List ℕ) (bytes : List ℕ) → AreBytes bytes → IsList (λ _. IsU32) ls bytes → Shorter (IsList (λ _. IsU32) ls) bytes (list_shortest unsigned_shortest ls)
labels_shorter = list_shorter (λ _. IsU32) unsigned_shortest (λ _. u32_shorter)

immediates_shorter : (l : Instr-F Instr) (bytes : List ℕ) → AreBytes bytes → AreImmediates l bytes → Shorter (AreImmediates l) bytes (layer_immediates (map-Instr Instr (List ℕ) instr_shortest l))
immediates_shorter (F.Block t body) bytes b h = absurd h
immediates_shorter (F.Loop t body) bytes b h = absurd h
immediates_shorter (F.If t first second) bytes b h = absurd h
immediates_shorter (F.Br l) bytes b h = u32_shorter l bytes b h
immediates_shorter (F.BrIf l) bytes b h = u32_shorter l bytes b h
immediates_shorter (F.BrTable ls l) bytes b h =
    let k = then_shorter (IsList (λ _. IsU32) ls) (IsU32 l) (list_shortest unsigned_shortest ls) (unsigned_shortest l) bytes b (labels_shorter ls) (u32_shorter l) h.1 in
    ((h.0, k.0), k.1)
immediates_shorter (F.Call f) bytes b h = u32_shorter f bytes b h
immediates_shorter (F.CallIndirect t) bytes b h = then_shorter (IsU32 t) (Byte 0x00 Nothing) (unsigned_shortest t) (0 ∷ []) bytes b (u32_shorter t) zero_shorter h
immediates_shorter (F.LocalGet x) bytes b h = u32_shorter x bytes b h
immediates_shorter (F.LocalSet x) bytes b h = u32_shorter x bytes b h
immediates_shorter (F.LocalTee x) bytes b h = u32_shorter x bytes b h
immediates_shorter (F.GlobalGet x) bytes b h = u32_shorter x bytes b h
immediates_shorter (F.GlobalSet x) bytes b h = u32_shorter x bytes b h
immediates_shorter (F.I32Load m) bytes b h = access_shorter m bytes b h
immediates_shorter (F.I64Load m) bytes b h = access_shorter m bytes b h
immediates_shorter (F.I32Load8S m) bytes b h = access_shorter m bytes b h
immediates_shorter (F.I32Load8U m) bytes b h = access_shorter m bytes b h
immediates_shorter (F.I32Load16S m) bytes b h = access_shorter m bytes b h
immediates_shorter (F.I32Load16U m) bytes b h = access_shorter m bytes b h
immediates_shorter (F.I64Load8S m) bytes b h = access_shorter m bytes b h
immediates_shorter (F.I64Load8U m) bytes b h = access_shorter m bytes b h
immediates_shorter (F.I64Load16S m) bytes b h = access_shorter m bytes b h
immediates_shorter (F.I64Load16U m) bytes b h = access_shorter m bytes b h
immediates_shorter (F.I64Load32S m) bytes b h = access_shorter m bytes b h
immediates_shorter (F.I64Load32U m) bytes b h = access_shorter m bytes b h
immediates_shorter (F.I32Store m) bytes b h = access_shorter m bytes b h
immediates_shorter (F.I64Store m) bytes b h = access_shorter m bytes b h
immediates_shorter (F.I32Store8 m) bytes b h = access_shorter m bytes b h
immediates_shorter (F.I32Store16 m) bytes b h = access_shorter m bytes b h
immediates_shorter (F.I64Store8 m) bytes b h = access_shorter m bytes b h
immediates_shorter (F.I64Store16 m) bytes b h = access_shorter m bytes b h
immediates_shorter (F.I64Store32 m) bytes b h = access_shorter m bytes b h
immediates_shorter F.MemorySize bytes b h = zero_shorter bytes b h
immediates_shorter F.MemoryGrow bytes b h = zero_shorter bytes b h
immediates_shorter (F.I32Const n) bytes b h = i32_shorter n bytes b h
immediates_shorter (F.I64Const n) bytes b h = i64_shorter n bytes b h
immediates_shorter _ bytes b h = (refl, omega arith)

plain_shorter : (i : Instr) (bytes : List ℕ) → AreBytes bytes → IsPlain i bytes → Shorter (IsPlain i) bytes (instr_shortest i)
plain_shorter i bytes b h =
    subst (Shorter (IsPlain i) bytes) (sym (instr_is i))
    (byte_shorter (opcode_of i) (AreImmediates (out-Instr i)) (immediates_of i) bytes b (immediates_shorter (out-Instr i)) h)

-- a block behind its opcode and its type
abbrev wrapped : ℕ → Option ValueType → List ℕ → List ℕ
wrapped b t code = b ∷ block_type_byte t ∷ (code ++ 0x0b ∷ [])

wrapped_length : (b : ℕ) (t : Option ValueType) (code : List ℕ) → length (wrapped b t code) ≡ length code + 3
wrapped_length b t code = let n = length-append code (0x0b ∷ []) in omega (arith, n)

abbrev both : Option ValueType → List ℕ → List ℕ → List ℕ
both t code more = 0x04 ∷ block_type_byte t ∷ (code ++ 0x05 ∷ (more ++ 0x0b ∷ []))

both_length : (t : Option ValueType) (code more : List ℕ) → length (both t code more) ≡ length code + length more + 4
both_length t code more =
    let n = length-append code (0x05 ∷ (more ++ 0x0b ∷ [])) in
    let k = length-append more (0x0b ∷ []) in
    omega (arith, n, k)

-- the bytes of a list in a block
inner_bytes : (b : ℕ) (t : Option ValueType) (bytes code : List ℕ) → bytes ≡ wrapped b t code → AreBytes bytes → AreBytes code
inner_bytes b t bytes code spelled h = bytes_front code (0x0b ∷ []) (subst AreBytes spelled h).1.1

inner_both : (t : Option ValueType) (bytes code more : List ℕ) → bytes ≡ both t code more → AreBytes bytes → AreBytes code × AreBytes more
inner_both t bytes code more spelled h =
    let inner = (subst AreBytes spelled h).1.1 in
    (bytes_front code (0x05 ∷ (more ++ 0x0b ∷ [])) inner, bytes_front more (0x0b ∷ []) (bytes_back code (0x05 ∷ (more ++ 0x0b ∷ [])) inner).1)

abbrev code_shortest_of : List Instr → List ℕ
code_shortest_of is = flat_map instr_shortest is

block_shortest : (t : Option ValueType) (body : List Instr) → instr_shortest (Block t body) ≡ wrapped 0x02 t (code_shortest_of body)
block_shortest t body = instr_is (Block t body) ∙ ap (λ (l : List ℕ). opcode_of (Block t body) ∷ l) (block_is t body) ∙ ap (λ o. wrapped o t (code_shortest_of body)) (ap layer_opcode (out_block t body))

loop_shortest : (t : Option ValueType) (body : List Instr) → instr_shortest (Loop t body) ≡ wrapped 0x03 t (code_shortest_of body)
loop_shortest t body = instr_is (Loop t body) ∙ ap (λ (l : List ℕ). opcode_of (Loop t body) ∷ l) (loop_is t body) ∙ ap (λ o. wrapped o t (code_shortest_of body)) (ap layer_opcode (out_loop t body))

if_shortest : (t : Option ValueType) (one other : List Instr) → instr_shortest (If t one other) ≡ 0x04 ∷ block_type_byte t ∷ (code_shortest_of one ++ second_shortest (map instr_shortest other))
if_shortest t one other =
    instr_is (If t one other) ∙ ap (λ (l : List ℕ). opcode_of (If t one other) ∷ l) (if_is t one other)
    ∙ ap (λ o. o ∷ block_type_byte t ∷ (code_shortest_of one ++ second_shortest (map instr_shortest other))) (ap layer_opcode (out_if t one other))

both_shortest : (t : Option ValueType) (one other : List Instr) → 0 < length other → instr_shortest (If t one other) ≡ both t (code_shortest_of one) (code_shortest_of other)
both_shortest t one other some = if_shortest t one other ∙ ap (λ (l : List ℕ). 0x04 ∷ block_type_byte t ∷ (code_shortest_of one ++ l)) (second_is instr_shortest other some)

-- an instruction that is spelled so, no longer than the bytes
by_spelling : (labels : ℕ) (i : Instr) (bytes short : List ℕ) → instr_shortest i ≡ short → IsInstr labels i short → length short ≤ length bytes → Shorter (IsInstr labels i) bytes (instr_shortest i)
by_spelling labels i bytes short e is le = subst (Shorter (IsInstr labels i) bytes) (sym e) (is, le)

-- an if, whose second side may be empty
sides_shorter : (labels : ℕ) (i : Instr) (bytes : List ℕ) (t : Option ValueType) (one other : List Instr) (code more : List ℕ) → labels < MOST_LABELS → i ≡ If t one other → bytes ≡ both t code more
    → Shorter (IsCode (labels + 1) one) code (code_shortest_of one) → Shorter (IsCode (labels + 1) other) more (code_shortest_of other) → Shorter (IsInstr labels i) bytes (instr_shortest i)
sides_shorter labels i bytes t one [] code more few is spelled first second =
    let short = wrapped 0x04 t (code_shortest_of one) in
    let le = first.1 in
    let own = wrapped_length 0x04 t (code_shortest_of one) in
    let whole = ap length spelled ∙ both_length t code more in
    by_spelling labels i bytes short (ap instr_shortest is ∙ if_shortest t one []) (one_side labels i short t one (code_shortest_of one) few is refl first.0) (omega (arith, le, own, whole))
sides_shorter labels i bytes t one (x ∷ xs) code more few is spelled first second =
    let other = x ∷ xs in
    let short = both t (code_shortest_of one) (code_shortest_of other) in
    let le = first.1 in
    let also = second.1 in
    let own = both_length t (code_shortest_of one) (code_shortest_of other) in
    let whole = ap length spelled ∙ both_length t code more in
    by_spelling labels i bytes short (ap instr_shortest is ∙ both_shortest t one other (omega arith)) (two_sides labels i short t one other (code_shortest_of one) (code_shortest_of other) few is refl first.0 second.0) (omega (arith, le, also, own, whole))

mutual
  instr_shorter : (labels : ℕ) (i : Instr) (bytes : List ℕ) → AreBytes bytes → IsInstr labels i bytes → Shorter (IsInstr labels i) bytes (instr_shortest i)
  instr_shorter labels i bytes b (plain k j bs h) = let p = plain_shorter i bytes b h in (plain labels i (instr_shortest i) p.0, p.1)
  instr_shorter labels i bytes b (block k j bs t body code few is spelled inner) =
      let c = code_shorter (labels + 1) body code (inner_bytes 0x02 t bytes code spelled b) inner in
      let short = wrapped 0x02 t (code_shortest_of body) in
      let le = c.1 in
      let own = wrapped_length 0x02 t (code_shortest_of body) in
      let whole = ap length spelled ∙ wrapped_length 0x02 t code in
      by_spelling labels i bytes short (ap instr_shortest is ∙ block_shortest t body) (block labels i short t body (code_shortest_of body) few is refl c.0) (omega (arith, le, own, whole))
  instr_shorter labels i bytes b (loop k j bs t body code few is spelled inner) =
      let c = code_shorter (labels + 1) body code (inner_bytes 0x03 t bytes code spelled b) inner in
      let short = wrapped 0x03 t (code_shortest_of body) in
      let le = c.1 in
      let own = wrapped_length 0x03 t (code_shortest_of body) in
      let whole = ap length spelled ∙ wrapped_length 0x03 t code in
      by_spelling labels i bytes short (ap instr_shortest is ∙ loop_shortest t body) (loop labels i short t body (code_shortest_of body) few is refl c.0) (omega (arith, le, own, whole))
  instr_shorter labels i bytes b (one_side k j bs t side code few is spelled inner) =
      let c = code_shorter (labels + 1) side code (inner_bytes 0x04 t bytes code spelled b) inner in
      let short = wrapped 0x04 t (code_shortest_of side) in
      let le = c.1 in
      let own = wrapped_length 0x04 t (code_shortest_of side) in
      let whole = ap length spelled ∙ wrapped_length 0x04 t code in
      by_spelling labels i bytes short (ap instr_shortest is ∙ if_shortest t side []) (one_side labels i short t side (code_shortest_of side) few is refl c.0) (omega (arith, le, own, whole))
  instr_shorter labels i bytes b (two_sides k j bs t one other code more few is spelled first second) =
      let inner = inner_both t bytes code more spelled b in
      sides_shorter labels i bytes t one other code more few is spelled (code_shorter (labels + 1) one code inner.0 first) (code_shorter (labels + 1) other more inner.1 second)

  code_shorter : (labels : ℕ) (is : List Instr) (bytes : List ℕ) → AreBytes bytes → IsCode labels is bytes → Shorter (IsCode labels is) bytes (code_shortest_of is)
  code_shorter labels is bytes b (no_more k) = (no_more labels, omega arith)
  code_shorter labels is bytes b (one_more k i others front back whole parts head tail) =
      let all = subst AreBytes parts b in
      let first = instr_shorter labels i front (bytes_front front back all) head in
      let left = code_shorter labels others back (bytes_back front back all) tail in
      let le = first.1 in
      let also = left.1 in
      let long = ap length parts ∙ length-append front back in
      let short = length-append (instr_shortest i) (code_shortest_of others) in
      (one_more labels i others (instr_shortest i) (code_shortest_of others) (code_shortest_of is) refl first.0 left.0, omega (arith, le, also, long, short))

end_shorter : (bytes : List ℕ) → AreBytes bytes → IsEnd bytes → Shorter IsEnd bytes (0x0b ∷ [])
end_shorter bytes b h = byte_shorter 0x0b Nothing [] bytes b nothing_shorter h

-- ---- the entries of the sections

import_shorter : (types : List FunctionType) (before : List Import) (i : Import) (bytes : List ℕ) → AreBytes bytes → IsImport types before i bytes → Shorter (IsImport types before i) bytes (import_shortest i)
unfolding import_shortest
import_shorter types before i bytes b h =
    let k = then_shorter (IsName swiftown) (Then (IsName (host_name i.call)) (Byte 0x00 (IsU32 i.type_index))) (sized swiftown) (sized (host_name i.call) ++ (0 ∷ unsigned_shortest i.type_index)) bytes b (name_shorter swiftown)
    (λ rest c. then_shorter (IsName (host_name i.call)) (Byte 0x00 (IsU32 i.type_index)) (sized (host_name i.call)) (0 ∷ unsigned_shortest i.type_index) rest c (name_shorter (host_name i.call))
    (λ last d. byte_shorter 0x00 (IsU32 i.type_index) (unsigned_shortest i.type_index) last d (u32_shorter i.type_index))) h.2 in
    ((h.0, h.1, k.0), k.1)

constant_shorter : (v : Value) (bytes : List ℕ) → AreBytes bytes → IsConstant v bytes → Shorter (IsConstant v) bytes (constant_shortest v)
unfolding constant_shortest
constant_shorter (value.I32 n) bytes b h = byte_shorter 0x41 (Then (IsI32 n) IsEnd) (i32_shortest n ++ 0x0b ∷ []) bytes b (λ rest c. then_shorter (IsI32 n) IsEnd (i32_shortest n) (0x0b ∷ []) rest c (i32_shorter n) end_shorter) h
constant_shorter (value.I64 n) bytes b h = byte_shorter 0x42 (Then (IsI64 n) IsEnd) (i64_shortest n ++ 0x0b ∷ []) bytes b (λ rest c. then_shorter (IsI64 n) IsEnd (i64_shortest n) (0x0b ∷ []) rest c (i64_shorter n) end_shorter) h

global_shorter : (g : GlobalEntry) (bytes : List ℕ) → AreBytes bytes → IsGlobal g bytes → Shorter (IsGlobal g) bytes (global_shortest g)
unfolding global_shortest
global_shorter g bytes b h =
    byte_shorter (value_type_byte g.value_type) (Byte (mutable_byte g.is_mutable) (IsConstant g.initial)) (mutable_byte g.is_mutable ∷ constant_shortest g.initial) bytes b
    (λ rest c. byte_shorter (mutable_byte g.is_mutable) (IsConstant g.initial) (constant_shortest g.initial) rest c (constant_shorter g.initial)) h

export_shorter : (m : Module) (before : List Export) (e : Export) (bytes : List ℕ) → AreBytes bytes → IsExport m before e bytes → Shorter (IsExport m before e) bytes (export_shortest e)
unfolding export_shortest
export_shorter m before e bytes b h =
    let k = then_shorter (IsName e.name) (Byte (kind_byte e.kind) (IsIndex (kind_count m e.kind) e.index)) (sized e.name) (kind_byte e.kind ∷ unsigned_shortest e.index) bytes b (name_shorter e.name)
    (λ rest c. byte_shorter (kind_byte e.kind) (IsIndex (kind_count m e.kind) e.index) (unsigned_shortest e.index) rest c (index_shorter (kind_count m e.kind) e.index)) h.1 in
    ((h.0, k.0), k.1)

-- the first byte of a segment, which is a number 0
first_zero : unsigned_shortest 0 ≡ 0 ∷ []
unfolding unsigned_shortest shortest_in
first_zero = refl

element_shorter : (m : Module) (s : ElementSegment) (bytes : List ℕ) → AreBytes bytes → IsElement m s bytes → Shorter (IsElement m s) bytes (element_shortest s)
unfolding element_shortest
element_shorter m s bytes b h =
    let k = then_shorter (IsIndex (length m.tables) 0) (Then (IsConstant (value.I32 s.offset)) (IsList (λ _. IsIndex (function_count m)) s.functions)) (unsigned_shortest 0) (constant_shortest (value.I32 s.offset) ++ list_shortest unsigned_shortest s.functions) bytes b (index_shorter (length m.tables) 0)
    (λ rest c. then_shorter (IsConstant (value.I32 s.offset)) (IsList (λ _. IsIndex (function_count m)) s.functions) (constant_shortest (value.I32 s.offset)) (list_shortest unsigned_shortest s.functions) rest c (constant_shorter (value.I32 s.offset))
    (list_shorter (λ _. IsIndex (function_count m)) unsigned_shortest (λ _. index_shorter (function_count m)) s.functions)) h.1 in
    subst (λ (z : List ℕ). Shorter (IsElement m s) bytes (z ++ (constant_shortest (value.I32 s.offset) ++ list_shortest unsigned_shortest s.functions))) first_zero ((h.0, k.0), k.1)

segment_shorter : (m : Module) (s : DataSegment) (bytes : List ℕ) → AreBytes bytes → IsSegment m s bytes → Shorter (IsSegment m s) bytes (segment_shortest s)
unfolding segment_shortest
segment_shorter m s bytes b h =
    let k = then_shorter (IsIndex (length m.memories) 0) (Then (IsConstant (value.I32 s.offset)) (Sized (λ c. c ≡ s.bytes))) (unsigned_shortest 0) (constant_shortest (value.I32 s.offset) ++ sized s.bytes) bytes b (index_shorter (length m.memories) 0)
    (λ rest c. then_shorter (IsConstant (value.I32 s.offset)) (Sized (λ c. c ≡ s.bytes)) (constant_shortest (value.I32 s.offset)) (sized s.bytes) rest c (constant_shorter (value.I32 s.offset))
    (λ last d. sized_shorter (λ c. c ≡ s.bytes) s.bytes last d (same_shorter s.bytes))) h.1 in
    subst (λ (z : List ℕ). Shorter (IsSegment m s) bytes (z ++ (constant_shortest (value.I32 s.offset) ++ sized s.bytes))) first_zero ((h.0, k.0), k.1)

group_shorter : (g : LocalGroup) (bytes : List ℕ) → AreBytes bytes → IsGroup g bytes → Shorter (IsGroup g) bytes (group_shortest g)
unfolding group_shortest
group_shorter g bytes b h = then_shorter (IsU32 g.count) (IsValueType g.value_type) (unsigned_shortest g.count) (value_type_shortest g.value_type) bytes b (u32_shorter g.count) (value_type_shorter g.value_type) h

code_entry_shorter : (m : Module) (k : ℕ) (c : CodeEntry) (bytes : List ℕ) → AreBytes bytes → IsCodeEntry m k c bytes → Shorter (IsCodeEntry m k c) bytes (code_shortest c)
unfolding code_shortest body_shortest
code_entry_shorter m k c bytes b h =
    let s = sized_shorter (Then (IsList (λ _. IsGroup) c.locals) (Then (IsCode 0 c.body) IsEnd)) (list_shortest group_shortest c.locals ++ (code_shortest_of c.body ++ 0x0b ∷ [])) bytes b
    (λ back d. then_shorter (IsList (λ _. IsGroup) c.locals) (Then (IsCode 0 c.body) IsEnd) (list_shortest group_shortest c.locals) (code_shortest_of c.body ++ 0x0b ∷ []) back d (list_shorter (λ _. IsGroup) group_shortest (λ _. group_shorter) c.locals)
    (λ rest e. then_shorter (IsCode 0 c.body) IsEnd (code_shortest_of c.body) (0x0b ∷ []) rest e (code_shorter 0 c.body) end_shorter)) h.1 in
    ((h.0, s.0), s.1)

-- ---- sections

no_custom : AreCustom []
no_custom = ([], refl)

module _ {A : Type 0} (id : ℕ) (one : List A → A → List ℕ → Type 0) (short : A → List ℕ) (each : (before : List A) (x : A) (bytes : List ℕ) → AreBytes bytes → one before x bytes → Shorter (one before x) bytes (short x)) where
  -- a list that is not empty has a section
  section_by : (xs : List A) (section : List ℕ) → AreBytes section → ((section ≡ []) × (xs ≡ [])) ⊎ Byte id (Sized (IsList one xs)) section → Shorter (IsSection id one xs) section (section_shortest id short xs)
  unfolding section_shortest
  section_by [] section b h = (record { customs = []; section = []; parts = refl; skipped = no_custom; is = inl (refl, refl) }, omega arith)
  section_by (x ∷ xs) section b (inl none) = let e = ap length none.1 in absurd (omega (arith, e))
  section_by (x ∷ xs) section b (inr some) =
      let s = byte_shorter id (Sized (IsList one (x ∷ xs))) (sized (list_shortest short (x ∷ xs))) section b (λ rest c. sized_shorter (IsList one (x ∷ xs)) (list_shortest short (x ∷ xs)) rest c (list_shorter one short each (x ∷ xs))) some in
      let some_is = ne_eqb (length (x ∷ xs)) 0 (λ e. omega (arith, e)) in
      (record { customs = []; section = id ∷ sized (list_shortest short (x ∷ xs)); parts = rw some_is refl; skipped = no_custom; is = inr s.0 }, rw some_is s.1)

  section_shorter : (xs : List A) (bytes : List ℕ) → AreBytes bytes → IsSection id one xs bytes → Shorter (IsSection id one xs) bytes (section_shortest id short xs)
  section_shorter xs bytes b h =
      let k = section_by xs h.section (bytes_back h.customs h.section (subst AreBytes h.parts b)) h.is in
      let le = k.1 in
      let whole = ap length h.parts ∙ length-append h.customs h.section in
      (k.0, omega (arith, le, whole))

-- ---- the module

regroup : (a b c d e f g h i j : List ℕ) → (a ++ (b ++ (c ++ (d ++ e)))) ++ (f ++ (g ++ (h ++ (i ++ j)))) ≡ a ++ (b ++ (c ++ (d ++ (e ++ (f ++ (g ++ (h ++ (i ++ (j ++ [])))))))))
regroup a b c d e f g h i j =
    let inner : (b ++ (c ++ (d ++ e))) ++ (f ++ (g ++ (h ++ (i ++ j)))) ≡ b ++ (c ++ (d ++ (e ++ (f ++ (g ++ (h ++ (i ++ j))))))) =
    append_assoc b (c ++ (d ++ e)) _ ∙ ap (λ (l : List ℕ). b ++ l) (append_assoc c (d ++ e) _ ∙ ap (λ (l : List ℕ). c ++ l) (append_assoc d e _)) in
    append_assoc a (b ++ (c ++ (d ++ e))) _ ∙ ap (λ (l : List ℕ). a ++ l) (inner ∙ ap (λ (l : List ℕ). b ++ (c ++ (d ++ (e ++ (f ++ (g ++ (h ++ (i ++ l)))))))) (sym (append-nil j)))

module _ (m : Module) where
  abbrev Last : List ℕ → Type 0
  Last = Then (IsSection 10 (λ before. IsCodeEntry m (length before)) m.codes) (Then (IsSection 11 (λ _. IsSegment m) m.segments) AreCustom)

  abbrev Middle : List ℕ → Type 0
  Middle = Then (IsSection 6 (λ _. IsGlobal) m.globals) (Then (IsSection 7 (IsExport m) m.exports) (Then (IsSection 9 (λ _. IsElement m) m.elements) Last))

  abbrev last_bytes : List ℕ
  last_bytes = section_shortest 10 code_shortest m.codes ++ (section_shortest 11 segment_shortest m.segments ++ [])

  abbrev middle_bytes : List ℕ
  middle_bytes = section_shortest 6 global_shortest m.globals ++ (section_shortest 7 export_shortest m.exports ++ (section_shortest 9 element_shortest m.elements ++ last_bytes))

  last_shorter : (bytes : List ℕ) → AreBytes bytes → Last bytes → Shorter Last bytes last_bytes
  last_shorter bytes b h =
      then_shorter (IsSection 10 (λ before. IsCodeEntry m (length before)) m.codes) (Then (IsSection 11 (λ _. IsSegment m) m.segments) AreCustom) (section_shortest 10 code_shortest m.codes) (section_shortest 11 segment_shortest m.segments ++ []) bytes b
      (section_shorter 10 (λ before. IsCodeEntry m (length before)) code_shortest (λ before. code_entry_shorter m (length before)) m.codes)
      (λ rest c. then_shorter (IsSection 11 (λ _. IsSegment m) m.segments) AreCustom (section_shortest 11 segment_shortest m.segments) [] rest c (section_shorter 11 (λ _. IsSegment m) segment_shortest (λ _. segment_shorter m) m.segments) (λ last d e. (no_custom, omega arith))) h

  middle_shorter : (bytes : List ℕ) → AreBytes bytes → Middle bytes → Shorter Middle bytes middle_bytes
  middle_shorter bytes b h =
      then_shorter (IsSection 6 (λ _. IsGlobal) m.globals) (Then (IsSection 7 (IsExport m) m.exports) (Then (IsSection 9 (λ _. IsElement m) m.elements) Last)) (section_shortest 6 global_shortest m.globals) (section_shortest 7 export_shortest m.exports ++ (section_shortest 9 element_shortest m.elements ++ last_bytes)) bytes b
      (section_shorter 6 (λ _. IsGlobal) global_shortest (λ _. global_shorter) m.globals)
      (λ rest c. then_shorter (IsSection 7 (IsExport m) m.exports) (Then (IsSection 9 (λ _. IsElement m) m.elements) Last) (section_shortest 7 export_shortest m.exports) (section_shortest 9 element_shortest m.elements ++ last_bytes) rest c
      (section_shorter 7 (IsExport m) export_shortest (export_shorter m) m.exports)
      (λ left d. then_shorter (IsSection 9 (λ _. IsElement m) m.elements) Last (section_shortest 9 element_shortest m.elements) last_bytes left d (section_shorter 9 (λ _. IsElement m) element_shortest (λ _. element_shorter m) m.elements) last_shorter)) h

  abbrev memory_bytes : List ℕ
  memory_bytes = section_shortest 5 limits_shortest m.memories ++ middle_bytes

  abbrev table_bytes : List ℕ
  table_bytes = section_shortest 4 table_shortest m.tables ++ memory_bytes

  abbrev function_bytes : List ℕ
  function_bytes = section_shortest 3 unsigned_shortest m.functions ++ table_bytes

  abbrev import_bytes : List ℕ
  import_bytes = section_shortest 2 import_shortest m.imports ++ function_bytes

  abbrev FromMemories : List ℕ → Type 0
  FromMemories = Then (IsSection 5 (λ _. IsMemory) m.memories) Middle

  abbrev FromTables : List ℕ → Type 0
  FromTables = Then (IsSection 4 (λ _. IsTable) m.tables) FromMemories

  abbrev FromFunctions : List ℕ → Type 0
  FromFunctions = Then (IsSection 3 (λ _. IsIndex (length m.types)) m.functions) FromTables

  abbrev FromImports : List ℕ → Type 0
  FromImports = Then (IsSection 2 (IsImport m.types) m.imports) FromFunctions

  sections_shorter : (bytes : List ℕ) → AreBytes bytes → AreSections m bytes → Shorter (AreSections m) bytes (section_shortest 1 type_shortest m.types ++ import_bytes)
  sections_shorter bytes b h =
      then_shorter (IsSection 1 (λ _. IsType) m.types) FromImports (section_shortest 1 type_shortest m.types) import_bytes bytes b (section_shorter 1 (λ _. IsType) type_shortest (λ _. type_shorter) m.types)
      (λ rest c. then_shorter (IsSection 2 (IsImport m.types) m.imports) FromFunctions (section_shortest 2 import_shortest m.imports) function_bytes rest c (section_shorter 2 (IsImport m.types) import_shortest (import_shorter m.types) m.imports)
      (λ rest c. then_shorter (IsSection 3 (λ _. IsIndex (length m.types)) m.functions) FromTables (section_shortest 3 unsigned_shortest m.functions) table_bytes rest c (section_shorter 3 (λ _. IsIndex (length m.types)) unsigned_shortest (λ _. index_shorter (length m.types)) m.functions)
      (λ rest c. then_shorter (IsSection 4 (λ _. IsTable) m.tables) FromMemories (section_shortest 4 table_shortest m.tables) memory_bytes rest c (section_shorter 4 (λ _. IsTable) table_shortest (λ _. table_shorter) m.tables)
      (λ rest c. then_shorter (IsSection 5 (λ _. IsMemory) m.memories) Middle (section_shortest 5 limits_shortest m.memories) middle_bytes rest c (section_shorter 5 (λ _. IsMemory) limits_shortest (λ _. memory_shorter) m.memories) middle_shorter)))) h

  -- the shortest spelling spells the module, and is no longer than the bytes
  pub shortest_spells : (bytes : List ℕ) → All (λ b. b < 256) bytes → ModuleBytes bytes m → ModuleBytes (Shortest m) m × (length (Shortest m) ≤ length bytes)
  unfolding Shortest first_sections last_sections
  shortest_spells bytes b h =
      let all = subst AreBytes h.parts (recursion_from_All (λ n. n < 256) bytes b) in
      let sections = sections_shorter h.rest (bytes_back header h.rest all) h.sections in
      let same = regroup
      (section_shortest 1 type_shortest m.types) (section_shortest 2 import_shortest m.imports) (section_shortest 3 unsigned_shortest m.functions) (section_shortest 4 table_shortest m.tables) (section_shortest 5 limits_shortest m.memories)
      (section_shortest 6 global_shortest m.globals) (section_shortest 7 export_shortest m.exports) (section_shortest 9 element_shortest m.elements) (section_shortest 10 code_shortest m.codes) (section_shortest 11 segment_shortest m.segments) in
      let le = sections.1 in
      let long = ap length h.parts ∙ length-append header h.rest in
      let short = length-append header (first_sections m ++ last_sections m) in
      let pieces = ap length same in (
        record { rest = first_sections m ++ last_sections m; parts = refl; sections = subst (AreSections m) (sym same) sections.0; counts = h.counts; main = h.main },
        omega (arith, le, long, short, pieces),
      )
