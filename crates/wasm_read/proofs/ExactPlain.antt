-- Instructions that hold no others are read exactly as they are spelled.
use Rattle.std.proofs.Common.{◌≡◌, ℕ, ◌+◌, ◌<◌, ◌≤◌, true, false, cond, ltb, eqb, List, [], ◌++◌, length, Option, Some, None, Result, Ok, refl, sym, ap, subst, ◌∙◌, arith, inl, inr}
use Rattle.std.proofs.lemmas.Bool.{cases_lt, ltb-true, ltb-false, eqb-true}
use Rattle.wasm_form.specs.declared.instr.Instr.{Instr, roll-Instr, out-Instr, roll-out-Instr}
use Rattle.wasm_form.specs.declared.instr.Instr.TheOpen.{Instr-F}
use Rattle.wasm_form.specs.declared.instr.Instr.TheOpen as F
use Rattle.wasm_form.specs.declared.instr.MemArg.{MemArg}
use Rattle.wasm_form.specs.declared.limits.ModuleLimit.TheVariants as limit
use Rattle.wasm_form.specs.Leb.{IsNumber}
use Rattle.wasm_form.specs.Opcode.{layer_opcode}
use Rattle.wasm_form.specs.Tables.{is_float, i32_test_of, i64_test_of, i32_arithmetic_of, i64_arithmetic_of, conversion_of, numeric_of, access_of}
use Rattle.wasm_form.specs.Bytes.{Then, Nothing, Byte, IsU32, IsList, IsAccess, AreImmediates}
use Rattle.wasm_form.proofs.Outs.{out_roll}
use Rattle.wasm_read.specs.declared.fault.Fault.{Fault}
use Rattle.wasm_read.specs.declared.fault.Fault.TheVariants.{Limit}
use Rattle.wasm_read.specs.Reading.{◌>>=◌, Reader, u32_at, number_at, zero_at, or_fault}
use Rattle.wasm_read.specs.Codes.{of_number, labels_at, br_table_at, call_indirect_at, control_by, variable_of, variable_by, access_at, constant_by, plain_by}
use Rattle.wasm_read.proofs.Leads.{ok_is}
use Rattle.wasm_read.proofs.Numbers.{chosen}
use Rattle.wasm_read.proofs.Exact.{Takes, Exact, left_with, exact_u32, exact_number}
use Rattle.wasm_read.proofs.ExactTypes.{exact_counted}
use Rattle.wasm_read.proofs.Parts.{exact_as, exact_then, exact_map, exact_ending, takes_zero}
use Rattle.wasm_form.specs.declared.limits.TheConstants.{MOST_TARGETS}

-- ---- what follows the opcode, by its kind

-- of one number
exact_one : (make : ℕ → Instr) → Exact (λ i bytes. (n : ℕ) × (make n ≡ i) × IsU32 n bytes) (of_number make)
exact_one make = exact_map IsU32 u32_at make exact_u32

exact_access : Exact IsAccess access_at
unfolding access_at
exact_access =
    exact_as (λ m bytes. (a : ℕ) × Then (IsU32 a) (λ bs. (o : ℕ) × (at a o ≡ m) × IsU32 o bs) bytes) IsAccess access_at
    (exact_then IsU32 (λ a m bs. (o : ℕ) × (at a o ≡ m) × IsU32 o bs) u32_at (λ a bytes. u32_at bytes >>= λ o. Ok (at a o.0, o.1)) exact_u32 (λ a. exact_map IsU32 u32_at (at a) exact_u32))
    (λ m bytes h. let t = h.1 in subst (λ (y : MemArg). IsAccess y bytes) t.second.1 (record { front = t.front; back = t.back; parts = t.parts; first = t.first; second = t.second.2 }))
    (λ m bytes h. (m.align, record { front = h.front; back = h.back; parts = h.parts; first = h.first; second = (m.offset, refl, h.second) }))
  where
    at : ℕ → ℕ → MemArg
    at a o = record { align = a; offset = o }

exact_accessed : (make : MemArg → Instr) → Exact (λ i bytes. (m : MemArg) × (make m ≡ i) × IsAccess m bytes) (λ bytes. access_at bytes >>= λ m. Ok (make m.0, m.1))
exact_accessed make = exact_map IsAccess access_at make exact_access

exact_labels : Exact (λ ls bytes. (length ls ≤ MOST_TARGETS) × IsList (λ _. IsU32) ls bytes) labels_at
unfolding labels_at
exact_labels = exact_counted MOST_TARGETS (Limit limit.Targets) (λ _. IsU32) (λ _. u32_at) (λ _. exact_u32)

exact_br_table : Exact (λ i bytes. (ls : List ℕ) × Then (λ bs. (length ls ≤ MOST_TARGETS) × IsList (λ _. IsU32) ls bs) (λ bs. (l : ℕ) × (roll-Instr (F.BrTable ls l) ≡ i) × IsU32 l bs) bytes) br_table_at
unfolding br_table_at
exact_br_table =
    exact_then (λ ls bs. (length ls ≤ MOST_TARGETS) × IsList (λ _. IsU32) ls bs) (λ ls i bs. (l : ℕ) × (roll-Instr (F.BrTable ls l) ≡ i) × IsU32 l bs)
    labels_at (λ ls bytes. u32_at bytes >>= λ l. Ok (roll-Instr (F.BrTable ls l.0), l.1)) exact_labels (λ ls. exact_map IsU32 u32_at (λ l. roll-Instr (F.BrTable ls l)) exact_u32)

exact_call_indirect : Exact (λ i bytes. (t : ℕ) × Then (IsU32 t) (λ bs. (roll-Instr (F.CallIndirect t) ≡ i) × Byte 0x00 Nothing bs) bytes) call_indirect_at
unfolding call_indirect_at
exact_call_indirect =
    exact_then IsU32 (λ t i bs. (roll-Instr (F.CallIndirect t) ≡ i) × Byte 0x00 Nothing bs)
    u32_at (λ t bytes. zero_at bytes >>= λ r. Ok (roll-Instr (F.CallIndirect t), r)) exact_u32 (λ t. exact_ending 0x00 zero_at (roll-Instr (F.CallIndirect t)) takes_zero)

exact_zero : (i : Instr) → Exact (λ j bytes. (i ≡ j) × Byte 0x00 Nothing bytes) (λ bytes. zero_at bytes >>= λ r. Ok (i, r))
exact_zero i = exact_ending 0x00 zero_at i takes_zero

exact_constant : (bits : ℕ) (make : ℕ → Instr) → Exact (λ i bytes. (n : ℕ) × (make n ≡ i) × IsNumber true bits bytes n) (λ bytes. number_at true bits bytes >>= λ n. Ok (make n.0, n.1))
exact_constant bits make = exact_map (λ n bytes. IsNumber true bits bytes n) (number_at true bits) make (exact_number true bits)

-- ---- what is spelled is read

alone : (i : Instr) (front rest : List ℕ) → front ≡ [] → left_with i (front ++ rest) ≡ Ok (i, rest)
alone i front rest h = rw h refl

plain_only : (l : Instr-F Instr) (front rest : List ℕ) → AreImmediates l front → plain_by (layer_opcode l) (front ++ rest) ≡ Ok (roll-Instr l, rest)
unfolding plain_by control_by variable_by variable_of constant_by access_of numeric_of i32_test_of i64_test_of i32_arithmetic_of i64_arithmetic_of conversion_of is_float
plain_only F.Unreachable front rest h = alone (roll-Instr F.Unreachable) front rest h
plain_only F.Nop front rest h = alone (roll-Instr F.Nop) front rest h
plain_only (F.Block t body) front rest h = absurd h
plain_only (F.Loop t body) front rest h = absurd h
plain_only (F.If t first second) front rest h = absurd h
plain_only (F.Br x) front rest h = (exact_one (λ n. roll-Instr (F.Br n))).only (roll-Instr (F.Br x)) front rest (x, refl, h)
plain_only (F.BrIf x) front rest h = (exact_one (λ n. roll-Instr (F.BrIf n))).only (roll-Instr (F.BrIf x)) front rest (x, refl, h)
plain_only (F.BrTable ls l) front rest h = let t = h.1 in exact_br_table.only (roll-Instr (F.BrTable ls l)) front rest (ls, record { front = t.front; back = t.back; parts = t.parts; first = (h.0, t.first); second = (l, refl, t.second) })
plain_only F.Return front rest h = alone (roll-Instr F.Return) front rest h
plain_only (F.Call x) front rest h = (exact_one (λ n. roll-Instr (F.Call n))).only (roll-Instr (F.Call x)) front rest (x, refl, h)
plain_only (F.CallIndirect t) front rest h = exact_call_indirect.only (roll-Instr (F.CallIndirect t)) front rest (t, record { front = h.front; back = h.back; parts = h.parts; first = h.first; second = (refl, h.second) })
plain_only F.Drop front rest h = alone (roll-Instr F.Drop) front rest h
plain_only F.Select front rest h = alone (roll-Instr F.Select) front rest h
plain_only (F.LocalGet x) front rest h = (exact_one (λ n. roll-Instr (F.LocalGet n))).only (roll-Instr (F.LocalGet x)) front rest (x, refl, h)
plain_only (F.LocalSet x) front rest h = (exact_one (λ n. roll-Instr (F.LocalSet n))).only (roll-Instr (F.LocalSet x)) front rest (x, refl, h)
plain_only (F.LocalTee x) front rest h = (exact_one (λ n. roll-Instr (F.LocalTee n))).only (roll-Instr (F.LocalTee x)) front rest (x, refl, h)
plain_only (F.GlobalGet x) front rest h = (exact_one (λ n. roll-Instr (F.GlobalGet n))).only (roll-Instr (F.GlobalGet x)) front rest (x, refl, h)
plain_only (F.GlobalSet x) front rest h = (exact_one (λ n. roll-Instr (F.GlobalSet n))).only (roll-Instr (F.GlobalSet x)) front rest (x, refl, h)
plain_only (F.I32Load m) front rest h = (exact_accessed (λ n. roll-Instr (F.I32Load n))).only (roll-Instr (F.I32Load m)) front rest (m, refl, h)
plain_only (F.I64Load m) front rest h = (exact_accessed (λ n. roll-Instr (F.I64Load n))).only (roll-Instr (F.I64Load m)) front rest (m, refl, h)
plain_only (F.I32Load8S m) front rest h = (exact_accessed (λ n. roll-Instr (F.I32Load8S n))).only (roll-Instr (F.I32Load8S m)) front rest (m, refl, h)
plain_only (F.I32Load8U m) front rest h = (exact_accessed (λ n. roll-Instr (F.I32Load8U n))).only (roll-Instr (F.I32Load8U m)) front rest (m, refl, h)
plain_only (F.I32Load16S m) front rest h = (exact_accessed (λ n. roll-Instr (F.I32Load16S n))).only (roll-Instr (F.I32Load16S m)) front rest (m, refl, h)
plain_only (F.I32Load16U m) front rest h = (exact_accessed (λ n. roll-Instr (F.I32Load16U n))).only (roll-Instr (F.I32Load16U m)) front rest (m, refl, h)
plain_only (F.I64Load8S m) front rest h = (exact_accessed (λ n. roll-Instr (F.I64Load8S n))).only (roll-Instr (F.I64Load8S m)) front rest (m, refl, h)
plain_only (F.I64Load8U m) front rest h = (exact_accessed (λ n. roll-Instr (F.I64Load8U n))).only (roll-Instr (F.I64Load8U m)) front rest (m, refl, h)
plain_only (F.I64Load16S m) front rest h = (exact_accessed (λ n. roll-Instr (F.I64Load16S n))).only (roll-Instr (F.I64Load16S m)) front rest (m, refl, h)
plain_only (F.I64Load16U m) front rest h = (exact_accessed (λ n. roll-Instr (F.I64Load16U n))).only (roll-Instr (F.I64Load16U m)) front rest (m, refl, h)
plain_only (F.I64Load32S m) front rest h = (exact_accessed (λ n. roll-Instr (F.I64Load32S n))).only (roll-Instr (F.I64Load32S m)) front rest (m, refl, h)
plain_only (F.I64Load32U m) front rest h = (exact_accessed (λ n. roll-Instr (F.I64Load32U n))).only (roll-Instr (F.I64Load32U m)) front rest (m, refl, h)
plain_only (F.I32Store m) front rest h = (exact_accessed (λ n. roll-Instr (F.I32Store n))).only (roll-Instr (F.I32Store m)) front rest (m, refl, h)
plain_only (F.I64Store m) front rest h = (exact_accessed (λ n. roll-Instr (F.I64Store n))).only (roll-Instr (F.I64Store m)) front rest (m, refl, h)
plain_only (F.I32Store8 m) front rest h = (exact_accessed (λ n. roll-Instr (F.I32Store8 n))).only (roll-Instr (F.I32Store8 m)) front rest (m, refl, h)
plain_only (F.I32Store16 m) front rest h = (exact_accessed (λ n. roll-Instr (F.I32Store16 n))).only (roll-Instr (F.I32Store16 m)) front rest (m, refl, h)
plain_only (F.I64Store8 m) front rest h = (exact_accessed (λ n. roll-Instr (F.I64Store8 n))).only (roll-Instr (F.I64Store8 m)) front rest (m, refl, h)
plain_only (F.I64Store16 m) front rest h = (exact_accessed (λ n. roll-Instr (F.I64Store16 n))).only (roll-Instr (F.I64Store16 m)) front rest (m, refl, h)
plain_only (F.I64Store32 m) front rest h = (exact_accessed (λ n. roll-Instr (F.I64Store32 n))).only (roll-Instr (F.I64Store32 m)) front rest (m, refl, h)
plain_only F.MemorySize front rest h = (exact_zero (roll-Instr F.MemorySize)).only (roll-Instr F.MemorySize) front rest (refl, h)
plain_only F.MemoryGrow front rest h = (exact_zero (roll-Instr F.MemoryGrow)).only (roll-Instr F.MemoryGrow) front rest (refl, h)
plain_only (F.I32Const x) front rest h = (exact_constant 32 (λ n. roll-Instr (F.I32Const n))).only (roll-Instr (F.I32Const x)) front rest (x, refl, h)
plain_only (F.I64Const x) front rest h = (exact_constant 64 (λ n. roll-Instr (F.I64Const n))).only (roll-Instr (F.I64Const x)) front rest (x, refl, h)
plain_only F.I32Eqz front rest h = alone (roll-Instr F.I32Eqz) front rest h
plain_only F.I32Eq front rest h = alone (roll-Instr F.I32Eq) front rest h
plain_only F.I32Ne front rest h = alone (roll-Instr F.I32Ne) front rest h
plain_only F.I32LtS front rest h = alone (roll-Instr F.I32LtS) front rest h
plain_only F.I32LtU front rest h = alone (roll-Instr F.I32LtU) front rest h
plain_only F.I32GtS front rest h = alone (roll-Instr F.I32GtS) front rest h
plain_only F.I32GtU front rest h = alone (roll-Instr F.I32GtU) front rest h
plain_only F.I32LeS front rest h = alone (roll-Instr F.I32LeS) front rest h
plain_only F.I32LeU front rest h = alone (roll-Instr F.I32LeU) front rest h
plain_only F.I32GeS front rest h = alone (roll-Instr F.I32GeS) front rest h
plain_only F.I32GeU front rest h = alone (roll-Instr F.I32GeU) front rest h
plain_only F.I64Eqz front rest h = alone (roll-Instr F.I64Eqz) front rest h
plain_only F.I64Eq front rest h = alone (roll-Instr F.I64Eq) front rest h
plain_only F.I64Ne front rest h = alone (roll-Instr F.I64Ne) front rest h
plain_only F.I64LtS front rest h = alone (roll-Instr F.I64LtS) front rest h
plain_only F.I64LtU front rest h = alone (roll-Instr F.I64LtU) front rest h
plain_only F.I64GtS front rest h = alone (roll-Instr F.I64GtS) front rest h
plain_only F.I64GtU front rest h = alone (roll-Instr F.I64GtU) front rest h
plain_only F.I64LeS front rest h = alone (roll-Instr F.I64LeS) front rest h
plain_only F.I64LeU front rest h = alone (roll-Instr F.I64LeU) front rest h
plain_only F.I64GeS front rest h = alone (roll-Instr F.I64GeS) front rest h
plain_only F.I64GeU front rest h = alone (roll-Instr F.I64GeU) front rest h
plain_only F.I32Clz front rest h = alone (roll-Instr F.I32Clz) front rest h
plain_only F.I32Ctz front rest h = alone (roll-Instr F.I32Ctz) front rest h
plain_only F.I32Popcnt front rest h = alone (roll-Instr F.I32Popcnt) front rest h
plain_only F.I32Add front rest h = alone (roll-Instr F.I32Add) front rest h
plain_only F.I32Sub front rest h = alone (roll-Instr F.I32Sub) front rest h
plain_only F.I32Mul front rest h = alone (roll-Instr F.I32Mul) front rest h
plain_only F.I32DivS front rest h = alone (roll-Instr F.I32DivS) front rest h
plain_only F.I32DivU front rest h = alone (roll-Instr F.I32DivU) front rest h
plain_only F.I32RemS front rest h = alone (roll-Instr F.I32RemS) front rest h
plain_only F.I32RemU front rest h = alone (roll-Instr F.I32RemU) front rest h
plain_only F.I32And front rest h = alone (roll-Instr F.I32And) front rest h
plain_only F.I32Or front rest h = alone (roll-Instr F.I32Or) front rest h
plain_only F.I32Xor front rest h = alone (roll-Instr F.I32Xor) front rest h
plain_only F.I32Shl front rest h = alone (roll-Instr F.I32Shl) front rest h
plain_only F.I32ShrS front rest h = alone (roll-Instr F.I32ShrS) front rest h
plain_only F.I32ShrU front rest h = alone (roll-Instr F.I32ShrU) front rest h
plain_only F.I32Rotl front rest h = alone (roll-Instr F.I32Rotl) front rest h
plain_only F.I32Rotr front rest h = alone (roll-Instr F.I32Rotr) front rest h
plain_only F.I64Clz front rest h = alone (roll-Instr F.I64Clz) front rest h
plain_only F.I64Ctz front rest h = alone (roll-Instr F.I64Ctz) front rest h
plain_only F.I64Popcnt front rest h = alone (roll-Instr F.I64Popcnt) front rest h
plain_only F.I64Add front rest h = alone (roll-Instr F.I64Add) front rest h
plain_only F.I64Sub front rest h = alone (roll-Instr F.I64Sub) front rest h
plain_only F.I64Mul front rest h = alone (roll-Instr F.I64Mul) front rest h
plain_only F.I64DivS front rest h = alone (roll-Instr F.I64DivS) front rest h
plain_only F.I64DivU front rest h = alone (roll-Instr F.I64DivU) front rest h
plain_only F.I64RemS front rest h = alone (roll-Instr F.I64RemS) front rest h
plain_only F.I64RemU front rest h = alone (roll-Instr F.I64RemU) front rest h
plain_only F.I64And front rest h = alone (roll-Instr F.I64And) front rest h
plain_only F.I64Or front rest h = alone (roll-Instr F.I64Or) front rest h
plain_only F.I64Xor front rest h = alone (roll-Instr F.I64Xor) front rest h
plain_only F.I64Shl front rest h = alone (roll-Instr F.I64Shl) front rest h
plain_only F.I64ShrS front rest h = alone (roll-Instr F.I64ShrS) front rest h
plain_only F.I64ShrU front rest h = alone (roll-Instr F.I64ShrU) front rest h
plain_only F.I64Rotl front rest h = alone (roll-Instr F.I64Rotl) front rest h
plain_only F.I64Rotr front rest h = alone (roll-Instr F.I64Rotr) front rest h
plain_only F.I32WrapI64 front rest h = alone (roll-Instr F.I32WrapI64) front rest h
plain_only F.I64ExtendI32S front rest h = alone (roll-Instr F.I64ExtendI32S) front rest h
plain_only F.I64ExtendI32U front rest h = alone (roll-Instr F.I64ExtendI32U) front rest h

-- ---- what is read is spelled so

-- the instruction that was read, and its spelling behind the opcode b
record IsRead (b : ℕ) (bytes : List ℕ) (x : Instr × List ℕ) : Type 0 where
  layer : Instr-F Instr
  is : roll-Instr layer ≡ x.0
  opcode : b ≡ layer_opcode layer
  spelled : Takes (AreImmediates layer) bytes x.1

-- by a reader that is exact
by_exact : (b : ℕ) (bytes : List ℕ) (x : Instr × List ℕ) (P : Instr → List ℕ → Type 0) (r : Reader Instr) → Exact P r
    → ((bs : List ℕ) → P x.0 bs → (l : Instr-F Instr) × (roll-Instr l ≡ x.0) × (b ≡ layer_opcode l) × AreImmediates l bs) → r bytes ≡ Ok x → IsRead b bytes x
by_exact b bytes x P r exact of e =
    let t = exact.found bytes x e in
    let l = of t.front t.is in
    record { layer = l.0; is = l.1; opcode = l.2; spelled = record { front = t.front; parts = t.parts; is = l.3 } }

-- an opcode alone
here : (b : ℕ) (bytes : List ℕ) (x : Instr × List ℕ) (l : Instr-F Instr) → AreImmediates l [] → b ≡ layer_opcode l → left_with (roll-Instr l) bytes ≡ Ok x → IsRead b bytes x
here b bytes x l nothing opcode e = subst (λ (y : Instr × List ℕ). IsRead b bytes y) (ok_is (roll-Instr l, bytes) x e) (record { layer = l; is = refl; opcode = opcode; spelled = record { front = []; parts = refl; is = nothing } })

numbered : (b : ℕ) (bytes : List ℕ) (x : Instr × List ℕ) (make : ℕ → Instr-F Instr) → ((n : ℕ) (bs : List ℕ) → IsU32 n bs → AreImmediates (make n) bs) → ((n : ℕ) → b ≡ layer_opcode (make n)) → of_number (λ n. roll-Instr (make n)) bytes ≡ Ok x → IsRead b bytes x
numbered b bytes x make is opcode e = by_exact b bytes x _ (of_number (λ n. roll-Instr (make n))) (exact_one (λ n. roll-Instr (make n))) (λ bs h. (make h.0, h.1, opcode h.0, is h.0 bs h.2)) e

accessed : (b : ℕ) (bytes : List ℕ) (x : Instr × List ℕ) (make : MemArg → Instr-F Instr) → ((m : MemArg) (bs : List ℕ) → IsAccess m bs → AreImmediates (make m) bs) → ((m : MemArg) → b ≡ layer_opcode (make m)) → (access_at bytes >>= λ m. Ok (roll-Instr (make m.0), m.1)) ≡ Ok x → IsRead b bytes x
accessed b bytes x make is opcode e = by_exact b bytes x _ (λ bs. access_at bs >>= λ m. Ok (roll-Instr (make m.0), m.1)) (exact_accessed (λ m. roll-Instr (make m))) (λ bs h. (make h.0, h.1, opcode h.0, is h.0 bs h.2)) e

-- one test of many
by_test : (b c : ℕ) (bytes : List ℕ) (x : Instr × List ℕ) (r s : Result (Instr × List ℕ) Fault) → (b ≡ c → r ≡ Ok x → IsRead b bytes x) → (s ≡ Ok x → IsRead b bytes x) → cond (eqb b c) r s ≡ Ok x → IsRead b bytes x
by_test b c bytes x r s same other e = elim (chosen (eqb b c) _ _ _ e) [
  | inl p ↦ same (eqb-true b c p.0) p.1
  | inr p ↦ other p.1
]

control_found : (b : ℕ) (bytes : List ℕ) (x : Instr × List ℕ) → control_by b bytes ≡ Ok x → IsRead b bytes x
unfolding control_by
control_found b bytes x =
    by_test b 0x00 bytes x _ _ (here b bytes x F.Unreachable refl) (
    by_test b 0x01 bytes x _ _ (here b bytes x F.Nop refl) (
    by_test b 0x0c bytes x _ _ (λ o e. numbered b bytes x (λ n. F.Br n) (λ n bs h. h) (λ n. o) e) (
    by_test b 0x0d bytes x _ _ (λ o e. numbered b bytes x (λ n. F.BrIf n) (λ n bs h. h) (λ n. o) e) (
    by_test b 0x0e bytes x _ _ (λ o e. by_exact b bytes x _ br_table_at exact_br_table (λ bs h. let t = h.1 in (F.BrTable h.0 t.second.0, t.second.1, o, (t.first.0, record { front = t.front; back = t.back; parts = t.parts; first = t.first.1; second = t.second.2 }))) e) (
    by_test b 0x0f bytes x _ _ (here b bytes x F.Return refl) (
    by_test b 0x10 bytes x _ _ (λ o e. numbered b bytes x (λ n. F.Call n) (λ n bs h. h) (λ n. o) e) (
    by_test b 0x11 bytes x _ _ (λ o e. by_exact b bytes x _ call_indirect_at exact_call_indirect (λ bs h. let t = h.1 in (F.CallIndirect h.0, t.second.0, o, record { front = t.front; back = t.back; parts = t.parts; first = t.first; second = t.second.1 })) e) (
    by_test b 0x1a bytes x _ _ (here b bytes x F.Drop refl) (
    by_test b 0x1b bytes x _ _ (here b bytes x F.Select refl) (
    λ e. absurd cc))))))))))

-- the least of a range, or one of the others
from_least : (k b : ℕ) (P : ℕ → Type 0) → P k → (k + 1 ≤ b → P b) → k ≤ b → P b
from_least k b P least others le = elim (cases_lt k b) [
  | inl lt ↦ others (omega (arith, lt))
  | inr ge ↦ let e : k ≡ b = omega (arith, le, ge) in subst P e least
]

variable_found : (b : ℕ) (bytes : List ℕ) (x : Instr × List ℕ) → 0x20 ≤ b → b ≤ 0x24 → of_number (variable_of b) bytes ≡ Ok x → IsRead b bytes x
unfolding variable_of
variable_found b bytes x low high =
    let P : ℕ → Type 0 = λ k. of_number (variable_of k) bytes ≡ Ok x → IsRead k bytes x in
    from_least 0x20 b P (numbered 0x20 bytes x (λ n. F.LocalGet n) (λ n bs h. h) (λ n. refl)) (λ le32.
    from_least 0x21 b P (numbered 0x21 bytes x (λ n. F.LocalSet n) (λ n bs h. h) (λ n. refl)) (λ le33.
    from_least 0x22 b P (numbered 0x22 bytes x (λ n. F.LocalTee n) (λ n bs h. h) (λ n. refl)) (λ le34.
    from_least 0x23 b P (numbered 0x23 bytes x (λ n. F.GlobalGet n) (λ n bs h. h) (λ n. refl)) (λ le35.
    from_least 0x24 b P (numbered 0x24 bytes x (λ n. F.GlobalSet n) (λ n bs h. h) (λ n. refl)) (λ le36.
    absurd (omega (arith, high, le36))) le35) le34) le33) le32) low

access_found : (b : ℕ) (bytes : List ℕ) (x : Instr × List ℕ) → 0x28 ≤ b → b < 0x3f → is_float b ≡ false → (access_at bytes >>= λ m. Ok (access_of b m.0, m.1)) ≡ Ok x → IsRead b bytes x
unfolding access_of is_float
access_found b bytes x low high =
    let P : ℕ → Type 0 = λ k. is_float k ≡ false → (access_at bytes >>= λ m. Ok (access_of k m.0, m.1)) ≡ Ok x → IsRead k bytes x in
    from_least 0x28 b P (λ _ e. accessed 0x28 bytes x (λ m. F.I32Load m) (λ m bs h. h) (λ m. refl) e) (λ le40.
    from_least 0x29 b P (λ _ e. accessed 0x29 bytes x (λ m. F.I64Load m) (λ m bs h. h) (λ m. refl) e) (λ le41.
    from_least 0x2a b P (λ f _. absurd cc) (λ le42.
    from_least 0x2b b P (λ f _. absurd cc) (λ le43.
    from_least 0x2c b P (λ _ e. accessed 0x2c bytes x (λ m. F.I32Load8S m) (λ m bs h. h) (λ m. refl) e) (λ le44.
    from_least 0x2d b P (λ _ e. accessed 0x2d bytes x (λ m. F.I32Load8U m) (λ m bs h. h) (λ m. refl) e) (λ le45.
    from_least 0x2e b P (λ _ e. accessed 0x2e bytes x (λ m. F.I32Load16S m) (λ m bs h. h) (λ m. refl) e) (λ le46.
    from_least 0x2f b P (λ _ e. accessed 0x2f bytes x (λ m. F.I32Load16U m) (λ m bs h. h) (λ m. refl) e) (λ le47.
    from_least 0x30 b P (λ _ e. accessed 0x30 bytes x (λ m. F.I64Load8S m) (λ m bs h. h) (λ m. refl) e) (λ le48.
    from_least 0x31 b P (λ _ e. accessed 0x31 bytes x (λ m. F.I64Load8U m) (λ m bs h. h) (λ m. refl) e) (λ le49.
    from_least 0x32 b P (λ _ e. accessed 0x32 bytes x (λ m. F.I64Load16S m) (λ m bs h. h) (λ m. refl) e) (λ le50.
    from_least 0x33 b P (λ _ e. accessed 0x33 bytes x (λ m. F.I64Load16U m) (λ m bs h. h) (λ m. refl) e) (λ le51.
    from_least 0x34 b P (λ _ e. accessed 0x34 bytes x (λ m. F.I64Load32S m) (λ m bs h. h) (λ m. refl) e) (λ le52.
    from_least 0x35 b P (λ _ e. accessed 0x35 bytes x (λ m. F.I64Load32U m) (λ m bs h. h) (λ m. refl) e) (λ le53.
    from_least 0x36 b P (λ _ e. accessed 0x36 bytes x (λ m. F.I32Store m) (λ m bs h. h) (λ m. refl) e) (λ le54.
    from_least 0x37 b P (λ _ e. accessed 0x37 bytes x (λ m. F.I64Store m) (λ m bs h. h) (λ m. refl) e) (λ le55.
    from_least 0x38 b P (λ f _. absurd cc) (λ le56.
    from_least 0x39 b P (λ f _. absurd cc) (λ le57.
    from_least 0x3a b P (λ _ e. accessed 0x3a bytes x (λ m. F.I32Store8 m) (λ m bs h. h) (λ m. refl) e) (λ le58.
    from_least 0x3b b P (λ _ e. accessed 0x3b bytes x (λ m. F.I32Store16 m) (λ m bs h. h) (λ m. refl) e) (λ le59.
    from_least 0x3c b P (λ _ e. accessed 0x3c bytes x (λ m. F.I64Store8 m) (λ m bs h. h) (λ m. refl) e) (λ le60.
    from_least 0x3d b P (λ _ e. accessed 0x3d bytes x (λ m. F.I64Store16 m) (λ m bs h. h) (λ m. refl) e) (λ le61.
    from_least 0x3e b P (λ _ e. accessed 0x3e bytes x (λ m. F.I64Store32 m) (λ m bs h. h) (λ m. refl) e) (λ le62.
    absurd (omega (arith, high, le62))) le61) le60) le59) le58) le57) le56) le55) le54) le53) le52) le51) le50) le49) le48) le47) le46) le45) le44) le43) le42) le41) le40) low

constant_found : (b : ℕ) (bytes : List ℕ) (x : Instr × List ℕ) → 0x3f ≤ b → b < 0x43 → constant_by b bytes ≡ Ok x → IsRead b bytes x
unfolding constant_by
constant_found b bytes x low high =
    let P : ℕ → Type 0 = λ k. constant_by k bytes ≡ Ok x → IsRead k bytes x in
    from_least 0x3f b P (λ e. by_exact 0x3f bytes x _ _ (exact_zero (roll-Instr F.MemorySize)) (λ bs h. (F.MemorySize, h.0, refl, h.1)) e) (λ le63.
    from_least 0x40 b P (λ e. by_exact 0x40 bytes x _ _ (exact_zero (roll-Instr F.MemoryGrow)) (λ bs h. (F.MemoryGrow, h.0, refl, h.1)) e) (λ le64.
    from_least 0x41 b P (λ e. by_exact 0x41 bytes x _ _ (exact_constant 32 (λ n. roll-Instr (F.I32Const n))) (λ bs h. (F.I32Const h.0, h.1, refl, h.2)) e) (λ le65.
    from_least 0x42 b P (λ e. by_exact 0x42 bytes x _ _ (exact_constant 64 (λ n. roll-Instr (F.I64Const n))) (λ bs h. (F.I64Const h.0, h.1, refl, h.2)) e) (λ le66.
    absurd (omega (arith, high, le66))) le65) le64) le63) low

-- ---- an opcode alone, by the tables

-- the instruction of the opcode b
record IsAlone (b : ℕ) (i : Instr) : Type 0 where
  layer : Instr-F Instr
  is : roll-Instr layer ≡ i
  opcode : b ≡ layer_opcode layer
  nothing : AreImmediates layer []

some_is : (i j : Instr) (o : Option Instr) → o ≡ Some i → o ≡ Some j → i ≡ j
some_is i j o p q = cc

listed : (b : ℕ) (i : Instr) (l : Instr-F Instr) (o : Option Instr) → AreImmediates l [] → (o ≡ Some i → IsAlone b i) → cond (eqb b (layer_opcode l)) (Some (roll-Instr l)) o ≡ Some i → IsAlone b i
listed b i l o nothing others e = elim (chosen (eqb b (layer_opcode l)) _ _ _ e) [
  | inl p ↦ record { layer = l; is = some_is (roll-Instr l) i (Some (roll-Instr l)) refl p.1; opcode = eqb-true b (layer_opcode l) p.0; nothing = nothing }
  | inr p ↦ others p.1
]

i32_test_found : (b : ℕ) (i : Instr) → i32_test_of b ≡ Some i → IsAlone b i
unfolding i32_test_of
i32_test_found b i =
    listed b i F.I32Eqz _ refl (
    listed b i F.I32Eq _ refl (
    listed b i F.I32Ne _ refl (
    listed b i F.I32LtS _ refl (
    listed b i F.I32LtU _ refl (
    listed b i F.I32GtS _ refl (
    listed b i F.I32GtU _ refl (
    listed b i F.I32LeS _ refl (
    listed b i F.I32LeU _ refl (
    listed b i F.I32GeS _ refl (
    listed b i F.I32GeU _ refl (
    λ e. absurd cc)))))))))))

i64_test_found : (b : ℕ) (i : Instr) → i64_test_of b ≡ Some i → IsAlone b i
unfolding i64_test_of
i64_test_found b i =
    listed b i F.I64Eqz _ refl (
    listed b i F.I64Eq _ refl (
    listed b i F.I64Ne _ refl (
    listed b i F.I64LtS _ refl (
    listed b i F.I64LtU _ refl (
    listed b i F.I64GtS _ refl (
    listed b i F.I64GtU _ refl (
    listed b i F.I64LeS _ refl (
    listed b i F.I64LeU _ refl (
    listed b i F.I64GeS _ refl (
    listed b i F.I64GeU _ refl (
    λ e. absurd cc)))))))))))

i32_arithmetic_found : (b : ℕ) (i : Instr) → i32_arithmetic_of b ≡ Some i → IsAlone b i
unfolding i32_arithmetic_of
i32_arithmetic_found b i =
    listed b i F.I32Clz _ refl (
    listed b i F.I32Ctz _ refl (
    listed b i F.I32Popcnt _ refl (
    listed b i F.I32Add _ refl (
    listed b i F.I32Sub _ refl (
    listed b i F.I32Mul _ refl (
    listed b i F.I32DivS _ refl (
    listed b i F.I32DivU _ refl (
    listed b i F.I32RemS _ refl (
    listed b i F.I32RemU _ refl (
    listed b i F.I32And _ refl (
    listed b i F.I32Or _ refl (
    listed b i F.I32Xor _ refl (
    listed b i F.I32Shl _ refl (
    listed b i F.I32ShrS _ refl (
    listed b i F.I32ShrU _ refl (
    listed b i F.I32Rotl _ refl (
    listed b i F.I32Rotr _ refl (
    λ e. absurd cc))))))))))))))))))

i64_arithmetic_found : (b : ℕ) (i : Instr) → i64_arithmetic_of b ≡ Some i → IsAlone b i
unfolding i64_arithmetic_of
i64_arithmetic_found b i =
    listed b i F.I64Clz _ refl (
    listed b i F.I64Ctz _ refl (
    listed b i F.I64Popcnt _ refl (
    listed b i F.I64Add _ refl (
    listed b i F.I64Sub _ refl (
    listed b i F.I64Mul _ refl (
    listed b i F.I64DivS _ refl (
    listed b i F.I64DivU _ refl (
    listed b i F.I64RemS _ refl (
    listed b i F.I64RemU _ refl (
    listed b i F.I64And _ refl (
    listed b i F.I64Or _ refl (
    listed b i F.I64Xor _ refl (
    listed b i F.I64Shl _ refl (
    listed b i F.I64ShrS _ refl (
    listed b i F.I64ShrU _ refl (
    listed b i F.I64Rotl _ refl (
    listed b i F.I64Rotr _ refl (
    λ e. absurd cc))))))))))))))))))

conversion_found : (b : ℕ) (i : Instr) → conversion_of b ≡ Some i → IsAlone b i
unfolding conversion_of
conversion_found b i =
    listed b i F.I32WrapI64 _ refl (
    listed b i F.I64ExtendI32S _ refl (
    listed b i F.I64ExtendI32U _ refl (
    λ e. absurd cc)))

numeric_found : (b : ℕ) (i : Instr) → numeric_of b ≡ Some i → IsAlone b i
unfolding numeric_of
numeric_found b i e = elim (chosen (ltb b 0x50) _ _ _ e) [
  | inl p ↦ i32_test_found b i p.1
  | inr p ↦ elim (chosen (ltb b 0x5b) _ _ _ p.1) [
    | inl q ↦ i64_test_found b i q.1
    | inr q ↦ elim (chosen (ltb b 0x79) _ _ _ q.1) [
      | inl r ↦ i32_arithmetic_found b i r.1
      | inr r ↦ elim (chosen (ltb b 0x8b) _ _ _ r.1) [
        | inl s ↦ i64_arithmetic_found b i s.1
        | inr s ↦ conversion_found b i s.1
      ]
    ]
  ]
]

alone_found : (b : ℕ) (bytes : List ℕ) (x : Instr × List ℕ) (o : Option Instr) → numeric_of b ≡ o → or_fault o bytes ≡ Ok x → IsRead b bytes x
alone_found b bytes x None is e = absurd cc
alone_found b bytes x (Some i) is e =
    let a = numeric_found b i is in
    let same = ok_is (i, bytes) x e in
    here b bytes x a.layer a.nothing a.opcode (ap (λ (j : Instr). left_with j bytes) a.is ∙ e)

-- ---- all of them

plain_found : (b : ℕ) (bytes : List ℕ) (x : Instr × List ℕ) → plain_by b bytes ≡ Ok x → IsRead b bytes x
unfolding plain_by variable_by
plain_found b bytes x e = elim (chosen (is_float b) _ _ _ e) [
  | inl f ↦ absurd cc
  | inr f ↦ elim (chosen (ltb b 0x20) _ _ _ f.1) [
    | inl p ↦ control_found b bytes x p.1
    | inr p ↦ elim (chosen (ltb b 0x28) _ _ _ p.1) [
      | inl q ↦ elim (chosen (ltb 0x24 b) _ _ _ q.1) [
        | inl r ↦ absurd cc
        | inr r ↦ variable_found b bytes x (ltb-false b 0x20 p.0) (ltb-false 0x24 b r.0) r.1
      ]
      | inr q ↦ elim (chosen (ltb b 0x3f) _ _ _ q.1) [
        | inl r ↦ access_found b bytes x (ltb-false b 0x28 q.0) (ltb-true b 0x3f r.0) f.0 r.1
        | inr r ↦ elim (chosen (ltb b 0x43) _ _ _ r.1) [
          | inl s ↦ constant_found b bytes x (ltb-false b 0x3f r.0) (ltb-true b 0x43 s.0) s.1
          | inr s ↦ alone_found b bytes x (numeric_of b) refl s.1
        ]
      ]
    ]
  ]
]

-- an instruction behind its opcode b
pub exact_plain : (b : ℕ) → Exact (λ i bytes. (b ≡ layer_opcode (out-Instr i)) × AreImmediates (out-Instr i) bytes) (plain_by b)
exact_plain b = record { found = found; only = only }
  where
    found : (bytes : List ℕ) (x : Instr × List ℕ) → plain_by b bytes ≡ Ok x → Takes (λ bs. (b ≡ layer_opcode (out-Instr x.0)) × AreImmediates (out-Instr x.0) bs) bytes x.1
    found bytes x e =
        let k = plain_found b bytes x e in
        let same : k.layer ≡ out-Instr x.0 = sym (out_roll k.layer) ∙ ap out-Instr k.is in
        record { front = k.spelled.front; parts = k.spelled.parts; is = subst (λ l. (b ≡ layer_opcode l) × AreImmediates l k.spelled.front) same (k.opcode, k.spelled.is) }

    only : (i : Instr) (front rest : List ℕ) → (b ≡ layer_opcode (out-Instr i)) × AreImmediates (out-Instr i) front → plain_by b (front ++ rest) ≡ Ok (i, rest)
    only i front rest h =
        ap (λ c. plain_by c (front ++ rest)) h.0 ∙ plain_only (out-Instr i) front rest h.1 ∙ ap (λ (j : Instr). left_with j rest) (roll-out-Instr i)
