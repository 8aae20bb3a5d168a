-- The shortest spelling of instructions whose numbers fit and whose labels are within the limit: that it spells them,
-- and how many bytes it has at most.
use Rattle.std.proofs.Common.{◌≡◌, ℕ, zero, suc, ◌+◌, ◌-◌, ◌^◌, ◌≤◌, ◌<◌, Bool, true, false, List, [], ◌∷◌, ◌++◌, Option, Some, None, refl, sym, ap, ◌∙◌, subst, arith, length, map, append_assoc, length-append, if◌then◌else◌}
use Rattle.std.specs.List.{flat_map}
use Rattle.std.specs.Prelude.{nat_lt, ◌/◌, ◌%◌}
use Rattle.std.proofs.lemmas.Bool.{ltb-true}
use Rattle.wasm_form.specs.declared.instr.Instr.{Instr, out-Instr}
use Rattle.wasm_form.specs.declared.instr.Instr.TheOpen.{Instr-F}
use Rattle.wasm_form.specs.declared.instr.Instr.TheOpen as F
use Rattle.wasm_form.specs.declared.instr.Instr.TheFolds.{map-Instr}
use Rattle.wasm_form.specs.declared.instr.Instr.TheVariants as i
use Rattle.wasm_form.specs.declared.instr.MemArg.{MemArg}
use Rattle.wasm_form.specs.declared.limits.TheConstants.{MOST_LABELS}
use Rattle.wasm_form.specs.declared.types.ValueType.{ValueType}
use Rattle.wasm_form.specs.declared.types.ValueType.TheVariants as value_type
use Rattle.wasm_form.specs.Leb.{shortest_in, shortest_signed_in, unsigned_shortest, signed_shortest, i32_shortest, i64_shortest, group_of}
use Rattle.wasm_form.specs.Opcode.{layer_opcode, opcode_of}
use Rattle.wasm_form.specs.Shortest.{access_shortest, second_shortest, layer_immediates, instr_shortest, block_type_byte}
use Rattle.wasm_form.specs.Bytes.{IsU32, IsAccess, AreImmediates, IsPlain, IsInstr, IsCode, plain, block, loop, one_side, two_sides, no_more, one_more}
use Rattle.wasm_form.proofs.LebLaws.{AreBytes, unsigned_number, unsigned_monotone, i32_number, i64_number}
use Rattle.wasm_form.proofs.Outs as outs
use Rattle.wasm_form.proofs.Codes.{instr_is, block_is, loop_is, if_is, second_is}
use Rattle.wasm_laws.specs.Fits.{AccessFits, NumbersFit}

-- ---- numbers

pub u32_is : (n : ℕ) → n < 2 ^ 32 → IsU32 n (unsigned_shortest n)
u32_is n lt = unsigned_number 32 n (omega arith) (omega arith) lt

five : length (unsigned_shortest 4294967295) ≡ 5
unfolding unsigned_shortest shortest_in
five = refl

pub u32_short : (n : ℕ) → n < 2 ^ 32 → length (unsigned_shortest n) ≤ 5
u32_short n lt = let a = unsigned_monotone n 4294967295 (omega (arith, lt)) in let b = five in omega (arith, a, b)

signed_short : (k : ℕ) (negative : Bool) (n : ℕ) → length (shortest_signed_in k negative n) ≤ k
unfolding shortest_signed_in
signed_short zero negative n = omega arith
signed_short (suc k) negative n = go (nat_lt n 64) (signed_short k negative)
  where
    go : (t : Bool) → ((q : ℕ) → length (shortest_signed_in k negative q) ≤ k)
        → length (if t then group_of negative n ∷ [] else (group_of negative n + 128) ∷ shortest_signed_in k negative (n / 128)) ≤ suc k
    go true again = omega arith
    go false again = let l = again (n / 128) in omega (arith, l)

pub i32_short : (n : ℕ) → length (i32_shortest n) ≤ 10
unfolding i32_shortest signed_shortest
i32_short n = go (nat_lt n (2 ^ 31))
  where
    go : (t : Bool) → length (if t then signed_shortest false n else signed_shortest true (2 ^ 32 - 1 - n)) ≤ 10
    go true = signed_short 10 false n
    go false = signed_short 10 true (2 ^ 32 - 1 - n)

i64_short : (n : ℕ) → length (i64_shortest n) ≤ 10
unfolding i64_shortest signed_shortest
i64_short n = go (nat_lt n (2 ^ 63))
  where
    go : (t : Bool) → length (if t then signed_shortest false n else signed_shortest true (2 ^ 64 - 1 - n)) ≤ 10
    go true = signed_short 10 false n
    go false = signed_short 10 true (2 ^ 64 - 1 - n)

access_is : (a : MemArg) → AccessFits a → IsAccess a (access_shortest a)
access_is a h = record { front = unsigned_shortest a.align; back = unsigned_shortest a.offset; parts = refl; first = u32_is a.align h.0; second = u32_is a.offset h.1 }

access_short : (a : MemArg) → AccessFits a → length (access_shortest a) ≤ 10
access_short a h = let l = length-append (unsigned_shortest a.align) (unsigned_shortest a.offset) in let p = u32_short a.align h.0 in let q = u32_short a.offset h.1 in omega (arith, l, p, q)

-- ---- bytes

pub bytes_both : (xs ys : List ℕ) → AreBytes xs → AreBytes ys → AreBytes (xs ++ ys)
bytes_both [] ys p q = q
bytes_both (x ∷ xs) ys p q = (p.0, bytes_both xs ys p.1 q)

unsigned_whole : (k n : ℕ) → AreBytes (shortest_in k n)
unfolding shortest_in
unsigned_whole zero n = tt
unsigned_whole (suc k) n = go (nat_lt n 128) refl (unsigned_whole k)
  where
    go : (t : Bool) → nat_lt n 128 ≡ t → ((q : ℕ) → AreBytes (shortest_in k q)) → AreBytes (if t then n ∷ [] else (n % 128 + 128) ∷ shortest_in k (n / 128))
    go true e again = let l = ltb-true _ _ e in (omega (arith, l), tt)
    go false e again = (omega arith, again (n / 128))

pub u32_whole : (n : ℕ) → AreBytes (unsigned_shortest n)
unfolding unsigned_shortest
u32_whole n = unsigned_whole 10 n

group_small : (negative : Bool) (n : ℕ) → group_of negative n < 128
group_small true n = omega arith
group_small false n = omega arith

signed_whole : (k : ℕ) (negative : Bool) (n : ℕ) → AreBytes (shortest_signed_in k negative n)
unfolding shortest_signed_in
signed_whole zero negative n = tt
signed_whole (suc k) negative n = go (nat_lt n 64) (signed_whole k negative)
  where
    go : (t : Bool) → ((q : ℕ) → AreBytes (shortest_signed_in k negative q)) → AreBytes (if t then group_of negative n ∷ [] else (group_of negative n + 128) ∷ shortest_signed_in k negative (n / 128))
    go true again = let l = group_small negative n in (omega (arith, l), tt)
    go false again = let l = group_small negative n in (omega (arith, l), again (n / 128))

pub i32_whole : (n : ℕ) → AreBytes (i32_shortest n)
unfolding i32_shortest signed_shortest
i32_whole n = go (nat_lt n (2 ^ 31))
  where
    go : (t : Bool) → AreBytes (if t then signed_shortest false n else signed_shortest true (2 ^ 32 - 1 - n))
    go true = signed_whole 10 false n
    go false = signed_whole 10 true (2 ^ 32 - 1 - n)

i64_whole : (n : ℕ) → AreBytes (i64_shortest n)
unfolding i64_shortest signed_shortest
i64_whole n = go (nat_lt n (2 ^ 63))
  where
    go : (t : Bool) → AreBytes (if t then signed_shortest false n else signed_shortest true (2 ^ 64 - 1 - n))
    go true = signed_whole 10 false n
    go false = signed_whole 10 true (2 ^ 64 - 1 - n)

access_whole : (a : MemArg) → AreBytes (access_shortest a)
access_whole a = bytes_both (unsigned_shortest a.align) (unsigned_shortest a.offset) (u32_whole a.align) (u32_whole a.offset)

opcode_small : (l : Instr-F Instr) → layer_opcode l < 256
opcode_small F.Unreachable = omega arith
opcode_small _ = omega arith

block_type_small : (t : Option ValueType) → block_type_byte t < 256
block_type_small None = omega arith
block_type_small (Some value_type.I32) = omega arith
block_type_small (Some value_type.I64) = omega arith

-- ---- plain instructions

immediates_are : (l : Instr-F Instr) → NumbersFit l → AreImmediates l (layer_immediates (map-Instr Instr (List ℕ) instr_shortest l))
immediates_are (F.Block t body) h = absurd h
immediates_are (F.Loop t body) h = absurd h
immediates_are (F.If t first second) h = absurd h
immediates_are (F.BrTable ls l) h = absurd h
immediates_are (F.CallIndirect t) h = record { front = unsigned_shortest t; back = 0 ∷ []; parts = refl; first = u32_is t h; second = (refl, refl) }
immediates_are (F.Br n) h = u32_is n h
immediates_are (F.BrIf n) h = u32_is n h
immediates_are (F.Call n) h = u32_is n h
immediates_are (F.LocalGet n) h = u32_is n h
immediates_are (F.LocalSet n) h = u32_is n h
immediates_are (F.LocalTee n) h = u32_is n h
immediates_are (F.GlobalGet n) h = u32_is n h
immediates_are (F.GlobalSet n) h = u32_is n h
immediates_are (F.I32Load a) h = access_is a h
immediates_are (F.I64Load a) h = access_is a h
immediates_are (F.I32Load8S a) h = access_is a h
immediates_are (F.I32Load8U a) h = access_is a h
immediates_are (F.I32Load16S a) h = access_is a h
immediates_are (F.I32Load16U a) h = access_is a h
immediates_are (F.I64Load8S a) h = access_is a h
immediates_are (F.I64Load8U a) h = access_is a h
immediates_are (F.I64Load16S a) h = access_is a h
immediates_are (F.I64Load16U a) h = access_is a h
immediates_are (F.I64Load32S a) h = access_is a h
immediates_are (F.I64Load32U a) h = access_is a h
immediates_are (F.I32Store a) h = access_is a h
immediates_are (F.I64Store a) h = access_is a h
immediates_are (F.I32Store8 a) h = access_is a h
immediates_are (F.I32Store16 a) h = access_is a h
immediates_are (F.I64Store8 a) h = access_is a h
immediates_are (F.I64Store16 a) h = access_is a h
immediates_are (F.I64Store32 a) h = access_is a h
immediates_are (F.I32Const n) h = i32_number n h
immediates_are (F.I64Const n) h = i64_number n h
immediates_are F.MemorySize h = (refl, refl)
immediates_are F.MemoryGrow h = (refl, refl)
immediates_are _ h = refl

immediates_short : (l : Instr-F Instr) → NumbersFit l → length (layer_immediates (map-Instr Instr (List ℕ) instr_shortest l)) ≤ 10
immediates_short (F.Block t body) h = absurd h
immediates_short (F.Loop t body) h = absurd h
immediates_short (F.If t first second) h = absurd h
immediates_short (F.BrTable ls l) h = absurd h
immediates_short (F.CallIndirect t) h = let l = u32_short t h in let q = length-append (unsigned_shortest t) (0 ∷ []) in omega (arith, l, q)
immediates_short (F.Br n) h = let l = u32_short n h in omega (arith, l)
immediates_short (F.BrIf n) h = let l = u32_short n h in omega (arith, l)
immediates_short (F.Call n) h = let l = u32_short n h in omega (arith, l)
immediates_short (F.LocalGet n) h = let l = u32_short n h in omega (arith, l)
immediates_short (F.LocalSet n) h = let l = u32_short n h in omega (arith, l)
immediates_short (F.LocalTee n) h = let l = u32_short n h in omega (arith, l)
immediates_short (F.GlobalGet n) h = let l = u32_short n h in omega (arith, l)
immediates_short (F.GlobalSet n) h = let l = u32_short n h in omega (arith, l)
immediates_short (F.I32Load a) h = access_short a h
immediates_short (F.I64Load a) h = access_short a h
immediates_short (F.I32Load8S a) h = access_short a h
immediates_short (F.I32Load8U a) h = access_short a h
immediates_short (F.I32Load16S a) h = access_short a h
immediates_short (F.I32Load16U a) h = access_short a h
immediates_short (F.I64Load8S a) h = access_short a h
immediates_short (F.I64Load8U a) h = access_short a h
immediates_short (F.I64Load16S a) h = access_short a h
immediates_short (F.I64Load16U a) h = access_short a h
immediates_short (F.I64Load32S a) h = access_short a h
immediates_short (F.I64Load32U a) h = access_short a h
immediates_short (F.I32Store a) h = access_short a h
immediates_short (F.I64Store a) h = access_short a h
immediates_short (F.I32Store8 a) h = access_short a h
immediates_short (F.I32Store16 a) h = access_short a h
immediates_short (F.I64Store8 a) h = access_short a h
immediates_short (F.I64Store16 a) h = access_short a h
immediates_short (F.I64Store32 a) h = access_short a h
immediates_short (F.I32Const n) h = i32_short n
immediates_short (F.I64Const n) h = i64_short n
immediates_short _ h = omega arith

immediates_whole : (l : Instr-F Instr) → NumbersFit l → AreBytes (layer_immediates (map-Instr Instr (List ℕ) instr_shortest l))
immediates_whole (F.Block t body) h = absurd h
immediates_whole (F.Loop t body) h = absurd h
immediates_whole (F.If t first second) h = absurd h
immediates_whole (F.BrTable ls l) h = absurd h
immediates_whole (F.CallIndirect t) h = bytes_both (unsigned_shortest t) (0 ∷ []) (u32_whole t) (omega arith, tt)
immediates_whole (F.Br n) h = u32_whole n
immediates_whole (F.BrIf n) h = u32_whole n
immediates_whole (F.Call n) h = u32_whole n
immediates_whole (F.LocalGet n) h = u32_whole n
immediates_whole (F.LocalSet n) h = u32_whole n
immediates_whole (F.LocalTee n) h = u32_whole n
immediates_whole (F.GlobalGet n) h = u32_whole n
immediates_whole (F.GlobalSet n) h = u32_whole n
immediates_whole (F.I32Load a) h = access_whole a
immediates_whole (F.I64Load a) h = access_whole a
immediates_whole (F.I32Load8S a) h = access_whole a
immediates_whole (F.I32Load8U a) h = access_whole a
immediates_whole (F.I32Load16S a) h = access_whole a
immediates_whole (F.I32Load16U a) h = access_whole a
immediates_whole (F.I64Load8S a) h = access_whole a
immediates_whole (F.I64Load8U a) h = access_whole a
immediates_whole (F.I64Load16S a) h = access_whole a
immediates_whole (F.I64Load16U a) h = access_whole a
immediates_whole (F.I64Load32S a) h = access_whole a
immediates_whole (F.I64Load32U a) h = access_whole a
immediates_whole (F.I32Store a) h = access_whole a
immediates_whole (F.I64Store a) h = access_whole a
immediates_whole (F.I32Store8 a) h = access_whole a
immediates_whole (F.I32Store16 a) h = access_whole a
immediates_whole (F.I64Store8 a) h = access_whole a
immediates_whole (F.I64Store16 a) h = access_whole a
immediates_whole (F.I64Store32 a) h = access_whole a
immediates_whole (F.I32Const n) h = i32_whole n
immediates_whole (F.I64Const n) h = i64_whole n
immediates_whole F.MemorySize h = (omega arith, tt)
immediates_whole F.MemoryGrow h = (omega arith, tt)
immediates_whole _ h = tt

-- ---- instructions and lists of them

pub record InstrIs (labels : ℕ) (x : Instr) (n : ℕ) : Type 0 where
  pub spelled : IsInstr labels x (instr_shortest x)
  pub short : length (instr_shortest x) ≤ n
  pub whole : AreBytes (instr_shortest x)

pub record CodeIs (labels : ℕ) (xs : List Instr) (n : ℕ) : Type 0 where
  pub spelled : IsCode labels xs (flat_map instr_shortest xs)
  pub short : length (flat_map instr_shortest xs) ≤ n
  pub whole : AreBytes (flat_map instr_shortest xs)

pub plain_is : (labels : ℕ) (x : Instr) → NumbersFit (out-Instr x) → InstrIs labels x 11
plain_is labels x h = record {
  spelled = plain labels x (instr_shortest x) (subst (IsPlain x) (sym (instr_is x)) (refl, immediates_are (out-Instr x) h));
  short = let e = ap length (instr_is x) in let l = immediates_short (out-Instr x) h in omega (arith, e, l);
  whole = subst AreBytes (sym (instr_is x)) (opcode_small (out-Instr x), immediates_whole (out-Instr x) h);
}

pub nil : (labels : ℕ) → CodeIs labels [] 0
nil labels = record { spelled = no_more labels; short = omega arith; whole = tt }

pub cons : {labels : ℕ} {x : Instr} {xs : List Instr} {a b : ℕ} → InstrIs labels x a → CodeIs labels xs b → CodeIs labels (x ∷ xs) (a + b)
cons {labels = labels} {x = x} {xs = xs} h t = record {
  spelled = one_more labels x xs (instr_shortest x) (flat_map instr_shortest xs) _ refl h.spelled t.spelled;
  short = let l = length-append (instr_shortest x) (flat_map instr_shortest xs) in let p = h.short in let q = t.short in omega (arith, l, p, q);
  whole = bytes_both (instr_shortest x) (flat_map instr_shortest xs) h.whole t.whole;
}

pub at_most : {labels : ℕ} {xs : List Instr} {a : ℕ} (b : ℕ) → a ≤ b → CodeIs labels xs a → CodeIs labels xs b
at_most b le t = record { spelled = t.spelled; short = let q = t.short in omega (arith, q, le); whole = t.whole }

flat_append : (xs ys : List Instr) → flat_map instr_shortest (xs ++ ys) ≡ flat_map instr_shortest xs ++ flat_map instr_shortest ys
flat_append [] ys = refl
flat_append (x ∷ xs) ys = ap (λ (l : List ℕ). instr_shortest x ++ l) (flat_append xs ys) ∙ sym (append_assoc (instr_shortest x) (flat_map instr_shortest xs) (flat_map instr_shortest ys))

codes_append : (labels : ℕ) (xs ys : List Instr) (bytes more : List ℕ) → IsCode labels xs bytes → IsCode labels ys more → IsCode labels (xs ++ ys) (bytes ++ more)
codes_append labels xs ys bytes more (no_more k) t = t
codes_append labels xs ys bytes more (one_more k x others front back whole parts head tail) t =
    one_more labels x (others ++ ys) front (back ++ more) (bytes ++ more) (ap (λ (l : List ℕ). l ++ more) parts ∙ append_assoc front back more) head (codes_append labels others ys back more tail t)

pub append_is : {labels : ℕ} {xs ys : List Instr} {a b : ℕ} → CodeIs labels xs a → CodeIs labels ys b → CodeIs labels (xs ++ ys) (a + b)
append_is {labels = labels} {xs = xs} {ys = ys} {a = a} {b = b} h t = record {
  spelled = subst (IsCode labels (xs ++ ys)) (sym (flat_append xs ys)) (codes_append labels xs ys _ _ h.spelled t.spelled);
  short = let e = ap length (flat_append xs ys) in let l = length-append (flat_map instr_shortest xs) (flat_map instr_shortest ys) in let p = h.short in let q = t.short in omega (arith, e, l, p, q);
  whole = subst AreBytes (sym (flat_append xs ys)) (bytes_both (flat_map instr_shortest xs) (flat_map instr_shortest ys) h.whole t.whole);
}

-- ---- blocks

block_spelled : (t : Option ValueType) (body : List Instr) → instr_shortest (i.Block t body) ≡ 0x02 ∷ block_type_byte t ∷ (flat_map instr_shortest body ++ 0x0b ∷ [])
block_spelled t body = instr_is (i.Block t body) ∙ ap (λ (l : List ℕ). opcode_of (i.Block t body) ∷ l) (block_is t body) ∙ ap (λ (o : ℕ). o ∷ block_type_byte t ∷ (flat_map instr_shortest body ++ 0x0b ∷ [])) (ap layer_opcode (outs.out_block t body))

loop_spelled : (t : Option ValueType) (body : List Instr) → instr_shortest (i.Loop t body) ≡ 0x03 ∷ block_type_byte t ∷ (flat_map instr_shortest body ++ 0x0b ∷ [])
loop_spelled t body = instr_is (i.Loop t body) ∙ ap (λ (l : List ℕ). opcode_of (i.Loop t body) ∷ l) (loop_is t body) ∙ ap (λ (o : ℕ). o ∷ block_type_byte t ∷ (flat_map instr_shortest body ++ 0x0b ∷ [])) (ap layer_opcode (outs.out_loop t body))

if_spelled : (t : Option ValueType) (one other : List Instr) → instr_shortest (i.If t one other) ≡ 0x04 ∷ block_type_byte t ∷ (flat_map instr_shortest one ++ second_shortest (map instr_shortest other))
if_spelled t one other = instr_is (i.If t one other) ∙ ap (λ (l : List ℕ). opcode_of (i.If t one other) ∷ l) (if_is t one other) ∙ ap (λ (o : ℕ). o ∷ block_type_byte t ∷ (flat_map instr_shortest one ++ second_shortest (map instr_shortest other))) (ap layer_opcode (outs.out_if t one other))

pub block_fits : {labels : ℕ} (t : Option ValueType) {body : List Instr} {n : ℕ} → labels < MOST_LABELS → CodeIs (labels + 1) body n → InstrIs labels (i.Block t body) (n + 3)
block_fits {labels = labels} t {body = body} lt h = record {
  spelled = block labels _ _ t body (flat_map instr_shortest body) lt refl (block_spelled t body) h.spelled;
  short = let e = ap length (block_spelled t body) in let l = length-append (flat_map instr_shortest body) (0x0b ∷ []) in let p = h.short in omega (arith, e, l, p);
  whole = subst AreBytes (sym (block_spelled t body)) (omega arith, (block_type_small t, bytes_both (flat_map instr_shortest body) (0x0b ∷ []) h.whole (omega arith, tt)));
}

pub loop_fits : {labels : ℕ} (t : Option ValueType) {body : List Instr} {n : ℕ} → labels < MOST_LABELS → CodeIs (labels + 1) body n → InstrIs labels (i.Loop t body) (n + 3)
loop_fits {labels = labels} t {body = body} lt h = record {
  spelled = loop labels _ _ t body (flat_map instr_shortest body) lt refl (loop_spelled t body) h.spelled;
  short = let e = ap length (loop_spelled t body) in let l = length-append (flat_map instr_shortest body) (0x0b ∷ []) in let p = h.short in omega (arith, e, l, p);
  whole = subst AreBytes (sym (loop_spelled t body)) (omega arith, (block_type_small t, bytes_both (flat_map instr_shortest body) (0x0b ∷ []) h.whole (omega arith, tt)));
}

pub if_fits : {labels : ℕ} (t : Option ValueType) {one : List Instr} (other : List Instr) {a b : ℕ} → labels < MOST_LABELS → CodeIs (labels + 1) one a → CodeIs (labels + 1) other b → InstrIs labels (i.If t one other) (a + b + 4)
if_fits {labels = labels} t {one = one} [] lt h k = record {
  spelled = one_side labels _ _ t one (flat_map instr_shortest one) lt refl (if_spelled t one []) h.spelled;
  short = let e = ap length (if_spelled t one []) in let l = length-append (flat_map instr_shortest one) (0x0b ∷ []) in let p = h.short in omega (arith, e, l, p);
  whole = subst AreBytes (sym (if_spelled t one [])) (omega arith, (block_type_small t, bytes_both (flat_map instr_shortest one) (0x0b ∷ []) h.whole (omega arith, tt)));
}
if_fits {labels = labels} t {one = one} (x ∷ xs) lt h k =
    let e = if_spelled t one (x ∷ xs) ∙ ap (λ (l : List ℕ). 0x04 ∷ block_type_byte t ∷ (flat_map instr_shortest one ++ l)) (second_is instr_shortest (x ∷ xs) (omega arith)) in
    record {
      spelled = two_sides labels _ _ t one (x ∷ xs) (flat_map instr_shortest one) (flat_map instr_shortest (x ∷ xs)) lt refl e h.spelled k.spelled;
      short = let f = ap length e in let l = length-append (flat_map instr_shortest one) (0x05 ∷ (flat_map instr_shortest (x ∷ xs) ++ 0x0b ∷ [])) in let q = length-append (flat_map instr_shortest (x ∷ xs)) (0x0b ∷ []) in let p = h.short in let r = k.short in omega (arith, f, l, q, p, r);
      whole = subst AreBytes (sym e) (omega arith, (block_type_small t, bytes_both (flat_map instr_shortest one) (0x05 ∷ (flat_map instr_shortest (x ∷ xs) ++ 0x0b ∷ [])) h.whole (omega arith, bytes_both (flat_map instr_shortest (x ∷ xs)) (0x0b ∷ []) k.whole (omega arith, tt))));
    }

-- ---- one line for each instruction that a lowering emits

module _ {labels : ℕ} where
  pub local_get : (n : ℕ) → n < 2 ^ 32 → InstrIs labels (i.LocalGet n) 11
  local_get n lt = plain_is labels _ (subst NumbersFit (sym (outs.out_local_get n)) lt)

  pub local_set : (n : ℕ) → n < 2 ^ 32 → InstrIs labels (i.LocalSet n) 11
  local_set n lt = plain_is labels _ (subst NumbersFit (sym (outs.out_local_set n)) lt)

  pub local_tee : (n : ℕ) → n < 2 ^ 32 → InstrIs labels (i.LocalTee n) 11
  local_tee n lt = plain_is labels _ (subst NumbersFit (sym (outs.out_local_tee n)) lt)

  pub br : (n : ℕ) → n < 2 ^ 32 → InstrIs labels (i.Br n) 11
  br n lt = plain_is labels _ (subst NumbersFit (sym (outs.out_br n)) lt)

  pub call : (n : ℕ) → n < 2 ^ 32 → InstrIs labels (i.Call n) 11
  call n lt = plain_is labels _ (subst NumbersFit (sym (outs.out_call n)) lt)

  pub i32_const : (n : ℕ) → n < 2 ^ 32 → InstrIs labels (i.I32Const n) 11
  i32_const n lt = plain_is labels _ (subst NumbersFit (sym (outs.out_i32_const n)) lt)

  pub i64_const : (n : ℕ) → n < 2 ^ 64 → InstrIs labels (i.I64Const n) 11
  i64_const n lt = plain_is labels _ (subst NumbersFit (sym (outs.out_i64_const n)) lt)

  pub i64_load : (a : MemArg) → AccessFits a → InstrIs labels (i.I64Load a) 11
  i64_load a h = plain_is labels _ (subst NumbersFit (sym (outs.out_i64_load a)) h)

  pub i64_store : (a : MemArg) → AccessFits a → InstrIs labels (i.I64Store a) 11
  i64_store a h = plain_is labels _ (subst NumbersFit (sym (outs.out_i64_store a)) h)

  pub call_indirect : (n : ℕ) → n < 2 ^ 32 → InstrIs labels (i.CallIndirect n) 11
  call_indirect n lt = plain_is labels _ (subst NumbersFit (sym (outs.out_call_indirect n)) lt)

  pub unreachable : InstrIs labels i.Unreachable 11
  unreachable = plain_is labels _ (subst NumbersFit (sym outs.out_unreachable) tt)

  pub i32_sub : InstrIs labels i.I32Sub 11
  i32_sub = plain_is labels _ (subst NumbersFit (sym outs.out_i32_sub) tt)

  pub br_if : (n : ℕ) → n < 2 ^ 32 → InstrIs labels (i.BrIf n) 11
  br_if n lt = plain_is labels _ (subst NumbersFit (sym (outs.out_br_if n)) lt)

  pub i32_wrap_i64 : InstrIs labels i.I32WrapI64 11
  i32_wrap_i64 = plain_is labels _ (subst NumbersFit (sym outs.out_i32_wrap_i64) tt)

  pub i64_extend_i32_u : InstrIs labels i.I64ExtendI32U 11
  i64_extend_i32_u = plain_is labels _ (subst NumbersFit (sym outs.out_i64_extend_i32_u) tt)

  pub i64_add : InstrIs labels i.I64Add 11
  i64_add = plain_is labels _ (subst NumbersFit (sym outs.out_i64_add) tt)

  pub i64_sub : InstrIs labels i.I64Sub 11
  i64_sub = plain_is labels _ (subst NumbersFit (sym outs.out_i64_sub) tt)

  pub i64_mul : InstrIs labels i.I64Mul 11
  i64_mul = plain_is labels _ (subst NumbersFit (sym outs.out_i64_mul) tt)

  pub i64_div_s : InstrIs labels i.I64DivS 11
  i64_div_s = plain_is labels _ (subst NumbersFit (sym outs.out_i64_div_s) tt)

  pub i64_rem_s : InstrIs labels i.I64RemS 11
  i64_rem_s = plain_is labels _ (subst NumbersFit (sym outs.out_i64_rem_s) tt)

  pub i64_eqz : InstrIs labels i.I64Eqz 11
  i64_eqz = plain_is labels _ (subst NumbersFit (sym outs.out_i64_eqz) tt)

  pub i32_eqz : InstrIs labels i.I32Eqz 11
  i32_eqz = plain_is labels _ (subst NumbersFit (sym outs.out_i32_eqz) tt)

  pub i64_eq : InstrIs labels i.I64Eq 11
  i64_eq = plain_is labels _ (subst NumbersFit (sym outs.out_i64_eq) tt)

  pub i64_ne : InstrIs labels i.I64Ne 11
  i64_ne = plain_is labels _ (subst NumbersFit (sym outs.out_i64_ne) tt)

  pub i64_lt_s : InstrIs labels i.I64LtS 11
  i64_lt_s = plain_is labels _ (subst NumbersFit (sym outs.out_i64_lt_s) tt)

  pub i64_gt_s : InstrIs labels i.I64GtS 11
  i64_gt_s = plain_is labels _ (subst NumbersFit (sym outs.out_i64_gt_s) tt)

  pub i64_le_s : InstrIs labels i.I64LeS 11
  i64_le_s = plain_is labels _ (subst NumbersFit (sym outs.out_i64_le_s) tt)

  pub i64_ge_s : InstrIs labels i.I64GeS 11
  i64_ge_s = plain_is labels _ (subst NumbersFit (sym outs.out_i64_ge_s) tt)

  pub i32_ne : InstrIs labels i.I32Ne 11
  i32_ne = plain_is labels _ (subst NumbersFit (sym outs.out_i32_ne) tt)

  pub i32_and : InstrIs labels i.I32And 11
  i32_and = plain_is labels _ (subst NumbersFit (sym outs.out_i32_and) tt)

  pub i32_add : InstrIs labels i.I32Add 11
  i32_add = plain_is labels _ (subst NumbersFit (sym outs.out_i32_add) tt)
