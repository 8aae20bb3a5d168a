-- Nested instructions are read exactly as they are spelled.
use Rattle.std.proofs.Common.{◌≡◌, ℕ, zero, suc, ◌+◌, ◌<◌, ◌≤◌, true, false, eqb, List, [], ◌∷◌, ◌++◌, length, Option, Some, None, Result, Ok, refl, sym, ap, subst, ◌∙◌, append_assoc, arith, ◌⊎◌, inl, inr}
use Rattle.std.specs.Prelude.{◌==◌}
use Rattle.std.proofs.lemmas.Bool.{eqb-true, eqb-false}
use Rattle.wasm_form.specs.declared.instr.Instr.{Instr, out-Instr}
use Rattle.wasm_form.specs.declared.instr.Instr.TheOpen.{Instr-F}
use Rattle.wasm_form.specs.declared.instr.Instr.TheOpen as F
use Rattle.wasm_form.specs.declared.instr.Instr.TheVariants.{Block, Loop, If}
use Rattle.wasm_form.specs.declared.types.ValueType.{ValueType}
use Rattle.wasm_form.specs.declared.types.ValueType.TheVariants as value_type
use Rattle.wasm_form.specs.Opcode.{layer_opcode}
use Rattle.wasm_form.specs.Shortest.{block_type_byte}
use Rattle.wasm_form.specs.Bytes.{Then, Nothing, Byte, IsEnd, AreImmediates, IsPlain, IsInstr, IsCode, plain, block, loop, one_side, two_sides, no_more, one_more}
use Rattle.wasm_read.specs.declared.fault.Fault.{Fault}
use Rattle.wasm_read.specs.Reading.{◌>>=◌, end_at}
use Rattle.wasm_read.specs.Types.{block_type_at, value_type_by}
use Rattle.wasm_read.specs.Codes.{Coded, stops_at, with_label, nested_with, closed_with, second_with, sides_with, instr_by, instr_with, code_at, code_all, body_at}
use Rattle.wasm_read.proofs.Leads.{ok_is}
use Rattle.wasm_read.proofs.Numbers.{chosen, bind_ok}
use Rattle.wasm_read.proofs.CodeLoop.{code_all_is}
use Rattle.wasm_read.proofs.Exact.{Takes, Exact, left_with}
use Rattle.wasm_read.proofs.ExactTypes.{value_found}
use Rattle.wasm_read.proofs.Parts.{two_parts, takes_end}
use Rattle.wasm_read.proofs.ExactPlain.{exact_plain}
use Rattle.wasm_form.specs.declared.limits.TheConstants.{MOST_LABELS}

-- ---- types of blocks, and labels

byte_is : (c : ℕ) (bytes rest front : List ℕ) → bytes ≡ front ++ rest → Byte c Nothing front → bytes ≡ c ∷ rest
byte_is c bytes rest [] parts h = absurd h
byte_is c bytes rest (b ∷ front) parts h = parts ∙ rw (h.0, h.1) refl

block_type_found : (bytes : List ℕ) (t : Option ValueType × List ℕ) → block_type_at bytes ≡ Ok t → bytes ≡ block_type_byte t.0 ∷ t.1
block_type_found [] t e = absurd cc
block_type_found (b ∷ rest) t e = elim (chosen (b == 0x40) _ _ _ e) [
  | inl p ↦ subst (λ (y : Option ValueType × List ℕ). b ∷ rest ≡ block_type_byte y.0 ∷ y.1) (ok_is (None, rest) t p.1) (let same = eqb-true b 0x40 p.0 in rw same refl)
  | inr p ↦
      let k = bind_ok (value_type_by b rest) (λ v. left_with (Some v.0) v.1) t p.1 in
      let v = value_found b rest k.0 k.1 in
      subst (λ (y : Option ValueType × List ℕ). b ∷ rest ≡ block_type_byte y.0 ∷ y.1) (ok_is (Some k.0.0, k.0.1) t k.2) (byte_is (block_type_byte (Some k.0.0)) (b ∷ rest) k.0.1 v.front v.parts v.is)
]

block_type_only : (t : Option ValueType) (rest : List ℕ) → block_type_at (block_type_byte t ∷ rest) ≡ Ok (t, rest)
block_type_only None rest = refl
block_type_only (Some value_type.I32) rest = refl
block_type_only (Some value_type.I64) rest = refl

label_found : {A : Type 0} (labels : ℕ) (r : Result (A × List ℕ) Fault) (x : A × List ℕ) → labels ≤ MOST_LABELS → with_label labels r ≡ Ok x → (labels < MOST_LABELS) × (r ≡ Ok x)
label_found labels r x le e = elim (chosen (labels == MOST_LABELS) _ _ _ e) [
  | inl p ↦ absurd cc
  | inr p ↦ let other = eqb-false labels MOST_LABELS p.0 in (omega (arith, le, other), p.1)
]

label_only : (labels : ℕ) → labels < MOST_LABELS → eqb labels MOST_LABELS ≡ false
label_only labels lt = grind (arith, lt)

-- ---- what is read is spelled so

-- by this function every list is
abbrev Finds : Coded → Type 0
Finds k = (labels : ℕ) (bytes : List ℕ) (x : List Instr × List ℕ) → labels ≤ MOST_LABELS → k labels bytes ≡ Ok x → Takes (IsCode labels x.0) bytes x.1

-- a list and its end
closed_found : (k : Coded) → Finds k → (labels : ℕ) (bytes : List ℕ) (x : List Instr × List ℕ) → labels ≤ MOST_LABELS → closed_with k labels bytes ≡ Ok x → (code : List ℕ) × (bytes ≡ code ++ 0x0b ∷ x.1) × IsCode labels x.0 code
closed_found k finds labels bytes x le e =
    let c = bind_ok (k labels bytes) (λ y. end_at y.1 >>= λ r. left_with y.0 r) x e in
    let d = bind_ok (end_at c.0.1) (λ r. left_with c.0.0 r) x c.2 in
    let t = finds labels bytes c.0 le c.1 in
    let last = takes_end.found c.0.1 d.0 d.1 in
    subst (λ (y : List Instr × List ℕ). (code : List ℕ) × (bytes ≡ code ++ 0x0b ∷ y.1) × IsCode labels y.0 code) (ok_is (c.0.0, d.0) x d.2)
    (t.front, t.parts ∙ ap (λ (l : List ℕ). t.front ++ l) last, t.is)

-- a block behind its opcode
record IsNested (labels : ℕ) (rest : List ℕ) (x : (Option ValueType × List Instr) × List ℕ) : Type 0 where
  few : labels < MOST_LABELS
  code : List ℕ
  parts : rest ≡ block_type_byte x.0.0 ∷ (code ++ 0x0b ∷ x.1)
  is : IsCode (labels + 1) x.0.1 code

nested_found : (k : Coded) → Finds k → (labels : ℕ) (rest : List ℕ) (x : (Option ValueType × List Instr) × List ℕ) → labels ≤ MOST_LABELS → nested_with k labels rest ≡ Ok x → IsNested labels rest x
unfolding nested_with
nested_found k finds labels rest x le e =
    let few = label_found labels _ x le e in
    let t = bind_ok (block_type_at rest) (λ t. k (labels + 1) t.1 >>= λ c. end_at c.1 >>= λ r. left_with (t.0, c.0) r) x few.1 in
    let c = bind_ok (k (labels + 1) t.0.1) (λ c. end_at c.1 >>= λ r. left_with (t.0.0, c.0) r) x t.2 in
    let d = bind_ok (end_at c.0.1) (λ r. left_with (t.0.0, c.0.0) r) x c.2 in
    let inner = finds (labels + 1) t.0.1 c.0 (omega (arith, few.0)) c.1 in
    subst (λ (y : (Option ValueType × List Instr) × List ℕ). IsNested labels rest y) (ok_is ((t.0.0, c.0.0), d.0) x d.2)
    (record {
      few = few.0;
      code = inner.front;
      parts = block_type_found rest t.0 t.1 ∙ ap (λ (l : List ℕ). block_type_byte t.0.0 ∷ l) (inner.parts ∙ ap (λ (l : List ℕ). inner.front ++ l) (takes_end.found c.0.1 d.0 d.1));
      is = inner.is;
    })

-- the second side of an if
abbrev IsSecond : ℕ → List ℕ → List Instr × List ℕ → Type 0
IsSecond labels bytes x = ((x.0 ≡ []) × (bytes ≡ 0x0b ∷ x.1)) ⊎ ((code : List ℕ) × (bytes ≡ 0x05 ∷ (code ++ 0x0b ∷ x.1)) × IsCode labels x.0 code)

no_side : List Instr
no_side = []

second_found : (k : Coded) → Finds k → (labels : ℕ) (bytes : List ℕ) (x : List Instr × List ℕ) → labels ≤ MOST_LABELS → second_with k labels bytes ≡ Ok x → IsSecond labels bytes x
unfolding second_with
second_found k finds labels [] x le e = absurd cc
second_found k finds labels (b ∷ rest) x le e = elim (chosen (b == 0x05) _ _ _ e) [
  | inl p ↦
      let c = closed_found k finds labels rest x le p.1 in
      let same = eqb-true b 0x05 p.0 in
      inr (c.0, rw same (ap (λ (l : List ℕ). 0x05 ∷ l) c.1), c.2)
  | inr p ↦
      let d = bind_ok (end_at (b ∷ rest)) (λ r. left_with [] r) x p.1 in
      subst (λ (y : List Instr × List ℕ). IsSecond labels (b ∷ rest) y) (ok_is ([], d.0) x d.2) (inl (refl, takes_end.found (b ∷ rest) d.0 d.1))
]

-- an if behind its opcode
record AreSides (labels : ℕ) (rest : List ℕ) (x : (Option ValueType × List Instr × List Instr) × List ℕ) : Type 0 where
  few : labels < MOST_LABELS
  code : List ℕ
  after : List ℕ
  parts : rest ≡ block_type_byte x.0.0 ∷ (code ++ after)
  is : IsCode (labels + 1) x.0.1 code
  second : IsSecond (labels + 1) after (x.0.2, x.1)

sides_found : (k : Coded) → Finds k → (labels : ℕ) (rest : List ℕ) (x : (Option ValueType × List Instr × List Instr) × List ℕ) → labels ≤ MOST_LABELS → sides_with k labels rest ≡ Ok x → AreSides labels rest x
unfolding sides_with
sides_found k finds labels rest x le e =
    let few = label_found labels _ x le e in
    let t = bind_ok (block_type_at rest) (λ t. k (labels + 1) t.1 >>= λ c. second_with k (labels + 1) c.1 >>= λ d. left_with (t.0, c.0, d.0) d.1) x few.1 in
    let c = bind_ok (k (labels + 1) t.0.1) (λ c. second_with k (labels + 1) c.1 >>= λ d. left_with (t.0.0, c.0, d.0) d.1) x t.2 in
    let d = bind_ok (second_with k (labels + 1) c.0.1) (λ d. left_with (t.0.0, c.0.0, d.0) d.1) x c.2 in
    let inner = finds (labels + 1) t.0.1 c.0 (omega (arith, few.0)) c.1 in
    subst (λ (y : (Option ValueType × List Instr × List Instr) × List ℕ). AreSides labels rest y) (ok_is ((t.0.0, c.0.0, d.0.0), d.0.1) x d.2)
    (record {
      few = few.0;
      code = inner.front;
      after = c.0.1;
      parts = block_type_found rest t.0 t.1 ∙ ap (λ (l : List ℕ). block_type_byte t.0.0 ∷ l) inner.parts;
      is = inner.is;
      second = second_found k finds (labels + 1) c.0.1 d.0 (omega (arith, few.0)) d.1;
    })

-- the end of a list inside an instruction
end_behind : (b t : ℕ) (code rest : List ℕ) → b ∷ t ∷ (code ++ 0x0b ∷ rest) ≡ (b ∷ t ∷ (code ++ 0x0b ∷ [])) ++ rest
end_behind b t code rest = ap (λ (l : List ℕ). b ∷ t ∷ l) (sym (append_assoc code (0x0b ∷ []) rest))

sides_instr : (labels b : ℕ) (rest : List ℕ) (x : (Option ValueType × List Instr × List Instr) × List ℕ) → b ≡ 0x04 → AreSides labels rest x → Takes (IsInstr labels (If x.0.0 x.0.1 x.0.2)) (b ∷ rest) x.1
sides_instr labels b rest x opcode s = elim s.second [
  | inl none ↦ record {
    front = 0x04 ∷ block_type_byte x.0.0 ∷ (s.code ++ 0x0b ∷ []);
    parts = rw opcode (ap (λ (l : List ℕ). 0x04 ∷ l) s.parts) ∙ ap (λ (l : List ℕ). 0x04 ∷ block_type_byte x.0.0 ∷ (s.code ++ l)) none.1 ∙ end_behind 0x04 (block_type_byte x.0.0) s.code x.1;
    is = one_side labels (If x.0.0 x.0.1 x.0.2) _ x.0.0 x.0.1 s.code s.few (ap (λ (l : List Instr). If x.0.0 x.0.1 l) none.0) refl s.is;
  }
  | inr some ↦ record {
    front = 0x04 ∷ block_type_byte x.0.0 ∷ (s.code ++ 0x05 ∷ (some.0 ++ 0x0b ∷ []));
    parts = rw opcode (ap (λ (l : List ℕ). 0x04 ∷ l) s.parts) ∙ ap (λ (l : List ℕ). 0x04 ∷ block_type_byte x.0.0 ∷ (s.code ++ l)) (some.1 ∙ ap (λ (l : List ℕ). 0x05 ∷ l) (sym (append_assoc some.0 (0x0b ∷ []) x.1)))
        ∙ ap (λ (l : List ℕ). 0x04 ∷ block_type_byte x.0.0 ∷ l) (sym (append_assoc s.code (0x05 ∷ (some.0 ++ 0x0b ∷ [])) x.1));
    is = two_sides labels (If x.0.0 x.0.1 x.0.2) _ x.0.0 x.0.1 x.0.2 s.code some.0 s.few refl refl s.is some.2;
  }
]

instr_found : (k : Coded) → Finds k → (labels : ℕ) (bytes : List ℕ) (x : Instr × List ℕ) → labels ≤ MOST_LABELS → instr_with k labels bytes ≡ Ok x → Takes (IsInstr labels x.0) bytes x.1
unfolding instr_with
instr_found k finds labels [] x le e = absurd cc
instr_found k finds labels (b ∷ rest) x le e = elim (chosen (b == 0x02) _ _ _ e) [
  | inl p ↦
      let y = bind_ok (nested_with k labels rest) (λ y. left_with (Block y.0.0 y.0.1) y.1) x p.1 in
      let n = nested_found k finds labels rest y.0 le y.1 in
      let same = eqb-true b 0x02 p.0 in
      subst (λ (z : Instr × List ℕ). Takes (IsInstr labels z.0) (b ∷ rest) z.1) (ok_is (Block y.0.0.0 y.0.0.1, y.0.1) x y.2)
      (record {
        front = 0x02 ∷ block_type_byte y.0.0.0 ∷ (n.code ++ 0x0b ∷ []);
        parts = rw same (ap (λ (l : List ℕ). 0x02 ∷ l) n.parts) ∙ end_behind 0x02 (block_type_byte y.0.0.0) n.code y.0.1;
        is = block labels _ _ y.0.0.0 y.0.0.1 n.code n.few refl refl n.is;
      })
  | inr p ↦ elim (chosen (b == 0x03) _ _ _ p.1) [
    | inl q ↦
        let y = bind_ok (nested_with k labels rest) (λ y. left_with (Loop y.0.0 y.0.1) y.1) x q.1 in
        let n = nested_found k finds labels rest y.0 le y.1 in
        let same = eqb-true b 0x03 q.0 in
        subst (λ (z : Instr × List ℕ). Takes (IsInstr labels z.0) (b ∷ rest) z.1) (ok_is (Loop y.0.0.0 y.0.0.1, y.0.1) x y.2)
        (record {
          front = 0x03 ∷ block_type_byte y.0.0.0 ∷ (n.code ++ 0x0b ∷ []);
          parts = rw same (ap (λ (l : List ℕ). 0x03 ∷ l) n.parts) ∙ end_behind 0x03 (block_type_byte y.0.0.0) n.code y.0.1;
          is = loop labels _ _ y.0.0.0 y.0.0.1 n.code n.few refl refl n.is;
        })
    | inr q ↦ elim (chosen (b == 0x04) _ _ _ q.1) [
      | inl r ↦
          let y = bind_ok (sides_with k labels rest) (λ y. left_with (If y.0.0 y.0.1 y.0.2) y.1) x r.1 in
          subst (λ (z : Instr × List ℕ). Takes (IsInstr labels z.0) (b ∷ rest) z.1) (ok_is (If y.0.0.0 y.0.0.1 y.0.0.2, y.0.1) x y.2)
          (sides_instr labels b rest y.0 (eqb-true b 0x04 r.0) (sides_found k finds labels rest y.0 le y.1))
      | inr r ↦
          let t = (exact_plain b).found rest x r.1 in
          record { front = b ∷ t.front; parts = ap (λ (l : List ℕ). b ∷ l) t.parts; is = plain labels x.0 (b ∷ t.front) t.is }
    ]
  ]
]

code_found : (fuel : ℕ) → Finds (code_at fuel)
unfolding code_at
code_found zero labels bytes x le e = absurd cc
code_found (suc fuel) labels bytes x le e = elim (chosen (stops_at bytes) _ _ _ e) [
  | inl p ↦ subst (λ (z : List Instr × List ℕ). Takes (IsCode labels z.0) bytes z.1) (ok_is ([], bytes) x p.1) (record { front = []; parts = refl; is = no_more labels })
  | inr p ↦
      let i = bind_ok (instr_with (code_at fuel) labels bytes) (λ i. code_at fuel labels i.1 >>= λ c. left_with (i.0 ∷ c.0) c.1) x p.1 in
      let c = bind_ok (code_at fuel labels i.0.1) (λ c. left_with (i.0.0 ∷ c.0) c.1) x i.2 in
      let first = instr_found (code_at fuel) (code_found fuel) labels bytes i.0 le i.1 in
      let others = code_found fuel labels i.0.1 c.0 le c.1 in
      subst (λ (z : List Instr × List ℕ). Takes (IsCode labels z.0) bytes z.1) (ok_is (i.0.0 ∷ c.0.0, c.0.1) x c.2)
      (record {
        front = first.front ++ others.front;
        parts = first.parts ∙ ap (λ (l : List ℕ). first.front ++ l) others.parts ∙ sym (append_assoc first.front others.front c.0.1);
        is = one_more labels i.0.0 c.0.0 first.front others.front _ refl first.is others.is;
      })
]

all_found : Finds code_all
unfolding code_all
all_found labels bytes x le e = code_found (suc (length bytes)) labels bytes x le e

-- ---- what is spelled so is read

-- an opcode that holds no instructions is none of the others
plain_tests : (l : Instr-F Instr) (bytes : List ℕ) → AreImmediates l bytes
    → (eqb (layer_opcode l) 0x02 ≡ false) × (eqb (layer_opcode l) 0x03 ≡ false) × (eqb (layer_opcode l) 0x04 ≡ false) × (eqb (layer_opcode l) 0x0b ≡ false) × (eqb (layer_opcode l) 0x05 ≡ false)
plain_tests (F.Block t body) bytes h = absurd h
plain_tests (F.Loop t body) bytes h = absurd h
plain_tests (F.If t first second) bytes h = absurd h
plain_tests _ bytes h = (refl, refl, refl, refl, refl)

-- an instruction is read, whatever follows
record Reads (labels : ℕ) (i : Instr) (bytes rest : List ℕ) : Type 0 where
  goes_on : stops_at (bytes ++ rest) ≡ false
  read : instr_with code_all labels (bytes ++ rest) ≡ Ok (i, rest)

plain_reads : (labels : ℕ) (i : Instr) (bytes rest : List ℕ) → IsPlain i bytes → Reads labels i bytes rest
unfolding instr_with
plain_reads labels i [] rest h = absurd h
plain_reads labels i (b ∷ bytes) rest h =
    let p = plain_tests (out-Instr i) bytes h.1 in
    let same = λ (c : ℕ) (e : eqb (layer_opcode (out-Instr i)) c ≡ false). ap (λ x. eqb x c) h.0 ∙ e in
    record {
      goes_on = rw (same 0x0b p.3, same 0x05 p.4) refl;
      read = rw (same 0x02 p.0, same 0x03 p.1, same 0x04 p.2) ((exact_plain b).only i bytes rest h);
    }

nested_only : (labels : ℕ) (t : Option ValueType) (body : List Instr) (code rest : List ℕ) → labels < MOST_LABELS → code_all (labels + 1) (code ++ 0x0b ∷ rest) ≡ Ok (body, 0x0b ∷ rest) → nested_with code_all labels (block_type_byte t ∷ (code ++ 0x0b ∷ rest)) ≡ Ok ((t, body), rest)
unfolding nested_with
nested_only labels t body code rest few inner = rw (label_only labels few, block_type_only t (code ++ 0x0b ∷ rest), inner) refl

one_only : (labels : ℕ) (t : Option ValueType) (side : List Instr) (code rest : List ℕ) → labels < MOST_LABELS → code_all (labels + 1) (code ++ 0x0b ∷ rest) ≡ Ok (side, 0x0b ∷ rest) → sides_with code_all labels (block_type_byte t ∷ (code ++ 0x0b ∷ rest)) ≡ Ok ((t, side, []), rest)
unfolding sides_with second_with
one_only labels t side code rest few inner = rw (label_only labels few, block_type_only t (code ++ 0x0b ∷ rest), inner) refl

two_only : (labels : ℕ) (t : Option ValueType) (one other : List Instr) (code more rest : List ℕ) → labels < MOST_LABELS → code_all (labels + 1) (code ++ 0x05 ∷ (more ++ 0x0b ∷ rest)) ≡ Ok (one, 0x05 ∷ (more ++ 0x0b ∷ rest)) → code_all (labels + 1) (more ++ 0x0b ∷ rest) ≡ Ok (other, 0x0b ∷ rest)
    → sides_with code_all labels (block_type_byte t ∷ (code ++ 0x05 ∷ (more ++ 0x0b ∷ rest))) ≡ Ok ((t, one, other), rest)
unfolding sides_with second_with
two_only labels t one other code more rest few first second = rw (label_only labels few, block_type_only t (code ++ 0x05 ∷ (more ++ 0x0b ∷ rest)), first, second) refl

-- an instruction that begins with this byte, which is no end
by_reads : (labels : ℕ) (i : Instr) (bytes rest : List ℕ) (b : ℕ) (tail : List ℕ) → bytes ++ rest ≡ b ∷ tail → stops_at (b ∷ tail) ≡ false → instr_by code_all labels b tail ≡ Ok (i, rest) → Reads labels i bytes rest
unfolding instr_with
by_reads labels i bytes rest b tail whole more read = record { goes_on = ap stops_at whole ∙ more; read = ap (instr_with code_all labels) whole ∙ read }

mutual
  unfolding instr_with

  instr_only : (labels : ℕ) (i : Instr) (bytes rest : List ℕ) → IsInstr labels i bytes → Reads labels i bytes rest
  instr_only labels i bytes rest (plain k j bs h) = plain_reads labels i bytes rest h
  instr_only labels i bytes rest (block k j bs t body code few is spelled inner) =
      let read = nested_only labels t body code rest few (code_only (labels + 1) body code (0x0b ∷ rest) refl inner) in
      let whole = ap (λ (l : List ℕ). l ++ rest) spelled ∙ sym (end_behind 0x02 (block_type_byte t) code rest) in
      by_reads labels i bytes rest 0x02 _ whole refl (rw read (ap (λ (y : Instr). left_with y rest) (sym is)))
  instr_only labels i bytes rest (loop k j bs t body code few is spelled inner) =
      let read = nested_only labels t body code rest few (code_only (labels + 1) body code (0x0b ∷ rest) refl inner) in
      let whole = ap (λ (l : List ℕ). l ++ rest) spelled ∙ sym (end_behind 0x03 (block_type_byte t) code rest) in
      by_reads labels i bytes rest 0x03 _ whole refl (rw read (ap (λ (y : Instr). left_with y rest) (sym is)))
  instr_only labels i bytes rest (one_side k j bs t side code few is spelled inner) =
      let read = one_only labels t side code rest few (code_only (labels + 1) side code (0x0b ∷ rest) refl inner) in
      let whole = ap (λ (l : List ℕ). l ++ rest) spelled ∙ sym (end_behind 0x04 (block_type_byte t) code rest) in
      by_reads labels i bytes rest 0x04 _ whole refl (rw read (ap (λ (y : Instr). left_with y rest) (sym is)))
  instr_only labels i bytes rest (two_sides k j bs t one other code more few is spelled first second) =
      let read = two_only labels t one other code more rest few (code_only (labels + 1) one code (0x05 ∷ (more ++ 0x0b ∷ rest)) refl first) (code_only (labels + 1) other more (0x0b ∷ rest) refl second) in
      let whole = ap (λ (l : List ℕ). l ++ rest) spelled ∙ ap (λ (l : List ℕ). 0x04 ∷ block_type_byte t ∷ l) (append_assoc code (0x05 ∷ (more ++ 0x0b ∷ [])) rest ∙ ap (λ (l : List ℕ). code ++ 0x05 ∷ l) (append_assoc more (0x0b ∷ []) rest)) in
      by_reads labels i bytes rest 0x04 _ whole refl (rw read (ap (λ (y : Instr). left_with y rest) (sym is)))

  code_only : (labels : ℕ) (is : List Instr) (bytes rest : List ℕ) → stops_at rest ≡ true → IsCode labels is bytes → code_all labels (bytes ++ rest) ≡ Ok (is, rest)
  code_only labels is bytes rest stop (no_more k) = code_all_is labels rest ∙ rw stop refl
  code_only labels is bytes rest stop (one_more k i others front back whole parts head tail) =
      let first = instr_only labels i front (back ++ rest) head in
      let left = code_only labels others back rest stop tail in
      ap (code_all labels) (two_parts bytes front back rest parts) ∙ code_all_is labels (front ++ (back ++ rest)) ∙ rw (first.goes_on, first.read, left) refl

-- ---- the instructions of a function

pub exact_body : Exact (λ is. Then (IsCode 0 is) IsEnd) body_at
unfolding body_at
exact_body = record { found = found; only = only }
  where
    found : (bytes : List ℕ) (x : List Instr × List ℕ) → closed_with code_all 0 bytes ≡ Ok x → Takes (Then (IsCode 0 x.0) IsEnd) bytes x.1
    found bytes x e =
        let c = closed_found code_all all_found 0 bytes x (omega arith) e in
        record { front = c.0 ++ 0x0b ∷ []; parts = c.1 ∙ sym (append_assoc c.0 (0x0b ∷ []) x.1); is = record { front = c.0; back = 0x0b ∷ []; parts = refl; first = c.2; second = (refl, refl) } }

    only : (is : List Instr) (front rest : List ℕ) → Then (IsCode 0 is) IsEnd front → closed_with code_all 0 (front ++ rest) ≡ Ok (is, rest)
    only is front rest h =
        let last = byte_is 0x0b (h.back ++ rest) rest h.back refl h.second in
        let whole : front ++ rest ≡ h.front ++ 0x0b ∷ rest = two_parts front h.front h.back rest h.parts ∙ ap (λ (l : List ℕ). h.front ++ l) last in
        rw (whole, code_only 0 is h.front (0x0b ∷ rest) refl h.first) refl
