-- The shortest spelling of an instruction is its opcode and what follows it.
use Rattle.std.proofs.Common.{◌≡◌, ℕ, ◌<◌, List, [], ◌∷◌, ◌++◌, length, map, Option, refl, sym, ap, ◌∙◌, arith}
use Rattle.std.specs.List.{flat_map, concat}
use Rattle.wasm_form.specs.declared.instr.Instr.{Instr, out-Instr, roll-Instr}
use Rattle.wasm_form.specs.declared.instr.Instr.TheOpen.{Instr-F}
use Rattle.wasm_form.specs.declared.instr.Instr.TheOpen as F
use Rattle.wasm_form.specs.declared.instr.Instr.TheVariants.{Block, Loop, If, BrTable, CallIndirect, rolls-Block, rolls-Loop, rolls-If, rolls-BrTable, rolls-CallIndirect}
use Rattle.wasm_form.specs.declared.types.ValueType.{ValueType}
use Rattle.wasm_form.specs.declared.instr.Instr.TheFolds.{fold-roll-Instr, fold_out-Instr, map-Instr}
use Rattle.wasm_form.specs.Opcode.{layer_opcode, opcode_of}
use Rattle.wasm_form.specs.Shortest.{instr_shortest, layer_shortest, layer_immediates, immediates_of, second_shortest, block_type_byte, list_shortest}
use Rattle.wasm_form.specs.Leb.{unsigned_shortest}

pub concat_map : {A : Type 0} (f : A → List ℕ) (xs : List A) → concat (map f xs) ≡ flat_map f xs
concat_map f [] = refl
concat_map f (x ∷ xs) = ap (λ (l : List ℕ). f x ++ l) (concat_map f xs)

opcode_kept : (x : Instr-F Instr) → layer_opcode (map-Instr Instr (List ℕ) instr_shortest x) ≡ layer_opcode x
opcode_kept F.Unreachable = refl
opcode_kept _ = refl

pub instr_is : (i : Instr) → instr_shortest i ≡ opcode_of i ∷ immediates_of i
instr_is i = fold_out-Instr (List ℕ) layer_shortest i ∙ ap (λ b. b ∷ immediates_of i) (opcode_kept (out-Instr i))

pub second_is : {A : Type 0} (f : A → List ℕ) (xs : List A) → 0 < length xs → second_shortest (map f xs) ≡ 0x05 ∷ (flat_map f xs ++ 0x0b ∷ [])
second_is f [] lt = absurd (omega arith)
second_is f (x ∷ xs) lt = ap (λ (l : List ℕ). 0x05 ∷ ((f x ++ l) ++ 0x0b ∷ [])) (concat_map f xs)

tails : (x one other : List ℕ) (a b : ℕ) → x ≡ a ∷ one → x ≡ b ∷ other → one ≡ other
tails x one other a b p q = cc

-- what follows the opcode of an instruction of this layer
rolled : (x : Instr-F Instr) (i : Instr) → i ≡ roll-Instr x → immediates_of i ≡ layer_immediates (map-Instr Instr (List ℕ) instr_shortest x)
rolled x i e = tails (instr_shortest i) _ _ _ _ (instr_is i) (ap instr_shortest e ∙ fold-roll-Instr (List ℕ) layer_shortest x)

pub block_is : (t : Option ValueType) (body : List Instr) → immediates_of (Block t body) ≡ block_type_byte t ∷ (flat_map instr_shortest body ++ 0x0b ∷ [])
block_is t body = rolled (F.Block t body) _ (sym (rolls-Block t body)) ∙ ap (λ (l : List ℕ). block_type_byte t ∷ (l ++ 0x0b ∷ [])) (concat_map instr_shortest body)

pub loop_is : (t : Option ValueType) (body : List Instr) → immediates_of (Loop t body) ≡ block_type_byte t ∷ (flat_map instr_shortest body ++ 0x0b ∷ [])
loop_is t body = rolled (F.Loop t body) _ (sym (rolls-Loop t body)) ∙ ap (λ (l : List ℕ). block_type_byte t ∷ (l ++ 0x0b ∷ [])) (concat_map instr_shortest body)

pub if_is : (t : Option ValueType) (first second : List Instr) → immediates_of (If t first second) ≡ block_type_byte t ∷ (flat_map instr_shortest first ++ second_shortest (map instr_shortest second))
if_is t first second = rolled (F.If t first second) _ (sym (rolls-If t first second)) ∙ ap (λ (l : List ℕ). block_type_byte t ∷ (l ++ second_shortest (map instr_shortest second))) (concat_map instr_shortest first)

pub br_table_is : (labels : List ℕ) (label : ℕ) → immediates_of (BrTable labels label) ≡ list_shortest unsigned_shortest labels ++ unsigned_shortest label
br_table_is labels label = rolled (F.BrTable labels label) _ (sym (rolls-BrTable labels label))

pub call_indirect_is : (index : ℕ) → immediates_of (CallIndirect index) ≡ unsigned_shortest index ++ 0 ∷ []
call_indirect_is index = rolled (F.CallIndirect index) _ (sym (rolls-CallIndirect index))
