use Rattle.std.proofs.Common.{◌≡◌, ℕ, List, [], ◌∷◌, ◌++◌, map, refl, sym, ap, ◌∙◌, arith}
use Rattle.std.specs.List.{flat_map}
use Rattle.wasm_form.specs.Leb.{unsigned_shortest}
use Rattle.wasm_form.specs.Shortest.{immediates_of, instr_shortest, block_type_byte, second_shortest, list_shortest}
use Rattle.wasm_form.proofs.Codes.{second_is, block_is, loop_is, if_is, br_table_is, call_indirect_is}
use Rattle.wasm_write.proofs.Codes.{two_pieces, three_pieces, last_call}
use Rattle.wasm_write.proofs.code.+code.Goals as goal

pub push_immediates-returns-in-Block : goal.push_immediates-returns-in-Block
push_immediates-returns-in-Block t c =
    let whole : immediates_of c.args.instr.now ≡ block_type_byte c.in-Block.block_type ∷ (flat_map instr_shortest c.as_slice.result.now ++ 0x0b ∷ []) = ap immediates_of c.in-Block.is ∙ block_is c.in-Block.block_type c.in-Block.body ∙ ap (λ (b : List _). block_type_byte c.in-Block.block_type ∷ (flat_map instr_shortest b ++ 0x0b ∷ [])) (sym c.as_slice.ensures) in
    rw whole c.push_block.ensures

pub push_immediates-returns-in-Loop : goal.push_immediates-returns-in-Loop
push_immediates-returns-in-Loop t c =
    let whole : immediates_of c.args.instr.now ≡ block_type_byte c.in-Loop.block_type ∷ (flat_map instr_shortest c.as_slice-in-Loop.result.now ++ 0x0b ∷ []) = ap immediates_of c.in-Loop.is ∙ loop_is c.in-Loop.block_type c.in-Loop.body ∙ ap (λ (b : List _). block_type_byte c.in-Loop.block_type ∷ (flat_map instr_shortest b ++ 0x0b ∷ [])) (sym c.as_slice-in-Loop.ensures) in
    rw whole c.push_block-in-Loop.ensures

pub push_immediates-returns-in_ok-push_list-in-BrTable : goal.push_immediates-returns-in_ok-push_list-in-BrTable
push_immediates-returns-in_ok-push_list-in-BrTable t c =
    let whole : immediates_of c.args.instr.now ≡ list_shortest unsigned_shortest c.as_slice-in-BrTable.result.now ++ unsigned_shortest c.from.result = ap immediates_of c.in-BrTable.is ∙ br_table_is c.in-BrTable.labels c.in-BrTable.default ∙ ap (λ (ls : List ℕ). list_shortest unsigned_shortest ls ++ unsigned_shortest c.in-BrTable.default) (sym (c.as_slice-in-BrTable.ensures ∙ c.get-in-BrTable.ensures)) ∙ ap (λ l. list_shortest unsigned_shortest c.as_slice-in-BrTable.result.now ++ unsigned_shortest l) (sym c.from.ensures) in
    last_call c.push_unsigned.result (c.push_unsigned.new.out.items ≡ c.push_list.new.out.items ++ unsigned_shortest c.from.result) _ (λ p. two_pieces _ _ c.push_list.new.out.items _ _ _ c.in_ok-push_list-in-BrTable.ensures p whole) c.push_unsigned.ensures

pub push_immediates-returns-in_ok-push_unsigned-in-CallIndirect : goal.push_immediates-returns-in_ok-push_unsigned-in-CallIndirect
push_immediates-returns-in_ok-push_unsigned-in-CallIndirect t c =
    let whole : immediates_of c.args.instr.now ≡ unsigned_shortest c.from-in-CallIndirect.result ++ 0 ∷ [] = ap immediates_of c.in-CallIndirect.is ∙ call_indirect_is c.in-CallIndirect.index ∙ ap (λ x. unsigned_shortest x ++ 0 ∷ []) (sym c.from-in-CallIndirect.ensures) in
    last_call c.push_zero.result (c.push_zero.new.out.items ≡ c.push_unsigned-in-CallIndirect.new.out.items ++ 0 ∷ []) _ (λ p. two_pieces _ (unsigned_shortest c.from-in-CallIndirect.result) c.push_unsigned-in-CallIndirect.new.out.items (0 ∷ []) _ _ c.in_ok-push_unsigned-in-CallIndirect.ensures p whole) c.push_zero.ensures

pub push_immediates-returns-in_ok-push_code-in-If : goal.push_immediates-returns-in_ok-push_code-in-If
push_immediates-returns-in_ok-push_code-in-If t c =
    let first : flat_map instr_shortest c.in-If.first ≡ flat_map instr_shortest c.as_slice-in-If.result.now = ap (flat_map instr_shortest) (sym (c.as_slice-in-If.ensures ∙ c.get.ensures)) in
    let second : second_shortest (map instr_shortest c.in-If.second) ≡ second_shortest (map instr_shortest c.as_slice-in-If-2.result.now) = ap (λ (s : List _). second_shortest (map instr_shortest s)) (sym (c.as_slice-in-If-2.ensures ∙ c.get-in-If.ensures)) in
    let byte : block_type_byte c.in-If.block_type ≡ c.block_byte.result = sym c.block_byte.ensures in
    let whole : immediates_of c.args.instr.now ≡ c.block_byte.result ∷ (flat_map instr_shortest c.as_slice-in-If.result.now ++ second_shortest (map instr_shortest c.as_slice-in-If-2.result.now)) = ap immediates_of c.in-If.is ∙ if_is c.in-If.block_type c.in-If.first c.in-If.second ∙ rw (byte, first, second) refl in
    last_call c.push_second.result (c.push_second.new.out.items ≡ c.push_code.new.out.items ++ second_shortest (map instr_shortest c.as_slice-in-If-2.result.now)) _ (λ p. three_pieces _ (c.block_byte.result ∷ []) c.push.new.self.items _ c.push_code.new.out.items _ _ _ c.in_ok-push-in-If.ensures.items c.in_ok-push_code-in-If.ensures p whole) c.push_second.ensures

pub push_second-returns-in_ok-push-in-len1-up-2 : goal.push_second-returns-in_ok-push-in-len1-up-2
push_second-returns-in_ok-push-in-len1-up-2 t c =
    three_pieces _ (0x05 ∷ []) c.push-in-len1-up.new.self.items _ c.push_code.new.out.items (0x0b ∷ []) _ _ c.in_ok-push-in-len1-up.ensures.items c.in_ok-push_code-in-len1-up.ensures c.in_ok-push-in-len1-up-2.ensures.items (second_is instr_shortest c.args.second.now (omega arith))
