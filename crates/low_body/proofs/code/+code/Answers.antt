use Rattle.std.proofs.Common.{◌≡◌, List, ◌++◌, ◌∷◌, [], ◌*◌, Some, map, refl, sym, ap, ◌∙◌, subst}
use Rattle.std.specs.Prelude.{ℤ}
use Rattle.std.specs.Int.{w64, cast_signed}
use Rattle.core_form.specs.Sizes.{IsInt, WordFits}
use Rattle.low_laws.proofs.Memory.{signed_bits}
use Rattle.wasm_form.specs.declared.instr.Instr.{Instr}
use Rattle.wasm_form.specs.declared.instr.Instr.TheVariants as i
use Rattle.wasm_form.specs.declared.types.ValueType.TheVariants as type
use Rattle.core_form.specs.declared.code.CoreWord.{CoreWord}
use Rattle.core_form.specs.CoreSource.{Word}
use Rattle.core_form.proofs.Views.{constant_view, load_view, address_view, arithmetic_view, negate_view, wrap_view, compare_view, pick_view, following_view}
use Rattle.core_form.specs.CoreView.{at_view, code_of, form_view, word_view}
use Rattle.own_tree.specs.declared.arithmetic.Arith.TheVariants.{Neg}
use Rattle.low_arith.specs.Code.{checked_code}
use Rattle.low_laws.specs.Lower.{Round, access, bits, compare_code, displacement, forms_code, in_if, place_code, word_code, wrap_code}
use Rattle.low_body.specs.RoundView.{round_view}
use Rattle.low_body.proofs.Pieces.{one_piece, two_pieces, three_pieces}
use Rattle.low_body.proofs.code.+code.Goals as goal

abbrev code_in : Round → CoreWord → List Instr
code_in r w = word_code (word_view w) r

pub push_word-returns-in_ok-push-in-Constant : goal.push_word-returns-in_ok-push-in-Constant
push_word-returns-in_ok-push-in-Constant t c =
    let r = round_view c.args.round.now in
    let shape : code_in r c.args.word.now ≡ i.I64Const (bits c.in-Constant.number) ∷ [] = ap (λ (w : Word). word_code w r) (ap word_view c.in-Constant.is ∙ constant_view c.in-Constant.number) in
    let int : IsInt c.in-Constant.number = subst WordFits (ap word_view c.in-Constant.is ∙ constant_view c.in-Constant.number) c.requires.fits in
    let kept : i.I64Const (bits c.in-Constant.number) ∷ [] ≡ i.I64Const (bits (cast_signed w64 (bits c.in-Constant.number))) ∷ [] = ap (λ (z : ℤ). i.I64Const (bits z) ∷ []) (sym (signed_bits c.in-Constant.number int)) in
    let whole : code_in r c.args.word.now ≡ i.I64Const c.cast_unsigned.result ∷ [] = rw c.cast_unsigned.ensures (shape ∙ kept) in
    one_piece c.args.code.now.items (i.I64Const c.cast_unsigned.result ∷ []) c.push.new.self.items (code_in r c.args.word.now) c.in_ok-push-in-Constant.ensures.items whole

pub push_word-returns-in_ok-push-in-Load : goal.push_word-returns-in_ok-push-in-Load
push_word-returns-in_ok-push-in-Load t c =
    let r = round_view c.args.round.now in
    let shape : code_in r c.args.word.now ≡ place_code (at_view c.in-Load.at) ++ i.I64Load (access (displacement (at_view c.in-Load.at))) ∷ [] = ap (λ (w : Word). word_code w r) (ap word_view c.in-Load.is ∙ load_view c.in-Load.at) in
    let whole : code_in r c.args.word.now ≡ place_code (at_view c.in-Load.at) ++ i.I64Load c.access.result ∷ [] = rw (c.access.ensures, c.displacement.ensures.value) shape in
    two_pieces c.args.code.now.items (place_code (at_view c.in-Load.at)) c.push_place.new.code.items (i.I64Load c.access.result ∷ []) c.push-in-Load.new.self.items (code_in r c.args.word.now) c.in_ok-push_place-in-Load.ensures c.in_ok-push-in-Load.ensures.items whole

pub push_word-returns-in_ok-push_address-in-Address : goal.push_word-returns-in_ok-push_address-in-Address
push_word-returns-in_ok-push_address-in-Address t c =
    let r = round_view c.args.round.now in
    let whole : code_in r c.args.word.now ≡ place_code (at_view c.in-Address.at) ++ i.I64ExtendI32U ∷ i.I64Const (8 * displacement (at_view c.in-Address.at)) ∷ i.I64Add ∷ [] = ap (λ (w : Word). word_code w r) (ap word_view c.in-Address.is ∙ address_view c.in-Address.at) in
    one_piece c.args.code.now.items (place_code (at_view c.in-Address.at) ++ i.I64ExtendI32U ∷ i.I64Const (8 * displacement (at_view c.in-Address.at)) ∷ i.I64Add ∷ []) c.push_address.new.code.items (code_in r c.args.word.now) c.in_ok-push_address-in-Address.ensures whole

pub push_word-returns-in_ok-push_checked-in-Arithmetic : goal.push_word-returns-in_ok-push_checked-in-Arithmetic
push_word-returns-in_ok-push_checked-in-Arithmetic t c =
    let r = round_view c.args.round.now in
    let tail = checked_code c.in-Arithmetic.op c.in-Arithmetic.at in
    let shape : code_in r c.args.word.now ≡ code_in r c.in-Arithmetic.first ++ code_in r c.in-Arithmetic.second ++ tail = ap (λ (w : Word). word_code w r) (ap word_view c.in-Arithmetic.is ∙ arithmetic_view c.in-Arithmetic.op c.in-Arithmetic.at c.in-Arithmetic.first c.in-Arithmetic.second) in
    let whole : code_in r c.args.word.now ≡ code_in r c.get.result.now ++ code_in r c.get-in-Arithmetic.result.now ++ tail = rw (c.get.ensures, c.get-in-Arithmetic.ensures) shape in
    three_pieces c.args.code.now.items (code_in r c.get.result.now) c.push_word.new.code.items (code_in r c.get-in-Arithmetic.result.now) c.push_word-in-Arithmetic.new.code.items tail c.push_checked.new.code.items (code_in r c.args.word.now) c.in_ok-push_word-in-Arithmetic.ensures c.in_ok-push_word-in-Arithmetic-2.ensures c.in_ok-push_checked-in-Arithmetic.ensures whole

pub push_word-returns-in_ok-push_checked-in-Negate : goal.push_word-returns-in_ok-push_checked-in-Negate
push_word-returns-in_ok-push_checked-in-Negate t c =
    let r = round_view c.args.round.now in
    let tail = checked_code Neg c.in-Negate.at in
    let shape : code_in r c.args.word.now ≡ code_in r c.in-Negate.operand ++ tail = ap (λ (w : Word). word_code w r) (ap word_view c.in-Negate.is ∙ negate_view c.in-Negate.at c.in-Negate.operand) in
    let whole : code_in r c.args.word.now ≡ code_in r c.get-in-Negate.result.now ++ tail = rw c.get-in-Negate.ensures shape in
    two_pieces c.args.code.now.items (code_in r c.get-in-Negate.result.now) c.push_word-in-Negate.new.code.items tail c.push_checked-in-Negate.new.code.items (code_in r c.args.word.now) c.in_ok-push_word-in-Negate.ensures c.in_ok-push_checked-in-Negate.ensures whole

pub push_word-returns-in_ok-push-in-Wrap : goal.push_word-returns-in_ok-push-in-Wrap
push_word-returns-in_ok-push-in-Wrap t c =
    let r = round_view c.args.round.now in
    let shape : code_in r c.args.word.now ≡ code_in r c.in-Wrap.first ++ code_in r c.in-Wrap.second ++ wrap_code c.in-Wrap.op ∷ [] = ap (λ (w : Word). word_code w r) (ap word_view c.in-Wrap.is ∙ wrap_view c.in-Wrap.op c.in-Wrap.first c.in-Wrap.second) in
    let whole : code_in r c.args.word.now ≡ code_in r c.get-in-Wrap.result.now ++ code_in r c.get-in-Wrap-2.result.now ++ c.wrap_code.result ∷ [] = rw (c.get-in-Wrap.ensures, c.get-in-Wrap-2.ensures, c.wrap_code.ensures) shape in
    three_pieces c.args.code.now.items (code_in r c.get-in-Wrap.result.now) c.push_word-in-Wrap.new.code.items (code_in r c.get-in-Wrap-2.result.now) c.push_word-in-Wrap-2.new.code.items (c.wrap_code.result ∷ []) c.push-in-Wrap.new.self.items (code_in r c.args.word.now) c.in_ok-push_word-in-Wrap.ensures c.in_ok-push_word-in-Wrap-2.ensures c.in_ok-push-in-Wrap.ensures.items whole

pub push_word-returns-in_ok-push-in-Compare-2 : goal.push_word-returns-in_ok-push-in-Compare-2
push_word-returns-in_ok-push-in-Compare-2 t c =
    let r = round_view c.args.round.now in
    let shape : code_in r c.args.word.now ≡ code_in r c.in-Compare.first ++ code_in r c.in-Compare.second ++ compare_code c.in-Compare.op ∷ i.I64ExtendI32U ∷ [] = ap (λ (w : Word). word_code w r) (ap word_view c.in-Compare.is ∙ compare_view c.in-Compare.op c.in-Compare.first c.in-Compare.second) in
    let whole : code_in r c.args.word.now ≡ code_in r c.get-in-Compare.result.now ++ code_in r c.get-in-Compare-2.result.now ++ c.compare_code.result ∷ i.I64ExtendI32U ∷ [] = rw (c.get-in-Compare.ensures, c.get-in-Compare-2.ensures, c.compare_code.ensures) shape in
    let last = two_pieces c.push_word-in-Compare-2.new.code.items (c.compare_code.result ∷ []) c.push-in-Compare.new.self.items (i.I64ExtendI32U ∷ []) c.push-in-Compare-2.new.self.items (c.compare_code.result ∷ i.I64ExtendI32U ∷ []) c.in_ok-push-in-Compare.ensures.items c.in_ok-push-in-Compare-2.ensures.items refl in
    three_pieces c.args.code.now.items (code_in r c.get-in-Compare.result.now) c.push_word-in-Compare.new.code.items (code_in r c.get-in-Compare-2.result.now) c.push_word-in-Compare-2.new.code.items (c.compare_code.result ∷ i.I64ExtendI32U ∷ []) c.push-in-Compare-2.new.self.items (code_in r c.args.word.now) c.in_ok-push_word-in-Compare.ensures c.in_ok-push_word-in-Compare-2.ensures last whole

pub push_word-returns-in_ok-push_choice-in-Pick : goal.push_word-returns-in_ok-push_choice-in-Pick
push_word-returns-in_ok-push_choice-in-Pick t c =
    let r = round_view c.args.round.now in
    let shape : code_in r c.args.word.now ≡ code_in r c.in-Pick.test ++ i.I64Eqz ∷ i.If (Some type.I64) (code_in (in_if r) c.in-Pick.second) (code_in (in_if r) c.in-Pick.first) ∷ [] = ap (λ (w : Word). word_code w r) (ap word_view c.in-Pick.is ∙ pick_view c.in-Pick.test c.in-Pick.first c.in-Pick.second) in
    let chosen : c.push_word-in-Pick-2.new.code.items ≡ code_in (in_if r) c.get-in-Pick-2.result.now = c.in_ok-push_word-in-Pick-2.ensures ∙ ap (λ (xs : List Instr). xs ++ code_in (in_if r) c.get-in-Pick-2.result.now) c.new-chosen.ensures.items in
    let other : c.push_word-in-Pick-3.new.code.items ≡ code_in (in_if r) c.get-in-Pick-3.result.now = c.in_ok-push_word-in-Pick-3.ensures ∙ ap (λ (xs : List Instr). xs ++ code_in (in_if r) c.get-in-Pick-3.result.now) c.new-other.ensures.items in
    let whole : code_in r c.args.word.now ≡ code_in r c.get-in-Pick.result.now ++ i.I64Eqz ∷ i.If (Some type.I64) c.push_word-in-Pick-3.new.code.items c.push_word-in-Pick-2.new.code.items ∷ [] = rw (chosen, other, c.get-in-Pick.ensures, c.get-in-Pick-2.ensures, c.get-in-Pick-3.ensures) shape in
    two_pieces c.args.code.now.items (code_in r c.get-in-Pick.result.now) c.push_word-in-Pick.new.code.items (i.I64Eqz ∷ i.If (Some type.I64) c.push_word-in-Pick-3.new.code.items c.push_word-in-Pick-2.new.code.items ∷ []) c.push_choice.new.code.items (code_in r c.args.word.now) c.in_ok-push_word-in-Pick.ensures c.in_ok-push_choice-in-Pick.ensures whole

pub push_word-returns-in_ok-push_word-in-Following : goal.push_word-returns-in_ok-push_word-in-Following
push_word-returns-in_ok-push_word-in-Following t c =
    let r = round_view c.args.round.now in
    let shape : code_in r c.args.word.now ≡ forms_code (code_of (map form_view c.in-Following.forms)) r ++ code_in r c.in-Following.last = ap (λ (w : Word). word_code w r) (ap word_view c.in-Following.is ∙ following_view c.in-Following.forms c.in-Following.last) in
    let whole : code_in r c.args.word.now ≡ forms_code (code_of (map form_view c.as_slice.result.now)) r ++ code_in r c.get-in-Following.result.now = rw (c.as_slice.ensures, c.get-in-Following.ensures) shape in
    two_pieces c.args.code.now.items (forms_code (code_of (map form_view c.as_slice.result.now)) r) c.push_forms.new.code.items (code_in r c.get-in-Following.result.now) c.push_word-in-Following.new.code.items (code_in r c.args.word.now) c.in_ok-push_forms-in-Following.ensures c.in_ok-push_word-in-Following.ensures whole
