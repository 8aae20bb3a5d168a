-- The code of a core is spelled by its shortest spelling, which has no more bytes than the core's count says.
use Rattle.std.proofs.Common.{◌≡◌, ℕ, zero, suc, ◌+◌, ◌*◌, ◌≤◌, ◌<◌, Bool, true, false, [], Some, None, refl, arith, ◌^◌}
use Rattle.std.specs.Prelude.{nat_lt, if◌then◌else◌}
use Rattle.std.proofs.lemmas.Bool.{ltb-true}
use Rattle.own_tree.specs.declared.arithmetic.Arith.{Arith}
use Rattle.own_tree.specs.declared.arithmetic.Arith.TheVariants.{Add, Sub, Mul, Div, Rem, Neg}
use Rattle.own_tree.specs.declared.typed.Comparison.{Comparison}
use Rattle.own_tree.specs.declared.typed.Comparison.TheVariants as comparison
use Rattle.wasm_form.specs.declared.types.ValueType.TheVariants as value_type
use Rattle.low_arith.specs.Code.{checked_code, trap_if, division_tests, product_tests}
use Rattle.core_form.specs.CoreSource.{At, mine, next, common, far, Word, constant, load, local, address, arithmetic, negate, compare, pick, following, read_int, Form, store, store_local, print, Pieces, no_pieces, text_piece, int_piece, bool_piece, words_in, when, block, loop, jump, call, call_word, copy, trap, Code, nothing, form, wrap, call_here}
use Rattle.low_laws.specs.Lower.{bits, access, place_code, displacement, byte_code, copy_body, moves_code, short_copy, long_copy, word_code, form_code, forms_code, compare_code, in_if, in_block, wrap_code, pieces_code, sets_code, say_code, Round, label}
use Rattle.low_laws.specs.declared.places.TheConstants.{LOCALS, MOST_PLAIN_WORDS}
use Rattle.core_form.specs.Sizes.{PlaceFits, U32, WordFits, FormFits, CodeFits, word_depth, form_depth, depth, place_bytes, word_bytes, form_bytes, bytes, PiecesFit, pieces_depth, pieces_bytes, said_bytes}
use Rattle.core_form.specs.declared.limits.TheConstants.{AREA, FRAME, FRAMES, MOST_PRINTED, MOST_JUMPED, MOST_DISPLACEMENT}
use Rattle.low_laws.proofs.Memory.{bits_small}
use Rattle.wasm_laws.proofs.Spelled.{InstrIs, CodeIs, nil, cons, at_most, append_is, block_fits, loop_fits, if_fits}
use Rattle.wasm_laws.proofs.Spelled as x
use Rattle.wasm_laws.specs.Fits.{AccessFits}
use Rattle.wasm_form.specs.declared.limits.TheConstants.{MOST_LABELS}

-- ---- checked arithmetic

module _ {labels : ℕ} (place : ℕ) (fits : U32 place) where
  trap_is : (code : ℕ) → U32 code → labels < MOST_LABELS → InstrIs labels (trap_if code place) 37
  trap_is code small lt = if_fits None [] lt (cons (x.i32_const code small) (cons (x.i32_const place fits) (cons (x.call 5 (omega arith)) (nil (labels + 1))))) (nil (labels + 1))

  tests_are : labels < MOST_LABELS → CodeIs labels (division_tests place) 195
  tests_are lt =
      cons (x.local_tee 2 (omega arith)) (cons x.i64_eqz (cons (trap_is 2 (omega arith) lt)
      (cons (x.local_tee 1 (omega arith)) (cons (x.i64_const 9223372036854775808 (omega arith)) (cons x.i64_eq
      (cons (x.local_get 2 (omega arith)) (cons (x.i64_const 18446744073709551615 (omega arith)) (cons x.i64_eq (cons x.i32_and (cons (trap_is 1 (omega arith) lt)
      (cons (x.local_get 1 (omega arith)) (cons (x.local_get 2 (omega arith)) (nil labels)))))))))))))

  product_are : labels < MOST_LABELS → CodeIs labels (product_tests place) 228
  product_are lt =
      cons (x.local_get 1 (omega arith)) (cons (x.i64_const 18446744073709551615 (omega arith)) (cons x.i64_eq (cons (x.local_get 2 (omega arith)) (cons (x.i64_const 9223372036854775808 (omega arith)) (cons x.i64_eq (cons x.i32_and (cons (trap_is 1 (omega arith) lt)
      (cons (x.local_get 1 (omega arith)) (cons (x.local_get 2 (omega arith)) (cons x.i64_mul (cons (x.local_get 1 (omega arith)) (cons x.i64_div_s (cons (x.local_get 2 (omega arith)) (cons x.i64_ne (cons (trap_is 1 (omega arith) lt) (nil labels))))))))))))))))

checked_is : {labels : ℕ} (o : Arith) (place : ℕ) → U32 place → labels + 2 ≤ MOST_LABELS → CodeIs labels (checked_code o place) 310
unfolding checked_code
checked_is {labels = labels} Add place fits le = at_most 310 (omega arith)
    (cons (x.local_set 2 (omega arith)) (cons (x.local_tee 1 (omega arith)) (cons (x.local_get 2 (omega arith)) (cons x.i64_add
    (cons (x.local_get 1 (omega arith)) (cons x.i64_lt_s (cons (x.local_get 2 (omega arith)) (cons (x.i64_const 0 (omega arith)) (cons x.i64_lt_s (cons x.i32_ne (cons (trap_is place fits 1 (omega arith) (omega (arith, le)))
    (cons (x.local_get 1 (omega arith)) (cons (x.local_get 2 (omega arith)) (cons x.i64_add (nil labels)))))))))))))))
checked_is {labels = labels} Sub place fits le = at_most 310 (omega arith)
    (cons (x.local_set 2 (omega arith)) (cons (x.local_tee 1 (omega arith)) (cons (x.local_get 2 (omega arith)) (cons x.i64_sub
    (cons (x.local_get 1 (omega arith)) (cons x.i64_gt_s (cons (x.local_get 2 (omega arith)) (cons (x.i64_const 0 (omega arith)) (cons x.i64_lt_s (cons x.i32_ne (cons (trap_is place fits 1 (omega arith) (omega (arith, le)))
    (cons (x.local_get 1 (omega arith)) (cons (x.local_get 2 (omega arith)) (cons x.i64_sub (nil labels)))))))))))))))
checked_is {labels = labels} Mul place fits le = at_most 310 (omega arith)
    (cons (x.local_set 2 (omega arith)) (cons (x.local_tee 1 (omega arith)) (cons x.i64_eqz (cons (if_fits None (product_tests place) (omega (arith, le)) (nil (labels + 1)) (product_are place fits (omega (arith, le))))
    (cons (x.local_get 1 (omega arith)) (cons (x.local_get 2 (omega arith)) (cons x.i64_mul (nil labels))))))))
checked_is {labels = labels} Div place fits le = at_most 310 (omega arith) (append_is (tests_are place fits (omega (arith, le))) (cons x.i64_div_s (nil labels)))
checked_is {labels = labels} Rem place fits le = at_most 310 (omega arith) (append_is (tests_are place fits (omega (arith, le))) (cons x.i64_rem_s (nil labels)))
checked_is {labels = labels} Neg place fits le = at_most 310 (omega arith)
    (cons (x.local_tee 1 (omega arith)) (cons (x.i64_const 9223372036854775808 (omega arith)) (cons x.i64_eq (cons (trap_is place fits 1 (omega arith) (omega (arith, le)))
    (cons (x.i64_const 0 (omega arith)) (cons (x.local_get 1 (omega arith)) (cons x.i64_sub (nil labels))))))))

-- ---- places and comparisons

access_fits : (k : ℕ) → k < 2 ^ 29 → AccessFits (access k)
access_fits k lt = (omega arith, omega (arith, lt))

offset_fits : (p : At) → PlaceFits p → displacement p < 2 ^ 29
offset_fits (mine o) h = omega (arith, h)
offset_fits (next o) h = omega (arith, h)
offset_fits (common o) h = omega (arith, h)
offset_fits (far p k) h = let q = h.1 in omega (arith, q)

place_is : {labels : ℕ} (p : At) → PlaceFits p → CodeIs labels (place_code p) (place_bytes p)
place_is {labels = labels} (mine o) h = cons (x.local_get 0 (omega arith)) (nil labels)
place_is {labels = labels} (next o) h = cons (x.local_get 0 (omega arith)) (nil labels)
place_is {labels = labels} (common o) h = cons (x.i32_const 0 (omega arith)) (nil labels)
place_is {labels = labels} (far p k) h = append_is (place_is p h.0) (cons (x.i64_load _ (access_fits (displacement p) (offset_fits p h.0))) (cons x.i32_wrap_i64 (nil labels)))

byte_is : {labels : ℕ} (p : At) → PlaceFits p → CodeIs labels (byte_code p) (place_bytes p + 22)
byte_is {labels = labels} p h = append_is (place_is p h) (cons (x.i32_const (8 * displacement p) (let q = offset_fits p h in omega (arith, q))) (cons x.i32_add (nil labels)))

copy_is : {labels : ℕ} → CodeIs labels copy_body 187
copy_is {labels = labels} =
    cons (x.local_get 4 (omega arith)) (cons (x.local_get 3 (omega arith)) (cons (x.i64_load _ (access_fits 0 (omega arith))) (cons (x.i64_store _ (access_fits 0 (omega arith)))
    (cons (x.local_get 3 (omega arith)) (cons (x.i32_const 8 (omega arith)) (cons x.i32_add (cons (x.local_set 3 (omega arith))
    (cons (x.local_get 4 (omega arith)) (cons (x.i32_const 8 (omega arith)) (cons x.i32_add (cons (x.local_set 4 (omega arith))
    (cons (x.local_get 5 (omega arith)) (cons (x.i32_const 1 (omega arith)) (cons x.i32_sub (cons (x.local_tee 5 (omega arith)) (cons (x.br_if 0 (omega arith)) (nil labels)))))))))))))))))

moves_are : {labels : ℕ} (count from to : ℕ) → from + count ≤ 2 ^ 29 → to + count ≤ 2 ^ 29 → CodeIs labels (moves_code count from to) (44 * count)
moves_are {labels = labels} zero from to lf lt = nil labels
moves_are {labels = labels} (suc count) from to lf lt = at_most _ (omega arith) (cons (x.local_get 4 (omega arith)) (cons (x.local_get 3 (omega arith)) (cons (x.i64_load _ (access_fits from (omega (arith, lf)))) (cons (x.i64_store _ (access_fits to (omega (arith, lt)))) (moves_are count (suc from) (suc to) (omega (arith, lf)) (omega (arith, lt)))))))

far_off : (p : At) → PlaceFits p → displacement p ≤ FRAMES + MOST_DISPLACEMENT
far_off (mine o) h = omega (arith, h)
far_off (next o) h = omega (arith, h)
far_off (common o) h = omega (arith, h)
far_off (far p k) h = let q = h.1 in omega (arith, q)

copies_are : {labels : ℕ} (more : ℕ) (p q : At) → FormFits (copy more p q) → labels < MOST_LABELS → (t : Bool) → nat_lt more MOST_PLAIN_WORDS ≡ t → CodeIs labels (if t then short_copy more p q else long_copy more p q) (form_bytes (copy more p q))
copies_are {labels = labels} more p q h le true e =
    let few = ltb-true _ _ e in
    let source = far_off p h.1 in
    let target = far_off q h.2 in
    at_most _ (omega (arith, few)) (append_is (append_is (place_is p h.1) (place_is q h.2)) (cons (x.local_set 4 (omega arith)) (cons (x.local_set 3 (omega arith)) (moves_are (suc more) (displacement p) (displacement q) (omega (arith, few, source)) (omega (arith, few, target))))))
copies_are {labels = labels} more p q h le false e =
    at_most _ (omega arith) (append_is (append_is (byte_is p h.1) (byte_is q h.2)) (cons (x.local_set 4 (omega arith)) (cons (x.local_set 3 (omega arith)) (cons (x.i32_const (suc more) (let q = h.0 in omega (arith, q))) (cons (x.local_set 5 (omega arith)) (cons (loop_fits None le copy_is) (nil labels)))))))

compare_is : {labels : ℕ} (o : Comparison) → InstrIs labels (compare_code o) 11
compare_is comparison.Equal = x.i64_eq
compare_is comparison.Unequal = x.i64_ne
compare_is comparison.Less = x.i64_lt_s
compare_is comparison.LessEqual = x.i64_le_s
compare_is comparison.Greater = x.i64_gt_s
compare_is comparison.GreaterEqual = x.i64_ge_s

wrap_is : {labels : ℕ} (o : Arith) → InstrIs labels (wrap_code o) 11
wrap_is Add = x.i64_add
wrap_is Sub = x.i64_sub
wrap_is Mul = x.i64_mul
wrap_is Div = x.unreachable
wrap_is Rem = x.unreachable
wrap_is Neg = x.unreachable

-- ---- what a print does behind its words

sets_is : {labels : ℕ} (n : ℕ) → n ≤ MOST_PRINTED → CodeIs labels (sets_code n) (11 * n)
sets_is {labels = labels} zero le = nil labels
sets_is {labels = labels} (suc n) le = at_most _ (omega arith) (append_is (sets_is n (omega (arith, le))) (cons (x.local_set (6 + n) (omega (arith, le))) (nil labels)))

say_is : {labels : ℕ} (ps : Pieces) → PiecesFit ps → words_in ps ≤ MOST_PRINTED → CodeIs labels (say_code ps) (said_bytes ps)
say_is {labels = labels} no_pieces h le = nil labels
say_is {labels = labels} (text_piece from size ps) h le = cons (x.i32_const (8 * AREA + from) (let q = h.0 in omega (arith, q))) (cons (x.i32_const size (let q = h.1 in omega (arith, q))) (cons (x.call 2 (omega arith)) (say_is ps h.2 le)))
say_is {labels = labels} (int_piece w ps) h le = cons (x.local_get (6 + words_in ps) (omega (arith, le))) (cons (x.call 0 (omega arith)) (say_is ps h.1 (omega (arith, le))))
say_is {labels = labels} (bool_piece w ps) h le = cons (x.local_get (6 + words_in ps) (omega (arith, le))) (cons x.i64_eqz (cons x.i32_eqz (cons (x.call 1 (omega arith)) (say_is ps h.1 (omega (arith, le))))))

-- ---- words, forms and lists of forms

-- the machine's label of each label of the core has a number that fits
abbrev Labels : Round → ℕ → Type 0
Labels ds labels = (k : ℕ) → k ≤ MOST_JUMPED → label ds k ≤ MOST_JUMPED + labels

block_labels : (ds : Round) (labels : ℕ) → Labels ds labels → Labels (in_block ds) (labels + 1)
block_labels ds labels h zero lt = omega arith
block_labels ds labels h (suc k) lt = let q = h k (omega (arith, lt)) in omega (arith, q)

if_labels : (ds : Round) (labels : ℕ) → Labels ds labels → Labels (in_if ds) (labels + 1)
if_labels ds labels h k lt = let q = h k lt in omega (arith, q)

mutual
  pub word_is : (w : Word) (labels : ℕ) (ds : Round) → WordFits w → Labels ds labels → labels + word_depth w ≤ MOST_LABELS → CodeIs labels (word_code w ds) (word_bytes w)
  word_is (constant z) labels ds h l le = cons (x.i64_const (bits z) (bits_small z h)) (nil labels)
  word_is (load p) labels ds h l le = append_is (place_is p h) (cons (x.i64_load _ (access_fits (displacement p) (offset_fits p h))) (nil labels))
  word_is (local y) labels ds h l le = cons (x.local_get (LOCALS + y) (omega (arith, h))) (nil labels)
  word_is (address p) labels ds h l le = append_is (place_is p h) (cons x.i64_extend_i32_u (cons (x.i64_const (8 * displacement p) (let q = offset_fits p h in omega (arith, q))) (cons x.i64_add (nil labels))))
  word_is (arithmetic o place a b) labels ds h l le = append_is (append_is (word_is a labels ds h.1 l (omega (arith, le))) (word_is b labels ds h.2 l (omega (arith, le)))) (checked_is o place h.0 (omega (arith, le)))
  word_is (negate place a) labels ds h l le = append_is (word_is a labels ds h.1 l (omega (arith, le))) (checked_is Neg place h.0 (omega (arith, le)))
  word_is (wrap o a b) labels ds h l le = append_is (append_is (word_is a labels ds h.0 l (omega (arith, le))) (word_is b labels ds h.1 l (omega (arith, le)))) (cons (wrap_is o) (nil labels))
  word_is (compare o a b) labels ds h l le = append_is (append_is (word_is a labels ds h.0 l (omega (arith, le))) (word_is b labels ds h.1 l (omega (arith, le)))) (cons (compare_is o) (cons x.i64_extend_i32_u (nil labels)))
  word_is (pick c a b) labels ds h l le = at_most _ (omega arith) (append_is (word_is c labels ds h.0 l (omega (arith, le)))
      (cons x.i64_eqz (cons (if_fits (Some value_type.I64) (word_code a (in_if ds)) (omega (arith, le)) (word_is b (labels + 1) (in_if ds) h.2 (if_labels ds labels l) (omega (arith, le))) (word_is a (labels + 1) (in_if ds) h.1 (if_labels ds labels l) (omega (arith, le)))) (nil labels))))
  word_is (following c w) labels ds h l le = append_is (code_is c labels ds h.0 l (omega (arith, le))) (word_is w labels ds h.1 l (omega (arith, le)))
  word_is read_int labels ds h l le = cons (x.call 4 (omega arith)) (nil labels)

  pub pieces_is : (ps : Pieces) (labels : ℕ) (ds : Round) → PiecesFit ps → Labels ds labels → labels + pieces_depth ps ≤ MOST_LABELS → CodeIs labels (pieces_code ps ds) (pieces_bytes ps)
  pieces_is no_pieces labels ds h l le = nil labels
  pieces_is (text_piece from size ps) labels ds h l le = pieces_is ps labels ds h.2 l le
  pieces_is (int_piece w ps) labels ds h l le = append_is (word_is w labels ds h.0 l (omega (arith, le))) (pieces_is ps labels ds h.1 l (omega (arith, le)))
  pieces_is (bool_piece w ps) labels ds h l le = append_is (word_is w labels ds h.0 l (omega (arith, le))) (pieces_is ps labels ds h.1 l (omega (arith, le)))

  pub form_is : (f : Form) (labels : ℕ) (ds : Round) → FormFits f → Labels ds labels → labels + form_depth f ≤ MOST_LABELS → CodeIs labels (form_code f ds) (form_bytes f)
  form_is (store p w) labels ds h l le = at_most _ (omega arith) (append_is (append_is (place_is p h.0) (word_is w labels ds h.1 l le)) (cons (x.i64_store _ (access_fits (displacement p) (offset_fits p h.0))) (nil labels)))
  form_is (store_local y w) labels ds h l le = append_is (word_is w labels ds h.1 l le) (cons (x.local_set (LOCALS + y) (let q = h.0 in omega (arith, q))) (nil labels))
  form_is (print ps) labels ds h l le = at_most _ (omega arith) (append_is (append_is (pieces_is ps labels ds h.0 l le) (sets_is (words_in ps) h.1)) (say_is ps h.0 h.1))
  form_is (when w a b) labels ds h l le = at_most _ (omega arith) (append_is (word_is w labels ds h.0 l (omega (arith, le)))
      (cons x.i64_eqz (cons (if_fits None (forms_code a (in_if ds)) (omega (arith, le)) (code_is b (labels + 1) (in_if ds) h.2 (if_labels ds labels l) (omega (arith, le))) (code_is a (labels + 1) (in_if ds) h.1 (if_labels ds labels l) (omega (arith, le)))) (nil labels))))
  form_is (block a) labels ds h l le = at_most _ (omega arith) (cons (block_fits None (omega (arith, le)) (code_is a (labels + 1) (in_block ds) h (block_labels ds labels l) (omega (arith, le)))) (nil labels))
  form_is (loop a) labels ds h l le = at_most _ (omega arith) (cons (loop_fits None (omega (arith, le)) (append_is (code_is a (labels + 1) (in_block ds) h (block_labels ds labels l) (omega (arith, le))) (cons (x.br 0 (omega arith)) (nil (labels + 1))))) (nil labels))
  form_is (jump k) labels ds h l le = cons (x.br (label ds k) (let q = l k h in omega (arith, q, le))) (nil labels)
  form_is (call f) labels ds h l le = cons (x.local_get 0 (omega arith)) (cons (x.i32_const (8 * FRAME) (omega arith)) (cons x.i32_add (cons (x.call (6 + f) (omega (arith, h))) (nil labels))))
  form_is (call_here f) labels ds h l le = cons (x.local_get 0 (omega arith)) (cons (x.call (6 + f) (omega (arith, h))) (nil labels))
  form_is (call_word w) labels ds h l le = at_most _ (omega arith) (cons (x.local_get 0 (omega arith)) (cons (x.i32_const (8 * FRAME) (omega arith)) (cons x.i32_add (append_is (word_is w labels ds h l le) (cons x.i32_wrap_i64 (cons (x.call_indirect 1 (omega arith)) (nil labels)))))))
  form_is (copy more p q) labels ds h l le = copies_are more p q h (omega (arith, le)) (nat_lt more MOST_PLAIN_WORDS) refl
  form_is (trap code place) labels ds h l le = cons (x.i32_const code h.0) (cons (x.i32_const place h.1) (cons (x.call 5 (omega arith)) (nil labels)))

  pub code_is : (c : Code) (labels : ℕ) (ds : Round) → CodeFits c → Labels ds labels → labels + depth c ≤ MOST_LABELS → CodeIs labels (forms_code c ds) (bytes c)
  code_is nothing labels ds h l le = nil labels
  code_is (form f fs) labels ds h l le = append_is (form_is f labels ds h.0 l (omega (arith, le))) (code_is fs labels ds h.1 l (omega (arith, le)))
