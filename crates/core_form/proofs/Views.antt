-- What each place, word, piece and form of the code stands for, by its parts.
use Rattle.std.proofs.Common.{◌≡◌, ℕ, List, map}
use Rattle.std.specs.Prelude.{ℤ}
use Rattle.own_tree.specs.declared.arithmetic.Arith.{Arith}
use Rattle.own_tree.specs.declared.typed.Comparison.{Comparison}
use Rattle.core_form.specs.declared.code.CoreAt.{CoreAt}
use Rattle.core_form.specs.declared.code.CoreAt
use Rattle.core_form.specs.declared.code.CoreAt.TheOpen.{CoreAt-F}
use Rattle.core_form.specs.declared.code.CoreAt.TheFolds.{fold-roll-CoreAt}
use Rattle.core_form.specs.declared.code.CoreForm.{CoreForm}
use Rattle.core_form.specs.declared.code.CoreForm
use Rattle.core_form.specs.declared.code.CorePiece
use Rattle.core_form.specs.declared.code.CoreWord.{CoreWord}
use Rattle.core_form.specs.declared.code.CoreWord
use Rattle.core_form.specs.declared.code.CorePiece.{CorePiece}
use Rattle.core_form.specs.declared.code.CoreForm.TheOpen.{CoreForm-F, CorePiece-F, CoreWord-F}
use Rattle.core_form.specs.declared.code.CoreForm.TheFolds.{fold-roll-CoreForm, fold-roll-CorePiece, fold-roll-CoreWord}
use Rattle.core_form.specs.CoreSource.{At, mine, next, common, far, Word, constant, load, local, address, arithmetic, negate, wrap, compare, pick, following, read_int, text_piece, int_piece, bool_piece, Form, store, store_local, print, when, block, loop, jump, call, call_here, call_word, copy, trap}
use Rattle.core_form.specs.CoreView.{Before, at_step, at_view, code_of, form_step, form_view, piece_step, piece_view, pieces_of, word_step, word_view}

-- ---- places

pub mine_view : (o : ℕ) → at_view (CoreAt.TheVariants.Mine o) ≡ mine o
unfolding CoreAt.roll-CoreAt denote.Hole.Carrier.roll
mine_view o = fold-roll-CoreAt At at_step (CoreAt-F.Mine o)

pub next_view : (o : ℕ) → at_view (CoreAt.TheVariants.Next o) ≡ next o
unfolding CoreAt.roll-CoreAt denote.Hole.Carrier.roll
next_view o = fold-roll-CoreAt At at_step (CoreAt-F.Next o)

pub common_view : (o : ℕ) → at_view (CoreAt.TheVariants.Common o) ≡ common o
unfolding CoreAt.roll-CoreAt denote.Hole.Carrier.roll
common_view o = fold-roll-CoreAt At at_step (CoreAt-F.Common o)

pub far_view : (p : CoreAt) (k : ℕ) → at_view (CoreAt.TheVariants.Far p k) ≡ far (at_view p) k
unfolding CoreAt.roll-CoreAt denote.Hole.Carrier.roll
far_view p k = fold-roll-CoreAt At at_step (CoreAt-F.Far p k)

-- ---- words

pub constant_view : (z : ℤ) → word_view (CoreWord.TheVariants.Constant z) ≡ constant z
unfolding CoreWord.roll-CoreWord denote.Hole.Carrier.roll
constant_view z = fold-roll-CoreWord Form Before Word form_step piece_step word_step (CoreWord-F.Constant z)

pub load_view : (p : CoreAt) → word_view (CoreWord.TheVariants.Load p) ≡ load (at_view p)
unfolding CoreWord.roll-CoreWord denote.Hole.Carrier.roll
load_view p = fold-roll-CoreWord Form Before Word form_step piece_step word_step (CoreWord-F.Load p)

pub local_view : (x : ℕ) → word_view (CoreWord.TheVariants.Local x) ≡ local x
unfolding CoreWord.roll-CoreWord denote.Hole.Carrier.roll
local_view x = fold-roll-CoreWord Form Before Word form_step piece_step word_step (CoreWord-F.Local x)

pub address_view : (p : CoreAt) → word_view (CoreWord.TheVariants.Address p) ≡ address (at_view p)
unfolding CoreWord.roll-CoreWord denote.Hole.Carrier.roll
address_view p = fold-roll-CoreWord Form Before Word form_step piece_step word_step (CoreWord-F.Address p)

pub arithmetic_view : (op : Arith) (at : ℕ) (a : CoreWord) (b : CoreWord) → word_view (CoreWord.TheVariants.Arithmetic op at a b) ≡ arithmetic op at (word_view a) (word_view b)
unfolding CoreWord.roll-CoreWord denote.Hole.Carrier.roll
arithmetic_view op at a b = fold-roll-CoreWord Form Before Word form_step piece_step word_step (CoreWord-F.Arithmetic op at a b)

pub negate_view : (at : ℕ) (a : CoreWord) → word_view (CoreWord.TheVariants.Negate at a) ≡ negate at (word_view a)
unfolding CoreWord.roll-CoreWord denote.Hole.Carrier.roll
negate_view at a = fold-roll-CoreWord Form Before Word form_step piece_step word_step (CoreWord-F.Negate at a)

pub wrap_view : (op : Arith) (a : CoreWord) (b : CoreWord) → word_view (CoreWord.TheVariants.Wrap op a b) ≡ wrap op (word_view a) (word_view b)
unfolding CoreWord.roll-CoreWord denote.Hole.Carrier.roll
wrap_view op a b = fold-roll-CoreWord Form Before Word form_step piece_step word_step (CoreWord-F.Wrap op a b)

pub compare_view : (op : Comparison) (a : CoreWord) (b : CoreWord) → word_view (CoreWord.TheVariants.Compare op a b) ≡ compare op (word_view a) (word_view b)
unfolding CoreWord.roll-CoreWord denote.Hole.Carrier.roll
compare_view op a b = fold-roll-CoreWord Form Before Word form_step piece_step word_step (CoreWord-F.Compare op a b)

pub pick_view : (c : CoreWord) (a : CoreWord) (b : CoreWord) → word_view (CoreWord.TheVariants.Pick c a b) ≡ pick (word_view c) (word_view a) (word_view b)
unfolding CoreWord.roll-CoreWord denote.Hole.Carrier.roll
pick_view c a b = fold-roll-CoreWord Form Before Word form_step piece_step word_step (CoreWord-F.Pick c a b)

pub following_view : (fs : List CoreForm) (w : CoreWord) → word_view (CoreWord.TheVariants.Following fs w) ≡ following (code_of (map form_view fs)) (word_view w)
unfolding CoreWord.roll-CoreWord denote.Hole.Carrier.roll
following_view fs w = fold-roll-CoreWord Form Before Word form_step piece_step word_step (CoreWord-F.Following fs w)

pub read_int_view : word_view CoreWord.TheVariants.ReadInt ≡ read_int
unfolding CoreWord.roll-CoreWord denote.Hole.Carrier.roll
read_int_view = fold-roll-CoreWord Form Before Word form_step piece_step word_step CoreWord-F.ReadInt

-- ---- pieces

pub text_piece_view : (from : ℕ) (size : ℕ) → piece_view (CorePiece.TheVariants.Text from size) ≡ text_piece from size
unfolding CorePiece.roll-CorePiece denote.Hole.Carrier.roll
text_piece_view from size = fold-roll-CorePiece Form Before Word form_step piece_step word_step (CorePiece-F.Text from size)

pub int_piece_view : (w : CoreWord) → piece_view (CorePiece.TheVariants.Int w) ≡ int_piece (word_view w)
unfolding CorePiece.roll-CorePiece denote.Hole.Carrier.roll
int_piece_view w = fold-roll-CorePiece Form Before Word form_step piece_step word_step (CorePiece-F.Int w)

pub bool_piece_view : (w : CoreWord) → piece_view (CorePiece.TheVariants.Bool w) ≡ bool_piece (word_view w)
unfolding CorePiece.roll-CorePiece denote.Hole.Carrier.roll
bool_piece_view w = fold-roll-CorePiece Form Before Word form_step piece_step word_step (CorePiece-F.Bool w)

-- ---- forms

pub store_view : (p : CoreAt) (w : CoreWord) → form_view (CoreForm.TheVariants.Store p w) ≡ store (at_view p) (word_view w)
unfolding CoreForm.roll-CoreForm denote.Hole.Carrier.roll
store_view p w = fold-roll-CoreForm Form Before Word form_step piece_step word_step (CoreForm-F.Store p w)

pub store_local_view : (x : ℕ) (w : CoreWord) → form_view (CoreForm.TheVariants.StoreLocal x w) ≡ store_local x (word_view w)
unfolding CoreForm.roll-CoreForm denote.Hole.Carrier.roll
store_local_view x w = fold-roll-CoreForm Form Before Word form_step piece_step word_step (CoreForm-F.StoreLocal x w)

pub print_view : (ps : List CorePiece) → form_view (CoreForm.TheVariants.Print ps) ≡ print (pieces_of (map piece_view ps))
unfolding CoreForm.roll-CoreForm denote.Hole.Carrier.roll
print_view ps = fold-roll-CoreForm Form Before Word form_step piece_step word_step (CoreForm-F.Print ps)

pub when_view : (w : CoreWord) (a : List CoreForm) (b : List CoreForm) → form_view (CoreForm.TheVariants.When w a b) ≡ when (word_view w) (code_of (map form_view a)) (code_of (map form_view b))
unfolding CoreForm.roll-CoreForm denote.Hole.Carrier.roll
when_view w a b = fold-roll-CoreForm Form Before Word form_step piece_step word_step (CoreForm-F.When w a b)

pub block_view : (a : List CoreForm) → form_view (CoreForm.TheVariants.Block a) ≡ block (code_of (map form_view a))
unfolding CoreForm.roll-CoreForm denote.Hole.Carrier.roll
block_view a = fold-roll-CoreForm Form Before Word form_step piece_step word_step (CoreForm-F.Block a)

pub loop_view : (a : List CoreForm) → form_view (CoreForm.TheVariants.Loop a) ≡ loop (code_of (map form_view a))
unfolding CoreForm.roll-CoreForm denote.Hole.Carrier.roll
loop_view a = fold-roll-CoreForm Form Before Word form_step piece_step word_step (CoreForm-F.Loop a)

pub jump_view : (k : ℕ) → form_view (CoreForm.TheVariants.Jump k) ≡ jump k
unfolding CoreForm.roll-CoreForm denote.Hole.Carrier.roll
jump_view k = fold-roll-CoreForm Form Before Word form_step piece_step word_step (CoreForm-F.Jump k)

pub call_view : (f : ℕ) → form_view (CoreForm.TheVariants.Call f) ≡ call f
unfolding CoreForm.roll-CoreForm denote.Hole.Carrier.roll
call_view f = fold-roll-CoreForm Form Before Word form_step piece_step word_step (CoreForm-F.Call f)

pub call_here_view : (f : ℕ) → form_view (CoreForm.TheVariants.CallHere f) ≡ call_here f
unfolding CoreForm.roll-CoreForm denote.Hole.Carrier.roll
call_here_view f = fold-roll-CoreForm Form Before Word form_step piece_step word_step (CoreForm-F.CallHere f)

pub call_word_view : (w : CoreWord) → form_view (CoreForm.TheVariants.CallWord w) ≡ call_word (word_view w)
unfolding CoreForm.roll-CoreForm denote.Hole.Carrier.roll
call_word_view w = fold-roll-CoreForm Form Before Word form_step piece_step word_step (CoreForm-F.CallWord w)

pub copy_view : (more : ℕ) (p : CoreAt) (q : CoreAt) → form_view (CoreForm.TheVariants.Copy more p q) ≡ copy more (at_view p) (at_view q)
unfolding CoreForm.roll-CoreForm denote.Hole.Carrier.roll
copy_view more p q = fold-roll-CoreForm Form Before Word form_step piece_step word_step (CoreForm-F.Copy more p q)

pub trap_view : (code : ℕ) (at : ℕ) → form_view (CoreForm.TheVariants.Trap code at) ≡ trap code at
unfolding CoreForm.roll-CoreForm denote.Hole.Carrier.roll
trap_view code at = fold-roll-CoreForm Form Before Word form_step piece_step word_step (CoreForm-F.Trap code at)
