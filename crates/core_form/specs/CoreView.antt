-- What a core stands for.
use Rattle.std.specs.Prelude.{List, [], ◌∷◌, map}
use Rattle.core_form.specs.declared.code.CoreAt.{CoreAt}
use Rattle.core_form.specs.declared.code.CoreAt.TheOpen.{CoreAt-F}
use Rattle.core_form.specs.declared.code.CoreAt.TheFolds.{fold-CoreAt}
use Rattle.core_form.specs.declared.code.CoreForm.{CoreForm}
use Rattle.core_form.specs.declared.code.CorePiece.{CorePiece}
use Rattle.core_form.specs.declared.code.CoreWord.{CoreWord}
use Rattle.core_form.specs.declared.code.CoreForm.TheOpen.{CoreForm-F, CorePiece-F, CoreWord-F}
use Rattle.core_form.specs.declared.code.CoreForm.TheFolds.{fold-CoreForm, fold-CorePiece, fold-CoreWord}
use Rattle.core_form.specs.declared.program.Core.{Core}
use Rattle.core_form.specs.declared.program.CoreFunction.{CoreFunction}
use Rattle.core_form.specs.CoreSource.{At, mine, next, common, far, Word, constant, load, local, address, arithmetic, negate, wrap, compare, pick, following, read_int, Pieces, no_pieces, text_piece, int_piece, bool_piece, Form, store, store_local, print, when, block, loop, jump, call, call_here, call_word, copy, trap, Code, nothing, form, Function, CoreProgram}

-- ---- places

abbrev pub at_step : CoreAt-F At → At
at_step (CoreAt-F.Mine o) = mine o
at_step (CoreAt-F.Next o) = next o
at_step (CoreAt-F.Common o) = common o
at_step (CoreAt-F.Far p k) = far p k

abbrev pub at_view : CoreAt → At
at_view = fold-CoreAt At at_step

-- ---- words and forms

-- a piece, before those that come after it
abbrev pub Before : Type 0
Before = Pieces → Pieces

abbrev pub code_of : List Form → Code
code_of [] = nothing
code_of (f ∷ fs) = form f (code_of fs)

abbrev pub pieces_of : List Before → Pieces
pieces_of [] = no_pieces
pieces_of (p ∷ ps) = p (pieces_of ps)

abbrev pub word_step : CoreWord-F Form Before Word → Word
word_step (CoreWord-F.Constant z) = constant z
word_step (CoreWord-F.Load p) = load (at_view p)
word_step (CoreWord-F.Local x) = local x
word_step (CoreWord-F.Address p) = address (at_view p)
word_step (CoreWord-F.Arithmetic op at a b) = arithmetic op at a b
word_step (CoreWord-F.Negate at a) = negate at a
word_step (CoreWord-F.Wrap op a b) = wrap op a b
word_step (CoreWord-F.Compare op a b) = compare op a b
word_step (CoreWord-F.Pick c a b) = pick c a b
word_step (CoreWord-F.Following fs w) = following (code_of fs) w
word_step CoreWord-F.ReadInt = read_int

abbrev pub piece_step : CorePiece-F Form Before Word → Before
piece_step (CorePiece-F.Text from size) = text_piece from size
piece_step (CorePiece-F.Int w) = int_piece w
piece_step (CorePiece-F.Bool w) = bool_piece w

abbrev pub form_step : CoreForm-F Form Before Word → Form
form_step (CoreForm-F.Store p w) = store (at_view p) w
form_step (CoreForm-F.StoreLocal x w) = store_local x w
form_step (CoreForm-F.Print ps) = print (pieces_of ps)
form_step (CoreForm-F.When w a b) = when w (code_of a) (code_of b)
form_step (CoreForm-F.Block a) = block (code_of a)
form_step (CoreForm-F.Loop a) = loop (code_of a)
form_step (CoreForm-F.Jump k) = jump k
form_step (CoreForm-F.Call f) = call f
form_step (CoreForm-F.CallHere f) = call_here f
form_step (CoreForm-F.CallWord w) = call_word w
form_step (CoreForm-F.Copy more p q) = copy more (at_view p) (at_view q)
form_step (CoreForm-F.Trap code at) = trap code at

abbrev pub word_view : CoreWord → Word
word_view = fold-CoreWord Form Before Word form_step piece_step word_step

abbrev pub piece_view : CorePiece → Before
piece_view = fold-CorePiece Form Before Word form_step piece_step word_step

abbrev pub form_view : CoreForm → Form
form_view = fold-CoreForm Form Before Word form_step piece_step word_step

-- ---- the whole core

abbrev pub function_view : CoreFunction → Function
function_view f = record { locals = f.locals; code = code_of (map form_view f.code) }

abbrev pub core_view : Core → CoreProgram
core_view c = record { functions = map function_view c.functions; main = c.main; texts = c.texts }
