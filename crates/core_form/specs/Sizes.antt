-- What is asked of a core, so that its module is within the limits of modules and of a run, and is spelled: numbers
-- that fit, labels that are not too deep, few operands at once, and how many bytes its code has at most.
use Rattle.std.specs.Prelude.{◌≡◌, ℕ, ℤ, true, ◌+◌, ◌*◌, ◌^◌, ◌<◌, ◌≤◌, max, List, [], ◌∷◌, length, slice_get, Some}
use Rattle.own_ways.specs.Exact.{is_int}
use Rattle.core_form.specs.declared.limits.TheConstants.{AREA, MOST_PRINTED, MOST_FUNCTIONS, MOST_LOCAL_WORDS, MOST_DISPLACEMENT, MOST_JUMPED, MOST_DEPTH, MOST_HEIGHT, MOST_CORE_TEXTS, MOST_CODE_BYTES}
use Rattle.core_form.specs.CoreSource.{At, mine, next, common, far, Word, constant, load, local, address, arithmetic, negate, compare, pick, following, read_int, Form, store, store_local, print, Pieces, no_pieces, text_piece, int_piece, bool_piece, words_in, when, block, loop, jump, call, call_word, copy, trap, Code, nothing, form, Function, CoreProgram, wrap, call_here}

-- ---- words that are Ints

abbrev pub IsInt : ℤ → Type 0
IsInt z = is_int z ≡ true

abbrev pub AreInts : List ℤ → Type 0
AreInts [] = Unit {0}
AreInts (z ∷ zs) = IsInt z × AreInts zs

-- ---- numbers

abbrev pub PlaceFits : At → Type 0
PlaceFits (mine o) = o ≤ MOST_DISPLACEMENT
PlaceFits (next o) = o ≤ MOST_DISPLACEMENT
PlaceFits (common o) = o ≤ MOST_DISPLACEMENT
PlaceFits (far p k) = PlaceFits p × (k ≤ MOST_DISPLACEMENT)

abbrev pub U32 : ℕ → Type 0
U32 n = n < 2 ^ 32

abbrev mutual
  pub WordFits : Word → Type 0
  WordFits (constant z) = IsInt z
  WordFits (load p) = PlaceFits p
  WordFits (local x) = x ≤ MOST_LOCAL_WORDS
  WordFits (address p) = PlaceFits p
  WordFits (arithmetic op at a b) = U32 at × WordFits a × WordFits b
  WordFits (negate at a) = U32 at × WordFits a
  WordFits (wrap o a b) = WordFits a × WordFits b
  WordFits (compare o a b) = WordFits a × WordFits b
  WordFits (pick c a b) = WordFits c × WordFits a × WordFits b
  WordFits (following c w) = CodeFits c × WordFits w
  WordFits read_int = Unit {0}

  pub PiecesFit : Pieces → Type 0
  PiecesFit no_pieces = Unit {0}
  PiecesFit (text_piece from size ps) = (from ≤ MOST_CORE_TEXTS) × (size ≤ MOST_CORE_TEXTS) × PiecesFit ps
  PiecesFit (int_piece w ps) = WordFits w × PiecesFit ps
  PiecesFit (bool_piece w ps) = WordFits w × PiecesFit ps

  pub FormFits : Form → Type 0
  FormFits (store p w) = PlaceFits p × WordFits w
  FormFits (store_local x w) = (x ≤ MOST_LOCAL_WORDS) × WordFits w
  FormFits (print ps) = PiecesFit ps × (words_in ps ≤ MOST_PRINTED)
  FormFits (when w a b) = WordFits w × CodeFits a × CodeFits b
  FormFits (block a) = CodeFits a
  FormFits (loop a) = CodeFits a
  FormFits (jump k) = k ≤ MOST_JUMPED
  FormFits (call f) = f ≤ MOST_FUNCTIONS
  FormFits (call_here f) = f ≤ MOST_FUNCTIONS
  FormFits (call_word w) = WordFits w
  FormFits (copy more p q) = (more ≤ AREA) × PlaceFits p × PlaceFits q
  FormFits (trap code at) = U32 code × U32 at

  pub CodeFits : Code → Type 0
  CodeFits nothing = Unit {0}
  CodeFits (form f fs) = FormFits f × CodeFits fs

-- ---- labels: how deep they stand in one another in the code of a word or a form

abbrev mutual
  pub word_depth : Word → ℕ
  word_depth (arithmetic op at a b) = max (max (word_depth a) (word_depth b)) 2
  word_depth (negate at a) = max (word_depth a) 2
  word_depth (wrap o a b) = max (word_depth a) (word_depth b)
  word_depth (compare o a b) = max (word_depth a) (word_depth b)
  word_depth (pick c a b) = max (word_depth c) (max (word_depth a) (word_depth b) + 1)
  word_depth (following c w) = max (depth c) (word_depth w)
  word_depth w = 0

  pub pieces_depth : Pieces → ℕ
  pieces_depth no_pieces = 0
  pieces_depth (text_piece from size ps) = pieces_depth ps
  pieces_depth (int_piece w ps) = max (word_depth w) (pieces_depth ps)
  pieces_depth (bool_piece w ps) = max (word_depth w) (pieces_depth ps)

  pub form_depth : Form → ℕ
  form_depth (store p w) = word_depth w
  form_depth (store_local x w) = word_depth w
  form_depth (print ps) = pieces_depth ps
  form_depth (when w a b) = max (word_depth w) (max (depth a) (depth b) + 1)
  form_depth (block a) = depth a + 1
  form_depth (loop a) = depth a + 1
  form_depth (call_word w) = word_depth w
  form_depth (copy more p q) = 1
  form_depth f = 0

  pub depth : Code → ℕ
  depth nothing = 0
  depth (form f fs) = max (form_depth f) (depth fs)

-- ---- bytes: how many the code of a word or a form has at most

abbrev pub place_bytes : At → ℕ
place_bytes (mine o) = 11
place_bytes (next o) = 11
place_bytes (common o) = 11
place_bytes (far p k) = place_bytes p + 22

-- of what writes the pieces
abbrev pub said_bytes : Pieces → ℕ
said_bytes no_pieces = 0
said_bytes (text_piece from size ps) = 11 + (11 + (11 + said_bytes ps))
said_bytes (int_piece w ps) = 11 + (11 + said_bytes ps)
said_bytes (bool_piece w ps) = 11 + (11 + (11 + (11 + said_bytes ps)))

abbrev mutual
  pub word_bytes : Word → ℕ
  word_bytes (constant z) = 11
  word_bytes (load p) = place_bytes p + 11
  word_bytes (local x) = 11
  word_bytes (address p) = place_bytes p + 33
  word_bytes (arithmetic op at a b) = word_bytes a + word_bytes b + 310
  word_bytes (negate at a) = word_bytes a + 310
  word_bytes (wrap o a b) = word_bytes a + word_bytes b + 11
  word_bytes (compare o a b) = word_bytes a + word_bytes b + 22
  word_bytes (pick c a b) = word_bytes c + (word_bytes a + word_bytes b) + 15
  word_bytes (following c w) = bytes c + word_bytes w
  word_bytes read_int = 11

  pub pieces_bytes : Pieces → ℕ
  pieces_bytes no_pieces = 0
  pieces_bytes (text_piece from size ps) = pieces_bytes ps
  pieces_bytes (int_piece w ps) = word_bytes w + pieces_bytes ps
  pieces_bytes (bool_piece w ps) = word_bytes w + pieces_bytes ps

  pub form_bytes : Form → ℕ
  form_bytes (store p w) = place_bytes p + word_bytes w + 11
  form_bytes (store_local x w) = word_bytes w + 11
  form_bytes (print ps) = pieces_bytes ps + 11 * words_in ps + said_bytes ps
  form_bytes (when w a b) = word_bytes w + (bytes a + bytes b) + 15
  form_bytes (block a) = bytes a + 3
  form_bytes (loop a) = bytes a + 14
  form_bytes (jump k) = 11
  form_bytes (call f) = 44
  form_bytes (call_here f) = 22
  form_bytes (call_word w) = word_bytes w + 55
  form_bytes (copy more p q) = place_bytes p + place_bytes q + 280
  form_bytes (trap code at) = 33

  pub bytes : Code → ℕ
  bytes nothing = 0
  bytes (form f fs) = form_bytes f + bytes fs

-- ---- operands: how many the code of a word or a form needs at once

abbrev mutual
  pub word_height : Word → ℕ
  word_height (constant z) = 1
  word_height (load p) = 2
  word_height (local x) = 1
  word_height (address p) = 2
  word_height (arithmetic op at a b) = max (word_height a) (1 + word_height b) + 4
  word_height (negate at a) = word_height a + 4
  word_height (wrap o a b) = max (word_height a) (1 + word_height b)
  word_height (compare o a b) = max (word_height a) (1 + word_height b)
  word_height (pick c a b) = max (word_height c) (max (word_height a) (word_height b))
  word_height (following c w) = max (height c) (word_height w)
  word_height read_int = 1

  pub pieces_height : Pieces → ℕ
  pieces_height no_pieces = 0
  pieces_height (text_piece from size ps) = pieces_height ps
  pieces_height (int_piece w ps) = max (word_height w) (1 + pieces_height ps)
  pieces_height (bool_piece w ps) = max (word_height w) (1 + pieces_height ps)

  pub form_height : Form → ℕ
  form_height (store p w) = 2 + word_height w
  form_height (store_local x w) = word_height w
  form_height (print ps) = max (pieces_height ps) 2
  form_height (when w a b) = max (word_height w) (max (height a) (height b))
  form_height (block a) = height a
  form_height (loop a) = height a
  form_height (jump k) = 0
  form_height (call f) = 2
  form_height (call_here f) = 1
  form_height (call_word w) = 2 + word_height w
  form_height (copy more p q) = 4
  form_height (trap code at) = 2

  pub height : Code → ℕ
  height nothing = 0
  height (form f fs) = max (form_height f) (height fs)

-- ---- the whole core

abbrev pub AreLow : List Function → Type 0
AreLow fs = (f : ℕ) (g : Function) → slice_get fs f ≡ Some g → height g.code ≤ MOST_HEIGHT

-- its module has room for its operands and its texts
pub record IsSmall (c : CoreProgram) : Type 0 where
  pub low : AreLow c.functions
  pub few : length c.functions ≤ MOST_FUNCTIONS
  pub short : length c.texts ≤ MOST_CORE_TEXTS

-- the bytes of the code of all functions, with their sizes and the groups of their locals
abbrev pub all_bytes : List Function → ℕ
all_bytes [] = 0
all_bytes (f ∷ fs) = bytes f.code + 56 + all_bytes fs

pub record FunctionFits (f : Function) : Type 0 where
  pub numbers : CodeFits f.code
  pub labels : depth f.code ≤ MOST_DEPTH
  pub locals : f.locals ≤ MOST_LOCAL_WORDS

abbrev pub FunctionsFit : List Function → Type 0
FunctionsFit [] = Unit {0}
FunctionsFit (f ∷ fs) = FunctionFits f × FunctionsFit fs

abbrev pub BytesFit : List ℕ → Type 0
BytesFit [] = Unit {0}
BytesFit (b ∷ bs) = (b < 256) × BytesFit bs

-- and some bytes spell its module, which are not too many
pub record IsFitting (c : CoreProgram) : Type 0 where
  pub is_small : IsSmall c
  pub functions : FunctionsFit c.functions
  pub main : c.main ≤ MOST_FUNCTIONS
  pub texts : BytesFit c.texts
  pub short_code : all_bytes c.functions ≤ MOST_CODE_BYTES
