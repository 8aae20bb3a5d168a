-- The core as definitions see it: plain data.
use Rattle.std.specs.Prelude.{ℕ, suc, ℤ, List}
use Rattle.own_tree.specs.declared.arithmetic.Arith.{Arith}
use Rattle.own_tree.specs.declared.typed.Comparison.{Comparison}

-- A word of the frame that runs, of the next one, or behind all frames; or so many words after the address that
-- another word holds.
pub data At : Type 0 where
  mine : ℕ → At
  next : ℕ → At
  common : ℕ → At
  far : At → (displacement : ℕ) → At

mutual
  -- an expression of one word
  pub data Word : Type 0 where
    constant : ℤ → Word
    load : At → Word
    local : ℕ → Word
    address : At → Word
    arithmetic : Arith → (at : ℕ) → Word → Word → Word
    negate : (at : ℕ) → Word → Word
    -- a sum, a difference or a product modulo 2 ^ 64
    wrap : Arith → Word → Word → Word
    compare : Comparison → Word → Word → Word
    -- the second where the first is not 0, else the third
    pick : Word → Word → Word → Word
    -- forms, and then a word
    following : Code → Word → Word
    read_int : Word

  -- what is written together: bytes of the texts, from one on, an Int, or a Bool
  pub data Pieces : Type 0 where
    no_pieces : Pieces
    text_piece : (from size : ℕ) → Pieces → Pieces
    int_piece : Word → Pieces → Pieces
    bool_piece : Word → Pieces → Pieces

  pub data Form : Type 0 where
    store : At → Word → Form
    store_local : ℕ → Word → Form
    -- the words of all pieces are evaluated, and then the pieces are written
    print : Pieces → Form
    when : Word → Code → Code → Form
    block : Code → Form
    loop : Code → Form
    jump : ℕ → Form
    -- in the next frame, with a turn and a level
    call : ℕ → Form
    -- in the frame that runs, with a level alone, as a value is destroyed
    call_here : ℕ → Form
    -- of the function whose number is a word, as a closure is called
    call_word : Word → Form
    -- one word and so many more, the first first
    copy : (more : ℕ) (from to : At) → Form
    trap : (code at : ℕ) → Form

  pub data Code : Type 0 where
    nothing : Code
    form : Form → Code → Code

pub record Function : Type 0 where
  pub locals : ℕ
  pub code : Code

pub record CoreProgram : Type 0 where
  pub functions : List Function
  pub main : ℕ
  pub texts : List ℕ

-- how many words are evaluated for pieces
abbrev pub words_in : Pieces → ℕ
words_in no_pieces = 0
words_in (text_piece from size ps) = words_in ps
words_in (int_piece w ps) = suc (words_in ps)
words_in (bool_piece w ps) = suc (words_in ps)
