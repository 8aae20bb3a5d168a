-- Worked cores, by computing: what they write, and how they come out.
use Rattle.std.proofs.Common.{◌≡◌, ℕ, zero, suc, ◌+◌, List, [], ◌∷◌, refl}
use Rattle.std.specs.Prelude.{pos, negsuc, codes}
use Rattle.std.specs.Fmt.{digits}
use Rattle.std.specs.Int.{int_wrap}
use Rattle.own_tree.specs.declared.arithmetic.Arith.TheVariants.{Add, Mul}
use Rattle.own_tree.specs.declared.typed.Comparison.TheVariants as comparison
use Rattle.own_ways.specs.Ways.{Way, gives, traps, stops, errs, strays}
use Rattle.core_form.specs.declared.limits.TheConstants.{MAKER, DROPPED, SLOTS}
use Rattle.core_form.specs.CoreSource.{At, mine, next, common, far, Word, constant, load, local, address, arithmetic, wrap, compare, pick, following, read_int, Form, store, store_local, print, Pieces, no_pieces, text_piece, int_piece, bool_piece, when, block, loop, jump, call, call_here, call_word, copy, trap, Code, nothing, form, Function, CoreProgram}
use Rattle.core_form.specs.CoreRun.{State, core_run}

-- ---- how a run comes out

pub data Seen : Type 0 where
  ended : (forms : ℕ) (log : List ℕ) → Seen
  trapped : (code at : ℕ) (log : List ℕ) → Seen
  cut : (log : List ℕ) → Seen
  astray : Seen

abbrev seen : Way State (Unit {0}) → Seen
seen (gives u s) = ended s.forms s.log
seen (traps code at s) = trapped code at s.log
seen (stops s) = cut s.log
seen (errs s) = astray
seen (strays s) = astray

-- ---- short ways of writing

infixr 5 ◌⨾◌
abbrev ◌⨾◌ : Form → Code → Code
f ⨾ fs = form f fs

abbrev slot : ℕ → At
slot k = mine (SLOTS + k)

abbrev arg : ℕ → At
arg k = next (SLOTS + k)

abbrev number : ℕ → Word
number n = constant (pos n)

-- a line feed, a space and a full stop
abbrev marks : List ℕ
marks = codes "\n ."

abbrev line : Pieces
line = text_piece 0 1 no_pieces

abbrev say : Word → Form
say w = print (int_piece w line)

abbrev function : Code → Function
function code = record { locals = 0; code = code }

abbrev alone : Code → CoreProgram
alone code = record { functions = function code ∷ []; main = 0; texts = marks }

-- ---- loops, jumps and addresses

-- It prints 0 to 2 and leaves its loop by a jump out of an `if`. Then it calls a function that prints the square of its
-- argument and a word of the caller, which it finds by its address and ⨾ changes.
counting : CoreProgram
counting = record {
  functions = record {
    locals = 1;
    code =
        block (loop (when (compare comparison.Less (local 0) (number 3))
        (say (local 0) ⨾ store_local 0 (arithmetic Add 7 (local 0) (number 1)) ⨾ nothing)
        (jump 1 ⨾ nothing) ⨾ nothing) ⨾ nothing)
        ⨾ store (slot 5) (constant (negsuc 6))
        ⨾ store (arg 0) (local 0)
        ⨾ store (arg 1) (address (slot 5))
        ⨾ call 1
        ⨾ print (bool_piece (compare comparison.Equal (load (slot 5)) (number 9)) no_pieces)
        ⨾ nothing;
  }
      ∷ function (
      print (int_piece (arithmetic Mul 11 (load (slot 0)) (load (slot 0)))
      (text_piece 1 1 (int_piece (load (far (slot 1) 0)) no_pieces)))
      ⨾ store (far (slot 1) 0) (number 9)
      ⨾ print line
      ⨾ nothing)
      ∷ [];
  main = 0;
  texts = marks;
}

counts : seen (core_run counting [] 10) ≡ ended 80 (codes "0\n1\n2\n9 -7\ntrue")
unfolding core_run counting digits
counts = refl

-- with a turn too few
counts_cut : seen (core_run counting [] 5) ≡ cut (codes "0\n1\n2\n")
unfolding core_run counting digits
counts_cut = refl

-- ---- arithmetic and input

reading : CoreProgram
reading = alone (say (arithmetic Add 42 read_int (constant (pos 9223372036854775807))) ⨾ nothing)

-- the input is at its end, which reads as 0
reads_nothing : seen (core_run reading [] 1) ≡ ended 8 (codes "9223372036854775807\n")
unfolding core_run reading digits
reads_nothing = refl

overflows : seen (core_run reading (pos 1 ∷ []) 1) ≡ trapped 1 42 []
unfolding core_run reading
overflows = refl

-- a trap in a word comes before all that its print writes
late : CoreProgram
late = alone (print (text_piece 2 1 (int_piece (following (trap 4 8 ⨾ nothing) (number 1)) no_pieces)) ⨾ nothing)

late_traps : seen (core_run late [] 1) ≡ trapped 4 8 []
unfolding core_run late
late_traps = refl

-- ---- destruction

-- A struct with a mark and a stored property is ended by a function in the frame of its owner, which calls its `deinit`
-- in the next one and takes the mark back. The second time there is no mark.
destroying : CoreProgram
destroying = record {
  functions = function (
      store (slot 0) (number 1)
      ⨾ store (slot 1) (number 42)
      ⨾ store (mine DROPPED) (address (slot 0))
      ⨾ call_here 1
      ⨾ call_here 1
      ⨾ print (text_piece 2 1 no_pieces)
      ⨾ nothing)
      ∷ function (
      when (load (far (mine DROPPED) 0))
      (store (arg 0) (load (mine DROPPED)) ⨾ call 2 ⨾ store (far (mine DROPPED) 0) (number 0) ⨾ nothing)
      nothing
      ⨾ nothing)
      ∷ function (say (load (far (slot 0) 1)) ⨾ nothing)
      ∷ [];
  main = 0;
  texts = marks;
}

-- the call of main and that of the `deinit` take a turn each
destroys_once : seen (core_run destroying [] 2) ≡ ended 29 (codes "42\n.")
unfolding core_run destroying digits
destroys_once = refl

destroys_cut : seen (core_run destroying [] 1) ≡ cut []
unfolding core_run destroying digits
destroys_cut = refl

-- ---- closures, and lines of events

-- A closure is two words: the number of its function, and the address of the frame of the activation that made it. It
-- adds its argument to a word of that frame.
closing : CoreProgram
closing = record {
  functions = function (
      store (slot 0) (number 5)
      ⨾ store (slot 1) (number 1)
      ⨾ store (slot 2) (address (mine 0))
      ⨾ store (arg 0) (number 7)
      ⨾ store (next MAKER) (load (slot 2))
      ⨾ call_word (load (slot 1))
      ⨾ say (load (slot 0))
      ⨾ nothing)
      ∷ function (
      store (far (mine MAKER) SLOTS) (arithmetic Add 3 (load (far (mine MAKER) SLOTS)) (load (slot 0)))
      ⨾ nothing)
      ∷ [];
  main = 0;
  texts = marks;
}

closes : seen (core_run closing [] 2) ≡ ended 24 (codes "12\n")
unfolding core_run closing digits
closes = refl

-- the births of values are counted up to the largest `Int`, in a common word
abbrev most : Word
most = constant (pos 9223372036854775807)

abbrev birth : Form
birth = store (common 0)
    (pick (compare comparison.Less (load (common 0)) most) (wrap Add (load (common 0)) (number 1)) most)

abbrev made : Form
made = print (text_piece 0 11 (int_piece (load (common 0)) (text_piece 11 1 no_pieces)))

births : CoreProgram
births = record {
  functions =
      function (birth ⨾ made ⨾ store (common 0) most ⨾ birth ⨾ made ⨾ nothing) ∷ [];
  main = 0;
  texts = codes "made File #\n";
}

births_are_told : seen (core_run births [] 1) ≡ ended 29 (codes "made File #1\nmade File #9223372036854775807\n")
unfolding core_run births digits int_wrap
births_are_told = refl

-- ---- moves of words

-- the first word goes first, so where the places overlap it goes on
moving : CoreProgram
moving = alone (
    store (slot 0) (number 1)
    ⨾ store (slot 1) (number 2)
    ⨾ copy 1 (slot 0) (slot 1)
    ⨾ print (int_piece (load (slot 1)) (text_piece 1 1 (int_piece (load (slot 2)) no_pieces)))
    ⨾ nothing)

moves : seen (core_run moving [] 1) ≡ ended 15 (codes "1 1")
unfolding core_run moving digits
moves = refl

-- ---- what has no meaning

abbrev first_words : ℕ → Pieces
first_words zero = no_pieces
first_words (suc n) = int_piece (number 0) (first_words n)

jumping : CoreProgram
jumping = alone (jump 0 ⨾ nothing)

jumps_astray : seen (core_run jumping [] 1) ≡ astray
unfolding core_run jumping
jumps_astray = refl

-- an address between two words
between : CoreProgram
between = alone (store (slot 0) (number 4) ⨾ say (load (far (slot 0) 0)) ⨾ nothing)

between_astray : seen (core_run between [] 1) ≡ astray
unfolding core_run between
between_astray = refl

-- past the common word
past : CoreProgram
past = alone (say (load (common 1)) ⨾ nothing)

past_astray : seen (core_run past [] 1) ≡ astray
unfolding core_run past
past_astray = refl

-- a print of 32 words writes them, and one of 33 has no meaning
printing : ℕ → CoreProgram
printing n = alone (print (first_words n) ⨾ nothing)

prints : seen (core_run (printing 32) [] 1) ≡ ended 98 (codes "00000000000000000000000000000000")
unfolding core_run printing digits
prints = refl

prints_astray : seen (core_run (printing 33) [] 1) ≡ astray
unfolding core_run printing
prints_astray = refl
