-- What a core does, by cases on its forms. What has no meaning strays.
use Rattle.std.specs.Prelude.{ℕ, zero, suc, ◌+◌, ◌*◌, ◌/◌, ◌%◌, ◌==◌, nat_lt, ℤ, pos, negsuc, Bool, true, false, not, if◌then◌else◌, List, [], ◌∷◌, ◌++◌, length, take, drop, replicate, slice_get, slice_set, codes}
use Rattle.std.specs.Fmt.{signed_decimal}
use Rattle.own_tree.specs.declared.arithmetic.Arith.{Arith}
use Rattle.own_tree.specs.declared.arithmetic.Arith.TheVariants.{Add, Sub, Mul, Div, Rem, Neg}
use Rattle.own_tree.specs.declared.limits.TheConstants.{MOST_LEVELS}
use Rattle.own_ways.specs.Arithmetic.{computed, wrapped, compare_ints}
use Rattle.own_ways.specs.Exact.{is_int}
use Rattle.own_ways.specs.Ways.{Way, Step, ◌>>=◌, ◌>>◌, pure, trap, stop, stray, look, change, or_stray}
use Rattle.own_ways.specs.Ways as ways
use Rattle.own_ways.specs.declared.traps.TheConstants.{TOO_MANY_LEVELS}
use Rattle.core_form.specs.declared.limits.TheConstants.{FRAME, FRAMES, AREA, MOST_PRINTED}
use Rattle.core_form.specs.CoreSource.{At, mine, next, common, far, Word, constant, load, local, address, arithmetic, negate, wrap, compare, pick, following, read_int, Form, store, store_local, print, Pieces, no_pieces, text_piece, int_piece, bool_piece, words_in, when, block, loop, jump, call, call_here, call_word, copy, Code, nothing, form, Function, CoreProgram}
use Rattle.core_form.specs.CoreSource as core

pub record State : Type 0 where
  -- how many are left
  pub turns : ℕ
  -- how many were counted
  pub forms : ℕ
  -- by its number from 0: first those of the frames, the frame of main first, and then the common words
  pub words : ℕ → ℤ
  -- of the function that runs
  pub locals : List ℤ
  -- what was not read yet
  pub input : List ℤ
  -- what was written
  pub log : List ℕ

abbrev pub Act : Type 0 → Type 0
Act A = Step State A

-- ---- what changes

abbrev pub with_word : ℕ → ℤ → State → State
with_word a z s = record s { words = λ b. if b == a then z else s.words b }

abbrev pub with_locals : List ℤ → State → State
with_locals zs s = record s { locals = zs }

-- word by word, the first first
abbrev pub copied : ℕ → (from to : ℕ) → (ℕ → ℤ) → ℕ → ℤ
copied zero from to words = λ b. if b == to then words from else words b
copied (suc k) from to words = copied k (suc from) (suc to) (λ b. if b == to then words from else words b)

-- counts so many forms
abbrev pub ticks : ℕ → Act (Unit {0})
ticks k = change (λ s. record s { forms = s.forms + k })

abbrev pub tick : Act (Unit {0})
tick = ticks 1

abbrev pub written : List ℕ → Act (Unit {0})
written bytes = change (λ s. record s { log = s.log ++ bytes })

abbrev pub turn_or_stop : ℕ → Act (Unit {0})
turn_or_stop zero = stop
turn_or_stop (suc n) = change (λ s. record s { turns = n })

abbrev pub take_turn : Act (Unit {0})
take_turn = λ s. turn_or_stop s.turns s

-- the next number of the input, or 0 where there is none
abbrev pub taken : List ℤ → Act ℤ
taken [] = pure (pos 0)
taken (z ∷ zs) = change (λ s. record s { input = zs }) >> pure z

-- ---- places

abbrev pub tested : {A : Type 0} → Bool → A → Act A
tested holds a = ways.pick holds (pure a) stray

abbrev pub inside : ℕ → Act ℕ
inside a = tested (nat_lt a AREA) a

-- so many words after an address, which is the number of a word's first byte
abbrev pub after_address : ℤ → ℕ → Act ℕ
after_address (pos n) k = ways.pick (n % 8 == 0) (inside (n / 8 + k)) stray
after_address (negsuc n) k = stray

-- the number of the word that stands there, from a frame. Each address that is followed counts.
abbrev pub place : ℕ → At → Act ℕ
place me (mine o) = inside (FRAME * me + o)
place me (next o) = inside (FRAME * me + (FRAME + o))
place me (common o) = inside (FRAMES + o)
place me (far p k) = tick >> place me p >>= λ a. look (λ s. s.words a) >>= λ z. after_address z k

-- so many words after a place there is a word too
abbrev pub ends_inside : ℕ → ℕ → Act (Unit {0})
ends_inside a more = tested (nat_lt (a + more) AREA) tt

-- ---- numbers

abbrev pub is_zero : ℤ → Bool
is_zero (pos zero) = true
is_zero (pos (suc n)) = false
is_zero (negsuc n) = false

abbrev pub truth : Bool → ℤ
truth true = pos 1
truth false = pos 0

-- the number of a function
abbrev pub numbered : ℤ → Act ℕ
numbered (pos f) = pure f
numbered (negsuc n) = stray

-- of two operands
abbrev pub combined : Arith → (at : ℕ) → ℤ → ℤ → Act ℤ
combined Add at x y = computed Add at x y
combined Sub at x y = computed Sub at x y
combined Mul at x y = computed Mul at x y
combined Div at x y = computed Div at x y
combined Rem at x y = computed Rem at x y
combined Neg at x y = stray

-- ---- how control goes on after a form

-- to the next one, or out of so many blocks and loops
pub data Flow : Type 0 where
  on : Flow
  out : ℕ → Flow

abbrev pub then_on : {A : Type 0} → Flow → Act A → (ℕ → Act A) → Act A
then_on on more left = more
then_on (out k) more left = left k

abbrev pub leave : ℕ → Act Flow
leave k = pure (out k)

-- after a block
abbrev pub caught : Flow → Flow
caught on = on
caught (out zero) = on
caught (out (suc k)) = out k

-- a loop goes on where its forms end, or jump to it
abbrev pub again : Flow → Act Flow → Act Flow
again on more = more
again (out zero) more = more
again (out (suc k)) more = pure (out k)

-- A loop, unfolded so many times. Each turn counts a form.
abbrev pub turning : ℕ → Act Flow → Act Flow
turning zero body = stop
turning (suc depth) body = tick >> take_turn >> body >>= λ f. again f (turning depth body)

-- ---- what is written

-- the bytes of a text, which is there
abbrev pub text_of : List ℕ → (from size : ℕ) → Act (List ℕ)
text_of texts from size = tested (not (nat_lt (length texts) (from + size))) (take size (drop from texts))

abbrev pub spelled_truth : ℤ → List ℕ
spelled_truth z = if is_zero z then codes "false" else codes "true"

-- the pieces, with what their words came to. Each counts.
abbrev pub say : (texts : List ℕ) → Pieces → List ℤ → Act (Unit {0})
say texts no_pieces zs = pure tt
say texts (text_piece from size ps) zs = tick >> text_of texts from size >>= written >> say texts ps zs
say texts (int_piece w ps) [] = stray
say texts (int_piece w ps) (z ∷ zs) = tick >> written (signed_decimal z) >> say texts ps zs
say texts (bool_piece w ps) [] = stray
say texts (bool_piece w ps) (z ∷ zs) = tick >> written (spelled_truth z) >> say texts ps zs

-- ---- words and forms

-- the call of a function, with a turn or without one, and the number of its frame
abbrev pub Enter : Type 0
Enter = (pays : Bool) (f frame : ℕ) → Act (Unit {0})

-- by the texts, the calls, the number of the frame that runs, and how often a loop is unfolded
module _ (texts : List ℕ) (enter : Enter) (me depth : ℕ) where
  abbrev mutual
    -- each word counts
    pub word : Word → Act ℤ
    word (constant z) = tick >> tested (is_int z) z
    word (load p) = tick >> place me p >>= λ a. look (λ s. s.words a)
    word (local x) = tick >> look (λ s. slice_get s.locals x) >>= or_stray
    word (address p) = tick >> place me p >>= λ a. pure (pos (8 * a))
    word (arithmetic op at a b) = tick >> word a >>= λ x. word b >>= λ y. combined op at x y
    word (negate at a) = tick >> word a >>= λ x. computed Neg at (pos 0) x
    word (wrap op a b) = tick >> word a >>= λ x. word b >>= λ y. wrapped op x y
    word (compare op a b) = tick >> word a >>= λ x. word b >>= λ y. pure (truth (compare_ints op x y))
    word (pick c a b) = tick >> word c >>= λ z. ways.pick (is_zero z) (word b) (word a)
    word (following c w) = tick >> acts c >>= λ f. then_on f (word w) (λ k. stray)
    word read_int = tick >> look (λ s. s.input) >>= taken

    pub values : Pieces → Act (List ℤ)
    values no_pieces = pure []
    values (text_piece from size ps) = values ps
    values (int_piece w ps) = word w >>= λ z. values ps >>= λ zs. pure (z ∷ zs)
    values (bool_piece w ps) = word w >>= λ z. values ps >>= λ zs. pure (z ∷ zs)

    pub act : Form → Act Flow
    act (store p w) = place me p >>= λ a. word w >>= λ z. change (with_word a z) >> pure on
    act (store_local x w) =
        word w >>= λ z. look (λ s. slice_get s.locals x) >>= or_stray >>= λ old.
        change (λ s. with_locals (slice_set s.locals x z) s) >> pure on
    act (print ps) =
        ways.pick (nat_lt MOST_PRINTED (words_in ps)) stray (values ps) >>= λ zs.
        ticks (length zs) >> say texts ps zs >> pure on
    act (when w a b) = word w >>= λ z. ways.pick (is_zero z) (acts b) (acts a)
    act (block a) = acts a >>= λ f. pure (caught f)
    act (loop a) = turning depth (acts a)
    act (jump k) = pure (out k)
    act (call f) = enter true f (suc me) >> pure on
    act (call_here f) = enter false f me >> pure on
    act (call_word w) = word w >>= λ z. numbered z >>= λ f. enter true f (suc me) >> pure on
    -- each word counts
    act (copy more p q) =
        place me p >>= λ a. place me q >>= λ b. ends_inside a more >> ends_inside b more
        >> change (λ s. record s { words = copied more a b s.words; forms = s.forms + more }) >> pure on
    act (core.trap code at) = trap code at

    -- each form counts
    pub acts : Code → Act Flow
    acts nothing = pure on
    acts (form f fs) = tick >> act f >>= λ g. then_on g (acts fs) leave

-- ---- calls and runs

-- a function that ends, and no jump out of it
abbrev pub fallen : Flow → Act (Unit {0})
fallen on = pure tt
fallen (out k) = stray

-- a function has its own local words, and those of the caller stand again after it
abbrev pub bodied : (count : ℕ) → Act Flow → Act (Unit {0})
bodied count body =
    look (λ s. s.locals) >>= λ kept. change (with_locals (replicate count (pos 0)))
    >> body >>= fallen >> change (with_locals kept)

abbrev pub turn_if : Bool → Act (Unit {0})
turn_if true = take_turn
turn_if false = pure tt

-- A call takes its turn, and then one of the levels that are left.
abbrev pub enter : CoreProgram → (depth levels : ℕ) → Enter
enter c depth zero pays f me =
    or_stray (slice_get c.functions f) >>= λ g. turn_if pays >> trap TOO_MANY_LEVELS 0
enter c depth (suc levels) pays f me =
    or_stray (slice_get c.functions f) >>= λ g. turn_if pays
    >> bodied g.locals (acts c.texts (enter c depth levels) me depth g.code)

abbrev pub start : List ℤ → ℕ → State
start input turns =
    record { turns = turns; forms = 0; words = λ a. pos 0; locals = []; input = input; log = [] }

-- The run from the call of main, which counts a form. Loops are unfolded as often as there are turns, which is enough.
unfoldable pub core_run : CoreProgram → List ℤ → ℕ → Way State (Unit {0})
core_run c input turns = (tick >> enter c turns MOST_LEVELS true c.main 0) (start input turns)
