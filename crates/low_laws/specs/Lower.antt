-- The module that a core becomes. The code of a word leaves it on the operand stack; that of a form leaves nothing.
use Rattle.std.specs.Prelude.{ℕ, zero, suc, ◌+◌, ◌*◌, ℤ, List, [], ◌∷◌, ◌++◌, length, map, replicate, codes, Some, None, nat_lt, if◌then◌else◌}
use Rattle.std.specs.Int.{w64, cast_unsigned}
use Rattle.own_tree.specs.declared.arithmetic.Arith.{Arith}
use Rattle.own_tree.specs.declared.arithmetic.Arith.TheVariants.{Neg, Add, Sub, Mul, Div, Rem}
use Rattle.own_tree.specs.declared.typed.Comparison.{Comparison}
use Rattle.own_tree.specs.declared.typed.Comparison.TheVariants as comparison
use Rattle.wasm_form.specs.declared.instr.Instr.{Instr}
use Rattle.wasm_form.specs.declared.instr.Instr.TheVariants as i
use Rattle.wasm_form.specs.declared.instr.MemArg.{MemArg}
use Rattle.wasm_form.specs.declared.module.Module.{Module}
use Rattle.wasm_form.specs.declared.module.CodeEntry.{CodeEntry}
use Rattle.wasm_form.specs.declared.module.Import.{Import}
use Rattle.wasm_form.specs.declared.module.LocalGroup.{LocalGroup}
use Rattle.wasm_form.specs.declared.types.FunctionType.{FunctionType}
use Rattle.wasm_form.specs.declared.module.HostCall.TheVariants as host
use Rattle.wasm_form.specs.declared.module.ExportKind.TheVariants as kind
use Rattle.wasm_form.specs.declared.types.ValueType.TheVariants as type
use Rattle.low_arith.specs.Code.{checked_code}
use Rattle.core_form.specs.CoreSource.{At, mine, next, common, far, Word, constant, load, local, address, arithmetic, negate, compare, pick, following, read_int, Form, store, store_local, print, Pieces, no_pieces, text_piece, int_piece, bool_piece, words_in, when, block, loop, jump, call, call_word, copy, trap, Code, nothing, form, Function, CoreProgram, wrap, call_here}
use Rattle.low_arith.specs.declared.places.TheConstants.{TRAP}
use Rattle.low_laws.specs.declared.places.TheConstants.{FROM, TO, LEFT, MOST_PLAIN_WORDS, KEPT, LOCALS, WRITE_INT, WRITE_BOOL, WRITE_TEXT, READ_INT, OWN, FUNCTION, MAIN, PAGES}
use Rattle.core_form.specs.declared.limits.TheConstants.{FRAME, FRAMES, AREA, MOST_PRINTED}

abbrev pub bits : ℤ → ℕ
bits z = cast_unsigned w64 z

-- ---- places

-- an access so many words after an address
abbrev pub access : ℕ → MemArg
access k = record { align = 3; offset = 8 * k }

-- how many words after the byte from which a place is counted it lies
abbrev pub displacement : At → ℕ
displacement (mine o) = o
displacement (next o) = FRAME + o
displacement (common o) = FRAMES + o
displacement (far p k) = k

-- that byte; local 0 has the first byte of the frame
abbrev pub place_code : At → List Instr
place_code (mine o) = i.LocalGet 0 ∷ []
place_code (next o) = i.LocalGet 0 ∷ []
place_code (common o) = i.I32Const 0 ∷ []
place_code (far p k) = place_code p ++ i.I64Load (access (displacement p)) ∷ i.I32WrapI64 ∷ []

-- the first byte of a place
abbrev pub byte_code : At → List Instr
byte_code p = place_code p ++ i.I32Const (8 * displacement p) ∷ i.I32Add ∷ []

-- a word goes from the one byte to the other, both are raised, and so it goes on while the count is not 0
abbrev pub copy_body : List Instr
copy_body =
    i.LocalGet TO ∷ i.LocalGet FROM ∷ i.I64Load (access 0) ∷ i.I64Store (access 0) ∷
    i.LocalGet FROM ∷ i.I32Const 8 ∷ i.I32Add ∷ i.LocalSet FROM ∷
    i.LocalGet TO ∷ i.I32Const 8 ∷ i.I32Add ∷ i.LocalSet TO ∷
    i.LocalGet LEFT ∷ i.I32Const 1 ∷ i.I32Sub ∷ i.LocalTee LEFT ∷ i.BrIf 0 ∷ []

-- so many words go one after another, each from the one byte to the other, so many words after them
abbrev pub moves_code : (count from to : ℕ) → List Instr
moves_code zero from to = []
moves_code (suc count) from to =
    i.LocalGet TO ∷ i.LocalGet FROM ∷ i.I64Load (access from) ∷ i.I64Store (access to) ∷ moves_code count (suc from) (suc to)

-- one word and so many more, without a loop
abbrev pub short_copy : (more : ℕ) (from to : At) → List Instr
short_copy more p q =
    place_code p ++ place_code q
    ++ i.LocalSet TO ∷ i.LocalSet FROM ∷ moves_code (suc more) (displacement p) (displacement q)

-- and by a loop
abbrev pub long_copy : (more : ℕ) (from to : At) → List Instr
long_copy more p q =
    byte_code p ++ byte_code q
    ++ i.LocalSet TO ∷ i.LocalSet FROM ∷ i.I32Const (suc more) ∷ i.LocalSet LEFT ∷ i.Loop None copy_body ∷ []

abbrev pub copy_code : (more : ℕ) (from to : At) → List Instr
copy_code more p q = if nat_lt more MOST_PLAIN_WORDS then short_copy more p q else long_copy more p q

-- ---- labels

-- What stands round code, the innermost first. A block or a loop is a label of the core and of the machine, an if is
-- one of the machine alone.
pub data Round : Type 0 where
  bare : Round
  in_block : Round → Round
  in_if : Round → Round

-- the machine's label of a label of the core
abbrev pub label : Round → ℕ → ℕ
label bare k = k
label (in_block round) zero = 0
label (in_block round) (suc k) = suc (label round k)
label (in_if round) k = suc (label round k)

-- ---- words and forms

abbrev pub compare_code : Comparison → Instr
compare_code comparison.Equal = i.I64Eq
compare_code comparison.Unequal = i.I64Ne
compare_code comparison.Less = i.I64LtS
compare_code comparison.LessEqual = i.I64LeS
compare_code comparison.Greater = i.I64GtS
compare_code comparison.GreaterEqual = i.I64GeS

-- the others stray, and are never reached
abbrev pub wrap_code : Arith → Instr
wrap_code Add = i.I64Add
wrap_code Sub = i.I64Sub
wrap_code Mul = i.I64Mul
wrap_code Div = i.Unreachable
wrap_code Rem = i.Unreachable
wrap_code Neg = i.Unreachable

-- so many words go from the stack into locals, the last into the first
abbrev pub sets_code : ℕ → List Instr
sets_code zero = []
sets_code (suc n) = sets_code n ++ i.LocalSet (KEPT + n) ∷ []

-- a piece finds its word where so many come after it
abbrev pub say_code : Pieces → List Instr
say_code no_pieces = []
say_code (text_piece from size ps) = i.I32Const (8 * AREA + from) ∷ i.I32Const size ∷ i.Call WRITE_TEXT ∷ say_code ps
say_code (int_piece w ps) = i.LocalGet (KEPT + words_in ps) ∷ i.Call WRITE_INT ∷ say_code ps
say_code (bool_piece w ps) = i.LocalGet (KEPT + words_in ps) ∷ i.I64Eqz ∷ i.I32Eqz ∷ i.Call WRITE_BOOL ∷ say_code ps

abbrev mutual
  pub word_code : Word → Round → List Instr
  word_code (constant z) round = i.I64Const (bits z) ∷ []
  word_code (load p) round = place_code p ++ i.I64Load (access (displacement p)) ∷ []
  word_code (local x) round = i.LocalGet (LOCALS + x) ∷ []
  word_code (address p) round = place_code p ++ i.I64ExtendI32U ∷ i.I64Const (8 * displacement p) ∷ i.I64Add ∷ []
  word_code (arithmetic op at a b) round = word_code a round ++ word_code b round ++ checked_code op at
  word_code (negate at a) round = word_code a round ++ checked_code Neg at
  word_code (wrap o a b) round = word_code a round ++ word_code b round ++ wrap_code o ∷ []
  word_code (compare o a b) round = word_code a round ++ word_code b round ++ compare_code o ∷ i.I64ExtendI32U ∷ []
  word_code (pick c a b) round =
      word_code c round ++ i.I64Eqz ∷ i.If (Some type.I64) (word_code b (in_if round)) (word_code a (in_if round)) ∷ []
  word_code (following c w) round = forms_code c round ++ word_code w round
  word_code read_int round = i.Call READ_INT ∷ []

  pub pieces_code : Pieces → Round → List Instr
  pieces_code no_pieces round = []
  pieces_code (text_piece from size ps) round = pieces_code ps round
  pieces_code (int_piece w ps) round = word_code w round ++ pieces_code ps round
  pieces_code (bool_piece w ps) round = word_code w round ++ pieces_code ps round

  pub form_code : Form → Round → List Instr
  form_code (store p w) round = place_code p ++ word_code w round ++ i.I64Store (access (displacement p)) ∷ []
  form_code (store_local x w) round = word_code w round ++ i.LocalSet (LOCALS + x) ∷ []
  form_code (print ps) round = pieces_code ps round ++ sets_code (words_in ps) ++ say_code ps
  form_code (when w a b) round =
      word_code w round ++ i.I64Eqz ∷ i.If None (forms_code b (in_if round)) (forms_code a (in_if round)) ∷ []
  form_code (block a) round = i.Block None (forms_code a (in_block round)) ∷ []
  form_code (loop a) round = i.Loop None (forms_code a (in_block round) ++ i.Br 0 ∷ []) ∷ []
  form_code (jump k) round = i.Br (label round k) ∷ []
  form_code (call f) round = i.LocalGet 0 ∷ i.I32Const (8 * FRAME) ∷ i.I32Add ∷ i.Call (OWN + f) ∷ []
  form_code (call_here f) round = i.LocalGet 0 ∷ i.Call (OWN + f) ∷ []
  form_code (call_word w) round =
      i.LocalGet 0 ∷ i.I32Const (8 * FRAME) ∷ i.I32Add
      ∷ (word_code w round ++ i.I32WrapI64 ∷ i.CallIndirect FUNCTION ∷ [])
  form_code (copy more p q) round = copy_code more p q
  form_code (trap code at) round = i.I32Const code ∷ i.I32Const at ∷ i.Call TRAP ∷ []

  pub forms_code : Code → Round → List Instr
  forms_code nothing round = []
  forms_code (form f fs) round = form_code f round ++ forms_code fs round

-- ---- the module

-- the locals after the frame's first byte: those of checked arithmetic, of copies and of prints, and the local words
abbrev pub groups : ℕ → List LocalGroup
groups words =
    record { count = 2; value_type = type.I64 }
    ∷ record { count = 3; value_type = type.I32 }
    ∷ record { count = MOST_PRINTED; value_type = type.I64 }
    ∷ record { count = words; value_type = type.I64 }
    ∷ []

abbrev pub function_entry : Function → CodeEntry
function_entry f = record { locals = groups f.locals; body = forms_code f.code bare }

-- it calls a function in the first frame
abbrev pub main_entry : ℕ → CodeEntry
main_entry k = record { locals = []; body = i.I32Const 0 ∷ i.Call (OWN + k) ∷ [] }

-- so many numbers from one on
abbrev pub numbers_from : (from count : ℕ) → List ℕ
numbers_from from zero = []
numbers_from from (suc count) = from ∷ numbers_from (suc from) count

-- all imports, in the order of `HostCall`
abbrev pub hosts : List Import
hosts =
    record { call = host.WriteInt; type_index = 0 }
    ∷ record { call = host.WriteBool; type_index = 1 }
    ∷ record { call = host.WriteText; type_index = 2 }
    ∷ record { call = host.WriteByte; type_index = 1 }
    ∷ record { call = host.ReadInt; type_index = 3 }
    ∷ record { call = host.Trap; type_index = 2 }
    ∷ []

-- what writes an Int; a function, and what writes a truth; two words and no result; what reads; and main
abbrev pub types : List FunctionType
types =
    record { parameters = type.I64 ∷ []; result = None }
    ∷ record { parameters = type.I32 ∷ []; result = None }
    ∷ record { parameters = type.I32 ∷ type.I32 ∷ []; result = None }
    ∷ record { parameters = []; result = Some type.I64 }
    ∷ record { parameters = []; result = None }
    ∷ []

-- The words of the frames and behind them begin at byte 0, and the texts follow. The table has all functions, by their
-- numbers. Main is the last function.
unfoldable pub lowered : CoreProgram → Module
lowered c = record {
  types = types;
  imports = hosts;
  functions = replicate (length c.functions) FUNCTION ++ MAIN ∷ [];
  tables = record { min = length c.functions; max = None } ∷ [];
  memories = record { min = PAGES; max = None } ∷ [];
  globals = [];
  exports = record { name = codes "main"; kind = kind.Function; index = OWN + length c.functions } ∷ [];
  elements = record { offset = 0; functions = numbers_from OWN (length c.functions) } ∷ [];
  codes = map function_entry c.functions ++ main_entry c.main ∷ [];
  segments = record { offset = 8 * AREA; bytes = c.texts } ∷ [];
}
