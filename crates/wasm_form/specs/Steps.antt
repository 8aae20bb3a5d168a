-- One step of the machine, on lists of instructions with labels and frames, and its runs (Core 1.0, 4.4).
use Rattle.std.specs.Prelude.{ℕ, zero, suc, ℤ, ◌+◌, ◌-◌, ◌*◌, ◌%◌, ◌^◌, Bool, true, false, nat_lt, ◌==◌, if◌then◌else◌, slice_get, slice_set, get_or, List, [], ◌∷◌, ◌++◌, length, take, drop, reverse, map, replicate, codes, bytes_eq, Option, Some, None, Result, Ok, Err}
use Rattle.std.specs.Int.{Width, w8, w16, w32, w64, byte_len, from_le_bytes, to_le_bytes, cast_signed, cast_unsigned}
use mir.Val.{bits}
use Rattle.std.specs.Fmt.{signed_decimal}
use Rattle.wasm_form.specs.declared.instr.Instr.{Instr, out-Instr}
use Rattle.wasm_form.specs.declared.instr.Instr.TheOpen.{Instr-F}
use Rattle.wasm_form.specs.declared.instr.Instr.TheOpen as F
use Rattle.wasm_form.specs.declared.limits.TheConstants.{PAGE, MOST_FRAMES, MOST_OPERANDS}
use Rattle.wasm_form.specs.declared.module.Module.{Module}
use Rattle.wasm_form.specs.declared.module.HostCall.{HostCall}
use Rattle.wasm_form.specs.declared.module.HostCall.TheVariants.{WriteInt, WriteBool, WriteText, WriteByte, ReadInt, Trap}
use Rattle.wasm_form.specs.declared.module.Import.{Import}
use Rattle.wasm_form.specs.declared.module.Export.{Export}
use Rattle.wasm_form.specs.declared.module.ExportKind.{ExportKind}
use Rattle.wasm_form.specs.declared.module.ExportKind.TheVariants as kind
use Rattle.wasm_form.specs.declared.module.ElementSegment.{ElementSegment}
use Rattle.wasm_form.specs.declared.module.DataSegment.{DataSegment}
use Rattle.wasm_form.specs.declared.module.CodeEntry.{CodeEntry}
use Rattle.wasm_form.specs.declared.module.LocalGroup.{LocalGroup}
use Rattle.wasm_form.specs.declared.types.Limits.{Limits}
use Rattle.wasm_form.specs.declared.types.FunctionType.{FunctionType}
use Rattle.wasm_form.specs.declared.types.Value.{Value}
use Rattle.wasm_form.specs.declared.types.Value.TheVariants.{I32, I64}
use Rattle.wasm_form.specs.declared.types.ValueType.{ValueType}
use Rattle.wasm_form.specs.declared.types.ValueType.TheVariants as type
pub use Rattle.wasm_form.specs.declared.traps.TheConstants.{TOO_MANY_FRAMES, UNREACHABLE, PAST_MEMORY, PAST_TABLE, EMPTY_ELEMENT, OTHER_TYPE, TOO_MANY_OPERANDS, STUCK}
use Rattle.wasm_form.specs.Integers.{iadd, isub, imul, idiv_s, idiv_u, irem_s, irem_u, iand, ior, ixor, ishl, ishr_s, ishr_u, irotl, irotr, iclz, ictz, ipopcnt, ieqz, ieq, ine, ilt_s, ilt_u, igt_s, igt_u, ile_s, ile_u, ige_s, ige_u, wrap, extend_s}

-- ---- where the machine is

-- What stands round the instructions: a block, a loop or an if, or the frame of a function.
-- Each has the values below it and the instructions after it. A label has the instructions that a branch
-- goes to, and a frame the locals of its caller. The type is that of what a branch hands on.
pub data Layer : Type 0 where
  Label : (below : List Value) (result : Option ValueType) (target after : List Instr) → Layer
  Frame : (below : List Value) (result : Option ValueType) (locals : List Value) (after : List Instr) → Layer

-- The values are those made since the innermost layer was entered, the topmost first.
pub record Config : Type 0 where
  pub code : List Instr
  pub values : List Value
  pub layers : List Layer
  pub locals : List Value
  pub globals : List Value
  -- of functions, by their numbers; an empty element is None
  pub table : List (Option ℕ)
  pub memory : List ℕ
  pub input : List ℤ

-- What one step comes to: it goes on, or hands bytes to the sink and goes on, it ends, it traps with a code and
-- an offset, or it is stuck.
pub data Next : Type 0 where
  Goes : Config → Next
  Writes : List ℕ → Config → Next
  Ends : Next
  Traps : (code at : ℕ) → Next
  Stuck : Next

-- ---- parts of a configuration

abbrev pub with_code : List Instr → Config → Config
with_code is c = record c { code = is }

abbrev pub with_values : List Value → Config → Config
with_values vs c = record c { values = vs }

abbrev pub with_locals : List Value → Config → Config
with_locals vs c = record c { locals = vs }

abbrev pub with_globals : List Value → Config → Config
with_globals vs c = record c { globals = vs }

abbrev pub with_memory : List ℕ → Config → Config
with_memory memory c = record c { memory = memory }

abbrev pub with_input : List ℤ → Config → Config
with_input input c = record c { input = input }

-- the values of all layers together
abbrev pub below_all : List Layer → ℕ
below_all [] = 0
below_all (Label below result target after ∷ ls) = length below + below_all ls
below_all (Frame below result locals after ∷ ls) = length below + below_all ls

abbrev pub operands : Config → ℕ
operands c = length c.values + below_all c.layers

abbrev pub frames : List Layer → ℕ
frames [] = 0
frames (Label below result target after ∷ ls) = frames ls
frames (Frame below result locals after ∷ ls) = frames ls + 1

-- ---- values

abbrev pub type_of_value : Value → ValueType
type_of_value (I32 n) = type.I32
type_of_value (I64 n) = type.I64

abbrev pub same_type : ValueType → ValueType → Bool
same_type type.I32 type.I32 = true
same_type type.I32 type.I64 = false
same_type type.I64 type.I32 = false
same_type type.I64 type.I64 = true

abbrev pub has_type : Value → ValueType → Bool
has_type (I32 n) type.I32 = true
has_type (I32 n) type.I64 = false
has_type (I64 n) type.I32 = false
has_type (I64 n) type.I64 = true

abbrev pub zero_of : ValueType → Value
zero_of type.I32 = I32 0
zero_of type.I64 = I64 0

abbrev pub truth : Bool → Value
truth holds = if holds then I32 1 else I32 0

-- these values are of these types, one each
abbrev pub typed : List Value → List ValueType → Bool
typed [] [] = true
typed [] (t ∷ ts) = false
typed (v ∷ vs) [] = false
typed (v ∷ vs) (t ∷ ts) = if has_type v t then typed vs ts else false

-- ---- taking operands

infixl 10 ◌>>=◌ ◌>>-◌ ◌>>!◌
abbrev pub ◌>>=◌ : {A B : Type 0} → Option A → (A → Option B) → Option B
(Some x) >>= f = f x
None >>= f = None

-- goes on with what was taken, or is stuck
abbrev pub ◌>>-◌ : {A : Type 0} → Option A → (A → Next) → Next
(Some x) >>- f = f x
None >>- f = Stuck

-- goes on with what was read, or traps for want of memory there
abbrev pub ◌>>!◌ : {A : Type 0} → Option A → (A → Next) → Next
(Some x) >>! f = f x
None >>! f = Traps PAST_MEMORY 0

abbrev pub pop_in : List Value → Config → Option (Value × Config)
pop_in [] c = None
pop_in (v ∷ vs) c = Some (v, with_values vs c)

unfoldable pub pop : Config → Option (Value × Config)
pop c = pop_in c.values c

abbrev pub word_of : Value × Config → Option (ℕ × Config)
word_of (I32 n, c) = Some (n, c)
word_of (I64 n, c) = None

unfoldable pub pop32 : Config → Option (ℕ × Config)
pop32 c = pop c >>= word_of

abbrev pub long_of : Value × Config → Option (ℕ × Config)
long_of (I32 n, c) = None
long_of (I64 n, c) = Some (n, c)

unfoldable pub pop64 : Config → Option (ℕ × Config)
pop64 c = pop c >>= long_of

-- two numbers, of which the second is the topmost
unfoldable pub two32 : Config → Option ((ℕ × ℕ) × Config)
two32 c = do
  second ← pop32 c
  first ← pop32 second.1
  Some ((first.0, second.0), first.1)

unfoldable pub two64 : Config → Option ((ℕ × ℕ) × Config)
two64 c = do
  second ← pop64 c
  first ← pop64 second.1
  Some ((first.0, second.0), first.1)

-- ---- giving a value

-- a push, which is one operand more
unfoldable pub pushed : Value → Config → Next
pushed v c = if nat_lt (operands c) MOST_OPERANDS then Goes (with_values (v ∷ c.values) c) else Traps TOO_MANY_OPERANDS 0

-- the answer of what took an operand or more
unfoldable pub given : Value → Config → Next
given v c = Goes (with_values (v ∷ c.values) c)

-- a quotient, or the trap of its division
abbrev pub given_or_trap : (ℕ → Value) → Result ℕ ℕ → Config → Next
given_or_trap as_value (Ok n) c = given (as_value n) c
given_or_trap as_value (Err code) c = Traps code 0

-- ---- variables

unfoldable pub local_get : ℕ → Config → Next
local_get k c = slice_get c.locals k >>- λ v. pushed v c

-- a local of that number and type is set, of which the value was taken
abbrev pub set_local : ℕ → Value → Config → Next
set_local k v c = slice_get c.locals k >>- λ old. if has_type v (type_of_value old) then Goes (with_locals (slice_set c.locals k v) c) else Stuck

unfoldable pub local_set : ℕ → Config → Next
local_set k c = pop c >>- λ p. set_local k p.0 p.1

abbrev pub first_of : List Value → Option Value
first_of [] = None
first_of (v ∷ vs) = Some v

-- as a set, and the value stays
unfoldable pub local_tee : ℕ → Config → Next
local_tee k c = first_of c.values >>- λ v. set_local k v c

unfoldable pub global_get : ℕ → Config → Next
global_get k c = slice_get c.globals k >>- λ v. pushed v c

-- the type is the declared one, and an immutable global is set too
unfoldable pub global_set : Module → ℕ → Config → Next
global_set m k c = pop c >>- λ p. slice_get m.globals k >>- λ g. if has_type p.0 g.value_type then Goes (with_globals (slice_set p.1.globals k p.0) p.1) else Stuck

-- the first of two values of one type where the number is not 0, else the second
abbrev pub selected : ℕ → Value → Value → Config → Next
selected n first second c = if same_type (type_of_value first) (type_of_value second) then given (if n == 0 then second else first) c else Stuck

unfoldable pub select : Config → Next
select c = pop32 c >>- λ n. pop n.1 >>- λ second. pop second.1 >>- λ first. selected n.0 first.0 second.0 first.1

-- ---- blocks and branches

-- enters a block, a loop or a side of an if: target is where a branch to it goes on
abbrev pub entered : Option ValueType → List Instr → List Instr → Config → Config
entered result target body c = record c { code = body; values = []; layers = Label c.values result target c.code ∷ c.layers }

-- the values that a branch hands on
abbrev pub carried : Option ValueType → List Value → Option (List Value)
carried None vs = Some []
carried (Some t) [] = None
carried (Some t) (v ∷ vs) = if has_type v t then Some (v ∷ []) else None

-- a function's end asks for exactly these values
abbrev pub exactly : Option ValueType → List Value → Bool
exactly None [] = true
exactly None (v ∷ vs) = false
exactly (Some t) [] = false
exactly (Some t) (v ∷ []) = has_type v t
exactly (Some t) (v ∷ w ∷ vs) = false

-- where a branch past so many labels goes, or with None a return: the layer, and those round it
abbrev pub target_of : Option ℕ → List Layer → Option (Layer × List Layer)
target_of w [] = None
target_of None (Label below result target after ∷ ls) = target_of None ls
target_of None (Frame below result locals after ∷ ls) = Some (Frame below result locals after, ls)
target_of (Some zero) (l ∷ ls) = Some (l, ls)
target_of (Some (suc k)) (Label below result target after ∷ ls) = target_of (Some k) ls
target_of (Some (suc k)) (Frame below result locals after ∷ ls) = None

-- the frame of main was left, or the caller goes on
abbrev pub returned : List Value → List Value → List Instr → List Layer → Config → Next
returned vs locals after [] c = Ends
returned vs locals after (l ∷ ls) c = Goes (record c { code = after; values = vs; layers = l ∷ ls; locals = locals })

abbrev pub jump_with : List Value → Layer × List Layer → Config → Next
jump_with vs (Label below result target after, ls) c = Goes (record c { code = target; values = vs ++ below; layers = ls })
jump_with vs (Frame below result locals after, ls) c = returned (vs ++ below) locals after ls c

abbrev pub result_of : Layer → Option ValueType
result_of (Label below result target after) = result
result_of (Frame below result locals after) = result

abbrev pub jump : Layer × List Layer → Config → Next
jump t c = carried (result_of t.0) c.values >>- λ vs. jump_with vs t c

unfoldable pub branch : Option ℕ → Config → Next
branch w c = target_of w c.layers >>- λ t. jump t c

-- the end of a block, a loop, an if or a function
abbrev pub leave_in : List Layer → Config → Next
leave_in [] c = Stuck
leave_in (Label below result target after ∷ ls) c = Goes (record c { code = after; values = c.values ++ below; layers = ls })
leave_in (Frame below result locals after ∷ ls) c = if exactly result c.values then branch None c else Stuck

unfoldable pub leave : Config → Next
leave c = leave_in c.layers c

-- ---- memory, which is little-endian

abbrev pub number_at : Width → List ℕ → ℕ → Option ℕ
number_at w memory at = if nat_lt (length memory) (at + byte_len w) then None else Some (from_le_bytes w (take (byte_len w) (drop at memory)))

abbrev pub with_number : Width → List ℕ → ℕ → ℕ → List ℕ
with_number w memory at n = take at memory ++ to_le_bytes w n ++ drop (at + byte_len w) memory

abbrev pub first_limits : List Limits → Option Limits
first_limits [] = None
first_limits (l ∷ ls) = Some l

-- where an access begins; without a memory there is no place
unfoldable pub address : Module → ℕ → Config → Option (ℕ × Config)
address m offset c = do
  memory ← first_limits m.memories
  base ← pop32 c
  Some (base.0 + offset, base.1)

-- a number of that width is read, and given as a value
abbrev pub load : Width → (ℕ → Value) → Module → ℕ → Config → Next
load w as_value m offset c = address m offset c >>- λ p. number_at w p.1.memory p.0 >>! λ n. given (as_value n) p.1

unfoldable pub stored : Width → ℕ → ℕ → Config → Next
stored w at n c = if nat_lt (length c.memory) (at + byte_len w) then Traps PAST_MEMORY 0 else Goes (with_memory (with_number w c.memory at (n % 2 ^ bits w)) c)

-- the low bits of an i32 or an i64 are written
abbrev pub store32 : Width → Module → ℕ → Config → Next
store32 w m offset c = pop32 c >>- λ v. address m offset v.1 >>- λ p. stored w p.0 v.0 p.1

abbrev pub store64 : Width → Module → ℕ → Config → Next
store64 w m offset c = pop64 c >>- λ v. address m offset v.1 >>- λ p. stored w p.0 v.0 p.1

unfoldable pub memory_size : Module → Config → Next
memory_size m c = first_limits m.memories >>- λ size. pushed (I32 size.min) c

-- a memory never grows: -1 says so
unfoldable pub memory_grow : Module → Config → Next
memory_grow m c = first_limits m.memories >>- λ size. pop32 c >>- λ p. given (I32 (if p.0 == 0 then size.min else 4294967295)) p.1

-- ---- calls

abbrev pub bool_text : ℕ → List ℕ
bool_text n = if n == 0 then codes "false" else codes "true"

abbrev pub written_text : ℕ → ℕ → Config → Next
written_text at size c = if nat_lt (length c.memory) (at + size) then Traps PAST_MEMORY 0 else Writes (take size (drop at c.memory)) c

abbrev pub read_in : List ℤ → Config → Next
read_in [] c = pushed (I64 0) c
read_in (z ∷ zs) c = pushed (I64 (cast_unsigned w64 z)) (with_input zs c)

unfoldable pub host : HostCall → Config → Next
host WriteInt c = pop64 c >>- λ p. Writes (signed_decimal (cast_signed w64 p.0)) p.1
host WriteBool c = pop32 c >>- λ p. Writes (bool_text p.0) p.1
host WriteText c = two32 c >>- λ p. written_text p.0.0 p.0.1 p.1
host WriteByte c = pop32 c >>- λ p. Writes (p.0 % 256 ∷ []) p.1
host ReadInt c = read_in c.input c
host Trap c = two32 c >>- λ p. Traps p.0.0 p.0.1

-- the locals that a function declares
abbrev pub zeros : List LocalGroup → List Value
zeros [] = []
zeros (g ∷ gs) = replicate g.count (zero_of g.value_type) ++ zeros gs

-- a call: the arguments are the topmost values, the first of them lowest
abbrev pub framed : List Value → FunctionType → CodeEntry → Config → Config
framed args t f c = record c { code = f.body; values = []; layers = Frame (drop (length t.parameters) c.values) t.result c.locals c.code ∷ c.layers; locals = args ++ zeros f.locals }

unfoldable pub called : FunctionType → CodeEntry → Config → Next
called t f c =
    if typed (reverse (take (length t.parameters) c.values)) t.parameters
    then (if nat_lt (frames c.layers) MOST_FRAMES then Goes (framed (reverse (take (length t.parameters) c.values)) t f c) else Traps TOO_MANY_FRAMES 0)
    else Stuck

-- the type of a defined function, counted from the first of them
abbrev pub defined_type : Module → ℕ → Option FunctionType
defined_type m k = slice_get m.functions k >>= λ t. slice_get m.types t

unfoldable pub call_defined : Module → ℕ → Config → Next
call_defined m k c = defined_type m k >>- λ t. slice_get m.codes k >>- λ f. called t f c

abbrev pub call_at : Module → Option Import → ℕ → Config → Next
call_at m (Some i) k c = host i.call c
call_at m None k c = call_defined m k c

-- the imports come first
unfoldable pub call : Module → ℕ → Config → Next
call m k c = call_at m (slice_get m.imports k) (k - length m.imports) c

abbrev pub type_at : Module → Option Import → ℕ → Option FunctionType
type_at m (Some i) k = slice_get m.types i.type_index
type_at m None k = defined_type m k

unfoldable pub type_of_function : Module → ℕ → Option FunctionType
type_of_function m k = type_at m (slice_get m.imports k) (k - length m.imports)

abbrev pub same_types : List ValueType → List ValueType → Bool
same_types [] [] = true
same_types [] (t ∷ ts) = false
same_types (s ∷ ss) [] = false
same_types (s ∷ ss) (t ∷ ts) = if same_type s t then same_types ss ts else false

abbrev pub same_result : Option ValueType → Option ValueType → Bool
same_result None None = true
same_result None (Some t) = false
same_result (Some s) None = false
same_result (Some s) (Some t) = same_type s t

abbrev pub same_function_type : FunctionType → FunctionType → Bool
same_function_type s t = if same_types s.parameters t.parameters then same_result s.result t.result else false

-- a call of an element of the table, which is to be of a type
abbrev pub call_element : Module → FunctionType → Option (Option ℕ) → Config → Next
call_element m wanted None c = Traps PAST_TABLE 0
call_element m wanted (Some None) c = Traps EMPTY_ELEMENT 0
call_element m wanted (Some (Some k)) c = type_of_function m k >>- λ own. if same_function_type own wanted then call m k c else Traps OTHER_TYPE 0

unfoldable pub call_indirect : Module → ℕ → Config → Next
call_indirect m t c = first_limits m.tables >>- λ size. slice_get m.types t >>- λ wanted. pop32 c >>- λ p. call_element m wanted (slice_get p.1.table p.0) p.1

-- ---- instructions, by groups: each says what it makes of its own, and None of the others

-- a unary operator, a test, a binary operator, a division and a relation
abbrev pub unary32 : (ℕ → ℕ) → Config → Next
unary32 f c = pop32 c >>- λ p. given (I32 (f p.0)) p.1

abbrev pub unary64 : (ℕ → ℕ) → Config → Next
unary64 f c = pop64 c >>- λ p. given (I64 (f p.0)) p.1

abbrev pub binary32 : (ℕ → ℕ → ℕ) → Config → Next
binary32 f c = two32 c >>- λ p. given (I32 (f p.0.0 p.0.1)) p.1

abbrev pub binary64 : (ℕ → ℕ → ℕ) → Config → Next
binary64 f c = two64 c >>- λ p. given (I64 (f p.0.0 p.0.1)) p.1

abbrev pub division32 : (ℕ → ℕ → Result ℕ ℕ) → Config → Next
division32 f c = two32 c >>- λ p. given_or_trap I32 (f p.0.0 p.0.1) p.1

abbrev pub division64 : (ℕ → ℕ → Result ℕ ℕ) → Config → Next
division64 f c = two64 c >>- λ p. given_or_trap I64 (f p.0.0 p.0.1) p.1

abbrev pub test32 : (ℕ → ℕ → Bool) → Config → Next
test32 f c = two32 c >>- λ p. given (truth (f p.0.0 p.0.1)) p.1

abbrev pub test64 : (ℕ → ℕ → Bool) → Config → Next
test64 f c = two64 c >>- λ p. given (truth (f p.0.0 p.0.1)) p.1

abbrev pub act_control : Module → Instr-F Instr → List Instr → Config → Option Next
act_control m F.Unreachable here c = Some (Traps UNREACHABLE 0)
act_control m F.Nop here c = Some (Goes c)
act_control m (F.Block r body) here c = Some (Goes (entered r c.code body c))
act_control m (F.Loop r body) here c = Some (Goes (entered None here body c))
act_control m (F.If r first second) here c = Some (pop32 c >>- λ p. Goes (entered r p.1.code (if p.0 == 0 then second else first) p.1))
act_control m (F.Br k) here c = Some (branch (Some k) c)
act_control m (F.BrIf k) here c = Some (pop32 c >>- λ p. if p.0 == 0 then Goes p.1 else branch (Some k) p.1)
act_control m (F.BrTable ks k) here c = Some (pop32 c >>- λ p. branch (Some (get_or ks p.0 k)) p.1)
act_control m F.Return here c = Some (branch None c)
act_control m (F.Call k) here c = Some (call m k c)
act_control m (F.CallIndirect t) here c = Some (call_indirect m t c)
act_control m _ here c = None

abbrev pub act_variable : Module → Instr-F Instr → Config → Option Next
act_variable m F.Drop c = Some (pop c >>- λ p. Goes p.1)
act_variable m F.Select c = Some (select c)
act_variable m (F.LocalGet k) c = Some (local_get k c)
act_variable m (F.LocalSet k) c = Some (local_set k c)
act_variable m (F.LocalTee k) c = Some (local_tee k c)
act_variable m (F.GlobalGet k) c = Some (global_get k c)
act_variable m (F.GlobalSet k) c = Some (global_set m k c)
act_variable m (F.I32Const n) c = Some (pushed (I32 n) c)
act_variable m (F.I64Const n) c = Some (pushed (I64 n) c)
act_variable m _ c = None

abbrev pub act_load : Module → Instr-F Instr → Config → Option Next
act_load m (F.I32Load access) c = Some (load w32 I32 m access.offset c)
act_load m (F.I64Load access) c = Some (load w64 I64 m access.offset c)
act_load m (F.I32Load8S access) c = Some (load w8 (λ n. I32 (extend_s w8 w32 n)) m access.offset c)
act_load m (F.I32Load8U access) c = Some (load w8 I32 m access.offset c)
act_load m (F.I32Load16S access) c = Some (load w16 (λ n. I32 (extend_s w16 w32 n)) m access.offset c)
act_load m (F.I32Load16U access) c = Some (load w16 I32 m access.offset c)
act_load m (F.I64Load8S access) c = Some (load w8 (λ n. I64 (extend_s w8 w64 n)) m access.offset c)
act_load m (F.I64Load8U access) c = Some (load w8 I64 m access.offset c)
act_load m (F.I64Load16S access) c = Some (load w16 (λ n. I64 (extend_s w16 w64 n)) m access.offset c)
act_load m (F.I64Load16U access) c = Some (load w16 I64 m access.offset c)
act_load m (F.I64Load32S access) c = Some (load w32 (λ n. I64 (extend_s w32 w64 n)) m access.offset c)
act_load m (F.I64Load32U access) c = Some (load w32 I64 m access.offset c)
act_load m _ c = None

abbrev pub act_store : Module → Instr-F Instr → Config → Option Next
act_store m (F.I32Store access) c = Some (store32 w32 m access.offset c)
act_store m (F.I64Store access) c = Some (store64 w64 m access.offset c)
act_store m (F.I32Store8 access) c = Some (store32 w8 m access.offset c)
act_store m (F.I32Store16 access) c = Some (store32 w16 m access.offset c)
act_store m (F.I64Store8 access) c = Some (store64 w8 m access.offset c)
act_store m (F.I64Store16 access) c = Some (store64 w16 m access.offset c)
act_store m (F.I64Store32 access) c = Some (store64 w32 m access.offset c)
act_store m F.MemorySize c = Some (memory_size m c)
act_store m F.MemoryGrow c = Some (memory_grow m c)
act_store m _ c = None

abbrev pub act_test32 : Instr-F Instr → Config → Option Next
act_test32 F.I32Eqz c = Some (pop32 c >>- λ p. given (truth (ieqz p.0)) p.1)
act_test32 F.I32Eq c = Some (test32 ieq c)
act_test32 F.I32Ne c = Some (test32 ine c)
act_test32 F.I32LtS c = Some (test32 (ilt_s w32) c)
act_test32 F.I32LtU c = Some (test32 ilt_u c)
act_test32 F.I32GtS c = Some (test32 (igt_s w32) c)
act_test32 F.I32GtU c = Some (test32 igt_u c)
act_test32 F.I32LeS c = Some (test32 (ile_s w32) c)
act_test32 F.I32LeU c = Some (test32 ile_u c)
act_test32 F.I32GeS c = Some (test32 (ige_s w32) c)
act_test32 F.I32GeU c = Some (test32 ige_u c)
act_test32 _ c = None

abbrev pub act_test64 : Instr-F Instr → Config → Option Next
act_test64 F.I64Eqz c = Some (pop64 c >>- λ p. given (truth (ieqz p.0)) p.1)
act_test64 F.I64Eq c = Some (test64 ieq c)
act_test64 F.I64Ne c = Some (test64 ine c)
act_test64 F.I64LtS c = Some (test64 (ilt_s w64) c)
act_test64 F.I64LtU c = Some (test64 ilt_u c)
act_test64 F.I64GtS c = Some (test64 (igt_s w64) c)
act_test64 F.I64GtU c = Some (test64 igt_u c)
act_test64 F.I64LeS c = Some (test64 (ile_s w64) c)
act_test64 F.I64LeU c = Some (test64 ile_u c)
act_test64 F.I64GeS c = Some (test64 (ige_s w64) c)
act_test64 F.I64GeU c = Some (test64 ige_u c)
act_test64 _ c = None

abbrev pub act_arithmetic32 : Instr-F Instr → Config → Option Next
act_arithmetic32 F.I32Clz c = Some (unary32 (iclz w32) c)
act_arithmetic32 F.I32Ctz c = Some (unary32 (ictz w32) c)
act_arithmetic32 F.I32Popcnt c = Some (unary32 ipopcnt c)
act_arithmetic32 F.I32Add c = Some (binary32 (iadd w32) c)
act_arithmetic32 F.I32Sub c = Some (binary32 (isub w32) c)
act_arithmetic32 F.I32Mul c = Some (binary32 (imul w32) c)
act_arithmetic32 F.I32DivS c = Some (division32 (idiv_s w32) c)
act_arithmetic32 F.I32DivU c = Some (division32 idiv_u c)
act_arithmetic32 F.I32RemS c = Some (division32 (irem_s w32) c)
act_arithmetic32 F.I32RemU c = Some (division32 irem_u c)
act_arithmetic32 F.I32And c = Some (binary32 iand c)
act_arithmetic32 F.I32Or c = Some (binary32 ior c)
act_arithmetic32 F.I32Xor c = Some (binary32 ixor c)
act_arithmetic32 F.I32Shl c = Some (binary32 (ishl w32) c)
act_arithmetic32 F.I32ShrS c = Some (binary32 (ishr_s w32) c)
act_arithmetic32 F.I32ShrU c = Some (binary32 (ishr_u w32) c)
act_arithmetic32 F.I32Rotl c = Some (binary32 (irotl w32) c)
act_arithmetic32 F.I32Rotr c = Some (binary32 (irotr w32) c)
act_arithmetic32 F.I32WrapI64 c = Some (pop64 c >>- λ p. given (I32 (wrap p.0)) p.1)
act_arithmetic32 _ c = None

abbrev pub act_arithmetic64 : Instr-F Instr → Config → Option Next
act_arithmetic64 F.I64Clz c = Some (unary64 (iclz w64) c)
act_arithmetic64 F.I64Ctz c = Some (unary64 (ictz w64) c)
act_arithmetic64 F.I64Popcnt c = Some (unary64 ipopcnt c)
act_arithmetic64 F.I64Add c = Some (binary64 (iadd w64) c)
act_arithmetic64 F.I64Sub c = Some (binary64 (isub w64) c)
act_arithmetic64 F.I64Mul c = Some (binary64 (imul w64) c)
act_arithmetic64 F.I64DivS c = Some (division64 (idiv_s w64) c)
act_arithmetic64 F.I64DivU c = Some (division64 idiv_u c)
act_arithmetic64 F.I64RemS c = Some (division64 (irem_s w64) c)
act_arithmetic64 F.I64RemU c = Some (division64 irem_u c)
act_arithmetic64 F.I64And c = Some (binary64 iand c)
act_arithmetic64 F.I64Or c = Some (binary64 ior c)
act_arithmetic64 F.I64Xor c = Some (binary64 ixor c)
act_arithmetic64 F.I64Shl c = Some (binary64 (ishl w64) c)
act_arithmetic64 F.I64ShrS c = Some (binary64 (ishr_s w64) c)
act_arithmetic64 F.I64ShrU c = Some (binary64 (ishr_u w64) c)
act_arithmetic64 F.I64Rotl c = Some (binary64 (irotl w64) c)
act_arithmetic64 F.I64Rotr c = Some (binary64 (irotr w64) c)
act_arithmetic64 F.I64ExtendI32S c = Some (pop32 c >>- λ p. given (I64 (extend_s w32 w64 p.0)) p.1)
act_arithmetic64 F.I64ExtendI32U c = Some (pop32 c >>- λ p. given (I64 p.0) p.1)
act_arithmetic64 _ c = None

-- the first of the groups that has the instruction
infixr 20 ◌or_else◌
abbrev pub ◌or_else◌ : Option Next → Option Next → Option Next
(Some next) or_else other = Some next
None or_else other = other

-- each instruction is in a group, so the last line never counts
abbrev pub settled : Option Next → Next
settled (Some next) = next
settled None = Stuck

-- an instruction, where the instructions from it on are here and those after it are c.code
unfoldable pub act : Module → Instr-F Instr → List Instr → Config → Next
act m i here c =
    settled (act_control m i here c or_else act_variable m i c or_else act_load m i c or_else act_store m i c or_else
    act_test32 i c or_else act_test64 i c or_else act_arithmetic32 i c or_else act_arithmetic64 i c)

abbrev pub at_code : Module → List Instr → Config → Next
at_code m [] c = leave c
at_code m (i ∷ rest) c = act m (out-Instr i) (i ∷ rest) (with_code rest c)

-- one step
unfoldable pub step : Module → Config → Next
step m c = at_code m c.code c

-- ---- runs

pub data Outcome : Type 0 where
  Ended : (steps : ℕ) → Outcome
  Trapped : (code at : ℕ) → Outcome
  Running : Outcome

abbrev pub written_first : List ℕ → List ℕ × Outcome → List ℕ × Outcome
written_first text r = (text ++ r.0, r.1)

-- what follows a step, where so many steps were made before it
abbrev pub goes_on : (ℕ → Config → List ℕ × Outcome) → ℕ → Next → List ℕ × Outcome
goes_on more done (Goes c) = more (done + 1) c
goes_on more done (Writes text c) = written_first text (more (done + 1) c)
goes_on more done Ends = ([], Ended (done + 1))
goes_on more done (Traps code at) = ([], Trapped code at)
goes_on more done Stuck = ([], Trapped STUCK 0)

-- the output and the outcome of at most so many steps
abbrev pub run : Module → ℕ → ℕ → Config → List ℕ × Outcome
run m zero done c = ([], Running)
run m (suc left) done c = goes_on (run m left) done (step m c)

-- ---- the start

abbrev pub is_function : ExportKind → Bool
is_function kind.Function = true
is_function kind.Table = false
is_function kind.Memory = false
is_function kind.Global = false

-- a function that is exported as main
abbrev pub is_main : Export → Bool
is_main e = if is_function e.kind then bytes_eq e.name (codes "main") else false

abbrev pub main_in : List Export → Option ℕ
main_in [] = None
main_in (e ∷ es) = if is_main e then Some e.index else main_in es

-- a piece put into a list in place of what is there
abbrev pub laid : {A : Type 0} → ℕ → List A → List A → List A
laid at piece xs = take at xs ++ piece ++ drop (at + length piece) xs

abbrev pub with_elements : List ElementSegment → List (Option ℕ) → List (Option ℕ)
with_elements [] table = table
with_elements (s ∷ ss) table = with_elements ss (laid s.offset (map Some s.functions) table)

abbrev pub with_segments : List DataSegment → List ℕ → List ℕ
with_segments [] memory = memory
with_segments (s ∷ ss) memory = with_segments ss (laid s.offset s.bytes memory)

abbrev pub least : List Limits → ℕ
least [] = 0
least (l ∷ ls) = l.min

abbrev pub table_of : Module → List (Option ℕ)
table_of m = with_elements m.elements (replicate (least m.tables) None)

abbrev pub memory_of : Module → List ℕ
memory_of m = with_segments m.segments (replicate (least m.memories * PAGE) 0)

-- before the first step: in the frame of main, with all locals 0 and the segments stored
unfoldable pub started : Module → CodeEntry → List ℤ → Config
started m main input = record {
  code = main.body;
  values = [];
  layers = Frame [] None [] [] ∷ [];
  locals = zeros main.locals;
  globals = map (λ g. g.initial) m.globals;
  table = table_of m;
  memory = memory_of m;
  input = input;
}

-- the code of main, which is a defined function
abbrev pub main_code : Module → Option CodeEntry
main_code m = main_in m.exports >>= λ k. if nat_lt k (length m.imports) then None else slice_get m.codes (k - length m.imports)

abbrev pub run_from : Module → List ℤ → ℕ → Option CodeEntry → List ℕ × Outcome
run_from m input n None = ([], Running)
run_from m input n (Some main) = run m n 0 (started m main input)

-- the output and the outcome of at most n steps from the export main
unfoldable pub machine_run : Module → List ℤ → ℕ → List ℕ × Outcome
machine_run m input n = run_from m input n (main_code m)
