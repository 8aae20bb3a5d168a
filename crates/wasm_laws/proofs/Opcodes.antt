-- What a step does where the next instruction is known, for any layers, values and locals.
use Rattle.std.proofs.Common.{◌≡◌, ℕ, suc, ◌+◌, ◌-◌, ◌%◌, ◌^◌, ◌<◌, ◌≤◌, Bool, true, false, not, ◌&&◌, Ok, List, [], ◌∷◌, ◌++◌, Option, Some, None, length, take, drop, refl, ◌∙◌, arith}
use Rattle.std.specs.Prelude.{ℤ, slice_get, slice_set, if◌then◌else◌, ◌==◌}
use Rattle.std.specs.Int.{w64, w32, cast_signed, cast_unsigned}
use Rattle.std.specs.Fmt.{signed_decimal}
use Rattle.std.proofs.lemmas.Bool.{lt-ltb, le-ltb, ne_eqb}
use Rattle.wasm_form.specs.declared.instr.Instr.{Instr}
use Rattle.wasm_form.specs.declared.instr.Instr.TheVariants as i
use Rattle.wasm_form.specs.declared.instr.MemArg.{MemArg}
use Rattle.wasm_form.specs.declared.limits.TheConstants.{MOST_FRAMES, MOST_OPERANDS}
use Rattle.wasm_form.specs.declared.traps.TheConstants.{TOO_MANY_FRAMES}
use Rattle.wasm_form.specs.declared.module.Module.{Module}
use Rattle.wasm_form.specs.declared.module.CodeEntry.{CodeEntry}
use Rattle.wasm_form.specs.declared.types.FunctionType.{FunctionType}
use Rattle.wasm_form.specs.declared.types.Limits.{Limits}
use Rattle.wasm_form.specs.declared.types.Value.{Value}
use Rattle.wasm_form.specs.declared.types.Value.TheVariants.{I32, I64}
use Rattle.wasm_form.specs.declared.types.ValueType.{ValueType}
use Rattle.wasm_form.specs.declared.types.ValueType.TheVariants as type
use Rattle.wasm_form.specs.declared.module.Import.{Import}
use Rattle.wasm_form.specs.declared.module.HostCall.TheVariants as host
use Rattle.wasm_form.specs.Steps.{Config, Layer, Label, Frame, Next, Goes, Writes, Ends, Traps, step, act, pushed, given, local_get, local_set, local_tee, two32, two64, pop32, pop64, pop, below_all, frames, call, called, call_defined, defined_type, leave, branch, truth, target_of, address, stored, number_at, with_number, first_limits, zeros, bool_text, type_of_value, has_type, call_indirect, type_of_function, type_at, same_function_type}
use Rattle.wasm_form.specs.Steps as machine
use Rattle.wasm_laws.specs.Places.{placed, word}
use Rattle.wasm_laws.specs.Stretches.{Does}
use Rattle.wasm_form.specs.Integers.{ieqz, ieq, ine, ilt_s, ile_s, igt_s, ige_s, iadd, isub, imul, idiv_s, irem_s}
use Rattle.wasm_form.proofs.Outs.{out_i64_const, out_i32_const, out_local_get, out_local_set, out_local_tee, out_i32_sub, out_br_if, out_i64_load, out_i64_store, out_i64_eqz, out_i32_eqz, out_i64_eq, out_i64_ne, out_i64_lt_s, out_i64_le_s, out_i64_gt_s, out_i64_ge_s, out_i32_add, out_i64_add, out_i32_wrap_i64, out_i64_extend_i32_u, out_if, out_block, out_loop, out_br, out_call, out_call_indirect, out_i64_sub, out_i64_mul, out_i64_div_s, out_i64_rem_s, out_i32_ne, out_i32_and}

-- one holds and the other does not
abbrev pub unlike : Bool → Bool → Bool
unlike true q = not q
unlike false q = q

module _ {m : Module} {layers : List Layer} {globals : List Value} {table : List (Option ℕ)} {memory : List ℕ} {input : List ℤ} {code : List Instr} {vs locals : List Value} where
  -- ---- constants and locals

  pub puts64 : {n : ℕ} → length vs + below_all layers < MOST_OPERANDS → Does m (placed layers globals table memory input (i.I64Const n ∷ code) vs locals) (Goes (placed layers globals table memory input code (I64 n ∷ vs) locals))
  unfolding step act pushed
  puts64 {n = n} lt = record { by = rw (out_i64_const n, lt-ltb _ _ lt) refl }

  pub puts32 : {n : ℕ} → length vs + below_all layers < MOST_OPERANDS → Does m (placed layers globals table memory input (i.I32Const n ∷ code) vs locals) (Goes (placed layers globals table memory input code (I32 n ∷ vs) locals))
  unfolding step act pushed
  puts32 {n = n} lt = record { by = rw (out_i32_const n, lt-ltb _ _ lt) refl }

  pub gets : (x : ℕ) {v : Value} → slice_get locals x ≡ Some v → length vs + below_all layers < MOST_OPERANDS → Does m (placed layers globals table memory input (i.LocalGet x ∷ code) vs locals) (Goes (placed layers globals table memory input code (v ∷ vs) locals))
  unfolding step act local_get pushed
  gets x e lt = record { by = rw (out_local_get x, e, lt-ltb _ _ lt) refl }

  pub sets : (x : ℕ) {n old : ℕ} → slice_get locals x ≡ Some (I64 old) → Does m (placed layers globals table memory input (i.LocalSet x ∷ code) (I64 n ∷ vs) locals) (Goes (placed layers globals table memory input code vs (slice_set locals x (I64 n))))
  unfolding step act local_set pop
  sets x e = record { by = rw (out_local_set x, e) refl }

  pub sets32 : (x : ℕ) {n old : ℕ} → slice_get locals x ≡ Some (I32 old) → Does m (placed layers globals table memory input (i.LocalSet x ∷ code) (I32 n ∷ vs) locals) (Goes (placed layers globals table memory input code vs (slice_set locals x (I32 n))))
  unfolding step act local_set pop
  sets32 x e = record { by = rw (out_local_set x, e) refl }

  pub tees32 : (x : ℕ) {n old : ℕ} → slice_get locals x ≡ Some (I32 old) → Does m (placed layers globals table memory input (i.LocalTee x ∷ code) (I32 n ∷ vs) locals) (Goes (placed layers globals table memory input code (I32 n ∷ vs) (slice_set locals x (I32 n))))
  unfolding step act local_tee
  tees32 x e = record { by = rw (out_local_tee x, e) refl }

  pub tees : (x : ℕ) {n old : ℕ} → slice_get locals x ≡ Some (I64 old) → Does m (placed layers globals table memory input (i.LocalTee x ∷ code) (I64 n ∷ vs) locals) (Goes (placed layers globals table memory input code (I64 n ∷ vs) (slice_set locals x (I64 n))))
  unfolding step act local_tee
  tees x e = record { by = rw (out_local_tee x, e) refl }

  -- ---- numbers

  pub subtracts32 : {a b : ℕ} → Does m (placed layers globals table memory input (i.I32Sub ∷ code) (I32 b ∷ I32 a ∷ vs) locals) (Goes (placed layers globals table memory input code (I32 (isub w32 a b) ∷ vs) locals))
  unfolding step act two32 pop32 pop given
  subtracts32 = record { by = rw out_i32_sub refl }

  pub tests : {n : ℕ} → Does m (placed layers globals table memory input (i.I64Eqz ∷ code) (I64 n ∷ vs) locals) (Goes (placed layers globals table memory input code (truth (ieqz n) ∷ vs) locals))
  unfolding step act pop64 pop given
  tests = record { by = rw out_i64_eqz refl }

  pub tests32 : {n : ℕ} → Does m (placed layers globals table memory input (i.I32Eqz ∷ code) (I32 n ∷ vs) locals) (Goes (placed layers globals table memory input code (truth (ieqz n) ∷ vs) locals))
  unfolding step act pop32 pop given
  tests32 = record { by = rw out_i32_eqz refl }

  pub wraps : {n : ℕ} → Does m (placed layers globals table memory input (i.I32WrapI64 ∷ code) (I64 n ∷ vs) locals) (Goes (placed layers globals table memory input code (I32 (n % 2 ^ 32) ∷ vs) locals))
  unfolding step act pop64 pop given
  wraps = record { by = rw out_i32_wrap_i64 refl }

  pub extends : {n : ℕ} → Does m (placed layers globals table memory input (i.I64ExtendI32U ∷ code) (I32 n ∷ vs) locals) (Goes (placed layers globals table memory input code (I64 n ∷ vs) locals))
  unfolding step act pop32 pop given
  extends = record { by = rw out_i64_extend_i32_u refl }

  pub adds64 : {a b : ℕ} → Does m (placed layers globals table memory input (i.I64Add ∷ code) (I64 b ∷ I64 a ∷ vs) locals) (Goes (placed layers globals table memory input code (I64 (iadd w64 a b) ∷ vs) locals))
  unfolding step act two64 pop64 pop given
  adds64 = record { by = rw out_i64_add refl }

  pub adds32 : {a b : ℕ} → Does m (placed layers globals table memory input (i.I32Add ∷ code) (I32 b ∷ I32 a ∷ vs) locals) (Goes (placed layers globals table memory input code (I32 (iadd w32 a b) ∷ vs) locals))
  unfolding step act two32 pop32 pop given
  adds32 = record { by = rw out_i32_add refl }

  pub subtracts64 : {a b : ℕ} → Does m (placed layers globals table memory input (i.I64Sub ∷ code) (I64 b ∷ I64 a ∷ vs) locals) (Goes (placed layers globals table memory input code (I64 (isub w64 a b) ∷ vs) locals))
  unfolding step act two64 pop64 pop given
  subtracts64 = record { by = rw out_i64_sub refl }

  pub multiplies64 : {a b : ℕ} → Does m (placed layers globals table memory input (i.I64Mul ∷ code) (I64 b ∷ I64 a ∷ vs) locals) (Goes (placed layers globals table memory input code (I64 (imul w64 a b) ∷ vs) locals))
  unfolding step act two64 pop64 pop given
  multiplies64 = record { by = rw out_i64_mul refl }

  pub equals : {a b : ℕ} → Does m (placed layers globals table memory input (i.I64Eq ∷ code) (I64 b ∷ I64 a ∷ vs) locals) (Goes (placed layers globals table memory input code (truth (ieq a b) ∷ vs) locals))
  unfolding step act two64 pop64 pop given
  equals = record { by = rw out_i64_eq refl }

  pub differs : {a b : ℕ} → Does m (placed layers globals table memory input (i.I64Ne ∷ code) (I64 b ∷ I64 a ∷ vs) locals) (Goes (placed layers globals table memory input code (truth (ine a b) ∷ vs) locals))
  unfolding step act two64 pop64 pop given
  differs = record { by = rw out_i64_ne refl }

  pub is_less : {a b : ℕ} → Does m (placed layers globals table memory input (i.I64LtS ∷ code) (I64 b ∷ I64 a ∷ vs) locals) (Goes (placed layers globals table memory input code (truth (ilt_s w64 a b) ∷ vs) locals))
  unfolding step act two64 pop64 pop given
  is_less = record { by = rw out_i64_lt_s refl }

  pub is_at_most : {a b : ℕ} → Does m (placed layers globals table memory input (i.I64LeS ∷ code) (I64 b ∷ I64 a ∷ vs) locals) (Goes (placed layers globals table memory input code (truth (ile_s w64 a b) ∷ vs) locals))
  unfolding step act two64 pop64 pop given
  is_at_most = record { by = rw out_i64_le_s refl }

  pub is_greater : {a b : ℕ} → Does m (placed layers globals table memory input (i.I64GtS ∷ code) (I64 b ∷ I64 a ∷ vs) locals) (Goes (placed layers globals table memory input code (truth (igt_s w64 a b) ∷ vs) locals))
  unfolding step act two64 pop64 pop given
  is_greater = record { by = rw out_i64_gt_s refl }

  pub is_at_least : {a b : ℕ} → Does m (placed layers globals table memory input (i.I64GeS ∷ code) (I64 b ∷ I64 a ∷ vs) locals) (Goes (placed layers globals table memory input code (truth (ige_s w64 a b) ∷ vs) locals))
  unfolding step act two64 pop64 pop given
  is_at_least = record { by = rw out_i64_ge_s refl }

  pub divides64 : {a b n : ℕ} → idiv_s w64 a b ≡ Ok n → Does m (placed layers globals table memory input (i.I64DivS ∷ code) (I64 b ∷ I64 a ∷ vs) locals) (Goes (placed layers globals table memory input code (I64 n ∷ vs) locals))
  unfolding step act two64 pop64 pop given
  divides64 e = record { by = rw (out_i64_div_s, e) refl }

  pub leaves_rest64 : {a b n : ℕ} → irem_s w64 a b ≡ Ok n → Does m (placed layers globals table memory input (i.I64RemS ∷ code) (I64 b ∷ I64 a ∷ vs) locals) (Goes (placed layers globals table memory input code (I64 n ∷ vs) locals))
  unfolding step act two64 pop64 pop given
  leaves_rest64 e = record { by = rw (out_i64_rem_s, e) refl }

  -- ---- the numbers of tests

  -- a test whose answer is known leaves its number
  pub told : {c : Config} (holds : Bool) {test : Bool} → test ≡ holds → Does m c (Goes (placed layers globals table memory input code (truth test ∷ vs) locals)) → Does m c (Goes (placed layers globals table memory input code (I32 (word holds) ∷ vs) locals))
  told true e h = record { by = h.by ∙ rw e refl }
  told false e h = record { by = h.by ∙ rw e refl }

  pub differ : (p q : Bool) → Does m (placed layers globals table memory input (i.I32Ne ∷ code) (I32 (word q) ∷ I32 (word p) ∷ vs) locals) (Goes (placed layers globals table memory input code (I32 (word (unlike p q)) ∷ vs) locals))
  unfolding step act two32 pop32 pop given
  differ true true = record { by = rw out_i32_ne refl }
  differ true false = record { by = rw out_i32_ne refl }
  differ false true = record { by = rw out_i32_ne refl }
  differ false false = record { by = rw out_i32_ne refl }

  pub both : (p q : Bool) → Does m (placed layers globals table memory input (i.I32And ∷ code) (I32 (word q) ∷ I32 (word p) ∷ vs) locals) (Goes (placed layers globals table memory input code (I32 (word (p && q)) ∷ vs) locals))
  unfolding step act two32 pop32 pop given
  both true true = record { by = rw out_i32_and refl }
  both true false = record { by = rw out_i32_and refl }
  both false true = record { by = rw out_i32_and refl }
  both false false = record { by = rw out_i32_and refl }

  -- ---- memory, of which there is one

  pub loads : (a : MemArg) {p v : ℕ} {size : Limits} {more : List Limits} → m.memories ≡ size ∷ more → number_at w64 memory (p + a.offset) ≡ Some v → Does m (placed layers globals table memory input (i.I64Load a ∷ code) (I32 p ∷ vs) locals) (Goes (placed layers globals table memory input code (I64 v ∷ vs) locals))
  unfolding step act address pop32 pop given
  loads a one e = record { by = rw (out_i64_load a, one, e) refl }

  pub stores : (a : MemArg) {p v : ℕ} {size : Limits} {more : List Limits} → m.memories ≡ size ∷ more → p + a.offset + 8 ≤ length memory → Does m (placed layers globals table memory input (i.I64Store a ∷ code) (I64 v ∷ I32 p ∷ vs) locals) (Goes (placed layers globals table (with_number w64 memory (p + a.offset) (v % 2 ^ 64)) input code vs locals))
  unfolding step act address stored pop64 pop32 pop
  stores a {p = p} one le = record { by = rw (out_i64_store a, one, le-ltb (length memory) (p + a.offset + 8) le) refl }

  -- ---- blocks

  pub blocks : {body : List Instr} → Does m (placed layers globals table memory input (i.Block None body ∷ code) vs locals) (Goes (placed (Label vs None code code ∷ layers) globals table memory input body [] locals))
  unfolding step act
  blocks {body = body} = record { by = rw (out_block None body) refl }

  pub loops : {body : List Instr} → Does m (placed layers globals table memory input (i.Loop None body ∷ code) vs locals) (Goes (placed (Label vs None (i.Loop None body ∷ code) code ∷ layers) globals table memory input body [] locals))
  unfolding step act
  loops {body = body} = record { by = rw (out_loop None body) refl }

  pub chooses : {r : Option ValueType} (one other : List Instr) {n : ℕ} → Does m (placed layers globals table memory input (i.If r one other ∷ code) (I32 n ∷ vs) locals) (Goes (placed (Label vs r code code ∷ layers) globals table memory input (if n == 0 then other else one) [] locals))
  unfolding step act pop32 pop
  chooses {r = r} one other = record { by = rw (out_if r one other) refl }

  pub jumps : (k : ℕ) {target after : List Instr} {us : List Value} {ls : List Layer} → target_of (Some k) layers ≡ Some (Label us None target after, ls) → Does m (placed layers globals table memory input (i.Br k ∷ code) vs locals) (Goes (placed ls globals table memory input target us locals))
  unfolding step act branch
  jumps k e = record { by = rw (out_br k, e) refl }

  pub passes : (k : ℕ) → Does m (placed layers globals table memory input (i.BrIf k ∷ code) (I32 0 ∷ vs) locals) (Goes (placed layers globals table memory input code vs locals))
  unfolding step act pop32 pop
  passes k = record { by = rw (out_br_if k) refl }

  pub takes : (k n : ℕ) {target after : List Instr} {us : List Value} {ls : List Layer} → target_of (Some k) layers ≡ Some (Label us None target after, ls) → Does m (placed layers globals table memory input (i.BrIf k ∷ code) (I32 (suc n) ∷ vs) locals) (Goes (placed ls globals table memory input target us locals))
  unfolding step act branch pop32 pop
  takes k n e = record { by = rw (out_br_if k, ne_eqb (suc n) 0 (λ z. omega (arith, z)), e) refl }

  -- ---- what the host does

  module _ {one : Import} where
    pub says_int : (k : ℕ) {n : ℕ} → slice_get m.imports k ≡ Some one → one.call ≡ host.WriteInt → Does m (placed layers globals table memory input (i.Call k ∷ code) (I64 n ∷ vs) locals) (Writes (signed_decimal (cast_signed w64 n)) (placed layers globals table memory input code vs locals))
    unfolding step act call machine.host pop64 pop
    says_int k e is = record { by = rw (out_call k, e, is) refl }

    pub says_bool : (k : ℕ) {n : ℕ} → slice_get m.imports k ≡ Some one → one.call ≡ host.WriteBool → Does m (placed layers globals table memory input (i.Call k ∷ code) (I32 n ∷ vs) locals) (Writes (bool_text n) (placed layers globals table memory input code vs locals))
    unfolding step act call machine.host pop32 pop
    says_bool k e is = record { by = rw (out_call k, e, is) refl }

    pub says_text : (k : ℕ) {a n : ℕ} → slice_get m.imports k ≡ Some one → one.call ≡ host.WriteText → a + n ≤ length memory → Does m (placed layers globals table memory input (i.Call k ∷ code) (I32 n ∷ I32 a ∷ vs) locals) (Writes (take n (drop a memory)) (placed layers globals table memory input code vs locals))
    unfolding step act call machine.host two32 pop32 pop
    says_text k {a = a} {n = n} e is le = record { by = rw (out_call k, e, is, le-ltb (length memory) (a + n) le) refl }

    pub says_byte : (k : ℕ) {n : ℕ} → slice_get m.imports k ≡ Some one → one.call ≡ host.WriteByte → Does m (placed layers globals table memory input (i.Call k ∷ code) (I32 n ∷ vs) locals) (Writes (n % 256 ∷ []) (placed layers globals table memory input code vs locals))
    unfolding step act call machine.host pop32 pop
    says_byte k e is = record { by = rw (out_call k, e, is) refl }

    pub gives_up : (k : ℕ) {a n : ℕ} → slice_get m.imports k ≡ Some one → one.call ≡ host.Trap → Does m (placed layers globals table memory input (i.Call k ∷ code) (I32 n ∷ I32 a ∷ vs) locals) (Traps a n)
    unfolding step act call machine.host two32 pop32 pop
    gives_up k e is = record { by = rw (out_call k, e, is) refl }

  -- ---- functions of the module, which take one i32

  module _ (k : ℕ) {t : FunctionType} {f : CodeEntry} (own : slice_get m.imports k ≡ None) (typed : defined_type m (k - length m.imports) ≡ Some t) (there : slice_get m.codes (k - length m.imports) ≡ Some f) (one : t.parameters ≡ type.I32 ∷ []) where
    pub enters : {b : ℕ} → frames layers < MOST_FRAMES → Does m (placed layers globals table memory input (i.Call k ∷ code) (I32 b ∷ vs) locals) (Goes (placed (Frame vs t.result locals code ∷ layers) globals table memory input f.body [] (I32 b ∷ zeros f.locals)))
    unfolding step act call call_defined called
    enters lt = record { by = rw (out_call k, own, typed, there, one, lt-ltb (frames layers) MOST_FRAMES lt) refl }

    pub too_deep : {b : ℕ} → MOST_FRAMES ≤ frames layers → Does m (placed layers globals table memory input (i.Call k ∷ code) (I32 b ∷ vs) locals) (Traps TOO_MANY_FRAMES 0)
    unfolding step act call call_defined called
    too_deep le = record { by = rw (out_call k, own, typed, there, one, le-ltb (frames layers) MOST_FRAMES le) refl }

module _ {m : Module} {layers : List Layer} {globals : List Value} {table : List (Option ℕ)} {memory : List ℕ} {code : List Instr} {vs locals : List Value} {one : Import} where
  pub reads_none : (k : ℕ) → slice_get m.imports k ≡ Some one → one.call ≡ host.ReadInt → length vs + below_all layers < MOST_OPERANDS → Does m (placed layers globals table memory [] (i.Call k ∷ code) vs locals) (Goes (placed layers globals table memory [] code (I64 0 ∷ vs) locals))
  unfolding step act call machine.host pushed
  reads_none k e is lt = record { by = rw (out_call k, e, is, lt-ltb _ _ lt) refl }

  pub reads_one : (k : ℕ) {z : ℤ} {zs : List ℤ} → slice_get m.imports k ≡ Some one → one.call ≡ host.ReadInt → length vs + below_all layers < MOST_OPERANDS → Does m (placed layers globals table memory (z ∷ zs) (i.Call k ∷ code) vs locals) (Goes (placed layers globals table memory zs code (I64 (cast_unsigned w64 z) ∷ vs) locals))
  unfolding step act call machine.host pushed
  reads_one k e is lt = record { by = rw (out_call k, e, is, lt-ltb _ _ lt) refl }

-- ---- an element of the table

same_own : (t : FunctionType) → t.parameters ≡ type.I32 ∷ [] → t.result ≡ None → same_function_type t t ≡ true
same_own t p r = rw (p, r) refl

-- a call of an element steps as that of the function that it names
pub indirect : (m : Module) (layers : List Layer) (globals : List Value) (table : List (Option ℕ)) (memory : List ℕ) (input : List ℤ) (code : List Instr) (vs locals : List Value) (t : FunctionType) (size : Limits) (k f n : ℕ)
    → first_limits m.tables ≡ Some size → slice_get m.types n ≡ Some t → slice_get table f ≡ Some (Some k) → slice_get m.imports k ≡ None → defined_type m (k - length m.imports) ≡ Some t → t.parameters ≡ type.I32 ∷ [] → t.result ≡ None
    → step m (placed layers globals table memory input (i.CallIndirect n ∷ code) (I32 f ∷ vs) locals) ≡ step m (placed layers globals table memory input (i.Call k ∷ code) vs locals)
unfolding step act call_indirect type_of_function pop32 pop
indirect m layers globals table memory input code vs locals t size k f n some wanted element own defined one none =
    rw (out_call_indirect n, out_call k, some, wanted, element, own, defined, same_own t one none) refl

-- ---- the end of a block, and of a function

pub leaves : {m : Module} {layers : List Layer} {globals : List Value} {table : List (Option ℕ)} {memory : List ℕ} {input : List ℤ} {r : Option ValueType} {target after : List Instr} {vs below locals : List Value} → Does m (placed (Label below r target after ∷ layers) globals table memory input [] vs locals) (Goes (placed layers globals table memory input after (vs ++ below) locals))
unfolding step leave
leaves = record { by = refl }

pub returns : {m : Module} {l : Layer} {layers : List Layer} {globals : List Value} {table : List (Option ℕ)} {memory : List ℕ} {input : List ℤ} {after : List Instr} {below old locals : List Value} → Does m (placed (Frame below None old after ∷ l ∷ layers) globals table memory input [] [] locals) (Goes (placed (l ∷ layers) globals table memory input after below old))
unfolding step leave branch
returns = record { by = refl }

pub finishes : {m : Module} {globals : List Value} {table : List (Option ℕ)} {memory : List ℕ} {input : List ℤ} {after : List Instr} {below old locals : List Value} → Does m (placed (Frame below None old after ∷ []) globals table memory input [] [] locals) Ends
unfolding step leave branch
finishes = record { by = refl }
