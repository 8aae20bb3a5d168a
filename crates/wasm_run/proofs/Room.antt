-- There is always room for one more layer.
use Rattle.std.proofs.Common.{◌≡◌, ℕ, zero, suc, ◌+◌, ◌-◌, ◌*◌, ◌%◌, ◌^◌, ◌<◌, ◌≤◌, ◌==◌, max, Bool, true, false, cond, ltb, List, [], ◌∷◌, ◌++◌, length, take, drop, reverse, get_or, Option, Some, None, Result, Ok, Err, refl, sym, subst, ◌∙◌, arith}
use Rattle.std.specs.Prelude.{slice_get, slice_set, ℤ}
use Rattle.std.specs.Int.{Width, w8, w16, w32, w64, byte_len, cast_unsigned}
use mir.Val.{bits}
use Rattle.std.proofs.lemmas.Bool.{ltb-true, le-ltb}
use Rattle.wasm_form.specs.declared.instr.Instr.{Instr, out-Instr}
use Rattle.wasm_form.specs.declared.instr.Instr.TheOpen.{Instr-F}
use Rattle.wasm_form.specs.declared.instr.Instr.TheOpen as F
use Rattle.wasm_form.specs.declared.limits.TheConstants.{MOST_LOCALS, MOST_LABELS, MOST_FRAMES, MOST_OPERANDS}
use Rattle.wasm_form.specs.declared.module.Module.{Module}
use Rattle.wasm_form.specs.declared.module.Import.{Import}
use Rattle.wasm_form.specs.declared.module.CodeEntry.{CodeEntry}
use Rattle.wasm_form.specs.declared.module.GlobalEntry.{GlobalEntry}
use Rattle.wasm_form.specs.declared.module.HostCall.{HostCall}
use Rattle.wasm_form.specs.declared.module.HostCall.TheVariants.{WriteInt, WriteBool, WriteText, WriteByte, ReadInt, Trap}
use Rattle.wasm_form.specs.declared.types.Limits.{Limits}
use Rattle.wasm_form.specs.declared.types.FunctionType.{FunctionType}
use Rattle.wasm_form.specs.declared.types.ValueType.{ValueType}
use Rattle.wasm_form.specs.declared.types.Value.{Value}
use Rattle.wasm_form.specs.declared.types.Value.TheVariants.{I32, I64}
use Rattle.wasm_form.specs.Integers.{idiv_s, idiv_u, irem_s, irem_u, extend_s}
use Rattle.wasm_form.specs.Steps.{◌>>=◌, ◌>>-◌, ◌>>!◌, ◌or_else◌, settled, Config, Next, Goes, Writes, Ends, Traps, Stuck, Layer, Label, Frame, frames, operands, pushed, given, given_or_trap, pop, pop_in, word_of, long_of, pop32, pop64, two32, two64, first_of, with_values, with_locals, with_globals, with_memory, with_input, with_code, has_type, same_type, type_of_value, local_get, set_local, local_set, local_tee, global_get, global_set, select, entered, target_of, returned, jump, jump_with, branch, carried, result_of, leave, leave_in, exactly, number_at, with_number, first_limits, address, load, stored, store32, store64, memory_size, memory_grow, written_text, read_in, host, typed, called, framed, defined_type, call_defined, call_at, call, type_of_function, same_function_type, call_element, call_indirect, unary32, unary64, binary32, binary64, division32, division64, test32, test64, act_control, act_variable, act_load, act_store, act_test32, act_test64, act_arithmetic32, act_arithmetic64, act, at_code, step, started, main_code}
use Rattle.wasm_form.specs.Within.{IsWithin, HasMain, FunctionIsWithin, count_locals, nest, nest_one}
use Rattle.wasm_form.proofs.Nests.{nest_of, nest_is}
use Rattle.wasm_run.specs.Room.{HasRoom, Below, labels}

abbrev some_of : {A : Type 0} → A → Option A
some_of x = Some x

some_is : {A : Type 0} (x y : A) → some_of x ≡ some_of y → x ≡ y
some_is x y e = cc

few_layers : (ls : List Layer) → Below ls → length ls ≤ labels ls + 1025 * frames ls
few_layers [] b = omega arith
few_layers (Label below result target after ∷ ls) b = omega (arith, few_layers ls b.2)
few_layers (Frame below result locals after ∷ ls) b = omega (arith, few_layers ls b.1, b.0)

pub has_room : (c : Config) → HasRoom c → length c.layers < (MOST_FRAMES + 1) * (MOST_LABELS + 1)
has_room c h = omega (arith, few_layers c.layers h.below, h.here, h.few)

pub Keeps : Next → Type 0
Keeps (Goes d) = HasRoom d
Keeps (Writes z d) = HasRoom d
Keeps Ends = Unit {0}
Keeps (Traps code at) = Unit {0}
Keeps Stuck = Unit {0}

-- the same place, with other values, locals, memory or input
record Same (c d : Config) : Type 0 where
  code : d.code ≡ c.code
  layers : d.layers ≡ c.layers

room_same : (c d : Config) → HasRoom c → Same c d → HasRoom d
room_same c d h s = record {
  here = subst (λ x. nest x + labels d.layers ≤ MOST_LABELS) (sym s.code) (subst (λ x. nest c.code + labels x ≤ MOST_LABELS) (sym s.layers) h.here);
  below = subst Below (sym s.layers) h.below;
  few = subst (λ x. frames x ≤ MOST_FRAMES) (sym s.layers) h.few;
}

nothing_kept : Keeps Stuck
unfolding Keeps
nothing_kept = tt

keeps_if : (b : Bool) (x y : Next) → Keeps x → Keeps y → Keeps (cond b x y)
keeps_if true x y k l = k
keeps_if false x y k l = l

keeps_pushed : (v : Value) (c : Config) → HasRoom c → Keeps (pushed v c)
unfolding pushed Keeps
keeps_pushed v c h = keeps_if (ltb (operands c) MOST_OPERANDS) _ _ (room_same c _ h (record { code = refl; layers = refl })) tt

keeps_given : (v : Value) (c : Config) → HasRoom c → Keeps (given v c)
unfolding given Keeps
keeps_given v c h = room_same c _ h (record { code = refl; layers = refl })

keeps_quotient : (as_value : ℕ → Value) (r : Result ℕ ℕ) (c : Config) → HasRoom c → Keeps (given_or_trap as_value r c)
unfolding Keeps
keeps_quotient as_value (Ok n) c h = keeps_given (as_value n) c h
keeps_quotient as_value (Err code) c h = tt

-- what is there or not
keeps_some : {A : Type 0} (o : Option A) (f : A → Next) → ((x : A) → Keeps (f x)) → Keeps (o >>- f)
unfolding Keeps
keeps_some None f k = tt
keeps_some (Some x) f k = k x

keeps_read_at : {A : Type 0} (o : Option A) (f : A → Next) → ((x : A) → Keeps (f x)) → Keeps (o >>! f)
unfolding Keeps
keeps_read_at None f k = tt
keeps_read_at (Some x) f k = k x

-- after something was taken
keeps_taken : {A : Type 0} (o : Option (A × Config)) (f : A × Config → Next) (c : Config) → HasRoom c → ((p : A × Config) → o ≡ Some p → Same c p.1) → ((p : A × Config) → Same c p.1 → HasRoom p.1 → Keeps (f p)) → Keeps (o >>- f)
unfolding Keeps
keeps_taken None f c h s k = tt
keeps_taken (Some p) f c h s k = k p (s p refl) (room_same c p.1 h (s p refl))

pop_same : (c : Config) (p : Value × Config) → pop c ≡ Some p → Same c p.1
unfolding pop
pop_same c p e = go c.values e
  where
    go : (vs : List Value) → pop_in vs c ≡ Some p → Same c p.1
    go [] e = absurd cc
    go (v ∷ vs) e = subst (λ q. Same c q.1) (some_is (v, with_values vs c) p e) (record { code = refl; layers = refl })

keeps_pop : (c : Config) (f : Value × Config → Next) → HasRoom c → ((p : Value × Config) → Same c p.1 → HasRoom p.1 → Keeps (f p)) → Keeps (pop c >>- f)
keeps_pop c f h k = keeps_taken (pop c) f c h (pop_same c) k

-- ---- the layers

Target : Layer × List Layer → Type 0
Target t = Below (t.0 ∷ t.1)

target_room : (w : Option ℕ) (ls : List Layer) (t : Layer × List Layer) → Below ls → target_of w ls ≡ Some t → Target t × (frames t.1 ≤ frames ls)
unfolding Target
target_room w [] t b e = absurd cc
target_room None (Label below result target after ∷ ls) t b e = let k = target_room None ls t b.2 e in (k.0, k.1)
target_room None (Frame below result locals after ∷ ls) t b e = subst (λ u. Below (u.0 ∷ u.1) × (frames u.1 ≤ frames (Frame below result locals after ∷ ls))) (some_is (Frame below result locals after, ls) t e) (b, omega arith)
target_room (Some zero) (Label below result target after ∷ ls) t b e = subst (λ u. Below (u.0 ∷ u.1) × (frames u.1 ≤ frames ls)) (some_is (Label below result target after, ls) t e) (b, omega arith)
target_room (Some zero) (Frame below result locals after ∷ ls) t b e = subst (λ u. Below (u.0 ∷ u.1) × (frames u.1 ≤ frames (Frame below result locals after ∷ ls))) (some_is (Frame below result locals after, ls) t e) (b, omega arith)
target_room (Some (suc k)) (Label below result target after ∷ ls) t b e = target_room (Some k) ls t b.2 e
target_room (Some (suc k)) (Frame below result locals after ∷ ls) t b e = absurd cc

keeps_returned : (vs locals : List Value) (after : List Instr) (ls : List Layer) (c : Config) → nest after + labels ls ≤ MOST_LABELS → Below ls → frames ls ≤ MOST_FRAMES → Keeps (returned vs locals after ls c)
unfolding Keeps
keeps_returned vs locals after [] c h b f = tt
keeps_returned vs locals after (l ∷ ls) c h b f = record { here = h; below = b; few = f }

keeps_jump : (t : Layer × List Layer) (c : Config) → Below (t.0 ∷ t.1) → frames t.1 ≤ MOST_FRAMES → (o : Option (List Value)) → Keeps (o >>- λ vs. jump_with vs t c)
unfolding Keeps
keeps_jump t c b f None = tt
keeps_jump (Label below result target after, ls) c b f (Some vs) = record { here = b.0; below = b.2; few = f }
keeps_jump (Frame below result locals after, ls) c b f (Some vs) = keeps_returned (vs ++ below) locals after ls c b.0 b.1 f

keeps_branch : (w : Option ℕ) (c : Config) → HasRoom c → Keeps (branch w c)
unfolding branch Target
keeps_branch w c h = go (target_of w c.layers) refl
  where
    go : (o : Option (Layer × List Layer)) → target_of w c.layers ≡ o → Keeps (o >>- λ t. jump t c)
    go None e = nothing_kept
    go (Some t) e = let k = target_room w c.layers t h.below e in keeps_jump t c k.0 (omega (arith, k.1, h.few)) (carried (result_of t.0) c.values)

-- ---- what takes numbers

same_then : (c d e : Config) → Same c d → Same d e → Same c e
same_then c d e s t = record { code = t.code ∙ s.code; layers = t.layers ∙ s.layers }

word_same : (p : Value × Config) (q : ℕ × Config) → word_of p ≡ Some q → Same p.1 q.1
word_same (I32 n, c) q e = subst (λ r. Same c r.1) (some_is (n, c) q e) (record { code = refl; layers = refl })
word_same (I64 n, c) q e = absurd cc

long_same : (p : Value × Config) (q : ℕ × Config) → long_of p ≡ Some q → Same p.1 q.1
long_same (I32 n, c) q e = absurd cc
long_same (I64 n, c) q e = subst (λ r. Same c r.1) (some_is (n, c) q e) (record { code = refl; layers = refl })

bind_some : {A B : Type 0} (o : Option A) (f : A → Option B) (y : B) → (o >>= f) ≡ Some y → (x : A) × (o ≡ Some x) × (f x ≡ Some y)
bind_some None f y e = absurd cc
bind_some (Some x) f y e = (x, refl, e)

pop32_same : (c : Config) (p : ℕ × Config) → pop32 c ≡ Some p → Same c p.1
unfolding pop32
pop32_same c p e = let k = bind_some (pop c) word_of p e in same_then c k.0.1 p.1 (pop_same c k.0 k.1) (word_same k.0 p k.2)

pop64_same : (c : Config) (p : ℕ × Config) → pop64 c ≡ Some p → Same c p.1
unfolding pop64
pop64_same c p e = let k = bind_some (pop c) long_of p e in same_then c k.0.1 p.1 (pop_same c k.0 k.1) (long_same k.0 p k.2)

two32_same : (c : Config) (p : (ℕ × ℕ) × Config) → two32 c ≡ Some p → Same c p.1
unfolding two32
two32_same c p e =
    let k = bind_some (pop32 c) (λ second. pop32 second.1 >>= λ first. Some ((first.0, second.0), first.1)) p e in
    let l = bind_some (pop32 k.0.1) (λ first. Some ((first.0, k.0.0), first.1)) p k.2 in
    subst (λ q. Same c q.1) (some_is ((l.0.0, k.0.0), l.0.1) p l.2) (same_then c k.0.1 l.0.1 (pop32_same c k.0 k.1) (pop32_same k.0.1 l.0 l.1))

two64_same : (c : Config) (p : (ℕ × ℕ) × Config) → two64 c ≡ Some p → Same c p.1
unfolding two64
two64_same c p e =
    let k = bind_some (pop64 c) (λ second. pop64 second.1 >>= λ first. Some ((first.0, second.0), first.1)) p e in
    let l = bind_some (pop64 k.0.1) (λ first. Some ((first.0, k.0.0), first.1)) p k.2 in
    subst (λ q. Same c q.1) (some_is ((l.0.0, k.0.0), l.0.1) p l.2) (same_then c k.0.1 l.0.1 (pop64_same c k.0 k.1) (pop64_same k.0.1 l.0 l.1))

address_same : (m : Module) (offset : ℕ) (c : Config) (p : ℕ × Config) → address m offset c ≡ Some p → Same c p.1
unfolding address
address_same m offset c p e =
    let k = bind_some (first_limits m.memories) (λ memory. pop32 c >>= λ base. Some (base.0 + offset, base.1)) p e in
    let l = bind_some (pop32 c) (λ base. Some (base.0 + offset, base.1)) p k.2 in
    subst (λ q. Same c q.1) (some_is (l.0.0 + offset, l.0.1) p l.2) (pop32_same c l.0 l.1)

keeps_pop32 : (c : Config) (f : ℕ × Config → Next) → HasRoom c → ((p : ℕ × Config) → Same c p.1 → HasRoom p.1 → Keeps (f p)) → Keeps (pop32 c >>- f)
keeps_pop32 c f h k = keeps_taken (pop32 c) f c h (pop32_same c) k

keeps_pop64 : (c : Config) (f : ℕ × Config → Next) → HasRoom c → ((p : ℕ × Config) → Same c p.1 → HasRoom p.1 → Keeps (f p)) → Keeps (pop64 c >>- f)
keeps_pop64 c f h k = keeps_taken (pop64 c) f c h (pop64_same c) k

keeps_two32 : (c : Config) (f : (ℕ × ℕ) × Config → Next) → HasRoom c → ((p : (ℕ × ℕ) × Config) → Same c p.1 → HasRoom p.1 → Keeps (f p)) → Keeps (two32 c >>- f)
keeps_two32 c f h k = keeps_taken (two32 c) f c h (two32_same c) k

keeps_two64 : (c : Config) (f : (ℕ × ℕ) × Config → Next) → HasRoom c → ((p : (ℕ × ℕ) × Config) → Same c p.1 → HasRoom p.1 → Keeps (f p)) → Keeps (two64 c >>- f)
keeps_two64 c f h k = keeps_taken (two64 c) f c h (two64_same c) k

-- ---- leaving and calling

keeps_leave : (c : Config) → HasRoom c → Keeps (leave c)
unfolding leave Keeps
keeps_leave c h = go c.layers refl
  where
    go : (ls : List Layer) → c.layers ≡ ls → Keeps (leave_in ls c)
    go [] e = tt
    go (Label below result target after ∷ ls) e =
        let b : Below (Label below result target after ∷ ls) = subst Below e h.below in
        let f : frames (Label below result target after ∷ ls) ≤ MOST_FRAMES = subst (λ x. frames x ≤ MOST_FRAMES) e h.few in
        record { here = b.1; below = b.2; few = f }
    go (Frame below result locals after ∷ ls) e = keeps_if (exactly result c.values) (branch None c) Stuck (keeps_branch None c h) tt

keeps_test : (b : Bool) (x y : Next) → (b ≡ true → Keeps x) → Keeps y → Keeps (cond b x y)
keeps_test true x y k l = k refl
keeps_test false x y k l = l

keeps_called : (t : FunctionType) (f : CodeEntry) (c : Config) → FunctionIsWithin t f → HasRoom c → Keeps (called t f c)
unfolding called Keeps
keeps_called t f c n h =
    keeps_if (typed (reverse (take (length t.parameters) c.values)) t.parameters) _ Stuck
    (keeps_test (ltb (frames c.layers) MOST_FRAMES) (Goes (framed (reverse (take (length t.parameters) c.values)) t f c)) (Traps 3 0)
    (λ lt. record { here = omega (arith, n.labels); below = (h.here, h.below); few = omega (arith, ltb-true (frames c.layers) MOST_FRAMES lt) }) tt) tt

keeps_read : (zs : List ℤ) (c : Config) → HasRoom c → Keeps (read_in zs c)
keeps_read [] c h = keeps_pushed (I64 0) c h
keeps_read (z ∷ zs) c h = keeps_pushed (I64 (cast_unsigned w64 z)) (with_input zs c) (room_same c _ h (record { code = refl; layers = refl }))

keeps_text : (at size : ℕ) (c : Config) → HasRoom c → Keeps (written_text at size c)
unfolding Keeps
keeps_text at size c h = keeps_if (ltb (length c.memory) (at + size)) (Traps 11 0) (Writes (take size (drop at c.memory)) c) tt h

keeps_host : (call : HostCall) (c : Config) → HasRoom c → Keeps (host call c)
unfolding host Keeps
keeps_host WriteInt c h = keeps_pop64 c _ h (λ p s r. r)
keeps_host WriteBool c h = keeps_pop32 c _ h (λ p s r. r)
keeps_host WriteText c h = keeps_two32 c _ h (λ p s r. keeps_text p.0.0 p.0.1 p.1 r)
keeps_host WriteByte c h = keeps_pop32 c _ h (λ p s r. r)
keeps_host ReadInt c h = keeps_read c.input c h
keeps_host Trap c h = keeps_two32 c _ h (λ p s r. tt)

module _ (m : Module) (within : IsWithin m) where
  keeps_call_defined : (k : ℕ) (c : Config) → HasRoom c → Keeps (call_defined m k c)
  unfolding call_defined Keeps
  keeps_call_defined k c h = go (defined_type m k) (slice_get m.codes k) refl refl
    where
      go : (o : Option FunctionType) (q : Option CodeEntry) → defined_type m k ≡ o → slice_get m.codes k ≡ q → Keeps (o >>- λ t. q >>- λ f. called t f c)
      go None q e d = tt
      go (Some t) None e d = tt
      go (Some t) (Some f) e d = keeps_called t f c (within.functions k t f e d) h

  keeps_call_at : (o : Option Import) (k : ℕ) (c : Config) → HasRoom c → Keeps (call_at m o k c)
  keeps_call_at (Some i) k c h = keeps_host i.call c h
  keeps_call_at None k c h = keeps_call_defined k c h

  keeps_call : (k : ℕ) (c : Config) → HasRoom c → Keeps (call m k c)
  unfolding call
  keeps_call k c h = keeps_call_at (slice_get m.imports k) (k - length m.imports) c h

  keeps_element : (wanted : FunctionType) (o : Option (Option ℕ)) (c : Config) → HasRoom c → Keeps (call_element m wanted o c)
  unfolding Keeps
  keeps_element wanted None c h = tt
  keeps_element wanted (Some None) c h = tt
  keeps_element wanted (Some (Some k)) c h = keeps_some (type_of_function m k) _ (λ own. keeps_if (same_function_type own wanted) (call m k c) (Traps 16 0) (keeps_call k c h) tt)

  keeps_indirect : (t : ℕ) (c : Config) → HasRoom c → Keeps (call_indirect m t c)
  unfolding call_indirect
  keeps_indirect t c h = keeps_some (first_limits m.tables) _ (λ size. keeps_some (slice_get m.types t) _ (λ wanted. keeps_pop32 c _ h (λ p s r. keeps_element wanted (slice_get p.1.table p.0) p.1 r)))

-- ---- variables and memory

keeps_local_get : (k : ℕ) (c : Config) → HasRoom c → Keeps (local_get k c)
unfolding local_get
keeps_local_get k c h = keeps_some (slice_get c.locals k) _ (λ v. keeps_pushed v c h)

keeps_set_local : (k : ℕ) (v : Value) (c : Config) → HasRoom c → Keeps (set_local k v c)
unfolding Keeps
keeps_set_local k v c h = keeps_some (slice_get c.locals k) _ (λ old. keeps_if (has_type v (type_of_value old)) (Goes (with_locals (slice_set c.locals k v) c)) Stuck (room_same c _ h (record { code = refl; layers = refl })) tt)

keeps_local_set : (k : ℕ) (c : Config) → HasRoom c → Keeps (local_set k c)
unfolding local_set
keeps_local_set k c h = keeps_pop c _ h (λ p s r. keeps_set_local k p.0 p.1 r)

keeps_local_tee : (k : ℕ) (c : Config) → HasRoom c → Keeps (local_tee k c)
unfolding local_tee
keeps_local_tee k c h = keeps_some (first_of c.values) _ (λ v. keeps_set_local k v c h)

keeps_global_get : (k : ℕ) (c : Config) → HasRoom c → Keeps (global_get k c)
unfolding global_get
keeps_global_get k c h = keeps_some (slice_get c.globals k) _ (λ v. keeps_pushed v c h)

keeps_global_set : (m : Module) (k : ℕ) (c : Config) → HasRoom c → Keeps (global_set m k c)
unfolding global_set Keeps
keeps_global_set m k c h = keeps_pop c _ h (λ p s r. keeps_some (slice_get m.globals k) _ (λ (g : GlobalEntry). keeps_if (has_type p.0 g.value_type) (Goes (with_globals (slice_set p.1.globals k p.0) p.1)) Stuck (room_same p.1 _ r (record { code = refl; layers = refl })) tt))

keeps_select : (c : Config) → HasRoom c → Keeps (select c)
unfolding select Keeps
keeps_select c h = keeps_pop32 c _ h (λ n s r. keeps_pop n.1 _ r (λ second s' r'. keeps_pop second.1 _ r' (λ first s'' r''. keeps_if (same_type (type_of_value first.0) (type_of_value second.0)) (given (cond (n.0 == 0) second.0 first.0) first.1) Stuck (keeps_given _ first.1 r'') tt)))

keeps_load : (w : Width) (as_value : ℕ → Value) (m : Module) (offset : ℕ) (c : Config) → HasRoom c → Keeps (load w as_value m offset c)
keeps_load w as_value m offset c h = keeps_taken (address m offset c) _ c h (address_same m offset c) (λ p s r. keeps_read_at (number_at w p.1.memory p.0) _ (λ n. keeps_given (as_value n) p.1 r))

keeps_stored : (w : Width) (at n : ℕ) (c : Config) → HasRoom c → Keeps (stored w at n c)
unfolding stored Keeps
keeps_stored w at n c h = keeps_if (ltb (length c.memory) (at + byte_len w)) (Traps 11 0) (Goes (with_memory (with_number w c.memory at (n % 2 ^ bits w)) c)) tt (room_same c _ h (record { code = refl; layers = refl }))

keeps_store32 : (w : Width) (m : Module) (offset : ℕ) (c : Config) → HasRoom c → Keeps (store32 w m offset c)
keeps_store32 w m offset c h = keeps_pop32 c _ h (λ v s r. keeps_taken (address m offset v.1) _ v.1 r (address_same m offset v.1) (λ p t q. keeps_stored w p.0 v.0 p.1 q))

keeps_store64 : (w : Width) (m : Module) (offset : ℕ) (c : Config) → HasRoom c → Keeps (store64 w m offset c)
keeps_store64 w m offset c h = keeps_pop64 c _ h (λ v s r. keeps_taken (address m offset v.1) _ v.1 r (address_same m offset v.1) (λ p t q. keeps_stored w p.0 v.0 p.1 q))

keeps_size : (m : Module) (c : Config) → HasRoom c → Keeps (memory_size m c)
unfolding memory_size
keeps_size m c h = keeps_some (first_limits m.memories) _ (λ (size : Limits). keeps_pushed (I32 size.min) c h)

keeps_grow : (m : Module) (c : Config) → HasRoom c → Keeps (memory_grow m c)
unfolding memory_grow
keeps_grow m c h = keeps_some (first_limits m.memories) _ (λ (size : Limits). keeps_pop32 c _ h (λ p s r. keeps_given _ p.1 r))

-- ---- numbers

keeps_unary32 : (f : ℕ → ℕ) (c : Config) → HasRoom c → Keeps (unary32 f c)
keeps_unary32 f c h = keeps_pop32 c _ h (λ p s r. keeps_given _ p.1 r)

keeps_unary64 : (f : ℕ → ℕ) (c : Config) → HasRoom c → Keeps (unary64 f c)
keeps_unary64 f c h = keeps_pop64 c _ h (λ p s r. keeps_given _ p.1 r)

keeps_binary32 : (f : ℕ → ℕ → ℕ) (c : Config) → HasRoom c → Keeps (binary32 f c)
keeps_binary32 f c h = keeps_two32 c _ h (λ p s r. keeps_given _ p.1 r)

keeps_binary64 : (f : ℕ → ℕ → ℕ) (c : Config) → HasRoom c → Keeps (binary64 f c)
keeps_binary64 f c h = keeps_two64 c _ h (λ p s r. keeps_given _ p.1 r)

keeps_division32 : (f : ℕ → ℕ → Result ℕ ℕ) (c : Config) → HasRoom c → Keeps (division32 f c)
keeps_division32 f c h = keeps_two32 c _ h (λ p s r. keeps_quotient I32 (f p.0.0 p.0.1) p.1 r)

keeps_division64 : (f : ℕ → ℕ → Result ℕ ℕ) (c : Config) → HasRoom c → Keeps (division64 f c)
keeps_division64 f c h = keeps_two64 c _ h (λ p s r. keeps_quotient I64 (f p.0.0 p.0.1) p.1 r)

keeps_test32 : (f : ℕ → ℕ → Bool) (c : Config) → HasRoom c → Keeps (test32 f c)
keeps_test32 f c h = keeps_two32 c _ h (λ p s r. keeps_given _ p.1 r)

keeps_test64 : (f : ℕ → ℕ → Bool) (c : Config) → HasRoom c → Keeps (test64 f c)
keeps_test64 f c h = keeps_two64 c _ h (λ p s r. keeps_given _ p.1 r)

-- ---- the groups

KeepsIf : Option Next → Type 0
KeepsIf None = Unit {0}
KeepsIf (Some next) = Keeps next

chosen_nest : (b : Bool) (first second : List Instr) (k : ℕ) → max (nest first) (nest second) + 1 + k ≤ MOST_LABELS → nest (cond b second first) + (k + 1) ≤ MOST_LABELS
chosen_nest true first second k h = omega (arith, h)
chosen_nest false first second k h = omega (arith, h)

entered_room : (r : Option ValueType) (goal body : List Instr) (d : Config) → HasRoom d → nest goal + labels d.layers ≤ MOST_LABELS → nest body + (labels d.layers + 1) ≤ MOST_LABELS → HasRoom (entered r goal body d)
entered_room r goal body d k g b = record { here = b; below = (g, k.here, k.below); few = k.few }

module _ (m : Module) (within : IsWithin m) (here : List Instr) (c : Config) (h : HasRoom c) (target : nest here + labels c.layers ≤ MOST_LABELS) where
  keeps_control : (l : Instr-F Instr) → nest_of l + labels c.layers ≤ MOST_LABELS → KeepsIf (act_control m l here c)
  unfolding Keeps KeepsIf
  keeps_control F.Unreachable n = tt
  keeps_control F.Nop n = h
  keeps_control (F.Block r body) n = entered_room r c.code body c h h.here (omega arith)
  keeps_control (F.Loop r body) n = entered_room None here body c h target (omega arith)
  keeps_control (F.If r first second) n = keeps_pop32 c _ h (λ p s k. entered_room r p.1.code (cond (p.0 == 0) second first) p.1 k k.here (chosen_nest (p.0 == 0) first second (labels p.1.layers) (subst (λ x. max (nest first) (nest second) + 1 + labels x ≤ MOST_LABELS) (sym s.layers) n)))
  keeps_control (F.Br k) n = keeps_branch (Some k) c h
  keeps_control (F.BrIf k) n = keeps_pop32 c _ h (λ p s r. keeps_if (p.0 == 0) (Goes p.1) (branch (Some k) p.1) r (keeps_branch (Some k) p.1 r))
  keeps_control (F.BrTable ks k) n = keeps_pop32 c _ h (λ p s r. keeps_branch (Some (get_or ks p.0 k)) p.1 r)
  keeps_control F.Return n = keeps_branch None c h
  keeps_control (F.Call k) n = keeps_call m within k c h
  keeps_control (F.CallIndirect t) n = keeps_indirect m within t c h
  keeps_control _ n = tt

  keeps_variable : (l : Instr-F Instr) → KeepsIf (act_variable m l c)
  unfolding Keeps KeepsIf
  keeps_variable F.Drop = keeps_pop c _ h (λ p s r. r)
  keeps_variable F.Select = keeps_select c h
  keeps_variable (F.LocalGet k) = keeps_local_get k c h
  keeps_variable (F.LocalSet k) = keeps_local_set k c h
  keeps_variable (F.LocalTee k) = keeps_local_tee k c h
  keeps_variable (F.GlobalGet k) = keeps_global_get k c h
  keeps_variable (F.GlobalSet k) = keeps_global_set m k c h
  keeps_variable (F.I32Const n) = keeps_pushed (I32 n) c h
  keeps_variable (F.I64Const n) = keeps_pushed (I64 n) c h
  keeps_variable _ = tt

  keeps_loads : (l : Instr-F Instr) → KeepsIf (act_load m l c)
  unfolding KeepsIf
  keeps_loads (F.I32Load a) = keeps_load w32 I32 m a.offset c h
  keeps_loads (F.I64Load a) = keeps_load w64 I64 m a.offset c h
  keeps_loads (F.I32Load8S a) = keeps_load w8 (λ n. I32 (extend_s w8 w32 n)) m a.offset c h
  keeps_loads (F.I32Load8U a) = keeps_load w8 I32 m a.offset c h
  keeps_loads (F.I32Load16S a) = keeps_load w16 (λ n. I32 (extend_s w16 w32 n)) m a.offset c h
  keeps_loads (F.I32Load16U a) = keeps_load w16 I32 m a.offset c h
  keeps_loads (F.I64Load8S a) = keeps_load w8 (λ n. I64 (extend_s w8 w64 n)) m a.offset c h
  keeps_loads (F.I64Load8U a) = keeps_load w8 I64 m a.offset c h
  keeps_loads (F.I64Load16S a) = keeps_load w16 (λ n. I64 (extend_s w16 w64 n)) m a.offset c h
  keeps_loads (F.I64Load16U a) = keeps_load w16 I64 m a.offset c h
  keeps_loads (F.I64Load32S a) = keeps_load w32 (λ n. I64 (extend_s w32 w64 n)) m a.offset c h
  keeps_loads (F.I64Load32U a) = keeps_load w32 I64 m a.offset c h
  keeps_loads _ = tt

  keeps_stores : (l : Instr-F Instr) → KeepsIf (act_store m l c)
  unfolding KeepsIf
  keeps_stores (F.I32Store a) = keeps_store32 _ m a.offset c h
  keeps_stores (F.I64Store a) = keeps_store64 _ m a.offset c h
  keeps_stores (F.I32Store8 a) = keeps_store32 _ m a.offset c h
  keeps_stores (F.I32Store16 a) = keeps_store32 _ m a.offset c h
  keeps_stores (F.I64Store8 a) = keeps_store64 _ m a.offset c h
  keeps_stores (F.I64Store16 a) = keeps_store64 _ m a.offset c h
  keeps_stores (F.I64Store32 a) = keeps_store64 _ m a.offset c h
  keeps_stores F.MemorySize = keeps_size m c h
  keeps_stores F.MemoryGrow = keeps_grow m c h
  keeps_stores _ = tt

  keeps_tests32 : (l : Instr-F Instr) → KeepsIf (act_test32 l c)
  unfolding KeepsIf
  keeps_tests32 F.I32Eqz = keeps_pop32 c _ h (λ p s r. keeps_given _ p.1 r)
  keeps_tests32 F.I32Eq = keeps_test32 _ c h
  keeps_tests32 F.I32Ne = keeps_test32 _ c h
  keeps_tests32 F.I32LtS = keeps_test32 _ c h
  keeps_tests32 F.I32LtU = keeps_test32 _ c h
  keeps_tests32 F.I32GtS = keeps_test32 _ c h
  keeps_tests32 F.I32GtU = keeps_test32 _ c h
  keeps_tests32 F.I32LeS = keeps_test32 _ c h
  keeps_tests32 F.I32LeU = keeps_test32 _ c h
  keeps_tests32 F.I32GeS = keeps_test32 _ c h
  keeps_tests32 F.I32GeU = keeps_test32 _ c h
  keeps_tests32 _ = tt

  keeps_arithmetic32 : (l : Instr-F Instr) → KeepsIf (act_arithmetic32 l c)
  unfolding KeepsIf
  keeps_arithmetic32 F.I32Clz = keeps_unary32 _ c h
  keeps_arithmetic32 F.I32Ctz = keeps_unary32 _ c h
  keeps_arithmetic32 F.I32Popcnt = keeps_unary32 _ c h
  keeps_arithmetic32 F.I32Add = keeps_binary32 _ c h
  keeps_arithmetic32 F.I32Sub = keeps_binary32 _ c h
  keeps_arithmetic32 F.I32Mul = keeps_binary32 _ c h
  keeps_arithmetic32 F.I32DivS = keeps_division32 (idiv_s w32) c h
  keeps_arithmetic32 F.I32DivU = keeps_division32 idiv_u c h
  keeps_arithmetic32 F.I32RemS = keeps_division32 (irem_s w32) c h
  keeps_arithmetic32 F.I32RemU = keeps_division32 irem_u c h
  keeps_arithmetic32 F.I32And = keeps_binary32 _ c h
  keeps_arithmetic32 F.I32Or = keeps_binary32 _ c h
  keeps_arithmetic32 F.I32Xor = keeps_binary32 _ c h
  keeps_arithmetic32 F.I32Shl = keeps_binary32 _ c h
  keeps_arithmetic32 F.I32ShrS = keeps_binary32 _ c h
  keeps_arithmetic32 F.I32ShrU = keeps_binary32 _ c h
  keeps_arithmetic32 F.I32Rotl = keeps_binary32 _ c h
  keeps_arithmetic32 F.I32Rotr = keeps_binary32 _ c h
  keeps_arithmetic32 F.I32WrapI64 = keeps_pop64 c _ h (λ p s r. keeps_given _ p.1 r)
  keeps_arithmetic32 _ = tt

  keeps_tests64 : (l : Instr-F Instr) → KeepsIf (act_test64 l c)
  unfolding KeepsIf
  keeps_tests64 F.I64Eqz = keeps_pop64 c _ h (λ p s r. keeps_given _ p.1 r)
  keeps_tests64 F.I64Eq = keeps_test64 _ c h
  keeps_tests64 F.I64Ne = keeps_test64 _ c h
  keeps_tests64 F.I64LtS = keeps_test64 _ c h
  keeps_tests64 F.I64LtU = keeps_test64 _ c h
  keeps_tests64 F.I64GtS = keeps_test64 _ c h
  keeps_tests64 F.I64GtU = keeps_test64 _ c h
  keeps_tests64 F.I64LeS = keeps_test64 _ c h
  keeps_tests64 F.I64LeU = keeps_test64 _ c h
  keeps_tests64 F.I64GeS = keeps_test64 _ c h
  keeps_tests64 F.I64GeU = keeps_test64 _ c h
  keeps_tests64 _ = tt

  keeps_arithmetic64 : (l : Instr-F Instr) → KeepsIf (act_arithmetic64 l c)
  unfolding KeepsIf
  keeps_arithmetic64 F.I64Clz = keeps_unary64 _ c h
  keeps_arithmetic64 F.I64Ctz = keeps_unary64 _ c h
  keeps_arithmetic64 F.I64Popcnt = keeps_unary64 _ c h
  keeps_arithmetic64 F.I64Add = keeps_binary64 _ c h
  keeps_arithmetic64 F.I64Sub = keeps_binary64 _ c h
  keeps_arithmetic64 F.I64Mul = keeps_binary64 _ c h
  keeps_arithmetic64 F.I64DivS = keeps_division64 (idiv_s w64) c h
  keeps_arithmetic64 F.I64DivU = keeps_division64 idiv_u c h
  keeps_arithmetic64 F.I64RemS = keeps_division64 (irem_s w64) c h
  keeps_arithmetic64 F.I64RemU = keeps_division64 irem_u c h
  keeps_arithmetic64 F.I64And = keeps_binary64 _ c h
  keeps_arithmetic64 F.I64Or = keeps_binary64 _ c h
  keeps_arithmetic64 F.I64Xor = keeps_binary64 _ c h
  keeps_arithmetic64 F.I64Shl = keeps_binary64 _ c h
  keeps_arithmetic64 F.I64ShrS = keeps_binary64 _ c h
  keeps_arithmetic64 F.I64ShrU = keeps_binary64 _ c h
  keeps_arithmetic64 F.I64Rotl = keeps_binary64 _ c h
  keeps_arithmetic64 F.I64Rotr = keeps_binary64 _ c h
  keeps_arithmetic64 F.I64ExtendI32S = keeps_pop32 c _ h (λ p s r. keeps_given _ p.1 r)
  keeps_arithmetic64 F.I64ExtendI32U = keeps_pop32 c _ h (λ p s r. keeps_given _ p.1 r)
  keeps_arithmetic64 _ = tt

keeps_or : (a b : Option Next) → KeepsIf a → KeepsIf b → KeepsIf (a or_else b)
unfolding KeepsIf
keeps_or None b k l = l
keeps_or (Some next) b k l = k

keeps_settled : (o : Option Next) → KeepsIf o → Keeps (settled o)
unfolding Keeps KeepsIf
keeps_settled None k = tt
keeps_settled (Some next) k = k

keeps_act : (m : Module) (within : IsWithin m) (here : List Instr) (c : Config) → HasRoom c → nest here + labels c.layers ≤ MOST_LABELS → (l : Instr-F Instr) → nest_of l + labels c.layers ≤ MOST_LABELS → Keeps (act m l here c)
unfolding act
keeps_act m within here c h target l n =
    keeps_settled _
    (keeps_or _ _ (keeps_control m within here c h target l n)
    (keeps_or _ _ (keeps_variable m within here c h target l)
    (keeps_or _ _ (keeps_loads m within here c h target l)
    (keeps_or _ _ (keeps_stores m within here c h target l)
    (keeps_or _ _ (keeps_tests32 m within here c h target l)
    (keeps_or _ _ (keeps_tests64 m within here c h target l)
    (keeps_or _ _ (keeps_arithmetic32 m within here c h target l)
    (keeps_arithmetic64 m within here c h target l))))))))

pub keeps_step : (m : Module) (c : Config) → IsWithin m → HasRoom c → Keeps (step m c)
unfolding step
keeps_step m c within h = go c.code refl
  where
    go : (is : List Instr) → c.code ≡ is → Keeps (at_code m is c)
    go [] e = keeps_leave c h
    go (i ∷ rest) e =
        let n : max (nest_one i) (nest rest) + labels c.layers ≤ MOST_LABELS = subst (λ x. nest x + labels c.layers ≤ MOST_LABELS) e h.here in
        let k = nest_is i in
        keeps_act m within (i ∷ rest) (with_code rest c) (record { here = omega (arith, n); below = h.below; few = h.few }) n (out-Instr i) (omega (arith, n, k))

pub room_goes : (m : Module) (c d : Config) → IsWithin m → HasRoom c → step m c ≡ Goes d → HasRoom d
unfolding Keeps
room_goes m c d within h e = subst Keeps e (keeps_step m c within h)

pub room_writes : (m : Module) (text : List ℕ) (c d : Config) → IsWithin m → HasRoom c → step m c ≡ Writes text d → HasRoom d
unfolding Keeps
room_writes m text c d within h e = subst Keeps e (keeps_step m c within h)

-- before the first step
pub room_started : (m : Module) (main : CodeEntry) (input : List ℤ) → nest main.body ≤ MOST_LABELS → HasRoom (started m main input)
unfolding started
room_started m main input le = record { here = omega (arith, le); below = (omega arith, tt); few = omega arith }

pub main_is : (m : Module) (h : HasMain m) → main_code m ≡ Some h.code
main_is m h = let lt : ltb h.index (length m.imports) ≡ false = le-ltb _ _ h.defined in rw (h.exported, lt) h.has_code

pub main_is_within : (m : Module) (main : CodeEntry) → IsWithin m → main_code m ≡ Some main → (count_locals main.locals ≤ MOST_LOCALS) × (nest main.body ≤ MOST_LABELS)
main_is_within m main within e =
    let h = within.main in
    let k = within.functions (h.index - length m.imports) h.type h.code h.has_type h.has_code in
    let is : h.code ≡ main = some_is h.code main (sym (main_is m h) ∙ e) in
    subst (λ (f : CodeEntry). (count_locals f.locals ≤ MOST_LOCALS) × (nest f.body ≤ MOST_LABELS)) is (omega (arith, k.locals), k.labels)
