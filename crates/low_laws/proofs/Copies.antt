-- Copies: word by word, and by a loop of a word a turn.
use Rattle.std.proofs.Common.{◌≡◌, ℕ, zero, suc, ◌+◌, ◌*◌, ◌%◌, ◌^◌, ◌≤◌, ◌<◌, List, [], ◌∷◌, ◌++◌, Some, None, refl, ap, ◌∙◌, subst, arith, length}
use Rattle.std.specs.Prelude.{ℤ, ◌==◌, if◌then◌else◌}
use Rattle.std.specs.Int.{w32, w64}
use Rattle.wasm_form.specs.declared.instr.Instr.{Instr}
use Rattle.wasm_form.specs.declared.instr.Instr.TheVariants as i
use Rattle.wasm_form.specs.declared.module.Module.{Module}
use Rattle.wasm_form.specs.declared.types.Limits.{Limits}
use Rattle.wasm_form.specs.declared.types.Value.{Value}
use Rattle.wasm_form.specs.declared.types.Value.TheVariants.{I32}
use Rattle.wasm_form.specs.Steps.{Config, Layer, Label, Goes, below_all, number_at, with_number}
use Rattle.wasm_form.specs.Integers.{iadd, isub}
use Rattle.core_form.specs.CoreRun.{copied}
use Rattle.low_laws.specs.Lower.{bits, access, copy_body, moves_code}
use Rattle.low_laws.specs.Shows.{Holds, locals_of}
use Rattle.wasm_laws.proofs.Stretches.{so, here, goes, comes_on}
use Rattle.wasm_laws.proofs.Opcodes.{gets, sets32, tees32, puts32, adds32, subtracts32, loads, stores, loops, passes, takes, leaves}
use Rattle.low_laws.proofs.Memory.{bits_whole, holds_store}
use Rattle.wasm_laws.specs.Stretches.{Comes}
use Rattle.wasm_laws.specs.Places.{at}
use Rattle.core_form.specs.declared.limits.TheConstants.{AREA}
use Rattle.wasm_form.specs.declared.limits.TheConstants.{MOST_OPERANDS}

module _ (m : Module) (size : Limits) (one : m.memories ≡ size ∷ []) (texts : List ℕ) (base : ℕ) (x y : ℕ) (ks : List ℕ) (all : length ks ≡ 32) (zs : List ℤ) (layers : List Layer) (rest : List Instr) (vs : List Value) (input : List ℤ) (room : length vs + below_all layers + 3 ≤ MOST_OPERANDS) where
  -- the locals of the copy
  abbrev pub with_copy : ℕ → ℕ → ℕ → List Value
  with_copy from to left = locals_of base (record { one = x; other = y; from = from; to = to; left = left; kept = ks; all_kept = all }) zs

  abbrev pub again : List Instr
  again = i.Loop None copy_body ∷ rest

  abbrev round : List Layer
  round = Label vs None again rest ∷ layers

  -- what is left of the body, from its end on
  abbrev tee_on : List Instr
  tee_on = i.LocalTee 5 ∷ i.BrIf 0 ∷ []

  abbrev set_on : List Instr
  set_on = i.LocalSet 4 ∷ i.LocalGet 5 ∷ i.I32Const 1 ∷ i.I32Sub ∷ tee_on

  abbrev from_on : List Instr
  from_on = i.LocalSet 3 ∷ i.LocalGet 4 ∷ i.I32Const 8 ∷ i.I32Add ∷ set_on

  abbrev raise_on : List Instr
  raise_on = i.LocalGet 3 ∷ i.I32Const 8 ∷ i.I32Add ∷ from_on

  first_room : 0 + (length vs + below_all layers) < MOST_OPERANDS
  first_room = omega (arith, room)

  second_room : 1 + (length vs + below_all layers) < MOST_OPERANDS
  second_room = omega (arith, room)

  -- a turn, up to the test of its end
  turn : (a b left : ℕ) (words : ℕ → ℤ) (memory : List ℕ) → a < AREA → b < AREA → left < AREA → Holds texts words memory
      → Comes m 17 [] (at m layers memory input again vs (with_copy (8 * a) (8 * b) (suc left)))
      (at m round (with_number w64 memory (8 * b) (bits (words a))) input (i.BrIf 0 ∷ []) (I32 left ∷ []) (with_copy (8 * suc a) (8 * suc b) left))
  turn a b left words memory la lb ll holds =
      let there : number_at w64 memory (8 * a + 0) ≡ Some (bits (words a)) = ap (number_at w64 memory) (omega arith) ∙ holds.each a la in
      let enough : 8 * b + 0 + 8 ≤ length memory = let l = holds.room in omega (arith, l, lb) in
      let exact : 8 * b + 0 ≡ 8 * b = omega arith in
      let next_a : iadd w32 (8 * a) 8 ≡ 8 * suc a = omega (arith, la) in
      let next_b : iadd w32 (8 * b) 8 ≡ 8 * suc b = omega (arith, lb) in
      let less : isub w32 (suc left) 1 ≡ left = omega (arith, ll) in
      goes (loops {code = rest})
      (goes (gets 4 refl first_room)
      (goes (gets 3 refl second_room)
      (goes (loads _ one there)
      (goes (so (stores _ one enough) (ap (λ (n : ℕ). Goes (at m round (with_number w64 memory n (bits (words a) % 2 ^ 64)) input raise_on [] (with_copy (8 * a) (8 * b) (suc left)))) exact ∙ ap (λ (n : ℕ). Goes (at m round (with_number w64 memory (8 * b) n) input raise_on [] (with_copy (8 * a) (8 * b) (suc left)))) (bits_whole (words a) (holds.whole a))))
      (goes (gets 3 refl first_room)
      (goes (puts32 second_room)
      (goes (so adds32 (ap (λ (n : ℕ). Goes (at m round (with_number w64 memory (8 * b) (bits (words a))) input from_on (I32 n ∷ []) (with_copy (8 * a) (8 * b) (suc left)))) next_a))
      (goes (sets32 3 refl)
      (goes (gets 4 refl first_room)
      (goes (puts32 second_room)
      (goes (so adds32 (ap (λ (n : ℕ). Goes (at m round (with_number w64 memory (8 * b) (bits (words a))) input set_on (I32 n ∷ []) (with_copy (8 * suc a) (8 * b) (suc left)))) next_b))
      (goes (sets32 4 refl)
      (goes (gets 5 refl first_room)
      (goes (puts32 {n = 1} second_room)
      (goes (so subtracts32 (ap (λ (n : ℕ). Goes (at m round (with_number w64 memory (8 * b) (bits (words a))) input tee_on (I32 n ∷ []) (with_copy (8 * suc a) (8 * suc b) (suc left)))) less))
      (goes (tees32 5 refl) here))))))))))))))))

  -- what a copy leaves
  pub record Copied (more a b : ℕ) (words : ℕ → ℤ) (memory : List ℕ) : Type 0 where
    pub after_it : List ℕ
    pub comes : Comes m (18 * more + 19) [] (at m layers memory input again vs (with_copy (8 * a) (8 * b) (suc more))) (at m layers after_it input rest vs (with_copy (8 * (a + suc more)) (8 * (b + suc more)) 0))
    pub holds : Holds texts (copied more a b words) after_it

  count_is : {k l : ℕ} {c d : Config} → k ≡ l → Comes m k [] c d → Comes m l [] c d
  count_is {c = c} {d = d} e h = subst (λ (n : ℕ). Comes m n [] c d) e h

  pub copies : (more a b : ℕ) (words : ℕ → ℤ) (memory : List ℕ) → a + more < AREA → b + more < AREA → Holds texts words memory → Copied more a b words memory
  copies zero a b words memory la lb holds = record {
    after_it = with_number w64 memory (8 * b) (bits (words a));
    comes = subst (λ (ls : List Value). Comes m 19 [] (at m layers memory input again vs (with_copy (8 * a) (8 * b) 1)) (at m layers (with_number w64 memory (8 * b) (bits (words a))) input rest vs ls))
        (let e : suc a ≡ a + 1 = omega arith in let f : suc b ≡ b + 1 = omega arith in ap (λ (n : ℕ). with_copy (8 * n) (8 * suc b) 0) e ∙ ap (λ (n : ℕ). with_copy (8 * (a + 1)) (8 * n) 0) f)
        (comes_on (turn a b 0 words memory (omega (arith, la)) (omega (arith, lb)) (omega arith) holds) (goes (passes 0) (goes leaves here)));
    holds = holds_store texts words memory b (words a) (holds.whole a) holds (omega (arith, lb));
  }
  copies (suc more) a b words memory la lb holds =
      let stored = holds_store texts words memory b (words a) (holds.whole a) holds (omega (arith, lb)) in
      let further = copies more (suc a) (suc b) (λ c. if c == b then words a else words c) (with_number w64 memory (8 * b) (bits (words a))) (omega (arith, la)) (omega (arith, lb)) stored in
      record {
        after_it = further.after_it;
        comes = subst (λ (ls : List Value). Comes m (18 * suc more + 19) [] (at m layers memory input again vs (with_copy (8 * a) (8 * b) (suc (suc more)))) (at m layers further.after_it input rest vs ls))
            (let e : suc a + suc more ≡ a + suc (suc more) = omega arith in let f : suc b + suc more ≡ b + suc (suc more) = omega arith in ap (λ (n : ℕ). with_copy (8 * n) (8 * (suc b + suc more)) 0) e ∙ ap (λ (n : ℕ). with_copy (8 * (a + suc (suc more))) (8 * n) 0) f)
            (count_is (omega arith) (comes_on (turn a b (suc more) words memory (omega (arith, la)) (omega (arith, lb)) (omega (arith, la)) holds) (goes (takes 0 more refl) further.comes)));
        holds = further.holds;
      }

  -- ---- without a loop

  -- the locals stay as they are
  pub record Moved (more a b from to d e left : ℕ) (words : ℕ → ℤ) (memory : List ℕ) : Type 0 where
    pub after_it : List ℕ
    pub comes : Comes m (4 * more + 4) [] (at m layers memory input (moves_code (suc more) d e ++ rest) vs (with_copy from to left)) (at m layers after_it input rest vs (with_copy from to left))
    pub holds : Holds texts (copied more a b words) after_it

  -- one word, and what comes after it
  move : (a b from to d e left : ℕ) (code : List Instr) (words : ℕ → ℤ) (memory : List ℕ) → from + 8 * d ≡ 8 * a → to + 8 * e ≡ 8 * b → a < AREA → b < AREA → Holds texts words memory
      → Comes m 4 [] (at m layers memory input (i.LocalGet 4 ∷ i.LocalGet 3 ∷ i.I64Load (access d) ∷ i.I64Store (access e) ∷ code) vs (with_copy from to left)) (at m layers (with_number w64 memory (8 * b) (bits (words a))) input code vs (with_copy from to left))
  move a b from to d e left code words memory ea eb la lb holds =
      let there : number_at w64 memory (from + 8 * d) ≡ Some (bits (words a)) = ap (number_at w64 memory) ea ∙ holds.each a la in
      let enough : to + 8 * e + 8 ≤ length memory = let l = holds.room in omega (arith, l, lb, eb) in
      let first : length vs + below_all layers < MOST_OPERANDS = omega (arith, room) in
      let second : suc (length vs) + below_all layers < MOST_OPERANDS = omega (arith, room) in
      goes (gets 4 refl first)
      (goes (gets 3 refl second)
      (goes (loads _ one there)
      (goes (so (stores _ one enough) (ap (λ (n : ℕ). Goes (at m layers (with_number w64 memory n (bits (words a) % 2 ^ 64)) input code vs (with_copy from to left))) eb ∙ ap (λ (n : ℕ). Goes (at m layers (with_number w64 memory (8 * b) n) input code vs (with_copy from to left))) (bits_whole (words a) (holds.whole a)))) here)))

  pub moves : (more a b from to d e left : ℕ) (words : ℕ → ℤ) (memory : List ℕ) → from + 8 * d ≡ 8 * a → to + 8 * e ≡ 8 * b → a + more < AREA → b + more < AREA → Holds texts words memory → Moved more a b from to d e left words memory
  moves zero a b from to d e left words memory ea eb la lb holds = record {
    after_it = with_number w64 memory (8 * b) (bits (words a));
    comes = move a b from to d e left rest words memory ea eb (omega (arith, la)) (omega (arith, lb)) holds;
    holds = holds_store texts words memory b (words a) (holds.whole a) holds (omega (arith, lb));
  }
  moves (suc more) a b from to d e left words memory ea eb la lb holds =
      let stored = holds_store texts words memory b (words a) (holds.whole a) holds (omega (arith, lb)) in
      let further = moves more (suc a) (suc b) from to (suc d) (suc e) left (λ c. if c == b then words a else words c) (with_number w64 memory (8 * b) (bits (words a))) (omega (arith, ea)) (omega (arith, eb)) (omega (arith, la)) (omega (arith, lb)) stored in
      record {
        after_it = further.after_it;
        comes = count_is (omega arith) (comes_on (move a b from to d e left (moves_code (suc more) (suc d) (suc e) ++ rest) words memory ea eb (omega (arith, la)) (omega (arith, lb)) holds) further.comes);
        holds = further.holds;
      }
