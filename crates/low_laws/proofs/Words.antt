-- The code of words and of places.
use Rattle.std.proofs.Common.{◌≡◌, ℕ, suc, ◌+◌, ◌-◌, ◌*◌, ◌/◌, ◌%◌, ◌^◌, ◌≤◌, ◌<◌, Bool, true, false, List, [], ◌∷◌, ◌++◌, Option, Some, None, refl, sym, ap, ◌∙◌, subst, arith, length, append_assoc, append-nil}
use Rattle.std.specs.Prelude.{ℤ, pos, negsuc, max, ◌==◌, nat_lt, slice_get}
use Rattle.std.specs.Int.{w64, cast_unsigned, cast_signed}
use Rattle.std.proofs.lemmas.Bool.{ltb-true}
use Rattle.own_tree.specs.declared.arithmetic.Arith.{Arith}
use Rattle.own_tree.specs.declared.arithmetic.Arith.TheVariants.{Add, Sub, Mul, Div, Rem, Neg}
use Rattle.own_tree.specs.declared.typed.Comparison.{Comparison}
use Rattle.own_tree.specs.declared.typed.Comparison.TheVariants as comparison
use Rattle.std.proofs.lemmas.Option.{slice_get_past}
use Rattle.wasm_form.specs.declared.instr.Instr.{Instr}
use Rattle.wasm_form.specs.declared.instr.Instr.TheVariants as i
use Rattle.wasm_form.specs.declared.module.Module.{Module}
use Rattle.wasm_form.specs.declared.module.Import.{Import}
use Rattle.wasm_form.specs.declared.types.Limits.{Limits}
use Rattle.wasm_form.specs.declared.types.Value.{Value}
use Rattle.wasm_form.specs.declared.types.Value.TheVariants.{I32, I64}
use Rattle.wasm_form.specs.declared.types.FunctionType.{FunctionType}
use Rattle.wasm_form.specs.declared.types.ValueType.TheVariants as value_type
use Rattle.wasm_form.specs.Steps.{Config, Layer, Label, Goes, below_all, frames, number_at, truth, target_of, defined_type, first_limits, table_of}
use Rattle.wasm_form.specs.Integers.{ieqz, iadd}
use Rattle.own_ways.specs.Exact.{Exact, Gives, Fails, exact, is_int}
use Rattle.wasm_laws.specs.Places as places
use Rattle.low_arith.specs.Checked.{locals_with, met, with_operands}
use Rattle.low_arith.specs.Code.{checked_code}
use Rattle.low_arith.proofs.Operations.{all_checked}
use Rattle.own_ways.proofs.Results.{exact_is_int}
use Rattle.own_ways.specs.Ways.{Way, gives, traps, stops, errs, strays, after, pure, stray}
use Rattle.own_ways.specs.Ways as ways
use Rattle.core_form.specs.CoreSource.{At, mine, next, common, far, Word, constant, load, local, address, arithmetic, negate, compare, pick, following, read_int, Form, Pieces, no_pieces, text_piece, words_in, Code, Function, wrap}
use Rattle.core_form.specs.CoreRun.{State, Act, Flow, on, out, place, inside, after_address, tested, word, is_zero, combined, taken, Enter, act, acts, values}
use Rattle.core_form.specs.CoreRun as core
use Rattle.low_laws.specs.Lower.{bits, access, place_code, displacement, word_code, form_code, forms_code, compare_code, in_if, hosts, function_entry, wrap_code, pieces_code, Round, label}
use Rattle.low_laws.specs.declared.places.TheConstants.{LOCALS}
use Rattle.core_form.specs.Sizes.{IsInt, AreInts, pieces_height, word_height, form_height, height}
use Rattle.low_laws.specs.Shows.{long, Shows, others_of, byte_of, HasRoom}
use Rattle.wasm_laws.proofs.Stretches.{so, here, goes, comes_by, falls_by}
use Rattle.wasm_laws.proofs.Opcodes.{gets, loads, puts64, tests, wraps, extends, adds64, chooses, leaves}
use Rattle.wasm_laws.proofs.Opcodes as op
use Rattle.low_laws.proofs.Memory.{bits_small, signed_bits}
use Rattle.low_laws.proofs.Numbers.{zero_bits, machine_compares, compares_bits, natural_is_int, natural_bits, truth_is_int, eight, get_long, get_int, sum_wraps, difference_wraps, product_wraps, local_there, stacked, AreWords}
use Rattle.low_laws.proofs.Lands.{Spot, Reaches, Lands, behind, counted, Free, and_then, straight, changed, ticked, shows_ticked, also}
use Rattle.wasm_laws.specs.Stretches.{steps, Does, Comes}
use Rattle.wasm_laws.specs.Places.{at}
use Rattle.own_ways.specs.Arithmetic.{answered, compare_ints, wrapped}
use Rattle.core_form.specs.declared.limits.TheConstants.{AREA, FRAME, FRAMES}
use Rattle.wasm_form.specs.declared.limits.TheConstants.{MOST_FRAMES, MOST_OPERANDS}
use Rattle.own_tree.specs.declared.limits.TheConstants.{MOST_LEVELS}

-- what the code relies on in its module
pub record Serves (m : Module) (functions : List Function) : Type 0 where
  pub size : Limits
  pub memory : m.memories ≡ size ∷ []
  pub imports : m.imports ≡ hosts
  pub type : FunctionType
  pub takes : type.parameters ≡ value_type.I32 ∷ []
  pub leaves : type.result ≡ None
  pub typed : (f : ℕ) (g : Function) → slice_get functions f ≡ Some g → defined_type m f ≡ Some type
  pub table_size : Limits
  pub has_table : first_limits m.tables ≡ Some table_size
  pub own_type : slice_get m.types 1 ≡ Some type
  pub element : (f : ℕ) (g : Function) → slice_get functions f ≡ Some g → slice_get (table_of m) f ≡ Some (Some (6 + f))
  pub few : length functions < 2 ^ 32
  pub coded : (f : ℕ) (g : Function) → slice_get functions f ≡ Some g → slice_get m.codes f ≡ Some (function_entry g)

-- the import of a number
pub host_at : {m : Module} {functions : List Function} (k : ℕ) → Serves m functions → slice_get m.imports k ≡ slice_get hosts k
host_at k serves = ap (λ (is : List Import). slice_get is k) serves.imports

-- the number of a function behind the imports
pub behind_imports : {m : Module} {functions : List Function} (f : ℕ) → Serves m functions → 6 + f - length m.imports ≡ f
behind_imports f serves = ap (λ (is : List Import). 6 + f - length is) serves.imports ∙ omega arith

pub is_own : {m : Module} {functions : List Function} (f : ℕ) → Serves m functions → slice_get m.imports (6 + f) ≡ None
is_own f serves = ap (λ (is : List Import). slice_get is (6 + f)) serves.imports ∙ slice_get_past hosts (6 + f) (omega arith)

pub typed : {m : Module} {functions : List Function} (f : ℕ) (g : Function) (serves : Serves m functions) → slice_get functions f ≡ Some g → defined_type m (6 + f - length m.imports) ≡ Some serves.type
typed {m = m} f g serves e = ap (defined_type m) (behind_imports f serves) ∙ serves.typed f g e

pub coded : {m : Module} {functions : List Function} (f : ℕ) (g : Function) (serves : Serves m functions) → slice_get functions f ≡ Some g → slice_get m.codes (6 + f - length m.imports) ≡ Some (function_entry g)
coded {m = m} f g serves e = ap (slice_get m.codes) (behind_imports f serves) ∙ serves.coded f g e

module _ (m : Module) (functions : List Function) (serves : Serves m functions) (texts : List ℕ) (me : ℕ) (levels depth : ℕ) (deep : me + levels < MOST_LEVELS) where
  -- what holds where code begins: there is room for operands, the frames are the levels, and the machine shows the state
  pub record Ready (layers : List Layer) (vs : List Value) (more : ℕ) (s : State) (memory : List ℕ) (locals : List Value) : Type 0 where
    pub room : HasRoom layers vs more
    pub few : frames layers + levels ≡ MOST_FRAMES
    pub turns : s.turns ≤ depth
    pub shows : Shows texts me s memory locals

  -- ---- the spot after a place, a word and nothing

  abbrev pub place_spot : List Layer → List Instr → List Value → At → ℕ → Spot
  place_spot layers rest vs p a memory input locals = at m layers memory input rest (I32 (8 * a - 8 * displacement p) ∷ vs) locals

  abbrev pub word_spot : List Layer → List Instr → List Value → ℤ → Spot
  word_spot layers rest vs z memory input locals = at m layers memory input rest (long z ∷ vs) locals

  pub record IsPlace (p : At) (a : ℕ) : Type 0 where
    pub below : a < AREA
    pub apart : displacement p ≤ a

  abbrev pub PlaceLands : ℕ → State → Config → List Layer → List Instr → List Value → At → Way State ℕ → Type 0
  PlaceLands paid s c layers rest vs p r = Lands m (Shows texts me) {A = ℕ} Free (λ a w. place_spot layers rest vs p a) (IsPlace p) paid s c r

  abbrev pub WordLands : ℕ → State → Config → List Layer → List Instr → List Value → Way State ℤ → Type 0
  WordLands paid s c layers rest vs r = Lands m (Shows texts me) {A = ℤ} Free (λ z w. word_spot layers rest vs z) IsInt paid s c r

  -- ---- places

  module _ (layers : List Layer) (rest : List Instr) (vs : List Value) (s : State) (memory : List ℕ) (locals : List Value) (ready : Ready layers vs 2 s memory locals) where
    one : length vs + below_all layers < MOST_OPERANDS
    one = let r = ready.room in let f = ready.few in omega (arith, r, f)

    two : suc (length vs) + below_all layers < MOST_OPERANDS
    two = let r = ready.room in let f = ready.few in omega (arith, r, f)

    base_there : slice_get locals 0 ≡ Some (I32 (byte_of me))
    base_there = rw ready.shows.are refl

    -- one step to the base of a place of a frame
    frame_place : (p : At) (a : ℕ) → byte_of me ≡ 8 * a - 8 * displacement p → displacement p ≤ a → (t : Bool) → nat_lt a AREA ≡ t
        → PlaceLands 1 s (at m layers memory s.input (i.LocalGet 0 ∷ rest) vs locals) layers rest vs p (ways.pick t (pure a) stray s)
    frame_place p a base apart true lt = (record { below = ltb-true _ _ lt; apart = apart }, λ w. straight m (Shows texts me) 1 (omega arith) (goes (gets 0 (base_there ∙ ap (λ (n : ℕ). Some (I32 n)) base) one) here) ready.shows)
    frame_place p a base apart false lt = tt

  -- two steps more to the base that the word of a place holds
  far_lands : (p : At) (k a : ℕ) (layers : List Layer) (rest : List Instr) (vs : List Value) (s : State) (memory : List ℕ) (locals : List Value) → IsPlace p a → Shows texts me s memory locals → (z : ℤ) → s.words a ≡ z
      → PlaceLands 2 s (at m layers memory s.input (i.I64Load (access (displacement p)) ∷ i.I32WrapI64 ∷ rest) (I32 (8 * a - 8 * displacement p) ∷ vs) locals) layers rest vs (far p k) (after_address z k s)
  far_lands p k a layers rest vs s memory locals is shows (negsuc n) e = tt
  far_lands p k a layers rest vs s memory locals is shows (pos n) e = whole (n % 8 == 0) refl
    where
      begin : Config
      begin = at m layers memory s.input (i.I64Load (access (displacement p)) ∷ i.I32WrapI64 ∷ rest) (I32 (8 * a - 8 * displacement p) ∷ vs) locals

      inner : (n % 8 == 0) ≡ true → (t : Bool) → nat_lt (n / 8 + k) AREA ≡ t → PlaceLands 2 s begin layers rest vs (far p k) (ways.pick t (pure (n / 8 + k)) stray s)
      inner eights true below =
          let less : n / 8 + k < AREA = ltb-true _ _ below in
          let q : n + 8 * k ≡ 8 * (n / 8 + k) = eight n k eights in
          let small : n < 2 ^ 63 = omega (arith, less, q) in
          let apart = is.apart in
          let there : number_at w64 memory (8 * a - 8 * displacement p + 8 * displacement p) ≡ Some n =
          ap (number_at w64 memory) (omega (arith, apart)) ∙ shows.holds.each a is.below ∙ ap (λ (w : ℤ). Some (bits w)) e ∙ ap (λ (x : ℕ). Some x) (natural_bits n small) in
          let wrapped : n % 2 ^ 32 ≡ 8 * (n / 8 + k) - 8 * k = omega (arith, less, q) in
          (record { below = less; apart = omega arith }, λ w. straight m (Shows texts me) 2 (omega arith) (goes (loads _ serves.memory there) (goes (so wraps (ap (λ (x : ℕ). Goes (at m layers memory s.input rest (I32 x ∷ vs) locals)) wrapped)) here)) shows)
      inner eights false below = tt

      whole : (t : Bool) → (n % 8 == 0) ≡ t → PlaceLands 2 s begin layers rest vs (far p k) (ways.pick t (inside (n / 8 + k)) stray s)
      whole true eights = inner eights (nat_lt (n / 8 + k) AREA) refl
      whole false eights = tt

  pub place_lands : (p : At) (layers : List Layer) (rest : List Instr) (vs : List Value) (s : State) (memory : List ℕ) (locals : List Value) → Ready layers vs 2 s memory locals
      → PlaceLands 1 s (at m layers memory s.input (place_code p ++ rest) vs locals) layers rest vs p (place me p s)
  place_lands (mine o) layers rest vs s memory locals ready = frame_place layers rest vs s memory locals ready (mine o) (FRAME * me + o) (omega arith) (omega arith) (nat_lt (FRAME * me + o) AREA) refl
  place_lands (next o) layers rest vs s memory locals ready = frame_place layers rest vs s memory locals ready (next o) (FRAME * me + (FRAME + o)) (omega arith) (omega arith) (nat_lt (FRAME * me + (FRAME + o)) AREA) refl
  place_lands (common o) layers rest vs s memory locals ready = go (nat_lt (FRAMES + o) AREA) refl
    where
      room : length vs + below_all layers < MOST_OPERANDS
      room = let r = ready.room in let f = ready.few in omega (arith, r, f)

      none : 0 ≡ 8 * (FRAMES + o) - 8 * (FRAMES + o)
      none = omega arith

      go : (t : Bool) → nat_lt (FRAMES + o) AREA ≡ t → PlaceLands 1 s (at m layers memory s.input (i.I32Const 0 ∷ rest) vs locals) layers rest vs (common o) (ways.pick t (pure (FRAMES + o)) stray s)
      go true lt = (record { below = ltb-true _ _ lt; apart = omega arith }, λ w. straight m (Shows texts me) 1 (omega arith) (goes (so (op.puts32 room) (ap (λ (n : ℕ). Goes (at m layers memory s.input rest (I32 n ∷ vs) locals)) none)) here) ready.shows)
      go false lt = tt
  place_lands (far p k) layers rest vs s memory locals ready =
      counted m (Shows texts me) {A = ℕ} Free (λ a w. place_spot layers rest vs (far p k) a) (IsPlace (far p k)) 1 3 s (ticked s) _ _ refl refl refl (omega arith)
      (subst (λ (code : List Instr). PlaceLands 3 (ticked s) (at m layers memory s.input code vs locals) layers rest vs (far p k) (place_after (place me p (ticked s)))) (sym (append_assoc (place_code p) (i.I64Load (access (displacement p)) ∷ i.I32WrapI64 ∷ []) rest))
      (and_then m (Shows texts me) Free (λ a w. place_spot layers rest vs (far p k) a) (IsPlace (far p k)) 1 2 (place_spot layers (i.I64Load (access (displacement p)) ∷ i.I32WrapI64 ∷ rest) vs p) (IsPlace p) (ticked s) _ (place me p (ticked s)) _ (omega arith)
      (place_lands p layers (i.I64Load (access (displacement p)) ∷ i.I32WrapI64 ∷ rest) vs (ticked s) memory locals (record { room = ready.room; few = ready.few; turns = ready.turns; shows = shows_ticked ready.shows }))
      (λ a t memory' locals' is shows fewer. far_lands p k a layers rest vs t memory' locals' is shows (t.words a) refl)))
    where
      place_after : Way State ℕ → Way State ℕ
      place_after r = after r (λ a t. after_address (t.words a) k t)

  -- ---- words

  module _ (enter : Enter) where
    abbrev pub WordRuns : Word → Type 0
    WordRuns w = (ds : Round) (layers : List Layer) (rest : List Instr) (vs : List Value) (s : State) (memory : List ℕ) (locals : List Value) → Ready layers vs (word_height w) s memory locals
        → WordLands 0 s (at m layers memory s.input (word_code w ds ++ rest) vs locals) layers rest vs (word texts enter me depth w s)

    -- a word is counted, and what it does from then on lands
    word_counted : (layers : List Layer) (rest : List Instr) (vs : List Value) (s : State) (c : Config) (r : Way State ℤ) → WordLands 32 (ticked s) c layers rest vs r → WordLands 0 s c layers rest vs r
    word_counted layers rest vs s c r l = counted m (Shows texts me) _ _ _ 0 32 s (ticked s) c r refl refl refl (omega arith) l

    -- the machine's code by other brackets
    recode : (layers : List Layer) (rest : List Instr) (vs locals : List Value) (memory : List ℕ) (input : List ℤ) (s : State) (r : Way State ℤ) (is js : List Instr) → is ≡ js
        → WordLands 32 s (at m layers memory input js vs locals) layers rest vs r → WordLands 32 s (at m layers memory input is vs locals) layers rest vs r
    recode layers rest vs locals memory input s r is js e l =
        subst (λ (code : List Instr). WordLands 32 s (at m layers memory input code vs locals) layers rest vs r) (sym e) l

    three : (a b c rest : List Instr) → a ++ b ++ c ++ rest ≡ a ++ (b ++ (c ++ rest))
    three a b c rest = append_assoc (a ++ b) c rest ∙ append_assoc a b (c ++ rest)

    pub constant_runs : (z : ℤ) → WordRuns (constant z)
    constant_runs z ds layers rest vs s memory locals ready = word_counted layers rest vs s _ _ (go (is_int z) refl)
      where
        lt : length vs + below_all layers < MOST_OPERANDS
        lt = let r = ready.room in let f = ready.few in omega (arith, r, f)

        go : (t : Bool) → is_int z ≡ t → WordLands 32 (ticked s) (at m layers memory s.input (i.I64Const (bits z) ∷ rest) vs locals) layers rest vs (ways.pick t (pure z) stray (ticked s))
        go true e = (e, λ w. straight m (Shows texts me) 1 (omega arith) (goes (puts64 lt) here) (shows_ticked ready.shows))
        go false e = tt

    -- what is ready is so where a form was counted, and where less room is asked for
    ready_on : {layers : List Layer} {vs : List Value} {more : ℕ} {s : State} {memory : List ℕ} {locals : List Value} (less : ℕ) → less ≤ more → Ready layers vs more s memory locals → Ready layers vs less (ticked s) memory locals
    ready_on less le ready = record { room = let r = ready.room in omega (arith, r, le); few = ready.few; turns = ready.turns; shows = shows_ticked ready.shows }

    pub load_runs : (p : At) → WordRuns (load p)
    load_runs p ds layers rest vs s memory locals ready = word_counted layers rest vs s _ _ (recode layers rest vs locals memory s.input (ticked s) _ _ _ (append_assoc (place_code p) (i.I64Load (access (displacement p)) ∷ []) rest)
        (and_then m (Shows texts me) Free (λ z w. word_spot layers rest vs z) IsInt 1 1 (place_spot layers (i.I64Load (access (displacement p)) ∷ rest) vs p) (IsPlace p) (ticked s) _ (place me p (ticked s)) _ (omega arith)
        (place_lands p layers (i.I64Load (access (displacement p)) ∷ rest) vs (ticked s) memory locals (ready_on 2 (omega arith) ready))
        (λ a t memory' locals' is shows fewer.
        let there : number_at w64 memory' (8 * a - 8 * displacement p + 8 * displacement p) ≡ Some (bits (t.words a)) = ap (number_at w64 memory') (let q = is.apart in omega (arith, q)) ∙ shows.holds.each a is.below in
        (shows.holds.whole a, λ w. straight m (Shows texts me) 1 (omega arith) (goes (loads _ serves.memory there) here) shows))))

    pub local_runs : (x : ℕ) → WordRuns (local x)
    local_runs x ds layers rest vs s memory locals ready = word_counted layers rest vs s _ _ (go (slice_get s.locals x) refl)
      where
        lt : length vs + below_all layers < MOST_OPERANDS
        lt = let r = ready.room in let f = ready.few in omega (arith, r, f)

        there : (z : ℤ) → slice_get s.locals x ≡ Some z → slice_get locals (LOCALS + x) ≡ Some (long z)
        there z e = rw ready.shows.are (local_there (byte_of me) ready.shows.scratch x s.locals ∙ get_long s.locals x z e)

        go : (o : Option ℤ) → slice_get s.locals x ≡ o → WordLands 32 (ticked s) (at m layers memory s.input (i.LocalGet (LOCALS + x) ∷ rest) vs locals) layers rest vs (ways.or_stray o (ticked s))
        go (Some z) e = (get_int s.locals x z ready.shows.locals_whole e, λ w. straight m (Shows texts me) 1 (omega arith) (goes (gets _ (there z e) lt) here) (shows_ticked ready.shows))
        go None e = tt

    pub address_runs : (p : At) → WordRuns (address p)
    address_runs p ds layers rest vs s memory locals ready = word_counted layers rest vs s _ _ (recode layers rest vs locals memory s.input (ticked s) _ _ _ (append_assoc (place_code p) (i.I64ExtendI32U ∷ i.I64Const (8 * displacement p) ∷ i.I64Add ∷ []) rest)
        (and_then m (Shows texts me) Free (λ z w. word_spot layers rest vs z) IsInt 1 3 (place_spot layers (i.I64ExtendI32U ∷ i.I64Const (8 * displacement p) ∷ i.I64Add ∷ rest) vs p) (IsPlace p) (ticked s) _ (place me p (ticked s)) _ (omega arith)
        (place_lands p layers (i.I64ExtendI32U ∷ i.I64Const (8 * displacement p) ∷ i.I64Add ∷ rest) vs (ticked s) memory locals (ready_on 2 (omega arith) ready))
        (λ a t memory' locals' is shows fewer.
        let small = is.below in
        let apart = is.apart in
        let lt : suc (length vs) + below_all layers < MOST_OPERANDS = let r = ready.room in let f = ready.few in omega (arith, r, f) in
        let sum : iadd w64 (8 * a - 8 * displacement p) (8 * displacement p) ≡ bits (pos (8 * a)) = omega (arith, small, apart) ∙ sym (natural_bits (8 * a) (omega (arith, small))) in
        (natural_is_int (8 * a) (omega (arith, small)), λ w. straight m (Shows texts me) 3 (omega arith) (goes extends (goes (puts64 lt) (goes (so adds64 (ap (λ (x : ℕ). Goes (at m layers memory' t.input rest (I64 x ∷ vs) locals')) sum)) here))) shows))))

    -- ---- arithmetic

    -- the operation of operands that stand on the stack, of which the second is the topmost
    settles : (o : Arith) (place : ℕ) (p q : ℤ) (layers : List Layer) (rest : List Instr) (vs : List Value) (s : State) (memory : List ℕ) (locals : List Value) → IsInt p → IsInt q
        → length vs + below_all layers + 4 ≤ MOST_OPERANDS → Shows texts me s memory locals
        → WordLands 26 s (at m layers memory s.input (checked_code o place ++ rest) (with_operands o (bits p) (bits q) vs) locals) layers rest vs (answered place (exact o p q) s)
    settles o place p q layers rest vs s memory locals hp hq room shows =
        subst (λ (ls : List Value). WordLands 26 s (start ls) layers rest vs (answered place (exact o p q) s)) (sym shows.are) (go (exact o p q) refl (did.4 ∙ ap (λ (e : Exact). met e place onto) (ap (λ (x : ℤ). exact o x (cast_signed w64 (bits q))) (signed_bits p hp) ∙ ap (exact o p) (signed_bits q hq))))
      where
        start : List Value → Config
        start ls = at m layers memory s.input (checked_code o place ++ rest) (with_operands o (bits p) (bits q) vs) ls

        did : (n one other : ℕ) × (n ≤ 26) × (steps m n (places.on (at m layers memory s.input [] [] []) (checked_code o place ++ rest) (with_operands o (bits p) (bits q) vs) (locals_with (I32 (byte_of me)) shows.scratch.one shows.scratch.other (others_of shows.scratch s.locals)))
            ≡ met (exact o (cast_signed w64 (bits p)) (cast_signed w64 (bits q))) place (λ z. places.on (at m layers memory s.input [] [] []) rest (I64 (cast_unsigned w64 z) ∷ vs) (locals_with (I32 (byte_of me)) one other (others_of shows.scratch s.locals))))
        did = (all_checked o place).does m (at m layers memory s.input [] [] []) rest vs (I32 (byte_of me)) shows.scratch.one shows.scratch.other (others_of shows.scratch s.locals) (bits p) (bits q) (_, host_at 5 serves, refl) (bits_small p hp) (bits_small q hq) room

        onto : ℤ → Config
        onto z = places.on (at m layers memory s.input [] [] []) rest (I64 (cast_unsigned w64 z) ∷ vs) (locals_with (I32 (byte_of me)) did.1 did.2 (others_of shows.scratch s.locals))

        after_it : Shows texts me s memory (locals_with (I32 (byte_of me)) did.1 did.2 (others_of shows.scratch s.locals))
        after_it = record { holds = shows.holds; scratch = record { one = did.1; other = did.2; from = shows.scratch.from; to = shows.scratch.to; left = shows.scratch.left; kept = shows.scratch.kept; all_kept = shows.scratch.all_kept }; are = refl; locals_whole = shows.locals_whole; input_whole = shows.input_whole }

        go : (e : Exact) → exact o p q ≡ e → steps m did.0 (start (locals_with (I32 (byte_of me)) shows.scratch.one shows.scratch.other (others_of shows.scratch s.locals))) ≡ met e place onto → WordLands 26 s (start (locals_with (I32 (byte_of me)) shows.scratch.one shows.scratch.other (others_of shows.scratch s.locals))) layers rest vs (answered place e s)
        go (Gives z) is h = (exact_is_int o p q z hp is, λ w. straight m (Shows texts me) did.0 did.3 (comes_by did.0 h) after_it)
        go (Fails code) is h = record { steps = did.0; text = []; falls = falls_by did.0 h; log = sym (append-nil s.log); most = let le = did.3 in omega (arith, le) }

    settles_two : (o : Arith) (place : ℕ) (p q : ℤ) (layers : List Layer) (rest : List Instr) (vs : List Value) (s : State) (memory : List ℕ) (locals : List Value) → IsInt p → IsInt q
        → length vs + below_all layers + 4 ≤ MOST_OPERANDS → Shows texts me s memory locals
        → WordLands 26 s (at m layers memory s.input (checked_code o place ++ rest) (long q ∷ long p ∷ vs) locals) layers rest vs (combined o place p q s)
    settles_two Add place p q layers rest vs s memory locals hp hq room shows = settles Add place p q layers rest vs s memory locals hp hq room shows
    settles_two Sub place p q layers rest vs s memory locals hp hq room shows = settles Sub place p q layers rest vs s memory locals hp hq room shows
    settles_two Mul place p q layers rest vs s memory locals hp hq room shows = settles Mul place p q layers rest vs s memory locals hp hq room shows
    settles_two Div place p q layers rest vs s memory locals hp hq room shows = settles Div place p q layers rest vs s memory locals hp hq room shows
    settles_two Rem place p q layers rest vs s memory locals hp hq room shows = settles Rem place p q layers rest vs s memory locals hp hq room shows
    settles_two Neg place p q layers rest vs s memory locals hp hq room shows = tt

    -- what is ready after a part, from what was before it
    ready_after : {layers : List Layer} {vs us : List Value} {more : ℕ} {s t : State} {memory memory' : List ℕ} {locals locals' : List Value} (need : ℕ) → length us + need ≤ length vs + more → t.turns ≤ s.turns → Shows texts me t memory' locals' → Ready layers vs more s memory locals → Ready layers us need t memory' locals'
    ready_after need le fewer shows ready = record { room = let r = ready.room in omega (arith, r, le); few = ready.few; turns = let q = ready.turns in omega (arith, q, fewer); shows = shows }

    pub arithmetic_runs : (o : Arith) (place : ℕ) (a b : Word) → WordRuns a → WordRuns b → WordRuns (arithmetic o place a b)
    arithmetic_runs o place a b first second ds layers rest vs s memory locals ready = word_counted layers rest vs s _ _ (recode layers rest vs locals memory s.input (ticked s) _ _ _ (three (word_code a ds) (word_code b ds) (checked_code o place) rest)
        (and_then m (Shows texts me) Free (λ z w. word_spot layers rest vs z) IsInt 0 26 (word_spot layers (word_code b ds ++ (checked_code o place ++ rest)) vs) IsInt (ticked s) _ (word texts enter me depth a (ticked s)) _ (omega arith)
        (first ds layers (word_code b ds ++ (checked_code o place ++ rest)) vs (ticked s) memory locals (ready_on (word_height a) (omega arith) ready))
        (λ x t memory' locals' hx shows fewer.
        and_then m (Shows texts me) Free (λ z w. word_spot layers rest vs z) IsInt 0 26 (word_spot layers (checked_code o place ++ rest) (long x ∷ vs)) IsInt t _ (word texts enter me depth b t) _ (omega arith)
        (second ds layers (checked_code o place ++ rest) (long x ∷ vs) t memory' locals' (ready_after (word_height b) (omega arith) fewer shows ready))
        (λ y u memory'' locals'' hy shows' fewer'.
        settles_two o place x y layers rest vs u memory'' locals'' hx hy (let r = ready.room in let f = ready.few in omega (arith, r, f)) shows'))))

    pub negate_runs : (place : ℕ) (a : Word) → WordRuns a → WordRuns (negate place a)
    negate_runs place a first ds layers rest vs s memory locals ready = word_counted layers rest vs s _ _ (recode layers rest vs locals memory s.input (ticked s) _ _ _ (append_assoc (word_code a ds) (checked_code Neg place) rest)
        (and_then m (Shows texts me) Free (λ z w. word_spot layers rest vs z) IsInt 0 26 (word_spot layers (checked_code Neg place ++ rest) vs) IsInt (ticked s) _ (word texts enter me depth a (ticked s)) _ (omega arith)
        (first ds layers (checked_code Neg place ++ rest) vs (ticked s) memory locals (ready_on (word_height a) (omega arith) ready))
        (λ x t memory' locals' hx shows fewer.
        settles Neg place (pos 0) x layers rest vs t memory' locals' refl hx (let r = ready.room in let f = ready.few in omega (arith, r, f)) shows)))

    -- ---- modulo 2 ^ 64

    wraps_two : (o : Arith) (x y : ℤ) (layers : List Layer) (rest : List Instr) (vs : List Value) (s : State) (memory : List ℕ) (locals : List Value) → IsInt x → IsInt y → Shows texts me s memory locals
        → WordLands 1 s (at m layers memory s.input (wrap_code o ∷ rest) (long y ∷ long x ∷ vs) locals) layers rest vs (wrapped o x y s)
    wraps_two Add x y layers rest vs s memory locals hx hy shows = let e = sum_wraps x y hx hy in (e.1, λ w. straight m (Shows texts me) 1 (omega arith) (goes (so adds64 (ap (λ (n : ℕ). Goes (at m layers memory s.input rest (I64 n ∷ vs) locals)) e.0)) here) shows)
    wraps_two Sub x y layers rest vs s memory locals hx hy shows = let e = difference_wraps x y hx hy in (e.1, λ w. straight m (Shows texts me) 1 (omega arith) (goes (so op.subtracts64 (ap (λ (n : ℕ). Goes (at m layers memory s.input rest (I64 n ∷ vs) locals)) e.0)) here) shows)
    wraps_two Mul x y layers rest vs s memory locals hx hy shows = let e = product_wraps x y hx hy in (e.1, λ w. straight m (Shows texts me) 1 (omega arith) (goes (so op.multiplies64 (ap (λ (n : ℕ). Goes (at m layers memory s.input rest (I64 n ∷ vs) locals)) e.0)) here) shows)
    wraps_two Div x y layers rest vs s memory locals hx hy shows = tt
    wraps_two Rem x y layers rest vs s memory locals hx hy shows = tt
    wraps_two Neg x y layers rest vs s memory locals hx hy shows = tt

    pub wrap_runs : (o : Arith) (a b : Word) → WordRuns a → WordRuns b → WordRuns (wrap o a b)
    wrap_runs o a b first second ds layers rest vs s memory locals ready = word_counted layers rest vs s _ _ (recode layers rest vs locals memory s.input (ticked s) _ _ _ (three (word_code a ds) (word_code b ds) (wrap_code o ∷ []) rest)
        (and_then m (Shows texts me) Free (λ z w. word_spot layers rest vs z) IsInt 0 1 (word_spot layers (word_code b ds ++ (wrap_code o ∷ rest)) vs) IsInt (ticked s) _ (word texts enter me depth a (ticked s)) _ (omega arith)
        (first ds layers (word_code b ds ++ (wrap_code o ∷ rest)) vs (ticked s) memory locals (ready_on (word_height a) (omega arith) ready))
        (λ x t memory' locals' hx shows fewer.
        and_then m (Shows texts me) Free (λ z w. word_spot layers rest vs z) IsInt 0 1 (word_spot layers (wrap_code o ∷ rest) (long x ∷ vs)) IsInt t _ (word texts enter me depth b t) _ (omega arith)
        (second ds layers (wrap_code o ∷ rest) (long x ∷ vs) t memory' locals' (ready_after (word_height b) (omega arith) fewer shows ready))
        (λ y u memory'' locals'' hy shows' fewer'. wraps_two o x y layers rest vs u memory'' locals'' hx hy shows'))))

    -- ---- comparison

    compares : (o : Comparison) (a b : ℕ) (layers : List Layer) (memory : List ℕ) (input : List ℤ) (rest : List Instr) (vs locals : List Value)
        → Does m (at m layers memory input (compare_code o ∷ rest) (I64 b ∷ I64 a ∷ vs) locals) (Goes (at m layers memory input rest (truth (machine_compares o a b) ∷ vs) locals))
    compares comparison.Equal a b layers memory input rest vs locals = op.equals
    compares comparison.Unequal a b layers memory input rest vs locals = op.differs
    compares comparison.Less a b layers memory input rest vs locals = op.is_less
    compares comparison.LessEqual a b layers memory input rest vs locals = op.is_at_most
    compares comparison.Greater a b layers memory input rest vs locals = op.is_greater
    compares comparison.GreaterEqual a b layers memory input rest vs locals = op.is_at_least

    extends_truth : (t : Bool) {layers : List Layer} {memory : List ℕ} {input : List ℤ} {rest : List Instr} {vs locals : List Value}
        → Does m (at m layers memory input (i.I64ExtendI32U ∷ rest) (truth t ∷ vs) locals) (Goes (at m layers memory input rest (long (core.truth t) ∷ vs) locals))
    extends_truth true = extends
    extends_truth false = extends

    pub compare_runs : (o : Comparison) (a b : Word) → WordRuns a → WordRuns b → WordRuns (compare o a b)
    compare_runs o a b first second ds layers rest vs s memory locals ready = word_counted layers rest vs s _ _ (recode layers rest vs locals memory s.input (ticked s) _ _ _ (three (word_code a ds) (word_code b ds) (compare_code o ∷ i.I64ExtendI32U ∷ []) rest)
        (and_then m (Shows texts me) Free (λ z w. word_spot layers rest vs z) IsInt 0 2 (word_spot layers (word_code b ds ++ (compare_code o ∷ i.I64ExtendI32U ∷ rest)) vs) IsInt (ticked s) _ (word texts enter me depth a (ticked s)) _ (omega arith)
        (first ds layers (word_code b ds ++ (compare_code o ∷ i.I64ExtendI32U ∷ rest)) vs (ticked s) memory locals (ready_on (word_height a) (omega arith) ready))
        (λ x t memory' locals' hx shows fewer.
        and_then m (Shows texts me) Free (λ z w. word_spot layers rest vs z) IsInt 0 2 (word_spot layers (compare_code o ∷ i.I64ExtendI32U ∷ rest) (long x ∷ vs)) IsInt t _ (word texts enter me depth b t) _ (omega arith)
        (second ds layers (compare_code o ∷ i.I64ExtendI32U ∷ rest) (long x ∷ vs) t memory' locals' (ready_after (word_height b) (omega arith) fewer shows ready))
        (λ y u memory'' locals'' hy shows' fewer'.
        (truth_is_int (compare_ints o x y), λ w. straight m (Shows texts me) 2 (omega arith) (goes (so (compares o (bits x) (bits y) layers memory'' u.input (i.I64ExtendI32U ∷ rest) vs locals'') (ap (λ (t : Bool). Goes (at m layers memory'' u.input (i.I64ExtendI32U ∷ rest) (truth t ∷ vs) locals'')) (compares_bits o x y hx hy))) (goes (extends_truth (compare_ints o x y)) here)) shows')))))

    -- ---- a choice

    -- a side of the choice, inside the label of its if
    side_lands : (w : Word) → WordRuns w → (ds : Round) (layers : List Layer) (rest : List Instr) (vs : List Value) (s : State) (memory : List ℕ) (locals : List Value) → Ready layers vs (word_height w) s memory locals
        → WordLands 1 s (at m (Label vs (Some value_type.I64) rest rest ∷ layers) memory s.input (word_code w ds) [] locals) layers rest vs (word texts enter me depth w s)
    side_lands w runs ds layers rest vs s memory locals ready =
        also m (Shows texts me) Free (λ z q. word_spot (Label vs (Some value_type.I64) rest rest ∷ layers) [] [] z) (λ z q. word_spot layers rest vs z) IsInt 1 0 s _ (word texts enter me depth w s) (omega arith)
        (λ z q memory' input' locals'. goes leaves here)
        (subst (λ (code : List Instr). WordLands 0 s (at m (Label vs (Some value_type.I64) rest rest ∷ layers) memory s.input code [] locals) (Label vs (Some value_type.I64) rest rest ∷ layers) [] [] (word texts enter me depth w s)) (append-nil (word_code w ds))
        (runs ds (Label vs (Some value_type.I64) rest rest ∷ layers) [] [] s memory locals (record { room = let r = ready.room in omega (arith, r); few = ready.few; turns = ready.turns; shows = ready.shows })))

    pub pick_runs : (c a b : Word) → WordRuns c → WordRuns a → WordRuns b → WordRuns (pick c a b)
    pick_runs c a b test first second ds layers rest vs s memory locals ready = word_counted layers rest vs s _ _ (recode layers rest vs locals memory s.input (ticked s) _ _ _ (append_assoc (word_code c ds) (i.I64Eqz ∷ choice ∷ []) rest)
        (and_then m (Shows texts me) Free (λ z w. word_spot layers rest vs z) IsInt 0 3 (word_spot layers (i.I64Eqz ∷ choice ∷ rest) vs) IsInt (ticked s) _ (word texts enter me depth c (ticked s)) _ (omega arith)
        (test ds layers (i.I64Eqz ∷ choice ∷ rest) vs (ticked s) memory locals (ready_on (word_height c) (omega arith) ready))
        (λ z t memory' locals' hz shows fewer. go z t memory' locals' hz shows fewer (is_zero z) (zero_bits z hz))))
      where
        choice : Instr
        choice = i.If (Some value_type.I64) (word_code b (in_if ds)) (word_code a (in_if ds))

        go : (z : ℤ) (t : State) (memory' : List ℕ) (locals' : List Value) → IsInt z → Shows texts me t memory' locals' → t.turns ≤ s.turns → (q : Bool) → ieqz (bits z) ≡ q
            → WordLands 3 t (at m layers memory' t.input (i.I64Eqz ∷ choice ∷ rest) (long z ∷ vs) locals') layers rest vs (ways.pick q (word texts enter me depth b) (word texts enter me depth a) t)
        go z t memory' locals' hz shows fewer true e =
            behind m (Shows texts me) Free (λ y w. word_spot layers rest vs y) IsInt 2 1 t t _ (λ mem input ls. at m (Label vs (Some value_type.I64) rest rest ∷ layers) mem input (word_code b (in_if ds)) [] ls) (word texts enter me depth b t) (omega arith)
            (straight m (Shows texts me) 2 (omega arith) (goes (so tests (ap (λ (q : Bool). Goes (at m layers memory' t.input (choice ∷ rest) (truth q ∷ vs) locals')) e)) (goes (chooses _ _) here)) shows)
            (side_lands b second (in_if ds) layers rest vs t memory' locals' (ready_after (word_height b) (omega arith) fewer shows ready))
        go z t memory' locals' hz shows fewer false e =
            behind m (Shows texts me) Free (λ y w. word_spot layers rest vs y) IsInt 2 1 t t _ (λ mem input ls. at m (Label vs (Some value_type.I64) rest rest ∷ layers) mem input (word_code a (in_if ds)) [] ls) (word texts enter me depth a t) (omega arith)
            (straight m (Shows texts me) 2 (omega arith) (goes (so tests (ap (λ (q : Bool). Goes (at m layers memory' t.input (choice ∷ rest) (truth q ∷ vs) locals')) e)) (goes (chooses _ _) here)) shows)
            (side_lands a first (in_if ds) layers rest vs t memory' locals' (ready_after (word_height a) (omega arith) fewer shows ready))

    -- ---- input

    pub read_runs : WordRuns read_int
    read_runs ds layers rest vs s memory locals ready = word_counted layers rest vs s _ _ (go s.input refl ready.shows.input_whole)
      where
        lt : length vs + below_all layers < MOST_OPERANDS
        lt = let r = ready.room in let f = ready.few in omega (arith, r, f)

        without : State → List ℤ → State
        without t zs = record t { input = zs }

        go : (zs : List ℤ) → s.input ≡ zs → AreInts zs → WordLands 32 (ticked s) (at m layers memory s.input (i.Call 4 ∷ rest) vs locals) layers rest vs (taken zs (ticked s))
        go [] e are = (
          refl,
          λ w. straight m (Shows texts me) 1 (omega arith)
              (subst (λ (xs : List ℤ). Comes m 1 [] (at m layers memory xs (i.Call 4 ∷ rest) vs locals) (at m layers memory xs rest (I64 0 ∷ vs) locals)) (sym e) (goes (op.reads_none 4 (host_at 4 serves) refl lt) here)) (shows_ticked ready.shows),
        )
        go (z ∷ zs) e are = (
          are.0,
          λ w. changed m (Shows texts me) 1 (omega arith) refl refl refl
              (subst (λ (xs : List ℤ). Comes m 1 [] (at m layers memory xs (i.Call 4 ∷ rest) vs locals) (at m layers memory zs rest (long z ∷ vs) locals)) (sym e) (goes (op.reads_one 4 (host_at 4 serves) refl lt) here))
              (record { holds = ready.shows.holds; scratch = ready.shows.scratch; are = ready.shows.are; locals_whole = ready.shows.locals_whole; input_whole = are.1 }),
        )

    -- ---- the words of pieces

    abbrev pub values_spot : List Layer → List Instr → List Value → List ℤ → Spot
    values_spot layers rest vs zs memory input locals = at m layers memory input rest (stacked zs vs) locals

    abbrev pub ValuesLands : ℕ → State → Config → List Layer → List Instr → List Value → Pieces → Way State (List ℤ) → Type 0
    ValuesLands paid s c layers rest vs ps r = Lands m (Shows texts me) {A = List ℤ} Free (λ zs w. values_spot layers rest vs zs) (AreWords ps) paid s c r

    abbrev pub PiecesRun : Pieces → Type 0
    PiecesRun ps = (ds : Round) (layers : List Layer) (rest : List Instr) (vs : List Value) (s : State) (memory : List ℕ) (locals : List Value) → Ready layers vs (pieces_height ps) s memory locals
        → ValuesLands 0 s (at m layers memory s.input (pieces_code ps ds ++ rest) vs locals) layers rest vs ps (values texts enter me depth ps s)

    pub no_pieces_run : PiecesRun no_pieces
    no_pieces_run ds layers rest vs s memory locals ready = (record { ints = tt; all = refl }, λ w. straight m (Shows texts me) 0 (omega arith) here ready.shows)

    pub text_piece_runs : (from size : ℕ) (ps : Pieces) → PiecesRun ps → PiecesRun (text_piece from size ps)
    text_piece_runs from size ps more ds layers rest vs s memory locals ready = again (values texts enter me depth ps s) (more ds layers rest vs s memory locals ready)
      where
        again : (r : Way State (List ℤ)) → ValuesLands 0 s (at m layers memory s.input (pieces_code ps ds ++ rest) vs locals) layers rest vs ps r → ValuesLands 0 s (at m layers memory s.input (pieces_code ps ds ++ rest) vs locals) layers rest vs (text_piece from size ps) r
        again (gives zs t) l = (record { ints = l.0.ints; all = l.0.all }, l.1)
        again (traps code at t) l = l
        again (stops t) l = l
        again (errs t) l = l
        again (strays t) l = l

    -- one word, and then those of the other pieces
    pub word_before : (w : Word) (ps qs : Pieces) → words_in qs ≡ suc (words_in ps) → WordRuns w → PiecesRun ps → (ds : Round) (layers : List Layer) (rest : List Instr) (vs : List Value) (s : State) (memory : List ℕ) (locals : List Value)
        → Ready layers vs (max (word_height w) (1 + pieces_height ps)) s memory locals
        → ValuesLands 0 s (at m layers memory s.input (word_code w ds ++ pieces_code ps ds ++ rest) vs locals) layers rest vs qs (after (word texts enter me depth w s) (λ z t. after (values texts enter me depth ps t) (λ zs. pure (z ∷ zs))))
    word_before w ps qs one_more first more ds layers rest vs s memory locals ready =
        subst (λ (code : List Instr). ValuesLands 0 s (at m layers memory s.input code vs locals) layers rest vs qs (after (word texts enter me depth w s) (λ z t. after (values texts enter me depth ps t) (λ zs. pure (z ∷ zs))))) (sym (append_assoc (word_code w ds) (pieces_code ps ds) rest))
        (and_then m (Shows texts me) Free (λ zs q. values_spot layers rest vs zs) (AreWords qs) 0 0 (word_spot layers (pieces_code ps ds ++ rest) vs) IsInt s _ (word texts enter me depth w s) _ (omega arith)
        (first ds layers (pieces_code ps ds ++ rest) vs s memory locals (ready_less (word_height w) (omega arith) ready))
        (λ z t memory' locals' hz shows fewer.
        and_then m (Shows texts me) Free (λ zs q. values_spot layers rest vs zs) (AreWords qs) 0 0 (values_spot layers rest (long z ∷ vs)) (AreWords ps) t _ (values texts enter me depth ps t) _ (omega arith)
        (more ds layers rest (long z ∷ vs) t memory' locals' (ready_after (pieces_height ps) (omega arith) fewer shows ready))
        (λ zs u memory'' locals'' are shows' fewer'. (record { ints = (hz, are.ints); all = ap suc are.all ∙ sym one_more }, λ q. straight m (Shows texts me) 0 (omega arith) here shows'))))
      where
        ready_less : (less : ℕ) → less ≤ max (word_height w) (1 + pieces_height ps) → Ready layers vs (max (word_height w) (1 + pieces_height ps)) s memory locals → Ready layers vs less s memory locals
        ready_less less le ready = record { room = let r = ready.room in omega (arith, r, le); few = ready.few; turns = ready.turns; shows = ready.shows }

    -- ---- how code of forms lands

    -- where a jump goes that leaves so many labels of the core
    pub record Target (ds : Round) (layers : List Layer) (k : ℕ) : Type 0 where
      pub values : List Value
      pub target : List Instr
      pub past : List Instr
      pub round : List Layer
      pub is : target_of (Some (label ds k)) layers ≡ Some (Label values None target past, round)

    abbrev pub FlowAsks : Round → List Layer → Flow → Type 0
    FlowAsks ds layers on = Unit {0}
    FlowAsks ds layers (out k) = Target ds layers k

    abbrev pub flow_spot : (ds : Round) (layers : List Layer) → List Instr → List Value → (f : Flow) → FlowAsks ds layers f → Spot
    flow_spot ds layers rest vs on w = λ memory input locals. at m layers memory input rest vs locals
    flow_spot ds layers rest vs (out k) w = λ memory input locals. at m w.round memory input w.target w.values locals

    abbrev pub FlowLands : ℕ → State → Config → Round → List Layer → List Instr → List Value → Way State Flow → Type 0
    FlowLands paid s c ds layers rest vs r = Lands m (Shows texts me) {A = Flow} (FlowAsks ds layers) (flow_spot ds layers rest vs) Free paid s c r

    abbrev pub CodeRuns : Code → Type 0
    CodeRuns c = (ds : Round) (layers : List Layer) (rest : List Instr) (vs : List Value) (s : State) (memory : List ℕ) (locals : List Value) → Ready layers vs (height c) s memory locals
        → FlowLands 0 s (at m layers memory s.input (forms_code c ds ++ rest) vs locals) ds layers rest vs (acts texts enter me depth c s)

    abbrev pub FormRuns : Form → Type 0
    FormRuns f = (ds : Round) (layers : List Layer) (rest : List Instr) (vs : List Value) (s : State) (memory : List ℕ) (locals : List Value) → Ready layers vs (form_height f) s memory locals
        → FlowLands 32 s (at m layers memory s.input (form_code f ds ++ rest) vs locals) ds layers rest vs (act texts enter me depth f s)

    -- what follows code: what it does where that goes on, and the jump where it jumps
    pub and_on : {B : Type 0} (Asks : B → Type 0) (spot : (b : B) → Asks b → Spot) (Knows : B → Type 0) {n : ℕ} (paid more : ℕ) (ds : Round) (layers : List Layer) (rest : List Instr) (vs : List Value) (s : State) (c : Config) (r : Way State Flow) (f : Flow → Act B) → paid + more ≤ n
        → FlowLands paid s c ds layers rest vs r
        → ((t : State) (memory : List ℕ) (locals : List Value) → Shows texts me t memory locals → t.turns ≤ s.turns → Lands m (Shows texts me) Asks spot Knows more t (at m layers memory t.input rest vs locals) (f on t))
        → ((k : ℕ) (t : State) → ((w : Target ds layers k) → Reaches m (Shows texts me) paid s t c (flow_spot ds layers rest vs (out k) w)) → Lands m (Shows texts me) Asks spot Knows n s c (f (out k) t))
        → Lands m (Shows texts me) Asks spot Knows n s c (after r f)
    and_on Asks spot Knows paid more ds layers rest vs s c (gives on t) f le l onward away =
        let x = l.1 tt in behind m (Shows texts me) Asks spot Knows paid more s t c (λ memory input locals. at m layers memory input rest vs locals) (f on t) le x (onward t x.memory x.locals x.shows x.fewer)
    and_on Asks spot Knows paid more ds layers rest vs s c (gives (out k) t) f le l onward away = away k t (λ w. l.1 w)
    and_on Asks spot Knows paid more ds layers rest vs s c (traps code at t) f le y onward away = record { steps = y.steps; text = y.text; falls = y.falls; log = y.log; most = let q = y.most in omega (arith, q, le) }
    and_on Asks spot Knows paid more ds layers rest vs s c (stops t) f le y onward away = record { steps = y.steps; text = y.text; last = y.last; comes = y.comes; log = y.log; most = let q = y.most in omega (arith, q, le); least = y.least; none = y.none }
    and_on Asks spot Knows paid more ds layers rest vs s c (errs t) f le y onward away = tt
    and_on Asks spot Knows paid more ds layers rest vs s c (strays t) f le y onward away = tt

    pub first_runs : (c : Code) (w : Word) → CodeRuns c → WordRuns w → WordRuns (following c w)
    first_runs c w forms runs ds layers rest vs s memory locals ready = word_counted layers rest vs s _ _ (recode layers rest vs locals memory s.input (ticked s) _ _ _ (append_assoc (forms_code c ds) (word_code w ds) rest)
        (and_on Free (λ z q. word_spot layers rest vs z) IsInt 0 0 ds layers (word_code w ds ++ rest) vs (ticked s) _ (acts texts enter me depth c (ticked s)) _ (omega arith)
        (forms ds layers (word_code w ds ++ rest) vs (ticked s) memory locals (ready_on (height c) (omega arith) ready))
        (λ t memory' locals' shows fewer. runs ds layers rest vs t memory' locals' (ready_after (word_height w) (omega arith) fewer shows ready))
        (λ k t l. tt)))
