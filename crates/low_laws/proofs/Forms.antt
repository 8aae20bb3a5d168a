-- The code of forms.
use Rattle.std.proofs.Common.{◌≡◌, ℕ, zero, suc, ◌+◌, ◌-◌, ◌*◌, ◌%◌, ◌^◌, ◌≤◌, ◌<◌, Bool, true, false, List, [], ◌∷◌, ◌++◌, Option, Some, None, refl, sym, ap, ◌∙◌, subst, arith, length, append_assoc, append-nil}
use Rattle.std.specs.Prelude.{ℤ, nat_lt, if◌then◌else◌, slice_get, slice_set, codes, take, drop, not, negsuc, pos}
use Rattle.std.specs.Int.{w64, w32}
use Rattle.std.proofs.lemmas.Bool.{ltb-true, ltb-false}
use Rattle.std.proofs.lemmas.List.{take-append-le, drop-append-le, drop-drop, length-append, length-drop}
use Rattle.std.specs.Fmt.{signed_decimal}
use Rattle.std.proofs.lemmas.Option.{slice_get_within}
use Rattle.wasm_form.specs.declared.instr.Instr.{Instr}
use Rattle.wasm_form.specs.declared.instr.Instr.TheVariants as i
use Rattle.wasm_form.specs.declared.module.Module.{Module}
use Rattle.wasm_form.specs.declared.types.Value.{Value}
use Rattle.wasm_form.specs.declared.types.Value.TheVariants.{I32, I64}
use Rattle.wasm_form.specs.Steps.{Config, Layer, Label, Goes, Writes, below_all, with_number, truth, step}
use Rattle.wasm_form.specs.Integers.{ieqz, iadd}
use Rattle.own_ways.specs.Ways.{Way, gives, traps, stops, errs, strays, after, ◌>>◌, pure, stray}
use Rattle.own_ways.specs.Ways as ways
use Rattle.core_form.specs.CoreSource.{At, mine, next, common, far, Word, constant, load, local, address, arithmetic, negate, compare, pick, following, read_int, Form, store, store_local, print, Pieces, no_pieces, text_piece, int_piece, bool_piece, words_in, when, block, loop, jump, call, call_word, copy, Code, nothing, form, Function, wrap, call_here}
use Rattle.core_form.specs.CoreSource as forms
use Rattle.core_form.specs.CoreRun.{State, Flow, on, out, place, word, is_zero, with_locals, copied, turning, again, caught, turn_or_stop, written, Enter, act, acts, numbered, values, say, ticks}
use Rattle.low_laws.specs.Lower.{bits, access, place_code, displacement, word_code, form_code, forms_code, in_if, in_block, copy_body, byte_code, moves_code, short_copy, long_copy, pieces_code, sets_code, say_code, Round}
use Rattle.low_laws.specs.declared.places.TheConstants.{LOCALS, MOST_PLAIN_WORDS}
use Rattle.core_form.specs.Sizes.{IsInt, AreInts, pieces_height, word_height, form_height, height}
use Rattle.low_laws.specs.Shows.{long, Holds, Shows, Scratch, locals_of, byte_of}
use Rattle.wasm_laws.proofs.Stretches as stretch
use Rattle.wasm_laws.proofs.Stretches.{so, here, goes, writes, falls_on, comes_on, comes_by, falls_by}
use Rattle.wasm_laws.proofs.Opcodes.{gets, sets, sets32, loads, stores, puts32, puts64, tests, tests32, adds32, chooses, leaves, blocks, loops, jumps, wraps}
use Rattle.wasm_laws.proofs.Opcodes as op
use Rattle.low_laws.proofs.Memory.{bits_whole, signed_bits, holds_store}
use Rattle.low_laws.proofs.Words.{Serves, host_at, Ready, place_lands, place_spot, word_spot, IsPlace, WordRuns, constant_runs, load_runs, local_runs, address_runs, arithmetic_runs, negate_runs, compare_runs, pick_runs, first_runs, read_runs, Target, FlowAsks, flow_spot, FlowLands, CodeRuns, FormRuns, and_on, PiecesRun, values_spot, no_pieces_run, text_piece_runs, word_before, is_own, typed, wrap_runs}
use Rattle.low_laws.proofs.Copies.{copies, moves}
use Rattle.low_laws.proofs.Numbers.{zero_bits, get_long, set_ints, natural_bits, local_there, local_set, stacked, AreWords, Keeps, keeps_other, kept_there, kept_set, keeping, get_within, get_set}
use Rattle.low_laws.proofs.Lands.{Spot, Reaches, Lands, behind, counted, Free, and_then, straight, changed, ticked, shows_ticked, turned}
use Rattle.wasm_laws.specs.Stretches.{Does, Comes}
use Rattle.wasm_laws.specs.Places.{at}
use Rattle.core_form.specs.declared.limits.TheConstants.{AREA, FRAME, MOST_PRINTED}
use Rattle.wasm_form.specs.declared.limits.TheConstants.{MOST_OPERANDS}
use Rattle.own_tree.specs.declared.limits.TheConstants.{MOST_LEVELS}

-- where a function is there, the one configuration steps as the other
abbrev pub Same : Module → List Function → ℕ → Config → Config → Type 0
Same m functions f c d = (g : Function) → slice_get functions f ≡ Some g → step m c ≡ step m d

abbrev nil : Unit {0}
nil = tt

module _ (m : Module) (functions : List Function) (serves : Serves m functions) (texts : List ℕ) (me : ℕ) (levels depth : ℕ) (deep : me + levels < MOST_LEVELS) (enter : Enter) where
  abbrev Lands_on : ℕ → State → Config → Round → List Layer → List Instr → List Value → Way State Flow → Type 0
  Lands_on paid s c ds layers rest vs r = FlowLands m functions serves texts me levels depth deep enter paid s c ds layers rest vs r

  abbrev IsReady : List Layer → List Value → ℕ → State → List ℕ → List Value → Type 0
  IsReady layers vs more s memory locals = Ready m functions serves texts me levels depth deep layers vs more s memory locals

  abbrev Runs_word : Word → Type 0
  Runs_word w = WordRuns m functions serves texts me levels depth deep enter w

  abbrev Runs_form : Form → Type 0
  Runs_form f = FormRuns m functions serves texts me levels depth deep enter f

  abbrev Runs_code : Code → Type 0
  Runs_code c = CodeRuns m functions serves texts me levels depth deep enter c

  abbrev after_word : List Layer → List Instr → List Value → ℤ → Spot
  after_word layers rest vs z = word_spot m functions serves texts me levels depth deep layers rest vs z

  abbrev after_place : List Layer → List Instr → List Value → At → ℕ → Spot
  after_place layers rest vs p a = place_spot m functions serves texts me levels depth deep layers rest vs p a

  abbrev asks : Round → List Layer → Flow → Type 0
  asks ds layers f = FlowAsks m functions serves texts me levels depth deep enter ds layers f

  abbrev spot_of : (ds : Round) (layers : List Layer) → List Instr → List Value → (f : Flow) → asks ds layers f → Spot
  spot_of ds layers rest vs f w = flow_spot m functions serves texts me levels depth deep enter ds layers rest vs f w

  -- the machine's code by other brackets
  recode : (paid : ℕ) (ds : Round) (layers : List Layer) (rest : List Instr) (vs locals : List Value) (memory : List ℕ) (input : List ℤ) (s : State) (r : Way State Flow) (is js : List Instr) → is ≡ js
      → Lands_on paid s (at m layers memory input js vs locals) ds layers rest vs r → Lands_on paid s (at m layers memory input is vs locals) ds layers rest vs r
  recode paid ds layers rest vs locals memory input s r is js e l =
      subst (λ (code : List Instr). Lands_on paid s (at m layers memory input code vs locals) ds layers rest vs r) (sym e) l

  ready_after : {layers : List Layer} {vs us : List Value} {more : ℕ} {s t : State} {memory memory' : List ℕ} {locals locals' : List Value} (need : ℕ) → length us + need ≤ length vs + more → t.turns ≤ s.turns → Shows texts me t memory' locals' → IsReady layers vs more s memory locals → IsReady layers us need t memory' locals'
  ready_after need le fewer shows ready = record { room = let r = ready.room in omega (arith, r, le); few = ready.few; turns = let q = ready.turns in omega (arith, q, fewer); shows = shows }

  three : (a b c rest : List Instr) → a ++ b ++ c ++ rest ≡ a ++ (b ++ (c ++ rest))
  three a b c rest = append_assoc (a ++ b) c rest ∙ append_assoc a b (c ++ rest)

  -- ---- stores

  pub store_runs : (p : At) (w : Word) → Runs_word w → Runs_form (store p w)
  store_runs p w runs ds layers rest vs s memory locals ready = recode 32 ds layers rest vs locals memory s.input s _ _ _ (three (place_code p) (word_code w ds) (i.I64Store (access (displacement p)) ∷ []) rest)
      (and_then m (Shows texts me) (asks ds layers) (spot_of ds layers rest vs) Free 1 1 (after_place layers (word_code w ds ++ (i.I64Store (access (displacement p)) ∷ rest)) vs p) (IsPlace m functions serves texts me levels depth deep p) s _ (place me p s) _ (omega arith)
      (place_lands m functions serves texts me levels depth deep p layers (word_code w ds ++ (i.I64Store (access (displacement p)) ∷ rest)) vs s memory locals (ready_after 2 (omega arith) (omega arith) ready.shows ready))
      (λ a t memory' locals' is shows fewer.
      and_then m (Shows texts me) (asks ds layers) (spot_of ds layers rest vs) Free 0 1 (after_word layers (i.I64Store (access (displacement p)) ∷ rest) (I32 (8 * a - 8 * displacement p) ∷ vs)) IsInt t _ (word texts enter me depth w t) _ (omega arith)
      (runs ds layers (i.I64Store (access (displacement p)) ∷ rest) (I32 (8 * a - 8 * displacement p) ∷ vs) t memory' locals' (ready_after (word_height w) (omega arith) fewer shows ready))
      (λ z u memory'' locals'' hz shows' fewer'.
      let below = is.below in
      let apart = is.apart in
      let exact : 8 * a - 8 * displacement p + 8 * displacement p ≡ 8 * a = omega (arith, apart) in
      let room : 8 * a - 8 * displacement p + 8 * displacement p + 8 ≤ length memory'' = let l = shows'.holds.room in omega (arith, l, below, exact) in (
        tt,
        λ q. changed m (Shows texts me) 1 (omega arith) refl refl refl
            (goes (so (stores _ serves.memory room) (ap (λ (mem : List ℕ). Goes (at m layers mem u.input rest vs locals'')) (ap (λ (n : ℕ). with_number w64 memory'' n (bits z % 2 ^ 64)) exact ∙ ap (λ (n : ℕ). with_number w64 memory'' (8 * a) n) (bits_whole z hz)))) here)
            (record { holds = holds_store texts u.words memory'' a z hz shows'.holds below; scratch = shows'.scratch; are = shows'.are; locals_whole = shows'.locals_whole; input_whole = shows'.input_whole }),
      ))))

  pub store_local_runs : (x : ℕ) (w : Word) → Runs_word w → Runs_form (store_local x w)
  store_local_runs x w runs ds layers rest vs s memory locals ready = recode 32 ds layers rest vs locals memory s.input s _ _ _ (append_assoc (word_code w ds) (i.LocalSet (LOCALS + x) ∷ []) rest)
      (and_then m (Shows texts me) (asks ds layers) (spot_of ds layers rest vs) Free 0 1 (after_word layers (i.LocalSet (LOCALS + x) ∷ rest) vs) IsInt s _ (word texts enter me depth w s) _ (omega arith)
      (runs ds layers (i.LocalSet (LOCALS + x) ∷ rest) vs s memory locals ready)
      (λ z t memory' locals' hz shows fewer. go z t memory' locals' hz shows (slice_get t.locals x) refl))
    where
      go : (z : ℤ) (t : State) (memory' : List ℕ) (locals' : List Value) → IsInt z → Shows texts me t memory' locals' → (o : Option ℤ) → slice_get t.locals x ≡ o
          → Lands_on 1 t (at m layers memory' t.input (i.LocalSet (LOCALS + x) ∷ rest) (long z ∷ vs) locals') ds layers rest vs (after (ways.or_stray o t) (λ old. ways.change (λ u. with_locals (slice_set u.locals x z) u) >> pure on))
      go z t memory' locals' hz shows (Some old) e =
          let there : slice_get locals' (LOCALS + x) ≡ Some (I64 (bits old)) = rw shows.are (local_there (byte_of me) shows.scratch x t.locals ∙ get_long t.locals x old e) in (
            tt,
            λ q. changed m (Shows texts me) 1 (omega arith) refl refl refl (goes (sets _ there) here)
                (record {
                  holds = shows.holds;
                  scratch = shows.scratch;
                  are = ap (λ (ls : List Value). slice_set ls (LOCALS + x) (long z)) shows.are ∙ local_set (byte_of me) shows.scratch x t.locals z;
                  locals_whole = set_ints t.locals x z shows.locals_whole hz;
                  input_whole = shows.input_whole;
                }),
          )
      go z t memory' locals' hz shows None e = tt

  -- ---- prints

  abbrev after_say : List Layer → List Instr → List Value → Unit {0} → Unit {0} → Spot
  after_say layers rest vs u w memory input locals = at m layers memory input rest vs locals

  abbrev kept_locals : Scratch → State → List Value
  kept_locals scratch s = locals_of (byte_of me) scratch s.locals

  abbrev SayLands : Pieces → Type 0
  SayLands ps = (zs : List ℤ) (layers : List Layer) (rest : List Instr) (vs : List Value) (s : State) (memory : List ℕ) (scratch : Scratch)
      → length vs + below_all layers + 2 ≤ MOST_OPERANDS → AreWords ps zs → Keeps zs scratch.kept → Holds texts s.words memory → AreInts s.locals → AreInts s.input
      → Lands m (Shows texts me) {A = Unit {0}} Free (after_say layers rest vs) Free 0 s (at m layers memory s.input (say_code ps ++ rest) vs (kept_locals scratch s)) (say texts ps zs s)

  -- a step of the core that counts one form and writes
  abbrev said : State → List ℕ → State
  said s bytes = record { turns = s.turns; forms = s.forms + 1; words = s.words; locals = s.locals; input = s.input; log = s.log ++ bytes }

  -- and the machine writes the same in so many steps
  abbrev says : (n : ℕ) (layers : List Layer) (rest : List Instr) (vs : List Value) (s : State) (c : Config) (memory : List ℕ) (scratch : Scratch) (text : List ℕ) → n ≤ 32 → Comes m n text c (at m layers memory s.input rest vs (kept_locals scratch s)) → Holds texts s.words memory → AreInts s.locals → AreInts s.input
      → Reaches m (Shows texts me) 0 s (said s text) c (λ mem input ls. at m layers mem input rest vs ls)
  says n layers rest vs s c memory scratch text le comes holds whole input_whole = record { steps = n; text = text; memory = memory; locals = kept_locals scratch s; comes = comes; shows = record { holds = holds; scratch = scratch; are = refl; locals_whole = whole; input_whole = input_whole }; log = refl; most = omega (arith, le); least = omega arith; fewer = omega arith }

  -- what is written, and nothing more
  ends_there : {n : ℕ} {text : List ℕ} {c d : Config} → Comes m n (text ++ []) c d → Comes m n text c d
  ends_there {n = n} {text = text} {c = c} {d = d} h = subst (λ (bytes : List ℕ). Comes m n bytes c d) (append-nil text) h

  -- the bytes of a text
  text_there : (memory : List ℕ) (words : ℕ → ℤ) (from size : ℕ) → Holds texts words memory → from + size ≤ length texts → ((8 * AREA) + from + size ≤ length memory) × (take size (drop ((8 * AREA) + from) memory) ≡ take size (drop from texts))
  text_there memory words from size h le =
      let rest = h.texts_there.0 in
      let e = h.texts_there.1 in
      let long_rest = length-append texts rest in
      let long_memory = length-drop (8 * AREA) memory in
      let same = ap length e in
      let room = h.room in (
        omega (arith, le, long_rest, long_memory, same, room),
        sym (ap (take size) (drop-drop from (8 * AREA) memory)) ∙ ap (λ (xs : List ℕ). take size (drop from xs)) e ∙ ap (take size) (drop-append-le from texts rest (omega (arith, le))) ∙ take-append-le size (drop from texts) rest (let q = length-drop from texts in omega (arith, le, q)),
      )

  kept_word : (z : ℤ) (zs : List ℤ) (ps : Pieces) (scratch : Scratch) (own : List ℤ) → suc (length zs) ≡ suc (words_in ps) → slice_get scratch.kept (length zs) ≡ Some (bits z) → slice_get (locals_of (byte_of me) scratch own) (6 + words_in ps) ≡ Some (long z)
  kept_word z zs ps scratch own all h = kept_there (byte_of me) scratch (words_in ps) (bits z) own (subst (λ (n : ℕ). slice_get scratch.kept n ≡ Some (bits z)) (let e : length zs ≡ words_in ps = omega (arith, all) in e) h)

  say_none : SayLands no_pieces
  say_none zs layers rest vs s memory scratch room are keeps holds whole input_whole = (tt, λ w. straight m (Shows texts me) 0 (omega arith) here (record { holds = holds; scratch = scratch; are = refl; locals_whole = whole; input_whole = input_whole }))

  say_text : (from size : ℕ) (ps : Pieces) → SayLands ps → SayLands (text_piece from size ps)
  say_text from size ps more zs layers rest vs s memory scratch room are keeps holds whole input_whole = go (nat_lt (length texts) (from + size)) refl
    where
      go : (q : Bool) → nat_lt (length texts) (from + size) ≡ q
          → Lands m (Shows texts me) {A = Unit {0}} Free (after_say layers rest vs) Free 0 s (at m layers memory s.input (i.I32Const ((8 * AREA) + from) ∷ i.I32Const size ∷ i.Call 2 ∷ (say_code ps ++ rest)) vs (kept_locals scratch s)) (after (after (ways.pick (not q) (pure (take size (drop from texts))) stray (ticked s)) written) (λ u. say texts ps zs))
      go true e = tt
      go false e =
          let there = text_there memory s.words from size holds (ltb-false _ _ e) in
          behind m (Shows texts me) {A = Unit {0}} Free (after_say layers rest vs) Free 0 0 s (said s (take size (drop from texts))) _ (λ mem input ls. at m layers mem input (say_code ps ++ rest) vs ls) (say texts ps zs (said s (take size (drop from texts)))) (omega arith)
          (says 3 layers (say_code ps ++ rest) vs s _ memory scratch (take size (drop from texts)) (omega arith)
          (ends_there (goes (puts32 (omega (arith, room))) (goes (puts32 (omega (arith, room))) (writes (take size (drop from texts)) (so (op.says_text 2 (host_at 2 serves) refl there.0) (ap (λ (bytes : List ℕ). Writes bytes (at m layers memory s.input (say_code ps ++ rest) vs (kept_locals scratch s))) there.1)) here)))) holds whole input_whole)
          (more zs layers rest vs (said s (take size (drop from texts))) memory scratch room (record { ints = are.ints; all = are.all }) keeps holds whole input_whole)

  say_int : (w : Word) (ps : Pieces) → SayLands ps → SayLands (int_piece w ps)
  say_int w ps more [] layers rest vs s memory scratch room are keeps holds whole input_whole = tt
  say_int w ps more (z ∷ zs) layers rest vs s memory scratch room are keeps holds whole input_whole =
      behind m (Shows texts me) {A = Unit {0}} Free (after_say layers rest vs) Free 0 0 s (said s (signed_decimal z)) _ (λ mem input ls. at m layers mem input (say_code ps ++ rest) vs ls) (say texts ps zs (said s (signed_decimal z))) (omega arith)
      (says 2 layers (say_code ps ++ rest) vs s _ memory scratch (signed_decimal z) (omega arith)
      (ends_there (goes (gets _ (kept_word z zs ps scratch s.locals are.all keeps.0) (omega (arith, room))) (writes (signed_decimal z) (so (op.says_int 0 (host_at 0 serves) refl) (ap (λ (x : ℤ). Writes (signed_decimal x) (at m layers memory s.input (say_code ps ++ rest) vs (kept_locals scratch s))) (signed_bits z are.ints.0))) here))) holds whole input_whole)
      (more zs layers rest vs (said s (signed_decimal z)) memory scratch room (record { ints = are.ints.1; all = let l = are.all in omega (arith, l) }) keeps.1 holds whole input_whole)

  abbrev onward : List Instr → Instr → List Instr
  onward rest test = test ∷ i.Call 1 ∷ rest

  say_bool : (w : Word) (ps : Pieces) → SayLands ps → SayLands (bool_piece w ps)
  say_bool w ps more [] layers rest vs s memory scratch room are keeps holds whole input_whole = tt
  say_bool w ps more (z ∷ zs) layers rest vs s memory scratch room are keeps holds whole input_whole = go (is_zero z) (zero_bits z are.ints.0)
    where
      there : slice_get (kept_locals scratch s) (6 + words_in ps) ≡ Some (long z)
      there = kept_word z zs ps scratch s.locals are.all keeps.0

      tested_to : {q : Bool} → ieqz (bits z) ≡ q → Does m (at m layers memory s.input (i.I64Eqz ∷ onward (say_code ps ++ rest) i.I32Eqz) (long z ∷ vs) (kept_locals scratch s)) (Goes (at m layers memory s.input (onward (say_code ps ++ rest) i.I32Eqz) (truth q ∷ vs) (kept_locals scratch s)))
      tested_to e = so tests (ap (λ (q : Bool). Goes (at m layers memory s.input (onward (say_code ps ++ rest) i.I32Eqz) (truth q ∷ vs) (kept_locals scratch s))) e)

      go : (q : Bool) → ieqz (bits z) ≡ q → Lands m (Shows texts me) {A = Unit {0}} Free (after_say layers rest vs) Free 0 s (at m layers memory s.input (i.LocalGet (6 + words_in ps) ∷ i.I64Eqz ∷ onward (say_code ps ++ rest) i.I32Eqz) vs (kept_locals scratch s)) (say texts ps zs (said s (if q then codes "false" else codes "true")))
      go true e =
          behind m (Shows texts me) {A = Unit {0}} Free (after_say layers rest vs) Free 0 0 s (said s (codes "false")) _ (λ mem input ls. at m layers mem input (say_code ps ++ rest) vs ls) (say texts ps zs (said s (codes "false"))) (omega arith)
          (says 4 layers (say_code ps ++ rest) vs s _ memory scratch (codes "false") (omega arith)
          (ends_there (goes (gets _ there (omega (arith, room))) (goes (tested_to e) (goes tests32 (writes (codes "false") (op.says_bool 1 (host_at 1 serves) refl) here))))) holds whole input_whole)
          (more zs layers rest vs (said s (codes "false")) memory scratch room (record { ints = are.ints.1; all = let l = are.all in omega (arith, l) }) keeps.1 holds whole input_whole)
      go false e =
          behind m (Shows texts me) {A = Unit {0}} Free (after_say layers rest vs) Free 0 0 s (said s (codes "true")) _ (λ mem input ls. at m layers mem input (say_code ps ++ rest) vs ls) (say texts ps zs (said s (codes "true"))) (omega arith)
          (says 4 layers (say_code ps ++ rest) vs s _ memory scratch (codes "true") (omega arith)
          (ends_there (goes (gets _ there (omega (arith, room))) (goes (tested_to e) (goes tests32 (writes (codes "true") (op.says_bool 1 (host_at 1 serves) refl) here))))) holds whole input_whole)
          (more zs layers rest vs (said s (codes "true")) memory scratch room (record { ints = are.ints.1; all = let l = are.all in omega (arith, l) }) keeps.1 holds whole input_whole)

  say_lands : (ps : Pieces) → SayLands ps
  say_lands no_pieces = say_none
  say_lands (text_piece from size ps) = say_text from size ps (say_lands ps)
  say_lands (int_piece w ps) = say_int w ps (say_lands ps)
  say_lands (bool_piece w ps) = say_bool w ps (say_lands ps)

  -- all words go from the stack into their locals
  record Sets (zs : List ℤ) (layers : List Layer) (memory : List ℕ) (input : List ℤ) (code : List Instr) (vs : List Value) (scratch : Scratch) (own : List ℤ) : Type 0 where
    into : Scratch
    comes : Comes m (length zs) [] (at m layers memory input (sets_code (length zs) ++ code) (stacked zs vs) (locals_of (byte_of me) scratch own)) (at m layers memory input code vs (locals_of (byte_of me) into own))
    keeps : Keeps zs into.kept

  all_set : (zs : List ℤ) (layers : List Layer) (memory : List ℕ) (input : List ℤ) (code : List Instr) (vs : List Value) (scratch : Scratch) (own : List ℤ) → length zs ≤ 32 → Sets zs layers memory input code vs scratch own
  all_set [] layers memory input code vs scratch own le = record { into = scratch; comes = here; keeps = tt }
  all_set (z ∷ zs) layers memory input code vs scratch own le =
      let before = all_set zs layers memory input (i.LocalSet (6 + length zs) ∷ code) (long z ∷ vs) scratch own (omega (arith, le)) in
      let x = before.into in
      let all = x.all_kept in
      let old = get_within x.kept (length zs) (omega (arith, le, all)) in
      record {
        into = keeping x (length zs) (bits z);
        comes = counted_as (omega arith) (subst (λ (js : List Instr). Comes m (length zs + 1) [] (at m layers memory input js (stacked zs (long z ∷ vs)) (locals_of (byte_of me) scratch own)) (at m layers memory input code vs (locals_of (byte_of me) (keeping x (length zs) (bits z)) own))) (sym (append_assoc (sets_code (length zs)) (i.LocalSet (6 + length zs) ∷ []) code))
            (subst (λ (ls : List Value). Comes m (length zs + 1) [] (at m layers memory input (sets_code (length zs) ++ (i.LocalSet (6 + length zs) ∷ code)) (stacked zs (long z ∷ vs)) (locals_of (byte_of me) scratch own)) (at m layers memory input code vs ls)) (kept_set (byte_of me) x (length zs) (bits z) own (omega (arith, le)))
            (comes_on before.comes (goes (sets _ (kept_there (byte_of me) x (length zs) old.0 own old.1)) here))));
        keeps = (get_set x.kept (length zs) (bits z) (omega (arith, le, all)), keeps_other zs x.kept (length zs) (bits z) (omega arith) before.keeps);
      }
    where
      counted_as : {k l : ℕ} {c d : Config} → k ≡ l → Comes m k [] c d → Comes m l [] c d
      counted_as {c = c} {d = d} e h = subst (λ (n : ℕ). Comes m n [] c d) e h

  abbrev counting : State → ℕ → State
  counting t k = record { turns = t.turns; forms = t.forms + k; words = t.words; locals = t.locals; input = t.input; log = t.log }

  pub print_runs : (ps : Pieces) → PiecesRun m functions serves texts me levels depth deep enter ps → Runs_form (print ps)
  print_runs ps runs ds layers rest vs s memory locals ready = recode 32 ds layers rest vs locals memory s.input s _ _ _ (three (pieces_code ps ds) (sets_code (words_in ps)) (say_code ps) rest) (go (nat_lt MOST_PRINTED (words_in ps)) refl)
    where
      room : length vs + below_all layers + 2 ≤ MOST_OPERANDS
      room = let r = ready.room in let f = ready.few in omega (arith, r, f)

      lands : (zs : List ℤ) (scratch : Scratch) (t : State) (memory' : List ℕ) → AreWords ps zs → Keeps zs scratch.kept → Holds texts t.words memory' → AreInts t.locals → AreInts t.input
          → Lands m (Shows texts me) {A = Unit {0}} Free (after_say layers rest vs) Free 0 (counting t (length zs)) (at m layers memory' t.input (say_code ps ++ rest) vs (locals_of (byte_of me) scratch t.locals)) (say texts ps zs (counting t (length zs)))
      lands zs scratch t memory' are keeps holds whole input_whole = say_lands ps zs layers rest vs (counting t (length zs)) memory' scratch room are keeps holds whole input_whole

      finish : (zs : List ℤ) (t : State) (memory' : List ℕ) (locals' : List Value) → words_in ps ≤ MOST_PRINTED → AreWords ps zs → Shows texts me t memory' locals'
          → Lands_on 32 t (at m layers memory' t.input (sets_code (words_in ps) ++ (say_code ps ++ rest)) (stacked zs vs) locals') ds layers rest vs (after (say texts ps zs (counting t (length zs))) (λ u. pure on))
      finish zs t memory' locals' lt are shows =
          let all = are.all in
          let done = all_set zs layers memory' t.input (say_code ps ++ rest) vs shows.scratch t.locals (omega (arith, lt, all)) in
          let there = subst (λ (ls : List Value). Comes m (length zs) [] (at m layers memory' t.input (sets_code (length zs) ++ (say_code ps ++ rest)) (stacked zs vs) ls) (at m layers memory' t.input (say_code ps ++ rest) vs (locals_of (byte_of me) done.into t.locals))) (sym shows.are) done.comes in
          subst (λ (n : ℕ). Lands_on 32 t (at m layers memory' t.input (sets_code n ++ (say_code ps ++ rest)) (stacked zs vs) locals') ds layers rest vs (after (say texts ps zs (counting t (length zs))) (λ u. pure on))) all
          (behind m (Shows texts me) (asks ds layers) (spot_of ds layers rest vs) Free 0 32 t (counting t (length zs)) _ (λ mem input ls. at m layers mem input (say_code ps ++ rest) vs ls) _ (omega arith)
          (record { steps = length zs; text = []; memory = memory'; locals = locals_of (byte_of me) done.into t.locals; comes = there; shows = record { holds = shows.holds; scratch = done.into; are = refl; locals_whole = shows.locals_whole; input_whole = shows.input_whole }; log = sym (append-nil t.log); most = omega arith; least = omega arith; fewer = omega arith })
          (and_then m (Shows texts me) {A = Unit {0}} (asks ds layers) (spot_of ds layers rest vs) Free 0 32 (λ u mem input ls. at m layers mem input rest vs ls) Free (counting t (length zs)) _ (say texts ps zs (counting t (length zs))) _ (omega arith)
          (lands zs done.into t memory' are done.keeps shows.holds shows.locals_whole shows.input_whole)
          (λ u t' memory'' locals'' known shows' fewer'. (tt, λ q. straight m (Shows texts me) 0 (omega arith) here shows'))))

      go : (q : Bool) → nat_lt MOST_PRINTED (words_in ps) ≡ q → Lands_on 32 s (at m layers memory s.input (pieces_code ps ds ++ (sets_code (words_in ps) ++ (say_code ps ++ rest))) vs locals) ds layers rest vs (after (ways.pick q stray (values texts enter me depth ps) s) (λ zs. ticks (length zs) >> say texts ps zs >> pure on))
      go false e =
          and_then m (Shows texts me) (asks ds layers) (spot_of ds layers rest vs) Free 0 32 (values_spot m functions serves texts me levels depth deep enter layers (sets_code (words_in ps) ++ (say_code ps ++ rest)) vs) (AreWords ps) s _ (values texts enter me depth ps s) _ (omega arith)
          (runs ds layers (sets_code (words_in ps) ++ (say_code ps ++ rest)) vs s memory locals (ready_after (pieces_height ps) (omega arith) (omega arith) ready.shows ready))
          (λ zs t memory' locals' are shows fewer. finish zs t memory' locals' (ltb-false _ _ e) are shows)
      go true e = tt

  -- ---- jumps and traps

  pub jump_runs : (k : ℕ) → Runs_form (jump k)
  jump_runs k ds layers rest vs s memory locals ready = (tt, λ w. straight m (Shows texts me) 1 (omega arith) (goes (jumps _ w.is) here) ready.shows)

  pub trap_runs : (code place : ℕ) → Runs_form (forms.trap code place)
  trap_runs code place ds layers rest vs s memory locals ready =
      let one : length vs + below_all layers < MOST_OPERANDS = let r = ready.room in let f = ready.few in omega (arith, r, f) in
      let two : suc (length vs) + below_all layers < MOST_OPERANDS = let r = ready.room in let f = ready.few in omega (arith, r, f) in
      record { steps = 2 + 1; text = []; falls = falls_on (goes (puts32 one) (goes (puts32 two) here)) (stretch.traps (op.gives_up 5 (host_at 5 serves) refl)); log = sym (append-nil s.log); most = omega arith }

  -- ---- blocks

  -- a side of an if: one step out, and a jump passes its label
  side_lands : (paid : ℕ) (ds : Round) (layers : List Layer) (rest : List Instr) (vs : List Value) (s : State) (c : Config) (r : Way State Flow) → Lands_on paid s c (in_if ds) (Label vs None rest rest ∷ layers) [] [] r → Lands_on (paid + 1) s c ds layers rest vs r
  side_lands paid ds layers rest vs s c (gives on t) l = (tt, λ w. let x = l.1 tt in record { steps = x.steps + 1; text = x.text ++ []; memory = x.memory; locals = x.locals; comes = comes_on x.comes (goes leaves here); shows = x.shows; log = x.log ∙ ap (λ xs. s.log ++ xs) (sym (append-nil x.text)); most = let p = x.most in omega (arith, p); least = let p = x.least in omega (arith, p); fewer = x.fewer })
  side_lands paid ds layers rest vs s c (gives (out k) t) l = (tt, λ w. let x = l.1 (record { values = w.values; target = w.target; past = w.past; round = w.round; is = w.is }) in record { steps = x.steps; text = x.text; memory = x.memory; locals = x.locals; comes = x.comes; shows = x.shows; log = x.log; most = let p = x.most in omega (arith, p); least = x.least; fewer = x.fewer })
  side_lands paid ds layers rest vs s c (traps code place t) y = record { steps = y.steps; text = y.text; falls = y.falls; log = y.log; most = let q = y.most in omega (arith, q) }
  side_lands paid ds layers rest vs s c (stops t) y = record { steps = y.steps; text = y.text; last = y.last; comes = y.comes; log = y.log; most = let q = y.most in omega (arith, q); least = y.least; none = y.none }
  side_lands paid ds layers rest vs s c (errs t) y = tt
  side_lands paid ds layers rest vs s c (strays t) y = tt

  side_runs : (a : Code) → Runs_code a → (ds : Round) (layers : List Layer) (rest : List Instr) (vs : List Value) (s : State) (memory : List ℕ) (locals : List Value) → IsReady layers vs (height a) s memory locals
      → Lands_on 1 s (at m (Label vs None rest rest ∷ layers) memory s.input (forms_code a (in_if ds)) [] locals) ds layers rest vs (acts texts enter me depth a s)
  side_runs a runs ds layers rest vs s memory locals ready =
      side_lands 0 ds layers rest vs s _ (acts texts enter me depth a s)
      (subst (λ (code : List Instr). Lands_on 0 s (at m (Label vs None rest rest ∷ layers) memory s.input code [] locals) (in_if ds) (Label vs None rest rest ∷ layers) [] [] (acts texts enter me depth a s)) (append-nil (forms_code a (in_if ds)))
      (runs (in_if ds) (Label vs None rest rest ∷ layers) [] [] s memory locals (record { room = let r = ready.room in omega (arith, r); few = ready.few; turns = ready.turns; shows = ready.shows })))

  pub when_runs : (c : Word) (a b : Code) → Runs_word c → Runs_code a → Runs_code b → Runs_form (when c a b)
  when_runs c a b test first second ds layers rest vs s memory locals ready = recode 32 ds layers rest vs locals memory s.input s _ _ _ (append_assoc (word_code c ds) (i.I64Eqz ∷ choice ∷ []) rest)
      (and_then m (Shows texts me) (asks ds layers) (spot_of ds layers rest vs) Free 0 3 (after_word layers (i.I64Eqz ∷ choice ∷ rest) vs) IsInt s _ (word texts enter me depth c s) _ (omega arith)
      (test ds layers (i.I64Eqz ∷ choice ∷ rest) vs s memory locals (ready_after (word_height c) (omega arith) (omega arith) ready.shows ready))
      (λ z t memory' locals' hz shows fewer. go z t memory' locals' hz shows fewer (is_zero z) (zero_bits z hz)))
    where
      choice : Instr
      choice = i.If None (forms_code b (in_if ds)) (forms_code a (in_if ds))

      go : (z : ℤ) (t : State) (memory' : List ℕ) (locals' : List Value) → IsInt z → Shows texts me t memory' locals' → t.turns ≤ s.turns → (q : Bool) → ieqz (bits z) ≡ q
          → Lands_on 3 t (at m layers memory' t.input (i.I64Eqz ∷ choice ∷ rest) (long z ∷ vs) locals') ds layers rest vs (ways.pick q (acts texts enter me depth b) (acts texts enter me depth a) t)
      go z t memory' locals' hz shows fewer true e =
          behind m (Shows texts me) (asks ds layers) (spot_of ds layers rest vs) Free 2 1 t t _ (λ mem input ls. at m (Label vs None rest rest ∷ layers) mem input (forms_code b (in_if ds)) [] ls) (acts texts enter me depth b t) (omega arith)
          (straight m (Shows texts me) 2 (omega arith) (goes (so tests (ap (λ (q : Bool). Goes (at m layers memory' t.input (choice ∷ rest) (truth q ∷ vs) locals')) e)) (goes (chooses _ _) here)) shows)
          (side_runs b second ds layers rest vs t memory' locals' (ready_after (height b) (omega arith) fewer shows ready))
      go z t memory' locals' hz shows fewer false e =
          behind m (Shows texts me) (asks ds layers) (spot_of ds layers rest vs) Free 2 1 t t _ (λ mem input ls. at m (Label vs None rest rest ∷ layers) mem input (forms_code a (in_if ds)) [] ls) (acts texts enter me depth a t) (omega arith)
          (straight m (Shows texts me) 2 (omega arith) (goes (so tests (ap (λ (q : Bool). Goes (at m layers memory' t.input (choice ∷ rest) (truth q ∷ vs) locals')) e)) (goes (chooses _ _) here)) shows)
          (side_runs a first ds layers rest vs t memory' locals' (ready_after (height a) (omega arith) fewer shows ready))

  -- a block: one step out, and a jump to it goes past it
  block_lands : (ds : Round) (layers : List Layer) (rest : List Instr) (vs : List Value) (s : State) (c : Config) (r : Way State Flow) → Lands_on 0 s c (in_block ds) (Label vs None rest rest ∷ layers) [] [] r → Lands_on 1 s c ds layers rest vs (after r (λ f. pure (caught f)))
  block_lands ds layers rest vs s c (gives on t) l = (tt, λ w. let x = l.1 tt in record { steps = x.steps + 1; text = x.text ++ []; memory = x.memory; locals = x.locals; comes = comes_on x.comes (goes leaves here); shows = x.shows; log = x.log ∙ ap (λ xs. s.log ++ xs) (sym (append-nil x.text)); most = let p = x.most in omega (arith, p); least = let p = x.least in omega (arith, p); fewer = x.fewer })
  block_lands ds layers rest vs s c (gives (out zero) t) l = (tt, λ w. let x = l.1 (record { values = vs; target = rest; past = rest; round = layers; is = refl }) in record { steps = x.steps; text = x.text; memory = x.memory; locals = x.locals; comes = x.comes; shows = x.shows; log = x.log; most = let p = x.most in omega (arith, p); least = x.least; fewer = x.fewer })
  block_lands ds layers rest vs s c (gives (out (suc k)) t) l = (tt, λ w. let x = l.1 (record { values = w.values; target = w.target; past = w.past; round = w.round; is = w.is }) in record { steps = x.steps; text = x.text; memory = x.memory; locals = x.locals; comes = x.comes; shows = x.shows; log = x.log; most = let p = x.most in omega (arith, p); least = x.least; fewer = x.fewer })
  block_lands ds layers rest vs s c (traps code place t) y = record { steps = y.steps; text = y.text; falls = y.falls; log = y.log; most = let q = y.most in omega (arith, q) }
  block_lands ds layers rest vs s c (stops t) y = record { steps = y.steps; text = y.text; last = y.last; comes = y.comes; log = y.log; most = let q = y.most in omega (arith, q); least = y.least; none = y.none }
  block_lands ds layers rest vs s c (errs t) y = tt
  block_lands ds layers rest vs s c (strays t) y = tt

  pub block_runs : (a : Code) → Runs_code a → Runs_form (block a)
  block_runs a runs ds layers rest vs s memory locals ready =
      behind m (Shows texts me) (asks ds layers) (spot_of ds layers rest vs) Free 1 1 s s _ (λ mem input ls. at m (Label vs None rest rest ∷ layers) mem input (forms_code a (in_block ds)) [] ls) _ (omega arith)
      (straight m (Shows texts me) 1 (omega arith) (goes blocks here) ready.shows)
      (block_lands ds layers rest vs s _ (acts texts enter me depth a s)
      (subst (λ (code : List Instr). Lands_on 0 s (at m (Label vs None rest rest ∷ layers) memory s.input code [] locals) (in_block ds) (Label vs None rest rest ∷ layers) [] [] (acts texts enter me depth a s)) (append-nil (forms_code a (in_block ds)))
      (runs (in_block ds) (Label vs None rest rest ∷ layers) [] [] s memory locals (record { room = let r = ready.room in omega (arith, r); few = ready.few; turns = ready.turns; shows = ready.shows }))))

  -- ---- loops

  abbrev body_code : Code → Round → List Instr
  body_code a ds = forms_code a (in_block ds) ++ i.Br 0 ∷ []

  abbrev loop_at : Code → Round → List Layer → List Instr → List Value → Spot
  loop_at a ds layers rest vs = λ memory input locals. at m layers memory input (i.Loop None (body_code a ds) ∷ rest) vs locals

  -- So many turns, and those that are left are no more.
  abbrev TurnsRun : ℕ → Code → Type 0
  TurnsRun d a = (ds : Round) (layers : List Layer) (rest : List Instr) (vs : List Value) (s : State) (memory : List ℕ) (locals : List Value) → IsReady layers vs (height a) s memory locals → s.turns ≤ d
      → Lands_on 0 s (loop_at a ds layers rest vs memory s.input locals) ds layers rest vs (turning d (acts texts enter me depth a) s)

  -- one turn, and those after it
  turn_runs : (d : ℕ) (a : Code) → Runs_code a → TurnsRun d a → TurnsRun (suc d) a
  turn_runs d a runs more ds layers rest vs s memory locals ready within = go s.turns refl
    where
      again_at : List Instr
      again_at = i.Loop None (body_code a ds) ∷ rest

      round : List Layer
      round = Label vs None again_at rest ∷ layers

      took : ℕ → State
      took n = record { turns = n; forms = s.forms + 1; words = s.words; locals = s.locals; input = s.input; log = s.log }

      body : (n : ℕ) → s.turns ≡ suc n → Lands_on 31 (took n) (at m round memory s.input (body_code a ds) [] locals) ds layers rest vs (after (acts texts enter me depth a (took n)) (λ f. again f (turning d (acts texts enter me depth a))))
      body n e =
          and_on m functions serves texts me levels depth deep enter (asks ds layers) (spot_of ds layers rest vs) Free 0 1 (in_block ds) round (i.Br 0 ∷ []) [] (took n) _ (acts texts enter me depth a (took n)) _ (omega arith)
          (runs (in_block ds) round (i.Br 0 ∷ []) [] (took n) memory locals (record { room = let r = ready.room in omega (arith, r); few = ready.few; turns = let q = ready.turns in omega (arith, q, e); shows = record { holds = ready.shows.holds; scratch = ready.shows.scratch; are = ready.shows.are; locals_whole = ready.shows.locals_whole; input_whole = ready.shows.input_whole } }))
          (λ t memory' locals' shows fewer.
          behind m (Shows texts me) (asks ds layers) (spot_of ds layers rest vs) Free 1 0 t t _ (loop_at a ds layers rest vs) (turning d (acts texts enter me depth a) t) (omega arith)
          (straight m (Shows texts me) 1 (omega arith) (goes (jumps _ refl) here) shows)
          (more ds layers rest vs t memory' locals' (ready_after (height a) (omega arith) (let q = fewer in omega (arith, q, e)) shows ready) (let q = fewer in omega (arith, q, e, within))))
          (λ k t l. jumped k t l)
        where
          jumped : (k : ℕ) (t : State) → ((w : Target m functions serves texts me levels depth deep enter (in_block ds) round k) → Reaches m (Shows texts me) 0 (took n) t (at m round memory s.input (body_code a ds) [] locals) (spot_of (in_block ds) round (i.Br 0 ∷ []) [] (out k) w))
              → Lands_on 31 (took n) (at m round memory s.input (body_code a ds) [] locals) ds layers rest vs (again (out k) (turning d (acts texts enter me depth a)) t)
          jumped zero t l =
              let x = l (record { values = vs; target = again_at; past = rest; round = layers; is = refl }) in
              let q = x.fewer in
              behind m (Shows texts me) (asks ds layers) (spot_of ds layers rest vs) Free 0 0 (took n) t _ (loop_at a ds layers rest vs) (turning d (acts texts enter me depth a) t) (omega arith) x
              (more ds layers rest vs t x.memory x.locals (ready_after (height a) (omega arith) (omega (arith, q, e)) x.shows ready) (omega (arith, q, e, within)))
          jumped (suc k) t l = (tt, λ w. let x = l (record { values = w.values; target = w.target; past = w.past; round = w.round; is = w.is }) in record { steps = x.steps; text = x.text; memory = x.memory; locals = x.locals; comes = x.comes; shows = x.shows; log = x.log; most = let p = x.most in omega (arith, p); least = x.least; fewer = x.fewer })

      go : (n : ℕ) → s.turns ≡ n → Lands_on 0 s (loop_at a ds layers rest vs memory s.input locals) ds layers rest vs (after (after (turn_or_stop n (ticked s)) (λ u. acts texts enter me depth a)) (λ f. again f (turning d (acts texts enter me depth a))))
      go zero e = record { steps = 0; text = []; last = loop_at a ds layers rest vs memory s.input locals; comes = here; log = sym (append-nil s.log); most = omega arith; least = omega (arith, e); none = e }
      go (suc n) e = turned m (Shows texts me) (asks ds layers) (spot_of ds layers rest vs) Free 0 31 1 s (took n) _ _ (after (acts texts enter me depth a (took n)) (λ f. again f (turning d (acts texts enter me depth a)))) loops (omega (arith, e)) (omega (arith, e)) refl refl (omega arith) (body n e)

  all_turns : (d : ℕ) (a : Code) → Runs_code a → TurnsRun d a
  all_turns zero a runs ds layers rest vs s memory locals ready within = record { steps = 0; text = []; last = loop_at a ds layers rest vs memory s.input locals; comes = here; log = sym (append-nil s.log); most = omega arith; least = omega (arith, within); none = omega (arith, within) }
  all_turns (suc d) a runs ds layers rest vs s memory locals ready within = turn_runs d a runs (all_turns d a runs) ds layers rest vs s memory locals ready within

  pub loop_runs : (a : Code) → Runs_code a → Runs_form (loop a)
  loop_runs a runs ds layers rest vs s memory locals ready =
      behind m (Shows texts me) (asks ds layers) (spot_of ds layers rest vs) Free 0 0 s s _ (loop_at a ds layers rest vs) (turning depth (acts texts enter me depth a) s) (omega arith)
      (straight m (Shows texts me) 0 (omega arith) here ready.shows)
      (all_turns depth a runs ds layers rest vs s memory locals ready ready.turns)

  -- ---- calls

  abbrev pub CallsRun : Type 0
  CallsRun = (to : ℕ) → to + levels ≤ MOST_LEVELS → (pays : Bool) (f : ℕ) (layers : List Layer) (rest : List Instr) (vs : List Value) (s : State) (memory : List ℕ) (locals : List Value) (d : Config)
      → Same m functions f d (at m layers memory s.input (i.Call (6 + f) ∷ rest) (I32 (byte_of to) ∷ vs) locals) → IsReady layers vs 0 s memory locals
      → Lands m (Shows texts me) {A = Unit {0}} Free (λ u w mem input ls. at m layers mem input rest vs ls) Free 4 s d (enter pays f to s)

  -- the first byte of the next frame, on the stack
  next_frame : {layers : List Layer} {code : List Instr} {vs locals : List Value} {memory : List ℕ} {s : State} → length vs + below_all layers + 2 ≤ MOST_OPERANDS → Shows texts me s memory locals
      → Comes m 3 [] (at m layers memory s.input (i.LocalGet 0 ∷ i.I32Const (8 * FRAME) ∷ i.I32Add ∷ code) vs locals) (at m layers memory s.input code (I32 (byte_of (suc me)) ∷ vs) locals)
  next_frame {layers = layers} {code = code} {vs = vs} {locals = locals} {memory = memory} {s = s} room shows =
      let base_there : slice_get locals 0 ≡ Some (I32 (byte_of me)) = rw shows.are refl in
      let base : iadd w32 (byte_of me) (8 * FRAME) ≡ byte_of (suc me) = omega (arith, deep) in
      goes (gets 0 base_there (omega (arith, room))) (goes (puts32 (omega (arith, room))) (goes (so adds32 (ap (λ (n : ℕ). Goes (at m layers memory s.input code (I32 n ∷ vs) locals)) base)) here))

  pub call_runs : (f : ℕ) → CallsRun → Runs_form (call f)
  call_runs f calls ds layers rest vs s memory locals ready =
      behind m (Shows texts me) (asks ds layers) (spot_of ds layers rest vs) Free 3 29 s s _ (λ mem input ls. at m layers mem input (i.Call (6 + f) ∷ rest) (I32 (byte_of (suc me)) ∷ vs) ls) _ (omega arith)
      (straight m (Shows texts me) 3 (omega arith) (next_frame (let r = ready.room in let q = ready.few in omega (arith, r, q)) ready.shows) ready.shows)
      (and_then m (Shows texts me) {A = Unit {0}} (asks ds layers) (spot_of ds layers rest vs) Free 4 0 (λ u mem input ls. at m layers mem input rest vs ls) Free s _ (enter true f (suc me) s) _ (omega arith)
      (calls (suc me) (omega (arith, deep)) true f layers rest vs s memory locals _ (λ g e. refl) (ready_after 0 (omega arith) (omega arith) ready.shows ready))
      (λ u t memory' locals' known shows fewer. (tt, λ q. straight m (Shows texts me) 0 (omega arith) here shows)))

  pub call_here_runs : (f : ℕ) → CallsRun → Runs_form (call_here f)
  call_here_runs f calls ds layers rest vs s memory locals ready =
      let base_there : slice_get locals 0 ≡ Some (I32 (byte_of me)) = rw ready.shows.are refl in
      behind m (Shows texts me) (asks ds layers) (spot_of ds layers rest vs) Free 1 29 s s _ (λ mem input ls. at m layers mem input (i.Call (6 + f) ∷ rest) (I32 (byte_of me) ∷ vs) ls) _ (omega arith)
      (straight m (Shows texts me) 1 (omega arith) (goes (gets 0 base_there (let r = ready.room in let q = ready.few in omega (arith, r, q))) here) ready.shows)
      (and_then m (Shows texts me) {A = Unit {0}} (asks ds layers) (spot_of ds layers rest vs) Free 4 0 (λ u mem input ls. at m layers mem input rest vs ls) Free s _ (enter false f me s) _ (omega arith)
      (calls me (omega (arith, deep)) false f layers rest vs s memory locals _ (λ g e. refl) (ready_after 0 (omega arith) (omega arith) ready.shows ready))
      (λ u t memory' locals' known shows fewer. (tt, λ q. straight m (Shows texts me) 0 (omega arith) here shows)))

  pub call_word_runs : (w : Word) → Runs_word w → CallsRun → Runs_form (call_word w)
  call_word_runs w runs calls ds layers rest vs s memory locals ready =
      recode 32 ds layers rest vs locals memory s.input s _ _ _ (ap (λ (code : List Instr). i.LocalGet 0 ∷ i.I32Const (8 * FRAME) ∷ i.I32Add ∷ code) (append_assoc (word_code w ds) (i.I32WrapI64 ∷ i.CallIndirect 1 ∷ []) rest))
      (behind m (Shows texts me) (asks ds layers) (spot_of ds layers rest vs) Free 3 29 s s _ (λ mem input ls. at m layers mem input (word_code w ds ++ (i.I32WrapI64 ∷ i.CallIndirect 1 ∷ rest)) (I32 (byte_of (suc me)) ∷ vs) ls) _ (omega arith)
      (straight m (Shows texts me) 3 (omega arith) (next_frame (let r = ready.room in let q = ready.few in omega (arith, r, q)) ready.shows) ready.shows)
      (and_then m (Shows texts me) (asks ds layers) (spot_of ds layers rest vs) Free 0 29 (after_word layers (i.I32WrapI64 ∷ i.CallIndirect 1 ∷ rest) (I32 (byte_of (suc me)) ∷ vs)) IsInt s _ (word texts enter me depth w s) _ (omega arith)
      (runs ds layers (i.I32WrapI64 ∷ i.CallIndirect 1 ∷ rest) (I32 (byte_of (suc me)) ∷ vs) s memory locals (ready_after (word_height w) (omega arith) (omega arith) ready.shows ready))
      (λ z t memory' locals' hz shows fewer. go z t memory' locals' shows fewer)))
    where
      go : (z : ℤ) (t : State) (memory' : List ℕ) (locals' : List Value) → Shows texts me t memory' locals' → t.turns ≤ s.turns
          → Lands_on 29 t (at m layers memory' t.input (i.I32WrapI64 ∷ i.CallIndirect 1 ∷ rest) (long z ∷ I32 (byte_of (suc me)) ∷ vs) locals') ds layers rest vs (after (numbered z t) (λ f. enter true f (suc me) >> pure on))
      go (negsuc n) t memory' locals' shows fewer = tt
      go (pos f) t memory' locals' shows fewer =
          behind m (Shows texts me) (asks ds layers) (spot_of ds layers rest vs) Free 1 4 t t _ (λ mem input ls. at m layers mem input (i.CallIndirect 1 ∷ rest) (I32 (bits (pos f) % 2 ^ 32) ∷ I32 (byte_of (suc me)) ∷ vs) ls) _ (omega arith)
          (straight m (Shows texts me) 1 (omega arith) (goes wraps here) shows)
          (and_then m (Shows texts me) {A = Unit {0}} (asks ds layers) (spot_of ds layers rest vs) Free 4 0 (λ u mem input ls. at m layers mem input rest vs ls) Free t _ (enter true f (suc me) t) _ (omega arith)
          (calls (suc me) (omega (arith, deep)) true f layers rest vs t memory' locals' _ same (ready_after 0 (omega arith) fewer shows ready))
          (λ u t' memory'' locals'' known shows' fewer'. (tt, λ q. straight m (Shows texts me) 0 (omega arith) here shows')))
        where
          same : Same m functions f (at m layers memory' t.input (i.CallIndirect 1 ∷ rest) (I32 (bits (pos f) % 2 ^ 32) ∷ I32 (byte_of (suc me)) ∷ vs) locals') (at m layers memory' t.input (i.Call (6 + f) ∷ rest) (I32 (byte_of (suc me)) ∷ vs) locals')
          same g e =
              let there = slice_get_within functions f g e in
              let few = serves.few in
              let own : bits (pos f) ≡ f = natural_bits f (omega (arith, there, few)) in
              let number : bits (pos f) % 2 ^ 32 ≡ f = omega (arith, own, there, few) in
              ap (λ (n : ℕ). step m (at m layers memory' t.input (i.CallIndirect 1 ∷ rest) (I32 n ∷ I32 (byte_of (suc me)) ∷ vs) locals')) number
              ∙ op.indirect m layers [] _ memory' t.input rest (I32 (byte_of (suc me)) ∷ vs) locals' serves.type serves.table_size (6 + f) f 1 serves.has_table serves.own_type (serves.element f g e) (is_own f serves) (typed f g serves e) serves.takes serves.leaves

  -- ---- copies of many words

  abbrev copy_tail : ℕ → List Instr → List Instr
  copy_tail more rest = i.LocalSet 4 ∷ i.LocalSet 3 ∷ i.I32Const (suc more) ∷ i.LocalSet 5 ∷ i.Loop None copy_body ∷ rest

  -- from the place of the second address on
  copy_ends : (more a b : ℕ) (q : At) (ds : Round) (layers : List Layer) (rest : List Instr) (vs : List Value) (s : State) (memory : List ℕ) (locals : List Value) → a < AREA → b < AREA → displacement q ≤ b → length vs + below_all layers + 4 ≤ MOST_OPERANDS → Shows texts me s memory locals → (t u : Bool) → nat_lt (a + more) AREA ≡ t → nat_lt (b + more) AREA ≡ u
      → Lands_on 28 s (at m layers memory s.input (i.I32Const (8 * displacement q) ∷ i.I32Add ∷ copy_tail more rest) (I32 (8 * b - 8 * displacement q) ∷ I32 (8 * a) ∷ vs) locals) ds layers rest vs
      (after (after (after (ways.pick t (pure nil) stray s) (λ w. ways.pick u (pure nil) stray)) (λ w. ways.change (λ s. record s { words = copied more a b s.words; forms = s.forms + more }))) (λ w. pure on))
  copy_ends more a b q ds layers rest vs s memory locals la lb apart room shows false u et eu = tt
  copy_ends more a b q ds layers rest vs s memory locals la lb apart room shows true false et eu = tt
  copy_ends more a b q ds layers rest vs s memory locals la lb apart room shows true true et eu =
      let within_a = ltb-true _ _ et in
      let within_b = ltb-true _ _ eu in
      let one : suc (suc (length vs)) + below_all layers < MOST_OPERANDS = omega (arith, room) in
      let two : length vs + below_all layers < MOST_OPERANDS = omega (arith, room) in
      let sum : iadd w32 (8 * b - 8 * displacement q) (8 * displacement q) ≡ 8 * b = omega (arith, apart, lb) in
      let done = copies m serves.size serves.memory texts (byte_of me) shows.scratch.one shows.scratch.other shows.scratch.kept shows.scratch.all_kept s.locals layers rest vs s.input (omega (arith, room)) more a b s.words memory within_a within_b shows.holds in (
        tt,
        λ w. record {
          steps = 6 + (18 * more + 19);
          text = [];
          memory = done.after_it;
          locals = locals_of (byte_of me) (record { one = shows.scratch.one; other = shows.scratch.other; from = 8 * (a + suc more); to = 8 * (b + suc more); left = 0; kept = shows.scratch.kept; all_kept = shows.scratch.all_kept }) s.locals;
          comes = subst (λ (ls : List Value). Comes m (6 + (18 * more + 19)) [] (at m layers memory s.input (i.I32Const (8 * displacement q) ∷ i.I32Add ∷ copy_tail more rest) (I32 (8 * b - 8 * displacement q) ∷ I32 (8 * a) ∷ vs) ls) (at m layers done.after_it s.input rest vs (locals_of (byte_of me) (record { one = shows.scratch.one; other = shows.scratch.other; from = 8 * (a + suc more); to = 8 * (b + suc more); left = 0; kept = shows.scratch.kept; all_kept = shows.scratch.all_kept }) s.locals))) (sym shows.are)
              (comes_on (goes (puts32 one) (goes (so adds32 (ap (λ (n : ℕ). Goes (at m layers memory s.input (copy_tail more rest) (I32 n ∷ I32 (8 * a) ∷ vs) (locals_of (byte_of me) shows.scratch s.locals))) sum)) (goes (sets32 4 refl) (goes (sets32 3 refl) (goes (puts32 two) (goes (sets32 5 refl) here)))))) done.comes);
          shows = record { holds = done.holds; scratch = record { one = shows.scratch.one; other = shows.scratch.other; from = 8 * (a + suc more); to = 8 * (b + suc more); left = 0; kept = shows.scratch.kept; all_kept = shows.scratch.all_kept }; are = refl; locals_whole = shows.locals_whole; input_whole = shows.input_whole };
          log = sym (append-nil s.log);
          most = omega arith;
          least = omega arith;
          fewer = omega arith;
        },
      )

  abbrev Runs_copy : (more : ℕ) (p q : At) → List Instr → Type 0
  Runs_copy more p q code = (ds : Round) (layers : List Layer) (rest : List Instr) (vs : List Value) (s : State) (memory : List ℕ) (locals : List Value) → IsReady layers vs 4 s memory locals
      → Lands_on 32 s (at m layers memory s.input (code ++ rest) vs locals) ds layers rest vs (act texts enter me depth (copy more p q) s)

  long_runs : (more : ℕ) (p q : At) → Runs_copy more p q (long_copy more p q)
  long_runs more p q ds layers rest vs s memory locals ready = recode 32 ds layers rest vs locals memory s.input s _ _ _ brackets
      (and_then m (Shows texts me) (asks ds layers) (spot_of ds layers rest vs) Free 1 31 (after_place layers (i.I32Const (8 * displacement p) ∷ i.I32Add ∷ second) vs p) (IsPlace m functions serves texts me levels depth deep p) s _ (place me p s) _ (omega arith)
      (place_lands m functions serves texts me levels depth deep p layers (i.I32Const (8 * displacement p) ∷ i.I32Add ∷ second) vs s memory locals (ready_after 2 (omega arith) (omega arith) ready.shows ready))
      (λ a t memory' locals' is shows fewer.
      let below = is.below in
      let apart = is.apart in
      let one : suc (length vs) + below_all layers < MOST_OPERANDS = let r = ready.room in let f = ready.few in omega (arith, r, f) in
      let sum : iadd w32 (8 * a - 8 * displacement p) (8 * displacement p) ≡ 8 * a = omega (arith, apart, below) in
      behind m (Shows texts me) (asks ds layers) (spot_of ds layers rest vs) Free 2 29 t t _ (λ mem input ls. at m layers mem input second (I32 (8 * a) ∷ vs) ls) _ (omega arith)
      (straight m (Shows texts me) 2 (omega arith) (goes (puts32 one) (goes (so adds32 (ap (λ (n : ℕ). Goes (at m layers memory' t.input second (I32 n ∷ vs) locals')) sum)) here)) shows)
      (and_then m (Shows texts me) (asks ds layers) (spot_of ds layers rest vs) Free 1 28 (after_place layers (i.I32Const (8 * displacement q) ∷ i.I32Add ∷ copy_tail more rest) (I32 (8 * a) ∷ vs) q) (IsPlace m functions serves texts me levels depth deep q) t _ (place me q t) _ (omega arith)
      (place_lands m functions serves texts me levels depth deep q layers (i.I32Const (8 * displacement q) ∷ i.I32Add ∷ copy_tail more rest) (I32 (8 * a) ∷ vs) t memory' locals' (ready_after 2 (omega arith) fewer shows ready))
      (λ b u memory'' locals'' is' shows' fewer'. copy_ends more a b q ds layers rest vs u memory'' locals'' below is'.below is'.apart (let r = ready.room in let f = ready.few in omega (arith, r, f)) shows' (nat_lt (a + more) AREA) (nat_lt (b + more) AREA) refl refl))))
    where
      second : List Instr
      second = place_code q ++ (i.I32Const (8 * displacement q) ∷ i.I32Add ∷ copy_tail more rest)

      tail : List Instr
      tail = i.LocalSet 4 ∷ i.LocalSet 3 ∷ i.I32Const (suc more) ∷ i.LocalSet 5 ∷ i.Loop None copy_body ∷ []

      brackets : long_copy more p q ++ rest ≡ place_code p ++ (i.I32Const (8 * displacement p) ∷ i.I32Add ∷ second)
      brackets = three (byte_code p) (byte_code q) tail rest ∙ append_assoc (place_code p) (i.I32Const (8 * displacement p) ∷ i.I32Add ∷ []) (byte_code q ++ (tail ++ rest))
          ∙ ap (λ (code : List Instr). place_code p ++ (i.I32Const (8 * displacement p) ∷ i.I32Add ∷ code)) (append_assoc (place_code q) (i.I32Const (8 * displacement q) ∷ i.I32Add ∷ []) (tail ++ rest))

  -- ---- copies of few words

  abbrev moves_tail : ℕ → At → At → List Instr → List Instr
  moves_tail more p q rest = i.LocalSet 4 ∷ i.LocalSet 3 ∷ (moves_code (suc more) (displacement p) (displacement q) ++ rest)

  -- from the byte of the second place on
  moves_end : (more a b : ℕ) (p q : At) (ds : Round) (layers : List Layer) (rest : List Instr) (vs : List Value) (s : State) (memory : List ℕ) (locals : List Value) → displacement p ≤ a → displacement q ≤ b → length vs + below_all layers + 4 ≤ MOST_OPERANDS → Shows texts me s memory locals → (t u : Bool) → nat_lt (a + more) AREA ≡ t → nat_lt (b + more) AREA ≡ u
      → Lands_on 30 s (at m layers memory s.input (moves_tail more p q rest) (I32 (8 * b - 8 * displacement q) ∷ I32 (8 * a - 8 * displacement p) ∷ vs) locals) ds layers rest vs
      (after (after (after (ways.pick t (pure nil) stray s) (λ w. ways.pick u (pure nil) stray)) (λ w. ways.change (λ s. record s { words = copied more a b s.words; forms = s.forms + more }))) (λ w. pure on))
  moves_end more a b p q ds layers rest vs s memory locals apart apart' room shows false u et eu = tt
  moves_end more a b p q ds layers rest vs s memory locals apart apart' room shows true false et eu = tt
  moves_end more a b p q ds layers rest vs s memory locals apart apart' room shows true true et eu =
      let from = 8 * a - 8 * displacement p in
      let to = 8 * b - 8 * displacement q in
      let done = moves m serves.size serves.memory texts (byte_of me) shows.scratch.one shows.scratch.other shows.scratch.kept shows.scratch.all_kept s.locals layers rest vs s.input (omega (arith, room)) more a b from to (displacement p) (displacement q) shows.scratch.left s.words memory (omega (arith, apart)) (omega (arith, apart')) (ltb-true _ _ et) (ltb-true _ _ eu) shows.holds in (
        tt,
        λ w. record {
          steps = 2 + (4 * more + 4);
          text = [];
          memory = done.after_it;
          locals = locals_of (byte_of me) (record { one = shows.scratch.one; other = shows.scratch.other; from = from; to = to; left = shows.scratch.left; kept = shows.scratch.kept; all_kept = shows.scratch.all_kept }) s.locals;
          comes = subst (λ (ls : List Value). Comes m (2 + (4 * more + 4)) [] (at m layers memory s.input (moves_tail more p q rest) (I32 to ∷ I32 from ∷ vs) ls) (at m layers done.after_it s.input rest vs (locals_of (byte_of me) (record { one = shows.scratch.one; other = shows.scratch.other; from = from; to = to; left = shows.scratch.left; kept = shows.scratch.kept; all_kept = shows.scratch.all_kept }) s.locals))) (sym shows.are)
              (comes_on (goes (sets32 4 refl) (goes (sets32 3 refl) here)) done.comes);
          shows = record { holds = done.holds; scratch = record { one = shows.scratch.one; other = shows.scratch.other; from = from; to = to; left = shows.scratch.left; kept = shows.scratch.kept; all_kept = shows.scratch.all_kept }; are = refl; locals_whole = shows.locals_whole; input_whole = shows.input_whole };
          log = sym (append-nil s.log);
          most = omega arith;
          least = omega arith;
          fewer = omega arith;
        },
      )

  short_runs : (more : ℕ) (p q : At) → Runs_copy more p q (short_copy more p q)
  short_runs more p q ds layers rest vs s memory locals ready = recode 32 ds layers rest vs locals memory s.input s _ _ _ (three (place_code p) (place_code q) tail rest)
      (and_then m (Shows texts me) (asks ds layers) (spot_of ds layers rest vs) Free 1 31 (after_place layers second vs p) (IsPlace m functions serves texts me levels depth deep p) s _ (place me p s) _ (omega arith)
      (place_lands m functions serves texts me levels depth deep p layers second vs s memory locals (ready_after 2 (omega arith) (omega arith) ready.shows ready))
      (λ a t memory' locals' is shows fewer.
      and_then m (Shows texts me) (asks ds layers) (spot_of ds layers rest vs) Free 1 30 (after_place layers (moves_tail more p q rest) (I32 (8 * a - 8 * displacement p) ∷ vs) q) (IsPlace m functions serves texts me levels depth deep q) t _ (place me q t) _ (omega arith)
      (place_lands m functions serves texts me levels depth deep q layers (moves_tail more p q rest) (I32 (8 * a - 8 * displacement p) ∷ vs) t memory' locals' (ready_after 2 (omega arith) fewer shows ready))
      (λ b u memory'' locals'' is' shows' fewer'. moves_end more a b p q ds layers rest vs u memory'' locals'' is.apart is'.apart (let r = ready.room in let f = ready.few in omega (arith, r, f)) shows' (nat_lt (a + more) AREA) (nat_lt (b + more) AREA) refl refl)))
    where
      tail : List Instr
      tail = i.LocalSet 4 ∷ i.LocalSet 3 ∷ moves_code (suc more) (displacement p) (displacement q)

      second : List Instr
      second = place_code q ++ (tail ++ rest)

  copies_run : (more : ℕ) (p q : At) (t : Bool) → Runs_copy more p q (if t then short_copy more p q else long_copy more p q)
  copies_run more p q true = short_runs more p q
  copies_run more p q false = long_runs more p q

  pub copy_runs : (more : ℕ) (p q : At) → Runs_form (copy more p q)
  copy_runs more p q = copies_run more p q (nat_lt more MOST_PLAIN_WORDS)

  -- ---- lists of forms

  pub nothing_runs : Runs_code nothing
  nothing_runs ds layers rest vs s memory locals ready = (tt, λ q. straight m (Shows texts me) 0 (omega arith) here ready.shows)

  pub list_runs : (f : Form) (fs : Code) → Runs_form f → Runs_code fs → Runs_code (form f fs)
  list_runs f fs first more ds layers rest vs s memory locals ready = recode 0 ds layers rest vs locals memory s.input s _ _ _ (append_assoc (form_code f ds) (forms_code fs ds) rest)
      (counted m (Shows texts me) (asks ds layers) (spot_of ds layers rest vs) Free 0 32 s (ticked s) _ _ refl refl refl (omega arith)
      (and_on m functions serves texts me levels depth deep enter (asks ds layers) (spot_of ds layers rest vs) Free 32 0 ds layers (forms_code fs ds ++ rest) vs (ticked s) _ (act texts enter me depth f (ticked s)) _ (omega arith)
      (first ds layers (forms_code fs ds ++ rest) vs (ticked s) memory locals (ready_after (form_height f) (omega arith) (omega arith) (shows_ticked ready.shows) ready))
      (λ t memory' locals' shows fewer. more ds layers rest vs t memory' locals' (ready_after (height fs) (omega arith) fewer shows ready))
      (λ k t l. (tt, λ w. l w))))

  -- ---- all words, forms and lists of forms

  module _ (calls : CallsRun) where
    mutual
      pub word_runs : (w : Word) → Runs_word w
      word_runs (constant z) = constant_runs m functions serves texts me levels depth deep enter z
      word_runs (load p) = load_runs m functions serves texts me levels depth deep enter p
      word_runs (local x) = local_runs m functions serves texts me levels depth deep enter x
      word_runs (address p) = address_runs m functions serves texts me levels depth deep enter p
      word_runs (arithmetic o place a b) = arithmetic_runs m functions serves texts me levels depth deep enter o place a b (word_runs a) (word_runs b)
      word_runs (negate place a) = negate_runs m functions serves texts me levels depth deep enter place a (word_runs a)
      word_runs (wrap o a b) = wrap_runs m functions serves texts me levels depth deep enter o a b (word_runs a) (word_runs b)
      word_runs (compare o a b) = compare_runs m functions serves texts me levels depth deep enter o a b (word_runs a) (word_runs b)
      word_runs (pick c a b) = pick_runs m functions serves texts me levels depth deep enter c a b (word_runs c) (word_runs a) (word_runs b)
      word_runs (following c w) = first_runs m functions serves texts me levels depth deep enter c w (code_runs c) (word_runs w)
      word_runs read_int = read_runs m functions serves texts me levels depth deep enter

      pub pieces_run : (ps : Pieces) → PiecesRun m functions serves texts me levels depth deep enter ps
      pieces_run no_pieces = no_pieces_run m functions serves texts me levels depth deep enter
      pieces_run (text_piece from size ps) = text_piece_runs m functions serves texts me levels depth deep enter from size ps (pieces_run ps)
      pieces_run (int_piece w ps) = word_before m functions serves texts me levels depth deep enter w ps (int_piece w ps) refl (word_runs w) (pieces_run ps)
      pieces_run (bool_piece w ps) = word_before m functions serves texts me levels depth deep enter w ps (bool_piece w ps) refl (word_runs w) (pieces_run ps)

      pub form_runs : (f : Form) → Runs_form f
      form_runs (store p w) = store_runs p w (word_runs w)
      form_runs (store_local x w) = store_local_runs x w (word_runs w)
      form_runs (print ps) = print_runs ps (pieces_run ps)
      form_runs (when c a b) = when_runs c a b (word_runs c) (code_runs a) (code_runs b)
      form_runs (block a) = block_runs a (code_runs a)
      form_runs (loop a) = loop_runs a (code_runs a)
      form_runs (jump k) = jump_runs k
      form_runs (call f) = call_runs f calls
      form_runs (call_here f) = call_here_runs f calls
      form_runs (call_word w) = call_word_runs w (word_runs w) calls
      form_runs (copy more p q) = copy_runs more p q
      form_runs (forms.trap code place) = trap_runs code place

      pub code_runs : (c : Code) → Runs_code c
      code_runs nothing = nothing_runs
      code_runs (form f fs) = list_runs f fs (form_runs f) (code_runs fs)
