-- Calls: a level is a frame of the machine, so its own trap is the test of the level.
use Rattle.std.proofs.Common.{◌≡◌, ℕ, zero, suc, ◌+◌, ◌*◌, ◌<◌, ◌≤◌, Bool, true, false, List, [], ◌∷◌, ◌++◌, Option, Some, None, refl, sym, ap, ◌∙◌, subst, arith, length, append-nil}
use Rattle.std.specs.Prelude.{ℤ, pos, slice_get, replicate}
use Rattle.wasm_form.specs.declared.instr.Instr.{Instr}
use Rattle.wasm_form.specs.declared.instr.Instr.TheVariants as i
use Rattle.wasm_form.specs.declared.module.Module.{Module}
use Rattle.wasm_form.specs.declared.types.Value.{Value}
use Rattle.wasm_form.specs.declared.types.Value.TheVariants.{I32, I64}
use Rattle.wasm_form.specs.Steps.{Config, Layer, Frame, Goes, below_all, frames, zeros}
use Rattle.own_ways.specs.Ways.{Way, gives, traps, stops, errs, strays, after, ◌>>=◌, ◌>>◌, pure, trap}
use Rattle.own_ways.specs.Ways as ways
use Rattle.core_form.specs.CoreSource.{Form, Code, Function, CoreProgram}
use Rattle.core_form.specs.CoreRun.{State, Flow, on, out, acts, with_locals, turn_or_stop, turn_if, fallen, bodied, Enter, enter}
use Rattle.low_laws.specs.Lower.{forms_code, function_entry, bare}
use Rattle.core_form.specs.Sizes.{AreInts, AreLow}
use Rattle.low_laws.specs.Shows.{Holds, Shows, Scratch, locals_of, byte_of}
use Rattle.wasm_laws.proofs.Stretches as stretch
use Rattle.wasm_laws.proofs.Stretches.{so, here, goes, comes_on}
use Rattle.wasm_laws.proofs.Opcodes.{enters, too_deep, returns}
use Rattle.low_laws.proofs.Words.{Serves, is_own, typed, coded, FlowLands}
use Rattle.low_laws.proofs.Forms.{Same, CallsRun, code_runs}
use Rattle.low_laws.proofs.Numbers.{zeros_are, zeros_ints}
use Rattle.low_laws.proofs.Lands.{Spot, Lands, Free, turned, seen_as}
use Rattle.wasm_laws.specs.Places.{at}
use Rattle.wasm_form.specs.declared.limits.TheConstants.{MOST_FRAMES}
use Rattle.core_form.specs.declared.limits.TheConstants.{MOST_HEIGHT}
use Rattle.own_tree.specs.declared.limits.TheConstants.{MOST_LEVELS}

-- what a call leaves: the caller's locals, of the machine and of the core
pub record Kept (texts : List ℕ) (own : List ℤ) (kept : List Value) (t : State) (memory : List ℕ) (locals : List Value) : Type 0 where
  pub holds : Holds texts t.words memory
  pub whole : AreInts t.input
  pub same : locals ≡ kept
  pub own_same : t.locals ≡ own

-- the locals that a function begins with
abbrev no_scratch : Scratch
no_scratch = record { one = 0; other = 0; from = 0; to = 0; left = 0; kept = replicate 32 0; all_kept = refl }

begins : (b n : ℕ) → I32 b ∷ zeros (function_entry (record { locals = n; code = Rattle.core_form.specs.CoreSource.nothing })).locals ≡ locals_of b no_scratch (replicate n (pos 0))
begins b n = ap (λ (vs : List Value). I32 b ∷ I64 0 ∷ I64 0 ∷ I32 0 ∷ I32 0 ∷ I32 0 ∷ replicate 32 (I64 0) ++ vs) (append-nil (replicate n (I64 0)) ∙ sym (zeros_are n))

module _ (m : Module) (c : CoreProgram) (serves : Serves m c.functions) (depth : ℕ) (low : AreLow c.functions) where
  abbrev back_at : List Layer → List Instr → List Value → Unit {0} → Unit {0} → Spot
  back_at layers rest vs u w memory input locals = at m layers memory input rest vs locals

  abbrev CallLands : ℕ → State → List ℤ → List Value → Config → List Layer → List Instr → List Value → Way State (Unit {0}) → Type 0
  CallLands paid s own locals d layers rest vs r = Lands m (Kept c.texts own locals) {A = Unit {0}} Free (back_at layers rest vs) Free paid s d r

  abbrev pub EnterRuns : ℕ → Type 0
  EnterRuns levels = (me : ℕ) → me + levels ≤ MOST_LEVELS → (pays : Bool) (f : ℕ) (layers : List Layer) (rest : List Instr) (vs : List Value) (s : State) (memory : List ℕ) (locals : List Value) (d : Config) → Same m c.functions f d (at m layers memory s.input (i.Call (6 + f) ∷ rest) (I32 (byte_of me) ∷ vs) locals)
      → length vs + below_all layers ≤ MOST_HEIGHT * frames layers → frames layers + levels ≡ MOST_FRAMES → s.turns ≤ depth → Holds c.texts s.words memory → AreInts s.input
      → CallLands 4 s s.locals locals d layers rest vs (enter c depth levels pays f me s)

  -- a call for which no level is left
  pub none_runs : EnterRuns 0
  none_runs me deep pays f layers rest vs s memory locals d same room few within holds whole = go (slice_get c.functions f) refl
    where
      turning : (g : Function) → slice_get c.functions f ≡ Some g → (n : ℕ) → s.turns ≡ n → CallLands 4 s s.locals locals d layers rest vs (after (turn_or_stop n s) (λ u. trap 3 0))
      turning g is zero e = record { steps = 0; text = []; last = d; comes = here; log = sym (append-nil s.log); most = omega arith; least = omega (arith, e); none = e }
      turning g is (suc n) e = record { steps = 1; text = []; falls = stretch.traps (stretch.same_step (same g is) (too_deep _ (is_own f serves) (typed f g serves is) (coded f g serves is) serves.takes (omega (arith, few)))); log = sym (append-nil s.log); most = omega arith }

      paying : (g : Function) → slice_get c.functions f ≡ Some g → (pay : Bool) → CallLands 4 s s.locals locals d layers rest vs ((turn_if pay >> trap 3 0) s)
      paying g is true = turning g is s.turns refl
      paying g is false = record { steps = 1; text = []; falls = stretch.traps (stretch.same_step (same g is) (too_deep _ (is_own f serves) (typed f g serves is) (coded f g serves is) serves.takes (omega (arith, few)))); log = sym (append-nil s.log); most = omega arith }

      go : (o : Option Function) → slice_get c.functions f ≡ o → CallLands 4 s s.locals locals d layers rest vs (after (ways.or_stray o s) (λ g. turn_if pays >> trap 3 0))
      go (Some g) is = paying g is pays
      go None is = tt

  -- the body is left at its end, and what it jumps to is not there
  back_lands : (me levels : ℕ) (deep : me + levels < MOST_LEVELS) (run : Enter) (layers : List Layer) (rest : List Instr) (vs locals : List Value) (own : List ℤ) (s : State) (d : Config) (r : Way State Flow) → 1 ≤ frames layers
      → FlowLands m c.functions serves c.texts me levels depth deep run 0 s d bare (Frame vs None locals rest ∷ layers) [] [] r
      → Lands m (Kept c.texts own locals) {A = Unit {0}} Free (back_at layers rest vs) Free 1 s d (after (after r fallen) (λ u. ways.change (with_locals own)))
  back_lands me levels deep run [] rest vs locals own s d r some l = absurd (omega (arith, some))
  back_lands me levels deep run (y ∷ ys) rest vs locals own s d (gives on t) some l = (
    tt,
    λ w. let x = l.1 tt in record {
      steps = x.steps + 1;
      text = x.text ++ [];
      memory = x.memory;
      locals = locals;
      comes = comes_on x.comes (goes returns here);
      shows = record { holds = x.shows.holds; whole = x.shows.input_whole; same = refl; own_same = refl };
      log = x.log ∙ ap (λ xs. s.log ++ xs) (sym (append-nil x.text));
      most = let p = x.most in omega (arith, p);
      least = let p = x.least in omega (arith, p);
      fewer = x.fewer;
    },
  )
  back_lands me levels deep run (y ∷ ys) rest vs locals own s d (gives (out k) t) some l = tt
  back_lands me levels deep run (y ∷ ys) rest vs locals own s d (traps code place t) some l = record { steps = l.steps; text = l.text; falls = l.falls; log = l.log; most = let q = l.most in omega (arith, q) }
  back_lands me levels deep run (y ∷ ys) rest vs locals own s d (stops t) some l = record { steps = l.steps; text = l.text; last = l.last; comes = l.comes; log = l.log; most = let q = l.most in omega (arith, q); least = l.least; none = l.none }
  back_lands me levels deep run (y ∷ ys) rest vs locals own s d (errs t) some l = tt
  back_lands me levels deep run (y ∷ ys) rest vs locals own s d (strays t) some l = tt

  -- a call that has its level
  pub more_runs : (levels : ℕ) → EnterRuns levels → EnterRuns (suc levels)
  more_runs levels more me deep pays f layers rest vs s memory locals d same room few within holds whole = go (slice_get c.functions f) refl
    where
      inner_deep : me + levels < MOST_LEVELS
      inner_deep = omega (arith, deep)

      calls : CallsRun m c.functions serves c.texts me levels depth inner_deep (enter c depth levels)
      calls to small pay k ls js us t mem own e same_there ready =
          seen_as {A = Unit {0}} m (Kept c.texts t.locals own) (Shows c.texts me) Free (back_at ls js us) Free 4 t _ (enter c depth levels pay k to t)
          (λ u mem' own' kept. record { holds = kept.holds; scratch = ready.shows.scratch; are = kept.same ∙ ready.shows.are ∙ ap (λ (zs : List ℤ). locals_of (byte_of me) ready.shows.scratch zs) (sym kept.own_same); locals_whole = subst AreInts (sym kept.own_same) ready.shows.locals_whole; input_whole = kept.whole })
          (more to small pay k ls js us t mem own e same_there (let r = ready.room in omega (arith, r)) ready.few ready.turns ready.shows.holds ready.shows.input_whole)

      took : Function → ℕ → State
      took g n = record { turns = n; forms = s.forms; words = s.words; locals = replicate g.locals (pos 0); input = s.input; log = s.log }

      entry : Function → List Value
      entry g = I32 (byte_of me) ∷ zeros (function_entry g).locals

      body : (g : Function) → slice_get c.functions f ≡ Some g → (n : ℕ) → n ≤ s.turns
          → CallLands 1 (took g n) s.locals locals (at m (Frame vs None locals rest ∷ layers) memory s.input (forms_code g.code bare) [] (entry g)) layers rest vs (after (after (acts c.texts (enter c depth levels) me depth g.code (took g n)) fallen) (λ u. ways.change (with_locals s.locals)))
      body g is n e =
          back_lands me levels inner_deep (enter c depth levels) layers rest vs locals s.locals (took g n) _ (acts c.texts (enter c depth levels) me depth g.code (took g n)) (omega (arith, few, deep))
          (subst (λ (code : List Instr). FlowLands m c.functions serves c.texts me levels depth inner_deep (enter c depth levels) 0 (took g n) (at m (Frame vs None locals rest ∷ layers) memory s.input code [] (entry g)) bare (Frame vs None locals rest ∷ layers) [] [] (acts c.texts (enter c depth levels) me depth g.code (took g n))) (append-nil (forms_code g.code bare))
          (code_runs m c.functions serves c.texts me levels depth inner_deep (enter c depth levels) calls g.code bare (Frame vs None locals rest ∷ layers) [] [] (took g n) memory (entry g)
          (record {
            room = let h = low f g is in omega (arith, h, room);
            few = omega (arith, few);
            turns = omega (arith, within, e);
            shows = record { holds = holds; scratch = no_scratch; are = begins (byte_of me) g.locals; locals_whole = zeros_ints g.locals; input_whole = whole };
          })))

      -- in one step, with so many turns left
      entered : (g : Function) → slice_get c.functions f ≡ Some g → (n : ℕ) → s.turns ≤ suc n → n ≤ s.turns
          → CallLands 4 s s.locals locals d layers rest vs (after (after (acts c.texts (enter c depth levels) me depth g.code (took g n)) fallen) (λ u. ways.change (with_locals s.locals)))
      entered g is n turns kept =
          turned m (Kept c.texts s.locals locals) {A = Unit {0}} Free (back_at layers rest vs) Free 4 1 0 s (took g n) _ (at m (Frame vs None locals rest ∷ layers) memory s.input (forms_code g.code bare) [] (entry g)) _
          (so (stretch.same_step (same g is) (enters _ (is_own f serves) (typed f g serves is) (coded f g serves is) serves.takes (omega (arith, few)))) (ap (λ r. Goes (at m (Frame vs r locals rest ∷ layers) memory s.input (forms_code g.code bare) [] (entry g))) serves.leaves))
          turns kept refl (omega arith) (omega arith) (body g is n kept)

      turning : (g : Function) → slice_get c.functions f ≡ Some g → (n : ℕ) → s.turns ≡ n
          → CallLands 4 s s.locals locals d layers rest vs (after (turn_or_stop n s) (λ u. bodied g.locals (acts c.texts (enter c depth levels) me depth g.code)))
      turning g is zero e = record { steps = 0; text = []; last = d; comes = here; log = sym (append-nil s.log); most = omega arith; least = omega (arith, e); none = e }
      turning g is (suc n) e = entered g is n (omega (arith, e)) (omega (arith, e))

      paying : (g : Function) → slice_get c.functions f ≡ Some g → (pay : Bool)
          → CallLands 4 s s.locals locals d layers rest vs ((turn_if pay >> bodied g.locals (acts c.texts (enter c depth levels) me depth g.code)) s)
      paying g is true = turning g is s.turns refl
      paying g is false = entered g is s.turns (omega arith) (omega arith)

      go : (o : Option Function) → slice_get c.functions f ≡ o → CallLands 4 s s.locals locals d layers rest vs (after (ways.or_stray o s) (λ g. turn_if pays >> bodied g.locals (acts c.texts (enter c depth levels) me depth g.code)))
      go (Some g) is = paying g is pays
      go None is = tt

  pub all_run : (levels : ℕ) → EnterRuns levels
  all_run zero = none_runs
  all_run (suc levels) = more_runs levels (all_run levels)
