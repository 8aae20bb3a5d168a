-- The module that a core becomes follows its run, in both directions.
use Rattle.std.proofs.Common.{◌≡◌, ℕ, zero, suc, ◌+◌, ◌-◌, ◌*◌, ◌≤◌, ◌<◌, true, false, List, [], ◌∷◌, ◌++◌, Some, None, refl, sym, ap, ◌∙◌, subst, arith, length, take, drop, append_assoc, append-nil, length-append, length-drop, Option}
use Rattle.std.specs.Prelude.{ℤ, pos, slice_get, map, replicate, nat_lt}
use Rattle.std.specs.Int.{w64}
use Rattle.std.proofs.lemmas.Bool.{le-ltb}
use Rattle.std.proofs.lemmas.List.{take-append-le, drop-append-le, length-take-le}
use Rattle.std.proofs.Math.Seq.{drop-append_seam}
use Rattle.wasm_form.specs.declared.instr.Instr.TheVariants as i
use Rattle.wasm_form.specs.declared.module.Module.{Module}
use Rattle.wasm_form.specs.declared.module.CodeEntry.{CodeEntry}
use Rattle.wasm_form.specs.declared.module.DataSegment.{DataSegment}
use Rattle.wasm_form.specs.declared.types.ValueType.TheVariants as value_type
use Rattle.wasm_form.specs.declared.types.Value.{Value}
use Rattle.wasm_form.specs.declared.types.Value.TheVariants.{I32}
use Rattle.wasm_form.specs.Steps.{Config, Layer, Frame, number_at, run, machine_run, started, main_code, memory_of, least, laid, zeros, Outcome, Ended, Trapped, Running}
use Rattle.own_ways.specs.Ways.{Way, gives, traps, stops, errs, strays}
use Rattle.core_form.specs.CoreSource.{Function, CoreProgram}
use Rattle.core_form.specs.CoreRun.{State, enter, start, core_run}
use Rattle.low_laws.specs.Lower.{main_entry, function_entry, lowered, numbers_from}
use Rattle.low_laws.specs.declared.places.TheConstants.{PAGES}
use Rattle.core_form.specs.Sizes.{AreInts, AreLow}
use Rattle.low_laws.specs.Shows.{Holds}
use Rattle.wasm_laws.proofs.Stretches.{goes, goes_to_trap, ends, stops_on}
use Rattle.wasm_laws.proofs.Opcodes.{puts32, finishes}
use Rattle.low_laws.specs.Follows.{counted_forms, Forwards, IsPrefix, Agrees}
use Rattle.low_laws.specs.Laws.{ModulesFollow}
use Rattle.wasm_laws.proofs.Directions.{outputs_begin, over_stays}
use Rattle.low_laws.proofs.Numbers.{some_same}
use Rattle.low_laws.proofs.Words.{Serves}
use Rattle.low_laws.proofs.Calls.{Kept, all_run}
use Rattle.low_laws.proofs.Lands.{Spot, Lands, Free, ticked}
use Rattle.wasm_laws.specs.Stretches.{Comes, Falls, Stops, Begins, IsOver}
use Rattle.wasm_laws.specs.Places.{at}
use Rattle.core_form.specs.declared.limits.TheConstants.{AREA, STEPS, MOST_CORE_TEXTS, MOST_FUNCTIONS}
use Rattle.wasm_form.specs.declared.limits.TheConstants.{PAGE}

-- ---- the memory at the start

-- so many bytes, all 0
abbrev pub blank : ℕ → List ℕ
blank n = replicate n 0

zeros_front : (a n : ℕ) → a ≤ n → take a (blank n) ≡ blank a
zeros_front zero n le = refl
zeros_front (suc a) zero le = absurd (omega (arith, le))
zeros_front (suc a) (suc n) le = ap (λ (xs : List ℕ). 0 ∷ xs) (zeros_front a n (omega (arith, le)))

zeros_back : (a n : ℕ) → a ≤ n → drop a (blank n) ≡ blank (n - a)
zeros_back zero n le = let e : n - 0 ≡ n = omega arith in rw e refl
zeros_back (suc a) zero le = absurd (omega (arith, le))
zeros_back (suc a) (suc n) le = let e : suc n - suc a ≡ n - a = omega arith in rw e (zeros_back a n (omega (arith, le)))

zeros_long : (n : ℕ) → length (blank n) ≡ n
zeros_long zero = refl
zeros_long (suc n) = ap suc (zeros_long n)

-- eight zeros stand in front of what was laid
zero_word : (a b n : ℕ) (more : List ℕ) → b + 8 ≤ a → a ≤ n → take 8 (drop b (take a (blank n) ++ more)) ≡ blank 8
zero_word a b n more lb la =
    let e = zeros_front a n la in
    let l = ap length e ∙ zeros_long a in
    ap (take 8) (drop-append-le b (take a (blank n)) more (omega (arith, lb, l)))
    ∙ take-append-le 8 (drop b (take a (blank n))) more (let q = length-drop b (take a (blank n)) in omega (arith, lb, l, q))
    ∙ ap (λ (xs : List ℕ). take 8 (drop b xs)) e ∙ ap (take 8) (zeros_back b a (omega (arith, lb))) ∙ zeros_front 8 (a - b) (omega (arith, lb))

module _ (texts : List ℕ) (n : ℕ) (room : (8 * AREA) + length texts ≤ n) where
  abbrev begun : List ℕ
  begun = laid (8 * AREA) texts (blank n)

  begun_long : length begun ≡ n
  begun_long =
      let a = length-append (take (8 * AREA) (blank n) ++ texts) (drop ((8 * AREA) + length texts) (blank n)) in
      let b = length-append (take (8 * AREA) (blank n)) texts in
      let c = zeros_long n in
      let d = length-take-le (8 * AREA) (blank n) (omega (arith, room, c)) in
      let e = length-drop ((8 * AREA) + length texts) (blank n) in
      omega (arith, a, b, c, d, e, room)

  begun_word : (w : ℕ) → w < AREA → number_at w64 begun (8 * w) ≡ Some 0
  begun_word w lt =
      let l = begun_long in
      rw (le-ltb (length begun) (8 * w + 8) (omega (arith, l, lt, room)), append_assoc (take (8 * AREA) (blank n)) texts (drop ((8 * AREA) + length texts) (blank n)), zero_word (8 * AREA) (8 * w) n (texts ++ drop ((8 * AREA) + length texts) (blank n)) (omega (arith, lt)) (omega (arith, room))) refl

  begun_texts : drop (8 * AREA) begun ≡ texts ++ drop ((8 * AREA) + length texts) (blank n)
  begun_texts =
      let l = length-take-le (8 * AREA) (blank n) (let c = zeros_long n in omega (arith, room, c)) in
      ap (drop (8 * AREA)) (append_assoc (take (8 * AREA) (blank n)) texts (drop ((8 * AREA) + length texts) (blank n)))
      ∙ ap (λ (k : ℕ). drop k (take (8 * AREA) (blank n) ++ (texts ++ drop ((8 * AREA) + length texts) (blank n)))) (sym l)
      ∙ drop-append_seam (take (8 * AREA) (blank n)) (texts ++ drop ((8 * AREA) + length texts) (blank n))

  pub begun_holds : Holds texts (λ a. pos 0) begun
  begun_holds = record {
    room = let l = begun_long in omega (arith, l, room);
    each = begun_word;
    whole = λ w. refl;
    texts_there = (drop ((8 * AREA) + length texts) (blank n), begun_texts);
  }

-- ---- the run of the core, and that of the machine

-- Where a way of the core leaves the machine that began in a configuration.
abbrev pub Follows : Module → Config → ℕ → Way State (Unit {0}) → Type 0
Follows m c turns (gives u t) = (k : ℕ) × (k ≤ STEPS * t.forms) × Stops m k t.log c
Follows m c turns (traps code place t) = (k : ℕ) × (k ≤ STEPS * t.forms) × Falls m k t.log code place c
Follows m c turns (stops t) = (k : ℕ) × (last : Config) × (k ≤ STEPS * t.forms) × (turns ≤ k) × Comes m k t.log c last
Follows m c turns (errs t) = Unit {0}
Follows m c turns (strays t) = Unit {0}

-- what the start of a module gives for a core
pub record Begun (m : Module) (c : CoreProgram) : Type 0 where
  pub serves : Serves m c.functions
  pub low : AreLow c.functions
  pub size : ℕ
  pub room : (8 * AREA) + length c.texts ≤ size
  pub begins : (input : List ℤ) (n : ℕ) → machine_run m input n ≡ run m n 0 (at m (Frame [] None [] [] ∷ []) (laid (8 * AREA) c.texts (blank size)) input (i.I32Const 0 ∷ i.Call (6 + c.main) ∷ []) [] [])

module _ (m : Module) (c : CoreProgram) (begun : Begun m c) (input : List ℤ) (whole : AreInts input) (turns : ℕ) where
  abbrev memory : List ℕ
  memory = laid (8 * AREA) c.texts (blank begun.size)

  abbrev bottom : List Layer
  bottom = Frame [] None [] [] ∷ []

  abbrev begin : Config
  begin = at m bottom memory input (i.I32Const 0 ∷ i.Call (6 + c.main) ∷ []) [] []

  abbrev main_spot : Unit {0} → Unit {0} → Spot
  main_spot u w mem ins ls = at m bottom mem ins [] [] ls

  -- the end of main's frame is one step more, and the first constant was one before
  framed : (r : Way State (Unit {0})) → Lands m (Kept c.texts [] []) {A = Unit {0}} Free main_spot Free 4 (ticked (start input turns)) (at m bottom memory input (i.Call (6 + c.main) ∷ []) (I32 0 ∷ []) []) r → Follows m begin turns r
  framed (gives u t) l = let x = l.1 tt in (suc x.steps + 1, let p = x.most in omega (arith, p), rest x.steps x.text x.memory x.locals x.comes x.log)
    where
      rest : (k : ℕ) (text mem : List ℕ) (ls : List Value) → Comes m k text (at m bottom memory input (i.Call (6 + c.main) ∷ []) (I32 0 ∷ []) []) (at m bottom mem t.input [] [] ls) → t.log ≡ text → Stops m (suc k + 1) t.log begin
      rest k text mem ls comes log = rw (log, sym (append-nil text)) (stops_on (goes (puts32 (omega arith)) comes) (ends finishes))
  framed (traps code place t) l = (suc l.steps, let p = l.most in omega (arith, p), let e = l.log in rw e (goes_to_trap (puts32 (omega arith)) l.falls))
  framed (stops t) l = (suc l.steps, l.last, let p = l.most in omega (arith, p), let p = l.least in omega (arith, p), let e = l.log in rw e (goes (puts32 (omega arith)) l.comes))
  framed (errs t) l = tt
  framed (strays t) l = tt

  pub follows : Follows m begin turns (core_run c input turns)
  unfolding core_run
  follows = framed (enter c turns 1000 true c.main 0 (ticked (start input turns)))
      (all_run m c begun.serves turns begun.low 1000 0 (omega arith) true c.main bottom [] [] (ticked (start input turns)) memory [] _ (λ g e. refl) (omega arith) refl (omega arith) (begun_holds c.texts begun.size begun.room) whole)

  -- ---- forwards

  ahead : (r : Way State (Unit {0})) (n : ℕ) → STEPS * counted_forms r ≤ n → Follows m begin turns r → Forwards r (run m n 0 begin)
  ahead (gives u t) n le f = let w : n ≡ f.0 + (n - f.0) = (let q = f.1 in omega (arith, q, le)) in (0 + f.0, ap (λ (k : ℕ). run m k 0 begin) w ∙ f.2.by (n - f.0) 0)
  ahead (traps code place t) n le f = let w : n ≡ f.0 + (n - f.0) = (let q = f.1 in omega (arith, q, le)) in ap (λ (k : ℕ). run m k 0 begin) w ∙ f.2.by (n - f.0) 0
  ahead (stops t) n le f =
      let w : n ≡ f.0 + (n - f.0) = (let q = f.2 in omega (arith, q, le)) in
      ((run m (n - f.0) (0 + f.0) f.1).0, ap (λ (r : List ℕ × Outcome). r.0) (ap (λ (k : ℕ). run m k 0 begin) w ∙ f.4.by (n - f.0) 0))
  ahead (errs t) n le f = tt
  ahead (strays t) n le f = tt

  -- ---- backwards

  -- what is known of the run with more steps
  after_more : (n k : ℕ) (o : List ℕ) (outcome : Outcome) → run m (n + k) 0 begin ≡ (o, outcome) → Begins (run m n 0 begin).0 o
  after_more n k o outcome e = subst (λ (r : List ℕ × Outcome). Begins (run m n 0 begin).0 r.0) e (outputs_begin m n k 0 begin)

  swapped : (n k : ℕ) (r : List ℕ × Outcome) → run m (k + n) 0 begin ≡ r → run m (n + k) 0 begin ≡ r
  swapped n k r e = ap (λ (j : ℕ). run m j 0 begin) (let q : n + k ≡ k + n = omega arith in q) ∙ e

  cut_run : (t : State) (k : ℕ) (last : Config) → Comes m k t.log begin last → run m k 0 begin ≡ (t.log, Running)
  cut_run t k last comes = ap (λ (j : ℕ). run m j 0 begin) (let q : k ≡ k + 0 = omega arith in q) ∙ comes.by 0 0 ∙ ap (λ (xs : List ℕ). (xs, Running)) (append-nil t.log)

  prefixes : (r : Way State (Unit {0})) → Follows m begin turns r → IsPrefix r (run m turns 0 begin)
  prefixes (gives u t) f = after_more turns f.0 t.log (Ended (0 + f.0)) (swapped turns f.0 _ (f.2.by turns 0))
  prefixes (traps code place t) f = after_more turns f.0 t.log (Trapped code place) (swapped turns f.0 _ (f.2.by turns 0))
  prefixes (stops t) f =
      let e : turns + (f.0 - turns) ≡ f.0 = (let q = f.3 in omega (arith, q)) in
      after_more turns (f.0 - turns) t.log Running (ap (λ (j : ℕ). run m j 0 begin) e ∙ cut_run t f.0 f.1 f.4)
  prefixes (errs t) f = tt
  prefixes (strays t) f = tt

  back : (r : Way State (Unit {0})) → Follows m begin turns r → IsOver (run m turns 0 begin).1 → Agrees r (run m turns 0 begin)
  back (gives u t) f over =
      let e = sym (over_stays m turns f.0 0 begin over) ∙ swapped turns f.0 _ (f.2.by turns 0) in
      (ap (λ (r : List ℕ × Outcome). r.0) e, (0 + f.0, ap (λ (r : List ℕ × Outcome). r.1) e))
  back (traps code place t) f over = sym (over_stays m turns f.0 0 begin over) ∙ swapped turns f.0 _ (f.2.by turns 0)
  back (stops t) f over =
      let e : turns + (f.0 - turns) ≡ f.0 = (let q = f.3 in omega (arith, q)) in
      let same = sym (over_stays m turns (f.0 - turns) 0 begin over) ∙ ap (λ (j : ℕ). run m j 0 begin) e ∙ cut_run t f.0 f.1 f.4 in
      subst (λ (r : List ℕ × Outcome). IsOver r.1) same over
  back (errs t) f over = tt
  back (strays t) f over = tt

  -- ---- the three sentences of *Behaves*, between a core and its module

  pub output_is_prefix : IsPrefix (core_run c input turns) (machine_run m input turns)
  output_is_prefix = rw (begun.begins input turns) (prefixes (core_run c input turns) follows)

  pub goes_ahead : (n : ℕ) → STEPS * counted_forms (core_run c input turns) ≤ n → Forwards (core_run c input turns) (machine_run m input n)
  goes_ahead n le = rw (begun.begins input n) (ahead (core_run c input turns) n le follows)

  pub goes_back : IsOver (machine_run m input turns).1 → Agrees (core_run c input turns) (machine_run m input turns)
  goes_back over = rw (begun.begins input turns) (back (core_run c input turns) follows (subst (λ (r : List ℕ × Outcome). IsOver r.1) (begun.begins input turns) over))

-- ---- the module of a core

typed_at : (fs : List Function) (f : ℕ) (g : Function) (more : List ℕ) → slice_get fs f ≡ Some g → slice_get (replicate (length fs) 1 ++ more) f ≡ Some 1
typed_at [] f g more e = absurd (cc)
typed_at (h ∷ fs) zero g more e = refl
typed_at (h ∷ fs) (suc f) g more e = typed_at fs f g more e

coded_at : (fs : List Function) (f : ℕ) (g : Function) (more : List CodeEntry) → slice_get fs f ≡ Some g → slice_get (map function_entry fs ++ more) f ≡ Some (function_entry g)
coded_at [] f g more e = absurd (cc)
coded_at (h ∷ fs) zero g more e = ap (λ (x : Function). Some (function_entry x)) (some_same h g e)
coded_at (h ∷ fs) (suc f) g more e = coded_at fs f g more e

pub last_code : (fs : List Function) (last : CodeEntry) → slice_get (map function_entry fs ++ last ∷ []) (length fs) ≡ Some last
last_code [] last = refl
last_code (h ∷ fs) last = last_code fs last

element_at : (from : ℕ) (fs : List Function) (f : ℕ) (g : Function) (more : List (Option ℕ)) → slice_get fs f ≡ Some g → slice_get (map Some (numbers_from from (length fs)) ++ more) f ≡ Some (Some (from + f))
element_at from [] f g more e = absurd (cc)
element_at from (h ∷ fs) zero g more e = let q : from ≡ from + 0 = omega arith in ap (λ (n : ℕ). Some (Some n)) q
element_at from (h ∷ fs) (suc f) g more e = element_at (suc from) fs f g more e ∙ (let q : suc from + f ≡ from + suc f = omega arith in ap (λ (n : ℕ). Some (Some n)) q)

lowered_serves : (c : CoreProgram) → length c.functions ≤ MOST_FUNCTIONS → Serves (lowered c) c.functions
unfolding lowered
lowered_serves c few = record {
  table_size = record { min = length c.functions; max = None };
  has_table = refl;
  own_type = refl;
  element = λ f g e. element_at 6 c.functions f g _ e;
  few = omega (arith, few);
  size = record { min = PAGES; max = None };
  memory = refl;
  imports = refl;
  type = record { parameters = value_type.I32 ∷ []; result = None };
  takes = refl;
  leaves = refl;
  typed = λ f g e. rw (typed_at c.functions f g (4 ∷ []) e) refl;
  coded = λ f g e. coded_at c.functions f g (main_entry c.main ∷ []) e;
}

-- ---- the start of a module that has one segment, and no global and no table

starts : (m : Module) (entry : CodeEntry) (input : List ℤ) (n : ℕ) → main_code m ≡ Some entry → zeros entry.locals ≡ [] → m.globals ≡ []
    → machine_run m input n ≡ run m n 0 (at m (Frame [] None [] [] ∷ []) (memory_of m) input entry.body [] [])
unfolding machine_run started
starts m entry input n main locals globals = rw (main, locals, globals) refl

memory_is : (m : Module) (s : DataSegment) → m.segments ≡ s ∷ [] → memory_of m ≡ laid s.offset s.bytes (blank (least m.memories * PAGE))
memory_is m s e = rw e refl

lowered_segments : (c : CoreProgram) → (lowered c).segments ≡ record { offset = (8 * AREA); bytes = c.texts } ∷ []
unfolding lowered
lowered_segments c = refl

lowered_pages : (c : CoreProgram) → least (lowered c).memories ≡ PAGES
unfolding lowered
lowered_pages c = refl

lowered_main : (c : CoreProgram) → main_code (lowered c) ≡ Some (main_entry c.main)
unfolding lowered
lowered_main c =
    let own : nat_lt (6 + length c.functions) 6 ≡ false = le-ltb _ _ (omega arith) in
    let number : 6 + length c.functions - 6 ≡ length c.functions = omega arith in
    rw (own, number) (last_code c.functions (main_entry c.main))

lowered_globals : (c : CoreProgram) → (lowered c).globals ≡ []
unfolding lowered
lowered_globals c = refl

pub lowered_begun : (c : CoreProgram) → AreLow c.functions → length c.functions ≤ MOST_FUNCTIONS → length c.texts ≤ MOST_CORE_TEXTS → Begun (lowered c) c
lowered_begun c low count few = record {
  serves = lowered_serves c count;
  low = low;
  size = least (lowered c).memories * PAGE;
  room = let e = ap (λ (k : ℕ). k * PAGE) (lowered_pages c) in omega (arith, e, few);
  begins = λ input n. starts (lowered c) (main_entry c.main) input n (lowered_main c) refl (lowered_globals c)
      ∙ ap (λ (mem : List ℕ). run (lowered c) n 0 (at (lowered c) (Frame [] None [] [] ∷ []) mem input (i.I32Const 0 ∷ i.Call (6 + c.main) ∷ []) [] [])) (memory_is (lowered c) _ (lowered_segments c));
}

pub modules_follow : ModulesFollow
modules_follow c small input whole turns =
    let begun = lowered_begun c small.low small.few small.short in
    record { not_ahead = output_is_prefix (lowered c) c begun input whole turns; not_behind = goes_ahead (lowered c) c begun input whole turns; agrees = goes_back (lowered c) c begun input whole turns }
