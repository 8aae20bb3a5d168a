-- How a stretch of the machine goes beside a stretch of a core, and how stretches follow one another.
use Rattle.std.proofs.Common.{◌≡◌, ℕ, suc, ◌+◌, ◌*◌, ◌≤◌, List, [], ◌++◌, sym, ap, ◌∙◌, arith, append_assoc, append-nil}
use Rattle.std.specs.Prelude.{ℤ}
use Rattle.wasm_form.specs.declared.module.Module.{Module}
use Rattle.wasm_form.specs.declared.types.Value.{Value}
use Rattle.wasm_form.specs.Steps.{Config, Goes}
use Rattle.own_ways.specs.Ways.{Way, gives, traps, stops, errs, strays, after}
use Rattle.core_form.specs.CoreRun.{State, Act}
use Rattle.low_laws.specs.Shows.{Shows}
use Rattle.wasm_laws.proofs.Stretches.{goes, goes_to_trap, comes_on, falls_on}
use Rattle.wasm_laws.specs.Stretches.{Does, Comes, Falls}
use Rattle.core_form.specs.declared.limits.TheConstants.{STEPS}

-- a place of the machine, but for what its memory, its input and its locals hold
abbrev pub Spot : Type 0
Spot = List ℕ → List ℤ → List Value → Config

-- nothing is asked of the surroundings
abbrev pub Free : {A : Type 0} → A → Type 0
Free a = Unit {0}

-- one more form is counted
abbrev pub ticked : State → State
ticked s = record s { forms = s.forms + 1 }

-- What the machine shows of a state of the core is a parameter: in a body, or across a call.
module _ (m : Module) (Sees : State → List ℕ → List Value → Type 0) where
  -- The core goes from a state to another, and the machine from a configuration to a spot. So many steps were paid
  -- for before.
  pub record Reaches (paid : ℕ) (s s' : State) (c : Config) (d : Spot) : Type 0 where
    pub steps : ℕ
    pub text : List ℕ
    pub memory : List ℕ
    pub locals : List Value
    pub comes : Comes m steps text c (d memory s'.input locals)
    pub shows : Sees s' memory locals
    pub log : s'.log ≡ s.log ++ text
    pub most : steps + STEPS * s.forms ≤ STEPS * s'.forms + paid
    pub least : s.turns ≤ s'.turns + steps
    pub fewer : s'.turns ≤ s.turns

  pub record Trapping (paid : ℕ) (s s' : State) (c : Config) (code at : ℕ) : Type 0 where
    pub steps : ℕ
    pub text : List ℕ
    pub falls : Falls m steps text code at c
    pub log : s'.log ≡ s.log ++ text
    pub most : steps + STEPS * s.forms ≤ STEPS * s'.forms + paid

  pub record Stopping (paid : ℕ) (s s' : State) (c : Config) : Type 0 where
    pub steps : ℕ
    pub text : List ℕ
    pub last : Config
    pub comes : Comes m steps text c last
    pub log : s'.log ≡ s.log ++ text
    pub most : steps + STEPS * s.forms ≤ STEPS * s'.forms + paid
    pub least : s.turns ≤ steps
    pub none : s'.turns ≡ 0

  -- Where a way of the core leaves the machine. For each answer: what is asked of the surroundings, the spot, and what
  -- is known of the answer.
  module _ {A : Type 0} (Asks : A → Type 0) (spot : (a : A) → Asks a → Spot) (Knows : A → Type 0) where
    abbrev pub Lands : ℕ → State → Config → Way State A → Type 0
    Lands paid s c (gives a s') = Knows a × ((w : Asks a) → Reaches paid s s' c (spot a w))
    Lands paid s c (traps code at s') = Trapping paid s s' c code at
    Lands paid s c (stops s') = Stopping paid s s' c
    Lands paid s c (errs s') = Unit {0}
    Lands paid s c (strays s') = Unit {0}

    -- a stretch before what lands
    pub behind : {n : ℕ} (paid more : ℕ) (s t : State) (c : Config) (d : Spot) (r : Way State A) → paid + more ≤ n → (x : Reaches paid s t c d) → Lands more t (d x.memory t.input x.locals) r → Lands n s c r
    behind paid more s t c d (gives a u) le x l = (
      l.0,
      λ w. let y = l.1 w in record {
        steps = x.steps + y.steps;
        text = x.text ++ y.text;
        memory = y.memory;
        locals = y.locals;
        comes = comes_on x.comes y.comes;
        shows = y.shows;
        log = y.log ∙ ap (λ xs. xs ++ y.text) x.log ∙ append_assoc s.log x.text y.text;
        most = let p = x.most in let q = y.most in omega (arith, p, q, le);
        least = let p = x.least in let q = y.least in omega (arith, p, q);
        fewer = let p = x.fewer in let q = y.fewer in omega (arith, p, q);
      },
    )
    behind paid more s t c d (traps code at u) le x y = record {
      steps = x.steps + y.steps;
      text = x.text ++ y.text;
      falls = falls_on x.comes y.falls;
      log = y.log ∙ ap (λ xs. xs ++ y.text) x.log ∙ append_assoc s.log x.text y.text;
      most = let p = x.most in let q = y.most in omega (arith, p, q, le);
    }
    behind paid more s t c d (stops u) le x y = record {
      steps = x.steps + y.steps;
      text = x.text ++ y.text;
      last = y.last;
      comes = comes_on x.comes y.comes;
      log = y.log ∙ ap (λ xs. xs ++ y.text) x.log ∙ append_assoc s.log x.text y.text;
      most = let p = x.most in let q = y.most in omega (arith, p, q, le);
      least = let p = x.least in let q = y.least in omega (arith, p, q);
      none = y.none;
    }
    behind paid more s t c d (errs u) le x y = tt
    behind paid more s t c d (strays u) le x y = tt

    -- the form that is counted pays for its steps
    pub counted : (n paid : ℕ) (s t : State) (c : Config) (r : Way State A) → t.forms ≡ s.forms + 1 → t.turns ≡ s.turns → t.log ≡ s.log → paid ≤ n + STEPS → Lands paid t c r → Lands n s c r
    counted n paid s t c (gives a u) f e g le l = (
      l.0,
      λ w. let y = l.1 w in record {
        steps = y.steps;
        text = y.text;
        memory = y.memory;
        locals = y.locals;
        comes = y.comes;
        shows = y.shows;
        log = y.log ∙ ap (λ xs. xs ++ y.text) g;
        most = let q = y.most in omega (arith, q, f, le);
        least = let q = y.least in omega (arith, q, e);
        fewer = let q = y.fewer in omega (arith, q, e);
      },
    )
    counted n paid s t c (traps code at u) f e g le y = record { steps = y.steps; text = y.text; falls = y.falls; log = y.log ∙ ap (λ xs. xs ++ y.text) g; most = let q = y.most in omega (arith, q, f, le) }
    counted n paid s t c (stops u) f e g le y = record { steps = y.steps; text = y.text; last = y.last; comes = y.comes; log = y.log ∙ ap (λ xs. xs ++ y.text) g; most = let q = y.most in omega (arith, q, f, le); least = let q = y.least in omega (arith, q, e); none = y.none }
    counted n paid s t c (errs u) f e g le y = tt
    counted n paid s t c (strays u) f e g le y = tt

    -- a step that takes a turn, or none
    pub turned : (n paid more : ℕ) (s t : State) (c d : Config) (r : Way State A) → Does m c (Goes d) → s.turns ≤ suc t.turns → t.turns ≤ s.turns → t.log ≡ s.log → t.forms ≡ s.forms + more → paid + 1 ≤ n + STEPS * more → Lands paid t d r → Lands n s c r
    turned n paid more s t c d (gives a u) go turns kept log forms le l = (
      l.0,
      λ w. let y = l.1 w in record {
        steps = suc y.steps;
        text = y.text;
        memory = y.memory;
        locals = y.locals;
        comes = goes go y.comes;
        shows = y.shows;
        log = y.log ∙ ap (λ xs. xs ++ y.text) log;
        most = let q = y.most in omega (arith, q, forms, le);
        least = let q = y.least in omega (arith, q, turns);
        fewer = let q = y.fewer in omega (arith, q, kept);
      },
    )
    turned n paid more s t c d (traps code at u) go turns kept log forms le y = record { steps = suc y.steps; text = y.text; falls = goes_to_trap go y.falls; log = y.log ∙ ap (λ xs. xs ++ y.text) log; most = let q = y.most in omega (arith, q, forms, le) }
    turned n paid more s t c d (stops u) go turns kept log forms le y = record { steps = suc y.steps; text = y.text; last = y.last; comes = goes go y.comes; log = y.log ∙ ap (λ xs. xs ++ y.text) log; most = let q = y.most in omega (arith, q, forms, le); least = let q = y.least in omega (arith, q, turns); none = y.none }
    turned n paid more s t c d (errs u) go turns kept log forms le y = tt
    turned n paid more s t c d (strays u) go turns kept log forms le y = tt

  -- the machine goes on alone
  pub also : {A : Type 0} (Asks : A → Type 0) (spot spot' : (a : A) → Asks a → Spot) (Knows : A → Type 0) {n : ℕ} (k paid : ℕ) (s : State) (c : Config) (r : Way State A) → paid + k ≤ n
      → ((a : A) (w : Asks a) (memory : List ℕ) (input : List ℤ) (locals : List Value) → Comes m k [] (spot a w memory input locals) (spot' a w memory input locals))
      → Lands Asks spot Knows paid s c r → Lands Asks spot' Knows n s c r
  also Asks spot spot' Knows k paid s c (gives a t) le on l = (
    l.0,
    λ w. let x = l.1 w in record {
      steps = x.steps + k;
      text = x.text ++ [];
      memory = x.memory;
      locals = x.locals;
      comes = comes_on x.comes (on a w x.memory t.input x.locals);
      shows = x.shows;
      log = x.log ∙ ap (λ xs. s.log ++ xs) (sym (append-nil x.text));
      most = let p = x.most in omega (arith, p, le);
      least = let p = x.least in omega (arith, p);
      fewer = x.fewer;
    },
  )
  also Asks spot spot' Knows k paid s c (traps code at t) le on y = record { steps = y.steps; text = y.text; falls = y.falls; log = y.log; most = let q = y.most in omega (arith, q, le) }
  also Asks spot spot' Knows k paid s c (stops t) le on y = record { steps = y.steps; text = y.text; last = y.last; comes = y.comes; log = y.log; most = let q = y.most in omega (arith, q, le); least = y.least; none = y.none }
  also Asks spot spot' Knows k paid s c (errs t) le on y = tt
  also Asks spot spot' Knows k paid s c (strays t) le on y = tt

  -- one part of the core after another
  pub and_then : {A B : Type 0} (Asks : B → Type 0) (spot : (b : B) → Asks b → Spot) (Knows : B → Type 0) {n : ℕ}
      (paid more : ℕ) (first : A → Spot) (Known : A → Type 0) (s : State) (c : Config) (r : Way State A) (f : A → Act B) → paid + more ≤ n
      → Lands {A = A} Free (λ a w. first a) Known paid s c r
      → ((a : A) (t : State) (memory : List ℕ) (locals : List Value) → Known a → Sees t memory locals → t.turns ≤ s.turns → Lands Asks spot Knows more t (first a memory t.input locals) (f a t))
      → Lands Asks spot Knows n s c (after r f)
  and_then Asks spot Knows paid more first Known s c (gives a t) f le l next =
      let x = l.1 tt in behind Asks spot Knows paid more s t c (first a) (f a t) le x (next a t x.memory x.locals l.0 x.shows x.fewer)
  and_then Asks spot Knows paid more first Known s c (traps code at t) f le y next = record { steps = y.steps; text = y.text; falls = y.falls; log = y.log; most = let q = y.most in omega (arith, q, le) }
  and_then Asks spot Knows paid more first Known s c (stops t) f le y next = record { steps = y.steps; text = y.text; last = y.last; comes = y.comes; log = y.log; most = let q = y.most in omega (arith, q, le); least = y.least; none = y.none }
  and_then Asks spot Knows paid more first Known s c (errs t) f le y next = tt
  and_then Asks spot Knows paid more first Known s c (strays t) f le y next = tt

  -- so many steps that write nothing, where the core does not go on
  abbrev pub straight : {d : Spot} (n : ℕ) {paid : ℕ} {s : State} {c : Config} {memory : List ℕ} {locals : List Value} → n ≤ paid → Comes m n [] c (d memory s.input locals) → Sees s memory locals → Reaches paid s s c d
  straight n {s = s} {memory = memory} {locals = locals} le comes shows = record { steps = n; text = []; memory = memory; locals = locals; comes = comes; shows = shows; log = sym (append-nil s.log); most = omega (arith, le); least = omega arith; fewer = omega arith }

  -- and where it changes its state, but for what is counted
  abbrev pub changed : {d : Spot} (n : ℕ) {paid : ℕ} {s t : State} {c : Config} {memory : List ℕ} {locals : List Value} → n ≤ paid → t.log ≡ s.log → t.forms ≡ s.forms → t.turns ≡ s.turns → Comes m n [] c (d memory t.input locals) → Sees t memory locals → Reaches paid s t c d
  changed n {s = s} {memory = memory} {locals = locals} le log forms turns comes shows = record { steps = n; text = []; memory = memory; locals = locals; comes = comes; shows = shows; log = log ∙ sym (append-nil s.log); most = omega (arith, le, forms); least = omega (arith, turns); fewer = omega (arith, turns) }

pub shows_ticked : {texts : List ℕ} {me : ℕ} {s : State} {memory : List ℕ} {locals : List Value} → Shows texts me s memory locals → Shows texts me (ticked s) memory locals
shows_ticked x = record { holds = x.holds; scratch = x.scratch; are = x.are; locals_whole = x.locals_whole; input_whole = x.input_whole }

-- another view of the states
pub seen_as : {A : Type 0} (m : Module) (Sees Other : State → List ℕ → List Value → Type 0) (Asks : A → Type 0) (spot : (a : A) → Asks a → Spot) (Knows : A → Type 0) (paid : ℕ) (s : State) (c : Config) (r : Way State A)
    → ((t : State) (memory : List ℕ) (locals : List Value) → Sees t memory locals → Other t memory locals) → Lands m Sees Asks spot Knows paid s c r → Lands m Other Asks spot Knows paid s c r
seen_as m Sees Other Asks spot Knows paid s c (gives a t) see l = (l.0, λ w. let x = l.1 w in record { steps = x.steps; text = x.text; memory = x.memory; locals = x.locals; comes = x.comes; shows = see t x.memory x.locals x.shows; log = x.log; most = x.most; least = x.least; fewer = x.fewer })
seen_as m Sees Other Asks spot Knows paid s c (traps code at t) see y = record { steps = y.steps; text = y.text; falls = y.falls; log = y.log; most = y.most }
seen_as m Sees Other Asks spot Knows paid s c (stops t) see y = record { steps = y.steps; text = y.text; last = y.last; comes = y.comes; log = y.log; most = y.most; least = y.least; none = y.none }
seen_as m Sees Other Asks spot Knows paid s c (errs t) see y = tt
seen_as m Sees Other Asks spot Knows paid s c (strays t) see y = tt
