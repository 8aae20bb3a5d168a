-- Rules of the language, which read a text from the left to the right. A rule is a list of premises. Some say what a
-- part of the text becomes, and the others are the judgements, each with its number and the place that it is named at.
use Rattle.std.specs.Prelude.{◌≡◌, ℕ, Bool, true, false, ◌⊎◌, Option, Some, None, Ok, Err}
use Rattle.own_tree.specs.declared.span.Span.{Span}
use Rattle.own_judging.specs.Made.{Made, Fault, broken, Grows, Found, made}

-- A rule on a part of the text.
pub record Judged (A : Type 0) : Type 1 where
  -- from what stands before the part, through what it becomes, to what stands after it
  pub holds : Made → A → Made → Type 0
  -- that judgement is false in it, where all that come before it hold
  pub fails : Made → Fault → Type 0
  -- a function that finds out
  pub run : Made → Found A
  -- it finds what the rule says, and nothing else
  pub found : (s : Made) (a : A) (s' : Made) → holds s a s' → run s ≡ Ok (a, s')
  pub is_so : (s : Made) (a : A) (s' : Made) → run s ≡ Ok (a, s') → holds s a s'
  -- it names the judgement that is false, and no other
  pub stopped : (s : Made) (f : Fault) → fails s f → run s ≡ Err f
  pub is_false : (s : Made) (f : Fault) → run s ≡ Err f → fails s f
  -- what stood before the part stays
  pub grows : (s : Made) (a : A) (s' : Made) → holds s a s' → Grows s s'

-- A side condition: a fact, with a test of it.
pub record Test : Type 1 where
  pub is : Type 0
  pub test : Bool
  pub passes : is → test ≡ true
  pub passed : test ≡ true → is

-- ---- one rule, and then another for what the first gives

abbrev pub after : {A B : Type 0} → Found A → (A → Made → Found B) → Found B
after (Ok x) next = next x.0 x.1
after (Err f) next = Err f

module _ {A B : Type 0} (first : Judged A) (next : A → Judged B) where
  abbrev pub Then : Made → B → Made → Type 0
  Then s b s' = (a : A) × (between : Made) × first.holds s a between × (next a).holds between b s'

  abbrev pub ThenFails : Made → Fault → Type 0
  ThenFails s f = first.fails s f ⊎ ((a : A) × (between : Made) × first.holds s a between × (next a).fails between f)

  abbrev pub then_run : Made → Found B
  then_run s = after (first.run s) (λ a between. (next a).run between)

-- ---- something that begins under its number, what stands in it, and then the whole

module _
    {A : Type 0} (number : Made → ℕ) (begin : Made → Made) (inside : ℕ → Judged A) (whole : ℕ → A → Made → Made) where
  abbrev pub Around : Made → ℕ × A → Made → Type 0
  Around s r s' =
      (m : Made) × (r.0 ≡ number s) × (inside (number s)).holds (begin s) r.1 m × (s' ≡ whole (number s) r.1 m)

  abbrev pub around_run : Made → Found (ℕ × A)
  around_run s = after ((inside (number s)).run (begin s)) (λ a m. made (number s, a) (whole (number s) a m))

-- ---- how single judgements are found out

abbrev pub checked : Bool → Fault → Made → Found (Unit {0})
checked true f s = Ok (tt, s)
checked false f s = Err f

abbrev pub taken : {A : Type 0} → Option A → Fault → Made → Found A
taken (Some a) f s = Ok (a, s)
taken None f s = Err f

abbrev pub unless_run : Option ℕ → Span → Made → Found (Unit {0})
unless_run None at s = Ok (tt, s)
unless_run (Some code) at s = Err (broken code at)
