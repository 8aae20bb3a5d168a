-- What is proved of these definitions, for contracts to cite.
use Rattle.std.specs.Prelude.{◌≡◌, ◌↔◌, ◌⊎◌, Ok, Err}
use Rattle.own_tree.specs.Source.{File}
use Rattle.own_tree.specs.TypedSource.{Program}
use Rattle.own_judging.specs.Made.{Fault}
use Rattle.own_judged.specs.Typing.{Typing, IsFalse, typed}

-- A text has one typing at most.
abbrev pub TypingIsOne : Type 0
TypingIsOne = (file : File) (p q : Program) → Typing file p → Typing file q → p ≡ q

-- One judgement at most is false where all that come before it hold.
abbrev pub FaultIsOne : Type 0
FaultIsOne = (file : File) (f g : Fault) → IsFalse file f → IsFalse file g → f ≡ g

-- A text has a typing, or a judgement is false of it,
abbrev pub TypedOrRefused : Type 0
TypedOrRefused = (file : File) → ((p : Program) × Typing file p) ⊎ ((f : Fault) × IsFalse file f)

-- and never both.
abbrev pub NeverBoth : Type 0
NeverBoth = (file : File) (p : Program) (f : Fault) → Typing file p → IsFalse file f → ⊥

-- the function that finds out
pub record FindsTyping : Type 0 where
  pub typing : (file : File) (p : Program) → Typing file p ↔ typed file ≡ Ok p
  pub fault : (file : File) (f : Fault) → IsFalse file f ↔ typed file ≡ Err f
