-- What has been made of a text up to a place in it, and which judgement is false there.
use Rattle.std.specs.Prelude.{◌≡◌, ℕ, ◌≤◌, List, [], ◌++◌, Result, Ok, Err}
use Rattle.own_tree.specs.declared.place.Binding.{Binding}
use Rattle.own_tree.specs.declared.place.Ty.{Ty}
use Rattle.own_tree.specs.declared.span.Span.{Span}
use Rattle.own_tree.specs.TypedSource.{TPat, TBody}

-- the nodes are numbered from 1, the bindings and the bodies from 0, each as it begins in the text
pub record Made : Type 0 where
  -- how many nodes
  pub nodes : ℕ
  pub bindings : List Binding
  pub bodies : List TBody

abbrev pub nothing_made : Made
nothing_made = record { nodes = 0; bindings = []; bodies = [] }

-- a judgement that is false, and where
pub data Fault : Type 0 where
  -- by its number
  broken : (code : ℕ) → Span → Fault
  -- T20, of a `switch` over a type, with the first form that is missing
  uncovered : Span → Ty → TPat → Fault

-- what was made stays, with more behind it
pub record Grows (old new : Made) : Type 0 where
  pub nodes : old.nodes ≤ new.nodes
  pub bindings : (rest : List Binding) × (new.bindings ≡ old.bindings ++ rest)
  pub bodies : (rest : List TBody) × (new.bodies ≡ old.bodies ++ rest)

-- what a part of the text becomes, with what stands after it, or the judgement that is false in it
abbrev pub Found : Type 0 → Type 0
Found A = Result (A × Made) Fault

abbrev pub made : {A : Type 0} → A → Made → Found A
made a s = Ok (a, s)

abbrev pub stop : (A : Type 0) → Fault → Found A
stop A f = Err f
