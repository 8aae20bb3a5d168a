-- What is proved of these definitions, for contracts to cite.
use Rattle.std.specs.Prelude.{ℕ, suc, ℤ, ◌<◌, ◌≡◌, Bool, true, List, [], ◌∷◌, Option, Some, None, slice_get, length}
use Rattle.own_tree.specs.TypedSource.{TBody, Program}
use Rattle.own_shapes.specs.Types.{Types}
use Rattle.own_runs.specs.Destruction.{Passed, given, lent, lent_temporary, closed}
use Rattle.own_runs.specs.Run.{run_to, start}
use Rattle.own_runs.specs.Store.{Location, State, below}
use Rattle.own_runs.specs.Values.{Part}
use Rattle.own_frames.specs.Frame.{links, seen, Grant, Ok, Reach, entry_params, Admits, Framed}
use Rattle.own_frames.specs.Reading.{reach_of}
use Rattle.own_frames.specs.Tame.{NoCaptures, TameProgram}

-- by what is read off it
abbrev pub IsTame : Types → Program → Type 0
IsTame types program = TameProgram program (reach_of types program) types

-- a grant that is given by tests
pub record Tests : Type 0 where
  pub may_change : Location → Bool
  pub downward : (l : Location) (parts : List Part) → may_change l ≡ true → may_change (below l parts) ≡ true
  pub may_look_up : (variable : ℕ) → (change : Bool) → (activation : ℕ) → Bool

abbrev pub granted_by : Tests → Grant
granted_by tests = record {
  may = λ l. tests.may_change l ≡ true;
  downward = tests.downward;
  sees = λ x change a. tests.may_look_up x change a ≡ true;
}

-- Each call of a tame program, to each depth, changes nothing beyond its own activation but what it is granted.
abbrev pub CallsAreFramed : Type 0
CallsAreFramed =
    (types : Types) (program : Program) → IsTame types program
    → (depth : ℕ) (tests : Tests) (body : ℕ) (maker : Option ℕ) (ps : List Passed) (level : ℕ) (st : State)
    → Admits program (reach_of types program) (granted_by tests) body maker ps st.store
    → Ok (λ v st'. Framed (granted_by tests) st st') (run_to types program depth body maker ps level st)

-- ---- a call that is granted nothing

-- All that was seen is seen as before, and each activation is what it was.
pub record Unchanged (old new : State) : Type 0 where
  pub many : length new.store ≡ length old.store
  pub linked : links new.store ≡ links old.store
  pub same : (l : Location) → l.activation < length old.store → seen new.store l ≡ seen old.store l

-- places that are lent to parameters which change nothing, as to a `deinit` or to a borrowing method
abbrev pub OnlyLent : Reach → List ℕ → List Passed → Type 0
OnlyLent reach [] ps = Unit {0}
OnlyLent reach (x ∷ xs) [] = Unit {0}
OnlyLent reach (x ∷ xs) (lent l ∷ ps) = (reach.borrowed x ≡ true) × OnlyLent reach xs ps
OnlyLent reach (x ∷ xs) (lent_temporary s l ∷ ps) = (reach.borrowed x ≡ true) × OnlyLent reach xs ps
OnlyLent reach (x ∷ xs) (given l ∷ ps) = ⊥
OnlyLent reach (x ∷ xs) (closed body maker ∷ ps) = ⊥

abbrev pub LentTo : Reach → Program → ℕ → List Passed → Type 0
LentTo reach program body ps =
    (b : TBody) → slice_get program.bodies body ≡ Some b → OnlyLent reach (entry_params b.kind b.params) ps

-- A call of a body that captures nothing, and to which places are only lent to be read, changes nothing.
abbrev pub LendingChangesNothing : Type 0
LendingChangesNothing =
    (types : Types) (program : Program) → IsTame types program
    → (depth body : ℕ) (ps : List Passed) (level : ℕ) (st : State) → NoCaptures program (reach_of types program) body
    → LentTo (reach_of types program) program body ps
    → Ok (λ v st'. Unchanged st st') (run_to types program depth body None ps level st)

-- A run of `main` that ends leaves no activation.
abbrev pub RunsEndEmpty : Type 0
RunsEndEmpty =
    (types : Types) (program : Program) → IsTame types program
    → NoCaptures program (reach_of types program) program.main
    → (input : List ℤ) (turns : ℕ)
    → Ok (λ v st'. length st'.store ≡ 0) (run_to types program (suc turns) program.main None [] 0 (start input turns))
