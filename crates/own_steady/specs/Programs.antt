-- Programs that keep to all that a run needs, and what is wanted of their runs.
use Rattle.std.specs.Prelude.{◌≡◌, ℕ, suc, ℤ, Bool, true, false, List, [], slice_get, Some, None}
use Rattle.own_tree.specs.declared.place.Ty.{Ty}
use Rattle.own_tree.specs.declared.place.Ty.TheVariants as type
use Rattle.own_tree.specs.declared.typed.BodyKind.TheVariants as kind
use Rattle.own_tree.specs.declared.typed.Signature.{Signature}
use Rattle.own_tree.specs.TypedSource.{TBody, Program}
use Rattle.own_shapes.specs.Types.{Types, tracked}
use Rattle.own_shapes.specs.Types as shape
use Rattle.own_runs.specs.Run.{run_to, start}
use Rattle.own_runs.specs.Store.{State}
use Rattle.own_ways.specs.Ways.{Way, gives, traps, stops, errs, strays}
use Rattle.own_judged.specs.Text.{Text, Callable, Method}
use Rattle.own_steady.specs.Steady.{Setting, AreWritten, BodySteady, DeinitSteady}

-- ---- the types that no text declares

abbrev pub IsBuiltIn : Ty → Type 0
IsBuiltIn type.Int = Unit {0}
IsBuiltIn type.Bool = Unit {0}
IsBuiltIn type.Unit = Unit {0}
IsBuiltIn (type.Named k) = ⊥
IsBuiltIn (type.Fun k) = Unit {0}

pub record AreBasic (types : Types) : Type 0 where
  pub ints : types.shape type.Int ≡ shape.number
  pub truths : types.shape type.Bool ≡ shape.truth
  pub units : types.shape type.Unit ≡ shape.no_value
  pub functions : (k : ℕ) → types.shape (type.Fun k) ≡ shape.closure
  pub no_properties : (ty : Ty) → IsBuiltIn ty → types.properties ty ≡ []

-- ---- a program

abbrev pub setting : Text → Program → (node_type : ℕ → Ty) → (outer : ℕ → List ℕ) → Setting
setting text program node_type outer = record {
  types = text.types;
  program = program;
  node_type = node_type;
  outer = outer;
}

-- `main` is a function without parameters
pub record MainSteady (program : Program) : Type 0 where
  pub body : TBody
  pub there : slice_get program.bodies program.main ≡ Some body
  pub kind : body.kind ≡ kind.Function
  pub params : body.params ≡ []

-- Parameters have the modes that may be written, or are closures.
pub record ParamsWritten (text : Text) (program : Program) : Type 0 where
  pub functions : (name : List ℕ) (c : Callable) → text.function name ≡ Some c → AreWritten c.params
  pub methods : (t : ℕ) (name : List ℕ) (m : Method) → text.method t name ≡ Some m → AreWritten m.callable.params
  pub initializers : (t : ℕ) (c : Callable) → text.initializer t ≡ Some c → AreWritten c.params
  pub signatures : (f : ℕ) (g : Signature) → slice_get program.signatures f ≡ Some g → AreWritten g.params

-- Each body is steady, each tracked type has its `deinit`, and there is a `main`.
pub record ProgramSteady (text : Text) (program : Program) (node_type : ℕ → Ty) (outer : ℕ → List ℕ) : Type 0 where
  pub bodies :
      (k : ℕ) (body : TBody) → slice_get program.bodies k ≡ Some body
      → BodySteady (setting text program node_type outer) k body
  pub deinits :
      (t : ℕ) → tracked (text.types.shape (type.Named t)) ≡ true
      → DeinitSteady (setting text program node_type outer) t
  pub main : MainSteady program

-- ---- runs

abbrev pub is_astray : {S A : Type 0} → Way S A → Bool
is_astray (gives a s) = false
is_astray (traps code at s) = false
is_astray (stops s) = false
is_astray (errs s) = false
is_astray (strays s) = true

-- no run strays, for every input and number of turns
abbrev pub NeverStrays : Types → Program → Type 0
NeverStrays types program =
    (input : List ℤ) (turns : ℕ)
    → is_astray (run_to types program (suc turns) program.main None [] 0 (start input turns)) ≡ false

-- the run stops, with no turn left
abbrev pub OutOfTurns : Types → Program → List ℤ → (turns : ℕ) → Type 0
OutOfTurns types program input turns =
    (s : State)
    × (run_to types program (suc turns) program.main None [] 0 (start input turns) ≡ stops s) × (s.turns ≡ 0)
