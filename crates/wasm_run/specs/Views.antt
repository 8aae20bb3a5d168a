-- What the fields of the state stand for.
use Rattle.std.specs.Prelude.{◌≡◌, ℕ, ◌≤◌, ◌<◌, ◌+◌, ◌*◌, Bool, true, false, if◌then◌else◌, codes, Option, Some, None, List, [], ◌∷◌, length, take, drop, reverse}
use Rattle.std.specs.Fmt.{signed_decimal}
use Rattle.std.specs.Vec.{vec_capacity}
use Rattle.wasm_form.specs.declared.types.Value.{Value}
use Rattle.wasm_run.specs.declared.state.Layer.{Layer}
use Rattle.wasm_run.specs.declared.state.Written.{Written}
use Rattle.wasm_run.specs.declared.state.Written.TheVariants as written
use Rattle.wasm_run.specs.declared.state.Went.{Went}
use Rattle.wasm_run.specs.declared.state.Went.TheVariants as went
use Rattle.wasm_run.specs.declared.state.State.TheInside.{Inside}
use Rattle.wasm_form.specs.Steps as steps
use Rattle.wasm_form.specs.Steps.{Config, Next, Goes, Writes, Ends, Traps, Stuck, target_of}
use Rattle.wasm_form.specs.declared.limits.TheConstants.{MOST_LOCALS, MOST_LABELS, MOST_FRAMES, MOST_OPERANDS}

-- ---- answers

-- the bytes that are to be written, and that a piece of the memory lies within it
abbrev pub text_of : Written → List ℕ → List ℕ
text_of (written.Number z) memory = signed_decimal z
text_of (written.Truth holds) memory = if holds then codes "true" else codes "false"
text_of (written.Text at size) memory = take size (drop at memory)
text_of (written.Byte b) memory = b ∷ []

abbrev pub LiesWithin : Written → List ℕ → Type 0
LiesWithin (written.Number z) memory = Unit {0}
LiesWithin (written.Truth holds) memory = Unit {0}
LiesWithin (written.Text at size) memory = at + size ≤ length memory
LiesWithin (written.Byte b) memory = Unit {0}

-- what a step of the code shows
abbrev pub Shows : Went → Config → Next → Type 0
Shows went.On c next = next ≡ Goes c
Shows went.Ended c next = next ≡ Ends
Shows (went.Wrote w) c next = (next ≡ Writes (text_of w c.memory) c) × LiesWithin w c.memory
Shows (went.Trapped code at) c next = next ≡ Traps code at
Shows went.Stuck c next = next ≡ Stuck

abbrev pub Took : {A : Type 0} → Option A → Config → Option (A × Config) → Type 0
Took None c taken = taken ≡ None
Took (Some a) c taken = taken ≡ Some (a, c)

-- a step of a group of instructions, or none where the instruction is of another group
abbrev pub ShowsIf : Option Went → Config → Config → Option Next → Type 0
ShowsIf None old new None = new ≡ old
ShowsIf None old new (Some next) = ⊥
ShowsIf (Some w) old new None = ⊥
ShowsIf (Some w) old new (Some next) = Shows w new next

-- a list of one value or none
abbrev pub listed : Option Value → List Value
listed None = []
listed (Some v) = v ∷ []

-- ---- the layers, the innermost first, over the values and the locals that lie below

abbrev pub layer_of : Layer → List Value → List Value → steps.Layer
layer_of x vs ls =
    if x.is_frame
    then steps.Frame (reverse (drop x.base vs)) x.result (drop x.locals ls) x.after.now
    else steps.Label (reverse (drop x.base vs)) x.result x.target.now x.after.now

-- the locals of the layers round it
abbrev pub locals_below : Layer → List Value → List Value
locals_below x ls = if x.is_frame then take x.locals ls else ls

abbrev pub layers_of : List Layer → List Value → List Value → List steps.Layer
layers_of [] vs ls = []
layers_of (x ∷ xs) vs ls = layer_of x vs ls ∷ layers_of xs (take x.base vs) (locals_below x ls)

-- the places where the layers' values begin fall
abbrev pub Falls : List Layer → ℕ → Type 0
Falls [] n = n ≡ 0
Falls (x ∷ xs) n = (x.base ≤ n) × Falls xs x.base

-- and those where the locals begin; d frames stand round
abbrev pub Restores : Bool → (locals n depth d : ℕ) → Type 0
Restores true locals n depth d = (locals ≤ n) × (d ≡ depth + 1) × (n ≤ MOST_LOCALS * depth)
Restores false locals n depth d = (n ≡ locals) × (d ≡ depth)

abbrev pub LocalsFall : List Layer → ℕ → ℕ → Type 0
LocalsFall [] n d = d ≡ 0
LocalsFall (x ∷ xs) n d = Restores x.is_frame x.locals n x.depth d × LocalsFall xs x.locals x.depth

abbrev pub view_of : Inside → Config
view_of s = record {
  code = s.code.now;
  values = reverse (drop s.base s.values.items);
  layers = layers_of (reverse s.layers.items) (take s.base s.values.items) (take s.locals_base s.locals.items);
  locals = drop s.locals_base s.locals.items;
  globals = s.globals.items;
  table = s.table.items;
  memory = s.memory.items;
  input = s.input.now;
}

-- The layer at a place is where a branch goes, and the values in it begin at start.
abbrev pub TargetIs : List Layer → ℕ → Option ℕ → ℕ → ℕ → Layer → Type 0
TargetIs xs base w at start x = (vs ls : List Value) → target_of w (layers_of (reverse xs) (take base vs) ls) ≡ Some (layer_of x (take start vs) ls, layers_of (reverse (take at xs)) (take x.base vs) (locals_below x ls))

pub record IsFound (xs : List Layer) (base : ℕ) (w : Option ℕ) (at start : ℕ) (x : Layer) : Type 0 where
  pub within : at < length xs
  pub start_le : start ≤ base
  pub base_le : x.base ≤ start
  pub falls : Falls (reverse (take at xs)) x.base
  pub target : TargetIs xs base w at start x
  pub locals : (m d : ℕ) → LocalsFall (reverse xs) m d → LocalsFall (x ∷ reverse (take at xs)) m d

abbrev pub IsNotFound : List Layer → ℕ → Option ℕ → Type 0
IsNotFound xs base w = (vs ls : List Value) → target_of w (layers_of (reverse xs) (take base vs) ls) ≡ None

pub record IsSound (s : Inside) : Type 0 where
  pub base : s.base ≤ length s.values.items
  pub falls : Falls (reverse s.layers.items) s.base
  pub locals_fall : LocalsFall (reverse s.layers.items) s.locals_base s.depth
  pub locals : s.locals_base ≤ length s.locals.items
  pub depth : s.depth ≤ MOST_FRAMES
  pub few : length s.locals.items ≤ MOST_LOCALS * s.depth
  pub few_values : length s.values.items ≤ MOST_OPERANDS
  pub room_locals : MOST_FRAMES * MOST_LOCALS ≤ vec_capacity s.locals
  pub room : MOST_OPERANDS ≤ vec_capacity s.values
  pub room_layers : (MOST_FRAMES + 1) * (MOST_LABELS + 1) ≤ vec_capacity s.layers
