-- How the machine stands where a core stands: what its memory and its locals hold, and the room for operands.
use Rattle.std.specs.Prelude.{◌≡◌, ℕ, ◌+◌, ◌*◌, ◌<◌, ◌≤◌, ℤ, List, ◌∷◌, ◌++◌, length, map, drop, Some}
use Rattle.std.specs.Int.{w64}
use Rattle.wasm_form.specs.declared.types.Value.{Value}
use Rattle.wasm_form.specs.declared.types.Value.TheVariants.{I32, I64}
use Rattle.wasm_form.specs.Steps.{Layer, number_at, below_all, frames}
use Rattle.low_arith.specs.Checked.{locals_with}
use Rattle.core_form.specs.CoreRun.{State}
use Rattle.core_form.specs.Sizes.{IsInt, AreInts}
use Rattle.low_laws.specs.Lower.{bits}
use Rattle.core_form.specs.declared.limits.TheConstants.{FRAME, AREA, MOST_PRINTED, MOST_HEIGHT}

abbrev pub long : ℤ → Value
long z = I64 (bits z)

-- the words stand in the memory, and each is an Int
pub record Holds (texts : List ℕ) (words : ℕ → ℤ) (memory : List ℕ) : Type 0 where
  pub room : 8 * AREA ≤ length memory
  pub each : (w : ℕ) → w < AREA → number_at w64 memory (8 * w) ≡ Some (bits (words w))
  pub whole : (w : ℕ) → IsInt (words w)
  -- the texts come after the frames
  pub texts_there : (rest : List ℕ) × (drop (8 * AREA) memory ≡ texts ++ rest)

-- the first byte of a frame
abbrev pub byte_of : ℕ → ℕ
byte_of me = 8 * FRAME * me

-- what arithmetic, copies and prints left in their locals
pub record Scratch : Type 0 where
  pub one : ℕ
  pub other : ℕ
  pub from : ℕ
  pub to : ℕ
  pub left : ℕ
  pub kept : List ℕ
  pub all_kept : length kept ≡ MOST_PRINTED

abbrev pub others_of : Scratch → List ℤ → List Value
others_of x zs = I32 x.from ∷ I32 x.to ∷ I32 x.left ∷ map I64 x.kept ++ map long zs

abbrev pub locals_of : ℕ → Scratch → List ℤ → List Value
locals_of base x zs = locals_with (I32 base) x.one x.other (others_of x zs)

pub record Shows (texts : List ℕ) (me : ℕ) (s : State) (memory : List ℕ) (locals : List Value) : Type 0 where
  pub holds : Holds texts s.words memory
  pub scratch : Scratch
  pub are : locals ≡ locals_of (byte_of me) scratch s.locals
  pub locals_whole : AreInts s.locals
  pub input_whole : AreInts s.input

-- ---- operands

-- Each frame has room for so many operands that is asked of a core, of which so many more are needed.
abbrev pub HasRoom : List Layer → List Value → ℕ → Type 0
HasRoom layers vs more = length vs + below_all layers + more ≤ MOST_HEIGHT * frames layers
