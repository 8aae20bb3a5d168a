-- How many layers there can be.
use Rattle.std.specs.Prelude.{ℕ, ◌+◌, ◌≤◌, List, [], ◌∷◌}
use Rattle.wasm_form.specs.Steps.{Layer, Label, Frame, Config, frames}
use Rattle.wasm_form.specs.Within.{nest}
use Rattle.wasm_form.specs.declared.limits.TheConstants.{MOST_LABELS, MOST_FRAMES}

-- the labels of the frame that runs
abbrev pub labels : List Layer → ℕ
labels [] = 0
labels (Label below result target after ∷ ls) = labels ls + 1
labels (Frame below result locals after ∷ ls) = 0

abbrev pub Below : List Layer → Type 0
Below [] = Unit {0}
Below (Label below result target after ∷ ls) = (nest target + labels ls ≤ MOST_LABELS) × (nest after + labels ls ≤ MOST_LABELS) × Below ls
Below (Frame below result locals after ∷ ls) = (nest after + labels ls ≤ MOST_LABELS) × Below ls

-- Labels nest at most 1,024 deep in each frame, and there are at most 1,001 frames.
pub record HasRoom (c : Config) : Type 0 where
  pub here : nest c.code + labels c.layers ≤ MOST_LABELS
  pub below : Below c.layers
  pub few : frames c.layers ≤ MOST_FRAMES
