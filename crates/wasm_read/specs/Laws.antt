-- What is known of the spellings of modules, whoever reads them.
use Rattle.std.specs.Prelude.{◌≡◌, ℕ, ◌<◌, ◌≤◌, List, length, All}
use Rattle.wasm_form.specs.declared.module.Module.{Module}
use Rattle.wasm_form.specs.Bytes.{ModuleBytes, IsSpelled}
use Rattle.wasm_form.specs.Shortest.{Shortest}
use Rattle.wasm_form.specs.Within.{IsWithin}

-- The shortest spelling of a module that some bytes spell is a spelling of it, and of no other.
abbrev pub ShortestSpells : Type 0
ShortestSpells = (m : Module) → IsSpelled m → ModuleBytes (Shortest m) m × ((n : Module) → ModuleBytes (Shortest m) n → n ≡ m)

-- No spelling of a module is shorter than its shortest.
abbrev pub ShortestIsLeast : Type 0
ShortestIsLeast = (m : Module) (bytes : List ℕ) → All (λ b. b < 256) bytes → ModuleBytes bytes m → length (Shortest m) ≤ length bytes

-- A module that some bytes spell is within the limits.
abbrev pub SpelledIsWithin : Type 0
SpelledIsWithin = (m : Module) → IsSpelled m → IsWithin m

-- Bytes spell at most one module.
abbrev pub SpellOne : Type 0
SpellOne = (bytes : List ℕ) (m n : Module) → ModuleBytes bytes m → ModuleBytes bytes n → m ≡ n
