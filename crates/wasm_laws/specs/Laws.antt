-- What is proved of the definitions, for contracts to cite.
use Rattle.std.specs.Prelude.{◌≡◌, ℕ, ◌+◌, ◌≤◌, ◌<◌, ◌^◌, List, [], length, Some}
use Rattle.std.specs.Int.{w64}
use Rattle.wasm_form.specs.declared.instr.Instr.{Instr, out-Instr}
use Rattle.wasm_form.specs.declared.module.Module.{Module}
use Rattle.wasm_form.specs.Bytes.{IsInstr}
use Rattle.wasm_form.specs.Shortest.{instr_shortest}
use Rattle.wasm_form.specs.Steps.{Config, Goes, Traps, run, Trapped, number_at, with_number}
use Rattle.wasm_laws.specs.Fits.{NumbersFit}
use Rattle.wasm_laws.specs.Stretches.{Begins, IsOver, steps}

-- the output of fewer steps begins that of more
abbrev pub OutputsBegin : Type 0
OutputsBegin = (m : Module) (a b done : ℕ) (c : Config) → Begins (run m a done c).0 (run m (a + b) done c).0

-- a run that is over is the same with more steps
abbrev pub RunsStay : Type 0
RunsStay = (m : Module) (a b done : ℕ) (c : Config) → IsOver (run m a done c).1 → run m (a + b) done c ≡ run m a done c

-- a run goes on from where several steps lead, or traps where one of them does
pub record StepsLead : Type 0 where
  pub goes : (m : Module) (n left done : ℕ) (c d : Config) → steps m n c ≡ Goes d → run m (n + left) done c ≡ run m left (done + n) d
  pub traps : (m : Module) (n left done code at : ℕ) (c : Config) → steps m n c ≡ Traps code at → run m (n + left) done c ≡ ([], Trapped code at)

-- of a word that is written into memory: it is read back, and the words below and above it stay
pub record WordsReadBack : Type 0 where
  pub same : (memory : List ℕ) (at v : ℕ) → at + 8 ≤ length memory → v < 2 ^ 64 → number_at w64 (with_number w64 memory at v) at ≡ Some v
  pub below : (memory : List ℕ) (at v b : ℕ) → at + 8 ≤ length memory → b + 8 ≤ at → number_at w64 (with_number w64 memory at v) b ≡ number_at w64 memory b
  pub above : (memory : List ℕ) (at v b : ℕ) → at + 8 ≤ length memory → at + 8 ≤ b → number_at w64 (with_number w64 memory at v) b ≡ number_at w64 memory b

-- an instruction that holds no others and whose numbers fit is spelled by its shortest spelling, which is short
abbrev pub PlainInstructionsAreSpelled : Type 0
PlainInstructionsAreSpelled = (labels : ℕ) (x : Instr) → NumbersFit (out-Instr x) → IsInstr labels x (instr_shortest x) × (length (instr_shortest x) ≤ 11)
