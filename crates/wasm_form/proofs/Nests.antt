-- How deep labels nest in an instruction, from the lists in it.
use Rattle.std.proofs.Common.{◌≡◌, ℕ, ◌+◌, max, refl, ◌∙◌}
use Rattle.wasm_form.specs.declared.instr.Instr.{Instr, out-Instr, fold-Instr, fold_out-Instr}
use Rattle.wasm_form.specs.declared.instr.Instr.TheFolds.{map-Instr}
use Rattle.wasm_form.specs.declared.instr.Instr.TheOpen.{Instr-F}
use Rattle.wasm_form.specs.declared.instr.Instr.TheOpen as F
use Rattle.wasm_form.specs.Within.{nest, nest_layer, nest_one}

abbrev pub nest_of : Instr-F Instr → ℕ
nest_of (F.Block r body) = nest body + 1
nest_of (F.Loop r body) = nest body + 1
nest_of (F.If r first second) = max (nest first) (nest second) + 1
nest_of _ = 0

pub nest_cases : (l : Instr-F Instr) → nest_layer (map-Instr Instr ℕ (fold-Instr ℕ nest_layer) l) ≡ nest_of l
unfolding nest_one
nest_cases (F.Block r body) = refl
nest_cases (F.Loop r body) = refl
nest_cases (F.If r first second) = refl
nest_cases _ = refl

-- what the instruction's layer says of its nesting
pub nest_is : (i : Instr) → nest_one i ≡ nest_of (out-Instr i)
unfolding nest_one
nest_is i = fold_out-Instr ℕ nest_layer i ∙ nest_cases (out-Instr i)
