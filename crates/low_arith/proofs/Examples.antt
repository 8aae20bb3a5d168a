-- Runs of a main that does one operation and prints what it gives, each computed by the definition.
use Rattle.std.proofs.Common.{◌≡◌, ℕ, List, [], ◌∷◌, ◌++◌, None, Some, refl, codes}
use Rattle.std.specs.Fmt.{digits}
use Rattle.own_tree.specs.declared.arithmetic.Arith.{Arith}
use Rattle.own_tree.specs.declared.arithmetic.Arith.TheVariants.{Add, Sub, Mul, Div, Rem, Neg}
use Rattle.wasm_form.specs.declared.instr.Instr.{Instr, roll-Instr, out-Instr}
use Rattle.wasm_form.specs.declared.instr.Instr.TheVariants as i
use Rattle.wasm_form.specs.declared.module.Module.{Module}
use Rattle.wasm_form.specs.declared.module.HostCall.TheVariants.{WriteInt, WriteBool, WriteText, WriteByte, ReadInt, Trap}
use Rattle.wasm_form.specs.declared.module.ExportKind.TheVariants as kind
use Rattle.wasm_form.specs.declared.types.ValueType.TheVariants as type
use Rattle.wasm_form.specs.Steps.{machine_run, started, step, act, leave, branch, pop, pop32, pop64, two32, two64, pushed, given, local_get, local_set, local_tee, call, call_defined, called, host, Outcome, Ended, Trapped}
use Rattle.wasm_form.specs.Integers.{idiv_s, irem_s}
use Rattle.low_arith.specs.Code.{checked_code}

abbrev program : List Instr → Module
program code = record {
  types = record { parameters = []; result = None } ∷ record { parameters = type.I64 ∷ []; result = None } ∷ record { parameters = type.I32 ∷ []; result = None } ∷ record { parameters = type.I32 ∷ type.I32 ∷ []; result = None } ∷ record { parameters = []; result = Some type.I64 } ∷ [];
  imports = record { call = WriteInt; type_index = 1 } ∷ record { call = WriteBool; type_index = 2 } ∷ record { call = WriteText; type_index = 3 } ∷ record { call = WriteByte; type_index = 2 } ∷ record { call = ReadInt; type_index = 4 } ∷ record { call = Trap; type_index = 3 } ∷ [];
  functions = 0 ∷ [];
  tables = [];
  memories = [];
  globals = [];
  exports = record { name = codes "main"; kind = kind.Function; index = 6 } ∷ [];
  elements = [];
  codes = record { locals = record { count = 1; value_type = type.I32 } ∷ record { count = 2; value_type = type.I64 } ∷ []; body = code } ∷ [];
  segments = [];
}

-- of two operands, by their bits; the operator stands at 7
abbrev two : Arith → ℕ → ℕ → List ℕ × Outcome
two op a b = machine_run (program (i.I64Const a ∷ i.I64Const b ∷ (checked_code op 7 ++ i.Call 0 ∷ []))) [] 99

abbrev one : Arith → ℕ → List ℕ × Outcome
one op b = machine_run (program (i.I64Const b ∷ (checked_code op 7 ++ i.Call 0 ∷ []))) [] 99

-- The numbers are given by their bits.

-- to the ends of `Int` and past them
pub sums :
    (two Add 5 18446744073709551613 ≡ (codes "2", Ended 19)) ×
    (two Add 9223372036854775806 1 ≡ (codes "9223372036854775807", Ended 19)) ×
    (two Add 9223372036854775807 1 ≡ ([], Trapped 1 7)) ×
    (two Add 9223372036854775808 18446744073709551615 ≡ ([], Trapped 1 7)) ×
    (two Add 9223372036854775808 9223372036854775807 ≡ (codes "-1", Ended 19))
unfolding checked_code machine_run started step act leave branch pop pop32 pop64 two32 two64 pushed given local_get local_set local_tee call call_defined called host idiv_s irem_s digits roll-Instr out-Instr denote.Hole.Carrier.roll denote.Hole.Carrier.out denote.Hole.Carrier.shown denote.Hole.Carrier.hidden Rattle.wasm_form.specs.declared.instr.Instr.TheBlock.shown-the_row-Instr-0 Rattle.wasm_form.specs.declared.instr.Instr.TheBlock.shown-the_row-Instr-If-1-1-1
sums = (refl, refl, refl, refl, refl)

-- to the ends of `Int` and past them
pub differences :
    (two Sub 5 18446744073709551613 ≡ (codes "8", Ended 19)) ×
    (two Sub 9223372036854775808 0 ≡ (codes "-9223372036854775808", Ended 19)) ×
    (two Sub 9223372036854775808 1 ≡ ([], Trapped 1 7)) ×
    (two Sub 0 9223372036854775808 ≡ ([], Trapped 1 7)) ×
    (two Sub 18446744073709551615 9223372036854775808 ≡ (codes "9223372036854775807", Ended 19))
unfolding checked_code machine_run started step act leave branch pop pop32 pop64 two32 two64 pushed given local_get local_set local_tee call call_defined called host idiv_s irem_s digits roll-Instr out-Instr denote.Hole.Carrier.roll denote.Hole.Carrier.out denote.Hole.Carrier.shown denote.Hole.Carrier.hidden Rattle.wasm_form.specs.declared.instr.Instr.TheBlock.shown-the_row-Instr-0 Rattle.wasm_form.specs.declared.instr.Instr.TheBlock.shown-the_row-Instr-If-1-1-1
differences = (refl, refl, refl, refl, refl)

-- by 0, by -1, and one past the ends
pub products :
    (two Mul 0 9223372036854775808 ≡ (codes "0", Ended 12)) ×
    (two Mul 18446744073709551609 6 ≡ (codes "-42", Ended 30)) ×
    (two Mul 4294967296 2147483648 ≡ ([], Trapped 1 7)) ×
    (two Mul 4294967296 18446744071562067968 ≡ (codes "-9223372036854775808", Ended 30)) ×
    (two Mul 18446744073709551615 9223372036854775808 ≡ ([], Trapped 1 7)) ×
    (two Mul 9223372036854775808 18446744073709551615 ≡ ([], Trapped 1 7)) ×
    (two Mul 3037000500 3037000500 ≡ ([], Trapped 1 7))
unfolding checked_code machine_run started step act leave branch pop pop32 pop64 two32 two64 pushed given local_get local_set local_tee call call_defined called host idiv_s irem_s digits roll-Instr out-Instr denote.Hole.Carrier.roll denote.Hole.Carrier.out denote.Hole.Carrier.shown denote.Hole.Carrier.hidden Rattle.wasm_form.specs.declared.instr.Instr.TheBlock.shown-the_row-Instr-0 Rattle.wasm_form.specs.declared.instr.Instr.TheBlock.shown-the_row-Instr-If-1-1-1
products = (refl, refl, refl, refl, refl, refl, refl)

-- rounded toward zero
pub quotients :
    (two Div 18446744073709551609 2 ≡ (codes "-3", Ended 20)) ×
    (two Div 7 18446744073709551614 ≡ (codes "-3", Ended 20)) ×
    (two Div 9223372036854775808 1 ≡ (codes "-9223372036854775808", Ended 20)) ×
    (two Div 9223372036854775808 18446744073709551615 ≡ ([], Trapped 1 7)) ×
    (two Div 1 0 ≡ ([], Trapped 2 7))
unfolding checked_code machine_run started step act leave branch pop pop32 pop64 two32 two64 pushed given local_get local_set local_tee call call_defined called host idiv_s irem_s digits roll-Instr out-Instr denote.Hole.Carrier.roll denote.Hole.Carrier.out denote.Hole.Carrier.shown denote.Hole.Carrier.hidden Rattle.wasm_form.specs.declared.instr.Instr.TheBlock.shown-the_row-Instr-0 Rattle.wasm_form.specs.declared.instr.Instr.TheBlock.shown-the_row-Instr-If-1-1-1
quotients = (refl, refl, refl, refl, refl)

-- with the sign of the first operand
pub remainders :
    (two Rem 18446744073709551609 2 ≡ (codes "-1", Ended 20)) ×
    (two Rem 7 18446744073709551614 ≡ (codes "1", Ended 20)) ×
    (two Rem 9223372036854775808 18446744073709551615 ≡ ([], Trapped 1 7)) ×
    (two Rem 9223372036854775808 18446744073709551614 ≡ (codes "0", Ended 20)) ×
    (two Rem 1 0 ≡ ([], Trapped 2 7))
unfolding checked_code machine_run started step act leave branch pop pop32 pop64 two32 two64 pushed given local_get local_set local_tee call call_defined called host idiv_s irem_s digits roll-Instr out-Instr denote.Hole.Carrier.roll denote.Hole.Carrier.out denote.Hole.Carrier.shown denote.Hole.Carrier.hidden Rattle.wasm_form.specs.declared.instr.Instr.TheBlock.shown-the_row-Instr-0 Rattle.wasm_form.specs.declared.instr.Instr.TheBlock.shown-the_row-Instr-If-1-1-1
remainders = (refl, refl, refl, refl, refl)

-- of the least `Int` there is none
pub negations :
    (one Neg 5 ≡ (codes "-5", Ended 11)) ×
    (one Neg 0 ≡ (codes "0", Ended 11)) ×
    (one Neg 9223372036854775807 ≡ (codes "-9223372036854775807", Ended 11)) ×
    (one Neg 9223372036854775808 ≡ ([], Trapped 1 7))
unfolding checked_code machine_run started step act leave branch pop pop32 pop64 two32 two64 pushed given local_get local_set local_tee call call_defined called host idiv_s irem_s digits roll-Instr out-Instr denote.Hole.Carrier.roll denote.Hole.Carrier.out denote.Hole.Carrier.shown denote.Hole.Carrier.hidden Rattle.wasm_form.specs.declared.instr.Instr.TheBlock.shown-the_row-Instr-0 Rattle.wasm_form.specs.declared.instr.Instr.TheBlock.shown-the_row-Instr-If-1-1-1
negations = (refl, refl, refl, refl)
