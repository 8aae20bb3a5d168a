use Rattle.std.proofs.Common.{◌≤◌, rules, subst}
use Rattle.std.specs.Prelude.{IsTrue, true}
use Rattle.wasm_form.specs.declared.instr.Instr.{Instr, out-Instr}
use Rattle.wasm_form.proofs.Nests.{nest_of}
use Rattle.module_tests.proofs.Nesting.{nest_more}
use Rattle.module_tests.proofs.run.are_flat.Goals as goal

pub loop-instr-preserved : goal.loop-instr-preserved
loop-instr-preserved c =
    let t : IsTrue true = search rules in
    let n : nest_of (out-Instr c.instr-item.result) ≤ 0 = c.if-not-is_flat.ensures t in
    nest_more c.args.code.now c.loop-instr.instr-index 0 c.instr-item.result c.loop-instr-test.true c.loop-instr.invariant (subst (λ (i : Instr). nest_of (out-Instr i) ≤ 0) c.instr-item.is n)
