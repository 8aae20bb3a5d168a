use Rattle.std.proofs.Common.{◌≡◌, true, false, ltb, refl, arith}
use Rattle.std.proofs.lemmas.Bool.{le-ltb, lt-ltb}
use Rattle.wasm_form.specs.Steps.{pushed, operands}
use Rattle.wasm_run.specs.Views.{view_of}
use Rattle.wasm_run.proofs.Stack.{operands_are, reverse_push, take_push}
use Rattle.wasm_run.proofs.state.State.push.Goals as goal
use Rattle.wasm_form.specs.declared.limits.TheConstants.{MOST_OPERANDS}

pub returns-then-len-ge-MOST_VALUES : goal.returns-then-len-ge-MOST_VALUES
unfolding pushed
returns-then-len-ge-MOST_VALUES c =
    let n = operands_are c.self.inside c.self.invariant in
    let t : ltb (operands (view_of c.self.inside)) MOST_OPERANDS ≡ false = le-ltb _ _ (omega arith) in
    rw (← c.self.view_is, t) refl

pub returns : goal.returns
unfolding pushed
returns c =
    let n = operands_are c.self.inside c.self.invariant in
    let t : ltb (operands (view_of c.self.inside)) MOST_OPERANDS ≡ true = lt-ltb _ _ (omega arith) in
    let le = c.self.invariant.base in
    rw (← c.self.view_is, t, c.push_reserved.ensures.items) (rw (reverse_push, take_push) refl)
