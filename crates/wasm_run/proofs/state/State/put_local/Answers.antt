use Rattle.std.proofs.Common.{◌+◌, ◌≤◌, refl, arith}
use Rattle.std.proofs.lemmas.List.{drop-set-add, take-set-le}
use Rattle.wasm_run.proofs.state.State.put_local.Goals as goal

pub returns : goal.returns
returns c =
    let s = c.self.inside in
    let le : s.locals_base ≤ s.locals_base + c.args.index = omega arith in
    rw (← c.self.view_is) (rw (drop-set-add s.locals_base s.locals.items c.args.index c.args.value, take-set-le s.locals_base s.locals.items (s.locals_base + c.args.index) c.args.value le) refl)
