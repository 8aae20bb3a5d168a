use Rattle.std.proofs.Common.{◌≡◌, subst, sym}
use Rattle.std.proofs.lemmas.Result.{IfOk-weaker}
use Rattle.wasm_form.specs.declared.module.Module.{Module}
use Rattle.core_form.specs.CoreView.{core_view}
use Rattle.low_laws.specs.Follows.{Follows}
use Rattle.low_laws.specs.Laws.{IsShort}
use Rattle.low_laws.specs.Lower.{lowered}
use Rattle.low_laws.proofs.Modules.{lowered_spelled}
use Rattle.low_laws.proofs.Whole.{modules_follow}
use Rattle.low_body.proofs.module.fitting_module.Goals as goal

pub returns-clause-follows : goal.returns-clause-follows
returns-clause-follows c =
    let core = core_view c.args.core.now in
    IfOk-weaker c.module_of.result (λ m. m ≡ lowered core) (λ m. Follows m core) (λ (m : Module) e. subst (λ (x : Module). Follows x core) (sym e) (modules_follow core c.requires.is_small)) c.module_of.ensures

pub returns-clause-short : goal.returns-clause-short
returns-clause-short c =
    let core = core_view c.args.core.now in
    IfOk-weaker c.module_of.result (λ m. m ≡ lowered core) IsShort (λ (m : Module) e. subst IsShort (sym e) (lowered_spelled core c.requires)) c.module_of.ensures
