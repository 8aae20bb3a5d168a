use Rattle.std.proofs.Common.{◌≡◌, subst, Some, None}
use Rattle.wasm_form.specs.declared.instr.Instr.{out-Instr}
use Rattle.wasm_form.specs.Steps.{Config, act, act_control, act_variable, act_load, act_store, act_test32, act_test64, act_arithmetic32, act_arithmetic64}
use Rattle.wasm_run.specs.Views.{ShowsIf}
use Rattle.wasm_run.proofs.Acts.{settles, settles_last, passes, same_after}
use Rattle.wasm_run.proofs.state.State.act.Goals as goal

pub returns-in-Some : goal.returns-in-Some
unfolding act
returns-in-Some c =
    let old = c.args.self.now in
    settles c.in-Some.went old c.act_control.new.self (act_control c.args.module.now (out-Instr c.args.instr.now) c.args.here.now old) _ c.in-Some.ensures

pub returns-in-Some-act_variable : goal.returns-in-Some-act_variable
unfolding act
returns-in-Some-act_variable c =
    let old = c.args.self.now in
    let h0 = c.in_default.ensures in
    let e0 : c.act_control.new.self ≡ old = same_after old c.act_control.new.self (act_control c.args.module.now (out-Instr c.args.instr.now) c.args.here.now old) h0 in
    passes c.in-Some-act_variable.went old c.act_control.new.self c.act_variable.new.self (act_control c.args.module.now (out-Instr c.args.instr.now) c.args.here.now old) _ h0
    (settles c.in-Some-act_variable.went old c.act_variable.new.self (act_variable c.args.module.now (out-Instr c.args.instr.now) old) _ (subst (λ (x : Config). ShowsIf (Some c.in-Some-act_variable.went) x c.act_variable.new.self (act_variable c.args.module.now (out-Instr c.args.instr.now) x)) e0 c.in-Some-act_variable.ensures))

pub returns-in-Some-act_load : goal.returns-in-Some-act_load
unfolding act
returns-in-Some-act_load c =
    let old = c.args.self.now in
    let h0 = c.in_default.ensures in
    let e0 : c.act_control.new.self ≡ old = same_after old c.act_control.new.self (act_control c.args.module.now (out-Instr c.args.instr.now) c.args.here.now old) h0 in
    let h1 : ShowsIf None old c.act_variable.new.self (act_variable c.args.module.now (out-Instr c.args.instr.now) old) = subst (λ (x : Config). ShowsIf None x c.act_variable.new.self (act_variable c.args.module.now (out-Instr c.args.instr.now) x)) e0 c.in_default-act_variable.ensures in
    let e1 : c.act_variable.new.self ≡ old = same_after old c.act_variable.new.self (act_variable c.args.module.now (out-Instr c.args.instr.now) old) h1 in
    passes c.in-Some-act_load.went old c.act_control.new.self c.act_load.new.self (act_control c.args.module.now (out-Instr c.args.instr.now) c.args.here.now old) _ h0
    (passes c.in-Some-act_load.went old c.act_variable.new.self c.act_load.new.self (act_variable c.args.module.now (out-Instr c.args.instr.now) old) _ h1
    (settles c.in-Some-act_load.went old c.act_load.new.self (act_load c.args.module.now (out-Instr c.args.instr.now) old) _ (subst (λ (x : Config). ShowsIf (Some c.in-Some-act_load.went) x c.act_load.new.self (act_load c.args.module.now (out-Instr c.args.instr.now) x)) e1 c.in-Some-act_load.ensures)))

pub returns-in-Some-act_store : goal.returns-in-Some-act_store
unfolding act
returns-in-Some-act_store c =
    let old = c.args.self.now in
    let h0 = c.in_default.ensures in
    let e0 : c.act_control.new.self ≡ old = same_after old c.act_control.new.self (act_control c.args.module.now (out-Instr c.args.instr.now) c.args.here.now old) h0 in
    let h1 : ShowsIf None old c.act_variable.new.self (act_variable c.args.module.now (out-Instr c.args.instr.now) old) = subst (λ (x : Config). ShowsIf None x c.act_variable.new.self (act_variable c.args.module.now (out-Instr c.args.instr.now) x)) e0 c.in_default-act_variable.ensures in
    let e1 : c.act_variable.new.self ≡ old = same_after old c.act_variable.new.self (act_variable c.args.module.now (out-Instr c.args.instr.now) old) h1 in
    let h2 : ShowsIf None old c.act_load.new.self (act_load c.args.module.now (out-Instr c.args.instr.now) old) = subst (λ (x : Config). ShowsIf None x c.act_load.new.self (act_load c.args.module.now (out-Instr c.args.instr.now) x)) e1 c.in_default-act_load.ensures in
    let e2 : c.act_load.new.self ≡ old = same_after old c.act_load.new.self (act_load c.args.module.now (out-Instr c.args.instr.now) old) h2 in
    passes c.in-Some-act_store.went old c.act_control.new.self c.act_store.new.self (act_control c.args.module.now (out-Instr c.args.instr.now) c.args.here.now old) _ h0
    (passes c.in-Some-act_store.went old c.act_variable.new.self c.act_store.new.self (act_variable c.args.module.now (out-Instr c.args.instr.now) old) _ h1
    (passes c.in-Some-act_store.went old c.act_load.new.self c.act_store.new.self (act_load c.args.module.now (out-Instr c.args.instr.now) old) _ h2
    (settles c.in-Some-act_store.went old c.act_store.new.self (act_store c.args.module.now (out-Instr c.args.instr.now) old) _ (subst (λ (x : Config). ShowsIf (Some c.in-Some-act_store.went) x c.act_store.new.self (act_store c.args.module.now (out-Instr c.args.instr.now) x)) e2 c.in-Some-act_store.ensures))))

pub returns-in-Some-act_test32 : goal.returns-in-Some-act_test32
unfolding act
returns-in-Some-act_test32 c =
    let old = c.args.self.now in
    let h0 = c.in_default.ensures in
    let e0 : c.act_control.new.self ≡ old = same_after old c.act_control.new.self (act_control c.args.module.now (out-Instr c.args.instr.now) c.args.here.now old) h0 in
    let h1 : ShowsIf None old c.act_variable.new.self (act_variable c.args.module.now (out-Instr c.args.instr.now) old) = subst (λ (x : Config). ShowsIf None x c.act_variable.new.self (act_variable c.args.module.now (out-Instr c.args.instr.now) x)) e0 c.in_default-act_variable.ensures in
    let e1 : c.act_variable.new.self ≡ old = same_after old c.act_variable.new.self (act_variable c.args.module.now (out-Instr c.args.instr.now) old) h1 in
    let h2 : ShowsIf None old c.act_load.new.self (act_load c.args.module.now (out-Instr c.args.instr.now) old) = subst (λ (x : Config). ShowsIf None x c.act_load.new.self (act_load c.args.module.now (out-Instr c.args.instr.now) x)) e1 c.in_default-act_load.ensures in
    let e2 : c.act_load.new.self ≡ old = same_after old c.act_load.new.self (act_load c.args.module.now (out-Instr c.args.instr.now) old) h2 in
    let h3 : ShowsIf None old c.act_store.new.self (act_store c.args.module.now (out-Instr c.args.instr.now) old) = subst (λ (x : Config). ShowsIf None x c.act_store.new.self (act_store c.args.module.now (out-Instr c.args.instr.now) x)) e2 c.in_default-act_store.ensures in
    let e3 : c.act_store.new.self ≡ old = same_after old c.act_store.new.self (act_store c.args.module.now (out-Instr c.args.instr.now) old) h3 in
    passes c.in-Some-act_test32.went old c.act_control.new.self c.act_test32.new.self (act_control c.args.module.now (out-Instr c.args.instr.now) c.args.here.now old) _ h0
    (passes c.in-Some-act_test32.went old c.act_variable.new.self c.act_test32.new.self (act_variable c.args.module.now (out-Instr c.args.instr.now) old) _ h1
    (passes c.in-Some-act_test32.went old c.act_load.new.self c.act_test32.new.self (act_load c.args.module.now (out-Instr c.args.instr.now) old) _ h2
    (passes c.in-Some-act_test32.went old c.act_store.new.self c.act_test32.new.self (act_store c.args.module.now (out-Instr c.args.instr.now) old) _ h3
    (settles c.in-Some-act_test32.went old c.act_test32.new.self (act_test32 (out-Instr c.args.instr.now) old) _ (subst (λ (x : Config). ShowsIf (Some c.in-Some-act_test32.went) x c.act_test32.new.self (act_test32 (out-Instr c.args.instr.now) x)) e3 c.in-Some-act_test32.ensures)))))

pub returns-in-Some-act_test64 : goal.returns-in-Some-act_test64
unfolding act
returns-in-Some-act_test64 c =
    let old = c.args.self.now in
    let h0 = c.in_default.ensures in
    let e0 : c.act_control.new.self ≡ old = same_after old c.act_control.new.self (act_control c.args.module.now (out-Instr c.args.instr.now) c.args.here.now old) h0 in
    let h1 : ShowsIf None old c.act_variable.new.self (act_variable c.args.module.now (out-Instr c.args.instr.now) old) = subst (λ (x : Config). ShowsIf None x c.act_variable.new.self (act_variable c.args.module.now (out-Instr c.args.instr.now) x)) e0 c.in_default-act_variable.ensures in
    let e1 : c.act_variable.new.self ≡ old = same_after old c.act_variable.new.self (act_variable c.args.module.now (out-Instr c.args.instr.now) old) h1 in
    let h2 : ShowsIf None old c.act_load.new.self (act_load c.args.module.now (out-Instr c.args.instr.now) old) = subst (λ (x : Config). ShowsIf None x c.act_load.new.self (act_load c.args.module.now (out-Instr c.args.instr.now) x)) e1 c.in_default-act_load.ensures in
    let e2 : c.act_load.new.self ≡ old = same_after old c.act_load.new.self (act_load c.args.module.now (out-Instr c.args.instr.now) old) h2 in
    let h3 : ShowsIf None old c.act_store.new.self (act_store c.args.module.now (out-Instr c.args.instr.now) old) = subst (λ (x : Config). ShowsIf None x c.act_store.new.self (act_store c.args.module.now (out-Instr c.args.instr.now) x)) e2 c.in_default-act_store.ensures in
    let e3 : c.act_store.new.self ≡ old = same_after old c.act_store.new.self (act_store c.args.module.now (out-Instr c.args.instr.now) old) h3 in
    let h4 : ShowsIf None old c.act_test32.new.self (act_test32 (out-Instr c.args.instr.now) old) = subst (λ (x : Config). ShowsIf None x c.act_test32.new.self (act_test32 (out-Instr c.args.instr.now) x)) e3 c.in_default-act_test32.ensures in
    let e4 : c.act_test32.new.self ≡ old = same_after old c.act_test32.new.self (act_test32 (out-Instr c.args.instr.now) old) h4 in
    passes c.in-Some-act_test64.went old c.act_control.new.self c.act_test64.new.self (act_control c.args.module.now (out-Instr c.args.instr.now) c.args.here.now old) _ h0
    (passes c.in-Some-act_test64.went old c.act_variable.new.self c.act_test64.new.self (act_variable c.args.module.now (out-Instr c.args.instr.now) old) _ h1
    (passes c.in-Some-act_test64.went old c.act_load.new.self c.act_test64.new.self (act_load c.args.module.now (out-Instr c.args.instr.now) old) _ h2
    (passes c.in-Some-act_test64.went old c.act_store.new.self c.act_test64.new.self (act_store c.args.module.now (out-Instr c.args.instr.now) old) _ h3
    (passes c.in-Some-act_test64.went old c.act_test32.new.self c.act_test64.new.self (act_test32 (out-Instr c.args.instr.now) old) _ h4
    (settles c.in-Some-act_test64.went old c.act_test64.new.self (act_test64 (out-Instr c.args.instr.now) old) _ (subst (λ (x : Config). ShowsIf (Some c.in-Some-act_test64.went) x c.act_test64.new.self (act_test64 (out-Instr c.args.instr.now) x)) e4 c.in-Some-act_test64.ensures))))))

pub returns-in-Some-act_arithmetic32 : goal.returns-in-Some-act_arithmetic32
unfolding act
returns-in-Some-act_arithmetic32 c =
    let old = c.args.self.now in
    let h0 = c.in_default.ensures in
    let e0 : c.act_control.new.self ≡ old = same_after old c.act_control.new.self (act_control c.args.module.now (out-Instr c.args.instr.now) c.args.here.now old) h0 in
    let h1 : ShowsIf None old c.act_variable.new.self (act_variable c.args.module.now (out-Instr c.args.instr.now) old) = subst (λ (x : Config). ShowsIf None x c.act_variable.new.self (act_variable c.args.module.now (out-Instr c.args.instr.now) x)) e0 c.in_default-act_variable.ensures in
    let e1 : c.act_variable.new.self ≡ old = same_after old c.act_variable.new.self (act_variable c.args.module.now (out-Instr c.args.instr.now) old) h1 in
    let h2 : ShowsIf None old c.act_load.new.self (act_load c.args.module.now (out-Instr c.args.instr.now) old) = subst (λ (x : Config). ShowsIf None x c.act_load.new.self (act_load c.args.module.now (out-Instr c.args.instr.now) x)) e1 c.in_default-act_load.ensures in
    let e2 : c.act_load.new.self ≡ old = same_after old c.act_load.new.self (act_load c.args.module.now (out-Instr c.args.instr.now) old) h2 in
    let h3 : ShowsIf None old c.act_store.new.self (act_store c.args.module.now (out-Instr c.args.instr.now) old) = subst (λ (x : Config). ShowsIf None x c.act_store.new.self (act_store c.args.module.now (out-Instr c.args.instr.now) x)) e2 c.in_default-act_store.ensures in
    let e3 : c.act_store.new.self ≡ old = same_after old c.act_store.new.self (act_store c.args.module.now (out-Instr c.args.instr.now) old) h3 in
    let h4 : ShowsIf None old c.act_test32.new.self (act_test32 (out-Instr c.args.instr.now) old) = subst (λ (x : Config). ShowsIf None x c.act_test32.new.self (act_test32 (out-Instr c.args.instr.now) x)) e3 c.in_default-act_test32.ensures in
    let e4 : c.act_test32.new.self ≡ old = same_after old c.act_test32.new.self (act_test32 (out-Instr c.args.instr.now) old) h4 in
    let h5 : ShowsIf None old c.act_test64.new.self (act_test64 (out-Instr c.args.instr.now) old) = subst (λ (x : Config). ShowsIf None x c.act_test64.new.self (act_test64 (out-Instr c.args.instr.now) x)) e4 c.in_default-act_test64.ensures in
    let e5 : c.act_test64.new.self ≡ old = same_after old c.act_test64.new.self (act_test64 (out-Instr c.args.instr.now) old) h5 in
    passes c.in-Some-act_arithmetic32.went old c.act_control.new.self c.act_arithmetic32.new.self (act_control c.args.module.now (out-Instr c.args.instr.now) c.args.here.now old) _ h0
    (passes c.in-Some-act_arithmetic32.went old c.act_variable.new.self c.act_arithmetic32.new.self (act_variable c.args.module.now (out-Instr c.args.instr.now) old) _ h1
    (passes c.in-Some-act_arithmetic32.went old c.act_load.new.self c.act_arithmetic32.new.self (act_load c.args.module.now (out-Instr c.args.instr.now) old) _ h2
    (passes c.in-Some-act_arithmetic32.went old c.act_store.new.self c.act_arithmetic32.new.self (act_store c.args.module.now (out-Instr c.args.instr.now) old) _ h3
    (passes c.in-Some-act_arithmetic32.went old c.act_test32.new.self c.act_arithmetic32.new.self (act_test32 (out-Instr c.args.instr.now) old) _ h4
    (passes c.in-Some-act_arithmetic32.went old c.act_test64.new.self c.act_arithmetic32.new.self (act_test64 (out-Instr c.args.instr.now) old) _ h5
    (settles c.in-Some-act_arithmetic32.went old c.act_arithmetic32.new.self (act_arithmetic32 (out-Instr c.args.instr.now) old) _ (subst (λ (x : Config). ShowsIf (Some c.in-Some-act_arithmetic32.went) x c.act_arithmetic32.new.self (act_arithmetic32 (out-Instr c.args.instr.now) x)) e5 c.in-Some-act_arithmetic32.ensures)))))))

pub returns-in-Some-act_arithmetic64 : goal.returns-in-Some-act_arithmetic64
unfolding act
returns-in-Some-act_arithmetic64 c =
    let old = c.args.self.now in
    let h0 = c.in_default.ensures in
    let e0 : c.act_control.new.self ≡ old = same_after old c.act_control.new.self (act_control c.args.module.now (out-Instr c.args.instr.now) c.args.here.now old) h0 in
    let h1 : ShowsIf None old c.act_variable.new.self (act_variable c.args.module.now (out-Instr c.args.instr.now) old) = subst (λ (x : Config). ShowsIf None x c.act_variable.new.self (act_variable c.args.module.now (out-Instr c.args.instr.now) x)) e0 c.in_default-act_variable.ensures in
    let e1 : c.act_variable.new.self ≡ old = same_after old c.act_variable.new.self (act_variable c.args.module.now (out-Instr c.args.instr.now) old) h1 in
    let h2 : ShowsIf None old c.act_load.new.self (act_load c.args.module.now (out-Instr c.args.instr.now) old) = subst (λ (x : Config). ShowsIf None x c.act_load.new.self (act_load c.args.module.now (out-Instr c.args.instr.now) x)) e1 c.in_default-act_load.ensures in
    let e2 : c.act_load.new.self ≡ old = same_after old c.act_load.new.self (act_load c.args.module.now (out-Instr c.args.instr.now) old) h2 in
    let h3 : ShowsIf None old c.act_store.new.self (act_store c.args.module.now (out-Instr c.args.instr.now) old) = subst (λ (x : Config). ShowsIf None x c.act_store.new.self (act_store c.args.module.now (out-Instr c.args.instr.now) x)) e2 c.in_default-act_store.ensures in
    let e3 : c.act_store.new.self ≡ old = same_after old c.act_store.new.self (act_store c.args.module.now (out-Instr c.args.instr.now) old) h3 in
    let h4 : ShowsIf None old c.act_test32.new.self (act_test32 (out-Instr c.args.instr.now) old) = subst (λ (x : Config). ShowsIf None x c.act_test32.new.self (act_test32 (out-Instr c.args.instr.now) x)) e3 c.in_default-act_test32.ensures in
    let e4 : c.act_test32.new.self ≡ old = same_after old c.act_test32.new.self (act_test32 (out-Instr c.args.instr.now) old) h4 in
    let h5 : ShowsIf None old c.act_test64.new.self (act_test64 (out-Instr c.args.instr.now) old) = subst (λ (x : Config). ShowsIf None x c.act_test64.new.self (act_test64 (out-Instr c.args.instr.now) x)) e4 c.in_default-act_test64.ensures in
    let e5 : c.act_test64.new.self ≡ old = same_after old c.act_test64.new.self (act_test64 (out-Instr c.args.instr.now) old) h5 in
    let h6 : ShowsIf None old c.act_arithmetic32.new.self (act_arithmetic32 (out-Instr c.args.instr.now) old) = subst (λ (x : Config). ShowsIf None x c.act_arithmetic32.new.self (act_arithmetic32 (out-Instr c.args.instr.now) x)) e5 c.in_default-act_arithmetic32.ensures in
    let e6 : c.act_arithmetic32.new.self ≡ old = same_after old c.act_arithmetic32.new.self (act_arithmetic32 (out-Instr c.args.instr.now) old) h6 in
    passes c.in-Some-act_arithmetic64.went old c.act_control.new.self c.act_arithmetic64.new.self (act_control c.args.module.now (out-Instr c.args.instr.now) c.args.here.now old) _ h0
    (passes c.in-Some-act_arithmetic64.went old c.act_variable.new.self c.act_arithmetic64.new.self (act_variable c.args.module.now (out-Instr c.args.instr.now) old) _ h1
    (passes c.in-Some-act_arithmetic64.went old c.act_load.new.self c.act_arithmetic64.new.self (act_load c.args.module.now (out-Instr c.args.instr.now) old) _ h2
    (passes c.in-Some-act_arithmetic64.went old c.act_store.new.self c.act_arithmetic64.new.self (act_store c.args.module.now (out-Instr c.args.instr.now) old) _ h3
    (passes c.in-Some-act_arithmetic64.went old c.act_test32.new.self c.act_arithmetic64.new.self (act_test32 (out-Instr c.args.instr.now) old) _ h4
    (passes c.in-Some-act_arithmetic64.went old c.act_test64.new.self c.act_arithmetic64.new.self (act_test64 (out-Instr c.args.instr.now) old) _ h5
    (passes c.in-Some-act_arithmetic64.went old c.act_arithmetic32.new.self c.act_arithmetic64.new.self (act_arithmetic32 (out-Instr c.args.instr.now) old) _ h6
    (settles_last c.in-Some-act_arithmetic64.went old c.act_arithmetic64.new.self (act_arithmetic64 (out-Instr c.args.instr.now) old) (subst (λ (x : Config). ShowsIf (Some c.in-Some-act_arithmetic64.went) x c.act_arithmetic64.new.self (act_arithmetic64 (out-Instr c.args.instr.now) x)) e6 c.in-Some-act_arithmetic64.ensures))))))))
