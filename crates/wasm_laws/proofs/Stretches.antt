-- Stretches of a run, one after another.
use Rattle.std.proofs.Common.{◌≡◌, ℕ, zero, suc, ◌+◌, List, [], ◌++◌, refl, ap, sym, ◌∙◌, append_assoc, arith}
use Rattle.wasm_form.specs.declared.module.Module.{Module}
use Rattle.wasm_form.specs.Steps.{Config, Next, Goes, Writes, Ends, Traps, Stuck, step, run, goes_on, Outcome, Trapped, written_first}
use Rattle.wasm_laws.specs.Stretches.{Does, Comes, Falls, Stops, Leads, steps, then_next}

pub so : {m : Module} {c : Config} {next other : Next} → Does m c next → next ≡ other → Does m c other
so h e = record { by = h.by ∙ e }

-- a configuration that steps as another
pub same_step : {m : Module} {c d : Config} {next : Next} → step m c ≡ step m d → Does m d next → Does m c next
same_step e h = record { by = e ∙ h.by }

pub here : {m : Module} {c : Config} → Comes m 0 [] c c
here = record { by = λ left done. let a : 0 + left ≡ left = omega arith in let b : done + 0 ≡ done = omega arith in rw (a, b) refl }

pub written_again : (o p : List ℕ) (r : List ℕ × Outcome) → written_first o (written_first p r) ≡ written_first (o ++ p) r
written_again o p r = ap (λ (xs : List ℕ). (xs, r.1)) (sym (append_assoc o p r.0))

-- ---- one step, and then more

pub goes : {m : Module} {k : ℕ} {text : List ℕ} {c d e : Config} → Does m c (Goes d) → Comes m k text d e → Comes m (suc k) text c e
goes {k = k} h x = record {
  by = λ left done.
      let a : suc k + left ≡ suc (k + left) = omega arith in
      let b : done + suc k ≡ done + 1 + k = omega arith in
      rw (a, b, h.by) (x.by left (done + 1));
}

pub goes_to_trap : {m : Module} {k : ℕ} {text : List ℕ} {code at : ℕ} {c d : Config} → Does m c (Goes d) → Falls m k text code at d → Falls m (suc k) text code at c
goes_to_trap {k = k} h x = record { by = λ left done. let a : suc k + left ≡ suc (k + left) = omega arith in rw (a, h.by) (x.by left (done + 1)) }

pub writes : {m : Module} {k : ℕ} {text : List ℕ} {c d e : Config} (first : List ℕ) → Does m c (Writes first d) → Comes m k text d e → Comes m (suc k) (first ++ text) c e
writes {k = k} {text = text} {e = e} first h x = record {
  by = λ left done.
      let a : suc k + left ≡ suc (k + left) = omega arith in
      let b : done + suc k ≡ done + 1 + k = omega arith in
      rw (a, b, h.by) (ap (written_first first) (x.by left (done + 1)) ∙ written_again first text (run _ left (done + 1 + k) e));
}

pub writes_once : {m : Module} {text : List ℕ} {c d : Config} → Does m c (Writes text d) → Comes m 1 text c d
writes_once h = record { by = λ left done. let one : 1 + left ≡ suc left = omega arith in rw (one, h.by) refl }

pub traps : {m : Module} {code at : ℕ} {c : Config} → Does m c (Traps code at) → Falls m 1 [] code at c
traps h = record { by = λ left done. let one : 1 + left ≡ suc left = omega arith in rw (one, h.by) refl }

pub ends : {m : Module} {c : Config} → Does m c Ends → Stops m 1 [] c
ends h = record { by = λ left done. let one : 1 + left ≡ suc left = omega arith in rw (one, h.by) refl }

-- ---- one after another

pub comes_on : {m : Module} {k l : ℕ} {o p : List ℕ} {c d e : Config} → Comes m k o c d → Comes m l p d e → Comes m (k + l) (o ++ p) c e
comes_on {m = m} {k = k} {l = l} {o = o} {p = p} {e = e} x y = record {
  by = λ left done.
      let before : (k + l) + left ≡ k + (l + left) = omega arith in
      let after : done + (k + l) ≡ (done + k) + l = omega arith in
      rw (before, after) (x.by (l + left) done ∙ ap (written_first o) (y.by left (done + k)) ∙ written_again o p (run m left ((done + k) + l) e));
}

pub falls_on : {m : Module} {k l : ℕ} {o p : List ℕ} {code at : ℕ} {c d : Config} → Comes m k o c d → Falls m l p code at d → Falls m (k + l) (o ++ p) code at c
falls_on {k = k} {l = l} {o = o} x y = record {
  by = λ left done.
      let before : (k + l) + left ≡ k + (l + left) = omega arith in
      rw before (x.by (l + left) done ∙ ap (written_first o) (y.by left (done + k)));
}

pub stops_on : {m : Module} {k l : ℕ} {o p : List ℕ} {c d : Config} → Comes m k o c d → Stops m l p d → Stops m (k + l) (o ++ p) c
stops_on {k = k} {l = l} {o = o} x y = record {
  by = λ left done.
      let before : (k + l) + left ≡ k + (l + left) = omega arith in
      let after : done + (k + l) ≡ (done + k) + l = omega arith in
      rw (before, after) (x.by (l + left) done ∙ ap (written_first o) (y.by left (done + k)));
}

-- ---- from several steps that write nothing

pub arrives : {m : Module} {c : Config} → Leads m 0 c (Goes c)
arrives = record { by = refl }

pub leads : {m : Module} {n : ℕ} {c d : Config} {next : Next} → Does m c (Goes d) → Leads m n d next → Leads m (suc n) c next
leads s t = record { by = rw s.by t.by }

pub fails : {m : Module} {n code at : ℕ} {c : Config} → Does m c (Traps code at) → Leads m (suc n) c (Traps code at)
fails s = record { by = rw s.by refl }

-- it goes on from where they lead
pub steps_run : (m : Module) (n left done : ℕ) (c d : Config) → steps m n c ≡ Goes d → run m (n + left) done c ≡ run m left (done + n) d
steps_run m zero left done c d e =
    let same : c ≡ d = cc in
    let a : 0 + left ≡ left = omega arith in
    let b : done + 0 ≡ done = omega arith in
    rw (a, b, same) refl
steps_run m (suc n) left done c d e = go (λ f h. steps_run m n left (done + 1) f d h) (step m c) refl e
  where
    go : ((f : Config) → steps m n f ≡ Goes d → run m (n + left) (done + 1) f ≡ run m left (done + 1 + n) d) → (next : Next) → step m c ≡ next → then_next (steps m n) next ≡ Goes d → run m (suc n + left) done c ≡ run m left (done + suc n) d
    go again (Goes f) s h =
        let a : suc n + left ≡ suc (n + left) = omega arith in
        let b : done + suc n ≡ done + 1 + n = omega arith in
        rw (a, b) (ap (goes_on (run m (n + left)) done) s ∙ again f h)
    go again (Writes text f) s h = absurd cc
    go again Ends s h = absurd cc
    go again (Traps code at) s h = absurd cc
    go again Stuck s h = absurd cc

-- it traps where one of them does
pub steps_trap : (m : Module) (n left done code at : ℕ) (c : Config) → steps m n c ≡ Traps code at → run m (n + left) done c ≡ ([], Trapped code at)
steps_trap m zero left done code at c e = absurd cc
steps_trap m (suc n) left done code at c e = go (λ f h. steps_trap m n left (done + 1) code at f h) (step m c) refl e
  where
    go : ((f : Config) → steps m n f ≡ Traps code at → run m (n + left) (done + 1) f ≡ ([], Trapped code at)) → (next : Next) → step m c ≡ next → then_next (steps m n) next ≡ Traps code at → run m (suc n + left) done c ≡ ([], Trapped code at)
    go again (Goes f) s h =
        let a : suc n + left ≡ suc (n + left) = omega arith in
        rw a (ap (goes_on (run m (n + left)) done) s ∙ again f h)
    go again (Writes text f) s h = absurd cc
    go again Ends s h = absurd cc
    go again (Traps number offset) s h =
        let a : suc n + left ≡ suc (n + left) = omega arith in
        let b : number ≡ code = cc in
        let d : offset ≡ at = cc in
        rw (a, sym b, sym d) (ap (goes_on (run m (n + left)) done) s)
    go again Stuck s h = absurd cc

pub comes_by : {m : Module} (n : ℕ) {c d : Config} → steps m n c ≡ Goes d → Comes m n [] c d
comes_by {m = m} n {c = c} {d = d} h = record { by = λ left done. steps_run m n left done c d h }

pub falls_by : {m : Module} (n : ℕ) {code at : ℕ} {c : Config} → steps m n c ≡ Traps code at → Falls m n [] code at c
falls_by {m = m} n {code = code} {at = at} {c = c} h = record { by = λ left done. steps_trap m n left done code at c h }
