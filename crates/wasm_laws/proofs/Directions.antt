-- Both directions, once and for all: what is known of a run of so many steps is known of each longer one, and of the
-- output of each shorter one.
use Rattle.std.proofs.Common.{◌≡◌, ℕ, zero, suc, ◌+◌, List, [], ◌++◌, refl, ap, sym, ◌∙◌, append_assoc, append-nil, arith, subst}
use Rattle.wasm_form.specs.declared.module.Module.{Module}
use Rattle.wasm_form.specs.Steps.{Config, Next, Goes, Writes, Ends, Traps, Stuck, step, run, goes_on, written_first}
use Rattle.wasm_laws.specs.Stretches.{Begins, IsOver}

pub begins_same : (xs : List ℕ) → Begins xs xs
begins_same xs = ([], sym (append-nil xs))

pub begins_behind : (front xs ys : List ℕ) → Begins xs ys → Begins (front ++ xs) (front ++ ys)
begins_behind front xs ys b = (b.0, ap (λ zs. front ++ zs) b.1 ∙ sym (append_assoc front xs b.0))

-- the output of fewer steps begins that of more
pub outputs_begin : (m : Module) (a b done : ℕ) (c : Config) → Begins (run m a done c).0 (run m (a + b) done c).0
outputs_begin m zero b done c = ((run m (0 + b) done c).0, refl)
outputs_begin m (suc a) b done c =
    let e : suc a + b ≡ suc (a + b) = omega arith in
    subst (λ n. Begins (run m (suc a) done c).0 (run m n done c).0) (sym e) (go (λ d. outputs_begin m a b (done + 1) d) (step m c))
  where
    go : ((d : Config) → Begins (run m a (done + 1) d).0 (run m (a + b) (done + 1) d).0) → (next : Next) → Begins (goes_on (run m a) done next).0 (goes_on (run m (a + b)) done next).0
    go again (Goes d) = again d
    go again (Writes text d) = begins_behind text (run m a (done + 1) d).0 (run m (a + b) (done + 1) d).0 (again d)
    go again Ends = begins_same []
    go again (Traps code at) = begins_same []
    go again Stuck = begins_same []

-- a run that is over is the same with more steps
pub over_stays : (m : Module) (a b done : ℕ) (c : Config) → IsOver (run m a done c).1 → run m (a + b) done c ≡ run m a done c
over_stays m zero b done c over = absurd over
over_stays m (suc a) b done c over =
    let e : suc a + b ≡ suc (a + b) = omega arith in
    subst (λ n. run m n done c ≡ run m (suc a) done c) (sym e) (go (λ d o. over_stays m a b (done + 1) d o) (step m c) over)
  where
    go : ((d : Config) → IsOver (run m a (done + 1) d).1 → run m (a + b) (done + 1) d ≡ run m a (done + 1) d) → (next : Next) → IsOver (goes_on (run m a) done next).1 → goes_on (run m (a + b)) done next ≡ goes_on (run m a) done next
    go again (Goes d) o = again d o
    go again (Writes text d) o = ap (written_first text) (again d o)
    go again Ends o = refl
    go again (Traps code at) o = refl
    go again Stuck o = refl
