-- A run, one step at a time.
use Rattle.std.proofs.Common.{◌≡◌, ℕ, suc, ◌+◌, ◌-◌, ◌≤◌, ◌<◌, List, [], ◌++◌, take, drop, refl, sym, ap, ◌∙◌, arith, append_assoc, length, length-append, length-drop, inl, inr}
use Rattle.std.proofs.lemmas.List.{append-nil, take-append-drop}
use Rattle.own_io.specs.Outside.{Told, told_after, HasRisen}
use Rattle.own_io.proofs.Told.{told_after-append}
use Rattle.std.specs.Prelude.{ℤ, Some}
use Rattle.wasm_form.specs.declared.module.Module.{Module}
use Rattle.wasm_form.specs.declared.module.CodeEntry.{CodeEntry}
use Rattle.wasm_form.specs.Steps.{Config, Goes, Writes, Ends, Traps, Stuck, Outcome, Ended, Trapped, Running, run, run_from, machine_run, main_code, started, step, goes_on}

-- the run so far: what was written, and what is left
pub record IsOn (total rest : List ℕ × Outcome) (old new : Told) : Type 0 where
  pub written : List ℕ
  pub told : new ≡ told_after old written
  pub out : total.0 ≡ written ++ rest.0
  pub end : total.1 ≡ rest.1

-- before the first step
pub begins_on : (m : Module) (input : List ℤ) (n : ℕ) (main : CodeEntry) (c : Config) (old : Told) → main_code m ≡ Some main → c ≡ started m main input → told_after old [] ≡ old → IsOn (machine_run m input n) (run m (n - 0) 0 c) old old
unfolding machine_run
begins_on m input n main c old is begins nothing =
    let k : n - 0 ≡ n = omega arith in
    let e : machine_run m input n ≡ run m (n - 0) 0 c = ap (run_from m input n) is ∙ ap (run m n 0) (sym begins) ∙ ap (λ j. run m j 0 c) (sym k) in
    record { written = []; told = sym nothing; out = ap (λ (r : List ℕ × Outcome). r.0) e; end = ap (λ (r : List ℕ × Outcome). r.1) e }

module _ (m : Module) (n done : ℕ) (c : Config) (total : List ℕ × Outcome) (old new : Told) (on : IsOn total (run m (n - done) done c) old new) where
  -- the rest is an end with no more output
  stops : (outcome : Outcome) → run m (n - done) done c ≡ ([], outcome) → (total.1 ≡ outcome) × (new ≡ told_after old total.0)
  stops outcome o =
      let all : total.0 ≡ on.written = on.out ∙ ap (λ (r : List ℕ × Outcome). on.written ++ r.0) o ∙ append-nil on.written in
      (on.end ∙ ap (λ (r : List ℕ × Outcome). r.1) o, on.told ∙ ap (told_after old) (sym all))

  pub at_limit : n ≤ done → (total.1 ≡ Running) × (new ≡ told_after old total.0)
  at_limit le = stops Running (let k : n - done ≡ 0 = omega arith in rw k refl)

  opened : done < n → run m (n - done) done c ≡ goes_on (run m (n - (done + 1))) done (step m c)
  opened lt = let k : n - done ≡ suc (n - (done + 1)) = omega arith in rw k refl

  pub at_end : done < n → step m c ≡ Ends → (total.1 ≡ Ended (done + 1)) × (new ≡ told_after old total.0)
  at_end lt e = stops (Ended (done + 1)) (opened lt ∙ ap (goes_on (run m (n - (done + 1))) done) e)

  pub at_trap : done < n → (code at : ℕ) → step m c ≡ Traps code at → (total.1 ≡ Trapped code at) × (new ≡ told_after old total.0)
  at_trap lt code at e = stops (Trapped code at) (opened lt ∙ ap (goes_on (run m (n - (done + 1))) done) e)

  pub at_stuck : done < n → step m c ≡ Stuck → (total.1 ≡ Trapped 18 0) × (new ≡ told_after old total.0)
  at_stuck lt e = stops (Trapped 18 0) (opened lt ∙ ap (goes_on (run m (n - (done + 1))) done) e)

  pub at_on : done < n → (d : Config) → step m c ≡ Goes d → IsOn total (run m (n - (done + 1)) (done + 1) d) old new
  at_on lt d e =
      let o = opened lt ∙ ap (goes_on (run m (n - (done + 1))) done) e in
      record { written = on.written; told = on.told; out = on.out ∙ ap (λ (r : List ℕ × Outcome). on.written ++ r.0) o; end = on.end ∙ ap (λ (r : List ℕ × Outcome). r.1) o }

  pub at_write : done < n → (text : List ℕ) (d : Config) (newer : Told) → step m c ≡ Writes text d → newer ≡ told_after new text → IsOn total (run m (n - (done + 1)) (done + 1) d) old newer
  at_write lt text d newer e w =
      let o = opened lt ∙ ap (goes_on (run m (n - (done + 1))) done) e in
      let rest = run m (n - (done + 1)) (done + 1) d in
      record {
        written = on.written ++ text;
        told = w ∙ ap (λ (t : Told). told_after t text) on.told ∙ told_after-append old on.written text;
        out = on.out ∙ ap (λ (r : List ℕ × Outcome). on.written ++ r.0) o ∙ sym (append_assoc on.written text rest.0);
        end = on.end ∙ ap (λ (r : List ℕ × Outcome). r.1) o;
      }

  pub at_fault : done < n → (text : List ℕ) (d : Config) (newer : Told) (k : ℕ) → step m c ≡ Writes text d → k < length text → newer ≡ told_after new (take k text) → (front rest : List ℕ) × (total.0 ≡ front ++ rest) × (length front < length total.0) × (newer ≡ told_after old front)
  at_fault lt text d newer k e short w =
      let o = opened lt ∙ ap (goes_on (run m (n - (done + 1))) done) e in
      let rest = run m (n - (done + 1)) (done + 1) d in
      let parts : text ≡ take k text ++ drop k text = sym (take-append-drop k text) in
      let whole : total.0 ≡ (on.written ++ take k text) ++ (drop k text ++ rest.0) = on.out ∙ ap (λ (r : List ℕ × Outcome). on.written ++ r.0) o ∙ ap (λ (l : List ℕ). on.written ++ (l ++ rest.0)) parts ∙ ap (λ (l : List ℕ). on.written ++ l) (append_assoc (take k text) (drop k text) rest.0) ∙ sym (append_assoc on.written (take k text) (drop k text ++ rest.0)) in (
        on.written ++ take k text,
        drop k text ++ rest.0,
        whole,
        omega (arith, ap length whole, length-append (on.written ++ take k text) (drop k text ++ rest.0), length-append (drop k text) rest.0, length-drop k text),
        w ∙ ap (λ (t : Told). told_after t (take k text)) on.told ∙ told_after-append old on.written (take k text),
      )

pub rises : (old mid new : ℕ) → old ≤ mid → HasRisen mid new → HasRisen old new
rises old mid new le (inl lt) = inl (omega arith)
rises old mid new le (inr most) = inr most
