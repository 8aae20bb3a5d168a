-- A loop that reads one element after the other.
use Rattle.std.proofs.Common.{◌≡◌, ℕ, suc, ◌-◌, ◌+◌, ◌≤◌, ◌<◌, List, [], ◌∷◌, ◌++◌, Result, Ok, Err, refl, sym, ◌∙◌, arith}
use Rattle.std.specs.List.{sum_by}
use Rattle.std.proofs.lemmas.List.Sums.{sum_by-append}
use Rattle.wasm_form.specs.declared.module.LocalGroup.{LocalGroup}
use Rattle.wasm_read.specs.declared.fault.Fault.{Fault}
use Rattle.wasm_read.specs.declared.fault.Stop.{Stop}
use Rattle.wasm_read.specs.declared.fault.Stop.TheVariants as stop
use Rattle.wasm_read.specs.Fault.{kind_of}
use Rattle.wasm_read.specs.Reading.{Reader, FailsAs, list_at}

pub goes_on : {A : Type 0} (one : List A → Reader A) (before : List A) (count i : ℕ) (bytes : List ℕ) (x : A) (after : List ℕ) (whole : Result (List A × List ℕ) Fault) → i < count → one before bytes ≡ Ok (x, after)
    → list_at one before (count - i) bytes ≡ whole → list_at one (before ++ x ∷ []) (count - (i + 1)) after ≡ whole
unfolding list_at
goes_on one before count i bytes x after whole lt read so_far =
    let k : count - i ≡ suc (count - (i + 1)) = omega arith in
    let step : list_at one before (count - i) bytes ≡ list_at one (before ++ x ∷ []) (count - (i + 1)) after = rw (k, read) refl in
    sym step ∙ so_far

pub fails : {A : Type 0} (e : Stop) (one : List A → Reader A) (before : List A) (count i : ℕ) (bytes : List ℕ) (whole : Result (List A × List ℕ) Fault) → i < count → FailsAs (kind_of e) (one before bytes)
    → list_at one before (count - i) bytes ≡ whole → FailsAs (kind_of e) whole
unfolding list_at
fails stop.Memory one before count i bytes whole lt read so_far = tt
fails (stop.Fault f left) one before count i bytes whole lt read so_far =
    let k : count - i ≡ suc (count - (i + 1)) = omega arith in
    let step : list_at one before (count - i) bytes ≡ Err f = rw (k, read) refl in
    sym so_far ∙ step

pub ends : {A : Type 0} (one : List A → Reader A) (before : List A) (count i : ℕ) (bytes : List ℕ) (whole : Result (List A × List ℕ) Fault) → count ≤ i → list_at one before (count - i) bytes ≡ whole → whole ≡ Ok (before, bytes)
unfolding list_at
ends one before count i bytes whole le so_far =
    let k : count - i ≡ 0 = omega arith in
    let step : list_at one before (count - i) bytes ≡ Ok (before, bytes) = rw k refl in
    sym so_far ∙ step

-- one group of locals more
pub locals_pushed : (parameters total : ℕ) (groups : List LocalGroup) (g : LocalGroup) → total ≡ parameters + sum_by (λ x. x.count) groups → total + g.count ≡ parameters + sum_by (λ x. x.count) (groups ++ g ∷ [])
locals_pushed parameters total groups g e = let one = sum_by-append (λ (x : LocalGroup). x.count) groups (g ∷ []) in omega (arith, e, one)
