-- The loop over custom sections.
use Rattle.std.proofs.Common.{◌≡◌, ℕ, zero, suc, ◌≤◌, ◌<◌, true, false, List, [], ◌∷◌, length, Ok, Err, refl, sym, ◌∙◌, arith}
use Rattle.wasm_read.specs.declared.fault.Stop.{Stop}
use Rattle.wasm_read.specs.declared.fault.Stop.TheVariants as stop
use Rattle.wasm_read.specs.Fault.{kind_of}
use Rattle.wasm_read.specs.Reading.{◌>>=◌, FailsAs}
use Rattle.wasm_read.specs.Sections.{is_custom_at, numbered_custom_at, customs_in, customs_at}

-- with enough fuel, the rest leads to the same as the whole
pub record IsOn (bytes rest : List ℕ) : Type 0 where
  pub fuel : ℕ
  pub enough : length rest ≤ fuel
  pub same : customs_in fuel rest ≡ customs_at bytes

pub begins : (bytes : List ℕ) → IsOn bytes bytes
unfolding customs_at
begins bytes = record { fuel = length bytes; enough = omega arith; same = refl }

-- one custom section takes one step of the fuel
record Step (fuel : ℕ) (rest : List ℕ) : Type 0 where
  left : ℕ
  one : fuel ≡ suc left
  same : customs_in fuel rest ≡ (numbered_custom_at rest >>= λ after. customs_in left after)

some_left : (fuel : ℕ) (rest : List ℕ) → is_custom_at rest ≡ true → length rest ≤ fuel → Step fuel rest
unfolding customs_in
some_left zero [] custom enough = absurd cc
some_left zero (b ∷ rest) custom enough = absurd (omega arith)
some_left (suc fuel) rest custom enough = record { left = fuel; one = refl; same = rw custom refl }

pub goes_on : (bytes rest after : List ℕ) → is_custom_at rest ≡ true → IsOn bytes rest → numbered_custom_at rest ≡ Ok after → length after < length rest → IsOn bytes after
goes_on bytes rest after custom on read short =
    let s = some_left on.fuel rest custom on.enough in
    let next : customs_in on.fuel rest ≡ customs_in s.left after = s.same ∙ rw read refl in
    record { fuel = s.left; enough = omega (arith, s.one, on.enough); same = sym next ∙ on.same }

pub fails : (e : Stop) (bytes rest : List ℕ) → is_custom_at rest ≡ true → IsOn bytes rest → FailsAs (kind_of e) (numbered_custom_at rest) → FailsAs (kind_of e) (customs_at bytes)
fails stop.Memory bytes rest custom on read = tt
fails (stop.Fault f left) bytes rest custom on read =
    let s = some_left on.fuel rest custom on.enough in
    let next : customs_in on.fuel rest ≡ Err f = s.same ∙ rw read refl in
    sym on.same ∙ next

stays : (fuel : ℕ) (rest : List ℕ) → is_custom_at rest ≡ false → customs_in fuel rest ≡ Ok rest
unfolding customs_in
stays zero rest e = refl
stays (suc fuel) rest e = rw e refl

pub ends : (bytes rest : List ℕ) → is_custom_at rest ≡ false → IsOn bytes rest → customs_at bytes ≡ Ok rest
ends bytes rest past on = sym on.same ∙ stays on.fuel rest past
