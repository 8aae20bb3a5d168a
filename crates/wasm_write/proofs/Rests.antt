-- The loops that write a number: what was written, and what the rest is still written as, is the whole.
use Rattle.std.proofs.Common.{◌≡◌, ℕ, zero, suc, ◌+◌, ◌-◌, ◌*◌, ◌/◌, ◌%◌, ◌^◌, ◌<◌, ◌≤◌, Bool, List, [], ◌∷◌, ◌++◌, refl, sym, ap, ◌∙◌, arith, append_assoc}
use Rattle.std.proofs.lemmas.Bool.{lt-ltb, le-ltb}
use Rattle.std.proofs.lemmas.Nat.{pow-add}
use Rattle.wasm_form.specs.Leb.{shortest_in, shortest_signed_in, group_of}

-- The form of a number in at most so many bytes: from the limit on a byte goes on, below it one is the last.
pub record IsForm (form : ℕ → ℕ → List ℕ) (limit : ℕ) (byte : ℕ → ℕ) : Type 0 where
  pub wide : 64 ≤ limit
  pub more : (k n : ℕ) → limit ≤ n → form (suc k) n ≡ (byte n + 128) ∷ form k (n / 128)
  pub last : (k n : ℕ) → n < limit → form (suc k) n ≡ byte n ∷ []

pub unsigned_form : IsForm shortest_in 128 (λ n. n % 128)
unfolding shortest_in
unsigned_form = record { wide = omega arith; more = λ k n le. rw (le-ltb n 128 le) refl; last = λ k n lt. let e : n % 128 ≡ n = omega arith in rw (lt-ltb n 128 lt, e) refl }

pub signed_form : (negative : Bool) → IsForm (λ k n. shortest_signed_in k negative n) 64 (group_of negative)
unfolding shortest_signed_in
signed_form negative = record { wide = omega arith; more = λ k n le. rw (le-ltb n 64 le) refl; last = λ k n lt. rw (lt-ltb n 64 lt) refl }

pub record IsOn (form : ℕ → ℕ → List ℕ) (whole new : List ℕ) (rest : ℕ) : Type 0 where
  pub left : ℕ
  pub some : 0 < left
  pub fits : 2 * rest < 2 ^ (7 * left)
  pub same : new ++ form left rest ≡ whole

pub begins : (form : ℕ → ℕ → List ℕ) (old : List ℕ) (n : ℕ) → n < 2 ^ 64 → IsOn form (old ++ form 10 n) old n
begins form old n lt = record { left = 10; some = omega arith; fits = omega arith; same = refl }

many_left : (k rest : ℕ) → 2 * rest < 128 * 2 ^ (7 * k) → 64 ≤ rest → 0 < k
many_left zero rest fits le = absurd (omega arith)
many_left (suc k) rest fits le = omega arith

-- one byte that goes on
pub goes_on : (form : ℕ → ℕ → List ℕ) (limit : ℕ) (byte : ℕ → ℕ) → IsForm form limit byte → (whole new newer : List ℕ) (rest b : ℕ) → IsOn form whole new rest → limit ≤ rest → b ≡ byte rest + 128 → newer ≡ new ++ b ∷ [] → IsOn form whole newer (rest / 128)
goes_on form limit byte is whole new newer rest b on le be ne = go (on.left - 1) (omega (arith, on.some))
  where
    go : (k : ℕ) → on.left ≡ suc k → IsOn form whole newer (rest / 128)
    go k e =
        let p : 2 ^ (7 * on.left) ≡ 128 * 2 ^ (7 * k) = let f : 7 * on.left ≡ 7 + 7 * k = omega arith in ap (λ m. 2 ^ m) f ∙ pow-add 2 7 (7 * k) in
        let wide = is.wide in
        let below : 2 * rest < 128 * 2 ^ (7 * k) = omega (arith, on.fits) in
        let fits : 2 * (rest / 128) < 2 ^ (7 * k) = omega (arith, below) in
        let many : 0 < k = many_left k rest below (omega arith) in
        let w : newer ++ form k (rest / 128) ≡ new ++ form on.left rest =
        ap (λ (l : List ℕ). l ++ form k (rest / 128)) (ne ∙ ap (λ c. new ++ c ∷ []) be)
        ∙ append_assoc new ((byte rest + 128) ∷ []) (form k (rest / 128))
        ∙ ap (λ (l : List ℕ). new ++ l) (sym (is.more k rest le) ∙ ap (λ m. form m rest) (sym e)) in
        record { left = k; some = many; fits = fits; same = w ∙ on.same }

pub ends : (form : ℕ → ℕ → List ℕ) (limit : ℕ) (byte : ℕ → ℕ) → IsForm form limit byte → (whole new newer : List ℕ) (rest b : ℕ) → IsOn form whole new rest → rest < limit → b ≡ byte rest → newer ≡ new ++ b ∷ [] → newer ≡ whole
ends form limit byte is whole new newer rest b on lt be ne =
    let k = on.left - 1 in
    let e : on.left ≡ suc k = omega (arith, on.some) in
    ne ∙ ap (λ c. new ++ c ∷ []) be ∙ sym (ap (λ (l : List ℕ). new ++ l) (ap (λ m. form m rest) e ∙ is.last k rest lt)) ∙ on.same
