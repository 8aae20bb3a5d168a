-- Pieces written one after the other.
use Rattle.std.proofs.Common.{◌≡◌, ℕ, List, ◌++◌, Result, Ok, Err, sym, append_assoc, ap, ◌∙◌}
use Rattle.std.specs.Prelude.{OnOk}

-- two pieces at the end are one
pub two_pieces : (old a new b newer whole : List ℕ) → new ≡ old ++ a → newer ≡ new ++ b → whole ≡ a ++ b → newer ≡ old ++ whole
two_pieces old a new b newer whole p q e = q ∙ ap (λ (l : List ℕ). l ++ b) p ∙ append_assoc old a b ∙ ap (λ (l : List ℕ). old ++ l) (sym e)

-- what holds at the end of a last call holds at the end
pub last_call : {T E : Type 0} (r : Result T E) (P Q : Type 0) → (P → Q) → OnOk r P → OnOk r Q
last_call (Ok x) P Q f p = f p
last_call (Err e) P Q f p = tt

-- and so are three
pub three_pieces : (old a new b newer c newest whole : List ℕ) → new ≡ old ++ a → newer ≡ new ++ b → newest ≡ newer ++ c → whole ≡ a ++ (b ++ c) → newest ≡ old ++ whole
three_pieces old a new b newer c newest whole p q r e = two_pieces old (a ++ b) newer c newest whole (q ∙ ap (λ (l : List ℕ). l ++ b) p ∙ append_assoc old a b) r (e ∙ sym (append_assoc a b c))
