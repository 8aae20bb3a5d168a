-- Whether bytes are text.
use Rattle.std.proofs.Common.{◌≡◌, ℕ, List, Result, Ok, Err, sym}
use Rattle.std.specs.Prelude.{MatchResult, is_ok}
use Rattle.std.specs.Borrow.{Bor}
use Rattle.std.specs.Str.{IsUtf8, is_utf8}
use Rattle.std.proofs.lemmas.Str.{IsUtf8-from_is_utf8, is_utf8-from_IsUtf8}
use Rattle.std.proofs.lemmas.Bool.{false_from_ne_true}

pub text_is : {E : Type 0} (Q : E → Type 0) (r : Result (Bor (List ℕ)) E) (bytes : List ℕ) → MatchResult r (λ s. (s.now ≡ bytes) × IsUtf8 bytes) (λ e. (IsUtf8 bytes → ⊥) × Q e) → is_ok r ≡ is_utf8 bytes
text_is Q (Ok s) bytes h = sym (is_utf8-from_IsUtf8 bytes h.1)
text_is Q (Err e) bytes h = sym (false_from_ne_true (is_utf8 bytes) (λ yes. h.0 (IsUtf8-from_is_utf8 bytes yes)))
