-- Comments: what is read, and what the definition says.
use Rattle.std.proofs.Common.{◌≡◌, ℕ, zero, suc, ◌+◌, ◌-◌, Bool, true, false, ◌||◌, [], ◌∷◌, Option, Some, None, ◌⊎◌, inl, inr, refl, sym, ap, ◌∙◌, arith}
use Rattle.own_tree.specs.Characters.{Text, is_line_end, opens_comment, closes_comment}
use Rattle.own_tree.specs.Tokens.{Comment, ends, closes, opens, passes}
use Rattle.own_lex.specs.Reading.{comment_end}
use Rattle.own_lex.proofs.Comments.{step_close, step_end, step_open, step_pass, step_none, step_empty}

pub comment_again : (n : ℕ) (line out : Bool) (cs to : Text) → Comment n line cs out to → comment_end n line cs ≡ Some (out, to)
comment_again n line out cs to (ends line' c d rest e) = step_end line' c d rest e
comment_again n line out cs to (closes k line' out' c d mid rest e more) = step_close (suc k) line' c d mid e (omega arith) ∙ (let one : suc k - 1 ≡ k = omega arith in rw one (comment_again k line' out' mid rest more))
comment_again n line out cs to (opens k line' out' c d mid rest e o more) = step_open k line' c d mid e o ∙ (let one : k + 1 ≡ suc k = omega arith in rw one (comment_again (suc k) line' out' mid rest more))
comment_again n line out cs to (passes k line' out' c d mid rest e o more) = step_pass k line' c d mid e o ∙ comment_again k (line' || is_line_end c) out' (d ∷ mid) rest more

tells : (b : Bool) → (b ≡ true) ⊎ (b ≡ false)
tells true = inl refl
tells false = inr refl

abbrev some : Bool × Text → Option (Bool × Text)
some x = Some x

some_is : (x y : Bool × Text) → some x ≡ some y → x ≡ y
some_is x y e = cc

no_some : (x : Bool × Text) → None ≡ some x → ⊥
no_some x e = absurd cc

pub comment_found : (cs : Text) (n : ℕ) (line : Bool) (x : Bool × Text) → comment_end n line cs ≡ Some x → Comment n line cs x.0 x.1
comment_found [] n line x e = absurd (no_some x (sym (step_empty n line) ∙ e))
comment_found (c ∷ []) n line x e = absurd (no_some x (sym (step_none n line c) ∙ e))
comment_found (c ∷ d ∷ cs) zero line x e = elim (tells (closes_comment (c ∷ d ∷ cs))) [
  | inl y ↦ rw (← some_is (line, cs) x (sym (step_end line c d cs y) ∙ e)) (ends line c d cs y)
  | inr y ↦ elim (tells (opens_comment (c ∷ d ∷ cs))) [
    | inl z ↦ opens 0 line x.0 c d cs x.1 y z (comment_found cs 1 line x (sym (step_open 0 line c d cs y z) ∙ e))
    | inr z ↦ passes 0 line x.0 c d cs x.1 y z (comment_found (d ∷ cs) 0 (line || is_line_end c) x (sym (step_pass 0 line c d cs y z) ∙ e))
  ]
]
comment_found (c ∷ d ∷ cs) (suc n) line x e = elim (tells (closes_comment (c ∷ d ∷ cs))) [
  | inl y ↦ (let less : suc n - 1 ≡ n = omega arith in closes n line x.0 c d cs x.1 y (comment_found cs n line x (ap (λ (k : ℕ). comment_end k line cs) (sym less) ∙ sym (step_close (suc n) line c d cs y (omega arith)) ∙ e)))
  | inr y ↦ elim (tells (opens_comment (c ∷ d ∷ cs))) [
    | inl z ↦ (let more : suc n + 1 ≡ suc (suc n) = omega arith in opens (suc n) line x.0 c d cs x.1 y z (comment_found cs (suc (suc n)) line x (ap (λ (k : ℕ). comment_end k line cs) (sym more) ∙ sym (step_open (suc n) line c d cs y z) ∙ e)))
    | inr z ↦ passes (suc n) line x.0 c d cs x.1 y z (comment_found (d ∷ cs) (suc n) (line || is_line_end c) x (sym (step_pass (suc n) line c d cs y z) ∙ e))
  ]
]
