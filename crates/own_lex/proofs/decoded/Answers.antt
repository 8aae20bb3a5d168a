use Rattle.std.proofs.Common.{◌≡◌, List, ℕ, Bool, true, false, refl, ap, ◌∙◌}
use Rattle.std.specs.Str.{IsUtf8, is_utf8}
use Rattle.std.proofs.lemmas.Str.{is_utf8-from_IsUtf8, IsUtf8-from_is_utf8}
use Rattle.own_tree.specs.declared.error.LexError.TheVariants as error
use Rattle.own_lex.proofs.decoded.Goals as goal

not_utf8 : (bytes : List ℕ) → ¬ (IsUtf8 bytes) → is_utf8 bytes ≡ false
not_utf8 bytes none = go (is_utf8 bytes) refl
  where
    go : (b : Bool) → is_utf8 bytes ≡ b → b ≡ false
    go true e = absurd (none (IsUtf8-from_is_utf8 bytes e))
    go false e = refl

pub returns-in-Ok-clause-ok : goal.returns-in-Ok-clause-ok
returns-in-Ok-clause-ok c = (c.in-Ok.ensures.cases.0, is_utf8-from_IsUtf8 _ c.in-Ok.ensures.cases.1)

pub returns-in-Err-clause-err : goal.returns-in-Err-clause-err
returns-in-Err-clause-err c = (not_utf8 _ c.in-Err.ensures.cases.0, ap (λ n. error.NotUtf8 n) (c.valid_up_to.ensures ∙ c.in-Err.ensures.valid_len))
