-- Arguments agree where they agree pair by pair.
use Rattle.std.proofs.Common.{◌≡◌, ℕ, ◌+◌, ◌-◌, ◌<◌, Bool, false, suc, ◌&&◌, List, [], ◌∷◌, length, get_or, take, drop, refl, sym, ap, ◌∙◌, subst}
use Rattle.std.proofs.Math.Bool.{and-false}
use Rattle.std.proofs.lemmas.List.{drop_more, take_rest}
use Rattle.own_tree.specs.declared.typed.ArgInfo.{ArgInfo}
use Rattle.own_tree.specs.declared.typed.ParamInfo.{ParamInfo}
use Rattle.own_calls.specs.Arguments.{agrees, arguments_agree, is_trailing}

pub other_number : (end : ℕ) (ps : List ParamInfo) (arguments : List ArgInfo) → ¬ (length ps ≡ length arguments) → arguments_agree end ps arguments ≡ false
other_number end [] [] differ = absurd (differ refl)
other_number end [] (a ∷ rest) differ = refl
other_number end (p ∷ ps) [] differ = refl
other_number end (p ∷ ps) (a ∷ rest) differ =
    let first = agrees (is_trailing end (a ∷ rest)) p a in
    ap (λ later. first && later) (other_number end ps rest (λ same. differ (ap suc same))) ∙ and-false first

one_pair : (end : ℕ) (qs ps : List ParamInfo) (p : ParamInfo) (given rest : List ArgInfo) (a : ArgInfo) → qs ≡ p ∷ ps → given ≡ a ∷ rest
    → arguments_agree end qs given ≡ (agrees (is_trailing end given) p a && arguments_agree end ps rest)
one_pair end qs ps p given rest a at_p at_a = rw (at_p, at_a) refl

module _ (end : ℕ) (ps : List ParamInfo) (arguments : List ArgInfo) (same_number : length ps ≡ length arguments) where
  -- what is said of that pair, and of those behind it
  pub one_more : (i : ℕ) (p : ParamInfo) (a : ArgInfo) (trailing answer : Bool) → i < length arguments
      → p ≡ get_or ps i p → a ≡ get_or arguments i a
      → trailing ≡ is_trailing end (take (length arguments - i) (drop i arguments))
      → answer ≡ agrees trailing p a
      → (answer && arguments_agree end (drop (i + 1) ps) (drop (i + 1) arguments)) ≡ arguments_agree end (drop i ps) (drop i arguments)
  one_more i p a trailing answer within at_p at_a trails answers =
      let later = arguments_agree end (drop (i + 1) ps) (drop (i + 1) arguments) in
      let there = subst (λ n. i < n) (sym same_number) within in
      ap (λ b. b && later) (answers ∙ ap (λ t. agrees t p a) (trails ∙ ap (is_trailing end) (take_rest arguments i)))
      ∙ sym (one_pair end (drop i ps) (drop (i + 1) ps) p (drop i arguments) (drop (i + 1) arguments) a
      (drop_more ps i p there ∙ ap (λ x. x ∷ drop (i + 1) ps) (sym at_p))
      (drop_more arguments i a within ∙ ap (λ x. x ∷ drop (i + 1) arguments) (sym at_a)))
