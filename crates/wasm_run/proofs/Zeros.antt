-- The locals that a function declares, one group after another.
use Rattle.std.proofs.Common.{◌≡◌, ℕ, ◌+◌, ◌≤◌, ◌<◌, List, [], ◌∷◌, ◌++◌, length, take, drop, get_or, refl, sym, ap, ◌∙◌, arith}
use Rattle.std.specs.Prelude.{replicate}
use Rattle.std.proofs.lemmas.List.{append_assoc, append-nil, take_more, length-append, length-replicate, take-append-drop}
use Rattle.wasm_form.specs.declared.module.LocalGroup.{LocalGroup}
use Rattle.wasm_form.specs.declared.types.Value.{Value}
use Rattle.wasm_form.specs.Steps.{zeros, zero_of}
use Rattle.wasm_form.specs.Within.{count_locals}

zeros-append : (gs hs : List LocalGroup) → zeros (gs ++ hs) ≡ zeros gs ++ zeros hs
zeros-append [] hs = refl
zeros-append (g ∷ gs) hs = ap (λ (vs : List Value). replicate g.count (zero_of g.value_type) ++ vs) (zeros-append gs hs) ∙ sym (append_assoc (replicate g.count (zero_of g.value_type)) (zeros gs) (zeros hs))

count-append : (gs hs : List LocalGroup) → count_locals (gs ++ hs) ≡ count_locals gs + count_locals hs
count-append [] hs = omega arith
count-append (g ∷ gs) hs = omega (arith, count-append gs hs)

pub length-zeros : (gs : List LocalGroup) → length (zeros gs) ≡ count_locals gs
length-zeros [] = refl
length-zeros (g ∷ gs) = omega (arith, length-append (replicate g.count (zero_of g.value_type)) (zeros gs), length-replicate g.count (zero_of g.value_type), length-zeros gs)

-- one group more
pub zeros_more : (gs : List LocalGroup) (k : ℕ) (d : LocalGroup) → k < length gs → zeros (take (k + 1) gs) ≡ zeros (take k gs) ++ replicate (get_or gs k d).count (zero_of (get_or gs k d).value_type)
zeros_more gs k d lt =
    ap zeros (take_more gs k d lt) ∙ zeros-append (take k gs) (get_or gs k d ∷ [])
    ∙ ap (λ (vs : List Value). zeros (take k gs) ++ vs) (append-nil (replicate (get_or gs k d).count (zero_of (get_or gs k d).value_type)))

-- it is within the whole
pub count_within : (gs : List LocalGroup) (k : ℕ) (d : LocalGroup) → k < length gs → count_locals (take k gs) + (get_or gs k d).count ≤ count_locals gs
count_within gs k d lt =
    let e = ap count_locals (take_more gs k d lt) ∙ count-append (take k gs) (get_or gs k d ∷ []) in
    let s = ap count_locals (sym (take-append-drop (k + 1) gs)) ∙ count-append (take (k + 1) gs) (drop (k + 1) gs) in
    omega (arith, e, s)
