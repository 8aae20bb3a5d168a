-- Pieces put into a list in place of what is there.
use Rattle.std.proofs.Common.{◌≡◌, ℕ, ◌+◌, ◌≤◌, ◌<◌, List, [], ◌∷◌, ◌++◌, length, take, drop, get_or, set, sym, ap, ◌∙◌, arith}
use Rattle.std.proofs.lemmas.List.{append_assoc, append-nil, length-append, length-take, length-drop, drop_more, take-append-drop}
use Rattle.std.proofs.Math.Seq.{set-append_seam}
use Rattle.wasm_form.specs.Steps.{laid}

pub laid_nothing : {A : Type 0} (at : ℕ) (t : List A) → laid at [] t ≡ t
laid_nothing {A} at t =
    let k : at + 0 ≡ at = omega arith in
    ap (λ (l : List A). l ++ drop (at + 0) t) (append-nil (take at t)) ∙ ap (λ n. take at t ++ drop n t) k ∙ take-append-drop at t

-- one more element of the piece
pub laid_more : {A : Type 0} (at n : ℕ) (xs t : List A) (x : A) → length xs ≡ n → at + n < length t → set (laid at xs t) (at + n) x ≡ laid at (xs ++ x ∷ []) t
laid_more {A} at n xs t x e lt =
    let p = take at t ++ xs in
    let l : length p ≡ at + n = omega (arith, length-append (take at t) xs, length-take at t) in
    let k : at + length xs ≡ at + n = omega arith in
    let m : at + length (xs ++ x ∷ []) ≡ at + n + 1 = omega (arith, length-append xs (x ∷ [])) in
    ap (λ i. set (p ++ drop i t) (at + n) x) k
    ∙ ap (λ (d : List A). set (p ++ d) (at + n) x) (drop_more t (at + n) x lt)
    ∙ ap (λ i. set (p ++ get_or t (at + n) x ∷ drop (at + n + 1) t) i x) (sym l)
    ∙ set-append_seam p (get_or t (at + n) x) (drop (at + n + 1) t) x
    ∙ sym (append_assoc p (x ∷ []) (drop (at + n + 1) t))
    ∙ ap (λ (q : List A). q ++ drop (at + n + 1) t) (append_assoc (take at t) xs (x ∷ []))
    ∙ ap (λ i. take at t ++ (xs ++ x ∷ []) ++ drop i t) (sym m)

pub length-laid : {A : Type 0} (at : ℕ) (xs t : List A) → at + length xs ≤ length t → length (laid at xs t) ≡ length t
length-laid at xs t le = omega (arith, length-append (take at t ++ xs) (drop (at + length xs) t), length-append (take at t) xs, length-take at t, length-drop (at + length xs) t)
