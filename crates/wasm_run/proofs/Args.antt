-- The arguments of a call.
use Rattle.std.proofs.Common.{◌≡◌, ℕ, ◌+◌, ◌-◌, ◌≤◌, ◌<◌, true, false, cond, List, [], ◌∷◌, ◌++◌, length, take, drop, reverse, refl, sym, ap, ◌∙◌, arith}
use Rattle.std.proofs.lemmas.List.{reverse-append, take-append-drop, take_at, length-take, length-drop, length-reverse, reverse-reverse, take_all, drop-drop, drop-append-le, drop_at}
use Rattle.wasm_form.specs.declared.types.Value.{Value}
use Rattle.wasm_form.specs.declared.types.ValueType.{ValueType}
use Rattle.wasm_form.specs.Steps.{typed, has_type}

pub typed_short : (vs : List Value) (ts : List ValueType) → length vs < length ts → typed vs ts ≡ false
typed_short [] [] lt = absurd (omega arith)
typed_short [] (t ∷ ts) lt = refl
typed_short (v ∷ vs) [] lt = absurd (omega arith)
typed_short (v ∷ vs) (t ∷ ts) lt = elim (has_type v t) as (λ b. cond b (typed vs ts) false ≡ false) [ true ↦ typed_short vs ts (omega arith) | false ↦ refl ]

pub typed_step : (v : Value) (t : ValueType) (vs : List Value) (ts : List ValueType) → has_type v t ≡ true → typed (v ∷ vs) (t ∷ ts) ≡ typed vs ts
typed_step v t vs ts e = rw e refl

back_of : (k : ℕ) (xs : List Value) → reverse (take (length xs - k) (reverse xs)) ≡ drop k xs
back_of k xs =
    let split : reverse xs ≡ reverse (drop k xs) ++ reverse (take k xs) = ap reverse (sym (take-append-drop k xs)) ∙ reverse-append (take k xs) (drop k xs) in
    let n : length (reverse (drop k xs)) ≡ length xs - k = length-reverse (drop k xs) ∙ length-drop k xs in
    ap (λ (l : List Value). reverse (take (length xs - k) l)) split ∙ ap reverse (take_at (reverse (drop k xs)) (reverse (take k xs)) (length xs - k) n) ∙ reverse-reverse (drop k xs)

pub args_are : (b n : ℕ) (vs : List Value) → b + n ≤ length vs → reverse (take n (reverse (drop b vs))) ≡ drop (length vs - n) vs
args_are b n vs le =
    let k = length vs - b - n in
    let e : length (drop b vs) - k ≡ n = omega (arith, length-drop b vs) in
    let f : b + k ≡ length vs - n = omega arith in
    ap (λ m. reverse (take m (reverse (drop b vs)))) (sym e) ∙ back_of k (drop b vs) ∙ drop-drop k b vs ∙ ap (λ m. drop m vs) f

-- as a slice to the end shows it
pub args_slice : (b n : ℕ) (vs : List Value) → b + n ≤ length vs → reverse (take n (reverse (drop b vs))) ≡ take (length vs - (length vs - n)) (drop (length vs - n) vs)
args_slice b n vs le = args_are b n vs le ∙ sym (take_all (length vs - (length vs - n)) (drop (length vs - n) vs) (omega (arith, length-drop (length vs - n) vs)))

pub too_few : (b : ℕ) (vs : List Value) (ts : List ValueType) → length vs - b < length ts → typed (reverse (take (length ts) (reverse (drop b vs)))) ts ≡ false
too_few b vs ts lt = typed_short _ ts (omega (arith, length-reverse (take (length ts) (reverse (drop b vs))), length-take (length ts) (reverse (drop b vs)), length-reverse (drop b vs), length-drop b vs))

pub rest_is : (b n : ℕ) (vs : List Value) → b + n ≤ length vs → drop n (reverse (drop b vs)) ≡ reverse (drop b (take (length vs - n) vs))
rest_is b n vs le =
    let k = length vs - n in
    let l : k ≡ length vs - n = refl in
    let m : b ≤ length (take k vs) = omega (arith, length-take k vs) in
    let e : drop b vs ≡ drop b (take k vs) ++ drop k vs = ap (drop b) (sym (take-append-drop k vs)) ∙ drop-append-le b (take k vs) (drop k vs) m in
    let n-is : length (reverse (drop k vs)) ≡ n = omega (arith, length-reverse (drop k vs), length-drop k vs) in
    ap (λ (y : List Value). drop n (reverse y)) e ∙ ap (drop n) (reverse-append (drop b (take k vs)) (drop k vs)) ∙ drop_at (reverse (drop k vs)) (reverse (drop b (take k vs))) n n-is
