-- A stack in a Vec, seen as a list whose first item is the topmost.
use Rattle.std.proofs.Common.{◌≡◌, ℕ, suc, ◌+◌, ◌-◌, ◌≤◌, ◌<◌, true, false, cond, List, [], ◌∷◌, ◌++◌, length, take, drop, reverse, refl, sym, ap, ◌∙◌, arith}
use Rattle.std.proofs.lemmas.List.{reverse-append, drop-append-le, take-append-le, length-reverse, length-drop, length-take}
use Rattle.wasm_form.specs.declared.types.Value.{Value}
use Rattle.wasm_run.specs.declared.state.Layer.{Layer}
use Rattle.wasm_form.specs.Steps as steps
use Rattle.wasm_run.specs.declared.state.State.TheInside.{Inside}
use Rattle.wasm_form.specs.Steps.{below_all, operands}
use Rattle.wasm_run.specs.Views.{layers_of, locals_below, Falls, view_of, IsSound}
use Rattle.wasm_form.specs.declared.limits.TheConstants.{MOST_OPERANDS}

pub reverse_push : (b : ℕ) (vs : List Value) (v : Value) → b ≤ length vs → reverse (drop b (vs ++ v ∷ [])) ≡ v ∷ reverse (drop b vs)
reverse_push b vs v le = ap reverse (drop-append-le b vs (v ∷ []) le) ∙ reverse-append (drop b vs) (v ∷ [])

pub take_push : (b : ℕ) (vs : List Value) (v : Value) → b ≤ length vs → take b (vs ++ v ∷ []) ≡ take b vs
take_push b vs v le = take-append-le b vs (v ∷ []) le

pub sum_below : (xs : List Layer) (vs ls : List Value) → Falls xs (length vs) → below_all (layers_of xs vs ls) ≡ length vs
sum_below [] vs ls f = sym f
sum_below (x ∷ xs) vs ls f =
    let n : length (take x.base vs) ≡ x.base = omega (arith, length-take x.base vs, f.0) in
    let m : length (reverse (drop x.base vs)) ≡ length vs - x.base = length-reverse (drop x.base vs) ∙ length-drop x.base vs in
    let g : Falls xs (length (take x.base vs)) = rw n f.1 in
    let k = f.0 in
    elim x.is_frame as (λ b. below_all (cond b (steps.Frame (reverse (drop x.base vs)) x.result (drop x.locals ls) x.after.now) (steps.Label (reverse (drop x.base vs)) x.result x.target.now x.after.now) ∷ layers_of xs (take x.base vs) (cond b (take x.locals ls) ls)) ≡ length vs) [
      | true ↦ omega (arith, m, n, sum_below xs (take x.base vs) (take x.locals ls) g)
      | false ↦ omega (arith, m, n, sum_below xs (take x.base vs) ls g)
    ]

pub operands_are : (s : Inside) → IsSound s → operands (view_of s) ≡ length s.values.items
operands_are s h =
    let n : length (take s.base s.values.items) ≡ s.base = omega (arith, length-take s.base s.values.items, h.base) in
    let m : length (reverse (drop s.base s.values.items)) ≡ length s.values.items - s.base = length-reverse (drop s.base s.values.items) ∙ length-drop s.base s.values.items in
    let f : Falls (reverse s.layers.items) (length (take s.base s.values.items)) = rw n h.falls in
    let k = h.base in
    omega (arith, m, n, sum_below (reverse s.layers.items) (take s.base s.values.items) (take s.locals_base s.locals.items) f)

length_of : (xs : List Layer) (vs ls : List Value) → length (layers_of xs vs ls) ≡ length xs
length_of [] vs ls = refl
length_of (x ∷ xs) vs ls = ap suc (length_of xs (take x.base vs) (locals_below x ls))

pub length_layers : (s : Inside) → length (view_of s).layers ≡ length s.layers.items
length_layers s = length_of (reverse s.layers.items) (take s.base s.values.items) (take s.locals_base s.locals.items) ∙ length-reverse s.layers.items

-- where one value was taken there is room for one
pub room_after_pop : (s : Inside) (vs : List Value) → IsSound s → s.base < length s.values.items → vs ≡ take (length s.values.items - 1) s.values.items
    → length (reverse (drop s.base vs)) + below_all (layers_of (reverse s.layers.items) (take s.base vs) (take s.locals_base s.locals.items)) < MOST_OPERANDS
room_after_pop s vs h lt e =
    let n : length vs ≡ length s.values.items - 1 = ap length e ∙ omega (arith, length-take (length s.values.items - 1) s.values.items) in
    let t : length (take s.base vs) ≡ s.base = omega (arith, length-take s.base vs) in
    let m : length (reverse (drop s.base vs)) ≡ length vs - s.base = length-reverse (drop s.base vs) ∙ length-drop s.base vs in
    let f : Falls (reverse s.layers.items) (length (take s.base vs)) = rw t h.falls in
    let k = h.few_values in
    omega (arith, m, n, t, sum_below (reverse s.layers.items) (take s.base vs) (take s.locals_base s.locals.items) f)
