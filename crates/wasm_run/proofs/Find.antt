-- The walk to the layer that a branch goes to.
use Rattle.std.proofs.Common.{◌≡◌, ℕ, suc, ◌+◌, ◌-◌, ◌*◌, ◌≤◌, ◌<◌, true, false, cond, Option, Some, None, List, [], ◌∷◌, ◌++◌, length, take, drop, reverse, get_or, refl, sym, ap, subst, ◌∙◌, arith}
use Rattle.std.proofs.lemmas.List.{reverse-append, take_more, length-take, take-append-le, drop-append-le, take-take, length-reverse, take-append-drop}
use Rattle.wasm_form.specs.declared.types.Value.{Value}
use Rattle.wasm_form.specs.declared.instr.Instr.{Instr}
use Rattle.wasm_run.specs.declared.state.Layer.{Layer}
use Rattle.wasm_run.specs.declared.state.State.TheInside.{Inside}
use Rattle.wasm_form.specs.Steps as steps
use Rattle.wasm_form.specs.Steps.{target_of, branch, leave, carried, result_of, jump_with, Stuck, ◌>>-◌, returned, Config, Goes, Ends, frames}
use Rattle.wasm_run.specs.Views.{listed, view_of, IsSound, layer_of, layers_of, locals_below, Falls, LocalsFall, Restores, IsFound, IsNotFound}
use Rattle.wasm_form.specs.declared.limits.TheConstants.{MOST_LOCALS}

-- so far the walk has passed labels alone
pub record IsHere (xs : List Layer) (base : ℕ) (w : Option ℕ) (at start : ℕ) (left : Option ℕ) : Type 0 where
  pub within : at ≤ length xs
  pub le : start ≤ base
  pub falls : Falls (reverse (take at xs)) start
  pub same : (vs ls : List Value) → target_of left (layers_of (reverse (take at xs)) (take start vs) ls) ≡ target_of w (layers_of (reverse xs) (take base vs) ls)
  pub locals : (m d : ℕ) → LocalsFall (reverse xs) m d → LocalsFall (reverse (take at xs)) m d

pub opens : (xs : List Layer) (at : ℕ) (x : Layer) → 0 < at → at ≤ length xs → x ≡ get_or xs (at - 1) x → reverse (take at xs) ≡ x ∷ reverse (take (at - 1) xs)
opens xs at x pos le is =
    let k : at ≡ (at - 1) + 1 = omega arith in
    let lt : at - 1 < length xs = omega arith in
    ap (λ n. reverse (take n xs)) k ∙ ap reverse (take_more xs (at - 1) x lt) ∙ reverse-append (take (at - 1) xs) (get_or xs (at - 1) x ∷ []) ∙ ap (λ (y : Layer). y ∷ reverse (take (at - 1) xs)) (sym is)

below_label : (x : Layer) (ls : List Value) → x.is_frame ≡ false → locals_below x ls ≡ ls
below_label x ls e = rw e refl

pub found : (xs : List Layer) (base : ℕ) (w : Option ℕ) (at start : ℕ) (left : Option ℕ) (x : Layer) → IsHere xs base w at start left → 0 < at → x ≡ get_or xs (at - 1) x
    → ((vs ls : List Value) (r : List steps.Layer) → target_of left (layer_of x vs ls ∷ r) ≡ Some (layer_of x vs ls, r)) → IsFound xs base w (at - 1) start x
found xs base w at start left x h pos is stops =
    let o = opens xs at x pos h.within is in
    let f : Falls (x ∷ reverse (take (at - 1) xs)) start = subst (λ ys. Falls ys start) o h.falls in
    record {
      within = omega (arith, h.within);
      start_le = h.le;
      base_le = f.0;
      falls = f.1;
      target = λ vs ls. sym (h.same vs ls) ∙ ap (λ ys. target_of left (layers_of ys (take start vs) ls)) o ∙ stops (take start vs) ls (layers_of (reverse (take (at - 1) xs)) (take x.base (take start vs)) (locals_below x ls))
          ∙ ap (λ us. Some (layer_of x (take start vs) ls, layers_of (reverse (take (at - 1) xs)) us (locals_below x ls))) (take-take x.base start vs f.0);
      locals = λ m d fall. subst (λ ys. LocalsFall ys m d) o (h.locals m d fall);
    }

-- one label is passed
pub moves : (xs : List Layer) (base : ℕ) (w : Option ℕ) (at start : ℕ) (left next : Option ℕ) (x : Layer) → IsHere xs base w at start left → 0 < at → x ≡ get_or xs (at - 1) x
    → ((vs ls : List Value) (r : List steps.Layer) → target_of left (layer_of x vs ls ∷ r) ≡ target_of next r) → x.is_frame ≡ false → IsHere xs base w (at - 1) x.base next
moves xs base w at start left next x h pos is passes label =
    let o = opens xs at x pos h.within is in
    let f : Falls (x ∷ reverse (take (at - 1) xs)) start = subst (λ ys. Falls ys start) o h.falls in
    record {
      within = omega (arith, h.within);
      le = omega (arith, f.0, h.le);
      falls = f.1;
      same = λ vs ls. ap (λ us. target_of next (layers_of (reverse (take (at - 1) xs)) us ls)) (sym (take-take x.base start vs f.0))
          ∙ ap (λ us. target_of next (layers_of (reverse (take (at - 1) xs)) (take x.base (take start vs)) us)) (sym (below_label x ls label))
          ∙ sym (passes (take start vs) ls (layers_of (reverse (take (at - 1) xs)) (take x.base (take start vs)) (locals_below x ls)))
          ∙ ap (λ ys. target_of left (layers_of ys (take start vs) ls)) (sym o) ∙ h.same vs ls;
      locals = λ m d fall. let g : LocalsFall (x ∷ reverse (take (at - 1) xs)) m d = subst (λ ys. LocalsFall ys m d) o (h.locals m d fall) in let e = rw label at g.0 in rw (e.0, e.1) g.1;
    }

pub pass_none : (x : Layer) → x.is_frame ≡ false → (vs ls : List Value) (r : List steps.Layer) → target_of None (layer_of x vs ls ∷ r) ≡ target_of None r
pass_none x e vs ls r = rw e refl

pub pass_some : (x : Layer) (left : Option ℕ) (k : ℕ) → x.is_frame ≡ false → left ≡ Some (suc k) → (vs ls : List Value) (r : List steps.Layer) → target_of left (layer_of x vs ls ∷ r) ≡ target_of (Some k) r
pass_some x left k e is vs ls r = rw (is, e) refl

pub at_frame : (x : Layer) → x.is_frame ≡ true → (vs ls : List Value) (r : List steps.Layer) → target_of None (layer_of x vs ls ∷ r) ≡ Some (layer_of x vs ls, r)
at_frame x e vs ls r = rw e refl

pub at_zero : (x : Layer) (left : Option ℕ) → left ≡ Some 0 → (vs ls : List Value) (r : List steps.Layer) → target_of left (layer_of x vs ls ∷ r) ≡ Some (layer_of x vs ls, r)
at_zero x left e vs ls r = rw e refl

result_is : (x : Layer) (vs ls : List Value) → result_of (layer_of x vs ls) ≡ x.result
result_is x vs ls = elim x.is_frame as (λ b. result_of (cond b (steps.Frame (reverse (drop x.base vs)) x.result (drop x.locals ls) x.after.now) (steps.Label (reverse (drop x.base vs)) x.result x.target.now x.after.now)) ≡ x.result) [ true ↦ refl | false ↦ refl ]

-- where a branch goes, among the fields
abbrev pub aim : Inside → Layer → ℕ → ℕ → steps.Layer × List steps.Layer
aim s x at start = (layer_of x (take start s.values.items) (take s.locals_base s.locals.items), layers_of (reverse (take at s.layers.items)) (take x.base s.values.items) (locals_below x (take s.locals_base s.locals.items)))

-- what a branch comes to
pub goes : (s : Inside) (w : Option ℕ) (x : Layer) (at start : ℕ) (hs : Option (List Value)) → IsFound s.layers.items s.base w at start x → carried x.result (reverse (drop s.base s.values.items)) ≡ hs
    → branch w (view_of s) ≡ (hs >>- λ vs. jump_with vs (aim s x at start) (view_of s))
unfolding branch
goes s w x at start hs f e =
    rw (f.target s.values.items (take s.locals_base s.locals.items), result_is x (take start s.values.items) (take s.locals_base s.locals.items), e) refl

pub goes_nowhere : (s : Inside) (w : Option ℕ) → IsNotFound s.layers.items s.base w → branch w (view_of s) ≡ Stuck
unfolding branch
goes_nowhere s w f = rw (f s.values.items (take s.locals_base s.locals.items)) refl

-- a list of one value or none
handed_reverse : (o : Option Value) → reverse (listed o) ≡ listed o
handed_reverse None = refl
handed_reverse (Some v) = refl

pub new_values : (b start : ℕ) (vs : List Value) (o : Option Value) → b ≤ start → start ≤ length vs → reverse (drop b (take start vs ++ listed o)) ≡ listed o ++ reverse (drop b (take start vs))
new_values b start vs o le le' =
    let n : b ≤ length (take start vs) = omega (arith, length-take start vs) in
    ap reverse (drop-append-le b (take start vs) (listed o) n) ∙ reverse-append (drop b (take start vs)) (listed o) ∙ ap (λ (h : List Value). h ++ reverse (drop b (take start vs))) (handed_reverse o)

pub new_below : (b start : ℕ) (vs : List Value) (o : Option Value) → b ≤ start → start ≤ length vs → take b (take start vs ++ listed o) ≡ take b vs
new_below b start vs o le le' =
    let n : b ≤ length (take start vs) = omega (arith, length-take start vs) in
    take-append-le b (take start vs) (listed o) n ∙ take-take b start vs le

returned_on : (vs locals : List Value) (after : List Instr) (ls : List steps.Layer) (c : Config) → 0 < length ls → returned vs locals after ls c ≡ Goes (record { code = after; values = vs; layers = ls; locals = locals; globals = c.globals; table = c.table; memory = c.memory; input = c.input })
returned_on vs locals after [] c lt = absurd (omega arith)
returned_on vs locals after (l ∷ ls) c lt = refl

length_of : (xs : List Layer) (vs ls : List Value) → length (layers_of xs vs ls) ≡ length xs
length_of [] vs ls = refl
length_of (x ∷ xs) vs ls = ap suc (length_of xs (take x.base vs) (locals_below x ls))

module _ (s : Inside) (w : Option ℕ) (x : Layer) (at start : ℕ) (o : Option Value) (sound : IsSound s) (f : IsFound s.layers.items s.base w at start x)
    (e : carried x.result (reverse (drop s.base s.values.items)) ≡ Some (listed o)) where
  pub at_label : (vals : List Value) (lays : List Layer) → x.is_frame ≡ false → vals ≡ take start s.values.items ++ listed o → lays ≡ take at s.layers.items
      → branch w (view_of s) ≡ Goes (record { code = x.target.now; values = reverse (drop x.base vals); layers = layers_of (reverse lays) (take x.base vals) (take s.locals_base s.locals.items); locals = drop s.locals_base s.locals.items; globals = s.globals.items; table = s.table.items; memory = s.memory.items; input = s.input.now })
  at_label vals lays label v l =
      let le : start ≤ length s.values.items = omega (arith, f.start_le, sound.base) in
      goes s w x at start (Some (listed o)) f e ∙ rw (label, v, l, new_values x.base start s.values.items o f.base_le le, new_below x.base start s.values.items o f.base_le le) refl

  pub at_caller : (vals locs : List Value) (lays : List Layer) → x.is_frame ≡ true → 0 < at → vals ≡ take start s.values.items ++ listed o → lays ≡ take at s.layers.items → locs ≡ take s.locals_base s.locals.items
      → branch w (view_of s) ≡ Goes (record { code = x.after.now; values = reverse (drop x.base vals); layers = layers_of (reverse lays) (take x.base vals) (take x.locals locs); locals = drop x.locals locs; globals = s.globals.items; table = s.table.items; memory = s.memory.items; input = s.input.now })
  at_caller vals locs lays frame pos v l m =
      let le : start ≤ length s.values.items = omega (arith, f.start_le, sound.base) in
      let n : length (take at s.layers.items) ≡ at = omega (arith, length-take at s.layers.items, f.within) in
      let k : length (layers_of (reverse (take at s.layers.items)) (take x.base s.values.items) (take x.locals (take s.locals_base s.locals.items))) ≡ at = length_of (reverse (take at s.layers.items)) (take x.base s.values.items) (take x.locals (take s.locals_base s.locals.items)) ∙ length-reverse (take at s.layers.items) ∙ n in
      goes s w x at start (Some (listed o)) f e
      ∙ rw (frame, v, l, m, new_values x.base start s.values.items o f.base_le le, new_below x.base start s.values.items o f.base_le le)
      (returned_on (listed o ++ reverse (drop x.base (take start s.values.items))) (drop x.locals (take s.locals_base s.locals.items)) x.after.now
      (layers_of (reverse (take at s.layers.items)) (take x.base s.values.items) (take x.locals (take s.locals_base s.locals.items))) (view_of s) (omega arith))

  pub at_end : x.is_frame ≡ true → at ≡ 0 → branch w (view_of s) ≡ Ends
  at_end frame zeroth = goes s w x at start (Some (listed o)) f e ∙ rw (frame, zeroth) refl

joined : (a b : ℕ) (vs : List Value) → a ≤ b → b ≤ length vs → reverse (drop b vs) ++ reverse (drop a (take b vs)) ≡ reverse (drop a vs)
joined a b vs le le' =
    let n : a ≤ length (take b vs) = omega (arith, length-take b vs) in
    sym (reverse-append (drop a (take b vs)) (drop b vs)) ∙ ap reverse (sym (drop-append-le a (take b vs) (drop b vs) n) ∙ ap (drop a) (take-append-drop b vs))

pub left_label : (s : Inside) (x : Layer) (lays : List Layer) → IsSound s → reverse s.layers.items ≡ x ∷ reverse lays → x.is_frame ≡ false
    → leave (view_of s) ≡ Goes (record { code = x.after.now; values = reverse (drop x.base s.values.items); layers = layers_of (reverse lays) (take x.base s.values.items) (take s.locals_base s.locals.items); locals = drop s.locals_base s.locals.items; globals = s.globals.items; table = s.table.items; memory = s.memory.items; input = s.input.now })
unfolding leave
left_label s x lays sound e label =
    let f : Falls (x ∷ reverse lays) s.base = subst (λ ys. Falls ys s.base) e sound.falls in
    rw (e, label, joined x.base s.base s.values.items f.0 sound.base, take-take x.base s.base s.values.items f.0) refl

pub top_falls : (s : Inside) (x : Layer) (lays : List Layer) → IsSound s → reverse s.layers.items ≡ x ∷ reverse lays → x.is_frame ≡ false → (x.base ≤ s.base) × Falls (reverse lays) x.base × LocalsFall (reverse lays) s.locals_base s.depth
top_falls s x lays sound e label =
    let f : Falls (x ∷ reverse lays) s.base = subst (λ ys. Falls ys s.base) e sound.falls in
    let g : LocalsFall (x ∷ reverse lays) s.locals_base s.depth = subst (λ ys. LocalsFall ys s.locals_base s.depth) e sound.locals_fall in
    let k = rw label at g.0 in
    (f.0, f.1, rw (k.0, k.1) g.1)

pub falls_label : (x : Layer) (ys : List Layer) (m d : ℕ) → x.is_frame ≡ false → LocalsFall (x ∷ ys) m d → LocalsFall ys m d
falls_label x ys m d label g = let k = rw label at g.0 in rw (k.0, k.1) g.1

pub falls_frame : (x : Layer) (ys : List Layer) (m d : ℕ) → x.is_frame ≡ true → LocalsFall (x ∷ ys) m d → (x.locals ≤ m) × (d ≡ x.depth + 1) × (m ≤ MOST_LOCALS * x.depth)
falls_frame x ys m d frame g = rw frame at g.0

-- the frames of the layers are as many as the state says
frames_layer : (x : Layer) (r : List steps.Layer) (vs ls : List Value) (m d : ℕ) → frames r ≡ x.depth → Restores x.is_frame x.locals m x.depth d → frames (layer_of x vs ls ∷ r) ≡ d
frames_layer x r vs ls m d e = elim x.is_frame as (λ b. Restores b x.locals m x.depth d → frames (cond b (steps.Frame (reverse (drop x.base vs)) x.result (drop x.locals ls) x.after.now) (steps.Label (reverse (drop x.base vs)) x.result x.target.now x.after.now) ∷ r) ≡ d) [ true ↦ λ g. omega (arith, e, g.1) | false ↦ λ g. omega (arith, e, g.1) ]

pub frames_are : (xs : List Layer) (vs ls : List Value) (m d : ℕ) → LocalsFall xs m d → frames (layers_of xs vs ls) ≡ d
frames_are [] vs ls m d g = sym g
frames_are (x ∷ xs) vs ls m d g = frames_layer x (layers_of xs (take x.base vs) (locals_below x ls)) vs ls m d (frames_are xs (take x.base vs) (locals_below x ls) x.locals x.depth g.1) g.0

pub top_split : (xs ds lays : List Layer) (x : Layer) (n : ℕ) → ds ≡ xs → n ≡ length ds → lays ≡ take (n - 1) xs → reverse ds ≡ x ∷ reverse (take (length ds - 1) ds) → reverse xs ≡ x ∷ reverse lays
top_split xs ds lays x n d e l h = rw (l, e, ← d) h

pub enters_label : (xs : List Layer) (x : Layer) (m d : ℕ) → LocalsFall (reverse xs) m d → x.is_frame ≡ false → x.locals ≡ m → x.depth ≡ d → LocalsFall (reverse (xs ++ x ∷ [])) m d
enters_label xs x m d f label l e = rw (reverse-append xs (x ∷ []), label) ((sym l, sym e), rw (l, e) f)

pub enters_falls : (xs : List Layer) (x : Layer) (n : ℕ) → Falls (reverse xs) x.base → x.base ≤ n → Falls (reverse (xs ++ x ∷ [])) n
enters_falls xs x n f le = rw (reverse-append xs (x ∷ [])) (le, f)
