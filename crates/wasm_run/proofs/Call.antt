-- A call of a function.
use Rattle.std.proofs.Common.{◌≡◌, ℕ, ◌+◌, ◌-◌, ◌≤◌, ◌<◌, true, false, ltb, List, [], ◌∷◌, ◌++◌, length, take, drop, reverse, refl, sym, ap, ◌∙◌, arith}
use Rattle.std.proofs.lemmas.List.{reverse-append, append_assoc, take-take, length-take}
use Rattle.std.proofs.Math.ListN.{drop_of_length-le}
use Rattle.std.proofs.Math.Seq.{take-append_seam, drop-append_seam}
use Rattle.std.proofs.lemmas.Bool.{le-ltb, lt-ltb}
use Rattle.wasm_form.specs.declared.types.Value.{Value}
use Rattle.wasm_form.specs.declared.types.FunctionType.{FunctionType}
use Rattle.wasm_form.specs.declared.limits.TheConstants.{MOST_FRAMES}
use Rattle.wasm_form.specs.declared.module.CodeEntry.{CodeEntry}
use Rattle.wasm_form.specs.declared.instr.Instr.{Instr}
use Rattle.wasm_run.specs.declared.state.Layer.{Layer}
use Rattle.wasm_run.specs.declared.state.State.TheInside.{Inside}
use Rattle.wasm_form.specs.Steps.{Goes, Traps, typed, zeros, called, frames}
use Rattle.wasm_run.specs.Views.{view_of, IsSound, layers_of}
use Rattle.wasm_run.proofs.Find.{frames_are}
use Rattle.wasm_run.proofs.Args.{args_are, rest_is}

module _ (s : Inside) (t : FunctionType) (f : CodeEntry) (sound : IsSound s) (yes : typed (reverse (take (length t.parameters) (reverse (drop s.base s.values.items)))) t.parameters ≡ true) where
  count : frames (view_of s).layers ≡ s.depth
  count = frames_are (reverse s.layers.items) (take s.base s.values.items) (take s.locals_base s.locals.items) s.locals_base s.depth sound.locals_fall

  pub too_deep : MOST_FRAMES ≤ s.depth → called t f (view_of s) ≡ Traps 3 0
  unfolding called
  too_deep le =
      let n = count in
      let few : ltb (frames (view_of s).layers) MOST_FRAMES ≡ false = le-ltb _ _ (omega arith) in
      rw (yes, few) refl

  pub enters_function : (start lb : ℕ) (body : List Instr) (x : Layer) (vals locs : List Value) (lays : List Layer) → lb ≡ length s.locals.items → body ≡ f.body → s.depth < MOST_FRAMES → s.base + length t.parameters ≤ length s.values.items → start ≡ length s.values.items - length t.parameters
      → x ≡ record { after = s.code; target = s.code; base = s.base; result = t.result; is_frame = true; locals = s.locals_base; depth = s.depth }
      → vals ≡ take start s.values.items → lays ≡ s.layers.items ++ x ∷ [] → locs ≡ s.locals.items ++ drop start s.values.items ++ zeros f.locals
      → called t f (view_of s) ≡ Goes (record { code = body; values = reverse (drop start vals); layers = layers_of (reverse lays) (take start vals) (take lb locs); locals = drop lb locs; globals = s.globals.items; table = s.table.items; memory = s.memory.items; input = s.input.now })
  unfolding called
  enters_function start lb body x vals locs lays lbe be lt enough st xe ve le lo =
      let n = count in
      let few : ltb (frames (view_of s).layers) MOST_FRAMES ≡ true = lt-ltb _ _ (omega arith) in
      let vs = s.values.items in
      let ls = s.locals.items in
      let zs : List Value = zeros f.locals in
      let X : Layer = record { after = s.code; target = s.code; base = s.base; result = t.result; is_frame = true; locals = s.locals_base; depth = s.depth } in
      let b_le : s.base ≤ start = omega arith in
      let e1 : drop start (take start vs) ≡ [] = drop_of_length-le (take start vs) (omega (arith, length-take start vs)) in
      let e2 : take start (take start vs) ≡ take start vs = take-take start start vs (omega arith) in
      let e3 : reverse (s.layers.items ++ X ∷ []) ≡ X ∷ reverse s.layers.items = reverse-append s.layers.items (X ∷ []) in
      let a1 : (ls ++ drop start vs) ++ zs ≡ ls ++ (drop start vs ++ zs) = append_assoc ls (drop start vs) zs in
      let e4 : take (length ls) (ls ++ (drop start vs ++ zs)) ≡ ls = take-append_seam ls (drop start vs ++ zs) in
      let e5 : drop (length ls) (ls ++ (drop start vs ++ zs)) ≡ drop start vs ++ zs = drop-append_seam ls (drop start vs ++ zs) in
      let e6 : drop (length t.parameters) (reverse (drop s.base vs)) ≡ reverse (drop s.base (take start vs)) = rest_is s.base (length t.parameters) vs enough ∙ ap (λ n. reverse (drop s.base (take n vs))) (sym st) in
      let e7 : take s.base (take start vs) ≡ take s.base vs = take-take s.base start vs b_le in
      let e8 : reverse (take (length t.parameters) (reverse (drop s.base vs))) ≡ drop start vs = args_are s.base (length t.parameters) vs enough ∙ ap (λ n. drop n vs) (sym st) in
      rw (yes, few, lbe, be, ve, le, lo, xe, e3, a1, e4, e5, e6, e8, e1, e2, e7) refl
