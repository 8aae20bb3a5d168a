-- What a body mentions that it does not declare.
use Rattle.std.proofs.Common.{◌≡◌, ℕ, zero, suc, ◌+◌, ◌-◌, ◌<◌, Bool, true, false, if◌then◌else◌, Option, Some, None, List, [], ◌∷◌, ◌++◌, map, drop, length, get_or, slice_get, option_map, refl, sym, ap, ◌∙◌, arith, append_assoc, append-nil}
use Rattle.std.proofs.lemmas.List.{drop_more}
use Rattle.std.proofs.lemmas.Option.{slice_get-map}
use Rattle.own_tree.specs.declared.place.Binding.{Binding}
use Rattle.own_tree.specs.declared.typed.Body.{Body}
use Rattle.own_tree.specs.declared.typed.Typed.{Typed}
use Rattle.own_tree.specs.TypedSource.{TBody}
use Rattle.own_tree.specs.TypedView.{block_view, body_view, program_view}
use Rattle.own_paths.specs.Captures as paths
use Rattle.own_paths.specs.Captures.{block_mentions, is_elsewhere, declared_elsewhere, outer_mentions}
use Rattle.own_within.specs.declared.captured.Captured.{Captured}
use Rattle.own_within.specs.View.{captured_view, captured_seen}

module _ (bindings : List Binding) (body : ℕ) where
  -- with one more mention, which is added where another body declares it
  pub elsewhere_more : (ms : List Captured) (i : ℕ) (d : Captured) (there : Option Binding) (wanted : Bool) (old new all : List paths.Captured) → i < length ms
      → there ≡ slice_get bindings (get_or ms i d).binding → wanted ≡ is_elsewhere body there
      → new ≡ old ++ (if wanted then captured_view (get_or ms i d) ∷ [] else [])
      → old ++ declared_elsewhere bindings body (captured_seen (drop i ms)) ≡ all → new ++ declared_elsewhere bindings body (captured_seen (drop (i + 1) ms)) ≡ all
  elsewhere_more ms i d there wanted old new all within at wants pushed so_far =
      let m = captured_view (get_or ms i d) in
      let rest = declared_elsewhere bindings body (captured_seen (drop (i + 1) ms)) in
      let here : declared_elsewhere bindings body (captured_seen (drop i ms)) ≡ (if wanted then m ∷ rest else rest) =
      ap (λ xs. declared_elsewhere bindings body (captured_seen xs)) (drop_more ms i d within)
      ∙ ap (λ b. if b then m ∷ rest else rest) (sym (wants ∙ ap (is_elsewhere body) at)) in
      ap (λ xs. xs ++ rest) pushed ∙ joined wanted m old rest ∙ ap (λ xs. old ++ xs) (sym here) ∙ so_far
    where
      joined : (b : Bool) (x : paths.Captured) (xs ys : List paths.Captured) → (xs ++ (if b then x ∷ [] else [])) ++ ys ≡ xs ++ (if b then x ∷ ys else ys)
      joined true x xs ys = append_assoc xs (x ∷ []) ys
      joined false x xs ys = ap (λ zs. zs ++ ys) (append-nil xs)

-- what a body mentions, where closures are nested one level deeper
pub outer_at : (typed : Typed) (depth number : ℕ) (b : Body) → (depth ≡ 0 → ⊥) → slice_get typed.bodies number ≡ Some b
    → outer_mentions (program_view typed) depth number
    ≡ declared_elsewhere typed.bindings number (block_mentions (outer_mentions (program_view typed) (depth - 1)) (block_view b.block))
outer_at typed zero number b some at = absurd (some refl)
outer_at typed (suc depth) number b some at =
    let less : suc depth - 1 ≡ depth = omega arith in
    let found : slice_get (map body_view typed.bodies) number ≡ Some (body_view b) = slice_get-map body_view typed.bodies number ∙ ap (option_map body_view) at in
    ap (λ (o : Option TBody). elim o as (λ o. List paths.Captured) [
      | None ↦ []
      | Some body ↦ declared_elsewhere typed.bindings number (block_mentions (outer_mentions (program_view typed) depth) body.block)
    ]) found
    ∙ ap (λ (n : ℕ). declared_elsewhere typed.bindings number (block_mentions (outer_mentions (program_view typed) n) (block_view b.block))) (sym less)

-- what no body mentions
pub outer_none : (typed : Typed) (depth number : ℕ) → slice_get typed.bodies number ≡ None → outer_mentions (program_view typed) depth number ≡ []
outer_none typed zero number at = refl
outer_none typed (suc depth) number at =
    let found : slice_get (map body_view typed.bodies) number ≡ None = slice_get-map body_view typed.bodies number ∙ ap (option_map body_view) at in
    ap (λ (o : Option TBody). elim o as (λ o. List paths.Captured) [
      | None ↦ []
      | Some body ↦ declared_elsewhere typed.bindings number (block_mentions (outer_mentions (program_view typed) depth) body.block)
    ]) found
