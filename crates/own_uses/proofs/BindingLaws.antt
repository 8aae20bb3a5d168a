-- The bindings of a scope that have an End, one after another, and what a closure literal captures.
use Rattle.std.proofs.Common.{◌≡◌, ℕ, ◌+◌, ◌<◌, Bool, true, false, if◌then◌else◌, Option, List, [], ◌∷◌, ◌++◌, map, drop, length, get_or, slice_get, refl, sym, ap, ◌∙◌, append_assoc, append-nil}
use Rattle.std.proofs.lemmas.List.{drop_more}
use Rattle.own_tree.specs.declared.op.OpKind.TheVariants as kind
use Rattle.own_tree.specs.declared.place.Binding.{Binding}
use Rattle.own_tree.specs.declared.typed.At.{At}
use Rattle.own_tree.specs.OpSource.{in_order}
use Rattle.own_paths.specs.Captures as paths
use Rattle.own_paths.specs.Ops.{op_of, ends, ended}
use Rattle.own_shapes.specs.Places.{whole}
use Rattle.own_shapes.specs.Spans.{opening}
use Rattle.own_within.specs.declared.captured.Captured.{Captured}
use Rattle.own_within.specs.View.{captured_seen}
use Rattle.own_uses.specs.Building.{captured_ops}

pub ended_more : (bindings : List Binding) (xs : List ℕ) (i d : ℕ) (there : Option Binding) (wanted : Bool) (old new all : List ℕ) → i < length xs
    → there ≡ slice_get bindings (get_or xs i d) → wanted ≡ ends there → new ≡ old ++ (if wanted then get_or xs i d ∷ [] else [])
    → old ++ ended bindings (drop i xs) ≡ all → new ++ ended bindings (drop (i + 1) xs) ≡ all
ended_more bindings xs i d there wanted old new all within at wants pushed so_far =
    let x = get_or xs i d in
    let rest = ended bindings (drop (i + 1) xs) in
    let here : ended bindings (drop i xs) ≡ (if wanted then x ∷ rest else rest) =
    ap (ended bindings) (drop_more xs i d within) ∙ ap (λ b. if b then x ∷ rest else rest) (sym (wants ∙ ap ends at)) in
    ap (λ ys. ys ++ rest) pushed ∙ joined wanted x old rest ∙ ap (λ ys. old ++ ys) (sym here) ∙ so_far
  where
    joined : (b : Bool) (x : ℕ) (xs ys : List ℕ) → (xs ++ (if b then x ∷ [] else [])) ++ ys ≡ xs ++ (if b then x ∷ ys else ys)
    joined true x xs ys = append_assoc xs (x ∷ []) ys
    joined false x xs ys = ap (λ zs. zs ++ ys) (append-nil xs)

pub captured_trees : (at : At) (cs : List Captured) → captured_ops at cs ≡ map (λ c. op_of kind.Capture (whole c.binding) (opening at.span) at.id) (captured_seen cs)
captured_trees at [] = refl
captured_trees at (c ∷ cs) = ap (λ ts. op_of kind.Capture (whole c.binding) (opening at.span) at.id ∷ ts) (captured_trees at cs)
