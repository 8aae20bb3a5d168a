-- A part of a leaf has no leaf at its place or below it.
use Rattle.std.proofs.Common.{◌≡◌, ℕ, Bool, true, false, ◌||◌, ◌==◌, not, List, [], ◌∷◌, inl, inr, refl, sym, ◌∙◌, subst}
use Rattle.std.specs.Prelude.{IsTrue, if◌then◌else◌}
use Rattle.std.proofs.lemmas.Bool.{and_from, and_parts, eqb-true, eq-eqb}
use Rattle.own_paths.specs.Laws.{PartsOfLeavesHaveNone}
use Rattle.own_tree.specs.declared.place.Binding.{Binding}
use Rattle.own_tree.specs.declared.place.Place.{Place}
use Rattle.own_paths.specs.Fixed.{binding_leaves, is_self_in_init, is_consume, lies_in_leaf, place_of}
use Rattle.own_shapes.specs.Places.{is_prefix, covers, is_strictly_above}
use Rattle.own_shapes.specs.Types.{Types, leaves, opened_leaves}
use Rattle.own_paths.proofs.Every.{IsSo}
use Rattle.own_shapes.proofs.Lists.{In, in_contains}
use Rattle.own_shapes.proofs.Leaves.{Apart, leaves_apart, opened_apart}

prefix_on : (ps qs rs : List ℕ) → IsTrue (is_prefix ps qs) → IsTrue (is_prefix qs rs) → IsTrue (is_prefix ps rs)
prefix_on [] qs rs a b = refl
prefix_on (p ∷ ps) [] rs a b = absurd (subst IsSo (sym a) tt)
prefix_on (p ∷ ps) (q ∷ qs) [] a b = absurd (subst IsSo (sym b) tt)
prefix_on (p ∷ ps) (q ∷ qs) (r ∷ rs) a b =
    let c = and_parts (p == q) (is_prefix ps qs) a in
    let d = and_parts (q == r) (is_prefix qs rs) b in
    and_from (p == r) (is_prefix ps rs) (eq-eqb p r (eqb-true p q c.0 ∙ eqb-true q r d.0)) (prefix_on ps qs rs c.1 d.1)

-- the leaf that a place lies strictly in
above : (p : Place) (ls : List (List ℕ)) → IsTrue (lies_in_leaf p ls) → (l : List ℕ) × In ls l × IsTrue (is_strictly_above (place_of p.binding l) p)
above p [] h = absurd (subst IsSo (sym h) tt)
above p (l ∷ ls) h = cases (is_strictly_above (place_of p.binding l) p) refl (above p ls)
  where
    cases : (b : Bool) → is_strictly_above (place_of p.binding l) p ≡ b → (IsTrue (lies_in_leaf p ls) → (l' : List ℕ) × In ls l' × IsTrue (is_strictly_above (place_of p.binding l') p)) → (l' : List ℕ) × In (l ∷ ls) l' × IsTrue (is_strictly_above (place_of p.binding l') p)
    cases true e deeper = (l, inl refl, e)
    cases false e deeper = let r = deeper (subst (λ b. (b || lies_in_leaf p ls) ≡ true) e h) in (r.0, inr r.1, r.2)

binding_apart : (types : Types) (b : Binding) → Apart (binding_leaves types b)
binding_apart types b = by_mode (is_self_in_init b.mode)
  where
    by_mode : (c : Bool) → Apart (if c then opened_leaves (types.shape b.ty) else leaves (types.shape b.ty))
    by_mode true = opened_apart (types.shape b.ty)
    by_mode false = leaves_apart (types.shape b.ty)

pub parts_of_leaves_have_none : PartsOfLeavesHaveNone
parts_of_leaves_have_none types k b o leaf breaks i = cases (covers o.place (place_of o.place.binding leaf)) refl
  where
    at : (l : List ℕ) × In (binding_leaves types b) l × IsTrue (is_strictly_above (place_of o.place.binding l) o.place)
    at = above o.place (binding_leaves types b) (and_parts (is_consume o.kind) (lies_in_leaf o.place (binding_leaves types b)) breaks).1

    cases : (c : Bool) → covers o.place (place_of o.place.binding leaf) ≡ c → covers o.place (place_of o.place.binding leaf) ≡ false
    cases false e = e
    cases true e =
        let h = place_of o.place.binding at.0 in
        let both = and_parts (covers h o.place) (not (covers o.place h)) at.2 in
        let down = (and_parts (o.place.binding == o.place.binding) (is_prefix at.0 o.place.fields) both.0).1 in
        let on = (and_parts (o.place.binding == o.place.binding) (is_prefix o.place.fields leaf) e).1 in
        let same : at.0 ≡ leaf = binding_apart types b at.0 leaf at.1 (in_contains (binding_leaves types b) leaf i) (prefix_on at.0 o.place.fields leaf down on) in
        absurd (subst (λ c. IsSo (not c)) (subst (λ l. covers o.place (place_of o.place.binding l) ≡ true) (sym same) e) (subst IsSo (sym both.1) tt))
