-- What the code's columns stand for, one cell after the other.
use Rattle.std.proofs.Common.{◌≡◌, ℕ, zero, suc, Bool, true, false, if◌then◌else◌, List, [], ◌∷◌, map, drop, length, Option, Some, None, option_copied, slice_get, ◌⊎◌, inl, inr, refl, sym, ap, ◌∙◌, arith, eq-eqb, take, Result, Ok, Err, IfOk}
use Rattle.std.proofs.lemmas.Option.{same_Some, none-some}
use Rattle.std.specs.Borrow.{Bor}
use Rattle.own_tree.specs.declared.pattern.TPattern.{TPattern}
use Rattle.own_tree.specs.declared.place.Ty.{Ty}
use Rattle.own_tree.specs.TypedSource.{any, of_case, pat}
use Rattle.own_tree.specs.TypedView.{pats_of, pattern_view}
use Rattle.own_shapes.specs.Types.{Shape, shapes_of}
use Rattle.own_match.specs.Forms.{part_at, part}
use Rattle.own_match.specs.declared.head.Head.{Head}
use Rattle.own_match.specs.Search.{narrowed, is_mentioned, parts_match_all, front, back, gathered}
use Rattle.own_match.proofs.Patterns.{case_view}
use Rattle.own_tree.specs.declared.pattern.TPattern
use Rattle.own_match.specs.View.{said, said_all}

part_got : (r : Option (Bor TPattern)) (ps : List TPattern) (i : ℕ) → option_copied r ≡ slice_get ps i → said r ≡ part_at (pats_of (map pattern_view ps)) i
part_got None [] i e = refl
part_got (Some p) [] i e = absurd (none-some _ (sym e))
part_got None (q ∷ ps) zero e = absurd (none-some _ e)
part_got (Some p) (q ∷ ps) zero e = ap pattern_view (same_Some _ _ e)
part_got None (q ∷ ps) (suc i) e = part_got None ps i e
part_got (Some p) (q ∷ ps) (suc i) e = part_got (Some p) ps i e

pub part_of_case : (r : Option (Bor TPattern)) (ps : List TPattern) (k i c : ℕ) → option_copied r ≡ slice_get ps i → c ≡ k → said r ≡ part k i (of_case c (pats_of (map pattern_view ps)))
part_of_case r ps k i c e same = part_got r ps i e ∙ sym (ap (λ b. if b then part_at (pats_of (map pattern_view ps)) i else any) (eq-eqb c k same))

-- ---- where one of two lists ends

pub narrowed_ends : (h : Head) (live : List Bool) (cells : List (Option (Bor TPattern))) → (length live ≡ 0) ⊎ (length cells ≡ 0) → narrowed h live (said_all cells) ≡ []
narrowed_ends h [] cells e = refl
narrowed_ends h (l ∷ live) [] e = refl
narrowed_ends h (l ∷ live) (p ∷ cells) (inl e) = absurd (omega (arith, e))
narrowed_ends h (l ∷ live) (p ∷ cells) (inr e) = absurd (omega (arith, e))

pub mentions_end : (h : Head) (live : List Bool) (cells : List (Option (Bor TPattern))) → (length live ≡ 0) ⊎ (length cells ≡ 0) → is_mentioned h live (said_all cells) ≡ false
mentions_end h [] cells e = refl
mentions_end h (l ∷ live) [] e = refl
mentions_end h (l ∷ live) (p ∷ cells) (inl e) = absurd (omega (arith, e))
mentions_end h (l ∷ live) (p ∷ cells) (inr e) = absurd (omega (arith, e))

pub parts_end : (shape_of : Ty → Shape) (tys : List Ty) (ps : List TPattern) → (length tys ≡ 0) ⊎ (length ps ≡ 0) → parts_match_all (shapes_of shape_of tys) (pats_of (map pattern_view ps)) ≡ true
parts_end shape_of tys [] e = refl
parts_end shape_of [] (p ∷ ps) e = refl
parts_end shape_of (ty ∷ tys) (p ∷ ps) (inl e) = absurd (omega (arith, e))
parts_end shape_of (ty ∷ tys) (p ∷ ps) (inr e) = absurd (omega (arith, e))

-- ---- the forms of a case's payloads, and the others

pub front_taken : (n : ℕ) (xs : List TPattern) → front n (pats_of (map pattern_view xs)) ≡ pats_of (map pattern_view (take n xs))
front_taken zero xs = refl
front_taken (suc n) [] = refl
front_taken (suc n) (x ∷ xs) = ap (pat (pattern_view x)) (front_taken n xs)

pub back_left : (n : ℕ) (xs : List TPattern) → back n (pats_of (map pattern_view xs)) ≡ pats_of (map pattern_view (drop n xs))
back_left zero xs = refl
back_left (suc n) [] = refl
back_left (suc n) (x ∷ xs) = back_left n xs

pub on_ok : {A E : Type 0} (P Q : A → Type 0) → ((x : A) → P x → Q x) → (r : Result A E) → IfOk r P → IfOk r Q
on_ok P Q f (Ok x) h = f x h
on_ok P Q f (Err e) h = tt

pub gathered_forms : (k n : ℕ) (xs taken rest : List TPattern) → taken ≡ take n xs → rest ≡ drop n xs
    → Some (pat (pattern_view (TPattern.TheVariants.Case k taken)) (pats_of (map pattern_view rest))) ≡ gathered k n (Some (pats_of (map pattern_view xs)))
gathered_forms k n xs taken rest e f =
    ap (λ p. Some (pat p (pats_of (map pattern_view rest)))) (case_view k taken ∙ ap (λ ys. of_case k (pats_of (map pattern_view ys))) e ∙ ap (of_case k) (sym (front_taken n xs)))
    ∙ ap (λ r. Some (pat (of_case k (front n (pats_of (map pattern_view xs)))) r)) (ap (λ ys. pats_of (map pattern_view ys)) f ∙ sym (back_left n xs))
