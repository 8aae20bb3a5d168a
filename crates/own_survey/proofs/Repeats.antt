-- A set of names finds the first that stood before.
use Rattle.std.proofs.Common.{◌≡◌, ℕ, suc, ◌<◌, Bool, true, false, List, [], ◌∷◌, ◌++◌, map, length, take, drop, get_or, Some, refl, sym, ap, ◌∙◌}
use Rattle.std.specs.Prelude.{not}
use Rattle.std.specs.Borrow.{Bor}
use Rattle.std.specs.List.{list_any}
use Rattle.std.specs.Str.{bytes_eq}
use Rattle.std.proofs.Math.Seq.{take-suc, drop-cons}
use Rattle.std.proofs.lemmas.List.{map-append}
use Rattle.own_tree.specs.declared.tree.Name.{Name}
use Rattle.own_survey.specs.Judgements.{repeated, repeated_after}

abbrev pub names_of : List (Bor Name) → List Name
names_of ns = map (λ n. n.now) ns

any_map : {A B : Type 0} (p : B → Bool) (f : A → B) (xs : List A) → list_any p (map f xs) ≡ list_any (λ x. p (f x)) xs
any_map p f [] = refl
any_map p f (x ∷ xs) = rw (any_map p f xs) refl

-- keys that are the texts of names
found_is : (v : List ℕ) (keys : List (Bor (List ℕ))) (ns : List (Bor Name)) → map (λ k. k.now) keys ≡ map (λ n. n.now.text) ns
    → list_any (λ k. bytes_eq v k.now) keys ≡ list_any (λ b. bytes_eq v b.text) (names_of ns)
found_is v keys ns e =
    sym (any_map (bytes_eq v) (λ (k : Bor (List ℕ)). k.now) keys) ∙ ap (list_any (bytes_eq v)) e
    ∙ any_map (bytes_eq v) (λ (n : Bor Name). n.now.text) ns ∙ sym (any_map (λ (b : Name). bytes_eq v b.text) (λ (n : Bor Name). n.now) ns)

pub not_not : (b c : Bool) → c ≡ not b → (c ≡ false → b ≡ true) × (c ≡ true → b ≡ false)
not_not true c e = (λ f. refl, λ f. absurd cc)
not_not false c e = (λ f. absurd cc, λ f. refl)

module _ (names : List (Bor Name)) (i : ℕ) (n : Bor Name) (lt : i < length names) (is : n ≡ get_or names i n) (keys : List (Bor (List ℕ))) (same : map (λ k. k.now) keys ≡ map (λ m. m.now.text) (take i names))
    (whole : repeated (names_of names) ≡ repeated_after (names_of (take i names)) (names_of (drop i names))) where
  rest : drop i names ≡ n ∷ drop (suc i) names
  rest = drop-cons names i n lt ∙ ap (λ m. m ∷ drop (suc i) names) (sym is)

  one_more : take (suc i) names ≡ take i names ++ n ∷ []
  one_more = take-suc names i n lt ∙ ap (λ m. take i names ++ m ∷ []) (sym is)

  found : list_any (λ k. bytes_eq n.now.text k.now) keys ≡ list_any (λ b. bytes_eq n.now.text b.text) (names_of (take i names))
  found = found_is n.now.text keys (take i names) same

  -- a name that stood before
  pub again : (added : Bool) → added ≡ not (list_any (λ k. bytes_eq n.now.text k.now) keys) → added ≡ false → Some n.now.span ≡ repeated (names_of names)
  again added answer had =
      let seen = sym found ∙ (not_not _ added answer).0 had in
      sym (whole ∙ rw (rest, seen) refl)

  -- one that did not
  pub onward : (added : Bool) (v : Bor (List ℕ)) → v.now ≡ n.now.text → added ≡ not (list_any (λ k. bytes_eq n.now.text k.now) keys) → added ≡ true
      → (map (λ k. k.now) (keys ++ v ∷ []) ≡ map (λ m. m.now.text) (take (suc i) names))
      × (repeated (names_of names) ≡ repeated_after (names_of (take (suc i) names)) (names_of (drop (suc i) names)))
  onward added v named answer new =
      let unseen = sym found ∙ (not_not _ added answer).1 new in (
        map-append (λ (k : Bor (List ℕ)). k.now) keys (v ∷ []) ∙ rw (same, named, one_more) (sym (map-append (λ (m : Bor Name). m.now.text) (take i names) (n ∷ []))),
        whole ∙ rw (rest, unseen, one_more, map-append (λ (m : Bor Name). m.now) (take i names) (n ∷ [])) refl,
      )
