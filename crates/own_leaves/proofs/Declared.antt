-- Turns of the loops over leaves, stored properties and bindings.
use Rattle.std.proofs.Common.{◌≡◌, ℕ, zero, suc, ◌+◌, ◌≤◌, Bool, true, false, ◌==◌, ◌||◌, ◌&&◌, not, cond, List, [], ◌∷◌, ◌++◌, length, map, drop, slice_get, Some, refl, sym, ap, ◌∙◌, arith, append_assoc, eq-eqb}
use Rattle.std.proofs.Math.ListN.{drop_of_length-le}
use Rattle.std.proofs.lemmas.List.{map-append}
use Rattle.own_tree.specs.declared.place.Binding.{Binding}
use Rattle.own_tree.specs.declared.place.Place.{Place}
use Rattle.own_shapes.specs.declared.info.FieldInfo.{FieldInfo}
use Rattle.own_paths.specs.Fixed.{binding_leaves, place_of, lies_in_leaf}
use Rattle.own_paths.specs.Makers.{leaves_declared}
use Rattle.own_shapes.specs.Places.{is_prefix, is_strictly_above}
use Rattle.own_shapes.specs.Types.{Types, leaves, leaves_from, shapes_of, field_types}

-- ---- lists

pub nothing_more : {A : Type 0} (xs : List A) → xs ++ [] ≡ xs
nothing_more [] = refl
nothing_more (x ∷ xs) = ap (λ l. x ∷ l) (nothing_more xs)

drop_first : {A : Type 0} (xs : List A) (k : ℕ) (x : A) → slice_get xs k ≡ Some x → drop k xs ≡ x ∷ drop (suc k) xs
drop_first [] k x e = cc
drop_first (y ∷ xs) zero x e = let is : y ≡ x = cc in ap (λ z. z ∷ xs) is
drop_first (y ∷ xs) (suc k) x e = drop_first xs k x e

-- what comes from an element on
pub drop_at : {A : Type 0} (xs : List A) (k : ℕ) (x : A) → slice_get xs k ≡ Some x → drop k xs ≡ x ∷ drop (k + 1) xs
drop_at xs k x e = let next : suc k ≡ k + 1 = omega arith in drop_first xs k x e ∙ ap (λ n. x ∷ drop n xs) next

-- one element more is mapped
pub map_step : {A B : Type 0} (f : A → B) (xs : List A) (done : List B) (k : ℕ) (x : A) → slice_get xs k ≡ Some x
    → (done ++ f x ∷ []) ++ map f (drop (k + 1) xs) ≡ done ++ map f (drop k xs)
map_step f xs done k x e = append_assoc done (f x ∷ []) (map f (drop (k + 1) xs)) ∙ ap (λ l. done ++ map f l) (sym (drop_at xs k x e))

pub map_end : {A B : Type 0} (f : A → B) (xs : List A) (done : List B) (k : ℕ) → length xs ≤ k → done ++ map f (drop k xs) ≡ done
map_end f xs done k h = ap (λ l. done ++ map f l) (drop_of_length-le xs h) ∙ nothing_more done

-- ---- stored properties

map_below : {A B C : Type 0} (g : B → C) (f : A → B) (xs : List A) → map g (map f xs) ≡ map (λ x. g (f x)) xs
map_below g f [] = refl
map_below g f (x ∷ xs) = ap (λ l. g (f x) ∷ l) (map_below g f xs)

-- the leaves of the properties from number k on, as places
abbrev pub property_leaves : Types → ℕ → ℕ → List FieldInfo → List Place
property_leaves types x k fs = map (place_of x) (leaves_from k (shapes_of types.shape (field_types fs)))

pub property_step : (types : Types) (x k : ℕ) (fs : List FieldInfo) (done : List Place) (f : FieldInfo) → slice_get fs k ≡ Some f
    → (done ++ map (λ path. place_of x ((k ∷ []) ++ path)) (leaves (types.shape f.ty))) ++ property_leaves types x (k + 1) (drop (k + 1) fs)
    ≡ done ++ property_leaves types x k (drop k fs)
property_step types x k fs done f e =
    let mine = map (λ path. k ∷ path) (leaves (types.shape f.ty)) in
    let rest = leaves_from (suc k) (shapes_of types.shape (field_types (drop (k + 1) fs))) in
    append_assoc done (map (λ path. place_of x ((k ∷ []) ++ path)) (leaves (types.shape f.ty))) (property_leaves types x (k + 1) (drop (k + 1) fs))
    ∙ ap (λ l. done ++ l)
    (ap (λ l. l ++ property_leaves types x (k + 1) (drop (k + 1) fs)) (sym (map_below (place_of x) (λ path. k ∷ path) (leaves (types.shape f.ty))))
    ∙ ap (λ n. map (place_of x) mine ++ property_leaves types x n (drop (k + 1) fs)) (let next : k + 1 ≡ suc k = omega arith in next)
    ∙ sym (map-append (place_of x) mine rest)
    ∙ ap (λ l. property_leaves types x k l) (sym (drop_at fs k f e)))

pub property_end : (types : Types) (x k : ℕ) (fs : List FieldInfo) (done : List Place) → length fs ≤ k → done ++ property_leaves types x k (drop k fs) ≡ done
property_end types x k fs done h = ap (λ l. done ++ property_leaves types x k l) (drop_of_length-le fs h) ∙ nothing_more done

-- ---- bindings

module _ (types : Types) (body : ℕ) where
  abbrev chosen : Bool → ℕ → Binding → List Place
  chosen c x b = cond c (map (place_of x) (binding_leaves types b)) []

  declared_first : (x : ℕ) (b : Binding) (bs : List Binding) → leaves_declared types body x (b ∷ bs) ≡ chosen (b.body == body) x b ++ leaves_declared types body (suc x) bs
  declared_first x b bs = go (b.body == body)
    where
      go : (c : Bool) → cond c (map (place_of x) (binding_leaves types b) ++ leaves_declared types body (suc x) bs) (leaves_declared types body (suc x) bs)
          ≡ chosen c x b ++ leaves_declared types body (suc x) bs
      go true = refl
      go false = refl

  -- one binding more, by whether the body declares it
  pub binding_step : (c : Bool) (x : ℕ) (bs : List Binding) (done : List Place) (b : Binding) → slice_get bs x ≡ Some b → (b.body == body) ≡ c
      → (done ++ chosen c x b) ++ leaves_declared types body (x + 1) (drop (x + 1) bs) ≡ done ++ leaves_declared types body x (drop x bs)
  binding_step c x bs done b e is =
      append_assoc done (chosen c x b) (leaves_declared types body (x + 1) (drop (x + 1) bs))
      ∙ ap (λ l. done ++ l)
      (ap (λ d. chosen d x b ++ leaves_declared types body (x + 1) (drop (x + 1) bs)) (sym is)
      ∙ ap (λ n. chosen (b.body == body) x b ++ leaves_declared types body n (drop (x + 1) bs)) (let next : x + 1 ≡ suc x = omega arith in next)
      ∙ sym (declared_first x b (drop (x + 1) bs))
      ∙ ap (λ l. leaves_declared types body x l) (sym (drop_at bs x b e)))

  pub binding_end : (x : ℕ) (bs : List Binding) (done : List Place) → length bs ≤ x → done ++ leaves_declared types body x (drop x bs) ≡ done
  binding_end x bs done h = ap (λ l. done ++ leaves_declared types body x l) (drop_of_length-le bs h) ∙ nothing_more done

-- ---- parts of leaves

-- fields that lead to a part of a leaf
pub above_is : (p : Place) (leaf : List ℕ) → is_strictly_above (place_of p.binding leaf) p ≡ (is_prefix leaf p.fields && not (is_prefix p.fields leaf))
above_is p leaf = ap (λ c. (c && is_prefix leaf p.fields) && not (c && is_prefix p.fields leaf)) (eq-eqb p.binding p.binding refl)

lies_first : (p : Place) (leaf : List ℕ) (ls : List (List ℕ)) (c : Bool) → c ≡ (is_prefix leaf p.fields && not (is_prefix p.fields leaf)) → lies_in_leaf p (leaf ∷ ls) ≡ (c || lies_in_leaf p ls)
lies_first p leaf ls c is = ap (λ d. d || lies_in_leaf p ls) (above_is p leaf ∙ sym is)

-- one leaf more, by whether the place lies below it
pub lies_more : (p : Place) (ls : List (List ℕ)) (k : ℕ) (leaf : List ℕ) (c : Bool) → slice_get ls k ≡ Some leaf → c ≡ (is_prefix leaf p.fields && not (is_prefix p.fields leaf))
    → lies_in_leaf p (drop k ls) ≡ (c || lies_in_leaf p (drop (k + 1) ls))
lies_more p ls k leaf c e is = ap (λ l. lies_in_leaf p l) (drop_at ls k leaf e) ∙ lies_first p leaf (drop (k + 1) ls) c is

pub lies_end : (p : Place) (ls : List (List ℕ)) (k : ℕ) → length ls ≤ k → lies_in_leaf p (drop k ls) ≡ false
lies_end p ls k h = ap (λ l. lies_in_leaf p l) (drop_of_length-le ls h)
