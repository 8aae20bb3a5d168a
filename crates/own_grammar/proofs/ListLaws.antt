-- Lists of parts: what is spelled is read, or too deep, and what is read is spelled.
use Rattle.std.proofs.Common.{◌≡◌, ℕ, zero, suc, ◌≤◌, ◌<◌, Bool, cond, true, false, List, [], ◌∷◌, ◌++◌, length, Some, Ok, Err, ◌⊎◌, inl, inr, refl, sym, ap, ◌∙◌, append_assoc, arith}
use Rattle.std.proofs.lemmas.List.{append-nil}
use Rattle.own_tree.specs.declared.token.Kind.TheVariants as kind
use Rattle.own_tree.specs.declared.token.Mark.TheVariants as mark
use Rattle.own_grammar.specs.Tests.{Toks, after, kind_at, is_mark}
use Rattle.own_grammar.specs.Spells.{Sep}
use Rattle.own_grammar.specs.Reading.{Depth, Read, ◌>>=◌, syntax_at, sep_at}
use Rattle.own_grammar.specs.Lists.{Listed, Bracketed, Separated, greatest, listed_at, listed_on, bracketed_with, separated_at, separated_on}
use Rattle.own_grammar.proofs.Facts.{mark_kind, at_mark}
use Rattle.own_grammar.proofs.Edges.{sep_is, sep_sound, sep_no_depth}
use Rattle.own_grammar.proofs.Lengths.{after_short, after_le, sep_le}
use Rattle.own_grammar.proofs.Steps.{done, bind_ok, ok_is, chosen, kept, bind_err, syn, no_ok, same, near_bind, near_cond, equal}

-- ---- with commas

module _ {A : Type 0} (S : A → Toks → Toks → Type 0) (item : Toks → Read A) (F : Toks → Type 0)
    (complete : (x : A) (from to : Toks) → S x from to → F to → item from ≡ Ok (x, to))
    (sound : (ts : Toks) (x : A × Toks) → item ts ≡ Ok x → S x.0 ts x.1)
    (le : (x : A) (from to : Toks) → S x from to → length to ≤ length from)
    (at_comma : (ts : Toks) → kind_at ts ≡ Some (kind.Mark mark.Comma) → F ts)
    (starts : (x : A) (from to : Toks) → S x from to → is_mark mark.CloseParen from ≡ false)
    (shallow : (ts : Toks) (n : ℕ) → item ts ≡ Err (Depth n) → ⊥) where
  listed_fuel : (f f' : ℕ) (found : List A) (ts : Toks) → length ts < f → length ts < f' → listed_at item f found ts ≡ listed_at item f' found ts
  unfolding listed_at
  listed_fuel zero f' found ts lf lf' = absurd (omega arith)
  listed_fuel (suc f) zero found ts lf lf' = absurd (omega arith)
  listed_fuel (suc f) (suc f') found ts lf lf' = equal _ _ (near_bind ⊥ (item ts) (item ts) _ _ (same refl) (λ x r. near_cond ⊥ (is_mark mark.Comma x.1) _ _ _ _
      (λ y. same (listed_fuel f f' (found ++ x.0 ∷ []) (after x.1) (let a = after_short x.1 _ (mark_kind mark.Comma x.1 y) in let b = le x.0 ts x.1 (sound ts x r) in omega arith) (let a = after_short x.1 _ (mark_kind mark.Comma x.1 y) in let b = le x.0 ts x.1 (sound ts x r) in omega arith)))
      (λ y. same refl)))

  pub listed_is : (found : List A) (ts : Toks) → listed_on item found ts ≡ (item ts >>= λ x. cond (is_mark mark.Comma x.1) (listed_on item (found ++ x.0 ∷ []) (after x.1)) (done (found ++ x.0 ∷ [], x.1)))
  unfolding listed_on listed_at
  listed_is found ts = equal _ _ (near_bind ⊥ (item ts) (item ts) _ _ (same refl) (λ x r. near_cond ⊥ (is_mark mark.Comma x.1) _ _ _ _
      (λ y. same (listed_fuel (length ts) (suc (length (after x.1))) (found ++ x.0 ∷ []) (after x.1) (let a = after_short x.1 _ (mark_kind mark.Comma x.1 y) in let b = le x.0 ts x.1 (sound ts x r) in omega arith) (omega arith)))
      (λ y. same refl)))

  pub listed_complete : (x : A) (xs found : List A) (from to : Toks) → Listed S (x ∷ xs) from to → F to → is_mark mark.Comma to ≡ false → listed_on item found from ≡ Ok (found ++ x ∷ xs, to)
  listed_complete x [] found from to sp f comma = rw (listed_is found from, complete x from to sp f, comma) refl
  listed_complete x (y ∷ ys) found from to (mid, sp, comma, sps) f end =
      rw (listed_is found from, complete x from mid sp (at_comma mid comma), at_mark mark.Comma mid _ comma, listed_complete y ys (found ++ x ∷ []) (after mid) to sps f end)
      (ap (λ (zs : List A). Ok (zs, to)) (append_assoc found (x ∷ []) (y ∷ ys)))

  abbrev ListedRead : List A → Toks → List A × Toks → Type 0
  ListedRead found ts y = (x : A) × (xs : List A) × (y.0 ≡ found ++ x ∷ xs) × Listed S (x ∷ xs) ts y.1

  listed_sound_at : (f : ℕ) (found : List A) (ts : Toks) (y : List A × Toks) → listed_at item f found ts ≡ Ok y → ListedRead found ts y
  unfolding listed_at
  listed_sound_at zero found ts y e = absurd cc
  listed_sound_at (suc f) found ts y e =
      let a = bind_ok (item ts) (λ x. cond (is_mark mark.Comma x.1) (listed_at item f (found ++ x.0 ∷ []) (after x.1)) (done (found ++ x.0 ∷ [], x.1))) y e in
      let s = sound ts a.0 a.1 in
      elim (chosen (is_mark mark.Comma a.0.1) (listed_at item f (found ++ a.0.0 ∷ []) (after a.0.1)) (done (found ++ a.0.0 ∷ [], a.0.1)) _ a.2) [
        | inl z ↦ (
            let r = listed_sound_at f (found ++ a.0.0 ∷ []) (after a.0.1) y z.1 in
            (a.0.0, r.0 ∷ r.1, r.2 ∙ append_assoc found (a.0.0 ∷ []) (r.0 ∷ r.1), (a.0.1, s, mark_kind mark.Comma a.0.1 z.0, r.3)))
        | inr z ↦ rw (← ok_is (found ++ a.0.0 ∷ [], a.0.1) y z.1) (a.0.0, [], refl, s)
      ]

  pub listed_sound : (found : List A) (ts : Toks) (y : List A × Toks) → listed_on item found ts ≡ Ok y → ListedRead found ts y
  unfolding listed_on
  listed_sound found ts y e = listed_sound_at (suc (length ts)) found ts y e

  listed_shallow_at : (f : ℕ) (found : List A) (ts : Toks) (n : ℕ) → listed_at item f found ts ≡ Err (Depth n) → ⊥
  unfolding listed_at
  listed_shallow_at zero found ts n e = absurd cc
  listed_shallow_at (suc f) found ts n e = elim (bind_err (item ts) (λ x. cond (is_mark mark.Comma x.1) (listed_at item f (found ++ x.0 ∷ []) (after x.1)) (done (found ++ x.0 ∷ [], x.1))) _ e) [
    | inl y ↦ shallow ts n y
    | inr y ↦ elim (chosen (is_mark mark.Comma y.0.1) (listed_at item f (found ++ y.0.0 ∷ []) (after y.0.1)) (done (found ++ y.0.0 ∷ [], y.0.1)) _ y.2) [
      | inl z ↦ listed_shallow_at f (found ++ y.0.0 ∷ []) (after y.0.1) n z.1
      | inr z ↦ no_ok _ n z.1
    ]
  ]

  pub listed_shallow : (found : List A) (ts : Toks) (n : ℕ) → listed_on item found ts ≡ Err (Depth n) → ⊥
  unfolding listed_on
  listed_shallow found ts n e = listed_shallow_at (suc (length ts)) found ts n e

  pub listed_le : (x : A) (xs : List A) (from to : Toks) → Listed S (x ∷ xs) from to → length to ≤ length from
  listed_le x [] from to sp = le x from to sp
  listed_le x (y ∷ ys) from to (mid, sp, comma, sps) = (let a = le x from mid sp in let b = after_le mid in let c = listed_le y ys (after mid) to sps in omega arith)

  listed_starts : (x : A) (xs : List A) (from to : Toks) → Listed S (x ∷ xs) from to → is_mark mark.CloseParen from ≡ false
  listed_starts x [] from to sp = starts x from to sp
  listed_starts x (y ∷ ys) from to (mid, sp, comma, sps) = starts x from mid sp

  -- ---- in parentheses

  pub bracketed_complete : (at_close : (ts : Toks) → kind_at ts ≡ Some (kind.Mark mark.CloseParen) → F ts) (xs : List A) (from last : Toks) → Bracketed S xs from last → bracketed_with item from ≡ Ok (xs, last)
  unfolding bracketed_with
  bracketed_complete at_close [] from last (lp, rp, is) = rw (at_mark mark.OpenParen from _ lp, ← is, at_mark mark.CloseParen last _ rp) refl
  bracketed_complete at_close (x ∷ xs) from last (lp, rp, sp) =
      rw (at_mark mark.OpenParen from _ lp, listed_starts x xs (after from) last sp, listed_complete x xs [] (after from) last sp (at_close last rp) (at_mark mark.Comma last _ rp), at_mark mark.CloseParen last _ rp) refl

  pub bracketed_sound : (ts : Toks) (y : List A × Toks) → bracketed_with item ts ≡ Ok y → Bracketed S y.0 ts y.1
  unfolding bracketed_with
  bracketed_sound ts y e =
      let q = kept (is_mark mark.OpenParen ts) (cond (is_mark mark.CloseParen (after ts)) (done ([], after ts)) (listed_on item [] (after ts) >>= λ xs. cond (is_mark mark.CloseParen xs.1) (done xs) (syntax_at xs.1))) _ y e in
      let lp = mark_kind mark.OpenParen ts q.0 in
      elim (chosen (is_mark mark.CloseParen (after ts)) (done ([], after ts)) (listed_on item [] (after ts) >>= λ xs. cond (is_mark mark.CloseParen xs.1) (done xs) (syntax_at xs.1)) _ q.1) [
        | inl z ↦ rw (← ok_is ([], after ts) y z.1) (lp, mark_kind mark.CloseParen (after ts) z.0, refl)
        | inr z ↦ (
            let l = bind_ok (listed_on item [] (after ts)) (λ xs. cond (is_mark mark.CloseParen xs.1) (done xs) (syntax_at xs.1)) y z.1 in
            let s = listed_sound [] (after ts) l.0 l.1 in
            let c = kept (is_mark mark.CloseParen l.0.1) (done l.0) _ y l.2 in
            rw (← ok_is l.0 y c.1, s.2) (lp, mark_kind mark.CloseParen l.0.1 c.0, s.3))
      ]

  pub bracketed_shallow : (ts : Toks) (n : ℕ) → bracketed_with item ts ≡ Err (Depth n) → ⊥
  unfolding bracketed_with
  bracketed_shallow ts n e =
      let q = syn (is_mark mark.OpenParen ts) (cond (is_mark mark.CloseParen (after ts)) (done ([], after ts)) (listed_on item [] (after ts) >>= λ xs. cond (is_mark mark.CloseParen xs.1) (done xs) (syntax_at xs.1))) _ n e in
      elim (chosen (is_mark mark.CloseParen (after ts)) (done ([], after ts)) (listed_on item [] (after ts) >>= λ xs. cond (is_mark mark.CloseParen xs.1) (done xs) (syntax_at xs.1)) _ q.1) [
        | inl z ↦ no_ok _ n z.1
        | inr z ↦ elim (bind_err (listed_on item [] (after ts)) (λ xs. cond (is_mark mark.CloseParen xs.1) (done xs) (syntax_at xs.1)) _ z.1) [
          | inl u ↦ listed_shallow [] (after ts) n u
          | inr u ↦ (let c = syn (is_mark mark.CloseParen u.0.1) (done u.0) _ n u.2 in no_ok _ n c.1)
        ]
      ]

  pub bracketed_le : (xs : List A) (from last : Toks) → Bracketed S xs from last → length last ≤ length from
  bracketed_le [] from last (lp, rp, is) = rw is (after_le from)
  bracketed_le (x ∷ xs) from last (lp, rp, sp) = (let a = after_le from in let b = listed_le x xs (after from) last sp in omega arith)

-- ---- each with its SEP

-- what reading says of a part that is spelled: the part, or that it is too deep
abbrev pub Told : {A : Type 0} → ℕ → ℕ → Read A → A → Toks → Type 0
Told most size r x to = ((size ≤ most) × (r ≡ Ok (x, to))) ⊎ ((most < size) × ((n : ℕ) × (r ≡ Err (Depth n))))

module _ {A : Type 0} (most : ℕ) (S : A → Toks → Toks → Type 0) (stops : Toks → Bool) (item : Toks → Read A) (size : A → ℕ) (F : Toks → Type 0)
    (complete : (x : A) (from to : Toks) → S x from to → F to → Told most (size x) (item from) x to)
    (sound : (ts : Toks) (x : A × Toks) → item ts ≡ Ok x → S x.0 ts x.1 × (size x.0 ≤ most))
    (short : (x : A) (from to : Toks) → S x from to → length to < length from)
    (at_semicolon : (ts : Toks) → kind_at ts ≡ Some (kind.Mark mark.Semicolon) → F ts)
    (at_part : (x : A) (from to : Toks) → S x from to → F from × (stops from ≡ false)) where
  separated_fuel : (f f' : ℕ) (found : List A) (ts : Toks) → length ts < f → length ts < f' → separated_at stops item f found ts ≡ separated_at stops item f' found ts
  unfolding separated_at
  separated_fuel zero f' found ts lf lf' = absurd (omega arith)
  separated_fuel (suc f) zero found ts lf lf' = absurd (omega arith)
  separated_fuel (suc f) (suc f') found ts lf lf' = equal _ _ (near_cond ⊥ (stops ts) _ _ _ _ (λ y. same refl) (λ y. near_bind ⊥ (item ts) (item ts) _ _ (same refl) (λ x r. near_bind ⊥ (sep_at true x.1) (sep_at true x.1) _ _ (same refl)
      (λ next s. (let a = short x.0 ts x.1 (sound ts x r).0 in let b = sep_le true x.1 next (sep_sound true x.1 next s) in same (separated_fuel f f' (found ++ x.0 ∷ []) next (omega arith) (omega arith)))))))

  pub separated_is : (found : List A) (ts : Toks) → separated_on stops item found ts ≡ cond (stops ts) (done (found, ts)) (item ts >>= λ x. sep_at true x.1 >>= λ next. separated_on stops item (found ++ x.0 ∷ []) next)
  unfolding separated_on separated_at
  separated_is found ts = equal _ _ (near_cond ⊥ (stops ts) _ _ _ _ (λ y. same refl) (λ y. near_bind ⊥ (item ts) (item ts) _ _ (same refl) (λ x r. near_bind ⊥ (sep_at true x.1) (sep_at true x.1) _ _ (same refl)
      (λ next s. (let a = short x.0 ts x.1 (sound ts x r).0 in let b = sep_le true x.1 next (sep_sound true x.1 next s) in same (separated_fuel (length ts) (suc (length next)) (found ++ x.0 ∷ []) next (omega arith) (omega arith)))))))

  follows_list : (xs : List A) (from last : Toks) → Separated S xs from last → F last → F from
  follows_list [] from last is f = rw (← is) f
  follows_list (x ∷ xs) from last (mid, next, sp, sep, sps) f = (at_part x from mid sp).0

  follows_sep : (xs : List A) (mid next last : Toks) → Sep true mid next → Separated S xs next last → F last → F mid
  follows_sep xs mid next last (inl (semi, is)) sps f = at_semicolon mid semi
  follows_sep xs mid next last (inr (en, isnt, is)) sps f = rw is at (follows_list xs next last sps f)

  abbrev ToldAll : List A → List A → Toks → Toks → Type 0
  ToldAll xs found from last = ((greatest size xs ≤ most) × (separated_on stops item found from ≡ Ok (found ++ xs, last))) ⊎ ((most < greatest size xs) × ((n : ℕ) × (separated_on stops item found from ≡ Err (Depth n))))

  told_more : (x : A) (xs found : List A) (from mid next last : Toks) → stops from ≡ false → sep_at true mid ≡ Ok next → Told most (size x) (item from) x mid → ToldAll xs (found ++ x ∷ []) next last → ToldAll (x ∷ xs) found from last
  told_more x xs found from mid next last go sep (inr w) rest = inr (omega (arith, w.0), (w.1.0, rw (separated_is found from, go, w.1.1) refl))
  told_more x xs found from mid next last go sep (inl (fit, e)) (inr w) = inr (omega (arith, w.0), (w.1.0, rw (separated_is found from, go, e, sep, w.1.1) refl))
  told_more x xs found from mid next last go sep (inl (fit, e)) (inl (fits, r)) = inl (omega (arith, fit, fits), rw (separated_is found from, go, e, sep, r) (ap (λ (zs : List A). Ok (zs, last)) (append_assoc found (x ∷ []) xs)))

  pub separated_complete : (xs found : List A) (from last : Toks) → Separated S xs from last → F last → stops last ≡ true → ToldAll xs found from last
  separated_complete [] found from last is f stop = inl (omega arith, rw (separated_is found from, ← is, stop) (ap (λ (zs : List A). Ok (zs, last)) (sym (append-nil found))))
  separated_complete (x ∷ xs) found from last (mid, next, sp, sep, sps) f stop =
      told_more x xs found from mid next last (at_part x from mid sp).1 (sep_is true mid next sep) (complete x from mid sp (follows_sep xs mid next last sep sps f)) (separated_complete xs (found ++ x ∷ []) next last sps f stop)

  abbrev SeparatedRead : List A → Toks → List A × Toks → Type 0
  SeparatedRead found ts y = (xs : List A) × (y.0 ≡ found ++ xs) × Separated S xs ts y.1 × (greatest size xs ≤ most) × (stops y.1 ≡ true)

  separated_sound_at : (f : ℕ) (found : List A) (ts : Toks) (y : List A × Toks) → separated_at stops item f found ts ≡ Ok y → SeparatedRead found ts y
  unfolding separated_at
  separated_sound_at zero found ts y e = absurd cc
  separated_sound_at (suc f) found ts y e = elim (chosen (stops ts) (done (found, ts)) (item ts >>= λ x. sep_at true x.1 >>= λ next. separated_at stops item f (found ++ x.0 ∷ []) next) _ e) [
    | inl z ↦ rw (← ok_is (found, ts) y z.1) ([], sym (append-nil found), refl, omega arith, z.0)
    | inr z ↦ (
        let a = bind_ok (item ts) (λ x. sep_at true x.1 >>= λ next. separated_at stops item f (found ++ x.0 ∷ []) next) y z.1 in
        let s = sound ts a.0 a.1 in
        let b = bind_ok (sep_at true a.0.1) (λ next. separated_at stops item f (found ++ a.0.0 ∷ []) next) y a.2 in
        let r = separated_sound_at f (found ++ a.0.0 ∷ []) b.0 y b.2 in
        (a.0.0 ∷ r.0, r.1 ∙ append_assoc found (a.0.0 ∷ []) r.0, (a.0.1, b.0, s.0, sep_sound true a.0.1 b.0 b.1, r.2), omega (arith, s.1, r.3), r.4))
  ]

  pub separated_sound : (found : List A) (ts : Toks) (y : List A × Toks) → separated_on stops item found ts ≡ Ok y → SeparatedRead found ts y
  unfolding separated_on
  separated_sound found ts y e = separated_sound_at (suc (length ts)) found ts y e

  -- the parts before the one that is too deep
  abbrev SeparatedDeep : Toks → ℕ → Type 0
  SeparatedDeep ts n = (xs : List A) × (mid : Toks) × Separated S xs ts mid × (item mid ≡ Err (Depth n))

  separated_deep_at : (f : ℕ) (found : List A) (ts : Toks) (n : ℕ) → separated_at stops item f found ts ≡ Err (Depth n) → SeparatedDeep ts n
  unfolding separated_at
  separated_deep_at zero found ts n e = absurd cc
  separated_deep_at (suc f) found ts n e = elim (chosen (stops ts) (done (found, ts)) (item ts >>= λ x. sep_at true x.1 >>= λ next. separated_at stops item f (found ++ x.0 ∷ []) next) _ e) [
    | inl z ↦ absurd (no_ok _ n z.1)
    | inr z ↦ elim (bind_err (item ts) (λ x. sep_at true x.1 >>= λ next. separated_at stops item f (found ++ x.0 ∷ []) next) _ z.1) [
      | inl u ↦ ([], ts, refl, u)
      | inr u ↦ (let s = sound ts u.0 u.1 in elim (bind_err (sep_at true u.0.1) (λ next. separated_at stops item f (found ++ u.0.0 ∷ []) next) _ u.2) [
        | inl v ↦ absurd (sep_no_depth true u.0.1 n v)
        | inr v ↦ (let r = separated_deep_at f (found ++ u.0.0 ∷ []) v.0 n v.2 in (u.0.0 ∷ r.0, r.1, (u.0.1, v.0, s.0, sep_sound true u.0.1 v.0 v.1, r.2), r.3))
      ])
    ]
  ]

  pub separated_deep : (found : List A) (ts : Toks) (n : ℕ) → separated_on stops item found ts ≡ Err (Depth n) → SeparatedDeep ts n
  unfolding separated_on
  separated_deep found ts n e = separated_deep_at (suc (length ts)) found ts n e

  pub separated_le : (xs : List A) (from last : Toks) → Separated S xs from last → length last ≤ length from
  separated_le [] from last is = rw is (omega arith)
  separated_le (x ∷ xs) from last (mid, next, sp, sep, sps) = (let a = short x from mid sp in let b = sep_le true mid next sep in let c = separated_le xs next last sps in omega arith)
