-- Paths and written types: what is spelled is read, and what is read is spelled.
use Rattle.std.proofs.Common.{◌≡◌, ℕ, cond, true, false, List, [], ◌∷◌, ◌++◌, length, Option, Some, None, Ok, Err, inl, inr, refl, sym, ap, ◌∙◌, append_assoc}
use Rattle.std.proofs.lemmas.List.{append-nil}
use Rattle.own_tree.specs.declared.token.Mark.TheVariants as mark
use Rattle.own_tree.specs.declared.tree.Name.{Name}
use Rattle.own_tree.specs.declared.tree.Path.{Path}
use Rattle.own_tree.specs.declared.tree.Root.{Root}
use Rattle.own_grammar.specs.Tests.{Toks, after, here, till, kind_at, is_mark, name_at, root_at, annotates}
use Rattle.own_grammar.specs.Nesting.{names_end}
use Rattle.own_grammar.specs.Spells.{Fields, SpellsPath, Typed}
use Rattle.own_grammar.specs.Reading.{Syntax, Depth, syntax_at, on_some, fields_on, path_from, path_with, typed_with}
use Rattle.own_grammar.proofs.Facts.{mark_kind, at_mark}
use Rattle.own_grammar.proofs.Steps.{done, bind_ok, ok_is, chosen, some_kept, bind_deep, some_syn}

-- ---- fields

pub fields_is : (found : List Name) (ts : Toks) → fields_on found ts ≡ (cond (is_mark mark.Dot ts) (on_some (name_at (after ts)) (λ n. fields_on (found ++ n ∷ []) (after (after ts))) (syntax_at (after ts))) (Ok (found, ts)))
unfolding fields_on is_mark kind_at name_at
fields_is found [] = refl
fields_is found (t ∷ []) = refl
fields_is found (t ∷ u ∷ ts) = refl

fields_complete : (ns found : List Name) (from to : Toks) → Fields ns from to → is_mark mark.Dot to ≡ false → fields_on found from ≡ Ok (found ++ ns, to)
fields_complete [] found from to is dot = rw (← is, fields_is found to, dot) (ap (λ (xs : List Name). Ok (xs, to)) (sym (append-nil found)))
fields_complete (n ∷ ns) found from to (point, nm, more) dot =
    rw (fields_is found from, at_mark mark.Dot from _ point, nm, fields_complete ns (found ++ n ∷ []) (after (after from)) to more dot)
    (ap (λ (xs : List Name). Ok (xs, to)) (append_assoc found (n ∷ []) ns))

abbrev FieldsRead : List Name → Toks → List Name × Toks → Type 0
FieldsRead found ts x = (ns : List Name) × (x.0 ≡ found ++ ns) × Fields ns ts x.1 × (is_mark mark.Dot x.1 ≡ false)

fields_stop : (found : List Name) (ts : Toks) (x : List Name × Toks) → is_mark mark.Dot ts ≡ false → done (found, ts) ≡ Ok x → FieldsRead found ts x
fields_stop found ts x dot e = rw (← ok_is (found, ts) x e) ([], sym (append-nil found), refl, dot)

fields_more : (found : List Name) (t : Toks) (x : List Name × Toks) (n : Name) → is_mark mark.Dot t ≡ true → name_at (after t) ≡ Some n → FieldsRead (found ++ n ∷ []) (after (after t)) x → FieldsRead found t x
fields_more found t x n dot nm (ns, is, more, stop) = (n ∷ ns, is ∙ append_assoc found (n ∷ []) ns, (mark_kind mark.Dot t dot, nm, more), stop)

no_dot : is_mark mark.Dot [] ≡ false
unfolding is_mark kind_at
no_dot = refl

fields_sound : (found : List Name) (ts : Toks) (x : List Name × Toks) → fields_on found ts ≡ Ok x → FieldsRead found ts x
unfolding fields_on
fields_sound found [] x e = fields_stop found [] x no_dot e
fields_sound found (t ∷ []) x e = elim (chosen (is_mark mark.Dot (t ∷ [])) (syntax_at []) (Ok (found, t ∷ [])) (Ok x) e) [
  | inl y ↦ absurd cc
  | inr y ↦ fields_stop found (t ∷ []) x y.0 y.1
]
fields_sound found (t ∷ u ∷ ts) x e = elim (chosen (is_mark mark.Dot (t ∷ u ∷ ts)) (on_some (name_at (u ∷ ts)) (λ n. fields_on (found ++ n ∷ []) ts) (syntax_at (u ∷ ts))) (Ok (found, t ∷ u ∷ ts)) (Ok x) e) [
  | inl y ↦ (let s = some_kept (name_at (u ∷ ts)) (λ n. fields_on (found ++ n ∷ []) ts) (Syntax (length (u ∷ ts))) x y.1 in fields_more found (t ∷ u ∷ ts) x s.0 y.0 s.1 (fields_sound (found ++ s.0 ∷ []) ts x s.2))
  | inr y ↦ fields_stop found (t ∷ u ∷ ts) x y.0 y.1
]

fields_no_depth : (found : List Name) (ts : Toks) (n : ℕ) → fields_on found ts ≡ Err (Depth n) → ⊥
unfolding fields_on
fields_no_depth found [] n e = absurd cc
fields_no_depth found (t ∷ []) n e = elim (chosen (is_mark mark.Dot (t ∷ [])) (syntax_at []) (Ok (found, t ∷ [])) (Err (Depth n)) e) [
  | inl y ↦ absurd cc
  | inr y ↦ absurd cc
]
fields_no_depth found (t ∷ u ∷ ts) n e = elim (chosen (is_mark mark.Dot (t ∷ u ∷ ts)) (on_some (name_at (u ∷ ts)) (λ n. fields_on (found ++ n ∷ []) ts) (syntax_at (u ∷ ts))) (Ok (found, t ∷ u ∷ ts)) (Err (Depth n)) e) [
  | inl y ↦ (let s = some_syn (name_at (u ∷ ts)) (λ n. fields_on (found ++ n ∷ []) ts) (length (u ∷ ts)) n y.1 in fields_no_depth (found ++ s.0 ∷ []) ts n s.2)
  | inr y ↦ absurd cc
]

-- ---- paths

abbrev path_of : Root → Toks → List Name → Path
path_of r ts ns = record { span = till (here ts) (names_end (here ts) ns); root = r; fields = ns }

path_same : (p : Path) (from : Toks) → p.span ≡ till (here from) (names_end (here from) p.fields) → path_of p.root from p.fields ≡ p
path_same p from is = rw (← is) refl

-- from its root on
pub path_from_is : (p : Path) (from to : Toks) → SpellsPath p from to → is_mark mark.Dot to ≡ false → path_from p.root from ≡ Ok (p, to)
unfolding path_from
path_from_is p from to (r, fs, s) dot = rw (fields_complete p.fields [] (after from) to fs dot) (ap (λ (q : Path). Ok (q, to)) (path_same p from s))

pub path_is : (p : Path) (from to : Toks) → SpellsPath p from to → is_mark mark.Dot to ≡ false → path_with from ≡ Ok (p, to)
unfolding path_with
path_is p from to sp dot = rw (sp.0, path_from_is p from to sp dot) refl

pub path_from_sound : (r : Root) (ts : Toks) (x : Path × Toks) → root_at ts ≡ Some r → path_from r ts ≡ Ok x → SpellsPath x.0 ts x.1 × (is_mark mark.Dot x.1 ≡ false)
unfolding path_from
path_from_sound r ts x is e =
    let c = bind_ok (fields_on [] (after ts)) (λ ns. done (path_of r ts ns.0, ns.1)) x e in
    let f = fields_sound [] (after ts) c.0 c.1 in
    rw (← ok_is (path_of r ts c.0.0, c.0.1) x c.2, f.1) ((is, f.2, refl), f.3)

pub path_sound : (ts : Toks) (x : Path × Toks) → path_with ts ≡ Ok x → SpellsPath x.0 ts x.1 × (is_mark mark.Dot x.1 ≡ false)
unfolding path_with
path_sound ts x e = let s = some_kept (root_at ts) (λ r. path_from r ts) (Syntax (length ts)) x e in path_from_sound s.0 ts x s.1 s.2

pub path_from_no_depth : (r : Root) (ts : Toks) (n : ℕ) → path_from r ts ≡ Err (Depth n) → ⊥
unfolding path_from
path_from_no_depth r ts n e = fields_no_depth [] (after ts) n (bind_deep (fields_on [] (after ts)) (λ ns. (path_of r ts ns.0, ns.1)) n e)

pub path_no_depth : (ts : Toks) (n : ℕ) → path_with ts ≡ Err (Depth n) → ⊥
unfolding path_with
path_no_depth ts n e = let s = some_syn (root_at ts) (λ r. path_from r ts) (length ts) n e in path_from_no_depth s.0 ts n s.2

-- ---- types

pub typed_is : (t : Option Name) (from to : Toks) → Typed t from to → annotates to ≡ false → typed_with from ≡ Ok (t, to)
unfolding typed_with
typed_is None from to is none = rw (← is, none) refl
typed_is (Some t) from to (colon, nm, is) none = rw (is, colon, nm) refl

pub typed_sound : (ts : Toks) (x : Option Name × Toks) → typed_with ts ≡ Ok x → Typed x.0 ts x.1
unfolding typed_with
typed_sound ts x e = elim (chosen (annotates ts) (on_some (name_at (after ts)) (λ n. done (Some n, after (after ts))) (syntax_at (after ts))) (Ok (None, ts)) (Ok x) e) [
  | inl y ↦ (let s = some_kept (name_at (after ts)) (λ n. done (Some n, after (after ts))) (Syntax (length (after ts))) x y.1 in rw (← ok_is (Some s.0, after (after ts)) x s.2) (y.0, s.1, refl))
  | inr y ↦ rw (← ok_is (None, ts) x y.1) refl
]

pub typed_no_depth : (ts : Toks) (n : ℕ) → typed_with ts ≡ Err (Depth n) → ⊥
unfolding typed_with
typed_no_depth ts n e = elim (chosen (annotates ts) (on_some (name_at (after ts)) (λ n. done (Some n, after (after ts))) (syntax_at (after ts))) (Ok (None, ts)) (Err (Depth n)) e) [
  | inl y ↦ (let s = some_syn (name_at (after ts)) (λ n. done (Some n, after (after ts))) (length (after ts)) n y.1 in absurd cc)
  | inr y ↦ absurd cc
]
