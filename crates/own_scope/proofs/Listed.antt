-- The declarations with bodies, one after the other.
use Rattle.std.specs.Prelude.{◌≡◌, ℕ, suc, ◌+◌, List, [], ◌∷◌, ◌++◌, None}
use Rattle.std.proofs.Common.{sym, ap, ◌∙◌, arith, append-nil}
use Rattle.own_tree.specs.declared.place.Ty.{Ty}
use Rattle.own_tree.specs.declared.typed.Signature.{Signature}
use Rattle.own_tree.specs.Source as tree
use Rattle.own_tree.specs.Source.{Member, Decl}
use Rattle.own_judged.specs.Text.{Entry, for_function, for_method, for_initializer, bodies_of, callable, entries, member_bodies, member_entries}
use Rattle.own_scope.specs.Entries.{declaration_bodies, declaration_types}

module _ (type_of : List ℕ → Ty) (signatures : List Signature) where
  abbrev from : ℕ → List Member → ℕ → List Entry
  from t ms k = member_entries type_of signatures t k ms

  pub next_member : (t k : ℕ) (m : Member) (ms : List Member) → member_entries type_of signatures t k (m ∷ ms)
      ≡ member_entries type_of signatures t k (m ∷ []) ++ member_entries type_of signatures t (k + member_bodies type_of signatures (m ∷ [])) ms
  next_member t k (tree.field f) ms = ap (from t ms) (let e : k ≡ k + 0 = omega arith in e)
  next_member t k (tree.initializer s ps b) ms =
      ap (λ es. for_initializer t (callable type_of signatures k ps None) ∷ es)
      (ap (from t ms) (let e : k + bodies_of b ≡ k + (bodies_of b + 0) = omega arith in e))
  next_member t k (tree.deinitializer s b) ms =
      ap (from t ms) (let e : k + bodies_of b ≡ k + (bodies_of b + 0) = omega arith in e)
  next_member t k (tree.method s m f) ms =
      ap (λ es. for_method t f.name.text (record { mode = m; callable = callable type_of signatures k f.parameters f.result }) ∷ es)
      (ap (from t ms) (let e : k + bodies_of f.body ≡ k + (bodies_of f.body + 0) = omega arith in e))
  next_member t k (tree.cases s cs) ms = ap (from t ms) (let e : k ≡ k + 0 = omega arith in e)

  pub next_declaration : (t k : ℕ) (d : Decl) (ds : List Decl) → entries type_of signatures t k (d ∷ ds)
      ≡ entries type_of signatures t k (d ∷ []) ++ entries type_of signatures (t + declaration_types d) (k + declaration_bodies type_of signatures d) ds
  next_declaration t k (tree.struct_of s name noncopyable ms) ds =
      ap (λ n. member_entries type_of signatures t k ms ++ entries type_of signatures n (k + member_bodies type_of signatures ms) ds)
      (let e : suc t ≡ t + 1 = omega arith in e)
      ∙ ap (λ es. es ++ entries type_of signatures (t + 1) (k + member_bodies type_of signatures ms) ds) (sym (append-nil (member_entries type_of signatures t k ms)))
  next_declaration t k (tree.enum_of s name noncopyable ms) ds =
      ap (λ n. member_entries type_of signatures t k ms ++ entries type_of signatures n (k + member_bodies type_of signatures ms) ds)
      (let e : suc t ≡ t + 1 = omega arith in e)
      ∙ ap (λ es. es ++ entries type_of signatures (t + 1) (k + member_bodies type_of signatures ms) ds) (sym (append-nil (member_entries type_of signatures t k ms)))
  next_declaration t k (tree.function f) ds =
      ap (λ es. for_function f.name.text (callable type_of signatures k f.parameters f.result) ∷ es)
      (ap (λ n. entries type_of signatures n (k + bodies_of f.body) ds) (let e : t ≡ t + 0 = omega arith in e))

  pub next_bodies : (m : Member) (ms : List Member) → member_bodies type_of signatures (m ∷ ms) ≡ member_bodies type_of signatures (m ∷ []) + member_bodies type_of signatures ms
  next_bodies (tree.field f) ms = omega arith
  next_bodies (tree.initializer s ps b) ms = omega arith
  next_bodies (tree.deinitializer s b) ms = omega arith
  next_bodies (tree.method s m f) ms = omega arith
  next_bodies (tree.cases s cs) ms = omega arith
