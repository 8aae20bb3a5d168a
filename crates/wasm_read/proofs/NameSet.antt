-- A set of names in their order has the names of the exports read so far.
use Rattle.std.proofs.Common.{◌≡◌, ℕ, Bool, true, false, List, [], ◌∷◌, ◌++◌, refl, sym, ap, ◌∙◌}
use Rattle.std.specs.Prelude.{◌||◌, not}
use Rattle.std.specs.Borrow.{Bor}
use Rattle.std.specs.List.{list_any}
use Rattle.std.specs.Str.{bytes_eq}
use Rattle.std.specs.Ordering.{nat_cmp, is_eq}
use Rattle.std.specs.Cmp.Lexicographic.{slice_cmp}
use Rattle.std.specs.declared.cmp.Ordering.{Ordering}
use Rattle.std.specs.declared.cmp.Ordering.TheVariants.{Less, Equal, Greater}
use Rattle.std.specs.BTreeMap.{is_at}
use Rattle.std.specs.BTreeSet.{insert_key}
use Rattle.std.proofs.lemmas.Map.Text.{is_eq-slice_cmp}
use Rattle.std.proofs.lemmas.Slice.Eq.{bytes_eq-Decides}
use Rattle.std.proofs.lemmas.List.Folds.{list_any-append}
use Rattle.wasm_form.specs.declared.module.Export.{Export}
use Rattle.std.specs.Prelude.{Result, Ok, Err, IfOk}
use Rattle.wasm_read.specs.declared.counts.Counts.{Counts}
use Rattle.wasm_read.specs.declared.fault.Fault.TheVariants.{NotModule}
use Rattle.wasm_read.specs.Reading.{name_at}
use Rattle.wasm_read.specs.Entries.{exported_at, export_at}
use Rattle.wasm_read.specs.Names.{AreNames}

abbrev pub by_bytes : Bor (List ℕ) → Bor (List ℕ) → Ordering
by_bytes x y = slice_cmp nat_cmp x.now y.now

swap : (a b c : Bool) → (a || (b || c)) ≡ (b || (a || c))
swap true true c = refl
swap true false c = refl
swap false true c = refl
swap false false c = refl

-- a new key is in the set, and so are those that were
any_inserted : {K : Type 0} (cmp : K → K → Ordering) (test : K → Bool) (k : K) (ks : List K) → list_any (is_at (cmp k)) ks ≡ false
    → list_any test (insert_key cmp ks k) ≡ (test k || list_any test ks)
any_inserted cmp test k [] absent = refl
any_inserted cmp test k (x ∷ xs) absent = step (cmp k x) refl (any_inserted cmp test k xs)
  where
    step : (o : Ordering) → cmp k x ≡ o → (list_any (is_at (cmp k)) xs ≡ false → list_any test (insert_key cmp xs k) ≡ (test k || list_any test xs))
        → list_any test (insert_key cmp (x ∷ xs) k) ≡ (test k || list_any test (x ∷ xs))
    step Less e rest = rw e refl
    step Equal e rest = let same : true ≡ false = rw e at absent in absurd cc
    step Greater e rest = let behind = rest (rw e at absent) in rw (e, behind) (swap (test x) (test k) (list_any test xs))

same_answer : (a b : Bool) → (a ≡ true → b ≡ true) → (b ≡ true → a ≡ true) → a ≡ b
same_answer true b f g = sym (f refl)
same_answer false true f g = g refl
same_answer false false f g = refl

turned : (xs ys : List ℕ) → bytes_eq xs ys ≡ bytes_eq ys xs
turned xs ys =
    let there = bytes_eq-Decides xs ys in let back = bytes_eq-Decides ys xs in
    same_answer (bytes_eq xs ys) (bytes_eq ys xs) (λ e. back.1 (sym (there.0 e))) (λ e. there.1 (sym (back.0 e)))

any_at : (name : List ℕ) (keys : List (Bor (List ℕ))) → list_any (is_at (λ k. slice_cmp nat_cmp name k.now)) keys ≡ list_any (λ k. bytes_eq k.now name) keys
any_at name [] = refl
any_at name (k ∷ keys) =
    let first : is_eq (slice_cmp nat_cmp name k.now) ≡ bytes_eq k.now name = is_eq-slice_cmp name k.now ∙ turned name k.now in
    rw (first, any_at name keys) refl

or_turned : (a b : Bool) → (a || b) ≡ (b || (a || false))
or_turned true true = refl
or_turned true false = refl
or_turned false true = refl
or_turned false false = refl

-- the set finds a name exactly where an export has it
pub is_found : (keys : List (Bor (List ℕ))) (exports : List Export) (name : Bor (List ℕ)) → AreNames keys exports
    → list_any (is_at (by_bytes name)) keys ≡ list_any (λ (e : Export). bytes_eq e.name name.now) exports
is_found keys exports name are = any_at name.now keys ∙ are name.now

-- a new name joins
pub are_joined : (keys : List (Bor (List ℕ))) (exports : List Export) (name : Bor (List ℕ)) (e : Export) → AreNames keys exports → e.name ≡ name.now
    → list_any (is_at (by_bytes name)) keys ≡ false → AreNames (insert_key by_bytes keys name) (exports ++ e ∷ [])
are_joined keys exports name e are named new q =
    let inserted = any_inserted by_bytes (λ (k : Bor (List ℕ)). bytes_eq k.now q) name keys new in
    let appended = list_any-append (λ (b : Export). bytes_eq b.name q) exports (e ∷ []) in
    rw (inserted, appended, are q, named) (or_turned (bytes_eq name.now q) (list_any (λ (b : Export). bytes_eq b.name q) exports))

not_not : (b : Bool) → not (not b) ≡ b
not_not true = refl
not_not false = refl

module _ (counts : Counts) (keys : List (Bor (List ℕ))) (before : List Export) (name : Bor (List ℕ)) (bytes rest : List ℕ) (added : Bool) (are : AreNames keys before)
    (read : name_at bytes ≡ Ok (name.now, rest)) (answer : added ≡ not (list_any (is_at (by_bytes name)) keys)) where
  -- a name that the set had is a fault
  pub again : added ≡ false → export_at counts before bytes ≡ Err NotModule
  unfolding export_at
  again had =
      let found : list_any (is_at (by_bytes name)) keys ≡ true = sym (not_not (list_any (is_at (by_bytes name)) keys)) ∙ sym (ap not answer) ∙ ap not had in
      rw (read, sym (is_found keys before name are) ∙ found) refl

  -- after a name that it had not, the export is read
  pub first : added ≡ true → export_at counts before bytes ≡ exported_at counts name.now rest
  unfolding export_at
  first had =
      let found : list_any (is_at (by_bytes name)) keys ≡ false = sym (not_not (list_any (is_at (by_bytes name)) keys)) ∙ sym (ap not answer) ∙ ap not had in
      rw (read, sym (is_found keys before name are) ∙ found) refl

  pub absent : added ≡ true → list_any (is_at (by_bytes name)) keys ≡ false
  absent had = sym (not_not (list_any (is_at (by_bytes name)) keys)) ∙ sym (ap not answer) ∙ ap not had

pub if_ok : {A E : Type 0} (r : Result A E) (P Q : A → Type 0) → ((x : A) → P x → Q x) → IfOk r P → IfOk r Q
if_ok (Ok x) P Q f h = f x h
if_ok (Err e) P Q f h = tt
