-- Imports are read exactly as they are spelled.
use Rattle.std.proofs.Common.{◌≡◌, ℕ, zero, suc, Bool, true, false, cond, eqb, List, [], ◌∷◌, ◌++◌, length, Option, Some, None, Ok, Err, refl, sym, ap, subst, ◌∙◌, arith, inl, inr}
use Rattle.std.specs.Prelude.{◌≢◌, nat_lt, ◌==◌, All, slice_get, is_none}
use Rattle.std.specs.List.{list_any}
use Rattle.std.specs.Str.{bytes_eq}
use Rattle.std.proofs.lemmas.Bool.{eqb-true, false_from_ne_true, and_parts, or_parts}
use Rattle.std.proofs.lemmas.List.Folds.{list_any_none}
use Rattle.std.proofs.lemmas.Slice.Eq.{bytes_eq-Decides}
use Rattle.wasm_form.specs.declared.types.ValueType.{ValueType}
use Rattle.wasm_form.specs.declared.types.ValueType.TheVariants as value_type
use Rattle.wasm_form.specs.declared.types.FunctionType.{FunctionType}
use Rattle.wasm_form.specs.declared.module.HostCall.{HostCall}
use Rattle.wasm_form.specs.declared.module.HostCall.TheVariants as host
use Rattle.wasm_form.specs.declared.module.Import.{Import}
use Rattle.wasm_form.specs.Shortest.{swiftown, host_name}
use Rattle.wasm_form.specs.Bytes.{Then, Byte, IsU32, IsName, IsImport, host_type}
use Rattle.wasm_read.specs.Reading.{◌>>=◌, u32_at, name_at}
use Rattle.wasm_read.specs.Entries.{call_of, is_word, is_long, are_words, is_some_long, is_host_type, outside_import, typed_import, import_type_at, import_named, import_at}
use Rattle.wasm_read.proofs.Leads.{ok_is}
use Rattle.wasm_read.proofs.Numbers.{chosen, bind_ok}
use Rattle.wasm_read.proofs.Exact.{Takes, Exact, left_with, exact_u32}
use Rattle.wasm_read.proofs.ExactTypes.{no_way_out}
use Rattle.wasm_read.proofs.Parts.{exact_as, exact_then, exact_when, exact_name}

-- ---- elements that pass no test

pub none_pass : {A : Type 0} (p : A → Bool) (P : A → Type 0) (xs : List A) → ((x : A) → p x ≡ false → P x) → list_any p xs ≡ false → All P xs
none_pass p P [] h e k d lt = absurd (omega (arith, lt))
none_pass p P (x ∷ xs) h e zero d lt = h x (or_parts (p x) (list_any p xs) e).0
none_pass p P (x ∷ xs) h e (suc k) d lt = none_pass p P xs h (or_parts (p x) (list_any p xs) e).1 k d (omega (arith, lt))

pub pass_none : {A : Type 0} (p : A → Bool) (P : A → Type 0) (xs : List A) → ((x : A) → P x → p x ≡ false) → All P xs → list_any p xs ≡ false
pass_none p P xs h all = list_any_none p xs (λ k d lt. h _ (all k d lt))

-- ---- names

named : (name : List ℕ) (c call : HostCall) (o : Option HostCall) → (o ≡ Some call → name ≡ host_name call) → cond (bytes_eq name (host_name c)) (Some c) o ≡ Some call → name ≡ host_name call
named name c call o others e = elim (chosen (bytes_eq name (host_name c)) _ _ _ e) [
  | inl p ↦ let same : c ≡ call = cc in (bytes_eq-Decides name (host_name c)).0 p.0 ∙ ap host_name same
  | inr p ↦ others p.1
]

call_found : (name : List ℕ) (call : HostCall) → call_of name ≡ Some call → name ≡ host_name call
unfolding call_of
call_found name call =
    named name host.WriteInt call _ (named name host.WriteBool call _ (named name host.WriteText call _
    (named name host.WriteByte call _ (named name host.ReadInt call _ (named name host.Trap call _ (λ e. absurd cc))))))

call_only : (call : HostCall) → call_of (host_name call) ≡ Some call
unfolding call_of
call_only host.WriteInt = refl
call_only host.WriteBool = refl
call_only host.WriteText = refl
call_only host.WriteByte = refl
call_only host.ReadInt = refl
call_only host.Trap = refl

-- imports of one name are one
same_call : (c d : HostCall) → host_name c ≡ host_name d → c ≡ d
same_call c d e = some_is c d (sym (call_only c) ∙ ap call_of e ∙ call_only d)
  where
    some_is : (x y : HostCall) → Some x ≡ Some y → x ≡ y
    some_is x y e = cc

other_call : (name : List ℕ) (call c : HostCall) → name ≡ host_name call → bytes_eq (host_name c) name ≡ false → c ≢ call
other_call name call c is e same =
    let yes = (bytes_eq-Decides (host_name c) name).1 (ap host_name same ∙ sym is) in
    let no : true ≡ false = sym yes ∙ e in absurd cc

other_name : (name : List ℕ) (call c : HostCall) → name ≡ host_name call → c ≢ call → bytes_eq (host_name c) name ≡ false
other_name name call c is other = false_from_ne_true (bytes_eq (host_name c) name) (λ yes. other (same_call c call ((bytes_eq-Decides (host_name c) name).0 yes ∙ is)))

-- ---- types

word_is : (ps : List ValueType) → is_word ps ≡ true → ps ≡ value_type.I32 ∷ []
word_is (value_type.I32 ∷ []) e = refl
word_is _ e = absurd cc

long_is : (ps : List ValueType) → is_long ps ≡ true → ps ≡ value_type.I64 ∷ []
long_is (value_type.I64 ∷ []) e = refl
long_is _ e = absurd cc

words_are : (ps : List ValueType) → are_words ps ≡ true → ps ≡ value_type.I32 ∷ value_type.I32 ∷ []
words_are (value_type.I32 ∷ value_type.I32 ∷ []) e = refl
words_are _ e = absurd cc

some_long_is : (r : Option ValueType) → is_some_long r ≡ true → r ≡ Some value_type.I64
some_long_is (Some value_type.I64) e = refl
some_long_is _ e = absurd cc

none_is : (r : Option ValueType) → is_none r ≡ true → r ≡ None
none_is None e = refl
none_is (Some t) e = absurd cc

empty_is : (ps : List ValueType) → eqb (length ps) 0 ≡ true → ps ≡ []
empty_is [] e = refl
empty_is (t ∷ ps) e = let z = eqb-true (length (t ∷ ps)) 0 e in absurd (omega (arith, z))

type_is : (t : FunctionType) (ps : List ValueType) (r : Option ValueType) → t.parameters ≡ ps → t.result ≡ r → t ≡ record { parameters = ps; result = r }
type_is t ps r p q = ap (λ (x : List ValueType). record { parameters = x; result = t.result }) p ∙ ap (λ (y : Option ValueType). record { parameters = ps; result = y }) q

host_type_found : (call : HostCall) (t : FunctionType) → is_host_type call t ≡ true → t ≡ host_type call
host_type_found host.WriteInt t e = let p = and_parts _ _ e in type_is t _ _ (long_is t.parameters p.0) (none_is t.result p.1)
host_type_found host.WriteBool t e = let p = and_parts _ _ e in type_is t _ _ (word_is t.parameters p.0) (none_is t.result p.1)
host_type_found host.WriteText t e = let p = and_parts _ _ e in type_is t _ _ (words_are t.parameters p.0) (none_is t.result p.1)
host_type_found host.WriteByte t e = let p = and_parts _ _ e in type_is t _ _ (word_is t.parameters p.0) (none_is t.result p.1)
host_type_found host.ReadInt t e = let p = and_parts _ _ e in type_is t _ _ (empty_is t.parameters p.0) (some_long_is t.result p.1)
host_type_found host.Trap t e = let p = and_parts _ _ e in type_is t _ _ (words_are t.parameters p.0) (none_is t.result p.1)

host_type_only : (call : HostCall) → is_host_type call (host_type call) ≡ true
host_type_only host.WriteInt = refl
host_type_only host.WriteBool = refl
host_type_only host.WriteText = refl
host_type_only host.WriteByte = refl
host_type_only host.ReadInt = refl
host_type_only host.Trap = refl

-- ---- an import

-- what follows the name of an import
abbrev IsTyped : List FunctionType → Import → List ℕ → Type 0
IsTyped types i bytes = (slice_get types i.type_index ≡ Some (host_type i.call)) × Byte 0x00 (IsU32 i.type_index) bytes

typed_found : (call : HostCall) (o : Option FunctionType) (i : ℕ × List ℕ) (x : Import × List ℕ) → typed_import call o i ≡ Ok x → (o ≡ Some (host_type call)) × (left_with (record { call = call; type_index = i.0 }) i.1 ≡ Ok x)
typed_found call None i x e = absurd cc
typed_found call (Some t) i x e = elim (chosen (is_host_type call t) _ _ _ e) [
  | inl p ↦ (ap (λ (u : FunctionType). Some u) (host_type_found call t p.0), p.1)
  | inr p ↦ absurd cc
]

import_type_found : (types : List FunctionType) (call : HostCall) (bytes : List ℕ) (x : Import × List ℕ) → import_type_at types call bytes ≡ Ok x → (x.0.call ≡ call) × Takes (IsTyped types x.0) bytes x.1
unfolding import_type_at
import_type_found types call [] x e = absurd cc
import_type_found types call (k ∷ rest) x e = elim (chosen (k == 0) _ _ _ e) [
  | inl p ↦
      let u = bind_ok (u32_at rest) (λ i. typed_import call (slice_get types i.0) i) x p.1 in
      let t = exact_u32.found rest u.0 u.1 in
      let typed = typed_found call (slice_get types u.0.0) u.0 x u.2 in
      subst (λ (y : Import × List ℕ). (y.0.call ≡ call) × Takes (IsTyped types y.0) (k ∷ rest) y.1) (ok_is (record { call = call; type_index = u.0.0 }, u.0.1) x typed.1)
      (refl, record { front = k ∷ t.front; parts = ap (λ (l : List ℕ). k ∷ l) t.parts; is = (typed.0, (eqb-true k 0 p.0, t.is)) })
  | inr p ↦ absurd (no_way_out (nat_lt k 4) _ _ x p.1)
]

import_type_only : (types : List FunctionType) (i : Import) (front rest : List ℕ) → IsTyped types i front → import_type_at types i.call (front ++ rest) ≡ Ok (i, rest)
unfolding import_type_at
import_type_only types i [] rest h = absurd h.1
import_type_only types i (k ∷ front) rest h = rw (h.1.0, exact_u32.only i.type_index front rest h.1.1, h.0, host_type_only i.call) refl

module _ (types : List FunctionType) (before : List Import) (name : List ℕ) where
  abbrev IsNamed : Import → List ℕ → Type 0
  IsNamed i bytes = (name ≡ host_name i.call) × All (λ b. b.call ≢ i.call) before × IsTyped types i bytes

  named_found : (o : Option HostCall) (bytes : List ℕ) (x : Import × List ℕ) → call_of name ≡ o → import_named types before name o bytes ≡ Ok x → Takes (IsNamed x.0) bytes x.1
  named_found None bytes x is e = absurd cc
  named_found (Some call) bytes x is e = elim (chosen (list_any (λ (i : Import). bytes_eq (host_name i.call) name) before) _ _ _ e) [
    | inl p ↦ absurd cc
    | inr p ↦
        let named_is = call_found name call is in
        let t = import_type_found types call bytes x p.1 in
        let differ = none_pass (λ (i : Import). bytes_eq (host_name i.call) name) (λ b. b.call ≢ call) before (λ b e. other_call name call b.call named_is e) p.0 in
        record { front = t.1.front; parts = t.1.parts; is = subst (λ (c : HostCall). (name ≡ host_name c) × All (λ b. b.call ≢ c) before × IsTyped types x.0 t.1.front) (sym t.0) (named_is, differ, t.1.is) }
  ]

  named_only : (i : Import) (front rest : List ℕ) → IsNamed i front → import_named types before name (call_of name) (front ++ rest) ≡ Ok (i, rest)
  named_only i front rest h =
      let call : call_of name ≡ Some i.call = ap call_of h.0 ∙ call_only i.call in
      let others = pass_none (λ (b : Import). bytes_eq (host_name b.call) name) (λ b. b.call ≢ i.call) before (λ b e. other_name name i.call b.call h.0 e) h.1 in
      rw (call, others) (import_type_only types i front rest h.2)

  exact_named : Exact IsNamed (import_named types before name (call_of name))
  exact_named = record { found = λ bytes x e. named_found (call_of name) bytes x refl e; only = named_only }

module _ (types : List FunctionType) (before : List Import) where
  abbrev IsRest : List ℕ → Import → List ℕ → Type 0
  IsRest name i bytes = IsNamed types before name i bytes

  abbrev IsField : Import → List ℕ → Type 0
  IsField i bytes = (name : List ℕ) × Then (IsName name) (IsRest name i) bytes

  abbrev IsSecond : List ℕ → Import → List ℕ → Type 0
  IsSecond from i bytes = (bytes_eq from swiftown ≡ true) × IsField i bytes

  import_to : (i : Import) (bytes : List ℕ) → (from : List ℕ) × Then (IsName from) (IsSecond from i) bytes → IsImport types before i bytes
  import_to i bytes h =
      let t = h.1 in
      let from = (bytes_eq-Decides h.0 swiftown).0 t.second.0 in
      let u = t.second.1.1 in
      let r = u.second in (
        r.2.0,
        r.1,
        record {
          front = t.front;
          back = t.back;
          parts = t.parts;
          first = subst (λ (n : List ℕ). IsName n t.front) from t.first;
          second = record { front = u.front; back = u.back; parts = u.parts; first = subst (λ (n : List ℕ). IsName n u.front) r.0 u.first; second = r.2.1 };
        },
      )

  import_from : (i : Import) (bytes : List ℕ) → IsImport types before i bytes → (from : List ℕ) × Then (IsName from) (IsSecond from i) bytes
  import_from i bytes h =
      let t = h.2 in
      let u = t.second in (
        swiftown,
        record {
          front = t.front;
          back = t.back;
          parts = t.parts;
          first = t.first;
          second = (refl, (host_name i.call, record { front = u.front; back = u.back; parts = u.parts; first = u.first; second = (refl, h.1, (h.0, u.second)) }));
        },
      )

  pub exact_import : Exact (IsImport types before) (import_at types before)
  unfolding import_at
  exact_import =
      exact_as (λ i bytes. (from : List ℕ) × Then (IsName from) (IsSecond from i) bytes) (IsImport types before) (import_at types before)
      (exact_then IsName IsSecond name_at (λ from bytes. cond (bytes_eq from swiftown) (name_at bytes >>= λ name. import_named types before name.0 (call_of name.0) name.1) (Err outside_import)) exact_name
      (λ from. exact_when (bytes_eq from swiftown) outside_import IsField (λ bytes. name_at bytes >>= λ name. import_named types before name.0 (call_of name.0) name.1)
      (exact_then IsName IsRest name_at (λ name. import_named types before name (call_of name)) exact_name (λ name. exact_named types before name))))
      import_to import_from
