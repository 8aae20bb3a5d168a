-- A reader is exact for a spelling: what it reads is spelled so, and what is spelled so is read, whatever follows.
use Rattle.std.proofs.Common.{◌≡◌, ℕ, zero, suc, Bool, false, List, [], ◌∷◌, ◌++◌, length, Result, Ok, refl, sym, ap, subst, ◌∙◌, append_assoc}
use Rattle.std.proofs.lemmas.List.{append-nil}
use Rattle.wasm_form.specs.Leb.{IsNumber}
use Rattle.wasm_form.specs.Bytes.{Then, IsU32, AreItems, IsList}
use Rattle.wasm_read.specs.declared.fault.Fault.{Fault}
use Rattle.wasm_read.specs.Reading.{◌>>=◌, Reader, number_at, u32_at, list_at}
use Rattle.wasm_read.proofs.Leads.{done, ok_is}
use Rattle.wasm_read.proofs.Numbers.{bind_ok, number_found, number_only}

-- a front of the bytes is spelled so, and these follow
pub record Takes (P : List ℕ → Type 0) (bytes rest : List ℕ) : Type 0 where
  pub front : List ℕ
  pub parts : bytes ≡ front ++ rest
  pub is : P front

-- this value, and the bytes that are left
abbrev pub left_with : {A : Type 0} → A → List ℕ → Result (A × List ℕ) Fault
left_with a rest = Ok (a, rest)

pub record Exact {A : Type 0} (P : A → List ℕ → Type 0) (r : Reader A) : Type 0 where
  pub found : (bytes : List ℕ) (x : A × List ℕ) → r bytes ≡ Ok x → Takes (P x.0) bytes x.1
  pub only : (a : A) (front rest : List ℕ) → P a front → r (front ++ rest) ≡ Ok (a, rest)

-- two parts are one
pub takes_then : (P Q : List ℕ → Type 0) (a b c : List ℕ) → Takes P a b → Takes Q b c → Takes (Then P Q) a c
takes_then P Q a b c p q = record {
  front = p.front ++ q.front;
  parts = p.parts ∙ ap (λ (l : List ℕ). p.front ++ l) q.parts ∙ sym (append_assoc p.front q.front c);
  is = record { front = p.front; back = q.front; parts = refl; first = p.is; second = q.is };
}

pub exact_number : (signed : Bool) (bits : ℕ) → Exact (λ n bytes. IsNumber signed bits bytes n) (number_at signed bits)
exact_number signed bits = record {
  found = λ bytes x e. let s = number_found signed bits bytes x e in record { front = s.front; parts = s.parts; is = s.is };
  only = λ n front rest h. number_only signed bits front n rest h;
}

pub exact_u32 : Exact IsU32 u32_at
exact_u32 = exact_number false 32

-- ---- lists

pub items_found : {A : Type 0} (P : List A → A → List ℕ → Type 0) (one : List A → Reader A) → ((before : List A) → Exact (P before) (one before)) → (n : ℕ) (before : List A) (bytes : List ℕ) (x : List A × List ℕ) → list_at one before n bytes ≡ Ok x
    → (xs : List A) × (x.0 ≡ before ++ xs) × (length xs ≡ n) × Takes (AreItems P before xs) bytes x.1
unfolding list_at
items_found P one exact zero before bytes x e = ([], ap (λ (y : List _ × List ℕ). y.0) (sym (ok_is (before, bytes) x e)) ∙ sym (append-nil before), refl, record { front = []; parts = ap (λ (y : List _ × List ℕ). y.1) (ok_is (before, bytes) x e); is = refl })
items_found {A} P one exact (suc n) before bytes x e =
    let k = bind_ok (one before bytes) (λ y. list_at one (before ++ y.0 ∷ []) n y.1) x e in
    let first = (exact before).found bytes k.0 k.1 in
    let others = items_found P one exact n (before ++ k.0.0 ∷ []) k.0.1 x k.2 in
    (k.0.0 ∷ others.0, others.1 ∙ append_assoc before (k.0.0 ∷ []) others.0, ap suc others.2, takes_then (P before k.0.0) (AreItems P (before ++ k.0.0 ∷ []) others.0) bytes k.0.1 x.1 first others.3)

pub items_only : {A : Type 0} (P : List A → A → List ℕ → Type 0) (one : List A → Reader A) → ((before : List A) → Exact (P before) (one before)) → (xs before : List A) (front rest : List ℕ) → AreItems P before xs front → list_at one before (length xs) (front ++ rest) ≡ Ok (before ++ xs, rest)
unfolding list_at
items_only P one exact [] before front rest h = ap (λ (l : List ℕ). done (before, l ++ rest)) h ∙ ap (λ (l : List _). done (l, rest)) (sym (append-nil before))
items_only P one exact (x ∷ xs) before front rest h =
    let first = (exact before).only x h.front (h.back ++ rest) h.first in
    let others = items_only P one exact xs (before ++ x ∷ []) h.back rest h.second in
    let whole : front ++ rest ≡ h.front ++ (h.back ++ rest) = ap (λ (l : List ℕ). l ++ rest) h.parts ∙ append_assoc h.front h.back rest in
    rw (whole, first) (others ∙ ap (λ (l : List _). done (l, rest)) (append_assoc before (x ∷ []) xs))

-- a list, whatever its number
pub exact_list : {A : Type 0} (P : List A → A → List ℕ → Type 0) (one : List A → Reader A) → ((before : List A) → Exact (P before) (one before)) → Exact (IsList P) (λ bytes. u32_at bytes >>= λ n. list_at one [] n.0 n.1)
exact_list P one exact = record {
  found = λ bytes x e.
      let k = bind_ok (u32_at bytes) (λ n. list_at one [] n.0 n.1) x e in
      let first = exact_u32.found bytes k.0 k.1 in
      let others = items_found P one exact k.0.0 [] k.0.1 x k.2 in
      let whole = takes_then (IsU32 k.0.0) (AreItems P [] others.0) bytes k.0.1 x.1 first others.3 in
      subst (λ (xs : List _). Takes (IsList P xs) bytes x.1) (sym others.1) (subst (λ n. Takes (Then (IsU32 n) (AreItems P [] others.0)) bytes x.1) (sym others.2) whole);
  only = λ xs front rest h.
      let first = exact_u32.only (length xs) h.front (h.back ++ rest) h.first in
      let others = items_only P one exact xs [] h.back rest h.second in
      let whole : front ++ rest ≡ h.front ++ (h.back ++ rest) = ap (λ (l : List ℕ). l ++ rest) h.parts ∙ append_assoc h.front h.back rest in
      rw (whole, first) others;
}
