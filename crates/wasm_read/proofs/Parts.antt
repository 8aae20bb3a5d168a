-- Readers that are made of exact readers are exact.
use Rattle.std.proofs.Common.{◌≡◌, ℕ, ◌≤◌, Bool, true, false, cond, ltb, eqb, List, [], ◌∷◌, ◌++◌, length, take, drop, Result, Ok, Err, refl, sym, ap, subst, ◌∙◌, append_assoc, arith, ◌⊎◌, inl, inr}
use Rattle.std.specs.Prelude.{nat_lt, ◌==◌}
use Rattle.std.specs.Str.{is_utf8}
use Rattle.std.proofs.lemmas.Str.{IsUtf8-from_is_utf8, is_utf8-from_IsUtf8}
use Rattle.std.proofs.lemmas.Bool.{le-ltb, ltb-false, eqb-true}
use Rattle.std.proofs.lemmas.List.{append-nil, take-append-drop, length-append, length-take}
use Rattle.std.proofs.Math.Seq.{take-append_seam, drop-append_seam}
use Rattle.wasm_form.specs.Bytes.{Then, Nothing, Byte, IsU32, Sized, IsName}
use Rattle.wasm_read.specs.declared.fault.Fault.{Fault}
use Rattle.wasm_read.specs.declared.fault.Fault.TheVariants.{NotModule}
use Rattle.wasm_read.specs.Reading.{◌>>=◌, Reader, u32_at, closed_at, framed, name_at, end_at, zero_at}
use Rattle.wasm_read.proofs.Leads.{done, ok_is}
use Rattle.wasm_read.proofs.Numbers.{chosen, bind_ok}
use Rattle.wasm_read.proofs.Exact.{Takes, Exact, left_with, takes_then, exact_u32}

pub none_is : (P : List ℕ → Type 0) (bytes : List ℕ) → P bytes → Then P Nothing bytes
none_is P bytes h = record { front = bytes; back = []; parts = sym (append-nil bytes); first = h; second = refl }

-- the same readings, by another spelling
pub exact_as : {A : Type 0} (P Q : A → List ℕ → Type 0) (r : Reader A) → Exact P r → ((a : A) (bytes : List ℕ) → P a bytes → Q a bytes) → ((a : A) (bytes : List ℕ) → Q a bytes → P a bytes) → Exact Q r
exact_as P Q r exact to from = record {
  found = λ bytes x e. let t = exact.found bytes x e in record { front = t.front; parts = t.parts; is = to x.0 t.front t.is };
  only = λ a front rest h. exact.only a front rest (from a front h);
}

pub two_parts : (front a b rest : List ℕ) → front ≡ a ++ b → front ++ rest ≡ a ++ (b ++ rest)
two_parts front a b rest e = ap (λ (l : List ℕ). l ++ rest) e ∙ append_assoc a b rest

-- a part, and then another, which may depend on what the first is
pub exact_then : {A B : Type 0} (P : A → List ℕ → Type 0) (Q : A → B → List ℕ → Type 0) (r : Reader A) (s : A → Reader B) → Exact P r → ((a : A) → Exact (Q a) (s a))
    → Exact (λ b bytes. (a : A) × Then (P a) (Q a b) bytes) (λ bytes. r bytes >>= λ x. s x.0 x.1)
exact_then P Q r s first second = record {
  found = λ bytes x e.
      let k = bind_ok (r bytes) (λ y. s y.0 y.1) x e in
      let t = takes_then (P k.0.0) (Q k.0.0 x.0) bytes k.0.1 x.1 (first.found bytes k.0 k.1) ((second k.0.0).found k.0.1 x k.2) in
      record { front = t.front; parts = t.parts; is = (k.0.0, t.is) };
  only = λ b front rest h.
      let t = h.1 in
      rw (two_parts front t.front t.back rest t.parts, first.only h.0 t.front (t.back ++ rest) t.first) ((second h.0).only b t.back rest t.second);
}

-- a part, of which another value is made
pub exact_map : {A B : Type 0} (P : A → List ℕ → Type 0) (r : Reader A) (f : A → B) → Exact P r → Exact (λ b bytes. (a : A) × (f a ≡ b) × P a bytes) (λ bytes. r bytes >>= λ x. Ok (f x.0, x.1))
exact_map {A} {B} P r f exact = record {
  found = λ bytes x e.
      let k = bind_ok (r bytes) (λ y. Ok (f y.0, y.1)) x e in
      let t = exact.found bytes k.0 k.1 in
      subst (λ (y : B × List ℕ). Takes (λ bs. (a : A) × (f a ≡ y.0) × P a bs) bytes y.1) (ok_is (f k.0.0, k.0.1) x k.2) (record { front = t.front; parts = t.parts; is = (k.0.0, refl, t.is) });
  only = λ b front rest h. rw (exact.only h.0 front rest h.2, h.1) refl;
}

-- a value of no bytes
pub exact_return : {A : Type 0} (a : A) → Exact (λ b bytes. (a ≡ b) × Nothing bytes) (λ bytes. Ok (a, bytes))
exact_return {A} a = record {
  found = λ bytes x e. subst (λ (y : A × List ℕ). Takes (λ bs. (a ≡ y.0) × Nothing bs) bytes y.1) (ok_is (a, bytes) x e) (record { front = []; parts = refl; is = (refl, refl) });
  only = λ b front rest h. rw (h.1, h.0) refl;
}

-- what is refused where a test holds, or where it does not
pub exact_unless : {A : Type 0} (b : Bool) (d : Fault) (P : A → List ℕ → Type 0) (r : Reader A) → Exact P r → Exact (λ a bytes. (b ≡ false) × P a bytes) (λ bytes. cond b (Err d) (r bytes))
exact_unless true d P r exact = record { found = λ bytes x e. absurd cc; only = λ a front rest h. absurd cc }
exact_unless false d P r exact = exact_as P _ r exact (λ a bytes h. (refl, h)) (λ a bytes h. h.1)

pub exact_when : {A : Type 0} (b : Bool) (d : Fault) (P : A → List ℕ → Type 0) (r : Reader A) → Exact P r → Exact (λ a bytes. (b ≡ true) × P a bytes) (λ bytes. cond b (r bytes) (Err d))
exact_when false d P r exact = record { found = λ bytes x e. absurd cc; only = λ a front rest h. absurd cc }
exact_when true d P r exact = exact_as P _ r exact (λ a bytes h. (refl, h)) (λ a bytes h. h.1)

-- one of two readers, by a test
pub exact_either : {A : Type 0} (b : Bool) (P Q : A → List ℕ → Type 0) (r s : Reader A) → Exact P r → Exact Q s → Exact (λ a bytes. ((b ≡ true) × P a bytes) ⊎ ((b ≡ false) × Q a bytes)) (λ bytes. cond b (r bytes) (s bytes))
exact_either true P Q r s first second = exact_as P _ r first (λ a bytes h. inl (refl, h)) (λ a bytes h. elim h [ inl p ↦ p.1 | inr p ↦ absurd cc ])
exact_either false P Q r s first second = exact_as Q _ s second (λ a bytes h. inr (refl, h)) (λ a bytes h. elim h [ inl p ↦ absurd cc | inr p ↦ p.1 ])

-- ---- single bytes

-- a byte, and what it leads to
abbrev pub Headed : {A : Type 0} → (ℕ → A → List ℕ → Type 0) → A → List ℕ → Type 0
Headed P a [] = ⊥
Headed P a (b ∷ bytes) = P b a bytes

pub exact_headed : {A : Type 0} (P : ℕ → A → List ℕ → Type 0) (r : Reader A) (s : ℕ → Reader A) (d : Fault) → r [] ≡ Err d → ((b : ℕ) (rest : List ℕ) → r (b ∷ rest) ≡ s b rest) → ((b : ℕ) → Exact (P b) (s b)) → Exact (Headed P) r
exact_headed {A} P r s d none some exact = record { found = found; only = only }
  where
    found : (bytes : List ℕ) (x : A × List ℕ) → r bytes ≡ Ok x → Takes (Headed P x.0) bytes x.1
    found [] x e = let f : Err d ≡ done x = sym none ∙ e in absurd cc
    found (b ∷ rest) x e = let t = (exact b).found rest x (sym (some b rest) ∙ e) in record { front = b ∷ t.front; parts = ap (λ (l : List ℕ). b ∷ l) t.parts; is = t.is }

    only : (a : A) (front rest : List ℕ) → Headed P a front → r (front ++ rest) ≡ Ok (a, rest)
    only a [] rest h = absurd h
    only a (b ∷ front) rest h = some b (front ++ rest) ∙ (exact b).only a front rest h

-- a function that takes this byte alone
pub record TakesByte (c : ℕ) (e : List ℕ → Result (List ℕ) Fault) : Type 0 where
  pub found : (bytes rest : List ℕ) → e bytes ≡ Ok rest → bytes ≡ c ∷ rest
  pub only : (rest : List ℕ) → e (c ∷ rest) ≡ Ok rest

pub byte_found : (c b : ℕ) (rest left : List ℕ) (d : Fault) → cond (eqb b c) (Ok rest) (Err d) ≡ Ok left → b ∷ rest ≡ c ∷ left
byte_found c b rest left d e = elim (chosen (eqb b c) _ _ _ e) [
  | inl p ↦ let same = eqb-true b c p.0 in let left_is = ok_is rest left p.1 in rw (same, left_is) refl
  | inr p ↦ absurd cc
]

pub takes_end : TakesByte 0x0b end_at
takes_end = record { found = found; only = λ rest. refl }
  where
    found : (bytes rest : List ℕ) → end_at bytes ≡ Ok rest → bytes ≡ 0x0b ∷ rest
    found [] rest e = absurd cc
    found (b ∷ bytes) rest e = byte_found 0x0b b bytes rest NotModule e

pub takes_zero : TakesByte 0x00 zero_at
takes_zero = record { found = found; only = λ rest. refl }
  where
    found : (bytes rest : List ℕ) → zero_at bytes ≡ Ok rest → bytes ≡ 0x00 ∷ rest
    found [] rest e = absurd cc
    found (b ∷ bytes) rest e = byte_found 0x00 b bytes rest NotModule e

-- a value that stands at this byte
pub exact_ending : {A : Type 0} (c : ℕ) (e : List ℕ → Result (List ℕ) Fault) (a : A) → TakesByte c e → Exact (λ b bytes. (a ≡ b) × Byte c Nothing bytes) (λ bytes. e bytes >>= λ r. Ok (a, r))
exact_ending {A} c e a takes = record { found = found; only = only }
  where
    found : (bytes : List ℕ) (x : A × List ℕ) → (e bytes >>= λ r. left_with a r) ≡ Ok x → Takes (λ bs. (a ≡ x.0) × Byte c Nothing bs) bytes x.1
    found bytes x h =
        let k = bind_ok (e bytes) (λ r. Ok (a, r)) x h in
        subst (λ (y : A × List ℕ). Takes (λ bs. (a ≡ y.0) × Byte c Nothing bs) bytes y.1) (ok_is (a, k.0) x k.2) (record { front = c ∷ []; parts = takes.found bytes k.0 k.1; is = (refl, (refl, refl)) })

    only : (b : A) (front rest : List ℕ) → (a ≡ b) × Byte c Nothing front → (e (front ++ rest) >>= λ r. left_with a r) ≡ Ok (b, rest)
    only b [] rest h = absurd h.1
    only b (d ∷ front) rest h = rw (h.1.0, h.1.1, takes.only rest, h.0) refl

-- ---- a part with its size

closed_found : (size : ℕ) (bytes left rest : List ℕ) → closed_at size bytes left ≡ Ok rest → (length left ≡ 0) × (size ≤ length bytes) × (drop size bytes ≡ rest)
closed_found size bytes left rest e = elim (chosen (length left == 0) _ _ _ e) [
  | inl p ↦ elim (chosen (ltb (length bytes) size) _ _ _ p.1) [
    | inl q ↦ absurd cc
    | inr q ↦ (eqb-true (length left) 0 p.0, ltb-false (length bytes) size q.0, ok_is (drop size bytes) rest q.1)
  ]
  | inr p ↦ absurd cc
]

closed_only : (back rest : List ℕ) → closed_at (length back) (back ++ rest) [] ≡ Ok rest
closed_only back rest =
    let n = length-append back rest in
    let le : length back ≤ length (back ++ rest) = omega (arith, n) in
    rw (le-ltb (length (back ++ rest)) (length back) le, drop-append_seam back rest) refl

no_length : (l : List ℕ) → length l ≡ 0 → l ≡ []
no_length [] e = refl
no_length (x ∷ l) e = absurd (omega (arith, e))

take_length : (n : ℕ) (l : List ℕ) → n ≤ length l → length (take n l) ≡ n
take_length n l le = let e = length-take n l in omega (arith, e, le)

pub exact_framed : {A : Type 0} (P : A → List ℕ → Type 0) (r : Reader A) → Exact P r → Exact (λ a. Sized (P a)) (framed r)
unfolding framed
exact_framed {A} P r exact = record { found = found; only = only }
  where
    found : (bytes : List ℕ) (x : A × List ℕ) → (u32_at bytes >>= λ n. r (take n.0 n.1) >>= λ y. closed_at n.0 n.1 y.1 >>= λ z. left_with y.0 z) ≡ Ok x → Takes (Sized (P x.0)) bytes x.1
    found bytes x e =
        let k = bind_ok (u32_at bytes) (λ n. r (take n.0 n.1) >>= λ y. closed_at n.0 n.1 y.1 >>= λ z. Ok (y.0, z)) x e in
        let c = bind_ok (r (take k.0.0 k.0.1)) (λ y. closed_at k.0.0 k.0.1 y.1 >>= λ z. Ok (y.0, z)) x k.2 in
        let d = bind_ok (closed_at k.0.0 k.0.1 c.0.1) (λ z. Ok (c.0.0, z)) x c.2 in
        let size = closed_found k.0.0 k.0.1 c.0.1 d.0 d.1 in
        let first = exact_u32.found bytes k.0 k.1 in
        let inner = exact.found (take k.0.0 k.0.1) c.0 c.1 in
        let all : inner.front ≡ take k.0.0 k.0.1 = sym (inner.parts ∙ ap (λ (l : List ℕ). inner.front ++ l) (no_length c.0.1 size.0) ∙ append-nil inner.front) in
        let number : IsU32 (length (take k.0.0 k.0.1)) first.front = subst (λ n. IsU32 n first.front) (sym (take_length k.0.0 k.0.1 size.1)) first.is in
        let whole : k.0.1 ≡ take k.0.0 k.0.1 ++ d.0 = sym (take-append-drop k.0.0 k.0.1) ∙ ap (λ (l : List ℕ). take k.0.0 k.0.1 ++ l) size.2 in
        subst (λ (y : A × List ℕ). Takes (Sized (P y.0)) bytes y.1) (ok_is (c.0.0, d.0) x d.2)
        (record {
          front = first.front ++ take k.0.0 k.0.1;
          parts = first.parts ∙ ap (λ (l : List ℕ). first.front ++ l) whole ∙ sym (append_assoc first.front (take k.0.0 k.0.1) d.0);
          is = record { front = first.front; back = take k.0.0 k.0.1; parts = refl; size = number; is = subst (P c.0.0) all inner.is };
        })

    only : (a : A) (front rest : List ℕ) → Sized (P a) front → (u32_at (front ++ rest) >>= λ n. r (take n.0 n.1) >>= λ y. closed_at n.0 n.1 y.1 >>= λ z. left_with y.0 z) ≡ Ok (a, rest)
    only a front rest h =
        let inner : r h.back ≡ Ok (a, []) = ap r (sym (append-nil h.back)) ∙ exact.only a h.back [] h.is in
        rw (two_parts front h.front h.back rest h.parts, exact_u32.only (length h.back) h.front (h.back ++ rest) h.size, take-append_seam h.back rest, inner, closed_only h.back rest) refl

-- ---- names

pub exact_name : Exact IsName name_at
unfolding name_at
exact_name = record { found = found; only = only }
  where
    found : (bytes : List ℕ) (x : List ℕ × List ℕ) → (u32_at bytes >>= λ n. cond (nat_lt (length n.1) n.0) (Err NotModule) (cond (is_utf8 (take n.0 n.1)) (left_with (take n.0 n.1) (drop n.0 n.1)) (Err NotModule))) ≡ Ok x → Takes (IsName x.0) bytes x.1
    found bytes x e =
        let k = bind_ok (u32_at bytes) (λ n. cond (nat_lt (length n.1) n.0) (Err NotModule) (cond (is_utf8 (take n.0 n.1)) (Ok (take n.0 n.1, drop n.0 n.1)) (Err NotModule))) x e in
        let first = exact_u32.found bytes k.0 k.1 in
        let name = take k.0.0 k.0.1 in
        let rest = drop k.0.0 k.0.1 in
        elim (chosen (ltb (length k.0.1) k.0.0) _ _ _ k.2) [
          | inl p ↦ absurd cc
          | inr p ↦ elim (chosen (is_utf8 (take k.0.0 k.0.1)) _ _ _ p.1) [
            | inl q ↦
                let number : IsU32 (length name) first.front = subst (λ n. IsU32 n first.front) (sym (take_length k.0.0 k.0.1 (ltb-false (length k.0.1) k.0.0 p.0))) first.is in
                subst (λ (y : List ℕ × List ℕ). Takes (IsName y.0) bytes y.1) (ok_is (name, rest) x q.1)
                (record {
                  front = first.front ++ name;
                  parts = first.parts ∙ ap (λ (l : List ℕ). first.front ++ l) (sym (take-append-drop k.0.0 k.0.1)) ∙ sym (append_assoc first.front name rest);
                  is = (IsUtf8-from_is_utf8 name q.0, record { front = first.front; back = name; parts = refl; size = number; is = refl });
                })
            | inr q ↦ absurd cc
          ]
        ]

    only : (a front rest : List ℕ) → IsName a front → (u32_at (front ++ rest) >>= λ n. cond (nat_lt (length n.1) n.0) (Err NotModule) (cond (is_utf8 (take n.0 n.1)) (left_with (take n.0 n.1) (drop n.0 n.1)) (Err NotModule))) ≡ Ok (a, rest)
    only a front rest h =
        let s = h.1 in
        let n = length-append a rest in
        let le : length a ≤ length (a ++ rest) = omega (arith, n) in
        let whole : front ++ rest ≡ s.front ++ (a ++ rest) = two_parts front s.front s.back rest s.parts ∙ ap (λ (l : List ℕ). s.front ++ (l ++ rest)) s.is in
        let size : IsU32 (length a) s.front = subst (λ (l : List ℕ). IsU32 (length l) s.front) s.is s.size in
        rw (whole, exact_u32.only (length a) s.front (a ++ rest) size, le-ltb (length (a ++ rest)) (length a) le, take-append_seam a rest, drop-append_seam a rest, is_utf8-from_IsUtf8 a h.0) refl
