-- Sections are read exactly as they are spelled, with custom sections between them.
use Rattle.std.proofs.Common.{◌≡◌, ℕ, zero, suc, ◌<◌, ◌≤◌, true, false, cond, ltb, List, [], ◌∷◌, ◌++◌, length, take, drop, Ok, Err, refl, sym, ap, subst, ◌∙◌, append_assoc, arith, ◌⊎◌, inl, inr}
use Rattle.std.specs.Prelude.{nat_lt, ◌==◌}
use Rattle.std.proofs.lemmas.Bool.{le-ltb, ltb-false, eqb-true, ne_eqb}
use Rattle.std.proofs.lemmas.Bool.Decides.{Decides-eqb}
use Rattle.std.proofs.lemmas.List.{append-nil, take-append-drop, length-append, length-take-le}
use Rattle.std.proofs.Math.Seq.{take-append_seam, drop-append_seam}
use Rattle.wasm_form.specs.Bytes.{Then, Byte, IsU32, Sized, IsName, AreItems, IsList, IsCustom, AreCustom, IsSection}
use Rattle.wasm_read.specs.declared.fault.Fault.TheVariants.{NotModule}
use Rattle.wasm_read.specs.Reading.{◌>>=◌, Reader, u32_at, name_at, framed}
use Rattle.wasm_read.specs.Sections.{custom_at, numbered_custom_at, is_custom_at, customs_in, customs_at, section_by, section_at, end_by, finish_at}
use Rattle.wasm_read.proofs.Leads.{done, ok_is}
use Rattle.wasm_read.proofs.Numbers.{chosen, bind_ok}
use Rattle.wasm_read.proofs.Exact.{Takes, Exact, left_with, exact_u32}
use Rattle.wasm_read.proofs.Parts.{two_parts, exact_framed, exact_name}

-- ---- custom sections

custom_found : (bytes rest : List ℕ) → custom_at bytes ≡ Ok rest → (name : List ℕ) × Takes (Sized (Then (IsName name) (λ _. Unit {0}))) bytes rest
unfolding custom_at
custom_found bytes rest e =
    let k = bind_ok (u32_at bytes) (λ n. name_at (take n.0 n.1) >>= λ name. cond (nat_lt (length n.1) n.0) (Err NotModule) (done (drop n.0 n.1))) rest e in
    let c = bind_ok (name_at (take k.0.0 k.0.1)) (λ name. cond (nat_lt (length k.0.1) k.0.0) (Err NotModule) (done (drop k.0.0 k.0.1))) rest k.2 in
    elim (chosen (ltb (length k.0.1) k.0.0) _ _ _ c.2) [
      | inl p ↦ absurd cc
      | inr p ↦
          let first = exact_u32.found bytes k.0 k.1 in
          let name = exact_name.found (take k.0.0 k.0.1) c.0 c.1 in
          let all = take k.0.0 k.0.1 in
          let number : IsU32 (length all) first.front = subst (λ n. IsU32 n first.front) (sym (length-take-le k.0.0 k.0.1 (ltb-false (length k.0.1) k.0.0 p.0))) first.is in
          let left = ok_is (drop k.0.0 k.0.1) rest p.1 in (
            c.0.0,
            record {
              front = first.front ++ all;
              parts = first.parts ∙ ap (λ (l : List ℕ). first.front ++ l) (sym (take-append-drop k.0.0 k.0.1) ∙ ap (λ (l : List ℕ). all ++ l) left) ∙ sym (append_assoc first.front all rest);
              is = record { front = first.front; back = all; parts = refl; size = number; is = record { front = name.front; back = c.0.1; parts = name.parts; first = name.is; second = tt } };
            },
          )
    ]

custom_only : (name front rest : List ℕ) → Sized (Then (IsName name) (λ _. Unit {0})) front → custom_at (front ++ rest) ≡ Ok rest
unfolding custom_at
custom_only name front rest h =
    let t = h.is in
    let n = length-append h.back rest in
    let le : length h.back ≤ length (h.back ++ rest) = omega (arith, n) in
    let read : name_at h.back ≡ Ok (name, t.back) = ap name_at t.parts ∙ exact_name.only name t.front t.back t.first in
    rw (two_parts front h.front h.back rest h.parts, exact_u32.only (length h.back) h.front (h.back ++ rest) h.size, take-append_seam h.back rest, read, le-ltb (length (h.back ++ rest)) (length h.back) le, drop-append_seam h.back rest) refl

numbered_found : (bytes rest : List ℕ) → numbered_custom_at bytes ≡ Ok rest → (name : List ℕ) × Takes (IsCustom name) bytes rest
numbered_found [] rest e = absurd cc
numbered_found (b ∷ bytes) rest e = elim (chosen (b == 0) _ _ _ e) [
  | inl p ↦
      let k = custom_found bytes rest p.1 in
      let t = k.1 in
      (k.0, record { front = b ∷ t.front; parts = ap (λ (l : List ℕ). b ∷ l) t.parts; is = (eqb-true b 0 p.0, t.is) })
  | inr p ↦ absurd cc
]

-- a custom section is one, is read, and is not empty
record Skips (front rest : List ℕ) : Type 0 where
  is_custom : is_custom_at (front ++ rest) ≡ true
  read : numbered_custom_at (front ++ rest) ≡ Ok rest
  some : 0 < length front

numbered_only : (name front rest : List ℕ) → IsCustom name front → Skips front rest
numbered_only name [] rest h = absurd h
numbered_only name (b ∷ front) rest h = record { is_custom = rw h.0 refl; read = rw h.0 (custom_only name front rest h.1); some = omega arith }

-- ---- custom sections, one after the other

abbrev Customs : List (List ℕ) → List (List ℕ) → List ℕ → Type 0
Customs = AreItems (λ _. IsCustom)

customs_anyhow : (names before other : List (List ℕ)) (bytes : List ℕ) → Customs before names bytes → Customs other names bytes
customs_anyhow [] before other bytes h = h
customs_anyhow (n ∷ names) before other bytes h = record { front = h.front; back = h.back; parts = h.parts; first = h.first; second = customs_anyhow names (before ++ n ∷ []) (other ++ n ∷ []) h.back h.second }

customs_append : (names others before : List (List ℕ)) (a b : List ℕ) → Customs before names a → Customs [] others b → Customs before (names ++ others) (a ++ b)
customs_append [] others before a b h g = subst (λ (l : List ℕ). Customs before others (l ++ b)) (sym h) (customs_anyhow others [] before b g)
customs_append (n ∷ names) others before a b h g = record {
  front = h.front;
  back = h.back ++ b;
  parts = two_parts a h.front h.back b h.parts;
  first = h.first;
  second = customs_append names others (before ++ n ∷ []) h.back b h.second g;
}

pub no_customs : AreCustom []
no_customs = ([], refl)

more_customs : (a b : List ℕ) → AreCustom a → AreCustom b → AreCustom (a ++ b)
more_customs a b h g = (h.0 ++ g.0, customs_append h.0 g.0 [] a b h.1 g.1)

one_custom : (name front : List ℕ) → IsCustom name front → AreCustom front
one_custom name front h = (name ∷ [], record { front = front; back = []; parts = sym (append-nil front); first = h; second = refl })

customs_in_found : (fuel : ℕ) (bytes rest : List ℕ) → customs_in fuel bytes ≡ Ok rest → Takes AreCustom bytes rest
unfolding customs_in
customs_in_found zero bytes rest e = record { front = []; parts = ok_is bytes rest e; is = no_customs }
customs_in_found (suc fuel) bytes rest e = elim (chosen (is_custom_at bytes) _ _ _ e) [
  | inl p ↦
      let k = bind_ok (numbered_custom_at bytes) (λ after. customs_in fuel after) rest p.1 in
      let first = numbered_found bytes k.0 k.1 in
      let t = first.1 in
      let others = customs_in_found fuel k.0 rest k.2 in
      record {
        front = t.front ++ others.front;
        parts = t.parts ∙ ap (λ (l : List ℕ). t.front ++ l) others.parts ∙ sym (append_assoc t.front others.front rest);
        is = more_customs t.front others.front (one_custom first.0 t.front t.is) others.is;
      }
  | inr p ↦ record { front = []; parts = ok_is bytes rest p.1; is = no_customs }
]

pub customs_found : (bytes rest : List ℕ) → customs_at bytes ≡ Ok rest → Takes AreCustom bytes rest
unfolding customs_at
customs_found bytes rest e = customs_in_found (length bytes) bytes rest e

customs_in_only : (fuel : ℕ) (names before : List (List ℕ)) (customs rest : List ℕ) → Customs before names customs → is_custom_at rest ≡ false → length (customs ++ rest) ≤ fuel → customs_in fuel (customs ++ rest) ≡ Ok rest
unfolding customs_in
customs_in_only zero [] before customs rest h last enough = ap (λ (l : List ℕ). done (l ++ rest)) h
customs_in_only (suc fuel) [] before customs rest h last enough = rw (h, last) refl
customs_in_only zero (n ∷ names) before customs rest h last enough =
    let one = numbered_only n h.front (h.back ++ rest) h.first in
    let some = one.some in
    let whole = ap length (two_parts customs h.front h.back rest h.parts) in
    let sum = length-append h.front (h.back ++ rest) in
    absurd (omega (arith, some, whole, sum, enough))
customs_in_only (suc fuel) (n ∷ names) before customs rest h last enough =
    let one = numbered_only n h.front (h.back ++ rest) h.first in
    let some = one.some in
    let whole = two_parts customs h.front h.back rest h.parts in
    let size = ap length whole in
    let sum = length-append h.front (h.back ++ rest) in
    let left : length (h.back ++ rest) ≤ fuel = omega (arith, some, size, sum, enough) in
    rw (whole, one.is_custom, one.read) (customs_in_only fuel names (before ++ n ∷ []) h.back rest h.second last left)

pub customs_only : (customs rest : List ℕ) → AreCustom customs → is_custom_at rest ≡ false → customs_at (customs ++ rest) ≡ Ok rest
unfolding customs_at
customs_only customs rest h last = customs_in_only (length (customs ++ rest)) h.0 [] customs rest h.1 last (omega arith)

-- ---- what is read of a section is spelled so

pub finish_found : (bytes rest : List ℕ) → finish_at bytes ≡ Ok rest → AreCustom bytes
unfolding finish_at
finish_found bytes rest e =
    let k = bind_ok (customs_at bytes) end_by rest e in
    let t = customs_found bytes k.0 k.1 in
    let all : bytes ≡ t.front = t.parts ∙ ap (λ (l : List ℕ). t.front ++ l) (nothing_left k.0 k.2) ∙ append-nil t.front in
    subst AreCustom (sym all) t.is
  where
    nothing_left : (l : List ℕ) → end_by l ≡ Ok rest → l ≡ []
    nothing_left [] e = refl
    nothing_left (b ∷ l) e = elim (chosen (b == 8) _ _ _ e) [ inl p ↦ absurd cc | inr p ↦ absurd cc ]

-- no section stands behind these custom sections
pub no_section : {A : Type 0} (id : ℕ) (one : List A → A → List ℕ → Type 0) (bytes rest : List ℕ) → Takes AreCustom bytes rest → Takes (IsSection id one []) bytes rest
no_section id one bytes rest t = record { front = t.front; parts = t.parts; is = record { customs = t.front; section = []; parts = sym (append-nil t.front); skipped = t.is; is = inl (refl, refl) } }

-- a section of this number stands behind them
some_section : {A : Type 0} (id : ℕ) (one : List A → A → List ℕ → Type 0) (xs : List A) (bytes after rest : List ℕ) (b : ℕ) → b ≡ id → Takes AreCustom bytes (b ∷ after) → Takes (Sized (IsList one xs)) after rest → Takes (IsSection id one xs) bytes rest
some_section id one xs bytes after rest b same t s = record {
  front = t.front ++ b ∷ s.front;
  parts = t.parts ∙ ap (λ (l : List ℕ). t.front ++ b ∷ l) s.parts ∙ sym (append_assoc t.front (b ∷ s.front) rest);
  is = record { customs = t.front; section = b ∷ s.front; parts = refl; skipped = t.is; is = inr (same, s.is) };
}

sized_list : {A : Type 0} (C : List A → Type 0) (one : List A → A → List ℕ → Type 0) (xs : List A) (bytes rest : List ℕ) → Takes (Sized (λ bs. C xs × IsList one xs bs)) bytes rest → C xs × Takes (Sized (IsList one xs)) bytes rest
sized_list C one xs bytes rest t = (t.is.is.0, record { front = t.front; parts = t.parts; is = record { front = t.is.front; back = t.is.back; parts = t.is.parts; size = t.is.size; is = t.is.is.1 } })

module _ {A : Type 0} (id : ℕ) (C : List A → Type 0) (one : List A → A → List ℕ → Type 0) (content : Reader (List A)) (exact : Exact (λ xs bytes. C xs × IsList one xs bytes) content) where
  abbrev Content : List A → List ℕ → Type 0
  Content xs bytes = C xs × IsList one xs bytes

  pub framed_found : (bytes after : List ℕ) (b : ℕ) (x : List A × List ℕ) → b ≡ id → Takes AreCustom bytes (b ∷ after) → framed content after ≡ Ok x → C x.0 × Takes (IsSection id one x.0) bytes x.1
  framed_found bytes after b x same t e =
      let s = sized_list C one x.0 after x.1 ((exact_framed Content content exact).found after x e) in
      (s.0, some_section id one x.0 bytes after x.1 b same t s.1)

  by_found : (bytes after : List ℕ) (x : List A × List ℕ) → C [] → Takes AreCustom bytes after → section_by id content after ≡ Ok x → C x.0 × Takes (IsSection id one x.0) bytes x.1
  by_found bytes [] x none t e = subst (λ (y : List A × List ℕ). C y.0 × Takes (IsSection id one y.0) bytes y.1) (ok_is ([], []) x e) (none, no_section id one bytes [] t)
  by_found bytes (b ∷ after) x none t e = elim (chosen (b == id) _ _ _ e) [
    | inl p ↦ framed_found bytes after b x (eqb-true b id p.0) t p.1
    | inr p ↦ subst (λ (y : List A × List ℕ). C y.0 × Takes (IsSection id one y.0) bytes y.1) (ok_is ([], b ∷ after) x p.1) (none, no_section id one bytes (b ∷ after) t)
  ]

  pub section_found : (bytes : List ℕ) (x : List A × List ℕ) → C [] → section_at id content bytes ≡ Ok x → C x.0 × Takes (IsSection id one x.0) bytes x.1
  unfolding section_at
  section_found bytes x none e =
      let k = bind_ok (customs_at bytes) (section_by id content) x e in
      by_found bytes k.0 x none (customs_found bytes k.0 k.1) k.2

-- ---- what is spelled so is read

-- what begins with a section of a number above k
abbrev pub Above : ℕ → List ℕ → Type 0
Above k [] = Unit {0}
Above k (b ∷ rest) = k < b

above_less : (j k : ℕ) (bytes : List ℕ) → j ≤ k → Above k bytes → Above j bytes
above_less j k [] le h = tt
above_less j k (b ∷ bytes) le h = omega (arith, le, h)

above_custom : (k : ℕ) (bytes : List ℕ) → Above k bytes → is_custom_at bytes ≡ false
above_custom k [] h = refl
above_custom k (b ∷ bytes) h = ne_eqb b 0 (λ e. omega (arith, h, e))

-- custom sections stand before what is spelled so, and what follows them is spelled so too
pub record Stripped (k : ℕ) (S : List ℕ → Type 0) (bytes : List ℕ) : Type 0 where
  pub customs : List ℕ
  pub rest : List ℕ
  pub parts : bytes ≡ customs ++ rest
  pub are : AreCustom customs
  pub above : Above k rest
  pub still : S rest

abbrev pub Strips : ℕ → (List ℕ → Type 0) → Type 0
Strips k S = (bytes : List ℕ) → S bytes → Stripped k S bytes

pub strips_end : Strips 11 AreCustom
strips_end bytes h = record { customs = bytes; rest = []; parts = sym (append-nil bytes); are = h; above = tt; still = no_customs }

-- what is left of a list of sections
pub record Reads {A : Type 0} (r : Reader (List A)) (S : List ℕ → Type 0) (xs : List A) (bytes : List ℕ) : Type 0 where
  pub rest : List ℕ
  pub read : r bytes ≡ Ok (xs, rest)
  pub left : S rest

module _ {A : Type 0} (j id k : ℕ) (less : j < id) (more : id ≤ k) (one : List A → A → List ℕ → Type 0) (S : List ℕ → Type 0) (strips : Strips k S) where
  -- none stands there
  without : (bytes section back : List ℕ) (xs : List A) (customs front : List ℕ) → bytes ≡ front ++ back → front ≡ customs ++ section → section ≡ [] → AreCustom customs → (s : Stripped k S back) → bytes ≡ (customs ++ s.customs) ++ s.rest
  without bytes section back xs customs front whole parts none are s =
      whole ∙ ap (λ (l : List ℕ). l ++ back) (parts ∙ ap (λ (l : List ℕ). customs ++ l) none ∙ append-nil customs) ∙ ap (λ (l : List ℕ). customs ++ l) s.parts ∙ sym (append_assoc customs s.customs s.rest)

  strips_by : (xs : List A) (bytes section : List ℕ) (h : Then (IsSection id one xs) S bytes) → h.first.section ≡ section → ((section ≡ []) × (xs ≡ [])) ⊎ Byte id (Sized (IsList one xs)) section → Stripped j (Then (IsSection id one xs) S) bytes
  strips_by xs bytes section h same (inl none) =
      let c = h.first in
      let s = strips h.back h.second in
      record {
        customs = c.customs ++ s.customs;
        rest = s.rest;
        parts = without bytes c.section h.back xs c.customs h.front h.parts c.parts (same ∙ none.0) c.skipped s;
        are = more_customs c.customs s.customs c.skipped s.are;
        above = above_less j k s.rest (omega (arith, less, more)) s.above;
        still = record { front = []; back = s.rest; parts = refl; first = record { customs = []; section = []; parts = refl; skipped = no_customs; is = inl (refl, none.1) }; second = s.still };
      }
  strips_by xs bytes [] h same (inr some) = absurd some
  strips_by xs bytes (b ∷ tail) h same (inr some) =
      let c = h.first in
      let front : h.front ≡ c.customs ++ b ∷ tail = c.parts ∙ ap (λ (l : List ℕ). c.customs ++ l) same in
      let number = some.0 in
      record {
        customs = c.customs;
        rest = b ∷ (tail ++ h.back);
        parts = h.parts ∙ two_parts h.front c.customs (b ∷ tail) h.back front;
        are = c.skipped;
        above = omega (arith, less, number);
        still = record { front = b ∷ tail; back = h.back; parts = refl; first = record { customs = []; section = b ∷ tail; parts = refl; skipped = no_customs; is = inr some }; second = h.second };
      }

  pub strips_section : (xs : List A) → Strips j (Then (IsSection id one xs) S)
  strips_section xs bytes h = strips_by xs bytes h.first.section h refl h.first.is

  -- by, where by reads the content behind the number of the section, and nothing where another stands
  module _ (C : List A → Type 0) (content : Reader (List A)) (exact : Exact (λ xs bytes. C xs × IsList one xs bytes) content) (by : Reader (List A))
      (behind : (rest : List ℕ) → by (id ∷ rest) ≡ framed content rest) (otherwise : C [] → (rest : List ℕ) → Above k rest → by rest ≡ Ok ([], rest)) where
    reads_by : (xs : List A) (bytes section : List ℕ) (h : Then (IsSection id one xs) S bytes) → C xs → h.first.section ≡ section → ((section ≡ []) × (xs ≡ [])) ⊎ Byte id (Sized (IsList one xs)) section → Reads (λ bs. customs_at bs >>= by) S xs bytes
    reads_by xs bytes section h c same (inl none) =
        let g = h.first in
        let s = strips h.back h.second in
        let whole = without bytes g.section h.back xs g.customs h.front h.parts g.parts (same ∙ none.0) g.skipped s in
        let skipped = customs_only (g.customs ++ s.customs) s.rest (more_customs g.customs s.customs g.skipped s.are) (above_custom k s.rest s.above) in
        let read : by s.rest ≡ Ok (xs, s.rest) = otherwise (subst C none.1 c) s.rest s.above ∙ ap (λ (ys : List A). left_with ys s.rest) (sym none.1) in
        record { rest = s.rest; read = rw (whole, skipped) read; left = s.still }
    reads_by xs bytes [] h c same (inr some) = absurd some
    reads_by xs bytes (b ∷ tail) h c same (inr some) =
        let g = h.first in
        let number = some.0 in
        let front : h.front ≡ g.customs ++ b ∷ tail = g.parts ∙ ap (λ (l : List ℕ). g.customs ++ l) same in
        let whole : bytes ≡ g.customs ++ b ∷ (tail ++ h.back) = h.parts ∙ two_parts h.front g.customs (b ∷ tail) h.back front in
        let skipped = customs_only g.customs (b ∷ (tail ++ h.back)) g.skipped (ne_eqb b 0 (λ e. omega (arith, less, number, e))) in
        let s = some.1 in
        let sized : Sized (λ bs. C xs × IsList one xs bs) tail = record { front = s.front; back = s.back; parts = s.parts; size = s.size; is = (c, s.is) } in
        let inner = (exact_framed (λ xs bytes. C xs × IsList one xs bytes) content exact).only xs tail h.back sized in
        let read : by (b ∷ (tail ++ h.back)) ≡ Ok (xs, h.back) = ap (λ n. by (n ∷ (tail ++ h.back))) number ∙ behind (tail ++ h.back) ∙ inner in
        record { rest = h.back; read = rw (whole, skipped) read; left = h.second }

    pub reads_any : (xs : List A) (bytes : List ℕ) → C xs → Then (IsSection id one xs) S bytes → Reads (λ bs. customs_at bs >>= by) S xs bytes
    reads_any xs bytes c h = reads_by xs bytes h.first.section h c refl h.first.is

  other_by : (content : Reader (List A)) (rest : List ℕ) → Above k rest → section_by id content rest ≡ Ok ([], rest)
  other_by content [] h = refl
  other_by content (b ∷ rest) h = let other = ne_eqb b id (λ e. omega (arith, more, h, e)) in rw other refl

  this_by : (content : Reader (List A)) (rest : List ℕ) → section_by id content (id ∷ rest) ≡ framed content rest
  this_by content rest = let same = (Decides-eqb id id).1 refl in rw same refl

  pub reads_section : (C : List A → Type 0) (content : Reader (List A)) → Exact (λ xs bytes. C xs × IsList one xs bytes) content → (xs : List A) (bytes : List ℕ) → C xs → Then (IsSection id one xs) S bytes → Reads (section_at id content) S xs bytes
  unfolding section_at
  reads_section C content exact xs bytes c h = reads_any C content exact (section_by id content) (this_by content) (λ _. other_by content) xs bytes c h

pub finish_only : (bytes : List ℕ) → AreCustom bytes → finish_at bytes ≡ Ok []
unfolding finish_at
finish_only bytes h =
    let skipped : customs_at bytes ≡ Ok [] = ap customs_at (sym (append-nil bytes)) ∙ customs_only bytes [] h refl in
    rw skipped refl
