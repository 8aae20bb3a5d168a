-- Words in linear memory.
use Rattle.std.proofs.Common.{◌≡◌, ℕ, ◌+◌, ◌-◌, ◌≤◌, ◌<◌, ◌^◌, List, ◌++◌, Some, refl, sym, ap, ◌∙◌, arith, length, take, drop, length-append, length-drop, append_assoc}
use Rattle.std.specs.Int.{w64, to_le_bytes}
use Rattle.std.proofs.lemmas.Nat.{from_le_bytes-to_le_bytes_8}
use Rattle.std.proofs.lemmas.List.{take-append-le, drop-append-le, take-append-drop, length-take-le, take_at}
use Rattle.std.proofs.Math.Seq.{drop-append_seam, drop-append-add}
use Rattle.std.proofs.lemmas.Bool.{le-ltb}
use Rattle.wasm_form.specs.Steps.{number_at, with_number}

-- ---- bytes in place of others

module _ (m le : List ℕ) (at : ℕ) (eight : length le ≡ 8) (fits : at + 8 ≤ length m) where
  abbrev front : List ℕ
  front = take at m

  abbrev rest : List ℕ
  rest = drop (at + 8) m

  front_long : length front ≡ at
  front_long = length-take-le at m (omega (arith, fits))

  taken : take 8 (drop at (front ++ le ++ rest)) ≡ le
  taken = ap (λ xs. take 8 (drop at xs)) (append_assoc front le rest) ∙ ap (λ n. take 8 (drop n (front ++ (le ++ rest)))) (sym front_long) ∙ ap (take 8) (drop-append_seam front (le ++ rest)) ∙ take_at le rest 8 eight

  beneath : (P Y : List ℕ) (b : ℕ) → b + 8 ≤ length P → take 8 (drop b (P ++ Y)) ≡ take 8 (drop b P)
  beneath P Y b l = ap (take 8) (drop-append-le b P Y (omega (arith, l))) ∙ take-append-le 8 (drop b P) Y (let e = length-drop b P in omega (arith, l, e))

  pub lower : (b : ℕ) → b + 8 ≤ at → take 8 (drop b (front ++ le ++ rest)) ≡ take 8 (drop b m)
  lower b l = ap (λ xs. take 8 (drop b xs)) (append_assoc front le rest) ∙ beneath front (le ++ rest) b (let e = front_long in omega (arith, l, e)) ∙ sym (beneath front (drop at m) b (let e = front_long in omega (arith, l, e))) ∙ ap (λ xs. take 8 (drop b xs)) (take-append-drop at m)

  pub upper : (b : ℕ) → at + 8 ≤ b → drop b (front ++ le ++ rest) ≡ drop b m
  upper b l =
      ap (λ n. drop n ((front ++ le) ++ rest)) (omega (arith, l, length-append front le, front_long, eight))
      ∙ drop-append-add (front ++ le) rest (b - (at + 8))
      ∙ sym (ap (λ n. drop n m) (omega (arith, l, length-take-le (at + 8) m fits)) ∙ ap (drop (length (take (at + 8) m) + (b - (at + 8)))) (sym (take-append-drop (at + 8) m)) ∙ drop-append-add (take (at + 8) m) rest (b - (at + 8)))

  pub whole_long : length (front ++ le ++ rest) ≡ length m
  whole_long = let a = length-append (front ++ le) rest in let b = length-append front le in let c = length-drop (at + 8) m in let e = front_long in omega (arith, a, b, c, e, eight, fits)

-- a word that is written, and the others
module _ (m : List ℕ) (at v : ℕ) (le : at + 8 ≤ length m) where
  pub kept_long : length (with_number w64 m at v) ≡ length m
  kept_long = whole_long m (to_le_bytes w64 v) at refl le

  pub read_same : v < 2 ^ 64 → number_at w64 (with_number w64 m at v) at ≡ Some v
  read_same lt =
      let e : length (with_number w64 m at v) ≡ length m = kept_long in
      rw (le-ltb (length (with_number w64 m at v)) (at + 8) (omega (arith, e, le)), taken m (to_le_bytes w64 v) at refl le, from_le_bytes-to_le_bytes_8 v lt) refl

  pub read_lower : (b : ℕ) → b + 8 ≤ at → number_at w64 (with_number w64 m at v) b ≡ number_at w64 m b
  read_lower b l =
      let e : length (with_number w64 m at v) ≡ length m = kept_long in
      rw (e, lower m (to_le_bytes w64 v) at refl le b l) refl

  pub read_upper : (b : ℕ) → at + 8 ≤ b → number_at w64 (with_number w64 m at v) b ≡ number_at w64 m b
  read_upper b l =
      let e : length (with_number w64 m at v) ≡ length m = kept_long in
      rw (e, upper m (to_le_bytes w64 v) at refl le b l) refl
