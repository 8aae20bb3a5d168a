-- Lists that are made piece by piece.
use Rattle.std.proofs.Common.{◌≡◌, ℕ, suc, ◌+◌, ◌-◌, ◌<◌, List, [], ◌∷◌, ◌++◌, refl, sym, ap, ◌∙◌, append_assoc, arith}
use Rattle.wasm_form.specs.declared.instr.Instr.{Instr}
use Rattle.wasm_form.specs.declared.instr.Instr.TheVariants as i
use Rattle.low_laws.specs.Lower.{access, moves_code, numbers_from}
use Rattle.low_laws.specs.declared.places.TheConstants.{FROM, TO}

pub one_piece : (old a new whole : List Instr) → new ≡ old ++ a → whole ≡ a → new ≡ old ++ whole
one_piece old a new whole e f = e ∙ ap (λ (xs : List Instr). old ++ xs) (sym f)

pub two_pieces : (old a mid b new whole : List Instr) → mid ≡ old ++ a → new ≡ mid ++ b → whole ≡ a ++ b → new ≡ old ++ whole
two_pieces old a mid b new whole e f w = one_piece old (a ++ b) new whole (f ∙ ap (λ (xs : List Instr). xs ++ b) e ∙ append_assoc old a b) w

pub three_pieces : (old a one b two c new whole : List Instr) → one ≡ old ++ a → two ≡ one ++ b → new ≡ two ++ c → whole ≡ a ++ b ++ c → new ≡ old ++ whole
three_pieces old a one b two c new whole e f g w = two_pieces old (a ++ b) two c new whole (two_pieces old a one b two (a ++ b) e f refl) g w

-- numbers up to an end begin with the first of them
pub next_number : (n end : ℕ) → n < end → numbers_from n (end - n) ≡ n ∷ numbers_from (n + 1) (end - (n + 1))
next_number n end lt =
    let more : end - n ≡ suc (end - (n + 1)) = omega (arith, lt) in
    let next : suc n ≡ n + 1 = omega arith in
    ap (numbers_from n) more ∙ ap (λ (k : ℕ). n ∷ numbers_from k (end - (n + 1))) next

one_more : (old new rest : List Instr) (a : Instr) → new ≡ old ++ a ∷ [] → new ++ rest ≡ old ++ (a ∷ rest)
one_more old new rest a e = ap (λ (xs : List Instr). xs ++ rest) e ∙ append_assoc old (a ∷ []) rest

pub four_more : (old one two three new rest : List Instr) (a b c d : Instr) → one ≡ old ++ a ∷ [] → two ≡ one ++ b ∷ [] → three ≡ two ++ c ∷ [] → new ≡ three ++ d ∷ [] → new ++ rest ≡ old ++ (a ∷ b ∷ c ∷ d ∷ rest)
four_more old one two three new rest a b c d e f g h =
    one_more three new rest d h ∙ one_more two three (d ∷ rest) c g ∙ one_more one two (c ∷ d ∷ rest) b f ∙ one_more old one (b ∷ c ∷ d ∷ rest) a e

-- words that are moved begin with the first of them
pub next_move : (n count from to : ℕ) → n < count → moves_code (count - n) (from + n) (to + n)
    ≡ i.LocalGet TO ∷ i.LocalGet FROM ∷ i.I64Load (access (from + n)) ∷ i.I64Store (access (to + n)) ∷ moves_code (count - (n + 1)) (from + (n + 1)) (to + (n + 1))
next_move n count from to lt =
    let more : count - n ≡ suc (count - (n + 1)) = omega (arith, lt) in
    let source : suc (from + n) ≡ from + (n + 1) = omega arith in
    let target : suc (to + n) ≡ to + (n + 1) = omega arith in
    ap (λ (k : ℕ). moves_code k (from + n) (to + n)) more
    ∙ ap (λ (k : ℕ). i.LocalGet TO ∷ i.LocalGet FROM ∷ i.I64Load (access (from + n)) ∷ i.I64Store (access (to + n)) ∷ moves_code (count - (n + 1)) k (suc (to + n))) source
    ∙ ap (λ (k : ℕ). i.LocalGet TO ∷ i.LocalGet FROM ∷ i.I64Load (access (from + n)) ∷ i.I64Store (access (to + n)) ∷ moves_code (count - (n + 1)) (from + (n + 1)) k) target
