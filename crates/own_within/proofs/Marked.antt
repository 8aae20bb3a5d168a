-- What is known of bindings, mention by mention, and what is captured by it.
use Rattle.std.proofs.Common.{◌≡◌, ℕ, zero, suc, ◌+◌, ◌<◌, Bool, true, false, ◌||◌, ◌&&◌, ◌==◌, if◌then◌else◌, Option, Some, None, List, [], ◌∷◌, map, length, get_or, refl, sym, ap, ◌∙◌, arith, lit<}
use Rattle.std.proofs.lemmas.List.{length-map}
use Rattle.own_tree.specs.declared.place.Binding.{Binding}
use Rattle.own_tree.specs.declared.typed.Typed.{Typed}
use Rattle.own_tree.specs.TypedView.{body_view, program_view}
use Rattle.own_paths.specs.Captures.{Captured, is_mentioned, is_changed, in_order_of_number, outer_mentions, captures}
use Rattle.own_within.specs.declared.captured.Captured as held
use Rattle.own_within.specs.Marks.{said, says_changed, noted, found_from}
use Rattle.own_within.specs.View.{captured_view, captured_seen}

-- what is not mentioned is not changed
unchanged : (x : ℕ) (ms : List Captured) → is_mentioned x ms ≡ false → is_changed x ms ≡ false
unchanged x [] none = refl
unchanged x (m ∷ ms) none = elim (m.binding == x) as (λ b. (b || is_mentioned x ms) ≡ false → ((b && m.change) || is_changed x ms) ≡ false) [
  | true ↦ λ no. cc
  | false ↦ λ no. unchanged x ms no
] none

changed_of : (x : ℕ) (ms : List Captured) → says_changed (said x ms) ≡ is_changed x ms
changed_of x ms =
    elim (is_mentioned x ms) as (λ b. (is_mentioned x ms ≡ b) → says_changed (if b then Some (is_changed x ms) else None) ≡ is_changed x ms) [
      | true ↦ λ is. refl
      | false ↦ λ is. sym (unchanged x ms is)
    ] refl

-- with one more mention in front
pub one_more : (x : ℕ) (m : held.Captured) (ms : List held.Captured) → noted x m (said x (captured_seen ms)) ≡ said x (captured_seen (m ∷ ms))
one_more x m ms =
    let known = captured_seen ms in
    elim (m.binding == x) as (λ b. (if b then Some (m.change || says_changed (said x known)) else said x known)
    ≡ (if b || is_mentioned x known then Some ((b && m.change) || is_changed x known) else None)) [
      | true ↦ ap (λ c. Some (m.change || c)) (changed_of x known)
      | false ↦ refl
    ]

-- the bindings that are mentioned, from what is known of each
pub in_order : (x : ℕ) (bindings : List Binding) (seen : List (Option Bool)) (ms : List Captured) → length seen ≡ length bindings
    → ((k : ℕ) → k < length seen → get_or seen k None ≡ said (x + k) ms) → found_from x seen ≡ in_order_of_number x bindings ms
in_order x [] [] ms same each = refl
in_order x [] (s ∷ seen) ms same each = absurd (omega (arith, same))
in_order x (b ∷ bindings) [] ms same each = absurd (omega (arith, same))
in_order x (b ∷ bindings) (s ∷ seen) ms same each =
    let fewer : length seen ≡ length bindings = omega (arith, same) in
    let first : s ≡ said (x + 0) ms = each 0 (omega arith) in
    let here : s ≡ said x ms = let at : x + 0 ≡ x = omega arith in first ∙ ap (λ (n : ℕ). said n ms) at in
    let later : (k : ℕ) → k < length seen → get_or seen k None ≡ said (suc x + k) ms =
    λ (k : ℕ). λ (lt : k < length seen). let at : x + suc k ≡ suc x + k = omega arith in each (suc k) (omega (arith, lt)) ∙ ap (λ (n : ℕ). said n ms) at in
    let rest : found_from (suc x) seen ≡ in_order_of_number (suc x) bindings ms = in_order (suc x) bindings seen ms fewer later in
    ap (λ (k : Option Bool). found_from x (k ∷ seen)) here
    ∙ (elim (is_mentioned x ms) as (λ b. found_from x ((if b then Some (is_changed x ms) else None) ∷ seen)
    ≡ (if b then record { binding = x; change = is_changed x ms } ∷ in_order_of_number (suc x) bindings ms else in_order_of_number (suc x) bindings ms)) [
      | true ↦ ap (λ cs. record { binding = x; change = is_changed x ms } ∷ cs) rest
      | false ↦ rest
    ])

-- the captures of a closure, by its mentions
pub captured_by : (typed : Typed) (body : ℕ) (ms : List held.Captured) (seen : List (Option Bool)) (bodies count : ℕ) → bodies ≡ length typed.bodies → count ≡ length typed.bindings
    → captured_seen ms ≡ outer_mentions (program_view typed) bodies body → length seen ≡ count → ((k : ℕ) → k < count → get_or seen k None ≡ said k (captured_seen ms))
    → found_from 0 seen ≡ captures (program_view typed) body
captured_by typed body ms seen bodies count all bound mentioned same each =
    let here : (k : ℕ) → k < length seen → get_or seen k None ≡ said (0 + k) (captured_seen ms) =
    λ (k : ℕ). λ (lt : k < length seen). let at : k ≡ 0 + k = omega arith in each k (omega (arith, lt, same)) ∙ ap (λ (n : ℕ). said n (captured_seen ms)) at in
    let deep : bodies ≡ length (map body_view typed.bodies) = all ∙ sym (length-map typed.bodies body_view) in
    in_order 0 typed.bindings seen (captured_seen ms) (same ∙ bound) here
    ∙ ap (in_order_of_number 0 typed.bindings) (mentioned ∙ ap (λ n. outer_mentions (program_view typed) n body) deep)
