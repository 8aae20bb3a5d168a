-- Counts part by part are those of the definitions, as they are held.
use Rattle.std.proofs.Common.{◌≡◌, ℕ, zero, suc, ◌+◌, ◌-◌, ◌*◌, ◌^◌, ◌<◌, ◌≤◌, min, List, [], ◌∷◌, length, inl, inr, refl, sym, ap, ◌∙◌, arith}
use Rattle.std.proofs.lemmas.Bool.{cases_lt}
use Rattle.std.proofs.Math.Nat.{mul-le-mul_left}
use Rattle.own_tree.specs.declared.op.Op.{Op}
use Rattle.own_tree.specs.OpSource.{Ops, op, nothing, next, either, loop, catch, scope, break_at, continue_at, return_at, halt}
use Rattle.own_tree.specs.TypedSource.{TBody, Program}
use Rattle.own_paths.specs.BodyLimits.{op_count, maker_count, leaving, ways_out, leaves_at, leaves_of_all}
use Rattle.own_paths.specs.Makers.{leaves_declared, uses_of}
use Rattle.own_shapes.specs.Places.{whole}
use Rattle.own_shapes.specs.Types.{Types}
use Rattle.own_uses.specs.declared.tally.Tally.{Tally}
use Rattle.own_uses.specs.Leaves.{makers_of}
use Rattle.own_uses.specs.Saturating.{held}
use Rattle.own_uses.specs.Tally.{of_ends, weight, both_tallies, loop_tally, switch_tally, scope_tally, tally}

module _ (top : ℕ) where
  -- any largest value
  cut_add : (a b : ℕ) → min (min a top + min b top) top ≡ min (a + b) top
  cut_add a b = omega arith

  cut_times : (n w : ℕ) → min (n * min w top) top ≡ min (n * w) top
  cut_times zero w = omega arith
  cut_times (suc n) w = elim (cases_lt w top) [
    | inl lt ↦ let e : min w top ≡ w = omega (arith, lt) in ap (λ x. min (suc n * x) top) e
    | inr le ↦
        let e : min w top ≡ top = omega (arith, le) in
        let one = mul-le-mul_left n le in
        ap (λ x. min (suc n * x) top) e ∙ omega (arith, le, one)
  ]

  -- where both factors are cut off
  cut_mul : 0 < top → (n w : ℕ) → min (min n top * min w top) top ≡ min (n * w) top
  cut_mul some n w = elim (cases_lt n top) [
    | inl lt ↦ let e : min n top ≡ n = omega (arith, lt) in ap (λ x. min (x * min w top) top) e ∙ cut_times n w
    | inr le ↦ let e : min n top ≡ top = omega (arith, le) in ap (λ x. min (x * min w top) top) e ∙ over w n le
  ]
    where
      over : (w n : ℕ) → top ≤ n → min (top * min w top) top ≡ min (n * w) top
      over zero n le =
          let none : min 0 top ≡ 0 = omega arith in
          let here : top * 0 ≡ 0 = omega arith in
          let there : n * 0 ≡ 0 = omega arith in
          ap (λ x. min (top * x) top) none ∙ (λ i. min (here i) top) ∙ (λ i. min (sym there i) top)
      over (suc w) n le =
          let one : 1 ≤ min (suc w) top = omega (arith, some) in
          let large = mul-le-mul_left top one in
          let more = mul-le-mul_left n (let le : 1 ≤ suc w = omega arith in le) in
          omega (arith, large, more, le)

abbrev top : ℕ
top = 2 ^ 64 - 1

pub held_add : (a b : ℕ) → held (held a + held b) ≡ held (a + b)
held_add a b = cut_add top a b

-- a sum with one more
pub held_more : (sum x y rest total : ℕ) → x ≡ held y → total ≡ held (sum + x) → held (total + rest) ≡ held (sum + (y + rest))
held_more sum x y rest total one added = omega (arith, one, added)

-- and one with no more
pub held_done : (sum rest total : ℕ) → sum ≤ 2 ^ 64 - 1 → rest ≡ 0 → held (sum + rest) ≡ held total → sum ≡ held total
held_done sum rest total fits none is = omega (arith, fits, none, is)

module _ (one : Op → ℕ) (each : ℕ → ℕ) where
  -- the record of the counts of a tree, as they are held
  abbrev counted : Ops → Tally
  counted t = record { sum = held (weight one each t); breaks = held (leaving t).breaks; continues = held (leaving t).continues; returns = held (leaving t).returns }

  both_is : (a b : Ops) → both_tallies (counted a) (counted b)
      ≡ record { sum = held (weight one each a + weight one each b); breaks = held ((leaving a).breaks + (leaving b).breaks); continues = held ((leaving a).continues + (leaving b).continues); returns = held ((leaving a).returns + (leaving b).returns) }
  both_is a b = λ i. record {
    sum = held_add (weight one each a) (weight one each b) i;
    breaks = held_add (leaving a).breaks (leaving b).breaks i;
    continues = held_add (leaving a).continues (leaving b).continues i;
    returns = held_add (leaving a).returns (leaving b).returns i;
  }

scope_sum : (n b c r o : ℕ) → held (held (held n * held (held (held (held b + held c) + held r) + 1)) + held o) ≡ held (n * suc (b + c + r) + o)
scope_sum n b c r o =
    let jumps : held (held (b + c) + held r) ≡ held (b + c + r) = held_add (b + c) r in
    let last : held (held (b + c + r) + 1) ≡ held (suc (b + c + r)) = omega arith in
    let ways : held (held (held (held b + held c) + held r) + 1) ≡ held (suc (b + c + r)) =
    ap (λ x. held (held (x + held r) + 1)) (held_add b c) ∙ ap (λ x. held (x + 1)) jumps ∙ last in
    ap (λ x. held (held (held n * x) + held o)) ways ∙ ap (λ x. held (x + held o)) (cut_mul top (omega arith) n (suc (b + c + r))) ∙ held_add (n * suc (b + c + r)) o

module _ (one : Op → ℕ) (each : ℕ → ℕ) where
  pub tally_is : (t : Ops) → tally one each t ≡ counted one each t
  tally_is (op o) = refl
  tally_is nothing = refl
  tally_is (next a b) = ap (λ x. both_tallies x (tally one each b)) (tally_is a) ∙ ap (λ y. both_tallies (counted one each a) y) (tally_is b) ∙ both_is one each a b
  tally_is (either a b) = ap (λ x. both_tallies x (tally one each b)) (tally_is a) ∙ ap (λ y. both_tallies (counted one each a) y) (tally_is b) ∙ both_is one each a b
  tally_is (loop a b) =
      ap loop_tally (ap (λ x. both_tallies x (tally one each b)) (tally_is a) ∙ ap (λ y. both_tallies (counted one each a) y) (tally_is b) ∙ both_is one each a b)
  tally_is (catch a) = ap switch_tally (tally_is a)
  tally_is (scope xs close a) =
      ap (scope_tally (held (of_ends each xs))) (tally_is a)
      ∙ (λ i. record {
        sum = scope_sum (of_ends each xs) (leaving a).breaks (leaving a).continues (leaving a).returns (weight one each a) i;
        breaks = held (leaving a).breaks;
        continues = held (leaving a).continues;
        returns = held (leaving a).returns;
      })
  tally_is (break_at s) = refl
  tally_is (continue_at s) = refl
  tally_is (return_at s) = refl
  tally_is halt = refl

  pub sum_is : (t : Ops) → (tally one each t).sum ≡ held (weight one each t)
  sum_is t = ap (λ (c : Tally). c.sum) (tally_is t)

-- ---- each op once

ends_once : (xs : List ℕ) → of_ends (λ x. 1) xs ≡ length xs
ends_once [] = refl
ends_once (x ∷ xs) = omega (arith, ends_once xs)

pub ops_weight : (t : Ops) → weight (λ o. 1) (λ x. 1) t ≡ op_count t
ops_weight (op o) = refl
ops_weight nothing = refl
ops_weight (next a b) = (λ i. ops_weight a i + ops_weight b i)
ops_weight (either a b) = (λ i. ops_weight a i + ops_weight b i)
ops_weight (loop a b) = (λ i. ops_weight a i + ops_weight b i)
ops_weight (catch a) = ops_weight a
ops_weight (scope xs close a) = (λ i. ends_once xs i * ways_out a + ops_weight a i)
ops_weight (break_at s) = refl
ops_weight (continue_at s) = refl
ops_weight (return_at s) = refl
ops_weight halt = refl

-- ---- makers

module _ (types : Types) (program : Program) (k : ℕ) (body : TBody) where
  abbrev at_end : ℕ → ℕ
  at_end x = leaves_at (whole x) (leaves_declared types k 0 program.bindings)

  ends_make : (xs : List ℕ) → of_ends at_end xs ≡ leaves_of_all xs (leaves_declared types k 0 program.bindings)
  ends_make [] = refl
  ends_make (x ∷ xs) = ap (λ n. at_end x + n) (ends_make xs)

  pub makers_weight : (t : Ops) → weight (makers_of types program k) at_end t ≡ maker_count (uses_of types program k body) t
  makers_weight (op o) = refl
  makers_weight nothing = refl
  makers_weight (next a b) = (λ i. makers_weight a i + makers_weight b i)
  makers_weight (either a b) = (λ i. makers_weight a i + makers_weight b i)
  makers_weight (loop a b) = (λ i. makers_weight a i + makers_weight b i)
  makers_weight (catch a) = makers_weight a
  makers_weight (scope xs close a) = (λ i. ends_make xs i * ways_out a + makers_weight a i)
  makers_weight (break_at s) = refl
  makers_weight (continue_at s) = refl
  makers_weight (return_at s) = refl
  makers_weight halt = refl
