-- The instructions do each operation exactly.
use Rattle.std.proofs.Common.{◌≡◌, ℕ, suc, ◌+◌, ◌^◌, ◌<◌, ◌≤◌, None, List, [], ◌∷◌, ◌++◌, length, refl, sym, subst, arith, Bool, true, false, Ok, ◌&&◌}
use Rattle.std.specs.Prelude.{ℤ, int_div}
use Rattle.std.specs.Int.{w64, cast_unsigned}
use Rattle.own_tree.specs.declared.arithmetic.Arith.{Arith}
use Rattle.own_tree.specs.declared.arithmetic.Arith.TheVariants.{Add, Sub, Mul, Div, Rem, Neg}
use Rattle.wasm_form.specs.declared.instr.Instr.{Instr}
use Rattle.wasm_form.specs.declared.instr.Instr.TheVariants as i
use Rattle.wasm_form.specs.declared.limits.TheConstants.{MOST_OPERANDS}
use Rattle.wasm_form.specs.declared.module.Module.{Module}
use Rattle.wasm_form.specs.declared.types.Value.{Value}
use Rattle.wasm_form.specs.declared.types.Value.TheVariants.{I32, I64}
use Rattle.wasm_form.specs.Steps.{Config, Next, Goes, Traps, below_all}
use Rattle.wasm_form.specs.Integers.{ieqz, ieq, ine, ilt_s, igt_s, iadd, isub, imul, idiv_s}
use Rattle.own_ways.specs.Exact.{exact}
use Rattle.wasm_laws.specs.Places.{on, word}
use Rattle.wasm_laws.specs.Stretches.{steps, Leads}
use Rattle.wasm_laws.proofs.Stretches.{arrives, leads}
use Rattle.wasm_laws.proofs.Opcodes.{unlike}
use Rattle.wasm_laws.proofs.Opcodes as step
use Rattle.low_arith.specs.Code.{checked_code, sum_code, difference_code, product_code, product_tests, division_tests, negation_code, trap_if}
use Rattle.low_arith.specs.Checked.{locals_with, met, HasTrap, IsChecked}
use Rattle.low_arith.proofs.Laws.{passes, falls, inside}
use Rattle.low_arith.proofs.Laws as law
use Rattle.low_arith.proofs.Numbers.{signed, sum_is_int, sum_is_none, sum_bits, difference_is_int, difference_is_none, difference_bits, negation_is_int, negation_is_none, negation_bits, quotient_is_int, quotient_is_none, divisor_is_zero, product_by_minus_one, product_bits, product_is_int, product_is_none, product_of_zero, product_of_least}
use Rattle.low_arith.proofs.Numbers as number

module _ (m : Module) (trap : HasTrap m) (c : Config) (rest : List Instr) (values : List Value) (base : Value) (others : List Value) (at : ℕ) (room : length values + below_all c.layers + 4 ≤ MOST_OPERANDS) where
  -- as many values more may be pushed
  one : length values + below_all c.layers < MOST_OPERANDS
  one = omega (arith, room)

  two : suc (length values) + below_all c.layers < MOST_OPERANDS
  two = omega (arith, room)

  three : suc (suc (length values)) + below_all c.layers < MOST_OPERANDS
  three = omega (arith, room)

  room_to_trap : length values + below_all c.layers + 2 ≤ MOST_OPERANDS
  room_to_trap = omega (arith, room)

  -- in an if that has nothing below
  zero_in : 0 + (length values + below_all c.layers) < MOST_OPERANDS
  zero_in = omega (arith, room)

  one_in : 1 + (length values + below_all c.layers) < MOST_OPERANDS
  one_in = omega (arith, room)

  two_in : 2 + (length values + below_all c.layers) < MOST_OPERANDS
  two_in = omega (arith, room)

  room_to_trap_in : 0 + (length values + below_all c.layers) + 2 ≤ MOST_OPERANDS
  room_to_trap_in = omega (arith, room)

  room_to_trap_on_one : suc (length values) + below_all c.layers + 2 ≤ MOST_OPERANDS
  room_to_trap_on_one = omega (arith, room)

  abbrev done : ℕ → ℕ → ℤ → Config
  done p q z = on c rest (I64 (cast_unsigned w64 z) ∷ values) (locals_with base p q others)

  module _ (p q a b : ℕ) (la : a < 2 ^ 64) (lb : b < 2 ^ 64) where
    -- with the operands in their locals
    abbrev place : List Instr → List Value → Config
    place code vs = on c code vs (locals_with base a b others)

    -- the operands on the stack
    abbrev start : List Instr → Config
    start code = on c code (I64 b ∷ I64 a ∷ values) (locals_with base p q others)

    -- ---- sums

    sum_end : Leads m 3 (place (i.LocalGet 1 ∷ i.LocalGet 2 ∷ i.I64Add ∷ rest) values) (Goes (place rest (I64 (iadd w64 a b) ∷ values)))
    sum_end = leads (law.gets_first m c one) (leads (law.gets_second m c two) (leads step.adds64 arrives))

    sum_leads : (next : Next)
        → Leads m 5 (place (trap_if 1 at ∷ i.LocalGet 1 ∷ i.LocalGet 2 ∷ i.I64Add ∷ rest) (I32 (word (unlike (ilt_s w64 (iadd w64 a b) a) (ilt_s w64 b 0))) ∷ values)) next
        → Leads m 15 (start (sum_code at ++ rest)) next
    sum_leads next t =
        leads (law.sets_second m c q b)
        (leads (law.tees_first m c p a)
        (leads (law.gets_second m c two)
        (leads step.adds64
        (leads (law.gets_first m c two)
        (leads (step.told _ refl step.is_less)
        (leads (law.gets_second m c two)
        (leads (step.puts64 three)
        (leads (step.told _ refl step.is_less)
        (leads (step.differ _ _) t)))))))))

    pub sum_checked : Leads m 15 (start (sum_code at ++ rest)) (met (exact Add (signed a) (signed b)) at (done a b))
    sum_checked = go (unlike (ilt_s w64 (iadd w64 a b) a) (ilt_s w64 b 0)) refl
      where
        go : (u : Bool) → unlike (ilt_s w64 (iadd w64 a b) a) (ilt_s w64 b 0) ≡ u → Leads m 15 (start (sum_code at ++ rest)) (met (exact Add (signed a) (signed b)) at (done a b))
        go true u = rw (sum_is_none a b la lb u) (sum_leads _ (rw u (falls m c trap 1 1 at room_to_trap)))
        go false u =
            let int = sum_is_int a b la lb u in
            rw (int, sum_bits a b la lb int) (sum_leads _ (rw u (passes m c 1 at sum_end)))

    -- ---- differences

    difference_end : Leads m 3 (place (i.LocalGet 1 ∷ i.LocalGet 2 ∷ i.I64Sub ∷ rest) values) (Goes (place rest (I64 (isub w64 a b) ∷ values)))
    difference_end = leads (law.gets_first m c one) (leads (law.gets_second m c two) (leads step.subtracts64 arrives))

    difference_leads : (next : Next)
        → Leads m 5 (place (trap_if 1 at ∷ i.LocalGet 1 ∷ i.LocalGet 2 ∷ i.I64Sub ∷ rest) (I32 (word (unlike (igt_s w64 (isub w64 a b) a) (ilt_s w64 b 0))) ∷ values)) next
        → Leads m 15 (start (difference_code at ++ rest)) next
    difference_leads next t =
        leads (law.sets_second m c q b)
        (leads (law.tees_first m c p a)
        (leads (law.gets_second m c two)
        (leads step.subtracts64
        (leads (law.gets_first m c two)
        (leads (step.told _ refl step.is_greater)
        (leads (law.gets_second m c two)
        (leads (step.puts64 three)
        (leads (step.told _ refl step.is_less)
        (leads (step.differ _ _) t)))))))))

    pub difference_checked : Leads m 15 (start (difference_code at ++ rest)) (met (exact Sub (signed a) (signed b)) at (done a b))
    difference_checked = go (unlike (igt_s w64 (isub w64 a b) a) (ilt_s w64 b 0)) refl
      where
        go : (u : Bool) → unlike (igt_s w64 (isub w64 a b) a) (ilt_s w64 b 0) ≡ u → Leads m 15 (start (difference_code at ++ rest)) (met (exact Sub (signed a) (signed b)) at (done a b))
        go true u = rw (difference_is_none a b la lb u) (difference_leads _ (rw u (falls m c trap 1 1 at room_to_trap)))
        go false u =
            let int = difference_is_int a b la lb u in
            rw (int, difference_bits a b la lb int) (difference_leads _ (rw u (passes m c 1 at difference_end)))

    -- ---- products

    product_end : Leads m 3 (place (i.LocalGet 1 ∷ i.LocalGet 2 ∷ i.I64Mul ∷ rest) values) (Goes (place rest (I64 (imul w64 a b) ∷ values)))
    product_end = leads (law.gets_first m c one) (leads (law.gets_second m c two) (leads step.multiplies64 arrives))

    abbrev after_tests : List Instr
    after_tests = i.LocalGet 1 ∷ i.LocalGet 2 ∷ i.I64Mul ∷ rest

    -- in the tests, which are a side of an if
    abbrev tested : List Instr → List Value → Config
    tested code vs = on (inside values after_tests c) code vs (locals_with base a b others)

    product_begins : (n : ℕ) (next : Next) (zero : Bool) → ieqz a ≡ zero
        → Leads m n (place (i.If None [] (product_tests at) ∷ after_tests) (I32 (word zero) ∷ values)) next
        → Leads m (suc (suc (suc n))) (start (product_code at ++ rest)) next
    product_begins n next zero z t = leads (law.sets_second m c q b) (leads (law.tees_first m c p a) (leads (step.told zero z step.tests) t))

    abbrev second_test : List Instr
    second_test = i.LocalGet 1 ∷ i.LocalGet 2 ∷ i.I64Mul ∷ i.LocalGet 1 ∷ i.I64DivS ∷ i.LocalGet 2 ∷ i.I64Ne ∷ trap_if 1 at ∷ []

    product_tests_first : (next : Next) (least : Bool) → (ieq a 18446744073709551615 && ieq b 9223372036854775808) ≡ least
        → Leads m 15 (tested (trap_if 1 at ∷ second_test) (I32 (word least) ∷ [])) next → Leads m 22 (tested (product_tests at) []) next
    product_tests_first next least e t =
        let d = inside values after_tests c in
        leads (law.gets_first m d zero_in)
        (leads (step.puts64 one_in)
        (leads (step.told _ refl step.equals)
        (leads (law.gets_second m d one_in)
        (leads (step.puts64 two_in)
        (leads (step.told _ refl step.equals)
        (leads (step.both _ _) (subst (λ (x : Bool). Leads m 15 (tested (trap_if 1 at ∷ second_test) (I32 (word x) ∷ [])) next) (sym e) t)))))))

    product_tests_second : (next : Next) (n : ℕ) (other : Bool) → idiv_s w64 (imul w64 a b) a ≡ Ok n → ine n b ≡ other
        → Leads m 6 (tested (trap_if 1 at ∷ []) (I32 (word other) ∷ [])) next → Leads m 13 (tested second_test []) next
    product_tests_second next n other e f t =
        let d = inside values after_tests c in
        leads (law.gets_first m d zero_in)
        (leads (law.gets_second m d one_in)
        (leads step.multiplies64
        (leads (law.gets_first m d one_in)
        (leads (step.divides64 e)
        (leads (law.gets_second m d one_in)
        (leads (step.told other f step.differs) t))))))

    pub product_by_zero : ieqz a ≡ true → Leads m 8 (start (product_code at ++ rest)) (met (exact Mul (signed a) (signed b)) at (done a b))
    product_by_zero z =
        let int = product_of_zero a b z in
        rw (int, product_bits a b la lb int) (product_begins 5 _ true z (leads (step.chooses [] _) (leads step.leaves product_end)))

    product_tested : ieqz a ≡ false → (next : Next) → Leads m 22 (tested (product_tests at) []) next → Leads m 26 (start (product_code at ++ rest)) next
    product_tested z next t = product_begins 23 next false z (leads (step.chooses [] _) t)

    pub product_checked : ieqz a ≡ false → Leads m 26 (start (product_code at ++ rest)) (met (exact Mul (signed a) (signed b)) at (done a b))
    product_checked z = first (ieq a 18446744073709551615 && ieq b 9223372036854775808) refl
      where
        d : Config
        d = inside values after_tests c

        n : ℕ
        n = cast_unsigned w64 (int_div (signed (imul w64 a b)) (signed a))

        second : (ieq a 18446744073709551615 && ieq b 9223372036854775808) ≡ false → (other : Bool) → ine n b ≡ other → Leads m 26 (start (product_code at ++ rest)) (met (exact Mul (signed a) (signed b)) at (done a b))
        second e true f =
            let g = product_by_minus_one a b lb e in
            rw (product_is_none a b la lb z f) (product_tested z _ (product_tests_first _ false e (passes m d 1 at (product_tests_second _ n true (number.divides (imul w64 a b) a z g) f (falls m d trap 2 1 at room_to_trap_in)))))
        second e false f =
            let g = product_by_minus_one a b lb e in
            let int = product_is_int a b la lb z g f in
            rw (int, product_bits a b la lb int) (product_tested z _ (product_tests_first _ false e (passes m d 1 at (product_tests_second _ n false (number.divides (imul w64 a b) a z g) f (passes m d 1 at (leads step.leaves product_end))))))

        first : (least : Bool) → (ieq a 18446744073709551615 && ieq b 9223372036854775808) ≡ least → Leads m 26 (start (product_code at ++ rest)) (met (exact Mul (signed a) (signed b)) at (done a b))
        first true e = rw (product_of_least a b e) (product_tested z _ (product_tests_first _ true e (falls m d trap 11 1 at room_to_trap_in)))
        first false e = second e (ine n b) refl

    -- ---- quotients and remainders

    abbrev past_zero : Instr → List Instr
    past_zero last = i.LocalTee 1 ∷ i.I64Const 9223372036854775808 ∷ i.I64Eq ∷ i.LocalGet 2 ∷ i.I64Const 18446744073709551615 ∷ i.I64Eq ∷ i.I32And ∷ trap_if 1 at ∷ i.LocalGet 1 ∷ i.LocalGet 2 ∷ last ∷ rest

    division_begins : (last : Instr) (next : Next) (zero : Bool) → ieqz b ≡ zero
        → Leads m 14 (on c (trap_if 2 at ∷ past_zero last) (I32 (word zero) ∷ I64 a ∷ values) (locals_with base p b others)) next
        → Leads m 16 (start ((division_tests at ++ last ∷ []) ++ rest)) next
    division_begins last next zero z t = leads (law.tees_second m c q b) (leads (step.told zero z step.tests) t)

    division_goes_on : (last : Instr) (next : Next) (least : Bool) → (ieq a 9223372036854775808 && ieq b 18446744073709551615) ≡ least
        → Leads m 5 (place (trap_if 1 at ∷ i.LocalGet 1 ∷ i.LocalGet 2 ∷ last ∷ rest) (I32 (word least) ∷ values)) next
        → Leads m 12 (on c (past_zero last) (I64 a ∷ values) (locals_with base p b others)) next
    division_goes_on last next least e t =
        leads (law.tees_first m c p a)
        (leads (step.puts64 two)
        (leads (step.told _ refl step.equals)
        (leads (law.gets_second m c two)
        (leads (step.puts64 three)
        (leads (step.told _ refl step.equals)
        (leads (step.both _ _) (subst (λ (x : Bool). Leads m 5 (place (trap_if 1 at ∷ i.LocalGet 1 ∷ i.LocalGet 2 ∷ last ∷ rest) (I32 (word x) ∷ values)) next) (sym e) t)))))))

    division_by_zero : (last : Instr) → ieqz b ≡ true → Leads m 16 (start ((division_tests at ++ last ∷ []) ++ rest)) (Traps 2 at)
    division_by_zero last z = division_begins last _ true z (falls m c trap 10 2 at room_to_trap_on_one)

    division_overflows : (last : Instr) → ieqz b ≡ false → (ieq a 9223372036854775808 && ieq b 18446744073709551615) ≡ true → Leads m 16 (start ((division_tests at ++ last ∷ []) ++ rest)) (Traps 1 at)
    division_overflows last z e = division_begins last _ false z (passes m c 2 at (division_goes_on last _ true e (falls m c trap 1 1 at room_to_trap)))

    division_ends : (last : Instr) (next : Next) → ieqz b ≡ false → (ieq a 9223372036854775808 && ieq b 18446744073709551615) ≡ false
        → Leads m 1 (place (last ∷ rest) (I64 b ∷ I64 a ∷ values)) next → Leads m 16 (start ((division_tests at ++ last ∷ []) ++ rest)) next
    division_ends last next z e t = division_begins last _ false z (passes m c 2 at (division_goes_on last _ false e (passes m c 1 at (leads (law.gets_first m c one) (leads (law.gets_second m c two) t)))))

    pub quotient_checked : Leads m 16 (start ((division_tests at ++ i.I64DivS ∷ []) ++ rest)) (met (exact Div (signed a) (signed b)) at (done a b))
    quotient_checked = go (ieqz b) refl (ieq a 9223372036854775808 && ieq b 18446744073709551615) refl
      where
        go : (zero : Bool) → ieqz b ≡ zero → (least : Bool) → (ieq a 9223372036854775808 && ieq b 18446744073709551615) ≡ least
            → Leads m 16 (start ((division_tests at ++ i.I64DivS ∷ []) ++ rest)) (met (exact Div (signed a) (signed b)) at (done a b))
        go true z least e = rw (divisor_is_zero b lb true z) (division_by_zero i.I64DivS z)
        go false z true e = rw (divisor_is_zero b lb false z, quotient_is_none a b e) (division_overflows i.I64DivS z e)
        go false z false e = rw (divisor_is_zero b lb false z, quotient_is_int a b la lb e) (division_ends i.I64DivS _ z e (leads (step.divides64 (number.divides a b z e)) arrives))

    pub remainder_checked : Leads m 16 (start ((division_tests at ++ i.I64RemS ∷ []) ++ rest)) (met (exact Rem (signed a) (signed b)) at (done a b))
    remainder_checked = go (ieqz b) refl (ieq a 9223372036854775808 && ieq b 18446744073709551615) refl
      where
        go : (zero : Bool) → ieqz b ≡ zero → (least : Bool) → (ieq a 9223372036854775808 && ieq b 18446744073709551615) ≡ least
            → Leads m 16 (start ((division_tests at ++ i.I64RemS ∷ []) ++ rest)) (met (exact Rem (signed a) (signed b)) at (done a b))
        go true z least e = rw (divisor_is_zero b lb true z) (division_by_zero i.I64RemS z)
        go false z true e = rw (divisor_is_zero b lb false z, quotient_is_none a b e) (division_overflows i.I64RemS z e)
        go false z false e = rw (divisor_is_zero b lb false z, quotient_is_int a b la lb e) (division_ends i.I64RemS _ z e (leads (step.leaves_rest64 (number.leaves a b z)) arrives))

    -- ---- negations

    pub negation_checked : Leads m 8 (on c (negation_code at ++ rest) (I64 b ∷ values) (locals_with base p q others)) (met (exact Neg (signed a) (signed b)) at (done b q))
    negation_checked = go (ieq b 9223372036854775808) refl
      where
        begins : (least : Bool) (next : Next) → ieq b 9223372036854775808 ≡ least
            → Leads m 5 (on c (trap_if 1 at ∷ i.I64Const 0 ∷ i.LocalGet 1 ∷ i.I64Sub ∷ rest) (I32 (word least) ∷ values) (locals_with base b q others)) next
            → Leads m 8 (on c (negation_code at ++ rest) (I64 b ∷ values) (locals_with base p q others)) next
        begins least next e t = leads (law.tees_first m c p b) (leads (step.puts64 two) (leads (step.told least e step.equals) t))

        go : (least : Bool) → ieq b 9223372036854775808 ≡ least → Leads m 8 (on c (negation_code at ++ rest) (I64 b ∷ values) (locals_with base p q others)) (met (exact Neg (signed a) (signed b)) at (done b q))
        go true e = rw (negation_is_none b lb e) (begins true _ e (falls m c trap 1 1 at room_to_trap))
        go false e =
            let int = negation_is_int b lb e in
            rw (int, negation_bits b lb int) (begins false _ e (passes m c 1 at (leads (step.puts64 one) (leads (law.gets_first m c two) (leads step.subtracts64 arrives)))))

-- ---- all operations

pub all_checked : (op : Arith) (at : ℕ) → IsChecked op at (checked_code op at)
unfolding checked_code
all_checked Add at = record { does = λ m c rest values base p q others a b trap la lb room. (15, a, b, omega arith, (sum_checked m trap c rest values base others at room p q a b la lb).by) }
all_checked Sub at = record { does = λ m c rest values base p q others a b trap la lb room. (15, a, b, omega arith, (difference_checked m trap c rest values base others at room p q a b la lb).by) }
all_checked Mul at = record { does = λ m c rest values base p q others a b trap la lb room. product m c rest values base p q others a b trap la lb room (ieqz a) refl }
  where
    product : (m : Module) (c : Config) (rest : List Instr) (values : List Value) (base : Value) (p q : ℕ) (others : List Value) (a b : ℕ)
        → HasTrap m → a < 2 ^ 64 → b < 2 ^ 64 → length values + below_all c.layers + 4 ≤ MOST_OPERANDS → (zero : Bool) → ieqz a ≡ zero
        → (n first second : ℕ) × (n ≤ 26) × (steps m n (on c (product_code at ++ rest) (I64 b ∷ I64 a ∷ values) (locals_with base p q others))
        ≡ met (exact Mul (signed a) (signed b)) at (λ z. on c rest (I64 (cast_unsigned w64 z) ∷ values) (locals_with base first second others)))
    product m c rest values base p q others a b trap la lb room true z = (8, a, b, omega arith, (product_by_zero m trap c rest values base others at room p q a b la lb z).by)
    product m c rest values base p q others a b trap la lb room false z = (26, a, b, omega arith, (product_checked m trap c rest values base others at room p q a b la lb z).by)
all_checked Div at = record { does = λ m c rest values base p q others a b trap la lb room. (16, a, b, omega arith, (quotient_checked m trap c rest values base others at room p q a b la lb).by) }
all_checked Rem at = record { does = λ m c rest values base p q others a b trap la lb room. (16, a, b, omega arith, (remainder_checked m trap c rest values base others at room p q a b la lb).by) }
all_checked Neg at = record { does = λ m c rest values base p q others a b trap la lb room. (8, b, q, omega arith, (negation_checked m trap c rest values base others at room p q a b la lb).by) }
