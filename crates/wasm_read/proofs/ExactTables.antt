-- Tables and memories are read exactly as they are spelled.
use Rattle.std.proofs.Common.{◌≡◌, ℕ, ◌≤◌, true, cond, ltb, eqb, List, [], ◌∷◌, ◌++◌, length, Option, Some, None, Ok, Err, refl, sym, ap, subst, ◌∙◌, append_assoc, arith, inl, inr}
use Rattle.std.specs.Prelude.{nat_lt, ◌==◌}
use Rattle.std.proofs.lemmas.Bool.{le-ltb, ltb-false, eqb-true, eqb-false}
use Rattle.std.proofs.lemmas.List.{append-nil}
use Rattle.wasm_form.specs.declared.types.Limits.{Limits}
use Rattle.wasm_form.specs.declared.limits.ModuleLimit.TheVariants as limit
use Rattle.wasm_form.specs.Bytes.{IsU32, IsList, AreBounds, IsTable, IsMemory}
use Rattle.wasm_read.specs.declared.fault.Fault.{Fault}
use Rattle.wasm_read.specs.declared.fault.Fault.TheVariants.{NotModule, Limit}
use Rattle.wasm_read.specs.Reading.{◌>>=◌, Reader, u32_at, count_at}
use Rattle.wasm_read.specs.Types.{max_at, limits_at, at_most_one, table_at, memory_at}
use Rattle.wasm_read.proofs.Leads.{ok_is}
use Rattle.wasm_read.proofs.Numbers.{chosen, bind_ok}
use Rattle.wasm_read.proofs.Exact.{Takes, Exact, left_with, exact_u32}
use Rattle.wasm_read.proofs.ExactTypes.{count_found, count_only}
use Rattle.wasm_read.proofs.Parts.{none_is, two_parts, exact_as, exact_when, exact_headed, Headed}
use Rattle.wasm_form.specs.declared.limits.TheConstants.{MOST_TABLE, MOST_PAGES}

-- ---- limits

abbrev bounds : ℕ → Option ℕ → Limits
bounds min max = record { min = min; max = max }

bounds_only : (most : ℕ) (fault : Fault) (min : ℕ) (max : Option ℕ) (front rest : List ℕ) → min ≤ most → AreBounds min max front → limits_at most fault (front ++ rest) ≡ Ok (bounds min max, rest)
unfolding limits_at
bounds_only most fault min None [] rest le h = absurd h
bounds_only most fault min None (b ∷ front) rest le h = rw (h.0, count_only most min fault front rest le h.1) refl
bounds_only most fault min (Some max) [] rest le h = absurd h.1
bounds_only most fault min (Some max) (b ∷ front) rest le h =
    let t = h.1.1 in
    rw (h.1.0, two_parts front t.front t.back rest t.parts, count_only most min fault t.front (t.back ++ rest) le t.first, exact_u32.only max t.back rest t.second, le-ltb max min h.0) refl

abbrev IsBounded : ℕ → Limits → List ℕ → Type 0
IsBounded most l bytes = (l.min ≤ most) × AreBounds l.min l.max bytes

largest_found : (most b : ℕ) (rest left : List ℕ) (min : ℕ) (x : Limits × List ℕ) → min ≤ most → b ≡ 0x01 → (front : List ℕ) → rest ≡ front ++ left → IsU32 min front → max_at min left ≡ Ok x → Takes (IsBounded most x.0) (b ∷ rest) x.1
largest_found most b rest left min x le one front parts number e =
    let m = bind_ok (u32_at left) (λ max. cond (nat_lt max.0 min) (Err NotModule) (left_with (bounds min (Some max.0)) max.1)) x e in
    elim (chosen (ltb m.0.0 min) _ _ _ m.2) [
      | inl p ↦ absurd cc
      | inr p ↦
          let t = exact_u32.found left m.0 m.1 in
          subst (λ (y : Limits × List ℕ). Takes (IsBounded most y.0) (b ∷ rest) y.1) (ok_is (bounds min (Some m.0.0), m.0.1) x p.1)
          (record {
            front = b ∷ (front ++ t.front);
            parts = ap (λ (l : List ℕ). b ∷ l) (parts ∙ ap (λ (l : List ℕ). front ++ l) t.parts ∙ sym (append_assoc front t.front m.0.1));
            is = (le, (ltb-false m.0.0 min p.0, (one, record { front = front; back = t.front; parts = refl; first = number; second = t.is })));
          })
    ]

bounds_found : (most : ℕ) (fault : Fault) (bytes : List ℕ) (x : Limits × List ℕ) → limits_at most fault bytes ≡ Ok x → Takes (IsBounded most x.0) bytes x.1
unfolding limits_at
bounds_found most fault [] x e = absurd cc
bounds_found most fault (b ∷ rest) x e = elim (chosen (ltb 1 b) _ _ _ e) [
  | inl p ↦ absurd cc
  | inr p ↦
      let k = bind_ok (count_at most fault rest) (λ min. cond (b == 0) (left_with (bounds min.0 None) min.1) (max_at min.0 min.1)) x p.1 in
      let c = count_found most fault rest k.0 k.1 in
      elim (chosen (b == 0) _ _ _ k.2) [
        | inl q ↦
            subst (λ (y : Limits × List ℕ). Takes (IsBounded most y.0) (b ∷ rest) y.1) (ok_is (bounds k.0.0 None, k.0.1) x q.1)
            (record { front = b ∷ c.1.front; parts = ap (λ (l : List ℕ). b ∷ l) c.1.parts; is = (c.0, (eqb-true b 0 q.0, c.1.is)) })
        | inr q ↦
            let low = ltb-false 1 b p.0 in
            let some = eqb-false b 0 q.0 in
            largest_found most b rest k.0.1 k.0.0 x c.0 (omega (arith, low, some)) c.1.front c.1.parts c.1.is q.1
      ]
]

exact_bounds : (most : ℕ) (fault : Fault) → Exact (IsBounded most) (limits_at most fault)
exact_bounds most fault = record { found = bounds_found most fault; only = λ l front rest h. bounds_only most fault l.min l.max front rest h.0 h.1 }

pub exact_memory : Exact IsMemory memory_at
exact_memory = exact_bounds MOST_PAGES (Limit limit.Pages)

table_to : (l : Limits) (bytes : List ℕ) → Headed (λ b l bs. (eqb b 0x70 ≡ true) × IsBounded MOST_TABLE l bs) l bytes → IsTable l bytes
table_to l [] h = absurd h
table_to l (b ∷ bytes) h = (h.1.0, (eqb-true b 0x70 h.0, h.1.1))

table_from : (l : Limits) (bytes : List ℕ) → IsTable l bytes → Headed (λ b l bs. (eqb b 0x70 ≡ true) × IsBounded MOST_TABLE l bs) l bytes
table_from l [] h = absurd h.1
table_from l (b ∷ bytes) h = (ap (λ x. eqb x 0x70) h.1.0, (h.0, h.1.1))

pub exact_table : Exact IsTable table_at
unfolding table_at
exact_table =
    exact_as (Headed (λ b l bs. (eqb b 0x70 ≡ true) × IsBounded MOST_TABLE l bs)) IsTable table_at
    (exact_headed (λ b l bs. (eqb b 0x70 ≡ true) × IsBounded MOST_TABLE l bs) table_at (λ b bytes. cond (b == 0x70) (limits_at MOST_TABLE (Limit limit.Table) bytes) (Err NotModule)) NotModule refl (λ b rest. refl)
    (λ b. exact_when (b == 0x70) NotModule (IsBounded MOST_TABLE) (limits_at MOST_TABLE (Limit limit.Table)) (exact_bounds MOST_TABLE (Limit limit.Table))))
    table_to table_from

-- ---- a list of at most one

module _ (P : Limits → List ℕ → Type 0) (one : Reader Limits) (exact : Exact P one) where
  few_found : (bytes : List ℕ) (x : List Limits × List ℕ) → at_most_one one bytes ≡ Ok x → Takes (λ bs. (length x.0 ≤ 1) × IsList (λ _. P) x.0 bs) bytes x.1
  unfolding at_most_one
  few_found bytes x e =
      let k = bind_ok (u32_at bytes) (λ n. cond (n.0 == 0) (left_with [] n.1) (cond (n.0 == 1) (one n.1 >>= λ y. left_with (y.0 ∷ []) y.1) (Err NotModule))) x e in
      let first = exact_u32.found bytes k.0 k.1 in
      elim (chosen (k.0.0 == 0) _ _ _ k.2) [
        | inl p ↦
            let number : IsU32 0 first.front = subst (λ n. IsU32 n first.front) (eqb-true k.0.0 0 p.0) first.is in
            subst (λ (y : List Limits × List ℕ). Takes (λ bs. (length y.0 ≤ 1) × IsList (λ _. P) y.0 bs) bytes y.1) (ok_is ([], k.0.1) x p.1)
            (record { front = first.front; parts = first.parts; is = (omega arith, none_is (IsU32 0) first.front number) })
        | inr p ↦ elim (chosen (k.0.0 == 1) _ _ _ p.1) [
          | inl q ↦
              let y = bind_ok (one k.0.1) (λ y. left_with (y.0 ∷ []) y.1) x q.1 in
              let t = exact.found k.0.1 y.0 y.1 in
              let number : IsU32 1 first.front = subst (λ n. IsU32 n first.front) (eqb-true k.0.0 1 q.0) first.is in
              subst (λ (z : List Limits × List ℕ). Takes (λ bs. (length z.0 ≤ 1) × IsList (λ _. P) z.0 bs) bytes z.1) (ok_is (y.0.0 ∷ [], y.0.1) x y.2)
              (record {
                front = first.front ++ t.front;
                parts = first.parts ∙ ap (λ (l : List ℕ). first.front ++ l) t.parts ∙ sym (append_assoc first.front t.front y.0.1);
                is = (omega arith, record { front = first.front; back = t.front; parts = refl; first = number; second = none_is (P y.0.0) t.front t.is });
              })
          | inr q ↦ absurd cc
        ]
      ]

  few_only : (ls : List Limits) (front rest : List ℕ) → (length ls ≤ 1) × IsList (λ _. P) ls front → at_most_one one (front ++ rest) ≡ Ok (ls, rest)
  unfolding at_most_one
  few_only [] front rest h =
      let t = h.1 in
      let whole : front ++ rest ≡ t.front ++ rest = ap (λ (l : List ℕ). l ++ rest) (t.parts ∙ ap (λ (l : List ℕ). t.front ++ l) t.second ∙ append-nil t.front) in
      rw (whole, exact_u32.only 0 t.front rest t.first) refl
  few_only (l ∷ []) front rest h =
      let t = h.1 in
      let item = t.second in
      let back : t.back ≡ item.front = item.parts ∙ ap (λ (l : List ℕ). item.front ++ l) item.second ∙ append-nil item.front in
      let whole : front ++ rest ≡ t.front ++ (item.front ++ rest) = two_parts front t.front t.back rest t.parts ∙ ap (λ (l : List ℕ). t.front ++ (l ++ rest)) back in
      rw (whole, exact_u32.only 1 t.front (item.front ++ rest) t.first, exact.only l item.front rest item.first) refl
  few_only (l ∷ k ∷ ls) front rest h = let many = h.0 in absurd (omega (arith, many))

  pub exact_at_most_one : Exact (λ ls bytes. (length ls ≤ 1) × IsList (λ _. P) ls bytes) (at_most_one one)
  exact_at_most_one = record { found = few_found; only = few_only }
