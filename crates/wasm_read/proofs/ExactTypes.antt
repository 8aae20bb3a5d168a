-- Types are read exactly as they are spelled.
use Rattle.std.proofs.Common.{◌≡◌, ℕ, ◌≤◌, Bool, true, false, cond, eqb, List, [], ◌∷◌, ◌++◌, length, Option, Some, None, Result, Ok, Err, refl, sym, ap, subst, ◌∙◌, append_assoc, arith, inl, inr}
use Rattle.std.specs.Prelude.{nat_lt, ◌==◌}
use Rattle.std.proofs.lemmas.List.{append-nil}
use Rattle.std.proofs.lemmas.Bool.{lt-ltb, le-ltb, ltb-true, ltb-false, eqb-true}
use Rattle.wasm_form.specs.declared.types.ValueType.{ValueType}
use Rattle.wasm_form.specs.declared.types.ValueType.TheVariants as value_type
use Rattle.wasm_form.specs.declared.types.FunctionType.{FunctionType}
use Rattle.wasm_form.specs.declared.limits.ModuleLimit.TheVariants as limit
use Rattle.wasm_form.specs.Shortest.{result_list}
use Rattle.wasm_form.specs.Tables.{is_between}
use Rattle.wasm_form.specs.Bytes.{Then, IsU32, IsIndex, AreItems, IsList, IsValueType, IsType}
use Rattle.wasm_read.specs.declared.fault.Fault.{Fault}
use Rattle.wasm_read.specs.declared.fault.Fault.TheVariants.{NotModule, Limit}
use Rattle.wasm_read.specs.Reading.{◌>>=◌, Reader, u32_at, list_at, count_at, counted, index_at}
use Rattle.wasm_read.specs.Types.{value_type_at, value_type_by, parameters_at, result_at, type_at}
use Rattle.wasm_read.proofs.Leads.{ok_is}
use Rattle.wasm_read.proofs.Numbers.{chosen, bind_ok}
use Rattle.wasm_read.proofs.Exact.{Takes, Exact, takes_then, exact_u32, items_found, items_only}
use Rattle.wasm_form.specs.declared.limits.TheConstants.{MOST_PARAMETERS}

-- a test that let a number pass
pub guard_ok : {A : Type 0} (b : Bool) (d : Fault) (x y : A) → cond b (Err d) (Ok x) ≡ Ok y → (b ≡ false) × (x ≡ y)
guard_ok true d x y e = absurd cc
guard_ok false d x y e = (refl, cc)

pub count_found : (limit : ℕ) (fault : Fault) (bytes : List ℕ) (x : ℕ × List ℕ) → count_at limit fault bytes ≡ Ok x → (x.0 ≤ limit) × Takes (IsU32 x.0) bytes x.1
count_found limit fault bytes x e =
    let k = bind_ok (u32_at bytes) (λ n. cond (nat_lt limit n.0) (Err fault) (Ok n)) x e in
    let g = guard_ok (nat_lt limit k.0.0) fault k.0 x k.2 in
    subst (λ (y : ℕ × List ℕ). (y.0 ≤ limit) × Takes (IsU32 y.0) bytes y.1) g.1 (ltb-false limit k.0.0 g.0, exact_u32.found bytes k.0 k.1)

pub count_only : (limit n : ℕ) (fault : Fault) (front rest : List ℕ) → n ≤ limit → IsU32 n front → count_at limit fault (front ++ rest) ≡ Ok (n, rest)
count_only limit n fault front rest le h = rw (exact_u32.only n front rest h, le-ltb limit n le) refl

-- a list of at most so many elements
pub exact_counted : {A : Type 0} (limit : ℕ) (fault : Fault) (P : List A → A → List ℕ → Type 0) (one : List A → Reader A) → ((before : List A) → Exact (P before) (one before)) → Exact (λ xs bytes. (length xs ≤ limit) × IsList P xs bytes) (counted limit fault one)
exact_counted limit fault P one exact = record {
  found = λ bytes x e.
      let k = bind_ok (count_at limit fault bytes) (λ n. list_at one [] n.0 n.1) x e in
      let first = count_found limit fault bytes k.0 k.1 in
      let others = items_found P one exact k.0.0 [] k.0.1 x k.2 in
      let whole = takes_then (IsU32 k.0.0) (AreItems P [] others.0) bytes k.0.1 x.1 first.1 others.3 in
      let all = subst (λ n. Takes (Then (IsU32 n) (AreItems P [] others.0)) bytes x.1) (sym others.2) whole in
      let few : length others.0 ≤ limit = omega (arith, others.2, first.0) in
      subst (λ (xs : List _). Takes (λ b. (length xs ≤ limit) × IsList P xs b) bytes x.1) (sym others.1) (record { front = all.front; parts = all.parts; is = (few, all.is) });
  only = λ xs front rest h.
      let list = h.1 in
      let first = count_only limit (length xs) fault list.front (list.back ++ rest) h.0 list.first in
      let others = items_only P one exact xs [] list.back rest list.second in
      let whole : front ++ rest ≡ list.front ++ (list.back ++ rest) = ap (λ (l : List ℕ). l ++ rest) list.parts ∙ append_assoc list.front list.back rest in
      ap (counted limit fault one) whole ∙ ap (λ (r : Result (ℕ × List ℕ) Fault). r >>= λ n. list_at one [] n.0 n.1) first ∙ others;
}

-- an index below a number
pub exact_index : (limit : ℕ) → Exact (IsIndex limit) (index_at limit)
exact_index limit = record {
  found = λ bytes x e.
      let k = bind_ok (u32_at bytes) (λ n. cond (nat_lt n.0 limit) (Ok n) (Err NotModule)) x e in
      elim (chosen (nat_lt k.0.0 limit) _ _ _ k.2) [
        | inl p ↦
            let t = exact_u32.found bytes k.0 k.1 in
            subst (λ (y : ℕ × List ℕ). Takes (IsIndex limit y.0) bytes y.1) (ok_is k.0 x p.1) (record { front = t.front; parts = t.parts; is = (ltb-true k.0.0 limit p.0, t.is) })
        | inr p ↦ absurd cc
      ];
  only = λ n front rest h. rw (exact_u32.only n front rest h.1, lt-ltb n limit h.0) refl;
}

-- ---- types of values

pub no_way_out : {A : Type 0} (b : Bool) (d f : Fault) (x : A) → cond b (Err d) (Err f) ≡ Ok x → ⊥
no_way_out true d f x e = cc
no_way_out false d f x e = cc

pub value_found : (b : ℕ) (rest : List ℕ) (x : ValueType × List ℕ) → value_type_by b rest ≡ Ok x → Takes (IsValueType x.0) (b ∷ rest) x.1
value_found b rest x e = elim (chosen (eqb b 0x7f) _ _ _ e) [
  | inl p ↦ subst (λ (y : ValueType × List ℕ). Takes (IsValueType y.0) (b ∷ rest) y.1) (ok_is (value_type.I32, rest) x p.1) (record { front = b ∷ []; parts = refl; is = (eqb-true b 0x7f p.0, refl) })
  | inr p ↦ elim (chosen (eqb b 0x7e) _ _ _ p.1) [
    | inl q ↦ subst (λ (y : ValueType × List ℕ). Takes (IsValueType y.0) (b ∷ rest) y.1) (ok_is (value_type.I64, rest) x q.1) (record { front = b ∷ []; parts = refl; is = (eqb-true b 0x7e q.0, refl) })
    | inr q ↦ absurd (no_way_out (is_between 0x7c 0x7d b) _ _ x q.1)
  ]
]

value_bytes_found : (bytes : List ℕ) (x : ValueType × List ℕ) → value_type_at bytes ≡ Ok x → Takes (IsValueType x.0) bytes x.1
value_bytes_found [] x e = absurd cc
value_bytes_found (b ∷ rest) x e = value_found b rest x e

value_only : (t : ValueType) (front rest : List ℕ) → IsValueType t front → value_type_at (front ++ rest) ≡ Ok (t, rest)
value_only t [] rest h = absurd h
value_only value_type.I32 (c ∷ front) rest h = rw (h.0, h.1) refl
value_only value_type.I64 (c ∷ front) rest h = rw (h.0, h.1) refl

pub exact_value_type : Exact IsValueType value_type_at
exact_value_type = record { found = λ bytes x e. value_bytes_found bytes x e; only = value_only }

-- ---- types of functions

pub exact_parameters : Exact (λ ps bytes. (length ps ≤ 64) × IsList (λ _. IsValueType) ps bytes) parameters_at
exact_parameters = exact_counted MOST_PARAMETERS (Limit limit.Parameters) (λ _. IsValueType) (λ _. value_type_at) (λ _. exact_value_type)

abbrev IsResult : Option ValueType → List ℕ → Type 0
IsResult r bytes = IsList (λ _. IsValueType) (result_list r) bytes

no_items : (front back bytes : List ℕ) → bytes ≡ front ++ back → IsU32 0 front → back ≡ [] → IsResult None bytes
no_items front back bytes parts h none = record { front = front; back = back; parts = parts; first = h; second = none }

result_found : (bytes : List ℕ) (x : Option ValueType × List ℕ) → result_at bytes ≡ Ok x → Takes (IsResult x.0) bytes x.1
unfolding result_at
result_found bytes x e =
    let k = bind_ok (u32_at bytes) (λ n. cond (n.0 == 0) (Ok (None, n.1)) (cond (n.0 == 1) (value_type_at n.1 >>= λ t. Ok (Some t.0, t.1)) (Err NotModule))) x e in
    let first = exact_u32.found bytes k.0 k.1 in
    elim (chosen (k.0.0 == 0) _ _ _ k.2) [
      | inl p ↦
          let number : IsU32 0 first.front = subst (λ n. IsU32 n first.front) (eqb-true k.0.0 0 p.0) first.is in
          subst (λ (y : Option ValueType × List ℕ). Takes (IsResult y.0) bytes y.1) (ok_is (None, k.0.1) x p.1)
          (record { front = first.front; parts = first.parts; is = no_items first.front [] first.front (sym (append-nil first.front)) number refl })
      | inr p ↦ elim (chosen (k.0.0 == 1) _ _ _ p.1) [
        | inl q ↦
            let t = bind_ok (value_type_at k.0.1) (λ t. Ok (Some t.0, t.1)) x q.1 in
            let number : IsU32 1 first.front = subst (λ n. IsU32 n first.front) (eqb-true k.0.0 1 q.0) first.is in
            let value = value_bytes_found k.0.1 t.0 t.1 in
            subst (λ (y : Option ValueType × List ℕ). Takes (IsResult y.0) bytes y.1) (ok_is (Some t.0.0, t.0.1) x t.2)
            (record {
              front = first.front ++ value.front;
              parts = first.parts ∙ ap (λ (l : List ℕ). first.front ++ l) value.parts ∙ sym (append_assoc first.front value.front t.0.1);
              is = record { front = first.front; back = value.front; parts = refl; first = number; second = record { front = value.front; back = []; parts = sym (append-nil value.front); first = value.is; second = refl } };
            })
        | inr q ↦ absurd cc
      ]
    ]

result_only : (r : Option ValueType) (front rest : List ℕ) → IsResult r front → result_at (front ++ rest) ≡ Ok (r, rest)
unfolding result_at
result_only None front rest h =
    let whole : front ++ rest ≡ h.front ++ rest = ap (λ (l : List ℕ). l ++ rest) (h.parts ∙ ap (λ (l : List ℕ). h.front ++ l) h.second ∙ append-nil h.front) in
    rw (whole, exact_u32.only 0 h.front rest h.first) refl
result_only (Some t) front rest h =
    let item = h.second in
    let back : h.back ≡ item.front = item.parts ∙ ap (λ (l : List ℕ). item.front ++ l) item.second ∙ append-nil item.front in
    let whole : front ++ rest ≡ h.front ++ (item.front ++ rest) = ap (λ (l : List ℕ). l ++ rest) (h.parts ∙ ap (λ (l : List ℕ). h.front ++ l) back) ∙ append_assoc h.front item.front rest in
    rw (whole, exact_u32.only 1 h.front (item.front ++ rest) h.first, value_only t item.front rest item.first) refl

exact_result : Exact IsResult result_at
exact_result = record { found = result_found; only = result_only }

type_found : (bytes : List ℕ) (x : FunctionType × List ℕ) → type_at bytes ≡ Ok x → Takes (IsType x.0) bytes x.1
unfolding type_at
type_found [] x e = absurd cc
type_found (b ∷ rest) x e = elim (chosen (b == 0x60) _ _ _ e) [
  | inl p ↦
      let k = bind_ok (parameters_at rest) (λ ps. result_at ps.1 >>= λ r. Ok (record { parameters = ps.0; result = r.0 }, r.1)) x p.1 in
      let first = exact_parameters.found rest k.0 k.1 in
      let r = bind_ok (result_at k.0.1) (λ r. Ok (record { parameters = k.0.0; result = r.0 }, r.1)) x k.2 in
      let second = result_found k.0.1 r.0 r.1 in
      let made : FunctionType × List ℕ = (record { parameters = k.0.0; result = r.0.0 }, r.0.1) in
      subst (λ (y : FunctionType × List ℕ). Takes (IsType y.0) (b ∷ rest) y.1) (ok_is made x r.2)
      (record {
        front = b ∷ (first.front ++ second.front);
        parts = ap (λ (l : List ℕ). b ∷ l) (first.parts ∙ ap (λ (l : List ℕ). first.front ++ l) second.parts ∙ sym (append_assoc first.front second.front r.0.1));
        is = (first.is.0, (eqb-true b 0x60 p.0, record { front = first.front; back = second.front; parts = refl; first = first.is.1; second = second.is }));
      })
  | inr p ↦ absurd cc
]

type_only : (t : FunctionType) (front rest : List ℕ) → IsType t front → type_at (front ++ rest) ≡ Ok (t, rest)
unfolding type_at
type_only t [] rest h = absurd h.1
type_only t (c ∷ front) rest h =
    let two = h.1.1 in
    let whole : front ++ rest ≡ two.front ++ (two.back ++ rest) = ap (λ (l : List ℕ). l ++ rest) two.parts ∙ append_assoc two.front two.back rest in
    rw (h.1.0, whole, exact_parameters.only t.parameters two.front (two.back ++ rest) (h.0, two.first), result_only t.result two.back rest two.second) refl

pub exact_type : Exact IsType type_at
exact_type = record { found = type_found; only = type_only }
