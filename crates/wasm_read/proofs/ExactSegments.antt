-- Segments and the code of functions are read exactly as they are spelled.
use Rattle.std.proofs.Common.{◌≡◌, ℕ, ◌+◌, ◌*◌, ◌<◌, ◌≤◌, false, cond, ltb, List, [], ◌∷◌, ◌++◌, length, take, drop, Option, Some, None, Ok, Err, refl, sym, ap, subst, ◌∙◌, arith, inl, inr}
use Rattle.std.specs.Prelude.{nat_lt, slice_get}
use Rattle.std.specs.List.{sum_by}
use Rattle.std.proofs.lemmas.Bool.{le-ltb, ltb-false}
use Rattle.std.proofs.lemmas.List.{take-append-drop, length-append, length-take-le}
use Rattle.std.proofs.lemmas.List.Sums.{sum_by-append}
use Rattle.std.proofs.Math.Seq.{take-append_seam, drop-append_seam}
use Rattle.wasm_form.specs.declared.instr.Instr.{Instr}
use Rattle.wasm_form.specs.declared.types.ValueType.{ValueType}
use Rattle.wasm_form.specs.declared.types.Value.TheVariants as value
use Rattle.wasm_form.specs.declared.types.FunctionType.{FunctionType}
use Rattle.wasm_form.specs.declared.limits.TheConstants.{MOST_LOCALS, PAGE}
use Rattle.wasm_form.specs.declared.module.ElementSegment.{ElementSegment}
use Rattle.wasm_form.specs.declared.module.LocalGroup.{LocalGroup}
use Rattle.wasm_form.specs.declared.module.CodeEntry.{CodeEntry}
use Rattle.wasm_form.specs.declared.module.DataSegment.{DataSegment}
use Rattle.wasm_form.specs.declared.module.Module.{Module}
use Rattle.wasm_form.specs.declared.limits.ModuleLimit.TheVariants as limit
use Rattle.wasm_form.specs.Steps.{least, defined_type}
use Rattle.wasm_form.specs.Steps as step
use Rattle.wasm_form.specs.Within.{count_locals}
use Rattle.wasm_form.specs.Bytes.{Then, IsU32, IsIndex, Sized, AreItems, IsList, IsValueType, IsConstant, IsElement, IsSegment, IsGroup, IsCode, IsEnd, IsCodeEntry, function_count, parameters_in}
use Rattle.wasm_read.specs.declared.fault.Fault.TheVariants.{NotModule, Limit}
use Rattle.wasm_read.specs.Reading.{◌>>=◌, Reader, u32_at, list_at, index_at}
use Rattle.wasm_read.specs.Types.{value_type_at}
use Rattle.wasm_read.specs.Codes.{body_at}
use Rattle.wasm_read.specs.Entries.{offset_at, span_at, element_at, bytes_at, segment_at, group_at, group_behind, groups_at, content_at, parameter_count, type_named, parameters_of, code_entry_at}
use Rattle.wasm_read.proofs.Leads.{ok_is}
use Rattle.wasm_read.proofs.Numbers.{chosen, bind_ok}
use Rattle.wasm_read.proofs.Exact.{Takes, Exact, left_with, exact_u32, items_found, items_only, exact_list}
use Rattle.wasm_read.proofs.ExactTypes.{guard_ok, exact_value_type, exact_index}
use Rattle.wasm_read.proofs.Parts.{exact_as, exact_then, exact_map, exact_unless, exact_framed}
use Rattle.wasm_read.proofs.ExactCode.{exact_body}
use Rattle.wasm_read.proofs.ExactGlobals.{exact_offset}

-- ---- a number, and so many elements

exact_span : (size offset : ℕ) → Exact (λ n bytes. (offset + n ≤ size) × IsU32 n bytes) (span_at size offset)
exact_span size offset = record {
  found = λ bytes x e.
      let k = bind_ok (u32_at bytes) (λ n. cond (nat_lt size (offset + n.0)) (Err NotModule) (Ok n)) x e in
      let g = guard_ok (nat_lt size (offset + k.0.0)) NotModule k.0 x k.2 in
      let t = exact_u32.found bytes k.0 k.1 in
      subst (λ (y : ℕ × List ℕ). Takes (λ bs. (offset + y.0 ≤ size) × IsU32 y.0 bs) bytes y.1) g.1 (record { front = t.front; parts = t.parts; is = (ltb-false size (offset + k.0.0) g.0, t.is) });
  only = λ n front rest h. rw (exact_u32.only n front rest h.1, le-ltb size (offset + n) h.0) refl;
}

pub exact_items : {A : Type 0} (P : List A → A → List ℕ → Type 0) (one : List A → Reader A) → ((before : List A) → Exact (P before) (one before)) → (n : ℕ) → Exact (λ xs bytes. (length xs ≡ n) × AreItems P [] xs bytes) (list_at one [] n)
exact_items {A} P one exact n = record {
  found = λ bytes x e.
      let k = items_found P one exact n [] bytes x e in
      let t = k.3 in
      record { front = t.front; parts = t.parts; is = subst (λ (xs : List A). (length xs ≡ n) × AreItems P [] xs t.front) (sym k.1) (k.2, t.is) };
  only = λ xs front rest h. subst (λ k. list_at one [] k (front ++ rest) ≡ Ok (xs, rest)) h.0 (items_only P one exact xs [] front rest h.1);
}

exact_bytes : (n : ℕ) → Exact (λ b bytes. (length b ≡ n) × (bytes ≡ b)) (bytes_at n)
exact_bytes n = record { found = found; only = only }
  where
    found : (bytes : List ℕ) (x : List ℕ × List ℕ) → bytes_at n bytes ≡ Ok x → Takes (λ bs. (length x.0 ≡ n) × (bs ≡ x.0)) bytes x.1
    found bytes x e = elim (chosen (nat_lt (length bytes) n) _ _ _ e) [
      | inl p ↦ absurd cc
      | inr p ↦ subst (λ (y : List ℕ × List ℕ). Takes (λ bs. (length y.0 ≡ n) × (bs ≡ y.0)) bytes y.1) (ok_is (take n bytes, drop n bytes) x p.1)
          (record { front = take n bytes; parts = sym (take-append-drop n bytes); is = (length-take-le n bytes (ltb-false (length bytes) n p.0), refl) })
    ]

    only : (b front rest : List ℕ) → (length b ≡ n) × (front ≡ b) → bytes_at n (front ++ rest) ≡ Ok (b, rest)
    only b front rest h =
        let l = length-append b rest in
        let le : length b ≤ length (b ++ rest) = omega (arith, l) in
        let whole : bytes_at (length b) (b ++ rest) ≡ Ok (b, rest) = rw (le-ltb (length (b ++ rest)) (length b) le, take-append_seam b rest, drop-append_seam b rest) refl in
        ap (λ (f : List ℕ). bytes_at n (f ++ rest)) h.1 ∙ subst (λ k. bytes_at k (b ++ rest) ≡ Ok (b, rest)) h.0 whole

-- ---- segments

-- the one table or memory
only_zero : (t n : ℕ) → n ≤ 1 → t < n → t ≡ 0
only_zero t n few lt = omega arith

abbrev an_element : ℕ → List ℕ → ElementSegment
an_element offset functions = record { offset = offset; functions = functions }

abbrev a_segment : ℕ → List ℕ → DataSegment
a_segment offset bytes = record { offset = offset; bytes = bytes }

module _ (m : Module) (few : length m.tables ≤ 1) where
  abbrev AreFunctions : ℕ → ℕ → ElementSegment → List ℕ → Type 0
  AreFunctions offset n s bytes = (fs : List ℕ) × (an_element offset fs ≡ s) × (length fs ≡ n) × AreItems (λ _. IsIndex (function_count m)) [] fs bytes

  abbrev IsFilled : ℕ → ElementSegment → List ℕ → Type 0
  IsFilled offset s bytes = (n : ℕ) × Then (λ bs. (offset + n ≤ least m.tables) × IsU32 n bs) (AreFunctions offset n s) bytes

  abbrev IsPlaced : ℕ → ElementSegment → List ℕ → Type 0
  IsPlaced t s bytes = (offset : ℕ) × Then (IsConstant (value.I32 offset)) (IsFilled offset s) bytes

  element_to : (s : ElementSegment) (bytes : List ℕ) → (t : ℕ) × Then (IsIndex (length m.tables) t) (IsPlaced t s) bytes → IsElement m s bytes
  element_to s bytes h =
      let a = h.1 in
      let offset = a.second.0 in
      let b = a.second.1 in
      let n = b.second.0 in
      let c = b.second.1 in
      let fs = c.second in
      let table : IsIndex (length m.tables) 0 a.front = subst (λ t. IsIndex (length m.tables) t a.front) (only_zero h.0 (length m.tables) few a.first.0) a.first in
      let within : offset + length fs.0 ≤ least m.tables = let e = fs.2 in let le = c.first.0 in omega (arith, e, le) in
      let number : IsU32 (length fs.0) c.front = subst (λ k. IsU32 k c.front) (sym fs.2) c.first.1 in
      subst (λ (y : ElementSegment). IsElement m y bytes) fs.1 (
        within,
        record {
          front = a.front;
          back = a.back;
          parts = a.parts;
          first = table;
          second = record { front = b.front; back = b.back; parts = b.parts; first = b.first; second = record { front = c.front; back = c.back; parts = c.parts; first = number; second = fs.3 } };
        },
      )

  element_from : (s : ElementSegment) (bytes : List ℕ) → IsElement m s bytes → (t : ℕ) × Then (IsIndex (length m.tables) t) (IsPlaced t s) bytes
  element_from s bytes h =
      let a = h.1 in
      let b = a.second in
      let c = b.second in (
        0,
        record {
          front = a.front;
          back = a.back;
          parts = a.parts;
          first = a.first;
          second = (
            s.offset,
            record {
              front = b.front;
              back = b.back;
              parts = b.parts;
              first = b.first;
              second = (length s.functions, record { front = c.front; back = c.back; parts = c.parts; first = (h.0, c.first); second = (s.functions, refl, refl, c.second) });
            },
          );
        },
      )

  pub exact_element : Exact (IsElement m) (element_at m.tables (function_count m))
  unfolding element_at
  exact_element =
      exact_as (λ s bytes. (t : ℕ) × Then (IsIndex (length m.tables) t) (IsPlaced t s) bytes) (IsElement m) (element_at m.tables (function_count m))
      (exact_then (IsIndex (length m.tables)) IsPlaced (index_at (length m.tables))
      (λ t bytes. offset_at bytes >>= λ o. span_at (least m.tables) o.0 o.1 >>= λ n. list_at (λ _. index_at (function_count m)) [] n.0 n.1 >>= λ fs. left_with (an_element o.0 fs.0) fs.1)
      (exact_index (length m.tables))
      (λ t. exact_then (λ n bs. IsConstant (value.I32 n) bs) IsFilled offset_at
      (λ o bytes. span_at (least m.tables) o bytes >>= λ n. list_at (λ _. index_at (function_count m)) [] n.0 n.1 >>= λ fs. left_with (an_element o fs.0) fs.1)
      exact_offset
      (λ o. exact_then (λ n bs. (o + n ≤ least m.tables) × IsU32 n bs) (AreFunctions o) (span_at (least m.tables) o)
      (λ n bytes. list_at (λ _. index_at (function_count m)) [] n bytes >>= λ fs. left_with (an_element o fs.0) fs.1)
      (exact_span (least m.tables) o)
      (λ n. exact_as (λ s bs. (fs : List ℕ) × (an_element o fs ≡ s) × Counted n fs bs) (AreFunctions o n) _
      (exact_map (Counted n) (list_at (λ _. index_at (function_count m)) [] n) (an_element o) (exact_items (λ _. IsIndex (function_count m)) (λ _. index_at (function_count m)) (λ _. exact_index (function_count m)) n))
      (λ s bs k. (k.0, k.1, k.2.0, k.2.1)) (λ s bs k. (k.0, k.1, (k.2, k.3)))))))
      element_to element_from
    where
      Counted : ℕ → List ℕ → List ℕ → Type 0
      Counted n fs bs = (length fs ≡ n) × AreItems (λ _. IsIndex (function_count m)) [] fs bs

module _ (m : Module) (few : length m.memories ≤ 1) where
  abbrev AreBytes : ℕ → ℕ → DataSegment → List ℕ → Type 0
  AreBytes offset n s bytes = (b : List ℕ) × (a_segment offset b ≡ s) × ((length b ≡ n) × (bytes ≡ b))

  abbrev IsHeld : ℕ → DataSegment → List ℕ → Type 0
  IsHeld offset s bytes = (n : ℕ) × Then (λ bs. (offset + n ≤ least m.memories * PAGE) × IsU32 n bs) (AreBytes offset n s) bytes

  abbrev IsLaid : ℕ → DataSegment → List ℕ → Type 0
  IsLaid t s bytes = (offset : ℕ) × Then (IsConstant (value.I32 offset)) (IsHeld offset s) bytes

  segment_to : (s : DataSegment) (bytes : List ℕ) → (t : ℕ) × Then (IsIndex (length m.memories) t) (IsLaid t s) bytes → IsSegment m s bytes
  segment_to s bytes h =
      let a = h.1 in
      let offset = a.second.0 in
      let b = a.second.1 in
      let c = b.second.1 in
      let d = c.second in
      let memory : IsIndex (length m.memories) 0 a.front = subst (λ t. IsIndex (length m.memories) t a.front) (only_zero h.0 (length m.memories) few a.first.0) a.first in
      let within : offset + length d.0 ≤ least m.memories * PAGE = let e = d.2.0 in let le = c.first.0 in omega (arith, e, le) in
      let number : IsU32 (length c.back) c.front = subst (λ k. IsU32 k c.front) (sym (ap length d.2.1 ∙ d.2.0)) c.first.1 in
      subst (λ (y : DataSegment). IsSegment m y bytes) d.1 (
        within,
        record {
          front = a.front;
          back = a.back;
          parts = a.parts;
          first = memory;
          second = record { front = b.front; back = b.back; parts = b.parts; first = b.first; second = record { front = c.front; back = c.back; parts = c.parts; size = number; is = d.2.1 } };
        },
      )

  segment_from : (s : DataSegment) (bytes : List ℕ) → IsSegment m s bytes → (t : ℕ) × Then (IsIndex (length m.memories) t) (IsLaid t s) bytes
  segment_from s bytes h =
      let a = h.1 in
      let b = a.second in
      let c = b.second in
      let number : IsU32 (length s.bytes) c.front = subst (λ k. IsU32 k c.front) (ap length c.is) c.size in (
        0,
        record {
          front = a.front;
          back = a.back;
          parts = a.parts;
          first = a.first;
          second = (
            s.offset,
            record {
              front = b.front;
              back = b.back;
              parts = b.parts;
              first = b.first;
              second = (length s.bytes, record { front = c.front; back = c.back; parts = c.parts; first = (h.0, number); second = (s.bytes, refl, (refl, c.is)) });
            },
          );
        },
      )

  pub exact_segment : Exact (IsSegment m) (segment_at m.memories)
  unfolding segment_at
  exact_segment =
      exact_as (λ s bytes. (t : ℕ) × Then (IsIndex (length m.memories) t) (IsLaid t s) bytes) (IsSegment m) (segment_at m.memories)
      (exact_then (IsIndex (length m.memories)) IsLaid (index_at (length m.memories))
      (λ t bytes. offset_at bytes >>= λ o. span_at (least m.memories * PAGE) o.0 o.1 >>= λ n. bytes_at n.0 n.1 >>= λ b. left_with (a_segment o.0 b.0) b.1)
      (exact_index (length m.memories))
      (λ t. exact_then (λ n bs. IsConstant (value.I32 n) bs) IsHeld offset_at
      (λ o bytes. span_at (least m.memories * PAGE) o bytes >>= λ n. bytes_at n.0 n.1 >>= λ b. left_with (a_segment o b.0) b.1)
      exact_offset
      (λ o. exact_then (λ n bs. (o + n ≤ least m.memories * PAGE) × IsU32 n bs) (AreBytes o) (span_at (least m.memories * PAGE) o)
      (λ n bytes. bytes_at n bytes >>= λ b. left_with (a_segment o b.0) b.1)
      (exact_span (least m.memories * PAGE) o)
      (λ n. exact_map (λ b bs. (length b ≡ n) × (bs ≡ b)) (bytes_at n) (a_segment o) (exact_bytes n)))))
      segment_to segment_from

-- ---- the code of a function

abbrev a_group : ℕ → ValueType → LocalGroup
a_group count t = record { count = count; value_type = t }

-- a group of locals behind so many
abbrev IsGroupBehind : ℕ → LocalGroup → List ℕ → Type 0
IsGroupBehind total g bytes = (total + g.count ≤ MOST_LOCALS) × IsGroup g bytes

abbrev IsTypeOf : ℕ → LocalGroup → List ℕ → Type 0
IsTypeOf n g bytes = (t : ValueType) × (a_group n t ≡ g) × IsValueType t bytes

exact_group : (total : ℕ) → Exact (IsGroupBehind total) (group_at total)
unfolding group_at
exact_group total =
    exact_as (λ g bytes. (n : ℕ) × Then (IsU32 n) (λ bs. (ltb MOST_LOCALS (total + n) ≡ false) × IsTypeOf n g bs) bytes) (IsGroupBehind total) (group_at total)
    (exact_then IsU32 (λ n g bs. (ltb MOST_LOCALS (total + n) ≡ false) × IsTypeOf n g bs) u32_at (λ n bytes. cond (nat_lt MOST_LOCALS (total + n)) (Err (Limit limit.Locals)) (value_type_at bytes >>= λ t. left_with (a_group n t.0) t.1)) exact_u32
    (λ n. exact_unless (nat_lt MOST_LOCALS (total + n)) (Limit limit.Locals) (IsTypeOf n) (λ bytes. value_type_at bytes >>= λ t. left_with (a_group n t.0) t.1) (exact_map IsValueType value_type_at (a_group n) exact_value_type)))
    (λ g bytes h. let t = h.1 in subst (λ (y : LocalGroup). IsGroupBehind total y bytes) t.second.1.1 (ltb-false MOST_LOCALS (total + h.0) t.second.0, record { front = t.front; back = t.back; parts = t.parts; first = t.first; second = t.second.1.2 }))
    (λ g bytes h. let t = h.1 in (g.count, record { front = t.front; back = t.back; parts = t.parts; first = t.first; second = (le-ltb MOST_LOCALS (total + g.count) h.0, (g.value_type, refl, t.second)) }))

module _ (parameters : ℕ) (some : parameters ≤ MOST_LOCALS) where
  abbrev before_of : List LocalGroup → ℕ
  before_of before = parameters + sum_by (λ (g : LocalGroup). g.count) before

  abbrev IsNextGroup : List LocalGroup → LocalGroup → List ℕ → Type 0
  IsNextGroup before = IsGroupBehind (before_of before)

  one_group : (before : List LocalGroup) (g : LocalGroup) → before_of (before ++ g ∷ []) ≡ before_of before + g.count
  one_group before g = let one = sum_by-append (λ (x : LocalGroup). x.count) before (g ∷ []) in omega (arith, one)

  groups_to : (gs before : List LocalGroup) (bytes : List ℕ) → before_of before ≤ MOST_LOCALS → AreItems IsNextGroup before gs bytes → (before_of before + count_locals gs ≤ MOST_LOCALS) × AreItems (λ _. IsGroup) before gs bytes
  groups_to [] before bytes le h = (omega (arith, le), h)
  groups_to (g ∷ gs) before bytes le h =
      let one = one_group before g in
      let here = h.first.0 in
      let others = groups_to gs (before ++ g ∷ []) h.back (omega (arith, one, here)) h.second in
      let sum = others.0 in
      (omega (arith, one, sum), record { front = h.front; back = h.back; parts = h.parts; first = h.first.1; second = others.1 })

  groups_from : (gs before : List LocalGroup) (bytes : List ℕ) → before_of before + count_locals gs ≤ MOST_LOCALS → AreItems (λ _. IsGroup) before gs bytes → AreItems IsNextGroup before gs bytes
  groups_from [] before bytes le h = h
  groups_from (g ∷ gs) before bytes le h =
      let one = one_group before g in
      let others = groups_from gs (before ++ g ∷ []) h.back (omega (arith, one, le)) h.second in
      record { front = h.front; back = h.back; parts = h.parts; first = (omega (arith, le), h.first); second = others }

  abbrev AreGroups : List LocalGroup → List ℕ → Type 0
  AreGroups gs bytes = (parameters + count_locals gs ≤ MOST_LOCALS) × IsList (λ _. IsGroup) gs bytes

  exact_groups : Exact AreGroups (groups_at parameters)
  unfolding groups_at
  exact_groups =
      exact_as (IsList IsNextGroup) AreGroups (groups_at parameters) (exact_list IsNextGroup (group_behind parameters) (λ before. exact_group (before_of before)))
      (λ gs bytes h. let g = groups_to gs [] h.back (omega (arith, some)) h.second in let le = g.0 in (omega (arith, le), record { front = h.front; back = h.back; parts = h.parts; first = h.first; second = g.1 }))
      (λ gs bytes h. let t = h.1 in let le = h.0 in record { front = t.front; back = t.back; parts = t.parts; first = t.first; second = groups_from gs [] t.back (omega (arith, le)) t.second })

  abbrev a_code : List LocalGroup → List Instr → CodeEntry
  a_code locals body = record { locals = locals; body = body }

  abbrev IsContent : CodeEntry → List ℕ → Type 0
  IsContent c bytes = (parameters + count_locals c.locals ≤ MOST_LOCALS) × Then (IsList (λ _. IsGroup) c.locals) (Then (IsCode 0 c.body) IsEnd) bytes

  abbrev IsBodyOf : List LocalGroup → CodeEntry → List ℕ → Type 0
  IsBodyOf gs c bytes = (is : List Instr) × (a_code gs is ≡ c) × Then (IsCode 0 is) IsEnd bytes

  pub exact_content : Exact IsContent (content_at parameters)
  unfolding content_at
  exact_content =
      exact_as (λ c bytes. (gs : List LocalGroup) × Then (AreGroups gs) (IsBodyOf gs c) bytes) IsContent (content_at parameters)
      (exact_then AreGroups IsBodyOf (groups_at parameters) (λ gs bytes. body_at bytes >>= λ c. left_with (a_code gs c.0) c.1) exact_groups
      (λ gs. exact_map (λ is. Then (IsCode 0 is) IsEnd) body_at (a_code gs) exact_body))
      (λ c bytes h. let t = h.1 in subst (λ (y : CodeEntry). IsContent y bytes) t.second.1 (t.first.0, record { front = t.front; back = t.back; parts = t.parts; first = t.first.1; second = t.second.2 }))
      (λ c bytes h. let t = h.1 in (c.locals, record { front = t.front; back = t.back; parts = t.parts; first = (h.0, t.first); second = (c.body, refl, t.second) }))

-- the parameters of a defined function
parameters_same : (m : Module) (k : ℕ) → parameters_of m.types m.functions k ≡ parameters_in (defined_type m k)
parameters_same m k = by_type (slice_get m.functions k)
  where
    count_same : (o : Option FunctionType) → parameter_count o ≡ parameters_in o
    count_same None = refl
    count_same (Some t) = refl

    by_type : (o : Option ℕ) → parameter_count (type_named m.types o) ≡ parameters_in (step.◌>>=◌ o (λ t. slice_get m.types t))
    by_type None = refl
    by_type (Some i) = count_same (slice_get m.types i)

pub exact_code : (m : Module) → ((k : ℕ) → parameters_in (defined_type m k) ≤ MOST_LOCALS) → (before : List CodeEntry) → Exact (IsCodeEntry m (length before)) (code_entry_at m.types m.functions before)
unfolding code_entry_at
exact_code m some before =
    let n = length before in
    let p = parameters_of m.types m.functions n in
    let same = parameters_same m n in
    let few : p ≤ MOST_LOCALS = let le = some n in omega (arith, same, le) in
    exact_as (λ c. Sized (IsContent p few c)) (IsCodeEntry m n) (code_entry_at m.types m.functions before) (exact_framed (IsContent p few) (content_at p) (exact_content p few))
    (λ c bytes h. let le = h.is.0 in (omega (arith, same, le), record { front = h.front; back = h.back; parts = h.parts; size = h.size; is = h.is.1 }))
    (λ c bytes h. let s = h.1 in let le = h.0 in record { front = s.front; back = s.back; parts = s.parts; size = s.size; is = (omega (arith, same, le), s.is) })
