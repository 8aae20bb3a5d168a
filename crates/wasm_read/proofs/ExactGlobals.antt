-- Globals and exports are read exactly as they are spelled.
use Rattle.std.proofs.Common.{◌≡◌, ℕ, Bool, true, false, cond, eqb, List, [], ◌∷◌, ◌++◌, Result, Ok, Err, refl, sym, ap, subst, ◌∙◌, ◌⊎◌, inl, inr}
use Rattle.std.specs.Prelude.{◌≢◌, ◌==◌}
use Rattle.std.specs.List.{list_any}
use Rattle.std.specs.Str.{bytes_eq}
use Rattle.std.proofs.lemmas.Bool.{eqb-true, false_from_ne_true}
use Rattle.std.proofs.lemmas.Slice.Eq.{bytes_eq-Decides}
use Rattle.wasm_form.specs.declared.types.ValueType.{ValueType}
use Rattle.wasm_form.specs.declared.types.Value.{Value}
use Rattle.wasm_form.specs.declared.types.Value.TheVariants as value
use Rattle.wasm_form.specs.declared.module.GlobalEntry.{GlobalEntry}
use Rattle.wasm_form.specs.declared.module.ExportKind.{ExportKind}
use Rattle.wasm_form.specs.declared.module.ExportKind.TheVariants as kind
use Rattle.wasm_form.specs.declared.module.Export.{Export}
use Rattle.wasm_form.specs.declared.module.Module.{Module}
use Rattle.wasm_form.specs.Leb.{IsNumber}
use Rattle.wasm_form.specs.Shortest.{value_type_byte, mutable_byte, kind_byte}
use Rattle.wasm_form.specs.Bytes.{Then, Nothing, Byte, IsName, IsIndex, IsValueType, IsConstant, IsGlobal, IsExport, kind_count}
use Rattle.wasm_read.specs.declared.counts.Counts.{Counts}
use Rattle.wasm_read.specs.declared.fault.Fault.{Fault}
use Rattle.wasm_read.specs.declared.fault.Fault.TheVariants.{NotModule}
use Rattle.wasm_read.specs.Reading.{◌>>=◌, Reader, number_at, index_at, name_at}
use Rattle.wasm_read.specs.Types.{value_type_at}
use Rattle.wasm_read.specs.Entries.{strange_of, expression_end_at, offset_at, initial_at, mutable_at, global_at, kind_at, count_of, exported_at, export_at}
use Rattle.wasm_read.proofs.Leads.{ok_is}
use Rattle.wasm_read.proofs.Numbers.{chosen}
use Rattle.wasm_read.proofs.Exact.{Takes, Exact, left_with, exact_number}
use Rattle.wasm_read.proofs.ExactTypes.{exact_value_type, exact_index}
use Rattle.wasm_read.proofs.Parts.{TakesByte, byte_found, Headed, exact_as, exact_then, exact_map, exact_when, exact_unless, exact_either, exact_headed, exact_ending, exact_name}
use Rattle.wasm_read.proofs.ExactImports.{none_pass, pass_none}

-- ---- a byte before a part

byte_of : (c : ℕ) (Q : List ℕ → Type 0) (bytes front back : List ℕ) → bytes ≡ front ++ back → Byte c Nothing front → Q back → Byte c Q bytes
byte_of c Q bytes [] back e h q = absurd h
byte_of c Q [] (b ∷ front) back e h q = absurd cc
byte_of c Q (d ∷ bytes) (b ∷ front) back e h q =
    let first : d ≡ c = (let same : d ≡ b = cc in same ∙ h.0) in
    let others : back ≡ bytes = (let same : bytes ≡ front ++ back = cc in sym (same ∙ ap (λ (l : List ℕ). l ++ back) h.1)) in
    (first, subst Q others q)

pub byte_then : (c : ℕ) (Q : List ℕ → Type 0) (bytes : List ℕ) → Then (Byte c Nothing) Q bytes → Byte c Q bytes
byte_then c Q bytes h = byte_of c Q bytes h.front h.back h.parts h.first h.second

pub then_byte : (c : ℕ) (Q : List ℕ → Type 0) (bytes : List ℕ) → Byte c Q bytes → Then (Byte c Nothing) Q bytes
then_byte c Q [] h = absurd h
then_byte c Q (b ∷ bytes) h = record { front = b ∷ []; back = bytes; parts = refl; first = (h.0, refl); second = h.1 }

-- ---- constants

takes_expression_end : TakesByte 0x0b expression_end_at
takes_expression_end = record { found = found; only = λ rest. refl }
  where
    found : (bytes rest : List ℕ) → expression_end_at bytes ≡ Ok rest → bytes ≡ 0x0b ∷ rest
    found [] rest e = absurd cc
    found (b ∷ bytes) rest e = byte_found 0x0b b bytes rest (strange_of b) e

-- a number and the end, of which a value is made
abbrev IsEnded : {A : Type 0} → ℕ → (ℕ → A) → A → List ℕ → Type 0
IsEnded bits make a bytes = (n : ℕ) × Then (λ bs. IsNumber true bits bs n) (λ bs. (make n ≡ a) × Byte 0x0b Nothing bs) bytes

abbrev ended_at : {A : Type 0} → ℕ → (ℕ → A) → Reader A
ended_at bits make bytes = number_at true bits bytes >>= λ n. expression_end_at n.1 >>= λ r. left_with (make n.0) r

exact_ended : {A : Type 0} (bits : ℕ) (make : ℕ → A) → Exact (IsEnded bits make) (ended_at bits make)
exact_ended bits make =
    exact_then (λ n bs. IsNumber true bits bs n) (λ n a bs. (make n ≡ a) × Byte 0x0b Nothing bs) (number_at true bits) (λ n bytes. expression_end_at bytes >>= λ r. left_with (make n) r) (exact_number true bits)
    (λ n. exact_ending 0x0b expression_end_at (make n) takes_expression_end)

abbrev IsOffsetBy : ℕ → ℕ → List ℕ → Type 0
IsOffsetBy b n bytes = (eqb b 0x41 ≡ true) × IsEnded 32 (λ k. k) n bytes

offset_to : (n : ℕ) (bytes : List ℕ) → Headed IsOffsetBy n bytes → IsConstant (value.I32 n) bytes
offset_to n [] h = absurd h
offset_to n (b ∷ bytes) h =
    let t = h.1.1 in
    (eqb-true b 0x41 h.0, record { front = t.front; back = t.back; parts = t.parts; first = subst (λ k. IsNumber true 32 t.front k) t.second.0 t.first; second = t.second.1 })

offset_from : (n : ℕ) (bytes : List ℕ) → IsConstant (value.I32 n) bytes → Headed IsOffsetBy n bytes
offset_from n [] h = absurd h
offset_from n (b ∷ bytes) h = let t = h.1 in (ap (λ x. eqb x 0x41) h.0, (n, record { front = t.front; back = t.back; parts = t.parts; first = t.first; second = (refl, t.second) }))

-- an offset expression
pub exact_offset : Exact (λ n bytes. IsConstant (value.I32 n) bytes) offset_at
unfolding offset_at
exact_offset =
    exact_as (Headed IsOffsetBy) (λ n bytes. IsConstant (value.I32 n) bytes) offset_at
    (exact_headed IsOffsetBy offset_at (λ b bytes. cond (b == 0x41) (ended_at 32 (λ k. k) bytes) (Err (strange_of b))) NotModule refl (λ b rest. refl)
    (λ b. exact_when (b == 0x41) (strange_of b) (IsEnded 32 (λ k. k)) (ended_at 32 (λ k. k)) (exact_ended 32 (λ k. k))))
    offset_to offset_from

abbrev as_word : ℕ → Value
as_word n = value.I32 n

abbrev as_long : ℕ → Value
as_long n = value.I64 n

abbrev IsLongBy : ℕ → Value → List ℕ → Type 0
IsLongBy b v bytes = (eqb b 0x42 ≡ true) × IsEnded 64 as_long v bytes

abbrev IsInitialBy : ℕ → Value → List ℕ → Type 0
IsInitialBy b v bytes = ((eqb b 0x41 ≡ true) × IsEnded 32 as_word v bytes) ⊎ ((eqb b 0x41 ≡ false) × IsLongBy b v bytes)

initial_to : (v : Value) (bytes : List ℕ) → Headed IsInitialBy v bytes → IsConstant v bytes
initial_to v [] h = absurd h
initial_to v (b ∷ bytes) (inl h) =
    let t = h.1.1 in
    subst (λ (w : Value). IsConstant w (b ∷ bytes)) t.second.0 (eqb-true b 0x41 h.0, record { front = t.front; back = t.back; parts = t.parts; first = t.first; second = t.second.1 })
initial_to v (b ∷ bytes) (inr h) =
    let t = h.1.1.1 in
    subst (λ (w : Value). IsConstant w (b ∷ bytes)) t.second.0 (eqb-true b 0x42 h.1.0, record { front = t.front; back = t.back; parts = t.parts; first = t.first; second = t.second.1 })

initial_from : (v : Value) (bytes : List ℕ) → IsConstant v bytes → Headed IsInitialBy v bytes
initial_from (value.I32 n) [] h = absurd h
initial_from (value.I64 n) [] h = absurd h
initial_from (value.I32 n) (b ∷ bytes) h =
    let t = h.1 in
    inl (ap (λ x. eqb x 0x41) h.0, (n, record { front = t.front; back = t.back; parts = t.parts; first = t.first; second = (refl, t.second) }))
initial_from (value.I64 n) (b ∷ bytes) h =
    let t = h.1 in
    inr (ap (λ x. eqb x 0x41) h.0, (ap (λ x. eqb x 0x42) h.0, (n, record { front = t.front; back = t.back; parts = t.parts; first = t.first; second = (refl, t.second) })))

-- an initial expression
exact_initial : Exact IsConstant initial_at
unfolding initial_at
exact_initial =
    exact_as (Headed IsInitialBy) IsConstant initial_at
    (exact_headed IsInitialBy initial_at (λ b bytes. cond (b == 0x41) (ended_at 32 as_word bytes) (cond (b == 0x42) (ended_at 64 as_long bytes) (Err (strange_of b)))) NotModule refl (λ b rest. refl)
    (λ b. exact_either (b == 0x41) (IsEnded 32 as_word) (IsLongBy b) (ended_at 32 as_word) (λ bytes. cond (b == 0x42) (ended_at 64 as_long bytes) (Err (strange_of b))) (exact_ended 32 as_word)
    (exact_when (b == 0x42) (strange_of b) (IsEnded 64 as_long) (ended_at 64 as_long) (exact_ended 64 as_long))))
    initial_to initial_from

-- ---- globals

exact_mutable : Exact (λ m. Byte (mutable_byte m) Nothing) mutable_at
exact_mutable = record { found = found; only = only }
  where
    found : (bytes : List ℕ) (x : Bool × List ℕ) → mutable_at bytes ≡ Ok x → Takes (Byte (mutable_byte x.0) Nothing) bytes x.1
    found [] x e = absurd cc
    found (b ∷ rest) x e = elim (chosen (b == 0) _ _ _ e) [
      | inl p ↦ subst (λ (y : Bool × List ℕ). Takes (Byte (mutable_byte y.0) Nothing) (b ∷ rest) y.1) (ok_is (false, rest) x p.1) (record { front = b ∷ []; parts = refl; is = (eqb-true b 0 p.0, refl) })
      | inr p ↦ elim (chosen (b == 1) _ _ _ p.1) [
        | inl q ↦ subst (λ (y : Bool × List ℕ). Takes (Byte (mutable_byte y.0) Nothing) (b ∷ rest) y.1) (ok_is (true, rest) x q.1) (record { front = b ∷ []; parts = refl; is = (eqb-true b 1 q.0, refl) })
        | inr q ↦ absurd cc
      ]
    ]

    only : (m : Bool) (front rest : List ℕ) → Byte (mutable_byte m) Nothing front → mutable_at (front ++ rest) ≡ Ok (m, rest)
    only m [] rest h = absurd h
    only false (b ∷ front) rest h = rw (h.0, h.1) refl
    only true (b ∷ front) rest h = rw (h.0, h.1) refl

abbrev a_global : ValueType → Bool → Value → GlobalEntry
a_global t m v = record { value_type = t; is_mutable = m; initial = v }

abbrev IsInitialOf : ValueType → Bool → GlobalEntry → List ℕ → Type 0
IsInitialOf t m g bytes = (v : Value) × (a_global t m v ≡ g) × IsConstant v bytes

abbrev IsMutableOf : ValueType → GlobalEntry → List ℕ → Type 0
IsMutableOf t g bytes = (m : Bool) × Then (Byte (mutable_byte m) Nothing) (IsInitialOf t m g) bytes

global_to : (g : GlobalEntry) (bytes : List ℕ) → (t : ValueType) × Then (IsValueType t) (IsMutableOf t g) bytes → IsGlobal g bytes
global_to g bytes h =
    let t = h.1 in
    let m = t.second in
    let u = m.1 in
    subst (λ (y : GlobalEntry). IsGlobal y bytes) u.second.1
    (byte_then (value_type_byte h.0) (Byte (mutable_byte m.0) (IsConstant u.second.0)) bytes (record {
      front = t.front;
      back = t.back;
      parts = t.parts;
      first = t.first;
      second = byte_then (mutable_byte m.0) (IsConstant u.second.0) t.back (record { front = u.front; back = u.back; parts = u.parts; first = u.first; second = u.second.2 });
    }))

global_from : (g : GlobalEntry) (bytes : List ℕ) → IsGlobal g bytes → (t : ValueType) × Then (IsValueType t) (IsMutableOf t g) bytes
global_from g bytes h =
    let t = then_byte (value_type_byte g.value_type) (Byte (mutable_byte g.is_mutable) (IsConstant g.initial)) bytes h in
    let u = then_byte (mutable_byte g.is_mutable) (IsConstant g.initial) t.back t.second in (
      g.value_type,
      record {
        front = t.front;
        back = t.back;
        parts = t.parts;
        first = t.first;
        second = (g.is_mutable, record { front = u.front; back = u.back; parts = u.parts; first = u.first; second = (g.initial, refl, u.second) });
      },
    )

pub exact_global : Exact IsGlobal global_at
unfolding global_at
exact_global =
    exact_as (λ g bytes. (t : ValueType) × Then (IsValueType t) (IsMutableOf t g) bytes) IsGlobal global_at
    (exact_then IsValueType IsMutableOf value_type_at (λ t bytes. mutable_at bytes >>= λ m. initial_at m.1 >>= λ v. left_with (a_global t m.0 v.0) v.1) exact_value_type
    (λ t. exact_then (λ m. Byte (mutable_byte m) Nothing) (IsInitialOf t) mutable_at (λ m bytes. initial_at bytes >>= λ v. left_with (a_global t m v.0) v.1) exact_mutable
    (λ m. exact_map IsConstant initial_at (a_global t m) exact_initial)))
    global_to global_from

-- ---- exports

exact_kind : Exact (λ k. Byte (kind_byte k) Nothing) kind_at
exact_kind = record { found = found; only = only }
  where
    here : (b : ℕ) (rest : List ℕ) (x : ExportKind × List ℕ) (k : ExportKind) (other : Result (ExportKind × List ℕ) Fault) → (other ≡ Ok x → Takes (Byte (kind_byte x.0) Nothing) (b ∷ rest) x.1)
        → cond (eqb b (kind_byte k)) (left_with k rest) other ≡ Ok x → Takes (Byte (kind_byte x.0) Nothing) (b ∷ rest) x.1
    here b rest x k other others e = elim (chosen (eqb b (kind_byte k)) _ _ _ e) [
      | inl p ↦ subst (λ (y : ExportKind × List ℕ). Takes (Byte (kind_byte y.0) Nothing) (b ∷ rest) y.1) (ok_is (k, rest) x p.1) (record { front = b ∷ []; parts = refl; is = (eqb-true b (kind_byte k) p.0, refl) })
      | inr p ↦ others p.1
    ]

    found : (bytes : List ℕ) (x : ExportKind × List ℕ) → kind_at bytes ≡ Ok x → Takes (Byte (kind_byte x.0) Nothing) bytes x.1
    found [] x e = absurd cc
    found (b ∷ rest) x e = here b rest x kind.Function _ (here b rest x kind.Table _ (here b rest x kind.Memory _ (here b rest x kind.Global _ (λ e. absurd cc)))) e

    only : (k : ExportKind) (front rest : List ℕ) → Byte (kind_byte k) Nothing front → kind_at (front ++ rest) ≡ Ok (k, rest)
    only k [] rest h = absurd h
    only kind.Function (b ∷ front) rest h = rw (h.0, h.1) refl
    only kind.Table (b ∷ front) rest h = rw (h.0, h.1) refl
    only kind.Memory (b ∷ front) rest h = rw (h.0, h.1) refl
    only kind.Global (b ∷ front) rest h = rw (h.0, h.1) refl

abbrev an_export : List ℕ → ExportKind → ℕ → Export
an_export name kind index = record { name = name; kind = kind; index = index }

module _ (m : Module) (counts : Counts) (count : (k : ExportKind) → count_of counts k ≡ kind_count m k) (before : List Export) where
  abbrev IsIndexOf : List ℕ → ExportKind → Export → List ℕ → Type 0
  IsIndexOf name k e bytes = (i : ℕ) × (an_export name k i ≡ e) × IsIndex (count_of counts k) i bytes

  abbrev IsExported : List ℕ → Export → List ℕ → Type 0
  IsExported name e bytes = (k : ExportKind) × Then (Byte (kind_byte k) Nothing) (IsIndexOf name k e) bytes

  abbrev IsNew : List ℕ → Export → List ℕ → Type 0
  IsNew name e bytes = (list_any (λ (b : Export). bytes_eq b.name name) before ≡ false) × IsExported name e bytes

  exact_exported : (name : List ℕ) → Exact (IsExported name) (exported_at counts name)
  unfolding exported_at
  exact_exported name =
      exact_then (λ k. Byte (kind_byte k) Nothing) (IsIndexOf name) kind_at (λ k bytes. index_at (count_of counts k) bytes >>= λ i. left_with (an_export name k i.0) i.1) exact_kind
      (λ k. exact_map (IsIndex (count_of counts k)) (index_at (count_of counts k)) (an_export name k) (exact_index (count_of counts k)))

  differ : (name : List ℕ) (b : Export) → bytes_eq b.name name ≡ false → b.name ≢ name
  differ name b other same = let both : true ≡ false = sym ((bytes_eq-Decides b.name name).1 same) ∙ other in absurd cc

  no_name : (name : List ℕ) (b : Export) → b.name ≢ name → bytes_eq b.name name ≡ false
  no_name name b other = false_from_ne_true (bytes_eq b.name name) (λ yes. other ((bytes_eq-Decides b.name name).0 yes))

  export_to : (e : Export) (bytes : List ℕ) → (name : List ℕ) × Then (IsName name) (IsNew name e) bytes → IsExport m before e bytes
  export_to e bytes h =
      let t = h.1 in
      let k = t.second.1.0 in
      let u = t.second.1.1 in
      let i = u.second.0 in
      let others = none_pass (λ (b : Export). bytes_eq b.name h.0) (λ b. b.name ≢ h.0) before (differ h.0) t.second.0 in
      let index : IsIndex (kind_count m k) i u.back = subst (λ n. IsIndex n i u.back) (count k) u.second.2 in
      subst (λ (y : Export). IsExport m before y bytes) u.second.1 (
        others,
        record {
          front = t.front;
          back = t.back;
          parts = t.parts;
          first = t.first;
          second = byte_then (kind_byte k) (IsIndex (kind_count m k) i) t.back (record { front = u.front; back = u.back; parts = u.parts; first = u.first; second = index });
        },
      )

  export_from : (e : Export) (bytes : List ℕ) → IsExport m before e bytes → (name : List ℕ) × Then (IsName name) (IsNew name e) bytes
  export_from e bytes h =
      let t = h.1 in
      let u = then_byte (kind_byte e.kind) (IsIndex (kind_count m e.kind) e.index) t.back t.second in
      let others = pass_none (λ (b : Export). bytes_eq b.name e.name) (λ b. b.name ≢ e.name) before (no_name e.name) h.0 in (
        e.name,
        record {
          front = t.front;
          back = t.back;
          parts = t.parts;
          first = t.first;
          second = (others, (e.kind, record { front = u.front; back = u.back; parts = u.parts; first = u.first; second = (e.index, refl, subst (λ n. IsIndex n e.index u.back) (sym (count e.kind)) u.second) }));
        },
      )

  pub exact_export : Exact (IsExport m before) (export_at counts before)
  unfolding export_at
  exact_export =
      exact_as (λ e bytes. (name : List ℕ) × Then (IsName name) (IsNew name e) bytes) (IsExport m before) (export_at counts before)
      (exact_then IsName IsNew name_at (λ name bytes. cond (list_any (λ (b : Export). bytes_eq b.name name) before) (Err NotModule) (exported_at counts name bytes)) exact_name
      (λ name. exact_unless (list_any (λ (b : Export). bytes_eq b.name name) before) NotModule (IsExported name) (exported_at counts name) (exact_exported name)))
      export_to export_from
