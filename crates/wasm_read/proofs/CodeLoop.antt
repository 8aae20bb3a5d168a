-- Reading instructions one after the other, as the loop does.
use Rattle.std.proofs.Common.{◌≡◌, ℕ, zero, suc, ◌+◌, ◌≤◌, ◌<◌, cond, true, false, List, [], ◌∷◌, ◌++◌, length, Option, Result, Ok, Err, refl, sym, ap, ◌∙◌, append_assoc, arith}
use Rattle.std.specs.Prelude.{◌==◌}
use Rattle.std.proofs.lemmas.List.{append-nil}
use Rattle.wasm_form.specs.declared.instr.Instr.{Instr}
use Rattle.wasm_form.specs.declared.instr.Instr.TheVariants.{Block, Loop, If}
use Rattle.wasm_form.specs.declared.types.ValueType.{ValueType}
use Rattle.wasm_form.specs.declared.limits.ModuleLimit.TheVariants as limit
use Rattle.wasm_read.specs.declared.fault.Fault.{Fault}
use Rattle.wasm_read.specs.declared.fault.Fault.TheVariants.{NotModule, Limit}
use Rattle.wasm_read.specs.declared.fault.Stop.{Stop}
use Rattle.wasm_read.specs.declared.fault.Stop.TheVariants as stop
use Rattle.wasm_read.specs.Fault.{kind_of}
use Rattle.wasm_read.specs.Reading.{◌>>=◌, FailsAs, end_at}
use Rattle.wasm_read.specs.Types.{block_type_at}
use Rattle.wasm_read.specs.Codes.{Coded, stops_at, nested_with, closed_with, second_with, sides_with, with_label, instr_with, code_with, code_at, code_all}
use Rattle.wasm_read.proofs.Leads.{Leads, done, leads_ok, leads_err, leads_then, leads_if, byte_then, end_leads, plain_leads, block_type_leads}
use Rattle.wasm_form.specs.declared.limits.TheConstants.{MOST_LABELS}

-- ---- the fuel does not matter

-- the two readers agree on what is shorter than n
abbrev Agree : ℕ → Coded → Coded → Type 0
Agree n k k' = (labels : ℕ) (bytes : List ℕ) → length bytes < n → k labels bytes ≡ k' labels bytes

-- what is left after a reader is no longer than what it was given
abbrev Leaves : Coded → Type 0
Leaves k = (labels : ℕ) (bytes : List ℕ) → Leads (suc (length bytes)) (k labels bytes)

bind_same : {A B : Type 0} (r : Result A Fault) (f g : A → Result B Fault) → ((x : A) → r ≡ Ok x → f x ≡ g x) → (r >>= f) ≡ (r >>= g)
bind_same (Ok x) f g h = h x refl
bind_same (Err e) f g h = refl

nested_same : (k k' : Coded) (labels : ℕ) (rest : List ℕ) → Agree (length rest) k k' → nested_with k labels rest ≡ nested_with k' labels rest
unfolding nested_with
nested_same k k' labels rest a = ap (λ (y : Result ((Option ValueType × List Instr) × List ℕ) Fault). with_label labels y) (bind_same (block_type_at rest) _ _ (λ t e. ap (λ (c : Result (List Instr × List ℕ) Fault). c >>= λ y. end_at y.1 >>= λ r. done ((t.0, y.0), r)) (a (labels + 1) t.1 ((block_type_leads rest).less t e))))

second_same : (k k' : Coded) (labels : ℕ) (bytes : List ℕ) → Agree (length bytes) k k' → second_with k labels bytes ≡ second_with k' labels bytes
unfolding second_with
second_same k k' labels [] a = refl
second_same k k' labels (b ∷ rest) a =
    let same : closed_with k labels rest ≡ closed_with k' labels rest = ap (λ (y : Result (List Instr × List ℕ) Fault). y >>= λ c. end_at c.1 >>= λ r. done (c.0, r)) (a labels rest (omega arith)) in
    rw same refl

sides_same : (k k' : Coded) (labels : ℕ) (rest : List ℕ) → Leaves k → Agree (length rest) k k' → sides_with k labels rest ≡ sides_with k' labels rest
unfolding sides_with
sides_same k k' labels rest l a = ap (λ (y : Result ((Option ValueType × List Instr × List Instr) × List ℕ) Fault). with_label labels y) (bind_same (block_type_at rest) _ _ (λ t e.
    let shorter = (block_type_leads rest).less t e in
    bind_same (k (labels + 1) t.1) _ _ (λ c h.
    let left = (l (labels + 1) t.1).less c h in
    ap (λ (y : Result (List Instr × List ℕ) Fault). y >>= λ d. done ((t.0, c.0, d.0), d.1)) (second_same k k' (labels + 1) c.1 (λ n bs lt. a n bs (omega arith))))
    ∙ ap (λ (y : Result (List Instr × List ℕ) Fault). y >>= λ c. second_with k' (labels + 1) c.1 >>= λ d. done ((t.0, c.0, d.0), d.1)) (a (labels + 1) t.1 shorter)))

instr_same : (k k' : Coded) (labels : ℕ) (bytes : List ℕ) → Leaves k → Agree (length bytes) k k' → instr_with k labels bytes ≡ instr_with k' labels bytes
unfolding instr_with
instr_same k k' labels [] l a = refl
instr_same k k' labels (b ∷ rest) l a =
    let less : Agree (length rest) k k' = λ n bs lt. a n bs (omega arith) in
    rw (nested_same k k' labels rest less, sides_same k k' labels rest l less) refl

label_leads : {A : Type 0} (n labels : ℕ) (r : Result (A × List ℕ) Fault) → Leads n r → Leads n (with_label labels r)
label_leads {A} n labels r l = leads_if n (labels == MOST_LABELS) _ _ (leads_err A n (Limit limit.Labels)) l

nested_leads : (k : Coded) (labels : ℕ) (rest : List ℕ) → Leaves k → Leads (length rest) (nested_with k labels rest)
unfolding nested_with
nested_leads k labels rest l =
    label_leads (length rest) labels _ (leads_then (length rest) _ (block_type_at rest) _ (block_type_leads rest) (λ t lt.
    leads_then (suc (length t.1)) _ (k (labels + 1) t.1) _ (l (labels + 1) t.1) (λ c le.
    byte_then (length c.1) _ (end_at c.1) _ (end_leads c.1) (λ r short. leads_ok _ _ r (omega arith)))))

second_leads : (k : Coded) (labels : ℕ) (bytes : List ℕ) → Leaves k → Leads (length bytes) (second_with k labels bytes)
unfolding second_with
second_leads k labels [] l = leads_err (List Instr) _ NotModule
second_leads k labels (b ∷ rest) l =
    leads_if _ (b == 0x05) _ _
    (leads_then (suc (length rest)) _ (k labels rest) _ (l labels rest) (λ c le. byte_then (length c.1) _ (end_at c.1) _ (end_leads c.1) (λ r short. leads_ok _ _ r (omega arith))))
    (byte_then (length (b ∷ rest)) _ (end_at (b ∷ rest)) _ (end_leads (b ∷ rest)) (λ r short. leads_ok _ _ r (omega arith)))

sides_leads : (k : Coded) (labels : ℕ) (rest : List ℕ) → Leaves k → Leads (length rest) (sides_with k labels rest)
unfolding sides_with
sides_leads k labels rest l =
    label_leads (length rest) labels _ (leads_then (length rest) _ (block_type_at rest) _ (block_type_leads rest) (λ t lt.
    leads_then (suc (length t.1)) _ (k (labels + 1) t.1) _ (l (labels + 1) t.1) (λ c le.
    leads_then (length c.1) _ (second_with k (labels + 1) c.1) _ (second_leads k (labels + 1) c.1 l) (λ d short. leads_ok _ _ d.1 (omega arith)))))

pub instr_leads : (k : Coded) (labels : ℕ) (bytes : List ℕ) → Leaves k → Leads (length bytes) (instr_with k labels bytes)
unfolding instr_with
instr_leads k labels [] l = leads_err Instr _ NotModule
instr_leads k labels (b ∷ rest) l =
    let n = length (b ∷ rest) in
    let nested = λ (make : Option ValueType → List Instr → Instr). leads_then (length rest) n (nested_with k labels rest) (λ x. Ok (make x.0.0 x.0.1, x.1)) (nested_leads k labels rest l) (λ x lt. leads_ok n _ x.1 (omega arith)) in
    leads_if n (b == 0x02) _ _ (nested (λ t c. Block t c)) (leads_if n (b == 0x03) _ _ (nested (λ t c. Loop t c))
    (leads_if n (b == 0x04) _ _ (leads_then (length rest) n (sides_with k labels rest) _ (sides_leads k labels rest l) (λ x lt. leads_ok n (If x.0.0 x.0.1 x.0.2) x.1 (omega arith)))
    (plain_leads b rest)))

leaves : (fuel : ℕ) → Leaves (code_at fuel)
unfolding code_at
leaves zero labels bytes = leads_err (List Instr) _ NotModule
leaves (suc fuel) labels bytes =
    leads_if _ (stops_at bytes) _ _ (leads_ok _ _ bytes (omega arith))
    (leads_then (length bytes) _ (instr_with (code_at fuel) labels bytes) _ (instr_leads (code_at fuel) labels bytes (leaves fuel)) (λ i lt.
    leads_then (suc (length i.1)) _ (code_at fuel labels i.1) _ (leaves fuel labels i.1) (λ c le. leads_ok _ _ c.1 (omega arith))))

abbrev tail : Coded → ℕ → Instr × List ℕ → Result (List Instr × List ℕ) Fault
tail k labels i = k labels i.1 >>= λ c. Ok (i.0 ∷ c.0, c.1)

opens : (f : ℕ) (labels : ℕ) (bytes : List ℕ) → code_at (suc f) labels bytes ≡ code_with (code_at f) labels bytes
unfolding code_at
opens f labels bytes = refl

fuel_same : (f g : ℕ) (labels : ℕ) (bytes : List ℕ) → length bytes < f → length bytes < g → code_at f labels bytes ≡ code_at g labels bytes
unfolding code_at
fuel_same zero g labels bytes lf lg = absurd (omega arith)
fuel_same (suc f) zero labels bytes lf lg = absurd (omega arith)
fuel_same (suc f) (suc g) labels bytes lf lg =
    let i : instr_with (code_at f) labels bytes ≡ instr_with (code_at g) labels bytes = instr_same (code_at f) (code_at g) labels bytes (leaves f) (λ l b lt. fuel_same f g l b (omega arith) (omega arith)) in
    let r : (instr_with (code_at f) labels bytes >>= tail (code_at f) labels) ≡ (instr_with (code_at f) labels bytes >>= tail (code_at g) labels) =
    bind_same (instr_with (code_at f) labels bytes) _ _ (λ x e.
    let short = (instr_leads (code_at f) labels bytes (leaves f)).less x e in
    ap (λ (y : Result (List Instr × List ℕ) Fault). y >>= λ c. done (x.0 ∷ c.0, c.1)) (fuel_same f g labels x.1 (omega arith) (omega arith))) in
    ap (λ y. cond (stops_at bytes) (Ok ([], bytes)) y) (r ∙ ap (λ (y : Result (Instr × List ℕ) Fault). y >>= tail (code_at g) labels) i)

pub code_all_is : (labels : ℕ) (bytes : List ℕ) → code_all labels bytes ≡ code_with code_all labels bytes
unfolding code_all
code_all_is labels bytes = opened ∙ ap (λ y. cond (stops_at bytes) (Ok ([], bytes)) y) (tails ∙ ap (λ (y : Result (Instr × List ℕ) Fault). y >>= tail code_all labels) heads)
  where
    opened : code_at (suc (length bytes)) labels bytes ≡ code_with (code_at (length bytes)) labels bytes
    opened = opens (length bytes) labels bytes

    heads : instr_with (code_at (length bytes)) labels bytes ≡ instr_with code_all labels bytes
    heads = instr_same (code_at (length bytes)) code_all labels bytes (leaves (length bytes)) (λ l b lt. fuel_same (length bytes) (suc (length b)) l b lt (omega arith))

    tails : (instr_with (code_at (length bytes)) labels bytes >>= tail (code_at (length bytes)) labels) ≡ (instr_with (code_at (length bytes)) labels bytes >>= tail code_all labels)
    tails = bind_same (instr_with (code_at (length bytes)) labels bytes) _ _ (λ x e.
        let short = (instr_leads (code_at (length bytes)) labels bytes (leaves (length bytes))).less x e in
        ap (λ (y : Result (List Instr × List ℕ) Fault). y >>= λ c. done (x.0 ∷ c.0, c.1)) (fuel_same (length bytes) (suc (length x.1)) labels x.1 short (omega arith)))

-- ---- the loop

pub with_front : List Instr → Result (List Instr × List ℕ) Fault → Result (List Instr × List ℕ) Fault
with_front front read = read >>= λ x. Ok (front ++ x.0, x.1)

-- what was read before and what is still read are the whole
pub record IsOn (labels : ℕ) (bytes : List ℕ) (code : List Instr) (rest : List ℕ) : Type 0 where
  pub whole : with_front code (code_all labels rest) ≡ code_all labels bytes
  pub within : length rest ≤ length bytes

regroup : (front : List Instr) (i : Instr) (read : Result (List Instr × List ℕ) Fault) → with_front front (read >>= λ x. Ok (i ∷ x.0, x.1)) ≡ with_front (front ++ i ∷ []) read
unfolding with_front
regroup front i (Ok x) = ap (λ (is : List Instr). Ok (is, x.1)) (simp append_assoc)
regroup front i (Err f) = refl

nothing : (read : Result (List Instr × List ℕ) Fault) → with_front [] read ≡ read
unfolding with_front
nothing (Ok x) = refl
nothing (Err f) = refl

pub begins : (labels : ℕ) (bytes : List ℕ) → IsOn labels bytes [] bytes
begins labels bytes = record { whole = nothing (code_all labels bytes); within = omega arith }

pub goes_on : (labels : ℕ) (bytes : List ℕ) (code : List Instr) (rest : List ℕ) (i : Instr) (next : List ℕ) → stops_at rest ≡ false → instr_with code_all labels rest ≡ Ok (i, next) → length next < length rest → IsOn labels bytes code rest → IsOn labels bytes (code ++ i ∷ []) next
goes_on labels bytes code rest i next more read short on =
    let one : code_all labels rest ≡ (code_all labels next >>= λ c. Ok (i ∷ c.0, c.1)) = code_all_is labels rest ∙ rw (more, read) refl in
    record { whole = sym (ap (with_front code) one ∙ regroup code i (code_all labels next)) ∙ on.whole; within = omega (arith, on.within, short) }

pub fails : (e : Stop) (labels : ℕ) (bytes : List ℕ) (code : List Instr) (rest : List ℕ) → stops_at rest ≡ false → FailsAs (kind_of e) (instr_with code_all labels rest) → IsOn labels bytes code rest → FailsAs (kind_of e) (code_all labels bytes)
unfolding with_front
fails stop.Memory labels bytes code rest more read on = tt
fails (stop.Fault f left) labels bytes code rest more read on =
    let one : code_all labels rest ≡ Err f = code_all_is labels rest ∙ rw (more, read) refl in
    sym on.whole ∙ rw one refl

pub ends : (labels : ℕ) (bytes : List ℕ) (code : List Instr) (rest : List ℕ) → stops_at rest ≡ true → IsOn labels bytes code rest → code_all labels bytes ≡ Ok (code, rest)
unfolding with_front
ends labels bytes code rest stop on =
    let one : code_all labels rest ≡ Ok ([], rest) = code_all_is labels rest ∙ rw stop refl in
    sym on.whole ∙ rw one (ap (λ (is : List Instr). Ok (is, rest)) (append-nil code))
