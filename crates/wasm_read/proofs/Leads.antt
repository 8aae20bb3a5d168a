-- What readers leave: never more than they were given.
use Rattle.std.proofs.Common.{◌≡◌, ℕ, zero, suc, ◌-◌, ◌≤◌, ◌<◌, Bool, cond, true, false, List, [], ◌∷◌, ◌++◌, length, Option, Some, None, Result, Ok, Err, refl, arith}
use Rattle.std.specs.Prelude.{nat_lt, ◌==◌, IfOk}
use Rattle.wasm_form.specs.declared.instr.Instr.{Instr, roll-Instr}
use Rattle.wasm_form.specs.declared.instr.Instr.TheOpen as F
use Rattle.wasm_form.specs.declared.types.ValueType.{ValueType}
use Rattle.wasm_form.specs.declared.limits.ModuleLimit.TheVariants as limit
use Rattle.wasm_form.specs.Tables.{is_float, is_between, numeric_of, access_of}
use Rattle.wasm_read.specs.declared.fault.Fault.{Fault}
use Rattle.wasm_read.specs.declared.fault.Fault.TheVariants.{NotModule, Limit}
use Rattle.wasm_read.specs.declared.fault.Stop.{Stop}
use Rattle.wasm_read.specs.Reading.{◌>>=◌, Reader, Gives, number_at, last_of, or_fault, u32_at, list_at, count_at, end_at, zero_at}
use Rattle.wasm_read.specs.Types.{value_type_by, block_type_at}
use Rattle.wasm_read.specs.Codes.{of_number, labels_at, br_table_at, call_indirect_at, control_by, variable_by, access_at, constant_by, plain_by}
use Rattle.wasm_form.specs.declared.limits.TheConstants.{MOST_TARGETS}

-- what is left is shorter than n
pub record Leads {A : Type 0} (n : ℕ) (r : Result (A × List ℕ) Fault) : Type 0 where
  pub less : (x : A × List ℕ) → r ≡ Ok x → length x.1 < n

abbrev pub done : {A : Type 0} → A → Result A Fault
done x = Ok x

pub ok_is : {A : Type 0} (x y : A) → done x ≡ done y → x ≡ y
ok_is x y e = cc

pub leads_ok : {A : Type 0} (n : ℕ) (a : A) (rest : List ℕ) → length rest < n → Leads n (Ok (a, rest))
leads_ok n a rest lt = record { less = λ x e. rw (← ok_is (a, rest) x e) lt }

pub leads_err : (A : Type 0) (n : ℕ) (f : Fault) → Leads {A = A} n (Err f)
leads_err A n f = record { less = λ x e. absurd cc }

pub leads_more : {A : Type 0} (m n : ℕ) (r : Result (A × List ℕ) Fault) → m ≤ n → Leads m r → Leads n r
leads_more m n r le l = record { less = λ x e. omega (arith, l.less x e) }

pub leads_then : {A B : Type 0} (m n : ℕ) (r : Result (A × List ℕ) Fault) (f : A × List ℕ → Result (B × List ℕ) Fault) → Leads m r → ((x : A × List ℕ) → length x.1 < m → Leads n (f x)) → Leads n (r >>= f)
leads_then m n (Ok x) f l h = h x (l.less x refl)
leads_then {B} m n (Err e) f l h = leads_err B n e

-- both sides of a test
pub leads_if : {A : Type 0} (n : ℕ) (b : Bool) (r s : Result (A × List ℕ) Fault) → Leads n r → Leads n s → Leads n (cond b r s)
leads_if n true r s l m = l
leads_if n false r s l m = m

-- a byte alone
pub record LeadsByte (n : ℕ) (r : Result (List ℕ) Fault) : Type 0 where
  pub less : (x : List ℕ) → r ≡ Ok x → length x < n

byte_if : (n : ℕ) (b : Bool) (rest : List ℕ) (f : Fault) → length rest < n → LeadsByte n (cond b (Ok rest) (Err f))
byte_if n true rest f lt = record { less = λ x e. rw (← ok_is rest x e) lt }
byte_if n false rest f lt = record { less = λ x e. absurd cc }

pub end_leads : (bytes : List ℕ) → LeadsByte (length bytes) (end_at bytes)
end_leads [] = record { less = λ x e. absurd cc }
end_leads (b ∷ rest) = byte_if _ _ rest NotModule (omega arith)

pub zero_leads : (bytes : List ℕ) → LeadsByte (length bytes) (zero_at bytes)
zero_leads [] = record { less = λ x e. absurd cc }
zero_leads (b ∷ rest) = byte_if _ _ rest NotModule (omega arith)

pub byte_then : {B : Type 0} (m n : ℕ) (r : Result (List ℕ) Fault) (f : List ℕ → Result (B × List ℕ) Fault) → LeadsByte m r → ((x : List ℕ) → length x < m → Leads n (f x)) → Leads n (r >>= f)
byte_then m n (Ok x) f l h = h x (l.less x refl)
byte_then {B} m n (Err e) f l h = leads_err B n e

-- ---- numbers and lists

or_leads : {A : Type 0} (n : ℕ) (o : Option A) (rest : List ℕ) → length rest < n → Leads n (or_fault o rest)
or_leads {A} n None rest lt = leads_err A n NotModule
or_leads n (Some x) rest lt = leads_ok n x rest lt

pub number_leads : (signed : Bool) (bits : ℕ) (bytes : List ℕ) → Leads (length bytes) (number_at signed bits bytes)
unfolding number_at
number_leads signed bits [] = leads_err ℕ _ NotModule
number_leads signed bits (b ∷ rest) =
    let n = length (b ∷ rest) in
    leads_if n (nat_lt b 128) _ _ (or_leads n (last_of signed bits b) rest (omega arith))
    (leads_if n (nat_lt 7 bits) _ _ (leads_then (length rest) n (number_at signed (bits - 7) rest) _ (number_leads signed (bits - 7) rest) (λ x lt. leads_ok n _ x.1 (omega arith))) (leads_err ℕ n NotModule))

pub list_leads : {A : Type 0} (one : List A → Reader A) → ((before : List A) (bytes : List ℕ) → Leads (length bytes) (one before bytes)) → (count : ℕ) (before : List A) (bytes : List ℕ) → Leads (suc (length bytes)) (list_at one before count bytes)
unfolding list_at
list_leads one l zero before bytes = leads_ok _ _ bytes (omega arith)
list_leads one l (suc count) before bytes = leads_then (length bytes) _ (one before bytes) _ (l before bytes) (λ x lt. leads_more (suc (length x.1)) _ _ (omega arith) (list_leads one l count (before ++ x.0 ∷ []) x.1))

-- ---- instructions that hold no others

number_then : {B : Type 0} (n : ℕ) (bytes : List ℕ) (f : ℕ × List ℕ → Result (B × List ℕ) Fault) → ((x : ℕ × List ℕ) → length x.1 < length bytes → Leads n (f x)) → Leads n (u32_at bytes >>= f)
number_then n bytes f h = leads_then (length bytes) n (u32_at bytes) f (number_leads false 32 bytes) h

of_number_leads : (make : ℕ → Instr) (rest : List ℕ) → Leads (suc (length rest)) (of_number make rest)
of_number_leads make rest = number_then _ rest _ (λ x lt. leads_ok _ _ x.1 (omega arith))

labels_leads : (rest : List ℕ) → Leads (suc (length rest)) (labels_at rest)
unfolding labels_at
labels_leads rest =
    leads_then (length rest) _ (count_at MOST_TARGETS (Limit limit.Targets) rest) _
    (number_then (length rest) rest _ (λ x lt. leads_if _ (nat_lt MOST_TARGETS x.0) _ _ (leads_err ℕ _ _) (leads_ok _ _ x.1 lt)))
    (λ x lt. leads_more (suc (length x.1)) _ _ (omega arith) (list_leads (λ _. u32_at) (λ before bytes. number_leads false 32 bytes) x.0 [] x.1))

br_table_leads : (rest : List ℕ) → Leads (suc (length rest)) (br_table_at rest)
unfolding br_table_at
br_table_leads rest = leads_then (suc (length rest)) _ (labels_at rest) _ (labels_leads rest) (λ ls lt. number_then _ ls.1 _ (λ x le. leads_ok _ _ x.1 (omega arith)))

call_indirect_leads : (rest : List ℕ) → Leads (suc (length rest)) (call_indirect_at rest)
unfolding call_indirect_at
call_indirect_leads rest = number_then _ rest _ (λ t lt. byte_then (length t.1) _ (zero_at t.1) _ (zero_leads t.1) (λ x le. leads_ok _ _ x (omega arith)))

control_leads : (b : ℕ) (rest : List ℕ) → Leads (suc (length rest)) (control_by b rest)
unfolding control_by
control_leads b rest =
    let n = suc (length rest) in
    let here = λ (i : Instr). leads_ok n i rest (omega arith) in
    leads_if n (b == 0x00) _ _ (here _) (leads_if n (b == 0x01) _ _ (here _)
    (leads_if n (b == 0x0c) _ _ (of_number_leads _ rest) (leads_if n (b == 0x0d) _ _ (of_number_leads _ rest)
    (leads_if n (b == 0x0e) _ _ (br_table_leads rest) (leads_if n (b == 0x0f) _ _ (here _)
    (leads_if n (b == 0x10) _ _ (of_number_leads _ rest) (leads_if n (b == 0x11) _ _ (call_indirect_leads rest)
    (leads_if n (b == 0x1a) _ _ (here _) (leads_if n (b == 0x1b) _ _ (here _) (leads_err Instr n NotModule))))))))))

variable_leads : (b : ℕ) (rest : List ℕ) → Leads (suc (length rest)) (variable_by b rest)
unfolding variable_by
variable_leads b rest = leads_if _ _ _ _ (leads_err Instr _ NotModule) (of_number_leads _ rest)

access_leads : (b : ℕ) (rest : List ℕ) → Leads (suc (length rest)) (access_at rest >>= λ m. Ok (access_of b m.0, m.1))
unfolding access_at
access_leads b rest =
    leads_then (length rest) _ (access_at rest) _
    (number_then _ rest _ (λ a lt. number_then _ a.1 _ (λ o le. leads_ok _ _ o.1 (omega arith))))
    (λ m lt. leads_ok _ _ m.1 (omega arith))

constant_leads : (b : ℕ) (rest : List ℕ) → Leads (suc (length rest)) (constant_by b rest)
unfolding constant_by
constant_leads b rest =
    let n = suc (length rest) in
    let zero_one = λ (i : Instr). byte_then (length rest) n (zero_at rest) (λ r. Ok (i, r)) (zero_leads rest) (λ x lt. leads_ok n i x (omega arith)) in
    leads_if n (b == 0x3f) _ _ (zero_one _) (leads_if n (b == 0x40) _ _ (zero_one _)
    (leads_if n (b == 0x41) _ _
    (leads_then (length rest) n (number_at true 32 rest) _ (number_leads true 32 rest) (λ x lt. leads_ok n (roll-Instr (F.I32Const x.0)) x.1 (omega arith)))
    (leads_then (length rest) n (number_at true 64 rest) _ (number_leads true 64 rest) (λ x lt. leads_ok n (roll-Instr (F.I64Const x.0)) x.1 (omega arith)))))

pub plain_leads : (b : ℕ) (rest : List ℕ) → Leads (suc (length rest)) (plain_by b rest)
unfolding plain_by
plain_leads b rest =
    let n = suc (length rest) in
    leads_if n (is_float b) _ _ (leads_err Instr n _) (leads_if n (nat_lt b 0x20) _ _ (control_leads b rest) (leads_if n (nat_lt b 0x28) _ _ (variable_leads b rest)
    (leads_if n (nat_lt b 0x3f) _ _ (access_leads b rest) (leads_if n (nat_lt b 0x43) _ _ (constant_leads b rest) (or_leads n (numeric_of b) rest (omega arith))))))

value_type_leads : (b : ℕ) (rest : List ℕ) → Leads (suc (length rest)) (value_type_by b rest)
value_type_leads b rest =
    let n = suc (length rest) in
    leads_if n (b == 0x7f) _ _ (leads_ok n _ rest (omega arith)) (leads_if n (b == 0x7e) _ _ (leads_ok n _ rest (omega arith)) (leads_if n (is_between 0x7c 0x7d b) _ _ (leads_err ValueType n _) (leads_err ValueType n _)))

pub block_type_leads : (bytes : List ℕ) → Leads (length bytes) (block_type_at bytes)
block_type_leads [] = leads_err (Option ValueType) _ NotModule
block_type_leads (b ∷ rest) = leads_if _ (b == 0x40) _ _ (leads_ok _ _ rest (omega arith)) (leads_then (suc (length rest)) _ (value_type_by b rest) _ (value_type_leads b rest) (λ x lt. leads_ok _ _ x.1 (omega arith)))

-- what a function leaves, that gives this
pub gives_leads : {X A : Type 0} (view : X → A × List ℕ) (n : ℕ) (r : Result X Stop) (read : Result (A × List ℕ) Fault) → Leads n read → Gives view r read → IfOk r (λ x. length (view x).1 < n)
gives_leads view n (Ok x) read l g = l.less (view x) g
gives_leads view n (Err e) read l g = tt
