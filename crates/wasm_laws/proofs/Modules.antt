-- Parts of a module, from the inside out: some bytes spell each, and how many they are at most.
use Rattle.std.proofs.Common.{◌≡◌, ℕ, zero, suc, ◌+◌, ◌≤◌, ◌<◌, inl, inr, Bool, true, false, if◌then◌else◌, List, [], ◌∷◌, ◌++◌, Some, refl, subst, arith, length, length-append}
use Rattle.std.specs.Prelude.{slice_get, slice_index, nat_lt, All, ◌≢◌}
use Rattle.std.specs.List.{flat_map}
use Rattle.std.proofs.lemmas.Str.{IsUtf8-from_ascii}
use Rattle.std.proofs.lemmas.Bool.{ltb-true}
use Rattle.wasm_form.specs.declared.instr.Instr.{Instr}
use Rattle.wasm_form.specs.declared.module.Import.{Import}
use Rattle.wasm_form.specs.declared.module.LocalGroup.{LocalGroup}
use Rattle.wasm_form.specs.declared.types.FunctionType.{FunctionType}
use Rattle.wasm_form.specs.declared.types.ValueType.{ValueType}
use Rattle.wasm_form.specs.declared.types.ValueType.TheVariants as value_type
use Rattle.wasm_form.specs.Leb.{unsigned_shortest, i32_shortest}
use Rattle.wasm_form.specs.Shortest.{instr_shortest, result_list, swiftown, host_name}
use Rattle.wasm_form.specs.Bytes.{Then, Nothing, Byte, IsU32, IsI32, IsIndex, Sized, IsName, AreItems, IsList, IsValueType, IsType, IsEnd, IsCode, IsImport, host_type, IsGroup, IsSection, AreCustom}
use Rattle.wasm_form.proofs.LebLaws.{AreBytes, i32_number}
use Rattle.wasm_form.specs.declared.limits.TheConstants.{MOST_PARAMETERS}
use Rattle.wasm_laws.proofs.Spelled.{CodeIs, bytes_both, u32_is, u32_short, u32_whole, i32_short, i32_whole}

-- ---- some bytes of a part, and how many they are at most

pub record Of (P : List ℕ → Type 0) (n : ℕ) : Type 0 where
  pub list : List ℕ
  pub is : P list
  pub short : length list ≤ n
  pub whole : AreBytes list

pub as_well : {P Q : List ℕ → Type 0} {n : ℕ} → ((bs : List ℕ) → P bs → Q bs) → Of P n → Of Q n
as_well f p = record { list = p.list; is = f p.list p.is; short = p.short; whole = p.whole }

pub wider : {P : List ℕ → Type 0} {a : ℕ} (b : ℕ) → a ≤ b → Of P a → Of P b
wider b le p = record { list = p.list; is = p.is; short = let q = p.short in omega (arith, q, le); whole = p.whole }

pub then_of : {P Q : List ℕ → Type 0} {a b : ℕ} → Of P a → Of Q b → Of (Then P Q) (a + b)
then_of p q = record {
  list = p.list ++ q.list;
  is = record { front = p.list; back = q.list; parts = refl; first = p.is; second = q.is };
  short = let l = length-append p.list q.list in let a = p.short in let b = q.short in omega (arith, l, a, b);
  whole = bytes_both p.list q.list p.whole q.whole;
}

pub byte_of : (c : ℕ) {P : List ℕ → Type 0} {n : ℕ} → c < 256 → Of P n → Of (Byte c P) (n + 1)
byte_of c lt p = record { list = c ∷ p.list; is = (refl, p.is); short = let q = p.short in omega (arith, q); whole = (lt, p.whole) }

pub nothing_of : Of Nothing 0
nothing_of = record { list = []; is = refl; short = omega arith; whole = tt }

pub u32_of : (n : ℕ) → n < 4294967296 → Of (IsU32 n) 5
u32_of n lt = record { list = unsigned_shortest n; is = u32_is n lt; short = u32_short n lt; whole = u32_whole n }

pub sized_of : {P : List ℕ → Type 0} {n : ℕ} → n < 4294967296 → Of P n → Of (Sized P) (n + 5)
sized_of lt p =
    let q = p.short in
    let size = u32_of (length p.list) (omega (arith, q, lt)) in
    record {
      list = size.list ++ p.list;
      is = record { front = size.list; back = p.list; parts = refl; size = size.is; is = p.is };
      short = let l = length-append size.list p.list in let s = size.short in omega (arith, l, s, q);
      whole = bytes_both size.list p.list size.whole p.whole;
    }

-- elements behind those before them, each with its bound
pub data Items {A : Type 0} (one : List A → A → List ℕ → Type 0) : List A → List A → ℕ → Type 0 where
  no_items : (before : List A) → Items one before [] 0
  item : (before : List A) (x : A) (xs : List A) (a b : ℕ) → Of (one before x) a → Items one (before ++ x ∷ []) xs b → Items one before (x ∷ xs) (a + b)

pub items_of : {A : Type 0} (one : List A → A → List ℕ → Type 0) (before xs : List A) (n : ℕ) → Items one before xs n → Of (AreItems one before xs) n
items_of one before xs n (no_items k) = nothing_of
items_of one before xs n (item k x ys a b p rest) = then_of p (items_of one (before ++ x ∷ []) ys b rest)

pub list_of : {A : Type 0} (one : List A → A → List ℕ → Type 0) (xs : List A) (n : ℕ) → length xs < 4294967296 → Items one [] xs n → Of (IsList one xs) (n + 5)
list_of one xs n lt items = wider (n + 5) (omega arith) (then_of (u32_of (length xs) lt) (items_of one [] xs n items))

pub section_of : {A : Type 0} (id : ℕ) (one : List A → A → List ℕ → Type 0) (xs : List A) (n : ℕ) → id < 256 → length xs < 4294967296 → n + 5 < 4294967296 → Items one [] xs n → Of (IsSection id one xs) (n + 11)
section_of id one xs n small lt few items =
    let s = byte_of id small (sized_of few (list_of one xs n lt items)) in
    record {
      list = s.list;
      is = record { customs = []; section = s.list; parts = refl; skipped = ([], refl); is = inr s.is };
      short = let q = s.short in omega (arith, q);
      whole = s.whole;
    }

pub no_section : {A : Type 0} (id : ℕ) (one : List A → A → List ℕ → Type 0) (xs : List A) → xs ≡ [] → Of (IsSection id one xs) 0
no_section id one xs e = record { list = []; is = record { customs = []; section = []; parts = refl; skipped = ([], refl); is = inl (refl, e) }; short = omega arith; whole = tt }

pub no_customs : Of AreCustom 0
no_customs = record { list = []; is = ([], refl); short = omega arith; whole = tt }

-- ---- entries

pub value_type_of : (t : ValueType) → Of (IsValueType t) 1
value_type_of value_type.I32 = byte_of 0x7f (omega arith) nothing_of
value_type_of value_type.I64 = byte_of 0x7e (omega arith) nothing_of

pub counted : {A : Type 0} {one : List A → A → List ℕ → Type 0} {before xs : List A} {a b : ℕ} → a ≡ b → Items one before xs a → Items one before xs b
counted {one = one} {before = before} {xs = xs} e items = subst (λ (n : ℕ). Items one before xs n) e items

pub value_types_of : (ts before : List ValueType) → Items (λ _. IsValueType) before ts (length ts)
value_types_of [] before = no_items before
value_types_of (t ∷ ts) before = counted (omega arith) (item before t ts 1 (length ts) (value_type_of t) (value_types_of ts (before ++ t ∷ [])))

pub function_type_of : (t : FunctionType) → length t.parameters ≤ MOST_PARAMETERS → length (result_list t.result) ≤ 1 → Of (IsType t) 80
function_type_of t le few = as_well (λ bs h. (le, h)) (wider 80 (omega (arith, le, few)) (byte_of 0x60 (omega arith)
    (then_of (list_of (λ _. IsValueType) t.parameters (length t.parameters) (omega (arith, le)) (value_types_of t.parameters []))
    (list_of (λ _. IsValueType) (result_list t.result) (length (result_list t.result)) (omega (arith, few)) (value_types_of (result_list t.result) [])))))

pub same_of : (bs : List ℕ) → AreBytes bs → Of (λ b. b ≡ bs) (length bs)
same_of bs whole = record { list = bs; is = refl; short = omega arith; whole = whole }

-- letters by a test that computes
abbrev pub are_letters : List ℕ → Bool
are_letters [] = true
are_letters (b ∷ bs) = if nat_lt b 128 then are_letters bs else false

pub parts : (t : Bool) (rest : Bool) → (if t then rest else false) ≡ true → (t ≡ true) × (rest ≡ true)
parts true rest e = (refl, e)
parts false rest e = absurd cc

pub letters_small : (bs : List ℕ) → are_letters bs ≡ true → AreBytes bs
letters_small [] e = tt
letters_small (b ∷ bs) e = let p = parts (nat_lt b 128) (are_letters bs) e in let l = ltb-true b 128 p.0 in (omega (arith, l), letters_small bs p.1)

pub letters_ascii : (bs : List ℕ) → are_letters bs ≡ true → (j : ℕ) → slice_index bs j < 128
letters_ascii [] e j = omega arith
letters_ascii (b ∷ bs) e zero = let p = parts (nat_lt b 128) (are_letters bs) e in let l = ltb-true b 128 p.0 in omega (arith, l)
letters_ascii (b ∷ bs) e (suc j) = let p = parts (nat_lt b 128) (are_letters bs) e in letters_ascii bs p.1 j

pub name_of : (name : List ℕ) (n : ℕ) → are_letters name ≡ true → length name ≤ n → n < 1000 → Of (IsName name) (n + 5)
name_of name n letters le lt = as_well (λ bs h. (IsUtf8-from_ascii name (letters_ascii name letters), h)) (sized_of (omega (arith, lt)) (wider n le (same_of name (letters_small name letters))))

pub import_of : (types : List FunctionType) (before : List Import) (x : Import) → slice_get types x.type_index ≡ Some (host_type x.call) → All (λ b. b.call ≢ x.call) before → are_letters (host_name x.call) ≡ true → length (host_name x.call) ≤ 10 → x.type_index < 10 → Of (IsImport types before x) 40
import_of types before x type other letters le small = as_well (λ bs h. (type, other, h)) (wider 40 (omega arith)
    (then_of (name_of swiftown 8 refl (omega arith) (omega arith))
    (then_of (name_of (host_name x.call) 10 letters le (omega arith)) (byte_of 0 (omega arith) (u32_of x.type_index (omega (arith, small)))))))

pub index_of : (limit n : ℕ) → n < limit → n < 4294967296 → Of (IsIndex limit n) 5
index_of limit n lt small = as_well (λ bs h. (lt, h)) (u32_of n small)

pub i32_of : (n : ℕ) → n < 4294967296 → Of (IsI32 n) 10
i32_of n lt = record { list = i32_shortest n; is = i32_number n lt; short = i32_short n; whole = i32_whole n }

pub end_of : Of IsEnd 1
end_of = byte_of 0x0b (omega arith) nothing_of

pub group_of : (g : LocalGroup) → g.count < 4294967296 → Of (IsGroup g) 6
group_of g lt = then_of (u32_of g.count lt) (value_type_of g.value_type)

pub code_of : (xs : List Instr) (n : ℕ) → CodeIs 0 xs n → Of (IsCode 0 xs) n
code_of xs n c = record { list = flat_map instr_shortest xs; is = c.spelled; short = c.short; whole = c.whole }
