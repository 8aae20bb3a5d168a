-- Reading from left to right, up to the first fault.
use Rattle.std.specs.Prelude.{◌≡◌, ℕ, zero, suc, ◌+◌, ◌-◌, ◌*◌, ◌^◌, Bool, true, false, nat_lt, nat_le, ◌==◌, if◌then◌else◌, List, [], ◌∷◌, ◌++◌, length, take, drop, Option, Some, None, Result, Ok, Err}
use Rattle.std.specs.Str.{is_utf8}
use Rattle.wasm_read.specs.declared.fault.Fault.{Fault}
use Rattle.wasm_read.specs.declared.fault.Fault.TheVariants.{NotModule}
use Rattle.wasm_read.specs.declared.fault.Stop.{Stop}
use Rattle.wasm_read.specs.Fault.{kind_of}

infixl 10 ◌>>=◌
abbrev pub ◌>>=◌ : {A B : Type 0} → Result A Fault → (A → Result B Fault) → Result B Fault
(Ok x) >>= f = f x
(Err e) >>= f = Err e

-- A reader takes a part from the front of the bytes.
abbrev pub Reader : Type 0 → Type 0
Reader A = List ℕ → Result (A × List ℕ) Fault

-- The function stopped at this fault, or for want of memory.
abbrev pub FailsAs : {Y : Type 0} → Option Fault → Result Y Fault → Type 0
FailsAs None read = Unit {0}
FailsAs (Some f) read = read ≡ Err f

-- What a function returned, seen by view, is what reading gives, unless memory ran out.
abbrev pub Gives : {X Y : Type 0} → (X → Y) → Result X Stop → Result Y Fault → Type 0
Gives view (Ok x) read = read ≡ Ok (view x)
Gives view (Err e) read = FailsAs (kind_of e) read

-- ---- numbers

-- what a last byte stands for, if its unused bits are zero, or copies of its sign
abbrev pub last_of : Bool → ℕ → ℕ → Option ℕ
last_of false bits b = if nat_lt b (2 ^ bits) then Some b else None
last_of true bits b =
    if nat_lt b 64 then (if nat_lt b (2 ^ (bits - 1)) then Some b else None)
    else (if nat_le 128 (b + 2 ^ (bits - 1)) then Some (2 ^ bits + b - 128) else None)

abbrev pub or_fault : {A : Type 0} → Option A → List ℕ → Result (A × List ℕ) Fault
or_fault None rest = Err NotModule
or_fault (Some x) rest = Ok (x, rest)

unfoldable pub number_at : Bool → ℕ → Reader ℕ
number_at signed bits [] = Err NotModule
number_at signed bits (b ∷ rest) =
    if nat_lt b 128 then or_fault (last_of signed bits b) rest
    else (if nat_lt 7 bits then (number_at signed (bits - 7) rest >>= λ x. Ok (b - 128 + 128 * x.0, x.1)) else Err NotModule)

abbrev pub u32_at : Reader ℕ
u32_at = number_at false 32

-- ---- parts

-- so many elements, where one is read behind those before it
unfoldable pub list_at : {A : Type 0} → (List A → Reader A) → List A → ℕ → Reader (List A)
list_at one before zero bytes = Ok (before, bytes)
list_at one before (suc n) bytes = one before bytes >>= λ x. list_at one (before ++ x.0 ∷ []) n x.1

-- bytes with their number before them, which are text
unfoldable pub name_at : Reader (List ℕ)
name_at bytes = u32_at bytes >>= λ n.
    if nat_lt (length n.1) n.0 then Err NotModule
    else (if is_utf8 (take n.0 n.1) then Ok (take n.0 n.1, drop n.0 n.1) else Err NotModule)

-- a number up to a limit
abbrev pub count_at : ℕ → Fault → Reader ℕ
count_at limit fault bytes = u32_at bytes >>= λ n. if nat_lt limit n.0 then Err fault else Ok n

-- the number of a list, up to a limit, and its elements
abbrev pub counted : {A : Type 0} → ℕ → Fault → (List A → Reader A) → Reader (List A)
counted limit fault one bytes = count_at limit fault bytes >>= λ n. list_at one [] n.0 n.1

-- an index below this number
abbrev pub index_at : ℕ → Reader ℕ
index_at limit bytes = u32_at bytes >>= λ n. if nat_lt n.0 limit then Ok n else Err NotModule

-- A part takes all of its bytes, and there are as many as its size says.
abbrev pub closed_at : ℕ → List ℕ → List ℕ → Result (List ℕ) Fault
closed_at size bytes left =
    if length left == 0 then (if nat_lt (length bytes) size then Err NotModule else Ok (drop size bytes))
    else Err NotModule

-- a part with the number of its bytes before it
unfoldable pub framed : {A : Type 0} → Reader A → Reader A
framed content bytes = u32_at bytes >>= λ n. content (take n.0 n.1) >>= λ x. closed_at n.0 n.1 x.1 >>= λ r. Ok (x.0, r)

-- a 0x0b
abbrev pub end_at : List ℕ → Result (List ℕ) Fault
end_at [] = Err NotModule
end_at (b ∷ rest) = if b == 0x0b then Ok rest else Err NotModule

-- a 0x00
abbrev pub zero_at : List ℕ → Result (List ℕ) Fault
zero_at [] = Err NotModule
zero_at (b ∷ rest) = if b == 0x00 then Ok rest else Err NotModule
