-- Reading types (Core 1.0, 5.3).
use Rattle.std.specs.Prelude.{ℕ, nat_lt, ◌==◌, if◌then◌else◌, List, [], ◌∷◌, Option, Some, None, Ok, Err}
use Rattle.wasm_form.specs.declared.types.ValueType.{ValueType}
use Rattle.wasm_form.specs.declared.types.ValueType.TheVariants.{I32, I64}
use Rattle.wasm_form.specs.declared.types.FunctionType.{FunctionType}
use Rattle.wasm_form.specs.declared.types.Limits.{Limits}
use Rattle.wasm_form.specs.declared.limits.ModuleLimit.TheVariants as limit
use Rattle.wasm_form.specs.declared.limits.Outside.TheVariants.{Float}
use Rattle.wasm_form.specs.Tables.{is_between}
use Rattle.wasm_read.specs.declared.fault.Fault.{Fault}
use Rattle.wasm_read.specs.declared.fault.Fault.TheVariants.{NotModule, OutsideProfile, Limit}
use Rattle.wasm_read.specs.Reading.{◌>>=◌, Reader, u32_at, count_at, counted}
use Rattle.wasm_form.specs.declared.limits.TheConstants.{MOST_TYPES, MOST_PARAMETERS, MOST_TABLE, MOST_PAGES}

abbrev pub value_type_by : ℕ → Reader ValueType
value_type_by b rest =
    if b == 0x7f then Ok (I32, rest)
    else (if b == 0x7e then Ok (I64, rest)
    else (if is_between 0x7c 0x7d b then Err (OutsideProfile Float) else Err NotModule))

abbrev pub value_type_at : Reader ValueType
value_type_at [] = Err NotModule
value_type_at (b ∷ rest) = value_type_by b rest

abbrev pub block_type_at : Reader (Option ValueType)
block_type_at [] = Err NotModule
block_type_at (b ∷ rest) = if b == 0x40 then Ok (None, rest) else (value_type_by b rest >>= λ t. Ok (Some t.0, t.1))

abbrev pub parameters_at : Reader (List ValueType)
parameters_at = counted MOST_PARAMETERS (Limit limit.Parameters) (λ _. value_type_at)

-- a list of at most one
unfoldable pub result_at : Reader (Option ValueType)
result_at bytes = u32_at bytes >>= λ n.
    if n.0 == 0 then Ok (None, n.1)
    else (if n.0 == 1 then (value_type_at n.1 >>= λ t. Ok (Some t.0, t.1)) else Err NotModule)

unfoldable pub type_at : Reader FunctionType
type_at [] = Err NotModule
type_at (b ∷ rest) =
    if b == 0x60 then (parameters_at rest >>= λ p. result_at p.1 >>= λ r. Ok (record { parameters = p.0; result = r.0 }, r.1))
    else Err NotModule

unfoldable pub types_at : Reader (List FunctionType)
types_at = counted MOST_TYPES (Limit limit.Types) (λ _. type_at)

abbrev pub max_at : ℕ → Reader Limits
max_at min rest = u32_at rest >>= λ max.
    if nat_lt max.0 min then Err NotModule else Ok (record { min = min; max = Some max.0 }, max.1)

abbrev pub limits_by : ℕ → Fault → ℕ → Reader Limits
limits_by most fault b rest =
    if nat_lt 1 b then Err NotModule
    else (count_at most fault rest >>= λ min.
    if b == 0 then Ok (record { min = min.0; max = None }, min.1) else max_at min.0 min.1)

-- a least size up to `most`, and maybe a largest one
unfoldable pub limits_at : ℕ → Fault → Reader Limits
limits_at most fault [] = Err NotModule
limits_at most fault (b ∷ rest) = limits_by most fault b rest

-- a list of at most one
unfoldable pub at_most_one : Reader Limits → Reader (List Limits)
at_most_one one bytes = u32_at bytes >>= λ n.
    if n.0 == 0 then Ok ([], n.1)
    else (if n.0 == 1 then (one n.1 >>= λ x. Ok (x.0 ∷ [], x.1)) else Err NotModule)

unfoldable pub table_at : Reader Limits
table_at [] = Err NotModule
table_at (b ∷ rest) = if b == 0x70 then limits_at MOST_TABLE (Limit limit.Table) rest else Err NotModule

abbrev pub memory_at : Reader Limits
memory_at = limits_at MOST_PAGES (Limit limit.Pages)
