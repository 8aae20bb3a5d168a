-- What the reader of a module answers, with the place of a fault.
use Rattle.std.specs.Prelude.{◌≡◌, ℕ, ◌≤◌, List, length, Result, Ok, Err}
use Rattle.wasm_form.specs.declared.module.Module.{Module}
use Rattle.wasm_form.specs.Bytes.{ModuleBytes}
use Rattle.wasm_read.specs.declared.fault.Fault.{Fault}
use Rattle.wasm_read.specs.declared.fault.Fault.TheVariants as fault
use Rattle.wasm_read.specs.declared.fault.ReadError.{ReadError}
use Rattle.wasm_read.specs.declared.fault.ReadError.TheVariants as error

-- The answer is the module or the first fault that reading gives, unless memory ran out. An offset is at most the
-- number of the bytes.
abbrev pub Answers : List ℕ → Result Module ReadError → Result Module Fault → Type 0
Answers bytes (Ok m) read = read ≡ Ok m
Answers bytes (Err (error.NotModule at)) read = (read ≡ Err fault.NotModule) × (at ≤ length bytes)
Answers bytes (Err (error.OutsideProfile at what)) read = (read ≡ Err (fault.OutsideProfile what)) × (at ≤ length bytes)
Answers bytes (Err (error.Limit which)) read = read ≡ Err (fault.Limit which)
Answers bytes (Err error.NoMain) read = read ≡ Err fault.NoMain
Answers bytes (Err error.Memory) read = Unit {0}

-- the error of a fault at this offset
abbrev pub error_at : Fault → ℕ → ReadError
error_at fault.NotModule at = error.NotModule at
error_at (fault.OutsideProfile what) at = error.OutsideProfile at what
error_at (fault.Limit which) at = error.Limit which
error_at fault.NoMain at = error.NoMain

-- this module was read, unless memory ran out
abbrev pub IsRead : Module → Result Module ReadError → Type 0
IsRead m (Ok n) = n ≡ m
IsRead m (Err error.Memory) = Unit {0}
IsRead m (Err (error.NotModule at)) = ⊥
IsRead m (Err (error.OutsideProfile at what)) = ⊥
IsRead m (Err (error.Limit which)) = ⊥
IsRead m (Err error.NoMain) = ⊥

-- Each module that the bytes spell is the one that was read. So there is at most one.
abbrev pub ReadsEach : List ℕ → Result Module ReadError → Type 0
ReadsEach bytes answer = (m : Module) → ModuleBytes bytes m → IsRead m answer
