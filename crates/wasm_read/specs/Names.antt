-- The names of exports as a set.
use Rattle.std.specs.Prelude.{◌≡◌, ℕ, List}
use Rattle.std.specs.Borrow.{Bor}
use Rattle.std.specs.List.{list_any}
use Rattle.std.specs.Str.{bytes_eq}
use Rattle.wasm_form.specs.declared.module.Export.{Export}

-- The keys are the names of these exports: bytes are one of the keys exactly where an export has them as its name.
abbrev pub AreNames : List (Bor (List ℕ)) → List Export → Type 0
AreNames keys exports = (name : List ℕ) → list_any (λ k. bytes_eq k.now name) keys ≡ list_any (λ e. bytes_eq e.name name) exports
