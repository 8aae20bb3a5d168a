-- The lines that a call writes on its error output.
use Rattle.std.specs.Prelude.{ℕ, ◌==◌, if◌then◌else◌, List, [], ◌++◌, codes}
use Rattle.std.specs.Fmt.{decimal}
use Rattle.own_report.specs.Place.{place_at}
use Rattle.own_report.specs.Lines.{line_of, place_after}
use Rattle.wasm_form.specs.declared.limits.ModuleLimit.{ModuleLimit}
use Rattle.wasm_form.specs.declared.limits.ModuleLimit.TheVariants as limit
use Rattle.wasm_form.specs.declared.limits.Outside.{Outside}
use Rattle.wasm_form.specs.declared.limits.Outside.TheVariants as outside
use Rattle.wasm_read.specs.declared.fault.ReadError.{ReadError}
use Rattle.wasm_read.specs.declared.fault.ReadError.TheVariants as error

abbrev pub usage_line : List ℕ
usage_line = line_of (codes "usage: swiftown COMMAND ARGUMENTS")

abbrev pub memory_line : List ℕ
memory_line = line_of (codes "out of memory")

abbrev pub steps_line : List ℕ
steps_line = line_of (codes "out of steps")

-- what `check` writes where a text is accepted
abbrev pub accepted_line : List ℕ
accepted_line = line_of (codes "accepted")

abbrev pub read_line : List ℕ → List ℕ
read_line file = codes "cannot read " ++ file ++ line_of []

-- what `build` writes where a module is saved: how many flags it keeps as it runs
abbrev pub flags_line : ℕ → List ℕ
flags_line flags = codes "flags " ++ decimal flags ++ line_of []

-- the refusal of a text that is too long
abbrev pub too_long_line : List ℕ → List ℕ
too_long_line file = file ++ line_of (codes ": error[M1]: text bytes: more than 1048576")

abbrev pub trap_text : ℕ → List ℕ
trap_text code =
    if code == 1 then codes "arithmetic overflow"
    else if code == 2 then codes "division by zero"
    else if code == 3 then codes "too many levels"
    else codes "range ends before it begins"

-- a trap after what a line says already
abbrev pub trap_after : List ℕ → (code : ℕ) → (what : List ℕ) → List ℕ
trap_after said code what = said ++ codes ": trap " ++ decimal code ++ codes ": " ++ what ++ line_of []

-- the line of a trap at an offset of a text; one of code 3 has no place
abbrev pub trap_line : (file text : List ℕ) → (code at : ℕ) → List ℕ
trap_line file text code at =
    trap_after (if code == 3 then file else place_after file (place_at text at)) code (trap_text code)

-- ---- `exec`

-- the line of a trap of a module, which has an offset that the module names itself
abbrev pub exec_trap_line : (file : List ℕ) → (code at : ℕ) → List ℕ
exec_trap_line file code at = file ++ codes ": trap " ++ decimal code ++ codes " at " ++ decimal at ++ line_of []

abbrev pub outside_text : Outside → List ℕ
outside_text outside.Float = codes "float"
outside_text outside.Start = codes "start"
outside_text outside.Import = codes "import"
outside_text outside.Global = codes "global"

abbrev pub limit_text : ModuleLimit → List ℕ
limit_text limit.Types = codes "types"
limit_text limit.Functions = codes "functions"
limit_text limit.Globals = codes "globals"
limit_text limit.Exports = codes "exports"
limit_text limit.Parameters = codes "parameters"
limit_text limit.Locals = codes "locals"
limit_text limit.Labels = codes "labels"
limit_text limit.Targets = codes "targets"
limit_text limit.Table = codes "table"
limit_text limit.Pages = codes "pages"

-- why bytes are no module that is taken, after what a line says already; want of memory is no such reason, and is
-- answered by its own line
abbrev pub fault_after : List ℕ → ReadError → List ℕ
fault_after said (error.NotModule at) = said ++ codes "not a module at " ++ decimal at
fault_after said (error.OutsideProfile at what) =
    said ++ codes "outside the profile at " ++ decimal at ++ codes ": " ++ outside_text what
fault_after said (error.Limit which) = said ++ codes "limit: " ++ limit_text which
fault_after said error.NoMain = said ++ codes "no function main"
fault_after said error.Memory = said ++ codes "out of memory"

abbrev pub bad_module_line : (file : List ℕ) → ReadError → List ℕ
bad_module_line file e = fault_after (file ++ codes ": bad module: ") e ++ line_of []

abbrev pub too_long_module_line : (file : List ℕ) → List ℕ
too_long_module_line file = file ++ line_of (codes ": bad module: too long")
