-- Why types have no table.
use Rattle.std.specs.Prelude.{◌≡◌, ℕ, suc, false, List, Some}
use Rattle.own_table.specs.declared.error.Unfit.{Unfit}
use Rattle.own_table.specs.declared.error.Unfit.TheVariants as unfit
use Rattle.own_shapes.specs.declared.info.TypeInfo.{TypeInfo}
use Rattle.own_table.specs.Extents.{first_over_M8}
use Rattle.own_table.specs.Fitting.{are_fit}
use Rattle.own_shapes.specs.Types.{ContainsIn}

abbrev pub IsUnfit : List TypeInfo → Unfit → Type 0
IsUnfit ts unfit.Parts = are_fit ts ≡ false
IsUnfit ts (unfit.ContainsItself k) = (steps : ℕ) × ContainsIn ts (suc steps) k k
IsUnfit ts (unfit.Over o) = first_over_M8 ts ≡ Some o
IsUnfit ts unfit.Memory = Unit {0}
