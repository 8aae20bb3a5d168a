-- The words that a binding has in the frame of its body.
use Rattle.std.specs.Prelude.{ℕ, Bool, true, false, if◌then◌else◌}
use Rattle.own_tree.specs.declared.place.Mode.{Mode}
use Rattle.own_tree.specs.declared.place.Mode.TheVariants as mode
use Rattle.own_tree.specs.declared.place.Ty.{Ty}
use Rattle.own_shapes.specs.Types.{Types, slots}

-- Whether a binding stands for a place that another one owns. Its word is the address of that place.
abbrev pub is_alias : Mode → Bool
is_alias mode.Borrowing = true
is_alias mode.Inout = true
is_alias mode.PatternBorrowed = true
is_alias mode.SelfBorrowing = true
is_alias mode.SelfMutating = true
is_alias mode.SelfDeinit = true
is_alias mode.Let = false
is_alias mode.Var = false
is_alias mode.Plain = false
is_alias mode.Consuming = false
is_alias mode.Turn = false
is_alias mode.PatternOwned = false
is_alias mode.SelfConsuming = false
is_alias mode.SelfInit = false
is_alias mode.Closure = false

abbrev pub mode_words : Types → Mode → Ty → ℕ
mode_words types m ty = if is_alias m then 1 else slots (types.shape ty)
