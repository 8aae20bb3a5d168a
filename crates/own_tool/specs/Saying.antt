-- An answer and its line, which may be cut short.
use Rattle.std.specs.Prelude.{◌≡◌, ℕ, ◌⊎◌, List}
use Rattle.own_tree.specs.declared.status.Status.{Status}
use Rattle.own_tree.specs.declared.status.Status.TheVariants as status
use Rattle.own_io.specs.Outside.{Told, told_after}
use Rattle.own_tool.specs.Headline.{IsProperPrefix}

-- the answer, after its whole line; or a failed write, after a part of the line
abbrev pub Said : Status → (line : List ℕ) → Status → (old new : Told) → (faults : Type 0) → Type 0
Said answer line result old new faults =
    ((result ≡ answer) × (new ≡ told_after old line))
    ⊎ ((result ≡ status.WriteFault) × faults × (front : List ℕ) × IsProperPrefix front line
    × (new ≡ told_after old front))
