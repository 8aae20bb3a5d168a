-- What is known of bindings by the mentions of a body.
use Rattle.std.specs.Prelude.{ℕ, suc, Bool, true, false, ◌||◌, ◌==◌, if◌then◌else◌, List, [], ◌∷◌, Option, Some, None}
use Rattle.own_paths.specs.Captures.{Captured, is_mentioned, is_changed}
use Rattle.own_within.specs.declared.captured.Captured as held

-- of a binding that is mentioned, whether it is changed
abbrev pub said : ℕ → List Captured → Option Bool
said x ms = if is_mentioned x ms then Some (is_changed x ms) else None

abbrev pub says_changed : Option Bool → Bool
says_changed None = false
says_changed (Some change) = change

-- with one more mention
abbrev pub noted : ℕ → held.Captured → Option Bool → Option Bool
noted x m known = if m.binding == x then Some (m.change || says_changed known) else known

-- the bindings from number x on that are mentioned
abbrev pub found_from : ℕ → List (Option Bool) → List Captured
found_from x [] = []
found_from x (None ∷ seen) = found_from (suc x) seen
found_from x (Some change ∷ seen) = record { binding = x; change = change } ∷ found_from (suc x) seen
