-- From a folder when its file was read to the same folder before.
use Rattle.std.proofs.Common.{◌≡◌, ℕ, ◌≤◌, inl, inr, Bool, List, Option, ap₂, arith}
use Rattle.std.proofs.Math.Path.{fun_ext}
use Rattle.own_io.specs.Outside.{HasRisen}
use Rattle.own_tool.specs.Headline.{Told, Holding}

abbrev pub told : Bool → Holding → Told
told tells held = record { tells = tells; held = held }

-- it tells the same
pub same_told : (tells tells' : Bool) (held held' : Holding) → tells' ≡ tells → ((name : List ℕ) → held' name ≡ held name) → told tells' held' ≡ told tells held
same_told tells tells' held held' same names = ap₂ told same (fun_ext names)

-- a count that rose since then rose
pub risen_since : (a b c : ℕ) → a ≤ b → HasRisen b c → HasRisen a c
risen_since a b c less (inl rose) = inl (omega (arith, less, rose))
risen_since a b c less (inr full) = inr full
