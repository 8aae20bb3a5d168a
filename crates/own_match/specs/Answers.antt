-- What an answer says.
use Rattle.std.specs.Prelude.{Option, Some, None}
use Rattle.own_tree.specs.declared.pattern.Cover.{Cover}
use Rattle.own_tree.specs.declared.pattern.Cover.TheVariants as cover
use Rattle.own_tree.specs.declared.pattern.TPattern.{TPattern}
use Rattle.own_tree.specs.TypedSource.{TPat, TPats, no_pats, pat}
use Rattle.own_tree.specs.TypedView.{pattern_view}

-- nothing is missing
abbrev pub IsAll : Cover → Type 0
IsAll cover.All = Unit {0}
IsAll (cover.Missing f) = ⊥

-- so of the form that is named as missing, where there is one
abbrev pub OnMissing : Cover → (TPat → Type 0) → Type 0
OnMissing cover.All P = Unit {0}
OnMissing (cover.Missing f) P = P (pattern_view f)

-- the one form that was found
abbrev pub single : Option TPattern → Option TPats
single None = None
single (Some f) = Some (pat (pattern_view f) no_pats)
