-- What `op_tree` answers.
use Rattle.std.specs.Prelude.{◌≡◌, ℕ, ◌⊎◌, Option, Some, None}
use Rattle.own_tree.specs.declared.refusal.LimitKind.{LimitKind}
use Rattle.own_tree.specs.declared.refusal.LimitKind.TheVariants as limit
use Rattle.own_tree.specs.OpSource.{Ops}
use Rattle.own_tree.specs.TypedSource.{TBody, Program}
use Rattle.own_paths.specs.BodyLimits.{over_M9, over_M10, over_M11, over_M12}
use Rattle.own_paths.specs.Ops.{body_ops}
use Rattle.own_shapes.specs.declared.counted.Counted.{Counted}
use Rattle.own_shapes.specs.Types.{Types}
use Rattle.own_uses.specs.declared.error.UsesError.{UsesError}
use Rattle.own_uses.specs.declared.error.UsesError.TheVariants as uses_error
use Rattle.own_uses.specs.Saturating.{held}

-- a limit that is passed, or else the first of those behind it
abbrev pub or_else : LimitKind → Option Counted → Option UsesError → Option UsesError
or_else which (Some c) later = Some (uses_error.Limit which (held c.count) c.at)
or_else which None later = later

abbrev pub tree_by : Types → Program → Option TBody → Option Ops
tree_by types program None = None
tree_by types program (Some body) = Some (body_ops types program body)

module _ (types : Types) (program : Program) (k : ℕ) where
  -- the first of M10 to M12 that body k passes, with its count
  abbrev pub passed_by_tree : TBody → Option UsesError
  passed_by_tree body =
      or_else limit.BodyOps (over_M10 types program k body)
      (or_else limit.BodyLeaves (over_M11 types program k body)
      (or_else limit.BodyMakers (over_M12 types program k body) None))

  -- the first of M9 to M12
  abbrev pub first_passed : TBody → Option UsesError
  first_passed body = or_else limit.BodySlots (over_M9 types program k body) (passed_by_tree body)

  abbrev pub passed_by : Option TBody → Option UsesError
  passed_by None = None
  passed_by (Some body) = first_passed body

-- want of memory, or the first limit that is passed
abbrev pub IsRefusal : Option UsesError → UsesError → Type 0
IsRefusal passed e = (e ≡ uses_error.Memory) ⊎ (passed ≡ Some e)
