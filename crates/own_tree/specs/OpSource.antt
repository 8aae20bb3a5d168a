-- Op trees as definitions see them.
use Rattle.std.specs.Prelude.{ℕ, List, [], ◌∷◌}
use Rattle.own_tree.specs.declared.op.Op.{Op}
use Rattle.own_tree.specs.declared.span.Span.{Span}

pub data Ops : Type 0 where
  op : Op → Ops
  nothing : Ops
  next : Ops → Ops → Ops
  either : Ops → Ops → Ops
  loop : Ops → Ops → Ops
  catch : Ops → Ops
  scope : List ℕ → Span → Ops → Ops
  break_at : Span → Ops
  continue_at : Span → Ops
  return_at : Span → Ops
  halt : Ops

-- one after another
abbrev pub in_order : List Ops → Ops
in_order [] = nothing
in_order (t ∷ ts) = next t (in_order ts)
