-- Statements whose expression is typed.
use Rattle.own_tree.specs.declared.arithmetic.Arith.{Arith}
use Rattle.own_tree.specs.declared.place.Ty.TheVariants as type
use Rattle.own_tree.specs.declared.span.Span.{Span}
use Rattle.own_tree.specs.declared.typed.At.{At}
use Rattle.own_tree.specs.declared.typed.TypedPath.{TypedPath}
use Rattle.own_tree.specs.TypedSource as typed
use Rattle.own_tree.specs.TypedSource.{TExp}
use Rattle.own_judging.specs.Judged.{Judged}
use Rattle.own_judged.specs.Codes.{T15}
use Rattle.own_judged.specs.Conditions.{one_type, both}
use Rattle.own_judged.specs.Rules.{◌>>=◌, ◌>>◌, holding}
use Rattle.own_judged.specs.Statements.{Stated, plain}
use Rattle.own_judged.specs.Values.{is_of}

-- `op=` with its right side
abbrev pub update : At → TypedPath → Arith → (mark : Span) → TExp → Judged Stated
update at p o mark t = do
  holding (both (one_type p.at.ty type.Int) (is_of type.Int t)) T15 at.span
  plain (typed.update at p o mark t)
