-- The codes of the limits and their names.
use Rattle.std.specs.Prelude.{codes}
use Rattle.own_tree.specs.declared.refusal.LimitKind.{LimitKind}
use Rattle.own_tree.specs.declared.refusal.LimitKind.TheVariants as limit
use Rattle.own_report.specs.Lines.{Said, said_as}

abbrev pub limit_said : LimitKind → Said
limit_said limit.TextBytes = said_as (codes "M1") (codes "text bytes")
limit_said limit.Tokens = said_as (codes "M2") (codes "tokens")
limit_said limit.Nesting = said_as (codes "M3") (codes "nesting")
limit_said limit.Types = said_as (codes "M4") (codes "types")
limit_said limit.Fields = said_as (codes "M5") (codes "fields or cases of a type")
limit_said limit.Bodies = said_as (codes "M6") (codes "bodies")
limit_said limit.Parameters = said_as (codes "M7") (codes "parameters of a body, payloads of a case")
limit_said limit.TypeSlots = said_as (codes "M8") (codes "slots of a type")
limit_said limit.BodySlots = said_as (codes "M9") (codes "slots of a body")
limit_said limit.BodyOps = said_as (codes "M10") (codes "ops of a body")
limit_said limit.BodyLeaves = said_as (codes "M11") (codes "leaves of a body")
limit_said limit.BodyMakers = said_as (codes "M12") (codes "makers of a body")
limit_said limit.Ops = said_as (codes "M13") (codes "ops of all bodies")
