-- What statements become, by names of their own: a goal that names one does not open the whole language.
use Rattle.std.specs.Prelude.{ℕ, Bool, Option, Some, None}
use Rattle.own_tree.specs.Source.{Stm}
use Rattle.own_tree.specs.TypedView.{stmt_view}
use Rattle.own_judging.specs.Made.{Made, Found}
use Rattle.own_judged.specs.Names.{Scope}
use Rattle.own_judged.specs.Statements.{Stated}
use Rattle.own_judged.specs.Text.{Text}
use Rattle.own_judged.specs.Trees.{statement}
use Rattle.own_scope.specs.declared.local.Local.{Local}
use Rattle.own_scope.specs.Locals.{declared_local}
use Rattle.own_stated.specs.declared.stated.Stated.{Stated as Held}

unfoldable pub stm_run : Text → Scope → Stm → (alone : Bool) → Made → Found Stated
stm_run text scope s alone m = (statement text scope s alone).run m

-- a statement, and the local that it declares for those behind it
abbrev pub stated_view : Held → Stated
stated_view s = (stmt_view s.statement, declared_local s.local)

-- the binding of a local
abbrev pub bound_of : Option Local → Option ℕ
bound_of None = None
bound_of (Some l) = Some l.binding
