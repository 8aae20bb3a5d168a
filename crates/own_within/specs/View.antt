-- What the lists stand for that are made of the parts of a typed program.
use Rattle.std.specs.Prelude.{List, map}
use Rattle.std.specs.Borrow.{Bor}
use Rattle.own_tree.specs.declared.typed.TypedExpr.{TypedExpr}
use Rattle.own_tree.specs.declared.typed.TypedStmt.{TypedStmt}
use Rattle.own_tree.specs.TypedSource.{TExp, TStm}
use Rattle.own_tree.specs.TypedView.{expr_view, stmt_view}
use Rattle.own_paths.specs.Captures.{Captured}
use Rattle.own_within.specs.declared.captured.Captured as held

abbrev pub exps_seen : List (Bor TypedExpr) → List TExp
exps_seen es = map (λ e. expr_view e.now) es

abbrev pub stms_seen : List (Bor TypedStmt) → List TStm
stms_seen ss = map (λ s. stmt_view s.now) ss

abbrev pub captured_view : held.Captured → Captured
captured_view c = record { binding = c.binding; change = c.change }

abbrev pub captured_seen : List held.Captured → List Captured
captured_seen cs = map captured_view cs
