use Rattle.std.proofs.Common.{◌≡◌, map, drop}
use Rattle.own_tree.specs.TypedView.{pattern_view as typed_view}
use Rattle.own_tree.specs.View.{pattern_view, pats_of}
use Rattle.own_scope.specs.Known.{text_in}
use Rattle.own_scope.specs.Locals.{local_of}
use Rattle.own_scope.specs.Making.{made_of}
use Rattle.own_scope.specs.Scopes.{scope_of}
use Rattle.own_patterns.specs.Hows.{how_of}
use Rattle.own_patterns.specs.View.{behind, alternatives_run}
use Rattle.own_patterns.proofs.heads.alternatives.Given as goal

abbrev pub invariant-loop-number : goal.invariant-loop-number
invariant-loop-number l =
    behind (map typed_view l.found.patterns.items) (map local_of l.found.locals.items)
    (alternatives_run (text_in l.fn.known) (scope_of l.fn.scope) (how_of l.fn.how)
    (pats_of (map pattern_view (drop l.number l.patterns))) l.fn.ty (made_of l.builder))
    ≡ alternatives_run (text_in l.fn.known) (scope_of l.fn.scope) (how_of l.fn.how)
    (pats_of (map pattern_view l.patterns)) l.fn.ty (made_of l.fn.builder)
