use Rattle.std.proofs.Common.{◌≡◌, map, drop}
use Rattle.own_tree.specs.TypedView.{pattern_view as typed_view}
use Rattle.own_tree.specs.View.{pattern_view, pats_of}
use Rattle.own_scope.specs.Known.{text_in}
use Rattle.own_scope.specs.Locals.{local_of}
use Rattle.own_scope.specs.Making.{made_of}
use Rattle.own_scope.specs.Scopes.{scope_of}
use Rattle.own_patterns.specs.Hows.{how_of}
use Rattle.own_patterns.specs.View.{behind, parts_run}
use Rattle.own_patterns.proofs.patterns.+patterns.Given as goal

abbrev pub invariant-parts_of-loop-number : goal.invariant-parts_of-loop-number
invariant-parts_of-loop-number l =
    behind (map typed_view l.found.patterns.items) (map local_of l.found.locals.items)
    (parts_run (text_in l.fn.known) (scope_of l.fn.scope) (how_of l.fn.how) l.fn.span
    (pats_of (map pattern_view (drop l.number l.parts))) (drop l.number l.payloads) (made_of l.builder))
    ≡ parts_run (text_in l.fn.known) (scope_of l.fn.scope) (how_of l.fn.how) l.fn.span
    (pats_of (map pattern_view l.parts)) l.payloads (made_of l.fn.builder)
