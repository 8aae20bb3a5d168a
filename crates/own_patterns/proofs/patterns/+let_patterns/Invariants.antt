use Rattle.std.proofs.Common.{◌≡◌, map, drop}
use Rattle.own_tree.specs.TypedView.{pattern_view}
use Rattle.own_tree.specs.View.{let_pattern_view, let_pats_of}
use Rattle.own_scope.specs.Known.{text_in}
use Rattle.own_scope.specs.Locals.{local_of}
use Rattle.own_scope.specs.Making.{made_of}
use Rattle.own_scope.specs.Scopes.{scope_of}
use Rattle.own_patterns.specs.Hows.{how_of}
use Rattle.own_patterns.specs.View.{behind, let_parts_run}
use Rattle.own_patterns.proofs.patterns.+let_patterns.Given as goal

abbrev pub invariant-let_parts-loop-number : goal.invariant-let_parts-loop-number
invariant-let_parts-loop-number l =
    behind (map pattern_view l.found.patterns.items) (map local_of l.found.locals.items)
    (let_parts_run (text_in l.fn.known) (scope_of l.fn.scope) (how_of l.fn.how) l.fn.span
    (let_pats_of (map let_pattern_view (drop l.number l.parts))) (drop l.number l.payloads) (made_of l.builder))
    ≡ let_parts_run (text_in l.fn.known) (scope_of l.fn.scope) (how_of l.fn.how) l.fn.span
    (let_pats_of (map let_pattern_view l.parts)) l.payloads (made_of l.fn.builder)
