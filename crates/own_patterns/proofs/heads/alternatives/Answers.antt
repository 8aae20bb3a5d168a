use Rattle.std.proofs.Common.{◌≤◌, length, map, arith}
use Rattle.own_tree.specs.TypedView.{pattern_view as typed_view}
use Rattle.own_scope.specs.Known.{text_in}
use Rattle.own_scope.specs.Locals.{local_of}
use Rattle.own_scope.specs.Making.{made_of}
use Rattle.own_scope.specs.Scopes.{scope_of}
use Rattle.own_table.specs.Table.{types_in}
use Rattle.own_patterns.specs.Hows.{how_of}
use Rattle.own_patterns.specs.View.{matched_of}
use Rattle.own_patterns.proofs.Lists.{turn, stopped, finished, alternatives_here, alternatives_now, alternatives_over}
use Rattle.own_patterns.proofs.heads.alternatives.Goals as goal

pub loop-number-preserved : goal.loop-number-preserved
loop-number-preserved c =
    turn (map typed_view c.loop-number.found.patterns.items) (map local_of c.loop-number.found.locals.items)
    (alternatives_here (text_in c.args.known.now) (scope_of c.args.scope.now) (how_of c.args.how) c.args.ty c.loop-number.number
    (made_of c.loop-number.builder) c.args.patterns.now)
    _ (map typed_view c.in_ok-found.found.patterns.items) (map local_of c.in_ok-found.found.locals.items)
    _ _ (matched_of c.in-Ok.one) (made_of c.pattern_of.new.builder)
    (alternatives_now (text_in c.args.known.now) (scope_of c.args.scope.now) (how_of c.args.how) c.args.ty c.loop-number.number
    (made_of c.loop-number.builder) c.args.patterns.now
    c.index-patterns-number.result c.loop-number-test.true c.index-patterns-number.is)
    c.in-Ok.ensures c.in_ok-found.ensures.patterns c.in_ok-found.ensures.locals c.loop-number.invariant

pub returns-in-Err : goal.returns-in-Err
returns-in-Err c =
    stopped (map typed_view c.loop-number.found.patterns.items) (map local_of c.loop-number.found.locals.items)
    (alternatives_here (text_in c.args.known.now) (scope_of c.args.scope.now) (how_of c.args.how) c.args.ty c.loop-number.number
    (made_of c.loop-number.builder) c.args.patterns.now)
    _ (types_in c.args.known.now.table.now) _ _ c.in-Err.error
    (alternatives_now (text_in c.args.known.now) (scope_of c.args.scope.now) (how_of c.args.how) c.args.ty c.loop-number.number
    (made_of c.loop-number.builder) c.args.patterns.now
    c.index-patterns-number.result c.loop-number-test.true c.index-patterns-number.is)
    c.in-Err.ensures c.loop-number.invariant

pub returns : goal.returns
returns c =
    let past : length c.args.patterns.now ≤ c.loop-number.number = omega (arith, c.loop-number-test.false) in
    finished (map typed_view c.loop-number.found.patterns.items) (map local_of c.loop-number.found.locals.items)
    (alternatives_here (text_in c.args.known.now) (scope_of c.args.scope.now) (how_of c.args.how) c.args.ty c.loop-number.number
    (made_of c.loop-number.builder) c.args.patterns.now)
    _ (made_of c.loop-number.builder)
    (alternatives_over (text_in c.args.known.now) (scope_of c.args.scope.now) (how_of c.args.how) c.args.ty c.loop-number.number
    (made_of c.loop-number.builder) c.args.patterns.now past)
    c.loop-number.invariant
