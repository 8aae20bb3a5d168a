use Rattle.std.proofs.Common.{◌≤◌, ◌<◌, length, map, arith}
use Rattle.own_tree.specs.TypedView.{pattern_view as typed_view}
use Rattle.own_scope.specs.Known.{text_in}
use Rattle.own_scope.specs.Locals.{local_of}
use Rattle.own_scope.specs.Making.{made_of}
use Rattle.own_scope.specs.Scopes.{scope_of}
use Rattle.own_table.specs.Table.{types_in}
use Rattle.own_patterns.specs.Hows.{how_of}
use Rattle.own_patterns.specs.View.{matched_of}
use Rattle.own_patterns.proofs.Lists.{turn, stopped, failed, finished, let_here, let_now, let_long, let_short, let_end}
use Rattle.own_patterns.proofs.patterns.+let_patterns.Goals as goal

pub let_parts-loop-number-preserved : goal.let_parts-loop-number-preserved
let_parts-loop-number-preserved t c =
    let within : c.loop-number.number < length c.args.payloads.now = omega (arith, c.if-number-payloads.false) in
    turn (map typed_view c.loop-number.found.patterns.items) (map local_of c.loop-number.found.locals.items)
    (let_here (text_in c.args.known.now) (scope_of c.args.scope.now) (how_of c.args.how) c.args.span c.args.payloads.now c.loop-number.number
    (made_of c.loop-number.builder) c.args.parts.now)
    _ (map typed_view c.in_ok-found.found.patterns.items) (map local_of c.in_ok-found.found.locals.items)
    _ _ (matched_of c.in-Ok.one) (made_of c.let_pattern.new.builder)
    (let_now (text_in c.args.known.now) (scope_of c.args.scope.now) (how_of c.args.how) c.args.span c.args.payloads.now c.loop-number.number
    (made_of c.loop-number.builder) c.args.parts.now
    c.index-parts-number.result _ c.loop-number-test.true c.index-parts-number.is within)
    c.in-Ok.ensures c.in_ok-found.ensures.patterns c.in_ok-found.ensures.locals c.loop-number.invariant

pub let_parts-returns-in-Err : goal.let_parts-returns-in-Err
let_parts-returns-in-Err t c =
    let within : c.loop-number.number < length c.args.payloads.now = omega (arith, c.if-number-payloads.false) in
    stopped (map typed_view c.loop-number.found.patterns.items) (map local_of c.loop-number.found.locals.items)
    (let_here (text_in c.args.known.now) (scope_of c.args.scope.now) (how_of c.args.how) c.args.span c.args.payloads.now c.loop-number.number
    (made_of c.loop-number.builder) c.args.parts.now)
    _ (types_in c.args.known.now.table.now) _ _ c.in-Err.error
    (let_now (text_in c.args.known.now) (scope_of c.args.scope.now) (how_of c.args.how) c.args.span c.args.payloads.now c.loop-number.number
    (made_of c.loop-number.builder) c.args.parts.now
    c.index-parts-number.result _ c.loop-number-test.true c.index-parts-number.is within)
    c.in-Err.ensures c.loop-number.invariant

pub let_parts-returns-then-number-payloads : goal.let_parts-returns-then-number-payloads
let_parts-returns-then-number-payloads t c =
    let past : length c.args.payloads.now ≤ c.loop-number.number = omega (arith, c.if-number-payloads.true) in
    rw c.misfit.ensures
    (failed (map typed_view c.loop-number.found.patterns.items) (map local_of c.loop-number.found.locals.items)
    (let_here (text_in c.args.known.now) (scope_of c.args.scope.now) (how_of c.args.how) c.args.span c.args.payloads.now c.loop-number.number
    (made_of c.loop-number.builder) c.args.parts.now)
    _ _
    (let_long (text_in c.args.known.now) (scope_of c.args.scope.now) (how_of c.args.how) c.args.span c.args.payloads.now c.loop-number.number
    (made_of c.loop-number.builder) c.args.parts.now
    c.loop-number-test.true past)
    c.loop-number.invariant)

pub let_parts-returns-then-parts-payloads : goal.let_parts-returns-then-parts-payloads
let_parts-returns-then-parts-payloads t c =
    let past : length c.args.parts.now ≤ c.loop-number.number = omega (arith, c.loop-number-test.false) in
    let within : c.loop-number.number < length c.args.payloads.now =
    omega (arith, c.if-parts-payloads.true, c.loop-number.auto.number-end) in
    rw c.misfit-then-parts-payloads.ensures
    (failed (map typed_view c.loop-number.found.patterns.items) (map local_of c.loop-number.found.locals.items)
    (let_here (text_in c.args.known.now) (scope_of c.args.scope.now) (how_of c.args.how) c.args.span c.args.payloads.now c.loop-number.number
    (made_of c.loop-number.builder) c.args.parts.now)
    _ _
    (let_short (text_in c.args.known.now) (scope_of c.args.scope.now) (how_of c.args.how) c.args.span c.args.payloads.now c.loop-number.number
    (made_of c.loop-number.builder) c.args.parts.now
    past within)
    c.loop-number.invariant)

pub let_parts-returns : goal.let_parts-returns
let_parts-returns t c =
    let past : length c.args.parts.now ≤ c.loop-number.number = omega (arith, c.loop-number-test.false) in
    let over : length c.args.payloads.now ≤ c.loop-number.number = omega (arith, c.if-parts-payloads.false, past) in
    finished (map typed_view c.loop-number.found.patterns.items) (map local_of c.loop-number.found.locals.items)
    (let_here (text_in c.args.known.now) (scope_of c.args.scope.now) (how_of c.args.how) c.args.span c.args.payloads.now c.loop-number.number
    (made_of c.loop-number.builder) c.args.parts.now)
    _ (made_of c.loop-number.builder)
    (let_end (text_in c.args.known.now) (scope_of c.args.scope.now) (how_of c.args.how) c.args.span c.args.payloads.now c.loop-number.number
    (made_of c.loop-number.builder) c.args.parts.now
    past over)
    c.loop-number.invariant
