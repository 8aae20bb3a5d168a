use Rattle.std.proofs.Common.{◌≡◌, ◌<◌, ◌+◌, length, arith, ap, ◌∙◌, get_or, slice_get}
use Rattle.own_report.specs.Place.{place_at, place_after}
use Rattle.own_report.specs.declared.place.LineColumn.{LineColumn}
use Rattle.own_report.proofs.Passing.{at_within, at_next}
use Rattle.own_report.proofs.places.place_after.Goals as goal

pub passed-place-requires-clause-line : goal.passed-place-requires-clause-line
passed-place-requires-clause-line c =
    let at = at_within c.args.text.now c.loop-index.index in
    let is : c.loop-index.place.line ≡ (place_at c.args.text.now c.loop-index.index).line = ap (λ (p : LineColumn). p.line) c.loop-index.invariant in
    omega (arith, at.line, is)

pub passed-place-requires-clause-column : goal.passed-place-requires-clause-column
passed-place-requires-clause-column c =
    let at = at_within c.args.text.now c.loop-index.index in
    let is : c.loop-index.place.column ≡ (place_at c.args.text.now c.loop-index.index).column = ap (λ (p : LineColumn). p.column) c.loop-index.invariant in
    omega (arith, at.column, is)

pub loop-index-preserved : goal.loop-index-preserved
loop-index-preserved c =
    let within : c.loop-index.index < length c.args.text.now = omega arith in
    c.passed-place.ensures.after
    ∙ ap (place_after c.loop-index.place (get_or c.args.text.now c.loop-index.index 0)) c.byte_at.ensures
    ∙ ap (λ p. place_after p (get_or c.args.text.now c.loop-index.index 0) (slice_get c.args.text.now (c.loop-index.index + 1))) c.loop-index.invariant
    ∙ at_next c.args.text.now c.loop-index.index within
