use Rattle.std.proofs.Common.{arith, ap, ◌∙◌, get_or}
use Rattle.own_report.proofs.PlaceSteps.{begins, goes_on, arrives}
use Rattle.own_report.specs.Place.{place_after}
use Rattle.own_report.proofs.place.place_of.Goals as goal

pub loop-index-init : goal.loop-index-init
loop-index-init c = begins c.args.text.now c.args.at

pub loop-index-preserved : goal.loop-index-preserved
loop-index-preserved c = goes_on c.args.text.now c.args.at c.loop-index.index c.loop-index.place (omega arith) (omega arith) c.loop-index.invariant c.passed-place.result (c.passed-place.ensures.after ∙ ap (place_after c.loop-index.place (get_or c.args.text.now c.loop-index.index 0)) c.byte_at.ensures) (omega (arith, c.passed-place.ensures.lines)) (omega (arith, c.passed-place.ensures.columns))

pub returns : goal.returns
returns c = arrives c.args.text.now c.args.at c.loop-index.index c.loop-index.place c.loop-index-test.false c.loop-index.invariant
