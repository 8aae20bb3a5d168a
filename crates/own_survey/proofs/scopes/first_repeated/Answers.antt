use Rattle.std.proofs.Common.{add-one, sym, arith}
use Rattle.own_survey.proofs.Repeats.{again, onward, not_not}
use Rattle.own_survey.proofs.scopes.first_repeated.Goals as goal

pub returns-then-not-branch : goal.returns-then-not-branch
returns-then-not-branch c =
    again c.args.names.now c.loop-name.name-index c.name-item.result (omega (arith, c.loop-name-test.true)) c.name-item.is c.loop-name.seen.keys c.loop-name.invariant.0 c.loop-name.invariant.1 c.in_ok-insert.field-0
    (rw (sym c.as_slice.ensures) c.in_ok-insert.ensures.added) c.if-not-branch.true

pub loop-name-preserved : goal.loop-name-preserved
loop-name-preserved c =
    let new = (not_not _ c.in_ok-insert.field-0 c.in_ok-insert.ensures.added).1 c.if-not-branch.false in
    let keys = rw new at c.in_ok-insert.ensures.keys in
    rw (add-one, keys)
    (onward c.args.names.now c.loop-name.name-index c.name-item.result (omega (arith, c.loop-name-test.true)) c.name-item.is c.loop-name.seen.keys c.loop-name.invariant.0 c.loop-name.invariant.1 c.in_ok-insert.field-0
    c.as_slice.result c.as_slice.ensures (rw (sym c.as_slice.ensures) c.in_ok-insert.ensures.added) c.if-not-branch.false)
