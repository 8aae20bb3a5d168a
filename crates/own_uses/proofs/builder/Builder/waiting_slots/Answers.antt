use Rattle.std.proofs.Common.{◌≡◌, ℕ, [], map, ap}
use Rattle.std.proofs.lemmas.List.{nil_from_length}
use Rattle.own_tree.specs.TypedView.{exps_of, expr_view}
use Rattle.own_paths.specs.BodyLimits.{waiting_slots}
use Rattle.own_uses.specs.Building.{types_for, program_for}
use Rattle.own_uses.proofs.TallyLaws.{held_done}
use Rattle.own_uses.proofs.builder.Builder.waiting_slots.Goals as goal

pub returns : goal.returns
returns c =
    let empty : c.loop-argument.left.now ≡ [] = nil_from_length c.loop-argument.left.now c.in_default.ensures.cases in
    held_done c.loop-argument.sum _ _ c.loop-argument.invariant.fits
    (ap (λ es. waiting_slots (types_for c.args.self.now) (program_for c.args.self.now) (exps_of (map expr_view es)) c.loop-argument.passings.now) empty) c.loop-argument.invariant.sum
