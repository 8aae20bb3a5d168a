use Rattle.std.proofs.Common.{◌≡◌, Some, None, slice_get, sym, ap, ◌∙◌}
use Rattle.std.specs.Option.{option_copied}
use Rattle.own_uses.specs.Building.{types_for, program_for}
use Rattle.own_uses.specs.Leaves.{own_below}
use Rattle.own_uses.specs.Saturating.{held}
use Rattle.own_uses.proofs.LeafLaws.{at_binding}
use Rattle.own_uses.proofs.builder.Builder.leaves_at.Goals as goal

pub returns-in-Some : goal.returns-in-Some
returns-in-Some c =
    let types = types_for c.args.self.now in
    let bindings = (program_for c.args.self.now).bindings in
    let there : slice_get bindings c.args.binding ≡ Some c.in-Some.found.now = sym c.get.ensures.value ∙ ap option_copied c.in-Some.is in
    c.own_leaves_below.ensures
    ∙ sym (ap held (at_binding types c.args.number c.args.binding c.args.fields.now bindings ∙ ap (own_below types c.args.number c.args.fields.now) there))

pub returns-in-None : goal.returns-in-None
returns-in-None c =
    let types = types_for c.args.self.now in
    let bindings = (program_for c.args.self.now).bindings in
    let there : slice_get bindings c.args.binding ≡ None = sym c.get.ensures.value ∙ ap option_copied c.in-None.is in
    sym (ap held (at_binding types c.args.number c.args.binding c.args.fields.now bindings ∙ ap (own_below types c.args.number c.args.fields.now) there))
