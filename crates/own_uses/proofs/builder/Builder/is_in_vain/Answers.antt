use Rattle.std.proofs.Common.{◌≡◌, Bool, true, false, not, ◌&&◌, ◌||◌, refl, sym, ap, ◌∙◌}
use Rattle.own_paths.specs.Fixed.{binding_leaves}
use Rattle.own_uses.specs.Building.{types_for}
use Rattle.own_uses.specs.Leaves.{one_above}
use Rattle.own_uses.proofs.LeafLaws.{lies_is}
use Rattle.own_uses.proofs.builder.Builder.is_in_vain.Goals as goal

last : (consumes anothers lies r : Bool) → consumes ≡ true → anothers ≡ false → r ≡ lies → r ≡ ((consumes && anothers) || (consumes && lies))
last consumes anothers lies r a b e = rw (a, b) e

pub returns : goal.returns
returns c =
    let ls = binding_leaves (types_for c.args.self.now) c.args.binding.now in
    let consumes = c.if-not-is_consume.false in
    let anothers = c.if-is_anothers.false in
    last _ _ _ c.binding_leaf_above.result (sym c.is_consume.ensures ∙ consumes) (sym c.is_anothers.ensures ∙ anothers)
    (c.binding_leaf_above.ensures ∙ ap (λ fields. one_above fields ls) c.as_slice.ensures ∙ sym (lies_is c.args.op.now.place ls))
