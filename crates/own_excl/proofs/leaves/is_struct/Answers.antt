use Rattle.std.proofs.Common.{◌≡◌, ◌<◌, ◌≤◌, Bool, true, false, not, refl, sym, subst, ◌∙◌}
use Rattle.own_shapes.specs.Types.{shapes_of, field_types, leaves, leaves_from, opened_leaves}
use Rattle.own_tree.specs.declared.place.Ty.TheVariants as type
use Rattle.own_table.specs.Table.{types_in, shape_in_table}
use Rattle.own_uses.proofs.TypeLaws.{opened_struct, opened_absent}
use Rattle.own_excl.proofs.leaves.is_struct.Goals as goal

untrue : (b : Bool) → not b ≡ true → b ≡ false
untrue true is = absurd (cc)
untrue false is = refl

pub returns-then-number-count-clause-opened : goal.returns-then-number-count-clause-opened
returns-then-number-count-clause-opened c = λ yes.
    let table = c.args.table.now in
    let k = c.in-Named.number in
    let struct : (types_in table).is_enum (type.Named k) ≡ false = sym c.is_enum.ensures ∙ untrue c.is_enum.result yes in
    subst (λ ty. opened_leaves (shape_in_table table ty) ≡ leaves_from 0 (shapes_of (shape_in_table table) (field_types ((types_in table).properties ty)))) (sym c.in-Named.is)
    (opened_struct table k (subst (λ n. k < n) c.count.ensures c.if-number-count.true) struct)

pub returns-else-number-count-clause-whole : goal.returns-else-number-count-clause-whole
returns-else-number-count-clause-whole c = λ no.
    let table = c.args.table.now in
    let k = c.in-Named.number in
    subst (λ ty. opened_leaves (shape_in_table table ty) ≡ leaves (shape_in_table table ty)) (sym c.in-Named.is)
    (opened_absent table k (subst (λ n. n ≤ k) c.count.ensures c.if-number-count.false))
