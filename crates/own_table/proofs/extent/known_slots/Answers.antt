use Rattle.std.proofs.Common.{◌≡◌, length, set, get_or, refl, sym, ap, ◌∙◌, subst, arith, length-set}
use Rattle.std.specs.Prelude.{All}
use Rattle.std.proofs.lemmas.Option.{slice_get-get_or, slice_get_read}
use Rattle.own_table.specs.Extents.{IsSmall, slots_by_parts, kept_within}
use Rattle.own_table.proofs.Extended.{small_more, known_more, all_known, KnownAt}
use Rattle.own_table.proofs.extent.known_slots.Goals as goal

pub loop-number-preserved : goal.loop-number-preserved
loop-number-preserved c =
    let ts = c.args.types.now in let order = c.args.order.now in let known = c.loop-number.known.items in
    let i = c.loop-number.number-index in let k = get_or order i 0 in let t = c.index-types-number.result in
    let here = slice_get-get_or order i 0 c.loop-number-test.true in
    let at = slice_get_read ts (length ts) k t refl (c.requires.order.after_parts.declared i k here) c.index-types-number.is in
    let is : c.kept_within.result ≡ kept_within (slots_by_parts known t) = c.kept_within.ensures ∙ ap kept_within (c.type_slots-slots.ensures.value ∙ ap (λ x. slots_by_parts x t) c.as_slice.ensures.value) in
    record {
      each = length-set known k c.kept_within.result ∙ c.loop-number.invariant.each;
      small = subst (λ o. All IsSmall (set known k o)) (sym c.kept_within.ensures) (small_more known k c.type_slots-slots.result c.loop-number.invariant.small);
      known = λ at' j lt e. subst (λ o. KnownAt ts (set known k o) j) (sym is)
          (known_more ts order c.requires.order known i k t here at c.loop-number.invariant.each c.loop-number.invariant.known at' j lt e);
    }

pub returns : goal.returns
returns c = all_known c.args.types.now c.args.order.now c.requires.order c.loop-number.known.items c.loop-number.invariant.each
    (λ at j lt e. c.loop-number.invariant.known at j (let h = c.loop-number-test.false in omega arith) e)
