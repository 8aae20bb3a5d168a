use Rattle.std.proofs.Common.{◌≡◌, ◌⊎◌, inl, inr, length, sym, ◌∙◌}
use Rattle.own_table.specs.Table.{shape_in_table}
use Rattle.own_match.proofs.Columns.{parts_end}
use Rattle.own_match.proofs.silent.+matches.Goals as goal

pub parts_match_all-returns : goal.parts_match_all-returns
parts_match_all-returns t c =
    let a = c.loop-ty.ty-iterator.a.rest.now in
    let b = c.loop-ty.ty-iterator.b.rest.now in
    let ended : (length a ≡ 0) ⊎ (length b ≡ 0) = elim c.in-None.ensures.steps [ inl h ↦ inl h.1.0 | inr h ↦ inr h.1.0 ] in
    sym (parts_end (shape_in_table c.args.table.now) a b ended) ∙ c.loop-ty.invariant.same
