use Rattle.std.proofs.Common.{◌≡◌, ◌⊎◌, inl, inr, length, sym, ◌∙◌}
use Rattle.own_match.proofs.Columns.{mentions_end}
use Rattle.own_match.proofs.column.is_mentioned.Goals as goal

pub returns : goal.returns
returns c =
    let a = c.loop-live.live-iterator.a.rest.now in
    let b = c.loop-live.live-iterator.b.rest.now in
    let ended : (length a ≡ 0) ⊎ (length b ≡ 0) = elim c.in-None.ensures.steps [ inl h ↦ inl h.1.0 | inr h ↦ inr h.1.0 ] in
    sym (mentions_end c.args.head a b ended) ∙ c.loop-live.invariant
