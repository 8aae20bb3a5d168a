use Rattle.std.proofs.Common.{◌≡◌, ◌⊎◌, ◌++◌, inl, inr, length, ap, sym, ◌∙◌, append-nil}
use Rattle.own_match.proofs.Columns.{narrowed_ends}
use Rattle.own_match.proofs.column.narrowed.Goals as goal

pub returns : goal.returns
returns c =
    let bits = c.loop-live.bits.items in
    let a = c.loop-live.live-iterator.a.rest.now in
    let b = c.loop-live.live-iterator.b.rest.now in
    let ended : (length a ≡ 0) ⊎ (length b ≡ 0) = elim c.in-None.ensures.steps [ inl h ↦ inl h.1.0 | inr h ↦ inr h.1.0 ] in
    sym (append-nil bits) ∙ ap (λ r. bits ++ r) (sym (narrowed_ends c.args.head a b ended)) ∙ c.loop-live.invariant
