-- The piece taken follows the bytes taken before it.
use Rattle.std.proofs.Common.{◌≡◌, ℕ, ◌+◌, ◌-◌, ◌≤◌, List, length, take, drop, sym, ap, ◌∙◌, take-add, take_all, length-drop, arith}
use Rattle.own_io.specs.Outside.{Told, told_after}
use Rattle.own_io.proofs.Told.{told_after-append}
use Rattle.own_io.proofs.sink.send.Goals as goal

-- the bytes from `n` on
rest_is : (n : ℕ) (bytes : List ℕ) → take (length bytes - n) (drop n bytes) ≡ drop n bytes
rest_is n bytes = take_all (length bytes - n) (drop n bytes) (omega (arith, length-drop n bytes))

-- what is told of the first `n` bytes and then of `k` more
more : (told before after : Told) (n k : ℕ) (bytes : List ℕ)
    → before ≡ told_after told (take n bytes)
    → after ≡ told_after before (take k (take (length bytes - n) (drop n bytes)))
    → after ≡ told_after told (take (n + k) bytes)
more told before after n k bytes was is =
    is ∙ ap (λ rest. told_after before (take k rest)) (rest_is n bytes)
    ∙ ap (λ t. told_after t (take k (drop n bytes))) was
    ∙ told_after-append told (take n bytes) (take k (drop n bytes))
    ∙ ap (told_after told) (sym (take-add n k bytes))

within_is : (n k : ℕ) (bytes : List ℕ)
    → n ≤ length bytes
    → k ≤ length (take (length bytes - n) (drop n bytes))
    → n + k ≤ length bytes
within_is n k bytes before fits = omega (arith, ap length (rest_is n bytes), length-drop n bytes)

pub loop-written-preserved : goal.loop-written-preserved
loop-written-preserved g c = record {
  within = within_is c.loop-written.written c.in-Ok.taken c.args.bytes.now c.loop-written.invariant.within c.in-Ok.ensures.within;
  told =
      more _ _ _ c.loop-written.written c.in-Ok.taken c.args.bytes.now c.loop-written.invariant.told c.in-Ok.ensures.ok;
  count = omega (arith, c.in-Ok.ensures.count);
}
