use Rattle.std.proofs.Common.{◌≡◌, ℕ, ◌+◌, ◌-◌, ◌<◌, false, None, ◌∷◌, length, drop, get_or, arith, sym, ap, ◌∙◌}
use Rattle.std.proofs.lemmas.List.{drop_more}
use Rattle.own_within.specs.declared.captured.Captured.{Captured}
use Rattle.own_within.specs.Marks.{said, noted}
use Rattle.own_within.specs.View.{captured_seen}
use Rattle.own_within.proofs.Marked.{one_more}
use Rattle.own_within.proofs.capturing.noted.Goals as goal

pub loop-left-preserved : goal.loop-left-preserved
loop-left-preserved c =
    let none : Captured = record { binding = 0; change = false } in
    let ms = c.args.mentions.now in
    let i : ℕ = c.loop-left.left - 1 in
    let some : 0 < c.loop-left.left = c.loop-left-test.true in
    let low = c.loop-left.invariant.low in
    let within : i < length ms = omega (arith, some, low) in
    let next : i + 1 ≡ c.loop-left.left = omega (arith, some) in
    let m = get_or ms i none in
    let rest = drop c.loop-left.left ms in
    let front : drop i ms ≡ m ∷ rest = drop_more ms i none within ∙ ap (λ (n : ℕ). m ∷ drop n ms) next in
    record {
      low = omega (arith, low);
      each = c.note.ensures.each ∙ c.loop-left.invariant.each;
      said = λ (k : ℕ). λ (lt : k < c.args.count).
          c.note.ensures.noted k (omega (arith, lt, c.loop-left.invariant.each))
          ∙ ap (noted k m) (c.loop-left.invariant.said k lt)
          ∙ one_more k m rest
          ∙ ap (λ xs. said k (captured_seen xs)) (sym front);
    }
