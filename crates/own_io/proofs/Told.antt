-- What is told of two pieces written one after the other is what is told of them joined.
use Rattle.std.proofs.Common.{◌≡◌, ℕ, ◌+◌, ◌≤◌, ◌==◌, cond, List, ◌++◌, length, refl, sym, ◌∙◌, ap, ap₂, append_assoc, length-append, arith}
use Rattle.std.proofs.lemmas.List.Sums.{sum_by-append}
use Rattle.own_io.specs.Outside.{Told, Nothing, Content, Counts, told_after, cut, newlines, MOST_COUNT}

-- cutting off between two sums changes nothing
pub cut-add : (a b c : ℕ) → cut (cut (a + b) + c) ≡ cut (a + (b + c))
cut-add a b c = omega arith

pub cut_small : (n : ℕ) → n ≤ MOST_COUNT → cut n ≡ n
cut_small n h = omega arith

pub told_after-append : (told : Told) (first second : List ℕ)
    → told_after (told_after told first) second ≡ told_after told (first ++ second)
told_after-append Nothing first second = refl
told_after-append (Content before) first second = ap Content (append_assoc before first second)
told_after-append (Counts bytes lines) first second =
    ap₂ Counts
    (cut-add bytes (length first) (length second) ∙ ap (λ n. cut (bytes + n)) (sym (length-append first second)))
    (cut-add lines (newlines first) (newlines second)
    ∙ ap (λ n. cut (lines + n)) (sym (sum_by-append (λ byte. cond (byte == 10) 1 0) first second)))
