use Rattle.std.proofs.Common.{◌≡◌, ℕ, List, ◌++◌, ◌∷◌, [], ◌<◌, ◌+◌, ◌-◌, sym, ap, ◌∙◌, append_assoc, arith}
use Rattle.low_laws.specs.Lower.{numbers_from}
use Rattle.low_laws.specs.declared.places.TheConstants.{OWN}
use Rattle.low_body.proofs.Pieces.{next_number}
use Rattle.low_body.proofs.module.elements.Goals as goal

pub loop-number-preserved : goal.loop-number-preserved
loop-number-preserved c =
    let n = c.loop-number.number in
    let end = OWN + c.args.count in
    let done : List ℕ = c.loop-number.functions.items in
    let rest : List ℕ = numbers_from (n + 1) (end - (n + 1)) in
    let lt : n < end = c.loop-number-test.true in
    let split : done ++ numbers_from n (end - n) ≡ done ++ (n ∷ rest) = ap (λ (xs : List ℕ). done ++ xs) (next_number n end lt) in
    (ap (λ (xs : List ℕ). xs ++ rest) c.in_ok-push.ensures.items ∙ append_assoc done (n ∷ []) rest ∙ sym split ∙ c.loop-number.invariant.0, omega (arith, lt))
