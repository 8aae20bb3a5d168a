-- What the functions of this crate give of rules that make no node, no binding and no body.
use Rattle.std.specs.Prelude.{◌≡◌, Result, Ok, Err}
use Rattle.own_calls.specs.declared.error.TypeError.{TypeError}
use Rattle.own_calls.specs.declared.error.TypeError.TheVariants as type_error
use Rattle.own_judging.specs.Judged.{Judged}
use Rattle.own_judging.specs.Made.{Made, broken}

-- the rule makes this of a part, or the judgement of that number is false there, whatever has been made before
abbrev pub Says : {X A : Type 0} → (X → A) → Result X TypeError → Judged A → Type 0
Says view (Ok x) rule = (s : Made) → rule.run s ≡ Ok (view x, s)
Says view (Err (type_error.BadType code at)) rule = (s : Made) → rule.run s ≡ Err (broken code at)
Says view (Err (type_error.Uncovered at form)) rule = ⊥
Says view (Err type_error.Memory) rule = Unit {0}
