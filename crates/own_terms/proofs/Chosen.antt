-- The two branches of `?:`.
use Rattle.std.proofs.Common.{◌≡◌, ℕ, true, Ok, sym, ap, ◌∙◌}
use Rattle.own_tree.specs.declared.span.Span.{Span}
use Rattle.own_tree.specs.TypedSource as typed
use Rattle.own_tree.specs.TypedSource.{TExp}
use Rattle.own_calls.specs.Arguments.{same_type}
use Rattle.own_judging.specs.Made.{Made, broken, made}
use Rattle.own_judging.specs.Judged.{after, checked}
use Rattle.own_judged.specs.Codes.{T12}
use Rattle.own_judged.specs.Values.{at, chosen, type_of}

pub chosen_so : (id : ℕ) (s : Span) (c a b e : TExp) → same_type (type_of a) (type_of b) ≡ true
    → e ≡ typed.choice (at id s (type_of a)) c a b → (from : Made) → (chosen id s c a b).run from ≡ Ok (e, from)
chosen_so id s c a b e same is from =
    ap
    (λ t. after (checked t (broken T12 s) from) (λ u m. made (typed.choice (at id s (type_of a)) c a b) m))
    same
    ∙ ap (λ x. Ok (x, from)) (sym is)
