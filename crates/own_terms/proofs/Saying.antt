-- One rule, and then another for what the first gives.
use Rattle.std.proofs.Common.{Result, Ok, Err, ap, ◌∙◌}
use Rattle.own_calls.specs.declared.error.TypeError.{TypeError}
use Rattle.own_calls.specs.declared.error.TypeError.TheVariants as type_error
use Rattle.own_judging.specs.Judged.{Judged, after}
use Rattle.own_judged.specs.Rules.{◌>>=◌}
use Rattle.own_terms.specs.Says.{Says}

module _ {X A Y B : Type 0} (view : X → A) (view' : Y → B) (first : Judged A) (next : A → Judged B) where
  pub says_then : (x : X) (r : Result Y TypeError) → Says view (Ok x) first → Says view' r (next (view x))
      → Says view' r (first >>= next)
  says_then x (Ok y) one two = λ s. ap (λ f. after f (λ a m. (next a).run m)) (one s) ∙ two s
  says_then x (Err (type_error.BadType code at)) one two =
      λ s. ap (λ f. after f (λ a m. (next a).run m)) (one s) ∙ two s
  says_then x (Err (type_error.Uncovered at form)) one two = two
  says_then x (Err type_error.Memory) one two = tt

  pub says_stop : (e : TypeError) → Says view (Err e) first → Says view' (Err e) (first >>= next)
  says_stop (type_error.BadType code at) one = λ s. ap (λ f. after f (λ a m. (next a).run m)) (one s)
  says_stop (type_error.Uncovered at form) one = one
  says_stop type_error.Memory one = tt
