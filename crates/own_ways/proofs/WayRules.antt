-- The rules of steps that follow one another.
use Rattle.std.specs.Prelude.{◌≡◌, refl}
use Rattle.own_ways.specs.Ways.{Way, Step, gives, traps, stops, errs, strays, after, ◌>>=◌, pure}

pub after_pure : {S A : Type 0} (w : Way S A) → after w pure ≡ w
after_pure (gives a s) = refl
after_pure (traps code at s) = refl
after_pure (stops s) = refl
after_pure (errs s) = refl
after_pure (strays s) = refl

pub after_after : {S A B C : Type 0} (w : Way S A) (two : A → S → Way S B) (three : B → S → Way S C)
    → after (after w two) three ≡ after w (λ a. two a >>= three)
after_after (gives a s) two three = refl
after_after (traps code at s) two three = refl
after_after (stops s) two three = refl
after_after (errs s) two three = refl
after_after (strays s) two three = refl

pub first_follows : {S A B : Type 0} (a : A) (next : A → Step S B) (s : S) → (pure a >>= next) s ≡ next a s
first_follows a next s = refl

pub last_follows : {S A : Type 0} (step : Step S A) (s : S) → (step >>= pure) s ≡ step s
last_follows step s = after_pure (step s)

pub grouped : {S A B C : Type 0} (one : Step S A) (two : A → Step S B) (three : B → Step S C) (s : S)
    → ((one >>= two) >>= three) s ≡ (one >>= (λ a. two a >>= three)) s
grouped one two three s = after_after (one s) two three
