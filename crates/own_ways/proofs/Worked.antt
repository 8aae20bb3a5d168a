-- Worked operations at the ends of `Int`, by computing.
use Rattle.std.proofs.Common.{◌≡◌, ℕ, List, [], ◌∷◌, ◌-◌, ◌^◌, refl}
use Rattle.std.specs.Prelude.{ℤ, pos, negsuc}
use Rattle.std.specs.Int.{int_wrap}
use Rattle.own_tree.specs.declared.arithmetic.Arith.TheVariants.{Add, Sub, Mul, Div, Rem, Neg}
use Rattle.own_ways.specs.Arithmetic.{computed, wrapped}
use Rattle.own_ways.specs.Exact.{Gives, Fails, exact}
use Rattle.own_ways.specs.Ways.{Way, gives, traps}
use Rattle.own_ways.specs.declared.traps.TheConstants.{OVERFLOW, ZERO_DIVISOR}

abbrev most : ℤ
most = pos (2 ^ 63 - 1)

abbrev least : ℤ
least = negsuc (2 ^ 63 - 1)

sums : exact Add most (pos 0) ∷ exact Add most (pos 1) ∷ exact Sub least (pos 1) ∷ exact Mul least (negsuc 0) ∷ []
    ≡ Gives most ∷ Fails OVERFLOW ∷ Fails OVERFLOW ∷ Fails OVERFLOW ∷ []
sums = refl

-- a quotient rounds toward zero, and a remainder has the sign of the dividend
quotients : exact Div (negsuc 6) (pos 2) ∷ exact Rem (negsuc 6) (pos 2) ∷ exact Rem (pos 7) (negsuc 1) ∷ exact Div least (pos 1) ∷ []
    ≡ Gives (negsuc 2) ∷ Gives (negsuc 0) ∷ Gives (pos 1) ∷ Gives least ∷ []
quotients = refl

no_quotients : exact Div least (negsuc 0) ∷ exact Rem least (negsuc 0) ∷ exact Div least (pos 0) ∷ exact Rem most (pos 0) ∷ []
    ≡ Fails OVERFLOW ∷ Fails OVERFLOW ∷ Fails ZERO_DIVISOR ∷ Fails ZERO_DIVISOR ∷ []
no_quotients = refl

-- whatever the first operand is
negations : exact Neg (pos 5) most ∷ exact Neg (pos 5) least ∷ [] ≡ Gives (negsuc (2 ^ 63 - 2)) ∷ Fails OVERFLOW ∷ []
negations = refl

abbrev wraps : Way ℕ ℤ → Way ℕ ℤ → Way ℕ ℤ → List (Way ℕ ℤ)
wraps a b c = a ∷ b ∷ c ∷ []

-- with any state, here a number
wrapping : wraps (wrapped Add most (pos 1) 3) (wrapped Sub least (pos 1) 3) (wrapped Mul least (negsuc 0) 3) ≡ wraps (gives least 3) (gives most 3) (gives least 3)
unfolding int_wrap
wrapping = refl

trapping : wraps (computed Add 8 most (pos 1) 3) (computed Div 8 most (pos 0) 3) (computed Add 8 (pos 1) (pos 1) 3) ≡ wraps (traps OVERFLOW 8 3) (traps ZERO_DIVISOR 8 3) (gives (pos 2) 3)
trapping = refl
