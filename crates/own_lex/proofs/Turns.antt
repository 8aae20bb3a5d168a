-- One turn of the loop over a text, by what stands at the front.
use Rattle.std.proofs.Common.{◌≡◌, ◌≢◌, ℕ, Bool, true, false, ◌||◌, ◌==◌, List, [], ◌∷◌, ◌++◌, length, Some, None, Ok, Err, refl, ◌∙◌}
use Rattle.std.proofs.lemmas.Bool.{eq-eqb, ne_eqb}
use Rattle.own_tree.specs.declared.limits.TheConstants.{MOST_TOKENS}
use Rattle.own_tree.specs.declared.token.Token.{Token}
use Rattle.own_tree.specs.declared.token.Kind.{Kind}
use Rattle.own_tree.specs.Characters.{Text, bytes_of, is_over}
use Rattle.own_tree.specs.Tokens.{gives_space, token_of}
use Rattle.own_lex.specs.declared.fault.Fault.{Fault}
use Rattle.own_lex.specs.declared.fault.Fault.TheVariants as fault
use Rattle.own_lex.specs.Reading.{Blank, blank_at, token_at, token_step, lex_step, lex_on}
use Rattle.own_lex.proofs.Lengths.{lex_is}

pub turn_over : (total : ℕ) (found : List Token) (space line : Bool) (cs : Text) → is_over cs ≡ true → lex_on total found space line cs ≡ Ok found
unfolding lex_step
turn_over total found space line cs over = lex_is total found space line cs ∙ rw over refl

pub turn_fault : (total : ℕ) (found : List Token) (space line : Bool) (cs : Text) (f : Fault) → is_over cs ≡ false → blank_at cs ≡ Err f → lex_on total found space line cs ≡ Err f
unfolding lex_step
turn_fault total found space line cs f over is = lex_is total found space line cs ∙ rw (over, is) refl

pub turn_blank : (total : ℕ) (found : List Token) (space line : Bool) (cs : Text) (x : Blank) → is_over cs ≡ false → blank_at cs ≡ Ok (Some x) → lex_on total found space line cs ≡ lex_on total found true (line || x.0) x.1
unfolding lex_step
turn_blank total found space line cs x over is = lex_is total found space line cs ∙ rw (over, is) refl

turn_token : (total : ℕ) (found : List Token) (space line : Bool) (cs : Text) → is_over cs ≡ false → blank_at cs ≡ Ok None → lex_on total found space line cs ≡ token_step (lex_on total) total found space line cs
unfolding lex_step
turn_token total found space line cs over is = lex_is total found space line cs ∙ rw (over, is) refl

pub turn_bad : (total : ℕ) (found : List Token) (space line : Bool) (cs : Text) (f : Fault) → is_over cs ≡ false → blank_at cs ≡ Ok None → token_at cs ≡ Err f → lex_on total found space line cs ≡ Err f
unfolding token_step
turn_bad total found space line cs f over none is = turn_token total found space line cs over none ∙ rw is refl

pub turn_many : (total : ℕ) (found : List Token) (space line : Bool) (cs : Text) (t : Kind × Text) → is_over cs ≡ false → blank_at cs ≡ Ok None → token_at cs ≡ Ok t → length found ≡ MOST_TOKENS → lex_on total found space line cs ≡ Err (fault.TooManyTokens (bytes_of cs))
unfolding token_step
turn_many total found space line cs t over none is many =
    let test : (length found == MOST_TOKENS) ≡ true = eq-eqb (length found) MOST_TOKENS many in
    turn_token total found space line cs over none ∙ rw (is, test) refl

pub turn_more : (total : ℕ) (found : List Token) (space line : Bool) (cs : Text) (t : Kind × Text) → is_over cs ≡ false → blank_at cs ≡ Ok None → token_at cs ≡ Ok t → length found ≢ MOST_TOKENS → lex_on total found space line cs ≡ lex_on total (found ++ token_of total t.0 cs t.1 space line ∷ []) (gives_space t.0) false t.1
unfolding token_step
turn_more total found space line cs t over none is few =
    let test : (length found == MOST_TOKENS) ≡ false = ne_eqb (length found) MOST_TOKENS few in
    turn_token total found space line cs over none ∙ rw (is, test) refl
