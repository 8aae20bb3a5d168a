-- The fields of a path, one after the other.
use Rattle.std.proofs.Common.{◌≡◌, ◌≤◌, true, false, List, [], ◌∷◌, ◌++◌, length, Some, None, Ok, Err, refl, sym, ◌∙◌, arith}
use Rattle.own_tree.specs.declared.token.Mark.TheVariants as mark
use Rattle.own_tree.specs.declared.tree.Name.{Name}
use Rattle.own_grammar.specs.Tests.{Toks, after, is_mark, name_at, kind_at}
use Rattle.own_grammar.specs.Reading.{Syntax, fields_on}

pub record FieldsOn (initial : Toks) (found : List Name) (rest : Toks) : Type 0 where
  pub whole : fields_on found rest ≡ fields_on [] initial
  pub within : length rest ≤ length initial

fields_go : (found : List Name) (rest : Toks) (n : Name) → is_mark mark.Dot rest ≡ true → name_at (after rest) ≡ Some n → fields_on found rest ≡ fields_on (found ++ n ∷ []) (after (after rest))
unfolding fields_on is_mark kind_at name_at
fields_go found [] n dot name = absurd cc
fields_go found (t ∷ []) n dot name = absurd cc
fields_go found (t ∷ u ∷ ts) n dot name = rw (dot, name) refl

fields_stop : (found : List Name) (rest : Toks) → is_mark mark.Dot rest ≡ false → fields_on found rest ≡ Ok (found, rest)
unfolding fields_on
fields_stop found [] dot = refl
fields_stop found (t ∷ []) dot = rw dot refl
fields_stop found (t ∷ u ∷ ts) dot = rw dot refl

fields_wrong : (found : List Name) (rest : Toks) → is_mark mark.Dot rest ≡ true → name_at (after rest) ≡ None → fields_on found rest ≡ Err (Syntax (length (after rest)))
unfolding fields_on is_mark kind_at
fields_wrong found [] dot name = absurd cc
fields_wrong found (t ∷ []) dot name = rw dot refl
fields_wrong found (t ∷ u ∷ ts) dot name = rw (dot, name) refl

pub go : (initial : Toks) (found more : List Name) (rest dotted next : Toks) (n : Name) → is_mark mark.Dot rest ≡ true → dotted ≡ after rest → Some n ≡ name_at dotted → more ≡ found ++ n ∷ [] → next ≡ after dotted → length next ≤ length rest
    → FieldsOn initial found rest → FieldsOn initial more next
go initial found more rest dotted next n dot one name pushed two less on =
    let is : name_at (after rest) ≡ Some n = sym (rw one at name) in
    let fit = on.within in
    record { whole = rw (pushed, two, one) (sym (fields_go found rest n dot is) ∙ on.whole); within = omega arith }

pub stop : (initial : Toks) (found : List Name) (rest : Toks) → is_mark mark.Dot rest ≡ false → FieldsOn initial found rest → fields_on [] initial ≡ Ok (found, rest)
stop initial found rest dot on = sym on.whole ∙ fields_stop found rest dot

pub wrong : (initial : Toks) (found : List Name) (rest dotted : Toks) → is_mark mark.Dot rest ≡ true → dotted ≡ after rest → None ≡ name_at dotted → FieldsOn initial found rest → fields_on [] initial ≡ Err (Syntax (length dotted))
wrong initial found rest dotted dot one name on =
    let is : name_at (after rest) ≡ None = sym (rw one at name) in
    rw one (sym on.whole ∙ fields_wrong found rest dot is)
