-- The names of a closure, one after the other.
use Rattle.std.proofs.Common.{◌≡◌, ◌≤◌, true, false, List, [], ◌∷◌, ◌++◌, length, append_assoc, Option, Some, None, refl, sym, ap, ◌∙◌, arith}
use Rattle.own_tree.specs.declared.token.Mark.TheVariants as mark
use Rattle.own_tree.specs.declared.token.Word.TheVariants as word
use Rattle.own_tree.specs.declared.tree.ClosureName.{ClosureName}
use Rattle.own_grammar.specs.Tests.{Toks, after, is_mark, is_word, closure_name_at, kind_at, names_at, name_then, then_more}

abbrev pub onto : List ClosureName → Option (List ClosureName × Toks) → Option (List ClosureName × Toks)
onto found None = None
onto found (Some r) = Some (found ++ r.0, r.1)

pub record NamesOn (initial : Toks) (found : List ClosureName) (rest : Toks) : Type 0 where
  pub whole : onto found (names_at rest) ≡ names_at initial
  pub within : length rest ≤ length initial

onto_none : (o : Option (List ClosureName × Toks)) → onto [] o ≡ o
onto_none None = refl
onto_none (Some r) = refl

onto_more : (found : List ClosureName) (n : ClosureName) (o : Option (List ClosureName × Toks)) → onto (found ++ n ∷ []) o ≡ onto found (then_more n o)
onto_more found n None = refl
onto_more found n (Some r) = ap (λ (xs : List ClosureName). Some (xs, r.1)) (append_assoc found (n ∷ []) r.0)

pub begin : (initial : Toks) → NamesOn initial [] initial
begin initial = record { whole = onto_none (names_at initial); within = omega arith }

lonely : (o : Option ClosureName) (more : Option (List ClosureName × Toks)) (us : Toks) → None ≡ name_then o false false more us
lonely None more us = refl
lonely (Some n) more us = refl

names_step : (rest : Toks) → names_at rest ≡ name_then (closure_name_at rest) (is_mark mark.Comma (after rest)) (is_word word.In (after rest)) (names_at (after (after rest))) (after (after rest))
unfolding names_at closure_name_at kind_at is_mark is_word
names_step [] = refl
names_step (t ∷ []) = lonely (closure_name_at (t ∷ [])) (names_at []) []
names_step (t ∷ u ∷ ts) = refl

pub go : (initial : Toks) (found more : List ClosureName) (rest comma next : Toks) (n : ClosureName) → Some n ≡ closure_name_at rest → comma ≡ after rest → is_mark mark.Comma comma ≡ true → more ≡ found ++ n ∷ [] → next ≡ after comma → length next ≤ length rest
    → NamesOn initial found rest → NamesOn initial more next
go initial found more rest comma next n name one is pushed two less on =
    let fit = on.within in
    let marked : is_mark mark.Comma (after rest) ≡ true = rw one at is in
    let stepped : names_at rest ≡ then_more n (names_at (after (after rest))) = names_step rest ∙ rw (sym name, marked) refl in
    record { whole = rw (pushed, two, one) (onto_more found n (names_at (after (after rest))) ∙ ap (onto found) (sym stepped) ∙ on.whole); within = omega arith }

pub stop : (initial : Toks) (found more : List ClosureName) (rest comma next : Toks) (n : ClosureName) → Some n ≡ closure_name_at rest → comma ≡ after rest → is_mark mark.Comma comma ≡ false → is_word word.In comma ≡ true → more ≡ found ++ n ∷ [] → next ≡ after comma
    → NamesOn initial found rest → Some (more, next) ≡ names_at initial
stop initial found more rest comma next n name one is ends pushed two on =
    let marked : is_mark mark.Comma (after rest) ≡ false = rw one at is in
    let ended : is_word word.In (after rest) ≡ true = rw one at ends in
    let stepped : names_at rest ≡ Some (n ∷ [], after (after rest)) = names_step rest ∙ rw (sym name, marked, ended) refl in
    rw (pushed, two, one) (ap (onto found) (sym stepped) ∙ on.whole)

pub none : (initial : Toks) (found : List ClosureName) (rest : Toks) → None ≡ closure_name_at rest → NamesOn initial found rest → None ≡ names_at initial
none initial found rest name on =
    let stepped : names_at rest ≡ None = names_step rest ∙ rw (sym name) refl in
    ap (onto found) (sym stepped) ∙ on.whole

pub wrong : (initial : Toks) (found : List ClosureName) (rest comma : Toks) (n : ClosureName) → Some n ≡ closure_name_at rest → comma ≡ after rest → is_mark mark.Comma comma ≡ false → is_word word.In comma ≡ false → NamesOn initial found rest → None ≡ names_at initial
wrong initial found rest comma n name one is ends on =
    let marked : is_mark mark.Comma (after rest) ≡ false = rw one at is in
    let ended : is_word word.In (after rest) ≡ false = rw one at ends in
    let stepped : names_at rest ≡ None = names_step rest ∙ rw (sym name, marked, ended) refl in
    ap (onto found) (sym stepped) ∙ on.whole
