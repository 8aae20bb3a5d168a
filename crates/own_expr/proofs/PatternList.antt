-- A list of patterns, one after the other.
use Rattle.std.proofs.Common.{◌≡◌, ℕ, ◌≤◌, true, false, List, [], ◌∷◌, ◌++◌, map, length, Ok, refl, sym, ap, ◌∙◌, arith}
use Rattle.std.proofs.lemmas.List.{map-append}
use Rattle.own_tree.specs.declared.token.Mark.TheVariants as mark
use Rattle.own_tree.specs.declared.tree.Pattern.{Pattern}
use Rattle.own_tree.specs.Source.{Pat}
use Rattle.own_tree.specs.View.{pattern_view}
use Rattle.own_grammar.specs.Tests.{Toks, after, is_mark}
use Rattle.own_grammar.specs.Reading.{patterns_on, pattern, patterns_with, pattern_with, pattern_step, read_pattern}
use Rattle.own_grammar.proofs.PatternsRead.{read_pattern_is}
use Rattle.own_expr.specs.Gives.{Fails}
use Rattle.own_expr.specs.declared.fault.ReadError.{ReadError}
use Rattle.own_expr.specs.declared.fault.ReadError.TheVariants as errors

pub list_is : (most : ℕ) (xs : List Pat) (d : ℕ) (ts : Toks) → read_pattern most (patterns_on xs) d ts ≡ patterns_with most (read_pattern most) xs d ts
unfolding pattern_step
list_is most xs d ts = read_pattern_is most (patterns_on xs) d ts

pub one_is : (most d : ℕ) (ts : Toks) → read_pattern most pattern d ts ≡ pattern_with most (read_pattern most) d ts
unfolding pattern_step
one_is most d ts = read_pattern_is most pattern d ts

pub record ListOn (most d : ℕ) (initial : Toks) (found : List Pattern) (rest : Toks) : Type 0 where
  pub whole : patterns_with most (read_pattern most) (map pattern_view found) d rest ≡ patterns_with most (read_pattern most) [] d initial
  pub within : length rest ≤ length initial

pub go : (most d : ℕ) (initial : Toks) (found : List Pattern) (rest : Toks) (p : Pattern) (more next : Toks) → pattern_with most (read_pattern most) d rest ≡ Ok (pattern_view p, more) → is_mark mark.Comma more ≡ true → next ≡ after more
    → length next ≤ length rest → ListOn most d initial found rest → ListOn most d initial (found ++ p ∷ []) next
unfolding patterns_with
go most d initial found rest p more next read_ comma is le on =
    let view : map pattern_view (found ++ p ∷ []) ≡ map pattern_view found ++ pattern_view p ∷ [] = map-append pattern_view found (p ∷ []) in
    let on3 = on.within in
    record {
      whole = rw (view, is) (sym (list_is most (map pattern_view found ++ pattern_view p ∷ []) d (after more)) ∙ sym (rw (read_, comma) refl) ∙ on.whole);
      within = omega arith;
    }

pub stop : (most d : ℕ) (initial : Toks) (found : List Pattern) (rest : Toks) (p : Pattern) (more : Toks) → pattern_with most (read_pattern most) d rest ≡ Ok (pattern_view p, more) → is_mark mark.Comma more ≡ false
    → ListOn most d initial found rest → patterns_with most (read_pattern most) [] d initial ≡ Ok (map pattern_view (found ++ p ∷ []), more)
unfolding patterns_with
stop most d initial found rest p more read_ comma on =
    sym on.whole ∙ rw (read_, comma) (ap (λ (xs : List Pat). Ok (xs, more)) (sym (map-append pattern_view found (p ∷ []))))

pub fail : (e : ReadError) (most d : ℕ) (initial : Toks) (found : List Pattern) (rest : Toks) → Fails e (pattern_with most (read_pattern most) d rest) → ListOn most d initial found rest → Fails e (patterns_with most (read_pattern most) [] d initial)
unfolding patterns_with
fail errors.Memory most d initial found rest f on = tt
fail (errors.Syntax n) most d initial found rest f on = sym on.whole ∙ rw f refl
fail (errors.Depth n) most d initial found rest f on = sym on.whole ∙ rw f refl
