-- Lists of parts, one part after the other.
use Rattle.std.proofs.Common.{◌≡◌, ◌≤◌, Bool, cond, true, false, List, [], ◌∷◌, ◌++◌, map, length, Ok, refl, sym, ◌∙◌, arith}
use Rattle.std.proofs.lemmas.List.{map-append}
use Rattle.own_tree.specs.declared.token.Mark.TheVariants as mark
use Rattle.own_grammar.specs.Tests.{Toks, after, is_mark}
use Rattle.own_grammar.specs.Reading.{Read, Syntax, Depth, ◌>>=◌, sep_at}
use Rattle.own_grammar.specs.Lists.{listed_on, separated_on}
use Rattle.own_expr.specs.Gives.{Fails}
use Rattle.own_expr.specs.declared.fault.ReadError.{ReadError}
use Rattle.own_expr.specs.declared.fault.ReadError.TheVariants as errors

-- ---- with commas

pub record ListedOn {A : Type 0} (item : Toks → Read A) (initial : Toks) (found : List A) (rest : Toks) : Type 0 where
  pub whole : listed_on item found rest ≡ listed_on item [] initial
  pub within : length rest ≤ length initial

-- what is read from here on, one part further
abbrev pub ListedIs : {A : Type 0} → (Toks → Read A) → Type 0
ListedIs {A} item = (found : List A) (ts : Toks) → listed_on item found ts ≡ (item ts >>= λ x. cond (is_mark mark.Comma x.1) (listed_on item (found ++ x.0 ∷ []) (after x.1)) (Ok (found ++ x.0 ∷ [], x.1)))

module _ {A : Type 0} (item : Toks → Read A) (is : ListedIs item) (initial : Toks) (found : List A) (rest : Toks) (on : ListedOn item initial found rest) where
  pub listed_go : (x : A) (mid : Toks) (more : List A) (next : Toks) → item rest ≡ Ok (x, mid) → is_mark mark.Comma mid ≡ true → more ≡ found ++ x ∷ [] → next ≡ after mid → length next ≤ length rest → ListedOn item initial more next
  listed_go x mid more next read_ comma pushed at_ less =
      let fit = on.within in
      record { whole = rw (pushed, at_) (sym (is found rest ∙ rw (read_, comma) refl) ∙ on.whole); within = omega arith }

  pub listed_stop : (x : A) (mid : Toks) (more : List A) → item rest ≡ Ok (x, mid) → is_mark mark.Comma mid ≡ false → more ≡ found ++ x ∷ [] → listed_on item [] initial ≡ Ok (more, mid)
  listed_stop x mid more read_ comma pushed = rw pushed (sym on.whole ∙ is found rest ∙ rw (read_, comma) refl)

  pub listed_fail : (e : ReadError) → Fails e (item rest) → Fails e (listed_on item [] initial)
  listed_fail errors.Memory f = tt
  listed_fail (errors.Syntax n) f = sym on.whole ∙ is found rest ∙ rw f refl
  listed_fail (errors.Depth n) f = sym on.whole ∙ is found rest ∙ rw f refl

-- ---- each with its SEP

pub record SeparatedOn {A B : Type 0} (view : B → A) (stops : Toks → Bool) (item : Toks → Read A) (initial : Toks) (found : List B) (rest : Toks) : Type 0 where
  pub whole : separated_on stops item (map view found) rest ≡ separated_on stops item [] initial
  pub within : length rest ≤ length initial

abbrev pub SeparatedIs : {A : Type 0} → (Toks → Bool) → (Toks → Read A) → Type 0
SeparatedIs {A} stops item = (found : List A) (ts : Toks) → separated_on stops item found ts ≡ cond (stops ts) (Ok (found, ts)) (item ts >>= λ x. sep_at true x.1 >>= λ next. separated_on stops item (found ++ x.0 ∷ []) next)

module _ {A B : Type 0} (view : B → A) (stops : Toks → Bool) (item : Toks → Read A) (is : SeparatedIs stops item) (initial : Toks) (found : List B) (rest : Toks) (on : SeparatedOn view stops item initial found rest) where
  pub separated_go : (x : B) (mid next : Toks) (more : List B) → stops rest ≡ false → item rest ≡ Ok (view x, mid) → sep_at true mid ≡ Ok next → more ≡ found ++ x ∷ [] → length next ≤ length rest → SeparatedOn view stops item initial more next
  separated_go x mid next more open_ read_ sep pushed less =
      let fit = on.within in
      let pushed_view : map view (found ++ x ∷ []) ≡ map view found ++ view x ∷ [] = map-append view found (x ∷ []) in
      record { whole = rw (pushed, pushed_view) (sym (is (map view found) rest ∙ rw (open_, read_, sep) refl) ∙ on.whole); within = omega arith }

  pub separated_end : stops rest ≡ true → separated_on stops item [] initial ≡ Ok (map view found, rest)
  separated_end close = sym on.whole ∙ is (map view found) rest ∙ rw close refl

  pub separated_fail : (e : ReadError) → stops rest ≡ false → Fails e (item rest) → Fails e (separated_on stops item [] initial)
  separated_fail errors.Memory open_ f = tt
  separated_fail (errors.Syntax n) open_ f = sym on.whole ∙ is (map view found) rest ∙ rw (open_, f) refl
  separated_fail (errors.Depth n) open_ f = sym on.whole ∙ is (map view found) rest ∙ rw (open_, f) refl

  pub sep_fail : (e : ReadError) (x : B) (mid : Toks) → stops rest ≡ false → item rest ≡ Ok (view x, mid) → Fails e (sep_at true mid) → Fails e (separated_on stops item [] initial)
  sep_fail errors.Memory x mid open_ read_ f = tt
  sep_fail (errors.Syntax n) x mid open_ read_ f = sym on.whole ∙ is (map view found) rest ∙ rw (open_, read_, f) refl
  sep_fail (errors.Depth n) x mid open_ read_ f = sym on.whole ∙ is (map view found) rest ∙ rw (open_, read_, f) refl
