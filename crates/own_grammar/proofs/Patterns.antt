-- Patterns: what is spelled is read, and what is read is spelled.
use Rattle.std.proofs.Common.{◌≡◌, ℕ, ◌+◌, ◌≤◌, Bool, true, false, List, [], ◌∷◌, ◌++◌, Some, Ok, refl, ap, ◌∙◌, append_assoc, arith}
use Rattle.std.proofs.lemmas.Bool.{lt-ltb}
use Rattle.own_tree.specs.declared.span.Span.{Span}
use Rattle.own_tree.specs.declared.token.Kind.TheVariants as kind
use Rattle.own_tree.specs.declared.token.Mark.TheVariants as mark
use Rattle.own_tree.specs.declared.token.Word.TheVariants as word
use Rattle.own_tree.specs.declared.tree.Name.{Name}
use Rattle.own_tree.specs.Source.{LetPat, let_any, let_bind, let_case, let_number, let_truth, LetPats, no_let_pats, let_pat, Pat, any, bind, bind_case, on_case, on_number, on_truth, Pats, no_pats, pat}
use Rattle.own_grammar.specs.Tests.{Toks, after, kind_at, is_mark, name_at, number_at, truth_at}
use Rattle.own_grammar.specs.Nesting.{is_let_case, nest_let_pat, nest_let_pats, nest_pat, nest_pats}
use Rattle.own_grammar.specs.Spells.{SpellsLetPat, SpellsLetPats, SpellsPat, SpellsPats}
use Rattle.own_grammar.specs.Reading.{PatternGoal, let_pattern, let_patterns_on, patterns_on, PatternReader, let_parts_with, let_case_with, let_literal_with, let_pattern_with, let_patterns_with, parts_with, case_with, bind_with, literal_pattern_with, pattern_with, patterns_with, pattern_step}
use Rattle.own_grammar.proofs.Facts.{number_kind, name_kind, truth_word, truth_kind, at_mark, at_word, negative_kind}
use Rattle.own_grammar.proofs.Lists.{let_pats_in, let_pats_list, pats_in, pats_list}

module _ (most : ℕ) (R : PatternReader) (opened : (g : PatternGoal) (d : ℕ) (ts : Toks) → R g d ts ≡ pattern_step most R g d ts) where
  -- ---- what is spelled is read: patterns after `let`

  abbrev GoodLet : LetPat → Type 0
  GoodLet p = (d : ℕ) (from to : Toks) → SpellsLetPat p from to → is_mark mark.OpenParen to ≡ false → d + nest_let_pat p ≤ most → let_pattern_with most R d from ≡ Ok (p, to)

  abbrev MoreLet : LetPats → Type 0
  MoreLet ps = (p : LetPat) → GoodLet p → (found : List LetPat) (d : ℕ) (from to : Toks) → SpellsLetPats (let_pat p ps) from to → is_mark mark.OpenParen to ≡ false → is_mark mark.Comma to ≡ false → d + nest_let_pats (let_pat p ps) ≤ most → let_patterns_with most R found d from ≡ Ok (found ++ let_pats_in (let_pat p ps), to)

  let_is_any : (s : Span) → GoodLet (let_any s)
  unfolding let_pattern_with
  let_is_any s d from to (k, is, r) paren fit = rw (is, r, at_mark mark.Underscore from _ k) refl

  let_is_bind : (n : Name) → GoodLet (let_bind n)
  unfolding let_pattern_with
  let_is_bind n d from to (nm, is) paren fit = let k = name_kind from n nm in rw (is, at_mark mark.Underscore from _ k, at_mark mark.Dot from _ k, nm) refl

  let_is_truth : (s : Span) (b : Bool) → GoodLet (let_truth s b)
  unfolding let_pattern_with let_literal_with name_at
  let_is_truth s b d from to (t, is, r) paren fit = let k = truth_kind from b t in rw (is, r, at_mark mark.Underscore from _ k, at_mark mark.Dot from _ k, k, t) refl

  let_is_number : (s : Span) (negative : Bool) (n : ℕ) → GoodLet (let_number s negative n)
  unfolding let_pattern_with let_literal_with name_at truth_at number_at
  let_is_number s false n d from to (num, is, r) paren fit = let k = number_kind from n num in rw (is, r, at_mark mark.Underscore from _ k, at_mark mark.Dot from _ k, k) refl
  let_is_number s true n d from to (num, is, r) paren fit = let k = (negative_kind false from n num).0 in rw (is, r, at_mark mark.Underscore from _ k, at_mark mark.Dot from _ k, k, num) refl

  let_is_bare : (s : Span) (n : Name) → GoodLet (let_case s n no_let_pats)
  unfolding let_pattern_with let_case_with
  let_is_bare s n d from to (c, is, r) paren fit = let p = rw is at paren in rw (is, r, at_mark mark.Underscore from _ c.0, at_mark mark.Dot from _ c.0, c.1, p) refl

  more_let_none : MoreLet no_let_pats
  unfolding let_patterns_with let_pats_in
  more_let_none p good found d from to sp paren comma fit = rw (good d from to sp paren (omega (arith, fit)), comma) refl

  more_let : (q : LetPat) (ps : LetPats) → GoodLet q → MoreLet ps → MoreLet (let_pat q ps)
  unfolding let_patterns_with let_pats_in pattern_step
  more_let q ps goodq rest p good found d from to (mid, sp, comma, sps) paren last fit =
      rw (good d from mid sp (at_mark mark.OpenParen mid _ comma) (omega (arith, fit)), at_mark mark.Comma mid _ comma, opened (let_patterns_on (found ++ p ∷ [])) d (after mid), rest q goodq (found ++ p ∷ []) d (after mid) to sps paren last (omega (arith, fit)))
      (ap (λ (xs : List LetPat). Ok (xs, to)) (append_assoc found (p ∷ []) (let_pats_in (let_pat q ps))))

  let_is_case : (s : Span) (n : Name) (p : LetPat) (ps : LetPats) → GoodLet p → MoreLet ps → GoodLet (let_case s n (let_pat p ps))
  unfolding let_pattern_with let_case_with let_parts_with pattern_step
  let_is_case s n p ps good more d from to (c, open_, last, sps, close, is, r) paren fit =
      rw (
        is,
        r,
        at_mark mark.Underscore from _ c.0,
        at_mark mark.Dot from _ c.0,
        c.1,
        at_mark mark.OpenParen (after (after from)) _ open_,
        lt-ltb d most (omega (arith, fit)),
        opened (let_patterns_on []) (d + 1) (after (after (after from))),
        more p good [] (d + 1) (after (after (after from))) last sps (at_mark mark.OpenParen last _ close) (at_mark mark.Comma last _ close) (omega (arith, fit)),
        at_mark mark.CloseParen last _ close,
        let_pats_list (let_pat p ps),
      ) refl

  mutual
    let_good : (p : LetPat) → GoodLet p
    let_good (let_any s) = let_is_any s
    let_good (let_bind n) = let_is_bind n
    let_good (let_case s n no_let_pats) = let_is_bare s n
    let_good (let_case s n (let_pat p ps)) = let_is_case s n p ps (let_good p) (let_more ps)
    let_good (let_number s negative n) = let_is_number s negative n
    let_good (let_truth s b) = let_is_truth s b

    let_more : (ps : LetPats) → MoreLet ps
    let_more no_let_pats = more_let_none
    let_more (let_pat q ps) = more_let q ps (let_good q) (let_more ps)

  -- ---- patterns

  abbrev Good : Pat → Type 0
  Good p = (d : ℕ) (from to : Toks) → SpellsPat p from to → is_mark mark.OpenParen to ≡ false → d + nest_pat p ≤ most → pattern_with most R d from ≡ Ok (p, to)

  abbrev More : Pats → Type 0
  More ps = (p : Pat) → Good p → (found : List Pat) (d : ℕ) (from to : Toks) → SpellsPats (pat p ps) from to → is_mark mark.OpenParen to ≡ false → is_mark mark.Comma to ≡ false → d + nest_pats (pat p ps) ≤ most → patterns_with most R found d from ≡ Ok (found ++ pats_in (pat p ps), to)

  is_any : (s : Span) → Good (any s)
  unfolding pattern_with
  is_any s d from to (k, is, r) paren fit = rw (is, r, at_mark mark.Underscore from _ k) refl

  is_bind : (s : Span) (n : Name) → Good (bind s n)
  unfolding pattern_with bind_with
  is_bind s n d from to (k, nm, is, r) paren fit = rw (is, r, at_mark mark.Underscore from _ k, at_word word.Let from _ k, nm) refl

  case_starts : (p : LetPat) (from to : Toks) → SpellsLetPat p from to → is_let_case p ≡ true → kind_at from ≡ Some (kind.Mark mark.Dot)
  case_starts (let_any s) from to sp is = absurd cc
  case_starts (let_bind n) from to sp is = absurd cc
  case_starts (let_case s n no_let_pats) from to sp is = sp.0.0
  case_starts (let_case s n (let_pat p ps)) from to sp is = sp.0.0
  case_starts (let_number s negative n) from to sp is = absurd cc
  case_starts (let_truth s b) from to sp is = absurd cc

  is_bind_case : (s : Span) (p : LetPat) → Good (bind_case s p)
  unfolding pattern_with bind_with pattern_step name_at
  is_bind_case s p d from to (k, sp, is, r) paren fit = let dot = case_starts p (after from) to sp is in
      rw (r, at_mark mark.Underscore from _ k, at_word word.Let from _ k, at_mark mark.Dot (after from) _ dot, dot, opened let_pattern d (after from), let_good p d (after from) to sp paren fit) refl

  is_truth : (s : Span) (b : Bool) → Good (on_truth s b)
  unfolding pattern_with literal_pattern_with truth_word
  is_truth s true d from to (t, is, r) paren fit = let k = truth_kind from true t in rw (is, r, at_mark mark.Underscore from _ k, at_word word.Let from _ k, at_mark mark.Dot from _ k, t) refl
  is_truth s false d from to (t, is, r) paren fit = let k = truth_kind from false t in rw (is, r, at_mark mark.Underscore from _ k, at_word word.Let from _ k, at_mark mark.Dot from _ k, t) refl

  is_number : (s : Span) (negative : Bool) (n : ℕ) → Good (on_number s negative n)
  unfolding pattern_with literal_pattern_with truth_at number_at
  is_number s false n d from to (num, is, r) paren fit = let k = number_kind from n num in rw (is, r, at_mark mark.Underscore from _ k, at_word word.Let from _ k, at_mark mark.Dot from _ k, k) refl
  is_number s true n d from to (num, is, r) paren fit = let k = (negative_kind false from n num).0 in rw (is, r, at_mark mark.Underscore from _ k, at_word word.Let from _ k, at_mark mark.Dot from _ k, k, num) refl

  is_bare_case : (s : Span) (n : Name) → Good (on_case s n no_pats)
  unfolding pattern_with case_with
  is_bare_case s n d from to (c, is, r) paren fit = let p = rw is at paren in rw (is, r, at_mark mark.Underscore from _ c.0, at_word word.Let from _ c.0, at_mark mark.Dot from _ c.0, c.1, p) refl

  more_none : More no_pats
  unfolding patterns_with pats_in
  more_none p good found d from to sp paren comma fit = rw (good d from to sp paren (omega (arith, fit)), comma) refl

  more_pat : (q : Pat) (ps : Pats) → Good q → More ps → More (pat q ps)
  unfolding patterns_with pats_in pattern_step
  more_pat q ps goodq rest p good found d from to (mid, sp, comma, sps) paren last fit =
      rw (good d from mid sp (at_mark mark.OpenParen mid _ comma) (omega (arith, fit)), at_mark mark.Comma mid _ comma, opened (patterns_on (found ++ p ∷ [])) d (after mid), rest q goodq (found ++ p ∷ []) d (after mid) to sps paren last (omega (arith, fit)))
      (ap (λ (xs : List Pat). Ok (xs, to)) (append_assoc found (p ∷ []) (pats_in (pat q ps))))

  is_case : (s : Span) (n : Name) (p : Pat) (ps : Pats) → Good p → More ps → Good (on_case s n (pat p ps))
  unfolding pattern_with case_with parts_with pattern_step
  is_case s n p ps good more d from to (c, open_, last, sps, close, is, r) paren fit =
      rw (
        is,
        r,
        at_mark mark.Underscore from _ c.0,
        at_word word.Let from _ c.0,
        at_mark mark.Dot from _ c.0,
        c.1,
        at_mark mark.OpenParen (after (after from)) _ open_,
        lt-ltb d most (omega (arith, fit)),
        opened (patterns_on []) (d + 1) (after (after (after from))),
        more p good [] (d + 1) (after (after (after from))) last sps (at_mark mark.OpenParen last _ close) (at_mark mark.Comma last _ close) (omega (arith, fit)),
        at_mark mark.CloseParen last _ close,
        pats_list (pat p ps),
      ) refl

  mutual
    good : (p : Pat) → Good p
    good (any s) = is_any s
    good (bind s n) = is_bind s n
    good (bind_case s p) = is_bind_case s p
    good (on_case s n no_pats) = is_bare_case s n
    good (on_case s n (pat p ps)) = is_case s n p ps (good p) (more ps)
    good (on_number s negative n) = is_number s negative n
    good (on_truth s b) = is_truth s b

    more : (ps : Pats) → More ps
    more no_pats = more_none
    more (pat q ps) = more_pat q ps (good q) (more ps)

  pub all_are : (ps : Pats) (d : ℕ) (from to : Toks) → SpellsPats ps from to → is_mark mark.OpenParen to ≡ false → is_mark mark.Comma to ≡ false → d + nest_pats ps ≤ most → R (patterns_on []) d from ≡ Ok (pats_in ps, to)
  unfolding pattern_step
  all_are no_pats d from to sp paren comma fit = absurd sp
  all_are (pat p ps) d from to sp paren comma fit = opened (patterns_on []) d from ∙ more ps p (good p) [] d from to sp paren comma fit
