-- Patterns: what is read is spelled, and is read whatever the fuel.
use Rattle.std.proofs.Common.{◌≡◌, ℕ, zero, suc, ◌+◌, ◌≤◌, ◌<◌, cond, ltb, true, false, List, [], ◌∷◌, ◌++◌, length, Option, Some, None, Ok, Err, ◌⊎◌, inl, inr, refl, ◌∙◌, append_assoc, arith}
use Rattle.std.proofs.lemmas.Bool.{ltb-true}
use Rattle.own_tree.specs.declared.token.Kind.TheVariants as kind
use Rattle.own_tree.specs.declared.token.Mark.TheVariants as mark
use Rattle.own_tree.specs.declared.token.Word.TheVariants as word
use Rattle.own_tree.specs.declared.tree.Name.{Name}
use Rattle.own_tree.specs.Source.{LetPat, let_any, let_bind, let_case, let_number, let_truth, LetPats, no_let_pats, let_pat, Pat, any, bind, bind_case, on_case, on_number, on_truth, Pats, no_pats, pat}
use Rattle.own_tree.specs.View.{let_pats_of, pats_of}
use Rattle.own_grammar.specs.Tests.{Toks, after, here, till, kind_at, is_mark, is_word, name_at, number_at, truth_at, negative_at}
use Rattle.own_grammar.specs.Nesting.{let_pat_span, is_let_case, nest_let_pat, nest_let_pats, nest_pat, nest_pats}
use Rattle.own_grammar.specs.Partial.{PLetPat, gone_let, p_let_case, PLetPats, p_let_pat, p_next_let, PPat, gone_pattern, p_bind_case, p_case, PPats, p_pattern, p_next_pattern, nest_plp, nest_plps, nest_pp, nest_pps, PartLetPat, PartLetPats, PartPat, PartPats}
use Rattle.own_grammar.specs.Spells.{SpellsCase, SpellsLetPat, SpellsLetPats, SpellsPat, SpellsPats}
use Rattle.own_grammar.specs.Reading.{Syntax, Depth, ◌>>=◌, syntax_at, PatternGoal, let_pattern, let_patterns_on, pattern, patterns_on, PatternOut, PatternReader, let_parts_with, let_case_with, let_literal_with, let_pattern_with, let_patterns_with, parts_with, case_with, bind_with, literal_pattern_with, pattern_with, patterns_with, pattern_step, read_pattern_at, read_pattern}
use Rattle.own_grammar.proofs.Facts.{number_kind, name_kind, truth_word, truth_kind, mark_kind, word_kind, negative_kind}
use Rattle.own_grammar.proofs.Lists.{let_pats_in, pats_in, let_pats_same, pats_same}
use Rattle.own_grammar.proofs.Lengths.{after_short, after_le, let_pat_short, pat_short}
use Rattle.own_grammar.proofs.Steps.{done, bind_ok, ok_is, chosen, kept, some_or, some_kept, bind_err, bind_deep, syn, some_syn, no_ok, Near, same, near_bind, near_cond, near_some, near_limit, lim, equal}
use Rattle.own_grammar.proofs.Patterns.{all_are}

-- what is read, where `most` levels are allowed and `d` nodes stand above what the patterns hold
abbrev pub Spelled : ℕ → (g : PatternGoal) → ℕ → PatternOut g → Toks → Toks → Type 0
Spelled most let_pattern d p from to = SpellsLetPat p from to × (d ≤ most → d + nest_let_pat p ≤ most)
Spelled most (let_patterns_on found) d xs from to = (p : LetPat) × (ps : LetPats) × (xs ≡ found ++ let_pats_in (let_pat p ps)) × SpellsLetPats (let_pat p ps) from to × (d ≤ most → d + nest_let_pats (let_pat p ps) ≤ most)
Spelled most pattern d p from to = SpellsPat p from to × (d ≤ most → d + nest_pat p ≤ most)
Spelled most (patterns_on found) d xs from to = (p : Pat) × (ps : Pats) × (xs ≡ found ++ pats_in (pat p ps)) × SpellsPats (pat p ps) from to × (d ≤ most → d + nest_pats (pat p ps) ≤ most)

abbrev Sound : ℕ → PatternReader → Type 0
Sound most k = (g : PatternGoal) (d : ℕ) (ts : Toks) (x : PatternOut g × Toks) → k g d ts ≡ Ok x → Spelled most g d x.0 ts x.1

-- where reading is too deep, the tokens before the named one stand a level too deep
abbrev pub Deep : ℕ → PatternGoal → ℕ → Toks → ℕ → Type 0
Deep most let_pattern d ts n = (p : PLetPat) × (at : Toks) × (length at ≡ n) × PartLetPat p ts at × (most < d + nest_plp p)
Deep most (let_patterns_on found) d ts n = (p : PLetPats) × (at : Toks) × (length at ≡ n) × PartLetPats p ts at × (most < d + nest_plps p)
Deep most pattern d ts n = (p : PPat) × (at : Toks) × (length at ≡ n) × PartPat p ts at × (most < d + nest_pp p)
Deep most (patterns_on found) d ts n = (p : PPats) × (at : Toks) × (length at ≡ n) × PartPats p ts at × (most < d + nest_pps p)

abbrev Deeps : ℕ → PatternReader → Type 0
Deeps most k = (g : PatternGoal) (d : ℕ) (ts : Toks) (n : ℕ) → k g d ts ≡ Err (Depth n) → Deep most g d ts n

some_same : {A : Type 0} (o : Option A) (x y : A) → o ≡ Some x → o ≡ Some y → x ≡ y
some_same None x y e f = absurd cc
some_same (Some z) x y e f = cc

-- after a `.` a pattern is a case
dot_case : (p : LetPat) (from to : Toks) → SpellsLetPat p from to → kind_at from ≡ Some (kind.Mark mark.Dot) → is_let_case p ≡ true
unfolding truth_word
dot_case (let_any s) from to sp dot = absurd cc
dot_case (let_bind n) from to sp dot = absurd (let k = name_kind from n sp.0 in cc)
dot_case (let_case s n ps) from to sp dot = refl
dot_case (let_number s false n) from to sp dot = absurd (let k = number_kind from n sp.0 in cc)
dot_case (let_number s true n) from to sp dot = absurd (let k = (negative_kind false from n sp.0).0 in cc)
dot_case (let_truth s true) from to sp dot = absurd (let k = truth_kind from true sp.0 in cc)
dot_case (let_truth s false) from to sp dot = absurd (let k = truth_kind from false sp.0 in cc)

module _ (most : ℕ) (k : PatternReader) (snd : Sound most k) where
  -- ---- patterns after `let`

  let_parts_sound : (d : ℕ) (ts : Toks) (n : Name) (x : LetPat × Toks) → SpellsCase n ts → kind_at (after (after ts)) ≡ Some (kind.Mark mark.OpenParen) → let_parts_with most k d ts n (after (after (after ts))) ≡ Ok x → Spelled most let_pattern d x.0 ts x.1
  unfolding let_parts_with
  let_parts_sound d ts n x c paren e =
      let us = after (after (after ts)) in
      let l = kept (ltb d most) (k (let_patterns_on []) (d + 1) us >>= λ ps. cond (is_mark mark.CloseParen ps.1) (done (let_case (till (here ts) (here ps.1)) n (let_pats_of ps.0), after ps.1)) (syntax_at ps.1)) (Depth (length us)) x e in
      let lt = ltb-true d most l.0 in
      let b = bind_ok (k (let_patterns_on []) (d + 1) us) (λ ps. cond (is_mark mark.CloseParen ps.1) (done (let_case (till (here ts) (here ps.1)) n (let_pats_of ps.0), after ps.1)) (syntax_at ps.1)) x l.1 in
      let s = snd (let_patterns_on []) (d + 1) us b.0 b.1 in
      let fit = s.4 (omega (arith, lt)) in
      let q = kept (is_mark mark.CloseParen b.0.1) (done (let_case (till (here ts) (here b.0.1)) n (let_pats_of b.0.0), after b.0.1)) (Syntax (length b.0.1)) x b.2 in
      let list : let_pats_of b.0.0 ≡ let_pat s.0 s.1 = let_pats_same b.0.0 (let_pat s.0 s.1) s.2 in
      rw (← ok_is (let_case (till (here ts) (here b.0.1)) n (let_pats_of b.0.0), after b.0.1) x q.1, list) ((c, paren, b.0.1, s.3, mark_kind mark.CloseParen b.0.1 q.0, refl, refl), λ le. omega (arith, fit))

  let_case_sound : (d : ℕ) (ts : Toks) (x : LetPat × Toks) → is_mark mark.Dot ts ≡ true → let_case_with most k d ts ≡ Ok x → Spelled most let_pattern d x.0 ts x.1
  unfolding let_case_with
  let_case_sound d ts x dot e =
      let s = some_kept (name_at (after ts)) (λ n. cond (is_mark mark.OpenParen (after (after ts))) (let_parts_with most k d ts n (after (after (after ts)))) (done (let_case (till (here ts) (here (after ts))) n no_let_pats, after (after ts)))) (Syntax (length (after ts))) x e in
      let c : SpellsCase s.0 ts = (mark_kind mark.Dot ts dot, s.1) in
      elim (chosen (is_mark mark.OpenParen (after (after ts))) (let_parts_with most k d ts s.0 (after (after (after ts)))) (done (let_case (till (here ts) (here (after ts))) s.0 no_let_pats, after (after ts))) (Ok x) s.2) [
        | inl y ↦ let_parts_sound d ts s.0 x c (mark_kind mark.OpenParen (after (after ts)) y.0) y.1
        | inr y ↦ rw (← ok_is (let_case (till (here ts) (here (after ts))) s.0 no_let_pats, after (after ts)) x y.1) ((c, refl, refl), λ le. omega (arith, le))
      ]

  let_literal_sound : (d : ℕ) (ts : Toks) (x : LetPat × Toks) → let_literal_with ts ≡ Ok x → Spelled most let_pattern d x.0 ts x.1
  unfolding let_literal_with
  let_literal_sound d ts x e = elim (some_or (truth_at ts) _ _ _ e) [
    | inl b ↦ rw (← ok_is (let_truth (here ts) b.0, after ts) x b.2) ((b.1, refl, refl), λ le. omega (arith, le))
    | inr y ↦ elim (some_or (number_at ts) _ _ _ y.1) [
      | inl n ↦ rw (← ok_is (let_number (here ts) false n.0, after ts) x n.2) ((n.1, refl, refl), λ le. omega (arith, le))
      | inr z ↦ (let n = some_kept (negative_at false ts) _ (Syntax (length ts)) x z.1 in rw (← ok_is (let_number (till (here ts) (here (after ts))) true n.0, after (after ts)) x n.2) ((n.1, refl, refl), λ le. omega (arith, le)))
    ]
  ]

  let_pattern_sound : (d : ℕ) (ts : Toks) (x : LetPat × Toks) → let_pattern_with most k d ts ≡ Ok x → Spelled most let_pattern d x.0 ts x.1
  unfolding let_pattern_with
  let_pattern_sound d ts x e = elim (chosen (is_mark mark.Underscore ts) _ _ _ e) [
    | inl y ↦ rw (← ok_is (let_any (here ts), after ts) x y.1) ((mark_kind mark.Underscore ts y.0, refl, refl), λ le. omega (arith, le))
    | inr y ↦ elim (chosen (is_mark mark.Dot ts) _ _ _ y.1) [
      | inl z ↦ let_case_sound d ts x z.0 z.1
      | inr z ↦ elim (some_or (name_at ts) _ _ _ z.1) [
        | inl n ↦ rw (← ok_is (let_bind n.0, after ts) x n.2) ((n.1, refl), λ le. omega (arith, le))
        | inr u ↦ let_literal_sound d ts x u.1
      ]
    ]
  ]

  let_patterns_sound : (found : List LetPat) (d : ℕ) (ts : Toks) (x : List LetPat × Toks) → let_patterns_with most k found d ts ≡ Ok x → Spelled most (let_patterns_on found) d x.0 ts x.1
  unfolding let_patterns_with let_pats_in
  let_patterns_sound found d ts x e =
      let a = bind_ok (let_pattern_with most k d ts) (λ p. cond (is_mark mark.Comma p.1) (k (let_patterns_on (found ++ p.0 ∷ [])) d (after p.1)) (done (found ++ p.0 ∷ [], p.1))) x e in
      let p = let_pattern_sound d ts a.0 a.1 in
      elim (chosen (is_mark mark.Comma a.0.1) (k (let_patterns_on (found ++ a.0.0 ∷ [])) d (after a.0.1)) (done (found ++ a.0.0 ∷ [], a.0.1)) (Ok x) a.2) [
        | inl y ↦ (
            let r = snd (let_patterns_on (found ++ a.0.0 ∷ [])) d (after a.0.1) x y.1 in
            (a.0.0, let_pat r.0 r.1, r.2 ∙ append_assoc found (a.0.0 ∷ []) (let_pats_in (let_pat r.0 r.1)), (a.0.1, p.0, mark_kind mark.Comma a.0.1 y.0, r.3), λ le. let own = p.1 le in let more = r.4 le in omega (arith, own, more)))
        | inr y ↦ rw (← ok_is (found ++ a.0.0 ∷ [], a.0.1) x y.1) (a.0.0, no_let_pats, refl, p.0, λ le. let own = p.1 le in omega (arith, own))
      ]

  -- ---- patterns

  parts_sound : (d : ℕ) (ts : Toks) (n : Name) (x : Pat × Toks) → SpellsCase n ts → kind_at (after (after ts)) ≡ Some (kind.Mark mark.OpenParen) → parts_with most k d ts n (after (after (after ts))) ≡ Ok x → Spelled most pattern d x.0 ts x.1
  unfolding parts_with
  parts_sound d ts n x c paren e =
      let us = after (after (after ts)) in
      let l = kept (ltb d most) (k (patterns_on []) (d + 1) us >>= λ ps. cond (is_mark mark.CloseParen ps.1) (done (on_case (till (here ts) (here ps.1)) n (pats_of ps.0), after ps.1)) (syntax_at ps.1)) (Depth (length us)) x e in
      let lt = ltb-true d most l.0 in
      let b = bind_ok (k (patterns_on []) (d + 1) us) (λ ps. cond (is_mark mark.CloseParen ps.1) (done (on_case (till (here ts) (here ps.1)) n (pats_of ps.0), after ps.1)) (syntax_at ps.1)) x l.1 in
      let s = snd (patterns_on []) (d + 1) us b.0 b.1 in
      let fit = s.4 (omega (arith, lt)) in
      let q = kept (is_mark mark.CloseParen b.0.1) (done (on_case (till (here ts) (here b.0.1)) n (pats_of b.0.0), after b.0.1)) (Syntax (length b.0.1)) x b.2 in
      let list : pats_of b.0.0 ≡ pat s.0 s.1 = pats_same b.0.0 (pat s.0 s.1) s.2 in
      rw (← ok_is (on_case (till (here ts) (here b.0.1)) n (pats_of b.0.0), after b.0.1) x q.1, list) ((c, paren, b.0.1, s.3, mark_kind mark.CloseParen b.0.1 q.0, refl, refl), λ le. omega (arith, fit))

  case_sound : (d : ℕ) (ts : Toks) (x : Pat × Toks) → is_mark mark.Dot ts ≡ true → case_with most k d ts ≡ Ok x → Spelled most pattern d x.0 ts x.1
  unfolding case_with
  case_sound d ts x dot e =
      let s = some_kept (name_at (after ts)) (λ n. cond (is_mark mark.OpenParen (after (after ts))) (parts_with most k d ts n (after (after (after ts)))) (done (on_case (till (here ts) (here (after ts))) n no_pats, after (after ts)))) (Syntax (length (after ts))) x e in
      let c : SpellsCase s.0 ts = (mark_kind mark.Dot ts dot, s.1) in
      elim (chosen (is_mark mark.OpenParen (after (after ts))) (parts_with most k d ts s.0 (after (after (after ts)))) (done (on_case (till (here ts) (here (after ts))) s.0 no_pats, after (after ts))) (Ok x) s.2) [
        | inl y ↦ parts_sound d ts s.0 x c (mark_kind mark.OpenParen (after (after ts)) y.0) y.1
        | inr y ↦ rw (← ok_is (on_case (till (here ts) (here (after ts))) s.0 no_pats, after (after ts)) x y.1) ((c, refl, refl), λ le. omega (arith, le))
      ]

  literal_sound : (d : ℕ) (ts : Toks) (x : Pat × Toks) → literal_pattern_with ts ≡ Ok x → Spelled most pattern d x.0 ts x.1
  unfolding literal_pattern_with
  literal_sound d ts x e = elim (some_or (truth_at ts) _ _ _ e) [
    | inl b ↦ rw (← ok_is (on_truth (here ts) b.0, after ts) x b.2) ((b.1, refl, refl), λ le. omega (arith, le))
    | inr y ↦ elim (some_or (number_at ts) _ _ _ y.1) [
      | inl n ↦ rw (← ok_is (on_number (here ts) false n.0, after ts) x n.2) ((n.1, refl, refl), λ le. omega (arith, le))
      | inr z ↦ (let n = some_kept (negative_at false ts) _ (Syntax (length ts)) x z.1 in rw (← ok_is (on_number (till (here ts) (here (after ts))) true n.0, after (after ts)) x n.2) ((n.1, refl, refl), λ le. omega (arith, le)))
    ]
  ]

  bind_sound : (d : ℕ) (ts : Toks) (x : Pat × Toks) → is_word word.Let ts ≡ true → bind_with k d ts ≡ Ok x → Spelled most pattern d x.0 ts x.1
  unfolding bind_with
  bind_sound d ts x kw e = elim (some_or (name_at (after ts)) (λ n. done (bind (till (here ts) (here (after ts))) n, after (after ts))) (cond (is_mark mark.Dot (after ts)) (k let_pattern d (after ts) >>= λ p. done (bind_case (till (here ts) (let_pat_span p.0)) p.0, p.1)) (syntax_at (after ts))) (Ok x) e) [
    | inl n ↦ rw (← ok_is (bind (till (here ts) (here (after ts))) n.0, after (after ts)) x n.2) ((word_kind word.Let ts kw, n.1, refl, refl), λ le. omega (arith, le))
    | inr y ↦ (
        let q = kept (is_mark mark.Dot (after ts)) (k let_pattern d (after ts) >>= λ p. done (bind_case (till (here ts) (let_pat_span p.0)) p.0, p.1)) (Syntax (length (after ts))) x y.1 in
        let b = bind_ok (k let_pattern d (after ts)) (λ p. done (bind_case (till (here ts) (let_pat_span p.0)) p.0, p.1)) x q.1 in
        let s = snd let_pattern d (after ts) b.0 b.1 in
        rw (← ok_is (bind_case (till (here ts) (let_pat_span b.0.0)) b.0.0, b.0.1) x b.2) ((word_kind word.Let ts kw, s.0, dot_case b.0.0 (after ts) b.0.1 s.0 (mark_kind mark.Dot (after ts) q.0), refl), s.1))
  ]

  pattern_sound : (d : ℕ) (ts : Toks) (x : Pat × Toks) → pattern_with most k d ts ≡ Ok x → Spelled most pattern d x.0 ts x.1
  unfolding pattern_with
  pattern_sound d ts x e = elim (chosen (is_mark mark.Underscore ts) _ _ _ e) [
    | inl y ↦ rw (← ok_is (any (here ts), after ts) x y.1) ((mark_kind mark.Underscore ts y.0, refl, refl), λ le. omega (arith, le))
    | inr y ↦ elim (chosen (is_word word.Let ts) _ _ _ y.1) [
      | inl z ↦ bind_sound d ts x z.0 z.1
      | inr z ↦ elim (chosen (is_mark mark.Dot ts) _ _ _ z.1) [
        | inl u ↦ case_sound d ts x u.0 u.1
        | inr u ↦ literal_sound d ts x u.1
      ]
    ]
  ]

  patterns_sound : (found : List Pat) (d : ℕ) (ts : Toks) (x : List Pat × Toks) → patterns_with most k found d ts ≡ Ok x → Spelled most (patterns_on found) d x.0 ts x.1
  unfolding patterns_with pats_in
  patterns_sound found d ts x e =
      let a = bind_ok (pattern_with most k d ts) (λ p. cond (is_mark mark.Comma p.1) (k (patterns_on (found ++ p.0 ∷ [])) d (after p.1)) (done (found ++ p.0 ∷ [], p.1))) x e in
      let p = pattern_sound d ts a.0 a.1 in
      elim (chosen (is_mark mark.Comma a.0.1) (k (patterns_on (found ++ a.0.0 ∷ [])) d (after a.0.1)) (done (found ++ a.0.0 ∷ [], a.0.1)) (Ok x) a.2) [
        | inl y ↦ (
            let r = snd (patterns_on (found ++ a.0.0 ∷ [])) d (after a.0.1) x y.1 in
            (a.0.0, pat r.0 r.1, r.2 ∙ append_assoc found (a.0.0 ∷ []) (pats_in (pat r.0 r.1)), (a.0.1, p.0, mark_kind mark.Comma a.0.1 y.0, r.3), λ le. let own = p.1 le in let more = r.4 le in omega (arith, own, more)))
        | inr y ↦ rw (← ok_is (found ++ a.0.0 ∷ [], a.0.1) x y.1) (a.0.0, no_pats, refl, p.0, λ le. let own = p.1 le in omega (arith, own))
      ]

  sound_step : Sound most (pattern_step most k)
  unfolding pattern_step
  sound_step let_pattern d ts x e = let_pattern_sound d ts x e
  sound_step (let_patterns_on found) d ts x e = let_patterns_sound found d ts x e
  sound_step pattern d ts x e = pattern_sound d ts x e
  sound_step (patterns_on found) d ts x e = patterns_sound found d ts x e

sound_at : (most fuel : ℕ) → Sound most (read_pattern_at most fuel)
unfolding read_pattern_at
sound_at most zero g d ts x e = absurd cc
sound_at most (suc fuel) g d ts x e = sound_step most (read_pattern_at most fuel) (sound_at most fuel) g d ts x e

-- ---- a pattern that is too deep

module _ (most : ℕ) (k : PatternReader) (snd : Sound most k) (dp : Deeps most k) where
  let_parts_deep : (d : ℕ) (ts : Toks) (m : Name) (n : ℕ) → SpellsCase m ts → kind_at (after (after ts)) ≡ Some (kind.Mark mark.OpenParen) → let_parts_with most k d ts m (after (after (after ts))) ≡ Err (Depth n) → Deep most let_pattern d ts n
  unfolding let_parts_with
  let_parts_deep d ts m n c paren e =
      let us = after (after (after ts)) in
      elim (lim d most (k (let_patterns_on []) (d + 1) us >>= λ ps. cond (is_mark mark.CloseParen ps.1) (done (let_case (till (here ts) (here ps.1)) m (let_pats_of ps.0), after ps.1)) (syntax_at ps.1)) (length us) n e) [
        | inr y ↦ (p_let_case m (p_let_pat gone_let), us, y.1, (c, paren, refl), omega (arith, y.0))
        | inl y ↦ elim (bind_err (k (let_patterns_on []) (d + 1) us) (λ ps. cond (is_mark mark.CloseParen ps.1) (done (let_case (till (here ts) (here ps.1)) m (let_pats_of ps.0), after ps.1)) (syntax_at ps.1)) (Depth n) y.1) [
          | inl z ↦ (let r = dp (let_patterns_on []) (d + 1) us n z in (p_let_case m r.0, r.1, r.2, (c, paren, r.3), omega (arith, r.4)))
          | inr z ↦ absurd (let q = syn (is_mark mark.CloseParen z.0.1) _ (length z.0.1) n z.2 in no_ok _ n q.1)
        ]
      ]

  let_case_deep : (d : ℕ) (ts : Toks) (n : ℕ) → is_mark mark.Dot ts ≡ true → let_case_with most k d ts ≡ Err (Depth n) → Deep most let_pattern d ts n
  unfolding let_case_with
  let_case_deep d ts n dot e =
      let us = after (after (after ts)) in
      let s = some_syn (name_at (after ts)) (λ m. cond (is_mark mark.OpenParen (after (after ts))) (let_parts_with most k d ts m us) (done (let_case (till (here ts) (here (after ts))) m no_let_pats, after (after ts)))) (length (after ts)) n e in
      elim (chosen (is_mark mark.OpenParen (after (after ts))) (let_parts_with most k d ts s.0 us) (done (let_case (till (here ts) (here (after ts))) s.0 no_let_pats, after (after ts))) (Err (Depth n)) s.2) [
        | inl y ↦ let_parts_deep d ts s.0 n (mark_kind mark.Dot ts dot, s.1) (mark_kind mark.OpenParen (after (after ts)) y.0) y.1
        | inr y ↦ absurd (no_ok _ n y.1)
      ]

  let_literal_shallow : (ts : Toks) (n : ℕ) → let_literal_with ts ≡ Err (Depth n) → ⊥
  unfolding let_literal_with
  let_literal_shallow ts n e = elim (some_or (truth_at ts) _ _ _ e) [
    | inl b ↦ no_ok _ n b.2
    | inr y ↦ elim (some_or (number_at ts) _ _ _ y.1) [
      | inl m ↦ no_ok _ n m.2
      | inr z ↦ (let m = some_syn (negative_at false ts) _ (length ts) n z.1 in no_ok _ n m.2)
    ]
  ]

  let_pattern_deep : (d : ℕ) (ts : Toks) (n : ℕ) → let_pattern_with most k d ts ≡ Err (Depth n) → Deep most let_pattern d ts n
  unfolding let_pattern_with
  let_pattern_deep d ts n e = elim (chosen (is_mark mark.Underscore ts) _ _ _ e) [
    | inl y ↦ absurd (no_ok _ n y.1)
    | inr y ↦ elim (chosen (is_mark mark.Dot ts) _ _ _ y.1) [
      | inl z ↦ let_case_deep d ts n z.0 z.1
      | inr z ↦ absurd (elim (some_or (name_at ts) _ _ _ z.1) [
        | inl m ↦ no_ok _ n m.2
        | inr u ↦ let_literal_shallow ts n u.1
      ])
    ]
  ]

  let_patterns_deep : (found : List LetPat) (d : ℕ) (ts : Toks) (n : ℕ) → let_patterns_with most k found d ts ≡ Err (Depth n) → Deep most (let_patterns_on found) d ts n
  unfolding let_patterns_with
  let_patterns_deep found d ts n e = elim (bind_err (let_pattern_with most k d ts) (λ p. cond (is_mark mark.Comma p.1) (k (let_patterns_on (found ++ p.0 ∷ [])) d (after p.1)) (done (found ++ p.0 ∷ [], p.1))) (Depth n) e) [
    | inl y ↦ (let r = let_pattern_deep d ts n y in (p_let_pat r.0, r.1, r.2, r.3, r.4))
    | inr y ↦ (let p = let_pattern_sound most k snd d ts y.0 y.1 in elim (chosen (is_mark mark.Comma y.0.1) (k (let_patterns_on (found ++ y.0.0 ∷ [])) d (after y.0.1)) (done (found ++ y.0.0 ∷ [], y.0.1)) (Err (Depth n)) y.2) [
      | inl z ↦ (let r = dp (let_patterns_on (found ++ y.0.0 ∷ [])) d (after y.0.1) n z.1 in (p_next_let y.0.0 r.0, r.1, r.2, (y.0.1, p.0, mark_kind mark.Comma y.0.1 z.0, r.3), omega (arith, r.4)))
      | inr z ↦ absurd (no_ok _ n z.1)
    ])
  ]

  parts_deep : (d : ℕ) (ts : Toks) (m : Name) (n : ℕ) → SpellsCase m ts → kind_at (after (after ts)) ≡ Some (kind.Mark mark.OpenParen) → parts_with most k d ts m (after (after (after ts))) ≡ Err (Depth n) → Deep most pattern d ts n
  unfolding parts_with
  parts_deep d ts m n c paren e =
      let us = after (after (after ts)) in
      elim (lim d most (k (patterns_on []) (d + 1) us >>= λ ps. cond (is_mark mark.CloseParen ps.1) (done (on_case (till (here ts) (here ps.1)) m (pats_of ps.0), after ps.1)) (syntax_at ps.1)) (length us) n e) [
        | inr y ↦ (p_case m (p_pattern gone_pattern), us, y.1, (c, paren, refl), omega (arith, y.0))
        | inl y ↦ elim (bind_err (k (patterns_on []) (d + 1) us) (λ ps. cond (is_mark mark.CloseParen ps.1) (done (on_case (till (here ts) (here ps.1)) m (pats_of ps.0), after ps.1)) (syntax_at ps.1)) (Depth n) y.1) [
          | inl z ↦ (let r = dp (patterns_on []) (d + 1) us n z in (p_case m r.0, r.1, r.2, (c, paren, r.3), omega (arith, r.4)))
          | inr z ↦ absurd (let q = syn (is_mark mark.CloseParen z.0.1) _ (length z.0.1) n z.2 in no_ok _ n q.1)
        ]
      ]

  case_deep : (d : ℕ) (ts : Toks) (n : ℕ) → is_mark mark.Dot ts ≡ true → case_with most k d ts ≡ Err (Depth n) → Deep most pattern d ts n
  unfolding case_with
  case_deep d ts n dot e =
      let us = after (after (after ts)) in
      let s = some_syn (name_at (after ts)) (λ m. cond (is_mark mark.OpenParen (after (after ts))) (parts_with most k d ts m us) (done (on_case (till (here ts) (here (after ts))) m no_pats, after (after ts)))) (length (after ts)) n e in
      elim (chosen (is_mark mark.OpenParen (after (after ts))) (parts_with most k d ts s.0 us) (done (on_case (till (here ts) (here (after ts))) s.0 no_pats, after (after ts))) (Err (Depth n)) s.2) [
        | inl y ↦ parts_deep d ts s.0 n (mark_kind mark.Dot ts dot, s.1) (mark_kind mark.OpenParen (after (after ts)) y.0) y.1
        | inr y ↦ absurd (no_ok _ n y.1)
      ]

  bind_deeper : (d : ℕ) (ts : Toks) (n : ℕ) → is_word word.Let ts ≡ true → bind_with k d ts ≡ Err (Depth n) → Deep most pattern d ts n
  unfolding bind_with
  bind_deeper d ts n kw e = elim (some_or (name_at (after ts)) (λ m. done (bind (till (here ts) (here (after ts))) m, after (after ts))) (cond (is_mark mark.Dot (after ts)) (k let_pattern d (after ts) >>= λ p. done (bind_case (till (here ts) (let_pat_span p.0)) p.0, p.1)) (syntax_at (after ts))) (Err (Depth n)) e) [
    | inl m ↦ absurd (no_ok _ n m.2)
    | inr y ↦ (
        let q = syn (is_mark mark.Dot (after ts)) (k let_pattern d (after ts) >>= λ p. done (bind_case (till (here ts) (let_pat_span p.0)) p.0, p.1)) (length (after ts)) n y.1 in
        let r = dp let_pattern d (after ts) n (bind_deep (k let_pattern d (after ts)) (λ p. (bind_case (till (here ts) (let_pat_span p.0)) p.0, p.1)) n q.1) in
        (p_bind_case r.0, r.1, r.2, (word_kind word.Let ts kw, r.3), r.4))
  ]

  literal_shallow : (ts : Toks) (n : ℕ) → literal_pattern_with ts ≡ Err (Depth n) → ⊥
  unfolding literal_pattern_with
  literal_shallow ts n e = elim (some_or (truth_at ts) _ _ _ e) [
    | inl b ↦ no_ok _ n b.2
    | inr y ↦ elim (some_or (number_at ts) _ _ _ y.1) [
      | inl m ↦ no_ok _ n m.2
      | inr z ↦ (let m = some_syn (negative_at false ts) _ (length ts) n z.1 in no_ok _ n m.2)
    ]
  ]

  pattern_deep : (d : ℕ) (ts : Toks) (n : ℕ) → pattern_with most k d ts ≡ Err (Depth n) → Deep most pattern d ts n
  unfolding pattern_with
  pattern_deep d ts n e = elim (chosen (is_mark mark.Underscore ts) _ _ _ e) [
    | inl y ↦ absurd (no_ok _ n y.1)
    | inr y ↦ elim (chosen (is_word word.Let ts) _ _ _ y.1) [
      | inl z ↦ bind_deeper d ts n z.0 z.1
      | inr z ↦ elim (chosen (is_mark mark.Dot ts) _ _ _ z.1) [
        | inl u ↦ case_deep d ts n u.0 u.1
        | inr u ↦ absurd (literal_shallow ts n u.1)
      ]
    ]
  ]

  patterns_deep : (found : List Pat) (d : ℕ) (ts : Toks) (n : ℕ) → patterns_with most k found d ts ≡ Err (Depth n) → Deep most (patterns_on found) d ts n
  unfolding patterns_with
  patterns_deep found d ts n e = elim (bind_err (pattern_with most k d ts) (λ p. cond (is_mark mark.Comma p.1) (k (patterns_on (found ++ p.0 ∷ [])) d (after p.1)) (done (found ++ p.0 ∷ [], p.1))) (Depth n) e) [
    | inl y ↦ (let r = pattern_deep d ts n y in (p_pattern r.0, r.1, r.2, r.3, r.4))
    | inr y ↦ (let p = pattern_sound most k snd d ts y.0 y.1 in elim (chosen (is_mark mark.Comma y.0.1) (k (patterns_on (found ++ y.0.0 ∷ [])) d (after y.0.1)) (done (found ++ y.0.0 ∷ [], y.0.1)) (Err (Depth n)) y.2) [
      | inl z ↦ (let r = dp (patterns_on (found ++ y.0.0 ∷ [])) d (after y.0.1) n z.1 in (p_next_pattern y.0.0 r.0, r.1, r.2, (y.0.1, p.0, mark_kind mark.Comma y.0.1 z.0, r.3), omega (arith, r.4)))
      | inr z ↦ absurd (no_ok _ n z.1)
    ])
  ]

  deep_step : Deeps most (pattern_step most k)
  unfolding pattern_step
  deep_step let_pattern d ts n e = let_pattern_deep d ts n e
  deep_step (let_patterns_on found) d ts n e = let_patterns_deep found d ts n e
  deep_step pattern d ts n e = pattern_deep d ts n e
  deep_step (patterns_on found) d ts n e = patterns_deep found d ts n e

deep_at : (most fuel : ℕ) → Deeps most (read_pattern_at most fuel)
unfolding read_pattern_at
deep_at most zero g d ts n e = absurd cc
deep_at most (suc fuel) g d ts n e = deep_step most (read_pattern_at most fuel) (sound_at most fuel) (deep_at most fuel) g d ts n e

-- ---- the fuel does not matter, and a larger limit changes nothing but for Depth

module _ (loose : Type 0) (most most' : ℕ) (limits : (most ≡ most') ⊎ (loose × (most ≤ most'))) (k k' : PatternReader) (snd : Sound most k) (n : ℕ) (agree : (g : PatternGoal) (d : ℕ) (ts : Toks) → length ts < n → Near loose (k g d ts) (k' g d ts)) where
  near_let_case : (d : ℕ) (ts : Toks) → length ts ≤ n → is_mark mark.Dot ts ≡ true → Near loose (let_case_with most k d ts) (let_case_with most' k' d ts)
  unfolding let_case_with let_parts_with
  near_let_case d ts le dot = near_some loose (name_at (after ts)) _ _ _ _ (λ x e. near_cond loose (is_mark mark.OpenParen (after (after ts))) _ _ _ _
      (λ y. near_limit loose most most' limits d _ _ _ (λ lt. near_bind loose _ _ _ _ (agree (let_patterns_on []) (d + 1) (after (after (after ts))) (let a = after_short ts _ (mark_kind mark.Dot ts dot) in let b = after_le (after ts) in let c = after_le (after (after ts)) in omega arith)) (λ x r. same refl))) (λ y. same refl)) (λ e. same refl)

  near_let_pattern : (d : ℕ) (ts : Toks) → length ts ≤ n → Near loose (let_pattern_with most k d ts) (let_pattern_with most' k' d ts)
  unfolding let_pattern_with
  near_let_pattern d ts le = near_cond loose (is_mark mark.Underscore ts) _ _ _ _ (λ y. same refl) (λ y. near_cond loose (is_mark mark.Dot ts) _ _ _ _ (λ y. near_let_case d ts le y) (λ y. same refl))

  near_let_patterns : (found : List LetPat) (d : ℕ) (ts : Toks) → length ts ≤ n → Near loose (let_patterns_with most k found d ts) (let_patterns_with most' k' found d ts)
  unfolding let_patterns_with
  near_let_patterns found d ts le = near_bind loose _ _ _ _ (near_let_pattern d ts le) (λ x r. near_cond loose (is_mark mark.Comma x.1) _ _ _ _
      (λ y. agree (let_patterns_on (found ++ x.0 ∷ [])) d (after x.1) (let p = let_pattern_sound most k snd d ts x r in let a = let_pat_short x.0 ts x.1 p.0 in let b = after_le x.1 in omega arith)) (λ y. same refl))

  near_case : (d : ℕ) (ts : Toks) → length ts ≤ n → is_mark mark.Dot ts ≡ true → Near loose (case_with most k d ts) (case_with most' k' d ts)
  unfolding case_with parts_with
  near_case d ts le dot = near_some loose (name_at (after ts)) _ _ _ _ (λ x e. near_cond loose (is_mark mark.OpenParen (after (after ts))) _ _ _ _
      (λ y. near_limit loose most most' limits d _ _ _ (λ lt. near_bind loose _ _ _ _ (agree (patterns_on []) (d + 1) (after (after (after ts))) (let a = after_short ts _ (mark_kind mark.Dot ts dot) in let b = after_le (after ts) in let c = after_le (after (after ts)) in omega arith)) (λ x r. same refl))) (λ y. same refl)) (λ e. same refl)

  near_bound : (d : ℕ) (ts : Toks) → length ts ≤ n → is_word word.Let ts ≡ true → Near loose (bind_with k d ts) (bind_with k' d ts)
  unfolding bind_with
  near_bound d ts le kw = near_some loose (name_at (after ts)) _ _ _ _ (λ x e. same refl) (λ e. near_cond loose (is_mark mark.Dot (after ts)) _ _ _ _
      (λ y. near_bind loose _ _ _ _ (agree let_pattern d (after ts) (let a = after_short ts _ (word_kind word.Let ts kw) in omega arith)) (λ x r. same refl)) (λ y. same refl))

  near_pattern : (d : ℕ) (ts : Toks) → length ts ≤ n → Near loose (pattern_with most k d ts) (pattern_with most' k' d ts)
  unfolding pattern_with
  near_pattern d ts le = near_cond loose (is_mark mark.Underscore ts) _ _ _ _ (λ y. same refl) (λ y. near_cond loose (is_word word.Let ts) _ _ _ _ (λ y. near_bound d ts le y)
      (λ y. near_cond loose (is_mark mark.Dot ts) _ _ _ _ (λ y. near_case d ts le y) (λ y. same refl)))

  near_patterns : (found : List Pat) (d : ℕ) (ts : Toks) → length ts ≤ n → Near loose (patterns_with most k found d ts) (patterns_with most' k' found d ts)
  unfolding patterns_with
  near_patterns found d ts le = near_bind loose _ _ _ _ (near_pattern d ts le) (λ x r. near_cond loose (is_mark mark.Comma x.1) _ _ _ _
      (λ y. agree (patterns_on (found ++ x.0 ∷ [])) d (after x.1) (let p = pattern_sound most k snd d ts x r in let a = pat_short x.0 ts x.1 p.0 in let b = after_le x.1 in omega arith)) (λ y. same refl))

  near_step : (g : PatternGoal) (d : ℕ) (ts : Toks) → length ts ≤ n → Near loose (pattern_step most k g d ts) (pattern_step most' k' g d ts)
  unfolding pattern_step
  near_step let_pattern d ts le = near_let_pattern d ts le
  near_step (let_patterns_on found) d ts le = near_let_patterns found d ts le
  near_step pattern d ts le = near_pattern d ts le
  near_step (patterns_on found) d ts le = near_patterns found d ts le

fuel_same : (most f f' : ℕ) (g : PatternGoal) (d : ℕ) (ts : Toks) → length ts < f → length ts < f' → read_pattern_at most f g d ts ≡ read_pattern_at most f' g d ts
unfolding read_pattern_at
fuel_same most zero f' g d ts lf lf' = absurd (omega arith)
fuel_same most (suc f) zero g d ts lf lf' = absurd (omega arith)
fuel_same most (suc f) (suc f') g d ts lf lf' =
    equal _ _ (near_step ⊥ most most (inl refl) (read_pattern_at most f) (read_pattern_at most f') (sound_at most f) (length ts) (λ g' d' us lt. same (fuel_same most f f' g' d' us (omega arith) (omega arith))) g d ts (omega arith))

-- One step reads, and the rest is read by the whole.
pub read_pattern_is : (most : ℕ) (g : PatternGoal) (d : ℕ) (ts : Toks) → read_pattern most g d ts ≡ pattern_step most (read_pattern most) g d ts
unfolding read_pattern read_pattern_at
read_pattern_is most g d ts =
    equal _ _ (near_step ⊥ most most (inl refl) (read_pattern_at most (length ts)) (read_pattern most) (sound_at most (length ts)) (length ts) (λ g' d' us lt. same (fuel_same most (length ts) (suc (length us)) g' d' us lt (omega arith))) g d ts (omega arith))

near_at : (loose : Type 0) (most most' : ℕ) (limits : (most ≡ most') ⊎ (loose × (most ≤ most'))) (f : ℕ) (g : PatternGoal) (d : ℕ) (ts : Toks) → Near loose (read_pattern_at most f g d ts) (read_pattern_at most' f g d ts)
unfolding read_pattern_at
near_at loose most most' limits zero g d ts = same refl
near_at loose most most' limits (suc f) g d ts = near_step loose most most' limits (read_pattern_at most f) (read_pattern_at most' f) (sound_at most f) (length ts) (λ g' d' us lt. near_at loose most most' limits f g' d' us) g d ts (omega arith)

-- ---- the whole

-- a list of patterns that is spelled within the limit is read
pub pats_are : (most : ℕ) (ps : Pats) (d : ℕ) (from to : Toks) → SpellsPats ps from to → is_mark mark.OpenParen to ≡ false → is_mark mark.Comma to ≡ false → d + nest_pats ps ≤ most → read_pattern most (patterns_on []) d from ≡ Ok (pats_in ps, to)
pats_are most = all_are most (read_pattern most) (read_pattern_is most)

-- and one that is read is spelled, and within the limit
pub pats_sound : (most d : ℕ) (ts : Toks) (x : List Pat × Toks) → read_pattern most (patterns_on []) d ts ≡ Ok x → Spelled most (patterns_on []) d x.0 ts x.1
unfolding read_pattern
pats_sound most d ts x e = sound_at most (suc (length ts)) (patterns_on []) d ts x e

pub pats_deep : (most d : ℕ) (ts : Toks) (n : ℕ) → read_pattern most (patterns_on []) d ts ≡ Err (Depth n) → Deep most (patterns_on []) d ts n
unfolding read_pattern
pats_deep most d ts n e = deep_at most (suc (length ts)) (patterns_on []) d ts n e

-- with a larger limit they are read alike
pub pats_near : (loose : Type 0) (most most' : ℕ) (limits : (most ≡ most') ⊎ (loose × (most ≤ most'))) (d : ℕ) (ts : Toks) → Near loose (read_pattern most (patterns_on []) d ts) (read_pattern most' (patterns_on []) d ts)
unfolding read_pattern
pats_near loose most most' limits d ts = near_at loose most most' limits (suc (length ts)) (patterns_on []) d ts
