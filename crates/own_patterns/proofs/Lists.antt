-- Patterns one after the other.
use Rattle.std.proofs.Common.{◌≡◌, ℕ, ◌+◌, ◌<◌, ◌≤◌, List, [], ◌∷◌, ◌++◌, length, get_or, drop, map, Ok, Err, refl, sym, ap, ◌∙◌, append_assoc, append-nil, arith, length-drop}
use Rattle.std.proofs.lemmas.List.{drop_all, drop_more}
use Rattle.own_tree.specs.declared.place.Ty.{Ty}
use Rattle.own_tree.specs.declared.place.Ty.TheVariants as type
use Rattle.own_tree.specs.declared.span.Span.{Span}
use Rattle.own_tree.specs.declared.tree.LetPattern.{LetPattern}
use Rattle.own_tree.specs.declared.tree.Pattern.{Pattern}
use Rattle.own_tree.specs.Source as tree
use Rattle.own_tree.specs.Source.{LetPat, LetPats, Pat, Pats}
use Rattle.own_tree.specs.View as view
use Rattle.own_tree.specs.TypedSource.{TPat, TPats, no_pats, pat}
use Rattle.own_tree.specs.TypedView.{pats_of}
use Rattle.own_shapes.specs.Types.{Types}
use Rattle.own_calls.specs.declared.error.TypeError.{TypeError}
use Rattle.own_calls.specs.declared.error.TypeError.TheVariants as type_error
use Rattle.own_judging.specs.Judged.{after}
use Rattle.own_judging.specs.Made.{Made, Fault, Found, broken}
use Rattle.own_judged.specs.Names.{Local, Scope}
use Rattle.own_judged.specs.Patterns.{How, Matched}
use Rattle.own_judged.specs.Refusals.{Stops}
use Rattle.own_judged.specs.Text.{Text}
use Rattle.own_patterns.specs.View.{before, behind, let_run, let_parts_run, pattern_run, parts_run, alternatives_run}

abbrev All : Type 0
All = TPats × List Local

-- one pattern and then others
abbrev pub joined : Found Matched → (Made → Found All) → Found All
joined one rest = after one (λ p m. after (rest m) (λ ps m'. Ok ((pat p.0 ps.0, p.1 ++ ps.1), m')))

before_more : (ps : List TPat) (p : TPat) (qs : TPats) → before ps (pat p qs) ≡ before (ps ++ p ∷ []) qs
before_more [] p qs = refl
before_more (x ∷ ps) p qs = ap (pat x) (before_more ps p qs)

before_none : (ps : List TPat) → before ps no_pats ≡ pats_of ps
before_none [] = refl
before_none (p ∷ ps) = ap (pat p) (before_none ps)

-- behind some, and one more
one_more : (ps : List TPat) (ls : List Local) (x : Matched) (found : Found All)
    → behind ps ls (after found (λ qs m'. Ok ((pat x.0 qs.0, x.1 ++ qs.1), m'))) ≡ behind (ps ++ x.0 ∷ []) (ls ++ x.1) found
one_more ps ls x (Ok r) = (λ i. Ok ((before_more ps x.0 r.0.0 i, sym (append_assoc ls x.1 r.0.1) i), r.1))
one_more ps ls x (Err f) = refl

pub step : (ps : List TPat) (ls : List Local) (one : Found Matched) (rest : Made → Found All) (x : Matched) (m : Made)
    → one ≡ Ok (x, m) → behind ps ls (joined one rest) ≡ behind (ps ++ x.0 ∷ []) (ls ++ x.1) (rest m)
step ps ls one rest x m is = ap (λ r. behind ps ls (joined r rest)) is ∙ one_more ps ls x (rest m)

-- behind the last one
pub ended : (ps : List TPat) (ls : List Local) (m : Made) → behind ps ls (Ok ((no_pats, []), m)) ≡ Ok ((pats_of ps, ls), m)
ended ps ls m = (λ i. Ok ((before_none ps i, append-nil ls i), m))

-- one that is refused
pub refused : (types : Types) (ps : List TPat) (ls : List Local) (one : Found Matched) (rest : Made → Found All) (X : Found All) (e : TypeError)
    → Stops types e one → behind ps ls (joined one rest) ≡ X → Stops types e X
refused types ps ls one rest X (type_error.BadType code at) stopped is =
    sym is ∙ ap (λ r. behind ps ls (joined r rest)) stopped
refused types ps ls one rest X (type_error.Uncovered at form) stopped is =
    (stopped.0, stopped.1, sym is ∙ ap (λ r. behind ps ls (joined r rest)) stopped.2, stopped.3)
refused types ps ls one rest X type_error.Memory stopped is = tt

-- ---- what is left of lists

pub let_left : (ps : List LetPattern) (i : ℕ) (p : LetPattern) → i < length ps → p ≡ get_or ps i p
    → view.let_pats_of (map view.let_pattern_view (drop i ps))
    ≡ tree.let_pat (view.let_pattern_view p) (view.let_pats_of (map view.let_pattern_view (drop (i + 1) ps)))
let_left ps i p lt is =
    ap (λ l. view.let_pats_of (map view.let_pattern_view l)) (drop_more ps i p lt ∙ ap (λ x. x ∷ drop (i + 1) ps) (sym is))

pub left : (ps : List Pattern) (i : ℕ) (p : Pattern) → i < length ps → p ≡ get_or ps i p
    → view.pats_of (map view.pattern_view (drop i ps))
    ≡ tree.pat (view.pattern_view p) (view.pats_of (map view.pattern_view (drop (i + 1) ps)))
left ps i p lt is =
    ap (λ l. view.pats_of (map view.pattern_view l)) (drop_more ps i p lt ∙ ap (λ x. x ∷ drop (i + 1) ps) (sym is))

-- ---- the rules on lists

module _ (text : Text) (scope : Scope) (how : How) where
  pub let_parts_next : (at : Span) (p : LetPat) (ps : LetPats) (ty : Ty) (tys : List Ty) (s : Made)
      → let_parts_run text scope how at (tree.let_pat p ps) (ty ∷ tys) s
      ≡ joined (let_run text scope how p ty s) (let_parts_run text scope how at ps tys)
  unfolding let_run let_parts_run
  let_parts_next at p ps ty tys s = refl

  pub parts_next : (at : Span) (p : Pat) (ps : Pats) (ty : Ty) (tys : List Ty) (s : Made)
      → parts_run text scope how at (tree.pat p ps) (ty ∷ tys) s
      ≡ joined (pattern_run text scope how p ty s) (parts_run text scope how at ps tys)
  unfolding pattern_run parts_run
  parts_next at p ps ty tys s = refl

  pub alternatives_next : (p : Pat) (ps : Pats) (ty : Ty) (s : Made)
      → alternatives_run text scope how (tree.pat p ps) ty s
      ≡ joined (pattern_run text scope how p ty s) (alternatives_run text scope how ps ty)
  unfolding pattern_run alternatives_run
  alternatives_next p ps ty s = refl

  -- more parts than payloads
  pub let_parts_long : (at : Span) (p : LetPat) (ps : LetPats) (s : Made)
      → let_parts_run text scope how at (tree.let_pat p ps) [] s ≡ Err (broken 21 at)
  unfolding let_parts_run
  let_parts_long at p ps s = refl

  pub parts_long : (at : Span) (p : Pat) (ps : Pats) (s : Made)
      → parts_run text scope how at (tree.pat p ps) [] s ≡ Err (broken 21 at)
  unfolding parts_run
  parts_long at p ps s = refl

  -- fewer
  pub let_parts_short : (at : Span) (ty : Ty) (tys : List Ty) (s : Made)
      → let_parts_run text scope how at tree.no_let_pats (ty ∷ tys) s ≡ Err (broken 21 at)
  unfolding let_parts_run
  let_parts_short at ty tys s = refl

  pub parts_short : (at : Span) (ty : Ty) (tys : List Ty) (s : Made)
      → parts_run text scope how at tree.no_pats (ty ∷ tys) s ≡ Err (broken 21 at)
  unfolding parts_run
  parts_short at ty tys s = refl

  -- as many
  pub let_parts_end : (at : Span) (s : Made) → let_parts_run text scope how at tree.no_let_pats [] s ≡ Ok ((no_pats, []), s)
  unfolding let_parts_run
  let_parts_end at s = refl

  pub parts_end : (at : Span) (s : Made) → parts_run text scope how at tree.no_pats [] s ≡ Ok ((no_pats, []), s)
  unfolding parts_run
  parts_end at s = refl

  pub alternatives_end : (ty : Ty) (s : Made) → alternatives_run text scope how tree.no_pats ty s ≡ Ok ((no_pats, []), s)
  unfolding alternatives_run
  alternatives_end ty s = refl

-- ---- turns of a loop over patterns, behind those that were found

module _ (ps : List TPat) (ls : List Local) (now : Found All) (X : Found All) where
  pub turn : (more : List TPat) (names : List Local) (one : Found Matched) (rest : Made → Found All) (x : Matched) (s : Made)
      → now ≡ joined one rest → one ≡ Ok (x, s) → more ≡ ps ++ x.0 ∷ [] → names ≡ ls ++ x.1
      → behind ps ls now ≡ X → behind more names (rest s) ≡ X
  turn more names one rest x s is ran at_more at_names before =
      (λ i. behind (at_more i) (at_names i) (rest s)) ∙ sym (step ps ls one rest x s ran)
      ∙ ap (behind ps ls) (sym is) ∙ before

  pub stopped : (types : Types) (one : Found Matched) (rest : Made → Found All) (e : TypeError)
      → now ≡ joined one rest → Stops types e one → behind ps ls now ≡ X → Stops types e X
  stopped types one rest e is why before = refused types ps ls one rest X e why (ap (behind ps ls) (sym is) ∙ before)

  pub failed : (f : Fault) → now ≡ Err f → behind ps ls now ≡ X → X ≡ Err f
  failed f is before = sym before ∙ ap (behind ps ls) is

  pub finished : (s : Made) → now ≡ Ok ((no_pats, []), s) → behind ps ls now ≡ X → X ≡ Ok ((pats_of ps, ls), s)
  finished s is before = sym before ∙ ap (behind ps ls) is ∙ ended ps ls s

none_left : {A : Type 0} (xs : List A) (n : ℕ) → length xs ≤ n → drop n xs ≡ []
none_left xs n past = drop_all n xs past

some_left : {A : Type 0} (xs : List A) (n : ℕ) → n < length xs → 0 < length (drop n xs)
some_left xs n lt = omega (arith, length-drop n xs)

module _ (text : Text) (scope : Scope) (how : How) (at : Span) (tys : List Ty) (n : ℕ) (s : Made) where
  let_one_too_many : (ps : List LetPattern) → 0 < length ps
      → let_parts_run text scope how at (view.let_pats_of (map view.let_pattern_view ps)) [] s ≡ Err (broken 21 at)
  let_one_too_many [] some = absurd (omega arith)
  let_one_too_many (p ∷ ps) some =
      let_parts_long text scope how at (view.let_pattern_view p) (view.let_pats_of (map view.let_pattern_view ps)) s

  one_too_many : (ps : List Pattern) → 0 < length ps
      → parts_run text scope how at (view.pats_of (map view.pattern_view ps)) [] s ≡ Err (broken 21 at)
  one_too_many [] some = absurd (omega arith)
  one_too_many (p ∷ ps) some =
      parts_long text scope how at (view.pattern_view p) (view.pats_of (map view.pattern_view ps)) s

  module _ (ps : List LetPattern) where
    abbrev pub let_here : Found All
    let_here = let_parts_run text scope how at (view.let_pats_of (map view.let_pattern_view (drop n ps))) (drop n tys) s

    pub let_now : (p : LetPattern) (ty : Ty) → n < length ps → p ≡ get_or ps n p → n < length tys
        → let_here ≡ joined (let_run text scope how (view.let_pattern_view p) (get_or tys n ty) s)
        (let_parts_run text scope how at (view.let_pats_of (map view.let_pattern_view (drop (n + 1) ps))) (drop (n + 1) tys))
    let_now p ty lt is within =
        (λ i. let_parts_run text scope how at (let_left ps n p lt is i) (drop_more tys n ty within i) s)
        ∙ let_parts_next text scope how at (view.let_pattern_view p)
        (view.let_pats_of (map view.let_pattern_view (drop (n + 1) ps))) (get_or tys n ty) (drop (n + 1) tys) s

    pub let_long : n < length ps → length tys ≤ n → let_here ≡ Err (broken 21 at)
    let_long lt past =
        (λ i. let_parts_run text scope how at (view.let_pats_of (map view.let_pattern_view (drop n ps))) (none_left tys n past i) s)
        ∙ let_one_too_many (drop n ps) (some_left ps n lt)

    pub let_short : length ps ≤ n → n < length tys → let_here ≡ Err (broken 21 at)
    let_short past within =
        (λ i. let_parts_run text scope how at (view.let_pats_of (map view.let_pattern_view (none_left ps n past i))) (drop_more tys n type.Int within i) s)
        ∙ let_parts_short text scope how at (get_or tys n type.Int) (drop (n + 1) tys) s

    pub let_end : length ps ≤ n → length tys ≤ n → let_here ≡ Ok ((no_pats, []), s)
    let_end past over =
        (λ i. let_parts_run text scope how at (view.let_pats_of (map view.let_pattern_view (none_left ps n past i))) (none_left tys n over i) s)
        ∙ let_parts_end text scope how at s

  module _ (ps : List Pattern) where
    abbrev pub here : Found All
    here = parts_run text scope how at (view.pats_of (map view.pattern_view (drop n ps))) (drop n tys) s

    pub now_is : (p : Pattern) (ty : Ty) → n < length ps → p ≡ get_or ps n p → n < length tys
        → here ≡ joined (pattern_run text scope how (view.pattern_view p) (get_or tys n ty) s)
        (parts_run text scope how at (view.pats_of (map view.pattern_view (drop (n + 1) ps))) (drop (n + 1) tys))
    now_is p ty lt is within =
        (λ i. parts_run text scope how at (left ps n p lt is i) (drop_more tys n ty within i) s)
        ∙ parts_next text scope how at (view.pattern_view p)
        (view.pats_of (map view.pattern_view (drop (n + 1) ps))) (get_or tys n ty) (drop (n + 1) tys) s

    pub too_long : n < length ps → length tys ≤ n → here ≡ Err (broken 21 at)
    too_long lt past =
        (λ i. parts_run text scope how at (view.pats_of (map view.pattern_view (drop n ps))) (none_left tys n past i) s)
        ∙ one_too_many (drop n ps) (some_left ps n lt)

    pub too_short : length ps ≤ n → n < length tys → here ≡ Err (broken 21 at)
    too_short past within =
        (λ i. parts_run text scope how at (view.pats_of (map view.pattern_view (none_left ps n past i))) (drop_more tys n type.Int within i) s)
        ∙ parts_short text scope how at (get_or tys n type.Int) (drop (n + 1) tys) s

    pub at_end : length ps ≤ n → length tys ≤ n → here ≡ Ok ((no_pats, []), s)
    at_end past over =
        (λ i. parts_run text scope how at (view.pats_of (map view.pattern_view (none_left ps n past i))) (none_left tys n over i) s)
        ∙ parts_end text scope how at s

module _ (text : Text) (scope : Scope) (how : How) (ty : Ty) (n : ℕ) (s : Made) (ps : List Pattern) where
  abbrev pub alternatives_here : Found All
  alternatives_here = alternatives_run text scope how (view.pats_of (map view.pattern_view (drop n ps))) ty s

  pub alternatives_now : (p : Pattern) → n < length ps → p ≡ get_or ps n p
      → alternatives_here ≡ joined (pattern_run text scope how (view.pattern_view p) ty s)
      (alternatives_run text scope how (view.pats_of (map view.pattern_view (drop (n + 1) ps))) ty)
  alternatives_now p lt is =
      (λ i. alternatives_run text scope how (left ps n p lt is i) ty s)
      ∙ alternatives_next text scope how (view.pattern_view p) (view.pats_of (map view.pattern_view (drop (n + 1) ps))) ty s

  pub alternatives_over : length ps ≤ n → alternatives_here ≡ Ok ((no_pats, []), s)
  alternatives_over past =
      (λ i. alternatives_run text scope how (view.pats_of (map view.pattern_view (none_left ps n past i))) ty s)
      ∙ alternatives_end text scope how ty s
