-- What patterns become, as the rules see it.
use Rattle.std.specs.Prelude.{List, [], ◌∷◌, ◌++◌, map, Ok, Err}
use Rattle.own_tree.specs.declared.place.Ty.{Ty}
use Rattle.own_tree.specs.declared.span.Span.{Span}
use Rattle.own_tree.specs.Source.{LetPat, LetPats, Pat, Pats}
use Rattle.own_tree.specs.TypedSource.{TPat, TPats, pat}
use Rattle.own_tree.specs.TypedView.{pattern_view, pats_of}
use Rattle.own_judging.specs.Made.{Made, Found}
use Rattle.own_judged.specs.Names.{Local, Scope}
use Rattle.own_judged.specs.Patterns.{How, Matched, let_pattern, let_patterns, pattern_of, patterns_of, alternatives}
use Rattle.own_judged.specs.Text.{Text}
use Rattle.own_scope.specs.Locals.{local_of}
use Rattle.own_patterns.specs.declared.matched.Matched.{Matched as Held}
use Rattle.own_patterns.specs.declared.matched.MatchedList.{MatchedList}

abbrev pub matched_of : Held → Matched
matched_of m = (pattern_view m.pattern, map local_of m.locals.items)

abbrev pub list_of : MatchedList → TPats × List Local
list_of m = (pats_of (map pattern_view m.patterns.items), map local_of m.locals.items)

-- patterns before others
abbrev pub before : List TPat → TPats → TPats
before [] qs = qs
before (p ∷ ps) qs = pat p (before ps qs)

-- what patterns become behind those that became these
abbrev pub behind : List TPat → List Local → Found (TPats × List Local) → Found (TPats × List Local)
behind ps ls (Ok r) = Ok ((before ps r.0.0, ls ++ r.0.1), r.1)
behind ps ls (Err f) = Err f

module _ (text : Text) (scope : Scope) (how : How) where
  unfoldable pub let_run : LetPat → Ty → Made → Found Matched
  let_run p ty s = (let_pattern text scope how p ty).run s

  unfoldable pub let_parts_run : Span → LetPats → List Ty → Made → Found (TPats × List Local)
  let_parts_run at ps tys s = (let_patterns text scope how at ps tys).run s

  unfoldable pub pattern_run : Pat → Ty → Made → Found Matched
  pattern_run p ty s = (pattern_of text scope how p ty).run s

  unfoldable pub parts_run : Span → Pats → List Ty → Made → Found (TPats × List Local)
  parts_run at ps tys s = (patterns_of text scope how at ps tys).run s

  unfoldable pub alternatives_run : Pats → Ty → Made → Found (TPats × List Local)
  alternatives_run ps ty s = (alternatives text scope how ps ty).run s
