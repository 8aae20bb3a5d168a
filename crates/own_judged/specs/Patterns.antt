-- The patterns of a `switch`: what they match, and what they bind (SE-0432).
use Rattle.std.specs.Prelude.{ℕ, suc, Bool, true, false, List, [], ◌∷◌, ◌++◌, map, Option, Some, None}
use Rattle.own_tree.specs.declared.place.Mode.{Mode}
use Rattle.own_tree.specs.declared.place.Mode.TheVariants as mode
use Rattle.own_tree.specs.declared.place.Ty.{Ty}
use Rattle.own_tree.specs.declared.place.Ty.TheVariants as type
use Rattle.own_tree.specs.declared.span.Span.{Span}
use Rattle.own_tree.specs.declared.tree.Name.{Name}
use Rattle.own_tree.specs.declared.typed.TypedPath.{TypedPath}
use Rattle.own_tree.specs.Source as tree
use Rattle.own_tree.specs.Source.{LetPat, LetPats, Pat, Pats}
use Rattle.own_tree.specs.TypedSource as typed
use Rattle.own_tree.specs.TypedSource.{TPat, TPats, TWhen, TClauses}
use Rattle.own_shapes.specs.Types.{is_copyable, is_empty}
use Rattle.own_judging.specs.Judged.{Judged}
use Rattle.own_judged.specs.Closures.{binding_of}
use Rattle.own_judged.specs.Codes.{T11, T14, T21}
use Rattle.own_judged.specs.Conditions.{true_that, one_type, at_most}
use Rattle.own_judged.specs.Names.{Local, Scope, local_of, case_of_type}
use Rattle.own_judged.specs.Rules.{yields, ◌>>=◌, ◌>>◌, holding, the, refused, declared}
use Rattle.own_judged.specs.Text.{Text}
use Rattle.own_judged.specs.Values.{largest, signed}

-- what a pattern becomes, with the names that it binds
abbrev pub Matched : Type 0
Matched = TPat × List Local

-- the parts of a case, by the types of its payloads
abbrev pub Parts : Type 1
Parts = List Ty → Judged (TPats × List Local)

-- ---- how a clause takes the subject

pub data How : Type 0 where
  -- what a pattern binds is a copy, or moves
  owned : How
  -- it lies in the subject where it is not copyable
  lent : How
  -- it lies in the subject for the guard, and is moved for the body
  twice : How

-- by whether the subject is copyable, and which place it is
abbrev pub how_taken : (copyable : Bool) → Option TypedPath → How
how_taken true p = owned
how_taken false (Some p) = lent
how_taken false None = twice

-- where the clause has no guard
abbrev pub unguarded : How → How
unguarded owned = owned
unguarded lent = lent
unguarded twice = owned

-- the owned one of two bindings has the next number
abbrev pub next_local : Local → Local
next_local l = record l { binding = suc l.binding }

-- the names that the body of a clause with a guard sees
abbrev pub moved : How → List Local → List Local
moved owned ls = ls
moved lent ls = ls
moved twice ls = map next_local ls

-- ---- single patterns

abbrev pub number_pattern : Span → (negative : Bool) → ℕ → Ty → Judged Matched
number_pattern s negative n ty = do
  holding (one_type ty type.Int) T21 s
  holding (at_most n (largest negative)) T14 s
  yields (typed.of_number (signed negative n), [])

abbrev pub truth_pattern : Span → Bool → Ty → Judged Matched
truth_pattern s b ty = do
  holding (one_type ty type.Bool) T21 s
  yields (typed.of_truth b, [])

-- as many parts as the case has payloads
abbrev pub no_parts : Span → Parts
no_parts s [] = yields (typed.no_pats, [])
no_parts s (ty ∷ tys) = refused T21 s

abbrev pub and_part : Span → (Ty → Judged Matched) → Parts → Parts
and_part s first rest [] = refused T21 s
and_part s first rest (ty ∷ tys) = do
  p ← first ty
  ps ← rest tys
  yields (typed.pat p.0 ps.0, p.1 ++ ps.1)

-- what is borrowed of a noncopyable subject is copied where it is copyable
abbrev pub lent_mode : (copyable : Bool) → Mode
lent_mode true = mode.PatternOwned
lent_mode false = mode.PatternBorrowed

abbrev pub pattern_binding : Scope → Mode → Name → Ty → Judged ℕ
pattern_binding scope m n ty = declared (binding_of n.text ty m n.span scope.body)

module _ (text : Text) where
  abbrev pub name_pattern : Scope → How → Name → Ty → Judged Matched
  name_pattern scope owned n ty = do
    x ← pattern_binding scope mode.PatternOwned n ty
    yields (typed.bind x, local_of n x ty)
  name_pattern scope lent n ty = do
    x ← pattern_binding scope (lent_mode (is_copyable text.types ty)) n ty
    yields (typed.bind x, local_of n x ty)
  name_pattern scope twice n ty = do
    x ← pattern_binding scope mode.PatternBorrowed n ty
    y ← pattern_binding scope mode.PatternOwned n ty
    yields (typed.bind x, local_of n x ty)

  abbrev pub case_pattern : Span → Name → Ty → Parts → Judged Matched
  case_pattern s n ty parts = do
    holding (true_that (text.types.is_enum ty)) T21 s
    c ← the (case_of_type text ty n.text) T11 n.span
    ps ← parts c.1.payloads
    yields (typed.of_case c.0 ps.0, ps.1)

  -- ---- patterns by cases

  -- inside a `let`
  abbrev mutual
    pub let_pattern : Scope → How → LetPat → Ty → Judged Matched
    let_pattern scope how (tree.let_any s) ty = yields (typed.any, [])
    let_pattern scope how (tree.let_bind n) ty = name_pattern scope how n ty
    let_pattern scope how (tree.let_case s n ps) ty = case_pattern s n ty (let_patterns scope how s ps)
    let_pattern scope how (tree.let_number s negative n) ty = number_pattern s negative n ty
    let_pattern scope how (tree.let_truth s b) ty = truth_pattern s b ty

    pub let_patterns : Scope → How → Span → LetPats → Parts
    let_patterns scope how s tree.no_let_pats = no_parts s
    let_patterns scope how s (tree.let_pat p ps) = and_part s (let_pattern scope how p) (let_patterns scope how s ps)

  abbrev mutual
    pub pattern_of : Scope → How → Pat → Ty → Judged Matched
    pattern_of scope how (tree.any s) ty = yields (typed.any, [])
    pattern_of scope how (tree.bind s n) ty = name_pattern scope how n ty
    pattern_of scope how (tree.bind_case s p) ty = let_pattern scope how p ty
    pattern_of scope how (tree.on_case s n ps) ty = case_pattern s n ty (patterns_of scope how s ps)
    pattern_of scope how (tree.on_number s negative n) ty = number_pattern s negative n ty
    pattern_of scope how (tree.on_truth s b) ty = truth_pattern s b ty

    pub patterns_of : Scope → How → Span → Pats → Parts
    patterns_of scope how s tree.no_pats = no_parts s
    patterns_of scope how s (tree.pat p ps) = and_part s (pattern_of scope how p) (patterns_of scope how s ps)

  -- the patterns of a clause, each of the whole subject
  abbrev pub alternatives : Scope → How → Pats → Ty → Judged (TPats × List Local)
  alternatives scope how tree.no_pats ty = yields (typed.no_pats, [])
  alternatives scope how (tree.pat p ps) ty = do
    q ← pattern_of scope how p ty
    qs ← alternatives scope how ps ty
    yields (typed.pat q.0 qs.0, q.1 ++ qs.1)

-- ---- clauses

-- a clause with several patterns binds no name
abbrev pub one_or_none : Pats → List Local → Bool
one_or_none tree.no_pats ls = true
one_or_none (tree.pat p tree.no_pats) ls = true
one_or_none (tree.pat p (tree.pat q qs)) ls = is_empty ls

abbrev pub listed : TPats → List TPat
listed typed.no_pats = []
listed (typed.pat p ps) = p ∷ listed ps

-- the patterns of a clause without a guard; one with a guard may fail, and counts for nothing
abbrev pub matched : TWhen → List TPat
matched (typed.case_of ps) = listed ps
matched (typed.case_where p e) = []
matched typed.default = typed.any ∷ []

abbrev pub all_matched : TClauses → List TPat
all_matched typed.no_clauses = []
all_matched (typed.clause s w ss cs) = matched w ++ all_matched cs
