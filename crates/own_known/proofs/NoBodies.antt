-- Rules that make no body: those on names, paths, patterns and operators.
use Rattle.std.specs.Prelude.{ℕ, Bool, List, [], ◌∷◌, Option, Some, None}
use Rattle.own_tree.specs.declared.place.Mode.{Mode}
use Rattle.own_tree.specs.declared.place.Ty.{Ty}
use Rattle.own_tree.specs.declared.place.Ty.TheVariants as type
use Rattle.own_tree.specs.declared.span.Span.{Span}
use Rattle.own_tree.specs.declared.tree.ClosureName.{ClosureName}
use Rattle.own_tree.specs.declared.tree.Keyword.{Keyword}
use Rattle.own_tree.specs.declared.tree.Keyword.TheVariants as keyword
use Rattle.own_tree.specs.declared.tree.Name.{Name}
use Rattle.own_tree.specs.declared.tree.Parameter.{Parameter}
use Rattle.own_tree.specs.declared.tree.Path.{Path}
use Rattle.own_tree.specs.declared.tree.PrefixOperator.{PrefixOperator}
use Rattle.own_tree.specs.declared.tree.PrefixOperator.TheVariants as prefix
use Rattle.own_tree.specs.declared.tree.Root.{Root}
use Rattle.own_tree.specs.declared.tree.Root.TheVariants as root
use Rattle.own_tree.specs.declared.typed.ParamInfo.{ParamInfo}
use Rattle.own_tree.specs.declared.typed.Target.{Target}
use Rattle.own_tree.specs.declared.typed.TypedPath.{TypedPath}
use Rattle.own_tree.specs.Source as tree
use Rattle.own_tree.specs.Source.{LetPat, LetPats, Pat, Pats}
use Rattle.own_tree.specs.TypedSource.{TPat, TPats, TExp}
use Rattle.own_shapes.specs.Types.{is_copyable}
use Rattle.own_calls.specs.Arguments.{arguments_agree}
use Rattle.own_judging.specs.Judged.{Judged}
use Rattle.own_judged.specs.Arguments.{Arguments, nothing_given, calling}
use Rattle.own_judged.specs.Bodies.{Heading, self_bound, params_bound}
use Rattle.own_judged.specs.Closures.{closure_params}
use Rattle.own_judged.specs.Conditions.{true_that, one_type, fits, at_most, either}
use Rattle.own_judged.specs.Names.{Local, Self, Scope, Seen, a_local, a_property, a_method, a_function, the_print, the_read_int, a_type}
use Rattle.own_judged.specs.Paths.{may_stand, stored, way, standing, part, parts, member_of, constructed, implicit, of_type, of_self, of_property, of_local, named, path_value, local_place, place_by, place_from, a_place}
use Rattle.own_judged.specs.Patterns.{Parts, How, owned, lent, twice, number_pattern, truth_pattern, no_parts, and_part, name_pattern, case_pattern, let_pattern, let_patterns, pattern_of, patterns_of, alternatives}
use Rattle.own_judged.specs.Rules.{yields, ◌>>=◌}
use Rattle.own_judged.specs.Statements.{loop_variable, local_without_value, returned_none, discarded}
use Rattle.own_judged.specs.Text.{Text}
use Rattle.own_judged.specs.Values.{type_of, is_of, both_are, valued, as_value, chosen, largest, number_literal, Operation, logical, equality, order, trapping, wrapping, operated, prefixed}
use Rattle.own_known.proofs.Counting.{Counts, neither, first_only, second_only, given, judged, found, no_fault, never, a_node, declares}

-- ---- values

pub valued_none : (s : Span) (wanted : Option Ty) (t : TExp) → Counts (valued s wanted t) 0
valued_none s wanted t =
    neither _ _ (no_fault _ _) (λ u. neither _ _ (judged (fits wanted (type_of t)) _ _) (λ u. given _))

pub as_value_counts :
    (s : Span) (wanted : Option Ty) (e : Judged TExp) (n : ℕ) → Counts e n → Counts (as_value s wanted e) n
as_value_counts s wanted e n c = first_only _ _ n c (λ t. valued_none s wanted t)

pub chosen_none : (id : ℕ) (s : Span) (c a b : TExp) → Counts (chosen id s c a b) 0
chosen_none id s c a b = neither _ _ (judged (one_type (type_of a) (type_of b)) _ _) (λ u. given _)

pub literal_none : (id : ℕ) (s : Span) (negative : Bool) (n : ℕ) → Counts (number_literal id s negative n) 0
literal_none id s negative n = neither _ _ (judged (at_most n (largest negative)) _ _) (λ u. given _)

pub operated_none : (id : ℕ) (s mark : Span) (o : Operation) (a b : TExp) → Counts (operated id s mark o a b) 0
operated_none id s mark (logical o) a b = neither _ _ (judged (both_are type.Bool a b) _ _) (λ u. given _)
operated_none id s mark (equality o) a b =
    neither _ _ (judged (either (both_are type.Int a b) (both_are type.Bool a b)) _ _) (λ u. given _)
operated_none id s mark (order o) a b = neither _ _ (judged (both_are type.Int a b) _ _) (λ u. given _)
operated_none id s mark (trapping o) a b = neither _ _ (judged (both_are type.Int a b) _ _) (λ u. given _)
operated_none id s mark (wrapping o) a b = neither _ _ (judged (both_are type.Int a b) _ _) (λ u. given _)

pub prefixed_none : (id : ℕ) (s : Span) (o : PrefixOperator) (e : TExp) → Counts (prefixed id s o e) 0
prefixed_none id s prefix.Minus e = neither _ _ (judged (is_of type.Int e) _ _) (λ u. given _)
prefixed_none id s prefix.Not e = neither _ _ (judged (is_of type.Bool e) _ _) (λ u. given _)

module _ (text : Text) where
  -- ---- paths

  stored_none : (ty : Ty) (n : Name) → Counts (stored text ty n) 0
  stored_none ty n = neither _ _ (found _ _ _) (λ f. given _)

  way_none : (ty : Ty) (ns : List Name) → Counts (way text ty ns) 0
  way_none ty [] = given _
  way_none ty (n ∷ ns) = neither _ _ (stored_none ty n) (λ f. neither _ _ (way_none f.1 ns) (λ rest. given _))

  standing_none :
      (id : ℕ) (s : Span) (x : ℕ) (before : List ℕ) (ty : Ty) (ns : List Name)
      → Counts (standing text id s x before ty ns) 0
  standing_none id s x before ty ns = neither _ _ (way_none ty ns) (λ w. given _)

  part_none : (id : ℕ) (s : Span) (e : TExp) (n : Name) → Counts (part text id s e n) 0
  part_none id s e n =
      neither _ _ (stored_none (type_of e) n)
      (λ f. neither _ _ (judged (true_that (is_copyable text.types f.1)) _ _) (λ u. given _))

  parts_none : (s : Span) (e : TExp) (ns : List Name) → Counts (parts text s e ns) 0
  parts_none s e [] = given _
  parts_none s e (n ∷ ns) = neither _ _ a_node (λ id. neither _ _ (part_none id _ e n) (λ m. parts_none s m ns))

  pub member_none :
      (id : ℕ) (s : Span) (e : TExp) (n : Name) (o : Option TypedPath) → Counts (member_of text id s e n o) 0
  member_none id s e n None = part_none id s e n
  member_none id s e n (Some p) = neither _ _ (stored_none p.at.ty n) (λ f. given _)

  -- ---- arguments and constructions

  abbrev pub ArgumentsCount : Arguments → ℕ → Type 0
  ArgumentsCount arguments n = (s : Span) (ps : List ParamInfo) → Counts (arguments s ps) n

  pub nothing_counts : ArgumentsCount nothing_given 0
  nothing_counts s [] = given _
  nothing_counts s (p ∷ ps) = never _ _ _

  pub calling_counts :
      (id : ℕ) (s : Span) (ty : Ty) (to : Target) (params : List ParamInfo) (arguments : Arguments) (n : ℕ)
      → ArgumentsCount arguments n → Counts (calling text id s ty to params arguments) n
  calling_counts id s ty to params arguments n c =
      first_only _ _ n (c s params) (λ g. neither _ _ (judged (true_that (arguments_agree s.end params g.1)) _ _)
      (λ u. given _))

  pub constructed_counts :
      (id : ℕ) (s at : Span) (t : ℕ) (name : Name) (arguments : Arguments) (n : ℕ) → ArgumentsCount arguments n
      → Counts (constructed text id s at t name arguments) n
  constructed_counts id s at t name arguments n c =
      second_only _ _ n (judged (true_that (text.types.is_enum (type.Named t))) _ _)
      (λ u. second_only _ _ n (found _ _ _) (λ x. calling_counts id s (type.Named t) _ _ arguments n c))

  pub implicit_counts :
      (id : ℕ) (s : Span) (wanted : Option Ty) (name : Name) (arguments : Arguments) (n : ℕ)
      → ArgumentsCount arguments n
      → Counts (implicit text id s wanted name arguments) n
  implicit_counts id s None name arguments n c = never _ _ _
  implicit_counts id s (Some (type.Named t)) name arguments n c =
      second_only _ _ n (judged (true_that (text.types.is_enum (type.Named t))) _ _)
      (λ u. second_only _ _ n (found _ _ _) (λ x. calling_counts id s (type.Named t) _ _ arguments n c))
  implicit_counts id s (Some type.Int) name arguments n c = never _ _ _
  implicit_counts id s (Some type.Bool) name arguments n c = never _ _ _
  implicit_counts id s (Some type.Unit) name arguments n c = never _ _ _
  implicit_counts id s (Some (type.Fun f)) name arguments n c = never _ _ _

  of_type_none : (id : ℕ) (s : Span) (n : Name) (t : ℕ) (ns : List Name) → Counts (of_type text id s n t ns) 0
  of_type_none id s n t [] = never _ _ _
  of_type_none id s n t (c ∷ fields) =
      neither _ _ (constructed_counts id _ n.span t c nothing_given 0 nothing_counts) (λ e. parts_none s e fields)

  -- ---- names

  of_local_none : (id : ℕ) (s : Span) (l : Local) (ty : Ty) (ns : List Name) → Counts (of_local text id s l ty ns) 0
  of_local_none id s l (type.Fun f) [] = given _
  of_local_none id s l (type.Fun f) (n ∷ ns) = never _ _ _
  of_local_none id s l type.Int ns = neither _ _ (standing_none id s l.binding [] l.ty ns) (λ p. given _)
  of_local_none id s l type.Bool ns = neither _ _ (standing_none id s l.binding [] l.ty ns) (λ p. given _)
  of_local_none id s l type.Unit ns = neither _ _ (standing_none id s l.binding [] l.ty ns) (λ p. given _)
  of_local_none id s l (type.Named t) ns = neither _ _ (standing_none id s l.binding [] l.ty ns) (λ p. given _)

  local_place_none : (id : ℕ) (p : Path) (l : Local) (ty : Ty) → Counts (local_place text id p l ty) 0
  local_place_none id p l (type.Fun f) = never _ _ _
  local_place_none id p l type.Int = standing_none id p.span l.binding [] l.ty p.fields
  local_place_none id p l type.Bool = standing_none id p.span l.binding [] l.ty p.fields
  local_place_none id p l type.Unit = standing_none id p.span l.binding [] l.ty p.fields
  local_place_none id p l (type.Named t) = standing_none id p.span l.binding [] l.ty p.fields

  module _ (scope : Scope) where
    pub of_self_none :
        (id : ℕ) (s word : Span) (me : Option Self) (ns : List Name) → Counts (of_self text scope id s word me ns) 0
    of_self_none id s word me ns =
        neither _ _ (found _ _ _) (λ self. neither _ _ (judged (true_that (may_stand scope self.mode ns)) _ _)
        (λ u. standing_none id s self.binding [] self.ty ns))

    of_property_none :
        (id : ℕ) (s : Span) (n : Name) (me : Option Self) (i : ℕ) (ty : Ty) (ns : List Name)
        → Counts (of_property text scope id s n me i ty ns) 0
    of_property_none id s n me i ty ns =
        neither _ _ (found _ _ _) (λ self. neither _ _ (judged (true_that (may_stand scope self.mode (n ∷ ns))) _ _)
        (λ u. standing_none id s self.binding (i ∷ []) ty ns))

    named_none : (id : ℕ) (s : Span) (n : Name) (ns : List Name) (x : Seen) → Counts (named text scope id s n ns x) 0
    named_none id s n ns (a_local l) = of_local_none id s l l.ty ns
    named_none id s n ns (a_property i f) = neither _ _ (of_property_none id s n scope.self i f.ty ns) (λ p. given _)
    named_none id s n ns (a_method m) = never _ _ _
    named_none id s n ns (a_function c) = never _ _ _
    named_none id s n ns the_print = never _ _ _
    named_none id s n ns the_read_int = never _ _ _
    named_none id s n ns (a_type t) = of_type_none id s n t ns

    pub path_value_none : (id : ℕ) (s : Span) (r : Root) (ns : List Name) → Counts (path_value text scope id s r ns) 0
    path_value_none id s (root.SelfWord word) ns = neither _ _ (of_self_none id s word scope.self ns) (λ p. given _)
    path_value_none id s (root.Named n) ns = neither _ _ (found _ _ _) (λ x. named_none id s n ns x)

    place_by_none : (id : ℕ) (p : Path) (n : Name) (x : Seen) → Counts (place_by text scope id p n x) 0
    place_by_none id p n (a_local l) = local_place_none id p l l.ty
    place_by_none id p n (a_property i f) = of_property_none id p.span n scope.self i f.ty p.fields
    place_by_none id p n (a_method m) = never _ _ _
    place_by_none id p n (a_function c) = never _ _ _
    place_by_none id p n the_print = never _ _ _
    place_by_none id p n the_read_int = never _ _ _
    place_by_none id p n (a_type t) = never _ _ _

    place_from_none : (id : ℕ) (p : Path) (r : Root) → Counts (place_from text scope id p r) 0
    place_from_none id p (root.SelfWord word) = of_self_none id p.span word scope.self p.fields
    place_from_none id p (root.Named n) = neither _ _ (found _ _ _) (λ x. place_by_none id p n x)

    pub place_none : (p : Path) → Counts (a_place text scope p) 0
    place_none p = neither _ _ a_node (λ id. place_from_none id p p.root)

    -- ---- patterns

    name_none : (how : How) (n : Name) (ty : Ty) → Counts (name_pattern text scope how n ty) 0
    name_none owned n ty = neither _ _ (declares _) (λ x. given _)
    name_none lent n ty = neither _ _ (declares _) (λ x. given _)
    name_none twice n ty = neither _ _ (declares _) (λ x. neither _ _ (declares _) (λ y. given _))

    number_none : (s : Span) (negative : Bool) (n : ℕ) (ty : Ty) → Counts (number_pattern s negative n ty) 0
    number_none s negative n ty =
        neither _ _ (judged (one_type ty type.Int) _ _)
        (λ u. neither _ _ (judged (at_most n (largest negative)) _ _) (λ u. given _))

    truth_none : (s : Span) (b : Bool) (ty : Ty) → Counts (truth_pattern s b ty) 0
    truth_none s b ty = neither _ _ (judged (one_type ty type.Bool) _ _) (λ u. given _)

    PartsNone : Parts → Type 0
    PartsNone parts = (tys : List Ty) → Counts (parts tys) 0

    no_part : (s : Span) → PartsNone (no_parts s)
    unfolding PartsNone
    no_part s [] = given _
    no_part s (ty ∷ tys) = never _ _ _

    one_part :
        (s : Span) (first : Ty → Judged (TPat × List Local)) (rest : Parts) → ((ty : Ty) → Counts (first ty) 0)
        → PartsNone rest → PartsNone (and_part s first rest)
    unfolding PartsNone
    one_part s first rest one more [] = never _ _ _
    one_part s first rest one more (ty ∷ tys) = neither _ _ (one ty) (λ p. neither _ _ (more tys) (λ ps. given _))

    case_none :
        (s : Span) (n : Name) (ty : Ty) (parts : Parts) → PartsNone parts → Counts (case_pattern text s n ty parts) 0
    unfolding PartsNone
    case_none s n ty parts c =
        neither _ _ (judged (true_that (text.types.is_enum ty)) _ _)
        (λ u. neither _ _ (found _ _ _) (λ x. neither _ _ (c x.1.payloads) (λ ps. given _)))

    mutual
      let_none : (how : How) (p : LetPat) (ty : Ty) → Counts (let_pattern text scope how p ty) 0
      let_none how (tree.let_any s) ty = given _
      let_none how (tree.let_bind n) ty = name_none how n ty
      let_none how (tree.let_case s n ps) ty = case_none s n ty (let_patterns text scope how s ps) (lets_none how s ps)
      let_none how (tree.let_number s negative n) ty = number_none s negative n ty
      let_none how (tree.let_truth s b) ty = truth_none s b ty

      lets_none : (how : How) (s : Span) (ps : LetPats) → PartsNone (let_patterns text scope how s ps)
      lets_none how s tree.no_let_pats = no_part s
      lets_none how s (tree.let_pat p ps) =
          one_part s (let_pattern text scope how p) (let_patterns text scope how s ps) (let_none how p)
          (lets_none how s ps)

    mutual
      pub pattern_none : (how : How) (p : Pat) (ty : Ty) → Counts (pattern_of text scope how p ty) 0
      pattern_none how (tree.any s) ty = given _
      pattern_none how (tree.bind s n) ty = name_none how n ty
      pattern_none how (tree.bind_case s p) ty = let_none how p ty
      pattern_none how (tree.on_case s n ps) ty =
          case_none s n ty (patterns_of text scope how s ps) (patterns_none how s ps)
      pattern_none how (tree.on_number s negative n) ty = number_none s negative n ty
      pattern_none how (tree.on_truth s b) ty = truth_none s b ty

      patterns_none : (how : How) (s : Span) (ps : Pats) → PartsNone (patterns_of text scope how s ps)
      patterns_none how s tree.no_pats = no_part s
      patterns_none how s (tree.pat p ps) =
          one_part s (pattern_of text scope how p) (patterns_of text scope how s ps) (pattern_none how p)
          (patterns_none how s ps)

    one_more :
        (q : Judged (TPat × List Local)) (qs : Judged (TPats × List Local))
        (next : TPat × List Local → TPats × List Local → TPats × List Local)
        → Counts q 0 → Counts qs 0 → Counts (q >>= (λ p. qs >>= (λ ps. yields (next p ps)))) 0
    one_more q qs next c d = neither _ _ c (λ p. neither _ _ d (λ ps. given _))

    pub alternatives_none : (how : How) (ps : Pats) (ty : Ty) → Counts (alternatives text scope how ps ty) 0
    alternatives_none how tree.no_pats ty = given _
    alternatives_none how (tree.pat p ps) ty =
        one_more (pattern_of text scope how p ty) (alternatives text scope how ps ty) _ (pattern_none how p ty)
        (alternatives_none how ps ty)

    -- ---- statements without closures

    pub loop_none : (n : Option Name) → Counts (loop_variable scope n) 0
    loop_none None = given _
    loop_none (Some n) = neither _ _ (declares _) (λ x. given _)

    pub without_value_none :
        (s : Span) (word : Keyword) (n written : Option Name)
        → Counts (local_without_value text scope s word n written) 0
    without_value_none s keyword.Var (Some n) (Some w) =
        neither _ _ a_node (λ id. neither _ _ (declares _) (λ x. given _))
    without_value_none s keyword.Var (Some n) None = never _ _ _
    without_value_none s keyword.Var None w = never _ _ _
    without_value_none s keyword.Let n w = never _ _ _

  -- ---- what bodies begin with

  pub params_none : (k : ℕ) (ps : List Parameter) → Counts (params_bound text k ps) 0
  params_none k [] = given _
  params_none k (p ∷ ps) = neither _ _ (declares _) (λ x. neither _ _ (params_none k ps) (λ rest. given _))

pub returned_nothing : (id : ℕ) (s : Span) (result : Ty) → Counts (returned_none id s result) 0
returned_nothing id s result = neither _ _ (judged (one_type result type.Unit) _ _) (λ u. given _)

pub discarded_none : (id : ℕ) (s : Span) (me : Option Self) → Counts (discarded id s me) 0
discarded_none id s me = neither _ _ (found _ _ _) (λ self. given _)

pub names_none : (k : ℕ) (ns : List ClosureName) (ps : List ParamInfo) → Counts (closure_params k ns ps) 0
names_none k [] ps = given _
names_none k (n ∷ ns) [] = given _
names_none k (n ∷ ns) (p ∷ ps) = neither _ _ (declares _) (λ x. neither _ _ (names_none k ns ps) (λ rest. given _))

pub self_none : (k : ℕ) (h : Heading) (m : Option Mode) → Counts (self_bound k h m) 0
self_none k h None = given _
self_none k h (Some m) = neither _ _ (declares _) (λ x. given _)
