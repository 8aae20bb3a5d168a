-- The patterns of a `switch`, and what they bind.
use Rattle.std.specs.Prelude.{◌≡◌, ℕ, suc, Bool, List, [], ◌∷◌, ◌++◌, length}
use Rattle.std.proofs.Common.{refl, sym, ap, ◌∙◌, subst}
use Rattle.own_tree.specs.declared.place.Binding.{Binding}
use Rattle.own_tree.specs.declared.place.Mode.{Mode}
use Rattle.own_tree.specs.declared.place.Mode.TheVariants as mode
use Rattle.own_tree.specs.declared.place.Ty.{Ty}
use Rattle.own_tree.specs.declared.place.Ty.TheVariants as type
use Rattle.own_tree.specs.declared.span.Span.{Span}
use Rattle.own_tree.specs.declared.tree.Name.{Name}
use Rattle.own_tree.specs.Source as tree
use Rattle.own_tree.specs.Source.{LetPat, LetPats, Pat, Pats}
use Rattle.own_tree.specs.TypedSource as typed
use Rattle.own_tree.specs.TypedSource.{TPat, TPats, Program}
use Rattle.own_shapes.specs.Types.{is_copyable}
use Rattle.own_judging.specs.Judged.{Judged}
use Rattle.own_judged.specs.Closures.{binding_of}
use Rattle.own_judged.specs.Conditions.{true_that, one_type, at_most}
use Rattle.own_judged.specs.Names.{Local, Scope, local_of}
use Rattle.own_judged.specs.Patterns.{Parts, How, owned, lent, twice, moved, next_local, number_pattern, truth_pattern, no_parts, and_part, lent_mode, name_pattern, case_pattern, let_pattern, let_patterns, pattern_of, patterns_of, alternatives}
use Rattle.own_judged.specs.Rules.{◌>>=◌, declared, yields}
use Rattle.own_judged.specs.Text.{Text}
use Rattle.own_judged.specs.Values.{largest}
use Rattle.own_known.specs.Known.{AreTypes, PatKnown, PatsKnown}
use Rattle.own_known.specs.Surroundings.{IsKnown, TextKnown, LocalsKnown}
use Rattle.own_known.proofs.ClosuresKnown.{named_here}
use Rattle.own_known.proofs.Scopes.{joined}
use Rattle.own_known.proofs.Sure.{Sure, IsBinding, IsSure, is_sure_then, is_sure_declared, is_sure_yields, later_front, later_back, then, gives, holds, there, never, declares}

-- the names that a guarded clause binds for its body, one part after another
moved_joined : (how : How) (ls ms : List Local) → moved how (ls ++ ms) ≡ moved how ls ++ moved how ms
moved_joined owned ls ms = refl
moved_joined lent ls ms = refl
moved_joined twice [] ms = refl
moved_joined twice (l ∷ ls) ms = ap (λ rest. next_local l ∷ rest) (moved_joined twice ls ms)

module _ (text : Text) (program : Program) (texts : TextKnown text program) (scope : Scope) where
  abbrev Sure' : {A : Type 0} → Judged A → (A → Type 0) → Type 0
  Sure' j Q = Sure text program j Q

  abbrev k : ℕ
  k = scope.body

  abbrev Locals : List Local → Type 0
  Locals ls = LocalsKnown text program k ls

  -- what is bound for the guard and for the body
  abbrev pub Names : How → List Local → Type 0
  Names how ls = Locals ls × Locals (moved how ls)

  abbrev pub Matched : How → TPat × List Local → Type 0
  Matched how r = PatKnown text program k r.0 × Names how r.1

  abbrev pub AllMatched : How → TPats × List Local → Type 0
  AllMatched how r = PatsKnown text program k r.0 × Names how r.1

  none : (how : How) → Names how []
  none owned = (tt, tt)
  none lent = (tt, tt)
  none twice = (tt, tt)

  names_joined : (how : How) (ls ms : List Local) → Names how ls → Names how ms → Names how (ls ++ ms)
  names_joined how ls ms a b = (
    joined text program k ls ms a.0 b.0,
    subst Locals (sym (moved_joined how ls ms)) (joined text program k (moved how ls) (moved how ms) a.1 b.1),
  )

  number_known :
      (how : How) (s : Span) (negative : Bool) (n : ℕ) (ty : Ty)
      → Sure' (number_pattern s negative n ty) (Matched how)
  number_known how s negative n ty =
      then _ _ _ _ (holds (one_type ty type.Int) _ _)
      (λ u int. then _ _ _ _ (holds (at_most n (largest negative)) _ _) (λ u small. gives _ _ (tt, none how)))

  truth_known : (how : How) (s : Span) (b : Bool) (ty : Ty) → Sure' (truth_pattern s b ty) (Matched how)
  truth_known how s b ty = then _ _ _ _ (holds (one_type ty type.Bool) _ _) (λ u bool. gives _ _ (tt, none how))

  -- ---- names

  abbrev of_mode : Mode → Name → Ty → Binding
  of_mode m n ty = binding_of n.text ty m n.span k

  one_local :
      (x : ℕ) (n : Name) (ty : Ty) (m : Mode) → IsKnown text program ty
      → IsBinding text program x (of_mode m n ty) → Locals (local_of n x ty)
  one_local x n ty m known is =
      (((of_mode m n ty, named_here text program texts k x (of_mode m n ty) is refl, refl), known), tt)

  -- of two bindings that are declared one after the other, the second has the next number
  abbrev Two : Name → Ty → ℕ → Type 0
  Two n ty x =
      IsBinding text program x (of_mode mode.PatternBorrowed n ty) × IsBinding text program (suc x)
      (of_mode mode.PatternOwned n ty)

  pushed_length : {A : Type 0} (xs : List A) (y : A) → length (xs ++ y ∷ []) ≡ suc (length xs)
  pushed_length [] y = refl
  pushed_length (x ∷ xs) y = ap (λ n. suc n) (pushed_length xs y)

  two_known :
      {A : Type 0} (n : Name) (ty : Ty) (a : ℕ → A) (Q : A → Type 0) → IsKnown text program ty
      → ((x : ℕ) → Two n ty x → Q (a x))
      → Sure' (declared (of_mode mode.PatternBorrowed n ty) >>=
      (λ x. declared (of_mode mode.PatternOwned n ty) >>= (λ y. yields (a x)))) Q
  two_known {A = A} n ty a Q known so = record { is = is }
    where
      borrowed : Binding
      borrowed = of_mode mode.PatternBorrowed n ty

      is :
          IsSure text program (declared (of_mode mode.PatternBorrowed n ty) >>=
          (λ x. declared (of_mode mode.PatternOwned n ty) >>= (λ y. yields (a x)))) Q
      is s r s' h l =
          let first = declared (of_mode mode.PatternBorrowed n ty) in
          let second = declared (of_mode mode.PatternOwned n ty) in
          let last = second >>= (λ y. yields (a h.0)) in
          let before = first.grows s h.0 h.1 h.2 in
          let behind = last.grows h.1 r s' h.3 in
          let p = is_sure_declared text program (of_mode mode.PatternBorrowed n ty) known s h.0 h.1 h.2
          (later_front text program s h.1 s' behind l) in
          let rest = later_back text program s h.1 s' before l in
          let q = is_sure_declared text program (of_mode mode.PatternOwned n ty) known h.1 h.3.0 h.3.1 h.3.2
          (later_front text program h.1 h.3.1 s' ((yields (a h.0)).grows h.3.1 r s' h.3.3) rest) in
          let next : h.3.0 ≡ suc h.0 =
          h.3.2.0 ∙ ap (λ m. length m.bindings) h.2.1 ∙ pushed_length s.bindings (of_mode mode.PatternBorrowed n ty)
          ∙ ap (λ n. suc n) (sym h.2.0) in
          let whole = is_sure_then text program first
          (λ x. declared (of_mode mode.PatternOwned n ty) >>= (λ y. yields (a x))) (λ x. Unit {0}) (λ r. Unit {0})
          (λ s x m h l. (
            tt,
            (is_sure_declared text program
                (of_mode mode.PatternBorrowed n ty) known s x m h l).1,
          ))
          (λ x u. is_sure_then text program second (λ y. yields (a x)) (λ y. Unit {0}) (λ r. Unit {0})
          (λ s y m h l. (tt, (is_sure_declared text program (of_mode mode.PatternOwned n ty) known s y m h l).1))
          (λ y u. is_sure_yields text program (a x) (λ r. Unit {0}) tt)) s r s' h l in (
            subst Q (sym h.3.3.0) (so h.0 (
              p.0,
              subst
                  (λ y. IsBinding text program y (of_mode mode.PatternOwned n ty)) next q.0,
            )),
            whole.1,
          )

  name_known :
      (how : How) (n : Name) (ty : Ty) → IsKnown text program ty
      → Sure' (name_pattern text scope how n ty) (Matched how)
  name_known owned n ty known =
      then _ _ _ _ (declares (of_mode mode.PatternOwned n ty) known) (λ x is.
      let l = one_local x n ty mode.PatternOwned known is in
      gives _ _ (
        (
          of_mode mode.PatternOwned n ty,
          named_here text program texts k x
              (of_mode mode.PatternOwned n ty) is refl,
        ),
        (l, l),
      ))
  name_known lent n ty known =
      let m = lent_mode (is_copyable text.types ty) in
      then _ _ _ _ (declares (of_mode m n ty) known) (λ x is.
      let l = one_local x n ty m known is in
      gives _ _ ((of_mode m n ty, named_here text program texts k x (of_mode m n ty) is refl), (l, l)))
  name_known twice n ty known =
      two_known n ty (λ x. (typed.bind x, local_of n x ty)) (Matched twice) known (λ x two. (
        (
          of_mode mode.PatternBorrowed n ty,
          named_here text program texts k x
              (of_mode mode.PatternBorrowed n ty) two.0 refl,
        ),
        (one_local x n ty mode.PatternBorrowed known two.0, one_local (suc x) n ty mode.PatternOwned known two.1),
      ))

  -- ---- parts

  abbrev PartsKnown : How → Parts → Type 0
  PartsKnown how parts = (tys : List Ty) → AreTypes text program tys → Sure' (parts tys) (AllMatched how)

  no_part : (how : How) (s : Span) → PartsKnown how (no_parts s)
  no_part how s [] known = gives _ _ (tt, none how)
  no_part how s (ty ∷ tys) known = never _ _ _

  one_part :
      (how : How) (s : Span) (first : Ty → Judged (TPat × List Local)) (rest : Parts)
      → ((ty : Ty) → IsKnown text program ty → Sure' (first ty) (Matched how)) → PartsKnown how rest
      → PartsKnown how (and_part s first rest)
  one_part how s first rest one more [] known = never _ _ _
  one_part how s first rest one more (ty ∷ tys) known =
      then _ _ _ _ (one ty known.0) (λ p h. then _ _ _ _ (more tys known.1) (λ ps hs.
      gives _ _ ((h.0, hs.0), names_joined how p.1 ps.1 h.1 hs.1)))

  case_known :
      (how : How) (s : Span) (n : Name) (ty : Ty) (parts : Parts) → PartsKnown how parts
      → Sure' (case_pattern text s n ty parts) (Matched how)
  case_known how s n ty parts sure =
      then _ _ _ _ (holds (true_that (text.types.is_enum ty)) _ _) (λ u enum. then _ _ _ _ (there _ _ _) (λ c e.
      then _ _ _ _ (sure c.1.payloads (texts.case_of ty n.text c e).1) (λ ps h. gives _ _ h)))

  -- ---- patterns by cases

  mutual
    let_known :
        (how : How) (p : LetPat) (ty : Ty) → IsKnown text program ty
        → Sure' (let_pattern text scope how p ty) (Matched how)
    let_known how (tree.let_any s) ty known = gives _ _ (tt, none how)
    let_known how (tree.let_bind n) ty known = name_known how n ty known
    let_known how (tree.let_case s n ps) ty known =
        case_known how s n ty (let_patterns text scope how s ps) (lets_known how s ps)
    let_known how (tree.let_number s negative n) ty known = number_known how s negative n ty
    let_known how (tree.let_truth s b) ty known = truth_known how s b ty

    lets_known : (how : How) (s : Span) (ps : LetPats) → PartsKnown how (let_patterns text scope how s ps)
    lets_known how s tree.no_let_pats = no_part how s
    lets_known how s (tree.let_pat p ps) =
        one_part how s (let_pattern text scope how p) (let_patterns text scope how s ps) (let_known how p)
        (lets_known how s ps)

  mutual
    pub pattern_known :
        (how : How) (p : Pat) (ty : Ty) → IsKnown text program ty
        → Sure' (pattern_of text scope how p ty) (Matched how)
    pattern_known how (tree.any s) ty known = gives _ _ (tt, none how)
    pattern_known how (tree.bind s n) ty known = name_known how n ty known
    pattern_known how (tree.bind_case s p) ty known = let_known how p ty known
    pattern_known how (tree.on_case s n ps) ty known =
        case_known how s n ty (patterns_of text scope how s ps) (patterns_known how s ps)
    pattern_known how (tree.on_number s negative n) ty known = number_known how s negative n ty
    pattern_known how (tree.on_truth s b) ty known = truth_known how s b ty

    patterns_known : (how : How) (s : Span) (ps : Pats) → PartsKnown how (patterns_of text scope how s ps)
    patterns_known how s tree.no_pats = no_part how s
    patterns_known how s (tree.pat p ps) =
        one_part how s (pattern_of text scope how p) (patterns_of text scope how s ps) (pattern_known how p)
        (patterns_known how s ps)

  pub alternatives_known :
      (how : How) (ps : Pats) (ty : Ty) → IsKnown text program ty
      → Sure' (alternatives text scope how ps ty) (AllMatched how)
  alternatives_known how tree.no_pats ty known = gives _ _ (tt, none how)
  alternatives_known how (tree.pat p ps) ty known =
      then _ (λ q. alternatives text scope how ps ty >>= (λ qs. yields (typed.pat q.0 qs.0, q.1 ++ qs.1)))
      (Matched how) (AllMatched how) (pattern_known how p ty known) (λ q h.
      then _ (λ qs. yields (typed.pat q.0 qs.0, q.1 ++ qs.1)) (AllMatched how) (AllMatched how)
      (alternatives_known how ps ty known) (λ qs hs.
      gives _ _ ((h.0, hs.0), names_joined how q.1 qs.1 h.1 hs.1)))
