-- The arguments of a call, one by one.
use Rattle.std.proofs.Common.{◌≡◌, ℕ, ◌+◌, ◌<◌, List, [], ◌∷◌, ◌++◌, map, drop, length, get_or, refl, sym, ap, ◌∙◌, subst, append_assoc}
use Rattle.std.proofs.lemmas.List.{drop_more}
use Rattle.own_tree.specs.declared.finding.Finding.{Finding}
use Rattle.own_tree.specs.declared.typed.Passing.{Passing}
use Rattle.own_tree.specs.declared.typed.TypedExpr.{TypedExpr}
use Rattle.own_tree.specs.TypedSource.{Program}
use Rattle.own_tree.specs.TypedView.{exps_of, expr_view}
use Rattle.own_paths.specs.Captures.{first_passing, other_passings}
use Rattle.own_paths.specs.Fixed.{Access, all_conflicts, held}
use Rattle.own_shapes.specs.Types.{Types}
use Rattle.own_excl.specs.Found.{arg_claims, args_found}

-- Where nothing is held, nothing conflicts.
pub no_conflicts : (later : List Access) → all_conflicts [] later ≡ []
no_conflicts [] = refl
no_conflicts (a ∷ later) = no_conflicts later

module _ (types : Types) (program : Program) (es : List TypedExpr) (i : ℕ) (x : TypedExpr) (within : i < length es) (is : x ≡ get_or es i x) (earlier later : List Access)
    (old new all : List Finding) where
  abbrev rest : List Access → List Passing → List Finding
  rest accesses ps = args_found types program accesses (exps_of (map expr_view (drop (i + 1) es))) ps

  first : drop i es ≡ x ∷ drop (i + 1) es
  first = drop_more es i x within ∙ ap (λ y. y ∷ drop (i + 1) es) (sym is)

  one_more : (ps : List Passing) → later ≡ earlier ++ held types program (first_passing ps) (expr_view x)
      → new ≡ old ++ all_conflicts earlier (arg_claims types program (first_passing ps) (expr_view x))
      → old ++ args_found types program earlier (exps_of (map expr_view (drop i es))) ps ≡ all → new ++ rest later (other_passings ps) ≡ all
  one_more ps holds pushed so_far =
      let conflicts = all_conflicts earlier (arg_claims types program (first_passing ps) (expr_view x)) in
      ap (λ fs. fs ++ rest later (other_passings ps)) pushed
      ∙ ap (λ accesses. (old ++ conflicts) ++ rest accesses (other_passings ps)) holds
      ∙ append_assoc old conflicts (rest (earlier ++ held types program (first_passing ps) (expr_view x)) (other_passings ps))
      ∙ sym (ap (λ xs. old ++ args_found types program earlier (exps_of (map expr_view xs)) ps) first) ∙ so_far

  -- with one argument more, which is passed so
  pub args_more : (ps others : List Passing) (given : Passing) → given ≡ first_passing ps → others ≡ other_passings ps
      → later ≡ earlier ++ held types program given (expr_view x) → new ≡ old ++ all_conflicts earlier (arg_claims types program given (expr_view x))
      → old ++ args_found types program earlier (exps_of (map expr_view (drop i es))) ps ≡ all → new ++ rest later others ≡ all
  args_more ps others given passed further holds pushed so_far =
      ap (λ qs. new ++ rest later qs) further
      ∙ one_more ps (subst (λ g. later ≡ earlier ++ held types program g (expr_view x)) passed holds)
      (subst (λ g. new ≡ old ++ all_conflicts earlier (arg_claims types program g (expr_view x))) passed pushed) so_far
