-- That the search finds a form exactly where patterns do not cover a type, and then the first one that they miss.
use Rattle.std.specs.Prelude.{◌≡◌, List, Option, Some, None, Err}
use Rattle.std.proofs.Common.{refl, sym, ap, ◌∙◌, subst}
use Rattle.own_tree.specs.declared.place.Ty.{Ty}
use Rattle.own_tree.specs.declared.span.Span.{Span}
use Rattle.own_tree.specs.TypedSource.{TPat, TPats, no_pats, pat}
use Rattle.own_shapes.specs.Types.{Shape, Types}
use Rattle.own_match.specs.Forms.{IsMissing, IsFirst}
use Rattle.own_match.specs.Search.{gap, gap_end}
use Rattle.own_match.specs.Values.{Covers}
use Rattle.own_match.proofs.Exact.{Exact, columns_exact}
use Rattle.own_match.proofs.Final.{alive, whole, all_covered, missing, first}
use Rattle.own_match.proofs.Ordered.{first_missing_is_one}
use Rattle.own_judging.specs.Made.{Made, Fault, uncovered, stop, made}
use Rattle.own_judging.specs.Coverage.{only, first_missing, covering_run}
use Rattle.own_judging.proofs.Judging.{no_err, no_ok, same_stop, ok_of, parts_of}

module _ (ps : List TPat) (s : Shape) where
  abbrev found : Option TPats
  found = gap s ps gap_end (alive ps)

  is_exact : (r : Option TPats) → found ≡ r → Exact (whole s ps) (alive ps) r
  is_exact r e = subst (λ r. Exact (whole s ps) (alive ps) r) e (columns_exact (whole s ps) (alive ps))

  no_some : (f : TPat) → Some f ≡ None → ⊥
  no_some f e = cc

  same_form : (g f : TPat) → Some g ≡ Some f → g ≡ f
  same_form g f e = cc

  all_if_none : (r : Option TPats) → found ≡ r → only r ≡ None → Covers ps s
  all_if_none None e h = all_covered s ps e
  all_if_none (Some no_pats) e h = absurd ((is_exact (Some no_pats) e).forms)
  all_if_none (Some (pat f fs)) e h = absurd (no_some f h)

  one_found : (f : TPat) (r : Option TPats) → found ≡ r → only r ≡ Some f → found ≡ Some (pat f no_pats)
  one_found f None e h = absurd (cc)
  one_found f (Some no_pats) e h = absurd (cc)
  one_found f (Some (pat g no_pats)) e h = e ∙ ap (λ g. Some (pat g no_pats)) (same_form g f h)
  one_found f (Some (pat g (pat k gs))) e h = absurd ((is_exact (Some (pat g (pat k gs))) e).forms.1)

  pub none_missing : first_missing ps s ≡ None → Covers ps s
  unfolding first_missing
  none_missing e = all_if_none found refl e

  pub first_found : (f : TPat) → first_missing ps s ≡ Some f → IsMissing s ps f × IsFirst s ps f
  unfolding first_missing
  first_found f h = let e = one_found f found refl h in (missing s ps f e, first s ps f e)

  not_missing : (f : TPat) → Covers ps s → IsMissing s ps f → ⊥
  not_missing f all m = let a = m.some in m.none a.0 a.1 a.2 (all a.0 a.1)

  none_if_covered : (r : Option TPat) → first_missing ps s ≡ r → Covers ps s → r ≡ None
  none_if_covered None e all = refl
  none_if_covered (Some f) e all = absurd (not_missing f all (first_found f e).0)

  pub covered_none : Covers ps s → first_missing ps s ≡ None
  covered_none all = none_if_covered (first_missing ps s) refl all

  some_if_missing :
      (f : TPat) (r : Option TPat) → first_missing ps s ≡ r → IsMissing s ps f → IsFirst s ps f → r ≡ Some f
  some_if_missing f None e m h = absurd (not_missing f (none_missing e) m)
  some_if_missing f (Some g) e m h = let a = first_found g e in ap Some (first_missing_is_one s ps g f a.0 a.1 m h)

  pub missing_found : (f : TPat) → IsMissing s ps f → IsFirst s ps f → first_missing ps s ≡ Some f
  missing_found f m h = some_if_missing f (first_missing ps s) refl m h

module _ (types : Types) (ty : Ty) (ps : List TPat) (at : Span) where
  abbrev shape : Shape
  shape = types.shape ty

  pub covering_found :
      (s : Made) (a : Unit {0}) (s' : Made) → Covers ps shape × (s' ≡ s)
      → covering_run (first_missing ps shape) at ty s ≡ made a s'
  covering_found s a s' h = ap (λ o. covering_run o at ty s) (covered_none ps shape h.0) ∙ ok_of tt a s s' (refl, h.1)

  pub was_covered :
      (s : Made) (a : Unit {0}) (s' : Made) (o : Option TPat) → first_missing ps shape ≡ o
      → covering_run o at ty s ≡ made a s' → Covers ps shape × (s' ≡ s)
  was_covered s a s' None at_o e = (none_missing ps shape at_o, (parts_of tt a s s' e).1)
  was_covered s a s' (Some p) at_o e = absurd (no_ok a s' (uncovered at ty p) e)

  pub covering_stopped :
      (s : Made) (f : Fault) → (p : TPat) × IsMissing shape ps p × IsFirst shape ps p × (f ≡ uncovered at ty p)
      → covering_run (first_missing ps shape) at ty s ≡ stop (Unit {0}) f
  covering_stopped s f h = ap (λ o. covering_run o at ty s) (missing_found ps shape h.0 h.1 h.2) ∙ ap Err (sym h.3)

  pub was_uncovered :
      (s : Made) (f : Fault) (o : Option TPat) → first_missing ps shape ≡ o
      → covering_run o at ty s ≡ stop (Unit {0}) f
      → (p : TPat) × IsMissing shape ps p × IsFirst shape ps p × (f ≡ uncovered at ty p)
  was_uncovered s f None at_o e = absurd (no_err tt s f e)
  was_uncovered s f (Some p) at_o e =
      let a = first_found ps shape p at_o in (p, a.0, a.1, sym (same_stop (Unit {0}) (uncovered at ty p) f e))
