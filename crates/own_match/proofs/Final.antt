-- From the search at one column to what is said of the patterns.
use Rattle.std.proofs.Common.{◌≡◌, ℕ, zero, suc, ◌<◌, Bool, true, List, [], ◌∷◌, length, map, replicate, Option, Some, None, slice_get, ◌↔◌, inl, refl, sym, ap, ◌∙◌, subst, arith}
use Rattle.std.proofs.lemmas.Option.{slice_get_within, slice_get-get_or, get_or_from_slice_get}
use Rattle.own_tree.specs.declared.pattern.Cover.TheVariants as cover
use Rattle.own_tree.specs.declared.pattern.TPattern.{TPattern}
use Rattle.own_tree.specs.TypedSource.{TPat, TPats, no_pats, pat}
use Rattle.own_tree.specs.TypedView.{pats_of, pattern_view}
use Rattle.own_shapes.specs.Types.{Shape}
use Rattle.own_match.specs.Answers.{IsAll, single}
use Rattle.own_match.specs.Values.{Val, Vals, no_vals, val, IsOf, IsCovered, Covers}
use Rattle.own_match.specs.Forms.{StandsFor, IsMissing, IsFirst}
use Rattle.own_match.specs.Search.{gap, gap_end, Column}
use Rattle.own_match.proofs.Tuples.{TupleOf, Stand, Matched, column}
use Rattle.own_match.proofs.Exact.{Gap, Exact, Everything, columns_exact}
use Rattle.own_match.proofs.Covered.{none_covered}
use Rattle.own_match.proofs.Steps.{found_count}
use Rattle.own_match.proofs.Taking.{pats_length}

abbrev pub alive : List TPat → List Bool
alive ps = replicate (length ps) true

pub one_live : (n i : ℕ) → i < n → slice_get (replicate n true) i ≡ Some true
one_live zero i l = absurd (omega (arith, l))
one_live (suc n) zero l = refl
one_live (suc n) (suc i) l = one_live n i (omega (arith, l))

module _ (s : Shape) (ps : List TPat) where
  abbrev pub whole : List Column
  whole = column s ps ∷ []

  pub covered_by : (v : Val) → Matched whole (alive ps) (val v no_vals) → IsCovered ps v
  covered_by v m =
      let p = m.2.0.0 in
      (m.0, p, slice_get_within ps m.0 p m.2.0.1, get_or_from_slice_get ps m.0 p p m.2.0.1, m.2.0.2)

  pub by_covered : (v : Val) → IsCovered ps v → Matched whole (alive ps) (val v no_vals)
  by_covered v c =
      (c.0, one_live (length ps) c.0 c.2, ((c.1, slice_get-get_or ps c.0 c.1 c.2 ∙ ap Some c.3, c.4), tt))

  pub all_covered : gap s ps gap_end (alive ps) ≡ None → Covers ps s
  all_covered e v t = covered_by v (none_covered whole (alive ps) e (val v no_vals) (t, tt))

  module _ (f : TPat) (e : gap s ps gap_end (alive ps) ≡ Some (pat f no_pats)) where
    pub found : Gap Everything whole (alive ps) (pat f no_pats)
    found = subst (λ r. Exact whole (alive ps) r) e (columns_exact whole (alive ps))

    pub some_value : (vs : Vals) → TupleOf whole vs → Stand whole (pat f no_pats) vs → (v : Val) × IsOf s v × StandsFor ps f v
    some_value no_vals t st = absurd t
    some_value (val v vs) t st = (v, t.0, st.0)

    pub missing : IsMissing s ps f
    missing = record {
      form = found.forms.0;
      some = some_value found.some.0 found.some.1 found.some.2;
      none = λ v t st c. found.none (val v no_vals) (t, tt) (st, tt) (by_covered v c);
    }

    pub first : IsFirst s ps f
    first g form earlier v t st = covered_by v (found.first (pat g no_pats) tt (form, tt) (inl earlier) (val v no_vals) (t, tt) (st, tt))

    pub not_covered : Covers ps s → ⊥
    not_covered all = let a = missing.some in missing.none a.0 a.1 a.2 (all a.0 a.1)

-- what the answers say, by what was found
pub answer_all : (s : Shape) (ps : List TPat) → None ≡ gap s ps gap_end (alive ps) → IsAll cover.All ↔ Covers ps s
answer_all s ps e = (λ a. all_covered s ps (sym e), λ a. tt)

pub answer_missing : (s : Shape) (ps : List TPat) (f : TPattern) → single (Some f) ≡ gap s ps gap_end (alive ps) → IsAll (cover.Missing f) ↔ Covers ps s
answer_missing s ps f e = (λ a. absurd a, λ all. not_covered s ps (pattern_view f) (sym e) all)

pub missing_is : (s : Shape) (ps : List TPat) (f : TPattern) → single (Some f) ≡ gap s ps gap_end (alive ps) → IsMissing s ps (pattern_view f)
missing_is s ps f e = missing s ps (pattern_view f) (sym e)

pub first_is : (s : Shape) (ps : List TPat) (f : TPattern) → single (Some f) ≡ gap s ps gap_end (alive ps) → IsFirst s ps (pattern_view f)
first_is s ps f e = first s ps (pattern_view f) (sym e)

-- one form was found
pub one_form : (s : Shape) (ps : List TPat) (live : List Bool) (fs : List TPattern) → Some (pats_of (map pattern_view fs)) ≡ gap s ps gap_end live → length fs ≡ 1
one_form s ps live fs e = omega (arith, found_count (column s ps ∷ []) live (pats_of (map pattern_view fs)) (sym e), pats_length fs)

length_viewed : (xs : List TPattern) → length xs ≡ length (map pattern_view xs)
length_viewed [] = refl
length_viewed (x ∷ xs) = omega (arith, length_viewed xs)

pub all_alive : (s : Shape) (xs : List TPattern) (r : Option TPats) → r ≡ gap s (map pattern_view xs) gap_end (replicate (length xs) true) → r ≡ gap s (map pattern_view xs) gap_end (alive (map pattern_view xs))
all_alive s xs r e = e ∙ ap (λ n. gap s (map pattern_view xs) gap_end (replicate n true)) (length_viewed xs)
