-- One more known place.
use Rattle.std.proofs.Common.{◌≡◌, ℕ, zero, suc, ◌+◌, ◌*◌, ◌<◌, List, [], ◌∷◌, ◌++◌, length, refl, ap, sym, subst, length-append, ◌∙◌, arith, slice_get, get_or, min, inl, inr, Some}
use Rattle.std.proofs.lemmas.Option.{slice_get_past, slice_get_read}
use Rattle.std.proofs.lemmas.Bool.{cases_lt}
use Rattle.own_report.proofs.PlaceSteps.{place_at-past_end}
use Rattle.own_report.specs.Place.{place_at, AreKnown}
use Rattle.own_report.specs.declared.place.LineColumn.{LineColumn}
use Rattle.own_report.specs.declared.places.TheConstants.{STRIDE}

pub begins : (text : List ℕ) → record { line = 1; column = 1 } ≡ place_at text 0
unfolding place_at
begins text = refl

pub known_none : (text : List ℕ) → AreKnown text []
known_none text k place is = let past = slice_get_past {X = LineColumn} [] k (omega arith) in cc

known_after : (place_of : ℕ → LineColumn) (known : List LineColumn) (last : LineColumn)
    → ((k : ℕ) (place : LineColumn) → slice_get known k ≡ Some place → place ≡ place_of k)
    → last ≡ place_of (length known)
    → (k : ℕ) (place : LineColumn) → slice_get (known ++ last ∷ []) k ≡ Some place → place ≡ place_of k
known_after place_of [] last each is zero place found = cc
known_after place_of [] last each is (suc k) place found =
    let past = slice_get_past {X = LineColumn} [] k (omega arith) in absurd (cc)
known_after place_of (first ∷ others) last each is zero place found = each zero place found
known_after place_of (first ∷ others) last each is (suc k) place found =
    known_after (λ j. place_of (suc j)) others last (λ j p at. each (suc j) p at) is k place found

pub known_more : (text : List ℕ) (known more : List LineColumn) (last : LineColumn) (number : ℕ) → more ≡ known ++ last ∷ []
    → AreKnown text known → length known ≡ number → last ≡ place_at text (number * STRIDE) → AreKnown text more
known_more text known more last number pushed each long is =
    subst (AreKnown text) (sym pushed) (known_after (λ k. place_at text (k * STRIDE)) known last each (is ∙ ap (λ n. place_at text (n * STRIDE)) (sym long)))

pub longer : (known more : List LineColumn) (last : LineColumn) (number : ℕ) → more ≡ known ++ last ∷ []
    → length known ≡ number → length more ≡ number + 1
longer known more last number pushed long =
    let each : length more ≡ length known + 1 = ap length pushed ∙ length-append known (last ∷ []) in omega arith

-- an offset in a text or past its end, and the last known place before it
pub found : (known : List LineColumn) (text : List ℕ) (k : ℕ) (place : LineColumn)
    → AreKnown text known → k < length known → place ≡ get_or known k place → place ≡ place_at text (k * STRIDE)
found known text k place each within is = each k place (slice_get_read known (length known) k place refl within is)

-- past the end of a text the place stays
pub at_end : (text : List ℕ) (at end : ℕ) → end ≡ min (length text) at → place_at text end ≡ place_at text at
at_end text at end is =
    elim (cases_lt at (length text)) [
      | inl within ↦ (let e : end ≡ at = omega arith in ap (place_at text) e)
      | inr past ↦ (let e : end ≡ length text = omega arith in ap (place_at text) e ∙ place_at-past_end text at (omega arith))
    ]
