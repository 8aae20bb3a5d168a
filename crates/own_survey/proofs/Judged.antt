-- What the notes of a walk say of the parts of a text.
use Rattle.std.proofs.Common.{◌≡◌, ℕ, zero, suc, ◌+◌, ◌-◌, ◌≤◌, ◌<◌, ◌^◌, min, Bool, true, false, List, [], ◌∷◌, length, Option, Some, None, Contains, ◌⊎◌, inl, inr, refl, sym, ap, ◌∙◌, arith}
use Rattle.std.proofs.lemmas.Bool.{ltb-true, ltb-false}
use Rattle.std.proofs.lemmas.Bool.Decides.{Decides-eqb}
use Rattle.std.specs.Prelude.{if◌then◌else◌, not, ◌&&◌, is_some, nat_lt, nat_eq, slice_get}
use Rattle.own_tree.specs.declared.limits.TheConstants.{MOST_BODIES, MOST_PARAMETERS}
use Rattle.own_shapes.specs.declared.counted.Counted.{Counted}
use Rattle.own_survey.specs.declared.survey.Fault.{Fault}
use Rattle.own_survey.specs.declared.survey.Survey.{Survey}
use Rattle.own_survey.specs.declared.survey.Written.{Written}
use Rattle.own_survey.specs.Judgements.{nothing, earlier, fault_of, note, notes}
use Rattle.own_shapes.proofs.Lists.{In, in_contains, contains_in}
use Rattle.own_survey.specs.Limits.{body_places, taken_counts}
use Rattle.own_shapes.specs.Counts.{first_over}
use Rattle.own_survey.specs.Parts.{Part, a_body, a_case, a_print, a_type, a_scope, a_content, a_lifetime, a_parameter, a_method, a_top, a_main, no_main}

-- ---- faults

none_earlier : (a : Option Fault) → earlier a None ≡ a
none_earlier None = refl
none_earlier (Some x) = refl

note_fault : (w : List ℕ → Written) (v : Survey) (p : Part) → (note w v p).fault ≡ earlier v.fault (fault_of w p)
note_fault w v (a_body at n) = sym (none_earlier v.fault)
note_fault w v (a_case at n) = sym (none_earlier v.fault)
note_fault w v (a_print at n) = sym (none_earlier v.fault)
note_fault w v (a_type n) = refl
note_fault w v (a_scope ns) = refl
note_fault w v (a_content noncopyable n) = refl
note_fault w v (a_lifetime allowed at) = refl
note_fault w v (a_parameter s mode n) = refl
note_fault w v (a_method noncopyable s mode) = refl
note_fault w v (a_top n) = refl
note_fault w v (a_main plain at) = refl
note_fault w v (no_main at) = refl

one_of : (b : Bool) (x y f : Fault) → Some (if b then y else x) ≡ Some f → (Some x ≡ Some f) ⊎ (Some y ≡ Some f)
one_of true x y f e = inr e
one_of false x y f e = inl e

earlier_some : (a b : Option Fault) (f : Fault) → earlier a b ≡ Some f → (a ≡ Some f) ⊎ (b ≡ Some f)
earlier_some None b f e = inr e
earlier_some (Some x) None f e = inl e
earlier_some (Some x) (Some y) f e = one_of (nat_lt y.at.start x.at.start) x y f e

earlier_none : (a b : Option Fault) → earlier a b ≡ None → (a ≡ None) × (b ≡ None)
earlier_none None b e = (refl, e)
earlier_none (Some x) None e = absurd cc
earlier_none (Some x) (Some y) e = absurd cc

-- What is noted is false of some part.
fault_in : (w : List ℕ → Written) (ps : List Part) (v : Survey) (f : Fault) → (notes w v ps).fault ≡ Some f
    → (v.fault ≡ Some f) ⊎ ((p : Part) × In ps p × (fault_of w p ≡ Some f))
fault_in w [] v f e = inl e
fault_in w (p ∷ ps) v f e = elim (fault_in w ps (note w v p) f e) [
  | inl here ↦ elim (earlier_some v.fault (fault_of w p) f (sym (note_fault w v p) ∙ here)) [
    | inl before ↦ inl before
    | inr of ↦ inr (p, inl refl, of)
  ]
  | inr later ↦ inr (later.0, inr later.1, later.2)
]

pub fault_is_false : (w : List ℕ → Written) (ps : List Part) (f : Fault) → (notes w nothing ps).fault ≡ Some f → (p : Part) × Contains ps p × (fault_of w p ≡ Some f)
fault_is_false w ps f e = elim (fault_in w ps nothing f e) [
  | inl before ↦ absurd (let is : nothing.fault ≡ Some f = before in cc)
  | inr found ↦ (found.0, contains_in ps found.0 found.1, found.2)
]

-- Where nothing is noted nothing is false.
nothing_in : (w : List ℕ → Written) (ps : List Part) (v : Survey) → (notes w v ps).fault ≡ None
    → (v.fault ≡ None) × ((p : Part) → In ps p → fault_of w p ≡ None)
nothing_in w [] v e = (e, λ p c. absurd c)
nothing_in w (p ∷ ps) v e =
    let rest = nothing_in w ps (note w v p) e in
    let here = earlier_none v.fault (fault_of w p) (sym (note_fault w v p) ∙ rest.0) in
    (here.0, λ q c. elim c [ inl is ↦ ap (fault_of w) (sym is) ∙ here.1 | inr more ↦ rest.1 q more ])

pub nothing_is_false : (w : List ℕ → Written) (ps : List Part) → (notes w nothing ps).fault ≡ None → (p : Part) → Contains ps p → fault_of w p ≡ None
nothing_is_false w ps e p c = (nothing_in w ps nothing e).1 p (in_contains ps p c)

-- ---- M7

or_first : Option Counted → Option Counted → Option Counted
or_first None b = b
or_first (Some a) b = Some a

kept_first : (b : Bool) (c : Counted) (o r : Option Counted)
    → or_first (if not (is_some o) && b then Some c else o) r ≡ or_first o (if b then Some c else r)
unfolding or_first
kept_first true c None r = refl
kept_first false c None r = refl
kept_first b c (Some x) r = refl

-- the first of these parts that takes too much
taken_in : (w : List ℕ → Written) (ps : List Part) (v : Survey) → (notes w v ps).taken ≡ or_first v.taken (first_over MOST_PARAMETERS (taken_counts ps))
unfolding or_first
taken_in w [] v = no_more v.taken
  where
    no_more : (o : Option Counted) → o ≡ or_first o None
    no_more None = refl
    no_more (Some c) = refl
taken_in w (a_body at n ∷ ps) v = taken_in w ps (note w v (a_body at n)) ∙ kept_first (nat_lt MOST_PARAMETERS n) (record { count = n; at = at }) v.taken (first_over MOST_PARAMETERS (taken_counts ps))
taken_in w (a_case at n ∷ ps) v = taken_in w ps (note w v (a_case at n)) ∙ kept_first (nat_lt MOST_PARAMETERS n) (record { count = n; at = at }) v.taken (first_over MOST_PARAMETERS (taken_counts ps))
taken_in w (a_print at n ∷ ps) v = taken_in w ps (note w v (a_print at n)) ∙ kept_first (nat_lt MOST_PARAMETERS n) (record { count = n; at = at }) v.taken (first_over MOST_PARAMETERS (taken_counts ps))
taken_in w (a_type n ∷ ps) v = taken_in w ps (note w v (a_type n))
taken_in w (a_scope ns ∷ ps) v = taken_in w ps (note w v (a_scope ns))
taken_in w (a_content noncopyable n ∷ ps) v = taken_in w ps (note w v (a_content noncopyable n))
taken_in w (a_lifetime allowed at ∷ ps) v = taken_in w ps (note w v (a_lifetime allowed at))
taken_in w (a_parameter s mode n ∷ ps) v = taken_in w ps (note w v (a_parameter s mode n))
taken_in w (a_method noncopyable s mode ∷ ps) v = taken_in w ps (note w v (a_method noncopyable s mode))
taken_in w (a_top n ∷ ps) v = taken_in w ps (note w v (a_top n))
taken_in w (a_main plain at ∷ ps) v = taken_in w ps (note w v (a_main plain at))
taken_in w (no_main at ∷ ps) v = taken_in w ps (note w v (no_main at))

pub taken_is : (w : List ℕ → Written) (ps : List Part) → (notes w nothing ps).taken ≡ first_over MOST_PARAMETERS (taken_counts ps)
unfolding or_first
taken_is w ps = taken_in w ps nothing

-- ---- M6: the bodies, while there are fewer than 2^64

bodies_in : (w : List ℕ → Written) (ps : List Part) (v : Survey) → v.bodies + length (body_places ps) < 2 ^ 64 → (notes w v ps).bodies ≡ v.bodies + length (body_places ps)
bodies_in w [] v few = omega arith
bodies_in w (a_body at n ∷ ps) v few =
    let one : (note w v (a_body at n)).bodies ≡ suc v.bodies = omega (arith, few) in
    bodies_in w ps (note w v (a_body at n)) (omega (arith, one, few)) ∙ omega (arith, one)
bodies_in w (a_case at n ∷ ps) v few = bodies_in w ps (note w v (a_case at n)) few
bodies_in w (a_print at n ∷ ps) v few = bodies_in w ps (note w v (a_print at n)) few
bodies_in w (a_type n ∷ ps) v few = bodies_in w ps (note w v (a_type n)) few
bodies_in w (a_scope ns ∷ ps) v few = bodies_in w ps (note w v (a_scope ns)) few
bodies_in w (a_content noncopyable n ∷ ps) v few = bodies_in w ps (note w v (a_content noncopyable n)) few
bodies_in w (a_lifetime allowed at ∷ ps) v few = bodies_in w ps (note w v (a_lifetime allowed at)) few
bodies_in w (a_parameter s mode n ∷ ps) v few = bodies_in w ps (note w v (a_parameter s mode n)) few
bodies_in w (a_method noncopyable s mode ∷ ps) v few = bodies_in w ps (note w v (a_method noncopyable s mode)) few
bodies_in w (a_top n ∷ ps) v few = bodies_in w ps (note w v (a_top n)) few
bodies_in w (a_main plain at ∷ ps) v few = bodies_in w ps (note w v (a_main plain at)) few
bodies_in w (no_main at ∷ ps) v few = bodies_in w ps (note w v (no_main at)) few

pub bodies_are : (w : List ℕ → Written) (ps : List Part) → length (body_places ps) < 2 ^ 64 → (notes w nothing ps).bodies ≡ length (body_places ps)
bodies_are w ps few = bodies_in w ps nothing (omega (arith, few)) ∙ omega arith

apart : (a b : ℕ) → (a ≡ b → ⊥) → nat_eq a b ≡ false
apart a b no_path = by (nat_eq a b) refl
  where
    by : (c : Bool) → nat_eq a b ≡ c → nat_eq a b ≡ false
    by true e = absurd (no_path ((Decides-eqb a b).0 e))
    by false e = e

-- the first body past the limit
extra_past : (w : List ℕ → Written) (ps : List Part) (v : Survey) → MOST_BODIES < v.bodies → v.bodies + length (body_places ps) < 2 ^ 64 → (notes w v ps).extra_body ≡ v.extra_body
extra_past w [] v past few = refl
extra_past w (a_body at n ∷ ps) v past few =
    let one : (note w v (a_body at n)).bodies ≡ suc v.bodies = omega (arith, few) in
    let other : nat_eq v.bodies MOST_BODIES ≡ false = apart v.bodies MOST_BODIES (λ e. omega (arith, e, past)) in
    extra_past w ps (note w v (a_body at n)) (omega (arith, one, past)) (omega (arith, one, few)) ∙ rw other refl
extra_past w (a_case at n ∷ ps) v past few = extra_past w ps (note w v (a_case at n)) past few
extra_past w (a_print at n ∷ ps) v past few = extra_past w ps (note w v (a_print at n)) past few
extra_past w (a_type n ∷ ps) v past few = extra_past w ps (note w v (a_type n)) past few
extra_past w (a_scope ns ∷ ps) v past few = extra_past w ps (note w v (a_scope ns)) past few
extra_past w (a_content noncopyable n ∷ ps) v past few = extra_past w ps (note w v (a_content noncopyable n)) past few
extra_past w (a_lifetime allowed at ∷ ps) v past few = extra_past w ps (note w v (a_lifetime allowed at)) past few
extra_past w (a_parameter s mode n ∷ ps) v past few = extra_past w ps (note w v (a_parameter s mode n)) past few
extra_past w (a_method noncopyable s mode ∷ ps) v past few = extra_past w ps (note w v (a_method noncopyable s mode)) past few
extra_past w (a_top n ∷ ps) v past few = extra_past w ps (note w v (a_top n)) past few
extra_past w (a_main plain at ∷ ps) v past few = extra_past w ps (note w v (a_main plain at)) past few
extra_past w (no_main at ∷ ps) v past few = extra_past w ps (note w v (no_main at)) past few

extra_in : (w : List ℕ → Written) (ps : List Part) (v : Survey) (k : ℕ) → v.bodies + k ≡ MOST_BODIES → v.extra_body ≡ None → v.bodies + length (body_places ps) < 2 ^ 64
    → (notes w v ps).extra_body ≡ slice_get (body_places ps) k
extra_in w [] v k left none few = none
extra_in w (a_body at n ∷ ps) v zero left none few =
    let one : (note w v (a_body at n)).bodies ≡ suc v.bodies = omega (arith, few) in
    let here : nat_eq v.bodies MOST_BODIES ≡ true = (Decides-eqb v.bodies MOST_BODIES).1 (omega (arith, left)) in
    extra_past w ps (note w v (a_body at n)) (omega (arith, one, left)) (omega (arith, one, few)) ∙ rw here refl
extra_in w (a_body at n ∷ ps) v (suc k) left none few =
    let one : (note w v (a_body at n)).bodies ≡ suc v.bodies = omega (arith, few) in
    let other : nat_eq v.bodies MOST_BODIES ≡ false = apart v.bodies MOST_BODIES (λ e. omega (arith, e, left)) in
    extra_in w ps (note w v (a_body at n)) k (omega (arith, one, left)) (rw other none) (omega (arith, one, few))
extra_in w (a_case at n ∷ ps) v k left none few = extra_in w ps (note w v (a_case at n)) k left none few
extra_in w (a_print at n ∷ ps) v k left none few = extra_in w ps (note w v (a_print at n)) k left none few
extra_in w (a_type n ∷ ps) v k left none few = extra_in w ps (note w v (a_type n)) k left none few
extra_in w (a_scope ns ∷ ps) v k left none few = extra_in w ps (note w v (a_scope ns)) k left none few
extra_in w (a_content noncopyable n ∷ ps) v k left none few = extra_in w ps (note w v (a_content noncopyable n)) k left none few
extra_in w (a_lifetime allowed at ∷ ps) v k left none few = extra_in w ps (note w v (a_lifetime allowed at)) k left none few
extra_in w (a_parameter s mode n ∷ ps) v k left none few = extra_in w ps (note w v (a_parameter s mode n)) k left none few
extra_in w (a_method noncopyable s mode ∷ ps) v k left none few = extra_in w ps (note w v (a_method noncopyable s mode)) k left none few
extra_in w (a_top n ∷ ps) v k left none few = extra_in w ps (note w v (a_top n)) k left none few
extra_in w (a_main plain at ∷ ps) v k left none few = extra_in w ps (note w v (a_main plain at)) k left none few
extra_in w (no_main at ∷ ps) v k left none few = extra_in w ps (note w v (no_main at)) k left none few

pub extra_is : (w : List ℕ → Written) (ps : List Part) → length (body_places ps) < 2 ^ 64 → (notes w nothing ps).extra_body ≡ slice_get (body_places ps) MOST_BODIES
extra_is w ps few = extra_in w ps nothing MOST_BODIES refl refl (omega (arith, few))

-- With any number of bodies the count is cut off at the largest that a word holds.
pub bodies_cut : (w : List ℕ → Written) (ps : List Part) (v : Survey) → v.bodies ≤ 2 ^ 64 - 1 → (notes w v ps).bodies ≡ min (v.bodies + length (body_places ps)) (2 ^ 64 - 1)
bodies_cut w [] v low = omega (arith, low)
bodies_cut w (a_body at n ∷ ps) v low =
    let one : (note w v (a_body at n)).bodies ≡ min (v.bodies + 1) (2 ^ 64 - 1) = refl in
    bodies_cut w ps (note w v (a_body at n)) (omega (arith, one)) ∙ omega (arith, one, low)
bodies_cut w (a_case at n ∷ ps) v low = bodies_cut w ps (note w v (a_case at n)) low
bodies_cut w (a_print at n ∷ ps) v low = bodies_cut w ps (note w v (a_print at n)) low
bodies_cut w (a_type n ∷ ps) v low = bodies_cut w ps (note w v (a_type n)) low
bodies_cut w (a_scope ns ∷ ps) v low = bodies_cut w ps (note w v (a_scope ns)) low
bodies_cut w (a_content noncopyable n ∷ ps) v low = bodies_cut w ps (note w v (a_content noncopyable n)) low
bodies_cut w (a_lifetime allowed at ∷ ps) v low = bodies_cut w ps (note w v (a_lifetime allowed at)) low
bodies_cut w (a_parameter s mode n ∷ ps) v low = bodies_cut w ps (note w v (a_parameter s mode n)) low
bodies_cut w (a_method noncopyable s mode ∷ ps) v low = bodies_cut w ps (note w v (a_method noncopyable s mode)) low
bodies_cut w (a_top n ∷ ps) v low = bodies_cut w ps (note w v (a_top n)) low
bodies_cut w (a_main plain at ∷ ps) v low = bodies_cut w ps (note w v (a_main plain at)) low
bodies_cut w (no_main at ∷ ps) v low = bodies_cut w ps (note w v (no_main at)) low

pub bodies_fit : (w : List ℕ → Written) (ps : List Part) → ((notes w nothing ps).bodies ≡ 2 ^ 64 - 1 → ⊥) → length (body_places ps) < 2 ^ 64
bodies_fit w ps not_cut = elim (cut_or (length (body_places ps))) [
  | inl few ↦ few
  | inr many ↦ absurd (not_cut (let is = bodies_cut w ps nothing (omega arith) in omega (arith, is, many)))
]
  where
    cut_or : (n : ℕ) → (n < 2 ^ 64) ⊎ (2 ^ 64 ≤ n)
    cut_or n = by (nat_lt n (2 ^ 64)) refl
      where
        by : (b : Bool) → nat_lt n (2 ^ 64) ≡ b → (n < 2 ^ 64) ⊎ (2 ^ 64 ≤ n)
        by true e = inl (ltb-true n (2 ^ 64) e)
        by false e = inr (ltb-false n (2 ^ 64) e)
