-- Forms of a type are in one order, so one of them at most is the first that is missing.
use Rattle.std.proofs.Common.{◌≡◌, ℕ, zero, suc, ◌<◌, ◌⊎◌, ℤ, ◌<ℤ◌, Bool, true, false, List, inl, inr, refl, sym, ap, ◌∙◌, subst, arith, int_cmp, Ordering, Less, Equal, Greater}
use Rattle.std.specs.Ordering.{MatchOrdering}
use Rattle.std.specs.Cmp.{int_ranks}
use Rattle.own_tree.specs.TypedSource.{TPat, any, bind, of_case, of_number, of_truth, TPats, no_pats, pat}
use Rattle.own_shapes.specs.Types.{Shape, Shapes, no_shapes, Payloads, no_payloads, payloads}
use Rattle.own_shapes.specs.Types as shape
use Rattle.own_match.specs.Forms.{inside, IsForm, IsFormOfCase, AreForms, ComesBefore, AllComeBefore, IsMissing, IsFirst}
use Rattle.own_match.specs.Laws.{ValuesHaveForms, FormsAreOrdered, FormsAreApart, FirstMissingIsOne}
use Rattle.own_match.proofs.Covered.{has_form}
use Rattle.own_match.proofs.Order.{apart_from_itself}

abbrev Three : TPat → TPat → Type 0
Three f g = ComesBefore f g ⊎ ((f ≡ g) ⊎ ComesBefore g f)

abbrev AllThree : TPats → TPats → Type 0
AllThree fs gs = AllComeBefore fs gs ⊎ ((fs ≡ gs) ⊎ AllComeBefore gs fs)

numbers : (n m : ℤ) → Three (of_number n) (of_number m)
numbers n m = by_order (int_cmp n m) (int_ranks n m)
  where
    by_order : (o : Ordering) → MatchOrdering o (n <ℤ m) (n ≡ m) (m <ℤ n) → Three (of_number n) (of_number m)
    by_order Less h = inl h
    by_order Equal h = inr (inl (ap of_number h))
    by_order Greater h = inr (inr h)

truths : (a b : Bool) → Three (of_truth a) (of_truth b)
truths true true = inr (inl refl)
truths true false = inr (inr tt)
truths false true = inl tt
truths false false = inr (inl refl)

compared : (j k : ℕ) → (j < k) ⊎ ((j ≡ k) ⊎ (k < j))
compared zero zero = inr (inl refl)
compared zero (suc k) = inl (omega arith)
compared (suc j) zero = inr (inr (omega arith))
compared (suc j) (suc k) = later (compared j k)
  where
    later : (j < k) ⊎ ((j ≡ k) ⊎ (k < j)) → (suc j < suc k) ⊎ ((suc j ≡ suc k) ⊎ (suc k < suc j))
    later (inl l) = inl (omega (arith, l))
    later (inr (inl e)) = inr (inl (ap suc e))
    later (inr (inr l)) = inr (inr (omega (arith, l)))

cases : (j k : ℕ) (fs gs : TPats) → (j ≡ k → AllThree fs gs) → Three (of_case j fs) (of_case k gs)
cases j k fs gs same = by_order (compared j k)
  where
    by_parts : j ≡ k → AllThree fs gs → Three (of_case j fs) (of_case k gs)
    by_parts e (inl h) = inl (inr (e, h))
    by_parts e (inr (inl h)) = inr (inl (ap (λ i. of_case i fs) e ∙ ap (of_case k) h))
    by_parts e (inr (inr h)) = inr (inr (inr (sym e, h)))

    by_order : (j < k) ⊎ ((j ≡ k) ⊎ (k < j)) → Three (of_case j fs) (of_case k gs)
    by_order (inl h) = inl (inl h)
    by_order (inr (inl h)) = by_parts h (same h)
    by_order (inr (inr h)) = inr (inr (inl h))

both : (f g : TPat) (fs gs : TPats) → Three f g → AllThree fs gs → AllThree (pat f fs) (pat g gs)
both f g fs gs (inl h) r = inl (inl h)
both f g fs gs (inr (inr h)) r = inr (inr (inl h))
both f g fs gs (inr (inl e)) (inl h) = inl (inr (e, h))
both f g fs gs (inr (inl e)) (inr (inl h)) = inr (inl (ap (λ x. pat x fs) e ∙ ap (pat g) h))
both f g fs gs (inr (inl e)) (inr (inr h)) = inr (inr (inr (sym e, h)))

abbrev Numbers : List TPat → TPat → TPat → Type 0
Numbers ps f g = IsForm shape.number ps f → IsForm shape.number ps g → Three f g

number_forms : (ps : List TPat) (f g : TPat) → Numbers ps f g
number_forms ps any any a b = inr (inl refl)
number_forms ps any (of_number m) a b = inr (inr tt)
number_forms ps (of_number n) any a b = inl tt
number_forms ps (of_number n) (of_number m) a b = numbers n m
number_forms ps (bind x) g a b = absurd a
number_forms ps (of_case c fs) g a b = absurd a
number_forms ps (of_truth t) g a b = absurd a
number_forms ps any (bind x) a b = absurd b
number_forms ps any (of_case c fs) a b = absurd b
number_forms ps any (of_truth t) a b = absurd b
number_forms ps (of_number n) (bind x) a b = absurd b
number_forms ps (of_number n) (of_case c fs) a b = absurd b
number_forms ps (of_number n) (of_truth t) a b = absurd b

truth_forms : (ps : List TPat) (f g : TPat) → IsForm shape.truth ps f → IsForm shape.truth ps g → Three f g
truth_forms ps (of_truth a) (of_truth b) h k = truths a b
truth_forms ps any g h k = absurd h
truth_forms ps (bind x) g h k = absurd h
truth_forms ps (of_number n) g h k = absurd h
truth_forms ps (of_case c fs) g h k = absurd h
truth_forms ps (of_truth a) any h k = absurd k
truth_forms ps (of_truth a) (bind x) h k = absurd k
truth_forms ps (of_truth a) (of_number n) h k = absurd k
truth_forms ps (of_truth a) (of_case c fs) h k = absurd k

-- a type that no pattern looks into
abbrev AnyAlone : (TPat → Type 0) → Type 0
AnyAlone P = (f : TPat) → P f → f ≡ any

alone : (P : TPat → Type 0) → AnyAlone P → (f g : TPat) → P f → P g → Three f g
alone P only f g a b = inr (inl (only f a ∙ sym (only g b)))

module _ (s : Shape) (ps : List TPat) where
  abbrev Plain : Type 0
  Plain = (IsForm s ps (bind 0) → ⊥) × ((x : ℕ) → IsForm s ps (bind x) → ⊥) × ((c : ℕ) (fs : TPats) → IsForm s ps (of_case c fs) → ⊥) × ((n : ℤ) → IsForm s ps (of_number n) → ⊥) × ((b : Bool) → IsForm s ps (of_truth b) → ⊥)

  plain_any : Plain → AnyAlone (IsForm s ps)
  plain_any none any h = refl
  plain_any none (bind x) h = absurd (none.1 x h)
  plain_any none (of_case c fs) h = absurd (none.2 c fs h)
  plain_any none (of_number n) h = absurd (none.3 n h)
  plain_any none (of_truth b) h = absurd (none.4 b h)

mutual
  ordered : (s : Shape) (ps : List TPat) (f g : TPat) → IsForm s ps f → IsForm s ps g → Three f g
  ordered shape.number ps f g a b = number_forms ps f g a b
  ordered shape.truth ps f g a b = truth_forms ps f g a b
  ordered shape.no_value ps f g a b = alone (IsForm shape.no_value ps) (plain_any shape.no_value ps (λ h. h, λ x h. h, λ c fs h. h, λ n h. h, λ b h. h)) f g a b
  ordered shape.closure ps f g a b = alone (IsForm shape.closure ps) (plain_any shape.closure ps (λ h. h, λ x h. h, λ c fs h. h, λ n h. h, λ b h. h)) f g a b
  ordered (shape.struct h fields) ps f g a b = alone (IsForm (shape.struct h fields) ps) (plain_any (shape.struct h fields) ps (λ h. h, λ x h. h, λ c fs h. h, λ n h. h, λ b h. h)) f g a b
  ordered (shape.enum h cs) ps (of_case j fs) (of_case k gs) a b = cases j k fs gs (λ e. case_ordered cs j j ps fs gs a (subst (λ i. IsFormOfCase cs i i ps gs) (sym e) b))
  ordered (shape.enum h cs) ps any g a b = absurd a
  ordered (shape.enum h cs) ps (bind x) g a b = absurd a
  ordered (shape.enum h cs) ps (of_number n) g a b = absurd a
  ordered (shape.enum h cs) ps (of_truth t) g a b = absurd a
  ordered (shape.enum h cs) ps (of_case j fs) any a b = absurd b
  ordered (shape.enum h cs) ps (of_case j fs) (bind x) a b = absurd b
  ordered (shape.enum h cs) ps (of_case j fs) (of_number n) a b = absurd b
  ordered (shape.enum h cs) ps (of_case j fs) (of_truth t) a b = absurd b

  case_ordered : (cs : Payloads) (j k : ℕ) (ps : List TPat) (fs gs : TPats) → IsFormOfCase cs j k ps fs → IsFormOfCase cs j k ps gs → AllThree fs gs
  case_ordered no_payloads j k ps fs gs a b = absurd a
  case_ordered (payloads ss cs) zero k ps fs gs a b = all_ordered ss k 0 ps fs gs a b
  case_ordered (payloads ss cs) (suc j) k ps fs gs a b = case_ordered cs j k ps fs gs a b

  all_ordered : (ss : Shapes) (k i : ℕ) (ps : List TPat) (fs gs : TPats) → AreForms ss k i ps fs → AreForms ss k i ps gs → AllThree fs gs
  all_ordered no_shapes k i ps no_pats no_pats a b = inr (inl refl)
  all_ordered no_shapes k i ps (pat f fs) gs a b = absurd a
  all_ordered no_shapes k i ps no_pats (pat g gs) a b = absurd b
  all_ordered (shape.shape s ss) k i ps no_pats gs a b = absurd a
  all_ordered (shape.shape s ss) k i ps (pat f fs) no_pats a b = absurd b
  all_ordered (shape.shape s ss) k i ps (pat f fs) (pat g gs) a b =
      both f g fs gs (ordered s (inside k i ps) f g a.0 b.0) (all_ordered ss k (suc i) ps fs gs a.1 b.1)

-- ---- the laws

pub values_have_forms : ValuesHaveForms
values_have_forms = has_form

pub forms_are_ordered : FormsAreOrdered
forms_are_ordered = ordered

pub forms_are_apart : FormsAreApart
forms_are_apart = apart_from_itself

not_earlier : (s : Shape) (ps : List TPat) (f g : TPat) → IsMissing s ps f → IsFirst s ps g → ComesBefore f g → ⊥
not_earlier s ps f g a b earlier = let v = a.some in a.none v.0 v.1 v.2 (b f a.form earlier v.0 v.1 v.2)

pub first_missing_is_one : FirstMissingIsOne
first_missing_is_one s ps f g a first_f b first_g = elim (ordered s ps f g a.form b.form) [
  | inl h ↦ absurd (not_earlier s ps f g a first_g h)
  | inr h ↦ elim h [ inl e ↦ e | inr k ↦ absurd (not_earlier s ps g f b first_f k) ]
]
