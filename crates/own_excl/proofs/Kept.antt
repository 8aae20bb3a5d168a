-- Of breaks in order the first of each is kept, which has the least cause. So what is kept are the findings.
use Rattle.std.proofs.Common.{◌≡◌, ℕ, ◌<◌, Bool, true, false, if◌then◌else◌, Some, None, List, [], ◌∷◌, map, length, get_or, slice_get, option_map, inl, inr, refl, sym, ap, ◌∙◌, subst, arith}
use Rattle.std.specs.Prelude.{Contains, IsSortedByKey, IsPermutation}
use Rattle.std.specs.declared.cmp.Ordering.{Ordering}
use Rattle.std.specs.declared.cmp.Ordering.TheVariants.{Less, Equal, Greater}
use Rattle.std.specs.Ordering.{nat_cmp, ordering_then, is_eq}
use Rattle.std.proofs.lemmas.Bool.{false≢true}
use Rattle.std.proofs.lemmas.Cmp.{ranked, by_ranked, tied_itself}
use Rattle.std.proofs.lemmas.Option.{slice_get-map, slice_get_read}
use Rattle.std.proofs.lemmas.List.Sorted.{IsPermutation-sym, IsPermutation-map, Contains-permutation}
use Rattle.own_tree.specs.declared.finding.Finding.{Finding}
use Rattle.own_tree.specs.declared.span.Span.{Span}
use Rattle.own_tree.specs.declared.typed.Body.{Body}
use Rattle.own_tree.specs.declared.typed.Typed.{Typed}
use Rattle.own_tree.specs.TypedSource.{TBody, Program}
use Rattle.own_tree.specs.TypedView.{body_view, program_view}
use Rattle.own_paths.specs.Fixed.{fixed_breaks}
use Rattle.own_paths.specs.Findings.{IsNotAfter, Precedes, Rising, IsSameBreak, IsLeastOf, AreFixedFindings}
use Rattle.own_paths.proofs.Orders.{findings_are_ordered, neither_after}
use Rattle.own_shapes.specs.Types.{Types}
use Rattle.own_shapes.proofs.Lists.{In, in_contains, contains_in}
use Rattle.own_excl.specs.declared.breaks.Break.{Break}
use Rattle.own_excl.specs.View.{break_view}
use Rattle.own_excl.specs.Found.{block_found}
use Rattle.own_excl.specs.Order.{break_cmp, cause_cmp, finding_cmp, is_same_break, kept_after}
use Rattle.own_excl.proofs.Totals.{total}
use Rattle.own_excl.proofs.Breaking.{found_total}
use Rattle.own_excl.proofs.Ordered.{precedes_less, same_equal, equal_same, finding_total, UpTo, not_after_on, same_precedes, up_to_on, Ordered, ordered}

-- ---- breaks that stand for others

-- Each of the first is one of the second, and for each of the second one of the first is the same break with a cause
-- that is not after.
pub record Stands (xs ys : List Finding) : Type 0 where
  pub within : (f : Finding) → In xs f → In ys f
  pub below : (g : Finding) → In ys g → (f : Finding) × In xs f × IsSameBreak f g × IsNotAfter f.cause g.cause

same_finding : (f g : Finding) → IsSameBreak f g → f.cause ≡ g.cause → f ≡ g
same_finding f g same cause = λ j. record { rule = same.0 j; span = same.1 j; place = same.2 j; cause = cause j }

back : (f g : Finding) → IsSameBreak f g → IsSameBreak g f
back f g same = (sym same.0, sym same.1, sym same.2)

onward : (f g h : Finding) → IsSameBreak f g → IsSameBreak g h → IsSameBreak f h
onward f g h a b = (a.0 ∙ b.0, a.1 ∙ b.1, a.2 ∙ b.2)

pub least_out : (xs ys : List Finding) → Stands xs ys → (f : Finding) → IsLeastOf xs f → IsLeastOf ys f
least_out xs ys s f l = record {
  is_one = contains_in ys f (s.within f (in_contains xs f l.is_one));
  least = λ g there same.
      let h = s.below g (in_contains ys g there) in
      not_after_on f.cause h.0.cause g.cause (l.least h.0 (contains_in xs h.0 h.1) (onward f g h.0 same (back h.0 g h.2))) h.3;
}

pub least_in : (xs ys : List Finding) → Stands xs ys → (f : Finding) → IsLeastOf ys f → IsLeastOf xs f
least_in xs ys s f l =
    let h = s.below f (in_contains ys f l.is_one) in
    let there = contains_in ys h.0 (s.within h.0 h.1) in
    let cause = neither_after h.0.cause f.cause h.3 (l.least h.0 there (back h.0 f h.2)) in
    record {
      is_one = subst (Contains xs) (same_finding h.0 f h.2 cause) (contains_in xs h.0 h.1);
      least = λ g here same. l.least g (contains_in ys g (s.within g (in_contains xs g here))) same;
    }

pub stands_on : (xs ys zs : List Finding) → Stands xs ys → Stands ys zs → Stands xs zs
stands_on xs ys zs a b = record {
  within = λ f h. b.within f (a.within f h);
  below = λ g h.
      let y = b.below g h in
      let x = a.below y.0 y.1 in
      (x.0, x.1, onward x.0 y.0 g x.2 y.2, not_after_on x.0.cause y.0.cause g.cause x.3 y.3);
}

-- those with the same elements
pub same_stand : (xs ys : List Finding) → ((f : Finding) → In xs f → In ys f) → ((f : Finding) → In ys f → In xs f) → Stands xs ys
same_stand xs ys out back = record { within = out; below = λ g h. (g, back g h, (refl, refl, refl), inl refl) }

-- ---- elements by their weights

abbrev is_it : Finding → Finding → ℕ
is_it f g = if is_eq (finding_cmp f g) then 1 else 0

in_total : (f : Finding) (xs : List Finding) → In xs f → 0 < total (is_it f) xs
in_total f [] h = absurd h
in_total f (x ∷ xs) (inl e) =
    let one : is_it f x ≡ 1 = ap (λ g. is_it f g) e ∙ ap (λ o. if is_eq o then 1 else 0) (tied_itself finding_total f) in
    omega (arith, one)
in_total f (x ∷ xs) (inr h) = let later = in_total f xs h in omega (arith, later)

equal_parts : (o p : Ordering) → is_eq (ordering_then o p) ≡ true → (o ≡ Equal) × (p ≡ Equal)
equal_parts Less p e = absurd (false≢true e)
equal_parts Greater p e = absurd (false≢true e)
equal_parts Equal Less e = absurd (false≢true e)
equal_parts Equal Greater e = absurd (false≢true e)
equal_parts Equal Equal e = (refl, refl)

number_is : (a b : ℕ) → nat_cmp a b ≡ Equal → a ≡ b
number_is a b e =
    by_ranked (a < b) (a ≡ b) (b < a) (nat_cmp a b) (ranked a b (nat_cmp a b) refl)
    (λ less h. absurd (false≢true (ap is_eq (sym less ∙ e)))) (λ same h. h) (λ more h. absurd (false≢true (ap is_eq (sym more ∙ e))))

same_span : (a b : Span) → a.start ≡ b.start → a.end ≡ b.end → a ≡ b
same_span a b p q = λ j. record { start = p j; end = q j }

it_is : (f g : Finding) → is_eq (finding_cmp f g) ≡ true → f ≡ g
it_is f g e =
    let parts = equal_parts (break_cmp f g) (cause_cmp f g) e in
    let causes = equal_parts (nat_cmp f.cause.start g.cause.start) (nat_cmp f.cause.end g.cause.end) (ap is_eq parts.1) in
    same_finding f g (equal_same f g parts.0)
    (same_span f.cause g.cause (number_is f.cause.start g.cause.start causes.0) (number_is f.cause.end g.cause.end causes.1))

total_in : (f : Finding) (xs : List Finding) → 0 < total (is_it f) xs → In xs f
total_in f [] h = absurd (omega (arith, h))
total_in f (x ∷ xs) h = by (is_eq (finding_cmp f x)) refl (total_in f xs)
  where
    by : (b : Bool) → is_eq (finding_cmp f x) ≡ b → (0 < total (is_it f) xs → In xs f) → In (x ∷ xs) f
    by true e later = inl (sym (it_is f x e))
    by false e later =
        let none : is_it f x ≡ 0 = ap (λ c. if c then 1 else 0) e in
        inr (later (omega (arith, none, h)))

-- lists that weigh the same, whatever the weights
pub weigh_same : (xs ys : List Finding) → ((w : Finding → ℕ) → total w xs ≡ total w ys) → Stands xs ys
weigh_same xs ys same =
    same_stand xs ys (λ f h. total_in f ys (subst (λ n. 0 < n) (same (is_it f)) (in_total f xs h)))
    (λ f h. total_in f xs (subst (λ n. 0 < n) (sym (same (is_it f))) (in_total f ys h)))

pub moved_stand : (xs ys : List Finding) → IsPermutation xs ys → Stands ys xs
moved_stand xs ys moved =
    same_stand ys xs (λ f h. in_contains xs f (Contains-permutation ys xs f (IsPermutation-sym xs ys moved) (contains_in ys f h)))
    (λ f h. in_contains ys f (Contains-permutation xs ys f moved (contains_in xs f h)))

-- ---- what is kept

skip : (last g : Finding) (gs : List Finding) → Ordered (last ∷ g ∷ gs) → Ordered (last ∷ gs)
skip last g [] o = tt
skip last g (h ∷ hs) o = (up_to_on last g h o.0 o.1.0, o.1.1)

distinct : (f g : Finding) → UpTo f g → is_same_break f g ≡ false → Precedes f g
distinct f g (inl before) differ = before
distinct f g (inr same) differ = absurd (false≢true (sym differ ∙ ap is_eq (same_equal f g same.0)))

rising : (last : Finding) (fs : List Finding) → Ordered (last ∷ fs) → Rising (last ∷ kept_after (Some last) fs)
rising last [] o = tt
rising last (g ∷ gs) o = by (is_same_break last g) refl (rising last gs) (rising g gs)
  where
    by : (b : Bool) → is_same_break last g ≡ b → (Ordered (last ∷ gs) → Rising (last ∷ kept_after (Some last) gs)) → (Ordered (g ∷ gs) → Rising (g ∷ kept_after (Some g) gs))
        → Rising (last ∷ (if b then kept_after (Some last) gs else g ∷ kept_after (Some g) gs))
    by true e on from_next = on (skip last g gs o)
    by false e on from_next = (distinct last g o.0 e, from_next o.1)

kept_within : (last : Finding) (fs : List Finding) (f : Finding) → In (kept_after (Some last) fs) f → In fs f
kept_within last [] f h = absurd h
kept_within last (g ∷ gs) f h = by (is_same_break last g) (kept_within last gs f) (kept_within g gs f) h
  where
    by : (b : Bool) → (In (kept_after (Some last) gs) f → In gs f) → (In (kept_after (Some g) gs) f → In gs f)
        → In (if b then kept_after (Some last) gs else g ∷ kept_after (Some g) gs) f → In (g ∷ gs) f
    by true on from_next h = inr (on h)
    by false on from_next (inl e) = inl e
    by false on from_next (inr h) = inr (from_next h)

abbrev Below : List Finding → Finding → Type 0
Below xs g = (f : Finding) × In xs f × IsSameBreak f g × IsNotAfter f.cause g.cause

itself : (f : Finding) (xs : List Finding) → Below (f ∷ xs) f
itself f xs = (f, inl refl, (refl, refl, refl), inl refl)

further : (x : Finding) (xs : List Finding) (g : Finding) → Below xs g → Below (x ∷ xs) g
further x xs g b = (b.0, inr b.1, b.2, b.3)

-- a break that repeats the last one has a cause that is not before its
alike : (last g : Finding) → UpTo last g → is_same_break last g ≡ true → IsSameBreak last g × IsNotAfter last.cause g.cause
alike last g (inr same) is = same
alike last g (inl before) is = absurd (false≢true (ap is_eq (sym (precedes_less last g before)) ∙ is))

abbrev KeptBelow : Finding → List Finding → Finding → Type 0
KeptBelow last fs g = Ordered (last ∷ fs) → In fs g → Below (last ∷ kept_after (Some last) fs) g

kept_below : (last : Finding) (fs : List Finding) (g : Finding) → KeptBelow last fs g
kept_below last [] g o h = absurd h
kept_below last (x ∷ xs) g o h = by (is_same_break last x) refl (kept_below last xs g) (kept_below x xs g) h
  where
    by : (b : Bool) → is_same_break last x ≡ b → KeptBelow last xs g → KeptBelow x xs g → In (x ∷ xs) g
        → Below (last ∷ (if b then kept_after (Some last) xs else x ∷ kept_after (Some x) xs)) g
    by true e on from_next (inl is) = let both = alike last x o.0 e in subst (Below (last ∷ kept_after (Some last) xs)) is (last, inl refl, both.0, both.1)
    by true e on from_next (inr later) = on (skip last x xs o) later
    by false e on from_next (inl is) = subst (Below (last ∷ x ∷ kept_after (Some x) xs)) is (further last (x ∷ kept_after (Some x) xs) x (itself x (kept_after (Some x) xs)))
    by false e on from_next (inr later) = further last (x ∷ kept_after (Some x) xs) g (from_next o.1 later)

pub kept_stand : (fs : List Finding) → Ordered fs → Stands (kept_after None fs) fs
kept_stand [] o = record { within = λ f h. h; below = λ g h. absurd h }
kept_stand (x ∷ xs) o = record { within = out; below = under }
  where
    out : (f : Finding) → In (x ∷ kept_after (Some x) xs) f → In (x ∷ xs) f
    out f (inl e) = inl e
    out f (inr h) = inr (kept_within x xs f h)

    under : (g : Finding) → In (x ∷ xs) g → Below (x ∷ kept_after (Some x) xs) g
    under g (inl e) = subst (Below (x ∷ kept_after (Some x) xs)) e (itself x (kept_after (Some x) xs))
    under g (inr h) = kept_below x xs g o h

pub kept_rising : (fs : List Finding) → Ordered fs → Rising (kept_after None fs)
kept_rising [] o = tt
kept_rising (x ∷ xs) o = rising x xs o

-- ---- in a list that rises each is the one of its break

rest_rises : (x : Finding) (xs : List Finding) → Rising (x ∷ xs) → Rising xs
rest_rises x [] r = tt
rest_rises x (y ∷ ys) r = r.1

first_precedes : (x : Finding) (xs : List Finding) → Rising (x ∷ xs) → (g : Finding) → In xs g → Precedes x g
first_precedes x [] r g h = absurd h
first_precedes x (y ∷ ys) r g (inl e) = subst (Precedes x) e r.0
first_precedes x (y ∷ ys) r g (inr h) = findings_are_ordered.onward x y g r.0 (first_precedes y ys r.1 g h)

only_one : (xs : List Finding) → Rising xs → (f g : Finding) → In xs f → In xs g → IsSameBreak f g → f ≡ g
only_one [] r f g a b same = absurd a
only_one (x ∷ xs) r f g (inl d) (inl e) same = sym d ∙ e
only_one (x ∷ xs) r f g (inl d) (inr b) same =
    absurd (findings_are_ordered.apart g (same_precedes g f g (back f g same) (subst (λ z. Precedes z g) d (first_precedes x xs r g b))))
only_one (x ∷ xs) r f g (inr a) (inl e) same =
    absurd (findings_are_ordered.apart f (same_precedes f g f same (subst (λ z. Precedes z f) e (first_precedes x xs r f a))))
only_one (x ∷ xs) r f g (inr a) (inr b) same = only_one xs (rest_rises x xs r) f g a b same

least_itself : (xs : List Finding) → Rising xs → (f : Finding) → Contains xs f → IsLeastOf xs f
least_itself xs r f c = record {
  is_one = c;
  least = λ g there same. inl (ap (λ (x : Finding). x.cause) (only_one xs r f g (in_contains xs f c) (in_contains xs g there) same));
}

-- ---- the findings of a body

-- the body of a number, as it is read
pub body_there : (typed : Typed) (k : ℕ) (x : Body) (body : TBody) → k < length typed.bodies → x ≡ get_or typed.bodies k x
    → slice_get (program_view typed).bodies k ≡ Some body → body_view x ≡ body
body_there typed k x body within is at =
    let read = slice_get_read typed.bodies (length typed.bodies) k x (λ i. length typed.bodies) within is in
    let seen = sym (slice_get-map body_view typed.bodies k ∙ ap (option_map body_view) read) ∙ at in
    cc

pub findings_are : (types : Types) (program : Program) (k : ℕ) (body : TBody) (breaks sorted : List Break)
    → map break_view breaks ≡ block_found types program k body.block → IsPermutation breaks sorted → IsSortedByKey break_view finding_cmp sorted
    → AreFixedFindings types program k body (kept_after None (map break_view sorted))
findings_are types program k body breaks sorted are moved up =
    let in_order = ordered sorted up in
    let all = map break_view sorted in
    let found = block_found types program k body.block in
    let wanted = fixed_breaks types program k body in
    let kept = kept_after None all in
    let moved_all = moved_stand (map break_view breaks) all (IsPermutation-map break_view breaks sorted moved) in
    let stand = stands_on kept all wanted (kept_stand all in_order)
    (stands_on all found wanted (subst (λ fs. Stands all fs) are moved_all) (weigh_same found wanted (found_total types program k body))) in
    record {
      all = λ f. (λ c. least_out kept wanted stand f (least_itself kept (kept_rising all in_order) f c), λ l. (least_in kept wanted stand f l).is_one);
      rising = kept_rising all in_order;
    }
