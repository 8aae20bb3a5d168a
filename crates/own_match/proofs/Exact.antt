-- The search is exact: it gives the first forms that no live pattern matches, and none where there are no such.
use Rattle.std.proofs.Common.{◌≡◌, ◌↔◌, ℕ, zero, suc, ◌+◌, ◌<◌, ◌⊎◌, ◌≤◌, ℤ, pos, ◌<ℤ◌, Bool, true, false, ◌||◌, ◌&&◌, List, [], ◌∷◌, Option, Some, None, if◌then◌else◌, inl, inr, refl, sym, ap, ◌∙◌, subst, arith, ◌-◌, eq-or-lt_of_le, zero-add, add-zero}
use Rattle.std.proofs.lemmas.Option.{same_Some, none-some}
use Rattle.std.specs.Cmp.{int_chain}
use Rattle.std.specs.Int.Signed.{<ℤ_irrefl}
use Rattle.own_tree.specs.TypedSource.{TPat, any, bind, of_case, of_number, of_truth, TPats, no_pats, pat}
use Rattle.own_shapes.specs.Types.{TypeHead, Shape, Shapes, no_shapes, Payloads, no_payloads, payloads}
use Rattle.own_shapes.specs.Types as shape
use Rattle.own_table.specs.HasValue.{has_value, all_have_values, one_has_values}
use Rattle.own_match.specs.declared.head.Head.{Head}
use Rattle.own_match.specs.declared.head.Head.TheVariants as head
use Rattle.own_match.specs.Values.{Val, int, bool, opaque, struct, variant, Vals, no_vals, val, IsOf, IsOfCase, AreOf, Matches}
use Rattle.own_match.specs.Forms.{inside, literals, IsForm, IsFormOfCase, AreForms, StandsFor, AllStandFor, ComesBefore, AllComeBefore}
use Rattle.own_match.specs.Laws.{HasValueIsExact}
use Rattle.own_match.specs.Search.{narrowed, rising, or_else, led, front, back, gathered, count, Later, gap_in_numbers, gap_in_truths, gap_where, gap, gap_in_cases, gap_in_payloads, Column, any_live, gap_end, gap_columns}
use Rattle.own_match.proofs.Order.{In, contains_in, in_contains, Above, Rises, rising_rises, rising_in, in_rising, fresh, fresh_apart, apart_from_itself}
use Rattle.own_match.proofs.Tuples.{TupleOf, Forms, Stand, CellMatches, IsLive, Matched, column, before, join, join_vals, front_vals, back_vals, join_front_back, tuple_front, tuple_join, forms_front, forms_join, stand_front, stand_join, row_join, row_parts, join_before, join_same}
use Rattle.own_match.proofs.Narrow.{false_true, CellAccepts, narrowed_live, live_narrowed, number_matches, matches_number, truth_matches, matches_truth, anything_matches, matches_struct, matches_opaque, matches_other, case_parts, parts_case}

-- ---- what is said of a search over some of the forms

abbrev pub Class : Type 1
Class = TPats → Type 0

abbrev pub AllMatched : List Column → List Bool → TPats → Type 0
AllMatched cs live fs = (vs : Vals) → TupleOf cs vs → Stand cs fs vs → Matched cs live vs

pub record Gap (A : TPats → Type 0) (cs : List Column) (live : List Bool) (fs : TPats) : Type 0 where
  pub one_of : A fs
  pub forms : Forms cs fs
  pub some : (vs : Vals) × TupleOf cs vs × Stand cs fs vs
  pub none : (vs : Vals) → TupleOf cs vs → Stand cs fs vs → Matched cs live vs → ⊥
  pub first : (gs : TPats) → A gs → Forms cs gs → AllComeBefore gs fs → AllMatched cs live gs

abbrev pub Good : (TPats → Type 0) → List Column → List Bool → Option TPats → Type 0
Good A cs live None = (gs : TPats) → A gs → Forms cs gs → AllMatched cs live gs
Good A cs live (Some fs) = Gap A cs live fs

abbrev pub Everything : TPats → Type 0
Everything fs = Unit {0}

abbrev pub Exact : List Column → List Bool → Option TPats → Type 0
Exact cs live r = Good Everything cs live r

-- ---- one class after the other

module _ (A B : TPats → Type 0) (cs : List Column) (live : List Bool) where
  good_or_else : (r s : Option TPats) → Good A cs live r → Good B cs live s
      → ((f g : TPats) → A f → B g → AllComeBefore g f → ⊥) → Good (λ f. A f ⊎ B f) cs live (or_else r s)
  good_or_else None None a b apart = both
    where
      both : (gs : TPats) → A gs ⊎ B gs → Forms cs gs → AllMatched cs live gs
      both gs (inl h) = a gs h
      both gs (inr h) = b gs h
  good_or_else None (Some gs) a b apart = record {
    one_of = inr b.one_of;
    forms = b.forms;
    some = b.some;
    none = b.none;
    first = first;
  }
    where
      first : (hs : TPats) → A hs ⊎ B hs → Forms cs hs → AllComeBefore hs gs → AllMatched cs live hs
      first hs (inl h) forms earlier = a hs h forms
      first hs (inr h) forms earlier = b.first hs h forms earlier
  good_or_else (Some fs) s a b apart = record {
    one_of = inl a.one_of;
    forms = a.forms;
    some = a.some;
    none = a.none;
    first = first;
  }
    where
      first : (hs : TPats) → A hs ⊎ B hs → Forms cs hs → AllComeBefore hs fs → AllMatched cs live hs
      first hs (inl h) forms earlier = a.first hs h forms earlier
      first hs (inr h) forms earlier = absurd (apart fs hs a.one_of h earlier)

  -- the classes have the same forms
  good_as : (r : Option TPats) → Good A cs live r → ((f : TPats) → A f → B f) → ((f : TPats) → Forms cs f → B f → A f) → Good B cs live r
  good_as None a into from = λ gs h forms. a gs (from gs forms h) forms
  good_as (Some fs) a into from = record {
    one_of = into fs a.one_of;
    forms = a.forms;
    some = a.some;
    none = a.none;
    first = λ gs h forms. a.first gs (from gs forms h) forms;
  }

-- ---- a form without payloads

abbrev StartsWith : TPat → TPats → Type 0
StartsWith f no_pats = ⊥
StartsWith f (pat g gs) = g ≡ f

record Leads (s : Shape) (cells : List TPat) (h : Head) (f : TPat) : Type 0 where
  form : IsForm s cells f
  some : (v : Val) × IsOf s v × StandsFor cells f v
  down : (v : Val) → IsOf s v → StandsFor cells f v → (i : ℕ) → CellMatches cells i v → CellAccepts h cells i
  up : (v : Val) → IsOf s v → StandsFor cells f v → (i : ℕ) → CellAccepts h cells i → CellMatches cells i v

module _ (s : Shape) (cells : List TPat) (cs : List Column) (live : List Bool) (h : Head) (f : TPat) (leads : Leads s cells h f) where
  lead_matched : (g : TPat) (gs : TPats) → g ≡ f → AllMatched cs (narrowed h live cells) gs → AllMatched (column s cells ∷ cs) live (pat g gs)
  lead_matched g gs e all no_vals t st = absurd t
  lead_matched g gs e all (val v vs) t st =
      let m = all vs t.1 st.1 in
      let n = narrowed_live h live cells m.0 m.1 in
      (m.0, n.0, (leads.up v t.0 (subst (λ x. StandsFor cells x v) e st.0) m.0 n.1, m.2))

  good_led : (r : Option TPats) → Exact cs (narrowed h live cells) r → Good (StartsWith f) (column s cells ∷ cs) live (led f r)
  good_led None a = all
    where
      all : (gs : TPats) → StartsWith f gs → Forms (column s cells ∷ cs) gs → AllMatched (column s cells ∷ cs) live gs
      all no_pats e forms = absurd e
      all (pat g gs) e forms = lead_matched g gs e (a gs tt forms.1)
  good_led (Some fs) a = record {
    one_of = refl;
    forms = (leads.form, a.forms);
    some = (val leads.some.0 a.some.0, (leads.some.1, a.some.1), (leads.some.2, a.some.2));
    none = none;
    first = first;
  }
    where
      none : (vs : Vals) → TupleOf (column s cells ∷ cs) vs → Stand (column s cells ∷ cs) (pat f fs) vs → Matched (column s cells ∷ cs) live vs → ⊥
      none no_vals t st m = t
      none (val v vs) t st m =
          a.none vs t.1 st.1 (m.0, live_narrowed h live cells m.0 m.1 (leads.down v t.0 st.0 m.0 m.2.0), m.2.1)

      first : (gs : TPats) → StartsWith f gs → Forms (column s cells ∷ cs) gs → AllComeBefore gs (pat f fs) → AllMatched (column s cells ∷ cs) live gs
      first no_pats e forms earlier = absurd e
      first (pat g gs) e forms (inl earlier) = absurd (apart_from_itself f (subst (λ x. ComesBefore x f) e earlier))
      first (pat g gs) e forms (inr earlier) = lead_matched g gs e (a.first gs tt forms.1 earlier.1)

-- ---- what the heads stand for

literal_leads : (cells : List TPat) (n : ℤ) → In (literals cells) n → Leads shape.number cells (head.Number n) (of_number n)
literal_leads cells n i = record {
  form = contains_in (literals cells) n i;
  some = (int n, tt, refl);
  down = down;
  up = up;
}
  where
    down : (v : Val) → IsOf shape.number v → StandsFor cells (of_number n) v → (k : ℕ) → CellMatches cells k v → CellAccepts (head.Number n) cells k
    down (int m) t e k c = (c.0, c.1, matches_number n c.0 (subst (λ x. Matches c.0 (int x)) (sym e) c.2))
    down (bool b) t e k c = absurd t
    down opaque t e k c = absurd t
    down (struct vs) t e k c = absurd t
    down (variant j vs) t e k c = absurd t

    up : (v : Val) → IsOf shape.number v → StandsFor cells (of_number n) v → (k : ℕ) → CellAccepts (head.Number n) cells k → CellMatches cells k v
    up (int m) t e k c = (c.0, c.1, subst (λ x. Matches c.0 (int x)) e (number_matches n c.0 c.2))
    up (bool b) t e k c = absurd t
    up opaque t e k c = absurd t
    up (struct vs) t e k c = absurd t
    up (variant j vs) t e k c = absurd t

other_leads : (cells : List TPat) → Leads shape.number cells head.Other any
other_leads cells = record {
  form = tt;
  some = (int (fresh (literals cells)), tt, λ c. fresh_apart (literals cells) (in_contains (literals cells) _ c));
  down = down;
  up = λ v t st k c. (c.0, c.1, anything_matches c.0 v c.2);
}
  where
    down : (v : Val) → IsOf shape.number v → StandsFor cells any v → (k : ℕ) → CellMatches cells k v → CellAccepts head.Other cells k
    down (int m) t st k c = (c.0, c.1, matches_other cells k c.0 m c.1 (λ i. st (contains_in (literals cells) m i)) c.2)
    down (bool b) t st k c = absurd t
    down opaque t st k c = absurd t
    down (struct vs) t st k c = absurd t
    down (variant j vs) t st k c = absurd t

truth_leads : (cells : List TPat) (b : Bool) → Leads shape.truth cells (head.Truth b) (of_truth b)
truth_leads cells b = record {
  form = tt;
  some = (bool b, tt, refl);
  down = down;
  up = up;
}
  where
    down : (v : Val) → IsOf shape.truth v → StandsFor cells (of_truth b) v → (k : ℕ) → CellMatches cells k v → CellAccepts (head.Truth b) cells k
    down (bool c) t e k m = (m.0, m.1, matches_truth b m.0 (subst (λ x. Matches m.0 (bool x)) (sym e) m.2))
    down (int n) t e k m = absurd t
    down opaque t e k m = absurd t
    down (struct vs) t e k m = absurd t
    down (variant j vs) t e k m = absurd t

    up : (v : Val) → IsOf shape.truth v → StandsFor cells (of_truth b) v → (k : ℕ) → CellAccepts (head.Truth b) cells k → CellMatches cells k v
    up (bool c) t e k m = (m.0, m.1, subst (λ x. Matches m.0 (bool x)) e (truth_matches b m.0 m.2))
    up (int n) t e k m = absurd t
    up opaque t e k m = absurd t
    up (struct vs) t e k m = absurd t
    up (variant j vs) t e k m = absurd t

no_value_leads : (cells : List TPat) → Leads shape.no_value cells head.Other any
no_value_leads cells = record {
  form = tt;
  some = (opaque, tt, tt);
  down = down;
  up = λ v t st k c. (c.0, c.1, anything_matches c.0 v c.2);
}
  where
    down : (v : Val) → IsOf shape.no_value v → StandsFor cells any v → (k : ℕ) → CellMatches cells k v → CellAccepts head.Other cells k
    down opaque t st k c = (c.0, c.1, matches_opaque c.0 c.2)
    down (int n) t st k c = absurd t
    down (bool b) t st k c = absurd t
    down (struct vs) t st k c = absurd t
    down (variant j vs) t st k c = absurd t

closure_leads : (cells : List TPat) → Leads shape.closure cells head.Other any
closure_leads cells = record {
  form = tt;
  some = (opaque, tt, tt);
  down = down;
  up = λ v t st k c. (c.0, c.1, anything_matches c.0 v c.2);
}
  where
    down : (v : Val) → IsOf shape.closure v → StandsFor cells any v → (k : ℕ) → CellMatches cells k v → CellAccepts head.Other cells k
    down opaque t st k c = (c.0, c.1, matches_opaque c.0 c.2)
    down (int n) t st k c = absurd t
    down (bool b) t st k c = absurd t
    down (struct vs) t st k c = absurd t
    down (variant j vs) t st k c = absurd t

struct_leads : (h : TypeHead) (fields : Shapes) (cells : List TPat) → (vs : Vals) → AreOf fields vs → Leads (shape.struct h fields) cells head.Other any
struct_leads h fields cells vs are = record {
  form = tt;
  some = (struct vs, are, tt);
  down = down;
  up = λ v t st k c. (c.0, c.1, anything_matches c.0 v c.2);
}
  where
    down : (v : Val) → IsOf (shape.struct h fields) v → StandsFor cells any v → (k : ℕ) → CellMatches cells k v → CellAccepts head.Other cells k
    down (struct vs) t st k c = (c.0, c.1, matches_struct c.0 vs c.2)
    down (int n) t st k c = absurd t
    down (bool b) t st k c = absurd t
    down opaque t st k c = absurd t
    down (variant j vs) t st k c = absurd t

-- ---- types that have a value

Lives : Shape → Bool → Type 0
Lives s true = (v : Val) × IsOf s v
Lives s false = (v : Val) → IsOf s v → ⊥

AllLive : Shapes → Bool → Type 0
AllLive ss true = (vs : Vals) × AreOf ss vs
AllLive ss false = (vs : Vals) → AreOf ss vs → ⊥

CaseLives : Payloads → Bool → Type 0
CaseLives cases true = (k : ℕ) × (vs : Vals) × IsOfCase cases k vs
CaseLives cases false = (k : ℕ) (vs : Vals) → IsOfCase cases k vs → ⊥

struct_lives : (h : TypeHead) (fields : Shapes) (b : Bool) → AllLive fields b → Lives (shape.struct h fields) b
unfolding Lives AllLive
struct_lives h fields true l = (struct l.0, l.1)
struct_lives h fields false l = none
  where
    none : (v : Val) → IsOf (shape.struct h fields) v → ⊥
    none (struct vs) t = l vs t
    none (int n) t = t
    none (bool b) t = t
    none opaque t = t
    none (variant k vs) t = t

enum_lives : (h : TypeHead) (cases : Payloads) (b : Bool) → CaseLives cases b → Lives (shape.enum h cases) b
unfolding Lives CaseLives
enum_lives h cases true l = (variant l.0 l.1, l.2)
enum_lives h cases false l = none
  where
    none : (v : Val) → IsOf (shape.enum h cases) v → ⊥
    none (variant k vs) t = l k vs t
    none (int n) t = t
    none (bool b) t = t
    none opaque t = t
    none (struct vs) t = t

both_live : (s : Shape) (ss : Shapes) (a b : Bool) → Lives s a → AllLive ss b → AllLive (shape.shape s ss) (a && b)
unfolding Lives AllLive
both_live s ss true true l m = (val l.0 m.0, (l.1, m.1))
both_live s ss true false l m = none
  where
    none : (vs : Vals) → AreOf (shape.shape s ss) vs → ⊥
    none no_vals t = t
    none (val v vs) t = m vs t.1
both_live s ss false b l m = none
  where
    none : (vs : Vals) → AreOf (shape.shape s ss) vs → ⊥
    none no_vals t = t
    none (val v vs) t = l v t.0

either_lives : (ss : Shapes) (cases : Payloads) (a b : Bool) → AllLive ss a → CaseLives cases b → CaseLives (payloads ss cases) (a || b)
unfolding AllLive CaseLives
either_lives ss cases true b l m = (zero, l.0, l.1)
either_lives ss cases false true l m = (suc m.0, m.1, m.2)
either_lives ss cases false false l m = none
  where
    none : (k : ℕ) (vs : Vals) → IsOfCase (payloads ss cases) k vs → ⊥
    none zero vs t = l vs t
    none (suc k) vs t = m k vs t

one_lives : (s : Shape) (v : Val) → IsOf s v → Lives s true
unfolding Lives
one_lives s v t = (v, t)

none_of_none : AllLive no_shapes true
unfolding AllLive
none_of_none = (no_vals, tt)

no_case_lives : CaseLives no_payloads false
unfolding CaseLives
no_case_lives k vs t = t

mutual
  lives : (s : Shape) → Lives s (has_value s)
  lives shape.number = one_lives shape.number (int (pos 0)) tt
  lives shape.truth = one_lives shape.truth (bool true) tt
  lives shape.no_value = one_lives shape.no_value opaque tt
  lives shape.closure = one_lives shape.closure opaque tt
  lives (shape.struct h fields) = struct_lives h fields (all_have_values fields) (all_live fields)
  lives (shape.enum h cases) = enum_lives h cases (one_has_values cases) (case_lives cases)

  all_live : (ss : Shapes) → AllLive ss (all_have_values ss)
  all_live no_shapes = none_of_none
  all_live (shape.shape s ss) = both_live s ss (has_value s) (all_have_values ss) (lives s) (all_live ss)

  case_lives : (cases : Payloads) → CaseLives cases (one_has_values cases)
  case_lives no_payloads = no_case_lives
  case_lives (payloads ss cases) = either_lives ss cases (all_have_values ss) (one_has_values cases) (all_live ss) (case_lives cases)

pub no_values : (ss : Shapes) → all_have_values ss ≡ false → (vs : Vals) → AreOf ss vs → ⊥
unfolding AllLive
no_values ss e = subst (λ b. AllLive ss b) e (all_live ss)

pub has_value_is_exact : HasValueIsExact
unfolding Lives
has_value_is_exact s = by_bit (has_value s) (lives s)
  where
    by_bit : (b : Bool) → Lives s b → b ≡ true ↔ ((v : Val) × IsOf s v)
    by_bit true l = (λ e. l, λ v. refl)
    by_bit false l = (λ e. false_true e, λ v. absurd (l v.0 v.1))

-- ---- numbers

abbrev InNumbers : List ℤ → TPats → Type 0
InNumbers ns no_pats = ⊥
InNumbers ns (pat f fs) = ((n : ℤ) × In ns n × (f ≡ of_number n)) ⊎ (f ≡ any)

not_before : (n : ℤ) (f : TPat) (ns : List ℤ) → Above n ns → ((m : ℤ) × In ns m × (f ≡ of_number m)) ⊎ (f ≡ any) → ComesBefore f (of_number n) → ⊥
not_before n f ns above (inr e) earlier = subst (λ x. ComesBefore x (of_number n)) e earlier
not_before n f [] above (inl (m, i, e)) earlier = i
not_before n f (k ∷ ns) above (inl (m, inl i, e)) earlier =
    let l : m <ℤ n = subst (λ x. ComesBefore x (of_number n)) e earlier in <ℤ_irrefl (int_chain n k n above.0 (subst (λ x. x <ℤ n) (sym i) l))
not_before n f (k ∷ ns) above (inl (m, inr i, e)) earlier = not_before n f ns above.1 (inl (m, i, e)) earlier

differ : (n : ℤ) (f : TPat) (ns : List ℤ) → Above n ns → ((m : ℤ) × In ns m × (f ≡ of_number m)) ⊎ (f ≡ any) → f ≡ of_number n → ⊥
differ n f ns above (inr e) same = absurd (clash (sym e ∙ same))
  where
    clash : any ≡ of_number n → ⊥
    clash e = cc
differ n f [] above (inl (m, i, e)) same = i
differ n f (k ∷ ns) above (inl (m, inl i, e)) same = <ℤ_irrefl (subst (λ x. n <ℤ x) (i ∙ numbers (sym e ∙ same)) above.0)
  where
    numbers : of_number m ≡ of_number n → m ≡ n
    numbers e = cc
differ n f (k ∷ ns) above (inl (m, inr i, e)) same = differ n f ns above.1 (inl (m, i, e)) same

module _ (cells : List TPat) (cs : List Column) (next : Later) (exact : (live : List Bool) → Exact cs live (next live)) (live : List Bool) where
  good_numbers : (ns : List ℤ) → Rises ns → ((n : ℤ) → In ns n → In (literals cells) n)
      → Good (InNumbers ns) (column shape.number cells ∷ cs) live (gap_in_numbers ns cells next live)
  good_numbers [] rises known =
      good_as (StartsWith any) (InNumbers []) (column shape.number cells ∷ cs) live (led any (next (narrowed head.Other live cells)))
      (good_led shape.number cells cs live head.Other any (other_leads cells) (next (narrowed head.Other live cells)) (exact (narrowed head.Other live cells))) into from
    where
      into : (f : TPats) → StartsWith any f → InNumbers [] f
      into no_pats e = e
      into (pat f fs) e = inr e

      from : (f : TPats) → Forms (column shape.number cells ∷ cs) f → InNumbers [] f → StartsWith any f
      from no_pats forms e = e
      from (pat f fs) forms (inl (m, i, e)) = absurd i
      from (pat f fs) forms (inr e) = e
  good_numbers (n ∷ ns) rises known =
      good_as (λ f. StartsWith (of_number n) f ⊎ InNumbers ns f) (InNumbers (n ∷ ns)) (column shape.number cells ∷ cs) live (gap_in_numbers (n ∷ ns) cells next live)
      (good_or_else (StartsWith (of_number n)) (InNumbers ns) (column shape.number cells ∷ cs) live (led (of_number n) (next (narrowed (head.Number n) live cells))) (gap_in_numbers ns cells next live)
      (good_led shape.number cells cs live (head.Number n) (of_number n) (literal_leads cells n (known n (inl refl))) (next (narrowed (head.Number n) live cells)) (exact (narrowed (head.Number n) live cells)))
      (good_numbers ns rises.1 (λ m i. known m (inr i))) apart) into from
    where
      apart : (f g : TPats) → StartsWith (of_number n) f → InNumbers ns g → AllComeBefore g f → ⊥
      apart no_pats g e h earlier = e
      apart (pat f fs) no_pats e h earlier = h
      apart (pat f fs) (pat g gs) e h (inl earlier) = not_before n g ns rises.0 h (subst (λ x. ComesBefore g x) e earlier)
      apart (pat f fs) (pat g gs) e h (inr earlier) = differ n g ns rises.0 h (earlier.0 ∙ e)

      into : (f : TPats) → StartsWith (of_number n) f ⊎ InNumbers ns f → InNumbers (n ∷ ns) f
      into no_pats (inl e) = e
      into no_pats (inr e) = e
      into (pat f fs) (inl e) = inl (n, inl refl, e)
      into (pat f fs) (inr (inl (m, i, e))) = inl (m, inr i, e)
      into (pat f fs) (inr (inr e)) = inr e

      from : (f : TPats) → Forms (column shape.number cells ∷ cs) f → InNumbers (n ∷ ns) f → StartsWith (of_number n) f ⊎ InNumbers ns f
      from no_pats forms e = inl e
      from (pat f fs) forms (inl (m, inl i, e)) = inl (e ∙ ap of_number (sym i))
      from (pat f fs) forms (inl (m, inr i, e)) = inr (inl (m, i, e))
      from (pat f fs) forms (inr e) = inr (inr e)

  number_exact : Exact (column shape.number cells ∷ cs) live (gap_in_numbers (rising cells) cells next live)
  number_exact =
      good_as (InNumbers (rising cells)) Everything (column shape.number cells ∷ cs) live (gap_in_numbers (rising cells) cells next live)
      (good_numbers (rising cells) (rising_rises cells) (in_rising cells)) (λ f e. tt) from
    where
      from : (f : TPats) → Forms (column shape.number cells ∷ cs) f → Unit {0} → InNumbers (rising cells) f
      from no_pats forms e = forms
      from (pat any fs) forms e = inr refl
      from (pat (of_number n) fs) forms e = inl (n, rising_in cells n (in_contains (literals cells) n forms.0), refl)
      from (pat (bind x) fs) forms e = absurd forms.0
      from (pat (of_case k gs) fs) forms e = absurd forms.0
      from (pat (of_truth b) fs) forms e = absurd forms.0

  truth_exact : Exact (column shape.truth cells ∷ cs) live (gap_in_truths cells next live)
  truth_exact =
      good_as (λ f. StartsWith (of_truth false) f ⊎ StartsWith (of_truth true) f) Everything (column shape.truth cells ∷ cs) live (gap_in_truths cells next live)
      (good_or_else (StartsWith (of_truth false)) (StartsWith (of_truth true)) (column shape.truth cells ∷ cs) live (led (of_truth false) (next (narrowed (head.Truth false) live cells))) (led (of_truth true) (next (narrowed (head.Truth true) live cells)))
      (one_truth false) (one_truth true) apart) (λ f e. tt) from
    where
      one_truth : (b : Bool) → Good (StartsWith (of_truth b)) (column shape.truth cells ∷ cs) live (led (of_truth b) (next (narrowed (head.Truth b) live cells)))
      one_truth b = good_led shape.truth cells cs live (head.Truth b) (of_truth b) (truth_leads cells b) (next (narrowed (head.Truth b) live cells)) (exact (narrowed (head.Truth b) live cells))

      different : of_truth true ≡ of_truth false → ⊥
      different e = cc

      apart : (f g : TPats) → StartsWith (of_truth false) f → StartsWith (of_truth true) g → AllComeBefore g f → ⊥
      apart no_pats g e h earlier = e
      apart (pat f fs) no_pats e h earlier = h
      apart (pat f fs) (pat g gs) e h (inl earlier) = subst (λ x. ComesBefore x (of_truth false)) h (subst (λ x. ComesBefore g x) e earlier)
      apart (pat f fs) (pat g gs) e h (inr earlier) = different (sym h ∙ earlier.0 ∙ e)

      by_truth : (b : Bool) (fs : TPats) → StartsWith (of_truth false) (pat (of_truth b) fs) ⊎ StartsWith (of_truth true) (pat (of_truth b) fs)
      by_truth true fs = inr refl
      by_truth false fs = inl refl

      from : (f : TPats) → Forms (column shape.truth cells ∷ cs) f → Unit {0} → StartsWith (of_truth false) f ⊎ StartsWith (of_truth true) f
      from no_pats forms e = inl forms
      from (pat (of_truth b) fs) forms e = by_truth b fs
      from (pat any fs) forms e = absurd forms.0
      from (pat (of_number n) fs) forms e = absurd forms.0
      from (pat (bind x) fs) forms e = absurd forms.0
      from (pat (of_case k gs) fs) forms e = absurd forms.0

-- ---- types that patterns do not look into

module _ (s : Shape) (cells : List TPat) (cs : List Column) (next : Later) (exact : (live : List Bool) → Exact cs live (next live)) (live : List Bool)
    (only_any : (f : TPat) → IsForm s cells f → f ≡ any) where
  where_live : Leads s cells head.Other any → Exact (column s cells ∷ cs) live (gap_where true cells next live)
  where_live leads =
      good_as (StartsWith any) Everything (column s cells ∷ cs) live (gap_where true cells next live)
      (good_led s cells cs live head.Other any leads (next (narrowed head.Other live cells)) (exact (narrowed head.Other live cells))) (λ f e. tt) from
    where
      from : (f : TPats) → Forms (column s cells ∷ cs) f → Unit {0} → StartsWith any f
      from no_pats forms e = forms
      from (pat f fs) forms e = only_any f forms.0

any_alone_opaque : (cells : List TPat) (f : TPat) → IsForm shape.no_value cells f → f ≡ any
any_alone_opaque cells any h = refl
any_alone_opaque cells (bind x) h = absurd h
any_alone_opaque cells (of_case c ps) h = absurd h
any_alone_opaque cells (of_number n) h = absurd h
any_alone_opaque cells (of_truth b) h = absurd h

any_alone_closure : (cells : List TPat) (f : TPat) → IsForm shape.closure cells f → f ≡ any
any_alone_closure cells any h = refl
any_alone_closure cells (bind x) h = absurd h
any_alone_closure cells (of_case c ps) h = absurd h
any_alone_closure cells (of_number n) h = absurd h
any_alone_closure cells (of_truth b) h = absurd h

any_alone_struct : (h : TypeHead) (fields : Shapes) (cells : List TPat) (f : TPat) → IsForm (shape.struct h fields) cells f → f ≡ any
any_alone_struct d fields cells any h = refl
any_alone_struct d fields cells (bind x) h = absurd h
any_alone_struct d fields cells (of_case c ps) h = absurd h
any_alone_struct d fields cells (of_number n) h = absurd h
any_alone_struct d fields cells (of_truth b) h = absurd h

struct_exact : (h : TypeHead) (fields : Shapes) (cells : List TPat) (cs : List Column) (next : Later) → ((live : List Bool) → Exact cs live (next live)) → (live : List Bool)
    → (b : Bool) → AllLive fields b → Exact (column (shape.struct h fields) cells ∷ cs) live (gap_where b cells next live)
unfolding AllLive
struct_exact h fields cells cs next exact live true l =
    where_live (shape.struct h fields) cells cs next exact live (any_alone_struct h fields cells) (struct_leads h fields cells l.0 l.1)
struct_exact h fields cells cs next exact live false l = none
  where
    none : (gs : TPats) → Unit {0} → Forms (column (shape.struct h fields) cells ∷ cs) gs → AllMatched (column (shape.struct h fields) cells ∷ cs) live gs
    none gs u forms no_vals t st = absurd t
    none gs u forms (val (struct vs) ws) t st = absurd (l vs t.0)
    none gs u forms (val (int n) ws) t st = absurd t.0
    none gs u forms (val (bool b) ws) t st = absurd t.0
    none gs u forms (val opaque ws) t st = absurd t.0
    none gs u forms (val (variant k vs) ws) t st = absurd t.0

-- ---- cases

-- the cases from number k on are these
abbrev payload_at : Payloads → ℕ → Option Shapes
payload_at no_payloads j = None
payload_at (payloads ss cases) zero = Some ss
payload_at (payloads ss cases) (suc j) = payload_at cases j

abbrev FormsAt : Option Shapes → ℕ → List TPat → TPats → Type 0
FormsAt None k ps fs = ⊥
FormsAt (Some ss) k ps fs = AreForms ss k 0 ps fs

abbrev ValuesAt : Option Shapes → Vals → Type 0
ValuesAt None vs = ⊥
ValuesAt (Some ss) vs = AreOf ss vs

forms_at : (cases : Payloads) (j k : ℕ) (ps : List TPat) (fs : TPats) → IsFormOfCase cases j k ps fs → FormsAt (payload_at cases j) k ps fs
forms_at no_payloads j k ps fs h = h
forms_at (payloads ss cases) zero k ps fs h = h
forms_at (payloads ss cases) (suc j) k ps fs h = forms_at cases j k ps fs h

at_forms : (cases : Payloads) (j k : ℕ) (ps : List TPat) (fs : TPats) → FormsAt (payload_at cases j) k ps fs → IsFormOfCase cases j k ps fs
at_forms no_payloads j k ps fs h = h
at_forms (payloads ss cases) zero k ps fs h = h
at_forms (payloads ss cases) (suc j) k ps fs h = at_forms cases j k ps fs h

values_at : (cases : Payloads) (j : ℕ) (vs : Vals) → IsOfCase cases j vs → ValuesAt (payload_at cases j) vs
values_at no_payloads j vs h = h
values_at (payloads ss cases) zero vs h = h
values_at (payloads ss cases) (suc j) vs h = values_at cases j vs h

at_values : (cases : Payloads) (j : ℕ) (vs : Vals) → ValuesAt (payload_at cases j) vs → IsOfCase cases j vs
at_values no_payloads j vs h = h
at_values (payloads ss cases) zero vs h = h
at_values (payloads ss cases) (suc j) vs h = at_values cases j vs h

-- the forms of a case, and of the cases from number k on
abbrev OfCase : ℕ → TPats → Type 0
OfCase k no_pats = ⊥
OfCase k (pat f fs) = (gs : TPats) × (f ≡ of_case k gs)

abbrev FromCase : ℕ → TPats → Type 0
FromCase k no_pats = ⊥
FromCase k (pat f fs) = (j : ℕ) × (gs : TPats) × (k ≤ j) × (f ≡ of_case j gs)

module _ (h : TypeHead) (all : Payloads) (cells : List TPat) (cs : List Column) (live : List Bool) (k : ℕ) (ss : Shapes) (at_k : payload_at all k ≡ Some ss) where
  abbrev first_column : Column
  first_column = column (shape.enum h all) cells

  case_matched : (as' gs : TPats) → AllMatched (before ss k 0 cells cs) (narrowed (head.Case k) live cells) (join as' gs) → AreForms ss k 0 cells as'
      → AllMatched (first_column ∷ cs) live (pat (of_case k as') gs)
  case_matched as' gs matched forms no_vals t st = absurd t
  case_matched as' gs matched forms (val (int n) vs) t st = absurd t.0
  case_matched as' gs matched forms (val (bool b) vs) t st = absurd t.0
  case_matched as' gs matched forms (val opaque vs) t st = absurd t.0
  case_matched as' gs matched forms (val (struct us) vs) t st = absurd t.0
  case_matched as' gs matched forms (val (variant j us) vs) t st =
      let same : j ≡ k = sym st.0.0 in
      let are : AreOf ss us = subst (λ o. ValuesAt o us) at_k (values_at all k us (subst (λ x. IsOfCase all x us) same t.0)) in
      let m = matched (join_vals us vs) (tuple_join ss k 0 cells cs us vs are t.1) (stand_join ss k 0 cells cs as' gs us vs forms st.0.1 st.1) in
      let n = narrowed_live (head.Case k) live cells m.0 m.1 in
      let r = row_parts ss m.0 k 0 cells cs us vs are m.2 in
      (m.0, n.0, (subst (λ x. CellMatches cells m.0 (variant x us)) (sym same) (parts_case cells m.0 k us n.1 r.0), r.1))

  of_this_case : (f : TPat) (fs gs : TPats) → IsForm (shape.enum h all) cells f → f ≡ of_case k gs → AreForms ss k 0 cells gs
  of_this_case f fs gs form e =
      subst (λ o. FormsAt o k cells gs) at_k (forms_at all k k cells gs (subst (λ x. IsForm (shape.enum h all) cells x) e form))

  good_gathered : (r : Option TPats) → Exact (before ss k 0 cells cs) (narrowed (head.Case k) live cells) r
      → Good (OfCase k) (first_column ∷ cs) live (gathered k (count ss) r)
  good_gathered None a = matched
    where
      matched : (gs : TPats) → OfCase k gs → Forms (first_column ∷ cs) gs → AllMatched (first_column ∷ cs) live gs
      matched no_pats e forms = absurd e
      matched (pat f fs) e forms =
          let parts = of_this_case f fs e.0 forms.0 e.1 in
          subst (λ x. AllMatched (first_column ∷ cs) live (pat x fs)) (sym e.1) (case_matched e.0 fs (a (join e.0 fs) tt (forms_join ss k 0 cells cs e.0 fs parts forms.1)) parts)
  good_gathered (Some fs) a = record {
    one_of = (front (count ss) fs, refl);
    forms = (at_forms all k k cells (front (count ss) fs) (subst (λ o. FormsAt o k cells (front (count ss) fs)) (sym at_k) ours.0), ours.1);
    some = (
      val (variant k (front_vals (count ss) a.some.0)) (back_vals (count ss) a.some.0),
      (at_values all k (front_vals (count ss) a.some.0) (subst (λ o. ValuesAt o (front_vals (count ss) a.some.0)) (sym at_k) these.0), these.1),
      ((refl, stands.0), stands.1),
    );
    none = none;
    first = first;
  }
    where
      ours : AreForms ss k 0 cells (front (count ss) fs) × Forms cs (back (count ss) fs)
      ours = forms_front ss k 0 cells cs fs a.forms

      these : AreOf ss (front_vals (count ss) a.some.0) × TupleOf cs (back_vals (count ss) a.some.0)
      these = tuple_front ss k 0 cells cs a.some.0 a.some.1

      stands : AllStandFor k 0 cells (front (count ss) fs) (front_vals (count ss) a.some.0) × Stand cs (back (count ss) fs) (back_vals (count ss) a.some.0)
      stands = stand_front ss k 0 cells cs fs a.some.0 a.some.2

      none : (vs : Vals) → TupleOf (first_column ∷ cs) vs → Stand (first_column ∷ cs) (pat (of_case k (front (count ss) fs)) (back (count ss) fs)) vs → Matched (first_column ∷ cs) live vs → ⊥
      none no_vals t st m = t
      none (val (int n) vs) t st m = t.0
      none (val (bool b) vs) t st m = t.0
      none (val opaque vs) t st m = t.0
      none (val (struct us) vs) t st m = t.0
      none (val (variant j us) vs) t st m =
          let same : j ≡ k = sym st.0.0 in
          let are : AreOf ss us = subst (λ o. ValuesAt o us) at_k (values_at all k us (subst (λ x. IsOfCase all x us) same t.0)) in
          let p = case_parts cells m.0 k us (subst (λ x. CellMatches cells m.0 (variant x us)) same m.2.0) in
          a.none (join_vals us vs) (tuple_join ss k 0 cells cs us vs are t.1)
          (subst (λ x. Stand (before ss k 0 cells cs) x (join_vals us vs)) (join_front_back (count ss) fs) (stand_join ss k 0 cells cs (front (count ss) fs) (back (count ss) fs) us vs ours.0 st.0.1 st.1))
          (m.0, live_narrowed (head.Case k) live cells m.0 m.1 p.0, row_join ss m.0 k 0 cells cs us vs are p.1 m.2.1)

      earlier_parts : (gs hs : TPats) → AllComeBefore (pat (of_case k gs) hs) (pat (of_case k (front (count ss) fs)) (back (count ss) fs)) → AllComeBefore (join gs hs) fs
      earlier_parts gs hs (inl (inl l)) = absurd (omega (arith, l))
      earlier_parts gs hs (inl (inr e)) =
          subst (λ x. AllComeBefore (join gs hs) x) (join_front_back (count ss) fs) (join_before gs (front (count ss) fs) hs (back (count ss) fs) e.1)
      earlier_parts gs hs (inr e) =
          subst (λ x. AllComeBefore (join gs hs) x) (join_front_back (count ss) fs)
          (subst (λ x. AllComeBefore (join gs hs) (join x (back (count ss) fs))) (same_parts e.0) (join_same gs hs (back (count ss) fs) e.1))
        where
          same_parts : of_case k gs ≡ of_case k (front (count ss) fs) → gs ≡ front (count ss) fs
          same_parts e = cc

      first : (gs : TPats) → OfCase k gs → Forms (first_column ∷ cs) gs → AllComeBefore gs (pat (of_case k (front (count ss) fs)) (back (count ss) fs)) → AllMatched (first_column ∷ cs) live gs
      first no_pats e forms earlier = absurd e
      first (pat g gs) e forms earlier =
          let parts = of_this_case g gs e.0 forms.0 e.1 in
          let sooner = earlier_parts e.0 gs (subst (λ x. AllComeBefore (pat x gs) (pat (of_case k (front (count ss) fs)) (back (count ss) fs))) e.1 earlier) in
          subst (λ x. AllMatched (first_column ∷ cs) live (pat x gs)) (sym e.1)
          (case_matched e.0 gs (a.first (join e.0 gs) tt (forms_join ss k 0 cells cs e.0 gs parts forms.1) sooner) parts)

-- ---- the whole search

payload_later : (all cases : Payloads) (ss : Shapes) (k : ℕ) → ((j : ℕ) → payload_at all (k + j) ≡ payload_at (payloads ss cases) j)
    → (j : ℕ) → payload_at all (suc k + j) ≡ payload_at cases j
payload_later all cases ss k same j = let e : suc k + j ≡ k + suc j = omega arith in ap (payload_at all) e ∙ same (suc j)

past_all : (h : TypeHead) (all : Payloads) (cells : List TPat) (cs : List Column) (k : ℕ) → ((j : ℕ) → payload_at all (k + j) ≡ None)
    → (gs : TPats) → FromCase k gs → Forms (column (shape.enum h all) cells ∷ cs) gs → ⊥
past_all h all cells cs k same no_pats e forms = e
past_all h all cells cs k same (pat f fs) (j, gs, le, e) forms =
    let i : k + (j - k) ≡ j = omega (arith, le) in
    subst (λ o. FormsAt o j cells gs) (sym (ap (payload_at all) i) ∙ same (j - k)) (forms_at all j j cells gs (subst (λ x. IsForm (shape.enum h all) cells x) e forms.0))

module _ (h : TypeHead) (all : Payloads) (cells : List TPat) (cs : List Column) (live : List Bool) (k : ℕ) where
  abbrev the_column : Column
  the_column = column (shape.enum h all) cells

  good_later : (ss : Shapes) (r s : Option TPats) → payload_at all k ≡ Some ss → Exact (before ss k 0 cells cs) (narrowed (head.Case k) live cells) r
      → Good (FromCase (suc k)) (the_column ∷ cs) live s → Good (FromCase k) (the_column ∷ cs) live (or_else (gathered k (count ss) r) s)
  good_later ss r s at_k a b =
      good_as (λ f. OfCase k f ⊎ FromCase (suc k) f) (FromCase k) (the_column ∷ cs) live (or_else (gathered k (count ss) r) s)
      (good_or_else (OfCase k) (FromCase (suc k)) (the_column ∷ cs) live (gathered k (count ss) r) s (good_gathered h all cells cs live k ss at_k r a) b apart) into from
    where
      cases_same : (j : ℕ) (fs gs : TPats) → of_case j gs ≡ of_case k fs → j ≡ k
      cases_same j fs gs e = cc

      apart : (f g : TPats) → OfCase k f → FromCase (suc k) g → AllComeBefore g f → ⊥
      apart no_pats g e l earlier = e
      apart (pat f fs) no_pats e l earlier = l
      apart (pat f fs) (pat g gs) (ps, e) (j, qs, le, d) (inl earlier) = not_later (subst (λ x. ComesBefore (of_case j qs) x) e (subst (λ x. ComesBefore x f) d earlier))
        where
          not_later : ComesBefore (of_case j qs) (of_case k ps) → ⊥
          not_later (inl l) = omega (arith, l, le)
          not_later (inr m) = omega (arith, m.0, le)
      apart (pat f fs) (pat g gs) (ps, e) (j, qs, le, d) (inr earlier) = omega (arith, cases_same j ps qs (sym d ∙ earlier.0 ∙ e), le)

      into : (f : TPats) → OfCase k f ⊎ FromCase (suc k) f → FromCase k f
      into no_pats (inl e) = e
      into no_pats (inr e) = e
      into (pat f fs) (inl (gs, e)) = (k, gs, omega arith, e)
      into (pat f fs) (inr (j, gs, le, e)) = (j, gs, omega (arith, le), e)

      from : (f : TPats) → Forms (the_column ∷ cs) f → FromCase k f → OfCase k f ⊎ FromCase (suc k) f
      from no_pats forms e = inl e
      from (pat f fs) forms (j, gs, le, e) = by_number (eq-or-lt_of_le le)
        where
          by_number : (k ≡ j) ⊎ (k < j) → OfCase k (pat f fs) ⊎ FromCase (suc k) (pat f fs)
          by_number (inl same) = inl (gs, e ∙ ap (λ x. of_case x gs) (sym same))
          by_number (inr l) = inr (j, gs, omega (arith, l), e)

enum_everything : (h : TypeHead) (all : Payloads) (cells : List TPat) (cs : List Column) (live : List Bool) (r : Option TPats)
    → Good (FromCase 0) (column (shape.enum h all) cells ∷ cs) live r → Exact (column (shape.enum h all) cells ∷ cs) live r
enum_everything h all cells cs live r a = good_as (FromCase 0) Everything (column (shape.enum h all) cells ∷ cs) live r a (λ f e. tt) from
  where
    from : (f : TPats) → Forms (column (shape.enum h all) cells ∷ cs) f → Unit {0} → FromCase 0 f
    from no_pats forms e = forms
    from (pat (of_case k gs) fs) forms e = (k, gs, omega arith, refl)
    from (pat any fs) forms e = absurd forms.0
    from (pat (bind x) fs) forms e = absurd forms.0
    from (pat (of_number n) fs) forms e = absurd forms.0
    from (pat (of_truth b) fs) forms e = absurd forms.0

abbrev IsExact : List Column → Later → Type 0
IsExact cs next = (live : List Bool) → Exact cs live (next live)

mutual
  pub gap_exact : (s : Shape) (cells : List TPat) (cs : List Column) (next : Later) → ((live : List Bool) → Exact cs live (next live))
      → (live : List Bool) → Exact (column s cells ∷ cs) live (gap s cells next live)
  gap_exact shape.number cells cs next exact live = number_exact cells cs next exact live
  gap_exact shape.truth cells cs next exact live = truth_exact cells cs next exact live
  gap_exact shape.no_value cells cs next exact live = where_live shape.no_value cells cs next exact live (any_alone_opaque cells) (no_value_leads cells)
  gap_exact shape.closure cells cs next exact live = where_live shape.closure cells cs next exact live (any_alone_closure cells) (closure_leads cells)
  gap_exact (shape.struct h fields) cells cs next exact live = struct_exact h fields cells cs next exact live (all_have_values fields) (all_live fields)
  gap_exact (shape.enum h cases) cells cs next exact live =
      enum_everything h cases cells cs live (gap_in_cases cases zero cells next live) (cases_exact cases h cases zero cells cs next exact live (λ j. ap (payload_at cases) (zero-add j)))

  cases_exact : (cases : Payloads) (h : TypeHead) (all : Payloads) (k : ℕ) (cells : List TPat) (cs : List Column) (next : Later) → ((live : List Bool) → Exact cs live (next live))
      → (live : List Bool) → ((j : ℕ) → payload_at all (k + j) ≡ payload_at cases j) → Good (FromCase k) (column (shape.enum h all) cells ∷ cs) live (gap_in_cases cases k cells next live)
  cases_exact no_payloads h all k cells cs next exact live same = λ gs e forms. absurd (past_all h all cells cs k same gs e forms)
  cases_exact (payloads ss cases) h all k cells cs next exact live same =
      good_later h all cells cs live k ss (gap_in_payloads ss k zero cells next (narrowed (head.Case k) live cells)) (gap_in_cases cases (suc k) cells next live)
      (sym (ap (payload_at all) (add-zero k)) ∙ same zero)
      (payloads_exact ss k zero cells cs next exact (narrowed (head.Case k) live cells))
      (cases_exact cases h all (suc k) cells cs next exact live (payload_later all cases ss k same))

  payloads_exact : (ss : Shapes) (k i : ℕ) (cells : List TPat) (cs : List Column) (next : Later) → ((live : List Bool) → Exact cs live (next live))
      → (live : List Bool) → Exact (before ss k i cells cs) live (gap_in_payloads ss k i cells next live)
  payloads_exact no_shapes k i cells cs next exact live = exact live
  payloads_exact (shape.shape s ss) k i cells cs next exact live =
      gap_exact s (inside k i cells) (before ss k (suc i) cells cs) (gap_in_payloads ss k (suc i) cells next) (payloads_exact ss k (suc i) cells cs next exact) live

-- ---- the end of the columns

some_live : (live : List Bool) → any_live live ≡ true → (i : ℕ) × IsLive live i
some_live [] e = false_true e
some_live (true ∷ live) e = (zero, refl)
some_live (false ∷ live) e = let r = some_live live e in (suc r.0, r.1)

none_live : (live : List Bool) → any_live live ≡ false → (i : ℕ) → IsLive live i → ⊥
none_live [] e i l = none-some _ l
none_live (true ∷ live) e i l = false_true (sym e)
none_live (false ∷ live) e zero l = false_true (same_Some _ _ l)
none_live (false ∷ live) e (suc i) l = none_live live e i l

end_exact : (live : List Bool) → Exact [] live (gap_end live)
end_exact live = by_live (any_live live) refl
  where
    only : (vs : Vals) → TupleOf [] vs → (i : ℕ) × IsLive live i → Matched [] live vs
    only no_vals t l = (l.0, l.1, tt)
    only (val v vs) t l = absurd t

    by_live : (b : Bool) → any_live live ≡ b → Exact [] live (if b then None else Some no_pats)
    by_live true e = λ gs u forms vs t st. only vs t (some_live live e)
    by_live false e = record {
      one_of = tt;
      forms = tt;
      some = (no_vals, tt, tt);
      none = λ vs t st m. none_live live e m.0 m.1;
      first = λ gs u forms earlier. absurd (none_first gs forms earlier);
    }
      where
        none_first : (gs : TPats) → Forms [] gs → AllComeBefore gs no_pats → ⊥
        none_first no_pats forms earlier = earlier
        none_first (pat g gs) forms earlier = forms

pub columns_exact : (cs : List Column) (live : List Bool) → Exact cs live (gap_columns cs live)
columns_exact [] live = end_exact live
columns_exact (c ∷ cs) live = gap_exact c.shape c.cells cs (gap_columns cs) (columns_exact cs) live
