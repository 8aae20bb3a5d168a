-- Patterns: which one is chosen, and what it binds.
use Rattle.std.proofs.Common.{◌≡◌, ℕ, zero, suc, Bool, true, false, List, [], ◌∷◌, ◌++◌, map, Option, Some, None, inl, inr, refl, sym, ap, ◌∙◌, subst}
use Rattle.std.specs.Prelude.{◌==◌, ◌||◌, ◌⊎◌, ℤ, slice_get}
use Rattle.std.proofs.lemmas.Bool.Decides.{Decides-eqb}
use Rattle.own_tree.specs.declared.place.Binding.{Binding}
use Rattle.own_tree.specs.declared.place.Mode.{Mode}
use Rattle.own_tree.specs.declared.place.Mode.TheVariants as mode
use Rattle.own_tree.specs.declared.place.Ty.{Ty}
use Rattle.own_tree.specs.declared.place.Ty.TheVariants as type
use Rattle.own_tree.specs.TypedSource.{TPat, any, bind, of_case, of_number, of_truth, TPats, no_pats, pat}
use Rattle.own_shapes.specs.Types.{Shape, Shapes, Payloads, no_shapes, no_payloads, payloads, shape_at, copyable, tracked}
use Rattle.own_shapes.specs.Types as shape
use Rattle.own_paths.specs.Within.{pattern_bindings, patterns_bindings}
use Rattle.own_runs.specs.Destruction.{Call}
use Rattle.own_runs.specs.Patterns.{matches, all_match, both_match, this_or, first_match, bound_parts, payload_parts, payloads_at, end_rest, end_payloads}
use Rattle.own_runs.specs.Run.{bind_as, bind_part, bind_all, owned}
use Rattle.own_runs.specs.Store.{Location, State, Act, below, holds, refers, set_slot}
use Rattle.own_ways.specs.Ways.{◌>>=◌, or_stray}
use Rattle.own_runs.specs.Values.{Val, int, bool, unit, struct, variant, hole, Vals, no_vals, val, Part, payload, Found, found}
use Rattle.own_steady.specs.Fits.{Fits, AllFit, CaseFits, HasShape, HasParts, FoundIs, part_shape, shape_along}
use Rattle.own_steady.specs.Steady.{a_value, a_place, form_by, form, own_shape, Setting, is_in, is_alias, is_loan, has_function_type, BoundSteady, PatSteady, PatsSteady, EachSteady, itself, DeinitSteady}
use Rattle.own_steady.specs.Ways.{Leads, Keeps}
use Rattle.own_steady.specs.Worlds.{Kind, maybe, owns, stands_for, World, Stands, with_kind}
use Rattle.own_steady.proofs.Destroying.{CallsKeep, Deep, AllDeep, case_deep, PartsStand, parts_stand, end_k}
use Rattle.own_steady.proofs.Seeing.{SeesTo, KindFor, KindGrows, HomeKind, Seen, Grows, world_with, bound_grows, see_more, fewer_made, with_kind_grows, stands_grows, same_grows, grows_on}
use Rattle.own_steady.proofs.Steps.{In, then_l, next_l, pure_l, pick_l, set_slot_k, read_k, move_k, below_stands}
use Rattle.own_steady.proofs.Values.{then_found, parts_append, shape_append}

-- ---- matching

both_found : (b : Bool) (o : Found Bool) → FoundIs (λ x. Unit {0}) o → FoundIs (λ x. Unit {0}) (both_match b o)
both_found true o h = h
both_found false o h = tt

case_all_fits : (cases : Payloads) (c : ℕ) (vs : Vals) → CaseFits cases c vs → AllFit (payloads_at cases c) vs
case_all_fits no_payloads c vs f = absurd f
case_all_fits (payloads ss cs) zero vs f = f
case_all_fits (payloads ss cs) (suc c) vs f = case_all_fits cs c vs f

case_both : (b : Bool) (o : Found Bool) → (b ≡ true → FoundIs (λ x. Unit {0}) o) → FoundIs (λ x. Unit {0}) (both_match b o)
case_both true o h = h refl
case_both false o h = tt

number_found : (n : ℤ) (v : Val) → Fits shape.number v → FoundIs (λ b. Unit {0}) (matches (of_number n) v)
number_found n (int m) f = tt
number_found n hole f = tt
number_found n (bool b) f = absurd f
number_found n unit f = absurd f
number_found n (struct t i vs) f = absurd f
number_found n (variant present vs) f = absurd f

truth_found : (t : Bool) (v : Val) → Fits shape.truth v → FoundIs (λ b. Unit {0}) (matches (of_truth t) v)
truth_found t (bool b) f = tt
truth_found t hole f = tt
truth_found t (int m) f = absurd f
truth_found t unit f = absurd f
truth_found t (struct n i vs) f = absurd f
truth_found t (variant present vs) f = absurd f

module _ (here : Setting) (bound : ℕ → ℕ) (k : ℕ) where
  mutual
    pub matches_fits : (p : TPat) (names : List ℕ) (s : Shape) (v : Val) → PatSteady here bound k names p s → Fits s v → FoundIs (λ b. Unit {0}) (matches p v)
    matches_fits any names s v h f = tt
    matches_fits (bind x) names s v h f = tt
    matches_fits (of_case c ps) names (shape.enum head cases) (variant present vs) h f =
        case_both (c == present) (all_match ps vs) (λ e.
        all_fits ps names (payloads_at cases c) vs h.1 (subst (λ z. AllFit (payloads_at cases z) vs) (sym ((Decides-eqb c present).0 e)) (case_all_fits cases present vs f.1)))
    matches_fits (of_case c ps) names (shape.enum head cases) hole h f = tt
    matches_fits (of_case c ps) names (shape.enum head cases) (int n) h f = absurd f
    matches_fits (of_case c ps) names (shape.enum head cases) (bool b) h f = absurd f
    matches_fits (of_case c ps) names (shape.enum head cases) unit h f = absurd f
    matches_fits (of_case c ps) names (shape.enum head cases) (struct t i vs) h f = absurd f
    matches_fits (of_case c ps) names shape.number v h f = absurd h
    matches_fits (of_case c ps) names shape.truth v h f = absurd h
    matches_fits (of_case c ps) names shape.no_value v h f = absurd h
    matches_fits (of_case c ps) names shape.closure v h f = absurd h
    matches_fits (of_case c ps) names (shape.struct head fields) v h f = absurd h
    matches_fits (of_number n) names s v h f = number_found n v (subst (λ z. Fits z v) h f)
    matches_fits (of_truth t) names s v h f = truth_found t v (subst (λ z. Fits z v) h f)

    all_fits : (ps : TPats) (names : List ℕ) (ss : Shapes) (vs : Vals) → PatsSteady here bound k names ps ss → AllFit ss vs → FoundIs (λ b. Unit {0}) (all_match ps vs)
    all_fits no_pats names no_shapes no_vals h f = tt
    all_fits no_pats names no_shapes (val v vs) h f = absurd f
    all_fits no_pats names (shape.shape s ss) vs h f = absurd h
    all_fits (pat p ps) names no_shapes vs h f = absurd h
    all_fits (pat p ps) names (shape.shape s ss) no_vals h f = absurd f
    all_fits (pat p ps) names (shape.shape s ss) (val v vs) h f =
        then_found (λ b. Unit {0}) (λ b. Unit {0}) (matches p v) (λ b. both_match b (all_match ps vs))
        (matches_fits p names s v h.0 f.0) (λ b u. both_found b (all_match ps vs) (all_fits ps (map bound (pattern_bindings p) ++ names) ss vs h.1 f.1))

-- what is known of the pattern that is chosen
abbrev pub OfChosen : (TPat → Type 0) → Option TPat → Type 0
OfChosen Q None = Unit {0}
OfChosen Q (Some p) = Q p

this_found : (Q : TPat → Type 0) (p : TPat) (b : Bool) (o : Found (Option TPat)) → Q p → FoundIs (OfChosen Q) o → FoundIs (OfChosen Q) (this_or p b o)
this_found Q p true o q h = q
this_found Q p false o q h = h

pub first_fits : (here : Setting) (k : ℕ) (ps : TPats) (names all : List ℕ) (s : Shape) (v : Val) → EachSteady here k names all ps s → Fits s v
    → FoundIs (OfChosen (λ p. PatSteady here (itself here) k names p s × (pattern_bindings p ≡ all))) (first_match ps v)
first_fits here k no_pats names all s v h f = tt
first_fits here k (pat p ps) names all s v h f =
    then_found (λ b. Unit {0}) (OfChosen (λ p. PatSteady here (itself here) k names p s × (pattern_bindings p ≡ all))) (matches p v) (λ b. this_or p b (first_match ps v))
    (matches_fits here (itself here) k p names s v h.0 f) (λ b u.
    this_found (λ p. PatSteady here (itself here) k names p s × (pattern_bindings p ≡ all)) p b (first_match ps v) (h.0, h.1) (first_fits here k ps names all s v h.2 f))

pub guarded_fits : (here : Setting) (k : ℕ) (p : TPat) (names : List ℕ) (s : Shape) (v : Val) → PatSteady here (itself here) k names p s → Fits s v
    → FoundIs (OfChosen (λ q. p ≡ q)) (first_match (pat p no_pats) v)
guarded_fits here k p names s v h f =
    then_found (λ b. Unit {0}) (OfChosen (λ q. p ≡ q)) (matches p v) (λ b. this_or p b (first_match no_pats v))
    (matches_fits here (itself here) k p names s v h f) (λ b u. this_found (λ q. p ≡ q) p b (found None) refl tt)

-- ---- the bindings of a pattern in order

abbrev pub bound_names : List (ℕ × List Part) → List ℕ → List ℕ
bound_names [] names = names
bound_names (b ∷ bs) names = bound_names bs (b.0 ∷ names)

-- each is of its part, which the shape has
abbrev pub PartsBound : Setting → (k : ℕ) → List ℕ → Shape → List (ℕ × List Part) → Type 0
PartsBound here k names s [] = Unit {0}
PartsBound here k names s (b ∷ bs) = BoundSteady here k names b.0 (shape_along s b.1) × HasParts s b.1 × PartsBound here k (b.0 ∷ names) s bs

abbrev SameNames : List ℕ → List ℕ → Type 0
SameNames xs ys = (z : ℕ) → is_in xs z ≡ is_in ys z

module _ (here : Setting) (k : ℕ) where
  steady_same : (xs ys : List ℕ) (x : ℕ) (s : Shape) → SameNames xs ys → BoundSteady here k xs x s → BoundSteady here k ys x s
  steady_same xs ys x s e h = record { binding = h.binding; declared = h.declared; body = h.body; shape = h.shape; value = h.value; mode = h.mode; fresh = sym (e x) ∙ h.fresh }

  bound_same : (xs ys : List ℕ) (s : Shape) (bs : List (ℕ × List Part)) → SameNames xs ys → PartsBound here k xs s bs → PartsBound here k ys s bs
  bound_same xs ys s [] e h = tt
  bound_same xs ys s (b ∷ bs) e h =
      (steady_same xs ys b.0 (shape_along s b.1) e h.0, h.1, bound_same (b.0 ∷ xs) (b.0 ∷ ys) s bs (λ z. ap (λ q. (b.0 == z) || q) (e z)) h.2)

  bound_append : (names : List ℕ) (s : Shape) (bs cs : List (ℕ × List Part)) → PartsBound here k names s bs → PartsBound here k (bound_names bs names) s cs → PartsBound here k names s (bs ++ cs)
  bound_append names s [] cs h g = g
  bound_append names s (b ∷ bs) cs h g = (h.0, h.1, bound_append (b.0 ∷ names) s bs cs h.2 g)

abbrev firsts : List (ℕ × List Part) → List ℕ
firsts [] = []
firsts (b ∷ bs) = b.0 ∷ firsts bs

swap_in : (a b c : Bool) → (a || (b || c)) ≡ (b || (a || c))
swap_in true true c = refl
swap_in true false c = refl
swap_in false b c = refl

in_later : (xs : List ℕ) (x : ℕ) (names : List ℕ) → SameNames (xs ++ x ∷ names) (x ∷ xs ++ names)
in_later [] x names z = refl
in_later (y ∷ xs) x names z = ap (λ q. (y == z) || q) (in_later xs x names z) ∙ swap_in (y == z) (x == z) (is_in (xs ++ names) z)

pub bound_in : (bs : List (ℕ × List Part)) (names : List ℕ) → SameNames (bound_names bs names) (firsts bs ++ names)
bound_in [] names z = refl
bound_in (b ∷ bs) names z = bound_in bs (b.0 ∷ names) z ∙ in_later (firsts bs) b.0 names z

abbrev pub moved : (ℕ → ℕ) → List (ℕ × List Part) → List (ℕ × List Part)
moved bound bs = map (λ b. (bound b.0, b.1)) bs

moved_append : (bound : ℕ → ℕ) (bs cs : List (ℕ × List Part)) → moved bound (bs ++ cs) ≡ moved bound bs ++ moved bound cs
moved_append bound [] cs = refl
moved_append bound (b ∷ bs) cs = ap (λ z. (bound b.0, b.1) ∷ z) (moved_append bound bs cs)

map_append : (bound : ℕ → ℕ) (xs ys : List ℕ) → map bound (xs ++ ys) ≡ map bound xs ++ map bound ys
map_append bound [] ys = refl
map_append bound (x ∷ xs) ys = ap (λ z. bound x ∷ z) (map_append bound xs ys)

firsts_append : (bs cs : List (ℕ × List Part)) → firsts (bs ++ cs) ≡ firsts bs ++ firsts cs
firsts_append [] cs = refl
firsts_append (b ∷ bs) cs = ap (λ z. b.0 ∷ z) (firsts_append bs cs)

mutual
  pub firsts_bound : (bound : ℕ → ℕ) (p : TPat) (way : List Part) → firsts (moved bound (bound_parts p way)) ≡ map bound (pattern_bindings p)
  firsts_bound bound any way = refl
  firsts_bound bound (bind x) way = refl
  firsts_bound bound (of_case c ps) way = firsts_payloads bound c 0 ps way
  firsts_bound bound (of_number n) way = refl
  firsts_bound bound (of_truth b) way = refl

  firsts_payloads : (bound : ℕ → ℕ) (c i : ℕ) (ps : TPats) (way : List Part) → firsts (moved bound (payload_parts c i ps way)) ≡ map bound (patterns_bindings ps)
  firsts_payloads bound c i no_pats way = refl
  firsts_payloads bound c i (pat p ps) way =
      ap firsts (moved_append bound (bound_parts p (way ++ payload c i ∷ [])) (payload_parts c (suc i) ps way))
      ∙ firsts_append (moved bound (bound_parts p (way ++ payload c i ∷ []))) (moved bound (payload_parts c (suc i) ps way))
      ∙ ap (λ z. z ++ firsts (moved bound (payload_parts c (suc i) ps way))) (firsts_bound bound p (way ++ payload c i ∷ []))
      ∙ ap (λ z. map bound (pattern_bindings p) ++ z) (firsts_payloads bound c (suc i) ps way)
      ∙ sym (map_append bound (pattern_bindings p) (patterns_bindings ps))

-- ---- payloads in order

abbrev after_payloads : ℕ → Shapes → Shapes
after_payloads zero ss = ss
after_payloads (suc k) no_shapes = no_shapes
after_payloads (suc k) (shape.shape s ss) = after_payloads k ss

at_front : (all : Shapes) (i : ℕ) (s : Shape) (ss : Shapes) → after_payloads i all ≡ shape.shape s ss → HasShape all i × (shape_at all i ≡ s) × (after_payloads (suc i) all ≡ ss)
at_front no_shapes zero s ss e = absurd (cc)
at_front no_shapes (suc i) s ss e = absurd (cc)
at_front (shape.shape t ts) zero s ss e = (tt, one, rest)
  where
    one : t ≡ s
    one = cc

    rest : ts ≡ ss
    rest = cc
at_front (shape.shape t ts) (suc i) s ss e = at_front ts i s ss e

module _ (here : Setting) (bound : ℕ → ℕ) (k : ℕ) (whole : Shape) where
  mutual
    pub parts_bound : (p : TPat) (names : List ℕ) (s : Shape) (way : List Part) → PatSteady here bound k names p s → HasParts whole way → shape_along whole way ≡ s
        → PartsBound here k names whole (moved bound (bound_parts p way))
    parts_bound any names s way h l e = tt
    parts_bound (bind x) names s way h l e = (subst (BoundSteady here k names (bound x)) (sym e) h, l, tt)
    parts_bound (of_case c ps) names (shape.enum head cases) way h l e =
        payloads_bound ps names (payloads_at cases c) c 0 head cases way h.1 l e refl
    parts_bound (of_case c ps) names shape.number way h l e = absurd h
    parts_bound (of_case c ps) names shape.truth way h l e = absurd h
    parts_bound (of_case c ps) names shape.no_value way h l e = absurd h
    parts_bound (of_case c ps) names shape.closure way h l e = absurd h
    parts_bound (of_case c ps) names (shape.struct head fields) way h l e = absurd h
    parts_bound (of_number n) names s way h l e = tt
    parts_bound (of_truth b) names s way h l e = tt

    payloads_bound : (ps : TPats) (names : List ℕ) (ss : Shapes) (c i : ℕ) (head : shape.TypeHead) (cases : Payloads) (way : List Part) → PatsSteady here bound k names ps ss
        → HasParts whole way → shape_along whole way ≡ shape.enum head cases → after_payloads i (payloads_at cases c) ≡ ss
        → PartsBound here k names whole (moved bound (payload_parts c i ps way))
    payloads_bound no_pats names ss c i head cases way h l e a = tt
    payloads_bound (pat p ps) names no_shapes c i head cases way h l e a = absurd h
    payloads_bound (pat p ps) names (shape.shape s ss) c i head cases way h l e a =
        let f = at_front (payloads_at cases c) i s ss a in
        let there = parts_append whole way (payload c i ∷ []) l (subst (λ z. HasParts z (payload c i ∷ [])) (sym e) (f.0, tt)) in
        let is = shape_append whole way (payload c i ∷ []) ∙ ap (λ z. part_shape z (payload c i)) e ∙ f.1 in
        subst (PartsBound here k names whole) (sym (moved_append bound (bound_parts p (way ++ payload c i ∷ [])) (payload_parts c (suc i) ps way)))
        (bound_append here k names whole (moved bound (bound_parts p (way ++ payload c i ∷ []))) (moved bound (payload_parts c (suc i) ps way))
        (parts_bound p names s (way ++ payload c i ∷ []) h.0 there is)
        (bound_same here k (map bound (pattern_bindings p) ++ names) (bound_names (moved bound (bound_parts p (way ++ payload c i ∷ []))) names) whole (moved bound (payload_parts c (suc i) ps way))
        (λ z. sym (bound_in (moved bound (bound_parts p (way ++ payload c i ∷ []))) names z ∙ ap (λ q. is_in (q ++ names) z) (firsts_bound bound p (way ++ payload c i ∷ []))))
        (payloads_bound ps (map bound (pattern_bindings p) ++ names) ss c (suc i) head cases way h.1 l e f.2)))

-- ---- what a pattern leaves of a consumed subject

module _ (here : Setting) (run : Call) (keep : CallsKeep here run) (deinits : (t : ℕ) → tracked (here.types.shape (type.Named t)) ≡ true → DeinitSteady here t) (bound : ℕ → ℕ) (k : ℕ) (w : World) where
  mutual
    pub end_rest_k : (p : TPat) (names : List ℕ) (s : Shape) (l : Location) (level : ℕ) → PatSteady here bound k names p s → Stands w l s → Deep here s
        → Keeps (In w) (λ u. Unit {0}) (end_rest here.program run p s l level)
    end_rest_k any names s l level h t d = end_k here run keep deinits s w l level t d
    end_rest_k (bind x) names s l level h t d = pure_l tt tt
    end_rest_k (of_case c ps) names (shape.enum head cases) l level h t d =
        end_payloads_k ps names (payloads_at cases c) c 0 l level h.1
        (parts_stand w l (shape.enum head cases) (payload c) (payloads_at cases c) t (λ j q. q) (λ j. refl) 0 (payloads_at cases c) refl) (case_deep here cases c d)
    end_rest_k (of_case c ps) names shape.number l level h t d = absurd h
    end_rest_k (of_case c ps) names shape.truth l level h t d = absurd h
    end_rest_k (of_case c ps) names shape.no_value l level h t d = absurd h
    end_rest_k (of_case c ps) names shape.closure l level h t d = absurd h
    end_rest_k (of_case c ps) names (shape.struct head fields) l level h t d = absurd h
    end_rest_k (of_number n) names s l level h t d = pure_l tt tt
    end_rest_k (of_truth b) names s l level h t d = pure_l tt tt

    end_payloads_k : (ps : TPats) (names : List ℕ) (ss : Shapes) (c i : ℕ) (l : Location) (level : ℕ) → PatsSteady here bound k names ps ss → PartsStand w (payload c) i ss l → AllDeep here ss
        → Keeps (In w) (λ u. Unit {0}) (end_payloads here.program run c i ps ss l level)
    end_payloads_k no_pats names ss c i l level h t d = pure_l tt tt
    end_payloads_k (pat p ps) names no_shapes c i l level h t d = absurd h
    end_payloads_k (pat p ps) names (shape.shape s ss) c i l level h t d =
        next_l (end_rest_k p names s (below l (payload c i ∷ [])) level h.0 t.0 d.0)
        (end_payloads_k ps (map bound (pattern_bindings p) ++ names) ss c (suc i) l level h.1 t.1 d.1)

-- ---- the bindings are made

-- a step after which names are seen, in a world that has grown
pub record Bound (here : Setting) (n me k : ℕ) (ret : Ty) (w : World) (names : List ℕ) (step : Act (Unit {0})) : Type 0 where
  pub world : World
  pub seen : Seen here n world me k ret names
  pub leads : Leads (In w) (λ u. Unit {0}) (In world) step
  pub back : (s : State) → In world s → In w s
  pub grows : Grows w world

-- the same of a binding that holds a value, whatever value of its shape
pub record Made (here : Setting) (n me k : ℕ) (ret : Ty) (w : World) (names : List ℕ) (x : ℕ) (s : Shape) : Type 0 where
  pub world : World
  pub seen : Seen here n world me k ret (x ∷ names)
  pub leads : (v : Val) → Fits s v → Leads (In w) (λ u. Unit {0}) (In world) (set_slot me x (holds v))
  pub back : (s : State) → In world s → In w s
  pub grows : Grows w world

pattern_form : (m : Mode) (c : Bool) → m ≡ mode.PatternOwned → form_by (is_alias m) false c (is_loan m) ≡ a_value
pattern_form m true e = ap (λ z. form_by (is_alias z) false true (is_loan z)) e
pattern_form m false e = ap (λ z. form_by (is_alias z) false false (is_loan z)) e

pub known_some : {I J : State → Type 0} {A B : Type 0} {Q : B → Type 0} (o : Option A) (a : A) (f : A → Act B) → o ≡ Some a → Leads I Q J (f a) → Leads I Q J (or_stray o >>= f)
known_some {I = I} {J = J} {Q = Q} o a f e h = subst (λ z. Leads I Q J (or_stray z >>= f)) (sym e) h

module _ (here : Setting) (run : Call) (me level n k : ℕ) (ret : Ty) where
  value_grows : (s : Shape) (kd : Kind) → (kd ≡ maybe s) ⊎ (kd ≡ owns s) → KindGrows kd (owns s)
  value_grows s kd (inl e) = subst (λ z. KindGrows z (owns s)) (sym e) (inr refl)
  value_grows s kd (inr e) = subst (λ z. KindGrows z (owns s)) (sym e) refl

  -- a binding that holds a value
  pub value_made : (w : World) (names : List ℕ) (seen : Seen here n w me k ret names) (x : ℕ) (b : Binding) → slice_get here.program.bindings x ≡ Some b → b.body ≡ k
      → form here b ≡ a_value → own_shape b.mode (here.types.shape b.ty) ≡ here.types.shape b.ty → Made here n me k ret w names x (here.types.shape b.ty)
  value_made w names seen x b d own fm sh =
      let s = here.types.shape b.ty in
      let home = subst (λ z. HomeKind z (own_shape b.mode s) (is_in names x) (seen.frame.kinds x)) fm (seen.home x b d) in
      let grown = subst (λ z. KindGrows (seen.frame.kinds x) (owns z)) sh (value_grows (own_shape b.mode s) (seen.frame.kinds x) home) in
      let after = world_with here n w me x (owns s) seen.frame in
      record {
        world = after;
        seen = see_more here n w me k ret names seen x b (owns s) d own grown
            (subst (λ z. KindFor here (SeesTo here n after) after b z (owns s)) (sym fm) (ap owns (sym sh)))
            (subst (λ z. HomeKind z (own_shape b.mode s) true (owns s)) (sym fm) (inr (ap owns (sym sh))));
        leads = λ v f. set_slot_k w me x seen.frame (owns s) (holds v) seen.there f;
        back = λ st i. fewer_made w me seen.frame (with_kind x (owns s) seen.frame) st seen.there (with_kind_grows seen.frame x (owns s) grown) i;
        grows = bound_grows here n w me x (owns s) seen.frame seen.there grown;
      }

  -- one that stands for a place
  pub place_bound : (w : World) (names : List ℕ) (seen : Seen here n w me k ret names) (x : ℕ) (b : Binding) → slice_get here.program.bindings x ≡ Some b → b.body ≡ k
      → form here b ≡ a_place → is_in names x ≡ false → (l : Location) → Stands w l (here.types.shape b.ty)
      → Bound here n me k ret w (x ∷ names) (set_slot me x (refers l))
  place_bound w names seen x b d own fm fresh l t =
      let s = here.types.shape b.ty in
      let home = subst (λ z. HomeKind a_place (own_shape b.mode s) z (seen.frame.kinds x)) fresh (subst (λ z. HomeKind z (own_shape b.mode s) (is_in names x) (seen.frame.kinds x)) fm (seen.home x b d)) in
      let grown = subst (λ z. KindGrows z (stands_for l s)) (sym home) tt in
      let after = world_with here n w me x (stands_for l s) seen.frame in
      let more = bound_grows here n w me x (stands_for l s) seen.frame seen.there grown in
      record {
        world = after;
        seen = see_more here n w me k ret names seen x b (stands_for l s) d own grown
            (subst (λ z. KindFor here (SeesTo here n after) after b z (stands_for l s)) (sym fm) (l, refl, stands_grows w after l s more t))
            (subst (λ z. HomeKind z (own_shape b.mode s) true (stands_for l s)) (sym fm) tt);
        leads = set_slot_k w me x seen.frame (stands_for l s) (refers l) seen.there refl;
        back = λ st i. fewer_made w me seen.frame (with_kind x (stands_for l s) seen.frame) st seen.there (with_kind_grows seen.frame x (stands_for l s) grown) i;
        grows = more;
      }

  bind_as_k : (w : World) (names : List ℕ) (seen : Seen here n w me k ret names) (x : ℕ) (s : Shape) (h : BoundSteady here k names x s) (l : Location) → Stands w l s
      → (h.binding.mode ≡ mode.PatternOwned) ⊎ (h.binding.mode ≡ mode.PatternBorrowed) → (copies : Bool)
      → Bound here n me k ret w (x ∷ names) (bind_as here.types here.program run me level h.binding.mode copies x l)
  bind_as_k w names seen x s h l t (inl e) copies =
      let b = h.binding in
      let m = value_made w names seen x b h.declared h.body
      (ap (λ f. form_by (is_alias b.mode) f (copyable (here.types.shape b.ty)) (is_loan b.mode)) h.value ∙ pattern_form b.mode (copyable (here.types.shape b.ty)) e)
      (ap (λ z. own_shape z (here.types.shape b.ty)) e) in
      record {
        world = m.world;
        seen = m.seen;
        leads = subst (λ z. Leads (In w) (λ u. Unit {0}) (In m.world) (bind_as here.types here.program run me level z copies x l)) (sym e)
            (then_l (pick_l copies (λ q. read_k w l s t) (λ q. move_k w l s t)) (λ v f. m.leads v (subst (λ z. Fits z v) (sym h.shape) f.0)));
        back = m.back;
        grows = m.grows;
      }
  bind_as_k w names seen x s h l t (inr e) copies =
      let b = h.binding in
      subst (λ z. Bound here n me k ret w (x ∷ names) (bind_as here.types here.program run me level z copies x l)) (sym e)
      (place_bound w names seen x b h.declared h.body
      (ap (λ z. form_by (is_alias z) (has_function_type b.ty) (copyable (here.types.shape b.ty)) (is_loan z)) e)
      h.fresh l (subst (λ z. Stands w l z) (sym h.shape) t))

  bind_part_k : (w : World) (names : List ℕ) (seen : Seen here n w me k ret names) (x : ℕ) (s : Shape) (h : BoundSteady here k names x s) (l : Location) → Stands w l s
      → Bound here n me k ret w (x ∷ names) (bind_part here.types here.program run me level x l)
  bind_part_k w names seen x s h l t =
      let r = bind_as_k w names seen x s h l t h.mode (copyable (here.types.shape h.binding.ty)) in
      record {
        world = r.world;
        seen = r.seen;
        leads = known_some (slice_get here.program.bindings x) h.binding (λ b. bind_as here.types here.program run me level b.mode (copyable (here.types.shape b.ty)) x l) h.declared r.leads;
        back = r.back;
        grows = r.grows;
      }

  pub bind_all_k : (bs : List (ℕ × List Part)) (w : World) (names : List ℕ) (seen : Seen here n w me k ret names) (l : Location) (s : Shape) → Stands w l s → PartsBound here k names s bs
      → Bound here n me k ret w (bound_names bs names) (bind_all here.types here.program run me level bs l)
  bind_all_k [] w names seen l s t h = record { world = w; seen = seen; leads = pure_l tt tt; back = λ st i. i; grows = same_grows here w }
  bind_all_k (b ∷ bs) w names seen l s t h =
      let r = bind_part_k w names seen b.0 (shape_along s b.1) h.0 (below l b.1) (below_stands w l s b.1 t h.1) in
      let q = bind_all_k bs r.world (b.0 ∷ names) r.seen l s (stands_grows w r.world l s r.grows t) h.2 in
      record {
        world = q.world;
        seen = q.seen;
        leads = next_l r.leads q.leads;
        back = λ st i. r.back st (q.back st i);
        grows = grows_on w r.world q.world r.grows q.grows;
      }

-- the same names in another order
pub seen_same : (here : Setting) (n me k : ℕ) (ret : Ty) (w : World) (xs ys : List ℕ) → SameNames xs ys → Seen here n w me k ret xs → Seen here n w me k ret ys
seen_same here n me k ret w xs ys e t = record {
  frame = t.frame;
  there = t.there;
  body = t.body;
  waits = t.waits;
  result = t.result;
  sees = λ x b i d. t.sees x b (e x ∙ i) d;
  home = λ x b d. subst (λ z. HomeKind (form here b) (own_shape b.mode (here.types.shape b.ty)) z (t.frame.kinds x)) (e x) (t.home x b d);
}

moved_itself : (here : Setting) (bs : List (ℕ × List Part)) → moved (itself here) bs ≡ bs
moved_itself here [] = refl
moved_itself here (b ∷ bs) = ap (λ z. b ∷ z) (moved_itself here bs)

map_itself : (here : Setting) (xs : List ℕ) → map (itself here) xs ≡ xs
map_itself here [] = refl
map_itself here (x ∷ xs) = ap (λ z. x ∷ z) (map_itself here xs)

module _ (here : Setting) (run : Call) (me level n k : ℕ) (ret : Ty) (w : World) (names : List ℕ) (seen : Seen here n w me k ret names) (l : Location) (s : Shape) (t : Stands w l s) where
  -- the bindings of a pattern, and the second ones of them
  moved_k : (bound : ℕ → ℕ) (p : TPat) → PatSteady here bound k names p s
      → Bound here n me k ret w (map bound (pattern_bindings p) ++ names) (bind_all here.types here.program run me level (moved bound (bound_parts p [])) l)
  moved_k bound p h =
      let r = bind_all_k here run me level n k ret (moved bound (bound_parts p [])) w names seen l s t (parts_bound here bound k s p names s [] h tt refl) in
      record {
        world = r.world;
        seen = seen_same here n me k ret r.world (bound_names (moved bound (bound_parts p [])) names) (map bound (pattern_bindings p) ++ names)
            (λ z. bound_in (moved bound (bound_parts p [])) names z ∙ ap (λ q. is_in (q ++ names) z) (firsts_bound bound p [])) r.seen;
        leads = r.leads;
        back = r.back;
        grows = r.grows;
      }

  pub pattern_k : (p : TPat) → PatSteady here (itself here) k names p s → Bound here n me k ret w (pattern_bindings p ++ names) (bind_all here.types here.program run me level (bound_parts p []) l)
  pattern_k p h =
      subst (λ z. Bound here n me k ret w (z ++ names) (bind_all here.types here.program run me level (bound_parts p []) l)) (map_itself here (pattern_bindings p))
      (subst (λ z. Bound here n me k ret w (map (itself here) (pattern_bindings p) ++ names) (bind_all here.types here.program run me level z l)) (moved_itself here (bound_parts p []))
      (moved_k (itself here) p h))

  pub second_k : (p : TPat) → PatSteady here suc k names p s → Bound here n me k ret w (map suc (pattern_bindings p) ++ names) (bind_all here.types here.program run me level (owned (bound_parts p [])) l)
  second_k p h = moved_k suc p h
