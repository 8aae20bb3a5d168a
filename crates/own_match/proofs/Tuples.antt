-- Columns side by side: the values and the forms of several places, and those of a case's payloads before the rest.
use Rattle.std.proofs.Common.{◌≡◌, ℕ, zero, suc, Bool, true, List, [], ◌∷◌, Some, slice_get, inl, inr, refl, ap}
use Rattle.own_tree.specs.TypedSource.{TPat, TPats, no_pats, pat}
use Rattle.own_shapes.specs.Types.{Shape, Shapes, no_shapes, Payloads, no_payloads, payloads}
use Rattle.own_shapes.specs.Types as shape
use Rattle.own_match.specs.Values.{Val, Vals, no_vals, val, IsOf, AreOf, Matches}
use Rattle.own_match.specs.Forms.{inside, IsForm, AreForms, StandsFor, AllStandFor, AllComeBefore}
use Rattle.own_match.specs.Search.{Column, count, front, back}

-- ---- columns side by side

abbrev pub TupleOf : List Column → Vals → Type 0
TupleOf [] no_vals = Unit {0}
TupleOf (c ∷ cs) (val v vs) = IsOf c.shape v × TupleOf cs vs
TupleOf [] (val v vs) = ⊥
TupleOf (c ∷ cs) no_vals = ⊥

abbrev pub Forms : List Column → TPats → Type 0
Forms [] no_pats = Unit {0}
Forms (c ∷ cs) (pat f fs) = IsForm c.shape c.cells f × Forms cs fs
Forms [] (pat f fs) = ⊥
Forms (c ∷ cs) no_pats = ⊥

abbrev pub Stand : List Column → TPats → Vals → Type 0
Stand [] no_pats no_vals = Unit {0}
Stand (c ∷ cs) (pat f fs) (val v vs) = StandsFor c.cells f v × Stand cs fs vs
Stand [] (pat f fs) vs = ⊥
Stand [] no_pats (val v vs) = ⊥
Stand (c ∷ cs) no_pats vs = ⊥
Stand (c ∷ cs) (pat f fs) no_vals = ⊥

abbrev pub CellMatches : List TPat → ℕ → Val → Type 0
CellMatches cells i v = (p : TPat) × (slice_get cells i ≡ Some p) × Matches p v

-- pattern i matches at each column
abbrev pub RowMatches : ℕ → List Column → Vals → Type 0
RowMatches i [] no_vals = Unit {0}
RowMatches i (c ∷ cs) (val v vs) = CellMatches c.cells i v × RowMatches i cs vs
RowMatches i [] (val v vs) = ⊥
RowMatches i (c ∷ cs) no_vals = ⊥

abbrev pub IsLive : List Bool → ℕ → Type 0
IsLive live i = slice_get live i ≡ Some true

-- a live pattern does
abbrev pub Matched : List Column → List Bool → Vals → Type 0
Matched cs live vs = (i : ℕ) × IsLive live i × RowMatches i cs vs

-- ---- the columns of payloads before others

abbrev pub column : Shape → List TPat → Column
column s cells = record { shape = s; cells = cells }

abbrev pub before : Shapes → ℕ → ℕ → List TPat → List Column → List Column
before no_shapes k i cells cs = cs
before (shape.shape s ss) k i cells cs = column s (inside k i cells) ∷ before ss k (suc i) cells cs

abbrev pub join : TPats → TPats → TPats
join no_pats gs = gs
join (pat f fs) gs = pat f (join fs gs)

abbrev pub join_vals : Vals → Vals → Vals
join_vals no_vals ws = ws
join_vals (val v vs) ws = val v (join_vals vs ws)

abbrev pub front_vals : ℕ → Vals → Vals
front_vals zero vs = no_vals
front_vals (suc n) no_vals = no_vals
front_vals (suc n) (val v vs) = val v (front_vals n vs)

abbrev pub back_vals : ℕ → Vals → Vals
back_vals zero vs = vs
back_vals (suc n) no_vals = no_vals
back_vals (suc n) (val v vs) = back_vals n vs

pub join_front_back : (n : ℕ) (fs : TPats) → join (front n fs) (back n fs) ≡ fs
join_front_back zero fs = refl
join_front_back (suc n) no_pats = refl
join_front_back (suc n) (pat f fs) = ap (pat f) (join_front_back n fs)

pub tuple_front : (ss : Shapes) (k i : ℕ) (cells : List TPat) (cs : List Column) (ws : Vals) → TupleOf (before ss k i cells cs) ws
    → AreOf ss (front_vals (count ss) ws) × TupleOf cs (back_vals (count ss) ws)
tuple_front no_shapes k i cells cs ws h = (tt, h)
tuple_front (shape.shape s ss) k i cells cs no_vals h = absurd h
tuple_front (shape.shape s ss) k i cells cs (val w ws) h =
    let r = tuple_front ss k (suc i) cells cs ws h.1 in ((h.0, r.0), r.1)

pub tuple_join : (ss : Shapes) (k i : ℕ) (cells : List TPat) (cs : List Column) (us vs : Vals) → AreOf ss us → TupleOf cs vs
    → TupleOf (before ss k i cells cs) (join_vals us vs)
tuple_join no_shapes k i cells cs no_vals vs a b = b
tuple_join no_shapes k i cells cs (val u us) vs a b = absurd a
tuple_join (shape.shape s ss) k i cells cs no_vals vs a b = absurd a
tuple_join (shape.shape s ss) k i cells cs (val u us) vs a b = (a.0, tuple_join ss k (suc i) cells cs us vs a.1 b)

pub forms_front : (ss : Shapes) (k i : ℕ) (cells : List TPat) (cs : List Column) (fs : TPats) → Forms (before ss k i cells cs) fs
    → AreForms ss k i cells (front (count ss) fs) × Forms cs (back (count ss) fs)
forms_front no_shapes k i cells cs fs h = (tt, h)
forms_front (shape.shape s ss) k i cells cs no_pats h = absurd h
forms_front (shape.shape s ss) k i cells cs (pat f fs) h =
    let r = forms_front ss k (suc i) cells cs fs h.1 in ((h.0, r.0), r.1)

pub forms_join : (ss : Shapes) (k i : ℕ) (cells : List TPat) (cs : List Column) (fs gs : TPats) → AreForms ss k i cells fs → Forms cs gs
    → Forms (before ss k i cells cs) (join fs gs)
forms_join no_shapes k i cells cs no_pats gs a b = b
forms_join no_shapes k i cells cs (pat f fs) gs a b = absurd a
forms_join (shape.shape s ss) k i cells cs no_pats gs a b = absurd a
forms_join (shape.shape s ss) k i cells cs (pat f fs) gs a b = (a.0, forms_join ss k (suc i) cells cs fs gs a.1 b)

pub stand_front : (ss : Shapes) (k i : ℕ) (cells : List TPat) (cs : List Column) (fs : TPats) (ws : Vals) → Stand (before ss k i cells cs) fs ws
    → AllStandFor k i cells (front (count ss) fs) (front_vals (count ss) ws) × Stand cs (back (count ss) fs) (back_vals (count ss) ws)
stand_front no_shapes k i cells cs fs ws h = (tt, h)
stand_front (shape.shape s ss) k i cells cs no_pats ws h = absurd h
stand_front (shape.shape s ss) k i cells cs (pat f fs) no_vals h = absurd h
stand_front (shape.shape s ss) k i cells cs (pat f fs) (val w ws) h =
    let r = stand_front ss k (suc i) cells cs fs ws h.1 in ((h.0, r.0), r.1)

pub stand_join : (ss : Shapes) (k i : ℕ) (cells : List TPat) (cs : List Column) (fs gs : TPats) (us vs : Vals) → AreForms ss k i cells fs
    → AllStandFor k i cells fs us → Stand cs gs vs → Stand (before ss k i cells cs) (join fs gs) (join_vals us vs)
stand_join no_shapes k i cells cs no_pats gs no_vals vs a b c = c
stand_join no_shapes k i cells cs no_pats gs (val u us) vs a b c = absurd b
stand_join no_shapes k i cells cs (pat f fs) gs us vs a b c = absurd a
stand_join (shape.shape s ss) k i cells cs no_pats gs us vs a b c = absurd a
stand_join (shape.shape s ss) k i cells cs (pat f fs) gs no_vals vs a b c = absurd b
stand_join (shape.shape s ss) k i cells cs (pat f fs) gs (val u us) vs a b c = (b.0, stand_join ss k (suc i) cells cs fs gs us vs a.1 b.1 c)

-- pattern i matches the payloads from number n on
abbrev pub PartsMatch : List TPat → ℕ → ℕ → ℕ → Vals → Type 0
PartsMatch cells i k n no_vals = Unit {0}
PartsMatch cells i k n (val u us) = CellMatches (inside k n cells) i u × PartsMatch cells i k (suc n) us

pub row_join : (ss : Shapes) (i k n : ℕ) (cells : List TPat) (cs : List Column) (us vs : Vals) → AreOf ss us → PartsMatch cells i k n us → RowMatches i cs vs
    → RowMatches i (before ss k n cells cs) (join_vals us vs)
row_join no_shapes i k n cells cs no_vals vs a b c = c
row_join no_shapes i k n cells cs (val u us) vs a b c = absurd a
row_join (shape.shape s ss) i k n cells cs no_vals vs a b c = absurd a
row_join (shape.shape s ss) i k n cells cs (val u us) vs a b c = (b.0, row_join ss i k (suc n) cells cs us vs a.1 b.1 c)

pub row_parts : (ss : Shapes) (i k n : ℕ) (cells : List TPat) (cs : List Column) (us vs : Vals) → AreOf ss us → RowMatches i (before ss k n cells cs) (join_vals us vs)
    → PartsMatch cells i k n us × RowMatches i cs vs
row_parts no_shapes i k n cells cs no_vals vs a h = (tt, h)
row_parts no_shapes i k n cells cs (val u us) vs a h = absurd a
row_parts (shape.shape s ss) i k n cells cs no_vals vs a h = absurd a
row_parts (shape.shape s ss) i k n cells cs (val u us) vs a h =
    let r = row_parts ss i k (suc n) cells cs us vs a.1 h.1 in ((h.0, r.0), r.1)

-- ---- order

pub join_before : (as' bs gs hs : TPats) → AllComeBefore as' bs → AllComeBefore (join as' gs) (join bs hs)
join_before no_pats no_pats gs hs h = absurd h
join_before no_pats (pat b bs) gs hs h = absurd h
join_before (pat a as') no_pats gs hs h = absurd h
join_before (pat a as') (pat b bs) gs hs (inl h) = inl h
join_before (pat a as') (pat b bs) gs hs (inr h) = inr (h.0, join_before as' bs gs hs h.1)

pub join_same : (as' gs hs : TPats) → AllComeBefore gs hs → AllComeBefore (join as' gs) (join as' hs)
join_same no_pats gs hs h = h
join_same (pat a as') gs hs h = inr (refl, join_same as' gs hs h)
