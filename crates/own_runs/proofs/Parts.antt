-- What a write into a value leaves elsewhere.
use Rattle.std.proofs.Common.{◌≡◌, ℕ, zero, suc, Bool, true, false, List, [], ◌∷◌, inl, inr, refl, sym, ap, ◌∙◌, subst}
use Rattle.std.specs.Prelude.{◌==◌, if◌then◌else◌}
use Rattle.std.proofs.lemmas.Bool.Decides.{Decides-eqb}
use Rattle.own_runs.specs.Laws.{AreApart}
use Rattle.own_runs.specs.Values.{Val, int, bool, unit, struct, variant, hole, Vals, no_vals, val, Part, field, payload, Found, found, hollow, nowhere, and_then, nth, with_nth, child, with_child, value_at, with_value_at}

IsThere : {A : Type 0} → Found A → Type 0
IsThere (found a) = Unit {0}
IsThere hollow = ⊥
IsThere nowhere = ⊥

pub hollow_found : {A : Type 0} (a : A) → hollow ≡ found a → ⊥
unfolding IsThere
hollow_found a e = subst IsThere (sym e) tt

pub nowhere_found : {A : Type 0} (a : A) → nowhere ≡ found a → ⊥
unfolding IsThere
nowhere_found a e = subst IsThere (sym e) tt

found_or : {A : Type 0} → A → Found A → A
found_or d (found a) = a
found_or d hollow = d
found_or d nowhere = d

pub found_same : {A : Type 0} (a b : A) → found a ≡ found b → a ≡ b
unfolding found_or
found_same a b e = ap (found_or a) e

-- what a search that succeeds went through
pub through : {A B : Type 0} (o : Found A) (next : A → Found B) (b : B) → and_then o next ≡ found b → (a : A) × (o ≡ found a) × (next a ≡ found b)
through (found a) next b e = (a, refl, e)
through hollow next b e = absurd (hollow_found b e)
through nowhere next b e = absurd (nowhere_found b e)

pub if_found : {A : Type 0} (c : Bool) (o : Found A) (a : A) → (if c then o else hollow) ≡ found a → (c ≡ true) × (o ≡ found a)
if_found true o a e = (refl, e)
if_found false o a e = absurd (hollow_found a e)

-- ---- one step

pub nth_same : (vs all : Vals) (k : ℕ) (new : Val) → with_nth vs k new ≡ found all → nth all k ≡ found new
nth_same no_vals all k new e = absurd (nowhere_found all e)
nth_same (val v vs) all zero new e = ap (λ us. nth us zero) (sym (found_same _ _ e))
nth_same (val v vs) all (suc k) new e =
    let i = through (with_nth vs k new) (λ rest. found (val v rest)) all e in
    ap (λ us. nth us (suc k)) (sym (found_same _ _ i.2)) ∙ nth_same vs i.0 k new i.1

pub nth_other : (vs all : Vals) (k j : ℕ) (new : Val) → (k ≡ j → ⊥) → with_nth vs k new ≡ found all → nth all j ≡ nth vs j
nth_other no_vals all k j new ne e = absurd (nowhere_found all e)
nth_other (val v vs) all zero zero new ne e = absurd (ne refl)
nth_other (val v vs) all zero (suc j) new ne e = ap (λ us. nth us (suc j)) (sym (found_same _ _ e))
nth_other (val v vs) all (suc k) zero new ne e =
    let i = through (with_nth vs k new) (λ rest. found (val v rest)) all e in ap (λ us. nth us zero) (sym (found_same _ _ i.2))
nth_other (val v vs) all (suc k) (suc j) new ne e =
    let i = through (with_nth vs k new) (λ rest. found (val v rest)) all e in
    ap (λ us. nth us (suc j)) (sym (found_same _ _ i.2)) ∙ nth_other vs i.0 k j new (λ h. ne (ap suc h)) i.1

case_same : (present c : ℕ) (all : Vals) (k : ℕ) (new : Val) → (present == c) ≡ true → nth all k ≡ found new → child (variant present all) (payload c k) ≡ found new
case_same present c all k new is e = ap (λ b. if b then nth all k else hollow) is ∙ e

pub child_same : (v w : Val) (part : Part) (new : Val) → with_child v part new ≡ found w → child w part ≡ found new
child_same (struct t n vs) w (field k) new e =
    let i = through (with_nth vs k new) (λ all. found (struct t n all)) w e in
    ap (λ u. child u (field k)) (sym (found_same _ _ i.2)) ∙ nth_same vs i.0 k new i.1
child_same (struct t n vs) w (payload c k) new e = absurd (nowhere_found w e)
child_same (variant present vs) w (field k) new e = absurd (nowhere_found w e)
child_same (variant present vs) w (payload c k) new e =
    let h = if_found (present == c) (and_then (with_nth vs k new) (λ all. found (variant present all))) w e in
    let i = through (with_nth vs k new) (λ all. found (variant present all)) w h.1 in
    ap (λ u. child u (payload c k)) (sym (found_same _ _ i.2)) ∙ case_same present c i.0 k new h.0 (nth_same vs i.0 k new i.1)
child_same hole w part new e = absurd (hollow_found w e)
child_same (int n) w part new e = absurd (nowhere_found w e)
child_same (bool b) w part new e = absurd (nowhere_found w e)
child_same unit w part new e = absurd (nowhere_found w e)

-- another payload of the present case, or one of another case, which is not there before nor after
case_other : (b : Bool) (present c d : ℕ) (vs all : Vals) (k j : ℕ) (new : Val) → (present == d) ≡ b → present ≡ c → (payload c k ≡ payload d j → ⊥) → with_nth vs k new ≡ found all
    → (if b then nth all j else hollow) ≡ (if b then nth vs j else hollow)
case_other true present c d vs all k j new is p ne e =
    nth_other vs all k j new (λ h. ne (ap (λ x. payload x k) (sym p ∙ (Decides-eqb present d).0 is) ∙ ap (payload d) h)) e
case_other false present c d vs all k j new is p ne e = refl

pub child_other : (v w : Val) (part other : Part) (new : Val) → (part ≡ other → ⊥) → with_child v part new ≡ found w → child w other ≡ child v other
child_other (struct t n vs) w (field k) (field j) new ne e =
    let i = through (with_nth vs k new) (λ all. found (struct t n all)) w e in
    ap (λ u. child u (field j)) (sym (found_same _ _ i.2)) ∙ nth_other vs i.0 k j new (λ h. ne (ap field h)) i.1
child_other (struct t n vs) w (field k) (payload d j) new ne e =
    let i = through (with_nth vs k new) (λ all. found (struct t n all)) w e in
    ap (λ u. child u (payload d j)) (sym (found_same _ _ i.2))
child_other (struct t n vs) w (payload c k) other new ne e = absurd (nowhere_found w e)
child_other (variant present vs) w (field k) other new ne e = absurd (nowhere_found w e)
child_other (variant present vs) w (payload c k) (field j) new ne e =
    let h = if_found (present == c) (and_then (with_nth vs k new) (λ all. found (variant present all))) w e in
    let i = through (with_nth vs k new) (λ all. found (variant present all)) w h.1 in
    ap (λ u. child u (field j)) (sym (found_same _ _ i.2))
child_other (variant present vs) w (payload c k) (payload d j) new ne e =
    let h = if_found (present == c) (and_then (with_nth vs k new) (λ all. found (variant present all))) w e in
    let i = through (with_nth vs k new) (λ all. found (variant present all)) w h.1 in
    ap (λ u. child u (payload d j)) (sym (found_same _ _ i.2))
    ∙ case_other (present == d) present c d vs i.0 k j new refl ((Decides-eqb present c).0 h.0) ne i.1
child_other hole w part other new ne e = absurd (hollow_found w e)
child_other (int n) w part other new ne e = absurd (nowhere_found w e)
child_other (bool b) w part other new ne e = absurd (nowhere_found w e)
child_other unit w part other new ne e = absurd (nowhere_found w e)

-- ---- whole ways

pub writes_are_read : (way : List Part) (new old changed : Val) → with_value_at way new old ≡ found changed → value_at way changed ≡ found new
writes_are_read [] new old changed e = sym e
writes_are_read (part ∷ way) new old changed e =
    let i = through (child old part) (λ inner. and_then (with_value_at way new inner) (λ w. with_child old part w)) changed e in
    let j = through (with_value_at way new i.0) (λ w. with_child old part w) changed i.2 in
    ap (λ o. and_then o (value_at way)) (child_same old changed part j.0 j.2) ∙ writes_are_read way new i.0 j.0 j.1

pub writes_stay_apart : (way other : List Part) (new old changed : Val) → AreApart way other → with_value_at way new old ≡ found changed → value_at other changed ≡ value_at other old
writes_stay_apart [] other new old changed apart e = absurd apart
writes_stay_apart (part ∷ way) [] new old changed apart e = absurd apart
writes_stay_apart (part ∷ way) (next ∷ other) new old changed (inl ne) e =
    let i = through (child old part) (λ inner. and_then (with_value_at way new inner) (λ w. with_child old part w)) changed e in
    let j = through (with_value_at way new i.0) (λ w. with_child old part w) changed i.2 in
    ap (λ o. and_then o (value_at other)) (child_other old changed part next j.0 ne j.2)
writes_stay_apart (part ∷ way) (next ∷ other) new old changed (inr h) e =
    let i = through (child old part) (λ inner. and_then (with_value_at way new inner) (λ w. with_child old part w)) changed e in
    let j = through (with_value_at way new i.0) (λ w. with_child old part w) changed i.2 in
    subst (λ x. value_at (x ∷ other) changed ≡ value_at (x ∷ other) old) h.0
    (ap (λ o. and_then o (value_at other)) (child_same old changed part j.0 j.2)
    ∙ writes_stay_apart way other new i.0 j.0 h.1 j.1
    ∙ sym (ap (λ o. and_then o (value_at other)) i.1))
