-- Laws of traces.
use Rattle.std.proofs.Common.{◌≡◌, ℕ, zero, suc, ◌≤◌, List, [], ◌∷◌, ◌++◌, refl, sym, ap, ◌∙◌, subst, arith, append_assoc}
use mathlib.Core.Logic.{inl, inr}
use Rattle.own_tree.specs.declared.op.Op.{Op}
use Rattle.own_tree.specs.OpSource.{Ops, op, nothing, next, either, loop, catch, scope, break_at, continue_at, return_at, halt}
use Rattle.own_paths.specs.Laws.{IsWhole}
use Rattle.own_paths.specs.Traces.{Completion, goes_on, breaks, continues, returns, halts, cut, Set, After, Joined, Broken, Turns, caught, IsTrace, ends_for}

-- each trace of the one that is not cut is one of the other
abbrev pub Within : Set → Set → Type 0
Within A A' = (os : List Op) (c : Completion) → IsWhole c → A os c → A' os c

module _ (A A' B B' : Set) (a : Within A A') (b : Within B B') where
  after_within : (how : Completion) → Within (After how B) (After how B')
  after_within goes_on os c w t = b os c w t
  after_within (breaks s) os c w t = t
  after_within (continues s) os c w t = t
  after_within (returns s) os c w t = t
  after_within halts os c w t = t
  after_within cut os c w t = t

  broken_within : (how : Completion) → Within (Broken how B) (Broken how B')
  broken_within goes_on os c w t = b os c w t
  broken_within (breaks s) os c w t = t
  broken_within (continues s) os c w t = b os c w t
  broken_within (returns s) os c w t = t
  broken_within halts os c w t = t
  broken_within cut os c w t = t

-- the first part of a whole trace is whole
pub first_whole : (B : Set) (how c : Completion) (os : List Op) → IsWhole c → After how B os c → IsWhole how
first_whole B goes_on c os w t = tt
first_whole B (breaks s) c os w t = tt
first_whole B (continues s) c os w t = tt
first_whole B (returns s) c os w t = tt
first_whole B halts c os w t = tt
first_whole B cut c os w t = subst IsWhole t.1 w

pub turn_whole : (B : Set) (how c : Completion) (os : List Op) → IsWhole c → Broken how B os c → IsWhole how
turn_whole B goes_on c os w t = tt
turn_whole B (breaks s) c os w t = tt
turn_whole B (continues s) c os w t = tt
turn_whole B (returns s) c os w t = tt
turn_whole B halts c os w t = tt
turn_whole B cut c os w t = subst IsWhole t.1 w

next_within : (A A' B B' : Set) → Within A A' → Within B B' → Within (Joined A (λ how. After how B)) (Joined A' (λ how. After how B'))
next_within A A' B B' a b os c w t =
    (t.0, t.1, t.2, a t.0 t.1 (first_whole B t.1 c t.2 w t.4) t.3, after_within A A' B B' a b t.1 t.2 c w t.4, t.5)

turn_within : (A A' B B' : Set) → Within A A' → Within B B' → Within (Joined A (λ how. Broken how B)) (Joined A' (λ how. Broken how B'))
turn_within A A' B B' a b os c w t =
    (t.0, t.1, t.2, a t.0 t.1 (turn_whole B t.1 c t.2 w t.4) t.3, broken_within A A' B B' a b t.1 t.2 c w t.4, t.5)

pub turns_within : (A A' B B' : Set) → Within A A' → Within B B' → (j j' : ℕ) → j ≤ j' → Within (Turns A B j) (Turns A' B' j')
turns_within A A' B B' a b zero j' le os c w t = absurd (subst IsWhole t.1 w)
turns_within A A' B B' a b (suc j) zero le os c w t = absurd (omega (arith, le))
turns_within A A' B B' a b (suc j) (suc j') le os c w t =
    turn_within A A' _ _ a (turn_within B B' _ _ b (turns_within A A' B B' a b j j' (omega (arith, le)))) os c w t

pub uncaught : (how : Completion) → IsWhole (caught how) → IsWhole how
uncaught goes_on w = w
uncaught (breaks s) w = tt
uncaught (continues s) w = w
uncaught (returns s) w = w
uncaught halts w = w
uncaught cut w = w

-- more turns keep each trace that is not cut
pub more_turns : (k k' : ℕ) → k ≤ k' → (t : Ops) → Within (IsTrace k t) (IsTrace k' t)
more_turns k k' le (op o) os c w t = t
more_turns k k' le nothing os c w t = t
more_turns k k' le (next a b) os c w t = next_within _ _ _ _ (more_turns k k' le a) (more_turns k k' le b) os c w t
more_turns k k' le (either a b) os c w (inl t) = inl (more_turns k k' le a os c w t)
more_turns k k' le (either a b) os c w (inr t) = inr (more_turns k k' le b os c w t)
more_turns k k' le (loop a b) os c w t = turns_within _ _ _ _ (more_turns k k' le a) (more_turns k k' le b) k k' le os c w t
more_turns k k' le (catch a) os c w t = (t.0, more_turns k k' le a os t.0 (uncaught t.0 (subst IsWhole t.2 w)) t.1, t.2)
more_turns k k' le (scope bs s a) os c w t = (t.0, more_turns k k' le a t.0 c w t.1, t.2)
more_turns k k' le (break_at s) os c w t = t
more_turns k k' le (continue_at s) os c w t = t
more_turns k k' le (return_at s) os c w t = t
more_turns k k' le halt os c w t = t

-- a trace of two parts that goes on is a trace of each that goes on
pub splits : (k : ℕ) (a b : Ops) (os : List Op) → IsTrace k (next a b) os goes_on
    → (xs : List Op) × (ys : List Op) × IsTrace k a xs goes_on × IsTrace k b ys goes_on × (os ≡ xs ++ ys)
splits k a b os t = go t.1 t.3 t.4
  where
    Ends : Completion → Type 0
    Ends goes_on = Unit {0}
    Ends _ = ⊥

    go : (how : Completion) → IsTrace k a t.0 how → After how (IsTrace k b) t.2 goes_on
        → (xs : List Op) × (ys : List Op) × IsTrace k a xs goes_on × IsTrace k b ys goes_on × (os ≡ xs ++ ys)
    go goes_on ta tb = (t.0, t.2, ta, tb, t.5)
    go (breaks s) ta tb = absurd (subst Ends tb.1 tt)
    go (continues s) ta tb = absurd (subst Ends tb.1 tt)
    go (returns s) ta tb = absurd (subst Ends tb.1 tt)
    go halts ta tb = absurd (subst Ends tb.1 tt)
    go cut ta tb = absurd (subst Ends tb.1 tt)

-- there is always a way on
abbrev pub Some_of : Set → Type 0
Some_of A = (os : List Op) × (c : Completion) × A os c

pub some_after : (B : Set) → Some_of B → (how : Completion) → Some_of (After how B)
some_after B b goes_on = b
some_after B b (breaks s) = ([], breaks s, (refl, refl))
some_after B b (continues s) = ([], continues s, (refl, refl))
some_after B b (returns s) = ([], returns s, (refl, refl))
some_after B b halts = ([], halts, (refl, refl))
some_after B b cut = ([], cut, (refl, refl))

pub some_broken : (B : Set) → Some_of B → (how : Completion) → Some_of (Broken how B)
some_broken B b goes_on = b
some_broken B b (breaks s) = ([], goes_on, (refl, refl))
some_broken B b (continues s) = b
some_broken B b (returns s) = ([], returns s, (refl, refl))
some_broken B b halts = ([], halts, (refl, refl))
some_broken B b cut = ([], cut, (refl, refl))

pub some_joined : (A : Set) (B : Completion → Set) → Some_of A → ((how : Completion) → Some_of (B how)) → Some_of (Joined A B)
some_joined A B a b = let r = b a.1 in (a.0 ++ r.0, r.1, (a.0, a.1, r.0, a.2, r.2, refl))

pub some_turns : (A B : Set) → Some_of A → Some_of B → (j : ℕ) → Some_of (Turns A B j)
some_turns A B a b zero = ([], cut, (refl, refl))
some_turns A B a b (suc j) =
    some_joined A _ a (λ how. some_broken _ (some_joined B _ b (λ how'. some_broken _ (some_turns A B a b j) how')) how)

pub some_trace : (k : ℕ) (t : Ops) → Some_of (IsTrace k t)
some_trace k (op o) = (o ∷ [], goes_on, (refl, refl))
some_trace k nothing = ([], goes_on, (refl, refl))
some_trace k (next a b) = some_joined (IsTrace k a) _ (some_trace k a) (some_after (IsTrace k b) (some_trace k b))
some_trace k (either a b) = let r = some_trace k a in (r.0, r.1, inl r.2)
some_trace k (loop a b) = some_turns (IsTrace k a) (IsTrace k b) (some_trace k a) (some_trace k b) k
some_trace k (catch a) = let r = some_trace k a in (r.0, caught r.1, (r.1, r.2, refl))
some_trace k (scope bs s a) = let r = some_trace k a in (r.0 ++ ends_for bs s r.1, r.1, (r.0, r.2, refl))
some_trace k (break_at s) = ([], breaks s, (refl, refl))
some_trace k (continue_at s) = ([], continues s, (refl, refl))
some_trace k (return_at s) = ([], returns s, (refl, refl))
some_trace k halt = ([], halts, (refl, refl))

pub some_later : (k : ℕ) (b : Ops) (how : Completion) → Some_of (After how (IsTrace k b))
some_later k b how = some_after (IsTrace k b) (some_trace k b) how

-- a trace that is cut goes on in the other set
abbrev pub Longer : Set → Set → Type 0
Longer A A' = (os : List Op) → A os cut → (zs : List Op) × (c : Completion) × A' (os ++ zs) c

pub append_empty : (os : List Op) → os ++ [] ≡ os
append_empty [] = refl
append_empty (o ∷ os) = ap (λ l. o ∷ l) (append_empty os)

-- the two ways in which a joined trace can be cut
longer_joined : (A A' : Set) (B B' : Completion → Set) → Within A A' → Longer A A' → ((how : Completion) → IsWhole how → Longer (B how) (B' how)) → ((os : List Op) → B cut os cut → os ≡ []) → ((how : Completion) → Some_of (B' how)) → Longer (Joined A B) (Joined A' B')
longer_joined A A' B B' within longer next_longer stops goes os t = go t.1 t.3 t.4
  where
    rest_of : (xs ys zs : List Op) → os ≡ xs ++ ys → os ++ zs ≡ xs ++ (ys ++ zs)
    rest_of xs ys zs e = ap (λ l. l ++ zs) e ∙ append_assoc xs ys zs

    whole_first : (how : Completion) → IsWhole how → A t.0 how → B how t.2 cut → (zs : List Op) × (c : Completion) × Joined A' B' (os ++ zs) c
    whole_first how w ta tb =
        let r = next_longer how w t.2 tb in
        (r.0, r.1, (t.0, how, t.2 ++ r.0, within t.0 how w ta, r.2, rest_of t.0 t.2 r.0 t.5))

    go : (how : Completion) → A t.0 how → B how t.2 cut → (zs : List Op) × (c : Completion) × Joined A' B' (os ++ zs) c
    go goes_on ta tb = whole_first goes_on tt ta tb
    go (breaks s) ta tb = whole_first (breaks s) tt ta tb
    go (continues s) ta tb = whole_first (continues s) tt ta tb
    go (returns s) ta tb = whole_first (returns s) tt ta tb
    go halts ta tb = whole_first halts tt ta tb
    go cut ta tb =
        let r = longer t.0 ta in
        let u = goes r.1 in
        let is : os ≡ t.0 = t.5 ∙ ap (λ l. t.0 ++ l) (stops t.2 tb) ∙ append_empty t.0 in
        (r.0 ++ u.0, u.1, (t.0 ++ r.0, r.1, u.0, r.2, u.2, ap (λ l. l ++ (r.0 ++ u.0)) is ∙ sym (append_assoc t.0 r.0 u.0)))

IsCut : Completion → Type 0
IsCut cut = Unit {0}
IsCut _ = ⊥

never : {A : Type 0} {c : Completion} → cut ≡ c → (IsCut c → ⊥) → A
unfolding IsCut
never e f = absurd (f (subst IsCut e tt))

longer_after : (B B' : Set) → Longer B B' → (how : Completion) → IsWhole how → Longer (After how B) (After how B')
unfolding IsCut
longer_after B B' l goes_on w os t = l os t
longer_after B B' l (breaks s) w os t = never t.1 (λ x. x)
longer_after B B' l (continues s) w os t = never t.1 (λ x. x)
longer_after B B' l (returns s) w os t = never t.1 (λ x. x)
longer_after B B' l halts w os t = never t.1 (λ x. x)
longer_after B B' l cut w os t = absurd w

longer_broken : (B B' : Set) → Longer B B' → (how : Completion) → IsWhole how → Longer (Broken how B) (Broken how B')
unfolding IsCut
longer_broken B B' l goes_on w os t = l os t
longer_broken B B' l (continues s) w os t = l os t
longer_broken B B' l (breaks s) w os t = never t.1 (λ x. x)
longer_broken B B' l (returns s) w os t = never t.1 (λ x. x)
longer_broken B B' l halts w os t = never t.1 (λ x. x)
longer_broken B B' l cut w os t = absurd w

pub longer_turns : (A A' B B' : Set) → Within A A' → Longer A A' → Within B B' → Longer B B' → Some_of A' → Some_of B' → (j j' : ℕ) → j ≤ j' → Longer (Turns A B j) (Turns A' B' j')
longer_turns A A' B B' wa la wb lb sa sb zero j' le os t =
    let r = some_turns A' B' sa sb j' in (r.0, r.1, subst (λ l. Turns A' B' j' (l ++ r.0) r.1) (sym t.0) r.2)
longer_turns A A' B B' wa la wb lb sa sb (suc j) zero le os t = absurd (omega (arith, le))
longer_turns A A' B B' wa la wb lb sa sb (suc j) (suc j') le os t =
    let rest = longer_turns A A' B B' wa la wb lb sa sb j j' (omega (arith, le)) in
    let more = some_turns A' B' sa sb j' in
    longer_joined A A' (λ how. Broken how (Joined B (λ how'. Broken how' (Turns A B j)))) (λ how. Broken how (Joined B' (λ how'. Broken how' (Turns A' B' j')))) wa la
    (longer_broken _ _ (longer_joined B B' (λ how'. Broken how' (Turns A B j)) (λ how'. Broken how' (Turns A' B' j')) wb lb (longer_broken _ _ rest) (λ ys x. x.0) (some_broken _ more)))
    (λ ys x. x.0)
    (some_broken _ (some_joined B' _ sb (some_broken _ more))) os t

-- with more turns a trace that is cut goes on
pub longer_trace : (k k' : ℕ) → k ≤ k' → (t : Ops) → Longer (IsTrace k t) (IsTrace k' t)
unfolding IsCut
longer_trace k k' le (op o) os t = never t.1 (λ x. x)
longer_trace k k' le nothing os t = never t.1 (λ x. x)
longer_trace k k' le (next a b) os t =
    longer_joined (IsTrace k a) (IsTrace k' a) (λ how. After how (IsTrace k b)) (λ how. After how (IsTrace k' b)) (more_turns k k' le a) (longer_trace k k' le a) (longer_after (IsTrace k b) (IsTrace k' b) (longer_trace k k' le b)) (λ ys x. x.0) (some_later k' b) os t
longer_trace k k' le (either a b) os (inl t) = let r = longer_trace k k' le a os t in (r.0, r.1, inl r.2)
longer_trace k k' le (either a b) os (inr t) = let r = longer_trace k k' le b os t in (r.0, r.1, inr r.2)
longer_trace k k' le (loop a b) os t =
    longer_turns _ _ _ _ (more_turns k k' le a) (longer_trace k k' le a) (more_turns k k' le b) (longer_trace k k' le b) (some_trace k' a) (some_trace k' b) k k' le os t
longer_trace k k' le (catch a) os t = let r = longer_trace k k' le a os (was_cut t.0 t.2 t.1) in (r.0, caught r.1, (r.1, r.2, refl))
  where
    was_cut : (how : Completion) → cut ≡ caught how → IsTrace k a os how → IsTrace k a os cut
    was_cut goes_on e x = never e (λ y. y)
    was_cut (breaks s) e x = never e (λ y. y)
    was_cut (continues s) e x = never e (λ y. y)
    was_cut (returns s) e x = never e (λ y. y)
    was_cut halts e x = never e (λ y. y)
    was_cut cut e x = x
longer_trace k k' le (scope bs s a) os t =
    let r = longer_trace k k' le a t.0 t.1 in
    let is : os ≡ t.0 = t.2 ∙ append_empty t.0 in
    (r.0 ++ ends_for bs s r.1, r.1, (t.0 ++ r.0, r.2, ap (λ l. l ++ (r.0 ++ ends_for bs s r.1)) is ∙ sym (append_assoc t.0 r.0 (ends_for bs s r.1))))
longer_trace k k' le (break_at s) os t = never t.1 (λ x. x)
longer_trace k k' le (continue_at s) os t = never t.1 (λ x. x)
longer_trace k k' le (return_at s) os t = never t.1 (λ x. x)
longer_trace k k' le halt os t = never t.1 (λ x. x)
