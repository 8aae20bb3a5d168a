-- The ops of a trace stand in the tree, or are Ends of its scopes; so does each maker, and so each cause.
use Rattle.std.proofs.Common.{◌≡◌, ℕ, zero, suc, ◌⊎◌, Bool, true, false, ◌&&◌, not, List, [], ◌∷◌, ◌++◌, inl, inr, refl, sym, ap, subst}
use Rattle.std.specs.Prelude.{IsTrue, if◌then◌else◌}
use Rattle.own_tree.specs.declared.op.Op.{Op}
use Rattle.own_tree.specs.declared.op.OpKind.{OpKind}
use Rattle.own_tree.specs.declared.op.OpKind.TheVariants as kind
use Rattle.own_tree.specs.declared.place.Place.{Place}
use Rattle.own_tree.specs.declared.span.Span.{Span}
use Rattle.own_tree.specs.OpSource.{Ops, op, nothing, next, either, loop, catch, scope, break_at, continue_at, return_at, halt}
use Rattle.own_paths.specs.Fixed.{ops_in}
use Rattle.own_paths.specs.Makers.{Mark, fresh, made, ended, bare, marked, BodyUses, mark_by, mark_after, maker}
use Rattle.own_shapes.specs.Places.{covers}
use Rattle.own_paths.specs.Traces.{Completion, goes_on, breaks, continues, returns, halts, cut, Set, After, Joined, Broken, Turns, IsTrace, ends_at, ends_for}
use Rattle.own_shapes.proofs.Lists.{In, in_front, in_back, in_either}

-- the bindings whose Ends the scopes of a tree add
abbrev pub ends_in : Ops → List ℕ
ends_in (op o) = []
ends_in nothing = []
ends_in (next a b) = ends_in a ++ ends_in b
ends_in (either a b) = ends_in a ++ ends_in b
ends_in (loop a b) = ends_in a ++ ends_in b
ends_in (catch a) = ends_in a
ends_in (scope xs close a) = xs ++ ends_in a
ends_in (break_at s) = []
ends_in (continue_at s) = []
ends_in (return_at s) = []
ends_in halt = []

-- an op of the tree, or an End of one of its scopes
abbrev pub Stands : Ops → Op → Type 0
Stands t o = In (ops_in t) o ⊎ ((o.kind ≡ kind.End) × In (ends_in t) o.place.binding)

-- each op of a set of traces
abbrev Each : (Op → Type 0) → Set → Type 0
Each P A = (os : List Op) (c : Completion) → A os c → (o : Op) → In os o → P o

none_in : (P : Op → Type 0) (os : List Op) (o : Op) → os ≡ [] → In os o → P o
none_in P os o e h = absurd (subst (λ l. In l o) e h)

module _ (P : Op → Type 0) (B : Set) (b : Each P B) where
  after_each : (how : Completion) → Each P (After how B)
  after_each goes_on os c t o h = b os c t o h
  after_each (breaks s) os c t o h = none_in P os o t.0 h
  after_each (continues s) os c t o h = none_in P os o t.0 h
  after_each (returns s) os c t o h = none_in P os o t.0 h
  after_each halts os c t o h = none_in P os o t.0 h
  after_each cut os c t o h = none_in P os o t.0 h

  broken_each : (how : Completion) → Each P (Broken how B)
  broken_each goes_on os c t o h = b os c t o h
  broken_each (breaks s) os c t o h = none_in P os o t.0 h
  broken_each (continues s) os c t o h = b os c t o h
  broken_each (returns s) os c t o h = none_in P os o t.0 h
  broken_each halts os c t o h = none_in P os o t.0 h
  broken_each cut os c t o h = none_in P os o t.0 h

joined_each : (P : Op → Type 0) (A : Set) (B : Completion → Set) → Each P A → ((how : Completion) → Each P (B how)) → Each P (Joined A B)
joined_each P A B a b os c t o h = elim (in_either t.0 t.2 o (subst (λ l. In l o) t.5 h)) [
  | inl first ↦ a t.0 t.1 t.3 o first
  | inr later ↦ b t.1 t.2 c t.4 o later
]

turns_each : (P : Op → Type 0) (A B : Set) → Each P A → Each P B → (j : ℕ) → Each P (Turns A B j)
turns_each P A B a b zero os c t o h = none_in P os o t.0 h
turns_each P A B a b (suc j) os c t o h =
    joined_each P A _ a (λ how. broken_each P _ (joined_each P B _ b (λ how'. broken_each P _ (turns_each P A B a b j) how')) how) os c t o h

end_each : (s : Span) (xs : List ℕ) (o : Op) → In (ends_at s xs) o → (o.kind ≡ kind.End) × In xs o.place.binding
end_each s [] o h = absurd h
end_each s (x ∷ xs) o h = elim (in_either (ends_at s xs) _ o h) [
  | inl before ↦ let r = end_each s xs o before in (r.0, inr r.1)
  | inr (inl e) ↦ (sym (ap (λ (p : Op). p.kind) e), inl (ap (λ (p : Op). p.place.binding) e))
  | inr (inr none) ↦ absurd none
]

ends_each : (xs : List ℕ) (s : Span) (c : Completion) (o : Op) → In (ends_for xs s c) o → (o.kind ≡ kind.End) × In xs o.place.binding
ends_each xs s goes_on o h = end_each s xs o h
ends_each xs s (breaks at) o h = end_each at xs o h
ends_each xs s (continues at) o h = end_each at xs o h
ends_each xs s (returns at) o h = end_each at xs o h
ends_each xs s halts o h = absurd h
ends_each xs s cut o h = absurd h

abbrev Wider : Ops → Ops → Type 0
Wider a t = (o : Op) → Stands a o → Stands t o

of_first : (a b t : Ops) → ops_in t ≡ ops_in a ++ ops_in b → ends_in t ≡ ends_in a ++ ends_in b → Wider a t
of_first a b t e f o (inl h) = inl (subst (λ l. In l o) (sym e) (in_front (ops_in a) (ops_in b) o h))
of_first a b t e f o (inr h) = inr (h.0, subst (λ l. In l o.place.binding) (sym f) (in_front (ends_in a) (ends_in b) o.place.binding h.1))

of_second : (a b t : Ops) → ops_in t ≡ ops_in a ++ ops_in b → ends_in t ≡ ends_in a ++ ends_in b → Wider b t
of_second a b t e f o (inl h) = inl (subst (λ l. In l o) (sym e) (in_back (ops_in a) (ops_in b) o h))
of_second a b t e f o (inr h) = inr (h.0, subst (λ l. In l o.place.binding) (sym f) (in_back (ends_in a) (ends_in b) o.place.binding h.1))

wider : (a t : Ops) (A : Set) → Wider a t → Each (Stands a) A → Each (Stands t) A
wider a t A w e os c h o i = w o (e os c h o i)

-- each op of a trace
pub stands : (k : ℕ) (t : Ops) → Each (Stands t) (IsTrace k t)
stands k (op o) os c t x h = inl (subst (λ l. In l x) t.0 h)
stands k nothing os c t x h = none_in (Stands nothing) os x t.0 h
stands k (next a b) os c t x h =
    joined_each _ _ _ (wider a (next a b) _ (of_first a b (next a b) refl refl) (stands k a))
    (λ how. after_each _ _ (wider b (next a b) _ (of_second a b (next a b) refl refl) (stands k b)) how) os c t x h
stands k (either a b) os c (inl t) x h = of_first a b (either a b) refl refl x (stands k a os c t x h)
stands k (either a b) os c (inr t) x h = of_second a b (either a b) refl refl x (stands k b os c t x h)
stands k (loop a b) os c t x h =
    turns_each _ _ _ (wider a (loop a b) _ (of_first a b (loop a b) refl refl) (stands k a))
    (wider b (loop a b) _ (of_second a b (loop a b) refl refl) (stands k b)) k os c t x h
stands k (catch a) os c t x h = stands k a os t.0 t.1 x h
stands k (scope xs close a) os c t x h = elim (in_either t.0 _ x (subst (λ l. In l x) t.2 h)) [
  | inl inner ↦ elim (stands k a t.0 c t.1 x inner) [
    | inl o ↦ inl o
    | inr e ↦ inr (e.0, in_back xs (ends_in a) x.place.binding e.1)
  ]
  | inr end ↦ let e = ends_each xs close c x end in inr (e.0, in_front xs (ends_in a) x.place.binding e.1)
]
stands k (break_at s) os c t x h = none_in (Stands (break_at s)) os x t.0 h
stands k (continue_at s) os c t x h = none_in (Stands (continue_at s)) os x t.0 h
stands k (return_at s) os c t x h = none_in (Stands (return_at s)) os x t.0 h
stands k halt os c t x h = none_in (Stands halt) os x t.0 h

-- ---- makers

-- what the mark of a leaf says of the op that it names
abbrev pub KindIs : Mark → OpKind → Type 0
KindIs fresh k = Unit {0}
KindIs (made o) k = (k ≡ kind.Make) ⊎ (k ≡ kind.Assign)
KindIs (ended o) k = (k ≡ kind.Consume) ⊎ (k ≡ kind.Discard) ⊎ (k ≡ kind.End)
KindIs (bare o) k = k ≡ kind.Declare

abbrev Comes : (Op → Type 0) → Place → Mark → Op → Type 0
Comes P leaf m o = P o × IsTrue (covers o.place leaf) × KindIs m o.kind

abbrev pub Origin : (Op → Type 0) → Place → Mark → Type 0
Origin P leaf fresh = Unit {0}
Origin P leaf (made o) = Comes P leaf (made o) o
Origin P leaf (ended o) = Comes P leaf (ended o) o
Origin P leaf (bare o) = Comes P leaf (bare o) o

module _ (uses : BodyUses) (P : Op → Type 0) (leaf : Place) where
  marked_origin : (o : Op) (m : Mark) (k : OpKind) → o.kind ≡ k → P o → IsTrue (covers o.place leaf) → Origin P leaf m → Origin P leaf (marked k o m)
  marked_origin o m kind.Declare e p c h = (p, c, e)
  marked_origin o m kind.Make e p c h = (p, c, inl e)
  marked_origin o m kind.Read e p c h = h
  marked_origin o m kind.Borrow e p c h = h
  marked_origin o m kind.Inout e p c h = h
  marked_origin o m kind.Consume e p c h = (p, c, inl e)
  marked_origin o m kind.Discard e p c h = (p, c, inr (inl e))
  marked_origin o m kind.Assign e p c h = (p, c, inr e)
  marked_origin o m kind.Capture e p c h = h
  marked_origin o m kind.End e p c h = (p, c, inr (inr e))

  by_origin : (o : Op) (m : Mark) → P o → Origin P leaf m → Origin P leaf (mark_by uses leaf o m)
  by_origin o m p h = cases (covers o.place leaf) (not (uses.ends_nothing o)) refl
    where
      cases : (b c : Bool) → covers o.place leaf ≡ b → Origin P leaf (if b && c then marked o.kind o m else m)
      cases true true e = marked_origin o m o.kind refl p e h
      cases true false e = h
      cases false c e = h

  pub after_origin : (os : List Op) (m : Mark) → ((o : Op) → In os o → P o) → Origin P leaf m → Origin P leaf (mark_after uses leaf m os)
  after_origin [] m all h = h
  after_origin (o ∷ os) m all h = after_origin os (mark_by uses leaf o m) (λ x i. all x (inr i)) (by_origin o m (all o (inl refl)) h)

  pub maker_origin : (os : List Op) → ((o : Op) → In os o → P o) → Origin P leaf (maker uses leaf os)
  maker_origin os all = after_origin os fresh all tt
