-- What breaks rules at nodes, by the leaves that are looked at.
use Rattle.std.proofs.Common.{◌≡◌, ℕ, ◌<◌, ◌≤◌, ◌⊎◌, inl, inr, Bool, true, false, ◌||◌, ◌==◌, List, length, get_or, slice_get, Option, Some, None, refl, sym, ap, ◌∙◌, subst, arith}
use Rattle.std.proofs.lemmas.Bool.{and_parts, eqb-true}
use Rattle.std.proofs.lemmas.Option.{slice_get_within, slice_get-get_or}
use Rattle.own_tree.specs.declared.finding.Finding.{Finding}
use Rattle.own_tree.specs.declared.finding.Rule.{Rule}
use Rattle.own_tree.specs.declared.finding.Rule.TheVariants as rule
use Rattle.own_tree.specs.declared.graph.Node.{Node}
use Rattle.own_tree.specs.declared.op.Op.{Op}
use Rattle.own_tree.specs.declared.op.OpKind.{OpKind}
use Rattle.own_tree.specs.declared.op.OpKind.TheVariants as kind
use Rattle.own_tree.specs.declared.place.Place.{Place}
use Rattle.own_tree.specs.declared.span.Span.{Span}
use Rattle.own_paths.specs.Findings.{IsNotAfter, IsFirstLeaf}
use Rattle.own_paths.specs.Fixed.{broken}
use Rattle.own_paths.specs.Makers.{kind_needs}
use Rattle.own_shapes.specs.Places.{covers, overlaps, is_prefix}
use Rattle.own_shapes.proofs.PlaceOrder.{numbers}
use Rattle.own_table.specs.Table.{types_in}
use Rattle.own_breaks.specs.Asking.{owes}
use Rattle.own_breaks.specs.Blaming.{BreaksHere, LacksHere}
use Rattle.own_breaks.specs.Settling.{asked_place, IsNoWorse, offered, Gathers}
use Rattle.own_breaks.proofs.Gathering.{gathers_none, gathers_as, gathers_on, gathers_best}
use Rattle.own_rules.specs.declared.body.Body.{Body}
use Rattle.own_rules.specs.Bodies.{IsLeast, CauseIn, asked_by, mode_in, let_in, IsBreakWith, IsLackWith, BreaksOf, LacksOf, OpBreaks, ExitBreaks, BreaksIn}

-- ---- a rule asks only for leaves of the binding of its op

covers_binding : (p q : Place) → covers p q ≡ true → p.binding ≡ q.binding
covers_binding p q h = eqb-true p.binding q.binding (and_parts (p.binding == q.binding) (is_prefix p.fields q.fields) h).0

overlaps_binding : (p q : Place) → overlaps p q ≡ true → p.binding ≡ q.binding
overlaps_binding p q h = cases (covers p q) refl
  where
    cases : (b : Bool) → covers p q ≡ b → p.binding ≡ q.binding
    cases true e = covers_binding p q e
    cases false e = sym (covers_binding q p (subst (λ b. (b || covers q p) ≡ true) e h))

needed_binding : (k : OpKind) (place leaf : Place) → kind_needs k place leaf ≡ true → leaf.binding ≡ place.binding
needed_binding kind.Declare place leaf h = absurd cc
needed_binding kind.Make place leaf h = absurd cc
needed_binding kind.End place leaf h = absurd cc
needed_binding kind.Assign place leaf h = covers_binding leaf place (and_parts (covers leaf place) _ h).0
needed_binding kind.Read place leaf h = overlaps_binding leaf place h
needed_binding kind.Borrow place leaf h = overlaps_binding leaf place h
needed_binding kind.Inout place leaf h = overlaps_binding leaf place h
needed_binding kind.Consume place leaf h = overlaps_binding leaf place h
needed_binding kind.Discard place leaf h = overlaps_binding leaf place h
needed_binding kind.Capture place leaf h = overlaps_binding leaf place h

-- ---- reads

some_of : (x y : Place) → Some x ≡ Some y → x ≡ y
some_of x y e = cc

pub read_at' : (xs : List Place) (k : ℕ) (x d : Place) → slice_get xs k ≡ Some x → get_or xs k d ≡ x
read_at' xs k x d at = some_of (get_or xs k d) x (sym (slice_get-get_or xs k d (slice_get_within xs k x at)) ∙ at)

pub read_at : (xs : List Place) (k : ℕ) (x : Place) → slice_get xs k ≡ Some x → get_or xs k x ≡ x
read_at xs k x at = read_at' xs k x x at

-- ---- which finding is no worse

-- of breaks of one rule at one span and place
pub no_worse : (r : Rule) (s : Span) (p : Place) (cause : Span) (g : Finding) → g.rule ≡ r → g.span ≡ s → g.place ≡ p → IsNotAfter cause g.cause
    → IsNoWorse (broken r s p cause) g
no_worse r s p cause g rule_is span_is place_is after =
    ((sym rule_is, sym span_is, ap (λ x. asked_place r x) (sym place_is) ∙ ap (λ x. asked_place x g.place) (sym rule_is)), first after)
  where
    first : IsNotAfter cause g.cause → IsFirstLeaf (broken r s p cause) g.place g.cause
    first (inl same) = inr (same, inl (sym place_is))
    first (inr before) = inl before

module _ (b : Body) where
  asked_binding : (r : Rule) (o : Op) (leaf : Place) → asked_by b r o leaf ≡ true → leaf.binding ≡ o.place.binding
  asked_binding rule.O1 o leaf h = needed_binding o.kind o.place leaf h
  asked_binding rule.O2 o leaf h = needed_binding o.kind o.place leaf h
  asked_binding rule.O4 o leaf h = sym (covers_binding o.place leaf (and_parts _ (covers o.place leaf) h).1)
  asked_binding rule.O6 o leaf h = sym (covers_binding o.place leaf (and_parts _ (covers o.place leaf) h).1)
  asked_binding rule.O3 o leaf h = absurd cc
  asked_binding rule.O5 o leaf h = absurd cc
  asked_binding rule.O7 o leaf h = absurd cc
  asked_binding rule.O8 o leaf h = absurd cc
  asked_binding rule.O9 o leaf h = absurd cc
  asked_binding rule.O10 o leaf h = absurd cc
  asked_binding rule.O11 o leaf h = absurd cc
  asked_binding rule.F1 o leaf h = absurd cc

  some_place : (x y : Place) → Some x ≡ Some y → x ≡ y
  some_place x y e = cc

  -- a leaf of another binding breaks nothing
  pub other_binding : (r : Rule) (u : ℕ) (o : Op) (l : ℕ) (f : Finding) → IsBreakWith b r u o l f → (leaf : Place) → slice_get b.leaves.now l ≡ Some leaf → leaf.binding ≡ o.place.binding
  other_binding r u o l f i leaf at =
      ap (λ (p : Place). p.binding) (some_place leaf i.leaf (sym at ∙ i.is_leaf)) ∙ asked_binding r o i.leaf i.asked

  -- ---- one leaf

  asks_none : (r : Rule) (u : ℕ) (o : Op) (l : ℕ) (leaf : Place) (xs : List Finding) → slice_get b.leaves.now l ≡ Some leaf → asked_by b r o leaf ≡ false
      → Gathers (IsBreakWith b r u o l) xs xs
  asks_none r u o l leaf xs at never =
      gathers_none (IsBreakWith b r u o l) xs (λ f i. apart (sym never ∙ ap (λ x. asked_by b r o x) (some_place leaf i.leaf (sym at ∙ i.is_leaf)) ∙ i.asked))
    where
      apart : false ≡ true → ⊥
      apart e = cc

  pub asks_not : (r : Rule) (u : ℕ) (o : Op) (l : ℕ) (leaf : Place) (xs : List Finding) → slice_get b.leaves.now l ≡ Some leaf → asked_by b r o leaf ≡ false
      → Gathers (IsBreakWith b r u o l) xs xs
  asks_not r u o l leaf xs at never = asks_none r u o l leaf xs at never

  -- no maker breaks the rule
  pub blames_none : (r : Rule) (u : ℕ) (o : Op) (l : ℕ) (xs : List Finding) → IsLeast (CauseIn b r u l) None → Gathers (IsBreakWith b r u o l) xs xs
  blames_none r u o l xs none = gathers_none (IsBreakWith b r u o l) xs (λ f i. none f.cause i.cause)

  pub break_found : (r : Rule) (u : ℕ) (o : Op) (l : ℕ) (leaf : Place) (cause : Span) (xs : List Finding) → slice_get b.leaves.now l ≡ Some leaf
      → asked_by b r o leaf ≡ true → IsLeast (CauseIn b r u l) (Some cause) → Gathers (IsBreakWith b r u o l) xs (offered xs (broken r o.span o.place cause))
  break_found r u o l leaf cause xs at holds least =
      gathers_best (IsBreakWith b r u o l) xs (broken r o.span o.place cause)
      (record { rule_is = refl; span_is = refl; place_is = refl; leaf = leaf; is_leaf = at; asked = holds; cause = least.0 })
      (λ g i. no_worse r o.span o.place cause g i.rule_is i.span_is i.place_is (least.1 g.cause i.cause))

  -- ---- one leaf at a return

  pub owes_not : (r : Rule) (u : ℕ) (at : Span) (l : ℕ) (leaf : Place) (xs : List Finding) → slice_get b.leaves.now l ≡ Some leaf
      → owes r (mode_in b.bindings.now leaf.binding) ≡ false → Gathers (IsLackWith b r u at l) xs xs
  owes_not r u at l leaf xs there never =
      gathers_none (IsLackWith b r u at l) xs
      (λ f i. apart (sym never ∙ ap (λ (x : Place). owes r (mode_in b.bindings.now x.binding)) (some_place leaf f.place (sym there ∙ i.is_leaf)) ∙ i.owed))
    where
      apart : false ≡ true → ⊥
      apart e = cc

  pub lacks_none : (r : Rule) (u : ℕ) (at : Span) (l : ℕ) (xs : List Finding) → IsLeast (CauseIn b r u l) None → Gathers (IsLackWith b r u at l) xs xs
  lacks_none r u at l xs none = gathers_none (IsLackWith b r u at l) xs (λ f i. none f.cause i.cause)

  pub lack_found : (r : Rule) (u : ℕ) (at : Span) (l : ℕ) (leaf : Place) (cause : Span) (xs : List Finding) → slice_get b.leaves.now l ≡ Some leaf
      → owes r (mode_in b.bindings.now leaf.binding) ≡ true → IsLeast (CauseIn b r u l) (Some cause)
      → Gathers (IsLackWith b r u at l) xs (offered xs (broken r at leaf cause))
  lack_found r u at l leaf cause xs there holds least =
      gathers_best (IsLackWith b r u at l) xs (broken r at leaf cause)
      (record { rule_is = refl; span_is = refl; is_leaf = there; owed = holds; cause = least.0 })
      (λ g i. no_worse r at leaf cause g i.rule_is i.span_is (some_place g.place leaf (sym i.is_leaf ∙ there)) (least.1 g.cause i.cause))

  -- ---- all leaves

  -- from those of the op's own binding to all
  pub own_leaves_only : (r : Rule) (u : ℕ) (o : Op) (k : ℕ) (xs ys : List Finding)
      → ((l : ℕ) (leaf : Place) → k ≤ l → slice_get b.leaves.now l ≡ Some leaf → leaf.binding ≡ o.place.binding → ⊥)
      → Gathers (λ f. (l : ℕ) × (l < k) × IsBreakWith b r u o l f) xs ys → Gathers (BreaksOf b r u o) xs ys
  own_leaves_only r u o k xs ys others g =
      gathers_as (λ f. (l : ℕ) × (l < k) × IsBreakWith b r u o l f) (BreaksOf b r u o) xs ys (λ f h. (h.0, h.2))
      (λ f h. (h.0, below h.0 (λ le. others h.0 h.1.leaf le h.1.is_leaf (asked_binding r o h.1.leaf h.1.asked)), h.1)) g
    where
      below : (l : ℕ) → (k ≤ l → ⊥) → l < k
      below l never = elim (numbers l k) [
        | inl less ↦ less
        | inr (inl same) ↦ absurd (never (omega (arith, same)))
        | inr (inr more) ↦ absurd (never (omega (arith, more)))
      ]

  pub no_first_leaves : (r : Rule) (u : ℕ) (o : Op) (k : ℕ) (xs : List Finding)
      → ((l : ℕ) (leaf : Place) → l < k → slice_get b.leaves.now l ≡ Some leaf → leaf.binding ≡ o.place.binding → ⊥)
      → Gathers (λ f. (l : ℕ) × (l < k) × IsBreakWith b r u o l f) xs xs
  no_first_leaves r u o k xs others =
      gathers_none (λ f. (l : ℕ) × (l < k) × IsBreakWith b r u o l f) xs
      (λ f h. others h.0 h.2.leaf h.1 h.2.is_leaf (asked_binding r o h.2.leaf h.2.asked))

  pub all_lacks : (r : Rule) (u : ℕ) (at : Span) (k : ℕ) (xs ys : List Finding) → length b.leaves.now ≤ k
      → Gathers (λ f. (l : ℕ) × (l < k) × IsLackWith b r u at l f) xs ys → Gathers (LacksOf b r u at) xs ys
  all_lacks r u at k xs ys le g =
      gathers_as (λ f. (l : ℕ) × (l < k) × IsLackWith b r u at l f) (LacksOf b r u at) xs ys (λ f h. (h.0, h.2))
      (λ f h. let lt = slice_get_within b.leaves.now h.0 f.place h.1.is_leaf in (h.0, omega (arith, lt, le), h.1)) g

  -- ---- all rules

  unasked : false ≡ true → ⊥
  unasked e = cc

  abbrev Here : ℕ → Op → Finding → Type 0
  Here u o f =
      BreaksHere b.nodes.now b.pairs.now b.facts.now b.leaves.now b.discards (mode_in b.bindings.now) (let_in (types_in b.table.now) b.bindings.now) u o f

  abbrev FourRules : ℕ → Op → Finding → Type 0
  FourRules u o f = ((BreaksOf b rule.O1 u o f ⊎ BreaksOf b rule.O2 u o f) ⊎ BreaksOf b rule.O4 u o f) ⊎ BreaksOf b rule.O6 u o f

  to_rule : (u : ℕ) (o : Op) (f : Finding) (r : Rule) → f.rule ≡ r → Here u o f → BreaksOf b r u o f
  to_rule u o f r e h = (
    h.number,
    record {
      rule_is = e;
      span_is = h.span_is;
      place_is = h.place_is;
      leaf = h.leaf;
      is_leaf = h.is_leaf;
      asked = subst (λ x. asked_by b x o h.leaf ≡ true) e h.asked;
      cause = subst (λ x. CauseIn b x u h.number f.cause) e h.cause;
    },
  )

  from_rule : (u : ℕ) (o : Op) (f : Finding) (r : Rule) → BreaksOf b r u o f → Here u o f
  from_rule u o f r h = record {
    span_is = h.1.span_is;
    place_is = h.1.place_is;
    number = h.0;
    leaf = h.1.leaf;
    is_leaf = h.1.is_leaf;
    asked = subst (λ x. asked_by b x o h.1.leaf ≡ true) (sym h.1.rule_is) h.1.asked;
    cause = subst (λ x. CauseIn b x u h.0 f.cause) (sym h.1.rule_is) h.1.cause;
  }

  four_rules : (u : ℕ) (o : Op) (f : Finding) (r : Rule) → f.rule ≡ r → Here u o f → FourRules u o f
  four_rules u o f rule.O1 e h = inl (inl (inl (to_rule u o f rule.O1 e h)))
  four_rules u o f rule.O2 e h = inl (inl (inr (to_rule u o f rule.O2 e h)))
  four_rules u o f rule.O4 e h = inl (inr (to_rule u o f rule.O4 e h))
  four_rules u o f rule.O6 e h = inr (to_rule u o f rule.O6 e h)
  four_rules u o f rule.O3 e h = absurd (unasked (subst (λ x. asked_by b x o h.leaf ≡ true) e h.asked))
  four_rules u o f rule.O5 e h = absurd (unasked (subst (λ x. asked_by b x o h.leaf ≡ true) e h.asked))
  four_rules u o f rule.O7 e h = absurd (unasked (subst (λ x. asked_by b x o h.leaf ≡ true) e h.asked))
  four_rules u o f rule.O8 e h = absurd (unasked (subst (λ x. asked_by b x o h.leaf ≡ true) e h.asked))
  four_rules u o f rule.O9 e h = absurd (unasked (subst (λ x. asked_by b x o h.leaf ≡ true) e h.asked))
  four_rules u o f rule.O10 e h = absurd (unasked (subst (λ x. asked_by b x o h.leaf ≡ true) e h.asked))
  four_rules u o f rule.O11 e h = absurd (unasked (subst (λ x. asked_by b x o h.leaf ≡ true) e h.asked))
  four_rules u o f rule.F1 e h = absurd (unasked (subst (λ x. asked_by b x o h.leaf ≡ true) e h.asked))

  some_op : (x y : Op) → Some x ≡ Some y → x ≡ y
  some_op x y e = cc

  some_span : (x y : Span) → Some x ≡ Some y → x ≡ y
  some_span x y e = cc

  pub op_breaks : (u : ℕ) (o : Op) (xs ys : List Finding) → Gathers (FourRules u o) xs ys → Gathers (OpBreaks b u (Some o)) xs ys
  op_breaks u o xs ys g =
      gathers_as (FourRules u o) (OpBreaks b u (Some o)) xs ys to
      (λ f h. four_rules u o f f.rule refl (subst (λ x. Here u x f) (sym (some_op o h.0 h.1)) h.2)) g
    where
      to : (f : Finding) → FourRules u o f → OpBreaks b u (Some o) f
      to f (inl (inl (inl h))) = (o, refl, from_rule u o f rule.O1 h)
      to f (inl (inl (inr h))) = (o, refl, from_rule u o f rule.O2 h)
      to f (inl (inr h)) = (o, refl, from_rule u o f rule.O4 h)
      to f (inr h) = (o, refl, from_rule u o f rule.O6 h)

  pub no_op_breaks : (u : ℕ) (op : Option Op) (xs : List Finding) → op ≡ None → Gathers (OpBreaks b u op) xs xs
  no_op_breaks u op xs none = gathers_none (OpBreaks b u op) xs (λ f h. apart h.0 (sym none ∙ h.1))
    where
      apart : (o : Op) → None ≡ Some o → ⊥
      apart o e = cc

  -- ---- returns

  abbrev Lacks : ℕ → Span → Finding → Type 0
  Lacks u at f =
      LacksHere b.nodes.now b.pairs.now b.facts.now b.leaves.now b.discards (mode_in b.bindings.now) (let_in (types_in b.table.now) b.bindings.now) u at f

  abbrev TwoRules : ℕ → Span → Finding → Type 0
  TwoRules u at f = LacksOf b rule.O3 u at f ⊎ LacksOf b rule.O5 u at f

  abbrev owed_by : Rule → Finding → Bool
  owed_by r f = owes r (mode_in b.bindings.now f.place.binding)

  lack_to : (u : ℕ) (at : Span) (f : Finding) (r : Rule) → f.rule ≡ r → Lacks u at f → LacksOf b r u at f
  lack_to u at f r e h = (
    h.number,
    record {
      rule_is = e;
      span_is = h.span_is;
      is_leaf = h.is_leaf;
      owed = subst (λ x. owed_by x f ≡ true) e h.owed;
      cause = subst (λ x. CauseIn b x u h.number f.cause) e h.cause;
    },
  )

  lack_from : (u : ℕ) (at : Span) (f : Finding) (r : Rule) → LacksOf b r u at f → Lacks u at f
  lack_from u at f r h = record {
    span_is = h.1.span_is;
    number = h.0;
    is_leaf = h.1.is_leaf;
    owed = subst (λ x. owed_by x f ≡ true) (sym h.1.rule_is) h.1.owed;
    cause = subst (λ x. CauseIn b x u h.0 f.cause) (sym h.1.rule_is) h.1.cause;
  }

  two_rules : (u : ℕ) (at : Span) (f : Finding) (r : Rule) → f.rule ≡ r → Lacks u at f → TwoRules u at f
  two_rules u at f rule.O3 e h = inl (lack_to u at f rule.O3 e h)
  two_rules u at f rule.O5 e h = inr (lack_to u at f rule.O5 e h)
  two_rules u at f rule.O1 e h = absurd (unasked (subst (λ x. owed_by x f ≡ true) e h.owed))
  two_rules u at f rule.O2 e h = absurd (unasked (subst (λ x. owed_by x f ≡ true) e h.owed))
  two_rules u at f rule.O4 e h = absurd (unasked (subst (λ x. owed_by x f ≡ true) e h.owed))
  two_rules u at f rule.O6 e h = absurd (unasked (subst (λ x. owed_by x f ≡ true) e h.owed))
  two_rules u at f rule.O7 e h = absurd (unasked (subst (λ x. owed_by x f ≡ true) e h.owed))
  two_rules u at f rule.O8 e h = absurd (unasked (subst (λ x. owed_by x f ≡ true) e h.owed))
  two_rules u at f rule.O9 e h = absurd (unasked (subst (λ x. owed_by x f ≡ true) e h.owed))
  two_rules u at f rule.O10 e h = absurd (unasked (subst (λ x. owed_by x f ≡ true) e h.owed))
  two_rules u at f rule.O11 e h = absurd (unasked (subst (λ x. owed_by x f ≡ true) e h.owed))
  two_rules u at f rule.F1 e h = absurd (unasked (subst (λ x. owed_by x f ≡ true) e h.owed))

  pub exit_breaks : (u : ℕ) (at : Span) (xs ys : List Finding) → Gathers (TwoRules u at) xs ys → Gathers (ExitBreaks b u (Some at)) xs ys
  exit_breaks u at xs ys g =
      gathers_as (TwoRules u at) (ExitBreaks b u (Some at)) xs ys to
      (λ f h. two_rules u at f f.rule refl (subst (λ x. Lacks u x f) (sym (some_span at h.0 h.1)) h.2)) g
    where
      to : (f : Finding) → TwoRules u at f → ExitBreaks b u (Some at) f
      to f (inl h) = (at, refl, lack_from u at f rule.O3 h)
      to f (inr h) = (at, refl, lack_from u at f rule.O5 h)

  pub no_exit_breaks : (u : ℕ) (exit : Option Span) (xs : List Finding) → exit ≡ None → Gathers (ExitBreaks b u exit) xs xs
  no_exit_breaks u exit xs none = gathers_none (ExitBreaks b u exit) xs (λ f h. apart h.0 (sym none ∙ h.1))
    where
      apart : (s : Span) → None ≡ Some s → ⊥
      apart s e = cc

  -- ---- all nodes

  abbrev pub AtNode : ℕ → Finding → Type 0
  AtNode u f = (n : Node) × (slice_get b.nodes.now u ≡ Some n) × (OpBreaks b u n.op f ⊎ ExitBreaks b u n.exit f)

  some_node : (x y : Node) → Some x ≡ Some y → x ≡ y
  some_node x y e = cc

  pub node_breaks : (u : ℕ) (n : Node) (xs ys zs : List Finding) → slice_get b.nodes.now u ≡ Some n → Gathers (OpBreaks b u n.op) xs ys
      → Gathers (ExitBreaks b u n.exit) ys zs → Gathers (AtNode u) xs zs
  node_breaks u n xs ys zs there op exit =
      gathers_as (λ f. OpBreaks b u n.op f ⊎ ExitBreaks b u n.exit f) (AtNode u) xs zs (λ f h. (n, there, h))
      (λ f h. subst (λ (x : Node). OpBreaks b u x.op f ⊎ ExitBreaks b u x.exit f) (some_node h.0 n (sym h.1 ∙ there)) h.2)
      (gathers_on (OpBreaks b u n.op) (ExitBreaks b u n.exit) xs ys zs op exit)

  pub all_nodes : (k : ℕ) (xs ys : List Finding) → length b.nodes.now ≤ k → Gathers (λ f. (u : ℕ) × (u < k) × AtNode u f) xs ys → Gathers (BreaksIn b) xs ys
  all_nodes k xs ys le g =
      gathers_as (λ f. (u : ℕ) × (u < k) × AtNode u f) (BreaksIn b) xs ys (λ f h. (h.0, h.2.0, h.2.1, h.2.2))
      (λ f h. let lt = slice_get_within b.nodes.now h.0 h.1 h.2 in (h.0, omega (arith, lt, le), (h.1, h.2, h.3))) g
