-- All traces of a tree without loops, and all that its rules break on them.
use Rattle.std.proofs.Common.{◌≡◌, ℕ, zero, suc, ◌⊎◌, Bool, true, false, ◌&&◌, ◌||◌, ◌+◌, List, [], ◌∷◌, ◌++◌, append_assoc, Option, Some, None, slice_get, inl, inr, refl, sym, ap, ◌∙◌, subst, arith}
use Rattle.std.proofs.lemmas.Bool.{and_from, and_parts}
use Rattle.std.proofs.lemmas.List.{append-nil}
use Rattle.std.proofs.lemmas.Option.{slice_get_within}
use Rattle.std.specs.Prelude.{Contains, if◌then◌else◌}
use Rattle.own_tree.specs.declared.finding.Finding.{Finding}
use Rattle.own_tree.specs.declared.finding.Rule.{Rule}
use Rattle.own_tree.specs.declared.finding.Rule.TheVariants as rule
use Rattle.own_tree.specs.declared.op.Op.{Op}
use Rattle.own_tree.specs.declared.op.OpKind.{OpKind}
use Rattle.own_tree.specs.declared.op.OpKind.TheVariants as kind
use Rattle.own_tree.specs.declared.place.Mode.{Mode}
use Rattle.own_tree.specs.declared.place.Mode.TheVariants as mode
use Rattle.own_tree.specs.declared.place.Place.{Place}
use Rattle.own_tree.specs.declared.span.Span.{Span}
use Rattle.own_tree.specs.OpSource.{Ops, op, nothing, next, either, loop, catch, scope, break_at, continue_at, return_at, halt}
use Rattle.own_tree.specs.TypedSource.{TBody, Program}
use Rattle.own_paths.specs.Findings.{IsGivenBack, OpBreaks, BreaksAtOp, BreaksAtReturn, IsWithoutValue, ReturnBreaks, IsPathFindingBy, IsLeastOf, IsNotAfter, Rising, IsBodyFinding, IsFinding, AreFindings}
use Rattle.own_paths.specs.Fixed.{broken, is_assign, fixed_breaks}
use Rattle.own_paths.specs.Makers.{needs, Mark, fresh, made, ended, bare, BodyUses, tree_of, maker, uses_of}
use Rattle.own_shapes.specs.Places.{whole, covers}
use Rattle.own_paths.specs.Traces.{Completion, goes_on, breaks, continues, returns, halts, cut, After, caught, IsTrace, ends_for}
use Rattle.own_shapes.specs.Types.{Types}
use Rattle.own_paths.proofs.Least.{gives_up, given_up}
use Rattle.own_shapes.proofs.Lists.{In, in_front, in_back, in_contains, contains_in}

-- ---- traces

abbrev pub HasNoLoop : Ops → Type 0
HasNoLoop (op o) = Unit {0}
HasNoLoop nothing = Unit {0}
HasNoLoop (next a b) = HasNoLoop a × HasNoLoop b
HasNoLoop (either a b) = HasNoLoop a × HasNoLoop b
HasNoLoop (loop a b) = ⊥
HasNoLoop (catch a) = HasNoLoop a
HasNoLoop (scope xs close a) = HasNoLoop a
HasNoLoop (break_at s) = Unit {0}
HasNoLoop (continue_at s) = Unit {0}
HasNoLoop (return_at s) = Unit {0}
HasNoLoop halt = Unit {0}

pub record Trace : Type 0 where
  pub ops : List Op
  pub end : Completion

abbrev pub trace : List Op → Completion → Trace
trace ops end = record { ops = ops; end = end }

abbrev pub each : {A B : Type 0} → (A → B) → List A → List B
each f [] = []
each f (x ∷ xs) = f x ∷ each f xs

abbrev pub after : List Op → Completion → List Trace → List Trace
after xs goes_on bs = each (λ (b : Trace). trace (xs ++ b.ops) b.end) bs
after xs (breaks s) bs = trace (xs ++ []) (breaks s) ∷ []
after xs (continues s) bs = trace (xs ++ []) (continues s) ∷ []
after xs (returns s) bs = trace (xs ++ []) (returns s) ∷ []
after xs halts bs = trace (xs ++ []) halts ∷ []
after xs cut bs = trace (xs ++ []) cut ∷ []

abbrev pub each_after : List Trace → List Trace → List Trace
each_after [] bs = []
each_after (a ∷ as') bs = after a.ops a.end bs ++ each_after as' bs

abbrev pub traces : Ops → List Trace
traces (op o) = trace (o ∷ []) goes_on ∷ []
traces nothing = trace [] goes_on ∷ []
traces (next a b) = each_after (traces a) (traces b)
traces (either a b) = traces a ++ traces b
traces (loop a b) = []
traces (catch a) = each (λ (r : Trace). trace r.ops (caught r.end)) (traces a)
traces (scope xs close a) = each (λ (r : Trace). trace (r.ops ++ ends_for xs close r.end) r.end) (traces a)
traces (break_at s) = trace [] (breaks s) ∷ []
traces (continue_at s) = trace [] (continues s) ∷ []
traces (return_at s) = trace [] (returns s) ∷ []
traces halt = trace [] halts ∷ []

in_each : {A B : Type 0} (f : A → B) (xs : List A) (x : A) → In xs x → In (each f xs) (f x)
in_each f [] x h = h
in_each f (y ∷ xs) x (inl e) = inl (ap f e)
in_each f (y ∷ xs) x (inr h) = inr (in_each f xs x h)

same_trace : (os os' : List Op) (c c' : Completion) → os ≡ os' → c ≡ c' → trace os c ≡ trace os' c'
same_trace os os' c c' e f = λ j. record { ops = e j; end = f j }

module _ (B : List Op → Completion → Type 0) (bs : List Trace) (all : (os : List Op) (c : Completion) → B os c → In bs (trace os c)) where
  in_after : (xs : List Op) (how : Completion) (ys os : List Op) (c : Completion) → After how B ys c → os ≡ xs ++ ys → In (after xs how bs) (trace os c)
  in_after xs goes_on ys os c h e =
      subst (λ l. In (after xs goes_on bs) (trace l c)) (sym e) (in_each (λ (b : Trace). trace (xs ++ b.ops) b.end) bs (trace ys c) (all ys c h))
  in_after xs (breaks s) ys os c h e = inl (sym (same_trace os (xs ++ []) c (breaks s) (e ∙ ap (λ l. xs ++ l) h.0) h.1))
  in_after xs (continues s) ys os c h e = inl (sym (same_trace os (xs ++ []) c (continues s) (e ∙ ap (λ l. xs ++ l) h.0) h.1))
  in_after xs (returns s) ys os c h e = inl (sym (same_trace os (xs ++ []) c (returns s) (e ∙ ap (λ l. xs ++ l) h.0) h.1))
  in_after xs halts ys os c h e = inl (sym (same_trace os (xs ++ []) c halts (e ∙ ap (λ l. xs ++ l) h.0) h.1))
  in_after xs cut ys os c h e = inl (sym (same_trace os (xs ++ []) c cut (e ∙ ap (λ l. xs ++ l) h.0) h.1))

  in_each_after : (as' : List Trace) (xs : List Op) (how : Completion) (ys os : List Op) (c : Completion) → In as' (trace xs how) → After how B ys c → os ≡ xs ++ ys
      → In (each_after as' bs) (trace os c)
  in_each_after [] xs how ys os c i h e = i
  in_each_after (a ∷ as') xs how ys os c (inl same) h e =
      in_front (after a.ops a.end bs) (each_after as' bs) (trace os c)
      (subst (λ (t : Trace). In (after t.ops t.end bs) (trace os c)) (sym same) (in_after xs how ys os c h e))
  in_each_after (a ∷ as') xs how ys os c (inr i) h e =
      in_back (after a.ops a.end bs) (each_after as' bs) (trace os c) (in_each_after as' xs how ys os c i h e)

pub every : (k : ℕ) (t : Ops) → HasNoLoop t → (os : List Op) (c : Completion) → IsTrace k t os c → In (traces t) (trace os c)
every k (op o) n os c h = inl (sym (same_trace os (o ∷ []) c goes_on h.0 h.1))
every k nothing n os c h = inl (sym (same_trace os [] c goes_on h.0 h.1))
every k (next a b) n os c h = in_each_after (IsTrace k b) (traces b) (every k b n.1) (traces a) h.0 h.1 h.2 os c (every k a n.0 h.0 h.1 h.3) h.4 h.5
every k (either a b) n os c (inl h) = in_front (traces a) (traces b) (trace os c) (every k a n.0 os c h)
every k (either a b) n os c (inr h) = in_back (traces a) (traces b) (trace os c) (every k b n.1 os c h)
every k (loop a b) n os c h = absurd n
every k (catch a) n os c h =
    subst (λ d. In (traces (catch a)) (trace os d)) (sym h.2) (in_each (λ (r : Trace). trace r.ops (caught r.end)) (traces a) (trace os h.0) (every k a n os h.0 h.1))
every k (scope xs close a) n os c h =
    subst (λ l. In (traces (scope xs close a)) (trace l c)) (sym h.2)
    (in_each (λ (r : Trace). trace (r.ops ++ ends_for xs close r.end) r.end) (traces a) (trace h.0 c) (every k a n h.0 c h.1))
every k (break_at s) n os c h = inl (sym (same_trace os [] c (breaks s) h.0 h.1))
every k (continue_at s) n os c h = inl (sym (same_trace os [] c (continues s) h.0 h.1))
every k (return_at s) n os c h = inl (sym (same_trace os [] c (returns s) h.0 h.1))
every k halt n os c h = inl (sym (same_trace os [] c halts h.0 h.1))

-- ---- what is broken on a trace

abbrev pub if_true : {A : Type 0} → Bool → A → List A
if_true true x = x ∷ []
if_true false x = []

in_if : {A : Type 0} (b : Bool) (x : A) → b ≡ true → In (if_true b x) x
in_if b x e = subst (λ c. In (if_true c x) x) (sym e) (inl refl)

abbrev pub is_end : OpKind → Bool
is_end kind.End = true
is_end kind.Declare = false
is_end kind.Make = false
is_end kind.Read = false
is_end kind.Borrow = false
is_end kind.Inout = false
is_end kind.Consume = false
is_end kind.Discard = false
is_end kind.Assign = false
is_end kind.Capture = false

abbrev pub is_consuming_self : Option Mode → Bool
is_consuming_self (Some mode.SelfConsuming) = true
is_consuming_self m = false

abbrev pub is_given_back : Option Mode → Bool
is_given_back (Some mode.Inout) = true
is_given_back (Some mode.SelfMutating) = true
is_given_back m = false

abbrev pub is_new_self : Option Mode → Bool
is_new_self (Some mode.SelfInit) = true
is_new_self m = false

abbrev pub goes : Completion → Bool
goes goes_on = true
goes (breaks s) = false
goes (continues s) = false
goes (returns s) = false
goes halts = false
goes cut = false

or_true : (a b : Bool) → b ≡ true → (a || b) ≡ true
or_true true b e = refl
or_true false b e = e

module _ (uses : BodyUses) where
  -- the causes for which an op breaks each rule at a leaf with this mark
  abbrev pub causes_O1 : Op → Place → Mark → List Span
  causes_O1 o leaf fresh = []
  causes_O1 o leaf (made by) = []
  causes_O1 o leaf (ended by) = if_true (needs o leaf && gives_up by.kind) by.span
  causes_O1 o leaf (bare by) = []

  abbrev pub causes_O2 : Op → Place → Mark → List Span
  causes_O2 o leaf fresh = []
  causes_O2 o leaf (made by) = []
  causes_O2 o leaf (ended by) = []
  causes_O2 o leaf (bare by) = if_true (needs o leaf) by.span

  abbrev pub causes_O4 : Op → Place → Mark → List Span
  causes_O4 o leaf fresh = []
  causes_O4 o leaf (made by) =
      if_true (is_end o.kind && (is_consuming_self (uses.mode_of o.place.binding) && (uses.discards && covers o.place leaf))) by.span
  causes_O4 o leaf (ended by) = []
  causes_O4 o leaf (bare by) = []

  abbrev pub causes_O6 : Op → Place → Mark → List Span
  causes_O6 o leaf fresh = []
  causes_O6 o leaf (made by) = if_true (is_assign o.kind && (uses.is_let_property o.place && covers o.place leaf)) by.span
  causes_O6 o leaf (ended by) = []
  causes_O6 o leaf (bare by) = []

  abbrev pub causes_at : Rule → Op → Place → Mark → List Span
  causes_at rule.O1 o leaf m = causes_O1 o leaf m
  causes_at rule.O2 o leaf m = causes_O2 o leaf m
  causes_at rule.O4 o leaf m = causes_O4 o leaf m
  causes_at rule.O6 o leaf m = causes_O6 o leaf m
  causes_at rule.O3 o leaf m = []
  causes_at rule.O5 o leaf m = []
  causes_at rule.O7 o leaf m = []
  causes_at rule.O8 o leaf m = []
  causes_at rule.O9 o leaf m = []
  causes_at rule.O10 o leaf m = []
  causes_at rule.O11 o leaf m = []
  causes_at rule.F1 o leaf m = []

  -- an op that breaks a rule does so for one of them
  in_causes : (r : Rule) (o : Op) (leaf : Place) (m : Mark) (by : Op) → OpBreaks uses r o leaf m by → In (causes_at r o leaf m) by.span
  in_causes rule.O1 o leaf m by b =
      subst (λ x. In (causes_O1 o leaf x) by.span) (sym b.1) (in_if (needs o leaf && gives_up by.kind) by.span (and_from (needs o leaf) (gives_up by.kind) b.0 (given_up by.kind b.2)))
  in_causes rule.O2 o leaf m by b = subst (λ x. In (causes_O2 o leaf x) by.span) (sym b.1) (in_if (needs o leaf) by.span b.0)
  in_causes rule.O4 o leaf m by b =
      let self_ = is_consuming_self (uses.mode_of o.place.binding) in
      subst (λ x. In (causes_O4 o leaf x) by.span) (sym b.4)
      (in_if (is_end o.kind && (self_ && (uses.discards && covers o.place leaf))) by.span
      (and_from (is_end o.kind) (self_ && (uses.discards && covers o.place leaf)) (ap is_end b.0)
      (and_from self_ (uses.discards && covers o.place leaf) (ap is_consuming_self b.1) (and_from uses.discards (covers o.place leaf) b.2 b.3))))
  in_causes rule.O6 o leaf m by b =
      subst (λ x. In (causes_O6 o leaf x) by.span) (sym b.3)
      (in_if (is_assign o.kind && (uses.is_let_property o.place && covers o.place leaf)) by.span
      (and_from (is_assign o.kind) (uses.is_let_property o.place && covers o.place leaf) (ap is_assign b.0) (and_from (uses.is_let_property o.place) (covers o.place leaf) b.1 b.2)))
  in_causes rule.O3 o leaf m by b = absurd b
  in_causes rule.O5 o leaf m by b = absurd b
  in_causes rule.O7 o leaf m by b = absurd b
  in_causes rule.O8 o leaf m by b = absurd b
  in_causes rule.O9 o leaf m by b = absurd b
  in_causes rule.O10 o leaf m by b = absurd b
  in_causes rule.O11 o leaf m by b = absurd b
  in_causes rule.F1 o leaf m by b = absurd b

  abbrev pub by_rule : Rule → Op → Place → Mark → List Finding
  by_rule r o leaf m = each (broken r o.span o.place) (causes_at r o leaf m)

  abbrev pub at_leaf : List Op → Op → Place → List Finding
  at_leaf before o leaf =
      let m = maker uses leaf before in by_rule rule.O1 o leaf m ++ (by_rule rule.O2 o leaf m ++ (by_rule rule.O4 o leaf m ++ by_rule rule.O6 o leaf m))

  abbrev pub at_leaves : List Op → Op → List Place → List Finding
  at_leaves before o [] = []
  at_leaves before o (leaf ∷ ls) = at_leaf before o leaf ++ at_leaves before o ls

  abbrev pub on_ops : List Op → List Op → List Finding
  on_ops before [] = []
  on_ops before (o ∷ os) = at_leaves before o uses.leaves ++ on_ops (before ++ o ∷ []) os

  in_leaf : (r : Rule) (before : List Op) (o : Op) (leaf : Place) (cause : Span) → In (causes_at r o leaf (maker uses leaf before)) cause
      → In (at_leaf before o leaf) (broken r o.span o.place cause)
  in_leaf rule.O1 before o leaf cause h = in_front (by_rule rule.O1 o leaf (maker uses leaf before)) _ _ (in_each (broken rule.O1 o.span o.place) _ cause h)
  in_leaf rule.O2 before o leaf cause h =
      let m = maker uses leaf before in
      in_back (by_rule rule.O1 o leaf m) _ _ (in_front (by_rule rule.O2 o leaf m) _ _ (in_each (broken rule.O2 o.span o.place) _ cause h))
  in_leaf rule.O4 before o leaf cause h =
      let m = maker uses leaf before in
      in_back (by_rule rule.O1 o leaf m) _ _ (in_back (by_rule rule.O2 o leaf m) _ _ (in_front (by_rule rule.O4 o leaf m) _ _ (in_each (broken rule.O4 o.span o.place) _ cause h)))
  in_leaf rule.O6 before o leaf cause h =
      let m = maker uses leaf before in
      in_back (by_rule rule.O1 o leaf m) _ _ (in_back (by_rule rule.O2 o leaf m) _ _ (in_back (by_rule rule.O4 o leaf m) _ _ (in_each (broken rule.O6 o.span o.place) _ cause h)))
  in_leaf rule.O3 before o leaf cause h = absurd h
  in_leaf rule.O5 before o leaf cause h = absurd h
  in_leaf rule.O7 before o leaf cause h = absurd h
  in_leaf rule.O8 before o leaf cause h = absurd h
  in_leaf rule.O9 before o leaf cause h = absurd h
  in_leaf rule.O10 before o leaf cause h = absurd h
  in_leaf rule.O11 before o leaf cause h = absurd h
  in_leaf rule.F1 before o leaf cause h = absurd h

  in_leaves : (before : List Op) (o : Op) (leaf : Place) (f : Finding) (ls : List Place) → In ls leaf → In (at_leaf before o leaf) f → In (at_leaves before o ls) f
  in_leaves before o leaf f [] i h = i
  in_leaves before o leaf f (l ∷ ls) (inl e) h = in_front (at_leaf before o l) _ f (subst (λ x. In (at_leaf before o x) f) (sym e) h)
  in_leaves before o leaf f (l ∷ ls) (inr i) h = in_back (at_leaf before o l) _ f (in_leaves before o leaf f ls i h)

  in_ops : (front before : List Op) (o : Op) (rest : List Op) (f : Finding) → In (at_leaves (front ++ before) o uses.leaves) f → In (on_ops front (before ++ o ∷ rest)) f
  in_ops front [] o rest f h = in_front (at_leaves front o uses.leaves) _ f (subst (λ l. In (at_leaves l o uses.leaves) f) (append-nil front) h)
  in_ops front (x ∷ before) o rest f h =
      in_back (at_leaves front x uses.leaves) _ f (in_ops (front ++ x ∷ []) before o rest f (subst (λ l. In (at_leaves l o uses.leaves) f) (sym (append_assoc front (x ∷ []) before)) h))

  -- ---- returns

  abbrev pub spans_without : Mark → List Span
  spans_without fresh = []
  spans_without (made by) = []
  spans_without (ended by) = by.span ∷ []
  spans_without (bare by) = by.span ∷ []

  abbrev pub owed_by : Rule → Option Mode → Bool
  owed_by rule.O3 m = is_given_back m
  owed_by rule.O5 m = is_new_self m
  owed_by r m = false

  abbrev pub return_by : Rule → Span → List Op → Place → List Finding
  return_by r at os leaf = if owed_by r (uses.mode_of leaf.binding) then each (broken r at leaf) (spans_without (maker uses leaf os)) else []

  abbrev pub at_return : Span → List Op → List Place → List Finding
  at_return at os [] = []
  at_return at os (leaf ∷ ls) = return_by rule.O3 at os leaf ++ (return_by rule.O5 at os leaf ++ at_return at os ls)

  abbrev pub by_end : Completion → List Op → List Finding
  by_end goes_on os = []
  by_end (breaks s) os = []
  by_end (continues s) os = []
  by_end (returns s) os = at_return s os uses.leaves
  by_end halts os = []
  by_end cut os = []

  abbrev pub on_traces : List Trace → List Finding
  on_traces [] = []
  on_traces (t ∷ ts) = on_ops [] t.ops ++ (by_end t.end t.ops ++ on_traces ts)

  in_return_by : (r : Rule) (at : Span) (os : List Op) (leaf : Place) (cause : Span) → owed_by r (uses.mode_of leaf.binding) ≡ true → In (spans_without (maker uses leaf os)) cause
      → In (return_by r at os leaf) (broken r at leaf cause)
  in_return_by r at os leaf cause owed h =
      subst (λ b. In (if b then each (broken r at leaf) (spans_without (maker uses leaf os)) else []) (broken r at leaf cause)) (sym owed)
      (in_each (broken r at leaf) (spans_without (maker uses leaf os)) cause h)

  in_without : (m : Mark) (by : Op) → IsWithoutValue m by → In (spans_without m) by.span
  in_without m by (inl e) = subst (λ x. In (spans_without x) by.span) (sym e) (inl refl)
  in_without m by (inr e) = subst (λ x. In (spans_without x) by.span) (sym e) (inl refl)

  given_is_so : (m : Option Mode) → IsGivenBack m → is_given_back m ≡ true
  given_is_so m (inl e) = ap is_given_back e
  given_is_so m (inr e) = ap is_given_back e

  in_return : (r : Rule) (at : Span) (os : List Op) (leaf : Place) (cause : Span) (ls : List Place) → In ls leaf → ReturnBreaks r (uses.mode_of leaf.binding) → In (spans_without (maker uses leaf os)) cause
      → In (at_return at os ls) (broken r at leaf cause)
  in_return rule.O3 at os leaf cause [] i b h = i
  in_return rule.O3 at os leaf cause (l ∷ ls) (inl e) b h =
      in_front (return_by rule.O3 at os l) _ _ (subst (λ x. In (return_by rule.O3 at os x) (broken rule.O3 at leaf cause)) (sym e) (in_return_by rule.O3 at os leaf cause (given_is_so (uses.mode_of leaf.binding) b) h))
  in_return rule.O3 at os leaf cause (l ∷ ls) (inr i) b h =
      in_back (return_by rule.O3 at os l) _ _ (in_back (return_by rule.O5 at os l) _ _ (in_return rule.O3 at os leaf cause ls i b h))
  in_return rule.O5 at os leaf cause [] i b h = i
  in_return rule.O5 at os leaf cause (l ∷ ls) (inl e) b h =
      in_back (return_by rule.O3 at os l) _ _ (in_front (return_by rule.O5 at os l) _ _ (subst (λ x. In (return_by rule.O5 at os x) (broken rule.O5 at leaf cause)) (sym e) (in_return_by rule.O5 at os leaf cause (ap is_new_self b) h)))
  in_return rule.O5 at os leaf cause (l ∷ ls) (inr i) b h =
      in_back (return_by rule.O3 at os l) _ _ (in_back (return_by rule.O5 at os l) _ _ (in_return rule.O5 at os leaf cause ls i b h))
  in_return rule.O1 at os leaf cause ls i b h = absurd b
  in_return rule.O2 at os leaf cause ls i b h = absurd b
  in_return rule.O4 at os leaf cause ls i b h = absurd b
  in_return rule.O6 at os leaf cause ls i b h = absurd b
  in_return rule.O7 at os leaf cause ls i b h = absurd b
  in_return rule.O8 at os leaf cause ls i b h = absurd b
  in_return rule.O9 at os leaf cause ls i b h = absurd b
  in_return rule.O10 at os leaf cause ls i b h = absurd b
  in_return rule.O11 at os leaf cause ls i b h = absurd b
  in_return rule.F1 at os leaf cause ls i b h = absurd b

  in_traces : (t : Trace) (ts : List Trace) (f : Finding) → In ts t → In (on_ops [] t.ops) f ⊎ In (by_end t.end t.ops) f → In (on_traces ts) f
  in_traces t [] f i h = absurd i
  in_traces t (u ∷ ts) f (inl e) (inl h) = in_front (on_ops [] u.ops) _ f (subst (λ (x : Trace). In (on_ops [] x.ops) f) (sym e) h)
  in_traces t (u ∷ ts) f (inl e) (inr h) =
      in_back (on_ops [] u.ops) _ f (in_front (by_end u.end u.ops) _ f (subst (λ (x : Trace). In (by_end x.end x.ops) f) (sym e) h))
  in_traces t (u ∷ ts) f (inr i) h = in_back (on_ops [] u.ops) _ f (in_back (by_end u.end u.ops) _ f (in_traces t ts f i h))

  -- ---- F1

  abbrev pub has_way_on : List Trace → Bool
  has_way_on [] = false
  has_way_on (t ∷ ts) = goes t.end || has_way_on ts

  abbrev pub falls_off : List Finding
  falls_off = if_true (uses.has_result && has_way_on (traces uses.inner)) (broken rule.F1 uses.close (whole 0) uses.close)

  way_on : (ts : List Trace) (os : List Op) → In ts (trace os goes_on) → has_way_on ts ≡ true
  way_on [] os h = absurd h
  way_on (t ∷ ts) os (inl e) = ap (λ (x : Trace). goes x.end || has_way_on ts) e
  way_on (t ∷ ts) os (inr h) = or_true (goes t.end) (has_way_on ts) (way_on ts os h)

  -- ---- all of them

  abbrev pub path_breaks : List Finding
  path_breaks = on_traces (traces (tree_of uses)) ++ falls_off

  module _ (no_loop : HasNoLoop uses.inner) where
    whole_tree : HasNoLoop (tree_of uses)
    whole_tree = (no_loop, (tt, tt))

    op_in : (r : Rule) (at : Span) (place : Place) (cause : Span) → BreaksAtOp uses r at place cause → In path_breaks (broken r at place cause)
    op_in r at place cause b =
        in_front (on_traces (traces (tree_of uses))) _ _
        (in_traces (trace (b.before ++ b.breaking ∷ b.reached.1) b.reached.2) (traces (tree_of uses)) _
        (every b.reached.0 (tree_of uses) whole_tree (b.before ++ b.breaking ∷ b.reached.1) b.reached.2 b.reached.3)
        (inl (in_ops [] b.before b.breaking b.reached.1 (broken r at place cause) (in_leaves b.before b.breaking b.leaf (broken r at place cause) uses.leaves (in_contains uses.leaves b.leaf b.is_leaf) here))))
      where
        here : In (at_leaf b.before b.breaking b.leaf) (broken r at place cause)
        here =
            subst (λ s. In (at_leaf b.before b.breaking b.leaf) (broken r s place cause)) b.at_is
            (subst (λ p. In (at_leaf b.before b.breaking b.leaf) (broken r b.breaking.span p cause)) b.place_is
            (subst (λ c. In (at_leaf b.before b.breaking b.leaf) (broken r b.breaking.span b.breaking.place c)) b.cause_is
            (in_leaf r b.before b.breaking b.leaf b.by.span (in_causes r b.breaking b.leaf (maker uses b.leaf b.before) b.by b.breaks))))

    return_in : (r : Rule) (at : Span) (leaf : Place) (cause : Span) → BreaksAtReturn uses r at leaf cause → In path_breaks (broken r at leaf cause)
    return_in r at leaf cause b =
        in_front (on_traces (traces (tree_of uses))) _ _
        (in_traces (trace b.before (returns at)) (traces (tree_of uses)) _ (every b.returned.0 (tree_of uses) whole_tree b.before (returns at) b.returned.1)
        (inr (in_return r at b.before leaf cause uses.leaves (in_contains uses.leaves leaf b.is_leaf) b.owed (subst (λ c. In (spans_without (maker uses leaf b.before)) c) b.cause_is (in_without (maker uses leaf b.before) b.by b.without)))))

    -- each finding of a path rule is among them
    pub path_in : (r : Rule) (f : Finding) → f.rule ≡ r → IsPathFindingBy uses r f → In path_breaks f
    path_in rule.O1 f e h = op_in f.rule f.span f.place f.cause h.breaks
    path_in rule.O2 f e h = op_in f.rule f.span f.place f.cause h.breaks
    path_in rule.O4 f e h = op_in f.rule f.span f.place f.cause h.breaks
    path_in rule.O6 f e h = op_in f.rule f.span f.place f.cause h.breaks
    path_in rule.O3 f e h = return_in f.rule f.span f.place f.cause h.breaks
    path_in rule.O5 f e h = return_in f.rule f.span f.place f.cause h.breaks
    path_in rule.F1 f e h =
        in_back (on_traces (traces (tree_of uses))) _ f
        (subst (λ x. In falls_off x) (sym (fall_off f e h.span_is h.place_is h.cause_is)) (in_if (uses.has_result && has_way_on (traces uses.inner)) (broken rule.F1 uses.close (whole 0) uses.close) (and_from uses.has_result (has_way_on (traces uses.inner)) h.result (way_on (traces uses.inner) h.falls.1 (every h.falls.0 uses.inner no_loop h.falls.1 goes_on h.falls.2)))))
      where
        fall_off : (f : Finding) → f.rule ≡ rule.F1 → f.span ≡ uses.close → f.place ≡ whole 0 → f.cause ≡ uses.close → f ≡ broken rule.F1 uses.close (whole 0) uses.close
        fall_off f a b c d = λ j. record { rule = a j; span = b j; place = c j; cause = d j }
    path_in rule.O7 f e h = absurd h
    path_in rule.O8 f e h = absurd h
    path_in rule.O9 f e h = absurd h
    path_in rule.O10 f e h = absurd h
    path_in rule.O11 f e h = absurd h

-- ---- programs without loops

module _ (types : Types) (program : Program) where
  abbrev pub body_breaks : ℕ → TBody → List Finding
  body_breaks k body = path_breaks (uses_of types program k body) ++ fixed_breaks types program k body

  abbrev pub breaks_from : ℕ → List TBody → List Finding
  breaks_from k [] = []
  breaks_from k (body ∷ bodies) = body_breaks k body ++ breaks_from (suc k) bodies

  abbrev pub HaveNoLoop : ℕ → List TBody → Type 0
  HaveNoLoop k [] = Unit {0}
  HaveNoLoop k (body ∷ bodies) = HasNoLoop (uses_of types program k body).inner × HaveNoLoop (suc k) bodies

  body_in : (k : ℕ) (body : TBody) (f : Finding) → HasNoLoop (uses_of types program k body).inner → IsBodyFinding types program k body f → In (body_breaks k body) f
  body_in k body f n (inl h) = in_front (path_breaks (uses_of types program k body)) _ f (path_in (uses_of types program k body) n f.rule f refl h)
  body_in k body f n (inr h) = in_back (path_breaks (uses_of types program k body)) _ f (in_contains (fixed_breaks types program k body) f h.is_one)

  -- what holds of the one that is there
  abbrev IsThere : (TBody → Type 0) → Option TBody → Type 0
  IsThere P None = Unit {0}
  IsThere P (Some body) = P body

  from_in : (first : ℕ) (bodies : List TBody) (f : Finding) → HaveNoLoop first bodies → (j : ℕ) (body : TBody) → slice_get bodies j ≡ Some body
      → (k : ℕ) → k ≡ j + first → IsBodyFinding types program k body f → In (breaks_from first bodies) f
  from_in first [] f n j body e k is h = absurd (omega (arith, slice_get_within [] j body e))
  from_in first (b ∷ bodies) f n zero body e k is h =
      subst (IsThere (λ x. IsBodyFinding types program first x f → In (breaks_from first (b ∷ bodies)) f)) e
      (λ h'. in_front (body_breaks first b) _ f (body_in first b f n.0 h')) (subst (λ x. IsBodyFinding types program x body f) (start is) h)
    where
      start : k ≡ 0 + first → k ≡ first
      start e' = omega (arith, e')
  from_in first (b ∷ bodies) f n (suc j) body e k is h =
      in_back (body_breaks first b) _ f (from_in (suc first) bodies f n.1 j body e k (omega (arith, is)) h)

  -- each finding of a program without loops is among these
  pub finding_in : HaveNoLoop 0 program.bodies → (f : Finding) → IsFinding types program f → In (breaks_from 0 program.bodies) f
  finding_in n f h = from_in 0 program.bodies f n h.0 h.1 h.2 h.0 (omega arith) h.3

-- ---- exact lists of findings

abbrev pub has_no_loop : Ops → Bool
has_no_loop (op o) = true
has_no_loop nothing = true
has_no_loop (next a b) = has_no_loop a && has_no_loop b
has_no_loop (either a b) = has_no_loop a && has_no_loop b
has_no_loop (loop a b) = false
has_no_loop (catch a) = has_no_loop a
has_no_loop (scope xs close a) = has_no_loop a
has_no_loop (break_at s) = true
has_no_loop (continue_at s) = true
has_no_loop (return_at s) = true
has_no_loop halt = true

abbrev pub IsSo : Bool → Type 0
IsSo true = Unit {0}
IsSo false = ⊥

no_loop : (t : Ops) → has_no_loop t ≡ true → HasNoLoop t
no_loop (op o) e = tt
no_loop nothing e = tt
no_loop (next a b) e = let r = and_parts (has_no_loop a) (has_no_loop b) e in (no_loop a r.0, no_loop b r.1)
no_loop (either a b) e = let r = and_parts (has_no_loop a) (has_no_loop b) e in (no_loop a r.0, no_loop b r.1)
no_loop (loop a b) e = absurd (subst IsSo (sym e) tt)
no_loop (catch a) e = no_loop a e
no_loop (scope xs close a) e = no_loop a e
no_loop (break_at s) e = tt
no_loop (continue_at s) e = tt
no_loop (return_at s) e = tt
no_loop halt e = tt

-- each element is one of these
abbrev pub AreAmong : List Finding → List Finding → Type 0
AreAmong fs [] = Unit {0}
AreAmong fs (g ∷ gs) = In fs g × AreAmong fs gs

among : (fs gs : List Finding) → AreAmong fs gs → (g : Finding) → In gs g → In fs g
among fs [] a g h = absurd h
among fs (x ∷ gs) a g (inl e) = subst (In fs) e a.0
among fs (x ∷ gs) a g (inr h) = among fs gs a.1 g h

-- a break that is the only one is the least
pub only_one : (breaks : List Finding) (f : Finding) → breaks ≡ f ∷ [] → IsLeastOf breaks f
only_one given f e = record {
  is_one = subst (λ l. Contains l f) (sym e) (contains_in (f ∷ []) f (inl refl));
  least = λ g i same. alike g (in_contains (f ∷ []) g (subst (λ l. Contains l g) e i));
}
  where
    alike : (g : Finding) → In (f ∷ []) g → IsNotAfter f.cause g.cause
    alike g (inl e') = inl (ap (λ (x : Finding). x.cause) e')
    alike g (inr none) = absurd none

module _ (types : Types) (program : Program) where
  abbrev pub have_no_loop : ℕ → List TBody → Bool
  have_no_loop k [] = true
  have_no_loop k (body ∷ bodies) = has_no_loop (uses_of types program k body).inner && have_no_loop (suc k) bodies

  no_loops : (k : ℕ) (bodies : List TBody) → have_no_loop k bodies ≡ true → HaveNoLoop types program k bodies
  no_loops k [] e = tt
  no_loops k (body ∷ bodies) e =
      let r = and_parts (has_no_loop (uses_of types program k body).inner) (have_no_loop (suc k) bodies) e in
      (no_loop (uses_of types program k body).inner r.0, no_loops (suc k) bodies r.1)

  abbrev pub EachIs : List Finding → Type 0
  EachIs [] = Unit {0}
  EachIs (f ∷ fs) = IsFinding types program f × EachIs fs

  each_is : (fs : List Finding) → EachIs fs → (g : Finding) → In fs g → IsFinding types program g
  each_is [] a g h = absurd h
  each_is (f ∷ fs) a g (inl e) = subst (IsFinding types program) e a.0
  each_is (f ∷ fs) a g (inr h) = each_is fs a.1 g h

  -- Findings in order, among which all breaks of a program without loops are, are its findings.
  pub the_findings : (fs : List Finding) → have_no_loop 0 program.bodies ≡ true → AreAmong fs (breaks_from types program 0 program.bodies) → EachIs fs → Rising fs
      → AreFindings types program fs
  the_findings fs n all each_ rising = record {
    all = λ g. (
      (λ i. each_is fs each_ g (in_contains fs g i)),
      (λ i. contains_in fs g (among fs (breaks_from types program 0 program.bodies) all g (finding_in types program (no_loops 0 program.bodies n) g i))),
    );
    rising = rising;
  }
