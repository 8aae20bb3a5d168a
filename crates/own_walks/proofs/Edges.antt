-- Each edge of the graph that the function makes leads to a node.
use Rattle.std.proofs.Common.{◌≡◌, ℕ, zero, suc, ◌≤◌, ◌<◌, Bool, true, false, ◌==◌, cond, ◌⊎◌, inl, inr, List, [], ◌∷◌, ◌++◌, length, slice_get, slice_index_or, Some, refl, sym, ap, ◌∙◌, subst, arith}
use Rattle.std.proofs.Math.ListN.{set}
use Rattle.std.proofs.lemmas.List.{length-append, length-set}
use Rattle.std.specs.Prelude.{Contains}
use Rattle.own_shapes.proofs.Lists.{get_push_cases}
use Rattle.own_tree.specs.declared.graph.Node.{Node}
use Rattle.own_tree.specs.declared.op.Op.{Op}
use Rattle.own_tree.specs.OpSource.{Ops, op, nothing, next, either, loop, catch, scope, break_at, continue_at, return_at, halt}
use Rattle.own_paths.specs.Traces.{ends_at}
use Rattle.own_walks.specs.Graphs.{plain, doing, leaving, Ways, ends_out, within, in_loop, in_catch, no_ways}
use Rattle.own_walks.specs.Building.{Built, built, pushed, chained, forked, lay, graph_of}
use Rattle.own_walks.specs.Reaching.{EdgesLeadToNodes}
use Rattle.own_walks.proofs.Laid.{chain_made, laid}

some_is : (x y : Node) → Some x ≡ Some y → x ≡ y
some_is x y e = cc

-- a node of a list in which a node was set is one of the list, or the one that was set
of_set : (ns : List Node) (i : ℕ) (x : Node) (u : ℕ) (n : Node) → slice_get (set ns i x) u ≡ Some n → (slice_get ns u ≡ Some n) ⊎ (x ≡ n)
of_set [] i x u n e = inl e
of_set (m ∷ ns) zero x zero n e = inr (some_is x n e)
of_set (m ∷ ns) zero x (suc u) n e = inl e
of_set (m ∷ ns) (suc i) x zero n e = inl e
of_set (m ∷ ns) (suc i) x (suc u) n e = of_set ns i x u n e

-- all that may come next are numbers below k
abbrev Leads : ℕ → Node → Type 0
Leads k n = (v : ℕ) → Contains n.next v → v < k

abbrev nobody : List ℕ
nobody = []

at_none : {A : Type 0} (k : ℕ) → k < length nobody → A
at_none k h = absurd (omega (arith, h))

none_leads : (k : ℕ) (n : Node) → n.next ≡ [] → Leads k n
none_leads k n e v c = at_none c.0 (subst (λ l. c.0 < length l) e c.1)

in_one : (m v k : ℕ) → k < length (m ∷ []) → slice_index_or (m ∷ []) k v ≡ v → v ≡ m
in_one m v zero h e = sym e
in_one m v (suc k) h e = absurd (omega (arith, h))

one_leads : (k m : ℕ) (n : Node) → n.next ≡ m ∷ [] → m < k → Leads k n
one_leads k m n e h v c =
    let is = in_one m v c.0 (subst (λ l. c.0 < length l) e c.1) (subst (λ l. slice_index_or l c.0 v ≡ v) e c.2) in
    subst (λ x. x < k) (sym is) h

in_two : (a b v k : ℕ) → k < length (a ∷ b ∷ []) → slice_index_or (a ∷ b ∷ []) k v ≡ v → (v ≡ a) ⊎ (v ≡ b)
in_two a b v zero h e = inl (sym e)
in_two a b v (suc zero) h e = inr (sym e)
in_two a b v (suc (suc k)) h e = absurd (omega (arith, h))

two_lead : (k a b : ℕ) → a < k → b < k → Leads k (plain (a ∷ b ∷ []))
two_lead k a b h i v c = elim (in_two a b v c.0 c.1 c.2) [ inl e ↦ subst (λ x. x < k) (sym e) h | inr e ↦ subst (λ x. x < k) (sym e) i ]

record Whole (b : Built) : Type 0 where
  edges : (u : ℕ) (n : Node) → slice_get b.nodes u ≡ Some n → Leads (length b.nodes) n
  begins : b.entry < length b.nodes

-- the ways out lead to nodes
record Out (w : Ways) (k : ℕ) : Type 0 where
  breaking : w.breaking.target < k
  continuing : w.continuing.target < k

farther : (w : Ways) (k k' : ℕ) → k ≤ k' → Out w k → Out w k'
farther w k k' h o = record { breaking = omega (arith, h, o.breaking); continuing = omega (arith, h, o.continuing) }

leads_more : (k k' : ℕ) (n : Node) → k ≤ k' → Leads k n → Leads k' n
leads_more k k' n h l v c = let lt = l v c in omega (arith, h, lt)

-- another place to begin
begun : (b : Built) (e : ℕ) → Whole b → e < length b.nodes → Whole (built b.nodes e)
begun b e h lt = record { edges = h.edges; begins = lt }

whole_pushed : (node : Node) (b : Built) → Whole b → Leads (suc (length b.nodes)) node → Whole (pushed node b.nodes)
whole_pushed node b h l = record {
  edges = λ u n e. elim (get_push_cases b.nodes node u n e) [
    | inl old ↦ leads_more (length b.nodes) (length (b.nodes ++ node ∷ [])) n (omega (arith, size)) (h.edges u n old)
    | inr is ↦ subst (λ x. Leads (length (b.nodes ++ node ∷ [])) x) is.1 (leads_more (suc (length b.nodes)) (length (b.nodes ++ node ∷ [])) node (omega (arith, size)) l)
  ];
  begins = omega (arith, size);
}
  where
    size : length (b.nodes ++ node ∷ []) ≡ suc (length b.nodes)
    size = length-append b.nodes (node ∷ []) ∙ omega arith

whole_chained : (os : List Op) (b : Built) → Whole b → Whole (chained os b)
whole_chained [] b h = h
whole_chained (o ∷ os) b h =
    let r = whole_chained os b h in
    whole_pushed (doing o (chained os b).entry) (chained os b) r (one_leads _ (chained os b).entry (doing o (chained os b).entry) refl (omega (arith, r.begins)))

whole_forked : (first second : ℕ) (b : Built) → Whole b → first < length b.nodes → second < length b.nodes → Whole (forked first second b.nodes)
whole_forked first second b h lt lt' = go (first == second)
  where
    go : (c : Bool) → Whole (cond c (built b.nodes first) (pushed (plain (first ∷ second ∷ [])) b.nodes))
    go true = begun b first h lt
    go false = whole_pushed (plain (first ∷ second ∷ [])) b h (two_lead (suc (length b.nodes)) first second (omega (arith, lt)) (omega (arith, lt')))

whole_set : (b : Built) (i m : ℕ) → Whole b → m < length b.nodes → Whole (built (set b.nodes i (plain (m ∷ []))) m)
whole_set b i m h lt = record {
  edges = λ u n e. elim (of_set b.nodes i (plain (m ∷ [])) u n e) [
    | inl old ↦ leads_more (length b.nodes) (length (set b.nodes i (plain (m ∷ [])))) n (omega (arith, size)) (h.edges u n old)
    | inr is ↦ subst (λ x. Leads (length (set b.nodes i (plain (m ∷ [])))) x) is (one_leads _ m (plain (m ∷ [])) refl (omega (arith, size, lt)))
  ];
  begins = omega (arith, size, lt);
}
  where
    size : length (set b.nodes i (plain (m ∷ []))) ≡ length b.nodes
    size = length-set b.nodes i (plain (m ∷ []))

whole_laid : (t : Ops) (w : Ways) (b : Built) → Whole b → Out w (length b.nodes) → Whole (lay t w b)
whole_laid (op o) w b h out = whole_pushed (doing o b.entry) b h (one_leads _ b.entry (doing o b.entry) refl (omega (arith, h.begins)))
whole_laid nothing w b h out = h
whole_laid (next x y) w b h out =
    whole_laid x w (lay y w b) (whole_laid y w b h out) (farther w (length b.nodes) (length (lay y w b).nodes) (laid y w b).stay.longer out)
whole_laid (either x y) w b h out =
    let r = lay x w b in
    let more = (laid x w b).stay.longer in
    let one = whole_laid x w b h out in
    let start = built r.nodes b.entry in
    let more' = (laid y w start).stay.longer in
    let two = whole_laid y w start (begun r b.entry one (omega (arith, h.begins, more))) (farther w (length b.nodes) (length r.nodes) more out) in
    whole_forked r.entry (lay y w start).entry (lay y w start) two (omega (arith, one.begins, more')) two.begins
whole_laid (loop x y) w b h out =
    let back = length b.nodes in
    let start = pushed (plain []) b.nodes in
    let first = whole_pushed (plain []) b h (none_leads _ (plain []) refl) in
    let size : length start.nodes ≡ suc back = length-append b.nodes (plain [] ∷ []) ∙ omega arith in
    let s = lay y (in_loop w b.entry back) start in
    let more = (laid y (in_loop w b.entry back) start).stay.longer in
    let two = whole_laid y (in_loop w b.entry back) start first (record { breaking = omega (arith, h.begins, size); continuing = omega (arith, size) }) in
    let f = lay x (in_loop w b.entry s.entry) s in
    let three = whole_laid x (in_loop w b.entry s.entry) s two (record { breaking = omega (arith, h.begins, size, more); continuing = two.begins }) in
    whole_set f back f.entry three three.begins
whole_laid (catch x) w b h out = whole_laid x (in_catch w b.entry) b h (record { breaking = h.begins; continuing = out.continuing })
whole_laid (scope bs s x) w b h out =
    let m = chained (ends_at s bs) b in
    let more = (chain_made (ends_at s bs) b).stay.longer in
    whole_laid x (within bs w) m (whole_chained (ends_at s bs) b h) (record { breaking = omega (arith, out.breaking, more); continuing = omega (arith, out.continuing, more) })
whole_laid (break_at s) w b h out = whole_chained (ends_out s w.breaking.pending) (built b.nodes w.breaking.target) (begun b w.breaking.target h out.breaking)
whole_laid (continue_at s) w b h out = whole_chained (ends_out s w.continuing.pending) (built b.nodes w.continuing.target) (begun b w.continuing.target h out.continuing)
whole_laid (return_at s) w b h out = whole_chained (ends_out s w.returning) (pushed (leaving s) b.nodes) (whole_pushed (leaving s) b h (none_leads _ (leaving s) refl))
whole_laid halt w b h out = whole_pushed (plain []) b h (none_leads _ (plain []) refl)

none_yet : Whole (pushed (plain []) [])
none_yet = record { edges = λ u n e. elim (get_push_cases [] (plain []) u n e) [ inl old ↦ none_at u n old | inr is ↦ none_leads _ n (ap (λ (x : Node). x.next) (sym is.1)) ]; begins = omega arith }
  where
    none_at : (u : ℕ) (n : Node) → slice_get [] u ≡ Some n → Leads (length (plain [] ∷ [])) n
    none_at u n e = cc

pub graph_edges : (t : Ops) → EdgesLeadToNodes (graph_of t).nodes
graph_edges t u v e =
    let inner = lay t (no_ways 0) (pushed (plain []) []) in
    let more = (laid t (no_ways 0) (pushed (plain []) [])).stay.longer in
    let h = whole_laid t (no_ways 0) (pushed (plain []) []) none_yet (record { breaking = omega arith; continuing = omega arith }) in
    let all = whole_pushed (plain (inner.entry ∷ [])) inner h (one_leads _ inner.entry (plain (inner.entry ∷ [])) refl (omega (arith, h.begins))) in
    all.edges u e.0 e.1 v e.2
