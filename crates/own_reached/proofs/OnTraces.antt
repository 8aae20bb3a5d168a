-- The facts of a body are said of its traces.
use Rattle.std.proofs.Common.{◌≡◌, ℕ, zero, suc, ◌<◌, inl, inr, Bool, List, [], ◌∷◌, ◌++◌, length, slice_get, slice_index_or, Option, Some, None, refl, sym, ap, ◌∙◌, subst, arith, append_assoc}
use Rattle.std.proofs.lemmas.Option.{slice_get-get_or}
use Rattle.std.specs.Prelude.{◌↔◌, Contains}
use Rattle.own_tree.specs.declared.graph.Graph.{Graph}
use Rattle.own_tree.specs.declared.graph.Makers.{Makers}
use Rattle.own_tree.specs.declared.graph.Node.{Node}
use Rattle.own_tree.specs.declared.op.Op.{Op}
use Rattle.own_tree.specs.OpSource.{Ops}
use Rattle.own_paths.specs.Makers.{BodyUses}
use Rattle.own_walks.specs.Building.{Built, built, graph_of}
use Rattle.own_walks.specs.Graphs.{IsNext, IsPrefix, IsWalk, Walk, WalksAreTraces, ops_at, plain}
use Rattle.own_walks.specs.Reaching.{EdgesLeadToNodes, IsEdge, Reaches}
use Rattle.own_walks.proofs.Laid.{graph_is}
use Rattle.own_walks.proofs.Law.{walks_are_traces}
use Rattle.own_graph.specs.Makers.{AreMakersOf}
use Rattle.own_flow.specs.Facts.{AreFactsOf, AreJoined, IsFactAt}
use Rattle.own_reached.specs.LastMakers.{GoesOver, IsLast, IsLastOnTrace, ops_of, ops_over}
use Rattle.own_reached.proofs.Joined.{joined}
use Rattle.own_reached.proofs.LastMakers.{last_of_reaching, reaching_of_last}

next_at : (xs : List ℕ) (m k : ℕ) → k < length xs → slice_index_or xs k m ≡ m → IsNext xs m
next_at [] m k lt e = absurd (omega (arith, lt))
next_at (x ∷ xs) m zero lt e = inl (sym e)
next_at (x ∷ xs) m (suc k) lt e = inr (next_at xs m k (omega (arith, lt)) e)

module _ (nodes : List Node) where
  over_walk : (xs : List ℕ) (u v : ℕ) → GoesOver nodes u xs v → Walk 0 nodes u (ops_over nodes xs) v
  over_walk [] u v w = (0, (w, refl))
  over_walk (x ∷ xs) u v w =
      let r = over_walk xs w.1 v w.3 in
      let at : slice_get nodes x ≡ Some w.2.0 = ap (λ y. slice_get nodes y) (sym w.0) ∙ w.2.1 in
      (suc r.0, (w.2.0, w.1, ops_over nodes xs, w.2.1, next_at w.2.0.next w.1 w.2.2.0 w.2.2.1 w.2.2.2, ap (λ o. ops_of o ++ ops_over nodes xs) at, r.1))

  over_within : EdgesLeadToNodes nodes → (xs : List ℕ) (u v : ℕ) → u < length nodes → GoesOver nodes u xs v → v < length nodes
  over_within edges [] u v lt w = subst (λ x. x < length nodes) w lt
  over_within edges (x ∷ xs) u v lt w = over_within edges xs w.1 v (edges u w.1 w.2) w.3

node_at : (nodes : List Node) (v : ℕ) → v < length nodes → (n : Node) × (slice_get nodes v ≡ Some n)
node_at nodes v lt = let n = slice_index_or nodes v (plain []) in (n, slice_get-get_or nodes v (plain []) lt)

shorter : (t : Ops) (xs ys : List Op) → IsPrefix t (xs ++ ys) → IsPrefix t xs
shorter t xs ys p = (p.0, ys ++ p.1, p.2, rw (sym (append_assoc xs ys p.1)) p.3)

traced : (t : Ops) (nodes : List Node) (entry : ℕ) → WalksAreTraces 0 nodes t entry → EdgesLeadToNodes nodes → entry < length nodes
    → (xs : List ℕ) (v : ℕ) → GoesOver nodes entry xs v → IsPrefix t (ops_over nodes xs)
traced t nodes entry walks edges within xs v w =
    let n = node_at nodes v (over_within nodes edges xs entry v within w) in
    shorter t (ops_over nodes xs) (ops_at n.0.op) (walks.sound (ops_over nodes xs ++ ops_at n.0.op) n.0.exit (record {
      before = ops_over nodes xs;
      at = v;
      node = n.0;
      walk = over_walk nodes xs entry v w;
      there = n.1;
      ops = refl;
      exits = refl;
    }))

walks_of : (t : Ops) (graph : Graph) → built graph.nodes graph.entry ≡ graph_of t → WalksAreTraces 0 graph.nodes t graph.entry
walks_of t graph is =
    subst (λ (b : Built). WalksAreTraces 0 b.nodes t b.entry) (sym is) (walks_are_traces 0 (graph_of t).nodes t (graph_of t).entry (graph_is t))

pub on_traces : (t : Ops) (uses : BodyUses) (graph : Graph) (makers : Makers) (facts : List (List Bool)) → built graph.nodes graph.entry ≡ graph_of t
    → AreMakersOf uses graph makers → AreFactsOf graph makers facts → (v p : ℕ) → IsFactAt facts v p ↔ IsLastOnTrace t graph makers v p
on_traces t uses graph makers facts is are exact v p =
    let j = joined t uses graph makers is are in (
      λ h.
          let r = (exact.has v p).0 h in
          let l = last_of_reaching makers.pairs (length makers.leaves) graph.nodes graph.entry r.0 v p r.1 in
          record {
            left = l.0;
            walk = l.1;
            trace = traced t graph.nodes graph.entry (walks_of t graph is) j.edges j.entry l.0 v l.1;
            last = l.2;
          },
      λ h. (exact.has v p).1
          (reaching_of_last makers.pairs (length makers.leaves) graph.nodes graph.entry j.belong v p h.left h.walk h.last),
    )
