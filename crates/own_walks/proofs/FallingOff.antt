-- A body falls off its end exactly where some walk of its graph comes to node 1.
use Rattle.std.proofs.Common.{◌≡◌, ℕ, zero, suc, ◌⊎◌, inl, inr, List, [], ◌∷◌, slice_get, Some, None, refl, sym, ap, ◌∙◌, subst, arith}
use Rattle.std.specs.Prelude.{◌↔◌}
use Rattle.own_shapes.proofs.Lists.{get_pushed}
use Rattle.own_tree.specs.declared.graph.Node.{Node}
use Rattle.own_tree.specs.declared.op.Op.{Op}
use Rattle.own_paths.specs.Findings.{FallsOff}
use Rattle.own_paths.specs.Makers.{BodyUses, tree_of}
use Rattle.own_paths.specs.Traces.{Completion, goes_on, breaks, continues, returns, halts, cut, IsTrace}
use Rattle.own_walks.specs.Graphs.{plain, leaving, IsNext, IsAt, Goes, Walk, Lays, Arrives, no_ways}
use Rattle.own_walks.specs.Building.{Built, built, lay, graph_of}
use Rattle.own_walks.proofs.Steps.{First, first, step}
use Rattle.own_walks.proofs.Complete.{leads}
use Rattle.own_walks.proofs.Sound.{Inside, Left}
use Rattle.own_walks.proofs.Rounds.{sound}
use Rattle.own_walks.proofs.Laid.{Stays, Laid, laid, lays_stays, stays_pushed, from_zero}

some_node : (x y : Node) → Some x ≡ Some y → x ≡ y
some_node x y e = cc

-- walks do not ask for numbers
goes_any : (lo lo' : ℕ) (ns : List Node) (j u : ℕ) (os : List Op) (v : ℕ) → Goes lo ns j u os v → Goes lo' ns j u os v
goes_any lo lo' ns zero u os v g = g
goes_any lo lo' ns (suc j) u os v g = (g.0, g.1, g.2, g.3, g.4, g.5, goes_any lo lo' ns j g.1 g.2 v g.6)

module _ (uses : BodyUses) where
  abbrev tail : Built
  tail = built (plain [] ∷ leaving uses.close ∷ []) 1

  abbrev inner : Built
  inner = lay uses.inner (no_ways 0) tail

  abbrev all : List Node
  all = (graph_of (tree_of uses)).nodes

  abbrev entry : ℕ
  entry = (graph_of (tree_of uses)).entry

  made : Laid tail inner uses.inner (no_ways 0)
  made = laid uses.inner (no_ways 0) tail

  more : Stays 0 inner.nodes all
  more = stays_pushed 0 (plain (inner.entry ∷ [])) inner.nodes

  lays : Lays 2 all uses.inner (no_ways 0) 1 inner.entry
  lays = lays_stays 2 2 inner.nodes all (omega arith) (from_zero 2 inner.nodes all more) uses.inner (no_ways 0) 1 inner.entry made.lays

  at_entry : IsAt 2 all entry (plain (inner.entry ∷ []))
  at_entry = (made.stay.longer, get_pushed inner.nodes (plain (inner.entry ∷ [])))

  at_one : slice_get all 1 ≡ Some (leaving uses.close)
  at_one = more.same 1 (leaving uses.close) (omega arith) (made.stay.same 1 (leaving uses.close) (omega arith) refl)

  at_zero : slice_get all 0 ≡ Some (plain [])
  at_zero = more.same 0 (plain []) (omega arith) (made.stay.same 0 (plain []) (omega arith) refl)

  -- from a node after which nothing comes
  stays_there : (x : ℕ) (nd : Node) (j v : ℕ) (os : List Op) → slice_get all x ≡ Some nd → nd.next ≡ [] → Goes 0 all j x os v → x ≡ v
  stays_there x nd zero v os at e g = g.0
  stays_there x nd (suc j) v os at e g = let f = first 0 all x nd j os v (omega arith, at) g in absurd (subst (λ l. IsNext l f.to) e f.goes_to)

  pub falls : FallsOff uses → (os : List Op) × Walk 0 all entry os 1
  falls f =
      let l = leads 2 all f.0 uses.inner (no_ways 0) 1 inner.entry lays f.1 goes_on tt f.2 in
      (f.1, step 0 all entry (plain (inner.entry ∷ [])) inner.entry f.1 1 (omega arith, at_entry.1) (inl refl) (l.walk.0, goes_any 2 0 all l.walk.0 inner.entry f.1 1 (subst (λ x. Goes 2 all l.walk.0 inner.entry f.1 x) l.arrives l.walk.1)))

  by_left : (j : ℕ) (os : List Op) → Left 2 all uses.inner (no_ways 0) 1 os 1 j → FallsOff uses
  by_left j os l = cases l.end l.trace l.arrives
    where
      walk : Goes 0 all l.steps l.to l.back 1
      walk = goes_any 2 0 all l.steps l.to l.back 1 l.walk

      stuck : (x : ℕ) (nd : Node) → l.to ≡ x → slice_get all x ≡ Some nd → nd.next ≡ [] → x ≡ 1
      stuck x nd is at e = stays_there x nd l.steps 1 l.back at e (subst (λ y. Goes 0 all l.steps y l.back 1) is walk)

      cases : (c : Completion) → IsTrace l.turns uses.inner l.front c → Arrives 2 all (no_ways 0) 1 c l.to → FallsOff uses
      cases goes_on t a = (l.turns, l.front, t)
      cases (breaks s) t a = let e = stuck 0 (plain []) a at_zero refl in absurd (omega (arith, e))
      cases (continues s) t a = let e = stuck 0 (plain []) a at_zero refl in absurd (omega (arith, e))
      cases (returns s) t a = let e = stuck a.0 (leaving s) a.1 a.2.1 refl in absurd (omega (arith, e, a.2.0))
      cases halts t a = let e = stuck l.to (plain []) refl a.1 refl in absurd (omega (arith, e, a.0))
      cases cut t a = absurd a

  by_inside : (os : List Op) → Inside 2 all uses.inner os 1 → FallsOff uses
  by_inside os i =
      let same : i.node ≡ leaving uses.close = some_node i.node (leaving uses.close) (sym i.there ∙ at_one) in
      let e : None ≡ Some uses.close = sym i.stays ∙ ap (λ (n : Node). n.exit) same in
      cc

  pub fell : (j : ℕ) (os : List Op) → Goes 0 all j entry os 1 → FallsOff uses
  fell zero os g = absurd (omega (arith, g.0, at_entry.0))
  fell (suc j) os g = cases (sound 2 all uses.inner (no_ways 0) 1 inner.entry j os 1 lays (goes_any 0 2 all j inner.entry os 1 (begin f.to f.goes_to (subst (λ l. Goes 0 all j f.to l 1) (sym f.ops) f.then))))
    where
      f : First 0 all (plain (inner.entry ∷ [])) j os 1
      f = first 0 all entry (plain (inner.entry ∷ [])) j os 1 (omega arith, at_entry.1) g

      begin : (m : ℕ) → IsNext (inner.entry ∷ []) m → Goes 0 all j m os 1 → Goes 0 all j inner.entry os 1
      begin m (inl is) h = subst (λ x. Goes 0 all j x os 1) is h
      begin m (inr is) h = absurd is

      cases : Inside 2 all uses.inner os 1 ⊎ Left 2 all uses.inner (no_ways 0) 1 os 1 j → FallsOff uses
      cases (inl i) = by_inside os i
      cases (inr l) = by_left j os l

  -- F1, by the node
  pub falls_at_one : FallsOff uses ↔ ((os : List Op) × Walk 0 all entry os 1)
  falls_at_one = (falls, λ w. fell w.1.0 w.0 w.1.1)
