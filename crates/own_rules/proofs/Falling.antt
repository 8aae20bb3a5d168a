-- A walk comes to a node exactly where the maker at the start of a leaf that nothing else makes reaches it.
use Rattle.std.proofs.Common.{◌≡◌, ℕ, zero, suc, ◌<◌, ◌≤◌, Bool, true, false, ◌&&◌, List, [], ◌∷◌, length, slice_get, Some, None, inl, inr, refl, sym, ap, subst, arith}
use Rattle.std.specs.Prelude.{◌↔◌, IsTrue}
use Rattle.own_tree.specs.declared.finding.Finding.{Finding}
use Rattle.own_tree.specs.declared.finding.Rule.TheVariants as rule
use Rattle.own_tree.specs.declared.graph.Graph.{Graph}
use Rattle.own_tree.specs.declared.graph.Maker.{Maker}
use Rattle.own_tree.specs.declared.graph.Node.{Node}
use Rattle.own_tree.specs.declared.op.Op.{Op}
use Rattle.own_tree.specs.declared.place.Place.{Place}
use Rattle.own_tree.specs.declared.place.Ty.{Ty}
use Rattle.own_tree.specs.declared.span.Span.{Span}
use Rattle.own_tree.specs.OpSource.{nothing}
use Rattle.own_paths.specs.BodyLimits.{is_maker}
use Rattle.own_paths.specs.Makers.{BodyUses, fresh, maker}
use Rattle.own_shapes.specs.Places.{whole, covers}
use Rattle.own_shapes.proofs.Lists.{get_contains}
use Rattle.own_walks.specs.Graphs.{IsNext, Goes, Walk}
use Rattle.own_walks.specs.Pairs.{AreMakers, IsPair, at_start, makes}
use Rattle.own_walks.specs.Reaching.{Reaches, EdgesLeadToNodes}
use Rattle.own_walks.proofs.Carried.{comes_by}
use Rattle.own_flow.specs.Facts.{AreJoined}
use Rattle.own_paths.specs.Fixed.{broken}
use Rattle.own_paths.specs.Ops.{has_result}
use Rattle.own_breaks.specs.Settling.{Gathers, offered}
use Rattle.own_breaks.proofs.Gathering.{gathers_none, gathers_as, gathers_offered}
use Rattle.own_rules.specs.Falling.{alone, Falls, FallsHere}

-- a body of one leaf that no op makes
abbrev idle : BodyUses
idle = record {
  inner = nothing;
  close = record { start = 0; end = 0 };
  has_result = false;
  discards = false;
  leaves = whole 0 ∷ [];
  mode_of = λ x. None;
  ends_nothing = λ o. true;
  is_let_property = λ p. false;
}

one_maker : ℕ → Maker
one_maker entry = record { node = entry; leaf = 0; live = false }

never_makes : (o : Op) (leaf : Place) → makes idle o leaf ≡ true → ⊥
never_makes o leaf e = at (covers o.place leaf) e
  where
    at : (b : Bool) → ((b && false) && is_maker o.kind) ≡ true → ⊥
    at true h = cc
    at false h = cc

no_second : (q : Maker) (p : ℕ) (x : Maker) → 1 ≤ p → slice_get (q ∷ []) p ≡ Some x → ⊥
no_second q zero x le e = omega (arith, le)
no_second q (suc p) x le e = cc

only_first : (q x : Maker) (p : ℕ) → slice_get (q ∷ []) p ≡ Some x → p ≡ 0
only_first q x zero e = refl
only_first q x (suc p) e = absurd cc

module _ (nodes : List Node) (entry : ℕ) where
  pairs : List Maker
  pairs = (alone entry).pairs

  are : AreMakers idle nodes entry ((alone entry).pairs)
  are = record {
    starts = λ l lt. start l lt;
    sound = λ p q le e. absurd (no_second (record { node = entry; leaf = 0; live = false }) p q le e);
    complete = λ u node o l leaf there is here m. absurd (never_makes o leaf m);
  }
    where
      start : (l : ℕ) → l < 1 → IsPair ((alone entry).pairs) l entry l
      start zero lt = (record { node = entry; leaf = 0; live = false }, refl, refl, refl)
      start (suc l) lt = absurd (omega (arith, lt))

  pub walks_reach : (v : ℕ) → Reaches ((alone entry).pairs) 1 nodes entry v 0 ↔ ((os : List Op) × Walk 0 nodes entry os v)
  walks_reach v = (there, back)
    where
      there : Reaches ((alone entry).pairs) 1 nodes entry v 0 → (os : List Op) × Walk 0 nodes entry os v
      there r =
          let c = (comes_by idle 0 nodes entry ((alone entry).pairs) are v 0 (whole 0) fresh refl).1
          (0, r, (record { node = entry; leaf = 0; live = false }, refl, refl), at_start (omega arith) refl)
          in (c.0, c.1)

      back : (os : List Op) × Walk 0 nodes entry os v → Reaches ((alone entry).pairs) 1 nodes entry v 0
      back w =
          let c = (comes_by idle 0 nodes entry ((alone entry).pairs) are v 0 (whole 0) (maker idle (whole 0) w.0) refl).0 (w.0, w.1, refl) in
          subst (λ p. Reaches ((alone entry).pairs) 1 nodes entry v p)
          (only_first (record { node = entry; leaf = 0; live = false }) c.2.0 c.0 c.2.1) c.1

-- ---- where there is no such node

next_contains : (xs : List ℕ) (m : ℕ) → IsNext xs m → (i : ℕ) × (slice_get xs i ≡ Some m)
next_contains [] m h = absurd h
next_contains (x ∷ xs) m (inl e) = (zero, ap (λ y. Some y) (sym e))
next_contains (x ∷ xs) m (inr h) = let c = next_contains xs m h in (suc c.0, c.1)

module _ (nodes : List Node) (edges : EdgesLeadToNodes nodes) where
  goes_within : (j u : ℕ) (os : List Op) (v : ℕ) → u < length nodes → Goes 0 nodes j u os v → v < length nodes
  goes_within zero u os v lt g = subst (λ x. x < length nodes) g.0 lt
  goes_within (suc j) u os v lt g =
      let n = next_contains g.0.next g.1 g.4 in
      goes_within j g.1 g.2 v (edges u g.1 (g.0, g.3, get_contains g.0.next n.0 g.1 n.1)) g.6

  pub walk_within : (entry : ℕ) (os : List Op) (v : ℕ) → entry < length nodes → Walk 0 nodes entry os v → v < length nodes
  walk_within entry os v lt w = goes_within w.0 entry os v lt w.1

-- ---- what `reach` asks

pub alone_joined : (graph : Graph) → EdgesLeadToNodes graph.nodes → graph.entry < length graph.nodes → AreJoined graph (alone graph.entry)
alone_joined graph edges within = record {
  edges = edges;
  entry = within;
  belong = record {
    starts = λ l lt. start l lt;
    node = λ p q e. subst (λ (x : Maker). x.node < length graph.nodes) (same p q e) within;
    leaf = λ p q e. subst (λ (x : Maker). x.leaf < 1) (same p q e) (omega arith);
  };
}
  where
    start : (l : ℕ) → l < 1 → (q : Maker) × (slice_get ((alone graph.entry).pairs) l ≡ Some q) × (q.leaf ≡ l)
    start zero lt = (record { node = graph.entry; leaf = 0; live = false }, refl, refl)
    start (suc l) lt = absurd (omega (arith, lt))

    same : (p : ℕ) (q : Maker) → slice_get ((alone graph.entry).pairs) p ≡ Some q → record { node = graph.entry; leaf = 0; live = false } ≡ q
    same zero q e = cc
    same (suc p) q e = absurd cc

-- ---- the finding of F1

pub falls_none : (graph : Graph) (ty : Ty) (close : Span) (xs : List Finding) → (IsTrue (has_result ty) → Falls graph → ⊥) → Gathers (FallsHere graph ty close) xs xs
falls_none graph ty close xs never = gathers_none (FallsHere graph ty close) xs (λ f h. never h.0 h.1)

pub falls_found : (graph : Graph) (ty : Ty) (close : Span) (xs : List Finding) → IsTrue (has_result ty) → Falls graph
    → Gathers (FallsHere graph ty close) xs (offered xs (broken rule.F1 close (whole 0) close))
falls_found graph ty close xs result falls =
    gathers_as (λ f. f ≡ broken rule.F1 close (whole 0) close) (FallsHere graph ty close) xs (offered xs (broken rule.F1 close (whole 0) close))
    (λ f e. (result, falls, e)) (λ f h. h.2) (gathers_offered xs (broken rule.F1 close (whole 0) close))
