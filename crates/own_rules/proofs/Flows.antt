-- The graph, the makers and the facts of a body, as the laws take them.
use Rattle.std.proofs.Common.{◌≡◌, ℕ, zero, suc, ◌<◌, ◌⊎◌, inl, inr, Bool, true, false, List, [], ◌∷◌, length, map, slice_get, Option, Some, None, sym, ap, ◌∙◌, subst}
use Rattle.std.proofs.lemmas.Option.{slice_get_within}
use Rattle.std.specs.Prelude.{◌↔◌, slice_index_or}
use Rattle.own_tree.specs.declared.finding.Finding.{Finding}
use Rattle.own_tree.specs.declared.finding.Rule.TheVariants as rule
use Rattle.own_tree.specs.declared.graph.Graph.{Graph}
use Rattle.own_tree.specs.declared.graph.Makers.{Makers}
use Rattle.own_tree.specs.declared.op.Op.{Op}
use Rattle.own_tree.specs.declared.place.Ty.{Ty}
use Rattle.own_paths.specs.Findings.{ArePathFindings, IsFallOff, FallsOff}
use Rattle.own_paths.specs.Makers.{BodyUses, tree_of}
use Rattle.own_paths.specs.Ops.{has_result}
use Rattle.own_walks.specs.Building.{built, graph_of}
use Rattle.own_walks.specs.Graphs.{plain, IsGraphOf, Walk}
use Rattle.own_walks.specs.Pairs.{AreMakers, BelongTo, pairs_of}
use Rattle.own_walks.specs.Reaching.{EdgesLeadToNodes, Reaches}
use Rattle.own_walks.proofs.Edges.{graph_edges}
use Rattle.own_walks.proofs.FallingOff.{falls_at_one}
use Rattle.own_walks.proofs.Laid.{graph_is}
use Rattle.own_walks.proofs.Making.{pairs_are_makers, pairs_belong}
use Rattle.own_graph.specs.Makers.{AreMakersOf}
use Rattle.own_flow.specs.Facts.{AreJoined}
use Rattle.own_breaks.specs.Blaming.{AreOfBody, BreaksSomewhere}
use Rattle.own_breaks.specs.Settling.{Breaks, Gathers, AreBest}
use Rattle.own_breaks.proofs.Best.{best_are_findings}
use Rattle.own_breaks.proofs.Blamed.{breaks_are_blamed}
use Rattle.own_flow.proofs.TableLaws.{not_in_none}
use Rattle.own_rules.specs.Falling.{Falls, FallsHere}
use Rattle.own_rules.specs.Flow.{IsFlowOf}

-- ---- facts as truth values

pub row_has : (row : List Bool) (m : ℕ) → (slice_get row m ≡ Some true) ↔ (slice_index_or row m false ≡ true)
row_has [] m = (λ e. cc, λ e. cc)
row_has (b ∷ row) zero = (λ e. cc, λ e. ap (λ x. Some x) e)
row_has (b ∷ row) (suc m) = row_has row m

pub get_map : {A B : Type 0} (f : A → B) (xs : List A) (k : ℕ) (x : A) → slice_get xs k ≡ Some x → slice_get (map f xs) k ≡ Some (f x)
get_map f [] k x e = cc
get_map f (y ∷ xs) zero x e = ap (λ o. some_of f o) e
  where
    some_of : {A B : Type 0} → (A → B) → Option A → Option B
    some_of g None = None
    some_of g (Some z) = Some (g z)
get_map f (y ∷ xs) (suc k) x e = get_map f xs k x e

module _ (uses : BodyUses) (graph : Graph) (is : built graph.nodes graph.entry ≡ graph_of (tree_of uses)) where
  nodes_are : graph.nodes ≡ (graph_of (tree_of uses)).nodes
  nodes_are = ap (λ b. b.nodes) is

  entry_is : graph.entry ≡ (graph_of (tree_of uses)).entry
  entry_is = ap (λ b. b.entry) is

  pub edges_of : EdgesLeadToNodes graph.nodes
  edges_of = subst (λ ns. EdgesLeadToNodes ns) (sym nodes_are) (graph_edges (tree_of uses))

  pub graph_of_body : IsGraphOf 0 graph.nodes (tree_of uses) graph.entry
  graph_of_body =
      subst (λ ns. IsGraphOf 0 ns (tree_of uses) graph.entry) (sym nodes_are)
      (subst (λ e. IsGraphOf 0 (graph_of (tree_of uses)).nodes (tree_of uses) e) (sym entry_is) (graph_is (tree_of uses)))

  pub entry_within : graph.entry < length graph.nodes
  entry_within = slice_get_within graph.nodes graph.entry (plain (graph_of_body.first ∷ [])) graph_of_body.begins.1

  pub falls_is : FallsOff uses ↔ Falls graph
  falls_is =
      subst (λ ns. FallsOff uses ↔ ((os : List Op) × Walk 0 ns graph.entry os 1)) (sym nodes_are)
      (subst (λ e. FallsOff uses ↔ ((os : List Op) × Walk 0 (graph_of (tree_of uses)).nodes e os 1)) (sym entry_is) (falls_at_one uses))

  module _ (makers : Makers) (are : AreMakersOf uses graph makers) where
    pub belong_to : BelongTo (length graph.nodes) (length makers.leaves) makers.pairs
    belong_to =
        subst (λ ps. BelongTo (length graph.nodes) (length makers.leaves) ps) (sym are.pairs)
        (subst (λ ls. BelongTo (length graph.nodes) (length ls) (pairs_of uses graph.nodes graph.entry)) (sym are.leaves)
        (pairs_belong uses graph.nodes graph.entry entry_within))

    -- what `reach` asks of them
    pub joined : AreJoined graph makers
    joined = record { edges = edges_of; entry = entry_within; belong = belong_to }

module _ (uses : BodyUses) (graph : Graph) (makers : Makers) (facts : List (List Bool)) (flow : IsFlowOf uses graph makers facts) where
  pub of_body : AreOfBody uses graph.nodes graph.entry makers.pairs facts
  of_body = record {
    graph = graph_of_body uses graph flow.graph_is;
    makers = subst (λ ps. AreMakers uses graph.nodes graph.entry ps) (sym flow.makers_are.pairs) (pairs_are_makers uses graph.nodes graph.entry);
    has = λ u p.
        let row = row_has (slice_index_or facts u []) p in
        let h = flow.facts_are.has u p in
        let leaves = flow.makers_are.leaves in (
          λ r. subst (λ ls. Reaches makers.pairs (length ls) graph.nodes graph.entry u p) leaves (h.0 (row.1 r)),
          λ r. row.0 (h.1 (subst (λ ls. Reaches makers.pairs (length ls) graph.nodes graph.entry u p) (sym leaves) r)),
        );
  }

  -- ---- all that breaks a rule

  abbrev Somewhere : Finding → Type 0
  Somewhere f = BreaksSomewhere graph.nodes makers.pairs facts uses.leaves uses.discards uses.mode_of uses.is_let_property f

  module _ (ty : Ty) (ty_is : uses.has_result ≡ has_result ty) where
    abbrev pub AnyBreak : Finding → Type 0
    AnyBreak f = Somewhere f ⊎ FallsHere graph ty uses.close f

    any_breaks : (f : Finding) → AnyBreak f → Breaks uses f
    any_breaks f (inl h) = (breaks_are_blamed uses graph.nodes graph.entry makers.pairs facts of_body f).1 (inl h)
    any_breaks f (inr h) = (breaks_are_blamed uses graph.nodes graph.entry makers.pairs facts of_body f).1 (inr (
      ap (λ (g : Finding). g.rule) h.2,
      record {
        result = ty_is ∙ h.0;
        falls = (falls_is uses graph flow.graph_is).1 h.1;
        span_is = ap (λ (g : Finding). g.span) h.2;
        cause_is = ap (λ (g : Finding). g.cause) h.2;
        place_is = ap (λ (g : Finding). g.place) h.2;
      },
    ))

    breaks_any : (f : Finding) → Breaks uses f → AnyBreak f
    breaks_any f b = at ((breaks_are_blamed uses graph.nodes graph.entry makers.pairs facts of_body f).0 b)
      where
        at : Somewhere f ⊎ ((f.rule ≡ rule.F1) × IsFallOff uses f) → AnyBreak f
        at (inl h) = inl h
        at (inr h) = inr (
          sym ty_is ∙ h.1.result,
          (falls_is uses graph flow.graph_is).0 h.1.falls,
          λ j. record { rule = h.0 j; span = h.1.span_is j; place = h.1.place_is j; cause = h.1.cause_is j },
        )

    pub findings_of : (all best : List Finding) → Gathers AnyBreak [] all → AreBest all best → ArePathFindings uses best
    findings_of all best g are =
        best_are_findings uses all best (λ f c. elim (g.sound f c) [ inl old ↦ absurd (not_in_none f old) | inr is ↦ any_breaks f is ])
        (λ f b. g.complete f (inr (breaks_any f b))) are
