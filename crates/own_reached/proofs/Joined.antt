-- The graph of a tree and the makers at its nodes belong together.
use Rattle.std.proofs.Common.{◌≡◌, ℕ, ◌<◌, false, List, [], ◌∷◌, length, None, sym, ap, subst}
use Rattle.own_tree.specs.declared.graph.Graph.{Graph}
use Rattle.own_tree.specs.declared.graph.Maker.{Maker}
use Rattle.own_tree.specs.declared.graph.Makers.{Makers}
use Rattle.own_tree.specs.declared.graph.Node.{Node}
use Rattle.own_tree.specs.declared.place.Place.{Place}
use Rattle.own_tree.specs.declared.place.Ty.TheVariants as type
use Rattle.own_tree.specs.declared.span.Span.{Span}
use Rattle.own_tree.specs.declared.typed.At.{At}
use Rattle.own_tree.specs.declared.typed.BodyKind.TheVariants as body_kind
use Rattle.own_tree.specs.OpSource.{Ops}
use Rattle.own_tree.specs.TypedSource.{TBody, block, no_stms}
use Rattle.std.proofs.lemmas.Option.{slice_get_within}
use Rattle.own_paths.specs.Makers.{BodyUses}
use Rattle.own_walks.specs.Building.{Built, built, graph_of}
use Rattle.own_walks.specs.Graphs.{plain}
use Rattle.own_walks.specs.Pairs.{BelongTo, pairs_of}
use Rattle.own_walks.specs.Reaching.{EdgesLeadToNodes}
use Rattle.own_walks.proofs.Edges.{graph_edges}
use Rattle.own_walks.proofs.Laid.{graph_is}
use Rattle.own_walks.proofs.Making.{pairs_belong}
use Rattle.own_graph.specs.Makers.{AreMakersOf}
use Rattle.own_flow.specs.Facts.{AreJoined}

entry_within : (t : Ops) → (graph_of t).entry < length (graph_of t).nodes
entry_within t = let g = graph_is t in slice_get_within (graph_of t).nodes (graph_of t).entry (plain (g.first ∷ [])) g.begins.1

joined_at : (ns : List Node) (entry : ℕ) (uses : BodyUses) (graph : Graph) (makers : Makers) → graph.nodes ≡ ns → graph.entry ≡ entry
    → EdgesLeadToNodes ns → entry < length ns → AreMakersOf uses graph makers → AreJoined graph makers
joined_at ns entry uses graph makers n e edges within are =
    let here : graph.entry < length graph.nodes = subst (λ l. graph.entry < length l) (sym n) (subst (λ k. k < length ns) (sym e) within) in record {
      edges = subst (λ l. EdgesLeadToNodes l) (sym n) edges;
      entry = here;
      belong =
          subst (λ ps. BelongTo (length graph.nodes) (length makers.leaves) ps) (sym are.pairs)
          (subst (λ (l : List Place). BelongTo (length graph.nodes) (length l) (pairs_of uses graph.nodes graph.entry)) (sym are.leaves)
          (pairs_belong uses graph.nodes graph.entry here));
    }

pub joined : (t : Ops) (uses : BodyUses) (graph : Graph) (makers : Makers) → built graph.nodes graph.entry ≡ graph_of t → AreMakersOf uses graph makers → AreJoined graph makers
joined t uses graph makers is are =
    joined_at (graph_of t).nodes (graph_of t).entry uses graph makers (ap (λ (b : Built). b.nodes) is) (ap (λ (b : Built). b.entry) is) (graph_edges t) (entry_within t) are

-- some body, where what is said is said of each
pub no_body : TBody
no_body =
    let span : Span = record { start = 0; end = 0 } in
    let at : At = record { id = 0; span = span; ty = type.Unit } in
    record {
      kind = body_kind.Function;
      owner = None;
      params = [];
      result = type.Unit;
      discards = false;
      span = span;
      close = span;
      block = block at no_stms;
    }
