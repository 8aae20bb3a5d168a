-- The facts of a graph and its makers, by the rows of bits.
use Rattle.std.proofs.Common.{◌≡◌, ℕ, ◌<◌, Bool, true, List, [], length, set, sym, ap, ◌∙◌, subst, arith}
use Rattle.std.proofs.lemmas.Option.{slice_get_within}
use Rattle.std.specs.Prelude.{◌↔◌, All, Contains, slice_index_or}
use Rattle.own_tree.specs.declared.graph.Graph.{Graph}
use Rattle.own_tree.specs.declared.graph.Maker.{Maker}
use Rattle.own_tree.specs.declared.graph.Makers.{Makers}
use Rattle.own_tree.specs.declared.graph.Node.{Node}
use Rattle.own_walks.specs.Pairs.{BelongTo}
use Rattle.own_walks.specs.Reaching.{IsMadeAt, IsOf, Reaches, EdgesLeadToNodes}
use Rattle.own_flow.specs.declared.made.Made.{Made}
use Rattle.own_flow.specs.Facts.{IsSizedFor, AreJoined, AreFactsOf, facts_in, words_for}
use Rattle.own_flow.specs.Flow.{HasAt, AreTables, AreWhole, Settles, made_at, mask_of}
use Rattle.own_flow.specs.Words.{Has}
use Rattle.own_flow.specs.Rounds.{IsRound, RoundsTo}
use Rattle.own_flow.proofs.FlowLaws.{reach_leaf}
use Rattle.own_flow.proofs.RoundLaws.{is_round}
use Rattle.own_flow.proofs.TableLaws.{are_tables, are_whole, flows_first, fact_is, facts_sized, facts_length, facts_each}

-- the parts of a graph and its makers, as they are handed on
module _ (graph : Graph) (makers : Makers) (ns : List Node) (ps : List Maker) (k : ℕ) (nodes_are : ns ≡ graph.nodes) (pairs_are : ps ≡ makers.pairs) (leaves_are : k ≡ length makers.leaves) where
  pub edges_of : AreJoined graph makers → EdgesLeadToNodes ns
  edges_of j = subst (λ l. EdgesLeadToNodes l) (sym nodes_are) j.edges

  pub belong_of : AreJoined graph makers → BelongTo (length ns) k ps
  belong_of j =
      subst (λ l. BelongTo (length l) k ps) (sym nodes_are)
      (subst (λ n. BelongTo (length graph.nodes) n ps) (sym leaves_are) (subst (λ l. BelongTo (length graph.nodes) (length makers.leaves) l) (sym pairs_are) j.belong))

  -- the tables, by what their parts hold
  module _ (j : AreJoined graph makers) (at : List (List Made)) (masks : List (List ℕ)) (made : (u : ℕ) (x : Made) → Contains (made_at at u) x ↔ IsMadeAt ps k u x.maker x.leaf)
      (has : (leaf m : ℕ) → Has (mask_of masks leaf) m ↔ IsOf ps m leaf) where
    tables : AreTables ps k (made_at at) masks
    tables = are_tables ps k ns at masks (belong_of j) made has

    pub whole_of : length at ≡ length ns → length masks ≡ k → All (λ mask. length mask ≡ words_for (length ps)) masks → AreWhole ns at masks (words_for (length ps))
    whole_of as_many count long = are_whole ps k ns at masks (belong_of j) made has (edges_of j) as_many count long

    module _ (first rows : List (List ℕ)) (waiting : List Bool) (low : length ns ≡ length waiting) (begun : (u m : ℕ) → HasAt first u m ↔ ((u ≡ graph.entry) × (m < k)))
        (s : Settles ns at masks first rows (set waiting graph.entry true)) where
      pub exact_of : (u m : ℕ) → HasAt rows u m ↔ Reaches ps k ns graph.entry u m
      exact_of =
          let within : graph.entry < length waiting = omega (arith, j.entry, ap length nodes_are, low) in
          s ps k graph.entry tables (flows_first ps k ns graph.entry first waiting within begun)

      pub within_of : (u m : ℕ) → HasAt rows u m → m < length ps
      within_of u m h =
          let r = (exact_of u m).0 h in
          let leaf = reach_leaf ps k (made_at at) masks tables ns graph.entry r.0 u m r.1 in slice_get_within ps m leaf.1.0 leaf.1.1

  -- bits that are exactly what walks give
  pub facts_of : (rows : List (List ℕ)) → length rows ≡ length ns → ((u m : ℕ) → HasAt rows u m ↔ Reaches ps k ns graph.entry u m) → ((u m : ℕ) → HasAt rows u m → m < length ps)
      → AreFactsOf graph makers (facts_in (length ps) rows)
  facts_of rows count has within = record {
    sized = subst (λ n. IsSizedFor n (length makers.pairs) (facts_in (length ps) rows)) (count ∙ ap length nodes_are)
        (subst (λ n. IsSizedFor (length rows) n (facts_in (length ps) rows)) (ap length pairs_are) (facts_sized (length ps) rows));
    has = λ u m.
        let walk = subst (λ l. HasAt rows u m ↔ Reaches makers.pairs (length makers.leaves) l graph.entry u m) nodes_are
        (subst (λ n. HasAt rows u m ↔ Reaches makers.pairs n ns graph.entry u m) leaves_are (subst (λ l. HasAt rows u m ↔ Reaches l k ns graph.entry u m) pairs_are (has u m)))
        in
        let fact = fact_is (length ps) rows u m in
        (λ f. walk.0 ((fact.0 f).1), λ r. let h = walk.1 r in fact.1 (within u m h, h));
  }

  -- a round over rows, as contracts see it
  pub round_of : (n : ℕ) (rows rows' : List (List ℕ)) (grown : Bool) → n ≡ length ps → ((u m : ℕ) → HasAt rows u m → m < length ps) → ((u m : ℕ) → HasAt rows' u m → m < length ps) → RoundsTo ps k ns 0 rows rows' grown
      → IsRound graph makers (facts_in n rows) (facts_in n rows') grown
  round_of n rows rows' grown size within within' r =
      let many : length makers.pairs ≡ n = sym (size ∙ ap length pairs_are) in
      let all = subst (λ l. RoundsTo makers.pairs (length makers.leaves) l 0 rows rows' grown) nodes_are
      (subst (λ j. RoundsTo makers.pairs j ns 0 rows rows' grown) leaves_are (subst (λ l. RoundsTo l k ns 0 rows rows' grown) pairs_are r))
      in
      subst (λ c. IsRound graph makers (facts_in c rows) (facts_in c rows') grown) many
      (is_round graph makers rows rows' grown (λ u m h. subst (λ l. m < length l) pairs_are (within u m h)) (λ u m h. subst (λ l. m < length l) pairs_are (within' u m h)) all)

-- facts that are sized for the makers have one value for each
pub makers_of : (n : ℕ) (rows : List (List ℕ)) (facts : List (List Bool)) (graph : Graph) (makers : Makers) → facts_in n rows ≡ facts → AreJoined graph makers → IsSizedFor (length graph.nodes) (length makers.pairs) facts → n ≡ length makers.pairs
makers_of n rows facts graph makers view j s =
    let low : graph.entry < length rows = subst (λ k. graph.entry < k) (sym (sym (facts_length n rows) ∙ ap length view ∙ s.rows)) j.entry in
    sym (facts_each n rows graph.entry low) ∙ ap (λ f. length (slice_index_or f graph.entry [])) view ∙ s.each graph.entry j.entry
