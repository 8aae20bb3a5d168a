-- From the parts of a body, as the code puts them together, to its findings.
use Rattle.std.proofs.Common.{◌≡◌, ℕ, ◌<◌, ◌≤◌, ◌^◌, ◌⊎◌, inl, inr, Bool, List, [], get_or, length, slice_get, Some, refl, sym, ◌∙◌, subst}
use Rattle.std.proofs.lemmas.Option.{slice_get-get_or}
use Rattle.std.specs.List.Sorted.{IsNonDecreasingBy}
use Rattle.std.specs.Prelude.{◌↔◌, All, Contains}
use Rattle.own_tree.specs.declared.finding.Finding.{Finding}
use Rattle.own_tree.specs.declared.graph.Graph.{Graph}
use Rattle.own_tree.specs.declared.graph.Maker.{Maker}
use Rattle.own_tree.specs.declared.graph.Makers.{Makers}
use Rattle.own_tree.specs.declared.graph.Node.{Node}
use Rattle.own_tree.specs.declared.place.Binding.{Binding}
use Rattle.own_tree.specs.declared.place.Place.{Place}
use Rattle.own_tree.specs.TypedSource.{TBody, Program}
use Rattle.own_paths.specs.Findings.{ArePathFindings}
use Rattle.own_paths.specs.Makers.{BodyUses, leaves_declared, uses_of}
use Rattle.own_shapes.specs.Types.{Types}
use Rattle.own_table.specs.Table.{types_in}
use Rattle.own_leaves.specs.Bindings.{AreTyped}
use Rattle.own_leaves.proofs.Sorted.{declared_sorted}
use Rattle.own_walks.specs.Reaching.{IsOf}
use Rattle.own_flow.specs.Facts.{IsSizedFor}
use Rattle.own_breaks.specs.Blaming.{BreaksSomewhere}
use Rattle.own_breaks.specs.Settling.{Gathers, AreBest}
use Rattle.own_breaks.proofs.Gathering.{gathers_as, gathers_on}
use Rattle.own_rules.specs.declared.body.Body.{Body}
use Rattle.own_rules.specs.Bodies.{IsWhole, BreaksIn, makers_of, mode_in, let_in}
use Rattle.own_rules.specs.Falling.{FallsHere}
use Rattle.own_rules.specs.Flow.{IsFlowOf}
use Rattle.own_rules.proofs.Flows.{belong_to, findings_of}

moved : (types : Types) (facts : List (List Bool)) (f : Finding) (ns ns' : List Node) (ps ps' : List Maker) (ls ls' : List Place) (d d' : Bool) (bs bs' : List Binding)
    → ns ≡ ns' → ps ≡ ps' → ls ≡ ls' → d ≡ d' → bs ≡ bs' → BreaksSomewhere ns ps facts ls d (mode_in bs) (let_in types bs) f
    → BreaksSomewhere ns' ps' facts ls' d' (mode_in bs') (let_in types bs') f
moved types facts f ns ns' ps ps' ls ls' d d' bs bs' a b c e g h =
    subst (λ x. BreaksSomewhere x ps' facts ls' d' (mode_in bs') (let_in types bs') f) a
    (subst (λ x. BreaksSomewhere ns x facts ls' d' (mode_in bs') (let_in types bs') f) b
    (subst (λ x. BreaksSomewhere ns ps facts x d' (mode_in bs') (let_in types bs') f) c
    (subst (λ x. BreaksSomewhere ns ps facts ls x (mode_in bs') (let_in types bs') f) e
    (subst (λ x. BreaksSomewhere ns ps facts ls d (mode_in x) (let_in types x) f) g h))))

-- each pair is of a leaf
pub of_leaves : (uses : BodyUses) (graph : Graph) (makers : Makers) (facts : List (List Bool)) → IsFlowOf uses graph makers facts
    → (ps : List Maker) (n : ℕ) → ps ≡ makers.pairs → n ≡ length makers.leaves → All (λ (q : Maker). q.leaf < n) ps
of_leaves uses graph makers facts flow ps n pairs leaves j d lt =
    subst (λ m. (get_or ps j d).leaf < m) (sym leaves)
    ((belong_to uses graph flow.graph_is makers flow.makers_are).leaf j (get_or ps j d) (subst (λ l. slice_get l j ≡ Some (get_or ps j d)) pairs (slice_get-get_or ps j d lt)))

module _ (program : Program) (k : ℕ) (body : TBody) (graph : Graph) (makers : Makers) (b : Body)
    (flow : IsFlowOf (uses_of (types_in b.table.now) program k body) graph makers b.facts.now) (nodes : b.nodes.now ≡ graph.nodes)
    (pairs : b.pairs.now ≡ makers.pairs) (leaves : b.leaves.now ≡ makers.leaves) (bindings : b.bindings.now ≡ program.bindings) where
  pub is_whole : AreTyped b.table.now b.bindings.now → length b.nodes.now ≤ 2 ^ 32 → length b.by_leaf.now ≡ length b.leaves.now
      → ((l p : ℕ) → Contains (makers_of b.by_leaf.now l) p ↔ IsOf b.pairs.now p l) → IsWhole b
  is_whole typed few lists has = record {
    typed = typed;
    sized = subst (λ ns. IsSizedFor (length ns) (length b.pairs.now) b.facts.now) (sym nodes)
        (subst (λ ps. IsSizedFor (length graph.nodes) (length ps) b.facts.now) (sym pairs) flow.facts_are.sized);
    few_nodes = few;
    sorted = subst (λ ls. IsNonDecreasingBy (λ leaf. leaf.binding) ls) (sym (leaves ∙ flow.makers_are.leaves)) (declared_sorted (types_in b.table.now) k program.bindings);
    lists = lists;
    of_leaf = has;
  }

  abbrev Somewhere : Finding → Type 0
  Somewhere f =
      BreaksSomewhere graph.nodes makers.pairs b.facts.now (leaves_declared (types_in b.table.now) k 0 program.bindings) body.discards (mode_in program.bindings)
      (let_in (types_in b.table.now) program.bindings) f

  pub are_findings : body.discards ≡ b.discards → (first all best : List Finding) → Gathers (BreaksIn b) [] first
      → Gathers (FallsHere graph body.result body.close) first all → AreBest all best → ArePathFindings (uses_of (types_in b.table.now) program k body) best
  are_findings discards first all best g h are =
      findings_of (uses_of (types_in b.table.now) program k body) graph makers b.facts.now flow body.result refl all best
      (gathers_as (λ f. BreaksIn b f ⊎ FallsHere graph body.result body.close f) (λ f. Somewhere f ⊎ FallsHere graph body.result body.close f) [] all to from
      (gathers_on (BreaksIn b) (FallsHere graph body.result body.close) [] first all g h)) are
    where
      all_leaves : b.leaves.now ≡ leaves_declared (types_in b.table.now) k 0 program.bindings
      all_leaves = leaves ∙ flow.makers_are.leaves

      to : (f : Finding) → BreaksIn b f ⊎ FallsHere graph body.result body.close f → Somewhere f ⊎ FallsHere graph body.result body.close f
      to f (inl h) = inl (moved (types_in b.table.now) b.facts.now f _ _ _ _ _ _ _ _ _ _ nodes pairs all_leaves (sym discards) bindings h)
      to f (inr h) = inr h

      from : (f : Finding) → Somewhere f ⊎ FallsHere graph body.result body.close f → BreaksIn b f ⊎ FallsHere graph body.result body.close f
      from f (inl h) = inl (moved (types_in b.table.now) b.facts.now f _ _ _ _ _ _ _ _ _ _ (sym nodes) (sym pairs) (sym all_leaves) discards (sym bindings) h)
      from f (inr h) = inr h
