-- What is proved of breaks and facts at nodes, for contracts to cite.
use Rattle.std.specs.Prelude.{◌≡◌, ℕ, ◌⊎◌, ◌↔◌, IsTrue, false, Bool, Contains, List, map, slice_get, Some}
use Rattle.std.specs.Ordering.{is_lt}
use Rattle.own_tree.specs.declared.finding.Finding.{Finding}
use Rattle.own_tree.specs.declared.finding.Rule.TheVariants as rule
use Rattle.own_tree.specs.declared.graph.Maker.{Maker}
use Rattle.own_tree.specs.declared.graph.Node.{Node}
use Rattle.own_tree.specs.declared.op.Op.{Op}
use Rattle.own_tree.specs.declared.place.Place.{Place}
use Rattle.own_paths.specs.Facts.{MayBe}
use Rattle.own_paths.specs.Findings.{ArePathFindings, IsFallOff, Rising}
use Rattle.own_paths.specs.Makers.{BodyUses, tree_of}
use Rattle.own_walks.specs.Graphs.{IsGraphOf}
use Rattle.own_walks.specs.Pairs.{pairs_of}
use Rattle.own_breaks.specs.Blaming.{AreOfBody, BreaksSomewhere, reaches}
use Rattle.own_breaks.specs.NodeFacts.{MayBeAt}
use Rattle.own_breaks.specs.Settling.{AreBest, Breaks, IsNoWorse, Gathers, offered, question, question_cmp}

-- O1 to O6 are broken on some trace exactly where they are broken at some node by a maker that reaches it.
abbrev pub BreaksAreBlamed : Type 0
BreaksAreBlamed =
    (uses : BodyUses) (nodes : List Node) (entry : ℕ) (pairs : List Maker) (facts : List (List Bool))
    → AreOfBody uses nodes entry pairs facts → (f : Finding)
    → Breaks uses f
    ↔ (BreaksSomewhere nodes pairs facts uses.leaves uses.discards uses.mode_of uses.is_let_property f
    ⊎ ((f.rule ≡ rule.F1) × IsFallOff uses f))

-- Of breaks, with one that is no worse for each that there is, the best of each question are the findings.
abbrev pub BestAreFindings : Type 0
BestAreFindings =
    (uses : BodyUses) (all best : List Finding) → ((f : Finding) → Contains all f → Breaks uses f)
    → ((f : Finding) → Breaks uses f → (g : Finding) × Contains all g × IsNoWorse g f)
    → AreBest all best → ArePathFindings uses best

-- a leaf may be live before a node, or not, exactly where a maker that says so reaches the node
abbrev pub FactsAreByMakers : Type 0
FactsAreByMakers =
    (uses : BodyUses) (nodes : List Node) (entry : ℕ) (pairs : List Maker) (facts : List (List Bool))
    → AreOfBody uses nodes entry pairs facts → pairs ≡ pairs_of uses nodes entry
    → (v l : ℕ) (leaf : Place) (live : Bool) → slice_get uses.leaves l ≡ Some leaf
    → MayBeAt uses nodes entry v leaf live
    ↔ ((p : ℕ) × (q : Maker) × (slice_get pairs p ≡ Some q) × (q.leaf ≡ l) × IsTrue (reaches facts v p)
    × (q.live ≡ live))

-- a leaf may be live before an op, or not, exactly where it may be so before a node of that op
abbrev pub FactsAreAtNodes : Type 0
FactsAreAtNodes =
    (uses : BodyUses) (nodes : List Node) (entry : ℕ) → IsGraphOf 0 nodes (tree_of uses) entry
    → (o : Op) (leaf : Place) (live : Bool)
    → MayBe uses o leaf live
    ↔ ((v : ℕ) × (n : Node) × (slice_get nodes v ≡ Some n) × (n.op ≡ Some o) × MayBeAt uses nodes entry v leaf live)

-- A list that is offered a finding holds it, or one that is no worse, and stays in order where the finding is asked
-- after none of the list.
pub record OffersGather : Type 0 where
  pub gathers : (xs : List Finding) (f : Finding) → Gathers (λ g. g ≡ f) xs (offered xs f)
  pub rises : (xs : List Finding) (f : Finding) → Rising (map question xs)
      → ((x : Finding) → Contains xs x → is_lt (question_cmp f x) ≡ false) → Rising (map question (offered xs f))
