-- The ways out of a tree by the scopes that stand round it, the outermost first.
use Rattle.std.specs.Prelude.{ℕ, ◌≤◌, List, drop, reverse, length}
use Rattle.own_walks.specs.Graphs.{Way, Ways}
use Rattle.own_graph.specs.declared.targets.Targets.{Targets}

abbrev pub way_of : List (List ℕ) → ℕ → ℕ → Way
way_of scopes from to = record { pending = reverse (drop from scopes); target = to }

abbrev pub ways_of : List (List ℕ) → Targets → Ways
ways_of scopes t = record {
  breaking = way_of scopes t.break_scopes t.break_to;
  continuing = way_of scopes t.continue_scopes t.continue_to;
  returning = reverse scopes;
}

abbrev pub AreRound : List (List ℕ) → Targets → Type 0
AreRound scopes t = (t.break_scopes ≤ length scopes) × (t.continue_scopes ≤ length scopes)
