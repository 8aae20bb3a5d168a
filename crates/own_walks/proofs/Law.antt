-- The walks of a graph are the prefixes of the traces, and those that end at an exit are the traces completed there.
use Rattle.std.proofs.Common.{◌≡◌, ℕ, zero, suc, ◌⊎◌, inl, inr, List, [], ◌∷◌, ◌++◌, slice_get, Option, Some, None, refl, sym, ap, ◌∙◌, subst, append_assoc}
use Rattle.own_tree.specs.declared.graph.Node.{Node}
use Rattle.own_tree.specs.declared.op.Op.{Op}
use Rattle.own_tree.specs.declared.span.Span.{Span}
use Rattle.own_tree.specs.OpSource.{Ops}
use Rattle.own_paths.specs.Traces.{Completion, goes_on, breaks, continues, returns, halts, cut, IsTrace}
use Rattle.own_walks.specs.Graphs.{plain, doing, leaving, ops_at, IsNext, IsAt, Goes, Walk, Arrives, no_ways, IsGraphOf, IsWalk, IsPrefix, WalksAreTraces}
use Rattle.own_paths.proofs.TraceFacts.{append_empty, some_trace}
use Rattle.own_walks.proofs.Steps.{First, first, step, stay, Found, Led}
use Rattle.own_walks.proofs.Complete.{leads, finds}
use Rattle.own_walks.proofs.Sound.{Goes_on, Inside, Left}
use Rattle.own_walks.proofs.Rounds.{sound}

-- the last op of a list
pub data Last (os : List Op) : Type 0 where
  none : os ≡ [] → Last os
  last : (front : List Op) (o : Op) → os ≡ front ++ o ∷ [] → Last os

last_more : (x : Op) (os : List Op) → Last os → Last (x ∷ os)
last_more x os (none e) = last [] x (ap (λ l. x ∷ l) e)
last_more x os (last front o e) = last (x ∷ front) o (ap (λ l. x ∷ l) e)

pub last_of : (os : List Op) → Last os
last_of [] = none refl
last_of (x ∷ os) = last_more x os (last_of os)

abbrev exit_of : Completion → Option Span
exit_of (returns s) = Some s
exit_of goes_on = None
exit_of (breaks s) = None
exit_of (continues s) = None
exit_of halts = None
exit_of cut = None

returned : (c : Completion) (s : Span) → exit_of c ≡ Some s → c ≡ returns s
returned (returns r) s e = let is : r ≡ s = cc in ap returns is
returned goes_on s e = cc
returned (breaks r) s e = cc
returned (continues r) s e = cc
returned halts s e = cc
returned cut s e = cc

module _ (lo : ℕ) (ns : List Node) (t : Ops) (entry : ℕ) (g : IsGraphOf lo ns t entry) where
  -- where a completed trace of the whole tree leads, nothing comes
  record Stop (c : Completion) (x : ℕ) : Type 0 where
    node : Node
    there : IsAt lo ns x node
    no_next : node.next ≡ []
    no_op : node.op ≡ None
    exit : node.exit ≡ exit_of c

  stop : (c : Completion) (x : ℕ) → Arrives lo ns (no_ways g.dead) g.dead c x → Stop c x
  stop goes_on x a = record { node = plain []; there = subst (λ y. IsAt lo ns y (plain [])) (sym a) g.stops; no_next = refl; no_op = refl; exit = refl }
  stop (breaks s) x a = record { node = plain []; there = subst (λ y. IsAt lo ns y (plain [])) (sym a) g.stops; no_next = refl; no_op = refl; exit = refl }
  stop (continues s) x a = record { node = plain []; there = subst (λ y. IsAt lo ns y (plain [])) (sym a) g.stops; no_next = refl; no_op = refl; exit = refl }
  stop (returns s) x a = record { node = leaving s; there = subst (λ y. IsAt lo ns y (leaving s)) (sym a.1) a.2; no_next = refl; no_op = refl; exit = refl }
  stop halts x a = record { node = plain []; there = a; no_next = refl; no_op = refl; exit = refl }
  stop cut x a = absurd a

  stopped : (x : ℕ) (nd : Node) (i : ℕ) (os : List Op) (v : ℕ) → IsAt lo ns x nd → nd.next ≡ [] → Goes lo ns i x os v → (x ≡ v) × (os ≡ [])
  stopped x nd zero os v at e w = w
  stopped x nd (suc i) os v at e w = let f = first lo ns x nd i os v at w in absurd (subst (λ l. IsNext l f.to) e f.goes_to)

  -- a walk ends at the entry, within the tree, or where a trace is completed
  data Ends (before : List Op) (at : ℕ) (node : Node) : Type 0 where
    at_entry : before ≡ [] → node ≡ plain (g.first ∷ []) → Ends before at node
    amid : node.exit ≡ None → (k : ℕ) → Goes_on (IsTrace k t) (before ++ ops_at node.op) → Ends before at node
    completed : (k : ℕ) (c : Completion) → IsTrace k t before c → node.op ≡ None → node.exit ≡ exit_of c → Ends before at node

  same : (at : ℕ) (a b : Node) → slice_get ns at ≡ Some a → slice_get ns at ≡ Some b → a ≡ b
  same at a b h i = some_is a b (sym h ∙ i)
    where
      some_is : (x y : Node) → Some x ≡ Some y → x ≡ y
      some_is x y e = cc

  left_ends : (before : List Op) (at j : ℕ) (node : Node) → slice_get ns at ≡ Some node → Left lo ns t (no_ways g.dead) g.dead before at j → Ends before at node
  left_ends before at j node there l =
      completed l.turns l.end (subst (λ x. IsTrace l.turns t x l.end) (sym all) l.trace) (ap (λ (x : Node). x.op) is ∙ st.no_op) (ap (λ (x : Node). x.exit) is ∙ st.exit)
    where
      st : Stop l.end l.to
      st = stop l.end l.to l.arrives

      h : (l.to ≡ at) × (l.back ≡ [])
      h = stopped l.to st.node l.steps l.back at st.there st.no_next l.walk

      is : node ≡ st.node
      is = same at node st.node there (subst (λ x. slice_get ns x ≡ Some st.node) h.0 st.there.1)

      all : before ≡ l.front
      all = l.ops ∙ ap (λ x. l.front ++ x) h.1 ∙ append_empty l.front

  amid_ends : (before : List Op) (at : ℕ) (node : Node) → slice_get ns at ≡ Some node → Inside lo ns t before at → Ends before at node
  amid_ends before at node there r =
      let is = same at r.node node r.there there in
      amid (subst (λ (x : Node). x.exit ≡ None) is r.stays) r.turns (subst (λ (x : Node). Goes_on (IsTrace r.turns t) (before ++ ops_at x.op)) is r.goes)

  ends : (j : ℕ) (before : List Op) (at : ℕ) (node : Node) → slice_get ns at ≡ Some node → Goes lo ns j entry before at → Ends before at node
  ends zero before at node there h = at_entry h.1 (same at node (plain (g.first ∷ [])) there (subst (λ x. slice_get ns x ≡ Some (plain (g.first ∷ []))) h.0 g.begins.1))
  ends (suc j) before at node there h = cases (sound lo ns t (no_ways g.dead) g.dead g.first j before at g.lays (begin f.to f.goes_to (subst (λ l. Goes lo ns j f.to l at) (sym f.ops) f.then)))
    where
      f : First lo ns (plain (g.first ∷ [])) j before at
      f = first lo ns entry (plain (g.first ∷ [])) j before at g.begins h

      begin : (m : ℕ) → IsNext (g.first ∷ []) m → Goes lo ns j m before at → Goes lo ns j g.first before at
      begin m (inl is) w = subst (λ x. Goes lo ns j x before at) is w
      begin m (inr is) w = absurd is

      cases : Inside lo ns t before at ⊎ Left lo ns t (no_ways g.dead) g.dead before at j → Ends before at node
      cases (inl r) = amid_ends before at node there r
      cases (inr l) = left_ends before at j node there l

  -- ---- the four parts of the law

  no_ops : (node : Node) → node.op ≡ None → ops_at node.op ≡ []
  no_ops node e = ap ops_at e

  prefix_of : (os before : List Op) (at : ℕ) (node : Node) → os ≡ before ++ ops_at node.op → Ends before at node → IsPrefix t os
  prefix_of os before at node is (at_entry e f) =
      let some = some_trace 0 t in
      let empty : os ≡ [] = is ∙ ap (λ l. l ++ ops_at node.op) e ∙ ap (λ (x : Node). ops_at x.op) f in
      (0, some.0, some.1, subst (λ l. IsTrace 0 t (l ++ some.0) some.1) (sym empty) some.2)
  prefix_of os before at node is (amid e k h) = (k, h.rest, h.end, subst (λ l. IsTrace k t (l ++ h.rest) h.end) (sym is) h.trace)
  prefix_of os before at node is (completed k c h bare_op e) =
      let all : os ++ [] ≡ before = append_empty os ∙ is ∙ ap (λ l. before ++ l) (no_ops node bare_op) ∙ append_empty before in
      (k, [], c, subst (λ l. IsTrace k t l c) (sym all) h)

  exit_prefix : (os before : List Op) (at : ℕ) (node : Node) (s : Span) → node.exit ≡ Some s → os ≡ before ++ ops_at node.op → Ends before at node → (k : ℕ) × IsTrace k t os (returns s)
  exit_prefix os before at node s x is (at_entry e f) = let h : None ≡ Some s = sym (ap (λ (n : Node). n.exit) f) ∙ x in cc
  exit_prefix os before at node s x is (amid e k h) = let h' : None ≡ Some s = sym e ∙ x in cc
  exit_prefix os before at node s x is (completed k c h bare_op e) =
      let all : os ≡ before = is ∙ ap (λ l. before ++ l) (no_ops node bare_op) ∙ append_empty before in
      (k, subst (λ l. IsTrace k t l (returns s)) (sym all) (subst (λ d. IsTrace k t before d) (returned c s (sym e ∙ x)) h))

  to_op : (os front : List Op) (o : Op) → os ≡ front ++ o ∷ [] → Found lo ns g.first front o → (exit : Option Span) × IsWalk lo ns entry os exit
  to_op os front o is f = (
    None,
    record {
      before = front;
      at = f.at;
      node = doing o f.after;
      walk = step lo ns entry (plain (g.first ∷ [])) g.first front f.at g.begins (inl refl) f.walk;
      there = f.there.1;
      ops = is;
      exits = refl;
    },
  )

  walk_of : (os : List Op) → Last os → IsPrefix t os → (exit : Option Span) × IsWalk lo ns entry os exit
  walk_of os (none e) p = (
    None,
    record {
      before = [];
      at = entry;
      node = plain (g.first ∷ []);
      walk = stay lo ns entry;
      there = g.begins.1;
      ops = e;
      exits = refl;
    },
  )
  walk_of os (last front o e) p =
      to_op os front o e (finds lo ns p.0 t (no_ways g.dead) g.dead g.first g.lays front o p.1 p.2 (subst (λ l. IsTrace p.0 t l p.2) (ap (λ l. l ++ p.1) e ∙ append_assoc front (o ∷ []) p.1) p.3))

  exit_walk : (os : List Op) (s : Span) → Led lo ns (no_ways g.dead) g.dead (returns s) g.first os → IsWalk lo ns entry os (Some s)
  exit_walk os s l = record {
    before = os;
    at = l.to;
    node = leaving s;
    walk = step lo ns entry (plain (g.first ∷ [])) g.first os l.to g.begins (inl refl) l.walk;
    there = subst (λ x. slice_get ns x ≡ Some (leaving s)) (sym l.arrives.1) l.arrives.2.1;
    ops = sym (append_empty os);
    exits = refl;
  }

  pub walks_are_traces : WalksAreTraces lo ns t entry
  walks_are_traces = record {
    sound = λ os exit w. prefix_of os w.before w.at w.node w.ops (ends w.walk.0 w.before w.at w.node w.there w.walk.1);
    complete = λ os p. walk_of os (last_of os) p;
    exit_sound = λ os s w. exit_prefix os w.before w.at w.node s w.exits w.ops (ends w.walk.0 w.before w.at w.node w.there w.walk.1);
    exit_complete = λ os s k h. exit_walk os s (leads lo ns k t (no_ways g.dead) g.dead g.first g.lays os (returns s) tt h);
  }

  -- ---- exits by their nodes

  exit_ends : (before : List Op) (at : ℕ) (node : Node) (s : Span) → node.exit ≡ Some s → Ends before at node → (k : ℕ) × IsTrace k t before (returns s)
  exit_ends before at node s x (at_entry e f) = let h : None ≡ Some s = sym (ap (λ (n : Node). n.exit) f) ∙ x in cc
  exit_ends before at node s x (amid e k h) = let h' : None ≡ Some s = sym e ∙ x in cc
  exit_ends before at node s x (completed k c h bare_op e) = (k, subst (λ d. IsTrace k t before d) (returned c s (sym e ∙ x)) h)

  -- a walk to an exit is a trace that returns there
  pub from_exit : (before : List Op) (at : ℕ) (node : Node) (s : Span) → slice_get ns at ≡ Some node → node.exit ≡ Some s → Walk lo ns entry before at → (k : ℕ) × IsTrace k t before (returns s)
  from_exit before at node s there x w = exit_ends before at node s x (ends w.0 before at node there w.1)

  to_exit_by : (before : List Op) (s : Span) → Led lo ns (no_ways g.dead) g.dead (returns s) g.first before → (at : ℕ) × (node : Node) × (slice_get ns at ≡ Some node) × (node.exit ≡ Some s) × Walk lo ns entry before at
  to_exit_by before s l =
      (l.to, leaving s, subst (λ x. slice_get ns x ≡ Some (leaving s)) (sym l.arrives.1) l.arrives.2.1, refl, step lo ns entry (plain (g.first ∷ [])) g.first before l.to g.begins (inl refl) l.walk)

  -- and such a trace a walk to an exit
  pub to_exit : (before : List Op) (s : Span) (k : ℕ) → IsTrace k t before (returns s) → (at : ℕ) × (node : Node) × (slice_get ns at ≡ Some node) × (node.exit ≡ Some s) × Walk lo ns entry before at
  to_exit before s k h = to_exit_by before s (leads lo ns k t (no_ways g.dead) g.dead g.first g.lays before (returns s) tt h)
