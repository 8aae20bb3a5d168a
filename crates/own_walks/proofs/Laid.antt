-- The function makes a graph of the tree.
use Rattle.std.proofs.Common.{◌≡◌, ℕ, suc, ◌≤◌, ◌<◌, Bool, true, false, ◌==◌, cond, inl, inr, List, [], ◌∷◌, ◌++◌, length, slice_get, Some, refl, sym, ◌∙◌, subst, arith, eqb-true}
use Rattle.std.proofs.Math.ListN.{set}
use Rattle.std.proofs.lemmas.List.{length-append, length-set}
use Rattle.std.proofs.lemmas.Option.{slice_get_within}
use Rattle.own_shapes.proofs.Lists.{get_front, get_pushed, set_same, set_other}
use Rattle.own_tree.specs.declared.graph.Node.{Node}
use Rattle.own_tree.specs.declared.op.Op.{Op}
use Rattle.own_tree.specs.declared.span.Span.{Span}
use Rattle.own_tree.specs.OpSource.{Ops, op, nothing, next, either, loop, catch, scope, break_at, continue_at, return_at, halt}
use Rattle.own_paths.specs.Traces.{ends_at}
use Rattle.own_walks.specs.Graphs.{plain, doing, leaving, Ways, ends_out, within, in_loop, in_catch, IsAt, Chain, Fork, Lays, no_ways, IsGraphOf, WalksAreTraces}
use Rattle.own_walks.specs.Building.{Built, built, pushed, chained, forked, lay, graph_of}
use Rattle.own_walks.proofs.Law.{walks_are_traces}

-- ---- nodes that are there stay

pub record Stays (lo : ℕ) (ns ms : List Node) : Type 0 where
  pub longer : length ns ≤ length ms
  pub same : (i : ℕ) (x : Node) → lo ≤ i → slice_get ns i ≡ Some x → slice_get ms i ≡ Some x

stays : (lo : ℕ) (ns : List Node) → Stays lo ns ns
stays lo ns = record { longer = omega arith; same = λ i x h e. e }

stays_on : (lo : ℕ) (ns ms ls : List Node) → Stays lo ns ms → Stays lo ms ls → Stays lo ns ls
stays_on lo ns ms ls a b = record { longer = omega (arith, a.longer, b.longer); same = λ i x h e. b.same i x h (a.same i x h e) }

pub stays_pushed : (lo : ℕ) (nd : Node) (ns : List Node) → Stays lo ns (pushed nd ns).nodes
stays_pushed lo nd ns = record { longer = omega (arith, length-append ns (nd ∷ [])); same = λ i x h e. get_front ns (nd ∷ []) i x e }

at_pushed : (lo : ℕ) (nd : Node) (ns : List Node) → lo ≤ length ns → IsAt lo (pushed nd ns).nodes (pushed nd ns).entry nd
at_pushed lo nd ns h = (h, get_pushed ns nd)

module _ (lo lo' : ℕ) (ns ms : List Node) (le : lo' ≤ lo) (st : Stays lo ns ms) where
  at_stays : (e : ℕ) (nd : Node) → IsAt lo ns e nd → IsAt lo' ms e nd
  at_stays e nd h = (omega (arith, h.0, le), st.same e nd h.0 h.1)

  chain_stays : (os : List Op) (to e : ℕ) → Chain lo ns os to e → Chain lo' ms os to e
  chain_stays [] to e h = h
  chain_stays (o ∷ os) to e h = (h.0, at_stays e (doing o h.0) h.1, chain_stays os to h.0 h.2)

  fork_stays : (a b e : ℕ) → Fork lo ns a b e → Fork lo' ms a b e
  fork_stays a b e (inl h) = inl h
  fork_stays a b e (inr h) = inr (at_stays e (plain (a ∷ b ∷ [])) h)

  pub lays_stays : (t : Ops) (w : Ways) (n e : ℕ) → Lays lo ns t w n e → Lays lo' ms t w n e
  lays_stays (op o) w n e h = at_stays e (doing o n) h
  lays_stays nothing w n e h = h
  lays_stays (next a b) w n e h = (h.0, lays_stays b w n h.0 h.1, lays_stays a w h.0 e h.2)
  lays_stays (either a b) w n e h = (h.0, h.1, lays_stays a w n h.0 h.2, lays_stays b w n h.1 h.3, fork_stays h.0 h.1 e h.4)
  lays_stays (loop a b) w n e h = (h.0, h.1, at_stays h.0 (plain (e ∷ [])) h.2, lays_stays a (in_loop w n h.1) h.1 e h.3, lays_stays b (in_loop w n h.0) h.0 h.1 h.4)
  lays_stays (catch a) w n e h = lays_stays a (in_catch w n) n e h
  lays_stays (scope bs s a) w n e h = (h.0, chain_stays (ends_at s bs) n h.0 h.1, lays_stays a (within bs w) h.0 e h.2)
  lays_stays (break_at s) w n e h = chain_stays (ends_out s w.breaking.pending) w.breaking.target e h
  lays_stays (continue_at s) w n e h = chain_stays (ends_out s w.continuing.pending) w.continuing.target e h
  lays_stays (return_at s) w n e h = (h.0, chain_stays (ends_out s w.returning) h.0 e h.1, at_stays h.0 (leaving s) h.2)
  lays_stays halt w n e h = at_stays e (plain []) h

-- ---- what the function makes

-- nodes of at least this number were added for the tree, and all others stay
pub record Laid (b r : Built) (t : Ops) (w : Ways) : Type 0 where
  pub stay : Stays 0 b.nodes r.nodes
  pub lays : Lays (length b.nodes) r.nodes t w b.entry r.entry

pub record Chained (b r : Built) (os : List Op) : Type 0 where
  pub stay : Stays 0 b.nodes r.nodes
  pub chain : Chain (length b.nodes) r.nodes os b.entry r.entry

pub chain_made : (os : List Op) (b : Built) → Chained b (chained os b) os
chain_made [] b = record { stay = stays 0 b.nodes; chain = refl }
chain_made (o ∷ os) b =
    let r = chained os b in
    let i = chain_made os b in
    let p = stays_pushed 0 (doing o r.entry) r.nodes in
    record {
      stay = stays_on 0 b.nodes r.nodes (pushed (doing o r.entry) r.nodes).nodes i.stay p;
      chain = (
        r.entry,
        at_pushed (length b.nodes) (doing o r.entry) r.nodes i.stay.longer,
        chain_stays (length b.nodes) (length b.nodes) r.nodes (pushed (doing o r.entry) r.nodes).nodes (omega arith) (stays_pushed (length b.nodes) (doing o r.entry) r.nodes) os b.entry r.entry i.chain,
      );
    }

pub from_zero : (lo : ℕ) (ns ms : List Node) → Stays 0 ns ms → Stays lo ns ms
from_zero lo ns ms st = record { longer = st.longer; same = λ i x h e. st.same i x (omega arith) e }

next_laid : (x y : Ops) (w : Ways) (b r s : Built) → Laid b r y w → Laid r s x w → Laid b s (next x y) w
next_laid x y w b r s p q = record {
  stay = stays_on 0 b.nodes r.nodes s.nodes p.stay q.stay;
  lays = (
    r.entry,
    lays_stays (length b.nodes) (length b.nodes) r.nodes s.nodes (omega arith) (from_zero (length b.nodes) r.nodes s.nodes q.stay) y w b.entry r.entry p.lays,
    lays_stays (length r.nodes) (length b.nodes) s.nodes s.nodes p.stay.longer (stays (length r.nodes) s.nodes) x w r.entry s.entry q.lays,
  );
}

-- the fork of two parts
abbrev Forks : ℕ → ℕ → ℕ → List Node → Built → Type 0
Forks first second lo ns r = Stays 0 ns r.nodes × Fork lo r.nodes first second r.entry

fork_made : (first second : ℕ) (lo : ℕ) (ns : List Node) → lo ≤ length ns → Forks first second lo ns (forked first second ns)
fork_made first second lo ns h = go (first == second) refl
  where
    go : (c : Bool) → (first == second) ≡ c → Forks first second lo ns (forked first second ns)
    go true e = subst (λ d. Forks first second lo ns (cond d (built ns first) (pushed (plain (first ∷ second ∷ [])) ns))) (sym e) (stays 0 ns, inl (refl, eqb-true first second e))
    go false e =
        subst (λ d. Forks first second lo ns (cond d (built ns first) (pushed (plain (first ∷ second ∷ [])) ns))) (sym e)
        (stays_pushed 0 (plain (first ∷ second ∷ [])) ns, inr (at_pushed lo (plain (first ∷ second ∷ [])) ns h))

either_laid : (x y : Ops) (w : Ways) (b r s : Built) → Laid b r x w → Laid (built r.nodes b.entry) s y w → Laid b (forked r.entry s.entry s.nodes) (either x y) w
either_laid x y w b r s p q =
    let f = fork_made r.entry s.entry (length b.nodes) s.nodes (omega (arith, p.stay.longer, q.stay.longer)) in
    let all = (forked r.entry s.entry s.nodes).nodes in
    let tail = stays_on 0 r.nodes s.nodes all q.stay f.0 in
    record {
      stay = stays_on 0 b.nodes r.nodes all p.stay tail;
      lays = (
        r.entry,
        s.entry,
        lays_stays (length b.nodes) (length b.nodes) r.nodes all (omega arith) (from_zero (length b.nodes) r.nodes all tail) x w b.entry r.entry p.lays,
        lays_stays (length r.nodes) (length b.nodes) s.nodes all p.stay.longer (from_zero (length r.nodes) s.nodes all f.0) y w b.entry s.entry q.lays,
        f.1,
      );
    }

-- a node below is set
stays_set : (head : ℕ) (nd : Node) (lo : ℕ) (ns : List Node) → head < lo → Stays lo ns (set ns head nd)
stays_set head nd lo ns h = record {
  longer = omega (arith, length-set ns head nd);
  same = λ i x le e. set_other ns head i nd (omega (arith, le, h)) ∙ e;
}

-- a loop: its head was pushed first, and gets its next node last
loop_laid : (x y : Ops) (w : Ways) (b s f : Built) (head : ℕ) → head ≡ length b.nodes
    → Laid (built (b.nodes ++ plain [] ∷ []) head) s y (in_loop w b.entry head) → Laid s f x (in_loop w b.entry s.entry)
    → Laid b (built (set f.nodes head (plain (f.entry ∷ []))) f.entry) (loop x y) w
loop_laid x y w b s f head is q p =
    let nd = plain (f.entry ∷ []) in
    let all = set f.nodes head nd in
    let start = b.nodes ++ plain [] ∷ [] in
    let size : length start ≡ suc head = length-append b.nodes (plain [] ∷ []) ∙ omega (arith, is) in
    let many : length s.nodes ≤ length f.nodes = p.stay.longer in
    let more : length start ≤ length s.nodes = q.stay.longer in
    let second_stays = stays_on (length start) s.nodes f.nodes all (from_zero (length start) s.nodes f.nodes p.stay) (stays_set head nd (length start) f.nodes (omega (arith, size))) in
    record {
      stay = record {
        longer = omega (arith, length-set f.nodes head nd, size, is);
        same = λ i x le e.
            let low : i < length b.nodes = slice_get_within b.nodes i x e in
            set_other f.nodes head i nd (omega (arith, low, is))
            ∙ p.stay.same i x (omega arith) (q.stay.same i x (omega arith) (get_front b.nodes (plain [] ∷ []) i x e));
      };
      lays = (
        head,
        s.entry,
        (omega (arith, is), set_same f.nodes head nd (omega (arith, size))),
        lays_stays (length s.nodes) (length b.nodes) f.nodes all (omega (arith, size, is)) (stays_set head nd (length s.nodes) f.nodes (omega (arith, size))) x (in_loop w b.entry s.entry) s.entry f.entry p.lays,
        lays_stays (length start) (length b.nodes) s.nodes all (omega (arith, size, is)) second_stays y (in_loop w b.entry head) head s.entry q.lays,
      );
    }

scope_laid : (bs : List ℕ) (s : Span) (x : Ops) (w : Ways) (b m r : Built) → Chained b m (ends_at s bs) → Laid m r x (within bs w) → Laid b r (scope bs s x) w
scope_laid bs s x w b m r c p = record {
  stay = stays_on 0 b.nodes m.nodes r.nodes c.stay p.stay;
  lays = (
    m.entry,
    chain_stays (length b.nodes) (length b.nodes) m.nodes r.nodes (omega arith) (from_zero (length b.nodes) m.nodes r.nodes p.stay) (ends_at s bs) b.entry m.entry c.chain,
    lays_stays (length m.nodes) (length b.nodes) r.nodes r.nodes c.stay.longer (stays (length m.nodes) r.nodes) x (within bs w) m.entry r.entry p.lays,
  );
}

return_laid : (s : Span) (w : Ways) (b : Built) → Laid b (lay (return_at s) w b) (return_at s) w
return_laid s w b =
    let x = pushed (leaving s) b.nodes in
    let r = chained (ends_out s w.returning) x in
    let c = chain_made (ends_out s w.returning) x in
    let more = stays_pushed 0 (leaving s) b.nodes in
    record {
      stay = stays_on 0 b.nodes x.nodes r.nodes more c.stay;
      lays = (
        x.entry,
        chain_stays (length x.nodes) (length b.nodes) r.nodes r.nodes more.longer (stays (length x.nodes) r.nodes) (ends_out s w.returning) x.entry r.entry c.chain,
        at_stays (length b.nodes) (length b.nodes) x.nodes r.nodes (omega arith) (from_zero (length b.nodes) x.nodes r.nodes c.stay) x.entry (leaving s) (at_pushed (length b.nodes) (leaving s) b.nodes (omega arith)),
      );
    }

pub laid : (t : Ops) (w : Ways) (b : Built) → Laid b (lay t w b) t w
laid (op o) w b = record { stay = stays_pushed 0 (doing o b.entry) b.nodes; lays = at_pushed (length b.nodes) (doing o b.entry) b.nodes (omega arith) }
laid nothing w b = record { stay = stays 0 b.nodes; lays = refl }
laid (next x y) w b = next_laid x y w b (lay y w b) (lay x w (lay y w b)) (laid y w b) (laid x w (lay y w b))
laid (either x y) w b =
    let r = lay x w b in either_laid x y w b r (lay y w (built r.nodes b.entry)) (laid x w b) (laid y w (built r.nodes b.entry))
laid (loop x y) w b =
    let head = length b.nodes in
    let start = built (b.nodes ++ plain [] ∷ []) head in
    let s = lay y (in_loop w b.entry head) start in
    loop_laid x y w b s (lay x (in_loop w b.entry s.entry) s) head refl (laid y (in_loop w b.entry head) start) (laid x (in_loop w b.entry s.entry) s)
laid (catch x) w b = let r = laid x (in_catch w b.entry) b in record { stay = r.stay; lays = r.lays }
laid (scope bs s x) w b =
    let m = chained (ends_at s bs) b in scope_laid bs s x w b m (lay x (within bs w) m) (chain_made (ends_at s bs) b) (laid x (within bs w) m)
laid (break_at s) w b = let r = chain_made (ends_out s w.breaking.pending) (built b.nodes w.breaking.target) in record { stay = r.stay; lays = r.chain }
laid (continue_at s) w b = let r = chain_made (ends_out s w.continuing.pending) (built b.nodes w.continuing.target) in record { stay = r.stay; lays = r.chain }
laid (return_at s) w b = return_laid s w b
laid halt w b = record { stay = stays_pushed 0 (plain []) b.nodes; lays = at_pushed (length b.nodes) (plain []) b.nodes (omega arith) }

-- the graph of a tree, and its law
pub graph_is : (t : Ops) → IsGraphOf 0 (graph_of t).nodes t (graph_of t).entry
graph_is t =
    let b = pushed (plain []) [] in
    let r = lay t (no_ways 0) b in
    let p = laid t (no_ways 0) b in
    let all = (graph_of t).nodes in
    let more = stays_pushed 0 (plain (r.entry ∷ [])) r.nodes in
    record {
      first = r.entry;
      dead = 0;
      begins = at_pushed 0 (plain (r.entry ∷ [])) r.nodes (omega arith);
      stops = (omega arith, more.same 0 (plain []) (omega arith) (p.stay.same 0 (plain []) (omega arith) refl));
      lays = lays_stays (length b.nodes) 0 r.nodes all (omega arith) (from_zero (length b.nodes) r.nodes all more) t (no_ways 0) 0 r.entry p.lays;
    }

pub graph_law : (t : Ops) → WalksAreTraces 0 (graph_of t).nodes t (graph_of t).entry
graph_law t = walks_are_traces 0 (graph_of t).nodes t (graph_of t).entry (graph_is t)
