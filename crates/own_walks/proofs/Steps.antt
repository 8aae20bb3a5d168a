-- Walks one after another, and chains of ops.
use Rattle.std.proofs.Common.{◌≡◌, ℕ, zero, suc, ◌≤◌, inl, inr, List, [], ◌∷◌, ◌++◌, slice_get, Some, refl, sym, ap, ◌∙◌, subst, arith, append_assoc}
use Rattle.own_tree.specs.declared.graph.Node.{Node}
use Rattle.own_tree.specs.declared.op.Op.{Op}
use Rattle.own_tree.specs.declared.span.Span.{Span}
use Rattle.own_paths.specs.Traces.{Completion, goes_on, breaks, continues, returns, halts, cut, ends_at, ends_for}
use Rattle.own_walks.specs.Graphs.{doing, ops_at, IsNext, Ways, ends_out, within, IsAt, Chain, Goes, Walk, Arrives}
use Rattle.own_paths.proofs.TraceFacts.{append_empty}

-- ---- lists that are split in two ways

pub no_op : {A : Type 0} (os rest : List Op) (o : Op) → os ++ o ∷ rest ≡ [] → A
no_op [] rest o e = cc
no_op (x ∷ os) rest o e = cc

-- where an op of two lists stands
pub data Stands (os : List Op) (o : Op) (rest xs ys : List Op) : Type 0 where
  early : (r : List Op) → xs ≡ os ++ o ∷ r → rest ≡ r ++ ys → Stands os o rest xs ys
  late : (zs : List Op) → os ≡ xs ++ zs → ys ≡ zs ++ o ∷ rest → Stands os o rest xs ys

stands_more : (x : Op) (os : List Op) (o : Op) (rest xs ys : List Op) → Stands os o rest xs ys → Stands (x ∷ os) o rest (x ∷ xs) ys
stands_more x os o rest xs ys (early r e f) = early r (ap (λ l. x ∷ l) e) f
stands_more x os o rest xs ys (late zs e f) = late zs (ap (λ l. x ∷ l) e) f

abbrev head_of : Op → List Op → Op
head_of o [] = o
head_of o (x ∷ xs) = x

abbrev tail_of : List Op → List Op
tail_of [] = []
tail_of (x ∷ xs) = xs

pub stands : (os : List Op) (o : Op) (rest xs ys : List Op) → os ++ o ∷ rest ≡ xs ++ ys → Stands os o rest xs ys
stands os o rest [] ys e = late os refl (sym e)
stands [] o rest (x ∷ xs) ys e =
    early xs (let h : x ≡ o = sym (ap (head_of o) e) in ap (λ (y : Op). y ∷ xs) h) (ap tail_of e)
stands (y ∷ os) o rest (x ∷ xs) ys e =
    subst (λ (z : Op). Stands (z ∷ os) o rest (x ∷ xs) ys) (sym (ap (head_of o) e)) (stands_more x os o rest xs ys (stands os o rest xs ys (ap tail_of e)))

module _ (lo : ℕ) (ns : List Node) where
  -- ---- single nodes

  some_of : (x y : Node) → Some x ≡ Some y → x ≡ y
  some_of x y e = cc

  pub the_node : (e : ℕ) (nd n : Node) → IsAt lo ns e nd → slice_get ns e ≡ Some n → n ≡ nd
  the_node e nd n i h = some_of n nd (sym h ∙ i.1)

  -- what a walk does first
  pub record First (nd : Node) (j : ℕ) (os : List Op) (v : ℕ) : Type 0 where
    pub to : ℕ
    pub rest : List Op
    pub goes_to : IsNext nd.next to
    pub ops : os ≡ ops_at nd.op ++ rest
    pub then : Goes lo ns j to rest v

  pub first : (e : ℕ) (nd : Node) (j : ℕ) (os : List Op) (v : ℕ) → IsAt lo ns e nd → Goes lo ns (suc j) e os v → First nd j os v
  first e nd j os v i g =
      let is = the_node e nd g.0 i g.3 in
      record {
        to = g.1;
        rest = g.2;
        goes_to = subst (λ (x : Node). IsNext x.next g.1) is g.4;
        ops = subst (λ (x : Node). os ≡ ops_at x.op ++ g.2) is g.5;
        then = g.6;
      }

  -- ---- walks

  pub stay : (u : ℕ) → Walk lo ns u [] u
  stay u = (0, (refl, refl))

  pub step : (e : ℕ) (nd : Node) (m : ℕ) (os : List Op) (v : ℕ) → IsAt lo ns e nd → IsNext nd.next m → Walk lo ns m os v → Walk lo ns e (ops_at nd.op ++ os) v
  step e nd m os v i h w = (suc w.0, (nd, m, os, i.1, h, refl, w.1))

  more_steps : (i j : ℕ) (u m v : ℕ) (xs ys : List Op) → Goes lo ns i u xs m → Goes lo ns j m ys v → Walk lo ns u (xs ++ ys) v
  more_steps zero j u m v xs ys g h =
      subst (λ l. Walk lo ns u (l ++ ys) v) (sym g.1) (subst (λ x. Walk lo ns x ys v) (sym g.0) (j, h))
  more_steps (suc i) j u m v xs ys g h =
      let r = more_steps i j g.1 m v g.2 ys g.6 h in
      (suc r.0, (g.0, g.1, g.2 ++ ys, g.3, g.4, (ap (λ l. l ++ ys) g.5 ∙ append_assoc (ops_at g.0.op) g.2 ys), r.1))

  pub both : (u m v : ℕ) (xs ys : List Op) → Walk lo ns u xs m → Walk lo ns m ys v → Walk lo ns u (xs ++ ys) v
  both u m v xs ys g h = more_steps g.0 h.0 u m v xs ys g.1 h.1

  -- ---- chains

  pub chain_walk : (os : List Op) (to e : ℕ) → Chain lo ns os to e → Walk lo ns e os to
  chain_walk [] to e c = subst (λ x. Walk lo ns e [] x) c (stay e)
  chain_walk (o ∷ os) to e c = step e (doing o c.0) c.0 os to c.1 (inl refl) (chain_walk os to c.0 c.2)

  pub record Split (xs ys : List Op) (to e : ℕ) : Type 0 where
    pub middle : ℕ
    pub front : Chain lo ns xs middle e
    pub back : Chain lo ns ys to middle

  pub split : (xs ys : List Op) (to e : ℕ) → Chain lo ns (xs ++ ys) to e → Split xs ys to e
  split [] ys to e c = record { middle = e; front = refl; back = c }
  split (x ∷ xs) ys to e c =
      let r = split xs ys to c.0 c.2 in
      record { middle = r.middle; front = (c.0, c.1, r.front); back = r.back }

  -- the node of an op, and a walk to it
  pub record Found (e : ℕ) (os : List Op) (o : Op) : Type 0 where
    pub at : ℕ
    pub after : ℕ
    pub walk : Walk lo ns e os at
    pub there : IsAt lo ns at (doing o after)

  pub found_later : (u m : ℕ) (xs ys : List Op) (o : Op) → Walk lo ns u xs m → Found m ys o → Found u (xs ++ ys) o
  found_later u m xs ys o w f = record { at = f.at; after = f.after; walk = both u m f.at xs ys w f.walk; there = f.there }

  pub chain_found : (zs : List Op) (o : Op) (rest : List Op) (to e : ℕ) → Chain lo ns (zs ++ o ∷ rest) to e → Found e zs o
  chain_found [] o rest to e c = record { at = e; after = c.0; walk = stay e; there = c.1 }
  chain_found (z ∷ zs) o rest to e c =
      let f = chain_found zs o rest to c.0 c.2 in
      record { at = f.at; after = f.after; walk = step e (doing z c.0) c.0 zs f.at c.1 (inl refl) f.walk; there = f.there }

  -- a walk from the begin of a chain ends in it, or goes on behind it
  pub data Along (zs : List Op) (to : ℕ) (i : ℕ) (ys : List Op) (v : ℕ) : Type 0 where
    inside : (o : Op) (after : ℕ) (rest : List Op) → zs ≡ ys ++ o ∷ rest → IsAt lo ns v (doing o after) → Along zs to i ys v
    behind : (k : ℕ) (rest : List Op) → k ≤ i → ys ≡ zs ++ rest → Goes lo ns k to rest v → Along zs to i ys v

  along_more : (z : Op) (zs : List Op) (to i : ℕ) (ys ys' : List Op) (v : ℕ) → ys' ≡ z ∷ ys → Along zs to i ys v → Along (z ∷ zs) to (suc i) ys' v
  along_more z zs to i ys ys' v e (inside o after rest is at) = inside o after rest (ap (λ l. z ∷ l) is ∙ sym (ap (λ l. l ++ o ∷ rest) e)) at
  along_more z zs to i ys ys' v e (behind k rest le is g) = behind k rest (omega (arith, le)) (e ∙ ap (λ l. z ∷ l) is) g

  pub along : (zs : List Op) (to e i : ℕ) (ys : List Op) (v : ℕ) → Chain lo ns zs to e → Goes lo ns i e ys v → Along zs to i ys v
  along [] to e i ys v c g = behind i ys (omega arith) refl (subst (λ x. Goes lo ns i x ys v) c g)
  along (z ∷ zs) to e zero ys v c g =
      inside z c.0 zs (sym (ap (λ l. l ++ z ∷ zs) g.1)) (subst (λ x. IsAt lo ns x (doing z c.0)) g.0 c.1)
  along (z ∷ zs) to e (suc i) ys v c g =
      let f = first e (doing z c.0) i ys v c.1 g in
      along_more z zs to i f.rest ys v f.ops (along zs to c.0 i f.rest v c.2 (go f))
    where
      go : (f : First (doing z c.0) i ys v) → Goes lo ns i c.0 f.rest v
      go f = here f.to f.goes_to f.then
        where
          here : (m : ℕ) → IsNext (c.0 ∷ []) m → Goes lo ns i m f.rest v → Goes lo ns i c.0 f.rest v
          here m (inl e) g = subst (λ x. Goes lo ns i x f.rest v) e g
          here m (inr e) g = absurd e

  -- ---- where a completed trace leads

  -- out of a scope: its Ends, and then as from outside
  pub record Ended (bs : List ℕ) (s : Span) (w : Ways) (n : ℕ) (c : Completion) (x : ℕ) : Type 0 where
    pub to : ℕ
    pub ends : Chain lo ns (ends_for bs s c) to x
    pub arrives : Arrives lo ns w n c to

  pub ended : (bs : List ℕ) (s : Span) (w : Ways) (n m : ℕ) (c : Completion) (x : ℕ) → Chain lo ns (ends_at s bs) n m → Arrives lo ns (within bs w) m c x → Ended bs s w n c x
  ended bs s w n m goes_on x h a = record { to = n; ends = subst (λ y. Chain lo ns (ends_at s bs) n y) (sym a) h; arrives = refl }
  ended bs s w n m (breaks at) x h a =
      let r = split (ends_at at bs) (ends_out at w.breaking.pending) w.breaking.target x a in
      record { to = r.middle; ends = r.front; arrives = r.back }
  ended bs s w n m (continues at) x h a =
      let r = split (ends_at at bs) (ends_out at w.continuing.pending) w.continuing.target x a in
      record { to = r.middle; ends = r.front; arrives = r.back }
  ended bs s w n m (returns at) x h a =
      let r = split (ends_at at bs) (ends_out at w.returning) a.0 x a.1 in
      record { to = r.middle; ends = r.front; arrives = (a.0, r.back, a.2) }
  ended bs s w n m halts x h a = record { to = x; ends = refl; arrives = a }
  ended bs s w n m cut x h a = absurd a

  -- a walk to where a completed trace leads
  pub record Led (w : Ways) (n : ℕ) (c : Completion) (e : ℕ) (os : List Op) : Type 0 where
    pub to : ℕ
    pub arrives : Arrives lo ns w n c to
    pub walk : Walk lo ns e os to

  pub led : (w : Ways) (n : ℕ) (c : Completion) (e : ℕ) (os : List Op) (x : ℕ) → Arrives lo ns w n c x → Walk lo ns e os x → Led w n c e os
  led w n c e os x a k = record { to = x; arrives = a; walk = k }

  pub led_after : (w : Ways) (n : ℕ) (c : Completion) (u m : ℕ) (xs ys : List Op) → Walk lo ns u xs m → Led w n c m ys → Led w n c u (xs ++ ys)
  led_after w n c u m xs ys k l = led w n c u (xs ++ ys) l.to l.arrives (both u m l.to xs ys k l.walk)

  -- nothing comes after it
  pub led_alone : (w : Ways) (n : ℕ) (c c' : Completion) (e : ℕ) (xs ys : List Op) → ys ≡ [] → c' ≡ c → Led w n c e xs → Led w n c' e (xs ++ ys)
  led_alone w n c c' e xs ys empty is l =
      subst (λ k. Led w n k e (xs ++ ys)) (sym is) (subst (λ l. Led w n c e l) (sym (ap (λ l. xs ++ l) empty ∙ append_empty xs)) l)
