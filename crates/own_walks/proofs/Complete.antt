-- Each trace has its walk.
use Rattle.std.proofs.Common.{◌≡◌, ℕ, zero, suc, inl, inr, List, [], ◌∷◌, ◌++◌, refl, sym, subst}
use Rattle.own_tree.specs.declared.graph.Node.{Node}
use Rattle.own_tree.specs.declared.op.Op.{Op}
use Rattle.own_tree.specs.declared.span.Span.{Span}
use Rattle.own_tree.specs.OpSource.{Ops, op, nothing, next, either, loop, catch, scope, break_at, continue_at, return_at, halt}
use Rattle.own_paths.specs.Traces.{Completion, goes_on, breaks, continues, returns, halts, cut, Set, After, Joined, Broken, Turns, caught, IsTrace, ends_at, ends_for}
use Rattle.own_paths.specs.Laws.{IsWhole}
use Rattle.own_walks.specs.Graphs.{plain, doing, Ways, within, in_loop, in_catch, IsAt, Chain, Fork, Lays, Walk, Arrives}
use Rattle.own_paths.proofs.TraceFacts.{first_whole, turn_whole, uncaught}
use Rattle.own_walks.proofs.Steps.{no_op, Stands, early, late, stands, stay, step, both, chain_walk, Found, found_later, chain_found, ended, Led, led, led_after, led_alone}

module _ (lo : ℕ) (ns : List Node) where
  -- ---- whole traces

  after_led : (B : Set) (w : Ways) (n m : ℕ) (how c : Completion) (e : ℕ) (xs ys : List Op)
      → ((zs : List Op) → B zs c → Led lo ns w n c m zs) → Led lo ns w m how e xs → After how B ys c → Led lo ns w n c e (xs ++ ys)
  after_led B w n m goes_on c e xs ys rest l t =
      led_after lo ns w n c e m xs ys (subst (λ x. Walk lo ns e xs x) l.arrives l.walk) (rest ys t)
  after_led B w n m (breaks s) c e xs ys rest l t = led_alone lo ns w n (breaks s) c e xs ys t.0 t.1 (led lo ns w n (breaks s) e xs l.to l.arrives l.walk)
  after_led B w n m (continues s) c e xs ys rest l t = led_alone lo ns w n (continues s) c e xs ys t.0 t.1 (led lo ns w n (continues s) e xs l.to l.arrives l.walk)
  after_led B w n m (returns s) c e xs ys rest l t = led_alone lo ns w n (returns s) c e xs ys t.0 t.1 (led lo ns w n (returns s) e xs l.to l.arrives l.walk)
  after_led B w n m halts c e xs ys rest l t = led_alone lo ns w n halts c e xs ys t.0 t.1 (led lo ns w n halts e xs l.to l.arrives l.walk)
  after_led B w n m cut c e xs ys rest l t = absurd l.arrives

  -- a part of a loop at whose end node m comes next
  broken_led : (B : Set) (w : Ways) (n m : ℕ) (how c : Completion) (e : ℕ) (xs ys : List Op)
      → ((zs : List Op) → B zs c → Led lo ns w n c m zs) → Led lo ns (in_loop w n m) m how e xs → Broken how B ys c → Led lo ns w n c e (xs ++ ys)
  broken_led B w n m goes_on c e xs ys rest l t =
      led_after lo ns w n c e m xs ys (subst (λ x. Walk lo ns e xs x) l.arrives l.walk) (rest ys t)
  broken_led B w n m (continues s) c e xs ys rest l t =
      led_after lo ns w n c e m xs ys (subst (λ x. Walk lo ns e xs x) l.arrives l.walk) (rest ys t)
  broken_led B w n m (breaks s) c e xs ys rest l t = led_alone lo ns w n goes_on c e xs ys t.0 t.1 (led lo ns w n goes_on e xs l.to l.arrives l.walk)
  broken_led B w n m (returns s) c e xs ys rest l t = led_alone lo ns w n (returns s) c e xs ys t.0 t.1 (led lo ns w n (returns s) e xs l.to l.arrives l.walk)
  broken_led B w n m halts c e xs ys rest l t = led_alone lo ns w n halts c e xs ys t.0 t.1 (led lo ns w n halts e xs l.to l.arrives l.walk)
  broken_led B w n m cut c e xs ys rest l t = absurd l.arrives

  abbrev LeadsBy : Set → Ways → ℕ → ℕ → Type 0
  LeadsBy A w n e = (os : List Op) (c : Completion) → IsWhole c → A os c → Led lo ns w n c e os

  module _ (A B : Set) (w : Ways) (n e back second : ℕ) (head : IsAt lo ns back (plain (e ∷ []))) (a : LeadsBy A (in_loop w n second) second e) (b : LeadsBy B (in_loop w n back) back second) where
    turns_led : (j : ℕ) → LeadsBy (Turns A B j) w n e
    turns_led zero os c h t = absurd (subst IsWhole t.1 h)
    turns_led (suc j) os c h t =
        subst (λ l. Led lo ns w n c e l) (sym t.5)
        (broken_led _ w n second t.1 c e t.0 t.2
        (λ zs u.
        subst (λ l. Led lo ns w n c second l) (sym u.5)
        (broken_led _ w n back u.1 c second u.0 u.2 (λ vs v. again vs (turns_led j vs c h v)) (b u.0 u.1 (turn_whole _ u.1 c u.2 h u.4) u.3) u.4))
        (a t.0 t.1 (turn_whole _ t.1 c t.2 h t.4) t.3) t.4)
      where
        again : (vs : List Op) → Led lo ns w n c e vs → Led lo ns w n c back vs
        again vs l = led lo ns w n c back vs l.to l.arrives (step lo ns back (plain (e ∷ [])) e vs l.to head (inl refl) l.walk)

  caught_led : (w : Ways) (n : ℕ) (how : Completion) (e : ℕ) (os : List Op) → Led lo ns (in_catch w n) n how e os → Led lo ns w n (caught how) e os
  caught_led w n goes_on e os l = led lo ns w n goes_on e os l.to l.arrives l.walk
  caught_led w n (breaks s) e os l = led lo ns w n goes_on e os l.to l.arrives l.walk
  caught_led w n (continues s) e os l = led lo ns w n (continues s) e os l.to l.arrives l.walk
  caught_led w n (returns s) e os l = led lo ns w n (returns s) e os l.to l.arrives l.walk
  caught_led w n halts e os l = led lo ns w n halts e os l.to l.arrives l.walk
  caught_led w n cut e os l = absurd l.arrives

  forked_first : (first second e : ℕ) (os : List Op) (x : ℕ) → Fork lo ns first second e → Walk lo ns first os x → Walk lo ns e os x
  forked_first first second e os x (inl i) k = subst (λ y. Walk lo ns y os x) (sym i.0) k
  forked_first first second e os x (inr i) k = step lo ns e (plain (first ∷ second ∷ [])) first os x i (inl refl) k

  forked_second : (first second e : ℕ) (os : List Op) (x : ℕ) → Fork lo ns first second e → Walk lo ns second os x → Walk lo ns e os x
  forked_second first second e os x (inl i) k = subst (λ y. Walk lo ns y os x) (sym i.1) k
  forked_second first second e os x (inr i) k = step lo ns e (plain (first ∷ second ∷ [])) second os x i (inr (inl refl)) k

  -- an only trace
  one : (w : Ways) (n : ℕ) (c c' : Completion) (e : ℕ) (xs os : List Op) (x : ℕ) → os ≡ xs → c' ≡ c → Arrives lo ns w n c x → Walk lo ns e xs x → Led lo ns w n c' e os
  one w n c c' e xs os x is at a k = subst (λ l. Led lo ns w n c' e l) (sym is) (subst (λ y. Led lo ns w n y e xs) (sym at) (led lo ns w n c e xs x a k))

  -- a trace that is not cut leads to where it is completed
  pub leads : (k : ℕ) (t : Ops) (w : Ways) (n e : ℕ) → Lays lo ns t w n e → LeadsBy (IsTrace k t) w n e
  leads k (op o) w n e l os c h t =
      one w n goes_on c e (o ∷ []) os n t.0 t.1 refl (step lo ns e (doing o n) n [] n l (inl refl) (stay lo ns n))
  leads k nothing w n e l os c h t = one w n goes_on c e [] os e t.0 t.1 l (stay lo ns e)
  leads k (next a b) w n e l os c h t =
      subst (λ x. Led lo ns w n c e x) (sym t.5)
      (after_led (IsTrace k b) w n l.0 t.1 c e t.0 t.2 (λ zs u. leads k b w n l.0 l.1 zs c h u) (leads k a w l.0 e l.2 t.0 t.1 (first_whole _ t.1 c t.2 h t.4) t.3) t.4)
  leads k (either a b) w n e l os c h (inl t) =
      let r = leads k a w n l.0 l.2 os c h t in led lo ns w n c e os r.to r.arrives (forked_first l.0 l.1 e os r.to l.4 r.walk)
  leads k (either a b) w n e l os c h (inr t) =
      let r = leads k b w n l.1 l.3 os c h t in led lo ns w n c e os r.to r.arrives (forked_second l.0 l.1 e os r.to l.4 r.walk)
  leads k (loop a b) w n e l os c h t =
      turns_led (IsTrace k a) (IsTrace k b) w n e l.0 l.1 l.2 (leads k a (in_loop w n l.1) l.1 e l.3) (leads k b (in_loop w n l.0) l.0 l.1 l.4) k os c h t
  leads k (catch a) w n e l os c h t =
      subst (λ x. Led lo ns w n x e os) (sym t.2) (caught_led w n t.0 e os (leads k a (in_catch w n) n e l os t.0 (uncaught t.0 (subst IsWhole t.2 h)) t.1))
  leads k (scope bs s a) w n e l os c h t =
      let r = leads k a (within bs w) l.0 e l.2 t.0 c h t.1 in
      let x = ended lo ns bs s w n l.0 c r.to l.1 r.arrives in
      subst (λ y. Led lo ns w n c e y) (sym t.2)
      (led lo ns w n c e (t.0 ++ ends_for bs s c) x.to x.arrives (both lo ns e r.to x.to t.0 (ends_for bs s c) r.walk (chain_walk lo ns (ends_for bs s c) x.to r.to x.ends)))
  leads k (break_at s) w n e l os c h t = one w n (breaks s) c e [] os e t.0 t.1 l (stay lo ns e)
  leads k (continue_at s) w n e l os c h t = one w n (continues s) c e [] os e t.0 t.1 l (stay lo ns e)
  leads k (return_at s) w n e l os c h t = one w n (returns s) c e [] os e t.0 t.1 l (stay lo ns e)
  leads k halt w n e l os c h t = one w n halts c e [] os e t.0 t.1 l (stay lo ns e)

  -- ---- each op of a trace

  abbrev FindsBy : Set → ℕ → Type 0
  FindsBy A e = (os : List Op) (o : Op) (rest : List Op) (c : Completion) → A (os ++ o ∷ rest) c → Found lo ns e os o

  after_found : (B : Set) (w : Ways) (n m : ℕ) (how c : Completion) (e : ℕ) (xs zs : List Op) (o : Op) (rest : List Op)
      → FindsBy B m → (IsWhole how → Led lo ns w m how e xs) → After how B (zs ++ o ∷ rest) c → Found lo ns e (xs ++ zs) o
  after_found B w n m goes_on c e xs zs o rest f l t =
      let r = l tt in found_later lo ns e m xs zs o (subst (λ x. Walk lo ns e xs x) r.arrives r.walk) (f zs o rest c t)
  after_found B w n m (breaks s) c e xs zs o rest f l t = no_op zs rest o t.0
  after_found B w n m (continues s) c e xs zs o rest f l t = no_op zs rest o t.0
  after_found B w n m (returns s) c e xs zs o rest f l t = no_op zs rest o t.0
  after_found B w n m halts c e xs zs o rest f l t = no_op zs rest o t.0
  after_found B w n m cut c e xs zs o rest f l t = no_op zs rest o t.0

  broken_found : (B : Set) (w : Ways) (n m : ℕ) (how c : Completion) (e : ℕ) (xs zs : List Op) (o : Op) (rest : List Op)
      → FindsBy B m → (IsWhole how → Led lo ns (in_loop w n m) m how e xs) → Broken how B (zs ++ o ∷ rest) c → Found lo ns e (xs ++ zs) o
  broken_found B w n m goes_on c e xs zs o rest f l t =
      let r = l tt in found_later lo ns e m xs zs o (subst (λ x. Walk lo ns e xs x) r.arrives r.walk) (f zs o rest c t)
  broken_found B w n m (continues s) c e xs zs o rest f l t =
      let r = l tt in found_later lo ns e m xs zs o (subst (λ x. Walk lo ns e xs x) r.arrives r.walk) (f zs o rest c t)
  broken_found B w n m (breaks s) c e xs zs o rest f l t = no_op zs rest o t.0
  broken_found B w n m (returns s) c e xs zs o rest f l t = no_op zs rest o t.0
  broken_found B w n m halts c e xs zs o rest f l t = no_op zs rest o t.0
  broken_found B w n m cut c e xs zs o rest f l t = no_op zs rest o t.0

  -- in the first part, or in what comes after it
  joined_found : (A : Set) (R : Completion → Set) (e : ℕ) → FindsBy A e
      → ((xs : List Op) (how : Completion) (zs : List Op) (o : Op) (rest : List Op) (c : Completion) → A xs how → R how (zs ++ o ∷ rest) c → Found lo ns e (xs ++ zs) o)
      → FindsBy (Joined A R) e
  joined_found A R e f g os o rest c t = go (stands os o rest t.0 t.2 t.5)
    where
      go : Stands os o rest t.0 t.2 → Found lo ns e os o
      go (early r is at) = f os o r t.1 (subst (λ l. A l t.1) is t.3)
      go (late zs is at) = subst (λ l. Found lo ns e l o) (sym is) (g t.0 t.1 zs o rest c t.3 (subst (λ l. R t.1 l c) at t.4))

  module _ (A B : Set) (w : Ways) (n e back second : ℕ) (head : IsAt lo ns back (plain (e ∷ []))) (a : LeadsBy A (in_loop w n second) second e) (b : LeadsBy B (in_loop w n back) back second) (fa : FindsBy A e) (fb : FindsBy B second) where
    again_found : (T : Set) → FindsBy T e → FindsBy T back
    again_found T f os o rest c t =
        let r = f os o rest c t in record { at = r.at; after = r.after; walk = step lo ns back (plain (e ∷ [])) e os r.at head (inl refl) r.walk; there = r.there }

    turn_found : (j : ℕ) → FindsBy (Turns A B j) back → FindsBy (Turns A B (suc j)) e
    turn_found j later os o rest c t = joined_found A (λ how. Broken how (Joined B (λ how'. Broken how' (Turns A B j)))) e fa in_second os o rest c t
      where
        in_turns : (xs : List Op) (how : Completion) (zs : List Op) (o : Op) (rest : List Op) (c : Completion) → B xs how → Broken how (Turns A B j) (zs ++ o ∷ rest) c → Found lo ns second (xs ++ zs) o
        in_turns xs how zs o rest c tb t = broken_found (Turns A B j) w n back how c second xs zs o rest later (λ h. b xs how h tb) t

        in_second : (xs : List Op) (how : Completion) (zs : List Op) (o : Op) (rest : List Op) (c : Completion) → A xs how → Broken how (Joined B (λ how'. Broken how' (Turns A B j))) (zs ++ o ∷ rest) c → Found lo ns e (xs ++ zs) o
        in_second xs how zs o rest c ta t = broken_found (Joined B (λ how'. Broken how' (Turns A B j))) w n second how c e xs zs o rest (joined_found B (λ how'. Broken how' (Turns A B j)) second fb in_turns) (λ h. a xs how h ta) t

    turns_found : (j : ℕ) → FindsBy (Turns A B j) e
    turns_found zero os o rest c t = no_op os rest o t.0
    turns_found (suc j) os o rest c t = turn_found j (again_found (Turns A B j) (turns_found j)) os o rest c t

  found_by_first : (first second e : ℕ) (os : List Op) (o : Op) → Fork lo ns first second e → Found lo ns first os o → Found lo ns e os o
  found_by_first first second e os o i f = record { at = f.at; after = f.after; walk = forked_first first second e os f.at i f.walk; there = f.there }

  found_by_second : (first second e : ℕ) (os : List Op) (o : Op) → Fork lo ns first second e → Found lo ns second os o → Found lo ns e os o
  found_by_second first second e os o i f = record { at = f.at; after = f.after; walk = forked_second first second e os f.at i f.walk; there = f.there }

  -- an op that is the only one
  found_one : (p : Op) (n e : ℕ) (os : List Op) (o : Op) (rest : List Op) → IsAt lo ns e (doing p n) → os ++ o ∷ rest ≡ p ∷ [] → Found lo ns e os o
  found_one p n e os o rest l is = chain_found lo ns os o rest n e (subst (λ x. Chain lo ns x n e) (sym is) (n, l, refl))

  scope_found : (bs : List ℕ) (s : Span) (w : Ways) (n m : ℕ) (c : Completion) (e : ℕ) (xs zs : List Op) (o : Op) (rest : List Op)
      → Chain lo ns (ends_at s bs) n m → (IsWhole c → Led lo ns (within bs w) m c e xs) → ends_for bs s c ≡ zs ++ o ∷ rest → Found lo ns e (xs ++ zs) o
  scope_found bs s w n m c e xs zs o rest h l is = go c l is
    where
      found : (c : Completion) → Led lo ns (within bs w) m c e xs → ends_for bs s c ≡ zs ++ o ∷ rest → Found lo ns e (xs ++ zs) o
      found c r is =
          let x = ended lo ns bs s w n m c r.to h r.arrives in
          found_later lo ns e r.to xs zs o r.walk (chain_found lo ns zs o rest x.to r.to (subst (λ y. Chain lo ns y x.to r.to) is x.ends))

      go : (c : Completion) → (IsWhole c → Led lo ns (within bs w) m c e xs) → ends_for bs s c ≡ zs ++ o ∷ rest → Found lo ns e (xs ++ zs) o
      go goes_on l is = found goes_on (l tt) is
      go (breaks at) l is = found (breaks at) (l tt) is
      go (continues at) l is = found (continues at) (l tt) is
      go (returns at) l is = found (returns at) (l tt) is
      go halts l is = found halts (l tt) is
      go cut l is = no_op zs rest o (sym is)

  pub finds : (k : ℕ) (t : Ops) (w : Ways) (n e : ℕ) → Lays lo ns t w n e → FindsBy (IsTrace k t) e
  finds k (op p) w n e l os o rest c t = found_one p n e os o rest l t.0
  finds k nothing w n e l os o rest c t = no_op os rest o t.0
  finds k (next a b) w n e l os o rest c t =
      joined_found (IsTrace k a) (λ how. After how (IsTrace k b)) e (finds k a w l.0 e l.2)
      (λ xs how zs p r d ta tb. after_found (IsTrace k b) w n l.0 how d e xs zs p r (finds k b w n l.0 l.1) (λ h. leads k a w l.0 e l.2 xs how h ta) tb) os o rest c t
  finds k (either a b) w n e l os o rest c (inl t) = found_by_first l.0 l.1 e os o l.4 (finds k a w n l.0 l.2 os o rest c t)
  finds k (either a b) w n e l os o rest c (inr t) = found_by_second l.0 l.1 e os o l.4 (finds k b w n l.1 l.3 os o rest c t)
  finds k (loop a b) w n e l os o rest c t =
      turns_found (IsTrace k a) (IsTrace k b) w n e l.0 l.1 l.2 (leads k a (in_loop w n l.1) l.1 e l.3) (leads k b (in_loop w n l.0) l.0 l.1 l.4)
      (finds k a (in_loop w n l.1) l.1 e l.3) (finds k b (in_loop w n l.0) l.0 l.1 l.4) k os o rest c t
  finds k (catch a) w n e l os o rest c t = finds k a (in_catch w n) n e l os o rest t.0 t.1
  finds k (scope bs s a) w n e l os o rest c t = go (stands os o rest t.0 (ends_for bs s c) t.2) (λ r d u. finds k a (within bs w) l.0 e l.2 os o r d u)
    where
      go : Stands os o rest t.0 (ends_for bs s c) → ((r : List Op) (d : Completion) → IsTrace k a (os ++ o ∷ r) d → Found lo ns e os o) → Found lo ns e os o
      go (early r is at) f = f r c (subst (λ x. IsTrace k a x c) is t.1)
      go (late zs is at) f = subst (λ x. Found lo ns e x o) (sym is) (scope_found bs s w n l.0 c e t.0 zs o rest l.1 (λ h. leads k a (within bs w) l.0 e l.2 t.0 c h t.1) at)
  finds k (break_at s) w n e l os o rest c t = no_op os rest o t.0
  finds k (continue_at s) w n e l os o rest c t = no_op os rest o t.0
  finds k (return_at s) w n e l os o rest c t = no_op os rest o t.0
  finds k halt w n e l os o rest c t = no_op os rest o t.0
