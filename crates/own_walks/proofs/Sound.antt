-- Each walk has its trace.
use Rattle.std.proofs.Common.{◌≡◌, ℕ, zero, suc, ◌≤◌, max, ◌⊎◌, inl, inr, List, [], ◌∷◌, ◌++◌, slice_get, Some, None, refl, sym, ap, ◌∙◌, subst, arith, append_assoc}
use Rattle.own_tree.specs.declared.graph.Node.{Node}
use Rattle.own_tree.specs.declared.op.Op.{Op}
use Rattle.own_tree.specs.declared.span.Span.{Span}
use Rattle.own_tree.specs.OpSource.{Ops, op, next, either, catch, scope}
use Rattle.own_paths.specs.Traces.{Completion, goes_on, breaks, continues, returns, halts, cut, Set, After, Joined, caught, IsTrace, ends_for}
use Rattle.own_paths.specs.Laws.{IsWhole}
use Rattle.own_walks.specs.Graphs.{plain, doing, ops_at, IsNext, Ways, within, in_catch, IsAt, Fork, Lays, Goes, Arrives}
use Rattle.own_paths.proofs.TraceFacts.{Some_of, append_empty, more_turns, longer_trace, some_trace, some_later}
use Rattle.own_walks.proofs.Steps.{First, first, Along, inside, behind, along, Ended, ended}

-- ---- what traces make of prefixes

-- the list goes on in some trace
pub record Goes_on (A : Set) (os : List Op) : Type 0 where
  pub rest : List Op
  pub end : Completion
  pub trace : A (os ++ rest) end

pub goes : (A : Set) (os rest : List Op) (c : Completion) → A (os ++ rest) c → Goes_on A os
goes A os rest c t = record { rest = rest; end = c; trace = t }

-- with more turns too
pub raised : (k k' : ℕ) (t : Ops) (os : List Op) → k ≤ k' → Goes_on (IsTrace k t) os → Goes_on (IsTrace k' t) os
raised k k' t os le g = go g.rest g.end g.trace
  where
    go : (rest : List Op) (c : Completion) → IsTrace k t (os ++ rest) c → Goes_on (IsTrace k' t) os
    go rest goes_on h = goes (IsTrace k' t) os rest goes_on (more_turns k k' le t (os ++ rest) goes_on tt h)
    go rest (breaks s) h = goes (IsTrace k' t) os rest (breaks s) (more_turns k k' le t (os ++ rest) (breaks s) tt h)
    go rest (continues s) h = goes (IsTrace k' t) os rest (continues s) (more_turns k k' le t (os ++ rest) (continues s) tt h)
    go rest (returns s) h = goes (IsTrace k' t) os rest (returns s) (more_turns k k' le t (os ++ rest) (returns s) tt h)
    go rest halts h = goes (IsTrace k' t) os rest halts (more_turns k k' le t (os ++ rest) halts tt h)
    go rest cut h =
        let r = longer_trace k k' le t (os ++ rest) h in
        goes (IsTrace k' t) os (rest ++ r.0) r.1 (subst (λ l. IsTrace k' t l r.1) (append_assoc os rest r.0) r.2)

-- the first part of two
pub joined_first : (A : Set) (R : Completion → Set) (os : List Op) → ((how : Completion) → Some_of (R how)) → Goes_on A os → Goes_on (Joined A R) os
joined_first A R os more g =
    let r = more g.end in
    goes (Joined A R) os (g.rest ++ r.0) r.1 (os ++ g.rest, g.end, r.0, g.trace, r.2, sym (append_assoc os g.rest r.0))

-- the second part
pub joined_second : (A : Set) (R : Completion → Set) (xs ys : List Op) (how : Completion) → A xs how → Goes_on (R how) ys → Goes_on (Joined A R) (xs ++ ys)
joined_second A R xs ys how t g =
    goes (Joined A R) (xs ++ ys) g.rest g.end (xs, how, ys ++ g.rest, t, g.trace, append_assoc xs ys g.rest)

module _ (lo : ℕ) (ns : List Node) where
  -- ---- walks

  -- the walk ends within the tree, at no exit
  pub record Inside (t : Ops) (os : List Op) (v : ℕ) : Type 0 where
    pub turns : ℕ
    pub node : Node
    pub there : slice_get ns v ≡ Some node
    pub stays : node.exit ≡ None
    pub goes : Goes_on (IsTrace turns t) (os ++ ops_at node.op)

  -- the walk leaves the tree, where a trace of it is completed, and goes on from there
  pub record Left (t : Ops) (w : Ways) (n : ℕ) (os : List Op) (v j : ℕ) : Type 0 where
    pub turns : ℕ
    pub front : List Op
    pub end : Completion
    pub trace : IsTrace turns t front end
    pub to : ℕ
    pub arrives : Arrives lo ns w n end to
    pub steps : ℕ
    pub fewer : steps ≤ j
    pub back : List Op
    pub walk : Goes lo ns steps to back v
    pub ops : os ≡ front ++ back

  abbrev pub Sound : Ops → Type 0
  Sound t = (w : Ways) (n e j : ℕ) (os : List Op) (v : ℕ) → Lays lo ns t w n e → Goes lo ns j e os v → Inside t os v ⊎ Left t w n os v j

  -- what is not cut arrives
  pub arrived_whole : (w : Ways) (n : ℕ) (c : Completion) (x : ℕ) → Arrives lo ns w n c x → IsWhole c
  arrived_whole w n goes_on x a = tt
  arrived_whole w n (breaks s) x a = tt
  arrived_whole w n (continues s) x a = tt
  arrived_whole w n (returns s) x a = tt
  arrived_whole w n halts x a = tt
  arrived_whole w n cut x a = a

  -- a tree that is left at once
  pub at_once : (t : Ops) (w : Ways) (n e j : ℕ) (os : List Op) (v : ℕ) (c : Completion) → IsTrace 0 t [] c → Arrives lo ns w n c e → Goes lo ns j e os v → Left t w n os v j
  at_once t w n e j os v c h a g = record { turns = 0; front = []; end = c; trace = h; to = e; arrives = a; steps = j; fewer = omega arith; back = os; walk = g; ops = refl }

  -- at a node without op
  pub at_plain : (t : Ops) (ms : List ℕ) (e : ℕ) (os : List Op) (v : ℕ) → IsAt lo ns e (plain ms) → e ≡ v → os ≡ [] → Inside t os v
  at_plain t ms e os v i at is =
      let some = some_trace 0 t in
      record {
        turns = 0;
        node = plain ms;
        there = subst (λ x. slice_get ns x ≡ Some (plain ms)) at i.1;
        stays = refl;
        goes = subst (λ l. Goes_on (IsTrace 0 t) (l ++ [])) (sym is) (goes (IsTrace 0 t) ([] ++ []) some.0 some.1 some.2);
      }

  -- ---- one op

  pub op_sound : (o : Op) → Sound (op o)
  op_sound o w n e zero os v l g =
      inl (record {
        turns = 0;
        node = doing o n;
        there = subst (λ x. slice_get ns x ≡ Some (doing o n)) g.0 l.1;
        stays = refl;
        goes = subst (λ l. Goes_on (IsTrace 0 (op o)) (l ++ o ∷ [])) (sym g.1) (goes (IsTrace 0 (op o)) ([] ++ o ∷ []) [] goes_on (refl, refl));
      })
  op_sound o w n e (suc j) os v l g = inr (go (first lo ns e (doing o n) j os v l g))
    where
      to : (m : ℕ) (rest : List Op) → IsNext (n ∷ []) m → Goes lo ns j m rest v → Goes lo ns j n rest v
      to m rest (inl e) g = subst (λ x. Goes lo ns j x rest v) e g
      to m rest (inr e) g = absurd e

      go : First lo ns (doing o n) j os v → Left (op o) w n os v (suc j)
      go f = record { turns = 0; front = o ∷ []; end = goes_on; trace = (refl, refl); to = n; arrives = refl; steps = j; fewer = omega arith; back = f.rest; walk = to f.to f.rest f.goes_to f.then; ops = f.ops }

  -- ---- one after another

  next_inside : (a b : Ops) (os : List Op) (v : ℕ) → Inside a os v → Inside (next a b) os v
  next_inside a b os v i = record {
    turns = i.turns;
    node = i.node;
    there = i.there;
    stays = i.stays;
    goes = joined_first (IsTrace i.turns a) (λ how. After how (IsTrace i.turns b)) (os ++ ops_at i.node.op) (some_later i.turns b) i.goes;
  }

  -- where the first part has gone on
  next_second : (a b : Ops) (w : Ways) (n : ℕ) (k : ℕ) (xs ys os : List Op) (v i j : ℕ) → IsTrace k a xs goes_on → os ≡ xs ++ ys → i ≤ j → Inside b ys v ⊎ Left b w n ys v i → Inside (next a b) os v ⊎ Left (next a b) w n os v j
  next_second a b w n k xs ys os v i j t is le (inl r) =
      let most = max k r.turns in
      inl (record {
        turns = most;
        node = r.node;
        there = r.there;
        stays = r.stays;
        goes = subst (λ l. Goes_on (IsTrace most (next a b)) l) (sym (append_assoc xs ys (ops_at r.node.op)) ∙ ap (λ l. l ++ ops_at r.node.op) (sym is))
            (joined_second (IsTrace most a) (λ how. After how (IsTrace most b)) xs (ys ++ ops_at r.node.op) goes_on
            (more_turns k most (omega arith) a xs goes_on tt t) (raised r.turns most b (ys ++ ops_at r.node.op) (omega arith) r.goes));
      })
  next_second a b w n k xs ys os v i j t is le (inr r) =
      let most = max k r.turns in
      inr (record {
        turns = most;
        front = xs ++ r.front;
        end = r.end;
        trace = (xs, goes_on, r.front, more_turns k most (omega arith) a xs goes_on tt t, more_turns r.turns most (omega arith) b r.front r.end (arrived_whole w n r.end r.to r.arrives) r.trace, refl);
        to = r.to;
        arrives = r.arrives;
        steps = r.steps;
        fewer = omega (arith, r.fewer);
        back = r.back;
        walk = r.walk;
        ops = is ∙ ap (λ l. xs ++ l) r.ops ∙ sym (append_assoc xs r.front r.back);
      })

  -- where it has ended otherwise
  next_ended : (a b : Ops) (w : Ways) (n m : ℕ) (os : List Op) (v j : ℕ) → Sound b → Lays lo ns b w n m → Left a w m os v j → Inside (next a b) os v ⊎ Left (next a b) w n os v j
  next_ended a b w n m os v j sb lb l = go l.end l.trace l.arrives
    where
      -- the same, with nothing of the second part
      same : (c : Completion) → IsTrace l.turns (next a b) l.front c → Arrives lo ns w n c l.to → Left (next a b) w n os v j
      same c t h = record { turns = l.turns; front = l.front; end = c; trace = t; to = l.to; arrives = h; steps = l.steps; fewer = l.fewer; back = l.back; walk = l.walk; ops = l.ops }

      go : (c : Completion) → IsTrace l.turns a l.front c → Arrives lo ns w m c l.to → Inside (next a b) os v ⊎ Left (next a b) w n os v j
      go goes_on t h =
          next_second a b w n l.turns l.front l.back os v l.steps j t l.ops l.fewer
          (sb w n m l.steps l.back v lb (subst (λ x. Goes lo ns l.steps x l.back v) h l.walk))
      go (breaks s) t h = inr (same (breaks s) (l.front, breaks s, [], t, (refl, refl), sym (append_empty l.front)) h)
      go (continues s) t h = inr (same (continues s) (l.front, continues s, [], t, (refl, refl), sym (append_empty l.front)) h)
      go (returns s) t h = inr (same (returns s) (l.front, returns s, [], t, (refl, refl), sym (append_empty l.front)) h)
      go halts t h = inr (same halts (l.front, halts, [], t, (refl, refl), sym (append_empty l.front)) h)
      go cut t h = absurd h

  pub next_sound : (a b : Ops) → Sound a → Sound b → Sound (next a b)
  next_sound a b sa sb w n e j os v l g = go (sa w l.0 e j os v l.2 g)
    where
      go : Inside a os v ⊎ Left a w l.0 os v j → Inside (next a b) os v ⊎ Left (next a b) w n os v j
      go (inl i) = inl (next_inside a b os v i)
      go (inr r) = next_ended a b w n l.0 os v j sb l.1 r

  -- ---- one of two

  either_first : (a b : Ops) (w : Ways) (n : ℕ) (os : List Op) (v i j : ℕ) → i ≤ j → Inside a os v ⊎ Left a w n os v i → Inside (either a b) os v ⊎ Left (either a b) w n os v j
  either_first a b w n os v i j le (inl r) =
      inl (record { turns = r.turns; node = r.node; there = r.there; stays = r.stays; goes = goes (IsTrace r.turns (either a b)) (os ++ ops_at r.node.op) r.goes.rest r.goes.end (inl r.goes.trace) })
  either_first a b w n os v i j le (inr r) =
      inr (record { turns = r.turns; front = r.front; end = r.end; trace = inl r.trace; to = r.to; arrives = r.arrives; steps = r.steps; fewer = omega (arith, r.fewer); back = r.back; walk = r.walk; ops = r.ops })

  either_second : (a b : Ops) (w : Ways) (n : ℕ) (os : List Op) (v i j : ℕ) → i ≤ j → Inside b os v ⊎ Left b w n os v i → Inside (either a b) os v ⊎ Left (either a b) w n os v j
  either_second a b w n os v i j le (inl r) =
      inl (record { turns = r.turns; node = r.node; there = r.there; stays = r.stays; goes = goes (IsTrace r.turns (either a b)) (os ++ ops_at r.node.op) r.goes.rest r.goes.end (inr r.goes.trace) })
  either_second a b w n os v i j le (inr r) =
      inr (record { turns = r.turns; front = r.front; end = r.end; trace = inr r.trace; to = r.to; arrives = r.arrives; steps = r.steps; fewer = omega (arith, r.fewer); back = r.back; walk = r.walk; ops = r.ops })

  pub either_sound : (a b : Ops) → Sound a → Sound b → Sound (either a b)
  either_sound a b sa sb w n e j os v l g = go j l.4 g
    where
      at_fork : (i : ℕ) (m : ℕ) (rest : List Op) → os ≡ rest → IsNext (l.0 ∷ l.1 ∷ []) m → Goes lo ns i m rest v → Inside (either a b) os v ⊎ Left (either a b) w n os v (suc i)
      at_fork i m rest is (inl e) g = either_first a b w n os v i (suc i) (omega arith) (sa w n l.0 i os v l.2 (subst (λ x. Goes lo ns i x os v) e (subst (λ y. Goes lo ns i m y v) (sym is) g)))
      at_fork i m rest is (inr (inl e)) g = either_second a b w n os v i (suc i) (omega arith) (sb w n l.1 i os v l.3 (subst (λ x. Goes lo ns i x os v) e (subst (λ y. Goes lo ns i m y v) (sym is) g)))
      at_fork i m rest is (inr (inr e)) g = absurd e

      go : (j : ℕ) → Fork lo ns l.0 l.1 e → Goes lo ns j e os v → Inside (either a b) os v ⊎ Left (either a b) w n os v j
      go j (inl i) g = either_first a b w n os v j j (omega arith) (sa w n l.0 j os v l.2 (subst (λ x. Goes lo ns j x os v) i.0 g))
      go zero (inr i) g = inl (at_plain (either a b) (l.0 ∷ l.1 ∷ []) e os v i g.0 g.1)
      go (suc j) (inr i) g = let f = first lo ns e (plain (l.0 ∷ l.1 ∷ [])) j os v i g in at_fork j f.to f.rest f.ops f.goes_to f.then

  -- ---- `switch`

  pub catch_sound : (a : Ops) → Sound a → Sound (catch a)
  catch_sound a sa w n e j os v l g = go (sa (in_catch w n) n e j os v l g)
    where
      left : (c : Completion) (r : Left a (in_catch w n) n os v j) → IsTrace r.turns a r.front c → Arrives lo ns (in_catch w n) n c r.to → Left (catch a) w n os v j
      left goes_on r t h = record { turns = r.turns; front = r.front; end = goes_on; trace = (goes_on, t, refl); to = r.to; arrives = h; steps = r.steps; fewer = r.fewer; back = r.back; walk = r.walk; ops = r.ops }
      left (breaks s) r t h = record { turns = r.turns; front = r.front; end = goes_on; trace = (breaks s, t, refl); to = r.to; arrives = h; steps = r.steps; fewer = r.fewer; back = r.back; walk = r.walk; ops = r.ops }
      left (continues s) r t h = record { turns = r.turns; front = r.front; end = continues s; trace = (continues s, t, refl); to = r.to; arrives = h; steps = r.steps; fewer = r.fewer; back = r.back; walk = r.walk; ops = r.ops }
      left (returns s) r t h = record { turns = r.turns; front = r.front; end = returns s; trace = (returns s, t, refl); to = r.to; arrives = h; steps = r.steps; fewer = r.fewer; back = r.back; walk = r.walk; ops = r.ops }
      left halts r t h = record { turns = r.turns; front = r.front; end = halts; trace = (halts, t, refl); to = r.to; arrives = h; steps = r.steps; fewer = r.fewer; back = r.back; walk = r.walk; ops = r.ops }
      left cut r t h = absurd h

      go : Inside a os v ⊎ Left a (in_catch w n) n os v j → Inside (catch a) os v ⊎ Left (catch a) w n os v j
      go (inl r) =
          inl (record { turns = r.turns; node = r.node; there = r.there; stays = r.stays; goes = goes (IsTrace r.turns (catch a)) (os ++ ops_at r.node.op) r.goes.rest (caught r.goes.end) (r.goes.end, r.goes.trace, refl) })
      go (inr r) = inr (left r.end r r.trace r.arrives)

  -- ---- scopes

  pub scope_sound : (bs : List ℕ) (s : Span) (a : Ops) → Sound a → Sound (scope bs s a)
  scope_sound bs s a sa w n e j os v l g = go (sa (within bs w) l.0 e j os v l.2 g)
    where
      past : (r : Left a (within bs w) l.0 os v j) (x : Ended lo ns bs s w n r.end r.to) → Along lo ns (ends_for bs s r.end) x.to r.steps r.back v → Inside (scope bs s a) os v ⊎ Left (scope bs s a) w n os v j
      past r x (inside o after rest is at) =
          inl (record {
            turns = r.turns;
            node = doing o after;
            there = at.1;
            stays = refl;
            goes = goes (IsTrace r.turns (scope bs s a)) (os ++ o ∷ []) rest r.end (
              r.front,
              r.trace,
              append_assoc os (o ∷ []) rest ∙ ap (λ l. l ++ o ∷ rest) r.ops ∙ append_assoc r.front r.back (o ∷ rest) ∙ ap (λ l. r.front ++ l) (sym is),
            );
          })
      past r x (behind k rest le is g') =
          inr (record {
            turns = r.turns;
            front = r.front ++ ends_for bs s r.end;
            end = r.end;
            trace = (r.front, r.trace, refl);
            to = x.to;
            arrives = x.arrives;
            steps = k;
            fewer = omega (arith, le, r.fewer);
            back = rest;
            walk = g';
            ops = r.ops ∙ ap (λ l. r.front ++ l) is ∙ sym (append_assoc r.front (ends_for bs s r.end) rest);
          })

      go : Inside a os v ⊎ Left a (within bs w) l.0 os v j → Inside (scope bs s a) os v ⊎ Left (scope bs s a) w n os v j
      go (inl r) =
          inl (record {
            turns = r.turns;
            node = r.node;
            there = r.there;
            stays = r.stays;
            goes = goes (IsTrace r.turns (scope bs s a)) (os ++ ops_at r.node.op) (r.goes.rest ++ ends_for bs s r.goes.end) r.goes.end
                ((os ++ ops_at r.node.op) ++ r.goes.rest, r.goes.trace, sym (append_assoc (os ++ ops_at r.node.op) r.goes.rest (ends_for bs s r.goes.end)));
          })
      go (inr r) =
          let x = ended lo ns bs s w n l.0 r.end r.to l.1 r.arrives in
          past r x (along lo ns (ends_for bs s r.end) x.to r.to r.steps r.back v x.ends r.walk)
