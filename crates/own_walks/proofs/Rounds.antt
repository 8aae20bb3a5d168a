-- Each walk round a loop has its trace, and the law of walks and traces.
use Rattle.std.proofs.Common.{◌≡◌, ℕ, zero, suc, ◌≤◌, max, ◌⊎◌, inl, inr, List, [], ◌∷◌, ◌++◌, refl, sym, ap, ◌∙◌, subst, arith, append_assoc}
use Rattle.own_tree.specs.declared.graph.Node.{Node}
use Rattle.own_tree.specs.declared.op.Op.{Op}
use Rattle.own_tree.specs.OpSource.{Ops, op, nothing, next, either, loop, catch, scope, break_at, continue_at, return_at, halt}
use Rattle.own_paths.specs.Traces.{Completion, goes_on, breaks, continues, returns, halts, cut, Set, Joined, Broken, Turns, IsTrace}
use Rattle.own_paths.specs.Laws.{IsWhole}
use Rattle.own_walks.specs.Graphs.{plain, ops_at, IsNext, Ways, in_loop, IsAt, Lays, Goes, Arrives}
use Rattle.own_paths.proofs.TraceFacts.{Some_of, append_empty, more_turns, longer_trace, some_trace, some_turns, some_broken, some_joined, turns_within, longer_turns}
use Rattle.own_walks.proofs.Steps.{First, first}
use Rattle.own_walks.proofs.Sound.{Goes_on, goes, raised, joined_first, joined_second, Inside, Left, Sound, arrived_whole, at_once, at_plain, op_sound, next_sound, either_sound, catch_sound, scope_sound}

-- a completion after which a loop goes on
abbrev Onward : Completion → Type 0
Onward goes_on = Unit {0}
Onward (continues s) = Unit {0}
Onward (breaks s) = ⊥
Onward (returns s) = ⊥
Onward halts = ⊥
Onward cut = ⊥

onward : (how : Completion) → Onward how → (R : Set) (os : List Op) (c : Completion) → R os c → Broken how R os c
onward goes_on h R os c t = t
onward (continues s) h R os c t = t
onward (breaks s) h R os c t = absurd h
onward (returns s) h R os c t = absurd h
onward halts h R os c t = absurd h
onward cut h R os c t = absurd h

onward_whole : (how : Completion) → Onward how → IsWhole how
onward_whole goes_on h = tt
onward_whole (continues s) h = tt
onward_whole (breaks s) h = tt
onward_whole (returns s) h = tt
onward_whole halts h = tt
onward_whole cut h = h

goes_broken : (how : Completion) → Onward how → (R : Set) (os : List Op) → Goes_on R os → Goes_on (Broken how R) os
goes_broken how h R os g = goes (Broken how R) os g.rest g.end (onward how h R (os ++ g.rest) g.end g.trace)

-- the turns of a loop, with more of them, and more in each
raised_turns : (a b : Ops) (k k' j : ℕ) (os : List Op) → k ≤ k' → k ≤ j → Goes_on (IsTrace k (loop a b)) os → Goes_on (Turns (IsTrace k' a) (IsTrace k' b) j) os
raised_turns a b k k' j os le le' g = go g.rest g.end g.trace
  where
    whole : (rest : List Op) (c : Completion) → IsWhole c → IsTrace k (loop a b) (os ++ rest) c → Goes_on (Turns (IsTrace k' a) (IsTrace k' b) j) os
    whole rest c w h =
        goes (Turns (IsTrace k' a) (IsTrace k' b) j) os rest c
        (turns_within (IsTrace k a) (IsTrace k' a) (IsTrace k b) (IsTrace k' b) (more_turns k k' le a) (more_turns k k' le b) k j le' (os ++ rest) c w h)

    go : (rest : List Op) (c : Completion) → IsTrace k (loop a b) (os ++ rest) c → Goes_on (Turns (IsTrace k' a) (IsTrace k' b) j) os
    go rest goes_on h = whole rest goes_on tt h
    go rest (breaks s) h = whole rest (breaks s) tt h
    go rest (continues s) h = whole rest (continues s) tt h
    go rest (returns s) h = whole rest (returns s) tt h
    go rest halts h = whole rest halts tt h
    go rest cut h =
        let r =
        longer_turns (IsTrace k a) (IsTrace k' a) (IsTrace k b) (IsTrace k' b) (more_turns k k' le a) (longer_trace k k' le a) (more_turns k k' le b) (longer_trace k k' le b)
        (some_trace k' a) (some_trace k' b) k j le' (os ++ rest) h
        in goes (Turns (IsTrace k' a) (IsTrace k' b) j) os (rest ++ r.0) r.1 (subst (λ l. Turns (IsTrace k' a) (IsTrace k' b) j l r.1) (append_assoc os rest r.0) r.2)

-- what comes after the first part of a turn, and after the second, with suc q turns of each loop
abbrev second_of : Ops → Ops → ℕ → Completion → Set
second_of a b q how = Broken how (Turns (IsTrace (suc q) a) (IsTrace (suc q) b) q)

abbrev first_of : Ops → Ops → ℕ → Completion → Set
first_of a b q how = Broken how (Joined (IsTrace (suc q) b) (second_of a b q))

some_second : (a b : Ops) (q : ℕ) (how : Completion) → Some_of (second_of a b q how)
some_second a b q how = some_broken _ (some_turns (IsTrace (suc q) a) (IsTrace (suc q) b) (some_trace (suc q) a) (some_trace (suc q) b) q) how

some_first : (a b : Ops) (q : ℕ) (how : Completion) → Some_of (first_of a b q how)
some_first a b q how = some_broken _ (some_joined (IsTrace (suc q) b) (second_of a b q) (some_trace (suc q) b) (some_second a b q)) how

module _ (lo : ℕ) (ns : List Node) where
  arrived_onward : (w : Ways) (n m : ℕ) (how : Completion) (x : ℕ) → Onward how → Arrives lo ns (in_loop w n m) m how x → x ≡ m
  arrived_onward w n m goes_on x h a = a
  arrived_onward w n m (continues s) x h a = a
  arrived_onward w n m (breaks s) x h a = absurd h
  arrived_onward w n m (returns s) x h a = absurd h
  arrived_onward w n m halts x h a = absurd h
  arrived_onward w n m cut x h a = absurd h

  module _ (a b : Ops) (sa : Sound lo ns a) (sb : Sound lo ns b) (w : Ways) (n e back second : ℕ) (head : IsAt lo ns back (plain (e ∷ [])))
      (la : Lays lo ns a (in_loop w n second) second e) (lb : Lays lo ns b (in_loop w n back) back second) where
    abbrev Result : List Op → ℕ → ℕ → Type 0
    Result os v j = Inside lo ns (loop a b) os v ⊎ Left lo ns (loop a b) w n os v j

    -- after a turn that goes on
    turned : (k1 k2 : ℕ) (xs ys : List Op) (how how' : Completion) → IsTrace k1 a xs how → Onward how → IsTrace k2 b ys how' → Onward how'
        → (os zs : List Op) (v i j : ℕ) → os ≡ xs ++ (ys ++ zs) → i ≤ j → Result zs v i → Result os v j
    turned k1 k2 xs ys how how' ta on tb on' os zs v i j is le (inl r) =
        let q = max (max k1 k2) r.turns in
        let z = ops_at r.node.op in
        let third = raised_turns a b r.turns (suc q) q (zs ++ z) (omega arith) (omega arith) r.goes in
        let later = joined_second (IsTrace (suc q) b) (second_of a b q) ys (zs ++ z) how' (more_turns k2 (suc q) (omega arith) b ys how' (onward_whole how' on') tb)
        (goes_broken how' on' (Turns (IsTrace (suc q) a) (IsTrace (suc q) b) q) (zs ++ z) third) in
        let all = joined_second (IsTrace (suc q) a) (first_of a b q) xs (ys ++ (zs ++ z)) how (more_turns k1 (suc q) (omega arith) a xs how (onward_whole how on) ta)
        (goes_broken how on (Joined (IsTrace (suc q) b) (second_of a b q)) (ys ++ (zs ++ z)) later) in
        inl (record {
          turns = suc q;
          node = r.node;
          there = r.there;
          stays = r.stays;
          goes = subst (λ l. Goes_on (IsTrace (suc q) (loop a b)) l)
              (ap (λ l. xs ++ l) (sym (append_assoc ys zs z)) ∙ sym (append_assoc xs (ys ++ zs) z) ∙ ap (λ l. l ++ z) (sym is)) all;
        })
    turned k1 k2 xs ys how how' ta on tb on' os zs v i j is le (inr r) =
        let q = max (max k1 k2) r.turns in
        let third = turns_within (IsTrace r.turns a) (IsTrace (suc q) a) (IsTrace r.turns b) (IsTrace (suc q) b) (more_turns r.turns (suc q) (omega arith) a) (more_turns r.turns (suc q) (omega arith) b)
        r.turns q (omega arith) r.front r.end (arrived_whole lo ns w n r.end r.to r.arrives) r.trace in
        let later : Joined (IsTrace (suc q) b) (second_of a b q) (ys ++ r.front) r.end =
        (ys, how', r.front, more_turns k2 (suc q) (omega arith) b ys how' (onward_whole how' on') tb, onward how' on' (Turns (IsTrace (suc q) a) (IsTrace (suc q) b) q) r.front r.end third, refl) in
        inr (record {
          turns = suc q;
          front = xs ++ (ys ++ r.front);
          end = r.end;
          trace = (xs, how, ys ++ r.front, more_turns k1 (suc q) (omega arith) a xs how (onward_whole how on) ta, onward how on (Joined (IsTrace (suc q) b) (second_of a b q)) (ys ++ r.front) r.end later, refl);
          to = r.to;
          arrives = r.arrives;
          steps = r.steps;
          fewer = omega (arith, r.fewer, le);
          back = r.back;
          walk = r.walk;
          ops = is ∙ ap (λ l. xs ++ (ys ++ l)) r.ops ∙ ap (λ l. xs ++ l) (sym (append_assoc ys r.front r.back)) ∙ sym (append_assoc xs (ys ++ r.front) r.back);
        })

    -- the second part of a turn ends
    second_ended : (k : ℕ) (xs : List Op) (how : Completion) → IsTrace k a xs how → Onward how → (os ys : List Op) (v i j : ℕ) → os ≡ xs ++ ys → i ≤ j
        → ((s : ℕ) → s ≤ i → (zs : List Op) → Goes lo ns s back zs v → Result zs v s) → Left lo ns b (in_loop w n back) back ys v i → Result os v j
    second_ended k xs how ta on os ys v i j is le later l = go l.end l.trace l.arrives
      where
        on_again : (how' : Completion) → Onward how' → IsTrace l.turns b l.front how' → Arrives lo ns (in_loop w n back) back how' l.to → Result os v j
        on_again how' on' tb h =
            turned k l.turns xs l.front how how' ta on tb on' os l.back v l.steps j (is ∙ ap (λ l'. xs ++ l') l.ops) (omega (arith, l.fewer, le))
            (later l.steps l.fewer l.back (subst (λ x. Goes lo ns l.steps x l.back v) (arrived_onward w n back how' l.to on' h) l.walk))

        out : (how' c : Completion) → IsWhole how' → IsTrace l.turns b l.front how' → ((q : ℕ) → second_of a b q how' [] c) → Arrives lo ns w n c l.to → Result os v j
        out how' c h tb stop at =
            let q = max k l.turns in
            let part : Joined (IsTrace (suc q) b) (second_of a b q) l.front c = (l.front, how', [], more_turns l.turns (suc q) (omega arith) b l.front how' h tb, stop q, sym (append_empty l.front)) in
            inr (record {
              turns = suc q;
              front = xs ++ l.front;
              end = c;
              trace = (xs, how, l.front, more_turns k (suc q) (omega arith) a xs how (onward_whole how on) ta, onward how on (Joined (IsTrace (suc q) b) (second_of a b q)) l.front c part, refl);
              to = l.to;
              arrives = at;
              steps = l.steps;
              fewer = omega (arith, l.fewer, le);
              back = l.back;
              walk = l.walk;
              ops = is ∙ ap (λ l'. xs ++ l') l.ops ∙ sym (append_assoc xs l.front l.back);
            })

        go : (how' : Completion) → IsTrace l.turns b l.front how' → Arrives lo ns (in_loop w n back) back how' l.to → Result os v j
        go goes_on tb h = on_again goes_on tt tb h
        go (continues s) tb h = on_again (continues s) tt tb h
        go (breaks s) tb h = out (breaks s) goes_on tt tb (λ q. (refl, refl)) h
        go (returns s) tb h = out (returns s) (returns s) tt tb (λ q. (refl, refl)) h
        go halts tb h = out halts halts tt tb (λ q. (refl, refl)) h
        go cut tb h = absurd h

    -- the walk ends in the second part
    in_second : (k : ℕ) (xs : List Op) (how : Completion) → IsTrace k a xs how → Onward how → (os ys : List Op) (v : ℕ) → os ≡ xs ++ ys → Inside lo ns b ys v → Inside lo ns (loop a b) os v
    in_second k xs how ta on os ys v is r =
        let q = max k r.turns in
        let z = ops_at r.node.op in
        let later = joined_first (IsTrace (suc q) b) (second_of a b q) (ys ++ z) (some_second a b q) (raised r.turns (suc q) b (ys ++ z) (omega arith) r.goes) in
        let all = joined_second (IsTrace (suc q) a) (first_of a b q) xs (ys ++ z) how (more_turns k (suc q) (omega arith) a xs how (onward_whole how on) ta)
        (goes_broken how on (Joined (IsTrace (suc q) b) (second_of a b q)) (ys ++ z) later) in
        record {
          turns = suc q;
          node = r.node;
          there = r.there;
          stays = r.stays;
          goes = subst (λ l. Goes_on (IsTrace (suc q) (loop a b)) l) (sym (append_assoc xs ys z) ∙ ap (λ l. l ++ z) (sym is)) all;
        }

    -- the first part of a turn ends
    first_ended : (os : List Op) (v i j : ℕ) → i ≤ j → ((s : ℕ) → s ≤ i → (zs : List Op) → Goes lo ns s back zs v → Result zs v s) → Left lo ns a (in_loop w n second) second os v i → Result os v j
    first_ended os v i j le later l = go l.end l.trace l.arrives
      where
        cases : (how : Completion) → Onward how → IsTrace l.turns a l.front how → Inside lo ns b l.back v ⊎ Left lo ns b (in_loop w n back) back l.back v l.steps → Result os v j
        cases how on ta (inl r) = inl (in_second l.turns l.front how ta on os l.back v l.ops r)
        cases how on ta (inr r) = second_ended l.turns l.front how ta on os l.back v l.steps j l.ops (omega (arith, l.fewer, le)) (λ s h zs g. later s (omega (arith, h, l.fewer)) zs g) r

        goes_second : (how : Completion) → Onward how → IsTrace l.turns a l.front how → Arrives lo ns (in_loop w n second) second how l.to → Result os v j
        goes_second how on ta h =
            cases how on ta (sb (in_loop w n back) back second l.steps l.back v lb (subst (λ x. Goes lo ns l.steps x l.back v) (arrived_onward w n second how l.to on h) l.walk))

        out : (how c : Completion) → IsWhole how → IsTrace l.turns a l.front how → ((q : ℕ) → first_of a b q how [] c) → Arrives lo ns w n c l.to → Result os v j
        out how c h ta stop at =
            inr (record {
              turns = suc l.turns;
              front = l.front;
              end = c;
              trace = (l.front, how, [], more_turns l.turns (suc l.turns) (omega arith) a l.front how h ta, stop l.turns, sym (append_empty l.front));
              to = l.to;
              arrives = at;
              steps = l.steps;
              fewer = omega (arith, l.fewer, le);
              back = l.back;
              walk = l.walk;
              ops = l.ops;
            })

        go : (how : Completion) → IsTrace l.turns a l.front how → Arrives lo ns (in_loop w n second) second how l.to → Result os v j
        go goes_on ta h = goes_second goes_on tt ta h
        go (continues s) ta h = goes_second (continues s) tt ta h
        go (breaks s) ta h = out (breaks s) goes_on tt ta (λ q. (refl, refl)) h
        go (returns s) ta h = out (returns s) (returns s) tt ta (λ q. (refl, refl)) h
        go halts ta h = out halts halts tt ta (λ q. (refl, refl)) h
        go cut ta h = absurd h

    turn : (j : ℕ) (os : List Op) (v : ℕ) → Goes lo ns j e os v → ((s : ℕ) → s ≤ j → (zs : List Op) → Goes lo ns s back zs v → Result zs v s) → Result os v j
    turn j os v g later = cases (sa (in_loop w n second) second e j os v la g)
      where
        cases : Inside lo ns a os v ⊎ Left lo ns a (in_loop w n second) second os v j → Result os v j
        cases (inl r) =
            inl (record {
              turns = suc r.turns;
              node = r.node;
              there = r.there;
              stays = r.stays;
              goes = joined_first (IsTrace (suc r.turns) a) (first_of a b r.turns) (os ++ ops_at r.node.op) (some_first a b r.turns) (raised r.turns (suc r.turns) a (os ++ ops_at r.node.op) (omega arith) r.goes);
            })
        cases (inr r) = first_ended os v j j (omega arith) later r

    more : (i j : ℕ) (os : List Op) (v : ℕ) → i ≤ j → Result os v i → Result os v j
    more i j os v le (inl r) = inl r
    more i j os v le (inr r) =
        inr (record { turns = r.turns; front = r.front; end = r.end; trace = r.trace; to = r.to; arrives = r.arrives; steps = r.steps; fewer = omega (arith, le, r.fewer); back = r.back; walk = r.walk; ops = r.ops })

    -- at the node that leads back to the begin
    at_back : (s v : ℕ) → ((i : ℕ) → suc i ≤ s → (zs : List Op) → Goes lo ns i e zs v → Result zs v i) → (zs : List Op) → Goes lo ns s back zs v → Result zs v s
    at_back zero v deeper zs g = inl (at_plain lo ns (loop a b) (e ∷ []) back zs v head g.0 g.1)
    at_back (suc s) v deeper zs g = more s (suc s) zs v (omega arith) (deeper s (omega arith) zs (begin f.to f.goes_to (subst (λ l. Goes lo ns s f.to l v) (sym f.ops) f.then)))
      where
        f : First lo ns (plain (e ∷ [])) s zs v
        f = first lo ns back (plain (e ∷ [])) s zs v head g

        begin : (m : ℕ) → IsNext (e ∷ []) m → Goes lo ns s m zs v → Goes lo ns s e zs v
        begin m (inl is) g = subst (λ x. Goes lo ns s x zs v) is g
        begin m (inr is) g = absurd is

    rounds : (f j : ℕ) → j ≤ f → (os : List Op) (v : ℕ) → Goes lo ns j e os v → Result os v j
    rounds zero j le os v g = turn j os v g (λ s h zs g'. at_back s v (λ i lt zs' g''. absurd (omega (arith, le, h, lt))) zs g')
    rounds (suc f) j le os v g = turn j os v g (λ s h zs g'. at_back s v (λ i lt zs' g''. rounds f i (omega (arith, le, h, lt)) zs' v g'') zs g')

  loop_sound : (a b : Ops) → Sound lo ns a → Sound lo ns b → Sound lo ns (loop a b)
  loop_sound a b sa sb w n e j os v l g = rounds a b sa sb w n e l.0 l.1 l.2 l.3 l.4 j j (omega arith) os v g

  -- every walk that begins where a tree begins
  pub sound : (t : Ops) → Sound lo ns t
  sound (op o) = op_sound lo ns o
  sound nothing = λ w n e j os v l g. inr (at_once lo ns nothing w n e j os v goes_on (refl, refl) l g)
  sound (next a b) = next_sound lo ns a b (sound a) (sound b)
  sound (either a b) = either_sound lo ns a b (sound a) (sound b)
  sound (loop a b) = loop_sound a b (sound a) (sound b)
  sound (catch a) = catch_sound lo ns a (sound a)
  sound (scope bs s a) = scope_sound lo ns bs s a (sound a)
  sound (break_at s) = λ w n e j os v l g. inr (at_once lo ns (break_at s) w n e j os v (breaks s) (refl, refl) l g)
  sound (continue_at s) = λ w n e j os v l g. inr (at_once lo ns (continue_at s) w n e j os v (continues s) (refl, refl) l g)
  sound (return_at s) = λ w n e j os v l g. inr (at_once lo ns (return_at s) w n e j os v (returns s) (refl, refl) l g)
  sound halt = λ w n e j os v l g. inr (at_once lo ns halt w n e j os v halts (refl, refl) l g)
