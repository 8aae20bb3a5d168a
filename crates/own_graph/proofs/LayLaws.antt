-- Steps of the loops that lay ops, scopes and items.
use Rattle.std.proofs.Common.{◌≡◌, ℕ, suc, ◌+◌, ◌-◌, ◌<◌, ◌≤◌, List, [], ◌∷◌, ◌++◌, length, get_or, take, drop, map, reverse, refl, sym, ap, ◌∙◌, subst, arith, add-one, drop-cons}
use Rattle.std.proofs.lemmas.List.{take_more, reverse-append, drop-append-le}
use Rattle.own_tree.specs.declared.graph.Node.{Node}
use Rattle.own_tree.specs.declared.op.Op.{Op}
use Rattle.own_tree.specs.declared.span.Span.{Span}
use Rattle.own_tree.specs.OpSource.{Ops, in_order}
use Rattle.own_paths.specs.Traces.{end_of, ends_at}
use Rattle.own_paths.proofs.TraceFacts.{append_empty}
use Rattle.own_walks.specs.Building.{Built, built, pushed, chained, lay, graph_of}
use Rattle.own_walks.specs.Graphs.{doing, Ways, ends_out, within, WalksAreTraces}
use Rattle.own_graph.specs.declared.targets.Targets.{Targets}
use Rattle.own_graph.specs.Scopes.{ways_of, AreRound}
use Rattle.own_walks.proofs.Laid.{laid, graph_law}

chained_append : (xs ys : List Op) (b : Built) → chained (xs ++ ys) b ≡ chained xs (chained ys b)
chained_append [] ys b = refl
chained_append (o ∷ xs) ys b = ap (λ (r : Built). pushed (doing o r.entry) r.nodes) (chained_append xs ys b)

-- one binding more
pub ends_more : (s : Span) (bs : List ℕ) (i : ℕ) (b r : Built) → i < length bs → r ≡ pushed (doing (end_of s (get_or bs i 0)) b.entry) b.nodes
    → chained (ends_at s (drop (i + 1) bs)) r ≡ chained (ends_at s (drop i bs)) b
ends_more s bs i b r h is =
    let first : drop i bs ≡ get_or bs i 0 ∷ drop (suc i) bs = drop-cons bs i 0 h in
    let rest : drop (i + 1) bs ≡ drop (suc i) bs = ap (λ k. drop k bs) (add-one i) in
    ap (λ l. chained (ends_at s l) r) rest
    ∙ ap (λ x. chained (ends_at s (drop (suc i) bs)) x) is
    ∙ sym (chained_append (ends_at s (drop (suc i) bs)) (end_of s (get_or bs i 0) ∷ []) b)
    ∙ ap (λ l. chained (ends_at s l) b) (sym first)

out_append : (s : Span) (xs ys : List (List ℕ)) → ends_out s (xs ++ ys) ≡ ends_out s xs ++ ends_out s ys
out_append s [] ys = refl
out_append s (x ∷ xs) ys = ap (λ l. ends_at s x ++ l) (out_append s xs ys) ∙ sym (assoc (ends_at s x) (ends_out s xs) (ends_out s ys))
  where
    assoc : (xs bs cs : List Op) → (xs ++ bs) ++ cs ≡ xs ++ (bs ++ cs)
    assoc [] bs cs = refl
    assoc (a ∷ xs) bs cs = ap (λ l. a ∷ l) (assoc xs bs cs)

-- one scope more
pub scopes_more : (s : Span) (scopes : List (List ℕ)) (i : ℕ) (d : List ℕ) (b r : Built) → i < length scopes → r ≡ chained (ends_at s (get_or scopes i d)) b
    → chained (ends_out s (reverse (drop (i + 1) scopes))) r ≡ chained (ends_out s (reverse (drop i scopes))) b
scopes_more s scopes i d b r h is =
    let x : List ℕ = get_or scopes i d in
    let xs : List (List ℕ) = drop (suc i) scopes in
    let first : drop i scopes ≡ x ∷ xs = drop-cons scopes i d h in
    let rest : drop (i + 1) scopes ≡ xs = ap (λ k. drop k scopes) (add-one i) in
    let last : reverse (x ∷ xs) ≡ reverse xs ++ x ∷ [] = reverse-append (x ∷ []) xs in
    let outs : ends_out s (reverse (x ∷ xs)) ≡ ends_out s (reverse xs) ++ ends_at s x =
    ap (λ l. ends_out s l) last ∙ out_append s (reverse xs) (x ∷ []) ∙ ap (λ l. ends_out s (reverse xs) ++ l) (append_empty (ends_at s x))
    in
    ap (λ l. chained (ends_out s (reverse l)) r) rest
    ∙ ap (λ y. chained (ends_out s (reverse xs)) y) is
    ∙ sym (chained_append (ends_out s (reverse xs)) (ends_at s x) b)
    ∙ ap (λ l. chained l b) (sym outs)
    ∙ ap (λ l. chained (ends_out s (reverse l)) b) (sym first)

lay_last : {A : Type 0} (v : A → Ops) (xs : List A) (x : A) (w : Ways) (b : Built) → lay (in_order (map v (xs ++ x ∷ []))) w b ≡ lay (in_order (map v xs)) w (lay (v x) w b)
lay_last v [] x w b = refl
lay_last v (y ∷ xs) x w b = ap (λ r. lay (v y) w r) (lay_last v xs x w b)

-- one item more, from the last on
pub items_more : {A : Type 0} (v : A → Ops) (items : List A) (w : Ways) (i : ℕ) (d : A) (b r : Built) → 0 < i → i ≤ length items → r ≡ lay (v (get_or items (i - 1) d)) w b
    → lay (in_order (map v (take (i - 1) items))) w r ≡ lay (in_order (map v (take i items))) w b
items_more v items w i d b r some h is =
    let more : take (i - 1 + 1) items ≡ take (i - 1) items ++ get_or items (i - 1) d ∷ [] = take_more items (i - 1) d (omega (arith, some, h)) in
    let same : i - 1 + 1 ≡ i = omega (arith, some) in
    ap (λ y. lay (in_order (map v (take (i - 1) items))) w y) is
    ∙ sym (lay_last v (take (i - 1) items) (get_or items (i - 1) d) w b)
    ∙ ap (λ l. lay (in_order (map v l)) w b) (sym more ∙ ap (λ k. take k items) same)

-- what is laid adds nodes
pub grown : (t : Ops) (w : Ways) (ns ms : List Node) (e n : ℕ) → built ms e ≡ lay t w (built ns n) → length ns ≤ length ms
grown t w ns ms e n is = subst (λ (r : Built). length ns ≤ length r.nodes) (sym is) (laid t w (built ns n)).stay.longer

pub pushed_at : (nd : Node) (ns ms : List Node) (e : ℕ) → built ms e ≡ pushed nd ns → (e ≡ length ns) × (ms ≡ ns ++ nd ∷ [])
pushed_at nd ns ms e is = (ap (λ (r : Built). r.entry) is, ap (λ (r : Built). r.nodes) is)

ways_more : (scopes : List (List ℕ)) (bs : List ℕ) (k : ℕ) → k ≤ length scopes → reverse (drop k (scopes ++ bs ∷ [])) ≡ bs ∷ reverse (drop k scopes)
ways_more scopes bs k h = ap reverse (drop-append-le k scopes (bs ∷ []) h) ∙ reverse-append (drop k scopes) (bs ∷ [])

-- a scope more
pub ways_within : (scopes : List (List ℕ)) (bs : List ℕ) (t : Targets) → AreRound scopes t → ways_of (scopes ++ bs ∷ []) t ≡ within bs (ways_of scopes t)
ways_within scopes bs t h =
    let one = ways_more scopes bs t.break_scopes h.0 in
    let two = ways_more scopes bs t.continue_scopes h.1 in
    let all : reverse (scopes ++ bs ∷ []) ≡ bs ∷ reverse scopes = reverse-append scopes (bs ∷ []) in
    λ i. record { breaking = record { pending = one i; target = t.break_to }; continuing = record { pending = two i; target = t.continue_to }; returning = all i }

-- the walks of what is equal to the graph of the tree
pub graph_walks : (t : Ops) (nodes : List Node) (entry : ℕ) → built nodes entry ≡ graph_of t → WalksAreTraces 0 nodes t entry
graph_walks t nodes entry is = subst (λ (r : Built). WalksAreTraces 0 r.nodes t r.entry) (sym is) (graph_law t)
