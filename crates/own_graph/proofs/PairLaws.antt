-- Turns of the loops over leaves and nodes.
use Rattle.std.proofs.Common.{◌≡◌, ℕ, zero, suc, ◌+◌, ◌≤◌, ◌<◌, Bool, true, false, ◌==◌, ◌&&◌, cond, List, [], ◌∷◌, ◌++◌, length, drop, get_or, slice_get, Some, None, refl, sym, ap, ◌∙◌, arith, append_assoc, eqb-true}
use Rattle.std.proofs.Math.ListN.{drop_of_length-le}
use Rattle.std.proofs.lemmas.Option.{slice_get-get_or, slice_get_within, get_or_from_slice_get}
use Rattle.std.specs.List.Sorted.{IsNonDecreasingBy}
use Rattle.own_tree.specs.declared.graph.Maker.{Maker}
use Rattle.own_tree.specs.declared.graph.Node.{Node}
use Rattle.own_tree.specs.declared.op.Op.{Op}
use Rattle.own_tree.specs.declared.place.Binding.{Binding}
use Rattle.own_tree.specs.declared.place.Place.{Place}
use Rattle.own_shapes.specs.Types.{Types}
use Rattle.own_graph.specs.Makers.{ends_nothing_in}
use Rattle.own_shapes.specs.Places.{covers, is_prefix}
use Rattle.own_leaves.proofs.Declared.{drop_at, nothing_more}
use Rattle.own_walks.specs.Pairs.{lives_by, starts_from, covered_pairs, node_pairs, pairs_from}

-- ---- the starts

pub start_step : (entry : ℕ) (leaves : List Place) (done : List Maker) (k : ℕ) → k < length leaves
    → (done ++ record { node = entry; leaf = k; live = false } ∷ []) ++ starts_from entry (k + 1) (drop (k + 1) leaves) ≡ done ++ starts_from entry k (drop k leaves)
start_step entry leaves done k h =
    let none : Place = record { binding = 0; fields = [] } in
    let next : k + 1 ≡ suc k = omega arith in
    append_assoc done (record { node = entry; leaf = k; live = false } ∷ []) (starts_from entry (k + 1) (drop (k + 1) leaves))
    ∙ ap (λ n. done ++ record { node = entry; leaf = k; live = false } ∷ starts_from entry n (drop (k + 1) leaves)) next
    ∙ ap (λ l. done ++ starts_from entry k l) (sym (drop_at leaves k (get_or leaves k none) (slice_get-get_or leaves k none h)))

pub start_end : (entry : ℕ) (leaves : List Place) (done : List Maker) (k : ℕ) → length leaves ≤ k → done ++ starts_from entry k (drop k leaves) ≡ done
start_end entry leaves done k h = ap (λ l. done ++ starts_from entry k l) (drop_of_length-le leaves h) ∙ nothing_more done

-- ---- the leaves of one op

abbrev pair : ℕ → Op → ℕ → Maker
pair u o l = record { node = u; leaf = l; live = lives_by o }

abbrev pub one : Bool → ℕ → Op → ℕ → List Maker
one true u o l = pair u o l ∷ []
one false u o l = []

covered_first : (u : ℕ) (o : Op) (l : ℕ) (leaf : Place) (leaves : List Place) → covered_pairs u o l (leaf ∷ leaves) ≡ one (covers o.place leaf) u o l ++ covered_pairs u o (suc l) leaves
covered_first u o l leaf leaves = go (covers o.place leaf)
  where
    go : (c : Bool) → cond c (pair u o l ∷ covered_pairs u o (suc l) leaves) (covered_pairs u o (suc l) leaves) ≡ one c u o l ++ covered_pairs u o (suc l) leaves
    go true = refl
    go false = refl

-- one leaf more
pub covered_step : (c : Bool) (u : ℕ) (o : Op) (leaves : List Place) (done : List Maker) (k : ℕ) (leaf : Place) → slice_get leaves k ≡ Some leaf → covers o.place leaf ≡ c
    → (done ++ one c u o k) ++ covered_pairs u o (k + 1) (drop (k + 1) leaves) ≡ done ++ covered_pairs u o k (drop k leaves)
covered_step c u o leaves done k leaf e is =
    let next : k + 1 ≡ suc k = omega arith in
    append_assoc done (one c u o k) (covered_pairs u o (k + 1) (drop (k + 1) leaves))
    ∙ ap (λ l. done ++ l)
    (ap (λ d. one d u o k ++ covered_pairs u o (k + 1) (drop (k + 1) leaves)) (sym is)
    ∙ ap (λ n. one (covers o.place leaf) u o k ++ covered_pairs u o n (drop (k + 1) leaves)) next
    ∙ sym (covered_first u o k leaf (drop (k + 1) leaves))
    ∙ ap (λ l. covered_pairs u o k l) (sym (drop_at leaves k leaf e)))

pub covered_end : (u : ℕ) (o : Op) (leaves : List Place) (done : List Maker) (k : ℕ) → length leaves ≤ k → done ++ covered_pairs u o k (drop k leaves) ≡ done
covered_end u o leaves done k h = ap (λ l. done ++ covered_pairs u o k l) (drop_of_length-le leaves h) ∙ nothing_more done

-- of another binding
not_covered : (o : Op) (p : Place) → (p.binding ≡ o.place.binding → ⊥) → covers o.place p ≡ false
not_covered o p other = go (o.place.binding == p.binding) refl
  where
    go : (c : Bool) → (o.place.binding == p.binding) ≡ c → (c && is_prefix o.place.fields p.fields) ≡ false
    go false e = refl
    go true e = absurd (other (sym (eqb-true o.place.binding p.binding e)))

-- leaves that are not covered are passed over
none_covered : (u : ℕ) (o : Op) (l : ℕ) (leaves : List Place) → ((j : ℕ) (p : Place) → slice_get leaves j ≡ Some p → covers o.place p ≡ false) → covered_pairs u o l leaves ≡ []
none_covered u o l [] h = refl
none_covered u o l (leaf ∷ leaves) h =
    covered_first u o l leaf leaves
    ∙ ap (λ c. one c u o l ++ covered_pairs u o (suc l) leaves) (h 0 leaf refl)
    ∙ none_covered u o (suc l) leaves (λ j p e. h (suc j) p e)

skip : (u : ℕ) (o : Op) (l : ℕ) (leaves : List Place) (n : ℕ) → ((j : ℕ) (p : Place) → j < n → slice_get leaves j ≡ Some p → covers o.place p ≡ false) → covered_pairs u o l leaves ≡ covered_pairs u o (l + n) (drop n leaves)
skip u o l leaves zero h = let same : l ≡ l + 0 = omega arith in ap (λ k. covered_pairs u o k leaves) same
skip u o l [] (suc n) h = refl
skip u o l (leaf ∷ leaves) (suc n) h =
    let first : 0 < suc n = omega arith in
    let same : suc l + n ≡ l + suc n = omega arith in
    covered_first u o l leaf leaves
    ∙ ap (λ c. one c u o l ++ covered_pairs u o (suc l) leaves) (h 0 leaf first refl)
    ∙ skip u o (suc l) leaves n (λ j p lt e. h (suc j) p (omega (arith, lt)) e)
    ∙ ap (λ k. covered_pairs u o k (drop n leaves)) same

nobody : Place
nobody = record { binding = 0; fields = [] }

-- before a place in the order the bindings are smaller than that of the op
pub before_first : (u : ℕ) (o : Op) (leaves : List Place) (first : ℕ) → ((j : ℕ) (d : Place) → j < first → (get_or leaves j d).binding < o.place.binding)
    → covered_pairs u o 0 leaves ≡ covered_pairs u o first (drop first leaves)
before_first u o leaves first h =
    let same : 0 + first ≡ first = omega arith in
    skip u o 0 leaves first (λ j p lt e. not_covered o p (λ is.
    let low = h j nobody lt in
    let read = ap (λ (q : Place). q.binding) (get_or_from_slice_get leaves j p nobody e) in
    omega (arith, low, read, is)))
    ∙ ap (λ k. covered_pairs u o k (drop first leaves)) same

get_drop : (leaves : List Place) (k j : ℕ) → slice_get (drop k leaves) j ≡ slice_get leaves (k + j)
get_drop leaves zero j = let same : j ≡ 0 + j = omega arith in ap (λ n. slice_get leaves n) same
get_drop [] (suc k) j = refl
get_drop (leaf ∷ leaves) (suc k) j = let same : suc (k + j) ≡ suc k + j = omega arith in get_drop leaves k j ∙ ap (λ n. slice_get (leaf ∷ leaves) n) same

-- and from a leaf of a larger binding on they are larger
pub after_last : (u : ℕ) (o : Op) (leaves : List Place) (done : List Maker) (k : ℕ) (d : Place) → IsNonDecreasingBy (λ leaf. leaf.binding) leaves → k < length leaves
    → o.place.binding < (get_or leaves k d).binding → done ++ covered_pairs u o k (drop k leaves) ≡ done
after_last u o leaves done k d sorted within high =
    ap (λ l. done ++ l) (none_covered u o k (drop k leaves) (λ j p e. not_covered o p (λ is.
    let at : slice_get leaves (k + j) ≡ Some p = sym (get_drop leaves k j) ∙ e in
    let lt = slice_get_within leaves (k + j) p at in
    let rises = sorted k (k + j) d (omega arith) lt in
    let read = ap (λ (q : Place). q.binding) (get_or_from_slice_get leaves (k + j) p d at) in
    omega (arith, rises, read, high, is))))
    ∙ nothing_more done

-- ---- nodes

-- by whether the op makes, ends or declares what it covers
pub node_none : (ends_nothing : Op → Bool) (leaves : List Place) (u : ℕ) (done : List Maker) → done ≡ done ++ node_pairs ends_nothing leaves u None
node_none ends_nothing leaves u done = sym (nothing_more done)

pub node_step : (ends_nothing : Op → Bool) (leaves : List Place) (nodes : List Node) (done more : List Maker) (k : ℕ) (n : Node) → slice_get nodes k ≡ Some n → more ≡ done ++ node_pairs ends_nothing leaves k n.op
    → more ++ pairs_from ends_nothing leaves (k + 1) (drop (k + 1) nodes) ≡ done ++ pairs_from ends_nothing leaves k (drop k nodes)
node_step ends_nothing leaves nodes done more k n e is =
    let next : k + 1 ≡ suc k = omega arith in
    ap (λ l. l ++ pairs_from ends_nothing leaves (k + 1) (drop (k + 1) nodes)) is
    ∙ append_assoc done (node_pairs ends_nothing leaves k n.op) (pairs_from ends_nothing leaves (k + 1) (drop (k + 1) nodes))
    ∙ ap (λ m. done ++ (node_pairs ends_nothing leaves k n.op ++ pairs_from ends_nothing leaves m (drop (k + 1) nodes))) next
    ∙ ap (λ l. done ++ pairs_from ends_nothing leaves k l) (sym (drop_at nodes k n e))

pub node_end : (ends_nothing : Op → Bool) (leaves : List Place) (nodes : List Node) (done : List Maker) (k : ℕ) → length nodes ≤ k → done ++ pairs_from ends_nothing leaves k (drop k nodes) ≡ done
node_end ends_nothing leaves nodes done k h = ap (λ l. done ++ pairs_from ends_nothing leaves k l) (drop_of_length-le nodes h) ∙ nothing_more done

-- the whole list, by its parts
pub all_pairs : (types : Types) (bindings bs : List Binding) (body entry : ℕ) (nodes ns : List Node) (front back leaves : List Place) (none starts all : List Maker)
    → none ≡ [] → starts ≡ none ++ starts_from entry 0 front → all ≡ starts ++ pairs_from (ends_nothing_in types bindings body) back 0 nodes
    → front ≡ leaves → back ≡ leaves → nodes ≡ ns → bindings ≡ bs → all ≡ starts_from entry 0 leaves ++ pairs_from (ends_nothing_in types bs body) leaves 0 ns
all_pairs types bindings bs body entry nodes ns front back leaves none starts all empty begun ended f b n s =
    ended
    ∙ ap (λ l. l ++ pairs_from (ends_nothing_in types bindings body) back 0 nodes) (begun ∙ ap (λ l. l ++ starts_from entry 0 front) empty ∙ ap (λ l. starts_from entry 0 l) f)
    ∙ ap (λ l. starts_from entry 0 leaves ++ pairs_from (ends_nothing_in types bindings body) l 0 nodes) b
    ∙ ap (λ l. starts_from entry 0 leaves ++ pairs_from (ends_nothing_in types bindings body) leaves 0 l) n
    ∙ ap (λ l. starts_from entry 0 leaves ++ pairs_from (ends_nothing_in types l body) leaves 0 ns) s
