-- A place is whole where each leaf that overlaps it is.
use Rattle.std.proofs.Common.{◌≡◌, ℕ, zero, suc, Bool, true, false, List, [], ◌∷◌, Some, None, refl, sym, ap, ◌∙◌, subst, inl, inr}
use Rattle.std.specs.Prelude.{◌⊎◌, ◌&&◌, ◌==◌}
use Rattle.own_runs.specs.Values.{Val, int, bool, unit, hole, struct, variant, Vals, no_vals, val, emptied, all_emptied, is_whole, all_whole, field, found, and_then, child, nth}
use Rattle.own_shapes.specs.Places.{is_prefix}
use Rattle.own_runs.proofs.Parts.{found_same, hollow_found, nowhere_found, through}
use Rattle.own_frames.specs.Leaves.{get, is_open, Leaf, WholeAt, WholeFromLeaves, LeavesAreEmptied}
use Rattle.own_frames.proofs.StoreFacts.{false_true, same_number}

both_true : (a b : Bool) → a && b ≡ true → (a ≡ true) × (b ≡ true)
both_true true b e = (refl, e)
both_true false b e = absurd (false_true (sym e))

true_both : (a b : Bool) → a ≡ true → b ≡ true → a && b ≡ true
true_both true b ea eb = eb
true_both false b ea eb = ea

-- a part of a whole value is whole
nth_whole : (vs : Vals) (k : ℕ) (c : Val) → all_whole vs ≡ true → nth vs k ≡ found c → is_whole c ≡ true
nth_whole no_vals k c w e = absurd (nowhere_found c e)
nth_whole (val v vs) zero c w e =
    subst (λ x. is_whole x ≡ true) (found_same v c e) (both_true (is_whole v) (all_whole vs) w).0
nth_whole (val v vs) (suc k) c w e = nth_whole vs k c (both_true (is_whole v) (all_whole vs) w).1 e

child_whole : (v : Val) (k : ℕ) (c : Val) → is_whole v ≡ true → child v (field k) ≡ found c → is_whole c ≡ true
child_whole (struct t n vs) k c w e = nth_whole vs k c w e
child_whole (variant n vs) k c w e = absurd (nowhere_found c e)
child_whole (int n) k c w e = absurd (nowhere_found c e)
child_whole (bool n) k c w e = absurd (nowhere_found c e)
child_whole unit k c w e = absurd (nowhere_found c e)
child_whole hole k c w e = absurd (hollow_found c e)

pub get_whole : (ks : List ℕ) (v u : Val) → is_whole v ≡ true → get ks v ≡ found u → is_whole u ≡ true
get_whole [] v u w e = subst (λ x. is_whole x ≡ true) (found_same v u e) w
get_whole (k ∷ ks) v u w e =
    let c = through (child v (field k)) (get ks) u e in get_whole ks c.0 u (child_whole v k c.0 w c.1) c.2

at_itself : (v : Val) → WholeAt v [] → is_whole v ≡ true
at_itself v w = subst (λ x. is_whole x ≡ true) (sym (found_same v w.0 w.1)) w.2

at_child : (v c : Val) (k : ℕ) (ks : List ℕ) → child v (field k) ≡ found c → WholeAt v (k ∷ ks) → WholeAt c ks
at_child v c k ks e w = (w.0, ap (λ o. and_then o (get ks)) (sym e) ∙ w.1, w.2)

mutual
  leaves_whole : (v : Val) → ((leaf : List ℕ) → Leaf v leaf → WholeAt v leaf) → is_whole v ≡ true
  leaves_whole (struct t None (val v vs)) h =
      true_both (is_whole v) (all_whole vs)
      (leaves_whole v (λ leaf l. at_child (struct t None (val v vs)) v 0 leaf refl (h (0 ∷ leaf) (refl, (v, refl, l)))))
      (vals_whole vs (λ k c e leaf l. at_child (struct t None (val v vs)) c (suc k) leaf e
      (h (suc k ∷ leaf) (refl, (c, e, l)))))
  leaves_whole (struct t None no_vals) h = refl
  leaves_whole (struct t (Some n) vs) h = at_itself (struct t (Some n) vs) (h [] refl)
  leaves_whole (variant c vs) h = at_itself (variant c vs) (h [] refl)
  leaves_whole (int n) h = refl
  leaves_whole (bool b) h = refl
  leaves_whole unit h = refl
  leaves_whole hole h = at_itself hole (h [] refl)

  vals_whole : (vs : Vals) → ((k : ℕ) (c : Val) → nth vs k ≡ found c → (leaf : List ℕ) → Leaf c leaf → WholeAt c leaf)
      → all_whole vs ≡ true
  vals_whole no_vals h = refl
  vals_whole (val v vs) h =
      true_both (is_whole v) (all_whole vs) (leaves_whole v (h 0 v refl)) (vals_whole vs (λ k c e. h (suc k) c e))

same_step : (k : ℕ) (b : Bool) → b ≡ true → (k == k) && b ≡ true
same_step k b e = true_both (k == k) b (same_number k) e

pub whole_from_leaves : WholeFromLeaves
whole_from_leaves v u [] e h =
    subst (λ x. is_whole x ≡ true) (found_same v u e) (leaves_whole v (λ leaf l. h leaf l (inl refl)))
whole_from_leaves v u (k ∷ ks) e h =
    let c = through (child v (field k)) (get ks) u e in
    go c (is_open v) refl (λ h'. whole_from_leaves c.0 u ks c.2 h')
  where
    over : (leaf : List ℕ) → (is_prefix ks leaf ≡ true) ⊎ (is_prefix leaf ks ≡ true)
        → (is_prefix (k ∷ ks) (k ∷ leaf) ≡ true) ⊎ (is_prefix (k ∷ leaf) (k ∷ ks) ≡ true)
    over leaf (inl p) = inl (same_step k (is_prefix ks leaf) p)
    over leaf (inr p) = inr (same_step k (is_prefix leaf ks) p)

    go : (c : (x : Val) × (child v (field k) ≡ found x) × (get ks x ≡ found u)) → (b : Bool) → is_open v ≡ b
        → (((leaf : List ℕ) → Leaf c.0 leaf → (is_prefix ks leaf ≡ true) ⊎ (is_prefix leaf ks ≡ true)
        → WholeAt c.0 leaf) → is_whole u ≡ true)
        → is_whole u ≡ true
    go c true o rest = rest (λ leaf l p. at_child v c.0 k leaf c.1 (h (k ∷ leaf) (o, (c.0, c.1, l)) (over leaf p)))
    go c false o rest = get_whole (k ∷ ks) v u (at_itself v (h [] o (inr refl))) e

-- ---- what a move leaves

closed_emptied : (v : Val) → is_open v ≡ false → emptied v ≡ hole
closed_emptied (struct t None (val v vs)) e = absurd (false_true e)
closed_emptied (struct t None no_vals) e = refl
closed_emptied (struct t (Some n) vs) e = refl
closed_emptied (variant c vs) e = refl
closed_emptied (int n) e = refl
closed_emptied (bool b) e = refl
closed_emptied unit e = refl
closed_emptied hole e = refl

nth_emptied : (vs : Vals) (k : ℕ) (c : Val) → nth vs k ≡ found c → nth (all_emptied vs) k ≡ found (emptied c)
nth_emptied no_vals k c e = absurd (nowhere_found c e)
nth_emptied (val v vs) zero c e = ap found (ap emptied (found_same v c e))
nth_emptied (val v vs) (suc k) c e = nth_emptied vs k c e

child_emptied : (v : Val) (k : ℕ) (c : Val) → is_open v ≡ true → child v (field k) ≡ found c
    → child (emptied v) (field k) ≡ found (emptied c)
child_emptied (struct t None (val v vs)) k c o e = nth_emptied (val v vs) k c e
child_emptied (struct t None no_vals) k c o e = absurd (false_true (sym o))
child_emptied (struct t (Some n) vs) k c o e = absurd (false_true (sym o))
child_emptied (variant n vs) k c o e = absurd (false_true (sym o))
child_emptied (int n) k c o e = absurd (false_true (sym o))
child_emptied (bool n) k c o e = absurd (false_true (sym o))
child_emptied unit k c o e = absurd (false_true (sym o))
child_emptied hole k c o e = absurd (false_true (sym o))

open_emptied : (v : Val) → is_open v ≡ true → is_open (emptied v) ≡ true
open_emptied (struct t None (val v vs)) o = refl
open_emptied (struct t None no_vals) o = absurd (false_true (sym o))
open_emptied (struct t (Some n) vs) o = absurd (false_true (sym o))
open_emptied (variant n vs) o = absurd (false_true (sym o))
open_emptied (int n) o = absurd (false_true (sym o))
open_emptied (bool n) o = absurd (false_true (sym o))
open_emptied unit o = absurd (false_true (sym o))
open_emptied hole o = absurd (false_true (sym o))

-- each leaf of what was moved is a hole and still a leaf
pub leaves_are_emptied : LeavesAreEmptied
leaves_are_emptied [] v l =
    (ap found (closed_emptied v l), subst (λ x. is_open x ≡ false) (sym (closed_emptied v l)) refl)
leaves_are_emptied (k ∷ p) v l =
    let c = child_emptied v k l.1.0 l.0 l.1.1 in
    let r = leaves_are_emptied p l.1.0 l.1.2 in
    (ap (λ o. and_then o (get p)) c ∙ r.0, (open_emptied v l.0, (emptied l.1.0, c, r.1)))
