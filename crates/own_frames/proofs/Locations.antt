-- What is seen at a place is what a look at it gives, and a place where something is seen can be written.
use Rattle.std.proofs.Common.{◌≡◌, ℕ, zero, suc, Bool, true, false, List, [], ◌∷◌, Option, Some, None, refl, ap, ◌∙◌}
use Rattle.std.specs.Prelude.{◌==◌, if◌then◌else◌, slice_get, slice_set}
use Rattle.own_runs.specs.Store.{Root, binding, temporary, result, Location, Slot, absent, holds, refers, runs, Activation, State, own_value, root_value, or_found, with_root, set_activation, peek}
use Rattle.own_runs.specs.Values.{Val, int, bool, unit, struct, variant, hole, Vals, no_vals, val, Part, field, payload, Found, found, hollow, nowhere, and_then, nth, with_nth, child, with_child, value_at, with_value_at}
use Rattle.own_ways.specs.Ways.{gives, after, ◌>>=◌, or_stray}
use Rattle.own_frames.specs.Frame.{slot_seen, root_seen, seen_at, seen}
use Rattle.own_runs.proofs.Parts.{hollow_found, nowhere_found, writes_are_read}
use Rattle.own_frames.specs.Writes.{Wrote}
use Rattle.own_frames.proofs.StoreFacts.{same_number, get_set_same}

-- ---- looks

pub peek_is : (l : Location) (st : State) (v : Val) → seen st.store l ≡ found v → peek l st ≡ gives v st
peek_is l st v e = go (slice_get st.store l.activation) e
  where
    of_slot : (s : Slot) → slot_seen l.parts s ≡ found v
        → after (own_value s st) (λ w. or_found (value_at l.parts w)) ≡ gives v st
    of_slot absent e' = absurd (nowhere_found v e')
    of_slot (holds w) e' = rw e' refl
    of_slot (refers k) e' = absurd (nowhere_found v e')
    of_slot (runs k m) e' = absurd (nowhere_found v e')

    at_root_ : (r : Root) (act : Activation) → root_seen r l.parts act ≡ found v
        → after (root_value r act st) (λ w. or_found (value_at l.parts w)) ≡ gives v st
    at_root_ (binding x) act e' = of_slot (act.slots x) e'
    at_root_ (temporary n) act e' = rw e' refl
    at_root_ result act e' = rw e' refl

    go : (o : Option Activation) → seen_at l o ≡ found v
        → after (after (or_stray o st) (root_value l.root)) (λ w. or_found (value_at l.parts w)) ≡ gives v st
    go None e' = absurd (nowhere_found v e')
    go (Some act) e' = at_root_ l.root act e'

-- ---- a place that is there can be written

with_nth_there : (vs : Vals) (k : ℕ) (new u : Val) → nth vs k ≡ found u → (all : Vals) × (with_nth vs k new ≡ found all)
with_nth_there no_vals k new u e = absurd (nowhere_found u e)
with_nth_there (val v vs) zero new u e = (val new vs, refl)
with_nth_there (val v vs) (suc k) new u e =
    let r = with_nth_there vs k new u e in (val v r.0, ap (λ o. and_then o (λ rest. found (val v rest))) r.1)

with_child_there : (v : Val) (part : Part) (new u : Val) → child v part ≡ found u
    → (w : Val) × (with_child v part new ≡ found w)
with_child_there (struct t n vs) (field k) new u e =
    let r = with_nth_there vs k new u e in (struct t n r.0, ap (λ o. and_then o (λ all. found (struct t n all))) r.1)
with_child_there (struct t n vs) (payload c k) new u e = absurd (nowhere_found u e)
with_child_there (variant present vs) (field k) new u e = absurd (nowhere_found u e)
with_child_there (variant present vs) (payload c k) new u e = go (present == c) e
  where
    go : (b : Bool) → (if b then nth vs k else hollow) ≡ found u
        → (w : Val)
        × ((if b then and_then (with_nth vs k new) (λ all. found (variant present all)) else hollow) ≡ found w)
    go true e' =
        let r = with_nth_there vs k new u e' in
        (variant present r.0, ap (λ o. and_then o (λ all. found (variant present all))) r.1)
    go false e' = absurd (hollow_found u e')
with_child_there hole part new u e = absurd (hollow_found u e)
with_child_there (int n) part new u e = absurd (nowhere_found u e)
with_child_there (bool b) part new u e = absurd (nowhere_found u e)
with_child_there unit part new u e = absurd (nowhere_found u e)

pub there_is_writable : (way : List Part) (new old u : Val) → value_at way old ≡ found u
    → (changed : Val) × (with_value_at way new old ≡ found changed)
there_is_writable [] new old u e = (new, refl)
there_is_writable (part ∷ way) new old u e = go (λ inner h. there_is_writable way new inner u h) (child old part) refl e
  where
    go : ((inner : Val) → value_at way inner ≡ found u → (changed : Val) ×
        (with_value_at way new inner ≡ found changed)) → (o : Found Val) → child old part ≡ o → and_then o
        (value_at way) ≡ found u → (changed : Val) × (with_value_at (part ∷ way) new old ≡ found changed)
    go rest hollow is e' = absurd (hollow_found u e')
    go rest nowhere is e' = absurd (nowhere_found u e')
    go rest (found inner) is e' =
        let r = rest inner e' in
        let w = with_child_there old part r.0 inner is in (
          w.0,
          ap (λ o. and_then o (λ i. and_then (with_value_at way new i) (λ changed. with_child old part changed))) is
              ∙ ap (λ o. and_then o (λ changed. with_child old part changed)) r.1 ∙ w.1,
        )

-- ---- a write where something is seen succeeds, and is seen

root_written : (r : Root) (parts : List Part) (act : Activation) (changed v old : Val)
    → with_value_at parts v old ≡ found changed → root_seen r parts (with_root r changed act) ≡ found v
root_written (binding x) parts act changed v old e =
    ap (λ b. slot_seen parts (if b then holds changed else act.slots x)) (same_number x)
    ∙ writes_are_read parts v old changed e
root_written (temporary n) parts act changed v old e =
    ap (λ b. value_at parts (if b then changed else act.temporaries n)) (same_number n)
    ∙ writes_are_read parts v old changed e
root_written result parts act changed v old e = writes_are_read parts v old changed e

wrote_in : (l : Location) (v : Val) (st : State) (act : Activation) (old u : Val)
    → slice_get st.store l.activation ≡ Some act → root_value l.root act st ≡ gives old st
    → value_at l.parts old ≡ found u → Wrote l v st
wrote_in l v st act old u is rooted there =
    let w = there_is_writable l.parts v old u there in
    let act' = with_root l.root w.0 act in
    record {
      after_ = record st { store = slice_set st.store l.activation act' };
      put_is =
          ap (λ o. after (or_stray o st) (λ a.
          root_value l.root a >>= λ o'. or_found (with_value_at l.parts v o') >>= λ changed.
          set_activation l.activation (with_root l.root changed a))) is
          ∙ ap (λ way. after way (λ o'.
          or_found (with_value_at l.parts v o') >>= λ changed.
          set_activation l.activation (with_root l.root changed act))) rooted
          ∙ ap (λ o. after (or_found o st) (λ changed. set_activation l.activation (with_root l.root changed act))) w.1;
      seen_is =
          ap (seen_at l) (get_set_same st.store l.activation act' act is)
          ∙ root_written l.root l.parts act w.0 v old w.1;
    }

pub writes_are_seen : (l : Location) (v u : Val) (st : State) → seen st.store l ≡ found u → Wrote l v st
writes_are_seen l v u st e = go (slice_get st.store l.activation) refl e
  where
    of_slot : (act : Activation) → slice_get st.store l.activation ≡ Some act → (x : ℕ) → l.root ≡ binding x
        → (s : Slot) → act.slots x ≡ s → slot_seen l.parts s ≡ found u → Wrote l v st
    of_slot act is x ri absent si e' = absurd (nowhere_found u e')
    of_slot act is x ri (refers k) si e' = absurd (nowhere_found u e')
    of_slot act is x ri (runs k m) si e' = absurd (nowhere_found u e')
    of_slot act is x ri (holds w) si e' =
        wrote_in l v st act w u is (ap (λ r. root_value r act st) ri ∙ ap (λ s. own_value s st) si) e'

    of_root : (act : Activation) → slice_get st.store l.activation ≡ Some act → (r : Root) → l.root ≡ r
        → root_seen r l.parts act ≡ found u → Wrote l v st
    of_root act is (binding x) ri e' = of_slot act is x ri (act.slots x) refl e'
    of_root act is (temporary n) ri e' =
        wrote_in l v st act (act.temporaries n) u is (ap (λ r. root_value r act st) ri) e'
    of_root act is result ri e' = wrote_in l v st act act.result u is (ap (λ r. root_value r act st) ri) e'

    go : (o : Option Activation) → slice_get st.store l.activation ≡ o → seen_at l o ≡ found u → Wrote l v st
    go None is e' = absurd (nowhere_found u e')
    go (Some act) is e' = of_root act is l.root refl e'
