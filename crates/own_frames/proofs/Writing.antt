-- A write at a place: what it leaves.
use Rattle.std.proofs.Common.{◌≡◌, ℕ, Bool, true, false, List, Option, Some, None, length, refl, sym, ap, ◌∙◌, subst, inl, inr}
use Rattle.std.specs.Prelude.{◌⊎◌, ◌==◌, if◌then◌else◌, slice_get, slice_set}
use Rattle.std.proofs.lemmas.Bool.Decides.{Decides-eqb}
use Rattle.std.proofs.lemmas.List.{length-set}
use Rattle.own_shapes.proofs.Lists.{set_other}
use Rattle.own_runs.proofs.Parts.{writes_stay_apart}
use Rattle.own_runs.specs.Laws.{AreApart}
use Rattle.own_runs.specs.Store.{Root, binding, temporary, result, Location, Slot, absent, holds, refers, runs, Activation, State, Act, or_found, activation, slot_at, own_value, root_value, with_at, with_root, set_activation, peek, put, read}
use Rattle.own_runs.specs.Values.{Val, unit, is_whole, Part, Found, found, hollow, nowhere, value_at, with_value_at}
use Rattle.own_ways.specs.Ways.{Way, gives, traps, stops, errs, strays, after, ◌>>=◌, pure, trap, err, stray, pick, or_stray}
use Rattle.own_frames.specs.Frame.{link, bare, links, slot_seen, root_seen, seen_at, seen, Apart, Ok}
use Rattle.own_frames.proofs.StoreFacts.{false_true, get_set_same, map_set}

pub ok_bind : {A B : Type 0} (P : A → State → Type 0) (Q : B → State → Type 0) (r : Way State A) (f : A → Act B)
    → Ok P r → ((a : A) (st : State) → P a st → Ok Q (f a st)) → Ok Q (after r f)
ok_bind P Q (gives a st) f p q = q a st p
ok_bind P Q (traps c a s) f p q = tt
ok_bind P Q (stops s) f p q = tt
ok_bind P Q (errs s) f p q = tt
ok_bind P Q (strays s) f p q = tt

pub ok_map : {A : Type 0} (P Q : A → State → Type 0) (r : Way State A) → Ok P r
    → ((a : A) (st : State) → P a st → Q a st) → Ok Q r
ok_map P Q (gives a st) p q = q a st p
ok_map P Q (traps c a s) p q = tt
ok_map P Q (stops s) p q = tt
ok_map P Q (errs s) p q = tt
ok_map P Q (strays s) p q = tt

-- ---- steps that only look

pub record Looks {A : Type 0} (p : Act A) : Type 0 where
  pub by : (st : State) → Ok (λ a st'. st' ≡ st) (p st)

pub then_looks : {A B : Type 0} (p : Act A) (f : A → Act B) → Looks p → ((a : A) → Looks (f a)) → Looks (p >>= f)
then_looks p f h k = record {
  by = λ st. ok_bind (λ a st'. st' ≡ st) (λ b st'. st' ≡ st) (p st) f (h.by st) (λ a st1 e.
      ok_map (λ b st2. st2 ≡ st1) (λ b st2. st2 ≡ st) (f a st1) ((k a).by st1) (λ b st2 e'. e' ∙ e));
}

pub pure_looks : {A : Type 0} (a : A) → Looks (pure a)
pure_looks a = record { by = λ st. refl }

pub stray_looks : {A : Type 0} → Looks (stray {A = A})
stray_looks = record { by = λ st. tt }

pub err_looks : {A : Type 0} → Looks (err {A = A})
err_looks = record { by = λ st. tt }

pub trap_looks : {A : Type 0} (c t : ℕ) → Looks (trap {A = A} c t)
trap_looks c t = record { by = λ st. tt }

pub pick_looks : {A : Type 0} (b : Bool) (p q : Act A) → Looks p → Looks q → Looks (pick b p q)
pick_looks true p q hp hq = hp
pick_looks false p q hp hq = hq

pub or_stray_looks : {A : Type 0} (o : Option A) → Looks (or_stray o)
or_stray_looks None = stray_looks
or_stray_looks (Some a) = pure_looks a

pub or_found_looks : {A : Type 0} (o : Found A) → Looks (or_found o)
or_found_looks (found a) = pure_looks a
or_found_looks hollow = err_looks
or_found_looks nowhere = stray_looks

pub activation_looks : (a : ℕ) → Looks (activation a)
activation_looks a = record { by = λ st. (or_stray_looks (slice_get st.store a)).by st }

pub slot_looks : (a x : ℕ) → Looks (slot_at a x)
slot_looks a x = then_looks (activation a) _ (activation_looks a) (λ act. pure_looks _)

own_looks : (s : Slot) → Looks (own_value s)
own_looks absent = stray_looks
own_looks (holds v) = pure_looks v
own_looks (refers l) = stray_looks
own_looks (runs k m) = stray_looks

root_looks : (r : Root) (act : Activation) → Looks (root_value r act)
root_looks (binding x) act = own_looks (act.slots x)
root_looks (temporary n) act = pure_looks _
root_looks result act = pure_looks _

pub peek_looks : (l : Location) → Looks (peek l)
peek_looks l =
    then_looks (activation l.activation >>= root_value l.root) _
    (then_looks (activation l.activation) _ (activation_looks l.activation) (λ act. root_looks l.root act))
    (λ v. or_found_looks (value_at l.parts v))

pub read_looks : (l : Location) → Looks (read l)
read_looks l = then_looks (peek l) _ (peek_looks l) (λ v. pick_looks (is_whole v) _ _ (pure_looks v) err_looks)

-- ---- a write

pub record Written (l : Location) (old new : State) : Type 0 where
  pub many : length new.store ≡ length old.store
  pub linked : links new.store ≡ links old.store
  pub apart : (other : Location) → Apart l other → seen new.store other ≡ seen old.store other

-- the activation that is written keeps its links, and what lies apart in it
abbrev Rewrites : Location → Activation → Activation → Type 0
Rewrites l act act' =
    (bare act' ≡ bare act)
    × ((r : Root) (ps : List Part) → (l.root ≡ r → ⊥) ⊎ AreApart l.parts ps → root_seen r ps act' ≡ root_seen r ps act)

set_written : (l : Location) (st : State) (act act' : Activation) → slice_get st.store l.activation ≡ Some act
    → Rewrites l act act'
    → Written l st (record st { store = slice_set st.store l.activation act' })
set_written l st act act' is r = record {
  many = length-set st.store l.activation act';
  linked = map_set bare st.store l.activation act act' is r.0;
  apart = λ other out. elsewhere other out (l.activation == other.activation) refl;
}
  where
    elsewhere : (other : Location) → Apart l other → (c : Bool) → (l.activation == other.activation) ≡ c
        → seen (slice_set st.store l.activation act') other ≡ seen st.store other
    elsewhere other out false e =
        ap (seen_at other) (set_other st.store l.activation other.activation act'
        (λ same. false_true (sym ((Decides-eqb l.activation other.activation).1 (sym same)) ∙ e)))
    elsewhere other (inl ne) true e = absurd (ne ((Decides-eqb l.activation other.activation).0 e))
    elsewhere other (inr out) true e =
        let same : l.activation ≡ other.activation = (Decides-eqb l.activation other.activation).0 e in
        subst (λ n. seen_at other (slice_get (slice_set st.store l.activation act') n) ≡ seen_at other
        (slice_get st.store n)) same
        (ap (seen_at other) (get_set_same st.store l.activation act' act is) ∙ r.1 other.root other.parts out ∙ ap
        (seen_at other) (sym is))

-- a write below a binding
binding_rewrites : (a x : ℕ) (parts : List Part) (act : Activation) (old changed v : Val) → act.slots x ≡ holds old
    → with_value_at parts v old ≡ found changed
    → Rewrites (record { activation = a; root = binding x; parts = parts }) act (with_root (binding x) changed act)
binding_rewrites a x parts act old changed v is e = (
  (λ j. record { body = act.body; maker = act.maker; slots = λ y. linked y j; temporaries = λ n. unit; result = unit }),
  (λ r ps out. at r ps out),
)
  where
    linked : (y : ℕ) → link (with_at x (holds changed) act.slots y) ≡ link (act.slots y)
    linked y = go (x == y) refl
      where
        go : (c : Bool) → (x == y) ≡ c → link (if c then holds changed else act.slots y) ≡ link (act.slots y)
        go true s = sym (ap link (ap act.slots (sym ((Decides-eqb x y).0 s)) ∙ is))
        go false s = refl

    at : (r : Root) (ps : List Part) → (binding x ≡ r → ⊥) ⊎ AreApart parts ps
        → root_seen r ps (with_root (binding x) changed act) ≡ root_seen r ps act
    at (temporary n) ps out = refl
    at result ps out = refl
    at (binding y) ps out = go (x == y) refl out
      where
        go : (c : Bool) → (x == y) ≡ c → (binding x ≡ binding y → ⊥) ⊎ AreApart parts ps
            → slot_seen ps (if c then holds changed else act.slots y) ≡ slot_seen ps (act.slots y)
        go false s out' = refl
        go true s (inl ne) = absurd (ne (ap binding ((Decides-eqb x y).0 s)))
        go true s (inr p) =
            writes_stay_apart parts ps v old changed p e ∙ ap (slot_seen ps)
            (sym (ap act.slots (sym ((Decides-eqb x y).0 s)) ∙ is))

-- a write below a temporary
temporary_rewrites : (a n : ℕ) (parts : List Part) (act : Activation) (changed v : Val)
    → with_value_at parts v (act.temporaries n) ≡ found changed
    → Rewrites (record { activation = a; root = temporary n; parts = parts }) act (with_root (temporary n) changed act)
temporary_rewrites a n parts act changed v e = (refl, (λ r ps out. at r ps out))
  where
    at : (r : Root) (ps : List Part) → (temporary n ≡ r → ⊥) ⊎ AreApart parts ps
        → root_seen r ps (with_root (temporary n) changed act) ≡ root_seen r ps act
    at (binding y) ps out = refl
    at result ps out = refl
    at (temporary m) ps out = go (n == m) refl out
      where
        go : (c : Bool) → (n == m) ≡ c → (temporary n ≡ temporary m → ⊥) ⊎ AreApart parts ps
            → value_at ps (if c then changed else act.temporaries m) ≡ value_at ps (act.temporaries m)
        go false s out' = refl
        go true s (inl ne) = absurd (ne (ap temporary ((Decides-eqb n m).0 s)))
        go true s (inr p) =
            writes_stay_apart parts ps v (act.temporaries n) changed p e ∙ ap (λ i. value_at ps (act.temporaries i))
            ((Decides-eqb n m).0 s)

-- a write below the result
result_rewrites : (a : ℕ) (parts : List Part) (act : Activation) (changed v : Val)
    → with_value_at parts v act.result ≡ found changed
    → Rewrites (record { activation = a; root = result; parts = parts }) act (with_root result changed act)
result_rewrites a parts act changed v e = (refl, (λ r ps out. at r ps out))
  where
    at : (r : Root) (ps : List Part) → (result ≡ r → ⊥) ⊎ AreApart parts ps
        → root_seen r ps (with_root result changed act) ≡ root_seen r ps act
    at (binding y) ps out = refl
    at (temporary m) ps out = refl
    at result ps (inl ne) = absurd (ne refl)
    at result ps (inr p) = writes_stay_apart parts ps v act.result changed p e

-- what is written is written there
changed_ok : (l : Location) (v : Val) (st : State) (act : Activation) → slice_get st.store l.activation ≡ Some act
    → (old : Val)
    → ((changed : Val) → with_value_at l.parts v old ≡ found changed → Rewrites l act (with_root l.root changed act))
    → Ok (λ (u : Unit {0}) st'. Written l st st')
    (after (or_found (with_value_at l.parts v old) st)
    (λ changed. set_activation l.activation (with_root l.root changed act)))
changed_ok l v st act is old h = go (with_value_at l.parts v old) refl
  where
    go : (o : Found Val) → with_value_at l.parts v old ≡ o
        → Ok (λ (u : Unit {0}) st'. Written l st st')
        (after (or_found o st) (λ changed. set_activation l.activation (with_root l.root changed act)))
    go hollow e = tt
    go nowhere e = tt
    go (found changed) e = set_written l st act (with_root l.root changed act) is (h changed e)

rooted_ok : (a : ℕ) (r : Root) (parts : List Part) (v : Val) (st : State) (act : Activation)
    → slice_get st.store a ≡ Some act
    → Ok (λ (u : Unit {0}) st'. Written (record { activation = a; root = r; parts = parts }) st st')
    (after (root_value r act st)
    (λ old. or_found (with_value_at parts v old) >>= λ changed. set_activation a (with_root r changed act)))
rooted_ok a (temporary n) parts v st act is =
    changed_ok (record { activation = a; root = temporary n; parts = parts }) v st act is (act.temporaries n)
    (λ changed e. temporary_rewrites a n parts act changed v e)
rooted_ok a result parts v st act is =
    changed_ok (record { activation = a; root = result; parts = parts }) v st act is act.result
    (λ changed e. result_rewrites a parts act changed v e)
rooted_ok a (binding x) parts v st act is = go (act.slots x) refl
  where
    go : (s : Slot) → act.slots x ≡ s → Ok
        (λ (u : Unit {0}) st'. Written (record { activation = a; root = binding x; parts = parts }) st st')
        (after (own_value s st) (λ old. or_found (with_value_at parts v old) >>= λ changed. set_activation a
        (with_root (binding x) changed act)))
    go absent e = tt
    go (refers l) e = tt
    go (runs k m) e = tt
    go (holds old) e =
        changed_ok (record { activation = a; root = binding x; parts = parts }) v st act is old
        (λ changed e'. binding_rewrites a x parts act old changed v e e')

pub put_ok : (l : Location) (v : Val) (st : State) → Ok (λ (u : Unit {0}) st'. Written l st st') (put l v st)
put_ok l v st = go (slice_get st.store l.activation) refl
  where
    go : (o : Option Activation) → slice_get st.store l.activation ≡ o → Ok (λ (u : Unit {0}) st'. Written l st st')
        (after (or_stray o st) (λ act.
        root_value l.root act >>= λ old. or_found (with_value_at l.parts v old) >>= λ changed.
        set_activation l.activation (with_root l.root changed act)))
    go None e = tt
    go (Some act) e = rooted_ok l.activation l.root l.parts v st act e
