-- The rows of a parse, and what was given.
use Rattle.std.proofs.Common.{◌≡◌, ◌∙◌, ◌||◌, not, Bool, true, false, if◌then◌else◌, List, [], ◌∷◌, ◌++◌, Some, None, refl, sym, ap, append-nil}
use Rattle.std.specs.List.{find}
use Rattle.std.specs.Option.{option_map}
use Rattle.std.specs.Str.{bytes_eq}
use Rattle.std.proofs.lemmas.Slice.Eq.{bytes_eq-Decides}
use Rattle.clap.specs.Walk.{Row, at_row, has_row, more_values, stronger, with_values, without}
use Rattle.clap.specs.declared.builder.value_parser.Reading.{Reading}
use Rattle.clap.specs.declared.builder.value_parser.Reading.TheVariants.{AsWritten}
use Rattle.clap.specs.declared.parser.matches.ValueSource.{ValueSource}
use Rattle.own_words.specs.Held.{Entry, entry, id_of, shown, shown_row}
use Rattle.own_words.specs.Words.{Text, Kind, words, steps, outs, traces, Given}
use Rattle.own_words.proofs.Reading.{is_none, only, put}

-- ---- the row of an id

other_id : (a b c : Text) → bytes_eq a b ≡ true → bytes_eq b c ≡ false → bytes_eq a c ≡ false
other_id a b c e h = let is : a ≡ b = (bytes_eq-Decides a b).0 e in rw is h

passed : (id : Text) (r : Row) (rs : List Row) → bytes_eq r.id id ≡ false → entry id (r ∷ rs) ≡ entry id rs
passed id r rs h = rw h refl

met : (id : Text) (r : Row) (rs : List Row) → bytes_eq r.id id ≡ true → entry id (r ∷ rs) ≡ Some (shown_row r)
met id r rs h = rw h refl

-- a row after which the others are looked at alike
stays : (id : Text) (r : Row) (rs ss : List Row) (b : Bool) → bytes_eq r.id id ≡ b → entry id rs ≡ entry id ss → entry id (r ∷ rs) ≡ entry id (r ∷ ss)
stays id r rs ss true h e = met id r rs h ∙ sym (met id r ss h)
stays id r rs ss false h e = passed id r rs h ∙ e ∙ sym (passed id r ss h)

-- the row of another id stays
others_kept : (id other : Text) (change : Row → List Row) (missing : List Row) → bytes_eq id other ≡ false
    → ((r : Row) (rs : List Row) → bytes_eq r.id id ≡ true → entry other (change r ++ rs) ≡ entry other rs) → entry other missing ≡ None
    → (rows : List Row) → entry other (at_row id change missing rows) ≡ entry other rows
others_kept id other change missing apart changed none [] = none
others_kept id other change missing apart changed none (r ∷ rs) = go (bytes_eq r.id id) refl (others_kept id other change missing apart changed none rs)
  where
    go : (b : Bool) → bytes_eq r.id id ≡ b → entry other (at_row id change missing rs) ≡ entry other rs
        → entry other (if b then change r ++ rs else (r ∷ at_row id change missing rs)) ≡ entry other (r ∷ rs)
    go true h more = changed r rs h ∙ sym (passed other r rs (other_id r.id id other h apart))
    go false h more = stays other r (at_row id change missing rs) rs (bytes_eq r.id other) refl more

pub with_values_other : (id other : Text) (how : Reading) (s : ValueSource) (vs : List Text) (rows : List Row) → bytes_eq id other ≡ false
    → entry other (with_values id how s vs rows) ≡ entry other rows
with_values_other id other how s vs rows apart = others_kept id other (more_values s vs) _ apart
    (λ r rs h. passed other (record r { values = r.values ++ vs; source = Some (stronger r.source s) }) rs (other_id r.id id other h apart))
    (passed other (record { id = id; values = vs; count = None; source = Some s; reading = how }) [] apart)
    rows

-- a row with no id of its kind before it
pub without_none : (id : Text) (rows : List Row) → entry id rows ≡ None → without id rows ≡ rows
without_none id [] h = refl
without_none id (r ∷ rs) h = go (bytes_eq r.id id) refl h (without_none id rs)
  where
    go : (b : Bool) → bytes_eq r.id id ≡ b → option_map shown_row (if b then Some r else find (λ y. bytes_eq y.id id) rs) ≡ None
        → (entry id rs ≡ None → without id rs ≡ rs) → (if b then [] ++ rs else (r ∷ without id rs)) ≡ r ∷ rs
    go true e h more = cc
    go false e h more = ap (λ ys. r ∷ ys) (more h)

added_none : (id : Text) (s : ValueSource) (v : Text) (rows : List Row) → bytes_eq id id ≡ true → entry id rows ≡ None
    → entry id (with_values id AsWritten s (v ∷ []) rows) ≡ Some (v ∷ [], AsWritten)
added_none id s v [] own h = met id _ [] own
added_none id s v (r ∷ rs) own h = go (bytes_eq r.id id) refl h (added_none id s v rs own)
  where
    go : (b : Bool) → bytes_eq r.id id ≡ b → option_map shown_row (if b then Some r else find (λ y. bytes_eq y.id id) rs) ≡ None
        → (entry id rs ≡ None → entry id (with_values id AsWritten s (v ∷ []) rs) ≡ Some (v ∷ [], AsWritten))
        → entry id (if b then more_values s (v ∷ []) r ++ rs else (r ∷ with_values id AsWritten s (v ∷ []) rs)) ≡ Some (v ∷ [], AsWritten)
    go true e h more = cc
    go false e h more = passed id r (with_values id AsWritten s (v ∷ []) rs) e ∙ more h

added_some : (id : Text) (s : ValueSource) (v : Text) (old : List Text) (rows : List Row) → entry id rows ≡ Some (old, AsWritten)
    → entry id (with_values id AsWritten s (v ∷ []) rows) ≡ Some (old ++ (v ∷ []), AsWritten)
added_some id s v old [] h = cc
added_some id s v old (r ∷ rs) h = go (bytes_eq r.id id) refl h (added_some id s v old rs)
  where
    go : (b : Bool) → bytes_eq r.id id ≡ b → option_map shown_row (if b then Some r else find (λ y. bytes_eq y.id id) rs) ≡ Some (old, AsWritten)
        → (entry id rs ≡ Some (old, AsWritten) → entry id (with_values id AsWritten s (v ∷ []) rs) ≡ Some (old ++ (v ∷ []), AsWritten))
        → entry id (if b then more_values s (v ∷ []) r ++ rs else (r ∷ with_values id AsWritten s (v ∷ []) rs)) ≡ Some (old ++ (v ∷ []), AsWritten)
    go true e h more =
        let is : shown_row r ≡ (old, AsWritten) = cc in
        met id (record r { values = r.values ++ (v ∷ []); source = Some (stronger r.source s) }) rs e
        ∙ ap (λ (p : List Text × Reading). Some (p.0 ++ (v ∷ []), p.1)) is
    go false e h more = passed id r (with_values id AsWritten s (v ∷ []) rs) e ∙ more h

-- one more value of an id
pub value_added : (id : Text) (s : ValueSource) (v : Text) (old : List Text) (rows : List Row) → bytes_eq id id ≡ true → entry id rows ≡ shown old
    → entry id (with_values id AsWritten s (v ∷ []) rows) ≡ shown (old ++ (v ∷ []))
value_added id s v [] rows own h = added_none id s v rows own h
value_added id s v (x ∷ xs) rows own h = added_some id s v (x ∷ xs) rows h

-- ---- what was given

abbrev pub Holds : Given → List Row → Type 0
Holds g rows = (k : Kind) → entry (id_of k) rows ≡ shown (g k)

abbrev has_some : Entry → Bool
has_some None = false
has_some (Some p) = true

has_entry : (id : Text) (rows : List Row) → has_row id rows ≡ has_some (entry id rows)
has_entry id [] = refl
has_entry id (r ∷ rs) = go (bytes_eq r.id id) (has_entry id rs)
  where
    go : (b : Bool) → has_row id rs ≡ has_some (entry id rs) → (b || has_row id rs) ≡ has_some (option_map shown_row (if b then Some r else find (λ y. bytes_eq y.id id) rs))
    go true more = refl
    go false more = more

is_shown : (vs : List Text) → has_some (shown vs) ≡ not (is_none vs)
is_shown [] = refl
is_shown (v ∷ vs) = refl

pub has_given : (k : Kind) (g : Given) (rows : List Row) → Holds g rows → has_row (id_of k) rows ≡ not (is_none (g k))
has_given k g rows h = has_entry (id_of k) rows ∙ ap has_some (h k) ∙ is_shown (g k)

on : (k : Kind) (g : Given) (rows : List Row) (s : ValueSource) (v : Text) → Holds g rows → bytes_eq (id_of k) (id_of k) ≡ true → only k (v ∷ []) k ≡ v ∷ []
    → entry (id_of k) (with_values (id_of k) AsWritten s (v ∷ []) rows) ≡ shown (put k (v ∷ []) g k)
on k g rows s v h own e = value_added (id_of k) s v (g k) rows own (h k) ∙ ap (λ x. shown (g k ++ x)) (sym e)

off : (k j : Kind) (g : Given) (rows : List Row) (s : ValueSource) (v : Text) → Holds g rows → bytes_eq (id_of k) (id_of j) ≡ false → only k (v ∷ []) j ≡ []
    → entry (id_of j) (with_values (id_of k) AsWritten s (v ∷ []) rows) ≡ shown (put k (v ∷ []) g j)
off k j g rows s v h apart e = with_values_other (id_of k) (id_of j) AsWritten s (v ∷ []) rows apart ∙ h j ∙ ap shown (sym (append-nil (g j)) ∙ ap (λ x. g j ++ x) (sym e))

-- one more value
pub put_holds : (k : Kind) (g : Given) (rows : List Row) (s : ValueSource) (v : Text) → Holds g rows → Holds (put k (v ∷ []) g) (with_values (id_of k) AsWritten s (v ∷ []) rows)
put_holds words g rows s v h words = on words g rows s v h refl refl
put_holds words g rows s v h steps = off words steps g rows s v h refl refl
put_holds words g rows s v h outs = off words outs g rows s v h refl refl
put_holds words g rows s v h traces = off words traces g rows s v h refl refl
put_holds steps g rows s v h words = off steps words g rows s v h refl refl
put_holds steps g rows s v h steps = on steps g rows s v h refl refl
put_holds steps g rows s v h outs = off steps outs g rows s v h refl refl
put_holds steps g rows s v h traces = off steps traces g rows s v h refl refl
put_holds outs g rows s v h words = off outs words g rows s v h refl refl
put_holds outs g rows s v h steps = off outs steps g rows s v h refl refl
put_holds outs g rows s v h outs = on outs g rows s v h refl refl
put_holds outs g rows s v h traces = off outs traces g rows s v h refl refl
put_holds traces g rows s v h words = off traces words g rows s v h refl refl
put_holds traces g rows s v h steps = off traces steps g rows s v h refl refl
put_holds traces g rows s v h outs = off traces outs g rows s v h refl refl
put_holds traces g rows s v h traces = on traces g rows s v h refl refl
