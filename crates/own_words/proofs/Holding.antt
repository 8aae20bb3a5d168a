-- What is read of the matches of a command is what they hold.
use Rattle.std.proofs.Common.{◌≡◌, ◌∙◌, ◌≤◌, inl, inr, Bool, true, false, if◌then◌else◌, List, [], ◌∷◌, map, length, codes, Option, Some, None, refl, sym, ap, arith}
use Rattle.std.specs.Prelude.{slice_get, option_and_then}
use Rattle.std.specs.Borrow.{Bor}
use Rattle.std.specs.List.{find}
use Rattle.std.specs.Option.{option_map}
use Rattle.std.specs.Str.{bytes_eq}
use Rattle.clap.specs.Matches.{first_value, matched_of, one_text, raw_values}
use Rattle.clap.specs.Values.{read_as}
use Rattle.clap.specs.Walk.{Row, row_text, rows_of}
use Rattle.clap.specs.declared.builder.value_parser.Reading.TheVariants.{AsWritten}
use Rattle.clap.specs.declared.builder.value_parser.Reading.{Reading}
use Rattle.clap.specs.declared.parser.matches.Found.{Found}
use Rattle.clap.proofs.WalkLemmas.{first_value-rows, one_text-rows, raw_values-rows}
use Rattle.own_words.specs.Held.{AreHeld, IsTraced, entry, shown, shown_row}
use Rattle.own_words.specs.Seen.{all_or_none, one_or_none, seen}
use Rattle.own_words.specs.Words.{Text, Kind, words, steps, outs, traces, Given as Gives}
use Rattle.own_words.specs.declared.given.Given.{Given}

-- the values of an id, one after another
abbrev values_if : List Text → Option (List Text)
values_if [] = None
values_if (v ∷ vs) = Some (v ∷ vs)

held_values : (o : Option Row) (vs : List Text) → option_map shown_row o ≡ shown vs → option_map (λ (r : Row). r.values) o ≡ values_if vs
held_values None [] h = refl
held_values None (v ∷ vs) h = cc
held_values (Some r) [] h = cc
held_values (Some r) (v ∷ vs) h =
    let is : shown_row r ≡ (v ∷ vs, AsWritten) = cc in
    ap Some (ap (λ p. p.0) is)

held_first : (o : Option Row) (vs : List Text) → option_map shown_row o ≡ shown vs → option_and_then (λ (r : Row). slice_get r.values 0) o ≡ slice_get vs 0
held_first None [] h = refl
held_first None (v ∷ vs) h = cc
held_first (Some r) [] h = cc
held_first (Some r) (v ∷ vs) h =
    let is : shown_row r ≡ (v ∷ vs, AsWritten) = cc in
    ap (λ p. slice_get p.0 0) is

abbrev read_row : List Text × Reading → Option Text
read_row p = option_map (read_as p.1) (slice_get p.0 0)

held_one : (o : Option Row) (vs : List Text) → option_map shown_row o ≡ shown vs → option_and_then row_text o ≡ slice_get vs 0
held_one None [] h = refl
held_one None (v ∷ vs) h = cc
held_one (Some r) [] h = cc
held_one (Some r) (v ∷ vs) h =
    let is : shown_row r ≡ (v ∷ vs, AsWritten) = cc in
    ap read_row is

values_held : (f : Found) (id : Text) (vs : List Text) → entry id (rows_of f) ≡ shown vs → option_map raw_values (matched_of f id) ≡ values_if vs
values_held f id vs h = raw_values-rows f id ∙ held_values (find (λ r. bytes_eq r.id id) (rows_of f)) vs h

first_held : (f : Found) (id : Text) (vs : List Text) → entry id (rows_of f) ≡ shown vs → first_value f id ≡ slice_get vs 0
first_held f id vs h = first_value-rows f id ∙ held_first (find (λ r. bytes_eq r.id id) (rows_of f)) vs h

one_held : (f : Found) (id : Text) (vs : List Text) → entry id (rows_of f) ≡ shown vs → one_text f id ≡ slice_get vs 0
one_held f id vs h = one_text-rows f id ∙ held_one (find (λ r. bytes_eq r.id id) (rows_of f)) vs h

-- all values, if there are any
all_values : (o : Option (Bor (List (Bor Text)))) (vs : List Text) → option_map (λ s. map (λ v. v.now) s.now) o ≡ values_if vs → all_or_none o ≡ vs
all_values None [] h = refl
all_values None (v ∷ vs) h = cc
all_values (Some s) [] h = cc
all_values (Some s) (v ∷ vs) h = cc

-- the one value, if there is one
one_value : (o : Option (Bor Text)) (vs : List Text) → option_map (λ s. s.now) o ≡ slice_get vs 0 → length vs ≤ 1 → one_or_none o ≡ vs
one_value None [] h few = refl
one_value None (v ∷ vs) h few = cc
one_value (Some s) [] h few = cc
one_value (Some s) (v ∷ []) h few =
    let is : s.now ≡ v = cc in
    ap (λ y. y ∷ []) is
one_value (Some s) (v ∷ w ∷ vs) h few = absurd (omega arith)

abbrev traced : Bool → List Text
traced b = if b then codes "true" ∷ [] else []

flag_held : (f : Found) (texts : List Text) (b : Bool) → IsTraced texts (entry (codes "trace") (rows_of f)) → (one_text f (codes "trace") ≡ None → b ≡ false)
    → (one_text f (codes "trace") ≡ Some (codes "true") → b ≡ true) → (one_text f (codes "trace") ≡ Some (codes "false") → b ≡ false) → traced b ≡ texts
flag_held f texts b (inl (e, inl h)) none set unset = ap traced (none (one_held f (codes "trace") [] h)) ∙ sym e
flag_held f texts b (inl (e, inr h)) none set unset = ap traced (unset (one_held f (codes "trace") (codes "false" ∷ []) h)) ∙ sym e
flag_held f texts b (inr (e, h)) none set unset = ap traced (set (one_held f (codes "trace") (codes "true" ∷ []) h)) ∙ sym e

-- what is read of the values of each id is what was given
pub seen_is : (f : Found) (g : Gives) (r : Given) → AreHeld g (rows_of f)
    → option_map (λ s. map (λ v. v.now) s.now) r.words ≡ option_map raw_values (matched_of f (codes "words"))
    → option_map (λ s. s.now) r.steps ≡ first_value f (codes "steps")
    → option_map (λ s. s.now) r.out ≡ first_value f (codes "out")
    → (one_text f (codes "trace") ≡ None → r.trace ≡ false)
    → (one_text f (codes "trace") ≡ Some (codes "true") → r.trace ≡ true)
    → (one_text f (codes "trace") ≡ Some (codes "false") → r.trace ≡ false)
    → seen r ≡ g
seen_is f g r h words_read steps_read out_read untraced set unset = λ i k. each k i
  where
    each : (k : Kind) → seen r k ≡ g k
    each words = all_values r.words (g words) (words_read ∙ values_held f (codes "words") (g words) h.plain_words)
    each steps = one_value r.steps (g steps) (steps_read ∙ first_held f (codes "steps") (g steps) h.step_count) h.one_steps
    each outs = one_value r.out (g outs) (out_read ∙ first_held f (codes "out") (g outs) h.out) h.one_out
    each traces = flag_held f (g traces) r.trace h.trace untraced set unset
