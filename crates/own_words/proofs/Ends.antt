-- The end of a command's words: defaults, and the last checks.
use Rattle.std.proofs.Common.{◌≡◌, ◌∙◌, ◌⊎◌, ◌≤◌, inl, inr, ◌||◌, not, Bool, true, false, if◌then◌else◌, List, [], ◌∷◌, length, codes, None, refl, sym, ap, subst, arith}
use Rattle.std.specs.List.{fold}
use Rattle.std.specs.Str.{bytes_eq}
use Rattle.clap.specs.Kinds.{Kinds, or_else}
use Rattle.clap.specs.Faults.{check_fault, default_fault, defaults_fault, level_fault, settle_fault, walk_fault}
use Rattle.clap.specs.Walk.{Row, Rule, default_rows, finished, has_row, idle, nothing_held, rows_after, settled, walk, with_default}
use Rattle.clap.specs.declared.builder.value_parser.Reading.TheVariants.{AsWritten}
use Rattle.clap.specs.declared.parser.matches.ValueSource.TheVariants.{DefaultValue}
use Rattle.own_words.specs.Words.{Text, Kind, words, steps, outs, traces, Given}
use Rattle.own_words.specs.Held.{AreHeld, IsTraced, entry, id_of, shown}
use Rattle.own_words.proofs.Reading.{Fits, is_none, most}
use Rattle.own_words.proofs.Rows.{has_given, Holds, value_added, with_values_other}
use Rattle.own_words.proofs.Clap.{Name, check, build, run, exec, selftest, leaf, options, rules, words_built, steps_built, out_built, trace_built}
use Rattle.own_words.proofs.Turns.{at}
use Rattle.own_words.proofs.Walks.{level, end_rows}

-- ---- no fault comes of the end

or_true : (b : Bool) → (b || true) ≡ true
or_true true = refl
or_true false = refl

either : (b : Bool) (ks : Kinds) → ks ≡ [] → (if b then [] else ks) ≡ []
either true ks h = refl
either false ks h = h

words_default : (rows : List Row) → default_fault rows words_built ≡ []
words_default rows = rw (or_true (has_row (codes "words") rows)) refl

steps_default : (rows : List Row) → default_fault rows steps_built ≡ []
steps_default rows = rw (or_true (has_row (codes "steps") rows)) refl

out_default : (rows : List Row) → default_fault rows out_built ≡ []
out_default rows = rw (or_true (has_row (codes "out") rows)) refl

trace_default : (rows : List Row) → default_fault rows trace_built ≡ []
trace_default rows = either (has_row (codes "trace") rows || false) _ refl

next_default : (rows : List Row) (a : Rule) (rest : List Rule) → default_fault rows a ≡ [] → ((now : List Row) → defaults_fault now rest ≡ []) → defaults_fault rows (a ∷ rest) ≡ []
unfolding defaults_fault
next_default rows a rest h more = ap (λ f. or_else f (defaults_fault (with_default rows a) rest)) h ∙ more (with_default rows a)

last_default : (rows : List Row) → defaults_fault rows [] ≡ []
unfolding defaults_fault
last_default rows = refl

no_defaults_fault : (n : Name) (rows : List Row) → defaults_fault rows (rules n) ≡ []
no_defaults_fault check rows = next_default rows words_built [] (words_default rows) last_default
no_defaults_fault build rows =
    next_default rows words_built (out_built ∷ trace_built ∷ []) (words_default rows)
    (λ a. next_default a out_built (trace_built ∷ []) (out_default a) (λ b. next_default b trace_built [] (trace_default b) last_default))
no_defaults_fault run rows =
    next_default rows words_built (steps_built ∷ out_built ∷ trace_built ∷ []) (words_default rows)
    (λ a. next_default a steps_built (out_built ∷ trace_built ∷ []) (steps_default a)
    (λ b. next_default b out_built (trace_built ∷ []) (out_default b) (λ c. next_default c trace_built [] (trace_default c) last_default)))
no_defaults_fault exec rows = next_default rows words_built (steps_built ∷ []) (words_default rows) (λ a. next_default a steps_built [] (steps_default a) last_default)
no_defaults_fault selftest rows = next_default rows words_built [] (words_default rows) last_default

no_check_fault : (name : Text) (n : Name) (rows : List Row) → check_fault (leaf name (rules n)) rows false ≡ []
no_check_fault name check rows = refl
no_check_fault name build rows = refl
no_check_fault name run rows = refl
no_check_fault name exec rows = refl
no_check_fault name selftest rows = refl

pub or_none : (a : Kinds) → or_else a [] ≡ a
or_none [] = refl
or_none (k ∷ ks) = refl

ends : (w s d c : Kinds) → d ≡ [] → c ≡ [] → or_else w (or_else s (or_else d c)) ≡ or_else w s
ends w s d c e f = ap (λ x. or_else w (or_else s (or_else x c))) e ∙ ap (λ x. or_else w (or_else s x)) f ∙ ap (or_else w) (or_none s)

pub level_is : (name : Text) (n : Name) (ws : List Text) → level_fault (leaf name (rules n)) [] nothing_held ws false [] ≡ level name n (at false idle [] None) ws
level_is name n ws =
    let end = (walk (rules n) [] nothing_held ws).held in
    ends (walk_fault (leaf name (rules n)) [] (at false idle [] None) ws) (settle_fault (rules n) false end)
    (defaults_fault (settled (rules n) end).rows (rules n)) (check_fault (leaf name (rules n)) (finished (rules n) end) false)
    (no_defaults_fault n (settled (rules n) end).rows) (no_check_fault name n (finished (rules n) end))

-- ---- the rows at the end

either_rows : (b : Bool) (rows : List Row) → (if b then rows else rows) ≡ rows
either_rows true rows = refl
either_rows false rows = refl

-- with the default of `--trace`, where there is the option
abbrev with_traces : Bool → List Row → List Row
with_traces true rows = with_default rows trace_built
with_traces false rows = rows

finished_is : (n : Name) (rows : List Row) → fold with_default rows (rules n) ≡ with_traces (options n traces) rows
finished_is check rows = either_rows (has_row (codes "words") rows) rows
finished_is selftest rows = either_rows (has_row (codes "words") rows) rows
finished_is exec rows =
    ap (λ rs. with_default rs steps_built) (either_rows (has_row (codes "words") rows) rows) ∙ either_rows (has_row (codes "steps") rows) rows
finished_is build rows =
    ap (λ rs. with_default (with_default rs out_built) trace_built) (either_rows (has_row (codes "words") rows) rows)
    ∙ ap (λ rs. with_default rs trace_built) (either_rows (has_row (codes "out") rows) rows)
finished_is run rows =
    ap (λ rs. with_default (with_default (with_default rs steps_built) out_built) trace_built) (either_rows (has_row (codes "words") rows) rows)
    ∙ ap (λ rs. with_default (with_default rs out_built) trace_built) (either_rows (has_row (codes "steps") rows) rows)
    ∙ ap (λ rs. with_default rs trace_built) (either_rows (has_row (codes "out") rows) rows)

-- uses of `--trace`
abbrev pub AreTraces : List Text → Type 0
AreTraces texts = (texts ≡ []) ⊎ (texts ≡ codes "true" ∷ [])

traced_now : (texts : List Text) (rows : List Row) → AreTraces texts → entry (codes "trace") rows ≡ shown texts → IsTraced texts (entry (codes "trace") rows)
traced_now texts rows (inl e) h = inl (e, inl (h ∙ ap shown e))
traced_now texts rows (inr e) h = inr (e, h ∙ ap shown e)

few : (xs : List Text) (b : Bool) → length xs ≤ most b → length xs ≤ 1
few xs true h = h
few xs false h = omega arith

held_now : (n : Name) (g : Given) (rows : List Row) → Holds g rows → Fits (options n) g → AreTraces (g traces) → AreHeld g rows
held_now n g rows h fits t = record {
  plain_words = h words;
  step_count = h steps;
  out = h outs;
  trace = traced_now (g traces) rows t (h traces);
  one_steps = few (g steps) (options n steps) fits.0;
  one_out = few (g outs) (options n outs) fits.1;
}

none_given : (xs : List Text) → not (is_none xs) ≡ false → xs ≡ []
none_given [] h = refl
none_given (x ∷ xs) h = cc

abbrev defaulted : List Row → List Row
defaulted rows = default_rows (codes "trace") AsWritten (codes "false" ∷ []) rows

defaulted_other : (k : Kind) (rows : List Row) → bytes_eq (codes "trace") (id_of k) ≡ false → entry (id_of k) (defaulted rows) ≡ entry (id_of k) rows
defaulted_other k rows apart = with_values_other (codes "trace") (id_of k) AsWritten DefaultValue (codes "false" ∷ []) rows apart

held_default : (n : Name) (g : Given) (rows : List Row) (b : Bool) → has_row (codes "trace") rows ≡ b → Holds g rows → Fits (options n) g → AreTraces (g traces)
    → AreHeld g (if b then rows else defaulted rows)
held_default n g rows true e h fits t = held_now n g rows h fits t
held_default n g rows false e h fits t =
    let none : g traces ≡ [] = none_given (g traces) (sym (has_given traces g rows h) ∙ e) in
    record {
      plain_words = defaulted_other words rows refl ∙ h words;
      step_count = defaulted_other steps rows refl ∙ h steps;
      out = defaulted_other outs rows refl ∙ h outs;
      trace = inl (none, inr (value_added (codes "trace") DefaultValue (codes "false") [] rows refl (h traces ∙ ap shown none)));
      one_steps = few (g steps) (options n steps) fits.0;
      one_out = few (g outs) (options n outs) fits.1;
    }

held_at : (n : Name) (g : Given) (rows : List Row) (b : Bool) → Holds g rows → Fits (options n) g → AreTraces (g traces) → AreHeld g (with_traces b rows)
held_at n g rows true h fits t = held_default n g rows (has_row (codes "trace") rows) refl h fits t
held_at n g rows false h fits t = held_now n g rows h fits t

pub held_end : (n : Name) (g : Given) (ws : List Text) → Holds g (end_rows n (at false idle [] None) ws) → Fits (options n) g → AreTraces (g traces)
    → AreHeld g (rows_after (rules n) [] ws)
held_end n g ws h fits t =
    let rows = end_rows n (at false idle [] None) ws in
    subst (AreHeld g) (sym (finished_is n rows)) (held_at n g rows (options n traces) h fits t)
