-- What `clap` makes of one word after the first.
use Rattle.std.proofs.Common.{◌≡◌, ◌∙◌, ◌≢◌, ◌==◌, inl, inr, not, ℕ, Bool, true, false, if◌then◌else◌, List, [], ◌∷◌, ◌++◌, length, codes, Option, Some, None, refl, sym, ap, ap₂, subst, drop, eqb-true}
use Rattle.std.specs.Prelude.{⊤, slice_get, encode_utf8}
use Rattle.std.specs.Char.{encode_utf8}
use Rattle.std.specs.Str.{bytes_eq, chars, encode_utf8_all, IsUtf8}
use Rattle.std.proofs.lemmas.Str.{IsUtf8-past_char, encodes-chars}
use Rattle.clap.specs.Lexer.{long_of, short_of}
use Rattle.clap.specs.Kinds.{Kinds, or_else}
use Rattle.clap.specs.Faults.{bundle_fault, bundle_step_fault, flags_fault, long_fault, option_fault, short_fault, other_fault, react_fault, settle_fault, step_fault, turn_fault, word_fault}
use Rattle.std.specs.Option.{option_map_or}
use Rattle.clap.specs.declared.error.kind.ErrorKind.TheVariants.{UnknownArgument}
use Rattle.clap.specs.Walk.{Held, Row, Rule, Step, Waiting, Walk, after_flag, after_step, arg_by_long, attached_value, bundle_met, idle, next, option, option_met, plain_word, positional, reacted, settled_rows, subcommand_met, trailing, walked, word_met}
use Rattle.own_words.specs.Words.{Text, is_plain, Kind, words, steps, outs, traces, without_equals}
use Rattle.own_words.proofs.Reading.{Sort, sort_of, Spelled, IsOdd, IsOddLong, before, value_in, is_text}
use Rattle.own_words.proofs.Reading as sort
use Rattle.own_words.specs.Held.{id_of}
use Rattle.own_words.proofs.Clap.{Name, leaf, options, rules, words_built, steps_built, out_built, trace_built, steps_named, trace_named, none_named, out_named, none_short}

-- ---- a fault

abbrev pub Faulty : Kinds → Type 0
Faulty [] = ⊥
Faulty (k ∷ ks) = ⊤

pub faulty_first : (a b : Kinds) → Faulty a → Faulty (or_else a b)
faulty_first [] b h = absurd h
faulty_first (k ∷ ks) b h = tt

pub faulty_next : (a b : Kinds) → a ≡ [] → Faulty b → Faulty (or_else a b)
faulty_next [] b h f = f
faulty_next (k ∷ ks) b h f = tt

pub past : (a b : Kinds) → a ≡ [] → or_else a b ≡ b
past a b h = ap (λ x. or_else x b) h

-- ---- where the walk stands

abbrev pub Pending : Type 0
Pending = Option (Text × List Text)

abbrev pub hold : List Row → Pending → Held
hold rows p = record { rows = rows; pending = p; skip = 0 }

-- before `--`, and behind it
abbrev pub at : Bool → Waiting → List Row → Pending → Walk
at behind wt rows p = record { held = hold rows p; waiting = wt; position = 1; is_trailing = behind; stopped = None }

no_sub : (wt : Waiting) (w : Text) → subcommand_met [] wt w ≡ None
no_sub idle w = refl
no_sub (option id) w = refl
no_sub positional w = refl

-- a turn, by what the word is
pub turn_is : (name : Text) (c : List Rule) (behind : Bool) (wt : Waiting) (rows : List Row) (p : Pending) (w : Text) (f : Kinds) (h : Held) (st : Step)
    → word_fault (leaf name c) [] behind wt w (hold rows p) ≡ f → word_met c [] behind wt 1 w (hold rows p) ≡ (h, st)
    → (turn_fault (leaf name c) [] (at behind wt rows p) w ≡ or_else f (step_fault (leaf name c) 1 h st))
    × (walked c [] (at behind wt rows p) w ≡ after_step c w (at behind wt rows p) h st)
unfolding walked
turn_is name c behind wt rows p w f h st fault met = (
  ap₂ (λ (x : Kinds) (m : Held × Step). or_else x (step_fault (leaf name c) 1 m.0 m.1)) fault met,
  ap (λ (m : Held × Step). after_step c w (at behind wt rows p) m.0 m.1) met,
)

-- a word whose fault does not wait for what it is
pub turn_fails : (name : Text) (c : List Rule) (behind : Bool) (wt : Waiting) (rows : List Row) (p : Pending) (w : Text)
    → Faulty (word_fault (leaf name c) [] behind wt w (hold rows p)) → Faulty (turn_fault (leaf name c) [] (at behind wt rows p) w)
turn_fails name c behind wt rows p w h =
    let met = word_met c [] behind wt 1 w (hold rows p) in
    faulty_first (word_fault (leaf name c) [] behind wt w (hold rows p)) (step_fault (leaf name c) 1 met.0 met.1) h

-- a word before `--` names no subcommand
word_fault_is : (name : Text) (c : List Rule) (wt : Waiting) (w : Text) (h : Held) (f : Kinds) → other_fault (leaf name c) None w h ≡ f
    → word_fault (leaf name c) [] false wt w h ≡ f
word_fault_is name c wt w h f e = ap (λ o. other_fault (leaf name c) o w h) (no_sub wt w) ∙ e

-- ---- a plain word

pub plain_looks : (w : Text) → is_plain w ≡ true → (bytes_eq w (45 ∷ 45 ∷ []) ≡ false) × (long_of w ≡ None) × (short_of w ≡ None)
plain_looks [] h = (refl, refl, refl)
plain_looks (b ∷ []) h = go (b == 45) refl
  where
    go : (t : Bool) → (b == 45) ≡ t → (bytes_eq (b ∷ []) (45 ∷ 45 ∷ []) ≡ false) × (long_of (b ∷ []) ≡ None) × (short_of (b ∷ []) ≡ None)
    go true e = (rw e refl, rw e refl, rw e refl)
    go false e = (rw e refl, rw e refl, rw e refl)
plain_looks (b ∷ c ∷ rest) h = go (b == 45) refl h
  where
    go : (t : Bool) → (b == 45) ≡ t → not t ≡ true
        → (bytes_eq (b ∷ c ∷ rest) (45 ∷ 45 ∷ []) ≡ false) × (long_of (b ∷ c ∷ rest) ≡ None) × (short_of (b ∷ c ∷ rest) ≡ None)
    go true e h = cc
    go false e h = (rw e refl, rw e refl, rw e refl)

pub plain_fault : (name : Text) (c : List Rule) (wt : Waiting) (w : Text) (h : Held) → is_plain w ≡ true → word_fault (leaf name c) [] false wt w h ≡ []
plain_fault name c wt w h p =
    let looks = plain_looks w p in
    word_fault_is name c wt w h [] (rw (looks.0, looks.1, looks.2) refl)

pub plain_met : (c : List Rule) (wt : Waiting) (w : Text) (h : Held) → is_plain w ≡ true → word_met c [] false wt 1 w h ≡ plain_word c wt w h
plain_met c idle w h p = let looks = plain_looks w p in rw (looks.0, looks.1, looks.2) refl
plain_met c (option id) w h p = let looks = plain_looks w p in rw (looks.0, looks.1, looks.2) refl
plain_met c positional w h p = let looks = plain_looks w p in rw (looks.0, looks.1, looks.2) refl

-- ---- `--`

pub dashes_fault : (name : Text) (c : List Rule) (wt : Waiting) (h : Held) → word_fault (leaf name c) [] false wt (codes "--") h ≡ []
dashes_fault name c wt h = word_fault_is name c wt (codes "--") h [] refl

pub dashes_met : (c : List Rule) (wt : Waiting) (h : Held) → word_met c [] false wt 1 (codes "--") h ≡ (h, trailing 1)
dashes_met c idle h = refl
dashes_met c (option id) h = refl
dashes_met c positional h = refl

-- a word that is an option, whatever waits
option_met_is : (c : List Rule) (wt : Waiting) (w : Text) (h : Held) (m : Held × Step)
    → word_met c [] false idle 1 w h ≡ m → ((id : Text) → word_met c [] false (option id) 1 w h ≡ m) → word_met c [] false positional 1 w h ≡ m
    → word_met c [] false wt 1 w h ≡ m
option_met_is c idle w h m a b p = a
option_met_is c (option id) w h m a b p = b id
option_met_is c positional w h m a b p = p

-- ---- options whose value is the next word

abbrev pub rule_of : Kind → Rule
rule_of words = words_built
rule_of steps = steps_built
rule_of outs = out_built
rule_of traces = trace_built

abbrev pub if_can : Bool → Kinds → Kinds
if_can true f = f
if_can false f = UnknownArgument ∷ []

steps_fault : (name : Text) (n : Name) (wt : Waiting) (h : Held) (can : Bool) → options n steps ≡ can
    → word_fault (leaf name (rules n)) [] false wt (codes "--steps") h ≡ if_can can (settle_fault (rules n) false h)
steps_fault name n wt h true e = word_fault_is name (rules n) wt (codes "--steps") h _ (rw (steps_named n, e) refl)
steps_fault name n wt h false e = word_fault_is name (rules n) wt (codes "--steps") h _ (rw (steps_named n, e) refl)

steps_met : (n : Name) (wt : Waiting) (rows : List Row) (p : Pending) → options n steps ≡ true
    → word_met (rules n) [] false wt 1 (codes "--steps") (hold rows p) ≡ (hold (settled_rows (rules n) p rows) (Some (codes "steps", [])), next (option (codes "steps")))
steps_met n wt rows p e = option_met_is (rules n) wt (codes "--steps") (hold rows p) _ (rw (steps_named n, e) refl) (λ id. rw (steps_named n, e) refl) (rw (steps_named n, e) refl)

out_fault : (name : Text) (n : Name) (wt : Waiting) (rows : List Row) (p : Pending) (can : Bool) → options n outs ≡ can
    → word_fault (leaf name (rules n)) [] false wt (codes "-o") (hold rows p) ≡ if_can can (settle_fault (rules n) false (hold rows p))
unfolding chars encode_utf8 flags_fault
out_fault name n wt rows p true e = word_fault_is name (rules n) wt (codes "-o") (hold rows p) _ (rw (out_named n, e) refl)
out_fault name n wt rows p false e = word_fault_is name (rules n) wt (codes "-o") (hold rows p) _ (rw (out_named n, e) refl)

out_met : (n : Name) (wt : Waiting) (rows : List Row) (p : Pending) → options n outs ≡ true
    → word_met (rules n) [] false wt 1 (codes "-o") (hold rows p) ≡ (hold (settled_rows (rules n) p rows) (Some (codes "out", [])), next (option (codes "out")))
unfolding chars encode_utf8 bundle_met
out_met n wt rows p e = option_met_is (rules n) wt (codes "-o") (hold rows p) _ (rw (out_named n, e) refl) (λ id. rw (out_named n, e) refl) (rw (out_named n, e) refl)

-- ---- options with their value

-- the values of a use, as `clap` reads them
abbrev pub read_values : Kind → Text → List Text
read_values traces v = []
read_values _ v = v ∷ []

steps_value_fault : (name : Text) (n : Name) (wt : Waiting) (v : Text) (h : Held) (can : Bool) → options n steps ≡ can
    → word_fault (leaf name (rules n)) [] false wt (codes "--steps=" ++ v) h ≡ if_can can (react_fault (rules n) false steps_built (v ∷ []) h)
steps_value_fault name n wt v h true e = word_fault_is name (rules n) wt (codes "--steps=" ++ v) h _ (rw (steps_named n, e) refl)
steps_value_fault name n wt v h false e = word_fault_is name (rules n) wt (codes "--steps=" ++ v) h _ (rw (steps_named n, e) refl)

steps_value_met : (n : Name) (wt : Waiting) (v : Text) (h : Held) → options n steps ≡ true
    → word_met (rules n) [] false wt 1 (codes "--steps=" ++ v) h ≡ (reacted (rules n) steps_built (v ∷ []) h, next idle)
steps_value_met n wt v h e = option_met_is (rules n) wt (codes "--steps=" ++ v) h _ (rw (steps_named n, e) refl) (λ id. rw (steps_named n, e) refl) (rw (steps_named n, e) refl)

trace_fault : (name : Text) (n : Name) (wt : Waiting) (h : Held) (can : Bool) → options n traces ≡ can
    → word_fault (leaf name (rules n)) [] false wt (codes "--trace") h ≡ if_can can (react_fault (rules n) false trace_built [] h)
trace_fault name n wt h true e = word_fault_is name (rules n) wt (codes "--trace") h _ (rw (trace_named n, e) refl)
trace_fault name n wt h false e = word_fault_is name (rules n) wt (codes "--trace") h _ (rw (trace_named n, e) refl)

trace_met : (n : Name) (wt : Waiting) (h : Held) → options n traces ≡ true
    → word_met (rules n) [] false wt 1 (codes "--trace") h ≡ (reacted (rules n) trace_built [] h, next idle)
trace_met n wt h e = option_met_is (rules n) wt (codes "--trace") h _ (rw (trace_named n, e) refl) (λ id. rw (trace_named n, e) refl) (rw (trace_named n, e) refl)

-- the value of `-o` in its own word
attached_is : (x : ℕ) (xs : Text) → attached_value (x ∷ xs) ≡ Some (without_equals (x ∷ xs))
attached_is x xs = go (x == 61)
  where
    go : (t : Bool) → option_map_or (λ v. Some v) (if t then Some xs else None) (Some (x ∷ xs)) ≡ Some (if t then xs else x ∷ xs)
    go true = refl
    go false = refl

out_value_fault : (name : Text) (n : Name) (wt : Waiting) (x : ℕ) (xs : Text) (rows : List Row) (p : Pending) (can : Bool) → options n outs ≡ can
    → word_fault (leaf name (rules n)) [] false wt (codes "-o" ++ (x ∷ xs)) (hold rows p)
    ≡ if_can can (react_fault (rules n) false out_built (without_equals (x ∷ xs) ∷ []) (hold rows p))
unfolding chars encode_utf8 flags_fault
out_value_fault name n wt x xs rows p true e =
    word_fault_is name (rules n) wt (codes "-o" ++ (x ∷ xs)) (hold rows p) _
    (rw (out_named n, e) (ap (λ o. option_fault (rules n) false out_built o (hold rows p)) (attached_is x xs)))
out_value_fault name n wt x xs rows p false e = word_fault_is name (rules n) wt (codes "-o" ++ (x ∷ xs)) (hold rows p) _ (rw (out_named n, e) refl)

abbrev out_read : List Rule → Waiting → Text → Option Text → Held → Held × Step
out_read c wt w o h = after_flag c wt w (option_met c out_built o h).0 (option_met c out_built o h).1

out_value_met : (n : Name) (wt : Waiting) (x : ℕ) (xs : Text) (rows : List Row) (p : Pending) → options n outs ≡ true
    → word_met (rules n) [] false wt 1 (codes "-o" ++ (x ∷ xs)) (hold rows p)
    ≡ (reacted (rules n) out_built (without_equals (x ∷ xs) ∷ []) (hold rows p), next idle)
unfolding chars encode_utf8 bundle_met
out_value_met n wt x xs rows p e = option_met_is (rules n) wt (codes "-o" ++ (x ∷ xs)) (hold rows p) _
    (rw (out_named n, e) (ap (λ o. out_read (rules n) idle (codes "-o" ++ (x ∷ xs)) o (hold rows p)) (attached_is x xs)))
    (λ id. rw (out_named n, e) (ap (λ o. out_read (rules n) (option id) (codes "-o" ++ (x ∷ xs)) o (hold rows p)) (attached_is x xs)))
    (rw (out_named n, e) (ap (λ o. out_read (rules n) positional (codes "-o" ++ (x ∷ xs)) o (hold rows p)) (attached_is x xs)))

-- ---- by kind

-- an option waits for its value
pub wants_fault : (name : Text) (n : Name) (k : Kind) (wt : Waiting) (w : Text) (rows : List Row) (p : Pending) (can : Bool) → options n k ≡ can → Spelled (sort.wants k) w
    → word_fault (leaf name (rules n)) [] false wt w (hold rows p) ≡ if_can can (settle_fault (rules n) false (hold rows p))
wants_fault name n words wt w rows p can e s = absurd s
wants_fault name n steps wt w rows p can e s = rw s (steps_fault name n wt (hold rows p) can e)
wants_fault name n outs wt w rows p can e s = rw s (out_fault name n wt rows p can e)
wants_fault name n traces wt w rows p can e s = absurd s

pub wants_met : (n : Name) (k : Kind) (wt : Waiting) (w : Text) (rows : List Row) (p : Pending) → options n k ≡ true → Spelled (sort.wants k) w
    → word_met (rules n) [] false wt 1 w (hold rows p) ≡ (hold (settled_rows (rules n) p rows) (Some (id_of k, [])), next (option (id_of k)))
wants_met n words wt w rows p e s = absurd s
wants_met n steps wt w rows p e s = rw s (steps_met n wt rows p e)
wants_met n outs wt w rows p e s = rw s (out_met n wt rows p e)
wants_met n traces wt w rows p e s = absurd s

-- an option with its value
pub gives_fault : (name : Text) (n : Name) (k : Kind) (v : Text) (wt : Waiting) (w : Text) (rows : List Row) (p : Pending) (can : Bool) → options n k ≡ can → Spelled (sort.gives k v) w
    → word_fault (leaf name (rules n)) [] false wt w (hold rows p) ≡ if_can can (react_fault (rules n) false (rule_of k) (read_values k v) (hold rows p))
gives_fault name n words v wt w rows p can e s = absurd s
gives_fault name n steps v wt w rows p can e s = rw s (steps_value_fault name n wt v (hold rows p) can e)
gives_fault name n outs v wt w rows p can e s = out_of s.0 s.1 s.2 s.3
  where
    out_of : (r : Text) → (r ≢ []) → w ≡ codes "-o" ++ r → v ≡ without_equals r
        → word_fault (leaf name (rules n)) [] false wt w (hold rows p) ≡ if_can can (react_fault (rules n) false out_built (v ∷ []) (hold rows p))
    out_of [] some is same = absurd (some refl)
    out_of (x ∷ xs) some is same =
        rw is (out_value_fault name n wt x xs rows p can e ∙ ap (λ y. if_can can (react_fault (rules n) false out_built (y ∷ []) (hold rows p))) (sym same))
gives_fault name n traces v wt w rows p can e s = rw s.0 (trace_fault name n wt (hold rows p) can e)

pub gives_met : (n : Name) (k : Kind) (v : Text) (wt : Waiting) (w : Text) (rows : List Row) (p : Pending) → options n k ≡ true → Spelled (sort.gives k v) w
    → word_met (rules n) [] false wt 1 w (hold rows p) ≡ (reacted (rules n) (rule_of k) (read_values k v) (hold rows p), next idle)
gives_met n words v wt w rows p e s = absurd s
gives_met n steps v wt w rows p e s = rw s (steps_value_met n wt v (hold rows p) e)
gives_met n outs v wt w rows p e s = out_of s.0 s.1 s.2 s.3
  where
    out_of : (r : Text) → (r ≢ []) → w ≡ codes "-o" ++ r → v ≡ without_equals r
        → word_met (rules n) [] false wt 1 w (hold rows p) ≡ (reacted (rules n) out_built (v ∷ []) (hold rows p), next idle)
    out_of [] some is same = absurd (some refl)
    out_of (x ∷ xs) some is same = rw (is, same) (out_value_met n wt x xs rows p e)
gives_met n traces v wt w rows p e s = rw s.0 (trace_met n wt (hold rows p) e)

-- ---- any other word

pub first_char : (b : ℕ) (rest : Text) → IsUtf8 (45 ∷ b ∷ rest) → (b == 111) ≡ false
    → (x : ℕ) × (slice_get (chars (b ∷ rest)) 0 ≡ Some x) × ((111 == x) ≡ false)
unfolding encode_utf8
first_char b rest utf8 apart = go (chars (b ∷ rest)) (encodes-chars (b ∷ rest) (IsUtf8-past_char (45 ∷ b ∷ rest) (b ∷ rest) 45 utf8 refl))
  where
    not_o : (x : ℕ) (xs : List ℕ) → encode_utf8_all (x ∷ xs) ≡ b ∷ rest → (t : Bool) → (111 == x) ≡ t → t ≡ false
    not_o x xs e false h = refl
    not_o x xs e true h =
        let is : 111 ≡ x = eqb-true 111 x h in
        let first : 111 ∷ encode_utf8_all xs ≡ b ∷ rest = rw (← is) at e in
        let same : 111 ≡ b = cc in
        let bad : (b == 111) ≡ true = rw (← same) refl in
        cc

    go : (cs : List ℕ) → encode_utf8_all cs ≡ b ∷ rest → (x : ℕ) × (slice_get cs 0 ≡ Some x) × ((111 == x) ≡ false)
    go [] e = cc
    go (x ∷ xs) e = (x, refl, not_o x xs e (111 == x) refl)

pub short_looks : (b : ℕ) (rest : Text) → (b == 45) ≡ false
    → (bytes_eq (45 ∷ b ∷ rest) (45 ∷ 45 ∷ []) ≡ false) × (long_of (45 ∷ b ∷ rest) ≡ None) × (short_of (45 ∷ b ∷ rest) ≡ Some (b ∷ rest))
short_looks b rest dash = (rw dash refl, rw dash refl, rw dash refl)

bundle_odd : (n : Name) (b x : ℕ) (rest : Text) (rows : List Row) (p : Pending) → slice_get (chars (b ∷ rest)) 0 ≡ Some x → (111 == x) ≡ false
    → bundle_fault (rules n) false (b ∷ rest) (hold rows p) ≡ UnknownArgument ∷ []
unfolding flags_fault
bundle_odd n b x rest rows p is apart =
    ap (λ c. bundle_step_fault (rules n) false c (b ∷ rest) 0 (hold rows p) (flags_fault (rules n) false (length rest))) is
    ∙ ap (λ a. short_fault (rules n) false a (drop (length (encode_utf8 x)) (b ∷ rest)) (hold rows p) (flags_fault (rules n) false (length rest) (drop (length (encode_utf8 x)) (b ∷ rest)) 0)) (none_short n x apart)

short_odd : (name : Text) (n : Name) (wt : Waiting) (b : ℕ) (rest : Text) (rows : List Row) (p : Pending) → IsUtf8 (45 ∷ b ∷ rest) → (b == 45) ≡ false → (b == 111) ≡ false
    → word_fault (leaf name (rules n)) [] false wt (45 ∷ b ∷ rest) (hold rows p) ≡ UnknownArgument ∷ []
short_odd name n wt b rest rows p utf8 dash o =
    let first = first_char b rest utf8 o in
    let looks = short_looks b rest dash in
    let bundled : other_fault (leaf name (rules n)) None (45 ∷ b ∷ rest) (hold rows p) ≡ bundle_fault (rules n) false (b ∷ rest) (hold rows p) = rw (looks.0, looks.1, looks.2) refl in
    word_fault_is name (rules n) wt (45 ∷ b ∷ rest) (hold rows p) (UnknownArgument ∷ [])
    (bundled ∙ bundle_odd n b first.0 rest rows p first.1 first.2)

traced : (n : Name) (v : Text) (h : Held) (can : Bool) → options n traces ≡ can → Faulty (long_fault (rules n) false (arg_by_long (rules n) (codes "trace")) (Some v) h)
traced n v h true e = rw (trace_named n, e) tt
traced n v h false e = rw (trace_named n, e) tt

abbrev long_answer : Name → Held → Text → Option Text → Kinds
long_answer n h name v = long_fault (rules n) false (arg_by_long (rules n) name) v h

long_odd : (name : Text) (n : Name) (wt : Waiting) (x : ℕ) (xs : Text) (rows : List Row) (p : Pending) → IsOddLong (x ∷ xs)
    → Faulty (word_fault (leaf name (rules n)) [] false wt (45 ∷ 45 ∷ x ∷ xs) (hold rows p))
long_odd name n wt x xs rows p (s, inl t) =
    subst Faulty (sym (word_fault_is name (rules n) wt (45 ∷ 45 ∷ x ∷ xs) (hold rows p) (UnknownArgument ∷ [])
    (ap (λ a. long_fault (rules n) false a (value_in (x ∷ xs)) (hold rows p)) (none_named n (before (x ∷ xs)) s t)))) tt
long_odd name n wt x xs rows p (s, inr (t, (v, is))) =
    subst Faulty (sym (word_fault_is name (rules n) wt (45 ∷ 45 ∷ x ∷ xs) (hold rows p) (long_answer n (hold rows p) (codes "trace") (Some v))
    (ap₂ (long_answer n (hold rows p)) (is_text (codes "trace") (before (x ∷ xs)) t) is))) (traced n v (hold rows p) (options n traces) refl)

pub odd_fails : (name : Text) (n : Name) (wt : Waiting) (w : Text) (rows : List Row) (p : Pending) → IsUtf8 w → IsOdd w
    → Faulty (word_fault (leaf name (rules n)) [] false wt w (hold rows p))
odd_fails name n wt w rows p utf8 (inl (b, rest, is, dash, o)) =
    subst (λ y. Faulty (word_fault (leaf name (rules n)) [] false wt y (hold rows p))) (sym is)
    (subst Faulty (sym (short_odd name n wt b rest rows p (subst IsUtf8 is utf8) dash o)) tt)
odd_fails name n wt w rows p utf8 (inr (x, xs, is, odd)) =
    subst (λ y. Faulty (word_fault (leaf name (rules n)) [] false wt y (hold rows p))) (sym is) (long_odd name n wt x xs rows p odd)
