-- The walk over the words after the first finds what is read of them, and fails where they may not stand.
use Rattle.std.proofs.Common.{◌≡◌, ◌∙◌, ◌&&◌, not, Bool, true, false, if◌then◌else◌, List, [], ◌∷◌, ◌++◌, codes, Option, Some, None, refl, sym, ap, subst, append-nil, append_assoc}
use Rattle.std.specs.Prelude.{⊤}
use Rattle.std.specs.List.{fold}
use Rattle.std.specs.Str.{IsUtf8}
use Rattle.clap.specs.Kinds.{Kinds, or_else}
use Rattle.clap.specs.Faults.{react_fault, settle_fault, step_fault, turn_fault, use_fault, walk_fault, word_fault}
use Rattle.clap.specs.Walk.{Held, Row, Rule, Waiting, Walk, after_step, arg_by_id, has_row, idle, is_pending, next, option, plain_word, positional, pushed, settled, settled_rows, trailing, used, value, walked, with_values, word_met}
use Rattle.clap.specs.declared.builder.value_parser.Reading.TheVariants.{AsWritten}
use Rattle.clap.specs.declared.parser.matches.ValueSource.TheVariants.{CommandLine}
use Rattle.own_words.specs.Words.{Text, is_plain, Kind, words, steps, outs, traces, Given}
use Rattle.own_words.proofs.Reading.{Sort, sort_of, Spelled, spelled, is_none, only, put, if_new, read_word, read_value, read_next, read}
use Rattle.own_words.proofs.Reading as sort
use Rattle.own_words.specs.Held.{entry, id_of, shown}
use Rattle.own_words.proofs.Rows.{has_given, Holds, put_holds, without_none}
use Rattle.own_words.proofs.Clap.{Name, leaf, options, rules, words_built, words_at, words_by_id, steps_by_id, out_by_id}
use Rattle.own_words.proofs.Turns.{Faulty, faulty_first, faulty_next, past, Pending, hold, at, turn_is, turn_fails, plain_fault, plain_met, dashes_fault, dashes_met, rule_of, read_values, wants_fault, wants_met, gives_fault, gives_met, odd_fails}

-- ---- one use of an argument

-- the value that a use of the option gives
abbrev IsValue : Kind → Text → Type 0
IsValue words v = ⊥
IsValue steps v = ⊤
IsValue outs v = ⊤
IsValue traces v = v ≡ codes "true"

-- the option takes a value
abbrev IsValued : Kind → Type 0
IsValued words = ⊥
IsValued steps = ⊤
IsValued outs = ⊤
IsValued traces = ⊥

valued : (k : Kind) (v : Text) → IsValued k → IsValue k v
valued words v h = absurd h
valued steps v h = tt
valued outs v h = tt
valued traces v h = absurd h

spelled_value : (k : Kind) (v w : Text) → Spelled (sort.gives k v) w → IsValue k v
spelled_value words v w h = absurd h
spelled_value steps v w h = tt
spelled_value outs v w h = tt
spelled_value traces v w h = h.1

spelled_valued : (k : Kind) (w : Text) → Spelled (sort.wants k) w → IsValued k
spelled_valued words w h = absurd h
spelled_valued steps w h = tt
spelled_valued outs w h = tt
spelled_valued traces w h = absurd h

use_new : (k : Kind) (v : Text) (rows : List Row) → IsValue k v → has_row (id_of k) rows ≡ false → use_fault false (rule_of k) (read_values k v) rows ≡ []
use_new words v rows is h = absurd is
use_new steps v rows is h = rw h refl
use_new outs v rows is h = rw h refl
use_new traces v rows is h = rw h refl

use_again : (k : Kind) (v : Text) (rows : List Row) → IsValue k v → has_row (id_of k) rows ≡ true → Faulty (use_fault false (rule_of k) (read_values k v) rows)
use_again words v rows is h = absurd is
use_again steps v rows is h = rw h tt
use_again outs v rows is h = rw h tt
use_again traces v rows is h = rw h tt

used_is : (k : Kind) (v : Text) (rows : List Row) → IsValue k v → entry (id_of k) rows ≡ None
    → used (rule_of k) (read_values k v) rows ≡ with_values (id_of k) AsWritten CommandLine (v ∷ []) rows
used_is words v rows is h = absurd is
used_is steps v rows is h = ap (λ rs. with_values (codes "steps") AsWritten CommandLine (v ∷ []) rs) (without_none (codes "steps") rows h)
used_is outs v rows is h = ap (λ rs. with_values (codes "out") AsWritten CommandLine (v ∷ []) rs) (without_none (codes "out") rows h)
used_is traces v rows is h = rw is (ap (λ rs. with_values (codes "trace") AsWritten CommandLine (codes "true" ∷ []) rs) (without_none (codes "trace") rows h))

nothing : (vs : List Text) → is_none vs ≡ true → shown vs ≡ None
nothing [] h = refl
nothing (v ∷ vs) h = cc

used_holds : (k : Kind) (v : Text) (g : Given) (rows : List Row) → IsValue k v → is_none (g k) ≡ true → Holds g rows → Holds (put k (v ∷ []) g) (used (rule_of k) (read_values k v) rows)
used_holds k v g rows is none h =
    subst (Holds (put k (v ∷ []) g)) (sym (used_is k v rows is (h k ∙ nothing (g k) none))) (put_holds k g rows CommandLine v h)

-- ---- an argument whose values are being read

by_id : (n : Name) (k : Kind) → IsValued k → options n k ≡ true → arg_by_id (rules n) (id_of k) ≡ Some (rule_of k)
by_id n words is e = absurd is
by_id n steps is e = rw (steps_by_id n, e) refl
by_id n outs is e = rw (out_by_id n, e) refl
by_id n traces is e = absurd is

words_settle : (n : Name) (rows : List Row) (w : Text) → settle_fault (rules n) false (hold rows (Some (codes "words", w ∷ []))) ≡ []
words_settle n rows w = rw (words_by_id n) refl

words_settled : (n : Name) (rows : List Row) (w : Text)
    → settled_rows (rules n) (Some (codes "words", w ∷ [])) rows ≡ with_values (codes "words") AsWritten CommandLine (w ∷ []) rows
words_settled n rows w = rw (words_by_id n) refl

-- the option waits
none_settle : (n : Name) (k : Kind) (rows : List Row) → IsValued k → options n k ≡ true → Faulty (settle_fault (rules n) false (hold rows (Some (id_of k, []))))
none_settle n words rows is e = absurd is
none_settle n steps rows is e = rw (by_id n steps tt e) tt
none_settle n outs rows is e = rw (by_id n outs tt e) tt
none_settle n traces rows is e = absurd is

-- the option has its value
value_settle : (n : Name) (k : Kind) (v : Text) (rows : List Row) → IsValued k → options n k ≡ true
    → settle_fault (rules n) false (hold rows (Some (id_of k, v ∷ []))) ≡ use_fault false (rule_of k) (read_values k v) rows
value_settle n words v rows is e = absurd is
value_settle n steps v rows is e = rw (by_id n steps tt e) refl
value_settle n outs v rows is e = rw (by_id n outs tt e) refl
value_settle n traces v rows is e = absurd is

value_settled : (n : Name) (k : Kind) (v : Text) (rows : List Row) → IsValued k → options n k ≡ true
    → settled_rows (rules n) (Some (id_of k, v ∷ [])) rows ≡ used (rule_of k) (read_values k v) rows
value_settled n words v rows is e = absurd is
value_settled n steps v rows is e = rw (by_id n steps tt e) refl
value_settled n outs v rows is e = rw (by_id n outs tt e) refl
value_settled n traces v rows is e = absurd is

value_met : (n : Name) (k : Kind) (v : Text) (rows : List Row) → IsValued k → options n k ≡ true
    → plain_word (rules n) (option (id_of k)) v (hold rows (Some (id_of k, []))) ≡ (hold rows (Some (id_of k, v ∷ [])), next idle)
value_met n words v rows is e = absurd is
value_met n steps v rows is e = rw (by_id n steps tt e) refl
value_met n outs v rows is e = rw (by_id n outs tt e) refl
value_met n traces v rows is e = absurd is

-- ---- a word that goes to the plain words

and_false : (b : Bool) → (b && false) ≡ false
and_false true = refl
and_false false = refl

step_value : (name : Text) (n : Name) (rows : List Row) (p : Pending) → step_fault (leaf name (rules n)) 1 (hold rows p) value ≡ settle_fault (rules n) false (hold rows p)
step_value name n rows p = rw (words_at n) (ap (λ b. if b then [] else settle_fault (rules n) false (hold rows p)) (and_false (is_pending words_built p)))

abbrev walk_at : Bool → Text → Held → Walk
walk_at behind w h = record { held = pushed (codes "words") w h; waiting = positional; position = 1; is_trailing = behind; stopped = None }

after_value : (n : Name) (behind : Bool) (wt : Waiting) (rows : List Row) (p : Pending) (w : Text)
    → after_step (rules n) w (at behind wt rows p) (hold rows p) value ≡ at behind positional (settled_rows (rules n) p rows) (Some (codes "words", w ∷ []))
after_value n true wt rows p w =
    rw (words_at n) (ap (λ b. walk_at true w (if b then hold rows p else settled (rules n) (hold rows p))) (and_false (is_pending words_built p)))
after_value n false wt rows p w =
    rw (words_at n) (ap (λ b. walk_at false w (if b then hold rows p else settled (rules n) (hold rows p))) (and_false (is_pending words_built p)))

value_turn : (name : Text) (n : Name) (behind : Bool) (wt : Waiting) (rows : List Row) (p : Pending) (w : Text)
    → word_fault (leaf name (rules n)) [] behind wt w (hold rows p) ≡ [] → word_met (rules n) [] behind wt 1 w (hold rows p) ≡ (hold rows p, value)
    → (turn_fault (leaf name (rules n)) [] (at behind wt rows p) w ≡ settle_fault (rules n) false (hold rows p))
    × (walked (rules n) [] (at behind wt rows p) w ≡ at behind positional (settled_rows (rules n) p rows) (Some (codes "words", w ∷ [])))
value_turn name n behind wt rows p w fault met =
    let turn = turn_is name (rules n) behind wt rows p w [] (hold rows p) value fault met in
    (turn.0 ∙ step_value name n rows p, turn.1 ∙ after_value n behind wt rows p w)

-- a turn that is done with its word
next_turn : (name : Text) (n : Name) (wt after : Waiting) (rows now : List Row) (p q : Pending) (w : Text) (f : Kinds)
    → word_fault (leaf name (rules n)) [] false wt w (hold rows p) ≡ f → f ≡ [] → word_met (rules n) [] false wt 1 w (hold rows p) ≡ (hold now q, next after)
    → (turn_fault (leaf name (rules n)) [] (at false wt rows p) w ≡ []) × (walked (rules n) [] (at false wt rows p) w ≡ at false after now q)
next_turn name n wt after rows now p q w f fault none met =
    let turn = turn_is name (rules n) false wt rows p w [] (hold now q) (next after) (fault ∙ none) met in
    (turn.0, turn.1)

dashes_turn : (name : Text) (n : Name) (wt : Waiting) (rows : List Row) (p : Pending) (w : Text) → w ≡ codes "--"
    → (turn_fault (leaf name (rules n)) [] (at false wt rows p) w ≡ []) × (walked (rules n) [] (at false wt rows p) w ≡ at true wt rows p)
dashes_turn name n wt rows p w is =
    let turn = turn_is name (rules n) false wt rows p w [] (hold rows p) (trailing 1)
    (rw is (dashes_fault name (rules n) wt (hold rows p))) (rw is (dashes_met (rules n) wt (hold rows p))) in
    (turn.0, turn.1)

-- ---- the walk

abbrev pub level : Text → Name → Walk → List Text → Kinds
level name n w ws = or_else (walk_fault (leaf name (rules n)) [] w ws) (settle_fault (rules n) false (fold (walked (rules n) []) w ws).held)

abbrev pub end_rows : Name → Walk → List Text → List Row
end_rows n w ws = (settled (rules n) (fold (walked (rules n) []) w ws).held).rows

abbrev pub Agrees : Text → Name → Walk → List Text → Option Given → Type 0
Agrees name n w ws None = Faulty (level name n w ws)
Agrees name n w ws (Some g) = (level name n w ws ≡ []) × Holds g (end_rows n w ws)

level_step : (name : Text) (n : Name) (w : Walk) (x : Text) (ws : List Text) → turn_fault (leaf name (rules n)) [] w x ≡ []
    → level name n w (x ∷ ws) ≡ level name n (walked (rules n) [] w x) ws
unfolding walk_fault
level_step name n w x ws e =
    ap (λ f. or_else (or_else f (walk_fault (leaf name (rules n)) [] (walked (rules n) [] w x) ws)) (settle_fault (rules n) false (fold (walked (rules n) []) (walked (rules n) [] w x) ws).held)) e

walk_fails : (name : Text) (n : Name) (w : Walk) (x : Text) (ws : List Text) → Faulty (turn_fault (leaf name (rules n)) [] w x) → Faulty (level name n w (x ∷ ws))
unfolding walk_fault
walk_fails name n w x ws h =
    faulty_first (or_else (turn_fault (leaf name (rules n)) [] w x) (walk_fault (leaf name (rules n)) [] (walked (rules n) [] w x) ws))
    (settle_fault (rules n) false (fold (walked (rules n) []) (walked (rules n) [] w x) ws).held)
    (faulty_first (turn_fault (leaf name (rules n)) [] w x) (walk_fault (leaf name (rules n)) [] (walked (rules n) [] w x) ws) h)

level_end : (name : Text) (n : Name) (w : Walk) → level name n w [] ≡ settle_fault (rules n) false w.held
unfolding walk_fault
level_end name n w = refl

agrees_step : (name : Text) (n : Name) (w v : Walk) (x : Text) (ws : List Text) (r : Option Given)
    → (turn_fault (leaf name (rules n)) [] w x ≡ []) × (walked (rules n) [] w x ≡ v) → Agrees name n v ws r → Agrees name n w (x ∷ ws) r
agrees_step name n w v x ws None turn h = subst Faulty (sym (level_step name n w x ws turn.0 ∙ ap (λ y. level name n y ws) turn.1)) h
agrees_step name n w v x ws (Some g) turn h =
    (level_step name n w x ws turn.0 ∙ ap (λ y. level name n y ws) turn.1 ∙ h.0, subst (λ y. Holds g (end_rows n y ws)) (sym turn.1) h.1)

-- ---- words behind `--`

same : {g h : Given} → ((k : Kind) → g k ≡ h k) → g ≡ h
same e = λ i k. e k i

no_more : (g : Given) (k : Kind) → g k ≡ put words [] g k
no_more g words = sym (append-nil (g words))
no_more g steps = sym (append-nil (g steps))
no_more g outs = sym (append-nil (g outs))
no_more g traces = sym (append-nil (g traces))

one_more : (g : Given) (x : Text) (xs : List Text) (k : Kind) → put words xs (put words (x ∷ []) g) k ≡ put words (x ∷ xs) g k
one_more g x xs words = append_assoc (g words) (x ∷ []) xs
one_more g x xs steps = append-nil (g steps ++ [])
one_more g x xs outs = append-nil (g outs ++ [])
one_more g x xs traces = append-nil (g traces ++ [])

-- the word x is held, as the last plain word
word_holds : (n : Name) (g : Given) (rows : List Row) (w : Text) → Holds g rows → Holds (put words (w ∷ []) g) (settled_rows (rules n) (Some (codes "words", w ∷ [])) rows)
word_holds n g rows w h = subst (Holds (put words (w ∷ []) g)) (sym (words_settled n rows w)) (put_holds words g rows CommandLine w h)

behind_turn : (name : Text) (n : Name) (wt : Waiting) (rows : List Row) (p : Pending) (w : Text)
    → (turn_fault (leaf name (rules n)) [] (at true wt rows p) w ≡ settle_fault (rules n) false (hold rows p))
    × (walked (rules n) [] (at true wt rows p) w ≡ at true positional (settled_rows (rules n) p rows) (Some (codes "words", w ∷ [])))
behind_turn name n wt rows p w = value_turn name n true wt rows p w refl refl

behind_agrees : (name : Text) (n : Name) (ws : List Text) (g : Given) (wt : Waiting) (rows : List Row) (p : Pending)
    → settle_fault (rules n) false (hold rows p) ≡ [] → Holds g (settled_rows (rules n) p rows) → Agrees name n (at true wt rows p) ws (Some (put words ws g))
behind_agrees name n [] g wt rows p settles h = (level_end name n (at true wt rows p) ∙ settles, subst (λ y. Holds y (settled_rows (rules n) p rows)) (same (no_more g)) h)
behind_agrees name n (x ∷ ws) g wt rows p settles h =
    let turn = behind_turn name n wt rows p x in
    let after = at true positional (settled_rows (rules n) p rows) (Some (codes "words", x ∷ [])) in
    let more = behind_agrees name n ws (put words (x ∷ []) g) positional (settled_rows (rules n) p rows) (Some (codes "words", x ∷ []))
    (words_settle n (settled_rows (rules n) p rows) x) (word_holds n g (settled_rows (rules n) p rows) x h) in
    agrees_step name n (at true wt rows p) after x ws (Some (put words (x ∷ ws) g)) (turn.0 ∙ settles, turn.1)
    (subst (λ y. Agrees name n after ws (Some y)) (same (one_more g x ws)) more)

behind_fails : (name : Text) (n : Name) (ws : List Text) (wt : Waiting) (rows : List Row) (p : Pending)
    → Faulty (settle_fault (rules n) false (hold rows p)) → Faulty (level name n (at true wt rows p) ws)
behind_fails name n [] wt rows p h = subst Faulty (sym (level_end name n (at true wt rows p))) h
behind_fails name n (x ∷ ws) wt rows p h =
    walk_fails name n (at true wt rows p) x ws (subst Faulty (sym (behind_turn name n wt rows p x).0) h)

-- ---- words before it

-- no option waits
abbrev IsReady : Waiting → Type 0
IsReady idle = ⊤
IsReady (option id) = ⊥
IsReady positional = ⊤

ready_word : (c : List Rule) (wt : Waiting) (w : Text) (h : Held) → IsReady wt → plain_word c wt w h ≡ (h, value)
ready_word c idle w h r = refl
ready_word c (option id) w h r = absurd r
ready_word c positional w h r = refl

plain_turn : (name : Text) (n : Name) (wt : Waiting) (rows : List Row) (p : Pending) (w : Text) → IsReady wt → is_plain w ≡ true
    → (turn_fault (leaf name (rules n)) [] (at false wt rows p) w ≡ settle_fault (rules n) false (hold rows p))
    × (walked (rules n) [] (at false wt rows p) w ≡ at false positional (settled_rows (rules n) p rows) (Some (codes "words", w ∷ [])))
plain_turn name n wt rows p w r plain =
    value_turn name n false wt rows p w (plain_fault name (rules n) wt w (hold rows p) plain)
    (plain_met (rules n) wt w (hold rows p) plain ∙ ready_word (rules n) wt w (hold rows p) r)

-- an option's word, where what is held fails, or where there is no such option
wants_fails : (name : Text) (n : Name) (k : Kind) (wt : Waiting) (rows : List Row) (p : Pending) (w : Text) (can : Bool) → options n k ≡ can → Spelled (sort.wants k) w
    → (can ≡ true → Faulty (settle_fault (rules n) false (hold rows p))) → Faulty (turn_fault (leaf name (rules n)) [] (at false wt rows p) w)
wants_fails name n k wt rows p w true e s h =
    turn_fails name (rules n) false wt rows p w (subst Faulty (sym (wants_fault name n k wt w rows p true e s)) (h refl))
wants_fails name n k wt rows p w false e s h =
    turn_fails name (rules n) false wt rows p w (subst Faulty (sym (wants_fault name n k wt w rows p false e s)) tt)

gives_fails : (name : Text) (n : Name) (k : Kind) (v : Text) (wt : Waiting) (rows : List Row) (p : Pending) (w : Text) (can : Bool) → options n k ≡ can → Spelled (sort.gives k v) w
    → (can ≡ true → Faulty (react_fault (rules n) false (rule_of k) (read_values k v) (hold rows p))) → Faulty (turn_fault (leaf name (rules n)) [] (at false wt rows p) w)
gives_fails name n k v wt rows p w true e s h =
    turn_fails name (rules n) false wt rows p w (subst Faulty (sym (gives_fault name n k v wt w rows p true e s)) (h refl))
gives_fails name n k v wt rows p w false e s h =
    turn_fails name (rules n) false wt rows p w (subst Faulty (sym (gives_fault name n k v wt w rows p false e s)) tt)

-- what is held fails, whatever follows
sort_fails : (name : Text) (n : Name) (wt : Waiting) (rows : List Row) (p : Pending) (s : Sort) (x : Text) (ws : List Text) → Spelled s x → IsUtf8 x → IsReady wt
    → Faulty (settle_fault (rules n) false (hold rows p)) → Faulty (level name n (at false wt rows p) (x ∷ ws))
sort_fails name n wt rows p sort.plain_word x ws s utf8 r h =
    walk_fails name n (at false wt rows p) x ws (subst Faulty (sym (plain_turn name n wt rows p x r s).0) h)
sort_fails name n wt rows p sort.dashes x ws s utf8 r h =
    agrees_step name n (at false wt rows p) (at true wt rows p) x ws None (dashes_turn name n wt rows p x s) (behind_fails name n ws wt rows p h)
sort_fails name n wt rows p (sort.wants k) x ws s utf8 r h = walk_fails name n (at false wt rows p) x ws (wants_fails name n k wt rows p x (options n k) refl s (λ e. h))
sort_fails name n wt rows p (sort.gives k v) x ws s utf8 r h =
    walk_fails name n (at false wt rows p) x ws (gives_fails name n k v wt rows p x (options n k) refl s
    (λ e. faulty_first (settle_fault (rules n) false (hold rows p)) (use_fault false (rule_of k) (read_values k v) (settled_rows (rules n) p rows)) h))
sort_fails name n wt rows p sort.unknown x ws s utf8 r h =
    walk_fails name n (at false wt rows p) x ws (turn_fails name (rules n) false wt rows p x (odd_fails name n wt x rows p utf8 s))

abbrev pub AllUtf8 : List Text → Type 0
AllUtf8 [] = ⊤
AllUtf8 (w ∷ ws) = IsUtf8 w × AllUtf8 ws

held_fails : (name : Text) (n : Name) (wt : Waiting) (rows : List Row) (p : Pending) (ws : List Text) → AllUtf8 ws → IsReady wt
    → Faulty (settle_fault (rules n) false (hold rows p)) → Faulty (level name n (at false wt rows p) ws)
held_fails name n wt rows p [] utf8 r h = subst Faulty (sym (level_end name n (at false wt rows p))) h
held_fails name n wt rows p (x ∷ ws) utf8 r h = sort_fails name n wt rows p (sort_of x) x ws (spelled x) utf8.0 r h

-- ---- the induction

abbrev Ready : Text → Name → List Text → Type 0
Ready name n ws = (g : Given) (wt : Waiting) (rows : List Row) (p : Pending) → IsReady wt → settle_fault (rules n) false (hold rows p) ≡ []
    → Holds g (settled_rows (rules n) p rows) → Agrees name n (at false wt rows p) ws (read (options n) g None ws)

abbrev Waits : Text → Name → List Text → Type 0
Waits name n ws = (g : Given) (k : Kind) (rows : List Row) → IsValued k → options n k ≡ true → Holds g rows
    → Agrees name n (at false (option (id_of k)) rows (Some (id_of k, []))) ws (read (options n) g (Some k) ws)

abbrev rest_read : Name → List Text → Given → Option Kind → Option Given
rest_read n ws g k = read (options n) g k ws

abbrev add_if : Bool → Name → Kind → Text → List Text → Given → Option Given
add_if b n k v ws g = if b then read (options n) (put k (v ∷ []) g) None ws else None

new_row : (k : Kind) (g : Given) (rows : List Row) → Holds g rows → is_none (g k) ≡ true → has_row (id_of k) rows ≡ false
new_row k g rows h new = has_given k g rows h ∙ ap not new

old_row : (k : Kind) (g : Given) (rows : List Row) → Holds g rows → is_none (g k) ≡ false → has_row (id_of k) rows ≡ true
old_row k g rows h old = has_given k g rows h ∙ ap not old

-- an option with its value
gives_agrees : (name : Text) (n : Name) (k : Kind) (v x : Text) (ws : List Text) → Ready name n ws → Spelled (sort.gives k v) x → (g : Given) (wt : Waiting) (rows : List Row) (p : Pending)
    → settle_fault (rules n) false (hold rows p) ≡ [] → Holds g (settled_rows (rules n) p rows) → (can new : Bool) → options n k ≡ can → is_none (g k) ≡ new
    → Agrees name n (at false wt rows p) (x ∷ ws) (add_if (can && new) n k v ws g)
gives_agrees name n k v x ws more s g wt rows p settles h false new e f =
    walk_fails name n (at false wt rows p) x ws (gives_fails name n k v wt rows p x false e s (λ t. cc))
gives_agrees name n k v x ws more s g wt rows p settles h true false e f =
    let before = settled_rows (rules n) p rows in
    walk_fails name n (at false wt rows p) x ws (gives_fails name n k v wt rows p x true e s
    (λ t. faulty_next (settle_fault (rules n) false (hold rows p)) (use_fault false (rule_of k) (read_values k v) before) settles
    (use_again k v before (spelled_value k v x s) (old_row k g before h f))))
gives_agrees name n k v x ws more s g wt rows p settles h true true e f =
    let before = settled_rows (rules n) p rows in
    let is = spelled_value k v x s in
    let now = used (rule_of k) (read_values k v) before in
    agrees_step name n (at false wt rows p) (at false idle now None) x ws (read (options n) (put k (v ∷ []) g) None ws)
    (next_turn name n wt idle rows now p None x (react_fault (rules n) false (rule_of k) (read_values k v) (hold rows p))
    (gives_fault name n k v wt x rows p true e s)
    (past (settle_fault (rules n) false (hold rows p)) (use_fault false (rule_of k) (read_values k v) before) settles ∙ use_new k v before is (new_row k g before h f))
    (gives_met n k v wt x rows p e s))
    (more (put k (v ∷ []) g) idle now None tt refl (used_holds k v g before is f h))

-- an option whose value is the next word
wants_agrees : (name : Text) (n : Name) (k : Kind) (x : Text) (ws : List Text) → Waits name n ws → Spelled (sort.wants k) x → (g : Given) (wt : Waiting) (rows : List Row) (p : Pending)
    → settle_fault (rules n) false (hold rows p) ≡ [] → Holds g (settled_rows (rules n) p rows) → (can : Bool) → options n k ≡ can
    → Agrees name n (at false wt rows p) (x ∷ ws) (if can then read (options n) g (Some k) ws else None)
wants_agrees name n k x ws more s g wt rows p settles h false e = walk_fails name n (at false wt rows p) x ws (wants_fails name n k wt rows p x false e s (λ t. cc))
wants_agrees name n k x ws more s g wt rows p settles h true e =
    let before = settled_rows (rules n) p rows in
    agrees_step name n (at false wt rows p) (at false (option (id_of k)) before (Some (id_of k, []))) x ws (read (options n) g (Some k) ws)
    (next_turn name n wt (option (id_of k)) rows before p (Some (id_of k, [])) x (settle_fault (rules n) false (hold rows p))
    (wants_fault name n k wt x rows p true e s) settles (wants_met n k wt x rows p e s))
    (more g k before (spelled_valued k x s) e h)

-- the word that is a value
value_agrees : (name : Text) (n : Name) (k : Kind) (x : Text) (ws : List Text) → AllUtf8 ws → Ready name n ws → is_plain x ≡ true → (g : Given) (rows : List Row) → IsValued k → options n k ≡ true
    → Holds g rows → (new : Bool) → is_none (g k) ≡ new
    → Agrees name n (at false (option (id_of k)) rows (Some (id_of k, []))) (x ∷ ws) (add_if new n k x ws g)
value_agrees name n k x ws utf8 more plain g rows is e h new f =
    let wt = option (id_of k) in
    let p = Some (id_of k, []) in
    let q = Some (id_of k, x ∷ []) in
    let turn = next_turn name n wt idle rows rows p q x [] (plain_fault name (rules n) wt x (hold rows p) plain) refl
    (plain_met (rules n) wt x (hold rows p) plain ∙ value_met n k x rows is e) in
    go new f turn
  where
    go : (new : Bool) → is_none (g k) ≡ new
        → (turn_fault (leaf name (rules n)) [] (at false (option (id_of k)) rows (Some (id_of k, []))) x ≡ [])
        × (walked (rules n) [] (at false (option (id_of k)) rows (Some (id_of k, []))) x ≡ at false idle rows (Some (id_of k, x ∷ [])))
        → Agrees name n (at false (option (id_of k)) rows (Some (id_of k, []))) (x ∷ ws) (add_if new n k x ws g)
    go true f turn =
        agrees_step name n (at false (option (id_of k)) rows (Some (id_of k, []))) (at false idle rows (Some (id_of k, x ∷ []))) x ws (read (options n) (put k (x ∷ []) g) None ws) turn
        (more (put k (x ∷ []) g) idle rows (Some (id_of k, x ∷ [])) tt
        (value_settle n k x rows is e ∙ use_new k x rows (valued k x is) (new_row k g rows h f))
        (subst (Holds (put k (x ∷ []) g)) (sym (value_settled n k x rows is e)) (used_holds k x g rows (valued k x is) f h)))
    go false f turn =
        agrees_step name n (at false (option (id_of k)) rows (Some (id_of k, []))) (at false idle rows (Some (id_of k, x ∷ []))) x ws None turn
        (held_fails name n idle rows (Some (id_of k, x ∷ [])) ws utf8 tt
        (subst Faulty (sym (value_settle n k x rows is e)) (use_again k x rows (valued k x is) (old_row k g rows h f))))

ready_sort : (name : Text) (n : Name) (s : Sort) (x : Text) (ws : List Text) → Spelled s x → IsUtf8 x → Ready name n ws → Waits name n ws
    → (g : Given) (wt : Waiting) (rows : List Row) (p : Pending) → IsReady wt → settle_fault (rules n) false (hold rows p) ≡ []
    → Holds g (settled_rows (rules n) p rows) → Agrees name n (at false wt rows p) (x ∷ ws) (read_word (options n) g s x ws (rest_read n ws))
ready_sort name n sort.plain_word x ws s utf8 more waits g wt rows p r settles h =
    let before = settled_rows (rules n) p rows in
    let turn = plain_turn name n wt rows p x r s in
    agrees_step name n (at false wt rows p) (at false positional before (Some (codes "words", x ∷ []))) x ws (read (options n) (put words (x ∷ []) g) None ws)
    (turn.0 ∙ settles, turn.1)
    (more (put words (x ∷ []) g) positional before (Some (codes "words", x ∷ [])) tt (words_settle n before x) (word_holds n g before x h))
ready_sort name n sort.dashes x ws s utf8 more waits g wt rows p r settles h =
    agrees_step name n (at false wt rows p) (at true wt rows p) x ws (Some (put words ws g)) (dashes_turn name n wt rows p x s) (behind_agrees name n ws g wt rows p settles h)
ready_sort name n (sort.wants k) x ws s utf8 more waits g wt rows p r settles h = wants_agrees name n k x ws waits s g wt rows p settles h (options n k) refl
ready_sort name n (sort.gives k v) x ws s utf8 more waits g wt rows p r settles h = gives_agrees name n k v x ws more s g wt rows p settles h (options n k) (is_none (g k)) refl refl
ready_sort name n sort.unknown x ws s utf8 more waits g wt rows p r settles h =
    walk_fails name n (at false wt rows p) x ws (turn_fails name (rules n) false wt rows p x (odd_fails name n wt x rows p utf8 s))

waits_sort : (name : Text) (n : Name) (s : Sort) (x : Text) (ws : List Text) → Spelled s x → IsUtf8 x → AllUtf8 ws → Ready name n ws
    → (g : Given) (k : Kind) (rows : List Row) → IsValued k → options n k ≡ true → Holds g rows
    → Agrees name n (at false (option (id_of k)) rows (Some (id_of k, []))) (x ∷ ws) (read_value (options n) g k s x (rest_read n ws))
waits_sort name n sort.plain_word x ws s utf8 rest more g k rows is e h =
    let agreed = value_agrees name n k x ws rest more s g rows is e h (is_none (g k)) refl in
    subst (λ c. Agrees name n (at false (option (id_of k)) rows (Some (id_of k, []))) (x ∷ ws) (add_if (c && is_none (g k)) n k x ws g)) (sym e) agreed
waits_sort name n sort.dashes x ws s utf8 rest more g k rows is e h =
    agrees_step name n (at false (option (id_of k)) rows (Some (id_of k, []))) (at true (option (id_of k)) rows (Some (id_of k, []))) x ws None
    (dashes_turn name n (option (id_of k)) rows (Some (id_of k, [])) x s)
    (behind_fails name n ws (option (id_of k)) rows (Some (id_of k, [])) (none_settle n k rows is e))
waits_sort name n (sort.wants j) x ws s utf8 rest more g k rows is e h =
    walk_fails name n (at false (option (id_of k)) rows (Some (id_of k, []))) x ws
    (wants_fails name n j (option (id_of k)) rows (Some (id_of k, [])) x (options n j) refl s (λ t. none_settle n k rows is e))
waits_sort name n (sort.gives j v) x ws s utf8 rest more g k rows is e h =
    walk_fails name n (at false (option (id_of k)) rows (Some (id_of k, []))) x ws
    (gives_fails name n j v (option (id_of k)) rows (Some (id_of k, [])) x (options n j) refl s
    (λ t. faulty_first (settle_fault (rules n) false (hold rows (Some (id_of k, [])))) (use_fault false (rule_of j) (read_values j v) (settled_rows (rules n) (Some (id_of k, [])) rows)) (none_settle n k rows is e)))
waits_sort name n sort.unknown x ws s utf8 rest more g k rows is e h =
    walk_fails name n (at false (option (id_of k)) rows (Some (id_of k, []))) x ws
    (turn_fails name (rules n) false (option (id_of k)) rows (Some (id_of k, [])) x (odd_fails name n (option (id_of k)) x rows (Some (id_of k, [])) utf8 s))

both : (name : Text) (n : Name) (ws : List Text) → AllUtf8 ws → Ready name n ws × Waits name n ws
both name n [] utf8 = (
  (λ g wt rows p r settles h. (level_end name n (at false wt rows p) ∙ settles, h)),
  (λ g k rows is e h. subst Faulty (sym (level_end name n (at false (option (id_of k)) rows (Some (id_of k, []))))) (none_settle n k rows is e)),
)
both name n (x ∷ ws) utf8 =
    let more = both name n ws utf8.1 in (
      ready_sort name n (sort_of x) x ws (spelled x) utf8.0 more.0 more.1,
      waits_sort name n (sort_of x) x ws (spelled x) utf8.0 utf8.1 more.0,
    )

-- from the start
pub walks : (name : Text) (n : Name) (ws : List Text) → AllUtf8 ws → Agrees name n (at false idle [] None) ws (read (options n) (λ k. []) None ws)
walks name n ws utf8 = (both name n ws utf8).0 (λ k. []) idle [] None tt refl (λ k. refl)
