-- The whole command line: the first word, and what `clap` makes of the words behind it.
use Rattle.std.proofs.Common.{◌≡◌, ◌∙◌, ◌≢◌, ◌⊎◌, ◌≤◌, inl, inr, Bool, true, false, List, [], ◌∷◌, ◌++◌, length, codes, Option, Some, None, refl, sym, ap, subst, arith}
use Rattle.std.specs.Char.{encode_utf8}
use Rattle.std.specs.List.{fold}
use Rattle.std.specs.Option.{is_some}
use Rattle.std.specs.Str.{bytes_eq, chars, IsUtf8}
use Rattle.std.proofs.lemmas.Slice.Eq.{bytes_eq-Decides}
use Rattle.clap.specs.Kinds.{Kinds, or_else}
use Rattle.clap.specs.Faults.{bundle_fault, bundle_step_fault, check_fault, defaults_fault, entered_fault, fault_of, flags_fault, is_simple_and_free, level_fault, other_fault, settle_fault, step_fault, turn_fault, walk_fault, word_fault}
use Rattle.clap.specs.Walk.{Held, Names, Row, Step, Walk, finished, idle, nothing_held, rows_after, settled, subcommand_met, value, walk, walk_from, walked, word_met}
use Rattle.clap.specs.Simple.{App, Shape, entered, new_shape, subcommand_of}
use Rattle.clap.specs.declared.error.kind.ErrorKind.TheVariants.{UnknownArgument}
use Rattle.clap.proofs.WalkLemmas.{walk_stopped}
use Rattle.own_tree.specs.declared.command.Command.{Command}
use Rattle.own_words.specs.Told.{line_app}
use Rattle.own_words.specs.Held.{AreHeld}
use Rattle.own_words.specs.Seen.{HasOwn}
use Rattle.own_words.specs.Words.{Text, Part, plain, steps_next, steps_joined, out_next, out_joined, trace, Line, IsLine, words, steps, outs, traces, Given, given, given_in, is_plain, Words}
use Rattle.own_words.proofs.Reading.{Sort, sort_of, Spelled, spelled, IsOdd, Fits, read}
use Rattle.own_words.proofs.Reading as sort
use Rattle.own_words.proofs.Lines.{found, read_fits}
use Rattle.own_words.proofs.Rows.{Holds}
use Rattle.own_words.proofs.Clap.{Name, check, build, run, exec, selftest, leaf, options, rules, text_of}
use Rattle.own_words.proofs.Turns.{Faulty, faulty_first, faulty_next, plain_looks, short_looks, first_char, at}
use Rattle.own_words.proofs.Walks.{AllUtf8, Agrees, level, end_rows, walks}
use Rattle.own_words.proofs.Ends.{AreTraces, held_end, level_is, or_none}
use Rattle.own_words.proofs.Unique.{differ, takes_named, fits_all, line_given}

-- ---- the command line as `clap` builds it

abbrev top : Shape
top = record (new_shape (codes "swiftown")) {
  is_leaf = false;
  no_binary_name = true;
  disable_help_flag = true;
  disable_help_subcommand = true;
  disable_version_flag = true;
  subcommand_required = true;
  is_built = true;
}

abbrev leaf_of : Name → Shape
leaf_of n = leaf (text_of n) (rules n)

abbrev subs : List Shape
subs = leaf_of check ∷ leaf_of build ∷ leaf_of run ∷ leaf_of exec ∷ leaf_of selftest ∷ []

abbrev line_built : App
line_built = record { top = top; subs = subs }

pub line_simple : is_simple_and_free line_app ≡ true
line_simple = refl

abbrev names : Names
names = (codes "check", []) ∷ (codes "build", []) ∷ (codes "run", []) ∷ (codes "exec", []) ∷ (codes "selftest", []) ∷ []

-- what comes of a walk that stopped there, with this fault and this held
abbrev whole : Option (Text × List Text) → Kinds → Held → Kinds
whole stop fault end = or_else fault (or_else (entered_fault line_built stop)
    (or_else (settle_fault [] false end) (or_else (defaults_fault (settled [] end).rows []) (check_fault top (finished [] end) (is_some (entered line_built stop))))))

whole_is : (ws : List Text) → fault_of line_app ws ≡ whole (walk [] names nothing_held ws).stopped (walk_fault top names (walk_from nothing_held) ws) (walk [] names nothing_held ws).held
whole_is ws = refl

-- ---- a first word that is a command's

abbrev stopped_at : Text → List Text → Walk
stopped_at name rest = record (walk_from nothing_held) { stopped = Some (name, rest) }

name_walk : (n : Name) → walked [] names (walk_from nothing_held) (text_of n) ≡ stopped_at (text_of n) []
unfolding walked
name_walk check = refl
name_walk build = refl
name_walk run = refl
name_walk exec = refl
name_walk selftest = refl

walk_end : (n : Name) (rest : List Text) → walk [] names nothing_held (text_of n ∷ rest) ≡ stopped_at (text_of n) rest
walk_end n rest = ap (λ w. fold (walked [] names) w rest) (name_walk n) ∙ sym (walk_stopped [] names (walk_from nothing_held) (text_of n) [] rest)

stopped_fault : (name : Text) (seen ws : List Text) → walk_fault top names (stopped_at name seen) ws ≡ []
unfolding walk_fault walked
stopped_fault name seen [] = refl
stopped_fault name seen (x ∷ ws) = stopped_fault name (seen ++ (x ∷ [])) ws

name_turn : (n : Name) → turn_fault top names (walk_from nothing_held) (text_of n) ≡ []
name_turn check = refl
name_turn build = refl
name_turn run = refl
name_turn exec = refl
name_turn selftest = refl

walk_fault_is : (n : Name) (rest : List Text) → walk_fault top names (walk_from nothing_held) (text_of n ∷ rest) ≡ []
unfolding walk_fault
walk_fault_is n rest =
    ap (λ f. or_else f (walk_fault top names (walked [] names (walk_from nothing_held) (text_of n)) rest)) (name_turn n)
    ∙ ap (λ w. walk_fault top names w rest) (name_walk n) ∙ stopped_fault (text_of n) [] rest

abbrev below : Name → List Text → Kinds
below n rest = level_fault (leaf_of n) [] nothing_held rest false []

named_whole : (n : Name) (rest : List Text) → whole (Some (text_of n, rest)) [] nothing_held ≡ below n rest
unfolding defaults_fault
named_whole check rest = or_none (below check rest)
named_whole build rest = or_none (below build rest)
named_whole run rest = or_none (below run rest)
named_whole exec rest = or_none (below exec rest)
named_whole selftest rest = or_none (below selftest rest)

named_fault : (n : Name) (rest : List Text) → fault_of line_app (text_of n ∷ rest) ≡ level (text_of n) n (at false idle [] None) rest
named_fault n rest =
    whole_is (text_of n ∷ rest)
    ∙ ap (λ f. whole (walk [] names nothing_held (text_of n ∷ rest)).stopped f (walk [] names nothing_held (text_of n ∷ rest)).held) (walk_fault_is n rest)
    ∙ ap (λ (w : Walk). whole w.stopped [] w.held) (walk_end n rest) ∙ named_whole n rest ∙ level_is (text_of n) n rest

named_entered : (n : Name) (rest : List Text) → entered line_built (Some (text_of n, rest)) ≡ Some (text_of n, rows_after (rules n) [] rest)
named_entered check rest = refl
named_entered build rest = refl
named_entered run rest = refl
named_entered exec rest = refl
named_entered selftest rest = refl

named_rows : (n : Name) (rest : List Text) → subcommand_of line_app (text_of n ∷ rest) ≡ Some (text_of n, rows_after (rules n) [] rest)
named_rows n rest = ap (λ (w : Walk). entered line_built w.stopped) (walk_end n rest) ∙ named_entered n rest

-- ---- a first word that is none

abbrev IsUnnamed : Text → Type 0
IsUnnamed first = (n : Name) → bytes_eq (text_of n) first ≡ false

no_name : (first : Text) → IsUnnamed first → subcommand_met names idle first ≡ None
no_name first h = rw (h check, h build, h run, h exec, h selftest) refl

abbrev start : Walk
start = walk_from nothing_held

turn_top : (first : Text) (rest : List Text) → Faulty (turn_fault top names start first) → Faulty (fault_of line_app (first ∷ rest))
unfolding walk_fault
turn_top first rest h =
    faulty_first (walk_fault top names start (first ∷ rest)) _
    (faulty_first (turn_fault top names start first) (walk_fault top names (walked [] names start first) rest) h)

-- the word itself is at fault
word_top : (first : Text) (rest : List Text) → IsUnnamed first → Faulty (other_fault top None first nothing_held) → Faulty (fault_of line_app (first ∷ rest))
word_top first rest none h =
    turn_top first rest (faulty_first (word_fault top names false idle first nothing_held) _
    (subst (λ o. Faulty (other_fault top o first nothing_held)) (sym (no_name first none)) h))

plain_top : (first : Text) (rest : List Text) → IsUnnamed first → is_plain first ≡ true → Faulty (fault_of line_app (first ∷ rest))
plain_top first rest none p =
    let looks = plain_looks first p in
    let met : word_met [] names false idle 1 first nothing_held ≡ (nothing_held, value) = rw (no_name first none, looks.0, looks.1, looks.2) refl in
    let fault : word_fault top names false idle first nothing_held ≡ [] = rw (no_name first none, looks.0, looks.1, looks.2) refl in
    turn_top first rest (faulty_next (word_fault top names false idle first nothing_held) _ fault
    (subst (λ (m : Held × Step). Faulty (step_fault top 1 m.0 m.1)) (sym met) tt))

dashes_top : (rest : List Text) → Faulty (fault_of line_app (codes "--" ∷ rest))
unfolding walk_fault walked defaults_fault
dashes_top [] = tt
dashes_top (x ∷ xs) = tt

out_top : (first r : Text) (rest : List Text) → IsUnnamed first → r ≢ [] → first ≡ codes "-o" ++ r → Faulty (fault_of line_app (first ∷ rest))
unfolding chars encode_utf8 flags_fault
out_top first [] rest none some is = absurd (some refl)
out_top first (x ∷ xs) rest none some is = word_top first rest none (rw is tt)

odd_top : (first : Text) (rest : List Text) → IsUnnamed first → IsUtf8 first → IsOdd first → Faulty (fault_of line_app (first ∷ rest))
unfolding flags_fault
odd_top first rest none utf8 (inl (b, tail, is, dash, o)) =
    let c = first_char b tail (subst IsUtf8 is utf8) o in
    let looks = short_looks b tail dash in
    let answered : bundle_fault [] false (b ∷ tail) nothing_held ≡ UnknownArgument ∷ [] =
    ap (λ y. bundle_step_fault [] false y (b ∷ tail) 0 nothing_held (flags_fault [] false (length tail))) c.1 in
    let same : other_fault top None (45 ∷ b ∷ tail) nothing_held ≡ bundle_fault [] false (b ∷ tail) nothing_held = rw (looks.0, looks.1, looks.2) refl in
    word_top first rest none (subst (λ y. Faulty (other_fault top None y nothing_held)) (sym is) (subst Faulty (sym (same ∙ answered)) tt))
odd_top first rest none utf8 (inr (x, xs, is, odd)) =
    word_top first rest none (subst (λ y. Faulty (other_fault top None y nothing_held)) (sym is) tt)

long_top : (first word : Text) (rest : List Text) → IsUnnamed first → first ≡ word → Faulty (other_fault top None word nothing_held) → Faulty (fault_of line_app (first ∷ rest))
long_top first word rest none is h = word_top first rest none (subst (λ y. Faulty (other_fault top None y nothing_held)) (sym is) h)

short_o : Faulty (other_fault top None (codes "-o") nothing_held)
unfolding chars encode_utf8 flags_fault
short_o = tt

sort_top : (s : Sort) (first : Text) (rest : List Text) → Spelled s first → IsUnnamed first → IsUtf8 first → Faulty (fault_of line_app (first ∷ rest))
sort_top sort.plain_word first rest s none utf8 = plain_top first rest none s
sort_top sort.dashes first rest s none utf8 = subst (λ y. Faulty (fault_of line_app (y ∷ rest))) (sym s) (dashes_top rest)
sort_top (sort.wants words) first rest s none utf8 = absurd s
sort_top (sort.wants steps) first rest s none utf8 = long_top first (codes "--steps") rest none s tt
sort_top (sort.wants outs) first rest s none utf8 = long_top first (codes "-o") rest none s short_o
sort_top (sort.wants traces) first rest s none utf8 = absurd s
sort_top (sort.gives words v) first rest s none utf8 = absurd s
sort_top (sort.gives steps v) first rest s none utf8 = long_top first (codes "--steps=" ++ v) rest none s tt
sort_top (sort.gives outs v) first rest s none utf8 = out_top first s.0 rest none s.1 s.2
sort_top (sort.gives traces v) first rest s none utf8 = long_top first (codes "--trace") rest none s.0 tt
sort_top sort.unknown first rest s none utf8 = odd_top first rest none utf8 s

-- ---- the first word is a command's, or none's

is_text : (a t : Text) → bytes_eq a t ≡ true → t ≡ a
is_text a t h = sym ((bytes_eq-Decides a t).0 h)

abbrev HasName : Text → Type 0
HasName first = ((n : Name) × (first ≡ text_of n)) ⊎ IsUnnamed first

named_or_not : (first : Text) (a b c d e : Bool) → bytes_eq (text_of check) first ≡ a → bytes_eq (text_of build) first ≡ b → bytes_eq (text_of run) first ≡ c
    → bytes_eq (text_of exec) first ≡ d → bytes_eq (text_of selftest) first ≡ e → HasName first
named_or_not first true b c d e p q r s t = inl (check, is_text (text_of check) first p)
named_or_not first false true c d e p q r s t = inl (build, is_text (text_of build) first q)
named_or_not first false false true d e p q r s t = inl (run, is_text (text_of run) first r)
named_or_not first false false false true e p q r s t = inl (exec, is_text (text_of exec) first s)
named_or_not first false false false false true p q r s t = inl (selftest, is_text (text_of selftest) first t)
named_or_not first false false false false false p q r s t = inr go
  where
    go : (n : Name) → bytes_eq (text_of n) first ≡ false
    go check = p
    go build = q
    go run = r
    go exec = s
    go selftest = t

has_name : (first : Text) → HasName first
has_name first = named_or_not first (bytes_eq (text_of check) first) (bytes_eq (text_of build) first) (bytes_eq (text_of run) first) (bytes_eq (text_of exec) first)
    (bytes_eq (text_of selftest) first) refl refl refl refl refl

-- ---- what a line gives of `--trace`

no_more : (ts : List Text) → length (codes "true" ∷ ts) ≤ 1 → AreTraces (codes "true" ∷ ts)
no_more [] h = inr refl
no_more (t ∷ ts) h = absurd (omega arith)

behind_traces : (behind : Option (List Text)) → AreTraces (given_in traces [] behind)
behind_traces None = inl refl
behind_traces (Some ws) = inl refl

line_traces : (ps : List Part) (behind : Option (List Text)) → length (given_in traces ps behind) ≤ 1 → AreTraces (given_in traces ps behind)
line_traces [] behind h = behind_traces behind
line_traces (plain w ∷ ps) behind h = line_traces ps behind h
line_traces (steps_next v ∷ ps) behind h = line_traces ps behind h
line_traces (steps_joined v ∷ ps) behind h = line_traces ps behind h
line_traces (out_next v ∷ ps) behind h = line_traces ps behind h
line_traces (out_joined v ∷ ps) behind h = line_traces ps behind h
line_traces (trace ∷ ps) behind h = no_more (given_in traces ps behind) h

-- ---- a command has its own options

no_length : (xs : List Text) → length xs ≤ 0 → xs ≡ []
no_length [] h = refl
no_length (x ∷ xs) h = absurd (omega arith)

own_of : (n : Name) (g : Given) → Fits (options n) g → HasOwn (text_of n) g
own_of check g f = record {
  check = λ e. (no_length (g steps) f.0, no_length (g outs) f.1, no_length (g traces) f.2);
  build = differ (codes "check") (codes "build") (λ e. omega arith);
  exec = differ (codes "check") (codes "exec") (λ e. omega arith);
  selftest = differ (codes "check") (codes "selftest") (λ e. omega arith);
}
own_of build g f = record {
  check = differ (codes "build") (codes "check") (λ e. omega arith);
  build = λ e. no_length (g steps) f.0;
  exec = differ (codes "build") (codes "exec") (λ e. omega arith);
  selftest = differ (codes "build") (codes "selftest") (λ e. omega arith);
}
own_of run g f = record {
  check = differ (codes "run") (codes "check") (λ e. omega arith);
  build = differ (codes "run") (codes "build") (λ e. omega arith);
  exec = differ (codes "run") (codes "exec") (λ e. omega arith);
  selftest = differ (codes "run") (codes "selftest") (λ e. omega arith);
}
own_of exec g f = record {
  check = differ (codes "exec") (codes "check") (λ e. omega arith);
  build = differ (codes "exec") (codes "build") (λ e. omega arith);
  exec = λ e. (no_length (g outs) f.1, no_length (g traces) f.2);
  selftest = differ (codes "exec") (codes "selftest") (λ e. omega arith);
}
own_of selftest g f = record {
  check = differ (codes "selftest") (codes "check") (λ e. omega arith);
  build = differ (codes "selftest") (codes "build") (λ e. omega arith);
  exec = differ (codes "selftest") (codes "exec") (λ e. omega arith);
  selftest = λ e. (no_length (g steps) f.0, no_length (g outs) f.1, no_length (g traces) f.2);
}

-- ---- what was taken, and that nothing else fails

pub record Taken (ws : List Text) : Type 0 where
  pub first : Text
  pub rest : List Text
  pub parts : ws ≡ first ∷ rest
  pub line : Line
  pub is : IsLine line rest
  pub rows : List Row
  pub met : subcommand_of line_app ws ≡ Some (first, rows)
  pub held : AreHeld (given line) rows
  pub fits : Fits (λ k. true) (given line)
  pub own : HasOwn first (given line)

no_fault : (ks : Kinds) → ks ≡ [] → Faulty ks → ⊥
no_fault [] h f = f
no_fault (k ∷ ks) h f = cc

named_taken : (n : Name) (rest : List Text) (r : Option Given) → read (options n) (λ k. []) None rest ≡ r
    → Agrees (text_of n) n (at false idle [] None) rest r → level (text_of n) n (at false idle [] None) rest ≡ [] → Taken (text_of n ∷ rest)
named_taken n rest None e h none = absurd (no_fault (level (text_of n) n (at false idle [] None) rest) none h)
named_taken n rest (Some g) e h none =
    let line = found (options n) rest (λ k. []) None g e in
    let fits = read_fits (options n) rest (λ k. []) None g e (omega arith, omega arith, omega arith) in
    let same : g ≡ given line.0 = line.2 in
    let fitting = subst (Fits (options n)) same fits in
    let all = fits_all (options n) (given line.0) fitting in
    record {
      first = text_of n;
      rest = rest;
      parts = refl;
      line = line.0;
      is = line.1;
      rows = rows_after (rules n) [] rest;
      met = named_rows n rest;
      held = held_end n (given line.0) rest (subst (λ y. Holds y (end_rows n (at false idle [] None) rest)) same h.1) fitting
          (line_traces line.0.parts line.0.behind all.2);
      fits = all;
      own = own_of n (given line.0) fitting;
    }

taken_from : (first : Text) (rest : List Text) → IsUtf8 first → AllUtf8 rest → fault_of line_app (first ∷ rest) ≡ [] → HasName first → Taken (first ∷ rest)
taken_from first rest utf8 more none (inl (n, is)) =
    subst (λ y. Taken (y ∷ rest)) (sym is)
    (named_taken n rest (read (options n) (λ k. []) None rest) refl (walks (text_of n) n rest more) (sym (named_fault n rest) ∙ subst (λ y. fault_of line_app (y ∷ rest) ≡ []) is none))
taken_from first rest utf8 more none (inr unnamed) = absurd (no_fault (fault_of line_app (first ∷ rest)) none (sort_top (sort_of first) first rest (spelled first) unnamed utf8))

none_top : Faulty (fault_of line_app [])
unfolding walk_fault defaults_fault
none_top = tt

-- where no fault comes, the words are a command's name and a line
pub taken : (ws : List Text) → AllUtf8 ws → fault_of line_app ws ≡ [] → Taken ws
taken [] utf8 none = absurd (no_fault (fault_of line_app []) none none_top)
taken (first ∷ rest) utf8 none = taken_from first rest utf8.0 utf8.1 none (has_name first)

named_good : (n : Name) (rest : List Text) (g : Given) (r : Option Given) → r ≡ Some g → Agrees (text_of n) n (at false idle [] None) rest r → level (text_of n) n (at false idle [] None) rest ≡ []
named_good n rest g None e h = cc
named_good n rest g (Some x) e h = h.0

-- no fault comes of words that are a command
pub no_fault_of : (ws : List Text) → AllUtf8 ws → (c : Command) → Words ws c → fault_of line_app ws ≡ []
no_fault_of [] utf8 c h = absurd h
no_fault_of (first ∷ rest) utf8 c h =
    let line = h.0 in
    let named = takes_named c first (given line) h.2 in
    let n = named.0 in
    let good = named_good n rest (given line) (read (options n) (λ k. []) None rest) (line_given (options n) line rest h.1 named.2) (walks (text_of n) n rest utf8.1) in
    subst (λ y. fault_of line_app (y ∷ rest) ≡ []) (sym named.1) (named_fault n rest ∙ good)
