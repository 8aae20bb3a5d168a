-- A worked program whose calls go down to the last level, by induction on how many are left.
use Rattle.std.proofs.Common.{◌≡◌, sym, append-nil, ◌∙◌, ℕ, zero, suc, ◌+◌, ◌-◌, ℤ, pos, true, false, List, [], ◌∷◌, ◌++◌, length, take, None, ◌-ℤ◌, ◌≤◌, ◌<◌, refl, ap, ltb, append_assoc, arith}
use Rattle.std.proofs.lemmas.Int.{ints}
use Rattle.std.proofs.lemmas.Bool.{lt-ltb, le-leb, lt-leb}
use Rattle.std.specs.Prelude.{nat_le}
use Rattle.std.specs.Fmt.{signed_decimal}
use Rattle.own_tree.specs.declared.limits.TheConstants.{MOST_LEVELS}
use Rattle.own_shapes.specs.Types.{types_declared}
use Rattle.own_runs.specs.Destruction.{Passed, given}
use Rattle.own_runs.specs.Events.{Item, printed, line, output_of}
use Rattle.own_runs.specs.Run.{Outcome, Ended, Trapped, Behaviour, behaviour, output, start, run_to, run_of}
use Rattle.own_runs.specs.Store.{State, temporary, holds, absent, Activation, with_at, root_at}
use Rattle.own_runs.specs.Values.{Val, int, unit, hole}
use Rattle.own_ways.specs.declared.traps.TheConstants.{TOO_MANY_LEVELS}
use Rattle.own_ways.specs.Exact.{is_int}
use Rattle.own_ways.specs.Ways.{Way, gives, traps}
use Rattle.own_ways.proofs.Results.{int_above}
use Rattle.own_runs.proofs.Lists.{get_last, set_last, take_last}
use Rattle.own_runs.proofs.MoreRows.{down, no_types}
use Rattle.own_runs.proofs.Spelled.{answer, lines}

is_greater : (k : ℕ) → ltb 1 (suc (suc k)) ≡ true
is_greater k = lt-ltb 1 (suc (suc k)) (omega arith)

less_one : (k : ℕ) → pos (suc (suc k)) -ℤ pos 1 ≡ pos (suc k)
less_one k = omega (arith, ints)

-- ---- one call

-- as many more
pub more : ℕ → ℕ → ℕ
more zero n = n
more (suc k) n = suc (more k n)

falling : ℕ → List Item
falling zero = []
falling (suc k) = printed (line (signed_decimal (pos (suc k)))) ∷ falling k

-- the numbers from so many down to 1
pub counted_down : ℕ → List (List ℕ)
counted_down zero = []
counted_down (suc k) = signed_decimal (pos (suc k)) ∷ counted_down k

-- so many of those from `more j r` and 1 down
pub sinking : ℕ → ℕ → List Item
sinking zero r = []
sinking (suc j) r = printed (line (signed_decimal (pos (suc (more (suc j) r))))) ∷ sinking j r

-- the caller's activation once its argument, which waits at a node, has moved
abbrev given_up : ℕ → Activation → Activation
given_up x act = record act { temporaries = with_at x hole act.temporaries }

-- the activation of a call with n that makes one with m
abbrev calling : (n m : ℤ) → Activation
calling n m = record {
  body = 0;
  maker = None;
  slots = with_at 0 (holds (int n)) (λ x. absent);
  temporaries = with_at 8 (int m) (with_at 1 hole (with_at 1 unit (λ node. hole)));
  result = hole;
}

abbrev argument : (me x : ℕ) → Passed
argument me x = given (root_at me (temporary x))

-- A call with a number writes it and each smaller one, down to 1, while there are levels and turns.
abbrev Falls : ℕ → Type 0
Falls k =
    (x fuel level turns births : ℕ) (input : List ℤ) (log : List Item) (st : List Activation) (act : Activation)
    → act.temporaries x ≡ int (pos (suc k)) → level + suc k ≤ MOST_LEVELS
    → run_to no_types down (suc (more k fuel)) 0 None (argument (length st) x ∷ []) level
    (record { store = st ++ act ∷ []; turns = suc (more k turns); births = births; input = input; log = log })
    ≡ gives unit (record { store = st ++ given_up x act ∷ []; turns = turns; births = births; input = input; log = log ++ falling (suc k) })

last_falls : Falls zero
unfolding types_declared more falling
last_falls x fuel level turns births input log st act waits le =
    let ok : nat_le (level + 1) MOST_LEVELS ≡ true = le-leb (level + 1) MOST_LEVELS le in
    simp (get_last, set_last, take_last, waits, ok)

one_falls : (k : ℕ) → Falls k → Falls (suc k)
unfolding types_declared more falling
one_falls k before x fuel level turns births input log st act waits le =
    let ok : nat_le (level + 1) MOST_LEVELS ≡ true = le-leb (level + 1) MOST_LEVELS (omega (arith, le)) in
    let fits : is_int (pos (suc k)) ≡ true = int_above (suc k) (omega (arith, le)) in
    let item : Item = printed (line (signed_decimal (pos (suc (suc k))))) in
    let deeper = before 8 fuel (level + 1) turns births input (log ++ item ∷ []) (st ++ given_up x act ∷ []) (calling (pos (suc (suc k))) (pos (suc k))) refl (omega (arith, le)) in
    simp (get_last, set_last, take_last, waits, ok, is_greater, less_one, fits, deeper) (simp append_assoc)

all_fall : (k : ℕ) → Falls k
all_fall zero = last_falls
all_fall (suc k) = one_falls k (all_fall k)

-- A call that has fewer levels than it asks for traps at the one after the last.
abbrev Sinks : ℕ → Type 0
Sinks j =
    (x r fuel level turns births : ℕ) (input : List ℤ) (log : List Item) (st : List Activation) (act : Activation)
    → act.temporaries x ≡ int (pos (suc (more j r))) → level + j ≡ MOST_LEVELS → suc (more j r) ≤ MOST_LEVELS
    → (s : State)
    × (run_to no_types down (suc (more j fuel)) 0 None (argument (length st) x ∷ []) level
    (record { store = st ++ act ∷ []; turns = suc (more j turns); births = births; input = input; log = log }) ≡ traps TOO_MANY_LEVELS 0 s)
    × (s.log ≡ log ++ sinking j r)

last_sinks : Sinks zero
unfolding types_declared more sinking
last_sinks x r fuel level turns births input log st act waits last le =
    let over : nat_le (level + 1) MOST_LEVELS ≡ false = lt-leb (level + 1) MOST_LEVELS (omega (arith, last)) in
    (record { store = st ++ act ∷ []; turns = turns; births = births; input = input; log = log }, simp over, sym (append-nil log))

one_sinks : (j : ℕ) → Sinks j → Sinks (suc j)
unfolding types_declared more sinking
one_sinks j before x r fuel level turns births input log st act waits last le =
    let ok : nat_le (level + 1) MOST_LEVELS ≡ true = le-leb (level + 1) MOST_LEVELS (omega (arith, last)) in
    let fits : is_int (pos (suc (more j r))) ≡ true = int_above (suc (more j r)) (omega (arith, le)) in
    let n : ℕ = suc (more j r) in
    let item : Item = printed (line (signed_decimal (pos (suc n)))) in
    let deeper = before 8 r fuel (level + 1) turns births input (log ++ item ∷ []) (st ++ given_up x act ∷ []) (calling (pos (suc n)) (pos n)) refl (omega (arith, last)) (omega (arith, le)) in
    (deeper.0, simp (get_last, set_last, waits, ok, is_greater, less_one, fits, deeper.1), deeper.2 ∙ append_assoc log (item ∷ []) (sinking j r))

all_sink : (j : ℕ) → Sinks j
all_sink zero = last_sinks
all_sink (suc j) = one_sinks j (all_sink j)

-- ---- what is written

written : (k : ℕ) → output_of (falling k) ≡ lines (counted_down k)
unfolding falling counted_down
written zero = refl
written (suc k) = rw (written k) (append_assoc (signed_decimal (pos (suc k))) (10 ∷ []) (lines (counted_down k)))

written_before : (j r : ℕ) → output_of (sinking j r) ≡ lines (take j (counted_down (suc (more j r))))
unfolding sinking counted_down more
written_before zero r = refl
written_before (suc j) r = rw (written_before j r) (append_assoc (signed_decimal (pos (suc (suc (more j r))))) (10 ∷ []) (lines (take j (counted_down (suc (more j r))))))

-- ---- the program

-- the activation of `main` that waits with its argument
abbrev waiting : ℤ → Activation
waiting n = record { body = 1; maker = None; slots = λ x. absent; temporaries = with_at 2 (int n) (with_at 2 hole (with_at 2 (int n) (λ node. hole))); result = hole }

abbrev at_first : ℕ → ℤ → State
at_first turns n = record { store = waiting n ∷ []; turns = turns; births = 0; input = []; log = [] }

main_ends : (depth turns left : ℕ) (n : ℤ) (log : List Item)
    → run_to no_types down depth 0 None (argument 0 2 ∷ []) 1 (at_first turns n) ≡ gives unit (record { store = given_up 2 (waiting n) ∷ []; turns = left; births = 0; input = []; log = log })
    → run_to no_types down (suc depth) 1 None [] 0 (start (n ∷ []) (suc turns)) ≡ gives unit (record { store = []; turns = left; births = 0; input = []; log = log })
unfolding types_declared
main_ends depth turns left n log e = simp e

main_traps : (depth turns code place : ℕ) (n : ℤ) (s : State)
    → run_to no_types down depth 0 None (argument 0 2 ∷ []) 1 (at_first turns n) ≡ traps code place s
    → run_to no_types down (suc depth) 1 None [] 0 (start (n ∷ []) (suc turns)) ≡ traps code place s
unfolding types_declared
main_traps depth turns code place n s e = simp e

more_is : (k n : ℕ) → more k n ≡ k + n
unfolding more
more_is zero n = omega arith
more_is (suc k) n = omega (arith, more_is k n)

-- the run of the whole program, whose calls have as many turns as it has
whole_run : (k turns : ℕ) (n : ℤ) (w : Way State Val)
    → run_to no_types down (suc (suc (more k (suc turns)))) 1 None [] 0 (start (n ∷ []) (suc (suc (more k turns)))) ≡ w
    → run_of no_types down (n ∷ []) (suc (suc (more k turns))) ≡ behaviour w
unfolding run_of
whole_run k turns n w e =
    let same : more k (suc turns) ≡ suc (more k turns) = omega (arith, more_is k (suc turns), more_is k turns) in
    ap behaviour (ap (λ fuel. run_to no_types down (suc (suc fuel)) 1 None [] 0 (start (n ∷ []) (suc (suc (more k turns))))) (sym same) ∙ e)

abbrev told : Behaviour → Outcome × List ℕ
told b = (b.outcome, output b)

-- With a number below that of the levels, and turns enough, it ends.
pub down_ends : (k turns : ℕ) → suc k < MOST_LEVELS → suc k < turns → answer no_types down (pos (suc k) ∷ []) turns ≡ (Ended, lines (counted_down (suc k)))
down_ends k turns few enough =
    let left : ℕ = turns - suc (suc k) in
    let all : suc (suc (more k left)) ≡ turns = omega (arith, more_is k left, enough) in
    let first = all_fall k 2 (suc left) 1 left 0 [] [] [] (waiting (pos (suc k))) refl (omega (arith, few)) in
    let whole = whole_run k left (pos (suc k)) _ (main_ends (suc (more k (suc left))) (suc (more k left)) left (pos (suc k)) (falling (suc k)) first) in
    ap (λ n. answer no_types down (pos (suc k) ∷ []) n) (sym all) ∙ ap told whole ∙ ap (λ bytes. (Ended, bytes)) (written (suc k))

-- With the number of the levels its last call is on one too many, and what was written stands.
pub down_traps : (turns : ℕ) → MOST_LEVELS < turns → answer no_types down (pos MOST_LEVELS ∷ []) turns ≡ (Trapped TOO_MANY_LEVELS 0, lines (take 999 (counted_down MOST_LEVELS)))
down_traps turns enough =
    let left : ℕ = turns - 1001 in
    let all : suc (suc (more 999 left)) ≡ turns = omega (arith, more_is 999 left, enough) in
    let number : suc (more 999 0) ≡ MOST_LEVELS = omega (arith, more_is 999 0) in
    let first = all_sink 999 2 0 (suc left) 1 left 0 [] [] [] (waiting (pos MOST_LEVELS)) (ap (λ n. int (pos n)) (sym number)) refl (omega (arith, number)) in
    let whole = whole_run 999 left (pos MOST_LEVELS) _ (main_traps (suc (more 999 (suc left))) (suc (more 999 left)) TOO_MANY_LEVELS 0 (pos MOST_LEVELS) first.0 first.1) in
    ap (λ n. answer no_types down (pos MOST_LEVELS ∷ []) n) (sym all) ∙ ap told whole
    ∙ ap (λ log. (Trapped TOO_MANY_LEVELS 0, output_of log)) first.2 ∙ ap (λ bytes. (Trapped TOO_MANY_LEVELS 0, bytes)) (written_before 999 0)
    ∙ ap (λ n. (Trapped TOO_MANY_LEVELS 0, lines (take 999 (counted_down n)))) number

down_from_999 : answer no_types down (pos 999 ∷ []) 1000 ≡ (Ended, lines (counted_down 999))
down_from_999 = down_ends 998 1000 (omega arith) (omega arith)

down_from_1000 : answer no_types down (pos 1000 ∷ []) 1001 ≡ (Trapped TOO_MANY_LEVELS 0, lines (take 999 (counted_down 1000)))
down_from_1000 = down_traps 1001 (omega arith)
