-- How control goes on after a statement, and the turns of a loop.
use Rattle.std.specs.Prelude.{ℕ, zero, suc, ℤ, pos, ◌+ℤ◌, int_le, Bool}
use Rattle.own_tree.specs.declared.span.Span.{Span}
use Rattle.own_runs.specs.Store.{Act, take_turn}
use Rattle.own_ways.specs.Ways.{◌>>=◌, ◌>>◌, pure, stop, pick}

-- It goes on, or it leaves by a jump with its span. A result waits in the activation.
pub data Flow : Type 0 where
  onward : Flow
  broke : Span → Flow
  continued : Span → Flow
  returned : Span → Flow

-- the next statement runs where the one before goes on
abbrev pub then_go : Flow → Act Flow → Act Flow
then_go onward next = next
then_go (broke at) next = pure (broke at)
then_go (continued at) next = pure (continued at)
then_go (returned at) next = pure (returned at)

-- A loop goes on after a turn, also by a `continue`, and ends with a `break`.
abbrev pub after_turn : Flow → Act Flow → Act Flow
after_turn onward next = next
after_turn (continued at) next = next
after_turn (broke at) next = pure onward
after_turn (returned at) next = pure (returned at)

-- an unlabelled `break` leaves a `switch`
abbrev pub caught : Flow → Flow
caught onward = onward
caught (broke at) = onward
caught (continued at) = continued at
caught (returned at) = returned at

-- The loops, to a depth that no run with fewer turns left reaches. A turn is taken before each evaluation of a
-- `while`'s condition, and before each body of the others.
abbrev pub while_turns : ℕ → (condition : Act Bool) → (body : Act Flow) → Act Flow
while_turns zero condition body = stop
while_turns (suc depth) condition body = do
  take_turn
  holds ← condition
  pick holds (body >>= λ f. after_turn f (while_turns depth condition body)) (pure onward)

abbrev pub repeat_turns : ℕ → (condition : Act Bool) → (body : Act Flow) → Act Flow
repeat_turns zero condition body = stop
repeat_turns (suc depth) condition body = do
  take_turn
  f ← body
  after_turn f (condition >>= λ holds. pick holds (repeat_turns depth condition body) (pure onward))

-- a turn of a `for`, and what follows
abbrev pub one_turn : Act Flow → Act Flow → Act Flow
one_turn body rest = take_turn >> (body >>= λ f. after_turn f rest)

-- each number from the first to the last, both included
abbrev pub for_turns : ℕ → (body : ℤ → Act Flow) → (first last : ℤ) → Act Flow
for_turns zero body first last = stop
for_turns (suc depth) body first last =
    pick (int_le first last) (one_turn (body first) (for_turns depth body (first +ℤ pos 1) last)) (pure onward)
