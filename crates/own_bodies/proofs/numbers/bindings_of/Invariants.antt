use Rattle.std.proofs.Common.{◌≡◌, ◌++◌, drop}
use Rattle.own_bodies.specs.Numbers.{numbers_declared}
use Rattle.own_bodies.proofs.numbers.bindings_of.Given as goal

abbrev pub invariant-loop-number : goal.invariant-loop-number
invariant-loop-number l =
    l.numbers ++ numbers_declared l.body l.number (drop l.number l.bindings) ≡ numbers_declared l.body 0 l.bindings
