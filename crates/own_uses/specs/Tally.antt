-- The counts of an op tree part by part, by what an op counts and what an End counts.
use Rattle.std.specs.Prelude.{ℕ, ◌+◌, ◌*◌, List, [], ◌∷◌}
use Rattle.own_tree.specs.declared.op.Op.{Op}
use Rattle.own_tree.specs.OpSource.{Ops, op, nothing, next, either, loop, catch, scope, break_at, continue_at, return_at, halt}
use Rattle.own_paths.specs.BodyLimits.{ways_out, leaves_at}
use Rattle.own_paths.specs.Makers.{leaves_declared}
use Rattle.own_shapes.specs.Places.{whole}
use Rattle.own_uses.specs.declared.measure.Measure.{Measure}
use Rattle.own_uses.specs.declared.measure.Measure.TheVariants as measure
use Rattle.own_uses.specs.declared.tally.Tally.{Tally}
use Rattle.own_uses.specs.Building.{types_for, program_for}
use Rattle.own_uses.specs.Leaves.{makers_of}
use Rattle.own_uses.specs.Saturating.{held}

-- what is counted of an op, and of an End of a binding
abbrev pub of_op : Measure → Op → ℕ
of_op measure.Ops o = 1
of_op (measure.Makers builder k) o = makers_of (types_for builder.now) (program_for builder.now) k o

abbrev pub of_end : Measure → ℕ → ℕ
of_end measure.Ops x = 1
of_end (measure.Makers builder k) x = leaves_at (whole x) (leaves_declared (types_for builder.now) k 0
    (program_for builder.now).bindings)

abbrev pub of_ends : (ℕ → ℕ) → List ℕ → ℕ
of_ends each [] = 0
of_ends each (x ∷ xs) = each x + of_ends each xs

module _ (one : Op → ℕ) (each : ℕ → ℕ) where
  abbrev pub weight : Ops → ℕ
  weight (op o) = one o
  weight nothing = 0
  weight (next a b) = weight a + weight b
  weight (either a b) = weight a + weight b
  weight (loop a b) = weight a + weight b
  weight (catch a) = weight a
  weight (scope xs close a) = of_ends each xs * ways_out a + weight a
  weight (break_at s) = 0
  weight (continue_at s) = 0
  weight (return_at s) = 0
  weight halt = 0

-- ---- as they are held

abbrev pub no_tally : Tally
no_tally = record { sum = 0; breaks = 0; continues = 0; returns = 0 }

abbrev pub both_tallies : Tally → Tally → Tally
both_tallies a b =
    record {
      sum = held (a.sum + b.sum);
      breaks = held (a.breaks + b.breaks);
      continues = held
          (a.continues + b.continues);
      returns = held (a.returns + b.returns);
    }

abbrev pub loop_tally : Tally → Tally
loop_tally a = record { sum = a.sum; breaks = 0; continues = 0; returns = a.returns }

abbrev pub switch_tally : Tally → Tally
switch_tally a = record { sum = a.sum; breaks = 0; continues = a.continues; returns = a.returns }

-- with that count of Ends on each way out
abbrev pub scope_tally : ℕ → Tally → Tally
scope_tally ends a = record {
  sum = held (held (ends * held (held (held (a.breaks + a.continues) + a.returns) + 1)) + a.sum);
  breaks = a.breaks;
  continues = a.continues;
  returns = a.returns;
}

module _ (one : Op → ℕ) (each : ℕ → ℕ) where
  abbrev pub tally : Ops → Tally
  tally (op o) = record { sum = held (one o); breaks = 0; continues = 0; returns = 0 }
  tally nothing = no_tally
  tally (next a b) = both_tallies (tally a) (tally b)
  tally (either a b) = both_tallies (tally a) (tally b)
  tally (loop a b) = loop_tally (both_tallies (tally a) (tally b))
  tally (catch a) = switch_tally (tally a)
  tally (scope xs close a) = scope_tally (held (of_ends each xs)) (tally a)
  tally (break_at s) = record { sum = 0; breaks = 1; continues = 0; returns = 0 }
  tally (continue_at s) = record { sum = 0; breaks = 0; continues = 1; returns = 0 }
  tally (return_at s) = record { sum = 0; breaks = 0; continues = 0; returns = 1 }
  tally halt = no_tally
