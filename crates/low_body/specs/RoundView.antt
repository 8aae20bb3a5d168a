-- What stands round code, as definitions see it.
use Rattle.std.specs.Prelude.{ℕ, suc}
use Rattle.low_body.specs.declared.round.Round.{Round}
use Rattle.low_body.specs.declared.round.Round.TheVariants as declared
use Rattle.low_laws.specs.Lower as lower
use Rattle.low_laws.specs.Lower.{bare, in_block, in_if}

abbrev pub round_view : Round → lower.Round
round_view declared.Bare = bare
round_view (declared.Block' p outer) = in_block (round_view outer)
round_view (declared.If' p outer) = in_if (round_view outer)

-- how many labels of the machine stand round it
abbrev pub labels_in : lower.Round → ℕ
labels_in bare = 0
labels_in (in_block outer) = suc (labels_in outer)
labels_in (in_if outer) = suc (labels_in outer)
