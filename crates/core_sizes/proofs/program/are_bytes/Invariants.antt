use Rattle.std.proofs.Common.{drop}
use Rattle.core_form.specs.Sizes.{BytesFit}
use Rattle.core_sizes.proofs.program.are_bytes.Given as goal

abbrev pub invariant-loop-byte : goal.invariant-loop-byte
invariant-loop-byte l = BytesFit (drop l.byte-index l.texts) → BytesFit l.texts
