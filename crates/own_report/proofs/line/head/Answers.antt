use Rattle.std.proofs.Common.{append_assoc}
use Rattle.own_report.proofs.line.head.Goals as goal

pub returns : goal.returns
returns c = let h = c.format.ensures.ok in simp append_assoc (simp append_assoc at h)
