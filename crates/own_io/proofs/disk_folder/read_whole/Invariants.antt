use Rattle.std.proofs.Common.{◌≤◌, vec_len}
use Rattle.own_io.proofs.disk_folder.read_whole.Given as goal

abbrev pub invariant-loop : goal.invariant-loop
invariant-loop g l = vec_len l.bytes ≤ l.most
