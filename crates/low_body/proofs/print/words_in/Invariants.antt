use Rattle.std.proofs.Common.{◌≡◌, ◌+◌, drop, map}
use Rattle.core_form.specs.CoreSource.{words_in}
use Rattle.core_form.specs.CoreView.{piece_view, pieces_of}
use Rattle.low_body.proofs.print.words_in.Given as goal

abbrev pub invariant-loop-piece : goal.invariant-loop-piece
invariant-loop-piece l = l.words + words_in (pieces_of (map piece_view (drop l.piece-index l.pieces))) ≡ words_in (pieces_of (map piece_view l.pieces))
