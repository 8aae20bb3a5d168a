use Rattle.std.proofs.Common.{◌≡◌, ◌≤◌, ◌++◌, drop, map}
use Rattle.core_form.specs.declared.limits.TheConstants.{MOST_PRINTED}
use Rattle.core_form.specs.CoreSource.{words_in}
use Rattle.core_form.specs.CoreView.{piece_view, pieces_of}
use Rattle.core_form.specs.Sizes.{PiecesFit}
use Rattle.low_laws.specs.Lower.{say_code}
use Rattle.low_body.proofs.print.push_said.Given as goal

abbrev pub invariant-loop-piece : goal.invariant-loop-piece
invariant-loop-piece l =
    (l.code.items ++ say_code (pieces_of (map piece_view (drop l.piece-index l.pieces))) ≡ l.fn.code.items ++ say_code (pieces_of (map piece_view l.pieces)))
    × (l.after ≡ words_in (pieces_of (map piece_view (drop l.piece-index l.pieces))))
    × (l.after ≤ MOST_PRINTED)
    × PiecesFit (pieces_of (map piece_view (drop l.piece-index l.pieces)))
