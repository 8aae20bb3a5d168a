use Rattle.std.proofs.Common.{◌≡◌, ◌+◌, ◌≤◌, ◌++◌, drop, map}
use Rattle.core_form.specs.declared.limits.TheConstants.{MOST_DEPTH}
use Rattle.core_form.specs.CoreView.{code_of, form_view, piece_view, pieces_of}
use Rattle.core_form.specs.Sizes.{CodeFits, PiecesFit, depth, pieces_depth}
use Rattle.low_laws.specs.Lower.{forms_code, pieces_code}
use Rattle.low_body.specs.RoundView.{labels_in, round_view}
use Rattle.low_body.proofs.code.+code.Given as goal

abbrev pub invariant-push_words-loop-piece : goal.invariant-push_words-loop-piece
invariant-push_words-loop-piece l =
    (l.code.items ++ pieces_code (pieces_of (map piece_view (drop l.piece-index l.pieces))) (round_view l.round) ≡ l.fn.code.items ++ pieces_code (pieces_of (map piece_view l.pieces)) (round_view l.round))
    × PiecesFit (pieces_of (map piece_view (drop l.piece-index l.pieces)))
    × (labels_in (round_view l.round) + pieces_depth (pieces_of (map piece_view (drop l.piece-index l.pieces))) ≤ MOST_DEPTH)

abbrev pub invariant-push_forms-loop-form : goal.invariant-push_forms-loop-form
invariant-push_forms-loop-form l =
    (l.code.items ++ forms_code (code_of (map form_view (drop l.form-index l.forms))) (round_view l.round) ≡ l.fn.code.items ++ forms_code (code_of (map form_view l.forms)) (round_view l.round))
    × CodeFits (code_of (map form_view (drop l.form-index l.forms)))
    × (labels_in (round_view l.round) + depth (code_of (map form_view (drop l.form-index l.forms))) ≤ MOST_DEPTH)
