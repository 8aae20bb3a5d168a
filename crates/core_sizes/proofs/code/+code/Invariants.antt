use Rattle.std.proofs.Common.{◌≡◌, ◌+◌, ◌*◌, ◌≤◌, drop, map}
use Rattle.core_form.specs.CoreSource.{words_in}
use Rattle.core_form.specs.CoreView.{code_of, form_view, piece_view, pieces_of}
use Rattle.core_form.specs.Sizes.{CodeFits, PiecesFit, bytes, depth, height, pieces_bytes, pieces_depth, pieces_height, said_bytes}
use Rattle.core_sizes.proofs.code.+code.Given as goal

-- what holds of all pieces as soon as it holds of those that are left
abbrev pub invariant-count_pieces-loop-piece : goal.invariant-count_pieces-loop-piece
invariant-count_pieces-loop-piece l =
    let all = pieces_of (map piece_view l.pieces) in
    let rest = pieces_of (map piece_view (drop l.piece-index l.pieces)) in
    (PiecesFit rest → PiecesFit all)
    × (l.words + words_in rest ≡ words_in all)
    × (pieces_depth rest ≤ l.fn.room.labels → pieces_depth all ≤ l.fn.room.labels)
    × (l.upper.labels ≡ l.fn.room.labels)
    × (l.upper.operands + l.words ≡ l.fn.room.operands)
    × (pieces_height rest ≤ l.upper.operands → pieces_height all ≤ l.fn.room.operands)
    × (l.left + (pieces_bytes all + 11 * words_in all + said_bytes all) ≡ l.fn.left + (pieces_bytes rest + 11 * words_in rest + said_bytes rest))

abbrev pub invariant-count_forms-loop-form : goal.invariant-count_forms-loop-form
invariant-count_forms-loop-form l =
    let all = code_of (map form_view l.forms) in
    let rest = code_of (map form_view (drop l.form-index l.forms)) in
    (CodeFits rest → CodeFits all)
    × (depth rest ≤ l.room.labels → depth all ≤ l.room.labels)
    × (height rest ≤ l.room.operands → height all ≤ l.room.operands)
    × (l.left + bytes all ≡ l.fn.left + bytes rest)
