use Rattle.std.proofs.Common.{◌≡◌, ◌++◌, map, drop}
use Rattle.own_tree.specs.TypedView.{pattern_view, pats_of}
use Rattle.own_table.specs.Table.{types_in}
use Rattle.own_judged.specs.Refusals.{more_text, parts_text}
use Rattle.own_patterns.proofs.forms.+forms.Given as goal

abbrev pub invariant-push_parts-loop-number : goal.invariant-push_parts-loop-number
invariant-push_parts-loop-number l =
    l.text.items ++ more_text (types_in l.fn.table) (drop l.number l.payloads) (pats_of (map pattern_view (drop l.number l.parts)))
    ≡ l.fn.text.items ++ parts_text (types_in l.fn.table) l.payloads (pats_of (map pattern_view l.parts))
