-- Parts of spans.
use Rattle.std.specs.Prelude.{suc, min}
use Rattle.own_tree.specs.declared.span.Span.{Span}

-- the `{` of a literal, its first byte
abbrev pub opening : Span → Span
opening s = record { start = s.start; end = min (suc s.start) s.end }
