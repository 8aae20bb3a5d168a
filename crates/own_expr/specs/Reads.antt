-- Reading within the limits.
use Rattle.own_tree.specs.declared.limits.TheConstants.{MOST_NESTING}
use Rattle.own_grammar.specs.declared.limits.TheConstants.{MOST_PATTERN_LEVELS}
use Rattle.own_grammar.specs.Reading.{Reader, read}

abbrev pub reader : Reader
reader = read MOST_NESTING MOST_PATTERN_LEVELS
