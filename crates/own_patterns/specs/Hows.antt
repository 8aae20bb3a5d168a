-- How a clause takes the subject, as the rules see it.
use Rattle.own_judged.specs.Patterns as rule
use Rattle.own_judged.specs.Patterns.{owned, lent, twice}
use Rattle.own_patterns.specs.declared.how.How.{How}
use Rattle.own_patterns.specs.declared.how.How.TheVariants as how

abbrev pub how_of : How → rule.How
how_of how.Owned = owned
how_of how.Lent = lent
how_of how.Twice = twice
