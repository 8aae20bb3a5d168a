-- Names, as a scope keeps them.
use Rattle.own_judged.specs.Names.{Local}
use Rattle.own_scope.specs.declared.held.Held.{Held}
use Rattle.own_scope.specs.Locals.{named}

abbrev pub held_local : Held → Local
held_local h = named h.name h.bound
