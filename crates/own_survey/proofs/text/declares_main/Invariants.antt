use Rattle.std.proofs.Common.{◌≡◌, map, drop}
use Rattle.own_tree.specs.View.{declaration_view}
use Rattle.own_survey.specs.Parts.{has_main}
use Rattle.own_survey.proofs.text.declares_main.Given as goal

abbrev pub invariant-loop-declaration : goal.invariant-loop-declaration
invariant-loop-declaration l = has_main (map declaration_view l.declarations) ≡ has_main (map declaration_view (drop l.declaration-index l.declarations))
