use Rattle.std.proofs.Common.{◌≡◌, map, drop}
use Rattle.own_tree.specs.View.{declaration_view}
use Rattle.own_survey.specs.Names.{written_in}
use Rattle.own_survey.specs.TextWalks.{declarations_walk}
use Rattle.own_survey.proofs.text.walk_declarations.Given as goal

abbrev pub invariant-loop-declaration : goal.invariant-loop-declaration
invariant-loop-declaration l = declarations_walk (written_in l.fn.names) (map declaration_view (drop l.declaration-index l.declarations)) l.survey ≡ declarations_walk (written_in l.fn.names) (map declaration_view l.declarations) l.fn.survey
