use Rattle.std.proofs.Common.{◌≡◌, map, take}
use Rattle.own_tree.specs.View.{declaration_view}
use Rattle.own_survey.specs.Parts.{declared_name}
use Rattle.own_survey.proofs.text.note_top_names.Given as goal

abbrev pub invariant-loop-declaration : goal.invariant-loop-declaration
invariant-loop-declaration l = (l.survey ≡ l.fn.survey) × (map (λ n. n.now) l.names.items ≡ map declared_name (map declaration_view (take l.declaration-index l.declarations)))
