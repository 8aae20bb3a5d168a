use Rattle.std.proofs.Common.{◌≡◌, ◌∙◌}
use Rattle.own_tree.specs.View.{tree_view}
use Rattle.own_survey.specs.Names.{written_in}
use Rattle.own_survey.specs.TextWalks.{file_walk}
use Rattle.own_survey.proofs.Surveyed.{text_noted, if_ok}
use Rattle.own_survey.proofs.text.survey.Goals as goal

pub returns : goal.returns
returns c =
    if_ok c.survey_of.result (λ found. found ≡ file_walk (written_in c.args.names.now) (tree_view c.args.tree.now)) _
    (λ found is. is ∙ text_noted c.args.names.now (tree_view c.args.tree.now) c.requires) c.survey_of.ensures
