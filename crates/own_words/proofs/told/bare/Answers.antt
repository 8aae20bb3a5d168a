use Rattle.own_words.proofs.Telling.{told_settings}
use Rattle.own_words.proofs.told.bare.Goals as goal

pub returns : goal.returns
returns c =
    told_settings c.new.result c.no_binary_name.result c.disable_help_flag.result c.disable_help_subcommand.result c.disable_version_flag.result c.subcommand_required.result
    (c.new.ensures.app, c.new.ensures.local) c.no_binary_name.ensures c.disable_help_flag.ensures c.disable_help_subcommand.ensures c.disable_version_flag.ensures c.subcommand_required.ensures
