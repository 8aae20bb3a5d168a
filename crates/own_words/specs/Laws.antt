-- What is known of the words of a command, whoever reads them.
use Rattle.std.specs.Prelude.{◌≡◌, List}
use Rattle.own_tree.specs.declared.command.Command.{Command}
use Rattle.own_words.specs.Words.{Text, Words}

-- Words are one command at most.
abbrev pub WordsOne : Type 0
WordsOne = (ws : List Text) (c d : Command) → Words ws c → Words ws d → c ≡ d
