use Rattle.std.proofs.Common.{◌≡◌, ◌++◌, drop}
use Rattle.own_paths.specs.Captures.{stms_mention}
use Rattle.own_within.specs.View.{stms_seen, captured_seen}
use Rattle.own_within.proofs.mentions.push_statements_mention.Given as goal

abbrev pub invariant-loop-statement : goal.invariant-loop-statement
invariant-loop-statement l =
    captured_seen l.mentions.items ++ stms_mention (stms_seen (drop l.statement-index l.statements))
    ≡ captured_seen l.fn.mentions.items ++ stms_mention (stms_seen l.statements)
