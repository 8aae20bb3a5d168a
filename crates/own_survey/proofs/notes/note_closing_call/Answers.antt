use Rattle.std.proofs.Common.{add-one}
use Rattle.own_survey.proofs.Walked.{arg_count_of}
use Rattle.own_survey.proofs.notes.note_closing_call.Goals as goal

pub returns : goal.returns
returns c = rw (arg_count_of c.args.arguments.now, ← add-one) c.note_print.ensures
