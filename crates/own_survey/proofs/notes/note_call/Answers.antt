use Rattle.own_survey.proofs.Walked.{arg_count_of}
use Rattle.own_survey.proofs.notes.note_call.Goals as goal

pub returns : goal.returns
returns c = rw (arg_count_of c.args.arguments.now) c.note_print.ensures
