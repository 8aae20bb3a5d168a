use Rattle.std.proofs.Common.{map, string_bytes}
use Rattle.std.proofs.lemmas.Str.{IsUtf8-string_bytes}
use Rattle.own_io.specs.Outside.{HasRisen}
use Rattle.own_words.proofs.Unique.{words_one}
use Rattle.wasm_read.proofs.AnswerLaws.{one_law}
use Rattle.own_tool.proofs.Naming.{names_text, words_are_text}
use Rattle.own_tool.proofs.Obeying.{words_obeyed, words_refused, words_unread}
use Rattle.own_tool.proofs.Completing.{modules_run}
use Rattle.own_tool.proofs.tool.swiftown.Goals as goal

pub obey-requires : goal.obey-requires
obey-requires g c = names_text (map string_bytes c.args.words.now) c.in-Ok.command (words_are_text string_bytes IsUtf8-string_bytes c.args.words.now) c.in-Ok.ensures.ok

pub returns-in-Ok-clause-answer : goal.returns-in-Ok-clause-answer
returns-in-Ok-clause-answer g c =
    words_obeyed (record { tells = g.F.Folder.tells c.args.folder.now; held = g.F.Folder.held c.args.folder.now }) (g.F.Folder.held c.obey.new.folder) (HasRisen (g.F.Folder.faults c.args.folder.now) (g.F.Folder.faults c.obey.new.folder))
    (HasRisen (g.K.Sink.faults c.args.out.now) (g.K.Sink.faults c.obey.new.out)) (HasRisen (g.E.Sink.faults c.args.err.now) (g.E.Sink.faults c.obey.new.err))
    (g.K.Sink.written c.args.out.now) (g.K.Sink.written c.obey.new.out) (g.E.Sink.written c.args.err.now) (g.E.Sink.written c.obey.new.err) c.obey.result
    (map string_bytes c.args.words.now) c.in-Ok.command c.in-Ok.ensures.ok c.obey.ensures.answer

pub returns-in-Err-Usage-clause-answer : goal.returns-in-Err-Usage-clause-answer
returns-in-Err-Usage-clause-answer g c =
    words_refused (record { tells = g.F.Folder.tells c.args.folder.now; held = g.F.Folder.held c.args.folder.now }) (g.F.Folder.held c.args.folder.now) (HasRisen (g.F.Folder.faults c.args.folder.now) (g.F.Folder.faults c.args.folder.now))
    (HasRisen (g.K.Sink.faults c.args.out.now) (g.K.Sink.faults c.args.out.now)) (HasRisen (g.E.Sink.faults c.args.err.now) (g.E.Sink.faults c.say.new.err))
    (g.K.Sink.written c.args.out.now) (g.E.Sink.written c.args.err.now) (g.E.Sink.written c.say.new.err) c.say.result (g.met.K.Sink.nothing c.args.out.now)
    (map string_bytes c.args.words.now) (c.in-Err-Usage.ensures.usage c.in-Err-Usage.field-0-is) c.say.ensures.said

pub returns-in-Err-Memory-clause-answer : goal.returns-in-Err-Memory-clause-answer
returns-in-Err-Memory-clause-answer g c =
    words_unread (record { tells = g.F.Folder.tells c.args.folder.now; held = g.F.Folder.held c.args.folder.now }) (g.F.Folder.held c.args.folder.now) (HasRisen (g.F.Folder.faults c.args.folder.now) (g.F.Folder.faults c.args.folder.now))
    (HasRisen (g.K.Sink.faults c.args.out.now) (g.K.Sink.faults c.args.out.now)) (HasRisen (g.E.Sink.faults c.args.err.now) (g.E.Sink.faults c.say-in-Err-Memory.new.err))
    (g.K.Sink.written c.args.out.now) (g.E.Sink.written c.args.err.now) (g.E.Sink.written c.say-in-Err-Memory.new.err) c.say-in-Err-Memory.result (g.met.K.Sink.nothing c.args.out.now)
    (map string_bytes c.args.words.now) c.say-in-Err-Memory.ensures.said

pub returns-in-Ok-clause-runs_modules : goal.returns-in-Ok-clause-runs_modules
returns-in-Ok-clause-runs_modules g c = λ intact out_intact err_intact.
    modules_run (record { tells = g.F.Folder.tells c.args.folder.now; held = g.F.Folder.held c.args.folder.now }) (g.F.Folder.held c.obey.new.folder) (HasRisen (g.F.Folder.faults c.args.folder.now) (g.F.Folder.faults c.obey.new.folder)) (HasRisen (g.K.Sink.faults c.args.out.now) (g.K.Sink.faults c.obey.new.out)) (HasRisen (g.E.Sink.faults c.args.err.now) (g.E.Sink.faults c.obey.new.err))
    (map string_bytes c.args.words.now) (g.K.Sink.written c.args.out.now) (g.K.Sink.written c.obey.new.out) (g.E.Sink.written c.args.err.now) (g.E.Sink.written c.obey.new.err) c.obey.result
    words_one one_law intact out_intact err_intact (returns-in-Ok-clause-answer g c)

pub returns-in-Err-Usage-clause-runs_modules : goal.returns-in-Err-Usage-clause-runs_modules
returns-in-Err-Usage-clause-runs_modules g c = λ intact out_intact err_intact.
    modules_run (record { tells = g.F.Folder.tells c.args.folder.now; held = g.F.Folder.held c.args.folder.now }) (g.F.Folder.held c.args.folder.now) (HasRisen (g.F.Folder.faults c.args.folder.now) (g.F.Folder.faults c.args.folder.now)) (HasRisen (g.K.Sink.faults c.args.out.now) (g.K.Sink.faults c.args.out.now)) (HasRisen (g.E.Sink.faults c.args.err.now) (g.E.Sink.faults c.say.new.err))
    (map string_bytes c.args.words.now) (g.K.Sink.written c.args.out.now) (g.K.Sink.written c.args.out.now) (g.E.Sink.written c.args.err.now) (g.E.Sink.written c.say.new.err) c.say.result
    words_one one_law intact out_intact err_intact (returns-in-Err-Usage-clause-answer g c)

pub returns-in-Err-Memory-clause-runs_modules : goal.returns-in-Err-Memory-clause-runs_modules
returns-in-Err-Memory-clause-runs_modules g c = λ intact out_intact err_intact.
    modules_run (record { tells = g.F.Folder.tells c.args.folder.now; held = g.F.Folder.held c.args.folder.now }) (g.F.Folder.held c.args.folder.now) (HasRisen (g.F.Folder.faults c.args.folder.now) (g.F.Folder.faults c.args.folder.now)) (HasRisen (g.K.Sink.faults c.args.out.now) (g.K.Sink.faults c.args.out.now)) (HasRisen (g.E.Sink.faults c.args.err.now) (g.E.Sink.faults c.say-in-Err-Memory.new.err))
    (map string_bytes c.args.words.now) (g.K.Sink.written c.args.out.now) (g.K.Sink.written c.args.out.now) (g.E.Sink.written c.args.err.now) (g.E.Sink.written c.say-in-Err-Memory.new.err) c.say-in-Err-Memory.result
    words_one one_law intact out_intact err_intact (returns-in-Err-Memory-clause-answer g c)

pub returns-in-Ok-clause-folder_alone : goal.returns-in-Ok-clause-folder_alone
returns-in-Ok-clause-folder_alone g c = λ unserved. c.obey.ensures.folder_alone (unserved c.in-Ok.command c.in-Ok.ensures.ok)

pub returns-in-Ok-clause-out_alone : goal.returns-in-Ok-clause-out_alone
returns-in-Ok-clause-out_alone g c = λ unserved. c.obey.ensures.out_alone (unserved c.in-Ok.command c.in-Ok.ensures.ok)

pub returns-in-Ok-clause-names : goal.returns-in-Ok-clause-names
returns-in-Ok-clause-names g c = λ name left. c.obey.ensures.names name (left c.in-Ok.command c.in-Ok.ensures.ok)
