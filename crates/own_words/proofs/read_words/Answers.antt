use Rattle.std.proofs.Common.{map, string_bytes}
use Rattle.std.proofs.lemmas.Result.{IfErr-weaker, IfOk-weaker, err_from_is_err_and}
use Rattle.clap.specs.Matches.{found_of}
use Rattle.clap.specs.Simple.{app_of}
use Rattle.clap.specs.Walk.{rows_of}
use Rattle.own_words.specs.Seen.{seen}
use Rattle.own_words.proofs.Whole.{all_utf8, answers, met, refused}
use Rattle.own_words.proofs.read_words.Goals as goal

pub command-requires : goal.command-requires
command-requires c =
    let is = answers (map string_bytes c.args.words.now) c.in-Some.name.now (rows_of (found_of c.in-Some.line.now)) (seen c.given_by.result)
    (met (app_of c.in_ok-line.field-0) (map string_bytes c.args.words.now) c.in_ok-matches.matches c.in-Some.name.now (rows_of (found_of c.in-Some.line.now))
    c.in_ok-line.ensures (all_utf8 c.args.words.now) c.in_ok-matches.ensures.kinds c.in_ok-matches.ensures.matches (c.in-Some.ensures.name, c.in-Some.ensures.rows))
    c.given_by.ensures in
    is.own

pub returns-in-Some-clause-ok : goal.returns-in-Some-clause-ok
returns-in-Some-clause-ok c =
    let is = answers (map string_bytes c.args.words.now) c.in-Some.name.now (rows_of (found_of c.in-Some.line.now)) (seen c.given_by.result)
    (met (app_of c.in_ok-line.field-0) (map string_bytes c.args.words.now) c.in_ok-matches.matches c.in-Some.name.now (rows_of (found_of c.in-Some.line.now))
    c.in_ok-line.ensures (all_utf8 c.args.words.now) c.in_ok-matches.ensures.kinds c.in_ok-matches.ensures.matches (c.in-Some.ensures.name, c.in-Some.ensures.rows))
    c.given_by.ensures in
    IfOk-weaker c.command.result _ _ is.read c.command.ensures.ok

pub returns-in-Some-clause-usage : goal.returns-in-Some-clause-usage
returns-in-Some-clause-usage c =
    let is = answers (map string_bytes c.args.words.now) c.in-Some.name.now (rows_of (found_of c.in-Some.line.now)) (seen c.given_by.result)
    (met (app_of c.in_ok-line.field-0) (map string_bytes c.args.words.now) c.in_ok-matches.matches c.in-Some.name.now (rows_of (found_of c.in-Some.line.now))
    c.in_ok-line.ensures (all_utf8 c.args.words.now) c.in_ok-matches.ensures.kinds c.in_ok-matches.ensures.matches (c.in-Some.ensures.name, c.in-Some.ensures.rows))
    c.given_by.ensures in
    IfErr-weaker c.command.result _ _ (λ e none usage. is.none (none usage)) c.command.ensures.usage

pub returns-in_err-matches-clause-usage : goal.returns-in_err-matches-clause-usage
returns-in_err-matches-clause-usage c =
    let p = err_from_is_err_and c.from_residual-in_err-matches.result c.from_residual-in_err-matches.ensures.1 in
    let memory = refused (app_of c.in_ok-line.field-0) (map string_bytes c.args.words.now) c.in_err-matches.field-0.0 c.in_ok-line.ensures (all_utf8 c.args.words.now)
    c.in_err-matches.ensures.kinds in
    rw p.1 (λ usage d h.
    let is = p.2.1 (memory d h) in
    cc)
