-- What `clap` is told of the command line.
use Rattle.std.specs.Prelude.{◌≡◌, codes, Some, true, false, []}
use Rattle.clap.specs.Walk.{Rule}
use Rattle.clap.specs.declared.builder.command.Command.TheViews.{out-Command as fields_of}
use Rattle.clap.specs.declared.builder.command.Command.{Command}
use Rattle.clap.specs.Simple.{App, app_of, new_app, new_rule, new_shape, with_rule, with_subcommand}
use Rattle.clap.specs.declared.builder.action.ArgAction.TheVariants.{Append, Set, SetTrue}

-- the plain words
abbrev pub words_rule : Rule
words_rule = record (new_rule (codes "words")) { action = Some Append }

abbrev pub steps_rule : Rule
steps_rule = record (new_rule (codes "steps")) { long = Some (codes "steps"); action = Some Set }

abbrev pub out_rule : Rule
out_rule = record (new_rule (codes "out")) { short = Some 111; action = Some Set }

abbrev pub trace_rule : Rule
trace_rule = record (new_rule (codes "trace")) { long = Some (codes "trace"); action = Some SetTrue }

abbrev pub check_app : App
check_app = with_rule (new_app (codes "check")) words_rule

abbrev pub build_app : App
build_app = with_rule (with_rule (with_rule (new_app (codes "build")) words_rule) out_rule) trace_rule

abbrev pub run_app : App
run_app =
    with_rule (with_rule (with_rule (with_rule (new_app (codes "run")) words_rule) steps_rule) out_rule) trace_rule

abbrev pub exec_app : App
exec_app = with_rule (with_rule (new_app (codes "exec")) words_rule) steps_rule

abbrev pub selftest_app : App
selftest_app = with_rule (new_app (codes "selftest")) words_rule

-- no word for the program stands first, and no help or version is offered
abbrev pub bare_app : App
bare_app = record {
  top = record (new_shape (codes "swiftown")) {
    no_binary_name = true;
    disable_help_flag = true;
    disable_help_subcommand = true;
    disable_version_flag = true;
    subcommand_required = true;
  };
  subs = [];
}

abbrev pub line_app : App
line_app =
    with_subcommand
    (with_subcommand
    (with_subcommand (with_subcommand (with_subcommand bare_app check_app.top) build_app.top) run_app.top)
    exec_app.top)
    selftest_app.top

-- the command is that, and has no argument for the commands below it
abbrev pub IsTold : App → Command → Type 0
IsTold a c = (app_of c ≡ a) × ((fields_of c).has_globals ≡ false)
