-- What `clap` has been told, one call after another.
use Rattle.std.proofs.Common.{◌≡◌, ◌∙◌, ◌||◌, true, false, codes, ap, ap₂}
use Rattle.clap.specs.Walk.{Rule, rule_of}
use Rattle.clap.specs.Simple.{App, app_of, app_of_fields, new_app, on_top, with_rule, with_subcommand}
use Rattle.clap.specs.Built.{AddsArg, AddsSubcommand}
use Rattle.clap.specs.declared.builder.arg.Arg.{Arg}
use Rattle.clap.specs.declared.builder.command.Command.{Command}
use Rattle.clap.specs.declared.builder.command.Command.TheViews.{out-Command as fields_of}
use Rattle.clap.specs.declared.builder.command.Command.TheOpen.{Command-F}
use Rattle.own_words.specs.Told.{IsTold, bare_app, check_app, build_app, run_app, exec_app, selftest_app, line_app}

-- one argument more
pub told_with : (a : App) (r : Rule) (old : Command) (arg : Arg) (new : Command) → IsTold a old → (rule_of arg ≡ r) × (arg.global ≡ false) → AddsArg old arg new
    → IsTold (with_rule a r) new
told_with a r old arg new told is added =
    (added.shape is.1 ∙ ap₂ with_rule told.0 is.0, added.globals ∙ ap₂ (λ x y. x || y) told.1 is.1)

-- the settings of the line, in the order of the calls
pub told_settings : (c d e f g h : Command) → IsTold (new_app (codes "swiftown")) c
    → fields_of d ≡ record (fields_of c) { no_binary_name = true }
    → fields_of e ≡ record (fields_of d) { disable_help_flag = true }
    → fields_of f ≡ record (fields_of e) { disable_help_subcommand = true }
    → fields_of g ≡ record (fields_of f) { disable_version_flag = true }
    → fields_of h ≡ record (fields_of g) { subcommand_required = true }
    → IsTold bare_app h
told_settings c d e f g h told p q r s t =
    let all : fields_of h ≡ record (fields_of c) { no_binary_name = true; disable_help_flag = true; disable_help_subcommand = true; disable_version_flag = true; subcommand_required = true } =
    t ∙ ap (λ (x : Command-F Command). record x { subcommand_required = true })
    (s ∙ ap (λ (x : Command-F Command). record x { disable_version_flag = true })
    (r ∙ ap (λ (x : Command-F Command). record x { disable_help_subcommand = true })
    (q ∙ ap (λ (x : Command-F Command). record x { disable_help_flag = true }) p))) in (
      ap app_of_fields all
          ∙ ap (on_top (λ s. record s { no_binary_name = true; disable_help_flag = true; disable_help_subcommand = true; disable_version_flag = true; subcommand_required = true })) told.0,
      ap (λ (x : Command-F Command). x.has_globals) all ∙ told.1,
    )

-- one command more
line_with : (a b : App) (old sub new : Command) → app_of old ≡ a → IsTold b sub → AddsSubcommand old sub new → app_of new ≡ with_subcommand a b.top
line_with a b old sub new is told added = added.shape told.1 ∙ ap₂ with_subcommand is (ap (λ (x : App). x.top) told.0)

-- the five commands, in the order of the calls
pub line_told : (bare check build run exec selftest c d e f g : Command) → IsTold bare_app bare
    → IsTold check_app check → AddsSubcommand bare check c
    → IsTold build_app build → AddsSubcommand c build d
    → IsTold run_app run → AddsSubcommand d run e
    → IsTold exec_app exec → AddsSubcommand e exec f
    → IsTold selftest_app selftest → AddsSubcommand f selftest g
    → app_of g ≡ line_app
line_told bare check build run exec selftest c d e f g told is_check with_check is_build with_build is_run with_run is_exec with_exec is_selftest with_selftest =
    line_with _ selftest_app f selftest g
    (line_with _ exec_app e exec f
    (line_with _ run_app d run e
    (line_with _ build_app c build d
    (line_with bare_app check_app bare check c told.0 is_check with_check) is_build with_build) is_run with_run) is_exec with_exec) is_selftest with_selftest
