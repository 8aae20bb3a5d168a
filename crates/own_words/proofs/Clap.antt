-- The subcommands as `clap` builds them, and what it makes of one word.
use Rattle.std.proofs.Common.{◌≡◌, ℕ, Bool, true, false, List, [], ◌∷◌, codes, Option, Some, None, refl, ◌==◌}
use Rattle.std.specs.Str.{bytes_eq}
use Rattle.clap.specs.Walk.{Rule, Text, arg_by_id, arg_by_index, arg_by_long, arg_by_short}
use Rattle.clap.specs.Simple.{Shape, filled, new_shape, with_index}
use Rattle.own_words.specs.Told.{words_rule, steps_rule, out_rule, trace_rule}
use Rattle.own_words.specs.Words.{steps, outs, traces}
use Rattle.own_words.proofs.Reading.{Options}

pub data Name : Type 0 where
  check : Name
  build : Name
  run : Name
  exec : Name
  selftest : Name

abbrev pub text_of : Name → Text
text_of check = codes "check"
text_of build = codes "build"
text_of run = codes "run"
text_of exec = codes "exec"
text_of selftest = codes "selftest"

-- the options of each command
abbrev pub options : Name → Options
options build outs = true
options build traces = true
options run steps = true
options run outs = true
options run traces = true
options exec steps = true
options _ _ = false

abbrev pub words_built : Rule
words_built = with_index 1 (filled words_rule)

abbrev pub steps_built : Rule
steps_built = filled steps_rule

abbrev pub out_built : Rule
out_built = filled out_rule

abbrev pub trace_built : Rule
trace_built = filled trace_rule

abbrev pub rules : Name → List Rule
rules check = words_built ∷ []
rules build = words_built ∷ out_built ∷ trace_built ∷ []
rules run = words_built ∷ steps_built ∷ out_built ∷ trace_built ∷ []
rules exec = words_built ∷ steps_built ∷ []
rules selftest = words_built ∷ []

-- ---- which argument a word names

abbrev pub if_has : Bool → Rule → Option Rule
if_has true a = Some a
if_has false a = None

pub words_at : (n : Name) → arg_by_index (rules n) 1 ≡ Some words_built
words_at check = refl
words_at build = refl
words_at run = refl
words_at exec = refl
words_at selftest = refl

pub steps_named : (n : Name) → arg_by_long (rules n) (codes "steps") ≡ if_has (options n steps) steps_built
steps_named check = refl
steps_named build = refl
steps_named run = refl
steps_named exec = refl
steps_named selftest = refl

pub trace_named : (n : Name) → arg_by_long (rules n) (codes "trace") ≡ if_has (options n traces) trace_built
trace_named check = refl
trace_named build = refl
trace_named run = refl
trace_named exec = refl
trace_named selftest = refl

pub none_named : (n : Name) (name : Text) → bytes_eq (codes "steps") name ≡ false → bytes_eq (codes "trace") name ≡ false → arg_by_long (rules n) name ≡ None
none_named check name s t = refl
none_named build name s t = rw t refl
none_named run name s t = rw (s, t) refl
none_named exec name s t = rw s refl
none_named selftest name s t = refl

pub out_named : (n : Name) → arg_by_short (rules n) 111 ≡ if_has (options n outs) out_built
out_named check = refl
out_named build = refl
out_named run = refl
out_named exec = refl
out_named selftest = refl

pub none_short : (n : Name) (x : ℕ) → (111 == x) ≡ false → arg_by_short (rules n) x ≡ None
none_short check x h = refl
none_short build x h = rw h refl
none_short run x h = rw h refl
none_short exec x h = refl
none_short selftest x h = refl

pub words_by_id : (n : Name) → arg_by_id (rules n) (codes "words") ≡ Some words_built
words_by_id check = refl
words_by_id build = refl
words_by_id run = refl
words_by_id exec = refl
words_by_id selftest = refl

pub steps_by_id : (n : Name) → arg_by_id (rules n) (codes "steps") ≡ if_has (options n steps) steps_built
steps_by_id check = refl
steps_by_id build = refl
steps_by_id run = refl
steps_by_id exec = refl
steps_by_id selftest = refl

pub out_by_id : (n : Name) → arg_by_id (rules n) (codes "out") ≡ if_has (options n outs) out_built
out_by_id check = refl
out_by_id build = refl
out_by_id run = refl
out_by_id exec = refl
out_by_id selftest = refl

-- ---- the shape of a subcommand

abbrev pub leaf : Text → List Rule → Shape
leaf name c = record (new_shape name) {
  rules = c;
  no_binary_name = true;
  disable_help_flag = true;
  disable_help_subcommand = true;
  disable_version_flag = true;
  is_built = true;
}
