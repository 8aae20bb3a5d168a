-- From what a command answers to what the words answer.
use Rattle.std.proofs.Common.{◌≡◌, ℕ, ℤ, inl, inr, Bool, true, false, List, [], Option, refl, sym, subst}
use Rattle.own_tree.specs.declared.command.Command.{Command}
use Rattle.own_tree.specs.declared.command.Command.TheVariants as command
use Rattle.own_tree.specs.declared.status.Status.{Status}
use Rattle.own_tree.specs.declared.status.Status.TheVariants as status
use Rattle.own_io.specs.Outside as outside
use Rattle.own_io.specs.Outside.{told_after}
use Rattle.own_words.specs.Words.{Words}
use Rattle.own_tool.specs.Texts.{usage_line, memory_line}
use Rattle.own_tool.specs.Headline.{Told, Holding, IsUsage, Meaning, IsAnswered}
use Rattle.own_tool.specs.Saying.{Said}
use Rattle.own_tool.specs.Build.{BuildAnswers}
use Rattle.own_tool.specs.Check.{CheckAnswers}
use Rattle.own_tool.specs.Exec.{ExecAnswers}
use Rattle.own_tool.specs.Run.{RunAnswers}
use Rattle.own_tool.specs.Commands.{Answers, CommandAnswers, IsNoCommand, is_served}
use Rattle.own_tool.proofs.Answering.{widened, said_alone}

module _ (folder : Told) (after : Holding) (failed : Type 0) where
  -- ---- commands that are served, and those that are not

  said_usage : IsUsage status.Usage [] usage_line
  said_usage = record { status_is = refl; gained_is = refl; said_is = refl }

  usage_meant : (c : Command) → is_served c ≡ false → CommandAnswers folder after failed c status.Usage [] usage_line
  usage_meant (command.Check file) unserved = let e : true ≡ false = unserved in absurd (cc)
  usage_meant (command.Build file out trace) unserved = let e : true ≡ false = unserved in absurd (cc)
  usage_meant (command.Run file out steps trace input) unserved = let e : true ≡ false = unserved in absurd (cc)
  usage_meant (command.Exec file steps input) unserved = let e : true ≡ false = unserved in absurd (cc)
  usage_meant (command.Selftest number size) unserved = said_usage

  module _ (faults_of_out faults_of_err : Type 0) (out err err' : outside.Told) (result : Status) (nothing : told_after out [] ≡ out) where
    pub usage_obeyed : (c : Command) → is_served c ≡ false → Said status.Usage usage_line result err err' faults_of_err
        → IsAnswered (CommandAnswers folder after failed c) faults_of_out faults_of_err out out err err' result
    usage_obeyed c unserved s =
        said_alone (CommandAnswers folder after failed c) faults_of_out faults_of_err status.Usage usage_line out err err' result nothing (usage_meant c unserved) s

    -- words that are no command
    pub words_refused : (words : List (List ℕ)) → IsNoCommand words → Said status.Usage usage_line result err err' faults_of_err
        → IsAnswered (Answers folder after failed words) faults_of_out faults_of_err out out err err' result
    words_refused words none s =
        said_alone (Answers folder after failed words) faults_of_out faults_of_err status.Usage usage_line out err err' result nothing (inr (inl (none, said_usage))) s

    -- words for which memory was refused
    pub words_unread : (words : List (List ℕ)) → Said status.Memory memory_line result err err' faults_of_err
        → IsAnswered (Answers folder after failed words) faults_of_out faults_of_err out out err err' result
    words_unread words s =
        said_alone (Answers folder after failed words) faults_of_out faults_of_err status.Memory memory_line out err err' result nothing
        (inr (inr (record { status_is = refl; gained_is = refl; said_is = refl }))) s

  module _ (faults_of_out faults_of_err : Type 0) (out out' err err' : outside.Told) (result : Status) where
    abbrev Concludes : Meaning → Type 0
    Concludes means = IsAnswered means faults_of_out faults_of_err out out' err err' result

    -- a command, whose files have these names
    obeyed : (c d : Command) → c ≡ d → (means : Meaning) → ((answer : Status) (gained said : List ℕ) → means answer gained said → CommandAnswers folder after failed d answer gained said)
        → Concludes means → Concludes (CommandAnswers folder after failed c)
    obeyed c d is means f a =
        subst (λ e. Concludes (CommandAnswers folder after failed e)) (sym is) (widened means (CommandAnswers folder after failed d) faults_of_out faults_of_err out out' err err' result f a)

    pub check_obeyed : (c : Command) (name file : List ℕ) → c ≡ command.Check file → name ≡ file
        → Concludes (CheckAnswers folder failed name) → Concludes (CommandAnswers folder after failed c)
    check_obeyed c name file is same =
        obeyed c (command.Check file) is (CheckAnswers folder failed name) (λ answer gained said h. subst (λ n. CheckAnswers folder failed n answer gained said) same h)

    pub build_obeyed : (c : Command) (name file saved_name saved : List ℕ) (trace : Bool) → c ≡ command.Build file saved trace → name ≡ file → saved_name ≡ saved
        → Concludes (BuildAnswers folder after failed name saved_name) → Concludes (CommandAnswers folder after failed c)
    build_obeyed c name file saved_name saved trace is same same_saved =
        obeyed c (command.Build file saved trace) is (BuildAnswers folder after failed name saved_name)
        (λ answer gained said h. subst (λ n. BuildAnswers folder after failed n saved answer gained said) same (subst (λ n. BuildAnswers folder after failed name n answer gained said) same_saved h))

    pub run_obeyed : (c : Command) (name file : List ℕ) (saved : Option (List ℕ)) (steps : ℕ) (trace : Bool) (input : List ℤ)
        → c ≡ command.Run file saved steps trace input → name ≡ file
        → Concludes (RunAnswers folder after name saved steps input failed) → Concludes (CommandAnswers folder after failed c)
    run_obeyed c name file saved steps trace input is same =
        obeyed c (command.Run file saved steps trace input) is (RunAnswers folder after name saved steps input failed)
        (λ answer gained said h. subst (λ n. RunAnswers folder after n saved steps input failed answer gained said) same h)

    pub exec_obeyed : (c : Command) (name file : List ℕ) (steps : ℕ) (input : List ℤ) → c ≡ command.Exec file steps input → name ≡ file
        → Concludes (ExecAnswers folder failed name steps input) → Concludes (CommandAnswers folder after failed c)
    exec_obeyed c name file steps input is same =
        obeyed c (command.Exec file steps input) is (ExecAnswers folder failed name steps input) (λ answer gained said h. subst (λ n. ExecAnswers folder failed n steps input answer gained said) same h)

    pub words_obeyed : (words : List (List ℕ)) (c : Command) → Words words c → Concludes (CommandAnswers folder after failed c) → Concludes (Answers folder after failed words)
    words_obeyed words c read a =
        widened (CommandAnswers folder after failed c) (Answers folder after failed words) faults_of_out faults_of_err out out' err err' result
        (λ answer gained said h. inl (c, read, h)) a
