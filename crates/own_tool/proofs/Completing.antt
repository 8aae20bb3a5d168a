-- From what `exec` answers to its completeness: a module that the folder holds is run.
use Rattle.std.proofs.Common.{◌≡◌, ◌∙◌, ℕ, ◌<◌, ℤ, inl, inr, List, Option, Some, None, length, refl, sym, ap, subst, arith}
use Rattle.std.specs.Prelude.{◌⊎◌, IsTrue, IsSomeAnd}
use Rattle.own_tree.specs.declared.command.Command.TheVariants as command
use Rattle.own_tree.specs.declared.status.Status.{Status}
use Rattle.own_tree.specs.declared.status.Status.TheVariants as status
use Rattle.own_io.specs.Outside as outside
use Rattle.own_words.specs.Words.{Words}
use Rattle.own_words.specs.Laws.{WordsOne}
use Rattle.wasm_form.specs.declared.module.Module.{Module}
use Rattle.wasm_form.specs.Bytes.{ModuleBytes}
use Rattle.wasm_form.specs.Steps.{Outcome, Ended, Trapped, Running, machine_run}
use Rattle.wasm_read.specs.Laws.{SpellOne}
use Rattle.own_tool.specs.Headline.{Told, Holding, IsContent, Meaning, WholeOrCut, IsAnswered}
use Rattle.own_tool.specs.Exec.{MOST_MODULE_BYTES, Executes, IsBadModule, ExecAnswers, HoldsModule, status_of_outcome, IsRunOrMemory}
use Rattle.own_tool.specs.Commands.{Answers, CommandAnswers, RunsModules}

-- where no write failed an answer is meant
whole_of : (means : Meaning) (faults_of_out faults_of_err : Type 0) (answer : Status) (gained said : List ℕ) → (faults_of_out → ⊥) → (faults_of_err → ⊥)
    → WholeOrCut means faults_of_out faults_of_err answer gained said → means answer gained said
whole_of means fo fe status.Done gained said out_intact err_intact h = h
whole_of means fo fe status.Refused gained said out_intact err_intact h = h
whole_of means fo fe status.Usage gained said out_intact err_intact h = h
whole_of means fo fe status.Trapped gained said out_intact err_intact h = h
whole_of means fo fe status.OutOfSteps gained said out_intact err_intact h = h
whole_of means fo fe status.Memory gained said out_intact err_intact h = h
whole_of means fo fe status.ReadFault gained said out_intact err_intact h = h
whole_of means fo fe status.BadModule gained said out_intact err_intact h = h
whole_of means fo fe status.WriteFault gained said out_intact err_intact (inl h) = h
whole_of means fo fe status.WriteFault gained said out_intact err_intact (inr (answer, wanted, line, h, inl cut)) = absurd (out_intact cut.0)
whole_of means fo fe status.WriteFault gained said out_intact err_intact (inr (answer, wanted, line, h, inr cut)) = absurd (err_intact cut.0)

some_is : (x : Option (List ℕ)) (a b : List ℕ) → x ≡ Some a → x ≡ Some b → a ≡ b
some_is x a b h k = let e : Some a ≡ Some b = sym h ∙ k in cc

none_is_some : (x : Option (List ℕ)) (a : List ℕ) → x ≡ None → x ≡ Some a → ⊥
none_is_some x a h k = let e : None ≡ Some a = sym h ∙ k in cc

module _ (folder : Told) (after : Holding) (failed : Type 0) (file bytes : List ℕ) (steps : ℕ) (input : List ℤ) (m : Module) (one : SpellOne) (holds : HoldsModule folder file bytes m) where
  is_bytes : (other : List ℕ) → IsContent folder file other → other ≡ bytes
  is_bytes other content = some_is (folder.held file) other bytes (content holds.tells) holds.content

  -- what was executed is this module
  is_run : (gained : List ℕ) (outcome : Outcome) → Executes folder file steps input gained outcome → outcome ≡ (machine_run m input steps).1
  is_run gained outcome e =
      let spelled : ModuleBytes bytes e.1 = subst (λ b. ModuleBytes b e.1) (is_bytes e.0 e.2) e.4 in
      let same : e.1 ≡ m = one bytes e.1 m spelled holds.spells in
      let ran : machine_run m input steps ≡ (gained, outcome) = subst (λ n. machine_run n input steps ≡ (gained, outcome)) same e.5 in
      sym (ap (λ (r : List ℕ × Outcome). r.1) ran)

  never_unread : (failed → ⊥) → failed ⊎ (IsTrue folder.tells × (folder.held file ≡ None)) → ⊥
  never_unread intact (inl f) = intact f
  never_unread intact (inr h) = none_is_some (folder.held file) bytes h.1 holds.content

  never_long : IsSomeAnd (folder.held file) (λ b. MOST_MODULE_BYTES < length b) → ⊥
  never_long long =
      let h : IsSomeAnd (Some bytes) (λ b. MOST_MODULE_BYTES < length b) = subst (λ (x : Option (List ℕ)). IsSomeAnd x (λ b. MOST_MODULE_BYTES < length b)) holds.content long in
      omega (arith, h, holds.short)

  never_bad : (gained said : List ℕ) → IsBadModule folder file gained said → ⊥
  never_bad gained said (empty, inl (other, e, content, none, line)) = none.none m (subst (λ b. ModuleBytes b m) (sym (is_bytes other content)) holds.spells)
  never_bad gained said (empty, inr (long, line)) = never_long (long holds.tells)

  pub exec_runs : (answer : Status) (gained said : List ℕ) → (failed → ⊥) → ExecAnswers folder failed file steps input answer gained said → IsRunOrMemory m steps input answer
  exec_runs status.Done gained said intact e = inl (ap status_of_outcome (is_run gained (Ended e.0) e.1))
  exec_runs status.Refused gained said intact e = absurd e
  exec_runs status.Usage gained said intact e = absurd e
  exec_runs status.Trapped gained said intact e = inl (ap status_of_outcome (is_run gained (Trapped e.0 e.1) e.2))
  exec_runs status.OutOfSteps gained said intact e = inl (ap status_of_outcome (is_run gained Running e.0))
  exec_runs status.Memory gained said intact e = inr refl
  exec_runs status.ReadFault gained said intact e = absurd (never_unread intact e.0)
  exec_runs status.WriteFault gained said intact e = absurd e
  exec_runs status.BadModule gained said intact e = absurd (never_bad gained said e)

  -- whatever the words were read as, they are this command
  pub words_run : (words : List (List ℕ)) (answer : Status) (gained said : List ℕ) → WordsOne → Words words (command.Exec file steps input) → (failed → ⊥)
      → Answers folder after failed words answer gained said → IsRunOrMemory m steps input answer
  words_run words answer gained said only is intact (inl (c, read, h)) =
      let same : c ≡ command.Exec file steps input = only words c (command.Exec file steps input) read is in
      exec_runs answer gained said intact (subst (λ d. CommandAnswers folder after failed d answer gained said) same h)
  words_run words answer gained said only is intact (inr (inl (none, usage))) = absurd (none (command.Exec file steps input) is)
  words_run words answer gained said only is intact (inr (inr unread)) = inr unread.status_is

pub modules_run : (folder : Told) (after : Holding) (failed faults_of_out faults_of_err : Type 0) (words : List (List ℕ)) (out out' err err' : outside.Told) (answer : Status)
    → WordsOne → SpellOne → (failed → ⊥) → (faults_of_out → ⊥) → (faults_of_err → ⊥)
    → IsAnswered (Answers folder after failed words) faults_of_out faults_of_err out out' err err' answer → RunsModules folder words answer
modules_run folder after failed fo fe words out out' err err' answer only one intact out_intact err_intact a = λ file bytes steps input m is holds.
    words_run folder after failed file bytes steps input m one holds words answer a.0 a.1 only is intact
    (whole_of (Answers folder after failed words) fo fe answer a.0 a.1 out_intact err_intact a.4)
