-- Words that `clap` took, and words that it refused.
use Rattle.std.proofs.Common.{◌≡◌, ◌∙◌, inl, inr, true, List, [], ◌∷◌, map, Option, Some, None, refl, sym, ap, subst, string_bytes}
use Rattle.std.specs.Prelude.{Box, String}
use Rattle.std.specs.Box.{box_value}
use Rattle.std.specs.Option.{option_map}
use Rattle.std.proofs.lemmas.Str.{IsUtf8-string_bytes}
use Rattle.clap.specs.Kinds.{HasKind}
use Rattle.clap.specs.Faults.{fault_of, is_simple_and_free}
use Rattle.clap.specs.Matches.{subcommand_name_of}
use Rattle.clap.specs.Simple.{App, HasMatchesOf, is_simple, subcommand_of, subcommand_rows, subcommand_rows_of}
use Rattle.clap.specs.Values.{kind_of}
use Rattle.clap.specs.Walk.{Row}
use Rattle.clap.specs.declared.error.Error.{Error}
use Rattle.clap.specs.declared.error.kind.ErrorKind.TheVariants as kind
use Rattle.clap.specs.declared.parser.matches.ArgMatches.{ArgMatches}
use Rattle.clap.specs.declared.parser.matches.ArgMatches.TheViews.{out-ArgMatches, out-SubCommand}
use Rattle.clap.specs.declared.parser.matches.SubCommand.{SubCommand}
use Rattle.own_tree.specs.declared.command.Command.{Command}
use Rattle.own_words.specs.Held.{AreHeld}
use Rattle.own_words.specs.Seen.{HasOwn}
use Rattle.own_words.specs.Told.{line_app}
use Rattle.own_words.specs.Words.{Text, Given, given, Takes, Words}
use Rattle.own_words.proofs.Clap.{options}
use Rattle.own_words.proofs.Walks.{AllUtf8}
use Rattle.own_words.proofs.Top.{Taken, line_simple, no_fault_of, taken}
use Rattle.own_words.proofs.Unique.{fits_all, one_given, takes_named}

module _ {Z : Type 0} where
  pub all_utf8 : (ws : List (String Z)) → AllUtf8 (map string_bytes ws)
  all_utf8 [] = tt
  all_utf8 (w ∷ ws) = (IsUtf8-string_bytes w, all_utf8 ws)

  name_met : (o : Option (Box SubCommand Z)) → option_map (λ b. (out-SubCommand (box_value b)).name.now) o ≡ option_map (λ p. p.0) (subcommand_rows o)
  name_met None = refl
  name_met (Some b) = refl

-- ---- words that it took

-- they are a command's name and a line, which the matches below that name hold
pub record Met (ws : List Text) (name : Text) (below : List Row) : Type 0 where
  pub taken : Taken ws
  pub same : name ≡ taken.first
  pub held : AreHeld (given taken.line) below

-- a subcommand was met, and its name and matches are these
abbrev pub Meets : ArgMatches → Text → List Row → Type 0
Meets m name below = (Some name ≡ subcommand_name_of m) × (Some below ≡ option_map (λ p. p.1) (subcommand_rows_of m))

-- where no fault came, a subcommand was met
entered : (a : App) (ws : List Text) (m : ArgMatches) → a ≡ line_app → AllUtf8 ws → (is_simple_and_free a ≡ true → fault_of a ws ≡ []) → HasMatchesOf a ws m
    → (t : Taken ws) × (subcommand_rows_of m ≡ Some (t.first, t.rows))
entered a ws m is utf8 none has =
    let t = taken ws utf8 (ap (λ b. fault_of b ws) (sym is) ∙ none (ap is_simple_and_free is ∙ line_simple)) in
    (t, (has (ap is_simple is)).1 ∙ ap (λ b. subcommand_of b ws) is ∙ t.met)

pub met : (a : App) (ws : List Text) (m : ArgMatches) (name : Text) (below : List Row) → a ≡ line_app → AllUtf8 ws → (is_simple_and_free a ≡ true → fault_of a ws ≡ [])
    → HasMatchesOf a ws m → Meets m name below → Met ws name below
met a ws m name below is utf8 none has h =
    let t = entered a ws m is utf8 none has in
    let named : Some name ≡ Some t.0.first = h.0 ∙ name_met (out-ArgMatches m).subcommand ∙ ap (option_map (λ p. p.0)) t.1 in
    let held : Some below ≡ Some t.0.rows = h.1 ∙ ap (option_map (λ p. p.1)) t.1 in
    let same : t.0.rows ≡ below = cc in
    record { taken = t.0; same = cc; held = subst (AreHeld (given t.0.line)) same t.0.held }

-- the command that was read is the words'
read_is : (ws : List Text) (t : Taken ws) (c : Command) (name : Text) (g : Given) → name ≡ t.first → g ≡ given t.line → Takes c name g → Words ws c
read_is ws t c name g same gives h =
    subst (λ y. Words y c) (sym t.parts) (t.line, t.is, subst (λ y. Takes c y (given t.line)) same (subst (Takes c name) gives h))

-- and where it is none, neither are they
read_none : (ws : List Text) (t : Taken ws) (name : Text) (g : Given) → name ≡ t.first → g ≡ given t.line
    → ((c : Command) → Takes c name g → ⊥) → (c : Command) → Words ws c → ⊥
read_none ws t name g same gives none c h =
    let w : Words (t.first ∷ t.rest) c = subst (λ y. Words y c) t.parts h in
    let line = w.0 in
    let named = takes_named c t.first (given line) w.2 in
    let one = one_given line t.line t.rest w.1 t.is (fits_all (options named.0) (given line) named.2) t.fits in
    none c (subst (Takes c name) (one ∙ sym gives) (subst (λ y. Takes c y (given line)) (sym same) w.2))

-- the words are what the name and what was read of its matches make
pub record Answers (ws : List Text) (name : Text) (g : Given) : Type 0 where
  pub own : HasOwn name g
  pub read : (c : Command) → Takes c name g → Words ws c
  pub none : ((c : Command) → Takes c name g → ⊥) → (c : Command) → Words ws c → ⊥

pub answers : (ws : List Text) (name : Text) (below : List Row) (g : Given) → Met ws name below → ((h : Given) → AreHeld h below → g ≡ h) → Answers ws name g
answers ws name below g m gives =
    let t = m.taken in
    let same = gives (given t.line) m.held in
    record {
      own = subst (λ n. HasOwn n g) (sym m.same) (subst (HasOwn t.first) (sym same) t.own);
      read = λ c h. read_is ws t c name g m.same same h;
      none = read_none ws t name g m.same same;
    }

-- ---- words that it refused

only_memory : (e : Error) → HasKind [] e → kind_of e ≡ kind.OutOfMemory
only_memory e (inl h) = h
only_memory e (inr h) = absurd h

-- for want of memory, or they are no command
pub refused : (a : App) (ws : List Text) (e : Error) → a ≡ line_app → AllUtf8 ws → (is_simple_and_free a ≡ true → HasKind (fault_of a ws) e)
    → (c : Command) → Words ws c → kind_of e ≡ kind.OutOfMemory
refused a ws e is utf8 fails c h =
    let none = ap (λ b. fault_of b ws) is ∙ no_fault_of ws utf8 c h in
    only_memory e (subst (λ ks. HasKind ks e) none (fails (ap is_simple_and_free is ∙ line_simple)))
