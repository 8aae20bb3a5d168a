-- The words of a command line are text, and so are the names of files that they give.
use Rattle.std.proofs.Common.{◌≡◌, ℕ, ◌<◌, ℤ, Bool, true, false, List, [], ◌∷◌, ◌++◌, length, map, Option, Some, None, refl, subst, arith}
use Rattle.std.specs.Prelude.{◌==◌, if◌then◌else◌, IsUtf8, ⊤, codes}
use Rattle.std.proofs.lemmas.Bool.{eqb-true}
use Rattle.std.proofs.lemmas.Str.{IsUtf8-drop, IsCharBoundary-after_ascii}
use Rattle.own_tree.specs.declared.command.Command.{Command}
use Rattle.own_tree.specs.declared.command.Command.TheVariants as command
use Rattle.own_words.specs.Words.{Text, Part, plain, steps_next, steps_joined, out_next, out_joined, trace, behind_words, all_written, words, outs, without_equals, Given, given, given_behind, given_in, IsName, IsNameIfAny, AreInputs, Takes, Words}
use Rattle.own_tool.specs.Headline.{IsTextIfAny}
use Rattle.own_tool.specs.Commands.{NamesText}

abbrev pub AllText : List Text → Type 0
AllText [] = ⊤
AllText (w ∷ ws) = IsUtf8 w × AllText ws

pub words_are_text : {S : Type 0} (bytes : S → Text) → ((s : S) → IsUtf8 (bytes s)) → (ws : List S) → AllText (map bytes ws)
words_are_text bytes h [] = tt
words_are_text bytes h (w ∷ ws) = (h w, words_are_text bytes h ws)

behind_are_text : (behind : Option (List Text)) → AllText (behind_words behind) → AllText (given_behind words behind)
behind_are_text None t = t
behind_are_text (Some ws) t = t.1

given_are_text : (parts : List Part) (behind : Option (List Text)) → AllText (all_written parts (behind_words behind)) → AllText (given_in words parts behind)
given_are_text [] behind t = behind_are_text behind t
given_are_text (plain w ∷ parts) behind t = (t.0, given_are_text parts behind t.1)
given_are_text (steps_next value ∷ parts) behind t = given_are_text parts behind t.1.1
given_are_text (steps_joined value ∷ parts) behind t = given_are_text parts behind t.1
given_are_text (out_next value ∷ parts) behind t = given_are_text parts behind t.1.1
given_are_text (out_joined value ∷ parts) behind t = given_are_text parts behind t.1
given_are_text (trace ∷ parts) behind t = given_are_text parts behind t.1

-- ---- names that modules are saved under

-- what follows a byte below 128
behind_ascii : (b : ℕ) (rest : Text) → b < 128 → IsUtf8 (b ∷ rest) → IsUtf8 rest
behind_ascii b rest low u = IsUtf8-drop (b ∷ rest) 1 u (IsCharBoundary-after_ascii (b ∷ rest) 0 u (omega arith) low)

value_is_text : (value : Text) → IsUtf8 (codes "-o" ++ value) → IsUtf8 value
value_is_text value u = behind_ascii 111 value (omega arith) (behind_ascii 45 (111 ∷ value) (omega arith) u)

without_equals_is_text : (value : Text) → IsUtf8 value → IsUtf8 (without_equals value)
without_equals_is_text [] u = u
without_equals_is_text (b ∷ rest) u =
    let P : Bool → Type 0 = λ t. (b == 61) ≡ t → IsUtf8 (if t then rest else b ∷ rest) in
    elim (b == 61) as P [
      | true ↦ λ is. let same : b ≡ 61 = eqb-true b 61 is in behind_ascii b rest (omega (arith, same)) u
      | false ↦ λ other. u
    ] refl

no_outs_behind : (behind : Option (List Text)) → AllText (given_behind outs behind)
no_outs_behind None = tt
no_outs_behind (Some ws) = tt

outs_are_text : (parts : List Part) (behind : Option (List Text)) → AllText (all_written parts (behind_words behind)) → AllText (given_in outs parts behind)
outs_are_text [] behind t = no_outs_behind behind
outs_are_text (plain w ∷ parts) behind t = outs_are_text parts behind t.1
outs_are_text (steps_next value ∷ parts) behind t = outs_are_text parts behind t.1.1
outs_are_text (steps_joined value ∷ parts) behind t = outs_are_text parts behind t.1
outs_are_text (out_next value ∷ parts) behind t = (t.1.0, outs_are_text parts behind t.1.1)
outs_are_text (out_joined value ∷ parts) behind t = (without_equals_is_text value (value_is_text value t.0), outs_are_text parts behind t.1)
outs_are_text (trace ∷ parts) behind t = outs_are_text parts behind t.1

-- ---- commands

name_is_text : (texts : List Text) (file : Text) → AllText texts → IsName texts file → IsUtf8 file
name_is_text texts file t is = let u : AllText (file ∷ []) = subst AllText is.0 t in u.0

input_is_text : (texts : List Text) (file : Text) (input : List ℤ) → AllText texts → AreInputs texts file input → IsUtf8 file
input_is_text [] file input t are = absurd are
input_is_text (text ∷ texts) file input t are = subst IsUtf8 are.0 t.0

saved_is_text : (texts : List Text) (saved : Option Text) → AllText texts → IsNameIfAny texts saved → IsTextIfAny saved
saved_is_text texts None t is = tt
saved_is_text texts (Some name) t is = name_is_text texts name t is

taken_is_text : (c : Command) (first : Text) (g : Given) → AllText (g words) → AllText (g outs) → Takes c first g → NamesText c
taken_is_text (command.Check file) first g t o h = name_is_text (g words) file t h.1
taken_is_text (command.Build file out traced) first g t o h = (name_is_text (g words) file t h.1, name_is_text (g outs) out o h.3)
taken_is_text (command.Run file out n traced input) first g t o h = (input_is_text (g words) file input t h.1, saved_is_text (g outs) out o h.3)
taken_is_text (command.Exec file n input) first g t o h = input_is_text (g words) file input t h.1
taken_is_text (command.Selftest number size) first g t o h = tt

pub names_text : (ws : List Text) (c : Command) → AllText ws → Words ws c → NamesText c
names_text [] c t h = absurd h
names_text (first ∷ rest) c t h =
    let written : AllText (all_written h.0.parts (behind_words h.0.behind)) = subst AllText h.1.1 t.1 in
    taken_is_text c first (given h.0) (given_are_text h.0.parts h.0.behind written) (outs_are_text h.0.parts h.0.behind written) h.2
