-- What the matches of a command hold.
use Rattle.std.specs.Prelude.{◌≡◌, ◌⊎◌, ◌≤◌, List, [], ◌∷◌, Option, Some, None, codes, find, length, option_map}
use Rattle.std.specs.Str.{bytes_eq}
use Rattle.clap.specs.Walk.{Row}
use Rattle.clap.specs.declared.builder.value_parser.Reading.{Reading}
use Rattle.clap.specs.declared.builder.value_parser.Reading.TheVariants.{AsWritten}
use Rattle.own_words.specs.Words.{Text, Kind, words, steps, outs, traces, Given}

-- the values of an id, and how they are read
abbrev pub Entry : Type 0
Entry = Option (List Text × Reading)

abbrev pub shown_row : Row → List Text × Reading
shown_row r = (r.values, r.reading)

abbrev pub entry : Text → List Row → Entry
entry id rows = option_map shown_row (find (λ r. bytes_eq r.id id) rows)

-- values as they were written
abbrev pub shown : List Text → Entry
shown [] = None
shown (v ∷ vs) = Some (v ∷ vs, AsWritten)

abbrev pub id_of : Kind → Text
id_of words = codes "words"
id_of steps = codes "steps"
id_of outs = codes "out"
id_of traces = codes "trace"

-- the value of `--trace`, or its default
abbrev pub IsTraced : List Text → Entry → Type 0
IsTraced texts e = ((texts ≡ []) × ((e ≡ None) ⊎ (e ≡ shown (codes "false" ∷ []))))
    ⊎ ((texts ≡ codes "true" ∷ []) × (e ≡ shown (codes "true" ∷ [])))

-- the rows are what was given, each option once at most
pub record AreHeld (g : Given) (rows : List Row) : Type 0 where
  pub plain_words : entry (id_of words) rows ≡ shown (g words)
  pub step_count : entry (id_of steps) rows ≡ shown (g steps)
  pub out : entry (id_of outs) rows ≡ shown (g outs)
  pub trace : IsTraced (g traces) (entry (id_of traces) rows)
  pub one_steps : length (g steps) ≤ 1
  pub one_out : length (g outs) ≤ 1
