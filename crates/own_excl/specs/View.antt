-- What the data of this crate stands for.
use Rattle.std.specs.Prelude.{List, map, Option, option_map}
use Rattle.own_tree.specs.declared.finding.Finding.{Finding}
use Rattle.own_tree.specs.declared.place.Place.{Place}
use Rattle.own_tree.specs.TypedSource.{Program}
use Rattle.own_tree.specs.TypedView.{program_view}
use Rattle.own_paths.specs.Fixed.{Access, access, place_of, broken}
use Rattle.own_shapes.specs.Types.{Types}
use Rattle.own_table.specs.Table.{types_in}
use Rattle.own_excl.specs.declared.access.Access as held
use Rattle.own_excl.specs.declared.breaks.Break.{Break}
use Rattle.own_excl.specs.declared.change.Change.{Change}
use Rattle.own_excl.specs.declared.places.PlaceRef.{PlaceRef}
use Rattle.own_excl.specs.declared.walk.Walk.{Walk}
use Rattle.own_excl.specs.Changes.{Changed, changed}

abbrev pub place_view : PlaceRef → Place
place_view p = place_of p.binding p.fields.now

abbrev pub change_view : Change → Changed
change_view c = changed c.kind (place_view c.place) c.span

abbrev pub changes_view : List Change → List Changed
changes_view cs = map change_view cs

abbrev pub access_view : held.Access → Access
access_view a = access a.change (place_view a.place) a.span

abbrev pub accesses_view : List held.Access → List Access
accesses_view as' = map access_view as'

abbrev pub break_view : Break → Finding
break_view b = broken b.rule b.span (place_view b.place) b.cause

abbrev pub breaks_view : List Break → List Finding
breaks_view bs = map break_view bs

abbrev pub last_view : Option Break → Option Finding
last_view = option_map break_view

abbrev pub types_for : Walk → Types
types_for w = types_in w.table.now

abbrev pub program_for : Walk → Program
program_for w = program_view w.typed.now
