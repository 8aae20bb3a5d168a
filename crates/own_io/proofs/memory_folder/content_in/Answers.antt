-- The content of a name stands at its place.
use Rattle.std.proofs.Common.{ap, sym, ◌∙◌, Some}
use Rattle.own_io.proofs.Files.{content_of_placed, content_of_unplaced}
use Rattle.own_io.proofs.memory_folder.content_in.Goals as goal

pub returns-in-Some : goal.returns-in-Some
returns-in-Some c =
    ap Some c.as_slice.ensures
    ∙ sym (content_of_placed c.args.files.now c.args.name.now c.in-Some.place c.index-files-place.result (sym c.in-Some.ensures))

pub returns-in-None : goal.returns-in-None
returns-in-None c = sym (content_of_unplaced c.args.files.now c.args.name.now (sym c.in-None.ensures))
