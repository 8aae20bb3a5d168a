-- The laws that contracts cite.
use Rattle.std.specs.Prelude.{List}
use Rattle.std.proofs.Common.{refl, sym, subst, arith}
use Rattle.own_tree.specs.Source.{File}
use Rattle.own_tree.specs.TypedSource.{Program}
use Rattle.own_shapes.specs.Types.{types_of}
use Rattle.own_table.specs.Table.{AreWhole}
use Rattle.own_judging.specs.Made.{Made, nothing_made}
use Rattle.own_judged.specs.Text.{Text, Entry, entries, text_of}
use Rattle.own_judged.specs.Typing.{all_bodies, program_of}
use Rattle.own_known.specs.Known.{ProgramKnown}
use Rattle.own_known.specs.Laws.{TypedProgramsAreKnown}
use Rattle.own_known.proofs.BodiesKnown.{bodies_known}
use Rattle.own_known.proofs.Numbered.{declarations_are, function_is, method_is, initializer_is}
use Rattle.own_known.proofs.Sure.{Later}
use Rattle.own_known.proofs.TextsKnown.{texts_known, all_here}

module _ (file : File) (whole : AreWhole (types_of file)) (made : Made) where
  abbrev text : Text
  text = text_of file

  abbrev program : Program
  program = program_of text file made

  abbrev all_entries : List Entry
  all_entries = entries text.written text.signatures 0 0 file.declarations

  made_known : (all_bodies file).holds nothing_made tt made → ProgramKnown text program
  made_known holds =
      let texts = texts_known file whole made in
      let here = all_here file whole made in
      let later : Later text program nothing_made made = ((λ x b le e. e), λ k body le e. e) in
      let sure = ((bodies_known text program texts 0 file.declarations here).is nothing_made tt made holds later).1 in
      let are = declarations_are text program texts 0 0 file.declarations nothing_made made holds refl later here in
      record {
        bodies = λ k body e. sure.1 k body (omega arith) e;
        bindings = λ x b e. sure.0 x b (omega arith) e;
        functions = λ name c e. function_is text program texts all_entries name c are e;
        methods = λ t name m e. method_is text program texts all_entries t name m are e;
        initializers = λ t c e. initializer_is text program texts all_entries t c are e;
      }

pub typed_programs_are_known : TypedProgramsAreKnown
typed_programs_are_known file p whole typing =
    subst (ProgramKnown (text_of file)) (sym typing.2) (made_known file whole typing.0 typing.1)
