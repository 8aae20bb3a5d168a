-- The write at the place of a name, or the file added for it, gives the name its content.
use Rattle.std.proofs.Common.{◌≡◌, ℕ, List, [], ◌∷◌, ◌++◌, None, Some, sym, ap, ◌∙◌}
use Rattle.std.specs.Prelude.{position}
use Rattle.own_io.specs.declared.memory_folder.File.{File}
use Rattle.own_io.specs.MemoryFolder.{content_of}
use Rattle.own_io.proofs.Files.{named, content_of-set_same, content_of-set_other, content_of-push_same, content_of-push_other}
use Rattle.own_io.proofs.memory_folder.put_file.Goals as goal

pub returns-in-Some-clause-ok : goal.returns-in-Some-clause-ok
returns-in-Some-clause-ok c =
    let at : position (named c.args.name.now) c.args.files.now.items ≡ Some c.in-Some.place =
    sym (c.in-Some.ensures ∙ ap (position (named c.args.name.now)) c.deref.ensures.value) in
    content_of-set_same c.args.files.now.items c.args.name.now c.in_ok-content.content c.in-Some.place c.index_mut.result.now at c.index_mut.ensures.value
    ∙ ap Some c.in_ok-content.ensures

pub returns-in-Some-clause-others : goal.returns-in-Some-clause-others
returns-in-Some-clause-others c = λ other ne.
    let at : position (named c.args.name.now) c.args.files.now.items ≡ Some c.in-Some.place =
    sym (c.in-Some.ensures ∙ ap (position (named c.args.name.now)) c.deref.ensures.value) in
    content_of-set_other c.args.files.now.items c.args.name.now c.in_ok-content.content other c.in-Some.place c.index_mut.result.now at c.index_mut.ensures.value ne

pub returns-in_ok-push-in-None-clause-ok : goal.returns-in_ok-push-in-None-clause-ok
returns-in_ok-push-in-None-clause-ok c =
    let at : position (named c.args.name.now) c.args.files.now.items ≡ None =
    sym (c.in-None.ensures ∙ ap (position (named c.args.name.now)) c.deref.ensures.value) in
    ap (λ (files : List File). content_of files c.args.name.now) c.in_ok-push-in-None.ensures.items
    ∙ ap (λ (n : List ℕ). content_of (c.args.files.now.items ++ record { name = n; content = c.in_ok-content.content } ∷ []) c.args.name.now) c.in_ok-name-in-None.ensures
    ∙ content_of-push_same c.args.files.now.items c.args.name.now c.in_ok-content.content at
    ∙ ap Some c.in_ok-content.ensures

pub returns-in_ok-push-in-None-clause-others : goal.returns-in_ok-push-in-None-clause-others
returns-in_ok-push-in-None-clause-others c = λ other ne.
    ap (λ (files : List File). content_of files other) c.in_ok-push-in-None.ensures.items
    ∙ ap (λ (n : List ℕ). content_of (c.args.files.now.items ++ record { name = n; content = c.in_ok-content.content } ∷ []) other) c.in_ok-name-in-None.ensures
    ∙ content_of-push_other c.args.files.now.items c.args.name.now c.in_ok-content.content other ne
