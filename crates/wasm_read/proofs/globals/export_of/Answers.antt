use Rattle.std.proofs.Common.{◌≡◌, List, ◌∷◌, [], ◌++◌}
use Rattle.wasm_form.specs.declared.module.Export.{Export}
use Rattle.wasm_read.specs.Names.{AreNames}
use Rattle.wasm_read.proofs.NameSet.{again, first, absent, are_joined, if_ok}
use Rattle.wasm_read.proofs.globals.export_of.Goals as goal

pub returns-then-not-branch-clause-gives : goal.returns-then-not-branch-clause-gives
returns-then-not-branch-clause-gives c = λ before are. rw c.at.ensures (again c.args.counts c.args.names.now.keys before c.in_ok-name.name c.args.bytes.now c.in_ok-name.rest.now c.in_ok-insert.field-0 are c.in_ok-name.ensures c.in_ok-insert.ensures.added c.if-not-branch.true)

pub returns-clause-gives : goal.returns-clause-gives
returns-clause-gives c = λ before are. rw (first c.args.counts c.args.names.now.keys before c.in_ok-name.name c.args.bytes.now c.in_ok-name.rest.now c.in_ok-insert.field-0 are c.in_ok-name.ensures c.in_ok-insert.ensures.added c.if-not-branch.false) c.exported_of.ensures.gives

pub returns-clause-joins : goal.returns-clause-joins
returns-clause-joins c =
    if_ok c.exported_of.result (λ x. x.0.name ≡ c.in_ok-name.name.now) (λ x. (before : List Export) → AreNames c.args.names.now.keys before → AreNames c.insert.new.self.keys (before ++ x.0 ∷ []))
    (λ x named before are. rw c.in_ok-insert.ensures.keys (are_joined c.args.names.now.keys before c.in_ok-name.name x.0 are named (absent c.args.counts c.args.names.now.keys before c.in_ok-name.name c.args.bytes.now c.in_ok-name.rest.now c.in_ok-insert.field-0 are c.in_ok-name.ensures c.in_ok-insert.ensures.added c.if-not-branch.false)))
    c.exported_of.ensures.named
