-- The block of a body with a result, which may be one expression.
use Rattle.std.proofs.Common.{◌≡◌, true, false, map, refl, sym, ap, ◌∙◌}
use Rattle.own_tree.specs.declared.typed.TypedBlock.{TypedBlock}
use Rattle.own_tree.specs.TypedView.{Cla, stmt_step, block_step, clause_step, stms_of, stmt_view, block_view}
use Rattle.own_tree.specs.declared.typed.At.{At}
use Rattle.own_tree.specs.TypedSource.{TStm, let_in, declare, ignore, assign, update, discard_self, if_then, if_else, else_if, loop_while, loop_repeat, loop_for, switch, leave, go_on, return_none, return_value, evaluate, TStms, no_stms, stm, TBlk, block, Program}
use Rattle.own_tree.specs.declared.typed.TypedStmt.TheFolds.{fold_out-TypedBlock}
use Rattle.own_paths.specs.Ops.{returning}
use Rattle.own_shapes.specs.Types.{Types}
use Rattle.own_uses.specs.Building.{only_value, returned_or_block}

block_is : (b : TypedBlock) → block_view b ≡ block b.at (stms_of (map stmt_view b.statements))
block_is b = fold_out-TypedBlock TStm TBlk Cla stmt_step block_step clause_step b

module _ (types : Types) (program : Program) where
  several : (node : At) (s t : TStm) (ss : TStms) → returned_or_block types program (block node (stm s (stm t ss))) (only_value (stm s (stm t ss))) ≡ returning types program true (block node (stm s (stm t ss)))
  several node (let_in at x e) t ss = refl
  several node (declare at x) t ss = refl
  several node (ignore at e) t ss = refl
  several node (assign at p e) t ss = refl
  several node (update at p o mark e) t ss = refl
  several node (discard_self at p) t ss = refl
  several node (if_then at c a) t ss = refl
  several node (if_else at c a b) t ss = refl
  several node (else_if at c a s) t ss = refl
  several node (loop_while at c a) t ss = refl
  several node (loop_repeat at a c) t ss = refl
  several node (loop_for at x low o mark high a) t ss = refl
  several node (switch at e cs) t ss = refl
  several node (leave at) t ss = refl
  several node (go_on at) t ss = refl
  several node (return_none at) t ss = refl
  several node (return_value at e) t ss = refl
  several node (evaluate at e) t ss = refl

  single : (node : At) (s : TStm) → returned_or_block types program (block node (stm s no_stms)) (only_value (stm s no_stms)) ≡ returning types program true (block node (stm s no_stms))
  single node (let_in at x e) = refl
  single node (declare at x) = refl
  single node (ignore at e) = refl
  single node (assign at p e) = refl
  single node (update at p o mark e) = refl
  single node (discard_self at p) = refl
  single node (if_then at c a) = refl
  single node (if_else at c a b) = refl
  single node (else_if at c a s) = refl
  single node (loop_while at c a) = refl
  single node (loop_repeat at a c) = refl
  single node (loop_for at x low o mark high a) = refl
  single node (switch at e cs) = refl
  single node (leave at) = refl
  single node (go_on at) = refl
  single node (return_none at) = refl
  single node (return_value at e) = refl
  single node (evaluate at e) = refl

  pub returning_value : (node : At) (ss : TStms) → returned_or_block types program (block node ss) (only_value ss) ≡ returning types program true (block node ss)
  returning_value node no_stms = refl
  returning_value node (stm s no_stms) = single node s
  returning_value node (stm s (stm t ss)) = several node s t ss

  pub block_value : (b : TypedBlock) → returned_or_block types program (block_view b) (only_value (stms_of (map stmt_view b.statements))) ≡ returning types program true (block_view b)
  block_value b =
      let ss = stms_of (map stmt_view b.statements) in
      ap (λ v. returned_or_block types program v (only_value ss)) (block_is b) ∙ returning_value b.at ss ∙ sym (ap (returning types program true) (block_is b))
