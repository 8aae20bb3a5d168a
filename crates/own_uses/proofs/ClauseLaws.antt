-- The clauses of a `switch`, one after another.
use Rattle.std.proofs.Common.{◌≡◌, ℕ, ◌+◌, ◌<◌, List, [], ◌∷◌, ◌++◌, map, drop, length, get_or, refl, sym, ap, ◌∙◌, append_assoc}
use Rattle.std.proofs.lemmas.List.{drop_more, map_push}
use Rattle.own_tree.specs.declared.op.OpTree.{OpTree}
use Rattle.own_tree.specs.declared.typed.At.{At}
use Rattle.own_tree.specs.declared.typed.TypedClause.{TypedClause}
use Rattle.own_tree.specs.declared.typed.TypedStmt.TheFolds.{fold_out-TypedClause}
use Rattle.own_tree.specs.OpView.{op_view}
use Rattle.own_tree.specs.TypedSource.{TExp, TStm, TBlk, Program}
use Rattle.own_tree.specs.TypedView.{Cla, stmt_step, block_step, clause_step, stms_of, clauses_of, stmt_view, clause_view, head_view}
use Rattle.own_paths.specs.Ops.{stms_ops, clause_ops, clauses_ops}
use Rattle.own_shapes.specs.Types.{Types}

clause_is : (c : TypedClause) → clause_view c ≡ (c.span, head_view c.head, stms_of (map stmt_view c.statements))
clause_is c = fold_out-TypedClause TStm TBlk Cla stmt_step block_step clause_step c

module _ (types : Types) (program : Program) (subject : TExp) (at : At) where
  pub clause_first : (cs : List TypedClause) (i : ℕ) (c : TypedClause) → i < length cs → c ≡ get_or cs i c
      → clauses_ops types program subject at (clauses_of (map clause_view (drop i cs)))
      ≡ clause_ops types program subject at c.span (head_view c.head) (stms_of (map stmt_view c.statements)) (stms_ops types program (stms_of (map stmt_view c.statements)))
      ∷ clauses_ops types program subject at (clauses_of (map clause_view (drop (i + 1) cs)))
  clause_first cs i c within is =
      ap (λ xs. clauses_ops types program subject at (clauses_of (map clause_view xs))) (drop_more cs i c within ∙ ap (λ x. x ∷ drop (i + 1) cs) (sym is))
      ∙ ap (λ (v : Cla). clauses_ops types program subject at (clauses_of (v ∷ map clause_view (drop (i + 1) cs)))) (clause_is c)

  pub clause_more : (trees trees' parts : List OpTree) (tree : OpTree) (cs : List TypedClause) (i : ℕ) (c : TypedClause) → i < length cs → c ≡ get_or cs i c
      → map op_view parts ≡ stms_ops types program (stms_of (map stmt_view c.statements))
      → op_view tree ≡ clause_ops types program subject at c.span (head_view c.head) (stms_of (map stmt_view c.statements)) (map op_view parts)
      → trees' ≡ trees ++ tree ∷ []
      → map op_view trees ++ clauses_ops types program subject at (clauses_of (map clause_view (drop i cs))) ≡ clauses_ops types program subject at (clauses_of (map clause_view cs))
      → map op_view trees' ++ clauses_ops types program subject at (clauses_of (map clause_view (drop (i + 1) cs))) ≡ clauses_ops types program subject at (clauses_of (map clause_view cs))
  clause_more trees trees' parts tree cs i c within is made here pushed so_far =
      let rest = clauses_ops types program subject at (clauses_of (map clause_view (drop (i + 1) cs))) in
      ap (λ ts. map op_view ts ++ rest) pushed ∙ ap (λ ts. ts ++ rest) (map_push op_view trees tree) ∙ append_assoc (map op_view trees) (op_view tree ∷ []) rest
      ∙ ap (λ t. map op_view trees ++ t ∷ rest) (here ∙ ap (clause_ops types program subject at c.span (head_view c.head) (stms_of (map stmt_view c.statements))) made)
      ∙ ap (λ ts. map op_view trees ++ ts) (sym (clause_first cs i c within is)) ∙ so_far
