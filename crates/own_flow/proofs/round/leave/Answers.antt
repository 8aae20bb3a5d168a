use Rattle.std.proofs.Common.{false, ◌+◌, length, get_or, ap, sym, ◌∙◌, subst, refl}
use Rattle.std.proofs.lemmas.Option.{slice_get-get_or}
use Rattle.std.specs.Prelude.{◌↔◌}
use Rattle.own_tree.specs.declared.graph.Maker.{Maker}
use Rattle.own_flow.specs.Words.{Has}
use Rattle.own_flow.proofs.RoundLaws.{IsLeftFirst, left_none, left_step, left_other, left_all}
use Rattle.own_flow.proofs.TableLaws.{by_both}
use Rattle.own_flow.proofs.round.leave.Goals as goal
use Rattle.own_flow.proofs.round.leave.Goals.{then-pair-node, else-pair-node}

abbrev nobody : Maker
nobody = record { node = 0; leaf = 0; live = false }

pub pairs-init : goal.pairs-init
pairs-init c = record {
  len = ap length c.assign.ensures ∙ c.requires.row ∙ sym c.requires.out;
  mask_len = refl;
  has = λ m. subst (λ s. Has s m ↔ IsLeftFirst c.args.pairs.now c.args.leaves c.args.node c.args.row.now c.args.leaves m) (sym c.assign.ensures)
      (left_none c.args.pairs.now c.args.leaves c.args.node c.args.row.now m);
}

pub fill-requires : goal.fill-requires
fill-requires c = c.pairs.invariant.mask_len ∙ c.requires.mask

pub remove-requires : goal.remove-requires
remove-requires c = c.pairs.invariant.len ∙ c.requires.out ∙ sym (c.fill.ensures.len ∙ c.pairs.invariant.mask_len ∙ c.requires.mask)

pub pairs-preserved : goal.pairs-preserved
pairs-preserved c =
    let pairs = c.args.pairs.now in let k = c.pairs.maker in let row = c.args.row.now in let pair = get_or pairs k nobody in
    let at = slice_get-get_or pairs k nobody c.pairs-test.true in
    elim c.if-pair-node.branch [
      | then-pair-node w ↦ record {
        len = ap length w.out-is ∙ w.remove.ensures.len ∙ c.pairs.invariant.len;
        mask_len = ap length w.mask-is ∙ w.fill.ensures.len ∙ c.pairs.invariant.mask_len;
        has = λ m. subst (λ s. Has s m ↔ IsLeftFirst pairs c.args.leaves c.args.node row (k + 1) m) (sym w.out-is)
            (left_step pairs c.args.leaves c.args.node row k pair c.pairs.auto.maker at w.fill.new.mask c.pairs.out w.remove.new.self w.if-pair-node.true w.fill.ensures.has w.remove.ensures.has c.pairs.invariant.has m);
      }
      | else-pair-node w ↦ record {
        len = ap length w.out-is ∙ c.pairs.invariant.len;
        mask_len = ap length w.mask-is ∙ c.pairs.invariant.mask_len;
        has = λ m. subst (λ s. Has s m ↔ IsLeftFirst pairs c.args.leaves c.args.node row (k + 1) m) (sym w.out-is)
            (left_other pairs c.args.leaves c.args.node row k pair c.pairs.auto.maker at c.pairs.out w.if-pair-node.false c.pairs.invariant.has m);
      }
    ]

pub returns-clause-len : goal.returns-clause-len
returns-clause-len c = c.pairs.invariant.len

pub returns-clause-mask_len : goal.returns-clause-mask_len
returns-clause-mask_len c = c.pairs.invariant.mask_len

pub returns-clause-has : goal.returns-clause-has
returns-clause-has c = λ m. by_both (c.pairs.invariant.has m) (left_all c.args.pairs.now c.args.leaves c.args.node c.args.row.now c.pairs.maker m c.pairs-test.false)
