use Rattle.std.proofs.Common.{false, ◌+◌, ◌⊎◌, inl, inr, length, get_or, ap, sym, ◌∙◌, subst, refl, arith}
use Rattle.std.proofs.lemmas.Option.{slice_get-get_or}
use Rattle.std.specs.Prelude.{◌↔◌}
use Rattle.own_tree.specs.declared.graph.Maker.{Maker}
use Rattle.own_flow.specs.Words.{Has}
use Rattle.own_flow.proofs.RoundLaws.{IsAddedFirst, added_none, added_step, added_other, none_elsewhere, none_meets, added_all}
use Rattle.own_flow.proofs.round.add.Goals as goal
use Rattle.own_flow.proofs.round.add.Goals.{then-pair-node+then-meets, then-pair-node+else-meets, else-pair-node}

abbrev nobody : Maker
nobody = record { node = 0; leaf = 0; live = false }

pub pairs-init : goal.pairs-init
pairs-init c = record {
  len = refl;
  mask_len = refl;
  has = λ m. (λ h. inl h, λ h. elim h [ inl first ↦ first | inr a ↦ absurd (added_none c.args.pairs.now c.args.leaves c.args.node c.args.row.now m a) ]);
}

pub fill-requires : goal.fill-requires
fill-requires c = c.pairs.invariant.mask_len ∙ c.requires.mask

pub meets-requires : goal.meets-requires
meets-requires c = c.requires.row ∙ sym (c.fill.ensures.len ∙ c.pairs.invariant.mask_len ∙ c.requires.mask)

pub insert-requires : goal.insert-requires
insert-requires c = omega (arith, c.pairs.invariant.len, c.requires.out, c.pairs-test.true)

pub pairs-preserved : goal.pairs-preserved
pairs-preserved c =
    let pairs = c.args.pairs.now in let k = c.pairs.maker in let row = c.args.row.now in let leaves = c.args.leaves in let node = c.args.node in
    let first = c.args.out.now in let pair = get_or pairs k nobody in
    let at = slice_get-get_or pairs k nobody c.pairs-test.true in
    elim c.if-pair-node.branch [
      | then-pair-node+then-meets w ↦ record {
        len = ap length w.out-is ∙ w.insert.ensures.len ∙ c.pairs.invariant.len;
        mask_len = ap length w.mask-is ∙ w.fill.ensures.len ∙ c.pairs.invariant.mask_len;
        has = λ m. subst (λ s. Has s m ↔ (Has first m ⊎ IsAddedFirst pairs leaves node row (k + 1) m)) (sym w.out-is)
            (added_step pairs leaves node row k pair c.pairs.auto.maker at w.fill.new.mask first c.pairs.out w.insert.new.self w.if-pair-node.true w.fill.ensures.has (w.if-meets.ensures.yes refl) w.insert.ensures.has c.pairs.invariant.has m);
      }
      | then-pair-node+else-meets w ↦ record {
        len = ap length w.out-is ∙ c.pairs.invariant.len;
        mask_len = ap length w.mask-is ∙ w.fill.ensures.len ∙ c.pairs.invariant.mask_len;
        has = λ m. subst (λ s. Has s m ↔ (Has first m ⊎ IsAddedFirst pairs leaves node row (k + 1) m)) (sym w.out-is)
            (added_other pairs leaves node row k pair c.pairs.auto.maker at first c.pairs.out
            (none_meets pairs leaves node row k pair c.pairs.auto.maker at w.fill.new.mask w.fill.ensures.has (w.if-meets.ensures.no refl)) c.pairs.invariant.has m);
      }
      | else-pair-node w ↦ record {
        len = ap length w.out-is ∙ c.pairs.invariant.len;
        mask_len = ap length w.mask-is ∙ c.pairs.invariant.mask_len;
        has = λ m. subst (λ s. Has s m ↔ (Has first m ⊎ IsAddedFirst pairs leaves node row (k + 1) m)) (sym w.out-is)
            (added_other pairs leaves node row k pair c.pairs.auto.maker at first c.pairs.out (none_elsewhere pairs leaves node row k pair c.pairs.auto.maker at w.if-pair-node.false) c.pairs.invariant.has m);
      }
    ]

pub returns-clause-len : goal.returns-clause-len
returns-clause-len c = c.pairs.invariant.len

pub returns-clause-mask_len : goal.returns-clause-mask_len
returns-clause-mask_len c = c.pairs.invariant.mask_len

pub returns-clause-has : goal.returns-clause-has
returns-clause-has c = λ m.
    let all = added_all c.args.pairs.now c.args.leaves c.args.node c.args.row.now c.pairs.maker m c.pairs-test.false in
    let done = c.pairs.invariant.has m in (
      λ h. elim (done.0 h) [ inl first ↦ inl first | inr a ↦ inr (all.0 a) ],
      λ h. done.1 (elim h [ inl first ↦ inl first | inr a ↦ inr (all.1 a) ]),
    )
