use Rattle.std.proofs.Common.{false, ◌+◌, length, get_or, ap, sym, ◌∙◌, subst, arith}
use Rattle.std.proofs.lemmas.Option.{slice_get-get_or}
use Rattle.std.specs.Prelude.{◌↔◌}
use Rattle.own_tree.specs.declared.graph.Maker.{Maker}
use Rattle.own_flow.specs.Words.{Has}
use Rattle.own_flow.proofs.TableLaws.{IsOfFirst, fill_yes, fill_no, of_all, by_both}
use Rattle.own_flow.proofs.round.fill.Goals as goal
use Rattle.own_flow.proofs.round.fill.Goals.{then-pairs-maker, else-pairs-maker}

abbrev nobody : Maker
nobody = record { node = 0; leaf = 0; live = false }

pub pairs-init : goal.pairs-init
pairs-init c = record { len = c.clear.ensures.len; has = λ m. (λ h. absurd (c.clear.ensures.none m h), λ h. absurd (omega (arith, h.1))) }

pub insert-requires : goal.insert-requires
insert-requires c = omega (arith, c.pairs.invariant.len, c.requires, c.pairs-test.true)

pub pairs-preserved : goal.pairs-preserved
pairs-preserved c =
    let pairs = c.args.pairs.now in let k = c.pairs.maker in let leaf = c.args.leaf in let pair = get_or pairs k nobody in
    let at = slice_get-get_or pairs k nobody c.pairs-test.true in
    elim c.if-pairs-maker.branch [
      | then-pairs-maker w ↦ record {
        len = ap length w.mask-is ∙ w.insert.ensures.len ∙ c.pairs.invariant.len;
        has = λ m. subst (λ s. Has s m ↔ IsOfFirst pairs (k + 1) m leaf) (sym w.mask-is)
            (fill_yes pairs k pair at c.pairs.mask w.insert.new.self leaf w.if-pairs-maker.true w.insert.ensures.has c.pairs.invariant.has m);
      }
      | else-pairs-maker w ↦ record {
        len = ap length w.mask-is ∙ c.pairs.invariant.len;
        has = λ m. subst (λ s. Has s m ↔ IsOfFirst pairs (k + 1) m leaf) (sym w.mask-is) (fill_no pairs k pair at c.pairs.mask leaf w.if-pairs-maker.false c.pairs.invariant.has m);
      }
    ]

pub returns-clause-len : goal.returns-clause-len
returns-clause-len c = c.pairs.invariant.len

pub returns-clause-has : goal.returns-clause-has
returns-clause-has c = λ m. by_both (c.pairs.invariant.has m) (of_all c.args.pairs.now c.pairs.maker m c.args.leaf c.pairs-test.false)
