use Rattle.std.proofs.Common.{false, ◌+◌, ◌<◌, [], ◌∷◌, ◌++◌, length, get_or, set, ap, sym, ◌∙◌, subst, arith}
use Rattle.std.proofs.lemmas.Option.{slice_get-get_or}
use Rattle.std.specs.Prelude.{◌↔◌, Contains}
use Rattle.own_tree.specs.declared.graph.Maker.{Maker}
use Rattle.own_flow.proofs.FlowLaws.{any_default}
use Rattle.own_flow.proofs.TableLaws.{IsOfFirst}
use Rattle.own_rules.specs.Bodies.{makers_of}
use Rattle.own_rules.proofs.ByLeaf.{maker_step, makers_all}
use Rattle.own_rules.proofs.by_leaf.by_leaf.Goals as goal

abbrev nobody : Maker
nobody = record { node = 0; leaf = 0; live = false }

pub pairs-init : goal.pairs-init
pairs-init c = record {
  len = c.in_ok-lists.ensures.len;
  has = λ u p. (λ h. absurd (c.in_ok-lists.ensures.none u p h), λ h. absurd (omega (arith, h.1)));
}

pub index_mut-requires : goal.index_mut-requires
index_mut-requires c =
    let low = c.requires.of_leaves c.pairs.maker nobody c.pairs-test.true in omega (arith, low, c.pairs.invariant.len)

pub pairs-preserved : goal.pairs-preserved
pairs-preserved c =
    let pairs = c.args.pairs.now in let k = c.pairs.maker in let pair = get_or pairs k nobody in let lists = c.pairs.lists.items in
    let low : pair.leaf < length lists = let n = c.requires.of_leaves k nobody c.pairs-test.true in omega (arith, n, c.pairs.invariant.len) in
    let read = c.index_mut.ensures.value ∙ any_default lists pair.leaf c.index_mut.result.now [] low in
    let is = c.in_ok-push.ensures.ok ∙ ap (λ l. l ++ k ∷ []) read in
    record {
      len = c.pairs.invariant.len;
      has = λ u p. subst (λ l. Contains (makers_of (set lists pair.leaf l) u) p ↔ IsOfFirst pairs (k + 1) p u) (sym is)
          (maker_step pairs k pair (slice_get-get_or pairs k nobody c.pairs-test.true) lists low c.pairs.invariant.has u p);
    }

pub returns-clause-len : goal.returns-clause-len
returns-clause-len c = c.pairs.invariant.len

pub returns-clause-has : goal.returns-clause-has
returns-clause-has c = λ l p.
    let one = c.pairs.invariant.has l p in let two = makers_all c.args.pairs.now c.pairs.maker l p c.pairs-test.false in
    (λ h. two.0 (one.0 h), λ h. one.1 (two.1 h))
