use Rattle.std.proofs.Common.{false, ◌+◌, ◌<◌, [], ◌∷◌, ◌++◌, length, get_or, set, ap, sym, ◌∙◌, subst, arith}
use Rattle.std.proofs.lemmas.Option.{slice_get-get_or}
use Rattle.std.specs.Prelude.{◌↔◌, Contains}
use Rattle.own_tree.specs.declared.graph.Maker.{Maker}
use Rattle.own_flow.specs.declared.made.Made.{Made}
use Rattle.own_flow.specs.Flow.{made_at}
use Rattle.own_flow.proofs.FlowLaws.{any_default}
use Rattle.own_flow.proofs.TableLaws.{IsMadeFirst, list_step, made_all, by_both}
use Rattle.own_flow.proofs.tables.makers_at.Goals as goal

abbrev nobody : Maker
nobody = record { node = 0; leaf = 0; live = false }

pub pairs-init : goal.pairs-init
pairs-init c = record {
  len = c.in_ok-at.ensures.len;
  made = λ u x. (λ h. absurd (c.in_ok-at.ensures.none u x h), λ h. absurd (omega (arith, h.0.0, h.1)));
}

pub index_mut-requires : goal.index_mut-requires
index_mut-requires c =
    let low = c.requires c.pairs.maker nobody c.pairs-test.true in omega (arith, low, c.pairs.invariant.len)

pub pairs-preserved : goal.pairs-preserved
pairs-preserved c =
    let pairs = c.args.pairs.now in let k = c.pairs.maker in let pair = get_or pairs k nobody in let at = c.pairs.at.items in
    let low : pair.node < length at = let n = c.requires k nobody c.pairs-test.true in omega (arith, n, c.pairs.invariant.len) in
    let mine : Made = record { maker = k; leaf = pair.leaf } in
    let read = c.index_mut.ensures.value ∙ any_default at pair.node c.index_mut.result.now [] low in
    let is = c.in_ok-push.ensures.ok ∙ ap (λ l. l ++ mine ∷ []) read in
    record {
      len = c.pairs.invariant.len;
      made = λ u x. subst (λ l. Contains (made_at (set at pair.node l) u) x ↔ IsMadeFirst pairs c.args.leaves (k + 1) u x.maker x.leaf) (sym is)
          (list_step pairs k pair (slice_get-get_or pairs k nobody c.pairs-test.true) c.args.leaves at c.pairs.auto.maker low c.pairs.invariant.made u x);
    }

pub returns-clause-len : goal.returns-clause-len
returns-clause-len c = c.pairs.invariant.len

pub returns-clause-made : goal.returns-clause-made
returns-clause-made c = λ u x. by_both (c.pairs.invariant.made u x) (made_all c.args.pairs.now c.args.leaves c.pairs.maker u x.maker x.leaf c.pairs-test.false)
